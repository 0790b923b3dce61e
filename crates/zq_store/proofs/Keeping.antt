-- What holds of a bus between two calls is kept.
use Rattle.std.proofs.Common.{◌≡◌, ◌∙◌, ℕ, ◌+◌, Bool, true, false, not, List, [], ◌∷◌, ◌++◌, Option, Some, None, refl, sym, ap, subst, length, arith}
use Rattle.std.specs.Prelude.{◌==◌, ◌&&◌, Err, IfSome, Ok, OnErr, OnOk, Result, if◌then◌else◌, slice_get, slice_set, suc, unwrap_or, zero}
use Rattle.std.specs.BTreeMap.{is_at}
use Rattle.std.specs.List.{list_all}
use Rattle.std.proofs.lemmas.Bool.{and_parts}
use Rattle.std.proofs.lemmas.List.{length-append, length-set}
use Rattle.zq_index.specs.Texts.{text_cmp}
use Rattle.zq_key.specs.Key.{includes, is_key, is_plain}
use Rattle.zq_local.specs.Seated.{IsSeated}
use Rattle.zq_machine.specs.Configs.{Settings}
use Rattle.zq_store.specs.Held.{Change, delete, put}
use Rattle.zq_store.specs.Stores.{Stored, change_by, changed_store, holds_own, new_store, numbered, refusal_at}
use Rattle.zq_store.specs.Bus.{BusState, IsBus, add_refusal, added, free_face, new_bus, new_refusal, put_refusal, with_change}
use Rattle.zq_store.specs.declared.stores.PutRefusal.{PutRefusal}
use Rattle.zq_store.specs.declared.stores.PutRefusal.TheVariants as unput
use Rattle.zq_store.proofs.Plainness.{all_put, all_removed, both}
use Rattle.zq_store.proofs.Served.{added_served, new_served, seats_changed}

-- ---- lists of storages

-- what the storage at a number is changed to
abbrev Changes : (Stored → Bool) → Change → Type 0
Changes test c = (s : Stored) → test s ≡ true → test (changed_store c s) ≡ true

numbered_put : (n : ℕ) (ss : List Stored) (s : Stored) → numbered n ss ≡ true → s.face.0 ≡ n + length ss → numbered n (ss ++ s ∷ []) ≡ true
numbered_put n [] s h is = at (s.face.0) n (is ∙ none)
  where
    none : n + 0 ≡ n
    none = omega arith

    at : (m k : ℕ) → m ≡ k → ((m == k) && true) ≡ true
    at m k e = grind (arith, e)
numbered_put n (x ∷ ss) s h is =
    let parts = and_parts (x.face.0 == n) (numbered (n + 1) ss) h in
    both (x.face.0 == n) (numbered (n + 1) (ss ++ s ∷ [])) parts.0 (numbered_put (n + 1) ss s parts.1 (is ∙ next))
  where
    next : n + length (x ∷ ss) ≡ n + 1 + length ss
    next = grind (arith)

numbered_changed : (n : ℕ) (ss : List Stored) (i : ℕ) (c : Change) (s : Stored) → slice_get ss i ≡ Some s → numbered n ss ≡ true → numbered n (slice_set ss i (changed_store c s)) ≡ true
numbered_changed n [] i c s is h = refl
numbered_changed n (x ∷ ss) zero c s is h =
    let same : x ≡ s = ap (λ o. unwrap_or o x) is in
    ap (λ (y : Stored). (y.face.0 == n) && numbered (n + 1) ss) (sym same) ∙ h
numbered_changed n (x ∷ ss) (suc i) c s is h =
    let parts = and_parts (x.face.0 == n) (numbered (n + 1) ss) h in
    both (x.face.0 == n) (numbered (n + 1) (slice_set ss i (changed_store c s))) parts.0 (numbered_changed (n + 1) ss i c s is parts.1)

own_changed : (ss : List Stored) (i : ℕ) (c : Change) (s : Stored) → slice_get ss i ≡ Some s → (holds_own s ≡ true → holds_own (changed_store c s) ≡ true) → list_all holds_own ss ≡ true → list_all holds_own (slice_set ss i (changed_store c s)) ≡ true
own_changed [] i c s is own h = refl
own_changed (x ∷ ss) zero c s is own h =
    let same : x ≡ s = ap (λ o. unwrap_or o x) is in
    let parts = and_parts (holds_own x) (list_all holds_own ss) h in
    both (holds_own (changed_store c s)) (list_all holds_own ss) (own (ap holds_own (sym same) ∙ parts.0)) parts.1
own_changed (x ∷ ss) (suc i) c s is own h =
    let parts = and_parts (holds_own x) (list_all holds_own ss) h in
    both (holds_own x) (list_all holds_own (slice_set ss i (changed_store c s))) parts.0 (own_changed ss i c s is own parts.1)

own_put : (ss : List Stored) (s : Stored) → list_all holds_own ss ≡ true → holds_own s ≡ true → list_all holds_own (ss ++ s ∷ []) ≡ true
own_put [] s h k = both (holds_own s) true k refl
own_put (x ∷ ss) s h k =
    let parts = and_parts (holds_own x) (list_all holds_own ss) h in
    both (holds_own x) (list_all holds_own (ss ++ s ∷ [])) parts.0 (own_put ss s parts.1 k)

-- ---- changes of a storage

-- a key that is not refused fits the storage
taken : (key : List ℕ) (s : Stored) → refusal_at key (Some s) ≡ None → (is_plain key && includes s.key key) ≡ true
taken key s h = at (is_plain key) (includes s.key key) h
  where
    at : (a b : Bool) → (if not a then Some unput.NotPlain else (if not b then Some unput.Outside else None)) ≡ None → (a && b) ≡ true
    at true true e = refl
    at true false e = cc
    at false b e = cc

holds_put : (s : Stored) (key value : List ℕ) → refusal_at key (Some s) ≡ None → holds_own s ≡ true → holds_own (changed_store (put key value) s) ≡ true
holds_put s key value free h = all_put (λ t. is_plain t && includes s.key t) s.held key value h (taken key s free)

holds_less : (s : Stored) (key : List ℕ) → holds_own s ≡ true → holds_own (changed_store (delete key) s) ≡ true
holds_less s key h = all_removed (λ t. is_plain t && includes s.key t) (is_at (text_cmp key)) s.held h

-- the storages after a change that keeps what the storage holds its own
changed_keeps : (b : BusState) (store : ℕ) (c : Change) → ((s : Stored) → slice_get b.stores store ≡ Some s → holds_own s ≡ true → holds_own (changed_store c s) ≡ true) → IsBus b → IsBus (with_change store c b)
changed_keeps b store c own is = at (slice_get b.stores store) refl
  where
    at : (o : Option Stored) → slice_get b.stores store ≡ o → IsBus (record b { stores = change_by store c b.stores o })
    at None there = is
    at (Some s) there = record {
      next = is.next ∙ ap (λ n. b.asker.0 + 1 + n) (sym (length-set b.stores store (changed_store c s)));
      faces = numbered_changed (b.asker.0 + 1) b.stores store c s there is.faces;
      held = own_changed b.stores store c s there (own s there) is.held;
      served = λ e. subst (λ l. IsSeated b.asker.0 l b.next_request b.next_reply b.gateway) (sym (seats_changed store c b.stores (Some s) there)) (is.served e);
    }

-- ---- the calls

pub new_keeps : (config : Settings) → new_refusal config ≡ None → IsBus (new_bus config)
new_keeps config none = record { next = omega arith; faces = refl; held = refl; served = λ e. new_served config none }

pub added_keeps : (key : List ℕ) (complete : Bool) (b : BusState) → IsBus b → add_refusal b ≡ None → is_key key ≡ true → IsBus (added key complete b)
added_keeps key complete b is none keyed =
    let one = new_store key (free_face b) complete in
    let longer = length-append b.stores (one ∷ []) in
    record {
      next = ap (λ n. n + 1) is.next ∙ more (b.asker.0 + 1) (length b.stores) ∙ ap (λ n. b.asker.0 + 1 + n) (sym longer);
      faces = numbered_put (b.asker.0 + 1) b.stores one is.faces is.next;
      held = own_put b.stores one is.held refl;
      served = λ e. added_served key complete b is.next (is.served e) none keyed;
    }
  where
    more : (a n : ℕ) → (a + n) + 1 ≡ a + (n + 1)
    more a n = omega arith

pub put_keeps : (store : ℕ) (key value : List ℕ) (b : BusState) → put_refusal store key b ≡ None → IsBus b → IsBus (with_change store (put key value) b)
put_keeps store key value b free is = changed_keeps b store (put key value) (λ s there own. holds_put s key value (ap (refusal_at key) (sym there) ∙ free) own) is

pub delete_keeps : (store : ℕ) (key : List ℕ) (b : BusState) → IsBus b → IsBus (with_change store (delete key) b)
delete_keeps store key b is = changed_keeps b store (delete key) (λ s there own. holds_less s key own) is

-- a change that was made, or refused
pub changed_goes : {X : Type 0} (r : Result X PutRefusal) (b : BusState) (new there : List Stored) (o : Option PutRefusal)
    → OnOk r (new ≡ there) → OnErr r (new ≡ b.stores) → IfSome o (λ e. r ≡ Err e) → (o ≡ None → IsBus (record b { stores = there })) → IsBus b → IsBus (record b { stores = new })
changed_goes (Ok v) b new there None ok err kept keeps is = subst (λ l. IsBus (record b { stores = l })) (sym ok) (keeps refl)
changed_goes (Ok v) b new there (Some e) ok err kept keeps is = cc
changed_goes (Err e) b new there o ok err kept keeps is = subst (λ l. IsBus (record b { stores = l })) (sym err) is
