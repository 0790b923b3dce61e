-- Which texts are listed: each declared key that is not plain, and once more each mixed one.
use Rattle.std.proofs.Common.{◌≡◌, ◌≢◌, ◌∙◌, sym, ap, subst, refl, ℕ, Bool, true, false, cond, List, [], ◌∷◌, map, filter, Some, None, Option}
use Rattle.std.specs.Prelude.{◌&&◌, ◌||◌, String}
use Rattle.std.specs.declared.alloc.Global.{Global}
use Rattle.std.specs.declared.cmp.Ordering.{Ordering}
use Rattle.std.specs.declared.cmp.Ordering.TheVariants.{Less, Equal, Greater}
use Rattle.std.specs.declared.ops.Bound.TheVariants.{Excluded, Unbounded}
use Rattle.std.specs.Option.{is_some, option_map_or}
use Rattle.zq_message.specs.declared.message.QueryableInfoType.{QueryableInfoType}
use Rattle.std.specs.Ordering.{is_lt}
use Rattle.std.specs.List.{AllByRecursion, list_any}
use Rattle.std.specs.List.Sorted.{IsStrictlySortedBy}
use Rattle.std.specs.Map.{keys_of, remove_entry, set_value}
use Rattle.std.specs.Set.{remove_key}
use Rattle.std.specs.BTreeMap.{is_at, insert_entry}
use Rattle.std.specs.BTreeMap.Range.{range_contains}
use Rattle.std.specs.BTreeSet.{insert_key}
use Rattle.std.specs.String.{string_bytes, string_cmp}
use Rattle.std.proofs.lemmas.Bool.{false≢true, true≢false}
use Rattle.std.proofs.lemmas.Map.{keys-set_value}
use Rattle.std.proofs.lemmas.Map.Made.{is_some-lookup}
use Rattle.std.proofs.lemmas.Map.Keys.{sorted_head, sorted_tail}
use Rattle.zq_key.proofs.Runs.{not_below_itself}
use Rattle.zq_key.proofs.Lookups.{same_key, at_itself, found_after_insertion, each_entry}
use Rattle.zq_key.proofs.Sorted.{has_put}
use Rattle.zq_index.specs.Texts.{text_cmp, at_text, has_text, Lists, IsListed, lists_without, NoneAfter, IsFirstAfter}
use Rattle.zq_index.specs.Holders.{IndexBy, HeldBy, with_holding_by, AreListed}
use Rattle.zq_index.proofs.Orders.{text_total, text_exact}

or_true : (a b : Bool) → b ≡ true → (a || b) ≡ true
or_true true b e = refl
or_true false b e = e

-- ---- a key's declarations are written over
there_still : {V : Type 0} (key t : List ℕ) (w : V) (index : List (List ℕ × V)) → is_some (at_text t (set_value (is_at (text_cmp key)) index w)) ≡ is_some (at_text t index)
there_still key t w index =
    is_some-lookup (is_at (text_cmp t)) (set_value (is_at (text_cmp key)) index w)
    ∙ ap (list_any (is_at (text_cmp t))) (keys-set_value (is_at (text_cmp key)) index w)
    ∙ sym (is_some-lookup (is_at (text_cmp t)) index)

pub listed_over : {V : Type 0} (key : List ℕ) (w : V) (index : List (List ℕ × V)) (lists : Lists) → AreListed index lists → AreListed (set_value (is_at (text_cmp key)) index w) lists
listed_over key w index lists listed t some = listed t (sym (there_still key t w index) ∙ some)

-- ---- a key comes
pub listed_in : {V : Type 0} (key : List ℕ) (w : V) (index : List (List ℕ × V)) (lists more : Lists) → AreListed index lists → ((t : List ℕ) → IsListed lists t → IsListed more t) → IsListed more key → AreListed (insert_entry text_cmp index key w) more
listed_in key w index lists more listed wider it t some = by (is_at (text_cmp key) t) refl (sym (ap is_some (found_after_insertion text_total text_exact key t w index)) ∙ some)
  where
    by : (b : Bool) → is_at (text_cmp key) t ≡ b → is_some (cond b (Some w) (at_text t index)) ≡ true → IsListed more t
    by true is found = subst (IsListed more) (same_key text_total text_exact key t is) it
    by false is found = wider t (listed t found)

pub put_in : (key : List ℕ) (texts : List (List ℕ)) → has_text key (insert_key text_cmp texts key) ≡ true
put_in key texts = has_put text_total text_exact key key texts ∙ ap (λ b. b || has_text key texts) (at_itself text_total text_exact key)

pub put_keeps : (key t : List ℕ) (texts : List (List ℕ)) → has_text t texts ≡ true → has_text t (insert_key text_cmp texts key) ≡ true
put_keeps key t texts has = has_put text_total text_exact t key texts ∙ or_true (is_at (text_cmp t) key) (has_text t texts) has

-- ---- a key goes
module _ (key t : List ℕ) (other : is_at (text_cmp key) t ≡ false) where
  was_by : {V : Type 0} (e : List ℕ × V) (es : List (List ℕ × V)) (b a : Bool) → (is_some (at_text t (remove_entry (is_at (text_cmp key)) es)) ≡ true → is_some (at_text t es) ≡ true)
      → is_at (text_cmp t) e.0 ≡ a → is_some (at_text t (cond b es (e ∷ remove_entry (is_at (text_cmp key)) es))) ≡ true → is_some (cond a (Some e.1) (at_text t es)) ≡ true
  was_by e es true true later is some = refl
  was_by e es true false later is some = some
  was_by e es false true later is some = refl
  was_by e es false false later is some = later (ap (λ a. is_some (cond a (Some e.1) (at_text t (remove_entry (is_at (text_cmp key)) es)))) (sym is) ∙ some)

  was_there : {V : Type 0} (index : List (List ℕ × V)) → is_some (at_text t (remove_entry (is_at (text_cmp key)) index)) ≡ true → is_some (at_text t index) ≡ true
  was_there [] some = some
  was_there (e ∷ es) some = was_by e es (is_at (text_cmp key) e.0) (is_at (text_cmp t) e.0) (was_there es) refl some

  has_by : (x : List ℕ) (xs : List (List ℕ)) (b a : Bool) → (has_text t xs ≡ true → has_text t (remove_key (is_at (text_cmp key)) xs) ≡ true)
      → is_at (text_cmp key) x ≡ b → is_at (text_cmp t) x ≡ a → (a || has_text t xs) ≡ true → has_text t (cond b xs (x ∷ remove_key (is_at (text_cmp key)) xs)) ≡ true
  has_by x xs true true later key_is t_is has =
      let same : t ≡ x = same_key text_total text_exact t x t_is in
      absurd (false≢true (sym other ∙ ap (is_at (text_cmp key)) same ∙ key_is))
  has_by x xs true false later key_is t_is has = has
  has_by x xs false true later key_is t_is has = ap (λ a. a || has_text t (remove_key (is_at (text_cmp key)) xs)) t_is
  has_by x xs false false later key_is t_is has = or_true (is_at (text_cmp t) x) (has_text t (remove_key (is_at (text_cmp key)) xs)) (later has)

  still_has : (texts : List (List ℕ)) → has_text t texts ≡ true → has_text t (remove_key (is_at (text_cmp key)) texts) ≡ true
  still_has [] has = has
  still_has (x ∷ xs) has = has_by x xs (is_at (text_cmp key) x) (is_at (text_cmp t) x) (still_has xs) refl refl has

pub listed_out : {V : Type 0} (key : List ℕ) (index : List (List ℕ × V)) (lists : Lists) → AreListed index lists → at_text key (remove_entry (is_at (text_cmp key)) index) ≡ None
    → AreListed (remove_entry (is_at (text_cmp key)) index) (lists_without key lists)
listed_out key index lists listed gone t some = by (is_at (text_cmp key) t) refl
  where
    by : (b : Bool) → is_at (text_cmp key) t ≡ b → IsListed (lists_without key lists) t
    by true is =
        let same : key ≡ t = same_key text_total text_exact key t is in
        absurd (false≢true (sym (ap is_some gone) ∙ ap (λ k. is_some (at_text k (remove_entry (is_at (text_cmp key)) index))) same ∙ some))
    by false is =
        let before = listed t (was_there key t is index some) in
        (λ wild. still_has key t is lists.0 (before.0 wild), λ mixed. still_has key t is lists.1 (before.1 mixed))

-- a declaration beside others
pub listed_beside : {P : Type 0} (R : P → P → Ordering) (key : List ℕ) (p : P) (i : QueryableInfoType) (index : IndexBy P) (lists : Lists) → is_some (at_text key index) ≡ true → AreListed index lists → AreListed (with_holding_by R key p i index) lists
listed_beside {P} R key p i index lists there listed = by (at_text key index) there
  where
    by : (o : Option (HeldBy P)) → is_some o ≡ true → AreListed (option_map_or (λ hs. set_value (is_at (text_cmp key)) index (insert_entry R hs p i)) o (insert_entry text_cmp index key ((p, i) ∷ []))) lists
    by (Some hs) there = listed_over key (insert_entry R hs p i) index lists listed
    by None there = absurd (false≢true there)

-- the first declaration on a key
pub listed_first : {P : Type 0} (R : P → P → Ordering) (key : List ℕ) (p : P) (i : QueryableInfoType) (index : IndexBy P) (lists more : Lists) → at_text key index ≡ None → AreListed index lists → ((t : List ℕ) → IsListed lists t → IsListed more t) → IsListed more key → AreListed (with_holding_by R key p i index) more
listed_first R key p i index lists more none listed wider it =
    let first : with_holding_by R key p i index ≡ insert_entry text_cmp index key ((p, i) ∷ []) =
    ap (λ o. option_map_or (λ hs. set_value (is_at (text_cmp key)) index (insert_entry R hs p i)) o (insert_entry text_cmp index key ((p, i) ∷ []))) none in
    subst (λ es. AreListed es more) (sym first) (listed_in key ((p, i) ∷ []) index lists more listed wider it)

-- each entry of an index in order
pub each_listed : {V : Type 0} (index : List (List ℕ × V)) (lists : Lists) → IsStrictlySortedBy text_cmp (keys_of index) → AreListed index lists → AllByRecursion (λ e. IsListed lists e.0) index
each_listed index lists sorted listed = each_entry text_total text_exact (λ e. IsListed lists e.0) index sorted (λ k v is. listed k (ap is_some is))

-- ---- the first text after another
abbrev is_after : String Global → String Global → Bool
is_after text s = range_contains string_cmp (Excluded text) Unbounded s

abbrev pub after_text : String Global → List (String Global) → List (String Global)
after_text text ss = filter (is_after text) ss

after_less : (text s : String Global) → string_cmp text s ≡ Less → is_after text s ≡ true
after_less text s less = ap (λ r. is_lt r && true) less

less_after : (text s : String Global) → is_after text s ≡ true → string_cmp text s ≡ Less
less_after text s h = by (string_cmp text s) h
  where
    by : (r : Ordering) → (is_lt r && true) ≡ true → r ≡ Less
    by Less h = refl
    by Equal h = absurd (false≢true h)
    by Greater h = absurd (false≢true h)

nil_cons : {X : Type 0} (x : X) (xs : List X) → x ∷ xs ≡ [] → ⊥
nil_cons x xs e = cc

pub none_after : (text : String Global) (ss : List (String Global)) → after_text text ss ≡ [] → NoneAfter (map string_bytes ss) (string_bytes text)
none_after text [] none t has less = false≢true has
none_after text (s ∷ ss) none t has less = by (is_after text s) refl none (is_at (text_cmp t) (string_bytes s)) refl has (λ n h. none_after text ss n t h less)
  where
    by : (b : Bool) → is_after text s ≡ b → cond b (s ∷ after_text text ss) (after_text text ss) ≡ [] → (a : Bool) → is_at (text_cmp t) (string_bytes s) ≡ a → (a || has_text t (map string_bytes ss)) ≡ true
        → (after_text text ss ≡ [] → has_text t (map string_bytes ss) ≡ true → ⊥) → ⊥
    by true is none a at has later = nil_cons s (after_text text ss) none
    by false is none true at has later =
        let same : t ≡ string_bytes s = same_key text_total text_exact t (string_bytes s) at in
        true≢false (sym (after_less text s (ap (text_cmp (string_bytes text)) (sym same) ∙ less)) ∙ is)
    by false is none false at has later = later none has

heads_same : {X : Type 0} (x y : X) (xs ys : List X) → x ∷ xs ≡ y ∷ ys → x ≡ y
heads_same x y xs ys e = cc

-- a text among those above one is above it
above_has : (s : String Global) (t : List ℕ) (ss : List (String Global)) → AllByRecursion (λ y. string_cmp s y ≡ Less) ss → has_text t (map string_bytes ss) ≡ true → text_cmp (string_bytes s) t ≡ Less
above_has s t [] all has = absurd (false≢true has)
above_has s t (x ∷ xs) all has = by (is_at (text_cmp t) (string_bytes x)) refl has (above_has s t xs all.1)
  where
    by : (a : Bool) → is_at (text_cmp t) (string_bytes x) ≡ a → (a || has_text t (map string_bytes xs)) ≡ true → (has_text t (map string_bytes xs) ≡ true → text_cmp (string_bytes s) t ≡ Less) → text_cmp (string_bytes s) t ≡ Less
    by true at has later = ap (text_cmp (string_bytes s)) (same_key text_total text_exact t (string_bytes x) at) ∙ all.0
    by false at has later = later has

pub first_after : (text w : String Global) (ss rest : List (String Global)) → IsStrictlySortedBy string_cmp ss → after_text text ss ≡ w ∷ rest → IsFirstAfter (map string_bytes ss) (string_bytes text) (string_bytes w)
first_after text w [] rest sorted is = absurd (nil_cons w rest (sym is))
first_after text w (s ∷ ss) rest sorted is = by (is_after text s) refl is (λ i. first_after text w ss rest (sorted_tail string_cmp s ss sorted) i)
  where
    head : is_after text s ≡ true → s ≡ w → IsFirstAfter (map string_bytes (s ∷ ss)) (string_bytes text) (string_bytes w)
    head found same = record {
      after = ap (string_cmp text) (sym same) ∙ less_after text s found;
      none = λ t has less under. at_head t (is_at (text_cmp t) (string_bytes s)) refl has (ap (λ (x : String Global). text_cmp t (string_bytes x)) same ∙ under);
    }
      where
        at_head : (t : List ℕ) (a : Bool) → is_at (text_cmp t) (string_bytes s) ≡ a → (a || has_text t (map string_bytes ss)) ≡ true → text_cmp t (string_bytes s) ≡ Less → ⊥
        at_head t true at has under = not_below_itself (string_bytes s) (ap (λ x. text_cmp x (string_bytes s)) (sym (same_key text_total text_exact t (string_bytes s) at)) ∙ under)
        at_head t false at has under = not_below_itself t (text_total.trans t (string_bytes s) t under (above_has s t ss (sorted_head string_cmp s ss sorted) has))

    under_tail : is_after text s ≡ false → IsFirstAfter (map string_bytes ss) (string_bytes text) (string_bytes w) → IsFirstAfter (map string_bytes (s ∷ ss)) (string_bytes text) (string_bytes w)
    under_tail out first = record {
      after = first.after;
      none = λ t has less. in_tail t (is_at (text_cmp t) (string_bytes s)) refl has less;
    }
      where
        in_tail : (t : List ℕ) (a : Bool) → is_at (text_cmp t) (string_bytes s) ≡ a → (a || has_text t (map string_bytes ss)) ≡ true → text_cmp (string_bytes text) t ≡ Less → text_cmp t (string_bytes w) ≢ Less
        in_tail t true at has less =
            let same : t ≡ string_bytes s = same_key text_total text_exact t (string_bytes s) at in
            absurd (true≢false (sym (after_less text s (ap (text_cmp (string_bytes text)) (sym same) ∙ less)) ∙ out))
        in_tail t false at has less = first.none t has less

    by : (b : Bool) → is_after text s ≡ b → cond b (s ∷ after_text text ss) (after_text text ss) ≡ w ∷ rest
        → (after_text text ss ≡ w ∷ rest → IsFirstAfter (map string_bytes ss) (string_bytes text) (string_bytes w)) → IsFirstAfter (map string_bytes (s ∷ ss)) (string_bytes text) (string_bytes w)
    by true found is later = head found (heads_same s w (after_text text ss) rest is)
    by false out is later = under_tail out (later is)
