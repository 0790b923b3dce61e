-- A face is told of some keys what is due: a receiver keeps up.
use Rattle.std.proofs.Common.{◌≡◌, ◌∙◌, refl, sym, ap, subst, ℕ, ◌≤◌, ◌+◌, Bool, true, false, cond, List, [], ◌∷◌, ◌++◌, fold, Option, Some, None, true≢false, arith, eqb-true}
use Rattle.std.specs.Prelude.{◌==◌, ◌&&◌, ◌||◌, filter, is_none, not}
use Rattle.std.specs.List.{AllByRecursion}
use Rattle.std.specs.Ordering.{is_eq}
use Rattle.std.specs.declared.cmp.Ordering.TheVariants.{Less}
use Rattle.std.specs.Option.{option_map, option_map_or, option_to_list}
use Rattle.std.specs.Str.{bytes_eq}
use Rattle.std.specs.Map.{keys_of}
use Rattle.std.specs.BTreeMap.{is_at}
use Rattle.std.proofs.lemmas.List.Sums.{fold-append}
use Rattle.std.proofs.lemmas.Map.Keys.{sorted_head, sorted_tail}
use Rattle.std.proofs.lemmas.Map.Text.{is_eq-slice_cmp}
use Rattle.zq_key.proofs.Lookups.{either_way, none_above, same_key}
use Rattle.zq_message.specs.declared.message.QueryableInfoType.{QueryableInfoType}
use Rattle.zq_index.specs.Infos.{same_bool, same_info}
use Rattle.zq_index.specs.Texts.{at_text, text_cmp}
use Rattle.zq_index.proofs.Orders.{text_exact, text_total}
use Rattle.zq_strategy.specs.declared.network.Telling.{Telling}
use Rattle.zq_told.specs.declared.types.ToldEntry.{ToldEntry}
use Rattle.zq_told.specs.declared.types.Reason.{Reason}
use Rattle.zq_told.specs.declared.types.Reason.TheVariants.{Update, Answer, End}
use Rattle.zq_told.specs.declared.plan.Account.{Account}
use Rattle.zq_told.specs.ToldSets.{Told}
use Rattle.zq_told.specs.Telling.{KeyDue, Row, declared, entry_for, last_for, put_row, tell_key, tellings_for}
use Rattle.zq_told.specs.Receiver.{Heard, Memory, Tied, forgets, heard_after, is_left, is_over, memory_of, receive}
use Rattle.zq_told.specs.Laws.{HeardIsDue, InOrder, KeepsUp, aim, ear_after, told_in}
use Rattle.zq_told.proofs.Entries.{same_text}
use Rattle.zq_told.proofs.Slotted.{row_found, row_sorted}
use Rattle.zq_told.proofs.Hearing.{heard_is_told, put_told, tied_same, tied_put, tied_take, tied_kept}

-- ---- informations that are the same
alike : (a b : Bool) → same_bool a b ≡ true → a ≡ b
alike true true e = refl
alike true false e = absurd (true≢false (sym e))
alike false true e = absurd (true≢false (sym e))
alike false false e = refl

both_true : (a b : Bool) → (a && b) ≡ true → (a ≡ true) × (b ≡ true)
both_true true b e = (refl, e)
both_true false b e = absurd (true≢false (sym e))

pub one_info : (a b : QueryableInfoType) → same_info a b ≡ true → a ≡ b
one_info a b e =
    let h = both_true (same_bool a.complete b.complete) (a.distance == b.distance) e in
    let c = alike a.complete b.complete h.0 in
    let d : a.distance ≡ b.distance = eqb-true a.distance b.distance h.1 in
    λ i. record { complete = c i; distance = d i }

-- ---- one key
-- what is kept of a key until a receiver forgets what is over
abbrev pub kept_entry : Reason → ℕ → Option ToldEntry → Option QueryableInfoType → Option ToldEntry
kept_entry way last old (Some i) = entry_for way last old (Some i)
kept_entry Update last old None = None
kept_entry Answer last old None = old
kept_entry End last old None = old

module _ (n : ℕ) (ear : Memory) (heard : Heard) (t : Tied ear heard) (key : List ℕ) where
  same_by : (e : Option ToldEntry) (q : List ℕ) (b : Bool) → bytes_eq key q ≡ b → ear.told key ≡ e → cond b e (ear.told q) ≡ ear.told q
  same_by e q true is was = sym was ∙ ap ear.told (same_text key q is)
  same_by e q false is was = refl

  -- an entry is put over itself
  over_itself : (e : Option ToldEntry) → ear.told key ≡ e → Tied (record { last = ear.last; told = put_told key e ear.told }) heard
  over_itself e was = tied_same ear heard t ear.last (put_told key e ear.told) (let le : ear.last ≤ ear.last = omega arith in le) (λ q. same_by e q (bytes_eq key q) refl was)

  tied_new : (i : QueryableInfoType) → ear.told key ≡ None → Tied (record { last = ear.last + 1; told = put_told key (Some (record { id = ear.last + 1; info = i })) ear.told }) (receive heard (declared n key (record { id = ear.last + 1; info = i })))
  tied_new i was =
      tied_put ear heard t key (ear.last + 1) (ear.last + 1) i (let le : ear.last ≤ ear.last + 1 = omega arith in le) (let le : ear.last + 1 ≤ ear.last + 1 = omega arith in le)
      (λ x at. let b : ear.last + 1 ≤ ear.last = t.below (ear.last + 1) x at in absurd (omega (arith, b)))
      (λ u is. absurd (let gap : None ≡ Some u = sym was ∙ is in cc))

  tied_again : (u : ToldEntry) (i : QueryableInfoType) → ear.told key ≡ Some u → Tied (record { last = ear.last; told = put_told key (Some (record { id = u.id; info = i })) ear.told }) (receive heard (declared n key (record { id = u.id; info = i })))
  tied_again u i was =
      tied_put ear heard t key ear.last u.id i (let le : ear.last ≤ ear.last = omega arith in le) (t.below u.id (key, u.info) (t.forth key u was))
      (λ x at. ap (λ (y : List ℕ × QueryableInfoType). y.0) (let both : Some (key, u.info) ≡ Some x = sym (t.forth key u was) ∙ at in let pair : (key, u.info) ≡ x = cc in pair))
      (λ v is. ap (λ (y : ToldEntry). y.id) (let both : Some v ≡ Some u = sym is ∙ was in let one : v ≡ u = cc in one))

  tied_news : (u : ToldEntry) (i : QueryableInfoType) (b : Bool) → same_info u.info i ≡ b → ear.told key ≡ Some u → Tied (record { last = ear.last; told = put_told key (Some (record { id = u.id; info = i })) ear.told }) (fold receive heard (cond b [] (declared n key (record { id = u.id; info = i }) ∷ [])))
  tied_news u i true same was =
      over_itself (Some (record { id = u.id; info = i })) (was ∙ (let info = one_info u.info i same in λ j. Some (record { id = u.id; info = info j })))
  tied_news u i false same was = tied_again u i was

  pub tied_key : (way : Reason) (old : Option ToldEntry) (due : Option QueryableInfoType) → ear.told key ≡ old
      → Tied (record { last = last_for ear.last old (entry_for way ear.last old due); told = put_told key (kept_entry way ear.last old due) ear.told }) (fold receive heard (tellings_for way n key old (entry_for way ear.last old due)))
  tied_key Update None None was = over_itself None was
  tied_key Answer None None was = over_itself None was
  tied_key End None None was = over_itself None was
  tied_key Update (Some u) None was = tied_take ear heard t key u was
  tied_key Answer (Some u) None was = over_itself (Some u) was
  tied_key End (Some u) None was = over_itself (Some u) was
  tied_key Update None (Some i) was = tied_new i was
  tied_key Answer None (Some i) was = tied_new i was
  tied_key End None (Some i) was = over_itself None was
  tied_key Update (Some u) (Some i) was = tied_news u i (same_info u.info i) refl was
  tied_key Answer (Some u) (Some i) was = tied_again u i was
  tied_key End (Some u) (Some i) was = tied_news u i (same_info u.info i) refl was

-- ---- many keys
info_of : Option ToldEntry → Option QueryableInfoType
info_of o = option_map (λ t. t.info) o

module _ (way : Reason) (n : ℕ) (told : Told) where
  abbrev put : List Row → Told
  put rows = fold put_row told rows

  -- what is kept of a face, with what it and those before it are told
  pub record Story : Type 0 where
    pub memory : Memory
    pub tellings : List Telling

  abbrev pub settle : Story → KeyDue → Story
  settle s k = record {
    memory = record {
      last = last_for s.memory.last (s.memory.told k.0) (entry_for way s.memory.last (s.memory.told k.0) k.1);
      told = put_told k.0 (kept_entry way s.memory.last (s.memory.told k.0) k.1) s.memory.told;
    };
    tellings = s.tellings ++ tellings_for way n k.0 (s.memory.told k.0) (entry_for way s.memory.last (s.memory.told k.0) k.1);
  }

  module _ (heard : Heard) where
    abbrev Fits : Story → Type 0
    Fits s = Tied s.memory (fold receive heard s.tellings)

    pub fits_one : (s : Story) (k : KeyDue) → Fits s → Fits (settle s k)
    fits_one s k t =
        subst (Tied (settle s k).memory) (sym (fold-append receive heard s.tellings (tellings_for way n k.0 (s.memory.told k.0) (entry_for way s.memory.last (s.memory.told k.0) k.1))))
        (tied_key n s.memory (fold receive heard s.tellings) t k.0 way (s.memory.told k.0) k.1 refl)

    pub fits_all : (keys : List KeyDue) (s : Story) → Fits s → Fits (fold settle s keys)
    fits_all [] s t = t
    fits_all (k ∷ ks) s t = fits_all ks (settle s k) (fits_one s k t)

  -- ---- the account of a face and its story are the same
  pub record Matches (a : Account) (s : Story) (over : List ℕ → Bool) : Type 0 where
    pub last : s.memory.last ≡ a.last
    pub tellings : s.tellings ≡ a.tellings
    pub sorted : InOrder (put a.rows)
    pub found : (q : List ℕ) → at_text q (put a.rows) ≡ cond (forgets way && over q) None (s.memory.told q)

  -- a key that was not looked at yet
  abbrev IsFresh : Story → (List ℕ → Bool) → KeyDue → Type 0
  IsFresh s over k = (s.memory.told k.0 ≡ at_text k.0 told) × (over k.0 ≡ false)

  abbrev over_more : (List ℕ → Bool) → KeyDue → List ℕ → Bool
  over_more over k q = over q || (is_none k.1 && bytes_eq k.0 q)

  new_by : (w : Reason) (last : ℕ) (old : Option ToldEntry) (due : Option QueryableInfoType) (o : Bool) → o ≡ false → entry_for w last old due ≡ cond (forgets w && (o || (is_none due && true))) None (kept_entry w last old due)
  new_by Update last old None o e = refl
  new_by Answer last old None true e = refl
  new_by Answer last old None false e = refl
  new_by End last old None true e = refl
  new_by End last old None false e = refl
  new_by Update last old (Some i) o e = refl
  new_by Answer last old (Some i) true e = absurd (true≢false e)
  new_by Answer last old (Some i) false e = refl
  new_by End last old (Some i) true e = absurd (true≢false e)
  new_by End last old (Some i) false e = refl

  and_false : (b : Bool) → (b && false) ≡ false
  and_false true = refl
  and_false false = refl

  or_false : (b : Bool) → (b || false) ≡ b
  or_false true = refl
  or_false false = refl

  -- what is found at a key after one becomes its entry
  told_by : (k : KeyDue) (q : List ℕ) (last : ℕ) (old : Option ToldEntry) (x y : Option ToldEntry) (over : List ℕ → Bool) (b : Bool) → bytes_eq k.0 q ≡ b → over k.0 ≡ false
      → x ≡ cond (forgets way && over q) None y
      → cond b (entry_for way last old k.1) x ≡ cond (forgets way && (over q || (is_none k.1 && b))) None (cond b (kept_entry way last old k.1) y)
  told_by k q last old x y over true is fresh h = new_by way last old k.1 (over q) (ap over (sym (same_text k.0 q is)) ∙ fresh)
  told_by k q last old x y over false is fresh h = h ∙ ap (λ z. cond (forgets way && z) None y) (sym (ap (λ z. over q || z) (and_false (is_none k.1)) ∙ or_false (over q)))

  module _ (a : Account) (s : Story) (over : List ℕ → Bool) (k : KeyDue) (m : Matches a s over) (fresh : IsFresh s over k) where
    entries_same : entry_for way s.memory.last (s.memory.told k.0) k.1 ≡ entry_for way a.last (at_text k.0 told) k.1
    entries_same = λ i. entry_for way (m.last i) (fresh.0 i) k.1

    kept_same : kept_entry way s.memory.last (s.memory.told k.0) k.1 ≡ kept_entry way a.last (at_text k.0 told) k.1
    kept_same = λ i. kept_entry way (m.last i) (fresh.0 i) k.1

    rows_are : put (tell_key way n told a k).rows ≡ put_row (put a.rows) (k.0, entry_for way a.last (at_text k.0 told) k.1)
    rows_are = fold-append put_row told a.rows ((k.0, entry_for way a.last (at_text k.0 told) k.1) ∷ [])

    told_next : (q : List ℕ) → at_text q (put (tell_key way n told a k).rows) ≡ cond (forgets way && over_more over k q) None ((settle s k).memory.told q)
    told_next q =
        ap (at_text q) rows_are
        ∙ row_found k.0 (entry_for way a.last (at_text k.0 told) k.1) (put a.rows) m.sorted q
        ∙ ap (λ b. cond b (entry_for way a.last (at_text k.0 told) k.1) (at_text q (put a.rows))) (is_eq-slice_cmp k.0 q)
        ∙ told_by k q a.last (at_text k.0 told) (at_text q (put a.rows)) (s.memory.told q) over (bytes_eq k.0 q) refl fresh.1 (m.found q)
        ∙ ap (λ e. cond (forgets way && over_more over k q) None (cond (bytes_eq k.0 q) e (s.memory.told q))) (sym kept_same)

    pub matches_one : Matches (tell_key way n told a k) (settle s k) (over_more over k)
    matches_one = record {
      last = λ i. last_for (m.last i) (fresh.0 i) (entries_same i);
      tellings = λ i. m.tellings i ++ tellings_for way n k.0 (fresh.0 i) (entries_same i);
      sorted = subst InOrder (sym rows_are) (row_sorted k.0 (entry_for way a.last (at_text k.0 told) k.1) (put a.rows) m.sorted);
      found = told_next;
    }

  -- keys behind one are others
  apart : (k q : List ℕ) → text_cmp k q ≡ Less → bytes_eq k q ≡ false
  apart k q l = sym (is_eq-slice_cmp k q) ∙ ap is_eq l

  fresh_one : (s : Story) (over : List ℕ → Bool) (k j : KeyDue) → text_cmp k.0 j.0 ≡ Less → IsFresh s over j → IsFresh (settle s k) (over_more over k) j
  fresh_one s over k j l f = (
    ap (λ b. cond b (kept_entry way s.memory.last (s.memory.told k.0) k.1) (s.memory.told j.0)) (apart k.0 j.0 l) ∙ f.0,
    ap (λ b. over j.0 || (is_none k.1 && b)) (apart k.0 j.0 l) ∙ ap (λ z. over j.0 || z) (and_false (is_none k.1)) ∙ or_false (over j.0) ∙ f.1,
  )

  fresh_all : (s : Story) (over : List ℕ → Bool) (k : KeyDue) (ks : List KeyDue) → AllByRecursion (λ q. text_cmp k.0 q ≡ Less) (keys_of ks) → AllByRecursion (IsFresh s over) ks → AllByRecursion (IsFresh (settle s k) (over_more over k)) ks
  fresh_all s over k [] above all = tt
  fresh_all s over k (j ∷ ks) above all = (fresh_one s over k j above.0 all.0, fresh_all s over k ks above.1 all.1)

  or_assoc : (a b c : Bool) → ((a || b) || c) ≡ (a || (b || c))
  or_assoc true b c = refl
  or_assoc false b c = refl

  matches_all : (ks : List KeyDue) (a : Account) (s : Story) (over : List ℕ → Bool) → InOrder ks → Matches a s over → AllByRecursion (IsFresh s over) ks
      → Matches (fold (tell_key way n told) a ks) (fold settle s ks) (λ q. over q || is_over ks q)
  matches_all [] a s over sorted m all = record { last = m.last; tellings = m.tellings; sorted = m.sorted; found = λ q. m.found q ∙ ap (λ z. cond (forgets way && z) None (s.memory.told q)) (sym (or_false (over q))) }
  matches_all (k ∷ ks) a s over sorted m all =
      let rest = matches_all ks (tell_key way n told a k) (settle s k) (over_more over k) (sorted_tail text_cmp k.0 (keys_of ks) sorted) (matches_one a s over k m all.0)
      (fresh_all s over k ks (sorted_head text_cmp k.0 (keys_of ks) sorted) all.1) in
      record { last = rest.last; tellings = rest.tellings; sorted = rest.sorted; found = λ q. rest.found q ∙ ap (λ z. cond (forgets way && z) None ((fold settle s (k ∷ ks)).memory.told q)) (or_assoc (over q) (is_none k.1 && bytes_eq k.0 q) (is_over ks q)) }

  fresh_first : (last : ℕ) (ks : List KeyDue) → AllByRecursion (IsFresh (record { memory = record { last = last; told = λ q. at_text q told }; tellings = [] }) (λ q. false)) ks
  fresh_first last [] = tt
  fresh_first last (k ∷ ks) = ((refl, refl), fresh_first last ks)

  module _ (last : ℕ) (keys : List KeyDue) (sorted : InOrder told) (ordered : InOrder keys) where
    abbrev first : Story
    first = record { memory = record { last = last; told = λ q. at_text q told }; tellings = [] }

    abbrev account : Account
    account = fold (tell_key way n told) (record { last = last; rows = []; tellings = [] }) keys

    pub matched : Matches account (fold settle first keys) (is_over keys)
    matched = matches_all keys (record { last = last; rows = []; tellings = [] }) first (λ q. false) ordered (record { last = refl; tellings = refl; sorted = sorted; found = λ q. at_first q (forgets way) }) (fresh_first last keys)
      where
        at_first : (q : List ℕ) (b : Bool) → at_text q told ≡ cond (b && false) None (at_text q told)
        at_first q true = refl
        at_first q false = refl

    left_by : (b : Bool) (memory : Memory) (over : List ℕ → Bool) (hs : Heard) → Tied memory hs → Tied (record { last = memory.last; told = λ q. cond (b && over q) None (memory.told q) }) (cond b (filter (is_left over) hs) hs)
    left_by true memory over hs t = subst (λ (x : List ℕ → Option ToldEntry). Tied (record { last = memory.last; told = x }) (filter (is_left over) hs)) (λ i q. turn (over q) (memory.told q) i) (tied_kept memory hs t over)
      where
        turn : (c : Bool) (x : Option ToldEntry) → cond (not c) x None ≡ cond c None x
        turn true x = refl
        turn false x = refl
    left_by false memory over hs t = t

    pub kept_up : (heard : Heard) → Tied first.memory heard → Tied (record { last = account.last; told = λ q. at_text q (put account.rows) }) (heard_after way keys heard account.tellings)
    kept_up heard t =
        let m = matched in
        let all = fits_all heard keys first t in
        let moved : Tied (fold settle first keys).memory (fold receive heard account.tellings) = subst (λ ts. Tied (fold settle first keys).memory (fold receive heard ts)) m.tellings all in
        let left = left_by (forgets way) (fold settle first keys).memory (is_over keys) (fold receive heard account.tellings) moved in
        subst (λ (x : Memory). Tied x (heard_after way keys heard account.tellings)) (λ i. record { last = m.last i; told = λ q. sym (m.found q) i }) left

  -- ---- on each key the face was told what the call aims at
  aimed : (last : ℕ) (old : Option ToldEntry) (due : Option QueryableInfoType) → option_map (λ (t : ToldEntry). t.info) (entry_for way last old due) ≡ aim way due (option_map (λ (t : ToldEntry). t.info) old)
  aimed last old due = by way old due
    where
      by : (w : Reason) (old : Option ToldEntry) (due : Option QueryableInfoType) → option_map (λ (t : ToldEntry). t.info) (entry_for w last old due) ≡ aim w due (option_map (λ (t : ToldEntry). t.info) old)
      by w old None = refl
      by Update old (Some i) = refl
      by Answer old (Some i) = refl
      by End None (Some i) = refl
      by End (Some t) (Some i) = refl

  abbrev info_at : List ℕ → Told → Option QueryableInfoType
  info_at q es = option_map (λ (t : ToldEntry). t.info) (at_text q es)

  step_by : (q : List ℕ) (k : KeyDue) (ks : List KeyDue) (last : ℕ) (es : Told) (b : Bool) → is_at (text_cmp k.0) q ≡ b → AllByRecursion (λ q. text_cmp k.0 q ≡ Less) (keys_of ks)
      → option_map_or (λ d. aim way d (info_at q told)) (at_text q ks) (option_map (λ (t : ToldEntry). t.info) (cond b (entry_for way last (at_text k.0 told) k.1) (at_text q es)))
      ≡ option_map_or (λ d. aim way d (info_at q told)) (cond b (Some k.1) (at_text q ks)) (info_at q es)
  step_by q k ks last es true is above =
      let same : k.0 ≡ q = same_key text_total text_exact k.0 q is in
      let none : at_text q ks ≡ None = ap (λ x. at_text x ks) (sym same) ∙ none_above text_total text_exact k.0 ks above in
      ap (λ o. option_map_or (λ d. aim way d (info_at q told)) o (option_map (λ (t : ToldEntry). t.info) (entry_for way last (at_text k.0 told) k.1))) none
      ∙ aimed last (at_text k.0 told) k.1
      ∙ ap (λ x. aim way k.1 (info_at x told)) same
  step_by q k ks last es false is above = refl

  pub told_is : (q : List ℕ) (ks : List KeyDue) (a : Account) → InOrder ks → InOrder (put a.rows) → info_at q (put (fold (tell_key way n told) a ks).rows) ≡ option_map_or (λ d. aim way d (info_at q told)) (at_text q ks) (info_at q (put a.rows))
  told_is q [] a sorted s = refl
  told_is q (k ∷ ks) a sorted s =
      let e : Option ToldEntry = entry_for way a.last (at_text k.0 told) k.1 in
      let rows : put (tell_key way n told a k).rows ≡ put_row (put a.rows) (k.0, e) = fold-append put_row told a.rows ((k.0, e) ∷ []) in
      told_is q ks (tell_key way n told a k) (sorted_tail text_cmp k.0 (keys_of ks) sorted) (subst InOrder (sym rows) (row_sorted k.0 e (put a.rows) s))
      ∙ ap (λ o. option_map_or (λ d. aim way d (info_at q told)) (at_text q ks) (option_map (λ (t : ToldEntry). t.info) o)) (ap (at_text q) rows ∙ row_found k.0 e (put a.rows) s q)
      ∙ step_by q k ks a.last (put a.rows) (is_at (text_cmp k.0) q) refl (sorted_head text_cmp k.0 (keys_of ks) sorted)
      ∙ ap (λ b. option_map_or (λ d. aim way d (info_at q told)) (cond b (Some k.1) (at_text q ks)) (info_at q (put a.rows))) (either_way text_total text_exact k.0 q)

pub keeps_up : KeepsUp
keeps_up way n ear keys heard sorted ordered t = kept_up way n ear.told ear.last keys sorted ordered heard t

pub heard_is_due : HeardIsDue
heard_is_due way n ear keys heard sorted ordered t key =
    heard_is_told (memory_of (ear_after way n ear keys)) (heard_after way keys heard (told_in way n ear keys)) (keeps_up way n ear keys heard sorted ordered t) key
    ∙ ap option_to_list (told_is way n ear.told key keys (record { last = ear.last; rows = []; tellings = [] }) ordered sorted)
