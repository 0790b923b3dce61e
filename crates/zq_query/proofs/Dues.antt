-- The map of deadlines, and the entries of the records that are due.
use Rattle.std.proofs.Common.{◌≡◌, ℕ, ◌<◌, Bool, true, false, cond, List, [], ◌∷◌, ap, ◌∙◌, refl, arith, Some, None, Option, sym, true≢false, eqb-true, eq-eqb}
use Rattle.std.specs.Prelude.{fold, map, not, nat_lt, ◌&&◌, ◌||◌, ◌==◌}
use Rattle.std.proofs.lemmas.Bool.{lt-ltb, le-ltb}
use Rattle.std.proofs.lemmas.Cmp.{ranked}
use Rattle.std.specs.declared.cmp.Ordering.{Ordering}
use Rattle.std.specs.declared.cmp.Ordering.TheVariants.{Less, Equal, Greater}
use Rattle.std.specs.declared.ops.Bound.TheVariants.{Excluded, Unbounded}
use Rattle.std.specs.Ordering.{nat_cmp, ordering_then, is_le}
use Rattle.std.specs.Cmp.{nat_eq_equiv, both_ways, first_so}
use Rattle.std.specs.Option.{IsSome, option_map, option_map_or}
use Rattle.std.specs.List.{filter, filter_map, cons_option, flat_map, list_any, AllByRecursion}
use Rattle.std.specs.List.Sorted.{IsStrictlySortedBy}
use Rattle.std.specs.BTreeMap.{is_at}
use Rattle.std.specs.BTreeMap.Range.{range_contains}
use Rattle.std.specs.BTreeSet.{insert_key}
use Rattle.std.proofs.lemmas.List.Folds.{list_any-append}
use Rattle.std.proofs.Math.Bool.{or-true, or-false, or_assoc}
use Rattle.zq_query.specs.declared.queries.Open.{Open}
use Rattle.zq_query.specs.declared.queries.Owed.{Owed}
use Rattle.zq_query.specs.Records.{Pending, any_entry}
use Rattle.zq_query.specs.Tables.{Dues, lists, Dues, Place, Due, place_cmp, due_cmp, is_of, entry_of, record_of, records_of, at_number, at_place, IsTied, IsBelow}
use Rattle.zq_query.specs.FaceEntries.{has_key}
use Rattle.zq_query.specs.DueEntries.{dues_until, is_owed_at, live_of, live_until, due_at}
use Rattle.zq_query.specs.Polling.{is_due, dues_of, dues_at, is_among, is_amiss}
use Rattle.zq_query.proofs.Keys.{place_total, place_exact, due_total, due_exact}
use Rattle.zq_query.proofs.Entries.{any_map, one_has, same_place}
use Rattle.zq_query.proofs.Fusion.{no_entry}
use Rattle.zq_query.proofs.Lists.{filter_members, has_kept}
use Rattle.zq_key.proofs.Lookups.{each_entry, same_key, at_itself, either_way}
use Rattle.zq_key.proofs.Sorted.{same_keys, has_put, sorted_put}
use Rattle.zq_key.proofs.Truth.{or_swap}

-- ---- the requests below a number, up to the last that the moment can have
up_to : (now requests : ℕ) (q : Place) (r : Ordering) → nat_cmp now q.0 ≡ r → q.1 < requests → is_le (ordering_then r (nat_cmp requests q.1)) ≡ nat_lt now q.0
up_to now requests q Less e l = sym (lt-ltb now q.0 (ranked now q.0 Less (sym e)))
up_to now requests q Equal e l = second (nat_cmp requests q.1) refl ∙ sym (le-ltb now q.0 (let same : now ≡ q.0 = ranked now q.0 Equal (sym e) in omega (arith, same)))
  where
    second : (a : Ordering) → nat_cmp requests q.1 ≡ a → is_le a ≡ false
    second Less f = absurd (let h : requests < q.1 = ranked requests q.1 Less (sym f) in omega (arith, h, l))
    second Equal f = absurd (let h : requests ≡ q.1 = ranked requests q.1 Equal (sym f) in omega (arith, h, l))
    second Greater f = refl
up_to now requests q Greater e l = sym (le-ltb now q.0 (let less : q.0 < now = ranked now q.0 Greater (sym e) in omega (arith, less)))

abbrev comes : ℕ → Due → Bool
comes now q = not (nat_lt now q.0)

-- the moment of the request has come
abbrev has_come : ℕ → Place × List Place → Bool
has_come now e = not (nat_lt now e.0.0)

any_flat : {X Y : Type 0} (p : Y → Bool) (f : X → List Y) (xs : List X) → list_any p (flat_map f xs) ≡ list_any (λ x. list_any p (f x)) xs
any_flat p f [] = refl
any_flat p f (x ∷ xs) = list_any-append p (f x) (flat_map f xs) ∙ ap (λ b. list_any p (f x) || b) (any_flat p f xs)

-- ---- the list of the records' entries
pub any_concat : {X : Type 0} (q : Due) (f : X → List Due) (xs : List X) → has_key due_cmp q (flat_map f xs) ≡ list_any (λ x. has_key due_cmp q (f x)) xs
any_concat q f [] = refl
any_concat q f (x ∷ xs) = list_any-append (is_at (due_cmp q)) (f x) (flat_map f xs) ∙ ap (λ b. has_key due_cmp q (f x) || b) (any_concat q f xs)

pub folded_key : (q : Due) (l ds : List Due) → has_key due_cmp q (fold (insert_key due_cmp) l ds) ≡ (has_key due_cmp q ds || has_key due_cmp q l)
folded_key q l [] = refl
folded_key q l (d ∷ ds) = folded_key q (insert_key due_cmp l d) ds ∙ ap (λ b. has_key due_cmp q ds || b) (has_put due_total due_exact q d l) ∙ or_swap (has_key due_cmp q ds) (is_at (due_cmp q) d) (has_key due_cmp q l) ∙ sym (or_assoc (is_at (due_cmp q) d) (has_key due_cmp q ds) (has_key due_cmp q l))

folded_sorted : (l ds : List Due) → IsStrictlySortedBy due_cmp l → IsStrictlySortedBy due_cmp (fold (insert_key due_cmp) l ds)
folded_sorted l [] s = s
folded_sorted l (d ∷ ds) s = folded_sorted (insert_key due_cmp l d) ds (sorted_put due_total l d s)

none_sorted : IsStrictlySortedBy due_cmp []
unfolding IsStrictlySortedBy
none_sorted = tt

module _ (q : Due) (now n : ℕ) where
  abbrev due_of : Place × Owed → Due
  due_of e = (e.1.deadline, n, e.0.0)

  abbrev listed : List (Place × Owed) → List Due
  listed es = map (λ (e : Pending). (e.deadline, n, e.face)) (filter (is_due now) (map entry_of (filter (is_of n) es)))

  -- an entry of the map that is due
  abbrev Found : List (Place × Owed) → Type 0
  Found pending = (comes now q ≡ true) × ((i : ℕ) × (at_place (q.2, i) pending ≡ Some (record { number = q.1; deadline = q.0 })))

  out_by : (pending : List (Place × Owed)) (e : Place × Owed) (es : List (Place × Owed)) (a b c : Bool) → (e.1.number == n) ≡ a → is_due now (entry_of e) ≡ b → is_at (due_cmp q) (due_of e) ≡ c → at_place e.0 pending ≡ Some e.1
      → (has_key due_cmp q (listed es) ≡ true → Found pending)
      → has_key due_cmp q (map (λ (x : Pending). (x.deadline, n, x.face)) (filter (is_due now) (map entry_of (cond a (e ∷ filter (is_of n) es) (filter (is_of n) es))))) ≡ true → Found pending
  out_by pending e es true true true f g h is ih some =
      let same : q ≡ due_of e = same_key due_total due_exact q (due_of e) h in
      let number : e.1.number ≡ q.1 = eqb-true _ _ f ∙ ap (λ (z : Due). z.1) (sym same) in (
        ap (comes now) same ∙ g,
        (e.0.1, (λ j. at_place ((same j).2, e.0.1) pending) ∙ is ∙ (λ j. Some (record { number = number j; deadline = (sym same j).0 }))),
      )
  out_by pending e es true true false f g h is ih some = ih (sym (ap (λ b. has_key due_cmp q (map (λ (x : Pending). (x.deadline, n, x.face)) (cond b (entry_of e ∷ filter (is_due now) (map entry_of (filter (is_of n) es))) (filter (is_due now) (map entry_of (filter (is_of n) es)))))) g ∙ ap (λ b. b || has_key due_cmp q (listed es)) h) ∙ some)
  out_by pending e es true false c f g h is ih some = ih (sym (ap (λ b. has_key due_cmp q (map (λ (x : Pending). (x.deadline, n, x.face)) (cond b (entry_of e ∷ filter (is_due now) (map entry_of (filter (is_of n) es))) (filter (is_due now) (map entry_of (filter (is_of n) es)))))) g) ∙ some)
  out_by pending e es false b c f g h is ih some = ih some

  out : (pending es : List (Place × Owed)) → AllByRecursion (λ e. at_place e.0 pending ≡ Some e.1) es → has_key due_cmp q (listed es) ≡ true → Found pending
  out pending [] all some = absurd (true≢false (sym some))
  out pending (e ∷ es) all some = out_by pending e es _ _ _ refl refl refl all.0 (out pending es all.1) some

module _ (q : Due) (now i : ℕ) (due : comes now q ≡ true) where
  abbrev v : Owed
  v = record { number = q.1; deadline = q.0 }

  in_by : (e : Place × Owed) (es : List (Place × Owed)) (a c : Bool) → (e.1.number == q.1) ≡ a → is_at (place_cmp (q.2, i)) e.0 ≡ c → cond c (Some e.1) (at_place (q.2, i) es) ≡ Some v
      → (at_place (q.2, i) es ≡ Some v → has_key due_cmp q (listed q now q.1 es) ≡ true)
      → has_key due_cmp q (map (λ (x : Pending). (x.deadline, q.1, x.face)) (filter (is_due now) (map entry_of (cond a (e ∷ filter (is_of q.1) es) (filter (is_of q.1) es))))) ≡ true
  in_by e es true true f h is ih =
      let at : (q.2, i) ≡ e.0 = same_key place_total place_exact (q.2, i) e.0 h in
      let value : e.1 ≡ v = cc in
      let passes : is_due now (entry_of e) ≡ true = ap (λ (w : Owed). not (nat_lt now w.deadline)) value ∙ due in
      let it : is_at (due_cmp q) (e.1.deadline, q.1, e.0.0) ≡ true = (λ j. is_at (due_cmp q) ((value j).deadline, q.1, (sym at j).0)) ∙ at_itself due_total due_exact q in
      rw (passes, it) refl
  in_by e es false true f h is ih =
      let value : e.1 ≡ v = cc in
      absurd (true≢false (sym (nat_eq_equiv.refl q.1) ∙ ap (λ (w : Owed). w.number == q.1) (sym value) ∙ f))
  in_by e es true false f h is ih = more (is_due now (entry_of e)) (ih is)
    where
      more : (b : Bool) → has_key due_cmp q (listed q now q.1 es) ≡ true → has_key due_cmp q (map (λ (x : Pending). (x.deadline, q.1, x.face)) (cond b (entry_of e ∷ filter (is_due now) (map entry_of (filter (is_of q.1) es))) (filter (is_due now) (map entry_of (filter (is_of q.1) es))))) ≡ true
      more true rest = ap (λ b. is_at (due_cmp q) (e.1.deadline, q.1, e.0.0) || b) rest ∙ or-true (is_at (due_cmp q) (e.1.deadline, q.1, e.0.0))
      more false rest = rest
  in_by e es false false f h is ih = ih is

  in_list : (es : List (Place × Owed)) → at_place (q.2, i) es ≡ Some v → has_key due_cmp q (listed q now q.1 es) ≡ true
  in_list [] is = absurd (cc)
  in_list (e ∷ es) is = in_by e es _ _ refl refl is (in_list es)

-- ---- what is owed at places
-- what is owed at one of the places stands in the list
there_by : (pending : List (Place × Owed)) (p : Place) (v : Owed) (x : Place) (ps : List Place) (b : Bool) → is_at (place_cmp p) x ≡ b → at_place p pending ≡ Some v → (b || lists p ps) ≡ true
    → (lists p ps ≡ true → has_key due_cmp (v.deadline, v.number, p.0) (filter_map (due_at pending) ps) ≡ true)
    → has_key due_cmp (v.deadline, v.number, p.0) (cons_option (due_at pending x) (filter_map (due_at pending) ps)) ≡ true
there_by pending p v x ps true e is h ih =
    let same : p ≡ x = same_key place_total place_exact p x e in
    let at : due_at pending x ≡ Some (v.deadline, v.number, p.0) = (λ j. option_map (λ (w : Owed). (w.deadline, w.number, (sym same j).0)) (at_place (sym same j) pending)) ∙ ap (option_map (λ (w : Owed). (w.deadline, w.number, p.0))) is in
    ap (λ o. has_key due_cmp (v.deadline, v.number, p.0) (cons_option o (filter_map (due_at pending) ps))) at
    ∙ ap (λ b. b || has_key due_cmp (v.deadline, v.number, p.0) (filter_map (due_at pending) ps)) (at_itself due_total due_exact (v.deadline, v.number, p.0))
there_by pending p v x ps false e is h ih = more (due_at pending x) (ih h)
  where
    more : (o : Option Due) → has_key due_cmp (v.deadline, v.number, p.0) (filter_map (due_at pending) ps) ≡ true → has_key due_cmp (v.deadline, v.number, p.0) (cons_option o (filter_map (due_at pending) ps)) ≡ true
    more None g = g
    more (Some d) g = ap (λ b. is_at (due_cmp (v.deadline, v.number, p.0)) d || b) g ∙ or-true (is_at (due_cmp (v.deadline, v.number, p.0)) d)

due_there : (pending : List (Place × Owed)) (p : Place) (v : Owed) (ps : List Place) → at_place p pending ≡ Some v → lists p ps ≡ true → has_key due_cmp (v.deadline, v.number, p.0) (filter_map (due_at pending) ps) ≡ true
due_there pending p v [] is h = absurd (true≢false (sym h))
due_there pending p v (x ∷ ps) is h = there_by pending p v x ps _ refl is h (due_there pending p v ps is)

-- and what stands in the list is owed at one of the places
abbrev OwedAt : List (Place × Owed) → Due → List Place → Type 0
OwedAt pending q ps = (p : Place) × (v : Owed) × (lists p ps ≡ true) × (at_place p pending ≡ Some v) × (q ≡ (v.deadline, v.number, p.0))

from_by : (pending : List (Place × Owed)) (q : Due) (x : Place) (ps : List Place) (r : Option Owed) → at_place x pending ≡ r → has_key due_cmp q (cons_option (option_map (λ (v : Owed). (v.deadline, v.number, x.0)) r) (filter_map (due_at pending) ps)) ≡ true
    → (has_key due_cmp q (filter_map (due_at pending) ps) ≡ true → OwedAt pending q ps) → OwedAt pending q (x ∷ ps)
from_by pending q x ps None e h ih = let t = ih h in (t.0, t.1, ap (λ b. is_at (place_cmp t.0) x || b) t.2 ∙ or-true (is_at (place_cmp t.0) x), t.3, t.4)
from_by pending q x ps (Some v) e h ih = step (is_at (due_cmp q) (v.deadline, v.number, x.0)) refl h
  where
    step : (c : Bool) → is_at (due_cmp q) (v.deadline, v.number, x.0) ≡ c → (c || has_key due_cmp q (filter_map (due_at pending) ps)) ≡ true → OwedAt pending q (x ∷ ps)
    step true f g = (x, v, ap (λ b. b || lists x ps) (at_itself place_total place_exact x), e, same_key due_total due_exact q (v.deadline, v.number, x.0) f)
    step false f g = let t = ih g in (t.0, t.1, ap (λ b. is_at (place_cmp t.0) x || b) t.2 ∙ or-true (is_at (place_cmp t.0) x), t.3, t.4)

owed_from : (pending : List (Place × Owed)) (q : Due) (ps : List Place) → has_key due_cmp q (filter_map (due_at pending) ps) ≡ true → OwedAt pending q ps
owed_from pending q [] h = absurd (true≢false (sym h))
owed_from pending q (x ∷ ps) h = from_by pending q x ps _ refl h (owed_from pending q ps)

module _ (heads : List (ℕ × Open)) (pending : List (Place × Owed)) (dues : Dues) (replies : List (ℕ × ℕ)) (tied : IsTied heads pending dues replies) (now : ℕ) where
  each_there : AllByRecursion (λ e. at_place e.0 pending ≡ Some e.1) pending
  each_there = each_entry place_total place_exact (λ e. at_place e.0 pending ≡ Some e.1) pending tied.places (λ k v h. h)

  any_head : (q : Due) → list_any (λ r. has_key due_cmp q (dues_of now r)) (records_of heads pending replies) ≡ list_any (λ e. has_key due_cmp q (listed q now e.0 pending)) heads
  any_head q = any_map (record_of pending replies) (λ r. has_key due_cmp q (dues_of now r)) heads

  from_heads : (q : Due) (hs : List (ℕ × Open)) → list_any (λ e. has_key due_cmp q (listed q now e.0 pending)) hs ≡ true → Found q now 0 pending
  from_heads q [] h = absurd (true≢false (sym h))
  from_heads q (e ∷ hs) h = by_head (has_key due_cmp q (listed q now e.0 pending)) refl h (from_heads q hs)
    where
      by_head : (b : Bool) → has_key due_cmp q (listed q now e.0 pending) ≡ b → (b || list_any (λ x. has_key due_cmp q (listed q now x.0 pending)) hs) ≡ true → (list_any (λ x. has_key due_cmp q (listed q now x.0 pending)) hs ≡ true → Found q now 0 pending) → Found q now 0 pending
      by_head true f g ih = out q now e.0 pending pending each_there f
      by_head false f g ih = ih g

  to_heads : (q : Due) (i : ℕ) (o : Option Open) → comes now q ≡ true → at_place (q.2, i) pending ≡ Some (record { number = q.1; deadline = q.0 }) → at_number q.1 heads ≡ o → IsSome o → list_any (λ e. has_key due_cmp q (listed q now e.0 pending)) heads ≡ true
  to_heads q i None due is f none = absurd (true≢false (sym none))
  to_heads q i (Some o) due is f some = one_has q.1 (λ n. has_key due_cmp q (listed q now n pending)) heads o f (in_list q now i due pending is)

  head_below : (n requests next : ℕ) (o : Option Open) → IsBelow heads replies requests next → at_number n heads ≡ o → IsSome o → n < requests
  head_below n requests next None below e none = absurd (true≢false (sym none))
  head_below n requests next (Some o) below e some = below.numbers n o e

  module _ (next requests : ℕ) (below : IsBelow heads replies requests next) where
    inside : (q : Place) (ps : List Place) → at_place q dues ≡ Some ps → range_contains place_cmp Unbounded (Excluded (now, requests)) q ≡ not (nat_lt now q.0)
    inside q ps h =
        let is = tied.entry q ps h in
        let l = head_below q.1 requests next _ below refl (tied.owned is.0 (record { number = q.1; deadline = q.0 }) is.1) in
        ap not (up_to now requests q _ refl l)

    until : dues_until now requests dues ≡ filter (has_come now) dues
    until = filter_members (λ e. range_contains place_cmp Unbounded (Excluded (now, requests)) e.0) (has_come now) dues
        (each_entry place_total place_exact (λ e. range_contains place_cmp Unbounded (Excluded (now, requests)) e.0 ≡ has_come now e) dues tied.due_order inside)

    -- ---- an entry is among the live places exactly where it is due
    module _ (k : Place) (v : Owed) (is : at_place k pending ≡ Some v) where
      abbrev owes : Place × List Place → Bool
      owes e = (v.number == e.0.1) && lists k e.1

      live_is : (e : Place × List Place) → lists k (live_of pending e) ≡ owes e
      live_is e = has_kept place_total place_exact (is_owed_at pending e.0.1) k e.1 ∙ ap (λ (o : Option Owed). option_map_or (λ (w : Owed). w.number == e.0.1) o false && lists k e.1) is

      any_live : (es : Dues) → list_any (λ e. lists k (live_of pending e)) es ≡ list_any owes es
      any_live [] = refl
      any_live (e ∷ es) = λ j. live_is e j || any_live es j

      due_of_by : (e : Place × List Place) (es : Dues) (a c : Bool) → has_come now e ≡ a → owes e ≡ c → at_place e.0 dues ≡ Some e.1 → (list_any owes (filter (has_come now) es) ≡ true → not (nat_lt now v.deadline) ≡ true)
          → list_any owes (cond a (e ∷ filter (has_come now) es) (filter (has_come now) es)) ≡ true → not (nat_lt now v.deadline) ≡ true
      due_of_by e es true true f g there ih some =
          let entry = tied.entry e.0 e.1 there in
          let same = tied.even k entry.0 v (record { number = e.0.1; deadline = e.0.0 }) is entry.1 (eqb-true _ _ (first_so _ _ g)) in
          ap (λ d. not (nat_lt now d)) same ∙ f
      due_of_by e es true false f g there ih some = ih (sym (ap (λ b. b || list_any owes (filter (has_come now) es)) g) ∙ some)
      due_of_by e es false c f g there ih some = ih some

      due_of_live : (es : Dues) → AllByRecursion (λ e. at_place e.0 dues ≡ Some e.1) es → list_any owes (filter (has_come now) es) ≡ true → not (nat_lt now v.deadline) ≡ true
      due_of_live [] all some = absurd (true≢false (sym some))
      due_of_live (e ∷ es) all some = due_of_by e es _ _ refl refl all.0 (due_of_live es all.1) some

      live_by : (ps : List Place) (e : Place × List Place) (es : Dues) (a c : Bool) → has_come now e ≡ a → is_at (place_cmp (v.deadline, v.number)) e.0 ≡ c → not (nat_lt now v.deadline) ≡ true → lists k ps ≡ true → cond c (Some e.1) (at_place (v.deadline, v.number) es) ≡ Some ps
          → (at_place (v.deadline, v.number) es ≡ Some ps → list_any owes (filter (has_come now) es) ≡ true)
          → list_any owes (cond a (e ∷ filter (has_come now) es) (filter (has_come now) es)) ≡ true
      live_by ps e es true true f g due among h ih =
          let at : (v.deadline, v.number) ≡ e.0 = same_key place_total place_exact (v.deadline, v.number) e.0 g in
          let value : e.1 ≡ ps = cc in
          let it : owes e ≡ true = λ j. eq-eqb v.number e.0.1 (ap (λ (z : Place). z.1) at) j && (ap (lists k) value ∙ among) j in
          rw it refl
      live_by ps e es false true f g due among h ih =
          let at : (v.deadline, v.number) ≡ e.0 = same_key place_total place_exact (v.deadline, v.number) e.0 g in
          absurd (true≢false (sym due ∙ ap (λ (z : Place). not (nat_lt now z.0)) at ∙ f))
      live_by ps e es true false f g due among h ih = ap (λ b. owes e || b) (ih h) ∙ or-true (owes e)
      live_by ps e es false false f g due among h ih = ih h

      live_of_due : (ps : List Place) (es : Dues) → not (nat_lt now v.deadline) ≡ true → lists k ps ≡ true → at_place (v.deadline, v.number) es ≡ Some ps → list_any owes (filter (has_come now) es) ≡ true
      live_of_due ps [] due among h = absurd (cc)
      live_of_due ps (e ∷ es) due among h = live_by ps e es _ _ refl refl due among h (live_of_due ps es due among)

      is_live : lists k (live_until now requests pending dues) ≡ not (nat_lt now v.deadline)
      is_live =
          any_flat (is_at (place_cmp k)) (live_of pending) (dues_until now requests dues)
          ∙ any_live (dues_until now requests dues)
          ∙ ap (list_any owes) until
          ∙ both_ways _ _
          (due_of_live dues (each_entry place_total place_exact (λ e. at_place e.0 dues ≡ Some e.1) dues tied.due_order (λ q ps h. h)))
          (λ due. let there = tied.due k v is in live_of_due there.0 dues due there.2 there.1)

    same_members : (q : Due) → has_key due_cmp q (filter_map (due_at pending) (live_until now requests pending dues)) ≡ has_key due_cmp q (dues_at now (records_of heads pending replies))
    same_members q =
        both_ways _ _
        (λ h. let t = owed_from pending q (live_until now requests pending dues) h in
        let at : at_place (q.2, t.0.1) pending ≡ Some (record { number = q.1; deadline = q.0 }) = (λ j. at_place ((t.4 j).2, t.0.1) pending) ∙ t.3 ∙ (λ j. Some (record { number = (sym t.4 j).1; deadline = (sym t.4 j).0 })) in
        let due : comes now q ≡ true = ap (comes now) t.4 ∙ sym (is_live t.0 t.1 t.3) ∙ t.2 in
        to_heads q t.0.1 (at_number q.1 heads) due at refl (tied.owned (q.2, t.0.1) (record { number = q.1; deadline = q.0 }) at))
        (λ h. let f = from_heads q heads h in
        due_there pending (q.2, f.1.0) (record { number = q.1; deadline = q.0 }) (live_until now requests pending dues) f.1.1 (is_live (q.2, f.1.0) (record { number = q.1; deadline = q.0 }) f.1.1 ∙ f.0))
        ∙ sym (folded_key q [] (flat_map (dues_of now) (records_of heads pending replies))
        ∙ or-false (has_key due_cmp q (flat_map (dues_of now) (records_of heads pending replies)))
        ∙ any_concat q (dues_of now) (records_of heads pending replies)
        ∙ any_head q)

    -- what is owed at the live places is what is due in the records, in order
    pub dues_are : (ds : List Due) → IsStrictlySortedBy due_cmp ds → ((q : Due) → has_key due_cmp q ds ≡ has_key due_cmp q (filter_map (due_at pending) (live_until now requests pending dues))) → ds ≡ dues_at now (records_of heads pending replies)
    dues_are ds sorted members =
        same_keys due_total due_exact ds (dues_at now (records_of heads pending replies)) sorted (folded_sorted [] (flat_map (dues_of now) (records_of heads pending replies)) none_sorted) (λ q. members q ∙ same_members q)

    -- ---- no entry is at one of the places and not due, or the other way round
    not_amiss : (a b : Bool) → a ≡ b → cond a (not b) b ≡ true → ⊥
    not_amiss true true e h = true≢false (sym h)
    not_amiss true false e h = true≢false e
    not_amiss false true e h = true≢false (sym e)
    not_amiss false false e h = true≢false (sym h)

    among_is : (k : Place) (w : Owed) (ps : List Place) → is_among ps (entry_of (k, w)) ≡ lists k ps
    among_is k w [] = refl
    among_is k w (p ∷ ps) = λ j. (same_place p.0 p.1 (k, w) ∙ either_way place_total place_exact p k) j || among_is k w ps j

    pub none_amiss : any_entry (is_amiss (live_until now requests pending dues) now) (records_of heads pending replies) ≡ false
    none_amiss =
        no_entry (is_amiss (live_until now requests pending dues) now) heads pending dues replies tied
        (λ k v h. not_amiss _ (is_due now (entry_of (k, v))) (among_is k v (live_until now requests pending dues) ∙ is_live k v h))
