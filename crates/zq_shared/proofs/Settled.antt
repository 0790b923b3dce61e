-- The reports of all replies of a request, and the slot that is free then.
use Rattle.std.proofs.Common.{◌≡◌, ◌≢◌, ℕ, ◌+◌, ◌<◌, Bool, true, false, cond, not, List, [], ◌∷◌, ◌++◌, map, length, set, Option, Some, None, refl, sym, ap, ◌∙◌, subst, arith, inl, inr, append-nil, append_assoc, eqb-true, ne_eqb, eq-eqb, get_or-set_same, get_or-set_other, length-set}
use mathlib.Core.Logic.{dite}
use native.Mathlib.Decide.{ℕ_discrete}
use Rattle.std.specs.Prelude.{◌⊎◌, ◌||◌, ◌&&◌, ◌==◌}
use Rattle.std.specs.List.{AllByRecursion, cons_option, list_any}
use Rattle.std.specs.List.Sorted.{IsStrictlySortedBy}
use Rattle.std.specs.Ordering.{nat_cmp}
use Rattle.std.proofs.Math.Bool.{or-false}
use Rattle.std.proofs.lemmas.Bool.{and_parts, false≢true, or_cases, or_left, or_right}
use Rattle.std.proofs.lemmas.List.{map-append}
use Rattle.std.proofs.lemmas.List.Folds.{list_any-append}
use Rattle.zq_hold.specs.declared.slot.Mark.{Mark}
use Rattle.zq_hold.specs.declared.slot.Mark.TheVariants.{Kept, Gone, Vacant}
use Rattle.zq_hold.specs.Marks.{HasMark, mark_at}
use Rattle.zq_hold.specs.Slots.{stood, times, weight, without}
use Rattle.zq_hold.proofs.Totals.{times_without_other, times_without_same}
use Rattle.zq_hold.specs.Owners.{IsSlotted, Slotted, owned, owner_at}
use Rattle.zq_hold.proofs.Owning.{owned_set}
use Rattle.zq_query.specs.Records.{is_reply}
use Rattle.zq_machine.specs.declared.call.Call.{Call}
use Rattle.zq_machine.specs.declared.call.Call.TheVariants as call
use Rattle.zq_machine.specs.Handing.{Handed}
use Rattle.zq_machine.specs.Machine.{done}
use Rattle.zq_machine.proofs.Lists.{sorted_more}
use Rattle.zq_shared.specs.Stored.{IsOpen, Stored, answer_to, in_flight, waiting, with_call}
use Rattle.zq_shared.specs.Ties.{AreWaiting, IsNearlyTied, IsTied, is_used}
use Rattle.zq_shared.proofs.Holding.{has_owner}
use Rattle.zq_shared.proofs.Moves.{waits_still}
use Rattle.zq_shared.proofs.Ties.{counted_set, mark_is, other_mark, zero_if}
use Rattle.zq_shared.specs.Keeping.{KeepsOthers, KeepsTies, Reported}
use Rattle.zq_shared.specs.Sharing.{AreDue, IsSameHolds, KeepsFlights, Reports, reports, slot_vacated, with_reports}
use Rattle.zq_shared.proofs.Reporting.{landed, other_stays, report_keeps}
use Rattle.zq_shared.proofs.Due.{due_append, due_report}

-- ---- one report after another
same_stored : (s : Stored) → s ≡ with_reports s []
same_stored s = ap (λ (l : List Call). record s { calls = l }) (sym (append-nil s.calls))

sorted_nil : IsStrictlySortedBy nat_cmp []
unfolding IsStrictlySortedBy
sorted_nil = tt

pub reported_none : (s : Stored) (n : ℕ) → Reported s n None s []
reported_none s n = record {
  all = λ k. refl;
  rising = sorted_nil;
  behind = λ j k none. absurd (false≢true none);
  stored = same_stored s;
  ends = inl (refl, refl);
  keeps = λ m t waits unowned. (t, waits);
  others = λ m r other flown. flown;
  quiet = λ none. none;
  due = λ none. tt;
}

-- what is among the numbers has what all of them have
below_all : (P : ℕ → Type 0) (ks : List ℕ) → ((j : ℕ) → list_any (is_reply j) ks ≡ true → P j) → AllByRecursion P ks
below_all P [] holds = tt
below_all P (x ∷ xs) holds = (holds x (or_left (is_reply x x) (list_any (is_reply x) xs) (eq-eqb x x refl)), below_all P xs (λ j there. holds j (or_right (is_reply j x) (list_any (is_reply j) xs) there)))

with_one : (s : Stored) (ks : List ℕ) (k : ℕ) → with_call (with_reports s ks) (call.Sent k) ≡ with_reports s (ks ++ k ∷ [])
with_one s ks k =
    ap (λ (l : List Call). record s { calls = l })
    (append_assoc s.calls (map (λ i. call.Sent i) ks) (call.Sent k ∷ []) ∙ ap (λ (l : List Call). s.calls ++ l) (sym (map-append (λ i. call.Sent i) ks (k ∷ []))))

module _ (s : Stored) (n : ℕ) (answer : Option Handed) (now : Stored) (ks : List ℕ) (done_so_far : Reported s n answer now ks)
    (k : ℕ) (flown : in_flight now n k ≡ true) (least : (earlier : ℕ) → earlier < k → in_flight now n earlier ≡ false)
    (next : Option Handed) (answers : answer_to now (call.Sent k) ≡ done (cons_option next [])) (new : Stored) (is : new ≡ with_call now (call.Sent k)) where
  after_report : (j : ℕ) → in_flight new n j ≡ (in_flight now n j && not (is_reply k j))
  after_report j = ap (λ (x : Stored). in_flight x n j) is ∙ landed now k (cons_option next []) answers n j

  pub reported_more : Reported s n next new (ks ++ k ∷ [])
  reported_more = record {
    all = λ j. done_so_far.all j ∙ (all j (j == k) refl ∙ (λ i. sym (list_any-append (is_reply j) ks (k ∷ [])) i || sym (after_report j) i));
    rising = sorted_more k ks done_so_far.rising (below_all (λ j. j < k) ks (λ j there. done_so_far.behind j k there flown));
    behind = λ i j there flies_on. behind i j (or_cases (list_any (is_reply i) ks) (list_any (is_reply i) (k ∷ [])) (sym (list_any-append (is_reply i) ks (k ∷ [])) ∙ there)) (and_parts (in_flight now n j) (not (is_reply k j)) (sym (after_report j) ∙ flies_on));
    stored = is ∙ (ap (λ x. with_call x (call.Sent k)) done_so_far.stored ∙ with_one s ks k);
    ends = inr (ks, k, refl, ap (λ x. answer_to x (call.Sent k)) (sym done_so_far.stored) ∙ answers);
    keeps = λ m t waits unowned. (let before = done_so_far.keeps m t waits unowned in subst (λ x. IsNearlyTied (Some n) x m × AreWaiting x m) (sym is) (report_keeps now k (cons_option next []) answers n flown m before.0 before.1 unowned));
    others = λ m r other flies_on. ap (λ (x : Stored). in_flight x m r) is ∙ other_stays now k (cons_option next []) answers n flown m r other (done_so_far.others m r other flies_on);
    quiet = λ none. zero_if (waiting new n) (λ some. (let old = waits_still now (call.Sent k) refl n (subst (λ x. 0 < waiting x n) is some) in let was = done_so_far.quiet none in absurd (omega (arith, old, was))));
    due = λ none. subst (AreDue s) (sym (map-append (λ i. call.Sent i) ks (k ∷ [])))
        (due_append s (reports ks) (call.Sent k ∷ []) (done_so_far.due none)
        (subst (λ x. AreDue x (call.Sent k ∷ [])) done_so_far.stored (due_report now k n flown (done_so_far.quiet none))));
  }
    where
      all : (j : ℕ) (b : Bool) → (j == k) ≡ b → (list_any (is_reply j) ks || in_flight now n j) ≡ ((list_any (is_reply j) ks || ((k == j) || false)) || (in_flight now n j && not (j == k)))
      all j true e =
          let same = eqb-true j k e in
          let here : in_flight now n j ≡ true = ap (in_flight now n) same ∙ flown in
          or_right (list_any (is_reply j) ks) (in_flight now n j) here
          ∙ sym (or_left (list_any (is_reply j) ks || ((k == j) || false)) (in_flight now n j && not (j == k)) (or_right (list_any (is_reply j) ks) ((k == j) || false) (or_left (k == j) false (eq-eqb k j (sym same)))))
      all j false e =
          (λ i. sym (or-false (list_any (is_reply j) ks)) i || sym (and_one (in_flight now n j)) i)
          ∙ (λ i. (list_any (is_reply j) ks || (sym turned i || false)) || (in_flight now n j && not (sym e i)))
        where
          turned : (k == j) ≡ false
          turned = ne_eqb k j (λ same. false≢true (sym e ∙ eq-eqb j k (sym same)))

          and_one : (b : Bool) → (b && true) ≡ b
          and_one true = refl
          and_one false = refl

      apart : (j : ℕ) → not (j == k) ≡ true → k ≢ j
      apart j h e = false≢true (sym (ap not (eq-eqb j k (sym e))) ∙ h)

      behind : (i j : ℕ) → ((list_any (is_reply i) ks ≡ true) ⊎ (list_any (is_reply i) (k ∷ []) ≡ true)) → (in_flight now n j ≡ true) × (not (is_reply k j) ≡ true) → i < j
      behind i j (inl there) flies_on = done_so_far.behind i j there flies_on.0
      behind i j (inr here) flies_on = by (or_cases (k == i) false here)
        where
          late : j < k → ⊥
          late early = false≢true (sym (least j early) ∙ flies_on.0)

          by : (((k == i) ≡ true) ⊎ (false ≡ true)) → i < j
          by (inl same) = let e = eqb-true k i same in let ne = apart j flies_on.1 in omega (arith, late, e, ne)
          by (inr none) = absurd (false≢true none)

-- once none is in flight, all were reported
pub reported_all : (s : Stored) (n : ℕ) (answer : Option Handed) (now : Stored) (ks : List ℕ) → Reported s n answer now ks → ((k : ℕ) → in_flight now n k ≡ false) → waiting s n ≡ 0 → Reports s n answer now ks
reported_all s n answer now ks done_so_far none idle = record {
  due = done_so_far.due idle;
  all = λ k. done_so_far.all k ∙ ((λ i. list_any (is_reply k) ks || none k i) ∙ or-false (list_any (is_reply k) ks));
  rising = done_so_far.rising;
  stored = done_so_far.stored;
  ends = done_so_far.ends;
}

-- ---- the slot is free
module _ (s : Stored) (m : Slotted) (t : IsTied s m) (k : ℕ) (mark : HasMark Gone m.keeper.marks k) (slotted : IsSlotted m.keeper.marks m.owners) where
  inside : k < length m.owners
  inside = let wide = slotted.wide in let at = mark.0 in omega (arith, wide, at)

  other_owner : (j n : ℕ) → owner_at (set m.owners k None) j ≡ Some n → (j ≢ k) × (owner_at m.owners j ≡ Some n)
  other_owner j n owner = dite (ℕ_discrete j k)
      (λ (e : j ≡ k). (let clash : ◌≡◌ {A = Option ℕ} None (Some n) = sym (get_or-set_same m.owners k None None inside) ∙ (ap (owner_at (set m.owners k None)) (sym e) ∙ owner) in absurd (cc)))
      (λ (ne : j ≢ k). (ne, sym (get_or-set_other m.owners k j None None ne) ∙ owner))

  still_owner : (j n : ℕ) → j ≢ k → owner_at m.owners j ≡ Some n → owner_at (set m.owners k None) j ≡ Some n
  still_owner j n ne owner = get_or-set_other m.owners k j None None ne ∙ owner

  other : (w : Mark) (j : ℕ) → (Vacant ≡ w → ⊥) → HasMark w (set m.keeper.marks k Vacant) j → (j ≢ k) × HasMark w m.keeper.marks j
  other w j apart has = dite (ℕ_discrete j k)
      (λ (e : j ≡ k). absurd (apart (mark_is w m.keeper.marks k Vacant mark.0 (subst (λ i. HasMark w (set m.keeper.marks k Vacant) i) e has))))
      (λ (ne : j ≢ k). (ne, other_mark w m.keeper.marks k Vacant j ne has))

  not_gone : (j : ℕ) → HasMark Kept m.keeper.marks j → j ≢ k
  not_gone j kept e = let clash : Kept ≡ Gone = sym kept.1 ∙ (ap (mark_at m.keeper.marks) e ∙ mark.1) in absurd (cc)

  -- tied but for the one whose slot it was
  vacated_nearly : (but : Option ℕ) → ((n : ℕ) → IsOpen s n → 0 < owned n (set m.owners k None) + stood n but) → IsNearlyTied but s (slot_vacated m k)
  vacated_nearly but opened = record {
    kept = λ j has. (let old = other Kept j (λ e. cc) has in let was = t.nearly.kept j old.1 in (was.0, still_owner j was.0 old.0 was.1));
    gone = λ j n has owner. (let old = other Gone j (λ e. cc) has in let owns = other_owner j n owner in t.nearly.gone j n old.1 owns.1);
    asked = λ j n owner. t.nearly.asked j n (other_owner j n owner).1;
    opened = opened;
    lent = λ j some. (dite (ℕ_discrete j k)
        (λ (e : j ≡ k). (let none = ap (λ i. times i (without k m.keeper.lent)) e ∙ times_without_same k m.keeper.lent in absurd (omega (arith, some, none))))
        (λ (ne : j ≢ k). (let same = times_without_other j k m.keeper.lent ne in let was = t.nearly.lent j (omega (arith, some, same)) in (was.0, still_owner j was.0 ne was.1, was.2, was.3))));
    used = (let set = counted_set m.keeper.marks k Vacant mark.0 in let was = ap {B = ℕ} (λ w. cond (is_used w) 1 0) mark.1 in let few = t.nearly.used in omega (arith, set, was, few));
  }

  vacated_waits : AreWaiting s (slot_vacated m k)
  vacated_waits j n has owner = let old = other Kept j (λ e. cc) has in t.waits j n old.1 (other_owner j n owner).1

  -- a reply in flight of another slot keeps its slot's owner
  other_owned : (j n : ℕ) → (◌≡◌ {A = Option ℕ} (Some k) (Some j) → ⊥) → owner_at m.owners j ≡ Some n → owner_at (set m.owners k None) j ≡ Some n
  other_owned j n but owner = still_owner j n (λ e. but (ap (λ i. Some i) (sym e))) owner

  -- nobody owned it
  pub unowned_flights : KeepsFlights (Some k) (record { stored = s; slots = m }) (record { stored = s; slots = slot_vacated m k })
  unowned_flights j n r but owner flown = (other_owned j n but owner, flown)

  pub vacated_unowned : owner_at m.owners k ≡ None → IsTied s (slot_vacated m k)
  vacated_unowned free = record {
    nearly = vacated_nearly None (λ n stands. (let set = owned_set n m.owners k None inside in let none = ap (stood n) free in let was = t.nearly.opened n stands in omega (arith, set, none, was)));
    waits = vacated_waits;
  }

  -- the request owned it, all of whose replies in flight are reported
  module _ (n : ℕ) (owner : owner_at m.owners k ≡ Some n) where
    alone : owned n (set m.owners k None) ≡ 0
    alone = let set = owned_set n m.owners k None inside in let one : stood n (owner_at m.owners k) ≡ 1 = ap (stood n) owner ∙ ap weight (eq-eqb n n refl) in let once = slotted.once n in omega (arith, set, one, once)

    pub vacated_flights : (new : Stored) → KeepsOthers s n new → KeepsFlights (Some k) (record { stored = s; slots = m }) (record { stored = new; slots = slot_vacated m k })
    vacated_flights new others j o r but owns flown =
        let still = other_owned j o but owns in
        (still, others o r (λ e. (let some = has_owner o (set m.owners k None) j still in let same = ap (λ i. owned i (set m.owners k None)) e in let none = alone in omega (arith, some, same, none))) flown)

    pub vacated_tied : (new : Stored) → KeepsTies s n new → waiting new n ≡ 0 → ((r : ℕ) → in_flight new n r ≡ false) → IsTied new (slot_vacated m k)
    vacated_tied new keeps quiet none = record {
      nearly = record {
        kept = tied.0.kept;
        gone = tied.0.gone;
        asked = tied.0.asked;
        opened = λ o stands. opened o stands (n == o) refl (tied.0.opened o stands);
        lent = tied.0.lent;
        used = tied.0.used;
      };
      waits = tied.1;
    }
      where
        but : (o : ℕ) → IsOpen s o → 0 < owned o (set m.owners k None) + stood o (Some n)
        but o stands =
            let set = owned_set o m.owners k None inside in
            let mine = ap (stood o) owner in
            let was = t.nearly.opened o stands in
            omega (arith, set, mine, was)

        tied : IsNearlyTied (Some n) new (slot_vacated m k) × AreWaiting new (slot_vacated m k)
        tied = keeps (slot_vacated m k) (vacated_nearly (Some n) but) vacated_waits alone

        closed : IsOpen new n → ⊥
        closed (inl some) = omega (arith, some, quiet)
        closed (inr flown) = false≢true (sym (none flown.0) ∙ flown.1)

        opened : (o : ℕ) → IsOpen new o → (b : Bool) → (n == o) ≡ b → 0 < owned o (set m.owners k None) + stood o (Some n) → 0 < owned o (set m.owners k None) + stood o None
        opened o stands true f some = absurd (closed (subst (IsOpen new) (sym (eqb-true n o f)) stands))
        opened o stands false f some = let zeroth : stood o (Some n) ≡ 0 = ap weight f in omega (arith, some, zeroth)

-- the same holds, with as many slots
pub vacated_same : (m : Slotted) (k : ℕ) → IsSameHolds m (slot_vacated m k)
vacated_same m k = (refl, length-set m.keeper.marks k Vacant, length-set m.owners k None)
