-- The slots and the open requests, once a call is stored or a slot changes.
use Rattle.std.proofs.Common.{◌≡◌, ◌≢◌, ℕ, zero, suc, ◌+◌, ◌<◌, Bool, true, false, cond, List, [], ◌∷◌, ◌++◌, length, set, replicate, Option, Some, None, eqb, refl, sym, ap, ◌∙◌, subst, arith, eqb-true, eq-eqb, length-set, get_or-set_same, get_or-set_other, inl, inr}
use mathlib.Core.Logic.{dite}
use native.Mathlib.Decide.{ℕ_discrete}
use Rattle.std.specs.Prelude.{◌⊎◌}
use Rattle.std.proofs.lemmas.Bool.{false≢true}
use Rattle.std.proofs.lemmas.List.{set-set}
use Rattle.std.proofs.Math.ListN.{length-replicate, get_or-replicate}
use Rattle.zq_query.specs.Records.{Pending}
use Rattle.zq_hold.specs.declared.slot.Mark.{Mark}
use Rattle.zq_hold.specs.declared.slot.Mark.TheVariants.{Spare, Kept, Gone, Vacant}
use Rattle.zq_hold.specs.Marks.{HasMark, mark_at}
use Rattle.zq_hold.specs.Slots.{stood, times, weight}
use Rattle.zq_hold.specs.Owners.{Slotted, owned, owner_at, with_mark, with_owner}
use Rattle.zq_hold.proofs.Owning.{owned_set}
use Rattle.zq_machine.specs.declared.call.Call.{Call}
use Rattle.zq_machine.specs.declared.call.Outcome.TheVariants as outcome
use Rattle.zq_machine.specs.Calls.{is_sent}
use Rattle.zq_machine.specs.Waiting.{ends_entry}
use Rattle.zq_machine.proofs.Lists.{count, count_append, count_more}
use Rattle.zq_shared.specs.Stored.{IsOpen, Stored, answer_to, asks_request, requests_in, waiting, with_call}
use Rattle.zq_shared.specs.Ties.{IsNearlyTied, IsSending, IsTied, is_used}
use Rattle.zq_shared.proofs.Frames.{request_of}
use Rattle.zq_shared.proofs.Moves.{flies_stays, next_given, next_grows, open_before, waits_before, waits_stays, waits_still}

pub zero_if : (x : ℕ) → (0 < x → ⊥) → x ≡ 0
zero_if zero none = refl
zero_if (suc x) none = absurd (none (omega arith))

-- ---- marks, once one of them changes
pub other_mark : (m : Mark) (marks : List Mark) (k : ℕ) (w : Mark) (j : ℕ) → j ≢ k → HasMark m (set marks k w) j → HasMark m marks j
other_mark m marks k w j ne has = (subst (λ n. j < n) (length-set marks k w) has.0, sym (get_or-set_other marks k j w Vacant ne) ∙ has.1)

pub mark_is : (m : Mark) (marks : List Mark) (k : ℕ) (w : Mark) → k < length marks → HasMark m (set marks k w) k → w ≡ m
mark_is m marks k w inside has = sym (get_or-set_same marks k w Vacant inside) ∙ has.1

pub counted_set : (marks : List Mark) (k : ℕ) (w : Mark) → k < length marks → count is_used (set marks k w) + cond (is_used (mark_at marks k)) 1 0 ≡ count is_used marks + cond (is_used w) 1 0
counted_set [] k w h = absurd (omega arith)
counted_set (x ∷ xs) zero w h = let old = count_more is_used x xs in let new = count_more is_used w xs in omega (arith, old, new)
counted_set (x ∷ xs) (suc k) w h = let ih = counted_set xs k w (omega arith) in let old = count_more is_used x xs in let new = count_more is_used x (set xs k w) in omega (arith, ih, old, new)

pub requests_more : (cs : List Call) (c : Call) → requests_in (cs ++ c ∷ []) ≡ requests_in cs + cond (asks_request c) 1 0
requests_more cs c = let both = count_append asks_request cs (c ∷ []) in let one = count_more asks_request c [] in omega (arith, both, one)

-- ---- a call is stored that asks nothing and reports nothing
module _ (s : Stored) (c : Call) (m : Slotted) (t : IsTied s m) where
  pub told_nearly : asks_request c ≡ false → is_sent c ≡ false → IsNearlyTied None (with_call s c) m
  told_nearly asks sends = record {
    kept = t.nearly.kept;
    gone = λ k n mark owner. zero_if (waiting (with_call s c) n) (λ some. (let old = waits_still s c asks n some in let was = t.nearly.gone k n mark owner in absurd (omega (arith, old, was))));
    asked = λ k n owner. (let grows = next_grows s c in let was = t.nearly.asked k n owner in omega (arith, grows, was));
    opened = λ n stands. opened n (open_before s c n stands);
    lent = λ k some. (let was = t.nearly.lent k some in (was.0, was.1, was.2, flies_stays s c sends was.0 was.2 was.3));
    used = (let more = requests_more s.calls c in let was = t.nearly.used in omega (arith, more, was));
  }
    where
      opened : (n : ℕ) → IsOpen s n ⊎ ((asks_request c ≡ true) × ((answer_to s c).outcome ≡ outcome.Asked n) × (0 < waiting (with_call s c) n)) → 0 < owned n m.owners + stood n None
      opened n (inl old) = t.nearly.opened n old
      opened n (inr asked) = absurd (false≢true (sym asks ∙ asked.0))

-- ---- a slot is lent, or let go
module _ (s : Stored) (m : Slotted) (t : IsNearlyTied None s m) (k : ℕ) where
  pub lent_nearly : IsSending s m k → IsNearlyTied None s (record m { keeper = record m.keeper { lent = k ∷ m.keeper.lent } })
  lent_nearly sending = record {
    kept = t.kept;
    gone = t.gone;
    asked = t.asked;
    opened = t.opened;
    used = t.used;
    lent = λ j some. by j (eqb k j) refl some;
  }
    where
      by : (j : ℕ) (b : Bool) → eqb k j ≡ b → 0 < weight b + times j m.keeper.lent → IsSending s m j
      by j true e some = subst (λ i. IsSending s m i) (eqb-true k j e) sending
      by j false e some = t.lent j (omega (arith, some))

  pub released_nearly : (n ended : ℕ) → HasMark Kept m.keeper.marks k → owner_at m.owners k ≡ Some n → waiting s n ≡ 0
      → IsNearlyTied None s (record m { keeper = record m.keeper { marks = set m.keeper.marks k Gone; ended = ended } })
  released_nearly n ended mark owner none = record {
    kept = λ j has. (dite (ℕ_discrete j k)
        (λ (e : j ≡ k). (let clash : Gone ≡ Kept = mark_is Kept m.keeper.marks k Gone mark.0 (subst (λ i. HasMark Kept (set m.keeper.marks k Gone) i) e has) in absurd (cc)))
        (λ (ne : j ≢ k). t.kept j (other_mark Kept m.keeper.marks k Gone j ne has)));
    gone = λ j n' has is. (dite (ℕ_discrete j k)
        (λ (e : j ≡ k). (let same : ◌≡◌ {A = Option ℕ} (Some n) (Some n') = sym owner ∙ (ap (owner_at m.owners) (sym e) ∙ is) in let eq : n ≡ n' = cc in ap (waiting s) (sym eq) ∙ none))
        (λ (ne : j ≢ k). t.gone j n' (other_mark Gone m.keeper.marks k Gone j ne has) is));
    asked = t.asked;
    opened = t.opened;
    lent = t.lent;
    used = (let set = counted_set m.keeper.marks k Gone mark.0 in let was = ap {B = ℕ} (λ w. cond (is_used w) 1 0) mark.1 in let few = t.used in omega (arith, set, was, few));
  }

-- ---- a request is asked
quiet_request : (c : Call) → asks_request c ≡ true → (e : Pending) → ends_entry c e ≡ false
quiet_request c asks e = let q = request_of c asks in ap (λ (y : Call). ends_entry y e) q.3

unsent_request : (c : Call) → asks_request c ≡ true → is_sent c ≡ false
unsent_request c asks = let q = request_of c asks in ap is_sent q.3

module _ (s : Stored) (c : Call) (m : Slotted) (t : IsTied s m) (asks : asks_request c ≡ true) where
  was_zero : (k n : ℕ) → HasMark Gone m.keeper.marks k → owner_at m.owners k ≡ Some n → waiting (with_call s c) n ≡ 0
  was_zero k n mark owner = zero_if (waiting (with_call s c) n) (λ some. by (waits_before s c n some))
    where
      by : ((0 < waiting s n) ⊎ ((asks_request c ≡ true) × ((answer_to s c).outcome ≡ outcome.Asked n))) → ⊥
      by (inl old) = let was = t.nearly.gone k n mark owner in absurd (omega (arith, old, was))
      by (inr new) = let next = (next_given s c n asks new.1).0 in let was = t.nearly.asked k n owner in absurd (omega (arith, next, was))

  -- it waits for nothing
  pub quiet_tied : ((n : ℕ) → (answer_to s c).outcome ≡ outcome.Asked n → waiting (with_call s c) n ≡ 0) → IsTied (with_call s c) m
  quiet_tied quiet = record {
    nearly = record {
      kept = t.nearly.kept;
      gone = was_zero;
      asked = λ k n owner. (let grows = next_grows s c in let was = t.nearly.asked k n owner in omega (arith, grows, was));
      opened = λ n stands. opened n (open_before s c n stands);
      lent = λ k some. (let was = t.nearly.lent k some in (was.0, was.1, was.2, flies_stays s c (unsent_request c asks) was.0 was.2 was.3));
      used = (let more = requests_more s.calls c in let was = t.nearly.used in omega (arith, more, was));
    };
    waits = λ k n mark owner. waits_stays s c (quiet_request c asks) n (t.waits k n mark owner);
  }
    where
      opened : (n : ℕ) → IsOpen s n ⊎ ((asks_request c ≡ true) × ((answer_to s c).outcome ≡ outcome.Asked n) × (0 < waiting (with_call s c) n)) → 0 < owned n m.owners + stood n None
      opened n (inl old) = t.nearly.opened n old
      opened n (inr new) = let none = quiet n new.1 in let some = new.2 in absurd (omega (arith, none, some))

  -- it waits for entries, and owns the slot that was allotted
  module _ (k n : ℕ) (inside : k < length m.keeper.marks) (wide : length m.owners ≡ length m.keeper.marks) (free : owner_at m.owners k ≡ None) (unlent : times k m.keeper.lent ≡ 0) where
    abbrev owners : List (Option ℕ)
    owners = set m.owners k (Some n)

    abbrev given : Slotted
    given = with_owner (with_mark m k Kept) k (Some n)

    here : owner_at owners k ≡ Some n
    here = get_or-set_same m.owners k (Some n) None (omega (arith, inside, wide))

    there : (j : ℕ) → j ≢ k → owner_at owners j ≡ owner_at m.owners j
    there j ne = get_or-set_other m.owners k j (Some n) None ne

    pub given_tied : (answer_to s c).outcome ≡ outcome.Asked n → 0 < waiting (with_call s c) n → IsTied (with_call s c) given
    given_tied is some = record {
      nearly = record {
        kept = λ j has. (dite (ℕ_discrete j k)
            (λ (e : j ≡ k). (n, ap (owner_at owners) e ∙ here))
            (λ (ne : j ≢ k). (let old = t.nearly.kept j (other_mark Kept m.keeper.marks k Kept j ne has) in (old.0, there j ne ∙ old.1))));
        gone = λ j n' has owner. (dite (ℕ_discrete j k)
            (λ (e : j ≡ k). (let clash : Kept ≡ Gone = mark_is Gone m.keeper.marks k Kept inside (subst (λ i. HasMark Gone (set m.keeper.marks k Kept) i) e has) in absurd (cc)))
            (λ (ne : j ≢ k). was_zero j n' (other_mark Gone m.keeper.marks k Kept j ne has) (sym (there j ne) ∙ owner)));
        asked = λ j n' owner. (dite (ℕ_discrete j k)
            (λ (e : j ≡ k). (let same : ◌≡◌ {A = Option ℕ} (Some n) (Some n') = sym here ∙ (ap (owner_at owners) (sym e) ∙ owner) in let eq : n ≡ n' = cc in let next = (next_given s c n asks is).1 in omega (arith, eq, next)))
            (λ (ne : j ≢ k). (let grows = next_grows s c in let was = t.nearly.asked j n' (sym (there j ne) ∙ owner) in omega (arith, grows, was))));
        opened = λ n' stands. opened n' (open_before s c n' stands);
        lent = λ j lent. (dite (ℕ_discrete j k)
            (λ (e : j ≡ k). (let none = ap (λ i. times i m.keeper.lent) e ∙ unlent in absurd (omega (arith, lent, none))))
            (λ (ne : j ≢ k). (let was = t.nearly.lent j lent in (was.0, there j ne ∙ was.1, was.2, flies_stays s c (unsent_request c asks) was.0 was.2 was.3))));
        used = (let more = requests_more s.calls c in let one = ap {B = ℕ} (λ b. cond b 1 0) asks in let set = counted_set m.keeper.marks k Kept inside in let was = t.nearly.used in omega (arith, more, one, set, was));
      };
      waits = λ j n' has owner. (dite (ℕ_discrete j k)
          (λ (e : j ≡ k). (let same : ◌≡◌ {A = Option ℕ} (Some n) (Some n') = sym here ∙ (ap (owner_at owners) (sym e) ∙ owner) in let eq : n ≡ n' = cc in subst (λ i. 0 < waiting (with_call s c) i) eq some))
          (λ (ne : j ≢ k). waits_stays s c (quiet_request c asks) n' (t.waits j n' (other_mark Kept m.keeper.marks k Kept j ne has) (sym (there j ne) ∙ owner))));
    }
      where
        opened : (n' : ℕ) → IsOpen s n' ⊎ ((asks_request c ≡ true) × ((answer_to s c).outcome ≡ outcome.Asked n') × (0 < waiting (with_call s c) n')) → 0 < owned n' owners + stood n' None
        opened n' (inl old) =
            let was = t.nearly.opened n' old in
            let set = owned_set n' m.owners k (Some n) (omega (arith, inside, wide)) in
            let none = ap (stood n') free in
            omega (arith, was, set, none)
        opened n' (inr new) =
            let same : outcome.Asked n ≡ outcome.Asked n' = sym is ∙ new.1 in
            let eq : n ≡ n' = cc in
            let set = owned_set n' m.owners k (Some n) (omega (arith, inside, wide)) in
            let none = ap (stood n') free in
            let one : stood n' (Some n) ≡ 1 = ap weight (eq-eqb n n' eq) in
            omega (arith, set, none, one)

-- ---- a slot that was allotted in vain is spare
module _ (s : Stored) (m : Slotted) (t : IsTied s m) (k : ℕ) (inside : k < length m.keeper.marks) where
  marks_back : set (set m.keeper.marks k Kept) k Spare ≡ set m.keeper.marks k Spare
  marks_back = set-set m.keeper.marks k Kept Spare

  pub back_tied : IsTied s (with_mark (with_mark m k Kept) k Spare)
  back_tied = subst (λ (l : List Mark). IsTied s (record m { keeper = record m.keeper { marks = l } })) (sym marks_back) (record {
    nearly = record {
      kept = λ j has. t.nearly.kept j (other Kept j has (λ e. cc));
      gone = λ j n has owner. t.nearly.gone j n (other Gone j has (λ e. cc)) owner;
      asked = t.nearly.asked;
      opened = t.nearly.opened;
      lent = t.nearly.lent;
      used = (let set = counted_set m.keeper.marks k Spare inside in let was = t.nearly.used in omega (arith, set, was));
    };
    waits = λ j n has owner. t.waits j n (other Kept j has (λ e. cc)) owner;
  })
    where
      other : (w : Mark) (j : ℕ) → HasMark w (set m.keeper.marks k Spare) j → (Spare ≡ w → ⊥) → HasMark w m.keeper.marks j
      other w j has apart = dite (ℕ_discrete j k)
          (λ (e : j ≡ k). absurd (apart (mark_is w m.keeper.marks k Spare inside (subst (λ i. HasMark w (set m.keeper.marks k Spare) i) e has))))
          (λ (ne : j ≢ k). other_mark w m.keeper.marks k Spare j ne has)

-- ---- nothing was asked yet
pub first_tied : (config : _) (slots : ℕ) (m : Slotted) → m.keeper.marks ≡ replicate slots Spare → m.owners ≡ replicate slots None → m.keeper.lent ≡ [] → ((n : ℕ) → IsOpen (record { config = config; calls = [] }) n → ⊥) → IsTied (record { config = config; calls = [] }) m
first_tied config slots m marks unowned_all lent none = record {
  nearly = record {
    kept = λ k has. (let clash : Spare ≡ Kept = spare Kept k has in absurd (cc));
    gone = λ k n has owner. (let clash : Spare ≡ Gone = spare Gone k has in absurd (cc));
    asked = λ k n owner. absurd (unowned k n owner);
    opened = λ n stands. absurd (none n stands);
    lent = λ k some. (let empty = ap (times k) lent in absurd (omega (arith, some, empty)));
    used = (let zeroth = ap (count is_used) marks ∙ none_used slots in omega (arith, zeroth));
  };
  waits = λ k n has owner. (let clash : Spare ≡ Kept = spare Kept k has in absurd (cc));
}
  where
    none_used : (n : ℕ) → count is_used (replicate n Spare) ≡ 0
    none_used zero = refl
    none_used (suc n) = none_used n

    spare : (w : Mark) (k : ℕ) → HasMark w m.keeper.marks k → Spare ≡ w
    spare w k has = sym (get_or-replicate slots k Spare Vacant (subst (λ n. k < n) (ap length marks ∙ length-replicate slots Spare) has.0)) ∙ (ap (λ (l : List Mark). mark_at l k) (sym marks) ∙ has.1)

    all_none : (n k : ℕ) → owner_at (replicate n None) k ≡ None
    all_none zero k = refl
    all_none (suc n) zero = refl
    all_none (suc n) (suc k) = all_none n k

    unowned : (k n : ℕ) → owner_at m.owners k ≡ Some n → ⊥
    unowned k n is = let clash : ◌≡◌ {A = Option ℕ} None (Some n) = sym (all_none slots k) ∙ (ap (λ (l : List (Option ℕ)). owner_at l k) (sym unowned_all) ∙ is) in absurd (cc)
