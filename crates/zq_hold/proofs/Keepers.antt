-- The keeper's seat and its marks, after each step.
use Rattle.std.proofs.Common.{◌≡◌, ◌≢◌, ℕ, ◌+◌, ◌-◌, ◌%◌, ◌^◌, ◌<◌, ◌≤◌, cond, eqb, List, [], length, get_or, set, replicate, refl, sym, ap, ◌∙◌, subst, arith, Some, None, ne_eqb, length-set, get_or-set_same, get_or-set_other}
use mathlib.Core.Option.{none}
use mathlib.Core.Logic.{dite}
use native.Mathlib.Decide.{ℕ_discrete}
use prog.Atomic.{either}
use Rattle.std.proofs.Math.ListN.{length-replicate, get_or-replicate}
use Rattle.atomic_table.specs.Seated.{TableId}
use Rattle.atomic_table.specs.Table.{step, Allows, Splits, Joins}
use Rattle.zq_hold.specs.declared.view.HoldView.{HoldView}
use Rattle.zq_hold.specs.declared.view.Role.TheVariants as role
use Rattle.zq_hold.specs.declared.slot.Mark.{Mark}
use Rattle.zq_hold.specs.declared.slot.Mark.TheVariants.{Spare, Kept, Gone, Vacant}
use Rattle.zq_hold.specs.Slots.{weight, times, without}
use Rattle.zq_hold.specs.Views.{first_keeper, nobody, last_of, released, opened, closed}
use Rattle.zq_hold.specs.Rule.{IsKept}
use Rattle.zq_hold.specs.Steps.{Mine, ReleasesKept, Opens, Vacates}
use Rattle.zq_hold.specs.Marks.{mark_at, Marked, AllMarked}
use Rattle.zq_hold.specs.Seats.{TableSeat, WordTable, IsLast, IsKeeperSeat, IsKeeper}
use Rattle.zq_hold.proofs.Totals.{weight_same, weight_other, times_without_same, times_without_other, below_has}
use Rattle.zq_hold.proofs.KeeperSteps.{open_allowed, vacate_allowed, release_kept_allowed}
use Rattle.zq_hold.proofs.Cuts.{keeper_ends, takes_last}

-- the marks, where one slot changes
marked_set : (marks : List Mark) (v w : HoldView) (k : ℕ) (m : Mark) → AllMarked marks v → k < length marks → Marked m (times k w.held) (times k w.used) (times k w.lent)
    → ((j : ℕ) → k ≢ j → (times j w.held ≡ times j v.held) × (times j w.used ≡ times j v.used) × (times j w.lent ≡ times j v.lent)) → AllMarked (set marks k m) w
marked_set marks v w k m all inside here others j h = dite (ℕ_discrete k j)
    (λ (e : k ≡ j). subst (λ (i : ℕ). Marked (get_or (set marks k m) i Vacant) (times i w.held) (times i w.used) (times i w.lent)) e
    (subst (λ (n : Mark). Marked n (times k w.held) (times k w.used) (times k w.lent)) (sym (get_or-set_same marks k m Vacant inside)) here))
    (λ (ne : k ≢ j). let o = others j ne in
    let was : Marked (mark_at marks j) (times j v.held) (times j v.used) (times j v.lent) = all j (let l = length-set marks k m in omega arith) in
    subst (λ (x : ℕ × (ℕ × ℕ)). Marked (get_or (set marks k m) j Vacant) x.0 x.1.0 x.1.1) (λ i. (sym o.0 i, (sym o.1 i, sym o.2 i)))
    (subst (λ (n : Mark). Marked n (times j v.held) (times j v.used) (times j v.lent)) (sym (get_or-set_other marks k j m Vacant (λ (e : j ≡ k). ne (sym e)))) was))

-- the keeper, with another view
pub keeper_now : (seat new : TableSeat) (table : WordTable) (marks : List Mark) (k : ℕ) (m : Mark) (w : HoldView) → IsKeeper seat table marks → k < length marks
    → new.table_id ≡ seat.table_id → new.me ≡ (w, seat.me.1) → w.role ≡ role.Keeper → w.shows ≡ None → w.stands ≡ None → w.pledged ≡ None
    → Marked m (times k w.held) (times k w.used) (times k w.lent)
    → ((j : ℕ) → k ≢ j → (times j w.held ≡ times j seat.me.0.held) × (times j w.used ≡ times j seat.me.0.used) × (times j w.lent ≡ times j seat.me.0.lent))
    → IsKeeper new table (set marks k m)
keeper_now seat new table marks k m w d inside home me leads shows stands pledged here others =
    let view : new.me.0 ≡ w = ap (λ (x : Mine). x.0) me in
    let h = d.keeper in record {
      keeper = record {
        here = home ∙ h.here;
        sized = h.sized;
        some = h.some;
        out = ap (λ (x : Mine). x.1) me ∙ h.out;
        keeps = ap (λ (v : HoldView). v.role) view ∙ leads;
        shows = ap (λ (v : HoldView). v.shows) view ∙ shows;
        stands = ap (λ (v : HoldView). v.stands) view ∙ stands;
        pledged = ap (λ (v : HoldView). v.pledged) view ∙ pledged;
      };
      count = length-set marks k m ∙ d.count;
      few = d.few;
      each = subst (AllMarked (set marks k m)) (sym view) (marked_set marks seat.me.0 w k m d.each inside here others);
    }

marked_as : (seat : TableSeat) (table : WordTable) (marks : List Mark) (d : IsKeeper seat table marks) (k : ℕ) (m : Mark) → k < length marks → mark_at marks k ≡ m → Marked m (times k seat.me.0.held) (times k seat.me.0.used) (times k seat.me.0.lent)
marked_as seat table marks d k m inside is = subst (λ (n : Mark). Marked n (times k seat.me.0.held) (times k seat.me.0.used) (times k seat.me.0.lent)) is (d.each k inside)

module _ (seat : TableSeat) (table : WordTable) (marks : List Mark) (d : IsKeeper seat table marks) (k : ℕ) (inside : k < length marks) where
  in_key : k < table.key
  in_key = let c = d.count in let s = d.keeper.sized in omega arith

  in_words : k < table.table_id.words
  in_words = let c = d.count in omega arith

  pub open_asks : mark_at marks k ≡ Vacant → (seat.table_id ≡ table.table_id) × (k < table.table_id.words) × Allows (IsKept table.key) table.table_id.slots seat.id seat.me k (λ x. either (eqb x 0) 1 x) (Opens (step table.table_id.slots k 0 1 none) seat.me)
  open_asks vacant = let m = marked_as seat table marks d k Vacant inside vacant in
      (d.keeper.here, in_words, open_allowed table.key table.table_id.slots seat.id seat.me k in_key d.keeper.keeps m.0 m.1)

  pub opened_keeper : (new : TableSeat) → mark_at marks k ≡ Vacant → new.table_id ≡ seat.table_id → new.me ≡ (opened seat.me.0 k, seat.me.1) → IsKeeper new table (set marks k Kept)
  opened_keeper new vacant home me =
      let m = marked_as seat table marks d k Vacant inside vacant in let m0 = m.0 in let m1 = m.1 in let one = weight_same k in
      keeper_now seat new table marks k Kept (opened seat.me.0 k) d inside home me d.keeper.keeps d.keeper.shows d.keeper.stands d.keeper.pledged
      (omega arith, omega arith)
      (λ j ne. let z = weight_other k j ne in (omega arith, omega arith, refl))

  pub release_kept_asks : mark_at marks k ≡ Kept → (seat.table_id ≡ table.table_id) × (k < table.table_id.words) × Allows (IsKept table.key) table.table_id.slots seat.id seat.me k (λ x. (x + (2 ^ 64 - 1)) % 2 ^ 64) (ReleasesKept (step table.table_id.slots k 1 0 none) seat.me)
  release_kept_asks kept = let m = marked_as seat table marks d k Kept inside kept in
      let m0 = m.0 in
      (d.keeper.here, in_words, release_kept_allowed table.key table.table_id.slots seat.id seat.me k in_key d.keeper.keeps d.keeper.stands d.keeper.pledged (omega arith))

  gone : mark_at marks k ≡ Kept → Marked Gone (times k (without k seat.me.0.held)) (times k seat.me.0.used) (times k seat.me.0.lent)
  gone kept = let m = marked_as seat table marks d k Kept inside kept in (times_without_same k seat.me.0.held, m.1)

  pub released_keeper : (new : TableSeat) (found : ℕ) → mark_at marks k ≡ Kept → found ≢ 1 → new.table_id ≡ seat.table_id → new.me ≡ (released seat.me.0 k found, seat.me.1) → IsKeeper new table (set marks k Gone)
  released_keeper new found kept ne home me =
      keeper_now seat new table marks k Gone (released seat.me.0 k found) d inside home me d.keeper.keeps d.keeper.shows (ap (λ b. cond b (Some k) None) (ne_eqb found 1 ne)) d.keeper.pledged
      (gone kept)
      (λ j ne. (times_without_other j k seat.me.0.held (λ (e : j ≡ k). ne (sym e)), refl, refl))

  -- a release that was not the last: others hold the slot still, and it is lent
  pub others_hold : (new : TableSeat) (found : ℕ) → found ≢ 1 → new.me ≡ (released seat.me.0 k found, seat.me.1) → 0 < found → (times k seat.me.0.lent ≡ 0 → found ≡ 1)
      → (new.me.0.ended ≡ seat.me.0.ended) × (0 < times k seat.me.0.lent)
  others_hold new found ne me some alone =
      let e : new.me.0.ended ≡ seat.me.0.ended + weight (eqb found 1) = ap (λ (m : Mine). m.0.ended) me in let z = weight_other found 1 ne in (
        omega arith,
        dite (ℕ_discrete (times k seat.me.0.lent) 0)
            (λ (z : times k seat.me.0.lent ≡ 0). absurd (ne (alone z)))
            (λ (z : times k seat.me.0.lent ≢ 0). omega arith),
      )

  pub keeper_ends_asks : (new : TableSeat) (found : ℕ) → new.table_id ≡ seat.table_id → new.me ≡ (released seat.me.0 k found, seat.me.1)
      → (new.table_id ≡ table.table_id) × (0 < table.table_id.words) × Splits (IsKept table.key) new.id new.me.0 (record new.me.0 { stands = None }) (last_of new.me.0.stands)
  keeper_ends_asks new found home me = (home ∙ d.keeper.here, d.keeper.some, keeper_ends table.key new.id new.me.0 (ap (λ (x : Mine). x.0.role) me ∙ d.keeper.keeps))

  pub ended_keeper : (new after : TableSeat) (found : ℕ) → mark_at marks k ≡ Kept → new.table_id ≡ seat.table_id → new.me ≡ (released seat.me.0 k found, seat.me.1)
      → after.table_id ≡ new.table_id → after.me ≡ (record new.me.0 { stands = None }, new.me.1) → IsKeeper after table (set marks k Gone)
  ended_keeper new after found kept home me home' me' =
      let w : HoldView = record (released seat.me.0 k found) { stands = None } in
      keeper_now seat after table marks k Gone w d inside (home' ∙ home) (me' ∙ (λ i. (record ((me i).0) { stands = None }, (me i).1))) d.keeper.keeps d.keeper.shows refl d.keeper.pledged
      (gone kept)
      (λ j ne. (times_without_other j k seat.me.0.held (λ (e : j ≡ k). ne (sym e)), refl, refl))

gone_mark : (m : Mark) (h u l : ℕ) → Marked m h u l → h ≡ 0 → 0 < u → m ≡ Gone
gone_mark Spare h u l k e p = let a = k.0 in absurd (omega arith)
gone_mark Kept h u l k e p = let a = k.0 in absurd (omega arith)
gone_mark Gone h u l k e p = refl
gone_mark Vacant h u l k e p = let a = k.1 in absurd (omega arith)

-- the keeper takes a `Last` in, and vacates its slot
module _ (seat : TableSeat) (table : WordTable) (marks : List Mark) (d : IsKeeper seat table marks) (last : TableSeat) (k : ℕ) (is : IsLast last k) (home : last.table_id ≡ table.table_id) where
  in_range : k < length marks
  in_range = let c = d.count in let w : k < table.table_id.words = subst (λ (z : TableId). k < z.words) home is.within in omega arith

  pub joins_asks : (seat.table_id ≡ table.table_id) × (last.table_id ≡ table.table_id) × (last.me.1 ≡ []) × (0 < table.table_id.words) × Joins (IsKept table.key) seat.id seat.me.0 last.id last.me.0 (record seat.me.0 { stands = last.me.0.stands }) nobody
  joins_asks = (
    d.keeper.here,
    home,
    is.out,
    d.keeper.some,
    takes_last table.key seat.id last.id seat.me.0 last.me.0 d.keeper.keeps d.keeper.stands (ap (λ (v : HoldView). v.role) is.is) (ap (λ (v : HoldView). v.held) is.is) (ap (λ (v : HoldView). v.shows) is.is),
  )

  module _ (between : TableSeat) (home' : between.table_id ≡ seat.table_id) (me : between.me ≡ (record seat.me.0 { stands = last.me.0.stands }, seat.me.1)) where
    pub vacate_asks : (between.table_id ≡ table.table_id) × (k < table.table_id.words) × Allows (IsKept table.key) table.table_id.slots between.id between.me k (λ x. x) (Vacates (step table.table_id.slots k 0 0 none) between.me)
    vacate_asks = (
      home' ∙ d.keeper.here,
      (let c = d.count in let r = in_range in omega arith),
      vacate_allowed table.key table.table_id.slots between.id between.me k (ap (λ (x : Mine). x.0.role) me ∙ d.keeper.keeps) (ap (λ (x : Mine). x.0.stands) me ∙ ap (λ (v : HoldView). v.stands) is.is) (ap (λ (x : Mine). x.0.pledged) me ∙ d.keeper.pledged),
    )

    module _ (new : TableSeat) (home'' : new.table_id ≡ between.table_id) (told : (new.me ≡ (closed between.me.0 k, between.me.1)) × (times k between.me.0.held ≡ 0) × (0 < times k between.me.0.used)) where
      was_gone : mark_at marks k ≡ Gone
      was_gone = let a = told.1 in let b = told.2 in let e = ap (λ (x : Mine). times k x.0.held) me in let f = ap (λ (x : Mine). times k x.0.used) me in
          gone_mark (mark_at marks k) (times k seat.me.0.held) (times k seat.me.0.used) (times k seat.me.0.lent) (d.each k in_range) (omega arith) (omega arith)

      pub vacated_keeper : IsKeeper new table (set marks k Vacant) × (k < length marks) × (mark_at marks k ≡ Gone) × (new.me.0 ≡ closed seat.me.0 k)
      vacated_keeper =
          let a = told.1 in
          let e = ap (λ (x : Mine). times k x.0.held) me in (
            keeper_now seat new table marks k Vacant (closed seat.me.0 k) d in_range (home'' ∙ home') (told.0 ∙ (λ i. (closed ((me i).0) k, (me i).1))) d.keeper.keeps d.keeper.shows refl d.keeper.pledged
                (omega arith, times_without_same k seat.me.0.used, times_without_same k seat.me.0.lent)
                (λ j ne. (refl, times_without_other j k seat.me.0.used (λ (e : j ≡ k). ne (sym e)), times_without_other j k seat.me.0.lent (λ (e : j ≡ k). ne (sym e)))),
            in_range,
            was_gone,
            ap (λ (x : Mine). x.0) told.0 ∙ (λ i. closed ((me i).0) k),
          )

-- at first every slot is spare
pub starting_keeper : (seat : TableSeat) (table : WordTable) (n i : ℕ) (marks : List Mark) → IsKeeperSeat seat table → seat.me.0 ≡ record (first_keeper n) { made = i } → table.table_id.words ≡ n → n ≤ 1024 → marks ≡ replicate n Spare → IsKeeper seat table marks
starting_keeper seat table n i marks keeper view words few spare =
    let len : length marks ≡ n = ap (λ (l : List Mark). length l) spare ∙ length-replicate n Spare in record {
      keeper = keeper;
      count = len ∙ sym words;
      few = omega arith;
      each = λ k h. let below_n : k < n = omega arith in let one = below_has n k below_n in
          subst (λ (m : Mark). Marked m (times k seat.me.0.held) (times k seat.me.0.used) (times k seat.me.0.lent)) (sym (ap (λ (l : List Mark). get_or l k Vacant) spare ∙ get_or-replicate n k Spare Vacant below_n))
          (subst (λ (v : HoldView). (times k v.held ≡ 1) × (0 < times k v.used) × (times k v.lent ≡ 0)) (sym view) (one, omega arith, refl));
    }
