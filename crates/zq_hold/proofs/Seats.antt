-- What a seat's steps ask of their callers, from what the types keep.
use Rattle.std.proofs.Common.{◌≡◌, ◌≢◌, ℕ, ◌+◌, ◌-◌, ◌%◌, ◌^◌, ◌<◌, cond, List, [], sym, ap, ◌∙◌, subst, arith, Some, None, eq-eqb, ne_eqb}
use mathlib.Core.Option.{none}
use mathlib.Core.Logic.{dite}
use native.Mathlib.Decide.{ℕ_discrete}
use Rattle.atomic_table.specs.Table.{step, Allows, Splits, Joins}
use Rattle.atomic_table.specs.Seated.{TableId}
use Rattle.zq_hold.specs.declared.view.HoldView.{HoldView}
use Rattle.zq_hold.specs.Slots.{times, without}
use Rattle.zq_hold.specs.Views.{nobody, last_of, released}
use Rattle.zq_hold.specs.Rule.{IsKept}
use Rattle.zq_hold.specs.Steps.{Mine, Releases, SeesEnd}
use Rattle.zq_hold.specs.Seats.{TableSeat, WordTable, IsSeat, IsLast}
use Rattle.zq_hold.proofs.Totals.{times_without_same, times_without_other}
use Rattle.zq_hold.proofs.SeatSteps.{release_allowed, look_allowed}
use Rattle.zq_hold.proofs.Cuts.{seat_ends, seat_takes_last}

pub release_asks : (seat : TableSeat) (table : WordTable) (k : ℕ) → IsSeat seat table → 0 < times k seat.me.0.held
    → (seat.table_id ≡ table.table_id) × (k < table.table_id.words) × Allows (IsKept table.key) table.table_id.slots seat.id seat.me k (λ x. (x + (2 ^ 64 - 1)) % 2 ^ 64) (Releases (step table.table_id.slots k 1 0 none) seat.me)
release_asks seat table k h has =
    let within = h.within k has in
    (h.here, within, release_allowed table.key table.table_id.slots seat.id seat.me k (subst (λ n. k < n) (sym h.sized) within) h.sits h.stands has)

-- a seat after its release
module _ (seat new : TableSeat) (table : WordTable) (k found : ℕ) (h : IsSeat seat table) (home : new.table_id ≡ seat.table_id) (me : new.me ≡ (released seat.me.0 k found, seat.me.1)) where
  view_now : new.me.0 ≡ released seat.me.0 k found
  view_now = ap (λ (m : Mine). m.0) me

  held_now : new.me.0.held ≡ without k seat.me.0.held
  held_now = ap (λ (v : HoldView). v.held) view_now

  within_now : (j : ℕ) → 0 < times j (without k seat.me.0.held) → j < table.table_id.words
  within_now j up = dite (ℕ_discrete k j)
      (λ (e : k ≡ j). absurd (let z : times j (without k seat.me.0.held) ≡ 0 = subst (λ (i : ℕ). times i (without k seat.me.0.held) ≡ 0) e (times_without_same k seat.me.0.held) in omega arith))
      (λ (ne : k ≢ j). h.within j (let z = times_without_other j k seat.me.0.held (λ (e : j ≡ k). ne (sym e)) in omega arith))

  pub released_seat : found ≢ 1 → IsSeat new table × (new.me.0.held ≡ without k seat.me.0.held)
  released_seat ne = (
    record {
      here = home ∙ h.here;
      sized = h.sized;
      some = h.some;
      out = ap (λ (m : Mine). m.1) me ∙ h.out;
      sits = ap (λ (v : HoldView). v.role) view_now ∙ h.sits;
      shows = ap (λ (v : HoldView). v.shows) view_now ∙ h.shows;
      stands = ap (λ (v : HoldView). v.stands) view_now ∙ ap (λ b. cond b (Some k) None) (ne_eqb found 1 ne);
      within = λ j up. within_now j (subst (λ (l : List ℕ). 0 < times j l) held_now up);
    },
    held_now,
  )

  pub ends_asks : (new.table_id ≡ table.table_id) × (0 < table.table_id.words) × Splits (IsKept table.key) new.id new.me.0 (record new.me.0 { stands = None }) (last_of new.me.0.stands)
  ends_asks = (home ∙ h.here, h.some, seat_ends table.key new.id new.me.0 (ap (λ (v : HoldView). v.role) view_now ∙ h.sits))

  module _ (after end : TableSeat) (cut : (after.table_id ≡ new.table_id) × (after.id ≡ new.id) × (after.me ≡ (record new.me.0 { stands = None }, new.me.1)) × (end.table_id ≡ new.table_id) × (end.me ≡ (last_of new.me.0.stands, []))) where
    view_after : after.me.0 ≡ record new.me.0 { stands = None }
    view_after = ap (λ (m : Mine). m.0) cut.2

    pub ended_seat : IsSeat after table × (after.me.0.held ≡ without k seat.me.0.held)
    ended_seat = (
      record {
        here = cut.0 ∙ (home ∙ h.here);
        sized = h.sized;
        some = h.some;
        out = ap (λ (m : Mine). m.1) cut.2 ∙ (ap (λ (m : Mine). m.1) me ∙ h.out);
        sits = ap (λ (v : HoldView). v.role) view_after ∙ (ap (λ (v : HoldView). v.role) view_now ∙ h.sits);
        shows = ap (λ (v : HoldView). v.shows) view_after ∙ (ap (λ (v : HoldView). v.shows) view_now ∙ h.shows);
        stands = ap (λ (v : HoldView). v.stands) view_after;
        within = λ j up. within_now j (subst (λ (l : List ℕ). 0 < times j l) (ap (λ (v : HoldView). v.held) view_after ∙ held_now) up);
      },
      ap (λ (v : HoldView). v.held) view_after ∙ held_now,
    )

    pub ended_last : 0 < times k seat.me.0.held → found ≡ 1 → IsLast end k × (end.table_id ≡ table.table_id)
    ended_last has one = (
      record {
        out = ap (λ (m : Mine). m.1) cut.4;
        is = ap (λ (m : Mine). m.0) cut.4 ∙ ap last_of (ap (λ (v : HoldView). v.stands) view_now ∙ ap (λ b. cond b (Some k) None) (eq-eqb found 1 one));
        within = subst (λ (z : TableId). k < z.words) (sym (cut.3 ∙ (home ∙ h.here))) (h.within k has);
      },
      cut.3 ∙ (home ∙ h.here),
    )

-- a seat takes a `Last` in, looks at its slot, and gives it back
module _ (seat : TableSeat) (table : WordTable) (h : IsSeat seat table) (last : TableSeat) (k : ℕ) (is : IsLast last k) (home : last.table_id ≡ table.table_id) where
  in_words : k < table.table_id.words
  in_words = subst (λ (z : TableId). k < z.words) home is.within

  pub takes_asks : (seat.table_id ≡ table.table_id) × (last.table_id ≡ table.table_id) × (last.me.1 ≡ []) × (0 < table.table_id.words) × Joins (IsKept table.key) seat.id seat.me.0 last.id last.me.0 (record seat.me.0 { stands = last.me.0.stands }) nobody
  takes_asks = (
    h.here,
    home,
    is.out,
    h.some,
    seat_takes_last table.key seat.id last.id seat.me.0 last.me.0 h.sits h.stands (ap (λ (v : HoldView). v.role) is.is) (ap (λ (v : HoldView). v.held) is.is) (ap (λ (v : HoldView). v.shows) is.is),
  )

  module _ (between : TableSeat) (home' : between.table_id ≡ seat.table_id) (me : between.me ≡ (record seat.me.0 { stands = last.me.0.stands }, seat.me.1)) where
    stands_now : between.me.0.stands ≡ Some k
    stands_now = ap (λ (m : Mine). m.0.stands) me ∙ ap (λ (v : HoldView). v.stands) is.is

    pub look_asks : (between.table_id ≡ table.table_id) × (k < table.table_id.words) × Allows (IsKept table.key) table.table_id.slots between.id between.me k (λ x. x) (SeesEnd (step table.table_id.slots k 0 0 none) between.me)
    look_asks = (home' ∙ h.here, in_words, look_allowed table.key table.table_id.slots between.id between.me k stands_now)

    pub gives_asks : (looked : TableSeat) → looked.table_id ≡ between.table_id → looked.me ≡ between.me
        → (looked.table_id ≡ table.table_id) × (0 < table.table_id.words) × Splits (IsKept table.key) looked.id looked.me.0 (record looked.me.0 { stands = None }) (last_of looked.me.0.stands)
    gives_asks looked home'' same = (home'' ∙ (home' ∙ h.here), h.some, seat_ends table.key looked.id looked.me.0 (ap (λ (m : Mine). m.0.role) same ∙ (ap (λ (m : Mine). m.0.role) me ∙ h.sits)))
