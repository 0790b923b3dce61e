-- What follows from the rule, for whatever keeps it.
use Rattle.std.proofs.Common.{◌≡◌, ◌≢◌, ◌⊎◌, ◌↔◌, ℕ, zero, suc, ◌+◌, ◌<◌, ◌≤◌, eqb, List, [], ◌∷◌, ◌++◌, length, set, sym, refl, ap, ◌∙◌, inl, inr, ⊎_elim, arith, Option, Some, None, length-set}
use mathlib.Core.Option.{some, some-ne-none}
use mathlib.Core.Logic.{dite}
use native.Mathlib.Decide.{ℕ_discrete, dec_lt}
use lib.ListN.{get_elem?}
use Rattle.std.specs.Prelude.{slice_index}
use Rattle.std.proofs.lemmas.List.{get_or_past}
use Rattle.atomic_table.proofs.Lists.{at_set, set_else, at_longer, at_last}
use Rattle.zq_hold.specs.declared.view.HoldView.{HoldView}
use Rattle.zq_hold.specs.declared.view.Role.{Role}
use Rattle.zq_hold.specs.declared.view.Role.TheVariants.{Keeper, Seat, Pledge, Last, Spent}
use Rattle.zq_hold.specs.Slots.{weight, times, stood, one_slot}
use Rattle.zq_hold.specs.Rule.{HoldState, live, total, holders, standing, endings, outstanding, IsKeptBy, IsKept}
use Rattle.zq_hold.specs.Laws.{IsStep, IsCut, IsJoin, FallsTo, InUse, OneSeat, SeatLeavesZero, SeatLeavesNone, SeatSteps, EntryIsEmpty, KeeperLeavesZero, KeeperLeavesNone, KeeperSteps, UnlentStands, cleared, settled}
use Rattle.zq_hold.proofs.Totals.{total_set, total_snoc, total_one, total_at, total_both, weight_same, weight_one, weight_other}
use Rattle.zq_hold.proofs.SeatSteps.{apart}
use Rattle.zq_hold.proofs.Cuts.{keeper_rule, now_there, total_split, total_join}
use Rattle.zq_hold.proofs.KeeperSteps.{quiet_at, used_at}

-- ---- slots and roles

pub stands_for : (k : ℕ) (o : Option ℕ) → 0 < stood k o → o ≡ Some k
stands_for k None up = absurd (omega arith)
stands_for k (Some x) up = dite (ℕ_discrete x k) (λ (e : x ≡ k). ap Some e) (λ (ne : x ≢ k). absurd (let z = weight_other x k ne in omega arith))

pub stood_one : (k : ℕ) (o : Option ℕ) → o ≡ Some k → stood k o ≡ 1
stood_one k o e = ap (stood k) e ∙ weight_same k

pub stood_less : (k : ℕ) (o : Option ℕ) → stood k o ≤ one_slot o
stood_less k None = omega arith
stood_less k (Some x) = weight_one x k

pub stood_most : (k : ℕ) (o : Option ℕ) → stood k o ≤ 1
stood_most k None = omega arith
stood_most k (Some x) = weight_one x k

for_none : (o : Option ℕ) → ((k : ℕ) → o ≢ Some k) → o ≡ None
for_none None not = refl
for_none (Some x) not = absurd (not x refl)

-- as many slots where each slot is there as often
same_slot : (a b : Option ℕ) → ((k : ℕ) → stood k a ≡ stood k b) → one_slot a ≡ one_slot b
same_slot None None h = refl
same_slot (Some x) (Some y) h = refl
same_slot None (Some y) h = absurd (let e = h y in let o = weight_same y in omega arith)
same_slot (Some x) None h = absurd (let e = h x in let o = weight_same x in omega arith)

same_slots : (a b c d : Option ℕ) → ((k : ℕ) → stood k a + stood k b ≡ stood k c + stood k d) → one_slot a + one_slot b ≡ one_slot c + one_slot d
same_slots None b None d h = let r = same_slot b d (λ k. let e = h k in omega arith) in omega arith
same_slots None b (Some y) d h =
    let is : b ≡ Some y = stands_for y b (let e = h y in let o = weight_same y in omega arith) in
    let one : one_slot b ≡ 1 = ap one_slot is in
    let r = same_slot None d (λ k. let e = h k in let f : stood k b ≡ weight (eqb y k) = ap (stood k) is in omega arith) in omega arith
same_slots (Some x) b c d h = dite (ℕ_discrete (stood x c) 0)
    (λ (z : stood x c ≡ 0).
    let is : d ≡ Some x = stands_for x d (let e = h x in let o = weight_same x in omega arith) in
    let one : one_slot d ≡ 1 = ap one_slot is in
    let r = same_slot b c (λ k. let e = h k in let f : stood k d ≡ weight (eqb x k) = ap (stood k) is in omega arith) in omega arith)
    (λ (ne : stood x c ≢ 0).
    let is : c ≡ Some x = stands_for x c (omega arith) in
    let one : one_slot c ≡ 1 = ap one_slot is in
    let r = same_slot b d (λ k. let e = h k in let f : stood k c ≡ weight (eqb x k) = ap (stood k) is in omega arith) in omega arith)

not_cleared : (role : Role) (vacated : ℕ) → role ≢ Keeper → cleared role vacated ≡ 0
not_cleared Keeper vacated not = absurd (not refl)
not_cleared Seat vacated not = refl
not_cleared Pledge vacated not = refl
not_cleared Last vacated not = refl
not_cleared Spent vacated not = refl

all_cleared : (role : Role) (vacated : ℕ) → role ≡ Keeper → cleared role vacated ≡ vacated
all_cleared role vacated is = ap (λ (x : Role). cleared x vacated) is

is_seat : (role : Role) → live role ≡ 1 → role ≢ Keeper → role ≡ Seat
is_seat Keeper lives not = absurd (not refl)
is_seat Seat lives not = refl
is_seat Pledge lives not = absurd (omega arith)
is_seat Last lives not = absurd (omega arith)
is_seat Spent lives not = absurd (omega arith)

one_seat : (a b : HoldView) (count : ℕ) → live a.role + live b.role ≡ 1 → a.role ≢ Keeper → b.role ≢ Keeper → (live a.role ≡ 0 → a.ended ≡ 0) → (live b.role ≡ 0 → b.ended ≡ 0) → a.ended + b.ended ≡ count
    → OneSeat a b count ⊎ OneSeat b a count
one_seat a b count one not_a not_b idle_a idle_b sum = dite (ℕ_discrete (live a.role) 0)
    (λ (z : live a.role ≡ 0). let e = idle_a z in inr (is_seat b.role (omega arith) not_b, omega arith, z, e))
    (λ (ne : live a.role ≢ 0). let z : live b.role ≡ 0 = omega arith in let e = idle_b z in inl (is_seat a.role (omega arith) not_a, omega arith, z, e))

in_words : (l : List ℕ) (k : ℕ) → 0 < slice_index l k → k < length l
in_words l k up = dite (dec_lt k (length l)) (λ (h : k < length l). h) (λ no. absurd (let z = get_or_past l k 0 (omega arith) in omega arith))

pub in_views : (l : List HoldView) (i : ℕ) (v : HoldView) → get_elem? l i ≡ some v → i < length l
in_views [] i v e = absurd (some-ne-none v (sym e))
in_views (x ∷ xs) zero v e = omega arith
in_views (x ∷ xs) (suc i) v e = let r = in_views xs i v e in omega arith

-- ---- one state

-- there is as much to show as all count
all_settled : (n : ℕ) (s : HoldState) → IsKept n s → endings s.views ≡ total settled s.views
all_settled n s q =
    let r = q.2 in
    let mine : total (λ u. cleared u.role u.vacated) s.views ≡ cleared q.1.role q.1.vacated = total_at (λ u. cleared u.role u.vacated) s.views q.0 q.1 r.there (λ j u ne e. not_cleared u.role u.vacated (λ is. ne (r.only j u e is))) in
    let all = all_cleared q.1.role q.1.vacated r.keeps in
    let sum : total settled s.views ≡ outstanding s.views + total (λ u. cleared u.role u.vacated) s.views = total_both (λ u. one_slot u.stands) (λ u. cleared u.role u.vacated) s.views in
    let c = r.counted in omega arith

-- a slot whose number is not 0 is one of the n, and is not vacated
held_used : (n : ℕ) (s : HoldState) (keeper : ℕ) (view : HoldView) (r : IsKeptBy n s keeper view) (k : ℕ) → 0 < slice_index s.words k → (0 < holders k s.views) × (0 < times k view.used)
held_used n s keeper view r k up =
    let inside = in_words s.words k up in
    let wide = r.wide in
    let number = r.number k (omega arith) in
    let some_hold : 0 < holders k s.views = omega arith in
    (some_hold, used_at n s keeper view r k some_hold)

-- a slot that a view stands for
stood_used : (n : ℕ) (s : HoldState) (keeper : ℕ) (view : HoldView) (r : IsKeptBy n s keeper view) (i : ℕ) (v : HoldView) (k : ℕ) → get_elem? s.views i ≡ some v → v.stands ≡ Some k
    → (0 < times k view.used) × (slice_index s.words k ≡ 0)
stood_used n s keeper view r i v k at is =
    let one = stood_one k v.stands is in
    let up = total_one (λ u. stood k u.stands) s.views i v at in
    let over = r.ended k (omega arith) in
    (over.0, r.number k (r.within k over.0) ∙ over.1)

-- ---- two states, one slot

module _ (n : ℕ) (s s' : HoldState) (keeper keeper' : ℕ) (view view' : HoldView) (r : IsKeptBy n s keeper view) (r' : IsKeptBy n s' keeper' view') (k : ℕ) where
  -- where no word changes, as many stand for a slot that is not vacated
  stays : s'.words ≡ s.words → (0 < times k view.used → 0 < times k view'.used) → standing k s.views ≤ standing k s'.views
  stays same used = dite (ℕ_discrete (standing k s.views) 0)
      (λ (z : standing k s.views ≡ 0). omega arith)
      (λ (ne : standing k s.views ≢ 0).
      let over = r.ended k (omega arith) in
      let none_hold = over.1 in
      let most = r.stands k in
      let number = r.number k (r.within k over.0) in
      let used' = used over.0 in
      let number' = r'.number k (r'.within k used') in
      let words : slice_index s'.words k ≡ slice_index s.words k = ap (λ l. slice_index l k) same in
      let up = r'.owed k used' (omega arith) in omega arith)

  -- a step, seen from one slot
  module _ (v w : HoldView) (sum : standing k s'.views + stood k v.stands ≡ standing k s.views + stood k w.stands) where
    falls : 0 < times k view'.used → FallsTo v k s s' → w.stands ≡ Some k
    falls used' f =
        let number' = r'.number k (r'.within k used') in
        let now = f.0 in
        let up = r'.owed k used' (omega arith) in
        let most = r.stands k in
        stands_for k w.stands (⊎_elim
        (λ (held : 0 < slice_index s.words k). let calm = quiet_at n s keeper view r k (held_used n s keeper view r k held).0 in omega arith)
        (λ (is : v.stands ≡ Some k). let one = stood_one k v.stands is in omega arith) f.1)

    fell : 0 < times k view.used → slice_index s'.words k ≡ 0 → w.stands ≡ Some k → 0 < standing k s'.views → FallsTo v k s s'
    fell used now is up =
        let one = stood_one k w.stands is in
        let most' = r'.stands k in
        let number = r.number k (r.within k used) in (
          now,
          dite (ℕ_discrete (slice_index s.words k) 0)
              (λ (z : slice_index s.words k ≡ 0). let was = r.owed k used (omega arith) in inr (stands_for k v.stands (omega arith)))
              (λ (ne : slice_index s.words k ≢ 0). inl (omega arith)),
        )

-- ---- steps

module _ (n : ℕ) (s s' : HoldState) (i : ℕ) (v w : HoldView) (t : IsStep n s s' i v w) where
  moved : (f : HoldView → ℕ) → total f s'.views + f v ≡ total f s.views + f w
  moved f = ap (λ (l : List HoldView). total f l + f v) t.views ∙ total_set f s.views i v w t.mine

  pub now_mine : get_elem? s'.views i ≡ some w
  now_mine = ap (λ (l : List HoldView). get_elem? l i) t.views ∙ now_there s.views i v w t.mine

  pub step_settles : w.ended + settled v ≡ v.ended + settled w
  step_settles = let a = moved (λ u. u.ended) in let b = moved settled in let c = all_settled n s t.before in let d = all_settled n s' t.after in omega arith

  by_other : v.role ≢ Keeper → (keeper : ℕ) (view : HoldView) (r : IsKeptBy n s keeper view) → IsKeptBy n s' keeper view
  by_other not keeper view r =
      keeper_rule n s' t.after keeper view (ap (λ (l : List HoldView). get_elem? l keeper) t.views ∙ (set_else s.views i keeper w (apart n s keeper view r i v t.mine not) ∙ r.there)) r.keeps

  by_keeper : v.role ≡ Keeper → IsKeptBy n s i v × IsKeptBy n s' i w
  by_keeper is =
      let r = keeper_rule n s t.before i v t.mine is in
      let k' : ℕ = t.after.0 in
      let view' : HoldView = t.after.1 in
      let r' = t.after.2 in
      let there : get_elem? (set s.views i w) k' ≡ some view' = ap (λ (l : List HoldView). get_elem? l k') (sym t.views) ∙ r'.there in
      let leads : w.role ≡ Keeper = ⊎_elim
      (λ (c : (k' ≡ i) × (w ≡ view')). ap (λ (u : HoldView). u.role) c.1 ∙ r'.keeps)
      (λ (c : (k' ≢ i) × (get_elem? s.views k' ≡ some view')). absurd (c.0 (r.only k' view' c.1 r'.keeps)))
      (at_set s.views i k' w view' there) in
      (r, keeper_rule n s' t.after i w now_mine leads)

  pub other_steps : v.role ≢ Keeper → (w.role ≢ Keeper) × (live w.role ≡ live v.role) × (w.ended + one_slot v.stands ≡ v.ended + one_slot w.stands) × ((k : ℕ) → (w.stands ≡ Some k) ↔ FallsTo v k s s')
  other_steps not =
      let keeper : ℕ = t.before.0 in
      let view : HoldView = t.before.1 in
      let r = t.before.2 in
      let r' = by_other not keeper view r in
      let other = apart n s keeper view r i v t.mine not in
      let not_w : w.role ≢ Keeper = λ e. other (sym (r'.only i w now_mine e)) in
      let seats = r.seats in
      let seats' = r'.seats in
      let among = moved (λ u. live u.role) in
      let settles = step_settles in
      let none_v = not_cleared v.role v.vacated not in
      let none_w = not_cleared w.role w.vacated not_w in (
        not_w,
        omega arith,
        omega arith,
        λ k. (
          (λ is. let over = stood_used n s' keeper view r' i w k now_mine is in
              let one = stood_one k w.stands is in
              let up = total_one (λ u. stood k u.stands) s'.views i w now_mine in
              fell n s s' keeper keeper view view r r' k v w (moved (λ u. stood k u.stands)) over.0 over.1 is (omega arith)),
          (λ f. let used : 0 < times k view.used = ⊎_elim (λ (held : 0 < slice_index s.words k). (held_used n s keeper view r k held).1) (λ (is : v.stands ≡ Some k). (stood_used n s keeper view r i v k t.mine is).0) f.1 in
              falls n s s' keeper keeper view view r r' k v w (moved (λ u. stood k u.stands)) used f),
        ),
      )

  pub keeper_steps_so : v.role ≡ Keeper → (w.role ≡ Keeper) × (w.ended + one_slot v.stands + v.vacated ≡ v.ended + one_slot w.stands + w.vacated)
      × ((k : ℕ) → 0 < times k v.used → 0 < times k w.used → (w.stands ≡ Some k) ↔ FallsTo v k s s')
  keeper_steps_so is_keeper =
      let both = by_keeper is_keeper in
      let r = both.0 in
      let r' = both.1 in
      let settles = step_settles in
      let all_v = all_cleared v.role v.vacated is_keeper in
      let all_w = all_cleared w.role w.vacated r'.keeps in (
        r'.keeps,
        omega arith,
        λ k used used'. (
          (λ is. let over = stood_used n s' i w r' i w k now_mine is in
              let one = stood_one k w.stands is in
              let up = total_one (λ u. stood k u.stands) s'.views i w now_mine in
              fell n s s' i i v w r r' k v w (moved (λ u. stood k u.stands)) used over.1 is (omega arith)),
          falls n s s' i i v w r r' k v w (moved (λ u. stood k u.stands)) used',
        ),
      )

  pub step_stands : (k : ℕ) → InUse k s' → FallsTo v k s s' → w.stands ≡ Some k
  step_stands k used f =
      let r' = t.after.2 in falls n s s' t.before.0 t.after.0 t.before.1 t.after.1 t.before.2 r' k v w (moved (λ u. stood k u.stands)) (used t.after.0 t.after.1 r'.there r'.keeps) f

pub seat_steps : SeatSteps
seat_steps n s s' i v w t sits = let q = other_steps n s s' i v w t (λ e. absurd (cc)) in (is_seat w.role (q.1 ∙ ap live sits) q.0, q.2, q.3)

pub keeper_steps : KeeperSteps
keeper_steps n s s' i v w t is = keeper_steps_so n s s' i v w t is

pub seat_leaves_zero : SeatLeavesZero
seat_leaves_zero n s s' i k v w t sits free zero_now =
    let q = seat_steps n s s' i v w t sits in
    let stands : w.stands ≡ Some k = (q.2 k).1 (zero_now.1, inl zero_now.0) in
    let a : one_slot v.stands ≡ 0 = ap one_slot free in
    let b : one_slot w.stands ≡ 1 = ap one_slot stands in
    let c = q.1 in
    (stands, omega arith)

pub seat_leaves_none : SeatLeavesNone
seat_leaves_none n s s' i v w t sits free none_left =
    let q = seat_steps n s s' i v w t sits in
    let a : one_slot v.stands ≡ 0 = ap one_slot free in
    let idle : w.stands ≡ None = for_none w.stands (λ k is. let f = (q.2 k).0 is in ⊎_elim
    (λ (held : 0 < slice_index s.words k). none_left k (held, f.0))
    (λ (e : v.stands ≡ Some k). let one : one_slot v.stands ≡ 1 = ap one_slot e in omega arith) f.1) in
    let b : one_slot w.stands ≡ 0 = ap one_slot idle in
    let c = q.1 in
    (idle, omega arith)

pub keeper_leaves_zero : KeeperLeavesZero
keeper_leaves_zero n s s' i k v w t is free zero_now used' =
    let q = keeper_steps n s s' i v w t is in
    let r = (by_keeper n s s' i v w t is).0 in
    let stands : w.stands ≡ Some k = (q.2 k (held_used n s i v r k zero_now.0).1 used').1 (zero_now.1, inl zero_now.0) in
    let a : one_slot v.stands ≡ 0 = ap one_slot free in
    let b : one_slot w.stands ≡ 1 = ap one_slot stands in
    let c = q.1 in
    (stands, omega arith)

pub keeper_leaves_none : KeeperLeavesNone
keeper_leaves_none n s s' i v w t is free none_left none_new =
    let q = keeper_steps n s s' i v w t is in
    let r' = (by_keeper n s s' i v w t is).1 in
    let a : one_slot v.stands ≡ 0 = ap one_slot free in
    let idle : w.stands ≡ None = for_none w.stands (λ k e. let over = stood_used n s' i w r' i w k r'.there e in let now = over.1 in
    let used : 0 < times k v.used = ⊎_elim (λ (u : 0 < times k v.used). u) (λ (up : 0 < slice_index s'.words k). absurd (omega arith)) (none_new k over.0) in
    let f = (q.2 k used over.0).0 e in ⊎_elim
    (λ (held : 0 < slice_index s.words k). none_left k (held, f.0))
    (λ (d : v.stands ≡ Some k). let one : one_slot v.stands ≡ 1 = ap one_slot d in omega arith) f.1) in
    let b : one_slot w.stands ≡ 0 = ap one_slot idle in
    let c = q.1 in
    (idle, omega arith)

-- ---- cuts

module _ (n : ℕ) (s s' : HoldState) (i : ℕ) (v left right : HoldView) (t : IsCut n s s' i v left right) where
  cut_in : (f : HoldView → ℕ) → total f s'.views + f v ≡ (total f s.views + f left) + f right
  cut_in f = ap (λ (l : List HoldView). total f l + f v) t.views ∙ total_split f s.views i v left right t.mine

  pub cut_settles : left.ended + right.ended + settled v ≡ v.ended + settled left + settled right
  cut_settles = let a = cut_in (λ u. u.ended) in let b = cut_in settled in let c = all_settled n s t.before in let d = all_settled n s' t.after in omega arith

  pub cut_stands : (k : ℕ) → InUse k s' → stood k v.stands ≤ stood k left.stands + stood k right.stands
  cut_stands k used =
      let r' = t.after.2 in
      let more = stays n s s' t.before.0 t.after.0 t.before.1 t.after.1 t.before.2 r' k t.words (λ _. used t.after.0 t.after.1 r'.there r'.keeps) in
      let sum = cut_in (λ u. stood k u.stands) in omega arith

  at_cut : (j : ℕ) → get_elem? s'.views j ≡ get_elem? (set s.views i left ++ right ∷ []) j
  at_cut j = ap (λ (l : List HoldView). get_elem? l j) t.views

  left_at : get_elem? s'.views i ≡ some left
  left_at = at_cut i ∙ at_longer (set s.views i left) (right ∷ []) i left (now_there s.views i v left t.mine)

  right_at : get_elem? s'.views (length s.views) ≡ some right
  right_at = at_cut (length s.views) ∙ at_last (set s.views i left) right (length s.views) (length-set s.views i left)

  -- of one that is not the keeper
  module _ (not : v.role ≢ Keeper) where
    cut_apart : t.before.0 ≢ i
    cut_apart = apart n s t.before.0 t.before.1 t.before.2 i v t.mine not

    cut_rule : IsKeptBy n s' t.before.0 t.before.1
    cut_rule = let r = t.before.2 in
        keeper_rule n s' t.after t.before.0 t.before.1 (at_cut t.before.0 ∙ at_longer (set s.views i left) (right ∷ []) t.before.0 t.before.1 (set_else s.views i t.before.0 left cut_apart ∙ r.there)) r.keeps

    cut_stood : (k : ℕ) → stood k left.stands + stood k right.stands ≡ stood k v.stands
    cut_stood k =
        let more = stays n s s' t.before.0 t.before.0 t.before.1 t.before.1 t.before.2 cut_rule k t.words (λ e. e) in
        let less = stays n s' s t.before.0 t.before.0 t.before.1 t.before.1 cut_rule t.before.2 k (sym t.words) (λ e. e) in
        let sum = cut_in (λ u. stood k u.stands) in omega arith

    pub other_cut : (left.role ≢ Keeper) × (right.role ≢ Keeper) × (live left.role + live right.role ≡ live v.role) × (left.ended + right.ended ≡ v.ended) × ((k : ℕ) → stood k left.stands + stood k right.stands ≡ stood k v.stands)
        × (one_slot left.stands + one_slot right.stands ≡ one_slot v.stands)
    other_cut =
        let r = t.before.2 in
        let r' = cut_rule in
        let not_left : left.role ≢ Keeper = λ e. cut_apart (sym (r'.only i left left_at e)) in
        let not_right : right.role ≢ Keeper = λ e. let same = r'.only (length s.views) right right_at e in let less = in_views s.views t.before.0 t.before.1 r.there in omega arith in
        let seats = r.seats in
        let seats' = r'.seats in
        let among = cut_in (λ u. live u.role) in
        let slots = same_slots left.stands right.stands v.stands None (λ k. let e = cut_stood k in omega arith) in
        let settles = cut_settles in
        let none_v = not_cleared v.role v.vacated not in
        let none_left = not_cleared left.role left.vacated not_left in
        let none_right = not_cleared right.role right.vacated not_right in
        (not_left, not_right, omega arith, omega arith, cut_stood, omega arith)

  pub seat_cut : v.role ≡ Seat → (OneSeat left right v.ended ⊎ OneSeat right left v.ended) × ((k : ℕ) → stood k left.stands + stood k right.stands ≡ stood k v.stands)
  seat_cut sits =
      let q = other_cut (λ e. absurd (cc)) in
      let r' = t.after.2 in
      (one_seat left right v.ended (q.2 ∙ ap live sits) q.0 q.1 (r'.idle i left left_at) (r'.idle (length s.views) right right_at) q.3, q.4)

-- ---- joins

module _ (n : ℕ) (s s' : HoldState) (i j : ℕ) (v w both spent : HoldView) (t : IsJoin n s s' i j v w both spent) where
  there : get_elem? (set s.views i both) j ≡ some w
  there = set_else s.views i j both t.apart ∙ t.other

  join_in : (f : HoldView → ℕ) → (total f s'.views + f w) + f v ≡ (total f s.views + f both) + f spent
  join_in f = ap (λ (l : List HoldView). (total f l + f w) + f v) t.views ∙ total_join f s.views i j v both w spent t.mine there

  pub join_settles : both.ended + spent.ended + settled v + settled w ≡ v.ended + w.ended + settled both + settled spent
  join_settles = let a = join_in (λ u. u.ended) in let b = join_in settled in let c = all_settled n s t.before in let d = all_settled n s' t.after in omega arith

  pub join_stands : (k : ℕ) → InUse k s' → stood k v.stands + stood k w.stands ≤ stood k both.stands + stood k spent.stands
  join_stands k used =
      let r' = t.after.2 in
      let more = stays n s s' t.before.0 t.after.0 t.before.1 t.after.1 t.before.2 r' k t.words (λ _. used t.after.0 t.after.1 r'.there r'.keeps) in
      let sum = join_in (λ u. stood k u.stands) in omega arith

  at_join : (m : ℕ) → get_elem? s'.views m ≡ get_elem? (set (set s.views i both) j spent) m
  at_join m = ap (λ (l : List HoldView). get_elem? l m) t.views

  both_at : get_elem? s'.views i ≡ some both
  both_at = at_join i ∙ (set_else (set s.views i both) j i spent (λ e. t.apart (sym e)) ∙ now_there s.views i v both t.mine)

  spent_at : get_elem? s'.views j ≡ some spent
  spent_at = at_join j ∙ now_there (set s.views i both) j w spent there

  -- of two that are not the keeper
  module _ (not : v.role ≢ Keeper) (not_w : w.role ≢ Keeper) where
    join_apart : t.before.0 ≢ i
    join_apart = apart n s t.before.0 t.before.1 t.before.2 i v t.mine not

    join_apart_w : t.before.0 ≢ j
    join_apart_w = apart n s t.before.0 t.before.1 t.before.2 j w t.other not_w

    join_rule : IsKeptBy n s' t.before.0 t.before.1
    join_rule = let r = t.before.2 in
        keeper_rule n s' t.after t.before.0 t.before.1 (at_join t.before.0 ∙ (set_else (set s.views i both) j t.before.0 spent join_apart_w ∙ (set_else s.views i t.before.0 both join_apart ∙ r.there))) r.keeps

    join_stood : (k : ℕ) → stood k both.stands + stood k spent.stands ≡ stood k v.stands + stood k w.stands
    join_stood k =
        let more = stays n s s' t.before.0 t.before.0 t.before.1 t.before.1 t.before.2 join_rule k t.words (λ e. e) in
        let less = stays n s' s t.before.0 t.before.0 t.before.1 t.before.1 join_rule t.before.2 k (sym t.words) (λ e. e) in
        let sum = join_in (λ u. stood k u.stands) in omega arith

    pub other_join : (both.role ≢ Keeper) × (spent.role ≢ Keeper) × (live both.role + live spent.role ≡ live v.role + live w.role) × (both.ended + spent.ended ≡ v.ended + w.ended)
        × ((k : ℕ) → stood k both.stands + stood k spent.stands ≡ stood k v.stands + stood k w.stands) × (one_slot both.stands + one_slot spent.stands ≡ one_slot v.stands + one_slot w.stands)
    other_join =
        let r = t.before.2 in
        let r' = join_rule in
        let not_both : both.role ≢ Keeper = λ e. join_apart (sym (r'.only i both both_at e)) in
        let not_spent : spent.role ≢ Keeper = λ e. join_apart_w (sym (r'.only j spent spent_at e)) in
        let seats = r.seats in
        let seats' = r'.seats in
        let among = join_in (λ u. live u.role) in
        let slots = same_slots both.stands spent.stands v.stands w.stands join_stood in
        let settles = join_settles in
        let none_v = not_cleared v.role v.vacated not in
        let none_w = not_cleared w.role w.vacated not_w in
        let none_both = not_cleared both.role both.vacated not_both in
        let none_spent = not_cleared spent.role spent.vacated not_spent in
        (not_both, not_spent, omega arith, omega arith, join_stood, slots)

  pub seat_join : v.role ≡ Seat → live w.role ≡ 0 → (OneSeat both spent v.ended ⊎ OneSeat spent both v.ended) × ((k : ℕ) → stood k both.stands + stood k spent.stands ≡ stood k v.stands + stood k w.stands)
  seat_join sits dead =
      let q = other_join (λ e. absurd (cc)) (λ e. let alive : live w.role ≡ 1 = ap live e in omega arith) in
      let lives : live v.role ≡ 1 = ap live sits in
      let one = q.2 in
      let counts = q.3 in
      let r = t.before.2 in
      let r' = t.after.2 in
      let idle_w = r.idle j w t.other dead in
      (one_seat both spent v.ended (omega arith) q.0 q.1 (r'.idle i both both_at) (r'.idle j spent spent_at) (omega arith), q.4)

-- ---- entries

pub entry_is_empty : EntryIsEmpty
entry_is_empty n s s' w t =
    let keeper : ℕ = t.before.0 in
    let view : HoldView = t.before.1 in
    let r = t.before.2 in
    let at : (j : ℕ) → get_elem? s'.views j ≡ get_elem? (s.views ++ w ∷ []) j = λ j. ap (λ (l : List HoldView). get_elem? l j) t.views in
    let r' : IsKeptBy n s' keeper view = keeper_rule n s' t.after keeper view (at keeper ∙ at_longer s.views (w ∷ []) keeper view r.there) r.keeps in
    let sum : (f : HoldView → ℕ) → total f s'.views ≡ total f s.views + f w = λ f. ap (λ (l : List HoldView). total f l) t.views ∙ total_snoc f s.views w in
    let seats = r.seats in
    let seats' = r'.seats in
    let among = sum (λ u. live u.role) in
    let dead : live w.role ≡ 0 = omega arith in
    let counts : w.ended ≡ 0 = r'.idle (length s.views) w (at (length s.views) ∙ at_last s.views w (length s.views) refl) dead in
    let ends = sum (λ u. u.ended) in
    let waits = sum (λ u. one_slot u.stands) in
    let c = r.counted in
    let c' = r'.counted in
    let none_waits : one_slot w.stands ≡ 0 = omega arith in
    let idle : w.stands ≡ None = for_none w.stands (λ k e. let one : one_slot w.stands ≡ 1 = ap one_slot e in omega arith) in (
      dead,
      counts,
      idle,
      λ k left. let held = held_used n s keeper view r k left.0 in
          let calm = quiet_at n s keeper view r k held.0 in
          let number' = r'.number k (r'.within k held.1) in
          let now = left.1 in
          let up = r'.owed k held.1 (omega arith) in
          let stand = sum (λ u. stood k u.stands) in
          let none_stood : stood k w.stands ≡ 0 = ap (stood k) idle in omega arith,
    )

-- ---- slots that are not lent

pub unlent_stands : UnlentStands
unlent_stands n s keeper view r k used none away =
    let alone = r.unlent k used none in
    let up = r.owed k used (omega (arith, alone, away)) in
    let most = r.stands k in
    omega (arith, up, most)
