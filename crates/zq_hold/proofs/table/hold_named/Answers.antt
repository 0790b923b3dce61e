use Rattle.std.proofs.Common.{◌≡◌, ◌∙◌, ℕ, ◌<◌, sym, ap, subst, Some}
use Rattle.atomic_table.specs.Table.{Splits}
use Rattle.zq_hold.specs.declared.view.HoldView.{HoldView}
use Rattle.zq_hold.specs.Slots.{times}
use Rattle.zq_hold.specs.Views.{showing_only, pledging}
use Rattle.zq_hold.specs.Rule.{IsKept}
use Rattle.zq_hold.specs.Steps.{Mine}
use Rattle.zq_hold.proofs.SeatSteps.{hold_allowed}
use Rattle.zq_hold.proofs.Cuts.{pledges, takes_pledge, gives_pledge, takes_back}
use Rattle.zq_hold.proofs.table.hold_named.Goals as goal

view : {m n : Mine} → m ≡ n → m.0 ≡ n.0
view e = ap (λ (m : Mine). m.0) e

rest : {m n : Mine} → m ≡ n → m.1 ≡ n.1
rest e = ap (λ (m : Mine). m.1) e

pub split_seat-pledge-requires : goal.split_seat-pledge-requires
split_seat-pledge-requires g c = let k = c.requires.keeper in (
  k.here,
  k.some,
  subst (λ (j : ℕ). Splits (IsKept c.args.table.now.shared.key) c.args.keeper.now.id c.args.keeper.now.me.0 (pledging c.args.keeper.now.me.0 j) (showing_only (Some j))) c.requires.name
      (pledges c.args.table.now.shared.key c.args.keeper.now.id c.args.slot.0 c.args.keeper.now.me.0 k.keeps k.pledged c.requires.kept),
)

pub join_seat-requires : goal.join_seat-requires
join_seat-requires g c = let s = c.requires.seat in let k = c.requires.keeper in let p = c.split_seat-pledge.ensures in (
  s.here,
  p.3 ∙ k.here,
  rest p.4,
  s.some,
  takes_pledge c.args.table.now.shared.key c.args.seat.now.id c.split_seat-pledge.result.id c.args.seat.now.me.0 c.split_seat-pledge.result.me.0 s.sits s.shows
      (ap (λ (v : HoldView). v.role) (view p.4)) (ap (λ (v : HoldView). v.held) (view p.4)) (ap (λ (v : HoldView). v.stands) (view p.4)),
)

pub fetch_add-requires : goal.fetch_add-requires
fetch_add-requires g c = let s = c.requires.seat in let p = c.split_seat-pledge.ensures in let j = c.join_seat.ensures in (
  j.0 ∙ s.here,
  c.requires.within,
  hold_allowed c.args.table.now.shared.key c.args.table.now.shared.table_id.slots c.join_seat.new.seat.id c.join_seat.new.seat.me c.args.slot.0
      (subst (λ n. c.args.slot.0 < n) (sym s.sized) c.requires.within)
      (ap (λ (v : HoldView). v.role) (view j.2) ∙ s.sits)
      (ap (λ (v : HoldView). v.shows) (view j.2) ∙ (ap (λ (v : HoldView). v.shows) (view p.4) ∙ ap Some (sym c.requires.name)))
      (ap (λ (v : HoldView). times c.args.slot.0 v.held) (view j.2) ∙ c.requires.free),
)

pub split_seat-back-requires : goal.split_seat-back-requires
split_seat-back-requires g c = let s = c.requires.seat in let j = c.join_seat.ensures in let f = c.fetch_add.ensures in (
  f.0 ∙ (j.0 ∙ s.here),
  s.some,
  gives_pledge c.args.table.now.shared.key c.fetch_add.new.seat.id c.fetch_add.new.seat.me.0 (ap (λ (v : HoldView). v.role) (view f.2) ∙ (ap (λ (v : HoldView). v.role) (view j.2) ∙ s.sits)),
)

pub join_seat-requires-2 : goal.join_seat-requires-2
join_seat-requires-2 g c = let s = c.requires.seat in let k = c.requires.keeper in let p = c.split_seat-pledge.ensures in let j = c.join_seat.ensures in let f = c.fetch_add.ensures in let b = c.split_seat-back.ensures in (
  p.0 ∙ k.here,
  b.3 ∙ (f.0 ∙ (j.0 ∙ s.here)),
  rest b.4,
  k.some,
  takes_back c.args.table.now.shared.key c.split_seat-pledge.new.seat.id c.split_seat-back.result.id c.args.slot.0 c.split_seat-pledge.new.seat.me.0 c.split_seat-back.result.me.0
      (ap (λ (v : HoldView). v.role) (view p.2) ∙ k.keeps)
      (ap (λ (v : HoldView). v.pledged) (view p.2) ∙ ap Some (sym c.requires.name))
      (ap (λ (v : HoldView). v.shows) (view b.4) ∙ (ap (λ (v : HoldView). v.shows) (view f.2) ∙ (ap (λ (v : HoldView). v.shows) (view j.2) ∙ (ap (λ (v : HoldView). v.shows) (view p.4) ∙ ap Some (sym c.requires.name)))))
      (ap (λ (v : HoldView). v.held) (view b.4)) (ap (λ (v : HoldView). v.stands) (view b.4)) (ap (λ (v : HoldView). v.role) (view b.4)),
)
