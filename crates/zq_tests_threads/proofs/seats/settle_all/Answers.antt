use Rattle.std.proofs.Common.{◌≡◌, ◌∙◌, Some, ap, sym}
use Rattle.std.proofs.lemmas.List.Elements.{All-pop}
use Rattle.zq_hold.specs.Seats.{Ended}
use Rattle.zq_shared.specs.Holding.{Lasts}
use Rattle.zq_tests_threads.proofs.seats.settle_all.Goals as goal

pub settle_one-ends-requires : goal.settle_one-ends-requires
settle_one-ends-requires c =
    (All-pop (λ (e : Ended). e.home ≡ c.args.shared.now.slots.keeper.home) c.lasts.lasts.ended c.take.new.self.ended (Some c.in-Some.last) (ap (λ (l : Lasts). l.ended) c.in-Some.ensures.some) c.lasts.invariant.ended).1
    ∙ sym c.lasts.invariant.home

pub lasts-preserved : goal.lasts-preserved
lasts-preserved c = record {
  ended = (All-pop (λ (e : Ended). e.home ≡ c.args.shared.now.slots.keeper.home) c.lasts.lasts.ended c.take.new.self.ended (Some c.in-Some.last) (ap (λ (l : Lasts). l.ended) c.in-Some.ensures.some) c.lasts.invariant.ended).0;
  home = c.settle_one-ends.ensures ∙ c.lasts.invariant.home;
}
