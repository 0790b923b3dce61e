use Rattle.std.proofs.Common.{◌∙◌, ap, sym, fold}
use Rattle.zq_dispatcher.specs.Listeners.{with_unasked}
use Rattle.zq_dispatcher.proofs.listeners.put_unasked.Goals as goal

pub loop-hat-preserved : goal.loop-hat-preserved
loop-hat-preserved c = record {
  can = tt;
  ends = tt;
  rest =
      ap (λ ks. fold with_unasked ks c.next.new.self) c.in_ok-put_hat.ensures
      ∙ sym (ap (fold with_unasked c.loop-hat.found.keys) c.in-Some.ensures.steps)
      ∙ c.loop-hat.invariant.rest;
}
