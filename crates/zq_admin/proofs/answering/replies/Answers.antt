use Rattle.std.proofs.Common.{◌∙◌, sym, ap}
use Rattle.std.specs.Vec.Iter.{into_iter_items}
use Rattle.zq_admin.specs.Answering.{Made}
use Rattle.zq_admin.proofs.Reported.{on_err}
use Rattle.zq_admin.proofs.answering.replies.Goals as goal

pub returns-in_err-going-clause-cut : goal.returns-in_err-going-clause-cut
returns-in_err-going-clause-cut c =
    on_err c.from_residual.result _
    (record {
      front = c.loop-entry.yielded;
      rest = into_iter_items c.loop-entry.entry-iterator;
      split = sym c.loop-entry.invariant.ahead;
      made = record {
        steps = c.in_err-going.ensures.none ∙ ap (λ (m : Made). m.steps) c.loop-entry.invariant.made;
        state = c.in_err-going.ensures.still ∙ ap (λ (m : Made). m.state) c.loop-entry.invariant.made;
      };
    })
