use Rattle.std.proofs.Common.{◌≡◌, List, ℕ}
use Rattle.std.specs.Prelude.{map}
use Rattle.zq_lines.specs.Split.{lines_of}
use Rattle.zq_script.specs.Running.{EndsWell, IsBad}
use Rattle.zq_script.specs.Script.{script_of}
use Rattle.zq_io.specs.Streams.{Rose}
use Rattle.zq_program.specs.Faults.{SomeRose}
use Rattle.zq_program.specs.Running.{IsFitFor, LeavesShared}
use Rattle.zq_program.proofs.Completed.{of_whole, read_fails}
use Rattle.zq_program.proofs.shared_run.share_source.Goals as goal

pub returns-in-Ok-clause-leaves : goal.returns-in-Ok-clause-leaves
returns-in-Ok-clause-leaves g c =
    let whole = c.in-Ok.ensures.whole in
    of_whole (g.S.Source.left c.args.source.now) (g.S.Source.left c.read_all.new.source) c.in-Ok.bytes c.as_slice.result.now
    (λ (input : List ℕ). LeavesShared c.args.sharing c.answer.result.status input (g.K.Sink.taken c.args.sink.now) (g.K.Sink.taken c.answer.new.sink)) whole.0 whole.1 c.as_slice.ensures c.answer.ensures.leaves

pub returns-in-Ok-clause-complete : goal.returns-in-Ok-clause-complete
returns-in-Ok-clause-complete g c =
    let whole = c.in-Ok.ensures.whole in
    of_whole (g.S.Source.left c.args.source.now) (g.S.Source.left c.read_all.new.source) c.in-Ok.bytes c.as_slice.result.now
    (λ (input : List ℕ). IsFitFor c.args.sharing.workers input → (Rose (g.S.Source.faults c.args.source.now) (g.S.Source.faults c.read_all.new.source) → ⊥) → (Rose (g.K.Sink.faults c.args.sink.now) (g.K.Sink.faults c.answer.new.sink) → ⊥) → (SomeRose (map g.L.Link.faults c.args.links.now) (map g.L.Link.faults c.answer.new.links) → ⊥) → EndsWell c.answer.result.status)
    whole.0 whole.1 c.as_slice.ensures (λ fit quiet r t. c.answer.ensures.complete fit.1 r t)

pub returns-in-Ok-clause-unsent : goal.returns-in-Ok-clause-unsent
returns-in-Ok-clause-unsent g c =
    let whole = c.in-Ok.ensures.whole in
    of_whole (g.S.Source.left c.args.source.now) (g.S.Source.left c.read_all.new.source) c.in-Ok.bytes c.as_slice.result.now
    (λ (input : List ℕ). IsBad (script_of c.args.sharing.workers (lines_of input)) → c.answer.new.links ≡ c.args.links.now) whole.0 whole.1 c.as_slice.ensures c.answer.ensures.unsent

pub returns-in-Err-ReadFault-clause-complete : goal.returns-in-Err-ReadFault-clause-complete
returns-in-Err-ReadFault-clause-complete g c =
    rw c.of.ensures.status (read_fails c.args.sharing.workers (g.S.Source.left c.args.source.now) (Rose (g.S.Source.faults c.args.source.now) (g.S.Source.faults c.read_all.new.source)) _ _ (c.in-Err-ReadFault.ensures.fault (cc)))
