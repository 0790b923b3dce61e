use Rattle.std.proofs.Common.{ℕ, ◌∙◌, ap, sym}
use Rattle.zq_query.specs.Records.{pending_count}
use Rattle.zq_machine.specs.State.{State}
use Rattle.zq_shared.specs.Stored.{Stored, waiting}
use Rattle.zq_shared.proofs.Moves.{waiting_is}
use Rattle.zq_shared.proofs.journal.Journal.pending_of.Goals as goal

pub returns : goal.returns
returns c =
    let count : State → ℕ = λ s. pending_count c.args.number s.core.queries.records in
    let inside : Stored = record { config = c.self.inside.config; calls = c.self.inside.calls.items } in
    let same = ap (λ (s : Stored). waiting s c.args.number) c.self.view_is in
    c.pending_of.ensures ∙ ap count c.self.invariant.stands ∙ sym (waiting_is inside c.args.number) ∙ same
