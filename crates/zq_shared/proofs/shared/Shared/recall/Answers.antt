use Rattle.std.proofs.Common.{[], length, subst}
use Rattle.zq_shared.specs.Answers.{behind}
use Rattle.zq_shared.specs.Ties.{Sharing}
use Rattle.zq_shared.specs.Sharing.{AreOrderly, IsWithin, OthersAreGone}
use Rattle.zq_shared.proofs.Due.{others_gone, tied_within}
use Rattle.zq_shared.proofs.shared.Shared.recall.Goals as goal

pub returns-clause-within : goal.returns-clause-within
returns-clause-within c =
    subst (λ (x : Sharing). IsWithin (length x.slots.keeper.marks) x.stored) c.self.view_is
    (tied_within c.self.inside.journal c.self.inside.slots c.self.invariant.tied c.recall.ensures.slotted.wide)

pub returns-clause-orderly : goal.returns-clause-orderly
returns-clause-orderly c = subst (λ (x : Sharing). AreOrderly (length x.slots.keeper.marks) (behind x.stored.config []) x.stored.calls) c.self.view_is c.self.invariant.orderly

pub returns-clause-others : goal.returns-clause-others
returns-clause-others c = subst (λ (x : Sharing). OthersAreGone x) c.self.view_is (others_gone c.self.inside.journal c.self.inside.slots c.self.invariant.tied)
