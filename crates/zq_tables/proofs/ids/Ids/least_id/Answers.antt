use Rattle.std.proofs.Common.{ℕ, List, ap, ◌∙◌}
use Rattle.zq_tables.specs.FaceIds.{least_id}
use Rattle.zq_tables.proofs.ids.Ids.least_id.Goals as goal

pub returns : goal.returns
returns c = c.least_of.ensures ∙ ap (λ (l : List (ℕ × ℕ)). least_id l c.args.node) c.self.view_is
