use Rattle.std.proofs.Common.{◌∙◌, ap}
use Rattle.zq_query.specs.Records.{QueryState, is_pending}
use Rattle.zq_query.proofs.Entries.{pending_is}
use Rattle.zq_query.proofs.queries.Queries.is_pending.Goals as goal

pub returns : goal.returns
returns c =
    let i = c.self.inside in
    c.contains_key.ensures ∙ pending_is c.args.face.0 c.args.id i.heads.entries i.pending.entries i.dues.entries i.replies.entries c.self.invariant.0
    ∙ ap (is_pending c.args.face.0 c.args.id) (ap (λ (s : QueryState). s.records) c.self.view_is)
