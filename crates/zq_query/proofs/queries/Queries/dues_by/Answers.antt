use Rattle.std.proofs.Common.{◌∙◌, ap}
use Rattle.std.specs.List.{filter_map}
use Rattle.zq_query.specs.FaceEntries.{has_key}
use Rattle.zq_query.specs.Records.{QueryState}
use Rattle.zq_query.specs.Tables.{due_cmp}
use Rattle.zq_query.specs.DueEntries.{due_at}
use Rattle.zq_query.specs.Polling.{dues_at}
use Rattle.zq_query.proofs.Dues.{dues_are}
use Rattle.zq_query.proofs.queries.Queries.dues_by.Goals as goal

pub returns : goal.returns
returns c =
    let i = c.self.inside in
    dues_are i.heads.entries i.pending.entries i.dues.entries i.replies.entries c.self.invariant.0 c.args.now i.next_reply i.requests c.self.invariant.1 c.in_ok-dues.dues.items c.in_ok-dues.ensures.order
    (λ q. c.in_ok-dues.ensures.members q ∙ ap (λ l. has_key due_cmp q (filter_map (due_at i.pending.entries) l)) (c.as_slice.ensures.value ∙ c.in_ok-places.ensures))
    ∙ ap (λ (s : QueryState). dues_at c.args.now s.records) c.self.view_is
