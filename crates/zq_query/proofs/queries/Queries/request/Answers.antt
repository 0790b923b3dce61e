use Rattle.std.proofs.Common.{◌≡◌, ◌∙◌, sym, ap, None}
use Rattle.std.specs.Option.{option_map}
use Rattle.zq_query.specs.Tables.{at_number}
use Rattle.zq_query.specs.Records.{QueryState, request, final_of}
use Rattle.zq_query.proofs.Ids.{request_is, no_count}
use Rattle.zq_query.proofs.queries.Queries.request.Goals as goal

pub returns-in-Some : goal.returns-in-Some
returns-in-Some c =
    let i = c.self.inside in
    sym (request_is i.heads.entries i.pending.entries i.dues.entries i.replies.entries c.args.number c.in-Some.open c.self.invariant.0 (sym c.in-Some.ensures))
    ∙ ap (λ (s : QueryState). request c.args.number s.records) c.self.view_is

pub returns-in-None : goal.returns-in-None
returns-in-None c =
    let i = c.self.inside in
    let is : at_number c.args.number i.heads.entries ≡ None = sym c.get.ensures ∙ c.in-None.is in
    sym (ap (option_map final_of) (no_count i.heads.entries i.pending.entries i.replies.entries c.args.number is))
    ∙ ap (λ (s : QueryState). request c.args.number s.records) c.self.view_is
