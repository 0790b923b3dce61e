use Rattle.std.proofs.Common.{◌∙◌, ap, Option, []}
use Rattle.std.specs.List.{filter, cons_option}
use Rattle.zq_query.specs.declared.records.Final.{Final}
use Rattle.zq_query.specs.Records.{QueryState, final_if_open}
use Rattle.zq_query.specs.Closing.{has_open_asker}
use Rattle.zq_query.proofs.OneFinal.{open_one}
use Rattle.zq_query.proofs.queries.Queries.sent.Goals as goal

pub returns-in-Some-clause-all : goal.returns-in-Some-clause-all
returns-in-Some-clause-all c =
    let s = c.args.self.now in
    ap (λ (q : Option Final). cons_option q []) c.if_open.ensures
    ∙ ap (λ (z : QueryState). cons_option (final_if_open z.closed c.in-Some.over) []) c.in-Some.ensures.records
    ∙ open_one s.closed c.in-Some.over
    ∙ ap (filter (has_open_asker s.closed)) c.in-Some.ensures.only
