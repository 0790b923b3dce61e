use Rattle.std.proofs.Common.{◌≡◌, ◌∙◌, ap, sym, true, List, [], ◌∷◌}
use Rattle.std.specs.Prelude.{is_none}
use Rattle.zq_query.specs.Records.{QueryState, letting_go_all}
use Rattle.zq_machine.specs.Writing.{Place}
use Rattle.zq_egress.proofs.Unsent.{its_place, no_longer}
use Rattle.zq_egress.proofs.letting.let_go.Goals as goal

pub returns-in-Request : goal.returns-in-Request
returns-in-Request c standing =
    let q : QueryState = c.args.queries.now in
    let h = c.args.message.now in
    let none : is_none h.leaves ≡ true = sym c.is_unsent.ensures ∙ c.if-not-is_unsent.false in
    no_longer q c.last.new.self c.to.result.0 c.in-Request.request.id standing c.last.result c.last.ensures.after c.last.ensures.not_found
    ∙ ap (λ to. record q { records = letting_go_all q.records ((to, c.in-Request.request.id) ∷ []) }) (ap (λ f. f.0) c.to.ensures)
    ∙ ap (λ (places : List Place). record q { records = letting_go_all q.records places }) (its_place h.to h.message c.in-Request.request h.leaves (sym c.message.ensures ∙ c.in-Request.is) none)
