use Rattle.std.proofs.Common.{◌≡◌, ◌∙◌, ap, subst, sym, take, filter}
use Rattle.std.specs.Prelude.{option_to_list}
use Rattle.zq_route.specs.Selection.{best_overall, is_complete, nearest, with_offers}
use Rattle.zq_route.proofs.Nearest.{best_missing, best_placed}
use Rattle.zq_route.proofs.overall.take_best_overall.Goals as goal

pub returns-in-Ok-clause-ok : goal.returns-in-Ok-clause-ok
returns-in-Ok-clause-ok g c =
    let some = c.in-Some.ensures.some in
    c.in-Ok.ensures.ok
    ∙ ap (with_offers c.args.route.now)
    (subst (λ l. option_to_list (nearest (filter is_complete (filter g.test l))) ≡ best_overall (filter g.test l)) c.as_slice.ensures
    (best_placed g.test c.as_slice.result.now c.in-Some.field-0 some.0 some.1))

pub returns-in-Ok-add_kept-clause-ok : goal.returns-in-Ok-add_kept-clause-ok
returns-in-Ok-add_kept-clause-ok g c =
    c.in-Ok-add_kept.ensures.ok
    ∙ ap (with_offers c.args.route.now)
    (sym (subst (λ l. best_overall (filter g.test l) ≡ filter g.test l) c.as_slice.ensures (best_missing (filter g.test c.as_slice.result.now) c.in-None.ensures.none)))

pub returns-clause-err : goal.returns-clause-err
returns-clause-err g c =
    let part = c.in-Err-add_kept.ensures.err in (
      part.0,
      part.1
          ∙ ap (λ l. with_offers c.args.route.now (take part.0 l))
          (sym (subst (λ l. best_overall (filter g.test l) ≡ filter g.test l) c.as_slice.ensures (best_missing (filter g.test c.as_slice.result.now) c.in-None.ensures.none))),
    )
