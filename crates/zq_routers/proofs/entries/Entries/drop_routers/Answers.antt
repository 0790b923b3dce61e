use Rattle.std.proofs.Common.{◌∙◌, ap, get_or, sym}
use Rattle.std.proofs.lemmas.List.Sums.{fold_more}
use Rattle.zq_message.specs.declared.message.Zid.{Zid}
use Rattle.zq_strategy.specs.Entries.{Entries, without_router}
use Rattle.zq_routers.proofs.entries.Entries.drop_routers.Goals as goal

pub loop-router-preserved : goal.loop-router-preserved
loop-router-preserved c =
    let none : Zid = record { 0 = 0 } in
    let router : Zid = get_or c.args.routers.now c.loop-router.router-index none in
    c.drop_router.ensures
    ∙ ap (λ (all : Entries). without_router all router) c.loop-router.invariant
    ∙ sym (fold_more without_router c.args.self.now c.args.routers.now c.loop-router.router-index none c.loop-router-test.true)
