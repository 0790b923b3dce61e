use Rattle.std.proofs.Common.{◌∙◌, ap, sym}
use Rattle.std.specs.Option.{option_copied}
use Rattle.zq_strategy.specs.Changes.{changed_by}
use Rattle.zq_strategy.specs.Fellows.{fellow_info}
use Rattle.zq_strategy.specs.Regions.{strategy_at}
use Rattle.zq_machine.specs.Due.{heard_by}
use Rattle.zq_dispatcher.proofs.Nexts.{heard_beside, heard_changed, heard_none}
use Rattle.zq_dispatcher.proofs.due.heard_next.Goals as goal

pub returns-in_default : goal.returns-in_default
returns-in_default c = sym (heard_none c.args.next.now c.args.face.0 c.args.key.now c.args.opened c.args.hats.now (sym c.hat_at.ensures ∙ ap option_copied c.in_default.is))

pub returns-then-same_region : goal.returns-then-same_region
returns-then-same_region c =
    let hat = c.in-Some.hat.now in
    let next = c.args.next.now in
    let face = c.args.face.0 in
    let key = c.args.key.now in
    c.heard_in.ensures
    ∙ ap (heard_by (strategy_at hat) (fellow_info face key (changed_by next.change key hat))) c.others_next-others.ensures
    ∙ heard_changed next face key c.args.opened c.args.hats.now hat (sym c.in-Some.ensures) (sym c.same_region.ensures ∙ c.if-same_region.true)

pub returns-else-same_region : goal.returns-else-same_region
returns-else-same_region c =
    let hat = c.in-Some.hat.now in
    let face = c.args.face.0 in
    let key = c.args.key.now in
    c.heard_in-else-same_region.ensures
    ∙ ap (heard_by (strategy_at hat) (fellow_info face key hat)) c.others_next-others.ensures
    ∙ heard_beside c.args.next.now face key c.args.opened c.args.hats.now hat (sym c.in-Some.ensures) (sym c.same_region.ensures ∙ c.if-same_region.false)
