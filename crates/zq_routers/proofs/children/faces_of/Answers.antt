use Rattle.std.proofs.Common.{◌∙◌, ◌++◌, sym}
use Rattle.std.specs.Option.{option_map, option_to_list}
use Rattle.zq_message.specs.declared.message.Zid.{Zid}
use Rattle.zq_strategy.specs.Seating.{number, other_seated}
use Rattle.zq_routers.proofs.Gathering.{filter_map_more}
use Rattle.zq_routers.proofs.children.faces_of.Goals as goal

pub loop-zid-preserved : goal.loop-zid-preserved
loop-zid-preserved c =
    let first : Zid = record { 0 = 0 } in
    c.in_ok-push_some.ensures
    ∙ (λ j. c.loop-zid.invariant j ++ option_to_list (c.other_face.ensures j))
    ∙ sym (filter_map_more (other_seated (option_map number c.args.from) c.args.seats.now) c.args.ids.now c.loop-zid.zid-index first c.loop-zid-test.true)
