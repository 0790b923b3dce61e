use Rattle.std.proofs.Common.{◌∙◌, sym, ap}
use Rattle.zq_machine.specs.Neighbours.{with_dues}
use Rattle.zq_dispatcher.specs.Dues.{all_keys}
use Rattle.zq_dispatcher.proofs.Joining.{none_listening, one_listed, opening_is}
use Rattle.zq_dispatcher.proofs.over.dues_at_opening.Goals as goal

pub returns-then-not-listens : goal.returns-then-not-listens
returns-then-not-listens c core ints o is =
    c.new.ensures
    ∙ sym (ap (with_dues c.args.face.0) (none_listening c.args.face.0 c.args.opened c.args.hats.now (sym c.listens.ensures ∙ c.if-not-listens.true) (all_keys c.args.hats.now)))
    ∙ opening_is core ints c.args.face.0 c.args.opened o c.args.hats.now is

pub returns : goal.returns
returns c core ints o is =
    one_listed c.args.face.0 c.args.opened c.args.hats.now c.as_slice.result.now c.in_ok-dues.dues c.new-list.result c.list_face.new.list (sym c.listens.ensures ∙ c.if-not-listens.false)
    (c.as_slice.ensures ∙ c.in_ok-keys.ensures.keys) c.in_ok-dues.ensures c.new-list.ensures c.in_ok-list_face.ensures
    ∙ opening_is core ints c.args.face.0 c.args.opened o c.args.hats.now is
