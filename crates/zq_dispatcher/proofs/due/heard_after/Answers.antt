use Rattle.std.proofs.Common.{◌∙◌, ap, sym, Option}
use Rattle.std.specs.Option.{option_copied}
use Rattle.zq_machine.specs.Due.{heard_as}
use Rattle.zq_dispatcher.specs.declared.types.RegionChange.{RegionChange}
use Rattle.zq_dispatcher.specs.Dues.{hats_after}
use Rattle.zq_dispatcher.proofs.due.heard_after.Goals as goal

pub returns-in-Some : goal.returns-in-Some
returns-in-Some c =
    c.heard_next.ensures
    ∙ ap (λ (x : Option RegionChange). heard_as c.args.face.0 c.args.key.now (hats_after x c.args.key.now c.args.hats.now) c.args.opened) (sym (ap option_copied c.in-Some.is))

pub returns-in-None : goal.returns-in-None
returns-in-None c =
    c.heard_now.ensures
    ∙ ap (λ (x : Option RegionChange). heard_as c.args.face.0 c.args.key.now (hats_after x c.args.key.now c.args.hats.now) c.args.opened) (sym (ap option_copied c.in-None.is))
