use Rattle.std.proofs.Common.{◌∙◌, ap, sym, map}
use Rattle.std.specs.List.{filter_map}
use Rattle.std.specs.String.{string_bytes}
use Rattle.zq_strategy.specs.Entries.{keyed, standing}
use Rattle.zq_routers.proofs.Standing.{standing_is, standing_none}
use Rattle.zq_routers.proofs.entries.Entries.of_router.Goals as goal

pub returns-in-Ok : goal.returns-in-Ok
returns-in-Ok c =
    c.in-Ok.ensures.found
    ∙ ap (λ all. filter_map (keyed c.args.router.0 all) (map string_bytes c.in-Some.keys.now.keys)) (sym c.self.view_is)
    ∙ standing_is c.args.router c.self.inside.by_key c.self.inside.by_router.entries c.self.invariant c.in-Some.keys.now (sym c.in-Some.ensures.value) c.in-Ok.ensures.ordered
    ∙ ap (standing c.args.router) c.self.view_is

pub returns-in-None : goal.returns-in-None
returns-in-None c =
    c.new.ensures
    ∙ standing_none c.args.router c.self.inside.by_key c.self.inside.by_router.entries c.self.invariant (sym c.in-None.ensures.value)
    ∙ ap (standing c.args.router) c.self.view_is
