use Rattle.std.proofs.Common.{◌≡◌, ◌∙◌, sym, ap}
use Rattle.std.specs.Option.{is_some}
use Rattle.zq_egress.specs.Askers.{asker_of}
use Rattle.zq_machine.specs.Selecting.{offers_to}
use Rattle.zq_kept.specs.Current.{IsKeptFor}
use Rattle.zq_kept.specs.Table.{one_text}
use Rattle.zq_kept.proofs.Current.{kept_value, some_of}
use Rattle.zq_kept.proofs.Spots.{spot_found, spot_is, spot_kept}
use Rattle.zq_kept.proofs.asking.Asking.kept_in.Goals as goal

pub returns-clause-offers : goal.returns-clause-offers
returns-clause-offers c =
    let a = asker_of c.args.self.now.asker in
    let key = c.args.self.now.key.now in
    let vs = c.args.versions.now in
    let h = c.args.hat.now in
    let spot = spot_is vs a h c.in-Some.spot (sym c.spot_for.ensures.spot ∙ c.in-Some.is) in
    some_of (λ os. os ≡ offers_to a key h) c.route_in.result _ c.route_in.ensures
    (λ os is. kept_value a key (one_text vs key c.args.routes.now) c.args.self.now.hats.now h c.in-Some.spot.node os c.requires.current c.requires.there spot.node (is ∙ sym (spot_found vs a h c.in-Some.spot key spot c.args.routes.now)))

pub returns-clause-kept : goal.returns-clause-kept
returns-clause-kept c =
    let a = asker_of c.args.self.now.asker in
    let key = c.args.self.now.key.now in
    let vs = c.args.versions.now in
    let h = c.args.hat.now in
    let spot = spot_is vs a h c.in-Some.spot (sym c.spot_for.ensures.spot ∙ c.in-Some.is) in
    some_of (λ _. IsKeptFor a key (one_text vs key c.args.routes.now) h) c.route_in.result _ c.route_in.ensures
    (λ os is. spot_kept vs a h c.in-Some.spot key spot c.args.routes.now (ap is_some (sym is)))
