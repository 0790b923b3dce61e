use Rattle.std.proofs.Common.{◌∙◌, sym, ap}
use Rattle.std.specs.Option.{is_some}
use Rattle.zq_egress.specs.Askers.{asker_of}
use Rattle.zq_kept.proofs.Places.{stored_table}
use Rattle.zq_kept.proofs.Spots.{copied_some, set_current, set_keeps, set_kept, spot_is, spot_kept}
use Rattle.zq_kept.proofs.asking.Asking.keep_one.Goals as goal

pub returns-then-is_some-clause-kept : goal.returns-then-is_some-clause-kept
returns-then-is_some-clause-kept c =
    let a = asker_of c.args.self.now.asker in
    let spot = spot_is c.args.versions.now a c.args.hat.now c.in-Some.spot (sym c.spot_for.ensures.spot ∙ c.in-Some.is) in
    spot_kept c.args.versions.now a c.args.hat.now c.in-Some.spot c.args.self.now.key.now spot c.args.routes.now
    (ap is_some (sym c.route_in.ensures) ∙ copied_some c.route_in.result ∙ sym c.is_some.ensures ∙ c.if-is_some.true)

pub returns-clause-kept : goal.returns-clause-kept
returns-clause-kept c =
    let a = asker_of c.args.self.now.asker in
    let key = c.args.self.now.key.now in
    let spot = spot_is c.args.versions.now a c.args.hat.now c.in-Some.spot (sym c.spot_for.ensures.spot ∙ c.in-Some.is) in
    set_kept c.args.versions.now a c.args.hat.now c.in-Some.spot key spot c.args.routes.now c.set_in.new.regions _ c.in_ok-set_in.ensures.ok

pub returns-clause-table : goal.returns-clause-table
returns-clause-table c =
    let a = asker_of c.args.self.now.asker in
    let key = c.args.self.now.key.now in
    let spot = spot_is c.args.versions.now a c.args.hat.now c.in-Some.spot (sym c.spot_for.ensures.spot ∙ c.in-Some.is) in
    stored_table c.args.versions.now key c.args.routes.now c.set_in.new.regions c.in-Some.spot _ c.in_ok-set_in.ensures.ok spot.version c.requires.table

pub returns-clause-current : goal.returns-clause-current
returns-clause-current c =
    let a = asker_of c.args.self.now.asker in
    let key = c.args.self.now.key.now in
    let spot = spot_is c.args.versions.now a c.args.hat.now c.in-Some.spot (sym c.spot_for.ensures.spot ∙ c.in-Some.is) in
    set_current c.args.versions.now a c.args.hat.now c.in-Some.spot key spot c.args.routes.now c.set_in.new.regions _ c.in_ok-set_in.ensures.ok
    c.args.self.now.hats.now c.requires.there c.in_ok-offers.ensures c.requires.current

pub returns-clause-keeps : goal.returns-clause-keeps
returns-clause-keeps c =
    let a = asker_of c.args.self.now.asker in
    let key = c.args.self.now.key.now in
    let spot = spot_is c.args.versions.now a c.args.hat.now c.in-Some.spot (sym c.spot_for.ensures.spot ∙ c.in-Some.is) in
    set_keeps c.args.versions.now a c.args.hat.now c.in-Some.spot key spot c.args.routes.now c.set_in.new.regions _ c.in_ok-set_in.ensures.ok c.args.self.now.hats.now
