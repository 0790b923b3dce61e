use Rattle.std.proofs.Common.{subst, sym}
use Rattle.std.specs.Prelude.{OnOk}
use Rattle.zq_machine.specs.declared.call.Call.{Call}
use Rattle.zq_gateway.specs.Caching.{KeepsAsked}
use Rattle.zq_gateway.specs.Making.{Makes}
use Rattle.zq_gateway.proofs.tables.Tables.call.Goals as goal

pub returns-in-Close-clause-makes : goal.returns-in-Close-clause-makes
returns-in-Close-clause-makes c = subst (λ (x : Call). Makes c.args.self.now c.close.new.self x c.close.result) (sym c.in-Close.is) c.close.ensures

pub returns-in-DeclareKeyExpr-clause-makes : goal.returns-in-DeclareKeyExpr-clause-makes
returns-in-DeclareKeyExpr-clause-makes c = rw c.in-DeclareKeyExpr.is c.name_key.ensures

pub returns-in-UndeclareKeyExpr-clause-makes : goal.returns-in-UndeclareKeyExpr-clause-makes
returns-in-UndeclareKeyExpr-clause-makes c = rw c.in-UndeclareKeyExpr.is c.undeclare_key.ensures

pub returns-in-DeclareQueryable-clause-makes : goal.returns-in-DeclareQueryable-clause-makes
returns-in-DeclareQueryable-clause-makes c = subst (λ (x : Call). Makes c.args.self.now c.register.new.self x c.register.result) (sym c.in-DeclareQueryable.is) c.register.ensures

pub returns-in-UndeclareQueryable-clause-makes : goal.returns-in-UndeclareQueryable-clause-makes
returns-in-UndeclareQueryable-clause-makes c = subst (λ (x : Call). Makes c.args.self.now c.unregister.new.self x c.unregister.result) (sym c.in-UndeclareQueryable.is) c.unregister.ensures

pub returns-in-Request-clause-makes : goal.returns-in-Request-clause-makes
returns-in-Request-clause-makes c = rw c.in-Request.is c.send_request.ensures.makes

pub returns-in-Response-clause-makes : goal.returns-in-Response-clause-makes
returns-in-Response-clause-makes c = rw c.in-Response.is c.send_response.ensures

pub returns-in-ResponseFinal-clause-makes : goal.returns-in-ResponseFinal-clause-makes
returns-in-ResponseFinal-clause-makes c = rw c.in-ResponseFinal.is c.response_final.ensures

pub returns-in-Interest-clause-makes : goal.returns-in-Interest-clause-makes
returns-in-Interest-clause-makes c = subst (λ (x : Call). Makes c.args.self.now c.register_interest.new.self x c.register_interest.result) (sym c.in-Interest.is) c.register_interest.ensures

pub returns-in-InterestFinal-clause-makes : goal.returns-in-InterestFinal-clause-makes
returns-in-InterestFinal-clause-makes c = subst (λ (x : Call). Makes c.args.self.now c.unregister_interest.new.self x c.unregister_interest.result) (sym c.in-InterestFinal.is) c.unregister_interest.ensures

pub returns-in-Request-clause-kept : goal.returns-in-Request-clause-kept
returns-in-Request-clause-kept c = subst (λ (x : Call). OnOk c.send_request.result (KeepsAsked c.args.self.now c.send_request.new.routes x)) (sym c.in-Request.is) c.send_request.ensures.kept
