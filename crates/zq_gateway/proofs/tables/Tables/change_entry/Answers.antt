use Rattle.std.proofs.Common.{◌≡◌, ◌∙◌, sym, subst, IfOk, IfErr, Result, Option, Some, true}
use Rattle.std.specs.Option.{is_some}
use Rattle.zq_message.specs.declared.message.QueryableInfoType.{QueryableInfoType}
use Rattle.zq_machine.specs.declared.call.Refusal.{Refusal}
use Rattle.zq_machine.specs.Deciding.{accepted, refusal_of}
use Rattle.zq_machine.specs.State.{State, change_hat, hat_at}
use Rattle.zq_dispatcher.specs.Routers.{entered}
use Rattle.zq_gateway.specs.declared.routers.EntryFound.{EntryFound}
use Rattle.zq_gateway.specs.Gathering.{Gathers, OnlyIdsLack}
use Rattle.zq_gateway.specs.Routing.{entering}
use Rattle.zq_gateway.proofs.Due.{refused_answered, refused_left}
use Rattle.zq_gateway.proofs.tables.Tables.change_entry.Goals as goal

pub returns-in-Err : goal.returns-in-Err
returns-in-Err c =
    let s : State = c.args.self.now in
    let t = entering c.args.face c.args.said.now c.args.info c.args.node in
    let e = subst (λ (x : Result EntryFound Refusal). IfErr x (λ z. refusal_of s.core t ≡ Some z)) c.in-Err.is c.in_ok-found.ensures.refused in
    record { step = c.refused.ensures ∙ refused_answered s t c.in-Err.refusal e; after = sym (refused_left s t c.in-Err.refusal e); err = tt }

pub put_entry-requires-clause-ids : goal.put_entry-requires-clause-ids
put_entry-requires-clause-ids c =
    let s : State = c.args.self.now in
    let info_is : c.in-Ok.found.entry.info ≡ c.args.info = subst (λ (x : Result EntryFound Refusal). IfOk x (λ (f : EntryFound). f.entry.info ≡ c.args.info)) c.in-Ok.is c.in_ok-found.ensures.info in
    subst (λ (o : Option QueryableInfoType). OnlyIdsLack s.core (entering c.args.face c.args.said.now o c.args.node)) (sym info_is)
    (subst (λ (x : Result EntryFound Refusal). IfOk x (λ (f : EntryFound). OnlyIdsLack s.core (entering c.args.face c.args.said.now c.args.info c.args.node))) c.in-Ok.is c.in_ok-found.ensures.ids)

pub put_entry-requires-clause-found : goal.put_entry-requires-clause-found
put_entry-requires-clause-found c =
    let s : State = c.args.self.now in
    let f : EntryFound = c.in-Ok.found in
    let info_is : f.entry.info ≡ c.args.info = subst (λ (x : Result EntryFound Refusal). IfOk x (λ (f : EntryFound). f.entry.info ≡ c.args.info)) c.in-Ok.is c.in_ok-found.ensures.info in
    subst (λ (o : Option QueryableInfoType). Gathers s.core (entering c.args.face c.args.said.now o c.args.node) s.core.ears f.dues f.told) (sym info_is)
    (subst (λ (x : Result EntryFound Refusal). IfOk x (λ (f : EntryFound). Gathers s.core (entering c.args.face c.args.said.now c.args.info c.args.node) s.core.ears f.dues f.told)) c.in-Ok.is c.in_ok-found.ensures.found)

pub put_entry-requires-clause-hats : goal.put_entry-requires-clause-hats
put_entry-requires-clause-hats c =
    let s : State = c.args.self.now in
    let f : EntryFound = c.in-Ok.found in
    let info_is : f.entry.info ≡ c.args.info = subst (λ (x : Result EntryFound Refusal). IfOk x (λ (f : EntryFound). f.entry.info ≡ c.args.info)) c.in-Ok.is c.in_ok-found.ensures.info in
    subst (λ (o : Option QueryableInfoType). (accepted s.core (entering c.args.face c.args.said.now o c.args.node)).hats ≡ change_hat f.entry.region (entered f.entry.router f.entry.key o) s.core.hats) (sym info_is)
    (subst (λ (x : Result EntryFound Refusal). IfOk x (λ (f : EntryFound). (accepted s.core (entering c.args.face c.args.said.now c.args.info c.args.node)).hats ≡ change_hat f.entry.region (entered f.entry.router f.entry.key c.args.info) s.core.hats)) c.in-Ok.is c.in_ok-found.ensures.hats)

pub put_entry-requires-clause-there : goal.put_entry-requires-clause-there
put_entry-requires-clause-there c =
    let s : State = c.args.self.now in
    subst (λ (x : Result EntryFound Refusal). IfOk x (λ (f : EntryFound). is_some (hat_at f.entry.region s.core.hats) ≡ true)) c.in-Ok.is c.in_ok-found.ensures.there
