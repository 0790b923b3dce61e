use Rattle.std.proofs.Common.{◌≡◌, ◌∙◌, refl, sym, ap, subst, List, ℕ, Bool, IfOk, IfErr, Result, [], ◌∷◌, ◌++◌, Option, Some, None, true, false}
use Rattle.std.specs.Prelude.{◌&&◌}
use Rattle.std.specs.Option.{is_none, is_some}
use Rattle.zq_message.specs.declared.message.QueryableInfoType.{QueryableInfoType}
use Rattle.zq_message.specs.declared.message.Zid.{Zid}
use Rattle.zq_key.specs.Key.{is_key}
use Rattle.zq_strategy.specs.declared.types.Change.{Change}
use Rattle.zq_strategy.specs.Changes.{changed_by}
use Rattle.zq_strategy.specs.Regions.{in_routers, strategy_at}
use Rattle.zq_strategy.specs.Routers.{entry_at, source_at}
use Rattle.zq_strategy.specs.Trees.{to_children}
use Rattle.zq_tables.specs.declared.resolved.Resolved.TheVariants as said
use Rattle.zq_machine.specs.declared.call.Refusal.{Refusal}
use Rattle.zq_machine.specs.Deciding.{accepted}
use Rattle.zq_machine.specs.Neighbours.{looked_over}
use Rattle.zq_machine.specs.State.{State, change_hat, face_region, hat_at, is_open}
use Rattle.zq_machine.specs.Trees.{own_told_on}
use Rattle.zq_egress.specs.Reading.{key_refusal}
use Rattle.zq_dispatcher.specs.Routers.{entered, other_router}
use Rattle.zq_gateway.proofs.Seated.{reached_in_place}
use Rattle.zq_gateway.specs.Making.{IsReached}
use Rattle.zq_gateway.specs.Routing.{entering}
use Rattle.zq_gateway.proofs.Due.{closed_there, opened_there}
use Rattle.zq_gateway.proofs.Entering.{change_is, entering_apart, entering_changes, entering_faces, entering_gathers, entering_plain, entry_only, no_entry, no_key, no_router, not_open}
use Rattle.zq_gateway.proofs.Reached.{reached_enough}
use Rattle.zq_gateway.proofs.tables.Tables.entry_found.Goals as goal

pub returns-in_default-clause-refused : goal.returns-in_default-clause-refused
returns-in_default-clause-refused c =
    let s : State = c.args.self.now in
    not_open s.core c.args.face c.args.said.now c.args.info c.args.node (closed_there c.args.face.0 s.core (sym c.in_default.is ∙ c.region_of.ensures.region))

pub returns-in-Err-clause-refused : goal.returns-in-Err-clause-refused
returns-in-Err-clause-refused c =
    let s : State = c.args.self.now in
    let home : face_region c.args.face.0 s.core ≡ Some c.in-Some.region = sym c.in-Some.ensures.region in
    no_key s.core c.args.face c.args.said.now c.args.info c.args.node (opened_there c.args.face.0 c.in-Some.region s.core home) c.in-Err.refusal (subst (λ (x : Result (List ℕ) Refusal). IfErr x (λ z. key_refusal c.args.said.now ≡ Some z)) c.in-Err.is c.in_ok-key.ensures.refused)

pub returns-in_default-router_of-clause-refused : goal.returns-in_default-router_of-clause-refused
returns-in_default-router_of-clause-refused c =
    let s : State = c.args.self.now in
    let i = c.self.inside in
    let v = c.self.view_is in
    let face = c.args.face in
    let sd = c.args.said.now in
    let info = c.args.info in
    let node = c.args.node in
    let r = c.in-Some.region in
    let home : face_region face.0 s.core ≡ Some r = sym c.in-Some.ensures.region in
    let opens : is_open face.0 s.core ≡ true = opened_there face.0 r s.core home in
    let key : List ℕ = c.in-Ok.key in
    let says : sd ≡ said.Full key = subst (λ (x : Result (List ℕ) Refusal). IfOk x (λ k. sd ≡ said.Full k)) c.in-Ok.is c.in_ok-key.ensures.says in
    let valid : is_key key ≡ true = subst (λ (x : Result (List ℕ) Refusal). IfOk x (λ k. is_key k ≡ true)) c.in-Ok.is c.in_ok-key.ensures.key in
    let h = c.home-hat.result.now in
    let hats = ap (λ (x : State). x.core.hats) v in
    let there : hat_at r s.core.hats ≡ Some h = ap (hat_at r) (sym hats) ∙ c.home-hat.ensures.hat in
    let is : other_router s.core.config.zid (source_at face.0 node h) ≡ None = ap (λ (z : Zid). other_router z (source_at face.0 node h)) (sym (c.zid.ensures ∙ ap (λ (x : State). x.core.config.zid) v)) ∙ sym c.router_of.ensures ∙ c.in_default-router_of.is in
    no_router s.core face sd info node opens key says valid r home h there is

-- both hold
both_hold : (a b : Bool) → (a && b) ≡ true → (a ≡ true) × (b ≡ true)
both_hold true b e = (refl, e)
both_hold false b e = absurd (let gap : false ≡ true = e in cc)

none_of : {X : Type 0} (o : Option X) → is_none o ≡ true → o ≡ None
none_of None e = refl
none_of (Some x) e = absurd (let gap : false ≡ true = e in cc)

pub returns-then-lacks_entry-clause-refused : goal.returns-then-lacks_entry-clause-refused
returns-then-lacks_entry-clause-refused c =
    let s : State = c.args.self.now in
    let i = c.self.inside in
    let v = c.self.view_is in
    let face = c.args.face in
    let sd = c.args.said.now in
    let info = c.args.info in
    let node = c.args.node in
    let r = c.in-Some.region in
    let home : face_region face.0 s.core ≡ Some r = sym c.in-Some.ensures.region in
    let opens : is_open face.0 s.core ≡ true = opened_there face.0 r s.core home in
    let key : List ℕ = c.in-Ok.key in
    let says : sd ≡ said.Full key = subst (λ (x : Result (List ℕ) Refusal). IfOk x (λ k. sd ≡ said.Full k)) c.in-Ok.is c.in_ok-key.ensures.says in
    let valid : is_key key ≡ true = subst (λ (x : Result (List ℕ) Refusal). IfOk x (λ k. is_key k ≡ true)) c.in-Ok.is c.in_ok-key.ensures.key in
    let h = c.home-hat.result.now in
    let hats = ap (λ (x : State). x.core.hats) v in
    let there : hat_at r s.core.hats ≡ Some h = ap (hat_at r) (sym hats) ∙ c.home-hat.ensures.hat in
    let router = c.in-Some-router_of.router in
    let is : other_router s.core.config.zid (source_at face.0 node h) ≡ Some router = ap (λ (z : Zid). other_router z (source_at face.0 node h)) (sym (c.zid.ensures ∙ ap (λ (x : State). x.core.config.zid) v)) ∙ sym c.in-Some-router_of.ensures in
    let lacks : (is_none info && is_none (entry_at router.0 key h)) ≡ true = ap (λ k. is_none info && is_none (entry_at router.0 k h)) (sym c.as_str.ensures.text) ∙ sym c.lacks_entry.ensures ∙ c.if-lacks_entry.true in
    let both = both_hold (is_none info) (is_none (entry_at router.0 key h)) lacks in
    no_entry s.core face sd info node opens key says valid r home h there router is (none_of info both.0) (none_of (entry_at router.0 key h) both.1)

pub dues_on-requires-clause-key : goal.dues_on-requires-clause-key
dues_on-requires-clause-key c = ap is_key c.as_str-3.ensures.text ∙ subst (λ (x : Result (List ℕ) Refusal). IfOk x (λ k. is_key k ≡ true)) c.in-Ok.is c.in_ok-key.ensures.key

pub dues_on-requires-clause-seated : goal.dues_on-requires-clause-seated
dues_on-requires-clause-seated c = reached_in_place _ (subst IsReached (sym c.self.view_is) c.requires.reached)

pub returns-clause-ids : goal.returns-clause-ids
returns-clause-ids c =
    let s : State = c.args.self.now in
    let i = c.self.inside in
    let v = c.self.view_is in
    let face = c.args.face in
    let sd = c.args.said.now in
    let info = c.args.info in
    let node = c.args.node in
    let r = c.in-Some.region in
    let home : face_region face.0 s.core ≡ Some r = sym c.in-Some.ensures.region in
    let opens : is_open face.0 s.core ≡ true = opened_there face.0 r s.core home in
    let key : List ℕ = c.in-Ok.key in
    let says : sd ≡ said.Full key = subst (λ (x : Result (List ℕ) Refusal). IfOk x (λ k. sd ≡ said.Full k)) c.in-Ok.is c.in_ok-key.ensures.says in
    let valid : is_key key ≡ true = subst (λ (x : Result (List ℕ) Refusal). IfOk x (λ k. is_key k ≡ true)) c.in-Ok.is c.in_ok-key.ensures.key in
    let h = c.home-hat.result.now in
    let hats = ap (λ (x : State). x.core.hats) v in
    let there : hat_at r s.core.hats ≡ Some h = ap (hat_at r) (sym hats) ∙ c.home-hat.ensures.hat in
    let router = c.in-Some-router_of.router in
    let is : other_router s.core.config.zid (source_at face.0 node h) ≡ Some router = ap (λ (z : Zid). other_router z (source_at face.0 node h)) (sym (c.zid.ensures ∙ ap (λ (x : State). x.core.config.zid) v)) ∙ sym c.in-Some-router_of.ensures in
    let lacks : (is_none info && is_none (entry_at router.0 key h)) ≡ false = ap (λ k. is_none info && is_none (entry_at router.0 k h)) (sym c.as_str.ensures.text) ∙ sym c.lacks_entry.ensures ∙ c.if-lacks_entry.false in
    let has : info ≡ None → is_none (entry_at router.0 key h) ≡ false = λ e. ap (λ (o : Option QueryableInfoType). is_none o && is_none (entry_at router.0 key h)) (sym e) ∙ lacks in
    let t = entering face sd info node in
    entry_only s.core face sd info node opens key says valid r home h there router is (λ fits none. reached_enough s c.requires.reached t fits (entering_plain face sd info node) none) has

pub returns-clause-found : goal.returns-clause-found
returns-clause-found c =
    let s : State = c.args.self.now in
    let i = c.self.inside in
    let v = c.self.view_is in
    let face = c.args.face in
    let sd = c.args.said.now in
    let info = c.args.info in
    let node = c.args.node in
    let r = c.in-Some.region in
    let home : face_region face.0 s.core ≡ Some r = sym c.in-Some.ensures.region in
    let opens : is_open face.0 s.core ≡ true = opened_there face.0 r s.core home in
    let key : List ℕ = c.in-Ok.key in
    let says : sd ≡ said.Full key = subst (λ (x : Result (List ℕ) Refusal). IfOk x (λ k. sd ≡ said.Full k)) c.in-Ok.is c.in_ok-key.ensures.says in
    let valid : is_key key ≡ true = subst (λ (x : Result (List ℕ) Refusal). IfOk x (λ k. is_key k ≡ true)) c.in-Ok.is c.in_ok-key.ensures.key in
    let h = c.home-hat.result.now in
    let hats = ap (λ (x : State). x.core.hats) v in
    let there : hat_at r s.core.hats ≡ Some h = ap (hat_at r) (sym hats) ∙ c.home-hat.ensures.hat in
    let router = c.in-Some-router_of.router in
    let is : other_router s.core.config.zid (source_at face.0 node h) ≡ Some router = ap (λ (z : Zid). other_router z (source_at face.0 node h)) (sym (c.zid.ensures ∙ ap (λ (x : State). x.core.config.zid) v)) ∙ sym c.in-Some-router_of.ensures in
    let lacks : (is_none info && is_none (entry_at router.0 key h)) ≡ false = ap (λ k. is_none info && is_none (entry_at router.0 k h)) (sym c.as_str.ensures.text) ∙ sym c.lacks_entry.ensures ∙ c.if-lacks_entry.false in
    let has : info ≡ None → is_none (entry_at router.0 key h) ≡ false = λ e. ap (λ (o : Option QueryableInfoType). is_none o && is_none (entry_at router.0 key h)) (sym e) ∙ lacks in
    let t = entering face sd info node in
    let told = c.in_ok-told.ensures ∙ ap (λ k. in_routers (strategy_at h) (to_children (Some face.0) router k info h) [] ++ own_told_on i.hats (change_hat r (entered router k info) i.hats) k) c.as_str-2.ensures.text in
    let dues = c.in_ok-dues.dues in
    let changed = ap (λ (x : Change). change_hat r (changed_by x c.as_str-3.result.now) i.hats) c.entry_change.ensures ∙ change_is r router info c.as_str-3.result.now i.hats ∙ ap (λ (k : List ℕ). change_hat r (entered router k info) i.hats) c.as_str-3.ensures.text ∙ ap (change_hat r (entered router key info)) hats ∙ sym (entering_changes s c.requires.reached face sd info node opens key says valid r home h there router is) in
    let faces = entering_faces s.core face sd info node in
    let apart = entering_apart s c.requires.reached face sd info node opens key says valid r home h there router is has i.hats hats c.as_str-3.result.now c.as_str-3.ensures.text in
    let dues_are = c.in_ok-dues.ensures (accepted s.core t) (faces ∙ sym (ap (λ (x : State). x.core.faces) v)) changed apart ∙ ap (λ (k : List ℕ). looked_over (accepted s.core t) i.interests (k ∷ [])) c.as_str-3.ensures.text in
    entering_gathers s c.requires.reached face sd info node opens key says valid r home h there router is c.requires.routing i.hats hats c.in_ok-told.told told s.core.ears refl i.interests (ap (λ (x : State). x.core.interests) v) dues dues_are

pub returns-clause-hats : goal.returns-clause-hats
returns-clause-hats c =
    let s : State = c.args.self.now in
    let i = c.self.inside in
    let v = c.self.view_is in
    let face = c.args.face in
    let sd = c.args.said.now in
    let info = c.args.info in
    let node = c.args.node in
    let r = c.in-Some.region in
    let home : face_region face.0 s.core ≡ Some r = sym c.in-Some.ensures.region in
    let opens : is_open face.0 s.core ≡ true = opened_there face.0 r s.core home in
    let key : List ℕ = c.in-Ok.key in
    let says : sd ≡ said.Full key = subst (λ (x : Result (List ℕ) Refusal). IfOk x (λ k. sd ≡ said.Full k)) c.in-Ok.is c.in_ok-key.ensures.says in
    let valid : is_key key ≡ true = subst (λ (x : Result (List ℕ) Refusal). IfOk x (λ k. is_key k ≡ true)) c.in-Ok.is c.in_ok-key.ensures.key in
    let h = c.home-hat.result.now in
    let hats = ap (λ (x : State). x.core.hats) v in
    let there : hat_at r s.core.hats ≡ Some h = ap (hat_at r) (sym hats) ∙ c.home-hat.ensures.hat in
    let router = c.in-Some-router_of.router in
    let is : other_router s.core.config.zid (source_at face.0 node h) ≡ Some router = ap (λ (z : Zid). other_router z (source_at face.0 node h)) (sym (c.zid.ensures ∙ ap (λ (x : State). x.core.config.zid) v)) ∙ sym c.in-Some-router_of.ensures in
    entering_changes s c.requires.reached face sd info node opens key says valid r home h there router is

pub returns-clause-there : goal.returns-clause-there
returns-clause-there c = ap is_some (ap (hat_at c.in-Some.region) (sym (ap (λ (x : State). x.core.hats) c.self.view_is)) ∙ c.home-hat.ensures.hat)
