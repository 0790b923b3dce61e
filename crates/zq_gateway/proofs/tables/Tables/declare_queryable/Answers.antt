use Rattle.std.proofs.Common.{◌≡◌, ◌∙◌, refl, sym, ap, subst, List, ℕ, [], ◌∷◌, IfErr, IfOk, Some, Result, true, false}
use Rattle.zq_key.specs.Key.{is_key}
use Rattle.zq_strategy.specs.Kept.{clashes_at, registered}
use Rattle.zq_tables.specs.declared.resolved.Resolved.TheVariants as said
use Rattle.zq_machine.specs.declared.call.Refusal.{Refusal}
use Rattle.zq_machine.specs.declared.call.Refusal.TheVariants as refusal
use Rattle.zq_machine.specs.Deciding.{accepted, refusal_of}
use Rattle.zq_machine.specs.Neighbours.{looked_over}
use Rattle.zq_machine.specs.State.{State, change_hat, face_region, hat_at}
use Rattle.zq_machine.specs.TextCalls.{declaring}
use Rattle.zq_machine.specs.Trees.{own_told_on}
use Rattle.zq_egress.specs.Reading.{key_refusal}
use Rattle.zq_gateway.proofs.Seated.{reached_in_place}
use Rattle.zq_gateway.specs.Making.{IsReached, Settles}
use Rattle.zq_gateway.proofs.Elsewhere.{beside, beside_at, declares_quietly}
use Rattle.zq_gateway.proofs.Due.{changed_home, declaration_clashes, declaration_gathers, declaration_no_key, declaration_only, opened_there, refused_answered, refused_left}
use Rattle.zq_gateway.proofs.tables.Tables.declare_queryable.Goals as goal

pub returns-in-Err : goal.returns-in-Err
returns-in-Err c =
    let s : State = c.args.self.now in
    let t = declaring c.args.face c.args.id c.args.said.now c.args.info c.args.node in
    let home : face_region c.args.face.0 s.core ≡ Some c.in-Some.region = sym c.in-Some.ensures.region in
    let e = declaration_no_key s c.args.face c.args.id (opened_there c.args.face.0 c.in-Some.region s.core home) c.args.said.now c.args.info c.args.node c.in-Err.refusal (subst (λ (x : Result (List ℕ) Refusal). IfErr x (λ z. key_refusal c.args.said.now ≡ Some z)) c.in-Err.is c.in_ok-key.ensures.refused) in
    record { step = c.refused-in-Err.ensures ∙ refused_answered s t c.in-Err.refusal e; after = sym (refused_left s t c.in-Err.refusal e); err = tt }

pub returns-then-clashes : goal.returns-then-clashes
returns-then-clashes c =
    let s : State = c.args.self.now in
    let face = c.args.face in
    let id = c.args.id in
    let r = c.in-Some.region in
    let h = c.home-hat.result.now in
    let key : List ℕ = c.in-Ok.key in
    let home : face_region face.0 s.core ≡ Some r = sym c.in-Some.ensures.region in
    let there : hat_at r s.core.hats ≡ Some h = ap (hat_at r) (sym (ap (λ (x : State). x.core.hats) c.self.view_is)) ∙ c.home-hat.ensures.hat in
    let says : c.args.said.now ≡ said.Full key = subst (λ (x : Result (List ℕ) Refusal). IfOk x (λ k. c.args.said.now ≡ said.Full k)) c.in-Ok.is c.in_ok-key.ensures.says in
    let valid : is_key key ≡ true = subst (λ (x : Result (List ℕ) Refusal). IfOk x (λ k. is_key k ≡ true)) c.in-Ok.is c.in_ok-key.ensures.key in
    let used : clashes_at face.0 id key h ≡ true = ap (λ k. clashes_at face.0 id k h) (sym c.as_str.ensures.text) ∙ sym c.clashes.ensures ∙ c.if-clashes.true in
    let t = declaring face id c.args.said.now c.args.info c.args.node in
    let e = ap (λ x. refusal_of s.core (declaring face id x c.args.info c.args.node)) says ∙ declaration_clashes s c.requires face id r home h there key c.args.info c.args.node valid used in
    record { step = c.refused-then-clashes.ensures ∙ refused_answered s t refusal.IdInUse e; after = sym (refused_left s t refusal.IdInUse e); err = tt }

pub gather-requires-clause-there : goal.gather-requires-clause-there
gather-requires-clause-there c = c.home-hat.ensures.hat

pub gather-requires-clause-key : goal.gather-requires-clause-key
gather-requires-clause-key c = ap is_key c.as_str-2.ensures.text ∙ subst (λ (x : Result (List ℕ) Refusal). IfOk x (λ k. is_key k ≡ true)) c.in-Ok.is c.in_ok-key.ensures.key

pub gather-requires-clause-seated : goal.gather-requires-clause-seated
gather-requires-clause-seated c = reached_in_place _ (subst IsReached (sym c.self.view_is) c.requires)

pub put_queryable-requires-clause-home : goal.put_queryable-requires-clause-home
put_queryable-requires-clause-home c = sym c.in-Some.ensures.region

pub put_queryable-requires-clause-ids : goal.put_queryable-requires-clause-ids
put_queryable-requires-clause-ids c =
    let s : State = c.args.self.now in
    let face = c.args.face in
    let id = c.args.id in
    let r = c.in-Some.region in
    let h = c.home-hat.result.now in
    let key : List ℕ = c.in-Ok.key in
    let home : face_region face.0 s.core ≡ Some r = sym c.in-Some.ensures.region in
    let there : hat_at r s.core.hats ≡ Some h = ap (hat_at r) (sym (ap (λ (x : State). x.core.hats) c.self.view_is)) ∙ c.home-hat.ensures.hat in
    let valid : is_key key ≡ true = subst (λ (x : Result (List ℕ) Refusal). IfOk x (λ k. is_key k ≡ true)) c.in-Ok.is c.in_ok-key.ensures.key in
    let free : clashes_at face.0 id key h ≡ false = ap (λ k. clashes_at face.0 id k h) (sym c.as_str.ensures.text) ∙ sym c.clashes.ensures ∙ c.if-clashes.false in
    declaration_only s c.requires face id r home h there key c.args.info c.args.node valid free

pub put_queryable-requires-clause-found : goal.put_queryable-requires-clause-found
put_queryable-requires-clause-found c =
    let s : State = c.args.self.now in
    let i = c.self.inside in
    let v = c.self.view_is in
    let face = c.args.face in
    let id = c.args.id in
    let info = c.args.info in
    let node = c.args.node in
    let r = c.in-Some.region in
    let h = c.home-hat.result.now in
    let key : List ℕ = c.in-Ok.key in
    let text = c.as_str-2.ensures.text in
    let home : face_region face.0 s.core ≡ Some r = sym c.in-Some.ensures.region in
    let hats = ap (λ (x : State). x.core.hats) v in
    let there : hat_at r s.core.hats ≡ Some h = ap (hat_at r) (sym hats) ∙ c.home-hat.ensures.hat in
    let valid : is_key key ≡ true = subst (λ (x : Result (List ℕ) Refusal). IfOk x (λ k. is_key k ≡ true)) c.in-Ok.is c.in_ok-key.ensures.key in
    let free : clashes_at face.0 id key h ≡ false = ap (λ k. clashes_at face.0 id k h) (sym c.as_str.ensures.text) ∙ sym c.clashes.ensures ∙ c.if-clashes.false in
    let t = declaring face id (said.Full key) info node in
    let told = c.in_ok-found.found.told in
    let dues = c.in_ok-found.found.dues in
    let told_is = c.in_ok-found.ensures.told ∙ ap (λ (k : List ℕ). own_told_on i.hats (change_hat r (registered face.0 id k node info) i.hats) k) text in
    let changed = ap (λ (k : List ℕ). change_hat r (registered face.0 id k node info) i.hats) text ∙ ap (change_hat r (registered face.0 id key node info)) hats ∙ sym (changed_home face.0 r s.core home (registered face.0 id key node info)) in
    let apart = beside_at (accepted s.core t) hats (ap (λ (k : List ℕ). k ∷ []) text) (beside s c.requires t (declares_quietly s face id r home h there key info node valid free) (key ∷ []) (λ f. refl) refl refl (λ f o on. on)) in
    let dues_are = c.in_ok-found.ensures.dues (accepted s.core t) (sym (ap (λ (x : State). x.core.faces) v)) changed apart ∙ ap (λ (k : List ℕ). looked_over (accepted s.core t) i.interests (k ∷ [])) text in
    declaration_gathers s c.requires face id r home h there key info node i.hats hats told told_is s.core.ears refl i.interests (ap (λ (x : State). x.core.interests) v) dues dues_are

pub returns : goal.returns
returns c =
    let s : State = c.args.self.now in
    let key : List ℕ = c.in-Ok.key in
    let says : c.args.said.now ≡ said.Full key = subst (λ (x : Result (List ℕ) Refusal). IfOk x (λ k. c.args.said.now ≡ said.Full k)) c.in-Ok.is c.in_ok-key.ensures.says in
    subst (λ sd. Settles s c.put_queryable.new.self (declaring c.args.face c.args.id sd c.args.info c.args.node) c.put_queryable.result) (sym says) c.put_queryable.ensures
