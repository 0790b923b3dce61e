-- What a gateway keeps of offers stays right over each call, and what has to stays kept.
use Rattle.std.proofs.Common.{◌≡◌, ◌∙◌, refl, sym, ap, subst, ℕ, Bool, true, false, cond, List, Option, Some, None, Result, Ok, Err}
use Rattle.std.specs.Prelude.{◌==◌, OnOk, ⊤}
use Rattle.zq_message.specs.declared.memory.OutOfMemory.{OutOfMemory}
use Rattle.zq_message.specs.declared.message.Declare.{Declare}
use Rattle.zq_message.specs.declared.message.DeclareBody.{DeclareBody}
use Rattle.zq_message.specs.declared.message.DeclareBody.TheVariants as body
use Rattle.zq_message.specs.declared.message.FaceId.{FaceId}
use Rattle.zq_strategy.specs.declared.types.FinalMark.TheVariants as mark
use Rattle.zq_machine.specs.Calls.{declared_call, declaring_call, ending_call}
use Rattle.zq_strategy.specs.State.{HatState}
use Rattle.zq_tables.specs.Naming.{NamingState}
use Rattle.zq_machine.specs.declared.call.Call.{Call}
use Rattle.zq_machine.specs.declared.call.Call.TheVariants as call
use Rattle.zq_machine.specs.declared.call.Step.{Step}
use Rattle.zq_machine.specs.Deciding.{is_accepted}
use Rattle.zq_machine.specs.Machine.{after, after_of}
use Rattle.zq_machine.specs.State.{State}
use Rattle.zq_kept.specs.Current.{AreCurrent, KeepsNamed, KeptOffers}
use Rattle.zq_gateway.specs.Caching.{KeepsAsked, LetsGo, MayKeepAsked, change_in, changes_hat, may_change_hat, may_region_changed}
use Rattle.zq_gateway.specs.Making.{IsReached, MayMake, MayPerform}
use Rattle.zq_gateway.proofs.Changed.{Changes, accepted_changes, refused_hats, spared_hats, without_region}
use Rattle.zq_gateway.proofs.Reached.{reached_after, reached_may}

abbrev hats_in : State → List (ℕ × HatState)
hats_in s = s.core.hats

-- what is kept is right after the call
pub left_current : (s z : State) (mid new : KeptOffers) (o : Option Call) (r : Result Step OutOfMemory) → MayMake s z o r → LetsGo (may_region_changed s o) r mid new → AreCurrent mid s.core.hats → AreCurrent new z.core.hats
left_current s z mid new o (Err e) g l i = subst (AreCurrent new) (sym (ap hats_in g.err)) (l.current s.core.hats (λ h. h) i)
left_current s z mid new o (Ok t) g l i = by (is_accepted t.outcome) refl
  where
    by : (b : Bool) → is_accepted t.outcome ≡ b → AreCurrent new z.core.hats
    by true e =
        let d : Changes (may_region_changed s o) s.core.hats (after_of s o).core.hats = accepted_changes s o (ap (λ (x : Step). is_accepted x.outcome) (sym g.step) ∙ e) in
        let now : AreCurrent new (change_in (may_region_changed s o) d.0 s.core.hats) = subst (λ b. AreCurrent new (cond b (change_in (may_region_changed s o) d.0 s.core.hats) s.core.hats)) e (l.current s.core.hats d.0 i) in
        subst (AreCurrent new) (sym (ap hats_in g.after ∙ d.1)) now
    by false e =
        let same : (after_of s o).core.hats ≡ s.core.hats = refused_hats s o (ap (λ (x : Step). is_accepted x.outcome) (sym g.step) ∙ e) in
        let now : AreCurrent new s.core.hats = subst (λ b. AreCurrent new (cond b (change_in (may_region_changed s o) (λ h. h) s.core.hats) s.core.hats)) e (l.current s.core.hats (λ h. h) i) in
        subst (AreCurrent new) (sym (ap hats_in g.after ∙ same)) now

-- calls made the state, and what is kept is right
pub left_sound : (s z : State) (mid new : KeptOffers) (o : Option Call) (r : Result Step OutOfMemory) → MayMake s z o r → LetsGo (may_region_changed s o) r mid new → IsReached s → AreCurrent mid s.core.hats → IsReached z × AreCurrent new z.core.hats
left_sound s z mid new o r g l reached i = (reached_may s z o r g reached, left_current s z mid new o r g l i)

-- ---- what has to stay
pub always : (r : Result Step OutOfMemory) → OnOk r ⊤
always (Ok t) = tt
always (Err e) = tt

asked_left : (s : State) (mid new : KeptOffers) (c : Call) (r : Result Step OutOfMemory) → OnOk r (KeepsAsked s mid c) → (changes_hat c ≡ false → new ≡ mid) → OnOk r (KeepsAsked s new c)
asked_left s mid new (call.Open o) r k same = always r
asked_left s mid new (call.Close face) r k same = always r
asked_left s mid new (call.DeclareKeyExpr face id wire) r k same = always r
asked_left s mid new (call.UndeclareKeyExpr face id) r k same = always r
asked_left s mid new (call.DeclareQueryable face id wire info node) r k same = always r
asked_left s mid new (call.UndeclareQueryable face id wire node) r k same = always r
asked_left s mid new (call.Request face q now) r k same = subst (λ x. OnOk r (KeepsAsked s x (call.Request face q now))) (sym (same refl)) k
asked_left s mid new (call.Response face q) r k same = always r
asked_left s mid new (call.ResponseFinal face rid) r k same = always r
asked_left s mid new (call.Sent reply) r k same = always r
asked_left s mid new (call.Poll now) r k same = always r
asked_left s mid new (call.SetGateways q table) r k same = always r
asked_left s mid new (call.FinalizeInterest face mark set) r k same = always r
asked_left s mid new (call.Interest face id keys aggregate wire) r k same = always r
asked_left s mid new (call.InterestFinal face id) r k same = always r
asked_left s mid new (call.SetNetwork q net) r k same = always r
asked_left s mid new (call.SetNodeIds face ids) r k same = always r

may_asked_left : (s : State) (mid new : KeptOffers) (o : Option Call) (r : Result Step OutOfMemory) → OnOk r (MayKeepAsked s mid o) → (may_change_hat o ≡ false → new ≡ mid) → OnOk r (MayKeepAsked s new o)
may_asked_left s mid new None r k same = always r
may_asked_left s mid new (Some c) r k same = asked_left s mid new c r k same

-- the call is performed: what was kept before is kept, up to what is let go
pub performed : (s z : State) (old mid new : KeptOffers) (o : Option Call) (r : Result Step OutOfMemory) → MayMake s z o r → KeepsNamed s.names old mid → OnOk r (MayKeepAsked s mid o) → LetsGo (may_region_changed s o) r mid new → MayPerform (record { state = s; routes = old }) (record { state = z; routes = new }) o r
performed s z old mid new o r g stays asked l = record {
  step = g.step;
  after = g.after;
  err = g.err;
  spared = λ e. subst (KeepsNamed s.names old) (sym (l.none (without_region s o e))) stays;
  refused = λ e. subst (KeepsNamed s.names old) (sym (l.refused e)) stays;
  asked = may_asked_left s mid new o r asked (λ e. l.none (without_region s o e));
}

-- all that was kept is kept
pub named_same : (names : NamingState) (t : KeptOffers) → KeepsNamed names t t
named_same names t r k s n named is = is

-- a call without a region lets nothing go
pub goes_none : (r : Result Step OutOfMemory) (t : KeptOffers) → LetsGo None r t t
goes_none r t = record { current = λ hats f i. by hats i _; none = λ e. refl; refused = λ e. refl }
  where
    by : (hats : List (ℕ × HatState)) → AreCurrent t hats → (b : Bool) → AreCurrent t (cond b hats hats)
    by hats i true = i
    by hats i false = i

-- a call that changes no hat, and whose state after it is left
pub left_spared : (s z : State) (t : KeptOffers) (c : Call) → changes_hat c ≡ false → z ≡ after s c → IsReached s × AreCurrent t s.core.hats → IsReached z × AreCurrent t z.core.hats
left_spared s z t c spared here i = (reached_after s z c i.0 here, subst (AreCurrent t) (sym (ap hats_in here ∙ spared_hats s c spared)) i.1)

-- a declaration is no request
pub asked_declared : (s : State) (t : KeptOffers) (face : FaceId) (d : Declare) (r : Result Step OutOfMemory) → OnOk r (MayKeepAsked s t (declared_call face d))
asked_declared s t face d r = by d.body
  where
    ending : (o : Option ℕ) → OnOk r (MayKeepAsked s t (ending_call face o))
    ending None = always r
    ending (Some i) = sent (i == 0)
      where
        sent : (b : Bool) → OnOk r (MayKeepAsked s t (cond b (Some (call.FinalizeInterest face mark.Initial true)) None))
        sent true = always r
        sent false = always r

    by : (b : DeclareBody) → OnOk r (MayKeepAsked s t (declaring_call face d.node d.interest b))
    by (body.DeclareKeyExpr id wire) = always r
    by (body.UndeclareKeyExpr id) = always r
    by (body.DeclareQueryable id wire info) = always r
    by (body.UndeclareQueryable id wire) = always r
    by body.DeclareFinal = ending d.interest
