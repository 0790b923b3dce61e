-- A router has an entry on a key from now on, or has none: what refuses it, what it tells, and what it changes.
use Rattle.std.proofs.Common.{◌≡◌, ◌∙◌, refl, sym, ap, ℕ, Bool, true, false, cond, not, List, [], ◌∷◌, ◌++◌, map, fold, Option, Some, None}
use Rattle.std.specs.Option.{is_none, option_and_then, option_map_or}
use Rattle.std.specs.BTreeSet.{insert_key}
use Rattle.std.proofs.lemmas.Bool.{false≢true}
use Rattle.zq_message.specs.declared.message.FaceId.{FaceId}
use Rattle.zq_message.specs.declared.message.QueryableInfoType.{QueryableInfoType}
use Rattle.zq_message.specs.declared.message.Region.{Region}
use Rattle.zq_message.specs.declared.message.Zid.{Zid}
use Rattle.zq_key.specs.Key.{is_key}
use Rattle.zq_strategy.specs.declared.network.Telling.{Telling as TreeTelling}
use Rattle.zq_strategy.specs.Nets.{is_zid}
use Rattle.zq_strategy.specs.Tellings.{in_order}
use Rattle.zq_index.specs.Texts.{text_cmp}
use Rattle.zq_interests.specs.Interests.{Interests}
use Rattle.zq_told.specs.declared.types.FaceUpdate.{FaceUpdate}
use Rattle.zq_told.specs.ToldSets.{ToldSets}
use Rattle.zq_told.specs.declared.types.Reason.TheVariants.{Update}
use Rattle.zq_told.specs.Telling.{tell_due}
use Rattle.zq_strategy.specs.Changes.{changed_by}
use Rattle.zq_machine.specs.Neighbours.{looked_at, looked_over}
use Rattle.zq_machine.specs.Receivers.{makes_due}
use Rattle.zq_strategy.specs.declared.types.Strategy.{Strategy}
use Rattle.zq_strategy.specs.declared.types.Strategy.TheVariants as strategy
use Rattle.zq_strategy.specs.Regions.{in_routers, strategy_at}
use Rattle.zq_strategy.specs.Routers.{announced, entry_at, retracted, source_at}
use Rattle.zq_strategy.specs.State.{HatState}
use Rattle.zq_strategy.specs.Trees.{to_children}
use Rattle.zq_tables.specs.declared.resolved.Resolved.{Resolved}
use Rattle.zq_tables.specs.declared.resolved.Resolved.TheVariants as said
use Rattle.zq_machine.specs.declared.call.Outcome.TheVariants as outcome
use Rattle.zq_machine.specs.declared.call.Step.{Step}
use Rattle.zq_machine.specs.declared.call.Refusal.{Refusal}
use Rattle.zq_machine.specs.declared.call.Refusal.TheVariants as refusal
use Rattle.zq_machine.specs.Deciding.{accepted, announced_by, changed, entry_by, entry_of, granted, interests_for, kept, lacks_router, lacks_told, refusal_of, regated, renamed, retracted_by}
use Rattle.zq_machine.specs.Handing.{Handed}
use Rattle.zq_machine.specs.Gates.{Gates}
use Rattle.zq_machine.specs.Messages.{from_hat}
use Rattle.zq_machine.specs.Selecting.{full_text, is_unscoped, says_key}
use Rattle.zq_machine.specs.State.{Core, State, at, change_hat, face_region, hat_at, hat_of, is_open, is_routing, put_hat}
use Rattle.zq_machine.specs.TextCalls.{announcing, by_router}
use Rattle.zq_machine.specs.Trees.{own_told_on, source_told, touched, tree_told}
use Rattle.zq_machine.specs.Writing.{tell}
use Rattle.zq_tables.specs.Naming.{NamingState}
use Rattle.zq_egress.specs.Telling.{behind}
use Rattle.zq_egress.specs.Reading.{key_refusal}
use Rattle.zq_dispatcher.specs.Routers.{entered, entry_change, other_router}
use Rattle.zq_gateway.specs.Gathering.{Gathers, OnlyIdsLack, looked}
use Rattle.zq_gateway.specs.Making.{IsReached}
use Rattle.zq_gateway.specs.Routing.{entering}
use Rattle.zq_machine.proofs.Keeping.{is_plain}
use Rattle.zq_machine.proofs.Writing.{plain_answer, plain_settle}
use Rattle.zq_machine.specs.declared.face.OpenFace.{OpenFace}
use Rattle.zq_dispatcher.specs.Dues.{IsBeside}
use Rattle.zq_machine.specs.Due.{heard_touched}
use Rattle.zq_gateway.proofs.Elsewhere.{beside, beside_at, none_lacks, quiet}
use Rattle.zq_gateway.proofs.Due.{changed_home, due, hat_home, key_along, key_looked, key_refuses, told_answered, told_left}

-- in a region of routers
in_routing : {X : Type 0} (k : Strategy) (a b : X) → in_routers k true false ≡ true → in_routers k a b ≡ a
in_routing strategy.Broker a b e = absurd (false≢true e)
in_routing strategy.Client a b e = absurd (false≢true e)
in_routing strategy.Peer a b e = absurd (false≢true e)
in_routing strategy.Router a b e = refl

-- changes that are the same of a region's hat
same_change : (r : Region) (f g : HatState → HatState) (hats : List (ℕ × HatState)) (h : HatState) → hat_at r hats ≡ Some h → f h ≡ g h → change_hat r f hats ≡ change_hat r g hats
same_change r f g hats h there same = ap (put_hat r f hats) there ∙ ap (λ x. put_hat r (λ _. x) hats (Some h)) same ∙ ap (put_hat r g hats) (sym there)

-- the router is another one, or none
lacks_other : (own : Zid) (o : Option Zid) → option_map_or (is_zid own) o true ≡ is_none (other_router own o)
lacks_other own None = refl
lacks_other own (Some z) = by (is_zid own z)
  where
    by : (b : Bool) → b ≡ is_none (cond b None (Some z))
    by true = refl
    by false = refl

source_is : (own : Zid) (o : Option Zid) (router : Zid) → other_router own o ≡ Some router → o ≡ Some router
source_is own None router e = absurd (let gap : None ≡ Some router = e in cc)
source_is own (Some z) router e = by (is_zid own z) e
  where
    by : (b : Bool) → cond b None (Some z) ≡ Some router → Some z ≡ Some router
    by true f = absurd (let gap : None ≡ Some router = f in cc)
    by false f = f

-- it is no interest, nor the end of one
pub entering_plain : (face : FaceId) (sd : Resolved) (info : Option QueryableInfoType) (node : ℕ) → is_plain (entering face sd info node) ≡ true
entering_plain face sd None node = refl
entering_plain face sd (Some i) node = refl

-- and leaves what faces ask
pub entering_interests : (c : Core) (face : FaceId) (sd : Resolved) (info : Option QueryableInfoType) (node : ℕ) → (accepted c (entering face sd info node)).interests ≡ c.interests
entering_interests c face sd None node = refl
entering_interests c face sd (Some i) node = refl

module _ (c : Core) (face : FaceId) (sd : Resolved) (info : Option QueryableInfoType) (node : ℕ) where
  -- a router without an entry has none to retract; a new one may lack an id to a neighbour
  abbrev last_refusal : Option QueryableInfoType → Option Refusal
  last_refusal None = cond (is_none (entry_of face node (full_text sd) c)) (Some refusal.UnknownId) None
  last_refusal (Some i) = cond (lacks_told c (announcing face sd i node)) (Some refusal.NoFreeId) None

  refusal_is : refusal_of c (entering face sd info node) ≡ cond (not (is_open face.0 c)) (Some refusal.UnknownFace) (cond (is_unscoped sd) (Some refusal.UnknownScope) (cond (not (says_key sd)) (Some refusal.InvalidKeyExpr) (cond (lacks_router face node c) (Some refusal.UnknownRouter) (last_refusal info))))
  refusal_is = by info
    where
      by : (o : Option QueryableInfoType) → refusal_of c (entering face sd o node) ≡ cond (not (is_open face.0 c)) (Some refusal.UnknownFace) (cond (is_unscoped sd) (Some refusal.UnknownScope) (cond (not (says_key sd)) (Some refusal.InvalidKeyExpr) (cond (lacks_router face node c) (Some refusal.UnknownRouter) (last_refusal o))))
      by None = refl
      by (Some i) = refl

  abbrev behind_face : Option Refusal
  behind_face = cond (is_unscoped sd) (Some refusal.UnknownScope) (cond (not (says_key sd)) (Some refusal.InvalidKeyExpr) (cond (lacks_router face node c) (Some refusal.UnknownRouter) (last_refusal info)))

  pub not_open : is_open face.0 c ≡ false → refusal_of c (entering face sd info node) ≡ Some refusal.UnknownFace
  not_open e = refusal_is ∙ ap (λ b. cond (not b) (Some refusal.UnknownFace) behind_face) e

  module _ (opens : is_open face.0 c ≡ true) where
    past_face : refusal_of c (entering face sd info node) ≡ behind_face
    past_face = refusal_is ∙ ap (λ b. cond (not b) (Some refusal.UnknownFace) behind_face) opens

    pub no_key : (r : Refusal) → key_refusal sd ≡ Some r → refusal_of c (entering face sd info node) ≡ Some r
    no_key r e = past_face ∙ key_refuses sd (cond (lacks_router face node c) (Some refusal.UnknownRouter) (last_refusal info)) r e

    module _ (key : List ℕ) (says : sd ≡ said.Full key) (valid : is_key key ≡ true) where
      past_key : refusal_of c (entering face sd info node) ≡ cond (lacks_router face node c) (Some refusal.UnknownRouter) (last_refusal info)
      past_key =
          past_face
          ∙ ap (λ (x : Resolved). cond (is_unscoped x) (Some refusal.UnknownScope) (cond (not (says_key x)) (Some refusal.InvalidKeyExpr) (cond (lacks_router face node c) (Some refusal.UnknownRouter) (last_refusal info)))) says
          ∙ ap (λ b. cond (not b) (Some refusal.InvalidKeyExpr) (cond (lacks_router face node c) (Some refusal.UnknownRouter) (last_refusal info))) valid

      -- what the face's hat has
      module _ (r : Region) (home : face_region face.0 c ≡ Some r) (h : HatState) (there : hat_at r c.hats ≡ Some h) where
        its_hat : hat_of face.0 c ≡ Some h
        its_hat = hat_home face.0 r c home ∙ there

        lacks_is : lacks_router face node c ≡ is_none (other_router c.config.zid (source_at face.0 node h))
        lacks_is = ap (λ o. option_map_or (is_zid c.config.zid) (option_and_then (source_at face.0 node) o) true) its_hat ∙ lacks_other c.config.zid (source_at face.0 node h)

        pub no_router : other_router c.config.zid (source_at face.0 node h) ≡ None → refusal_of c (entering face sd info node) ≡ Some refusal.UnknownRouter
        no_router e = past_key ∙ ap (λ b. cond b (Some refusal.UnknownRouter) (last_refusal info)) (lacks_is ∙ ap is_none e)

        module _ (router : Zid) (is : other_router c.config.zid (source_at face.0 node h) ≡ Some router) where
          source : source_at face.0 node h ≡ Some router
          source = source_is c.config.zid (source_at face.0 node h) router is

          entry_is : entry_of face node (full_text sd) c ≡ entry_at router.0 key h
          entry_is =
              ap (option_and_then (entry_by face.0 node (full_text sd))) its_hat
              ∙ ap (λ o. option_and_then (λ (z : Zid). entry_at z.0 (full_text sd) h) o) source
              ∙ ap (λ (x : Resolved). entry_at router.0 (full_text x) h) says

          past_router : refusal_of c (entering face sd info node) ≡ last_refusal info
          past_router = past_key ∙ ap (λ b. cond b (Some refusal.UnknownRouter) (last_refusal info)) (lacks_is ∙ ap is_none is)

          pub no_entry : info ≡ None → entry_at router.0 key h ≡ None → refusal_of c (entering face sd info node) ≡ Some refusal.UnknownId
          no_entry none e = past_router ∙ ap last_refusal none ∙ ap (λ o. cond (is_none o) (Some refusal.UnknownId) None) (entry_is ∙ e)

          pub entry_fits : lacks_told c (entering face sd info node) ≡ false → (info ≡ None → is_none (entry_at router.0 key h) ≡ false) → refusal_of c (entering face sd info node) ≡ None
          entry_fits enough has = past_router ∙ by info enough has
            where
              by : (o : Option QueryableInfoType) → lacks_told c (entering face sd o node) ≡ false → (o ≡ None → is_none (entry_at router.0 key h) ≡ false) → last_refusal o ≡ None
              by (Some i) e f = ap (λ b. cond b (Some refusal.NoFreeId) None) e
              by None e f = ap (λ b. cond b (Some refusal.UnknownId) None) (ap is_none entry_is ∙ f refl)

          -- nothing refuses it but ids that lack, where it may lack some
          pub entry_only : (refusal_of c (entering face sd info node) ≡ None → makes_due (entering face sd info node) ≡ false → lacks_told c (entering face sd info node) ≡ false)
              → (info ≡ None → is_none (entry_at router.0 key h) ≡ false) → OnlyIdsLack c (entering face sd info node)
          entry_only less has = past_router ∙ by info (λ fits. less (past_router ∙ fits)) has
            where
              by : (o : Option QueryableInfoType) → (last_refusal o ≡ None → makes_due (entering face sd o node) ≡ false → lacks_told c (entering face sd o node) ≡ false)
                  → (o ≡ None → is_none (entry_at router.0 key h) ≡ false) → last_refusal o ≡ cond (lacks_told c (entering face sd o node)) (Some refusal.NoFreeId) None
              by (Some i) l f = refl
              by None l f =
                  let there : last_refusal None ≡ None = ap (λ b. cond b (Some refusal.UnknownId) None) (ap is_none entry_is ∙ f refl) in
                  there ∙ sym (ap (λ b. cond b (Some refusal.NoFreeId) None) (l there refl))

          changes : (accepted c (entering face sd info node)).hats ≡ change_hat r (entered router key info) c.hats
          changes = by info
            where
              at_said : (k : Zid → HatState) → option_map_or k (source_at face.0 node h) h ≡ k router
              at_said k = ap (λ o. option_map_or k o h) source

              by : (o : Option QueryableInfoType) → (accepted c (entering face sd o node)).hats ≡ change_hat r (entered router key o) c.hats
              by None =
                  changed_home face.0 r c home (retracted_by face.0 node (full_text sd))
                  ∙ same_change r (retracted_by face.0 node (full_text sd)) (entered router key None) c.hats h there (at_said (λ z. retracted z.0 (full_text sd) h) ∙ ap (λ (x : Resolved). retracted router.0 (full_text x) h) says)
              by (Some i) =
                  changed_home face.0 r c home (announced_by face.0 node (full_text sd) i)
                  ∙ same_change r (announced_by face.0 node (full_text sd) i) (entered router key (Some i)) c.hats h there (at_said (λ z. announced z.0 (full_text sd) i h) ∙ ap (λ (x : Resolved). announced router.0 (full_text x) i h) says)

          touches : touched c (entering face sd info node) ≡ key ∷ []
          touches = by info
            where
              by : (o : Option QueryableInfoType) → touched c (entering face sd o node) ≡ key ∷ []
              by None = ap (λ (x : Resolved). full_text x ∷ []) says
              by (Some i) = ap (λ (x : Resolved). full_text x ∷ []) says

          routed : by_router face c ≡ true → in_routers (strategy_at h) true false ≡ true
          routed e = ap (λ o. option_map_or is_routing o false) (sym its_hat) ∙ e

          -- what the children of the router's tree are told
          tree_is : by_router face c ≡ true → in_routers (strategy_at h) (to_children (Some face.0) router key info h) [] ≡ tree_told c (accepted c (entering face sd info node)) (entering face sd info node)
          tree_is e = in_routing (strategy_at h) (to_children (Some face.0) router key info h) [] (routed e) ∙ by info
            where
              tells : (o : Option QueryableInfoType) → to_children (Some face.0) router key o h ≡ option_map_or (source_told face node (full_text sd) o) (hat_of face.0 c) []
              tells o =
                  sym (ap (λ x. option_map_or (source_told face node (full_text sd) o) x []) its_hat
                  ∙ ap (λ x. option_map_or (λ (z : Zid). to_children (Some face.0) z (full_text sd) o h) x []) source
                  ∙ ap (λ (x : Resolved). to_children (Some face.0) router (full_text x) o h) says)

              by : (o : Option QueryableInfoType) → to_children (Some face.0) router key o h ≡ tree_told c (accepted c (entering face sd o node)) (entering face sd o node)
              by None = tells None
              by (Some i) = tells (Some i)

-- a change of an entry is done, hands no message of a request, and changes a hat alone
module _ (s : State) (face : FaceId) (sd : Resolved) (node : ℕ) where
  pub entering_done : (info : Option QueryableInfoType) → (granted s.core (entering face sd info node)).outcome ≡ outcome.Done
  entering_done None = refl
  entering_done (Some i) = refl

  pub entering_quiet : (info : Option QueryableInfoType) → (granted s.core (entering face sd info node)).messages ≡ []
  entering_quiet None = refl
  entering_quiet (Some i) = refl

  pub entering_gates : (info : Option QueryableInfoType) → regated s (entering face sd info node) ≡ s.gates
  entering_gates None = refl
  entering_gates (Some i) = refl

  pub entering_core : (info : Option QueryableInfoType) → accepted s.core (entering face sd info node) ≡ record s.core { hats = (accepted s.core (entering face sd info node)).hats; ears = (accepted s.core (entering face sd info node)).ears }
  entering_core None = refl
  entering_core (Some i) = refl

-- and no face
pub entering_faces : (c : Core) (face : FaceId) (sd : Resolved) (info : Option QueryableInfoType) (node : ℕ) → (accepted c (entering face sd info node)).faces ≡ c.faces
entering_faces c face sd None node = refl
entering_faces c face sd (Some i) node = refl

-- a change of an entry neither opens nor closes a face
pub entering_ears : (s : State) (face : FaceId) (sd : Resolved) (node : ℕ) (info : Option QueryableInfoType) → tell_due Update (kept s.core (entering face sd info node)) (looked_at s.core (changed s.core (entering face sd info node)) s.core.interests (entering face sd info node)) ≡ (accepted s.core (entering face sd info node)).ears
entering_ears s face sd node None = refl
entering_ears s face sd node (Some i) = refl

-- the change of a hat that an entry is
pub change_is : (r : Region) (router : Zid) (info : Option QueryableInfoType) (key : List ℕ) (hats : List (ℕ × HatState)) → change_hat r (changed_by (entry_change router info) key) hats ≡ change_hat r (entered router key info) hats
change_is r router None key hats = refl
change_is r router (Some i) key hats = refl

-- what the body gathers, is answered and leaves
module _ (s : State) (reached : IsReached s) (face : FaceId) (sd : Resolved) (info : Option QueryableInfoType) (node : ℕ) (opens : is_open face.0 s.core ≡ true) (key : List ℕ) (says : sd ≡ said.Full key) (valid : is_key key ≡ true)
    (r : Region) (home : face_region face.0 s.core ≡ Some r) (h : HatState) (there : hat_at r s.core.hats ≡ Some h) (router : Zid) (is : other_router s.core.config.zid (source_at face.0 node h) ≡ Some router) where
  -- what its body gathers
  pub entering_gathers : by_router face s.core ≡ true → (hats : List (ℕ × HatState)) → hats ≡ s.core.hats → (ts : List TreeTelling)
      → ts ≡ in_routers (strategy_at h) (to_children (Some face.0) router key info h) [] ++ own_told_on hats (change_hat r (entered router key info) hats) key
      → (ears : ToldSets) → ears ≡ s.core.ears → (ints : Interests) → ints ≡ s.core.interests → (dues : List FaceUpdate) → dues ≡ looked_over (accepted s.core (entering face sd info node)) ints (key ∷ [])
      → Gathers s.core (entering face sd info node) ears dues ts
  entering_gathers routing hats same ts are ears kept_is ints asked dues due_are =
      let t = entering face sd info node in
      let touched_is = touches s.core face sd info node opens key says valid r home h there router is in
      let changes_is = changes s.core face sd info node opens key says valid r home h there router is in
      record {
        is_kept = kept_is ∙ sym (kept_is_same info);
        is_looked = key_looked s.core t r (entered router key info) key touched_is changes_is (over info) ints asked dues due_are;
        is_told = key_along s.core t r (entered router key info) key touched_is changes_is hats same (in_routers (strategy_at h) (to_children (Some face.0) router key info h) []) ts
            (tree_is s.core face sd info node opens key says valid r home h there router is routing) are;
      }
    where
      kept_is_same : (o : Option QueryableInfoType) → kept s.core (entering face sd o node) ≡ s.core.ears
      kept_is_same None = refl
      kept_is_same (Some i) = refl

      over : (o : Option QueryableInfoType) → looked s.core (entering face sd o node) ≡ looked_over (accepted s.core (entering face sd o node)) s.core.interests (fold (insert_key text_cmp) [] (touched s.core (entering face sd o node)))
      over None = refl
      over (Some i) = refl

  -- and on each other key faces hear what they heard
  pub entering_apart : (info ≡ None → is_none (entry_at router.0 key h) ≡ false) → (hats : List (ℕ × HatState)) → hats ≡ s.core.hats → (text : List ℕ) → text ≡ key → IsBeside (accepted s.core (entering face sd info node)) hats (text ∷ [])
  entering_apart has hats same text named =
      beside_at (accepted s.core (entering face sd info node)) same (ap (λ k. k ∷ []) named)
      (beside s reached (entering face sd info node) (entry_fits (quiet s reached).core face sd info node opens key says valid r home h there router is (lacks_none info) has) (key ∷ [])
      (touches_at info (touches s.core face sd info node opens key says valid r home h there router is)) (same_hats info) (same_faces info) (stay info))
    where
      looks : Option QueryableInfoType → List FaceUpdate
      looks o = let c = (quiet s reached).core in looked_at c (changed c (entering face sd o node)) (interests_for c (entering face sd o node)) (entering face sd o node)

      lacks_none : (o : Option QueryableInfoType) → lacks_told (quiet s reached).core (entering face sd o node) ≡ false
      lacks_none None = none_lacks Update (looks None)
      lacks_none (Some i) = none_lacks Update (looks (Some i))

      touches_at : (o : Option QueryableInfoType) → touched s.core (entering face sd o node) ≡ key ∷ [] → (f : ℕ) → heard_touched (quiet s reached).core (entering face sd o node) f ≡ key ∷ []
      touches_at None e f = ap (fold (insert_key text_cmp) []) e
      touches_at (Some i) e f = ap (fold (insert_key text_cmp) []) e

      same_hats : (o : Option QueryableInfoType) → (accepted (quiet s reached).core (entering face sd o node)).hats ≡ (accepted s.core (entering face sd o node)).hats
      same_hats None = refl
      same_hats (Some i) = refl

      same_faces : (o : Option QueryableInfoType) → (accepted (quiet s reached).core (entering face sd o node)).faces ≡ (accepted s.core (entering face sd o node)).faces
      same_faces None = refl
      same_faces (Some i) = refl

      stay : (o : Option QueryableInfoType) (f : ℕ) (x : OpenFace) → at f (accepted s.core (entering face sd o node)).faces ≡ Some x → at f s.core.faces ≡ Some x
      stay None f x on = on
      stay (Some i) f x on = on

  -- what the change of its hat is
  pub entering_changes : (accepted s.core (entering face sd info node)).hats ≡ change_hat r (entered router key info) s.core.hats
  entering_changes = changes s.core face sd info node opens key says valid r home h there router is

-- what the body is answered and leaves, by what its tellings are told
module _ (s : State) (reached : IsReached s) (face : FaceId) (sd : Resolved) (info : Option QueryableInfoType) (node : ℕ) (fits : refusal_of s.core (entering face sd info node) ≡ None)
    (ts : List TreeTelling) (are : ts ≡ due s.core (entering face sd info node)) (l : List Handed) (new : NamingState)
    (told : behind [] (tell (accepted s.core (entering face sd info node)) (map from_hat (in_order ts)) (renamed s (entering face sd info node))) ≡ record { handed = l; names = new }) where
  pub entering_answered : ◌≡◌ {A = Step} (record { outcome = outcome.Done; handed = l }) (plain_answer s (entering face sd info node))
  entering_answered = ap (λ o. record { outcome = o; handed = l }) (sym (entering_done s face sd node info)) ∙ told_answered s reached (entering face sd info node) (entering_plain face sd info node) fits ts are l new told (entering_quiet s face sd node info)

  pub entering_left : (hats : List (ℕ × HatState)) → (accepted s.core (entering face sd info node)).hats ≡ hats
      → plain_settle s (entering face sd info node) ≡ record { core = record s.core { hats = hats; ears = (accepted s.core (entering face sd info node)).ears }; names = new; gates = s.gates }
  entering_left hats changes =
      told_left s reached (entering face sd info node) (entering_plain face sd info node) fits ts are l new told
      ∙ ap (λ (g : Gates). record { core = accepted s.core (entering face sd info node); names = new; gates = g }) (entering_gates s face sd node info)
      ∙ ap (λ (x : Core). record { core = x; names = new; gates = s.gates }) (entering_core s face sd node info)
      ∙ ap (λ x. record { core = record s.core { hats = x; ears = (accepted s.core (entering face sd info node)).ears }; names = new; gates = s.gates }) changes
