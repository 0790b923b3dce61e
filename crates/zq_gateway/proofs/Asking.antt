-- An interest and the end of one: what refuses them, what they are answered, and what they leave.
use Rattle.std.proofs.Common.{◌≡◌, ◌∙◌, refl, sym, ap, subst, ℕ, Bool, true, false, cond, not, List, [], ◌∷◌, map, Option, Some, None}
use Rattle.std.specs.List.{All, AllByRecursion}
use Rattle.std.specs.Option.{is_none, option_map, option_map_or}
use Rattle.zq_message.specs.declared.message.FaceId.{FaceId}
use Rattle.zq_key.specs.Key.{is_key}
use Rattle.zq_strategy.specs.declared.network.Telling.{Telling as TreeTelling}
use Rattle.zq_strategy.specs.Tellings.{in_order as ordered}
use Rattle.zq_interests.specs.declared.types.InterestEntry.{InterestEntry}
use Rattle.zq_interests.specs.Interests.{Interests, asks_another, interest_at, without_interest}
use Rattle.zq_tables.specs.declared.resolved.Resolved.{Resolved}
use Rattle.zq_tables.specs.Naming.{NamingState, change_naming, without_interest as letting_interest}
use Rattle.zq_told.specs.declared.types.FaceUpdate.{FaceUpdate}
use Rattle.zq_told.specs.declared.types.FacePlan.{FacePlan}
use Rattle.zq_told.specs.declared.types.Reason.TheVariants.{Answer, End}
use Rattle.zq_told.specs.ToldSets.{ToldSets}
use Rattle.zq_told.specs.Telling.{lacks_ids, put_plan, tell_faces}
use Rattle.zq_machine.specs.declared.call.Outcome.TheVariants as outcome
use Rattle.zq_machine.specs.declared.call.Refusal.{Refusal}
use Rattle.zq_machine.specs.declared.call.Refusal.TheVariants as refusal
use Rattle.zq_machine.specs.declared.call.Step.{Step}
use Rattle.zq_machine.specs.Deciding.{accepted, lacks_told, refusal_of, renamed}
use Rattle.zq_machine.specs.Handing.{Handed}
use Rattle.zq_machine.specs.Machine.{accepted_state}
use Rattle.zq_machine.specs.Messages.{Telling, answered_by, from_hat}
use Rattle.zq_machine.specs.Neighbours.{ended_at}
use Rattle.zq_machine.specs.Selecting.{Manner, asked_by, full_text, is_unscoped, says_key}
use Rattle.zq_machine.specs.State.{Core, State, is_open}
use Rattle.zq_machine.specs.TextCalls.{TextCall, hearing, unhearing}
use Rattle.zq_machine.specs.Writing.{Told, tell}
use Rattle.zq_machine.proofs.Agreed.{accepted_in_order}
use Rattle.zq_machine.proofs.Granted.{answers_told, settles_told, told_by}
use Rattle.zq_machine.proofs.NeighbourLaws.{ending_keeps}
use Rattle.zq_machine.proofs.NeighboursTold.{due_keys}
use Rattle.zq_machine.proofs.Writing.{plain_answer, plain_settle, with_told}
use Rattle.zq_egress.specs.Neighbours.{asking}
use Rattle.zq_gateway.specs.Asking.{asking_refusal, interest_looks, said_key}
use Rattle.zq_gateway.specs.Gathering.{OnlyIdsLack}
use Rattle.zq_gateway.specs.Making.{IsReached}
use Rattle.zq_gateway.proofs.Beside.{IsBeside, changed_after, ended_beside, told_beside}
use Rattle.zq_gateway.proofs.Due.{all_from, key_refuses}
use Rattle.zq_gateway.proofs.Reached.{reached_in_order, reached_keeps}

-- ---- what refuses an interest
module _ (c : Core) (face : FaceId) (id : ℕ) (m : Manner) (sd : Option Resolved) where
  abbrev asked : InterestEntry
  asked = asked_by m sd

  -- behind its key
  abbrev behind_key : Option Refusal
  behind_key = cond (asks_another face.0 id asked.key c.interests) (Some refusal.IdInUse) (cond (lacks_told c (hearing face id m sd)) (Some refusal.NoFreeId) None)

  -- behind its face
  abbrev behind_face : Option Refusal
  behind_face = cond (option_map_or is_unscoped sd false) (Some refusal.UnknownScope) (cond (not (option_map_or says_key sd true)) (Some refusal.InvalidKeyExpr) behind_key)

  pub hearing_unknown : is_open face.0 c ≡ false → refusal_of c (hearing face id m sd) ≡ Some refusal.UnknownFace
  hearing_unknown shut = ap (λ b. cond (not b) (Some refusal.UnknownFace) behind_face) shut

  module _ (opens : is_open face.0 c ≡ true) where
    past_face : refusal_of c (hearing face id m sd) ≡ behind_face
    past_face = ap (λ b. cond (not b) (Some refusal.UnknownFace) behind_face) opens

    pub hearing_no_key : (x : Refusal) → asking_refusal sd ≡ Some x → refusal_of c (hearing face id m sd) ≡ Some x
    hearing_no_key x e = past_face ∙ by sd behind_key e
      where
        by : (o : Option Resolved) (rest : Option Refusal) → asking_refusal o ≡ Some x
            → cond (option_map_or is_unscoped o false) (Some refusal.UnknownScope) (cond (not (option_map_or says_key o true)) (Some refusal.InvalidKeyExpr) rest) ≡ Some x
        by None rest f = absurd (let gap : None ≡ Some x = f in cc)
        by (Some s) rest f = key_refuses s rest x f

    module _ (valid : asking_refusal sd ≡ None) where
      past_key : refusal_of c (hearing face id m sd) ≡ behind_key
      past_key = past_face ∙ by sd behind_key valid
        where
          tests : (a b : Bool) (rest : Option Refusal) → cond a (Some refusal.UnknownScope) (cond (not b) (Some refusal.InvalidKeyExpr) None) ≡ None
              → cond a (Some refusal.UnknownScope) (cond (not b) (Some refusal.InvalidKeyExpr) rest) ≡ rest
          tests true b rest f = absurd (let gap : Some refusal.UnknownScope ≡ None = f in cc)
          tests false true rest f = refl
          tests false false rest f = absurd (let gap : Some refusal.InvalidKeyExpr ≡ None = f in cc)

          by : (o : Option Resolved) (rest : Option Refusal) → asking_refusal o ≡ None
              → cond (option_map_or is_unscoped o false) (Some refusal.UnknownScope) (cond (not (option_map_or says_key o true)) (Some refusal.InvalidKeyExpr) rest) ≡ rest
          by None rest f = refl
          by (Some s) rest f = tests (is_unscoped s) (says_key s) rest f

      pub hearing_used : asks_another face.0 id asked.key c.interests ≡ true → refusal_of c (hearing face id m sd) ≡ Some refusal.IdInUse
      hearing_used used = past_key ∙ ap (λ b. cond b (Some refusal.IdInUse) (cond (lacks_told c (hearing face id m sd)) (Some refusal.NoFreeId) None)) used

      module _ (free : asks_another face.0 id asked.key c.interests ≡ false) where
        -- nothing refuses it but ids that lack
        pub hearing_only : OnlyIdsLack c (hearing face id m sd)
        hearing_only = past_key ∙ ap (λ b. cond b (Some refusal.IdInUse) (cond (lacks_told c (hearing face id m sd)) (Some refusal.NoFreeId) None)) free

-- ---- the key that is said for it
pub key_again : (key : Option (List ℕ)) → key ≡ option_map full_text (said_key key)
key_again None = refl
key_again (Some text) = refl

-- ---- what an interest is answered, and what it leaves
module _ (s : State) (i : IsReached s) (face : FaceId) (id : ℕ) (m : Manner) (sd : Option Resolved) where
  abbrev t : TextCall
  t = hearing face id m sd

  abbrev looked : List FaceUpdate
  looked = interest_looks s.core face id m sd

  module _ (ears : ToldSets) (heard : ears ≡ s.core.ears) (dues : List FaceUpdate) (are : dues ≡ looked) where
    pub asked_lacks : lacks_ids Answer ears dues ≡ lacks_told s.core t
    asked_lacks = λ j. lacks_ids Answer (heard j) (are j)

    pub asked_left : (plan : List FacePlan) → plan ≡ (tell_faces Answer ears dues).plan → put_plan plan ears ≡ (accepted s.core t).ears
    asked_left plan is = ap (λ p. put_plan p ears) is ∙ (λ j. put_plan (tell_faces Answer (heard j) (are j)).plan (heard j))

    pub asked_keys : refusal_of s.core t ≡ None → All (λ (u : TreeTelling). is_key u.key ≡ true) (tell_faces Answer ears dues).tellings
    asked_keys fits =
        subst (All (λ (u : TreeTelling). is_key u.key ≡ true)) (λ j. (tell_faces Answer (sym heard j) (sym are j)).tellings)
        (all_from (λ (u : TreeTelling). is_key u.key ≡ true) (tell_faces Answer s.core.ears looked).tellings
        (due_keys i.config s (reached_in_order s i) t fits (accepted_in_order i.config s t fits (reached_in_order s i))))

    -- what stands for keys once it holds its node
    held : (names : NamingState) → names ≡ s.names → (key : Option (List ℕ)) → key ≡ option_map full_text sd → asking face.0 id key names ≡ renamed s t
    held names same key is = (λ j. asking face.0 id (is j) (same j)) ∙ by sd
      where
        by : (o : Option Resolved) → asking face.0 id (option_map full_text o) s.names ≡ renamed s (hearing face id m o)
        by None = refl
        by (Some x) = refl

    module _ (fits : refusal_of s.core t ≡ None) (names : NamingState) (same : names ≡ s.names) (key : Option (List ℕ)) (is : key ≡ option_map full_text sd) (l : List Handed) (new : NamingState)
        (told : tell (accepted s.core t) (answered_by face id (map from_hat (ordered (tell_faces Answer ears dues).tellings))) (asking face.0 id key names) ≡ record { handed = l; names = new }) where
      its_telling : told_by s t ≡ record { handed = l; names = new }
      its_telling = (λ j. tell (accepted s.core t) (answered_by face id (map from_hat (ordered (tell_faces Answer (sym heard j) (sym are j)).tellings))) (sym (held names same key is) j)) ∙ told

      pub asked_answered : ◌≡◌ {A = Step} (record { outcome = outcome.Done; handed = l }) (plain_answer s t)
      asked_answered = answers_told s t l fits (ap (λ (w : Told). w.handed) (sym its_telling))

      pub asked_settled : plain_settle s t ≡ record { core = accepted s.core t; names = new; gates = s.gates }
      asked_settled = settles_told s t fits ∙ ap (with_told (accepted_state s t)) its_telling

-- ---- the end of an interest
module _ (s : State) (i : IsReached s) (face : FaceId) (id : ℕ) where
  abbrev e : TextCall
  e = unhearing face id

  pub ending_unknown_face : is_open face.0 s.core ≡ false → refusal_of s.core e ≡ Some refusal.UnknownFace
  ending_unknown_face shut = ap (λ b. cond (not b) (Some refusal.UnknownFace) (cond (is_none (interest_at face.0 id s.core.interests)) (Some refusal.UnknownId) None)) shut

  module _ (opens : is_open face.0 s.core ≡ true) where
    past : refusal_of s.core e ≡ cond (is_none (interest_at face.0 id s.core.interests)) (Some refusal.UnknownId) None
    past = ap (λ b. cond (not b) (Some refusal.UnknownFace) (cond (is_none (interest_at face.0 id s.core.interests)) (Some refusal.UnknownId) None)) opens

    pub ending_unknown_id : interest_at face.0 id s.core.interests ≡ None → refusal_of s.core e ≡ Some refusal.UnknownId
    ending_unknown_id none = past ∙ ap (λ o. cond (is_none o) (Some refusal.UnknownId) None) none

    module _ (asked : InterestEntry) (there : interest_at face.0 id s.core.interests ≡ Some asked) where
      pub ending_fits : refusal_of s.core e ≡ None
      ending_fits = past ∙ ap (λ o. cond (is_none o) (Some refusal.UnknownId) None) there

      abbrev less : Interests
      less = without_interest face.0 id s.core.interests

      abbrev ended_as : Option InterestEntry → List TreeTelling
      ended_as o = option_map_or (λ (a : InterestEntry). (tell_faces End s.core.ears (ended_at (accepted s.core e) less s.core.ears face.0 a)).tellings) o []

      -- what it looks at
      abbrev pub looked_last : List FaceUpdate
      looked_last = ended_at (accepted s.core e) less s.core.ears face.0 asked

      -- what it tells neighbours is what it tells
      tells : ended_as (interest_at face.0 id s.core.interests) ≡ (tell_faces End s.core.ears looked_last).tellings
      tells = ap ended_as there

      pub ending_enough : lacks_ids End s.core.ears looked_last ≡ false
      ending_enough = (ending_keeps s.core s.core.interests s.core.ears face.0 id asked there).enough ((reached_keeps s i).ears i.low).sound.ids

      pub ending_left : (ears : ToldSets) → ears ≡ s.core.ears → (dues : List FaceUpdate) → dues ≡ looked_last → (plan : List FacePlan) → plan ≡ (tell_faces End ears dues).plan → put_plan plan ears ≡ (accepted s.core e).ears
      ending_left ears heard dues are plan is =
          ap (λ p. put_plan p ears) is
          ∙ (λ j. put_plan (tell_faces End (heard j) (are j)).plan (heard j))
          ∙ ap (λ (o : Option InterestEntry). option_map_or (λ (a : InterestEntry). put_plan (tell_faces End s.core.ears (ended_at (accepted s.core e) less s.core.ears face.0 a)).plan s.core.ears) o s.core.ears) (sym there)

      module _ (ears : ToldSets) (heard : ears ≡ s.core.ears) (dues : List FaceUpdate) (are : dues ≡ looked_last) where
        -- what it tells is of keys
        pub ending_keys : All (λ (u : TreeTelling). is_key u.key ≡ true) (tell_faces End ears dues).tellings
        ending_keys =
            subst (All (λ (u : TreeTelling). is_key u.key ≡ true)) (λ j. (tell_faces End (sym heard j) (sym are j)).tellings)
            (all_from (λ (u : TreeTelling). is_key u.key ≡ true) (tell_faces End s.core.ears looked_last).tellings
            (subst (λ us. AllByRecursion (λ (u : TreeTelling). is_key u.key ≡ true) us) tells
            (due_keys i.config s (reached_in_order s i) e ending_fits (accepted_in_order i.config s e ending_fits (reached_in_order s i)))))

        abbrev let_go : NamingState → NamingState
        let_go = change_naming face.0 (letting_interest id)

        all_beside : (us : List Telling) → AllByRecursion (λ (u : Telling). IsBeside (accepted s.core e) (accepted s.core e) let_go u.to.0) us
        all_beside [] = tt
        all_beside (u ∷ us) = (ended_beside (accepted s.core e) (accepted s.core e) face.0 id u.to.0 refl refl, all_beside us)

        module _ (l : List Handed) (new : NamingState) (told : tell (accepted s.core e) (map from_hat (ordered (tell_faces End ears dues).tellings)) s.names ≡ record { handed = l; names = new }) where
          its_end : told_by s e ≡ record { handed = l; names = let_go new }
          its_end =
              ap (λ us. tell (accepted s.core e) us (renamed s e)) (ap (λ us. map from_hat (ordered us)) (tells ∙ (λ j. (tell_faces End (sym heard j) (sym are j)).tellings)))
              ∙ told_beside (accepted s.core e) (accepted s.core e) let_go (map from_hat (ordered (tell_faces End ears dues).tellings)) (all_beside (map from_hat (ordered (tell_faces End ears dues).tellings))) s.names
              ∙ ap (changed_after (accepted s.core e) (accepted s.core e) let_go) told

          pub ending_answered : ◌≡◌ {A = Step} (record { outcome = outcome.Done; handed = l }) (plain_answer s e)
          ending_answered = answers_told s e l ending_fits (ap (λ (w : Told). w.handed) (sym its_end))

          pub ending_settled : plain_settle s e ≡ record { core = accepted s.core e; names = let_go new; gates = s.gates }
          ending_settled = settles_told s e ending_fits ∙ ap (with_told (accepted_state s e)) its_end
