-- What a call tells: it is of keys; and what the call is answered and leaves, by what its tellings are told.
use Rattle.std.proofs.Common.{◌≡◌, ◌∙◌, refl, sym, ap, subst, ℕ, Bool, true, false, cond, not, map, List, [], ◌∷◌, ◌++◌, append-nil, fold, Option, Some, None}
use Rattle.std.specs.BTreeMap.{is_at}
use Rattle.std.specs.BTreeSet.{insert_key}
use Rattle.std.specs.List.{All, AllByRecursion}
use Rattle.std.specs.Option.{is_some, option_and_then, option_map, option_map_or, option_to_list}
use Rattle.std.specs.Ordering.{nat_cmp}
use Rattle.std.proofs.lemmas.Bool.{false≢true}
use Rattle.std.proofs.lemmas.Cmp.{nat_cmp_total}
use Rattle.std.proofs.lemmas.List.Elements.{All-cons, All-nil}
use Rattle.std.proofs.lemmas.Map.Lookups.{exact_unsigned}
use Rattle.std.proofs.lemmas.Option.{same_Some}
use Rattle.zq_message.specs.declared.message.FaceId.{FaceId}
use Rattle.zq_message.specs.declared.message.QueryableInfoType.{QueryableInfoType}
use Rattle.zq_message.specs.declared.message.Region.{Region}
use Rattle.zq_key.specs.Key.{is_key}
use Rattle.zq_key.proofs.Lookups.{found_after_removal}
use Rattle.zq_strategy.specs.declared.network.Telling.{Telling as TreeTelling}
use Rattle.zq_strategy.specs.Tellings.{in_order as ordered}
use Rattle.zq_strategy.specs.declared.types.Declaration.{Declaration}
use Rattle.zq_strategy.specs.Kept.{clashes_at, declaration_at, keys_of_face, registered, unregistered, without_face}
use Rattle.zq_strategy.specs.State.{HatState}
use Rattle.zq_tables.specs.declared.resolved.Resolved.{Resolved}
use Rattle.zq_tables.specs.declared.resolved.Resolved.TheVariants as said
use Rattle.zq_tables.specs.Naming.{NamingState, change_naming, closed_naming, naming_at, without_queryable}
use Rattle.zq_index.specs.Texts.{text_cmp}
use Rattle.zq_interests.specs.Interests.{Interests}
use Rattle.zq_told.specs.declared.types.FaceUpdate.{FaceUpdate}
use Rattle.zq_told.specs.declared.types.FacePlan.{FacePlan}
use Rattle.zq_told.specs.declared.types.Reason.TheVariants.{Update}
use Rattle.zq_told.specs.ToldSets.{ToldSets}
use Rattle.zq_told.specs.Telling.{lacks_ids, put_plan, tell_due, tell_faces}
use Rattle.zq_query.specs.Closing.{closing_finals}
use Rattle.zq_machine.specs.declared.call.Outcome.TheVariants as outcome
use Rattle.zq_machine.specs.declared.call.Refusal.{Refusal}
use Rattle.zq_machine.specs.declared.call.Refusal.TheVariants as refusal
use Rattle.zq_machine.specs.declared.call.Step.{Step}
use Rattle.zq_machine.specs.declared.face.OpenFace.{OpenFace}
use Rattle.zq_machine.specs.Deciding.{accepted, answered, changed, granted, interests_for, kept, lacks_told, refusal_of, regated, renamed, told_of}
use Rattle.zq_machine.specs.Handing.{Handed}
use Rattle.zq_machine.specs.Hearing.{CanBeTold}
use Rattle.zq_machine.specs.Machine.{accepted_state, answer, asked_text, refused_step, settle}
use Rattle.zq_machine.specs.Messages.{Telling, from_hat}
use Rattle.zq_machine.specs.Neighbours.{due_told, looked_at, looked_over}
use Rattle.zq_machine.specs.State.{Core, State, at, change_hat, change_hat_of, clashes_in, face_region, has_declared_in, hat_at, hat_of, is_open, region_in}
use Rattle.zq_machine.specs.TextCalls.{TextCall, closing, declaring, withdrawing}
use Rattle.zq_machine.specs.Trees.{all_own_told, own_told_on, touched, tree_told}
use Rattle.zq_machine.specs.Gates.{Gates, Out, let_out}
use Rattle.zq_machine.specs.Writing.{Told, sent_final, tell, write}
use Rattle.zq_egress.specs.Exits.{without_gate}
use Rattle.zq_egress.specs.declared.exits.Exit.{Exit}
use Rattle.zq_machine.proofs.Agreed.{InOrder, accepted_in_order}
use Rattle.zq_machine.proofs.DueHeard.{AreTexts, touched_texts}
use Rattle.zq_machine.proofs.Granted.{answers_told, closed_after, closed_step, settles_told, told_by}
use Rattle.zq_machine.proofs.Lists.{all_weaker}
use Rattle.zq_machine.proofs.NeighboursTold.{due_can, due_keys}
use Rattle.zq_machine.proofs.Writing.{after_decided, answered_by, fully, plain_answer, plain_settle, settled_by, told_after, with_told}
use Rattle.zq_machine.specs.Selecting.{full_text, is_unscoped, says_key}
use Rattle.zq_egress.specs.Reading.{key_refusal}
use Rattle.zq_egress.specs.Telling.{behind}
use Rattle.zq_egress.specs.Neighbours.{told_with}
use Rattle.zq_egress.specs.Gone.{AreOut}
use Rattle.zq_gateway.specs.Gathering.{Gathers, OnlyIdsLack, along_trees, looked}
use Rattle.zq_gateway.specs.Making.{IsReached}
use Rattle.zq_gateway.proofs.GoneOut.{IsAway, finals_away, told_to_faces}
use Rattle.zq_gateway.proofs.Beside.{IsBeside, changed_after, left_beside, released_beside, told_beside}
use Rattle.zq_machine.proofs.Keeping.{is_plain, marks_is, near_is, same_looked}
use Rattle.zq_gateway.proofs.Hearing.{lacks_looked}
use Rattle.zq_gateway.proofs.Reached.{reached_in_order}

-- ---- the hat of an open face's region
module _ (face : ℕ) (r : Region) (c : Core) (home : face_region face c ≡ Some r) where
  pub hat_home : hat_of face c ≡ hat_at r c.hats
  hat_home = by (at face c.faces) home
    where
      by : (x : Option OpenFace) → option_map region_in x ≡ Some r → option_and_then (λ (o : OpenFace). hat_at o.region c.hats) x ≡ hat_at r c.hats
      by None e = absurd (let gap : None ≡ Some r = e in cc)
      by (Some o) e = ap (λ q. hat_at q c.hats) (same_Some _ _ e)

  pub changed_home : (f : HatState → HatState) → (change_hat_of face f c).hats ≡ change_hat r f c.hats
  changed_home f = by (at face c.faces) home
    where
      by : (x : Option OpenFace) → option_map region_in x ≡ Some r → option_map_or (λ (o : OpenFace). change_hat o.region f c.hats) x c.hats ≡ change_hat r f c.hats
      by None e = absurd (let gap : None ≡ Some r = e in cc)
      by (Some o) e = ap (λ q. change_hat q f c.hats) (same_Some _ _ e)

-- ---- what is due
pub all_from : {X : Type 0} (P : X → Type 0) (xs : List X) → AllByRecursion P xs → All P xs
all_from P [] all = All-nil P
all_from P (x ∷ xs) all = All-cons P x xs all.0 (all_from P xs all.1)

-- what it tells at all: neighbours too
abbrev pub due : Core → TextCall → List TreeTelling
due c t = told_with (kept c t) (looked c t) (along_trees c t)

-- what a call tells, where it is no interest nor the end of one
told_is : (c : Core) (t : TextCall) → is_plain t ≡ true → told_of c t ≡ map from_hat (ordered (due c t))
told_is c t plain =
    marks_is t (due_told c (accepted c t) (interests_for c t) t (kept c t)) plain
    ∙ ap (λ ts. map from_hat (ordered (along_trees c t ++ ts))) (near_is c (accepted c t) t plain)

module _ (c : Core) (t : TextCall) (plain : is_plain t ≡ true) (ears : ToldSets) (dues : List FaceUpdate) (told : List TreeTelling) (g : Gathers c t ears dues told) where
  -- so it tells what is due
  pub gathered_due : told_with ears dues told ≡ due c t
  gathered_due = λ j. told_with (g.is_kept j) (g.is_looked j) (g.is_told j)

  -- ids lack where they lack to the call
  pub gathered_lacks : lacks_ids Update ears dues ≡ lacks_told c t
  gathered_lacks = (λ j. lacks_ids Update (g.is_kept j) (g.is_looked j)) ∙ sym (lacks_looked c t plain)

  -- and it leaves of faces what the call leaves
  pub gathered_left : (plan : List FacePlan) → plan ≡ (tell_faces Update ears dues).plan → put_plan plan ears ≡ tell_due Update (kept c t) (looked_at c (changed c t) c.interests t)
  gathered_left plan is = ap (λ p. put_plan p ears) is ∙ (λ j. tell_due Update (g.is_kept j) (g.is_looked j)) ∙ ap (tell_due Update (kept c t)) (same_looked c t)

module _ (s : State) (i : IsReached s) (t : TextCall) (plain : is_plain t ≡ true) (fits : refusal_of s.core t ≡ None) where
  later : InOrder i.config (accepted_state s t)
  later = accepted_in_order i.config s t fits (reached_in_order s i)

  pub due_of_keys : (ts : List TreeTelling) → ts ≡ due s.core t → All (λ (u : TreeTelling). is_key u.key ≡ true) ts
  due_of_keys ts same = subst (All (λ (u : TreeTelling). is_key u.key ≡ true)) (sym same) (all_from (λ (u : TreeTelling). is_key u.key ≡ true) (due s.core t)
      (subst (λ us. AllByRecursion (λ (u : TreeTelling). is_key u.key ≡ true) (along_trees s.core t ++ us)) (near_is s.core (accepted s.core t) t plain) (due_keys i.config s (reached_in_order s i) t fits later)))

  due_open : AllByRecursion (CanBeTold (renamed s t)) (told_of s.core t)
  due_open = due_can i.config s (reached_in_order s i) t fits later

-- ---- a call that changes the names before it tells, or not at all
module _ (s : State) (i : IsReached s) (t : TextCall) (plain : is_plain t ≡ true) (fits : refusal_of s.core t ≡ None) (ts : List TreeTelling) (same : ts ≡ due s.core t) (l : List Handed) (new : NamingState)
    (told : behind [] (tell (accepted s.core t) (map from_hat (ordered ts)) (renamed s t)) ≡ record { handed = l; names = new }) where
  its_telling : told_by s t ≡ record { handed = l; names = new }
  its_telling = ap (λ us. tell (accepted s.core t) us (renamed s t)) (told_is s.core t plain) ∙ ap (λ us. behind [] (tell (accepted s.core t) (map from_hat (ordered us)) (renamed s t))) (sym same) ∙ told

  pub told_answered : (granted s.core t).messages ≡ [] → ◌≡◌ {A = Step} (record { outcome = (granted s.core t).outcome; handed = l }) (plain_answer s t)
  told_answered none = answers_told s t l fits (ap (λ (w : Told). w.handed) (sym its_telling) ∙ ap (λ ms. write s.names ms ++ (told_by s t).handed) (sym none))

  pub told_left : plain_settle s t ≡ record { core = accepted s.core t; names = new; gates = regated s t }
  told_left = settles_told s t fits ∙ ap (with_told (accepted_state s t)) its_telling

-- ---- a closing tells before the face goes
module _ (s : State) (i : IsReached s) (face : FaceId) (r : Region) (home : face_region face.0 s.core ≡ Some r) (fits : refusal_of s.core (closing face) ≡ None) where
  abbrev gone : NamingState → NamingState
  gone = closed_naming face.0

  spared : (to : ℕ) → is_some (naming_at to (gone s.names)) ≡ true → is_at (nat_cmp face.0) to ≡ false
  spared to heard = by (is_at (nat_cmp face.0) to) refl
    where
      by : (b : Bool) → is_at (nat_cmp face.0) to ≡ b → is_at (nat_cmp face.0) to ≡ false
      by false e = e
      by true e =
          let none = found_after_removal nat_cmp_total exact_unsigned face.0 to s.names.faces (reached_in_order s i).tied.names_sorted ∙ ap (λ b. cond b None (naming_at to s.names)) e in
          absurd (false≢true (sym (ap is_some none) ∙ heard))

  tells_others : AllByRecursion (λ (t : Telling). is_at (nat_cmp face.0) t.to.0 ≡ false) (told_of s.core (closing face))
  tells_others =
      all_weaker (CanBeTold (gone s.names)) (λ (t : Telling). is_at (nat_cmp face.0) t.to.0 ≡ false) (λ t can. spared t.to.0 can.0)
      (told_of s.core (closing face)) (due_open s i (closing face) refl fits)

  told_away : AllByRecursion (IsAway face.0) (tell s.core (told_of s.core (closing face)) s.names).handed
  told_away = told_to_faces (λ to. is_at (nat_cmp face.0) to.0 ≡ false) s.core (told_of s.core (closing face)) s.names tells_others

  abbrev shut_out : Out → Out
  shut_out o = record o { gates = without_gate face.0 o.gates }

  told_before : told_by s (closing face) ≡ changed_after s.core (accepted s.core (closing face)) gone (tell s.core (told_of s.core (closing face)) s.names)
  told_before =
      told_beside s.core (accepted s.core (closing face)) gone (told_of s.core (closing face))
      (all_weaker (λ (t : Telling). is_at (nat_cmp face.0) t.to.0 ≡ false) (λ (t : Telling). IsBeside s.core (accepted s.core (closing face)) gone t.to.0) (λ t other. left_beside s.core (accepted s.core (closing face)) face.0 t.to.0 other refl refl)
      (told_of s.core (closing face)) tells_others)
      s.names

  module _ (ts : List TreeTelling) (same : ts ≡ due s.core (closing face)) (finals l : List Handed) (new : NamingState)
      (told : behind finals (tell s.core (map from_hat (ordered ts)) s.names) ≡ record { handed = l; names = new }) where
    its_told : behind finals (tell s.core (told_of s.core (closing face)) s.names) ≡ record { handed = l; names = new }
    its_told = ap (λ us. behind finals (tell s.core (map from_hat (ordered us)) s.names)) (sym same) ∙ told

    pub closed_answered : finals ≡ map sent_final (closing_finals face.0 s.core.queries) → ◌≡◌ {A = Step} (record { outcome = outcome.Done; handed = l }) (plain_answer s (closing face))
    closed_answered are =
        closed_step s face r l home
        (ap (λ (w : Told). w.handed) (sym its_told)
        ∙ ap (λ fs. fs ++ (tell s.core (told_of s.core (closing face)) s.names).handed) are
        ∙ ap (λ (w : Told). map sent_final (closing_finals face.0 s.core.queries) ++ w.handed) (sym told_before))

    pub closed_left : plain_settle s (closing face) ≡ record { core = accepted s.core (closing face); names = gone new; gates = without_gate face.0 s.gates }
    closed_left =
        closed_after s face r home
        ∙ ap (with_told (accepted_state s (closing face))) told_before
        ∙ ap (λ (w : Told). record { core = accepted s.core (closing face); names = gone w.names; gates = without_gate face.0 s.gates }) its_told

    -- what it hands goes out alike with the gate of the face and without it
    pub closed_out : finals ≡ map sent_final (closing_finals face.0 s.core.queries) → (was : Gates) → was ≡ s.gates → (es : List Exit) (after : Gates) → AreOut was l after es → AreOut (without_gate face.0 s.gates) l (without_gate face.0 after) es
    closed_out are was same es after out =
        let fs = closing_finals face.0 s.core.queries in
        let ts = (tell s.core (told_of s.core (closing face)) s.names).handed in
        let parts : map sent_final fs ++ ts ≡ l = ap (λ hs. hs ++ ts) (sym are) ∙ ap (λ (w : Told). w.handed) its_told in
        ap (λ hs. let_out [] hs (without_gate face.0 s.gates)) (sym parts)
        ∙ finals_away face.0 [] fs ts told_away s.gates
        ∙ (λ j. shut_out (let_out [] (parts j) (sym same j)))
        ∙ ap shut_out out

-- ---- a withdrawal tells before the queryable is let go
module _ (s : State) (i : IsReached s) (face : FaceId) (id : ℕ) (fits : refusal_of s.core (withdrawing face id) ≡ None) (ts : List TreeTelling) (same : ts ≡ due s.core (withdrawing face id)) (l : List Handed) (new : NamingState)
    (told : behind [] (tell s.core (map from_hat (ordered ts)) s.names) ≡ record { handed = l; names = new }) where
  abbrev let_go : NamingState → NamingState
  let_go = change_naming face.0 (without_queryable id)

  all_beside : (us : List Telling) → AllByRecursion (λ (t : Telling). IsBeside s.core (accepted s.core (withdrawing face id)) let_go t.to.0) us
  all_beside [] = tt
  all_beside (u ∷ us) = (released_beside s.core (accepted s.core (withdrawing face id)) face.0 id u.to.0 refl refl, all_beside us)

  told_first : told_by s (withdrawing face id) ≡ record { handed = l; names = let_go new }
  told_first =
      told_beside s.core (accepted s.core (withdrawing face id)) let_go (told_of s.core (withdrawing face id)) (all_beside (told_of s.core (withdrawing face id))) s.names
      ∙ ap (λ us. changed_after s.core (accepted s.core (withdrawing face id)) let_go (tell s.core (map from_hat (ordered us)) s.names)) (sym same)
      ∙ ap (changed_after s.core (accepted s.core (withdrawing face id)) let_go) told

  pub withdrawn_answered : ◌≡◌ {A = Step} (record { outcome = outcome.Done; handed = l }) (plain_answer s (withdrawing face id))
  withdrawn_answered = answers_told s (withdrawing face id) l fits (ap (λ (w : Told). w.handed) (sym told_first))

  pub withdrawn_left : plain_settle s (withdrawing face id) ≡ record { core = accepted s.core (withdrawing face id); names = let_go new; gates = s.gates }
  withdrawn_left = settles_told s (withdrawing face id) fits ∙ ap (with_told (accepted_state s (withdrawing face id))) told_first

-- ---- what own trees tell of one key
pub one_key : (before after : List (ℕ × HatState)) (key : List ℕ) → all_own_told before after (key ∷ []) ≡ own_told_on before after key
one_key before after key = append-nil (own_told_on before after key)

-- ---- a call that is refused
module _ (s : State) (t : TextCall) (r : Refusal) (refuses : refusal_of s.core t ≡ Some r) where
  plain_refused : refused_step r ≡ plain_answer s t
  plain_refused = sym (ap (λ o. fully s.names (told_after (answered o (granted s.core t)) (after_decided s t (answered o (granted s.core t)))) (answered o (granted s.core t))) refuses)

  plain_stays : plain_settle s t ≡ s
  plain_stays = ap (λ o. with_told (after_decided s t (answered o (granted s.core t))) (told_after (answered o (granted s.core t)) (after_decided s t (answered o (granted s.core t))))) refuses

  pub refused_answered : refused_step r ≡ answer s t
  refused_answered = λ j. answered_by (asked_text t) (plain_refused j) (sym plain_stays j)

  pub refused_left : settle s t ≡ s
  refused_left = λ j. settled_by (asked_text t) (sym plain_refused j) (plain_stays j)

-- ---- the tellings of calls, as the bodies gather them
-- of a call that touches one key of a region's hat
module _ (c : Core) (t : TextCall) (r : Region) (f : HatState → HatState) (key : List ℕ) (touches : touched c t ≡ key ∷ []) (changes : (accepted c t).hats ≡ change_hat r f c.hats) where
  pub key_along : (hats : List (ℕ × HatState)) → hats ≡ c.hats → (tree ts : List TreeTelling) → tree ≡ tree_told c (accepted c t) t → ts ≡ tree ++ own_told_on hats (change_hat r f hats) key → ts ≡ along_trees c t
  key_along hats same tree ts is_tree is =
      is
      ∙ (λ j. is_tree j ++ own_told_on (same j) (change_hat r f (same j)) key)
      ∙ ap (λ l. tree_told c (accepted c t) t ++ l) (sym (one_key c.hats (change_hat r f c.hats) key))
      ∙ (λ j. tree_told c (accepted c t) t ++ all_own_told c.hats (sym changes j) (sym touches j))

  -- and what it looks at
  pub key_looked : looked c t ≡ looked_over (accepted c t) c.interests (fold (insert_key text_cmp) [] (touched c t)) → (ints : Interests) → ints ≡ c.interests
      → (dues : List FaceUpdate) → dues ≡ looked_over (accepted c t) ints (key ∷ []) → dues ≡ looked c t
  key_looked over ints same dues is = is ∙ (λ j. looked_over (accepted c t) (same j) (fold (insert_key text_cmp) [] (sym touches j))) ∙ sym over

-- of a closing, which is told before the face goes
pub closing_gathers : (s : State) (face : FaceId) (r : Region) → face_region face.0 s.core ≡ Some r → (hats : List (ℕ × HatState)) → hats ≡ s.core.hats
    → (keys : List (List ℕ)) → keys ≡ option_map_or (keys_of_face face.0) (hat_at r hats) [] → (ts : List TreeTelling) → ts ≡ all_own_told hats (change_hat r (without_face face.0) hats) keys
    → (ears : ToldSets) → ears ≡ s.core.ears → (ints : Interests) → ints ≡ s.core.interests → (dues : List FaceUpdate) → dues ≡ looked_over (accepted s.core (closing face)) ints (fold (insert_key text_cmp) [] keys)
    → Gathers s.core (closing face) ears dues ts
closing_gathers s face r home hats same keys are ts is ears kept_is ints asked dues due_are =
    let keys_are : keys ≡ touched s.core (closing face) = are ∙ ap (λ h. option_map_or (keys_of_face face.0) (hat_at r h) []) same ∙ ap (λ o. option_map_or (keys_of_face face.0) o []) (sym (hat_home face.0 r s.core home)) in
    record {
      is_kept = kept_is;
      is_looked = due_are ∙ (λ j. looked_over (accepted s.core (closing face)) (asked j) (fold (insert_key text_cmp) [] (keys_are j)));
      is_told =
          is
          ∙ (λ j. all_own_told (same j) (change_hat r (without_face face.0) (same j)) keys)
          ∙ (λ j. all_own_told s.core.hats (sym (changed_home face.0 r s.core home (without_face face.0)) j) (keys_are j));
    }

-- ---- a call that nothing refuses but ids that lack
module _ (c : Core) (t : TextCall) (only : OnlyIdsLack c t) where
  pub only_fits : lacks_told c t ≡ false → refusal_of c t ≡ None
  only_fits enough = only ∙ ap (λ b. cond b (Some refusal.NoFreeId) None) enough

  pub only_lacks : lacks_told c t ≡ true → refusal_of c t ≡ Some refusal.NoFreeId
  only_lacks lacks = only ∙ ap (λ b. cond b (Some refusal.NoFreeId) None) lacks

-- ---- what refuses a call for its key
-- whatever may refuse it behind that
pub key_refuses : (sd : Resolved) (behind_key : Option Refusal) (x : Refusal) → key_refusal sd ≡ Some x
    → cond (is_unscoped sd) (Some refusal.UnknownScope) (cond (not (says_key sd)) (Some refusal.InvalidKeyExpr) behind_key) ≡ Some x
key_refuses sd behind_key x e = by (is_unscoped sd) (says_key sd) e
  where
    by : (a b : Bool) → cond a (Some refusal.UnknownScope) (cond (not b) (Some refusal.InvalidKeyExpr) None) ≡ Some x → cond a (Some refusal.UnknownScope) (cond (not b) (Some refusal.InvalidKeyExpr) behind_key) ≡ Some x
    by true b f = f
    by false false f = f
    by false true f = absurd (let gap : None ≡ Some x = f in cc)

-- ---- what refuses a withdrawal and a declaration, by the hat of the face's region
pub opened_there : (face : ℕ) (r : Region) (c : Core) → face_region face c ≡ Some r → is_open face c ≡ true
opened_there face r c = by (at face c.faces)
  where
    by : (x : Option OpenFace) → option_map region_in x ≡ Some r → is_some x ≡ true
    by None e = absurd (let gap : None ≡ Some r = e in cc)
    by (Some o) e = refl

pub closed_there : (face : ℕ) (c : Core) → None ≡ face_region face c → is_open face c ≡ false
closed_there face c = by (at face c.faces)
  where
    by : (x : Option OpenFace) → None ≡ option_map region_in x → is_some x ≡ false
    by None e = refl
    by (Some o) e = absurd (let gap : None ≡ Some o.region = e in cc)

pub declaration_no_key : (s : State) (face : FaceId) (id : ℕ) (opens : is_open face.0 s.core ≡ true) (sd : Resolved) (info : QueryableInfoType) (node : ℕ) (x : Refusal) → key_refusal sd ≡ Some x
    → refusal_of s.core (declaring face id sd info node) ≡ Some x
declaration_no_key s face id opens sd info node x e =
    let lacks : Option Refusal = cond (lacks_told s.core (declaring face id sd info node)) (Some refusal.NoFreeId) None in
    let last : Option Refusal = cond (clashes_in face.0 id (full_text sd) (hat_of face.0 s.core)) (Some refusal.IdInUse) lacks in
    ap (λ b. cond (not b) (Some refusal.UnknownFace) (cond (is_unscoped sd) (Some refusal.UnknownScope) (cond (not (says_key sd)) (Some refusal.InvalidKeyExpr) last))) opens
    ∙ key_refuses sd last x e

module _ (s : State) (i : IsReached s) (face : FaceId) (id : ℕ) (r : Region) (home : face_region face.0 s.core ≡ Some r) (h : HatState) (there : hat_at r s.core.hats ≡ Some h) where
  hat_there : hat_of face.0 s.core ≡ Some h
  hat_there = hat_home face.0 r s.core home ∙ there

  withdrawal : (o : Option Declaration) → declaration_at face.0 id h ≡ o → refusal_of s.core (withdrawing face id) ≡ cond (not (is_some o)) (Some refusal.UnknownId) None
  withdrawal o e =
      ap (λ b. cond (not b) (Some refusal.UnknownFace) (cond (not (has_declared_in face.0 id (hat_of face.0 s.core))) (Some refusal.UnknownId) None)) (opened_there face.0 r s.core home)
      ∙ ap (λ x. cond (not (has_declared_in face.0 id x)) (Some refusal.UnknownId) None) hat_there
      ∙ ap (λ x. cond (not (is_some x)) (Some refusal.UnknownId) None) e

  pub withdrawal_refused : None ≡ option_map (λ (d : Declaration). d.key) (declaration_at face.0 id h) → refusal_of s.core (withdrawing face id) ≡ Some refusal.UnknownId
  withdrawal_refused none = by (declaration_at face.0 id h) refl none
    where
      by : (o : Option Declaration) → declaration_at face.0 id h ≡ o → None ≡ option_map (λ (d : Declaration). d.key) o → refusal_of s.core (withdrawing face id) ≡ Some refusal.UnknownId
      by None e f = withdrawal None e
      by (Some d) e f = absurd (let gap : None ≡ Some d.key = f in cc)

  module _ (key : List ℕ) (declared : Some key ≡ option_map (λ (d : Declaration). d.key) (declaration_at face.0 id h)) where
    pub withdrawal_fits : refusal_of s.core (withdrawing face id) ≡ None
    withdrawal_fits = by (declaration_at face.0 id h) refl declared
      where
        by : (o : Option Declaration) → declaration_at face.0 id h ≡ o → Some key ≡ option_map (λ (d : Declaration). d.key) o → refusal_of s.core (withdrawing face id) ≡ None
        by None e f = absurd (let gap : Some key ≡ None = f in cc)
        by (Some d) e f = withdrawal (Some d) e

    pub withdrawal_touches : touched s.core (withdrawing face id) ≡ key ∷ []
    withdrawal_touches = ap (λ x. option_to_list (option_map (λ (d : Declaration). d.key) (option_and_then (declaration_at face.0 id) x))) hat_there ∙ ap option_to_list (sym declared)

    pub withdrawal_key : is_key key ≡ true
    withdrawal_key = (subst AreTexts withdrawal_touches (touched_texts s.core (reached_in_order s i).worded (withdrawing face id) withdrawal_fits)).0

    -- what its body gathers
    pub withdrawal_gathers : (hats : List (ℕ × HatState)) → hats ≡ s.core.hats → (ts : List TreeTelling) → ts ≡ own_told_on hats (change_hat r (unregistered face.0 id) hats) key
        → (ears : ToldSets) → ears ≡ s.core.ears → (ints : Interests) → ints ≡ s.core.interests → (dues : List FaceUpdate) → dues ≡ looked_over (accepted s.core (withdrawing face id)) ints (key ∷ [])
        → Gathers s.core (withdrawing face id) ears dues ts
    withdrawal_gathers hats same ts is ears kept_is ints asked dues are = record {
      is_kept = kept_is;
      is_looked = key_looked s.core (withdrawing face id) r (unregistered face.0 id) key withdrawal_touches (changed_home face.0 r s.core home (unregistered face.0 id)) refl ints asked dues are;
      is_told = key_along s.core (withdrawing face id) r (unregistered face.0 id) key withdrawal_touches (changed_home face.0 r s.core home (unregistered face.0 id)) hats same [] ts refl is;
    }

  module _ (text : List ℕ) (info : QueryableInfoType) (node : ℕ) where
    abbrev declared_call : TextCall
    declared_call = declaring face id (said.Full text) info node

    -- what refuses it behind its key: that the id stands for another one, or that a neighbour lacks an id
    past_key : is_key text ≡ true → refusal_of s.core declared_call ≡ cond (clashes_at face.0 id text h) (Some refusal.IdInUse) (cond (lacks_told s.core declared_call) (Some refusal.NoFreeId) None)
    past_key valid =
        let lacks : Option Refusal = cond (lacks_told s.core declared_call) (Some refusal.NoFreeId) None in
        let clashes : Option Refusal = cond (clashes_in face.0 id text (hat_of face.0 s.core)) (Some refusal.IdInUse) lacks in
        ap (λ b. cond (not b) (Some refusal.UnknownFace) (cond (not (is_key text)) (Some refusal.InvalidKeyExpr) clashes)) (opened_there face.0 r s.core home)
        ∙ ap (λ b. cond (not b) (Some refusal.InvalidKeyExpr) clashes) valid
        ∙ ap (λ x. cond (clashes_in face.0 id text x) (Some refusal.IdInUse) lacks) hat_there

    -- nothing refuses it but ids that lack
    pub declaration_only : is_key text ≡ true → clashes_at face.0 id text h ≡ false → OnlyIdsLack s.core (declaring face id (said.Full text) info node)
    declaration_only valid free = past_key valid ∙ ap (λ b. cond b (Some refusal.IdInUse) (cond (lacks_told s.core declared_call) (Some refusal.NoFreeId) None)) free

    pub declaration_clashes : is_key text ≡ true → clashes_at face.0 id text h ≡ true → refusal_of s.core (declaring face id (said.Full text) info node) ≡ Some refusal.IdInUse
    declaration_clashes valid used = past_key valid ∙ ap (λ b. cond b (Some refusal.IdInUse) (cond (lacks_told s.core declared_call) (Some refusal.NoFreeId) None)) used

    -- what its body gathers
    pub declaration_gathers : (hats : List (ℕ × HatState)) → hats ≡ s.core.hats → (ts : List TreeTelling) → ts ≡ own_told_on hats (change_hat r (registered face.0 id text node info) hats) text
        → (ears : ToldSets) → ears ≡ s.core.ears → (ints : Interests) → ints ≡ s.core.interests → (dues : List FaceUpdate) → dues ≡ looked_over (accepted s.core declared_call) ints (text ∷ [])
        → Gathers s.core declared_call ears dues ts
    declaration_gathers hats same ts is ears kept_is ints asked dues are = record {
      is_kept = kept_is;
      is_looked = key_looked s.core declared_call r (registered face.0 id text node info) text refl (changed_home face.0 r s.core home (registered face.0 id text node info)) refl ints asked dues are;
      is_told = key_along s.core declared_call r (registered face.0 id text node info) text refl (changed_home face.0 r s.core home (registered face.0 id text node info)) hats same [] ts refl is;
    }
