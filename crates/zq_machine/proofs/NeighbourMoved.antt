-- What faces are told of what is due moves with texts.
use Rattle.std.proofs.Common.{◌≡◌, ◌∙◌, refl, sym, ap, ℕ, List, [], ◌∷◌, ◌++◌, map, filter, Option, Some, None}
use Rattle.std.specs.BTreeMap.{is_at}
use Rattle.std.specs.List.{flat_map}
use Rattle.std.specs.Map.{keys_of}
use Rattle.std.specs.Option.{option_map, option_map_or}
use Rattle.std.specs.Ordering.{nat_cmp}
use Rattle.std.proofs.lemmas.List.{map-append}
use Rattle.std.proofs.lemmas.Map.Made.{lookup-map_values}
use Rattle.zq_key.proofs.Naturals.{filter-map, map-map}
use Rattle.zq_interests.specs.declared.types.InterestEntry.{InterestEntry}
use Rattle.zq_strategy.specs.Moved.{Keeps}
use Rattle.zq_told.specs.declared.types.FaceUpdate.{FaceUpdate}
use Rattle.zq_told.specs.declared.types.Planned.{Planned}
use Rattle.zq_told.specs.declared.types.Reason.{Reason}
use Rattle.zq_told.specs.declared.types.Reason.TheVariants.{Update, Answer, End}
use Rattle.zq_told.specs.ToldSets.{ToldSet, ToldSets, Told, at_face}
use Rattle.zq_told.specs.Moved.{TellsAlike, move_dues, move_ear, move_ears, move_telling, move_text as move_row}
use Rattle.zq_told.specs.Telling.{KeyDue, lacks_ids, tell_due, tell_faces}
use Rattle.zq_told.proofs.Moved.{tells_alike}
use Rattle.zq_machine.specs.declared.face.OpenFace.{OpenFace}
use Rattle.zq_machine.specs.Due.{asked_keys, due_touched, listens}
use Rattle.zq_interests.specs.Interests.{Interests, meets}
use Rattle.zq_machine.specs.DueAlike.{DueAlike, ToldAlike}
use Rattle.zq_machine.specs.Moved.{move_asked, move_core, move_interests, move_text}
use Rattle.zq_machine.specs.Neighbours.{kept_after, kept_lack, kept_told, asked_at, asked_dues, due_on, dues_on, ended_at, ended_dues, looked_at, with_dues, with_new, without_closed}
use Rattle.zq_told.specs.ToldSets.{told_keys}
use Rattle.zq_machine.specs.State.{Core}
use Rattle.zq_machine.specs.TextCalls.{TextCall, opening, closing}
use Rattle.zq_machine.proofs.NeighbourLooks.{looked_is}
use Rattle.zq_machine.proofs.Refused.{HasText, has_text}
use Rattle.zq_machine.proofs.DuesMoved.{asked_keys_moved, dues_moved, face_keys_moved, keys_moved, listens_moved, looked_moved, meets_moved}

flat_same : {X Y Z : Type 0} (k : Y → Z) (f : X → List Z) (h : X → List Y) → ((x : X) → f x ≡ map k (h x)) → (xs : List X) → flat_map f xs ≡ map k (flat_map h xs)
flat_same k f h same [] = refl
flat_same k f h same (x ∷ xs) = (λ i. same x i ++ flat_same k f h same xs i) ∙ sym (map-append k (h x) (flat_map h xs))

module _ (φ : List ℕ → List ℕ) (keeps : Keeps φ) where
  alike : TellsAlike φ
  alike = tells_alike φ keeps.order

  -- ---- keys with what is due
  rows_moved : (c : Core) (ints : Interests) (face : ℕ) (ks : List (List ℕ)) → map (due_on (move_core φ c) (move_interests φ ints) face) (map φ ks) ≡ map (move_row φ) (map (due_on c ints face) ks)
  rows_moved c ints face ks =
      map-map φ (due_on (move_core φ c) (move_interests φ ints) face) (λ k. move_row φ (due_on c ints face k)) (λ k i. (φ k, dues_moved φ keeps c ints face k i)) ks
      ∙ sym (map-map (due_on c ints face) (move_row φ) (λ k. move_row φ (due_on c ints face k)) (λ k. refl) ks)

  heard_rows : (c : Core) (ints : Interests) (face : ℕ) (ks : List (List ℕ)) → dues_on (move_core φ c) (move_interests φ ints) (map φ ks) face ≡ map (move_row φ) (dues_on c ints ks face)
  heard_rows c ints face ks =
      ap (map (due_on (move_core φ c) (move_interests φ ints) face))
      (filter-map φ (λ key. listens (move_core φ c) (move_interests φ ints) face key) (λ key. listens c ints face key) (listens_moved φ keeps c ints face) ks)
      ∙ rows_moved c ints face (filter (λ key. listens c ints face key) ks)

  face_moved : (face : ℕ) (ks : List KeyDue) → with_dues face (map (move_row φ) ks) ≡ map (move_dues φ) (with_dues face ks)
  face_moved face [] = refl
  face_moved face (k ∷ ks) = refl

  -- ---- what is looked at
  module _ (before after : Core) (ints : Interests) (t : TextCall) (text : HasText t) where
    one_moved : (o : ℕ × OpenFace) → with_dues o.0 (dues_on (move_core φ after) (move_interests φ ints) (due_touched (move_core φ before) (move_interests φ ints) (move_text φ t) o.0) o.0) ≡ map (move_dues φ) (with_dues o.0 (dues_on after ints (due_touched before ints t o.0) o.0))
    one_moved o =
        ap (λ ks. with_dues o.0 (dues_on (move_core φ after) (move_interests φ ints) ks o.0)) (looked_moved φ keeps before ints t o.0 text)
        ∙ ap (with_dues o.0) (heard_rows after ints o.0 (due_touched before ints t o.0))
        ∙ face_moved o.0 (dues_on after ints (due_touched before ints t o.0) o.0)

    dues_alike : looked_at (move_core φ before) (move_core φ after) (move_interests φ ints) (move_text φ t) ≡ map (move_dues φ) (looked_at before after ints t)
    dues_alike =
        looked_is (move_core φ before) (move_core φ after) (move_interests φ ints) (move_text φ t)
        ∙ flat_same (move_dues φ) (λ (o : ℕ × OpenFace). with_dues o.0 (dues_on (move_core φ after) (move_interests φ ints) (due_touched (move_core φ before) (move_interests φ ints) (move_text φ t) o.0) o.0))
        (λ (o : ℕ × OpenFace). with_dues o.0 (dues_on after ints (due_touched before ints t o.0) o.0)) one_moved after.faces
        ∙ ap (map (move_dues φ)) (sym (looked_is before after ints t))

  asked_alike : (c : Core) (ints : Interests) (asker : ℕ) (asked : InterestEntry) → asked_at (move_core φ c) (move_interests φ ints) asker (move_asked φ asked) ≡ map (move_dues φ) (asked_at c ints asker asked)
  asked_alike c ints asker asked =
      ap (λ ks. with_dues asker (map (due_on (move_core φ c) (move_interests φ ints) asker) ks)) (asked_keys_moved φ keeps c ints asker asked)
      ∙ ap (with_dues asker) (rows_moved c ints asker (asked_keys c ints asker asked))
      ∙ face_moved asker (asked_dues c ints asker asked)

  keys_of_moved : (told : Told) → keys_of (map (move_row φ) told) ≡ map φ (keys_of told)
  keys_of_moved [] = refl
  keys_of_moved (e ∷ es) = ap (λ l. φ e.0 ∷ l) (keys_of_moved es)

  told_moved : (face : ℕ) (ears : ToldSets) → told_keys face (move_ears φ ears) ≡ map φ (told_keys face ears)
  told_moved face ears = ap (λ (o : Option ToldSet). option_map_or (λ (e : ToldSet). keys_of e.told) o []) (lookup-map_values (move_ear φ) (is_at (nat_cmp face)) ears) ∙ by (at_face face ears)
    where
      by : (o : Option ToldSet) → option_map_or (λ (e : ToldSet). keys_of e.told) (option_map (move_ear φ) o) [] ≡ map φ (option_map_or (λ (e : ToldSet). keys_of e.told) o [])
      by None = refl
      by (Some e) = keys_of_moved e.told

  ended_alike : (c : Core) (ints : Interests) (ears : ToldSets) (asker : ℕ) (asked : InterestEntry) → ended_at (move_core φ c) (move_interests φ ints) (move_ears φ ears) asker (move_asked φ asked) ≡ map (move_dues φ) (ended_at c ints ears asker asked)
  ended_alike c ints ears asker asked =
      ap (λ ks. with_dues asker (map (due_on (move_core φ c) (move_interests φ ints) asker) (filter (meets (option_map φ asked.key)) ks))) (told_moved asker ears)
      ∙ ap (λ ks. with_dues asker (map (due_on (move_core φ c) (move_interests φ ints) asker) ks)) (filter-map φ (meets (option_map φ asked.key)) (meets asked.key) (meets_moved φ keeps asked.key) (told_keys asker ears))
      ∙ ap (with_dues asker) (rows_moved c ints asker (filter (meets asked.key) (told_keys asker ears)))
      ∙ face_moved asker (ended_dues c ints ears asker asked)

  -- ---- what is told, lacks and is left
  module _ (way : Reason) (ears others : ToldSets) (dues more : List FaceUpdate) (e : others ≡ move_ears φ ears) (d : more ≡ map (move_dues φ) dues) where
    tellings_alike : (tell_faces way others more).tellings ≡ map (move_telling φ) (tell_faces way ears dues).tellings
    tellings_alike = (λ i. (tell_faces way (e i) (d i)).tellings) ∙ ap (λ (p : Planned). p.tellings) (alike.tells way ears dues)

    lacks_alike : lacks_ids way others more ≡ lacks_ids way ears dues
    lacks_alike = (λ i. lacks_ids way (e i) (d i)) ∙ alike.lacks way ears dues

    left_alike : tell_due way others more ≡ move_ears φ (tell_due way ears dues)
    left_alike = (λ i. tell_due way (e i) (d i)) ∙ alike.leaves way ears dues

  pub new_alike : (c : Core) (t : TextCall) (ears : ToldSets) → with_new (move_core φ c) (move_text φ t) (move_ears φ ears) ≡ move_ears φ (with_new c t ears)
  new_alike c (opening o) ears = alike.opens c.next_face c.config.start.told ears
  new_alike c t ears = refl

  closed_alike : (t : TextCall) (ears : ToldSets) → without_closed (move_text φ t) (move_ears φ ears) ≡ move_ears φ (without_closed t ears)
  closed_alike (closing g) ears = alike.closes g.0 ears
  closed_alike t ears = refl

  -- ---- what a call tells the faces of which something is kept
  module _ (before after : Core) (ints : Interests) (t : TextCall) (text : HasText t) (kept others : ToldSets) (e : others ≡ move_ears φ kept) where
    pub kept_moved : kept_told (move_core φ before) (move_core φ after) (move_interests φ ints) (move_text φ t) others ≡ map (move_telling φ) (kept_told before after ints t kept)
    kept_moved = tellings_alike Update kept others (looked_at before after ints t) _ e (dues_alike before after ints t text)

    pub kept_lacks : kept_lack (move_core φ before) (move_core φ after) (move_interests φ ints) (move_text φ t) others ≡ kept_lack before after ints t kept
    kept_lacks = lacks_alike Update kept others (looked_at before after ints t) _ e (dues_alike before after ints t text)

    pub kept_left : kept_after (move_core φ before) (move_core φ after) (move_interests φ ints) (move_text φ t) others ≡ move_ears φ (kept_after before after ints t kept)
    kept_left =
        ap (without_closed (move_text φ t)) (left_alike Update kept others (looked_at before after ints t) _ e (dues_alike before after ints t text))
        ∙ closed_alike t (tell_due Update kept (looked_at before after ints t))

  pub told_alike : ToldAlike φ
  told_alike = record {
    told = λ before after ints t ears fits. kept_moved before after ints t (has_text before t fits) (with_new before t ears) _ (new_alike before t ears);
    lack = λ before after ints t ears fits. kept_lacks before after ints t (has_text before t fits) (with_new before t ears) _ (new_alike before t ears);
    left = λ before after ints t ears fits. kept_left before after ints t (has_text before t fits) (with_new before t ears) _ (new_alike before t ears);
    told_asked = λ c ints ears asker asked. tellings_alike Answer ears (move_ears φ ears) (asked_at c ints asker asked) _ refl (asked_alike c ints asker asked);
    lack_asked = λ c ints ears asker asked. lacks_alike Answer ears (move_ears φ ears) (asked_at c ints asker asked) _ refl (asked_alike c ints asker asked);
    left_asked = λ c ints ears asker asked. left_alike Answer ears (move_ears φ ears) (asked_at c ints asker asked) _ refl (asked_alike c ints asker asked);
    told_ended = λ c ints ears asker asked. tellings_alike End ears (move_ears φ ears) (ended_at c ints ears asker asked) _ refl (ended_alike c ints ears asker asked);
    left_ended = λ c ints ears asker asked. left_alike End ears (move_ears φ ears) (ended_at c ints ears asker asked) _ refl (ended_alike c ints ears asker asked);
  }

  pub due_alike : DueAlike φ
  due_alike = record {
    dues = dues_moved φ keeps;
    keys = keys_moved φ keeps;
    own = face_keys_moved φ keeps;
    asked = asked_keys_moved φ keeps;
    touches = λ c ints t face fits. looked_moved φ keeps c ints t face (has_text c t fits);
    told = told_alike;
  }
