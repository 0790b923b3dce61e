-- What is due moves with texts, and the keys that are looked at move along.
use Rattle.std.proofs.Common.{◌≡◌, ◌∙◌, refl, ap, ℕ, Bool, true, false, cond, not, List, [], ◌∷◌, map, filter, fold, Option, Some, None}
use Rattle.std.specs.Prelude.{◌==◌, ◌||◌, ◌&&◌, is_none}
use Rattle.std.specs.BTreeMap.{is_at}
use Rattle.std.specs.BTreeSet.{insert_key}
use Rattle.std.specs.List.{cons_option, filter_map, list_any}
use Rattle.std.specs.Option.{option_and_then, option_map, option_map_or, option_to_list}
use Rattle.std.specs.Ordering.{is_eq, nat_cmp}
use Rattle.std.proofs.lemmas.Map.Made.{lookup-map_values}
use Rattle.zq_message.specs.declared.message.QueryableInfoType.{QueryableInfoType}
use Rattle.zq_key.specs.Key.{intersects}
use Rattle.zq_message.specs.Region.{region_index}
use Rattle.zq_key.proofs.Naturals.{any-map, filter-map, fold-map, fold-moved}
use Rattle.zq_index.specs.Infos.{joined}
use Rattle.zq_index.specs.Texts.{text_cmp}
use Rattle.zq_strategy.specs.Fellows.{fellow_info, with_fellow}
use Rattle.zq_interests.specs.declared.types.InterestEntry.{InterestEntry}
use Rattle.zq_strategy.specs.Moved.{Keeps, move_face, move_hat}
use Rattle.zq_strategy.specs.Regions.{is_north, strategy_at}
use Rattle.zq_strategy.specs.State.{HatState}
use Rattle.zq_strategy.specs.Trees.{region_keys}
use Rattle.zq_strategy.proofs.OffersMoved.{key_moved}
use Rattle.zq_machine.specs.declared.face.OpenFace.{OpenFace}
use Rattle.zq_machine.specs.Due.{asked_keys, due, due_keys, due_touched, face_keys, folded, folded_over, folds, folds_in, heard, heard_as, heard_by, heard_in, heard_touched, is_looked, is_met_by, listens, listens_by, listens_in, widened, with_part, with_region_keys}
use Rattle.zq_interests.specs.Interests.{Interests, asked_for, asks_folded, asks_for, interest_at, interests_of, is_own, meets, own_key, own_keys, wants, wants_folded}
use Rattle.zq_machine.specs.Moved.{move_core, move_interest, move_interests, move_region, move_text, move_asked}
use Rattle.zq_machine.specs.State.{Core, at, hat_at, hat_of}
use Rattle.zq_machine.specs.TextCalls.{TextCall, opening}
use Rattle.zq_machine.specs.Trees.{touched}
use Rattle.zq_machine.proofs.DueMoved.{face_info_moved, own_entry_moved, region_keys_moved, touched_moved}
use Rattle.zq_machine.proofs.HatsMoved.{hat_found, own_found}
use Rattle.zq_machine.proofs.Refused.{HasText}

module _ (φ : List ℕ → List ℕ) (keeps : Keeps φ) where
  -- ---- what faces ask to hear
  pub meets_moved : (asked : Option (List ℕ)) (key : List ℕ) → meets (option_map φ asked) (φ key) ≡ meets asked key
  meets_moved None key = refl
  meets_moved (Some k) key = keeps.meet k key

  pub interests_moved : (face : ℕ) (ints : Interests) → interests_of face (move_interests φ ints) ≡ map (move_interest φ) (interests_of face ints)
  interests_moved face ints =
      ap (λ (o : Option (List (ℕ × InterestEntry))). option_map_or (λ es. es) o []) (lookup-map_values (map (move_interest φ)) (is_at (nat_cmp face)) ints) ∙ by (at face ints)
    where
      by : (o : Option (List (ℕ × InterestEntry))) → option_map_or (λ es. es) (option_map (map (move_interest φ)) o) [] ≡ map (move_interest φ) (option_map_or (λ es. es) o [])
      by None = refl
      by (Some es) = refl

  pub interest_there : (face id : ℕ) (ints : Interests) → interest_at face id (move_interests φ ints) ≡ option_map (move_asked φ) (interest_at face id ints)
  interest_there face id ints = ap (at id) (interests_moved face ints) ∙ lookup-map_values (move_asked φ) (is_at (nat_cmp id)) (interests_of face ints)

  own_moved : (asked : Option (List ℕ)) (key : List ℕ) → is_own (option_map φ asked) (φ key) ≡ is_own asked key
  own_moved None key = refl
  own_moved (Some k) key = ap is_eq (keeps.order k key)

  pub asked_moved : (i : InterestEntry) (key : List ℕ) → asked_for (move_asked φ i) (φ key) ≡ asked_for i key
  asked_moved i key = λ j. cond i.aggregate (own_moved i.key key j) (meets_moved i.key key j)

  asks_moved : (face : ℕ) (key : List ℕ) (ints : Interests) → asks_for face (φ key) (move_interests φ ints) ≡ asks_for face key ints
  asks_moved face key ints =
      ap (list_any (wants (φ key))) (interests_moved face ints)
      ∙ any-map (move_interest φ) (wants (φ key)) (wants key) (λ i. asked_moved i.1 key) (interests_of face ints)

  folding_moved : (i : ℕ × InterestEntry) (key : List ℕ) → wants_folded (φ key) (move_interest φ i) ≡ wants_folded key i
  folding_moved i key = by i.1.aggregate i.1.key
    where
      by : (b : Bool) (o : Option (List ℕ)) → option_map_or (λ k. is_at (text_cmp k) (φ key)) (cond b (option_map φ o) None) false ≡ option_map_or (λ k. is_at (text_cmp k) key) (cond b o None) false
      by true None = refl
      by true (Some k) = ap is_eq (keeps.order k key)
      by false o = refl

  folded_asked_moved : (face : ℕ) (key : List ℕ) (ints : Interests) → asks_folded face (φ key) (move_interests φ ints) ≡ asks_folded face key ints
  folded_asked_moved face key ints =
      ap (list_any (wants_folded (φ key))) (interests_moved face ints)
      ∙ any-map (move_interest φ) (wants_folded (φ key)) (wants_folded key) (λ i. folding_moved i key) (interests_of face ints)

  -- the keys of aggregating interests
  owned_moved : (es : List (ℕ × InterestEntry)) → filter_map (λ (i : ℕ × InterestEntry). own_key i.1) (map (move_interest φ) es) ≡ map φ (filter_map (λ (i : ℕ × InterestEntry). own_key i.1) es)
  owned_moved [] = refl
  owned_moved (e ∷ es) = by e.1.aggregate e.1.key (owned_moved es)
    where
      now : List (List ℕ)
      now = filter_map (λ (i : ℕ × InterestEntry). own_key i.1) (map (move_interest φ) es)

      was : List (List ℕ)
      was = filter_map (λ (i : ℕ × InterestEntry). own_key i.1) es

      by : (b : Bool) (o : Option (List ℕ)) → now ≡ map φ was → cons_option (cond b (option_map φ o) None) now ≡ map φ (cons_option (cond b o None) was)
      by true None more = more
      by true (Some k) more = ap (λ l. φ k ∷ l) more
      by false o more = more

  own_keys_moved : (face : ℕ) (ints : Interests) → own_keys face (move_interests φ ints) ≡ map φ (own_keys face ints)
  own_keys_moved face ints = ap (filter_map (λ (i : ℕ × InterestEntry). own_key i.1)) (interests_moved face ints) ∙ owned_moved (interests_of face ints)

  pub listens_moved : (c : Core) (ints : Interests) (face : ℕ) (key : List ℕ) → listens (move_core φ c) (move_interests φ ints) face (φ key) ≡ listens c ints face key
  listens_moved c ints face key = ap (λ (o : Option HatState). option_map_or (listens_in (move_interests φ ints) face (φ key)) o false) (own_found φ c face) ∙ by (hat_of face c)
    where
      by : (o : Option HatState) → option_map_or (listens_in (move_interests φ ints) face (φ key)) (option_map (move_hat φ) o) false ≡ option_map_or (listens_in ints face key) o false
      by None = refl
      by (Some h) = ap (listens_by (strategy_at h) (is_north h.region)) (asks_moved face key ints)

  -- ---- what there is to hear
  fellows_moved : (face : ℕ) (key : List ℕ) (h : HatState) → fellow_info face (φ key) (move_hat φ h) ≡ fellow_info face key h
  fellows_moved face key h = fold-map (move_face φ) (with_fellow face (φ key)) (with_fellow face key) (λ m f. ap (λ i. cond (f.0 == face) m (joined m i)) (face_info_moved φ keeps key f)) None h.faces

  heard_moved : (c : Core) (face : ℕ) (key : List ℕ) → heard (move_core φ c) face (φ key) ≡ heard c face key
  heard_moved c face key = by (at face c.faces)
    where
      there : (o : OpenFace) (x : Option HatState) → option_and_then (heard_in face (φ key) (map (move_region φ) c.hats) (region_index o.region)) (option_map (move_hat φ) x) ≡ option_and_then (heard_in face key c.hats (region_index o.region)) x
      there o None = refl
      there o (Some h) = λ j. heard_by (strategy_at h) (fellows_moved face key h j) (own_entry_moved φ keeps (region_index o.region) key c.hats j)

      by : (o : Option OpenFace) → option_and_then (heard_as face (φ key) (map (move_region φ) c.hats)) o ≡ option_and_then (heard_as face key c.hats) o
      by None = refl
      by (Some o) = ap (option_and_then (heard_in face (φ key) (map (move_region φ) c.hats) (region_index o.region))) (hat_found φ c.hats o.region) ∙ there o (hat_at o.region c.hats)

  -- ---- keys
  put_moved : (ks xs : List (List ℕ)) → fold (insert_key text_cmp) (map φ ks) (map φ xs) ≡ map φ (fold (insert_key text_cmp) ks xs)
  put_moved ks xs = fold-moved φ (map φ) (insert_key text_cmp) (insert_key text_cmp) (key_moved φ keeps) ks xs

  pub keys_moved : (c : Core) → due_keys (move_core φ c) ≡ map φ (due_keys c)
  keys_moved c =
      fold-moved (move_region φ) (map φ) with_region_keys with_region_keys
      (λ ks h. ap (fold (insert_key text_cmp) (map φ ks)) (region_keys_moved φ keeps h.1) ∙ put_moved ks (region_keys h.1)) [] c.hats

  -- with the keys of aggregating interests
  met_by_moved : (ks : List (List ℕ)) (key : List ℕ) → is_met_by (map φ ks) (φ key) ≡ is_met_by ks key
  met_by_moved ks key = any-map φ (λ k. intersects k (φ key)) (λ k. intersects k key) (λ k. keeps.meet k key) ks

  wider_moved : (face : ℕ) (ints : Interests) (ks : List (List ℕ)) → widened face (move_interests φ ints) (map φ ks) ≡ map φ (widened face ints ks)
  wider_moved face ints ks =
      ap (λ os. fold (insert_key text_cmp) (map φ ks) (filter (is_met_by (map φ ks)) os)) (own_keys_moved face ints)
      ∙ ap (fold (insert_key text_cmp) (map φ ks)) (filter-map φ (is_met_by (map φ ks)) (is_met_by ks) (met_by_moved ks) (own_keys face ints))
      ∙ put_moved ks (filter (is_met_by ks) (own_keys face ints))

  pub face_keys_moved : (c : Core) (ints : Interests) (face : ℕ) → face_keys (move_core φ c) (move_interests φ ints) face ≡ map φ (face_keys c ints face)
  face_keys_moved c ints face =
      (λ j. fold (insert_key text_cmp) (keys_moved c j) (own_keys_moved face ints j))
      ∙ put_moved (due_keys c) (own_keys face ints)

  keys_touched : (c : Core) (t : TextCall) → HasText t → fold (insert_key text_cmp) [] (touched (move_core φ c) (move_text φ t)) ≡ map φ (fold (insert_key text_cmp) [] (touched c t))
  keys_touched c t e = ap (fold (insert_key text_cmp) []) (touched_moved φ keeps c t e) ∙ put_moved [] (touched c t)

  heard_looked : (c : Core) (t : TextCall) (face : ℕ) → HasText t → heard_touched (move_core φ c) (move_text φ t) face ≡ map φ (heard_touched c t face)
  heard_looked c (opening o) face e = by (face == c.next_face)
    where
      by : (b : Bool) → cond b (due_keys (move_core φ c)) [] ≡ map φ (cond b (due_keys c) [])
      by true = keys_moved c
      by false = refl
  heard_looked c t face e = keys_touched c t e

  pub looked_moved : (c : Core) (ints : Interests) (t : TextCall) (face : ℕ) → HasText t → due_touched (move_core φ c) (move_interests φ ints) (move_text φ t) face ≡ map φ (due_touched c ints t face)
  looked_moved c ints t face e = ap (widened face (move_interests φ ints)) (heard_looked c t face e) ∙ wider_moved face ints (heard_touched c t face)

  -- ---- what is due
  part_moved : (hear now : List ℕ → Option QueryableInfoType) → ((k : List ℕ) → now (φ k) ≡ hear k) → (key k : List ℕ) (m : Option QueryableInfoType) → with_part now (φ key) m (φ k) ≡ with_part hear key m k
  part_moved hear now same key k m = λ j. cond (keeps.meet k key j) (joined m (option_map (λ i. record { complete = i.complete && keeps.cover k key j; distance = i.distance }) (same k j))) m

  folded_moved : (c : Core) (face : ℕ) (key : List ℕ) → folded (move_core φ c) face (φ key) ≡ folded c face key
  folded_moved c face key =
      ap (λ ks. folded_over (heard (move_core φ c) face) ks (φ key)) (keys_moved c)
      ∙ fold-map φ (with_part (heard (move_core φ c) face) (φ key)) (with_part (heard c face) key) (λ m k. part_moved (heard c face) (heard (move_core φ c) face) (heard_moved c face) key k m) None (due_keys c)

  folds_moved : (c : Core) (ints : Interests) (face : ℕ) (key : List ℕ) → folds (move_core φ c) (move_interests φ ints) face (φ key) ≡ folds c ints face key
  folds_moved c ints face key = ap (λ (o : Option HatState). option_map_or (folds_in (move_interests φ ints) face (φ key)) o false) (own_found φ c face) ∙ by (hat_of face c)
    where
      by : (o : Option HatState) → option_map_or (folds_in (move_interests φ ints) face (φ key)) (option_map (move_hat φ) o) false ≡ option_map_or (folds_in ints face key) o false
      by None = refl
      by (Some h) = ap (λ b. not (listens_by (strategy_at h) (is_north h.region) false) && b) (folded_asked_moved face key ints)

  pub dues_moved : (c : Core) (ints : Interests) (face : ℕ) (key : List ℕ) → due (move_core φ c) (move_interests φ ints) face (φ key) ≡ due c ints face key
  dues_moved c ints face key = λ j. cond (listens_moved c ints face key j) (cond (folds_moved c ints face key j) (folded_moved c face key j) (heard_moved c face key j)) None

  -- ---- what an interest looks at
  looks_moved : (c : Core) (ints : Interests) (asker : ℕ) (asked : InterestEntry) (key : List ℕ) → is_looked (move_core φ c) (move_interests φ ints) asker (move_asked φ asked) (φ key) ≡ is_looked c ints asker asked key
  looks_moved c ints asker asked key = λ j. asked_moved asked key j || (meets_moved asked.key key j && is_none (dues_moved c ints asker key j))

  one_moved : (o : Option (List ℕ)) → option_to_list (option_map φ o) ≡ map φ (option_to_list o)
  one_moved None = refl
  one_moved (Some k) = refl

  pub asked_keys_moved : (c : Core) (ints : Interests) (asker : ℕ) (asked : InterestEntry) → asked_keys (move_core φ c) (move_interests φ ints) asker (move_asked φ asked) ≡ map φ (asked_keys c ints asker asked)
  asked_keys_moved c ints asker asked =
      (λ j. filter (is_looked (move_core φ c) (move_interests φ ints) asker (move_asked φ asked)) (fold (insert_key text_cmp) (face_keys_moved c ints asker j) (one_moved asked.key j)))
      ∙ ap (filter (is_looked (move_core φ c) (move_interests φ ints) asker (move_asked φ asked))) (put_moved (face_keys c ints asker) (option_to_list asked.key))
      ∙ filter-map φ (is_looked (move_core φ c) (move_interests φ ints) asker (move_asked φ asked)) (is_looked c ints asker asked) (looks_moved c ints asker asked) (fold (insert_key text_cmp) (face_keys c ints asker) (option_to_list asked.key))
