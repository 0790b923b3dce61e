-- What routers announced, and what is offered by it, moves with its texts.
use Rattle.std.proofs.Common.{◌≡◌, ◌∙◌, sym, ap, refl, ℕ, Bool, true, false, cond, List, [], ◌∷◌, ◌++◌, Some, None, Option, map}
use Rattle.std.specs.Prelude.{find}
use Rattle.std.specs.Ordering.{is_eq}
use Rattle.std.specs.List.{flat_map}
use Rattle.std.specs.Option.{option_map, option_map_or, option_to_list}
use Rattle.std.proofs.lemmas.List.{map-append}
use Rattle.zq_key.proofs.Naturals.{flat_map-map}
use Rattle.zq_key.specs.Key.{intersects, includes}
use Rattle.zq_message.specs.declared.message.QueryableInfoType.{QueryableInfoType}
use Rattle.zq_message.specs.declared.message.Region.{Region}
use Rattle.zq_message.specs.declared.message.Zid.{Zid}
use Rattle.zq_index.specs.Texts.{at_text}
use Rattle.zq_strategy.specs.Entries.{Routed, routed_info}
use Rattle.zq_strategy.specs.declared.offer.QueryTargetQabl.{QueryTargetQabl}
use Rattle.zq_strategy.specs.OfferOrder.{met_offers}
use Rattle.zq_strategy.specs.Routed.{entry_offer, routed_offers, router_offer, way_to}
use Rattle.zq_strategy.specs.Kept.{routers_info}
use Rattle.zq_strategy.specs.Routers.{entries_offers, face_with, has_zid, router_offers, source_for}
use Rattle.zq_strategy.specs.State.{FaceState, HatState}
use Rattle.zq_strategy.specs.Moved.{Keeps, move_entry, move_face, move_hat, move_offer}

pub joined_lists : {X Z W : Type 0} (k : Z → W) (f : X → List W) (h : X → List Z) → ((x : X) → f x ≡ map k (h x)) → (xs : List X) → flat_map f xs ≡ map k (flat_map h xs)
joined_lists k f h same [] = refl
joined_lists k f h same (x ∷ xs) = (λ j. same x j ++ joined_lists k f h same xs j) ∙ sym (map-append k (h x) (flat_map h xs))

module _ (φ : List ℕ → List ℕ) where
  -- faces keep their ids
  pub seat_moved : (zid : Zid) (fs : List (ℕ × FaceState)) → face_with zid (map (move_face φ) fs) ≡ face_with zid fs
  seat_moved zid [] = refl
  seat_moved zid (f ∷ fs) = by (has_zid zid f) (seat_moved zid fs)
    where
      by : (b : Bool) → face_with zid (map (move_face φ) fs) ≡ face_with zid fs
          → option_map (λ (x : ℕ × FaceState). x.0) (cond b (Some (move_face φ f)) (find (has_zid zid) (map (move_face φ) fs))) ≡ option_map (λ (x : ℕ × FaceState). x.0) (cond b (Some f) (find (has_zid zid) fs))
      by true ih = refl
      by false ih = ih

  module _ (keeps : Keeps φ) where
    -- a moved text is found where the text was
    pub found_moved : {X : Type 0} (key : List ℕ) (es : List (List ℕ × X)) → at_text (φ key) (map (move_entry φ) es) ≡ at_text key es
    found_moved key [] = refl
    found_moved key (e ∷ es) = λ j. cond (is_eq (keeps.order key e.0 j)) (Some e.1) (found_moved key es j)

    pub routers_info_moved : (key : List ℕ) (s : HatState) → routers_info (φ key) (move_hat φ s) ≡ routers_info key s
    routers_info_moved key s = ap (λ o. routed_info (option_map_or (λ (es : Routed). es) o [])) (found_moved key s.entries)

    module _ (s : HatState) (q : List ℕ) (source : ℕ) where
      abbrev face : Zid → Option ℕ
      face zid = face_with zid s.faces

      faces_moved : (λ zid. face_with zid (map (move_face φ) s.faces)) ≡ face
      faces_moved = λ j zid. seat_moved zid s.faces j

      abbrev met : List ℕ → List ℕ × Routed → List QueryTargetQabl
      met q k = routed_offers s.network face s.region source q k

      offer_by : (included : Bool) (key : List ℕ) (i : QueryableInfoType) (o : Option (ℕ × ℕ))
          → option_to_list (option_map (router_offer s.region included (φ key) source i) o) ≡ map (move_offer φ) (option_to_list (option_map (router_offer s.region included key source i) o))
      offer_by included key i None = refl
      offer_by included key i (Some way) = refl

      on_moved : (k : List ℕ × Routed) → met (φ q) (move_entry φ k) ≡ map (move_offer φ) (met q k)
      on_moved k =
          ap (λ b. flat_map (entry_offer s.network face s.region source b (φ k.0)) k.1) (keeps.cover k.0 q)
          ∙ joined_lists (move_offer φ) (entry_offer s.network face s.region source (includes k.0 q) (φ k.0)) (entry_offer s.network face s.region source (includes k.0 q) k.0)
          (λ e. offer_by (includes k.0 q) k.0 e.1 (way_to s.network face source e.0)) k.1

      key_by : (k : List ℕ × Routed) (b : Bool) → cond b (met (φ q) (move_entry φ k)) [] ≡ map (move_offer φ) (cond b (met q k) [])
      key_by k true = on_moved k
      key_by k false = refl

      key_moved : (k : List ℕ × Routed) → entries_offers (move_hat φ s) (φ q) source (move_entry φ k) ≡ map (move_offer φ) (entries_offers s q source k)
      key_moved k =
          ap (λ f. met_offers (routed_offers s.network f s.region source (φ q)) (φ q) (move_entry φ k)) faces_moved
          ∙ ap (λ b. cond b (met (φ q) (move_entry φ k)) []) (keeps.meet k.0 q)
          ∙ key_by k (intersects k.0 q)

      all_moved : flat_map (entries_offers (move_hat φ s) (φ q) source) (map (move_entry φ) s.entries) ≡ map (move_offer φ) (flat_map (entries_offers s q source) s.entries)
      all_moved = flat_map-map (move_entry φ) (move_offer φ) (entries_offers (move_hat φ s) (φ q) source) (entries_offers s q source) key_moved s.entries

    offers_by : (s : HatState) (q : List ℕ) (o : Option ℕ) → option_map_or (λ source. flat_map (entries_offers (move_hat φ s) (φ q) source) (map (move_entry φ) s.entries)) o [] ≡ map (move_offer φ) (option_map_or (λ source. flat_map (entries_offers s q source) s.entries) o [])
    offers_by s q None = refl
    offers_by s q (Some source) = all_moved s q source

    pub router_offers_moved : (s : HatState) (src : Region) (q : List ℕ) (node : Option ℕ) → router_offers (move_hat φ s) src (φ q) node ≡ map (move_offer φ) (router_offers s src q node)
    router_offers_moved s src q node = offers_by s q (source_for s src node)
