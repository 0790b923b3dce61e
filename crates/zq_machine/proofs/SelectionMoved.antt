-- The offers that a request is handed to move with the texts of the hats and of the request.
use Rattle.std.proofs.Common.{◌≡◌, ◌∙◌, sym, refl, ap, ℕ, Bool, true, false, cond, List, [], ◌∷◌, ◌++◌, map, fold, Option, Some, None}
use Rattle.std.specs.Prelude.{find}
use Rattle.std.specs.List.{filter, flat_map}
use Rattle.std.specs.Map.{values_of}
use Rattle.std.specs.Option.{option_and_then, option_map, option_map_or}
use Rattle.std.specs.Ordering.{is_lt, nat_cmp, ordering_then}
use Rattle.std.proofs.lemmas.List.{map-append}
use Rattle.zq_key.proofs.Naturals.{map-map, any-map, find-map, filter-map, flat_map-map, fold-moved}
use Rattle.zq_key.specs.Key.{is_key}
use Rattle.zq_message.specs.declared.message.FaceId.{FaceId}
use Rattle.zq_message.specs.declared.message.QueryTarget.{QueryTarget}
use Rattle.zq_message.specs.declared.message.QueryTarget.TheVariants as target
use Rattle.zq_message.specs.declared.message.Request.{Request}
use Rattle.zq_strategy.specs.declared.offer.QueryTargetQabl.{QueryTargetQabl}
use Rattle.zq_strategy.specs.OfferOrder.{distance, offer_cmp}
use Rattle.zq_strategy.specs.State.{HatState}
use Rattle.zq_strategy.specs.Routers.{context_at, source_at}
use Rattle.zq_strategy.specs.Moved.{Keeps, move_hat, move_offer}
use Rattle.zq_strategy.proofs.OffersMoved.{offers_moved}
use Rattle.zq_tables.specs.declared.resolved.Resolved.{Resolved}
use Rattle.zq_tables.specs.declared.resolved.Resolved.TheVariants as said
use Rattle.zq_route.specs.Built.{is_face, has_face, with_first}
use Rattle.zq_route.specs.declared.selection.Best.{Best}
use Rattle.zq_route.specs.declared.selection.Best.TheVariants as choice
use Rattle.zq_route.specs.Selection.{best_overall, by_face, chosen, is_complete, joined, may_be_complete, nearer, nearest, picked, with_offers}
use Rattle.zq_machine.specs.declared.face.OpenFace.{OpenFace}
use Rattle.zq_machine.specs.State.{Core, at, hat_of}
use Rattle.zq_machine.specs.Selecting.{AskerState, asker_in, offers_to, part_for, parts_for, passes, route_for, select_for, select, target_of}
use Rattle.zq_machine.specs.Deciding.{targets}
use Rattle.zq_machine.specs.Moved.{move_said, move_core}
use Rattle.zq_machine.proofs.EntriesMoved.{values-map}
use Rattle.zq_machine.proofs.HatsMoved.{own_found}
use Rattle.zq_machine.proofs.RoutersMoved.{place_moved, router_moved}

module _ (φ : List ℕ → List ℕ) where
  -- an offer of a route, beside its face
  abbrev routed : ℕ × QueryTargetQabl → ℕ × QueryTargetQabl
  routed p = (p.0, move_offer φ p.1)

  first_by : (route : List (ℕ × QueryTargetQabl)) (p : ℕ × QueryTargetQabl) (b : Bool) → cond b (map routed route) (map routed route ++ routed p ∷ []) ≡ map routed (cond b route (route ++ p ∷ []))
  first_by route p true = refl
  first_by route p false = sym (map-append routed route (p ∷ []))

  first_moved : (route : List (ℕ × QueryTargetQabl)) (p : ℕ × QueryTargetQabl) → with_first (map routed route) (routed p) ≡ map routed (with_first route p)
  first_moved route p =
      ap (λ b. cond b (map routed route) (map routed route ++ routed p ∷ [])) (any-map routed (is_face p.0) (is_face p.0) (λ _. refl) route)
      ∙ first_by route p (has_face p.0 route)

  faces_moved : (os : List QueryTargetQabl) → map by_face (map (move_offer φ) os) ≡ map routed (map by_face os)
  faces_moved os = map-map (move_offer φ) by_face (λ o. routed (by_face o)) (λ _. refl) os ∙ sym (map-map by_face routed (λ o. routed (by_face o)) (λ _. refl) os)

  added_moved : (route : List (ℕ × QueryTargetQabl)) (os : List QueryTargetQabl) → with_offers (map routed route) (map (move_offer φ) os) ≡ map routed (with_offers route os)
  added_moved route os = ap (fold with_first (map routed route)) (faces_moved os) ∙ fold-moved routed (map routed) with_first with_first first_moved route (map by_face os)

  best_by : (os : List QueryTargetQabl) (o : Option QueryTargetQabl) → option_map_or (λ x. x ∷ []) (option_map (move_offer φ) o) (map (move_offer φ) os) ≡ map (move_offer φ) (option_map_or (λ x. x ∷ []) o os)
  best_by os None = refl
  best_by os (Some o) = refl

  chosen_moved : (t : QueryTarget) (os : List QueryTargetQabl) → chosen t (map (move_offer φ) os) ≡ map (move_offer φ) (chosen t os)
  chosen_moved target.All os = refl
  chosen_moved target.AllComplete os = filter-map (move_offer φ) may_be_complete may_be_complete (λ _. refl) os
  chosen_moved target.BestMatching os =
      ap (λ o. option_map_or (λ x. x ∷ []) o (map (move_offer φ) os)) (find-map (move_offer φ) is_complete is_complete (λ _. refl) os)
      ∙ best_by os (find is_complete os)

  -- ---- what is picked of all regions
  module _ (keeps : Keeps φ) where
    nearer_moved : (m : Option QueryTargetQabl) (o : QueryTargetQabl) → nearer (option_map (move_offer φ) m) (move_offer φ o) ≡ option_map (move_offer φ) (nearer m o)
    nearer_moved None o = refl
    nearer_moved (Some m) o =
        ap (λ r. Some (cond (is_lt (ordering_then (nat_cmp (distance o) (distance m)) (ordering_then r (nat_cmp o.face.0 m.face.0)))) (move_offer φ o) (move_offer φ m))) (keeps.order o.key m.key)
        ∙ by (is_lt (offer_cmp o m))
      where
        by : (b : Bool) → Some (cond b (move_offer φ o) (move_offer φ m)) ≡ Some (move_offer φ (cond b o m))
        by true = refl
        by false = refl

    nearest_moved : (os : List QueryTargetQabl) → nearest (filter is_complete (map (move_offer φ) os)) ≡ option_map (move_offer φ) (nearest (filter is_complete os))
    nearest_moved os =
        ap nearest (filter-map (move_offer φ) is_complete is_complete (λ _. refl) os)
        ∙ fold-moved (move_offer φ) (option_map (move_offer φ)) nearer nearer nearer_moved None (filter is_complete os)

    overall_moved : (os : List QueryTargetQabl) → best_overall (map (move_offer φ) os) ≡ map (move_offer φ) (best_overall os)
    overall_moved os =
        ap (λ o. option_map_or (λ x. x ∷ []) o (map (move_offer φ) os)) (nearest_moved os)
        ∙ best_by os (nearest (filter is_complete os))

    each_moved : (t : QueryTarget) (parts : List (List QueryTargetQabl)) → flat_map (chosen t) (map (map (move_offer φ)) parts) ≡ map (move_offer φ) (flat_map (chosen t) parts)
    each_moved t parts = flat_map-map (map (move_offer φ)) (move_offer φ) (chosen t) (chosen t) (chosen_moved t) parts

    picked_moved : (b : Best) (t : QueryTarget) (parts : List (List QueryTargetQabl)) → picked b t (map (map (move_offer φ)) parts) ≡ map (move_offer φ) (picked b t parts)
    picked_moved choice.Overall target.BestMatching parts =
        ap best_overall (flat_map-map (map (move_offer φ)) (move_offer φ) (λ part. part) (λ part. part) (λ _. refl) parts)
        ∙ overall_moved (joined parts)
    picked_moved choice.Overall target.All parts = each_moved target.All parts
    picked_moved choice.Overall target.AllComplete parts = each_moved target.AllComplete parts
    picked_moved choice.ByRegion t parts = each_moved t parts

  module _ (keeps : Keeps φ) (c : Core) (asker : FaceId) (r : Request) where
    module _ (opened : OpenFace) (key : List ℕ) where
      abbrev who : AskerState
      who = asker_in c asker r.node opened

      -- the asker is the same with the texts moved
      same_asker : asker_in (move_core φ c) asker r.node opened ≡ who
      same_asker = λ j. record who {
        source = (ap (option_and_then (source_at asker.0 r.node)) (own_found φ c asker.0) ∙ router_moved φ asker.0 r.node (hat_of asker.0 c)) j;
        context = (ap (option_and_then (context_at asker.0 r.node)) (own_found φ c asker.0) ∙ place_moved φ asker.0 r.node (hat_of asker.0 c)) j;
      }

      part_moved : (h : HatState) → part_for who (φ key) (move_hat φ h) ≡ map (move_offer φ) (part_for who key h)
      part_moved h =
          ap (filter (passes who)) (offers_moved φ keeps h opened.region key _)
          ∙ filter-map (move_offer φ) (passes who) (passes who) (λ _. refl) (offers_to who key h)

      parts_moved : (hats : List HatState) → parts_for who (φ key) (map (move_hat φ) hats) ≡ map (map (move_offer φ)) (parts_for who key hats)
      parts_moved hats =
          map-map (move_hat φ) (part_for who (φ key)) (λ h. map (move_offer φ) (part_for who key h)) part_moved hats
          ∙ sym (map-map (part_for who key) (map (move_offer φ)) (λ h. map (move_offer φ) (part_for who key h)) (λ _. refl) hats)

      route_moved : route_for (move_core φ c) (asker_in (move_core φ c) asker r.node opened) (φ key) r.target ≡ map routed (route_for c who key r.target)
      route_moved =
          ap (λ a. route_for (move_core φ c) a (φ key) r.target) same_asker
          ∙ ap (λ hats. with_offers [] (picked c.config.best r.target (parts_for who (φ key) hats))) (values-map (move_hat φ) c.hats)
          ∙ ap (λ parts. with_offers [] (picked c.config.best r.target parts)) (parts_moved (values_of c.hats))
          ∙ ap (with_offers []) (picked_moved keeps c.config.best r.target (parts_for who key (values_of c.hats)))
          ∙ added_moved [] (picked c.config.best r.target (parts_for who key (values_of c.hats)))

      offers_by : (b : Bool) → cond b (values_of (route_for (move_core φ c) (asker_in (move_core φ c) asker r.node opened) (φ key) r.target)) [] ≡ map (move_offer φ) (cond b (values_of (route_for c who key r.target)) [])
      offers_by true = ap values_of route_moved ∙ values-map (move_offer φ) (route_for c who key r.target)
      offers_by false = refl

    selected : (s : Resolved) (o : Option OpenFace) → select_for (move_core φ c) asker (move_said φ s) r o ≡ map (move_offer φ) (select_for c asker s r o)
    selected s None = refl
    selected said.Unscoped (Some opened) = refl
    selected said.Empty (Some opened) = refl
    selected (said.Full text) (Some opened) =
        ap (λ b. cond b (values_of (route_for (move_core φ c) (asker_in (move_core φ c) asker r.node opened) (φ text) r.target)) []) (keeps.key text) ∙ offers_by opened text (is_key text)

    pub select_moved : (s : Resolved) → select (move_core φ c) asker (move_said φ s) r ≡ map (move_offer φ) (select c asker s r)
    select_moved s = selected s (at asker.0 c.faces)

  pub targets_moved : (keeps : Keeps φ) (c : Core) (asker : FaceId) (s : Resolved) (r : Request) → targets (move_core φ c) asker (move_said φ s) r ≡ targets c asker s r
  targets_moved keeps c asker s r = ap (map target_of) (select_moved keeps c asker r s) ∙ map-map (move_offer φ) target_of target_of (λ _. refl) (select c asker s r)
