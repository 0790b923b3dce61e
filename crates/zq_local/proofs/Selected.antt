-- What is selected for a request of the asker: the storages that its target picks.
use Rattle.std.proofs.Common.{◌≡◌, ◌∙◌, refl, sym, ap, ℕ, ◌+◌, ◌<◌, Bool, true, false, cond, not, List, [], ◌∷◌, ◌++◌, map, append-nil, Option, Some, None, arith}
use Rattle.std.specs.Prelude.{◌==◌, ◌&&◌, find}
use Rattle.std.specs.List.{AllByRecursion, filter, flat_map}
use Rattle.std.specs.Map.{values_of}
use Rattle.std.specs.Option.{option_map_or}
use Rattle.std.proofs.lemmas.Cmp.{nat_cmp_total}
use Rattle.std.proofs.lemmas.Map.Lookups.{exact_unsigned}
use Rattle.zq_key.specs.Key.{is_key}
use Rattle.zq_key.proofs.Lookups.{at_itself}
use Rattle.zq_message.specs.declared.message.QueryTarget.{QueryTarget}
use Rattle.zq_message.specs.declared.message.QueryTarget.TheVariants as target
use Rattle.zq_message.specs.declared.message.Region.{Region}
use Rattle.zq_message.specs.declared.message.Request.{Request}
use Rattle.zq_strategy.specs.declared.offer.QueryTargetQabl.{QueryTargetQabl}
use Rattle.zq_strategy.specs.declared.types.Strategy.{Strategy}
use Rattle.zq_strategy.specs.declared.types.Strategy.TheVariants as strategy
use Rattle.zq_strategy.specs.OfferOrder.{offer_cmp, sorted}
use Rattle.zq_strategy.specs.Offers.{bare_on, declared_offers, offers_beside, offers_by}
use Rattle.zq_strategy.specs.Regions.{is_north, same_region, strategy_at}
use Rattle.zq_strategy.specs.Routers.{entries_offers, source_for}
use Rattle.zq_strategy.specs.State.{FaceState, HatState}
use Rattle.zq_route.specs.Selection.{best_overall, chosen, with_offers}
use Rattle.zq_route.specs.Selection as selection
use Rattle.zq_route.specs.declared.selection.Best.{Best}
use Rattle.zq_route.specs.declared.selection.Best.TheVariants as choice
use Rattle.zq_tables.specs.declared.resolved.Resolved.TheVariants as said
use Rattle.zq_machine.specs.Deciding.{opened}
use Rattle.zq_machine.specs.Selecting.{AskerState, asker_in, part_for, parts_for, passes, route_for, select, select_for}
use Rattle.zq_machine.specs.State.{Core, at}
use Rattle.zq_machine.specs.declared.face.OpenFace.{OpenFace}
use Rattle.zq_machine.proofs.Lists.{all_filter, all_weaker}
use Rattle.zq_local.specs.Picking.{Seat, by_key, has_all, is_on, keys_in, meets, picked, picks}
use Rattle.zq_local.specs.Seated.{AreHats, AreNumbered, IsBare, hat_faces, hat_with, local_opening, open_entry, open_faces}
use Rattle.zq_local.proofs.Lists.{Pairwise, all_back, all_flat, all_of, filter_whole, pairs_filter, pairs_back}
use Rattle.zq_local.proofs.Sorting.{Apart, values_whole}
use Rattle.zq_local.proofs.Picked.{above_all, met_ordered, not_same, offer, offers_sorted, picked_are, stand_apart}

-- ---- a region without faces and entries offers nothing
none_beside : (st : Strategy) (r src : Region) (q : List ℕ) (b c : Bool) → cond b [] (declared_offers r [] q ++ cond c (flat_map (bare_on st r q) []) []) ≡ []
none_beside st r src q true c = refl
none_beside st r src q false true = refl
none_beside st r src q false false = refl

offers_none : (st : Strategy) (h : HatState) → IsBare h → (src : Region) (q : List ℕ) (place : Option ℕ) → offers_by st h src q place ≡ []
offers_none strategy.Broker h bare src q place = ap (λ (l : List (ℕ × FaceState)). declared_offers h.region l q) bare.faces
offers_none strategy.Client h bare src q place =
    ap (λ (l : List (ℕ × FaceState)). offers_beside strategy.Client h.region src l q) bare.faces
    ∙ none_beside strategy.Client h.region src q (same_region src h.region) (is_north h.region && not (is_north src))
offers_none strategy.Peer h bare src q place =
    ap (λ (l : List (ℕ × FaceState)). offers_beside strategy.Peer h.region src l q) bare.faces
    ∙ none_beside strategy.Peer h.region src q (same_region src h.region) (is_north h.region && not (is_north src))
offers_none strategy.Router h bare src q place =
    ap (λ l. option_map_or (λ source. flat_map (entries_offers h q source) l) (source_for h src place) []) bare.entries ∙ by (source_for h src place)
  where
    by : (o : Option ℕ) → option_map_or (λ source. flat_map (entries_offers h q source) []) o [] ≡ []
    by None = refl
    by (Some source) = refl

none_chosen : (t : QueryTarget) → chosen t [] ≡ []
none_chosen target.All = refl
none_chosen target.AllComplete = refl
none_chosen target.BestMatching = refl

module _ (a : AskerState) (q : List ℕ) where
  bare_part : (h : HatState) → IsBare h → part_for a q h ≡ []
  bare_part h bare = ap (filter (passes a)) (ap (sorted offer_cmp) (offers_none (strategy_at h) h bare a.opened.region q _))

  module _ (f : List QueryTargetQabl → List QueryTargetQabl) (none : f [] ≡ []) (local : HatState) (after : List (ℕ × HatState)) where
    bare_parts : (P : ℕ → Type 0) (hats : List (ℕ × HatState)) → AllByRecursion (λ (e : ℕ × HatState). P e.0 × IsBare e.1) hats → flat_map f (parts_for a q (values_of hats)) ≡ []
    bare_parts P [] all = refl
    bare_parts P (e ∷ hats) all = ap (λ l. f l ++ flat_map f (parts_for a q (values_of hats))) (bare_part e.1 all.0.1) ∙ ap (λ l. l ++ flat_map f (parts_for a q (values_of hats))) none ∙ bare_parts P hats all.1

    from_parts : AllByRecursion (λ (e : ℕ × HatState). (1 < e.0) × IsBare e.1) after → (before : List (ℕ × HatState)) → AllByRecursion (λ (e : ℕ × HatState). (e.0 < 1) × IsBare e.1) before
        → flat_map f (parts_for a q (values_of (before ++ (1, local) ∷ after))) ≡ f (part_for a q local)
    from_parts rest [] all = ap (λ l. f (part_for a q local) ++ l) (bare_parts (λ n. 1 < n) after rest) ∙ append-nil (f (part_for a q local))
    from_parts rest (e ∷ before) all =
        ap (λ l. f l ++ flat_map f (parts_for a q (values_of (before ++ (1, local) ∷ after)))) (bare_part e.1 all.0.1)
        ∙ ap (λ l. l ++ flat_map f (parts_for a q (values_of (before ++ (1, local) ∷ after)))) none
        ∙ from_parts rest before all.1

  -- what is taken of each region is taken of Local alone
  part_alone : (f : List QueryTargetQabl → List QueryTargetQabl) → f [] ≡ [] → (hats : List (ℕ × HatState)) (local : HatState) → AreHats hats local → flat_map f (parts_for a q (values_of hats)) ≡ f (part_for a q local)
  part_alone f none hats local are = ap (λ l. flat_map f (parts_for a q (values_of l))) are.parts ∙ from_parts f none local are.after are.none_after are.before are.none_before

  -- what a target picks of all regions it picks of Local
  picked_alone : (b : Best) (t : QueryTarget) (hats : List (ℕ × HatState)) (local : HatState) → AreHats hats local → selection.picked b t (parts_for a q (values_of hats)) ≡ selection.picked b t (part_for a q local ∷ [])
  picked_alone choice.ByRegion t hats local are = part_alone (chosen t) (none_chosen t) hats local are ∙ sym (append-nil (chosen t (part_for a q local)))
  picked_alone choice.Overall target.All hats local are = part_alone (chosen target.All) refl hats local are ∙ sym (append-nil (part_for a q local))
  picked_alone choice.Overall target.AllComplete hats local are = part_alone (chosen target.AllComplete) refl hats local are ∙ sym (append-nil (chosen target.AllComplete (part_for a q local)))
  picked_alone choice.Overall target.BestMatching hats local are = ap best_overall (part_alone (λ part. part) refl hats local are ∙ sym (append-nil (part_for a q local)))

-- ---- those that are picked have what all have
pub all_by_key : (P : Seat → Type 0) (ss : List Seat) → AllByRecursion P ss → AllByRecursion P (by_key ss)
all_by_key P ss all = all_flat P (λ key. filter (is_on key) ss) (keys_in ss) (all_of (λ key. AllByRecursion P (filter (is_on key) ss)) (λ key. all_filter P (is_on key) ss all) (keys_in ss))

found_first : (P : Seat → Type 0) (p : Seat → Bool) (xs : List Seat) → AllByRecursion P xs → AllByRecursion P (option_map_or (λ s. s ∷ []) (find p xs) [])
found_first P p [] all = tt
found_first P p (s ∷ xs) all = by (p s) (found_first P p xs all.1)
  where
    by : (b : Bool) → AllByRecursion P (option_map_or (λ s. s ∷ []) (find p xs) []) → AllByRecursion P (option_map_or (λ s. s ∷ []) (cond b (Some s) (find p xs)) [])
    by true rest = (all.0, tt)
    by false rest = rest

first_or : (P : Seat → Type 0) (o : Option Seat) (xs : List Seat) → AllByRecursion P (option_map_or (λ s. s ∷ []) o []) → AllByRecursion P xs → AllByRecursion P (option_map_or (λ s. s ∷ []) o xs)
first_or P None xs some all = all
first_or P (Some s) xs some all = some

all_picks : (P : Seat → Type 0) (q : List ℕ) (t : QueryTarget) (xs : List Seat) → AllByRecursion P xs → AllByRecursion P (picks q t xs)
all_picks P q target.All xs all = all
all_picks P q target.AllComplete xs all = all_filter P (has_all q) xs all
all_picks P q target.BestMatching xs all = first_or P (find (has_all q) xs) xs (found_first P (has_all q) xs all) all

pub all_picked : (P : Seat → Type 0) (q : List ℕ) (t : QueryTarget) (ss : List Seat) → AllByRecursion P ss → AllByRecursion P (picked q t ss)
all_picked P q t ss all = all_picks P q t (filter (meets q) (by_key ss)) (all_filter P (meets q) (by_key ss) (all_by_key P ss all))

pairs_picks : (R : Seat → Seat → Type 0) (q : List ℕ) (t : QueryTarget) (xs : List Seat) → Pairwise R xs → Pairwise R (picks q t xs)
pairs_picks R q target.All xs p = p
pairs_picks R q target.AllComplete xs p = pairs_filter R (has_all q) xs p
pairs_picks R q target.BestMatching xs p = by (find (has_all q) xs)
  where
    by : (o : Option Seat) → Pairwise R (option_map_or (λ s. s ∷ []) o xs)
    by None = p
    by (Some s) = (tt, tt)

-- each that is picked has another face
abbrev pub AreApart : List Seat → Type 0
AreApart ss = Pairwise (λ (s t : Seat). (t.face.0 == s.face.0) ≡ false) ss

pub picked_apart : (n : ℕ) (q : List ℕ) (t : QueryTarget) (ss : List Seat) → AreNumbered n ss → AreApart (picked q t ss)
picked_apart n q t ss all =
    pairs_picks (λ s t. (t.face.0 == s.face.0) ≡ false) q t (filter (meets q) (by_key ss))
    (pairs_filter (λ s t. (t.face.0 == s.face.0) ≡ false) (meets q) (by_key ss) (stand_apart n ss all))

-- ---- what is selected
module _ (core : Core) (asker : ℕ) (ss : List Seat) (numbered : AreNumbered (asker + 1) ss) (faces : core.faces ≡ open_faces core.config.zid asker ss)
    (hats : AreHats core.hats (hat_with core.config (hat_faces core.config asker ss))) (q : List ℕ) (is : is_key q ≡ true) (r : Request) where
  abbrev mine : OpenFace
  mine = opened (local_opening core.config.zid)

  abbrev a : AskerState
  a = asker_in core (record { 0 = asker }) r.node mine

  others : AllByRecursion (λ (s : Seat). (s.face.0 == asker) ≡ false) ss
  others = all_weaker (λ (s : Seat). asker < s.face.0) (λ (s : Seat). (s.face.0 == asker) ≡ false) (λ s less. not_same asker s.face.0 less) ss (above_all asker (asker + 1) (omega arith) ss numbered)

  abbrev met : List Seat
  met = filter (meets q) (by_key ss)

  all_pass : AllByRecursion (λ (o : QueryTargetQabl). passes a o ≡ true) (map (offer q) met)
  all_pass =
      all_back (λ (o : QueryTargetQabl). passes a o ≡ true) (offer q) met
      (all_weaker (λ (s : Seat). (s.face.0 == asker) ≡ false) (λ s. passes a (offer q s) ≡ true) (λ s other. ap (λ b. not b && true) other) met
      (all_filter (λ (s : Seat). (s.face.0 == asker) ≡ false) (meets q) (by_key ss) (all_by_key (λ (s : Seat). (s.face.0 == asker) ≡ false) ss others)))

  apart : Pairwise Apart (map (offer q) (picked q r.target ss))
  apart = pairs_back Apart (offer q) (picked q r.target ss) (picked_apart (asker + 1) q r.target ss numbered)

  local_part : part_for a q (hat_with core.config (hat_faces core.config asker ss)) ≡ map (offer q) met
  local_part =
      ap (filter (passes a)) (offers_sorted core.config asker (asker + 1) q ss numbered)
      ∙ filter_whole (passes a) (map (offer q) met) all_pass

  route : values_of (route_for core a q r.target) ≡ map (offer q) (picked q r.target ss)
  route =
      ap (λ os. values_of (with_offers [] os))
      (picked_alone a q core.config.best r.target core.hats (hat_with core.config (hat_faces core.config asker ss)) hats
      ∙ ap (λ os. selection.picked core.config.best r.target (os ∷ [])) local_part
      ∙ picked_are q core.config.best r.target met (met_ordered (asker + 1) q ss numbered))
      ∙ values_whole (map (offer q) (picked q r.target ss)) apart

  found : at asker core.faces ≡ Some mine
  found = ap (at asker) faces ∙ ap (λ b. cond b (Some mine) (at asker (map (open_entry core.config.zid) ss))) (at_itself nat_cmp_total exact_unsigned asker)

  pub selected : select core (record { 0 = asker }) (said.Full q) r ≡ map (offer q) (picked q r.target ss)
  selected =
      ap (select_for core (record { 0 = asker }) (said.Full q) r) found
      ∙ ap (λ b. cond b (values_of (route_for core a q r.target)) []) is
      ∙ route
