-- Every offer of a hat is of one of its faces, and of its region.
use Rattle.std.proofs.Common.{◌≡◌, ap, refl, subst, ℕ, zero, suc, Bool, true, false, cond, List, [], ◌∷◌, ◌++◌, Some, None, Option, fold, take, drop}
use Rattle.std.specs.Prelude.{◌-◌, ◌&&◌, find, not, length}
use Rattle.std.specs.Option.{is_some, option_and_then, option_map, option_map_or, option_to_list}
use Rattle.std.specs.declared.cmp.Ordering.{Ordering}
use Rattle.std.specs.Ordering.{nat_cmp, is_lt}
use Rattle.std.specs.Cmp.{nat_cmp_total}
use Rattle.std.specs.List.{All, AllByRecursion, flat_map, suffix_len}
use Rattle.std.specs.BTreeMap.{is_at}
use Rattle.std.proofs.lemmas.List.Elements.{All-nil, All-cons}
use Rattle.std.proofs.lemmas.Map.Lookups.{exact_unsigned}
use Rattle.zq_key.specs.Key.{includes, intersects}
use Rattle.zq_message.specs.declared.message.QueryableInfoType.{QueryableInfoType}
use Rattle.zq_message.specs.declared.message.Region.{Region}
use Rattle.zq_message.specs.declared.message.Zid.{Zid}
use Rattle.zq_strategy.specs.Entries.{Entries, Routed}
use Rattle.zq_strategy.specs.Nets.{towards}
use Rattle.zq_strategy.specs.declared.offer.QueryTargetQabl.{QueryTargetQabl}
use Rattle.zq_strategy.specs.declared.types.Strategy.{Strategy}
use Rattle.zq_strategy.specs.declared.types.Strategy.TheVariants as strategy
use Rattle.zq_strategy.specs.Kept.{at_id, has_face, info, declared_keys}
use Rattle.zq_strategy.specs.OfferOrder.{offer_cmp, offer_of, place, sorted}
use Rattle.zq_strategy.specs.Offers.{offer_list, offers_on, offers_for, declared_offers, bare_offer, bare_on, bare_offers, may_have, offers_by, offers_of}
use Rattle.zq_strategy.specs.Routers.{entries_offers, face_with, has_zid, source_for}
use Rattle.zq_strategy.specs.Routed.{entry_offer, routed_offers, router_offer}
use Rattle.zq_strategy.specs.Regions.{is_north, same_region, strategy_at}
use Rattle.zq_strategy.specs.State.{FaceState, HatState}
use Rattle.zq_key.proofs.Lookups.{at_itself}

all_from : {X : Type 0} (P : X → Type 0) (xs : List X) → AllByRecursion P xs → All P xs
all_from P [] all = All-nil P
all_from P (x ∷ xs) all = All-cons P x xs all.0 (all_from P xs all.1)

module _ {X : Type 0} (P : X → Type 0) where
  all_joined : (xs ys : List X) → AllByRecursion P xs → AllByRecursion P ys → AllByRecursion P (xs ++ ys)
  all_joined [] ys all more = more
  all_joined (x ∷ xs) ys all more = (all.0, all_joined xs ys all.1 more)

  all_inserted : (xs : List X) (i : ℕ) (x : X) → AllByRecursion P xs → P x → AllByRecursion P (take i xs ++ x ∷ drop i xs)
  all_inserted [] i x all p = by i
    where
      by : (i : ℕ) → AllByRecursion P (take i [] ++ x ∷ drop i [])
      by zero = (p, tt)
      by (suc i) = (p, tt)
  all_inserted (y ∷ ys) zero x all p = (p, all)
  all_inserted (y ∷ ys) (suc i) x all p = (all.0, all_inserted ys i x all.1 p)

  module _ (cmp : X → X → Ordering) where
    sorted_from : (done xs : List X) → AllByRecursion P done → AllByRecursion P xs → AllByRecursion P (fold (place cmp) done xs)
    sorted_from done [] all more = all
    sorted_from done (x ∷ xs) all more = sorted_from (place cmp done x) xs (all_inserted done (length done - suffix_len (λ y. is_lt (cmp x y)) done) x all more.0) more.1

    all_sorted : (xs : List X) → AllByRecursion P xs → AllByRecursion P (sorted cmp xs)
    all_sorted xs all = sorted_from [] xs tt all

module _ (P : QueryTargetQabl → Type 0) (region : Region) (q : List ℕ) where
  one_offer : (key : List ℕ) (f : ℕ × FaceState) (m : Option QueryableInfoType) → ((k : List ℕ) (i : QueryableInfoType) → P (offer_of region q k f.0 i)) → AllByRecursion P (offer_list region q key f.0 m)
  one_offer key f None has = tt
  one_offer key f (Some i) has = (has key i, tt)

  face_offers : (key : List ℕ) (fs : List (ℕ × FaceState)) → AllByRecursion (λ f. (k : List ℕ) (i : QueryableInfoType) → P (offer_of region q k f.0 i)) fs → AllByRecursion P (flat_map (offers_on region q key) fs)
  face_offers key [] all = tt
  face_offers key (f ∷ fs) all = all_joined P (offers_on region q key f) (flat_map (offers_on region q key) fs) (one_offer key f (info key f.1) all.0) (face_offers key fs all.1)

  key_offers : (fs : List (ℕ × FaceState)) (key : List ℕ) (b : Bool) → AllByRecursion (λ f. (k : List ℕ) (i : QueryableInfoType) → P (offer_of region q k f.0 i)) fs → AllByRecursion P (cond b (flat_map (offers_on region q key) fs) [])
  key_offers fs key true all = face_offers key fs all
  key_offers fs key false all = tt

  declared_all : (fs : List (ℕ × FaceState)) (ks : List (List ℕ)) → AllByRecursion (λ f. (k : List ℕ) (i : QueryableInfoType) → P (offer_of region q k f.0 i)) fs → AllByRecursion P (flat_map (offers_for region fs q) ks)
  declared_all fs [] all = tt
  declared_all fs (k ∷ ks) all = all_joined P (offers_for region fs q k) (flat_map (offers_for region fs q) ks) (key_offers fs k (intersects k q) all) (declared_all fs ks all)

  one_bare : (f : ℕ × FaceState) (b : Bool) → P (bare_offer region q f.0) → AllByRecursion P (cond b (bare_offer region q f.0 ∷ []) [])
  one_bare f true has = (has, tt)
  one_bare f false has = tt

  bare_all : (s : Strategy) (fs : List (ℕ × FaceState)) → AllByRecursion (λ f. P (bare_offer region q f.0)) fs → AllByRecursion P (flat_map (bare_on s region q) fs)
  bare_all s [] all = tt
  bare_all s (f ∷ fs) all = all_joined P (bare_on s region q f) (flat_map (bare_on s region q) fs) (one_bare f (may_have s q f.1) all.0) (bare_all s fs all.1)

  some_bare : (s : Strategy) (fs : List (ℕ × FaceState)) (b : Bool) → AllByRecursion (λ f. P (bare_offer region q f.0)) fs → AllByRecursion P (cond b (flat_map (bare_on s region q) fs) [])
  some_bare s fs true all = bare_all s fs all
  some_bare s fs false all = tt

  module _ (fs : List (ℕ × FaceState)) (all : AllByRecursion (λ f. (k : List ℕ) (i : QueryableInfoType) → P (offer_of region q k f.0 i)) fs) (bare : AllByRecursion (λ f. P (bare_offer region q f.0)) fs) where
    beside_all : (s : Strategy) (src : Region) (b : Bool) → AllByRecursion P (cond b [] (declared_offers region fs q ++ bare_offers s region src fs q))
    beside_all s src true = tt
    beside_all s src false = all_joined P (declared_offers region fs q) (bare_offers s region src fs q) (declared_all fs (declared_keys fs) all) (some_bare s fs (is_north region && not (is_north src)) bare)

-- what routers offer is by open faces
found_by : (n : ℕ) (f : ℕ × FaceState) (fs : List (ℕ × FaceState)) (b : Bool) → is_some (at_id n fs) ≡ true → is_some (cond b (Some f.1) (at_id n fs)) ≡ true
found_by n f fs true e = refl
found_by n f fs false e = e

found_itself : (f : ℕ × FaceState) (fs : List (ℕ × FaceState)) → is_some (at_id f.0 (f ∷ fs)) ≡ true
found_itself f fs = ap (λ b. is_some (cond b (Some f.1) (at_id f.0 fs))) (at_itself nat_cmp_total exact_unsigned f.0)

seated_found : (zid : Zid) (n : ℕ) (fs : List (ℕ × FaceState)) → face_with zid fs ≡ Some n → is_some (at_id n fs) ≡ true
seated_found zid n [] e = absurd (let gap : None ≡ Some n = e in cc)
seated_found zid n (f ∷ fs) e = by (λ later. seated_found zid n fs later) (has_zid zid f) e
  where
    by : (face_with zid fs ≡ Some n → is_some (at_id n fs) ≡ true) → (b : Bool) → option_map (λ (x : ℕ × FaceState). x.0) (cond b (Some f) (find (has_zid zid) fs)) ≡ Some n → is_some (at_id n (f ∷ fs)) ≡ true
    by ih true same = subst (λ (m : ℕ). is_some (at_id m (f ∷ fs)) ≡ true) (let here : Some f.0 ≡ Some n = same in cc) (found_itself f fs)
    by ih false same = found_by n f fs (is_at (nat_cmp n) f.0) (ih same)

module _ (P : QueryTargetQabl → Type 0) (s : HatState) (q : List ℕ) (has : (included : Bool) (key : List ℕ) (source : ℕ) (i : QueryableInfoType) (n far : ℕ) → is_some (at_id n s.faces) ≡ true → P (router_offer s.region included key source i (n, far))) where
  abbrev face : Zid → Option ℕ
  face zid = face_with zid s.faces

  seat_all : (included : Bool) (key : List ℕ) (source : ℕ) (i : QueryableInfoType) (zid : Zid) (far : ℕ) (o : Option ℕ) → face zid ≡ o
      → AllByRecursion P (option_to_list (option_map (router_offer s.region included key source i) (option_and_then (λ (n : ℕ). Some (n, far)) o)))
  seat_all included key source i zid far None e = tt
  seat_all included key source i zid far (Some n) e = (has included key source i n far (seated_found zid n s.faces e), tt)

  way_all : (included : Bool) (key : List ℕ) (source : ℕ) (i : QueryableInfoType) (o : Option (Zid × ℕ))
      → AllByRecursion P (option_to_list (option_map (router_offer s.region included key source i) (option_and_then (λ (step : Zid × ℕ). option_and_then (λ (n : ℕ). Some (n, step.1)) (face step.0)) o)))
  way_all included key source i None = tt
  way_all included key source i (Some step) = seat_all included key source i step.0 step.1 (face step.0) refl

  entries_all : (source : ℕ) (included : Bool) (key : List ℕ) (es : Routed) → AllByRecursion P (flat_map (entry_offer s.network face s.region source included key) es)
  entries_all source included key [] = tt
  entries_all source included key (e ∷ es) =
      all_joined P (entry_offer s.network face s.region source included key e) (flat_map (entry_offer s.network face s.region source included key) es)
      (way_all included key source e.1 (towards s.network source (record { 0 = e.0 }))) (entries_all source included key es)

  met_all : (source : ℕ) (k : List ℕ × Routed) (b : Bool) → AllByRecursion P (cond b (routed_offers s.network face s.region source q k) [])
  met_all source k true = entries_all source (includes k.0 q) k.0 k.1
  met_all source k false = tt

  routed_all : (source : ℕ) (ks : Entries) → AllByRecursion P (flat_map (entries_offers s q source) ks)
  routed_all source [] = tt
  routed_all source (k ∷ ks) = all_joined P (entries_offers s q source k) (flat_map (entries_offers s q source) ks) (met_all source k (intersects k.0 q)) (routed_all source ks)

  sourced_all : (o : Option ℕ) → AllByRecursion P (option_map_or (λ source. flat_map (entries_offers s q source) s.entries) o [])
  sourced_all None = tt
  sourced_all (Some source) = routed_all source s.entries

module _ (P : QueryTargetQabl → Type 0) (s : HatState) (src : Region) (q : List ℕ) (node : Option ℕ) (has : (included : Bool) (key : List ℕ) (source : ℕ) (i : QueryableInfoType) (n far : ℕ) → is_some (at_id n s.faces) ≡ true → P (router_offer s.region included key source i (n, far))) where
  strategy_all : (k : Strategy) → AllByRecursion (λ f. (i : List ℕ) (m : QueryableInfoType) → P (offer_of s.region q i f.0 m)) s.faces → AllByRecursion (λ f. P (bare_offer s.region q f.0)) s.faces → AllByRecursion P (offers_by k s src q node)
  strategy_all strategy.Broker all bare = declared_all P s.region q s.faces (declared_keys s.faces) all
  strategy_all strategy.Client all bare = beside_all P s.region q s.faces all bare strategy.Client src (same_region src s.region)
  strategy_all strategy.Peer all bare = beside_all P s.region q s.faces all bare strategy.Peer src (same_region src s.region)
  strategy_all strategy.Router all bare = sourced_all P s q has (source_for s src node)

-- each face of a list is found there
more_found : (f : ℕ × FaceState) (fs gs : List (ℕ × FaceState)) → AllByRecursion (λ g. is_some (at_id g.0 fs) ≡ true) gs → AllByRecursion (λ g. is_some (at_id g.0 (f ∷ fs)) ≡ true) gs
more_found f fs [] all = tt
more_found f fs (g ∷ gs) all = (found_by g.0 f fs (is_at (nat_cmp g.0) f.0) all.0, more_found f fs gs all.1)

all_found : (fs : List (ℕ × FaceState)) → AllByRecursion (λ g. is_some (at_id g.0 fs) ≡ true) fs
all_found [] = tt
all_found (f ∷ fs) = (found_itself f fs, more_found f fs fs (all_found fs))

each_has : (all fs : List (ℕ × FaceState)) (region : Region) (q : List ℕ) → AllByRecursion (λ g. is_some (at_id g.0 all) ≡ true) fs → AllByRecursion (λ f. (k : List ℕ) (i : QueryableInfoType) → is_some (at_id (offer_of region q k f.0 i).face.0 all) ≡ true) fs
each_has all [] region q found = tt
each_has all (f ∷ fs) region q found = ((λ k i. found.0), each_has all fs region q found.1)

each_bare : (all fs : List (ℕ × FaceState)) (region : Region) (q : List ℕ) → AllByRecursion (λ g. is_some (at_id g.0 all) ≡ true) fs → AllByRecursion (λ f. is_some (at_id (bare_offer region q f.0).face.0 all) ≡ true) fs
each_bare all [] region q found = tt
each_bare all (f ∷ fs) region q found = (found.0, each_bare all fs region q found.1)

bare_region : (fs : List (ℕ × FaceState)) (region : Region) (q : List ℕ) → AllByRecursion (λ f. (bare_offer region q f.0).region ≡ region) fs
bare_region [] region q = tt
bare_region (f ∷ fs) region q = (refl, bare_region fs region q)

each_region : (fs : List (ℕ × FaceState)) (region : Region) (q : List ℕ) → AllByRecursion (λ f. (k : List ℕ) (i : QueryableInfoType) → (offer_of region q k f.0 i).region ≡ region) fs
each_region [] region q = tt
each_region (f ∷ fs) region q = ((λ k i. refl), each_region fs region q)

pub offers_of_faces : (s : HatState) (src : Region) (q : List ℕ) (node : Option ℕ) → All (λ o. has_face o.face.0 s ≡ true) (offers_of s src q node)
offers_of_faces s src q node =
    all_from (λ o. has_face o.face.0 s ≡ true) (offers_of s src q node)
    (all_sorted (λ o. has_face o.face.0 s ≡ true) offer_cmp (offers_by (strategy_at s) s src q node)
    (strategy_all (λ o. has_face o.face.0 s ≡ true) s src q node (λ included key source i n far found. found) (strategy_at s) (each_has s.faces s.faces s.region q (all_found s.faces)) (each_bare s.faces s.faces s.region q (all_found s.faces))))

pub offers_of_region : (s : HatState) (src : Region) (q : List ℕ) (node : Option ℕ) → All (λ o. o.region ≡ s.region) (offers_of s src q node)
offers_of_region s src q node =
    all_from (λ o. o.region ≡ s.region) (offers_of s src q node)
    (all_sorted (λ o. o.region ≡ s.region) offer_cmp (offers_by (strategy_at s) s src q node)
    (strategy_all (λ o. o.region ≡ s.region) s src q node (λ included key source i n far found. refl) (strategy_at s) (each_region s.faces s.region q) (bare_region s.faces s.region q)))
