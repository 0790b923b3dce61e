-- What a region of storages offers for a request, in order.
use Rattle.std.proofs.Common.{◌≡◌, ◌∙◌, refl, sym, ap, subst, ℕ, ◌+◌, ◌<◌, Bool, true, false, cond, List, [], ◌∷◌, ◌++◌, map, Option, Some, None, eqb-true, eq-eqb, append-nil, arith}
use Rattle.std.specs.Prelude.{◌==◌, find, fold}
use Rattle.std.specs.BTreeSet.{insert_key}
use Rattle.std.specs.Cmp.{nat_cmp_is}
use Rattle.std.specs.List.{AllByRecursion, filter, flat_map}
use Rattle.std.specs.List.Sorted.{IsStrictlySortedBy}
use Rattle.std.specs.Option.{option_map, option_map_or}
use Rattle.std.specs.Ordering.{is_lt, nat_cmp, ordering_reverse, ordering_then}
use Rattle.std.specs.Str.{bytes_eq}
use Rattle.std.specs.declared.cmp.Ordering.{Ordering}
use Rattle.std.specs.declared.cmp.Ordering.TheVariants.{Less, Equal, Greater}
use Rattle.std.proofs.lemmas.List.Elements.{filter-append}
use Rattle.std.proofs.lemmas.List.{map-append}
use Rattle.std.proofs.lemmas.Map.Keys.{sorted_head, sorted_tail}
use Rattle.std.proofs.lemmas.Slice.Eq.{bytes_eq-Decides}
use Rattle.zq_key.specs.Key.{intersects}
use Rattle.zq_key.proofs.Sorted.{sorted_put}
use Rattle.zq_index.specs.Texts.{text_cmp}
use Rattle.zq_index.proofs.Orders.{text_total}
use Rattle.zq_message.specs.declared.message.QueryTarget.{QueryTarget}
use Rattle.zq_message.specs.declared.message.QueryTarget.TheVariants as target
use Rattle.zq_message.specs.declared.message.Region.TheVariants as region
use Rattle.zq_strategy.specs.declared.offer.QueryTargetQabl.{QueryTargetQabl}
use Rattle.zq_strategy.specs.Kept.{declared_keys, with_keys}
use Rattle.zq_strategy.specs.OfferOrder.{offer_cmp, offer_of, sorted}
use Rattle.zq_strategy.specs.Offers.{declared_offers, offer_list, offers_for, offers_on}
use Rattle.zq_route.specs.Selection.{best, best_overall, chosen, is_complete, may_be_complete, nearer, nearest, picked}
use Rattle.zq_route.specs.declared.selection.Best.{Best}
use Rattle.zq_route.specs.declared.selection.Best.TheVariants as choice
use Rattle.zq_machine.specs.Configs.{Settings}
use Rattle.zq_machine.proofs.Lists.{all_append, all_filter, all_weaker}
use Rattle.zq_local.specs.Picking.{Seat, by_key, has_all, is_on, key_of, keys_in, meets, on_keys, picks}
use Rattle.zq_local.specs.Seated.{AreNumbered, hat_faces, seat_entry, seat_info}
use Rattle.zq_local.proofs.Lists.{Across, Pairwise, all_both, all_of, filter_map_by, find_map_by, pairs_append, pairs_back, pairs_filter, pairs_stronger}
use Rattle.zq_local.proofs.Sorting.{Ordered, sorted_whole}

-- the offer of a storage
abbrev pub offer : List ℕ → Seat → QueryTargetQabl
offer q s = offer_of region.Local q s.key s.face.0 (seat_info s)

-- ---- what is declared
module _ (config : Settings) (q : List ℕ) where
  keys_go : (keys : List (List ℕ)) (ss : List Seat) → fold with_keys keys (map (seat_entry config) ss) ≡ fold (insert_key text_cmp) keys (map key_of ss)
  keys_go keys [] = refl
  keys_go keys (s ∷ ss) = keys_go (insert_key text_cmp keys s.key) ss

  declared_are : (asker : ℕ) (ss : List Seat) → declared_keys (hat_faces config asker ss) ≡ keys_in ss
  declared_are asker ss = keys_go [] ss

  offers_on_key : (key : List ℕ) (ss : List Seat) → flat_map (offers_on region.Local q key) (map (seat_entry config) ss) ≡ map (offer q) (filter (is_on key) ss)
  offers_on_key key [] = refl
  offers_on_key key (s ∷ ss) = by (bytes_eq s.key key) refl (offers_on_key key ss)
    where
      by : (b : Bool) → bytes_eq s.key key ≡ b → flat_map (offers_on region.Local q key) (map (seat_entry config) ss) ≡ map (offer q) (filter (is_on key) ss)
          → offer_list region.Local q key s.face.0 (cond b (Some (seat_info s)) None) ++ flat_map (offers_on region.Local q key) (map (seat_entry config) ss) ≡ map (offer q) (cond b (s ∷ filter (is_on key) ss) (filter (is_on key) ss))
      by true e ih = λ j. offer_of region.Local q (sym ((bytes_eq-Decides s.key key).0 e) j) s.face.0 (seat_info s) ∷ ih j
      by false e ih = ih

  meets_on : (key : List ℕ) (b : Bool) → intersects key q ≡ b → (ss : List Seat) → filter (meets q) (filter (is_on key) ss) ≡ cond b (filter (is_on key) ss) []
  meets_on key true m [] = refl
  meets_on key false m [] = refl
  meets_on key b m (s ∷ ss) = by (bytes_eq s.key key) refl (meets_on key b m ss)
    where
      both : (b : Bool) → intersects s.key q ≡ b → filter (meets q) (filter (is_on key) ss) ≡ cond b (filter (is_on key) ss) [] → filter (meets q) (s ∷ filter (is_on key) ss) ≡ cond b (s ∷ filter (is_on key) ss) []
      both true n ih = ap (λ c. cond c (s ∷ filter (meets q) (filter (is_on key) ss)) (filter (meets q) (filter (is_on key) ss))) n ∙ ap (λ l. s ∷ l) ih
      both false n ih = ap (λ c. cond c (s ∷ filter (meets q) (filter (is_on key) ss)) (filter (meets q) (filter (is_on key) ss))) n ∙ ih

      by : (c : Bool) → bytes_eq s.key key ≡ c → filter (meets q) (filter (is_on key) ss) ≡ cond b (filter (is_on key) ss) [] → filter (meets q) (cond c (s ∷ filter (is_on key) ss) (filter (is_on key) ss)) ≡ cond b (cond c (s ∷ filter (is_on key) ss) (filter (is_on key) ss)) []
      by true e ih = both b (ap (λ k. intersects k q) ((bytes_eq-Decides s.key key).0 e) ∙ m) ih
      by false e ih = ih

  offers_for_key : (asker : ℕ) (ss : List Seat) (key : List ℕ) → offers_for region.Local (hat_faces config asker ss) q key ≡ map (offer q) (filter (meets q) (filter (is_on key) ss))
  offers_for_key asker ss key = by (intersects key q) refl
    where
      by : (b : Bool) → intersects key q ≡ b → cond b (flat_map (offers_on region.Local q key) (map (seat_entry config) ss)) [] ≡ map (offer q) (filter (meets q) (filter (is_on key) ss))
      by true e = offers_on_key key ss ∙ ap (map (offer q)) (sym (meets_on key true e ss))
      by false e = ap (map (offer q)) (sym (meets_on key false e ss))

  offers_all : (asker : ℕ) (ss : List Seat) (keys : List (List ℕ)) → flat_map (offers_for region.Local (hat_faces config asker ss) q) keys ≡ map (offer q) (filter (meets q) (on_keys ss keys))
  offers_all asker ss [] = refl
  offers_all asker ss (key ∷ keys) =
      (λ j. offers_for_key asker ss key j ++ offers_all asker ss keys j)
      ∙ sym (map-append (offer q) (filter (meets q) (filter (is_on key) ss)) (filter (meets q) (on_keys ss keys)))
      ∙ ap (map (offer q)) (sym (filter-append (meets q) (filter (is_on key) ss) (on_keys ss keys)))

  pub declared_offers_are : (asker : ℕ) (ss : List Seat) → declared_offers region.Local (hat_faces config asker ss) q ≡ map (offer q) (filter (meets q) (by_key ss))
  declared_offers_are asker ss = ap (flat_map (offers_for region.Local (hat_faces config asker ss) q)) (declared_are asker ss) ∙ offers_all asker ss (keys_in ss)

-- ---- storages in order
abbrev Below : Seat → Seat → Type 0
Below s t = s.face.0 < t.face.0

pub above_all : (m n : ℕ) → m < n → (ss : List Seat) → AreNumbered n ss → AllByRecursion (λ (s : Seat). m < s.face.0) ss
above_all m n less [] all = tt
above_all m n less (s ∷ ss) all = (subst (λ k. m < k) (sym all.0) less, above_all m (n + 1) (omega (arith, less)) ss all.1)

rising : (n : ℕ) (ss : List Seat) → AreNumbered n ss → Pairwise Below ss
rising n [] all = tt
rising n (s ∷ ss) all = (above_all s.face.0 (n + 1) (let e = all.0 in omega (arith, e)) ss all.1, rising (n + 1) ss all.1)

-- the face is the storage's
abbrev pub has_face : ℕ → Seat → Bool
has_face n s = s.face.0 == n

-- by its face a storage is found
abbrev pub IsFound : List Seat → Seat → Type 0
IsFound ss s = find (has_face s.face.0) ss ≡ Some s

later_found : (s : Seat) (ss : List Seat) (t : Seat) → s.face.0 < t.face.0 → IsFound ss t → IsFound (s ∷ ss) t
later_found s ss t less found = by (s.face.0 == t.face.0) refl
  where
    by : (b : Bool) → (s.face.0 == t.face.0) ≡ b → cond b (Some s) (find (has_face t.face.0) ss) ≡ Some t
    by true e = let same = eqb-true s.face.0 t.face.0 e in absurd (omega (arith, same, less))
    by false e = found

pub all_found : (ss : List Seat) → Pairwise Below ss → AllByRecursion (IsFound ss) ss
all_found [] p = tt
all_found (s ∷ ss) p = (
  ap (λ b. cond b (Some s) (find (has_face s.face.0) ss)) (eq-eqb s.face.0 s.face.0 refl),
  all_both (λ t. Below s t) (IsFound ss) (IsFound (s ∷ ss)) (λ t less found. later_found s ss t less found) ss p.0 (all_found ss p.1),
)

-- ---- in the order of the offers, each of another face
abbrev Stands : Seat → Seat → Type 0
Stands s t = (is_lt (ordering_then (text_cmp t.key s.key) (nat_cmp t.face.0 s.face.0)) ≡ false) × ((t.face.0 == s.face.0) ≡ false)

pub text_itself : (k : List ℕ) → text_cmp k k ≡ Equal
text_itself k = by (text_cmp k k) refl
  where
    by : (r : Ordering) → text_cmp k k ≡ r → text_cmp k k ≡ Equal
    by Less e = absurd (let turned = text_total.antisymm k k in let gap : Less ≡ Greater = sym e ∙ turned ∙ ap ordering_reverse e in cc)
    by Equal e = e
    by Greater e = absurd (let turned = text_total.antisymm k k in let gap : Greater ≡ Less = sym e ∙ turned ∙ ap ordering_reverse e in cc)

pub not_same : (n m : ℕ) → n < m → (m == n) ≡ false
not_same n m less = by (m == n) refl
  where
    by : (b : Bool) → (m == n) ≡ b → b ≡ false
    by true e = let same = eqb-true m n e in absurd (omega (arith, same, less))
    by false e = refl

same_key : (key : List ℕ) (s t : Seat) → s.key ≡ key → t.key ≡ key → Below s t → Stands s t
same_key key s t sk tk less =
    let texts : text_cmp t.key s.key ≡ Equal = (λ j. text_cmp (tk j) (sk j)) ∙ text_itself key in
    let faces : Greater ≡ nat_cmp t.face.0 s.face.0 = nat_cmp_is t.face.0 s.face.0 Greater less in
    (ap is_lt ((λ j. ordering_then (texts j) (sym faces j))), not_same s.face.0 t.face.0 less)

-- a storage of a key that is found among all
abbrev IsOf : List Seat → List ℕ → Seat → Type 0
IsOf ss key s = IsFound ss s × (s.key ≡ key)

-- a storage of a key above that one
abbrev IsAbove : List Seat → List ℕ → Seat → Type 0
IsAbove ss key t = IsFound ss t × (text_cmp key t.key ≡ Less)

found_alike : (ss : List Seat) (s t : Seat) → IsFound ss s → IsFound ss t → t.face.0 ≡ s.face.0 → t ≡ s
found_alike ss s t fs ft e = let same : Some t ≡ Some s = sym ft ∙ ap (λ n. find (has_face n) ss) e ∙ fs in cc

other_key : (ss : List Seat) (key : List ℕ) (s t : Seat) → IsOf ss key s → IsAbove ss key t → Stands s t
other_key ss key s t is above =
    let less : text_cmp s.key t.key ≡ Less = ap (λ k. text_cmp k t.key) is.1 ∙ above.1 in
    let greater : text_cmp t.key s.key ≡ Greater = text_total.antisymm t.key s.key ∙ ap ordering_reverse less in
    (ap (λ r. is_lt (ordering_then r (nat_cmp t.face.0 s.face.0))) greater, by (t.face.0 == s.face.0) refl less)
  where
    by : (b : Bool) → (t.face.0 == s.face.0) ≡ b → text_cmp s.key t.key ≡ Less → b ≡ false
    by true e less =
        let same : t ≡ s = found_alike ss s t is.0 above.0 (eqb-true t.face.0 s.face.0 e) in
        let gap : Equal ≡ Less = sym (text_itself s.key) ∙ sym (ap (λ (x : Seat). text_cmp s.key x.key) same) ∙ less in
        absurd (cc)
    by false e less = refl

module _ (ss : List Seat) (found : AllByRecursion (IsFound ss) ss) (rises : Pairwise Below ss) where
  keyed : (key : List ℕ) (xs : List Seat) → AllByRecursion (IsFound ss) xs → AllByRecursion (IsOf ss key) (filter (is_on key) xs)
  keyed key [] all = tt
  keyed key (s ∷ xs) all = by (bytes_eq s.key key) refl (keyed key xs all.1)
    where
      by : (b : Bool) → bytes_eq s.key key ≡ b → AllByRecursion (IsOf ss key) (filter (is_on key) xs) → AllByRecursion (IsOf ss key) (cond b (s ∷ filter (is_on key) xs) (filter (is_on key) xs))
      by true e rest = ((all.0, (bytes_eq-Decides s.key key).0 e), rest)
      by false e rest = rest

  one_key : (key : List ℕ) → Pairwise Stands (filter (is_on key) ss)
  one_key key =
      pairs_stronger Below Stands (IsOf ss key) (λ s t a b less. same_key key s t a.1 b.1 less) (filter (is_on key) ss)
      (keyed key ss found) (pairs_filter Below (is_on key) ss rises)

  above_keys : (key : List ℕ) (keys : List (List ℕ)) → AllByRecursion (λ k. text_cmp key k ≡ Less) keys → AllByRecursion (IsAbove ss key) (on_keys ss keys)
  above_keys key [] all = tt
  above_keys key (k ∷ keys) all =
      all_append (IsAbove ss key) (filter (is_on k) ss) (on_keys ss keys)
      (all_weaker (IsOf ss k) (IsAbove ss key) (λ t is. (is.0, ap (text_cmp key) is.1 ∙ all.0)) (filter (is_on k) ss) (keyed k ss found))
      (above_keys key keys all.1)

  across : (key : List ℕ) (keys : List (List ℕ)) → AllByRecursion (λ k. text_cmp key k ≡ Less) keys → Across Stands (filter (is_on key) ss) (on_keys ss keys)
  across key keys all =
      all_weaker (IsOf ss key) (λ s. AllByRecursion (Stands s) (on_keys ss keys))
      (λ s is. all_weaker (IsAbove ss key) (Stands s) (λ t above. other_key ss key s t is above) (on_keys ss keys) (above_keys key keys all))
      (filter (is_on key) ss) (keyed key ss found)

  all_stand : (keys : List (List ℕ)) → IsStrictlySortedBy text_cmp keys → Pairwise Stands (on_keys ss keys)
  all_stand [] sorted = tt
  all_stand (key ∷ keys) sorted =
      pairs_append Stands (filter (is_on key) ss) (on_keys ss keys) (one_key key) (all_stand keys (sorted_tail text_cmp key keys sorted)) (across key keys (sorted_head text_cmp key keys sorted))

keys_sorted : (keys : List (List ℕ)) (ss : List Seat) → IsStrictlySortedBy text_cmp keys → IsStrictlySortedBy text_cmp (fold (insert_key text_cmp) keys (map key_of ss))
keys_sorted keys [] sorted = sorted
keys_sorted keys (s ∷ ss) sorted = keys_sorted (insert_key text_cmp keys s.key) ss (sorted_put text_total keys s.key sorted)

none_sorted : IsStrictlySortedBy text_cmp []
unfolding IsStrictlySortedBy
none_sorted = tt

pub keys_in_order : (ss : List Seat) → IsStrictlySortedBy text_cmp (keys_in ss)
keys_in_order ss = keys_sorted [] ss none_sorted

-- the storages that meet, by key, stand in the order of their offers, each with another face
stand_by_key : (n : ℕ) (ss : List Seat) → AreNumbered n ss → Pairwise Stands (by_key ss)
stand_by_key n ss all =
    let rises = rising n ss all in
    all_stand ss (all_found ss rises) rises (keys_in ss) (keys_in_order ss)

pub stand_apart : (n : ℕ) (ss : List Seat) → AreNumbered n ss → Pairwise (λ (s t : Seat). (t.face.0 == s.face.0) ≡ false) (by_key ss)
stand_apart n ss all =
    pairs_stronger Stands (λ s t. (t.face.0 == s.face.0) ≡ false) (λ s. Unit {0}) (λ s t a b stands. stands.1) (by_key ss) (all_of (λ s. Unit {0}) (λ s. tt) (by_key ss)) (stand_by_key n ss all)

-- the offers of the storages that meet are in order
pub met_ordered : (n : ℕ) (q : List ℕ) (ss : List Seat) → AreNumbered n ss → Pairwise (Ordered offer_cmp) (map (offer q) (filter (meets q) (by_key ss)))
met_ordered n q ss all =
    pairs_back (Ordered offer_cmp) (offer q) (filter (meets q) (by_key ss))
    (pairs_filter (λ s t. Ordered offer_cmp (offer q s) (offer q t)) (meets q) (by_key ss)
    (pairs_stronger Stands (λ s t. Ordered offer_cmp (offer q s) (offer q t)) (λ s. Unit {0}) (λ s t a b stands. stands.0) (by_key ss) (all_of (λ s. Unit {0}) (λ s. tt) (by_key ss)) (stand_by_key n ss all)))

-- what the region offers, in order
pub offers_sorted : (config : Settings) (asker n : ℕ) (q : List ℕ) (ss : List Seat) → AreNumbered n ss → sorted offer_cmp (declared_offers region.Local (hat_faces config asker ss) q) ≡ map (offer q) (filter (meets q) (by_key ss))
offers_sorted config asker n q ss all =
    ap (sorted offer_cmp) (declared_offers_are config q asker ss)
    ∙ sorted_whole offer_cmp (map (offer q) (filter (meets q) (by_key ss))) (met_ordered n q ss all)

-- ---- what a target picks of the offers
first_or_all : (q : List ℕ) (xs : List Seat) (o : Option Seat) → find is_complete (map (offer q) xs) ≡ option_map (offer q) o → best (map (offer q) xs) ≡ map (offer q) (option_map_or (λ s. s ∷ []) o xs)
first_or_all q xs None e = ap (λ o. option_map_or (λ x. x ∷ []) o (map (offer q) xs)) e
first_or_all q xs (Some s) e = ap (λ o. option_map_or (λ x. x ∷ []) o (map (offer q) xs)) e

chosen_are : (q : List ℕ) (t : QueryTarget) (xs : List Seat) → chosen t (map (offer q) xs) ≡ map (offer q) (picks q t xs)
chosen_are q target.All xs = refl
chosen_are q target.AllComplete xs = filter_map_by (offer q) may_be_complete (has_all q) (λ s. refl) xs
chosen_are q target.BestMatching xs = first_or_all q xs (find (has_all q) xs) (find_map_by (offer q) is_complete (has_all q) (λ s. refl) xs)

-- of offers in order the first is the nearest
stays_first : (o : QueryTargetQabl) (os : List QueryTargetQabl) → AllByRecursion (Ordered offer_cmp o) os → fold nearer (Some o) os ≡ Some o
stays_first o [] all = refl
stays_first o (x ∷ os) all = ap (λ b. fold nearer (Some (cond b x o)) os) all.0 ∙ stays_first o os all.1

first_nearest : (os : List QueryTargetQabl) → Pairwise (Ordered offer_cmp) os → nearest (filter is_complete os) ≡ find is_complete os
first_nearest [] p = refl
first_nearest (o ∷ os) p = by (is_complete o) (first_nearest os p.1)
  where
    by : (b : Bool) → nearest (filter is_complete os) ≡ find is_complete os → nearest (cond b (o ∷ filter is_complete os) (filter is_complete os)) ≡ cond b (Some o) (find is_complete os)
    by true ih = stays_first o (filter is_complete os) (all_filter (Ordered offer_cmp o) is_complete os p.0)
    by false ih = ih

-- of one region's offers in order a target picks the same, wherever the best is looked for
pub picked_are : (q : List ℕ) (b : Best) (t : QueryTarget) (xs : List Seat) → Pairwise (Ordered offer_cmp) (map (offer q) xs) → picked b t (map (offer q) xs ∷ []) ≡ map (offer q) (picks q t xs)
picked_are q choice.ByRegion t xs p = append-nil (chosen t (map (offer q) xs)) ∙ chosen_are q t xs
picked_are q choice.Overall target.All xs p = append-nil (map (offer q) xs)
picked_are q choice.Overall target.AllComplete xs p = append-nil (chosen target.AllComplete (map (offer q) xs)) ∙ chosen_are q target.AllComplete xs
picked_are q choice.Overall target.BestMatching xs p =
    ap best_overall (append-nil (map (offer q) xs))
    ∙ ap (λ o. option_map_or (λ x. x ∷ []) o (map (offer q) xs)) (first_nearest (map (offer q) xs) p)
    ∙ chosen_are q target.BestMatching xs
