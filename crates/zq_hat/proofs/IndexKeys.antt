-- The index has just the declared keys, and offers just what the faces do.
use Rattle.std.proofs.Common.{◌≡◌, ℕ, Bool, true, false, cond, List, [], ◌∷◌, ◌++◌, ap, ◌∙◌, refl, Some, None, Option, sym, fold, map}
use Rattle.std.specs.Prelude.{◌||◌, filter}
use Rattle.std.specs.Option.{option_map_or, is_some}
use Rattle.std.specs.List.{AllByRecursion, list_any, flat_map}
use Rattle.std.specs.List.Sorted.{IsStrictlySortedBy}
use Rattle.std.specs.Map.{keys_of, lookup}
use Rattle.std.specs.BTreeMap.{is_at}
use Rattle.std.proofs.lemmas.Map.Text.{is_eq-slice_cmp}
use Rattle.std.proofs.Math.Bool.{or-false, or_assoc}
use Rattle.std.proofs.lemmas.Map.Made.{is_some-lookup}
use Rattle.zq_key.specs.Key.{intersects, is_key}
use Rattle.zq_message.specs.declared.message.Region.{Region}
use Rattle.zq_strategy.specs.declared.types.Declaration.{Declaration}
use Rattle.zq_index.specs.Texts.{text_cmp, at_text}
use Rattle.zq_strategy.specs.Kept.{is_on, key_of, with_key, with_keys, declared_keys}
use Rattle.zq_strategy.specs.Offers.{offers_for, declared_offers}
use Rattle.zq_strategy.specs.State.{FaceState}
use Rattle.zq_index.specs.Holders.{Holdings, Index}
use Rattle.zq_strategy.specs.OfferOrder.{IsKeyed, group_offer, groups_from, holder_offers}
use Rattle.zq_hat.specs.Tied.{held, IsTied}
use Rattle.zq_index.proofs.Orders.{text_total, text_exact}
use Rattle.zq_hat.proofs.Reading.{held_is, offers_is}
use Rattle.zq_key.proofs.Lookups.{each_entry, either_way}
use Rattle.zq_key.proofs.Sorted.{has_put, same_keys, sorted_put}
use Rattle.zq_key.proofs.Truth.{or_swap}

-- ---- the keys of the index are the declared ones
abbrev has : List ℕ → List (List ℕ) → Bool
has q ks = list_any (is_at (text_cmp q)) ks

abbrev any_left : Holdings → Bool
any_left [] = false
any_left (h ∷ hs) = true

-- ---- which texts are declared
abbrev declares : List ℕ → ℕ × FaceState → Bool
declares q f = list_any (is_on q) f.1.declared

module _ (q : List ℕ) where
  on_is : (d : ℕ × Declaration) → is_at (text_cmp q) (key_of d) ≡ is_on q d
  on_is d = either_way text_total text_exact q (key_of d) ∙ is_eq-slice_cmp (key_of d) q

  has_declared : (ks : List (List ℕ)) (ds : List (ℕ × Declaration)) → has q (fold with_key ks ds) ≡ (has q ks || list_any (is_on q) ds)
  has_declared ks [] = sym (or-false (has q ks))
  has_declared ks (d ∷ ds) =
      has_declared (with_key ks d) ds
      ∙ ap (λ b. b || list_any (is_on q) ds) (has_put text_total text_exact q (key_of d) ks ∙ ap (λ b. b || has q ks) (on_is d))
      ∙ or_assoc (is_on q d) (has q ks) (list_any (is_on q) ds)
      ∙ or_swap (is_on q d) (has q ks) (list_any (is_on q) ds)

  has_faces : (ks : List (List ℕ)) (fs : List (ℕ × FaceState)) → has q (fold with_keys ks fs) ≡ (has q ks || list_any (declares q) fs)
  has_faces ks [] = sym (or-false (has q ks))
  has_faces ks (f ∷ fs) =
      has_faces (with_keys ks f) fs
      ∙ ap (λ b. b || list_any (declares q) fs) (has_declared ks f.1.declared)
      ∙ or_assoc (has q ks) (declares q f) (list_any (declares q) fs)

  left_by : (n : ℕ) (d : ℕ × Declaration) (ds : List (ℕ × Declaration)) (rest : Holdings) (b : Bool) → any_left (map (λ e. ((n, e.0), e.1.info)) (filter (is_on q) ds) ++ rest) ≡ (list_any (is_on q) ds || any_left rest)
      → any_left (map (λ e. ((n, e.0), e.1.info)) (cond b (d ∷ filter (is_on q) ds) (filter (is_on q) ds)) ++ rest) ≡ ((b || list_any (is_on q) ds) || any_left rest)
  left_by n d ds rest true ih = refl
  left_by n d ds rest false ih = ih

  any_part : (n : ℕ) (ds : List (ℕ × Declaration)) (rest : Holdings) → any_left (map (λ e. ((n, e.0), e.1.info)) (filter (is_on q) ds) ++ rest) ≡ (list_any (is_on q) ds || any_left rest)
  any_part n [] rest = refl
  any_part n (d ∷ ds) rest = left_by n d ds rest (is_on q d) (any_part n ds rest)

  any_held : (fs : List (ℕ × FaceState)) → any_left (held q fs) ≡ list_any (declares q) fs
  any_held [] = refl
  any_held (f ∷ fs) = any_part f.0 f.1.declared (held q fs) ∙ ap (λ b. declares q f || b) (any_held fs)

-- ---- the declared keys are in order
sorted_declared : (ks : List (List ℕ)) (ds : List (ℕ × Declaration)) → IsStrictlySortedBy text_cmp ks → IsStrictlySortedBy text_cmp (fold with_key ks ds)
sorted_declared ks [] s = s
sorted_declared ks (d ∷ ds) s = sorted_declared (with_key ks d) ds (sorted_put text_total ks (key_of d) s)

sorted_faces : (ks : List (List ℕ)) (fs : List (ℕ × FaceState)) → IsStrictlySortedBy text_cmp ks → IsStrictlySortedBy text_cmp (fold with_keys ks fs)
sorted_faces ks [] s = s
sorted_faces ks (f ∷ fs) s = sorted_faces (with_keys ks f) fs (sorted_declared ks f.1.declared s)

sorted_none : IsStrictlySortedBy text_cmp []
unfolding IsStrictlySortedBy
sorted_none = tt

module _ (faces : List (ℕ × FaceState)) (index : Index) (t : IsTied faces index) where
  used_by : (q : List ℕ) (o : Option Holdings) → at_text q index ≡ o → is_some o ≡ any_left (option_map_or (λ hs. hs) o [])
  used_by q None is = refl
  used_by q (Some []) is = absurd (t.used q is)
  used_by q (Some (h ∷ hs)) is = refl

  pub keys_are : keys_of index ≡ declared_keys faces
  keys_are = same_keys text_total text_exact (keys_of index) (declared_keys faces) t.texts (sorted_faces [] faces sorted_none)
      (λ q. sym (is_some-lookup (is_at (text_cmp q)) index) ∙ used_by q (at_text q index) refl ∙ ap any_left (held_is faces index t q) ∙ any_held q faces ∙ sym (has_faces q [] faces))

  entries_by : (es : Index) → ((k : List ℕ) (hs : Holdings) → lookup (is_at (text_cmp k)) es ≡ Some hs → hs ≡ held k faces) → IsStrictlySortedBy text_cmp (keys_of es) → AllByRecursion (λ e. e.1 ≡ held e.0 faces) es
  entries_by es each s = each_entry text_total text_exact (λ e. e.1 ≡ held e.0 faces) es s each

  offers_by : (region : Region) (q : List ℕ) (es : Index) → AllByRecursion (λ e. e.1 ≡ held e.0 faces) es → flat_map (holder_offers region q) es ≡ flat_map (offers_for region faces q) (keys_of es)
  offers_by region q [] all = refl
  offers_by region q (e ∷ es) all =
      λ i. cond (intersects e.0 q) ((ap (λ hs. map (group_offer region q e.0) (groups_from None hs)) all.0 ∙ offers_is e.0 region q faces t.numbers) i) [] ++ offers_by region q es all.1 i

  -- the index offers what the faces do
  pub index_offers : (region : Region) (q : List ℕ) → flat_map (holder_offers region q) index ≡ declared_offers region faces q
  index_offers region q =
      offers_by region q index (entries_by index (λ k hs is. sym (ap (λ o. option_map_or (λ l. l) o []) is) ∙ held_is faces index t k) t.texts)
      ∙ ap (flat_map (offers_for region faces q)) keys_are

  -- each text of the index is a key
  pub all_keyed : AllByRecursion IsKeyed index
  all_keyed = each_entry text_total text_exact IsKeyed index t.texts t.keys

-- texts of entries that are keys are keys
pub keyed_texts : {V : Type 0} (es : List (List ℕ × V)) → AllByRecursion IsKeyed es → AllByRecursion (λ k. is_key k ≡ true) (keys_of es)
keyed_texts [] all = tt
keyed_texts (e ∷ es) all = (all.0, keyed_texts es all.1)
