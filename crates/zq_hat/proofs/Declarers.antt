-- What the index, or the entries of routers, have on the keys that meet one that is asked for is what is listed on those keys.
use Rattle.std.proofs.Common.{◌≡◌, ◌∙◌, sym, ap, refl, ℕ, Bool, true, false, cond, List, [], ◌∷◌, ◌++◌, Option, Some, None, filter, fold, map}
use Rattle.std.specs.Option.{option_map, option_map_or}
use Rattle.std.specs.BTreeMap.{is_at}
use Rattle.std.specs.List.{AllByRecursion, cons_option, filter_map, flat_map}
use Rattle.std.specs.List.Sorted.{IsStrictlySortedBy}
use Rattle.std.specs.Map.{keys_of}
use Rattle.std.specs.Cmp.{nat_cmp_total}
use Rattle.std.proofs.lemmas.List.Elements.{filter-append, filter_map-append}
use Rattle.std.proofs.lemmas.Map.Lookups.{exact_unsigned}
use Rattle.std.proofs.lemmas.Map.Text.{is_eq-slice_cmp}
use Rattle.zq_key.specs.Key.{intersects}
use Rattle.zq_key.proofs.Lawful.{intersects-swap}
use Rattle.zq_key.proofs.Lookups.{each_entry, same_key}
use Rattle.zq_message.specs.declared.message.Zid.{Zid}
use Rattle.zq_index.specs.Holders.{Holdings, Index}
use Rattle.zq_index.specs.Texts.{at_text, text_cmp}
use Rattle.zq_index.proofs.Orders.{text_exact, text_total}
use Rattle.zq_strategy.specs.declared.types.Declaration.{Declaration}
use Rattle.zq_strategy.specs.declared.types.Strategy.{Strategy}
use Rattle.zq_strategy.specs.Entries.{Entries, Routed, is_another, is_by}
use Rattle.zq_strategy.specs.Kept.{at_id, is_on}
use Rattle.zq_strategy.specs.Met.{is_met}
use Rattle.zq_strategy.specs.State.{FaceState}
use Rattle.zq_hat.specs.Asked.{holder_listing, holder_listings}
use Rattle.zq_strategy.proofs.Folds.{fold_joined}
use Rattle.zq_hat.specs.Sources.{SourceTexts}
use Rattle.zq_hat.specs.Listings.{Listing, is_listed, listed, with_listing}
use Rattle.zq_hat.specs.Sourced.{declaration_listing, declared_by, declared_listings, face_source, is_asked, routed_by, routed_listings, router_listing}
use Rattle.zq_hat.specs.Tied.{IsTied, held, held_by}
use Rattle.zq_hat.proofs.OnAsked.{asked_listed, either_list, found_passed, on_one, sorted_passed}
use Rattle.zq_hat.proofs.Reading.{held_is}

-- what is found at the keys that meet, key by key, comes to what is listed on each
module _ {V : Type 0} (f : List ℕ × V → List Listing) (each : (q : List ℕ) (e : List ℕ × V) → filter (is_listed q) (f e) ≡ cond (is_at (text_cmp e.0) q) (f e) []) (asked : List ℕ) (es : List (List ℕ × V)) (s : IsStrictlySortedBy text_cmp (keys_of es)) where
  met_on : (q : List ℕ) → filter (is_listed q) (flat_map f (filter (is_met asked) es)) ≡ cond (intersects asked q) (option_map_or (λ v. f (q, v)) (at_text q es) []) []
  met_on q =
      on_one f each q (filter (is_met asked) es) (sorted_passed (λ k. intersects k asked) es s)
      ∙ ap (λ o. option_map_or (λ v. f (q, v)) o []) (found_passed (λ k. intersects k asked) q es)
      ∙ either_list (λ v. f (q, v)) (intersects q asked) (at_text q es)
      ∙ ap (λ b. cond b (option_map_or (λ v. f (q, v)) (at_text q es) []) []) (intersects-swap q asked)

  pub met_listed : (all : List Listing) → ((q : List ℕ) → option_map_or (λ v. f (q, v)) (at_text q es) [] ≡ filter (is_listed q) all) → listed (flat_map f (filter (is_met asked) es)) ≡ filter (is_asked asked) (listed all)
  met_listed all same = asked_listed asked (flat_map f (filter (is_met asked) es)) all (λ q. met_on q ∙ ap (λ ls. cond (intersects asked q) ls []) (same q))

-- ---- listings on one key
module _ (q k : List ℕ) where
  on_key_by : (b : Bool) (l : Listing) (ls : List Listing) → filter (is_listed q) ls ≡ cond b ls [] → cond b (l ∷ filter (is_listed q) ls) (filter (is_listed q) ls) ≡ cond b (l ∷ ls) []
  on_key_by true l ls ih = ap (λ r. l ∷ r) ih
  on_key_by false l ls ih = ih

  none_on : (b : Bool) (ls : List Listing) → ls ≡ cond b ls ls
  none_on true ls = refl
  none_on false ls = refl

-- ---- routers
module _ (own : Zid) where
  routed_each : (q k : List ℕ) (es : Routed) → filter (is_listed q) (map (router_listing k) (filter (is_by (is_another own)) es)) ≡ cond (is_at (text_cmp k) q) (map (router_listing k) (filter (is_by (is_another own)) es)) []
  routed_each q k [] = none_on q k (is_at (text_cmp k) q) []
  routed_each q k (e ∷ es) = by (is_by (is_another own) e) (routed_each q k es)
    where
      by : (b : Bool) → filter (is_listed q) (map (router_listing k) (filter (is_by (is_another own)) es)) ≡ cond (is_at (text_cmp k) q) (map (router_listing k) (filter (is_by (is_another own)) es)) []
          → filter (is_listed q) (map (router_listing k) (cond b (e ∷ filter (is_by (is_another own)) es) (filter (is_by (is_another own)) es))) ≡ cond (is_at (text_cmp k) q) (map (router_listing k) (cond b (e ∷ filter (is_by (is_another own)) es) (filter (is_by (is_another own)) es))) []
      by true ih = on_key_by q k (is_at (text_cmp k) q) (router_listing k e) (map (router_listing k) (filter (is_by (is_another own)) es)) ih
      by false ih = ih

  pub routed_met : (asked : List ℕ) (es : Entries) → IsStrictlySortedBy text_cmp (keys_of es) → listed (flat_map (routed_by own) (filter (is_met asked) es)) ≡ filter (is_asked asked) (listed (routed_listings own es))
  routed_met asked es s =
      met_listed (routed_by own) (λ q e. routed_each q e.0 e.1) asked es s (routed_listings own es)
      (λ q. sym (on_one (routed_by own) (λ q e. routed_each q e.0 e.1) q es s))

-- ---- faces
module _ (k : Strategy) (faces : List (ℕ × FaceState)) where
  holders_each : (q key : List ℕ) (hs : Holdings) → filter (is_listed q) (filter_map (holder_listing k faces key) hs) ≡ cond (is_at (text_cmp key) q) (filter_map (holder_listing k faces key) hs) []
  holders_each q key [] = none_on q key (is_at (text_cmp key) q) []
  holders_each q key (h ∷ hs) = by (at_id h.0.0 faces) (holders_each q key hs)
    where
      by : (o : Option FaceState) → filter (is_listed q) (filter_map (holder_listing k faces key) hs) ≡ cond (is_at (text_cmp key) q) (filter_map (holder_listing k faces key) hs) []
          → filter (is_listed q) (cons_option (option_map (λ f. (key, face_source k f)) o) (filter_map (holder_listing k faces key) hs)) ≡ cond (is_at (text_cmp key) q) (cons_option (option_map (λ f. (key, face_source k f)) o) (filter_map (holder_listing k faces key) hs)) []
      by None ih = ih
      by (Some f) ih = on_key_by q key (is_at (text_cmp key) q) (key, face_source k f) (filter_map (holder_listing k faces key) hs) ih

  module _ (q : List ℕ) where
    one_by : (f : ℕ × FaceState) (d : ℕ × Declaration) (ds : List (ℕ × Declaration)) (b : Bool) → is_on q d ≡ b → at_id f.0 faces ≡ Some f.1
        → filter_map (holder_listing k faces q) (map (λ d. ((f.0, d.0), d.1.info)) (filter (is_on q) ds)) ≡ filter (is_listed q) (map (declaration_listing (face_source k f.1)) ds)
        → filter_map (holder_listing k faces q) (map (λ d. ((f.0, d.0), d.1.info)) (cond b (d ∷ filter (is_on q) ds) (filter (is_on q) ds)))
        ≡ cond b (declaration_listing (face_source k f.1) d ∷ filter (is_listed q) (map (declaration_listing (face_source k f.1)) ds)) (filter (is_listed q) (map (declaration_listing (face_source k f.1)) ds))
    one_by f d ds true is at ih =
        let same : d.1.key ≡ q = same_key text_total text_exact d.1.key q (is_eq-slice_cmp d.1.key q ∙ is) in
        ap (λ o. cons_option (option_map (λ g. (q, face_source k g)) o) (filter_map (holder_listing k faces q) (map (λ d. ((f.0, d.0), d.1.info)) (filter (is_on q) ds)))) at
        ∙ (λ i. (sym same i, face_source k f.1) ∷ ih i)
    one_by f d ds false is at ih = ih

    one_face : (f : ℕ × FaceState) (ds : List (ℕ × Declaration)) → at_id f.0 faces ≡ Some f.1
        → filter_map (holder_listing k faces q) (map (λ d. ((f.0, d.0), d.1.info)) (filter (is_on q) ds)) ≡ filter (is_listed q) (map (declaration_listing (face_source k f.1)) ds)
    one_face f [] at = refl
    one_face f (d ∷ ds) at =
        one_by f d ds (is_on q d) refl at (one_face f ds at)
        ∙ ap (λ b. cond b (declaration_listing (face_source k f.1) d ∷ filter (is_listed q) (map (declaration_listing (face_source k f.1)) ds)) (filter (is_listed q) (map (declaration_listing (face_source k f.1)) ds))) (sym (is_eq-slice_cmp d.1.key q))

    all_faces : (fs : List (ℕ × FaceState)) → AllByRecursion (λ f. at_id f.0 faces ≡ Some f.1) fs → filter_map (holder_listing k faces q) (held q fs) ≡ filter (is_listed q) (flat_map (declared_by k) fs)
    all_faces [] all = refl
    all_faces (f ∷ fs) all =
        filter_map-append (holder_listing k faces q) (held_by q f) (held q fs)
        ∙ (λ i. one_face f f.1.declared all.0 i ++ all_faces fs all.1 i)
        ∙ sym (filter-append (is_listed q) (declared_by k f) (flat_map (declared_by k) fs))

    none_held : (o : Option Holdings) → option_map_or (λ v. filter_map (holder_listing k faces q) v) o [] ≡ filter_map (holder_listing k faces q) (option_map_or (λ hs. hs) o [])
    none_held None = refl
    none_held (Some hs) = refl

  pub declared_met : (index : Index) → IsTied faces index → (asked : List ℕ) → listed (flat_map (holder_listings k faces) (filter (is_met asked) index)) ≡ filter (is_asked asked) (listed (declared_listings k faces))
  declared_met index t asked =
      let at : AllByRecursion (λ f. at_id f.0 faces ≡ Some f.1) faces = each_entry nat_cmp_total exact_unsigned (λ f. at_id f.0 faces ≡ Some f.1) faces t.numbers (λ n f is. is) in
      met_listed (holder_listings k faces) (λ q e. holders_each q e.0 e.1) asked index t.texts (declared_listings k faces)
      (λ q. none_held q (at_text q index) ∙ ap (filter_map (holder_listing k faces q)) (held_is faces index t q) ∙ all_faces q faces at)

-- ---- what is gathered key by key is all that is listed
abbrev pub put_listings : {E : Type 0} → (E → List Listing) → SourceTexts → E → SourceTexts
put_listings f all e = fold with_listing all (f e)

pub all_listed : {E : Type 0} (f : E → List Listing) (es : List E) (all : SourceTexts) → fold (put_listings f) all es ≡ fold with_listing all (flat_map f es)
all_listed f [] all = refl
all_listed f (e ∷ es) all = all_listed f es (put_listings f all e) ∙ sym (fold_joined with_listing all (f e) (flat_map f es))
