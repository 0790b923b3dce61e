-- What comes of it where offers, or texts, are gathered at the keys that meet.
use Rattle.std.proofs.Common.{◌≡◌, ◌∙◌, sym, ap, refl, cond, filter, fold, Bool, true, false, [], ◌∷◌, ◌++◌, ℕ, List}
use Rattle.std.specs.BTreeSet.{insert_key}
use Rattle.std.specs.List.{flat_map}
use Rattle.std.specs.Map.{keys_of}
use Rattle.zq_key.specs.Key.{intersects}
use Rattle.zq_index.specs.Texts.{text_cmp}
use Rattle.zq_strategy.specs.declared.offer.QueryTargetQabl.{QueryTargetQabl}
use Rattle.zq_strategy.specs.Met.{AllGathered, is_met}
use Rattle.zq_strategy.specs.OfferOrder.{met_offers, offer_cmp, place}
use Rattle.zq_strategy.proofs.Folds.{fold_joined}

-- what is seen of it is a fold, where each step is one of the fold
module _ {E T X : Type 0} (gathers : T → E → T → Type 0) (view : T → X) (put : X → E → X) (each : (was : T) (e : E) (next : T) → gathers was e next → view next ≡ put (view was) e) where
  pub gathered : (es : List E) (was end : T) → AllGathered gathers was es end → view end ≡ fold put (view was) es
  gathered [] was end same = ap view (sym same)
  gathered (e ∷ es) was end all = gathered es all.0 end all.2 ∙ ap (λ x. fold put x es) (each was e all.0 all.1)

module _ {V : Type 0} (q : List ℕ) where
  -- ---- of offers
  module _ (met : List ℕ × V → List QueryTargetQabl) where
    abbrev pub put_offers : List QueryTargetQabl → List ℕ × V → List QueryTargetQabl
    put_offers offers e = fold (place offer_cmp) offers (met e)

    pub offers_gathered : (es : List (List ℕ × V)) (offers : List QueryTargetQabl) → fold put_offers offers (filter (is_met q) es) ≡ fold (place offer_cmp) offers (flat_map (met_offers met q) es)
    offers_gathered [] offers = refl
    offers_gathered (e ∷ es) offers = by (intersects e.0 q) (offers_gathered es)
      where
        by : (b : Bool) → ((os : List QueryTargetQabl) → fold put_offers os (filter (is_met q) es) ≡ fold (place offer_cmp) os (flat_map (met_offers met q) es))
            → fold put_offers offers (cond b (e ∷ filter (is_met q) es) (filter (is_met q) es)) ≡ fold (place offer_cmp) offers (cond b (met e) [] ++ flat_map (met_offers met q) es)
        by true more = more (put_offers offers e) ∙ sym (fold_joined (place offer_cmp) offers (met e) (flat_map (met_offers met q) es))
        by false more = more offers

  -- ---- of texts
  abbrev pub put_text : List (List ℕ) → List ℕ × V → List (List ℕ)
  put_text texts e = insert_key text_cmp texts e.0

  pub texts_gathered : (es : List (List ℕ × V)) (texts : List (List ℕ)) → fold put_text texts (filter (is_met q) es) ≡ fold (insert_key text_cmp) texts (filter (λ k. intersects k q) (keys_of es))
  texts_gathered [] texts = refl
  texts_gathered (e ∷ es) texts = by (intersects e.0 q) (texts_gathered es)
    where
      by : (b : Bool) → ((ts : List (List ℕ)) → fold put_text ts (filter (is_met q) es) ≡ fold (insert_key text_cmp) ts (filter (λ k. intersects k q) (keys_of es)))
          → fold put_text texts (cond b (e ∷ filter (is_met q) es) (filter (is_met q) es))
          ≡ fold (insert_key text_cmp) texts (cond b (e.0 ∷ filter (λ k. intersects k q) (keys_of es)) (filter (λ k. intersects k q) (keys_of es)))
      by true more = more (put_text texts e)
      by false more = more texts
