-- Pairs on keys that pass a test.
use Rattle.std.proofs.Common.{◌≡◌, ℕ, Bool, true, false, List, [], ◌∷◌, refl, cond}
use Rattle.std.specs.Prelude.{◌&&◌}
use Rattle.std.specs.declared.cmp.Ordering.{Ordering}
use Rattle.std.specs.declared.cmp.Ordering.TheVariants.{Less, Equal, Greater}
use Rattle.std.specs.Ordering.{match_ordering}
use Rattle.std.specs.BTreeMap.{insert_entry}
use Rattle.std.specs.List.{list_all}
use Rattle.std.specs.Map.{remove_entry}
use Rattle.std.proofs.lemmas.Bool.{and_parts}
use Rattle.zq_index.specs.Texts.{text_cmp}
use Rattle.zq_key.specs.Key.{is_key, is_plain, is_plain_chunk, chunks}
use Rattle.zq_store.specs.Held.{Pairs, are_plain}

pub plain_is_key : (t : List ℕ) → is_plain t ≡ true → is_key t ≡ true
unfolding is_plain
plain_is_key t h = (and_parts (is_key t) (list_all is_plain_chunk (chunks t)) h).0

pub both : (a b : Bool) → a ≡ true → b ≡ true → (a && b) ≡ true
both a b h k = λ j. h j && k j

module _ (passes : List ℕ → Bool) where
  -- all keys of the pairs pass
  abbrev pub all_pass : Pairs → Bool
  all_pass ps = list_all (λ p. passes p.0) ps

  pub all_put : (ps : Pairs) (key value : List ℕ) → all_pass ps ≡ true → passes key ≡ true → all_pass (insert_entry text_cmp ps key value) ≡ true
  all_put [] key value h k = both (passes key) true k refl
  all_put (p ∷ ps) key value h k =
      let parts = and_parts (passes p.0) (all_pass ps) h in
      at (text_cmp key p.0) parts.0 parts.1 (all_put ps key value parts.1 k)
    where
      at : (r : Ordering) → passes p.0 ≡ true → all_pass ps ≡ true → all_pass (insert_entry text_cmp ps key value) ≡ true
          → all_pass (match_ordering r ((key, value) ∷ p ∷ ps) ((p.0, value) ∷ ps) (p ∷ insert_entry text_cmp ps key value)) ≡ true
      at Less one more ih = both (passes key) (all_pass (p ∷ ps)) k h
      at Equal one more ih = both (passes p.0) (all_pass ps) one more
      at Greater one more ih = both (passes p.0) (all_pass (insert_entry text_cmp ps key value)) one ih

  pub all_removed : (test : List ℕ → Bool) (ps : Pairs) → all_pass ps ≡ true → all_pass (remove_entry test ps) ≡ true
  all_removed test [] h = refl
  all_removed test (p ∷ ps) h =
      let parts = and_parts (passes p.0) (all_pass ps) h in
      at (test p.0) parts.0 parts.1 (all_removed test ps parts.1)
    where
      at : (b : Bool) → passes p.0 ≡ true → all_pass ps ≡ true → all_pass (remove_entry test ps) ≡ true → all_pass (cond b ps (p ∷ remove_entry test ps)) ≡ true
      at true one more ih = more
      at false one more ih = both (passes p.0) (all_pass (remove_entry test ps)) one ih

pub plain_put : (ps : Pairs) (key value : List ℕ) → are_plain ps ≡ true → is_plain key ≡ true → are_plain (insert_entry text_cmp ps key value) ≡ true
plain_put ps key value h k = all_put is_plain ps key value h k

pub plain_removed : (test : List ℕ → Bool) (ps : Pairs) → are_plain ps ≡ true → are_plain (remove_entry test ps) ≡ true
plain_removed test ps h = all_removed is_plain test ps h
