-- What joins those on its key, one after another, comes to what is listed on each key.
use Rattle.std.proofs.Common.{◌≡◌, ◌∙◌, ap, refl, ℕ, Bool, true, false, cond, List, [], ◌∷◌, Option, Some, None, fold, filter}
use Rattle.std.specs.Prelude.{◌||◌}
use Rattle.std.specs.List.{list_any}
use Rattle.std.specs.List.Sorted.{IsStrictlySortedBy}
use Rattle.std.specs.Map.{keys_of}
use Rattle.std.specs.Option.{is_some, option_map_or}
use Rattle.zq_key.proofs.Lookups.{found_after_insertion, same_key}
use Rattle.zq_key.proofs.Sorted.{sorted_in}
use Rattle.zq_index.specs.Texts.{at_text, text_cmp}
use Rattle.zq_index.proofs.Orders.{text_exact, text_total}
use Rattle.zq_hat.specs.declared.sources.Sources.{Sources}
use Rattle.zq_hat.specs.Sources.{SourceTexts, empty, sources_at, with_source}
use Rattle.zq_hat.specs.Listings.{AreListed, Listing, behind, is_listed, with_listing}

sorted_nothing : IsStrictlySortedBy text_cmp []
unfolding IsStrictlySortedBy
sorted_nothing = tt

sorted_listed : (ls : List Listing) (all : SourceTexts) → IsStrictlySortedBy text_cmp (keys_of all) → IsStrictlySortedBy text_cmp (keys_of (fold with_listing all ls))
sorted_listed [] all s = s
sorted_listed (l ∷ ls) all s = sorted_listed ls (with_listing all l) (sorted_in text_total all l.0 (with_source l.1 (sources_at l.0 all)) s)

module _ (key : List ℕ) where
  found : (l : Listing) (all : SourceTexts) → at_text key (with_listing all l) ≡ cond (is_listed key l) (Some (with_source l.1 (sources_at l.0 all))) (at_text key all)
  found l all = found_after_insertion text_total text_exact l.0 key (with_source l.1 (sources_at l.0 all)) all

  there_by : (b : Bool) (s : Sources) (o : Option Sources) (rest : Bool) → (is_some (cond b (Some s) o) || rest) ≡ (is_some o || (b || rest))
  there_by true s None rest = refl
  there_by true s (Some t) rest = refl
  there_by false s o rest = refl

  there : (ls : List Listing) (all : SourceTexts) → is_some (at_text key (fold with_listing all ls)) ≡ (is_some (at_text key all) || list_any (is_listed key) ls)
  there [] all = by (is_some (at_text key all))
    where
      by : (b : Bool) → b ≡ (b || false)
      by true = refl
      by false = refl
  there (l ∷ ls) all =
      there ls (with_listing all l)
      ∙ ap (λ o. is_some o || list_any (is_listed key) ls) (found l all)
      ∙ there_by (is_listed key l) (with_source l.1 (sources_at l.0 all)) (at_text key all) (list_any (is_listed key) ls)

  joins_by : (b : Bool) (l : Listing) (ls : List Listing) (all : SourceTexts) → is_listed key l ≡ b
      → fold behind (option_map_or (λ (s : Sources). s) (cond b (Some (with_source l.1 (sources_at l.0 all))) (at_text key all)) empty) (filter (is_listed key) ls) ≡ fold behind (sources_at key all) (cond b (l ∷ filter (is_listed key) ls) (filter (is_listed key) ls))
  joins_by true l ls all is = ap (λ k. fold behind (with_source l.1 (sources_at k all)) (filter (is_listed key) ls)) (same_key text_total text_exact l.0 key is)
  joins_by false l ls all is = refl

  joins : (ls : List Listing) (all : SourceTexts) → sources_at key (fold with_listing all ls) ≡ fold behind (sources_at key all) (filter (is_listed key) ls)
  joins [] all = refl
  joins (l ∷ ls) all =
      joins ls (with_listing all l)
      ∙ ap (λ o. fold behind (option_map_or (λ (s : Sources). s) o empty) (filter (is_listed key) ls)) (found l all)
      ∙ joins_by (is_listed key l) l ls all refl

pub are_listed : (ls : List Listing) → AreListed ls (fold with_listing [] ls)
are_listed ls = record { ordered = sorted_listed ls [] sorted_nothing; keys = λ key. there key ls []; sources = λ key. joins key ls [] }
