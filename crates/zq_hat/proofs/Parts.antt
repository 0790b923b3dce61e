-- Parts that join one another come to what each has on each key.
use Rattle.std.proofs.Common.{◌≡◌, ◌∙◌, sym, ap, refl, ℕ, Bool, true, false, cond, List, [], ◌∷◌, Option, Some, None, fold}
use Rattle.std.specs.Prelude.{◌||◌}
use Rattle.std.specs.BTreeMap.{is_at}
use Rattle.std.specs.declared.cmp.Ordering.TheVariants.{Less}
use Rattle.std.specs.List.{AllByRecursion, list_any}
use Rattle.std.specs.List.Sorted.{IsStrictlySortedBy}
use Rattle.std.specs.Map.{keys_of}
use Rattle.std.specs.Option.{is_some, option_map_or}
use Rattle.std.proofs.lemmas.Map.Keys.{sorted_head, sorted_tail}
use Rattle.zq_key.proofs.Lookups.{found_after_insertion, none_above, same_key, either_way}
use Rattle.zq_key.proofs.Sorted.{sorted_in}
use Rattle.zq_index.specs.Texts.{at_text, text_cmp}
use Rattle.zq_index.proofs.Orders.{text_exact, text_total}
use Rattle.zq_hat.specs.declared.sources.Source.{Source}
use Rattle.zq_hat.specs.declared.sources.Sources.{Sources}
use Rattle.zq_hat.specs.Sources.{SourceTexts, empty, extended, sources_at}
use Rattle.zq_hat.specs.Joining.{AreJoined, IsOrdered, Part, joined, part_has, part_on, parts_joined, with_own, with_part, with_sources}

sorted_nothing : IsStrictlySortedBy text_cmp []
unfolding IsStrictlySortedBy
sorted_nothing = tt

module _ (own : Option Source) where
  sorted_joined : (more all : SourceTexts) → IsStrictlySortedBy text_cmp (keys_of all) → IsStrictlySortedBy text_cmp (keys_of (joined own all more))
  sorted_joined [] all s = s
  sorted_joined (e ∷ es) all s = sorted_joined es (with_sources own all e) (sorted_in text_total all e.0 (extended (sources_at e.0 all) (with_own own e.1)) s)

  module _ (key : List ℕ) where
    -- one key of the part
    abbrev once : SourceTexts → List ℕ × Sources → Option Sources
    once all e = cond (is_at (text_cmp e.0) key) (Some (extended (sources_at e.0 all) (with_own own e.1))) (at_text key all)

    found : (e : List ℕ × Sources) (all : SourceTexts) → at_text key (with_sources own all e) ≡ once all e
    found e all = found_after_insertion text_total text_exact e.0 key (extended (sources_at e.0 all) (with_own own e.1)) all

    -- what stands on the key once the part has joined
    abbrev after : Option Sources → Option Sources → Option Sources
    after o None = o
    after o (Some m) = Some (extended (option_map_or (λ (s : Sources). s) o empty) (with_own own m))

    step_by : (b : Bool) (e : List ℕ × Sources) (es all : SourceTexts) → is_at (text_cmp e.0) key ≡ b → AllByRecursion (λ q. text_cmp e.0 q ≡ Less) (keys_of es)
        → after (cond b (Some (extended (sources_at e.0 all) (with_own own e.1))) (at_text key all)) (at_text key es) ≡ after (at_text key all) (cond b (Some e.1) (at_text key es))
    step_by true e es all is above =
        let same : e.0 ≡ key = same_key text_total text_exact e.0 key is in
        let gone : at_text key es ≡ None = ap (λ k. at_text k es) (sym same) ∙ none_above text_total text_exact e.0 es above in
        ap (after (Some (extended (sources_at e.0 all) (with_own own e.1)))) gone ∙ ap (λ k. Some (extended (sources_at k all) (with_own own e.1))) same
    step_by false e es all is above = refl

    joins : (more all : SourceTexts) → IsStrictlySortedBy text_cmp (keys_of more) → at_text key (joined own all more) ≡ after (at_text key all) (at_text key more)
    joins [] all s = refl
    joins (e ∷ es) all s =
        joins es (with_sources own all e) (sorted_tail text_cmp e.0 (keys_of es) s)
        ∙ ap (λ o. after o (at_text key es)) (found e all)
        ∙ step_by (is_at (text_cmp e.0) key) e es all refl (sorted_head text_cmp e.0 (keys_of es) s)
        ∙ ap (λ b. after (at_text key all) (cond b (Some e.1) (at_text key es))) (either_way text_total text_exact e.0 key)

sorted_parts : (ps : List Part) (all : SourceTexts) → IsStrictlySortedBy text_cmp (keys_of all) → IsStrictlySortedBy text_cmp (keys_of (fold with_part all ps))
sorted_parts [] all s = s
sorted_parts (p ∷ ps) all s = sorted_parts ps (with_part all p) (sorted_joined p.0 p.1 all s)

module _ (key : List ℕ) where
  has_by : (own : Option Source) (o m : Option Sources) (rest : Bool) → (is_some (after own key o m) || rest) ≡ (is_some o || (is_some m || rest))
  has_by own None None rest = refl
  has_by own (Some s) None rest = refl
  has_by own None (Some t) rest = refl
  has_by own (Some s) (Some t) rest = refl

  none_more : (b : Bool) → b ≡ (b || false)
  none_more true = refl
  none_more false = refl

  has : (ps : List Part) (all : SourceTexts) → AllByRecursion IsOrdered ps → is_some (at_text key (fold with_part all ps)) ≡ (is_some (at_text key all) || list_any (part_has key) ps)
  has [] all s = none_more (is_some (at_text key all))
  has (p ∷ ps) all s =
      has ps (with_part all p) s.1
      ∙ ap (λ o. is_some o || list_any (part_has key) ps) (joins p.0 key p.1 all s.0)
      ∙ has_by p.0 (at_text key all) (at_text key p.1) (list_any (part_has key) ps)

  on_by : (own : Option Source) (o m : Option Sources) → option_map_or (λ (s : Sources). s) (after own key o m) empty ≡ option_map_or (λ t. extended (option_map_or (λ (s : Sources). s) o empty) (with_own own t)) m (option_map_or (λ (s : Sources). s) o empty)
  on_by own o None = refl
  on_by own o (Some t) = refl

  on : (ps : List Part) (all : SourceTexts) → AllByRecursion IsOrdered ps → sources_at key (fold with_part all ps) ≡ fold (part_on key) (sources_at key all) ps
  on [] all s = refl
  on (p ∷ ps) all s =
      on ps (with_part all p) s.1
      ∙ ap (λ o. fold (part_on key) (option_map_or (λ (s : Sources). s) o empty) ps) (joins p.0 key p.1 all s.0)
      ∙ ap (λ s. fold (part_on key) s ps) (on_by p.0 (at_text key all) (at_text key p.1))

pub are_joined : (ps : List Part) → AllByRecursion IsOrdered ps → AreJoined ps (parts_joined ps)
are_joined ps s = record { ordered = sorted_parts ps [] sorted_nothing; keys = λ key. has key ps [] s; sources = λ key. on key ps [] s }
