-- What several regions have on each key, one behind another.
use Rattle.std.specs.Prelude.{◌≡◌, ℕ, Bool, List, [], fold, Option}
use Rattle.std.specs.List.{list_any}
use Rattle.std.specs.List.Sorted.{IsStrictlySortedBy}
use Rattle.std.specs.Map.{keys_of}
use Rattle.std.specs.Option.{is_some, option_map_or}
use Rattle.zq_index.specs.Texts.{at_text, text_cmp}
use Rattle.zq_hat.specs.declared.sources.Source.{Source}
use Rattle.zq_hat.specs.declared.sources.Sources.{Sources}
use Rattle.zq_hat.specs.Sources.{SourceTexts, empty, extended, sources_at, sources_put, with_source}

-- one more behind others, if there is one
abbrev pub with_own : Option Source → Sources → Sources
with_own own s = option_map_or (λ o. with_source o s) own s

-- what a region has on a key, with the one behind it, joins what those before have there
abbrev pub with_sources : Option Source → SourceTexts → List ℕ × Sources → SourceTexts
with_sources own all e = sources_put e.0 (with_own own e.1) all

-- what a region has on its keys joins what those before have
abbrev pub joined : Option Source → SourceTexts → SourceTexts → SourceTexts
joined own all more = fold (with_sources own) all more

-- what a region has on its keys, behind the one that stands behind it on each, if there is one
abbrev pub Part : Type 0
Part = Option Source × SourceTexts

-- the parts before with this one
abbrev pub with_part : SourceTexts → Part → SourceTexts
with_part all p = joined p.0 all p.1

-- all parts, one behind another
abbrev pub parts_joined : List Part → SourceTexts
parts_joined ps = fold with_part [] ps

-- a part's keys stand in order, each once
abbrev pub IsOrdered : Part → Type 0
IsOrdered p = IsStrictlySortedBy text_cmp (keys_of p.1)

-- a part has the key
abbrev pub part_has : List ℕ → Part → Bool
part_has key p = is_some (at_text key p.1)

-- what a part has on the key stands behind others, with the one behind it; where it does not have the key, nothing does
abbrev pub part_on : List ℕ → Sources → Part → Sources
part_on key s p = option_map_or (λ m. extended s (with_own p.0 m)) (at_text key p.1) s

-- the keys stand in order, each once; they are those that some part has, and each has what each part has there, one behind another
pub record AreJoined (ps : List Part) (all : SourceTexts) : Type 0 where
  pub ordered : IsStrictlySortedBy text_cmp (keys_of all)
  pub keys : (key : List ℕ) → is_some (at_text key all) ≡ list_any (part_has key) ps
  pub sources : (key : List ℕ) → sources_at key all ≡ fold (part_on key) empty ps
