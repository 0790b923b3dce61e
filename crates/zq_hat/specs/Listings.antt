-- Who declared a key, or asks for it, one after another; and what that comes to on each key.
use Rattle.std.specs.Prelude.{◌≡◌, ℕ, Bool, List, [], filter, fold}
use Rattle.std.specs.BTreeMap.{is_at}
use Rattle.std.specs.List.{list_any}
use Rattle.std.specs.List.Sorted.{IsStrictlySortedBy}
use Rattle.std.specs.Map.{keys_of}
use Rattle.std.specs.Option.{is_some}
use Rattle.zq_index.specs.Texts.{at_text, text_cmp}
use Rattle.zq_hat.specs.declared.sources.Source.{Source}
use Rattle.zq_hat.specs.declared.sources.Sources.{Sources}
use Rattle.zq_hat.specs.Sources.{SourceTexts, empty, source_put, sources_at, with_source}

-- one who declared a key, or asks for it, behind the key
abbrev pub Listing : Type 0
Listing = List ℕ × Source

-- it joins those on its key
abbrev pub with_listing : SourceTexts → Listing → SourceTexts
with_listing all l = source_put l.0 l.1 all

-- what they come to, key by key
abbrev pub listed : List Listing → SourceTexts
listed ls = fold with_listing [] ls

-- it is on the key
abbrev pub is_listed : List ℕ → Listing → Bool
is_listed key l = is_at (text_cmp l.0) key

-- it stands behind others
abbrev pub behind : Sources → Listing → Sources
behind s l = with_source l.1 s

-- those on the key, one behind another
abbrev pub listed_on : List ℕ → List Listing → Sources
listed_on key ls = fold behind empty (filter (is_listed key) ls)

-- the keys stand in order, each once; they are those that something is listed on, and each has what is listed on it, in the order of the list
pub record AreListed (ls : List Listing) (all : SourceTexts) : Type 0 where
  pub ordered : IsStrictlySortedBy text_cmp (keys_of all)
  pub keys : (key : List ℕ) → is_some (at_text key all) ≡ list_any (is_listed key) ls
  pub sources : (key : List ℕ) → sources_at key all ≡ listed_on key ls
