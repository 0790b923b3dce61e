-- Which declared keys need no test against a request's key.
use Rattle.std.specs.Prelude.{◌≡◌, ◌≢◌, ℕ, ◌+◌, ◌<◌, ◌≤◌, ◌==◌, Bool, false, not, ◌&&◌, if◌then◌else◌, List, [], ◌∷◌, slice_index}
use Rattle.std.specs.declared.cmp.Ordering.TheVariants.{Less}
use Rattle.zq_key.specs.Key.{intersects}
use Rattle.zq_key.specs.Apart.{is_wild}
use Rattle.zq_index.specs.Texts.{text_cmp, is_mixed, Lists, IsListed}
use Rattle.zq_index.specs.declared.search.Step.{Step}
use Rattle.zq_index.specs.declared.search.Step.TheVariants.{Look, Jump, End}

-- the bound comes after the key, and no text from the key on and before the bound meets q
pub record Skips (q key bound : List ℕ) : Type 0 where
  pub after : text_cmp key bound ≡ Less
  pub none : (t : List ℕ) → text_cmp t key ≢ Less → text_cmp t bound ≡ Less → intersects t q ≡ false

-- the byte after that at a place between two, or one before them
pub record IsPlaceAbove (key : List ℕ) (held k at byte : ℕ) : Type 0 where
  pub ascii : byte < 128
  pub next : byte ≡ slice_index key at + 1
  pub from : held ≤ at + 1
  pub to : at ≤ k

-- whether a byte ends no chunk and is not wild
abbrev pub is_run : ℕ → Bool
is_run c = not (c == 47) && not (is_wild c)

-- the first bytes of a text, as long as they are such
abbrev pub run_of : List ℕ → List ℕ
run_of [] = []
run_of (c ∷ rest) = if is_run c then c ∷ run_of rest else []

-- the bound comes after the key, and no text from the key on and before the bound meets q, but for mixed ones
pub record SkipsUnmixed (q key bound : List ℕ) : Type 0 where
  pub after : text_cmp key bound ≡ Less
  pub none : (t : List ℕ) → text_cmp t key ≢ Less → text_cmp t bound ≡ Less → is_mixed t ≡ false → intersects t q ≡ false

-- the bound comes after the key, and no text from the key on and before the bound that is listed, where it has to be, meets q
pub record SkipsListed (lists : Lists) (q key bound : List ℕ) : Type 0 where
  pub after : text_cmp key bound ≡ Less
  pub none : (t : List ℕ) → text_cmp t key ≢ Less → text_cmp t bound ≡ Less → IsListed lists t → intersects t q ≡ false

-- no text from the key on that is listed, where it has to be, meets q
abbrev pub NoneFrom : Lists → List ℕ → List ℕ → Type 0
NoneFrom lists q key = (t : List ℕ) → text_cmp t key ≢ Less → IsListed lists t → intersects t q ≡ false

-- what the next step of a search is: to look at the key; to go on at the bound, before which none meets q; or to end
abbrev pub StepIs : Lists → List ℕ → List ℕ → List ℕ → Step → Type 0
StepIs lists q key bound Look = Unit {0}
StepIs lists q key bound Jump = SkipsListed lists q key bound
StepIs lists q key bound End = NoneFrom lists q key
