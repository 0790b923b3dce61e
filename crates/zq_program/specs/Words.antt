-- What the words of a run ask to share.
use Rattle.std.specs.Prelude.{ℕ, ◌<◌, ◌≤◌, ◌==◌, List, [], ◌∷◌, Option, Some, None, if◌then◌else◌, codes, min}
use Rattle.std.specs.Str.{bytes_eq}
use Rattle.zq_io.specs.Words.{◌>>=◌, number}
use Rattle.zq_program.specs.declared.words.Sharing.{Sharing}

-- a number from 1 to the most
unfoldable pub some_of : ℕ → List ℕ → Option ℕ
some_of most word = do
  n ← number most word
  if n == 0 then None else Some n

-- `W SLOTS`: from 1 to 16 workers, each with a link of its own, and from 1 to 1024 slots
abbrev pub sharing_by : ℕ → List ℕ → List ℕ → Option Sharing
sharing_by links workers slots = some_of (min 16 links) workers >>= (λ w. some_of 1024 slots >>= (λ s. Some (record { workers = w; slots = s })))

-- what the words ask to share, if they are `share W SLOTS`
abbrev pub sharing_of : ℕ → List (List ℕ) → Option Sharing
sharing_of links [] = None
sharing_of links (name ∷ []) = None
sharing_of links (name ∷ workers ∷ []) = None
sharing_of links (name ∷ workers ∷ slots ∷ []) = if bytes_eq name (codes "share") then sharing_by links workers slots else None
sharing_of links (name ∷ workers ∷ slots ∷ other ∷ words) = None

-- the numbers are within their bounds
pub record IsSharing (links : ℕ) (s : Sharing) : Type 0 where
  pub some : (0 < s.workers) × (s.workers ≤ 16)
  pub linked : s.workers ≤ links
  pub slots : (0 < s.slots) × (s.slots ≤ 1024)
