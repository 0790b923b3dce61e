-- What the code that tests a text for a key has seen so far.
use Rattle.std.specs.Prelude.{ℕ, Bool, true, false, not, ◌&&◌, ◌||◌, List, [], ◌∷◌, Option, Some, None}
use Rattle.zq_key.specs.Key.{part_fits, is_chunk, is_star, is_stars}

-- whether the parts fit, where a `$*` has just been read or not
abbrev pub parts_fit : Bool → List (Option ℕ) → Bool
parts_fit after_run [] = true
parts_fit after_run (None ∷ rest) = not after_run && parts_fit true rest
parts_fit after_run (Some c ∷ rest) = part_fits (Some c) && parts_fit false rest

-- whether a chunk fits, where `**` has just been read or not
abbrev pub chunk_fits : Bool → List ℕ → Bool
chunk_fits after_stars chunk = is_chunk chunk && not (after_stars && (is_stars chunk || is_star chunk))

-- whether the chunks fit, where `**` has just been read or not
abbrev pub chunks_fit : Bool → List (List ℕ) → Bool
chunks_fit after_stars [] = true
chunks_fit after_stars (chunk ∷ rest) = chunk_fits after_stars chunk && chunks_fit (is_stars chunk) rest
