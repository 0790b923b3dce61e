-- How two texts relate as keys.
use Rattle.std.specs.Prelude.{ℕ, Bool, ◌&&◌, List, Option, Some, None, if◌then◌else◌}
use Rattle.std.specs.Str.{is_utf8}
use Rattle.zq_key.specs.Key.{includes, intersects, is_key}
use Rattle.zq_io.specs.Words.{◌>>=◌}

-- the text that the bytes are, where it is a key
abbrev pub key_in : List ℕ → Option (List ℕ)
key_in bytes = if is_utf8 bytes && is_key bytes then Some bytes else None

-- whether two keys intersect, if both are keys
abbrev pub meeting : List ℕ → List ℕ → Option Bool
meeting a b = key_in a >>= (λ first. key_in b >>= (λ second. Some (intersects first second)))

-- whether the first key includes the second, if both are keys
abbrev pub including : List ℕ → List ℕ → Option Bool
including a b = key_in a >>= (λ first. key_in b >>= (λ second. Some (includes first second)))
