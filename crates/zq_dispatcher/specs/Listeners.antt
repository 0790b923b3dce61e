-- Which faces can be interested in some of the keys: those of hats whose faces are interested unasked, and those of which an interest meets one of the keys.
use Rattle.std.specs.Prelude.{ℕ, false, List, [], fold, if◌then◌else◌}
use Rattle.std.specs.BTreeSet.{insert_key}
use Rattle.std.specs.Map.{keys_of}
use Rattle.std.specs.Ordering.{nat_cmp}
use Rattle.zq_message.specs.declared.message.FaceId.{FaceId}
use Rattle.zq_strategy.specs.State.{HatState}
use Rattle.zq_interests.specs.Interests.{Interests, askers}
use Rattle.zq_dispatcher.specs.Dues.{hears_as}

-- the faces of a hat join others, if its faces are interested unasked
abbrev pub with_hat : List ℕ → HatState → List ℕ
with_hat ns h = if hears_as false h then fold (insert_key nat_cmp) ns (keys_of h.faces) else ns

-- the same of a region's hat
abbrev pub with_unasked : List ℕ → ℕ × HatState → List ℕ
with_unasked ns h = with_hat ns h.1

-- a face joins others
abbrev pub with_number : List ℕ → FaceId → List ℕ
with_number ns f = insert_key nat_cmp ns f.0

-- those of whom an interest meets a key join them
abbrev pub with_askers : Interests → List ℕ → List ℕ → List ℕ
with_askers ints ns key = fold with_number ns (askers key ints)

-- the faces that can be interested in one of the keys, in order, each once
abbrev pub listeners : List (ℕ × HatState) → Interests → List (List ℕ) → List ℕ
listeners hats ints keys = fold (with_askers ints) (fold with_unasked [] hats) keys
