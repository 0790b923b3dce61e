-- The storages of a bus as the gateway serves them.
use Rattle.std.specs.Prelude.{ℕ, ◌+◌, List, [], ◌∷◌}
use Rattle.zq_local.specs.Picking.{Seat}
use Rattle.zq_store.specs.Stores.{Stored}

-- the storages, numbered from this number on
abbrev pub seats_from : ℕ → List Stored → List Seat
seats_from n [] = []
seats_from n (s ∷ more) = record { number = n; key = s.key; face = s.face; complete = s.complete } ∷ seats_from (n + 1) more

-- the storages by number
abbrev pub seats : List Stored → List Seat
seats stores = seats_from 0 stores
