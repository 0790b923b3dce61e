-- What callers with passes have between two calls, and what four that met have seen.
use Rattle.std.specs.Prelude.{◌≡◌, ℕ, List, []}
use mathlib.Core.List.{IsPrefix}
use Rattle.zq_pass.specs.Entries.{Entry}
use Rattle.zq_pass.specs.Passes.{PassId, Passing}

-- a caller that may call: its pass is of that state and holds nothing, and it has one part of the ledger
abbrev pub MayPass : PassId → Passing → ℕ → Type 0
MayPass home pass parts = (pass.home ≡ home) × (pass.held ≡ []) × (parts ≡ 1)

-- the list begins with what each of the four passes had seen
abbrev pub SeesAll : Passing → Passing → Passing → Passing → List Entry → Type 0
SeesAll a b c d seen = IsPrefix a.seen seen × IsPrefix b.seen seen × IsPrefix c.seen seen × IsPrefix d.seen seen
