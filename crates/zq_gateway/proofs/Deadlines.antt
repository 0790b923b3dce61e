-- The least deadline, by the clauses of the open requests.
use Rattle.std.proofs.Common.{◌≡◌, ℕ, List, Option, Some, None, true, false}
use Rattle.std.specs.Prelude.{IfSome, IfNone}
use Rattle.zq_query.specs.Records.{Record, has_deadline, has_earlier, owes_any}
use Rattle.zq_gateway.specs.Deadline.{IsNextDeadline}

pub next_of : (rs : List Record) (o : Option ℕ) → IfSome o (λ d. has_deadline d rs ≡ true) → IfSome o (λ d. has_earlier d rs ≡ false) → IfNone o (owes_any rs ≡ false) → IsNextDeadline rs o
next_of rs None there least none = none
next_of rs (Some d) there least none = (there, least)
