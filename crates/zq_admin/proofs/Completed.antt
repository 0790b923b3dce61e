-- A run of a script without a fault is done, or found no memory.
use Rattle.std.proofs.Common.{ℕ, List, Option, Some, None, arith}
use Rattle.std.specs.Prelude.{IfSome}
use Rattle.zq_io.specs.declared.transfer.TheConstants.{LIMIT}
use Rattle.zq_io.specs.Streams.{IsLonger}
use Rattle.zq_script.specs.declared.running.Status.TheVariants as status
use Rattle.zq_script.specs.Running.{EndsWell, IsFit}

pub read_fails : (given : Option (List ℕ)) (Q R : Type 0) → Q → IfSome given (λ input. IsFit input → (Q → ⊥) → R → EndsWell status.ReadFault)
read_fails None Q R q = tt
read_fails (Some input) Q R q = λ fit quiet r. absurd (quiet q)

pub too_long : (given : Option (List ℕ)) (Q R : Type 0) → IsLonger LIMIT given → IfSome given (λ input. IsFit input → Q → R → EndsWell status.TooLong)
too_long None Q R long = tt
too_long (Some input) Q R long = λ fit q r. absurd (omega (arith, long, fit.0))

pub no_memory : (given : Option (List ℕ)) (Q R : Type 0) → IfSome given (λ input. IsFit input → Q → R → EndsWell status.Memory)
no_memory None Q R = tt
no_memory (Some input) Q R = λ fit q r. tt
