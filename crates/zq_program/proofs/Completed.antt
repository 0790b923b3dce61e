-- A shared run without a fault is done, or found no memory.
use Rattle.std.proofs.Common.{◌≡◌, ℕ, List, Option, Some, None, Result, Ok, Err, ◌++◌, ◌∙◌, ap, refl, subst, sym, arith, append-nil}
use Rattle.std.specs.Prelude.{IfSome}
use Rattle.std.specs.Io.KnownBytes.{Consumes, IsAtEnd}
use Rattle.zq_io.specs.declared.transfer.TheConstants.{LIMIT}
use Rattle.zq_io.specs.Streams.{IsLonger}
use Rattle.zq_script.specs.declared.running.Status.{Status}
use Rattle.zq_script.specs.declared.running.Status.TheVariants as status
use Rattle.zq_script.specs.declared.script.Script.{Script}
use Rattle.zq_lines.specs.Split.{lines_of}
use Rattle.zq_script.specs.Running.{EndsWell, IsBad, IsScript}
use Rattle.zq_script.specs.Script.{script_of}
use Rattle.zq_program.specs.Running.{IsFitFor, LeavesShared, shared_script}
use Rattle.zq_program.specs.declared.words.Sharing.{Sharing}

-- no bytes are a script and have a bad line
not_both : (read : Result Script ℕ) → IsBad read → IsScript read → ⊥
not_both (Ok s) bad script = bad
not_both (Err n) bad script = script

-- a script whose run has no fault is done
pub answered : (s : Sharing) (input : List ℕ) (result : Status) (old new : Option (List ℕ)) (R T : Type 0) → LeavesShared s result input old new → (result ≡ status.WriteFault → R) → (result ≡ status.LinkFault → T) → (result ≡ status.ReadFault → ⊥) → (result ≡ status.TooLong → ⊥) → IsScript (shared_script s input) → (R → ⊥) → (T → ⊥) → EndsWell result
answered s input status.Done old new R T h w l f g i r t = tt
answered s input status.Words old new R T h w l f g i r t = absurd h
answered s input status.Script old new R T h w l f g i r t = absurd (not_both (shared_script s input) h.0 i)
answered s input status.ReadFault old new R T h w l f g i r t = absurd (f refl)
answered s input status.WriteFault old new R T h w l f g i r t = absurd (r (w refl))
answered s input status.Memory old new R T h w l f g i r t = tt
answered s input status.TooLong old new R T h w l f g i r t = absurd (g refl)
answered s input status.LinkFault old new R T h w l f g i r t = absurd (t (l refl))

-- what holds of the bytes that a source gave holds of all that it had
pub of_whole : (given new : Option (List ℕ)) (bytes piece : List ℕ) (P : List ℕ → Type 0) → Consumes given new bytes → IsAtEnd new → piece ≡ bytes → P piece → IfSome given P
of_whole None new bytes piece P p q e h = tt
of_whole (Some x) None bytes piece P p q e h = absurd p
of_whole (Some x) (Some y) bytes piece P p q e h =
    subst P (e ∙ sym (p ∙ ap (λ (l : List ℕ). bytes ++ l) q ∙ append-nil bytes)) h

pub read_fails : (workers : ℕ) (given : Option (List ℕ)) (Q R T : Type 0) → Q → IfSome given (λ input. IsFitFor workers input → (Q → ⊥) → R → T → EndsWell status.ReadFault)
read_fails workers None Q R T q = tt
read_fails workers (Some input) Q R T q = λ fit quiet r t. absurd (quiet q)

pub too_long : (workers : ℕ) (given : Option (List ℕ)) (Q R T : Type 0) → IsLonger LIMIT given → IfSome given (λ input. IsFitFor workers input → Q → R → T → EndsWell status.TooLong)
too_long workers None Q R T long = tt
too_long workers (Some input) Q R T long = λ fit q r t. absurd (omega (arith, long, fit.0))

pub no_memory : (workers : ℕ) (given : Option (List ℕ)) (Q R T : Type 0) → IfSome given (λ input. IsFitFor workers input → Q → R → T → EndsWell status.Memory)
no_memory workers None Q R T = tt
no_memory workers (Some input) Q R T = λ fit q r t. tt

-- links that are as they were are so whatever was read
pub none_sent : {L : Type 0} (workers : ℕ) (given : Option (List ℕ)) (ls : List L) → IfSome given (λ input. IsBad (script_of workers (lines_of input)) → ls ≡ ls)
none_sent workers None ls = tt
none_sent workers (Some input) ls = λ bad. refl
