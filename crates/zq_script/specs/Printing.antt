-- The print of a script, and of the lines that are still to be read.
use Rattle.std.specs.Prelude.{◌≡◌, ℕ, List, ◌++◌, Option, Result, Ok, Err}
use Rattle.std.specs.List.{AllByRecursion}
use Rattle.zq_machine.specs.declared.call.Call.{Call}
use Rattle.zq_machine.specs.State.{State}
use Rattle.zq_machine.specs.Machine.{steps_from}
use Rattle.zq_script.specs.declared.script.Script.{Script}
use Rattle.zq_script.specs.Running.{script_print}
use Rattle.zq_script.specs.Script.{Parts, with_line}
use Rattle.zq_lines.specs.Steps.{steps_words}
use Rattle.zq_lines.specs.StepsFit.{FitsStep}

-- the print of a script, or the number of the first bad line
abbrev pub printed : Result Script ℕ → Result (List ℕ) ℕ
printed (Ok s) = Ok (script_print s)
printed (Err n) = Err n

-- the print of the steps that the calls of the first part are answered in a state, or the number of the first bad line
abbrev pub printed_by : State → Result Parts ℕ → Result (List ℕ) ℕ
printed_by s (Ok parts) = Ok (steps_words (steps_from s parts.0))
printed_by s (Err n) = Err n

-- what is printed, and what is printed then
abbrev pub printed_on : List ℕ → Result (List ℕ) ℕ → Result (List ℕ) ℕ
printed_on print (Ok more) = Ok (print ++ more)
printed_on print (Err n) = Err n

-- the steps that the calls of the first part are answered in a state fit their lines
abbrev pub FitsRun : State → Result Parts ℕ → Type 0
FitsRun s (Ok parts) = AllByRecursion FitsStep (steps_from s parts.0)
FitsRun s (Err n) = Unit {0}

-- the call of a line, if it is one, is answered and printed: what is printed then of any other lines is what is printed before of the line and those
pub record Prints (o : Option Call) (s : State) (print : List ℕ) (then : State) (more : List ℕ) : Type 0 where
  pub told : (n : ℕ) (r : Result Parts ℕ) → printed_on more (printed_by then r) ≡ printed_on print (printed_by s (with_line n o r))
  pub fits : (n : ℕ) (r : Result Parts ℕ) → FitsRun then r → FitsRun s (with_line n o r)
