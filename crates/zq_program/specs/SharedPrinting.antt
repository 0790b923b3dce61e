-- What the print of a shared run may be.
use Rattle.std.specs.Prelude.{◌≡◌, ℕ, List, Result, Ok, Err}
use Rattle.zq_machine.specs.declared.call.Call.{Call}
use Rattle.zq_machine.specs.Headline.{RunPromise}
use Rattle.zq_script.specs.Running.{print_by}
use Rattle.zq_script.specs.declared.script.Script.{Script}
use Rattle.zq_program.specs.Shares.{HasStored, all_calls}
use Rattle.zq_program.specs.Printing.{shared_print}

-- the print of a shared run of the script: of some calls that may be stored of all its calls, on that many slots; their steps keep what each run promises
abbrev pub IsSharedPrint : ℕ → Script → List ℕ → Type 0
IsSharedPrint slots s print = (stored : List Call) × HasStored s.config slots (all_calls s.parts) stored × RunPromise s.config stored × (print ≡ shared_print s.head s.config stored)

-- what is printed for a script, or for the first bad line
abbrev pub MayPrint : ℕ → Result Script ℕ → List ℕ → Type 0
MayPrint slots (Ok s) print = IsSharedPrint slots s print
MayPrint slots (Err n) print = print ≡ print_by (Err n)
