-- The print of a shared run.
use Rattle.std.specs.Prelude.{ℕ, List, ◌++◌, codes}
use Rattle.std.specs.List.{flat_map}
use Rattle.zq_lines.specs.CallLines.{call_words}
use Rattle.zq_machine.specs.declared.call.Call.{Call}
use Rattle.zq_machine.specs.Configs.{Settings}
use Rattle.zq_machine.specs.Machine.{steps}
use Rattle.zq_lines.specs.Steps.{steps_words}
use Rattle.zq_script.specs.Head.{ended}

-- calls, each as a line
abbrev pub calls_words : List Call → List ℕ
calls_words calls = flat_map (λ (c : Call). ended (call_words c)) calls

-- the lines before the calls, the stored calls, a line `--`, and the steps of their replay
abbrev pub shared_print : List ℕ → Settings → List Call → List ℕ
shared_print head config calls = head ++ calls_words calls ++ ended (codes "--") ++ steps_words (steps config calls)
