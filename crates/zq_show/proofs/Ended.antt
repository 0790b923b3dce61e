-- How a run ended, and whether its script was read whole.
use Rattle.std.proofs.Common.{◌≡◌, ℕ, Option, Some, None, Result, Ok, Err}
use Rattle.zq_show.specs.declared.page.BadLine.{BadLine}
use Rattle.zq_script.specs.Running.{IsEnd}
use Rattle.zq_script.specs.declared.script.Script.{Script}
use Rattle.zq_show.specs.Replay.{bad_number, Shows}
use Rattle.zq_show.specs.Shown.{end_of}
use Rattle.zq_show.specs.declared.show.Run.{Run}

-- a run ends well where its lines are a script, and else at a bad line
pub ends_as_read : (run : Run) (read : Result Script ℕ) → Shows run read → IsEnd (end_of run.bad) read
ends_as_read run (Ok s) e = rw (e.3) tt
ends_as_read run (Err n) e = ends_bad run.bad n e
  where
    ends_bad : (bad : Option BadLine) (n : ℕ) → bad_number bad ≡ Some n → IsEnd (end_of bad) (Err n)
    ends_bad None n e = cc
    ends_bad (Some b) n e = tt
