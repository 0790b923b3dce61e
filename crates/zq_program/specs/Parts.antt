-- Parts of a script that workers may make.
use Rattle.std.specs.Prelude.{◌≡◌, ℕ, ◌+◌, ◌<◌, ◌≤◌, All, List, false, length}
use Rattle.zq_machine.specs.declared.call.Call.{Call}
use Rattle.zq_machine.specs.Calls.{is_sent}

-- a first part, and at most so many for workers; no call of a part is a report
pub record ArePartsFor (workers : ℕ) (parts : List (List Call)) : Type 0 where
  pub first : 0 < length parts
  pub others : length parts ≤ workers + 1
  pub calls : All (All (λ c. is_sent c ≡ false)) parts
