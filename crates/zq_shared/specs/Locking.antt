-- What a lock keeps.
use Rattle.std.specs.Prelude.{◌≡◌, ◌<◌, ◌≤◌, List, Option}
use Rattle.atomic_table.specs.Seated.{TableId}
use Rattle.zq_machine.specs.declared.call.Call.{Call}
use Rattle.zq_machine.specs.Configs.{Settings}
use Rattle.zq_shared.specs.Stored.{requests_in}
use Rattle.zq_shared.specs.Ties.{Sharing}
use Rattle.zq_shared.specs.Answers.{AllListed}
use Rattle.zq_shared.specs.Tallies.{Counts, others_in}

-- a name means this configuration and these holds; the stored calls report replies or are listed; the totals of the first two books are how many are stored; and a request found every slot allotted only where at least as many requests are stored as there are slots
pub record IsLocked (config : Settings) (holds : TableId) (list : Option (List Call)) (s : Sharing) (totals : Counts) : Type 0 where
  pub means : s.stored.config ≡ config
  pub home : s.slots.keeper.home ≡ holds
  pub listed : AllListed list s.stored.calls
  pub others : totals.calls ≡ others_in s.stored.calls
  pub asked : totals.asks ≡ requests_in s.stored.calls
  pub full : 0 < totals.full → holds.words ≤ requests_in s.stored.calls
