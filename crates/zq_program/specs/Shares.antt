-- What a script leaves that several workers ran on one gateway.
use Rattle.std.specs.Prelude.{◌≡◌, ◌⊎◌, ℕ, ◌<◌, ◌≤◌, List, [], fold, Some}
use Rattle.std.specs.List.{flat_map}
use Rattle.zq_machine.specs.declared.call.Call.{Call}
use Rattle.zq_machine.specs.Configs.{Settings}
use Rattle.zq_shared.specs.Stored.{requests_in}
use Rattle.zq_shared.specs.Sharing.{AreOrderly}
use Rattle.zq_shared.specs.Answers.{AllListed, behind}
use Rattle.zq_shared.specs.Tallies.{Tallied, merged, others_in}
use Rattle.zq_program.specs.Working.{Working}

-- the calls of all parts
abbrev pub all_calls : List (List Call) → List Call
all_calls parts = flat_map (λ (p : List Call). p) parts

-- what a caller has with what workers have
abbrev pub gathered : Tallied → List Working → Tallied
gathered t ws = fold (λ (u : Tallied) (w : Working). merged u w.tally) t ws

-- what is stored of these calls, on a gateway of that configuration with that many slots: as many calls that are neither requests nor reports; as many requests, or fewer and then at least as many as there are slots; each stored call reports a reply or is one of them; and at each point of them no more requests wait for something than there are slots, and each report is of a reply in flight, of a request of which no face owes a final any more
pub record HasStored (config : Settings) (slots : ℕ) (calls stored : List Call) : Type 0 where
  pub others : others_in stored ≡ others_in calls
  pub asked : (requests_in stored ≡ requests_in calls) ⊎ ((requests_in stored < requests_in calls) × (slots ≤ requests_in stored))
  pub among : AllListed (Some calls) stored
  pub orderly : AreOrderly slots (behind config []) stored
