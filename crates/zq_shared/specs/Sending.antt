-- What a link takes of messages that are sent one after another, up to its first fault.
use Rattle.std.specs.Prelude.{◌≡◌, ℕ, ◌+◌, ◌-◌, ◌^◌, ◌≤◌, min, List, ◌++◌, length, take, Option, Result, Ok, Err}
use Rattle.zq_machine.specs.declared.call.Call.{Call}
use Rattle.zq_machine.specs.Configs.{Settings}
use Rattle.zq_machine.specs.Handing.{Handed}
use Rattle.zq_io.specs.Streams.{Rose}
use Rattle.zq_shared.specs.Links.{leaving, with_taken}
use Rattle.zq_shared.specs.Answers.{AllFinals}

-- a link while messages are sent: what it took, its faults, and how many were sent; at `Err` up to a fault, behind which nothing is sent
pub record Mail : Type 0 where
  pub taken : Option (List Handed)
  pub faults : ℕ
  pub sent : Result ℕ ℕ

-- a count that stands at its end
abbrev pub counted : ℕ → ℕ
counted n = min n (2 ^ 64 - 1)

-- the count of faults rose, and did not fall
abbrev pub Fails : ℕ → ℕ → Type 0
Fails before now = Rose before now × (before ≤ now)

-- all of the messages were taken, or those before a fault
abbrev pub Takes : ℕ → List Handed → Mail → Mail → Result ℕ ℕ → Type 0
Takes n hs old new (Ok m) = (counted m ≡ counted (n + length hs)) × (new.taken ≡ with_taken old.taken hs) × (new.faults ≡ old.faults)
Takes n hs old new (Err m) = (k : ℕ) × (k ≤ length hs) × (m ≡ counted (n + k)) × (new.taken ≡ with_taken old.taken (take k hs)) × Fails old.faults new.faults

-- the messages were sent, if there was no fault before
abbrev pub GoesOn : Result ℕ ℕ → List Handed → Mail → Mail → Type 0
GoesOn (Ok n) hs old new = Takes n hs old new new.sent
GoesOn (Err n) hs old new = new ≡ old

-- the same of those that leave
abbrev pub Delivers : List Handed → Mail → Mail → Type 0
Delivers hs old new = GoesOn old.sent (leaving hs) old new

-- finals were sent, if there was no fault before
abbrev pub DeliversFinals : Settings → Option (List Call) → Mail → Mail → Type 0
DeliversFinals config list old new = (finals : List Handed) × AllFinals config list finals × Delivers finals old new

-- the link took the messages that leave, and then finals
abbrev pub Sends : Settings → Option (List Call) → List Handed → Option (List Handed) → Option (List Handed) → Type 0
Sends config list handed before now = (finals : List Handed) × AllFinals config list finals × (now ≡ with_taken before (leaving (handed ++ finals)))

-- the link took a beginning of these, so many as are counted
abbrev pub Breaks : Settings → Option (List Call) → List Handed → ℕ → Option (List Handed) → Option (List Handed) → Type 0
Breaks config list handed sent before now = (finals : List Handed) × AllFinals config list finals × (n : ℕ) × (n ≤ length (leaving (handed ++ finals))) × (sent ≡ counted n) × (now ≡ with_taken before (take n (leaving (handed ++ finals))))
