-- What a call may be answered, where only the name of the shared gateway is known.
use Rattle.std.specs.Prelude.{◌≡◌, ◌⊎◌, ℕ, ◌≤◌, true, List, [], ◌∷◌, All, Contains, Option, Some, None}
use Rattle.zq_machine.specs.declared.call.Call.{Call}
use Rattle.zq_machine.specs.declared.call.Call.TheVariants as call
use Rattle.zq_machine.specs.declared.call.Step.{Step}
use Rattle.zq_machine.specs.Calls.{is_sent}
use Rattle.zq_machine.specs.Configs.{Settings}
use Rattle.zq_machine.specs.Handing.{Handed}
use Rattle.zq_machine.specs.Machine.{done}
use Rattle.zq_shared.specs.Stored.{Stored, answer_to, requests_in}
use Rattle.zq_shared.specs.Tallies.{Counts, others_in}

-- the list, if there is one, has the call
abbrev pub IsListed : Option (List Call) → Call → Type 0
IsListed None c = Unit {0}
IsListed (Some l) c = Contains l c

-- the call reports a reply, or is listed
abbrev pub MayStand : Option (List Call) → Call → Type 0
MayStand list c = (is_sent c ≡ true) ⊎ IsListed list c

-- each of the calls reports a reply, or is listed
abbrev pub AllListed : Option (List Call) → List Call → Type 0
AllListed list calls = All (MayStand list) calls

-- these calls, under that configuration
abbrev pub behind : Settings → List Call → Stored
behind config calls = record { config = config; calls = calls }

-- each of the calls reports a reply or is listed, and there are at least as many that are neither requests nor reports, and at least as many requests, as a caller made
abbrev pub MayPrecede : Option (List Call) → Counts → List Call → Type 0
MayPrecede list made before = AllListed list before × (made.calls ≤ others_in before) × (made.asks ≤ requests_in before)

-- the step is what the call of a caller who made so many is answered behind such calls
abbrev pub IsAnswer : Settings → Option (List Call) → Counts → Call → Step → Type 0
IsAnswer config list made c step = (before : List Call) × (step ≡ answer_to (behind config before) c) × MayPrecede list made before

-- such calls have at least as many requests as there are slots
abbrev pub MayBeFull : Option (List Call) → Counts → ℕ → Type 0
MayBeFull list made slots = (before : List Call) × MayPrecede list made before × (slots ≤ requests_in before)

-- the message is what a report is answered behind some calls, each of which reports a reply or is listed
abbrev pub IsFinal : Settings → Option (List Call) → Handed → Type 0
IsFinal config list h = (before : List Call) × (k : ℕ) × (answer_to (behind config before) (call.Sent k) ≡ done (h ∷ [])) × AllListed list before

-- each of the messages is
abbrev pub AllFinals : Settings → Option (List Call) → List Handed → Type 0
AllFinals config list hs = All (IsFinal config list) hs
