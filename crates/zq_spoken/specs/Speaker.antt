-- What is spoken to by lines.
use Rattle.std.specs.Prelude.{◌≡◌, ℕ, List, Option, None, Result, Ok, Err, IsSomeAnd}
use Rattle.zq_gateway.specs.Deadline.{IsNextDeadline}
use Rattle.zq_spoken.specs.Line.{asked, said}
use Rattle.zq_spoken.specs.Storages.{Did, DidTell, Spends, Stocked}
use Rattle.zq_spoken.specs.Storages as storages
use Rattle.zq_spoken.specs.Talk.{Answered, Spoken, Told}
use Rattle.zq_spoken.specs.Talk as talk
use Rattle.zq_spoken.specs.declared.refusal.OpenRefusal.{OpenRefusal}
use Rattle.zq_spoken.specs.declared.speaker.Speaker.{Speaker}
use Rattle.zq_spoken.specs.declared.speaker.Speaker.TheVariants as speaker

-- a gateway, where it is opened
abbrev pub with_gateway : Result Spoken OpenRefusal → Result Speaker OpenRefusal
with_gateway (Ok s) = Ok (speaker.Gateway s)
with_gateway (Err e) = Err e

-- a bus, where it is opened
abbrev pub with_bus : Result Stocked OpenRefusal → Result Speaker OpenRefusal
with_bus (Ok s) = Ok (speaker.Bus s)
with_bus (Err e) = Err e

-- the gateway that these bytes open, or why there is none
abbrev pub opens_gateway : List ℕ → Result Speaker OpenRefusal
opens_gateway bytes = with_gateway (talk.opens bytes)

-- the bus that these bytes open, or why there is none
abbrev pub opens_bus : List ℕ → Result Speaker OpenRefusal
opens_bus bytes = with_bus (storages.opens bytes)

-- the line was done, and what came of it is not printed yet
abbrev pub Answers : Speaker → Speaker → List ℕ → Type 0
Answers (speaker.Gateway s) (speaker.Gateway then) line = IsSomeAnd (said line) (λ c. Answered s then c)
Answers (speaker.Bus s) (speaker.Bus then) line = IsSomeAnd (asked line) (λ l. Did s then l)
Answers (speaker.Gateway s) (speaker.Bus then) line = ⊥
Answers (speaker.Bus s) (speaker.Gateway then) line = ⊥

-- the line was done, and what came of it is printed
abbrev pub Tells : Speaker → Speaker → List ℕ → Type 0
Tells (speaker.Gateway s) (speaker.Gateway then) line = IsSomeAnd (said line) (λ c. Told s then c)
Tells (speaker.Bus s) (speaker.Bus then) line = IsSomeAnd (asked line) (λ l. DidTell s then l)
Tells (speaker.Gateway s) (speaker.Bus then) line = ⊥
Tells (speaker.Bus s) (speaker.Gateway then) line = ⊥

-- the bytes are no line of its kind
abbrev pub IsNoLine : Speaker → List ℕ → Type 0
IsNoLine (speaker.Gateway s) line = said line ≡ None
IsNoLine (speaker.Bus s) line = asked line ≡ None

-- no memory was found, and the bus is spent by it; what came of its last line stays
abbrev pub IsSpentBus : Speaker → Speaker → Type 0
IsSpentBus (speaker.Bus s) (speaker.Bus then) = Spends s then
IsSpentBus (speaker.Bus s) (speaker.Gateway then) = ⊥
IsSpentBus (speaker.Gateway s) then = ⊥

-- what came of the last line is printed, if it was not
abbrev pub printed : Speaker → Speaker
printed (speaker.Gateway s) = speaker.Gateway (talk.printed s)
printed (speaker.Bus s) = speaker.Bus (storages.printed s)

-- what is there is as before, but perhaps for the print
abbrev pub IsUnprinted : Speaker → Speaker → Type 0
IsUnprinted (speaker.Gateway s) (speaker.Gateway then) = (then.state ≡ s.state) × (then.step ≡ s.step)
IsUnprinted (speaker.Bus s) (speaker.Bus then) = (then.bus ≡ s.bus) × (then.outcome ≡ s.outcome)
IsUnprinted (speaker.Gateway s) (speaker.Bus then) = ⊥
IsUnprinted (speaker.Bus s) (speaker.Gateway then) = ⊥

-- what was printed last
abbrev pub print_of : Speaker → List ℕ
print_of (speaker.Gateway s) = s.print
print_of (speaker.Bus s) = s.print

-- when it is to be told next that a moment has come
abbrev pub IsNext : Speaker → Option ℕ → Type 0
IsNext (speaker.Gateway s) next = IsNextDeadline s.state.core.queries.records next
IsNext (speaker.Bus s) next = next ≡ None
