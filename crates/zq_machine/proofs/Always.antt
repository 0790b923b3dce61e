-- What accepted calls keep, and what is told too, and what gates keep of what is handed, and the end of requests that did not leave, holds after every call, and so after every run.
use Rattle.std.proofs.Common.{◌≡◌, ℕ, List, [], ◌∷◌, Some, None}
use Rattle.zq_tables.specs.Naming.{NamingState, change_naming, with_told_number}
use Rattle.zq_machine.specs.declared.call.Call.{Call}
use Rattle.zq_machine.specs.Deciding.{accepted, refusal_of, regated, renamed, told_of}
use Rattle.zq_machine.specs.Gates.{Gates, leave_all}
use Rattle.zq_machine.specs.Handing.{Handed}
use Rattle.zq_machine.specs.Machine.{accepted_state, after, state_after}
use Rattle.zq_machine.specs.State.{Core, State}
use Rattle.zq_machine.specs.TextCalls.{read}
use Rattle.zq_machine.specs.Writing.{Place, without_unsent}
use Rattle.zq_machine.proofs.Granted.{by_granted}
use Rattle.zq_machine.proofs.Telling.{told_keeps}

-- a number that a face is told keeps it, and so does what gates keep of what is handed, and requests that are let go
pub record Stays (P : State → Type 0) : Type 0 where
  pub numbers : (core : Core) (face : ℕ) (text : List ℕ) (id : ℕ) (names : NamingState) (gates : Gates)
      → P (record { core = core; names = names; gates = gates }) → P (record { core = core; names = change_naming face (with_told_number text (Some id)) names; gates = gates })
  pub gates : (text : List ℕ) (hs : List Handed) (core : Core) (names : NamingState) (gates : Gates) → P (record { core = core; names = names; gates = gates }) → P (record { core = core; names = names; gates = (leave_all text hs gates).gates })
  pub unsent : (places : List Place) (core : Core) (names : NamingState) (gates : Gates) → P (record { core = core; names = names; gates = gates }) → P (record { core = without_unsent places core; names = names; gates = gates })

module _ (P : State → Type 0) (keeps : (s : State) (c : Call) → refusal_of s.core (read s c) ≡ None → P s → P (accepted_state s (read s c))) (stays : Stays P) where
  pub after_kept : (s : State) (c : Call) → P s → P (after s c)
  after_kept s c p =
      by_granted (λ z w. P w) s (read s c)
      (λ text z w it. stays.gates text z.handed w.core w.names w.gates it)
      (λ x places z w it. stays.unsent (x ∷ places) w.core w.names w.gates it)
      (λ h.
      told_keeps (λ names. P (record { core = accepted s.core (read s c); names = names; gates = regated s (read s c) }))
      (λ face text id names it. stays.numbers (accepted s.core (read s c)) face text id names (regated s (read s c)) it)
      (accepted s.core (read s c)) (told_of s.core (read s c)) (renamed s (read s c)) (keeps s c h p))
      (λ r. p)

  pub always : (cs : List Call) (s : State) → P s → P (state_after s cs)
  always [] s p = p
  always (c ∷ cs) s p = always cs (after s c) (after_kept s c p)
