-- What is done of one of several messages, where it is there.
use Rattle.std.specs.Prelude.{ℕ, List, Option, Some, None, slice_set}
use Rattle.zq_machine.specs.declared.handed.Leaves.{Leaves}
use Rattle.zq_machine.specs.Gates.{Gates}
use Rattle.zq_machine.specs.Handing.{Handed, left}
use Rattle.zq_egress.specs.declared.exits.Exit.{Exit}
use Rattle.zq_egress.specs.Exits.{undone_at}

-- what was kept of a message is undone, if there is one
abbrev pub undone_if : Exit → Option Handed → Gates → Gates
undone_if e None gates = gates
undone_if e (Some h) gates = undone_at e h gates

-- this leaves of the message at a place, if there is one
abbrev pub left_at : Leaves → ℕ → Option Handed → List Handed → List Handed
left_at l at None hs = hs
left_at l at (Some h) hs = slice_set hs at (record h { leaves = left h.message l })
