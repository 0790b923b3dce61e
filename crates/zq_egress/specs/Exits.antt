-- What is known of messages that are through the gates of their faces: what leaves of each, and how what it gives was kept, so that it can be undone.
use Rattle.std.specs.Prelude.{ℕ, List, [], ◌∷◌, Option, Some, None}
use Rattle.std.specs.BTreeMap.{is_at}
use Rattle.std.specs.Map.{remove_entry, set_value}
use Rattle.std.specs.Ordering.{nat_cmp}
use Rattle.zq_namespace.specs.Denied.{HasKey, MuxState}
use Rattle.zq_namespace.specs.Undone.{mux_undone}
use Rattle.zq_machine.specs.Gates.{Gate, Gates, gate_at}
use Rattle.zq_machine.specs.Handing.{Handed, left}
use Rattle.zq_egress.specs.declared.exits.Exit.{Exit}

-- the message comes with the text that it is on, a key, if it is a request
abbrev pub HasText : List ℕ → Handed → Type 0
HasText text h = HasKey text h.message

-- messages with what leaves of them; of those that no exit stands for all leaves
abbrev pub left_by : List Exit → List Handed → List Handed
left_by [] hs = hs
left_by (e ∷ es) [] = []
left_by (e ∷ es) (h ∷ hs) = record h { leaves = left h.message e.leaves } ∷ left_by es hs

-- the gate of a face with another exit, where it has a gate
abbrev pub put_exit : ℕ → (MuxState → MuxState) → Gates → Option Gate → Gates
put_exit face f gates None = gates
put_exit face f gates (Some g) = set_value (is_at (nat_cmp face)) gates (record g { exit = f g.exit })

-- what was kept of a message is undone
abbrev pub undone_at : Exit → Handed → Gates → Gates
undone_at e h gates = put_exit h.to.0 (mux_undone e.kept h.message) gates (gate_at h.to.0 gates)

-- so it is of messages, the last first
abbrev pub undone_by : List Exit → List Handed → Gates → Gates
undone_by [] hs gates = gates
undone_by (e ∷ es) [] gates = gates
undone_by (e ∷ es) (h ∷ hs) gates = undone_at e h (undone_by es hs gates)

-- the gates of the other faces
abbrev pub without_gate : ℕ → Gates → Gates
without_gate face gates = remove_entry (is_at (nat_cmp face)) gates
