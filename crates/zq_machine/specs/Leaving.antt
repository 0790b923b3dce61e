-- The gates of faces, by the calls of a run and what they handed alone.
use Rattle.std.specs.Prelude.{ℕ, ◌==◌, ◌&&◌, List, [], ◌∷◌, fold, Option, None, if◌then◌else◌, is_none}
use Rattle.std.specs.Option.{option_map}
use Rattle.zq_namespace.specs.Leaves.{gives}
use Rattle.zq_machine.specs.declared.call.Call.{Call}
use Rattle.zq_machine.specs.declared.call.Call.TheVariants as call
use Rattle.zq_machine.specs.declared.call.Outcome.{Outcome}
use Rattle.zq_machine.specs.declared.call.Step.{Step}
use Rattle.zq_machine.specs.Deciding.{is_accepted}
use Rattle.zq_machine.specs.Gates.{Gate, ends_given, gate_for, kept_by}
use Rattle.zq_machine.specs.Handing.{Handed}
use Rattle.zq_machine.specs.Standing.{opens}

-- a gate with the number or the id that a message gives, where the message did not leave
abbrev pub given_by : Handed → Gate → Gate
given_by h g = if is_none h.leaves && gives h.message then kept_by h.message g else g

-- a gate without what a message ends, where the message did not leave
abbrev pub ended_by : Handed → Gate → Gate
ended_by h g = if is_none h.leaves && ends_given h.message then kept_by h.message g else g

-- a message changes the gate of the face that is handed it
abbrev pub if_handed : ℕ → (Handed → Gate → Gate) → Option Gate → Handed → Option Gate
if_handed face f was h = if h.to.0 == face then option_map (f h) was else was

-- the gate of a face once all that a call hands is through: what its messages give is kept one by one, and then what they end is kept no more
abbrev pub gate_past : ℕ → List Handed → Option Gate → Option Gate
gate_past face hs was = fold (if_handed face ended_by) (fold (if_handed face given_by) was hs) hs

-- the gate of a face where an accepted call may open or close it
abbrev pub gate_from : ℕ → Call → Outcome → Option Gate → Option Gate
gate_from face (call.Open o) answer was = if opens face answer then gate_for o else was
gate_from face (call.Close f) answer was = if f.0 == face then None else was
gate_from face c answer was = was

-- the gate of a face after a call; a refused one changes nothing
abbrev pub gate_after : ℕ → Call → Step → Option Gate → Option Gate
gate_after face c t was = if is_accepted t.outcome then gate_past face t.handed (gate_from face c t.outcome was) else was

-- the gate of a face after calls that are answered by these steps
abbrev pub gate_in : ℕ → List Call → List Step → Option Gate → Option Gate
gate_in face [] ts was = was
gate_in face (c ∷ cs) [] was = was
gate_in face (c ∷ cs) (t ∷ ts) was = gate_in face cs ts (gate_after face c t was)
