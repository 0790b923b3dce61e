-- Messages of a call that is no request, through the gates of faces.
use Rattle.std.specs.Prelude.{◌≡◌, List, []}
use Rattle.zq_machine.specs.Gates.{Gates, IsWhole, let_out}
use Rattle.zq_machine.specs.Handing.{Handed}
use Rattle.zq_egress.specs.Exits.{HasText, left_by}
use Rattle.zq_egress.specs.declared.exits.Exit.{Exit}

-- a message that is no request, and of which all leaves before the gate of its face
pub record IsTold (h : Handed) : Type 0 where
  pub quiet : HasText [] h
  pub whole : IsWhole h

-- messages are through the gates: this is what is known of each, and these are the gates then
abbrev pub AreOut : Gates → List Handed → Gates → List Exit → Type 0
AreOut gates hs after es = let_out [] hs gates ≡ record { handed = left_by es hs; gates = after }
