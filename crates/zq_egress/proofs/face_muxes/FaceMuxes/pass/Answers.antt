use Rattle.std.proofs.Common.{◌≡◌, ◌∙◌, List, [], fold, refl, sym, ap}
use Rattle.std.proofs.lemmas.List.{nil_from_length}
use Rattle.zq_machine.specs.Gates.{Gates, without_ended}
use Rattle.zq_machine.specs.Handing.{Handed}
use Rattle.zq_egress.specs.Exits.{left_by}
use Rattle.zq_egress.proofs.Each.{none_ended}
use Rattle.zq_egress.proofs.face_muxes.FaceMuxes.pass.Goals as goal

pub returns-else-not-is_empty-clause-gates : goal.returns-else-not-is_empty-clause-gates
returns-else-not-is_empty-clause-gates c =
    let hs : List Handed = left_by c.args.exits.items c.args.handed in
    let empty : ◌≡◌ {A = Gates} c.args.self.now [] = sym c.self.view_is ∙ nil_from_length c.self.inside.gates.entries (c.if-not-is_empty.ensures.0 refl) in
    empty ∙ sym (none_ended hs) ∙ ap (λ (g : Gates). fold without_ended g hs) (sym empty)
