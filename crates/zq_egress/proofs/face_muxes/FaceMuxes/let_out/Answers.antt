use Rattle.std.proofs.Common.{◌≡◌, ◌∙◌, List, [], refl, sym, ap}
use Rattle.std.proofs.lemmas.List.{nil_from_length}
use Rattle.zq_machine.specs.Gates.{Gates, let_out}
use Rattle.zq_machine.specs.Handing.{Handed}
use Rattle.zq_egress.specs.Exits.{left_by}
use Rattle.zq_egress.proofs.Each.{none_out}
use Rattle.zq_egress.proofs.face_muxes.FaceMuxes.let_out.Goals as goal

pub returns-then-is_empty-clause-out : goal.returns-then-is_empty-clause-out
returns-then-is_empty-clause-out c =
    let text = c.args.text.now in
    let hs : List Handed = c.args.handed.now in
    let empty : ◌≡◌ {A = Gates} c.args.self.now [] = sym c.self.view_is ∙ nil_from_length c.self.inside.gates.entries (c.if-is_empty.ensures.0 refl) in
    ap (let_out text hs) empty
    ∙ none_out text hs c.requires.whole
    ∙ (λ j. record { handed = left_by (sym c.new.ensures.items j) hs; gates = sym empty j })
