use Rattle.std.proofs.Common.{◌∙◌, ap}
use Rattle.std.specs.BTreeMap.{insert_entry, is_at}
use Rattle.std.specs.Ordering.{nat_cmp}
use Rattle.std.proofs.lemmas.Cmp.{nat_cmp_total}
use Rattle.std.proofs.lemmas.Map.Lookups.{exact_unsigned}
use Rattle.zq_key.proofs.Lookups.{undone}
use Rattle.zq_tables.proofs.IdLemmas.{removed_absent}
use Rattle.zq_machine.specs.Gates.{Gates}
use Rattle.zq_egress.specs.Exits.{without_gate}
use Rattle.zq_egress.proofs.face_muxes.FaceMuxes.open.Goals as goal

pub returns-in_default-clause-back : goal.returns-in_default-clause-back
returns-in_default-clause-back c none = removed_absent (is_at (nat_cmp c.args.face.0)) c.args.self.now none

pub returns-in-Ok-clause-back : goal.returns-in-Ok-clause-back
returns-in-Ok-clause-back c none =
    ap (without_gate c.args.face.0) (c.in-Ok.ensures.entries ∙ ap (λ (es : Gates). insert_entry nat_cmp es c.args.face.0 c.in-Some.gate) c.self.view_is)
    ∙ undone nat_cmp_total exact_unsigned c.args.face.0 c.in-Some.gate c.args.self.now none
