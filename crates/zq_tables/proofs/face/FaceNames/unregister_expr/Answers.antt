use Rattle.std.proofs.Common.{sym, subst}
use Rattle.zq_tables.specs.FaceIds.{FaceIds, AreLive}
use Rattle.zq_tables.proofs.FaceLemmas.{AreLive-without_theirs}
use Rattle.zq_tables.proofs.face.FaceNames.unregister_expr.Goals as goal

pub returns-in-Some-clause-live : goal.returns-in-Some-clause-live
returns-in-Some-clause-live c live =
    let names = c.args._names.now in
    let A : FaceIds → Type 0 = λ (f : FaceIds). AreLive names f in
    subst A (sym c.take.ensures.ids) (AreLive-without_theirs names c.args.self.now c.args.id live)
