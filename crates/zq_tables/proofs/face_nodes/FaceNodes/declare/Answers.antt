use Rattle.std.proofs.Common.{◌≡◌, ◌∙◌, ap, sym, subst, None, Result, Ok, Err, OnOk}
use Rattle.std.specs.Prelude.{option_map}
use Rattle.std.proofs.lemmas.Option.{none-some}
use Rattle.zq_names.specs.declared.node.ResourceId.{ResourceId}
use Rattle.zq_tables.specs.FaceIds.{of_id}
use Rattle.zq_tables.proofs.FaceLemmas.{no_mapping}
use Rattle.zq_tables.specs.Holding.{FaceHolds, Numbers}
use Rattle.zq_tables.proofs.Declared.{maps_of, mapped_id, numbers_of}
use Rattle.zq_tables.proofs.face_nodes.FaceNodes.declare.Goals as goal

ok_holds : {X E P : Type 0} (r : Result X E) (x : X) → r ≡ Ok x → OnOk r P → P
ok_holds (Ok y) x is holds = holds
ok_holds (Err e) x is holds = absurd (cc)

pub unreachable-requires : goal.unreachable-requires
unreachable-requires c =
    let old = c.self.inside.numbers in
    let new = c.register_expr.new.self in
    let absent : of_id old.theirs c.args.id ≡ None = ap (λ (f : FaceHolds). of_id f.numbers.theirs c.args.id) c.self.view_is ∙ c.requires.new in
    let registers = ok_holds c.register_expr.result c.in_default.field-0 c.in_default.is c.register_expr.ensures.ids in
    let maps = maps_of c.args.names.now c.register_expr.new.names old new c.args.id c.args.wire.now registers absent c.requires.whole in
    none-some maps.r.0 (sym (no_mapping c.get_mapping.result _ c.in-None.is c.get_mapping.ensures) ∙ mapped_id c.args.names.now c.register_expr.new.names old new c.args.id c.args.wire.now.suffix maps)

pub returns-clause-ok : goal.returns-clause-ok
returns-clause-ok c =
    let old = c.self.inside.numbers in
    let new = c.register_expr.new.self in
    let absent : of_id old.theirs c.args.id ≡ None = ap (λ (f : FaceHolds). of_id f.numbers.theirs c.args.id) c.self.view_is ∙ c.requires.new in
    let registers = ok_holds c.register_expr.result c.in_default.field-0 c.in_default.is c.register_expr.ensures.ids in
    let maps = maps_of c.args.names.now c.register_expr.new.names old new c.args.id c.args.wire.now registers absent c.requires.whole in
    let N : FaceHolds → Type 0 = λ (f : FaceHolds). Numbers c.args.names.now c.register_expr.new.names f.numbers new c.args.id c.args.wire.now.suffix c.in-Some.node.0 in
    subst N c.self.view_is (numbers_of c.args.names.now c.register_expr.new.names old new c.args.id c.in-Some.node.0 c.args.wire.now.suffix maps
    (sym (ap (option_map (λ (r : ResourceId). r.0)) c.in-Some.is) ∙ c.get_mapping.ensures))
