use Rattle.std.proofs.Common.{◌≡◌, ◌∙◌, ℕ, Bool, List, Option, Some, None, refl, ap, sym}
use Rattle.zq_key.specs.Key.{is_key}
use Rattle.zq_tables.specs.FaceTexts.{declared_key}
use Rattle.zq_tables.specs.declared.decl.DeclKey.{DeclKey}
use Rattle.zq_tables.proofs.Choosing.{IsNew, new_is, nonwild_key}
use Rattle.zq_tables.proofs.IdLemmas.{next_unused}
use Rattle.zq_tables.specs.Naming.{FaceNaming, change_naming, face_naming, with_told_number}
use Rattle.zq_tables.proofs.Emptied.{changed_idle}
use Rattle.zq_tables.proofs.naming.Naming.declared.Goals as goal

chosen : (n : FaceNaming) (local may : Bool) (t : List ℕ) (d : DeclKey) (id : ℕ) → d ≡ declared_key n local may t → d.declared ≡ Some id → IsNew n t id
chosen n local may t d id is new = new_is n local may t id (sym (ap (λ (k : DeclKey). k.declared) is) ∙ new)

-- no number is new
pub returns-in_default-clause-ok : goal.returns-in_default-clause-ok
returns-in_default-clause-ok c =
    let face = c.args.face.0 in
    let t = c.args.text.now in
    let s = c.args.self.now in
    sym (changed_idle face (with_told_number t None) s refl) ∙ ap (λ (o : Option ℕ). change_naming face (with_told_number t o) s) (sym c.in_default.is)

pub put_given-requires-clause-next : goal.put_given-requires-clause-next
put_given-requires-clause-next c = (chosen (face_naming c.args.face.0 c.args.self.now) c.args.local c.args.may c.args.text.now c.in_ok-key.key c.in-Some.id c.in_ok-key.ensures c.in-Some.is).next

pub put_given-requires-clause-key : goal.put_given-requires-clause-key
put_given-requires-clause-key c =
    let t = c.args.text.now in
    let new = chosen (face_naming c.args.face.0 c.args.self.now) c.args.local c.args.may t c.in_ok-key.key c.in-Some.id c.in_ok-key.ensures c.in-Some.is in
    ap is_key c.nonwild.ensures ∙ nonwild_key t c.requires new.part

pub returns-clause-fresh : goal.returns-clause-fresh
returns-clause-fresh c =
    let n = face_naming c.args.face.0 c.args.self.now in
    let new = chosen n c.args.local c.args.may c.args.text.now c.in_ok-key.key c.in-Some.id c.in_ok-key.ensures c.in-Some.is in
    rw c.in-Some.is (next_unused n.theirs n.ours c.in-Some.id new.next)
