use Rattle.std.proofs.Common.{◌≡◌, ℕ, List, Bool, true, Option, None, Some, sym, ap, ◌∙◌}
use Rattle.zq_names.specs.Names.{NameEntry}
use Rattle.zq_tables.specs.FaceIds.{FaceIds, next_id}
use Rattle.zq_tables.specs.FaceTexts.{texts_of, known, part_choice, new_choice}
use Rattle.zq_tables.proofs.FaceLemmas.{part_choice-new}
use Rattle.zq_tables.proofs.face.FaceNames.part_choice.Goals as goal

chosen : (names : List NameEntry) (face : FaceIds) (may : Bool) (p rest rest' : List ℕ) (next : Option ℕ) → may ≡ true → rest ≡ rest' → None ≡ known (texts_of names face) p → next ≡ next_id face.theirs face.ours → new_choice rest next ≡ part_choice (texts_of names face) may p rest'
chosen names face may p rest rest' next is_may same_rest none is = rw (is_may, ← same_rest) (sym (part_choice-new names face p rest next none is))

pub returns-in_default-get_next_local_id : goal.returns-in_default-get_next_local_id
returns-in_default-get_next_local_id c = chosen c.args.names.now c.args.self.now c.args.may c.args.part.now c.in_ok-suffix.suffix c.args.rest.now None c.if-not-may.false c.in_ok-suffix.ensures c.in_default.ensures c.in_default-get_next_local_id.ensures

pub returns : goal.returns
returns c = ap Some c.under-2.ensures ∙ chosen c.args.names.now c.args.self.now c.args.may c.args.part.now c.in_ok-suffix.suffix c.args.rest.now (Some c.in-Some-get_next_local_id.id) c.if-not-may.false c.in_ok-suffix.ensures c.in_default.ensures c.in-Some-get_next_local_id.ensures
