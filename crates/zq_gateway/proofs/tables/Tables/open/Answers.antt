use Rattle.std.proofs.Common.{◌≡◌, ◌∙◌, sym, ap, true, false, arith, rules}
use Rattle.std.specs.Prelude.{◌+◌, ◌==◌, ◌^◌}
use Rattle.std.specs.Option.{is_some}
use Rattle.std.proofs.lemmas.Grind.{common_steps}
use Rattle.zq_machine.specs.declared.call.Opening.{Opening}
use Rattle.zq_machine.specs.Deciding.{lacks_face_number}
use Rattle.zq_machine.specs.Gates.{is_sound}
use Rattle.zq_machine.specs.State.{State, has_hat, hat_at, is_full_region}
use Rattle.zq_gateway.proofs.Openings.{opening_only}
use Rattle.zq_gateway.proofs.tables.Tables.open.Goals as goal

pub enter-requires-clause-there : goal.enter-requires-clause-there
enter-requires-clause-there c =
    let i = c.self.inside in
    let v = c.self.view_is in
    let o : Opening = c.args.asked.now in
    let has : is_some (hat_at o.region i.hats) ≡ true = first_of ((search rules), (grind (arith, common_steps))) in
    ap (λ (x : State). has_hat o.region x.core) (sym v) ∙ has

pub enter-requires-clause-ids : goal.enter-requires-clause-ids
enter-requires-clause-ids c =
    let s : State = c.args.self.now in
    let i = c.self.inside in
    let v = c.self.view_is in
    let o : Opening = c.args.asked.now in
    let has : is_some (hat_at o.region i.hats) ≡ true = first_of ((search rules), (grind (arith, common_steps))) in
    let there = ap (λ (x : State). has_hat o.region x.core) (sym v) ∙ has in
    let sound : is_sound o ≡ true = first_of ((search rules), (grind (arith, common_steps))) in
    let room = ap (λ (x : State). is_full_region o.region x.core) (sym v) ∙ sym c.is_full.ensures ∙ c.if-is_full.false in
    let below : (i.next_face + 1 == 2 ^ 32) ≡ false = first_of ((search rules), (grind (arith, common_steps))) in
    let free = ap (λ (x : State). lacks_face_number x.core) (sym v) ∙ below in
    opening_only s c.requires o there sound room free
