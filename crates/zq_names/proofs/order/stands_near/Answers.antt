use Rattle.std.proofs.Common.{◌≡◌, ◌<◌, ℕ, List, length, sym, subst, ap, ◌∙◌, arith}
use Rattle.std.proofs.lemmas.List.{get_or_default}
use Rattle.zq_names.specs.Texts.{IsBelow}
use Rattle.zq_names.specs.Names.{rows, row, texts, text_at}
use Rattle.zq_names.proofs.Rows.{length-texts-rows, text_at-rows}
use Rattle.zq_names.proofs.order.stands_near.Goals as goal

pub returns-then-is_below : goal.returns-then-is_below
returns-then-is_below c _ =
    let nodes = c.args.nodes.now.slots in
    let order = c.args.order.now in
    let ts = texts (rows nodes order) in
    let near = c.args.near in
    let here : near < length order = omega arith in
    let n = length-texts-rows nodes order in
    let text : (row nodes c.get.result).text ≡ text_at (rows nodes order) near = ap (λ (j : ℕ). (row nodes j).text) c.get.ensures.number ∙ sym (text_at-rows nodes order near here) in
    let B : List ℕ → Type 0 = IsBelow c.args.text.now in
    c.requires.names.closed c.args.text.now (text_at (rows nodes order) near) (near, omega (arith, n, here), get_or_default ts near _ _ (omega (arith, n, here))) (subst B text (c.is_below.ensures.below c.if-is_below.true))
