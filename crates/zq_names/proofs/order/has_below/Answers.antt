use Rattle.std.proofs.Common.{[], ◌∷◌, ◌++◌, ◌≡◌, ◌<◌, ℕ, List, length, get_or, subst, ◌∙◌, arith}
use Rattle.std.proofs.lemmas.List.{get_or_default}
use Rattle.zq_names.specs.Texts.{IsBelow}
use Rattle.zq_names.specs.Names.{NameEntry, SplitsAt, rows, texts, row}
use Rattle.zq_names.proofs.Rows.{length-texts-rows, length-rows, text_at-rows}
use Rattle.zq_names.proofs.Below.{first_below}
use Rattle.zq_names.proofs.order.has_below.Goals as goal

split_at_text : {ns : List NameEntry} {bytes : List ℕ} {at : ℕ} (text : List ℕ) → bytes ≡ text → SplitsAt ns (bytes ++ 47 ∷ []) at → SplitsAt ns (text ++ 47 ∷ []) at
split_at_text {ns} {bytes} {at} text same split = let S : List ℕ → Type 0 = λ (t : List ℕ). SplitsAt ns (t ++ 47 ∷ []) at in subst S same split

pub returns-then-at-len-clause-none : goal.returns-then-at-len-clause-none
returns-then-at-len-clause-none c _ has =
    let found = first_below _ _ _ c.requires.rising (split_at_text c.args.text.now c.as_bytes.ensures.value c.lower_bound_near-at.ensures) has in
    omega (arith, found.0, length-rows c.args.nodes.now.slots c.args.order.now)

pub returns-clause-below : goal.returns-clause-below
returns-clause-below c was_true =
    let nodes = c.args.nodes.now.slots in
    let order = c.args.order.now in
    let here : c.lower_bound_near-at.result < length order = omega arith in
    let same = text_at-rows nodes order c.lower_bound_near-at.result here in
    ((row nodes (get_or order c.lower_bound_near-at.result 0)).text, (c.lower_bound_near-at.result, omega (arith, length-texts-rows nodes order), get_or_default (texts (rows nodes order)) c.lower_bound_near-at.result _ [] (omega (arith, length-texts-rows nodes order)) ∙ same), rw c.get.ensures.number at (c.is_below.ensures.below was_true))

pub returns-clause-none : goal.returns-clause-none
returns-clause-none c was_false has =
    let nodes = c.args.nodes.now.slots in
    let order = c.args.order.now in
    let here : c.lower_bound_near-at.result < length order = omega arith in
    let found = first_below _ _ _ c.requires.rising (split_at_text c.args.text.now c.as_bytes.ensures.value c.lower_bound_near-at.ensures) has in
    let B : List ℕ → Type 0 = IsBelow c.args.text.now in
    (rw c.get.ensures.number at (c.is_below.ensures.not_below was_false)) (subst B (text_at-rows nodes order c.lower_bound_near-at.result here) found.1)
