use Rattle.std.proofs.Common.{◌≡◌, ◌<◌, ◌++◌, ◌∷◌, [], ℕ, List, length, sym, subst, ◌∙◌, refl, arith}
use Rattle.zq_names.specs.Names.{SplitsAt, rows, text_at}
use Rattle.zq_names.specs.Closing.{IsRun}
use Rattle.zq_names.proofs.Rows.{length-rows, text_there}
use Rattle.zq_names.proofs.ClosingLemmas.{run-root, run-below}
use Rattle.zq_names.proofs.close.run_of.Goals as goal

pub returns-then-place-eq0 : goal.returns-then-place-eq0
returns-then-place-eq0 c =
    let ns = rows c.args.nodes.now.slots c.args.order.now in
    let n = length-rows c.args.nodes.now.slots c.args.order.now in
    let R : ℕ → Type 0 = λ (k : ℕ). IsRun ns (text_at ns k) k 1 (length c.args.order.now) in
    let E : ℕ → Type 0 = λ (e : ℕ). IsRun ns (text_at ns 0) 0 1 e in
    let L : ℕ → Type 0 = λ (e : ℕ). IsRun ns (text_at ns c.args.place) c.args.place 1 e in
    subst L (sym c.len.ensures) (subst R (sym c.if-place-eq0.true) (subst E n (run-root c.args.order.now ns c.requires.table.names (omega (arith, n, c.requires.in_range)))))

pub returns : goal.returns
returns c =
    let nodes = c.args.nodes.now.slots in
    let order = c.args.order.now in
    let ns = rows nodes order in
    let n = length-rows nodes order in
    let place = c.args.place in
    let lt = c.requires.in_range in
    let text : c.as_bytes-text.result.now ≡ text_at ns place = c.as_bytes-text.ensures.value ∙ c.as_str.ensures ∙ text_there nodes order place c.get.result c.index.result.now lt c.get.ensures.here c.index.ensures in
    let F : List ℕ → Type 0 = λ (t : List ℕ). SplitsAt ns (t ++ 47 ∷ []) c.lower_bound.result in
    let L : List ℕ → Type 0 = λ (t : List ℕ). SplitsAt ns (t ++ 48 ∷ []) c.lower_bound-2.result in
    let past : 0 < place = omega (arith, c.if-place-eq0.false) in
    run-below order ns (text_at ns place) place _ _ c.requires.table.names (omega (arith, n, lt)) past refl (subst F text c.lower_bound.ensures) (subst L text c.lower_bound-2.ensures)
