use Rattle.std.proofs.Common.{◌≡◌, ℕ, ◌<◌, ◌++◌, List, Option, Some, None, IfNone, length, take, get_or, sym, subst, ◌∙◌, arith}
use Rattle.std.specs.List.{Contains}
use Rattle.zq_names.specs.Names.{NameEntry, IsNames, texts, ids, entry_at}
use Rattle.std.proofs.lemmas.Grind.{common_steps}
use Rattle.zq_names.proofs.Adding.{Contains-text}
use Rattle.zq_names.proofs.Heads.{below_from_cut}
use Rattle.zq_names.proofs.names.Names.nonwild_prefix.Goals as goal

-- the part of a text that is held is held, up to a `/`
cut_is_there : (ns : List NameEntry) (i k : ℕ) (t : List ℕ) → IsNames (ids ns) (texts ns) → Contains (ids ns) i → t ≡ (entry_at ns i).text → k < length t → get_or t k 0 ≡ 47 → Contains (texts ns) (take k t)
cut_is_there ns i k t names live same lt slash =
    let C : List ℕ → Type 0 = Contains (texts ns) in
    names.closed (take k t) t (subst C (sym same) (Contains-text ns i live)) (below_from_cut t k lt slash)

no_node : {X : Type 0} (r : Option X) (A P : Type 0) → IfNone r (A → ⊥) → A → IfNone r P
no_node None A P absent has = absurd (absent has)
no_node (Some x) A P absent has = tt

pub returns-in-Some-clause-none : goal.returns-in-Some-clause-none
returns-in-Some-clause-none c =
    let ns = c.args.self.now in
    let t = c.expr-text.result.now in
    let cut = c.in-Some.ensures.cut in
    let k = c.in-Some.k in
    let some : 0 < k = omega (arith, c.in-Some.k-test) in
    let there = cut_is_there ns c.args.r.0 k t c.get_resource.ensures.names c.requires c.expr-text.ensures cut.in_range (cut.slash some) in
    let C : List ℕ → Type 0 = λ (u : List ℕ). Contains (texts ns) u in
    let front : c.range.result.now ≡ take k t = c.range.ensures.value ∙ grind (arith, common_steps) in
    let same : take k t ≡ (entry_at ns c.root.result.0).text ++ c.range.result.now = sym (rw (c.root.ensures.text, front)) in
    no_node c.get_resource.result _ _ c.get_resource.ensures.absent (subst C same there)
