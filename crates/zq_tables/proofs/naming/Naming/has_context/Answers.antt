use Rattle.std.proofs.Common.{◌≡◌, ◌∙◌, ◌++◌, ◌<◌, ℕ, List, length, ap, subst, IfSome, IfNone, arith}
use Rattle.std.specs.List.{Contains}
use Rattle.std.proofs.lemmas.Bool.Decides.{nat_tests}
use Rattle.zq_names.specs.Names.{HasText, entry_at, texts}
use Rattle.zq_tables.specs.Naming.{has_context}
use Rattle.zq_tables.proofs.Contexts.{context_is}
use Rattle.zq_tables.proofs.naming.Naming.has_context.Goals as goal

pub returns : goal.returns
returns c =
    let names = c.self.inside.names in
    let t = c.args.text.now in
    let whole : (entry_at names c.root.result.0).text ++ t ≡ t = ap (λ (h : List ℕ). h ++ t) c.root.ensures.text in
    let F : List ℕ → Type 0 = λ (u : List ℕ). IfSome c.get_resource.result (λ r. HasText names r u) in
    let A : List ℕ → Type 0 = λ (u : List ℕ). IfNone c.get_resource.result (Contains (texts names) u → ⊥) in
    let some : 0 < length t = grind (arith, nat_tests) in
    c.is_some.ensures
    ∙ context_is names c.self.inside.faces.entries c.self.inside.rows.entries c.self.invariant c.get_resource.ensures.names c.get_resource.ensures.distinct t c.get_resource.result some (subst F whole c.get_resource.ensures.found) (subst A whole c.get_resource.ensures.absent)
    ∙ ap (has_context t) c.self.view_is
