use Rattle.std.proofs.Common.{◌<◌, ℕ, List, sym, ap, subst, ◌∙◌, arith}
use Rattle.std.specs.List.{All}
use Rattle.zq_tables.specs.FaceIds.{of_id}
use Rattle.zq_tables.specs.FaceIndex.{rank, HasNode, IsIndex, Comes}
use Rattle.zq_tables.proofs.IndexLemmas.{only-with, IsIndex-put}
use Rattle.zq_tables.proofs.ids.Ids.put.Goals as goal

pub put_in-requires-clause-nodes : goal.put_in-requires-clause-nodes
put_in-requires-clause-nodes c =
    let es = c.self.inside.nodes.entries in
    let row = c.self.inside.by_node in
    let none = ap (λ (l : List (ℕ × ℕ)). of_id l c.args.id) c.self.view_is ∙ c.requires in
    let A : List (ℕ × ℕ) → Type 0 = λ (l : List (ℕ × ℕ)). All (HasNode l) row in
    subst A (sym c.in_ok-put_id.ensures.ok) (only-with es row c.args.id c.args.node none c.self.invariant.only)

pub invariant_of-self-2 : goal.invariant_of-self-2
invariant_of-self-2 c =
    let es = c.self.inside.nodes.entries in
    let row = c.self.inside.by_node in
    let new = c.put_in.new.row in
    let none = ap (λ (l : List (ℕ × ℕ)). of_id l c.args.id) c.self.view_is ∙ c.requires in
    let small : c.args.id < 65536 = omega (arith, c.ranges.id.fits) in
    let C : List (ℕ × ℕ) → Type 0 = λ (l : List (ℕ × ℕ)). Comes l row new (rank c.args.node c.args.id) c.args.id in
    let I : List (ℕ × ℕ) → Type 0 = λ (l : List (ℕ × ℕ)). IsIndex l new in
    subst I (sym c.in_ok-put_id.ensures.ok) (IsIndex-put es row new c.args.id c.args.node none small c.self.invariant (subst C c.in_ok-put_id.ensures.ok c.put_in.ensures))
