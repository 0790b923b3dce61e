use Rattle.std.proofs.Common.{◌≡◌, ◌<◌, None, ℕ, List, sym, ap, subst, ◌∙◌, arith}
use Rattle.std.specs.List.{All}
use Rattle.zq_tables.specs.FaceIds.{of_id, with_id, without_id}
use Rattle.zq_tables.specs.FaceIndex.{rank, HasNode, IsIndex, Comes}
use Rattle.zq_tables.proofs.IdLemmas.{of_id-with_id, with_id-twice, without-with_id}
use Rattle.zq_tables.proofs.IndexLemmas.{only-with, IsIndex-put}
use Rattle.zq_tables.proofs.ids.Ids.put_made.Goals as goal

-- the greatest number, under which the id stands until the node is made
abbrev greatest : ℕ
greatest = 18446744073709551615

-- the entries after the id was given its node
made : (es put new : List (ℕ × ℕ)) (i n m : ℕ) → put ≡ with_id es i m → new ≡ with_id put i n → new ≡ with_id es i n
made es put new i n m is set = set ∙ ap (λ (l : List (ℕ × ℕ)). with_id l i n) is ∙ with_id-twice es i m n

-- the entries after it was taken out again
back : (es now put : List (ℕ × ℕ)) (i m : ℕ) → es ≡ now → of_id now i ≡ None → put ≡ with_id es i m → without_id put i ≡ es
back es now put i m view none is = ap (λ (l : List (ℕ × ℕ)). without_id l i) is ∙ without-with_id es i m (ap (λ (l : List (ℕ × ℕ)). of_id l i) view ∙ none)

pub set_id-requires : goal.set_id-requires
set_id-requires c = rw (c.in_ok-put_id.ensures.ok, of_id-with_id)

pub put_in-requires-clause-nodes : goal.put_in-requires-clause-nodes
put_in-requires-clause-nodes c =
    let es = c.self.inside.nodes.entries in
    let row = c.self.inside.by_node in
    let r = c.in-Ok.r.0 in
    let none = ap (λ (l : List (ℕ × ℕ)). of_id l c.args.id) c.self.view_is ∙ c.requires.new in
    let is = made es _ _ c.args.id r greatest c.in_ok-put_id.ensures.ok c.set_id.ensures.set in
    let A : List (ℕ × ℕ) → Type 0 = λ (l : List (ℕ × ℕ)). All (HasNode l) row in
    subst A (sym is) (only-with es row c.args.id r none c.self.invariant.only)

pub invariant_of-self-in-Ok : goal.invariant_of-self-in-Ok
invariant_of-self-in-Ok c =
    let es = c.self.inside.nodes.entries in
    let row = c.self.inside.by_node in
    let new = c.put_in.new.row in
    let r = c.in-Ok.r.0 in
    let none = ap (λ (l : List (ℕ × ℕ)). of_id l c.args.id) c.self.view_is ∙ c.requires.new in
    let is = made es _ _ c.args.id r greatest c.in_ok-put_id.ensures.ok c.set_id.ensures.set in
    let small : c.args.id < 65536 = omega (arith, c.ranges.id.fits) in
    let C : List (ℕ × ℕ) → Type 0 = λ (l : List (ℕ × ℕ)). Comes l row new (rank r c.args.id) c.args.id in
    let I : List (ℕ × ℕ) → Type 0 = λ (l : List (ℕ × ℕ)). IsIndex l new in
    subst I (sym is) (IsIndex-put es row new c.args.id r none small c.self.invariant (subst C is c.put_in.ensures))

pub invariant_of-self-in-Err-1 : goal.invariant_of-self-in-Err-1
invariant_of-self-in-Err-1 c =
    let es = c.self.inside.nodes.entries in
    let same = c.remove.ensures.entries ∙ back es c.args.self.now _ c.args.id greatest c.self.view_is c.requires.new c.in_ok-put_id.ensures.ok in
    let I : List (ℕ × ℕ) → Type 0 = λ (l : List (ℕ × ℕ)). IsIndex l c.self.inside.by_node in
    subst I (sym same) c.self.invariant

pub returns-in-Ok-clause-put : goal.returns-in-Ok-clause-put
returns-in-Ok-clause-put c =
    let es = c.self.inside.nodes.entries in
    let r = c.in-Ok.r.0 in
    made es _ _ c.args.id r greatest c.in_ok-put_id.ensures.ok c.set_id.ensures.set ∙ ap (λ (l : List (ℕ × ℕ)). with_id l c.args.id r) c.self.view_is

pub returns-in-Err-clause-err : goal.returns-in-Err-clause-err
returns-in-Err-clause-err c =
    let es = c.self.inside.nodes.entries in
    c.remove.ensures.entries ∙ back es c.args.self.now _ c.args.id greatest c.self.view_is c.requires.new c.in_ok-put_id.ensures.ok ∙ c.self.view_is
