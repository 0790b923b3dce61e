use Rattle.std.proofs.Common.{◌≡◌, ◌∙◌, ℕ, List, sym, ap}
use Rattle.std.specs.Ordering.{nat_cmp}
use Rattle.std.specs.Map.{set_value}
use Rattle.std.specs.BTreeMap.{is_at}
use Rattle.std.proofs.lemmas.Map.Steps.{set_value_same}
use Rattle.std.proofs.lemmas.Result.{on_err_weaker}
use Rattle.zq_tables.specs.FaceIds.{FaceIds}
use Rattle.zq_tables.proofs.Holds.{live_face}
use Rattle.zq_tables.proofs.held.declare_at.Goals as goal

pub declare-requires-clause-live : goal.declare-requires-clause-live
declare-requires-clause-live c = live_face c.args.names.now c.args.faces.now.entries c.args.face c.in-Some.nodes.now c.requires.live (sym c.in-Some.ensures.value)

pub returns-clause-faces : goal.returns-clause-faces
returns-clause-faces c =
    let nodes = c.in-Some.nodes.now in
    let written : (c.get_mut.follows.lender nodes).entries ≡ set_value (is_at (nat_cmp c.args.face)) c.args.faces.now.entries nodes = (c.get_mut.follows.holds nodes).0 in
    let back = written ∙ set_value_same (is_at (nat_cmp c.args.face)) c.args.faces.now.entries nodes (sym c.in-Some.ensures.value) in
    let whole = λ (n : FaceIds). record nodes { numbers = n } in
    let asked = ap (λ (i : List (ℕ × ℕ)). record c.declare.new.self { interests = i }) c.declare.ensures.interests in
    let same = λ (e : c.declare.new.self.numbers ≡ nodes.numbers). asked ∙ ap (λ (q : List (ℕ × ℕ)). record c.declare.new.self { queryables = q; interests = nodes.interests }) c.declare.ensures.queryables ∙ ap whole e in
    on_err_weaker c.declare.result (λ e. ap (λ n. (c.get_mut.follows.lender n).entries) (same e) ∙ back) c.declare.ensures.err
