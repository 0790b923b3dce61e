use Rattle.std.proofs.Common.{◌≡◌, List, ℕ, Option, sym, subst, ap}
use Rattle.slab.specs.Slab.{Slab}
use Rattle.zq_names.specs.Texts.{IsChainAfter, heads, heads_to}
use Rattle.zq_names.specs.Coming.{coming}
use Rattle.zq_names.specs.Names.{NameEntry, IsLinked, Adds, rows, texts}
use Rattle.zq_names.specs.declared.node.Node.{Node}
use Rattle.zq_names.proofs.Heads.{IsChain-heads, Contains-heads_self}
use Rattle.zq_names.proofs.KnownLemmas.{chain_after, Adds-rest}
use Rattle.zq_names.proofs.TextOrder.{absent_in_gap}
use Rattle.zq_names.proofs.Table.{place_id}
use Rattle.zq_names.proofs.edit.add_text.Goals as goal

kept : (old new : List (Option Node)) → new ≡ old → IsLinked old → IsLinked new
kept old new e linked = let L : List (Option Node) → Type 0 = λ (l : List (Option Node)). IsLinked l in subst L (sym e) linked

pub put_all-last-requires-clause-chain : goal.put_all-last-requires-clause-chain
put_all-last-requires-clause-chain c =
    let same = ap (λ (s : Slab Node). texts (rows s.slots c.args.order.now)) c.in_ok-reserve.ensures.rest_kept in
    let C : List (List ℕ) → Type 0 = λ (l : List (List ℕ)). IsChainAfter l (coming c.in_ok-pending.pending.items) in
    subst C (sym same) (chain_after _ (heads_to c.args.text.now c.known_end-from.result) (coming c.in_ok-pending.pending.items) (heads c.args.text.now) c.in_ok-pending.ensures.texts (IsChain-heads c.args.text.now) c.known_end-from.ensures.known)

pub returns-clause-adds : goal.returns-clause-adds
returns-clause-adds c =
    let same = ap (λ (s : Slab Node). rows s.slots c.args.order.now) c.in_ok-reserve.ensures.rest_kept in
    let A : List NameEntry → Type 0 = λ (l : List NameEntry). Adds l (rows c.put_all-last.new.nodes.slots c.put_all-last.new.order) (coming c.in_ok-pending.pending.items) in
    Adds-rest _ _ (heads_to c.args.text.now c.known_end-from.result) (coming c.in_ok-pending.pending.items) (heads c.args.text.now) c.in_ok-pending.ensures.texts c.known_end-from.ensures.known (subst A same c.put_all-last.ensures.adds)

pub unreachable-requires : goal.unreachable-requires
unreachable-requires c =
    let t = c.args.text.now in
    let same = ap (λ (s : Slab Node). rows s.slots c.args.order.now) c.in_ok-reserve.ensures.rest_kept in
    let A : List NameEntry → Type 0 = λ (l : List NameEntry). Adds l (rows c.put_all-last.new.nodes.slots c.put_all-last.new.order) (coming c.in_ok-pending.pending.items) in
    let adds = Adds-rest _ _ (heads_to c.args.text.now c.known_end-from.result) (coming c.in_ok-pending.pending.items) (heads c.args.text.now) c.in_ok-pending.ensures.texts c.known_end-from.ensures.known (subst A same c.put_all-last.ensures.adds) in
    absent_in_gap _ t _ c.in-Err.ensures.gap (adds.has t (Contains-heads_self t))

pub returns-clause-id : goal.returns-clause-id
returns-clause-id c = place_id _ _ c.args.text.now c.in-Ok.at _ c.in-Ok.ensures.found c.get.ensures.here

pub returns-in_err-reserve-clause-linked : goal.returns-in_err-reserve-clause-linked
returns-in_err-reserve-clause-linked c linked = kept _ _ (ap (λ (s : Slab Node). s.slots) c.in_err-reserve.ensures.rest_kept) linked

pub returns-clause-linked : goal.returns-clause-linked
returns-clause-linked c linked = c.put_all-last.ensures.linked (kept _ _ (ap (λ (s : Slab Node). s.slots) c.in_ok-reserve.ensures.rest_kept) linked)
