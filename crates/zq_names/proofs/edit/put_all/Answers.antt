use Rattle.std.proofs.Common.{◌≡◌, [], List, ℕ, length, get_or, subst, sym, ap, ◌∙◌, arith, inl, inr}
use Rattle.std.specs.List.{Contains}
use Rattle.std.proofs.lemmas.Iterator.Consumers.{YieldsList-turn}
use Rattle.std.proofs.lemmas.Iterator.Adapters.{YieldsList-from_vec}
use Rattle.std.proofs.lemmas.List.{take_more, take-map, length-map, get_or-map, length_push, map_push}
use Rattle.zq_names.specs.declared.edit.Newcomer.{Newcomer}
use Rattle.zq_names.specs.Texts.{IsBelow}
use Rattle.zq_names.specs.Coming.{coming}
use Rattle.zq_names.proofs.Adding.{Adds-more, kept_text}
use Rattle.zq_names.proofs.edit.put_all.Goals as goal

pub put_absent-last-requires-clause-closed : goal.put_absent-last-requires-clause-closed
put_absent-last-requires-clause-closed c s below =
    let gives = c.into_iter-newcomer-iterator.ensures.into_iter_gives in
    let all = c.args.pending.items in
    let turn = YieldsList-turn (YieldsList-from_vec all gives.0 (gives.1 ∙ c.args.pending.ok.0)) c.loop-newcomer.yielded c.loop-newcomer.newcomer-iterator c.loop-newcomer.yielded_by c.next.result c.next.new.self c.in-Some.newcomer c.in-Some.is c.next.ensures.steps in
    let k = length c.loop-newcomer.yielded in
    let text = λ (n : Newcomer). n.node.text in
    let here : get_or (coming all) k [] ≡ c.in-Some.newcomer.node.text = get_or-map text all k c.in-Some.newcomer [] turn.0 ∙ ap text (sym turn.1) in
    let B : List ℕ → Type 0 = λ (t : List ℕ). IsBelow s t in
    let C : List (List ℕ) → Type 0 = λ (l : List (List ℕ)). Contains l s in
    let earlier = c.requires.chain k (omega (arith, turn.0, length-map all text)) s (subst B (sym here) below) in
    let adds = c.loop-newcomer.invariant.adds in
    elim earlier [
      | inl there ↦ kept_text _ _ _ s adds there
      | inr made ↦ adds.has s (subst C (take-map text k all ∙ ap coming c.loop-newcomer.invariant.front) made)
    ]

pub loop-newcomer-preserved : goal.loop-newcomer-preserved
loop-newcomer-preserved c =
    let gives = c.into_iter-newcomer-iterator.ensures.into_iter_gives in
    let all = c.args.pending.items in
    let turn = YieldsList-turn (YieldsList-from_vec all gives.0 (gives.1 ∙ c.args.pending.ok.0)) c.loop-newcomer.yielded c.loop-newcomer.newcomer-iterator c.loop-newcomer.yielded_by c.next.result c.next.new.self c.in-Some.newcomer c.in-Some.is c.next.ensures.steps in
    let done = c.loop-newcomer.yielded in
    let n = length_push done c.in-Some.newcomer in
    let old = c.loop-newcomer.invariant in
    let made = c.put_absent-last.ensures in
    record {
      can = tt;
      ends = tt;
      table = made.table;
      linked = λ first. made.linked (old.linked first);
      adds = rw (map_push (λ (n : Newcomer). n.node.text) done c.in-Some.newcomer) (Adds-more _ _ _ _ _ old.adds made.adds);
      front = rw (n, take_more all (length done) c.in-Some.newcomer turn.0, old.front, ← turn.1);
      node_room = omega (arith, n, old.node_room, made.nodes_room.0, made.nodes_room.1);
      order_room = omega (arith, n, old.order_room, made.room);
    }
