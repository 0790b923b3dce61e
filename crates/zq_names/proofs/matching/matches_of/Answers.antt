use Rattle.std.proofs.Common.{◌∙◌, ap, ◌++◌, List, ℕ, filter, drop, take, arith}
use Rattle.zq_names.specs.Names.{rows, ids}
use Rattle.zq_names.specs.Matching.{is_match}
use Rattle.zq_names.proofs.Pruning.{looked_more}
use Rattle.zq_names.proofs.matching.matches_of.Goals as goal

pub loop-i-preserved : goal.loop-i-preserved
loop-i-preserved c =
    let bounds = c.in_ok-i.ensures.bounds in
    let ns = rows c.args.nodes.now.slots c.args.order.now in
    let m = is_match c.args.key.now in
    record {
      in_range = bounds.1;
      so_far =
          c.in_ok-i.ensures.found
          ∙ ap (λ (l : List ℕ). l ++ ids (filter m (drop c.loop-i.i (take c.in_ok-i.i ns)))) c.loop-i.invariant.so_far
          ∙ looked_more m ns c.loop-i.i c.in_ok-i.i (omega (arith, bounds.0));
    }
