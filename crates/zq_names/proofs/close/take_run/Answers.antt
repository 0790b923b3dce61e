use Rattle.std.proofs.Common.{◌≡◌, ◌≤◌, ◌+◌, ◌-◌, ℕ, List, sym, subst, arith}
use Rattle.zq_names.specs.Names.{NameEntry, rows, text_at}
use Rattle.zq_names.specs.Closing.{IsRun, ClosesBelow}
use Rattle.zq_names.specs.Closing.ClosesBelow.{more}
use Rattle.zq_names.proofs.ClosingLemmas.{lonely-last, run-shorter, closed-run}
use Rattle.zq_names.proofs.close.take_run.Goals as goal

pub remove_at-requires-clause-lonely : goal.remove_at-requires-clause-lonely
remove_at-requires-clause-lonely c =
    let old = c.loop-end.invariant in
    let end = c.loop-end.end in
    let le : c.args.low ≤ end - 1 = omega arith in
    let last : end - 1 + 1 ≡ end = omega arith in
    lonely-last c.loop-end.order (rows c.loop-end.nodes.slots c.loop-end.order) _ c.args.place c.args.low end (end - 1) old.sound.table.names old.run le last

pub loop-end-preserved : goal.loop-end-preserved
loop-end-preserved c =
    let old = c.loop-end.invariant in
    let end = c.loop-end.end in
    let ns = rows c.loop-end.nodes.slots c.loop-end.order in
    let t = text_at (rows c.args.nodes.now.slots c.args.order.now) c.args.place in
    let le : c.args.low ≤ end - 1 = omega arith in
    let last : end - 1 + 1 ≡ end = omega arith in
    let R : List NameEntry → Type 0 = λ (v : List NameEntry). IsRun v t c.args.place c.args.low (end - 1) in
    record {
      sound = c.remove_at.ensures.sound;
      run = subst R (sym c.remove_at.ensures.rows) (run-shorter ns t c.args.place c.args.low end (end - 1) old.run le last);
      rest = λ new closes.
          let C : List NameEntry → Type 0 = λ (v : List NameEntry). ClosesBelow v t new in
          old.rest new (more ns new t (end - 1) (omega (arith, old.run.in_range)) (old.run.inside (end - 1) le (omega arith)) (subst C c.remove_at.ensures.rows closes));
    }

empty_run : (ns : List NameEntry) (t : List ℕ) (place low end : ℕ) → end ≤ low → IsRun ns t place low end → IsRun ns t place low low
empty_run ns t place low end le run = let E : ℕ → Type 0 = λ (e : ℕ). IsRun ns t place low e in subst E (omega (arith, run.order)) run

pub returns-clause-closes : goal.returns-clause-closes
returns-clause-closes c =
    let old = c.loop-end.invariant in
    old.rest _ (closed-run _ _ _ _ (empty_run _ _ _ _ _ c.loop-end-test.false old.run))

pub returns-clause-run : goal.returns-clause-run
returns-clause-run c = empty_run _ _ _ _ _ c.loop-end-test.false c.loop-end.invariant.run
