use Rattle.std.proofs.Common.{◌≡◌, ℕ, List, length, take, get_or, sym, subst, ap, ◌∙◌, arith}
use Rattle.std.specs.List.{Contains}
use Rattle.std.proofs.lemmas.Grind.{common_steps}
use Rattle.zq_names.specs.Names.{rows, texts}
use Rattle.zq_names.proofs.KnownLemmas.{known_to}
use Rattle.zq_names.proofs.order.known_end.Goals as goal

pub returns-then-stands_near : goal.returns-then-stands_near
returns-then-stands_near c =
    let ts = texts (rows c.args.nodes.now.slots c.args.order.now) in
    let t = c.args.text.now in
    let k = c.in-Some.k in
    let bytes = c.as_bytes-bytes.ensures.value in
    let found = c.in-Some.ensures.found in
    let cut : c.range.result.now ≡ take k t = c.range.ensures.value ∙ grind (arith, common_steps) in
    let C : List ℕ → Type 0 = Contains ts in
    known_to ts t k c.requires.table.names.closed (omega (arith, found.0, ap length bytes)) (ap (λ (l : List ℕ). get_or l k 0) (sym bytes) ∙ found.1) (subst C cut (c.stands_near.ensures c.if-stands_near.true))

pub loop-low-preserved-then-stands : goal.loop-low-preserved-then-stands
loop-low-preserved-then-stands c =
    let ts = texts (rows c.args.nodes.now.slots c.args.order.now) in
    let t = c.args.text.now in
    let k = c.in-Some-slash_between.k in
    let bytes = c.as_bytes-bytes.ensures.value in
    let found = c.in-Some-slash_between.ensures in
    let old = c.loop-low.invariant in
    let cut : c.range-in-Some-slash_between.result.now ≡ take k t = c.range-in-Some-slash_between.ensures.value ∙ grind (arith, common_steps) in
    let C : List ℕ → Type 0 = Contains ts in
    record {
      in_range = omega (arith, found.1);
      within = old.within;
      known = known_to ts t k c.requires.table.names.closed (omega (arith, found.1, old.within)) (ap (λ (l : List ℕ). get_or l k 0) (sym bytes) ∙ found.2) (subst C cut (c.stands.ensures c.if-stands.true));
    }
