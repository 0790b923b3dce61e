use Rattle.std.proofs.Common.{◌≡◌, ◌∙◌, ℕ, List, ap, length, get_or, replicate}
use Rattle.std.proofs.Math.ListN.{length-replicate, get_or-replicate}
use Rattle.std.specs.Arc.{arc_value}
use Rattle.zq_hold.proofs.KeeperSteps.{starts}
use Rattle.zq_hold.proofs.Keepers.{starting_keeper}
use Rattle.zq_hold.proofs.holds.Holds.new.Goals as goal

pub of_words-requires : goal.of_words-requires
of_words-requires c =
    let e : c.as_slice.result.now ≡ replicate c.args.slots 1 = c.as_slice.ensures.value ∙ c.in_ok-words.ensures.items_if_clones_equal (λ y h. h) in
    starts c.args.slots c.as_slice.result.now (ap (λ (l : List ℕ). length l) e ∙ length-replicate c.args.slots 1) (λ k h. ap (λ (l : List ℕ). get_or l k 0) e ∙ get_or-replicate c.args.slots k 1 0 h)

pub invariant_of-result : goal.invariant_of-result
invariant_of-result c =
    let i = c.loop-i.invariant in
    let t = c.in_ok-table.ensures in
    let a = c.in_ok-table-2.ensures.ok in
    let m = c.in_ok-marks.ensures.items_if_clones_equal in
    let w = c.in_ok-words.ensures.items_if_clones_equal (λ y h. h) in
    let v = c.as_slice.ensures.value in
    let e : c.as_slice.result.now ≡ replicate c.args.slots 1 = v ∙ w in
    starting_keeper c.loop-i.seat (arc_value c.in_ok-table-2.table).shared c.args.slots _ c.in_ok-marks.marks.items i.0 i.1
    ((λ k. (a k).shared.table_id.words) ∙ (t.0 ∙ (ap (λ (l : List ℕ). length l) e ∙ length-replicate c.args.slots 1))) c.requires.slots.1 (m (λ y h. h))
