use Rattle.std.proofs.Common.{◌≡◌, ◌<◌, length, ap, ◌∙◌, refl, arith}
use Rattle.zq_names.specs.Texts.{parent_of}
use Rattle.zq_names.specs.Names.{rows, text_at}
use Rattle.zq_names.specs.Names.Cleans.{stops, goes}
use Rattle.zq_names.proofs.Rows.{length-rows}
use Rattle.zq_names.proofs.Cleaning.{parent_stays}
use Rattle.zq_names.proofs.edit.clean_from.Goals as goal

pub parent_place-at-requires-clause-parent : goal.parent_place-at-requires-clause-parent
parent_place-at-requires-clause-parent c =
    let old = c.loop-text.invariant in
    let ns = rows c.loop-text.nodes.slots c.loop-text.order in
    let took = c.in-Some.ensures.taken in
    let lt : c.loop-text.at < length ns = omega (arith, old.in_range, length-rows c.loop-text.nodes.slots c.loop-text.order) in
    let text : c.as_str.result.now ≡ text_at ns c.loop-text.at = c.as_str.ensures ∙ took.2 in
    rw (text, took.1) (parent_stays _ ns c.loop-text.at old.sound.table.names lt took.0.past_root)

pub loop-text-preserved : goal.loop-text-preserved
loop-text-preserved c =
    let old = c.loop-text.invariant in
    let ns = rows c.loop-text.nodes.slots c.loop-text.order in
    let later = rows c.take_idle.new.nodes.slots c.take_idle.new.order in
    let took = c.in-Some.ensures.taken in
    let lt : c.loop-text.at < length ns = omega (arith, old.in_range, length-rows c.loop-text.nodes.slots c.loop-text.order) in
    let text : c.as_str.result.now ≡ text_at ns c.loop-text.at = c.as_str.ensures ∙ took.2 in
    let place = c.parent_place-at.ensures in
    let at_parent : text_at later c.parent_place-at.result ≡ parent_of (text_at ns c.loop-text.at) = place.is ∙ ap parent_of text in
    record {
      sound = c.in-Some.ensures.sound;
      in_range = omega (arith, place.in_range, length-rows c.take_idle.new.nodes.slots c.take_idle.new.order);
      rest = λ new cleans. old.rest new (goes ns new (text_at ns c.loop-text.at) c.loop-text.at (record { in_range = lt; is = refl }) took.0 (rw (← at_parent, ← took.1) cleans));
    }

pub returns-clause-cleans : goal.returns-clause-cleans
returns-clause-cleans c =
    let old = c.loop-text.invariant in
    let ns = rows c.loop-text.nodes.slots c.loop-text.order in
    let stays = c.in_default.ensures.stays in
    let lt : c.loop-text.at < length ns = omega (arith, old.in_range, length-rows c.loop-text.nodes.slots c.loop-text.order) in
    rw stays.0 (old.rest ns (stops ns (text_at ns c.loop-text.at) c.loop-text.at (record { in_range = lt; is = refl }) stays.1))
