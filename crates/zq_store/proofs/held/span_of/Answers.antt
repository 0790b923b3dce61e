use Rattle.std.proofs.Common.{◌∙◌, ◌+◌, ◌++◌, ◌∷◌, [], drop, length, sym}
use Rattle.zq_store.proofs.Range.{span_alone, span_as, span_behind}
use Rattle.zq_store.proofs.held.span_of.Goals as goal

pub returns-then-is_plain : goal.returns-then-is_plain
returns-then-is_plain c =
    let key = c.args.key.now in
    let made = c.in_ok-span_to.ensures in
    span_as key key (key ++ 0 ∷ []) _ _ made.0 made.1 (span_alone key (sym c.is_plain.ensures ∙ c.if-is_plain.true))

pub returns-in_ok-span_to-in-Some : goal.returns-in_ok-span_to-in-Some
returns-in_ok-span_to-in-Some c =
    let key = c.args.key.now in
    let front = c.in-Some.front.now in
    let made = c.in_ok-span_to-in-Some.ensures in
    span_as key front (front ++ 48 ∷ []) _ _ made.0 made.1 (span_behind key front (drop (length front + 1) key) c.in-Some.ensures.0 c.in-Some.ensures.1)
