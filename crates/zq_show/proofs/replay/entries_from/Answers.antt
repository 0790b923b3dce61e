use Rattle.std.proofs.Common.{◌≡◌, ◌∙◌, Some, None, ap, arith, true, false, rules}
use Rattle.std.proofs.lemmas.Bool.Decides.{nat_tests}
use Rattle.std.proofs.lemmas.Grind.{common_steps}
use Rattle.zq_lines.specs.Split.{lines_of}
use Rattle.zq_show.specs.declared.page.BadLine.{BadLine}
use Rattle.zq_script.specs.Script.{script_call}
use Rattle.zq_show.specs.Replay.{Adds}
use Rattle.zq_show.proofs.Replayed.{ended_entries, last_ended, line_bad, next_added, next_ended, next_unbad}
use Rattle.zq_show.proofs.replay.entries_from.Goals as goal

pub lines-preserved : goal.lines-preserved
lines-preserved c =
    let ok : c.in_ok-push_line.field-0 ≡ true = first_of ((cc), (search rules), (grind (arith, nat_tests, common_steps))) in
    let adds : Adds c.lines.number c.in-Some.line.now c.lines.machine c.lines.seen c.lines.entries c.push_line.new.machine c.push_line.new.seen c.push_line.new.entries = c.in_ok-push_line.ensures.called (first_of ((cc), (search rules), (grind (arith, common_steps)))) in
    record {
      entries = next_added c.lines.number c.lines.machine c.lines.seen c.push_line.new.machine c.push_line.new.seen c.in-Some.line.now (lines_of c.in-Some.after.now) (lines_of c.lines.rest.now) c.lines.entries c.push_line.new.entries _ c.in-Some.ensures.value adds c.lines.invariant.entries;
      bad = next_unbad c.lines.number c.lines.machine c.lines.seen c.push_line.new.machine c.push_line.new.seen c.in-Some.line.now (lines_of c.in-Some.after.now) (lines_of c.lines.rest.now) c.lines.entries c.push_line.new.entries _ c.in-Some.ensures.value adds c.lines.invariant.bad;
      after = next_ended c.lines.number c.lines.machine c.lines.seen c.push_line.new.machine c.push_line.new.seen c.in-Some.line.now (lines_of c.in-Some.after.now) (lines_of c.lines.rest.now) c.lines.entries c.push_line.new.entries _ c.in-Some.ensures.value adds c.lines.invariant.after;
      counted = omega (arith, c.in-Some.ensures.shorter, c.lines.invariant.counted);
    }

pub returns-then-not-branch-clause-entries : goal.returns-then-not-branch-clause-entries
returns-then-not-branch-clause-entries c =
    let no : c.in_ok-push_line.field-0 ≡ false = first_of ((cc), (search rules), (grind (arith, nat_tests, common_steps))) in
    let none : (script_call false c.in-Some.line.now ≡ None) × (c.push_line.new.entries ≡ c.lines.entries) = c.in_ok-push_line.ensures.bad (first_of ((cc), (search rules), (grind (arith, common_steps)))) in
    ended_entries c.lines.number c.lines.machine c.lines.seen c.in-Some.line.now (lines_of c.in-Some.after.now) (lines_of c.lines.rest.now) c.lines.entries c.push_line.new.entries _ c.in-Some.ensures.value none c.lines.invariant.entries

pub returns-then-not-branch-clause-bad : goal.returns-then-not-branch-clause-bad
returns-then-not-branch-clause-bad c =
    let no : c.in_ok-push_line.field-0 ≡ false = first_of ((cc), (search rules), (grind (arith, nat_tests, common_steps))) in
    let none : (script_call false c.in-Some.line.now ≡ None) × (c.push_line.new.entries ≡ c.lines.entries) = c.in_ok-push_line.ensures.bad (first_of ((cc), (search rules), (grind (arith, common_steps)))) in
    ap (λ (b : BadLine). Some b) c.in_ok-bad.ensures ∙ line_bad c.lines.number c.in-Some.line.now (lines_of c.in-Some.after.now) (lines_of c.lines.rest.now) _ c.in-Some.ensures.value none.0 c.lines.invariant.bad

pub returns-then-not-branch-clause-after : goal.returns-then-not-branch-clause-after
returns-then-not-branch-clause-after c =
    let no : c.in_ok-push_line.field-0 ≡ false = first_of ((cc), (search rules), (grind (arith, nat_tests, common_steps))) in
    let none : (script_call false c.in-Some.line.now ≡ None) × (c.push_line.new.entries ≡ c.lines.entries) = c.in_ok-push_line.ensures.bad (first_of ((cc), (search rules), (grind (arith, common_steps)))) in
    let still : c.push_line.new.machine ≡ c.lines.machine = c.in_ok-push_line.ensures.still (first_of ((cc), (search rules), (grind (arith, common_steps)))) in
    last_ended c.lines.machine c.push_line.new.machine c.in-Some.line.now (lines_of c.in-Some.after.now) (lines_of c.lines.rest.now) _ c.in-Some.ensures.value none.0 still c.lines.invariant.after
