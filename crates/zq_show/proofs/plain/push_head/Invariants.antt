use Rattle.std.proofs.Common.{◌≡◌, ◌++◌, drop}
use Rattle.zq_show.specs.Numbered.{numbered}
use Rattle.zq_show.specs.Plain.{head_line_plain, head_plain}
use Rattle.zq_show.proofs.plain.push_head.Given as goal

abbrev pub invariant-loop-i : goal.invariant-loop-i
invariant-loop-i l = l.out.items ++ numbered head_line_plain l.i (drop l.i l.head) ≡ l.fn.out.items ++ head_plain l.head
