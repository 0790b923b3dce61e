use Rattle.std.proofs.Common.{◌≡◌, map, filter, take}
use Rattle.zq_lines.specs.Lines.{deny_text, at_side}
use Rattle.zq_lines.proofs.lines.texts_at.Given as goal

abbrev pub invariant-denies : goal.invariant-denies
invariant-denies l = l.texts ≡ map deny_text (filter (at_side l.entry) (take l.deny-index l.denies))
