use Rattle.std.proofs.Common.{◌≡◌, ◌++◌, take}
use Rattle.std.specs.List.{flat_map}
use Rattle.zq_lines.specs.CallLines.{deny_item}
use Rattle.zq_lines.proofs.calls.push_denies.Given as goal

abbrev pub invariant-loop-text : goal.invariant-loop-text
invariant-loop-text l = l.out.items ≡ l.fn.out.items ++ flat_map (deny_item l.side) (take l.text-index l.texts)
