use Rattle.std.proofs.Common.{◌≡◌, drop}
use Rattle.zq_admin.specs.Answering.{first_asked}
use Rattle.zq_admin.proofs.asking.first_asked.Given as goal

abbrev pub invariant-loop-h : goal.invariant-loop-h
invariant-loop-h l = first_asked l.own (drop l.h-index l.handed) ≡ first_asked l.own l.handed
