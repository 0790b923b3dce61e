use Rattle.std.proofs.Common.{◌≡◌, fold, take}
use Rattle.zq_told.specs.Telling.{tell_key}
use Rattle.zq_told.proofs.plan.plan_keys.Given as goal

abbrev pub invariant-loop-key : goal.invariant-loop-key
invariant-loop-key l = l.account ≡ fold (tell_key l.way l.face.0 l.book.shelf.told) l.initial.account (take l.key-index l.keys)
