-- What a caller keeps, whatever its call is answered.
use Rattle.std.proofs.Common.{◌≡◌, Bool, true, false, sym, subst, arith, Result, Ok, Err, OnOk, IfErr}
use Rattle.std.specs.Prelude.{if◌then◌else◌}
use Rattle.zq_machine.specs.declared.call.Call.{Call}
use Rattle.zq_machine.specs.declared.call.Step.{Step}
use Rattle.zq_shared.specs.declared.refusal.CallRefusal.{CallRefusal}
use Rattle.zq_shared.specs.declared.refusal.CallRefusal.TheVariants as refusal
use Rattle.zq_shared.specs.Refusals.{Counts}
use Rattle.zq_shared.specs.Tallies.{HasParts, Tallied, with_ask, with_full, with_other, with_stored}
use Rattle.zq_shared.specs.Stored.{asks_request}

stored_parts : (t : Tallied) (b : Bool) → HasParts t → HasParts (if b then with_ask t else with_other t)
stored_parts t true p = record { calls = p.calls; asks = p.asks; full = p.full }
stored_parts t false p = record { calls = p.calls; asks = p.asks; full = p.full }

refused_parts : (c : Call) (e : CallRefusal) (t u : Tallied) → Counts c e t u → HasParts t → HasParts u
refused_parts c (refusal.Full none) t u h p = subst HasParts (sym h.1) (record { calls = p.calls; asks = p.asks; full = p.full })
refused_parts c (refusal.LinkFault outcome sent) t u h p = subst HasParts (sym h) (stored_parts t (asks_request c) p)
refused_parts c refusal.OutOfMemory t u h p = subst HasParts (sym h) p

-- it has some part of each ledger
pub kept_parts : (c : Call) (r : Result Step CallRefusal) (t u : Tallied) → OnOk r (u ≡ with_stored c t) → IfErr r (λ e. Counts c e t u) → HasParts t → HasParts u
kept_parts c (Ok s) t u made counts p = subst HasParts (sym made) (stored_parts t (asks_request c) p)
kept_parts c (Err e) t u made counts p = refused_parts c e t u counts p
