-- Two halves of what is counted.
use Rattle.std.proofs.Common.{◌≡◌, ◌∙◌, ap, sym, subst, arith}
use Rattle.zq_shared.specs.Tallies.{HasParts, Tallied, each, merged}

pub halved_one : (v : Tallied) → v ≡ record { parts = each 1; made = each 0 } → HasParts v
halved_one v e = subst HasParts (sym e) (record { calls = omega arith; asks = omega arith; full = omega arith })

pub halved_all : (t : Tallied) → t ≡ record { parts = each 2; made = each 0 } → HasParts t
halved_all t e = subst HasParts (sym e) (record { calls = omega arith; asks = omega arith; full = omega arith })

pub halved_rest : (t u v : Tallied) → t ≡ record { parts = each 2; made = each 0 } → v ≡ record { parts = each 1; made = each 0 } → merged u v ≡ t → HasParts u
halved_rest t u v h e r =
    let all = r ∙ h in
    let calls = ap (λ (x : Tallied). x.parts.calls) all in let one_call = ap (λ (x : Tallied). x.parts.calls) e in
    let asks = ap (λ (x : Tallied). x.parts.asks) all in let one_ask = ap (λ (x : Tallied). x.parts.asks) e in
    let full = ap (λ (x : Tallied). x.parts.full) all in let one_full = ap (λ (x : Tallied). x.parts.full) e in
    record { calls = omega arith; asks = omega arith; full = omega arith }
