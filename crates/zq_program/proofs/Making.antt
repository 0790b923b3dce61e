-- Calls that were made, one after another.
use Rattle.std.proofs.Common.{◌≡◌, ◌+◌, Bool, true, false, List, [], ◌∷◌, ◌++◌, length, take, refl, sym, ap, ◌∙◌, subst, arith, length-append}
use Rattle.std.specs.Prelude.{◌&&◌, not, if◌then◌else◌}
use Rattle.std.specs.List.{filter}
use Rattle.std.proofs.lemmas.List.Elements.{filter-append}
use Rattle.std.proofs.Math.Seq.{take-append_seam}
use Rattle.zq_machine.specs.declared.call.Call.{Call}
use Rattle.zq_machine.specs.Calls.{is_sent}
use Rattle.zq_shared.specs.Stored.{asks_request}
use Rattle.zq_shared.specs.Tallies.{Counts, Tallied, is_other, with_ask, with_full, with_other, with_stored}
use Rattle.zq_program.specs.Working.{HasBegun, HasMade}

pub count_more : (p : Call → Bool) (xs ys : List Call) → length (filter p (xs ++ ys)) ≡ length (filter p xs) + length (filter p ys)
count_more p xs ys = ap (λ (l : List Call). length l) (filter-append p xs ys) ∙ length-append (filter p xs) (filter p ys)

pub made_none : (a : Counts) → HasMade [] a a
made_none a = record { others = omega arith; asked = omega arith }

pub made_on : (xs ys : List Call) (a b c : Counts) → HasMade xs a b → HasMade ys b c → HasMade (xs ++ ys) a c
made_on xs ys a b c h k =
    let o = count_more is_other xs ys in
    let r = count_more asks_request xs ys in
    let ho = h.others in let ha = h.asked in let ko = k.others in let ka = k.asked in
    record { others = omega arith; asked = omega arith }

-- ---- one call
one_in : (p : Call → Bool) (c : Call) (b : Bool) → p c ≡ b → length (filter p (c ∷ [])) ≡ length (if b then c ∷ [] else [])
one_in p c b q = ap (λ (d : Bool). length (if d then c ∷ [] else [])) q

pub made_stored : (c : Call) (t u : Tallied) → is_sent c ≡ false → u ≡ with_stored c t → HasMade (c ∷ []) t.made u.made
made_stored c t u e h = subst (λ (n : Tallied). HasMade (c ∷ []) t.made n.made) (sym h) (on (asks_request c) refl)
  where
    on : (b : Bool) → asks_request c ≡ b → HasMade (c ∷ []) t.made (if b then with_ask t else with_other t).made
    on true q =
        let a = one_in asks_request c true q in
        let o = one_in is_other c false (ap (λ (d : Bool). not d && not (is_sent c)) q) in
        record { others = omega arith; asked = omega arith }
    on false q =
        let a = one_in asks_request c false q in
        let o = one_in is_other c true (ap (λ (d : Bool). not d && not (is_sent c)) q ∙ ap not e) in
        record { others = omega arith; asked = omega arith }

pub made_full : (c : Call) (t u : Tallied) → asks_request c ≡ true → u ≡ with_full t → HasMade (c ∷ []) t.made u.made
made_full c t u q h =
    let a = one_in asks_request c true q in
    let o = one_in is_other c false (ap (λ (d : Bool). not d && not (is_sent c)) q) in
    subst (λ (n : Tallied). HasMade (c ∷ []) t.made n.made) (sym h) (record { others = omega arith; asked = omega arith })

pub kept_whole : (b : Bool) → not b ≡ false → b ≡ true
kept_whole true e = refl
kept_whole false e = absurd (cc)

-- ---- calls of which a beginning was made
pub begun_at : (cs front : List Call) (c : Call) (rest : List Call) → cs ≡ front ++ c ∷ rest → (a b d : Counts) → HasMade front a b → d ≡ b → HasBegun cs a d
begun_at cs front c rest e a b d made same = (
  length front,
  (let long = ap (λ (l : List Call). length l) e in let both = length-append front (c ∷ rest) in omega (arith, long, both)),
  subst (λ (l : List Call). HasMade l a d) (sym (ap (take (length front)) e ∙ take-append_seam front (c ∷ rest))) (subst (HasMade front a) (sym same) made),
)

pub not_whole : (b : Bool) → not b ≡ true → b ≡ false
not_whole true e = absurd (cc)
not_whole false e = refl
