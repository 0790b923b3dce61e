-- What workers have counted, together.
use Rattle.std.proofs.Common.{◌≡◌, ℕ, ◌+◌, Bool, true, false, List, [], ◌∷◌, ◌++◌, length, map, refl, sym, ap, ◌∙◌, subst, arith, append_assoc, All}
use Rattle.std.specs.Prelude.{◌&&◌, Option}
use Rattle.std.specs.List.{AllZip}
use Rattle.std.proofs.lemmas.List.{append-nil}
use Rattle.std.proofs.lemmas.List.Elements.{All-map, All-weaker}
use Rattle.atomic_table.specs.Seated.{TableId}
use Rattle.zq_machine.specs.declared.call.Call.{Call}
use Rattle.zq_shared.specs.Tallies.{Counts, Tallied, each, merged, plus}
use Rattle.zq_program.specs.Shares.{all_calls, gathered}
use Rattle.zq_program.specs.Working.{HasMade, IsReady, MayMake, Worked, Working, all_whole, new_worker}
use Rattle.zq_program.proofs.Making.{made_none, made_on}

-- counts from their numbers
abbrev counts : ℕ → ℕ → ℕ → Counts
counts c q p = record { calls = c; asks = q; full = p }

both_true : (a b : Bool) → (a && b) ≡ true → (a ≡ true) × (b ≡ true)
both_true true b e = (refl, e)
both_true false b e = absurd (cc)

-- ---- workers that may begin
pub all_ready : (holds home : TableId) (list : Option (List Call)) (parts : List (List Call)) → home ≡ holds → All (All (MayMake list)) parts → All (IsReady holds list) (map (new_worker home) parts)
all_ready holds home list parts e h =
    All-map (IsReady holds list) (new_worker home) parts (All-weaker (All (MayMake list)) (λ (p : List Call). IsReady holds list (new_worker home p)) (λ p may. record { home = e; free = refl; parts = record { calls = omega arith; asks = omega arith; full = omega arith }; calls = may }) parts h)

-- ---- what they made
more_made : (a b t : Counts) (cs : List Call) → a ≡ each 0 → HasMade cs a b → HasMade cs t (plus t b)
more_made a b t cs e h =
    let o = h.others in let r = h.asked in
    let x = ap (λ (c : Counts). c.calls) e in let y = ap (λ (c : Counts). c.asks) e in let z = ap (λ (c : Counts). c.full) e in
    record { others = omega arith; asked = omega arith }

pub all_made : (home : TableId) (parts : List (List Call)) (ws : List Working) (start t : Tallied) (cs : List Call) (n : ℕ) → AllZip Worked (map (new_worker home) parts) ws → all_whole ws ≡ true
    → HasMade cs start.made t.made → t.parts ≡ each n → HasMade (cs ++ all_calls parts) start.made (gathered t ws).made × ((gathered t ws).parts ≡ each (n + length parts))
all_made home [] [] start t cs n h e made parts = (subst (λ (l : List Call). HasMade l start.made t.made) (sym (append-nil cs)) made, parts ∙ ap each (omega arith))
all_made home (p ∷ ps) [] start t cs n h e made parts = absurd h
all_made home [] (w ∷ ws) start t cs n h e made parts = absurd h
all_made home (p ∷ ps) (w ∷ ws) start t cs n h e made parts =
    let one = h.0 in
    let both = both_true w.whole (all_whole ws) e in
    let now : HasMade (cs ++ p) start.made (plus t.made w.tally.made) = made_on cs p start.made t.made (plus t.made w.tally.made) made (more_made (each 0) w.tally.made t.made p refl (one.made both.0)) in
    let some : plus t.parts w.tally.parts ≡ each (n + 1) = ap (λ c. plus c w.tally.parts) parts ∙ ap (plus (each n)) one.parts in
    let rest = all_made home ps ws start (merged t w.tally) (cs ++ p) (n + 1) h.1 both.1 now some in (
      subst (λ (l : List Call). HasMade l start.made (gathered (merged t w.tally) ws).made) (append_assoc cs p (all_calls ps)) rest.0,
      rest.1 ∙ ap each (omega arith),
    )

module _ (home : TableId) (parts : List (List Call)) (crew : List Working) (made : crew ≡ map (new_worker home) parts) where
  pub crew_ready : (holds : TableId) (list : Option (List Call)) → home ≡ holds → All (All (MayMake list)) parts → All (IsReady holds list) crew
  crew_ready holds list e h = subst (All (IsReady holds list)) (sym made) (all_ready holds home list parts e h)

  module _ (ws : List Working) (t t' : Tallied) (worked : AllZip Worked crew ws) (whole : all_whole ws ≡ true) (fresh : t ≡ record { parts = each 0; made = each 0 }) (together : t' ≡ gathered t ws) where
    crew_counted : HasMade (all_calls parts) t.made (gathered t ws).made × ((gathered t ws).parts ≡ each (0 + length parts))
    crew_counted = all_made home parts ws t t [] 0 (subst (λ (l : List Working). AllZip Worked l ws) made worked) whole (made_none t.made) (ap (λ (u : Tallied). u.parts) fresh)

    pub crew_parts : (c q p : ℕ) → c ≡ length parts → q ≡ length parts → p ≡ length parts → t'.parts ≡ record { calls = c; asks = q; full = p }
    crew_parts c q p x y z =
        let a : 0 + length parts ≡ c = omega arith in
        let b : 0 + length parts ≡ q = omega arith in
        let d : 0 + length parts ≡ p = omega arith in
        let n = 0 + length parts in
        let first = ap (λ (k : ℕ). counts k n n) a in
        let then = ap (λ (k : ℕ). counts c k n) b in
        let last = ap (λ (k : ℕ). counts c q k) d in
        ap (λ (u : Tallied). u.parts) together ∙ (crew_counted.1 ∙ (first ∙ (then ∙ last)))

    pub crew_made : HasMade (all_calls parts) (each 0) t'.made
    crew_made =
        subst (λ (n : Counts). HasMade (all_calls parts) n t'.made) (ap (λ (u : Tallied). u.made) fresh)
        (subst (λ (n : Counts). HasMade (all_calls parts) t.made n) (sym (ap (λ (u : Tallied). u.made) together)) crew_counted.0)
