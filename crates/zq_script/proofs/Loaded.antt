-- The counts so far, and those of the calls that are left.
use Rattle.std.proofs.Common.{◌≡◌, ℕ, ◌+◌, ◌*◌, ◌-◌, ◌<◌, List, ◌∷◌, ◌++◌, refl, ap, sym, ◌∙◌, Bool, true, false, cond, zero, suc, arith, get_or, take, length, ◌≤◌, ◌^◌, length-append, add_assoc}
use Rattle.std.proofs.Math.Nat.{add-zero}
use Rattle.std.proofs.lemmas.List.{length-take-le}
use Rattle.std.proofs.lemmas.List.Sums.{sum_by-append, count_by_more_yes, count_by_more_no, count_by-le-length}
use Rattle.std.specs.List.{count_by}
use Rattle.zq_machine.specs.declared.call.Call.{Call}
use Rattle.zq_machine.specs.Handing.{Handed}
use Rattle.zq_machine.specs.Headline.{asks, replies_to}
use Rattle.zq_machine.specs.Machine.{after, step, steps_from}
use Rattle.zq_machine.specs.State.{State}
use Rattle.zq_script.specs.declared.load.Counts.{Counts}
use Rattle.zq_script.specs.Load.{IsBelow, calls_from, count, handed_over, is_end, load_call, load_calls, plus}

-- the next call of those that are left
next_by : (number left : ℕ) → calls_from number (left + 1) ≡ load_call number ∷ calls_from (number + 1) left
next_by number left = let e : left + 1 ≡ suc left = omega arith in rw e refl

pub next_calls : (number end : ℕ) → number < end → calls_from number (end - number) ≡ load_call number ∷ calls_from (number + 1) (end - (number + 1))
next_calls number end l = let e : end - number ≡ end - (number + 1) + 1 = omega arith in rw e (next_by number (end - (number + 1)))

-- none is left
pub none_counted : (c : Counts) (s : State) (number end : ℕ) → end ≤ number → plus c (count (handed_over (steps_from s (calls_from number (end - number))))) ≡ c
none_counted c s number end e = let z : end - number ≡ 0 = omega (arith, e) in rw z (rw (add-zero c.handed, add-zero c.requests, add-zero c.responses, add-zero c.finals) refl)

count_append : (xs ys : List Handed) → count (xs ++ ys) ≡ plus (count xs) (count ys)
count_append xs ys =
    rw (length-append xs ys, sum_by-append (λ h. cond (asks h) 1 0) xs ys, sum_by-append (λ h. cond (replies_to h) 1 0) xs ys, sum_by-append (λ h. cond (is_end h) 1 0) xs ys) refl

plus_assoc : (a b c : Counts) → plus (plus a b) c ≡ plus a (plus b c)
plus_assoc a b c = rw (add_assoc a.handed b.handed c.handed, add_assoc a.requests b.requests c.requests, add_assoc a.responses b.responses c.responses, add_assoc a.finals b.finals c.finals) refl

-- a call is made and counted
pub call_counted : (c : Counts) (s : State) (k : Call) (calls : List Call) → plus (plus c (count (step s k).handed)) (count (handed_over (steps_from (after s k) calls))) ≡ plus c (count (handed_over (steps_from s (k ∷ calls))))
call_counted c s k calls =
    plus_assoc c (count (step s k).handed) (count (handed_over (steps_from (after s k) calls)))
    ∙ ap (plus c) (sym (count_append (step s k).handed (handed_over (steps_from (after s k) calls))))

many_from : (number left : ℕ) → length (calls_from number left) ≡ left
many_from number zero = refl
many_from number (suc left) = omega (arith, many_from (number + 1) left)

pub how_many : (amount : ℕ) → length (load_calls amount) ≡ 12 + 4 * amount
how_many amount = many_from 0 (12 + 4 * amount)

-- one more of the messages is looked at
pub counted_more : (p : Handed → Bool) (xs : List Handed) (i : ℕ) (d : Handed) → i < length xs → cond (p (get_or xs i d)) (count_by p (take i xs) + 1) (count_by p (take i xs)) ≡ count_by p (take (i + 1) xs)
counted_more p xs i d l = by (p (get_or xs i d)) refl
  where
    by : (b : Bool) → p (get_or xs i d) ≡ b → cond b (count_by p (take i xs) + 1) (count_by p (take i xs)) ≡ count_by p (take (i + 1) xs)
    by true e = sym (count_by_more_yes p xs i d l e)
    by false e = sym (count_by_more_no p xs i d l e)

-- no more are counted than were looked at
pub few_counted : (p : Handed → Bool) (xs : List Handed) (i : ℕ) → i ≤ length xs → count_by p (take i xs) ≤ i
few_counted p xs i l = let a = count_by-le-length p (take i xs) in let b = length-take-le i xs l in omega (arith, a, b)

-- what one more call hands is fewer than 2^64 messages of each kind
pub more_below : (n : ℕ) (c : Counts) (hs : List Handed) → IsBelow (n * 2 ^ 64) c → length hs < 2 ^ 64 → IsBelow ((n + 1) * 2 ^ 64) (plus c (count hs))
more_below n c hs b l =
    let r = count_by-le-length asks hs in
    let p = count_by-le-length replies_to hs in
    let f = count_by-le-length is_end hs in
    let bh = b.handed in let br = b.requests in let bp = b.responses in let bf = b.finals in
    record {
      handed = omega (arith, bh, l);
      requests = omega (arith, br, r, l);
      responses = omega (arith, bp, p, l);
      finals = omega (arith, bf, f, l);
    }
