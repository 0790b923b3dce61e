-- Known bytes over several reads or writes.
use Rattle.std.proofs.Common.{◌≡◌, ℕ, ◌+◌, ◌<◌, List, [], ◌++◌, Option, Some, None, ap, ◌∙◌, sym, append_assoc, length, take, refl, arith, length-append}
use Rattle.std.proofs.lemmas.List.{append-nil, take-append-drop, drop-take}
use Rattle.std.proofs.lemmas.Grind.{common_steps}
use Rattle.std.proofs.Common.{drop, Bool, true, false, ◌-◌, ◌^◌, inl, inr}
use Rattle.std.specs.Prelude.{min, nat_lt}
use Rattle.std.proofs.lemmas.Bool.Decides.{nat_tests}
use Rattle.std.specs.Io.KnownBytes.{Consumes, Appends}
use Rattle.zq_io.specs.Streams.{Rose, IsLonger}

pub consumes_more : (a b c : Option (List ℕ)) (xs ys : List ℕ) → Consumes a b xs → Consumes b c ys → Consumes a c (xs ++ ys)
consumes_more None b c xs ys h k = tt
consumes_more (Some p) None c xs ys h k = absurd h
consumes_more (Some p) (Some q) None xs ys h k = absurd k
consumes_more (Some p) (Some q) (Some r) xs ys h k = h ∙ ap (λ l. xs ++ l) k ∙ sym (append_assoc xs ys r)

pub consumes_none : (a : Option (List ℕ)) → Consumes a a []
consumes_none None = tt
consumes_none (Some p) = refl

pub appends_more : (a b c : Option (List ℕ)) (xs ys : List ℕ) → Appends a b xs → Appends b c ys → Appends a c (xs ++ ys)
appends_more None b c xs ys h k = tt
appends_more (Some p) None c xs ys h k = absurd h
appends_more (Some p) (Some q) None xs ys h k = absurd k
appends_more (Some p) (Some q) (Some r) xs ys h k = k ∙ ap (λ l. l ++ ys) h ∙ append_assoc p xs ys

pub appends_none : (a : Option (List ℕ)) → Appends a a []
appends_none None = tt
appends_none (Some p) = sym (append-nil p)

pub longer : (limit : ℕ) (a b : Option (List ℕ)) (xs : List ℕ) → Consumes a b xs → limit < length xs → IsLonger limit a
longer limit None b xs h l = tt
longer limit (Some p) None xs h l = absurd h
longer limit (Some p) (Some q) xs h l = omega (arith, ap length h, length-append xs q)

take_sum : (i n : ℕ) (p : List ℕ) → take i p ++ take n (drop i p) ≡ take (i + n) p
take_sum i n p = grind (arith, common_steps, drop-take i n p, take-append-drop i (take (i + n) p))

pub appends_on : (a b c : Option (List ℕ)) (p : List ℕ) (i n : ℕ) → Appends a b (take i p) → Appends b c (take n (drop i p)) → Appends a c (take (i + n) p)
appends_on a b c p i n h k = rw (← take_sum i n p) (appends_more a b c (take i p) (take n (drop i p)) h k)

drop_sum : (i n : ℕ) (p : List ℕ) → drop (i + n) p ≡ drop n (drop i p)
drop_sum i n p = grind (arith, common_steps)

pub drop_front : (i n : ℕ) (p front : List ℕ) → front ≡ take n (drop i p) → drop i p ≡ front ++ drop (i + n) p
drop_front i n p front e = rw (e, drop_sum i n p) (sym (take-append-drop n (drop i p)))

rose_by : (n : ℕ) (b : Bool) → nat_lt n (2 ^ 64 - 1) ≡ b → Rose n (min (n + 1) (2 ^ 64 - 1))
rose_by n true e = inl (grind (arith, nat_tests))
rose_by n false e = inr (grind (arith, nat_tests))

-- a count that goes on by one, to its end, rose
pub rose_by_one : (n : ℕ) → Rose n (min (n + 1) (2 ^ 64 - 1))
rose_by_one n = rose_by n (nat_lt n (2 ^ 64 - 1)) refl
