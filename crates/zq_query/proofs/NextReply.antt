-- The number of the next reply, and the replies that the maps say are in flight.
use Rattle.std.proofs.Common.{◌≡◌, ℕ, zero, suc, ◌<◌, ◌≤◌, Bool, true, false, cond, List, [], ◌∷◌, length, get_or, ap, ◌∙◌, refl, arith, Some, None, Option, sym, true≢false, eqb-true}
use Rattle.std.specs.Prelude.{not, nat_lt, ◌==◌}
use Rattle.std.proofs.lemmas.Bool.{ltb-true, lt-ltb}
use Rattle.std.specs.Cmp.{nat_cmp_total}
use Rattle.std.specs.Ordering.{nat_cmp}
use Rattle.std.specs.Option.{IsSome}
use Rattle.std.specs.List.{filter, list_any, AllByRecursion}
use Rattle.std.specs.List.Sorted.{IsStrictlySortedBy}
use Rattle.std.specs.Map.{keys_of}
use Rattle.std.proofs.lemmas.Map.Views.{length-le_from_below}
use Rattle.std.proofs.lemmas.Map.Entries.{length-keys_of}
use Rattle.std.proofs.lemmas.Map.Lookups.{exact_unsigned}
use Rattle.zq_query.specs.declared.queries.Open.{Open}
use Rattle.zq_query.specs.declared.queries.Owed.{Owed}
use Rattle.zq_query.specs.Records.{is_reply}
use Rattle.zq_query.specs.Polling.{has_reply_from}
use Rattle.zq_query.specs.Tables.{Dues, Place, flies_for, record_of, records_of, at_number, IsTied, IsBelow}
use Rattle.zq_query.proofs.Entries.{any_map, one_has, has_the_reply}
use Rattle.zq_query.proofs.Owing.{any_weaker}
use Rattle.zq_key.proofs.Lookups.{each_entry}

abbrev flies_from : List (ℕ × ℕ) → ℕ → ℕ → Bool
flies_from replies n k = list_any (λ x. not (nat_lt x n)) (keys_of (filter (flies_for k) replies))

none_by : (n k : ℕ) (e : ℕ × ℕ) (es : List (ℕ × ℕ)) (b : Bool) → e.0 < n → list_any (λ x. not (nat_lt x n)) (keys_of (filter (flies_for k) es)) ≡ false → list_any (λ x. not (nat_lt x n)) (keys_of (cond b (e ∷ filter (flies_for k) es) (filter (flies_for k) es))) ≡ false
none_by n k e es true l ih = rw (lt-ltb e.0 n l) ih
none_by n k e es false l ih = ih

none_of : (n k : ℕ) (es : List (ℕ × ℕ)) → AllByRecursion (λ e. e.0 < n) es → list_any (λ x. not (nat_lt x n)) (keys_of (filter (flies_for k) es)) ≡ false
none_of n k [] all = refl
none_of n k (e ∷ es) all = none_by n k e es (e.1 == k) all.0 (none_of n k es all.1)

none_at_all : (n : ℕ) (replies : List (ℕ × ℕ)) (heads : List (ℕ × Open)) → AllByRecursion (λ e. e.0 < n) replies → list_any (λ e. flies_from replies n e.0) heads ≡ false
none_at_all n replies [] all = refl
none_at_all n replies (h ∷ heads) all = rw (none_of n h.0 replies all) (none_at_all n replies heads all)

all_below : (n k : ℕ) (ks : List ℕ) (d : ℕ) → AllByRecursion (λ x. x < n) ks → k < length ks → get_or ks k d < n
all_below n k [] d all l = absurd (omega (arith, l))
all_below n zero (x ∷ ks) d all l = all.0
all_below n (suc k) (x ∷ ks) d all l = all_below n k ks d all.1 (omega (arith, l))

-- a fact of each key
pub all_keys : (P : ℕ → Type 0) (es : List (ℕ × ℕ)) → AllByRecursion (λ e. P e.0) es → AllByRecursion P (keys_of es)
all_keys P [] all = tt
all_keys P (e ∷ es) all = (all.0, all_keys P es all.1)

-- no more replies are in flight than there are numbers before the next
pub most_flying : (next : ℕ) (replies : List (ℕ × ℕ)) → IsStrictlySortedBy nat_cmp (keys_of replies) → ((r n : ℕ) → at_number r replies ≡ Some n → r < next) → length replies ≤ next
most_flying next replies order below =
    let all = all_keys (λ x. x < next) replies (each_entry nat_cmp_total exact_unsigned (λ e. e.0 < next) replies order below) in
    let most = length-le_from_below next (keys_of replies) order (λ k d l. all_below next k (keys_of replies) d all l) in
    let same = length-keys_of replies in
    omega (arith, most, same)

module _ (heads : List (ℕ × Open)) (pending : List (Place × Owed)) (dues : Dues) (replies : List (ℕ × ℕ)) (tied : IsTied heads pending dues replies) where
  read : (n : ℕ) → has_reply_from n (records_of heads pending replies) ≡ list_any (λ e. flies_from replies n e.0) heads
  read n = any_map (record_of pending replies) (λ r. list_any (λ x. not (nat_lt x n)) r.in_flight) heads

  -- no reply has the next number or a later one
  pub none_flies_yet : (requests next : ℕ) → IsBelow heads replies requests next → has_reply_from next (records_of heads pending replies) ≡ false
  none_flies_yet requests next below = read next ∙ none_at_all next replies heads (each_entry nat_cmp_total exact_unsigned (λ e. e.0 < next) replies tied.flights (λ r m h. below.flights r m h))

  passes : (n r x : ℕ) → nat_lt r n ≡ false → is_reply r x ≡ true → not (nat_lt x n) ≡ true
  passes n r x e h = ap (λ z. not (nat_lt z n)) (eqb-true _ _ h) ∙ ap not e

  flies_by : (n r m : ℕ) (q : Option Open) → at_number m heads ≡ q → IsSome q → at_number r replies ≡ Some m → nat_lt r n ≡ false → has_reply_from n (records_of heads pending replies) ≡ true
  flies_by n r m None e none is h = absurd (true≢false (sym none))
  flies_by n r m (Some o) e some is h = read n ∙ one_has m (flies_from replies n) heads o e (any_weaker (is_reply r) (λ x. not (nat_lt x n)) (λ x. passes n r x h) (keys_of (filter (flies_for m) replies)) (has_the_reply r m replies is))

  below_by : (n r m : ℕ) (b : Bool) → nat_lt r n ≡ b → at_number r replies ≡ Some m → has_reply_from n (records_of heads pending replies) ≡ false → r < n
  below_by n r m true e is h = ltb-true _ _ e
  below_by n r m false e is h = absurd (true≢false (sym (flies_by n r m (at_number m heads) refl (tied.flown r m is) is e) ∙ h))

  -- all replies are below a number from which on none is in flight
  pub replies_below : (n r m : ℕ) → at_number r replies ≡ Some m → has_reply_from n (records_of heads pending replies) ≡ false → r < n
  replies_below n r m is h = below_by n r m (nat_lt r n) refl is h
