-- Declared keys that are passed over: none of them meets the request's key.
use Rattle.std.proofs.Common.{◌≡◌, ◌≢◌, ◌∙◌, sym, ap, subst, refl, arith, ℕ, zero, suc, ◌+◌, ◌-◌, ◌<◌, ◌≤◌, length, Bool, true, false, cond, ◌⊎◌, inl, inr, List, [], ◌∷◌, ◌++◌, take, drop, get_or, append_assoc}
use Rattle.std.specs.Prelude.{◌&&◌, ◌==◌, not, String}
use Rattle.std.proofs.lemmas.Bool.{or_parts}
use Rattle.std.proofs.lemmas.Bool.Decides.{nat_tests}
use Rattle.std.specs.declared.alloc.Global.{Global}
use Rattle.std.specs.declared.cmp.Ordering.{Ordering}
use Rattle.std.specs.declared.cmp.Ordering.TheVariants.{Less, Equal, Greater}
use Rattle.std.specs.declared.ops.Bound.TheVariants.{Included, Unbounded}
use Rattle.std.specs.Ordering.{nat_cmp, ordering_then, is_le, is_lt, is_eq, ordering_reverse}
use Rattle.std.specs.Cmp.Lexicographic.{bytes_decides}
use Rattle.std.specs.List.{AllByRecursion, flat_map}
use Rattle.std.specs.List.Sorted.{IsStrictlySortedBy}
use Rattle.std.specs.Map.{keys_of}
use Rattle.std.specs.BTreeMap.Range.{entries_between, range_contains}
use Rattle.std.specs.String.{string_bytes, string_cmp}
use Rattle.std.proofs.lemmas.Bool.{false≢true, false_from_ne_true}
use Rattle.std.proofs.lemmas.Cmp.{nat_list_cmp_total, ranked}
use Rattle.std.proofs.lemmas.Map.Keys.{sorted_head, sorted_tail}
use Rattle.std.proofs.lemmas.Map.Text.{is_eq-slice_cmp}
use Rattle.std.proofs.lemmas.List.{drop_more, take_more, take-append-drop, length-take, length-drop}
use Rattle.zq_key.specs.Key.{chunks, intersects, is_plain}
use Rattle.zq_key.proofs.Plain.{intersects-plain}
use Rattle.std.specs.Str.{bytes_eq}
use Rattle.std.proofs.lemmas.Slice.Eq.{bytes_eq-Decides}
use Rattle.std.proofs.Math.Nat.{eq-or-lt_of_le}
use Rattle.zq_key.specs.Apart.{is_wild, Misses}
use Rattle.zq_index.specs.declared.forks.Mode.TheVariants.{Chunk}
use Rattle.zq_index.specs.Forks.{IsForkAt, IsHeld, IsLast, IsNext, Leads}
use Rattle.zq_index.proofs.ForkLemmas.{run_misses, within_from}
use Rattle.zq_key.proofs.Runs.{Begins, squeezed_run, run_is_less, not_below_itself}
use Rattle.zq_index.specs.Texts.{text_cmp, has_text, texts_of, is_mixed, mixed_after, Lists, IsListed, IsFirstAfter, NoneAfter, NoneBetween}
use Rattle.zq_index.proofs.Orders.{text_exact}
use Rattle.zq_index.specs.Skipping.{is_run, run_of, SkipsListed, SkipsUnmixed, NoneFrom, Skips, IsPlaceAbove}

-- ---- texts between two that begin alike
same_front : (p xs ys : List ℕ) → text_cmp (p ++ xs) (p ++ ys) ≡ text_cmp xs ys
same_front [] xs ys = refl
same_front (d ∷ ds) xs ys = by (nat_cmp d d) refl (same_front ds xs ys)
  where
    by : (o : Ordering) → o ≡ nat_cmp d d → text_cmp (ds ++ xs) (ds ++ ys) ≡ text_cmp xs ys → ordering_then o (text_cmp (ds ++ xs) (ds ++ ys)) ≡ text_cmp xs ys
    by Less is later = absurd (omega (arith, ranked d d Less is))
    by Equal is later = later
    by Greater is later = absurd (omega (arith, ranked d d Greater is))

-- what lies between begins so, too
fronted : (p x r s : List ℕ) (b : ℕ) → text_cmp x (p ++ b ∷ r) ≢ Less → text_cmp x (p ++ s) ≡ Less → (m : List ℕ) × (x ≡ p ++ m)
fronted [] x r s b above below = (x, refl)
fronted (d ∷ ds) [] r s b above below = absurd (above refl)
fronted (d ∷ ds) (a ∷ cs) r s b above below = by (nat_cmp a d) refl above below (fronted ds cs r s b)
  where
    by : (o : Ordering) → o ≡ nat_cmp a d → ordering_then o (text_cmp cs (ds ++ b ∷ r)) ≢ Less → ordering_then o (text_cmp cs (ds ++ s)) ≡ Less
        → (text_cmp cs (ds ++ b ∷ r) ≢ Less → text_cmp cs (ds ++ s) ≡ Less → (m : List ℕ) × (cs ≡ ds ++ m)) → (m : List ℕ) × (a ∷ cs ≡ d ∷ ds ++ m)
    by Less is above below deeper = absurd (above refl)
    by Equal is above below deeper = let m = deeper above below in (m.0, rw (ranked a d Equal is, m.1) refl)
    by Greater is above below deeper = cc

-- a text that is not below one that begins with a byte
pub record Above (m : List ℕ) (b : ℕ) : Type 0 where
  pub byte : ℕ
  pub more : List ℕ
  pub is : m ≡ byte ∷ more
  pub least : b ≤ byte

above_byte : (m r : List ℕ) (b : ℕ) → text_cmp m (b ∷ r) ≢ Less → Above m b
above_byte [] r b above = absurd (above refl)
above_byte (d ∷ more) r b above = by (nat_cmp d b) refl above
  where
    by : (o : Ordering) → o ≡ nat_cmp d b → ordering_then o (text_cmp more r) ≢ Less → Above (d ∷ more) b
    by Less is above = absurd (above refl)
    by Equal is above = let e = ranked d b Equal is in record { byte = d; more = more; is = refl; least = omega (arith, e) }
    by Greater is above = let e = ranked d b Greater is in record { byte = d; more = more; is = refl; least = omega (arith, e) }

nothing_less : (ys : List ℕ) → text_cmp ys [] ≡ Less → ⊥
nothing_less [] e = cc
nothing_less (y ∷ ys) e = cc

below_byte : (d c : ℕ) (more : List ℕ) → text_cmp (d ∷ more) (c ∷ []) ≡ Less → d < c
below_byte d c more below = by (nat_cmp d c) refl below
  where
    by : (o : Ordering) → o ≡ nat_cmp d c → ordering_then o (text_cmp more []) ≡ Less → d < c
    by Less is below = ranked d c Less is
    by Equal is below = absurd (nothing_less more below)
    by Greater is below = cc

less_bytes : (b c : ℕ) (r s : List ℕ) → b < c → text_cmp (b ∷ r) (c ∷ s) ≡ Less
less_bytes b c r s lt = by (nat_cmp b c) refl
  where
    by : (o : Ordering) → o ≡ nat_cmp b c → ordering_then o (text_cmp r s) ≡ Less
    by Less is = refl
    by Equal is = absurd (omega (arith, lt, ranked b c Equal is))
    by Greater is = absurd (omega (arith, lt, ranked b c Greater is))

less_byte : (b c : ℕ) (r : List ℕ) → b < c → text_cmp (b ∷ r) (c ∷ []) ≡ Less
less_byte b c r lt = less_bytes b c r [] lt

-- ---- bounds
module _ (t : List ℕ) (k : ℕ) (lt : k < length t) where
  abbrev byte : ℕ
  byte = get_or t k 0

  whole : t ≡ take k t ++ byte ∷ drop (k + 1) t
  whole = sym (take-append-drop k t) ∙ ap (λ l. take k t ++ l) (drop_more t k 0 lt)

  -- what begins like t and goes on not below it
  begins_above : (x m : List ℕ) → text_cmp x t ≢ Less → x ≡ take k t ++ m → Above m byte
  begins_above x m above is = above_byte m (drop (k + 1) t) byte (λ less. above (ap (text_cmp x) whole ∙ ap (λ y. text_cmp y (take k t ++ byte ∷ drop (k + 1) t)) is ∙ same_front (take k t) m (byte ∷ drop (k + 1) t) ∙ less))

  -- what goes on otherwise does not meet q, if that does not
  dead_on : (q x m : List ℕ) → x ≡ take k t ++ m → (a : Above m byte) → intersects (take k t ++ a.byte ∷ a.more) q ≡ false → intersects x q ≡ false
  dead_on q x m is a dead = ap (λ y. intersects y q) (is ∙ ap (λ l. take k t ++ l) a.is) ∙ dead

module _ (t q : List ℕ) (k want : ℕ) (fork : IsForkAt t q k want) where
  abbrev here : ℕ
  here = get_or t k 0

  pub fork_skipped : (c : ℕ) → IsNext here want c → Skips q t (take k t ++ c ∷ [])
  fork_skipped c next = record {
    after = ap (λ y. text_cmp y (take k t ++ c ∷ [])) (whole t k fork.in_range) ∙ same_front (take k t) (here ∷ drop (k + 1) t) (c ∷ []) ∙ less_byte here c (drop (k + 1) t) next.after;
    none = λ x above below.
        let front = fronted (take k t) x (drop (k + 1) t) (c ∷ []) here (λ less. above (ap (text_cmp x) (whole t k fork.in_range) ∙ less)) below in
        let a = begins_above t k fork.in_range x front.0 above front.1 in
        let under : text_cmp (a.byte ∷ a.more) (c ∷ []) ≡ Less =
        ap (λ m. text_cmp m (c ∷ [])) (sym a.is) ∙ sym (same_front (take k t) front.0 (c ∷ [])) ∙ ap (λ y. text_cmp y (take k t ++ c ∷ [])) (sym front.1) ∙ below in
        let facts = next.none a.byte a.least (below_byte a.byte c a.more under) in
        dead_on t k fork.in_range q x front.0 front.1 a (fork.dead a.byte a.more facts.0 facts.1);
  }

  -- by the next byte alone
  step_skipped : Skips q t (take k t ++ (here + 1) ∷ [])
  step_skipped = fork_skipped (here + 1) record {
    after = omega arith;
    none = λ d least less. let same : d ≡ here = omega arith in (rw same fork.tame, rw same fork.other);
  }

-- the same up to a lesser byte
pub skips_nearer : (q t : List ℕ) (k b c : ℕ) → k < length t → get_or t k 0 < c → c ≤ b → Skips q t (take k t ++ b ∷ []) → Skips q t (take k t ++ c ∷ [])
skips_nearer q t k b c lt after le skips = record {
  after = ap (λ y. text_cmp y (take k t ++ c ∷ [])) (whole t k lt) ∙ same_front (take k t) (get_or t k 0 ∷ drop (k + 1) t) (c ∷ []) ∙ less_byte (get_or t k 0) c (drop (k + 1) t) after;
  none = λ x above below. skips.none x above (by x (eq-or-lt_of_le le) below);
}
  where
    by : (x : List ℕ) → (c ≡ b) ⊎ (c < b) → text_cmp x (take k t ++ c ∷ []) ≡ Less → text_cmp x (take k t ++ b ∷ []) ≡ Less
    by x (inl same) below = subst (λ d. text_cmp x (take k t ++ d ∷ []) ≡ Less) same below
    by x (inr less) below = nat_list_cmp_total.trans x (take k t ++ c ∷ []) (take k t ++ b ∷ []) below (same_front (take k t) (c ∷ []) (b ∷ []) ∙ less_byte c b [] less)

pub skips_before : (q t : List ℕ) (k b c : ℕ) (more : List ℕ) → c < b → Skips q t (take k t ++ b ∷ []) → text_cmp t (take k t ++ c ∷ more) ≡ Less → Skips q t (take k t ++ c ∷ more)
skips_before q t k b c more less skips after = record {
  after = after;
  none = λ x above below. skips.none x above (nat_list_cmp_total.trans x (take k t ++ c ∷ more) (take k t ++ b ∷ []) below (same_front (take k t) (c ∷ more) (b ∷ []) ∙ less_byte c b more less));
}

-- those that begin like t before a place and go on there by a greater byte do not meet q
abbrev EndsAt : List ℕ → List ℕ → ℕ → Type 0
EndsAt t q p = (d : ℕ) (more : List ℕ) → get_or t p 0 < d → intersects (take p t ++ d ∷ more) q ≡ false

-- the bound behind those that begin like t up to a place
abbrev SkipsAt : List ℕ → List ℕ → ℕ → Type 0
SkipsAt t q p = Skips q t (take p t ++ (get_or t p 0 + 1) ∷ [])

-- where no greater byte goes on, those that begin with a byte less are passed over
level_skipped : (t q : List ℕ) (k : ℕ) → k + 1 < length t → SkipsAt t q (k + 1) → EndsAt t q (k + 1) → SkipsAt t q k
level_skipped t q k lt skips ends =
    let b = get_or t k 0 in
    let c = get_or t (k + 1) 0 in
    let rest = drop (k + 1) t in
    let cut : t ≡ take k t ++ b ∷ rest = whole t k (omega (arith, lt)) in
    let front : take (k + 1) t ≡ take k t ++ b ∷ [] = take_more t k 0 (omega (arith, lt)) in
    record {
      after = (λ i. text_cmp (cut i) (take k t ++ (b + 1) ∷ [])) ∙ run_is_less (take k t) rest b;
      none = λ x above below.
          let begins : Begins (take k t) b x = squeezed_run (take k t) x rest b (λ less. above (ap (text_cmp x) cut ∙ less)) below in
          let is : x ≡ take (k + 1) t ++ begins.0 = begins.1 ∙ sym (append_assoc (take k t) (b ∷ []) begins.0) ∙ ap (λ p. p ++ begins.0) (sym front) in
          let a = begins_above t (k + 1) lt x begins.0 above is in
          by x begins.0 above is a (eq-or-lt_of_le a.least);
    }
  where
    by : (x m : List ℕ) → text_cmp x t ≢ Less → x ≡ take (k + 1) t ++ m → (a : Above m (get_or t (k + 1) 0)) → (get_or t (k + 1) 0 ≡ a.byte) ⊎ (get_or t (k + 1) 0 < a.byte) → intersects x q ≡ false
    by x m above is a (inl same) =
        let c = get_or t (k + 1) 0 in
        let begin : x ≡ take (k + 1) t ++ c ∷ a.more = is ∙ ap (λ l. take (k + 1) t ++ l) a.is ∙ ap (λ b. take (k + 1) t ++ b ∷ a.more) (sym same) in
        skips.none x above (ap (λ y. text_cmp y (take (k + 1) t ++ (c + 1) ∷ [])) begin ∙ same_front (take (k + 1) t) (c ∷ a.more) ((c + 1) ∷ []) ∙ less_byte c (c + 1) a.more (omega arith))
    by x m above is a (inr more) = dead_on t (k + 1) lt q x m is a (ends a.byte a.more more)

module _ (t q : List ℕ) (held k want : ℕ) (fork : IsForkAt t q k want) (last : IsLast (get_or t k 0) want) (holds : IsHeld t q held k) where
  ends_at : (p : ℕ) → held ≤ p → p ≤ k → EndsAt t q p
  ends_at p from to d more above = by (eq-or-lt_of_le to)
    where
      by : (p ≡ k) ⊎ (p < k) → intersects (take p t ++ d ∷ more) q ≡ false
      by (inl same) =
          let over : get_or t k 0 < d = subst (λ n. get_or t n 0 < d) same above in
          let facts = last d (omega (arith, over)) in
          ap (λ n. intersects (take n t ++ d ∷ more) q) same ∙ fork.dead d more facts.0 facts.1
      by (inr below) = holds p d more from below above

  climbed : (n p : ℕ) → p + n ≡ k → held ≤ p + 1 → SkipsAt t q p
  climbed zero p is from = let same : k ≡ p = omega (arith, is) in subst (SkipsAt t q) same (step_skipped t q k want fork)
  climbed (suc n) p is from =
      level_skipped t q p (omega (arith, is, fork.in_range)) (climbed n (p + 1) (omega (arith, is)) (omega (arith, from))) (ends_at (p + 1) from (omega (arith, is)))

  -- where that is so from the first byte on, nothing is left
  pub none_above : held ≡ 0 → (x : List ℕ) → text_cmp x t ≢ Less → intersects x q ≡ false
  none_above first x above =
      let lt : 0 < length t = omega (arith, fork.in_range) in
      let a = begins_above t 0 lt x x above refl in
      by lt x above a (eq-or-lt_of_le a.least)
    where
      by : 0 < length t → (x : List ℕ) → text_cmp x t ≢ Less → (a : Above x (get_or t 0 0)) → (get_or t 0 0 ≡ a.byte) ⊎ (get_or t 0 0 < a.byte) → intersects x q ≡ false
      by lt x above a (inl same) =
          (climbed k 0 (omega arith) (omega (arith, first))).none x above
          (ap (λ y. text_cmp y ((get_or t 0 0 + 1) ∷ [])) a.is ∙ less_byte a.byte (get_or t 0 0 + 1) a.more (omega (arith, same)))
      by lt x above a (inr more) = dead_on t 0 lt q x x refl a (ends_at 0 (omega (arith, first)) (omega arith) a.byte a.more more)

  pub is_above : (at byte : ℕ) → IsPlaceAbove t held k at byte → Skips q t (take at t ++ byte ∷ [])
  is_above at byte p = subst (λ b. Skips q t (take at t ++ b ∷ [])) (sym p.next) (climbed (k - at) at (omega (arith, p.to)) p.from)

-- ---- plain chunks are passed over
unmixed_end : (p m : List ℕ) (tame : Bool) → mixed_after tame (p ++ m) ≡ false → (left : Bool) × (mixed_after left m ≡ false)
unmixed_end [] m tame unmixed = (tame, unmixed)
unmixed_end (c ∷ p) m tame unmixed =
    unmixed_end p m (not (is_wild c) && not (c == 47)) (or_parts (tame && is_wild c) (mixed_after (not (is_wild c) && not (c == 47)) (p ++ m)) unmixed).1

tame_above : (n : ℕ) → 42 < n → is_wild n ≡ false
tame_above n lt = let a : (n == 42) ≡ false = grind (arith, nat_tests) in let b : (n == 36) ≡ false = grind (arith, nat_tests) in rw (a, b) refl

-- what is less than the first bytes of a run is less than the run
cut_less : (n : ℕ) (u x : List ℕ) → text_cmp x (run_of (take n u)) ≡ Less → text_cmp x (run_of u) ≡ Less
cut_less zero u x less = absurd (nothing_less x less)
cut_less (suc n) [] x less = less
cut_less (suc n) (c ∷ u) x less = by_run x (is_run c) less (λ y. cut_less n u y)
  where
    by_run : (x : List ℕ) (b : Bool) → text_cmp x (cond b (c ∷ run_of (take n u)) []) ≡ Less → ((y : List ℕ) → text_cmp y (run_of (take n u)) ≡ Less → text_cmp y (run_of u) ≡ Less)
        → text_cmp x (cond b (c ∷ run_of u) []) ≡ Less
    by_run x false less deeper = less
    by_run [] true less deeper = refl
    by_run (d ∷ x) true less deeper = by (nat_cmp d c) less
      where
        by : (o : Ordering) → ordering_then o (text_cmp x (run_of (take n u))) ≡ Less → ordering_then o (text_cmp x (run_of u)) ≡ Less
        by Less less = refl
        by Equal less = deeper x less
        by Greater less = less

module _ (t q : List ℕ) (k j n : ℕ) (lt : k < length t) (leads : Leads t q k Chunk j) where
  abbrev part : List ℕ
  part = take n (drop j q)

  abbrev goes : ℕ
  goes = get_or part 0 0

  pub chunk_skipped : 42 < get_or t k 0 → 0 < length part → get_or t k 0 < goes → is_run goes ≡ true → SkipsUnmixed q t (take k t ++ run_of part)
  chunk_skipped over some greater run = subst (λ r. SkipsUnmixed q t (take k t ++ r)) (sym begins) record {
    after = ap (λ y. text_cmp y (take k t ++ goes ∷ later)) (whole t k lt) ∙ same_front (take k t) (get_or t k 0 ∷ drop (k + 1) t) (goes ∷ later) ∙ less_bytes (get_or t k 0) goes (drop (k + 1) t) later greater;
    none = λ x above below unmixed.
        let front = fronted (take k t) x (drop (k + 1) t) (goes ∷ later) (get_or t k 0) (λ less. above (ap (text_cmp x) (whole t k lt) ∙ less)) below in
        let a = begins_above t k lt x front.0 above front.1 in
        let under : text_cmp (a.byte ∷ a.more) (run_of part) ≡ Less =
        ap (text_cmp (a.byte ∷ a.more)) begins ∙ ap (λ m. text_cmp m (goes ∷ later)) (sym a.is) ∙ sym (same_front (take k t) front.0 (goes ∷ later)) ∙ ap (λ y. text_cmp y (take k t ++ goes ∷ later)) (sym front.1) ∙ below in
        let end = unmixed_end (take k t) (a.byte ∷ a.more) false (ap is_mixed (ap (λ m. take k t ++ m) (sym a.is) ∙ sym front.1) ∙ unmixed) in
        let missed = run_misses (drop j q) a.byte a.more end.0 (tame_above a.byte (omega (arith, over, a.least))) end.1 (cut_less n (drop j q) (a.byte ∷ a.more) under) in
        dead_on t k lt q x front.0 front.1 a (leads (a.byte ∷ a.more) (subst (Misses (chunks (a.byte ∷ a.more))) (sym (within_from q j in_q)) missed));
  }
    where
      later : List ℕ
      later = run_of (drop 1 part)

      begins : run_of part ≡ goes ∷ later
      begins = ap run_of (drop_more part 0 0 some) ∙ ap (λ b. cond b (goes ∷ later) []) run

      in_q : j ≤ length q
      in_q = omega (arith, some, length-take n (drop j q), length-drop j q)

-- ---- entries in order, from a bound on

abbrev pub from_bound : {X : Type 0} → String Global → List (String Global × X) → List (String Global × X)
from_bound bound es = entries_between string_cmp (Included bound) Unbounded es

abbrev is_from : String Global → String Global → Bool
is_from bound k = range_contains string_cmp (Included bound) Unbounded k

from_less : (bound k : String Global) → string_cmp k bound ≡ Less → is_from bound k ≡ false
from_less bound k less = ap (λ r. is_le r && true) (nat_list_cmp_total.antisymm (string_bytes bound) (string_bytes k) ∙ ap ordering_reverse less)

below_from : (bound k : String Global) → is_from bound k ≡ false → string_cmp k bound ≡ Less
below_from bound k not_from = by (string_cmp bound k) refl not_from
  where
    by : (r : Ordering) → string_cmp bound k ≡ r → (is_le r && true) ≡ false → string_cmp k bound ≡ Less
    by Less is e = absurd (false≢true (sym e))
    by Equal is e = absurd (false≢true (sym e))
    by Greater is e = nat_list_cmp_total.antisymm (string_bytes k) (string_bytes bound) ∙ ap ordering_reverse is

-- entries passed over, and those from the bound on
pub record IsSplit {X A : Type 0} (f : List ℕ × X → List A) (es new : List (String Global × X)) : Type 0 where
  pub over : List (String Global × X)
  pub whole : es ≡ over ++ new
  pub nothing : flat_map f (texts_of over) ≡ []

above_less : {X : Type 0} (bound k : String Global) (es : List (String Global × X)) → AllByRecursion (λ x. string_cmp k x ≡ Less) (keys_of es) → is_from bound k ≡ true → from_bound bound es ≡ es
above_less bound k [] all from = refl
above_less bound k (e ∷ es) all from = ap (λ b. cond b (e ∷ from_bound bound es) (from_bound bound es)) (from_above bound k e.0 (string_cmp bound k) refl from all.0) ∙ ap (λ l. e ∷ l) (above_less bound k es all.1 from)
  where
    from_above : (bound k x : String Global) (r : Ordering) → string_cmp bound k ≡ r → is_from bound k ≡ true → string_cmp k x ≡ Less → is_from bound x ≡ true
    from_above bound k x Less is from less = ap (λ r. is_le r && true) (nat_list_cmp_total.trans (string_bytes bound) (string_bytes k) (string_bytes x) is less)
    from_above bound k x Equal is from less =
        let same : string_bytes bound ≡ string_bytes k = (bytes_decides (string_bytes bound) (string_bytes k)).0 (sym (is_eq-slice_cmp (string_bytes bound) (string_bytes k)) ∙ ap is_eq is) in
        ap (λ r. is_le r && true) (ap (λ b. text_cmp b (string_bytes x)) same ∙ less)
    from_above bound k x Greater is from less = absurd (false≢true (sym (ap (λ r. is_le r && true) is) ∙ from))

module _ {X A : Type 0} (P : List ℕ → Type 0) (f : List ℕ × X → List A) (bound : String Global) where
  abbrev Dead : List ℕ → Type 0
  Dead key = (t : List ℕ) → text_cmp t key ≢ Less → text_cmp t (string_bytes bound) ≡ Less → P t → (x : X) → f (t, x) ≡ []

  later : (k x : String Global) → string_cmp k x ≡ Less → Dead (string_bytes k) → Dead (string_bytes x)
  later k x less dead t above below p v = dead t (λ before. above (nat_list_cmp_total.trans t (string_bytes k) (string_bytes x) before less)) below p v

  not_before : (k x : String Global) → string_cmp k x ≡ Less → text_cmp (string_bytes x) (string_bytes k) ≢ Less
  not_before k x less back = not_below_itself (string_bytes k) (nat_list_cmp_total.trans (string_bytes k) (string_bytes x) (string_bytes k) less back)

  -- of the entries after a key, those before the bound give nothing, and the others are those from the bound on
  pub run_split : (k : String Global) (es : List (String Global × X)) → IsStrictlySortedBy string_cmp (k ∷ keys_of es) → AllByRecursion (λ e. P e.0) (texts_of es) → Dead (string_bytes k) → IsSplit f es (from_bound bound es)
  run_split k [] s all dead = record { over = []; whole = refl; nothing = refl }
  run_split k (e ∷ es) s all dead =
      let above = sorted_head string_cmp k (keys_of (e ∷ es)) s in
      let rest = sorted_tail string_cmp k (keys_of (e ∷ es)) s in
      by (is_from bound e.0) refl above.0 rest (run_split e.0 es rest all.1 (later k e.0 above.0 dead))
    where
      by : (b : Bool) → is_from bound e.0 ≡ b → string_cmp k e.0 ≡ Less → IsStrictlySortedBy string_cmp (e.0 ∷ keys_of es) → IsSplit f es (from_bound bound es) → IsSplit f (e ∷ es) (cond b (e ∷ from_bound bound es) (from_bound bound es))
      by true is less rest more = record { over = []; whole = ap (λ l. e ∷ l) (sym (above_less bound e.0 es (sorted_head string_cmp e.0 (keys_of es) rest) is)); nothing = refl }
      by false is less rest more =
          let before : string_cmp e.0 bound ≡ Less = below_from bound e.0 is in
          record {
            over = e ∷ more.over;
            whole = ap (λ l. e ∷ l) more.whole;
            nothing = λ i. dead (string_bytes e.0) (not_before k e.0 less) before all.0 e.1 i ++ more.nothing i;
          }

-- the list ends with these
abbrev pub IsEnd : {X : Type 0} → List X → List X → Type 0
IsEnd {X} xs ys = (front : List X) × (xs ≡ front ++ ys)

pub unbounded : {X : Type 0} (es : List (String Global × X)) → entries_between string_cmp Unbounded Unbounded es ≡ es
unbounded [] = refl
unbounded (e ∷ es) = ap (λ l. e ∷ l) (unbounded es)

pub sorted_end : {X : Type 0} (front es : List (String Global × X)) → IsStrictlySortedBy string_cmp (keys_of (front ++ es)) → IsStrictlySortedBy string_cmp (keys_of es)
sorted_end [] es s = s
sorted_end (x ∷ front) es s = sorted_end front es (sorted_tail string_cmp x.0 (keys_of (front ++ es)) s)

below_middle : {X : Type 0} (k : String Global) (front : List (String Global × X)) (e : String Global × X) (rest : List (String Global × X)) → AllByRecursion (λ y. string_cmp k y ≡ Less) (keys_of (front ++ e ∷ rest)) → string_cmp k e.0 ≡ Less
below_middle k [] e rest all = all.0
below_middle k (x ∷ front) e rest all = below_middle k front e rest all.1

module _ {X : Type 0} (bound : String Global) (e : String Global × X) (rest : List (String Global × X)) (less : string_cmp e.0 bound ≡ Less) where
  -- what stands up to an entry before the bound is not from the bound on
  dropped : (front : List (String Global × X)) → IsStrictlySortedBy string_cmp (keys_of (front ++ e ∷ rest)) → from_bound bound (front ++ e ∷ rest) ≡ from_bound bound rest
  dropped [] s = ap (λ b. cond b (e ∷ from_bound bound rest) (from_bound bound rest)) (from_less bound e.0 less)
  dropped (x ∷ front) s =
      let all = sorted_head string_cmp x.0 (keys_of (front ++ e ∷ rest)) s in
      let below : string_cmp x.0 bound ≡ Less = nat_list_cmp_total.trans (string_bytes x.0) (string_bytes e.0) (string_bytes bound) (below_middle x.0 front e rest all) less in
      ap (λ b. cond b (x ∷ from_bound bound (front ++ e ∷ rest)) (from_bound bound (front ++ e ∷ rest))) (from_less bound x.0 below)
      ∙ dropped front (sorted_tail string_cmp x.0 (keys_of (front ++ e ∷ rest)) s)

-- the step of the walk: what is passed over gives nothing, and what is left is the end of the entries
pub record IsPassed {X A : Type 0} (f : List ℕ × X → List A) (es rest new : List (String Global × X)) : Type 0 where
  pub split : IsSplit f rest new
  pub end : IsEnd es new

module _ {X A : Type 0} (P : List ℕ → Type 0) (f : List ℕ × X → List A) (bound : String Global) (es front rest : List (String Global × X)) (e : String Global × X) where
  pub passed : es ≡ front ++ e ∷ rest → IsStrictlySortedBy string_cmp (keys_of es) → AllByRecursion (λ e. P e.0) (texts_of rest) → string_cmp e.0 bound ≡ Less
      → ((t : List ℕ) → text_cmp t (string_bytes e.0) ≢ Less → text_cmp t (string_bytes bound) ≡ Less → P t → (x : X) → f (t, x) ≡ []) → IsPassed f es rest (from_bound bound es)
  passed is s all less dead =
      let sorted : IsStrictlySortedBy string_cmp (keys_of (front ++ e ∷ rest)) = subst (λ l. IsStrictlySortedBy string_cmp (keys_of l)) is s in
      let same : from_bound bound es ≡ from_bound bound rest = ap (from_bound bound) is ∙ dropped bound e rest less front sorted in
      let split = run_split P f bound e.0 rest (sorted_end front (e ∷ rest) sorted) all dead in
      record {
        split = subst (IsSplit f rest) (sym same) split;
        end = (front ++ e ∷ split.over, is ∙ ap (λ l. front ++ e ∷ l) (split.whole ∙ ap (λ l. split.over ++ l) (sym same)) ∙ sym (append_assoc front (e ∷ split.over) (from_bound bound es)));
      }

-- where none from an entry on gives anything, nothing is left
module _ {X A : Type 0} (P : List ℕ → Type 0) (f : List ℕ × X → List A) where
  pub none_left : (k : String Global) (es : List (String Global × X)) → IsStrictlySortedBy string_cmp (k ∷ keys_of es) → AllByRecursion (λ e. P e.0) (texts_of es)
      → ((t : List ℕ) → text_cmp t (string_bytes k) ≢ Less → P t → (x : X) → f (t, x) ≡ []) → flat_map f (texts_of es) ≡ []
  none_left k [] s all dead = refl
  none_left k (e ∷ es) s all dead =
      let less : string_cmp k e.0 ≡ Less = (sorted_head string_cmp k (keys_of (e ∷ es)) s).0 in
      let more = none_left e.0 es (sorted_tail string_cmp k (keys_of (e ∷ es)) s) all.1 (λ t above p x. dead t (λ before. above (nat_list_cmp_total.trans t (string_bytes k) (string_bytes e.0) before less)) p x) in
      λ i. dead (string_bytes e.0) (λ back. not_below_itself (string_bytes k) (nat_list_cmp_total.trans (string_bytes k) (string_bytes e.0) (string_bytes k) less back)) all.0 e.1 i ++ more i

module _ {X A : Type 0} (f : List ℕ × X → List A) where
  joined : (xs ys : List (String Global × X)) → flat_map f (texts_of (xs ++ ys)) ≡ flat_map f (texts_of xs) ++ flat_map f (texts_of ys)
  joined [] ys = refl
  joined (x ∷ xs) ys = ap (λ l. f (string_bytes x.0, x.1) ++ l) (joined xs ys) ∙ sym (append_assoc (f (string_bytes x.0, x.1)) (flat_map f (texts_of xs)) (flat_map f (texts_of ys)))

  -- the walk loses nothing where the entry that it left gives nothing
  pub nothing_lost : (es rest new : List (String Global × X)) (e : String Global × X) → IsPassed f es rest new → f (string_bytes e.0, e.1) ≡ [] → flat_map f (texts_of (e ∷ rest)) ≡ flat_map f (texts_of new)
  nothing_lost es rest new e p none =
      ap (λ l. l ++ flat_map f (texts_of rest)) none
      ∙ ap (λ l. flat_map f (texts_of l)) p.split.whole
      ∙ joined p.split.over new
      ∙ ap (λ l. l ++ flat_map f (texts_of new)) p.split.nothing

pub all_at_end : {X : Type 0} (P : List ℕ × X → Type 0) (xs ys : List (String Global × X)) → AllByRecursion P (texts_of (xs ++ ys)) → AllByRecursion P (texts_of ys)
all_at_end P [] ys all = all
all_at_end P (x ∷ xs) ys all = all_at_end P xs ys all.1

-- ---- where keys are listed
pub is_less : (r : Ordering) → is_lt r ≡ true → r ≡ Less
is_less Less h = refl
is_less Equal h = absurd (false≢true h)
is_less Greater h = absurd (false≢true h)

-- what is passed over but for mixed texts, where none of these stands between
pub clear_of : (lists : Lists) (q key bound : List ℕ) (k want : ℕ) → IsForkAt key q k want → SkipsUnmixed q key bound → NoneBetween lists.1 key bound → SkipsListed lists q key bound
clear_of lists q key bound k want fork skips clear = record {
  after = skips.after;
  none = λ t above below listed. by t above below listed (is_mixed t) refl;
}
  where
    itself : intersects key q ≡ false
    itself = (step_skipped key q k want fork).none key (not_below_itself key) (step_skipped key q k want fork).after

    by : (t : List ℕ) → text_cmp t key ≢ Less → text_cmp t bound ≡ Less → IsListed lists t → (b : Bool) → is_mixed t ≡ b → intersects t q ≡ false
    by t above below listed false plain = skips.none t above below plain
    by t above below listed true mixed = by_order (text_cmp t key) refl
      where
        by_order : (r : Ordering) → text_cmp t key ≡ r → intersects t q ≡ false
        by_order Less is = absurd (above is)
        by_order Equal is = ap (λ x. intersects x q) (text_exact t key is) ∙ itself
        by_order Greater is = absurd (clear t (listed.1 mixed) (nat_list_cmp_total.antisymm key t ∙ ap ordering_reverse is) below)

-- the same up to the first mixed text after the key
pub clear_to : (lists : Lists) (q key bound first : List ℕ) (k want : ℕ) → IsForkAt key q k want → SkipsUnmixed q key bound → IsFirstAfter lists.1 key first → text_cmp first bound ≡ Less → SkipsListed lists q key first
clear_to lists q key bound first k want fork skips is before = clear_of lists q key first k want fork nearer is.none
  where
    nearer : SkipsUnmixed q key first
    nearer = record {
      after = is.after;
      none = λ t above below. skips.none t above (nat_list_cmp_total.trans t first bound below before);
    }

-- ---- the step at a plain key
above_from : (t k : List ℕ) → text_cmp t k ≢ Less → (t ≡ k → ⊥) → text_cmp k t ≡ Less
above_from t k not_below differ = by (text_cmp t k) refl not_below
  where
    by : (r : Ordering) → text_cmp t k ≡ r → r ≢ Less → text_cmp k t ≡ Less
    by Less is ne = absurd (ne refl)
    by Equal is ne = absurd (differ (text_exact t k is))
    by Greater is ne = nat_list_cmp_total.antisymm k t ∙ ap ordering_reverse is

module _ (lists : Lists) (q key : List ℕ) (q_plain : is_plain q ≡ true) (key_plain : is_plain key ≡ true) where
  misses_plain : (t : List ℕ) → text_cmp t key ≢ Less → IsListed lists t → (t ≡ q → ⊥) → (has_text t lists.0 ≡ true → text_cmp key t ≡ Less → ⊥) → intersects t q ≡ false
  misses_plain t above listed other unlisted = by (is_plain t) refl
    where
      by : (b : Bool) → is_plain t ≡ b → intersects t q ≡ false
      by true plain = intersects-plain t q plain q_plain ∙ false_from_ne_true (bytes_eq t q) (λ e. other ((bytes_eq-Decides t q).0 e))
      by false wild = absurd (unlisted (listed.0 wild) (above_from t key above (λ same. false≢true (sym wild ∙ ap is_plain same ∙ key_plain))))

  pub to_request : text_cmp key q ≡ Less → NoneBetween lists.0 key q → SkipsListed lists q key q
  to_request less none = record {
    after = less;
    none = λ t above below listed. misses_plain t above listed (λ same. not_below_itself t (ap (text_cmp t) same ∙ below)) (λ has after. none t has after below);
  }

  pub to_listed : (first : List ℕ) → IsFirstAfter lists.0 key first → (text_cmp q key ≡ Less) ⊎ (text_cmp first q ≡ Less) → SkipsListed lists q key first
  to_listed first is out = record {
    after = is.after;
    none = λ t above below listed. misses_plain t above listed (other t above below out) (λ has after. is.none t has after below);
  }
    where
      other : (t : List ℕ) → text_cmp t key ≢ Less → text_cmp t first ≡ Less → (text_cmp q key ≡ Less) ⊎ (text_cmp first q ≡ Less) → t ≡ q → ⊥
      other t above below (inl less) same = above (ap (λ x. text_cmp x key) same ∙ less)
      other t above below (inr less) same = not_below_itself t (nat_list_cmp_total.trans t first t below (ap (text_cmp first) same ∙ less))

  pub none_from : text_cmp q key ≡ Less → NoneAfter lists.0 key → NoneFrom lists q key
  none_from less none t above listed = misses_plain t above listed (λ same. above (ap (λ x. text_cmp x key) same ∙ less)) (λ has after. none t has after)
