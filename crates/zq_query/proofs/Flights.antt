-- The replies in flight of a request: what the map of replies and the records say of them.
use Rattle.std.proofs.Common.{◌≡◌, ℕ, ◌<◌, Bool, true, false, cond, List, [], ◌∷◌, ap, ◌∙◌, refl, Some, None, Option, sym, subst, true≢false, eqb-true}
use Rattle.std.specs.Prelude.{◌&&◌, ◌||◌, ◌==◌, find}
use Rattle.std.specs.declared.cmp.Ordering.TheVariants.{Less}
use Rattle.std.specs.Ordering.{nat_cmp}
use Rattle.std.specs.Cmp.{nat_cmp_total, nat_eq_equiv, nat_cmp_is}
use Rattle.std.specs.Option.{IsSome, IfSome, IfNone, option_map}
use Rattle.std.specs.List.{filter, list_any, AllByRecursion}
use Rattle.std.specs.List.Sorted.{IsStrictlySortedBy}
use Rattle.std.specs.Map.{keys_of}
use Rattle.std.specs.BTreeMap.{is_at}
use Rattle.std.proofs.lemmas.Map.Keys.{sorted_head, sorted_tail}
use Rattle.std.proofs.lemmas.Map.Lookups.{exact_unsigned}
use Rattle.zq_query.specs.declared.queries.Open.{Open}
use Rattle.zq_query.specs.declared.queries.Owed.{Owed}
use Rattle.zq_query.specs.Records.{flies, is_reply, has_reply}
use Rattle.zq_query.specs.Tables.{Dues, Place, at_number, flies_for, record_of, records_of, IsTied}
use Rattle.zq_query.proofs.Entries.{any_map, one_has, has_the_reply}
use Rattle.zq_key.proofs.Lookups.{each_entry, none_above}
use Rattle.zq_key.proofs.Sorted.{chain}

-- ---- what the records say
there_by : (r n : ℕ) (replies : List (ℕ × ℕ)) (e : ℕ × ℕ) (es : List (ℕ × ℕ)) (b c : Bool) → (e.1 == n) ≡ b → is_reply r e.0 ≡ c → at_number e.0 replies ≡ Some e.1
    → (list_any (is_reply r) (keys_of (filter (flies_for n) es)) ≡ true → at_number r replies ≡ Some n)
    → list_any (is_reply r) (keys_of (cond b (e ∷ filter (flies_for n) es) (filter (flies_for n) es))) ≡ true → at_number r replies ≡ Some n
there_by r n replies e es true true f g is ih h = ap (λ k. at_number k replies) (sym (eqb-true _ _ g)) ∙ is ∙ ap (λ m. Some m) (eqb-true _ _ f)
there_by r n replies e es true false f g is ih h = ih (sym (ap (λ b. b || list_any (is_reply r) (keys_of (filter (flies_for n) es))) g) ∙ h)
there_by r n replies e es false c f g is ih h = ih h

there : (r n : ℕ) (replies es : List (ℕ × ℕ)) → AllByRecursion (λ e. at_number e.0 replies ≡ Some e.1) es → list_any (is_reply r) (keys_of (filter (flies_for n) es)) ≡ true → at_number r replies ≡ Some n
there r n replies [] all h = absurd (true≢false (sym h))
there r n replies (e ∷ es) all h = there_by r n replies e es (e.1 == n) (is_reply r e.0) refl refl all.0 (there r n replies es all.1) h

-- a reply in flight for a request, read from the map of open requests
abbrev flies_at : List (ℕ × ℕ) → ℕ → ℕ → ℕ → Bool
flies_at replies n r m = (m == n) && list_any (is_reply r) (keys_of (filter (flies_for m) replies))

some_head : {X : Type 0} (replies : List (ℕ × ℕ)) (n r : ℕ) (heads : List (ℕ × X)) → AllByRecursion (λ e. at_number e.0 replies ≡ Some e.1) replies → list_any (λ e. flies_at replies n r e.0) heads ≡ true → at_number r replies ≡ Some n
some_head replies n r [] all h = absurd (true≢false (sym h))
some_head replies n r (e ∷ heads) all h = by_head (e.0 == n) (list_any (is_reply r) (keys_of (filter (flies_for e.0) replies))) refl refl h (some_head replies n r heads all)
  where
    by_head : (b c : Bool) → (e.0 == n) ≡ b → list_any (is_reply r) (keys_of (filter (flies_for e.0) replies)) ≡ c → ((b && c) || list_any (λ e. flies_at replies n r e.0) heads) ≡ true → (list_any (λ e. flies_at replies n r e.0) heads ≡ true → at_number r replies ≡ Some n) → at_number r replies ≡ Some n
    by_head true true f g h ih = there r n replies replies all (ap (λ m. list_any (is_reply r) (keys_of (filter (flies_for m) replies))) (sym (eqb-true _ _ f)) ∙ g)
    by_head true false f g h ih = ih h
    by_head false c f g h ih = ih h

-- ---- the first reply of the request
found_by : (n : ℕ) (replies : List (ℕ × ℕ)) (x : ℕ × ℕ) (xs : List (ℕ × ℕ)) (e : ℕ × ℕ) (b : Bool) → (x.1 == n) ≡ b → at_number x.0 replies ≡ Some x.1 → cond b (Some x) (find (flies_for n) xs) ≡ Some e
    → (find (flies_for n) xs ≡ Some e → at_number e.0 replies ≡ Some n) → at_number e.0 replies ≡ Some n
found_by n replies x xs e true f is h ih =
    let same : x ≡ e = cc in
    ap (λ (z : ℕ × ℕ). at_number z.0 replies) (sym same) ∙ is ∙ ap (λ m. Some m) (eqb-true _ _ f)
found_by n replies x xs e false f is h ih = ih h

found_at : (n : ℕ) (replies es : List (ℕ × ℕ)) (e : ℕ × ℕ) → AllByRecursion (λ x. at_number x.0 replies ≡ Some x.1) es → find (flies_for n) es ≡ Some e → at_number e.0 replies ≡ Some n
found_at n replies [] e all h = absurd (cc)
found_at n replies (x ∷ xs) e all h = found_by n replies x xs e _ refl all.0 h (found_at n replies xs e all.1)

not_mine : (n : ℕ) (x : ℕ × ℕ) → (x.1 == n) ≡ false → Some x.1 ≡ Some n → ⊥
not_mine n x f h = let same : x.1 ≡ n = cc in true≢false (sym (nat_eq_equiv.refl n) ∙ ap (λ m. m == n) (sym same) ∙ f)

before_by : (n r : ℕ) (x : ℕ × ℕ) (xs : List (ℕ × ℕ)) (e : ℕ × ℕ) (b c : Bool) → (x.1 == n) ≡ b → is_at (nat_cmp r) x.0 ≡ c → IsStrictlySortedBy nat_cmp (keys_of (x ∷ xs)) → cond b (Some x) (find (flies_for n) xs) ≡ Some e → r < e.0
    → at_number r (x ∷ xs) ≡ Some n → cond c (Some x.1) (at_number r xs) ≡ Some n → (find (flies_for n) xs ≡ Some e → at_number r xs ≡ Some n → ⊥) → ⊥
before_by n r x xs e true c f g s h l is cases ih =
    let same : x ≡ e = cc in
    let first : Less ≡ nat_cmp r x.0 = nat_cmp_is r x.0 Less (subst (λ (z : ℕ × ℕ). r < z.0) (sym same) l) in
    let none = none_above nat_cmp_total exact_unsigned r (x ∷ xs) (sym first, chain nat_cmp_total r x.0 (keys_of xs) (sym first) (sorted_head nat_cmp x.0 (keys_of xs) s)) in
    let both : ◌≡◌ {A = Option ℕ} None (Some n) = sym none ∙ is in
    absurd (cc)
before_by n r x xs e false true f g s h l is cases ih = not_mine n x f cases
before_by n r x xs e false false f g s h l is cases ih = ih h cases

before_first : (n r : ℕ) (es : List (ℕ × ℕ)) (e : ℕ × ℕ) → IsStrictlySortedBy nat_cmp (keys_of es) → find (flies_for n) es ≡ Some e → r < e.0 → at_number r es ≡ Some n → ⊥
before_first n r [] e s h l is = absurd (cc)
before_first n r (x ∷ xs) e s h l is = before_by n r x xs e _ _ refl refl s h l is is (λ f g. before_first n r xs e (sorted_tail nat_cmp x.0 (keys_of xs) s) f l g)

none_by_find : (n r : ℕ) (x : ℕ × ℕ) (xs : List (ℕ × ℕ)) (b c : Bool) → (x.1 == n) ≡ b → ◌≡◌ {A = Option (ℕ × ℕ)} (cond b (Some x) (find (flies_for n) xs)) None → cond c (Some x.1) (at_number r xs) ≡ Some n
    → (find (flies_for n) xs ≡ None → at_number r xs ≡ Some n → ⊥) → ⊥
none_by_find n r x xs true c f h is ih = absurd (cc)
none_by_find n r x xs false true f h is ih = not_mine n x f is
none_by_find n r x xs false false f h is ih = ih h is

none_found : (n r : ℕ) (es : List (ℕ × ℕ)) → find (flies_for n) es ≡ None → at_number r es ≡ Some n → ⊥
none_found n r [] h is = absurd (cc)
none_found n r (x ∷ xs) h is = none_by_find n r x xs _ (is_at (nat_cmp r) x.0) refl h is (none_found n r xs)

module _ (heads : List (ℕ × Open)) (pending : List (Place × Owed)) (dues : Dues) (replies : List (ℕ × ℕ)) (tied : IsTied heads pending dues replies) where
  listed : AllByRecursion (λ e. at_number e.0 replies ≡ Some e.1) replies
  listed = each_entry nat_cmp_total exact_unsigned (λ e. at_number e.0 replies ≡ Some e.1) replies tied.flights (λ k v h. h)

  read : (n r : ℕ) → flies n r (records_of heads pending replies) ≡ list_any (λ e. flies_at replies n r e.0) heads
  read n r = any_map (record_of pending replies) (λ q. (q.number == n) && has_reply r q) heads

  -- a reply that the records have in flight is in the map
  forth : (n r : ℕ) → flies n r (records_of heads pending replies) ≡ true → at_number r replies ≡ Some n
  forth n r h = some_head replies n r heads listed (sym (read n r) ∙ h)

  back_by : (n r : ℕ) (q : Option Open) → at_number n heads ≡ q → IsSome q → at_number r replies ≡ Some n → list_any (λ e. flies_at replies n r e.0) heads ≡ true
  back_by n r None e none is = absurd (true≢false (sym none))
  back_by n r (Some o) e some is = one_has n (flies_at replies n r) heads o e (λ j. nat_eq_equiv.refl n j && has_the_reply r n replies is j)

  -- and the other way round
  back : (n r : ℕ) → at_number r replies ≡ Some n → flies n r (records_of heads pending replies) ≡ true
  back n r is = read n r ∙ back_by n r (at_number n heads) refl (tied.flown r n is) is

  none_by : (n r : ℕ) (b : Bool) → flies n r (records_of heads pending replies) ≡ b → (at_number r replies ≡ Some n → ⊥) → flies n r (records_of heads pending replies) ≡ false
  none_by n r true e out = absurd (out (forth n r e))
  none_by n r false e out = e

  first_there : (n : ℕ) (e : ℕ × ℕ) → find (flies_for n) replies ≡ Some e → flies n e.0 (records_of heads pending replies) ≡ true
  first_there n e h = back n e.0 (found_at n replies replies e listed h)

  first_least : (n : ℕ) (e : ℕ × ℕ) → find (flies_for n) replies ≡ Some e → (r : ℕ) → r < e.0 → flies n r (records_of heads pending replies) ≡ false
  first_least n e h r l = none_by n r _ refl (before_first n r replies e tied.flights h l)

  none_there : (n : ℕ) → find (flies_for n) replies ≡ None → (r : ℕ) → flies n r (records_of heads pending replies) ≡ false
  none_there n h r = none_by n r _ refl (none_found n r replies h)

  pub there_if : (n : ℕ) (q : Option (ℕ × ℕ)) → find (flies_for n) replies ≡ q → IfSome (option_map (λ e. e.0) q) (λ r. flies n r (records_of heads pending replies) ≡ true)
  there_if n None h = tt
  there_if n (Some e) h = first_there n e h

  pub least_if : (n : ℕ) (q : Option (ℕ × ℕ)) → find (flies_for n) replies ≡ q → IfSome (option_map (λ e. e.0) q) (λ r. (earlier : ℕ) → earlier < r → flies n earlier (records_of heads pending replies) ≡ false)
  least_if n None h = tt
  least_if n (Some e) h = first_least n e h

  pub none_if : (n : ℕ) (q : Option (ℕ × ℕ)) → find (flies_for n) replies ≡ q → IfNone (option_map (λ e. e.0) q) ((r : ℕ) → flies n r (records_of heads pending replies) ≡ false)
  none_if n None h = none_there n h
  none_if n (Some e) h = tt
