-- One id in the ids of a face.
use Rattle.std.proofs.Common.{◌≡◌, ◌≢◌, ℕ, ◌+◌, ◌-◌, ◌<◌, ◌≤◌, Bool, true, false, cond, List, [], ◌∷◌, Some, None, refl, sym, ap, ◌∙◌, arith, zero, suc, min, inl, inr}
use Rattle.std.specs.declared.cmp.Ordering.{Ordering}
use Rattle.std.specs.declared.cmp.Ordering.TheVariants.{Less, Equal, Greater}
use Rattle.std.specs.Ordering.{nat_cmp, match_ordering, is_eq}
use Rattle.std.specs.Option.{is_some}
use Rattle.std.specs.BTreeMap.{is_at}
use Rattle.std.specs.Map.{keys_of, lookup, remove_entry}
use Rattle.std.specs.List.{All}
use Rattle.std.proofs.lemmas.Bool.{false≢true, cases_eq, or_parts}
use Rattle.std.proofs.lemmas.Cmp.{nat_cmp_total, tied_itself, ranked}
use Rattle.std.proofs.lemmas.Option.{none-some, same_Some}
use Rattle.std.proofs.lemmas.List.Elements.{All-head, All-tail}
use Rattle.std.proofs.lemmas.Map.Views.{All-keys-insert_entry, All-map-remove_entry}
use Rattle.zq_tables.specs.FaceIds.{of_id, with_id, without_id, is_used, free_from, IsFace}
use Rattle.zq_key.proofs.Truth.{none_from}

pub itself : (i : ℕ) → nat_cmp i i ≡ Equal
itself i = tied_itself nat_cmp_total i

-- ---- looking up after a change

pub of_id-with_id : {X : Type 0} (es : List (ℕ × X)) (i : ℕ) (n : X) → of_id (with_id es i n) i ≡ Some n
of_id-with_id [] i n = rw (itself i)
of_id-with_id {X} (e ∷ es) i n = by (nat_cmp i e.0) refl (of_id-with_id es i n)
  where
    by : (o : Ordering) → nat_cmp i e.0 ≡ o → of_id (with_id es i n) i ≡ Some n → of_id (match_ordering o ((i, n) ∷ e ∷ es) ((e.0, n) ∷ es) (e ∷ with_id es i n)) i ≡ Some n
    by Less is later = rw (itself i)
    by Equal is later = rw is
    by Greater is later = rw is later

pub apart_ids : (i k : ℕ) → i ≢ k → is_at (nat_cmp i) k ≡ false
apart_ids i k differ = by (nat_cmp i k) refl
  where
    by : (o : Ordering) → nat_cmp i k ≡ o → is_eq o ≡ false
    by Less is = refl
    by Equal is = absurd (differ (ranked i k Equal (sym is)))
    by Greater is = refl

pub of_id-with_other : {X : Type 0} (es : List (ℕ × X)) (k i : ℕ) (n : X) → i ≢ k → of_id (with_id es k n) i ≡ of_id es i
of_id-with_other [] k i n differ = rw (apart_ids i k differ)
of_id-with_other {X} (e ∷ es) k i n differ = by (nat_cmp k e.0) refl (of_id-with_other es k i n differ)
  where
    by : (o : Ordering) → nat_cmp k e.0 ≡ o → of_id (with_id es k n) i ≡ of_id es i → of_id (match_ordering o ((k, n) ∷ e ∷ es) ((e.0, n) ∷ es) (e ∷ with_id es k n)) i ≡ of_id (e ∷ es) i
    by Less is later = rw (apart_ids i k differ)
    by Equal is later = let other : is_at (nat_cmp i) e.0 ≡ false = apart_ids i e.0 (λ same. differ (same ∙ sym (ranked k e.0 Equal (sym is)))) in rw other
    by Greater is later = rw later

pub of_id-without_other : {X : Type 0} (es : List (ℕ × X)) (k i : ℕ) → i ≢ k → of_id (without_id es k) i ≡ of_id es i
of_id-without_other [] k i differ = refl
of_id-without_other {X} (e ∷ es) k i differ = by (nat_cmp k e.0) refl (of_id-without_other es k i differ)
  where
    by : (o : Ordering) → nat_cmp k e.0 ≡ o → of_id (without_id es k) i ≡ of_id es i → of_id (cond (is_eq o) es (e ∷ without_id es k)) i ≡ of_id (e ∷ es) i
    by Less is later = rw later
    by Equal is later = let other : is_at (nat_cmp i) e.0 ≡ false = apart_ids i e.0 (λ same. differ (same ∙ sym (ranked k e.0 Equal (sym is)))) in rw other
    by Greater is later = rw later

pub with_id-twice : {X : Type 0} (es : List (ℕ × X)) (i : ℕ) (a b : X) → with_id (with_id es i a) i b ≡ with_id es i b
with_id-twice [] i a b = rw (itself i)
with_id-twice (e ∷ es) i a b = by (nat_cmp i e.0) refl (with_id-twice es i a b)
  where
    by : (o : Ordering) → nat_cmp i e.0 ≡ o → with_id (with_id es i a) i b ≡ with_id es i b
        → with_id (match_ordering o ((i, a) ∷ e ∷ es) ((e.0, a) ∷ es) (e ∷ with_id es i a)) i b ≡ match_ordering o ((i, b) ∷ e ∷ es) ((e.0, b) ∷ es) (e ∷ with_id es i b)
    by Less is later = rw (itself i)
    by Equal is later = rw is
    by Greater is later = rw is (rw later)

pub without-with_id : {X : Type 0} (es : List (ℕ × X)) (i : ℕ) (a : X) → of_id es i ≡ None → without_id (with_id es i a) i ≡ es
without-with_id [] i a absent = rw (itself i)
without-with_id (e ∷ es) i a absent = by (nat_cmp i e.0) refl (without-with_id es i a)
  where
    by : (o : Ordering) → nat_cmp i e.0 ≡ o → (of_id es i ≡ None → without_id (with_id es i a) i ≡ es)
        → without_id (match_ordering o ((i, a) ∷ e ∷ es) ((e.0, a) ∷ es) (e ∷ with_id es i a)) i ≡ e ∷ es
    by Less is later = rw (itself i)
    by Equal is later = absurd (none-some e.1 (sym absent ∙ rw is))
    by Greater is later = rw is (rw (later (rw is at absent)))

-- ---- ids are positive

pub positive_id : {X : Type 0} (es : List (ℕ × X)) (i : ℕ) (x : X) → All (λ k. 0 < k) (keys_of es) → of_id es i ≡ Some x → 0 < i
positive_id [] i x all is = absurd (none-some x is)
positive_id {X} (e ∷ es) i x all is = by (nat_cmp i e.0) refl (positive_id es i x (All-tail (λ k. 0 < k) e.0 (keys_of es) all))
  where
    by : (o : Ordering) → nat_cmp i e.0 ≡ o → (of_id es i ≡ Some x → 0 < i) → 0 < i
    by Less o_is later = later (rw o_is at is)
    by Equal o_is later = let same : i ≡ e.0 = ranked i e.0 Equal (sym o_is) in rw same (All-head (λ k. 0 < k) e.0 (keys_of es) all)
    by Greater o_is later = later (rw o_is at is)

-- ---- the least free id

pub free_from-used : {X : Type 0} (a b : List (ℕ × X)) (n i : ℕ) → is_used a b i ≡ true → free_from a b (suc n) i ≡ free_from a b n (i + 1)
unfolding free_from
free_from-used a b n i used = rw used

pub free_from-free : {X : Type 0} (a b : List (ℕ × X)) (n i : ℕ) → is_used a b i ≡ false → free_from a b (suc n) i ≡ Some i
unfolding free_from
free_from-free a b n i free = rw free

pub free_from-none : {X : Type 0} (a b : List (ℕ × X)) (i : ℕ) → free_from a b 0 i ≡ None
unfolding free_from
free_from-none a b i = refl

-- used ids are passed over
pub free_from-past : {X : Type 0} (a b : List (ℕ × X)) (m n i : ℕ) → ((j : ℕ) → i ≤ j → j < i + m → is_used a b j ≡ true) → free_from a b (m + n) i ≡ free_from a b n (i + m)
free_from-past a b zero n i used = ap (λ q. free_from a b q i) (omega arith) ∙ ap (λ q. free_from a b n q) (omega arith)
free_from-past a b (suc m) n i used =
    ap (λ q. free_from a b q i) (omega arith)
    ∙ free_from-used a b (m + n) i (used i (omega arith) (omega arith))
    ∙ free_from-past a b m n (i + 1) (λ j le lt. used j (omega arith) (omega arith))
    ∙ ap (λ q. free_from a b n q) (omega arith)

-- what is below the one that is found is used
pub free_from-least : {X : Type 0} (a b : List (ℕ × X)) (n i k : ℕ) → free_from a b n i ≡ Some k → (i ≤ k) × (k < i + n) × (is_used a b k ≡ false) × ((j : ℕ) → i ≤ j → j < k → is_used a b j ≡ true)
free_from-least a b zero i k found = absurd (none-some k (sym (free_from-none a b i) ∙ found))
free_from-least {X} a b (suc n) i k found = by (is_used a b i) refl (free_from-least a b n (i + 1) k)
  where
    by : (u : Bool) → is_used a b i ≡ u → (free_from a b n (i + 1) ≡ Some k → (i + 1 ≤ k) × (k < i + 1 + n) × (is_used a b k ≡ false) × ((j : ℕ) → i + 1 ≤ j → j < k → is_used a b j ≡ true))
        → (i ≤ k) × (k < i + suc n) × (is_used a b k ≡ false) × ((j : ℕ) → i ≤ j → j < k → is_used a b j ≡ true)
    by true u later =
        let rest = later (sym (free_from-used a b n i u) ∙ found) in (
          omega (arith, rest.0),
          omega (arith, rest.1),
          rest.2,
          λ j le lt. elim (cases_eq j i) [
            | inl same ↦ rw same u
            | inr differ ↦ rest.3 j (omega arith) lt
          ],
        )
    by false u later =
        let same : i ≡ k = same_Some _ _ (sym (free_from-free a b n i u) ∙ found) in
        (omega arith, omega arith, rw (← same) u, λ j le lt. absurd (omega arith))

-- ---- the fields of a face

-- the least free id is not one of the gateway's
pub next_unused : {X : Type 0} (theirs ours : List (ℕ × X)) (i : ℕ) → free_from theirs ours 65535 1 ≡ Some i → of_id ours i ≡ None
next_unused theirs ours i found =
    let least = free_from-least theirs ours 65535 1 i found in
    none_from (of_id ours i) ((or_parts (is_some (of_id theirs i)) (is_some (of_id ours i)) least.2).1)

pub IsFace-with_theirs : (theirs ours : List (ℕ × ℕ)) (free i n : ℕ) → 0 < i → IsFace theirs ours free → IsFace (with_id theirs i n) ours free
IsFace-with_theirs theirs ours free i n positive face = record {
  theirs_positive = All-keys-insert_entry nat_cmp i n (λ k. 0 < k) theirs face.theirs_positive positive;
  ours_positive = face.ours_positive;
  positive = face.positive;
  used = λ j above below unused. elim (cases_eq j i) [
    | inl same ↦ false≢true (sym ((or_parts (is_some (of_id (with_id theirs i n) j)) (is_some (of_id ours j)) unused).0) ∙ ap is_some (ap (of_id (with_id theirs i n)) same ∙ of_id-with_id theirs i n))
    | inr differ ↦ face.used j above below (rw (← of_id-with_other theirs i j n differ) unused)
  ];
}

pub IsFace-without_theirs : (theirs ours : List (ℕ × ℕ)) (free i n : ℕ) → of_id theirs i ≡ Some n → IsFace theirs ours free → IsFace (without_id theirs i) ours (min free i)
IsFace-without_theirs theirs ours free i n is face = record {
  theirs_positive = All-map-remove_entry (is_at (nat_cmp i)) (λ (e : ℕ × ℕ). e.0) (λ k. 0 < k) theirs face.theirs_positive;
  ours_positive = face.ours_positive;
  positive = omega (arith, face.positive, positive_id theirs i n face.theirs_positive is);
  used = λ j above below unused.
      let differ : j ≢ i = omega arith in
      face.used j above (omega arith) (rw (← of_id-without_other theirs i j differ) unused);
}

pub IsFace-without_ours : (theirs ours : List (ℕ × ℕ)) (free i n : ℕ) → of_id ours i ≡ Some n → IsFace theirs ours free → IsFace theirs (without_id ours i) (min free i)
IsFace-without_ours theirs ours free i n is face = record {
  theirs_positive = face.theirs_positive;
  ours_positive = All-map-remove_entry (is_at (nat_cmp i)) (λ (e : ℕ × ℕ). e.0) (λ k. 0 < k) ours face.ours_positive;
  positive = omega (arith, face.positive, positive_id ours i n face.ours_positive is);
  used = λ j above below unused.
      let differ : j ≢ i = omega arith in
      face.used j above (omega arith) (rw (← of_id-without_other ours i j differ) unused);
}

true_from : (b : Bool) → (b ≡ false → ⊥) → b ≡ true
true_from true never = refl
true_from false never = absurd (never refl)

-- the search for a free id may begin where all below are used
pub next_start : (theirs ours : List (ℕ × ℕ)) (free : ℕ) → IsFace theirs ours free → free < 65536 → free_from theirs ours 65535 1 ≡ free_from theirs ours (65536 - free) free
next_start theirs ours free face lt =
    let positive = face.positive in
    ap (λ n. free_from theirs ours n 1) (omega arith)
    ∙ free_from-past theirs ours (free - 1) (65536 - free) 1 (λ j above below. true_from (is_used theirs ours j) (face.used j (omega arith) (omega arith)))
    ∙ ap (λ i. free_from theirs ours (65536 - free) i) (omega arith)

pub next_found : (theirs ours : List (ℕ × ℕ)) (i : ℕ) → i ≤ 65535 → free_from theirs ours 65535 1 ≡ free_from theirs ours (65536 - i) i → is_used theirs ours i ≡ false → Some i ≡ free_from theirs ours 65535 1
next_found theirs ours i lt so_far free = sym (so_far ∙ ap (λ n. free_from theirs ours n i) (omega arith) ∙ free_from-free theirs ours (65535 - i) i free)

pub next_more : (theirs ours : List (ℕ × ℕ)) (i : ℕ) → i ≤ 65535 → free_from theirs ours 65535 1 ≡ free_from theirs ours (65536 - i) i → is_used theirs ours i ≡ true → free_from theirs ours 65535 1 ≡ free_from theirs ours (65536 - (i + 1)) (i + 1)
next_more theirs ours i lt so_far used = so_far ∙ ap (λ n. free_from theirs ours n i) (omega arith) ∙ free_from-used theirs ours (65535 - i) i used ∙ ap (λ n. free_from theirs ours n (i + 1)) (omega arith)

pub next_none : (theirs ours : List (ℕ × ℕ)) (i : ℕ) → i ≡ 65535 → free_from theirs ours 65535 1 ≡ free_from theirs ours (65536 - i) i → is_used theirs ours i ≡ true → None ≡ free_from theirs ours 65535 1
next_none theirs ours i last so_far used = sym (so_far ∙ ap (λ n. free_from theirs ours n i) (omega arith) ∙ free_from-used theirs ours 0 i used ∙ free_from-none theirs ours (i + 1))

-- an id that is declared is the least that was free
pub IsFace-declared : (theirs ours : List (ℕ × ℕ)) (free i n : ℕ) → free_from theirs ours 65535 1 ≡ Some i → IsFace theirs ours free → IsFace theirs (with_id ours i n) i
IsFace-declared theirs ours free i n found face =
    let least = free_from-least theirs ours 65535 1 i found in
    record {
      theirs_positive = face.theirs_positive;
      ours_positive = All-keys-insert_entry nat_cmp i n (λ k. 0 < k) ours face.ours_positive (omega (arith, least.0));
      positive = omega (arith, least.0);
      used = λ j above below unused.
          let differ : j ≢ i = omega arith in
          false≢true (sym (rw (of_id-with_other ours i j n differ) at unused) ∙ least.3 j above below);
    }

module _ {X : Type 0} where
  -- nothing is taken out where the id has no entry
  pub removed_absent : (test : ℕ → Bool) (es : List (ℕ × X)) → lookup test es ≡ None → remove_entry test es ≡ es
  removed_absent test [] is = refl
  removed_absent test (e ∷ es) is = by (test e.0) is (removed_absent test es)
    where
      by : (b : Bool) → cond b (Some e.1) (lookup test es) ≡ None → (lookup test es ≡ None → remove_entry test es ≡ es) → cond b es (e ∷ remove_entry test es) ≡ e ∷ es
      by true here later = absurd (none-some e.1 (sym here))
      by false here later = ap (λ l. e ∷ l) (later here)
