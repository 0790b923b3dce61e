-- The entries of a face that closes, and the requests that end with them.
use Rattle.std.proofs.Common.{◌≡◌, ℕ, ◌+◌, ◌-◌, ◌<◌, ◌^◌, Bool, true, false, cond, List, [], ◌∷◌, length, ap, ◌∙◌, refl, arith, Some, None, Option, sym, subst, true≢false, eqb-true, eq-eqb}
use Rattle.std.specs.Prelude.{map, not, ◌&&◌, ◌||◌, ◌==◌}
use Rattle.std.proofs.lemmas.Bool.{ne_eqb, or_parts}
use Rattle.std.proofs.lemmas.Cmp.{ranked}
use Rattle.std.specs.declared.cmp.Ordering.{Ordering}
use Rattle.std.specs.declared.cmp.Ordering.TheVariants.{Less, Equal, Greater}
use Rattle.std.specs.declared.ops.Bound.TheVariants.{Included}
use Rattle.std.specs.Ordering.{nat_cmp, ordering_then, is_le, is_lt}
use Rattle.std.specs.Cmp.{nat_cmp_total, nat_eq_equiv, both_ways}
use Rattle.std.specs.Option.{option_and_then, IsSome}
use Rattle.std.specs.List.{filter, filter_map, list_any, AllByRecursion}
use Rattle.std.specs.List.Sorted.{IsStrictlySortedBy}
use Rattle.std.specs.Map.{keys_of, remove_entry}
use Rattle.std.specs.BTreeMap.{is_at}
use Rattle.std.specs.BTreeMap.Range.{range_contains}
use Rattle.std.proofs.lemmas.Map.Lookups.{exact_unsigned}
use Rattle.std.proofs.Math.Bool.{or-true}
use Rattle.std.proofs.lemmas.List.Kept.{IsStrictlySortedBy-filter}
use Rattle.zq_query.specs.declared.records.Final.{Final}
use Rattle.zq_query.specs.declared.queries.Open.{Open}
use Rattle.zq_query.specs.declared.queries.Owed.{Owed}
use Rattle.zq_query.specs.Records.{Pending, is_entry, is_over, final_of, without, letting_go, letting_go_all}
use Rattle.zq_query.specs.Polling.{is_among}
use Rattle.zq_query.specs.Tables.{Dues, Place, place_cmp, is_of, flies_for, entry_of, record_of, records_of, at_number, at_place, final_at, IsTied}
use Rattle.zq_query.specs.Closing.{at_face, has_open_asker, finals_after}
use Rattle.zq_query.specs.FaceEntries.{entries_of_face, ending, ending_by, has_key}
use Rattle.zq_query.proofs.Keys.{place_total, place_exact}
use Rattle.zq_query.proofs.Counts.{count-remove}
use Rattle.zq_query.proofs.Entries.{map_both, without_place, over_is, some_is}
use Rattle.zq_query.proofs.Agreeing.{without_agree, letting_all, all_in}
use Rattle.zq_query.proofs.Lists.{filter_members, chosen, chosen_map, chosen_keys, chosen_kept, has_kept}
use Rattle.zq_key.proofs.Lookups.{each_entry, same_key, at_itself}
use Rattle.zq_key.proofs.Sorted.{same_keys}

-- ---- the entries from the face's first place to its last
within_by : (face : ℕ) (k : Place) (r : Ordering) → nat_cmp face k.0 ≡ r → k.1 < 2 ^ 32 → (is_le (ordering_then r (nat_cmp 0 k.1)) && not (is_lt (ordering_then r (nat_cmp (2 ^ 32 - 1) k.1)))) ≡ (k.0 == face)
within_by face k Less e l = let ne : k.0 ≡ face → ⊥ = λ same. (let h : face < k.0 = ranked face k.0 Less (sym e) in absurd (omega (arith, h, same))) in sym (ne_eqb k.0 face ne)
within_by face k Equal e l =
    let same : face ≡ k.0 = ranked face k.0 Equal (sym e) in
    (λ j. from_first k.1 j && not (to_last k.1 l j)) ∙ sym (eq-eqb k.0 face (sym same))
  where
    first_by : (i : ℕ) (r : Ordering) → nat_cmp 0 i ≡ r → is_le r ≡ true
    first_by i Less e = refl
    first_by i Equal e = refl
    first_by i Greater e = absurd (let h : i < 0 = ranked 0 i Greater (sym e) in omega (arith, h))

    from_first : (i : ℕ) → is_le (nat_cmp 0 i) ≡ true
    from_first i = first_by i _ refl

    last_by : (i : ℕ) (r : Ordering) → nat_cmp (2 ^ 32 - 1) i ≡ r → i < 2 ^ 32 → is_lt r ≡ false
    last_by i Less e l = absurd (let h : 2 ^ 32 - 1 < i = ranked (2 ^ 32 - 1) i Less (sym e) in omega (arith, h, l))
    last_by i Equal e l = refl
    last_by i Greater e l = refl

    to_last : (i : ℕ) → i < 2 ^ 32 → is_lt (nat_cmp (2 ^ 32 - 1) i) ≡ false
    to_last i l = last_by i _ refl l
within_by face k Greater e l = let ne : k.0 ≡ face → ⊥ = λ same. (let h : k.0 < face = ranked face k.0 Greater (sym e) in absurd (omega (arith, h, same))) in sym (ne_eqb k.0 face ne)

abbrev is_at_face : ℕ → Place × Owed → Bool
is_at_face face e = e.0.0 == face

among_by : (face : ℕ) (e x : Place × Owed) (es : List (Place × Owed)) (b : Bool) → (x.0.0 == face) ≡ b → (e.0.0 == face) ≡ false → list_any (λ y. is_entry y.0.0 y.0.1 (entry_of e)) (filter (is_at_face face) es) ≡ false → list_any (λ y. is_entry y.0.0 y.0.1 (entry_of e)) (cond b (x ∷ filter (is_at_face face) es) (filter (is_at_face face) es)) ≡ false
among_by face e x es true t miss ih =
    let other : (e.0.0 == x.0.0) ≡ false = ap (λ f. e.0.0 == f) (eqb-true _ _ t) ∙ miss in
    rw other ih
among_by face e x es false t miss ih = ih

none_among : (face : ℕ) (e : Place × Owed) (es : List (Place × Owed)) → (e.0.0 == face) ≡ false → list_any (λ y. is_entry y.0.0 y.0.1 (entry_of e)) (filter (is_at_face face) es) ≡ false
none_among face e [] miss = refl
none_among face e (x ∷ es) miss = among_by face e x es _ refl miss (none_among face e es miss)

found_by : (face : ℕ) (e x : Place × Owed) (es : List (Place × Owed)) (b c : Bool) → (x.0.0 == face) ≡ b → is_at (place_cmp e.0) x.0 ≡ c → (e.0.0 == face) ≡ true → cond c (Some x.1) (at_place e.0 es) ≡ Some e.1
    → (at_place e.0 es ≡ Some e.1 → list_any (λ y. is_entry y.0.0 y.0.1 (entry_of e)) (filter (is_at_face face) es) ≡ true)
    → list_any (λ y. is_entry y.0.0 y.0.1 (entry_of e)) (cond b (x ∷ filter (is_at_face face) es) (filter (is_at_face face) es)) ≡ true
found_by face e x es true true t at here is ih =
    let same : e.0 ≡ x.0 = same_key place_total place_exact e.0 x.0 at in
    let it : is_entry x.0.0 x.0.1 (entry_of e) ≡ true = subst (λ (k : Place). ((e.0.0 == k.0) && (e.0.1 == k.1)) ≡ true) same (λ j. nat_eq_equiv.refl e.0.0 j && nat_eq_equiv.refl e.0.1 j) in
    rw it refl
found_by face e x es false true t at here is ih =
    let same : e.0 ≡ x.0 = same_key place_total place_exact e.0 x.0 at in
    absurd (true≢false (sym here ∙ ap (λ (k : Place). k.0 == face) same ∙ t))
found_by face e x es true false t at here is ih = ap (λ b. is_entry x.0.0 x.0.1 (entry_of e) || b) (ih is) ∙ or-true (is_entry x.0.0 x.0.1 (entry_of e))
found_by face e x es false false t at here is ih = ih is

one_among : (face : ℕ) (e : Place × Owed) (es : List (Place × Owed)) → (e.0.0 == face) ≡ true → at_place e.0 es ≡ Some e.1 → list_any (λ y. is_entry y.0.0 y.0.1 (entry_of e)) (filter (is_at_face face) es) ≡ true
one_among face e [] here is = absurd (cc)
one_among face e (x ∷ es) here is = found_by face e x es _ _ refl refl here is (one_among face e es here)

any_keys : (e : Pending) (es : List (Place × Owed)) → is_among (keys_of es) e ≡ list_any (λ y. is_entry y.0.0 y.0.1 e) es
any_keys e [] = refl
any_keys e (x ∷ es) = ap (λ b. is_entry x.0.0 x.0.1 e || b) (any_keys e es)

key_by : (m : ℕ) (o : Open) (h : ℕ × Open) (hs : List (ℕ × Open)) (b : Bool) → cond b (Some h.1) (at_number m hs) ≡ Some o → (at_number m hs ≡ Some o → has_key nat_cmp m (keys_of hs) ≡ true) → (b || has_key nat_cmp m (keys_of hs)) ≡ true
key_by m o h hs true is ih = refl
key_by m o h hs false is ih = ih is

some_key : (m : ℕ) (o : Open) (hs : List (ℕ × Open)) → at_number m hs ≡ Some o → has_key nat_cmp m (keys_of hs) ≡ true
some_key m o [] is = absurd (cc)
some_key m o (h ∷ hs) is = key_by m o h hs (is_at (nat_cmp m) h.0) is (some_key m o hs)

module _ (heads : List (ℕ × Open)) (pending : List (Place × Owed)) (dues : Dues) (replies : List (ℕ × ℕ)) (tied : IsTied heads pending dues replies) (face : ℕ) where
  listed : AllByRecursion (λ e. at_place e.0 pending ≡ Some e.1) pending
  listed = each_entry place_total place_exact (λ e. at_place e.0 pending ≡ Some e.1) pending tied.places (λ k v h. h)

  face_entries : entries_of_face face pending ≡ filter (is_at_face face) pending
  face_entries = filter_members (λ e. range_contains place_cmp (Included (face, 0)) (Included (face, 2 ^ 32 - 1)) e.0) (is_at_face face) pending
      (each_entry place_total place_exact (λ e. range_contains place_cmp (Included (face, 0)) (Included (face, 2 ^ 32 - 1)) e.0 ≡ is_at_face face e) pending tied.places (λ k v h. within_by face k _ refl ((tied.fits k v h).1)))

  among_face : (e : Place × Owed) (b : Bool) → (e.0.0 == face) ≡ b → at_place e.0 pending ≡ Some e.1 → list_any (λ y. is_entry y.0.0 y.0.1 (entry_of e)) (filter (is_at_face face) pending) ≡ b
  among_face e true here is = one_among face e pending here is
  among_face e false miss is = none_among face e pending miss

  -- all of the face's entries are let go
  pub face_let_go : letting_go_all (records_of heads pending replies) (keys_of (entries_of_face face pending)) ≡ letting_go (at_face face) (records_of heads pending replies)
  face_let_go = letting_all heads pending dues replies (at_face face) (keys_of (entries_of_face face pending)) tied
      (each_entry place_total place_exact (λ e. is_among (keys_of (entries_of_face face pending)) (entry_of e) ≡ at_face face (entry_of e)) pending tied.places
      (λ k v h. any_keys (entry_of (k, v)) (entries_of_face face pending) ∙ ap (list_any (λ y. is_entry y.0.0 y.0.1 (entry_of (k, v)))) face_entries ∙ among_face (k, v) _ refl h))

  -- ---- the requests that end
  abbrev is_there : ℕ → Bool
  is_there n = list_any (λ (e : Place × Owed). is_at (nat_cmp n) e.1.number) (filter (is_at_face face) pending)

  some_by : (n : ℕ) (e : Place × Owed) (es : List (Place × Owed)) (b c : Bool) → (e.0.0 == face) ≡ b → is_at (nat_cmp n) e.1.number ≡ c → at_place e.0 pending ≡ Some e.1
      → (list_any (λ (x : Place × Owed). is_at (nat_cmp n) x.1.number) (filter (is_at_face face) es) ≡ true → (x : Place × Owed) × (at_place x.0 pending ≡ Some x.1) × (n ≡ x.1.number) × (x.0.0 ≡ face))
      → list_any (λ (x : Place × Owed). is_at (nat_cmp n) x.1.number) (cond b (e ∷ filter (is_at_face face) es) (filter (is_at_face face) es)) ≡ true → (x : Place × Owed) × (at_place x.0 pending ≡ Some x.1) × (n ≡ x.1.number) × (x.0.0 ≡ face)
  some_by n e es true true t same is ih h = (e, is, same_key nat_cmp_total exact_unsigned n e.1.number same, eqb-true _ _ t)
  some_by n e es true false t same is ih h = ih (sym (ap (λ b. b || list_any (λ (x : Place × Owed). is_at (nat_cmp n) x.1.number) (filter (is_at_face face) es)) same) ∙ h)
  some_by n e es false c t same is ih h = ih h

  some_there : (n : ℕ) (es : List (Place × Owed)) → AllByRecursion (λ e. at_place e.0 pending ≡ Some e.1) es → list_any (λ (e : Place × Owed). is_at (nat_cmp n) e.1.number) (filter (is_at_face face) es) ≡ true → (x : Place × Owed) × (at_place x.0 pending ≡ Some x.1) × (n ≡ x.1.number) × (x.0.0 ≡ face)
  some_there n [] all h = absurd (true≢false (sym h))
  some_there n (e ∷ es) all h = some_by n e es _ _ refl refl all.0 (some_there n es all.1) h

  -- an entry of another request, where it is at the face
  none_by : (n : ℕ) (e : Place × Owed) (es : List (Place × Owed)) (b : Bool) → (e.0.0 == face) ≡ b → list_any (λ (x : Place × Owed). is_at (nat_cmp n) x.1.number) (cond b (e ∷ filter (is_at_face face) es) (filter (is_at_face face) es)) ≡ false
      → ((e.1.number == n) ≡ true → b ≡ false) × (list_any (λ (x : Place × Owed). is_at (nat_cmp n) x.1.number) (filter (is_at_face face) es) ≡ false)
  none_by n e es true t h =
      let m = or_parts (is_at (nat_cmp n) e.1.number) (list_any (λ (x : Place × Owed). is_at (nat_cmp n) x.1.number) (filter (is_at_face face) es)) h in
      (λ same. absurd (true≢false (sym (at_itself nat_cmp_total exact_unsigned n) ∙ ap (is_at (nat_cmp n)) (sym (eqb-true _ _ same)) ∙ m.0)), m.1)
  none_by n e es false t h = (λ same. refl, h)

  none_there : (n : ℕ) (es : List (Place × Owed)) → list_any (λ (e : Place × Owed). is_at (nat_cmp n) e.1.number) (filter (is_at_face face) es) ≡ false → AllByRecursion (λ e. (e.1.number == n) ≡ true → at_face face (entry_of e) ≡ false) es
  none_there n [] h = tt
  none_there n (e ∷ es) h = let m = none_by n e es (e.0.0 == face) refl h in (m.0, none_there n es m.1)

  less_one : (a b : ℕ) → a + 1 ≡ b → (a == 0) ≡ (b == 1)
  less_one a b e = both_ways _ _
      (λ h. let z : a ≡ 0 = eqb-true _ _ h in eq-eqb b 1 (omega (arith, e, z)))
      (λ h. let z : b ≡ 1 = eqb-true _ _ h in eq-eqb a 0 (omega (arith, e, z)))

  module _ (n : ℕ) (o : Open) (open_is : at_number n heads ≡ Some o) where
    -- without its entry at the face
    over_there : (e : Place × Owed) → at_place e.0 pending ≡ Some e.1 → n ≡ e.1.number → e.0.0 ≡ face → is_over (without (at_face face) (record_of pending replies (n, o))) ≡ ((o.pending == 1) && (o.in_flight == 0))
    over_there e is number here =
        let alone : AllByRecursion (λ x. (x.1.number == n) ≡ true → at_face face (entry_of x) ≡ is_entry e.0.0 e.0.1 (entry_of x)) pending =
        each_entry place_total place_exact (λ x. (x.1.number == n) ≡ true → at_face face (entry_of x) ≡ is_entry e.0.0 e.0.1 (entry_of x)) pending tied.places
        (λ k v h same. only (k.0 == face) (k.0 == e.0.0) k v h (eqb-true _ _ same) refl refl) in
        let counted = count-remove (is_at (place_cmp e.0)) (λ w. w.number == n) pending e.1 is in
        let one : ◌≡◌ {A = ℕ} (cond (e.1.number == n) 1 0) 1 = ap (λ (b : Bool). cond {A = ℕ} b 1 0) (eq-eqb e.1.number n (sym number)) in
        let owed = (tied.counted n o open_is).owed in
        let flying = (tied.counted n o open_is).flying in
        ap is_over (without_agree (at_face face) (is_entry e.0.0 e.0.1) pending replies (n, o) alone ∙ without_place pending replies e.0.0 e.0.1 (n, o) tied.places)
        ∙ over_is (remove_entry (is_at (place_cmp e.0)) pending) replies n o
        ∙ (λ j. less_one (length (filter (is_of n) (remove_entry (is_at (place_cmp e.0)) pending))) o.pending (omega (arith, counted, one, owed)) j && (sym flying j == 0))
      where
        only : (b c : Bool) (k : Place) (v : Owed) → at_place k pending ≡ Some v → v.number ≡ n → (k.0 == face) ≡ b → (k.0 == e.0.0) ≡ c → (k.0 == face) ≡ ((k.0 == e.0.0) && (k.1 == e.0.1))
        only true c k v h same s t =
            let at : k.0 ≡ e.0.0 = eqb-true _ _ s ∙ sym here in
            s ∙ sym (λ j. eq-eqb k.0 e.0.0 at j && eq-eqb k.1 e.0.1 (tied.single k e.0 v e.1 h is (same ∙ number) at) j)
        only false true k v h same s t = absurd (true≢false (sym (eq-eqb k.0 face (eqb-true _ _ t ∙ here)) ∙ s))
        only false false k v h same s t = rw t s

    still_there : is_there n ≡ false → is_over (without (at_face face) (record_of pending replies (n, o))) ≡ false
    still_there none =
        let c = tied.counted n o open_is in
        let p = c.owed in
        let q = c.flying in
        let s = c.some_left in
        let l : 0 < length (filter (is_of n) pending) + length (filter (flies_for n) replies) = omega (arith, p, q, s) in
        ap is_over (without_agree (at_face face) (λ _. false) pending replies (n, o) (none_there n pending none)
        ∙ ap (λ z. record (record_of pending replies (n, o)) { pending = z }) (all_in (record_of pending replies (n, o)).pending))
        ∙ over_is pending replies n o
        ∙ some_is _ _ l

  module _ (closed : List ℕ) (numbers : List ℕ) (order : IsStrictlySortedBy nat_cmp numbers) (members : (n : ℕ) → has_key nat_cmp n numbers ≡ has_key nat_cmp n (map (λ (e : Place × Owed). e.1.number) (entries_of_face face pending))) where
    abbrev by_head : ℕ × Open → Option Final
    by_head e = cond (is_over (without (at_face face) (record_of pending replies e)) && has_open_asker closed (final_at e.0 e.1)) (Some (final_at e.0 e.1)) None

    abbrev by_number : ℕ → Option Final
    by_number n = cond (has_key nat_cmp n numbers) (ending heads closed n) None

    any_there : (n : ℕ) (es : List (Place × Owed)) → has_key nat_cmp n (map (λ (e : Place × Owed). e.1.number) es) ≡ list_any (λ (e : Place × Owed). is_at (nat_cmp n) e.1.number) es
    any_there n [] = refl
    any_there n (e ∷ es) = ap (λ b. is_at (nat_cmp n) e.1.number || b) (any_there n es)

    member_is : (n : ℕ) → has_key nat_cmp n numbers ≡ is_there n
    member_is n = members n ∙ any_there n (entries_of_face face pending) ∙ ap (list_any (λ (e : Place × Owed). is_at (nat_cmp n) e.1.number)) face_entries

    same_by : (n : ℕ) (o : Open) (b : Bool) → at_number n heads ≡ Some o → is_there n ≡ b → by_head (n, o) ≡ cond b (ending heads closed n) None
    same_by n o true is there =
        let x = some_there n pending listed there in
        (λ j. cond (over_there n o is x.0 x.1 x.2 x.3 j && has_open_asker closed (final_at n o)) (Some (final_at n o)) None)
        ∙ sym (ap (option_and_then (ending_by closed n)) is)
    same_by n o false is none = λ j. cond (still_there n o is none j && has_open_asker closed (final_at n o)) (Some (final_at n o)) None

    same_finals : (n : ℕ) (o : Open) → at_number n heads ≡ Some o → by_head (n, o) ≡ by_number n
    same_finals n o is = same_by n o _ is refl ∙ ap (λ b. cond b (ending heads closed n) None) (sym (member_is n))

    open_by : (n : ℕ) (b : Bool) → has_key nat_cmp n numbers ≡ b → (b && has_key nat_cmp n (keys_of heads)) ≡ b
    open_by n true e =
        let x = some_there n pending listed (sym (member_is n) ∙ e) in
        has_open (at_number x.0.1.number heads) refl (tied.owned x.0.0 x.0.1 x.1)
      where
        has_open : (q : Option Open) → at_number (some_there n pending listed (sym (member_is n) ∙ e)).0.1.number heads ≡ q → IsSome q → has_key nat_cmp n (keys_of heads) ≡ true
        has_open None f none = absurd (true≢false (sym none))
        has_open (Some o) f some = let x = some_there n pending listed (sym (member_is n) ∙ e) in ap (λ m. has_key nat_cmp m (keys_of heads)) x.2 ∙ some_key x.0.1.number o heads f
    open_by n false e = refl

    -- the finals of the requests that owe an entry at the face are those of all
    pub finals_are : filter_map (ending heads closed) numbers ≡ finals_after (at_face face) closed (records_of heads pending replies)
    finals_are =
        ap (filter_map (ending heads closed)) (same_keys nat_cmp_total exact_unsigned numbers (filter (λ n. has_key nat_cmp n numbers) (keys_of heads)) order (IsStrictlySortedBy-filter nat_cmp (λ n. has_key nat_cmp n numbers) (keys_of heads) tied.numbers)
        (λ q. sym (has_kept nat_cmp_total exact_unsigned (λ n. has_key nat_cmp n numbers) q (keys_of heads) ∙ open_by q _ refl)))
        ∙ sym (chosen_kept (λ n. has_key nat_cmp n numbers) (ending heads closed) (keys_of heads))
        ∙ sym (chosen_keys by_head by_number heads (each_entry nat_cmp_total exact_unsigned (λ e. by_head e ≡ by_number e.0) heads tied.numbers same_finals))
        ∙ sym (finals_by_head heads)
      where
        finals_by_head : (hs : List (ℕ × Open)) → finals_after (at_face face) closed (records_of hs pending replies) ≡ filter_map by_head hs
        finals_by_head hs =
            ap (λ rs. filter (has_open_asker closed) (map final_of (filter is_over rs))) (map_both (without (at_face face)) (record_of pending replies) hs)
            ∙ chosen is_over (has_open_asker closed) final_of (map (λ e. without (at_face face) (record_of pending replies e)) hs)
            ∙ chosen_map (λ r. cond (is_over r && has_open_asker closed (final_of r)) (Some (final_of r)) None) (λ e. without (at_face face) (record_of pending replies e)) hs
