-- Entries by number: how they rise, what they weigh, and what their texts are after a change.
use Rattle.std.proofs.Common.{◌≡◌, ℕ, ◌+◌, ◌<◌, ◌≤◌, Bool, true, false, cond, List, [], ◌∷◌, length, map, Some, None, refl, sym, ap, ◌∙◌, arith, suc}
use Rattle.std.specs.declared.cmp.Ordering.{Ordering}
use Rattle.std.specs.declared.cmp.Ordering.TheVariants.{Less, Equal, Greater}
use Rattle.std.specs.Ordering.{nat_cmp, match_ordering, is_eq}
use Rattle.std.specs.BTreeMap.{is_at}
use Rattle.std.specs.Map.{lookup, remove_entry, set_value, keys_of}
use Rattle.std.specs.Cmp.{nat_cmp_is}
use Rattle.std.specs.List.Sorted.{IsStrictlySortedBy}
use Rattle.std.proofs.lemmas.Cmp.{ranked, nat_cmp_total}
use Rattle.std.proofs.lemmas.Map.{lookup-none}
use Rattle.std.proofs.lemmas.Map.Entries.{none_below_head}
use Rattle.std.proofs.lemmas.Map.Keys.{sorted_tail}
use Rattle.std.proofs.lemmas.Option.{none-some, same_Some}
use Rattle.zq_tables.specs.FaceIds.{of_id, with_id, without_id}
use Rattle.zq_tables.specs.Holding.{Rises, weigh}

-- ---- numbers that rise

module _ {X : Type 0} where
  pub Rises-weaker : (limit a b : ℕ) (es : List (ℕ × X)) → b ≤ a → Rises limit a es → Rises limit b es
  Rises-weaker limit a b [] le r = omega (arith, r)
  Rises-weaker limit a b (e ∷ es) le r = (omega (arith, r.0), r.1)

  pub Rises-with_id : (limit first i : ℕ) (x : X) (es : List (ℕ × X)) → first ≤ i → i < limit → Rises limit first es → Rises limit first (with_id es i x)
  Rises-with_id limit first i x [] le lt r = (le, omega (arith, lt))
  Rises-with_id limit first i x (e ∷ es) le lt r = by (nat_cmp i e.0) refl (λ above. Rises-with_id limit (suc e.0) i x es above lt r.1)
    where
      by : (o : Ordering) → nat_cmp i e.0 ≡ o → (suc e.0 ≤ i → Rises limit (suc e.0) (with_id es i x)) → Rises limit first (match_ordering o ((i, x) ∷ e ∷ es) ((e.0, x) ∷ es) (e ∷ with_id es i x))
      by Less is later = let below : i < e.0 = ranked i e.0 Less (sym is) in (le, (omega (arith, below), r.1))
      by Equal is later = (r.0, r.1)
      by Greater is later = let above : e.0 < i = ranked i e.0 Greater (sym is) in (r.0, later (omega (arith, above)))

  pub Rises-without_id : (limit first i : ℕ) (es : List (ℕ × X)) → Rises limit first es → Rises limit first (without_id es i)
  Rises-without_id limit first i [] r = r
  Rises-without_id limit first i (e ∷ es) r = by (is_at (nat_cmp i) e.0) (Rises-without_id limit (suc e.0) i es r.1)
    where
      by : (b : Bool) → Rises limit (suc e.0) (without_id es i) → Rises limit first (cond b es (e ∷ without_id es i))
      by true later = Rises-weaker limit (suc e.0) first es (omega (arith, r.0)) r.1
      by false later = (r.0, later)

  pub Rises-length : (limit first : ℕ) (es : List (ℕ × X)) → Rises limit first es → length es + first ≤ limit
  Rises-length limit first [] r = omega (arith, r)
  Rises-length limit first (e ∷ es) r = omega (arith, r.0, Rises-length limit (suc e.0) es r.1)

  -- ---- what entries weigh

  pub weigh-with_id : (f : X → ℕ) (es : List (ℕ × X)) (i : ℕ) (x : X) → of_id es i ≡ None → weigh f (with_id es i x) ≡ weigh f es + f x
  weigh-with_id f [] i x absent = omega arith
  weigh-with_id f (e ∷ es) i x absent = by (nat_cmp i e.0) refl (weigh-with_id f es i x)
    where
      by : (o : Ordering) → nat_cmp i e.0 ≡ o → (of_id es i ≡ None → weigh f (with_id es i x) ≡ weigh f es + f x)
          → weigh f (match_ordering o ((i, x) ∷ e ∷ es) ((e.0, x) ∷ es) (e ∷ with_id es i x)) ≡ f e.1 + weigh f es + f x
      by Less is later = omega arith
      by Equal is later = absurd (none-some e.1 (sym absent ∙ rw is))
      by Greater is later = let rest = later (rw is at absent) in omega (arith, rest)

  pub weigh-removed : (f : X → ℕ) (test : ℕ → Bool) (es : List (ℕ × X)) (x : X) → lookup test es ≡ Some x → weigh f (remove_entry test es) + f x ≡ weigh f es
  weigh-removed f test [] x is = absurd (none-some x is)
  weigh-removed f test (e ∷ es) x is = by (test e.0) is (weigh-removed f test es x)
    where
      by : (b : Bool) → cond b (Some e.1) (lookup test es) ≡ Some x → (lookup test es ≡ Some x → weigh f (remove_entry test es) + f x ≡ weigh f es)
          → weigh f (cond b es (e ∷ remove_entry test es)) + f x ≡ f e.1 + weigh f es
      by true here later = let same = ap f (same_Some _ _ here) in omega (arith, same)
      by false here later = let rest = later here in omega (arith, rest)

  pub weigh-set : (f : X → ℕ) (test : ℕ → Bool) (es : List (ℕ × X)) (x y : X) → lookup test es ≡ Some x → weigh f (set_value test es y) + f x ≡ weigh f es + f y
  weigh-set f test [] x y is = absurd (none-some x is)
  weigh-set f test (e ∷ es) x y is = by (test e.0) is (weigh-set f test es x y)
    where
      by : (b : Bool) → cond b (Some e.1) (lookup test es) ≡ Some x → (lookup test es ≡ Some x → weigh f (set_value test es y) + f x ≡ weigh f es + f y)
          → weigh f (cond b ((e.0, y) ∷ es) (e ∷ set_value test es y)) + f x ≡ f e.1 + weigh f es + f y
      by true here later = let same = ap f (same_Some _ _ here) in omega (arith, same)
      by false here later = let rest = later here in omega (arith, rest)

  pub removed_set : (test : ℕ → Bool) (es : List (ℕ × X)) (y : X) → remove_entry test (set_value test es y) ≡ remove_entry test es
  removed_set test [] y = refl
  removed_set test (e ∷ es) y = by (test e.0) refl (removed_set test es y)
    where
      by : (b : Bool) → test e.0 ≡ b → remove_entry test (set_value test es y) ≡ remove_entry test es → remove_entry test (cond b ((e.0, y) ∷ es) (e ∷ set_value test es y)) ≡ cond b es (e ∷ remove_entry test es)
      by true is later = rw is
      by false is later = rw is (ap (λ l. e ∷ l) later)

  pub set_twice : (test : ℕ → Bool) (es : List (ℕ × X)) (y z : X) → set_value test (set_value test es y) z ≡ set_value test es z
  set_twice test [] y z = refl
  set_twice test (e ∷ es) y z = by (test e.0) refl (set_twice test es y z)
    where
      by : (b : Bool) → test e.0 ≡ b → set_value test (set_value test es y) z ≡ set_value test es z → set_value test (cond b ((e.0, y) ∷ es) (e ∷ set_value test es y)) z ≡ cond b ((e.0, z) ∷ es) (e ∷ set_value test es z)
      by true is later = rw is
      by false is later = rw is (ap (λ l. e ∷ l) later)

  pub lookup_set : (test : ℕ → Bool) (es : List (ℕ × X)) (x y : X) → lookup test es ≡ Some x → lookup test (set_value test es y) ≡ Some y
  lookup_set test [] x y is = absurd (none-some x is)
  lookup_set test (e ∷ es) x y is = by (test e.0) refl is (lookup_set test es x y)
    where
      by : (b : Bool) → test e.0 ≡ b → cond b (Some e.1) (lookup test es) ≡ Some x → (lookup test es ≡ Some x → lookup test (set_value test es y) ≡ Some y) → lookup test (cond b ((e.0, y) ∷ es) (e ∷ set_value test es y)) ≡ Some y
      by true t here later = rw t
      by false t here later = rw t (later here)

  -- an entry that is there takes the value
  pub insert_there : (es : List (ℕ × X)) (i : ℕ) (x y : X) → IsStrictlySortedBy nat_cmp (keys_of es) → of_id es i ≡ Some x → with_id es i y ≡ set_value (is_at (nat_cmp i)) es y
  insert_there [] i x y sorted is = absurd (none-some x is)
  insert_there (e ∷ es) i x y sorted is = by (nat_cmp i e.0) refl is (insert_there es i x y (sorted_tail nat_cmp e.0 (keys_of es) sorted))
    where
      by : (o : Ordering) → nat_cmp i e.0 ≡ o → cond (is_eq o) (Some e.1) (of_id es i) ≡ Some x → (of_id es i ≡ Some x → with_id es i y ≡ set_value (is_at (nat_cmp i)) es y)
          → match_ordering o ((i, y) ∷ e ∷ es) ((e.0, y) ∷ es) (e ∷ with_id es i y) ≡ cond (is_eq o) ((e.0, y) ∷ es) (e ∷ set_value (is_at (nat_cmp i)) es y)
      by Less o_is here later =
          let absent : of_id (e ∷ es) i ≡ None = lookup-none (is_at (nat_cmp i)) (e ∷ es) (none_below_head nat_cmp_total i e es sorted o_is) in
          absurd (none-some x (sym absent ∙ is))
      by Equal o_is here later = refl
      by Greater o_is here later = ap (λ l. e ∷ l) (later here)

  pub below_all : (limit first i : ℕ) (es : List (ℕ × X)) → Rises limit first es → i < first → of_id es i ≡ None
  below_all limit first i [] r lt = refl
  below_all limit first i (e ∷ es) r lt =
      let apart : is_at (nat_cmp i) e.0 ≡ false = ap is_eq (sym (nat_cmp_is i e.0 Less (omega (arith, r.0)))) in
      rw apart (below_all limit (suc e.0) i es r.1 (omega (arith, r.0)))

  -- an entry that has the value already
  pub with_same : (limit first i : ℕ) (x : X) (es : List (ℕ × X)) → Rises limit first es → of_id es i ≡ Some x → with_id es i x ≡ es
  with_same limit first i x [] r is = absurd (none-some x is)
  with_same limit first i x (e ∷ es) r is = by (nat_cmp i e.0) refl is (with_same limit (suc e.0) i x es r.1)
    where
      by : (o : Ordering) → nat_cmp i e.0 ≡ o → cond (is_eq o) (Some e.1) (of_id es i) ≡ Some x → (of_id es i ≡ Some x → with_id es i x ≡ es)
          → match_ordering o ((i, x) ∷ e ∷ es) ((e.0, x) ∷ es) (e ∷ with_id es i x) ≡ e ∷ es
      by Less o_is here later =
          let below : i < e.0 = ranked i e.0 Less (sym o_is) in
          absurd (none-some x (sym (below_all limit (suc e.0) i es r.1 (omega (arith, below))) ∙ here))
      by Equal o_is here later = ap (λ v. (e.0, v) ∷ es) (sym (same_Some _ _ here))
      by Greater o_is here later = ap (λ l. e ∷ l) (later here)

-- ---- values read by a function

module _ {X Y : Type 0} (g : X → Y) where
  abbrev shown : List (ℕ × X) → List (ℕ × Y)
  shown es = map (λ e. (e.0, g e.1)) es

  pub shown-with_id : (es : List (ℕ × X)) (i : ℕ) (x : X) → shown (with_id es i x) ≡ with_id (shown es) i (g x)
  shown-with_id [] i x = refl
  shown-with_id (e ∷ es) i x = by (nat_cmp i e.0) (shown-with_id es i x)
    where
      by : (o : Ordering) → shown (with_id es i x) ≡ with_id (shown es) i (g x)
          → shown (match_ordering o ((i, x) ∷ e ∷ es) ((e.0, x) ∷ es) (e ∷ with_id es i x)) ≡ match_ordering o ((i, g x) ∷ shown (e ∷ es)) ((e.0, g x) ∷ shown es) ((e.0, g e.1) ∷ with_id (shown es) i (g x))
      by Less later = refl
      by Equal later = refl
      by Greater later = ap (λ l. (e.0, g e.1) ∷ l) later

  pub shown-removed : (test : ℕ → Bool) (es : List (ℕ × X)) → shown (remove_entry test es) ≡ remove_entry test (shown es)
  shown-removed test [] = refl
  shown-removed test (e ∷ es) = by (test e.0) (shown-removed test es)
    where
      by : (b : Bool) → shown (remove_entry test es) ≡ remove_entry test (shown es) → shown (cond b es (e ∷ remove_entry test es)) ≡ cond b (shown es) ((e.0, g e.1) ∷ remove_entry test (shown es))
      by true later = refl
      by false later = ap (λ l. (e.0, g e.1) ∷ l) later

  pub shown-set : (test : ℕ → Bool) (es : List (ℕ × X)) (x : X) → shown (set_value test es x) ≡ set_value test (shown es) (g x)
  shown-set test [] x = refl
  shown-set test (e ∷ es) x = by (test e.0) (shown-set test es x)
    where
      by : (b : Bool) → shown (set_value test es x) ≡ set_value test (shown es) (g x) → shown (cond b ((e.0, x) ∷ es) (e ∷ set_value test es x)) ≡ cond b ((e.0, g x) ∷ shown es) ((e.0, g e.1) ∷ set_value test (shown es) (g x))
      by true later = refl
      by false later = ap (λ l. (e.0, g e.1) ∷ l) later

  pub Rises-shown : (limit first : ℕ) (es : List (ℕ × X)) → Rises limit first es → Rises limit first (shown es)
  Rises-shown limit first [] r = r
  Rises-shown limit first (e ∷ es) r = (r.0, Rises-shown limit (suc e.0) es r.1)
