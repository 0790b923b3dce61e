-- A route that was stored is there, no other one has changed, and another version finds none.
use Rattle.std.proofs.Common.{◌≡◌, ◌∙◌, sym, ap, refl, ℕ, List, [], Some, None, Option, cond, Bool, true, false, subst}
use Rattle.std.specs.Prelude.{◌==◌, IfSome, MatchOption}
use Rattle.std.specs.Cmp.{IsTotalOrder, nat_cmp_total, nat_eq_equiv, on_total, then_total}
use Rattle.std.specs.Ordering.{nat_cmp}
use Rattle.std.specs.Map.{lookup}
use Rattle.std.specs.BTreeMap.{is_at, insert_entry}
use Rattle.std.proofs.lemmas.Map.Lookups.{CmpEqualImpliesEq, exact_pairs, exact_unsigned}
use Rattle.zq_message.specs.declared.message.Region.{Region}
use Rattle.zq_route.specs.Routes.{Origin, origin_cmp, origin_of, route_at, stored_under, with_route}
use Rattle.zq_key.proofs.Lookups.{at_itself, found_after_insertion}

pub origin_total : IsTotalOrder origin_cmp
origin_total = then_total (on_total (λ p. p.0) nat_cmp_total) (on_total (λ p. p.1) nat_cmp_total)

pub origin_exact : CmpEqualImpliesEq origin_cmp
origin_exact = exact_pairs nat_cmp nat_cmp exact_unsigned exact_unsigned

module _ {T : Type 0} where
  -- what is found after a route was stored under the same version
  pub route_after : (v : ℕ) (r q : Region) (n m : ℕ) (t : T) (s : ℕ × List (Origin × T))
      → route_at v q m (with_route v r n t s) ≡ cond (is_at (origin_cmp (origin_of r n)) (origin_of q m)) (Some t) (route_at v q m s)
  route_after v r q n m t s =
      ap (λ b. lookup (is_at (origin_cmp (origin_of q m))) (cond b (insert_entry origin_cmp (stored_under v s) (origin_of r n) t) [])) (nat_eq_equiv.refl v)
      ∙ found_after_insertion origin_total origin_exact (origin_of r n) (origin_of q m) t (stored_under v s)

  pub route_there : (v : ℕ) (r : Region) (n : ℕ) (t : T) (s : ℕ × List (Origin × T)) → route_at v r n (with_route v r n t s) ≡ Some t
  route_there v r n t s =
      route_after v r r n n t s
      ∙ ap (λ b. cond b (Some t) (route_at v r n s)) (at_itself origin_total origin_exact (origin_of r n))

  -- another version finds nothing
  pub route_gone : (v w : ℕ) (q : Region) (m : ℕ) (s : ℕ × List (Origin × T)) → (s.0 == w) ≡ false → route_at w q m s ≡ None
  route_gone v w q m s apart = ap (λ b. lookup (is_at (origin_cmp (origin_of q m))) (cond b s.1 [])) apart

  module _ (P : T → Type 0) (v : ℕ) (r : Region) (n : ℕ) (old new : ℕ × List (Origin × T)) (x : T) (found : Some x ≡ route_at v r n new) where
    missing : (t : T) → P t → new ≡ with_route v r n t old → (new ≡ with_route v r n x old) × P x
    missing t p is =
        let same : Some x ≡ Some t = found ∙ ap (route_at v r n) is ∙ route_there v r n t old in
        let e : t ≡ x = cc in
        (is ∙ ap (λ y. with_route v r n y old) e, subst P e p)

    settled_by : (o : Option T) → route_at v r n old ≡ o → IfSome o (λ t. (true ≡ true) × (new ≡ old)) → (o ≡ None → (t : T) × P t × (new ≡ with_route v r n t old)) → MatchOption o (new ≡ with_route v r n x old) (λ _. new ≡ old) × IfSome o (λ t. (true ≡ true) × (x ≡ t)) × (o ≡ None → P x)
    settled_by None is stored computed = let c = computed refl in let m = missing c.0 c.1 c.2 in (m.0, tt, λ _. m.1)
    settled_by (Some t) is stored computed =
        let same : Some x ≡ Some t = found ∙ ap (route_at v r n) stored.1 ∙ is in
        (stored.1, (refl, (let e : x ≡ t = cc in e)), λ gap. absurd (let no : Some t ≡ None = gap in cc))

    -- what is found once a route that was missing is stored
    pub settled : IfSome (route_at v r n old) (λ t. (true ≡ true) × (new ≡ old)) → (route_at v r n old ≡ None → (t : T) × P t × (new ≡ with_route v r n t old)) → MatchOption (route_at v r n old) (new ≡ with_route v r n x old) (λ _. new ≡ old) × IfSome (route_at v r n old) (λ t. (true ≡ true) × (x ≡ t)) × (route_at v r n old ≡ None → P x)
    settled = settled_by (route_at v r n old) refl

  -- after that something is found
  there_by : (P : T → Type 0) (v : ℕ) (r : Region) (n : ℕ) (old new : ℕ × List (Origin × T)) (o : Option T) → route_at v r n old ≡ o → IfSome o (λ t. (true ≡ true) × (new ≡ old)) → (o ≡ None → (t : T) × P t × (new ≡ with_route v r n t old)) → route_at v r n new ≡ None → ⊥
  there_by P v r n old new None is stored computed gone =
      let c = computed refl in
      let no : Some c.0 ≡ None = sym (route_there v r n c.0 old) ∙ ap (route_at v r n) (sym c.2) ∙ gone in
      cc
  there_by P v r n old new (Some t) is stored computed gone =
      let no : Some t ≡ None = sym is ∙ ap (route_at v r n) (sym stored.1) ∙ gone in
      cc

  pub there : (P : T → Type 0) (v : ℕ) (r : Region) (n : ℕ) (old new : ℕ × List (Origin × T)) → IfSome (route_at v r n old) (λ t. (true ≡ true) × (new ≡ old)) → (route_at v r n old ≡ None → (t : T) × P t × (new ≡ with_route v r n t old)) → route_at v r n new ≡ None → ⊥
  there P v r n old new = there_by P v r n old new (route_at v r n old) refl
