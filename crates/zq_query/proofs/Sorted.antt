-- What is put in at one key leaves the others.
use Rattle.std.proofs.Common.{◌≡◌, cond, List, ap, ◌∙◌, Some}
use Rattle.std.specs.declared.cmp.Ordering.{Ordering}
use Rattle.std.specs.Cmp.{IsTotalOrder}
use Rattle.std.specs.Map.{lookup}
use Rattle.std.specs.BTreeMap.{is_at, insert_entry}
use Rattle.std.proofs.lemmas.Map.Lookups.{CmpEqualImpliesEq}
use Rattle.zq_key.proofs.Lookups.{apart, found_after_insertion}

module _ {K X : Type 0} {R : K → K → Ordering} (o : IsTotalOrder R) (exact : CmpEqualImpliesEq R) where
  -- what is put in at one key shows at no other
  pub aside : (es : List (K × X)) (k q : K) (v : X) → (k ≡ q → ⊥) → lookup (is_at (R q)) (insert_entry R es k v) ≡ lookup (is_at (R q)) es
  aside es k q v ne = found_after_insertion o exact k q v es ∙ ap (λ b. cond b (Some v) (lookup (is_at (R q)) es)) (apart o exact k q ne)
