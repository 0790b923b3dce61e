-- What holds of keys that are there and of those that join them holds of all.
use Rattle.std.proofs.Common.{List, [], ◌∷◌, fold}
use Rattle.std.specs.BTreeSet.{insert_key}
use Rattle.std.specs.List.{AllByRecursion}
use Rattle.std.specs.declared.cmp.Ordering.{Ordering}
use Rattle.std.specs.declared.cmp.Ordering.TheVariants.{Less, Equal, Greater}
use Rattle.std.specs.Ordering.{match_ordering}

module _ {K : Type 0} (R : K → K → Ordering) (P : K → Type 0) where
  in_by : (k x : K) (xs : List K) (r : Ordering) → P k → AllByRecursion P (x ∷ xs) → AllByRecursion P (insert_key R xs k) → AllByRecursion P (match_ordering r (k ∷ x ∷ xs) (x ∷ xs) (x ∷ insert_key R xs k))
  in_by k x xs Less p all ih = (p, all)
  in_by k x xs Equal p all ih = all
  in_by k x xs Greater p all ih = (all.0, ih)

  pub one_in : (k : K) (xs : List K) → P k → AllByRecursion P xs → AllByRecursion P (insert_key R xs k)
  one_in k [] p all = (p, tt)
  one_in k (x ∷ xs) p all = in_by k x xs (R k x) p all (one_in k xs p all.1)

  pub all_in : (xs ks : List K) → AllByRecursion P ks → AllByRecursion P xs → AllByRecursion P (fold (insert_key R) ks xs)
  all_in [] ks there all = there
  all_in (x ∷ xs) ks there all = all_in xs (insert_key R ks x) (one_in x ks all.0 there) all.1
