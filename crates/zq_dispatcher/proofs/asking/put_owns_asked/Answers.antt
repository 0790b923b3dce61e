use Rattle.std.proofs.Common.{subst, [], ℕ, List, Option}
use Rattle.std.specs.List.Sorted.{IsStrictlySortedBy}
use Rattle.std.specs.Map.{keys_of}
use Rattle.std.specs.Option.{option_map_or}
use Rattle.std.specs.Ordering.{nat_cmp}
use Rattle.zq_interests.specs.declared.types.InterestEntry.{InterestEntry}
use Rattle.zq_dispatcher.proofs.asking.put_owns_asked.Goals as goal

none_sorted : IsStrictlySortedBy nat_cmp []
unfolding IsStrictlySortedBy
none_sorted = tt

pub returns-in-None-clause-ordered : goal.returns-in-None-clause-ordered
returns-in-None-clause-ordered c =
    subst (λ (o : Option (List (ℕ × InterestEntry))). IsStrictlySortedBy nat_cmp (keys_of (option_map_or (λ (es : List (ℕ × InterestEntry)). es) o []))) (c.in-None.ensures) none_sorted
