-- What regions have on each key, joined, comes to what each has there.
use Rattle.std.proofs.Common.{List, [], ◌∷◌, ℕ, map}
use Rattle.std.specs.List.{AllByRecursion}
use Rattle.zq_strategy.specs.State.{HatState}
use Rattle.zq_interests.specs.Interests.{Interests}
use Rattle.zq_hat.specs.declared.sources.Source.{Source}
use Rattle.zq_hat.specs.Joining.{AreJoined, IsOrdered}
use Rattle.zq_hat.specs.Sourced.{all_queriers, all_queryables, querier_listings, queriers_part, queryable_listings, queryables_part}
use Rattle.zq_hat.proofs.Listing.{are_listed}
use Rattle.zq_hat.proofs.Parts.{are_joined}

pub queryables_ordered : (own : Source) (hats : List (ℕ × HatState)) → AllByRecursion IsOrdered (map (queryables_part own) hats)
queryables_ordered own [] = tt
queryables_ordered own (h ∷ hs) = ((are_listed (queryable_listings h.1)).ordered, queryables_ordered own hs)

pub queriers_ordered : (ints : Interests) (hats : List (ℕ × HatState)) → AllByRecursion IsOrdered (map (queriers_part ints) hats)
queriers_ordered ints [] = tt
queriers_ordered ints (h ∷ hs) = ((are_listed (querier_listings ints h.1)).ordered, queriers_ordered ints hs)

pub queryables_joined : (own : Source) (hats : List (ℕ × HatState)) → AreJoined (map (queryables_part own) hats) (all_queryables own hats)
queryables_joined own hats = are_joined (map (queryables_part own) hats) (queryables_ordered own hats)

pub queriers_joined : (ints : Interests) (hats : List (ℕ × HatState)) → AreJoined (map (queriers_part ints) hats) (all_queriers ints hats)
queriers_joined ints hats = are_joined (map (queriers_part ints) hats) (queriers_ordered ints hats)
