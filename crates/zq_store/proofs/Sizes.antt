-- How many pairs storages have, and how many of them meet a key.
use Rattle.std.proofs.Common.{◌≡◌, ℕ, ◌+◌, ◌≤◌, List, [], ◌∷◌, ◌++◌, length, refl, arith}
use Rattle.std.specs.Prelude.{not}
use Rattle.std.proofs.lemmas.List.Filters.{length-filter_both}
use Rattle.std.proofs.lemmas.List.Sums.{sum_by-le-sum_by, sum_by_push}
use Rattle.zq_store.specs.Held.{Pairs, meeting, meets_key}
use Rattle.zq_store.specs.Stores.{Stored, count_all, count_in, size_all, size_of}

meeting_fits : (key : List ℕ) (ps : Pairs) → length (meeting key ps) ≤ length ps
meeting_fits key ps = omega (arith, length-filter_both (meets_key key) (λ p. not (meets_key key p)) (λ _. refl) ps)

-- at most all pairs meet a key
pub count_fits : (key : List ℕ) (stores : List Stored) → count_all key stores ≤ size_all stores
count_fits key stores = sum_by-le-sum_by (count_in key) size_of stores (λ s. meeting_fits key s.held)

-- a storage with no pairs adds none
pub size_put : (stores : List Stored) (s : Stored) → size_all (stores ++ s ∷ []) ≡ size_all stores + length s.held
size_put stores s = sum_by_push size_of stores s
