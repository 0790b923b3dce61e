-- The entries of a new request.
use Rattle.std.proofs.Common.{◌≡◌, ℕ, ◌<◌, false, List, [], ◌∷◌, length, refl, arith}
use Rattle.std.specs.Prelude.{fold}
use Rattle.std.specs.declared.cmp.Ordering.{Ordering}
use Rattle.std.specs.declared.cmp.Ordering.TheVariants.{Less, Equal, Greater}
use Rattle.std.specs.Ordering.{nat_cmp, match_ordering, ordering_then}
use Rattle.zq_query.specs.Records.{Pending, is_none_left, insert_pending}
use Rattle.zq_query.specs.Asking.{entry_at, entries_at}

some_put : (l : List Pending) (p : Pending) → is_none_left (insert_pending l p) ≡ false
some_put [] p = refl
some_put (e ∷ l) p = step (ordering_then (nat_cmp p.face e.face) (nat_cmp p.id e.id))
  where
    step : (r : Ordering) → is_none_left (match_ordering r (p ∷ e ∷ l) (p ∷ l) (e ∷ insert_pending l p)) ≡ false
    step Less = refl
    step Equal = refl
    step Greater = refl

some_of_entries : (d : ℕ) (l : List Pending) (ps : List (ℕ × ℕ)) → is_none_left l ≡ false → is_none_left (fold (λ z p. insert_pending z (entry_at d p)) l ps) ≡ false
some_of_entries d l [] h = h
some_of_entries d l (p ∷ ps) h = some_of_entries d (insert_pending l (entry_at d p)) ps (some_put l (entry_at d p))

pub some_entries : (d : ℕ) (ps : List (ℕ × ℕ)) → 0 < length ps → is_none_left (entries_at d ps) ≡ false
some_entries d [] l = absurd (omega (arith, l))
some_entries d (p ∷ ps) l = some_of_entries d (entry_at d p ∷ []) ps refl
