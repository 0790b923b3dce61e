-- Of the complete offers none is before the nearest.
use Rattle.std.proofs.Common.{◌≡◌, ◌∙◌, sym, ap, subst, refl, ℕ, Bool, true, false, cond, List, [], ◌∷◌, fold, Option, Some, None}
use Rattle.std.specs.Prelude.{filter}
use Rattle.std.specs.Cmp.{IsTotalOrder, on_total}
use Rattle.std.specs.List.{AllByRecursion}
use Rattle.std.specs.Ordering.{is_lt, nat_cmp, ordering_reverse}
use Rattle.std.specs.declared.cmp.Ordering.{Ordering}
use Rattle.std.specs.declared.cmp.Ordering.TheVariants.{Less, Equal, Greater}
use Rattle.std.proofs.lemmas.Bool.{false≢true}
use Rattle.std.proofs.lemmas.Cmp.{nat_cmp_total, nat_list_cmp_total, then_total, tied_itself}
use Rattle.zq_strategy.specs.declared.offer.QueryTargetQabl.{QueryTargetQabl}
use Rattle.zq_strategy.specs.OfferOrder.{distance, offer_cmp}
use Rattle.zq_route.specs.Selection.{is_complete, nearer, nearest}

-- offers are in one order
offer_total : IsTotalOrder offer_cmp
offer_total = then_total (on_total distance nat_cmp_total) (then_total (on_total (λ (o : QueryTargetQabl). o.key) nat_list_cmp_total) (on_total (λ (o : QueryTargetQabl). o.face.0) nat_cmp_total))

-- the first is not before the second
abbrev pub NotBefore : QueryTargetQabl → QueryTargetQabl → Type 0
NotBefore m x = is_lt (offer_cmp x m) ≡ false

is_less : (r : Ordering) → is_lt r ≡ true → r ≡ Less
is_less Less e = refl
is_less Equal e = absurd (false≢true e)
is_less Greater e = absurd (false≢true e)

not_itself : (m : QueryTargetQabl) → NotBefore m m
not_itself m = ap is_lt (tied_itself offer_total m)

not_back : (o m : QueryTargetQabl) → is_lt (offer_cmp o m) ≡ true → NotBefore o m
not_back o m e = ap is_lt (offer_total.antisymm m o ∙ ap ordering_reverse (is_less (offer_cmp o m) e))

not_passed : (x o m : QueryTargetQabl) → is_lt (offer_cmp o m) ≡ true → NotBefore m x → NotBefore o x
not_passed x o m e not = by (is_lt (offer_cmp x o)) refl
  where
    by : (b : Bool) → is_lt (offer_cmp x o) ≡ b → b ≡ false
    by true h = absurd (false≢true (sym not ∙ ap is_lt (offer_total.trans x o m (is_less (offer_cmp x o) h) (is_less (offer_cmp o m) e))))
    by false h = refl

-- what is not before one that was found is not before what is found later
still_not : (m x r : QueryTargetQabl) (os : List QueryTargetQabl) → NotBefore m x → fold nearer (Some m) os ≡ Some r → NotBefore r x
still_not m x r [] not e = let same : m ≡ r = cc in subst (λ o. NotBefore o x) same not
still_not m x r (o ∷ os) not e = by (is_lt (offer_cmp o m)) refl e (λ k. still_not k x r os)
  where
    by : (b : Bool) → is_lt (offer_cmp o m) ≡ b → fold nearer (Some (cond b o m)) os ≡ Some r → ((k : QueryTargetQabl) → NotBefore k x → fold nearer (Some k) os ≡ Some r → NotBefore r x) → NotBefore r x
    by true h e more = more o (not_passed x o m h not) e
    by false h e more = more m not e

none_before : (m r : QueryTargetQabl) (os : List QueryTargetQabl) → fold nearer (Some m) os ≡ Some r → AllByRecursion (NotBefore r) (m ∷ os)
none_before m r [] e = let same : m ≡ r = cc in (subst (λ o. NotBefore o m) same (not_itself m), tt)
none_before m r (o ∷ os) e = by (is_lt (offer_cmp o m)) refl e (λ k. none_before k r os)
  where
    by : (b : Bool) → is_lt (offer_cmp o m) ≡ b → fold nearer (Some (cond b o m)) os ≡ Some r → ((k : QueryTargetQabl) → fold nearer (Some k) os ≡ Some r → AllByRecursion (NotBefore r) (k ∷ os))
        → AllByRecursion (NotBefore r) (m ∷ o ∷ os)
    by true h e more = (still_not o m r os (not_back o m h) e, more o e)
    by false h e more = ((more m e).0, (still_not m o r os h e, (more m e).1))

-- none of the offers is before the nearest
pub nearest_first : (os : List QueryTargetQabl) (r : QueryTargetQabl) → nearest os ≡ Some r → AllByRecursion (NotBefore r) os
nearest_first [] r e = tt
nearest_first (o ∷ os) r e = none_before o r os e

module _ (P : QueryTargetQabl → Type 0) where
  one_of : (m r : QueryTargetQabl) (os : List QueryTargetQabl) → P m → AllByRecursion P os → fold nearer (Some m) os ≡ Some r → P r
  one_of m r [] p all e = let same : m ≡ r = cc in subst P same p
  one_of m r (o ∷ os) p all e = by (is_lt (offer_cmp o m)) e (λ k q. one_of k r os q all.1)
    where
      by : (b : Bool) → fold nearer (Some (cond b o m)) os ≡ Some r → ((k : QueryTargetQabl) → P k → fold nearer (Some k) os ≡ Some r → P r) → P r
      by true e more = more o all.0 e
      by false e more = more m p e

  -- the nearest is one of them
  pub nearest_of : (os : List QueryTargetQabl) (r : QueryTargetQabl) → AllByRecursion P os → nearest os ≡ Some r → P r
  nearest_of [] r all e = absurd (cc)
  nearest_of (o ∷ os) r all e = one_of o r os all.0 all.1 e

all_complete : (os : List QueryTargetQabl) → AllByRecursion (λ o. is_complete o ≡ true) (filter is_complete os)
all_complete [] = tt
all_complete (o ∷ os) = by (is_complete o) refl (all_complete os)
  where
    by : (b : Bool) → is_complete o ≡ b → AllByRecursion (λ o. is_complete o ≡ true) (filter is_complete os) → AllByRecursion (λ o. is_complete o ≡ true) (cond b (o ∷ filter is_complete os) (filter is_complete os))
    by true e more = (e, more)
    by false e more = more

-- the nearest complete offer is complete
pub nearest_complete : (os : List QueryTargetQabl) (r : QueryTargetQabl) → nearest (filter is_complete os) ≡ Some r → is_complete r ≡ true
nearest_complete os r e = nearest_of (λ o. is_complete o ≡ true) (filter is_complete os) r (all_complete os) e
