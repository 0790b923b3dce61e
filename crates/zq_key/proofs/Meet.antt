-- Laws of the two-sided recursion.
use Rattle.std.proofs.Common.{◌≡◌, Bool, true, false, not, cond, ◌&&◌, ◌||◌, List, [], ◌∷◌, ◌++◌, Option, Some, None, ◌⊎◌, inl, inr, refl, sym, ap, ◌∙◌, arith}
use Rattle.std.proofs.lemmas.Bool.{true≢false, false≢true, false_from_ne_true}
use Rattle.std.proofs.lemmas.Bool.Decides.{nat_tests}
use Rattle.std.proofs.Math.Bool.{or_comm, and_assoc, and-or_distrib_right}
use Rattle.zq_key.specs.Match.{covers_by, meets_by}
use Rattle.zq_key.specs.Walk.{wild_covers, wild_takes, has_none, after_last, never, Advances, Stops, is_nil, starts_wild, before_fixed, from_fixed, both_go_on}
use Rattle.zq_key.proofs.Match.{covers-wild, wild_takes-step, wild_covers-again, wild_covers-found, wild_covers-over, wild_covers-next}

swap_step : (wx wy fx fy a b c : Bool) → (wx ≡ true → fx ≡ false) → (wy ≡ true → fy ≡ false) → cond wx (a || (not fy && b)) (cond wy (b || (not fx && a)) c) ≡ cond wy (b || (not fx && a)) (cond wx (a || (not fy && b)) c)
swap_step true true fx fy a b c h k = rw (h refl, k refl) (or_comm a b)
swap_step true false fx fy a b c h k = refl
swap_step false true fx fy a b c h k = refl
swap_step false false fx fy a b c h k = refl

-- the other way round
pub meets-swap : {A : Type 0} (w f : A → Bool) (e : A → A → Bool) (wf : (x : A) → w x ≡ true → f x ≡ false) (a b : List A) → meets_by w f e a b ≡ meets_by w f (λ x y. e y x) b a
unfolding meets_by
meets-swap w f e wf [] [] = refl
meets-swap w f e wf [] (y ∷ b) = let ih = meets-swap w f e wf [] b in rw ih refl
meets-swap w f e wf (x ∷ a) [] = let ih = meets-swap w f e wf a [] in rw ih refl
meets-swap w f e wf (x ∷ a) (y ∷ b) =
    let i1 = meets-swap w f e wf a (y ∷ b) in
    let i2 = meets-swap w f e wf (x ∷ a) b in
    let i3 = meets-swap w f e wf a b in
    rw (i1, i2, i3) (swap_step (w x) (w y) (f x) (f y) _ _ _ (wf x) (wf y))

-- a list with no wild part is met exactly where it is covered
pub meets-covers : {A : Type 0} (w f : A → Bool) (e : A → A → Bool) (a b : List A) → has_none w b ≡ true → meets_by w f e a b ≡ covers_by w f e a b
unfolding meets_by covers_by
meets-covers w f e [] [] h = refl
meets-covers w f e [] (y ∷ b) h = grind (arith, nat_tests)
meets-covers w f e (x ∷ a) [] h = let ih = meets-covers w f e a [] refl in rw ih refl
meets-covers w f e (x ∷ a) (y ∷ b) h =
    let i1 = meets-covers w f e a (y ∷ b) h in
    let i2 = meets-covers w f e (x ∷ a) b in
    let i3 = meets-covers w f e a b in
    grind (arith, nat_tests)

-- where no part is fixed, the test for fixed parts is idle
pub meets-free : {A : Type 0} (w f : A → Bool) (e : A → A → Bool) (a b : List A) → has_none f a ≡ true → has_none f b ≡ true → meets_by w f e a b ≡ meets_by w never e a b
unfolding meets_by
meets-free w f e [] [] h k = refl
meets-free w f e [] (y ∷ b) h k = let ih = meets-free w f e [] b refl in grind (arith, nat_tests)
meets-free w f e (x ∷ a) [] h k = let ih = λ (q : has_none f a ≡ true). meets-free w f e a [] q refl in grind (arith, nat_tests)
meets-free w f e (x ∷ a) (y ∷ b) h k =
    let i1 = λ (q : has_none f a ≡ true). meets-free w f e a (y ∷ b) q k in
    let i2 = meets-free w f e (x ∷ a) b h in
    let i3 = meets-free w f e a b in
    grind (arith, nat_tests)

pub covers-free : {A : Type 0} (w f : A → Bool) (e : A → A → Bool) (a b : List A) → has_none f b ≡ true → covers_by w f e a b ≡ covers_by w never e a b
unfolding covers_by
covers-free w f e [] [] h = refl
covers-free w f e [] (y ∷ b) h = refl
covers-free w f e (x ∷ a) [] h = let ih = covers-free w f e a [] refl in rw ih refl
covers-free w f e (x ∷ a) (y ∷ b) h =
    let i1 = covers-free w f e a (y ∷ b) h in
    let i2 = covers-free w f e (x ∷ a) b in
    let i3 = covers-free w f e a b in
    grind (arith, nat_tests)

-- a wild part may stand for all that stands before it
pub meets-wider : {A : Type 0} (w : A → Bool) (e : A → A → Bool) (x : A) (s q y : List A) → w x ≡ true → meets_by w never e s (q ++ (x ∷ y)) ≡ true → meets_by w never e s (x ∷ y) ≡ true
unfolding meets_by
meets-wider w e x s [] y wx h = h
meets-wider w e x [] (z ∷ q) y wx h =
    let ih = meets-wider w e x [] q y wx in
    grind (arith, nat_tests)
meets-wider w e x (r ∷ s) (z ∷ q) y wx h =
    let i1 = meets-wider w e x s (z ∷ q) y wx in
    let i2 = meets-wider w e x (r ∷ s) q y wx in
    let i3 = meets-wider w e x s q y wx in
    grind (arith, nat_tests)

-- a wild part takes more
pub meets-more : {A : Type 0} (w : A → Bool) (e : A → A → Bool) (x : A) (p s y : List A) → w x ≡ true → meets_by w never e s (x ∷ y) ≡ true → meets_by w never e (p ++ s) (x ∷ y) ≡ true
unfolding meets_by
meets-more w e x [] s y wx h = h
meets-more w e x (z ∷ p) s y wx h =
    let ih = meets-more w e x p s y wx h in
    grind (arith, nat_tests)

-- wild parts first in both lists: the two tails, each against the other's last run
pub meets-wilds : {A : Type 0} (w : A → Bool) (e : A → A → Bool) (x y : A) (z v : List A) → w x ≡ true → w y ≡ true → has_none w z ≡ true → has_none w v ≡ true → meets_by w never e (x ∷ z) (y ∷ v) ≡ (wild_covers w never e z v || wild_covers w never (λ s t. e t s) v z)
meets-wilds w e x y z v wx wy fz fv =
    let first : meets_by w never e (x ∷ z) (y ∷ v) ≡ (meets_by w never e z (y ∷ v) || meets_by w never e (x ∷ z) v) = unfold meets_by in rw wx refl in
    let right : meets_by w never e (x ∷ z) v ≡ wild_covers w never e z v = meets-covers w never e (x ∷ z) v fv ∙ covers-wild w never e x z v wx in
    let left : meets_by w never e z (y ∷ v) ≡ wild_covers w never (λ s t. e t s) v z =
    meets-swap w never e (λ _ _. refl) z (y ∷ v) ∙ (meets-covers w never (λ s t. e t s) (y ∷ v) z fz ∙ covers-wild w never (λ s t. e t s) y v z wy) in
    first ∙ (rw (left, right) (or_comm (wild_covers w never (λ s t. e t s) v z) (wild_covers w never e z v)))

-- two lists that both have a wild part, the first at its head: only what follows the last ones matters
pub meets-last : {A : Type 0} (w : A → Bool) (e : A → A → Bool) (h : A) (a p q : List A) (x y : A) (z v : List A) → w h ≡ true → w x ≡ true → w y ≡ true → (h ∷ a) ≡ (p ++ (x ∷ z)) → meets_by w never e (h ∷ a) (q ++ (y ∷ v)) ≡ meets_by w never e (x ∷ z) (y ∷ v)
meets-last w e h a p q x y z v wh wx wy same = both _ _ down up
  where
    never_wild : (u : _) → w u ≡ true → never u ≡ false
    never_wild u k = refl

    down : meets_by w never e (h ∷ a) (q ++ (y ∷ v)) ≡ true → meets_by w never e (x ∷ z) (y ∷ v) ≡ true
    down k =
        let k1 = meets-wider w e y (h ∷ a) q v wy k in
        let k2 = rw same at k1 in
        let k3 = rw (meets-swap w never e never_wild (p ++ (x ∷ z)) (y ∷ v)) at k2 in
        let k4 = meets-wider w (λ s t. e t s) x (y ∷ v) p z wx k3 in
        meets-swap w never e never_wild (x ∷ z) (y ∷ v) ∙ k4

    up : meets_by w never e (x ∷ z) (y ∷ v) ≡ true → meets_by w never e (h ∷ a) (q ++ (y ∷ v)) ≡ true
    up k =
        let k1 = meets-more w e y p (x ∷ z) v wy k in
        let k2 = rw (← same) at k1 in
        let k3 = rw (meets-swap w never e never_wild (h ∷ a) (y ∷ v)) at k2 in
        let k4 = meets-more w (λ s t. e t s) h q (y ∷ v) a wh k3 in
        meets-swap w never e never_wild (h ∷ a) (q ++ (y ∷ v)) ∙ k4

    both : (b c : Bool) → (b ≡ true → c ≡ true) → (c ≡ true → b ≡ true) → b ≡ c
    both true c f g = sym (f refl)
    both false true f g = g refl
    both false false f g = refl

-- where the last wild part stands
pub record IsLast {A : Type 0} (w : A → Bool) (list tail : List A) : Type 0 where
  pub front : List A
  pub wild : A
  pub is_wild : w wild ≡ true
  pub whole : list ≡ (front ++ (wild ∷ tail))
  pub no_more : has_none w tail ≡ true

IsLast-later : {A : Type 0} {w : A → Bool} (x : A) {xs tail : List A} → IsLast w xs tail → IsLast w (x ∷ xs) tail
IsLast-later x l = record { front = x ∷ l.front; wild = l.wild; is_wild = l.is_wild; whole = ap (λ t. x ∷ t) l.whole; no_more = l.no_more }

pub after_last-cases : {A : Type 0} (w : A → Bool) (known : Option (List A)) (list : List A) → ((has_none w list ≡ true) × (after_last w known list ≡ known)) ⊎ ((tail : List A) × (after_last w known list ≡ Some tail) × IsLast w list tail)
after_last-cases {A = A} w known [] = inl (refl, unfold after_last in refl)
after_last-cases {A = A} w known (x ∷ xs) = by_head (w x) refl (after_last-cases w (Some xs) xs) (after_last-cases w known xs)
  where
    Cases : Option (List A) → List A → Type 0
    Cases k l = ((has_none w l ≡ true) × (after_last w k l ≡ k)) ⊎ ((tail : List A) × (after_last w k l ≡ Some tail) × IsLast w l tail)

    at_true : w x ≡ true → after_last w known (x ∷ xs) ≡ after_last w (Some xs) xs
    at_true h = unfold after_last in rw h refl

    at_false : w x ≡ false → after_last w known (x ∷ xs) ≡ after_last w known xs
    at_false h = unfold after_last in rw h refl

    by_head : (b : Bool) → w x ≡ b → ((has_none w xs ≡ true) × (after_last w (Some xs) xs ≡ Some xs)) ⊎ ((tail : List A) × (after_last w (Some xs) xs ≡ Some tail) × IsLast w xs tail) → ((has_none w xs ≡ true) × (after_last w known xs ≡ known)) ⊎ ((tail : List A) × (after_last w known xs ≡ Some tail) × IsLast w xs tail) → ((has_none w (x ∷ xs) ≡ true) × (after_last w known (x ∷ xs) ≡ known)) ⊎ ((tail : List A) × (after_last w known (x ∷ xs) ≡ Some tail) × IsLast w (x ∷ xs) tail)
    by_head true h (inl (none, is)) other = inr (xs, at_true h ∙ is, record { front = []; wild = x; is_wild = h; whole = refl; no_more = none })
    by_head true h (inr (t, is, l)) other = inr (t, at_true h ∙ is, IsLast-later x l)
    by_head false h other (inl (none, is)) = inl (rw h none, at_false h ∙ is)
    by_head false h other (inr (t, is, l)) = inr (t, at_false h ∙ is, IsLast-later x l)

pub after_last-none : {A : Type 0} (w : A → Bool) (list : List A) → after_last w None list ≡ None → has_none w list ≡ true
after_last-none w list h = elim (after_last-cases w None list) [ inl (none, is) ↦ none | inr (t, is, l) ↦ absurd (cc (h, is)) ]

pub after_last-some : {A : Type 0} (w : A → Bool) (list tail : List A) → after_last w None list ≡ Some tail → IsLast w list tail
after_last-some w list tail h = elim (after_last-cases w None list) [ inl (none, is) ↦ absurd (cc (h, is)) | inr (t, is, l) ↦ let same : t ≡ tail = cc (h, is) in rw same at l ]

pub covers-step : {A : Type 0} (w f : A → Bool) (e : A → A → Bool) (a b a' b' : List A) → Advances w e a b a' b' → covers_by w f e a b ≡ covers_by w f e a' b'
unfolding covers_by
covers-step w f e a b a' b' (x, y, ea, eb, wx, wy, exy) = rw (ea, eb) (rw (wx, wy, exy) refl)

pub meets-step : {A : Type 0} (w f : A → Bool) (e : A → A → Bool) (a b a' b' : List A) → Advances w e a b a' b' → meets_by w f e a b ≡ meets_by w f e a' b'
unfolding meets_by
meets-step w f e a b a' b' (x, y, ea, eb, wx, wy, exy) = rw (ea, eb) (rw (wx, wy, exy) refl)

pub takes-step : {A : Type 0} (w f : A → Bool) (e : A → A → Bool) (ef : (x y : A) → e x y ≡ true → f x ≡ f y) (a b a' b' : List A) → Advances w e a b a' b' → wild_takes w f e a b ≡ true → wild_takes w f e a' b' ≡ true
takes-step w f e ef a b a' b' (x, y, ea, eb, wx, wy, exy) h = wild_takes-step w f e ef x y a' b' wx exy (rw (ea, eb) at h)

pub covers-stops : {A : Type 0} (w f : A → Bool) (e : A → A → Bool) (a b : List A) → Stops w e a b → starts_wild w a ≡ false → covers_by w f e a b ≡ (is_nil a && is_nil b)
unfolding covers_by
covers-stops w f e [] [] s h = refl
covers-stops w f e [] (y ∷ b) s h = refl
covers-stops w f e (x ∷ a) [] s h = rw h refl
covers-stops w f e (x ∷ a) (y ∷ b) s h = rw h (no_step (w y) (e x y) _ (s h))
  where
    no_step : (wy exy c : Bool) → (wy ≡ false → exy ≡ false) → (not wy && exy && c) ≡ false
    no_step true exy c k = refl
    no_step false exy c k = rw (k refl) refl

pub meets-stops : {A : Type 0} (w f : A → Bool) (e : A → A → Bool) (a b : List A) → Stops w e a b → starts_wild w a ≡ false → starts_wild w b ≡ false → meets_by w f e a b ≡ (is_nil a && is_nil b)
unfolding meets_by
meets-stops w f e [] [] s h k = refl
meets-stops w f e [] (y ∷ b) s h k = rw k refl
meets-stops w f e (x ∷ a) [] s h k = rw h refl
meets-stops w f e (x ∷ a) (y ∷ b) s h k = rw (h, k, s h k) refl

-- relations of parts that agree at each pair
pub covers-like : {A : Type 0} (w f : A → Bool) (e e' : A → A → Bool) (like : (x y : A) → e x y ≡ e' x y) (a b : List A) → covers_by w f e a b ≡ covers_by w f e' a b
unfolding covers_by
covers-like w f e e' like [] [] = refl
covers-like w f e e' like [] (y ∷ b) = refl
covers-like w f e e' like (x ∷ a) [] = rw (covers-like w f e e' like a []) refl
covers-like w f e e' like (x ∷ a) (y ∷ b) = rw (covers-like w f e e' like a (y ∷ b), covers-like w f e e' like (x ∷ a) b, covers-like w f e e' like a b, like x y) refl

pub meets-like : {A : Type 0} (w f : A → Bool) (e e' : A → A → Bool) (like : (x y : A) → e x y ≡ e' x y) (a b : List A) → meets_by w f e a b ≡ meets_by w f e' a b
unfolding meets_by
meets-like w f e e' like [] [] = refl
meets-like w f e e' like [] (y ∷ b) = rw (meets-like w f e e' like [] b) refl
meets-like w f e e' like (x ∷ a) [] = rw (meets-like w f e e' like a []) refl
meets-like w f e e' like (x ∷ a) (y ∷ b) = rw (meets-like w f e e' like a (y ∷ b), meets-like w f e e' like (x ∷ a) b, meets-like w f e e' like a b, like x y) refl

pub wild_covers-like : {A : Type 0} (w f : A → Bool) (e e' : A → A → Bool) (like : (x y : A) → e x y ≡ e' x y) (p s : List A) → wild_covers w f e p s ≡ wild_covers w f e' p s
unfolding wild_covers
wild_covers-like w f e e' like p [] = covers-like w f e e' like p []
wild_covers-like w f e e' like p (y ∷ s) = rw (covers-like w f e e' like p (y ∷ s), wild_covers-like w f e e' like p s) refl

is_nil-append : {A : Type 0} (p : List A) (x : A) (z : List A) → is_nil (p ++ (x ∷ z)) ≡ false
is_nil-append [] x z = refl
is_nil-append (y ∷ p) x z = refl

-- where both have a wild part, the first at its head
meets-tails-first : {A : Type 0} (w : A → Bool) (e : A → A → Bool) (a b z v : List A) → starts_wild w a ≡ true → IsLast w a z → IsLast w b v → meets_by w never e a b ≡ (wild_covers w never e z v || wild_covers w never (λ s t. e t s) v z)
meets-tails-first w e [] b z v h la lb = absurd (false≢true h)
meets-tails-first w e (x ∷ a) b z v h la lb =
    rw lb.whole (meets-last w e x a la.front lb.front la.wild lb.wild z v h la.is_wild lb.is_wild la.whole ∙ meets-wilds w e la.wild lb.wild z v la.is_wild lb.is_wild la.no_more lb.no_more)

-- where both have a wild part and the walk has stopped
pub meets-tails : {A : Type 0} (w : A → Bool) (e : A → A → Bool) (a b z v : List A) → Stops w e a b → IsLast w a z → IsLast w b v → meets_by w never e a b ≡ ((starts_wild w a || starts_wild w b) && (wild_covers w never e z v || wild_covers w never (λ s t. e t s) v z))
meets-tails w e a b z v stop la lb = by_heads (starts_wild w a) (starts_wild w b) refl refl
  where
    by_heads : (s t : Bool) → starts_wild w a ≡ s → starts_wild w b ≡ t → meets_by w never e a b ≡ ((s || t) && (wild_covers w never e z v || wild_covers w never (λ s t. e t s) v z))
    by_heads true t ha hb = meets-tails-first w e a b z v ha la lb
    by_heads false true ha hb = meets-swap w never e (λ _ _. refl) a b ∙ (meets-tails-first w (λ s t. e t s) b a v z hb lb la ∙ or_comm (wild_covers w never (λ s t. e t s) v z) (wild_covers w never e z v))
    by_heads false false ha hb =
        let none : is_nil a ≡ false = rw la.whole (is_nil-append la.front la.wild z) in
        meets-stops w never e a b stop ha hb ∙ (rw none refl)

-- fixed parts stand against fixed parts, so both lists are cut there
not_wild : {A : Type 0} (w f : A → Bool) (wf : (x : A) → w x ≡ true → f x ≡ false) (x : A) → f x ≡ true → w x ≡ false
not_wild w f wf x h = false_from_ne_true (w x) (λ k. false≢true (sym (wf x k) ∙ h))

-- parts that agree are both fixed, or neither
differ : {A : Type 0} (f : A → Bool) (e : A → A → Bool) (ef : (x y : A) → e x y ≡ true → f x ≡ f y) (x y : A) (b : Bool) → f x ≡ b → f y ≡ not b → e x y ≡ false
differ f e ef x y true h k = false_from_ne_true (e x y) (λ s. true≢false (sym h ∙ (ef x y s ∙ k)))
differ f e ef x y false h k = false_from_ne_true (e x y) (λ s. false≢true (sym h ∙ (ef x y s ∙ k)))

drop_only : (wy p g : Bool) → cond wy ((p && g) || false) false ≡ ((wy && p) && g)
drop_only true true true = refl
drop_only true true false = refl
drop_only true false g = refl
drop_only false p g = refl

both_free : (wx wy exy p q r g : Bool) → cond wx ((p && g) || (q && g)) (cond wy ((q && g) || (p && g)) (exy && (r && g))) ≡ (cond wx (p || q) (cond wy (q || p) (exy && r)) && g)
both_free true wy exy p q r g = sym (and-or_distrib_right p q g)
both_free false true exy p q r g = sym (and-or_distrib_right q p g)
both_free false false exy p q r g = sym (and_assoc exy r g)

pub meets-split : {A : Type 0} (w f : A → Bool) (e : A → A → Bool) (wf : (x : A) → w x ≡ true → f x ≡ false) (ef : (x y : A) → e x y ≡ true → f x ≡ f y) (a b : List A) → meets_by w f e a b ≡ (meets_by w never e (before_fixed f a) (before_fixed f b) && both_go_on e (meets_by w f e) (from_fixed f a) (from_fixed f b))
unfolding meets_by
meets-split w f e wf ef [] [] = refl
meets-split w f e wf ef [] (y ∷ b) = by_fixed (f y) refl (meets-split w f e wf ef [] b)
  where
    by_fixed : (t : Bool) → f y ≡ t → meets_by w f e [] b ≡ (meets_by w never e [] (before_fixed f b) && both_go_on e (meets_by w f e) [] (from_fixed f b)) → meets_by w f e [] (y ∷ b) ≡ (meets_by w never e [] (before_fixed f (y ∷ b)) && both_go_on e (meets_by w f e) [] (from_fixed f (y ∷ b)))
    by_fixed true h ih = let wy = not_wild w f wf y h in rw (h, wy) refl
    by_fixed false h ih = rw (h, ih) (sym (and_assoc (w y) _ _))
meets-split w f e wf ef (x ∷ a) [] = by_fixed (f x) refl (meets-split w f e wf ef a [])
  where
    by_fixed : (t : Bool) → f x ≡ t → meets_by w f e a [] ≡ (meets_by w never e (before_fixed f a) [] && both_go_on e (meets_by w f e) (from_fixed f a) []) → meets_by w f e (x ∷ a) [] ≡ (meets_by w never e (before_fixed f (x ∷ a)) [] && both_go_on e (meets_by w f e) (from_fixed f (x ∷ a)) [])
    by_fixed true h ih = let wx = not_wild w f wf x h in rw (h, wx) refl
    by_fixed false h ih = rw (h, ih) (sym (and_assoc (w x) _ _))
meets-split {A = A} w f e wf ef (x ∷ a) (y ∷ b) = by_fixed (f x) (f y) refl refl (meets-split w f e wf ef a (y ∷ b)) (meets-split w f e wf ef (x ∷ a) b) (meets-split w f e wf ef a b)
  where
    Splits : List A → List A → Type 0
    Splits a b = meets_by w f e a b ≡ (meets_by w never e (before_fixed f a) (before_fixed f b) && both_go_on e (meets_by w f e) (from_fixed f a) (from_fixed f b))

    by_fixed : (s t : Bool) → f x ≡ s → f y ≡ t → meets_by w f e a (y ∷ b) ≡ (meets_by w never e (before_fixed f a) (before_fixed f (y ∷ b)) && both_go_on e (meets_by w f e) (from_fixed f a) (from_fixed f (y ∷ b))) → meets_by w f e (x ∷ a) b ≡ (meets_by w never e (before_fixed f (x ∷ a)) (before_fixed f b) && both_go_on e (meets_by w f e) (from_fixed f (x ∷ a)) (from_fixed f b)) → meets_by w f e a b ≡ (meets_by w never e (before_fixed f a) (before_fixed f b) && both_go_on e (meets_by w f e) (from_fixed f a) (from_fixed f b)) → meets_by w f e (x ∷ a) (y ∷ b) ≡ (meets_by w never e (before_fixed f (x ∷ a)) (before_fixed f (y ∷ b)) && both_go_on e (meets_by w f e) (from_fixed f (x ∷ a)) (from_fixed f (y ∷ b)))
    by_fixed true true h k i1 i2 i3 = let wx = not_wild w f wf x h in let wy = not_wild w f wf y k in rw (h, k, wx, wy) refl
    by_fixed true false h k i1 i2 i3 =
        let wx = not_wild w f wf x h in
        let exy = differ f e ef x y true h k in
        let j2 = rw h at i2 in
        rw (h, k, wx, exy, j2) (drop_only (w y) _ _)
    by_fixed false true h k i1 i2 i3 =
        let wy = not_wild w f wf y k in
        let exy = differ f e ef x y false h k in
        let j1 = rw k at i1 in
        rw (h, k, wy, exy, j1) (drop_only (w x) _ _)
    by_fixed false false h k i1 i2 i3 =
        let j1 = rw k at i1 in
        let j2 = rw h at i2 in
        rw (h, k, j1, j2, i3) (both_free (w x) (w y) (e x y) (meets_by w never e (before_fixed f a) (y ∷ before_fixed f b)) (meets_by w never e (x ∷ before_fixed f a) (before_fixed f b)) (meets_by w never e (before_fixed f a) (before_fixed f b)) (both_go_on e (meets_by w f e) (from_fixed f a) (from_fixed f b)))

never_both : (wy c : Bool) → ((not wy && false) && c) ≡ false
never_both true c = refl
never_both false c = refl

one_free : (wx n p q r g : Bool) → cond wx ((p && g) || (q && g)) (n && (r && g)) ≡ (cond wx (p || q) (n && r) && g)
one_free true n p q r g = sym (and-or_distrib_right p q g)
one_free false n p q r g = sym (and_assoc n r g)

pub covers-split : {A : Type 0} (w f : A → Bool) (e : A → A → Bool) (wf : (x : A) → w x ≡ true → f x ≡ false) (ef : (x y : A) → e x y ≡ true → f x ≡ f y) (a b : List A) → covers_by w f e a b ≡ (covers_by w never e (before_fixed f a) (before_fixed f b) && both_go_on e (covers_by w f e) (from_fixed f a) (from_fixed f b))
unfolding covers_by
covers-split w f e wf ef [] [] = refl
covers-split w f e wf ef [] (y ∷ b) = by_fixed (f y) refl
  where
    by_fixed : (t : Bool) → f y ≡ t → false ≡ (covers_by w never e [] (before_fixed f (y ∷ b)) && both_go_on e (covers_by w f e) [] (from_fixed f (y ∷ b)))
    by_fixed true h = rw h refl
    by_fixed false h = rw h refl
covers-split w f e wf ef (x ∷ a) [] = by_fixed (f x) refl (covers-split w f e wf ef a [])
  where
    by_fixed : (t : Bool) → f x ≡ t → covers_by w f e a [] ≡ (covers_by w never e (before_fixed f a) [] && both_go_on e (covers_by w f e) (from_fixed f a) []) → covers_by w f e (x ∷ a) [] ≡ (covers_by w never e (before_fixed f (x ∷ a)) [] && both_go_on e (covers_by w f e) (from_fixed f (x ∷ a)) [])
    by_fixed true h ih = let wx = not_wild w f wf x h in rw (h, wx) refl
    by_fixed false h ih = rw (h, ih) (sym (and_assoc (w x) _ _))
covers-split {A = A} w f e wf ef (x ∷ a) (y ∷ b) = by_fixed (f x) (f y) refl refl (covers-split w f e wf ef a (y ∷ b)) (covers-split w f e wf ef (x ∷ a) b) (covers-split w f e wf ef a b)
  where
    by_fixed : (s t : Bool) → f x ≡ s → f y ≡ t → covers_by w f e a (y ∷ b) ≡ (covers_by w never e (before_fixed f a) (before_fixed f (y ∷ b)) && both_go_on e (covers_by w f e) (from_fixed f a) (from_fixed f (y ∷ b))) → covers_by w f e (x ∷ a) b ≡ (covers_by w never e (before_fixed f (x ∷ a)) (before_fixed f b) && both_go_on e (covers_by w f e) (from_fixed f (x ∷ a)) (from_fixed f b)) → covers_by w f e a b ≡ (covers_by w never e (before_fixed f a) (before_fixed f b) && both_go_on e (covers_by w f e) (from_fixed f a) (from_fixed f b)) → covers_by w f e (x ∷ a) (y ∷ b) ≡ (covers_by w never e (before_fixed f (x ∷ a)) (before_fixed f (y ∷ b)) && both_go_on e (covers_by w f e) (from_fixed f (x ∷ a)) (from_fixed f (y ∷ b)))
    by_fixed true true h k i1 i2 i3 = let wx = not_wild w f wf x h in let wy = not_wild w f wf y k in rw (h, k, wx, wy) refl
    by_fixed true false h k i1 i2 i3 =
        let wx = not_wild w f wf x h in
        let exy = differ f e ef x y true h k in
        rw (h, k, wx, exy) (never_both (w y) (covers_by w f e a b))
    by_fixed false true h k i1 i2 i3 =
        let wy = not_wild w f wf y k in
        let exy = differ f e ef x y false h k in
        let j1 = rw k at i1 in
        rw (h, k, wy, exy, j1) (drop_only (w x) (covers_by w never e (before_fixed f a) []) (both_go_on e (covers_by w f e) (from_fixed f a) (y ∷ b)))
    by_fixed false false h k i1 i2 i3 =
        let j1 = rw k at i1 in
        let j2 = rw h at i2 in
        rw (h, k, j1, j2, i3) (one_free (w x) (not (w y) && e x y) (covers_by w never e (before_fixed f a) (y ∷ before_fixed f b)) (covers_by w never e (x ∷ before_fixed f a) (before_fixed f b)) (covers_by w never e (before_fixed f a) (before_fixed f b)) (both_go_on e (covers_by w f e) (from_fixed f a) (from_fixed f b)))

pub takes-step_free : {A : Type 0} (w : A → Bool) (e : A → A → Bool) (a b a' b' : List A) → Advances w e a b a' b' → wild_takes w never e a b ≡ true → wild_takes w never e a' b' ≡ true
takes-step_free w e a b a' b' h k = takes-step w never e (λ x y m. refl) a b a' b' h k

pub ruleset steps = (covers-step, meets-step, takes-step_free)

pub covers-walked_wild : {A : Type 0} (w : A → Bool) (e : A → A → Bool) (a b p q rest : List A) (x : A) → covers_by w never e a b ≡ covers_by w never e p q → w x ≡ true → p ≡ (x ∷ rest) → covers_by w never e a b ≡ wild_covers w never e rest q
covers-walked_wild w e a b p q rest x same wx is = same ∙ (rw is (covers-wild w never e x rest q wx))

pub covers-walked_end : {A : Type 0} (w : A → Bool) (e : A → A → Bool) (a b p q : List A) → covers_by w never e a b ≡ covers_by w never e p q → Stops w e p q → starts_wild w p ≡ false → covers_by w never e a b ≡ (is_nil p && is_nil q)
covers-walked_end w e a b p q same stop first = same ∙ covers-stops w never e p q stop first

pub ruleset covering = (covers-walked_wild, covers-walked_end)

pub after_last-wild : {A : Type 0} (w : A → Bool) (known : Option (List A)) (list rest : List A) (x : A) → w x ≡ true → list ≡ (x ∷ rest) → after_last w known list ≡ after_last w (Some rest) rest
unfolding after_last
after_last-wild w known list rest x wx is = rw is (rw wx refl)

pub after_last-part : {A : Type 0} (w : A → Bool) (known : Option (List A)) (list rest : List A) (x : A) → starts_wild w list ≡ false → list ≡ (x ∷ rest) → after_last w known list ≡ after_last w known rest
unfolding after_last
after_last-part w known list rest x first is = let wx = rw is at first in rw is (rw wx refl)

pub after_last-end : {A : Type 0} (w : A → Bool) (known : Option (List A)) (list : List A) → list ≡ [] → after_last w known list ≡ known
unfolding after_last
after_last-end w known list is = rw is refl

pub ruleset last_wild = (after_last-wild, after_last-part, after_last-end)

-- the walk of `covers_after_wild`
pub again : {A : Type 0} (w : A → Bool) (e : A → A → Bool) (p t p' t' rest : List A) (x : A) → w x ≡ true → p' ≡ (x ∷ rest) → covers_by w never e p t ≡ covers_by w never e p' t' → (wild_takes w never e p t ≡ true → wild_takes w never e p' t' ≡ true) → wild_covers w never e p t ≡ wild_covers w never e rest t'
again w e p t p' t' rest x wx is same later = wild_covers-again w never e x rest p t p' t' wx is same later

pub found : {A : Type 0} (w : A → Bool) (e : A → A → Bool) (p t p' t' : List A) → covers_by w never e p t ≡ covers_by w never e p' t' → Stops w e p' t' → starts_wild w p' ≡ false → (is_nil p' && is_nil t') ≡ true → wild_covers w never e p t ≡ true
found w e p t p' t' same stop first ends = wild_covers-found w never e p t (same ∙ (covers-stops w never e p' t' stop first ∙ ends))

pub over : {A : Type 0} (w : A → Bool) (e : A → A → Bool) (p t p' t' : List A) → t ≡ [] → covers_by w never e p t ≡ covers_by w never e p' t' → Stops w e p' t' → starts_wild w p' ≡ false → (is_nil p' && is_nil t') ≡ false → wild_covers w never e p t ≡ false
over w e p t p' t' none same stop first ends = wild_covers-over w never e p t none (same ∙ (covers-stops w never e p' t' stop first ∙ ends))

pub onward : {A : Type 0} (w : A → Bool) (e : A → A → Bool) (p t p' t' rest : List A) (y : A) → t ≡ (y ∷ rest) → covers_by w never e p t ≡ covers_by w never e p' t' → Stops w e p' t' → starts_wild w p' ≡ false → (is_nil p' && is_nil t') ≡ false → wild_covers w never e p t ≡ wild_covers w never e p rest
onward w e p t p' t' rest y is same stop first ends = wild_covers-next w never e p t rest y is refl (same ∙ (covers-stops w never e p' t' stop first ∙ ends))

flip_like : {A : Type 0} (e : A → A → Bool) (ways : (x y : A) → e x y ≡ e y x) (x y : A) → e y x ≡ e x y
flip_like e ways x y = ways y x

pub meets-both_ways : {A : Type 0} (w : A → Bool) (e : A → A → Bool) (ways : (x y : A) → e x y ≡ e y x) (a b : List A) → meets_by w never e a b ≡ meets_by w never e b a
meets-both_ways w e ways a b = meets-swap w never e (λ _ _. refl) a b ∙ meets-like w never (λ x y. e y x) e (flip_like e ways) b a

pub meets-no_wild : {A : Type 0} (w : A → Bool) (e : A → A → Bool) (ways : (x y : A) → e x y ≡ e y x) (a b p q : List A) → meets_by w never e a b ≡ meets_by w never e p q → after_last w None p ≡ None → meets_by w never e a b ≡ covers_by w never e q p
meets-no_wild w e ways a b p q same none = same ∙ (meets-both_ways w e ways p q ∙ meets-covers w never e q p (after_last-none w p none))

pub meets-no_wild_right : {A : Type 0} (w : A → Bool) (e : A → A → Bool) (a b p q : List A) → meets_by w never e a b ≡ meets_by w never e p q → after_last w None q ≡ None → meets_by w never e a b ≡ covers_by w never e p q
meets-no_wild_right w e a b p q same none = same ∙ meets-covers w never e p q (after_last-none w q none)

pub meets-two_wild : {A : Type 0} (w : A → Bool) (e : A → A → Bool) (ways : (x y : A) → e x y ≡ e y x) (a b p q z v : List A) → meets_by w never e a b ≡ meets_by w never e p q → Stops w e p q → after_last w None p ≡ Some z → after_last w None q ≡ Some v → meets_by w never e a b ≡ ((starts_wild w p || starts_wild w q) && (wild_covers w never e z v || wild_covers w never e v z))
meets-two_wild w e ways a b p q z v same stop hz hv =
    rw (← (wild_covers-like w never (λ x y. e y x) e (flip_like e ways) v z)) (same ∙ meets-tails w e p q z v stop (after_last-some w p z hz) (after_last-some w q v hv))
