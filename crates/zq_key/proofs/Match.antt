-- Laws of the one-sided recursion that the walk of the code rests on.
use Rattle.std.proofs.Common.{◌≡◌, Bool, true, false, ◌||◌, List, [], ◌∷◌, refl, sym, ◌∙◌, arith}
use Rattle.std.proofs.lemmas.Bool.Decides.{nat_tests}
use Rattle.zq_key.specs.Match.{covers_by}
use Rattle.zq_key.specs.Walk.{wild_covers, wild_takes}

pub covers-wild : {A : Type 0} (w f : A → Bool) (e : A → A → Bool) (x : A) (p s : List A) → w x ≡ true → covers_by w f e (x ∷ p) s ≡ wild_covers w f e p s
unfolding covers_by wild_covers
covers-wild w f e x p [] h = rw h refl
covers-wild w f e x p (y ∷ s) h = let ih = covers-wild w f e x p s h in rw (h, ih) refl

pub wild_covers-split : {A : Type 0} (w f : A → Bool) (e : A → A → Bool) (p s : List A) → wild_covers w f e p s ≡ (covers_by w f e p s || wild_takes w f e p s)
unfolding wild_covers wild_takes
wild_covers-split w f e p [] = grind (arith, nat_tests)
wild_covers-split w f e p (y ∷ s) = refl

-- a wild part may take what the next part would
pub wild_covers-keeps : {A : Type 0} (w f : A → Bool) (e : A → A → Bool) (ef : (x y : A) → e x y ≡ true → f x ≡ f y) (x : A) (p s : List A) → w x ≡ false → f x ≡ false → wild_covers w f e (x ∷ p) s ≡ true → wild_covers w f e p s ≡ true
unfolding covers_by wild_covers wild_takes
wild_covers-keeps w f e ef x p [] wx fx h = grind (arith, nat_tests)
wild_covers-keeps w f e ef x p (z ∷ s) wx fx h =
    let ih = wild_covers-keeps w f e ef x p s wx fx in
    let sp = wild_covers-split w f e p s in
    let z_like = ef x z in
    grind (arith, nat_tests)

-- one step of the walk: heads that agree
pub wild_takes-step : {A : Type 0} (w f : A → Bool) (e : A → A → Bool) (ef : (x y : A) → e x y ≡ true → f x ≡ f y) (x y : A) (p s : List A) → w x ≡ false → e x y ≡ true → wild_takes w f e (x ∷ p) (y ∷ s) ≡ true → wild_takes w f e p s ≡ true
unfolding covers_by wild_covers wild_takes
wild_takes-step w f e ef x y p [] wx exy h = grind (arith, nat_tests)
wild_takes-step w f e ef x y p (z ∷ s) wx exy h =
    let fxy = ef x y exy in
    let fxz = ef x z in
    let keeps = wild_covers-keeps w f e ef x p s wx in
    let sp = wild_covers-split w f e p s in
    grind (arith, nat_tests)

-- one step of the walk: a wild part comes
pub wild_covers-wild : {A : Type 0} (w f : A → Bool) (e : A → A → Bool) (x : A) (p s : List A) → w x ≡ true → wild_covers w f e (x ∷ p) s ≡ true → wild_covers w f e p s ≡ true
unfolding covers_by wild_covers
wild_covers-wild w f e x p [] wx h = grind (arith, nat_tests)
wild_covers-wild w f e x p (z ∷ s) wx h =
    let ih = wild_covers-wild w f e x p s wx in
    let cw = covers-wild w f e x p (z ∷ s) wx in
    grind (arith, nat_tests)

-- where the walk comes to a wild part, the earlier choice need not be tried again
pub wild_covers-later : {A : Type 0} (w f : A → Bool) (e : A → A → Bool) (x : A) (p s : List A) → w x ≡ true → wild_takes w f e (x ∷ p) s ≡ true → wild_covers w f e p s ≡ true
unfolding wild_covers wild_takes
wild_covers-later w f e x p [] wx h = grind (arith, nat_tests)
wild_covers-later w f e x p (z ∷ s) wx h =
    let ih = wild_covers-wild w f e x p s wx in
    grind (arith, nat_tests)

-- the walk has come to a wild part: it alone is tried from there on
pub wild_covers-again : {A : Type 0} (w f : A → Bool) (e : A → A → Bool) (x : A) (rest p s p' s' : List A) → w x ≡ true → p' ≡ (x ∷ rest) → covers_by w f e p s ≡ covers_by w f e p' s' → (wild_takes w f e p s ≡ true → wild_takes w f e p' s' ≡ true) → wild_covers w f e p s ≡ wild_covers w f e rest s'
wild_covers-again w f e x rest p s p' s' wx is same later =
    let here : covers_by w f e p s ≡ wild_covers w f e rest s' = same ∙ (rw is (covers-wild w f e x rest s' wx)) in
    let takes : wild_takes w f e p s ≡ true → wild_covers w f e rest s' ≡ true = λ h. wild_covers-later w f e x rest s' wx (rw is at (later h)) in
    wild_covers-split w f e p s ∙ (rw here (absorbs _ _ takes))
  where
    absorbs : (a b : Bool) → (b ≡ true → a ≡ true) → (a || b) ≡ a
    absorbs true b h = refl
    absorbs false true h = sym (h refl)
    absorbs false false h = refl

pub wild_covers-found : {A : Type 0} (w f : A → Bool) (e : A → A → Bool) (p s : List A) → covers_by w f e p s ≡ true → wild_covers w f e p s ≡ true
wild_covers-found w f e p s h = wild_covers-split w f e p s ∙ (rw h refl)

pub wild_covers-over : {A : Type 0} (w f : A → Bool) (e : A → A → Bool) (p s : List A) → s ≡ [] → covers_by w f e p s ≡ false → wild_covers w f e p s ≡ false
unfolding wild_covers
wild_covers-over w f e p s is h = rw is (rw is at h)

pub wild_covers-stuck : {A : Type 0} (w f : A → Bool) (e : A → A → Bool) (p s rest : List A) (y : A) → s ≡ (y ∷ rest) → f y ≡ true → covers_by w f e p s ≡ false → wild_covers w f e p s ≡ false
unfolding wild_covers
wild_covers-stuck w f e p s rest y is fy h = rw is (rw (fy, rw is at h) refl)

pub wild_covers-next : {A : Type 0} (w f : A → Bool) (e : A → A → Bool) (p s rest : List A) (y : A) → s ≡ (y ∷ rest) → f y ≡ false → covers_by w f e p s ≡ false → wild_covers w f e p s ≡ wild_covers w f e p rest
unfolding wild_covers
wild_covers-next w f e p s rest y is fy h = rw is (rw (fy, rw is at h) refl)
