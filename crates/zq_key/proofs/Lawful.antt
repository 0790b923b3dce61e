-- Laws of the definitions.
use Rattle.std.proofs.Common.{◌≡◌, ℕ, Bool, true, false, not, cond, is_none, ◌&&◌, ◌||◌, List, [], ◌∷◌, Option, Some, None, refl, ◌∙◌}
use Rattle.std.specs.Str.{bytes_eq}
use Rattle.std.proofs.lemmas.Bool.{true≢false, false≢true, and_parts}
use Rattle.std.proofs.lemmas.Bool.Decides.{Decides-eqb}
use Rattle.std.proofs.lemmas.Slice.Eq.{bytes_eq-Decides}
use Rattle.std.proofs.Math.Bool.{or-true}
use Rattle.zq_key.specs.Match.{covers_by, meets_by}
use Rattle.zq_key.specs.Walk.{never}
use Rattle.zq_key.specs.Key.{is_stars, is_star, is_verbatim, chunk_meets, chunk_covers, parts, parts_meet, parts_cover, same_part, chunks, intersects, includes}
use Rattle.zq_key.proofs.Meet.{meets-swap, meets-like}
use Rattle.zq_key.proofs.Relations.{chunk_meets-swap, stars-free}

-- keys intersect both ways
pub intersects-swap : (a b : List ℕ) → intersects a b ≡ intersects b a
unfolding intersects
intersects-swap a b = meets-swap is_stars is_verbatim chunk_meets stars-free (chunks a) (chunks b) ∙ meets-like is_stars is_verbatim (λ x y. chunk_meets y x) chunk_meets (λ x y. chunk_meets-swap y x) (chunks b) (chunks a)

covers-drop : {A : Type 0} (w f : A → Bool) (e : A → A → Bool) (x : A) (a b : List A) → w x ≡ true → covers_by w f e a b ≡ true → covers_by w f e (x ∷ a) b ≡ true
unfolding covers_by
covers-drop w f e x a [] h k = rw (h, k) refl
covers-drop w f e x a (y ∷ b) h k = rw (h, k) refl

pub covers-self : {A : Type 0} (w f : A → Bool) (e : A → A → Bool) (wf : (x : A) → w x ≡ true → f x ≡ false) (same : (x : A) → w x ≡ false → e x x ≡ true) (a : List A) → covers_by w f e a a ≡ true
unfolding covers_by
covers-self w f e wf same [] = refl
covers-self w f e wf same (x ∷ a) = at (w x) refl (covers-self w f e wf same a)
  where
    at : (b : Bool) → w x ≡ b → covers_by w f e a a ≡ true → covers_by w f e (x ∷ a) (x ∷ a) ≡ true
    at true h ih = rw (h, wf x h, covers-drop w f e x a a h ih) (or-true (covers_by w f e a (x ∷ a)))
    at false h ih = rw (h, same x h, ih) refl

same_part-self : (x : Option ℕ) → is_none x ≡ false → same_part x x ≡ true
same_part-self None h = absurd (true≢false h)
same_part-self (Some c) h = (Decides-eqb c c).1 refl

pub chunk_covers-self : (x : List ℕ) → is_stars x ≡ false → chunk_covers x x ≡ true
unfolding chunk_covers
chunk_covers-self x h = at (is_verbatim x) (is_star x) refl refl
  where
    at : (v s : Bool) → is_verbatim x ≡ v → is_star x ≡ s → cond (is_verbatim x || is_verbatim x) (bytes_eq x x) (is_star x || (not (is_star x) && parts_cover (parts x) (parts x))) ≡ true
    at true s k l = rw k ((bytes_eq-Decides x x).1 refl)
    at false true k l = rw (k, l) refl
    at false false k l = rw (k, l) (covers-self is_none never same_part (λ _ _. refl) same_part-self (parts x))

-- a key includes itself
pub includes-self : (a : List ℕ) → includes a a ≡ true
unfolding includes
includes-self a = covers-self is_stars is_verbatim chunk_covers stars-free chunk_covers-self (chunks a)

choice : (p q n r s : Bool) → (p ≡ true → r ≡ true) → (q ≡ true → s ≡ true) → (p || (n && q)) ≡ true → (r || (n && s)) ≡ true
choice true q n r s i1 i2 h = rw (i1 refl) refl
choice false true n r s i1 i2 h = let k = and_parts n true h in rw (k.0, i2 refl) (or-true r)
choice false false n r s i1 i2 h = absurd (false≢true ((and_parts n false h).1))

-- where one relation follows from the other part by part, it does so for lists
pub covers-meets : {A : Type 0} (w f : A → Bool) (e e' : A → A → Bool) (follows : (x y : A) → e x y ≡ true → e' x y ≡ true) (a b : List A) → covers_by w f e a b ≡ true → meets_by w f e' a b ≡ true
unfolding covers_by meets_by
covers-meets w f e e' follows [] [] h = refl
covers-meets w f e e' follows [] (y ∷ b) h = absurd (false≢true h)
covers-meets w f e e' follows (x ∷ a) [] h = let p = and_parts (w x) (covers_by w f e a []) h in rw (p.0, covers-meets w f e e' follows a [] p.1) refl
covers-meets w f e e' follows (x ∷ a) (y ∷ b) h = at (w x) (w y) refl refl (covers-meets w f e e' follows a (y ∷ b)) (covers-meets w f e e' follows (x ∷ a) b) (covers-meets w f e e' follows a b)
  where
    at : (s t : Bool) → w x ≡ s → w y ≡ t → (covers_by w f e a (y ∷ b) ≡ true → meets_by w f e' a (y ∷ b) ≡ true) → (covers_by w f e (x ∷ a) b ≡ true → meets_by w f e' (x ∷ a) b ≡ true) → (covers_by w f e a b ≡ true → meets_by w f e' a b ≡ true) → meets_by w f e' (x ∷ a) (y ∷ b) ≡ true
    at true t k l i1 i2 i3 = rw k (choice (covers_by w f e a (y ∷ b)) (covers_by w f e (x ∷ a) b) (not (f y)) (meets_by w f e' a (y ∷ b)) (meets_by w f e' (x ∷ a) b) i1 i2 (rw k at h))
    at false true k l i1 i2 i3 = absurd (false≢true (rw (k, l) at h))
    at false false k l i1 i2 i3 = let p = and_parts (e x y) (covers_by w f e a b) (rw (k, l) at h) in rw (k, l, follows x y p.0, i3 p.1) refl

same_covers : (x y : Option ℕ) → same_part x y ≡ true → same_part x y ≡ true
same_covers x y h = h

pub chunk_covers-meets : (a b : List ℕ) → chunk_covers a b ≡ true → chunk_meets a b ≡ true
unfolding chunk_covers chunk_meets
chunk_covers-meets a b h = at (is_verbatim a || is_verbatim b) (is_star a) (is_star b) h
  where
    parts_follow : parts_cover (parts a) (parts b) ≡ true → parts_meet (parts a) (parts b) ≡ true
    parts_follow k = covers-meets is_none never same_part same_part same_covers (parts a) (parts b) k

    at : (v s t : Bool) → cond v (bytes_eq a b) (s || (not t && parts_cover (parts a) (parts b))) ≡ true → cond v (bytes_eq a b) (s || t || parts_meet (parts a) (parts b)) ≡ true
    at true s t k = k
    at false true t k = refl
    at false false true k = refl
    at false false false k = parts_follow k

-- a key intersects each key that it includes
pub includes-intersects : (a b : List ℕ) → includes a b ≡ true → intersects a b ≡ true
unfolding includes intersects
includes-intersects a b h = covers-meets is_stars is_verbatim chunk_covers chunk_meets chunk_covers-meets (chunks a) (chunks b) h

pub intersects-self : (a : List ℕ) → intersects a a ≡ true
intersects-self a = includes-intersects a a (includes-self a)

pub ruleset both_ways = (intersects-swap)

pub ruleset itself = (intersects-self, includes-self)

pub ruleset inclusion = (includes-intersects)
