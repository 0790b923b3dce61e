-- Plain keys intersect, and include each other, exactly where they are equal.
use Rattle.std.proofs.Common.{◌≡◌, ℕ, ◌==◌, Bool, true, false, not, is_none, ◌||◌, List, [], ◌∷◌, refl, sym, ap, ◌∙◌}
use Rattle.std.specs.List.{list_all, list_any, join_with_byte}
use Rattle.std.specs.Str.{bytes_eq}
use Rattle.std.specs.Cmp.Lexicographic.{pointwise}
use Rattle.std.proofs.lemmas.Bool.{false≢true, and_parts, or_parts, not-true, false_from_ne_true}
use Rattle.std.proofs.lemmas.Bool.Decides.{same_from_decides}
use Rattle.std.proofs.lemmas.Slice.Eq.{bytes_eq-Decides, slice_eq-Decides}
use Rattle.std.proofs.lemmas.List.Splits.{join_with_byte-slice_split}
use Rattle.zq_key.specs.Match.{covers_by}
use Rattle.zq_key.specs.Walk.{has_none, never}
use Rattle.zq_key.specs.Key.{chunks, parts, parts_cover, same_part, is_verbatim, is_star, is_stars, chunk_meets, chunk_covers, is_plain_chunk, is_plain, is_key, intersects, includes}
use Rattle.zq_key.proofs.Spelling.{somes}
use Rattle.zq_key.proofs.Meet.{meets-covers}

-- lists with no wild part: place by place
plain-covers : {A : Type 0} (w f : A → Bool) (e : A → A → Bool) (a b : List A) → has_none w a ≡ true → has_none w b ≡ true → covers_by w f e a b ≡ pointwise e a b
unfolding covers_by
plain-covers w f e [] [] h k = refl
plain-covers w f e [] (y ∷ b) h k = refl
plain-covers w f e (x ∷ a) [] h k = let p = and_parts (not (w x)) (has_none w a) h in rw (not-true (w x) p.0) refl
plain-covers w f e (x ∷ a) (y ∷ b) h k =
    let p = and_parts (not (w x)) (has_none w a) h in
    let q = and_parts (not (w y)) (has_none w b) k in
    rw (not-true (w x) p.0, not-true (w y) q.0, plain-covers w f e a b p.1 q.1) refl

abbrev pub has_wild : List ℕ → Bool
has_wild x = list_any (λ c. c == 42 || c == 36) x

-- a plain chunk is a list of characters
pub plain-parts : (x : List ℕ) → has_wild x ≡ false → parts x ≡ somes x
plain-parts [] h = refl
plain-parts (c ∷ []) h = refl
plain-parts (c ∷ d ∷ x) h =
    let p = or_parts (c == 42 || c == 36) (has_wild (d ∷ x)) h in
    let q = or_parts (c == 42) (c == 36) p.0 in
    rw (q.1, plain-parts (d ∷ x) p.1) refl

pub somes-none : (x : List ℕ) → has_none is_none (somes x) ≡ true
somes-none [] = refl
somes-none (c ∷ x) = somes-none x

somes-pointwise : (x y : List ℕ) → pointwise same_part (somes x) (somes y) ≡ bytes_eq x y
somes-pointwise [] [] = refl
somes-pointwise [] (d ∷ y) = refl
somes-pointwise (c ∷ x) [] = refl
somes-pointwise (c ∷ x) (d ∷ y) = rw (somes-pointwise x y) refl

somes-cover : (x y : List ℕ) → parts_cover (somes x) (somes y) ≡ bytes_eq x y
somes-cover x y = plain-covers is_none never same_part (somes x) (somes y) (somes-none x) (somes-none y) ∙ somes-pointwise x y

pub plain-star : (x : List ℕ) → has_wild x ≡ false → is_star x ≡ false
plain-star x h = false_from_ne_true (is_star x) (λ k. let e = (bytes_eq-Decides x (42 ∷ [])).0 k in false≢true (sym (rw e at h)))

pub plain-stars : (x : List ℕ) → has_wild x ≡ false → is_stars x ≡ false
plain-stars x h = false_from_ne_true (is_stars x) (λ k. let e = (bytes_eq-Decides x (42 ∷ 42 ∷ [])).0 k in false≢true (sym (rw e at h)))

-- the facts of a plain chunk
pub chunk_facts : (x : List ℕ) → is_plain_chunk x ≡ true → (is_verbatim x ≡ false) × (has_wild x ≡ false)
chunk_facts x h = let p = and_parts (not (is_verbatim x)) (not (has_wild x)) h in (not-true (is_verbatim x) p.0, not-true (has_wild x) p.1)

pub plain-chunk_covers : (x y : List ℕ) → is_plain_chunk x ≡ true → is_plain_chunk y ≡ true → chunk_covers x y ≡ bytes_eq x y
unfolding chunk_covers
plain-chunk_covers x y h k =
    let p = chunk_facts x h in
    let q = chunk_facts y k in
    rw (p.0, q.0, plain-star x p.1, plain-star y q.1, plain-parts x p.1, plain-parts y q.1) (somes-cover x y)

pub plain-chunk_meets : (x y : List ℕ) → is_plain_chunk x ≡ true → is_plain_chunk y ≡ true → chunk_meets x y ≡ bytes_eq x y
unfolding chunk_meets
plain-chunk_meets x y h k =
    let p = chunk_facts x h in
    let q = chunk_facts y k in
    rw (p.0, q.0, plain-star x p.1, plain-star y q.1, plain-parts x p.1, plain-parts y q.1) (meets-covers is_none never same_part (somes x) (somes y) (somes-none y) ∙ somes-cover x y)

plain-none : (a : List (List ℕ)) → list_all is_plain_chunk a ≡ true → has_none is_stars a ≡ true
plain-none [] h = refl
plain-none (x ∷ a) h = let p = and_parts (is_plain_chunk x) (list_all is_plain_chunk a) h in rw (plain-stars x ((chunk_facts x p.0).1), plain-none a p.1) refl

plain-pointwise : (e : List ℕ → List ℕ → Bool) (same : (x y : List ℕ) → is_plain_chunk x ≡ true → is_plain_chunk y ≡ true → e x y ≡ bytes_eq x y) (a b : List (List ℕ)) → list_all is_plain_chunk a ≡ true → list_all is_plain_chunk b ≡ true → pointwise e a b ≡ pointwise bytes_eq a b
plain-pointwise e same [] [] h k = refl
plain-pointwise e same [] (y ∷ b) h k = refl
plain-pointwise e same (x ∷ a) [] h k = refl
plain-pointwise e same (x ∷ a) (y ∷ b) h k =
    let p = and_parts (is_plain_chunk x) (list_all is_plain_chunk a) h in
    let q = and_parts (is_plain_chunk y) (list_all is_plain_chunk b) k in
    rw (same x y p.0 q.0, plain-pointwise e same a b p.1 q.1) refl

-- texts with equal chunks are equal
chunks-same : (a b : List ℕ) → pointwise bytes_eq (chunks a) (chunks b) ≡ bytes_eq a b
chunks-same a b =
    let d = slice_eq-Decides bytes_eq-Decides (chunks a) (chunks b) (pointwise bytes_eq (chunks a) (chunks b)) refl in
    let e = bytes_eq-Decides a b in
    same_from_decides (pointwise bytes_eq (chunks a) (chunks b)) (bytes_eq a b) d ((λ h. ap chunks (e.0 h)), (λ h. e.1 (sym (join_with_byte-slice_split 47 a) ∙ (ap (join_with_byte 47) h ∙ join_with_byte-slice_split 47 b))))

pub plain-all : (a : List ℕ) → is_plain a ≡ true → list_all is_plain_chunk (chunks a) ≡ true
unfolding is_plain
plain-all a h = (and_parts (is_key a) (list_all is_plain_chunk (chunks a)) h).1

pub includes-plain : (a b : List ℕ) → is_plain a ≡ true → is_plain b ≡ true → includes a b ≡ bytes_eq a b
unfolding includes
includes-plain a b h k =
    plain-covers is_stars is_verbatim chunk_covers (chunks a) (chunks b) (plain-none (chunks a) (plain-all a h)) (plain-none (chunks b) (plain-all b k))
    ∙ (plain-pointwise chunk_covers plain-chunk_covers (chunks a) (chunks b) (plain-all a h) (plain-all b k) ∙ chunks-same a b)

pub intersects-plain : (a b : List ℕ) → is_plain a ≡ true → is_plain b ≡ true → intersects a b ≡ bytes_eq a b
unfolding intersects
intersects-plain a b h k =
    meets-covers is_stars is_verbatim chunk_meets (chunks a) (chunks b) (plain-none (chunks b) (plain-all b k))
    ∙ (plain-covers is_stars is_verbatim chunk_meets (chunks a) (chunks b) (plain-none (chunks a) (plain-all a h)) (plain-none (chunks b) (plain-all b k))
    ∙ (plain-pointwise chunk_meets plain-chunk_meets (chunks a) (chunks b) (plain-all a h) (plain-all b k) ∙ chunks-same a b))
