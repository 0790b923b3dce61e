-- A plain prefix in front of texts changes neither how they relate, nor their order, nor whether they are keys.
use Rattle.std.proofs.Common.{◌≡◌, ℕ, ◌<◌, ◌==◌, length, Bool, true, false, cond, List, [], ◌∷◌, ◌++◌, Some, None, Result, Ok, Err, IfOk, refl, sym, ap, ◌∙◌, arith}
use Rattle.std.specs.List.{slice_split, onto_first, join_with_byte, list_all}
use Rattle.std.specs.Option.{option_map}
use Rattle.std.specs.Str.{bytes_eq}
use Rattle.std.specs.Ordering.{nat_cmp}
use Rattle.std.specs.Cmp.Lexicographic.{slice_cmp}
use Rattle.std.specs.declared.cmp.Ordering.TheVariants.{Equal}
use Rattle.std.proofs.lemmas.Bool.{and_parts}
use Rattle.std.proofs.lemmas.Bool.Decides.{Decides-eqb, nat_tests}
use Rattle.std.proofs.lemmas.Slice.Eq.{bytes_eq-Decides}
use Rattle.std.proofs.lemmas.List.Splits.{join_with_byte-slice_split, length-slice_split}
use Rattle.zq_key.specs.Match.{covers_by, meets_by}
use Rattle.zq_key.specs.Key.{chunks, is_stars, is_verbatim, chunk_meets, chunk_covers, is_chunk, neighbours_fit, is_key, is_plain, is_plain_chunk, intersects, includes}
use Rattle.zq_key.specs.Space.{strip, strip_chunks, prefixed, behind}
use Rattle.zq_key.proofs.Plain.{chunk_facts, plain-stars, plain-chunk_meets, plain-chunk_covers, plain-all}

onto-append : (x : ℕ) (p q : List (List ℕ)) (first : List ℕ) → onto_first x ((first ∷ p) ++ q) ≡ onto_first x (first ∷ p) ++ q
onto-append x p q first = refl

-- the parts of two texts with a separator between them
split-append : (p : ℕ → Bool) (xs : List ℕ) (y : ℕ) (ys : List ℕ) → p y ≡ true → slice_split p (xs ++ y ∷ ys) ≡ slice_split p xs ++ slice_split p ys
split-append p [] y ys h = rw h refl
split-append p (x ∷ xs) y ys h = at (p x) (slice_split p xs) (split-append p xs y ys h) (more xs)
  where
    more : (zs : List ℕ) → (first : List ℕ) × (rest : List (List ℕ)) × (slice_split p zs ≡ (first ∷ rest))
    more [] = ([], [], refl)
    more (z ∷ zs) = step (p z) (more zs)
      where
        step : (b : Bool) → ((first : List ℕ) × (rest : List (List ℕ)) × (slice_split p zs ≡ (first ∷ rest))) → (first : List ℕ) × (rest : List (List ℕ)) × (cond b ([] ∷ slice_split p zs) (onto_first z (slice_split p zs)) ≡ (first ∷ rest))
        step true k = ([], slice_split p zs, refl)
        step false (first, rest, k) = (z ∷ first, rest, rw k refl)

    at : (b : Bool) (front : List (List ℕ)) → slice_split p (xs ++ y ∷ ys) ≡ front ++ slice_split p ys → ((first : List ℕ) × (rest : List (List ℕ)) × (front ≡ (first ∷ rest))) → cond b ([] ∷ slice_split p (xs ++ y ∷ ys)) (onto_first x (slice_split p (xs ++ y ∷ ys))) ≡ cond b ([] ∷ front) (onto_first x front) ++ slice_split p ys
    at true front ih k = rw ih refl
    at false front ih (first, rest, k) = rw (ih, k) refl

pub chunks-behind : (n k : List ℕ) → chunks (behind n k) ≡ chunks n ++ chunks k
chunks-behind n k = split-append (λ c. c == 47) n 47 k refl

-- a list of parts that aren't wild and agree with themselves, in front of both lists
meets-behind : {A : Type 0} (w f : A → Bool) (e : A → A → Bool) (p : A → Bool) (tame : (x : A) → p x ≡ true → w x ≡ false) (same : (x : A) → p x ≡ true → e x x ≡ true) (n a b : List A) → list_all p n ≡ true → meets_by w f e (n ++ a) (n ++ b) ≡ meets_by w f e a b
unfolding meets_by
meets-behind w f e p tame same [] a b h = refl
meets-behind w f e p tame same (x ∷ n) a b h =
    let k = and_parts (p x) (list_all p n) h in
    rw (tame x k.0, same x k.0, meets-behind w f e p tame same n a b k.1) refl

covers-behind : {A : Type 0} (w f : A → Bool) (e : A → A → Bool) (p : A → Bool) (tame : (x : A) → p x ≡ true → w x ≡ false) (same : (x : A) → p x ≡ true → e x x ≡ true) (n a b : List A) → list_all p n ≡ true → covers_by w f e (n ++ a) (n ++ b) ≡ covers_by w f e a b
unfolding covers_by
covers-behind w f e p tame same [] a b h = refl
covers-behind w f e p tame same (x ∷ n) a b h =
    let k = and_parts (p x) (list_all p n) h in
    rw (tame x k.0, same x k.0, covers-behind w f e p tame same n a b k.1) refl

tame : (x : List ℕ) → is_plain_chunk x ≡ true → is_stars x ≡ false
tame x h = plain-stars x ((chunk_facts x h).1)

meets_itself : (x : List ℕ) → is_plain_chunk x ≡ true → chunk_meets x x ≡ true
meets_itself x h = plain-chunk_meets x x h h ∙ (bytes_eq-Decides x x).1 refl

covers_itself : (x : List ℕ) → is_plain_chunk x ≡ true → chunk_covers x x ≡ true
covers_itself x h = plain-chunk_covers x x h h ∙ (bytes_eq-Decides x x).1 refl

pub intersects-behind : (n a b : List ℕ) → is_plain n ≡ true → intersects (behind n a) (behind n b) ≡ intersects a b
unfolding intersects
intersects-behind n a b h = rw (chunks-behind n a, chunks-behind n b) (meets-behind is_stars is_verbatim chunk_meets is_plain_chunk tame meets_itself (chunks n) (chunks a) (chunks b) (plain-all n h))

pub includes-behind : (n a b : List ℕ) → is_plain n ≡ true → includes (behind n a) (behind n b) ≡ includes a b
unfolding includes
includes-behind n a b h = rw (chunks-behind n a, chunks-behind n b) (covers-behind is_stars is_verbatim chunk_covers is_plain_chunk tame covers_itself (chunks n) (chunks a) (chunks b) (plain-all n h))

nat_cmp-self : (x : ℕ) → nat_cmp x x ≡ Equal
nat_cmp-self x = grind (arith, nat_tests)

cmp-append : (n a b : List ℕ) → slice_cmp nat_cmp (n ++ a) (n ++ b) ≡ slice_cmp nat_cmp a b
cmp-append [] a b = refl
cmp-append (x ∷ n) a b = rw (nat_cmp-self x) (cmp-append n a b)

-- the order of texts; no premise on n
pub order-behind : (n a b : List ℕ) → slice_cmp nat_cmp (behind n a) (behind n b) ≡ slice_cmp nat_cmp a b
order-behind n a b = cmp-append n (47 ∷ a) (47 ∷ b)

eq-append : (n a b : List ℕ) → bytes_eq (n ++ a) (n ++ b) ≡ bytes_eq a b
eq-append [] a b = refl
eq-append (x ∷ n) a b = rw ((Decides-eqb x x).1 refl) (eq-append n a b)

pub same-behind : (n a b : List ℕ) → bytes_eq (behind n a) (behind n b) ≡ bytes_eq a b
same-behind n a b = eq-append n (47 ∷ a) (47 ∷ b)

all-append : {A : Type 0} (p : A → Bool) (n a : List A) → list_all p n ≡ true → list_all p (n ++ a) ≡ list_all p a
all-append p [] a h = refl
all-append p (x ∷ n) a h = let k = and_parts (p x) (list_all p n) h in rw (k.0, all-append p n a k.1) refl

neighbours-append : (n a : List (List ℕ)) → list_all is_plain_chunk n ≡ true → neighbours_fit (n ++ a) ≡ neighbours_fit a
neighbours-append [] a h = refl
neighbours-append (x ∷ []) [] h = refl
neighbours-append (x ∷ []) (y ∷ a) h = let k = and_parts (is_plain_chunk x) true h in rw (tame x k.0) refl
neighbours-append (x ∷ z ∷ n) a h = let k = and_parts (is_plain_chunk x) (list_all is_plain_chunk (z ∷ n)) h in rw (tame x k.0, neighbours-append (z ∷ n) a k.1) refl

plain-key : (n : List ℕ) → is_plain n ≡ true → is_key n ≡ true
unfolding is_plain
plain-key n h = (and_parts (is_key n) (list_all is_plain_chunk (chunks n)) h).0

pub key-chunks : (n : List ℕ) → is_key n ≡ true → list_all is_chunk (chunks n) ≡ true
unfolding is_key
key-chunks n h = (and_parts (list_all is_chunk (chunks n)) (neighbours_fit (chunks n)) h).0

pub key-behind : (n k : List ℕ) → is_plain n ≡ true → is_key (behind n k) ≡ is_key k
unfolding is_key
key-behind n k h = rw (chunks-behind n k, all-append is_chunk (chunks n) (chunks k) (key-chunks n (plain-key n h)), neighbours-append (chunks n) (chunks k) (plain-all n h)) refl

pub plain-behind : (n k : List ℕ) → is_plain n ≡ true → is_plain (behind n k) ≡ is_plain k
unfolding is_plain
plain-behind n k h = rw (key-behind n k h, chunks-behind n k, all-append is_plain_chunk (chunks n) (chunks k) (plain-all n h)) refl

strip-append : (n : List (List ℕ)) (y : List ℕ) (k : List (List ℕ)) → list_all is_plain_chunk n ≡ true → strip_chunks n (n ++ y ∷ k) ≡ Some (y ∷ k)
strip-append [] y k h = refl
strip-append (x ∷ n) y k h =
    let p = and_parts (is_plain_chunk x) (list_all is_plain_chunk n) h in
    rw (tame x p.0, meets_itself x p.0) (strip-append n y k p.1)

-- a text has a chunk
pub some_chunk : (t : List ℕ) → chunks t ≡ [] → ⊥
some_chunk t e = let j = length-slice_split (λ c. c == 47) t in omega (arith, rw e at j)

-- what is left of a text behind a prefix is the text
pub strip-behind : (n k : List ℕ) → is_plain n ≡ true → strip n (behind n k) ≡ Some k
unfolding strip
strip-behind n k h = rw (chunks-behind n k) (at (chunks k) refl)
  where
    at : (c : List (List ℕ)) → chunks k ≡ c → option_map (join_with_byte 47) (strip_chunks (chunks n) (chunks n ++ c)) ≡ Some k
    at [] e = absurd (some_chunk k e)
    at (y ∷ c) e = ap (option_map (join_with_byte 47)) (strip-append (chunks n) y c (plain-all n h)) ∙ ap Some (ap (join_with_byte 47) (sym e) ∙ join_with_byte-slice_split 47 k)

-- a text that isn't empty comes back
pub strip-prefixed : (n k : List ℕ) → is_plain n ≡ true → 0 < length k → strip n (prefixed n k) ≡ Some k
strip-prefixed n [] h l = absurd (omega (arith, l))
strip-prefixed n (c ∷ k) h l = strip-behind n (c ∷ k) h

pub back_again : {E : Type 0} (n k : List ℕ) (r : Result (List ℕ) E) → IfOk r (λ t. t ≡ prefixed n k) → is_plain n ≡ true → 0 < length k → IfOk r (λ t. strip n t ≡ Some k)
back_again n k (Ok t) h p l = rw h (strip-prefixed n k p l)
back_again n k (Err e) h p l = tt

strip-over : (n : List (List ℕ)) → list_all is_plain_chunk n ≡ true → strip_chunks n n ≡ None
strip-over [] h = refl
strip-over (x ∷ n) h =
    let p = and_parts (is_plain_chunk x) (list_all is_plain_chunk n) h in
    rw (tame x p.0, meets_itself x p.0) (strip-over n p.1)

-- nothing is left of the prefix itself
pub strip-itself : (n : List ℕ) → is_plain n ≡ true → strip n n ≡ None
unfolding strip
strip-itself n h = rw (strip-over (chunks n) (plain-all n h)) refl
