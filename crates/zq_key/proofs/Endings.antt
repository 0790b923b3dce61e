-- Texts whose ends differ don't meet, and neither includes the other.
use Rattle.std.proofs.Common.{◌≡◌, ℕ, ◌≤◌, Bool, true, false, not, cond, eqb, is_none, ◌&&◌, ◌||◌, List, [], ◌∷◌, ◌++◌, take, reverse, get_or, Option, Some, None, ◌⊎◌, inl, inr, ◌==◌, refl, sym, ap, ◌∙◌, arith, append_assoc}
use Rattle.std.specs.List.{onto_first, list_all}
use Rattle.std.specs.Str.{bytes_eq}
use Rattle.std.proofs.Math.Bool.{and-false, or-false}
use Rattle.std.proofs.lemmas.Bool.{false≢true, and_parts, or_parts, not-true, false_from_ne_true}
use Rattle.std.proofs.lemmas.Bool.Decides.{Decides-eqb}
use Rattle.std.proofs.lemmas.Slice.Eq.{bytes_eq-Decides}
use Rattle.std.proofs.lemmas.List.{append-nil, append_cancel_right, reverse-append, reverse-reverse}
use Rattle.std.proofs.lemmas.List.Folds.{list_all-append}
use Rattle.std.proofs.lemmas.Grind.{reverse_onto}
use Rattle.zq_key.specs.Match.{meets_by}
use Rattle.zq_key.specs.Walk.{never}
use Rattle.zq_key.specs.Key.{chunks, parts, parts_meet, same_part, is_verbatim, is_star, is_stars, chunk_meets, chunk_covers}
use Rattle.zq_key.specs.Chunks.{trim, chunks_left, keys_relate}
use Rattle.zq_key.specs.Ends.{heads_differ, ends_differ}
use Rattle.zq_key.specs.declared.key.Relation.{Relation}
use Rattle.zq_key.specs.declared.key.Relation.TheVariants.{Meets, Covers}
use Rattle.zq_key.proofs.Lawful.{covers-meets, chunk_covers-self, chunk_covers-meets}
use Rattle.zq_key.proofs.Chunks.{split-more}
use Rattle.zq_key.proofs.Behind.{chunks-behind}
use Rattle.zq_key.proofs.Spelling.{somes}

-- ---- lists whose last parts are not wild

both_false : (a b : Bool) → b ≡ false → (a && b) ≡ false
both_false true b h = h
both_false false b h = refl

nothing_meets : {A : Type 0} (w f : A → Bool) (e : A → A → Bool) (ys : List A) (y : A) → w y ≡ false → meets_by w f e [] (ys ++ y ∷ []) ≡ false
unfolding meets_by
nothing_meets w f e [] y wy = rw wy refl
nothing_meets w f e (z ∷ ys) y wy = both_false (w z) (meets_by w f e [] (ys ++ y ∷ [])) (nothing_meets w f e ys y wy)

meets_nothing : {A : Type 0} (w f : A → Bool) (e : A → A → Bool) (xs : List A) (x : A) → w x ≡ false → meets_by w f e (xs ++ x ∷ []) [] ≡ false
unfolding meets_by
meets_nothing w f e [] x wx = rw wx refl
meets_nothing w f e (z ∷ xs) x wx = both_false (w z) (meets_by w f e (xs ++ x ∷ []) []) (meets_nothing w f e xs x wx)

only_one : (v m e E C : Bool) → cond v ((E && C) || (m && (v && false))) (e && false) ≡ (E && (v && C))
only_one true m e E C = rw (and-false m) (or-false (E && C))
only_one false m e E C = rw (and-false e, and-false E) refl

both_go : (u v n m e E A B C : Bool) → cond u ((E && A) || (n && (E && B))) (cond v ((E && B) || (m && (E && A))) (e && (E && C))) ≡ (E && cond u (A || (n && B)) (cond v (B || (m && A)) (e && C)))
both_go u v n m e true A B C = refl
both_go true v n m e false A B C = and-false n
both_go false true n m e false A B C = and-false m
both_go false false n m e false A B C = and-false e

-- lists that end in parts that are not wild meet where these agree and what is before them meets
pub meets-ends : {A : Type 0} (w f : A → Bool) (e : A → A → Bool) (xs ys : List A) (x y : A) → w x ≡ false → w y ≡ false → meets_by w f e (xs ++ x ∷ []) (ys ++ y ∷ []) ≡ (e x y && meets_by w f e xs ys)
unfolding meets_by
meets-ends w f e [] [] x y wx wy = rw (wx, wy) refl
meets-ends w f e [] (v ∷ ys) x y wx wy =
    rw (wx, meets-ends w f e [] ys x y wx wy, nothing_meets w f e ys y wy) (only_one (w v) (not (f x)) (e x v) (e x y) (meets_by w f e [] ys))
meets-ends w f e (u ∷ xs) [] x y wx wy =
    rw (wy, meets-ends w f e xs [] x y wx wy, meets_nothing w f e xs x wx) (only_one (w u) (not (f y)) (e u y) (e x y) (meets_by w f e xs []))
meets-ends w f e (u ∷ xs) (v ∷ ys) x y wx wy =
    rw (meets-ends w f e xs (v ∷ ys) x y wx wy, meets-ends w f e (u ∷ xs) ys x y wx wy, meets-ends w f e xs ys x y wx wy)
    (both_go (w u) (w v) (not (f v)) (not (f u)) (e u v) (e x y) (meets_by w f e xs (v ∷ ys)) (meets_by w f e (u ∷ xs) ys) (meets_by w f e xs ys))

-- the same parts behind both lists change nothing, where these are not wild and agree with themselves
meets-same_end : {A : Type 0} (w f : A → Bool) (e : A → A → Bool) (p : A → Bool) (tame : (x : A) → p x ≡ true → w x ≡ false) (same : (x : A) → p x ≡ true → e x x ≡ true) (z a b : List A) → list_all p z ≡ true → meets_by w f e (a ++ z) (b ++ z) ≡ meets_by w f e a b
meets-same_end w f e p tame same [] a b h = rw (append-nil a, append-nil b) refl
meets-same_end w f e p tame same (x ∷ z) a b h =
    let k = and_parts (p x) (list_all p z) h in
    let more : meets_by w f e ((a ++ x ∷ []) ++ z) ((b ++ x ∷ []) ++ z) ≡ meets_by w f e (a ++ x ∷ []) (b ++ x ∷ []) = meets-same_end w f e p tame same z (a ++ x ∷ []) (b ++ x ∷ []) k.1 in
    let last : meets_by w f e (a ++ x ∷ []) (b ++ x ∷ []) ≡ (e x x && meets_by w f e a b) = meets-ends w f e a b x x (tame x k.0) (tame x k.0) in
    rw (append_assoc a (x ∷ []) z, append_assoc b (x ∷ []) z) at more ∙ (last ∙ (rw (same x k.0) refl))

-- ---- chunks

is_some_part : Option ℕ → Bool
is_some_part x = not (is_none x)

some_tame : (x : Option ℕ) → is_some_part x ≡ true → is_none x ≡ false
unfolding is_some_part
some_tame None h = absurd (false≢true h)
some_tame (Some c) h = refl

some_same : (x : Option ℕ) → is_some_part x ≡ true → same_part x x ≡ true
unfolding is_some_part
some_same None h = absurd (false≢true h)
some_same (Some c) h = (Decides-eqb c c).1 refl

somes_all : (s : List ℕ) → list_all is_some_part (somes s) ≡ true
unfolding is_some_part
somes_all [] = refl
somes_all (c ∷ s) = somes_all s

parts_meet-behind : (s : List ℕ) (a b : List (Option ℕ)) → parts_meet (a ++ somes s) (b ++ somes s) ≡ parts_meet a b
parts_meet-behind s a b = meets-same_end is_none never same_part is_some_part some_tame some_same (somes s) a b (somes_all s)

-- whether a byte is `*` or `/`
abbrev pub is_edge : ℕ → Bool
is_edge c = eqb c 42 || eqb c 47

abbrev pub is_inner : ℕ → Bool
is_inner c = not (is_edge c)

not_star : (c : ℕ) → is_inner c ≡ true → eqb c 42 ≡ false
not_star c h = (or_parts (eqb c 42) (eqb c 47) (not-true (is_edge c) h)).0

inner-parts : (t : List ℕ) → list_all is_inner t ≡ true → parts t ≡ somes t
inner-parts [] h = refl
inner-parts (c ∷ []) h = refl
inner-parts (c ∷ d ∷ t) h =
    let k = and_parts (is_inner c) (list_all is_inner (d ∷ t)) h in
    let l = and_parts (is_inner d) (list_all is_inner t) k.1 in
    rw (not_star d l.0, inner-parts (d ∷ t) k.1) (at (eqb c 36))
  where
    at : (b : Bool) → cond (b && false) (None ∷ parts t) (Some c ∷ somes (d ∷ t)) ≡ Some c ∷ somes (d ∷ t)
    at true = refl
    at false = refl

parts-behind : (h t : List ℕ) → list_all is_inner t ≡ true → parts (h ++ t) ≡ parts h ++ somes t
parts-behind [] t i = inner-parts t i
parts-behind (c ∷ []) [] i = refl
parts-behind (c ∷ []) (d ∷ t) i =
    let l = and_parts (is_inner d) (list_all is_inner t) i in
    rw (not_star d l.0, inner-parts (d ∷ t) i) (at (eqb c 36))
  where
    at : (b : Bool) → cond (b && false) (None ∷ parts t) (Some c ∷ somes (d ∷ t)) ≡ Some c ∷ somes (d ∷ t)
    at true = refl
    at false = refl
parts-behind (c ∷ d ∷ h) t i = rw (parts-behind (d ∷ h) t i, parts-behind h t i) (at (eqb c 36 && eqb d 42))
  where
    at : (b : Bool) → cond b (None ∷ (parts h ++ somes t)) (Some c ∷ (parts (d ∷ h) ++ somes t)) ≡ cond b (None ∷ parts h) (Some c ∷ parts (d ∷ h)) ++ somes t
    at true = refl
    at false = refl

parts-apart : (h g s : List ℕ) (x y : ℕ) → list_all is_inner s ≡ true → is_inner x ≡ true → is_inner y ≡ true → eqb x y ≡ false → parts_meet (parts (h ++ x ∷ s)) (parts (g ++ y ∷ s)) ≡ false
parts-apart h g s x y i ix iy xy =
    let same : parts_meet ((parts h ++ Some x ∷ []) ++ somes s) ((parts g ++ Some y ∷ []) ++ somes s) ≡ parts_meet (parts h ++ Some x ∷ []) (parts g ++ Some y ∷ []) = parts_meet-behind s (parts h ++ Some x ∷ []) (parts g ++ Some y ∷ []) in
    let last : parts_meet (parts h ++ Some x ∷ []) (parts g ++ Some y ∷ []) ≡ (eqb x y && parts_meet (parts h) (parts g)) = meets-ends is_none never same_part (parts h) (parts g) (Some x) (Some y) refl refl in
    let whole = rw (append_assoc (parts h) (Some x ∷ []) (somes s), append_assoc (parts g) (Some y ∷ []) (somes s)) at same in
    rw (parts-behind h (x ∷ s) (rw ix i), parts-behind g (y ∷ s) (rw iy i)) (whole ∙ (last ∙ (rw xy refl)))

-- a chunk with a byte other than `*` is no run of these
not_stars : (h s c : List ℕ) (x : ℕ) → is_inner x ≡ true → list_all (λ z. eqb z 42) c ≡ true → bytes_eq (h ++ x ∷ s) c ≡ false
not_stars h s c x ix stars = false_from_ne_true (bytes_eq (h ++ x ∷ s) c) (λ k. let e = (bytes_eq-Decides (h ++ x ∷ s) c).0 k in let all : list_all (λ z. eqb z 42) (h ++ x ∷ s) ≡ true = rw e stars in
    let parts = rw (list_all-append (λ z. eqb z 42) h (x ∷ s)) at all in
    let tail = (and_parts (list_all (λ z. eqb z 42) h) (list_all (λ z. eqb z 42) (x ∷ s)) parts).1 in
    let head = (and_parts (eqb x 42) (list_all (λ z. eqb z 42) s) tail).0 in
    false≢true (sym (not_star x ix) ∙ head))

-- texts with the same end differ before it
ends-same : (h g s : List ℕ) (x y : ℕ) → h ++ x ∷ s ≡ g ++ y ∷ s → x ≡ y
ends-same h g s x y e =
    let whole : (h ++ x ∷ []) ++ s ≡ (g ++ y ∷ []) ++ s = append_assoc h (x ∷ []) s ∙ e ∙ sym (append_assoc g (y ∷ []) s) in
    let short : h ++ x ∷ [] ≡ g ++ y ∷ [] = append_cancel_right (h ++ x ∷ []) (g ++ y ∷ []) s whole in
    let turned : x ∷ reverse h ≡ y ∷ reverse g = sym (reverse-append h (x ∷ [])) ∙ ap reverse short ∙ reverse-append g (y ∷ []) in
    ap (λ (l : List ℕ). get_or l 0 0) turned

chunk-apart : (h g s : List ℕ) (x y : ℕ) → list_all is_inner s ≡ true → is_inner x ≡ true → is_inner y ≡ true → eqb x y ≡ false → chunk_meets (h ++ x ∷ s) (g ++ y ∷ s) ≡ false
unfolding chunk_meets
chunk-apart h g s x y i ix iy xy = by (is_verbatim (h ++ x ∷ s) || is_verbatim (g ++ y ∷ s))
  where
    unlike : bytes_eq (h ++ x ∷ s) (g ++ y ∷ s) ≡ true → ⊥
    unlike k = false≢true (sym xy ∙ (Decides-eqb x y).1 (ends-same h g s x y ((bytes_eq-Decides (h ++ x ∷ s) (g ++ y ∷ s)).0 k)))

    by : (v : Bool) → cond v (bytes_eq (h ++ x ∷ s) (g ++ y ∷ s)) (is_star (h ++ x ∷ s) || is_star (g ++ y ∷ s) || parts_meet (parts (h ++ x ∷ s)) (parts (g ++ y ∷ s))) ≡ false
    by true = false_from_ne_true (bytes_eq (h ++ x ∷ s) (g ++ y ∷ s)) unlike
    by false = rw (not_stars h s (42 ∷ []) x ix refl, not_stars g s (42 ∷ []) y iy refl, parts-apart h g s x y i ix iy xy) refl

-- ---- keys

-- a text ends in what its last chunk ends in
abbrev pub HasLast : List ℕ → List ℕ → Type 0
HasLast p t = (cs : List (List ℕ)) × (h : List ℕ) × (chunks (p ++ t) ≡ cs ++ (h ++ t) ∷ [])

not_slash : (c : ℕ) → is_inner c ≡ true → eqb c 47 ≡ false
not_slash c h = (or_parts (eqb c 42) (eqb c 47) (not-true (is_edge c) h)).1

one-chunk : (t : List ℕ) → list_all is_inner t ≡ true → chunks t ≡ t ∷ []
one-chunk [] i = refl
one-chunk (c ∷ t) i = let k = and_parts (is_inner c) (list_all is_inner t) i in rw (not_slash c k.0, one-chunk t k.1) refl

has_last : (p t : List ℕ) → list_all is_inner t ≡ true → HasLast p t
has_last [] t i = ([], [], one-chunk t i)
has_last (c ∷ p) t i = at (eqb c 47) (has_last p t i)
  where
    at : (b : Bool) → HasLast p t → (cs : List (List ℕ)) × (h : List ℕ) × (cond b ([] ∷ chunks (p ++ t)) (onto_first c (chunks (p ++ t))) ≡ cs ++ (h ++ t) ∷ [])
    at true (cs, h, is) = ([] ∷ cs, h, rw is refl)
    at false ([], h, is) = ([], c ∷ h, rw is refl)
    at false (d ∷ cs, h, is) = ((c ∷ d) ∷ cs, h, rw is refl)

-- the last chunk alone may fall away
trim-front : (cs : List (List ℕ)) (d : List ℕ) (ds : List (List ℕ)) → trim (cs ++ d ∷ ds) ≡ cs ++ trim (d ∷ ds)
trim-front [] d ds = refl
trim-front ([] ∷ []) d ds = refl
trim-front ((c ∷ e) ∷ []) d ds = refl
trim-front ([] ∷ e ∷ cs) d ds = ap (λ r. [] ∷ r) (trim-front (e ∷ cs) d ds)
trim-front ((c ∷ f) ∷ e ∷ cs) d ds = ap (λ r. (c ∷ f) ∷ r) (trim-front (e ∷ cs) d ds)

trim-one : (h s : List ℕ) (x : ℕ) → trim ((h ++ x ∷ s) ∷ []) ≡ (h ++ x ∷ s) ∷ []
trim-one [] s x = refl
trim-one (c ∷ h) s x = refl

texts-apart : (p q s : List ℕ) (x y : ℕ) → list_all is_inner s ≡ true → is_inner x ≡ true → is_inner y ≡ true → eqb x y ≡ false → meets_by is_stars is_verbatim chunk_meets (chunks (p ++ x ∷ s)) (chunks (q ++ y ∷ s)) ≡ false
texts-apart p q s x y i ix iy xy = at (has_last p (x ∷ s) (rw ix i)) (has_last q (y ∷ s) (rw iy i))
  where
    at : HasLast p (x ∷ s) → HasLast q (y ∷ s) → meets_by is_stars is_verbatim chunk_meets (chunks (p ++ x ∷ s)) (chunks (q ++ y ∷ s)) ≡ false
    at (cs, h, is) (ds, g, js) =
        rw (is, js)
        (meets-ends is_stars is_verbatim chunk_meets cs ds (h ++ x ∷ s) (g ++ y ∷ s) (not_stars h s (42 ∷ 42 ∷ []) x ix refl) (not_stars g s (42 ∷ 42 ∷ []) y iy refl)
        ∙ (rw (chunk-apart h g s x y i ix iy xy) refl))

-- nothing falls away where the last chunk has a byte
left-whole : (p s : List ℕ) (x : ℕ) → list_all is_inner s ≡ true → is_inner x ≡ true → chunks_left (p ++ x ∷ s) ≡ chunks (p ++ x ∷ s)
unfolding chunks_left
left-whole p s x i ix = at (has_last p (x ∷ s) (rw ix i))
  where
    at : HasLast p (x ∷ s) → trim (chunks (p ++ x ∷ s)) ≡ chunks (p ++ x ∷ s)
    at (cs, h, is) = rw (is, trim-front cs (h ++ x ∷ s) [], trim-one h s x) refl

-- ---- behind a `/`

abbrev pub is_tame : ℕ → Bool
is_tame c = not (eqb c 42)

are_tame : List ℕ → Bool
are_tame z = list_all is_tame z

tame_chunk : (z : List ℕ) → are_tame z ≡ true → is_stars z ≡ false
unfolding are_tame
tame_chunk z h = false_from_ne_true (is_stars z) (λ k. let e = (bytes_eq-Decides z (42 ∷ 42 ∷ [])).0 k in false≢true (rw e at h))

tame_meets : (z : List ℕ) → are_tame z ≡ true → chunk_meets z z ≡ true
tame_meets z h = chunk_covers-meets z z (chunk_covers-self z (tame_chunk z h))

tame_chunks : (t : List ℕ) → list_all is_tame t ≡ true → list_all are_tame (chunks t) ≡ true
unfolding are_tame
tame_chunks [] h = refl
tame_chunks (c ∷ t) h =
    let k = and_parts (is_tame c) (list_all is_tame t) h in
    at (eqb c 47) k.0 (tame_chunks t k.1) (split-more (λ z. z == 47) t)
  where
    at : (b : Bool) → is_tame c ≡ true → list_all are_tame (chunks t) ≡ true → ((first : List ℕ) × (rest : List (List ℕ)) × (chunks t ≡ (first ∷ rest))) → list_all are_tame (cond b ([] ∷ chunks t) (onto_first c (chunks t))) ≡ true
    at true m ih more = ih
    at false m ih (first, rest, is) = rw (is, m) (rw is at ih)

tame_left : (l : List (List ℕ)) → list_all are_tame l ≡ true → list_all are_tame (trim l) ≡ true
unfolding are_tame
tame_left [] h = refl
tame_left ([] ∷ []) h = refl
tame_left ((c ∷ d) ∷ []) h = h
tame_left ([] ∷ e ∷ l) h = tame_left (e ∷ l) h
tame_left ((c ∷ d) ∷ e ∷ l) h = let k = and_parts (are_tame (c ∷ d)) (list_all are_tame (e ∷ l)) h in rw (k.0, tame_left (e ∷ l) k.1) refl

left-behind : (n k : List ℕ) → chunks_left (n ++ 47 ∷ k) ≡ chunks n ++ trim (chunks k)
unfolding chunks_left
left-behind n k = let s = split-more (λ z. z == 47) k in rw (chunks-behind n k, s.2) (trim-front (chunks n) s.0 s.1)

-- a text without `*` has no `/`, or a first one
abbrev pub Cut : List ℕ → Type 0
Cut s = (list_all is_inner s ≡ true) ⊎ ((t : List ℕ) × (k : List ℕ) × (s ≡ t ++ 47 ∷ k) × (list_all is_inner t ≡ true) × (list_all is_tame k ≡ true))

cut : (s : List ℕ) → list_all is_tame s ≡ true → Cut s
cut [] h = inl refl
cut (c ∷ s) h = let k = and_parts (is_tame c) (list_all is_tame s) h in at (eqb c 47) refl (not-true (eqb c 42) k.0) k.1 (cut s k.1)
  where
    at : (b : Bool) → eqb c 47 ≡ b → eqb c 42 ≡ false → list_all is_tame s ≡ true → Cut s → Cut (c ∷ s)
    at true e m tame rest = inr ([], s, ap (λ z. z ∷ s) ((Decides-eqb c 47).0 e), refl, tame)
    at false e m tame (inl i) = inl (rw (m, e) i)
    at false e m tame (inr (t, k, is, i, l)) = inr (c ∷ t, k, ap (λ z. c ∷ z) is, rw (m, e) i, l)

left-apart : (p q s : List ℕ) (x y : ℕ) → list_all is_tame s ≡ true → is_inner x ≡ true → is_inner y ≡ true → eqb x y ≡ false → meets_by is_stars is_verbatim chunk_meets (chunks_left (p ++ x ∷ s)) (chunks_left (q ++ y ∷ s)) ≡ false
left-apart p q s x y tame ix iy xy = at (cut s tame)
  where
    at : Cut s → meets_by is_stars is_verbatim chunk_meets (chunks_left (p ++ x ∷ s)) (chunks_left (q ++ y ∷ s)) ≡ false
    at (inl i) = rw (left-whole p s x i ix, left-whole q s y i iy) (texts-apart p q s x y i ix iy xy)
    at (inr (t, k, is, i, l)) =
        let z = trim (chunks k) in
        let first : chunks_left (p ++ x ∷ s) ≡ chunks (p ++ x ∷ t) ++ z = ap (λ r. chunks_left (p ++ x ∷ r)) is ∙ ap chunks_left (sym (append_assoc p (x ∷ t) (47 ∷ k))) ∙ left-behind (p ++ x ∷ t) k in
        let second : chunks_left (q ++ y ∷ s) ≡ chunks (q ++ y ∷ t) ++ z = ap (λ r. chunks_left (q ++ y ∷ r)) is ∙ ap chunks_left (sym (append_assoc q (y ∷ t) (47 ∷ k))) ∙ left-behind (q ++ y ∷ t) k in
        rw (first, second)
        (meets-same_end is_stars is_verbatim chunk_meets are_tame tame_chunk tame_meets z (chunks (p ++ x ∷ t)) (chunks (q ++ y ∷ t)) (tame_left (chunks k) (tame_chunks k l))
        ∙ texts-apart p q t x y i ix iy xy)

-- ---- texts that are read from their ends

three_parts : (a b c : Bool) → (a && b && c) ≡ true → (a ≡ true) × (b ≡ true) × (c ≡ true)
three_parts a b c h = let outer = and_parts (a && b) c h in let inner = and_parts a b outer.0 in (inner.0, inner.1, outer.1)

turned : (t s : List ℕ) (x : ℕ) → reverse (x ∷ t) ++ s ≡ reverse t ++ x ∷ s
turned t s x = rw (reverse_onto t x []) (append_assoc (reverse t) (x ∷ []) s)

inner : (c : ℕ) → is_tame c ≡ true → not (eqb c 47) ≡ true → is_inner c ≡ true
inner c h k = rw (not-true (eqb c 42) h, not-true (eqb c 47) k) refl

heads-apart : (t u s : List ℕ) → list_all is_tame s ≡ true → heads_differ t u ≡ true → meets_by is_stars is_verbatim chunk_meets (chunks_left (reverse t ++ s)) (chunks_left (reverse u ++ s)) ≡ false
heads-apart [] u s i d = absurd (false≢true d)
heads-apart (x ∷ t) [] s i d = absurd (false≢true d)
heads-apart (x ∷ t) (y ∷ u) s i d =
    let facts = three_parts (is_tame x) (is_tame y) (cond (eqb x y) (heads_differ t u) (not (eqb x 47) && not (eqb y 47))) d in
    rw (turned t s x, turned u s y) (by (eqb x y) refl facts.0 facts.1 facts.2 (heads-apart t u (x ∷ s)))
  where
    Apart : ℕ → Type 0
    Apart z = meets_by is_stars is_verbatim chunk_meets (chunks_left (reverse t ++ x ∷ s)) (chunks_left (reverse u ++ z ∷ s)) ≡ false

    by : (e : Bool) → eqb x y ≡ e → is_tame x ≡ true → is_tame y ≡ true → cond e (heads_differ t u) (not (eqb x 47) && not (eqb y 47)) ≡ true → (list_all is_tame (x ∷ s) ≡ true → heads_differ t u ≡ true → Apart x) → Apart y
    by true k ix iy later ih = let same : x ≡ y = (Decides-eqb x y).0 k in rw (← same) (ih (rw ix i) later)
    by false k ix iy later ih = let l = and_parts (not (eqb x 47)) (not (eqb y 47)) later in left-apart (reverse t) (reverse u) s x y i (inner x ix l.0) (inner y iy l.1) k

ends-meet : (a b : List ℕ) → ends_differ a b ≡ true → meets_by is_stars is_verbatim chunk_meets (chunks_left a) (chunks_left b) ≡ false
ends-meet a b d = rw (append-nil (reverse (reverse a)), append-nil (reverse (reverse b)), reverse-reverse a, reverse-reverse b) at (heads-apart (reverse a) (reverse b) [] refl d)

-- texts whose ends differ are in neither relation
pub ends-apart : (r : Relation) (a b : List ℕ) → ends_differ a b ≡ true → keys_relate r (chunks_left a) (chunks_left b) ≡ false
unfolding keys_relate
ends-apart Meets a b d = ends-meet a b d
ends-apart Covers a b d = false_from_ne_true _ (λ k. false≢true (sym (ends-meet a b d) ∙ covers-meets is_stars is_verbatim chunk_covers chunk_meets chunk_covers-meets (chunks_left a) (chunks_left b) k))

pub ruleset apart = (ends-apart)

-- ---- as the code goes back

-- the second text is at its start
pub at-start : (t u : List ℕ) (j : ℕ) → j ≤ 0 → heads_differ t (reverse (take j u)) ≡ false
at-start [] u j l = refl
at-start (x ∷ t) u j l = let none : j ≡ 0 = omega (arith, l) in rw none refl

pub ruleset steps = (at-start)
