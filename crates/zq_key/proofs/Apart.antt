-- Texts whose first bytes show that they don't meet.
use Rattle.std.proofs.Common.{◌≡◌, ◌≢◌, ℕ, ◌+◌, ◌<◌, Bool, true, false, not, ◌&&◌, ◌||◌, cond, eqb, List, [], ◌∷◌, ◌++◌, length, take, drop, get_or, sym, subst, ap, ◌∙◌, refl, arith, inl, inr, Some}
use Rattle.std.specs.List.{onto_first}
use Rattle.std.specs.Str.{bytes_eq}
use Rattle.std.proofs.lemmas.Bool.{false≢true, false_from_ne_true, and_parts, or_parts, not-true}
use Rattle.std.proofs.lemmas.Bool.Decides.{nat_tests}
use Rattle.std.proofs.lemmas.Slice.Eq.{bytes_eq-Decides}
use Rattle.std.proofs.lemmas.List.{take_more, drop_more, take_all, take-append-drop, append_assoc, append-nil}
use Rattle.zq_key.specs.Match.{meets_by}
use Rattle.zq_key.specs.Key.{chunks, parts, parts_meet, is_verbatim, is_star, is_stars, chunk_meets, intersects}
use Rattle.zq_key.specs.Apart.{is_wild, is_apart, differs, chunks_meet, Misses}

three_parts : (a b c : Bool) → (a && b && c) ≡ true → (a ≡ true) × (b ≡ true) × (c ≡ true)
three_parts a b c h = let outer = and_parts (a && b) c h in let inner = and_parts a b outer.0 in (inner.0, inner.1, outer.1)

-- a text that begins like one that is apart is apart
pub is_apart-longer : (t rest u : List ℕ) → is_apart t u ≡ true → is_apart (t ++ rest) u ≡ true
is_apart-longer [] rest u h = absurd (false≢true h)
is_apart-longer (x ∷ t) rest [] h = h
is_apart-longer (x ∷ t) rest (y ∷ u) h = by (is_wild x) (is_wild y) (eqb x y) h (is_apart-longer t rest u)
  where
    by : (a b e : Bool) → (not a && not b && (not e || is_apart t u)) ≡ true → (is_apart t u ≡ true → is_apart (t ++ rest) u ≡ true) → (not a && not b && (not e || is_apart (t ++ rest) u)) ≡ true
    by true b e h later = absurd (false≢true h)
    by false true e h later = absurd (false≢true h)
    by false false true h later = later h
    by false false false h later = refl

-- ---- chunks

parts-tame : (x : ℕ) (h : List ℕ) → is_wild x ≡ false → parts (x ∷ h) ≡ Some x ∷ parts h
parts-tame x [] w = refl
parts-tame x (d ∷ h) w = let q = or_parts (eqb x 42) (eqb x 36) w in rw q.1 refl

parts_miss : (h g : List ℕ) → differs h g ≡ true → parts_meet (parts h) (parts g) ≡ false
unfolding meets_by
parts_miss [] [] d = absurd (false≢true d)
parts_miss [] (y ∷ g) d = rw (parts-tame y g (not-true (is_wild y) d)) refl
parts_miss (x ∷ h) [] d = rw (parts-tame x h (not-true (is_wild x) d)) refl
parts_miss (x ∷ h) (y ∷ g) d =
    let facts = three_parts (not (is_wild x)) (not (is_wild y)) (not (eqb x y) || differs h g) d in
    rw (parts-tame x h (not-true (is_wild x) facts.0), parts-tame y g (not-true (is_wild y) facts.1)) (by (eqb x y) facts.2 (parts_miss h g))
  where
    by : (e : Bool) → (not e || differs h g) ≡ true → (differs h g ≡ true → parts_meet (parts h) (parts g) ≡ false) → (e && parts_meet (parts h) (parts g)) ≡ false
    by true k later = later k
    by false k later = refl

not_itself : (h : List ℕ) → differs h h ≡ true → ⊥
not_itself [] d = false≢true d
not_itself (x ∷ h) d =
    let facts = three_parts (not (is_wild x)) (not (is_wild x)) (not (eqb x x) || differs h h) d in
    let same : eqb x x ≡ true = grind (arith, nat_tests) in
    not_itself h (rw same at facts.2)

no_star_left : (r g : List ℕ) → differs (42 ∷ r) g ≡ true → ⊥
no_star_left r [] d = false≢true d
no_star_left r (y ∷ g) d = false≢true d

no_star_right : (h r : List ℕ) → differs h (42 ∷ r) ≡ true → ⊥
no_star_right [] r d = false≢true d
no_star_right (x ∷ h) r d = let facts = three_parts (not (is_wild x)) false (not (eqb x 42) || differs h r) d in false≢true facts.1

begins_left : (h g c : List ℕ) → differs h g ≡ true → bytes_eq h (42 ∷ c) ≡ false
begins_left h g c d = false_from_ne_true (bytes_eq h (42 ∷ c)) (λ k. let e = (bytes_eq-Decides h (42 ∷ c)).0 k in no_star_left c g (rw e at d))

begins_right : (h g c : List ℕ) → differs h g ≡ true → bytes_eq g (42 ∷ c) ≡ false
begins_right h g c d = false_from_ne_true (bytes_eq g (42 ∷ c)) (λ k. let e = (bytes_eq-Decides g (42 ∷ c)).0 k in no_star_right h c (rw e at d))

chunk_miss : (h g : List ℕ) → differs h g ≡ true → chunk_meets h g ≡ false
unfolding chunk_meets
chunk_miss h g d = by (is_verbatim h || is_verbatim g)
  where
    by : (v : Bool) → cond v (bytes_eq h g) (is_star h || is_star g || parts_meet (parts h) (parts g)) ≡ false
    by true = false_from_ne_true (bytes_eq h g) (λ k. let e = (bytes_eq-Decides h g).0 k in not_itself g (rw e at d))
    by false = rw (begins_left h g [] d, begins_right h g [] d) (parts_miss h g d)

-- ---- lists of chunks

both_false : (a b : Bool) → b ≡ false → (a && b) ≡ false
both_false true b e = e
both_false false b e = refl

-- lists of which this holds don't meet
pub misses_meet : (hs gs : List (List ℕ)) → Misses hs gs → chunks_meet hs gs ≡ false
unfolding meets_by
misses_meet [] gs m = absurd m
misses_meet (h ∷ hs) [] m = rw m refl
misses_meet (h ∷ hs) (g ∷ gs) (inl d) = rw (begins_left h g (42 ∷ []) d, begins_right h g (42 ∷ []) d, chunk_miss h g d) refl
misses_meet (h ∷ hs) (g ∷ gs) (inr (open_h, open_g, later)) = rw (open_h, open_g) (both_false (chunk_meets h g) (chunks_meet hs gs) later)

-- a chunk that begins otherwise than with `*` is not `**`
pub not_stars : (x : ℕ) (h : List ℕ) → eqb x 42 ≡ false → is_stars (x ∷ h) ≡ false
not_stars x h e = rw e refl

pub Misses-onto : (x : ℕ) (ps : List (List ℕ)) (g : List ℕ) (gs : List (List ℕ)) → is_wild x ≡ false → Misses ps (g ∷ gs) → Misses (onto_first x ps) ((x ∷ g) ∷ gs)
Misses-onto x [] g gs w m = absurd m
Misses-onto x (h ∷ hs) g gs w (inl d) = let same : eqb x x ≡ true = grind (arith, nat_tests) in inl (rw (w, same) d)
Misses-onto x (h ∷ hs) g gs w (inr (open_h, open_g, later)) = let q = or_parts (eqb x 42) (eqb x 36) w in inr (not_stars x h q.0, not_stars x g q.0, later)

-- a text has a first chunk
abbrev pub HasFirst : List ℕ → Type 0
HasFirst t = (h : List ℕ) × (hs : List (List ℕ)) × (chunks t ≡ h ∷ hs)

pub has_first : (t : List ℕ) → HasFirst t
has_first [] = ([], [], refl)
has_first (x ∷ t) = by (eqb x 47) (has_first t)
  where
    by : (b : Bool) → HasFirst t → (h : List ℕ) × (hs : List (List ℕ)) × (cond b ([] ∷ chunks t) (onto_first x (chunks t)) ≡ h ∷ hs)
    by true first = ([], chunks t, refl)
    by false (h, hs, is) = (x ∷ h, hs, rw is refl)

pub apart_step : (x y : ℕ) (t u : List ℕ) (e a b : Bool) → eqb x y ≡ e → eqb x 47 ≡ a → eqb y 47 ≡ b → is_wild x ≡ false → is_wild y ≡ false
    → (not e || is_apart t u) ≡ true → (is_apart t u ≡ true → Misses (chunks t) (chunks u)) → HasFirst t → HasFirst u
    → Misses (cond a ([] ∷ chunks t) (onto_first x (chunks t))) (cond b ([] ∷ chunks u) (onto_first y (chunks u)))
apart_step x y t u true true true xy xa yb wx wy h later first second = inr (refl, refl, misses_meet (chunks t) (chunks u) (later h))
apart_step x y t u true true false xy xa yb wx wy h later first second = absurd (false≢true (sym yb ∙ grind (arith, nat_tests)))
apart_step x y t u true false true xy xa yb wx wy h later first second = absurd (false≢true (sym xa ∙ grind (arith, nat_tests)))
apart_step x y t u true false false xy xa yb wx wy h later first (g, gs, is) =
    let same : x ≡ y = grind (arith, nat_tests) in
    let M : ℕ → Type 0 = λ (z : ℕ). Misses (onto_first x (chunks t)) (onto_first z (chunks u)) in
    let missed : Misses (chunks t) (g ∷ gs) = subst (Misses (chunks t)) is (later h) in
    subst M same (subst (λ c. Misses (onto_first x (chunks t)) (onto_first x c)) (sym is) (Misses-onto x (chunks t) g gs wx missed))
apart_step x y t u false true true xy xa yb wx wy h later first second = absurd (false≢true (sym xy ∙ grind (arith, nat_tests)))
apart_step x y t u false true false xy xa yb wx wy h later first (g, gs, is) = rw is (inl (rw wy refl))
apart_step x y t u false false true xy xa yb wx wy h later (g, gs, is) second = rw is (inl (rw wx refl))
apart_step x y t u false false false xy xa yb wx wy h later (p, ps, is) (q, qs, qis) = rw (is, qis) (inl (rw (wx, wy, xy) refl))

pub apart_end : (x : ℕ) (t : List ℕ) (a : Bool) → eqb x 47 ≡ a → (not (is_wild x) && not a) ≡ true → HasFirst t → Misses (cond a ([] ∷ chunks t) (onto_first x (chunks t))) ([] ∷ [])
apart_end x t true e h first = let p = and_parts (not (is_wild x)) false h in absurd (false≢true p.1)
apart_end x t false e h (p, ps, is) = let parts = and_parts (not (is_wild x)) true h in rw is (inl parts.0)

pub misses : (t u : List ℕ) → is_apart t u ≡ true → Misses (chunks t) (chunks u)
misses [] u h = absurd (false≢true h)
misses (x ∷ t) [] h = apart_end x t (eqb x 47) refl h (has_first t)
misses (x ∷ t) (y ∷ u) h =
    let facts = three_parts (not (is_wild x)) (not (is_wild y)) (not (eqb x y) || is_apart t u) h in
    apart_step x y t u (eqb x y) (eqb x 47) (eqb y 47) refl refl refl (not-true (is_wild x) facts.0) (not-true (is_wild y) facts.1) facts.2 (misses t u) (has_first t) (has_first u)

-- texts that are apart don't meet
pub apart_misses : (t u : List ℕ) → is_apart t u ≡ true → intersects t u ≡ false
unfolding intersects
apart_misses t u h = misses_meet (chunks t) (chunks u) (misses t u h)

-- ---- as the code goes along

abbrev pub AgreesTo : List ℕ → List ℕ → ℕ → Type 0
AgreesTo t u k = (rest : List ℕ) → (more : List ℕ) → is_apart (take k t ++ rest) (take k u ++ more) ≡ is_apart rest more

pub AgreesTo-none : (t u : List ℕ) → AgreesTo t u 0
AgreesTo-none t u rest more = refl

pub AgreesTo-more : (t u : List ℕ) (k : ℕ) → k < length t → k < length u → is_wild (get_or t k 0) ≡ false → get_or t k 0 ≡ get_or u k 0 → AgreesTo t u k → AgreesTo t u (k + 1)
AgreesTo-more t u k in_t in_u tame same agrees rest more =
    let b = get_or t k 0 in
    let d = get_or u k 0 in
    let equal : eqb b d ≡ true = grind (arith, nat_tests) in
    let tame_d : is_wild d ≡ false = rw (← same) tame in
    rw (take_more t k 0 in_t, take_more u k 0 in_u, append_assoc (take k t) (b ∷ []) rest, append_assoc (take k u) (d ∷ []) more, agrees (b ∷ rest) (d ∷ more), tame, tame_d, equal) refl

-- at a byte that differs
pub apart_here : (t u : List ℕ) (k : ℕ) → k < length t → k < length u → is_wild (get_or t k 0) ≡ false → is_wild (get_or u k 0) ≡ false → get_or t k 0 ≢ get_or u k 0 → AgreesTo t u k → is_apart (take (k + 1) t) u ≡ true
apart_here t u k in_t in_u tame tame_u differ agrees =
    let b = get_or t k 0 in
    let d = get_or u k 0 in
    let apart : eqb b d ≡ false = grind (arith, nat_tests) in
    let whole : u ≡ take k u ++ d ∷ drop (k + 1) u = sym (take-append-drop k u) ∙ ap (λ (r : List ℕ). take k u ++ r) (drop_more u k 0 in_u) in
    ap (is_apart (take (k + 1) t)) whole ∙ rw (take_more t k 0 in_t, agrees (b ∷ []) (d ∷ drop (k + 1) u), tame, tame_u, apart) refl

-- where the second text has ended
pub apart_past : (t u : List ℕ) (k : ℕ) → k < length t → k ≡ length u → is_wild (get_or t k 0) ≡ false → get_or t k 0 ≢ 47 → AgreesTo t u k → is_apart (take (k + 1) t) u ≡ true
apart_past t u k in_t ended tame differ agrees =
    let b = get_or t k 0 in
    let apart : eqb b 47 ≡ false = grind (arith, nat_tests) in
    let whole : u ≡ take k u ++ [] = sym (append-nil (take k u) ∙ take_all k u (omega arith)) in
    ap (is_apart (take (k + 1) t)) whole ∙ rw (take_more t k 0 in_t, agrees (b ∷ []) [], tame, apart) refl
