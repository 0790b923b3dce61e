-- The definitions say the same of a text's bytes and of its characters.
use Rattle.std.proofs.Common.{◌≡◌, ℕ, ◌<◌, ◌≤◌, ◌==◌, Bool, true, false, not, cond, ◌&&◌, ◌||◌, List, [], ◌∷◌, ◌++◌, map, Option, Some, None, ◌⊎◌, inl, inr, refl, sym, ap, ◌∙◌, arith}
use Rattle.std.specs.List.{list_all, onto_first}
use Rattle.std.specs.Str.{bytes_eq, chars, IsUtf8}
use Rattle.std.proofs.lemmas.Bool.{cases_lt, ne_eqb, eqb-true, and_parts}
use Rattle.std.proofs.lemmas.Bool.Decides.{same_from_decides, nat_tests}
use Rattle.std.proofs.lemmas.Slice.Eq.{bytes_eq-Decides}
use Rattle.std.proofs.lemmas.Str.{encode_ascii, encodes_same, encodes-chars}
use lib.Utf8.{encode, encodes}
use Rattle.zq_key.specs.Match.{covers_by, meets_by}
use Rattle.zq_key.specs.Key.{chunks, parts, is_verbatim, is_star, is_stars, chunk_meets, chunk_covers, part_fits, runs_apart, is_chunk, neighbours_fit, is_key, intersects, includes}
use Rattle.zq_key.proofs.Spelling.{is_next, somes, spell}
use Rattle.zq_key.proofs.Spell.{Word, word}
use Rattle.zq_key.proofs.Checks.{intersects-related, includes-related}
use Rattle.zq_key.proofs.SpellMeets.{parts_meet-spell}
use Rattle.zq_key.proofs.SpellCovers.{parts_cover-spell}

-- no byte of c is the ASCII character d, unless c is
bytes_differ : (d : ℕ) → ℕ → Bool
bytes_differ d x = not (x == d)

abbrev HasNo : ℕ → List ℕ → Type 0
HasNo d u = list_all (λ x. not (x == d)) u ≡ true

next_high : (x : ℕ) → is_next x ≡ true → 128 ≤ x
next_high x h = grind (arith, nat_tests)

no_next : (d : ℕ) (u : List ℕ) → d < 128 → list_all is_next u ≡ true → HasNo d u
no_next d [] l h = refl
no_next d (x ∷ u) l h =
    let p = and_parts (is_next x) (list_all is_next u) h in
    rw (ne_eqb x d (λ e. omega (arith, next_high x p.0)), no_next d u l p.1) refl

encode_has_no : (d c : ℕ) → d < 128 → (c == d) ≡ false → HasNo d (encode c)
encode_has_no d c l h = let w = word c in rw w.is (at w (cases_lt c 128))
  where
    at : (w : Word c) → ((c < 128) ⊎ (128 ≤ c)) → HasNo d (w.lead ∷ w.rest)
    at w (inl m) = let k = w.low m in rw (k.0, k.1, h) refl
    at w (inr m) = rw (ne_eqb w.lead d (λ e. omega (arith, w.high m)), no_next d w.rest l w.rest_next) refl

-- chunks
abbrev onto_all : List ℕ → List (List ℕ) → List (List ℕ)
onto_all [] l = l
onto_all (x ∷ u) l = onto_first x (onto_all u l)

split-past : (u rest : List ℕ) → HasNo 47 u → chunks (u ++ rest) ≡ onto_all u (chunks rest)
split-past [] rest h = refl
split-past (x ∷ u) rest h =
    let p = and_parts (not (x == 47)) (list_all (λ y. not (y == 47)) u) h in
    let k : (x == 47) ≡ false = grind (arith, nat_tests) in
    rw (k, split-past u rest p.1) refl

split-more : (xs : List ℕ) → (first : List ℕ) × (rest : List (List ℕ)) × (chunks xs ≡ (first ∷ rest))
split-more [] = ([], [], refl)
split-more (x ∷ xs) = at (x == 47) (split-more xs)
  where
    at : (b : Bool) → ((first : List ℕ) × (rest : List (List ℕ)) × (chunks xs ≡ (first ∷ rest))) → (first : List ℕ) × (rest : List (List ℕ)) × (cond b ([] ∷ chunks xs) (onto_first x (chunks xs)) ≡ (first ∷ rest))
    at true k = ([], chunks xs, refl)
    at false (first, rest, k) = (x ∷ first, rest, rw k refl)

onto_all-cons : (u first : List ℕ) (rest : List (List ℕ)) → onto_all u (first ∷ rest) ≡ ((u ++ first) ∷ rest)
onto_all-cons [] first rest = refl
onto_all-cons (x ∷ u) first rest = rw (onto_all-cons u first rest) refl

pub chunks-encodes : (cs : List ℕ) → chunks (encodes cs) ≡ map encodes (chunks cs)
chunks-encodes [] = refl
chunks-encodes (c ∷ cs) = at (c == 47) refl (chunks-encodes cs)
  where
    at : (b : Bool) → (c == 47) ≡ b → chunks (encodes cs) ≡ map encodes (chunks cs) → chunks (encode c ++ encodes cs) ≡ map encodes (chunks (c ∷ cs))
    at true h ih =
        let e : c ≡ 47 = eqb-true c 47 h in
        let k : encode c ≡ (47 ∷ []) = rw e (encode_ascii 47 (omega arith)) in
        rw (k, h, ih) refl
    at false h ih =
        let s = split-more cs in
        let past = split-past (encode c) (encodes cs) (encode_has_no 47 c (omega arith) h) in
        past ∙ (rw (h, ih, s.2) (onto_all-cons (encode c) (encodes s.0) (map encodes s.1)))

-- parts
parts-other : (x : ℕ) (l : List ℕ) → (x == 36) ≡ false → parts (x ∷ l) ≡ (Some x ∷ parts l)
parts-other x [] h = refl
parts-other x (y ∷ l) h = rw h refl

parts-past : (u l : List ℕ) → HasNo 36 u → parts (u ++ l) ≡ (somes u ++ parts l)
parts-past [] l h = refl
parts-past (x ∷ u) l h =
    let p = and_parts (not (x == 36)) (list_all (λ y. not (y == 36)) u) h in
    let k : (x == 36) ≡ false = grind (arith, nat_tests) in
    parts-other x (u ++ l) k ∙ ap (λ t. Some x ∷ t) (parts-past u l p.1)

parts-dollar : (d : ℕ) (l : List ℕ) → (d == 42) ≡ false → parts (36 ∷ (encode d ++ l)) ≡ (Some 36 ∷ parts (encode d ++ l))
parts-dollar d l h = let w = word d in rw w.is (at w (cases_lt d 128))
  where
    at : (w : Word d) → ((d < 128) ⊎ (128 ≤ d)) → parts (36 ∷ w.lead ∷ (w.rest ++ l)) ≡ (Some 36 ∷ parts (w.lead ∷ (w.rest ++ l)))
    at w (inl m) = let k : (w.lead == 42) ≡ false = rw ((w.low m).0) h in rw k refl
    at w (inr m) = let k : (w.lead == 42) ≡ false = ne_eqb w.lead 42 (λ e. omega (arith, w.high m)) in rw k refl

pub parts-encodes : (cs : List ℕ) → parts (encodes cs) ≡ spell (parts cs)
parts-encodes [] = refl
parts-encodes (c ∷ []) = at (c == 36) refl
  where
    at : (b : Bool) → (c == 36) ≡ b → parts (encode c ++ []) ≡ (somes (encode c) ++ [])
    at true h = let k : encode c ≡ (36 ∷ []) = rw (eqb-true c 36 h) (encode_ascii 36 (omega arith)) in rw k refl
    at false h = parts-past (encode c) [] (encode_has_no 36 c (omega arith) h)
parts-encodes (c ∷ d ∷ cs) = at (c == 36) (d == 42) refl refl (parts-encodes cs) (parts-encodes (d ∷ cs))
  where
    at : (s t : Bool) → (c == 36) ≡ s → (d == 42) ≡ t → parts (encodes cs) ≡ spell (parts cs) → parts (encodes (d ∷ cs)) ≡ spell (parts (d ∷ cs)) → parts (encode c ++ (encode d ++ encodes cs)) ≡ spell (cond ((c == 36) && (d == 42)) (None ∷ parts cs) (Some c ∷ parts (d ∷ cs)))
    at true true h k i j =
        let kc : encode c ≡ (36 ∷ []) = rw (eqb-true c 36 h) (encode_ascii 36 (omega arith)) in
        let kd : encode d ≡ (42 ∷ []) = rw (eqb-true d 42 k) (encode_ascii 42 (omega arith)) in
        rw (kc, kd, h, k, i) refl
    at true false h k i j =
        let kc : encode c ≡ (36 ∷ []) = rw (eqb-true c 36 h) (encode_ascii 36 (omega arith)) in
        rw (h, k, kc) (parts-dollar d (encodes cs) k ∙ ap (λ t. Some 36 ∷ t) j)
    at false t h k i j =
        rw h (parts-past (encode c) (encodes (d ∷ cs)) (encode_has_no 36 c (omega arith) h) ∙ ap (λ t. somes (encode c) ++ t) j)

-- chunks and their relations
bytes_eq-encodes : (a b : List ℕ) → bytes_eq (encodes a) (encodes b) ≡ bytes_eq a b
bytes_eq-encodes a b =
    let d = bytes_eq-Decides (encodes a) (encodes b) in
    let e = bytes_eq-Decides a b in
    same_from_decides (bytes_eq (encodes a) (encodes b)) (bytes_eq a b) d ((λ h. ap encodes (e.0 h)), (λ h. e.1 (encodes_same a b h)))

bytes_eq-ascii : (a p : List ℕ) → encodes p ≡ p → bytes_eq (encodes a) p ≡ bytes_eq a p
bytes_eq-ascii a p h = ap (λ q. bytes_eq (encodes a) q) (sym h) ∙ bytes_eq-encodes a p

star_is : encodes (42 ∷ []) ≡ (42 ∷ [])
star_is = rw (encode_ascii 42 (omega arith)) refl

stars_is : encodes (42 ∷ 42 ∷ []) ≡ (42 ∷ 42 ∷ [])
stars_is = rw (encode_ascii 42 (omega arith)) refl

run_is : encodes (36 ∷ 42 ∷ []) ≡ (36 ∷ 42 ∷ [])
run_is = rw (encode_ascii 36 (omega arith), encode_ascii 42 (omega arith)) refl

is_star-encodes : (a : List ℕ) → is_star (encodes a) ≡ is_star a
is_star-encodes a = bytes_eq-ascii a (42 ∷ []) star_is

is_stars-encodes : (a : List ℕ) → is_stars (encodes a) ≡ is_stars a
is_stars-encodes a = bytes_eq-ascii a (42 ∷ 42 ∷ []) stars_is

lead_is_ascii : (d c : ℕ) (w : Word c) → d < 128 → (w.lead == d) ≡ (c == d)
lead_is_ascii d c w l = at (cases_lt c 128)
  where
    at : ((c < 128) ⊎ (128 ≤ c)) → (w.lead == d) ≡ (c == d)
    at (inl m) = rw ((w.low m).0) refl
    at (inr m) = ne_eqb w.lead d (λ e. omega (arith, w.high m)) ∙ sym (ne_eqb c d (λ e. omega arith))

is_verbatim-encodes : (a : List ℕ) → is_verbatim (encodes a) ≡ is_verbatim a
is_verbatim-encodes [] = refl
is_verbatim-encodes (c ∷ a) = let w = word c in rw w.is (lead_is_ascii 64 c w (omega arith))

chunk_meets-encodes : (a b : List ℕ) → chunk_meets (encodes a) (encodes b) ≡ chunk_meets a b
unfolding chunk_meets
chunk_meets-encodes a b = rw (is_verbatim-encodes a, is_verbatim-encodes b, bytes_eq-encodes a b, is_star-encodes a, is_star-encodes b, parts-encodes a, parts-encodes b, parts_meet-spell (parts a) (parts b)) refl

chunk_covers-encodes : (a b : List ℕ) → chunk_covers (encodes a) (encodes b) ≡ chunk_covers a b
unfolding chunk_covers
chunk_covers-encodes a b = rw (is_verbatim-encodes a, is_verbatim-encodes b, bytes_eq-encodes a b, is_star-encodes a, is_star-encodes b, parts-encodes a, parts-encodes b, parts_cover-spell (parts a) (parts b)) refl

-- the recursions of lists whose parts are renamed
meets-map : {A : Type 0} (w f : A → Bool) (e : A → A → Bool) (g : A → A) (hw : (x : A) → w (g x) ≡ w x) (hf : (x : A) → f (g x) ≡ f x) (he : (x y : A) → e (g x) (g y) ≡ e x y) (a b : List A) → meets_by w f e (map g a) (map g b) ≡ meets_by w f e a b
unfolding meets_by
meets-map w f e g hw hf he [] [] = refl
meets-map w f e g hw hf he [] (y ∷ b) = rw (hw y, meets-map w f e g hw hf he [] b) refl
meets-map w f e g hw hf he (x ∷ a) [] = rw (hw x, meets-map w f e g hw hf he a []) refl
meets-map w f e g hw hf he (x ∷ a) (y ∷ b) = rw (meets-map w f e g hw hf he a (y ∷ b), meets-map w f e g hw hf he (x ∷ a) b, meets-map w f e g hw hf he a b, hw x, hw y, hf x, hf y, he x y) refl

covers-map : {A : Type 0} (w f : A → Bool) (e : A → A → Bool) (g : A → A) (hw : (x : A) → w (g x) ≡ w x) (hf : (x : A) → f (g x) ≡ f x) (he : (x y : A) → e (g x) (g y) ≡ e x y) (a b : List A) → covers_by w f e (map g a) (map g b) ≡ covers_by w f e a b
unfolding covers_by
covers-map w f e g hw hf he [] [] = refl
covers-map w f e g hw hf he [] (y ∷ b) = refl
covers-map w f e g hw hf he (x ∷ a) [] = rw (hw x, covers-map w f e g hw hf he a []) refl
covers-map w f e g hw hf he (x ∷ a) (y ∷ b) = rw (covers-map w f e g hw hf he a (y ∷ b), covers-map w f e g hw hf he (x ∷ a) b, covers-map w f e g hw hf he a b, hw x, hw y, hf y, he x y) refl

-- keys intersect by their bytes exactly where they do by their characters
pub intersects-encodes : (a b : List ℕ) → intersects (encodes a) (encodes b) ≡ intersects a b
unfolding intersects
intersects-encodes a b = rw (chunks-encodes a, chunks-encodes b) (meets-map is_stars is_verbatim chunk_meets encodes is_stars-encodes is_verbatim-encodes chunk_meets-encodes (chunks a) (chunks b))

pub includes-encodes : (a b : List ℕ) → includes (encodes a) (encodes b) ≡ includes a b
unfolding includes
includes-encodes a b = rw (chunks-encodes a, chunks-encodes b) (covers-map is_stars is_verbatim chunk_covers encodes is_stars-encodes is_verbatim-encodes chunk_covers-encodes (chunks a) (chunks b))

-- keys
fits_high : (x : ℕ) → 128 ≤ x → part_fits (Some x) ≡ true
fits_high x h = rw (ne_eqb x 35 (λ e. omega arith), ne_eqb x 63 (λ e. omega arith), ne_eqb x 42 (λ e. omega arith), ne_eqb x 36 (λ e. omega arith)) refl

fits_next : (u : List ℕ) (l : List (Option ℕ)) → list_all is_next u ≡ true → list_all part_fits (somes u ++ l) ≡ list_all part_fits l
fits_next [] l h = refl
fits_next (x ∷ u) l h = let p = and_parts (is_next x) (list_all is_next u) h in rw (fits_high x (next_high x p.0), fits_next u l p.1) refl

fits_word : (c : ℕ) (l : List (Option ℕ)) → list_all part_fits (somes (encode c) ++ l) ≡ (part_fits (Some c) && list_all part_fits l)
fits_word c l = let w = word c in rw w.is (at w (cases_lt c 128))
  where
    at : (w : Word c) → ((c < 128) ⊎ (128 ≤ c)) → (part_fits (Some w.lead) && list_all part_fits (somes w.rest ++ l)) ≡ (part_fits (Some c) && list_all part_fits l)
    at w (inl m) = let k = w.low m in rw (k.0, k.1) refl
    at w (inr m) = rw (fits_high w.lead (omega (arith, w.high m)), fits_high c m, fits_next w.rest l w.rest_next) refl

fits-spell : (l : List (Option ℕ)) → list_all part_fits (spell l) ≡ list_all part_fits l
fits-spell [] = refl
fits-spell (None ∷ l) = fits-spell l
fits-spell (Some c ∷ l) = fits_word c (spell l) ∙ ap (λ t. part_fits (Some c) && t) (fits-spell l)

apart_past : (u : List ℕ) (l : List (Option ℕ)) → runs_apart (somes u ++ l) ≡ runs_apart l
apart_past [] l = refl
apart_past (x ∷ u) l = apart_past u l

apart_after : (c : ℕ) (l : List (Option ℕ)) → runs_apart (None ∷ (somes (encode c) ++ l)) ≡ runs_apart l
apart_after c l = let w = word c in rw w.is (apart_past w.rest l)

apart-spell : (l : List (Option ℕ)) → runs_apart (spell l) ≡ runs_apart l
apart-spell [] = refl
apart-spell (Some c ∷ l) = apart_past (encode c) (spell l) ∙ apart-spell l
apart-spell (None ∷ []) = refl
apart-spell (None ∷ None ∷ l) = refl
apart-spell (None ∷ Some c ∷ l) = apart_after c (spell l) ∙ apart-spell l

chunk_body : List ℕ → Bool
chunk_body chunk = is_star chunk || is_stars chunk || (not (bytes_eq chunk (36 ∷ 42 ∷ [])) && list_all part_fits (parts chunk) && runs_apart (parts chunk))

body-encodes : (a : List ℕ) → chunk_body (encodes a) ≡ chunk_body a
unfolding chunk_body
body-encodes a = rw (is_star-encodes a, is_stars-encodes a, bytes_eq-ascii a (36 ∷ 42 ∷ []) run_is, parts-encodes a, fits-spell (parts a), apart-spell (parts a)) refl

is_chunk-cons : (x : ℕ) (l : List ℕ) → is_chunk (x ∷ l) ≡ chunk_body (x ∷ l)
unfolding is_chunk chunk_body
is_chunk-cons x l = refl

is_chunk-nil : is_chunk [] ≡ false
unfolding is_chunk
is_chunk-nil = refl

is_chunk-encodes : (a : List ℕ) → is_chunk (encodes a) ≡ is_chunk a
is_chunk-encodes [] = refl
is_chunk-encodes (c ∷ a) =
    let w = word c in
    let k : encodes (c ∷ a) ≡ (w.lead ∷ (w.rest ++ encodes a)) = rw w.is refl in
    let e : is_chunk (encodes (c ∷ a)) ≡ chunk_body (encodes (c ∷ a)) = rw k (is_chunk-cons w.lead (w.rest ++ encodes a)) in
    e ∙ (body-encodes (c ∷ a) ∙ sym (is_chunk-cons c a))

all-encodes : (l : List (List ℕ)) → list_all is_chunk (map encodes l) ≡ list_all is_chunk l
all-encodes [] = refl
all-encodes (a ∷ l) = rw (is_chunk-encodes a, all-encodes l) refl

neighbours-encodes : (l : List (List ℕ)) → neighbours_fit (map encodes l) ≡ neighbours_fit l
neighbours-encodes [] = refl
neighbours-encodes (a ∷ []) = refl
neighbours-encodes (a ∷ b ∷ l) = rw (is_stars-encodes a, is_stars-encodes b, is_star-encodes b, neighbours-encodes (b ∷ l)) refl

-- a text is a key by its bytes exactly where it is one by its characters
pub is_key-encodes : (cs : List ℕ) → is_key (encodes cs) ≡ is_key cs
unfolding is_key
is_key-encodes cs = rw (chunks-encodes cs, all-encodes (chunks cs), neighbours-encodes (chunks cs)) refl

-- the same of a text and its characters
pub is_key-chars : (a : List ℕ) → IsUtf8 a → is_key a ≡ is_key (chars a)
is_key-chars a u = ap is_key (sym (encodes-chars a u)) ∙ is_key-encodes (chars a)

pub intersects-chars : (a b : List ℕ) → IsUtf8 a → IsUtf8 b → intersects a b ≡ intersects (chars a) (chars b)
intersects-chars a b u v = ap (λ x. intersects x b) (sym (encodes-chars a u)) ∙ (ap (λ x. intersects (encodes (chars a)) x) (sym (encodes-chars b v)) ∙ intersects-encodes (chars a) (chars b))

pub includes-chars : (a b : List ℕ) → IsUtf8 a → IsUtf8 b → includes a b ≡ includes (chars a) (chars b)
includes-chars a b u v = ap (λ x. includes x b) (sym (encodes-chars a u)) ∙ (ap (λ x. includes (encodes (chars a)) x) (sym (encodes-chars b v)) ∙ includes-encodes (chars a) (chars b))

pub ruleset relations = (intersects-related, includes-related, intersects-chars, includes-chars)
