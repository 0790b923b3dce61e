-- Texts without a `*` in front of others, and texts of digits as chunks.
use Rattle.std.proofs.Common.{◌≡◌, ◌∙◌, refl, ap, ℕ, ◌<◌, ◌^◌, Bool, true, false, cond, not, List, [], ◌∷◌, ◌++◌, length, Result, Ok, Err, IfOk, OnOk, arith}
use Rattle.std.specs.Prelude.{◌&&◌, ◌||◌, ◌==◌, codes}
use Rattle.std.specs.List.{list_all, onto_first}
use Rattle.std.specs.Fmt.{decimal}
use Rattle.std.proofs.lemmas.Bool.{and_parts, not-true}
use Rattle.zq_key.specs.Key.{chunks, is_chunk, is_key, is_star, is_stars, neighbours_fit, part_fits, runs_apart}
use Rattle.zq_key.specs.Space.{behind}
use Rattle.zq_key.proofs.Apart.{not_stars}
use Rattle.zq_key.proofs.Behind.{chunks-behind}
use Rattle.zq_key.proofs.Plain.{has_wild, plain-parts}
use Rattle.zq_key.proofs.Spelling.{somes}
use Rattle.zq_message.specs.declared.message.Mode.{Mode}
use Rattle.zq_message.specs.declared.message.Mode.TheVariants as mode
use Rattle.zq_io.specs.Values.{mode_word}
use Rattle.zq_io.specs.Words.{lacks}
use Rattle.zq_io.proofs.Back.{decimal_lacks, decimal_some, lacks_append}

-- the first byte is another one, and the rest lacks it
head_other : (byte x : ℕ) (t : List ℕ) → lacks byte (x ∷ t) ≡ true → (x == byte) ≡ false
head_other byte x t h = not-true (x == byte) ((and_parts (not (x == byte)) (lacks byte t) h).0)

tail_lacks : (byte x : ℕ) (t : List ℕ) → lacks byte (x ∷ t) ≡ true → lacks byte t ≡ true
tail_lacks byte x t h = (and_parts (not (x == byte)) (lacks byte t) h).1

pub behind_lacks : (byte : ℕ) (n k : List ℕ) → (47 == byte) ≡ false → lacks byte n ≡ true → lacks byte k ≡ true → lacks byte (behind n k) ≡ true
behind_lacks byte n k slash h g = lacks_append byte n (47 ∷ k) h (rw slash g)

pub ok_lacks : {E : Type 0} (byte : ℕ) (text : List ℕ) (r : Result (List ℕ) E) → IfOk r (λ t. t ≡ text) → lacks byte text ≡ true → IfOk r (λ t. lacks byte t ≡ true)
ok_lacks byte text (Ok t) same h = ap (lacks byte) same ∙ h
ok_lacks byte text (Err e) same h = tt

pub mode_lacks : (m : Mode) → lacks 42 (mode_word m) ≡ true
mode_lacks mode.Router = refl
mode_lacks mode.Peer = refl
mode_lacks mode.Client = refl

pub on_ok : {X E : Type 0} (r : Result X E) (P : Type 0) → P → OnOk r P
on_ok (Ok x) P p = p
on_ok (Err e) P p = tt

-- ---- a text without a `*` has no chunk `**`
abbrev pub is_other : List ℕ → Bool
is_other c = not (is_stars c)

no_stars : (c : List ℕ) → lacks 42 c ≡ true → is_other c ≡ true
no_stars [] h = refl
no_stars (x ∷ c) h = rw (not_stars x c (head_other 42 x c h)) refl

abbrev All_lack : ℕ → List (List ℕ) → Type 0
All_lack byte cs = list_all (lacks byte) cs ≡ true

onto_lacks : (byte x : ℕ) (cs : List (List ℕ)) → (x == byte) ≡ false → All_lack byte cs → All_lack byte (onto_first x cs)
onto_lacks byte x [] e h = rw e refl
onto_lacks byte x (c ∷ cs) e h = rw e h

chunks_lack : (byte : ℕ) (t : List ℕ) → lacks byte t ≡ true → All_lack byte (chunks t)
chunks_lack byte [] h = refl
chunks_lack byte (x ∷ t) h = by (x == 47) (head_other byte x t h) (chunks_lack byte t (tail_lacks byte x t h))
  where
    by : (b : Bool) → (x == byte) ≡ false → All_lack byte (chunks t) → All_lack byte (cond b ([] ∷ chunks t) (onto_first x (chunks t)))
    by true e ih = ih
    by false e ih = onto_lacks byte x (chunks t) e ih

all_other : (cs : List (List ℕ)) → All_lack 42 cs → list_all is_other cs ≡ true
all_other [] h = refl
all_other (c ∷ cs) h =
    let p = and_parts (lacks 42 c) (list_all (lacks 42) cs) h in
    rw (no_stars c p.0, all_other cs p.1) refl

-- no chunk of the text is `**`
pub other_chunks : (t : List ℕ) → lacks 42 t ≡ true → list_all is_other (chunks t) ≡ true
other_chunks t h = all_other (chunks t) (chunks_lack 42 t h)

-- ---- digits stand as a chunk
one_chunk : (t : List ℕ) → lacks 47 t ≡ true → chunks t ≡ t ∷ []
one_chunk [] h = refl
one_chunk (x ∷ t) h = rw (head_other 47 x t h, one_chunk t (tail_lacks 47 x t h)) refl

tame : (t : List ℕ) → lacks 42 t ≡ true → lacks 36 t ≡ true → has_wild t ≡ false
tame [] h g = refl
tame (x ∷ t) h g = rw (head_other 42 x t h, head_other 36 x t g, tame t (tail_lacks 42 x t h) (tail_lacks 36 x t g)) refl

-- the text has none of the bytes that a chunk may not have
pub record IsTame (t : List ℕ) : Type 0 where
  pub star : lacks 42 t ≡ true
  pub dollar : lacks 36 t ≡ true
  pub hash : lacks 35 t ≡ true
  pub mark : lacks 63 t ≡ true

tail_tame : (x : ℕ) (t : List ℕ) → IsTame (x ∷ t) → IsTame t
tail_tame x t p = record { star = tail_lacks 42 x t p.star; dollar = tail_lacks 36 x t p.dollar; hash = tail_lacks 35 x t p.hash; mark = tail_lacks 63 x t p.mark }

all_fit : (t : List ℕ) → IsTame t → list_all part_fits (somes t) ≡ true
all_fit [] p = refl
all_fit (x ∷ t) p = rw (head_other 35 x t p.hash, head_other 63 x t p.mark, head_other 42 x t p.star, head_other 36 x t p.dollar) (all_fit t (tail_tame x t p))

all_apart : (t : List ℕ) → runs_apart (somes t) ≡ true
all_apart [] = refl
all_apart (x ∷ t) = all_apart t

chunk_of : (x : ℕ) (t : List ℕ) → IsTame (x ∷ t) → is_chunk (x ∷ t) ≡ true
unfolding is_chunk
chunk_of x t p =
    rw (plain-parts (x ∷ t) (tame (x ∷ t) p.star p.dollar), head_other 42 x t p.star, head_other 36 x t p.dollar, head_other 35 x t p.hash, head_other 63 x t p.mark)
    (rw (all_fit t (tail_tame x t p), all_apart t) refl)

pub digits_chunk : (t : List ℕ) → 0 < length t → IsTame t → is_chunk t ≡ true
digits_chunk [] some p = absurd (omega (arith, some))
digits_chunk (x ∷ t) some p = chunk_of x t p

-- ---- `@/ZID/**` is a key
module _ (zid : ℕ) (small : zid < 10 ^ 64) where
  digits_tame : IsTame (decimal zid)
  digits_tame = record {
    star = decimal_lacks 42 zid small refl;
    dollar = decimal_lacks 36 zid small refl;
    hash = decimal_lacks 35 zid small refl;
    mark = decimal_lacks 63 zid small refl;
  }

  pub zid_lacks : lacks 42 (behind (codes "@") (decimal zid)) ≡ true
  zid_lacks = behind_lacks 42 (codes "@") (decimal zid) refl refl (decimal_lacks 42 zid small refl)

  own_chunks : chunks (behind (behind (codes "@") (decimal zid)) (codes "**")) ≡ codes "@" ∷ decimal zid ∷ codes "**" ∷ []
  own_chunks =
      chunks-behind (behind (codes "@") (decimal zid)) (codes "**")
      ∙ ap (λ l. l ++ codes "**" ∷ []) (chunks-behind (codes "@") (decimal zid) ∙ ap (λ l. codes "@" ∷ l) (one_chunk (decimal zid) (decimal_lacks 47 zid small refl)))

  pub own_is_key : is_key (behind (behind (codes "@") (decimal zid)) (codes "**")) ≡ true
  unfolding is_key is_chunk
  own_is_key =
      ap (λ cs. list_all is_chunk cs && neighbours_fit cs) own_chunks
      ∙ (λ j. is_chunk (codes "@") && ((digits_chunk (decimal zid) (decimal_some zid small) digits_tame j && (is_chunk (codes "**") && true)) && (not (is_stars (codes "@") && (is_stars (decimal zid) || is_star (decimal zid))) && (not (not_wild j && (is_stars (codes "**") || is_star (codes "**"))) && true))))
    where
      not_wild : is_stars (decimal zid) ≡ false
      not_wild = not-true (is_stars (decimal zid)) (no_stars (decimal zid) digits_tame.star)
