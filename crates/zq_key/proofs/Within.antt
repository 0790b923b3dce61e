-- What is left of a key behind a plain prefix, put behind it again, is within the key.
use Rattle.std.proofs.Common.{◌≡◌, ℕ, ◌+◌, ◌==◌, Bool, true, false, cond, ◌&&◌, ◌||◌, not, List, [], ◌∷◌, ◌++◌, take, drop, Option, Some, None, IfSome, refl, sym, ap, ◌∙◌}
use Rattle.std.specs.List.{position, join_with_byte, list_all}
use Rattle.std.specs.Option.{option_map}
use Rattle.std.specs.Str.{bytes_eq}
use Rattle.std.proofs.lemmas.Bool.{and_parts}
use Rattle.std.proofs.lemmas.List.Splits.{join_with_byte-slice_split}
use Rattle.std.proofs.lemmas.Slice.Eq.{bytes_eq-Decides}
use Rattle.std.proofs.Math.Bool.{or-true}
use Rattle.zq_key.specs.Match.{covers_by}
use Rattle.zq_key.specs.Walk.{never}
use Rattle.zq_key.specs.Key.{chunks, is_stars, is_star, is_verbatim, chunk_meets, chunk_covers, parts, parts_meet, parts_cover, same_part, is_chunk, neighbours_fit, is_key, is_plain, is_plain_chunk, includes}
use Rattle.zq_key.specs.Space.{strip, strip_chunks, behind}
use Rattle.zq_key.proofs.Spelling.{somes}
use Rattle.zq_key.proofs.Chunks.{cut-none, cut-some}
use Rattle.zq_key.proofs.Meet.{meets-covers}
use Rattle.zq_key.proofs.Relations.{chunk_meets-swap, stars-free}
use Rattle.zq_key.proofs.Plain.{chunk_facts, plain-star, plain-stars, plain-parts, somes-none, plain-chunk_meets, plain-all}
use Rattle.zq_key.proofs.Lawful.{covers-self, chunk_covers-self}
use Rattle.zq_key.proofs.Behind.{chunks-behind}
use Rattle.std.proofs.Common.{is_none}

-- ---- what is left are the chunks of a text

-- what follows the first chunk of a text are the chunks of a text
after_chunk : (t y z : List ℕ) (ks : List (List ℕ)) → chunks t ≡ (y ∷ z ∷ ks) → (u : List ℕ) × ((z ∷ ks) ≡ chunks u)
after_chunk t y z ks e = at (position (λ c. c == 47) t) refl
  where
    at : (o : Option ℕ) → o ≡ position (λ c. c == 47) t → (u : List ℕ) × ((z ∷ ks) ≡ chunks u)
    at None h = absurd (let k : (y ∷ z ∷ ks) ≡ (t ∷ []) = sym e ∙ cut-none t h in cc)
    at (Some i) h = (drop (i + 1) t, let k : (y ∷ z ∷ ks) ≡ (take i t ∷ chunks (drop (i + 1) t)) = sym e ∙ (cut-some t i h).1 in cc)

left_text : (n k r : List (List ℕ)) (t : List ℕ) → chunks t ≡ k → strip_chunks n k ≡ Some r → (u : List ℕ) × (r ≡ chunks u)
left_text n [] r t is e = absurd (cc)
left_text [] (y ∷ k) r t is e = (t, let same : (y ∷ k) ≡ r = cc in sym same ∙ sym is)
left_text (x ∷ n) (y ∷ k) r t is e = at (is_stars y) (chunk_meets x y) e (left_text n k r)
  where
    more : (ks : List (List ℕ)) → k ≡ ks → strip_chunks n k ≡ Some r → ((u : List ℕ) → chunks u ≡ k → strip_chunks n k ≡ Some r → (v : List ℕ) × (r ≡ chunks v)) → (v : List ℕ) × (r ≡ chunks v)
    more [] none e ih = absurd (let gone : strip_chunks n [] ≡ Some r = rw none at e in cc)
    more (z ∷ ks) some e ih = let u = after_chunk t y z ks (is ∙ ap (λ l. y ∷ l) some) in ih u.0 (sym u.1 ∙ sym some) e

    at : (s m : Bool) → cond s (Some (y ∷ k)) (cond m (strip_chunks n k) None) ≡ Some r → ((u : List ℕ) → chunks u ≡ k → strip_chunks n k ≡ Some r → (v : List ℕ) × (r ≡ chunks v)) → (v : List ℕ) × (r ≡ chunks v)
    at true m e ih = (t, let same : (y ∷ k) ≡ r = cc in sym same ∙ sym is)
    at false false e ih = absurd (cc)
    at false true e ih = more k refl e ih

pub left_chunks : (n k r : List ℕ) → strip n k ≡ Some r → strip_chunks (chunks n) (chunks k) ≡ Some (chunks r)
unfolding strip
left_chunks n k r e = at (strip_chunks (chunks n) (chunks k)) refl e
  where
    at : (o : Option (List (List ℕ))) → strip_chunks (chunks n) (chunks k) ≡ o → option_map (join_with_byte 47) o ≡ Some r → strip_chunks (chunks n) (chunks k) ≡ Some (chunks r)
    at None is h = absurd (cc)
    at (Some rs) is h =
        let u = left_text (chunks n) (chunks k) rs k refl is in
        let joined : join_with_byte 47 rs ≡ r = cc in
        let text : u.0 ≡ r = sym (join_with_byte-slice_split 47 u.0) ∙ ap (join_with_byte 47) (sym u.1) ∙ joined in
        is ∙ ap Some (u.1 ∙ ap chunks text)

-- ---- it is within the key

-- `**` covers plain chunks in front of it
stars-over : (y : List ℕ) (k n : List (List ℕ)) → is_stars y ≡ true → list_all is_plain_chunk n ≡ true → covers_by is_stars is_verbatim chunk_covers (y ∷ k) (n ++ y ∷ k) ≡ true
unfolding covers_by
stars-over y k [] s h = covers-self is_stars is_verbatim chunk_covers stars-free chunk_covers-self (y ∷ k)
stars-over y k (x ∷ n) s h =
    let p = and_parts (is_plain_chunk x) (list_all is_plain_chunk n) h in
    rw (s, (chunk_facts x p.0).0, stars-over y k n s p.1) (or-true (covers_by is_stars is_verbatim chunk_covers k (x ∷ n ++ y ∷ k)))

-- a chunk that a plain one meets covers it
meets-plain : (x y : List ℕ) → is_plain_chunk x ≡ true → chunk_meets x y ≡ true → chunk_covers y x ≡ true
unfolding chunk_meets chunk_covers
meets-plain x y h m =
    let p = chunk_facts x h in
    let met : chunk_meets y x ≡ true = chunk_meets-swap y x ∙ m in
    rw (p.0, plain-star x p.1, plain-parts x p.1) (at (is_verbatim y) (is_star y) (rw (p.0, plain-star x p.1, plain-parts x p.1) at met))
  where
    at : (v s : Bool) → cond (v || false) (bytes_eq y x) (s || false || parts_meet (parts y) (somes x)) ≡ true → cond (v || false) (bytes_eq y x) (s || (not false && parts_cover (parts y) (somes x))) ≡ true
    at true s e = e
    at false true e = refl
    at false false e = sym (meets-covers is_none never same_part (parts y) (somes x) (somes-none x)) ∙ e

within-chunks : (n k r : List (List ℕ)) → list_all is_plain_chunk n ≡ true → strip_chunks n k ≡ Some r → covers_by is_stars is_verbatim chunk_covers k (n ++ r) ≡ true
unfolding covers_by
within-chunks n [] r h e = absurd (cc)
within-chunks [] (y ∷ k) r h e =
    let same : (y ∷ k) ≡ r = cc in
    ap (λ l. covers_by is_stars is_verbatim chunk_covers (y ∷ k) l) (sym same) ∙ covers-self is_stars is_verbatim chunk_covers stars-free chunk_covers-self (y ∷ k)
within-chunks (x ∷ n) (y ∷ k) r h e =
    let p = and_parts (is_plain_chunk x) (list_all is_plain_chunk n) h in
    at p.0 (is_stars y) refl (chunk_meets x y) refl e (within-chunks n k r p.1)
  where
    at : is_plain_chunk x ≡ true → (s : Bool) → is_stars y ≡ s → (m : Bool) → chunk_meets x y ≡ m → cond s (Some (y ∷ k)) (cond m (strip_chunks n k) None) ≡ Some r → (strip_chunks n k ≡ Some r → covers_by is_stars is_verbatim chunk_covers k (n ++ r) ≡ true) → covers_by is_stars is_verbatim chunk_covers (y ∷ k) (x ∷ n ++ r) ≡ true
    at p true s m met e ih =
        let same : (y ∷ k) ≡ r = cc in
        ap (λ l. covers_by is_stars is_verbatim chunk_covers (y ∷ k) (x ∷ n ++ l)) (sym same) ∙ stars-over y k (x ∷ n) s h
    at p false s false met e ih = absurd (cc)
    at p false s true met e ih = rw (s, plain-stars x (chunk_facts x p).1, meets-plain x y p met, ih e) refl

-- what is left of a key, put behind the prefix again, is included by the key
pub within : (n k r : List ℕ) → is_plain n ≡ true → strip n k ≡ Some r → includes k (behind n r) ≡ true
unfolding includes
within n k r h e = rw (chunks-behind n r) (within-chunks (chunks n) (chunks k) (chunks r) (plain-all n h) (left_chunks n k r e))

-- ---- of a plain key it is all

whole-chunks : (n k r : List (List ℕ)) → list_all is_plain_chunk n ≡ true → list_all is_plain_chunk k ≡ true → strip_chunks n k ≡ Some r → k ≡ n ++ r
whole-chunks n [] r h l e = absurd (cc)
whole-chunks [] (y ∷ k) r h l e = cc
whole-chunks (x ∷ n) (y ∷ k) r h l e =
    let p = and_parts (is_plain_chunk x) (list_all is_plain_chunk n) h in
    let q = and_parts (is_plain_chunk y) (list_all is_plain_chunk k) l in
    at (bytes_eq x y) refl (rw (plain-stars y (chunk_facts y q.0).1, plain-chunk_meets x y p.0 q.0) at e) (whole-chunks n k r p.1 q.1)
  where
    at : (b : Bool) → bytes_eq x y ≡ b → cond b (strip_chunks n k) None ≡ Some r → (strip_chunks n k ≡ Some r → k ≡ n ++ r) → (y ∷ k) ≡ x ∷ n ++ r
    at true s e ih = let same : x ≡ y = (bytes_eq-Decides x y).0 s in ap (λ c. c ∷ k) (sym same) ∙ ap (λ l. x ∷ l) (ih e)
    at false s e ih = absurd (cc)

-- a plain key is the prefix with what is left of it
pub whole : (n k r : List ℕ) → is_plain n ≡ true → is_plain k ≡ true → strip n k ≡ Some r → k ≡ behind n r
whole n k r h l e =
    sym (join_with_byte-slice_split 47 k)
    ∙ (ap (join_with_byte 47) (whole-chunks (chunks n) (chunks k) (chunks r) (plain-all n h) (plain-all k l) (left_chunks n k r e) ∙ sym (chunks-behind n r))
    ∙ join_with_byte-slice_split 47 (behind n r))

-- ---- what is left of a key is a key

-- chunks that fit beside each other
fit : List (List ℕ) → Bool
fit ks = list_all is_chunk ks && neighbours_fit ks

fit-after : (y : List ℕ) (k : List (List ℕ)) → fit (y ∷ k) ≡ true → fit k ≡ true
unfolding fit
fit-after y [] h = refl
fit-after y (z ∷ k) h =
    let p = and_parts (list_all is_chunk (y ∷ z ∷ k)) (neighbours_fit (y ∷ z ∷ k)) h in
    let q = and_parts (is_chunk y) (list_all is_chunk (z ∷ k)) p.0 in
    let s = and_parts (not (is_stars y && (is_stars z || is_star z))) (neighbours_fit (z ∷ k)) p.1 in
    rw (q.1, s.1) refl

fit-left : (n k r : List (List ℕ)) → fit k ≡ true → strip_chunks n k ≡ Some r → fit r ≡ true
fit-left n [] r h e = absurd (cc)
fit-left [] (y ∷ k) r h e = let same : (y ∷ k) ≡ r = cc in ap fit (sym same) ∙ h
fit-left (x ∷ n) (y ∷ k) r h e = at (is_stars y) (chunk_meets x y) e (fit-left n k r (fit-after y k h))
  where
    at : (s m : Bool) → cond s (Some (y ∷ k)) (cond m (strip_chunks n k) None) ≡ Some r → (strip_chunks n k ≡ Some r → fit r ≡ true) → fit r ≡ true
    at true m e ih = let same : (y ∷ k) ≡ r = cc in ap fit (sym same) ∙ h
    at false false e ih = absurd (cc)
    at false true e ih = ih e

pub left-key : (n k r : List ℕ) → is_key k ≡ true → strip n k ≡ Some r → is_key r ≡ true
unfolding is_key fit
left-key n k r h e = fit-left (chunks n) (chunks k) (chunks r) h (left_chunks n k r e)

-- ---- the same of what a call answers

module _ {X : Type 0} (text : X → List ℕ) (n k : List ℕ) where
  pub key-answer : (o : Option X) → option_map text o ≡ strip n k → is_key k ≡ true → IfSome o (λ r. is_key (text r) ≡ true)
  key-answer None e h = tt
  key-answer (Some x) e h = left-key n k (text x) h (sym e)

  pub within-answer : (o : Option X) → option_map text o ≡ strip n k → is_plain n ≡ true → IfSome o (λ r. includes k (behind n (text r)) ≡ true)
  within-answer None e h = tt
  within-answer (Some x) e h = within n k (text x) h (sym e)

  pub whole-answer : (o : Option X) → option_map text o ≡ strip n k → is_plain n ≡ true → is_plain k ≡ true → IfSome o (λ r. k ≡ behind n (text r))
  whole-answer None e h l = tt
  whole-answer (Some x) e h l = whole n k (text x) h l (sym e)
