-- What is left of a key behind a namespace, chunk by chunk.
use Rattle.std.proofs.Common.{◌≡◌, ℕ, ◌<◌, ◌+◌, ◌-◌, ◌==◌, ◌≤◌, ltb, ltb-false, lit<, Bor, MatchOption, length, length-drop, add-one, take, drop, get_or, Bool, true, false, cond, List, [], ◌∷◌, Option, Some, None, refl, sym, ap, ◌∙◌, arith}
use Rattle.std.specs.List.{position, position_or_len, join_with_byte}
use Rattle.std.specs.Option.{option_map}
use Rattle.std.proofs.lemmas.List.Splits.{join_with_byte-slice_split}
use Rattle.std.proofs.lemmas.List.Splits.{slice_split_first, slice_split_none}
use Rattle.std.proofs.lemmas.List.Elements.{All-from_get_or}
use Rattle.std.proofs.lemmas.List.Quantifiers.{position-Some}
use Rattle.std.proofs.lemmas.List.Sums.{fails_before_first}
use Rattle.std.proofs.lemmas.Str.Pattern.{IsSplitOnceResult, split_once_first}
use Rattle.std.proofs.lemmas.Bool.Decides.{Decides-eqb}
use Rattle.std.proofs.lemmas.Grind.{common_steps}
use Rattle.zq_key.specs.Key.{chunks, is_stars, chunk_meets}
use Rattle.zq_key.specs.Space.{strip, strip_chunks, is_slash, first_chunk}
use Rattle.zq_key.proofs.Chunks.{split-more}

joined : (text : List ℕ) → join_with_byte 47 (chunks text) ≡ text
joined text = join_with_byte-slice_split 47 text

pub strip-stars : (head rest chunk after : List ℕ) → chunks rest ≡ (chunk ∷ chunks after) → is_stars chunk ≡ true → strip head rest ≡ Some rest
unfolding strip
strip-stars head rest chunk after is h = at (chunks head) (chunks rest) is ∙ ap Some (joined rest)
  where
    at : (n k : List (List ℕ)) → k ≡ (chunk ∷ chunks after) → option_map (join_with_byte 47) (strip_chunks n k) ≡ Some (join_with_byte 47 k)
    at [] k e = rw e refl
    at (x ∷ n) k e = rw (e, h) refl

pub strip-last_stars : (head rest : List ℕ) → chunks rest ≡ (rest ∷ []) → is_stars rest ≡ true → strip head rest ≡ Some rest
unfolding strip
strip-last_stars head rest is h = at (chunks head) (chunks rest) is ∙ ap Some (joined rest)
  where
    at : (n k : List (List ℕ)) → k ≡ (rest ∷ []) → option_map (join_with_byte 47) (strip_chunks n k) ≡ Some (join_with_byte 47 k)
    at [] k e = rw e refl
    at (x ∷ n) k e = rw (e, h) refl

pub strip-last : (head rest : List ℕ) → chunks rest ≡ (rest ∷ []) → is_stars rest ≡ false → strip head rest ≡ None
unfolding strip
strip-last head rest is h = let s = split-more (λ c. c == 47) head in rw (s.2, is, h) (at (chunk_meets s.0 rest))
  where
    at : (b : Bool) → option_map (join_with_byte 47) (cond b None None) ≡ None
    at true = refl
    at false = refl

pub strip-end : (head rest chunk after : List ℕ) → chunks rest ≡ (chunk ∷ chunks after) → chunks head ≡ (head ∷ []) → is_stars chunk ≡ false → chunk_meets head chunk ≡ true → strip head rest ≡ Some after
unfolding strip
strip-end head rest chunk after is last h m = rw (is, last, h, m) (at (chunks after) refl ∙ ap Some (joined after))
  where
    at : (k : List (List ℕ)) → chunks after ≡ k → option_map (join_with_byte 47) (strip_chunks [] k) ≡ Some (join_with_byte 47 k)
    at [] e = absurd (let s = split-more (λ c. c == 47) after in cc)
    at (y ∷ k) e = refl

pub strip-apart_last : (head rest chunk after : List ℕ) → chunks rest ≡ (chunk ∷ chunks after) → chunks head ≡ (head ∷ []) → is_stars chunk ≡ false → chunk_meets head chunk ≡ false → strip head rest ≡ None
unfolding strip
strip-apart_last head rest chunk after is last h m = rw (is, last, h, m) refl

pub strip-apart : (head rest chunk after x head_rest : List ℕ) → chunks rest ≡ (chunk ∷ chunks after) → chunks head ≡ (x ∷ chunks head_rest) → is_stars chunk ≡ false → chunk_meets x chunk ≡ false → strip head rest ≡ None
unfolding strip
strip-apart head rest chunk after x head_rest is more h m = rw (is, more, h, m) refl

pub strip-on : (head rest chunk after x head_rest : List ℕ) → chunks rest ≡ (chunk ∷ chunks after) → chunks head ≡ (x ∷ chunks head_rest) → is_stars chunk ≡ false → chunk_meets x chunk ≡ true → strip head rest ≡ strip head_rest after
unfolding strip
strip-on head rest chunk after x head_rest is more h m = rw (is, more, h, m) refl

pub ruleset strips = (strip-stars, strip-last_stars, strip-last, strip-end, strip-apart_last, strip-apart, strip-on)

-- what `split_once` at `/` says of the chunks
pub cut_once : (text : List ℕ) (r : Option (Bor (List ℕ) × Bor (List ℕ))) → IsSplitOnceResult 47 text r → MatchOption r (chunks text ≡ (text ∷ [])) (λ x. (chunks text ≡ (x.0.now ∷ chunks x.1.now)) × (length x.1.now < length text))
cut_once text None h =
    let k = split_once_first 47 text None h (lit< tt) in
    slice_split_none (λ c. c == 47) text (All-from_get_or (λ x. (x == 47) ≡ false) text 0 (λ i b. fails_before_first (λ c. c == 47) text i 0 (omega (arith, k, b))))
cut_once text (Some x) h =
    let k = split_once_first 47 text (Some x) h (lit< tt) in
    let n = length-drop (position_or_len (λ c. c == 47) text + 1) text in
    (rw (k.1, k.2) (slice_split_first (λ c. c == 47) text 0 k.0), rw k.2 (omega (arith, k.0, n)))

past_first : (c : ℕ) (t : List ℕ) → take (length (c ∷ t) - 1) (drop 1 (c ∷ t)) ≡ t
past_first c t = grind (arith, common_steps)

found_place : (t : List ℕ) (at : ℕ) → position is_slash t ≡ Some at → position_or_len is_slash t ≡ at
found_place t at h = by (ltb (position_or_len is_slash t) (length t)) h
  where
    by : (b : Bool) → cond b (Some (position_or_len is_slash t)) None ≡ Some at → position_or_len is_slash t ≡ at
    by true e = cc
    by false e = absurd (cc)

pub at_slash : (text : List ℕ) (at : ℕ) → Some at ≡ position is_slash (take (length text - 1) (drop 1 text)) → (at + 1 < length text) × (get_or text (at + 1) 0 ≡ 47)
at_slash [] at h = absurd (cc)
at_slash (c ∷ t) at h =
    let k = position-Some is_slash t at 0 (sym (rw (past_first c t) at h)) in
    (omega (arith, k.0), rw (add-one at) ((Decides-eqb (get_or t at 0) 47).0 k.1))

pub first-some : (text : List ℕ) (at : ℕ) → Some at ≡ position is_slash (take (length text - 1) (drop 1 text)) → first_chunk text ≡ Some (take (at + 1) text, drop (at + 1) text)
first-some [] at h = absurd (cc)
first-some (c ∷ t) at h = rw (add-one at, found_place t at (sym (rw (past_first c t) at h))) refl

no_place : (t : List ℕ) → position is_slash t ≡ None → length t ≤ position_or_len is_slash t
no_place t h = by (ltb (position_or_len is_slash t) (length t)) refl h
  where
    by : (b : Bool) → ltb (position_or_len is_slash t) (length t) ≡ b → cond b (Some (position_or_len is_slash t)) None ≡ None → length t ≤ position_or_len is_slash t
    by true k e = absurd (cc)
    by false k e = omega (arith, ltb-false _ _ k)

pub first-none : (text : List ℕ) → 0 < length text → None ≡ position is_slash (take (length text - 1) (drop 1 text)) → first_chunk text ≡ Some (text, [])
first-none [] l h = absurd (omega (arith, l))
first-none (c ∷ t) l h =
    let e : length t ≤ position_or_len is_slash t = no_place t (sym (rw (past_first c t) at h)) in
    let whole : take (position_or_len is_slash t) t ≡ t = grind (arith, common_steps) in
    let over : drop (position_or_len is_slash t) t ≡ [] = grind (arith, common_steps) in
    rw (whole, over) refl

pub ruleset firsts = (first-some, first-none)
