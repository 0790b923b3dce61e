-- How the chunks that are left follow from one another.
use Rattle.std.proofs.Common.{◌≡◌, ℕ, ◌<◌, ◌≤◌, ◌+◌, ◌==◌, length, Bool, true, false, cond, List, [], ◌∷◌, take, drop, ◌⊎◌, inl, inr, Option, Some, None, MatchOption, refl, ap, ◌∙◌, arith}
use Rattle.std.specs.List.{slice_split, onto_first, position, position_or_len}
use Rattle.std.proofs.lemmas.List.Splits.{slice_split_first, slice_split_none}
use Rattle.std.proofs.lemmas.List.Elements.{All-from_get_or}
use Rattle.std.proofs.lemmas.Bool.{cases_lt, lt-ltb, le-ltb}
use Rattle.std.proofs.lemmas.List.Sums.{fails_before_first}
use Rattle.zq_key.specs.Key.{chunks, is_verbatim}
use Rattle.zq_key.specs.Chunks.{trim, chunks_left, free_left, verbatim_left}

-- what the place of the first `/` of a text says of its chunks
pub cut_at : (text : List ℕ) (r : Option ℕ) → r ≡ position (λ c. c == 47) text → MatchOption r (chunks text ≡ (text ∷ [])) (λ i. (i < length text) × (chunks text ≡ (take i text ∷ chunks (drop (i + 1) text))))
cut_at text r h = at (position_or_len (λ c. c == 47) text) refl (cases_lt (position_or_len (λ c. c == 47) text) (length text))
  where
    at : (i : ℕ) → i ≡ position_or_len (λ c. c == 47) text → ((i < length text) ⊎ (length text ≤ i)) → MatchOption r (chunks text ≡ (text ∷ [])) (λ i. (i < length text) × (chunks text ≡ (take i text ∷ chunks (drop (i + 1) text))))
    at i e (inl l) =
        let found : r ≡ Some i = h ∙ (rw (← e) (rw (lt-ltb i (length text) l) refl)) in
        rw found (l, rw e (slice_split_first (λ c. c == 47) text 0 (rw e at l)))
    at i e (inr l) =
        let none : r ≡ None = h ∙ (rw (← e) (rw (le-ltb i (length text) l) refl)) in
        rw none (slice_split_none (λ c. c == 47) text (All-from_get_or (λ x. (x == 47) ≡ false) text 0 (λ k b. fails_before_first (λ c. c == 47) text k 0 (omega arith))))

pub cut-none : (text : List ℕ) → None ≡ position (λ c. c == 47) text → chunks text ≡ (text ∷ [])
cut-none text h = cut_at text None h

pub cut-some : (text : List ℕ) (i : ℕ) → Some i ≡ position (λ c. c == 47) text → (i < length text) × (chunks text ≡ (take i text ∷ chunks (drop (i + 1) text)))
cut-some text i h = cut_at text (Some i) h

pub ruleset cuts = (cut-none, cut-some)

-- what a text is split into is not empty
pub split-more : (p : ℕ → Bool) (xs : List ℕ) → (first : List ℕ) × (rest : List (List ℕ)) × (slice_split p xs ≡ (first ∷ rest))
split-more p [] = ([], [], refl)
split-more p (x ∷ xs) = at (p x) (split-more p xs)
  where
    at : (b : Bool) → ((first : List ℕ) × (rest : List (List ℕ)) × (slice_split p xs ≡ (first ∷ rest))) → (first : List ℕ) × (rest : List (List ℕ)) × (cond b ([] ∷ slice_split p xs) (onto_first x (slice_split p xs)) ≡ (first ∷ rest))
    at true k = ([], slice_split p xs, refl)
    at false (first, rest, k) = (x ∷ first, rest, rw k refl)

trim-more : (chunk : List ℕ) (text : List ℕ) → trim (chunk ∷ chunks text) ≡ (chunk ∷ trim (chunks text))
trim-more chunk text = let s = split-more (λ c. c == 47) text in rw s.2 (at chunk s.0 s.1)
  where
    at : (chunk next : List ℕ) (rest : List (List ℕ)) → trim (chunk ∷ next ∷ rest) ≡ (chunk ∷ trim (next ∷ rest))
    at [] next rest = refl
    at (c ∷ chunk) next rest = refl

pub chunks_left-cut : (text chunk rest : List ℕ) → chunks text ≡ (chunk ∷ chunks rest) → chunks_left text ≡ (chunk ∷ chunks_left rest)
unfolding chunks_left
chunks_left-cut text chunk rest h = ap trim h ∙ trim-more chunk rest

pub chunks_left-last : (text : List ℕ) → chunks text ≡ (text ∷ []) → 0 < length text → chunks_left text ≡ (text ∷ chunks_left [])
unfolding chunks_left
chunks_left-last [] h l = absurd (omega arith)
chunks_left-last (c ∷ text) h l = ap trim h

pub chunks_left-nil : chunks_left [] ≡ []
unfolding chunks_left
chunks_left-nil = refl

pub chunks_left-empty : (text : List ℕ) → length text ≡ 0 → chunks_left text ≡ []
chunks_left-empty [] h = chunks_left-nil
chunks_left-empty (c ∷ text) h = absurd (omega arith)

pub ruleset ends = (chunks_left-empty)

pub ruleset splits = (chunks_left-cut, chunks_left-last)

pub free_left-some : (text chunk rest : List ℕ) → chunks_left text ≡ (chunk ∷ chunks_left rest) → is_verbatim chunk ≡ false → free_left text ≡ (chunk ∷ free_left rest)
unfolding free_left
free_left-some text chunk rest h v = rw h (rw v refl)

pub free_left-verbatim : (text chunk rest : List ℕ) → chunks_left text ≡ (chunk ∷ chunks_left rest) → is_verbatim chunk ≡ true → free_left text ≡ []
unfolding free_left
free_left-verbatim text chunk rest h v = rw h (rw v refl)

pub free_left-empty : (text : List ℕ) → length text ≡ 0 → free_left text ≡ []
unfolding free_left
free_left-empty text h = rw (chunks_left-empty text h) refl

pub verbatim_left-free : (text chunk rest : List ℕ) → chunks_left text ≡ (chunk ∷ chunks_left rest) → is_verbatim chunk ≡ false → verbatim_left text ≡ verbatim_left rest
unfolding verbatim_left
verbatim_left-free text chunk rest h v = rw h (rw v refl)

pub verbatim_left-verbatim : (text chunk rest : List ℕ) → chunks_left text ≡ (chunk ∷ chunks_left rest) → is_verbatim chunk ≡ true → verbatim_left text ≡ chunks_left text
unfolding verbatim_left
verbatim_left-verbatim text chunk rest h v = rw h (rw v refl)

pub verbatim_left-empty : (text : List ℕ) → length text ≡ 0 → verbatim_left text ≡ chunks_left text
unfolding verbatim_left
verbatim_left-empty text h = rw (chunks_left-empty text h) refl

pub ruleset free_steps = (free_left-some, free_left-verbatim, free_left-empty, verbatim_left-free, verbatim_left-verbatim, verbatim_left-empty)
