-- The chunks that are left of a key, as the code walks along it.
use Rattle.std.specs.Prelude.{ℕ, Bool, false, List, [], ◌∷◌}
use Rattle.zq_key.specs.Match.{meets_by, covers_by}
use Rattle.zq_key.specs.Walk.{before_fixed, from_fixed}
use Rattle.zq_key.specs.Key.{chunks, is_stars, is_verbatim, chunk_meets, chunk_covers}
use Rattle.zq_key.specs.declared.key.Relation.{Relation}
use Rattle.zq_key.specs.declared.key.Relation.TheVariants.{Meets, Covers}

-- a list of chunks without an empty last one
abbrev pub trim : List (List ℕ) → List (List ℕ)
trim [] = []
trim ([] ∷ []) = []
trim ((c ∷ chunk) ∷ []) = (c ∷ chunk) ∷ []
trim (chunk ∷ next ∷ rest) = chunk ∷ trim (next ∷ rest)

-- the chunks of what is left of a key, none where nothing is left
unfoldable pub chunks_left : List ℕ → List (List ℕ)
chunks_left text = trim (chunks text)

-- the chunks that are left before a verbatim one
unfoldable pub free_left : List ℕ → List (List ℕ)
free_left text = before_fixed is_verbatim (chunks_left text)

-- the chunks that are left from the first verbatim one on
unfoldable pub verbatim_left : List ℕ → List (List ℕ)
verbatim_left text = from_fixed is_verbatim (chunks_left text)

-- the relation of two chunks, neither of them `**`
abbrev pub relates : Relation → List ℕ → List ℕ → Bool
relates Meets a b = chunk_meets a b
relates Covers a b = chunk_covers a b

-- the two recursions on lists of chunks without verbatim ones
abbrev pub lists_cover : Relation → List (List ℕ) → List (List ℕ) → Bool
lists_cover relation a b = covers_by is_stars (λ _. false) (relates relation) a b

-- whether the chunks meet, none of them verbatim
abbrev pub lists_meet : Relation → List (List ℕ) → List (List ℕ) → Bool
lists_meet relation a b = meets_by is_stars (λ _. false) (relates relation) a b

-- the recursion of a relation on lists of chunks without verbatim ones
abbrev pub lists_relate : Relation → List (List ℕ) → List (List ℕ) → Bool
lists_relate Meets a b = lists_meet Meets a b
lists_relate Covers a b = lists_cover Covers a b

-- the recursion of a relation on lists of chunks
unfoldable pub keys_relate : Relation → List (List ℕ) → List (List ℕ) → Bool
keys_relate Meets a b = meets_by is_stars is_verbatim chunk_meets a b
keys_relate Covers a b = covers_by is_stars is_verbatim chunk_covers a b
