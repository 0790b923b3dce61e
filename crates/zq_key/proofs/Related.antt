-- One round of the code over two keys: the chunks before the next verbatim ones, and these.
use Rattle.std.proofs.Common.{◌≡◌, ℕ, true, false, ◌&&◌, List, [], ◌∷◌, refl, ◌∙◌}
use Rattle.std.proofs.Math.Bool.{and-false}
use Rattle.zq_key.specs.Walk.{both_go_on}
use Rattle.zq_key.specs.Key.{is_stars, is_verbatim, chunk_meets, chunk_covers}
use Rattle.zq_key.specs.Chunks.{chunks_left, relates, free_left, verbatim_left, lists_relate, keys_relate}
use Rattle.zq_key.specs.declared.key.Relation.{Relation}
use Rattle.zq_key.specs.declared.key.Relation.TheVariants.{Meets, Covers}
use Rattle.zq_key.proofs.Meet.{meets-split, covers-split}
use Rattle.zq_key.proofs.Relations.{stars-free, relates-kind}

pub keys_relate-round : (r : Relation) (a b : List ℕ) → keys_relate r (chunks_left a) (chunks_left b) ≡ (lists_relate r (free_left a) (free_left b) && both_go_on (relates r) (keys_relate r) (verbatim_left a) (verbatim_left b))
unfolding keys_relate free_left verbatim_left
keys_relate-round Meets a b = meets-split is_stars is_verbatim chunk_meets stars-free (relates-kind Meets) (chunks_left a) (chunks_left b)
keys_relate-round Covers a b = covers-split is_stars is_verbatim chunk_covers stars-free (relates-kind Covers) (chunks_left a) (chunks_left b)

-- the fronts differ
pub round-front : (r : Relation) (a b : List ℕ) → lists_relate r (free_left a) (free_left b) ≡ false → keys_relate r (chunks_left a) (chunks_left b) ≡ false
round-front r a b h = keys_relate-round r a b ∙ (rw h refl)

-- neither key has a verbatim chunk left
pub round-ends : (r : Relation) (a b : List ℕ) → lists_relate r (free_left a) (free_left b) ≡ true → verbatim_left a ≡ [] → verbatim_left b ≡ [] → keys_relate r (chunks_left a) (chunks_left b) ≡ true
round-ends r a b h ea eb = keys_relate-round r a b ∙ (rw (h, ea, eb) refl)

-- the first key has none left
pub round-first : (r : Relation) (a b y q : List ℕ) → verbatim_left a ≡ [] → verbatim_left b ≡ (y ∷ chunks_left q) → keys_relate r (chunks_left a) (chunks_left b) ≡ false
round-first r a b y q ea eb = keys_relate-round r a b ∙ (rw (ea, eb) (and-false (lists_relate r (free_left a) (free_left b))))

-- the second key has none left
pub round-second : (r : Relation) (a b x p : List ℕ) → verbatim_left a ≡ (x ∷ chunks_left p) → verbatim_left b ≡ [] → keys_relate r (chunks_left a) (chunks_left b) ≡ false
round-second r a b x p ea eb = keys_relate-round r a b ∙ (rw (ea, eb) (and-false (lists_relate r (free_left a) (free_left b))))

-- both go on
pub round-both : (r : Relation) (a b x p y q : List ℕ) → lists_relate r (free_left a) (free_left b) ≡ true → verbatim_left a ≡ (x ∷ chunks_left p) → verbatim_left b ≡ (y ∷ chunks_left q) → keys_relate r (chunks_left a) (chunks_left b) ≡ (relates r x y && keys_relate r (chunks_left p) (chunks_left q))
round-both r a b x p y q h ea eb = keys_relate-round r a b ∙ (rw (h, ea, eb) refl)

pub round-differ : (r : Relation) (a b x p y q : List ℕ) → lists_relate r (free_left a) (free_left b) ≡ true → verbatim_left a ≡ (x ∷ chunks_left p) → verbatim_left b ≡ (y ∷ chunks_left q) → relates r x y ≡ false → keys_relate r (chunks_left a) (chunks_left b) ≡ false
round-differ r a b x p y q h ea eb k = round-both r a b x p y q h ea eb ∙ (rw k refl)

pub round-on : (r : Relation) (a b x p y q : List ℕ) → lists_relate r (free_left a) (free_left b) ≡ true → verbatim_left a ≡ (x ∷ chunks_left p) → verbatim_left b ≡ (y ∷ chunks_left q) → relates r x y ≡ true → keys_relate r (chunks_left a) (chunks_left b) ≡ keys_relate r (chunks_left p) (chunks_left q)
round-on r a b x p y q h ea eb k = round-both r a b x p y q h ea eb ∙ (rw k refl)

pub ruleset rounds = (round-front, round-ends, round-first, round-second)
