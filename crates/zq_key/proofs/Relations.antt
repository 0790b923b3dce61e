-- The two relations of chunks: symmetry, and that both keep verbatim chunks apart from others.
use Rattle.std.proofs.Common.{◌≡◌, ℕ, Bool, true, false, cond, ◌||◌, List, [], ◌∷◌, refl, sym, ap, ◌∙◌}
use Rattle.std.specs.Str.{bytes_eq}
use Rattle.std.proofs.lemmas.Bool.Decides.{same_from_decides}
use Rattle.std.proofs.lemmas.Slice.Eq.{bytes_eq-Decides}
use Rattle.std.proofs.Math.Bool.{or_comm}
use Rattle.zq_key.specs.Key.{is_stars, is_star, is_verbatim, chunk_meets, chunk_covers, parts}
use Rattle.zq_key.specs.Chunks.{relates}
use Rattle.zq_key.specs.declared.key.Relation.{Relation}
use Rattle.zq_key.specs.declared.key.Relation.TheVariants.{Meets, Covers}
use Rattle.zq_key.proofs.Parts.{parts_meet-swap}

bytes_eq-swap : (a b : List ℕ) → bytes_eq a b ≡ bytes_eq b a
bytes_eq-swap a b = let d = bytes_eq-Decides a b in let e = bytes_eq-Decides b a in same_from_decides (bytes_eq a b) (bytes_eq b a) d ((λ h. sym (e.0 h)), (λ h. e.1 (sym h)))

pub chunk_meets-swap : (a b : List ℕ) → chunk_meets a b ≡ chunk_meets b a
unfolding chunk_meets
chunk_meets-swap a b = rw (or_comm (is_verbatim a) (is_verbatim b), bytes_eq-swap a b, parts_meet-swap (parts a) (parts b), or_comm (is_star a) (is_star b)) refl

-- `**` is not verbatim
pub stars-free : (x : List ℕ) → is_stars x ≡ true → is_verbatim x ≡ false
stars-free x h = let e = (bytes_eq-Decides x (42 ∷ 42 ∷ [])).0 h in rw e refl

-- two texts that are equal, or neither verbatim
same_kind : (a b : List ℕ) (t : Bool) → cond (is_verbatim a || is_verbatim b) (bytes_eq a b) t ≡ true → is_verbatim a ≡ is_verbatim b
same_kind a b t h = at (is_verbatim a) (is_verbatim b) refl refl
  where
    at : (s u : Bool) → is_verbatim a ≡ s → is_verbatim b ≡ u → is_verbatim a ≡ is_verbatim b
    at false false k l = k ∙ sym l
    at true u k l = ap is_verbatim ((bytes_eq-Decides a b).0 (rw k at h))
    at false true k l = ap is_verbatim ((bytes_eq-Decides a b).0 (rw (k, l) at h))

pub relates-kind : (r : Relation) (a b : List ℕ) → relates r a b ≡ true → is_verbatim a ≡ is_verbatim b
unfolding chunk_meets chunk_covers
relates-kind Meets a b h = same_kind a b _ h
relates-kind Covers a b h = same_kind a b _ h

pub ruleset swaps = (chunk_meets-swap)
