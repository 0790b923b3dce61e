-- The order of texts that are joined of two parts.
use Rattle.std.proofs.Common.{◌≡◌, ℕ, ◌<◌, List, [], ◌∷◌, ◌++◌, length, refl, arith}
use Rattle.std.specs.declared.cmp.Ordering.{Ordering}
use Rattle.std.specs.declared.cmp.Ordering.TheVariants.{Less, Equal, Greater}
use Rattle.std.specs.Ordering.{nat_cmp, ordering_then}
use Rattle.zq_names.specs.Texts.{text_cmp}

-- a text that is shorter than the head is compared to the head alone
pub cmp-shorter : (t h u : List ℕ) → length t < length h → text_cmp t (h ++ u) ≡ text_cmp t h
cmp-shorter t [] u lt = absurd (omega arith)
cmp-shorter [] (b ∷ h) u lt = refl
cmp-shorter (a ∷ t) (b ∷ h) u lt = rw (cmp-shorter t h u (omega arith))

then_assoc : (x y z : Ordering) → ordering_then x (ordering_then y z) ≡ ordering_then (ordering_then x y) z
then_assoc Less y z = refl
then_assoc Equal y z = refl
then_assoc Greater y z = refl

-- heads of one length are compared first
pub cmp-joined : (f r h u : List ℕ) → length f ≡ length h → text_cmp (f ++ r) (h ++ u) ≡ ordering_then (text_cmp f h) (text_cmp r u)
cmp-joined [] r [] u e = refl
cmp-joined [] r (b ∷ h) u e = absurd (omega arith)
cmp-joined (a ∷ f) r [] u e = absurd (omega arith)
cmp-joined (a ∷ f) r (b ∷ h) u e = rw (cmp-joined f r h u (omega arith)) (then_assoc (nat_cmp a b) (text_cmp f h) (text_cmp r u))
