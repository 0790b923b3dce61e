-- The run of texts that begin with some bytes, in the order of texts.
use Rattle.std.proofs.Common.{◌≡◌, ◌≢◌, ℕ, ◌+◌, List, [], ◌∷◌, ◌++◌, refl, arith}
use Rattle.std.specs.declared.cmp.Ordering.{Ordering}
use Rattle.std.specs.declared.cmp.Ordering.TheVariants.{Less, Equal, Greater}
use Rattle.std.specs.Ordering.{nat_cmp, ordering_then}
use Rattle.std.specs.Cmp.Lexicographic.{slice_cmp}
use Rattle.std.proofs.lemmas.Cmp.{nat_list_cmp_total, ranked, tied_itself}

-- the order of texts, by their bytes
abbrev pub text_cmp : List ℕ → List ℕ → Ordering
text_cmp = slice_cmp nat_cmp

pub not_below_itself : (x : List ℕ) → text_cmp x x ≢ Less
not_below_itself x less = let same = tied_itself nat_list_cmp_total x in cc

-- x begins with p and the byte b
abbrev pub Begins : List ℕ → ℕ → List ℕ → Type 0
Begins p b x = (more : List ℕ) × (x ≡ p ++ b ∷ more)

nothing_less : (ys : List ℕ) → text_cmp ys [] ≡ Less → ⊥
nothing_less [] e = cc
nothing_less (y ∷ ys) e = cc

-- what isn't less than p and b and more, and is less than p and the byte after b, begins with p and b
pub squeezed_run : (p x r : List ℕ) (b : ℕ) → text_cmp x (p ++ b ∷ r) ≢ Less → text_cmp x (p ++ (b + 1) ∷ []) ≡ Less → Begins p b x
squeezed_run [] [] r b above below = absurd (above refl)
squeezed_run [] (a ∷ cs) r b above below = by (nat_cmp a b) (nat_cmp a (b + 1)) refl refl above below
  where
    by : (o u : Ordering) → o ≡ nat_cmp a b → u ≡ nat_cmp a (b + 1) → ordering_then o (text_cmp cs r) ≢ Less → ordering_then u (text_cmp cs []) ≡ Less → (m : List ℕ) × (a ∷ cs ≡ b ∷ m)
    by Less u o_is u_is above below = absurd (above refl)
    by Equal u o_is u_is above below = (cs, rw (ranked a b Equal o_is))
    by Greater Less o_is u_is above below = absurd (omega (arith, ranked a b Greater o_is, ranked a (b + 1) Less u_is))
    by Greater Equal o_is u_is above below = absurd (nothing_less cs below)
    by Greater Greater o_is u_is above below = cc
squeezed_run (d ∷ ds) [] r b above below = absurd (above refl)
squeezed_run (d ∷ ds) (a ∷ cs) r b above below = by (nat_cmp a d) refl above below (squeezed_run ds cs r b)
  where
    by : (o : Ordering) → o ≡ nat_cmp a d → ordering_then o (text_cmp cs (ds ++ b ∷ r)) ≢ Less → ordering_then o (text_cmp cs (ds ++ (b + 1) ∷ [])) ≡ Less
        → (text_cmp cs (ds ++ b ∷ r) ≢ Less → text_cmp cs (ds ++ (b + 1) ∷ []) ≡ Less → Begins ds b cs) → Begins (d ∷ ds) b (a ∷ cs)
    by Less is above below later = absurd (above refl)
    by Equal is above below later = let deeper = later above below in (deeper.0, rw (ranked a d Equal is, deeper.1))
    by Greater is above below later = cc

-- what begins with p and b comes before p and the byte after b
pub run_is_less : (p r : List ℕ) (b : ℕ) → text_cmp (p ++ b ∷ r) (p ++ (b + 1) ∷ []) ≡ Less
run_is_less [] r b = by (nat_cmp b (b + 1)) refl
  where
    by : (o : Ordering) → o ≡ nat_cmp b (b + 1) → ordering_then o (text_cmp r []) ≡ Less
    by Less is = refl
    by Equal is = absurd (omega (arith, ranked b (b + 1) Equal is))
    by Greater is = absurd (omega (arith, ranked b (b + 1) Greater is))
run_is_less (d ∷ ds) r b = by (nat_cmp d d) refl (run_is_less ds r b)
  where
    by : (o : Ordering) → o ≡ nat_cmp d d → text_cmp (ds ++ b ∷ r) (ds ++ (b + 1) ∷ []) ≡ Less → ordering_then o (text_cmp (ds ++ b ∷ r) (ds ++ (b + 1) ∷ [])) ≡ Less
    by Less is later = refl
    by Equal is later = later
    by Greater is later = absurd (omega (arith, ranked d d Greater is))
