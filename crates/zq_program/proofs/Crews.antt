-- The first of a list and the others.
use Rattle.std.proofs.Common.{ℕ, ◌<◌, All, List, [], ◌∷◌, length, get_or, map, set, sym, subst, arith, Bool}
use Rattle.std.specs.Prelude.{◌&&◌}
use Rattle.std.specs.List.{IsFirstAndRest}
use Rattle.std.proofs.lemmas.List.Elements.{All-head, All-same, All-tail}
use Rattle.zq_program.specs.Faults.{HasFaults, HaveFaults}
use Rattle.zq_program.proofs.Faults.{have_cons, have_first, have_on}

module _ {X : Type 0} (P : X → Type 0) (all : List X) (first : X) (rest : List X) where
  pub all_first : All P all → IsFirstAndRest all first rest → P first
  all_first h e = All-head P first rest (All-same P (first ∷ rest) all (sym e.0) h)

  pub all_rest : All P all → IsFirstAndRest all first rest → All P rest
  all_rest h e = All-tail P first rest (All-same P (first ∷ rest) all (sym e.0) h)

pub first_served : {X : Type 0} (f : X → ℕ) (s t : Bool) (links others : List X) (link : X) (n : ℕ) (ns : List ℕ) → IsFirstAndRest links link others → HasFaults s (f link) n → HaveFaults t (map f others) ns → HaveFaults (s && t) (map f links) (n ∷ ns)
first_served {X} f s t links others link n ns e h k = subst (λ (l : List X). HaveFaults (s && t) (map f l) (n ∷ ns)) (sym e.0) (have_cons s t (f link) n (map f others) ns h k)

-- ---- the first of the links twice
pub served_first : {X : Type 0} (f : X → ℕ) (s t : Bool) (links : List X) (d link : X) (ns : List ℕ) → 0 < length links → HasFaults s (f (get_or links 0 d)) (f link) → HaveFaults t (map f (set links 0 link)) ns → HaveFaults (s && t) (map f links) ns
served_first f s t [] d link ns some h k = absurd (omega arith)
served_first f s t (x ∷ xs) d link ns some h k = have_on s t (f x ∷ map f xs) (f link ∷ map f xs) ns (have_first s (f x) (f link) (map f xs) h) k
