-- The laws at the parts of chunks.
use Rattle.std.proofs.Common.{◌≡◌, ℕ, length, is_none, List, [], ◌∷◌, Option, Some, None, refl, ◌∙◌, arith}
use Rattle.std.proofs.lemmas.Bool.Decides.{nat_tests}
use Rattle.zq_key.specs.Walk.{never}
use Rattle.zq_key.specs.Key.{parts, parts_meet, same_part}
use Rattle.zq_key.proofs.Meet.{meets-swap, meets-like}

pub parts-empty : (text : List ℕ) → length text ≡ 0 → parts text ≡ []
parts-empty [] h = refl
parts-empty (c ∷ text) h = absurd (omega arith)

pub same_part-swap : (x y : Option ℕ) → same_part x y ≡ same_part y x
same_part-swap None None = refl
same_part-swap None (Some d) = refl
same_part-swap (Some c) None = refl
same_part-swap (Some c) (Some d) = grind (arith, nat_tests)

pub parts_meet-swap : (a b : List (Option ℕ)) → parts_meet a b ≡ parts_meet b a
parts_meet-swap a b = meets-swap is_none never same_part (λ _ _. refl) a b ∙ meets-like is_none never (λ x y. same_part y x) same_part (λ x y. same_part-swap y x) b a

pub ruleset swaps = (same_part-swap)

pub ruleset ends = (parts-empty)
