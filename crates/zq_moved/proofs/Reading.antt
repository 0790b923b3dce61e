-- What a suffix says under no number is the suffix.
use Rattle.std.proofs.Common.{◌≡◌, refl, ℕ, List, [], ◌∷◌}
use Rattle.zq_tables.specs.Naming.{said_plainly}
use Rattle.zq_machine.specs.Selecting.{full_text}

pub full_plainly : (t : List ℕ) → full_text (said_plainly t) ≡ t
full_plainly [] = refl
full_plainly (b ∷ t) = refl
