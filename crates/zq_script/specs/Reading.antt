-- Lines that are read from a source one after another.
use Rattle.std.specs.Prelude.{◌≡◌, ◌≢◌, ℕ, List, ◌++◌, Option, Some, None}
use Rattle.std.specs.List.{AllByRecursion}
use Rattle.std.specs.Io.KnownBytes.{Consumes}
use Rattle.zq_lines.specs.Split.{lines_of}

-- no line ends in these bytes
abbrev pub IsPart : List ℕ → Type 0
IsPart bytes = AllByRecursion (λ b. b ≢ 10) bytes

-- these lines were read, where it is known what was left
abbrev pub ReadsLines : Option (List ℕ) → Option (List ℕ) → List (List ℕ) → Type 0
ReadsLines None new lines = Unit {0}
ReadsLines (Some xs) None lines = ⊥
ReadsLines (Some xs) (Some ys) lines = lines_of xs ≡ lines ++ lines_of ys

-- a front of the next line was read, and no more
abbrev pub ReadsPart : Option (List ℕ) → Option (List ℕ) → List ℕ → Type 0
ReadsPart old new part = Consumes old new part × IsPart part
