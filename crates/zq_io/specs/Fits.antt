-- The values that a word can say: numbers within their fields, and texts that are UTF-8.
use Rattle.std.specs.Prelude.{◌≡◌, ℕ, ◌≤◌, ◌<◌, List, Option, Some, None, All, true, ⊤}
use Rattle.std.specs.Str.{is_utf8}
use Rattle.zq_message.specs.declared.message.FaceId.{FaceId}
use Rattle.zq_message.specs.declared.message.Zid.{Zid}
use Rattle.zq_message.specs.declared.message.WireExpr.{WireExpr}
use Rattle.zq_message.specs.declared.message.Region.{Region}
use Rattle.zq_message.specs.declared.message.Region.TheVariants as region
use Rattle.zq_io.specs.Values.{most_16, most_32, most_128}

-- bytes
abbrev pub IsBytes : List ℕ → Type 0
IsBytes bytes = All (λ b. b < 256) bytes

-- bytes that are UTF-8
pub record IsText (bytes : List ℕ) : Type 0 where
  pub small : IsBytes bytes
  pub utf8 : is_utf8 bytes ≡ true

-- the number of a face
abbrev pub FitsFace : FaceId → Type 0
FitsFace face = face.0 ≤ most_32

-- an id
abbrev pub FitsZid : Zid → Type 0
FitsZid zid = zid.0 ≤ most_128

-- an expression
pub record FitsWire (wire : WireExpr) : Type 0 where
  pub scope : wire.scope ≤ most_16
  pub suffix : IsText wire.suffix

-- a value that fits, if there is one
abbrev pub FitsOption : {X : Type 0} → (X → Type 0) → Option X → Type 0
FitsOption P None = ⊤
FitsOption P (Some x) = P x

-- a region
abbrev pub FitsRegion : Region → Type 0
FitsRegion region.North = ⊤
FitsRegion region.Local = ⊤
FitsRegion (region.South id strategy) = id ≤ most_32
