-- What a handle has.
use Rattle.std.proofs.Common.{◌≡◌, Bool, false, Option, Some, None, refl, sym, ◌∙◌}
use Rattle.std.proofs.lemmas.Bool.{false≢true}
use Rattle.std.specs.Prelude.{IsSome, IsTrue, ◌↔◌}

-- a handle that is not live has nothing
pub none_of : {X : Type 0} (o : Option X) (live : Bool) → (IsTrue live ↔ IsSome o) → live ≡ false → o ≡ None
none_of None live both e = refl
none_of (Some x) live both e = absurd (false≢true (sym e ∙ both.1 refl))
