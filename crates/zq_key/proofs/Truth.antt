-- Truth values, and what they say of options, where std has no word of it.
use Rattle.std.proofs.Common.{◌≡◌, Bool, true, false, Option, Some, None, refl, sym}
use Rattle.std.specs.Prelude.{◌||◌}
use Rattle.std.specs.Option.{is_some}
use Rattle.std.proofs.lemmas.Bool.{false≢true}

pub or_swap : (a b c : Bool) → (a || (b || c)) ≡ (b || (a || c))
or_swap true true c = refl
or_swap true false c = refl
or_swap false b c = refl

pub none_from : {X : Type 0} (o : Option X) → is_some o ≡ false → o ≡ None
none_from None is = refl
none_from (Some x) is = absurd (false≢true (sym is))

pub some_from : {X : Type 0} (o : Option X) → is_some o ≡ true → (x : X) × (o ≡ Some x)
some_from None is = absurd (false≢true is)
some_from (Some x) is = (x, refl)
