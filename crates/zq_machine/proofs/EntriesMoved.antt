-- Entries with all their values mapped: their values, and whether one is found.
use Rattle.std.proofs.Common.{◌≡◌, refl, ap, List, [], ◌∷◌, map, Option, Some, None}
use Rattle.std.specs.Option.{option_map, is_some}
use Rattle.std.specs.Map.{values_of}

pub is_some-map : {X Y : Type 0} (f : X → Y) (o : Option X) → is_some (option_map f o) ≡ is_some o
is_some-map f None = refl
is_some-map f (Some x) = refl

pub values-map : {K X Y : Type 0} (f : X → Y) (es : List (K × X)) → values_of (map (λ e. (e.0, f e.1)) es) ≡ map f (values_of es)
values-map f [] = refl
values-map f (e ∷ es) = ap (λ l. f e.1 ∷ l) (values-map f es)
