-- Which declared keys meet one that is asked for, and what is gathered at them.
use Rattle.std.specs.Prelude.{ℕ, ◌≡◌, Bool, List, [], ◌∷◌}
use Rattle.zq_key.specs.Key.{intersects}

-- the entry's key meets what is asked for
abbrev pub is_met : {V : Type 0} → List ℕ → List ℕ × V → Bool
is_met q e = intersects e.0 q

-- this comes of that where one after the other is gathered
abbrev pub AllGathered : {E T : Type 0} → (T → E → T → Type 0) → T → List E → T → Type 0
AllGathered gathers was [] end = was ≡ end
AllGathered {E} {T} gathers was (e ∷ es) end = (next : T) × gathers was e next × AllGathered gathers next es end
