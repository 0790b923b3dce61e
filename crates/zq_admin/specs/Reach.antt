-- Which of the keys behind a front can meet a key.
use Rattle.std.specs.Prelude.{◌≡◌, ℕ, List, [], filter, true, false}
use Rattle.zq_key.specs.Key.{intersects, is_key}
use Rattle.zq_key.specs.Space.{behind}
use Rattle.zq_hat.specs.Sources.{SourceTexts}
use Rattle.zq_hat.specs.Sourced.{is_asked}
use Rattle.zq_admin.specs.declared.reach.Reach.{Reach}
use Rattle.zq_admin.specs.declared.reach.Reach.TheVariants as reach

-- nothing else behind the front meets the key
abbrev pub Reaches : List ℕ → List ℕ → Reach → Type 0
Reaches front key reach.Nothing = (k : List ℕ) → intersects key (behind front k) ≡ false
Reaches front key (reach.Met rest) = (is_key rest.now ≡ true) × ((k : List ℕ) → intersects key (behind front k) ≡ true → intersects rest.now k ≡ true)
Reaches front key reach.All = Unit {0}

-- whether it reaches a part by a key, which is one
abbrev pub AsksKey : Reach → Type 0
AsksKey reach.Nothing = Unit {0}
AsksKey (reach.Met rest) = is_key rest.now ≡ true
AsksKey reach.All = Unit {0}

-- what stands on the keys that are reached
abbrev pub reached : Reach → SourceTexts → SourceTexts
reached reach.Nothing all = []
reached (reach.Met rest) all = filter (is_asked rest.now) all
reached reach.All all = all
