-- What `Routes` end as, where a reference to a route in them is returned.
use Rattle.std.specs.Prelude.{◌≡◌, ℕ, List, Option, Result, MatchResult, MatchOption, ⊤}
use Rattle.std.specs.Borrow.{Fml, RattleType, Bor, MutBor, follows_so}
use mathlib.Core.Option.{none}
use Rattle.zq_message.specs.declared.message.Region.{Region}
use Rattle.zq_route.specs.Routes.{Origin, route_at, with_route}
use Rattle.zq_route.specs.contracts.routes.Routes.{the_row}

module _ (T : RattleType) (s : MutBor (ℕ × List (Origin × T.Denot))) where
  -- they end so
  abbrev pub EndsAs : (ℕ × List (Origin × T.Denot) → Type 0) → Fml
  EndsAs P = follows_so (the_row T) (the_row T) s.ghost_name none (λ _ _. ⊤) P

  -- a stored route leaves them as they are; one that is computed is stored; an error leaves them as they are
  abbrev pub EndsStored : {E : Type 0} → ℕ → Region → ℕ → Result (Bor T.Denot) E → Fml
  EndsStored version region node r = EndsAs (λ n. MatchResult r (λ t. MatchOption (route_at version region node s.now) (n ≡ with_route version region node t.now s.now) (λ _. n ≡ s.now)) (λ _. n ≡ s.now))
