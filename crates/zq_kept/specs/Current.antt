-- Offers that are kept, and what they have to be.
use Rattle.std.specs.Prelude.{◌≡◌, ℕ, true, List, Option, Some, None, if◌then◌else◌, IfSome}
use Rattle.std.specs.List.{All}
use Rattle.std.specs.Map.{values_of}
use Rattle.std.specs.Option.{is_some}
use Rattle.zq_message.specs.declared.message.Region.{Region}
use Rattle.zq_strategy.specs.declared.offer.QueryTargetQabl.{QueryTargetQabl}
use Rattle.zq_strategy.specs.Offers.{offers_of}
use Rattle.zq_strategy.specs.Regions.{same_region}
use Rattle.zq_strategy.specs.State.{HatState}
use Rattle.zq_machine.specs.Selecting.{AskerState}
use Rattle.zq_machine.specs.State.{hat_at, is_region}
use Rattle.zq_tables.specs.Naming.{NamingState, has_context}
use Rattle.zq_kept.specs.Table.{Table, route_of}

-- the lists of offers that are kept, by text, by the region that offers, and by the region and the node that ask
abbrev pub KeptOffers : Type 0
KeptOffers = Table (List QueryTargetQabl)

-- each list that is kept is what its region offers now
abbrev pub AreCurrent : KeptOffers → List (ℕ × HatState) → Type 0
AreCurrent t hats = (r : Region) (k : List ℕ) (s : Region) (n : ℕ) (os : List QueryTargetQabl) → route_of r k s n t ≡ Some os → (h : HatState) → hat_at r hats ≡ Some h → os ≡ offers_of h s k (Some n)

-- the hat stands at its region, if that is one of an id that regions have
abbrev pub StandsAt : List (ℕ × HatState) → HatState → Type 0
StandsAt hats h = is_region h.region ≡ true → hat_at h.region hats ≡ Some h

-- each hat stands at its region
abbrev pub ArePlaced : List (ℕ × HatState) → Type 0
ArePlaced hats = All (StandsAt hats) (values_of hats)

-- the node by which a region offers to the asker: in its own region the place that its request comes from
abbrev pub context_for : AskerState → HatState → Option ℕ
context_for a h = if same_region a.opened.region h.region then a.context else Some 0

-- the node under which these offers are kept
abbrev pub node_for : AskerState → HatState → Option ℕ
node_for a h = if is_region h.region then context_for a h else None

-- what the region offers is kept for the asker, unless it has no node there
abbrev pub IsKeptFor : AskerState → List ℕ → KeptOffers → HatState → Type 0
IsKeptFor a key t h = IfSome (node_for a h) (λ n. is_some (route_of h.region key a.opened.region n t) ≡ true)

-- each list that was kept is kept
abbrev pub Keeps : KeptOffers → KeptOffers → Type 0
Keeps old new = (r : Region) (k : List ℕ) (s : Region) (n : ℕ) → is_some (route_of r k s n old) ≡ true → is_some (route_of r k s n new) ≡ true

-- each list that was kept on a text whose node the names have is kept
abbrev pub KeepsNamed : NamingState → KeptOffers → KeptOffers → Type 0
KeepsNamed names old new = (r : Region) (k : List ℕ) (s : Region) (n : ℕ) → has_context k names ≡ true → is_some (route_of r k s n old) ≡ true → is_some (route_of r k s n new) ≡ true
