-- What a hat is seen as: the lists that its calls left.
use Rattle.std.specs.Prelude.{ℕ, Bool, List}
use Rattle.zq_message.specs.declared.message.QueryableInfoType.{QueryableInfoType}
use Rattle.zq_message.specs.declared.message.Region.{Region}
use Rattle.zq_message.specs.declared.message.Mode.{Mode}
use Rattle.zq_message.specs.declared.message.Bound.{Bound}
use Rattle.zq_message.specs.declared.message.Zid.{Zid}
use Rattle.zq_strategy.specs.declared.types.Declaration.{Declaration}
use Rattle.zq_strategy.specs.declared.network.NodeIds.{NodeIds}
use Rattle.zq_strategy.specs.declared.network.Network.{Network}

-- a face of a hat: who it is; what it declared, by id; the id that it was told last; whether all that it had to declare at its opening has come; the keys, in order, on which all has come; its node table
pub record FaceState : Type 0 where
  pub zid : Zid
  pub mode : Mode
  pub remote_bound : Bound
  pub declared : List (ℕ × Declaration)
  pub last_told : ℕ
  pub initial : Bool
  pub finalized : List (List ℕ)
  pub nodes : NodeIds

-- a hat: its faces, by number; entries has for each key the routers' informations
pub record HatState : Type 0 where
  pub region : Region
  pub north_mode : Mode
  pub own : Zid
  pub told_start : ℕ
  pub faces : List (ℕ × FaceState)
  pub entries : List (List ℕ × List (ℕ × QueryableInfoType))
  pub network : Network
