-- A gateway whose faces are an asker and storages, all of them in Local.
use Rattle.std.specs.Prelude.{◌≡◌, ◌<◌, ℕ, ◌+◌, List, [], ◌∷◌, ◌++◌, map, None, length}
use Rattle.std.specs.List.{AllByRecursion}
use Rattle.zq_message.specs.declared.message.Bound.TheVariants as bound
use Rattle.zq_message.specs.declared.message.Mode.TheVariants as mode
use Rattle.zq_message.specs.declared.message.QueryableInfoType.{QueryableInfoType}
use Rattle.zq_message.specs.declared.message.Region.TheVariants as region
use Rattle.zq_message.specs.declared.message.Zid.{Zid}
use Rattle.zq_strategy.specs.Kept.{declare, new_face, new_hat}
use Rattle.zq_strategy.specs.State.{FaceState, HatState}
use Rattle.zq_query.specs.Records.{QueryState}
use Rattle.zq_machine.specs.Configs.{Settings, north_of}
use Rattle.zq_machine.specs.Deciding.{opened, seat}
use Rattle.zq_machine.specs.State.{State}
use Rattle.zq_machine.specs.declared.call.Opening.{Opening}
use Rattle.zq_machine.specs.declared.face.OpenFace.{OpenFace}
use Rattle.zq_local.specs.Picking.{Seat}

-- how the asker and each storage is opened
abbrev pub local_opening : Zid → Opening
local_opening zid = record { region = region.Local; zid = zid; mode = mode.Client; remote_bound = bound.North; namespace = None; entry_deny = []; exit_deny = [] }

-- the faces are numbered one after another, from this number on
abbrev pub AreNumbered : ℕ → List Seat → Type 0
AreNumbered n [] = Unit {0}
AreNumbered n (s ∷ ss) = (s.face.0 ≡ n) × AreNumbered (n + 1) ss

-- a storage's face among the open ones
abbrev pub open_entry : Zid → Seat → ℕ × OpenFace
open_entry zid s = (s.face.0, opened (local_opening zid))

-- the open faces
abbrev pub open_faces : Zid → ℕ → List Seat → List (ℕ × OpenFace)
open_faces zid asker ss = (asker, opened (local_opening zid)) ∷ map (open_entry zid) ss

-- what a storage declares of its key
abbrev pub seat_info : Seat → QueryableInfoType
seat_info s = record { complete = s.complete; distance = 0 }

-- a face that declared nothing
abbrev pub bare_face : Settings → ℕ → FaceState
bare_face config n = new_face (seat n (local_opening config.zid)) config.start.told

-- a storage's face, with its one declaration
abbrev pub seat_entry : Settings → Seat → ℕ × FaceState
seat_entry config s = (s.face.0, declare 1 s.key (seat_info s) (bare_face config s.face.0))

-- the hat of Local with these faces
abbrev pub hat_with : Settings → List (ℕ × FaceState) → HatState
hat_with config faces = record (new_hat region.Local (north_of config.entries) config.zid config.start.told) { faces = faces }

-- the faces of the hat of Local
abbrev pub hat_faces : Settings → ℕ → List Seat → List (ℕ × FaceState)
hat_faces config asker ss = (asker, bare_face config asker) ∷ map (seat_entry config) ss

-- another region's hat: without faces, and without entries
pub record IsBare (h : HatState) : Type 0 where
  pub faces : h.faces ≡ []
  pub entries : h.entries ≡ []

-- Local's hat is this one, and those before and after it in the order of regions are bare
pub record AreHats (hats : List (ℕ × HatState)) (local : HatState) : Type 0 where
  pub before : List (ℕ × HatState)
  pub after : List (ℕ × HatState)
  pub parts : hats ≡ before ++ (1, local) ∷ after
  pub none_before : AllByRecursion (λ (e : ℕ × HatState). (e.0 < 1) × IsBare e.1) before
  pub none_after : AllByRecursion (λ (e : ℕ × HatState). (1 < e.0) × IsBare e.1) after

-- nothing is open, no face closed, and these are the next numbers of requests and of replies
pub record IsQuiet (requests replies : ℕ) (q : QueryState) : Type 0 where
  pub records : q.records ≡ []
  pub closed : q.closed ≡ []
  pub asked : q.requests ≡ requests
  pub replied : q.replies ≡ replies

-- the asker and the storages are the gateway's faces; nobody asks to hear, and nothing is open
pub record IsSeated (asker : ℕ) (ss : List Seat) (requests replies : ℕ) (s : State) : Type 0 where
  pub numbered : AreNumbered (asker + 1) ss
  pub next : s.core.next_face ≡ asker + 1 + length ss
  pub faces : s.core.faces ≡ open_faces s.core.config.zid asker ss
  pub hats : AreHats s.core.hats (hat_with s.core.config (hat_faces s.core.config asker ss))
  pub interests : s.core.interests ≡ []
  pub gates : s.gates ≡ []
  pub quiet : IsQuiet requests replies s.core.queries
