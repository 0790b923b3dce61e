-- What a gateway is seen as between two calls: lists.
use Rattle.std.specs.Prelude.{ℕ, ◌<◌, Bool, true, false, not, List, [], ◌∷◌, fold, map, Option, Some, None, if◌then◌else◌, nat_lt}
use Rattle.std.specs.Option.{is_some, option_map, option_map_or, option_and_then}
use Rattle.std.specs.List.{All, filter}
use Rattle.std.specs.Map.{keys_of, lookup, set_value}
use Rattle.std.specs.BTreeMap.{is_at}
use Rattle.std.specs.Ordering.{nat_cmp}
use Rattle.zq_message.specs.declared.message.Mode.{Mode}
use Rattle.zq_message.specs.declared.message.Region.{Region}
use Rattle.zq_message.specs.declared.message.Zid.{Zid}
use Rattle.zq_message.specs.declared.message.Region.TheVariants as region
use Rattle.zq_message.specs.Region.{region_index}
use Rattle.zq_message.specs.RegionMap.{value_at, with_entry}
use Rattle.zq_index.specs.Texts.{at_text}
use Rattle.zq_strategy.specs.Regions.{in_routers, strategy_at}
use Rattle.zq_strategy.specs.State.{HatState}
use Rattle.zq_strategy.specs.declared.types.FaceRecord.{FaceRecord}
use Rattle.zq_strategy.specs.Kept.{clashes_at, declaration_at, has_face, is_full, new_hat, with_face_opened}
use Rattle.zq_interests.specs.Interests.{Interests}
use Rattle.zq_query.specs.Records.{QueryState}
use Rattle.zq_tables.specs.Naming.{EntryRows, NamingState, no_naming}
use Rattle.zq_told.specs.ToldSets.{ToldSets}
use Rattle.zq_route.specs.declared.gateways.Gateways.{Gateways}
use Rattle.zq_machine.specs.declared.config.Entry.{Entry}
use Rattle.zq_machine.specs.declared.face.OpenFace.{OpenFace}
use Rattle.zq_machine.specs.Configs.{Settings, region_of, north_of}
use Rattle.zq_machine.specs.Gates.{Gates}

-- what decides: it holds texts, and no number that stands for one; what faces ask to hear and what is kept of what they were told stand with it
pub record Core : Type 0 where
  pub config : Settings
  pub faces : List (ℕ × OpenFace)
  pub next_face : ℕ
  pub hats : List (ℕ × HatState)
  pub tables : List (ℕ × Gateways)
  pub queries : QueryState
  pub interests : Interests
  pub ears : ToldSets

-- a gateway: what decides, what stands for keys at each face, and the gates of faces
pub record State : Type 0 where
  pub core : Core
  pub names : NamingState
  pub gates : Gates

-- a region's hat joins the others
abbrev pub with_hat : Settings → List (ℕ × HatState) → Entry → List (ℕ × HatState)
with_hat config hats e = with_entry hats (region_of e) (new_hat (region_of e) (north_of config.entries) config.zid config.start.told)

-- one hat for each region of the configuration
abbrev pub first_hats : Settings → List (ℕ × HatState)
first_hats config = fold (with_hat config) [] config.entries

-- what a hat is of: its region, the mode of a North, and the gateway's own id
abbrev pub kind_of : HatState → Region × (Mode × Zid)
kind_of h = (h.region, (h.north_mode, h.own))

-- no request was asked
abbrev pub no_queries : Settings → QueryState
no_queries config = record { records = []; last_ids = []; closed = []; requests = config.start.requests; replies = config.start.replies; request_ids = config.start.request_ids }

-- the keys on which routers of a region have an entry
abbrev pub entry_row : ℕ × HatState → ℕ × List (List ℕ)
entry_row p = (p.0, keys_of p.1.entries)

-- there is a key
abbrev pub has_keys : List (List ℕ) → Bool
has_keys [] = false
has_keys (k ∷ ks) = true

-- the keys on which routers have entries, of each region that has one
abbrev pub entry_rows : List (ℕ × HatState) → EntryRows
entry_rows hats = filter (λ row. has_keys row.1) (map entry_row hats)

-- routers of the region have an entry on the key
abbrev pub has_entries : List ℕ → HatState → Bool
has_entries key h = is_some (at_text key h.entries)

-- the gateway before any call
abbrev pub opening_state : Settings → State
opening_state config = record {
  core = record { config = config; faces = []; next_face = config.start.faces; hats = first_hats config; tables = []; queries = no_queries config; interests = []; ears = [] };
  names = no_naming;
  gates = [];
}

-- what stands at a number
abbrev pub at : {X : Type 0} → ℕ → List (ℕ × X) → Option X
at n entries = lookup (is_at (nat_cmp n)) entries

-- the face is open
abbrev pub is_open : ℕ → Core → Bool
is_open face c = is_some (at face c.faces)

-- a region of an id that regions have
abbrev pub is_region : Region → Bool
is_region region.North = true
is_region region.Local = true
is_region (region.South id mode) = not (nat_lt 255 id)

-- the hat of a region
abbrev pub hat_at : Region → List (ℕ × HatState) → Option HatState
hat_at r hats = if is_region r then value_at hats r else None

-- the region is one of the gateway's
abbrev pub has_hat : Region → Core → Bool
has_hat r c = is_some (hat_at r c.hats)

-- the region takes no further face
abbrev pub is_full_region : Region → Core → Bool
is_full_region r c = option_map_or is_full (hat_at r c.hats) false

-- a hat's region is one of routers
abbrev pub is_routing : HatState → Bool
is_routing h = in_routers (strategy_at h) true false

-- the hat that a face belongs to
abbrev pub hat_of : ℕ → Core → Option HatState
hat_of face c = option_and_then (λ (o : OpenFace). hat_at o.region c.hats) (at face c.faces)

-- a region's hat is changed, where the region has one
abbrev pub put_hat : Region → (HatState → HatState) → List (ℕ × HatState) → Option HatState → List (ℕ × HatState)
put_hat r f hats None = hats
put_hat r f hats (Some h) = set_value (is_at (nat_cmp (region_index r))) hats (f h)

-- a region's hat is changed
abbrev pub change_hat : Region → (HatState → HatState) → List (ℕ × HatState) → List (ℕ × HatState)
change_hat r f hats = put_hat r f hats (hat_at r hats)

-- the hat that a face belongs to is changed
abbrev pub change_hat_of : ℕ → (HatState → HatState) → Core → Core
change_hat_of face f c = record c { hats = option_map_or (λ (o : OpenFace). change_hat o.region f c.hats) (at face c.faces) c.hats }

-- a face joins a hat that does not have it
abbrev pub joined : FaceRecord → HatState → HatState
joined r h = if has_face r.face.0 h then h else with_face_opened r h

-- every number is below the next one
pub record AreBelow {X : Type 0} (n : ℕ) (entries : List (ℕ × X)) : Type 0 where
  pub each : All (λ k. k < n) (keys_of entries)

-- the face declared the id in the hat, if there is one
abbrev pub has_declared_in : ℕ → ℕ → Option HatState → Bool
has_declared_in face id None = false
has_declared_in face id (Some h) = is_some (declaration_at face id h)

-- the id stands for another key of the face in the hat, if there is one
abbrev pub clashes_in : ℕ → ℕ → List ℕ → Option HatState → Bool
clashes_in face id key None = false
clashes_in face id key (Some h) = clashes_at face id key h

-- an open face's region
abbrev pub region_in : OpenFace → Region
region_in o = o.region

-- the region of an open face
abbrev pub face_region : ℕ → Core → Option Region
face_region face c = option_map region_in (at face c.faces)
