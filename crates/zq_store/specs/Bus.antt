-- A gateway with an asker and storages, all of them faces of Local.
use Rattle.std.specs.Prelude.{◌≡◌, ℕ, ◌+◌, ◌==◌, ◌^◌, Bool, true, false, not, List, [], ◌∷◌, ◌++◌, Option, Some, None, if◌then◌else◌, length, slice_get}
use Rattle.std.specs.List.{list_all}
use Rattle.zq_message.specs.declared.message.Bound.TheVariants as bound
use Rattle.zq_message.specs.declared.message.FaceId.{FaceId}
use Rattle.zq_message.specs.declared.message.Mode.TheVariants as mode
use Rattle.zq_message.specs.declared.message.Region.TheVariants as region
use Rattle.zq_message.specs.declared.message.Zid.{Zid}
use Rattle.zq_tables.specs.Naming.{plain}
use Rattle.zq_machine.specs.declared.call.Call.{Call}
use Rattle.zq_machine.specs.declared.call.Call.TheVariants as call
use Rattle.zq_machine.specs.declared.call.Opening.{Opening}
use Rattle.zq_machine.specs.Configs.{Settings, has_local}
use Rattle.zq_machine.specs.Machine.{after, state_after}
use Rattle.zq_machine.specs.State.{State, opening_state}
use Rattle.zq_local.specs.Seated.{IsSeated}
use Rattle.zq_store.specs.Held.{Change}
use Rattle.zq_store.specs.Stores.{Stored, change_at, holds_own, new_store, numbered, refusal_at}
use Rattle.zq_store.specs.Seats.{seats}
use Rattle.zq_store.specs.declared.bus.BusRefusal.{BusRefusal}
use Rattle.zq_store.specs.declared.bus.BusRefusal.TheVariants as refusal
use Rattle.zq_store.specs.declared.stores.PutRefusal.{PutRefusal}

-- a gateway with its asker and its storages; the numbers of its next face, request and reply; and whether a call found no memory
pub record BusState : Type 0 where
  pub gateway : State
  pub asker : FaceId
  pub next_face : ℕ
  pub next_request : ℕ
  pub next_reply : ℕ
  pub stores : List Stored
  pub spent : Bool

-- how the asker and each storage is opened
abbrev pub local_opening : Zid → Opening
local_opening zid = record { region = region.Local; zid = zid; mode = mode.Client; remote_bound = bound.North; namespace = None; entry_deny = []; exit_deny = [] }

-- ---- a new bus

-- why there is none
abbrev pub new_refusal : Settings → Option BusRefusal
new_refusal config =
    if not (has_local config.entries) then Some refusal.NoLocal
    else (if config.start.faces + 1 == 2 ^ 32 then Some refusal.NoFreeId else None)

-- the bus of a configuration, with its asker
abbrev pub new_bus : Settings → BusState
new_bus config = record {
  gateway = after (opening_state config) (call.Open (local_opening config.zid));
  asker = record { 0 = config.start.faces };
  next_face = config.start.faces + 1;
  next_request = config.start.requests;
  next_reply = config.start.replies;
  stores = [];
  spent = false;
}

-- ---- storages that join

-- why none can
abbrev pub add_refusal : BusState → Option BusRefusal
add_refusal b = if b.spent then Some refusal.Spent else (if b.next_face + 1 == 2 ^ 32 then Some refusal.NoFreeId else None)

-- the declaration of a storage
abbrev pub store_call : FaceId → List ℕ → Bool → Call
store_call face key complete = call.DeclareQueryable face 1 (plain key) (record { complete = complete; distance = 0 }) 0

-- the calls of a storage that joins at a face: it is opened, and declares its key
abbrev pub join_calls : Zid → FaceId → List ℕ → Bool → List Call
join_calls zid face key complete = call.Open (local_opening zid) ∷ store_call face key complete ∷ []

-- the face that the next storage has
abbrev pub free_face : BusState → FaceId
free_face b = record { 0 = b.next_face }

-- the bus after a storage joined
abbrev pub added : List ℕ → Bool → BusState → BusState
added key complete b = record b {
  gateway = state_after b.gateway (join_calls b.gateway.core.config.zid (free_face b) key complete);
  next_face = b.next_face + 1;
  stores = b.stores ++ new_store key (free_face b) complete ∷ [];
}

-- ---- puts and deletes

-- why the storage with this number does not take the key
abbrev pub put_refusal : ℕ → List ℕ → BusState → Option PutRefusal
put_refusal store key b = refusal_at key (slice_get b.stores store)

-- the bus after a change of a storage
abbrev pub with_change : ℕ → Change → BusState → BusState
with_change store c b = record b { stores = change_at store c b.stores }

-- ---- what is kept

-- the asker and the storages are the faces of the gateway, nothing is open, and these are the next numbers
abbrev pub IsServed : BusState → Type 0
IsServed b = IsSeated b.asker.0 (seats b.stores) b.next_request b.next_reply b.gateway

-- what holds of a bus between two calls: its storages are numbered by their faces and hold what fits them, and unless it is spent it is served
pub record IsBus (b : BusState) : Type 0 where
  pub next : b.next_face ≡ b.asker.0 + 1 + length b.stores
  pub faces : numbered (b.asker.0 + 1) b.stores ≡ true
  pub held : list_all holds_own b.stores ≡ true
  pub served : b.spent ≡ false → IsServed b

-- a call found no memory: the bus is spent, and holds what it held
pub record IsSpent (old new : BusState) : Type 0 where
  pub spent : new.spent ≡ true
  pub stores : new.stores ≡ old.stores
