-- What holds of a gateway whose faces are an asker and storages.
use Rattle.std.specs.Prelude.{◌≡◌, ℕ, ◌+◌, ◌^◌, ◌==◌, true, false, List, [], ◌∷◌, ◌++◌, length, map}
use Rattle.zq_key.specs.Key.{is_key}
use Rattle.zq_message.specs.declared.message.FaceId.{FaceId}
use Rattle.zq_message.specs.declared.message.Request.{Request}
use Rattle.zq_tables.specs.Naming.{plain}
use Rattle.zq_tables.specs.declared.resolved.Resolved.TheVariants as said
use Rattle.zq_machine.specs.declared.call.Call.{Call}
use Rattle.zq_machine.specs.declared.call.Call.TheVariants as call
use Rattle.zq_machine.specs.Configs.{Settings, has_local}
use Rattle.zq_machine.specs.Machine.{after}
use Rattle.zq_machine.specs.Selecting.{select, target_of}
use Rattle.zq_machine.specs.State.{State, opening_state}
use Rattle.zq_local.specs.Picking.{Seat, picked}
use Rattle.zq_local.specs.Seated.{IsSeated, local_opening, seat_info}

-- the face of a storage
abbrev pub face_of : Seat → FaceId
face_of s = s.face

-- a request of the asker on a key is handed to the storages that its target picks, in their order
abbrev pub AsksPicked : Type 0
AsksPicked = (asker : ℕ) (ss : List Seat) (requests replies : ℕ) (s : State) (q : List ℕ) (r : Request)
    → IsSeated asker ss requests replies s → is_key q ≡ true → map target_of (select s.core (record { 0 = asker }) (said.Full q) r) ≡ map face_of (picked q r.target ss)

-- a new gateway has its asker alone, if its configuration has Local and a number for a face
abbrev pub AsksFirst : Type 0
AsksFirst = (config : Settings) → has_local config.entries ≡ true → (config.start.faces + 1 == 2 ^ 32) ≡ false
    → IsSeated config.start.faces [] config.start.requests config.start.replies (after (opening_state config) (call.Open (local_opening config.zid)))

-- the declaration of a storage
abbrev pub seat_call : Seat → Call
seat_call s = call.DeclareQueryable s.face 1 (plain s.key) (seat_info s) 0

-- a storage with the next face joins the others, by its opening and its declaration, if there is a number for its face
abbrev pub JoinsOthers : Type 0
JoinsOthers = (asker : ℕ) (ss : List Seat) (requests replies : ℕ) (s : State) (seat : Seat) → IsSeated asker ss requests replies s
    → seat.face ≡ record { 0 = asker + 1 + length ss } → (asker + 1 + length ss + 1 == 2 ^ 32) ≡ false → is_key seat.key ≡ true
    → IsSeated asker (ss ++ seat ∷ []) requests replies (after (after s (call.Open (local_opening s.core.config.zid))) (seat_call seat))
