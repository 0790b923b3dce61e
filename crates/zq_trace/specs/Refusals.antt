-- What refuses a call, by the calls and answers before it.
use Rattle.std.specs.Prelude.{ℕ, ◌+◌, ◌^◌, ◌==◌, Bool, true, false, not, ◌||◌, ◌&&◌, nat_lt, List, [], ◌∷◌, ◌++◌, length, Option, if◌then◌else◌, is_none, slice_get}
use Rattle.std.specs.List.{list_any}
use Rattle.std.specs.Str.{bytes_eq}
use Rattle.std.specs.Option.{is_some, option_and_then, option_map, option_map_or}
use Rattle.zq_message.specs.declared.message.FaceId.{FaceId}
use Rattle.zq_message.specs.declared.message.Region.{Region}
use Rattle.zq_message.specs.declared.message.WireExpr.{WireExpr}
use Rattle.zq_message.specs.declared.message.Zid.{Zid}
use Rattle.zq_strategy.specs.Entries.{entry_of}
use Rattle.zq_strategy.specs.Kept.{has_any}
use Rattle.zq_strategy.specs.Regions.{is_upstream}
use Rattle.zq_strategy.specs.declared.types.Declaration.{Declaration}
use Rattle.zq_message.specs.Region.{region_index}
use Rattle.zq_interests.specs.Interests.{same_asked}
use Rattle.zq_interests.specs.declared.types.InterestEntry.{InterestEntry}
use Rattle.zq_strategy.specs.declared.offer.QueryTargetQabl.{QueryTargetQabl}
use Rattle.zq_tables.specs.Naming.{remaps, text_at}
use Rattle.zq_tables.specs.declared.resolved.Resolved.{Resolved}
use Rattle.zq_tables.specs.declared.resolved.Resolved.TheVariants as said
use Rattle.zq_strategy.specs.Nets.{is_zid}
use Rattle.zq_machine.specs.declared.call.Call.{Call}
use Rattle.zq_machine.specs.declared.call.Call.TheVariants as call
use Rattle.zq_machine.specs.declared.call.Refusal.{Refusal}
use Rattle.zq_machine.specs.declared.call.Refusal.TheVariants as refusal
use Rattle.zq_machine.specs.Configs.{Settings}
use Rattle.zq_machine.specs.Deciding.{Cause, first_of, marks_key}
use Rattle.zq_machine.specs.Gates.{is_sound}
use Rattle.zq_machine.specs.Selecting.{full_text, is_unscoped, says_key, says_key_or_nothing}
use Rattle.zq_machine.specs.State.{at}
use Rattle.zq_trace.specs.Faces.{Face, Trace, face_at, faces, says}
use Rattle.zq_trace.specs.Awaited.{free_id, in_flight, is_taken, next_reply, owner, pending}
use Rattle.zq_trace.specs.Selected.{faces_in, is_routers, regions, routers, select, source_of, strategy_in}
use Rattle.zq_trace.specs.Expected.{if_open, next_request, reply_says, timed_out}

-- what is left to the tellings of keys: that too few ids are left for what a call has to tell
abbrev pub Lacks : Type 0
Lacks = Trace → Call → Bool

-- what of an open face passes the test
abbrev pub of_face : Trace → FaceId → (Face → Bool) → Bool
of_face past face test = option_map_or test (face_at past face.0) false

-- the face was never opened, or is closed
abbrev pub unknown : Trace → FaceId → Cause
unknown past face = (is_none (face_at past face.0), refusal.UnknownFace)

-- the region is none of the configuration
abbrev pub no_region : Settings → Region → Cause
no_region config r = (not (list_any (λ (p : Region). region_index p == region_index r) (regions config)), refusal.UnknownRegion)

-- the region takes no further face: it is one of clients, and has one
abbrev pub is_full : Settings → Trace → Region → Bool
is_full config past r = is_upstream (strategy_in config r) && has_any (faces_in past r)

-- the number of the next face
abbrev pub next_face : Settings → Trace → ℕ
next_face config past = config.start.faces + length (faces past)

-- no number is left for the request, or no id at a face that is picked
abbrev pub lacks_id : Settings → Trace → List QueryTargetQabl → Bool
lacks_id config past os = (next_request config past + 1 == 2 ^ 64) || list_any (λ (o : QueryTargetQabl). is_none (free_id config past o.face.0)) os

-- fewer numbers of replies are left than so many
abbrev pub lacks_replies : Settings → Trace → ℕ → Bool
lacks_replies config past n = not (nat_lt (next_reply config past + n) (2 ^ 64))

-- what the face says by an expression
abbrev pub said_at : Trace → FaceId → WireExpr → Resolved
said_at past face w = option_map_or (says w) (face_at past face.0) said.Unscoped

-- an expression that has to say a key refuses
abbrev pub no_key : Resolved → List Cause
no_key s = (is_unscoped s, refusal.UnknownScope) ∷ (not (says_key s), refusal.InvalidKeyExpr) ∷ []

-- the face has another key under the id
abbrev pub clashes : ℕ → List ℕ → Face → Bool
clashes id key f = option_map_or (λ (d : Declaration). not (bytes_eq d.key key)) (at id f.queryables) false

-- the face asks for something else under the id
abbrev pub asks_else : ℕ → Option (List ℕ) → Face → Bool
asks_else id asked f = option_map_or (λ (was : InterestEntry). not (same_asked was.key asked)) (at id f.interests) false

-- the face's region is one of routers
abbrev pub is_router : Settings → Face → Bool
is_router config f = is_routers (strategy_in config f.region)

-- the node of the face stands for no router, or for the gateway itself
abbrev pub no_router : Settings → Trace → FaceId → ℕ → Cause
no_router config past face node = (of_face past face (λ f. option_map_or (is_zid config.zid) (source_of config node f) true), refusal.UnknownRouter)

-- the router that a node of the face stands for has an entry on the key
abbrev pub has_entry : Trace → ℕ → List ℕ → Face → Bool
has_entry past node key f = option_map_or (λ (z : Zid). is_some (entry_of z.0 key (routers past f.region).entries)) (slice_get f.nodes.ids node) false

-- a withdrawal refuses: in a region of routers by its expression, in any other by its id
abbrev pub no_entry : Settings → Trace → FaceId → ℕ → Option WireExpr → ℕ → List Cause
no_entry config past face id w node =
    let key = option_map_or (said_at past face) w said.Empty in
    if of_face past face (is_router config) then no_key key ++ no_router config past face node ∷ (not (of_face past face (has_entry past node (full_text key))), refusal.UnknownId) ∷ []
    else (not (of_face past face (λ f. is_some (at id f.queryables))), refusal.UnknownId) ∷ []

-- what may refuse a call, in order
abbrev pub causes : Lacks → Settings → Trace → Call → List Cause
causes lacks config past (call.Open x) =
    no_region config x.region ∷ (not (is_sound x), refusal.InvalidKeyExpr) ∷ (is_full config past x.region, refusal.UpstreamInUse) ∷ (next_face config past + 1 == 2 ^ 32, refusal.NoFreeId) ∷ (lacks past (call.Open x), refusal.NoFreeId) ∷ []
causes lacks config past (call.Close face) = unknown past face ∷ []
causes lacks config past (call.DeclareKeyExpr face id w) =
    unknown past face ∷ no_key (said_at past face w) ++ (of_face past face (λ f. remaps id (full_text (says w f)) (text_at id f.numbers.theirs)), refusal.Remapped) ∷ []
causes lacks config past (call.UndeclareKeyExpr face id) = unknown past face ∷ (of_face past face (λ f. is_none (text_at id f.numbers.theirs)), refusal.UnknownId) ∷ []
causes lacks config past (call.DeclareQueryable face id w info node) =
    unknown past face ∷ no_key (said_at past face w)
    ++ (if of_face past face (is_router config) then no_router config past face node else (of_face past face (clashes id (full_text (said_at past face w))), refusal.IdInUse))
    ∷ (lacks past (call.DeclareQueryable face id w info node), refusal.NoFreeId) ∷ []
causes lacks config past (call.UndeclareQueryable face id w node) = unknown past face ∷ no_entry config past face id w node
causes lacks config past (call.Interest face id keys aggregate w) =
    unknown past face ∷ option_map_or (λ x. no_key (said_at past face x)) w []
    ++ (of_face past face (asks_else id (option_map (λ x. full_text (said_at past face x)) w)), refusal.IdInUse) ∷ (lacks past (call.Interest face id keys aggregate w), refusal.NoFreeId) ∷ []
causes lacks config past (call.InterestFinal face id) = unknown past face ∷ (of_face past face (λ f. is_none (at id f.interests)), refusal.UnknownId) ∷ []
causes lacks config past (call.FinalizeInterest face mark set) = unknown past face ∷ (not (marks_key mark), refusal.InvalidKeyExpr) ∷ []
causes lacks config past (call.Request face r now) = unknown past face ∷ (lacks_id config past (select config past face r), refusal.NoFreeId) ∷ []
causes lacks config past (call.Response face r) =
    unknown past face ∷ (is_unscoped (reply_says past face r), refusal.UnknownScope) ∷ (not (is_taken (pending config past) face.0 r.rid), refusal.QueryNotFound)
    ∷ (not (says_key_or_nothing (reply_says past face r)), refusal.InvalidKeyExpr) ∷ (is_some (option_and_then (if_open past) (owner config past face.0 r.rid)) && (next_reply config past + 1 == 2 ^ 64), refusal.NoFreeId) ∷ []
causes lacks config past (call.ResponseFinal face rid) = unknown past face ∷ (not (is_taken (pending config past) face.0 rid), refusal.QueryNotFound) ∷ []
causes lacks config past (call.Sent reply) = (not (list_any (λ (f : ℕ × ℕ). f.1 == reply) (in_flight past)), refusal.NotInFlight) ∷ []
causes lacks config past (call.Poll now) = (lacks_replies config past (length (timed_out config past now)), refusal.NoFreeId) ∷ []
causes lacks config past (call.SetGateways r table) = no_region config r ∷ []
causes lacks config past (call.SetNetwork r net) = no_region config r ∷ []
causes lacks config past (call.SetNodeIds face ids) = unknown past face ∷ []

-- the first cause that holds
abbrev pub refusal_of : Lacks → Settings → Trace → Call → Option Refusal
refusal_of lacks config past c = first_of (causes lacks config past c)
