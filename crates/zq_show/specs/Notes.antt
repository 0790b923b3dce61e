-- Whom a request asked, and why it did not ask others.
use Rattle.std.specs.Prelude.{ℕ, ◌==◌, ◌&&◌, Bool, true, false, not, List, [], ◌∷◌, ◌++◌, Option, Some, None, codes, if◌then◌else◌, filter, map, length}
use Rattle.std.specs.Fmt.{decimal}
use Rattle.std.specs.List.{flat_map}
use Rattle.std.specs.Option.{is_some}
use Rattle.zq_message.specs.declared.message.FaceId.{FaceId}
use Rattle.zq_message.specs.declared.message.Message.{Message}
use Rattle.zq_message.specs.declared.message.Message.TheVariants as message
use Rattle.zq_message.specs.declared.message.QueryTarget.{QueryTarget}
use Rattle.zq_message.specs.declared.message.QueryableInfoType.{QueryableInfoType}
use Rattle.zq_message.specs.declared.message.QueryTarget.TheVariants as target
use Rattle.zq_message.specs.declared.message.Zid.{Zid}
use Rattle.zq_machine.specs.declared.call.Call.{Call}
use Rattle.zq_machine.specs.declared.call.Call.TheVariants as call
use Rattle.zq_machine.specs.declared.call.Outcome.{Outcome}
use Rattle.zq_machine.specs.declared.call.Outcome.TheVariants as outcome
use Rattle.zq_machine.specs.Handing.{Handed}
use Rattle.zq_route.specs.declared.selection.Best.{Best}
use Rattle.zq_route.specs.declared.selection.Best.TheVariants as best
use Rattle.zq_strategy.specs.declared.offer.QueryTargetQabl.{QueryTargetQabl}
use Rattle.zq_io.specs.Words.{field}
use Rattle.zq_io.specs.Values.{face_word}
use Rattle.zq_hat.specs.declared.unreached.RouterEntry.{RouterEntry}
use Rattle.zq_show.specs.Answer.{named}
use Rattle.zq_show.specs.declared.entry.Entry.{Entry}
use Rattle.zq_show.specs.declared.reasons.Missed.{Missed}
use Rattle.zq_show.specs.declared.reasons.Reason.{Reason}
use Rattle.zq_show.specs.declared.reasons.Reason.TheVariants as reason

-- the message is a request
abbrev pub asks : Message → Bool
asks (message.Request r) = true
asks _ = false

-- what is handed is a request, and leaves or not
abbrev pub is_request : Bool → Handed → Bool
is_request leaves h = asks h.message && (if leaves then is_some h.leaves else not (is_some h.leaves))

-- to whom it is handed
abbrev pub to_of : Handed → FaceId
to_of h = h.to

-- the faces that are handed a request that leaves, or one that does not, in order
abbrev pub picked : Bool → List Handed → List FaceId
picked leaves handed = map to_of (filter (is_request leaves) handed)

-- the numbers of faces
abbrev pub numbers_words : List FaceId → List ℕ
numbers_words faces = flat_map (λ face. field (face_word face)) faces

-- faces by their numbers, or that there is none
abbrev pub faces_words : List FaceId → List ℕ
faces_words faces = if length faces == 0 then codes " none" else numbers_words faces

-- the faces whose exits let nothing out
unfoldable pub stop_words : List FaceId → List ℕ
stop_words faces = codes "; stopped at the exit:" ++ numbers_words faces

-- the faces whose exits let nothing out, if there are any
unfoldable pub stopped_words : List FaceId → List ℕ
stopped_words faces = if length faces == 0 then [] else stop_words faces

-- what the target `best` asks
abbrev pub best_words : Best → List ℕ
best_words best.ByRegion = codes "`best` asks in each region the nearest complete one, or all if none is; asked faces:"
best_words best.Overall = codes "`best` asks over all regions the nearest complete one, or all if none is; asked faces:"

-- what a target asks
abbrev pub mode_words : Best → QueryTarget → List ℕ
mode_words b target.All = codes "`all` asks each; asked faces:"
mode_words b target.AllComplete = codes "`complete` asks those that are complete, or not known to be; asked faces:"
mode_words b target.BestMatching = best_words b

-- how far what gives an information is
abbrev pub far_words : Option QueryableInfoType → List ℕ
far_words None = []
far_words (Some i) = named (codes ", at distance ") i.distance

-- on which key and how far an offer is
unfoldable pub place_words : QueryTargetQabl → List ℕ
place_words o = codes " on " ++ o.key ++ far_words o.info

-- an offer as the nearest complete one
unfoldable pub won_words : QueryTargetQabl → List ℕ
won_words o = named (codes "; the nearest: face ") o.face.0 ++ place_words o

-- the nearest complete offer of all regions, where the choice fell on it
abbrev pub nearest_words : Option QueryTargetQabl → List ℕ
nearest_words None = []
nearest_words (Some o) = won_words o

-- whom the target asked, and whom it would have but for the exit
abbrev pub asked_note : Best → QueryTarget → Option QueryTargetQabl → List Handed → List ℕ
asked_note b target nearest handed = mode_words b target ++ faces_words (picked true handed) ++ stopped_words (picked false handed) ++ nearest_words nearest

-- the gateway that carries a request between two regions
unfoldable pub carrier_words : Zid → List ℕ
carrier_words zid = codes "by the list of gateways it is carried by gateway " ++ decimal zid.0

-- which gateway carries a request between two regions, or that none does
abbrev pub carried_words : Option Zid → List ℕ
carried_words (Some zid) = carrier_words zid
carried_words None = codes "who asks is itself in the list of gateways"

-- why a queryable was not asked
abbrev pub reason_words : Reason → List ℕ
reason_words reason.Denied = codes "the asker may not ask for this key (entry deny list)"
reason_words reason.Own = codes "its face is the asker's own"
reason_words reason.Region = codes "its region offers nothing to its own faces"
reason_words (reason.Carried carrier) = carried_words carrier
reason_words reason.Incomplete = codes "it is not complete on the key"
reason_words reason.Farther = codes "another is the nearest complete one"
reason_words reason.Earlier = codes "its face is asked by an earlier offer"

-- ids
abbrev pub ids_words : List ℕ → List ℕ
ids_words ids = flat_map (λ id. codes " " ++ decimal id) ids

-- who declared a key: a face under ids, or a router behind it
unfoldable pub owner_words : List ℕ → List ℕ
owner_words ids = if length ids == 0 then codes "a router behind" else codes "queryable" ++ ids_words ids ++ codes " of"

-- what was not asked, and why
unfoldable pub missed_note : Missed → List ℕ
missed_note m = codes "not asked: " ++ owner_words m.ids ++ codes " face " ++ decimal m.face.0 ++ codes " on " ++ m.key ++ codes ": " ++ reason_words m.reason

-- an entry of a router to which no way leads
unfoldable pub unreached_note : RouterEntry → List ℕ
unreached_note e = codes "not asked: queryable of router " ++ decimal e.router.0 ++ codes " on " ++ e.key ++ codes ": no way leads to it"

-- the notes of a request that was accepted
abbrev pub notes_by : Outcome → Call → Entry → List (List ℕ)
notes_by (outcome.Asked n) (call.Request face request now) e = asked_note e.best request.target e.judgement.nearest e.step.handed ∷ map missed_note e.judgement.missed ++ map unreached_note e.unreached
notes_by _ _ e = []

-- the notes of a call
abbrev pub notes_of : Entry → List (List ℕ)
notes_of entry = notes_by entry.step.outcome entry.call entry
