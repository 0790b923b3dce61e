-- What stands of each face, and of the lists of gateways, by the calls of a run and their answers alone.
use Rattle.zq_message.specs.Region.{region_index}
use Rattle.zq_strategy.specs.Entries.{Entries, staying, with_entry, without_entry}
use Rattle.zq_strategy.specs.Nets.{is_listed}
use Rattle.zq_strategy.specs.Routers.{zid_at}
use Rattle.std.specs.Prelude.{◌≡◌, ℕ, ◌==◌, ◌&&◌, Bool, false, List, [], ◌∷◌, fold, Option, Some, None, if◌then◌else◌}
use Rattle.std.specs.Map.{remove_entry}
use Rattle.std.specs.BTreeMap.{insert_entry, is_at}
use Rattle.std.specs.Option.{option_and_then, option_map, option_map_or}
use Rattle.std.specs.Ordering.{nat_cmp}
use Rattle.zq_message.specs.declared.message.DeclareBody.{DeclareBody}
use Rattle.zq_message.specs.declared.message.DeclareBody.TheVariants as body
use Rattle.zq_message.specs.declared.message.Message.{Message}
use Rattle.zq_message.specs.declared.message.Message.TheVariants as message
use Rattle.zq_message.specs.declared.message.QueryableInfoType.{QueryableInfoType}
use Rattle.zq_message.specs.declared.message.Region.{Region}
use Rattle.zq_message.specs.declared.message.Zid.{Zid}
use Rattle.zq_message.specs.declared.message.WireExpr.{WireExpr}
use Rattle.zq_message.specs.RegionMap.{with_entry as with_value}
use Rattle.zq_strategy.specs.Kept.{declare, face_at, new_face, withdraw}
use Rattle.zq_strategy.specs.Marks.{marked}
use Rattle.zq_strategy.specs.State.{FaceState, HatState}
use Rattle.zq_strategy.specs.declared.network.Network.{Network}
use Rattle.zq_tables.specs.Naming.{FaceKeys, FaceNaming, Names, naming_at, no_names, said_of}
use Rattle.zq_route.specs.declared.gateways.Gateways.{Gateways}
use Rattle.zq_machine.specs.declared.call.Call.{Call}
use Rattle.zq_machine.specs.declared.call.Call.TheVariants as call
use Rattle.zq_machine.specs.declared.call.Opening.{Opening}
use Rattle.zq_machine.specs.declared.call.Outcome.{Outcome}
use Rattle.zq_machine.specs.declared.call.Outcome.TheVariants as outcome
use Rattle.zq_machine.specs.declared.call.Step.{Step}
use Rattle.zq_machine.specs.declared.face.OpenFace.{OpenFace}
use Rattle.zq_machine.specs.Deciding.{is_accepted, opened, seat}
use Rattle.zq_machine.specs.Handing.{Handed}
use Rattle.zq_machine.specs.Hearing.{with_ours}
use Rattle.zq_interests.specs.declared.types.InterestEntry.{InterestEntry}
use Rattle.zq_interests.specs.Interests.{Asked}
use Rattle.zq_machine.specs.Selecting.{Manner, asked_by, full_text}
use Rattle.zq_machine.specs.Configs.{Settings}
use Rattle.zq_machine.specs.Gates.{Gate, denied_by, entered_by, gate_at, space_of, unasked_by}
use Rattle.zq_machine.specs.State.{Core, State, at, first_hats, hat_at, hat_of, is_routing}

-- what stands of an open face: how it was opened, with its namespace if it has one, the keys that it may not ask for and those that it is not asked for, the numbers that stand for keys there, and what its region's hat keeps of it
pub record Standing : Type 0 where
  pub opened : OpenFace
  pub space : Option (List ℕ)
  pub denied : List (List ℕ)
  pub unasked : List (List ℕ)
  pub numbers : FaceNaming
  pub kept : FaceState

-- ---- by the calls and their answers

-- a face that was just opened: it has no numbers, and has declared nothing
abbrev pub newly_opened : (told face : ℕ) → Opening → Standing
newly_opened told face o = record { opened = opened o; space = o.namespace; denied = o.entry_deny; unasked = o.exit_deny; numbers = no_names; kept = new_face (seat face o) told }

-- the answer opens the face
abbrev pub opens : ℕ → Outcome → Bool
opens face (outcome.Opened f) = f.0 == face
opens face (outcome.Asked number) = false
opens face (outcome.Replied reply) = false
opens face outcome.Done = false
opens face (outcome.Refused r) = false

-- with other numbers of the face's own
abbrev pub with_own : Standing → Names → Standing
with_own s names = record s { numbers = record s.numbers { theirs = names } }

-- with other things kept of it
abbrev pub with_kept : Standing → FaceState → Standing
with_kept s f = record s { kept = f }

-- the text that the face says
abbrev pub text_said : Standing → WireExpr → List ℕ
text_said s w = full_text (said_of s.numbers (entered_by s.space w))

-- a region of the configuration is one of routers
abbrev pub routes_in : Settings → Region → Bool
routes_in config r = option_map_or is_routing (hat_at r (first_hats config)) false

-- with other declarations, where the face's region is not one of routers
abbrev pub with_declared : Settings → Standing → FaceState → Standing
with_declared config s f = if routes_in config s.opened.region then s else with_kept s f

-- what an accepted call of a face makes of what stands there; what routers declare is theirs, and not the face's
abbrev pub declaring_at : Settings → Call → Standing → Standing
declaring_at config (call.DeclareKeyExpr f id w) s = with_own s (insert_entry nat_cmp s.numbers.theirs id (text_said s w))
declaring_at config (call.UndeclareKeyExpr f id) s = with_own s (remove_entry (is_at (nat_cmp id)) s.numbers.theirs)
declaring_at config (call.DeclareQueryable f id w info node) s = with_declared config s (declare id (text_said s w) info s.kept)
declaring_at config (call.UndeclareQueryable f id w node) s = with_declared config s (withdraw id s.kept)
declaring_at config (call.FinalizeInterest f mark set) s = with_kept s (marked mark set s.kept)
declaring_at config (call.SetNodeIds f ids) s = with_kept s (record s.kept { nodes = ids })
declaring_at config c s = s

-- the face makes the call, which is one of those
abbrev pub is_by : ℕ → Call → Bool
is_by face (call.DeclareKeyExpr f id w) = f.0 == face
is_by face (call.UndeclareKeyExpr f id) = f.0 == face
is_by face (call.DeclareQueryable f id w info node) = f.0 == face
is_by face (call.UndeclareQueryable f id w node) = f.0 == face
is_by face (call.FinalizeInterest f mark set) = f.0 == face
is_by face (call.SetNodeIds f ids) = f.0 == face
is_by face c = false

-- what stands of the face after an accepted call, by its answer
abbrev pub accepted_at : Settings → ℕ → Call → Outcome → Option Standing → Option Standing
accepted_at config face (call.Open o) answer was = if opens face answer then Some (newly_opened config.start.told face o) else was
accepted_at config face (call.Close f) answer was = if f.0 == face then None else was
accepted_at config face c answer was = if is_by face c then option_map (declaring_at config c) was else was

-- with a number for a key that is declared to the face
abbrev pub heard_body : DeclareBody → Standing → Standing
heard_body (body.DeclareKeyExpr id w) s = record s { numbers = with_ours id w.suffix s.numbers }
heard_body (body.UndeclareKeyExpr id) s = s
heard_body (body.DeclareQueryable id w info) s = s
heard_body (body.UndeclareQueryable id w) s = s
heard_body body.DeclareFinal s = s

-- what stands of a face once a message is handed to it
abbrev pub heard_message : Message → Standing → Standing
heard_message (message.Declare d) s = heard_body d.body s
heard_message (message.Request r) s = s
heard_message (message.Response r) s = s
heard_message (message.ResponseFinal f) s = s
heard_message (message.Interest i) s = s
heard_message (message.InterestFinal i) s = s

-- what stands of the face once it has the message, if it is the face that is handed it
abbrev pub heard_at : ℕ → Standing → Handed → Standing
heard_at face s h = if h.to.0 == face then heard_message h.message s else s

-- once it has all that is handed
abbrev pub heard_all : ℕ → List Handed → Standing → Standing
heard_all face hs s = fold (heard_at face) s hs

-- what stands of the face after a call, with the numbers that the call declares to it; a refused one changes nothing
abbrev pub standing_after : Settings → ℕ → Call → Step → Option Standing → Option Standing
standing_after config face c t was = if is_accepted t.outcome then option_map (heard_all face t.handed) (accepted_at config face c t.outcome was) else was

-- what stands of the face after calls that are answered by these steps
abbrev pub standing_in : Settings → ℕ → List Call → List Step → Option Standing → Option Standing
standing_in config face [] ts was = was
standing_in config face (c ∷ cs) [] was = was
standing_in config face (c ∷ cs) (t ∷ ts) was = standing_in config face cs ts (standing_after config face c t was)

-- what stands of the routers of a region: their entries, and the network that was put in place
pub record Routed : Type 0 where
  pub entries : Entries
  pub network : Network

-- what a hat has of routers
abbrev pub routed : HatState → Routed
routed h = record { entries = h.entries; network = h.network }

-- a router's entry on a key is this one
abbrev pub with_routed : List ℕ → QueryableInfoType → Routed → Zid → Routed
with_routed key info r z = record r { entries = with_entry z.0 key info r.entries }

-- a router's entry on a key is gone
abbrev pub without_routed : List ℕ → Routed → Zid → Routed
without_routed key r z = record r { entries = without_entry z.0 key r.entries }

-- a network is put in place
abbrev pub with_network : Network → Routed → Routed
with_network net r = record { network = net; entries = staying (is_listed net) r.entries }

-- the place is that of the region, which is one of routers
abbrev pub routes_at : Settings → ℕ → Region → Bool
routes_at config place r = routes_in config r && (region_index r == place)

-- the text that the face says by an expression that may be missing
abbrev pub text_or_none : Standing → Option WireExpr → List ℕ
text_or_none s None = []
text_or_none s (Some w) = text_said s w

-- what a declaration of a face makes of the routers of the region at a place, by what stands of the face: the router is the one that the node stands for
abbrev pub announced_at : Settings → ℕ → WireExpr → QueryableInfoType → ℕ → Routed → Standing → Routed
announced_at config place w info node r s = if routes_at config place s.opened.region then option_map_or (with_routed (text_said s w) info r) (zid_at node s.kept) r else r

-- and what a withdrawal makes of them
abbrev pub retracted_at : Settings → ℕ → Option WireExpr → ℕ → Routed → Standing → Routed
retracted_at config place w node r s = if routes_at config place s.opened.region then option_map_or (without_routed (text_or_none s w) r) (zid_at node s.kept) r else r

-- what an accepted call makes of the routers of the region at a place, by what stands of each face
abbrev pub routed_by : Settings → ℕ → Call → (ℕ → Option Standing) → Routed → Routed
routed_by config place (call.DeclareQueryable f id w info node) stands r = option_map_or (announced_at config place w info node r) (stands f.0) r
routed_by config place (call.UndeclareQueryable f id w node) stands r = option_map_or (retracted_at config place w node r) (stands f.0) r
routed_by config place (call.SetNetwork region net) stands r = if routes_at config place region then with_network net r else r
routed_by config place c stands r = r

-- what stands of them after a call; a refused one changes nothing
abbrev pub routed_after : Settings → ℕ → Call → Step → (ℕ → Option Standing) → Option Routed → Option Routed
routed_after config place c t stands was = if is_accepted t.outcome then option_map (routed_by config place c stands) was else was

-- what stands of them after calls that are answered by these steps
abbrev pub routed_in : Settings → ℕ → List Call → List Step → (ℕ → Option Standing) → Option Routed → Option Routed
routed_in config place [] ts stands was = was
routed_in config place (c ∷ cs) [] stands was = was
routed_in config place (c ∷ cs) (t ∷ ts) stands was = routed_in config place cs ts (λ face. standing_after config face c t (stands face)) (routed_after config place c t stands was)

-- what the first hats have of routers
abbrev pub first_routed : Settings → ℕ → Option Routed
first_routed config place = option_map routed (at place (first_hats config))

-- what a face asks to hear by a call: the keys that meet what the expression says there
abbrev pub asked_at : Manner → Option WireExpr → Standing → InterestEntry
asked_at m w s = asked_by m (option_map (λ (x : WireExpr). said_of s.numbers (entered_by s.space x)) w)

-- what an accepted call makes of what a face asks to hear, by what stands of the face
abbrev pub asking_by : ℕ → Call → Option Standing → Asked → Asked
asking_by face (call.Interest f id keys aggregate w) stands was = if f.0 == face then option_map_or (λ (s : Standing). insert_entry nat_cmp was id (asked_at (record { keys = keys; aggregate = aggregate }) w s)) stands was else was
asking_by face (call.InterestFinal f id) stands was = if f.0 == face then remove_entry (is_at (nat_cmp id)) was else was
asking_by face (call.Close f) stands was = if f.0 == face then [] else was
asking_by face c stands was = was

-- what the face asks to hear after a call; a refused one changes nothing
abbrev pub asking_after : ℕ → Call → Step → Option Standing → Asked → Asked
asking_after face c t stands was = if is_accepted t.outcome then asking_by face c stands was else was

-- what the face asks to hear after calls that are answered by these steps
abbrev pub asking_in : Settings → ℕ → List Call → List Step → Option Standing → Asked → Asked
asking_in config face [] ts stands was = was
asking_in config face (c ∷ cs) [] stands was = was
asking_in config face (c ∷ cs) (t ∷ ts) stands was = asking_in config face cs ts (standing_after config face c t stands) (asking_after face c t stands was)

-- the lists of gateways after a call
abbrev pub listed_after : Call → Step → List (ℕ × Gateways) → List (ℕ × Gateways)
listed_after (call.SetGateways r table) t was = if is_accepted t.outcome then with_value was r table else was
listed_after c t was = was

-- the lists of gateways after calls that are answered by these steps
abbrev pub listed_in : List Call → List Step → List (ℕ × Gateways) → List (ℕ × Gateways)
listed_in [] ts was = was
listed_in (c ∷ cs) [] was = was
listed_in (c ∷ cs) (t ∷ ts) was = listed_in cs ts (listed_after c t was)

-- ---- what the gateway has of it

-- what the hat of a face keeps of it
abbrev pub kept_at : ℕ → Core → Option FaceState
kept_at face c = option_and_then (face_at face) (hat_of face c)

-- what stands of a face by its gate, if it has one, and its three parts, where all are there
abbrev pub standing_of : Option Gate → Option OpenFace → Option FaceKeys → Option FaceState → Option Standing
standing_of g (Some o) (Some n) (Some f) = Some (record { opened = o; space = space_of g; denied = denied_by g; unasked = unasked_by g; numbers = n.numbers; kept = f })
standing_of g o n f = None

-- what the gateway has of the face
abbrev pub standing_at : ℕ → State → Option Standing
standing_at face s = standing_of (gate_at face s.gates) (at face s.core.faces) (naming_at face s.names) (kept_at face s.core)

-- what the gateway has of the routers of the region at a place
abbrev pub routed_at : ℕ → State → Option Routed
routed_at place s = option_map routed (at place s.core.hats)

-- two gateways have the same of each face and of the routers of each region, and the same lists
pub record StandAlike (s z : State) : Type 0 where
  pub faces : (face : ℕ) → standing_at face s ≡ standing_at face z
  pub routers : (place : ℕ) → routed_at place s ≡ routed_at place z
  pub lists : s.core.tables ≡ z.core.tables
