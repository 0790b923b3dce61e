-- What stands of each face at a point of a trace: it is read off the calls, their outcomes and what they handed.
use Rattle.std.specs.Prelude.{ℕ, ◌==◌, Bool, true, false, ◌||◌, ◌&&◌, List, [], ◌∷◌, ◌++◌, fold, Option, Some, None, if◌then◌else◌}
use Rattle.std.specs.BTreeMap.{insert_entry, is_at}
use Rattle.std.specs.BTreeSet.{insert_key}
use Rattle.std.specs.Map.{remove_entry}
use Rattle.std.specs.Option.{option_map, option_map_or}
use Rattle.std.specs.Ordering.{nat_cmp}
use Rattle.std.specs.Set.{remove_key}
use Rattle.zq_message.specs.declared.message.Bound.{Bound}
use Rattle.zq_message.specs.declared.message.DeclareBody.{DeclareBody}
use Rattle.zq_message.specs.declared.message.DeclareBody.TheVariants as body
use Rattle.zq_message.specs.declared.message.Message.{Message}
use Rattle.zq_message.specs.declared.message.Message.TheVariants as message
use Rattle.zq_message.specs.declared.message.Mode.{Mode}
use Rattle.zq_message.specs.declared.message.Region.{Region}
use Rattle.zq_message.specs.declared.message.WireExpr.{WireExpr}
use Rattle.zq_message.specs.declared.message.Zid.{Zid}
use Rattle.zq_index.specs.Texts.{text_cmp}
use Rattle.zq_interests.specs.declared.types.InterestEntry.{InterestEntry}
use Rattle.zq_strategy.specs.declared.types.Declaration.{Declaration}
use Rattle.zq_strategy.specs.declared.types.FinalMark.{FinalMark}
use Rattle.zq_strategy.specs.declared.types.FinalMark.TheVariants as mark
use Rattle.zq_strategy.specs.declared.network.NodeIds.{NodeIds}
use Rattle.zq_tables.specs.FaceIds.{with_id}
use Rattle.zq_tables.specs.Naming.{FaceNaming, no_names, said_of}
use Rattle.zq_tables.specs.declared.resolved.Resolved.{Resolved}
use Rattle.zq_machine.specs.declared.call.Call.{Call}
use Rattle.zq_machine.specs.declared.call.Call.TheVariants as call
use Rattle.zq_machine.specs.declared.call.Opening.{Opening}
use Rattle.zq_machine.specs.declared.call.Outcome.{Outcome}
use Rattle.zq_machine.specs.declared.call.Outcome.TheVariants as outcome
use Rattle.zq_machine.specs.declared.call.Step.{Step}
use Rattle.zq_machine.specs.Handing.{Handed}
use Rattle.zq_machine.specs.Deciding.{is_accepted}
use Rattle.zq_machine.specs.Gates.{entered_by}
use Rattle.zq_machine.specs.Selecting.{full_text}

-- calls with their steps, the last one first
abbrev pub Trace : Type 0
Trace = List (Call × Step)

-- each call with its step keeps what it has to, behind those before
abbrev pub EachCall : (Trace → Call → Step → Type 0) → Trace → List Call → List Step → Type 0
EachCall Keeps past [] [] = Unit {0}
EachCall Keeps past [] (t ∷ ts) = ⊥
EachCall Keeps past (c ∷ cs) [] = ⊥
EachCall Keeps past (c ∷ cs) (t ∷ ts) = Keeps past c t × EachCall Keeps ((c, t) ∷ past) cs ts

-- what stands of an open face: its region, its node's id and mode, the side of that node on which the gateway lies, its namespace and the keys that it may not ask for, as it was opened; the numbers for keys that it declared, and those that were declared to it; its queryables and its interests, by id; whether all that it had to declare at its opening has come, and the keys, in order, on which all has come; and its node table
pub record Face : Type 0 where
  pub region : Region
  pub zid : Zid
  pub mode : Mode
  pub bound : Bound
  pub space : Option (List ℕ)
  pub denied : List (List ℕ)
  pub numbers : FaceNaming
  pub queryables : List (ℕ × Declaration)
  pub interests : List (ℕ × InterestEntry)
  pub initial : Bool
  pub finalized : List (List ℕ)
  pub nodes : NodeIds

-- a face as it is opened
abbrev pub new_face : Opening → Face
new_face o = record { region = o.region; zid = o.zid; mode = o.mode; bound = o.remote_bound; space = o.namespace; denied = o.entry_deny; numbers = no_names; queryables = []; interests = []; initial = false; finalized = []; nodes = record { ids = [] } }

-- what an expression says that the face sends: behind its namespace, by the numbers that stand there
abbrev pub says : WireExpr → Face → Resolved
says w f = said_of f.numbers (entered_by f.space w)

-- what an interest of the face asks for
abbrev pub asked : Option WireExpr → (keys aggregate : Bool) → Face → InterestEntry
asked w keys aggregate f = record { key = option_map (λ x. full_text (says x f)) w; keys = keys; aggregate = aggregate }

-- with other numbers of its own
abbrev pub with_theirs : Face → List (ℕ × List ℕ) → Face
with_theirs f names = record f { numbers = record f.numbers { theirs = names } }

-- with a mark set, or unset: that all that it had to declare has come, at its opening or on a key
abbrev pub with_mark : FinalMark → Bool → Face → Face
with_mark mark.Initial set f = record f { initial = set }
with_mark (mark.Key key) true f = record f { finalized = insert_key text_cmp f.finalized key }
with_mark (mark.Key key) false f = record f { finalized = remove_key (is_at (text_cmp key)) f.finalized }

-- the face that a call changes, if it is accepted, and how
abbrev pub change : Call → Option (ℕ × (Face → Face))
change (call.DeclareKeyExpr face id w) = Some (face.0, λ f. with_theirs f (insert_entry nat_cmp f.numbers.theirs id (full_text (says w f))))
change (call.UndeclareKeyExpr face id) = Some (face.0, λ f. with_theirs f (remove_entry (is_at (nat_cmp id)) f.numbers.theirs))
change (call.DeclareQueryable face id w info node) = Some (face.0, λ f. record f { queryables = insert_entry nat_cmp f.queryables id (record { key = full_text (says w f); info = info }) })
change (call.UndeclareQueryable face id w node) = Some (face.0, λ f. record f { queryables = remove_entry (is_at (nat_cmp id)) f.queryables })
change (call.Interest face id keys aggregate w) = Some (face.0, λ f. record f { interests = insert_entry nat_cmp f.interests id (asked w keys aggregate f) })
change (call.InterestFinal face id) = Some (face.0, λ f. record f { interests = remove_entry (is_at (nat_cmp id)) f.interests })
change (call.FinalizeInterest face m set) = Some (face.0, with_mark m set)
change (call.SetNodeIds face ids) = Some (face.0, λ f. record f { nodes = ids })
change c = None

-- the change, where it is one of the face
abbrev pub changed : ℕ → Option Face → ℕ × (Face → Face) → Option Face
changed face was x = if x.0 == face then option_map x.1 was else was

-- what stands of the face after an accepted call, by its answer
abbrev pub called : ℕ → Call → Outcome → Option Face → Option Face
called face (call.Open o) (outcome.Opened f) was = if f.0 == face then Some (new_face o) else was
called face (call.Close f) answer was = if f.0 == face then None else was
called face c answer was = option_map_or (changed face was) (change c) was

-- with the number that a declaration to it gives to a key
abbrev pub told : DeclareBody → Face → Face
told (body.DeclareKeyExpr id w) f = record f { numbers = record f.numbers { ours = with_id f.numbers.ours id w.suffix } }
told b f = f

-- once it has the message
abbrev pub heard : Message → Face → Face
heard (message.Declare d) f = told d.body f
heard m f = f

-- once it has the message, if it is handed it
abbrev pub handed_to : ℕ → Face → Handed → Face
handed_to face f h = if h.to.0 == face then heard h.message f else f

-- what stands of the face; none if it is not open
abbrev pub face_at : Trace → ℕ → Option Face
face_at [] face = None
face_at (x ∷ past) face = if is_accepted x.1.outcome then option_map (λ f. fold (handed_to face) f x.1.handed) (called face x.0 x.1.outcome (face_at past face)) else face_at past face

-- the face that an outcome opens
abbrev pub opened_by : Outcome → List ℕ
opened_by (outcome.Opened f) = f.0 ∷ []
opened_by answer = []

-- the faces that were opened, the first one first
abbrev pub faces : Trace → List ℕ
faces [] = []
faces (x ∷ past) = faces past ++ opened_by x.1.outcome

-- the call closes the face
abbrev pub closes : ℕ → Call → Outcome → Bool
closes face (call.Close f) answer = is_accepted answer && (face == f.0)
closes face c answer = false

-- the face is closed
abbrev pub is_closed : Trace → ℕ → Bool
is_closed [] face = false
is_closed (x ∷ past) face = closes face x.0 x.1.outcome || is_closed past face
