-- What faces outside regions of routers were told, read by ids from what they were handed, is what is due to them.
use Rattle.std.specs.Prelude.{◌≡◌, ℕ, ◌==◌, Bool, true, false, List, [], ◌∷◌, filter, Option, if◌then◌else◌}
use Rattle.std.specs.BTreeMap.{insert_entry, is_at}
use Rattle.std.specs.Map.{remove_entry}
use Rattle.std.specs.Option.{is_some, option_map, option_map_or, option_to_list}
use Rattle.std.specs.Ordering.{nat_cmp}
use Rattle.zq_message.specs.declared.message.DeclareBody.{DeclareBody}
use Rattle.zq_message.specs.declared.message.DeclareBody.TheVariants as body
use Rattle.zq_message.specs.declared.message.Message.{Message}
use Rattle.zq_message.specs.declared.message.Message.TheVariants as message
use Rattle.zq_tables.specs.Naming.{FaceNaming, no_names, read_by}
use Rattle.zq_told.specs.Receiver.{Heard, heard_on}
use Rattle.zq_machine.specs.declared.call.Call.{Call}
use Rattle.zq_machine.specs.declared.call.Call.TheVariants as call
use Rattle.zq_machine.specs.declared.call.Step.{Step}
use Rattle.zq_machine.specs.Handing.{Handed}
use Rattle.zq_machine.specs.Configs.{Settings}
use Rattle.zq_machine.specs.Deciding.{is_accepted}
use Rattle.zq_machine.specs.Selecting.{full_text}
use Rattle.zq_trace.specs.Faces.{EachCall, Face, Trace, called, face_at, handed_to}
use Rattle.zq_trace.specs.Due.{due, neighbour}

-- ---- what a face's receiver keeps

-- what a face's receiver keeps once it has a declaration: under its id the key that it reads by these numbers, with the information, until the id ends
abbrev pub with_body : FaceNaming → DeclareBody → Heard → Heard
with_body n (body.DeclareQueryable id w info) kept = insert_entry nat_cmp kept id (full_text (read_by n w), info)
with_body n (body.UndeclareQueryable id w) kept = remove_entry (is_at (nat_cmp id)) kept
with_body n b kept = kept

-- what it keeps once it has a message: declarations alone change it
abbrev pub with_message : FaceNaming → Message → Heard → Heard
with_message n (message.Declare d) kept = with_body n d.body kept
with_message n m kept = kept

-- the numbers that stand at a face, none where it is not open
abbrev pub numbers_of : Option Face → FaceNaming
numbers_of f = option_map_or (λ (x : Face). x.numbers) f no_names

-- what a face's receiver keeps once it has all that a call hands it, each message read by the numbers that were declared to the face before
abbrev pub with_handed : ℕ → Option Face → List Handed → Heard → Heard
with_handed n f [] kept = kept
with_handed n f (h ∷ hs) kept = with_handed n (option_map (λ x. handed_to n x h) f) hs (if h.to.0 == n then with_message (numbers_of f) h.message kept else kept)

-- the call is an interest of the face, or the end of one
abbrev pub asks_anew : ℕ → Call → Bool
asks_anew n (call.Interest face id keys aggregate w) = face.0 == n
asks_anew n (call.InterestFinal face id) = face.0 == n
asks_anew n c = false

-- where an interest of the face comes or ends, its receiver forgets the keys on which nothing is due to it
abbrev pub forgetting : Settings → Trace → ℕ → Call → Heard → Heard
forgetting config past n c kept = if asks_anew n c then filter (λ e. is_some (due config past n e.1.0)) kept else kept

-- what a face's receiver keeps of all that the face was handed
abbrev pub kept : Settings → Trace → ℕ → Heard
kept config [] n = []
kept config (x ∷ past) n =
    if is_accepted x.1.outcome then forgetting config (x ∷ past) n x.0 (with_handed n (called n x.0 x.1.outcome (face_at past n)) x.1.handed (kept config past n))
    else kept config past n

-- ---- what it is to keep

-- a face's receiver keeps on each key one information, the one that is due to the face, or none where nothing is due
abbrev pub KeepsDue : Settings → Trace → ℕ → Type 0
KeepsDue config past n = (key : List ℕ) → heard_on key (kept config past n) ≡ option_to_list (due config past n key)

-- after a call the receivers of all open faces outside regions of routers keep what is due
abbrev pub CallTold : Settings → Trace → Call → Step → Type 0
CallTold config past c t = (n : ℕ) → is_some (neighbour config ((c, t) ∷ past) n) ≡ true → KeepsDue config ((c, t) ∷ past) n

-- and so they do after each call of a run
abbrev pub Told : Settings → List Call → List Step → Type 0
Told config calls steps = EachCall (CallTold config) [] calls steps
