-- What children of trees know of a root's entries: by what they were handed of them, and by what they declared of them themselves.
use Rattle.std.specs.Prelude.{◌≡◌, ℕ, ◌==◌, ◌&&◌, Bool, false, true, List, [], ◌∷◌, ◌++◌, fold, Option, Some, None, if◌then◌else◌}
use Rattle.std.specs.List.{list_any}
use Rattle.std.specs.Option.{option_and_then, option_map_or}
use Rattle.std.specs.Str.{bytes_eq}
use Rattle.zq_message.specs.declared.message.FaceId.{FaceId}
use Rattle.zq_message.specs.declared.message.QueryableInfoType.{QueryableInfoType}
use Rattle.zq_message.specs.declared.message.Region.{Region}
use Rattle.zq_message.specs.declared.message.Zid.{Zid}
use Rattle.zq_message.specs.Region.{region_index}
use Rattle.zq_strategy.specs.declared.network.Network.{Network}
use Rattle.zq_strategy.specs.Nets.{children_of, is_zid, place_of}
use Rattle.zq_strategy.specs.Regions.{in_routers, strategy_at}
use Rattle.zq_strategy.specs.Routers.{entry_at, face_with}
use Rattle.zq_strategy.specs.State.{HatState}
use Rattle.zq_machine.specs.declared.call.Call.{Call}
use Rattle.zq_machine.specs.declared.call.Call.TheVariants as call
use Rattle.zq_machine.specs.Configs.{Settings}
use Rattle.zq_machine.specs.Deciding.{is_accepted}
use Rattle.zq_machine.specs.Hearing.{hear}
use Rattle.zq_machine.specs.Machine.{after, follow, state_after, step}
use Rattle.zq_machine.specs.Messages.{Telling, TellingBody, all_told, key_ended, key_told}
use Rattle.zq_machine.specs.Selecting.{full_text, router_by}
use Rattle.zq_machine.specs.State.{Core, State, hat_at, opening_state}
use Rattle.zq_machine.specs.TextCalls.{TextCall, announcing, read, retracting}
use Rattle.zq_machine.specs.Trees.{own_entry}

-- ---- who is a child

-- the face is the open one of least number with the id
abbrev pub is_face_of : ℕ → HatState → Zid → Bool
is_face_of face h zid = option_map_or (λ n. n == face) (face_with zid h.faces) false

-- the face is a child of the root's tree in a region of routers: the tree at the root's first place in the network has its id as a child
abbrev pub is_child_in : ℕ → Zid → HatState → Bool
is_child_in face root h = in_routers (strategy_at h) (list_any (is_face_of face h) (children_of h.network root)) false

-- the face is a child of the root's tree in a region of the gateway's
abbrev pub is_child : Region → ℕ → Zid → State → Bool
is_child r face root s = option_map_or (is_child_in face root) (hat_at r s.core.hats) false

-- it is one after each of the calls
abbrev pub StaysChild : Region → ℕ → Zid → State → List Call → Type 0
StaysChild r face root s [] = Unit {0}
StaysChild r face root s (c ∷ cs) = (is_child r face root (after s c) ≡ true) × StaysChild r face root (after s c) cs

-- ---- what a child knows of a key

-- what is known of a key once a thing is told, by what was known of it
abbrev pub with_news : List ℕ → Option QueryableInfoType → TellingBody → Option QueryableInfoType
with_news key was (key_told id text info) = if bytes_eq text key then Some info else was
with_news key was (key_ended id None) = was
with_news key was (key_ended id (Some text)) = if bytes_eq text key then None else was
with_news key was all_told = was

-- the telling is to the face, of the root at this place
abbrev pub is_of_root : ℕ → Option ℕ → Telling → Bool
is_of_root face place t = (t.to.0 == face) && option_map_or (λ p. t.node == p) place false

-- what the face knows of a key of the root at this place, once it hears a telling
abbrev pub with_heard_of : ℕ → Option ℕ → List ℕ → Option QueryableInfoType → Telling → Option QueryableInfoType
with_heard_of face place key was t = if is_of_root face place t then with_news key was t.body else was

-- the face makes a call as the root, whose node it names
abbrev pub speaks_for : ℕ → Zid → FaceId → ℕ → Core → Bool
speaks_for face root f node c = (f.0 == face) && option_map_or (is_zid root) (router_by f node c) false

-- what the face says itself of the root's entries by a call
abbrev pub said_for : ℕ → Zid → Core → TextCall → List TellingBody
said_for face root c (announcing f s info node) = if speaks_for face root f node c then key_told 0 (full_text s) info ∷ [] else []
said_for face root c (retracting f s node) = if speaks_for face root f node c then key_ended 0 (Some (full_text s)) ∷ [] else []
said_for face root c t = []

-- the place of a root in a region's network
abbrev pub root_place : Region → Zid → State → Option ℕ
root_place r root s = option_and_then (λ (h : HatState). place_of h.network root) (hat_at r s.core.hats)

-- what the face knows of a key of the root's once a call is made: by what it said itself, and by what it was handed, of the root's place after the call; a refused call tells nothing
abbrev pub known_after : Region → ℕ → Zid → List ℕ → State → Call → Option QueryableInfoType → Option QueryableInfoType
known_after r face root key s c was =
    if is_accepted (step s c).outcome then
    fold (with_heard_of face (root_place r root (after s c)) key) (fold (with_news key) was (said_for face root s.core (read s c))) (hear (step s c).handed (follow s (read s c)).names)
    else was

-- what the face knows of a key of the root's once calls are made
abbrev pub known_in : Region → ℕ → Zid → List ℕ → State → List Call → Option QueryableInfoType → Option QueryableInfoType
known_in r face root key s [] was = was
known_in r face root key s (c ∷ cs) was = known_in r face root key (after s c) cs (known_after r face root key s c was)

-- ---- what stands of a root

-- what stands of the root on a key in a region: its entry, or of the gateway's own tree what the other regions have, merged
abbrev pub stands_of : Region → Zid → List ℕ → State → Option QueryableInfoType
stands_of r root key s = if is_zid root s.core.config.zid then own_entry (region_index r) key s.core.hats else option_and_then (entry_at root.0 key) (hat_at r s.core.hats)

-- from the network that makes a face a child of a root's tree, for as long as it stays one, what it was handed of the root's entries and said of them itself, put together, is on each key what stands of the root
abbrev pub ChildPromise : Settings → List Call → Type 0
ChildPromise config calls =
    (before later : List Call) (r : Region) (net : Network) (face : ℕ) (root : Zid) (key : List ℕ) → calls ≡ before ++ call.SetNetwork r net ∷ later
    → is_child r face root (state_after (opening_state config) before) ≡ false
    → StaysChild r face root (state_after (opening_state config) before) (call.SetNetwork r net ∷ later)
    → known_in r face root key (state_after (opening_state config) before) (call.SetNetwork r net ∷ later) None ≡ stands_of r root key (state_after (opening_state config) calls)
