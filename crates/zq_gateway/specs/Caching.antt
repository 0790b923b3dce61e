-- What a gateway keeps of what its regions offer, from call to call.
use Rattle.std.specs.Prelude.{◌≡◌, ℕ, Bool, true, false, List, Option, Some, None, Result, Ok, Err, if◌then◌else◌, ⊤}
use Rattle.std.specs.List.{All}
use Rattle.std.specs.Map.{values_of}
use Rattle.std.specs.Option.{option_and_then}
use Rattle.zq_message.specs.declared.memory.OutOfMemory.{OutOfMemory}
use Rattle.zq_message.specs.declared.message.FaceId.{FaceId}
use Rattle.zq_message.specs.declared.message.Region.{Region}
use Rattle.zq_message.specs.declared.message.Request.{Request}
use Rattle.zq_strategy.specs.State.{HatState}
use Rattle.zq_tables.specs.Naming.{has_context}
use Rattle.zq_tables.specs.declared.resolved.Resolved.{Resolved}
use Rattle.zq_machine.specs.declared.call.Call.{Call}
use Rattle.zq_machine.specs.declared.call.Call.TheVariants as call
use Rattle.zq_machine.specs.declared.call.Step.{Step}
use Rattle.zq_machine.specs.declared.face.OpenFace.{OpenFace}
use Rattle.zq_machine.specs.Deciding.{is_accepted}
use Rattle.zq_machine.specs.Selecting.{asker_in, full_text, says_key}
use Rattle.zq_machine.specs.State.{State, at, change_hat, face_region}
use Rattle.zq_machine.specs.TextCalls.{asked_said}
use Rattle.zq_kept.specs.Current.{AreCurrent, IsKeptFor, KeptOffers}

-- a gateway: its state, and the offers that it keeps
pub record Cached : Type 0 where
  pub state : State
  pub routes : KeptOffers

-- the call is one of those that change the hat of a region
abbrev pub changes_hat : Call → Bool
changes_hat (call.Open o) = true
changes_hat (call.Close face) = true
changes_hat (call.DeclareQueryable face id wire info node) = true
changes_hat (call.UndeclareQueryable face id wire node) = true
changes_hat (call.FinalizeInterest face mark set) = true
changes_hat (call.SetNetwork r net) = true
changes_hat (call.SetNodeIds face ids) = true
changes_hat c = false

-- there is a call, and it changes a hat
abbrev pub may_change_hat : Option Call → Bool
may_change_hat None = false
may_change_hat (Some c) = changes_hat c

-- the step is answered, and is no refusal
abbrev pub has_accepted : Result Step OutOfMemory → Bool
has_accepted (Ok t) = is_accepted t.outcome
has_accepted (Err e) = false

-- what each region offers to the face's request is kept, if the key that it says has a node
abbrev pub IsKeptOf : State → KeptOffers → FaceId → Request → Resolved → OpenFace → Type 0
IsKeptOf s kept face r said o = says_key said ≡ true → has_context (full_text said) s.names ≡ true → All (IsKeptFor (asker_in s.core face r.node o) (full_text said) kept) (values_of s.core.hats)

-- if the call is a request of an open face, that is kept for it
abbrev pub KeepsAsked : State → KeptOffers → Call → Type 0
KeepsAsked s kept (call.Request face r now) = (o : OpenFace) → at face.0 s.core.faces ≡ Some o → IsKeptOf s kept face r (asked_said face r s) o
KeepsAsked s kept c = ⊤

-- the same of a call that there may be
abbrev pub MayKeepAsked : State → KeptOffers → Option Call → Type 0
MayKeepAsked s kept None = ⊤
MayKeepAsked s kept (Some c) = KeepsAsked s kept c

-- ---- which offers are let go

-- the region whose hat a call changes, if it changes one
abbrev pub region_changed : State → Call → Option Region
region_changed s (call.Open o) = Some o.region
region_changed s (call.Close face) = face_region face.0 s.core
region_changed s (call.DeclareQueryable face id wire info node) = face_region face.0 s.core
region_changed s (call.UndeclareQueryable face id wire node) = face_region face.0 s.core
region_changed s (call.FinalizeInterest face mark set) = face_region face.0 s.core
region_changed s (call.SetNetwork r net) = Some r
region_changed s (call.SetNodeIds face ids) = face_region face.0 s.core
region_changed s c = None

-- the same of a call that there may be
abbrev pub may_region_changed : State → Option Call → Option Region
may_region_changed s c = option_and_then (region_changed s) c

-- the hat of a region is changed, if there is a region
abbrev pub change_in : Option Region → (HatState → HatState) → List (ℕ × HatState) → List (ℕ × HatState)
change_in None f hats = hats
change_in (Some r) f hats = change_hat r f hats

-- behind a call that changed a region's hat none of that region's offers are kept; behind a refusal, want of memory, or a call that changed none, all are as before
pub record LetsGo (region : Option Region) (made : Result Step OutOfMemory) (old new : KeptOffers) : Type 0 where
  pub current : (hats : List (ℕ × HatState)) (f : HatState → HatState) → AreCurrent old hats → AreCurrent new (if has_accepted made then change_in region f hats else hats)
  pub none : region ≡ None → new ≡ old
  pub refused : has_accepted made ≡ false → new ≡ old
