-- The steps that a print can say: numbers within their fields, texts that are UTF-8, and in a declaration no field that its line doesn't show.
use Rattle.std.specs.Prelude.{◌≡◌, ℕ, ◌≤◌, Option, None, ⊤}
use Rattle.std.specs.List.{AllByRecursion}
use Rattle.zq_message.specs.declared.message.ResponseFinal.{ResponseFinal}
use Rattle.zq_message.specs.declared.message.Interest.{Interest}
use Rattle.zq_message.specs.declared.message.DeclareBody.{DeclareBody}
use Rattle.zq_message.specs.declared.message.DeclareBody.TheVariants as body
use Rattle.zq_message.specs.declared.message.Message.{Message}
use Rattle.zq_message.specs.declared.message.Message.TheVariants as message
use Rattle.zq_machine.specs.declared.call.Outcome.{Outcome}
use Rattle.zq_machine.specs.declared.call.Outcome.TheVariants as outcome
use Rattle.zq_machine.specs.Handing.{Handed}
use Rattle.zq_machine.specs.declared.call.Step.{Step}
use Rattle.zq_io.specs.Values.{most_8, most_16, most_32, most_64}
use Rattle.zq_io.specs.Fits.{FitsFace, FitsWire, FitsOption}
use Rattle.zq_lines.specs.Fits.{FitsRequest, FitsResponse}

-- a final
pub record FitsFinal (f : ResponseFinal) : Type 0 where
  pub rid : f.rid ≤ most_32
  pub qos : f.qos ≤ most_8

-- an interest
pub record FitsInterest (i : Interest) : Type 0 where
  pub id : i.id ≤ most_32
  pub wire : FitsOption FitsWire i.wire

-- what a declaration declares or takes back
abbrev pub FitsDeclareBody : DeclareBody → Type 0
FitsDeclareBody (body.DeclareKeyExpr id wire) = (id ≤ most_16) × FitsWire wire
FitsDeclareBody (body.UndeclareKeyExpr id) = id ≤ most_16
FitsDeclareBody (body.DeclareQueryable id wire info) = (id ≤ most_32) × FitsWire wire × (info.distance ≤ most_16)
FitsDeclareBody (body.UndeclareQueryable id wire) = (id ≤ most_32) × FitsOption FitsWire wire
FitsDeclareBody body.DeclareFinal = ⊤

-- the line of a declaration shows all of it: the interest is none, and the node is 0, where the line doesn't have them
abbrev pub ShowsDeclare : Option ℕ → ℕ → DeclareBody → Type 0
ShowsDeclare interest node (body.DeclareKeyExpr id wire) = (interest ≡ None) × (node ≡ 0)
ShowsDeclare interest node (body.UndeclareKeyExpr id) = (interest ≡ None) × (node ≡ 0)
ShowsDeclare interest node (body.DeclareQueryable id wire info) = ⊤
ShowsDeclare interest node (body.UndeclareQueryable id wire) = interest ≡ None
ShowsDeclare interest node body.DeclareFinal = node ≡ 0

-- a declaration, for an interest or for none, from a node
pub record FitsDeclare (answers : Option ℕ) (origin : ℕ) (what : DeclareBody) : Type 0 where
  pub interest : FitsOption (λ n. n ≤ most_32) answers
  pub node : origin ≤ most_16
  pub body : FitsDeclareBody what
  pub shown : ShowsDeclare answers origin what

-- a message whose words say all of it
abbrev pub FitsMessage : Message → Type 0
FitsMessage (message.Request r) = FitsRequest r
FitsMessage (message.Response r) = FitsResponse most_8 r
FitsMessage (message.ResponseFinal f) = FitsFinal f
FitsMessage (message.Declare d) = FitsDeclare d.interest d.node d.body
FitsMessage (message.Interest i) = FitsInterest i
FitsMessage (message.InterestFinal id) = id ≤ most_32

-- an answer
abbrev pub FitsOutcome : Outcome → Type 0
FitsOutcome (outcome.Opened face) = FitsFace face
FitsOutcome (outcome.Asked n) = n ≤ most_64
FitsOutcome (outcome.Replied reply) = FitsOption (λ n. n ≤ most_64) reply
FitsOutcome outcome.Done = ⊤
FitsOutcome (outcome.Refused r) = ⊤

-- a message that is handed
pub record FitsHanded (h : Handed) : Type 0 where
  pub to : FitsFace h.to
  pub asked : FitsOption (λ n. n ≤ most_64) h.number
  pub reply : FitsOption (λ n. n ≤ most_64) h.reply
  pub message : FitsMessage h.message
  pub leaves : FitsOption FitsMessage h.leaves

-- a step whose lines say all of it
pub record FitsStep (t : Step) : Type 0 where
  pub outcome : FitsOutcome t.outcome
  pub handed : AllByRecursion FitsHanded t.handed

-- the line of a message shows all of it
abbrev pub ShowsMessage : Message → Type 0
ShowsMessage (message.Request r) = ⊤
ShowsMessage (message.Response r) = ⊤
ShowsMessage (message.ResponseFinal f) = ⊤
ShowsMessage (message.Declare d) = ShowsDeclare d.interest d.node d.body
ShowsMessage (message.Interest i) = ⊤
ShowsMessage (message.InterestFinal id) = ⊤

-- the lines of a message that is handed, and of what leaves, show all of both
abbrev pub ShowsHanded : Handed → Type 0
ShowsHanded h = ShowsMessage h.message × FitsOption ShowsMessage h.leaves

-- the lines of a step show all of it
abbrev pub ShowsStep : Step → Type 0
ShowsStep t = AllByRecursion ShowsHanded t.handed
