-- What follows from the headline alone.
use Rattle.std.specs.Prelude.{◌≡◌, ℕ, ◌==◌, false, ◌||◌, List, [], ◌∷◌, Option, Some, None}
use Rattle.std.specs.List.{AllByRecursion, list_any}
use Rattle.zq_message.specs.declared.message.FaceId.{FaceId}
use Rattle.zq_message.specs.declared.message.Message.{Message}
use Rattle.zq_query.specs.declared.records.Final.{Final}
use Rattle.zq_machine.specs.declared.call.Call.{Call}
use Rattle.zq_machine.specs.declared.call.Step.{Step}
use Rattle.zq_machine.specs.Asked.{IsToAsker}
use Rattle.zq_machine.specs.Handing.{Handed}
use Rattle.zq_machine.specs.Waiting.{is_of}
use Rattle.zq_trace.specs.Faces.{Trace}
use Rattle.zq_trace.specs.Awaited.{requests}
use Rattle.zq_trace.specs.Headline.{kind}

-- the steps hand nothing of the request
abbrev pub AreSilent : ℕ → List Step → Type 0
AreSilent n ts = AllByRecursion (λ (t : Step). list_any (is_of n) t.handed ≡ false) ts

-- a reply or final is of one of the requests that were asked, and goes to its asker, under the asker's id and with its quality byte
abbrev pub GoesBack : List Final → Option ℕ → FaceId → Message → Type 0
GoesBack asked None to m = (kind m == 1 || kind m == 2) ≡ false
GoesBack asked (Some n) to m = IsToAsker asked n to m

-- the same of a message as it is handed
abbrev pub IsBack : List Final → Handed → Type 0
IsBack asked h = GoesBack asked h.number h.to h.message

-- each call hands replies and finals to the askers alone of requests that it asks, or that were asked before it
abbrev pub BackFrom : Trace → List Call → List Step → Type 0
BackFrom past [] ts = Unit {0}
BackFrom past (c ∷ cs) [] = Unit {0}
BackFrom past (c ∷ cs) (t ∷ ts) = AllByRecursion (IsBack (requests ((c, t) ∷ past))) t.handed × BackFrom ((c, t) ∷ past) cs ts
