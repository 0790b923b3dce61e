-- What a request hands, and what leaves of it.
use Rattle.std.specs.Prelude.{ℕ, List, [], ◌∷◌, ◌++◌, map, if◌then◌else◌}
use Rattle.zq_message.specs.declared.message.FaceId.{FaceId}
use Rattle.zq_message.specs.declared.message.Request.{Request}
use Rattle.zq_strategy.specs.declared.offer.QueryTargetQabl.{QueryTargetQabl}
use Rattle.zq_machine.specs.Deciding.{handed_request}
use Rattle.zq_machine.specs.Gates.{through}
use Rattle.zq_machine.specs.Handing.{Handed}
use Rattle.zq_machine.specs.Headline.{none_leaves}
use Rattle.zq_machine.specs.State.{State}
use Rattle.zq_machine.specs.Writing.{sent_final, write}

-- the messages to the faces of offers, through the gates of these
abbrev pub requests_out : State → List ℕ → Request → List QueryTargetQabl → List Handed
requests_out s text r os = map (through text s.gates) (write s.names (map (handed_request s.core.queries text r) os))

-- and the final of the request behind them, where none of them leaves
abbrev pub asked_out : State → FaceId → List ℕ → Request → List QueryTargetQabl → List Handed
asked_out s face text r os = requests_out s text r os ++ (if none_leaves (requests_out s text r os) then sent_final (record { number = s.core.queries.requests; asker = face; id = r.id; qos = r.qos }) ∷ [] else [])
