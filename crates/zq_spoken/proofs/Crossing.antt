-- What is spoken to may go to another thread.
use denote.Param.Send.{IsSend, sendable, view_send}
use denote.Param.SendFields.{as_row_send, declared_send, variants_send}
use Rattle.std.proofs.Crossing.{crosses}
use Rattle.std.proofs.option.Option.TheSendSync as option
use Rattle.zq_gateway.proofs.Crossing.{gateway_send}
use Rattle.zq_gateway.specs.contracts.gateway.Gateway as Gateway
use Rattle.zq_machine.proofs.call.Step.TheSendSync as step
use Rattle.zq_store.proofs.Crossing.{bus_send}
use Rattle.zq_store.proofs.outcome.LineOutcome.TheSendSync as outcome
use Rattle.zq_store.specs.contracts.bus.Bus as Bus
use Rattle.zq_spoken.specs.contracts.storages.Storages as Storages
use Rattle.zq_spoken.specs.contracts.storages.Storages.TheInside as StoragesIn
use Rattle.zq_spoken.specs.contracts.talk.Talk as Talk
use Rattle.zq_spoken.specs.contracts.talk.Talk.TheInside as TalkIn
use Rattle.zq_spoken.specs.contracts.speaker.Speaker as Speaker

talk_send : IsSend Talk.the_row
talk_send = view_send _ _ _ _ _ (declared_send TalkIn.the_type (
  as_row_send Gateway.the_field gateway_send,
  (
    search (option.the_send, step.the_send, crosses, sendable),
    (
      search (crosses, sendable),
      tt,
    ),
  ),
))

storages_send : IsSend Storages.the_row
storages_send = view_send _ _ _ _ _ (declared_send StoragesIn.the_type (
  as_row_send Bus.the_field bus_send,
  (
    search (option.the_send, outcome.the_send, crosses, sendable),
    (
      search (crosses, sendable),
      tt,
    ),
  ),
))

pub speaker_send : IsSend Speaker.the_row
speaker_send = search (talk_send, storages_send, variants_send, crosses, sendable)
