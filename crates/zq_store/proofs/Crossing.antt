-- A bus of storages may go to another thread.
use denote.Param.Send.{IsSend, sendable, view_send}
use denote.Param.SendFields.{as_row_send, declared_send}
use Rattle.std.proofs.Crossing.{crosses, send}
use Rattle.zq_gateway.proofs.Crossing.{gateway_send}
use Rattle.zq_gateway.specs.contracts.gateway.Gateway as Gateway
use Rattle.zq_store.proofs.stores.Stores.TheSendSync as stores
use Rattle.zq_store.specs.contracts.bus.Bus as Bus
use Rattle.zq_store.specs.contracts.bus.Bus.TheInside as BusIn
use Rattle.zq_store.specs.contracts.stores.Stores as Stores

pub bus_send : IsSend Bus.the_row
bus_send = view_send _ _ _ _ _ (declared_send BusIn.the_type (
  as_row_send Gateway.the_field gateway_send,
  (
    search (crosses, sendable),
    (
      search sendable,
      (
        search sendable,
        (
          search sendable,
          (
            as_row_send Stores.the_field stores.the_send,
            (
              search sendable,
              (
                search (send, sendable),
                tt,
              ),
            ),
          ),
        ),
      ),
    ),
  ),
))
