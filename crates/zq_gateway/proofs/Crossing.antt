-- A gateway may go to another thread.
use denote.Param.Send.{IsSend, sendable, view_send}
use denote.Param.SendFields.{as_row_send, declared_send}
use Rattle.std.proofs.Crossing.{crosses, send}
use Rattle.std.proofs.MapsCrossing as maps
use Rattle.zq_names.proofs.branch.Branch.TheLaws.TheKnot as rows
use Rattle.zq_message.proofs.map.RegionMap.TheSendSync as regions
use Rattle.zq_message.specs.contracts.map.RegionMap as Regions
use Rattle.zq_tables.specs.contracts.naming.Naming as Naming
use Rattle.zq_query.proofs.queries.Queries.TheSendSync as queries
use Rattle.zq_query.specs.contracts.queries.Queries as Queries
use Rattle.zq_interests.proofs.interests.Interests.TheSendSync as interests
use Rattle.zq_interests.specs.contracts.interests.Interests as Interests
use Rattle.zq_told.proofs.told_sets.ToldSets.TheSendSync as ears
use Rattle.zq_told.specs.contracts.told_sets.ToldSets as ToldSets
use Rattle.zq_hat.proofs.hat.Hat.TheSendSync as hat
use Rattle.zq_hat.specs.contracts.hat.Hat as Hat
use Rattle.zq_route.proofs.gateways.Gateways.TheSendSync as gateways
use Rattle.zq_route.specs.contracts.gateways.Gateways as Gateways
use Rattle.zq_machine.proofs.config.Config.TheSendSync as config
use Rattle.zq_machine.proofs.face.OpenFace.TheSendSync as face
use Rattle.zq_machine.specs.contracts.config.Config as Config
use Rattle.zq_egress.proofs.face_muxes.FaceMuxes.TheSendSync as gates
use Rattle.zq_egress.specs.contracts.face_muxes.FaceMuxes as Gates
use Rattle.zq_kept.proofs.cache.RouteCache.TheSendSync as cache
use Rattle.zq_kept.specs.contracts.cache.RouteCache as RouteCache
use Rattle.zq_gateway.specs.contracts.tables.Tables as Tables
use Rattle.zq_gateway.specs.contracts.tables.Tables.TheInside as TablesIn
use Rattle.zq_gateway.specs.contracts.gateway.Gateway as Gateway
use Rattle.zq_gateway.specs.contracts.gateway.Gateway.TheInside as GatewayIn

naming_send : IsSend Naming.the_row
naming_send = search (maps.crosses, crosses, rows.crosses, sendable) depth 60 fits 20000

tables_send : IsSend Tables.the_row
tables_send = view_send _ _ _ _ _ (declared_send TablesIn.the_type (
  search (send, sendable),
  (
    as_row_send Config.the_field config.the_send,
    (
      search (face.the_send, maps.crosses, crosses, sendable),
      (
        search sendable,
        (
          as_row_send (Regions.the_field Hat.the_row) (regions.the_send Hat.the_row hat.the_send),
          (
            as_row_send (Regions.the_field Gateways.the_row) (regions.the_send Gateways.the_row gateways.the_send),
            (
              as_row_send Queries.the_field queries.the_send,
              (
                as_row_send Naming.the_field naming_send,
                (
                  as_row_send Interests.the_field interests.the_send,
                  (
                    as_row_send ToldSets.the_field ears.the_send,
                    (
                      as_row_send Gates.the_field gates.the_send,
                      tt,
                    ),
                  ),
                ),
              ),
            ),
          ),
        ),
      ),
    ),
  ),
))

pub gateway_send : IsSend Gateway.the_row
gateway_send = view_send _ _ _ _ _ (declared_send GatewayIn.the_type (as_row_send Tables.the_field tables_send, (as_row_send RouteCache.the_field cache.the_send, tt)))
