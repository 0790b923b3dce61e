-- A handle may go to another thread.
use denote.Param.Send.{IsSend, sendable}
use denote.Param.SendFields.{as_row_send, declared_send}
use Rattle.zq_c.proofs.owned_box.Owned.TheSendSync as owned
use Rattle.zq_c.specs.contracts.owned_box.Owned as Owned
use Rattle.zq_c.specs.contracts.grip.Handle as Handle

pub handle_send : IsSend Handle.the_row
handle_send = declared_send Handle.the_type (as_row_send Owned.the_field owned.the_send, (search sendable, tt))
