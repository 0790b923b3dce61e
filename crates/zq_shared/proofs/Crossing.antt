-- A lock on a gateway may be shared by threads, since a gateway may go to another thread.
use denote.RattleType.{RattleType}
use denote.Param.Send.{IsSend, IsSync, sendable, view_send}
use denote.Param.SendFields.{as_row_send, as_row_sync, declared_send, declared_sync}
use Rattle.std.proofs.Crossing.{crosses, send}
use Rattle.std.proofs.sync.Mutex.TheSendSync as mutex
use Rattle.std.proofs.sync.ledger.Book.TheSendSync as book
use Rattle.std.specs.contracts.sync.Mutex as Mutex
use Rattle.std.specs.contracts.sync.ledger.Book as Book
use Rattle.std.specs.declared.sync.ledger.Ledger as Ledger
use Rattle.zq_machine.proofs.call.Call.TheSendSync as call
use Rattle.zq_machine.proofs.config.Config.TheSendSync as config
use Rattle.zq_machine.specs.contracts.config.Config as Config
use Rattle.zq_gateway.proofs.Crossing.{gateway_send}
use Rattle.zq_gateway.specs.contracts.gateway.Gateway as Gateway
use Rattle.zq_hold.proofs.slots.Slots.TheSendSync as slots
use Rattle.zq_hold.specs.contracts.slots.Slots as Slots
use Rattle.zq_shared.specs.contracts.journal.Journal as Journal
use Rattle.zq_shared.specs.contracts.journal.Journal.TheInside as JournalIn
use Rattle.zq_shared.specs.contracts.shared.Shared as Shared
use Rattle.zq_shared.specs.contracts.shared.Shared.TheInside as SharedIn
use Rattle.zq_shared.specs.declared.home.Home as Home
use Rattle.zq_shared.specs.contracts.locked.Locked as Locked
use Rattle.zq_shared.specs.contracts.locked.Locked.TheInside as LockedIn
use Rattle.zq_shared.specs.contracts.lock.TablesLock as Lock

journal_send : IsSend Journal.the_row
journal_send = view_send _ _ _ _ _ (declared_send JournalIn.the_type (
  as_row_send Config.the_field config.the_send,
  (
    as_row_send Gateway.the_field gateway_send,
    (
      search (call.the_send, crosses, sendable),
      (
        search sendable,
        tt,
      ),
    ),
  ),
))

pub shared_send : IsSend Shared.the_row
shared_send = view_send _ _ _ _ _ (declared_send SharedIn.the_type (
  search (send, sendable),
  (
    as_row_send Journal.the_field journal_send,
    (
      as_row_send Slots.the_field slots.the_send,
      tt,
    ),
  ),
))

module _ (H C Q P : RattleType) (h : Home.Ghosts H.Denot) (c : Ledger.Ghosts C.Denot) (q : Ledger.Ghosts Q.Denot) (p : Ledger.Ghosts P.Denot) where
  locked_send : IsSend H → IsSend (Locked.the_row H C Q P h c q p)
  locked_send s = view_send _ _ _ _ _ (declared_send (LockedIn.the_type H C Q P h c q p) (
    as_row_send Shared.the_field shared_send,
    (
      as_row_send (Book.the_field C c) (book.the_send C c),
      (
        as_row_send (Book.the_field Q q) (book.the_send Q q),
        (
          as_row_send (Book.the_field P p) (book.the_send P p),
          (
            search (crosses, sendable),
            tt,
          ),
        ),
      ),
    ),
  ))

  pub lock_sync : IsSend H → IsSync (Lock.the_row H C Q P h c q p)
  lock_sync s = declared_sync (Lock.the_type H C Q P h c q p) (as_row_sync (Mutex.the_field (Locked.the_row H C Q P h c q p)) (mutex.the_sync (Locked.the_row H C Q P h c q p) (locked_send s)), tt)
