-- A lock on the state of callers with passes may be shared by threads, and a pass may go to another thread.
use denote.RattleType.{RattleType}
use denote.Param.Send.{IsSend, IsSync, sendable, view_send}
use denote.Param.SendFields.{as_row_send, as_row_sync, declared_send, declared_sync}
use Rattle.std.proofs.Crossing.{crosses}
use Rattle.std.proofs.sync.Mutex.TheSendSync as mutex
use Rattle.std.proofs.sync.ledger.Book.TheSendSync as book
use Rattle.std.specs.contracts.sync.Mutex as Mutex
use Rattle.std.specs.contracts.sync.ledger.Book as Book
use Rattle.std.specs.declared.sync.ledger.Ledger as Ledger
use Rattle.zq_journal_view.proofs.keeper.JournalKeeper.TheSendSync as keeper
use Rattle.zq_journal_view.specs.contracts.keeper.JournalKeeper as Keeper
use Rattle.zq_machine.specs.contracts.call.Call as Call
use Rattle.zq_shared.proofs.Crossing.{shared_send}
use Rattle.zq_shared.specs.contracts.shared.Shared as Shared
use Rattle.zq_pass.specs.declared.home.PassHome as Home
use Rattle.zq_pass.specs.contracts.state.PassState as State
use Rattle.zq_pass.specs.contracts.state.PassState.TheInside as StateIn
use Rattle.zq_pass.specs.contracts.locked.Locked as Locked
use Rattle.zq_pass.specs.contracts.locked.Locked.TheInside as LockedIn
use Rattle.zq_pass.specs.contracts.lock.PassLock as Lock

state_send : IsSend State.the_row
state_send = view_send _ _ _ _ _ (declared_send StateIn.the_type (
  as_row_send Shared.the_field shared_send,
  (
    search (crosses, sendable),
    (
      as_row_send (Keeper.the_field Call.the_row) (keeper.the_send Call.the_row),
      tt,
    ),
  ),
))

module _ (H M : RattleType) (h : Home.Ghosts H.Denot) (m : Ledger.Ghosts M.Denot) where
  locked_send : IsSend H → IsSend (Locked.the_row H M h m)
  locked_send s = view_send _ _ _ _ _ (declared_send (LockedIn.the_type H M h m) (
    as_row_send State.the_field state_send,
    (
      as_row_send (Book.the_field M m) (book.the_send M m),
      (
        search (crosses, sendable),
        tt,
      ),
    ),
  ))

  pub lock_sync : IsSend H → IsSync (Lock.the_row H M h m)
  lock_sync s = declared_sync (Lock.the_type H M h m) (as_row_sync (Mutex.the_field (Locked.the_row H M h m)) (mutex.the_sync (Locked.the_row H M h m) (locked_send s)), tt)
