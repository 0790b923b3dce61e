-- What a handle owns: a box, or nothing.
use base.Fml.{Fml, ftrue}
use base.Stored.{Coded}
use denote.RawPtr.{Ptr}
use Rattle.std.specs.Coded.{coded_option}
use Rattle.std.specs.Prelude.{Option, Some, None}
use Rattle.std.specs.Box.Ownership.{box_owns}
use Rattle.std.specs.Global.{Global}
use Rattle.std_heap.specs.contracts.GlobalAllocator.TheImpl.{ghosts}
use Rattle.zq_spoken.specs.contracts.speaker.Speaker.{the_row}

-- what contracts see of what is kept
abbrev pub Kept : Type 0
Kept = the_row.Denot

-- how the logic stores it
abbrev pub coded_kept : Coded (Option Kept)
coded_kept = coded_option the_row.coded

-- the box at a pointer, if there is one
abbrev pub owned_at : Global → Ptr → Option Kept → Fml
owned_at alloc p None = ftrue
owned_at alloc p (Some x) = box_owns (ghosts.dealloc_token alloc) the_row p x
