-- What C holds of a speaker may go to another thread, as a box of it may.
use mir.Raw.{raw}
use base.Shift.{Keyless}
use denote.Memory.{lone}
use denote.RawPtr.{Ptr}
use denote.Struct.Struct.{exits_of}
use denote.Struct.Owning.{shape, fields, to}
use denote.Param.Send.{IsSend, AllSend, owning_send, struct_send, sendable}
use Rattle.std.proofs.Crossing as heap
use Rattle.std.specs.Prelude.{Option, Some, None}
use Rattle.std.specs.Global.{Global}
use Rattle.std_alloc.proofs.SendSync.{quiet, lies}
use Rattle.std_heap.proofs.Global.TheSendSync as handle
use Rattle.zq_spoken.specs.contracts.speaker.Speaker as Speaker
use Rattle.zq_spoken.proofs.Crossing.{speaker_send}
use Rattle.zq_c.specs.Owning.{Kept, owned_at}
use Rattle.zq_c.specs.contracts.owned_box.Owned.{the_row, the_type}

-- what is owned beside the fields may be had in any thread
there : (alloc : Global) (p : Ptr) (o : Option Kept) → Keyless (owned_at alloc p o)
there alloc p None = tt
there alloc p (Some x) = (lies Speaker.the_row speaker_send p x, heap.frees.frees alloc (raw (lone Speaker.the_row.mir)) p)

pub send : IsSend the_row
send =
    let all : AllSend (fields the_type) = (search sendable, (handle.the_field_send, tt)) in
    owning_send the_type all (λ d. there d.alloc d.at d.value)
    (λ k. quiet (to the_type) (exits_of k (fields the_type)) ((struct_send (shape the_type) all).leaving k))
