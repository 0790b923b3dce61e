-- What is kept of tellings, by their places.
use Rattle.std.specs.Prelude.{ℕ, String, string_bytes}
use Rattle.std.specs.String.{string_cmp}
use Rattle.std.specs.Ordering.{nat_cmp, ordering_then}
use Rattle.std.specs.declared.alloc.Global.{Global}
use Rattle.std.specs.declared.cmp.Ordering.{Ordering}
use Rattle.zq_routers.specs.declared.tellings.Said.{Said}
use Rattle.zq_strategy.specs.declared.network.Telling.{Telling}

-- a face, a key and a node
abbrev pub Slot : Type 0
Slot = ℕ × String Global × ℕ

-- by face, key and node
abbrev pub slot_cmp : Slot → Slot → Ordering
slot_cmp a b = ordering_then (ordering_then (nat_cmp a.0 b.0) (string_cmp a.1 b.1)) (nat_cmp a.2 b.2)

-- the telling that is kept in a slot
abbrev pub telling_of : Slot × Said → Telling
telling_of e = record { face = record { 0 = e.0.0 }; id = e.1.id; key = string_bytes e.0.1; info = e.1.info; node = e.0.2 }
