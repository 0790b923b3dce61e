-- What the lines of a script for storages come to.
use Rattle.std.specs.Prelude.{ℕ, List, Option, Some, None, length}
use Rattle.zq_index.specs.Texts.{at_text}
use Rattle.zq_message.specs.declared.message.QueryTarget.{QueryTarget}
use Rattle.zq_store.specs.Held.{delete, put}
use Rattle.zq_store.specs.Stores.{held_at}
use Rattle.zq_store.specs.Bus.{BusState, add_refusal, added, put_refusal, with_change}
use Rattle.zq_store.specs.Getting.{after_get, get_refusal, got_of}
use Rattle.zq_store.specs.declared.bus.BusRefusal.{BusRefusal}
use Rattle.zq_store.specs.declared.lines.Line.{Line}
use Rattle.zq_store.specs.declared.lines.Line.TheVariants as line
use Rattle.zq_store.specs.declared.outcome.LineOutcome.{LineOutcome}
use Rattle.zq_store.specs.declared.outcome.LineOutcome.TheVariants as outcome
use Rattle.zq_store.specs.declared.stores.PutRefusal.{PutRefusal}

-- the bus, unless the line is refused
abbrev pub unless : {E : Type 0} → Option E → BusState → BusState → BusState
unless None new old = new
unless (Some e) new old = old

-- a storage that joins: its number
abbrev pub storage_outcome : BusState → Option BusRefusal → LineOutcome
storage_outcome b None = outcome.Joined (record { 0 = length b.stores })
storage_outcome b (Some e) = outcome.Refused e

-- a put or a delete: the value before
abbrev pub change_outcome : ℕ → List ℕ → BusState → Option PutRefusal → LineOutcome
change_outcome store key b None = outcome.Changed (at_text key (held_at b.stores store))
change_outcome store key b (Some e) = outcome.PutRefused e

-- a get, at moment 0: the replies
abbrev pub get_outcome : List ℕ → QueryTarget → BusState → Option BusRefusal → LineOutcome
get_outcome key target b None = outcome.Got (got_of b key target 0).replies
get_outcome key target b (Some e) = outcome.Refused e

-- what a line comes to
abbrev pub line_outcome : BusState → Line → LineOutcome
line_outcome b (line.Storage key complete) = storage_outcome b (add_refusal b)
line_outcome b (line.Put store key value) = change_outcome store key b (put_refusal store key b)
line_outcome b (line.Delete store key) = change_outcome store key b (put_refusal store key b)
line_outcome b (line.Get key target) = get_outcome key target b (get_refusal key b)

-- the bus after a line
abbrev pub line_after : BusState → Line → BusState
line_after b (line.Storage key complete) = unless (add_refusal b) (added key complete b) b
line_after b (line.Put store key value) = unless (put_refusal store key b) (with_change store (put key value) b) b
line_after b (line.Delete store key) = unless (put_refusal store key b) (with_change store (delete key) b) b
line_after b (line.Get key target) = unless (get_refusal key b) (after_get b key target 0) b
