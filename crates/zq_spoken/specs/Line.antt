-- Which bytes are one line, and what it says.
use Rattle.std.specs.Prelude.{ℕ, ◌==◌, not, Bool, List, Option, None, if◌then◌else◌}
use Rattle.std.specs.List.{list_all}
use Rattle.zq_machine.specs.declared.call.Call.{Call}
use Rattle.zq_lines.specs.Lines.{call_of}
use Rattle.zq_store.specs.Lines.{line_of}
use Rattle.zq_store.specs.declared.lines.Line.{Line}

-- no newline is among the bytes
abbrev pub is_line : List ℕ → Bool
is_line bytes = list_all (λ b. not (b == 10)) bytes

-- the call that the bytes say, where they are one line
abbrev pub said : List ℕ → Option Call
said bytes = if is_line bytes then call_of bytes else None

-- what the bytes ask of storages, where they are one line
abbrev pub asked : List ℕ → Option Line
asked bytes = if is_line bytes then line_of bytes else None
