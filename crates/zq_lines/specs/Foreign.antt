-- What a line may have that is no part of the format.
use Rattle.std.specs.Prelude.{ℕ, ◌-◌, ◌==◌, Bool, List, [], ◌∷◌, Option, Some, None, if◌then◌else◌, drop, length, take}
use Rattle.std.specs.List.{list_all}
use Rattle.std.specs.Str.{bytes_eq}
use Rattle.zq_lines.specs.declared.foreign.TheConstants.{BLANK, COMMENT, LEADING, MARK, MARK_BYTES, RETURN, TRAILING}

-- the line begins with these bytes
abbrev pub starts_with : List ℕ → List ℕ → Bool
starts_with bytes line = bytes_eq (take (length bytes) line) bytes

-- the last byte of the line is this
abbrev pub ends_with : ℕ → List ℕ → Bool
ends_with byte line = bytes_eq (drop (length line - 1) line) (byte ∷ [])

-- the line has spaces alone
abbrev pub is_blank : List ℕ → Bool
is_blank line = list_all (λ b. b == 32) line

-- what stands too much at an edge of a line
abbrev pub edge : List ℕ → Option (List ℕ)
edge line =
    if is_blank line then Some BLANK.now
    else (if starts_with (32 ∷ []) line then Some LEADING.now
    else (if ends_with 32 line then Some TRAILING.now
    else None))

-- what a line has that is no part of the format
abbrev pub foreign : List ℕ → Option (List ℕ)
foreign line =
    if starts_with MARK_BYTES.now line then Some MARK.now
    else (if starts_with (35 ∷ []) line then Some COMMENT.now
    else (if ends_with 13 line then Some RETURN.now
    else edge line))
