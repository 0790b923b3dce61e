-- The lines of a script for storages.
use Rattle.std.specs.Prelude.{ℕ, ◌+◌, List, [], ◌∷◌, ◌++◌, Option, Some, None, Result, Ok, Err, if◌then◌else◌, codes}
use Rattle.std.specs.Str.{bytes_eq}
use Rattle.zq_key.specs.Key.{is_key}
use Rattle.zq_io.specs.Values.{flag_of, most_32, target_of}
use Rattle.zq_io.specs.Words.{◌>>=◌, at_end, bytes_of, number, read_at, text_of}
use Rattle.zq_lines.specs.Lines.{by_first}
use Rattle.zq_store.specs.declared.lines.Line.{Line}
use Rattle.zq_store.specs.declared.lines.Line.TheVariants as line

-- the text, where it is a key
abbrev pub key_in : List ℕ → Option (List ℕ)
key_in text = if is_key text then Some text else None

-- a TEXT that is a key
abbrev pub key_of : List ℕ → Option (List ℕ)
key_of word = text_of word >>= key_in

-- `storage KEY c`, or `p` for not complete
unfoldable pub storage_of : List ℕ → Option Line
storage_of bytes = do
  key ← read_at key_of bytes
  complete ← read_at (flag_of (codes "c") (codes "p")) key.1
  at_end complete.1 (line.Storage key.0 complete.0)

-- `put STORE KEY PAYLOAD`
unfoldable pub put_of : List ℕ → Option Line
put_of bytes = do
  store ← read_at (number most_32) bytes
  key ← read_at key_of store.1
  value ← read_at bytes_of key.1
  at_end value.1 (line.Put store.0 key.0 value.0)

-- `delete STORE KEY`
unfoldable pub delete_of : List ℕ → Option Line
delete_of bytes = do
  store ← read_at (number most_32) bytes
  key ← read_at key_of store.1
  at_end key.1 (line.Delete store.0 key.0)

-- `get KEY TARGET`
unfoldable pub get_of : List ℕ → Option Line
get_of bytes = do
  key ← read_at key_of bytes
  target ← read_at target_of key.1
  at_end target.1 (line.Get key.0 target.0)

-- a line by its name and its fields
unfoldable pub line_by : List ℕ → List ℕ → Option Line
line_by head bytes =
    if bytes_eq head (codes "put") then put_of bytes
    else (if bytes_eq head (codes "get") then get_of bytes
    else (if bytes_eq head (codes "delete") then delete_of bytes
    else (if bytes_eq head (codes "storage") then storage_of bytes
    else None)))

-- what a line says
abbrev pub line_of : List ℕ → Option Line
line_of text = by_first line_by text

-- what was read before, and what is read on
abbrev pub onto_lines : List Line → Result (List Line) ℕ → Result (List Line) ℕ
onto_lines lines (Ok rest) = Ok (lines ++ rest)
onto_lines lines (Err n) = Err n

-- what a line says, or the number of the line
abbrev pub with_line : ℕ → Option Line → Result (List Line) ℕ → Result (List Line) ℕ
with_line n None rest = Err n
with_line n (Some l) rest = onto_lines (l ∷ []) rest

-- what the lines from this number on say, or the first bad line
abbrev pub lines_from : ℕ → List (List ℕ) → Result (List Line) ℕ
lines_from n [] = Ok []
lines_from n (text ∷ texts) = with_line n (line_of text) (lines_from (n + 1) texts)

-- what these lines say, or the number of the first bad line
abbrev pub script_of : List (List ℕ) → Result (List Line) ℕ
script_of texts = lines_from 1 texts
