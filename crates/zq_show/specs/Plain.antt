-- The lines of a run as text for a terminal, of at most so many columns.
use Rattle.std.specs.Prelude.{ℕ, ◌+◌, ◌==◌, ◌||◌, ◌&&◌, Bool, false, List, [], ◌∷◌, ◌++◌, Option, Some, None, codes, if◌then◌else◌, length, nat_le}
use Rattle.std.specs.List.{flat_map}
use Rattle.std.specs.Fmt.{decimal}
use Rattle.zq_show.specs.declared.page.Line.{Line}
use Rattle.zq_show.specs.declared.page.BadLine.{BadLine}
use Rattle.zq_show.specs.declared.page.Shown.{Shown}
use Rattle.zq_show.specs.declared.plain.Look.{Look}
use Rattle.zq_show.specs.declared.plain.Look.TheVariants as look
use Rattle.zq_show.specs.declared.plain.TheConstants.{LOOSE, WIDTH}
use Rattle.zq_show.specs.Escape.{shown}
use Rattle.zq_show.specs.Numbered.{numbered}

-- a line that is too long ends before a byte at a column: at the last one, or at a space near it
abbrev pub breaks : ℕ → ℕ → Bool
breaks column b = nat_le WIDTH column || (b == 32 && nat_le LOOSE column)

-- what begins the next line, and a byte there, if it is no space
abbrev pub turned : ℕ → List ℕ
turned b = codes "\n        " ++ (if b == 32 then [] else b ∷ [])

-- a byte at a column, on the next line where this one is full
abbrev pub folded_byte : ℕ → ℕ → List ℕ
folded_byte column b = if breaks column b then turned b else b ∷ []

-- the column behind a byte
abbrev pub column_after : ℕ → ℕ → ℕ
column_after column b = if breaks column b then (if b == 32 then 8 else 9) else column + 1

-- bytes from a column on
abbrev pub folded : ℕ → List ℕ → List ℕ
folded column [] = []
folded column (b ∷ bs) = folded_byte column b ++ folded (column_after column b) bs

-- bytes on a line, or on several where they are too long for one
abbrev pub fitted : List ℕ → List ℕ
fitted bytes = if nat_le (length bytes) WIDTH then bytes else folded 0 bytes

-- a line in red
abbrev pub red : List ℕ → List ℕ
red words = 27 ∷ codes "[31m" ++ words ++ 27 ∷ codes "[0m\n"

-- bytes in the colour of a look, where there are colours and it has one
abbrev pub laid : Bool → Look → List ℕ → List ℕ
laid colours look.Usual bytes = fitted bytes ++ 10 ∷ []
laid colours look.Wrong bytes = if colours then red (fitted bytes) else fitted bytes ++ 10 ∷ []

-- a line of the script, behind its number
abbrev pub numbered_plain : ℕ → List ℕ → List ℕ
numbered_plain number text = laid false look.Usual (decimal number ++ codes "  " ++ shown text)

-- a text on a line of its own, under the line that it is of
abbrev pub under_plain : Bool → Look → List ℕ → List ℕ → List ℕ
under_plain colours l mark text = laid colours l (codes "    " ++ mark ++ shown text)

-- texts under the line that they are of, each on a line of its own
abbrev pub messages_plain : List ℕ → List (List ℕ) → List ℕ
messages_plain mark texts = flat_map (under_plain false look.Usual mark) texts

-- how an answer looks
abbrev pub look_of : Bool → Look
look_of refused = if refused then look.Wrong else look.Usual

-- a line, and under it what it was answered and the messages that it handed
abbrev pub line_plain : Bool → Line → List ℕ
line_plain colours line =
    numbered_plain line.number line.text ++ under_plain colours (look_of line.refused) (codes "= ") line.answer ++ messages_plain (codes "  ") line.notes
    ++ messages_plain (codes "> ") line.messages

-- the lines, in order
abbrev pub lines_plain : Bool → List Line → List ℕ
lines_plain colours lines = flat_map (line_plain colours) lines

-- a line before the calls, by its place
abbrev pub head_line_plain : ℕ → List ℕ → List ℕ
head_line_plain place text = numbered_plain (place + 1) text

-- the lines before the calls, from the first on
abbrev pub head_plain : List (List ℕ) → List ℕ
head_plain head = numbered head_line_plain 0 head

-- the line that could not be read, if there is one, and under it what was expected there
abbrev pub bad_plain : Bool → Option BadLine → List ℕ
bad_plain colours None = []
bad_plain colours (Some bad) = numbered_plain bad.number bad.text ++ under_plain colours look.Wrong (codes "bad line: ") bad.reason

-- the lines of a run as text
abbrev pub plain_words : Bool → Shown → List ℕ
plain_words colours run = head_plain run.head ++ lines_plain colours run.lines ++ bad_plain colours run.bad
