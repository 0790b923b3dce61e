-- The picture of rows as a sequence diagram.
use Rattle.std.specs.Prelude.{ℕ, ◌==◌, ◌||◌, Bool, List, [], ◌∷◌, ◌++◌, Option, Some, None, codes, if◌then◌else◌}
use Rattle.std.specs.List.{flat_map}
use Rattle.std.specs.Fmt.{decimal}
use Rattle.zq_io.specs.Words.{field}
use Rattle.zq_io.specs.Values.{mode_word, region_word, zid_word}
use Rattle.zq_show.specs.declared.lanes.About.{About}
use Rattle.zq_show.specs.declared.lanes.Lane.{Lane}
use Rattle.zq_show.specs.declared.page.BadLine.{BadLine}
use Rattle.zq_show.specs.declared.page.Shown.{Shown}
use Rattle.zq_show.specs.declared.row.Kind.{Kind}
use Rattle.zq_show.specs.declared.row.Kind.TheVariants as kind
use Rattle.zq_show.specs.declared.row.Row.{Row}
use Rattle.zq_show.specs.Escape.{shown}

-- what stands in a diagram for a byte: its number, where a diagram is made of it, and else the byte
abbrev pub spelled_byte : ℕ → List ℕ
spelled_byte b =
    if b == 35 then codes "#35;"
    else (if b == 38 then codes "#38;"
    else (if b == 59 then codes "#59;"
    else (if b == 60 then codes "#60;"
    else (if b == 62 then codes "#62;"
    else b ∷ []))))

-- bytes with the number of each that a diagram is made of
abbrev pub spelled : List ℕ → List ℕ
spelled bytes = flat_map spelled_byte bytes

-- a label, at the end of a line
abbrev pub label_line : List ℕ → List ℕ
label_line label = spelled (shown label) ++ 10 ∷ []

-- the region, the mode and the id of a face, if it was opened
abbrev pub about_line : Option About → List ℕ
about_line None = []
about_line (Some a) = codes ":" ++ field (region_word a.region) ++ field (mode_word a.mode) ++ field (zid_word a.zid)

-- a face that takes part
unfoldable pub lane_line : Lane → List ℕ
lane_line lane = codes "    participant F" ++ decimal lane.face ++ codes " as face " ++ decimal lane.face ++ about_line lane.about ++ 10 ∷ []

-- the faces that take part
abbrev pub lanes_lines : List Lane → List ℕ
lanes_lines lanes = flat_map lane_line lanes

-- the arrow of a stroke
abbrev pub stroke_of : Kind → List ℕ
stroke_of kind.Request = codes "->>"
stroke_of kind.Reply = codes "-->>"
stroke_of kind.Final = codes "--)"
stroke_of kind.Declaration = codes "->>"
stroke_of kind.Time = codes "->>"
stroke_of kind.Note = codes "->>"

-- the arrow of a row: with a cross where it is refused or stopped
abbrev pub arrow_of : Row → List ℕ
arrow_of row = if row.refused || row.stopped then codes "-x" else stroke_of row.kind

-- from whom to whom an arrow goes
unfoldable pub ends_line : Row → ℕ → List ℕ
ends_line row face = if row.handed then codes "G" ++ arrow_of row ++ codes "F" ++ decimal face else codes "F" ++ decimal face ++ arrow_of row ++ codes "G"

-- an arrow
unfoldable pub arrow_line : Row → ℕ → List ℕ
arrow_line row face = codes "    " ++ ends_line row face ++ codes ": " ++ label_line row.label

-- that a row is refused, if it is
abbrev pub refusal_of : Bool → List ℕ
refusal_of refused = if refused then codes "refused: " else []

-- a row of no face
unfoldable pub note_line : Row → List ℕ
note_line row = codes "    Note over G: " ++ refusal_of row.refused ++ label_line row.label

-- a row, at a face or at none
abbrev pub row_by : Option ℕ → Row → List ℕ
row_by None row = note_line row
row_by (Some face) row = arrow_line row face

-- a row
abbrev pub row_line : Row → List ℕ
row_line row = row_by row.face row

-- the rows, from above
abbrev pub rows_lines : List Row → List ℕ
rows_lines rows = flat_map row_line rows

-- the number of a line that could not be read
unfoldable pub number_line : ℕ → List ℕ
number_line number = codes "    Note over G: bad line " ++ decimal number ++ 10 ∷ []

-- the number of the line that could not be read, if there is one
abbrev pub bad_line : Option BadLine → List ℕ
bad_line None = []
bad_line (Some bad) = number_line bad.number

-- the picture of a run as a sequence diagram
abbrev pub mermaid_words : Shown → List ℕ
mermaid_words run = codes "sequenceDiagram\n    participant G as gateway\n" ++ lanes_lines run.lanes ++ rows_lines run.rows ++ bad_line run.bad
