-- The rows of a picture as a list, for a page that is too narrow for the picture.
use Rattle.std.specs.Prelude.{ℕ, Bool, List, [], ◌++◌, Option, Some, None, codes, if◌then◌else◌}
use Rattle.std.specs.List.{flat_map}
use Rattle.std.specs.Fmt.{decimal}
use Rattle.zq_show.specs.declared.escape.TheConstants.{LABEL}
use Rattle.zq_show.specs.declared.row.Row.{Row}
use Rattle.zq_show.specs.Escape.{shown_short}

-- a link to a line
unfoldable pub link_words : ℕ → List ℕ
link_words line = codes "<a href='#l" ++ decimal line ++ codes "'>" ++ decimal line ++ codes "</a> "

-- which face speaks, or is spoken to
unfoldable pub faced_words : Bool → ℕ → List ℕ
faced_words handed face = (if handed then codes "to " else []) ++ codes "face " ++ decimal face ++ codes ": "

-- which face speaks, or is spoken to, if one is
abbrev pub way_words : Bool → Option ℕ → List ℕ
way_words handed None = []
way_words handed (Some face) = faced_words handed face

-- that a row is refused, if it is
abbrev pub refused_mark : Bool → List ℕ
refused_mark refused = if refused then codes "<b class='no'>refused</b> " else []

-- a row
unfoldable pub row_item : Row → List ℕ
row_item row = codes "<li>" ++ link_words row.line ++ refused_mark row.refused ++ way_words row.handed row.face ++ shown_short LABEL row.label ++ codes "</li>"

-- the rows, from above
abbrev pub row_items : List Row → List ℕ
row_items rows = flat_map row_item rows

-- the rows as a list
unfoldable pub narrow_words : List Row → List ℕ
narrow_words rows = codes "<ul class='rows'>" ++ row_items rows ++ codes "</ul>"
