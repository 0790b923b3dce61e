-- The page of a run.
use Rattle.std.specs.Prelude.{ℕ, Bool, false, List, [], ◌∷◌, ◌++◌, Option, Some, None, codes, if◌then◌else◌, ◌==◌, length, nat_le}
use Rattle.std.specs.List.{flat_map}
use Rattle.std.specs.Fmt.{decimal}
use Rattle.zq_show.specs.declared.page.Line.{Line}
use Rattle.zq_show.specs.declared.page.BadLine.{BadLine}
use Rattle.zq_show.specs.declared.page.Shown.{Shown}
use Rattle.zq_show.specs.declared.page.TheConstants.{BAD_REST, BAD_ROOM, BEGIN, LEGEND, LINES_ROOM, LIST_ROOM, STANDS}
use Rattle.zq_show.specs.declared.row.Row.{Row}
use Rattle.zq_show.specs.Escape.{shown_in_page, shown_short}
use Rattle.zq_show.specs.Fit.{fitted_by, room_of}
use Rattle.zq_show.specs.Choice.{has_line}
use Rattle.zq_show.specs.Narrow.{narrow_words}
use Rattle.zq_show.specs.Picture.{picture_words}

-- a text between words of the page's own
unfoldable pub said_words : List ℕ → List ℕ → List ℕ → List ℕ
said_words before text after = before ++ shown_in_page text ++ after

-- an item of a list
abbrev pub item_words : List ℕ → List ℕ
item_words text = said_words (codes "<li><code>") text (codes "</code></li>")

-- the items of a list
abbrev pub items_words : List (List ℕ) → List ℕ
items_words texts = flat_map item_words texts

-- a list, and nothing where it is empty
unfoldable pub list_words : List (List ℕ) → List ℕ
list_words texts = if length texts == 0 then [] else codes "<ul>" ++ items_words texts ++ codes "</ul>"

-- a list that has room for so many bytes
unfoldable pub long_list_words : ℕ → List (List ℕ) → List ℕ
long_list_words room texts = codes "<ul>" ++ fitted_by item_words (room_of room) texts ++ codes "</ul>"

-- what there is to say of an answer, each as a paragraph
abbrev pub notes_words : List (List ℕ) → List ℕ
notes_words notes = flat_map (λ note. said_words (codes "<p class='said'>") note (codes "</p>")) notes

-- the beginning of a link to a row
unfoldable pub link_words : ℕ → List ℕ
link_words number = codes "<a href='#p" ++ decimal number ++ codes "'>"

-- the number of a line, as a link to its row where the picture has one
unfoldable pub linked : ℕ → Bool → List ℕ
linked number drawn = if drawn then link_words number ++ decimal number ++ codes "</a></span>" else decimal number ++ codes "</span>"

-- the beginning of a line
unfoldable pub line_number_words : ℕ → Bool → List ℕ
line_number_words number drawn = codes "<li id='l" ++ decimal number ++ codes "'><span class='n'>" ++ linked number drawn

-- the beginning of an answer
abbrev pub answer_open : Bool → List ℕ
answer_open refused = if refused then codes "<p class='no'>" else codes "<p>"

-- what came of a line: its answer, what there is to say of it, and the messages that it handed
unfoldable pub came_words : Line → List ℕ
came_words line = said_words (answer_open line.refused) line.answer (codes "</p>") ++ notes_words line.notes ++ list_words line.messages

-- a line, with what it was answered and the messages that it handed
unfoldable pub line_words : List Row → Line → List ℕ
line_words rows line =
    line_number_words line.number (has_line line.number rows) ++ said_words (codes "<code>") line.text (codes "</code>") ++ came_words line ++ codes "</li>" ++ 10 ∷ []

-- the lines, in order, each where it fits
abbrev pub lines_words : List Row → List Line → List ℕ
lines_words rows lines = fitted_by (line_words rows) (room_of LINES_ROOM) lines

-- a text of which no more than `BAD_ROOM` bytes are shown
unfoldable pub short_words : List ℕ → List ℕ → List ℕ → List ℕ
short_words before text after = before ++ shown_short BAD_ROOM text ++ after

-- that the line that could not be read is not shown whole, where it is longer than that
unfoldable pub rest_of_bad : BadLine → List ℕ
rest_of_bad bad = if nat_le (length bad.text) BAD_ROOM then [] else BAD_REST.now

-- the text of the line that could not be read
unfoldable pub bad_text_words : BadLine → List ℕ
bad_text_words bad = short_words (codes "<code>") bad.text (codes "</code>") ++ rest_of_bad bad

-- the line that could not be read
unfoldable pub bad_line_words : BadLine → List ℕ
bad_line_words bad =
    line_number_words bad.number false ++ bad_text_words bad ++ short_words (codes "<p class='no'>bad line: ") bad.reason (codes "</p></li>")

-- the line that could not be read, if there is one
abbrev pub bad_words : Option BadLine → List ℕ
bad_words None = []
bad_words (Some bad) = bad_line_words bad

-- what stands before the lists of a page
unfoldable pub begin_words : List ℕ
begin_words = BEGIN.now

-- how the picture is read
unfoldable pub legend_words : List ℕ
legend_words = LEGEND.now

-- the title, the configuration and the faces
unfoldable pub head_words : Shown → List ℕ
head_words shown = begin_words ++ long_list_words LIST_ROOM shown.head ++ codes "<h2>Faces</h2>" ++ long_list_words LIST_ROOM shown.faces

-- the picture, with what it shows of the run
unfoldable pub scene_words : Shown → List ℕ
scene_words shown =
    said_words (codes "<h2>Picture</h2><p>") shown.scope (codes "</p>") ++ legend_words ++ picture_words shown.lanes shown.rows ++ codes "</div>" ++ narrow_words shown.rows ++ codes "<h2>Lines</h2><ol class='lines'>"

-- what stands at the end of the run, and the end of the page
unfoldable pub end_words : List (List ℕ) → List ℕ
end_words stands = STANDS.now ++ long_list_words LIST_ROOM stands ++ codes "</body></html>"

-- the page of a run
abbrev pub page_words : Shown → List ℕ
page_words shown = head_words shown ++ scene_words shown ++ lines_words shown.rows shown.lines ++ bad_words shown.bad ++ end_words shown.stands
