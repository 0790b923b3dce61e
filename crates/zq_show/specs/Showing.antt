-- What is shown of a run.
use Rattle.std.specs.Prelude.{ℕ, Bool, List, [], ◌∷◌, ◌++◌, Option, Some, None, codes, if◌then◌else◌, nat_le, map, take, length, filter, is_none, ◌||◌}
use Rattle.std.specs.List.{flat_map}
use Rattle.std.specs.Fmt.{decimal}
use Rattle.zq_machine.specs.declared.call.Outcome.{Outcome}
use Rattle.zq_machine.specs.declared.call.Outcome.TheVariants as outcome
use Rattle.zq_machine.specs.Handing.{Handed}
use Rattle.zq_lines.specs.CallLines.{call_words}
use Rattle.zq_show.specs.declared.page.Line.{Line}
use Rattle.zq_show.specs.declared.page.Shown.{Shown}
use Rattle.zq_show.specs.declared.row.Row.{Row}
use Rattle.zq_show.specs.Choice.{chosen, has_line}
use Rattle.zq_show.specs.Lanes.{lanes_shown}
use Rattle.zq_show.specs.declared.entry.Entry.{Entry}
use Rattle.zq_show.specs.declared.show.Run.{Run}
use Rattle.zq_show.specs.declared.show.TheConstants.{DRAWN, ROWS}
use Rattle.zq_show.specs.Answer.{answer_words, handed_text, is_refused}
use Rattle.zq_show.specs.Notes.{notes_of}
use Rattle.zq_show.specs.Rows.{all_rows}

-- the messages of a call, each as a text, in order
abbrev pub handed_texts : List Handed → List (List ℕ)
handed_texts handed = map handed_text handed

-- what is shown of a call
abbrev pub line_of : Entry → Line
line_of entry =
    record {
      number = entry.number;
      text = entry.text;
      answer = answer_words entry.step.outcome;
      refused = is_refused entry.step.outcome;
      notes = notes_of entry;
      messages = handed_texts entry.step.handed;
    }

-- a call is shown: each, or where a request is, one that has a row
abbrev pub is_shown : Option ℕ → List Row → Entry → Bool
is_shown request rows entry = is_none request || has_line entry.number rows

-- what is shown of the calls, each once and in order: of all, or of those that concern a request
abbrev pub lines_shown : Option ℕ → List Row → List Entry → List Line
lines_shown request rows entries = map line_of (filter (is_shown request rows) entries)

-- a face by its number and the call that opened it
abbrev pub face_text : ℕ → Entry → List ℕ
face_text face entry = codes "face " ++ decimal face ++ codes ": " ++ call_words entry.call

-- the face that an answer opened, if it opened one
abbrev pub face_by : Outcome → Entry → List (List ℕ)
face_by (outcome.Opened face) entry = face_text face.0 entry ∷ []
face_by _ entry = []

-- the face that a call opened, if it opened one
abbrev pub face_texts : Entry → List (List ℕ)
face_texts entry = face_by entry.step.outcome entry

-- the faces that the calls opened, in order
abbrev pub face_lines : List Entry → List (List ℕ)
face_lines entries = flat_map face_texts entries

-- the rows of the picture: of the first calls, or of those that concern a request
abbrev pub rows_shown : Option ℕ → ℕ → List Entry → List Row
rows_shown None timeout entries = all_rows timeout (take DRAWN entries)
rows_shown (Some request) timeout entries = chosen request (all_rows timeout entries)

-- which of the calls a picture shows
abbrev pub scope_words : Option ℕ → ℕ → List ℕ
scope_words (Some request) calls = codes "The picture and the lines are of the calls that concern request #" ++ decimal request ++ codes "."
scope_words None calls = if nat_le calls DRAWN then codes "The picture shows all calls." else codes "The picture shows the first 100 calls; `zq show --request N` draws those of request #N."

-- what is shown of a run
abbrev pub shown_of : Run → Option ℕ → Shown
shown_of run request =
    record {
      head = run.head;
      faces = face_lines run.entries;
      lines = lines_shown request (rows_shown request run.timeout run.entries) run.entries;
      bad = run.bad;
      stands = run.stands;
      scope = scope_words request (length run.entries);
      lanes = lanes_shown run.entries (take ROWS (rows_shown request run.timeout run.entries));
      rows = take ROWS (rows_shown request run.timeout run.entries);
    }
