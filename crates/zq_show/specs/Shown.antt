-- What is read and written where a run is shown.
use Rattle.std.specs.Prelude.{◌≡◌, ℕ, ◌<◌, ◌≤◌, ◌==◌, Bool, true, false, not, List, Option, Some, None, length}
use Rattle.std.specs.List.{list_any}
use Rattle.std.specs.Option.{option_map_or}
use Rattle.std.specs.Io.KnownBytes.{Appends}
use Rattle.zq_io.specs.declared.transfer.TheConstants.{LIMIT}
use Rattle.zq_io.specs.Streams.{AppendsFront}
use Rattle.zq_lines.specs.Split.{lines_of}
use Rattle.zq_machine.specs.declared.call.Outcome.{Outcome}
use Rattle.zq_machine.specs.declared.call.Outcome.TheVariants as outcome
use Rattle.zq_show.specs.declared.entry.Entry.{Entry}
use Rattle.zq_show.specs.declared.page.BadLine.{BadLine}
use Rattle.zq_show.specs.Mermaid.{mermaid_words}
use Rattle.zq_show.specs.Page.{page_words}
use Rattle.zq_show.specs.Plain.{plain_words}
use Rattle.zq_script.specs.Running.{IsBad, IsScript}
use Rattle.zq_script.specs.Script.{script_of}
use Rattle.zq_script.specs.declared.running.Status.{Status}
use Rattle.zq_script.specs.declared.running.Status.TheVariants as status
use Rattle.zq_show.specs.Showing.{shown_of}
use Rattle.zq_show.specs.declared.show.Run.{Run}
use Rattle.zq_show.specs.Replay.{run_of}
use Rattle.zq_show.specs.declared.words.Form.{Form}
use Rattle.zq_show.specs.declared.words.Form.TheVariants as form

-- how a run ended: well, or at a bad line
abbrev pub end_of : Option BadLine → Status
end_of None = status.Done
end_of (Some bad) = status.Script

-- a run as a page, with the picture of the first calls or of a request, as text, or as a diagram
abbrev pub words_of : Form → Run → List ℕ
words_of (form.Page request) run = page_words (shown_of run request)
words_of (form.Plain colours) run = plain_words colours (shown_of run None)
words_of (form.Mermaid request) run = mermaid_words (shown_of run request)

-- an answer gives a request this number
abbrev pub is_numbered : ℕ → Outcome → Bool
is_numbered number (outcome.Asked asked) = asked == number
is_numbered number _ = false

-- a call made a request of this number
abbrev pub has_request : ℕ → List Entry → Bool
has_request number entries = list_any (λ (entry : Entry). is_numbered number entry.step.outcome) entries

-- the request that a form is of, if it is of one
abbrev pub request_in : Form → Option ℕ
request_in (form.Page request) = request
request_in (form.Plain colours) = None
request_in (form.Mermaid request) = request

-- a form is of a request that no call made
abbrev pub lacks : Form → List Entry → Bool
lacks form entries = option_map_or (λ number. not (has_request number entries)) (request_in form) false

-- nothing is shown of these bytes: the form is of a request that no call made
unfoldable pub shows_none : Form → List ℕ → Bool
shows_none form input = lacks form (run_of (lines_of input)).entries

-- what is shown of these bytes
unfoldable pub shown_words : Form → List ℕ → List ℕ
shown_words form input = words_of form (run_of (lines_of input))

-- a script that was shown so, and what the sink had and has taken: the run, whole or up to the first bad line
abbrev pub LeavesShown : Status → Form → List ℕ → Option (List ℕ) → Option (List ℕ) → Type 0
LeavesShown status.Done form input old new = IsScript (script_of 0 (lines_of input)) × (length input ≤ LIMIT) × (shows_none form input ≡ false) × Appends old new (shown_words form input)
LeavesShown status.Words form input old new = (shows_none form input ≡ true) × (new ≡ old)
LeavesShown status.Script form input old new = IsBad (script_of 0 (lines_of input)) × (length input ≤ LIMIT) × (shows_none form input ≡ false) × Appends old new (shown_words form input)
LeavesShown status.ReadFault form input old new = Unit {0}
LeavesShown status.WriteFault form input old new = (length input ≤ LIMIT) × AppendsFront old new (shown_words form input)
LeavesShown status.Memory form input old new = Unit {0}
LeavesShown status.TooLong form input old new = LIMIT < length input
LeavesShown status.LinkFault form input old new = ⊥
