-- A gateway that answers each line at once.
use Rattle.std.specs.Prelude.{◌≡◌, ℕ, ◌+◌, ◌<◌, ◌⊎◌, ◌^◌, ◌-◌, Bool, true, false, List, [], ◌∷◌, Option, Some, None, Ok, IfSome, filter, length, map}
use Rattle.std.specs.List.{flat_map}
use Rattle.std.specs.Io.KnownBytes.{Appends, IsAtEnd}
use Rattle.zq_machine.specs.declared.call.Step.{Step}
use Rattle.zq_io.specs.declared.transfer.ReadRefusal.{ReadRefusal}
use Rattle.zq_io.specs.declared.transfer.ReadRefusal.TheVariants as refusal
use Rattle.zq_io.specs.declared.transfer.TheConstants.{LIMIT}
use Rattle.zq_io.specs.Streams.{AppendsFront}
use Rattle.zq_lines.specs.Split.{lines_of}
use Rattle.zq_lines.specs.Steps.{step_words}
use Rattle.zq_lines.specs.Why.{reason}
use Rattle.zq_script.specs.Bad.{bad_line_words}
use Rattle.zq_script.specs.Printing.{printed}
use Rattle.zq_script.specs.Reading.{ReadsLines, ReadsPart}
use Rattle.zq_script.specs.Script.{script_of}
use Rattle.zq_script.specs.Conversation.{Spoken, Taken, fresh, place, taken, then}
use Rattle.zq_script.specs.declared.running.Status.{Status}
use Rattle.zq_script.specs.declared.running.Status.TheVariants as status

-- a line, whether it was taken, and what it was answered
pub record Answer : Type 0 where
  pub line : List ℕ
  pub good : Bool
  pub words : List ℕ

-- the print of a step, if there is one
abbrev pub printed_step : Option Step → List ℕ
printed_step None = []
printed_step (Some t) = step_words t

-- why the line of this number is bad, where the line of a place of a script was to come
abbrev pub bad_words : ℕ → ℕ → List ℕ → List ℕ
bad_words n place line = bad_line_words (record { number = n; reason = reason place line })

-- what is written for the line of this number: the print of its step where it is taken, and why it is bad where it is not
abbrev pub answer_words : ℕ → Spoken → List ℕ → Option Taken → List ℕ
answer_words n s line None = bad_words n (place s) line
answer_words n s line (Some t) = printed_step t.0

-- the answer to the line of this number
abbrev pub answer : ℕ → Spoken → List ℕ → Option Taken → Answer
answer n s line None = record { line = line; good = false; words = bad_words n (place s) line }
answer n s line (Some t) = record { line = line; good = true; words = printed_step t.0 }

-- the answers to lines, numbered from this on
abbrev pub answers : ℕ → Spoken → List (List ℕ) → List Answer
answers n s [] = []
answers n s (line ∷ lines) = answer n s line (taken s line) ∷ answers (n + 1) (then s (taken s line)) lines

-- what is then
abbrev pub after_lines : Spoken → List (List ℕ) → Spoken
after_lines s [] = s
after_lines s (line ∷ lines) = after_lines (then s (taken s line)) lines

-- answers, one after another
abbrev pub all_words : List Answer → List ℕ
all_words said = flat_map (λ a. a.words) said

-- all that is written for lines
abbrev pub live_words : List (List ℕ) → List ℕ
live_words lines = all_words (answers 1 fresh lines)

-- the answers to lines that were taken
abbrev pub good_answers : List Answer → List Answer
good_answers said = filter (λ a. a.good) said

-- the lines that were taken
abbrev pub good_lines : List Answer → List (List ℕ)
good_lines said = map (λ a. a.line) (good_answers said)

-- the lines that were taken are a script, if there are any, and what they were answered is its print
abbrev pub IsReplayed : List Answer → Type 0
IsReplayed said = (good_answers said ≡ []) ⊎ (printed (script_of 0 (good_lines said)) ≡ Ok (all_words (good_answers said)))

-- each line that was read was answered, and behind them no byte was read but a front of the next, of which this holds
abbrev pub AnswersAll : (List (List ℕ) → List ℕ → Type 0) → Option (List ℕ) → Option (List ℕ) → Option (List ℕ) → Option (List ℕ) → Type 0
AnswersAll Ends left rest old new =
    (lines : List (List ℕ)) × (behind : Option (List ℕ)) × (part : List ℕ) × ReadsLines left behind lines × ReadsPart behind rest part × Ends lines part × Appends old new (live_words lines)

-- a line has more bytes than a script may have, or more than 2^64 - 2 lines came
abbrev pub IsTooLong : List (List ℕ) → List ℕ → Type 0
IsTooLong lines part = (LIMIT < length part) ⊎ (length lines ≡ 2 ^ 64 - 2)

-- some lines that were read were answered
abbrev pub AnswersSome : Option (List ℕ) → Option (List ℕ) → Option (List ℕ) → Type 0
AnswersSome left old new = (lines : List (List ℕ)) × (behind : Option (List ℕ)) × ReadsLines left behind lines × Appends old new (live_words lines)

-- a front of the answers to lines that were read was taken, and not the whole of them
abbrev pub AnswersFront : Option (List ℕ) → Option (List ℕ) → Option (List ℕ) → Type 0
AnswersFront left old new = (lines : List (List ℕ)) × (behind : Option (List ℕ)) × ReadsLines left behind lines × AppendsFront old new (live_words lines)

-- what the source had and has, and what the sink had and has taken, where it ended so
abbrev pub LeavesLive : Status → Option (List ℕ) → Option (List ℕ) → Option (List ℕ) → Option (List ℕ) → Type 0
LeavesLive status.Done left rest old new = IsAtEnd rest × IfSome left (λ input. Appends old new (live_words (lines_of input)))
LeavesLive status.Words left rest old new = ⊥
LeavesLive status.Script left rest old new = ⊥
LeavesLive status.ReadFault left rest old new = AnswersAll (λ lines part. Unit {0}) left rest old new
LeavesLive status.WriteFault left rest old new = AnswersFront left old new
LeavesLive status.Memory left rest old new = AnswersSome left old new
LeavesLive status.TooLong left rest old new = AnswersAll IsTooLong left rest old new
LeavesLive status.LinkFault left rest old new = ⊥

-- how it ends where the source gave no line
abbrev pub end_of : ReadRefusal → Status
end_of refusal.ReadFault = status.ReadFault
end_of refusal.TooLong = status.TooLong
end_of refusal.OutOfMemory = status.Memory
