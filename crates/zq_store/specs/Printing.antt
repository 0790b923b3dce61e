-- What is printed for the lines of a script for storages.
use Rattle.std.specs.Prelude.{ℕ, List, [], ◌∷◌, ◌++◌, Option, Some, None, codes}
use Rattle.std.specs.Fmt.{decimal}
use Rattle.std.specs.List.{flat_map}
use Rattle.zq_io.specs.Words.{field, payload_word}
use Rattle.zq_script.specs.Load.{load_config}
use Rattle.zq_store.specs.Bus.{BusState, new_bus}
use Rattle.zq_store.specs.Outcomes.{line_after, line_outcome}
use Rattle.zq_store.specs.declared.bus.BusRefusal.{BusRefusal}
use Rattle.zq_store.specs.declared.bus.BusRefusal.TheVariants as refusal
use Rattle.zq_store.specs.declared.got.GotReply.{GotReply}
use Rattle.zq_store.specs.declared.lines.Line.{Line}
use Rattle.zq_store.specs.declared.outcome.LineOutcome.{LineOutcome}
use Rattle.zq_store.specs.declared.outcome.LineOutcome.TheVariants as outcome
use Rattle.zq_store.specs.declared.stores.PutRefusal.{PutRefusal}
use Rattle.zq_store.specs.declared.stores.PutRefusal.TheVariants as unput

-- the name of a refusal of the bus
abbrev pub refusal_name : BusRefusal → List ℕ
refusal_name refusal.Spent = codes "Spent"
refusal_name refusal.NoLocal = codes "NoLocal"
refusal_name refusal.NoFreeId = codes "NoFreeId"
refusal_name refusal.OutOfMemory = codes "OutOfMemory"

-- the name of a refusal of a storage
abbrev pub put_name : PutRefusal → List ℕ
put_name unput.UnknownStore = codes "UnknownStore"
put_name unput.NotPlain = codes "NotPlain"
put_name unput.Outside = codes "Outside"
put_name unput.OutOfMemory = codes "OutOfMemory"

-- `refused NAME`
abbrev pub refused_words : List ℕ → List ℕ
refused_words name = codes "refused " ++ name ++ 10 ∷ []

-- `old PAYLOAD` for a value before, else `done`
abbrev pub old_words : Option (List ℕ) → List ℕ
old_words None = codes "done\n"
old_words (Some value) = codes "old" ++ field (payload_word value) ++ 10 ∷ []

-- `KEY PAYLOAD`
abbrev pub reply_words : GotReply → List ℕ
reply_words r = payload_word r.key ++ field (payload_word r.value) ++ 10 ∷ []

-- a line for each reply, and then `end`
abbrev pub got_words : List GotReply → List ℕ
got_words replies = flat_map reply_words replies ++ codes "end\n"

-- ---- what each line prints

-- what comes of a line: `storage N`, by the number of one that joined; the value before; the replies; or the refusal
abbrev pub outcome_words : LineOutcome → List ℕ
outcome_words (outcome.Joined s) = codes "storage " ++ decimal s.0 ++ 10 ∷ []
outcome_words (outcome.Changed before) = old_words before
outcome_words (outcome.Got replies) = got_words replies
outcome_words (outcome.Refused e) = refused_words (refusal_name e)
outcome_words (outcome.PutRefused e) = refused_words (put_name e)

-- what a line prints
abbrev pub line_print : BusState → Line → List ℕ
line_print b l = outcome_words (line_outcome b l)

-- what lines print, one after another
abbrev pub lines_print : BusState → List Line → List ℕ
lines_print b [] = []
lines_print b (l ∷ more) = line_print b l ++ lines_print (line_after b l) more

-- what a script prints: its lines, from a new bus of the load's configuration on
abbrev pub script_print : List Line → List ℕ
script_print lines = lines_print (new_bus load_config) lines
