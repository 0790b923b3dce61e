-- The lines before the calls: the configuration, the counters, and where the best offer is looked for.
use Rattle.std.specs.Prelude.{ℕ, ◌==◌, ◌+◌, Bool, true, false, List, [], ◌∷◌, ◌++◌, Option, Some, None, Result, Ok, Err, if◌then◌else◌, codes, take, drop}
use Rattle.std.specs.Str.{bytes_eq}
use Rattle.zq_message.specs.declared.message.Zid.{Zid}
use Rattle.zq_message.specs.declared.message.Mode.{Mode}
use Rattle.zq_message.specs.declared.message.Region.{Region}
use Rattle.zq_message.specs.declared.message.Region.TheVariants as region
use Rattle.zq_machine.specs.declared.config.Counters.{Counters}
use Rattle.zq_machine.specs.declared.config.Entry.{Entry}
use Rattle.zq_machine.specs.declared.config.Entry.TheVariants as entry
use Rattle.zq_machine.specs.declared.config.BadConfig.{BadConfig}
use Rattle.zq_machine.specs.Configs.{Settings, bad_config, no_counts, usual_best}
use Rattle.zq_route.specs.declared.selection.Best.{Best}
use Rattle.zq_route.specs.declared.selection.Best.TheVariants as best
use Rattle.zq_io.specs.Words.{◌>>=◌, len_to, cut, pieces, number, read_at, read_each, at_end}
use Rattle.zq_io.specs.Values.{most_32, most_64, flag_of, zid_of, mode_of, behind, region_of}

-- a line and a newline
abbrev pub ended : List ℕ → List ℕ
ended line = line ++ 10 ∷ []

-- `north:MODE`
unfoldable pub north_of : List ℕ → Option Mode
north_of word = do
  parts ← cut 58 word
  rest ← behind (codes "north") parts
  mode_of rest

-- the entry of a region of the South
abbrev pub south_part : Region → Option Entry
south_part (region.South id strategy) = Some (entry.South id strategy)
south_part region.North = None
south_part region.Local = None

-- `south:NUM:MODE`
abbrev pub south_entry : List ℕ → Option Entry
south_entry word = region_of word >>= south_part

-- North by its mode, or else a region of the South
abbrev pub or_south : List ℕ → Option Mode → Option Entry
or_south word (Some strategy) = Some (entry.North strategy)
or_south word None = south_entry word

-- an entry of the configuration
unfoldable pub entry_of : List ℕ → Option Entry
entry_of word = if bytes_eq word (codes "local") then Some entry.Local else or_south word (north_of word)

-- one or more entries up to the end of the line
abbrev pub entries_of : List ℕ → Option (List Entry)
entries_of [] = None
entries_of (b ∷ bytes) = if b == 32 then read_each entry_of (pieces 32 bytes) else None

-- the five counters
unfoldable pub counters_of : List ℕ → Option Counters
counters_of bytes = do
  faces ← read_at (number most_32) bytes
  requests ← read_at (number most_64) faces.1
  replies ← read_at (number most_64) requests.1
  told ← read_at (number most_32) replies.1
  ids ← read_at (number most_32) told.1
  at_end ids.1 (record { faces = faces.0; requests = requests.0; replies = replies.0; told = told.0; request_ids = ids.0 })

-- the choice that one of the words `region` and `overall` says
abbrev pub best_by : Bool → Best
best_by true = best.ByRegion
best_by false = best.Overall

-- the choice up to the end of the line
unfoldable pub choice_of : List ℕ → Option Best
choice_of bytes = do
  region ← read_at (flag_of (codes "region") (codes "overall")) bytes
  at_end region.1 (best_by region.0)

-- what follows the first word, where it is this one
abbrev pub after_name : List ℕ → List ℕ → Option (List ℕ)
after_name name line = behind name (take (len_to 32 line) line, drop (len_to 32 line) line)

-- the line `start`
unfoldable pub start_of : List ℕ → Option Counters
start_of line = after_name (codes "start") line >>= counters_of

-- the line `best`
unfoldable pub best_of : List ℕ → Option Best
best_of line = after_name (codes "best") line >>= choice_of

-- the line `config`: the own id, the default timeout and the entries
unfoldable pub config_of : List ℕ → Option (Zid × ℕ × List Entry)
config_of line = do
  rest ← after_name (codes "config") line
  zid ← read_at zid_of rest
  timeout ← read_at (number most_64) zid.1
  entries ← entries_of timeout.1
  Some (zid.0, timeout.0, entries)

-- the counters of the next line, where it is a line `start`, with the line and those that follow
abbrev pub start_at : List (List ℕ) → Option (Counters × List ℕ × List (List ℕ))
start_at [] = None
start_at (line ∷ lines) = start_of line >>= (λ start. Some (start, line, lines))

-- the choice of the next line, where it is a line `best`, with the line and those that follow
abbrev pub best_at : List (List ℕ) → Option (Best × List ℕ × List (List ℕ))
best_at [] = None
best_at (line ∷ lines) = best_of line >>= (λ choice. Some (choice, line, lines))

-- what stands behind a line `config`: the counters, the choice, all lines so far as they were given, the number of the next line, and the lines of the calls
pub record Behind : Type 0 where
  pub start : Counters
  pub best : Best
  pub text : List ℕ
  pub number : ℕ
  pub lines : List (List ℕ)

-- behind the lines so far, with or without a line `best`
abbrev pub with_best : Counters → List ℕ → ℕ → List (List ℕ) → Option (Best × List ℕ × List (List ℕ)) → Behind
with_best start text n lines None = record { start = start; best = usual_best; text = text; number = n; lines = lines }
with_best start text n lines (Some b) = record { start = start; best = b.0; text = text ++ ended b.1; number = n + 1; lines = b.2 }

-- behind the line `config`, with or without a line `start`, behind which a line `best` may stand
abbrev pub with_start : List ℕ → List (List ℕ) → Option (Counters × List ℕ × List (List ℕ)) → Behind
with_start text lines None = with_best no_counts text 2 lines (best_at lines)
with_start text lines (Some s) = with_best s.0 (text ++ ended s.1) 3 s.2 (best_at s.2)

-- what stands behind this line `config`
abbrev pub behind_config : List ℕ → List (List ℕ) → Behind
behind_config line lines = with_start (ended line) lines (start_at lines)

-- a configuration; the first line is bad where something is wrong with its entries
abbrev pub unless_bad : Option BadConfig → Settings → Result Settings ℕ
unless_bad None config = Ok config
unless_bad (Some b) config = Err 1

-- the configuration of a config line with these counters and this choice
abbrev pub configured : Zid × ℕ × List Entry → Counters → Best → Result Settings ℕ
configured c start choice = unless_bad (bad_config c.2) (record { zid = c.0; entries = c.2; timeout = c.1; start = start; best = choice })

-- the configuration, the lines before the calls as they were given, the number of the next line, and the lines of the calls
abbrev pub Head : Type 0
Head = Settings × List ℕ × ℕ × List (List ℕ)

-- the head with this configuration
abbrev pub headed : Behind → Result Settings ℕ → Result Head ℕ
headed b (Ok config) = Ok (config, b.text, b.number, b.lines)
headed b (Err n) = Err n

-- the head of which the first line is this one
abbrev pub with_config : List ℕ → List (List ℕ) → Option (Zid × ℕ × List Entry) → Result Head ℕ
with_config line lines None = Err 1
with_config line lines (Some c) = headed (behind_config line lines) (configured c (behind_config line lines).start (behind_config line lines).best)

-- the head of these lines, or the number of its bad line
abbrev pub head_of : List (List ℕ) → Result Head ℕ
head_of [] = Err 1
head_of (line ∷ lines) = with_config line lines (config_of line)
