-- What can stand at a place of a line.
use Rattle.std.specs.Prelude.{ℕ, Bool, true, false, ◌&&◌, ◌||◌, List, Option, Some, None, codes, is_some}
use Rattle.std.specs.Str.{bytes_eq}
use Rattle.zq_io.specs.Words.{cut, number, text_of, option_of}
use Rattle.zq_io.specs.Values.{most_8, most_16, most_32, most_64, flag_of, zid_of, mode_of, bound_of, target_of, region_of, wire_of, zids_of}
use Rattle.zq_lines.specs.declared.kind.Kind.{Kind}
use Rattle.zq_lines.specs.declared.kind.Kind.TheVariants as kind

-- the word is one of two
abbrev pub is_flag : List ℕ → List ℕ → List ℕ → Bool
is_flag first other word = is_some (flag_of first other word)

-- the front is a name, and the back stands for a value
abbrev pub named_by : {X : Type 0} → (List ℕ → Option X) → List ℕ → Option (List ℕ × List ℕ) → Bool
named_by read name None = false
named_by read name (Some parts) = bytes_eq parts.0 name && is_some (read parts.1)

-- the word is a name, a colon, and what stands for a value
abbrev pub is_named : {X : Type 0} → (List ℕ → Option X) → List ℕ → List ℕ → Bool
is_named read name word = named_by read name (cut 58 word)

-- `in:TEXT` or `out:TEXT`
abbrev pub is_item : List ℕ → Bool
is_item word = is_named text_of (codes "in") word || is_named text_of (codes "out") word

-- a region, or `north` and a mode
abbrev pub is_entry : List ℕ → Bool
is_entry word = is_named mode_of (codes "north") word || is_some (region_of word)

-- the word can stand where this is expected
abbrev pub is_kind : Kind → List ℕ → Bool
is_kind kind.Byte word = is_some (number most_8 word)
is_kind kind.Short word = is_some (number most_16 word)
is_kind kind.Int word = is_some (number most_32 word)
is_kind kind.Long word = is_some (number most_64 word)
is_kind kind.OptionLong word = is_some (option_of (number most_64) word)
is_kind kind.Id word = is_some (zid_of word)
is_kind kind.Ids word = is_some (zids_of word)
is_kind kind.Region word = is_some (region_of word)
is_kind kind.Mode word = is_some (mode_of word)
is_kind kind.Bound word = is_some (bound_of word)
is_kind kind.Target word = is_some (target_of word)
is_kind kind.Wire word = is_some (wire_of word)
is_kind kind.OptionWire word = is_some (option_of wire_of word)
is_kind kind.OptionText word = is_some (option_of text_of word)
is_kind kind.Completeness word = is_flag (codes "c") (codes "p") word
is_kind kind.Keys word = is_flag (codes "k") (codes "n") word
is_kind kind.Aggregate word = bytes_eq word (codes "a")
is_kind kind.Body word = is_flag (codes "ok") (codes "err") word
is_kind kind.Mark word = is_flag (codes "initial") (codes "key") word
is_kind kind.Item word = is_item word
is_kind kind.Responder word = is_named zid_of (codes "by") word
is_kind kind.Choice word = is_flag (codes "region") (codes "overall") word
is_kind kind.Entry word = is_entry word
is_kind kind.Any word = true

-- what is expected, and how it is written
abbrev pub expected : Kind → List ℕ
expected kind.Byte = codes "no number below 2^8"
expected kind.Short = codes "no number below 2^16"
expected kind.Int = codes "no number below 2^32"
expected kind.Long = codes "no number below 2^64"
expected kind.OptionLong = codes "neither a number below 2^64 nor `-`"
expected kind.Id = codes "no id: a number below 2^128"
expected kind.Ids = codes "no list of ids: joined by `,`, or `-`"
expected kind.Region = codes "no region: `north`, `local` or `south:NUM:MODE`"
expected kind.Mode = codes "no mode: `router`, `peer` or `client`"
expected kind.Bound = codes "no bound: `north` or `south`"
expected kind.Target = codes "no target: `all`, `complete` or `best`"
expected kind.Wire = codes "no expression: `NUM:s:TEXT` or `NUM:r:TEXT`"
expected kind.OptionWire = codes "no expression: `NUM:s:TEXT`, `NUM:r:TEXT` or `-`"
expected kind.OptionText = codes "no text in UTF-8"
expected kind.Completeness = codes "neither `c` nor `p`"
expected kind.Keys = codes "neither `k` nor `n`"
expected kind.Aggregate = codes "not `a`"
expected kind.Body = codes "neither `ok` nor `err`"
expected kind.Mark = codes "no mark: `initial` or `key`"
expected kind.Item = codes "no item of a deny list: `in:TEXT` or `out:TEXT`"
expected kind.Responder = codes "no responder: `by:` and an id below 2^128"
expected kind.Choice = codes "neither `region` nor `overall`"
expected kind.Entry = codes "no region of a gateway: `north:MODE`, `local` or `south:NUM:MODE`"
expected kind.Any = codes "no word"
