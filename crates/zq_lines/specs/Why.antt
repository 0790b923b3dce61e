-- Why a line is bad, as a sentence.
use Rattle.std.specs.Prelude.{ℕ, ◌+◌, ◌-◌, ◌==◌, Bool, ◌&&◌, ◌||◌, not, List, [], ◌∷◌, ◌++◌, Option, Some, None, codes, if◌then◌else◌, count_by, drop, length, nat_le, replicate, take}
use Rattle.std.specs.Fmt.{decimal}
use Rattle.zq_io.specs.Words.{len_to, word_at}
use Rattle.zq_lines.specs.declared.kind.Kind.{Kind}
use Rattle.std.specs.Str.{bytes_eq}
use Rattle.percent_encoding.specs.Percent.{percent_encode}
use Rattle.percent_encoding.specs.declared.ascii_set.TheConstants.{CONTROLS}
use Rattle.zq_lines.specs.declared.why.TheConstants.{BEST, CONFIG, EMPTY, FINALIZE, FORM, GATEWAYS, NETWORK, REPLY, SENT, START}
use Rattle.zq_lines.specs.declared.foreign.TheConstants.{WORKER}
use Rattle.zq_lines.specs.declared.form.Span.{Span}
use Rattle.zq_lines.specs.declared.form.Span.TheVariants as span
use Rattle.zq_lines.specs.Forms.{form_at, span_of, tail_of}
use Rattle.zq_lines.specs.Kinds.{expected, is_kind}
use Rattle.zq_lines.specs.Foreign.{foreign}
use Rattle.zq_lines.specs.Near.{nearest}

-- the name of a line: what stands before its first space
abbrev pub name_of : List ℕ → List ℕ
name_of line = take (len_to 32 line) line

-- how many words stand behind the name: each has a space before it
abbrev pub words_of : List ℕ → ℕ
words_of rest = count_by (λ b. b == 32) rest

-- a call can have so many words behind its name
abbrev pub fits_count : ℕ → Span → ℕ → Bool
fits_count all span.Exact count = all == count
fits_count all span.Less count = all == count || all == count + 1
fits_count all span.More count = nat_le all count

-- bytes as printed text on one line
abbrev pub printed : List ℕ → List ℕ
printed bytes = percent_encode CONTROLS bytes

-- bytes between two marks
unfoldable pub quoted : List ℕ → List ℕ
quoted bytes = codes "`" ++ printed bytes ++ codes "`"

-- the name that was meant
abbrev pub meant_words : Option (List ℕ) → List ℕ
meant_words None = []
meant_words (Some name) = codes "; is `" ++ name ++ codes "` meant?"

-- a name that is that of no call
abbrev pub unknown_words : List ℕ → List ℕ
unknown_words name = quoted name ++ codes " is no call" ++ meant_words (nearest name)

-- how many words a call has, its name among them, where so many can stand behind the name
unfoldable pub number_words : ℕ → Span → List ℕ
number_words all span.Exact = decimal (all + 1)
number_words all span.Less = decimal all ++ codes " or " ++ decimal (all + 1)
number_words all span.More = decimal (all + 1) ++ codes " or more"

-- how many words a call has
unfoldable pub has_words : List ℕ → ℕ → Span → List ℕ
has_words name all span = quoted name ++ codes " has " ++ number_words all span

-- how many words a call has, and how many stand there
abbrev pub count_words : List ℕ → ℕ → Span → ℕ → List ℕ
count_words name all span count = has_words name all span ++ codes " words, this has " ++ decimal (count + 1)

-- a word that is not what is expected at its place, or an empty one
abbrev pub wrong_words : Kind → List ℕ → List ℕ
wrong_words kind word = if length word == 0 then EMPTY.now else quoted word ++ codes " is " ++ expected kind

-- the word that stands there, where it is not what is expected, or is empty; otherwise what is found behind it
abbrev pub wrong_or : Kind → Option (List ℕ × List ℕ) → (List ℕ → Option (Kind × List ℕ)) → Option (Kind × List ℕ)
wrong_or kind None behind = Some (kind, [])
wrong_or kind (Some w) behind = if is_kind kind w.0 then behind w.1 else Some (kind, w.0)

-- the first word that is not what is expected at its place, if there is one
abbrev pub first_wrong : List Kind → List ℕ → Option (Kind × List ℕ)
first_wrong [] rest = None
first_wrong (k ∷ ks) rest = wrong_or k (word_at rest) (first_wrong ks)

-- what is said of a call whose words are as expected, as far as each is looked at alone
abbrev pub form_words : List ℕ → List ℕ
form_words name =
    if bytes_eq name (codes "config") then CONFIG.now
    else (if bytes_eq name (codes "start") then START.now
    else (if bytes_eq name (codes "best") then BEST.now
    else (if bytes_eq name (codes "sent") then SENT.now
    else (if bytes_eq name (codes "reply") then REPLY.now
    else (if bytes_eq name (codes "finalize") then FINALIZE.now
    else (if bytes_eq name (codes "gateways") then GATEWAYS.now
    else (if bytes_eq name (codes "network") then NETWORK.now
    else FORM.now)))))))

-- what is said of the first wrong word, or where there is none
abbrev pub word_reason : List ℕ → Option (Kind × List ℕ) → List ℕ
word_reason name None = form_words name
word_reason name (Some w) = wrong_words w.0 w.1

-- what is expected of each of so many words behind a name
abbrev pub wanted : List ℕ → List Kind → ℕ → List Kind
wanted name kinds count = take count kinds ++ replicate (count - length kinds) (tail_of name)

-- what is said of a call's words behind its name: of their number, if the call cannot have so many, or of the first that is wrong
abbrev pub call_reason : List ℕ → List ℕ → List Kind → List ℕ
call_reason name rest kinds =
    if fits_count (length kinds) (span_of name) (words_of rest) then word_reason name (first_wrong (wanted name kinds (words_of rest)) rest)
    else count_words name (length kinds) (span_of name) (words_of rest)

-- what is said of a line by the words of its call, if its name is that of a call
abbrev pub form_reason : List ℕ → List ℕ → Option (List Kind) → List ℕ
form_reason name rest None = unknown_words name
form_reason name rest (Some kinds) = call_reason name rest kinds

-- what is said of a line of a number by its name and by what stands behind it: the first is `config`, and `worker` is for shared scripts
abbrev pub name_reason : ℕ → List ℕ → List ℕ → List ℕ
name_reason number name rest =
    if number == 1 && not (bytes_eq name (codes "config")) then CONFIG.now
    else (if bytes_eq name (codes "worker") then WORKER.now
    else form_reason name rest (form_at number name))

-- what stands behind the name of a line
abbrev pub rest_of : List ℕ → List ℕ
rest_of line = drop (len_to 32 line) line

-- what is said of what is no part of the format, or else of the name and of the words
abbrev pub reason_by : ℕ → List ℕ → Option (List ℕ) → List ℕ
reason_by number line (Some said) = said
reason_by number line None = name_reason number (name_of line) (rest_of line)

-- what is said of a bad line of this number
abbrev pub reason : ℕ → List ℕ → List ℕ
reason number line = reason_by number line (foreign line)
