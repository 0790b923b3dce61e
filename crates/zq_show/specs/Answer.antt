-- What a call was answered, as a text.
use Rattle.std.specs.Prelude.{ℕ, Bool, true, false, List, [], ◌++◌, Option, Some, None, codes, if◌then◌else◌}
use Rattle.std.specs.Str.{bytes_eq}
use Rattle.std.specs.Fmt.{decimal}
use Rattle.zq_message.specs.declared.message.Message.{Message}
use Rattle.zq_machine.specs.declared.call.Outcome.{Outcome}
use Rattle.zq_machine.specs.declared.call.Outcome.TheVariants as outcome
use Rattle.zq_machine.specs.declared.call.Refusal.{Refusal}
use Rattle.zq_machine.specs.declared.call.Refusal.TheVariants as refusal
use Rattle.zq_machine.specs.Handing.{Handed}
use Rattle.zq_lines.specs.Steps.{message_words}

-- the name of a refusal, and what it means
abbrev pub cause_words : Refusal → List ℕ
cause_words refusal.UnknownFace = codes "UnknownFace: the face was never opened, or is closed"
cause_words refusal.UnknownRegion = codes "UnknownRegion: the configuration lacks the region"
cause_words refusal.UpstreamInUse = codes "UpstreamInUse: the region has its one face already"
cause_words refusal.UnknownScope = codes "UnknownScope: the number stands for no key at the face"
cause_words refusal.InvalidKeyExpr = codes "InvalidKeyExpr: the full text is no key"
cause_words refusal.QueryNotFound = codes "QueryNotFound: the id is not pending at the face"
cause_words refusal.NotInFlight = codes "NotInFlight: no such reply is in flight"
cause_words refusal.Remapped = codes "Remapped: the number is 0, or stands for another text"
cause_words refusal.UnknownId = codes "UnknownId: the id stands for nothing"
cause_words refusal.IdInUse = codes "IdInUse: the id stands for another key"
cause_words refusal.UnknownRouter = codes "UnknownRouter: the node number stands for no other router"
cause_words refusal.NoFreeId = codes "NoFreeId: no number is left"

-- the call was refused
abbrev pub is_refused : Outcome → Bool
is_refused (outcome.Refused r) = true
is_refused (outcome.Opened face) = false
is_refused (outcome.Asked n) = false
is_refused (outcome.Replied reply) = false
is_refused outcome.Done = false

-- a name and a number
abbrev pub named : List ℕ → ℕ → List ℕ
named name number = name ++ decimal number

-- which reply it became, if one went on
abbrev pub replied_words : Option ℕ → List ℕ
replied_words None = codes "replied: the asker is closed"
replied_words (Some n) = named (codes "replied: reply ") n

-- what a call was answered; of a refusal with its cause
abbrev pub answer_words : Outcome → List ℕ
answer_words (outcome.Opened face) = named (codes "opened: face ") face.0
answer_words (outcome.Asked n) = named (codes "asked: request #") n
answer_words (outcome.Replied reply) = replied_words reply
answer_words outcome.Done = codes "done"
answer_words (outcome.Refused r) = codes "refused: " ++ cause_words r

-- the words of what leaves, where they are not those of what was handed
abbrev pub other_words : List ℕ → List ℕ → List ℕ
other_words words leaving = if bytes_eq leaving words then [] else codes ", which leaves as " ++ leaving

-- what leaves of a message of these words, where it is not what was handed
abbrev pub gone_words : List ℕ → Option Message → List ℕ
gone_words words None = codes ", of which nothing leaves"
gone_words words (Some m) = other_words words (message_words m)

-- the number of a request, if there is one
abbrev pub number_tag : Option ℕ → List ℕ
number_tag None = []
number_tag (Some n) = named (codes "#") n ++ codes " "

-- the number of a reply, if there is one
abbrev pub reply_tag : Option ℕ → List ℕ
reply_tag None = []
reply_tag (Some n) = named (codes "reply ") n ++ codes ": "

-- the numbers of the request and of the reply that a message is of
abbrev pub tag_words : Handed → List ℕ
tag_words h = number_tag h.number ++ reply_tag h.reply

-- a message that is handed: to whom, of which request and as which reply, its words, and what leaves of it where that is not the same
abbrev pub handed_text : Handed → List ℕ
handed_text h = named (codes "to face ") h.to.0 ++ codes ": " ++ tag_words h ++ message_words h.message ++ gone_words (message_words h.message) h.leaves
