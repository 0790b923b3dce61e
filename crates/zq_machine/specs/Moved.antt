-- Calls over texts, the part that decides them and what is handed, with all their texts moved by one map; and that what is decided moves along.
use Rattle.std.specs.Prelude.{◌≡◌, ℕ, List, [], ◌∷◌, map, option_map, if◌then◌else◌}
use Rattle.zq_strategy.specs.State.{HatState}
use Rattle.zq_strategy.specs.Moved.{move_hat, move_mark}
use Rattle.zq_interests.specs.declared.types.InterestEntry.{InterestEntry}
use Rattle.zq_interests.specs.Interests.{Interests}
use Rattle.zq_told.specs.Moved.{move_ears}
use Rattle.zq_tables.specs.declared.resolved.Resolved.{Resolved}
use Rattle.zq_tables.specs.declared.resolved.Resolved.TheVariants as said
use Rattle.zq_machine.specs.Messages.{Decided, Telling, TellingBody, TextMessage, all_told, key_ended, key_told, text_final, text_reply, text_request}
use Rattle.zq_machine.specs.State.{Core}
use Rattle.zq_machine.specs.TextCalls.{TextCall, naming, unnaming, declaring, asking, replying, finalizing, announcing, retracting, hearing}
use Rattle.zq_machine.specs.Deciding.{decide, accepted, is_accepted}

module _ (φ : List ℕ → List ℕ) where
  -- what an expression says, with its text moved
  abbrev pub move_said : Resolved → Resolved
  move_said said.Unscoped = said.Unscoped
  move_said said.Empty = said.Empty
  move_said (said.Full text) = said.Full (φ text)

  -- a call with the texts of its expressions, of its numbers and of its mark moved; of a request and a reply all else stays, with the expression that was read
  abbrev pub move_text : TextCall → TextCall
  move_text (naming face id s standing) = naming face id (move_said s) (option_map φ standing)
  move_text (unnaming face id standing) = unnaming face id (option_map φ standing)
  move_text (declaring face id s info node) = declaring face id (move_said s) info node
  move_text (asking face s r now) = asking face (move_said s) r now
  move_text (replying face s r) = replying face (move_said s) r
  move_text (finalizing face m set) = finalizing face (move_mark φ m) set
  move_text (announcing face s info node) = announcing face (move_said s) info node
  move_text (retracting face s node) = retracting face (move_said s) node
  move_text (hearing face id m s) = hearing face id m (option_map move_said s)
  move_text t = t

  -- a region's hat with its texts moved
  abbrev pub move_region : ℕ × HatState → ℕ × HatState
  move_region h = (h.0, move_hat φ h.1)

  -- what an interest asks for, with its key moved
  abbrev pub move_asked : InterestEntry → InterestEntry
  move_asked asked = record asked { key = option_map φ asked.key }

  -- the same, with its id
  abbrev pub move_interest : ℕ × InterestEntry → ℕ × InterestEntry
  move_interest i = (i.0, move_asked i.1)

  -- the interests of a face with their keys moved
  abbrev pub move_interests_of : ℕ × List (ℕ × InterestEntry) → ℕ × List (ℕ × InterestEntry)
  move_interests_of f = (f.0, map move_interest f.1)

  -- the interests of all faces with their keys moved
  abbrev pub move_interests : Interests → Interests
  move_interests ints = map move_interests_of ints

  -- the deciding part with its texts moved: the hats have some, what faces ask, and what they were told
  abbrev pub move_core : Core → Core
  move_core c = record c { hats = map move_region c.hats; interests = move_interests c.interests; ears = move_ears φ c.ears }

  -- a text that stands whole in a message, moved; the empty one stands for no expression, and stays empty
  abbrev pub move_suffix : List ℕ → List ℕ
  move_suffix [] = []
  move_suffix (b ∷ bs) = φ (b ∷ bs)

  -- a message with its text moved
  abbrev pub move_message : TextMessage → TextMessage
  move_message (text_request r) = text_request (record r { text = move_suffix r.text })
  move_message (text_reply r) = text_reply (record r { text = move_suffix r.text })
  move_message (text_final f) = text_final f

  -- what a face is told, with its key moved
  abbrev pub move_told : TellingBody → TellingBody
  move_told (key_told id text info) = key_told id (φ text) info
  move_told (key_ended id text) = key_ended id (option_map φ text)
  move_told all_told = all_told

  -- the same, with its face, interest and node
  abbrev pub move_telling : Telling → Telling
  move_telling t = record t { body = move_told t.body }

  -- what a call decides, with all that is handed moved
  abbrev pub move_decided : Decided → Decided
  move_decided d = record d { messages = map move_message d.messages; told = map move_telling d.told }

-- the deciding part after a call; a refused call changes nothing
abbrev pub after_text : Core → TextCall → Core
after_text c t = if is_accepted (decide c t).outcome then accepted c t else c

-- what is decided moves with its texts: at the moved core, the moved call decides the moved messages, and leaves the moved core
pub record DecidesAlike (φ : List ℕ → List ℕ) : Type 0 where
  pub answer : (c : Core) (t : TextCall) → decide (move_core φ c) (move_text φ t) ≡ move_decided φ (decide c t)
  pub change : (c : Core) (t : TextCall) → after_text (move_core φ c) (move_text φ t) ≡ move_core φ (after_text c t)
