-- What is due moves with texts, and what faces are told of it moves along.
use Rattle.std.specs.Prelude.{◌≡◌, ℕ, List, map, None}
use Rattle.zq_interests.specs.declared.types.InterestEntry.{InterestEntry}
use Rattle.zq_told.specs.ToldSets.{ToldSets}
use Rattle.zq_told.specs.Moved.{move_ears, move_telling}
use Rattle.zq_machine.specs.Deciding.{refusal_of}
use Rattle.zq_machine.specs.Due.{asked_keys, due, due_keys, due_touched, face_keys}
use Rattle.zq_interests.specs.Interests.{Interests}
use Rattle.zq_machine.specs.Moved.{move_asked, move_core, move_interests, move_text}
use Rattle.zq_machine.specs.Neighbours.{answer_lacks, answer_told, ears_after, ears_asked, ears_ended, ended_told, neighbours_lack, neighbours_told}
use Rattle.zq_machine.specs.State.{Core}
use Rattle.zq_machine.specs.TextCalls.{TextCall}

-- what faces are told moves with its texts: with all texts moved, a call, an interest and the end of one tell the moved keys, leave what is kept of faces with its keys moved, and lack ids where they lacked
pub record ToldAlike (φ : List ℕ → List ℕ) : Type 0 where
  pub told : (before after : Core) (ints : Interests) (t : TextCall) (ears : ToldSets) → refusal_of before t ≡ None
      → neighbours_told (move_core φ before) (move_core φ after) (move_interests φ ints) (move_text φ t) (move_ears φ ears) ≡ map (move_telling φ) (neighbours_told before after ints t ears)
  pub lack : (before after : Core) (ints : Interests) (t : TextCall) (ears : ToldSets) → refusal_of before t ≡ None
      → neighbours_lack (move_core φ before) (move_core φ after) (move_interests φ ints) (move_text φ t) (move_ears φ ears) ≡ neighbours_lack before after ints t ears
  pub left : (before after : Core) (ints : Interests) (t : TextCall) (ears : ToldSets) → refusal_of before t ≡ None
      → ears_after (move_core φ before) (move_core φ after) (move_interests φ ints) (move_text φ t) (move_ears φ ears) ≡ move_ears φ (ears_after before after ints t ears)
  pub told_asked : (c : Core) (ints : Interests) (ears : ToldSets) (asker : ℕ) (asked : InterestEntry) → answer_told (move_core φ c) (move_interests φ ints) (move_ears φ ears) asker (move_asked φ asked) ≡ map (move_telling φ) (answer_told c ints ears asker asked)
  pub lack_asked : (c : Core) (ints : Interests) (ears : ToldSets) (asker : ℕ) (asked : InterestEntry) → answer_lacks (move_core φ c) (move_interests φ ints) (move_ears φ ears) asker (move_asked φ asked) ≡ answer_lacks c ints ears asker asked
  pub left_asked : (c : Core) (ints : Interests) (ears : ToldSets) (asker : ℕ) (asked : InterestEntry) → ears_asked (move_core φ c) (move_interests φ ints) (move_ears φ ears) asker (move_asked φ asked) ≡ move_ears φ (ears_asked c ints ears asker asked)
  pub told_ended : (c : Core) (ints : Interests) (ears : ToldSets) (asker : ℕ) (asked : InterestEntry) → ended_told (move_core φ c) (move_interests φ ints) (move_ears φ ears) asker (move_asked φ asked) ≡ map (move_telling φ) (ended_told c ints ears asker asked)
  pub left_ended : (c : Core) (ints : Interests) (ears : ToldSets) (asker : ℕ) (asked : InterestEntry) → ears_ended (move_core φ c) (move_interests φ ints) (move_ears φ ears) asker (move_asked φ asked) ≡ move_ears φ (ears_ended c ints ears asker asked)

-- what is due moves with its texts: at the moved core, by the moved interests, the same is due on the moved key; and the keys that are looked at move along, and so does what faces are told
pub record DueAlike (φ : List ℕ → List ℕ) : Type 0 where
  pub dues : (c : Core) (ints : Interests) (face : ℕ) (key : List ℕ) → due (move_core φ c) (move_interests φ ints) face (φ key) ≡ due c ints face key
  pub keys : (c : Core) → due_keys (move_core φ c) ≡ map φ (due_keys c)
  pub own : (c : Core) (ints : Interests) (face : ℕ) → face_keys (move_core φ c) (move_interests φ ints) face ≡ map φ (face_keys c ints face)
  pub asked : (c : Core) (ints : Interests) (asker : ℕ) (asked : InterestEntry) → asked_keys (move_core φ c) (move_interests φ ints) asker (move_asked φ asked) ≡ map φ (asked_keys c ints asker asked)
  pub touches : (c : Core) (ints : Interests) (t : TextCall) (face : ℕ) → refusal_of c t ≡ None → due_touched (move_core φ c) (move_interests φ ints) (move_text φ t) face ≡ map φ (due_touched c ints t face)
  pub told : ToldAlike φ
