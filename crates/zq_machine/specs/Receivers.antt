-- What receivers at faces outside regions of routers keep, who read what they are told by ids alone: after every call what is due.
use Rattle.std.specs.Prelude.{◌≡◌, ◌≢◌, ℕ, ◌+◌, ◌^◌, ◌<◌, Bool, true, false, ◌&&◌, List, [], filter, fold, length, map, Some, None, is_none}
use Rattle.std.specs.List.{list_any}
use Rattle.std.specs.List.Sorted.{IsStrictlySortedBy}
use Rattle.std.specs.Option.{is_some, option_map_or, option_to_list}
use Rattle.std.specs.Str.{bytes_eq}
use Rattle.zq_message.specs.declared.message.QueryableInfoType.{QueryableInfoType}
use Rattle.zq_index.specs.Texts.{at_text, text_cmp}
use Rattle.zq_strategy.specs.Tellings.{telling_cmp}
use Rattle.zq_interests.specs.declared.types.InterestEntry.{InterestEntry}
use Rattle.zq_interests.specs.Interests.{Interests}
use Rattle.zq_told.specs.declared.types.Reason.TheVariants.{Update, Answer, End}
use Rattle.zq_told.specs.ToldSets.{ToldSet, ToldSets, at_face, last_at}
use Rattle.zq_told.specs.Telling.{KeyDue, lacks_ids}
use Rattle.zq_told.specs.Receiver.{Heard, Tied, heard_after, memory_of, receive}
use Rattle.zq_told.specs.Laws.{InOrder, differs, is_to, last_given, told_in, told_info}
use Rattle.zq_told.specs.Leaving.{AreSound, HaveIds, is_too_great, news_of}
use Rattle.zq_machine.specs.Deciding.{refusal_of}
use Rattle.zq_machine.specs.Due.{due, face_keys}
use Rattle.zq_machine.specs.Neighbours.{answer_dues, answer_lacks, answer_told, asked_dues, due_on, ears_after, ears_asked, ears_ended, ended_at, ended_dues, ended_told, neighbours_lack, neighbours_told, with_new}
use Rattle.zq_machine.specs.State.{Core, is_open}
use Rattle.zq_machine.specs.TextCalls.{TextCall, announcing, declaring, opening}

-- ---- told is due

-- what is kept of the face is in order; a receiver that reads what it was told by ids alone keeps exactly that; and on each key it is what is due to the face
pub record Hears (c : Core) (ints : Interests) (ears : ToldSets) (face : ℕ) (heard : Heard) : Type 0 where
  pub ear : ToldSet
  pub there : at_face face ears ≡ Some ear
  pub sorted : InOrder ear.told
  pub tied : Tied (memory_of ear) heard
  pub told : (key : List ℕ) → told_info ear key ≡ due c ints face key

-- ---- what receivers keep

-- what a receiver keeps at the face after a call that is no interest
abbrev pub heard_over : (before after : Core) → Interests → TextCall → ToldSets → ℕ → Heard → Heard
heard_over before after ints t ears face heard = fold receive heard (filter (is_to face) (neighbours_told before after ints t ears))

-- what the asker's receiver keeps after an interest: of the keys that it looks at nothing that is not due
abbrev pub heard_asked : Core → Interests → ToldSets → (asker : ℕ) → InterestEntry → Heard → Heard
heard_asked c ints ears asker asked heard = heard_after Answer (asked_dues c ints asker asked) heard (filter (is_to asker) (answer_told c ints ears asker asked))

-- what the asker's receiver keeps after the end of an interest: of the keys that met it nothing that is not due any more
abbrev pub heard_ended : Core → Interests → ToldSets → (asker : ℕ) → InterestEntry → Heard → Heard
heard_ended c ints ears asker asked heard = heard_after End (ended_dues c ints ears asker asked) heard (filter (is_to asker) (ended_told c ints ears asker asked))

-- the entry is of a key that is due to the face
abbrev pub is_due_in : Core → Interests → ℕ → ℕ × (List ℕ × QueryableInfoType) → Bool
is_due_in c ints face e = is_some (due c ints face e.1.0)

-- each open face has a receiver that keeps what is due to it
abbrev pub AllHear : Core → Interests → ToldSets → Type 0
AllHear c ints ears = (face : ℕ) → is_open face c ≡ true → (heard : Heard) × Hears c ints ears face heard

-- something is kept of the open faces, and of no others
abbrev pub AreOfOpen : Core → ToldSets → Type 0
AreOfOpen c ears = (face : ℕ) → is_some (at_face face ears) ≡ is_open face c

-- ---- what is told at all, and ids that lack

-- the keys stand in order, and all are there on which the face was told another than is due
pub record HaveChanges (c : Core) (ints : Interests) (face : ℕ) (ear : ToldSet) (keys : List (List ℕ)) : Type 0 where
  pub rise : IsStrictlySortedBy text_cmp keys
  pub all : (key : List ℕ) → differs ear.told (due_on c ints face key) ≡ true → list_any (λ k. bytes_eq k key) keys ≡ true

-- the key is due to the face, which was told nothing of it
abbrev pub is_news : Core → Interests → ℕ → ToldSet → List ℕ → Bool
is_news c ints face ear key = is_none (at_text key ear.told) && is_some (due c ints face key)

-- ids lack to the face: the last one given, and the number of all keys newly due to it, lead above those of 32 bits
abbrev pub lacks_at : Core → Interests → ToldSets → ℕ → Bool
lacks_at c ints ears face = option_map_or (λ (e : ToldSet). is_too_great (e.last + length (filter (is_news c ints face e) (face_keys c ints face)))) (at_face face ears) false

-- a call that may make something newly due: one that opens a face, or declares
abbrev pub makes_due : TextCall → Bool
makes_due (opening o) = true
makes_due (declaring face id s info node) = true
makes_due (announcing face s info node) = true
makes_due t = false

-- ---- the laws

-- a call that is no interest, and one face: its receiver keeps afterwards what is due then; and it is told the difference between what it was told and what is due, over any keys in order that have all on which there is one, as some do; the id given last is then the greatest that it was told of
pub record FaceTold (before after : Core) (ints : Interests) (t : TextCall) (ears : ToldSets) (face : ℕ) (ear : ToldSet) (heard : Heard) : Type 0 where
  pub keeps : Hears after ints (ears_after before after ints t ears) face (heard_over before after ints t ears face heard)
  pub some : (keys : List (List ℕ)) × HaveChanges after ints face ear keys
  pub exactly : (keys : List (List ℕ)) → HaveChanges after ints face ear keys → told_in Update face ear (map (due_on after ints face) keys) ≡ filter (is_to face) (neighbours_told before after ints t ears)
  pub last : last_at face (ears_after before after ints t ears) ≡ Some (fold last_given ear.last (filter (is_to face) (neighbours_told before after ints t ears)))

-- such a call, and all faces: what is told stands in order of faces and keys, and is told to open faces alone; what is kept of faces stays sound, and of open faces alone; what receivers keep stays due; ids lack exactly where they lack to some open face, and never to a call that opens no face and declares nothing
pub record AllTold (before after : Core) (ints : Interests) (t : TextCall) (ears : ToldSets) : Type 0 where
  pub ordered : IsStrictlySortedBy telling_cmp (neighbours_told before after ints t ears)
  pub silent : (face : ℕ) → is_open face after ≡ false → filter (is_to face) (neighbours_told before after ints t ears) ≡ []
  pub sound : before.config.start.told < 2 ^ 32 → AreSound ears → neighbours_lack before after ints t ears ≡ false → AreSound (ears_after before after ints t ears)
  pub faces : refusal_of before t ≡ None → AreSound ears → AreOfOpen before ears → AreOfOpen after (ears_after before after ints t ears)
  pub hear : AllHear before ints ears → AllHear after ints (ears_after before after ints t ears)
  pub lacks : AllHear before ints ears → HaveIds (with_new before t ears) → neighbours_lack before after ints t ears ≡ list_any (λ o. lacks_at after ints (with_new before t ears) o.0) after.faces
  pub enough : makes_due t ≡ false → AllHear before ints ears → HaveIds (with_new before t ears) → neighbours_lack before after ints t ears ≡ false

-- an interest, by the interests before and after it: it tells its asker alone, and that all that is due on the keys for which it asks; the receiver there keeps what is due then, and forgets what is not due; other faces' receivers keep what they kept; what is kept of faces stays sound, and ids lack exactly where they lack to the asker
pub record AskingTold (c : Core) (ints more : Interests) (ears : ToldSets) (asker : ℕ) (asked : InterestEntry) : Type 0 where
  pub own : (heard : Heard) → Hears c ints ears asker heard → Hears c more (ears_asked c more ears asker asked) asker (heard_asked c more ears asker asked heard)
  pub answers : (heard : Heard) → Hears c ints ears asker heard → map news_of (filter (is_to asker) (answer_told c more ears asker asked)) ≡ filter (λ (k : KeyDue). is_some k.1) (answer_dues c more asker asked)
  pub drops : (heard : Heard) → Hears c ints ears asker heard → heard_asked c more ears asker asked heard ≡ filter (is_due_in c more asker) (fold receive heard (filter (is_to asker) (answer_told c more ears asker asked)))
  pub others : (face : ℕ) → face ≢ asker → (heard : Heard) → Hears c ints ears face heard → Hears c more (ears_asked c more ears asker asked) face heard
  pub silent : (face : ℕ) → face ≢ asker → filter (is_to face) (answer_told c more ears asker asked) ≡ []
  pub sound : AreSound ears → answer_lacks c more ears asker asked ≡ false → AreSound (ears_asked c more ears asker asked)
  pub lacks : (heard : Heard) → Hears c ints ears asker heard → HaveIds ears → answer_lacks c more ears asker asked ≡ lacks_at c more ears asker

-- the end of an interest, by the interests before and after it: its asker is told at most of the interest's own key, where that stays due with other information, under its id, and no other face anything; receivers keep what is still due; what is kept of faces stays sound, as no ids lack
pub record EndingTold (c : Core) (ints less : Interests) (ears : ToldSets) (asker : ℕ) (asked : InterestEntry) : Type 0 where
  pub own : (heard : Heard) → Hears c ints ears asker heard → Hears c less (ears_ended c less ears asker asked) asker (heard_ended c less ears asker asked heard)
  pub others : (face : ℕ) → face ≢ asker → (heard : Heard) → Hears c ints ears face heard → Hears c less (ears_ended c less ears asker asked) face heard
  pub tells : (heard : Heard) (h : Hears c ints ears asker heard) → filter (is_to asker) (ended_told c less ears asker asked) ≡ told_in End asker h.ear (map (due_on c less asker) (option_to_list asked.key))
  pub drops : (heard : Heard) → Hears c ints ears asker heard → heard_ended c less ears asker asked heard ≡ filter (is_due_in c less asker) (fold receive heard (filter (is_to asker) (ended_told c less ears asker asked)))
  pub silent : (face : ℕ) → face ≢ asker → filter (is_to face) (ended_told c less ears asker asked) ≡ []
  pub sound : AreSound ears → AreSound (ears_ended c less ears asker asked)
  pub enough : HaveIds ears → lacks_ids End ears (ended_at c less ears asker asked) ≡ false
