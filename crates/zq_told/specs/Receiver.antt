-- What a receiver keeps of what it is told, by ids alone.
use Rattle.std.specs.Prelude.{◌≡◌, ℕ, ◌≤◌, Bool, true, false, not, ◌&&◌, List, map, filter, fold, Option, Some, None, is_none, if◌then◌else◌}
use Rattle.std.specs.List.{list_any}
use Rattle.std.specs.List.Sorted.{IsStrictlySortedBy}
use Rattle.std.specs.Ordering.{nat_cmp}
use Rattle.std.specs.Str.{bytes_eq}
use Rattle.std.specs.Map.{keys_of, remove_entry}
use Rattle.std.specs.BTreeMap.{insert_entry, is_at}
use Rattle.zq_message.specs.declared.message.QueryableInfoType.{QueryableInfoType}
use Rattle.zq_index.specs.Texts.{at_text}
use Rattle.zq_strategy.specs.declared.network.Telling.{Telling}
use Rattle.zq_told.specs.declared.types.ToldEntry.{ToldEntry}
use Rattle.zq_told.specs.declared.types.Reason.{Reason}
use Rattle.zq_told.specs.declared.types.Reason.TheVariants.{Update, Answer, End}
use Rattle.zq_told.specs.ToldSets.{ToldSet, at_face}
use Rattle.zq_told.specs.Telling.{KeyDue}

-- what a receiver keeps: by id the key and its information
abbrev pub Heard : Type 0
Heard = List (ℕ × (List ℕ × QueryableInfoType))

-- an entry by its id, or none
abbrev pub heard_entry : Heard → ℕ → List ℕ → Option QueryableInfoType → Heard
heard_entry heard id key (Some i) = insert_entry nat_cmp heard id (key, i)
heard_entry heard id key None = remove_entry (is_at (nat_cmp id)) heard

-- what is told under an id takes the place of what it stood for; what is withdrawn goes
abbrev pub receive : Heard → Telling → Heard
receive heard t = heard_entry heard t.id t.key t.info

-- the entry is on the key
abbrev pub is_heard_on : List ℕ → ℕ × (List ℕ × QueryableInfoType) → Bool
is_heard_on key e = bytes_eq key e.1.0

-- the informations that a receiver keeps on the key
abbrev pub heard_on : List ℕ → Heard → List QueryableInfoType
heard_on key heard = map (λ e. e.1.1) (filter (is_heard_on key) heard)

-- where an interest came or went, a receiver forgets what is not due any more
abbrev pub forgets : Reason → Bool
forgets Update = false
forgets Answer = true
forgets End = true

-- the key is looked at, and nothing is due
abbrev pub is_over : List KeyDue → List ℕ → Bool
is_over keys q = list_any (λ (k : KeyDue). is_none k.1 && bytes_eq k.0 q) keys

-- the entry is not on such a key
abbrev pub is_left : (List ℕ → Bool) → ℕ × (List ℕ × QueryableInfoType) → Bool
is_left over e = not (over e.1.0)

-- what a receiver keeps after a call
abbrev pub heard_after : Reason → List KeyDue → Heard → List Telling → Heard
heard_after way keys heard ts = if forgets way then filter (is_left (is_over keys)) (fold receive heard ts) else fold receive heard ts

-- what is kept of a face, as it is looked up
pub record Memory : Type 0 where
  pub last : ℕ
  pub told : List ℕ → Option ToldEntry

abbrev pub memory_of : ToldSet → Memory
memory_of ear = record { last = ear.last; told = λ key. at_text key ear.told }

-- a receiver keeps in order of ids, none above the one given last, exactly what is kept of it
pub record Tied (m : Memory) (heard : Heard) : Type 0 where
  pub sorted : IsStrictlySortedBy nat_cmp (keys_of heard)
  pub below : (id : ℕ) (x : List ℕ × QueryableInfoType) → at_face id heard ≡ Some x → id ≤ m.last
  pub forth : (key : List ℕ) (t : ToldEntry) → m.told key ≡ Some t → at_face t.id heard ≡ Some (key, t.info)
  pub back : (id : ℕ) (key : List ℕ) (i : QueryableInfoType) → at_face id heard ≡ Some (key, i) → m.told key ≡ Some (record { id = id; info = i })
