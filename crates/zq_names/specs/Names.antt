-- What a contract sees of a `Names`: the texts that are held, in order, each with its marks.
use Rattle.std.specs.Prelude.{◌≡◌, ◌≢◌, ℕ, ◌+◌, ◌-◌, ◌<◌, ◌≤◌, Bool, true, false, List, [], ◌∷◌, ◌++◌, length, map, Option, Some, None, IsSome, slice_index_or, slice_get, ◌⊎◌, filter, not, ◌==◌, if◌then◌else◌}
use Rattle.std.specs.declared.cmp.Ordering.TheVariants.{Less}
use Rattle.std.specs.List.{All, Contains, remove}
use Rattle.std.specs.List.Sorted.{IsStrictlySortedBy}
use Rattle.zq_names.specs.declared.node.Node.{Node}
use Rattle.zq_names.specs.declared.node.ResourceId.{ResourceId}
use Rattle.zq_key.specs.Key.{is_key}
use Rattle.zq_names.specs.Texts.{text_cmp, IsBelow, heads, parent_of}

-- a text with its number and its marks
pub record NameEntry : Type 0 where
  pub id : ℕ
  pub text : List ℕ
  pub context : Bool
  pub holds : ℕ
  pub matches : List ResourceId

-- what the slots have at a number
abbrev pub slot : List (Option Node) → ℕ → Option Node
slot nodes i = slice_index_or nodes i None

-- a slot's text; the empty one where it is empty
abbrev pub slot_text : Option Node → List ℕ
slot_text None = []
slot_text (Some n) = n.text

-- whether it has a context
abbrev pub slot_context : Option Node → Bool
slot_context None = false
slot_context (Some n) = n.context

-- how often it is held
abbrev pub slot_holds : Option Node → ℕ
slot_holds None = 0
slot_holds (Some n) = n.holds

-- the texts that it meets
abbrev pub slot_matches : Option Node → List ResourceId
slot_matches None = []
slot_matches (Some n) = n.matches.items

-- the texts that it met before its matches were last made
abbrev pub slot_former : Option Node → List ResourceId
slot_former None = []
slot_former (Some n) = n.former.items

-- the entry of a slot
abbrev pub entry_of : ℕ → Option Node → NameEntry
entry_of i o = record { id = i; text = slot_text o; context = slot_context o; holds = slot_holds o; matches = slot_matches o }

-- the entry of a number
abbrev pub row : List (Option Node) → ℕ → NameEntry
row nodes i = entry_of i (slot nodes i)

-- the entries of an order of numbers
abbrev pub rows : List (Option Node) → List ℕ → List NameEntry
rows nodes order = map (row nodes) order

-- the texts of entries
abbrev pub texts : List NameEntry → List (List ℕ)
texts ns = map (λ e. e.text) ns

-- the text at a place
abbrev pub text_at : List NameEntry → ℕ → List ℕ
text_at ns k = slice_index_or (texts ns) k []

-- the texts rise
abbrev pub Rises : List NameEntry → Type 0
Rises ns = IsStrictlySortedBy text_cmp (texts ns)

-- each number of the order has a node
abbrev pub AreLive : List (Option Node) → List ℕ → Type 0
AreLive nodes order = All (λ i. IsSome (slot nodes i)) order

-- the texts before place i are less than t, and those from it on aren't
pub record SplitsAt (ns : List NameEntry) (t : List ℕ) (i : ℕ) : Type 0 where
  pub in_range : i ≤ length ns
  pub before : (k : ℕ) → k < i → text_cmp (text_at ns k) t ≡ Less
  pub from : (k : ℕ) → i ≤ k → k < length ns → text_cmp (text_at ns k) t ≢ Less

-- the numbers of entries
abbrev pub ids : List NameEntry → List ℕ
ids ns = map (λ e. e.id) ns

-- the texts rise, begin with the root's, are closed under cutting before a `/`, and but for the root's are keys
pub record IsNames (numbers : List ℕ) (ts : List (List ℕ)) : Type 0 where
  pub rising : IsStrictlySortedBy text_cmp ts
  pub root : slice_get numbers 0 ≡ Some 0
  pub root_text : slice_get ts 0 ≡ Some []
  pub closed : (s t : List ℕ) → Contains ts t → IsBelow s t → Contains ts s
  pub keys : (t : List ℕ) → Contains ts t → 0 < length t → is_key t ≡ true

-- the order has each node's number, by text
pub record IsTable (nodes : List (Option Node)) (order : List ℕ) : Type 0 where
  pub live : AreLive nodes order
  pub covered : (i : ℕ) → IsSome (slot nodes i) → Contains order i
  pub names : IsNames order (texts (rows nodes order))

-- a node among the matches of another has that one among its own matches, or among its former ones, and both have a context
pub record IsLinked (nodes : List (Option Node)) : Type 0 where
  pub both_ways : (i j : ResourceId) → Contains (slot_matches (slot nodes j.0)) i → Contains (slot_matches (slot nodes i.0) ++ slot_former (slot nodes i.0)) j
  pub contexts : (i j : ResourceId) → Contains (slot_matches (slot nodes j.0)) i → (slot_context (slot nodes j.0) ≡ true) × (slot_context (slot nodes i.0) ≡ true)

-- what holds of the fields of every table
pub record IsSound (nodes : List (Option Node)) (order : List ℕ) : Type 0 where
  pub table : IsTable nodes order
  pub linked : IsLinked nodes

-- ---- a table as its callers see it

-- r is the number of a text that is held
abbrev pub IsLive : List NameEntry → ResourceId → Type 0
IsLive ns r = Contains (ids ns) r.0

-- the entry of a number that is held
abbrev pub entry_at : List NameEntry → ℕ → NameEntry
entry_at [] i = entry_of i None
entry_at (e ∷ es) i = if e.id == i then e else entry_at es i

-- with the entry of the number changed
abbrev pub change_at : List NameEntry → ℕ → (NameEntry → NameEntry) → List NameEntry
change_at ns i f = map (λ e. if e.id == i then f e else e) ns

-- with one hold more
abbrev pub with_hold : NameEntry → NameEntry
with_hold e = record e { holds = e.holds + 1 }

-- with one hold less
abbrev pub without_hold : NameEntry → NameEntry
without_hold e = record e { holds = e.holds - 1 }

-- with the context mark
abbrev pub with_context : NameEntry → NameEntry
with_context e = record e { context = true }

-- the number r has the text t
pub record HasText (ns : List NameEntry) (r : ResourceId) (t : List ℕ) : Type 0 where
  pub live : IsLive ns r
  pub text : (entry_at ns r.0).text ≡ t

-- the text t would go to place i: lesser texts before it, and greater ones from it on
pub record IsGapAt (ns : List NameEntry) (t : List ℕ) (i : ℕ) : Type 0 where
  pub in_range : i ≤ length ns
  pub before : (k : ℕ) → k < i → text_cmp (text_at ns k) t ≡ Less
  pub after : (k : ℕ) → i ≤ k → k < length ns → text_cmp t (text_at ns k) ≡ Less

-- the text t stands at place i
pub record IsPlaceOf (ns : List NameEntry) (t : List ℕ) (i : ℕ) : Type 0 where
  pub in_range : i < length ns
  pub is : text_at ns i ≡ t

-- an entry without marks
pub record IsBare (e : NameEntry) : Type 0 where
  pub context : e.context ≡ false
  pub holds : e.holds ≡ 0
  pub matches : e.matches ≡ []

-- the new list has the old entries, the added texts, and nothing else; what came has no marks
pub record Adds (old new : List NameEntry) (added : List (List ℕ)) : Type 0 where
  pub kept : (e : NameEntry) → Contains old e → Contains new e
  pub brought : (e : NameEntry) → Contains new e → Contains old e ⊎ (Contains added e.text × IsBare e)
  pub has : (t : List ℕ) → Contains added t → Contains (texts new) t

-- a node of a key, without marks
pub record IsBareNode (n : Node) : Type 0 where
  pub context : n.context ≡ false
  pub holds : n.holds ≡ 0
  pub matches : n.matches.items ≡ []
  pub former : n.former.items ≡ []
  pub key : is_key n.text ≡ true

-- the text t and the parts of it that end before a `/` were added, and t, whose number is r, was given a context
pub record Makes (old new : List NameEntry) (r : ResourceId) (t : List ℕ) : Type 0 where
  pub middle : List NameEntry
  pub adds : Adds old middle (heads t)
  pub named : HasText middle r t
  pub marked : new ≡ change_at middle r.0 with_context

-- some text lies below t
abbrev pub HasBelow : List NameEntry → List ℕ → Type 0
HasBelow ns t = (s : List ℕ) × Contains (texts ns) s × IsBelow t s

-- the entry at a place isn't the root's, isn't held, and has no text below it
pub record IsIdle (ns : List NameEntry) (at : ℕ) : Type 0 where
  pub past_root : 0 < at
  pub unheld : (slice_index_or ns at (entry_of 0 None)).holds ≡ 0
  pub lonely : HasBelow ns (text_at ns at) → ⊥

-- without a number among the matches
abbrev pub without_match : ℕ → NameEntry → NameEntry
without_match i e = record e { matches = filter (λ m. not (m.0 == i)) e.matches }

-- without the entry at a place, whose number leaves the matches of the others
abbrev pub removed_at : List NameEntry → ℕ → List NameEntry
removed_at ns at = map (without_match (slice_index_or ns at (entry_of 0 None)).id) (remove ns at)

-- from the text t on towards the root, idle entries were taken out until one isn't idle
pub data Cleans : List NameEntry → List ℕ → List NameEntry → Type 0 where
  stops : (ns : List NameEntry) (t : List ℕ) (at : ℕ) → IsPlaceOf ns t at → (IsIdle ns at → ⊥) → Cleans ns t ns
  goes : (ns new : List NameEntry) (t : List ℕ) (at : ℕ) → IsPlaceOf ns t at → IsIdle ns at → Cleans (removed_at ns at) (parent_of t) new → Cleans ns t new
