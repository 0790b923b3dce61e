-- How a node gets its matches, and each of them gets it.
use Rattle.std.specs.Prelude.{◌≡◌, ◌≢◌, ℕ, ◌<◌, Bool, true, List, [], ◌∷◌, ◌++◌, ◌⊎◌, Option, None, Some, vec_len, vec_capacity, if◌then◌else◌, ◌==◌}
use Rattle.std.specs.Option.{is_some}
use Rattle.std.specs.List.{Contains, list_any}
use Rattle.zq_names.specs.declared.node.Node.{Node}
use Rattle.zq_names.specs.declared.node.ResourceId.{ResourceId}
use Rattle.zq_names.specs.Names.{NameEntry, IsLive, entry_at, entry_of, slot, slot_matches, slot_former}

-- whether the number is one of the list's
abbrev pub has_number : List ResourceId → ℕ → Bool
has_number ms i = list_any (λ m. m.0 == i) ms

-- with r, which comes last where it was not there
abbrev pub with_member : List ResourceId → ResourceId → List ResourceId
with_member ms r = if has_number ms r.0 then ms else ms ++ r ∷ []

-- r is among the matches, last where it was not there
abbrev pub with_match : ResourceId → NameEntry → NameEntry
with_match r e = record e { matches = with_member e.matches r }

-- with r among the matches where the entry is a member's
abbrev pub joined : ResourceId → List ResourceId → NameEntry → NameEntry
joined r members e = if has_number members e.id then with_match r e else e

-- r's entry has the members as its matches, and the entry of each other member has r among its own
abbrev pub matched : ResourceId → List ResourceId → NameEntry → NameEntry
matched r members e = if e.id == r.0 then record e { matches = members } else joined r members e

-- r is the number of a text that has a context
pub record HasContext (ns : List NameEntry) (r : ResourceId) : Type 0 where
  pub live : IsLive ns r
  pub context : (entry_at ns r.0).context ≡ true

-- ---- the slots meanwhile

-- a slot's node has room for one more match
abbrev pub HasRoom : Option Node → Type 0
HasRoom None = ⊥
HasRoom (Some n) = vec_len n.matches < vec_capacity n.matches

-- r can be put among the slot's matches without more memory
abbrev pub IsReadyFor : ResourceId → Option Node → Type 0
IsReadyFor r o = (has_number (slot_matches o) r.0 ≡ true) ⊎ HasRoom o

-- the new slots differ from the old in room alone
pub record IsRoomier (old new : List (Option Node)) : Type 0 where
  pub same : (j : ℕ) → entry_of j (slot new j) ≡ entry_of j (slot old j)
  pub live : (j : ℕ) → is_some (slot new j) ≡ is_some (slot old j)
  pub former : (j : ℕ) → slot_former (slot new j) ≡ slot_former (slot old j)
  pub room : (j : ℕ) → HasRoom (slot old j) → HasRoom (slot new j)

-- r has come among the matches of the members
pub record Joins (old new : List (Option Node)) (r : ResourceId) (members : List ResourceId) : Type 0 where
  pub joined : (j : ℕ) → entry_of j (slot new j) ≡ joined r members (entry_of j (slot old j))
  pub live : (j : ℕ) → is_some (slot new j) ≡ is_some (slot old j)
  pub former : (j : ℕ) → slot_former (slot new j) ≡ slot_former (slot old j)
  pub ready : (j : ℕ) → IsReadyFor r (slot old j) → IsReadyFor r (slot new j)

-- what is in one of the two lists is in the third
pub record HasBoth (xs ys all : List ResourceId) : Type 0 where
  pub first : (x : ResourceId) → Contains xs x → Contains all x
  pub second : (x : ResourceId) → Contains ys x → Contains all x

-- r and the members have become each other's matches, and r keeps those that it had as former ones
pub record Links (old new : List (Option Node)) (r : ResourceId) (members : List ResourceId) : Type 0 where
  pub matched : (j : ℕ) → entry_of j (slot new j) ≡ matched r members (entry_of j (slot old j))
  pub live : (j : ℕ) → is_some (slot new j) ≡ is_some (slot old j)
  pub former : HasBoth (slot_former (slot old r.0)) (slot_matches (slot old r.0)) (slot_former (slot new r.0))
  pub others : (j : ℕ) → j ≢ r.0 → slot_former (slot new j) ≡ slot_former (slot old j)
