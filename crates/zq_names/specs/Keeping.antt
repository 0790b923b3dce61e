-- What a change keeps of the numbers that are live.
use Rattle.std.specs.Prelude.{◌≡◌, ◌≢◌, ℕ, List}
use Rattle.std.specs.List.{Contains}
use Rattle.zq_names.specs.Names.{NameEntry, ids, entry_at}

-- the number keeps its text, and is held as often as before
pub record Keeps (old new : List NameEntry) (i : ℕ) : Type 0 where
  pub text : (entry_at new i).text ≡ (entry_at old i).text
  pub holds : (entry_at new i).holds ≡ (entry_at old i).holds

-- each number that was live is live, and keeps its text and holds
abbrev pub AllStay : List NameEntry → List NameEntry → Type 0
AllStay old new = (i : ℕ) → Contains (ids old) i → Contains (ids new) i × Keeps old new i

-- each number that is live was so before, and keeps its text and holds
abbrev pub NoneCome : List NameEntry → List NameEntry → Type 0
NoneCome old new = (i : ℕ) → Contains (ids new) i → Contains (ids old) i × Keeps old new i

-- the number's entry is what f makes of it, and all else is as it was
pub record ChangesAt (old new : List NameEntry) (i : ℕ) (f : NameEntry → NameEntry) : Type 0 where
  pub live : ids new ≡ ids old
  pub here : entry_at new i ≡ f (entry_at old i)
  pub others : (j : ℕ) → j ≢ i → entry_at new j ≡ entry_at old j
