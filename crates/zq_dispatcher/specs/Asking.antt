-- What a face asks of a key, and which keys of its aggregating interests join others.
use Rattle.std.specs.Prelude.{ℕ, Bool, true, not, ◌&&◌, List, Option, Some, None, is_none, if◌then◌else◌}
use Rattle.std.specs.BTreeMap.{is_at}
use Rattle.std.specs.BTreeSet.{insert_key}
use Rattle.std.specs.Option.{option_map_or}
use Rattle.std.specs.Ordering.{nat_cmp}
use Rattle.zq_index.specs.Texts.{text_cmp}
use Rattle.zq_interests.specs.declared.types.InterestEntry.{InterestEntry}
use Rattle.zq_interests.specs.Interests.{Interests, asks_folded, asks_for, meets, own_key}
use Rattle.zq_dispatcher.specs.declared.asking.Asking.{Asking}

-- the interest under the id stays
abbrev pub is_left : Option ℕ → ℕ → Bool
is_left None id = true
is_left (Some other) id = not (is_at (nat_cmp other) id)

-- what a face asks of a key
abbrev pub asking_in : Interests → ℕ → List ℕ → Asking
asking_in ints face key = record { asks = asks_for face key ints; folds = asks_folded face key ints }

-- the interest is not aggregating, or has no key, and asks for the key
abbrev pub asked_plainly : InterestEntry → List ℕ → Bool
asked_plainly i key = is_none (own_key i) && meets i.key key

-- so does one under an id
abbrev pub wants_plainly : List ℕ → ℕ × InterestEntry → Bool
wants_plainly key i = asked_plainly i.1 key

-- a key joins others, if it meets what is asked for
abbrev pub put_if_asked : Option (List ℕ) → List (List ℕ) → List ℕ → List (List ℕ)
put_if_asked asked texts k = if meets asked k then insert_key text_cmp texts k else texts

-- so does the key of an aggregating interest
abbrev pub with_asked : Option (List ℕ) → List (List ℕ) → InterestEntry → List (List ℕ)
with_asked asked texts e = option_map_or (put_if_asked asked texts) (own_key e) texts

-- so does that of an interest that stays
abbrev pub with_own : Option ℕ → Option (List ℕ) → List (List ℕ) → ℕ × InterestEntry → List (List ℕ)
with_own but asked texts i = if is_left but i.0 then with_asked asked texts i.1 else texts
