-- The keys that an interest may have to look at, and what is looked at there.
use Rattle.std.specs.Prelude.{◌≡◌, ℕ, true, ◌||◌, List, [], ◌∷◌, filter, fold, Some, None, is_none, if◌then◌else◌}
use Rattle.std.specs.BTreeSet.{insert_key}
use Rattle.std.specs.List.Sorted.{IsStrictlySortedBy}
use Rattle.std.specs.Option.{option_to_list}
use Rattle.zq_index.specs.Texts.{has_text, text_cmp}
use Rattle.zq_strategy.specs.State.{HatState}
use Rattle.zq_interests.specs.declared.types.InterestEntry.{InterestEntry}
use Rattle.zq_interests.specs.Interests.{Interests, asked_for, interests_of, meets, with_interest}
use Rattle.zq_told.specs.Telling.{KeyDue}
use Rattle.zq_machine.specs.declared.face.OpenFace.{OpenFace}
use Rattle.zq_dispatcher.specs.Asking.{asking_in, with_own}
use Rattle.zq_dispatcher.specs.Dues.{all_keys, due_as, row_as}

-- the keys that an interest may have to look at: those on which regions have information and those of the face's other aggregating interests that meet what it asks for, and its own
abbrev pub keys_asked : ℕ → InterestEntry → ℕ → Interests → List (ℕ × HatState) → List (List ℕ)
keys_asked id e face ints hats =
    fold (insert_key text_cmp) (fold (with_own (Some id) e.key) (filter (meets e.key) (all_keys hats)) (interests_of face ints)) (option_to_list e.key)

-- a key with what is due there to the face once the interest stands, if it asks for the key or nothing is due there
abbrev pub looked_due : ℕ → InterestEntry → ℕ → Interests → OpenFace → List (ℕ × HatState) → List ℕ → List KeyDue
looked_due id e face ints o hats key =
    if asked_for e key || is_none (due_as (asking_in (with_interest face id e ints) face key) None [] face o hats key) then row_as (asking_in (with_interest face id e ints) face) face o hats key ∷ [] else []

-- the keys that a face was told stand in order, and of each of them some region has information, or it is that of an aggregating interest
pub record AreInformed (keys : List (List ℕ)) (hats : List (ℕ × HatState)) (owns : List (List ℕ)) : Type 0 where
  pub rise : IsStrictlySortedBy text_cmp keys
  pub found : (key : List ℕ) → has_text key keys ≡ true → (has_text key (all_keys hats) || has_text key owns) ≡ true
