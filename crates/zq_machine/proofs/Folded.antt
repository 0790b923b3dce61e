-- The entry for a key changes only where what is heard changes on a key that meets it, whichever keys are listed; and it is there where something is heard on such a key.
use Rattle.std.proofs.Common.{◌≡◌, ◌∙◌, refl, sym, ap, ℕ, Bool, true, false, cond, List, [], ◌∷◌, filter, fold, Option, Some, None, true≢false}
use Rattle.std.specs.Prelude.{◌||◌, ◌&&◌}
use Rattle.std.specs.List.{list_any}
use Rattle.std.specs.List.Sorted.{IsStrictlySortedBy}
use Rattle.std.specs.Option.{is_some, option_map}
use Rattle.std.proofs.Math.Bool.{or_assoc}
use Rattle.zq_message.specs.declared.message.QueryableInfoType.{QueryableInfoType}
use Rattle.zq_key.specs.Key.{intersects}
use Rattle.zq_index.specs.Infos.{joined}
use Rattle.zq_index.specs.Texts.{text_cmp}
use Rattle.zq_index.proofs.Merges.{joined_none}
use Rattle.zq_machine.specs.Due.{folded_over, seen_at, with_part}
use Rattle.zq_machine.proofs.DueKeys.{is_among}
use Rattle.zq_machine.proofs.NeighbourDues.{same_passing}

abbrev Info : Type 0
Info = Option QueryableInfoType

abbrev Hear : Type 0
Hear = List ℕ → Option QueryableInfoType

some_joined : (a b : Info) → is_some (joined a b) ≡ (is_some a || is_some b)
some_joined None b = refl
some_joined (Some a) None = refl
some_joined (Some a) (Some b) = refl

or_none : (b : Bool) → b ≡ (b || false)
or_none true = refl
or_none false = refl

module _ (key : List ℕ) where
  -- a key that adds to the entry
  abbrev pub adds : Hear → List ℕ → Bool
  adds hear k = intersects k key && is_some (hear k)

  module _ (hear : Hear) where
    part_by : (k : List ℕ) (m : Info) (b : Bool) (o : Info) → (b && is_some o) ≡ false → cond b (joined m (option_map (seen_at key k) o)) m ≡ m
    part_by k m true None e = joined_none m
    part_by k m true (Some i) e = absurd (true≢false e)
    part_by k m false o e = refl

    only_by : (k : List ℕ) (ks : List (List ℕ)) (m : Info) (b : Bool) → adds hear k ≡ b → ((x : Info) → fold (with_part hear key) x ks ≡ fold (with_part hear key) x (filter (adds hear) ks))
        → fold (with_part hear key) (with_part hear key m k) ks ≡ fold (with_part hear key) m (cond b (k ∷ filter (adds hear) ks) (filter (adds hear) ks))
    only_by k ks m true is more = more (with_part hear key m k)
    only_by k ks m false is more = ap (λ x. fold (with_part hear key) x ks) (part_by k m (intersects k key) (hear k) is) ∙ more m

    -- only the keys count that add
    only_adding : (ks : List (List ℕ)) (m : Info) → fold (with_part hear key) m ks ≡ fold (with_part hear key) m (filter (adds hear) ks)
    only_adding [] m = refl
    only_adding (k ∷ ks) m = only_by k ks m (adds hear k) refl (λ x. only_adding ks x)

    -- there is an entry where some key adds to it
    some_part : (m : Info) (k : List ℕ) → is_some (with_part hear key m k) ≡ (is_some m || adds hear k)
    some_part m k = by (intersects k key) (hear k)
      where
        by : (b : Bool) (o : Info) → is_some (cond b (joined m (option_map (seen_at key k) o)) m) ≡ (is_some m || (b && is_some o))
        by true None = ap is_some (joined_none m) ∙ or_none (is_some m)
        by true (Some i) = some_joined m (Some (seen_at key k i))
        by false o = or_none (is_some m)

    some_by : (ks : List (List ℕ)) (m : Info) → is_some (fold (with_part hear key) m ks) ≡ (is_some m || list_any (adds hear) ks)
    some_by [] m = or_none (is_some m)
    some_by (k ∷ ks) m =
        some_by ks (with_part hear key m k)
        ∙ ap (λ b. b || list_any (adds hear) ks) (some_part m k)
        ∙ or_assoc (is_some m) (adds hear k) (list_any (adds hear) ks)

    pub some_folded : (ks : List (List ℕ)) → is_some (folded_over hear ks key) ≡ list_any (adds hear) ks
    some_folded ks = some_by ks None

  module _ (hear now : Hear) (same : (k : List ℕ) → intersects k key ≡ true → now k ≡ hear k) where
    adds_by : (k : List ℕ) (b : Bool) → intersects k key ≡ b → (b && is_some (now k)) ≡ (b && is_some (hear k))
    adds_by k true is = ap is_some (same k is)
    adds_by k false is = refl

    pub adds_same : (k : List ℕ) → adds now k ≡ adds hear k
    adds_same k = adds_by k (intersects k key) refl

    step_by : (m : Info) (k : List ℕ) (b : Bool) → intersects k key ≡ b → cond b (joined m (option_map (seen_at key k) (now k))) m ≡ cond b (joined m (option_map (seen_at key k) (hear k))) m
    step_by m k true is = ap (λ o. joined m (option_map (seen_at key k) o)) (same k is)
    step_by m k false is = refl

    parts_same : (ks : List (List ℕ)) (m : Info) → fold (with_part now key) m ks ≡ fold (with_part hear key) m ks
    parts_same [] m = refl
    parts_same (k ∷ ks) m = ap (λ x. fold (with_part now key) x ks) (step_by m k (intersects k key) refl) ∙ parts_same ks (with_part hear key m k)

    -- the entry stays where what is heard stays on all keys that meet its key, whichever keys are listed in order, if all are that add
    pub folded_same : (ks ls : List (List ℕ)) → IsStrictlySortedBy text_cmp ks → IsStrictlySortedBy text_cmp ls → ((q : List ℕ) → adds hear q ≡ true → is_among q ks ≡ true) → ((q : List ℕ) → adds hear q ≡ true → is_among q ls ≡ true)
        → folded_over now ls key ≡ folded_over hear ks key
    folded_same ks ls s t in_ks in_ls =
        parts_same ls None
        ∙ only_adding hear ls None
        ∙ ap (fold (with_part hear key) None) (same_passing (adds hear) ls ks t s in_ls in_ks)
        ∙ sym (only_adding hear ks None)
