-- A face asks for a key as one entry, or plainly, or not at all.
use Rattle.std.proofs.Common.{◌≡◌, ◌∙◌, refl, sym, ap, ℕ, Bool, true, false, cond, List, [], ◌∷◌, Option, Some, None}
use Rattle.std.specs.Prelude.{◌&&◌, ◌||◌, is_none}
use Rattle.std.specs.BTreeMap.{is_at}
use Rattle.std.specs.List.{list_any}
use Rattle.std.specs.Option.{option_map_or}
use Rattle.zq_index.specs.Texts.{text_cmp}
use Rattle.zq_interests.specs.declared.types.InterestEntry.{InterestEntry}
use Rattle.zq_interests.specs.Interests.{Interests, asked_for, asks_folded, asks_for, folded_for, interests_of, is_own, meets, wants, wants_folded}
use Rattle.zq_dispatcher.specs.Asking.{asked_plainly, asking_in, wants_plainly}

or_none : (b : Bool) → b ≡ (b || false)
or_none true = refl
or_none false = refl

one_asks : (i : InterestEntry) (key : List ℕ) → asked_for i key ≡ (folded_for i key || asked_plainly i key)
one_asks i key = by i.aggregate i.key
  where
    by : (b : Bool) (o : Option (List ℕ))
        → cond b (is_own o key) (meets o key) ≡ (option_map_or (λ k. is_at (text_cmp k) key) (cond b o None) false || (is_none (cond b o None) && meets o key))
    by true None = refl
    by true (Some k) = or_none (is_at (text_cmp k) key)
    by false None = refl
    by false (Some k) = refl

paired : (a b c d : Bool) → ((a || b) || (c || d)) ≡ ((a || c) || (b || d))
paired true b c d = refl
paired false true true d = refl
paired false true false d = refl
paired false false true d = refl
paired false false false d = refl

all_ask : (key : List ℕ) (es : List (ℕ × InterestEntry)) → list_any (wants key) es ≡ (list_any (wants_folded key) es || list_any (wants_plainly key) es)
all_ask key [] = refl
all_ask key (e ∷ es) =
    (λ j. one_asks e.1 key j || all_ask key es j)
    ∙ paired (folded_for e.1 key) (asked_plainly e.1 key) (list_any (wants_folded key) es) (list_any (wants_plainly key) es)

asks_is : (face : ℕ) (key : List ℕ) (ints : Interests) → asks_for face key ints ≡ (asks_folded face key ints || list_any (wants_plainly key) (interests_of face ints))
asks_is face key ints = all_ask key (interests_of face ints)

-- what a face asks of a key, where it is known whether it asks for it as one entry
pub asking_is : (face : ℕ) (key : List ℕ) (ints : Interests) (folds asks : Bool) → folds ≡ asks_folded face key ints → (folds || list_any (wants_plainly key) (interests_of face ints)) ≡ asks
    → record { asks = asks; folds = folds } ≡ asking_in ints face key
asking_is face key ints folds asks is or = sym (λ j. record { asks = (asks_is face key ints ∙ ap (λ b. b || list_any (wants_plainly key) (interests_of face ints)) (sym is) ∙ or) j; folds = sym is j })
