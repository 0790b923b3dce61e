-- The interests of a face where one comes or one ends, among those of all faces.
use Rattle.std.proofs.Common.{◌≡◌, ◌∙◌, refl, sym, ap, ℕ, Bool, true, false, cond, List, [], ◌∷◌, Option, Some, None}
use Rattle.std.specs.BTreeMap.{insert_entry, is_at}
use Rattle.std.specs.Map.{remove_entry, set_value}
use Rattle.std.specs.Option.{is_some, option_map_or}
use Rattle.std.specs.Ordering.{nat_cmp}
use Rattle.std.proofs.lemmas.Cmp.{nat_cmp_total}
use Rattle.std.proofs.lemmas.Map.Lookups.{exact_unsigned}
use Rattle.zq_key.proofs.Lookups.{found_after_insertion, found_after_write}
use Rattle.zq_interests.specs.declared.types.InterestEntry.{InterestEntry}
use Rattle.zq_interests.specs.Interests.{Interests, interests_of}
use Rattle.zq_machine.specs.State.{at}
use Rattle.zq_machine.proofs.Changing.{one_number}

-- a face's interests are others
module _ (ints : Interests) (asker : ℕ) (more : List (ℕ × InterestEntry)) (face : ℕ) where
  abbrev pub listed : Bool → List (ℕ × InterestEntry)
  listed b = option_map_or (λ es. es) (cond b (Some more) (at face ints)) []

  pub listed_at : interests_of face (insert_entry nat_cmp ints asker more) ≡ listed (is_at (nat_cmp asker) face)
  listed_at = ap (λ (o : Option (List (ℕ × InterestEntry))). option_map_or (λ es. es) o []) (found_after_insertion nat_cmp_total exact_unsigned asker face more ints)

  -- those of a face that is there; of one that is not, none are written
  unset : (es : Interests) → at asker es ≡ None → set_value (is_at (nat_cmp asker)) es more ≡ es
  unset [] e = refl
  unset (x ∷ es) e = by (is_at (nat_cmp asker) x.0) e (unset es)
    where
      by : (b : Bool) → cond b (Some x.1) (at asker es) ≡ None → (at asker es ≡ None → set_value (is_at (nat_cmp asker)) es more ≡ es) → cond b ((x.0, more) ∷ es) (x ∷ set_value (is_at (nat_cmp asker)) es more) ≡ x ∷ es
      by true f rest = absurd (let gap : Some x.1 ≡ None = f in cc)
      by false f rest = ap (λ l. x ∷ l) (rest f)

  pub written_at : (at asker ints ≡ None → more ≡ []) → interests_of face (set_value (is_at (nat_cmp asker)) ints more) ≡ listed (is_at (nat_cmp asker) face)
  written_at none = by (at asker ints) refl
    where
      same : at asker ints ≡ None → (b : Bool) → is_at (nat_cmp asker) face ≡ b → interests_of face ints ≡ listed b
      same e true h = ap (λ n. interests_of n ints) (sym (one_number asker face h)) ∙ ap (λ (o : Option (List (ℕ × InterestEntry))). option_map_or (λ es. es) o []) e ∙ sym (none e)
      same e false h = refl

      by : (o : Option (List (ℕ × InterestEntry))) → at asker ints ≡ o → interests_of face (set_value (is_at (nat_cmp asker)) ints more) ≡ listed (is_at (nat_cmp asker) face)
      by None e = ap (interests_of face) (unset ints e) ∙ same e (is_at (nat_cmp asker) face) refl
      by (Some x) e = ap (λ (o : Option (List (ℕ × InterestEntry))). option_map_or (λ es. es) o []) (found_after_write nat_cmp_total exact_unsigned asker face more ints (ap is_some e))

-- a face's interests with one more, and without one
abbrev pub with_one : ℕ → ℕ → InterestEntry → Interests → List (ℕ × InterestEntry)
with_one asker id asked ints = insert_entry nat_cmp (interests_of asker ints) id asked

abbrev pub without_one : ℕ → ℕ → Interests → List (ℕ × InterestEntry)
without_one asker id ints = remove_entry (is_at (nat_cmp id)) (interests_of asker ints)

-- one that is not there has none
pub none_without : (asker id : ℕ) (ints : Interests) → at asker ints ≡ None → without_one asker id ints ≡ []
none_without asker id ints e = ap (λ (o : Option (List (ℕ × InterestEntry))). remove_entry (is_at (nat_cmp id)) (option_map_or (λ es. es) o [])) e
