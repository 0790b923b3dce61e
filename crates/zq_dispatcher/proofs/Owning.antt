-- What is found key by key of aggregating interests, gathered by face, are just those that one of the keys meets.
use Rattle.std.proofs.Common.{◌≡◌, ◌∙◌, refl, sym, ap, subst, ℕ, Bool, true, false, cond, List, [], ◌∷◌, ◌++◌, fold, Option, Some}
use Rattle.std.specs.Prelude.{◌&&◌, ◌||◌}
use Rattle.std.specs.BTreeMap.{is_at}
use Rattle.std.specs.BTreeSet.{insert_key}
use Rattle.std.specs.Cmp.{nat_cmp_total}
use Rattle.std.specs.List.{AllByRecursion, list_any}
use Rattle.std.specs.Option.{option_map_or}
use Rattle.std.specs.Ordering.{nat_cmp}
use Rattle.std.proofs.lemmas.List.Folds.{list_any-append}
use Rattle.std.proofs.lemmas.Map.Lookups.{exact_unsigned}
use Rattle.zq_key.specs.Key.{intersects, is_key}
use Rattle.zq_key.proofs.Lawful.{intersects-swap}
use Rattle.zq_key.proofs.Lookups.{found_after_insertion, same_key}
use Rattle.zq_key.proofs.Sorted.{has_put}
use Rattle.zq_index.specs.Texts.{has_text, text_cmp}
use Rattle.zq_index.proofs.Orders.{text_exact, text_total}
use Rattle.zq_interests.specs.declared.types.FaceKey.{FaceKey}
use Rattle.zq_interests.specs.Interests.{AreFolders, Interests, at, is_folder, own_keys}
use Rattle.zq_machine.specs.Due.{is_met_by}
use Rattle.zq_machine.proofs.Changing.{number_test}
use Rattle.zq_dispatcher.specs.Dues.{AreKeys}
use Rattle.zq_dispatcher.specs.Owns.{AllKeys, AreOwns, Owns, owns_of, with_folder, with_key}
use Rattle.zq_dispatcher.proofs.KeysGathered.{one_in}

-- ---- a key joins those of a face
pub of_after : (face n : ℕ) (key : List ℕ) (owns : Owns) → owns_of face (with_key n key owns) ≡ cond (is_at (nat_cmp n) face) (insert_key text_cmp (owns_of n owns) key) (owns_of face owns)
of_after face n key owns =
    ap (λ (o : Option (List (List ℕ))). option_map_or (λ ks. ks) o []) (found_after_insertion nat_cmp_total exact_unsigned n face (insert_key text_cmp (owns_of n owns) key) owns)
    ∙ by (is_at (nat_cmp n) face)
  where
    by : (b : Bool) → option_map_or (λ ks. ks) (cond b (Some (insert_key text_cmp (owns_of n owns) key)) (at face owns)) [] ≡ cond b (insert_key text_cmp (owns_of n owns) key) (owns_of face owns)
    by true = refl
    by false = refl

module _ (face : ℕ) (own : List ℕ) where
  abbrev has : Owns → Bool
  has owns = has_text own (owns_of face owns)

  has_after : (f : FaceKey) (owns : Owns) → has (with_folder owns f) ≡ (is_folder face own f || has owns)
  has_after f owns =
      ap (has_text own) (of_after face f.face.0 f.key owns)
      ∙ by (is_at (nat_cmp f.face.0) face) refl
      ∙ ap (λ b. (b && is_at (text_cmp own) f.key) || has owns) (number_test f.face.0 face)
    where
      by : (b : Bool) → is_at (nat_cmp f.face.0) face ≡ b → has_text own (cond b (insert_key text_cmp (owns_of f.face.0 owns) f.key) (owns_of face owns)) ≡ ((is_at (nat_cmp f.face.0) face && is_at (text_cmp own) f.key) || has owns)
      by true is =
          has_put text_total text_exact own f.key (owns_of f.face.0 owns)
          ∙ ap (λ n. is_at (text_cmp own) f.key || has_text own (owns_of n owns)) (same_key nat_cmp_total exact_unsigned f.face.0 face is)
          ∙ ap (λ b. (b && is_at (text_cmp own) f.key) || has owns) (sym is)
      by false is = ap (λ b. (b && is_at (text_cmp own) f.key) || has owns) (sym is)

  turned : (a b c : Bool) → (a || (b || c)) ≡ ((b || a) || c)
  turned true true c = refl
  turned true false c = refl
  turned false true c = refl
  turned false false c = refl

  pub has_all : (fs : List FaceKey) (owns : Owns) → has (fold with_folder owns fs) ≡ (list_any (is_folder face own) fs || has owns)
  has_all [] owns = refl
  has_all (f ∷ fs) owns =
      has_all fs (with_folder owns f)
      ∙ ap (λ b. list_any (is_folder face own) fs || b) (has_after f owns)
      ∙ turned (list_any (is_folder face own) fs) (is_folder face own f) (has owns)

  -- those that a key meets are found
  pub has_met : (key : List ℕ) (ints : Interests) (fs : List FaceKey) (owns : Owns) → AreFolders key ints fs → has (fold with_folder owns fs) ≡ ((intersects key own && has_text own (own_keys face ints)) || has owns)
  has_met key ints fs owns are =
      has_all fs owns
      ∙ ap (λ b. b || has owns) (are face own ∙ ap (λ b. b && has_text own (own_keys face ints)) (intersects-swap own key))

-- ---- each is a key
one_key : (f : FaceKey) (owns : Owns) → is_key f.key ≡ true → AllKeys owns → AllKeys (with_folder owns f)
one_key f owns k all face = subst AreKeys (sym (of_after face f.face.0 f.key owns)) (by (is_at (nat_cmp f.face.0) face))
  where
    by : (b : Bool) → AreKeys (cond b (insert_key text_cmp (owns_of f.face.0 owns) f.key) (owns_of face owns))
    by true = one_in text_cmp (λ key. is_key key ≡ true) f.key (owns_of f.face.0 owns) k (all f.face.0)
    by false = all face

pub all_keys : (fs : List FaceKey) (owns : Owns) → AllByRecursion (λ (f : FaceKey). is_key f.key ≡ true) fs → AllKeys owns → AllKeys (fold with_folder owns fs)
all_keys [] owns keys all = all
all_keys (f ∷ fs) owns keys all = all_keys fs (with_folder owns f) keys.1 (one_key f owns keys.0 all)

-- ---- one key after the other
gathered : (k m o : Bool) → ((k && o) || (m && o)) ≡ ((m || (k || false)) && o)
gathered true true true = refl
gathered true true false = refl
gathered true false o = by o
  where
    by : (o : Bool) → (o || false) ≡ o
    by true = refl
    by false = refl
gathered false true o = refl
gathered false false o = refl

pub none_met : (ints : Interests) → AreOwns [] ints []
none_met ints face own = refl

pub one_more : (keys : List (List ℕ)) (key : List ℕ) (ints : Interests) (owns more : Owns) → AreOwns keys ints owns
    → ((face : ℕ) (own : List ℕ) → has_text own (owns_of face more) ≡ ((intersects key own && has_text own (own_keys face ints)) || has_text own (owns_of face owns))) → AreOwns (keys ++ key ∷ []) ints more
one_more keys key ints owns more are met face own =
    met face own
    ∙ ap (λ b. (intersects key own && has_text own (own_keys face ints)) || b) (are face own)
    ∙ gathered (intersects key own) (is_met_by keys own) (has_text own (own_keys face ints))
    ∙ ap (λ b. b && has_text own (own_keys face ints)) (sym (list_any-append (λ k. intersects k own) keys (key ∷ [])))
