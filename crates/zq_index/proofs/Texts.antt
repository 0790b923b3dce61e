-- Entries by strings, seen by the bytes of the strings.
use Rattle.std.proofs.Common.{◌≡◌, Bool, true, false, cond, ℕ, List, [], ◌∷◌, ap, refl, Some, map}
use Rattle.std.specs.Prelude.{◌||◌, String}
use Rattle.std.specs.declared.alloc.Global.{Global}
use Rattle.std.specs.declared.cmp.Ordering.{Ordering}
use Rattle.std.specs.declared.cmp.Ordering.TheVariants.{Less, Equal, Greater}
use Rattle.std.specs.Ordering.{match_ordering}
use Rattle.std.specs.String.{string_bytes, string_cmp}
use Rattle.std.specs.List.{AllZip, list_any}
use Rattle.std.specs.Map.{lookup, remove_entry, set_value}
use Rattle.std.specs.BTreeMap.{insert_entry}
use Rattle.std.specs.BTreeSet.{insert_key}
use Rattle.std.specs.Set.{remove_key}
use Rattle.zq_index.specs.Texts.{text_cmp, texts_of}

module _ {X : Type 0} (test : List ℕ → Bool) where
  pub text_lookup : (es : List (String Global × X)) → lookup test (texts_of es) ≡ lookup (λ s. test (string_bytes s)) es
  text_lookup [] = refl
  text_lookup (e ∷ es) = ap (cond (test (string_bytes e.0)) (Some e.1)) (text_lookup es)

  set_by : (e : String Global × X) (es : List (String Global × X)) (w : X) (b : Bool) → texts_of (set_value (λ s. test (string_bytes s)) es w) ≡ set_value test (texts_of es) w
      → texts_of (cond b ((e.0, w) ∷ es) (e ∷ set_value (λ s. test (string_bytes s)) es w)) ≡ cond b ((string_bytes e.0, w) ∷ texts_of es) ((string_bytes e.0, e.1) ∷ set_value test (texts_of es) w)
  set_by e es w true ih = refl
  set_by e es w false ih = ap (λ l. (string_bytes e.0, e.1) ∷ l) ih

  pub text_set : (es : List (String Global × X)) (w : X) → texts_of (set_value (λ s. test (string_bytes s)) es w) ≡ set_value test (texts_of es) w
  text_set [] w = refl
  text_set (e ∷ es) w = set_by e es w (test (string_bytes e.0)) (text_set es w)

  remove_by : (e : String Global × X) (es : List (String Global × X)) (b : Bool) → texts_of (remove_entry (λ s. test (string_bytes s)) es) ≡ remove_entry test (texts_of es)
      → texts_of (cond b es (e ∷ remove_entry (λ s. test (string_bytes s)) es)) ≡ cond b (texts_of es) ((string_bytes e.0, e.1) ∷ remove_entry test (texts_of es))
  remove_by e es true ih = refl
  remove_by e es false ih = ap (λ l. (string_bytes e.0, e.1) ∷ l) ih

  pub text_remove : (es : List (String Global × X)) → texts_of (remove_entry (λ s. test (string_bytes s)) es) ≡ remove_entry test (texts_of es)
  text_remove [] = refl
  text_remove (e ∷ es) = remove_by e es (test (string_bytes e.0)) (text_remove es)

module _ {X : Type 0} (s : String Global) (v : X) where
  insert_by : (e : String Global × X) (es : List (String Global × X)) (r : Ordering) → texts_of (insert_entry string_cmp es s v) ≡ insert_entry text_cmp (texts_of es) (string_bytes s) v
      → texts_of (match_ordering r ((s, v) ∷ e ∷ es) ((e.0, v) ∷ es) (e ∷ insert_entry string_cmp es s v)) ≡ match_ordering r ((string_bytes s, v) ∷ texts_of (e ∷ es)) ((string_bytes e.0, v) ∷ texts_of es) ((string_bytes e.0, e.1) ∷ insert_entry text_cmp (texts_of es) (string_bytes s) v)
  insert_by e es Less ih = refl
  insert_by e es Equal ih = refl
  insert_by e es Greater ih = ap (λ l. (string_bytes e.0, e.1) ∷ l) ih

  pub text_insert : (es : List (String Global × X)) → texts_of (insert_entry string_cmp es s v) ≡ insert_entry text_cmp (texts_of es) (string_bytes s) v
  text_insert [] = refl
  text_insert (e ∷ es) = insert_by e es (string_cmp s e.0) (text_insert es)

-- ---- sets of strings
abbrev bytes_in : List (String Global) → List (List ℕ)
bytes_in ss = map string_bytes ss

module _ (test : List ℕ → Bool) where
  pub texts_any : (ss : List (String Global)) → list_any test (map string_bytes ss) ≡ list_any (λ s. test (string_bytes s)) ss
  texts_any [] = refl
  texts_any (s ∷ ss) = ap (λ b. test (string_bytes s) || b) (texts_any ss)

  take_by : (s : String Global) (ss : List (String Global)) (b : Bool) → bytes_in (remove_key (λ s. test (string_bytes s)) ss) ≡ remove_key test (bytes_in ss)
      → bytes_in (cond b ss (s ∷ remove_key (λ s. test (string_bytes s)) ss)) ≡ cond b (bytes_in ss) (string_bytes s ∷ remove_key test (bytes_in ss))
  take_by s ss true ih = refl
  take_by s ss false ih = ap (λ l. string_bytes s ∷ l) ih

  pub texts_take : (ss : List (String Global)) → map string_bytes (remove_key (λ s. test (string_bytes s)) ss) ≡ remove_key test (map string_bytes ss)
  texts_take [] = refl
  texts_take (s ∷ ss) = take_by s ss (test (string_bytes s)) (texts_take ss)

module _ (s : String Global) where
  put_by : (x : String Global) (xs : List (String Global)) (r : Ordering) → bytes_in (insert_key string_cmp xs s) ≡ insert_key text_cmp (bytes_in xs) (string_bytes s)
      → bytes_in (match_ordering r (s ∷ x ∷ xs) (x ∷ xs) (x ∷ insert_key string_cmp xs s)) ≡ match_ordering r (string_bytes s ∷ bytes_in (x ∷ xs)) (bytes_in (x ∷ xs)) (string_bytes x ∷ insert_key text_cmp (bytes_in xs) (string_bytes s))
  put_by x xs Less ih = refl
  put_by x xs Equal ih = refl
  put_by x xs Greater ih = ap (λ l. string_bytes x ∷ l) ih

  pub texts_put : (ss : List (String Global)) → map string_bytes (insert_key string_cmp ss s) ≡ insert_key text_cmp (map string_bytes ss) (string_bytes s)
  texts_put [] = refl
  texts_put (x ∷ xs) = put_by x xs (string_cmp s x) (texts_put xs)

-- strings with the same bytes, one by one
pub texts_same : (ss ts : List (String Global)) → AllZip (λ s t. string_bytes t ≡ string_bytes s) ss ts → map string_bytes ts ≡ map string_bytes ss
texts_same [] [] same = refl
texts_same [] (t ∷ ts) same = absurd same
texts_same (s ∷ ss) [] same = absurd same
texts_same (s ∷ ss) (t ∷ ts) same = λ i. same.0 i ∷ texts_same ss ts same.1 i
