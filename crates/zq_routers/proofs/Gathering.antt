-- The keys of several routers.
use Rattle.std.proofs.Common.{◌≡◌, ◌∙◌, sym, ap, refl, ℕ, ◌+◌, ◌<◌, Bool, true, false, List, [], ◌∷◌, ◌++◌, get_or, length, map, take, Option, Some, None}
use Rattle.std.specs.List.{cons_option, filter_map}
use Rattle.std.specs.Option.{option_to_list}
use Rattle.std.proofs.lemmas.List.{take_more}
use Rattle.std.proofs.lemmas.List.Elements.{filter_map-append}
use Rattle.std.specs.Prelude.{◌||◌, String, string_bytes}
use Rattle.std.specs.BTreeMap.{is_at}
use Rattle.std.specs.BTreeSet.{BTreeSet, contains_text, insert_key}
use Rattle.std.specs.declared.alloc.Global.{Global}
use Rattle.zq_key.proofs.Sorted.{has_put}
use Rattle.zq_index.specs.Texts.{text_cmp, has_text}
use Rattle.zq_index.proofs.Orders.{text_total, text_exact}
use Rattle.zq_index.proofs.Texts.{texts_any}

or_between : (a b c : Bool) → ((a || b) || c) ≡ (b || (a || c))
or_between true true c = refl
or_between true false c = refl
or_between false true c = refl
or_between false false c = refl

-- a text is in the set just where its bytes are among those of the set's strings
pub contains_is : (s : BTreeSet (String Global)) (k : List ℕ) → has_text k (map string_bytes s.keys) ≡ contains_text s k
contains_is s k = texts_any (is_at (text_cmp k)) s.keys

-- one key of a list joins the others
pub joined_next : (old new : BTreeSet (String Global)) (key : List ℕ) (rest : List (List ℕ)) → map string_bytes new.keys ≡ insert_key text_cmp (map string_bytes old.keys) key
    → (k : List ℕ) → (contains_text new k || has_text k rest) ≡ (contains_text old k || has_text k (key ∷ rest))
joined_next old new key rest put k =
    ap (λ b. b || has_text k rest) (sym (contains_is new k) ∙ ap (has_text k) put ∙ has_put text_total text_exact k key (map string_bytes old.keys))
    ∙ or_between (is_at (text_cmp k) key) (has_text k (map string_bytes old.keys)) (has_text k rest)
    ∙ ap (λ b. b || has_text k (key ∷ rest)) (contains_is old k)

-- what is picked of one element more
pub filter_map_more : {X Y : Type 0} (h : X → Option Y) (xs : List X) (i : ℕ) (d : X) → i < length xs → filter_map h (take (i + 1) xs) ≡ filter_map h (take i xs) ++ option_to_list (h (get_or xs i d))
filter_map_more h xs i d l = ap (filter_map h) (take_more xs i d l) ∙ filter_map-append h (take i xs) (get_or xs i d ∷ []) ∙ ap (λ e. filter_map h (take i xs) ++ e) (by (h (get_or xs i d)))
  where
    by : {Y : Type 0} (o : Option Y) → cons_option o [] ≡ option_to_list o
    by None = refl
    by (Some y) = refl
