-- Texts in order, and what stands at them.
use Rattle.std.specs.Prelude.{ℕ, Bool, false, true, not, ◌&&◌, ◌||◌, ◌==◌, ◌≡◌, ◌≢◌, List, [], ◌∷◌, Option, map, String, string_bytes}
use Rattle.std.specs.List.{list_any}
use Rattle.std.specs.Map.{lookup}
use Rattle.std.specs.BTreeMap.{is_at}
use Rattle.std.specs.Cmp.Lexicographic.{slice_cmp}
use Rattle.std.specs.Ordering.{nat_cmp}
use Rattle.std.specs.declared.alloc.Global.{Global}
use Rattle.std.specs.declared.cmp.Ordering.{Ordering}
use Rattle.std.specs.declared.cmp.Ordering.TheVariants.{Less}
use Rattle.std.specs.Set.{remove_key}
use Rattle.zq_key.specs.Apart.{is_wild}
use Rattle.zq_key.specs.Key.{is_plain}

-- texts in the order of their bytes
abbrev pub text_cmp : List ℕ → List ℕ → Ordering
text_cmp = slice_cmp nat_cmp

-- what stands at the text
abbrev pub at_text : {X : Type 0} → List ℕ → List (List ℕ × X) → Option X
at_text key es = lookup (is_at (text_cmp key)) es

-- the entries by the bytes of their strings
abbrev pub texts_of : {X : Type 0} → List (String Global × X) → List (List ℕ × X)
texts_of es = map (λ e. (string_bytes e.0, e.1)) es

-- the text is among the texts
abbrev pub has_text : List ℕ → List (List ℕ) → Bool
has_text t texts = list_any (is_at (text_cmp t)) texts

-- whether a `*` or `$` stands behind another byte of its chunk; or first, where there is one before
abbrev pub mixed_after : Bool → List ℕ → Bool
mixed_after tame [] = false
mixed_after tame (c ∷ rest) = (tame && is_wild c) || mixed_after (not (is_wild c) && not (c == 47)) rest

-- whether a chunk of the text begins as a plain one and goes on by a `*` or `$`
abbrev pub is_mixed : List ℕ → Bool
is_mixed text = mixed_after false text

-- two lists of keys: of those that are not plain, and of the mixed ones
abbrev pub Lists : Type 0
Lists = List (List ℕ) × List (List ℕ)

-- the text is in the one list, if it is not a plain key, and in the other, if it is mixed
abbrev pub IsListed : Lists → List ℕ → Type 0
IsListed lists t = (is_plain t ≡ false → has_text t lists.0 ≡ true) × (is_mixed t ≡ true → has_text t lists.1 ≡ true)

-- the lists without the text
abbrev pub lists_without : List ℕ → Lists → Lists
lists_without t lists = (remove_key (is_at (text_cmp t)) lists.0, remove_key (is_at (text_cmp t)) lists.1)

-- none of the texts comes after t
abbrev pub NoneAfter : List (List ℕ) → List ℕ → Type 0
NoneAfter texts t = (s : List ℕ) → has_text s texts ≡ true → text_cmp t s ≢ Less

-- none of the texts comes after t and before u
abbrev pub NoneBetween : List (List ℕ) → List ℕ → List ℕ → Type 0
NoneBetween texts t u = (s : List ℕ) → has_text s texts ≡ true → text_cmp t s ≡ Less → text_cmp s u ≢ Less

-- the text comes after t, and none of the texts comes between
pub record IsFirstAfter (texts : List (List ℕ)) (t first : List ℕ) : Type 0 where
  pub after : text_cmp t first ≡ Less
  pub none : (s : List ℕ) → has_text s texts ≡ true → text_cmp t s ≡ Less → text_cmp s first ≢ Less
