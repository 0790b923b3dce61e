-- The keys that have an entry of one of several routers.
use Rattle.std.proofs.Common.{◌≡◌, ◌∙◌, sym, ap, refl, ℕ, Bool, true, false, cond, List, [], ◌∷◌, filter, Option, Some, None, eqb}
use Rattle.std.specs.Prelude.{◌||◌}
use Rattle.std.specs.Option.{is_some, option_map_or}
use Rattle.std.specs.List.{AllByRecursion, list_any}
use Rattle.std.specs.List.Sorted.{IsStrictlySortedBy}
use Rattle.std.specs.Map.{keys_of, lookup}
use Rattle.std.specs.BTreeMap.{is_at}
use Rattle.std.specs.Ordering.{nat_cmp}
use Rattle.std.specs.Cmp.{nat_cmp_total}
use Rattle.std.specs.declared.cmp.Ordering.{Ordering}
use Rattle.std.specs.declared.cmp.Ordering.TheVariants.{Less}
use Rattle.std.proofs.lemmas.Map.Keys.{sorted_head, sorted_tail}
use Rattle.std.proofs.lemmas.Map.Lookups.{exact_unsigned}
use Rattle.zq_message.specs.declared.message.QueryableInfoType.{QueryableInfoType}
use Rattle.zq_message.specs.declared.message.Zid.{Zid}
use Rattle.zq_key.proofs.Lookups.{each_entry, same_key, none_above}
use Rattle.zq_key.proofs.Sorted.{same_keys}
use Rattle.zq_index.specs.Texts.{text_cmp, at_text, has_text}
use Rattle.zq_index.proofs.Orders.{text_total, text_exact}
use Rattle.zq_strategy.specs.declared.network.Network.{Network}
use Rattle.zq_strategy.specs.Nets.{is_zid}
use Rattle.zq_strategy.specs.Entries.{Entries, Routed, RouterKeys, AreKeysOf, IsTied, entry_of, has_by, has_key_of, is_by, is_one_of, is_unlisted, keys_by, unlisted_of, zid_of}
use Rattle.zq_routers.proofs.Losing.{lost_ids, same_id}
use Rattle.zq_strategy.proofs.Places.{number_test}
use Rattle.zq_routers.proofs.Standing.{sorted_cons, sorted_nil}

-- ---- what is left of entries in order is in order
module _ {K X : Type 0} (R : K → K → Ordering) (q : K × X → Bool) where
  above_by : (P : K → Type 0) (e : K × X) (rest : List (K × X)) (b : Bool) → P e.0 → AllByRecursion P (keys_of rest) → AllByRecursion P (keys_of (cond b (e ∷ rest) rest))
  above_by P e rest true it all = (it, all)
  above_by P e rest false it all = all

  above_left : (P : K → Type 0) (es : List (K × X)) → AllByRecursion P (keys_of es) → AllByRecursion P (keys_of (filter q es))
  above_left P [] all = tt
  above_left P (e ∷ es) all = above_by P e (filter q es) (q e) all.0 (above_left P es all.1)

  left_by : (e : K × X) (rest : List (K × X)) (b : Bool) → AllByRecursion (λ y. R e.0 y ≡ Less) (keys_of rest) → IsStrictlySortedBy R (keys_of rest) → IsStrictlySortedBy R (keys_of (cond b (e ∷ rest) rest))
  left_by e rest true all sorted = sorted_cons R e.0 (keys_of rest) all sorted
  left_by e rest false all sorted = sorted

  sorted_left : (es : List (K × X)) → IsStrictlySortedBy R (keys_of es) → IsStrictlySortedBy R (keys_of (filter q es))
  sorted_left [] sorted = sorted_nil R
  sorted_left (e ∷ es) sorted = left_by e (filter q es) (q e) (above_left (λ y. R e.0 y ≡ Less) es (sorted_head R e.0 (keys_of es) sorted)) (sorted_left es (sorted_tail R e.0 (keys_of es) sorted))

-- ---- a key is left where its value passes
module _ {W : Type 0} (q : W → Bool) (key : List ℕ) where
  has_by_value : (e : List ℕ × W) (es : List (List ℕ × W)) (b c : Bool) → is_at (text_cmp key) e.0 ≡ b → q e.1 ≡ c → AllByRecursion (λ y. text_cmp e.0 y ≡ Less) (keys_of es)
      → has_text key (keys_of (filter (λ e. q e.1) es)) ≡ option_map_or q (at_text key es) false
      → has_text key (keys_of (cond c (e ∷ filter (λ e. q e.1) es) (filter (λ e. q e.1) es))) ≡ option_map_or q (cond b (Some e.1) (at_text key es)) false
  has_by_value e es true true at is above ih = ap (λ b. b || has_text key (keys_of (filter (λ e. q e.1) es))) at ∙ sym is
  has_by_value e es true false at is above ih =
      ih ∙ ap (λ o. option_map_or q o false) (ap (λ x. at_text x es) (same_key text_total text_exact key e.0 at) ∙ none_above text_total text_exact e.0 es above) ∙ sym is
  has_by_value e es false true at is above ih = ap (λ b. b || has_text key (keys_of (filter (λ e. q e.1) es))) at ∙ ih
  has_by_value e es false false at is above ih = ih

  has_left : (es : List (List ℕ × W)) → IsStrictlySortedBy text_cmp (keys_of es) → has_text key (keys_of (filter (λ e. q e.1) es)) ≡ option_map_or q (at_text key es) false
  has_left [] sorted = refl
  has_left (e ∷ es) sorted = has_by_value e es (is_at (text_cmp key) e.0) (q e.1) refl refl (sorted_head text_cmp e.0 (keys_of es) sorted) (has_left es (sorted_tail text_cmp e.0 (keys_of es) sorted))

-- ---- one of the ones, either way round
any_none : {X : Type 0} (xs : List X) → list_any (λ x. false) xs ≡ false
any_none [] = refl
any_none (x ∷ xs) = any_none xs

or_four : (a b c d : Bool) → ((a || c) || (b || d)) ≡ ((a || b) || (c || d))
or_four true b c d = refl
or_four false true true d = refl
or_four false true false d = refl
or_four false false c d = refl

any_or : {X : Type 0} (p q : X → Bool) (xs : List X) → (list_any p xs || list_any q xs) ≡ list_any (λ x. p x || q x) xs
any_or p q [] = refl
any_or p q (x ∷ xs) = or_four (p x) (q x) (list_any p xs) (list_any q xs) ∙ ap (λ b. (p x || q x) || b) (any_or p q xs)

any_swap : {X Y : Type 0} (r : X → Y → Bool) (xs : List X) (ys : List Y) → list_any (λ x. list_any (r x) ys) xs ≡ list_any (λ y. list_any (λ x. r x y) xs) ys
any_swap r [] ys = sym (any_none ys)
any_swap r (x ∷ xs) ys = ap (λ b. list_any (r x) ys || b) (any_swap r xs ys) ∙ any_or (r x) (λ y. list_any (λ x. r x y) xs) ys

any_same : {X : Type 0} (p q : X → Bool) → ((x : X) → p x ≡ q x) → (xs : List X) → list_any p xs ≡ list_any q xs
any_same p q same [] = refl
any_same p q same (x ∷ xs) = λ j. same x j || any_same p q same xs j

router_by : (x : Zid) (e : ℕ × QueryableInfoType) (es : Routed) (b : Bool) → eqb e.0 x.0 ≡ b → is_at (nat_cmp x.0) e.0 ≡ b → list_any (λ (e : ℕ × QueryableInfoType). is_zid (zid_of e.0) x) es ≡ is_some (lookup (is_at (nat_cmp x.0)) es)
    → (eqb e.0 x.0 || list_any (λ (e : ℕ × QueryableInfoType). is_zid (zid_of e.0) x) es) ≡ is_some (cond (is_at (nat_cmp x.0) e.0) (Some e.1) (lookup (is_at (nat_cmp x.0)) es))
router_by x e es true at is ih = ap (λ b. b || list_any (λ (e : ℕ × QueryableInfoType). is_zid (zid_of e.0) x) es) at ∙ sym (ap (λ b. is_some (cond b (Some e.1) (lookup (is_at (nat_cmp x.0)) es))) is)
router_by x e es false at is ih = ap (λ b. b || list_any (λ (e : ℕ × QueryableInfoType). is_zid (zid_of e.0) x) es) at ∙ ih ∙ sym (ap (λ b. is_some (cond b (Some e.1) (lookup (is_at (nat_cmp x.0)) es))) is)

router_in : (x : Zid) (es : Routed) → list_any (λ (e : ℕ × QueryableInfoType). is_zid (zid_of e.0) x) es ≡ is_some (lookup (is_at (nat_cmp x.0)) es)
router_in x [] = refl
router_in x (e ∷ es) = router_by x e es (eqb e.0 x.0) refl (number_test x.0 e.0 ∙ same_id x.0 e.0) (router_in x es)

one_by : (ids : List Zid) (o : Option Routed) → list_any (λ (x : Zid). is_some (lookup (is_at (nat_cmp x.0)) (option_map_or (λ es. es) o []))) ids ≡ option_map_or (λ (es : Routed). list_any (is_by (is_one_of ids)) es) o false
one_by ids None = any_none ids
one_by ids (Some es) =
    any_same (λ (x : Zid). is_some (lookup (is_at (nat_cmp x.0)) es)) (λ (x : Zid). list_any (λ (e : ℕ × QueryableInfoType). is_zid (zid_of e.0) x) es) (λ x. sym (router_in x es)) ids
    ∙ sym (any_swap (λ (e : ℕ × QueryableInfoType) (x : Zid). is_zid (zid_of e.0) x) es ids)

module _ (all : Entries) (routers : RouterKeys) (tied : IsTied all routers) where
  -- the keys of the routers are those that have an entry of one
  pub keys_are : (ids : List Zid) (keys : List (List ℕ)) → AreKeysOf routers ids keys → keys ≡ keys_by (is_one_of ids) all
  keys_are ids keys are =
      same_keys text_total text_exact keys (keys_by (is_one_of ids) all) are.ordered (sorted_left text_cmp (has_by (is_one_of ids)) all tied.ordered.texts)
      (λ key.
      are.same key
      ∙ any_same (has_key_of routers key) (λ (x : Zid). is_some (entry_of x.0 key all)) (λ x. tied.same x.0 key) ids
      ∙ one_by ids (at_text key all)
      ∙ sym (has_left (λ (es : Routed). list_any (is_by (is_one_of ids)) es) key all tied.ordered.texts))

  -- ---- the routers that a network does not list have the same keys
  any_by : (p q : Zid → Bool) (es : Routed) → AllByRecursion (λ e. is_by p e ≡ is_by q e) es → list_any (is_by p) es ≡ list_any (is_by q) es
  any_by p q [] same = refl
  any_by p q (e ∷ es) same = λ j. same.0 j || any_by p q es same.1 j

  left_same : (p q : Zid → Bool) (es : Entries) → AllByRecursion (λ e. has_by p e ≡ has_by q e) es → filter (has_by p) es ≡ filter (has_by q) es
  left_same p q [] same = refl
  left_same p q (e ∷ es) same = λ j. cond (same.0 j) (e ∷ left_same p q es same.1 j) (left_same p q es same.1 j)

  pub lost_keys : (net : Network) → keys_by (is_one_of (unlisted_of net routers)) all ≡ keys_by (is_unlisted net) all
  lost_keys net =
      let p = is_one_of (unlisted_of net routers) in
      ap keys_of (left_same p (is_unlisted net) all
      (each_entry text_total text_exact (λ e. has_by p e ≡ has_by (is_unlisted net) e) all tied.ordered.texts (λ key es is.
      any_by p (is_unlisted net) es
      (each_entry nat_cmp_total exact_unsigned (λ e. is_by p e ≡ is_by (is_unlisted net) e) es (tied.ordered.places key es is) (λ z i there.
      lost_ids net all routers tied z key (ap is_some (ap (λ o. lookup (is_at (nat_cmp z)) (option_map_or (λ es. es) o [])) is ∙ there)))))))
