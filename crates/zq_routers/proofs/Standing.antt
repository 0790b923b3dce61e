-- The entries of a router, found by its keys.
use Rattle.std.proofs.Common.{◌≡◌, ◌∙◌, sym, ap, subst, refl, ℕ, Bool, true, false, cond, List, [], ◌∷◌, map, Option, Some, None, true≢false}
use Rattle.std.specs.Prelude.{◌||◌, String, string_bytes}
use Rattle.std.specs.Option.{is_some, option_and_then, option_map, option_map_or}
use Rattle.std.specs.List.{AllByRecursion, cons_option, filter_map}
use Rattle.std.specs.List.Sorted.{IsStrictlySortedBy}
use Rattle.std.specs.Map.{keys_of, lookup}
use Rattle.std.specs.BTreeMap.{is_at}
use Rattle.std.specs.BTreeSet.{BTreeSet}
use Rattle.std.specs.Ordering.{nat_cmp}
use Rattle.std.specs.String.{string_cmp}
use Rattle.std.specs.declared.alloc.Global.{Global}
use Rattle.std.specs.declared.cmp.Ordering.{Ordering}
use Rattle.std.specs.declared.cmp.Ordering.TheVariants.{Less}
use Rattle.std.proofs.lemmas.Map.Keys.{sorted_head, sorted_tail}
use Rattle.zq_message.specs.declared.message.QueryableInfoType.{QueryableInfoType}
use Rattle.zq_message.specs.declared.message.Zid.{Zid}
use Rattle.zq_key.proofs.Lookups.{same_key, none_above, same_entries}
use Rattle.zq_index.specs.Texts.{text_cmp, at_text, has_text}
use Rattle.zq_index.proofs.Orders.{text_total, text_exact}
use Rattle.zq_index.proofs.Texts.{texts_any}
use Rattle.zq_strategy.specs.Entries.{Entries, Routed, RouterKeys, IsTied, entry_of, keyed, standing}
use Rattle.zq_routers.proofs.Keys.{had_none, had_some}

pub sorted_nil : {K : Type 0} (R : K → K → Ordering) → IsStrictlySortedBy R []
unfolding IsStrictlySortedBy
sorted_nil R = tt

pub sorted_cons : {K : Type 0} (R : K → K → Ordering) (k : K) (ks : List K) → AllByRecursion (λ y. R k y ≡ Less) ks → IsStrictlySortedBy R ks → IsStrictlySortedBy R (k ∷ ks)
unfolding IsStrictlySortedBy
sorted_cons R k ks all s = (all, s)

-- ---- strings in order, seen by their bytes
above_bytes : (s : String Global) (ss : List (String Global)) → AllByRecursion (λ y. string_cmp s y ≡ Less) ss → AllByRecursion (λ y. text_cmp (string_bytes s) y ≡ Less) (map string_bytes ss)
above_bytes s [] all = tt
above_bytes s (x ∷ xs) all = (all.0, above_bytes s xs all.1)

pub sorted_bytes : (ss : List (String Global)) → IsStrictlySortedBy string_cmp ss → IsStrictlySortedBy text_cmp (map string_bytes ss)
sorted_bytes [] sorted = sorted_nil text_cmp
sorted_bytes (s ∷ ss) sorted = sorted_cons text_cmp (string_bytes s) (map string_bytes ss) (above_bytes s ss (sorted_head string_cmp s ss sorted)) (sorted_bytes ss (sorted_tail string_cmp s ss sorted))

-- ---- what is picked by keys in order is in order
module _ {X K V : Type 0} (R : K → K → Ordering) (at : X → K) (get : X → Option V) where
  abbrev pub pick : X → Option (K × V)
  pick x = option_map (λ v. (at x, v)) (get x)

  above_by : (P : K → Type 0) (x : X) (rest : List (K × V)) (o : Option V) → P (at x) → AllByRecursion P (keys_of rest) → AllByRecursion P (keys_of (cons_option (option_map (λ v. (at x, v)) o) rest))
  above_by P x rest None it all = all
  above_by P x rest (Some v) it all = (it, all)

  above_picked : (P : K → Type 0) (xs : List X) → AllByRecursion P (map at xs) → AllByRecursion P (keys_of (filter_map pick xs))
  above_picked P [] all = tt
  above_picked P (x ∷ xs) all = above_by P x (filter_map pick xs) (get x) all.0 (above_picked P xs all.1)

  sorted_by : (x : X) (rest : List (K × V)) (o : Option V) → AllByRecursion (λ y. R (at x) y ≡ Less) (keys_of rest) → IsStrictlySortedBy R (keys_of rest) → IsStrictlySortedBy R (keys_of (cons_option (option_map (λ v. (at x, v)) o) rest))
  sorted_by x rest None all sorted = sorted
  sorted_by x rest (Some v) all sorted = sorted_cons R (at x) (keys_of rest) all sorted

  pub sorted_picked : (xs : List X) → IsStrictlySortedBy R (map at xs) → IsStrictlySortedBy R (keys_of (filter_map pick xs))
  sorted_picked [] sorted = sorted_nil R
  sorted_picked (x ∷ xs) sorted =
      sorted_by x (filter_map pick xs) (get x) (above_picked (λ y. R (at x) y ≡ Less) xs (sorted_head R (at x) (map at xs) sorted)) (sorted_picked xs (sorted_tail R (at x) (map at xs) sorted))

-- ---- look-ups
neither : {X : Type 0} (b : Bool) → ◌≡◌ {A = Option X} (cond b None None) None
neither true = refl
neither false = refl

module _ (router : ℕ) (all : Entries) (key : List ℕ) where
  by_keys_by : (k : List ℕ) (rest : List (List ℕ × QueryableInfoType)) (has b : Bool) (o : Option QueryableInfoType) → entry_of router k all ≡ o → is_at (text_cmp key) k ≡ b
      → at_text key rest ≡ cond has (entry_of router key all) None
      → at_text key (cons_option (option_map (λ i. (k, i)) o) rest) ≡ cond (b || has) (entry_of router key all) None
  by_keys_by k rest has true None is at ih = ih ∙ ap (λ o. cond has o None) own ∙ neither has ∙ sym own
    where
      own : entry_of router key all ≡ None
      own = ap (λ x. entry_of router x all) (same_key text_total text_exact key k at) ∙ is
  by_keys_by k rest has true (Some i) is at ih = ap (λ b. cond b (Some i) (at_text key rest)) at ∙ sym is ∙ ap (λ x. entry_of router x all) (sym (same_key text_total text_exact key k at))
  by_keys_by k rest has false None is at ih = ih
  by_keys_by k rest has false (Some i) is at ih = ap (λ b. cond b (Some i) (at_text key rest)) at ∙ ih

  by_keys : (ks : List (List ℕ)) → at_text key (filter_map (keyed router all) ks) ≡ cond (has_text key ks) (entry_of router key all) None
  by_keys [] = refl
  by_keys (k ∷ ks) = by_keys_by k (filter_map (keyed router all) ks) (has_text key ks) (is_at (text_cmp key) k) (entry_of router k all) refl refl (by_keys ks)

-- what is picked of the entries on a key
module _ {W V : Type 0} (get : W → Option V) (key : List ℕ) where
  picked_by : (e : List ℕ × W) (es : List (List ℕ × W)) (rest : List (List ℕ × V)) (b : Bool) (o : Option V) → get e.1 ≡ o → is_at (text_cmp key) e.0 ≡ b
      → AllByRecursion (λ y. text_cmp e.0 y ≡ Less) (keys_of es) → at_text key rest ≡ option_and_then get (at_text key es)
      → at_text key (cons_option (option_map (λ v. (e.0, v)) o) rest) ≡ option_and_then get (cond b (Some e.1) (at_text key es))
  picked_by e es rest true None is at above ih =
      ih ∙ ap (option_and_then get) (ap (λ x. at_text x es) (same_key text_total text_exact key e.0 at) ∙ none_above text_total text_exact e.0 es above) ∙ sym is
  picked_by e es rest true (Some v) is at above ih = ap (λ b. cond b (Some v) (at_text key rest)) at ∙ sym is
  picked_by e es rest false None is at above ih = ih
  picked_by e es rest false (Some v) is at above ih = ap (λ b. cond b (Some v) (at_text key rest)) at ∙ ih

  pub picked_at : (es : List (List ℕ × W)) → IsStrictlySortedBy text_cmp (keys_of es) → at_text key (filter_map (λ e. option_map (λ v. (e.0, v)) (get e.1)) es) ≡ option_and_then get (at_text key es)
  picked_at [] sorted = refl
  picked_at (e ∷ es) sorted =
      picked_by e es (filter_map (λ e. option_map (λ v. (e.0, v)) (get e.1)) es) (is_at (text_cmp key) e.0) (get e.1) refl refl (sorted_head text_cmp e.0 (keys_of es) sorted)
      (picked_at es (sorted_tail text_cmp e.0 (keys_of es) sorted))

module _ (router : Zid) (key : List ℕ) where
  on_by : (o : Option Routed) → option_and_then (λ es. lookup (is_at (nat_cmp router.0)) es) o ≡ lookup (is_at (nat_cmp router.0)) (option_map_or (λ es. es) o [])
  on_by None = refl
  on_by (Some es) = refl

  by_entries : (all : Entries) → IsStrictlySortedBy text_cmp (keys_of all) → at_text key (standing router all) ≡ entry_of router.0 key all
  by_entries all sorted = picked_at (λ es. lookup (is_at (nat_cmp router.0)) es) key all sorted ∙ on_by (at_text key all)

if_some : {X : Type 0} (o : Option X) → cond (is_some o) o None ≡ o
if_some None = refl
if_some (Some x) = refl

module _ (router : Zid) (all : Entries) (routers : RouterKeys) (tied : IsTied all routers) where
  pub standing_is : (keys : BTreeSet (String Global)) → lookup (is_at (nat_cmp router.0)) routers ≡ Some keys → IsStrictlySortedBy text_cmp (map string_bytes keys.keys)
      → filter_map (keyed router.0 all) (map string_bytes keys.keys) ≡ standing router all
  standing_is keys is sorted =
      let ks = map string_bytes keys.keys in
      same_entries text_total text_exact (filter_map (keyed router.0 all) ks) (standing router all)
      (sorted_picked text_cmp (λ k. k) (λ k. entry_of router.0 k all) ks (subst (IsStrictlySortedBy text_cmp) (sym (map_id ks)) sorted))
      (sorted_picked text_cmp (λ e. e.0) (λ e. lookup (is_at (nat_cmp router.0)) e.1) all tied.ordered.texts)
      (λ k.
      by_keys router.0 all k ks
      ∙ ap (λ b. cond b (entry_of router.0 k all) None) (texts_any (is_at (text_cmp k)) keys.keys ∙ sym (had_some router.0 routers keys is k) ∙ tied.same router.0 k)
      ∙ if_some (entry_of router.0 k all)
      ∙ sym (by_entries router k all tied.ordered.texts))
    where
      map_id : {X : Type 0} (xs : List X) → map (λ x. x) xs ≡ xs
      map_id [] = refl
      map_id (x ∷ xs) = ap (λ l. x ∷ l) (map_id xs)

  -- a router without keys has no entries
  pub standing_none : lookup (is_at (nat_cmp router.0)) routers ≡ None → [] ≡ standing router all
  standing_none none =
      same_entries text_total text_exact [] (standing router all) (sorted_nil text_cmp)
      (sorted_picked text_cmp (λ e. e.0) (λ e. lookup (is_at (nat_cmp router.0)) e.1) all tied.ordered.texts)
      (λ k. sym (by_entries router k all tied.ordered.texts ∙ absent k (entry_of router.0 k all) (sym (tied.same router.0 k) ∙ had_none router.0 routers none k)))
    where
      absent : {X : Type 0} (k : List ℕ) (o : Option X) → is_some o ≡ false → o ≡ None
      absent k None e = refl
      absent k (Some x) e = absurd (true≢false e)
