-- What a network hands, tree by tree.
use Rattle.std.proofs.Common.{◌≡◌, ◌∙◌, sym, ap, refl, ℕ, ◌+◌, ◌<◌, Bool, true, false, true≢false, cond, List, [], ◌∷◌, ◌++◌, append_assoc, arith, drop, filter, get_or, length, Option, Some, None}
use Rattle.std.specs.Prelude.{◌&&◌, ◌||◌, nat_lt, position}
use Rattle.std.specs.BTreeMap.{is_at}
use Rattle.std.specs.Cmp.{nat_cmp_total}
use Rattle.std.specs.List.{cons_option, flat_map}
use Rattle.std.specs.Option.{is_some, option_and_then, option_map, option_map_or}
use Rattle.std.specs.Ordering.{nat_cmp}
use Rattle.std.proofs.lemmas.Bool.{lt-ltb}
use Rattle.std.proofs.lemmas.List.{append-nil, drop_more}
use Rattle.std.proofs.lemmas.Map.Entries.{lookup-filter-keys}
use Rattle.std.proofs.lemmas.Map.Lookups.{exact_unsigned}
use Rattle.zq_message.specs.declared.message.Zid.{Zid}
use Rattle.zq_key.proofs.Lookups.{same_key}
use Rattle.zq_index.specs.Holders.{at_place_by, if_any}
use Rattle.zq_strategy.specs.declared.network.Network.{Network}
use Rattle.zq_strategy.specs.declared.network.Telling.{Telling}
use Rattle.zq_strategy.specs.declared.network.Tree.{Tree}
use Rattle.zq_strategy.specs.Entries.{Entries, Routed, is_by, standing, staying}
use Rattle.zq_strategy.specs.Nets.{is_listed, is_zid, place_of, small}
use Rattle.zq_strategy.specs.Networks.{Standing, any_gives, fresh_faces, gives_child, root_told_by, standing_by, trees_told_by}
use Rattle.zq_strategy.specs.Tellings.{all_told_of}
use Rattle.zq_strategy.proofs.Places.{position_some}

module _ (stands : Zid → Standing) (face : Zid → Option ℕ) (before net : Network) where
  abbrev told : List Zid → List Tree → List Telling
  told ns ts = trees_told_by stands face before net ns ts

  -- one tree more is handed
  pub told_more : (ns : List Zid) (ts : List Tree) (i : ℕ) (root : Zid) (tree : Tree) (done more : List Telling) → i < length ns → i < length ts
      → more ≡ done ++ root_told_by stands face before net (get_or ns i root) (get_or ts i tree) → more ++ told (drop (i + 1) ns) (drop (i + 1) ts) ≡ done ++ told (drop i ns) (drop i ts)
  told_more ns ts i root tree done more l m put =
      ap (λ x. x ++ told (drop (i + 1) ns) (drop (i + 1) ts)) put
      ∙ append_assoc done (root_told_by stands face before net (get_or ns i root) (get_or ts i tree)) (told (drop (i + 1) ns) (drop (i + 1) ts))
      ∙ ap (λ x. done ++ x) (sym (λ j. told (drop_more ns i root l j) (drop_more ts i tree m j)))

  no_trees : (ns : List Zid) → told ns [] ≡ []
  no_trees [] = refl
  no_trees (n ∷ ns) = refl

  -- all are handed
  pub told_all : (ns : List Zid) (ts : List Tree) (i : ℕ) (done : List Telling) → drop i ns ≡ [] → done ++ told (drop i ns) (drop i ts) ≡ told ns ts → done ≡ told ns ts
  told_all ns ts i done none is = sym (append-nil done) ∙ sym (ap (λ l. done ++ told l (drop i ts)) none) ∙ is

  pub told_trees : (ns : List Zid) (ts : List Tree) (i : ℕ) (done : List Telling) → drop i ts ≡ [] → done ++ told (drop i ns) (drop i ts) ≡ told ns ts → done ≡ told ns ts
  told_trees ns ts i done none is = sym (append-nil done) ∙ sym (ap (λ l. done ++ l) (ap (told (drop i ns)) none ∙ no_trees (drop i ns))) ∙ is

-- ---- entries of routers that a network does not list are not handed by it
module _ (test : Zid → Bool) (root : Zid) (yes : test root ≡ true) where
  found_staying : (es : Routed) → at_place_by nat_cmp root.0 (filter (is_by test) es) ≡ at_place_by nat_cmp root.0 es
  found_staying es = lookup-filter-keys (is_at (nat_cmp root.0)) (λ n. test (record { 0 = n })) true (λ n same. ap (λ m. test (record { 0 = m })) (sym (same_key nat_cmp_total exact_unsigned root.0 n same)) ∙ yes) es

  pub standing_staying : (all : Entries) → standing root (staying test all) ≡ standing root all
  standing_staying [] = refl
  standing_staying (k ∷ ks) =
      by (filter (is_by test) k.1)
      ∙ (λ j. cons_option (option_map (λ i. (k.0, i)) (found_staying k.1 j)) (standing_staying ks j))
    where
      by : (hs : Routed) → standing root (cons_option (option_map (λ es. (k.0, es)) (if_any hs)) (staying test ks)) ≡ cons_option (option_map (λ i. (k.0, i)) (at_place_by nat_cmp root.0 hs)) (standing root (staying test ks))
      by [] = refl
      by (h ∷ hs) = refl

-- a root that has a place is listed
placed_root : (net : Network) (zid : Zid) (node : ℕ) → place_of net zid ≡ Some node → is_listed net zid ≡ true
placed_root net zid node e = sym (position_some (is_zid zid) net.nodes) ∙ by (position (is_zid zid) net.nodes) e
  where
    by : (o : Option ℕ) → option_and_then small o ≡ Some node → is_some o ≡ true
    by None e = absurd (let gap : None ≡ Some node = e in cc)
    by (Some n) e = refl

module _ (own : Zid) (own_entries : Standing) (all : Entries) (face : Zid → Option ℕ) (before net : Network) where
  same_root : (root : Zid) (tree : Tree) → root_told_by (standing_by own own_entries all) face before net root tree ≡ root_told_by (standing_by own own_entries (staying (is_listed net) all)) face before net root tree
  same_root root tree = by (place_of net root) refl
    where
      by : (o : Option ℕ) → place_of net root ≡ o
          → option_map_or (λ node. flat_map (all_told_of (standing_by own own_entries all root) node) (fresh_faces face before net root tree)) o []
          ≡ option_map_or (λ node. flat_map (all_told_of (standing_by own own_entries (staying (is_listed net) all) root) node) (fresh_faces face before net root tree)) o []
      by None e = refl
      by (Some node) e = ap (λ (st : Standing). flat_map (all_told_of (cond (is_zid root own) own_entries st) node) (fresh_faces face before net root tree)) (sym (standing_staying (is_listed net) root (placed_root net root node e) all))

  pub same_trees : (ns : List Zid) (ts : List Tree) → trees_told_by (standing_by own own_entries all) face before net ns ts ≡ trees_told_by (standing_by own own_entries (staying (is_listed net) all)) face before net ns ts
  same_trees [] ts = refl
  same_trees (n ∷ ns) [] = refl
  same_trees (n ∷ ns) (t ∷ ts) = λ j. same_root n t j ++ same_trees ns ts j

-- ---- trees that give a root a child
module _ (face : Zid → Option ℕ) (before net : Network) (root : Zid) where
  abbrev gives : List Zid → List Tree → Bool
  gives ns ts = any_gives face before net root ns ts

  -- one tree more is looked at
  pub gives_more : (ns : List Zid) (ts : List Tree) (i : ℕ) (zid : Zid) (tree : Tree) → i < length ns → i < length ts
      → gives (drop i ns) (drop i ts) ≡ (gives_child face before net root (get_or ns i zid) (get_or ts i tree) || gives (drop (i + 1) ns) (drop (i + 1) ts))
  gives_more ns ts i zid tree l m = λ j. gives (drop_more ns i zid l j) (drop_more ts i tree m j)

  pub none_gives : (ns : List Zid) (ts : List Tree) (i : ℕ) → drop i ns ≡ [] → false ≡ gives (drop i ns) (drop i ts)
  none_gives ns ts i none = sym (ap (λ l. gives l (drop i ts)) none)

  no_tree_gives : (ns : List Zid) → false ≡ gives ns []
  no_tree_gives [] = refl
  no_tree_gives (n ∷ ns) = refl

  pub none_gives_trees : (ns : List Zid) (ts : List Tree) (i : ℕ) → drop i ts ≡ [] → false ≡ gives (drop i ns) (drop i ts)
  none_gives_trees ns ts i none = no_tree_gives (drop i ns) ∙ sym (ap (gives (drop i ns)) none)

-- where no tree of the gateway's own gives a child, its own entries are not handed
module _ (own : Zid) (a b : Standing) (all : Entries) (face : Zid → Option ℕ) (before net : Network) where
  quiet_by : (root : Zid) (is : Bool) (fs : List ℕ) (o : Option ℕ) → (is && nat_lt 0 (length fs)) ≡ false
      → option_map_or (λ node. flat_map (all_told_of (cond is a (standing root all)) node) fs) o [] ≡ option_map_or (λ node. flat_map (all_told_of (cond is b (standing root all)) node) fs) o []
  quiet_by root false fs o e = refl
  quiet_by root true [] None e = refl
  quiet_by root true [] (Some node) e = refl
  quiet_by root true (f ∷ fs) o e = let some : nat_lt 0 (length (f ∷ fs)) ≡ true = lt-ltb 0 (length (f ∷ fs)) (omega arith) in absurd (true≢false (sym some ∙ e))

  first_false : (x y : Bool) → (x || y) ≡ false → x ≡ false
  first_false true y e = e
  first_false false y e = refl

  later_false : (x y : Bool) → (x || y) ≡ false → y ≡ false
  later_false true y e = absurd (true≢false e)
  later_false false y e = e

  pub same_told : (ns : List Zid) (ts : List Tree) → any_gives face before net own ns ts ≡ false → trees_told_by (standing_by own a all) face before net ns ts ≡ trees_told_by (standing_by own b all) face before net ns ts
  same_told [] ts e = refl
  same_told (n ∷ ns) [] e = refl
  same_told (n ∷ ns) (t ∷ ts) e =
      λ j. quiet_by n (is_zid n own) (fresh_faces face before net n t) (place_of net n) (first_false (gives_child face before net own n t) (any_gives face before net own ns ts) e) j
      ++ same_told ns ts (later_false (gives_child face before net own n t) (any_gives face before net own ns ts) e) j
