-- Who is told what along trees: each telling is of a root at its place, and says what stands of it; and a child is told.
use Rattle.std.proofs.Common.{◌≡◌, ◌∙◌, refl, sym, ap, subst, arith, take, ◌<◌, ℕ, zero, suc, Bool, true, false, cond, not, List, [], ◌∷◌, map, filter, get_or, Option, Some, None, eqb-true}
use Rattle.std.specs.Prelude.{◌==◌, ◌&&◌, ◌||◌, nat_lt, position, slice_get}
use Rattle.std.specs.BTreeMap.{is_at}
use Rattle.std.specs.List.{AllByRecursion, cons_option, filter_map, flat_map, list_any}
use Rattle.std.specs.List.Sorted.{IsStrictlySortedBy}
use Rattle.std.specs.Map.{keys_of, lookup}
use Rattle.std.specs.Option.{is_some, option_and_then, option_map_or}
use Rattle.std.specs.Ordering.{nat_cmp}
use Rattle.std.specs.Str.{bytes_eq}
use Rattle.std.proofs.lemmas.Bool.{false≢true, ltb-true, or_parts, true≢false}
use Rattle.std.proofs.lemmas.List.Folds.{list_any-append}
use Rattle.std.proofs.lemmas.List.Quantifiers.{position-Some}
use Rattle.std.proofs.lemmas.Option.{option_and_then_some, slice_get-get_or}
use Rattle.std.proofs.lemmas.Slice.Eq.{bytes_eq-Decides}
use Rattle.zq_message.specs.declared.message.QueryableInfoType.{QueryableInfoType}
use Rattle.zq_message.specs.declared.message.Zid.{Zid}
use Rattle.zq_key.proofs.Lookups.{each_entry, same_key}
use Rattle.zq_index.specs.Texts.{at_text, text_cmp}
use Rattle.zq_index.proofs.Orders.{text_exact, text_total}
use Rattle.zq_strategy.specs.declared.network.Network.{Network}
use Rattle.zq_strategy.specs.declared.network.Telling.{Telling as TreeTelling}
use Rattle.zq_strategy.specs.declared.network.Tree.{Tree}
use Rattle.zq_strategy.specs.Entries.{Entries, Routed, entry_of, standing, zid_of}
use Rattle.zq_strategy.specs.Nets.{child_ids, children_of, fresh_ids, is_listed, is_zid, named_trees, place_of, small, tree_at}
use Rattle.zq_strategy.specs.Seating.{faces_by, is_other}
use Rattle.zq_strategy.specs.Tellings.{all_told_of, tree_telling}
use Rattle.zq_strategy.proofs.Places.{position_some}
use Rattle.zq_routers.proofs.Standing.{picked_at, sorted_picked}
use Rattle.zq_strategy.specs.Kept.{has_face}
use Rattle.zq_strategy.specs.Routers.{face_with}
use Rattle.zq_strategy.specs.State.{HatState}
use Rattle.zq_strategy.specs.Trees.{root_told, standing_of, to_children, trees_told}
use Rattle.zq_machine.specs.Children.{is_face_of}
use Rattle.zq_machine.proofs.Changing.{itself, number_test}
use Rattle.zq_machine.proofs.DueHeard.{faces_each}
use Rattle.zq_machine.proofs.Learning.{is_news}
use Rattle.zq_machine.proofs.Lists.{all_append, all_mapped, all_weaker}

-- ---- ids and places
pub same_zid : (a b : Zid) → is_zid a b ≡ true → a ≡ b
same_zid a b e = ap zid_of (eqb-true a.0 b.0 e)

small_is : (i p : ℕ) → small i ≡ Some p → i ≡ p
small_is i p e = by (nat_lt i 65536) e
  where
    by : (b : Bool) → cond b (Some i) None ≡ Some p → i ≡ p
    by true f = cc
    by false f = absurd (let gap : None ≡ Some p = f in cc)

at_position : (net : Network) (z : Zid) (p : ℕ) → place_of net z ≡ Some p → position (is_zid z) net.nodes ≡ Some p
at_position net z p e = option_and_then_some small (position (is_zid z) net.nodes) p e (λ i there fits. there ∙ ap Some (small_is i p fits))

-- an id's place is one that a message can name
place_small : (net : Network) (z : Zid) (p : ℕ) → place_of net z ≡ Some p → p < 65536
place_small net z p e = by (position (is_zid z) net.nodes) e
  where
    by_test : (i : ℕ) (b : Bool) → nat_lt i 65536 ≡ b → cond b (Some i) None ≡ Some p → p < 65536
    by_test i true l f = let same : i ≡ p = cc in subst (λ (n : ℕ). n < 65536) same (ltb-true i 65536 l)
    by_test i false l f = absurd (let gap : None ≡ Some p = f in cc)

    by : (o : Option ℕ) → option_and_then small o ≡ Some p → p < 65536
    by None f = absurd (let gap : None ≡ Some p = f in cc)
    by (Some i) f = by_test i (nat_lt i 65536) refl f

get_taken : {X : Type 0} (n : ℕ) (xs : List X) (i : ℕ) → i < n → slice_get (take n xs) i ≡ slice_get xs i
get_taken zero xs i l = absurd (omega (arith, l))
get_taken (suc n) [] i l = refl
get_taken (suc n) (x ∷ xs) zero l = refl
get_taken (suc n) (x ∷ xs) (suc i) l = get_taken n xs i (omega (arith, l))

-- the tree at an id's place is one of those at places that a message can name
named_there : (net : Network) (z : Zid) (p : ℕ) → place_of net z ≡ Some p → slice_get (named_trees net) p ≡ tree_at net p
named_there net z p e = get_taken 65536 net.trees p (place_small net z p e)

-- the id that stands at the place of an id
pub placed_there : (net : Network) (z : Zid) (p : ℕ) → place_of net z ≡ Some p → slice_get net.nodes p ≡ Some z
placed_there net z p e =
    let q = position-Some (is_zid z) net.nodes p z (at_position net z p e) in
    slice_get-get_or net.nodes p z q.0 ∙ ap Some (sym (same_zid z (get_or net.nodes p z) q.1))

-- two ids have no place in common
pub one_place : (net : Network) (a b : Zid) (p : ℕ) → place_of net a ≡ Some p → place_of net b ≡ Some p → a ≡ b
one_place net a b p e f = let same : Some a ≡ Some b = sym (placed_there net a p e) ∙ placed_there net b p f in cc

pub place_listed : (net : Network) (z : Zid) (p : ℕ) → place_of net z ≡ Some p → is_listed net z ≡ true
place_listed net z p e = sym (position_some (is_zid z) net.nodes) ∙ ap is_some (at_position net z p e)

-- ---- each telling
-- the telling is of the root at its place, on the key and with this, to a face of the hat
pub record IsOf (h : HatState) (root : Zid) (text : List ℕ) (i : Option QueryableInfoType) (t : TreeTelling) : Type 0 where
  pub place : place_of h.network root ≡ Some t.node
  pub key : t.key ≡ text
  pub says : t.info ≡ i
  pub seat : has_face t.face.0 h ≡ true

pub children_are : (from : Option ℕ) (root : Zid) (key : List ℕ) (i : Option QueryableInfoType) (h : HatState) → AllByRecursion (IsOf h root key i) (to_children from root key i h)
children_are from root key i h = by (place_of h.network root) refl
  where
    ns : List ℕ
    ns = faces_by from (λ zid. face_with zid h.faces) (children_of h.network root)

    by : (o : Option ℕ) → place_of h.network root ≡ o → AllByRecursion (IsOf h root key i) (option_map_or (λ node. map (tree_telling key i node) ns) o [])
    by None e = tt
    by (Some node) e =
        all_mapped (IsOf h root key i) (tree_telling key i node) ns
        (faces_each (λ n. IsOf h root key i (tree_telling key i node n)) h (λ n there. record { place = e; key = refl; says = refl; seat = there }) from (children_of h.network root))

-- the telling is of some root at its place, and says what the root's entries do
pub record IsWord (S : Zid → List ℕ → Option QueryableInfoType → Type 0) (h : HatState) (t : TreeTelling) : Type 0 where
  pub root : Zid
  pub place : place_of h.network root ≡ Some t.node
  pub says : S root t.key t.info
  pub seat : has_face t.face.0 h ≡ true

module _ (S : Zid → List ℕ → Option QueryableInfoType → Type 0) (own : List (List ℕ × QueryableInfoType)) (old : Network) (h : HatState)
    (true_of : (z : Zid) → AllByRecursion (λ (e : List ℕ × QueryableInfoType). S z e.0 (Some e.1)) (standing_of own z h)) where
  faces_are : (root : Zid) (node : ℕ) → place_of h.network root ≡ Some node → (ns : List ℕ) → AllByRecursion (λ n. has_face n h ≡ true) ns → AllByRecursion (IsWord S h) (flat_map (all_told_of (standing_of own root h) node) ns)
  faces_are root node e [] all = tt
  faces_are root node e (n ∷ ns) all =
      all_append (IsWord S h) (all_told_of (standing_of own root h) node n) (flat_map (all_told_of (standing_of own root h) node) ns)
      (all_mapped (IsWord S h) (λ (x : List ℕ × QueryableInfoType). tree_telling x.0 (Some x.1) node n) (standing_of own root h)
      (all_weaker (λ (x : List ℕ × QueryableInfoType). S root x.0 (Some x.1)) (λ (x : List ℕ × QueryableInfoType). IsWord S h (tree_telling x.0 (Some x.1) node n)) (λ x it. record { root = root; place = e; says = it; seat = all.0 }) (standing_of own root h) (true_of root)))
      (faces_are root node e ns all.1)

  root_are : (root : Zid) (tree : Tree) → AllByRecursion (IsWord S h) (root_told own old h root tree)
  root_are root tree = by (place_of h.network root) refl
    where
      zids : List Zid
      zids = fresh_ids old root (child_ids h.network tree)

      by : (o : Option ℕ) → place_of h.network root ≡ o → AllByRecursion (IsWord S h) (option_map_or (λ node. flat_map (all_told_of (standing_of own root h) node) (faces_by None (λ zid. face_with zid h.faces) zids)) o [])
      by None e = tt
      by (Some node) e = faces_are root node e (faces_by None (λ zid. face_with zid h.faces) zids) (faces_each (λ n. has_face n h ≡ true) h (λ n there. there) None zids)

  pub trees_are : (zs : List Zid) (ts : List Tree) → AllByRecursion (IsWord S h) (trees_told own old h zs ts)
  trees_are [] ts = tt
  trees_are (z ∷ zs) [] = tt
  trees_are (z ∷ zs) (t ∷ ts) = all_append (IsWord S h) (root_told own old h z t) (trees_told own old h zs ts) (root_are z t) (trees_are zs ts)

-- ---- what stands
module _ (root : Zid) where
  on_by : (key : List ℕ) (o : Option Routed) → option_and_then (λ es. lookup (is_at (nat_cmp root.0)) es) o ≡ lookup (is_at (nat_cmp root.0)) (option_map_or (λ es. es) o [])
  on_by key None = refl
  on_by key (Some es) = refl

  pub stands_at : (all : Entries) → IsStrictlySortedBy text_cmp (keys_of all) → (key : List ℕ) → at_text key (standing root all) ≡ entry_of root.0 key all
  stands_at all sorted key = picked_at (λ es. lookup (is_at (nat_cmp root.0)) es) key all sorted ∙ on_by key (at_text key all)

  pub stands_true : (all : Entries) → IsStrictlySortedBy text_cmp (keys_of all) → AllByRecursion (λ (e : List ℕ × QueryableInfoType). Some e.1 ≡ entry_of root.0 e.0 all) (standing root all)
  stands_true all sorted =
      each_entry text_total text_exact (λ (e : List ℕ × QueryableInfoType). Some e.1 ≡ entry_of root.0 e.0 all) (standing root all)
      (sorted_picked text_cmp (λ e. e.0) (λ e. lookup (is_at (nat_cmp root.0)) e.1) all sorted)
      (λ k v is. sym is ∙ stands_at all sorted k)

-- the key stands in the list
abbrev pub Stands : List ℕ → List (List ℕ × QueryableInfoType) → Type 0
Stands key es = list_any (λ (e : List ℕ × QueryableInfoType). bytes_eq e.0 key) es ≡ true

pub text_is : (key k : List ℕ) → is_at (text_cmp key) k ≡ true → bytes_eq k key ≡ true
text_is key k e = (bytes_eq-Decides k key).1 (sym (same_key text_total text_exact key k e))

pub one_more : (a b : Bool) → b ≡ true → (a || b) ≡ true
one_more true b e = refl
one_more false b e = e

pub found_stands : (key : List ℕ) (es : List (List ℕ × QueryableInfoType)) (i : QueryableInfoType) → at_text key es ≡ Some i → Stands key es
found_stands key [] i e = absurd (let gap : None ≡ Some i = e in cc)
found_stands key (x ∷ es) i e = by (is_at (text_cmp key) x.0) refl e (found_stands key es i)
  where
    by : (b : Bool) → is_at (text_cmp key) x.0 ≡ b → cond b (Some x.1) (at_text key es) ≡ Some i → (at_text key es ≡ Some i → Stands key es) → Stands key (x ∷ es)
    by true is f more = ap (λ b. b || list_any (λ (y : List ℕ × QueryableInfoType). bytes_eq y.0 key) es) (text_is key x.0 is)
    by false is f more = one_more (bytes_eq x.0 key) (list_any (λ (y : List ℕ × QueryableInfoType). bytes_eq y.0 key) es) (more f)

-- ---- a child is told
module _ (face : ℕ) (h : HatState) where
  among : (zids : List Zid) → list_any (is_face_of face h) zids ≡ list_any (λ n. n == face) (filter_map (λ zid. face_with zid h.faces) zids)
  among [] = refl
  among (z ∷ zids) = by (face_with z h.faces) (among zids)
    where
      by : (o : Option ℕ) → list_any (is_face_of face h) zids ≡ list_any (λ n. n == face) (filter_map (λ zid. face_with zid h.faces) zids)
          → (option_map_or (λ n. n == face) o false || list_any (is_face_of face h) zids) ≡ list_any (λ n. n == face) (cons_option o (filter_map (λ zid. face_with zid h.faces) zids))
      by None ih = ih
      by (Some n) ih = ap (λ b. (n == face) || b) ih

  kept_by : (from : Option ℕ) (ns : List ℕ) → is_other from face ≡ true → list_any (λ n. n == face) ns ≡ true → list_any (λ n. n == face) (filter (is_other from) ns) ≡ true
  kept_by from [] other e = absurd (false≢true e)
  kept_by from (n ∷ ns) other e = by (n == face) refl e (is_other from n) refl (kept_by from ns other)
    where
      by : (b : Bool) → (n == face) ≡ b → (b || list_any (λ m. m == face) ns) ≡ true → (c : Bool) → is_other from n ≡ c
          → (list_any (λ m. m == face) ns ≡ true → list_any (λ m. m == face) (filter (is_other from) ns) ≡ true)
          → list_any (λ m. m == face) (cond c (n ∷ filter (is_other from) ns) (filter (is_other from) ns)) ≡ true
      by true is f true o more = ap (λ b. b || list_any (λ m. m == face) (filter (is_other from) ns)) is
      by true is f false o more = absurd (false≢true (sym o ∙ ap (is_other from) (eqb-true n face is) ∙ other))
      by false is f true o more = one_more (n == face) (list_any (λ m. m == face) (filter (is_other from) ns)) (more f)
      by false is f false o more = more f

  -- the face is among those of ids
  pub is_among : (from : Option ℕ) (zids : List Zid) → is_other from face ≡ true → list_any (is_face_of face h) zids ≡ true → list_any (λ n. n == face) (faces_by from (λ zid. face_with zid h.faces) zids) ≡ true
  is_among from zids other child = kept_by from (filter_map (λ zid. face_with zid h.faces) zids) other (sym (among zids) ∙ child)

  module _ (key : List ℕ) (node : ℕ) where
    news_is : (text : List ℕ) (i : Option QueryableInfoType) (n : ℕ) → is_news face (Some node) key (tree_telling text i node n) ≡ ((n == face) && bytes_eq text key)
    news_is text i n = ap (λ b. ((n == face) && b) && bytes_eq text key) (sym (number_test node node) ∙ itself node) ∙ by (n == face)
      where
        by : (b : Bool) → ((b && true) && bytes_eq text key) ≡ (b && bytes_eq text key)
        by true = refl
        by false = refl

    told_on : (text : List ℕ) (i : Option QueryableInfoType) → bytes_eq text key ≡ true → (ns : List ℕ) → list_any (is_news face (Some node) key) (map (tree_telling text i node) ns) ≡ list_any (λ n. n == face) ns
    told_on text i same [] = refl
    told_on text i same (n ∷ ns) = λ j. (news_is text i n ∙ ap (λ b. (n == face) && b) same ∙ by (n == face)) j || told_on text i same ns j
      where
        by : (b : Bool) → (b && true) ≡ b
        by true = refl
        by false = refl

    told_each : (n : ℕ) → (n == face) ≡ true → (es : List (List ℕ × QueryableInfoType)) → list_any (is_news face (Some node) key) (all_told_of es node n) ≡ list_any (λ (e : List ℕ × QueryableInfoType). bytes_eq e.0 key) es
    told_each n is [] = refl
    told_each n is (e ∷ es) = λ j. (news_is e.0 (Some e.1) n ∙ ap (λ b. b && bytes_eq e.0 key) is) j || told_each n is es j

    told_all : (es : List (List ℕ × QueryableInfoType)) → Stands key es → (ns : List ℕ) → list_any (λ n. n == face) ns ≡ true → list_any (is_news face (Some node) key) (flat_map (all_told_of es node) ns) ≡ true
    told_all es has [] e = absurd (false≢true e)
    told_all es has (n ∷ ns) e =
        list_any-append (is_news face (Some node) key) (all_told_of es node n) (flat_map (all_told_of es node) ns) ∙ by (n == face) refl e (told_all es has ns)
      where
        by : (b : Bool) → (n == face) ≡ b → (b || list_any (λ m. m == face) ns) ≡ true
            → (list_any (λ m. m == face) ns ≡ true → list_any (is_news face (Some node) key) (flat_map (all_told_of es node) ns) ≡ true)
            → (list_any (is_news face (Some node) key) (all_told_of es node n) || list_any (is_news face (Some node) key) (flat_map (all_told_of es node) ns)) ≡ true
        by true is f more = ap (λ b. b || list_any (is_news face (Some node) key) (flat_map (all_told_of es node) ns)) (told_each n is es ∙ has)
        by false is f more = one_more (list_any (is_news face (Some node) key) (all_told_of es node n)) (list_any (is_news face (Some node) key) (flat_map (all_told_of es node) ns)) (more f)

  -- a child of the root's tree is told of the key
  pub child_told : (from : Option ℕ) (root : Zid) (text key : List ℕ) (i : Option QueryableInfoType) (node : ℕ) → place_of h.network root ≡ Some node → is_other from face ≡ true → bytes_eq text key ≡ true
      → list_any (is_face_of face h) (children_of h.network root) ≡ true → list_any (is_news face (Some node) key) (to_children from root text i h) ≡ true
  child_told from root text key i node e other same child =
      ap (λ o. list_any (is_news face (Some node) key) (option_map_or (λ m. map (tree_telling text i m) (faces_by from (λ zid. face_with zid h.faces) (children_of h.network root))) o [])) e
      ∙ told_on key node text i same (faces_by from (λ zid. face_with zid h.faces) (children_of h.network root))
      ∙ is_among from (children_of h.network root) other child

  -- ---- a child by a new network
  old_by : (z : Zid) (olds : List Zid) → is_face_of face h z ≡ true → list_any (is_face_of face h) olds ≡ false → list_any (is_zid z) olds ≡ false
  old_by z [] is none = refl
  old_by z (o ∷ olds) is none =
      let p = or_parts (is_face_of face h o) (list_any (is_face_of face h) olds) none in
      λ j. by (is_zid z o) refl p.0 j || old_by z olds is p.1 j
    where
      by : (b : Bool) → is_zid z o ≡ b → is_face_of face h o ≡ false → b ≡ false
      by true e f = absurd (true≢false (sym is ∙ ap (is_face_of face h) (same_zid z o e) ∙ f))
      by false e f = refl

  fresh_child : (old : Network) (root : Zid) (zids : List Zid) → list_any (is_face_of face h) (children_of old root) ≡ false → list_any (is_face_of face h) zids ≡ true → list_any (is_face_of face h) (fresh_ids old root zids) ≡ true
  fresh_child old root [] none e = absurd (false≢true e)
  fresh_child old root (z ∷ zids) none e = by (is_face_of face h z) refl e (list_any (is_zid z) (children_of old root)) refl (fresh_child old root zids none)
    where
      rest : List Zid
      rest = fresh_ids old root zids

      by : (b : Bool) → is_face_of face h z ≡ b → (b || list_any (is_face_of face h) zids) ≡ true → (c : Bool) → list_any (is_zid z) (children_of old root) ≡ c
          → (list_any (is_face_of face h) zids ≡ true → list_any (is_face_of face h) rest ≡ true) → list_any (is_face_of face h) (cond (not c) (z ∷ rest) rest) ≡ true
      by true is f true c more = absurd (true≢false (sym c ∙ old_by z (children_of old root) is none))
      by true is f false c more = ap (λ b. b || list_any (is_face_of face h) rest) is
      by false is f true c more = more f
      by false is f false c more = one_more (is_face_of face h z) (list_any (is_face_of face h) rest) (more f)

  module _ (own : List (List ℕ × QueryableInfoType)) (old : Network) (root : Zid) (key : List ℕ) (node : ℕ) (there : place_of h.network root ≡ Some node) (has : Stands key (standing_of own root h)) where
    by_root : (tree : Tree) → list_any (is_face_of face h) (fresh_ids old root (child_ids h.network tree)) ≡ true → list_any (is_news face (Some node) key) (root_told own old h root tree) ≡ true
    by_root tree child =
        let zids = fresh_ids old root (child_ids h.network tree) in
        ap (λ o. list_any (is_news face (Some node) key) (option_map_or (λ m. flat_map (all_told_of (standing_of own root h) m) (faces_by None (λ zid. face_with zid h.faces) zids)) o [])) there
        ∙ told_all key node (standing_of own root h) has (faces_by None (λ zid. face_with zid h.faces) zids) (is_among None zids refl child)

    by_trees : (zs : List Zid) (ts : List Tree) (i : ℕ) (tree : Tree) → slice_get zs i ≡ Some root → slice_get ts i ≡ Some tree → list_any (is_news face (Some node) key) (root_told own old h root tree) ≡ true
        → list_any (is_news face (Some node) key) (trees_told own old h zs ts) ≡ true
    by_trees [] ts i tree e f told = absurd (let gap : None ≡ Some root = e in cc)
    by_trees (z ∷ zs) [] i tree e f told = absurd (let gap : None ≡ Some tree = f in cc)
    by_trees (z ∷ zs) (t ∷ ts) zero tree e f told =
        let z_is : root ≡ z = cc in
        let t_is : tree ≡ t = cc in
        list_any-append (is_news face (Some node) key) (root_told own old h z t) (trees_told own old h zs ts)
        ∙ ap (λ b. b || list_any (is_news face (Some node) key) (trees_told own old h zs ts)) ((λ j. list_any (is_news face (Some node) key) (root_told own old h (sym z_is j) (sym t_is j))) ∙ told)
    by_trees (z ∷ zs) (t ∷ ts) (suc i) tree e f told =
        list_any-append (is_news face (Some node) key) (root_told own old h z t) (trees_told own old h zs ts)
        ∙ one_more (list_any (is_news face (Some node) key) (root_told own old h z t)) (list_any (is_news face (Some node) key) (trees_told own old h zs ts)) (by_trees zs ts i tree e f told)

    -- a face that the network makes a child of the root's tree is told of each key that stands
    pub made_child_told : list_any (is_face_of face h) (children_of old root) ≡ false → list_any (is_face_of face h) (children_of h.network root) ≡ true
        → list_any (is_news face (Some node) key) (trees_told own old h h.network.nodes (named_trees h.network)) ≡ true
    made_child_told none child = by (tree_at h.network node) refl (sym (ap (λ o. list_any (is_face_of face h) (option_map_or (child_ids h.network) (option_and_then (tree_at h.network) o) [])) there) ∙ child)
      where
        by : (o : Option Tree) → tree_at h.network node ≡ o → list_any (is_face_of face h) (option_map_or (child_ids h.network) o []) ≡ true
            → list_any (is_news face (Some node) key) (trees_told own old h h.network.nodes (named_trees h.network)) ≡ true
        by None e c = absurd (false≢true c)
        by (Some tree) e c =
            by_trees h.network.nodes (named_trees h.network) node tree (placed_there h.network root node there) (named_there h.network root node there ∙ e)
            (by_root tree (fresh_child old root (child_ids h.network tree) none c))
