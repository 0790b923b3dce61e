-- What a network hands is true, and a face that it makes a child is told all that stands.
use Rattle.std.proofs.Common.{◌≡◌, ◌∙◌, refl, sym, ap, subst, ℕ, Bool, true, false, cond, List, [], ◌∷◌, fold, Option, Some, None}
use Rattle.std.specs.Prelude.{◌==◌, ◌||◌}
use Rattle.std.specs.BTreeMap.{is_at}
use Rattle.std.specs.BTreeSet.{insert_key}
use Rattle.std.specs.List.{AllByRecursion, cons_option, filter_map, list_any}
use Rattle.std.specs.Map.{keys_of, set_value}
use Rattle.std.specs.Option.{option_map, option_map_or}
use Rattle.std.specs.Ordering.{nat_cmp}
use Rattle.std.specs.Str.{bytes_eq}
use Rattle.std.proofs.lemmas.Bool.{false≢true, or_parts, true≢false}
use Rattle.std.proofs.lemmas.Slice.Eq.{bytes_eq-Decides}
use Rattle.zq_message.specs.declared.message.QueryableInfoType.{QueryableInfoType}
use Rattle.zq_message.specs.declared.message.Region.{Region}
use Rattle.zq_message.specs.declared.message.Zid.{Zid}
use Rattle.zq_message.specs.Region.{region_index}
use Rattle.zq_key.proofs.Lookups.{same_key}
use Rattle.zq_index.specs.Holders.{IsOrderedBy}
use Rattle.zq_index.specs.Infos.{joined}
use Rattle.zq_index.specs.Texts.{at_text, has_text, text_cmp}
use Rattle.zq_index.proofs.Listed.{put_in, put_keeps}
use Rattle.zq_index.proofs.Merges.{joined_none}
use Rattle.zq_index.proofs.Orders.{text_exact, text_total}
use Rattle.zq_strategy.specs.declared.network.Network.{Network}
use Rattle.zq_strategy.specs.declared.network.Telling.{Telling as TreeTelling}
use Rattle.zq_strategy.specs.Entries.{Entries, Routed, entry_of, routed_info, standing, staying}
use Rattle.zq_strategy.specs.Nets.{children_of, is_listed, is_zid, named_trees, place_of}
use Rattle.zq_routers.proofs.Dropping.{staying_entry}
use Rattle.zq_strategy.specs.declared.types.Declaration.{Declaration}
use Rattle.zq_strategy.specs.declared.types.Strategy.{Strategy}
use Rattle.zq_strategy.specs.declared.types.Strategy.TheVariants as strategy
use Rattle.zq_strategy.specs.Kept.{declared_keys, faces_info, has_face, region_info, routers_info, with_declared, with_face, with_key, with_keys}
use Rattle.zq_strategy.specs.Regions.{in_routers, strategy_at}
use Rattle.zq_strategy.specs.Routers.{face_with, networked}
use Rattle.zq_strategy.specs.State.{FaceState, HatState}
use Rattle.zq_strategy.specs.Trees.{network_told, region_keys, standing_of}
use Rattle.zq_machine.specs.Children.{is_face_of}
use Rattle.zq_machine.specs.Configs.{Settings}
use Rattle.zq_machine.specs.Deciding.{accepted, refusal_of}
use Rattle.zq_machine.specs.Machine.{accepted_state}
use Rattle.zq_machine.specs.State.{State, at, hat_at, put_hat}
use Rattle.zq_machine.specs.TextCalls.{networking}
use Rattle.zq_machine.specs.Trees.{keyed_own, own_entries, own_entry, own_keys, placed_told, tree_told, with_other, with_other_keys}
use Rattle.zq_machine.proofs.Agreed.{InOrder}
use Rattle.zq_machine.proofs.Changing.{hat_here, itself, number_test, one_number, region_there}
use Rattle.zq_machine.proofs.Learning.{is_news}
use Rattle.zq_machine.proofs.Lists.{all_weaker}
use Rattle.zq_machine.proofs.OwnTold.{IsTrue, at_home, news_parts, own_id, stands}
use Rattle.zq_machine.proofs.Placing.{IsWord, Stands, found_stands, made_child_told, one_more, one_place, place_listed, stands_at, stands_true, text_is, trees_are}
use Rattle.zq_machine.proofs.Foreign.{hat_now}
use Rattle.zq_machine.proofs.Worded.{Any, IsWorded, each_found}

-- ---- own entries: each has its key among those of the other regions
has_put : (key : List ℕ) (ks more : List (List ℕ)) → has_text key ks ≡ true → has_text key (fold (insert_key text_cmp) ks more) ≡ true
has_put key ks [] e = e
has_put key ks (k ∷ more) e = has_put key (insert_key text_cmp ks k) more (put_keeps k key ks e)

has_added : (key : List ℕ) (ks more : List (List ℕ)) → has_text key more ≡ true → has_text key (fold (insert_key text_cmp) ks more) ≡ true
has_added key ks [] e = absurd (false≢true e)
has_added key ks (k ∷ more) e = by (is_at (text_cmp key) k) refl e (λ g. has_added key (insert_key text_cmp ks k) more g)
  where
    by : (b : Bool) → is_at (text_cmp key) k ≡ b → (b || has_text key more) ≡ true → (has_text key more ≡ true → has_text key (fold (insert_key text_cmp) ks (k ∷ more)) ≡ true) → has_text key (fold (insert_key text_cmp) ks (k ∷ more)) ≡ true
    by true is g rest = has_put key (insert_key text_cmp ks k) more (subst (λ x. has_text x (insert_key text_cmp ks k) ≡ true) (sym (same_key text_total text_exact key k is)) (put_in k ks))
    by false is g rest = rest g

-- no key of it, no information
no_entry : (key : List ℕ) (es : Entries) → has_text key (keys_of es) ≡ false → at_text key es ≡ None
no_entry key [] e = refl
no_entry key (x ∷ es) e =
    let p = or_parts (is_at (text_cmp key) x.0) (has_text key (keys_of es)) e in
    ap (λ b. cond b (Some x.1) (at_text key es)) p.0 ∙ no_entry key es p.1

none_kept : (key : List ℕ) (ks : List (List ℕ)) (ds : List (ℕ × Declaration)) → has_text key (fold with_key ks ds) ≡ false → (has_text key ks ≡ false) × ((m : Option QueryableInfoType) → fold (with_declared key) m ds ≡ m)
none_kept key ks [] e = (e, λ m. refl)
none_kept key ks (d ∷ ds) e = by (none_kept key (insert_key text_cmp ks d.1.key) ds e) (has_text key ks) refl (bytes_eq d.1.key key) refl
  where
    by : (has_text key (insert_key text_cmp ks d.1.key) ≡ false) × ((m : Option QueryableInfoType) → fold (with_declared key) m ds ≡ m) → (a : Bool) → has_text key ks ≡ a → (b : Bool) → bytes_eq d.1.key key ≡ b
        → (has_text key ks ≡ false) × ((m : Option QueryableInfoType) → fold (with_declared key) m (d ∷ ds) ≡ m)
    by p true f b g = absurd (true≢false (sym (put_keeps d.1.key key ks f) ∙ p.0))
    by p false f true g = absurd (true≢false (sym (subst (λ x. has_text x (insert_key text_cmp ks d.1.key) ≡ true) ((bytes_eq-Decides d.1.key key).0 g) (put_in d.1.key ks)) ∙ p.0))
    by p false f false g = (f, λ m. ap (λ x. fold (with_declared key) x ds) (ap (λ b. cond b (joined m (Some d.1.info)) m) g) ∙ p.1 m)

none_declared : (key : List ℕ) (ks : List (List ℕ)) (fs : List (ℕ × FaceState)) → has_text key (fold with_keys ks fs) ≡ false → (has_text key ks ≡ false) × ((m : Option QueryableInfoType) → fold (with_face key) m fs ≡ m)
none_declared key ks [] e = (e, λ m. refl)
none_declared key ks (f ∷ fs) e =
    let p = none_declared key (with_keys ks f) fs e in
    let q = none_kept key ks f.1.declared p.0 in
    (q.0, λ m. ap (λ x. fold (with_face key) x fs) (ap (joined m) (q.1 None) ∙ joined_none m) ∙ p.1 m)

none_in : (key : List ℕ) (h : HatState) → has_text key (region_keys h) ≡ false → region_info key h ≡ None
none_in key h e = by (strategy_at h) e
  where
    by : (k : Strategy) → has_text key (in_routers k (keys_of h.entries) (declared_keys h.faces)) ≡ false → in_routers k (routers_info key h) (faces_info key h.faces) ≡ None
    by strategy.Broker f = (none_declared key [] h.faces f).1 None
    by strategy.Client f = (none_declared key [] h.faces f).1 None
    by strategy.Peer f = (none_declared key [] h.faces f).1 None
    by strategy.Router f = ap (λ (o : Option Routed). routed_info (option_map_or (λ es. es) o [])) (no_entry key h.entries f)

module _ (place : ℕ) (key : List ℕ) where
  none_owned : (ks : List (List ℕ)) (hats : List (ℕ × HatState)) → has_text key (fold (with_other_keys place) ks hats) ≡ false → (has_text key ks ≡ false) × ((m : Option QueryableInfoType) → fold (with_other place key) m hats ≡ m)
  none_owned ks [] e = (e, λ m. refl)
  none_owned ks (h ∷ hats) e = by (h.0 == place) (none_owned (with_other_keys place ks h) hats e)
    where
      out : (b : Bool) → has_text key ks ≡ b → has_text key (fold (insert_key text_cmp) ks (region_keys h.1)) ≡ false → has_text key ks ≡ false
      out true f g = absurd (true≢false (sym (has_put key ks (region_keys h.1) f) ∙ g))
      out false f g = f

      off : (b : Bool) → has_text key (region_keys h.1) ≡ b → has_text key (fold (insert_key text_cmp) ks (region_keys h.1)) ≡ false → region_info key h.1 ≡ None
      off true f g = absurd (true≢false (sym (has_added key ks (region_keys h.1) f) ∙ g))
      off false f g = none_in key h.1 f

      by : (b : Bool) → (has_text key (cond b ks (fold (insert_key text_cmp) ks (region_keys h.1))) ≡ false) × ((m : Option QueryableInfoType) → fold (with_other place key) m hats ≡ m)
          → (has_text key ks ≡ false) × ((m : Option QueryableInfoType) → fold (with_other place key) (cond b m (joined m (region_info key h.1))) hats ≡ m)
      by true p = p
      by false p = (out (has_text key ks) refl p.0, λ m. ap (λ x. fold (with_other place key) x hats) (ap (joined m) (off (has_text key (region_keys h.1)) refl p.0) ∙ joined_none m) ∙ p.1 m)

  module _ (hats : List (ℕ × HatState)) (v : QueryableInfoType) (is : own_entry place key hats ≡ Some v) where
    among : (ks : List (List ℕ)) → has_text key ks ≡ true → Stands key (filter_map (keyed_own place hats) ks)
    among [] e = absurd (false≢true e)
    among (k ∷ ks) e = by (is_at (text_cmp key) k) refl e (λ g. among ks g)
      where
        beside : (o : Option QueryableInfoType) → Stands key (filter_map (keyed_own place hats) ks) → Stands key (cons_option (option_map (λ (x : QueryableInfoType). (k, x)) o) (filter_map (keyed_own place hats) ks))
        beside None more = more
        beside (Some x) more = one_more (bytes_eq k key) (list_any (λ (y : List ℕ × QueryableInfoType). bytes_eq y.0 key) (filter_map (keyed_own place hats) ks)) more

        by : (b : Bool) → is_at (text_cmp key) k ≡ b → (b || has_text key ks) ≡ true → (has_text key ks ≡ true → Stands key (filter_map (keyed_own place hats) ks)) → Stands key (filter_map (keyed_own place hats) (k ∷ ks))
        by true at g more =
            ap (λ o. list_any (λ (y : List ℕ × QueryableInfoType). bytes_eq y.0 key) (cons_option (option_map (λ (x : QueryableInfoType). (k, x)) o) (filter_map (keyed_own place hats) ks))) (ap (λ x. own_entry place x hats) (sym (same_key text_total text_exact key k at)) ∙ is)
            ∙ ap (λ b. b || list_any (λ (y : List ℕ × QueryableInfoType). bytes_eq y.0 key) (filter_map (keyed_own place hats) ks)) (text_is key k at)
        by false at g more = beside (own_entry place k hats) (more g)

    own_stands : Stands key (own_entries place hats)
    own_stands = by (has_text key (own_keys place hats)) refl
      where
        by : (b : Bool) → has_text key (own_keys place hats) ≡ b → Stands key (own_entries place hats)
        by true e = among (own_keys place hats) e
        by false e = absurd (let gap : None ≡ Some v = sym ((none_owned [] hats e).1 None) ∙ is in cc)

owned_true : (place : ℕ) (hats : List (ℕ × HatState)) (ks : List (List ℕ)) → AllByRecursion (λ (e : List ℕ × QueryableInfoType). Some e.1 ≡ own_entry place e.0 hats) (filter_map (keyed_own place hats) ks)
owned_true place hats [] = tt
owned_true place hats (k ∷ ks) = by (own_entry place k hats) refl (owned_true place hats ks)
  where
    by : (o : Option QueryableInfoType) → own_entry place k hats ≡ o → AllByRecursion (λ (e : List ℕ × QueryableInfoType). Some e.1 ≡ own_entry place e.0 hats) (filter_map (keyed_own place hats) ks)
        → AllByRecursion (λ (e : List ℕ × QueryableInfoType). Some e.1 ≡ own_entry place e.0 hats) (cons_option (option_map (λ (x : QueryableInfoType). (k, x)) o) (filter_map (keyed_own place hats) ks))
    by None e ih = ih
    by (Some x) e ih = (sym e, ih)

-- a region's own entries are of the others
own_beside : (place : ℕ) (key : List ℕ) (v : HatState) (hats : List (ℕ × HatState)) (m : Option QueryableInfoType) → fold (with_other place key) m (set_value (is_at (nat_cmp place)) hats v) ≡ fold (with_other place key) m hats
own_beside place key v [] m = refl
own_beside place key v (e ∷ hats) m = by (is_at (nat_cmp place) e.0) refl (λ x. own_beside place key v hats x)
  where
    by : (b : Bool) → is_at (nat_cmp place) e.0 ≡ b → ((x : Option QueryableInfoType) → fold (with_other place key) x (set_value (is_at (nat_cmp place)) hats v) ≡ fold (with_other place key) x hats)
        → fold (with_other place key) m (cond b ((e.0, v) ∷ hats) (e ∷ set_value (is_at (nat_cmp place)) hats v)) ≡ fold (with_other place key) m (e ∷ hats)
    by true is more =
        let same : (e.0 == place) ≡ true = ap (λ n. n == place) (sym (one_number place e.0 is)) ∙ sym (number_test place place) ∙ itself place in
        (λ j. fold (with_other place key) (cond (same j) m (joined m (region_info key v))) hats) ∙ (λ j. fold (with_other place key) (cond (sym same j) m (joined m (region_info key e.1))) hats)
    by false is more = more (with_other place key m e)

module _ (config : Settings) (s : State) (i : InOrder config s) (z : Region) (net : Network) (fits : refusal_of s.core (networking z net) ≡ None) (j : InOrder config (accepted_state s (networking z net)))
    (first : HatState) (first_at : hat_at z s.core.hats ≡ Some first)
    (r : Region) (face : ℕ) (root : Zid) (key : List ℕ) (h : HatState) (now : hat_at r (accepted s.core (networking z net)).hats ≡ Some h)
    (node : ℕ) (there : place_of h.network root ≡ Some node) (child : list_any (is_face_of face h) (children_of h.network root) ≡ true) (routes : strategy_at h ≡ strategy.Router) where
  abbrev after : List (ℕ × HatState)
  after = (accepted s.core (networking z net)).hats

  abbrev place : ℕ
  place = region_index r

  abbrev pub Truth : TreeTelling → Type 0
  Truth = IsTrue config s i (networking z net) fits j r face root key h now node there child routes

  abbrev pub stands_now : Option QueryableInfoType
  stands_now = stands config s i (networking z net) fits j r face root key h now node there child routes

  abbrev x : HatState
  x = networked net first

  x_at : hat_at z after ≡ Some x
  x_at = hat_here z first (networked net) s.core.hats first_at

  own_same : (text : List ℕ) → own_entry (region_index z) text after ≡ own_entry (region_index z) text s.core.hats
  own_same text = ap (λ o. own_entry (region_index z) text (put_hat z (networked net) s.core.hats o)) first_at ∙ own_beside (region_index z) text x s.core.hats None

  told_is : tree_told s.core (accepted s.core (networking z net)) (networking z net) ≡ placed_told (own_entries (region_index z) s.core.hats) first x
  told_is =
      ap (λ o. option_map_or (λ (old : HatState). option_map_or (placed_told (own_entries (region_index z) s.core.hats) old) (hat_at z after) []) o []) first_at
      ∙ ap (λ o. option_map_or (placed_told (own_entries (region_index z) s.core.hats) first) o []) x_at

  -- what stands of a root in that region
  abbrev Says : Zid → List ℕ → Option QueryableInfoType → Type 0
  Says q text v = v ≡ cond (is_zid q config.zid) (own_entry (region_index z) text after) (entry_of q.0 text x.entries)

  x_own : x.own ≡ config.zid
  x_own = own_id config after j.hats (region_index z) x (region_there z after x x_at).1

  x_worded : IsWorded x
  x_worded = each_found Any IsWorded (is_at (nat_cmp (region_index z))) after x (region_there z after x x_at).1 j.worded

  shown : (q : Zid) (b : Bool) → is_zid q config.zid ≡ b → standing_of (own_entries (region_index z) s.core.hats) q x ≡ cond b (own_entries (region_index z) s.core.hats) (standing q x.entries)
  shown q b e = ap (λ w. cond (is_zid q w) (own_entries (region_index z) s.core.hats) (standing q x.entries)) x_own ∙ ap (λ c. cond c (own_entries (region_index z) s.core.hats) (standing q x.entries)) e

  said_true : (q : Zid) → AllByRecursion (λ (e : List ℕ × QueryableInfoType). Says q e.0 (Some e.1)) (standing_of (own_entries (region_index z) s.core.hats) q x)
  said_true q = by (is_zid q config.zid) refl
    where
      by : (b : Bool) → is_zid q config.zid ≡ b → AllByRecursion (λ (e : List ℕ × QueryableInfoType). Says q e.0 (Some e.1)) (standing_of (own_entries (region_index z) s.core.hats) q x)
      by true e = subst (AllByRecursion (λ (y : List ℕ × QueryableInfoType). Says q y.0 (Some y.1))) (sym (shown q true e))
          (all_weaker _ (λ (y : List ℕ × QueryableInfoType). Says q y.0 (Some y.1))
          (λ y is. is ∙ sym (own_same y.0) ∙ (λ m. cond (sym e m) (own_entry (region_index z) y.0 after) (entry_of q.0 y.0 x.entries)))
          (own_entries (region_index z) s.core.hats) (owned_true (region_index z) s.core.hats (own_keys (region_index z) s.core.hats)))
      by false e = subst (AllByRecursion (λ (y : List ℕ × QueryableInfoType). Says q y.0 (Some y.1))) (sym (shown q false e))
          (all_weaker _ (λ (y : List ℕ × QueryableInfoType). Says q y.0 (Some y.1))
          (λ y is. is ∙ (λ m. cond (sym e m) (own_entry (region_index z) y.0 after) (entry_of q.0 y.0 x.entries)))
          (standing q x.entries) (stands_true q x.entries x_worded.ordered.texts))

  words_true : (ts : List TreeTelling) → AllByRecursion (IsWord Says x) ts → AllByRecursion Truth ts
  words_true ts all =
      all_weaker (IsWord Says x) Truth
      (λ y it is.
      let parts = news_parts face node key y is in
      let home = at_home config s i (networking z net) fits j r face root key h now node there child routes (region_index z) x (region_there z after x x_at).1 (ap (λ n. has_face n x) (sym parts.0) ∙ it.seat) in
      let root_is : it.root ≡ root = one_place h.network it.root root node (ap (λ (w : HatState). place_of w.network it.root) (sym home.1) ∙ it.place ∙ ap Some parts.1) there in
      it.says ∙ (λ m. cond (is_zid (root_is m) config.zid) (own_entry (home.0 m) (parts.2 m) after) (entry_of (root_is m).0 (parts.2 m) (home.1 m).entries)))
      ts all

  -- what the network hands is true
  pub network_true : AllByRecursion Truth (tree_told s.core (accepted s.core (networking z net)) (networking z net))
  network_true = subst (AllByRecursion Truth) (sym told_is) (by (strategy_at x))
    where
      by : (k : Strategy) → AllByRecursion Truth (in_routers k (network_told (own_entries (region_index z) s.core.hats) first.network x) [])
      by strategy.Broker = tt
      by strategy.Client = tt
      by strategy.Peer = tt
      by strategy.Router = words_true _ (trees_are Says (own_entries (region_index z) s.core.hats) first.network x said_true x.network.nodes (named_trees x.network))

  -- entries of the root stay
  pub entries_stay : (was : HatState) → hat_at r s.core.hats ≡ Some was → entry_of root.0 key h.entries ≡ entry_of root.0 key was.entries
  entries_stay was was_at = by (is_at (nat_cmp (region_index z)) place) refl
    where
      here_was : at place s.core.hats ≡ Some was
      here_was = (region_there r s.core.hats was was_at).1

      now_at : at place after ≡ cond (is_at (nat_cmp (region_index z)) place) (Some x) (at place s.core.hats)
      now_at = hat_now z (networked net) s.core.hats first first_at place

      here_now : at place after ≡ Some h
      here_now = (region_there r after h now).1

      by : (b : Bool) → is_at (nat_cmp (region_index z)) place ≡ b → entry_of root.0 key h.entries ≡ entry_of root.0 key was.entries
      by false e =
          let both : Some h ≡ Some was = sym here_now ∙ now_at ∙ ap (λ b. cond b (Some x) (at place s.core.hats)) e ∙ here_was in
          let same : h ≡ was = cc in
          ap (λ (w : HatState). entry_of root.0 key w.entries) same
      by true e =
          let both : Some h ≡ Some x = sym here_now ∙ now_at ∙ ap (λ b. cond b (Some x) (at place s.core.hats)) e in
          let is_x : h ≡ x = cc in
          let olds : Some first ≡ Some was = sym (region_there z s.core.hats first first_at).1 ∙ ap (λ n. at n s.core.hats) (one_number (region_index z) place e) ∙ here_was in
          let is_was : first ≡ was = cc in
          ap (λ (w : HatState). entry_of root.0 key w.entries) is_x
          ∙ kept (strategy_at first) refl (ap (λ (w : HatState). place_of w.network root) (sym is_x) ∙ there)
          ∙ ap (λ (w : HatState). entry_of root.0 key w.entries) is_was
        where
          first_ordered : IsOrderedBy nat_cmp first.entries
          first_ordered = (each_found Any IsWorded (is_at (nat_cmp (region_index z))) s.core.hats first (region_there z s.core.hats first first_at).1 i.worded).ordered

          kept : (k : Strategy) → strategy_at first ≡ k → place_of (in_routers k (record first { network = net; entries = staying (is_listed net) first.entries }) first).network root ≡ Some node
              → entry_of root.0 key (in_routers k (record first { network = net; entries = staying (is_listed net) first.entries }) first).entries ≡ entry_of root.0 key first.entries
          kept strategy.Broker e p = refl
          kept strategy.Client e p = refl
          kept strategy.Peer e p = refl
          kept strategy.Router e p =
              staying_entry (is_listed net) first.entries first_ordered root.0 key
              ∙ ap (λ b. cond b (entry_of root.0 key first.entries) None) (place_listed net root node p)

  -- a face that it makes a child: where nothing on the key is news, nothing stands
  pub made : h ≡ x → place ≡ region_index z → list_any (is_face_of face first) (children_of first.network root) ≡ false
      → list_any (is_news face (Some node) key) (tree_told s.core (accepted s.core (networking z net)) (networking z net)) ≡ false → None ≡ stands_now
  made is_x at_z apart none = by stands_now refl
    where
      faces_by : (k : Strategy) → (in_routers k (record first { network = net; entries = staying (is_listed net) first.entries }) first).faces ≡ first.faces
      faces_by strategy.Broker = refl
      faces_by strategy.Client = refl
      faces_by strategy.Peer = refl
      faces_by strategy.Router = refl

      apart_now : list_any (is_face_of face x) (children_of first.network root) ≡ false
      apart_now = ap (λ (fs : List (ℕ × FaceState)). list_any (λ zid. option_map_or (λ n. n == face) (face_with zid fs) false) (children_of first.network root)) (faces_by (strategy_at first)) ∙ apart

      has : (v : QueryableInfoType) → stands_now ≡ Some v → (b : Bool) → is_zid root config.zid ≡ b → Stands key (standing_of (own_entries (region_index z) s.core.hats) root x)
      has v e true own =
          subst (Stands key) (sym (shown root true own))
          (own_stands (region_index z) key s.core.hats v (sym (own_same key) ∙ ap (λ n. own_entry n key after) (sym at_z) ∙ (λ m. cond (sym own m) (own_entry place key after) (entry_of root.0 key h.entries)) ∙ e))
      has v e false other =
          subst (Stands key) (sym (shown root false other))
          (found_stands key (standing root x.entries) v
          (stands_at root x.entries x_worded.ordered.texts key ∙ ap (λ (w : HatState). entry_of root.0 key w.entries) (sym is_x) ∙ (λ m. cond (sym other m) (own_entry place key after) (entry_of root.0 key h.entries)) ∙ e))

      told : (v : QueryableInfoType) → stands_now ≡ Some v → list_any (is_news face (Some node) key) (tree_told s.core (accepted s.core (networking z net)) (networking z net)) ≡ true
      told v e =
          ap (list_any (is_news face (Some node) key)) told_is
          ∙ ap (λ q. list_any (is_news face (Some node) key) (in_routers q (network_told (own_entries (region_index z) s.core.hats) first.network x) [])) (ap strategy_at (sym is_x) ∙ routes)
          ∙ made_child_told face x (own_entries (region_index z) s.core.hats) first.network root key node (ap (λ (w : HatState). place_of w.network root) (sym is_x) ∙ there) (has v e (is_zid root config.zid) refl) apart_now
          (subst (λ w. list_any (is_face_of face w) (children_of w.network root) ≡ true) is_x child)

      by : (o : Option QueryableInfoType) → stands_now ≡ o → None ≡ stands_now
      by None e = sym e
      by (Some v) e = absurd (true≢false (sym (told v e) ∙ none))
