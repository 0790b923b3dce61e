-- What faces are due to be told along trees moves with its texts.
use Rattle.std.proofs.Common.{◌≡◌, ◌∙◌, refl, sym, ap, ℕ, Bool, true, false, cond, List, [], ◌∷◌, ◌++◌, map, filter, fold, Option, Some, None}
use Rattle.std.specs.Prelude.{◌==◌}
use Rattle.std.specs.BTreeSet.{insert_key}
use Rattle.std.specs.List.{cons_option, filter_map, flat_map}
use Rattle.std.specs.Map.{keys_of}
use Rattle.std.specs.Option.{option_and_then, option_map, option_map_or, option_to_list}
use Rattle.std.specs.Ordering.{match_ordering, nat_cmp, ordering_then}
use Rattle.std.specs.declared.cmp.Ordering.{Ordering}
use Rattle.std.specs.declared.cmp.Ordering.TheVariants.{Less, Equal, Greater}
use Rattle.std.proofs.lemmas.List.{map-append}
use Rattle.zq_message.specs.declared.message.FaceId.{FaceId}
use Rattle.zq_message.specs.declared.message.QueryableInfoType.{QueryableInfoType}
use Rattle.zq_message.specs.declared.message.Region.{Region}
use Rattle.zq_message.specs.declared.message.Zid.{Zid}
use Rattle.zq_message.specs.Region.{region_index}
use Rattle.zq_key.proofs.Naturals.{flat_map-map, fold-map, fold-moved, map-map}
use Rattle.zq_index.specs.Infos.{joined}
use Rattle.zq_index.specs.Texts.{text_cmp}
use Rattle.zq_strategy.specs.declared.network.Network.{Network}
use Rattle.zq_strategy.specs.declared.network.Telling.{Telling as TreeTelling}
use Rattle.zq_strategy.specs.declared.network.Tree.{Tree}
use Rattle.zq_strategy.specs.Nets.{child_ids, children_of, fresh_ids, is_zid, named_trees, place_of}
use Rattle.zq_strategy.specs.Seating.{faces_by}
use Rattle.zq_strategy.specs.Tellings.{all_told_of, in_order, same_infos, telling_cmp, tree_telling}
use Rattle.zq_strategy.specs.declared.types.Declaration.{Declaration}
use Rattle.zq_strategy.specs.declared.types.Strategy.{Strategy}
use Rattle.zq_strategy.specs.declared.types.Strategy.TheVariants as strategy
use Rattle.zq_strategy.specs.Kept.{at_id, declaration_at, declared_keys, faces_info, info, key_of, keys_of_face, region_info, with_declared, with_face, with_key, with_keys}
use Rattle.zq_strategy.specs.Moved.{Keeps, move_declared, move_entry, move_face, move_hat}
use Rattle.zq_strategy.specs.Regions.{in_routers, strategy_at}
use Rattle.zq_strategy.specs.Routers.{face_with, losing, source_at}
use Rattle.zq_strategy.specs.State.{FaceState, HatState}
use Rattle.zq_strategy.specs.Entries.{has_by, is_unlisted, keyed_entry}
use Rattle.zq_strategy.specs.Trees.{network_told, own_told, region_keys, root_told, standing_of, to_children, trees_told}
use Rattle.zq_strategy.proofs.OffersMoved.{key_moved}
use Rattle.zq_strategy.proofs.RoutersMoved.{joined_lists, routers_info_moved, seat_moved}
use Rattle.zq_tables.specs.declared.resolved.Resolved.TheVariants as said
use Rattle.zq_machine.specs.Moved.{move_core, move_region, move_telling, move_text, move_told}
use Rattle.zq_machine.specs.State.{Core, hat_at, hat_of}
use Rattle.zq_machine.specs.TextCalls.{TextCall, closing, declaring, withdrawing, announcing, retracting, networking}
use Rattle.zq_machine.specs.Messages.{TellingBody, from_hat, key_ended, told_or_ended}
use Rattle.zq_machine.specs.Trees.{all_own_told, keyed_own, networked_told, own_entries, own_entry, own_keys, own_told_in, own_told_on, placed_told, router_told, source_told, touched, tree_told, with_other, with_other_keys, withdrawn_key}
use Rattle.zq_machine.proofs.Refused.{HasText}
use Rattle.zq_machine.proofs.HatsMoved.{declaration_found, face_found, hat_found, moved_declaration, moved_face, own_found}
use Rattle.zq_machine.proofs.RoutersMoved.{source_moved}

-- ---- lists
module _ {X Y Z W : Type 0} (g : X → Y) (k : Z → W) (f : Y → Option W) (h : X → Option Z) (same : (x : X) → f (g x) ≡ option_map k (h x)) where
  filtered : (xs : List X) → filter_map f (map g xs) ≡ map k (filter_map h xs)
  filtered [] = refl
  filtered (x ∷ xs) = ap (λ o. cons_option o (filter_map f (map g xs))) (same x) ∙ by (h x) (filtered xs)
    where
      by : (o : Option Z) → filter_map f (map g xs) ≡ map k (filter_map h xs) → cons_option (option_map k o) (filter_map f (map g xs)) ≡ map k (cons_option o (filter_map h xs))
      by None ih = ih
      by (Some z) ih = ap (λ l. k z ∷ l) ih

module _ (φ : List ℕ → List ℕ) (keeps : Keeps φ) where
  -- a telling along a tree with its key moved
  abbrev pub move_tree : TreeTelling → TreeTelling
  move_tree t = record t { key = φ t.key }

  abbrev move_hats : List (ℕ × HatState) → List (ℕ × HatState)
  move_hats hats = map (move_region φ) hats

  abbrev move_info : List ℕ × QueryableInfoType → List ℕ × QueryableInfoType
  move_info e = (φ e.0, e.1)

  -- ---- order
  order_by : (t x : TreeTelling) (xs : List TreeTelling) (r : Ordering) → insert_key telling_cmp (map move_tree xs) (move_tree t) ≡ map move_tree (insert_key telling_cmp xs t)
      → match_ordering r (move_tree t ∷ move_tree x ∷ map move_tree xs) (move_tree x ∷ map move_tree xs) (move_tree x ∷ insert_key telling_cmp (map move_tree xs) (move_tree t)) ≡ map move_tree (match_ordering r (t ∷ x ∷ xs) (x ∷ xs) (x ∷ insert_key telling_cmp xs t))
  order_by t x xs Less ih = refl
  order_by t x xs Equal ih = refl
  order_by t x xs Greater ih = ap (λ l. move_tree x ∷ l) ih

  put_moved : (xs : List TreeTelling) (t : TreeTelling) → insert_key telling_cmp (map move_tree xs) (move_tree t) ≡ map move_tree (insert_key telling_cmp xs t)
  put_moved [] t = refl
  put_moved (x ∷ xs) t =
      ap (λ r. match_ordering (ordering_then (nat_cmp t.face.0 x.face.0) (ordering_then r (nat_cmp t.node x.node)))
      (move_tree t ∷ move_tree x ∷ map move_tree xs) (move_tree x ∷ map move_tree xs) (move_tree x ∷ insert_key telling_cmp (map move_tree xs) (move_tree t))) (keeps.order t.key x.key)
      ∙ order_by t x xs (telling_cmp t x) (put_moved xs t)

  pub ordered_moved : (ts : List TreeTelling) → in_order (map move_tree ts) ≡ map move_tree (in_order ts)
  ordered_moved ts = fold-moved move_tree (map move_tree) (insert_key telling_cmp) (insert_key telling_cmp) put_moved [] ts

  ending_moved : (id : ℕ) (key : List ℕ) (b : Bool) → ◌≡◌ {A = TellingBody} (key_ended id (cond b (Some (φ key)) None)) (move_told φ (key_ended id (cond b (Some key) None)))
  ending_moved id key true = refl
  ending_moved id key false = refl

  body_moved : (id : ℕ) (key : List ℕ) (i : Option QueryableInfoType) → told_or_ended id (φ key) i ≡ move_told φ (told_or_ended id key i)
  body_moved id key None = ending_moved id key (id == 0)
  body_moved id key (Some i) = refl

  pub from_moved : (ts : List TreeTelling) → map from_hat (map move_tree ts) ≡ map (move_telling φ) (map from_hat ts)
  from_moved ts =
      map-map move_tree from_hat (λ t. move_telling φ (from_hat t)) (λ t. ap (λ b. record (from_hat t) { body = b }) (body_moved t.id t.key t.info)) ts
      ∙ sym (map-map from_hat (move_telling φ) (λ t. move_telling φ (from_hat t)) (λ t. refl) ts)

  -- ---- children of a root
  children_moved : (from : Option ℕ) (root : Zid) (key : List ℕ) (i : Option QueryableInfoType) (h : HatState) → to_children from root (φ key) i (move_hat φ h) ≡ map move_tree (to_children from root key i h)
  children_moved from root key i h =
      (λ j. option_map_or (λ node. map (tree_telling (φ key) i node) (faces_by from (λ zid. seat_moved φ zid h.faces j) (children_of h.network root))) (place_of h.network root) [])
      ∙ by (place_of h.network root)
    where
      ns : List ℕ
      ns = faces_by from (λ zid. face_with zid h.faces) (children_of h.network root)

      by : (o : Option ℕ) → option_map_or (λ node. map (tree_telling (φ key) i node) ns) o [] ≡ map move_tree (option_map_or (λ node. map (tree_telling key i node) ns) o [])
      by None = refl
      by (Some node) = sym (map-map (tree_telling key i node) move_tree (tree_telling (φ key) i node) (λ n. refl) ns)

  own_change_moved : (key : List ℕ) (was is : Option QueryableInfoType) (h : HatState) → own_told (φ key) was is (move_hat φ h) ≡ map move_tree (own_told key was is h)
  own_change_moved key was is h = by (same_infos was is)
    where
      by : (b : Bool) → cond b [] (to_children None h.own (φ key) is (move_hat φ h)) ≡ map move_tree (cond b [] (to_children None h.own key is h))
      by true = refl
      by false = children_moved None h.own key is h

  -- ---- own entries
  pub face_info_moved : (key : List ℕ) (f : ℕ × FaceState) → info (φ key) (move_face φ f).1 ≡ info key f.1
  face_info_moved key f = fold-map (move_declared φ) (with_declared (φ key)) (with_declared key) (λ m d. ap (λ b. cond b (joined m (Some d.1.info)) m) (keeps.same d.1.key key)) None f.1.declared

  faces_info_moved : (key : List ℕ) (fs : List (ℕ × FaceState)) → faces_info (φ key) (map (move_face φ) fs) ≡ faces_info key fs
  faces_info_moved key fs = fold-map (move_face φ) (with_face (φ key)) (with_face key) (λ m f. ap (joined m) (face_info_moved key f)) None fs

  region_info_moved : (key : List ℕ) (h : HatState) → region_info (φ key) (move_hat φ h) ≡ region_info key h
  region_info_moved key h = λ j. in_routers (strategy_at h) (routers_info_moved φ keeps key h j) (faces_info_moved key h.faces j)

  pub own_entry_moved : (place : ℕ) (key : List ℕ) (hats : List (ℕ × HatState)) → own_entry place (φ key) (move_hats hats) ≡ own_entry place key hats
  own_entry_moved place key hats = fold-map (move_region φ) (with_other place (φ key)) (with_other place key) (λ m h. ap (λ i. cond (h.0 == place) m (joined m i)) (region_info_moved key h.1)) None hats

  face_keys_moved : (ks : List (List ℕ)) (f : ℕ × FaceState) → with_keys (map φ ks) (move_face φ f) ≡ map φ (with_keys ks f)
  face_keys_moved ks f = fold-moved (move_declared φ) (map φ) with_key with_key (λ l d. key_moved φ keeps l d.1.key) ks f.1.declared

  entry_keys_moved : (es : List (List ℕ × List (ℕ × QueryableInfoType))) → keys_of (map (move_entry φ) es) ≡ map φ (keys_of es)
  entry_keys_moved [] = refl
  entry_keys_moved (e ∷ es) = ap (λ l. φ e.0 ∷ l) (entry_keys_moved es)

  pub region_keys_moved : (h : HatState) → region_keys (move_hat φ h) ≡ map φ (region_keys h)
  region_keys_moved h = by (strategy_at h)
    where
      by : (k : Strategy) → in_routers k (keys_of (map (move_entry φ) h.entries)) (declared_keys (map (move_face φ) h.faces)) ≡ map φ (in_routers k (keys_of h.entries) (declared_keys h.faces))
      by strategy.Broker = fold-moved (move_face φ) (map φ) with_keys with_keys face_keys_moved [] h.faces
      by strategy.Client = fold-moved (move_face φ) (map φ) with_keys with_keys face_keys_moved [] h.faces
      by strategy.Peer = fold-moved (move_face φ) (map φ) with_keys with_keys face_keys_moved [] h.faces
      by strategy.Router = entry_keys_moved h.entries

  other_keys_moved : (place : ℕ) (ks : List (List ℕ)) (h : ℕ × HatState) → with_other_keys place (map φ ks) (move_region φ h) ≡ map φ (with_other_keys place ks h)
  other_keys_moved place ks h = by (h.0 == place)
    where
      by : (b : Bool) → cond b (map φ ks) (fold (insert_key text_cmp) (map φ ks) (region_keys (move_hat φ h.1))) ≡ map φ (cond b ks (fold (insert_key text_cmp) ks (region_keys h.1)))
      by true = refl
      by false =
          ap (fold (insert_key text_cmp) (map φ ks)) (region_keys_moved h.1)
          ∙ fold-moved φ (map φ) (insert_key text_cmp) (insert_key text_cmp) (key_moved φ keeps) ks (region_keys h.1)

  own_keys_moved : (place : ℕ) (hats : List (ℕ × HatState)) → own_keys place (move_hats hats) ≡ map φ (own_keys place hats)
  own_keys_moved place hats = fold-moved (move_region φ) (map φ) (with_other_keys place) (with_other_keys place) (other_keys_moved place) [] hats

  keyed_own_moved : (place : ℕ) (hats : List (ℕ × HatState)) (key : List ℕ) → keyed_own place (move_hats hats) (φ key) ≡ option_map move_info (keyed_own place hats key)
  keyed_own_moved place hats key = ap (option_map (λ (i : QueryableInfoType). (φ key, i))) (own_entry_moved place key hats) ∙ by (own_entry place key hats)
    where
      by : (o : Option QueryableInfoType) → option_map (λ (i : QueryableInfoType). (φ key, i)) o ≡ option_map move_info (option_map (λ (i : QueryableInfoType). (key, i)) o)
      by None = refl
      by (Some i) = refl

  own_entries_moved : (place : ℕ) (hats : List (ℕ × HatState)) → own_entries place (move_hats hats) ≡ map move_info (own_entries place hats)
  own_entries_moved place hats =
      ap (filter_map (keyed_own place (move_hats hats))) (own_keys_moved place hats)
      ∙ filtered φ move_info (keyed_own place (move_hats hats)) (keyed_own place hats) (keyed_own_moved place hats) (own_keys place hats)

  -- ---- a network
  keyed_entry_moved : (root : Zid) (e : List ℕ × List (ℕ × QueryableInfoType)) → keyed_entry root (move_entry φ e) ≡ option_map move_info (keyed_entry root e)
  keyed_entry_moved root e = by (at_id root.0 e.1)
    where
      by : (o : Option QueryableInfoType) → option_map (λ (i : QueryableInfoType). (φ e.0, i)) o ≡ option_map move_info (option_map (λ (i : QueryableInfoType). (e.0, i)) o)
      by None = refl
      by (Some i) = refl

  standing_moved : (own : List (List ℕ × QueryableInfoType)) (root : Zid) (h : HatState) → standing_of (map move_info own) root (move_hat φ h) ≡ map move_info (standing_of own root h)
  standing_moved own root h = by (is_zid root h.own)
    where
      by : (b : Bool) → cond b (map move_info own) (filter_map (keyed_entry root) (map (move_entry φ) h.entries)) ≡ map move_info (cond b own (filter_map (keyed_entry root) h.entries))
      by true = refl
      by false = filtered (move_entry φ) move_info (keyed_entry root) (keyed_entry root) (keyed_entry_moved root) h.entries

  told_all_moved : (es : List (List ℕ × QueryableInfoType)) (node n : ℕ) → all_told_of (map move_info es) node n ≡ map move_tree (all_told_of es node n)
  told_all_moved es node n =
      map-map move_info (λ (e : List ℕ × QueryableInfoType). tree_telling e.0 (Some e.1) node n) (λ (e : List ℕ × QueryableInfoType). tree_telling (φ e.0) (Some e.1) node n) (λ e. refl) es
      ∙ sym (map-map (λ (e : List ℕ × QueryableInfoType). tree_telling e.0 (Some e.1) node n) move_tree (λ (e : List ℕ × QueryableInfoType). tree_telling (φ e.0) (Some e.1) node n) (λ e. refl) es)

  root_moved : (own : List (List ℕ × QueryableInfoType)) (old : Network) (h : HatState) (root : Zid) (tree : Tree) → root_told (map move_info own) old (move_hat φ h) root tree ≡ map move_tree (root_told own old h root tree)
  root_moved own old h root tree =
      (λ j. option_map_or (λ node. flat_map (all_told_of (standing_moved own root h j) node) (faces_by None (λ zid. seat_moved φ zid h.faces j) (fresh_ids old root (child_ids h.network tree)))) (place_of h.network root) [])
      ∙ by (place_of h.network root)
    where
      ns : List ℕ
      ns = faces_by None (λ zid. face_with zid h.faces) (fresh_ids old root (child_ids h.network tree))

      by : (o : Option ℕ) → option_map_or (λ node. flat_map (all_told_of (map move_info (standing_of own root h)) node) ns) o [] ≡ map move_tree (option_map_or (λ node. flat_map (all_told_of (standing_of own root h) node) ns) o [])
      by None = refl
      by (Some node) = joined_lists move_tree (all_told_of (map move_info (standing_of own root h)) node) (all_told_of (standing_of own root h) node) (told_all_moved (standing_of own root h) node) ns

  trees_moved : (own : List (List ℕ × QueryableInfoType)) (old : Network) (h : HatState) (zs : List Zid) (ts : List Tree) → trees_told (map move_info own) old (move_hat φ h) zs ts ≡ map move_tree (trees_told own old h zs ts)
  trees_moved own old h [] ts = refl
  trees_moved own old h (z ∷ zs) [] = refl
  trees_moved own old h (z ∷ zs) (t ∷ ts) = (λ j. root_moved own old h z t j ++ trees_moved own old h zs ts j) ∙ sym (map-append move_tree (root_told own old h z t) (trees_told own old h zs ts))

  placed_moved : (own : List (List ℕ × QueryableInfoType)) (old h : HatState) → placed_told (map move_info own) (move_hat φ old) (move_hat φ h) ≡ map move_tree (placed_told own old h)
  placed_moved own old h = by (strategy_at h)
    where
      by : (k : Strategy) → in_routers k (network_told (map move_info own) old.network (move_hat φ h)) [] ≡ map move_tree (in_routers k (network_told own old.network h) [])
      by strategy.Broker = refl
      by strategy.Client = refl
      by strategy.Peer = refl
      by strategy.Router = trees_moved own old.network h h.network.nodes (named_trees h.network)

  networked_told_moved : (r : Region) (before after : List (ℕ × HatState)) → networked_told r (move_hats before) (move_hats after) ≡ map move_tree (networked_told r before after)
  networked_told_moved r before after =
      (λ j. option_map_or (λ (old : HatState). option_map_or (placed_told (own_entries_moved (region_index r) before j) old) (hat_found φ after r j) []) (hat_found φ before r j) [])
      ∙ by (hat_at r before) (hat_at r after)
    where
      own : List (List ℕ × QueryableInfoType)
      own = own_entries (region_index r) before

      by : (x y : Option HatState) → option_map_or (λ (old : HatState). option_map_or (placed_told (map move_info own) old) (option_map (move_hat φ) y) []) (option_map (move_hat φ) x) [] ≡ map move_tree (option_map_or (λ (old : HatState). option_map_or (placed_told own old) y []) x [])
      by None y = refl
      by (Some old) None = refl
      by (Some old) (Some h) = placed_moved own old h

  -- ---- a router's entry
  source_told_moved : (face : FaceId) (node : ℕ) (key : List ℕ) (i : Option QueryableInfoType) (h : HatState) → source_told face node (φ key) i (move_hat φ h) ≡ map move_tree (source_told face node key i h)
  source_told_moved face node key i h =
      ap (λ o. option_map_or (λ (z : Zid). to_children (Some face.0) z (φ key) i (move_hat φ h)) o []) (source_moved φ face.0 node h) ∙ by (source_at face.0 node h)
    where
      by : (o : Option Zid) → option_map_or (λ (z : Zid). to_children (Some face.0) z (φ key) i (move_hat φ h)) o [] ≡ map move_tree (option_map_or (λ (z : Zid). to_children (Some face.0) z key i h) o [])
      by None = refl
      by (Some z) = children_moved (Some face.0) z key i h

  router_told_moved : (face : FaceId) (node : ℕ) (key : List ℕ) (i : Option QueryableInfoType) (c : Core) → router_told face node (φ key) i (move_core φ c) ≡ map move_tree (router_told face node key i c)
  router_told_moved face node key i c = ap (λ o. option_map_or (source_told face node (φ key) i) o []) (own_found φ c face.0) ∙ by (hat_of face.0 c)
    where
      by : (o : Option HatState) → option_map_or (source_told face node (φ key) i) (option_map (move_hat φ) o) [] ≡ map move_tree (option_map_or (source_told face node key i) o [])
      by None = refl
      by (Some h) = source_told_moved face node key i h

  -- ---- changes of own entries
  own_in_moved : (before after : List (ℕ × HatState)) (key : List ℕ) (h : ℕ × HatState) → own_told_in (move_hats before) (move_hats after) (φ key) (move_region φ h) ≡ map move_tree (own_told_in before after key h)
  own_in_moved before after key h =
      (λ j. in_routers (strategy_at h.1) (own_told (φ key) (own_entry_moved h.0 key before j) (own_entry_moved h.0 key after j) (move_hat φ h.1)) []) ∙ by (strategy_at h.1)
    where
      by : (k : Strategy) → in_routers k (own_told (φ key) (own_entry h.0 key before) (own_entry h.0 key after) (move_hat φ h.1)) [] ≡ map move_tree (in_routers k (own_told key (own_entry h.0 key before) (own_entry h.0 key after) h.1) [])
      by strategy.Broker = refl
      by strategy.Client = refl
      by strategy.Peer = refl
      by strategy.Router = own_change_moved key (own_entry h.0 key before) (own_entry h.0 key after) h.1

  own_all_moved : (before after : List (ℕ × HatState)) (keys : List (List ℕ)) → all_own_told (move_hats before) (move_hats after) (map φ keys) ≡ map move_tree (all_own_told before after keys)
  own_all_moved before after keys =
      flat_map-map φ move_tree (own_told_on (move_hats before) (move_hats after)) (own_told_on before after)
      (λ key. flat_map-map (move_region φ) move_tree (own_told_in (move_hats before) (move_hats after) (φ key)) (own_told_in before after key) (own_in_moved before after key) after) keys

  -- ---- keys that are touched
  losing_moved : (net : Network) (es : List (List ℕ × List (ℕ × QueryableInfoType))) → keys_of (filter (has_by (is_unlisted net)) (map (move_entry φ) es)) ≡ map φ (keys_of (filter (has_by (is_unlisted net)) es))
  losing_moved net [] = refl
  losing_moved net (e ∷ es) = by (has_by (is_unlisted net) e) (losing_moved net es)
    where
      by : (b : Bool) → keys_of (filter (has_by (is_unlisted net)) (map (move_entry φ) es)) ≡ map φ (keys_of (filter (has_by (is_unlisted net)) es))
          → keys_of (cond b (move_entry φ e ∷ filter (has_by (is_unlisted net)) (map (move_entry φ) es)) (filter (has_by (is_unlisted net)) (map (move_entry φ) es))) ≡ map φ (keys_of (cond b (e ∷ filter (has_by (is_unlisted net)) es) (filter (has_by (is_unlisted net)) es)))
      by true ih = ap (λ l. φ e.0 ∷ l) ih
      by false ih = ih

  module _ (c : Core) where
    closed_keys : (face : FaceId) → option_map_or (keys_of_face face.0) (hat_of face.0 (move_core φ c)) [] ≡ map φ (option_map_or (keys_of_face face.0) (hat_of face.0 c) [])
    closed_keys face = ap (λ o. option_map_or (keys_of_face face.0) o []) (own_found φ c face.0) ∙ by (hat_of face.0 c)
      where
        by_face : (o : Option FaceState) → option_map_or (λ (f : FaceState). map key_of f.declared) (option_map (moved_face φ) o) [] ≡ map φ (option_map_or (λ (f : FaceState). map key_of f.declared) o [])
        by_face None = refl
        by_face (Some f) = map-map (move_declared φ) key_of (λ d. φ (key_of d)) (λ d. refl) f.declared ∙ sym (map-map key_of φ (λ d. φ (key_of d)) (λ d. refl) f.declared)

        by : (o : Option HatState) → option_map_or (keys_of_face face.0) (option_map (move_hat φ) o) [] ≡ map φ (option_map_or (keys_of_face face.0) o [])
        by None = refl
        by (Some h) = ap (λ o. option_map_or (λ (f : FaceState). map key_of f.declared) o []) (face_found φ face.0 h) ∙ by_face (at_id face.0 h.faces)

    withdrawn_keys : (face : FaceId) (id : ℕ) → withdrawn_key face id (move_core φ c) ≡ map φ (withdrawn_key face id c)
    withdrawn_keys face id = ap (λ o. option_to_list (option_map (λ (d : Declaration). d.key) (option_and_then (declaration_at face.0 id) o))) (own_found φ c face.0) ∙ by (hat_of face.0 c)
      where
        by_id : (o : Option Declaration) → option_to_list (option_map (λ (d : Declaration). d.key) (option_map (moved_declaration φ) o)) ≡ map φ (option_to_list (option_map (λ (d : Declaration). d.key) o))
        by_id None = refl
        by_id (Some d) = refl

        by : (o : Option HatState) → option_to_list (option_map (λ (d : Declaration). d.key) (option_and_then (declaration_at face.0 id) (option_map (move_hat φ) o))) ≡ map φ (option_to_list (option_map (λ (d : Declaration). d.key) (option_and_then (declaration_at face.0 id) o)))
        by None = refl
        by (Some h) = ap (λ o. option_to_list (option_map (λ (d : Declaration). d.key) o)) (declaration_found φ face.0 id h) ∙ by_id (declaration_at face.0 id h)

    lost_keys : (r : Region) (net : Network) → option_map_or (losing net) (hat_at r (move_hats c.hats)) [] ≡ map φ (option_map_or (losing net) (hat_at r c.hats) [])
    lost_keys r net = ap (λ o. option_map_or (losing net) o []) (hat_found φ c.hats r) ∙ by (hat_at r c.hats)
      where
        by : (o : Option HatState) → option_map_or (losing net) (option_map (move_hat φ) o) [] ≡ map φ (option_map_or (losing net) o [])
        by None = refl
        by (Some h) = losing_moved net h.entries

    pub touched_moved : (t : TextCall) → HasText t → touched (move_core φ c) (move_text φ t) ≡ map φ (touched c t)
    touched_moved (closing face) e = closed_keys face
    touched_moved (declaring face id said.Unscoped info node) e = absurd e
    touched_moved (declaring face id said.Empty info node) e = absurd e
    touched_moved (declaring face id (said.Full text) info node) e = refl
    touched_moved (withdrawing face id) e = withdrawn_keys face id
    touched_moved (announcing face said.Unscoped info node) e = absurd e
    touched_moved (announcing face said.Empty info node) e = absurd e
    touched_moved (announcing face (said.Full text) info node) e = refl
    touched_moved (retracting face said.Unscoped node) e = absurd e
    touched_moved (retracting face said.Empty node) e = absurd e
    touched_moved (retracting face (said.Full text) node) e = refl
    touched_moved (networking r net) e = lost_keys r net
    touched_moved t e = refl

    tree_moved : (d : Core) (t : TextCall) → HasText t → tree_told (move_core φ c) (move_core φ d) (move_text φ t) ≡ map move_tree (tree_told c d t)
    tree_moved d (announcing face said.Unscoped info node) e = absurd e
    tree_moved d (announcing face said.Empty info node) e = absurd e
    tree_moved d (announcing face (said.Full text) info node) e = router_told_moved face node text (Some info) c
    tree_moved d (retracting face said.Unscoped node) e = absurd e
    tree_moved d (retracting face said.Empty node) e = absurd e
    tree_moved d (retracting face (said.Full text) node) e = router_told_moved face node text None c
    tree_moved d (networking r net) e = networked_told_moved r c.hats d.hats
    tree_moved d t e = refl

    -- all that is told along trees
    pub all_trees_moved : (d : Core) (t : TextCall) → HasText t
        → tree_told (move_core φ c) (move_core φ d) (move_text φ t) ++ all_own_told (move_hats c.hats) (move_hats d.hats) (touched (move_core φ c) (move_text φ t)) ≡ map move_tree (tree_told c d t ++ all_own_told c.hats d.hats (touched c t))
    all_trees_moved d t e =
        (λ j. tree_moved d t e j ++ (ap (all_own_told (move_hats c.hats) (move_hats d.hats)) (touched_moved t e) ∙ own_all_moved c.hats d.hats (touched c t)) j)
        ∙ sym (map-append move_tree (tree_told c d t) (all_own_told c.hats d.hats (touched c t)))
