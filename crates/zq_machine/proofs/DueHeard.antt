-- What faces are told along trees can be told: the faces are open, and no key is an empty text.
use Rattle.std.proofs.Common.{◌≡◌, ◌∙◌, refl, ap, subst, ℕ, Bool, true, false, cond, List, [], ◌∷◌, ◌++◌, map, filter, fold, Option, Some, None}
use Rattle.std.specs.Prelude.{◌==◌, find}
use Rattle.std.specs.BTreeMap.{is_at}
use Rattle.std.specs.BTreeSet.{insert_key}
use Rattle.std.specs.List.{AllByRecursion, cons_option, filter_map, flat_map}
use Rattle.std.specs.Map.{keys_of}
use Rattle.std.specs.Option.{is_some, option_and_then, option_map, option_map_or, option_to_list}
use Rattle.std.specs.Ordering.{match_ordering, nat_cmp}
use Rattle.std.specs.declared.cmp.Ordering.{Ordering}
use Rattle.std.specs.declared.cmp.Ordering.TheVariants.{Less, Equal, Greater}
use Rattle.std.proofs.lemmas.Option.{same_Some}
use Rattle.zq_message.specs.declared.message.FaceId.{FaceId}
use Rattle.zq_message.specs.declared.message.QueryableInfoType.{QueryableInfoType}
use Rattle.zq_message.specs.declared.message.Region.{Region}
use Rattle.zq_message.specs.declared.message.Zid.{Zid}
use Rattle.zq_message.specs.Region.{region_index}
use Rattle.zq_strategy.specs.declared.network.Network.{Network}
use Rattle.zq_strategy.specs.declared.network.Telling.{Telling as TreeTelling}
use Rattle.zq_strategy.specs.declared.network.Tree.{Tree}
use Rattle.zq_strategy.specs.Nets.{child_ids, children_of, fresh_ids, is_zid, named_trees, place_of}
use Rattle.zq_strategy.specs.Seating.{faces_by, is_other}
use Rattle.zq_strategy.specs.Tellings.{all_told_of, same_infos, telling_cmp, tree_telling}
use Rattle.zq_index.specs.Texts.{text_cmp}
use Rattle.zq_strategy.specs.declared.types.Declaration.{Declaration}
use Rattle.zq_strategy.specs.declared.types.Strategy.{Strategy}
use Rattle.zq_strategy.specs.declared.types.Strategy.TheVariants as strategy
use Rattle.zq_strategy.specs.Kept.{at_id, declaration_at, declared_keys, face_at, has_face, key_of, keys_of_face, with_key, with_keys}
use Rattle.zq_strategy.specs.Regions.{in_routers, strategy_at}
use Rattle.zq_strategy.specs.Routers.{face_with, has_zid, losing, source_at}
use Rattle.zq_strategy.specs.State.{FaceState, HatState}
use Rattle.zq_strategy.specs.Entries.{has_by, is_unlisted, keyed_entry}
use Rattle.zq_strategy.specs.Trees.{network_told, own_told, region_keys, root_told, standing_of, to_children, trees_told}
use Rattle.zq_tables.specs.Naming.{NamingState, naming_at}
use Rattle.zq_machine.specs.declared.face.OpenFace.{OpenFace}
use Rattle.zq_machine.specs.Configs.{Settings}
use Rattle.zq_machine.specs.Deciding.{accepted, causes, refusal_of, renamed}
use Rattle.zq_machine.specs.Hearing.{CanBeTold, hear, tells_text}
use Rattle.zq_machine.specs.Machine.{accepted_state}
use Rattle.zq_machine.specs.Selecting.{full_text}
use Rattle.zq_machine.specs.State.{Core, State, at, hat_at, hat_of}
use Rattle.zq_machine.specs.TextCalls.{TextCall, closing, declaring, withdrawing, announcing, retracting, networking}
use Rattle.zq_machine.specs.Trees.{all_own_told, keyed_own, networked_told, own_entries, own_entry, own_keys, own_told_in, own_told_on, placed_told, router_told, source_told, touched, tree_told, with_other_keys}
use Rattle.zq_machine.specs.Handing.{Handed}
use Rattle.zq_machine.specs.Messages.{TextMessage, from_hat, key_ended, told_or_ended, text_final, text_reply, text_request}
use Rattle.zq_machine.specs.Writing.{write}
use Rattle.zq_machine.proofs.Agreed.{InOrder}
use Rattle.zq_machine.proofs.Changing.{itself, region_there}
use Rattle.zq_machine.proofs.Granted.{all_passed}
use Rattle.zq_machine.proofs.Lists.{all_append, all_filter, all_mapped, all_weaker}
use Rattle.zq_machine.proofs.Targets.{all_hats_open}
use Rattle.zq_machine.proofs.Worded.{Any, Each, IsKey, IsUsed, IsWorded, WordedFace, each_found, key_text, said_key}

-- ---- keys
all_put : {K : Type 0} (T : K → Type 0) (cmp : K → K → Ordering) (ks : List K) (k : K) → AllByRecursion T ks → T k → AllByRecursion T (insert_key cmp ks k)
all_put T cmp [] k all it = (it, tt)
all_put T cmp (x ∷ ks) k all it = by (cmp k x) (all_put T cmp ks k all.1 it)
  where
    by : (r : Ordering) → AllByRecursion T (insert_key cmp ks k) → AllByRecursion T (match_ordering r (k ∷ x ∷ ks) (x ∷ ks) (x ∷ insert_key cmp ks k))
    by Less ih = (it, all)
    by Equal ih = all
    by Greater ih = (all.0, ih)

-- what holds of tellings holds of them in order
pub all_ordered : (P : TreeTelling → Type 0) (ts us : List TreeTelling) → AllByRecursion P ts → AllByRecursion P us → AllByRecursion P (fold (insert_key telling_cmp) ts us)
all_ordered P ts [] all more = all
all_ordered P ts (u ∷ us) all more = all_ordered P (insert_key telling_cmp ts u) us (all_put P telling_cmp ts u all more.0) more.1

abbrev pub AreTexts : List (List ℕ) → Type 0
AreTexts ks = AllByRecursion IsKey ks

pub texts_put : (ks more : List (List ℕ)) → AreTexts ks → AreTexts more → AreTexts (fold (insert_key text_cmp) ks more)
texts_put ks [] all rest = all
texts_put ks (k ∷ more) all rest = texts_put (insert_key text_cmp ks k) more (all_put IsKey text_cmp ks k all rest.0) rest.1

face_texts : (ks : List (List ℕ)) (ds : List (ℕ × Declaration)) → AreTexts ks → Each Any (λ (d : Declaration). IsKey d.key) ds → AreTexts (fold with_key ks ds)
face_texts ks [] all w = all
face_texts ks (d ∷ ds) all w = face_texts (insert_key text_cmp ks d.1.key) ds (all_put IsKey text_cmp ks d.1.key all w.0.1) w.1

faces_texts : (ks : List (List ℕ)) (fs : List (ℕ × FaceState)) → AreTexts ks → Each Any WordedFace fs → AreTexts (fold with_keys ks fs)
faces_texts ks [] all w = all
faces_texts ks (f ∷ fs) all w = faces_texts (with_keys ks f) fs (face_texts ks f.1.declared all w.0.1) w.1

entry_texts : (es : List (List ℕ × List (ℕ × QueryableInfoType))) → Each IsKey IsUsed es → AreTexts (keys_of es)
entry_texts [] w = tt
entry_texts (e ∷ es) w = (w.0.0, entry_texts es w.1)

pub region_texts : (h : HatState) → IsWorded h → AreTexts (region_keys h)
region_texts h w = by (strategy_at h)
  where
    by : (k : Strategy) → AreTexts (in_routers k (keys_of h.entries) (declared_keys h.faces))
    by strategy.Broker = faces_texts [] h.faces tt w.faces
    by strategy.Client = faces_texts [] h.faces tt w.faces
    by strategy.Peer = faces_texts [] h.faces tt w.faces
    by strategy.Router = entry_texts h.entries w.entries

own_texts : (place : ℕ) (ks : List (List ℕ)) (hats : List (ℕ × HatState)) → AreTexts ks → Each Any IsWorded hats → AreTexts (fold (with_other_keys place) ks hats)
own_texts place ks [] all w = all
own_texts place ks (h ∷ hats) all w = own_texts place (with_other_keys place ks h) hats (by (h.0 == place)) w.1
  where
    by : (b : Bool) → AreTexts (cond b ks (fold (insert_key text_cmp) ks (region_keys h.1)))
    by true = all
    by false = texts_put ks (region_keys h.1) all (region_texts h.1 w.0.1)

abbrev AreKeyed : List (List ℕ × QueryableInfoType) → Type 0
AreKeyed es = AllByRecursion (λ (e : List ℕ × QueryableInfoType). IsKey e.0) es

own_keyed : (place : ℕ) (hats : List (ℕ × HatState)) (ks : List (List ℕ)) → AreTexts ks → AreKeyed (filter_map (keyed_own place hats) ks)
own_keyed place hats [] all = tt
own_keyed place hats (k ∷ ks) all = by (own_entry place k hats) (own_keyed place hats ks all.1)
  where
    by : (o : Option QueryableInfoType) → AreKeyed (filter_map (keyed_own place hats) ks) → AreKeyed (cons_option (option_map (λ (i : QueryableInfoType). (k, i)) o) (filter_map (keyed_own place hats) ks))
    by None ih = ih
    by (Some i) ih = (all.0, ih)

pub own_entries_keyed : (place : ℕ) (hats : List (ℕ × HatState)) → Each Any IsWorded hats → AreKeyed (own_entries place hats)
own_entries_keyed place hats w = own_keyed place hats (own_keys place hats) (own_texts place [] hats tt w)

keyed_entries : (root : Zid) (es : List (List ℕ × List (ℕ × QueryableInfoType))) → Each IsKey IsUsed es → AreKeyed (filter_map (keyed_entry root) es)
keyed_entries root [] w = tt
keyed_entries root (e ∷ es) w = by (at_id root.0 e.1) (keyed_entries root es w.1)
  where
    by : (o : Option QueryableInfoType) → AreKeyed (filter_map (keyed_entry root) es) → AreKeyed (cons_option (option_map (λ (i : QueryableInfoType). (e.0, i)) o) (filter_map (keyed_entry root) es))
    by None ih = ih
    by (Some i) ih = (w.0.0, ih)

standing_keyed : (own : List (List ℕ × QueryableInfoType)) (root : Zid) (h : HatState) → AreKeyed own → IsWorded h → AreKeyed (standing_of own root h)
standing_keyed own root h keyed w = by (is_zid root h.own)
  where
    by : (b : Bool) → AreKeyed (cond b own (filter_map (keyed_entry root) h.entries))
    by true = keyed
    by false = keyed_entries root h.entries w.entries

losing_texts : (net : Network) (es : List (List ℕ × List (ℕ × QueryableInfoType))) → Each IsKey IsUsed es → AreTexts (keys_of (filter (has_by (is_unlisted net)) es))
losing_texts net [] w = tt
losing_texts net (e ∷ es) w = by (has_by (is_unlisted net) e) (losing_texts net es w.1)
  where
    by : (b : Bool) → AreTexts (keys_of (filter (has_by (is_unlisted net)) es)) → AreTexts (keys_of (cond b (e ∷ filter (has_by (is_unlisted net)) es) (filter (has_by (is_unlisted net)) es)))
    by true ih = (w.0.0, ih)
    by false ih = ih

-- ---- faces of a hat
pub seat_there : (zid : Zid) (n : ℕ) (fs : List (ℕ × FaceState)) → face_with zid fs ≡ Some n → is_some (at_id n fs) ≡ true
seat_there zid n [] e = absurd (let gap : None ≡ Some n = e in cc)
seat_there zid n (f ∷ fs) e = by (has_zid zid f) e (seat_there zid n fs)
  where
    either : (b : Bool) → is_some (at_id n fs) ≡ true → is_some (cond b (Some f.1) (at_id n fs)) ≡ true
    either true there = refl
    either false there = there

    by : (b : Bool) → option_map (λ (x : ℕ × FaceState). x.0) (cond b (Some f) (find (has_zid zid) fs)) ≡ Some n → (face_with zid fs ≡ Some n → is_some (at_id n fs) ≡ true) → is_some (cond (is_at (nat_cmp n) f.0) (Some f.1) (at_id n fs)) ≡ true
    by true same more = ap (λ m. is_some (cond (is_at (nat_cmp n) m) (Some f.1) (at_id n fs))) (same_Some _ _ same) ∙ ap (λ b. is_some (cond b (Some f.1) (at_id n fs))) (itself n)
    by false found more = either (is_at (nat_cmp n) f.0) (more found)

-- what holds of the faces of a hat holds of those that are found by ids
module _ (P : ℕ → Type 0) (h : HatState) (each : (n : ℕ) → has_face n h ≡ true → P n) where
  found_each : (zids : List Zid) → AllByRecursion P (filter_map (λ zid. face_with zid h.faces) zids)
  found_each [] = tt
  found_each (z ∷ zids) = by (face_with z h.faces) refl (found_each zids)
    where
      by : (o : Option ℕ) → face_with z h.faces ≡ o → AllByRecursion P (filter_map (λ zid. face_with zid h.faces) zids) → AllByRecursion P (cons_option o (filter_map (λ zid. face_with zid h.faces) zids))
      by None e ih = ih
      by (Some n) e ih = (each n (seat_there z n h.faces e), ih)

  pub faces_each : (from : Option ℕ) (zids : List Zid) → AllByRecursion P (faces_by from (λ zid. face_with zid h.faces) zids)
  faces_each from zids = all_filter P (is_other from) (filter_map (λ zid. face_with zid h.faces) zids) (found_each zids)

-- ---- what can be told
-- the face is open
abbrev pub IsOpen : NamingState → ℕ → Type 0
IsOpen names n = is_some (naming_at n names) ≡ true

module _ (P : ℕ → Type 0) where
  -- each of the hat's faces is such a one
  abbrev pub Seats : HatState → Type 0
  Seats h = (n : ℕ) → has_face n h ≡ true → P n

  -- the same of a hat of routers
  abbrev pub RouterSeats : HatState → Type 0
  RouterSeats h = strategy_at h ≡ strategy.Router → Seats h

  abbrev pub Can : TreeTelling → Type 0
  Can t = P t.face.0 × IsKey t.key

  -- its face is such a one, it is of a key, and the id is 0, as along trees
  pub record AlongTree (t : TreeTelling) : Type 0 where
    pub can : Can t
    pub id : t.id ≡ 0

  abbrev AllCan : List TreeTelling → Type 0
  AllCan ts = AllByRecursion AlongTree ts

  pub children_can : (from : Option ℕ) (root : Zid) (key : List ℕ) (i : Option QueryableInfoType) (h : HatState) → Seats h → IsKey key → AllCan (to_children from root key i h)
  children_can from root key i h seats some = by (place_of h.network root)
    where
      ns : List ℕ
      ns = faces_by from (λ zid. face_with zid h.faces) (children_of h.network root)

      by : (o : Option ℕ) → AllCan (option_map_or (λ node. map (tree_telling key i node) ns) o [])
      by None = tt
      by (Some node) = all_mapped AlongTree (tree_telling key i node) ns (all_weaker P (λ n. AlongTree (tree_telling key i node n)) (λ n there. record { can = (there, some); id = refl }) ns (faces_each P h seats from (children_of h.network root)))

  own_can : (key : List ℕ) (was is : Option QueryableInfoType) (h : HatState) → Seats h → IsKey key → AllCan (own_told key was is h)
  own_can key was is h seats some = by (same_infos was is)
    where
      by : (b : Bool) → AllCan (cond b [] (to_children None h.own key is h))
      by true = tt
      by false = children_can None h.own key is h seats some

  each_told : (es : List (List ℕ × QueryableInfoType)) (node n : ℕ) → P n → AreKeyed es → AllCan (all_told_of es node n)
  each_told [] node n there keyed = tt
  each_told (e ∷ es) node n there keyed = (record { can = (there, keyed.0); id = refl }, each_told es node n there keyed.1)

  faces_told : (es : List (List ℕ × QueryableInfoType)) (node : ℕ) (ns : List ℕ) → AllByRecursion P ns → AreKeyed es → AllCan (flat_map (all_told_of es node) ns)
  faces_told es node [] all keyed = tt
  faces_told es node (n ∷ ns) all keyed = all_append AlongTree (all_told_of es node n) (flat_map (all_told_of es node) ns) (each_told es node n all.0 keyed) (faces_told es node ns all.1 keyed)

  root_can : (own : List (List ℕ × QueryableInfoType)) (old : Network) (h : HatState) (root : Zid) (tree : Tree) → AreKeyed own → IsWorded h → Seats h → AllCan (root_told own old h root tree)
  root_can own old h root tree keyed w seats = by (place_of h.network root)
    where
      zids : List Zid
      zids = fresh_ids old root (child_ids h.network tree)

      by : (o : Option ℕ) → AllCan (option_map_or (λ node. flat_map (all_told_of (standing_of own root h) node) (faces_by None (λ zid. face_with zid h.faces) zids)) o [])
      by None = tt
      by (Some node) = faces_told (standing_of own root h) node (faces_by None (λ zid. face_with zid h.faces) zids) (faces_each P h seats None zids) (standing_keyed own root h keyed w)

  trees_can : (own : List (List ℕ × QueryableInfoType)) (old : Network) (h : HatState) → AreKeyed own → IsWorded h → Seats h → (zs : List Zid) (ts : List Tree) → AllCan (trees_told own old h zs ts)
  trees_can own old h keyed w seats [] ts = tt
  trees_can own old h keyed w seats (z ∷ zs) [] = tt
  trees_can own old h keyed w seats (z ∷ zs) (t ∷ ts) = all_append AlongTree (root_told own old h z t) (trees_told own old h zs ts) (root_can own old h z t keyed w seats) (trees_can own old h keyed w seats zs ts)

  pub placed_can : (own : List (List ℕ × QueryableInfoType)) (old h : HatState) → AreKeyed own → IsWorded h → RouterSeats h → AllCan (placed_told own old h)
  placed_can own old h keyed w seats = by (strategy_at h) refl
    where
      by : (k : Strategy) → strategy_at h ≡ k → AllCan (in_routers k (network_told own old.network h) [])
      by strategy.Broker k = tt
      by strategy.Client k = tt
      by strategy.Peer k = tt
      by strategy.Router k = trees_can own old.network h keyed w (seats k) h.network.nodes (named_trees h.network)

  own_in_can : (before after : List (ℕ × HatState)) (key : List ℕ) (h : ℕ × HatState) → IsKey key → RouterSeats h.1 → AllCan (own_told_in before after key h)
  own_in_can before after key h some seats = by (strategy_at h.1) refl
    where
      by : (k : Strategy) → strategy_at h.1 ≡ k → AllCan (in_routers k (own_told key (own_entry h.0 key before) (own_entry h.0 key after) h.1) [])
      by strategy.Broker k = tt
      by strategy.Client k = tt
      by strategy.Peer k = tt
      by strategy.Router k = own_can key (own_entry h.0 key before) (own_entry h.0 key after) h.1 (seats k) some

  own_hats_can : (before after : List (ℕ × HatState)) (key : List ℕ) (hats : List (ℕ × HatState)) → IsKey key → AllByRecursion (λ (e : ℕ × HatState). RouterSeats e.1) hats → AllCan (flat_map (own_told_in before after key) hats)
  own_hats_can before after key [] some seats = tt
  own_hats_can before after key (h ∷ hats) some seats =
      all_append AlongTree (own_told_in before after key h) (flat_map (own_told_in before after key) hats) (own_in_can before after key h some seats.0) (own_hats_can before after key hats some seats.1)

  pub own_all_can : (before after : List (ℕ × HatState)) (keys : List (List ℕ)) → AreTexts keys → AllByRecursion (λ (e : ℕ × HatState). RouterSeats e.1) after → AllCan (all_own_told before after keys)
  own_all_can before after [] some seats = tt
  own_all_can before after (k ∷ ks) some seats =
      all_append AlongTree (own_told_on before after k) (all_own_told before after ks) (own_hats_can before after k after some.0 seats) (own_all_can before after ks some.1 seats)

module _ (names : NamingState) where
  body_can : (id : ℕ) (key : List ℕ) (i : Option QueryableInfoType) → IsKey key → tells_text (told_or_ended id key i) ≡ true
  body_can id key None some = by (id == 0)
    where
      by : (b : Bool) → tells_text (key_ended id (cond b (Some key) None)) ≡ true
      by true = key_text key some
      by false = refl
  body_can id key (Some i) some = key_text key some

  pub from_can : (ts : List TreeTelling) → AllByRecursion (Can (IsOpen names)) ts → AllByRecursion (CanBeTold names) (map from_hat ts)
  from_can [] all = tt
  from_can (t ∷ ts) all = ((all.0.0, body_can t.id t.key t.info all.0.1), from_can ts all.1)

-- ---- the keys that are touched
face_keys_texts : (ds : List (ℕ × Declaration)) → Each Any (λ (d : Declaration). IsKey d.key) ds → AreTexts (map key_of ds)
face_keys_texts [] w = tt
face_keys_texts (d ∷ ds) w = (w.0.1, face_keys_texts ds w.1)

module _ (c : Core) (w : Each Any IsWorded c.hats) where
  pub worded_at : (r : Region) (h : HatState) → hat_at r c.hats ≡ Some h → IsWorded h
  worded_at r h e = each_found Any IsWorded (is_at (nat_cmp (region_index r))) c.hats h (region_there r c.hats h e).1 w

  worded_of : (face : ℕ) (h : HatState) → hat_of face c ≡ Some h → IsWorded h
  worded_of face h = by (at face c.faces)
    where
      by : (o : Option OpenFace) → option_and_then (λ (x : OpenFace). hat_at x.region c.hats) o ≡ Some h → IsWorded h
      by None e = absurd (let gap : None ≡ Some h = e in cc)
      by (Some x) e = worded_at x.region h e

  pub touched_texts : (t : TextCall) → refusal_of c t ≡ None → AreTexts (touched c t)
  touched_texts (closing face) h = by (hat_of face.0 c) refl
    where
      by_face : (x : HatState) → IsWorded x → (o : Option FaceState) → face_at face.0 x ≡ o → AreTexts (option_map_or (λ (f : FaceState). map key_of f.declared) o [])
      by_face x v None e = tt
      by_face x v (Some f) e = face_keys_texts f.declared (each_found Any WordedFace (is_at (nat_cmp face.0)) x.faces f e v.faces)

      by : (o : Option HatState) → hat_of face.0 c ≡ o → AreTexts (option_map_or (keys_of_face face.0) o [])
      by None e = tt
      by (Some x) e = by_face x (worded_of face.0 x e) (face_at face.0 x) refl
  touched_texts (declaring face id s i node) h = (said_key s (all_passed (causes c (declaring face id s i node)) h).1.1.0, tt)
  touched_texts (withdrawing face id) h = by (hat_of face.0 c) refl
    where
      by_id : (f : FaceState) → WordedFace f → (o : Option Declaration) → at_id id f.declared ≡ o → AreTexts (option_to_list (option_map (λ (d : Declaration). d.key) o))
      by_id f v None e = tt
      by_id f v (Some d) e = (each_found Any (λ (x : Declaration). IsKey x.key) (is_at (nat_cmp id)) f.declared d e v, tt)

      by_face : (x : HatState) → IsWorded x → (o : Option FaceState) → face_at face.0 x ≡ o → AreTexts (option_to_list (option_map (λ (d : Declaration). d.key) (option_and_then (λ (f : FaceState). at_id id f.declared) o)))
      by_face x v None e = tt
      by_face x v (Some f) e = by_id f (each_found Any WordedFace (is_at (nat_cmp face.0)) x.faces f e v.faces) (at_id id f.declared) refl

      by : (o : Option HatState) → hat_of face.0 c ≡ o → AreTexts (option_to_list (option_map (λ (d : Declaration). d.key) (option_and_then (declaration_at face.0 id) o)))
      by None e = tt
      by (Some x) e = by_face x (worded_of face.0 x e) (face_at face.0 x) refl
  touched_texts (announcing face s i node) h = (said_key s (all_passed (causes c (announcing face s i node)) h).1.1.0, tt)
  touched_texts (retracting face s node) h = (said_key s (all_passed (causes c (retracting face s node)) h).1.1.0, tt)
  touched_texts (networking r net) h = by (hat_at r c.hats) refl
    where
      by : (o : Option HatState) → hat_at r c.hats ≡ o → AreTexts (option_map_or (losing net) o [])
      by None e = tt
      by (Some x) e = losing_texts net x.entries (worded_at r x e).entries
  touched_texts t h = tt

-- ---- a call at a point of a run
module _ (config : Settings) where
  hat_seats : (s : State) → InOrder config s → AllByRecursion (λ (e : ℕ × HatState). Seats (IsOpen s.names) e.1) s.core.hats
  hat_seats s i =
      all_weaker _ (λ (e : ℕ × HatState). Seats (IsOpen s.names) e.1) (λ e opens n has. i.tied.named n ∙ opens n has) s.core.hats
      (all_hats_open config s.core.faces s.core.hats s.names i.tied i.hats)

  seats_there : (names : NamingState) (hats : List (ℕ × HatState)) (k : ℕ) (h : HatState) → at k hats ≡ Some h → AllByRecursion (λ (e : ℕ × HatState). Seats (IsOpen names) e.1) hats → Seats (IsOpen names) h
  seats_there names [] k h e all = absurd (let gap : None ≡ Some h = e in cc)
  seats_there names (x ∷ hats) k h e all = by (is_at (nat_cmp k) x.0) e (λ f. seats_there names hats k h f all.1)
    where
      by : (b : Bool) → cond b (Some x.1) (at k hats) ≡ Some h → (at k hats ≡ Some h → Seats (IsOpen names) h) → Seats (IsOpen names) h
      by true f more = subst (Seats (IsOpen names)) (same_Some _ _ f) all.0
      by false f more = more f

  module _ (s : State) (i : InOrder config s) where
    seats_at : (r : Region) (h : HatState) → hat_at r s.core.hats ≡ Some h → Seats (IsOpen s.names) h
    seats_at r h e = seats_there s.names s.core.hats (region_index r) h (region_there r s.core.hats h e).1 (hat_seats s i)

    seats_of : (face : ℕ) (h : HatState) → hat_of face s.core ≡ Some h → Seats (IsOpen s.names) h
    seats_of face h = by (at face s.core.faces)
      where
        by : (o : Option OpenFace) → option_and_then (λ (x : OpenFace). hat_at x.region s.core.hats) o ≡ Some h → Seats (IsOpen s.names) h
        by None e = absurd (let gap : None ≡ Some h = e in cc)
        by (Some x) e = seats_at x.region h e

    router_can : (face : FaceId) (node : ℕ) (key : List ℕ) (info : Option QueryableInfoType) → IsKey key → AllCan (IsOpen s.names) (router_told face node key info s.core)
    router_can face node key info some = by (hat_of face.0 s.core) refl
      where
        source : (h : HatState) → Seats (IsOpen s.names) h → (o : Option Zid) → AllCan (IsOpen s.names) (option_map_or (λ (z : Zid). to_children (Some face.0) z key info h) o [])
        source h seats None = tt
        source h seats (Some z) = children_can (IsOpen s.names) (Some face.0) z key info h seats some

        by : (o : Option HatState) → hat_of face.0 s.core ≡ o → AllCan (IsOpen s.names) (option_map_or (source_told face node key info) o [])
        by None e = tt
        by (Some h) e = source h (seats_of face.0 h e) (source_at face.0 node h)

    networked_can : (t : TextCall) → InOrder config (accepted_state s t) → (r : Region) → AllCan (IsOpen (renamed s t)) (networked_told r s.core.hats (accepted s.core t).hats)
    networked_can t j r = by (hat_at r s.core.hats) (hat_at r (accepted s.core t).hats) refl
      where
        by : (o p : Option HatState) → hat_at r (accepted s.core t).hats ≡ p → AllCan (IsOpen (renamed s t)) (option_map_or (λ (old : HatState). option_map_or (placed_told (own_entries (region_index r) s.core.hats) old) p []) o [])
        by None p e = tt
        by (Some old) None e = tt
        by (Some old) (Some x) e =
            placed_can (IsOpen (renamed s t)) (own_entries (region_index r) s.core.hats) old x (own_entries_keyed (region_index r) s.core.hats i.worded)
            (worded_at (accepted s.core t) j.worded r x e)
            (λ k. seats_there (renamed s t) (accepted s.core t).hats (region_index r) x (region_there r (accepted s.core t).hats x e).1 (hat_seats (accepted_state s t) j))

    tree_can : (t : TextCall) → refusal_of s.core t ≡ None → InOrder config (accepted_state s t) → AllCan (IsOpen (renamed s t)) (tree_told s.core (accepted s.core t) t)
    tree_can (announcing face sd info node) h j = router_can face node (full_text sd) (Some info) (said_key sd (all_passed (causes s.core (announcing face sd info node)) h).1.1.0)
    tree_can (retracting face sd node) h j = router_can face node (full_text sd) None (said_key sd (all_passed (causes s.core (retracting face sd node)) h).1.1.0)
    tree_can (networking r net) h j = networked_can (networking r net) j r
    tree_can t h j = tt

    -- what an accepted call tells, in no order
    abbrev pub due_trees : TextCall → List TreeTelling
    due_trees t = tree_told s.core (accepted s.core t) t ++ all_own_told s.core.hats (accepted s.core t).hats (touched s.core t)

    pub trees_due : (t : TextCall) → refusal_of s.core t ≡ None → InOrder config (accepted_state s t) → AllCan (IsOpen (renamed s t)) (due_trees t)
    trees_due t h j =
        let tree = tree_told s.core (accepted s.core t) t in
        let own = all_own_told s.core.hats (accepted s.core t).hats (touched s.core t) in
        all_append (AlongTree (IsOpen (renamed s t))) tree own (tree_can t h j) (own_all_can (IsOpen (renamed s t)) s.core.hats (accepted s.core t).hats (touched s.core t) (touched_texts s.core i.worded t h)
        (all_weaker (λ (e : ℕ × HatState). Seats (IsOpen (renamed s t)) e.1) (λ (e : ℕ × HatState). RouterSeats (IsOpen (renamed s t)) e.1) (λ e seats k. seats) (accepted s.core t).hats (hat_seats (accepted_state s t) j)))

-- messages of requests say nothing that is told
pub written_unheard : (names : NamingState) (ms : List TextMessage) (rest : List Handed) (z : NamingState) → hear (write names ms ++ rest) z ≡ hear rest z
written_unheard names [] rest z = refl
written_unheard names (text_request r ∷ ms) rest z = written_unheard names ms rest z
written_unheard names (text_reply r ∷ ms) rest z = written_unheard names ms rest z
written_unheard names (text_final f ∷ ms) rest z = written_unheard names ms rest z
