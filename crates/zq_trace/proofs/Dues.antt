-- What is due to a face by a run's trace is what is due to it in the machine.
use Rattle.std.proofs.Common.{◌≡◌, ◌∙◌, refl, sym, ap, subst, ℕ, Bool, true, false, cond, not, List, [], ◌∷◌, fold, filter, map, Option, Some, None}
use Rattle.std.specs.Prelude.{◌==◌, ◌&&◌, ◌||◌, if◌then◌else◌}
use Rattle.std.specs.BTreeSet.{insert_key}
use Rattle.std.specs.List.{AllByRecursion, flat_map, list_any}
use Rattle.std.specs.Map.{keys_of, values_of}
use Rattle.std.specs.Option.{option_and_then, option_map, option_map_or}
use Rattle.std.proofs.lemmas.Bool.{false≢true}
use Rattle.std.proofs.lemmas.List.Sums.{fold-append}
use Rattle.zq_message.specs.declared.message.Mode.{Mode}
use Rattle.zq_message.specs.declared.message.Mode.TheVariants as mode
use Rattle.zq_message.specs.declared.message.QueryableInfoType.{QueryableInfoType}
use Rattle.zq_message.specs.declared.message.Region.{Region}
use Rattle.zq_message.specs.declared.message.Region.TheVariants as region
use Rattle.zq_message.specs.Region.{region_index}
use Rattle.zq_message.specs.RegionMap.{value_at}
use Rattle.zq_key.specs.Key.{intersects}
use Rattle.zq_index.specs.Infos.{joined}
use Rattle.zq_index.specs.Texts.{text_cmp}
use Rattle.zq_interests.specs.Interests.{asks_folded, asks_for, interests_of, wants, wants_folded}
use Rattle.zq_strategy.specs.declared.types.Strategy.{Strategy}
use Rattle.zq_strategy.specs.declared.types.Strategy.TheVariants as strategy
use Rattle.zq_strategy.specs.Entries.{entries_at, routed_info}
use Rattle.zq_strategy.specs.Fellows.{fellow_info, with_fellow}
use Rattle.zq_strategy.specs.Kept.{declared_keys, faces_info, region_info, with_face}
use Rattle.zq_strategy.specs.Regions.{in_routers, is_north, strategy_at, strategy_of}
use Rattle.zq_strategy.specs.State.{FaceState, HatState}
use Rattle.zq_strategy.specs.Trees.{region_keys}
use Rattle.zq_machine.specs.declared.face.OpenFace.{OpenFace}
use Rattle.zq_machine.specs.Configs.{Settings}
use Rattle.zq_machine.specs.Due.{due as machine_due, due_keys, folded, folds, folds_in, heard, heard_as, heard_by, heard_in, listens, listens_by, listens_in, meant, with_part, with_region_keys}
use Rattle.zq_machine.specs.Standing.{Routed}
use Rattle.zq_machine.specs.State.{State, at, hat_at, hat_of, kind_of}
use Rattle.zq_machine.specs.Trees.{own_entry, with_other}
use Rattle.zq_machine.proofs.Changing.{region_there}
use Rattle.zq_machine.proofs.Standing.{its_hat}
use Rattle.zq_trace.specs.Due.{all_keys, due, due_to, hears, hears_in_all, is_aggregating, is_brokers, is_interested, of_others, part_of}
use Rattle.zq_trace.specs.Faces.{Face, Trace}
use Rattle.zq_trace.specs.Machine.{AreSmall}
use Rattle.zq_trace.specs.Selected.{hat_in, is_routers, routers, strategy_in}
use Rattle.zq_trace.proofs.Asked.{with_both}
use Rattle.zq_trace.proofs.FaceLists.{faces_same}
use Rattle.zq_trace.proofs.Hats.{StandsSo, all_found, all_stand, region_in, regions_are}
use Rattle.zq_trace.proofs.Interests.{Asks, asks_alike}
use Rattle.zq_trace.proofs.Offered.{keys_same, lean_faces}
use Rattle.zq_trace.proofs.Picks.{looked, routers_are, routes_are, strategy_same}
use Rattle.zq_trace.proofs.Regions.{one_region}
use Rattle.zq_trace.proofs.Runs.{IsRun, reached}
use Rattle.zq_trace.proofs.Saying.{closed_face, in_order, open_face}

-- ---- lists
info_lean : (key : List ℕ) (fs : List (ℕ × FaceState)) (m : Option QueryableInfoType) → fold (with_face key) m (lean_faces false fs) ≡ fold (with_face key) m fs
info_lean key [] m = refl
info_lean key (f ∷ fs) m = info_lean key fs (with_face key m f)

fellow_lean : (n : ℕ) (key : List ℕ) (fs : List (ℕ × FaceState)) (m : Option QueryableInfoType) → fold (with_fellow n key) m (lean_faces false fs) ≡ fold (with_fellow n key) m fs
fellow_lean n key [] m = refl
fellow_lean n key (f ∷ fs) m = fellow_lean n key fs (with_fellow n key m f)

parts_same : (hear more : List ℕ → Option QueryableInfoType) → ((k : List ℕ) → hear k ≡ more k) → (key : List ℕ) (keys : List (List ℕ)) (m : Option QueryableInfoType)
    → fold joined m (map (λ k. option_map (part_of key k) (hear k)) (filter (λ k. intersects k key) keys)) ≡ fold (with_part more key) m keys
parts_same hear more same key [] m = refl
parts_same hear more same key (k ∷ keys) m = by (intersects k key) (parts_same hear more same key keys)
  where
    by : (b : Bool) → ((n : Option QueryableInfoType) → fold joined n (map (λ x. option_map (part_of key x) (hear x)) (filter (λ x. intersects x key) keys)) ≡ fold (with_part more key) n keys)
        → fold joined m (map (λ x. option_map (part_of key x) (hear x)) (cond b (k ∷ filter (λ x. intersects x key) keys) (filter (λ x. intersects x key) keys))) ≡ fold (with_part more key) (cond b (joined m (option_map (part_of key k) (more k))) m) keys
    by true rest = ap (λ i. fold joined (joined m (option_map (part_of key k) i)) (map (λ x. option_map (part_of key x) (hear x)) (filter (λ x. intersects x key) keys))) (same k) ∙ rest (joined m (option_map (part_of key k) (more k)))
    by false rest = rest m

-- ---- who is interested, by region
listens_so : (r : Region) (m : Mode) (asks : Bool) → is_routers (strategy_of r m) ≡ false → listens_by (strategy_of r m) (is_north r) asks ≡ (is_north r || asks)
listens_so region.North mode.Router asks e = absurd (false≢true (sym e))
listens_so region.North mode.Peer asks e = refl
listens_so region.North mode.Client asks e = refl
listens_so region.Local m asks e = refl
listens_so (region.South id mode.Router) m asks e = absurd (false≢true (sym e))
listens_so (region.South id mode.Peer) m asks e = refl
listens_so (region.South id mode.Client) m asks e = refl

or_false : (b : Bool) → (b || false) ≡ b
or_false true = refl
or_false false = refl

module _ (config : Settings) (past : Trace) (run : IsRun config past) (small : AreSmall config) where
  abbrev s : State
  s = reached config past

  -- ---- a hat
  module _ (h : HatState) (h_at : hat_at h.region s.core.hats ≡ Some h) where
    abbrev ours : HatState
    ours = hat_in config past h.region

    -- the faces of the trace, where they are no routers
    faces_alike : in_routers (strategy_at h) true false ≡ false → lean_faces false h.faces ≡ lean_faces false ours.faces
    faces_alike e = faces_same config past run h.region h h_at false (routes_are config past run small h.region h h_at ∙ e)

    by_faces : {X : Type 0} (g : List (ℕ × FaceState) → X) → ((fs : List (ℕ × FaceState)) → g (lean_faces false fs) ≡ g fs) → in_routers (strategy_at h) true false ≡ false → g ours.faces ≡ g h.faces
    by_faces g lean e = sym (lean ours.faces) ∙ ap g (sym (faces_alike e)) ∙ lean h.faces

    -- what is said of routers or of faces, by the strategy
    by_strategy : {X : Type 0} (a : Routed → X) (g : List (ℕ × FaceState) → X) → ((fs : List (ℕ × FaceState)) → g (lean_faces false fs) ≡ g fs)
        → in_routers (strategy_at ours) (a (routers past h.region)) (g ours.faces) ≡ in_routers (strategy_at h) (a (record { entries = h.entries; network = h.network })) (g h.faces)
    by_strategy a g lean = ap (λ x. in_routers x (a (routers past h.region)) (g ours.faces)) (sym (strategy_same config past run small h.region h h_at)) ∙ by (strategy_at h) refl
      where
        plain : (x : Strategy) → in_routers x true false ≡ false → strategy_at h ≡ x → g ours.faces ≡ g h.faces
        plain x not' is = by_faces g lean (ap (λ y. in_routers y true false) is ∙ not')

        by : (x : Strategy) → strategy_at h ≡ x → in_routers x (a (routers past h.region)) (g ours.faces) ≡ in_routers x (a (record { entries = h.entries; network = h.network })) (g h.faces)
        by strategy.Broker is = plain strategy.Broker refl is
        by strategy.Client is = plain strategy.Client refl is
        by strategy.Peer is = plain strategy.Peer refl is
        by strategy.Router is = ap a (routers_are config past run small h.region h h_at (ap (λ y. in_routers y true false) is))

    info_alike : (key : List ℕ) → region_info key ours ≡ region_info key h
    info_alike key = by_strategy (λ x. routed_info (entries_at key x.entries)) (faces_info key) (λ fs. info_lean key fs None)

    keys_alike : region_keys ours ≡ region_keys h
    keys_alike = by_strategy (λ x. keys_of x.entries) declared_keys (λ fs. keys_same fs [])

    fellows_alike : (n : ℕ) (key : List ℕ) → in_routers (strategy_at h) true false ≡ false → fellow_info n key ours ≡ fellow_info n key h
    fellows_alike n key e = by_faces (λ fs. fold (with_fellow n key) None fs) (λ fs. fellow_lean n key fs None) e

  -- ---- all hats
  abbrev IsHat : ℕ × HatState → Type 0
  IsHat e = StandsSo config (e.0, kind_of e.1) × (at e.0 s.core.hats ≡ Some e.1)

  all_hats : AllByRecursion IsHat s.core.hats
  all_hats = with_both (λ e. StandsSo config (e.0, kind_of e.1)) (λ (e : ℕ × HatState). at e.0 s.core.hats ≡ Some e.1) IsHat (λ e x y. (x, y)) s.core.hats (all_stand config past small) (all_found config past)

  hat_here : (e : ℕ × HatState) → IsHat e → hat_at e.1.region s.core.hats ≡ Some e.1
  hat_here e is = ap (λ b. if b then value_at s.core.hats e.1.region else None) is.0.small ∙ ap (λ k. at k s.core.hats) (sym is.0.place) ∙ is.1

  module _ (place : ℕ) (key : List ℕ) where
    abbrev has : Region → Option QueryableInfoType
    has o = region_info key (hat_in config past o)

    abbrev is_other : Region → Bool
    is_other o = not (region_index o == place)

    others_from : (es : List (ℕ × HatState)) → AllByRecursion IsHat es → (m : Option QueryableInfoType) → fold joined m (map has (filter is_other (map (region_in config) (values_of es)))) ≡ fold (with_other place key) m es
    others_from [] all m = refl
    others_from (e ∷ es) all m = by (region_index e.1.region == place) (others_from es all.1) ∙ ap (λ k. fold (with_other place key) (cond (k == place) m (joined m (region_info key e.1))) es) (sym all.0.0.place)
      where
        by : (b : Bool) → ((n : Option QueryableInfoType) → fold joined n (map has (filter is_other (map (region_in config) (values_of es)))) ≡ fold (with_other place key) n es)
            → fold joined m (map has (cond (not b) (e.1.region ∷ filter is_other (map (region_in config) (values_of es))) (filter is_other (map (region_in config) (values_of es))))) ≡ fold (with_other place key) (cond b m (joined m (region_info key e.1))) es
        by true rest = rest m
        by false rest = ap (λ i. fold joined (joined m i) (map has (filter is_other (map (region_in config) (values_of es))))) (info_alike e.1 (hat_here e all.0) key) ∙ rest (joined m (region_info key e.1))

  others_alike : (r : Region) (key : List ℕ) → of_others config past r key ≡ own_entry (region_index r) key s.core.hats
  others_alike r key = ap (λ rs. fold joined None (map (has (region_index r) key) (filter (is_other (region_index r) key) rs))) (regions_are config past) ∙ others_from (region_index r) key s.core.hats all_hats None

  keys_from : (es : List (ℕ × HatState)) → AllByRecursion IsHat es → (keys : List (List ℕ)) → fold (insert_key text_cmp) keys (flat_map (λ r. region_keys (hat_in config past r)) (map (region_in config) (values_of es))) ≡ fold with_region_keys keys es
  keys_from [] all keys = refl
  keys_from (e ∷ es) all keys =
      fold-append (insert_key text_cmp) keys (region_keys (hat_in config past e.1.region)) (flat_map (λ r. region_keys (hat_in config past r)) (map (region_in config) (values_of es)))
      ∙ ap (λ l. fold (insert_key text_cmp) (fold (insert_key text_cmp) keys l) (flat_map (λ r. region_keys (hat_in config past r)) (map (region_in config) (values_of es)))) (keys_alike e.1 (hat_here e all.0))
      ∙ keys_from es all.1 (with_region_keys keys e)

  all_keys_alike : all_keys config past ≡ due_keys s.core
  all_keys_alike = ap (λ rs. fold (insert_key text_cmp) [] (flat_map (λ r. region_keys (hat_in config past r)) rs)) (regions_are config past) ∙ keys_from s.core.hats all_hats []

  -- ---- an open face
  module _ (q : ℕ) (o : OpenFace) (seen : at q s.core.faces ≡ Some o) where
    abbrev f : Face
    f = (open_face config past run q o seen).0

    abbrev h : HatState
    h = (its_hat s.gates s.core.faces s.core.hats s.names (in_order config past).tied q o seen).0

    there : hat_at o.region s.core.hats ≡ Some h
    there = (its_hat s.gates s.core.faces s.core.hats s.names (in_order config past).tied q o seen).1

    of_hat : hat_of q s.core ≡ Some h
    of_hat = ap (option_and_then (λ (x : OpenFace). hat_at x.region s.core.hats)) seen ∙ there

    home : o.region ≡ h.region
    home = one_region o.region h.region (looked (λ x. StandsSo config (x.0, kind_of x.1)) (region_index o.region) h s.core.hats (all_stand config past small) (region_there o.region s.core.hats h there).1).place

    h_at : hat_at h.region s.core.hats ≡ Some h
    h_at = subst (λ r. hat_at r s.core.hats ≡ Some h) home there

    region_same : f.region ≡ h.region
    region_same = (open_face config past run q o seen).2.region ∙ home

    strategy_is : strategy_in config f.region ≡ strategy_at h
    strategy_is = ap (strategy_in config) region_same ∙ sym (strategy_same config past run small h.region h h_at)

    asks_same : f.interests ≡ interests_of q s.core.interests
    asks_same = subst (λ z. Asks z (interests_of q s.core.interests)) (open_face config past run q o seen).1 (asks_alike config q past run)

    heard_there : (key : List ℕ) → heard s.core q key ≡ heard_in q key s.core.hats (region_index h.region) h
    heard_there key =
        ap (option_and_then (heard_as q key s.core.hats)) seen
        ∙ ap (option_and_then (heard_in q key s.core.hats (region_index o.region))) there
        ∙ ap (λ r. heard_in q key s.core.hats (region_index r) h) home

    -- outside regions of routers
    module _ (plain : is_routers (strategy_at h) ≡ false) where
      hears_alike : (key : List ℕ) → hears config past q f key ≡ heard s.core q key
      hears_alike key =
          (λ j. joined (if is_brokers (strategy_in config (region_same j)) then fellow_info q key (hat_in config past (region_same j)) else None) (of_others config past (region_same j) key))
          ∙ (λ j. joined (if is_brokers (sym (strategy_same config past run small h.region h h_at) j) then fellow_info q key (ours h h_at) else None) (others_alike h.region key j))
          ∙ by (strategy_at h) refl plain
          ∙ sym (heard_there key)
        where
          others : Option QueryableInfoType
          others = own_entry (region_index h.region) key s.core.hats

          by : (x : Strategy) → strategy_at h ≡ x → is_routers x ≡ false → joined (if is_brokers x then fellow_info q key (ours h h_at) else None) others ≡ heard_by x (fellow_info q key h) others
          by strategy.Broker is e = ap (λ i. joined i others) (fellows_alike h h_at q key (ap (λ y. in_routers y true false) is))
          by strategy.Client is e = refl
          by strategy.Peer is e = refl
          by strategy.Router is e = absurd (false≢true (sym e))

      hears_all_alike : (key : List ℕ) → hears_in_all config past q f key ≡ folded s.core q key
      hears_all_alike key =
          ap (λ ks. fold joined None (map (λ k. option_map (part_of key k) (hears config past q f k)) (filter (λ k. intersects k key) ks))) all_keys_alike
          ∙ parts_same (hears config past q f) (heard s.core q) hears_alike key (due_keys s.core) None

      interested_alike : (key : List ℕ) → is_interested key f ≡ listens s.core s.core.interests q key
      interested_alike key =
          (λ j. is_north (region_same j) || list_any (wants key) (asks_same j))
          ∙ sym (listens_so h.region h.north_mode (asks_for q key s.core.interests) plain)
          ∙ sym (ap (λ y. option_map_or (listens_in s.core.interests q key) y false) of_hat)

      aggregating_alike : (key : List ℕ) → is_aggregating key f ≡ folds s.core s.core.interests q key
      aggregating_alike key =
          (λ j. not (is_north (region_same j)) && list_any (wants_folded key) (asks_same j))
          ∙ ap (λ b. not b && asks_folded q key s.core.interests) (sym (listens_so h.region h.north_mode false plain ∙ or_false (is_north h.region)))
          ∙ sym (ap (λ y. option_map_or (folds_in s.core.interests q key) y false) of_hat)

      due_there : (key : List ℕ) → due_to config past q key f ≡ machine_due s.core s.core.interests q key
      due_there key = λ j. if interested_alike key j then (if aggregating_alike key j then hears_all_alike key j else hears_alike key j) else None

    due_of : (key : List ℕ) → due config past q key ≡ machine_due s.core s.core.interests q key
    due_of key =
        ap (λ g. option_and_then (due_to config past q key) (option_and_then (λ (y : Face). if is_routers (strategy_in config y.region) then None else Some y) g)) (open_face config past run q o seen).1
        ∙ ap (λ x. option_and_then (due_to config past q key) (if is_routers x then None else Some f)) strategy_is
        ∙ by (is_routers (strategy_at h)) refl
      where
        deaf : (x : Strategy) (north asks : Bool) → is_routers x ≡ true → listens_by x north asks ≡ false
        deaf strategy.Broker north asks e = absurd (false≢true e)
        deaf strategy.Client north asks e = absurd (false≢true e)
        deaf strategy.Peer north asks e = absurd (false≢true e)
        deaf strategy.Router north asks e = refl

        by : (b : Bool) → is_routers (strategy_at h) ≡ b → option_and_then (due_to config past q key) (if b then None else Some f) ≡ machine_due s.core s.core.interests q key
        by true e = sym (ap (λ b. if b then meant s.core s.core.interests q key else None) (ap (λ y. option_map_or (listens_in s.core.interests q key) y false) of_hat ∙ deaf (strategy_at h) (is_north h.region) (asks_for q key s.core.interests) e))
        by false e = due_there e key

  pub due_alike : (q : ℕ) (key : List ℕ) → due config past q key ≡ machine_due s.core s.core.interests q key
  due_alike q key = by (at q s.core.faces) refl
    where
      by : (o : Option OpenFace) → at q s.core.faces ≡ o → due config past q key ≡ machine_due s.core s.core.interests q key
      by None gone =
          ap (λ g. option_and_then (due_to config past q key) (option_and_then (λ (y : Face). if is_routers (strategy_in config y.region) then None else Some y) g)) (closed_face config past run q gone)
          ∙ sym (ap (λ g. if option_map_or (listens_in s.core.interests q key) (option_and_then (λ (x : OpenFace). hat_at x.region s.core.hats) g) false then meant s.core s.core.interests q key else None) gone)
      by (Some o) seen = due_of q o seen key
