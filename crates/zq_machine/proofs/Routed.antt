-- What the gateway has of the routers of each region is what the calls of the run and their answers make of it.
use Rattle.std.proofs.Common.{◌≡◌, ◌∙◌, refl, sym, ap, ℕ, Bool, true, false, cond, List, [], ◌∷◌, Option, Some, None}
use Rattle.std.specs.Prelude.{◌==◌, ◌&&◌}
use Rattle.std.specs.BTreeMap.{is_at}
use Rattle.std.specs.Option.{is_some, option_and_then, option_map, option_map_or}
use Rattle.std.specs.Ordering.{nat_cmp}
use Rattle.std.proofs.lemmas.Cmp.{nat_cmp_total}
use Rattle.std.proofs.lemmas.Map.Lookups.{exact_unsigned}
use Rattle.zq_key.proofs.Lookups.{found_after_write}
use Rattle.zq_message.specs.declared.message.FaceId.{FaceId}
use Rattle.zq_message.specs.declared.message.QueryableInfoType.{QueryableInfoType}
use Rattle.zq_message.specs.declared.message.Region.{Region}
use Rattle.zq_message.specs.declared.message.WireExpr.{WireExpr}
use Rattle.zq_message.specs.declared.message.Zid.{Zid}
use Rattle.zq_message.specs.Region.{region_index}
use Rattle.zq_strategy.specs.declared.network.Network.{Network}
use Rattle.zq_strategy.specs.declared.types.FaceRecord.{FaceRecord}
use Rattle.zq_strategy.specs.declared.types.Strategy.{Strategy}
use Rattle.zq_strategy.specs.declared.types.Strategy.TheVariants as strategy
use Rattle.zq_strategy.specs.Kept.{face_at, has_face, registered, unregistered, with_face_opened, without_face}
use Rattle.zq_strategy.specs.Marks.{finalized}
use Rattle.zq_strategy.specs.Regions.{in_routers, strategy_at}
use Rattle.zq_strategy.specs.Entries.{staying}
use Rattle.zq_strategy.specs.Nets.{is_listed}
use Rattle.zq_strategy.specs.Routers.{announced, networked, retracted, noded, source_at, zid_at}
use Rattle.zq_strategy.specs.State.{FaceState, HatState}
use Rattle.zq_tables.specs.Naming.{face_naming, said_of}
use Rattle.zq_machine.specs.declared.call.Call.{Call}
use Rattle.zq_machine.specs.declared.call.Call.TheVariants as call
use Rattle.zq_machine.specs.declared.face.OpenFace.{OpenFace}
use Rattle.zq_machine.specs.Configs.{Settings}
use Rattle.zq_machine.specs.Gates.{entered_by, gate_at, space_of}
use Rattle.zq_machine.specs.Deciding.{accepted, announced_by, causes, refusal_of, retracted_by, seat}
use Rattle.zq_machine.specs.Machine.{after, state_after, step, steps_from}
use Rattle.zq_machine.specs.Selecting.{full_text}
use Rattle.zq_machine.specs.Standing.{Routed, Standing, announced_at, first_routed, retracted_at, routed, routed_after, routed_at, routed_by, routed_in, routes_in, standing_at, text_or_none, text_said, with_network, with_routed, without_routed}
use Rattle.zq_machine.specs.State.{State, at, change_hat, hat_at, is_routing, joined, opening_state, put_hat}
use Rattle.zq_machine.specs.TextCalls.{TextCall, opening, closing, declaring, withdrawing, finalizing, announcing, retracting, networking, tabling, by_router, read, said, said_or_none}
use Rattle.zq_machine.proofs.Agreed.{InOrder, granted_in_order, stays_in_order, opened_face, opening_in_order}
use Rattle.zq_machine.proofs.Always.{after_kept}
use Rattle.zq_machine.proofs.Changing.{number_test, one_number, region_there}
use Rattle.zq_machine.proofs.Finals.{is_there}
use Rattle.zq_machine.proofs.Granted.{all_passed, by_granted, granted_is_accepted}
use Rattle.zq_machine.proofs.Hats.{same_view, same_view_of}
use Rattle.zq_machine.proofs.Standing.{before, call_stands, its_hat, its_kept, numbers_are, region_says, routing_is, stands_so}

-- ---- calls that are not of routers
same_map : (o : Option Routed) → o ≡ option_map (λ r. r) o
same_map None = refl
same_map (Some r) = refl

joined_routed : (x : FaceRecord) (h : HatState) → routed (joined x h) ≡ routed h
joined_routed x h = by (has_face x.face.0 h)
  where
    by : (b : Bool) → routed (cond b h (with_face_opened x h)) ≡ routed h
    by true = refl
    by false = refl

-- ---- one hat is changed, and what it has of routers with it
changed_routed : (place : ℕ) (r : Region) (g : HatState → HatState) (k : Routed → Routed) (hats : List (ℕ × HatState)) → ((h : HatState) → hat_at r hats ≡ Some h → routed (g h) ≡ k (routed h))
    → is_some (hat_at r hats) ≡ true
    → option_map routed (at place (change_hat r g hats)) ≡ option_map (λ x. cond (region_index r == place) (k x) x) (option_map routed (at place hats))
changed_routed place r g k hats does there = by (hat_at r hats) refl there
  where
    by : (o : Option HatState) → hat_at r hats ≡ o → is_some o ≡ true → option_map routed (at place (put_hat r g hats o)) ≡ option_map (λ x. cond (region_index r == place) (k x) x) (option_map routed (at place hats))
    by None e h = absurd (let gap : false ≡ true = h in cc)
    by (Some was) e h =
        ap (option_map routed) (found_after_write nat_cmp_total exact_unsigned (region_index r) place (g was) hats (ap is_some seen))
        ∙ alike (is_at (nat_cmp (region_index r)) place) refl
        ∙ ap (λ b. option_map (λ x. cond b (k x) x) (option_map routed (at place hats))) (number_test (region_index r) place)
      where
        seen : at (region_index r) hats ≡ Some was
        seen = (region_there r hats was e).1

        alike : (b : Bool) → is_at (nat_cmp (region_index r)) place ≡ b → option_map routed (cond b (Some (g was)) (at place hats)) ≡ option_map (λ x. cond b (k x) x) (option_map routed (at place hats))
        alike true is = ap Some (does was e) ∙ sym (ap (option_map k) (ap (option_map routed) (ap (λ n. at n hats) (sym (one_number (region_index r) place is)) ∙ seen)))
        alike false is = same_map (option_map routed (at place hats))

module _ (config : Settings) (s : State) (i : InOrder config s) (place : ℕ) where
  abbrev was : Option Routed
  was = routed_at place s

  abbrev stands : ℕ → Option Standing
  stands face = standing_at face s

  abbrev Makes : Call → TextCall → Type 0
  Makes c t = option_map routed (at place (accepted s.core t).hats) ≡ option_map (routed_by config place c stands) was

  -- a call that is not of routers
  plain_makes : (t : TextCall) → option_map routed (at place (accepted s.core t).hats) ≡ was → option_map routed (at place (accepted s.core t).hats) ≡ option_map (λ r. r) was
  plain_makes t same = same ∙ same_map was

  both : (a b : Bool) (x y : Routed) → cond (a && b) x y ≡ cond a (cond b x y) y
  both true b x y = refl
  both false b x y = refl

  module _ (f : FaceId) (x : (o : OpenFace) × (at f.0 s.core.faces ≡ Some o)) where
    abbrev st : Standing
    st = before s.gates s.core.faces s.core.hats s.names i.tied f.0 x.0 x.1

    -- by what stands of the face
    by_face : (k : Routed → Standing → Routed) → option_map (λ (r : Routed). option_map_or (k r) (stands f.0) r) was ≡ option_map (λ (r : Routed). k r st) was
    by_face k = λ j. option_map (λ (r : Routed). option_map_or (k r) (stands_so s.gates s.core.faces s.core.hats s.names i.tied f.0 x.0 x.1 j) r) was

    -- the face's hat is changed
    its_routed : (g : HatState → HatState) (k : Routed → Routed) → ((h : HatState) → hat_at x.0.region s.core.hats ≡ Some h → routed (g h) ≡ k (routed h))
        → option_map routed (at place (option_map_or (λ (o : OpenFace). change_hat o.region g s.core.hats) (at f.0 s.core.faces) s.core.hats)) ≡ option_map (λ r. cond (region_index x.0.region == place) (k r) r) was
    its_routed g k does =
        ap (λ o. option_map routed (at place (option_map_or (λ (o : OpenFace). change_hat o.region g s.core.hats) o s.core.hats))) x.1
        ∙ changed_routed place x.0.region g k s.core.hats does (i.tied.homes f.0 x.0 x.1)

    -- the id that a node stands for
    source_is : (node : ℕ) (h : HatState) → hat_at x.0.region s.core.hats ≡ Some h → by_router f s.core ≡ true → source_at f.0 node h ≡ zid_at node st.kept
    source_is node h there routes = ap (option_and_then (λ (y : FaceState). in_routers (strategy_at h) (zid_at node y) (Some y.zid))) kept ∙ by (strategy_at h) routing
      where
        hat : (y : HatState) × (hat_at x.0.region s.core.hats ≡ Some y)
        hat = its_hat s.gates s.core.faces s.core.hats s.names i.tied f.0 x.0 x.1

        same : hat.0 ≡ h
        same = let e : Some hat.0 ≡ Some h = sym hat.1 ∙ there in cc

        kept : face_at f.0 h ≡ Some st.kept
        kept = ap (face_at f.0) (sym same) ∙ (its_kept s.gates s.core.faces s.core.hats s.names i.tied f.0 x.0 x.1).1

        routing : in_routers (strategy_at h) true false ≡ true
        routing =
            sym (ap (λ y. option_map_or is_routing (option_and_then (λ (o : OpenFace). hat_at o.region s.core.hats) y) false) x.1 ∙ ap (λ y. option_map_or is_routing y false) there)
            ∙ routes

        by : (k : Strategy) → in_routers k true false ≡ true → in_routers k (zid_at node st.kept) (Some st.kept.zid) ≡ zid_at node st.kept
        by strategy.Router e = refl
        by strategy.Broker e = absurd (let gap : false ≡ true = e in cc)
        by strategy.Client e = absurd (let gap : false ≡ true = e in cc)
        by strategy.Peer e = absurd (let gap : false ≡ true = e in cc)

    numbers : face_naming f.0 s.names ≡ st.numbers
    numbers = numbers_are s.gates s.core.faces s.core.hats s.names i.tied f.0 x.0 x.1

    announced_makes : (id : ℕ) (w : WireExpr) (info : QueryableInfoType) (node : ℕ) → by_router f s.core ≡ true → Makes (call.DeclareQueryable f id w info node) (announcing f (said f w s) info node)
    announced_makes id w info node routes =
        its_routed (announced_by f.0 node (full_text (said f w s)) info) (λ r. option_map_or (with_routed (full_text (said f w s)) info r) (zid_at node st.kept) r)
        (λ h there. ap (λ o. routed (option_map_or (λ (z : Zid). announced z.0 (full_text (said f w s)) info h) o h)) (source_is node h there routes) ∙ by h (zid_at node st.kept))
        ∙ (λ j. option_map (λ (r : Routed). cond (sym (region_says config 0 s i f x true routes) j && (region_index x.0.region == place)) (option_map_or (with_routed (full_text (said_of (numbers j) (entered_by (space_of (gate_at f.0 s.gates)) w))) info r) (zid_at node st.kept) r) r) was)
        ∙ sym (by_face (announced_at config place w info node))
      where
        by : (h : HatState) (o : Option Zid) → routed (option_map_or (λ (z : Zid). announced z.0 (full_text (said f w s)) info h) o h) ≡ option_map_or (with_routed (full_text (said f w s)) info (routed h)) o (routed h)
        by h None = refl
        by h (Some z) = refl

    declared_makes : (id : ℕ) (w : WireExpr) (info : QueryableInfoType) (node : ℕ) → by_router f s.core ≡ false → Makes (call.DeclareQueryable f id w info node) (declaring f id (said f w s) info node)
    declared_makes id w info node routes =
        same_view_of routed f.0 (registered f.0 id (full_text (said f w s)) node info) s.core (λ h there. refl) place
        ∙ same_map was
        ∙ (λ j. option_map (λ (r : Routed). cond (sym (region_says config 0 s i f x false routes) j && (region_index x.0.region == place)) (option_map_or (with_routed (text_said st w) info r) (zid_at node st.kept) r) r) was)
        ∙ sym (by_face (announced_at config place w info node))

    text_same : (w : Option WireExpr) → full_text (said_or_none f w s) ≡ text_or_none st w
    text_same None = refl
    text_same (Some w) = ap (λ n. full_text (said_of n (entered_by (space_of (gate_at f.0 s.gates)) w))) numbers

    retracted_makes : (id : ℕ) (w : Option WireExpr) (node : ℕ) → by_router f s.core ≡ true → Makes (call.UndeclareQueryable f id w node) (retracting f (said_or_none f w s) node)
    retracted_makes id w node routes =
        its_routed (retracted_by f.0 node (full_text (said_or_none f w s))) (λ r. option_map_or (without_routed (full_text (said_or_none f w s)) r) (zid_at node st.kept) r)
        (λ h there. ap (λ o. routed (option_map_or (λ (z : Zid). retracted z.0 (full_text (said_or_none f w s)) h) o h)) (source_is node h there routes) ∙ by h (zid_at node st.kept))
        ∙ (λ j. option_map (λ (r : Routed). cond (sym (region_says config 0 s i f x true routes) j && (region_index x.0.region == place)) (option_map_or (without_routed (text_same w j) r) (zid_at node st.kept) r) r) was)
        ∙ sym (by_face (retracted_at config place w node))
      where
        by : (h : HatState) (o : Option Zid) → routed (option_map_or (λ (z : Zid). retracted z.0 (full_text (said_or_none f w s)) h) o h) ≡ option_map_or (without_routed (full_text (said_or_none f w s)) (routed h)) o (routed h)
        by h None = refl
        by h (Some z) = refl

    withdrawn_makes : (id : ℕ) (w : Option WireExpr) (node : ℕ) → by_router f s.core ≡ false → Makes (call.UndeclareQueryable f id w node) (withdrawing f id)
    withdrawn_makes id w node routes =
        same_view_of routed f.0 (unregistered f.0 id) s.core (λ h there. refl) place
        ∙ same_map was
        ∙ (λ j. option_map (λ (r : Routed). cond (sym (region_says config 0 s i f x false routes) j && (region_index x.0.region == place)) (option_map_or (without_routed (text_or_none st w) r) (zid_at node st.kept) r) r) was)
        ∙ sym (by_face (retracted_at config place w node))

  swap : (a b : Bool) (x y : Routed) → cond b (cond a x y) y ≡ cond (a && b) x y
  swap true b x y = refl
  swap false true x y = refl
  swap false false x y = refl

  network_makes : (r : Region) (net : Network) → is_some (hat_at r s.core.hats) ≡ true → Makes (call.SetNetwork r net) (networking r net)
  network_makes r net there =
      changed_routed place r (networked net) (λ x. cond (routes_in config r) (with_network net x) x) s.core.hats
      (λ h e.
      by h (strategy_at h)
      ∙ ap (λ b. cond b (with_network net (routed h)) (routed h)) (sym (ap (λ y. option_map_or is_routing y false) e) ∙ routing_is config 0 s i r))
      there
      ∙ (λ j. option_map (λ (x : Routed). swap (routes_in config r) (region_index r == place) (with_network net x) x j) was)
    where
      by : (h : HatState) (k : Strategy) → routed (in_routers k (record h { network = net; entries = staying (is_listed net) h.entries }) h) ≡ cond (in_routers k true false) (with_network net (routed h)) (routed h)
      by h strategy.Broker = refl
      by h strategy.Client = refl
      by h strategy.Peer = refl
      by h strategy.Router = refl

  granted_routed : (c : Call) → refusal_of s.core (read s c) ≡ None → Makes c (read s c)
  granted_routed (call.Open o) h = plain_makes (opening o) (same_view routed o.region (joined (seat s.core.next_face o)) s.core.hats (λ y there. joined_routed (seat s.core.next_face o) y) place)
  granted_routed (call.Close f) h = plain_makes (closing f) (same_view_of routed f.0 (without_face f.0) s.core (λ y there. refl) place)
  granted_routed (call.FinalizeInterest f m set) h = plain_makes (finalizing f m set) (same_view_of routed f.0 (finalized f.0 m set) s.core (λ y there. refl) place)
  granted_routed (call.SetNodeIds f ids) h = plain_makes (tabling f ids) (same_view_of routed f.0 (noded f.0 ids) s.core (λ y there. refl) place)
  granted_routed (call.SetNetwork r net) h = network_makes r net (is_there (is_some (hat_at r s.core.hats)) (all_passed (causes s.core (networking r net)) h).0)
  granted_routed (call.DeclareQueryable f id w info node) h = by (by_router f s.core) refl h
    where
      by : (b : Bool) → by_router f s.core ≡ b → refusal_of s.core (cond b (announcing f (said f w s) info node) (declaring f id (said f w s) info node)) ≡ None
          → Makes (call.DeclareQueryable f id w info node) (cond b (announcing f (said f w s) info node) (declaring f id (said f w s) info node))
      by true e k = announced_makes f (opened_face s i.sound i.tied f.0 (all_passed (causes s.core (announcing f (said f w s) info node)) k).0) id w info node e
      by false e k = declared_makes f (opened_face s i.sound i.tied f.0 (all_passed (causes s.core (declaring f id (said f w s) info node)) k).0) id w info node e
  granted_routed (call.UndeclareQueryable f id w node) h = by (by_router f s.core) refl h
    where
      by : (b : Bool) → by_router f s.core ≡ b → refusal_of s.core (cond b (retracting f (said_or_none f w s) node) (withdrawing f id)) ≡ None
          → Makes (call.UndeclareQueryable f id w node) (cond b (retracting f (said_or_none f w s) node) (withdrawing f id))
      by true e k = retracted_makes f (opened_face s i.sound i.tied f.0 (all_passed (causes s.core (retracting f (said_or_none f w s) node)) k).0) id w node e
      by false e k = withdrawn_makes f (opened_face s i.sound i.tied f.0 (all_passed (causes s.core (withdrawing f id)) k).0) id w node e
  granted_routed c h = same_map was

  call_routed : (c : Call) → routed_at place (after s c) ≡ routed_after config place c (step s c) stands was
  call_routed c =
      by_granted (λ t z. routed_at place z ≡ routed_after config place c t stands was) s (read s c) (λ text z w it. it) (λ p places z w it. it)
      (λ h. granted_routed c h ∙ ap (λ b. cond b (option_map (routed_by config place c stands) was) was) (sym (granted_is_accepted s.core (read s c) h)))
      (λ r. refl)

-- ---- a run
run_routed : (config : Settings) (place : ℕ) (cs : List Call) (s : State) → InOrder config s
    → routed_at place (state_after s cs) ≡ routed_in config place cs (steps_from s cs) (λ face. standing_at face s) (routed_at place s)
run_routed config place [] s i = refl
run_routed config place (c ∷ cs) s i =
    run_routed config place cs (after s c) (after_kept (InOrder config) (granted_in_order config) (stays_in_order config) s c i)
    ∙ (λ j. routed_in config place cs (steps_from (after s c) cs) (λ face. call_stands config face s i c j) (call_routed config s i place c j))

pub all_routed : (config : Settings) (calls : List Call) (place : ℕ)
    → routed_at place (state_after (opening_state config) calls) ≡ routed_in config place calls (steps_from (opening_state config) calls) (λ face. None) (first_routed config place)
all_routed config calls place = run_routed config place calls (opening_state config) (opening_in_order config)
