-- The trace of a run picks the offers that the machine selects.
use Rattle.std.proofs.Common.{◌≡◌, ◌∙◌, refl, sym, ap, subst, ℕ, Bool, true, false, cond, not, List, [], ◌∷◌, ◌++◌, map, Option, Some, None}
use Rattle.std.specs.Prelude.{◌==◌, ◌&&◌, if◌then◌else◌, slice_get}
use Rattle.std.specs.List.{AllByRecursion, filter}
use Rattle.std.specs.Map.{values_of}
use Rattle.std.specs.BTreeMap.{is_at}
use Rattle.std.specs.Option.{option_and_then, option_map, option_map_or}
use Rattle.std.specs.Ordering.{nat_cmp}
use Rattle.zq_message.specs.declared.message.FaceId.{FaceId}
use Rattle.zq_message.specs.declared.message.Region.{Region}
use Rattle.zq_message.specs.declared.message.Request.{Request}
use Rattle.zq_namespace.specs.Denied.{is_denied}
use Rattle.zq_message.specs.Region.{region_index}
use Rattle.zq_message.specs.RegionMap.{value_at}
use Rattle.zq_strategy.specs.Kept.{face_at as hat_face}
use Rattle.zq_strategy.specs.Nets.{place_of}
use Rattle.zq_strategy.specs.Offers.{offers_by, offers_of}
use Rattle.zq_strategy.specs.Regions.{in_routers, same_region, strategy_at, strategy_of}
use Rattle.zq_strategy.specs.Routers.{context_at, source_at, zid_at}
use Rattle.zq_strategy.specs.State.{FaceState, HatState}
use Rattle.zq_strategy.specs.declared.types.Strategy.{Strategy}
use Rattle.zq_strategy.specs.declared.types.Strategy.TheVariants as strategy
use Rattle.zq_strategy.specs.declared.offer.QueryTargetQabl.{QueryTargetQabl}
use Rattle.zq_strategy.specs.OfferOrder.{sorted}
use Rattle.zq_strategy.specs.OfferOrder.{offer_cmp}
use Rattle.zq_route.specs.declared.gateways.Gateways.{Gateways}
use Rattle.zq_route.specs.Selection.{picked as by_target, with_offers}
use Rattle.zq_tables.specs.declared.resolved.Resolved.{Resolved}
use Rattle.zq_tables.specs.declared.resolved.Resolved.TheVariants as said_word
use Rattle.zq_machine.specs.declared.call.Call.{Call}
use Rattle.zq_machine.specs.declared.call.Call.TheVariants as call
use Rattle.zq_machine.specs.declared.call.Step.{Step}
use Rattle.zq_machine.specs.declared.face.OpenFace.{OpenFace}
use Rattle.zq_machine.specs.Configs.{Settings, north_of}
use Rattle.zq_machine.specs.Deciding.{is_accepted}
use Rattle.zq_machine.specs.Gates.{denied_by, gate_at}
use Rattle.zq_machine.specs.Machine.{after, state_after, step, steps_from}
use Rattle.zq_machine.specs.Selecting.{AskerState, asker_in, carries_between, filter_for, full_text, offers_to, passes as machine_passes, place_by, route_for, router_by, says_key, select as machine_select, select_for, part_for, parts_for}
use Rattle.zq_machine.specs.Standing.{Routed, listed_after, listed_in, routed, routes_in}
use Rattle.zq_machine.specs.State.{State, at, hat_at, hat_of, is_routing, kind_of, opening_state}
use Rattle.zq_machine.specs.TextCalls.{allowed, asked_said, said}
use Rattle.zq_machine.proofs.Changing.{one_number, region_there}
use Rattle.zq_machine.proofs.Standing.{its_hat, its_kept, routing_is}
use Rattle.zq_trace.specs.Faces.{Face, Trace, says}
use Rattle.zq_trace.specs.Machine.{AreSmall, PicksAlike}
use Rattle.zq_trace.specs.Selected.{allowed_key, asked_key, faces_in, filter_of, gateways, hat_in, is_routers, listed, offers_in, passes, passing, picked, place_in, routers, seen as seen_as, select, source_of, strategy_in}
use Rattle.zq_trace.proofs.Asked.{with_both}
use Rattle.zq_trace.proofs.Pending.{config_stays}
use Rattle.zq_trace.proofs.FaceLists.{faces_same}
use Rattle.zq_trace.proofs.Hats.{StandsSo, all_found, all_stand, region_in, regions_are}
use Rattle.zq_trace.proofs.Offered.{lean_faces, plain_offers, routers_offer}
use Rattle.zq_trace.proofs.Owing.{agrees_now}
use Rattle.zq_trace.proofs.Replies.{zid_same}
use Rattle.zq_trace.proofs.Regions.{one_region}
use Rattle.zq_trace.proofs.Routers.{routers_alike}
use Rattle.zq_trace.proofs.Runs.{IsRun, calls_of, reached, run_promise, state_of}
use Rattle.zq_trace.proofs.Saying.{closed_face, in_order, machine_has, open_face, said_here}
use Rattle.zq_trace.proofs.Standing.{IsSame}

-- ---- lists of gateways
one_more : (cs : List Call) (c : Call) (s : State) (was : List (ℕ × Gateways)) → listed_in (cs ++ c ∷ []) (steps_from s (cs ++ c ∷ [])) was ≡ listed_after c (step (state_after s cs) c) (listed_in cs (steps_from s cs) was)
one_more [] c s was = refl
one_more (d ∷ cs) c s was = one_more cs c (after s d) (listed_after d (step s d) was)

both_lists : (b : Bool) (l : List (ℕ × Gateways)) → cond b l l ≡ l
both_lists true l = refl
both_lists false l = refl

listed_same : (c : Call) (t : Step) (l : List (ℕ × Gateways)) → listed_after c t l ≡ (if is_accepted t.outcome then listed c l else l)
listed_same (call.SetGateways r table) t l = refl
listed_same c t l = sym (both_lists (is_accepted t.outcome) l)

tables_from : (config : Settings) (past : Trace) → IsRun config past → listed_in (calls_of past) (steps_from (opening_state config) (calls_of past)) [] ≡ gateways past
tables_from config [] run = refl
tables_from config (x ∷ past) run =
    one_more (calls_of past) x.0 (opening_state config) []
    ∙ (λ j. listed_after x.0 (step (state_of config past j) x.0) (tables_from config past run.1 j))
    ∙ ap (λ t. listed_after x.0 t (gateways past)) (sym run.0)
    ∙ listed_same x.0 x.1 (gateways past)

tables_now : (config : Settings) (past : Trace) → IsRun config past → (reached config past).core.tables ≡ gateways past
tables_now config past run = ap (λ (s : State). s.core.tables) (sym (state_of config past)) ∙ (run_promise config past).listed ∙ tables_from config past run

-- ---- lists
pub filter_same : {X : Type 0} (p q : X → Bool) → ((x : X) → p x ≡ q x) → (xs : List X) → filter p xs ≡ filter q xs
filter_same p q same [] = refl
filter_same p q same (x ∷ xs) = λ j. cond (same x j) (x ∷ filter_same p q same xs j) (filter_same p q same xs j)

pub looked : {X : Type 0} (P : ℕ × X → Type 0) (k : ℕ) (v : X) (es : List (ℕ × X)) → AllByRecursion P es → at k es ≡ Some v → P (k, v)
looked P k v [] all h = absurd (let gap : None ≡ Some v = h in cc)
looked P k v (e ∷ es) all h = by (is_at (nat_cmp k) e.0) refl h (looked P k v es all.1)
  where
    by : (b : Bool) → is_at (nat_cmp k) e.0 ≡ b → cond b (Some e.1) (at k es) ≡ Some v → (at k es ≡ Some v → P (k, v)) → P (k, v)
    by true is it rest =
        let same : e.1 ≡ v = (let it' : Some e.1 ≡ Some v = it in cc) in
        subst P (λ j. (sym (one_number k e.0 is) j, same j)) all.0
    by false is it rest = rest it

routers_same : {X : Type 0} (x : Strategy) (a b : X) → (if is_routers x then a else b) ≡ in_routers x a b
routers_same strategy.Broker a b = refl
routers_same strategy.Client a b = refl
routers_same strategy.Peer a b = refl
routers_same strategy.Router a b = refl

module _ (config : Settings) (past : Trace) (run : IsRun config past) (small : AreSmall config) where
  abbrev s : State
  s = reached config past

  -- the strategy of a region's hat
  pub strategy_same : (g : Region) (h : HatState) → hat_at g s.core.hats ≡ Some h → strategy_at h ≡ strategy_in config g
  strategy_same g h e =
      let it : StandsSo config (region_index g, kind_of h) = looked (λ x. StandsSo config (x.0, kind_of x.1)) (region_index g) h s.core.hats (all_stand config past small) (region_there g s.core.hats h e).1 in
      λ j. strategy_of (sym (one_region g h.region it.place) j) (it.north j)

  -- a region is one of routers as its hat says
  pub routes_are : (g : Region) (h : HatState) → hat_at g s.core.hats ≡ Some h → routes_in config g ≡ in_routers (strategy_at h) true false
  routes_are g h e = sym (routing_is config 0 s (in_order config past) g) ∙ ap (λ x. option_map_or is_routing x false) e

  -- and its routers stand so
  pub routers_are : (g : Region) (h : HatState) → hat_at g s.core.hats ≡ Some h → in_routers (strategy_at h) true false ≡ true → routers past g ≡ routed h
  routers_are g h e routes =
      let it : Some (routed h) ≡ Some (routers past g) = sym (ap (option_map routed) (region_there g s.core.hats h e).1) ∙ routers_alike config g (routes_are g h e ∙ routes) past run in
      cc

  module _ (asker : FaceId) (r : Request) (opened : OpenFace) (seen : at asker.0 s.core.faces ≡ Some opened) where
    abbrev f : Face
    f = (open_face config past run asker.0 opened seen).0

    abbrev a : AskerState
    a = asker_in s.core asker r.node opened

    pub hat_there : hat_of asker.0 s.core ≡ Some (its_hat s.gates s.core.faces s.core.hats s.names (in_order config past).tied asker.0 opened seen).0
    hat_there = ap (option_and_then (λ (x : OpenFace). hat_at x.region s.core.hats)) seen ∙ (its_hat s.gates s.core.faces s.core.hats s.names (in_order config past).tied asker.0 opened seen).1

    zid_kept : f.zid ≡ (its_kept s.gates s.core.faces s.core.hats s.names (in_order config past).tied asker.0 opened seen).0.zid
    zid_kept =
        (open_face config past run asker.0 opened seen).2.zid
        ∙ sym ((agrees_now config past).copies asker.0 opened (its_hat s.gates s.core.faces s.core.hats s.names (in_order config past).tied asker.0 opened seen).0 (its_kept s.gates s.core.faces s.core.hats s.names (in_order config past).tied asker.0 opened seen).0 seen hat_there (its_kept s.gates s.core.faces s.core.hats s.names (in_order config past).tied asker.0 opened seen).1).zid

    pub source_same : source_of config r.node f ≡ router_by asker r.node s.core
    source_same =
        let same = (open_face config past run asker.0 opened seen).2 in
        let h = its_hat s.gates s.core.faces s.core.hats s.names (in_order config past).tied asker.0 opened seen in
        let k = its_kept s.gates s.core.faces s.core.hats s.names (in_order config past).tied asker.0 opened seen in
        (λ j. if is_routers (strategy_in config (same.region j)) then slice_get (same.nodes j).ids r.node else Some (zid_kept j))
        ∙ ap (λ x. if is_routers x then slice_get k.0.nodes.ids r.node else Some k.0.zid) (sym (strategy_same opened.region h.0 h.1))
        ∙ routers_same (strategy_at h.0) (slice_get k.0.nodes.ids r.node) (Some k.0.zid)
        ∙ sym (ap (option_and_then (λ (x : FaceState). in_routers (strategy_at h.0) (zid_at r.node x) (Some x.zid))) k.1)
        ∙ sym (ap (option_and_then (source_at asker.0 r.node)) hat_there)

    -- the place of the router that asks
    place_same : place_in config past r.node f ≡ place_by asker r.node s.core
    place_same =
        (λ j. if is_routers (strategy_in config (same.region j)) then option_and_then (place_of (routers past (same.region j)).network) (slice_get (same.nodes j).ids r.node) else Some 0)
        ∙ ap (λ x. if is_routers x then option_and_then (place_of (routers past opened.region).network) (slice_get k.0.nodes.ids r.node) else Some 0) (sym (strategy_same opened.region h.0 h.1))
        ∙ routers_same (strategy_at h.0) (option_and_then (place_of (routers past opened.region).network) (slice_get k.0.nodes.ids r.node)) (Some 0)
        ∙ by (strategy_at h.0) refl
        ∙ sym (ap (λ (x : Option FaceState). in_routers (strategy_at h.0) (option_and_then (λ (y : FaceState). option_and_then (place_of h.0.network) (zid_at r.node y)) x) (Some 0)) k.1)
        ∙ sym (ap (option_and_then (context_at asker.0 r.node)) hat_there)
      where
        same : IsSame config (machine_has config past run asker.0 opened seen) f
        same = (open_face config past run asker.0 opened seen).2

        h : (y : HatState) × (hat_at opened.region s.core.hats ≡ Some y)
        h = its_hat s.gates s.core.faces s.core.hats s.names (in_order config past).tied asker.0 opened seen

        k : (y : FaceState) × (hat_face asker.0 h.0 ≡ Some y)
        k = its_kept s.gates s.core.faces s.core.hats s.names (in_order config past).tied asker.0 opened seen

        by : (x : Strategy) → strategy_at h.0 ≡ x → in_routers x (option_and_then (place_of (routers past opened.region).network) (slice_get k.0.nodes.ids r.node)) (Some 0) ≡ in_routers x (option_and_then (place_of h.0.network) (slice_get k.0.nodes.ids r.node)) (Some 0)
        by strategy.Broker is = refl
        by strategy.Client is = refl
        by strategy.Peer is = refl
        by strategy.Router is = ap (λ (x : Routed). option_and_then (place_of x.network) (slice_get k.0.nodes.ids r.node)) (routers_are opened.region h.0 h.1 (ap (λ y. in_routers y true false) is))

    filter_is : (o : QueryTargetQabl) → filter_of config past r.node f o ≡ filter_for a o
    filter_is o =
        let same = (open_face config past run asker.0 opened seen).2 in
        λ j. record { src = same.region j; dst = o.region; src_zid = source_same j; fwd_zid = Some (same.zid j); dst_zid = sym (zid_same config past run 0 o.face.0) j }

    own : config.zid ≡ s.core.config.zid
    own = ap (λ (c : Settings). c.zid) (sym (config_stays config past))

    passes_same : (o : QueryTargetQabl) → passes config past asker r.node f o ≡ machine_passes a o
    passes_same o = λ j. not (o.face.0 == asker.0) && carries_between (sym (tables_now config past run) j) (own j) (filter_is o j)

    -- ---- a region
    module _ (q : List ℕ) where
      abbrev IsHat : ℕ × HatState → Type 0
      IsHat e = StandsSo config (e.0, kind_of e.1) × (at e.0 s.core.hats ≡ Some e.1)

      offers_alike : (e : ℕ × HatState) → IsHat e → offers_in config past r.node f q e.1.region ≡ offers_to a q e.1
      offers_alike e is =
          (λ j. offers_of (hat_in config past e.1.region) (same.region j) q (if same_region (same.region j) e.1.region then place_same j else Some 0))
          ∙ ap (sorted offer_cmp) (ap (λ x. offers_by x (hat_in config past e.1.region) opened.region q place) strategy_is ∙ by (strategy_at e.1) refl)
        where
          same : IsSame config (machine_has config past run asker.0 opened seen) f
          same = (open_face config past run asker.0 opened seen).2

          place : Option ℕ
          place = if same_region opened.region e.1.region then place_by asker r.node s.core else Some 0

          hat_here : hat_at e.1.region s.core.hats ≡ Some e.1
          hat_here = ap (λ b. if b then value_at s.core.hats e.1.region else None) is.0.small ∙ ap (λ k. at k s.core.hats) (sym is.0.place) ∙ is.1

          strategy_is : strategy_in config e.1.region ≡ strategy_at e.1
          strategy_is = ap (strategy_of e.1.region) (sym is.0.north)

          alike : (b : Bool) → in_routers (strategy_at e.1) true false ≡ b → lean_faces b e.1.faces ≡ lean_faces b (map (λ (x : ℕ × Face). (x.0, seen_as x.1)) (faces_in past e.1.region))
          alike b e' = faces_same config past run e.1.region e.1 hat_here b (routes_are e.1.region e.1 hat_here ∙ e')

          plain : (x : Strategy) → in_routers x true false ≡ false → strategy_at e.1 ≡ x → offers_by x (hat_in config past e.1.region) opened.region q place ≡ offers_by x e.1 opened.region q place
          plain x not' is' =
              plain_offers e.1 (north_of config.entries) config.zid (map (λ (y : ℕ × Face). (y.0, seen_as y.1)) (faces_in past e.1.region)) (routers past e.1.region).entries (routers past e.1.region).network opened.region q x place place not'
              (alike false (ap (λ y. in_routers y true false) is' ∙ not'))

          by : (x : Strategy) → strategy_at e.1 ≡ x → offers_by x (hat_in config past e.1.region) opened.region q place ≡ offers_by x e.1 opened.region q place
          by strategy.Broker is' = plain strategy.Broker refl is'
          by strategy.Client is' = plain strategy.Client refl is'
          by strategy.Peer is' = plain strategy.Peer refl is'
          by strategy.Router is' =
              let routes : in_routers (strategy_at e.1) true false ≡ true = ap (λ y. in_routers y true false) is' in
              let are = routers_are e.1.region e.1 hat_here routes in
              routers_offer e.1 (north_of config.entries) config.zid (map (λ (y : ℕ × Face). (y.0, seen_as y.1)) (faces_in past e.1.region)) (routers past e.1.region).entries (routers past e.1.region).network opened.region q place place
              (alike true routes) (ap (λ (x : Routed). x.entries) are) (ap (λ (x : Routed). x.network) are) (sym is.0.own) refl

      part_same : (e : ℕ × HatState) → IsHat e → passing config past asker r q f e.1.region ≡ part_for a q e.1
      part_same e is =
          ap (filter (passes config past asker r.node f)) (offers_alike e is) ∙ filter_same (passes config past asker r.node f) (machine_passes a) passes_same (offers_to a q e.1)

      all_same : (es : List (ℕ × HatState)) → AllByRecursion IsHat es → map (passing config past asker r q f) (map (region_in config) (values_of es)) ≡ parts_for a q (values_of es)
      all_same [] all = refl
      all_same (e ∷ es) all = λ j. part_same e all.0 j ∷ all_same es all.1 j

      best_is : config.best ≡ s.core.config.best
      best_is = ap (λ (c : Settings). c.best) (sym (config_stays config past))

      picked_same : picked config past asker r q f ≡ values_of (route_for s.core a q r.target)
      picked_same =
          (λ j. values_of (with_offers [] (by_target (best_is j) r.target (map (passing config past asker r q f) (regions_are config past j)))))
          ∙ ap (λ parts. values_of (with_offers [] (by_target s.core.config.best r.target parts))) (all_same s.core.hats (with_both (λ e. StandsSo config (e.0, kind_of e.1)) (λ (e : ℕ × HatState). at e.0 s.core.hats ≡ Some e.1) IsHat (λ e x y. (x, y)) s.core.hats (all_stand config past small) (all_found config past)))

    -- ---- all regions
    select_by : (w : Resolved) (denied : List (List ℕ)) → option_map_or (λ q. picked config past asker r q f) (allowed_key denied w) [] ≡ select_for s.core asker (allowed denied w) r (Some opened)
    select_by w denied = by (says_key w) (is_denied denied (full_text w)) refl
      where
        by : (x y : Bool) → says_key w ≡ x → option_map_or (λ q. picked config past asker r q f) (if x && not y then Some (full_text w) else None) [] ≡ select_for s.core asker (if x && y then said_word.Empty else w) r (Some opened)
        by true false e = picked_same (full_text w) ∙ sym (ap (λ b. if b then values_of (route_for s.core (asker_in s.core asker r.node opened) (full_text w) r.target) else []) e)
        by true true e = refl
        by false y e = sym (ap (λ b. if b then values_of (route_for s.core (asker_in s.core asker r.node opened) (full_text w) r.target) else []) e)

    open_same : select config past asker r ≡ machine_select s.core asker (asked_said asker r s) r
    open_same =
        let x = open_face config past run asker.0 opened seen in
        ap (λ g. option_map_or (λ (y : Face). option_map_or (λ q. picked config past asker r q y) (option_and_then (λ (z : Face). allowed_key z.denied (says r.wire z)) g) []) g []) x.1
        ∙ (λ j. option_map_or (λ q. picked config past asker r q f) (allowed_key (x.2.denied j) (said_here config past run asker.0 opened seen r.wire j)) [])
        ∙ select_by (said asker r.wire s) (denied_by (gate_at asker.0 s.gates))
        ∙ sym (ap (select_for s.core asker (asked_said asker r s) r) seen)

pub picks_alike : (config : Settings) → AreSmall config → PicksAlike config
picks_alike config small past run asker r = by (at asker.0 (reached config past).core.faces) refl
  where
    by : (o : Option OpenFace) → at asker.0 (reached config past).core.faces ≡ o → select config past asker r ≡ machine_select (reached config past).core asker (asked_said asker r (reached config past)) r
    by None gone =
        ap (λ g. option_map_or (λ (y : Face). option_map_or (λ q. picked config past asker r q y) (asked_key past asker r) []) g []) (closed_face config past run asker.0 gone)
        ∙ sym (ap (select_for (reached config past).core asker (asked_said asker r (reached config past)) r) gone)
    by (Some opened) seen = open_same config past run small asker r opened seen
