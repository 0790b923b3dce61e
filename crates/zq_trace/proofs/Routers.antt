-- What stands of the routers of a region by a run's trace is what its hat has of them.
use Rattle.std.proofs.Common.{◌≡◌, ◌∙◌, refl, sym, ap, subst, ℕ, Bool, true, false, cond, List, [], ◌∷◌, ◌++◌, fold, Option, Some, None, eqb-true}
use Rattle.std.specs.Prelude.{◌==◌, ◌&&◌, if◌then◌else◌, slice_get}
use Rattle.std.specs.BTreeMap.{is_at}
use Rattle.std.specs.Option.{option_map, option_map_or}
use Rattle.std.specs.Ordering.{nat_cmp}
use Rattle.std.proofs.lemmas.Bool.{false≢true}
use Rattle.std.proofs.lemmas.Cmp.{nat_cmp_total}
use Rattle.std.proofs.lemmas.Map.Lookups.{exact_unsigned}
use Rattle.zq_key.proofs.Lookups.{found_after_insertion}
use Rattle.zq_message.specs.declared.message.Region.{Region}
use Rattle.zq_message.specs.declared.message.WireExpr.{WireExpr}
use Rattle.zq_message.specs.declared.message.Zid.{Zid}
use Rattle.zq_message.specs.Region.{region_index}
use Rattle.zq_strategy.specs.Kept.{new_hat}
use Rattle.zq_strategy.specs.Nets.{no_network}
use Rattle.zq_strategy.specs.State.{HatState}
use Rattle.zq_machine.specs.declared.call.Call.{Call}
use Rattle.zq_machine.specs.declared.call.Call.TheVariants as call
use Rattle.zq_machine.specs.declared.call.Step.{Step}
use Rattle.zq_machine.specs.declared.config.Entry.{Entry}
use Rattle.zq_machine.specs.Configs.{Settings, north_of, region_of}
use Rattle.zq_machine.specs.Deciding.{is_accepted}
use Rattle.zq_machine.specs.Machine.{after, state_after, step, steps_from}
use Rattle.zq_machine.specs.Selecting.{full_text}
use Rattle.zq_machine.specs.Standing.{Routed, Standing, first_routed, routed, routed_after, routed_at, routed_by, routed_in, routes_at, routes_in, standing_after, standing_at, standing_in, text_or_none, text_said, with_network, with_routed, without_routed}
use Rattle.zq_machine.specs.State.{State, at, first_hats, is_region, is_routing, opening_state, with_hat}
use Rattle.zq_trace.specs.Faces.{Face, Trace, face_at, says}
use Rattle.zq_trace.specs.Selected.{announced, by_router, routers}
use Rattle.zq_trace.proofs.Regions.{one_region}
use Rattle.zq_trace.proofs.Runs.{IsRun, calls_of, reached, run_promise, state_of}
use Rattle.zq_trace.proofs.Standing.{Alike, IsSame, faces_alike, says_same}

-- ---- what stands, call by call
one_more : (config : Settings) (place : ℕ) (cs : List Call) (c : Call) (s : State) (stands : ℕ → Option Standing) (was : Option Routed)
    → routed_in config place (cs ++ c ∷ []) (steps_from s (cs ++ c ∷ [])) stands was
    ≡ routed_after config place c (step (state_after s cs) c) (λ face. standing_in config face cs (steps_from s cs) (stands face)) (routed_in config place cs (steps_from s cs) stands was)
one_more config place [] c s stands was = refl
one_more config place (d ∷ cs) c s stands was = one_more config place cs c (after s d) (λ face. standing_after config face d (step s d) (stands face)) (routed_after config place d (step s d) stands was)

routed_next : (config : Settings) (past : Trace) (place : ℕ) (c : Call)
    → routed_at place (after (reached config past) c) ≡ routed_after config place c (step (reached config past) c) (λ face. standing_at face (reached config past)) (routed_at place (reached config past))
routed_next config past place c =
    ap (routed_at place) (sym (state_of config ((c, step (reached config past) c) ∷ past)))
    ∙ (run_promise config ((c, step (reached config past) c) ∷ past)).routed place
    ∙ one_more config place (calls_of past) c (opening_state config) (λ face. None) (first_routed config place)
    ∙ (λ j. routed_after config place c (step (state_of config past j) c) (λ face. sym ((run_promise config past).stands face) j) (sym ((run_promise config past).routed place) j))
    ∙ ap (λ s. routed_after config place c (step (reached config past) c) (λ face. standing_at face s) (routed_at place s)) (state_of config past)

-- ---- before any call
abbrev none_yet : Routed
none_yet = record { entries = []; network = no_network }

module _ (config : Settings) (place : ℕ) where
  abbrev IsEmpty : List (ℕ × HatState) → Type 0
  IsEmpty hats = option_map routed (at place hats) ≡ option_map (λ (h : HatState). none_yet) (at place hats)

  first_empty : (es : List Entry) (hats : List (ℕ × HatState)) → IsEmpty hats → IsEmpty (fold (with_hat config) hats es)
  first_empty [] hats was = was
  first_empty (e ∷ es) hats was =
      first_empty es (with_hat config hats e)
      (subst (λ o. option_map routed o ≡ option_map (λ (h : HatState). none_yet) o) (sym (found_after_insertion nat_cmp_total exact_unsigned (region_index (region_of e)) place new hats)) (by (is_at (nat_cmp (region_index (region_of e))) place)))
    where
      new : HatState
      new = new_hat (region_of e) (north_of config.entries) config.zid config.start.told

      by : (b : Bool) → option_map routed (cond b (Some new) (at place hats)) ≡ option_map (λ (h : HatState). none_yet) (cond b (Some new) (at place hats))
      by true = refl
      by false = was

  first_none : first_routed config place ≡ option_map (λ (h : HatState). none_yet) (at place (first_hats config))
  first_none = first_empty config.entries [] refl

-- ---- a region of routers
module _ (config : Settings) (r : Region) (routes : routes_in config r ≡ true) where
  abbrev place : ℕ
  place = region_index r

  and_false : (a : Bool) → (a && false) ≡ false
  and_false true = refl
  and_false false = refl

  -- a face is of the region, which is then one of routers
  its_place : (g : Region) → routes_at config place g ≡ (region_index g == place)
  its_place g = by (region_index g == place) refl
    where
      by : (b : Bool) → (region_index g == place) ≡ b → (routes_in config g && b) ≡ b
      by true e = ap (λ b. b && true) (ap (routes_in config) (one_region g r (eqb-true (region_index g) place e)) ∙ routes)
      by false e = and_false (routes_in config g)

  module _ (face : ℕ) (st : Standing) (f : Face) (same : IsSame config st f) where
    -- by the router that a node of the face stands for
    by_face : (node : ℕ) (was : Routed) (theirs : Routed → Zid → Routed) (ours : Face → Routed → Zid → Routed) → ours f ≡ theirs
        → by_router r node ours was f ≡ cond (routes_at config place st.opened.region) (option_map_or (theirs was) (slice_get st.kept.nodes.ids node) was) was
    by_face node was theirs ours alike =
        (λ j. cond (region_index (same.region j) == place) (option_map_or (alike j was) (slice_get (same.nodes j).ids node) was) was)
        ∙ ap (λ b. cond b (option_map_or (theirs was) (slice_get st.kept.nodes.ids node) was) was) (sym (its_place st.opened.region))

    text_same : (w : WireExpr) → full_text (says w f) ≡ text_said st w
    text_same w = ap full_text (says_same config face w st f same)

    text_or_same : (w : Option WireExpr) → option_map_or (λ x. full_text (says x f)) w [] ≡ text_or_none st w
    text_or_same None = refl
    text_or_same (Some w) = text_same w

  module _ (past : Trace) (run : IsRun config past) (was : Routed) where
    abbrev stands : ℕ → Option Standing
    stands face = standing_at face (reached config past)

    -- what a face makes of them, if it is open
    each : (face : ℕ) (theirs : Routed → Standing → Routed) (ours : Routed → Face → Routed) → ((st : Standing) (f : Face) → IsSame config st f → ours was f ≡ theirs was st)
        → option_map_or (ours was) (face_at past face) was ≡ option_map_or (theirs was) (stands face) was
    each face theirs ours makes = by (stands face) (face_at past face) (faces_alike config face past run)
      where
        by : (s : Option Standing) (f : Option Face) → Alike config s f → option_map_or (ours was) f was ≡ option_map_or (theirs was) s was
        by None None same = refl
        by None (Some f) same = absurd same
        by (Some st) None same = absurd same
        by (Some st) (Some f) same = makes st f same

    call_makes : (c : Call) → announced r c past was ≡ routed_by config place c stands was
    call_makes (call.DeclareQueryable n id w info node) =
        each n.0 (λ x st. cond (routes_at config place st.opened.region) (option_map_or (with_routed (text_said st w) info x) (slice_get st.kept.nodes.ids node) x) x) (λ x f. by_router r node (λ g. with_routed (full_text (says w g)) info) x f)
        (λ st f same. by_face n.0 st f same node was (with_routed (text_said st w) info) (λ g. with_routed (full_text (says w g)) info) (ap (λ t. with_routed t info) (text_same n.0 st f same w)))
    call_makes (call.UndeclareQueryable n id w node) =
        each n.0 (λ x st. cond (routes_at config place st.opened.region) (option_map_or (without_routed (text_or_none st w) x) (slice_get st.kept.nodes.ids node) x) x) (λ x f. by_router r node (λ g. without_routed (option_map_or (λ e. full_text (says e g)) w [])) x f)
        (λ st f same. by_face n.0 st f same node was (without_routed (text_or_none st w)) (λ g. without_routed (option_map_or (λ e. full_text (says e g)) w [])) (ap without_routed (text_or_same n.0 st f same w)))
    call_makes (call.SetNetwork g net) = ap (λ b. cond b (with_network net was) was) (sym (its_place g))
    call_makes c = refl

  step_makes : (c : Call) (t : Step) (past : Trace) → IsRun config past → routed_after config place c t (λ face. standing_at face (reached config past)) (Some (routers past r)) ≡ Some (routers ((c, t) ∷ past) r)
  step_makes c t past run = by (is_accepted t.outcome)
    where
      by : (b : Bool) → cond b (Some (routed_by config place c (λ face. standing_at face (reached config past)) (routers past r))) (Some (routers past r)) ≡ Some (cond b (announced r c past (routers past r)) (routers past r))
      by true = ap Some (sym (call_makes past run (routers past r) c))
      by false = refl

  -- there is a hat there
  first_there : option_map (λ (h : HatState). none_yet) (at place (first_hats config)) ≡ Some none_yet
  first_there = by (is_region r) (at place (first_hats config)) routes
    where
      by : (b : Bool) (o : Option HatState) → option_map_or is_routing (if b then o else None) false ≡ true → option_map (λ (h : HatState). none_yet) o ≡ Some none_yet
      by true (Some h) e = refl
      by true None e = absurd (false≢true e)
      by false o e = absurd (false≢true e)

  pub routers_alike : (past : Trace) → IsRun config past → routed_at place (reached config past) ≡ Some (routers past r)
  routers_alike [] run = first_none config place ∙ first_there
  routers_alike (x ∷ past) run =
      subst (λ (t : Step). routed_at place (after (reached config past) x.0) ≡ Some (routers ((x.0, t) ∷ past) r)) (sym run.0)
      (routed_next config past place x.0
      ∙ ap (routed_after config place x.0 (step (reached config past) x.0) (λ face. standing_at face (reached config past))) (routers_alike past run.1)
      ∙ step_makes x.0 (step (reached config past) x.0) past run.1)
