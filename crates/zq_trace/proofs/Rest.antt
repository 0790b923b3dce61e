-- What refuses openings, declarations and withdrawals of queryables.
use Rattle.std.proofs.Common.{◌≡◌, ◌∙◌, refl, sym, ap, subst, ℕ, ◌+◌, ◌^◌, Bool, true, false, cond, not, List, [], ◌∷◌, ◌++◌, map, Option, Some, None}
use Rattle.std.specs.Prelude.{◌==◌, ◌&&◌, if◌then◌else◌, is_none, slice_get}
use Rattle.std.proofs.lemmas.Bool.{false≢true}
use Rattle.std.specs.Option.{is_some, option_and_then, option_map_or}
use Rattle.std.specs.Str.{bytes_eq}
use Rattle.zq_message.specs.declared.message.FaceId.{FaceId}
use Rattle.zq_message.specs.declared.message.QueryTarget.TheVariants as target
use Rattle.zq_message.specs.declared.message.QueryableInfoType.{QueryableInfoType}
use Rattle.zq_message.specs.declared.message.Request.{Request}
use Rattle.zq_message.specs.declared.message.WireExpr.{WireExpr}
use Rattle.zq_message.specs.declared.message.Zid.{Zid}
use Rattle.zq_strategy.specs.declared.types.Declaration.{Declaration}
use Rattle.zq_strategy.specs.declared.types.Strategy.{Strategy}
use Rattle.zq_strategy.specs.declared.types.Strategy.TheVariants as strategy
use Rattle.zq_strategy.specs.Kept.{declaration, face_at as hat_face, has_any, is_apart, is_full as hat_full}
use Rattle.zq_strategy.specs.Entries.{entry_of as entry_in}
use Rattle.zq_strategy.specs.Routers.{entry_at, zid_at}
use Rattle.zq_strategy.specs.Regions.{in_routers, is_upstream, strategy_at}
use Rattle.zq_strategy.specs.State.{FaceState, HatState}
use Rattle.zq_tables.specs.Naming.{plain}
use Rattle.zq_tables.specs.declared.resolved.Resolved.{Resolved}
use Rattle.zq_tables.specs.declared.resolved.Resolved.TheVariants as said_word
use Rattle.zq_strategy.specs.Nets.{is_zid}
use Rattle.zq_machine.specs.declared.call.Call.{Call}
use Rattle.zq_machine.specs.declared.call.Call.TheVariants as call
use Rattle.zq_machine.specs.declared.call.Opening.{Opening}
use Rattle.zq_machine.specs.Gates.{is_sound}
use Rattle.zq_message.specs.declared.message.Region.{Region}
use Rattle.zq_interests.specs.Interests.{asks_another, interest_at, interests_of, same_asked}
use Rattle.zq_interests.specs.declared.types.InterestEntry.{InterestEntry}
use Rattle.zq_trace.proofs.FaceLists.{faces_same}
use Rattle.zq_trace.proofs.Interests.{Asks, asks_alike}
use Rattle.zq_trace.proofs.Kept.{faces_next}
use Rattle.zq_trace.proofs.Offered.{lean}
use Rattle.zq_trace.proofs.Places.{region_same}
use Rattle.zq_machine.specs.declared.call.Refusal.TheVariants as refusal
use Rattle.zq_machine.specs.declared.face.OpenFace.{OpenFace}
use Rattle.zq_machine.specs.Configs.{Settings}
use Rattle.zq_machine.specs.Deciding.{Cause, causes as machine_causes, clashes as machine_clashes, entry_of, first_of, entry_by as entry_there, has_declared, lacks_router, lacks_told, refusal_of as machine_refusal, unknown_face}
use Rattle.zq_machine.specs.Selecting.{full_text, is_unscoped, says_key}
use Rattle.zq_machine.specs.State.{State, at, clashes_in, has_declared_in, has_hat, hat_at, hat_of, is_full_region, is_routing}
use Rattle.zq_machine.specs.Standing.{routed, routes_in}
use Rattle.zq_machine.specs.TextCalls.{announcing, by_router, declaring, opening, read, retracting, said, said_or_none, withdrawing}
use Rattle.zq_machine.proofs.Standing.{its_hat, its_kept, routing_is}
use Rattle.zq_trace.specs.Faces.{Face, Trace, face_at}
use Rattle.zq_trace.specs.Machine.{AreSmall, of_machine}
use Rattle.zq_trace.specs.Refusals.{Lacks, asks_else, causes, clashes, has_entry, is_full, no_region, is_router, no_key, no_router, of_face, refusal_of, said_at}
use Rattle.zq_trace.specs.Selected.{faces_in, is_routers, routers, seen as seen_as, source_of, strategy_in}
use Rattle.zq_trace.proofs.Pending.{config_stays}
use Rattle.zq_trace.proofs.Picks.{hat_there, routers_are, source_same, strategy_same}
use Rattle.zq_trace.proofs.Refuses.{behind, by_face, f, head_true, here, said_same}
use Rattle.zq_trace.proofs.Runs.{IsRun, reached}
use Rattle.zq_trace.proofs.Saying.{in_order, open_face}

routers_is : (x : Strategy) → is_routers x ≡ in_routers x true false
routers_is strategy.Broker = refl
routers_is strategy.Client = refl
routers_is strategy.Peer = refl
routers_is strategy.Router = refl

module _ (config : Settings) (past : Trace) (run : IsRun config past) (small : AreSmall config) where
  abbrev s : State
  s = reached config past

  abbrev lacks : Lacks
  lacks = of_machine config

  module _ (face : FaceId) (p : OpenFace) (seen : at face.0 s.core.faces ≡ Some p) where
    abbrev x : Face
    x = f config past run lacks face p seen

    its : face_at past face.0 ≡ Some x
    its = here config past run lacks face p seen

    abbrev hat : HatState
    hat = (its_hat s.gates s.core.faces s.core.hats s.names (in_order config past).tied face.0 p seen).0

    abbrev kept : FaceState
    kept = (its_kept s.gates s.core.faces s.core.hats s.names (in_order config past).tied face.0 p seen).0

    hat_is : hat_at p.region s.core.hats ≡ Some hat
    hat_is = (its_hat s.gates s.core.faces s.core.hats s.names (in_order config past).tied face.0 p seen).1

    kept_is : hat_face face.0 hat ≡ Some kept
    kept_is = (its_kept s.gates s.core.faces s.core.hats s.names (in_order config past).tied face.0 p seen).1

    abbrev asking : ℕ → Request
    asking node = record { id = 0; wire = plain []; target = target.All; timeout = None; node = node; qos = 0; payload = [] }

    of_hat : hat_of face.0 s.core ≡ Some hat
    of_hat = hat_there config past run small face (asking 0) p seen

    pub router_same : of_face past face (is_router config) ≡ by_router face s.core
    router_same =
        ap (λ g. option_map_or (is_router config) g false) its
        ∙ ap (λ g. is_routers (strategy_in config g)) (open_face config past run face.0 p seen).2.region
        ∙ ap is_routers (sym (strategy_same config past run small p.region hat hat_is))
        ∙ routers_is (strategy_at hat)
        ∙ sym (ap (λ h. option_map_or is_routing h false) of_hat)

    no_router_same : (node : ℕ) → (no_router config past face node).0 ≡ lacks_router face node s.core
    no_router_same node =
        ap (λ g. option_map_or (λ (y : Face). option_map_or (is_zid config.zid) (source_of config node y) true) g false) its
        ∙ (λ j. option_map_or (is_zid ((sym (config_stays config past) j).zid)) (source_same config past run small face (asking node) p seen j) true)

    plain_here : of_face past face (is_router config) ≡ false → routes_in config p.region ≡ false
    plain_here e =
        sym (routing_is config 0 s (in_order config past) p.region)
        ∙ ap (λ h. option_map_or is_routing h false) hat_is
        ∙ sym (ap (λ h. option_map_or is_routing h false) of_hat)
        ∙ sym router_same ∙ e

    declared_same : of_face past face (is_router config) ≡ false → x.queryables ≡ kept.declared
    declared_same e = (open_face config past run face.0 p seen).2.queryables (plain_here e)

    clashes_same : (id : ℕ) (key : List ℕ) → of_face past face (is_router config) ≡ false → of_face past face (clashes id key) ≡ machine_clashes face id key s.core
    clashes_same id key e =
        ap (λ g. option_map_or (clashes id key) g false) its
        ∙ ap (λ ds. option_map_or (λ (d : Declaration). not (bytes_eq d.key key)) (at id ds) false) (declared_same e)
        ∙ sym (ap (λ k. option_map_or (is_apart key) (option_and_then (declaration id) k) false) kept_is)
        ∙ sym (ap (clashes_in face.0 id key) of_hat)

    has_same : (id : ℕ) → of_face past face (is_router config) ≡ false → of_face past face (λ g. is_some (at id g.queryables)) ≡ has_declared face id s.core
    has_same id e =
        ap (λ g. option_map_or (λ (y : Face). is_some (at id y.queryables)) g false) its
        ∙ ap (λ ds. is_some (at id ds)) (declared_same e)
        ∙ sym (ap (λ k. is_some (option_and_then (declaration id) k)) kept_is)
        ∙ sym (ap (has_declared_in face.0 id) of_hat)

    -- the region is one of routers
    routes_here : of_face past face (is_router config) ≡ true → in_routers (strategy_at hat) true false ≡ true
    routes_here e = sym (ap (λ h. option_map_or is_routing h false) of_hat) ∙ sym router_same ∙ e

    routers_here : of_face past face (is_router config) ≡ true → routers past x.region ≡ routed hat
    routers_here e = ap (routers past) (open_face config past run face.0 p seen).2.region ∙ routers_are config past run small p.region hat hat_is (routes_here e)

    entry_same : (node : ℕ) (key : List ℕ) → of_face past face (is_router config) ≡ true → of_face past face (has_entry past node key) ≡ is_some (entry_of face node key s.core)
    entry_same node key e =
        ap (λ g. option_map_or (has_entry past node key) g false) its
        ∙ (λ j. option_map_or (λ (z : Zid). is_some (entry_in z.0 key (routers_here e j).entries)) (slice_get ((open_face config past run face.0 p seen).2.nodes j).ids node) false)
        ∙ by (slice_get kept.nodes.ids node)
        ∙ sym (ap (λ (k : Option Zid). is_some (option_and_then (λ (z : Zid). entry_at z.0 key hat) k)) (router_source (strategy_at hat) (routes_here e)))
        ∙ sym (ap (λ k. is_some (option_and_then (λ (z : Zid). entry_at z.0 key hat) (option_and_then (λ (y : FaceState). in_routers (strategy_at hat) (zid_at node y) (Some y.zid)) k))) kept_is)
        ∙ sym (ap (λ h. is_some (option_and_then (entry_there face.0 node key) h)) of_hat)
      where
        by : (z : Option Zid) → option_map_or (λ (y : Zid). is_some (entry_in y.0 key hat.entries)) z false ≡ is_some (option_and_then (λ (y : Zid). entry_at y.0 key hat) z)
        by None = refl
        by (Some z) = refl

        router_source : (y : Strategy) → in_routers y true false ≡ true → in_routers y (zid_at node kept) (Some kept.zid) ≡ zid_at node kept
        router_source strategy.Router h = refl
        router_source strategy.Broker h = absurd (false≢true h)
        router_source strategy.Client h = absurd (false≢true h)
        router_source strategy.Peer h = absurd (false≢true h)

    said_or_same : (w : Option WireExpr) → option_map_or (said_at past face) w said_word.Empty ≡ said_or_none face w s
    said_or_same None = refl
    said_or_same (Some w) = said_same config past run lacks face p seen w

  -- ---- a declaration
  module _ (face : FaceId) (id : ℕ) (w : WireExpr) (info : QueryableInfoType) (node : ℕ) where
    abbrev c : Call
    c = call.DeclareQueryable face id w info node

    abbrev place : Bool → Cause
    place b = if b then no_router config past face node else (of_face past face (clashes id (full_text (said_at past face w))), refusal.IdInUse)

    -- the machine's causes, by whether the face is a router's
    abbrev theirs : Bool → List Cause
    theirs b = machine_causes s.core (if b then announcing face (said face w s) info node else declaring face id (said face w s) info node)

    abbrev told_lack : Bool
    told_lack = lacks_told s.core (read s c)

    ours_by : (b : Bool) (p : OpenFace) (seen : at face.0 s.core.faces ≡ Some p) → of_face past face (is_router config) ≡ b
        → first_of (no_key (said_at past face w) ++ place b ∷ (lacks_told s.core (if b then announcing face (said face w s) info node else declaring face id (said face w s) info node), refusal.NoFreeId) ∷ []) ≡ first_of (behind (theirs b))
    ours_by true p seen e = λ j. first_of ((is_unscoped (said_same config past run lacks face p seen w j), refusal.UnknownScope) ∷ (not (says_key (said_same config past run lacks face p seen w j)), refusal.InvalidKeyExpr) ∷ (no_router_same face p seen node j, refusal.UnknownRouter) ∷ (lacks_told s.core (announcing face (said face w s) info node), refusal.NoFreeId) ∷ [])
    ours_by false p seen e =
        (λ j. first_of ((is_unscoped (said_same config past run lacks face p seen w j), refusal.UnknownScope) ∷ (not (says_key (said_same config past run lacks face p seen w j)), refusal.InvalidKeyExpr) ∷ (of_face past face (clashes id (full_text (said_same config past run lacks face p seen w j))), refusal.IdInUse) ∷ (lacks_told s.core (declaring face id (said face w s) info node), refusal.NoFreeId) ∷ []))
        ∙ ap (λ b. first_of ((is_unscoped (said face w s), refusal.UnknownScope) ∷ (not (says_key (said face w s)), refusal.InvalidKeyExpr) ∷ (b, refusal.IdInUse) ∷ (lacks_told s.core (declaring face id (said face w s) info node), refusal.NoFreeId) ∷ [])) (clashes_same face p seen id (full_text (said face w s)) e)

    theirs_first : (b : Bool) → first_of (theirs b) ≡ first_of (unknown_face face s.core ∷ behind (theirs b))
    theirs_first true = refl
    theirs_first false = refl

    pub declare_refuses : refusal_of lacks config past c ≡ machine_refusal s.core (read s c)
    declare_refuses =
        by_face config past run lacks face (behind (causes lacks config past c)) (behind (theirs (by_router face s.core)))
        (λ p seen.
        (λ j. first_of (no_key (said_at past face w) ++ place (router_same face p seen j) ∷ (told_lack, refusal.NoFreeId) ∷ []))
        ∙ ours_by (by_router face s.core) p seen (router_same face p seen))
        ∙ sym (theirs_first (by_router face s.core))

  -- ---- a withdrawal
  module _ (face : FaceId) (id : ℕ) (w : Option WireExpr) (node : ℕ) where
    abbrev d : Call
    d = call.UndeclareQueryable face id w node

    abbrev key : Resolved
    key = option_map_or (said_at past face) w said_word.Empty

    abbrev our_causes : Bool → List Cause
    our_causes b = if b then no_key key ++ no_router config past face node ∷ (not (of_face past face (has_entry past node (full_text key))), refusal.UnknownId) ∷ [] else (not (of_face past face (λ g. is_some (at id g.queryables))), refusal.UnknownId) ∷ []

    abbrev their_causes : Bool → List Cause
    their_causes b = machine_causes s.core (if b then retracting face (said_or_none face w s) node else withdrawing face id)

    none_not : {X : Type 0} (y : Option X) → not (is_some y) ≡ is_none y
    none_not None = refl
    none_not (Some y) = refl

    entry_by : (b : Bool) (p : OpenFace) (seen : at face.0 s.core.faces ≡ Some p) → of_face past face (is_router config) ≡ b → first_of (our_causes b) ≡ first_of (behind (their_causes b))
    entry_by true p seen e =
        (λ j. first_of ((is_unscoped (said_or_same face p seen w j), refusal.UnknownScope) ∷ (not (says_key (said_or_same face p seen w j)), refusal.InvalidKeyExpr) ∷ (no_router_same face p seen node j, refusal.UnknownRouter)
        ∷ (not (entry_same face p seen node (full_text (said_or_same face p seen w j)) e j), refusal.UnknownId) ∷ []))
        ∙ ap (λ b. first_of ((is_unscoped (said_or_none face w s), refusal.UnknownScope) ∷ (not (says_key (said_or_none face w s)), refusal.InvalidKeyExpr) ∷ (lacks_router face node s.core, refusal.UnknownRouter) ∷ (b, refusal.UnknownId) ∷ [])) (none_not (entry_of face node (full_text (said_or_none face w s)) s.core))
    entry_by false p seen e = ap (λ b. first_of ((not b, refusal.UnknownId) ∷ [])) (has_same face p seen id e)

    their_first : (b : Bool) → first_of (their_causes b) ≡ first_of (unknown_face face s.core ∷ behind (their_causes b))
    their_first true = refl
    their_first false = refl

    pub withdraw_refuses : refusal_of lacks config past d ≡ machine_refusal s.core (read s d)
    withdraw_refuses =
        by_face config past run lacks face (behind (causes lacks config past d)) (behind (their_causes (by_router face s.core)))
        (λ p seen. (λ j. first_of (our_causes (router_same face p seen j))) ∙ entry_by (by_router face s.core) p seen (router_same face p seen))
        ∙ sym (their_first (by_router face s.core))

  -- ---- an opening
  has_mapped : {X Y : Type 0} (g : X → Y) (l : List X) → has_any (map g l) ≡ has_any l
  has_mapped g [] = refl
  has_mapped g (y ∷ l) = refl

  module _ (x' : Opening) where
    abbrev r : Region
    r = x'.region

    any_same : (h : HatState) → hat_at r s.core.hats ≡ Some h → has_any (faces_in past r) ≡ has_any h.faces
    any_same h e =
        sym (has_mapped (λ (y : ℕ × Face). (y.0, seen_as y.1)) (faces_in past r))
        ∙ sym (has_mapped (λ (y : ℕ × FaceState). (y.0, lean (routes_in config r) y.1)) (map (λ (y : ℕ × Face). (y.0, seen_as y.1)) (faces_in past r)))
        ∙ ap has_any (sym (faces_same config past run r h e (routes_in config r) refl))
        ∙ has_mapped (λ (y : ℕ × FaceState). (y.0, lean (routes_in config r) y.1)) h.faces

    full_same : (h : HatState) → hat_at r s.core.hats ≡ Some h → is_full config past r ≡ is_full_region r s.core
    full_same h e =
        ap (λ z. is_upstream z && has_any (faces_in past r)) (sym (strategy_same config past run small r h e))
        ∙ ap (λ z. is_upstream (strategy_at h) && z) (any_same h e)
        ∙ sym (ap (λ z. option_map_or hat_full z false) e)

    pub open_refuses : refusal_of lacks config past (call.Open x') ≡ machine_refusal s.core (read s (call.Open x'))
    open_refuses = by (hat_at r s.core.hats) refl
      where
        by : (z : Option HatState) → hat_at r s.core.hats ≡ z → refusal_of lacks config past (call.Open x') ≡ machine_refusal s.core (read s (call.Open x'))
        by None e =
            head_true (no_region config r) (behind (causes lacks config past (call.Open x'))) (ap not (region_same config past small r ∙ ap is_some e))
            ∙ sym (head_true (not (has_hat r s.core), refusal.UnknownRegion) (behind (machine_causes s.core (opening x'))) (ap (λ z. not (is_some z)) e))
        by (Some h) e =
            λ j. first_of ((not (region_same config past small r j), refusal.UnknownRegion) ∷ (not (is_sound x'), refusal.InvalidKeyExpr) ∷ (full_same h e j, refusal.UpstreamInUse) ∷ (sym (faces_next config past run) j + 1 == 2 ^ 32, refusal.NoFreeId) ∷ (lacks_told s.core (opening x'), refusal.NoFreeId) ∷ [])

  -- ---- an interest and its end
  module _ (face : FaceId) (id : ℕ) where
    asked_here : (p : OpenFace) (seen : at face.0 s.core.faces ≡ Some p) → at id (f config past run lacks face p seen).interests ≡ interest_at face.0 id s.core.interests
    asked_here p seen = ap (at id) (subst (λ z. Asks z (interests_of face.0 s.core.interests)) (here config past run lacks face p seen) (asks_alike config face.0 past run))

    pub end_refuses : refusal_of lacks config past (call.InterestFinal face id) ≡ machine_refusal s.core (read s (call.InterestFinal face id))
    end_refuses =
        by_face config past run lacks face (behind (causes lacks config past (call.InterestFinal face id))) (behind (machine_causes s.core (read s (call.InterestFinal face id))))
        (λ p seen. ap (λ b. cond b (Some refusal.UnknownId) None)
        (ap (λ g. option_map_or (λ (y : Face). is_none (at id y.interests)) g false) (here config past run lacks face p seen) ∙ ap is_none (asked_here p seen)))

    another_same : (p : OpenFace) (seen : at face.0 s.core.faces ≡ Some p) (asked : Option (List ℕ)) → of_face past face (asks_else id asked) ≡ asks_another face.0 id asked s.core.interests
    another_same p seen asked =
        ap (λ g. option_map_or (asks_else id asked) g false) (here config past run lacks face p seen)
        ∙ ap (λ z. option_map_or (λ (was : InterestEntry). not (same_asked was.key asked)) z false) (asked_here p seen)

    pub interest_refuses : (keys aggregate : Bool) (w : Option WireExpr) → refusal_of lacks config past (call.Interest face id keys aggregate w) ≡ machine_refusal s.core (read s (call.Interest face id keys aggregate w))
    interest_refuses keys aggregate None =
        by_face config past run lacks face (behind (causes lacks config past (call.Interest face id keys aggregate None))) (behind (machine_causes s.core (read s (call.Interest face id keys aggregate None))))
        (λ p seen j. first_of ((another_same p seen None j, refusal.IdInUse) ∷ (lacks_told s.core (read s (call.Interest face id keys aggregate None)), refusal.NoFreeId) ∷ []))
    interest_refuses keys aggregate (Some w) =
        by_face config past run lacks face (behind (causes lacks config past (call.Interest face id keys aggregate (Some w)))) (behind (machine_causes s.core (read s (call.Interest face id keys aggregate (Some w)))))
        (λ p seen.
        (λ j. first_of ((is_unscoped (said_same config past run lacks face p seen w j), refusal.UnknownScope) ∷ (not (says_key (said_same config past run lacks face p seen w j)), refusal.InvalidKeyExpr) ∷ (of_face past face (asks_else id (Some (full_text (said_same config past run lacks face p seen w j)))), refusal.IdInUse) ∷ (lacks_told s.core (read s (call.Interest face id keys aggregate (Some w))), refusal.NoFreeId) ∷ []))
        ∙ ap (λ b. first_of ((is_unscoped (said face w s), refusal.UnknownScope) ∷ (not (says_key (said face w s)), refusal.InvalidKeyExpr) ∷ (b, refusal.IdInUse) ∷ (lacks_told s.core (read s (call.Interest face id keys aggregate (Some w))), refusal.NoFreeId) ∷ [])) (another_same p seen (Some (full_text (said face w s)))))
