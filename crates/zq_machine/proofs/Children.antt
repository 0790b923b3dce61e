-- What a child of a root's tree knows is what stands of the root.
use Rattle.std.proofs.Common.{◌≡◌, ◌∙◌, refl, sym, ap, subst, ℕ, Bool, true, false, cond, List, [], ◌∷◌, ◌++◌, fold, Option, Some, None, map}
use Rattle.std.specs.List.{AllByRecursion, list_any}
use Rattle.std.specs.Option.{is_some, option_and_then, option_map, option_map_or}
use Rattle.std.specs.Str.{bytes_eq}
use Rattle.std.specs.Prelude.{◌||◌}
use Rattle.std.proofs.Math.Bool.{or-false}
use Rattle.std.proofs.lemmas.Bool.{false≢true, or_parts, true≢false}
use Rattle.std.proofs.lemmas.List.Folds.{list_any-append}
use Rattle.zq_message.specs.declared.message.QueryableInfoType.{QueryableInfoType}
use Rattle.zq_message.specs.declared.message.Region.{Region}
use Rattle.zq_message.specs.declared.message.Zid.{Zid}
use Rattle.zq_message.specs.Region.{region_index}
use Rattle.zq_strategy.specs.declared.network.Network.{Network}
use Rattle.zq_strategy.specs.declared.network.Telling.{Telling as TreeTelling}
use Rattle.zq_strategy.specs.Entries.{entry_of, staying}
use Rattle.zq_strategy.specs.Nets.{child_ids, children_of, is_listed, is_zid, place_of, tree_at}
use Rattle.zq_strategy.specs.declared.types.Strategy.{Strategy}
use Rattle.zq_strategy.specs.declared.types.Strategy.TheVariants as strategy
use Rattle.zq_strategy.specs.Regions.{in_routers, is_north, strategy_at}
use Rattle.zq_strategy.specs.Routers.{announced, entry_at, networked, retracted}
use Rattle.zq_strategy.specs.State.{HatState}
use Rattle.zq_strategy.specs.Tellings.{in_order}
use Rattle.zq_machine.specs.declared.call.Call.{Call}
use Rattle.zq_machine.specs.declared.call.Call.TheVariants as call
use Rattle.zq_machine.specs.Children.{ChildPromise, StaysChild, is_child, is_child_in, is_face_of, known_after, known_in, root_place, said_for, speaks_for, stands_of, with_heard_of, with_news}
use Rattle.zq_machine.specs.Configs.{Settings}
use Rattle.zq_interests.specs.Interests.{asks_for}
use Rattle.zq_machine.specs.Deciding.{accepted, causes, granted, is_accepted, refusal_of, renamed, told_of, interests_for}
use Rattle.zq_machine.specs.Due.{listens_by, listens_in}
use Rattle.zq_machine.specs.Hearing.{hear}
use Rattle.zq_machine.specs.Machine.{accepted_state, after, follow, state_after}
use Rattle.zq_machine.specs.Messages.{key_ended, key_told, from_hat}
use Rattle.zq_machine.specs.Selecting.{full_text}
use Rattle.zq_machine.specs.State.{Core, State, at, hat_at, hat_of, opening_state}
use Rattle.zq_machine.specs.TextCalls.{TextCall, announcing, retracting, networking, read}
use Rattle.zq_machine.specs.Trees.{all_own_told, own_entry, touched, tree_told}
use Rattle.zq_machine.proofs.Agreed.{InOrder, granted_in_order, stays_in_order, run_in_order}
use Rattle.zq_machine.proofs.Agreeing.{some_of}
use Rattle.zq_machine.proofs.Always.{after_kept}
use Rattle.zq_machine.proofs.Changing.{hat_here, region_there}
use Rattle.zq_machine.proofs.Finals.{is_there}
use Rattle.zq_machine.proofs.Foreign.{entries_kept, entry_put, entry_taken, listed, of_routers}
use Rattle.zq_machine.proofs.Frame.{accepted_config, config_kept, run_config}
use Rattle.zq_machine.specs.Writing.{finish, write}
use Rattle.zq_machine.proofs.GoingOut.{hear_ended, hear_out}
use Rattle.zq_machine.proofs.Granted.{all_passed, by_granted, granted_is_accepted, told_by}
use Rattle.zq_machine.proofs.DueHeard.{AlongTree, IsOpen, trees_due}
use Rattle.zq_machine.proofs.Learning.{Says, is_news, order_heard, marks_heard}
use Rattle.zq_machine.proofs.Lists.{all_append, all_weaker}
use Rattle.zq_machine.proofs.NeighboursTold.{IsNear, neighbours, neighbours_near, seat_home}
use Rattle.zq_machine.proofs.NetworkTold.{entries_stay, made, network_true}
use Rattle.zq_machine.proofs.OwnTold.{IsTrue, child_seat, news_parts, own_true, stands}
use Rattle.zq_machine.proofs.RouterTold.{IsComplete, other_stands, other_stood, own_complete, router_complete, router_true}
use Rattle.zq_machine.proofs.Telling.{none_any}
use Rattle.zq_machine.proofs.Tells.{granted_heard}

no_tree : (before after : Core) (t : TextCall) → of_routers t ≡ false → tree_told before after t ≡ []
unfolding of_routers
no_tree before after (announcing f sd info by) e = absurd (true≢false e)
no_tree before after (retracting f sd by) e = absurd (true≢false e)
no_tree before after (networking r net) e = absurd (true≢false e)
no_tree before after t e = refl

says_none : (face : ℕ) (root : Zid) (c : Core) (t : TextCall) → of_routers t ≡ false → said_for face root c t ≡ []
unfolding of_routers
says_none face root c (announcing f sd info by) e = absurd (true≢false e)
says_none face root c (retracting f sd by) e = absurd (true≢false e)
says_none face root c (networking r net) e = absurd (true≢false e)
says_none face root c t e = refl

kept_kind : (net : Network) (h : HatState) → strategy_at h ≡ strategy_at (networked net h)
kept_kind net h = by (strategy_at h)
  where
    by : (k : Strategy) → strategy_at h ≡ strategy_at (in_routers k (record h { network = net; entries = staying (is_listed net) h.entries }) h)
    by strategy.Broker = refl
    by strategy.Client = refl
    by strategy.Peer = refl
    by strategy.Router = refl

-- ---- a child of a root's tree
record Child (r : Region) (face : ℕ) (root : Zid) (hats : List (ℕ × HatState)) : Type 0 where
  hat : HatState
  its : hat_at r hats ≡ Some hat
  routes : strategy_at hat ≡ strategy.Router
  node : ℕ
  place : place_of hat.network root ≡ Some node
  child : list_any (is_face_of face hat) (children_of hat.network root) ≡ true

child_of : (r : Region) (face : ℕ) (root : Zid) (hats : List (ℕ × HatState)) → option_map_or (is_child_in face root) (hat_at r hats) false ≡ true → Child r face root hats
child_of r face root hats e = by_hat (hat_at r hats) refl e
  where
    by_place : (h : HatState) → hat_at r hats ≡ Some h → strategy_at h ≡ strategy.Router → (o : Option ℕ) → place_of h.network root ≡ o → list_any (is_face_of face h) (option_map_or (child_ids h.network) (option_and_then (tree_at h.network) o) []) ≡ true
        → list_any (is_face_of face h) (children_of h.network root) ≡ true → Child r face root hats
    by_place h its routes None p c child = absurd (false≢true c)
    by_place h its routes (Some node) p c child = record { hat = h; its = its; routes = routes; node = node; place = p; child = child }

    by_kind : (h : HatState) → hat_at r hats ≡ Some h → (k : Strategy) → strategy_at h ≡ k → in_routers k (list_any (is_face_of face h) (children_of h.network root)) false ≡ true → Child r face root hats
    by_kind h its strategy.Broker k c = absurd (false≢true c)
    by_kind h its strategy.Client k c = absurd (false≢true c)
    by_kind h its strategy.Peer k c = absurd (false≢true c)
    by_kind h its strategy.Router k c = by_place h its k (place_of h.network root) refl c c

    by_hat : (o : Option HatState) → hat_at r hats ≡ o → option_map_or (is_child_in face root) o false ≡ true → Child r face root hats
    by_hat None its c = absurd (false≢true c)
    by_hat (Some h) its c = by_kind h its (strategy_at h) refl c

-- the child's hat is the face's
child_home : {config : Settings} (s : State) → InOrder config s → (r : Region) (face : ℕ) (root : Zid) (key : List ℕ) (b : Child r face root s.core.hats) → hat_of face s.core ≡ Some b.hat
child_home s j r face root key b = seat_home s.core s.names j.tied r b.hat face b.its (child_seat face b.hat (children_of b.hat.network root) b.child)

off : (b : Bool) → (b ≡ true → ⊥) → b ≡ false
off true never = absurd (never refl)
off false never = refl

-- ---- a call at a point of a run
module _ (config : Settings) (s : State) (i : InOrder config s) (same_config : s.core.config ≡ config) (r : Region) (face : ℕ) (root : Zid) (key : List ℕ) where
  said_by : (text : List ℕ) (info : QueryableInfoType) (known : Option QueryableInfoType) (b : Bool) → fold (with_news key) known (cond b (key_told 0 text info ∷ []) []) ≡ cond b (cond (bytes_eq text key) (Some info) known) known
  said_by text info known true = refl
  said_by text info known false = refl

  ended_by : (text : List ℕ) (known : Option QueryableInfoType) (b : Bool) → fold (with_news key) known (cond b (key_ended 0 (Some text) ∷ []) []) ≡ cond b (cond (bytes_eq text key) None known) known
  ended_by text known true = refl
  ended_by text known false = refl

  -- the parts of it, and what is to be shown of a call
  record IsStep (t : TextCall) (known : Option QueryableInfoType) (fits : refusal_of s.core t ≡ None) (j : InOrder config (accepted_state s t)) (b : Child r face root (accepted s.core t).hats) : Type 0 where
    true_tree : AllByRecursion (IsTrue config s i t fits j r face root key b.hat b.its b.node b.place b.child b.routes) (tree_told s.core (accepted s.core t) t)
    complete : list_any (is_news face (Some b.node) key) (tree_told s.core (accepted s.core t) t ++ all_own_told s.core.hats (accepted s.core t).hats (touched s.core t)) ≡ false
        → fold (with_news key) known (said_for face root s.core t) ≡ stands config s i t fits j r face root key b.hat b.its b.node b.place b.child b.routes

  module _ (a : Child r face root s.core.hats) where
    abbrev stood_then : Option QueryableInfoType
    stood_then = cond (is_zid root config.zid) (own_entry (region_index r) key s.core.hats) (entry_of root.0 key a.hat.entries)

    -- where entries of the root stay, and the face says nothing
    quiet_complete : (t : TextCall) (fits : refusal_of s.core t ≡ None) (j : InOrder config (accepted_state s t)) (b : Child r face root (accepted s.core t).hats) → said_for face root s.core t ≡ [] → entry_of root.0 key b.hat.entries ≡ entry_of root.0 key a.hat.entries
        → IsComplete config s i same_config r face root key a.hat a.its a.child t fits j b.hat b.its b.node b.place b.child b.routes
    quiet_complete t fits j b says same none = ap (fold (with_news key) stood_then) says ∙ by (is_zid root config.zid) refl
      where
        by : (o : Bool) → is_zid root config.zid ≡ o → stood_then ≡ stands config s i t fits j r face root key b.hat b.its b.node b.place b.child b.routes
        by true own = own_complete config s i same_config r face root key a.hat a.its a.child t fits j b.hat b.its b.node b.place b.child b.routes own none
        by false other =
            other_stood config s i same_config r face root key a.hat a.its a.child t fits j b.hat b.its b.node b.place b.child b.routes other
            ∙ sym same
            ∙ other_stands config s i same_config r face root key a.hat a.its a.child t fits j b.hat b.its b.node b.place b.child b.routes other

    plain_step : (t : TextCall) → of_routers t ≡ false → (fits : refusal_of s.core t ≡ None) (j : InOrder config (accepted_state s t)) (b : Child r face root (accepted s.core t).hats) → IsStep t stood_then fits j b
    plain_step t plain fits j b = record {
      true_tree = subst (AllByRecursion _) (sym (no_tree s.core (accepted s.core t) t plain)) tt;
      complete = quiet_complete t fits j b (says_none face root s.core t plain) same;
    }
      where
        same : entry_of root.0 key b.hat.entries ≡ entry_of root.0 key a.hat.entries
        same =
            let both : Some b.hat.entries ≡ Some a.hat.entries =
            sym (ap (option_map listed) (region_there r (accepted s.core t).hats b.hat b.its).1) ∙ entries_kept s.core t plain (region_index r) ∙ ap (option_map listed) (region_there r s.core.hats a.hat a.its).1 in
            let one : b.hat.entries ≡ a.hat.entries = cc in
            ap (entry_of root.0 key) one

    one_step : (t : TextCall) (fits : refusal_of s.core t ≡ None) (j : InOrder config (accepted_state s t)) (b : Child r face root (accepted s.core t).hats) → IsStep t stood_then fits j b
    unfolding of_routers
    one_step (announcing f sd info by) fits j b =
        let lacks = (all_passed (causes s.core (announcing f sd info by)) fits).1.1.1.0 in
        let k : Zid → HatState → HatState = λ z x. announced z.0 (full_text sd) info x in
        record {
          true_tree =
              router_true config s i same_config r face root key a.hat a.its a.child (announcing f sd info by) fits j b.hat b.its b.node b.place b.child b.routes f by (full_text sd) (Some info) k lacks
              (λ z x. refl) (entry_put key (full_text sd) info) refl refl (λ known. said_by (full_text sd) info known (speaks_for face root f by s.core));
          complete =
              router_complete config s i same_config r face root key a.hat a.its a.child (announcing f sd info by) fits j b.hat b.its b.node b.place b.child b.routes f by (full_text sd) (Some info) k lacks
              (λ z x. refl) (entry_put key (full_text sd) info) refl refl (λ known. said_by (full_text sd) info known (speaks_for face root f by s.core));
        }
    one_step (retracting f sd by) fits j b =
        let lacks = (all_passed (causes s.core (retracting f sd by)) fits).1.1.1.0 in
        let k : Zid → HatState → HatState = λ z x. retracted z.0 (full_text sd) x in
        record {
          true_tree =
              router_true config s i same_config r face root key a.hat a.its a.child (retracting f sd by) fits j b.hat b.its b.node b.place b.child b.routes f by (full_text sd) None k lacks
              (λ z x. refl) (entry_taken key (full_text sd)) refl refl (λ known. ended_by (full_text sd) known (speaks_for face root f by s.core));
          complete =
              router_complete config s i same_config r face root key a.hat a.its a.child (retracting f sd by) fits j b.hat b.its b.node b.place b.child b.routes f by (full_text sd) None k lacks
              (λ z x. refl) (entry_taken key (full_text sd)) refl refl (λ known. ended_by (full_text sd) known (speaks_for face root f by s.core));
        }
    one_step (networking z net) fits j b =
        let first = some_of (hat_at z s.core.hats) (is_there (is_some (hat_at z s.core.hats)) (all_passed (causes s.core (networking z net)) fits).0) in
        record {
          true_tree = network_true config s i z net fits j first.0 first.1 r face root key b.hat b.its b.node b.place b.child b.routes;
          complete = quiet_complete (networking z net) fits j b refl (entries_stay config s i z net fits j first.0 first.1 r face root key b.hat b.its b.node b.place b.child b.routes a.hat a.its);
        }
    one_step t fits j b = plain_step t refl fits j b

  -- what is known after it, by what is told
  learned : (t : TextCall) (known : Option QueryableInfoType) (fits : refusal_of s.core t ≡ None) (j : InOrder config (accepted_state s t)) (b : Child r face root (accepted s.core t).hats) → IsStep t known fits j b
      → fold (with_heard_of face (option_and_then (λ (h : HatState). place_of h.network root) (hat_at r (accepted s.core t).hats)) key) (fold (with_news key) known (said_for face root s.core t)) (told_of s.core t)
      ≡ stands config s i t fits j r face root key b.hat b.its b.node b.place b.child b.routes
  learned t known fits j b is =
      ap (λ o. fold (with_heard_of face o key) said (told_of s.core t)) (ap (option_and_then (λ (h : HatState). place_of h.network root)) b.its ∙ b.place)
      ∙ marks_heard face (Some b.node) key t (map from_hat (in_order (all ++ near))) said
      ∙ order_heard face (Some b.node) key stands_after (all ++ near) said
      (all_append (Says face (Some b.node) key stands_after) all near
      (all_say all
      (all_append (IsTrue config s i t fits j r face root key b.hat b.its b.node b.place b.child b.routes) (tree_told s.core (accepted s.core t) t) own is.true_tree (own_true config s i t fits j r face root key b.hat b.its b.node b.place b.child b.routes))
      (trees_due config s i t fits j))
      (all_weaker (λ u. is_news face (Some b.node) key u ≡ false) (Says face (Some b.node) key stands_after) (λ u none. record { id = λ on. absurd (true≢false (sym on ∙ none)); info = λ on. absurd (true≢false (sym on ∙ none)) }) near far))
      ∙ ap (λ x. cond x stands_after said) (list_any-append (is_news face (Some b.node) key) all near ∙ ap (λ x. list_any (is_news face (Some b.node) key) all || x) (none_any (is_news face (Some b.node) key) near far) ∙ or-false (list_any (is_news face (Some b.node) key) all))
      ∙ by (list_any (is_news face (Some b.node) key) all) refl
    where
      own : List TreeTelling
      own = all_own_told s.core.hats (accepted s.core t).hats (touched s.core t)

      all : List TreeTelling
      all = tree_told s.core (accepted s.core t) t ++ own

      near : List TreeTelling
      near = neighbours config s i t fits j

      said : Option QueryableInfoType
      said = fold (with_news key) known (said_for face root s.core t)

      stands_after : Option QueryableInfoType
      stands_after = stands config s i t fits j r face root key b.hat b.its b.node b.place b.child b.routes

      all_say : (ts : List TreeTelling) → AllByRecursion (IsTrue config s i t fits j r face root key b.hat b.its b.node b.place b.child b.routes) ts → AllByRecursion (AlongTree (IsOpen (renamed s t))) ts → AllByRecursion (Says face (Some b.node) key stands_after) ts
      all_say [] true_ones along = tt
      all_say (u ∷ us) true_ones along = (record { id = λ on. along.0.id; info = true_ones.0 }, all_say us true_ones.1 along.1)

      -- a router's face is told nothing as a neighbour
      deaf : (u : TreeTelling) → IsNear (renamed s t) (accepted s.core t) (interests_for s.core t) u → is_news face (Some b.node) key u ≡ true → ⊥
      deaf u is_near on =
          let there : hat_of u.face.0 (accepted s.core t) ≡ Some b.hat = ap (λ n. hat_of n (accepted s.core t)) (news_parts face b.node key u on).0 ∙ child_home (accepted_state s t) j r face root key b in
          false≢true
          (sym (ap (λ (o : Option HatState). option_map_or (listens_in (interests_for s.core t) u.face.0 u.key) o false) there ∙ ap (λ k. listens_by k (is_north b.hat.region) (asks_for u.face.0 u.key (interests_for s.core t))) b.routes)
          ∙ is_near.listens)

      far : AllByRecursion (λ u. is_news face (Some b.node) key u ≡ false) near
      far =
          all_weaker (IsNear (renamed s t) (accepted s.core t) (interests_for s.core t)) (λ u. is_news face (Some b.node) key u ≡ false)
          (λ u is_near. off (is_news face (Some b.node) key u) (deaf u is_near)) near (neighbours_near config s i t fits j)

      by : (x : Bool) → list_any (is_news face (Some b.node) key) all ≡ x → cond x stands_after said ≡ stands_after
      by true e = refl
      by false e = is.complete e

  -- what stands of the root, in the words of the promise
  stands_so : (core : Core) → core.config ≡ config → (b : Child r face root core.hats) (names : State) → names.core ≡ core
      → stands_of r root key names ≡ cond (is_zid root config.zid) (own_entry (region_index r) key core.hats) (entry_of root.0 key b.hat.entries)
  stands_so core is b names same =
      (λ m. cond (is_zid root (same m).config.zid) (own_entry (region_index r) key (same m).hats) (option_and_then (entry_at root.0 key) (hat_at r (same m).hats)))
      ∙ (λ m. cond (is_zid root (is m).zid) (own_entry (region_index r) key core.hats) (option_and_then (entry_at root.0 key) (b.its m)))

  -- a call that is made while the face is a child, and leaves it one
  pub call_keeps : (c : Call) → is_child r face root s ≡ true → is_child r face root (after s c) ≡ true → known_after r face root key s c (stands_of r root key s) ≡ stands_of r root key (after s c)
  call_keeps c was =
      by_granted
      (λ x w. is_child r face root w ≡ true
      → cond (is_accepted x.outcome) (fold (with_heard_of face (root_place r root w) key) (fold (with_news key) (stands_of r root key s) (said_for face root s.core (read s c))) (hear x.handed (follow s (read s c)).names)) (stands_of r root key s) ≡ stands_of r root key w)
      s (read s c)
      (λ text z w it now. ap (λ l. cond (is_accepted z.outcome) (fold (with_heard_of face (root_place r root w) key) (fold (with_news key) (stands_of r root key s) (said_for face root s.core (read s c))) l) (stands_of r root key s)) (hear_out text z.handed w.gates (follow s (read s c)).names) ∙ it now)
      (λ p places z w it now. ap (λ l. cond (is_accepted z.outcome) (fold (with_heard_of face (root_place r root w) key) (fold (with_news key) (stands_of r root key s) (said_for face root s.core (read s c))) l) (stands_of r root key s)) (hear_ended (finish w.core (p ∷ places)).finals z.handed (follow s (read s c)).names) ∙ it now)
      (λ fits now.
      let t = read s c in
      let a = child_of r face root s.core.hats was in
      let b = child_of r face root (accepted s.core t).hats now in
      let j = granted_in_order config s c fits i in
      ap (λ x. cond x (fold (with_heard_of face (root_place r root (accepted_state s t)) key) (fold (with_news key) (stands_of r root key s) (said_for face root s.core t)) (hear (write s.names (granted s.core t).messages ++ (told_by s t).handed) (follow s t).names)) (stands_of r root key s)) (granted_is_accepted s.core t fits)
      ∙ ap (fold (with_heard_of face (root_place r root (accepted_state s t)) key) (fold (with_news key) (stands_of r root key s) (said_for face root s.core t))) (granted_heard config s c i fits)
      ∙ ap (λ x. fold (with_heard_of face (root_place r root (accepted_state s t)) key) (fold (with_news key) x (said_for face root s.core t)) (told_of s.core t)) (stands_so s.core same_config a s refl)
      ∙ learned t (stood_then a) fits j b (one_step a t fits j b)
      ∙ sym (stands_so (accepted s.core t) (accepted_config s.core t ∙ same_config) b (accepted_state s t) refl))
      (λ x now. refl)

  -- the network that makes it one
  pub network_makes : (net : Network) → is_child r face root s ≡ false → is_child r face root (after s (call.SetNetwork r net)) ≡ true → known_after r face root key s (call.SetNetwork r net) None ≡ stands_of r root key (after s (call.SetNetwork r net))
  network_makes net apart =
      by_granted
      (λ x w. is_child r face root w ≡ true
      → cond (is_accepted x.outcome) (fold (with_heard_of face (root_place r root w) key) None (hear x.handed (follow s (networking r net)).names)) None ≡ stands_of r root key w)
      s (networking r net)
      (λ text z w it now. ap (λ l. cond (is_accepted z.outcome) (fold (with_heard_of face (root_place r root w) key) None l) None) (hear_out text z.handed w.gates (follow s (networking r net)).names) ∙ it now)
      (λ p places z w it now. ap (λ l. cond (is_accepted z.outcome) (fold (with_heard_of face (root_place r root w) key) None l) None) (hear_ended (finish w.core (p ∷ places)).finals z.handed (follow s (networking r net)).names) ∙ it now)
      (λ fits now.
      let t = networking r net in
      let b = child_of r face root (accepted s.core t).hats now in
      let j = granted_in_order config s (call.SetNetwork r net) fits i in
      let first = some_of (hat_at r s.core.hats) (is_there (is_some (hat_at r s.core.hats)) (all_passed (causes s.core t) fits).0) in
      ap (fold (with_heard_of face (root_place r root (accepted_state s t)) key) None) (granted_heard config s (call.SetNetwork r net) i fits)
      ∙ learned t None fits j b (record {
        true_tree = network_true config s i r net fits j first.0 first.1 r face root key b.hat b.its b.node b.place b.child b.routes;
        complete = λ none.
            made config s i r net fits j first.0 first.1 r face root key b.hat b.its b.node b.place b.child b.routes (is_changed fits b first.0 first.1) refl (not_before fits b first.0 first.1)
            (or_parts (list_any (is_news face (Some b.node) key) (tree_told s.core (accepted s.core t) t)) _ (sym (list_any-append (is_news face (Some b.node) key) (tree_told s.core (accepted s.core t) t) (all_own_told s.core.hats (accepted s.core t).hats (touched s.core t))) ∙ none)).0;
      })
      ∙ sym (stands_so (accepted s.core t) (accepted_config s.core t ∙ same_config) b (accepted_state s t) refl))
      (λ x now. absurd (true≢false (sym now ∙ apart)))
    where
      is_changed : refusal_of s.core (networking r net) ≡ None → (b : Child r face root (accepted s.core (networking r net)).hats) (first : HatState) → hat_at r s.core.hats ≡ Some first → b.hat ≡ networked net first
      is_changed fits b first at = let both : Some b.hat ≡ Some (networked net first) = sym b.its ∙ hat_here r first (networked net) s.core.hats at in cc

      not_before : refusal_of s.core (networking r net) ≡ None → (b : Child r face root (accepted s.core (networking r net)).hats) (first : HatState) → hat_at r s.core.hats ≡ Some first → list_any (is_face_of face first) (children_of first.network root) ≡ false
      not_before fits b first at =
          sym (ap (λ k. in_routers k (list_any (is_face_of face first) (children_of first.network root)) false) (kept_kind net first ∙ sym (ap strategy_at (is_changed fits b first at)) ∙ b.routes))
          ∙ sym (ap (λ o. option_map_or (is_child_in face root) o false) at)
          ∙ apart

-- ---- a run
module _ (config : Settings) (r : Region) (face : ℕ) (root : Zid) (key : List ℕ) where
  stays_known : (cs : List Call) (s : State) → InOrder config s → s.core.config ≡ config → is_child r face root s ≡ true → StaysChild r face root s cs → known_in r face root key s cs (stands_of r root key s) ≡ stands_of r root key (state_after s cs)
  stays_known [] s i same was stays = refl
  stays_known (c ∷ cs) s i same was stays =
      ap (known_in r face root key (after s c) cs) (call_keeps config s i same r face root key c was stays.0)
      ∙ stays_known cs (after s c) (after_kept (InOrder config) (granted_in_order config) (stays_in_order config) s c i) (config_kept s c ∙ same) stays.0 stays.1

pub after_both : (before later : List Call) (s : State) → state_after s (before ++ later) ≡ state_after (state_after s before) later
after_both [] later s = refl
after_both (c ∷ before) later s = after_both before later (after s c)

pub child_promise : (config : Settings) (calls : List Call) → ChildPromise config calls
child_promise config calls before later r net face root key split apart stays =
    let s : State = state_after (opening_state config) before in
    let c : Call = call.SetNetwork r net in
    let i : InOrder config s = run_in_order config before in
    let same : s.core.config ≡ config = run_config before (opening_state config) in
    ap (known_in r face root key (after s c) later) (network_makes config s i same r face root key net apart stays.0)
    ∙ stays_known config r face root key later (after s c) (after_kept (InOrder config) (granted_in_order config) (stays_in_order config) s c i) (config_kept s c ∙ same) stays.0 stays.1
    ∙ ap (stands_of r root key) (sym (after_both before (c ∷ later) (opening_state config)))
    ∙ ap (λ l. stands_of r root key (state_after (opening_state config) l)) (sym split)
