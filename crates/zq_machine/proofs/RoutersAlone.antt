-- What is told along trees is told to faces in regions of routers alone: they hear nothing of what is due to neighbours, whatever they ask.
use Rattle.std.proofs.Common.{◌≡◌, ◌∙◌, refl, sym, ap, subst, ℕ, Bool, true, false, cond, List, [], ◌∷◌, Option, Some, None, ◌⊎◌, inl, inr, true≢false}
use Rattle.std.specs.Prelude.{◌==◌, ◌||◌}
use Rattle.std.specs.List.{AllByRecursion, list_any}
use Rattle.std.specs.Option.{is_some, option_and_then, option_map_or}
use Rattle.std.proofs.lemmas.Bool.{false≢true}
use Rattle.std.proofs.lemmas.Cmp.{nat_cmp_total}
use Rattle.std.proofs.lemmas.Map.Lookups.{exact_unsigned}
use Rattle.zq_message.specs.declared.message.FaceId.{FaceId}
use Rattle.zq_message.specs.declared.message.QueryableInfoType.{QueryableInfoType}
use Rattle.zq_message.specs.declared.message.Region.{Region}
use Rattle.zq_message.specs.declared.message.Zid.{Zid}
use Rattle.zq_message.specs.Region.{region_index}
use Rattle.zq_key.proofs.Lookups.{each_entry}
use Rattle.zq_strategy.specs.declared.network.Telling.{Telling as TreeTelling}
use Rattle.zq_strategy.specs.declared.types.Strategy.{Strategy}
use Rattle.zq_strategy.specs.declared.types.Strategy.TheVariants as strategy
use Rattle.zq_strategy.specs.Kept.{has_face}
use Rattle.zq_strategy.specs.Regions.{in_routers, is_north, strategy_at}
use Rattle.zq_strategy.specs.Routers.{source_at}
use Rattle.zq_strategy.specs.State.{FaceState, HatState}
use Rattle.zq_strategy.specs.Trees.{to_children}
use Rattle.zq_interests.specs.declared.types.InterestEntry.{InterestEntry}
use Rattle.zq_interests.specs.Interests.{Interests, asks_for, wants}
use Rattle.zq_told.specs.Laws.{is_to}
use Rattle.zq_tables.specs.Naming.{NamingState}
use Rattle.zq_machine.specs.declared.call.Call.{Call}
use Rattle.zq_machine.specs.declared.call.Call.TheVariants as call
use Rattle.zq_machine.specs.declared.face.OpenFace.{OpenFace}
use Rattle.zq_machine.specs.Configs.{Settings}
use Rattle.zq_machine.specs.Deciding.{accepted, causes, refusal_of, renamed}
use Rattle.zq_machine.specs.Due.{listens, listens_by, listens_in}
use Rattle.zq_machine.specs.Machine.{accepted_state}
use Rattle.zq_machine.specs.Selecting.{full_text}
use Rattle.zq_machine.specs.State.{Core, State, at, hat_at, hat_of, is_open, is_routing}
use Rattle.zq_machine.specs.TextCalls.{TextCall, announcing, by_router, declaring, networking, read, retracting, said, said_or_none, withdrawing}
use Rattle.zq_machine.specs.Trees.{all_own_told, networked_told, own_entries, placed_told, router_told, source_told, touched, tree_told}
use Rattle.zq_machine.proofs.Agreed.{InOrder}
use Rattle.zq_machine.proofs.Agreeing.{Tied}
use Rattle.zq_machine.proofs.Changing.{hat_found, itself, number_test, one_number}
use Rattle.zq_machine.proofs.DueHeard.{AlongTree, RouterSeats, children_can, due_trees, own_all_can, own_entries_keyed, placed_can, touched_texts, worded_at}
use Rattle.zq_machine.proofs.DueLess.{listens_kept}
use Rattle.zq_machine.proofs.Granted.{all_passed}
use Rattle.zq_machine.proofs.Hats.{IsIndex}
use Rattle.zq_machine.proofs.Lists.{all_append, all_weaker}
use Rattle.zq_machine.proofs.NeighboursTold.{seat_home}
use Rattle.zq_machine.proofs.Worded.{IsKey, said_key}

-- ---- who hears nothing, even if it asks for all
abbrev all_asked : ℕ → List (ℕ × InterestEntry)
all_asked n = (0, record { key = None; keys = false; aggregate = false }) ∷ []

abbrev pub asks_all : ℕ → Interests
asks_all n = (n, all_asked n) ∷ []

asked : (n : ℕ) → asks_for n [] (asks_all n) ≡ true
asked n = ap (λ b. list_any (wants []) (option_map_or (λ es. es) (cond b (Some (all_asked n)) None) [])) (itself n)

abbrev pub IsDeaf : Core → ℕ → Type 0
IsDeaf c n = listens c (asks_all n) n [] ≡ false

router_deaf : (c : Core) (names : NamingState) → Tied c.faces c.hats names → (r : Region) (h : HatState) → hat_at r c.hats ≡ Some h → strategy_at h ≡ strategy.Router → (n : ℕ) → has_face n h ≡ true → IsDeaf c n
router_deaf c names tied r h its routes n has =
    ap (λ (o : Option HatState). option_map_or (listens_in (asks_all n) n []) o false) (seat_home c names tied r h n its has) ∙ ap (λ k. listens_by k (is_north h.region) (asks_for n [] (asks_all n))) routes

either : (a b : Bool) → b ≡ true → (a || b) ≡ true
either true b e = refl
either false b e = e

-- a face outside regions of routers would hear then, and so would no other
pub near_hears : (c : Core) (n : ℕ) → is_some (hat_of n c) ≡ true → by_router (record { 0 = n }) c ≡ false → listens c (asks_all n) n [] ≡ true
near_hears c n there near = by (hat_of n c) there near
  where
    kinds : (k : Strategy) (north asks : Bool) → in_routers k true false ≡ false → asks ≡ true → listens_by k north asks ≡ true
    kinds strategy.Broker north asks r e = e
    kinds strategy.Client north asks r e = refl
    kinds strategy.Peer north asks r e = either north asks e
    kinds strategy.Router north asks r e = absurd (true≢false r)

    by : (o : Option HatState) → is_some o ≡ true → option_map_or is_routing o false ≡ false → option_map_or (listens_in (asks_all n) n []) o false ≡ true
    by None e r = absurd (false≢true e)
    by (Some h) e r = kinds (strategy_at h) (is_north h.region) (asks_for n [] (asks_all n)) r (asked n)

pub hears_near : (c : Core) (n : ℕ) → listens c (asks_all n) n [] ≡ true → by_router (record { 0 = n }) c ≡ false
hears_near c n hears = by (hat_of n c) hears
  where
    kinds : (k : Strategy) (north asks : Bool) → listens_by k north asks ≡ true → in_routers k true false ≡ false
    kinds strategy.Broker north asks e = refl
    kinds strategy.Client north asks e = refl
    kinds strategy.Peer north asks e = refl
    kinds strategy.Router north asks e = absurd (false≢true e)

    by : (o : Option HatState) → option_map_or (listens_in (asks_all n) n []) o false ≡ true → option_map_or is_routing o false ≡ false
    by None e = refl
    by (Some h) e = kinds (strategy_at h) (is_north h.region) (asks_for n [] (asks_all n)) e

-- ---- what a call says of routers is said by a router's face
abbrev pub IsRead : State → TextCall → Type 0
IsRead s (announcing f sd info node) = by_router f s.core ≡ true
IsRead s (retracting f sd node) = by_router f s.core ≡ true
IsRead s t = Unit {0}

pub is_read : (s : State) (c : Call) → IsRead s (read s c)
is_read s (call.DeclareQueryable face id wire info node) = by (by_router face s.core) refl
  where
    by : (b : Bool) → by_router face s.core ≡ b → IsRead s (cond b (announcing face (said face wire s) info node) (declaring face id (said face wire s) info node))
    by true e = e
    by false e = tt
is_read s (call.UndeclareQueryable face id wire node) = by (by_router face s.core) refl
  where
    by : (b : Bool) → by_router face s.core ≡ b → IsRead s (cond b (retracting face (said_or_none face wire s) node) (withdrawing face id))
    by true e = e
    by false e = tt
is_read s c = tt

-- ---- a call at a point of a run
hat_open : (c : Core) (n : ℕ) (h : HatState) → hat_of n c ≡ Some h → is_open n c ≡ true
hat_open c n h = by (at n c.faces)
  where
    by : (o : Option OpenFace) → option_and_then (λ (x : OpenFace). hat_at x.region c.hats) o ≡ Some h → is_some o ≡ true
    by None e = absurd (let gap : None ≡ Some h = e in cc)
    by (Some x) e = refl

module _ (config : Settings) (s : State) (i : InOrder config s) where
  -- a router's entry
  module _ (d : Core) (f : FaceId) (node : ℕ) (key : List ℕ) (info : Option QueryableInfoType) (routed : by_router f s.core ≡ true) (some : IsKey key)
      (stays : (n : ℕ) → is_open n s.core ≡ true → IsDeaf s.core n → IsDeaf d n) where
    routes : (h : HatState) (k : Strategy) → strategy_at h ≡ k → in_routers k true false ≡ true → strategy_at h ≡ strategy.Router
    routes h strategy.Broker e r = absurd (false≢true r)
    routes h strategy.Client e r = absurd (false≢true r)
    routes h strategy.Peer e r = absurd (false≢true r)
    routes h strategy.Router e r = e

    told_hat : (r : Region) (h : HatState) → hat_at r s.core.hats ≡ Some h → is_routing h ≡ true → (o : Option Zid) → AllByRecursion (AlongTree (IsDeaf d)) (option_map_or (λ (z : Zid). to_children (Some f.0) z key info h) o [])
    told_hat r h its routing None = tt
    told_hat r h its routing (Some z) =
        children_can (IsDeaf d) (Some f.0) z key info h
        (λ n has. stays n (hat_open s.core n h (seat_home s.core s.names i.tied r h n its has)) (router_deaf s.core s.names i.tied r h its (routes h (strategy_at h) refl routing) n has))
        some

    told_face : (o : Option OpenFace) → option_map_or is_routing (option_and_then (λ (x : OpenFace). hat_at x.region s.core.hats) o) false ≡ true
        → AllByRecursion (AlongTree (IsDeaf d)) (option_map_or (source_told f node key info) (option_and_then (λ (x : OpenFace). hat_at x.region s.core.hats) o) [])
    told_face None r = tt
    told_face (Some x) r = by (hat_at x.region s.core.hats) refl r
      where
        by : (o : Option HatState) → hat_at x.region s.core.hats ≡ o → option_map_or is_routing o false ≡ true → AllByRecursion (AlongTree (IsDeaf d)) (option_map_or (source_told f node key info) o [])
        by None e q = tt
        by (Some h) e q = told_hat x.region h e q (source_at f.0 node h)

    entry_deaf : AllByRecursion (AlongTree (IsDeaf d)) (router_told f node key info s.core)
    entry_deaf = told_face (at f.0 s.core.faces) routed

  module _ (t : TextCall) (j : InOrder config (accepted_state s t)) where
    networked_deaf : (r : Region) → AllByRecursion (AlongTree (IsDeaf (accepted s.core t))) (networked_told r s.core.hats (accepted s.core t).hats)
    networked_deaf r = by (hat_at r s.core.hats) (hat_at r (accepted s.core t).hats) refl
      where
        by : (o p : Option HatState) → hat_at r (accepted s.core t).hats ≡ p → AllByRecursion (AlongTree (IsDeaf (accepted s.core t))) (option_map_or (λ (old : HatState). option_map_or (placed_told (own_entries (region_index r) s.core.hats) old) p []) o [])
        by None p e = tt
        by (Some old) None e = tt
        by (Some old) (Some x) e =
            placed_can (IsDeaf (accepted s.core t)) (own_entries (region_index r) s.core.hats) old x (own_entries_keyed (region_index r) s.core.hats i.worded)
            (worded_at (accepted s.core t) j.worded r x e) (λ routes n has. router_deaf (accepted s.core t) (renamed s t) j.tied r x e routes n has)

    seats_after : AllByRecursion (λ (e : ℕ × HatState). RouterSeats (IsDeaf (accepted s.core t)) e.1) (accepted s.core t).hats
    seats_after = each_entry nat_cmp_total exact_unsigned (λ (e : ℕ × HatState). RouterSeats (IsDeaf (accepted s.core t)) e.1) (accepted s.core t).hats j.hats.sorted seat
      where
        seat : (k : ℕ) (x : HatState) → at k (accepted s.core t).hats ≡ Some x → RouterSeats (IsDeaf (accepted s.core t)) x
        seat k x e routes n has = by (j.hats.homes k x e)
          where
            by : (x.faces ≡ []) ⊎ IsIndex k → IsDeaf (accepted s.core t) n
            by (inl none) = absurd (false≢true (sym (ap (λ (l : List (ℕ × FaceState)). is_some (at n l)) none) ∙ has))
            by (inr z) =
                router_deaf (accepted s.core t) (renamed s t) j.tied z.0 x (hat_found z.0 (accepted s.core t).hats (Some x) z.1 (ap (λ m. at m (accepted s.core t).hats) z.2 ∙ e)) routes n has

  tree_deaf : (t : TextCall) → refusal_of s.core t ≡ None → InOrder config (accepted_state s t) → IsRead s t → AllByRecursion (AlongTree (IsDeaf (accepted s.core t))) (tree_told s.core (accepted s.core t) t)
  tree_deaf (announcing f sd info node) h j routed =
      entry_deaf (accepted s.core (announcing f sd info node)) f node (full_text sd) (Some info) routed (said_key sd (all_passed (causes s.core (announcing f sd info node)) h).1.1.0)
      (λ n opens deaf. listens_kept config s i (asks_all n) n [] opens (announcing f sd info node) opens ∙ deaf)
  tree_deaf (retracting f sd node) h j routed =
      entry_deaf (accepted s.core (retracting f sd node)) f node (full_text sd) None routed (said_key sd (all_passed (causes s.core (retracting f sd node)) h).1.1.0)
      (λ n opens deaf. listens_kept config s i (asks_all n) n [] opens (retracting f sd node) opens ∙ deaf)
  tree_deaf (networking r net) h j routed = networked_deaf (networking r net) j r
  tree_deaf t h j routed = tt

  pub trees_deaf : (t : TextCall) → refusal_of s.core t ≡ None → InOrder config (accepted_state s t) → IsRead s t → AllByRecursion (AlongTree (IsDeaf (accepted s.core t))) (due_trees config s i t)
  trees_deaf t h j routed =
      all_append (AlongTree (IsDeaf (accepted s.core t))) (tree_told s.core (accepted s.core t) t) (all_own_told s.core.hats (accepted s.core t).hats (touched s.core t)) (tree_deaf t h j routed)
      (own_all_can (IsDeaf (accepted s.core t)) s.core.hats (accepted s.core t).hats (touched s.core t) (touched_texts s.core i.worded t h) (seats_after t j))

-- so a face that would hear is told nothing along trees
pub none_to : (c : Core) (ts : List TreeTelling) → AllByRecursion (AlongTree (IsDeaf c)) ts → (n : ℕ) → listens c (asks_all n) n [] ≡ true → AllByRecursion (λ u. is_to n u ≡ false) ts
none_to c ts all n hears = all_weaker (AlongTree (IsDeaf c)) (λ u. is_to n u ≡ false) (λ u along. by u.face.0 (n == u.face.0) refl along.can.0) ts all
  where
    by : (m : ℕ) (b : Bool) → (n == m) ≡ b → IsDeaf c m → b ≡ false
    by m true e deaf = absurd (true≢false (sym hears ∙ subst (IsDeaf c) (sym (one_number n m (number_test n m ∙ e))) deaf))
    by m false e deaf = refl
