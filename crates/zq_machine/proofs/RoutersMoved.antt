-- What routers declared, and what is made of it, moves with its texts.
use Rattle.std.proofs.Common.{◌≡◌, ◌∙◌, refl, ap, ℕ, Bool, true, false, cond, List, [], ◌∷◌, map, filter, Option, Some, None}
use Rattle.std.specs.BTreeMap.{insert_entry, is_at}
use Rattle.std.specs.List.{cons_option}
use Rattle.std.specs.Map.{remove_entry}
use Rattle.std.specs.Option.{option_and_then, option_map, option_map_or}
use Rattle.std.specs.Ordering.{is_eq, match_ordering, nat_cmp}
use Rattle.std.specs.declared.cmp.Ordering.{Ordering}
use Rattle.std.specs.declared.cmp.Ordering.TheVariants.{Less, Equal, Greater}
use Rattle.zq_message.specs.declared.message.QueryableInfoType.{QueryableInfoType}
use Rattle.zq_message.specs.declared.message.Zid.{Zid}
use Rattle.zq_strategy.specs.declared.network.Network.{Network}
use Rattle.zq_strategy.specs.declared.network.NodeIds.{NodeIds}
use Rattle.zq_index.specs.Holders.{at_place_by, if_any}
use Rattle.zq_index.specs.Texts.{text_cmp}
use Rattle.zq_strategy.specs.Entries.{Entries, Routed, entries_at, is_by, routed_with, routed_without, staying, with_entries}
use Rattle.zq_strategy.specs.Nets.{is_listed, place_of}
use Rattle.zq_strategy.specs.declared.types.Strategy.{Strategy}
use Rattle.zq_strategy.specs.declared.types.Strategy.TheVariants as strategy
use Rattle.zq_strategy.specs.Kept.{face_at}
use Rattle.zq_strategy.specs.Moved.{Keeps, move_entry, move_hat}
use Rattle.zq_strategy.specs.Regions.{in_routers, strategy_at}
use Rattle.zq_strategy.specs.Routers.{announced, context_at, networked, noded, retracted, source_at, zid_at}
use Rattle.zq_strategy.proofs.RoutersMoved.{found_moved}
use Rattle.zq_strategy.specs.State.{FaceState, HatState}
use Rattle.zq_machine.specs.Deciding.{announced_by, entry_by, retracted_by}
use Rattle.zq_machine.proofs.HatsMoved.{face_changed, face_found, moved_face}

module _ (φ : List ℕ → List ℕ) where
  -- ---- node tables and networks hold no text
  source_by : (node : ℕ) (k : Strategy) (o : Option FaceState)
      → option_and_then (λ (f : FaceState). in_routers k (zid_at node f) (Some f.zid)) (option_map (moved_face φ) o) ≡ option_and_then (λ (f : FaceState). in_routers k (zid_at node f) (Some f.zid)) o
  source_by node k None = refl
  source_by node k (Some f) = refl

  pub source_moved : (face node : ℕ) (h : HatState) → source_at face node (move_hat φ h) ≡ source_at face node h
  source_moved face node h = ap (option_and_then (λ (f : FaceState). in_routers (strategy_at h) (zid_at node f) (Some f.zid))) (face_found φ face h) ∙ source_by node (strategy_at h) (face_at face h)

  pub noded_moved : (face : ℕ) (ids : NodeIds) (h : HatState) → noded face ids (move_hat φ h) ≡ move_hat φ (noded face ids h)
  noded_moved face ids h = face_changed φ face (λ f. record f { nodes = ids }) (λ f. record f { nodes = ids }) (λ f. refl) h

  abbrev moved : Entries → Entries
  moved es = map (move_entry φ) es

  staying_moved : (test : Zid → Bool) (es : Entries) → staying test (moved es) ≡ moved (staying test es)
  staying_moved test [] = refl
  staying_moved test (e ∷ es) = by (if_any (filter (is_by test) e.1)) (staying_moved test es)
    where
      by : (o : Option Routed) → staying test (moved es) ≡ moved (staying test es) → cons_option (option_map (λ xs. (φ e.0, xs)) o) (staying test (moved es)) ≡ moved (cons_option (option_map (λ xs. (e.0, xs)) o) (staying test es))
      by None ih = ih
      by (Some xs) ih = ap (λ l. (φ e.0, xs) ∷ l) ih

  pub networked_moved : (net : Network) (h : HatState) → networked net (move_hat φ h) ≡ move_hat φ (networked net h)
  networked_moved net h = by (strategy_at h)
    where
      by : (k : Strategy) → in_routers k (record (move_hat φ h) { network = net; entries = staying (is_listed net) (moved h.entries) }) (move_hat φ h) ≡ move_hat φ (in_routers k (record h { network = net; entries = staying (is_listed net) h.entries }) h)
      by strategy.Broker = refl
      by strategy.Client = refl
      by strategy.Peer = refl
      by strategy.Router = ap (λ l. record (move_hat φ h) { network = net; entries = l }) (staying_moved (is_listed net) h.entries)

  -- ---- entries
  module _ (keeps : Keeps φ) where
    insert_by : (key : List ℕ) (v : Routed) (e : List ℕ × Routed) (es : Entries) (r : Ordering)
        → insert_entry text_cmp (moved es) (φ key) v ≡ moved (insert_entry text_cmp es key v)
        → match_ordering r ((φ key, v) ∷ move_entry φ e ∷ moved es) ((φ e.0, v) ∷ moved es) (move_entry φ e ∷ insert_entry text_cmp (moved es) (φ key) v) ≡ moved (match_ordering r ((key, v) ∷ e ∷ es) ((e.0, v) ∷ es) (e ∷ insert_entry text_cmp es key v))
    insert_by key v e es Less ih = refl
    insert_by key v e es Equal ih = refl
    insert_by key v e es Greater ih = ap (λ l. move_entry φ e ∷ l) ih

    insert_moved : (key : List ℕ) (v : Routed) (es : Entries) → insert_entry text_cmp (moved es) (φ key) v ≡ moved (insert_entry text_cmp es key v)
    insert_moved key v [] = refl
    insert_moved key v (e ∷ es) =
        ap (λ r. match_ordering r ((φ key, v) ∷ move_entry φ e ∷ moved es) ((φ e.0, v) ∷ moved es) (move_entry φ e ∷ insert_entry text_cmp (moved es) (φ key) v)) (keeps.order key e.0)
        ∙ insert_by key v e es (text_cmp key e.0) (insert_moved key v es)

    remove_by : (key : List ℕ) (e : List ℕ × Routed) (es : Entries) (b : Bool)
        → remove_entry (is_at (text_cmp (φ key))) (moved es) ≡ moved (remove_entry (is_at (text_cmp key)) es)
        → cond b (moved es) (move_entry φ e ∷ remove_entry (is_at (text_cmp (φ key))) (moved es)) ≡ moved (cond b es (e ∷ remove_entry (is_at (text_cmp key)) es))
    remove_by key e es true ih = refl
    remove_by key e es false ih = ap (λ l. move_entry φ e ∷ l) ih

    remove_moved : (key : List ℕ) (es : Entries) → remove_entry (is_at (text_cmp (φ key))) (moved es) ≡ moved (remove_entry (is_at (text_cmp key)) es)
    remove_moved key [] = refl
    remove_moved key (e ∷ es) =
        ap (λ r. cond (is_eq r) (moved es) (move_entry φ e ∷ remove_entry (is_at (text_cmp (φ key))) (moved es))) (keeps.order key e.0)
        ∙ remove_by key e es (is_at (text_cmp key) e.0) (remove_moved key es)

    with_moved : (key : List ℕ) (v : Routed) (es : Entries) → with_entries (φ key) v (moved es) ≡ moved (with_entries key v es)
    with_moved key [] es = remove_moved key es
    with_moved key (x ∷ v) es = insert_moved key (x ∷ v) es

    on_moved : (key : List ℕ) (es : Entries) → entries_at (φ key) (moved es) ≡ entries_at key es
    on_moved key es = ap (λ (o : Option Routed). option_map_or (λ xs. xs) o []) (found_moved φ keeps key es)

    one_announced : (router : ℕ) (key : List ℕ) (i : QueryableInfoType) (h : HatState) → announced router (φ key) i (move_hat φ h) ≡ move_hat φ (announced router key i h)
    one_announced router key i h =
        (λ j. record (move_hat φ h) { entries = with_entries (φ key) (routed_with router i (on_moved key h.entries j)) (moved h.entries) })
        ∙ ap (λ l. record (move_hat φ h) { entries = l }) (with_moved key (routed_with router i (entries_at key h.entries)) h.entries)

    one_retracted : (router : ℕ) (key : List ℕ) (h : HatState) → retracted router (φ key) (move_hat φ h) ≡ move_hat φ (retracted router key h)
    one_retracted router key h =
        (λ j. record (move_hat φ h) { entries = with_entries (φ key) (routed_without router (on_moved key h.entries j)) (moved h.entries) })
        ∙ ap (λ l. record (move_hat φ h) { entries = l }) (with_moved key (routed_without router (entries_at key h.entries)) h.entries)

    either_moved : (f g : Zid → HatState) (h : HatState) → ((z : Zid) → f z ≡ move_hat φ (g z)) → (o : Option Zid) → option_map_or f o (move_hat φ h) ≡ move_hat φ (option_map_or g o h)
    either_moved f g h same None = refl
    either_moved f g h same (Some z) = same z

    pub announced_moved : (face node : ℕ) (key : List ℕ) (i : QueryableInfoType) (h : HatState) → announced_by face node (φ key) i (move_hat φ h) ≡ move_hat φ (announced_by face node key i h)
    announced_moved face node key i h =
        ap (λ o. option_map_or (λ (z : Zid). announced z.0 (φ key) i (move_hat φ h)) o (move_hat φ h)) (source_moved face node h)
        ∙ either_moved (λ z. announced z.0 (φ key) i (move_hat φ h)) (λ z. announced z.0 key i h) h (λ z. one_announced z.0 key i h) (source_at face node h)

    pub retracted_moved : (face node : ℕ) (key : List ℕ) (h : HatState) → retracted_by face node (φ key) (move_hat φ h) ≡ move_hat φ (retracted_by face node key h)
    retracted_moved face node key h =
        ap (λ o. option_map_or (λ (z : Zid). retracted z.0 (φ key) (move_hat φ h)) o (move_hat φ h)) (source_moved face node h)
        ∙ either_moved (λ z. retracted z.0 (φ key) (move_hat φ h)) (λ z. retracted z.0 key h) h (λ z. one_retracted z.0 key h) (source_at face node h)

    pub entry_moved : (face node : ℕ) (key : List ℕ) (o : Option HatState) → option_and_then (entry_by face node (φ key)) (option_map (move_hat φ) o) ≡ option_and_then (entry_by face node key) o
    entry_moved face node key None = refl
    entry_moved face node key (Some h) = λ j. option_and_then (λ (z : Zid). at_place_by nat_cmp z.0 (on_moved key h.entries j)) (source_moved face node h j)

  pub router_moved : (face node : ℕ) (o : Option HatState) → option_and_then (source_at face node) (option_map (move_hat φ) o) ≡ option_and_then (source_at face node) o
  router_moved face node None = refl
  router_moved face node (Some h) = source_moved face node h

  -- ---- the place of a router in a network
  abbrev placed : ℕ → Network → Option FaceState → Option ℕ
  placed node net o = option_and_then (λ (f : FaceState). option_and_then (place_of net) (zid_at node f)) o

  placed_by : (node : ℕ) (net : Network) (o : Option FaceState) → placed node net (option_map (moved_face φ) o) ≡ placed node net o
  placed_by node net None = refl
  placed_by node net (Some f) = refl

  context_moved : (face node : ℕ) (h : HatState) → context_at face node (move_hat φ h) ≡ context_at face node h
  context_moved face node h = ap (λ o. in_routers (strategy_at h) o (Some 0)) (ap (placed node h.network) (face_found φ face h) ∙ placed_by node h.network (face_at face h))

  pub place_moved : (face node : ℕ) (o : Option HatState) → option_and_then (context_at face node) (option_map (move_hat φ) o) ≡ option_and_then (context_at face node) o
  place_moved face node None = refl
  place_moved face node (Some h) = context_moved face node h
