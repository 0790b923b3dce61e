-- A call changes what is due to a face on no key but those that it touches at the face; and of those that are due to a new face it misses none.
use Rattle.std.proofs.Common.{◌≡◌, ◌∙◌, refl, sym, ap, ℕ, Bool, true, false, cond, eq-eqb, List, [], map, fold, Option, Some, None}
use Rattle.std.specs.Prelude.{◌==◌}
use Rattle.std.specs.BTreeMap.{is_at}
use Rattle.std.specs.BTreeSet.{insert_key}
use Rattle.std.specs.List.{list_any}
use Rattle.std.specs.Map.{remove_entry, set_value}
use Rattle.std.specs.Option.{is_some, option_and_then, option_map, option_map_or, option_to_list}
use Rattle.std.specs.Ordering.{nat_cmp}
use Rattle.std.specs.Str.{bytes_eq}
use Rattle.std.proofs.lemmas.Bool.{false≢true, true≢false}
use Rattle.std.proofs.lemmas.Cmp.{nat_cmp_total}
use Rattle.std.proofs.lemmas.Map.Lookups.{exact_unsigned}
use Rattle.zq_message.specs.declared.message.QueryableInfoType.{QueryableInfoType}
use Rattle.zq_message.specs.declared.message.Region.{Region}
use Rattle.zq_message.specs.declared.message.Zid.{Zid}
use Rattle.zq_message.specs.Region.{region_index}
use Rattle.zq_key.proofs.Lookups.{found_after_insertion, found_after_removal}
use Rattle.zq_index.specs.Infos.{joined}
use Rattle.zq_index.specs.Texts.{text_cmp}
use Rattle.zq_index.proofs.Merges.{joined_none}
use Rattle.zq_strategy.specs.declared.network.Network.{Network}
use Rattle.zq_strategy.specs.Entries.{staying}
use Rattle.zq_strategy.specs.Nets.{is_listed}
use Rattle.zq_strategy.specs.declared.types.Declaration.{Declaration}
use Rattle.zq_strategy.specs.declared.types.FaceRecord.{FaceRecord}
use Rattle.zq_strategy.specs.declared.types.Strategy.{Strategy}
use Rattle.zq_strategy.specs.declared.types.Strategy.TheVariants as strategy
use Rattle.zq_strategy.specs.Fellows.{fellow_info, with_fellow}
use Rattle.zq_strategy.specs.Kept.{change_face, declaration_at, declare, face_at, has_face, info, key_of, keys_of_face, new_face, registered, unregistered, with_face_opened, withdraw, without_face}
use Rattle.zq_strategy.specs.Marks.{finalized, marked}
use Rattle.zq_strategy.specs.Regions.{in_routers, is_north, strategy_at}
use Rattle.zq_strategy.specs.Routers.{announced, networked, noded, retracted, source_at}
use Rattle.zq_strategy.specs.State.{FaceState, HatState}
use Rattle.zq_machine.specs.declared.call.Call.{Call}
use Rattle.zq_machine.specs.declared.call.Call.TheVariants as call
use Rattle.zq_machine.specs.declared.call.Opening.{Opening}
use Rattle.zq_machine.specs.declared.face.OpenFace.{OpenFace}
use Rattle.zq_machine.specs.Configs.{Settings}
use Rattle.zq_machine.specs.Deciding.{accepted, announced_by, causes, opened, refusal_of, retracted_by, seat}
use Rattle.zq_machine.specs.Due.{plain_due, due_keys, heard_as, heard_by, heard_in, is_heard_touched, listens_by, listens_in}
use Rattle.zq_interests.specs.Interests.{Interests, asks_for}
use Rattle.zq_machine.specs.Machine.{after, state_after}
use Rattle.zq_machine.specs.Selecting.{full_text}
use Rattle.zq_machine.specs.State.{Core, State, at, clashes_in, hat_at, is_open, is_region, joined as join, opening_state}
use Rattle.zq_machine.specs.TextCalls.{TextCall, opening, closing, declaring, withdrawing, finalizing, announcing, retracting, networking, tabling, read}
use Rattle.zq_machine.specs.Trees.{is_touched, own_entry, touched}
use Rattle.zq_machine.proofs.Agreed.{InOrder, accepted_in_order, next_absent, run_in_order}
use Rattle.zq_machine.proofs.Changing.{one_number}
use Rattle.zq_machine.proofs.DueKeys.{Absent, absent_put, among, keys_opened, nothing_due}
use Rattle.zq_machine.proofs.Folding.{fold_put, fold_set, fold_take}
use Rattle.zq_machine.proofs.Granted.{all_passed, by_granted}
use Rattle.zq_machine.proofs.Hats.{same_view, same_view_of}
use Rattle.zq_machine.proofs.Owning.{AreOff, declared_info, marked_info, nothing_declared, one_off, own_kept, withdrawn_info}

-- ---- what is due by what stands of regions
-- a region: its kind, itself, and what the fellows of a face declared on a key
record Seen : Type 0 where
  pub kind : Strategy
  pub region : Region
  pub fellows : Option QueryableInfoType

module _ (face : ℕ) (key : List ℕ) where
  abbrev seen : HatState → Seen
  seen h = record { kind = strategy_at h; region = h.region; fellows = fellow_info face key h }

  module _ (ints : Interests) where
    abbrev hears : Option QueryableInfoType → Seen → Option QueryableInfoType
    hears own v = heard_by v.kind v.fellows own

    abbrev hearkens : Seen → Bool
    hearkens v = listens_by v.kind (is_north v.region) (asks_for face key ints)

    -- what stands of a region
    abbrev standing_at : (ℕ → Option Seen) → Region → Option Seen
    standing_at regions r = cond (is_region r) (regions (region_index r)) None

    -- what is due, by the open face, by what other regions have, and by what stands of regions
    abbrev due_by : Option OpenFace → (ℕ → Option QueryableInfoType) → (ℕ → Option Seen) → Option QueryableInfoType
    due_by o own regions =
        cond (option_map_or hearkens (option_and_then (λ (p : OpenFace). standing_at regions p.region) o) false)
        (option_and_then (λ (p : OpenFace). option_and_then (hears (own (region_index p.region))) (standing_at regions p.region)) o) None

    due_is : (c : Core) → plain_due c ints face key ≡ due_by (at face c.faces) (λ p. own_entry p key c.hats) (λ k. option_map seen (at k c.hats))
    due_is c = by (at face c.faces)
      where
        there : (p : OpenFace) (b : Bool) (x : Option HatState)
            → cond (option_map_or (listens_in ints face key) (cond b x None) false) (option_and_then (heard_in face key c.hats (region_index p.region)) (cond b x None)) None
            ≡ cond (option_map_or hearkens (cond b (option_map seen x) None) false) (option_and_then (hears (own_entry (region_index p.region) key c.hats)) (cond b (option_map seen x) None)) None
        there p true None = refl
        there p true (Some h) = refl
        there p false x = refl

        by : (o : Option OpenFace) → cond (option_map_or (listens_in ints face key) (option_and_then (λ (p : OpenFace). hat_at p.region c.hats) o) false) (option_and_then (heard_as face key c.hats) o) None
            ≡ due_by o (λ p. own_entry p key c.hats) (λ k. option_map seen (at k c.hats))
        by None = refl
        by (Some p) = there p (is_region p.region) (at (region_index p.region) c.hats)

    same_due : (c d : Core) → at face d.faces ≡ at face c.faces → ((p : ℕ) → own_entry p key d.hats ≡ own_entry p key c.hats) → ((k : ℕ) → option_map seen (at k d.hats) ≡ option_map seen (at k c.hats))
        → plain_due d ints face key ≡ plain_due c ints face key
    same_due c d here own regions = due_is d ∙ (λ j. due_by (here j) (λ p. own p j) (λ k. regions k j)) ∙ sym (due_is c)

  -- ---- what stands of regions stays on a key that a call does not touch
  with_info : (n : ℕ) (m i j : Option QueryableInfoType) → i ≡ j → cond (n == face) m (joined m i) ≡ cond (n == face) m (joined m j)
  with_info n m i j e = ap (λ x. cond (n == face) m (joined m x)) e

  idle_by : (b : Bool) (m i : Option QueryableInfoType) → i ≡ None → cond b m (joined m i) ≡ m
  idle_by true m i e = refl
  idle_by false m i e = ap (joined m) e ∙ joined_none m

  fellows_are : (h : HatState) (i : Option QueryableInfoType) → i ≡ fellow_info face key h → record (seen h) { fellows = i } ≡ seen h
  fellows_are h i e = ap (λ x. record (seen h) { fellows = x }) e

  face_seen : (n : ℕ) (k : FaceState → FaceState) (h : HatState) → ((f : FaceState) → face_at n h ≡ Some f → info key (k f) ≡ info key f) → seen (change_face n k h) ≡ seen h
  face_seen n k h same = by (face_at n h) refl
    where
      by : (o : Option FaceState) → face_at n h ≡ o → seen (record h { faces = option_map_or (λ x. set_value (is_at (nat_cmp n)) h.faces (k x)) o h.faces }) ≡ seen h
      by None e = refl
      by (Some f) e = fellows_are h _ (fold_set (with_fellow face key) n h.faces f (k f) e (λ m. with_info n m _ _ (same f e)) None)

  joined_seen : (r : FaceRecord) (h : HatState) → seen (join r h) ≡ seen h
  joined_seen r h = by (has_face r.face.0 h) refl
    where
      by : (b : Bool) → has_face r.face.0 h ≡ b → seen (cond b h (with_face_opened r h)) ≡ seen h
      by true e = refl
      by false e =
          fellows_are h _ (fold_put (with_fellow face key) r.face.0 (new_face r h.told_start) h.faces (λ m. idle_by (r.face.0 == face) m None refl)
          (λ f there m. absurd (true≢false (sym (ap is_some there) ∙ e))) None)

  left_seen : (n : ℕ) (h : HatState) → AreOff key (keys_of_face n h) → seen (without_face n h) ≡ seen h
  left_seen n h off =
      fellows_are h _ (fold_take (with_fellow face key) n h.faces
      (λ f there m. idle_by (n == face) m (info key f)
      (nothing_declared key f.declared (sym (ap (λ x. list_any (λ k. bytes_eq k key) (option_map_or (λ (y : FaceState). map key_of y.declared) x [])) there) ∙ off) None)) None)

  announced_seen : (n node : ℕ) (text : List ℕ) (i : QueryableInfoType) (h : HatState) → seen (announced_by n node text i h) ≡ seen h
  announced_seen n node text i h = by (source_at n node h)
    where
      by : (z : Option Zid) → seen (option_map_or (λ (z : Zid). announced z.0 text i h) z h) ≡ seen h
      by None = refl
      by (Some z) = refl

  retracted_seen : (n node : ℕ) (text : List ℕ) (h : HatState) → seen (retracted_by n node text h) ≡ seen h
  retracted_seen n node text h = by (source_at n node h)
    where
      by : (z : Option Zid) → seen (option_map_or (λ (z : Zid). retracted z.0 text h) z h) ≡ seen h
      by None = refl
      by (Some z) = refl

  networked_seen : (net : Network) (h : HatState) → seen (networked net h) ≡ seen h
  networked_seen net h = by (strategy_at h)
    where
      by : (k : Strategy) → seen (in_routers k (record h { network = net; entries = staying (is_listed net) h.entries }) h) ≡ seen h
      by strategy.Broker = refl
      by strategy.Client = refl
      by strategy.Peer = refl
      by strategy.Router = refl

  regions_stay : (c : Core) (t : TextCall) → refusal_of c t ≡ None → is_touched c t key ≡ false → (k : ℕ) → option_map seen (at k (accepted c t).hats) ≡ option_map seen (at k c.hats)
  regions_stay c (opening o) h off k = same_view seen o.region (join (seat c.next_face o)) c.hats (λ x there. joined_seen (seat c.next_face o) x) k
  regions_stay c (closing g) h off k =
      same_view_of seen g.0 (without_face g.0) c
      (λ x there. left_seen g.0 x (sym (ap (λ y. list_any (λ k. bytes_eq k key) (option_map_or (keys_of_face g.0) y [])) there) ∙ off)) k
  regions_stay c (declaring g id s i node) h off k =
      let passed = all_passed (causes c (declaring g id s i node)) h in
      same_view_of seen g.0 (registered g.0 id (full_text s) node i) c
      (λ x there. face_seen g.0 (declare id (full_text s) i) x (declared_info key g.0 id (full_text s) i x (one_off key (full_text s) off) (sym (ap (clashes_in g.0 id (full_text s)) there) ∙ passed.1.1.1.0))) k
  regions_stay c (withdrawing g id) h off k =
      same_view_of seen g.0 (unregistered g.0 id) c
      (λ x there. face_seen g.0 (withdraw id) x (withdrawn_info key g.0 id x
      (λ d found. one_off key d.key (sym (ap (λ y. list_any (λ k. bytes_eq k key) (option_to_list (option_map (λ (z : Declaration). z.key) y))) (ap (option_and_then (declaration_at g.0 id)) there ∙ found)) ∙ off)))) k
  regions_stay c (finalizing g m set) h off k = same_view_of seen g.0 (finalized g.0 m set) c (λ x there. face_seen g.0 (marked m set) x (λ f is. marked_info key m set f)) k
  regions_stay c (announcing g s i node) h off k = same_view_of seen g.0 (announced_by g.0 node (full_text s) i) c (λ x there. announced_seen g.0 node (full_text s) i x) k
  regions_stay c (retracting g s node) h off k = same_view_of seen g.0 (retracted_by g.0 node (full_text s)) c (λ x there. retracted_seen g.0 node (full_text s) x) k
  regions_stay c (networking r net) h off k = same_view seen r (networked net) c.hats (λ x there. networked_seen net x) k
  regions_stay c (tabling g ids) h off k = same_view_of seen g.0 (noded g.0 ids) c (λ x there. face_seen g.0 (λ f. record f { nodes = ids }) x (λ f is. refl)) k
  regions_stay c t h off k = refl

  -- ---- a closed face
  shut : (c : Core) (ints : Interests) → at face c.faces ≡ None → plain_due c ints face key ≡ None
  shut c ints gone = due_is ints c ∙ ap (λ (o : Option OpenFace). due_by ints o (λ p. own_entry p key c.hats) (λ k. option_map seen (at k c.hats))) gone

-- a key that is not among those put in order is not among those put in
untouched : (key : List ℕ) (ks : List (List ℕ)) → AreOff key (fold (insert_key text_cmp) [] ks) → AreOff key ks
untouched key ks off = among key ks ∙ (absent_put key [] ks (sym (among key (fold (insert_key text_cmp) [] ks)) ∙ off)).0

module _ (config : Settings) (s : State) (i : InOrder config s) (ints : Interests) (face : ℕ) (key : List ℕ) where
  abbrev c : Core
  c = s.core

  -- what other regions have stays, too
  module _ (t : TextCall) (h : refusal_of s.core t ≡ None) (off : is_touched s.core t key ≡ false) where
    kept : at face (accepted s.core t).faces ≡ at face s.core.faces → plain_due (accepted s.core t) ints face key ≡ plain_due s.core ints face key
    kept here =
        same_due face key ints s.core (accepted s.core t) here
        (λ p. own_kept config s t h i (accepted_in_order config s t h i) p key off)
        (regions_stay face key s.core t h off)

  opened_by : (o : Opening) → refusal_of s.core (opening o) ≡ None → (b : Bool) → is_at (nat_cmp s.core.next_face) face ≡ b → is_heard_touched s.core (opening o) face key ≡ false → plain_due (accepted s.core (opening o)) ints face key ≡ plain_due s.core ints face key
  opened_by o h false is off = kept (opening o) h refl (found_after_insertion nat_cmp_total exact_unsigned s.core.next_face face (opened o) s.core.faces ∙ ap (λ b. cond b (Some (opened o)) (at face s.core.faces)) is)
  opened_by o h true is off =
      let same : s.core.next_face ≡ face = one_number s.core.next_face face is in
      let absent : Absent key (due_keys s.core) = sym (among key (due_keys s.core)) ∙ sym (ap (λ b. list_any (λ k. bytes_eq k key) (cond b (due_keys s.core) [])) (eq-eqb face s.core.next_face (sym same))) ∙ off in
      nothing_due key (accepted s.core (opening o)) ints face (ap (is_among_keys) (keys_opened s.core o) ∙ absent)
      ∙ sym (shut face key s.core ints (ap (λ n. at n s.core.faces) (sym same) ∙ next_absent s i.sound))
    where
      is_among_keys : List (List ℕ) → Bool
      is_among_keys ks = list_any (is_at (text_cmp key)) ks

  closed_by : (g : ℕ) (b : Bool) → is_at (nat_cmp g) face ≡ b → is_some (at face (remove_entry (is_at (nat_cmp g)) s.core.faces)) ≡ true → at face (remove_entry (is_at (nat_cmp g)) s.core.faces) ≡ at face s.core.faces
  closed_by g b is seen_after = by b is
    where
      found : at face (remove_entry (is_at (nat_cmp g)) s.core.faces) ≡ cond (is_at (nat_cmp g) face) None (at face s.core.faces)
      found = found_after_removal nat_cmp_total exact_unsigned g face s.core.faces i.sound.sorted

      by : (b : Bool) → is_at (nat_cmp g) face ≡ b → at face (remove_entry (is_at (nat_cmp g)) s.core.faces) ≡ at face s.core.faces
      by true e = absurd (false≢true (sym (ap is_some (found ∙ ap (λ b. cond b None (at face s.core.faces)) e)) ∙ seen_after))
      by false e = found ∙ ap (λ b. cond b None (at face s.core.faces)) e

  pub due_kept : (t : TextCall) → refusal_of s.core t ≡ None → is_open face (accepted s.core t) ≡ true → is_heard_touched s.core t face key ≡ false → plain_due (accepted s.core t) ints face key ≡ plain_due s.core ints face key
  due_kept (opening o) h open_after off = opened_by o h (is_at (nat_cmp s.core.next_face) face) refl off
  due_kept (closing g) h open_after off = kept (closing g) h (untouched key (touched s.core (closing g)) off) (closed_by g.0 (is_at (nat_cmp g.0) face) refl open_after)
  due_kept t h open_after off = kept t h (untouched key (touched s.core t) off) refl

-- at each point of a run
pub dues_stay : (config : Settings) (calls : List Call) (c : Call) (ints : Interests) (face : ℕ) (key : List ℕ)
    → is_open face (after (state_after (opening_state config) calls) c).core ≡ true
    → is_heard_touched (state_after (opening_state config) calls).core (read (state_after (opening_state config) calls) c) face key ≡ false
    → plain_due (after (state_after (opening_state config) calls) c).core ints face key ≡ plain_due (state_after (opening_state config) calls).core ints face key
dues_stay config calls c ints face key =
    let s = state_after (opening_state config) calls in
    by_granted
    (λ z w. is_open face w.core ≡ true → is_heard_touched s.core (read s c) face key ≡ false → plain_due w.core ints face key ≡ plain_due s.core ints face key)
    s (read s c) (λ text z w it. it) (λ p places z w it. it)
    (λ h. due_kept config s (run_in_order config calls) ints face key (read s c) h)
    (λ r seen_after off. refl)

-- to the face that an opening opens nothing is due on a key that is not touched
pub none_missed : (config : Settings) (calls : List Call) (o : Opening) (ints : Interests) (key : List ℕ)
    → is_some (plain_due (after (state_after (opening_state config) calls) (call.Open o)).core ints (state_after (opening_state config) calls).core.next_face key) ≡ true
    → is_heard_touched (state_after (opening_state config) calls).core (read (state_after (opening_state config) calls) (call.Open o)) (state_after (opening_state config) calls).core.next_face key ≡ true
none_missed config calls o ints key some = by (is_heard_touched s.core (opening o) s.core.next_face key) refl
  where
    s : State
    s = state_after (opening_state config) calls

    n : ℕ
    n = s.core.next_face

    before : plain_due s.core ints n key ≡ None
    before = shut n key s.core ints (next_absent s (run_in_order config calls).sound)

    is_there : (x : Option OpenFace) → at n (after s (call.Open o)).core.faces ≡ x → is_some x ≡ true
    is_there None e = absurd (false≢true (sym (ap is_some (shut n key (after s (call.Open o)).core ints e)) ∙ some))
    is_there (Some p) e = refl

    seen_after : is_open n (after s (call.Open o)).core ≡ true
    seen_after = is_there (at n (after s (call.Open o)).core.faces) refl

    by : (b : Bool) → is_heard_touched s.core (opening o) n key ≡ b → b ≡ true
    by true e = refl
    by false e = absurd (false≢true (sym (ap is_some (dues_stay config calls (call.Open o) ints n key seen_after e ∙ before)) ∙ some))
