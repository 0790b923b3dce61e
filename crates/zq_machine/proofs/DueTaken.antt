-- What is due to a face that listens leaves nothing out, and who listens; and in a region of routers nothing is due.
use Rattle.std.proofs.Common.{◌≡◌, ◌∙◌, refl, sym, ap, ℕ, Bool, true, false, cond, eqb-true, List, [], ◌∷◌, fold, Option, Some, None}
use Rattle.std.specs.Prelude.{◌==◌, ◌≢◌, ◌||◌}
use Rattle.std.specs.BTreeMap.{is_at}
use Rattle.std.specs.List.{AllByRecursion, list_any}
use Rattle.std.specs.Option.{option_and_then, option_map_or}
use Rattle.std.specs.Ordering.{nat_cmp}
use Rattle.std.proofs.lemmas.Bool.{eqb-false, false≢true, true≢false}
use Rattle.std.proofs.lemmas.Cmp.{nat_cmp_total}
use Rattle.std.proofs.lemmas.Map.Lookups.{exact_unsigned}
use Rattle.std.proofs.lemmas.Option.{same_Some}
use Rattle.zq_key.proofs.Lookups.{each_entry}
use Rattle.zq_message.specs.declared.message.Mode.{Mode}
use Rattle.zq_message.specs.declared.message.Mode.TheVariants as mode
use Rattle.zq_message.specs.declared.message.QueryableInfoType.{QueryableInfoType}
use Rattle.zq_message.specs.declared.message.Region.{Region}
use Rattle.zq_message.specs.declared.message.Region.TheVariants as region
use Rattle.zq_message.specs.Region.{region_index}
use Rattle.zq_index.specs.Infos.{joined}
use Rattle.zq_index.proofs.Laws.{merge_self}
use Rattle.zq_index.proofs.Merges.{joined_none, joined_regroup, joined_swap}
use Rattle.zq_interests.specs.declared.types.InterestEntry.{InterestEntry}
use Rattle.zq_strategy.specs.declared.types.Strategy.{Strategy}
use Rattle.zq_strategy.specs.declared.types.Strategy.TheVariants as strategy
use Rattle.zq_strategy.specs.Fellows.{fellow_info}
use Rattle.zq_strategy.specs.Kept.{at_id, face_at, info, region_info}
use Rattle.zq_strategy.specs.Regions.{in_routers, is_north, strategy_at, strategy_of}
use Rattle.zq_strategy.specs.State.{FaceState, HatState}
use Rattle.zq_machine.specs.declared.call.Call.{Call}
use Rattle.zq_machine.specs.declared.face.OpenFace.{OpenFace}
use Rattle.zq_machine.specs.Configs.{Settings}
use Rattle.zq_machine.specs.Machine.{state_after}
use Rattle.zq_machine.specs.Due.{plain_due, heard, heard_as, heard_by, heard_in, listens, listens_by, listens_in}
use Rattle.zq_interests.specs.Interests.{Interests, asked_for, asks_for, interests_of, wants}
use Rattle.zq_machine.specs.State.{Core, at, hat_at, hat_of, is_routing, opening_state}
use Rattle.zq_machine.specs.Trees.{own_entry}
use Rattle.zq_machine.proofs.Agreed.{InOrder, run_in_order}
use Rattle.zq_machine.proofs.Changing.{one_number}

-- ---- a merge takes in each of its parts
abbrev Info : Type 0
Info = Option QueryableInfoType

joined_self : (i : Info) → joined i i ≡ i
joined_self None = refl
joined_self (Some i) = ap Some (merge_self i)

-- the information is in the merge
abbrev IsIn : Info → Info → Type 0
IsIn i m = joined m i ≡ m

in_later : (a i r : Info) → IsIn i (joined (joined a i) r)
in_later a i r =
    joined_regroup (joined a i) r i
    ∙ ap (joined (joined a i)) (joined_swap r i)
    ∙ sym (joined_regroup (joined a i) i r)
    ∙ ap (λ x. joined x r) (joined_regroup a i i ∙ ap (joined a) (joined_self i))

in_left : (i a b : Info) → IsIn i a → IsIn i (joined a b)
in_left i a b h = joined_regroup a b i ∙ ap (joined a) (joined_swap b i) ∙ sym (joined_regroup a i b) ∙ ap (λ x. joined x b) h

in_right : (i a b : Info) → IsIn i b → IsIn i (joined a b)
in_right i a b h = joined_regroup a b i ∙ ap (joined a) h

-- what takes in two takes in their merge
in_both : (a b m : Info) → IsIn a m → IsIn b m → IsIn (joined a b) m
in_both a b m h k = sym (joined_regroup m a b) ∙ ap (λ x. joined x b) h ∙ k

-- entries are merged, but for those at a number
module _ {X : Type 0} (n : ℕ) (val : X → Info) where
  abbrev taking : Info → ℕ × X → Info
  taking m e = cond (e.0 == n) m (joined m (val e.1))

  taken_from : (m : Info) (es : List (ℕ × X)) → fold taking m es ≡ joined m (fold taking None es)
  taken_from m [] = sym (joined_none m)
  taken_from m (e ∷ es) = by (e.0 == n) (λ x. taken_from x es)
    where
      by : (b : Bool) → ((x : Info) → fold taking x es ≡ joined x (fold taking None es)) → fold taking (cond b m (joined m (val e.1))) es ≡ joined m (fold taking (cond b None (joined None (val e.1))) es)
      by true ih = ih m
      by false ih = ih (joined m (val e.1)) ∙ joined_regroup m (val e.1) (fold taking None es) ∙ ap (joined m) (sym (ih (val e.1)))

  taken : (k : ℕ) (x : X) → (k == n) ≡ false → (es : List (ℕ × X)) → at_id k es ≡ Some x → (m : Info) → IsIn (val x) (fold taking m es)
  taken k x other [] there m = absurd (let gap : None ≡ Some x = there in cc)
  taken k x other (e ∷ es) there m = by (is_at (nat_cmp k) e.0) refl there (λ h. taken k x other es h (taking m e))
    where
      here : k ≡ e.0 → e.1 ≡ x → taking m e ≡ joined m (val x)
      here one same = ap (λ b. cond b m (joined m (val e.1))) (ap (λ q. q == n) (sym one) ∙ other) ∙ ap (λ y. joined m (val y)) same

      by : (b : Bool) → is_at (nat_cmp k) e.0 ≡ b → cond b (Some e.1) (at_id k es) ≡ Some x → (at_id k es ≡ Some x → IsIn (val x) (fold taking (taking m e) es)) → IsIn (val x) (fold taking (taking m e) es)
      by true is found more =
          let first = ap (λ y. fold taking y es) (here (one_number k e.0 is) (same_Some _ _ found)) ∙ taken_from (joined m (val x)) es in
          ap (λ y. joined y (val x)) first ∙ in_later m (val x) (fold taking None es) ∙ sym first
      by false is found more = more found

  -- what takes in each takes in their merge
  taken_all : (m : Info) (es : List (ℕ × X)) → AllByRecursion (λ (e : ℕ × X). e.0 ≢ n → IsIn (val e.1) m) es → (a : Info) → IsIn a m → IsIn (fold taking a es) m
  taken_all m [] all a h = h
  taken_all m (e ∷ es) all a h = by (e.0 == n) refl (taken_all m es all.1)
    where
      by : (b : Bool) → (e.0 == n) ≡ b → ((x : Info) → IsIn x m → IsIn (fold taking x es) m) → IsIn (fold taking (cond b a (joined a (val e.1))) es) m
      by true is more = more a h
      by false is more = more (joined a (val e.1)) (in_both a (val e.1) m h (all.0 (eqb-false e.0 n is)))

not_one : (k n : ℕ) → k ≢ n → (k == n) ≡ false
not_one k n other = by (k == n) refl
  where
    by : (b : Bool) → (k == n) ≡ b → b ≡ false
    by true e = absurd (other (eqb-true k n e))
    by false e = refl

-- ---- what is due to a face that listens
module _ (c : Core) (ints : Interests) (face : ℕ) (key : List ℕ) (o : OpenFace) (h : HatState) where
  due_heard : at face c.faces ≡ Some o → hat_at o.region c.hats ≡ Some h → listens c ints face key ≡ true → plain_due c ints face key ≡ heard_in face key c.hats (region_index o.region) h
  due_heard seen here on =
      ap (λ b. cond b (heard c face key) None) on
      ∙ ap (option_and_then (heard_as face key c.hats)) seen
      ∙ ap (option_and_then (heard_in face key c.hats (region_index o.region))) here

  -- under a broker, what each other face of the region declared is in it
  pub fellows_heard : at face c.faces ≡ Some o → hat_at o.region c.hats ≡ Some h → listens c ints face key ≡ true → strategy_at h ≡ strategy.Broker → (fellow : ℕ) (f : FaceState) → fellow ≢ face → face_at fellow h ≡ Some f
      → joined (plain_due c ints face key) (info key f) ≡ plain_due c ints face key
  fellows_heard seen here on broker fellow f other there =
      let is = due_heard seen here on ∙ ap (λ k. heard_by k (fellow_info face key h) (own_entry (region_index o.region) key c.hats)) broker in
      ap (λ m. joined m (info key f)) is
      ∙ in_left (info key f) (fellow_info face key h) (own_entry (region_index o.region) key c.hats) (taken face (info key) fellow f (not_one fellow face other) h.faces there None)
      ∙ sym is

  -- but in a region of routers, what each other region has is in it
  pub regions_heard : at face c.faces ≡ Some o → hat_at o.region c.hats ≡ Some h → listens c ints face key ≡ true → is_routing h ≡ false → (elsewhere : ℕ) (g : HatState) → elsewhere ≢ region_index o.region → at elsewhere c.hats ≡ Some g
      → joined (plain_due c ints face key) (region_info key g) ≡ plain_due c ints face key
  regions_heard seen here on routed elsewhere g other there =
      let is = due_heard seen here on in
      ap (λ m. joined m (region_info key g)) is ∙ by (strategy_at h) routed ∙ sym is
    where
      inside : IsIn (region_info key g) (own_entry (region_index o.region) key c.hats)
      inside = taken (region_index o.region) (region_info key) elsewhere g (not_one elsewhere (region_index o.region) other) c.hats there None

      by : (k : Strategy) → in_routers k true false ≡ false → IsIn (region_info key g) (heard_by k (fellow_info face key h) (own_entry (region_index o.region) key c.hats))
      by strategy.Broker e = in_right (region_info key g) (fellow_info face key h) (own_entry (region_index o.region) key c.hats) inside
      by strategy.Client e = inside
      by strategy.Peer e = inside
      by strategy.Router e = absurd (true≢false e)

-- and nothing else is in it: what takes in each of its parts takes in what is due
pub none_added : (config : Settings) (calls : List Call) (ints : Interests) (face : ℕ) (key : List ℕ) (o : OpenFace) (h : HatState) (m : Info)
    → at face (state_after (opening_state config) calls).core.faces ≡ Some o → hat_at o.region (state_after (opening_state config) calls).core.hats ≡ Some h
    → (strategy_at h ≡ strategy.Broker → (fellow : ℕ) (f : FaceState) → fellow ≢ face → face_at fellow h ≡ Some f → joined m (info key f) ≡ m)
    → ((elsewhere : ℕ) (g : HatState) → elsewhere ≢ region_index o.region → at elsewhere (state_after (opening_state config) calls).core.hats ≡ Some g → joined m (region_info key g) ≡ m)
    → joined m (plain_due (state_after (opening_state config) calls).core ints face key) ≡ m
none_added config calls ints face key o h m seen here near far = by (listens (state_after (opening_state config) calls).core ints face key) refl
  where
    i : InOrder config (state_after (opening_state config) calls)
    i = run_in_order config calls

    others : IsIn (own_entry (region_index o.region) key (state_after (opening_state config) calls).core.hats) m
    others =
        taken_all (region_index o.region) (region_info key) m (state_after (opening_state config) calls).core.hats
        (each_entry nat_cmp_total exact_unsigned (λ (e : ℕ × HatState). e.0 ≢ region_index o.region → IsIn (region_info key e.1) m) (state_after (opening_state config) calls).core.hats i.hats.sorted (λ k g there other. far k g other there)) None (joined_none m)

    fellows : strategy_at h ≡ strategy.Broker → IsIn (fellow_info face key h) m
    fellows broker =
        taken_all face (info key) m h.faces
        (each_entry nat_cmp_total exact_unsigned (λ (e : ℕ × FaceState). e.0 ≢ face → IsIn (info key e.1) m) h.faces (i.tied.hats_sorted o.region h here) (λ k f there other. near broker k f other there)) None (joined_none m)

    kind : (k : Strategy) → strategy_at h ≡ k → IsIn (heard_by k (fellow_info face key h) (own_entry (region_index o.region) key (state_after (opening_state config) calls).core.hats)) m
    kind strategy.Broker is = in_both (fellow_info face key h) (own_entry (region_index o.region) key (state_after (opening_state config) calls).core.hats) m (fellows is) others
    kind strategy.Client is = others
    kind strategy.Peer is = others
    kind strategy.Router is = joined_none m

    by : (b : Bool) → listens (state_after (opening_state config) calls).core ints face key ≡ b → IsIn (plain_due (state_after (opening_state config) calls).core ints face key) m
    by true on = ap (joined m) (due_heard (state_after (opening_state config) calls).core ints face key o h seen here on) ∙ kind (strategy_at h) refl
    by false off = ap (λ b. joined m (cond b (heard (state_after (opening_state config) calls).core face key) None)) off ∙ joined_none m

-- in a region of routers nothing is due
pub routers_undue : (c : Core) (ints : Interests) (face : ℕ) (key : List ℕ) (h : HatState) → hat_of face c ≡ Some h → is_routing h ≡ true → plain_due c ints face key ≡ None
routers_undue c ints face key h here routed =
    ap (λ b. cond b (heard c face key) None) (ap (λ (x : Option HatState). option_map_or (listens_in ints face key) x false) here) ∙ by (listens_in ints face key h)
  where
    at_hat : (o : OpenFace) → hat_at o.region c.hats ≡ Some h → (k : Strategy) → strategy_at h ≡ k → in_routers k true false ≡ true → option_and_then (heard_in face key c.hats (region_index o.region)) (hat_at o.region c.hats) ≡ None
    at_hat o there strategy.Broker is e = absurd (false≢true e)
    at_hat o there strategy.Client is e = absurd (false≢true e)
    at_hat o there strategy.Peer is e = absurd (false≢true e)
    at_hat o there strategy.Router is e =
        ap (option_and_then (heard_in face key c.hats (region_index o.region))) there
        ∙ ap (λ k. heard_by k (fellow_info face key h) (own_entry (region_index o.region) key c.hats)) is

    silent : (x : Option OpenFace) → option_and_then (λ (o : OpenFace). hat_at o.region c.hats) x ≡ Some h → option_and_then (heard_as face key c.hats) x ≡ None
    silent None e = refl
    silent (Some o) e = at_hat o e (strategy_at h) refl routed

    by : (b : Bool) → cond b (heard c face key) None ≡ None
    by true = silent (at face c.faces) here
    by false = refl

-- ---- who listens
module _ (c : Core) (ints : Interests) (face : ℕ) (key : List ℕ) (h : HatState) (here : hat_of face c ≡ Some h) where
  listening : listens_in ints face key h ≡ true → listens c ints face key ≡ true
  listening on = ap (λ (x : Option HatState). option_map_or (listens_in ints face key) x false) here ∙ on

  or_right : (a b : Bool) → b ≡ true → (a || b) ≡ true
  or_right true b e = refl
  or_right false b e = e

  any_at : (id : ℕ) (asked : InterestEntry) → wants key (id, asked) ≡ true → (es : List (ℕ × InterestEntry)) → at_id id es ≡ Some asked → list_any (wants key) es ≡ true
  any_at id asked on [] there = absurd (let gap : None ≡ Some asked = there in cc)
  any_at id asked on (e ∷ es) there = by (is_at (nat_cmp id) e.0) there (any_at id asked on es)
    where
      by : (b : Bool) → cond b (Some e.1) (at_id id es) ≡ Some asked → (at_id id es ≡ Some asked → list_any (wants key) es ≡ true) → (wants key e || list_any (wants key) es) ≡ true
      by true found more = ap (λ b. b || list_any (wants key) es) (ap (λ (i : InterestEntry). asked_for i key) (same_Some _ _ found) ∙ on)
      by false found more = or_right (wants key e) (list_any (wants key) es) (more found)

  -- a face listens on a key for which one of its interests asks
  pub asking_listens : is_routing h ≡ false → (id : ℕ) (asked : InterestEntry) → at id (interests_of face ints) ≡ Some asked → asked_for asked key ≡ true → listens c ints face key ≡ true
  asking_listens routed id asked there on = listening (by (strategy_at h) (is_north h.region) (asks_for face key ints) routed (any_at id asked on (interests_of face ints) there))
    where
      by : (k : Strategy) (north asks : Bool) → in_routers k true false ≡ false → asks ≡ true → listens_by k north asks ≡ true
      by strategy.Broker north asks r e = e
      by strategy.Client north asks r e = refl
      by strategy.Peer north asks r e = or_right north asks e
      by strategy.Router north asks r e = absurd (true≢false r)

  unasked : (r : Region) (m : Mode) (asks : Bool) → is_north r ≡ true → in_routers (strategy_of r m) true false ≡ false → listens_by (strategy_of r m) (is_north r) asks ≡ true
  unasked region.North mode.Router asks n routed = absurd (true≢false routed)
  unasked region.North mode.Peer asks n routed = refl
  unasked region.North mode.Client asks n routed = refl
  unasked region.Local m asks n routed = absurd (false≢true n)
  unasked (region.South id k) m asks n routed = absurd (false≢true n)

  -- and each in North that is no router's
  pub north_listens : is_north h.region ≡ true → is_routing h ≡ false → listens c ints face key ≡ true
  north_listens north routed = listening (unasked h.region h.north_mode (asks_for face key ints) north routed)
