-- A gateway's entries are those of the calls that made it and of their answers.
use Rattle.std.proofs.Common.{◌≡◌, ◌∙◌, refl, sym, ap, subst, ℕ, Bool, true, false, cond, List, [], ◌∷◌, ◌++◌, map, filter, Option, Some, None, ◌⊎◌, inl, inr, eqb-true, IfOk, Result, Ok, Err}
use Rattle.std.specs.Prelude.{◌==◌}
use Rattle.std.specs.List.{filter_map, list_any}
use Rattle.std.specs.List.Sorted.{IsStrictlySortedBy}
use Rattle.std.specs.Map.{keys_of}
use Rattle.std.specs.BTreeMap.{is_at}
use Rattle.std.specs.Option.{option_and_then, option_map, option_map_or}
use Rattle.std.specs.Ordering.{nat_cmp}
use Rattle.std.proofs.lemmas.Bool.{or_parts}
use Rattle.std.proofs.lemmas.Cmp.{nat_cmp_total}
use Rattle.std.proofs.lemmas.List.Folds.{list_any-append}
use Rattle.std.proofs.lemmas.Map.Lookups.{exact_unsigned}
use Rattle.std.proofs.lemmas.Option.{same_Some}
use Rattle.zq_message.specs.declared.memory.OutOfMemory.{OutOfMemory}
use Rattle.zq_message.specs.declared.message.FaceId.{FaceId}
use Rattle.zq_message.specs.declared.message.Mode.{Mode}
use Rattle.zq_message.specs.declared.message.Region.{Region}
use Rattle.zq_message.specs.declared.message.Zid.{Zid}
use Rattle.zq_message.specs.Region.{region_index}
use Rattle.zq_message.specs.RegionMap.{value_at}
use Rattle.zq_key.proofs.Lookups.{same_entries}
use Rattle.zq_strategy.specs.declared.types.Strategy.{Strategy}
use Rattle.zq_strategy.specs.declared.types.Strategy.TheVariants as strategy
use Rattle.zq_strategy.specs.Entries.{Entries}
use Rattle.zq_strategy.specs.Nets.{no_network}
use Rattle.zq_strategy.specs.Regions.{strategy_at}
use Rattle.zq_strategy.specs.State.{FaceState, HatState}
use Rattle.zq_interests.specs.declared.types.InterestEntry.{InterestEntry}
use Rattle.zq_interests.specs.Interests.{Interests, interests_of}
use Rattle.zq_hat.specs.declared.sources.Source.{Source}
use Rattle.zq_hat.specs.Joining.{Part, parts_joined}
use Rattle.zq_hat.specs.Listings.{listed as listed_keys}
use Rattle.zq_hat.specs.Sourced.{all_queriers, all_queryables, asked_listing, asked_listings, face_source, listings_by, queriers_part, queryables_part}
use Rattle.zq_tables.specs.Naming.{naming_at}
use Rattle.zq_machine.specs.declared.call.Call.{Call}
use Rattle.zq_machine.specs.declared.call.Call.TheVariants as call
use Rattle.zq_machine.specs.declared.call.Outcome.{Outcome}
use Rattle.zq_machine.specs.declared.call.Outcome.TheVariants as outcome
use Rattle.zq_machine.specs.declared.call.Step.{Step}
use Rattle.zq_machine.specs.declared.face.OpenFace.{OpenFace}
use Rattle.zq_machine.specs.Asked.{opened_by, opened_in}
use Rattle.zq_machine.specs.Configs.{Settings}
use Rattle.zq_machine.specs.Deciding.{is_accepted}
use Rattle.zq_machine.specs.Gates.{gate_at}
use Rattle.zq_machine.specs.Machine.{after, state_after, steps}
use Rattle.zq_machine.specs.Standing.{Routed, Standing, accepted_at, asking_after, asking_by, asking_in, first_routed, heard_all, is_by, kept_at, newly_opened, routed, routed_at, routed_in, standing_after, standing_at, standing_in, standing_of}
use Rattle.zq_machine.specs.State.{State, at, first_hats, hat_at, kind_of, opening_state}
use Rattle.zq_machine.proofs.Agreed.{InOrder, run_in_order}
use Rattle.zq_machine.proofs.Changing.{region_there}
use Rattle.zq_machine.proofs.Determined.{hat_stands, kept_in}
use Rattle.zq_machine.proofs.Hats.{IsIndex, kinds_of, opening_hats}
use Rattle.zq_machine.proofs.Kept.{headline}
use Rattle.zq_machine.proofs.Standing.{before, its_hat, stands_so}
use Rattle.zq_trace.proofs.FaceLists.{counted_sorted}
use Rattle.zq_trace.proofs.Finals.{at_number}
use Rattle.zq_admin.specs.Answering.{asked_own, due_among, first_made}
use Rattle.zq_admin.specs.Entries.{Entry, entries, entries_met, entries_of, is_met, own_source}
use Rattle.zq_admin.specs.Traced.{AreTraced, AsksTraced, entries_after, entries_there, entries_traced, face_there, faces_there, interests_traced, kept_there, region_traced, regions_traced}
use Rattle.zq_admin.proofs.Numbered.{are_listed, changed_at, changed_keys, valued_at}

-- ---- of a face that was not opened nothing stands, and it asks nothing
either_none : (b : Bool) → cond {A = Option Standing} b None None ≡ None
either_none true = refl
either_none false = refl

not_accepted : (config : Settings) (q : ℕ) (c : Call) (a : Outcome) → list_any (is_at (nat_cmp q)) (opened_by a) ≡ false → accepted_at config q c a None ≡ None
not_accepted config q (call.Open o) (outcome.Opened n) h = ap (λ b. cond b (Some (newly_opened config.start.told q o)) None) (sym (at_number q n.0) ∙ (or_parts (is_at (nat_cmp q) n.0) false h).0)
not_accepted config q (call.Open o) (outcome.Asked n) h = refl
not_accepted config q (call.Open o) (outcome.Replied n) h = refl
not_accepted config q (call.Open o) outcome.Done h = refl
not_accepted config q (call.Open o) (outcome.Refused r) h = refl
not_accepted config q (call.Close f) a h = either_none (f.0 == q)
not_accepted config q c a h = either_none (is_by q c)

none_after : (config : Settings) (q : ℕ) (c : Call) (t : Step) → list_any (is_at (nat_cmp q)) (opened_by t.outcome) ≡ false → standing_after config q c t None ≡ None
none_after config q c t h = by (is_accepted t.outcome)
  where
    by : (b : Bool) → cond b (option_map (heard_all q t.handed) (accepted_at config q c t.outcome None)) None ≡ None
    by true = ap (option_map (heard_all q t.handed)) (not_accepted config q c t.outcome h)
    by false = refl

either_empty : (b : Bool) → cond {A = List (ℕ × InterestEntry)} b [] [] ≡ []
either_empty true = refl
either_empty false = refl

asks_none : (q : ℕ) (c : Call) → asking_by q c None [] ≡ []
asks_none q (call.Interest f id keys aggregate w) = either_empty (f.0 == q)
asks_none q (call.InterestFinal f id) = either_empty (f.0 == q)
asks_none q (call.Close f) = either_empty (f.0 == q)
asks_none q c = refl

asks_none_after : (q : ℕ) (c : Call) (t : Step) → asking_after q c t None [] ≡ []
asks_none_after q c t = by (is_accepted t.outcome)
  where
    by : (b : Bool) → cond b (asking_by q c None []) [] ≡ []
    by true = asks_none q c
    by false = refl

-- the steps open no such face, neither the first nor the others
apart : (q : ℕ) (t : Step) (ts : List Step) → list_any (is_at (nat_cmp q)) (opened_in (t ∷ ts)) ≡ false → (list_any (is_at (nat_cmp q)) (opened_by t.outcome) ≡ false) × (list_any (is_at (nat_cmp q)) (opened_in ts) ≡ false)
apart q t ts h =
    or_parts (list_any (is_at (nat_cmp q)) (opened_by t.outcome)) (list_any (is_at (nat_cmp q)) (opened_in ts)) (sym (list_any-append (is_at (nat_cmp q)) (opened_by t.outcome) (opened_in ts)) ∙ h)

not_stood : (config : Settings) (q : ℕ) (cs : List Call) (ts : List Step) → list_any (is_at (nat_cmp q)) (opened_in ts) ≡ false → standing_in config q cs ts None ≡ None
not_stood config q [] ts h = refl
not_stood config q (c ∷ cs) [] h = refl
not_stood config q (c ∷ cs) (t ∷ ts) h = ap (standing_in config q cs ts) (none_after config q c t (apart q t ts h).0) ∙ not_stood config q cs ts (apart q t ts h).1

not_asked : (config : Settings) (q : ℕ) (cs : List Call) (ts : List Step) → list_any (is_at (nat_cmp q)) (opened_in ts) ≡ false → asking_in config q cs ts None [] ≡ []
not_asked config q [] ts h = refl
not_asked config q (c ∷ cs) [] h = refl
not_asked config q (c ∷ cs) (t ∷ ts) h =
    (λ j. asking_in config q cs ts (none_after config q c t (apart q t ts h).0 j) (asks_none_after q c t j))
    ∙ not_asked config q cs ts (apart q t ts h).1

-- ---- who asks is read off what each face asks alone
module _ (ints others : Interests) (alike : (n : ℕ) → interests_of n ints ≡ interests_of n others) where
  asked_same : (k : Strategy) (faces : List (ℕ × FaceState)) → asked_listings k ints faces ≡ asked_listings k others faces
  asked_same k [] = refl
  asked_same k (f ∷ fs) = λ j. filter_map (asked_listing (face_source k f.1)) (alike f.0 j) ++ asked_same k fs j

  listings_same : (k : Strategy) (faces : List (ℕ × FaceState)) → listings_by k ints faces ≡ listings_by k others faces
  listings_same strategy.Broker faces = asked_same strategy.Broker faces
  listings_same strategy.Client faces = refl
  listings_same strategy.Peer faces = asked_same strategy.Peer faces
  listings_same strategy.Router faces = refl

  queriers_alike : (hats : List (ℕ × HatState)) → map (queriers_part ints) hats ≡ map (queriers_part others) hats
  queriers_alike [] = refl
  queriers_alike (h ∷ hats) = λ j. (None, listed_keys (listings_same (strategy_at h.1) h.1.faces j)) ∷ queriers_alike hats j

-- ---- what is read of a region
abbrev Seen : Type 0
Seen = (Region × (Mode × Zid)) × (List (ℕ × FaceState) × Entries)

abbrev seen : HatState → Seen
seen h = (kind_of h, (h.faces, h.entries))

abbrev shown : List (ℕ × HatState) → List (ℕ × Seen)
shown hats = map (λ e. (e.0, seen e.1)) hats

-- a region of which the same is read
abbrev of_seen : ℕ × Seen → ℕ × HatState
of_seen e = (e.0, record { region = e.1.0.0; north_mode = e.1.0.1.0; own = e.1.0.1.1; told_start = 0; faces = e.1.1.0; entries = e.1.1.1; network = no_network })

module _ (f : ℕ × HatState → Part) (alike : (e : ℕ × HatState) → f e ≡ f (of_seen (e.0, seen e.1))) where
  by_seen : (hats : List (ℕ × HatState)) → map f hats ≡ map (λ e. f (of_seen e)) (shown hats)
  by_seen [] = refl
  by_seen (h ∷ hats) = λ j. alike h j ∷ by_seen hats j

  parts_same : (hats others : List (ℕ × HatState)) → shown hats ≡ shown others → map f hats ≡ map f others
  parts_same hats others same = by_seen hats ∙ ap (map (λ e. f (of_seen e))) same ∙ sym (by_seen others)

-- ---- a state that calls made
record IsMade (config : Settings) (calls : List Call) (answers : List Step) (s : State) : Type 0 where
  order : InOrder config s
  settings : s.core.config ≡ config
  stands : (face : ℕ) → standing_at face s ≡ standing_in config face calls answers None
  routers : (place : ℕ) → routed_at place s ≡ routed_in config place calls answers (λ face. None) (first_routed config place)
  asked : (face : ℕ) → interests_of face s.core.interests ≡ asking_in config face calls answers None []
  rising : IsStrictlySortedBy nat_cmp (opened_in answers)

none_rise : IsStrictlySortedBy nat_cmp []
unfolding IsStrictlySortedBy
none_rise = tt

module _ (config : Settings) (calls : List Call) (answers : List Step) (s : State) (m : IsMade config calls answers s) where
  -- the faces of a region's hat are those that stand at its place
  region_stands : (place : ℕ) (r : Region) (h : HatState) → hat_at r s.core.hats ≡ Some h → region_index r ≡ place → (q : ℕ) → at q h.faces ≡ option_and_then (kept_there place) (standing_at q s)
  region_stands place r h h_at same q = hat_stands config s m.order r h h_at q ∙ by (standing_at q s)
    where
      by : (o : Option Standing) → kept_in r o ≡ option_and_then (kept_there place) o
      by None = refl
      by (Some st) = ap (λ k. cond (region_index st.opened.region == k) (Some st.kept) None) same

  -- at the place of a hat without faces none stands
  none_stands : (place : ℕ) (h : HatState) → at place s.core.hats ≡ Some h → h.faces ≡ [] → (q : ℕ) → option_and_then (kept_there place) (standing_at q s) ≡ None
  none_stands place h h_at empty q = by (at q s.core.faces) refl
    where
      by : (x : Option OpenFace) → at q s.core.faces ≡ x → option_and_then (kept_there place) (standing_at q s) ≡ None
      by None e = ap (λ x. option_and_then (kept_there place) (standing_of (gate_at q s.gates) x (naming_at q s.names) (kept_at q s.core))) e
      by (Some o) e = of (region_index o.region == place) refl
        where
          hat : (x : HatState) × (hat_at o.region s.core.hats ≡ Some x)
          hat = its_hat s.gates s.core.faces s.core.hats s.names m.order.tied q o e

          here : region_index o.region ≡ place → hat.0 ≡ h
          here same = same_Some _ _ (sym (region_there o.region s.core.hats hat.0 hat.1).1 ∙ ap (λ k. at k s.core.hats) same ∙ h_at)

          of : (b : Bool) → (region_index o.region == place) ≡ b → option_and_then (kept_there place) (standing_at q s) ≡ None
          of true is =
              let same = eqb-true (region_index o.region) place is in
              sym (region_stands place o.region hat.0 hat.1 same q) ∙ ap (λ (x : HatState). at q x.faces) (here same) ∙ ap (at q) empty
          of false is =
              ap (option_and_then (kept_there place)) (stands_so s.gates s.core.faces s.core.hats s.names m.order.tied q o e)
              ∙ ap (λ b. cond b (Some (before s.gates s.core.faces s.core.hats s.names m.order.tied q o e).kept) None) is

  hat_there : (place : ℕ) (h : HatState) → at place s.core.hats ≡ Some h → (x : IsIndex place) → hat_at x.0 s.core.hats ≡ Some h
  hat_there place h h_at x = ap (λ b. cond b (value_at s.core.hats x.0) None) x.1 ∙ ap (λ k. at k s.core.hats) x.2 ∙ h_at

  hat_faces : (place : ℕ) (h : HatState) → at place s.core.hats ≡ Some h → h.faces ≡ faces_there config calls answers place
  hat_faces place h h_at =
      are_listed (face_there config calls answers place) h.faces (opened_in answers) (in_order (m.order.hats.homes place h h_at)) m.rising
      (λ q. found q (m.order.hats.homes place h h_at) ∙ ap (option_and_then (kept_there place)) (m.stands q))
      (λ q none. ap (option_and_then (kept_there place)) (not_stood config q calls answers none))
    where
      in_order : (h.faces ≡ []) ⊎ IsIndex place → IsStrictlySortedBy nat_cmp (keys_of h.faces)
      in_order (inl e) = subst (λ (l : List (ℕ × FaceState)). IsStrictlySortedBy nat_cmp (keys_of l)) (sym e) none_rise
      in_order (inr x) = m.order.tied.hats_sorted x.0 h (hat_there place h h_at x)

      found : (q : ℕ) → (h.faces ≡ []) ⊎ IsIndex place → at q h.faces ≡ option_and_then (kept_there place) (standing_at q s)
      found q (inl e) = ap (at q) e ∙ sym (none_stands place h h_at e q)
      found q (inr x) = region_stands place x.0 h (hat_there place h h_at x) x.2 q

  hat_entries : (place : ℕ) (h : HatState) → at place s.core.hats ≡ Some h → h.entries ≡ entries_there config calls answers place
  hat_entries place h h_at =
      ap (λ o. option_map_or (λ (r : Routed). r.entries) (option_map routed o) []) (sym h_at)
      ∙ ap (λ o. option_map_or (λ (r : Routed). r.entries) o []) (m.routers place)

  region_seen : (place : ℕ) → option_map seen (at place s.core.hats) ≡ option_map seen (option_map (region_traced config calls answers place) (at place (first_hats config)))
  region_seen place = by (at place s.core.hats) (at place (first_hats config)) refl (kinds_of (at place s.core.hats) (at place (first_hats config)) (m.order.hats.shape place))
    where
      by : (x y : Option HatState) → at place s.core.hats ≡ x → option_map kind_of x ≡ option_map kind_of y → option_map seen x ≡ option_map seen (option_map (region_traced config calls answers place) y)
      by None None e kinds = refl
      by None (Some k) e kinds = absurd (let gap : None ≡ Some (kind_of k) = kinds in cc)
      by (Some h) None e kinds = absurd (let gap : Some (kind_of h) ≡ None = kinds in cc)
      by (Some h) (Some k) e kinds = λ j. Some (same_Some (kind_of h) (kind_of k) kinds j, (hat_faces place h e j, hat_entries place h e j))

  all_seen : shown s.core.hats ≡ shown (regions_traced config calls answers)
  all_seen =
      same_entries nat_cmp_total exact_unsigned (shown s.core.hats) (shown (regions_traced config calls answers))
      (subst (IsStrictlySortedBy nat_cmp) (sym (changed_keys (λ n h. seen h) s.core.hats)) m.order.hats.sorted)
      (subst (IsStrictlySortedBy nat_cmp) (sym (changed_keys (λ n h. seen h) (regions_traced config calls answers) ∙ changed_keys (region_traced config calls answers) (first_hats config))) (opening_hats config).sorted)
      (λ q. changed_at (λ n h. seen h) q s.core.hats
      ∙ region_seen q
      ∙ ap (option_map seen) (sym (changed_at (region_traced config calls answers) q (first_hats config)))
      ∙ sym (changed_at (λ n h. seen h) q (regions_traced config calls answers)))

  asks_same : (q : ℕ) → interests_of q s.core.interests ≡ interests_of q (interests_traced config calls answers)
  asks_same q = m.asked q ∙ by (list_any (is_at (nat_cmp q)) (opened_in answers)) refl ∙ sym (ap of (valued_at (λ n. asking_in config n calls answers None []) q (opened_in answers)))
    where
      of : Option (List (ℕ × InterestEntry)) → List (ℕ × InterestEntry)
      of o = option_map_or (λ es. es) o []

      by : (b : Bool) → list_any (is_at (nat_cmp q)) (opened_in answers) ≡ b → asking_in config q calls answers None [] ≡ of (cond (list_any (is_at (nat_cmp q)) (opened_in answers)) (Some (asking_in config q calls answers None [])) None)
      by true e = sym (ap (λ b. of (cond b (Some (asking_in config q calls answers None [])) None)) e)
      by false e = not_asked config q calls answers e ∙ sym (ap (λ b. of (cond b (Some (asking_in config q calls answers None [])) None)) e)

  queriers_same : all_queriers s.core.interests s.core.hats ≡ all_queriers (interests_traced config calls answers) (regions_traced config calls answers)
  queriers_same =
      ap parts_joined
      (queriers_alike s.core.interests (interests_traced config calls answers) asks_same s.core.hats
      ∙ parts_same (queriers_part (interests_traced config calls answers)) (λ e. refl) s.core.hats (regions_traced config calls answers) all_seen)

  queryables_same : (own : Source) → all_queryables own s.core.hats ≡ all_queryables own (regions_traced config calls answers)
  queryables_same own = ap parts_joined (parts_same (queryables_part own) (λ e. refl) s.core.hats (regions_traced config calls answers) all_seen)

  made_traced : entries s ≡ entries_traced config calls answers
  made_traced =
      ap (λ (c : Settings). entries_of (own_source c) (all_queriers s.core.interests s.core.hats) (all_queryables (own_source c) s.core.hats)) m.settings
      ∙ (λ j. entries_of (own_source config) (queriers_same j) (queryables_same (own_source config) j))

-- ---- each state that a run reaches
all_made : (config : Settings) (calls : List Call) → IsMade config calls (steps config calls) (state_after (opening_state config) calls)
all_made config calls =
    let p = headline config calls in
    record {
      order = run_in_order config calls;
      settings = p.settings;
      stands = p.stands;
      routers = p.routed;
      asked = p.asked;
      rising = counted_sorted config.start.faces (opened_in (steps config calls)) p.faces;
    }

pub all_traced : (config : Settings) (calls : List Call) → entries (state_after (opening_state config) calls) ≡ entries_traced config calls (steps config calls)
all_traced config calls = made_traced config calls (steps config calls) (state_after (opening_state config) calls) (all_made config calls)

-- entries that were found are those of the calls
pub found_traced : (key : List ℕ) (s : State) (r : Result (List Entry) OutOfMemory) → IfOk r (λ l. l ≡ entries_met key s) → IfOk r (AreTraced key s)
found_traced key s (Ok l) found = record { same = λ config calls is. found ∙ ap (entries_met key) is ∙ ap (filter (is_met key)) (all_traced config calls) }
found_traced key s (Err e) found = tt

-- and so they are those of the calls that made it
pub of_calls : (key : List ℕ) (s : State) (config : Settings) (calls : List Call) (r : Result (List Entry) OutOfMemory) → s ≡ state_after (opening_state config) calls → IfOk r (AreTraced key s) → IfOk r (λ l. l ≡ entries_after config calls key)
of_calls key s config calls (Ok l) is found = found.same config calls is
of_calls key s config calls (Err e) is found = tt

-- ---- once one more call is made
later : (cs : List Call) (c : Call) (s : State) → after (state_after s cs) c ≡ state_after s (cs ++ c ∷ [])
later [] c s = refl
later (d ∷ cs) c s = later cs c (after s d)

first_state : (c : Call) (s : State) → (first_made c s).state ≡ after s c
unfolding first_made
first_state c s = refl

pub asks_traced : (own : FaceId) (s : State) (c : Call) → AsksTraced own s c
asks_traced own s c = record {
  same = λ config calls is. ap (due_among (asked_own own c s))
      (ap entries (first_state c s ∙ ap (λ z. after z c) is ∙ later calls c (opening_state config)) ∙ all_traced config (calls ++ c ∷ []));
}
