-- At every point of every run open faces, hats and what stands for keys agree.
use Rattle.std.proofs.Common.{◌≡◌, ◌∙◌, refl, sym, ap, subst, ℕ, ◌<◌, Bool, true, false, cond, not, List, [], ◌∷◌, fold, map, Option, Some, None, arith}
use Rattle.std.specs.Option.{is_some, option_map_or, option_and_then}
use Rattle.std.specs.Ordering.{nat_cmp}
use Rattle.std.specs.List.Sorted.{IsStrictlySortedBy}
use Rattle.std.specs.Map.{keys_of}
use Rattle.std.specs.BTreeMap.{is_at}
use Rattle.std.proofs.lemmas.Bool.{false≢true}
use Rattle.std.proofs.lemmas.Cmp.{nat_cmp_total}
use Rattle.std.proofs.lemmas.Map.Lookups.{exact_unsigned}
use Rattle.std.proofs.lemmas.Option.{option_and_then_some, same_Some}
use Rattle.zq_message.specs.declared.message.Region.{Region}
use Rattle.zq_message.specs.declared.message.Zid.{Zid}
use Rattle.zq_message.specs.Region.{region_index}
use Rattle.zq_strategy.specs.State.{FaceState, HatState}
use Rattle.zq_strategy.specs.Kept.{declaration, face_at, has_face, is_apart, new_hat, registered, unregistered, without_face}
use Rattle.zq_strategy.specs.Marks.{finalized}
use Rattle.zq_strategy.specs.declared.types.Strategy.{Strategy}
use Rattle.zq_strategy.specs.declared.types.Strategy.TheVariants as strategy
use Rattle.zq_strategy.specs.Regions.{in_routers, strategy_at}
use Rattle.zq_strategy.specs.Entries.{staying}
use Rattle.zq_strategy.specs.Nets.{is_listed}
use Rattle.zq_strategy.specs.Routers.{announced, networked, noded, retracted, source_at}
use Rattle.zq_query.specs.declared.records.ReplyTo.{ReplyTo}
use Rattle.zq_query.specs.Closing.{at_face}
use Rattle.zq_query.specs.Polling.{is_due, timeouts, timing_out}
use Rattle.zq_query.specs.Records.{QueryState, is_entry, next_reply}
use Rattle.zq_tables.specs.Naming.{NamingState, face_queryables, with_name, with_queryable, with_rows, with_told_number, with_interest, without_interest, without_name, without_queryable}
use Rattle.zq_machine.specs.declared.call.Call.{Call}
use Rattle.zq_machine.specs.declared.config.Entry.{Entry}
use Rattle.zq_machine.specs.declared.face.OpenFace.{OpenFace}
use Rattle.zq_machine.specs.Agreeing.{Agrees, id_and_key, keys_in, stands_in}
use Rattle.zq_machine.specs.Configs.{Settings, region_of, north_of}
use Rattle.zq_machine.specs.Deciding.{accepted, after_replied, announced_by, causes, deadline, refusal_of, regated, renamed, retracted_by, targets}
use Rattle.zq_machine.specs.Gates.{gate_for, leave_all}
use Rattle.zq_machine.specs.Writing.{is_unsent}
use Rattle.zq_machine.specs.Machine.{accepted_state, state_after}
use Rattle.zq_machine.specs.Selecting.{full_text}
use Rattle.zq_machine.specs.State.{State, at, change_hat, clashes_in, entry_rows, first_hats, hat_at, hat_of, is_open, is_region, opening_state, with_hat}
use Rattle.zq_machine.specs.TextCalls.{TextCall, opening, closing, naming, unnaming, declaring, withdrawing, asking, replying, ending, reporting, passing, listing, finalizing, announcing, retracting, networking, tabling, hearing, unhearing, read}
use Rattle.zq_machine.proofs.Agreeing.{Tied, declared_tied, marked_tied, named_tied, noded_tied, renamed_tied, rerouted_tied, same_faces_tied, some_of, unnamed_tied, withdrawn_tied}
use Rattle.zq_machine.proofs.Changing.{hat_found, itself, number_test, region_there}
use Rattle.zq_machine.proofs.Finals.{IsSound, granted_sound, is_there, none_sorted, opening_sound, unsent_sound}
use Rattle.zq_machine.proofs.Gates.{Gated, gated_gone, gated_joined, gated_same, left_keys}
use Rattle.zq_machine.proofs.Spaces.{ArePlain, accepted_plain, left_plain}
use Rattle.zq_machine.proofs.Hats.{AreHatsOf, accepted_hats, opening_hats}
use Rattle.zq_machine.proofs.EntryRows.{first_rows, rows_alike}
use Rattle.zq_machine.proofs.Rows.{rows_changed}
use Rattle.zq_machine.proofs.Foreign.{AreForeign, accepted_foreign, entries_kept, of_routers, opening_foreign}
use Rattle.zq_machine.proofs.Frame.{accepted_config}
use Rattle.zq_machine.proofs.AskedKeys.{AllAskKeys, accepted_asked}
use Rattle.zq_machine.proofs.Worded.{AreWorded, accepted_worded, opening_worded}
use Rattle.zq_machine.proofs.Joining.{closed_tied, opened_tied}
use Rattle.zq_machine.proofs.NewEntries.{numbered_asked}
use Rattle.zq_machine.proofs.Numbered.{InNumbers, numbered_if_put, numbered_landed, numbered_let_go, numbered_timing}
use Rattle.zq_machine.proofs.Granted.{all_passed}
use Rattle.zq_machine.proofs.Promises.{no_full}
use Rattle.zq_machine.proofs.Targets.{AllAim, accepted_aims, let_go_aims, targets_distinct}
use Rattle.zq_machine.proofs.Always.{Stays, always}
use Rattle.zq_key.proofs.Lookups.{found_after_insertion}

abbrev IsTied : State → Type 0
IsTied s = Tied s.core.faces s.core.hats s.names

-- the next number is no open face's
pub next_absent : (s : State) → IsSound s → at s.core.next_face s.core.faces ≡ None
next_absent s i = by (at s.core.next_face s.core.faces) refl
  where
    by : (o : Option OpenFace) → at s.core.next_face s.core.faces ≡ o → o ≡ None
    by None e = refl
    by (Some x) e = let l : s.core.next_face < s.core.next_face = i.open_below s.core.next_face (ap is_some e) in absurd (omega (arith, l))

-- what a source makes of a hat, and what goes in regions of routers, leave its faces
by_source : (o : Option Zid) (g : Zid → HatState) (h : HatState) → ((z : Zid) → (g z).faces ≡ h.faces) → (option_map_or g o h).faces ≡ h.faces
by_source None g h same = refl
by_source (Some z) g h same = same z

by_strategy : (k : Strategy) (x h : HatState) → x.faces ≡ h.faces → (in_routers k x h).faces ≡ h.faces
by_strategy strategy.Broker x h same = refl
by_strategy strategy.Client x h same = refl
by_strategy strategy.Peer x h same = refl
by_strategy strategy.Router x h same = same

module _ (s : State) (i : IsSound s) (t : IsTied s) where
  pub opened_face : (face : ℕ) → not (is_open face s.core) ≡ false → (o : OpenFace) × (at face s.core.faces ≡ Some o)
  opened_face face h = some_of (at face s.core.faces) (is_there (is_open face s.core) h)

  abbrev hats_of : (HatState → HatState) → Option OpenFace → List (ℕ × HatState)
  hats_of f x = option_map_or (λ (o : OpenFace). change_hat o.region f s.core.hats) x s.core.hats

  -- the hat that an open face belongs to is the one of its region
  in_its_hat : (face : ℕ) (f : HatState → HatState) (faces : List (ℕ × OpenFace)) (names : NamingState) (x : (o : OpenFace) × (at face s.core.faces ≡ Some o))
      → Tied faces (change_hat x.0.region f s.core.hats) names → Tied faces (hats_of f (at face s.core.faces)) names
  in_its_hat face f faces names x tied = subst (λ hats. Tied faces hats names) (sym (ap (hats_of f) x.1)) tied

  with_their_rows : (hats : List (ℕ × HatState)) → Tied s.core.faces hats s.names → Tied s.core.faces hats (with_rows (entry_rows hats) s.names)
  with_their_rows hats tied = rerouted_tied s.core.faces hats s.names tied (entry_rows hats)

  granted_tied : (x : TextCall) → refusal_of s.core x ≡ None → IsTied (accepted_state s x)
  granted_tied (opening o) h = opened_tied s.core.faces s.core.hats s.names t s.core.next_face o (next_absent s i) (is_there (is_some (hat_at o.region s.core.hats)) (all_passed (causes s.core (opening o)) h).0)
  granted_tied (closing face) h =
      let x : (o : OpenFace) × (at face.0 s.core.faces ≡ Some o) = opened_face face.0 (all_passed (causes s.core (closing face)) h).0 in
      in_its_hat face.0 (without_face face.0) _ _ x (closed_tied s.core.faces s.core.hats s.names t i.sorted face.0 x.0 x.1)
  granted_tied (naming face id sd y) h = named_tied s.core.faces s.core.hats s.names t face.0 id (full_text sd)
  granted_tied (unnaming face id y) h = unnamed_tied s.core.faces s.core.hats s.names t face.0 id
  granted_tied (declaring face id sd info node) h =
      let passed = all_passed (causes s.core (declaring face id sd info node)) h in
      let x : (o : OpenFace) × (at face.0 s.core.faces ≡ Some o) = opened_face face.0 passed.0 in
      let hat : hat_of face.0 s.core ≡ hat_at x.0.region s.core.hats = ap (option_and_then (λ (o : OpenFace). hat_at o.region s.core.hats)) x.1 in
      in_its_hat face.0 (registered face.0 id (full_text sd) node info) s.core.faces _ x
      (declared_tied s.core.faces s.core.hats s.names t face.0 x.0 x.1 id (full_text sd) info
      (λ k f k_at f_at. sym (ap (λ y. option_map_or (is_apart (full_text sd)) (option_and_then (declaration id) y) false) f_at) ∙ sym (ap (clashes_in face.0 id (full_text sd)) (hat ∙ k_at)) ∙ passed.1.1.1.0))
  granted_tied (withdrawing face id) h =
      let x : (o : OpenFace) × (at face.0 s.core.faces ≡ Some o) = opened_face face.0 (all_passed (causes s.core (withdrawing face id)) h).0 in
      in_its_hat face.0 (unregistered face.0 id) s.core.faces _ x (withdrawn_tied s.core.faces s.core.hats s.names t face.0 x.0 x.1 id)
  granted_tied (asking face sd r now) h = t
  granted_tied (replying face sd r) h = t
  granted_tied (ending face rid) h = t
  granted_tied (reporting reply) h = t
  granted_tied (passing now) h = t
  granted_tied (listing r table) h = t
  granted_tied (finalizing face m set) h =
      let x : (o : OpenFace) × (at face.0 s.core.faces ≡ Some o) = opened_face face.0 (all_passed (causes s.core (finalizing face m set)) h).0 in
      in_its_hat face.0 (finalized face.0 m set) s.core.faces s.names x (marked_tied s.core.faces s.core.hats s.names t face.0 x.0 x.1 m set)
  granted_tied (announcing face sd i node) h =
      let x : (o : OpenFace) × (at face.0 s.core.faces ≡ Some o) = opened_face face.0 (all_passed (causes s.core (announcing face sd i node)) h).0 in
      with_their_rows _ (in_its_hat face.0 (announced_by face.0 node (full_text sd) i) s.core.faces s.names x
      (same_faces_tied s.core.faces s.core.hats s.names t x.0.region (announced_by face.0 node (full_text sd) i) (λ k. by_source (source_at face.0 node k) (λ z. announced z.0 (full_text sd) i k) k (λ z. refl))))
  granted_tied (retracting face sd node) h =
      let x : (o : OpenFace) × (at face.0 s.core.faces ≡ Some o) = opened_face face.0 (all_passed (causes s.core (retracting face sd node)) h).0 in
      with_their_rows _ (in_its_hat face.0 (retracted_by face.0 node (full_text sd)) s.core.faces s.names x
      (same_faces_tied s.core.faces s.core.hats s.names t x.0.region (retracted_by face.0 node (full_text sd)) (λ k. by_source (source_at face.0 node k) (λ z. retracted z.0 (full_text sd) k) k (λ z. refl))))
  granted_tied (networking r net) h =
      with_their_rows _ (same_faces_tied s.core.faces s.core.hats s.names t r (networked net) (λ k. by_strategy (strategy_at k) (record k { network = net; entries = staying (is_listed net) k.entries }) k refl))
  granted_tied (tabling face ids) h =
      let x : (o : OpenFace) × (at face.0 s.core.faces ≡ Some o) = opened_face face.0 (all_passed (causes s.core (tabling face ids)) h).0 in
      in_its_hat face.0 (noded face.0 ids) s.core.faces s.names x (noded_tied s.core.faces s.core.hats s.names t face.0 x.0 x.1 ids)
  granted_tied (hearing face id keys None) h = t
  granted_tied (hearing face id keys (Some sd)) h = renamed_tied s.core.faces s.core.hats s.names t face.0 (with_interest id (full_text sd)) (λ n. refl)
  granted_tied (unhearing face id) h = renamed_tied s.core.faces s.core.hats s.names t face.0 (without_interest id) (λ n. refl)

-- ---- all that holds between two calls
pub record InOrder (config : Settings) (s : State) : Type 0 where
  pub sound : IsSound s
  pub tied : IsTied s
  pub routed : s.names.rows ≡ entry_rows s.core.hats
  pub hats : AreHatsOf config s.core.hats
  pub numbered : InNumbers s.core.queries
  pub aims : AllAim s.core.faces s.core.queries.records
  pub worded : AreWorded s.core.hats
  pub asked : AllAskKeys s.core.interests
  pub foreign : AreForeign s.core.config.zid s.core.hats
  pub gated : Gated s.gates s.core.next_face
  pub spaces : ArePlain s.gates

replied_numbers : (q : QueryState) (o : Option ReplyTo) → InNumbers q → InNumbers (after_replied o q)
replied_numbers q None i = i
replied_numbers q (Some to) i = numbered_if_put q to.number (is_some to.reply) i

granted_numbers : (s : State) (x : TextCall) → refusal_of s.core x ≡ None → InNumbers s.core.queries → InNumbers (accepted s.core x).queries
granted_numbers s (opening o) h i = i
granted_numbers s (closing face) h i = numbered_let_go s.core.queries.records s.core.queries.requests s.core.queries.replies i (at_face face.0)
granted_numbers s (naming face id sd y) h i = i
granted_numbers s (unnaming face id y) h i = i
granted_numbers s (declaring face id sd info node) h i = i
granted_numbers s (withdrawing face id) h i = i
granted_numbers s (asking face sd r now) h i =
    numbered_asked s.core.queries face r.id r.qos (targets s.core face sd r) (deadline s.core r.timeout now) i (no_full s face sd r now h) (targets_distinct s.core face sd r)
granted_numbers s (replying face sd r) h i = replied_numbers s.core.queries (next_reply face.0 r.rid s.core.queries) i
granted_numbers s (ending face rid) h i = numbered_let_go s.core.queries.records s.core.queries.requests s.core.queries.replies i (is_entry face.0 rid)
granted_numbers s (reporting reply) h i = numbered_landed s.core.queries.records s.core.queries.requests s.core.queries.replies i reply
granted_numbers s (passing now) h i =
    let z = timing_out (timeouts now s.core.queries) s.core.queries in
    numbered_let_go z.records z.requests z.replies (numbered_timing (timeouts now s.core.queries) s.core.queries i) (is_due now)
granted_numbers s (listing r table) h i = i
granted_numbers s (finalizing face m set) h i = i
granted_numbers s (announcing face sd j node) h i = i
granted_numbers s (retracting face sd node) h i = i
granted_numbers s (networking r net) h i = i
granted_numbers s (tabling face ids) h i = i
granted_numbers s (hearing face id keys sd) h i = i
granted_numbers s (unhearing face id) h i = i

granted_gated : (s : State) (x : TextCall) → Gated s.gates s.core.next_face → Gated (regated s x) (accepted s.core x).next_face
granted_gated s (opening o) i = gated_joined s.gates s.core.next_face i (gate_for o)
granted_gated s (closing face) i = gated_gone s.gates s.core.next_face i face.0
granted_gated s x i = i

-- the keys of entries stay those on which routers have entries
granted_routed : (config : Settings) (s : State) (x : TextCall) → AreHatsOf config s.core.hats → s.names.rows ≡ entry_rows s.core.hats → (renamed s x).rows ≡ entry_rows (accepted s.core x).hats
unfolding of_routers
granted_routed config s x a i = by x
  where
    kept : (y : TextCall) → of_routers y ≡ false → s.names.rows ≡ entry_rows (accepted s.core y).hats
    kept y e = i ∙ sym (rows_alike (accepted s.core y).hats s.core.hats (accepted_hats config.start.told (first_hats config) s.core a y).sorted a.sorted (entries_kept s.core y e))

    by : (y : TextCall) → (renamed s y).rows ≡ entry_rows (accepted s.core y).hats
    by (announcing face sd info node) = refl
    by (retracting face sd node) = refl
    by (networking r net) = refl
    by (naming face id sd y) = rows_changed face.0 (with_name id (full_text sd)) s.names ∙ i
    by (unnaming face id y) = rows_changed face.0 (without_name id) s.names ∙ i
    by (declaring face id sd info node) = rows_changed face.0 (with_queryable id (full_text sd)) s.names ∙ kept (declaring face id sd info node) refl
    by (withdrawing face id) = rows_changed face.0 (without_queryable id) s.names ∙ kept (withdrawing face id) refl
    by (hearing face id keys None) = i
    by (hearing face id keys (Some sd)) = rows_changed face.0 (with_interest id (full_text sd)) s.names ∙ i
    by (unhearing face id) = rows_changed face.0 (without_interest id) s.names ∙ i
    by y = kept y refl

pub accepted_in_order : (config : Settings) (s : State) (x : TextCall) → refusal_of s.core x ≡ None → InOrder config s → InOrder config (accepted_state s x)
accepted_in_order config s x h i = record {
  sound = granted_sound s.core x h i.sound;
  tied = granted_tied s i.sound i.tied x h;
  routed = granted_routed config s x i.hats i.routed;
  hats = accepted_hats config.start.told (first_hats config) s.core i.hats x;
  numbered = granted_numbers s x h i.numbered;
  aims = accepted_aims config s.core s.names i.tied i.hats i.sound.sorted i.aims x;
  worded = accepted_worded s.core x h i.worded;
  asked = accepted_asked s.core x h i.asked;
  foreign = subst (λ (z : Settings). AreForeign z.zid (accepted s.core x).hats) (sym (accepted_config s.core x)) (accepted_foreign s.core i.worded i.foreign x h);
  gated = granted_gated s x i.gated;
  spaces = accepted_plain s x h i.gated i.spaces;
}

pub granted_in_order : (config : Settings) (s : State) (c : Call) → refusal_of s.core (read s c) ≡ None → InOrder config s → InOrder config (accepted_state s (read s c))
granted_in_order config s c = accepted_in_order config s (read s c)

-- and it stays with each number that a face is told, with what gates keep of what is handed, and without requests that are let go
pub stays_in_order : (config : Settings) → Stays (InOrder config)
stays_in_order config = record {
  numbers = λ core face text id names gates i. record {
    sound = i.sound;
    tied = renamed_tied core.faces core.hats names i.tied face (with_told_number text (Some id)) (λ n. refl);
    routed = rows_changed face (with_told_number text (Some id)) names ∙ i.routed;
    hats = i.hats;
    numbered = i.numbered;
    aims = i.aims;
    worded = i.worded;
    asked = i.asked;
    foreign = i.foreign;
    gated = i.gated;
    spaces = i.spaces;
  };
  gates = λ text hs core names gates i. record {
    sound = i.sound;
    tied = i.tied;
    routed = i.routed;
    hats = i.hats;
    numbered = i.numbered;
    aims = i.aims;
    worded = i.worded;
    asked = i.asked;
    foreign = i.foreign;
    gated = gated_same gates (leave_all text hs gates).gates core.next_face (left_keys text hs gates) i.gated;
    spaces = left_plain text hs gates i.spaces;
  };
  unsent = λ places core names gates i. record {
    sound = unsent_sound places core i.sound;
    tied = i.tied;
    routed = i.routed;
    hats = i.hats;
    numbered = numbered_let_go core.queries.records core.queries.requests core.queries.replies i.numbered (is_unsent places);
    aims = let_go_aims core.faces core.queries.records i.aims (is_unsent places);
    worded = i.worded;
    asked = i.asked;
    foreign = i.foreign;
    gated = i.gated;
    spaces = i.spaces;
  };
}

-- ---- before any call no hat has a face
abbrev AreBare : List (ℕ × HatState) → Type 0
AreBare hats = (r : Region) (h : HatState) → hat_at r hats ≡ Some h → h.faces ≡ []

bare_with : (config : Settings) (hats : List (ℕ × HatState)) (e : Entry) → AreBare hats → AreBare (with_hat config hats e)
bare_with config hats e bare r h h_at = by (is_at (nat_cmp (region_index (region_of e))) (region_index r)) now
  where
    hat : HatState
    hat = new_hat (region_of e) (north_of config.entries) config.zid config.start.told

    there : (is_region r ≡ true) × (at (region_index r) (with_hat config hats e) ≡ Some h)
    there = region_there r (with_hat config hats e) h h_at

    now : cond (is_at (nat_cmp (region_index (region_of e))) (region_index r)) (Some hat) (at (region_index r) hats) ≡ Some h
    now = sym (found_after_insertion nat_cmp_total exact_unsigned (region_index (region_of e)) (region_index r) hat hats) ∙ there.1

    by : (b : Bool) → cond b (Some hat) (at (region_index r) hats) ≡ Some h → h.faces ≡ []
    by true g = ap (λ (x : HatState). x.faces) (sym (same_Some _ _ g))
    by false g = bare r h (hat_found r hats (Some h) there.0 g)

all_bare : (config : Settings) (es : List Entry) (hats : List (ℕ × HatState)) → AreBare hats → AreBare (fold (with_hat config) hats es)
all_bare config [] hats bare = bare
all_bare config (e ∷ es) hats bare = all_bare config es (with_hat config hats e) (bare_with config hats e bare)

opening_tied : (config : Settings) → IsTied (opening_state config)
opening_tied config = record {
  hats_sorted = λ r h e. subst (λ (l : List (ℕ × FaceState)). IsStrictlySortedBy nat_cmp (keys_of l)) (sym (bare r h e)) none_sorted;
  names_sorted = none_sorted;
  seats = λ r h q e. ap (λ (l : List (ℕ × FaceState)). is_some (at q l)) (bare r h e);
  homes = λ q o e. absurd (let gap : None ≡ Some o = e in cc);
  named = λ q. refl;
  held = λ q o h f e h_at f_at. absurd (let gap : None ≡ Some o = e in cc);
}
  where
    bare : AreBare (first_hats config)
    bare = all_bare config config.entries [] (λ r h e. absurd (let gap = (region_there r [] h e).1 in cc))

pub opening_in_order : (config : Settings) → InOrder config (opening_state config)
opening_in_order config = record {
  sound = opening_sound config;
  tied = opening_tied config;
  routed = sym (first_rows config);
  hats = opening_hats config;
  numbered = record { numbers = none_sorted; below = tt; places = λ face id. omega arith; once = tt; flights = λ reply. omega arith; flown = tt };
  aims = tt;
  worded = opening_worded config;
  asked = tt;
  foreign = opening_foreign config;
  gated = record { sorted = none_sorted; below = λ f h. absurd (false≢true h) };
  spaces = λ q. tt;
}

-- at every point of a run
pub run_in_order : (config : Settings) (calls : List Call) → InOrder config (state_after (opening_state config) calls)
run_in_order config calls = always (InOrder config) (granted_in_order config) (stays_in_order config) calls (opening_state config) (opening_in_order config)

-- ---- in the words of the promise
agrees : (config : Settings) (s : State) → InOrder config s → Agrees s
agrees config s x = record {
  apart = λ face seen. i.apart face seen;
  seats = λ r h face e. t.seats r h face e;
  homes = λ face seen.
      let y : (o : OpenFace) × (at face s.core.faces ≡ Some o) = some_of (at face s.core.faces) seen in
      ap (λ z. is_some (option_and_then its_hat z)) y.1 ∙ t.homes face y.0 y.1;
  named = λ face. t.named face;
  copies = λ face o h f seen e f_at. (t.held face o h f seen (sym (ap (option_and_then its_hat) seen) ∙ e) f_at).copy;
  held = λ face h e. option_and_then_some its_hat (at face s.core.faces) h e (λ o seen h_at. held_by face h o seen h_at);
  routed = x.routed;
  foreign = λ r h key e. x.foreign (region_index r) h (region_there r s.core.hats h e).1 key;
  targets = x.aims;
  numbered = x.numbered;
}
  where
    i : IsSound s
    i = x.sound

    t : IsTied s
    t = x.tied

    its_hat : OpenFace → Option HatState
    its_hat o = hat_at o.region s.core.hats

    held_by : (face : ℕ) (h : HatState) (o : OpenFace) → at face s.core.faces ≡ Some o → hat_at o.region s.core.hats ≡ Some h → face_queryables face s.names ≡ keys_in face h
    held_by face h o seen h_at =
        let seated : has_face face h ≡ true =
        t.seats o.region h face h_at ∙ ap (λ x. option_map_or (stands_in o.region) x false) seen ∙ sym (number_test (region_index o.region) (region_index o.region)) ∙ itself (region_index o.region) in
        let f : (f : FaceState) × (face_at face h ≡ Some f) = some_of (face_at face h) seated in
        (t.held face o h f.0 seen h_at f.1).same ∙ sym (ap (λ x. option_map_or (λ (y : FaceState). map id_and_key y.declared) x []) f.1)

pub agree_always : (config : Settings) (calls : List Call) → Agrees (state_after (opening_state config) calls)
agree_always config calls = agrees config (state_after (opening_state config) calls) (run_in_order config calls)
