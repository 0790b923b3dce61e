-- The faces that a request is handed to are open, each is one target, and each entry that is pending stays at an open face.
use Rattle.std.proofs.Common.{◌≡◌, ◌∙◌, refl, sym, ap, subst, ℕ, Bool, true, false, cond, not, List, [], ◌∷◌, ◌++◌, map, Option, Some, None, ◌⊎◌, inl, inr, append-nil}
use Rattle.std.specs.Prelude.{◌==◌, ◌||◌}
use Rattle.std.specs.List.{All, AllByRecursion, filter, list_any}
use Rattle.std.specs.List.Sorted.{IsStrictlySortedBy}
use Rattle.std.specs.Map.{keys_of, remove_entry, values_of}
use Rattle.std.specs.BTreeMap.{insert_entry, is_at}
use Rattle.std.specs.Option.{is_some, option_map_or}
use Rattle.std.specs.Ordering.{nat_cmp}
use Rattle.std.proofs.lemmas.Bool.{false≢true, not-true}
use Rattle.std.proofs.lemmas.Cmp.{nat_cmp_total}
use Rattle.std.proofs.lemmas.List.Elements.{All-head, All-tail}
use Rattle.std.proofs.lemmas.Map.Lookups.{exact_unsigned}
use Rattle.std.specs.Cmp.{nat_eq_equiv}
use Rattle.zq_message.specs.declared.message.FaceId.{FaceId}
use Rattle.zq_message.specs.declared.message.Region.{Region}
use Rattle.zq_message.specs.declared.message.Request.{Request}
use Rattle.zq_strategy.specs.declared.offer.QueryTargetQabl.{QueryTargetQabl}
use Rattle.zq_strategy.specs.Kept.{at_id, has_face}
use Rattle.zq_strategy.specs.State.{FaceState, HatState}
use Rattle.zq_strategy.proofs.OfferLaws.{offers_of_faces}
use Rattle.zq_query.specs.declared.records.ReplyTo.{ReplyTo}
use Rattle.zq_query.specs.declared.records.Timeout.{Timeout}
use Rattle.zq_query.specs.Asking.{are_distinct, asked_record, asked_records, entry_at, face_numbers, given_place}
use Rattle.zq_query.specs.Closing.{at_face}
use Rattle.zq_query.specs.Polling.{after_timeout, is_due, timeouts, timing_out}
use Rattle.zq_query.specs.Records.{Pending, QueryState, Record, after_put, is_entry, is_left, is_none_left, next_reply, without, without_reply}
use Rattle.zq_tables.specs.declared.resolved.Resolved.{Resolved}
use Rattle.zq_tables.specs.Naming.{NamingState}
use Rattle.zq_route.specs.Selection.{picked}
use Rattle.zq_machine.specs.declared.face.OpenFace.{OpenFace}
use Rattle.zq_machine.specs.Agreeing.{all_pending, pending_of, stands_in}
use Rattle.zq_machine.specs.Configs.{Settings}
use Rattle.zq_machine.specs.Deciding.{accepted, after_replied, deadline, opened}
use Rattle.zq_machine.specs.Selecting.{AskerState, asker_in, full_text, offers_to, parts_for, route_for, says_key, select, select_for, target_of}
use Rattle.zq_machine.specs.State.{Core, at}
use Rattle.zq_machine.specs.TextCalls.{TextCall, opening, closing, naming, unnaming, declaring, withdrawing, asking, replying, ending, reporting, passing, listing, finalizing, announcing, retracting, networking, tabling, hearing, unhearing}
use Rattle.zq_machine.proofs.Agreeing.{Tied}
use Rattle.zq_machine.proofs.Changing.{hat_found, number_test}
use Rattle.zq_machine.proofs.Hats.{AreHatsOf, IsIndex}
use Rattle.zq_machine.proofs.Lists.{all_append, all_failing, all_mapped, all_passing, all_weaker}
use Rattle.zq_machine.proofs.NewEntries.{each_entry, pending_more}
use Rattle.zq_machine.proofs.Numbered.{all_still, put_pending}
use Rattle.zq_machine.proofs.Routes.{none_in_route, route_distinct}
use Rattle.zq_key.proofs.Lookups.{each_entry as each_at, found_after_insertion, found_after_removal}

-- ---- what fails for every offer of every hat fails for what is selected
none_selected : (p : QueryTargetQabl → Bool) (c : Core) (asker : FaceId) (s : Resolved) (r : Request)
    → ((a : AskerState) → AllByRecursion (λ h. list_any p (offers_to a (full_text s) h) ≡ false) (values_of c.hats)) → list_any p (select c asker s r) ≡ false
none_selected p c asker s r all = by (at asker.0 c.faces)
  where
    by : (o : Option OpenFace) → list_any p (select_for c asker s r o) ≡ false
    by None = refl
    by (Some o) = keyed (says_key s)
      where
        keyed : (b : Bool) → list_any p (cond b (values_of (route_for c (asker_in c asker r.node o) (full_text s) r.target)) []) ≡ false
        keyed true = none_in_route p c (asker_in c asker r.node o) (full_text s) r.target (all (asker_in c asker r.node o))
        keyed false = refl

-- each face is one target
pub targets_distinct : (c : Core) (asker : FaceId) (s : Resolved) (r : Request) → are_distinct (face_numbers (map target_of (select c asker s r))) ≡ true
targets_distinct c asker s r = by (at asker.0 c.faces)
  where
    by : (o : Option OpenFace) → are_distinct (face_numbers (map target_of (select_for c asker s r o))) ≡ true
    by None = refl
    by (Some o) = keyed (says_key s)
      where
        keyed : (b : Bool) → are_distinct (face_numbers (map target_of (cond b (values_of (route_for c (asker_in c asker r.node o) (full_text s) r.target)) []))) ≡ true
        keyed true = route_distinct (picked c.config.best r.target (parts_for (asker_in c asker r.node o) (full_text s) (values_of c.hats)))
        keyed false = refl

-- ---- the faces of hats are open
module _ (config : Settings) (faces : List (ℕ × OpenFace)) (hats : List (ℕ × HatState)) (names : NamingState) (t : Tied faces hats names) (a : AreHatsOf config hats) where
  abbrev pub AllOpen : HatState → Type 0
  AllOpen h = (q : ℕ) → has_face q h ≡ true → is_some (at q faces) ≡ true

  open_there : (r : Region) (o : Option OpenFace) → option_map_or (stands_in r) o false ≡ true → is_some o ≡ true
  open_there r None e = e
  open_there r (Some o) e = refl

  hat_open : (k : ℕ) (h : HatState) → at k hats ≡ Some h → AllOpen h
  hat_open k h h_at q has = by (a.homes k h h_at)
    where
      by : (h.faces ≡ []) ⊎ IsIndex k → is_some (at q faces) ≡ true
      by (inl bare) = absurd (false≢true (sym (ap (λ (l : List (ℕ × FaceState)). is_some (at_id q l)) bare) ∙ has))
      by (inr x) = open_there x.0 (at q faces) (sym (t.seats x.0 h q (hat_found x.0 hats (Some h) x.1 (ap (λ n. at n hats) x.2 ∙ h_at))) ∙ has)

  pub all_hats_open : AllByRecursion (λ (e : ℕ × HatState). AllOpen e.1) hats
  all_hats_open = each_at nat_cmp_total exact_unsigned (λ e. AllOpen e.1) hats a.sorted hat_open

  all_open : AllByRecursion AllOpen (values_of hats)
  all_open = all_mapped AllOpen (λ (e : ℕ × HatState). e.1) hats all_hats_open

  abbrev is_shut : QueryTargetQabl → Bool
  is_shut o = not (is_some (at o.face.0 faces))

  abbrev IsOf : HatState → QueryTargetQabl → Type 0
  IsOf h o = has_face o.face.0 h ≡ true

  none_shut : (h : HatState) → AllOpen h → (os : List QueryTargetQabl) → All (IsOf h) os → list_any is_shut os ≡ false
  none_shut h is_open [] all = refl
  none_shut h is_open (o ∷ os) all =
      let here : is_shut o ≡ false = ap not (is_open o.face.0 (All-head (IsOf h) o os all)) in
      λ j. here j || none_shut h is_open os (All-tail (IsOf h) o os all) j

  pub none_offered_shut : (a : AskerState) (key : List ℕ) → AllByRecursion (λ h. list_any is_shut (offers_to a key h) ≡ false) (values_of hats)
  none_offered_shut a key = all_weaker AllOpen _ (λ h is_open. none_shut h is_open (offers_to a key h) (offers_of_faces h a.opened.region key _)) (values_of hats) all_open

-- ---- entries stay at open faces
abbrev pub AimAt : List (ℕ × OpenFace) → Pending → Type 0
AimAt faces e = is_some (at e.face faces) ≡ true

abbrev pub AllAim : List (ℕ × OpenFace) → List Record → Type 0
AllAim faces rs = AllByRecursion (AimAt faces) (all_pending rs)

module _ (faces : List (ℕ × OpenFace)) (rs : List Record) (aims : AllAim faces rs) where
  opened_aims : (n : ℕ) (o : OpenFace) → AllAim (insert_entry nat_cmp faces n o) rs
  opened_aims n o = all_weaker (AimAt faces) (AimAt (insert_entry nat_cmp faces n o)) (λ e it. ap is_some (found_after_insertion nat_cmp_total exact_unsigned n e.face o faces) ∙ by e (is_at (nat_cmp n) e.face) it) (all_pending rs) aims
    where
      by : (e : Pending) (b : Bool) → AimAt faces e → is_some (cond b (Some o) (at e.face faces)) ≡ true
      by e true it = refl
      by e false it = it

  closed_aims : (face : ℕ) → IsStrictlySortedBy nat_cmp (keys_of faces) → AllAim (remove_entry (is_at (nat_cmp face)) faces) (filter is_left (map (without (at_face face)) rs))
  closed_aims face sorted =
      all_still is_left (without (at_face face)) pending_of (AimAt faces) (AimAt less)
      (λ r. all_passing (AimAt faces) (AimAt less) (λ e. not (at_face face e)) stays r.pending) rs aims
    where
      less : List (ℕ × OpenFace)
      less = remove_entry (is_at (nat_cmp face)) faces

      stays : (e : Pending) → not (at_face face e) ≡ true → AimAt faces e → AimAt less e
      stays e other it =
          let apart : is_at (nat_cmp face) e.face ≡ false = number_test face e.face ∙ nat_eq_equiv.symm face e.face ∙ not-true (e.face == face) other in
          ap is_some (found_after_removal nat_cmp_total exact_unsigned face e.face faces sorted ∙ ap (λ b. cond b None (at e.face faces)) apart) ∙ it

  pub let_go_aims : (p : Pending → Bool) → AllAim faces (filter is_left (map (without p) rs))
  let_go_aims p = all_still is_left (without p) pending_of (AimAt faces) (AimAt faces) (λ r. all_passing (AimAt faces) (AimAt faces) (λ e. not (p e)) (λ e passed it. it) r.pending) rs aims

  landed_aims : (k : ℕ) → AllAim faces (filter is_left (map (without_reply k) rs))
  landed_aims k = all_still is_left (without_reply k) pending_of (AimAt faces) (AimAt faces) (λ r it. it) rs aims

put_aims : (faces : List (ℕ × OpenFace)) (q : QueryState) (n : ℕ) (b : Bool) → AllAim faces q.records → AllAim faces (cond b (after_put n q) q).records
put_aims faces q n true aims = subst (AllByRecursion (AimAt faces)) (sym (put_pending q.replies n q.records)) aims
put_aims faces q n false aims = aims

timing_aims : (faces : List (ℕ × OpenFace)) (ts : List Timeout) (q : QueryState) → AllAim faces q.records → AllAim faces (timing_out ts q).records
timing_aims faces [] q aims = aims
timing_aims faces (t ∷ ts) q aims = timing_aims faces ts (after_timeout q t) (put_aims faces q t.number (is_some t.reply) aims)

replied_aims : (faces : List (ℕ × OpenFace)) (q : QueryState) (o : Option ReplyTo) → AllAim faces q.records → AllAim faces (after_replied o q).records
replied_aims faces q None aims = aims
replied_aims faces q (Some to) aims = put_aims faces q to.number (is_some to.reply) aims

module _ (config : Settings) (c : Core) (names : NamingState) (t : Tied c.faces c.hats names) (a : AreHatsOf config c.hats) (sorted : IsStrictlySortedBy nat_cmp (keys_of c.faces)) (aims : AllAim c.faces c.queries.records) where
  asked_aims : (face : FaceId) (s : Resolved) (r : Request) (d : ℕ)
      → AllAim c.faces (c.queries.records ++ asked_records c.queries.requests face r.id r.qos (map (given_place c.queries) (map target_of (select c face s r))) d)
  asked_aims face s r d = by (is_none_left (map (given_place c.queries) (map target_of os)))
    where
      os : List QueryTargetQabl
      os = select c face s r

      new : Record
      new = asked_record c.queries.requests face r.id r.qos (map (given_place c.queries) (map target_of os)) d

      given : (xs : List QueryTargetQabl) → AllByRecursion (λ (o : QueryTargetQabl). not (is_some (at o.face.0 c.faces)) ≡ false) xs → AllByRecursion (λ q. AimAt c.faces (entry_at d q)) (map (given_place c.queries) (map target_of xs))
      given [] all = tt
      given (o ∷ xs) all = (is_there (is_some (at o.face.0 c.faces)) all.0, given xs all.1)
        where
          is_there : (b : Bool) → not b ≡ false → b ≡ true
          is_there true h = refl
          is_there false h = sym h

      each : AllByRecursion (AimAt c.faces) new.pending
      each = each_entry (AimAt c.faces) d (map (given_place c.queries) (map target_of os))
          (given os (all_failing _ os (none_selected (λ o. not (is_some (at o.face.0 c.faces))) c face s r (λ asker. none_offered_shut config c.faces c.hats names t a asker (full_text s)))))

      by : (b : Bool) → AllAim c.faces (c.queries.records ++ cond b [] (new ∷ []))
      by true = subst (AllAim c.faces) (sym (append-nil c.queries.records)) aims
      by false = subst (AllByRecursion (AimAt c.faces)) (sym (pending_more c.queries face r.id r.qos (map target_of os) d)) (all_append (AimAt c.faces) (all_pending c.queries.records) new.pending aims each)

  pub accepted_aims : (x : TextCall) → AllAim (accepted c x).faces (accepted c x).queries.records
  accepted_aims (opening o) = opened_aims c.faces c.queries.records aims c.next_face (opened o)
  accepted_aims (closing face) = closed_aims c.faces c.queries.records aims face.0 sorted
  accepted_aims (naming face id s x) = aims
  accepted_aims (unnaming face id x) = aims
  accepted_aims (declaring face id s i n) = aims
  accepted_aims (withdrawing face id) = aims
  accepted_aims (asking face s r now) = asked_aims face s r (deadline c r.timeout now)
  accepted_aims (replying face s r) = replied_aims c.faces c.queries (next_reply face.0 r.rid c.queries) aims
  accepted_aims (ending face rid) = let_go_aims c.faces c.queries.records aims (is_entry face.0 rid)
  accepted_aims (reporting reply) = landed_aims c.faces c.queries.records aims reply
  accepted_aims (passing now) =
      let z = timing_out (timeouts now c.queries) c.queries in
      let_go_aims c.faces z.records (timing_aims c.faces (timeouts now c.queries) c.queries aims) (is_due now)
  accepted_aims (listing r table) = aims
  accepted_aims (finalizing face m set) = aims
  accepted_aims (announcing face sd i node) = aims
  accepted_aims (retracting face sd node) = aims
  accepted_aims (networking r net) = aims
  accepted_aims (tabling face ids) = aims
  accepted_aims (hearing face id keys sd) = aims
  accepted_aims (unhearing face id) = aims
