-- Requests through the gates of their targets: which of them leave, and what is left of the record of those that do not.
use Rattle.std.proofs.Common.{◌≡◌, ◌∙◌, refl, sym, ap, ℕ, Bool, true, false, cond, not, List, [], ◌∷◌, ◌++◌, map, Option, Some, None, eqb-true, true≢false}
use Rattle.std.specs.Prelude.{◌&&◌, ◌||◌, ◌==◌, unwrap_or}
use Rattle.std.specs.List.{AllByRecursion, filter, list_any}
use Rattle.std.specs.Option.{is_some, option_map}
use Rattle.std.proofs.lemmas.Bool.{and_parts, false≢true, or_parts}
use Rattle.std.proofs.lemmas.List.{map-append}
use Rattle.std.proofs.lemmas.List.Elements.{filter-append}
use Rattle.std.proofs.lemmas.List.Folds.{list_any-append}
use Rattle.std.proofs.Math.Bool.{and-false, and-true, or-false, or-true}
use Rattle.zq_message.specs.declared.message.FaceId.{FaceId}
use Rattle.zq_message.specs.declared.message.Message.{Message}
use Rattle.zq_message.specs.declared.message.Message.TheVariants as message
use Rattle.zq_message.specs.declared.message.Request.{Request}
use Rattle.zq_message.specs.declared.message.WireExpr.{WireExpr}
use Rattle.zq_namespace.specs.Denied.{is_denied, space_leaves}
use Rattle.zq_namespace.specs.Exit.{wire_out}
use Rattle.zq_namespace.specs.Leaves.{ExitState}
use Rattle.zq_strategy.specs.declared.offer.QueryTargetQabl.{QueryTargetQabl}
use Rattle.zq_query.specs.declared.records.Final.{Final}
use Rattle.zq_query.specs.Asking.{asked_record, entries_at, entry_at, given_id, given_place, is_full}
use Rattle.zq_query.specs.Closing.{finals_after, has_open_asker}
use Rattle.zq_query.specs.Records.{Pending, QueryState, Record, any_over, final_of, has_entry, is_closed, is_entry, is_left, is_none_left, is_over, is_pending, letting_go, next_id, without}
use Rattle.zq_query.proofs.Ids.{next_id_is_new}
use Rattle.zq_tables.specs.Naming.{NamingState, best, face_keys}
use Rattle.zq_machine.specs.Deciding.{handed_request}
use Rattle.zq_machine.specs.Gates.{Gate, Gates, gate_at, leaves_by, through}
use Rattle.zq_machine.specs.Handing.{Handed}
use Rattle.zq_machine.specs.Headline.{none_leaves}
use Rattle.zq_machine.specs.Selecting.{target_of}
use Rattle.zq_machine.specs.Waiting.{gives}
use Rattle.zq_machine.specs.Writing.{Place, finish, is_unsent, unsent, unsent_at, write, written}
use Rattle.zq_machine.specs.State.{Core}
use Rattle.zq_machine.proofs.Changing.{itself, number_test}
use Rattle.zq_machine.proofs.Lists.{all_failing, all_weaker, none_passing}
use Rattle.zq_machine.proofs.Telling.{none_filtered}
use Rattle.zq_machine.proofs.Waiting.{asked, entries_are}

-- ---- whether a request leaves: by the gate of its target, the whole text that it is on and its expression
abbrev goes_space : Option ExitState → WireExpr → Bool
goes_space None w = true
goes_space (Some e) w = is_some (wire_out e.ns e.heads w)

abbrev goes_by : Option Gate → List ℕ → WireExpr → Bool
goes_by None text w = true
goes_by (Some g) text w = not (is_denied g.exit.exit text) && goes_space g.exit.space w

request_goes : (g : Option Gate) (text : List ℕ) (m : Request) → is_some (leaves_by g text (message.Request m)) ≡ goes_by g text m.wire
request_goes None text m = refl
request_goes (Some g) text m = by (is_denied g.exit.exit text)
  where
    left : (o : Option WireExpr) → is_some (option_map (λ w. message.Request (record m { wire = w })) o) ≡ is_some o
    left None = refl
    left (Some w) = refl

    space : (o : Option ExitState) → is_some (space_leaves o (message.Request m)) ≡ goes_space o m.wire
    space None = refl
    space (Some e) = left (wire_out e.ns e.heads m.wire)

    by : (b : Bool) → is_some (cond b None (space_leaves g.exit.space (message.Request m))) ≡ (not b && goes_space g.exit.space m.wire)
    by true = refl
    by false = space g.exit.space

-- a test that has the same answer on all that pass another
both_alike : (a b c : Bool) → (c ≡ true → a ≡ b) → (a && c) ≡ (b && c)
both_alike a b true same = ap (λ x. x && true) (same refl)
both_alike a b false same = and-false a ∙ sym (and-false b)

itself_too : (n : ℕ) → (n == n) ≡ true
itself_too n = sym (number_test n n) ∙ itself n

shared : (a b c : Bool) → ((a && b) || (a && c)) ≡ (a && (b || c))
shared true b c = refl
shared false b c = refl

-- ---- entries that stay
none_left : {X : Type 0} (test : X → Bool) (xs : List X) → is_none_left (filter test xs) ≡ not (list_any test xs)
none_left test [] = refl
none_left test (x ∷ xs) = by (test x) (none_left test xs)
  where
    by : (b : Bool) → is_none_left (filter test xs) ≡ not (list_any test xs) → is_none_left (cond b (x ∷ filter test xs) (filter test xs)) ≡ not (b || list_any test xs)
    by true e = refl
    by false e = e

-- nothing is pending at the place
abbrev pub IsAway : List Record → Place → Type 0
IsAway rs p = is_pending p.0 p.1 rs ≡ false

module _ (places : List Place) where
  kept_pending : (es : List Pending) → AllByRecursion (λ (p : Place). list_any (is_entry p.0 p.1) es ≡ false) places → filter (λ e. not (is_unsent places e)) es ≡ es
  kept_pending [] away = refl
  kept_pending (e ∷ es) away =
      ap (λ b. cond (not b) (e ∷ filter (λ x. not (is_unsent places x)) es) (filter (λ x. not (is_unsent places x)) es))
      (none_passing (λ (p : Place). is_entry p.0 p.1 e) places
      (all_weaker (λ (p : Place). list_any (is_entry p.0 p.1) (e ∷ es) ≡ false) (λ (p : Place). is_entry p.0 p.1 e ≡ false) (λ p h. (or_parts (is_entry p.0 p.1 e) (list_any (is_entry p.0 p.1) es) h).0) places away))
      ∙ ap (λ l. e ∷ l)
      (kept_pending es
      (all_weaker (λ (p : Place). list_any (is_entry p.0 p.1) (e ∷ es) ≡ false) (λ (p : Place). list_any (is_entry p.0 p.1) es ≡ false) (λ p h. (or_parts (is_entry p.0 p.1 e) (list_any (is_entry p.0 p.1) es) h).1) places away))

  -- records with nothing pending at the places stay as they are
  pub all_stay : (rs : List Record) → AllByRecursion (IsAway rs) places → map (without (is_unsent places)) rs ≡ rs
  all_stay [] away = refl
  all_stay (r ∷ rs) away = λ j.
      record r { pending = kept_pending r.pending (all_weaker (IsAway (r ∷ rs)) (λ (p : Place). list_any (is_entry p.0 p.1) r.pending ≡ false) (λ p h. (or_parts (has_entry p.0 p.1 r) (is_pending p.0 p.1 rs) h).0) places away) j }
      ∷ all_stay rs (all_weaker (IsAway (r ∷ rs)) (IsAway rs) (λ p h. (or_parts (has_entry p.0 p.1 r) (is_pending p.0 p.1 rs) h).1) places away) j

  left_stay : (rs : List Record) → any_over rs ≡ false → filter is_left rs ≡ rs
  left_stay [] standing = refl
  left_stay (r ∷ rs) standing =
      let p = or_parts (is_over r) (any_over rs) standing in
      ap (λ b. cond (not b) (r ∷ filter is_left rs) (filter is_left rs)) p.0 ∙ ap (λ l. r ∷ l) (left_stay rs p.1)

  pub none_let_go : (rs : List Record) → any_over rs ≡ false → AllByRecursion (IsAway rs) places → letting_go (is_unsent places) rs ≡ rs
  none_let_go rs standing away = ap (filter is_left) (all_stay rs away) ∙ left_stay rs standing

-- the next ids of faces are pending at none
pub all_away : (q : QueryState) (os : List QueryTargetQabl) → list_any (is_full q) (map target_of os) ≡ false → AllByRecursion (λ (o : QueryTargetQabl). is_pending o.face.0 (given_id q o.face) q.records ≡ false) os
all_away q [] h = tt
all_away q (o ∷ os) h =
    let p = or_parts (is_full q o.face) (list_any (is_full q) (map target_of os)) h in
    (by (next_id q o.face.0) refl p.0, all_away q os p.1)
  where
    by : (i : Option ℕ) → next_id q o.face.0 ≡ i → not (is_some i) ≡ false → is_pending o.face.0 (unwrap_or i 0) q.records ≡ false
    by None e full = absurd (true≢false full)
    by (Some id) e full = next_id_is_new q o.face.0 id e

-- ---- requests to the faces of offers
module _ (names : NamingState) (gates : Gates) (text : List ℕ) (q : QueryState) (r : Request) where
  -- what is handed to a face leaves
  abbrev pub goes_to : ℕ → Bool
  goes_to face = goes_by (gate_at face gates) text (best (face_keys face names).numbers text)

  abbrev pub goes : QueryTargetQabl → Bool
  goes o = goes_to o.face.0

  -- the requests as they are handed, through the gates
  abbrev pub handed_out : List QueryTargetQabl → List Handed
  handed_out os = map (through text gates) (write names (map (handed_request q text r) os))

  -- the request to the face of an offer
  abbrev request_to : QueryTargetQabl → Request
  request_to o = record { id = given_id q o.face; wire = best (face_keys o.face.0 names).numbers text; target = r.target; timeout = r.timeout; node = o.node; qos = r.qos; payload = r.payload }

  it_goes : (o : QueryTargetQabl) → is_some (through text gates (written names (handed_request q text r o))).leaves ≡ goes o
  it_goes o = request_goes (gate_at o.face.0 gates) text (request_to o)

  -- none leaves, if none goes
  pub none_go : (os : List QueryTargetQabl) → none_leaves (handed_out os) ≡ not (list_any goes os)
  none_go [] = refl
  none_go (o ∷ os) = (λ j. not (it_goes o j) && none_go os j) ∙ by (goes o) (list_any goes os)
    where
      by : (a b : Bool) → (not a && not b) ≡ not (a || b)
      by true b = refl
      by false b = refl

  module _ (e : Pending) where
    abbrev at_place : QueryTargetQabl → Bool
    at_place o = is_entry o.face.0 (given_id q o.face) e

    unsent_one : (o : QueryTargetQabl) (l : Option Message) (m : Request) → is_unsent (unsent_at o.face (message.Request m) l) e ≡ (not (is_some l) && is_entry o.face.0 m.id e)
    unsent_one o (Some x) m = refl
    unsent_one o None m = or-false _

    -- an entry is one of those that did not leave, if it is of a request that does not go
    unsent_are : (os : List QueryTargetQabl) → is_unsent (unsent (handed_out os)) e ≡ list_any (λ o. not (goes o) && at_place o) os
    unsent_are [] = refl
    unsent_are (o ∷ os) =
        let h = through text gates (written names (handed_request q text r o)) in
        list_any-append (λ (p : Place). is_entry p.0 p.1 e) (unsent_at h.to h.message h.leaves) (unsent (handed_out os))
        ∙ (λ j. (unsent_one o h.leaves (request_to o) ∙ ap (λ b. not b && at_place o) (it_goes o)) j || unsent_are os j)

    its_face : (o : QueryTargetQabl) → at_place o ≡ true → goes o ≡ goes_to e.face
    its_face o is = let here = and_parts (e.face == o.face.0) (e.id == given_id q o.face) is in ap goes_to (sym (eqb-true e.face o.face.0 here.0))

    not_goes : (os : List QueryTargetQabl) → list_any (λ o. not (goes o) && at_place o) os ≡ (not (goes_to e.face) && list_any at_place os)
    not_goes [] = sym (and-false (not (goes_to e.face)))
    not_goes (o ∷ os) =
        (λ j. both_alike (not (goes o)) (not (goes_to e.face)) (at_place o) (λ is. ap not (its_face o is)) j || not_goes os j)
        ∙ shared (not (goes_to e.face)) (at_place o) (list_any at_place os)

    pub unsent_is : (os : List QueryTargetQabl) → is_unsent (unsent (handed_out os)) e ≡ (not (goes_to e.face) && list_any at_place os)
    unsent_is os = unsent_are os ∙ not_goes os

    module _ (d : ℕ) where
      abbrev asks_it : QueryTargetQabl → Bool
      asks_it o = asked e d (given_place q o.face)

      -- an entry that is asked for stands at its place
      asks_place : (o : QueryTargetQabl) → asks_it o ≡ true → at_place o ≡ true
      asks_place o is =
          let a = and_parts (o.face.0 == e.face) _ is in
          let b = and_parts (given_id q o.face == e.id) (d == e.deadline) a.1 in
          (λ j. (sym (eqb-true o.face.0 e.face a.0) j == o.face.0) && (sym (eqb-true (given_id q o.face) e.id b.0) j == given_id q o.face))
          ∙ (λ j. itself_too o.face.0 j && itself_too (given_id q o.face) j)

      asked_there : (os : List QueryTargetQabl) → list_any asks_it os ≡ true → list_any at_place os ≡ true
      asked_there [] h = absurd (false≢true h)
      asked_there (o ∷ os) h = by (asks_it o) refl h (asked_there os)
        where
          by : (b : Bool) → asks_it o ≡ b → (b || list_any asks_it os) ≡ true → (list_any asks_it os ≡ true → list_any at_place os ≡ true) → (at_place o || list_any at_place os) ≡ true
          by true is g more = ap (λ b. b || list_any at_place os) (asks_place o is)
          by false is g more = ap (λ b. at_place o || b) (more g) ∙ or-true (at_place o)

      goes_all : (os : List QueryTargetQabl) → list_any (λ o. goes o && asks_it o) os ≡ (goes_to e.face && list_any asks_it os)
      goes_all [] = sym (and-false (goes_to e.face))
      goes_all (o ∷ os) =
          (λ j. both_alike (goes o) (goes_to e.face) (asks_it o) (λ is. its_face o (asks_place o is)) j || goes_all os j)
          ∙ shared (goes_to e.face) (asks_it o) (list_any asks_it os)

      -- of the entries that are asked for those stay whose requests go
      pub still_asked : (os : List QueryTargetQabl) → (list_any asks_it os && not (is_unsent (unsent (handed_out os)) e)) ≡ list_any (λ o. goes o && asks_it o) os
      still_asked os =
          ap (λ b. list_any asks_it os && not b) (unsent_is os)
          ∙ by (goes_to e.face) (list_any asks_it os) (list_any at_place os) (asked_there os)
          ∙ sym (goes_all os)
        where
          by : (s a p : Bool) → (a ≡ true → p ≡ true) → (a && not (not s && p)) ≡ (s && a)
          by true a p h = and-true a
          by false true p h = ap not (h refl)
          by false false p h = refl

      -- and each of these is given by a request that leaves
      one_given : (n : ℕ) (o : QueryTargetQabl) → gives d n e (through text gates (written names (handed_request q text r o))) ≡ ((q.requests == n) && (goes o && asks_it o))
      one_given n o = ap (λ b. (q.requests == n) && (b && asks_it o)) (it_goes o)

      pub all_given : (n : ℕ) (os : List QueryTargetQabl) → list_any (gives d n e) (handed_out os) ≡ ((q.requests == n) && list_any (λ o. goes o && asks_it o) os)
      all_given n [] = sym (and-false (q.requests == n))
      all_given n (o ∷ os) = (λ j. one_given n o j || all_given n os j) ∙ shared (q.requests == n) (goes o && asks_it o) (list_any (λ o. goes o && asks_it o) os)

  -- ---- the record of the request
  abbrev Absent : List Record → List QueryTargetQabl → Type 0
  Absent rs os = AllByRecursion (λ (o : QueryTargetQabl). is_pending o.face.0 (given_id q o.face) rs ≡ false) os

  pub unsent_absent : (rs : List Record) (os : List QueryTargetQabl) → Absent rs os → AllByRecursion (IsAway rs) (unsent (handed_out os))
  unsent_absent rs [] away = tt
  unsent_absent rs (o ∷ os) away = by (through text gates (written names (handed_request q text r o))).leaves (unsent_absent rs os away.1)
    where
      m : Message
      m = (written names (handed_request q text r o)).message

      by : (l : Option Message) → AllByRecursion (IsAway rs) (unsent (handed_out os)) → AllByRecursion (IsAway rs) (unsent_at o.face m l ++ unsent (handed_out os))
      by (Some x) rest = rest
      by None rest = (away.0, rest)

  -- each place is among the places
  places_there : (d : ℕ) (os : List QueryTargetQabl) → AllByRecursion (λ (o : QueryTargetQabl). list_any (at_place (entry_at d (given_place q o.face))) os ≡ true) os
  places_there d [] = tt
  places_there d (x ∷ xs) = (
    (λ j. (itself_too x.face.0 j && itself_too (given_id q x.face) j) || list_any (at_place (entry_at d (given_place q x.face))) xs),
    all_weaker (λ (o : QueryTargetQabl). list_any (at_place (entry_at d (given_place q o.face))) xs ≡ true) (λ (o : QueryTargetQabl). list_any (at_place (entry_at d (given_place q o.face))) (x ∷ xs) ≡ true)
        (λ o is. ap (λ b. at_place (entry_at d (given_place q o.face)) x || b) is ∙ or-true (at_place (entry_at d (given_place q o.face)) x)) xs (places_there d xs),
  )

  module _ (d : ℕ) (all : List QueryTargetQabl) where
    stays_at : (o : QueryTargetQabl) → list_any (at_place (entry_at d (given_place q o.face))) all ≡ true → not (is_unsent (unsent (handed_out all)) (entry_at d (given_place q o.face))) ≡ goes o
    stays_at o is =
        ap not (unsent_is (entry_at d (given_place q o.face)) all)
        ∙ ap (λ b. not (not (goes o) && b)) is
        ∙ by (goes o)
      where
        by : (b : Bool) → not (not b && true) ≡ b
        by true = refl
        by false = refl

    some_stay : (os : List QueryTargetQabl) → AllByRecursion (λ (o : QueryTargetQabl). list_any (at_place (entry_at d (given_place q o.face))) all ≡ true) os
        → list_any (λ p. not (is_unsent (unsent (handed_out all)) (entry_at d p))) (map (given_place q) (map target_of os)) ≡ list_any goes os
    some_stay [] there = refl
    some_stay (o ∷ os) there = λ j. stays_at o there.0 j || some_stay os there.1 j

    -- nothing is left of it, if none goes
    pub new_over : (n : ℕ) (asker : FaceId) (id qos : ℕ)
        → is_over (without (is_unsent (unsent (handed_out all))) (asked_record n asker id qos (map (given_place q) (map target_of all)) d)) ≡ not (list_any goes all)
    new_over n asker id qos =
        and-true (is_none_left (filter (λ e. not (is_unsent (unsent (handed_out all)) e)) (entries_at d (map (given_place q) (map target_of all)))))
        ∙ none_left (λ e. not (is_unsent (unsent (handed_out all)) e)) (entries_at d (map (given_place q) (map target_of all)))
        ∙ ap not (entries_are (λ e. not (is_unsent (unsent (handed_out all)) e)) d (map (given_place q) (map target_of all)) ∙ some_stay all (places_there d all))

  -- the finals of requests that did not leave: the asker's, where none leaves, for all else is as it was
  module _ (rs : List Record) (standing : any_over rs ≡ false) (d : ℕ) (asker : FaceId) (closed : List ℕ) (opened : is_closed closed asker.0 ≡ false) where
    abbrev its_final : Final
    its_final = record { number = q.requests; asker = asker; id = r.id; qos = r.qos }

    finals_by : (b : Bool) (x : Record) → final_of x ≡ its_final → filter (has_open_asker closed) (map final_of (cond b (x ∷ []) [])) ≡ cond b (its_final ∷ []) []
    finals_by false x same = refl
    finals_by true x same = ap (λ (f : Final). filter (has_open_asker closed) (f ∷ [])) same ∙ ap (λ b. cond (not b) (its_final ∷ []) []) opened

    its_finals : (all : List QueryTargetQabl) → Absent rs all
        → finals_after (is_unsent (unsent (handed_out all))) closed (rs ++ asked_record q.requests asker r.id r.qos (map (given_place q) (map target_of all)) d ∷ []) ≡ cond (none_leaves (handed_out all)) (its_final ∷ []) []
    its_finals all away =
        let p = is_unsent (unsent (handed_out all)) in
        let new = asked_record q.requests asker r.id r.qos (map (given_place q) (map target_of all)) d in
        ap (λ l. filter (has_open_asker closed) (map final_of (filter is_over l))) (map-append (without p) rs (new ∷ []) ∙ ap (λ l. l ++ without p new ∷ []) (all_stay (unsent (handed_out all)) rs (unsent_absent rs all away)))
        ∙ ap (λ l. filter (has_open_asker closed) (map final_of l)) (filter-append is_over rs (without p new ∷ []) ∙ ap (λ l. l ++ filter is_over (without p new ∷ [])) (none_filtered is_over rs (all_failing is_over rs standing)))
        ∙ finals_by (is_over (without p new)) (without p new) refl
        ∙ ap (λ b. cond b (its_final ∷ []) []) (new_over d all q.requests asker r.id r.qos ∙ sym (none_go all))

    -- where all leave none is handed, and some leave
    goes_where : (o : QueryTargetQabl) (os : List QueryTargetQabl) → unsent (handed_out (o ∷ os)) ≡ [] → goes o ≡ true
    goes_where o os all =
        by (goes o)
        (ap (λ b. not (goes o) && b) (sym (places_there d (o ∷ os)).0)
        ∙ sym (unsent_is (entry_at d (given_place q o.face)) (o ∷ os))
        ∙ ap (λ (l : List Place). is_unsent l (entry_at d (given_place q o.face))) all)
      where
        by : (b : Bool) → (not b && true) ≡ false → b ≡ true
        by true h = refl
        by false h = absurd (true≢false h)

    pub finals_of_unsent : (o : QueryTargetQabl) (os : List QueryTargetQabl) (c : Core) → c.queries.closed ≡ closed → Absent rs (o ∷ os)
        → c.queries.records ≡ rs ++ asked_record q.requests asker r.id r.qos (map (given_place q) (map target_of (o ∷ os))) d ∷ []
        → (finish c (unsent (handed_out (o ∷ os)))).finals ≡ cond (none_leaves (handed_out (o ∷ os))) (its_final ∷ []) []
    finals_of_unsent o os c shut away are = by (unsent (handed_out (o ∷ os))) refl
      where
        by : (places : List Place) → unsent (handed_out (o ∷ os)) ≡ places → (finish c places).finals ≡ cond (none_leaves (handed_out (o ∷ os))) (its_final ∷ []) []
        by [] e = sym (ap (λ b. cond b (its_final ∷ []) []) (none_go (o ∷ os) ∙ ap (λ b. not (b || list_any goes os)) (goes_where o os e)))
        by (x ∷ places) e =
            (λ j. finals_after (is_unsent (sym e j)) (shut j) (are j)) ∙ its_finals (o ∷ os) away
