-- Every reply and every final of a run goes to who asked.
use Rattle.std.proofs.Common.{◌≡◌, ◌∙◌, refl, sym, ap, subst, ℕ, ◌+◌, Bool, true, false, cond, List, [], ◌∷◌, ◌++◌, fold, map, Option, Some, None, append_assoc}
use Rattle.std.specs.List.{AllByRecursion, cons_option, filter}
use Rattle.std.specs.Prelude.{find, ◌==◌}
use Rattle.std.specs.BTreeSet.{insert_key}
use Rattle.std.specs.Ordering.{nat_cmp}
use Rattle.std.specs.Option.{is_some, option_map}
use Rattle.std.proofs.lemmas.Bool.{false≢true}
use Rattle.std.proofs.lemmas.List.{append-nil, map-append}
use Rattle.std.proofs.lemmas.List.Elements.{Contains-append_left, Contains-push}
use Rattle.zq_message.specs.declared.message.FaceId.{FaceId}
use Rattle.zq_message.specs.declared.message.Request.{Request}
use Rattle.zq_message.specs.declared.message.Response.{Response}
use Rattle.zq_strategy.specs.declared.offer.QueryTargetQabl.{QueryTargetQabl}
use Rattle.zq_query.specs.declared.records.Final.{Final}
use Rattle.zq_query.specs.declared.records.ReplyTo.{ReplyTo}
use Rattle.zq_query.specs.declared.records.Timeout.{Timeout}
use Rattle.zq_query.specs.Asking.{given_place}
use Rattle.zq_query.specs.Closing.{at_face, closed_with, closing_finals, finals_after, finals_landed, has_open_asker}
use Rattle.zq_query.specs.Polling.{after_timeout, dues_at, is_due, numbers_in, timed_out, timeouts, timing_out, with_timeout}
use Rattle.zq_query.specs.Records.{Pending, QueryState, Record, after_put, final_of, has_entry, has_number, is_entry, is_left, is_none_left, is_over, landing, letting_go, next_reply, owner, putting, reply_to, request, without, without_reply}
use Rattle.zq_query.specs.Tables.{Due}
use Rattle.zq_query.proofs.TimingOut.{rest_stays}
use Rattle.zq_tables.specs.Naming.{NamingState}
use Rattle.zq_tables.specs.declared.resolved.Resolved.{Resolved}
use Rattle.zq_machine.specs.declared.call.Call.{Call}
use Rattle.zq_machine.specs.declared.call.Call.TheVariants as call
use Rattle.zq_machine.specs.declared.call.Step.{Step}
use Rattle.zq_machine.specs.declared.face.OpenFace.{OpenFace}
use Rattle.zq_machine.specs.Asked.{AreCounted, IsAsked, IsHandedToAsker, asked_by, asked_in, asked_number}
use Rattle.zq_machine.specs.Configs.{Settings}
use Rattle.zq_machine.specs.Deciding.{accepted, after_replied, granted, handed_reply, handed_request, handed_requests, handed_timeouts, passing_finals, replied, timed_out as text_timeout}
use Rattle.zq_machine.specs.Machine.{after, answer, settle, state_after, step, steps_from}
use Rattle.zq_machine.specs.Messages.{TextMessage, text_final}
use Rattle.zq_machine.specs.Writing.{finish, is_unsent, write}
use Rattle.zq_machine.specs.Selecting.{full_text, select, target_of}
use Rattle.zq_machine.specs.State.{Core, State, opening_state}
use Rattle.zq_machine.specs.TextCalls.{TextCall, opening, closing, naming, unnaming, declaring, withdrawing, asking, replying, ending, reporting, passing, listing, finalizing, announcing, retracting, networking, tabling, hearing, unhearing, read, asked_said, said_if}
use Rattle.zq_machine.proofs.Lists.{all_append, all_filter, all_weaker}
use Rattle.zq_machine.proofs.Granted.{all_beside, by_granted, by_told}
use Rattle.zq_machine.proofs.GoingOut.{all_ended, all_out}
use Rattle.zq_machine.proofs.Reading.{declare_read, withdraw_read}
use Rattle.zq_machine.proofs.Asks.{is_asking}

-- ---- what holds of each record's number, asker, id and quality byte
module _ (P : ℕ → FaceId → ℕ → ℕ → Type 0) where
  abbrev OfRecord : Record → Type 0
  OfRecord r = P r.number r.asker r.id r.qos

  abbrev OfFinal : Final → Type 0
  OfFinal f = P f.number f.asker f.id f.qos

  abbrev OfReply : ReplyTo → Type 0
  OfReply t = P t.number t.asker t.id t.qos

  abbrev OfTimeout : Timeout → Type 0
  OfTimeout t = P t.number t.asker t.id t.qos

  abbrev Each : List Record → Type 0
  Each rs = AllByRecursion OfRecord rs

  abbrev IfThere : Option Final → Type 0
  IfThere None = Unit {0}
  IfThere (Some f) = OfFinal f

  each_without : (p : Pending → Bool) (rs : List Record) → Each rs → Each (map (without p) rs)
  each_without p [] all = tt
  each_without p (r ∷ rs) all = (all.0, each_without p rs all.1)

  each_landed : (reply : ℕ) (rs : List Record) → Each rs → Each (map (without_reply reply) rs)
  each_landed reply [] all = tt
  each_landed reply (r ∷ rs) all = (all.0, each_landed reply rs all.1)

  each_put : (reply number : ℕ) (rs : List Record) → Each rs → Each (putting reply number rs)
  each_put reply number [] all = tt
  each_put reply number (r ∷ rs) all = (by (r.number == number) all.0, each_put reply number rs all.1)
    where
      by : (b : Bool) → OfRecord r → OfRecord (cond b (record r { in_flight = insert_key nat_cmp r.in_flight reply }) r)
      by true it = it
      by false it = it

  pub each_let_go : (p : Pending → Bool) (rs : List Record) → Each rs → Each (letting_go p rs)
  each_let_go p rs all = all_filter OfRecord is_left (map (without p) rs) (each_without p rs all)

  pub each_landing : (reply : ℕ) (rs : List Record) → Each rs → Each (landing reply rs)
  each_landing reply rs all = all_filter OfRecord is_left (map (without_reply reply) rs) (each_landed reply rs all)

  finals_each : (rs : List Record) → Each rs → AllByRecursion OfFinal (map final_of rs)
  finals_each [] all = tt
  finals_each (r ∷ rs) all = (all.0, finals_each rs all.1)

  pub finals_let_go : (p : Pending → Bool) (closed : List ℕ) (rs : List Record) → Each rs → AllByRecursion OfFinal (finals_after p closed rs)
  finals_let_go p closed rs all =
      all_filter OfFinal (has_open_asker closed) (map final_of (filter is_over (map (without p) rs)))
      (finals_each (filter is_over (map (without p) rs)) (all_filter OfRecord is_over (map (without p) rs) (each_without p rs all)))

  pub finals_landing : (reply : ℕ) (closed : List ℕ) (rs : List Record) → Each rs → AllByRecursion OfFinal (finals_landed reply closed rs)
  finals_landing reply closed rs all =
      all_filter OfFinal (has_open_asker closed) (map final_of (filter is_over (map (without_reply reply) rs)))
      (finals_each (filter is_over (map (without_reply reply) rs)) (all_filter OfRecord is_over (map (without_reply reply) rs) (each_landed reply rs all)))

  found_there : (test : Record → Bool) (rs : List Record) → Each rs → IfThere (option_map final_of (find test rs))
  found_there test [] all = tt
  found_there test (r ∷ rs) all = by (test r) (found_there test rs all.1)
    where
      by : (b : Bool) → IfThere (option_map final_of (find test rs)) → IfThere (option_map final_of (cond b (Some r) (find test rs)))
      by true rest = all.0
      by false rest = rest

  -- ---- timeouts and what they leave
  timeouts_more : (s : QueryState) (ts : List Timeout) (d : Due) → Each s.records → AllByRecursion OfTimeout ts → AllByRecursion OfTimeout (with_timeout s ts d)
  timeouts_more s ts d all told = all_append OfTimeout ts _ told (by (request d.1 s.records) (found_there (has_number d.1) s.records all))
    where
      by : (o : Option Final) → IfThere o → AllByRecursion OfTimeout (cons_option (option_map (timed_out s (s.replies + numbers_in ts) d) o) [])
      by None it = tt
      by (Some f) it = (it, tt)

  timeouts_each : (s : QueryState) (ds : List Due) (ts : List Timeout) → Each s.records → AllByRecursion OfTimeout ts → AllByRecursion OfTimeout (fold (with_timeout s) ts ds)
  timeouts_each s [] ts all told = told
  timeouts_each s (d ∷ ds) ts all told = timeouts_each s ds (with_timeout s ts d) all (timeouts_more s ts d all told)

  each_timing_out : (ts : List Timeout) (s : QueryState) → Each s.records → Each (timing_out ts s).records
  each_timing_out [] s all = all
  each_timing_out (t ∷ ts) s all = each_timing_out ts (after_timeout s t) (by (is_some t.reply))
    where
      by : (b : Bool) → Each (cond b (after_put t.number s) s).records
      by true = each_put s.replies t.number s.records all
      by false = all

  each_replied : (q : QueryState) (o : Option Final) → Each q.records → Each (after_replied (option_map (reply_to q) o) q).records
  each_replied q None all = all
  each_replied q (Some f) all = by (is_some (reply_to q f).reply)
    where
      by : (b : Bool) → Each (cond b (after_put f.number q) q).records
      by true = each_put q.replies f.number q.records all
      by false = all

  -- ---- every call but a request keeps it
  pub each_kept : (c : Core) (t : TextCall) → is_asking t ≡ false → Each c.queries.records → Each (accepted c t).queries.records
  unfolding is_asking
  each_kept c (asking face s r now) h all = absurd (false≢true (sym h))
  each_kept c (opening o) h all = all
  each_kept c (closing face) h all = each_let_go (at_face face.0) c.queries.records all
  each_kept c (naming face id s x) h all = all
  each_kept c (unnaming face id x) h all = all
  each_kept c (declaring face id s i n) h all = all
  each_kept c (withdrawing face id) h all = all
  each_kept c (replying face s r) h all = each_replied c.queries (owner face.0 r.rid c.queries.records) all
  each_kept c (ending face rid) h all = each_let_go (is_entry face.0 rid) c.queries.records all
  each_kept c (reporting reply) h all = each_landing reply c.queries.records all
  each_kept c (passing now) h all = each_let_go (is_due now) (timing_out (timeouts now c.queries) c.queries).records (each_timing_out (timeouts now c.queries) c.queries all)
  each_kept c (listing r t) h all = all
  each_kept c (finalizing face m set) h all = all
  each_kept c (announcing face sd i node) h all = all
  each_kept c (retracting face sd node) h all = all
  each_kept c (networking r net) h all = all
  each_kept c (tabling face ids) h all = all
  each_kept c (hearing face id keys sd) h all = all
  each_kept c (unhearing face id) h all = all

-- ---- what is handed
module _ (asked : List Final) (names : NamingState) where
  abbrev All : List TextMessage → Type 0
  All hs = AllByRecursion (IsHandedToAsker asked) (write names hs)

  finals_handed : (fs : List Final) → AllByRecursion (OfFinal (IsAsked asked)) fs → All (map text_final fs)
  finals_handed [] all = tt
  finals_handed (f ∷ fs) all = (all.0, finals_handed fs all.1)

  timeouts_handed : (faces : List (ℕ × OpenFace)) (ts : List Timeout) → AllByRecursion (OfTimeout (IsAsked asked)) ts → All (handed_timeouts faces ts)
  timeouts_handed faces [] all = tt
  timeouts_handed faces (t ∷ ts) all = by t.reply (timeouts_handed faces ts all.1)
    where
      by : (o : Option ℕ) → All (handed_timeouts faces ts) → All (cons_option (option_map (text_timeout faces t) o) [] ++ handed_timeouts faces ts)
      by None rest = rest
      by (Some k) rest = (all.0, rest)

  requests_handed : (q : QueryState) (text : List ℕ) (r : Request) (os : List QueryTargetQabl) → All (map (handed_request q text r) os)
  requests_handed q text r [] = tt
  requests_handed q text r (o ∷ os) = (tt, requests_handed q text r os)

  reply_handed : (q : QueryState) (text : List ℕ) (r : Response) (o : Option Final) → IfThere (IsAsked asked) o → All (replied text r (option_map (reply_to q) o))
  reply_handed q text r None it = tt
  reply_handed q text r (Some f) it = by (reply_to q f).reply
    where
      by : (o : Option ℕ) → All (cons_option (option_map (handed_reply text r (reply_to q f)) o) [])
      by (Some k) = (it, tt)
      by None = tt

  all_parts : (xs ys : List TextMessage) → All xs → All ys → All (xs ++ ys)
  all_parts [] ys all more = more
  all_parts (x ∷ xs) ys all more = (all.0, all_parts xs ys all.1 more)

  pub all_handed : (c : Core) (t : TextCall) → is_asking t ≡ false → Each (IsAsked asked) c.queries.records → All (granted c t).messages
  unfolding is_asking
  all_handed c (asking face s r now) h all = absurd (false≢true (sym h))
  all_handed c (opening o) h all = tt
  all_handed c (closing face) h all = finals_handed (closing_finals face.0 c.queries) (finals_let_go (IsAsked asked) (at_face face.0) (closed_with face.0 c.queries.closed) c.queries.records all)
  all_handed c (naming face id s x) h all = tt
  all_handed c (unnaming face id x) h all = tt
  all_handed c (declaring face id s i n) h all = tt
  all_handed c (withdrawing face id) h all = tt
  all_handed c (replying face s r) h all =
      reply_handed c.queries (full_text s) r (owner face.0 r.rid c.queries.records) (found_there (IsAsked asked) (has_entry face.0 r.rid) c.queries.records all)
  all_handed c (ending face rid) h all = finals_handed _ (finals_let_go (IsAsked asked) (is_entry face.0 rid) c.queries.closed c.queries.records all)
  all_handed c (reporting reply) h all = finals_handed _ (finals_landing (IsAsked asked) reply c.queries.closed c.queries.records all)
  all_handed c (passing now) h all =
      let ts = timeouts now c.queries in
      let late = timeouts_each (IsAsked asked) c.queries (dues_at now c.queries.records) [] all tt in
      let z = timing_out ts c.queries in
      all_parts (handed_timeouts c.faces ts) (map text_final (passing_finals now c.queries))
      (timeouts_handed c.faces ts late)
      (finals_handed (passing_finals now c.queries) (finals_let_go (IsAsked asked) (is_due now) z.closed z.records (each_timing_out (IsAsked asked) ts c.queries all)))
  all_handed c (listing r t) h all = tt
  all_handed c (finalizing face m set) h all = tt
  all_handed c (announcing face sd i node) h all = tt
  all_handed c (retracting face sd node) h all = tt
  all_handed c (networking r net) h all = tt
  all_handed c (tabling face ids) h all = tt
  all_handed c (hearing face id keys sd) h all = tt
  all_handed c (unhearing face id) h all = tt

-- ---- numbers of requests
replied_count : (q : QueryState) (o : Option ReplyTo) → (after_replied o q).requests ≡ q.requests
replied_count q None = refl
replied_count q (Some to) = by (is_some to.reply)
  where
    by : (b : Bool) → (cond b (after_put to.number q) q).requests ≡ q.requests
    by true = refl
    by false = refl

same_count : (c : Core) (t : TextCall) → is_asking t ≡ false → (accepted c t).queries.requests ≡ c.queries.requests
unfolding is_asking
same_count c (asking face s r now) h = absurd (false≢true (sym h))
same_count c (opening o) h = refl
same_count c (closing face) h = refl
same_count c (naming face id s x) h = refl
same_count c (unnaming face id x) h = refl
same_count c (declaring face id s i n) h = refl
same_count c (withdrawing face id) h = refl
same_count c (replying face s r) h = replied_count c.queries (next_reply face.0 r.rid c.queries)
same_count c (ending face rid) h = refl
same_count c (reporting reply) h = refl
same_count c (passing now) h = ap (λ (z : QueryState). z.requests) (rest_stays (timeouts now c.queries) c.queries)
same_count c (listing r t) h = refl
same_count c (finalizing face m set) h = refl
same_count c (announcing face sd i node) h = refl
same_count c (retracting face sd node) h = refl
same_count c (networking r net) h = refl
same_count c (tabling face ids) h = refl
same_count c (hearing face id keys sd) h = refl
same_count c (unhearing face id) h = refl

-- ---- one call
abbrev pub Asks : List Final → State → Type 0
Asks asked s = Each (IsAsked asked) s.core.queries.records

-- what a call leaves, hands and counts, where what was asked before it is known, and it asks these
pub record Tells (asked new : List Final) (s s' : State) (t : Step) : Type 0 where
  pub records : Asks (asked ++ new) s'
  pub handed : AllByRecursion (IsHandedToAsker (asked ++ new)) t.handed
  pub counted : (rest : List ℕ) → AreCounted s'.core.queries.requests rest → AreCounted s.core.queries.requests (map asked_number new ++ rest)

more_asked : (asked new : List Final) (s : State) → Asks asked s → Asks (asked ++ new) s
more_asked asked new s all =
    all_weaker (λ (r : Record). IsAsked asked r.number r.asker r.id r.qos) (λ (r : Record). IsAsked (asked ++ new) r.number r.asker r.id r.qos)
    (λ r has. Contains-append_left asked new _ has) s.core.queries.records all

module _ (asked : List Final) (s : State) (all : Asks asked s) where
  no_more : Asks (asked ++ []) s
  no_more = more_asked asked [] s all

  quiet : (t : TextCall) → is_asking t ≡ false → Tells asked [] s (settle s t) (answer s t)
  quiet t h =
      by_told (λ z w. Tells asked [] s w z) s t h
      (λ text z w it. record { records = it.records; handed = all_out text (IsHandedToAsker (asked ++ [])) (λ x left to. to) z.handed w.gates it.handed; counted = it.counted })
      (λ passed. record {
        records = each_kept (IsAsked (asked ++ [])) s.core t h no_more;
        handed = all_beside s t (write s.names (granted s.core t).messages) (IsHandedToAsker (asked ++ [])) (λ to d. refl) (all_handed (asked ++ []) s.names s.core t h no_more);
        counted = λ rest are. subst (λ n. AreCounted n rest) (same_count s.core t h) are;
      })
      (λ r. record { records = no_more; handed = tt; counted = λ rest are. are })

  module _ (face : FaceId) (r : Request) (now : ℕ) where
    abbrev said : Resolved
    said = asked_said face r s

    abbrev offers : List QueryTargetQabl
    offers = select s.core face said r

    abbrev new : List Final
    new = record { number = s.core.queries.requests; asker = face; id = r.id; qos = r.qos } ∷ []

    its_own : IsAsked (asked ++ new) s.core.queries.requests face r.id r.qos
    its_own = Contains-push asked _

    abbrev asking_call : TextCall
    asking_call = asking face said r now

    records_by : (b : Bool) (x : Record) → IsAsked (asked ++ new) x.number x.asker x.id x.qos → Each (IsAsked (asked ++ new)) (cond b [] (x ∷ []))
    records_by true x it = tt
    records_by false x it = (it, tt)

    requests_by : (os : List QueryTargetQabl) → All (asked ++ new) s.names (handed_requests s.core.queries face (full_text said) r os)
    requests_by [] = (its_own, tt)
    requests_by (o ∷ os) = requests_handed (asked ++ new) s.names s.core.queries (full_text said) r (o ∷ os)

    request_tells : Tells asked (asked_by (call.Request face r now) (step s (call.Request face r now))) s (after s (call.Request face r now)) (step s (call.Request face r now))
    request_tells =
        by_granted (λ z w. Tells asked (asked_by (call.Request face r now) z) s w z) s asking_call
        (λ text z w it. record { records = it.records; handed = all_out text (IsHandedToAsker (asked ++ asked_by (call.Request face r now) z)) (λ x left to. to) z.handed w.gates it.handed; counted = it.counted })
        (λ p places z w it.
        let each = IsAsked (asked ++ asked_by (call.Request face r now) z) in
        record {
          records = each_let_go each (is_unsent (p ∷ places)) w.core.queries.records it.records;
          handed = all_ended (IsHandedToAsker (asked ++ asked_by (call.Request face r now) z)) z.handed (finish w.core (p ∷ places)).finals it.handed (finals_let_go each (is_unsent (p ∷ places)) w.core.queries.closed w.core.queries.records it.records);
          counted = it.counted;
        })
        (λ passed. record {
          records = all_append _ s.core.queries.records _ (more_asked asked new s all) (records_by (is_none_left (map (given_place s.core.queries) (map target_of offers))) _ its_own);
          handed = all_beside s asking_call (write s.names (granted s.core asking_call).messages) (IsHandedToAsker (asked ++ new)) (λ to d. refl) (requests_by offers);
          counted = λ rest are. (refl, are);
        })
        (λ x. record { records = no_more; handed = tt; counted = λ rest are. are })

  pub call_tells : (c : Call) → Tells asked (asked_by c (step s c)) s (after s c) (step s c)
  unfolding is_asking
  call_tells (call.Request face r now) = request_tells face r now
  call_tells (call.Open o) = quiet (opening o) refl
  call_tells (call.Close face) = quiet (closing face) refl
  call_tells (call.DeclareKeyExpr face id wire) = quiet (read s (call.DeclareKeyExpr face id wire)) refl
  call_tells (call.UndeclareKeyExpr face id) = quiet (read s (call.UndeclareKeyExpr face id)) refl
  call_tells (call.DeclareQueryable face id wire info node) = quiet (read s (call.DeclareQueryable face id wire info node)) (declare_read (λ t. is_asking t ≡ false) s face id wire info node refl refl)
  call_tells (call.UndeclareQueryable face id wire node) = quiet (read s (call.UndeclareQueryable face id wire node)) (withdraw_read (λ t. is_asking t ≡ false) s face id wire node refl refl)
  call_tells (call.Response face r) = quiet (read s (call.Response face r)) refl
  call_tells (call.ResponseFinal face rid) = quiet (ending face rid) refl
  call_tells (call.Sent reply) = quiet (reporting reply) refl
  call_tells (call.Poll now) = quiet (passing now) refl
  call_tells (call.SetGateways r t) = quiet (listing r t) refl
  call_tells (call.Interest face id keys aggregate wire) = quiet (hearing face id (record { keys = keys; aggregate = aggregate }) (said_if face wire s)) refl
  call_tells (call.InterestFinal face id) = quiet (unhearing face id) refl
  call_tells (call.FinalizeInterest face mark set) = quiet (finalizing face mark set) refl
  call_tells (call.SetNetwork r net) = quiet (networking r net) refl
  call_tells (call.SetNodeIds face ids) = quiet (tabling face ids) refl

-- ---- a run
abbrev asked_from : State → List Call → List Final
asked_from s cs = asked_in cs (steps_from s cs)

run_asks : (cs : List Call) (s : State) (asked : List Final) → Asks asked s → Asks (asked ++ asked_from s cs) (state_after s cs)
run_asks [] s asked all = more_asked asked [] s all
run_asks (c ∷ cs) s asked all =
    subst (λ l. Asks l (state_after s (c ∷ cs))) (append_assoc asked (asked_by c (step s c)) (asked_from (after s c) cs))
    (run_asks cs (after s c) (asked ++ asked_by c (step s c)) (call_tells asked s all c).records)

asked_last : (cs : List Call) (s : State) (c : Call) → asked_from s cs ++ asked_by c (step (state_after s cs) c) ≡ asked_from s (cs ++ c ∷ [])
asked_last [] s c = sym (append-nil (asked_by c (step s c)))
asked_last (d ∷ cs) s c =
    append_assoc (asked_by d (step s d)) (asked_from (after s d) cs) (asked_by c (step (state_after (after s d) cs) c))
    ∙ ap (λ l. asked_by d (step s d) ++ l) (asked_last cs (after s d) c)

pub to_askers : (config : Settings) (before : List Call) (c : Call)
    → AllByRecursion (IsHandedToAsker (asked_from (opening_state config) (before ++ c ∷ []))) (step (state_after (opening_state config) before) c).handed
to_askers config before c =
    subst (λ l. AllByRecursion (IsHandedToAsker l) (step (state_after (opening_state config) before) c).handed) (asked_last before (opening_state config) c)
    (call_tells (asked_from (opening_state config) before) (state_after (opening_state config) before) (run_asks before (opening_state config) [] tt) c).handed

counted_from : (cs : List Call) (s : State) (asked : List Final) → Asks asked s → AreCounted s.core.queries.requests (map asked_number (asked_from s cs))
counted_from [] s asked all = tt
counted_from (c ∷ cs) s asked all =
    let tells = call_tells asked s all c in
    subst (AreCounted s.core.queries.requests) (sym (map-append asked_number (asked_by c (step s c)) (asked_from (after s c) cs)))
    (tells.counted (map asked_number (asked_from (after s c) cs)) (counted_from cs (after s c) (asked ++ asked_by c (step s c)) tells.records))

pub counted : (config : Settings) (calls : List Call) → AreCounted config.start.requests (map asked_number (asked_from (opening_state config) calls))
counted config calls = counted_from calls (opening_state config) [] tt
