-- The replies that a call hands are those that the trace tells.
use Rattle.std.proofs.Common.{◌≡◌, ◌∙◌, refl, sym, ap, subst, ℕ, ◌+◌, Bool, true, false, cond, List, [], ◌∷◌, ◌++◌, append-nil, append_assoc, arith, fold, length, length-append, map, Option, Some, None, true≢false}
use Rattle.std.specs.Prelude.{codes, ◌==◌, ◌||◌, if◌then◌else◌}
use Rattle.std.specs.List.{AllByRecursion, cons_option, filter, filter_map, list_any}
use Rattle.std.proofs.lemmas.List.{length-map, map-append}
use Rattle.std.proofs.lemmas.List.Elements.{filter-append, filter_map-append}
use Rattle.std.specs.Option.{is_some, option_and_then, option_map, option_map_or}
use Rattle.zq_message.specs.declared.message.FaceId.{FaceId}
use Rattle.zq_message.specs.declared.message.Message.{Message}
use Rattle.zq_message.specs.declared.message.Message.TheVariants as message
use Rattle.zq_message.specs.declared.message.ReplyBody.TheVariants as reply_body
use Rattle.zq_message.specs.declared.message.Response.{Response}
use Rattle.zq_query.specs.declared.records.Final.{Final}
use Rattle.zq_query.specs.declared.records.ReplyTo.{ReplyTo}
use Rattle.zq_query.specs.declared.records.Timeout.{Timeout}
use Rattle.zq_query.specs.Polling.{dues_at, has_number_for, numbers_in, timed_out, timeouts, with_timeout}
use Rattle.zq_query.specs.Tables.{Due}
use Rattle.zq_query.specs.Records.{QueryState, is_closed as counts_closed, reply_to as machine_reply}
use Rattle.zq_tables.specs.declared.resolved.Resolved.TheVariants as said_word
use Rattle.zq_tables.specs.Naming.{plain, said_of}
use Rattle.zq_machine.specs.declared.call.Call.{Call}
use Rattle.zq_machine.specs.declared.call.Call.TheVariants as call
use Rattle.zq_machine.specs.declared.call.Step.{Step}
use Rattle.zq_machine.specs.declared.face.OpenFace.{OpenFace}
use Rattle.zq_machine.specs.Handing.{Handed}
use Rattle.zq_machine.specs.Configs.{Settings}
use Rattle.zq_machine.specs.Asked.{AreCounted, replies_of as machine_replies}
use Rattle.zq_machine.specs.Deciding.{causes, handed_replies, handed_timeouts, is_accepted, passing_finals, timed_out as timed_text}
use Rattle.zq_machine.specs.Gates.{gate_at, reply_by, space_of, through}
use Rattle.zq_machine.specs.Headline.{HandsReply, is_response, replies_to}
use Rattle.zq_machine.specs.Machine.{step}
use Rattle.zq_machine.specs.Selecting.{full_text, zid_in, zid_of}
use Rattle.zq_machine.specs.State.{State, at, is_open}
use Rattle.zq_machine.specs.TextCalls.{read, said_by_reply}
use Rattle.zq_machine.specs.Writing.{sent_final, write}
use Rattle.zq_trace.specs.Faces.{Face, Trace, face_at, is_closed}
use Rattle.zq_trace.specs.Awaited.{next_reply, owner, request}
use Rattle.zq_trace.specs.Expected.{Shown, timed_out as timed_out_now, error_replies, if_open, late_reply, replies_of, reply_says, reply_to, shown}
use Rattle.zq_trace.specs.Headline.{if_accepted, kind, of_kind}
use Rattle.zq_trace.proofs.Asked.{closed_alike}
use Rattle.zq_trace.proofs.Ending.{none_hold, none_refuses, not_closed}
use Rattle.zq_trace.proofs.Order.{finals_kind, its_kind, other_kind, replies_kind}
use Rattle.zq_trace.proofs.Owners.{owner_alike, replies_numbered}
use Rattle.zq_trace.proofs.Requests.{none_if, none_of_kind, nothing_handed}
use Rattle.zq_trace.proofs.Runs.{IsRun, call_promise, reached}
use Rattle.zq_trace.proofs.Saying.{closed_face, numbers_here, open_face}
use Rattle.zq_trace.proofs.Late.{IsKnown, dues_known, late_alike}

reply_kind : (m : Message) → is_response m ≡ (kind m == 1)
reply_kind (message.Request r) = refl
reply_kind (message.Response r) = refl
reply_kind (message.ResponseFinal r) = refl
reply_kind (message.Interest r) = refl
reply_kind (message.InterestFinal r) = refl
reply_kind (message.Declare r) = refl

any_reply : (hs : List Handed) → list_any replies_to hs ≡ list_any (λ (h : Handed). kind h.message == 1) hs
any_reply [] = refl
any_reply (h ∷ hs) = λ j. reply_kind h.message j || any_reply hs j

module _ (config : Settings) (past : Trace) (run : IsRun config past) where
  abbrev s : State
  s = reached config past

  some_at : (face : ℕ) → is_open face s.core ≡ true → (o : OpenFace) × (at face s.core.faces ≡ Some o)
  some_at face h = by (at face s.core.faces) refl h
    where
      by : (x : Option OpenFace) → at face s.core.faces ≡ x → is_some x ≡ true → (o : OpenFace) × (at face s.core.faces ≡ Some o)
      by None e h = absurd (true≢false (sym h))
      by (Some o) e h = (o, e)

  module _ (face : FaceId) (r : Response) (h : is_accepted (step s (call.Response face r)).outcome ≡ true) where
    abbrev t : Step
    t = step s (call.Response face r)

    pub p : HandsReply s face r t
    p = (call_promise config past (call.Response face r)).replies h

    seen : (o : OpenFace) × (at face.0 s.core.faces ≡ Some o)
    seen = some_at face.0 (not_closed (is_open face.0 s.core) (none_hold (causes s.core (read s (call.Response face r))) (none_refuses config past (call.Response face r) h)).0)

    says_same : reply_says past face r ≡ said_by_reply face r s
    says_same =
        let f = open_face config past run face.0 seen.0 seen.1 in
        ap (λ x. option_map_or (λ (g : Face). said_of g.numbers (reply_by g.space r)) x said_word.Unscoped) f.1
        ∙ (λ j. said_of (f.2.numbers j) (reply_by (f.2.space j) r))
        ∙ ap (λ n. said_of n (reply_by (space_of (gate_at face.0 s.gates)) r)) (numbers_here config past run face.0 seen.0 seen.1)

    abbrev text : List ℕ
    text = full_text (said_by_reply face r s)

    abbrev sent : ReplyTo → List Handed
    sent to = map (through [] s.gates) (write s.names (handed_replies text r to))

    abbrev with_number : Final → Option ℕ → ReplyTo
    with_number f o = record { number = f.number; asker = f.asker; id = f.id; qos = f.qos; reply = o }

    there : option_map (machine_reply s.core.queries) (owner config past face.0 r.rid) ≡ Some p.goes
    there = ap (option_map (machine_reply s.core.queries)) (sym (owner_alike config past run face.0 r.rid)) ∙ p.there

    -- by the asker, and whether it is open
    goes_by : (o : Option Final) → owner config past face.0 r.rid ≡ o → option_map (machine_reply s.core.queries) o ≡ Some p.goes
        → (map (shown past) (of_kind 1 t.handed) ≡ replies_of config past (call.Response face r)) × (p.goes.reply ≡ option_map (λ (f : Final). next_reply config past) (option_and_then (if_open past) o))
    goes_by None e at' = absurd (let gap : None ≡ Some p.goes = at' in cc)
    goes_by (Some f) e at' = by (is_closed past f.asker.0) refl
      where
        goes : machine_reply s.core.queries f ≡ p.goes
        goes = let it : Some (machine_reply s.core.queries f) ≡ Some p.goes = at' in cc

        closed : counts_closed s.core.queries.closed f.asker.0 ≡ is_closed past f.asker.0
        closed = closed_alike config past run f.asker.0

        told_so : (b : Bool) → is_closed past f.asker.0 ≡ b → with_number f (if b then None else Some s.core.queries.replies) ≡ p.goes
        told_so b g = ap (λ x. with_number f (if x then None else Some s.core.queries.replies)) (sym (closed ∙ g)) ∙ goes

        handed : (b : Bool) → is_closed past f.asker.0 ≡ b → t.handed ≡ sent (with_number f (if b then None else Some s.core.queries.replies))
        handed b g = p.handed ∙ ap sent (sym (told_so b g))

        wanted : (b : Bool) → is_closed past f.asker.0 ≡ b
            → replies_of config past (call.Response face r) ≡ option_map_or (λ g. reply_to g (next_reply config past) (record r { wire = plain (full_text (reply_says past face r)) }) ∷ []) (if b then None else Some f) []
        wanted b g =
            ap (λ x. option_map_or (λ y. reply_to y (next_reply config past) (record r { wire = plain (full_text (reply_says past face r)) }) ∷ []) (option_and_then (if_open past) x) []) e
            ∙ ap (λ x. option_map_or (λ y. reply_to y (next_reply config past) (record r { wire = plain (full_text (reply_says past face r)) }) ∷ []) (if x then None else Some f) []) g

        opens : (b : Bool) → is_closed past f.asker.0 ≡ b → option_map (λ (g : Final). next_reply config past) (if_open past f) ≡ option_map (λ (g : Final). next_reply config past) (if b then None else Some f)
        opens b g = ap (λ x. option_map (λ (y : Final). next_reply config past) (if x then None else Some f)) g

        by : (b : Bool) → is_closed past f.asker.0 ≡ b → (map (shown past) (of_kind 1 t.handed) ≡ replies_of config past (call.Response face r)) × (p.goes.reply ≡ option_map (λ (g : Final). next_reply config past) (if_open past f))
        by true g = (ap (λ l. map (shown past) (of_kind 1 l)) (handed true g) ∙ sym (wanted true g), ap (λ (x : ReplyTo). x.reply) (sym (told_so true g)) ∙ sym (opens true g))
        by false g =
            let number : s.core.queries.replies ≡ next_reply config past = (subst (λ l. AreCounted (next_reply config past) (machine_replies (record { outcome = t.outcome; handed = l }))) (handed false g) (replies_numbered config past run (call.Response face r))).0 in (
              ap (λ l. map (shown past) (of_kind 1 l)) (handed false g) ∙ (λ j. reply_to f (number j) (record r { wire = plain (full_text (sym says_same j)) }) ∷ []) ∙ sym (wanted false g),
              ap (λ (x : ReplyTo). x.reply) (sym (told_so false g)) ∙ ap Some number ∙ sym (opens false g),
            )

    pub response_shown : map (shown past) (of_kind 1 t.handed) ≡ replies_of config past (call.Response face r)
    response_shown = (goes_by (owner config past face.0 r.rid) refl there).0

    pub response_number : p.goes.reply ≡ option_map (λ (f : Final). next_reply config past) (option_and_then (if_open past) (owner config past face.0 r.rid))
    response_number = (goes_by (owner config past face.0 r.rid) refl there).1

  -- ---- a moment that has come
  module _ (now : ℕ) where
    abbrev q : QueryState
    q = s.core.queries

    abbrev out : List Timeout → List Handed
    out ts = map (through [] s.gates) (write s.names (handed_timeouts s.core.faces ts))

    out_more : (ts us : List Timeout) → out (ts ++ us) ≡ out ts ++ out us
    out_more [] us = refl
    out_more (x ∷ ts) us = by x.reply (out_more ts us)
      where
        by : (o : Option ℕ) → out (ts ++ us) ≡ out ts ++ out us
            → map (through [] s.gates) (write s.names (cons_option (option_map (timed_text s.core.faces x) o) [] ++ handed_timeouts s.core.faces (ts ++ us)))
            ≡ map (through [] s.gates) (write s.names (cons_option (option_map (timed_text s.core.faces x) o) [] ++ handed_timeouts s.core.faces ts)) ++ out us
        by None ih = ih
        by (Some k) ih = ap (λ l. map (through [] s.gates) (write s.names (timed_text s.core.faces x k ∷ [])) ++ l) ih

    numbers_more : (ts : List Timeout) (x : Timeout) → numbers_in (ts ++ x ∷ []) ≡ numbers_in ts + cond (is_some x.reply) 1 0
    numbers_more ts x =
        ap length (filter-append has_number_for ts (x ∷ [])) ∙ length-append (filter has_number_for ts) (filter has_number_for (x ∷ []))
        ∙ ap (λ k. numbers_in ts + k) (by (is_some x.reply))
      where
        by : (b : Bool) → length (cond b (x ∷ []) []) ≡ cond b 1 0
        by true = refl
        by false = refl

    abbrev open_one : Due → Option (Final × ℕ)
    open_one d = option_map (λ f. (f, d.2)) (option_and_then (if_open past) (request past d.1))

    pub zid_same : (face : ℕ) → zid_of face s.core.faces ≡ option_map (λ (f : Face). f.zid) (face_at past face)
    zid_same face = by (at face s.core.faces) refl
      where
        by : (o : Option OpenFace) → at face s.core.faces ≡ o → zid_of face s.core.faces ≡ option_map (λ (f : Face). f.zid) (face_at past face)
        by None gone = ap (option_map zid_in) gone ∙ sym (ap (option_map (λ (f : Face). f.zid)) (closed_face config past run face gone))
        by (Some o) seen =
            let f = open_face config past run face o seen in
            ap (option_map zid_in) seen ∙ ap Some (sym f.2.zid) ∙ sym (ap (option_map (λ (g : Face). g.zid)) f.1)

    -- one more
    module _ (d : Due) (ds : List Due) (ts : List Timeout) where
      abbrev k : ℕ
      k = q.replies + numbers_in ts

      abbrev rest : List (Final × ℕ)
      rest = filter_map open_one ds

      abbrev shown_with : List Timeout → List Shown
      shown_with us = map (shown past) (out (fold (with_timeout q) us ds))

      abbrev Follows : List Timeout → Type 0
      Follows us = shown_with us ≡ map (shown past) (out us) ++ error_replies past (q.replies + numbers_in us) rest

      abbrev wanted_with : Option (Final × ℕ) → List Shown
      wanted_with o = map (shown past) (out ts) ++ error_replies past k (cons_option o rest)

      abbrev timeout_by : Final → Bool → Timeout
      timeout_by f b = record { number = f.number; asker = f.asker; id = f.id; qos = f.qos; target = record { 0 = d.2 }; reply = if b then None else Some k }

      one_out : (f : Final) → map (shown past) (out (timeout_by f false ∷ [])) ≡ reply_to f k (late_reply past d.2) ∷ []
      one_out f = λ j. record { to = f.asker; number = Some f.number; reply = Some k; message = message.Response (record { rid = f.id; wire = plain []; qos = f.qos; payload = reply_body.Err (codes "Timeout"); responder = zid_same d.2 j }) } ∷ []

      by_open : (f : Final) (b : Bool) → Follows (ts ++ timeout_by f b ∷ []) → shown_with (ts ++ timeout_by f b ∷ []) ≡ wanted_with (option_map (λ g. (g, d.2)) (if b then None else Some f))
      by_open f true follows =
          let count : q.replies + numbers_in (ts ++ timeout_by f true ∷ []) ≡ k = (let m = numbers_more ts (timeout_by f true) in omega (arith, m)) in
          follows
          ∙ (λ j. map (shown past) (out_more ts (timeout_by f true ∷ []) j) ++ error_replies past (count j) rest)
          ∙ ap (λ l. map (shown past) l ++ error_replies past k rest) (append-nil (out ts))
      by_open f false follows =
          let count : q.replies + numbers_in (ts ++ timeout_by f false ∷ []) ≡ k + 1 = (let m = numbers_more ts (timeout_by f false) in omega (arith, m)) in
          follows
          ∙ (λ j. map (shown past) (out_more ts (timeout_by f false ∷ []) j) ++ error_replies past (count j) rest)
          ∙ ap (λ l. l ++ error_replies past (k + 1) rest) (map-append (shown past) (out ts) (out (timeout_by f false ∷ [])) ∙ ap (λ l. map (shown past) (out ts) ++ l) (one_out f))
          ∙ append_assoc (map (shown past) (out ts)) (reply_to f k (late_reply past d.2) ∷ []) (error_replies past (k + 1) rest)

      one_more : (o : Option Final) → ((x : Timeout) → Follows (ts ++ x ∷ [])) → Follows ts → shown_with (ts ++ cons_option (option_map (timed_out q k d) o) []) ≡ wanted_with (option_map (λ f. (f, d.2)) (option_and_then (if_open past) o))
      one_more None more same = ap shown_with (append-nil ts) ∙ same
      one_more (Some f) more same =
          ap (λ b. shown_with (ts ++ timeout_by f b ∷ [])) (closed_alike config past run f.asker.0)
          ∙ by_open f (is_closed past f.asker.0) (more (timeout_by f (is_closed past f.asker.0)))

    -- one after another
    all_shown : (ds : List Due) (ts : List Timeout) → AllByRecursion (IsKnown config past run now) ds
        → map (shown past) (out (fold (with_timeout q) ts ds)) ≡ map (shown past) (out ts) ++ error_replies past (q.replies + numbers_in ts) (filter_map open_one ds)
    all_shown [] ts all = sym (append-nil (map (shown past) (out ts)))
    all_shown (d ∷ ds) ts all =
        ap (λ o. map (shown past) (out (fold (with_timeout q) (ts ++ cons_option (option_map (timed_out q (q.replies + numbers_in ts) d) o) []) ds))) all.0
        ∙ one_more d ds ts (request past d.1) (λ x. all_shown ds (ts ++ x ∷ []) all.1) (all_shown ds ts all.1)

    -- how many there are
    out_long : (ts : List Timeout) → length (out ts) ≡ numbers_in ts
    out_long [] = refl
    out_long (x ∷ ts) = by x.reply (out_long ts)
      where
        by : (o : Option ℕ) → length (out ts) ≡ numbers_in ts
            → length (map (through [] s.gates) (write s.names (cons_option (option_map (timed_text s.core.faces x) o) [] ++ handed_timeouts s.core.faces ts))) ≡ length (cond (is_some o) (x ∷ filter has_number_for ts) (filter has_number_for ts))
        by None ih = ih
        by (Some n) ih = omega (arith, ih)

    errors_long : (n : ℕ) (xs : List (Final × ℕ)) → length (error_replies past n xs) ≡ length xs
    errors_long n [] = refl
    errors_long n (x ∷ xs) = let more = errors_long (n + 1) xs in omega (arith, more)

    pub late_count : length (timed_out_now config past now) ≡ numbers_in (timeouts now q)
    late_count =
        ap (λ ds. length (filter_map open_one ds)) (late_alike config past run now)
        ∙ sym (errors_long (q.replies + 0) (filter_map open_one (dues_at now q.records)))
        ∙ ap length (sym (all_shown (dues_at now q.records) [] (dues_known config past run now)))
        ∙ length-map (out (timeouts now q)) (shown past)
        ∙ out_long (timeouts now q)

    -- the first of them has the next number
    first_number : (xs : List (Final × ℕ)) → AreCounted (next_reply config past) (filter_map (λ (x : Shown). x.reply) (error_replies past q.replies xs)) → error_replies past q.replies xs ≡ error_replies past (next_reply config past) xs
    first_number [] are = refl
    first_number (x ∷ xs) are = ap (λ n. error_replies past n (x ∷ xs)) are.0

    module _ (h : is_accepted (step s (call.Poll now)).outcome ≡ true) where
      abbrev u : Step
      u = step s (call.Poll now)

      handed_is : u.handed ≡ out (timeouts now q) ++ map sent_final (passing_finals now q)
      handed_is = (call_promise config past (call.Poll now)).replies h

      only : of_kind 1 u.handed ≡ out (timeouts now q)
      only =
          ap (of_kind 1) handed_is
          ∙ filter-append (λ (x : Handed). kind x.message == 1) (out (timeouts now q)) (map sent_final (passing_finals now q))
          ∙ (λ j. its_kind 1 (out (timeouts now q)) (replies_kind s.names s.gates s.core.faces (timeouts now q)) j ++ other_kind 2 1 (map sent_final (passing_finals now q)) (λ e. absurd (let x : 2 ≡ 1 = e in omega (arith, x))) (finals_kind (passing_finals now q)) j)
          ∙ append-nil (out (timeouts now q))

      listed : map (shown past) (out (timeouts now q)) ≡ error_replies past q.replies (timed_out_now config past now)
      listed =
          all_shown (dues_at now q.records) [] (dues_known config past run now)
          ∙ ap (λ n. error_replies past n (filter_map open_one (dues_at now q.records))) (let e : q.replies + 0 ≡ q.replies = omega arith in e)
          ∙ ap (λ ds. error_replies past q.replies (filter_map open_one ds)) (sym (late_alike config past run now))

      numbers_of : (hs : List Handed) → filter_map (λ (x : Handed). x.reply) hs ≡ filter_map (λ (x : Shown). x.reply) (map (shown past) hs)
      numbers_of [] = refl
      numbers_of (x ∷ hs) = ap (cons_option x.reply) (numbers_of hs)

      none_final : (fs : List Final) → filter_map (λ (x : Handed). x.reply) (map sent_final fs) ≡ []
      none_final [] = refl
      none_final (f ∷ fs) = none_final fs

      numbers_handed : machine_replies u ≡ filter_map (λ (x : Shown). x.reply) (error_replies past q.replies (timed_out_now config past now))
      numbers_handed =
          ap (filter_map (λ (x : Handed). x.reply)) handed_is
          ∙ filter_map-append (λ (x : Handed). x.reply) (out (timeouts now q)) (map sent_final (passing_finals now q))
          ∙ ap (λ l. filter_map (λ (x : Handed). x.reply) (out (timeouts now q)) ++ l) (none_final (passing_finals now q))
          ∙ append-nil (filter_map (λ (x : Handed). x.reply) (out (timeouts now q)))
          ∙ numbers_of (out (timeouts now q)) ∙ ap (filter_map (λ (x : Shown). x.reply)) listed

      pub poll_shown : map (shown past) (of_kind 1 u.handed) ≡ replies_of config past (call.Poll now)
      poll_shown = ap (map (shown past)) only ∙ listed ∙ first_number (timed_out_now config past now) (subst (AreCounted (next_reply config past)) numbers_handed (replies_numbered config past run (call.Poll now)))

  -- ---- all of them
  none_handed : (c : Call) → list_any replies_to (step s c).handed ≡ false → map (shown past) (of_kind 1 (step s c).handed) ≡ if_accepted (step s c) []
  none_handed c none = ap (map (shown past)) (none_of_kind 1 (step s c).handed (sym (any_reply (step s c).handed) ∙ none)) ∙ sym (none_if (step s c))

  none_refused : (c : Call) → is_accepted (step s c).outcome ≡ false → map (shown past) (of_kind 1 (step s c).handed) ≡ []
  none_refused c h = ap (λ l. map (shown past) (of_kind 1 l)) (nothing_handed s c (call_promise config past c) h)

  pub replies_shown : (c : Call) → map (shown past) (of_kind 1 (step s c).handed) ≡ if_accepted (step s c) (replies_of config past c)
  replies_shown (call.Response face r) = by (is_accepted (step s (call.Response face r)).outcome) refl
    where
      by : (b : Bool) → is_accepted (step s (call.Response face r)).outcome ≡ b → map (shown past) (of_kind 1 (step s (call.Response face r)).handed) ≡ cond b (replies_of config past (call.Response face r)) []
      by true h = response_shown face r h
      by false h = none_refused (call.Response face r) h
  replies_shown (call.Poll now) = by (is_accepted (step s (call.Poll now)).outcome) refl
    where
      by : (b : Bool) → is_accepted (step s (call.Poll now)).outcome ≡ b → map (shown past) (of_kind 1 (step s (call.Poll now)).handed) ≡ cond b (replies_of config past (call.Poll now)) []
      by true h = poll_shown now h
      by false h = none_refused (call.Poll now) h
  replies_shown c = none_handed c (call_promise config past c).replies
