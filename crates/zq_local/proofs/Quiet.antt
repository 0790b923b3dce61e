-- Calls of a gateway without gates that tell nothing: what they hand, and what they leave.
use Rattle.std.proofs.Common.{◌≡◌, ◌∙◌, refl, ap, ℕ, ◌+◌, ◌%◌, ◌^◌, Bool, true, false, cond, not, List, [], ◌∷◌, ◌++◌, map, Some, None, append-nil, eq-eqb}
use Rattle.std.specs.Prelude.{◌==◌, ◌&&◌, ◌||◌}
use Rattle.std.specs.List.{filter, list_any}
use Rattle.std.specs.Option.{is_some, option_map}
use Rattle.std.proofs.Math.Bool.{and-false}
use Rattle.std.proofs.lemmas.Bool.{false≢true}
use Rattle.zq_message.specs.declared.message.FaceId.{FaceId}
use Rattle.zq_message.specs.declared.message.QueryTarget.{QueryTarget}
use Rattle.zq_message.specs.declared.message.Request.{Request}
use Rattle.zq_message.specs.declared.message.Response.{Response}
use Rattle.zq_message.specs.declared.message.ReplyBody.TheVariants as body
use Rattle.zq_key.specs.Key.{is_chunk, is_key}
use Rattle.zq_query.specs.declared.records.ReplyTo.{ReplyTo}
use Rattle.zq_query.specs.Asking.{after_ask, is_full}
use Rattle.zq_query.specs.Closing.{has_open_asker}
use Rattle.zq_query.specs.Records.{Pending, QueryState, Record, final_of, is_entry, is_left, is_none_left, is_over, last_given, needs_number, next_reply, reply_to}
use Rattle.zq_query.proofs.Ids.{stops}
use Rattle.zq_tables.specs.declared.resolved.Resolved.{Resolved}
use Rattle.zq_tables.specs.declared.resolved.Resolved.TheVariants as said
use Rattle.zq_tables.specs.Naming.{NamingState, plain, said_plainly}
use Rattle.zq_machine.specs.declared.call.Call.TheVariants as call
use Rattle.zq_machine.specs.Deciding.{Cause, after_replied, causes, deadline, first_of, handed_requests, messages_of, refusal_of, regated, replied, targets, told_of, with_queries}
use Rattle.zq_machine.specs.Gates.{through}
use Rattle.zq_machine.specs.Handing.{Handed}
use Rattle.zq_machine.specs.Machine.{accepted_state, after, answer, asked_text, settle, step}
use Rattle.zq_machine.specs.Messages.{TextMessage, text_final, text_reply, text_request}
use Rattle.zq_machine.specs.Selecting.{select}
use Rattle.zq_machine.specs.State.{Core, State, is_open}
use Rattle.zq_machine.specs.TextCalls.{TextCall, allowed, asked_said, asking, ending, replying, reporting, said_by_reply}
use Rattle.zq_machine.specs.Writing.{finish, sent_final, sent_reply, unsent, write, written}
use Rattle.zq_machine.proofs.Granted.{AllPassed}
use Rattle.zq_machine.proofs.Ungated.{plain_goes, plain_leaves}
use Rattle.zq_machine.proofs.Writing.{let_go}

-- no cause holds
pub none_of : (cs : List Cause) → AllPassed cs → first_of cs ≡ None
none_of [] all = refl
none_of (c ∷ cs) all = ap (λ b. cond b (Some c.1) (first_of cs)) all.0 ∙ none_of cs all.1

-- ---- without gates all leaves
module _ (names : NamingState) where
  all_through : (text : List ℕ) (ms : List TextMessage) → map (through text []) (write names ms) ≡ write names ms
  all_through text [] = refl
  all_through text (text_request r ∷ ms) = ap (λ l. written names (text_request r) ∷ l) (all_through text ms)
  all_through text (text_reply r ∷ ms) = ap (λ l. written names (text_reply r) ∷ l) (all_through text ms)
  all_through text (text_final f ∷ ms) = ap (λ l. written names (text_final f) ∷ l) (all_through text ms)

  all_sent : (ms : List TextMessage) → unsent (write names ms) ≡ []
  all_sent [] = refl
  all_sent (text_request r ∷ ms) = all_sent ms
  all_sent (text_reply r ∷ ms) = all_sent ms
  all_sent (text_final f ∷ ms) = all_sent ms

module _ (s : State) (t : TextCall) (none : told_of s.core t ≡ []) (ungated : regated s t ≡ []) (fits : refusal_of s.core t ≡ None) where
  abbrev out : List Handed
  out = map (through (asked_text t) (regated s t)) (write s.names (messages_of s.core t))

  whole : out ≡ write s.names (messages_of s.core t)
  whole = (λ j. map (through (asked_text t) (ungated j)) (write s.names (messages_of s.core t))) ∙ all_through s.names (asked_text t) (messages_of s.core t)

  none_left : unsent out ≡ []
  none_left = ap unsent whole ∙ all_sent s.names (messages_of s.core t)

  pub answers : (answer s t).handed ≡ write s.names (messages_of s.core t)
  answers =
      (λ j. (plain_goes s t none fits j).handed)
      ∙ (λ j. whole j ++ map sent_final (finish (accepted_state s t).core (none_left j)).finals)
      ∙ append-nil (write s.names (messages_of s.core t))

  pub settles : settle s t ≡ accepted_state s t
  settles = plain_leaves s t none fits ∙ (λ j. let_go (none_left j) (accepted_state s t))

-- ---- a key by itself says itself
pub says_itself : (key : List ℕ) → is_key key ≡ true → said_plainly key ≡ said.Full key
unfolding is_key is_chunk
says_itself [] h = absurd (false≢true h)
says_itself (b ∷ t) h = refl

-- ---- states that differ in their queries
module _ (core : Core) (names : NamingState) where
  abbrev pub with_all : QueryState → State
  with_all q = record { core = with_queries core q; names = names; gates = [] }

  -- ---- a request
  module _ (asker : FaceId) (key : List ℕ) (target : QueryTarget) (now : ℕ) (is : is_key key ≡ true) (there : is_open asker.0 core ≡ true)
      (last_ids : List (ℕ × ℕ)) (requests replies request_ids : ℕ) (fits : (requests + 1 == 2 ^ 64) ≡ false) where
    abbrev asked : Request
    asked = record { id = 0; wire = plain key; target = target; timeout = None; node = 0; qos = 0; payload = [] }

    abbrev none_open : QueryState
    none_open = record { records = []; last_ids = last_ids; closed = []; requests = requests; replies = replies; request_ids = request_ids }

    none_full : (ts : List FaceId) → list_any (is_full none_open) ts ≡ false
    none_full [] = refl
    none_full (f ∷ ts) =
        ap (λ o. not (is_some o) || list_any (is_full none_open) ts) (stops f.0 [] (last_given none_open f.0) ((last_given none_open f.0 + 1) % 2 ^ 32) (2 ^ 32) 4294967295 refl refl refl)
        ∙ none_full ts

    asks_itself : asked_said asker asked (with_all none_open) ≡ said.Full key
    asks_itself =
        ap (λ (sd : Resolved). allowed [] sd) (says_itself key is)
        ∙ ap (λ c. cond c said.Empty (said.Full key)) (and-false (is_key key))

    ask_fits : refusal_of (with_queries core none_open) (asking asker (said.Full key) asked now) ≡ None
    ask_fits =
        none_of (causes (with_queries core none_open) (asking asker (said.Full key) asked now))
        (ap not there, ((λ j. fits j || none_full (targets core asker (said.Full key) asked) j), tt))

    pub ask_hands : (step (with_all none_open) (call.Request asker asked now)).handed ≡ write names (handed_requests none_open asker key asked (select core asker (said.Full key) asked))
    ask_hands =
        ap (λ sd. (answer (with_all none_open) (asking asker sd asked now)).handed) asks_itself
        ∙ answers (with_all none_open) (asking asker (said.Full key) asked now) refl refl ask_fits

    pub ask_leaves : after (with_all none_open) (call.Request asker asked now) ≡ with_all (after_ask asker 0 0 (targets core asker (said.Full key) asked) (deadline core None now) none_open)
    ask_leaves =
        ap (λ sd. settle (with_all none_open) (asking asker sd asked now)) asks_itself
        ∙ settles (with_all none_open) (asking asker (said.Full key) asked now) refl refl ask_fits

  -- ---- what is open is one request
  module _ (number : ℕ) (asker : FaceId) (id qos : ℕ) (last_ids : List (ℕ × ℕ)) (requests request_ids : ℕ) where
    abbrev pub one : List Pending → List ℕ → Record
    one pending flying = record { number = number; asker = asker; id = id; qos = qos; pending = pending; in_flight = flying }

    abbrev pub one_open : List Record → ℕ → QueryState
    one_open records replies = record { records = records; last_ids = last_ids; closed = []; requests = requests; replies = replies; request_ids = request_ids }

    -- ---- a reply, and the report that it was sent
    module _ (pending : List Pending) (face : FaceId) (rid : ℕ) (there : is_open face.0 core ≡ true) (owed : list_any (is_entry face.0 rid) pending ≡ true) (replies : ℕ) where
      module _ (key value : List ℕ) (is : is_key key ≡ true) (fits : (replies + 1 == 2 ^ 64) ≡ false) where
        abbrev response : Response
        response = record { rid = rid; wire = plain key; qos = 0; payload = body.Reply value; responder = None }

        abbrev before : QueryState
        before = one_open (one pending [] ∷ []) replies

        abbrev to : ReplyTo
        to = record { number = number; asker = asker; id = id; qos = qos; reply = Some replies }

        goes_to : next_reply face.0 rid before ≡ Some to
        goes_to = ap (λ b. option_map (reply_to before) (option_map final_of (cond b (Some (one pending [])) None))) owed

        replies_itself : said_by_reply face response (with_all before) ≡ said.Full key
        replies_itself = says_itself key is

        reply_fits : refusal_of (with_queries core before) (replying face (said.Full key) response) ≡ None
        reply_fits =
            none_of (causes (with_queries core before) (replying face (said.Full key) response))
            (ap not there, (refl, (ap (λ b. not (b || false)) owed, (ap not is, (ap (λ b. needs_number face.0 rid before && b) fits ∙ and-false _, tt)))))

        pub reply_hands : (step (with_all before) (call.Response face response)).handed
            ≡ sent_reply (record { to = asker; number = number; reply = replies; id = id; text = key; qos = qos; payload = body.Reply value; responder = None }) ∷ []
        reply_hands =
            ap (λ sd. (answer (with_all before) (replying face sd response)).handed) replies_itself
            ∙ answers (with_all before) (replying face (said.Full key) response) refl refl reply_fits
            ∙ ap (λ o. write names (replied key response o)) goes_to

        pub reply_leaves : after (with_all before) (call.Response face response) ≡ with_all (one_open (one pending (replies ∷ []) ∷ []) (replies + 1))
        reply_leaves =
            ap (λ sd. settle (with_all before) (replying face sd response)) replies_itself
            ∙ settles (with_all before) (replying face (said.Full key) response) refl refl reply_fits
            ∙ ap (λ o. with_all (after_replied o before)) goes_to
            ∙ ap (λ b. with_all (one_open (cond b (one pending (replies ∷ [])) (one pending []) ∷ []) (replies + 1))) (eq-eqb number number refl)

      abbrev flying : QueryState
      flying = one_open (one pending (replies ∷ []) ∷ []) (replies + 1)

      still_owed : (p : List Pending) → list_any (is_entry face.0 rid) p ≡ true → is_none_left p ≡ false
      still_owed [] h = absurd (false≢true h)
      still_owed (e ∷ p) h = refl

      sent_fits : refusal_of (with_queries core flying) (reporting replies) ≡ None
      sent_fits = none_of (causes (with_queries core flying) (reporting replies)) (ap (λ b. not ((b || false) || false)) (eq-eqb replies replies refl), tt)

      abbrev left_flying : Bool → List ℕ
      left_flying b = cond (not b) (replies ∷ []) []

      pub sent_hands : (step (with_all flying) (call.Sent replies)).handed ≡ []
      sent_hands =
          answers (with_all flying) (reporting replies) refl refl sent_fits
          ∙ (λ j. write names (map text_final (filter (has_open_asker []) (map final_of (filter is_over (one pending (left_flying (eq-eqb replies replies refl j)) ∷ []))))))
          ∙ ap (λ b. write names (map text_final (filter (has_open_asker []) (map final_of (cond (b && true) (one pending [] ∷ []) []))))) (still_owed pending owed)

      pub sent_leaves : after (with_all flying) (call.Sent replies) ≡ with_all (one_open (one pending [] ∷ []) (replies + 1))
      sent_leaves =
          settles (with_all flying) (reporting replies) refl refl sent_fits
          ∙ (λ j. with_all (one_open (filter is_left (one pending (left_flying (eq-eqb replies replies refl j)) ∷ [])) (replies + 1)))
          ∙ ap (λ b. with_all (one_open (cond (not (b && true)) (one pending [] ∷ []) []) (replies + 1))) (still_owed pending owed)

      -- ---- the end of a storage
      abbrev less : List Pending
      less = filter (λ e. not (is_entry face.0 rid e)) pending

      end_fits : refusal_of (with_queries core (one_open (one pending [] ∷ []) replies)) (ending face rid) ≡ None
      end_fits = none_of (causes (with_queries core (one_open (one pending [] ∷ []) replies)) (ending face rid)) (ap not there, (ap (λ b. not (b || false)) owed, tt))

      module _ (more : is_none_left less ≡ false) where
        pub end_hands : (step (with_all (one_open (one pending [] ∷ []) replies)) (call.ResponseFinal face rid)).handed ≡ []
        end_hands =
            answers (with_all (one_open (one pending [] ∷ []) replies)) (ending face rid) refl refl end_fits
            ∙ ap (λ b. write names (map text_final (filter (has_open_asker []) (map final_of (cond (b && true) (one less [] ∷ []) []))))) more

        pub end_leaves : after (with_all (one_open (one pending [] ∷ []) replies)) (call.ResponseFinal face rid) ≡ with_all (one_open (one less [] ∷ []) replies)
        end_leaves =
            settles (with_all (one_open (one pending [] ∷ []) replies)) (ending face rid) refl refl end_fits
            ∙ ap (λ b. with_all (one_open (cond (not (b && true)) (one less [] ∷ []) []) replies)) more

      module _ (last : less ≡ []) where
        pub last_hands : (step (with_all (one_open (one pending [] ∷ []) replies)) (call.ResponseFinal face rid)).handed ≡ sent_final (record { number = number; asker = asker; id = id; qos = qos }) ∷ []
        last_hands =
            answers (with_all (one_open (one pending [] ∷ []) replies)) (ending face rid) refl refl end_fits
            ∙ ap (λ l. write names (map text_final (filter (has_open_asker []) (map final_of (filter is_over (one l [] ∷ [])))))) last

        pub last_leaves : after (with_all (one_open (one pending [] ∷ []) replies)) (call.ResponseFinal face rid) ≡ with_all (one_open [] replies)
        last_leaves =
            settles (with_all (one_open (one pending [] ∷ []) replies)) (ending face rid) refl refl end_fits
            ∙ ap (λ l. with_all (one_open (filter is_left (one l [] ∷ [])) replies)) last
