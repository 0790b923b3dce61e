-- A get of a bus is answered by the storages that its target picks, and leaves nothing open; and what is kept of a bus stays.
use Rattle.std.proofs.Common.{◌≡◌, ◌∙◌, refl, sym, ap, subst, ℕ, ◌+◌, ◌<◌, ◌^◌, true, false, List, [], ◌∷◌, ◌++◌, map, None, length, arith, eq-eqb}
use Rattle.std.specs.Prelude.{◌==◌, ◌||◌}
use Rattle.std.specs.List.{AllByRecursion, list_all, list_any}
use Rattle.zq_key.specs.Key.{is_key}
use Rattle.zq_message.specs.declared.message.QueryTarget.{QueryTarget}
use Rattle.zq_message.specs.declared.message.Request.{Request}
use Rattle.zq_query.specs.Asking.{after_ask, asking_at, given_id, giving}
use Rattle.zq_query.specs.Records.{Pending, QueryState, is_entry}
use Rattle.zq_machine.specs.declared.call.Call.{Call}
use Rattle.zq_machine.specs.Deciding.{deadline, handed_request, handed_requests}
use Rattle.zq_machine.specs.Machine.{after, state_after, step, steps_from}
use Rattle.zq_machine.specs.Selecting.{target_of}
use Rattle.zq_machine.specs.State.{State, is_open}
use Rattle.zq_machine.specs.Writing.{sent_final, write}
use Rattle.zq_machine.proofs.Lists.{all_weaker}
use Rattle.zq_local.specs.Picking.{Seat, picked}
use Rattle.zq_local.specs.Seated.{IsSeated}
use Rattle.zq_local.proofs.Asked.{all_asked, all_of_asked, asked, entries_of, get_hands, get_leaves, is_its, picks_open, queries_first, targets_mapped}
use Rattle.zq_local.proofs.Lists.{Pairwise, all_back, all_both, pairs_back}
use Rattle.zq_local.proofs.Picked.{above_all, not_same, offer}
use Rattle.zq_local.proofs.Quiet.{with_all}
use Rattle.zq_local.proofs.Running.{AreOf, IsApart, IsAsked, settled, waiting}
use Rattle.zq_local.proofs.Selected.{all_picked, picked_apart}
use Rattle.zq_store.specs.Stores.{count_all, holds_own, numbered}
use Rattle.zq_store.specs.Bus.{BusState, IsServed}
use Rattle.zq_store.specs.Getting.{after_get, answers_of, ask_call, end_call, get_answers, get_asks, get_calls, got_of, got_reply, handed_over, reply_calls}
use Rattle.zq_store.specs.Answered.{IsAnswered, final_message, messages_to, reply_message}
use Rattle.zq_store.specs.Seats.{seats}
use Rattle.zq_store.specs.declared.answers.Answer.{Answer}
use Rattle.zq_store.proofs.Numbering.{IsPlaced}
use Rattle.zq_store.proofs.Getting.{Fits, answers_fit, ask_face, ask_id, none_in, one_to, others_asked, run_hands, run_leaves, to_join}
use Rattle.zq_store.proofs.Replying.{ask_at, get_asks_are, get_replies_are, placed_picks}
use Rattle.zq_store.proofs.Totals.{all_counted, answers_count, pairs_of, picked_less}

module _ (b : BusState) (served : IsServed b) (nums : numbered (b.asker.0 + 1) b.stores ≡ true) (held : list_all holds_own b.stores ≡ true)
    (key : List ℕ) (is : is_key key ≡ true) (t : QueryTarget) (now : ℕ) (fits : (b.next_request + 1 == 2 ^ 64) ≡ false) (room : b.next_reply + count_all key b.stores < 2 ^ 64) where
  abbrev ss : List Seat
  ss = seats b.stores

  abbrev q : QueryState
  q = queries_first b.asker.0 ss b.next_request b.next_reply b.gateway served

  abbrev r : Request
  r = asked b.asker.0 ss b.next_request b.next_reply b.gateway served key is t now fits

  abbrev chosen : List Seat
  chosen = picked key t ss

  abbrev d : ℕ
  d = deadline b.gateway.core None now

  -- ---- the answers have numbers
  no_more : (xs : List Answer) → xs ≡ answers_of b.stores key (map (ask_at q) chosen) → b.next_reply + length xs < 2 ^ 64
  no_more xs e =
      let long : length xs ≡ length (answers_of b.stores key (map (ask_at q) chosen)) = ap length e in
      let count = answers_count b.stores key q chosen in
      let less = picked_less (pairs_of b.stores key) key t ss in
      let all = all_counted b.stores key in
      omega (arith, long, count, less, all, room)

  answers_are : get_answers b key t now ≡ answers_of b.stores key (map (ask_at q) chosen)
  answers_are = ap (answers_of b.stores key) (get_asks_are b served nums held key is t now fits)

  pub room_for_all : b.next_reply + length (get_answers b key t now) < 2 ^ 64
  room_for_all = no_more (get_answers b key t now) answers_are

  -- ---- the state after the request
  others : AllByRecursion (λ (s : Seat). (s.face.0 == b.asker.0) ≡ false) chosen
  others =
      all_picked (λ (s : Seat). (s.face.0 == b.asker.0) ≡ false) key t ss
      (all_weaker (λ (s : Seat). b.asker.0 < s.face.0) (λ (s : Seat). (s.face.0 == b.asker.0) ≡ false) (λ s less. not_same b.asker.0 s.face.0 less) ss (above_all b.asker.0 (b.asker.0 + 1) (omega arith) ss served.numbered))

  abbrev pending : List Seat → List Pending
  pending xs = entries_of q d xs

  abbrev given : List Seat → List (ℕ × ℕ)
  given xs = giving b.gateway.core.queries.last_ids (map (λ (s : Seat). (s.face.0, given_id q s.face)) xs)

  abbrev one_waits : List Seat → ℕ → State
  one_waits xs n = waiting b.gateway.core b.gateway.names b.next_request b.asker 0 0 (given xs) (b.next_request + 1) b.gateway.core.queries.request_ids (pending xs) n

  abbrev none_waits : List Seat → ℕ → State
  none_waits xs n = settled b.gateway.core b.gateway.names b.next_request b.asker 0 0 (given xs) (b.next_request + 1) b.gateway.core.queries.request_ids n

  asked_state : (xs : List Seat) → chosen ≡ xs → after b.gateway (ask_call b.asker key t now) ≡ with_all b.gateway.core b.gateway.names (asking_at b.asker 0 0 (map (λ (s : Seat). (s.face.0, given_id q s.face)) xs) d q)
  asked_state xs e =
      get_leaves b.asker.0 ss b.next_request b.next_reply b.gateway served key is t now fits
      ∙ ap (λ l. with_all b.gateway.core b.gateway.names (after_ask b.asker 0 0 (map target_of (map (offer key) l)) d q)) e
      ∙ ap (λ l. with_all b.gateway.core b.gateway.names (asking_at b.asker 0 0 l d q)) (targets_mapped key q xs)

  -- ---- with nothing picked the final comes at once
  module _ (e : chosen ≡ []) where
    no_asks : get_asks b key t now ≡ []
    no_asks = get_asks_are b served nums held key is t now fits ∙ ap (map (ask_at q)) e

    no_answers : get_answers b key t now ≡ []
    no_answers = ap (answers_of b.stores key) no_asks

    no_calls : get_calls b key t now ≡ ask_call b.asker key t now ∷ []
    no_calls = λ j. ask_call b.asker key t now ∷ (reply_calls b.next_reply (no_answers j) ++ map end_call (no_asks j))

    final_first : (step b.gateway (ask_call b.asker key t now)).handed ≡ sent_final (record { number = b.next_request; asker = b.asker; id = 0; qos = 0 }) ∷ []
    final_first =
        get_hands b.asker.0 ss b.next_request b.next_reply b.gateway served key is t now fits
        ∙ ap (λ l. write b.gateway.names (handed_requests q b.asker key r (map (offer key) l))) e

    none_hands : messages_to b.asker (handed_over (steps_from b.gateway (get_calls b key t now))) ≡ map reply_message (map got_reply (get_answers b key t now)) ++ final_message ∷ []
    none_hands =
        ap (λ cs. messages_to b.asker (handed_over (steps_from b.gateway cs))) no_calls
        ∙ ap (λ hs. messages_to b.asker (hs ++ [])) final_first
        ∙ one_to b.asker (sent_final (record { number = b.next_request; asker = b.asker; id = 0; qos = 0 })) [] (eq-eqb b.asker.0 b.asker.0 refl)
        ∙ ap (λ l. map reply_message (map got_reply l) ++ final_message ∷ []) (sym no_answers)

    none_leaves : state_after b.gateway (get_calls b key t now) ≡ none_waits [] (b.next_reply + length (get_answers b key t now))
    none_leaves =
        ap (state_after b.gateway) no_calls
        ∙ asked_state [] e
        ∙ ap (none_waits []) (let long : length (get_answers b key t now) ≡ 0 = ap length no_answers in omega (arith, long))

  -- ---- some are picked
  module _ (x : Seat) (xs : List Seat) (e : chosen ≡ x ∷ xs) where
    asks : get_asks b key t now ≡ map (ask_at q) (x ∷ xs)
    asks = get_asks_are b served nums held key is t now fits ∙ ap (map (ask_at q)) e

    abbrev answers : List Answer
    answers = answers_of b.stores key (map (ask_at q) (x ∷ xs))

    some_answers : get_answers b key t now ≡ answers
    some_answers = ap (answers_of b.stores key) asks

    fits_all : b.next_reply + length answers < 2 ^ 64
    fits_all = no_more answers (ap (λ l. answers_of b.stores key (map (ask_at q) l)) (sym e))

    opens : AllByRecursion (λ (s : Seat). is_open s.face.0 b.gateway.core ≡ true) (x ∷ xs)
    opens = subst (AllByRecursion (λ (s : Seat). is_open s.face.0 b.gateway.core ≡ true)) e (picks_open b.asker.0 ss b.next_request b.next_reply b.gateway served key is t now fits)

    owed : AllByRecursion (λ s. list_any (is_its q d s) (pending (x ∷ xs)) ≡ true) (x ∷ xs)
    owed = all_asked q d (x ∷ xs)

    placed : AllByRecursion (IsPlaced (b.asker.0 + 1) b.stores) (x ∷ xs)
    placed = subst (AllByRecursion (IsPlaced (b.asker.0 + 1) b.stores)) e (placed_picks b served nums held key is t now fits)

    ready : AllByRecursion (λ (s : Seat). (is_open s.face.0 b.gateway.core ≡ true) × (list_any (is_its q d s) (pending (x ∷ xs)) ≡ true)) (x ∷ xs)
    ready = all_both (λ (s : Seat). is_open s.face.0 b.gateway.core ≡ true) (λ s. list_any (is_its q d s) (pending (x ∷ xs)) ≡ true) _ (λ s o w. (o, w)) (x ∷ xs) opens owed

    fit : AllByRecursion (Fits b.gateway.core b.gateway.names b.next_request b.asker (given (x ∷ xs)) (b.next_request + 1) b.gateway.core.queries.request_ids (pending (x ∷ xs))) answers
    fit =
        answers_fit b.gateway.core b.gateway.names b.next_request b.asker (given (x ∷ xs)) (b.next_request + 1) b.gateway.core.queries.request_ids (pending (x ∷ xs)) (b.asker.0 + 1) b.stores key q (x ∷ xs)
        (all_both (IsPlaced (b.asker.0 + 1) b.stores) (λ (s : Seat). (is_open s.face.0 b.gateway.core ≡ true) × (list_any (is_its q d s) (pending (x ∷ xs)) ≡ true)) _ (λ s p w. (p, w.0, w.1)) (x ∷ xs) placed ready)

    abbrev n : ℕ
    n = b.next_reply + length answers

    asked_all : AllByRecursion (IsAsked b.gateway.core b.gateway.names b.next_request b.asker 0 0 (given (x ∷ xs)) (b.next_request + 1) b.gateway.core.queries.request_ids ask_face ask_id n (pending (x ∷ xs))) (map (ask_at q) (x ∷ xs))
    asked_all = all_back _ (ask_at q) (x ∷ xs) ready

    apart : Pairwise (IsApart b.gateway.core b.gateway.names b.next_request b.asker 0 0 (given (x ∷ xs)) (b.next_request + 1) b.gateway.core.queries.request_ids ask_face ask_id n) (map (ask_at q) (x ∷ xs))
    apart = pairs_back _ (ask_at q) (x ∷ xs) (subst (Pairwise (λ (s u : Seat). (u.face.0 == s.face.0) ≡ false)) e (picked_apart (b.asker.0 + 1) key t ss served.numbered))

    any_back : (p : Pending) (l : List Seat) → list_any (λ s. is_its q d s p) l ≡ list_any (λ a. is_entry (ask_face a).0 (ask_id a) p) (map (ask_at q) l)
    any_back p [] = refl
    any_back p (s ∷ l) = ap (λ c. is_its q d s p || c) (any_back p l)

    of_all : AreOf b.gateway.core b.gateway.names b.next_request b.asker 0 0 (given (x ∷ xs)) (b.next_request + 1) b.gateway.core.queries.request_ids ask_face ask_id n (map (ask_at q) (x ∷ xs)) (pending (x ∷ xs))
    of_all = all_weaker (λ (p : Pending). list_any (λ s. is_its q d s p) (x ∷ xs) ≡ true) _ (λ p some. sym (any_back p (x ∷ xs)) ∙ some) (pending (x ∷ xs)) (all_of_asked q d (x ∷ xs))

    abbrev rest : List Call
    rest = reply_calls b.next_reply answers ++ map end_call (map (ask_at q) (x ∷ xs))

    some_calls : get_calls b key t now ≡ ask_call b.asker key t now ∷ rest
    some_calls = λ j. ask_call b.asker key t now ∷ (reply_calls b.next_reply (some_answers j) ++ map end_call (asks j))

    asked_then : after b.gateway (ask_call b.asker key t now) ≡ one_waits (x ∷ xs) b.next_reply
    asked_then = asked_state (x ∷ xs) e

    requests_first : messages_to b.asker (step b.gateway (ask_call b.asker key t now)).handed ≡ []
    requests_first =
        ap (messages_to b.asker) (get_hands b.asker.0 ss b.next_request b.next_reply b.gateway served key is t now fits
        ∙ ap (λ l. write b.gateway.names (handed_requests q b.asker key r (map (offer key) l))) e)
        ∙ none_in b.asker (write b.gateway.names (map (handed_request q key r) (map (offer key) (x ∷ xs)))) (others_asked b.asker q b.gateway.names key r (x ∷ xs) (subst (AllByRecursion (λ (s : Seat). (s.face.0 == b.asker.0) ≡ false)) e others))

    some_hands : messages_to b.asker (handed_over (steps_from b.gateway (get_calls b key t now))) ≡ map reply_message (map got_reply (get_answers b key t now)) ++ final_message ∷ []
    some_hands =
        ap (λ cs. messages_to b.asker (handed_over (steps_from b.gateway cs))) some_calls
        ∙ to_join b.asker (step b.gateway (ask_call b.asker key t now)).handed (handed_over (steps_from (after b.gateway (ask_call b.asker key t now)) rest))
        ∙ (λ j. requests_first j ++ messages_to b.asker (handed_over (steps_from (asked_then j) rest)))
        ∙ run_hands b.gateway.core b.gateway.names b.next_request b.asker (given (x ∷ xs)) (b.next_request + 1) b.gateway.core.queries.request_ids (pending (x ∷ xs)) answers b.next_reply fit fits_all (ask_at q x) (map (ask_at q) xs) asked_all apart of_all
        ∙ ap (λ l. map reply_message (map got_reply l) ++ final_message ∷ []) (sym some_answers)

    some_leaves : state_after b.gateway (get_calls b key t now) ≡ none_waits (x ∷ xs) (b.next_reply + length (get_answers b key t now))
    some_leaves =
        ap (state_after b.gateway) some_calls
        ∙ ap (λ s. state_after s rest) asked_then
        ∙ run_leaves b.gateway.core b.gateway.names b.next_request b.asker (given (x ∷ xs)) (b.next_request + 1) b.gateway.core.queries.request_ids (pending (x ∷ xs)) answers b.next_reply fit fits_all (ask_at q x) (map (ask_at q) xs) asked_all apart of_all
        ∙ ap (λ l. none_waits (x ∷ xs) (b.next_reply + length l)) (sym some_answers)

  -- ---- so it is answered
  all_hands : (xs : List Seat) → chosen ≡ xs → messages_to b.asker (handed_over (steps_from b.gateway (get_calls b key t now))) ≡ map reply_message (map got_reply (get_answers b key t now)) ++ final_message ∷ []
  all_hands [] e = none_hands e
  all_hands (x ∷ xs) e = some_hands x xs e

  pub get_answered : IsAnswered key t b (got_of b key t now)
  get_answered = record {
    replies = get_replies_are b served nums held key is t now fits;
    to_asker = all_hands chosen refl;
  }

  -- ---- and leaves nothing open
  quiet_after : (xs : List Seat) (n : ℕ) → IsSeated b.asker.0 ss (b.next_request + 1) n (none_waits xs n)
  quiet_after xs n = record {
    numbered = served.numbered;
    next = served.next;
    faces = served.faces;
    hats = served.hats;
    interests = served.interests;
    gates = refl;
    quiet = record { records = refl; closed = refl; asked = refl; replied = refl };
  }

  all_leaves : (xs : List Seat) → chosen ≡ xs → state_after b.gateway (get_calls b key t now) ≡ none_waits xs (b.next_reply + length (get_answers b key t now))
  all_leaves [] e = none_leaves e
  all_leaves (x ∷ xs) e = some_leaves x xs e

  pub get_served : IsServed (after_get b key t now)
  get_served =
      subst (IsSeated b.asker.0 ss (b.next_request + 1) (b.next_reply + length (get_answers b key t now))) (sym (all_leaves chosen refl))
      (quiet_after chosen (b.next_reply + length (get_answers b key t now)))
