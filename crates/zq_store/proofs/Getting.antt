-- A get as a run: what it hands to the asker, and what it leaves.
use Rattle.std.proofs.Common.{◌≡◌, ◌∙◌, refl, ap, ℕ, ◌+◌, ◌<◌, ◌^◌, Bool, true, false, cond, List, [], ◌∷◌, ◌++◌, map, length, eq-eqb}
use Rattle.std.specs.Prelude.{◌==◌, filter}
use Rattle.std.specs.List.{AllByRecursion, list_all, list_any}
use Rattle.std.proofs.lemmas.Bool.{and_parts}
use Rattle.std.proofs.lemmas.List.{map-append}
use Rattle.std.proofs.lemmas.List.Elements.{filter-append}
use Rattle.zq_key.specs.Key.{includes, is_key, is_plain}
use Rattle.zq_message.specs.declared.message.FaceId.{FaceId}
use Rattle.zq_message.specs.declared.message.Request.{Request}
use Rattle.zq_query.specs.Asking.{given_id}
use Rattle.zq_query.specs.Records.{Pending, QueryState, is_entry}
use Rattle.zq_tables.specs.Naming.{NamingState}
use Rattle.zq_machine.specs.declared.call.Call.{Call}
use Rattle.zq_machine.specs.declared.call.Call.TheVariants as call
use Rattle.zq_machine.specs.Deciding.{handed_request}
use Rattle.zq_machine.specs.Handing.{Handed}
use Rattle.zq_machine.specs.Machine.{state_after, steps_from}
use Rattle.zq_machine.specs.State.{Core, State, is_open}
use Rattle.zq_machine.specs.Writing.{sent_final, write}
use Rattle.zq_machine.proofs.Lists.{all_append}
use Rattle.zq_local.specs.Picking.{Seat}
use Rattle.zq_local.proofs.Lists.{Pairwise}
use Rattle.zq_local.proofs.Picked.{offer}
use Rattle.zq_local.proofs.Running.{AreOf, IsApart, IsAsked, IsFit, calls, ends_hand, ends_leave, replies_hand, replies_leave, sent_all, sent_one, settled, waiting}
use Rattle.zq_store.specs.Held.{meeting, meets_key}
use Rattle.zq_store.specs.Stores.{Stored, fits_store, held_at}
use Rattle.zq_store.specs.Getting.{answer_by, answers_at, answers_of, end_call, got_reply, handed_over, reply_call, reply_calls}
use Rattle.zq_store.specs.Answered.{final_message, is_to, message_in, messages_to, reply_message}
use Rattle.zq_store.specs.declared.answers.Answer.{Answer}
use Rattle.zq_store.specs.declared.answers.AskedStore.{AskedStore}
use Rattle.zq_store.proofs.Numbering.{IsPlaced}
use Rattle.zq_store.proofs.Replying.{ask_at}
use Rattle.zq_store.proofs.Runs.{after_join, handed_join}

-- ---- the faces and ids of asks and answers
abbrev pub ask_face : AskedStore → FaceId
ask_face a = a.face

abbrev pub ask_id : AskedStore → ℕ
ask_id a = a.rid

abbrev pub answer_face : Answer → FaceId
answer_face a = a.asked.face

abbrev pub answer_id : Answer → ℕ
answer_id a = a.asked.rid

abbrev pub answer_key : Answer → List ℕ
answer_key a = a.key

abbrev pub answer_value : Answer → List ℕ
answer_value a = a.value

-- ---- messages to a face
pub to_join : (face : FaceId) (xs ys : List Handed) → messages_to face (xs ++ ys) ≡ messages_to face xs ++ messages_to face ys
to_join face xs ys = ap (map message_in) (filter-append (is_to face) xs ys) ∙ map-append message_in (filter (is_to face) xs) (filter (is_to face) ys)

pub none_in : (face : FaceId) (hs : List Handed) → AllByRecursion (λ h. is_to face h ≡ false) hs → messages_to face hs ≡ []
none_in face [] all = refl
none_in face (h ∷ hs) all = ap (λ b. map message_in (cond b (h ∷ filter (is_to face) hs) (filter (is_to face) hs))) all.0 ∙ none_in face hs all.1

pub one_to : (face : FaceId) (h : Handed) (hs : List Handed) → is_to face h ≡ true → messages_to face (h ∷ hs) ≡ h.message ∷ messages_to face hs
one_to face h hs is = ap (λ b. map message_in (cond b (h ∷ filter (is_to face) hs) (filter (is_to face) hs))) is

-- requests to other faces
pub others_asked : (face : FaceId) (q : QueryState) (names : NamingState) (key : List ℕ) (r : Request) (ss : List Seat) → AllByRecursion (λ (s : Seat). (s.face.0 == face.0) ≡ false) ss → AllByRecursion (λ h. is_to face h ≡ false) (write names (map (handed_request q key r) (map (offer key) ss)))
others_asked face q names key r [] all = tt
others_asked face q names key r (s ∷ ss) all = (all.0, others_asked face q names key r ss all.1)

-- ---- one request is open
module _ (core : Core) (names : NamingState) (number : ℕ) (asker : FaceId) (last_ids : List (ℕ × ℕ)) (requests request_ids : ℕ) (pending : List Pending) where
  calls_same : (n : ℕ) (xs : List Answer) → reply_calls n xs ≡ calls core names number asker 0 0 last_ids requests request_ids answer_face answer_id answer_key answer_value pending n xs
  calls_same n [] = refl
  calls_same n (x ∷ xs) = (λ j. reply_call x ∷ call.Sent n ∷ calls_same (n + 1) xs j)

  replies_to : (n : ℕ) (xs : List Answer) → messages_to asker (sent_all core names number asker 0 0 last_ids requests request_ids answer_face answer_id answer_key answer_value pending n xs) ≡ map reply_message (map got_reply xs)
  replies_to n [] = refl
  replies_to n (x ∷ xs) =
      one_to asker (sent_one core names number asker 0 0 last_ids requests request_ids answer_face answer_id answer_key answer_value pending n x)
      (sent_all core names number asker 0 0 last_ids requests request_ids answer_face answer_id answer_key answer_value pending (n + 1) xs) (eq-eqb asker.0 asker.0 refl)
      ∙ ap (λ l. reply_message (got_reply x) ∷ l) (replies_to (n + 1) xs)

  -- an answer of a storage that is open and was asked, on a key
  abbrev pub Fits : Answer → Type 0
  Fits = IsFit core names number asker 0 0 last_ids requests request_ids answer_face answer_id answer_key answer_value pending

  abbrev run_calls : ℕ → List Answer → List Call
  run_calls n xs = calls core names number asker 0 0 last_ids requests request_ids answer_face answer_id answer_key answer_value pending n xs

  abbrev pub start : ℕ → State
  start n = waiting core names number asker 0 0 last_ids requests request_ids pending n

  abbrev Asked : AskedStore → Type 0
  Asked = IsAsked core names number asker 0 0 last_ids requests request_ids ask_face ask_id 0 pending

  module _ (xs : List Answer) (n : ℕ) (fit : AllByRecursion Fits xs) (room : n + length xs < 2 ^ 64) (t : AskedStore) (ts : List AskedStore)
      (asked_all : AllByRecursion (IsAsked core names number asker 0 0 last_ids requests request_ids ask_face ask_id (n + length xs) pending) (t ∷ ts))
      (apart : Pairwise (IsApart core names number asker 0 0 last_ids requests request_ids ask_face ask_id (n + length xs)) (t ∷ ts))
      (of : AreOf core names number asker 0 0 last_ids requests request_ids ask_face ask_id (n + length xs) (t ∷ ts) pending) where
    abbrev pub all_calls : List Call
    all_calls = reply_calls n xs ++ map end_call (t ∷ ts)

    leaves_replies : state_after (start n) (reply_calls n xs) ≡ start (n + length xs)
    leaves_replies =
        ap (state_after (start n)) (calls_same n xs)
        ∙ replies_leave core names number asker 0 0 last_ids requests request_ids answer_face answer_id answer_key answer_value pending xs n (n + length xs) fit room refl

    pub run_leaves : state_after (start n) all_calls ≡ settled core names number asker 0 0 last_ids requests request_ids (n + length xs)
    run_leaves =
        after_join (start n) (reply_calls n xs) (map end_call (t ∷ ts))
        ∙ ap (λ s. state_after s (map end_call (t ∷ ts))) leaves_replies
        ∙ ends_leave core names number asker 0 0 last_ids requests request_ids ask_face ask_id (n + length xs) t ts pending asked_all apart of

    pub run_hands : messages_to asker (handed_over (steps_from (start n) all_calls)) ≡ map reply_message (map got_reply xs) ++ final_message ∷ []
    run_hands =
        ap (messages_to asker) (handed_join (start n) (reply_calls n xs) (map end_call (t ∷ ts)))
        ∙ to_join asker (handed_over (steps_from (start n) (reply_calls n xs))) (handed_over (steps_from (state_after (start n) (reply_calls n xs)) (map end_call (t ∷ ts))))
        ∙ (λ j. messages_to asker (handed_over (steps_from (start n) (calls_same n xs j))) ++ messages_to asker (handed_over (steps_from (leaves_replies j) (map end_call (t ∷ ts)))))
        ∙ (λ j. messages_to asker (replies_hand core names number asker 0 0 last_ids requests request_ids answer_face answer_id answer_key answer_value pending xs n fit room j)
        ++ messages_to asker (ends_hand core names number asker 0 0 last_ids requests request_ids ask_face ask_id (n + length xs) t ts pending asked_all apart of j))
        ∙ (λ j. replies_to n xs j ++ one_to asker (sent_final (record { number = number; asker = asker; id = 0; qos = 0 })) [] (eq-eqb asker.0 asker.0 refl) j)

-- ---- the answers of those that are asked
module _ (core : Core) (names : NamingState) (number : ℕ) (asker : FaceId) (last_ids : List (ℕ × ℕ)) (requests request_ids : ℕ) (pending : List Pending) (m : ℕ) (stores : List Stored) (key : List ℕ) (q : QueryState) where
  -- a storage that is placed and open, and was asked
  abbrev pub IsReady : Seat → Type 0
  IsReady s = IsPlaced m stores s × (is_open s.face.0 core ≡ true) × (list_any (λ e. is_entry s.face.0 (given_id q s.face) e) pending ≡ true)

  pairs_fit : (s : Seat) → is_open s.face.0 core ≡ true → list_any (λ e. is_entry s.face.0 (given_id q s.face) e) pending ≡ true → (ps : List (List ℕ × List ℕ)) → list_all (fits_store s.key) ps ≡ true
      → AllByRecursion (Fits core names number asker last_ids requests request_ids pending) (map (answer_by (ask_at q s)) (meeting key ps))
  unfolding is_plain
  pairs_fit s there owed [] fits = tt
  pairs_fit s there owed (p ∷ ps) fits = by (meets_key key p) (pairs_fit s there owed ps parts.1)
    where
      parts : (fits_store s.key p ≡ true) × (list_all (fits_store s.key) ps ≡ true)
      parts = and_parts (fits_store s.key p) (list_all (fits_store s.key) ps) fits

      plain : is_plain p.0 ≡ true
      plain = (and_parts (is_plain p.0) (includes s.key p.0) parts.0).0

      keyed : is_key p.0 ≡ true
      keyed = (and_parts (is_key p.0) _ plain).0

      by : (b : Bool) → AllByRecursion (Fits core names number asker last_ids requests request_ids pending) (map (answer_by (ask_at q s)) (meeting key ps))
          → AllByRecursion (Fits core names number asker last_ids requests request_ids pending) (map (answer_by (ask_at q s)) (cond b (p ∷ meeting key ps) (meeting key ps)))
      by true rest = ((there, owed, keyed), rest)
      by false rest = rest

  pub answers_fit : (ss : List Seat) → AllByRecursion IsReady ss → AllByRecursion (Fits core names number asker last_ids requests request_ids pending) (answers_of stores key (map (ask_at q) ss))
  answers_fit [] all = tt
  answers_fit (s ∷ ss) all =
      all_append (Fits core names number asker last_ids requests request_ids pending) (answers_at stores key (ask_at q s)) (answers_of stores key (map (ask_at q) ss))
      (pairs_fit s all.0.1 all.0.2 (held_at stores s.number) all.0.0.held) (answers_fit ss all.1)
