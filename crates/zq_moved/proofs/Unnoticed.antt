-- A run inside a namespace and the run in none: each call is answered the same, and each face reads the same.
use Rattle.std.proofs.Common.{◌≡◌, ◌∙◌, refl, sym, ap, subst, ℕ, Bool, true, false, cond, not, List, [], ◌∷◌, ◌++◌, fold, map, Option, Some, None, ◌⊎◌, inl, inr, true≢false}
use Rattle.std.specs.Prelude.{◌==◌, ◌||◌, is_some}
use Rattle.std.specs.List.{AllByRecursion}
use Rattle.std.proofs.lemmas.Bool.{and_parts, false≢true}
use Rattle.zq_key.specs.Key.{is_key, is_chunk, is_plain}
use Rattle.zq_key.specs.Space.{behind}
use Rattle.zq_message.specs.declared.message.FaceId.{FaceId}
use Rattle.zq_message.specs.declared.message.QueryableInfoType.{QueryableInfoType}
use Rattle.zq_message.specs.declared.message.Response.{Response}
use Rattle.zq_message.specs.declared.message.WireExpr.{WireExpr}
use Rattle.zq_strategy.specs.declared.network.Telling.{Telling as TreeTelling}
use Rattle.zq_strategy.specs.Tellings.{in_order}
use Rattle.zq_namespace.specs.Denied.{is_denied}
use Rattle.zq_namespace.specs.Entry.{is_bare, is_bare_error, is_error}
use Rattle.zq_namespace.specs.Exit.{is_receiver}
use Rattle.zq_query.specs.Closing.{closing_finals, finals_after, finals_landed}
use Rattle.zq_query.specs.Records.{has_entry, is_entry, owner}
use Rattle.zq_tables.specs.declared.resolved.Resolved.{Resolved}
use Rattle.zq_tables.specs.declared.resolved.Resolved.TheVariants as said
use Rattle.zq_tables.specs.Naming.{FaceNaming, NamingState, face_naming, naming_at, said_of, said_plainly, said_under, sent_side, text_at, with_told_number}
use Rattle.zq_machine.specs.declared.call.Call.{Call}
use Rattle.zq_machine.specs.declared.call.Call.TheVariants as call
use Rattle.zq_machine.specs.declared.call.Refusal.{Refusal}
use Rattle.zq_machine.specs.declared.call.Step.{Step}
use Rattle.zq_machine.specs.Configs.{Settings}
use Rattle.zq_machine.specs.Deciding.{accepted, answered, causes, decide, granted, is_accepted, messages_of, outcome_of as granted_outcome, refusal_of, regated, renamed, told_of}
use Rattle.zq_machine.specs.Gates.{denied_by, gate_at, reply_by, unasked_by}
use Rattle.zq_machine.specs.Hearing.{CanBeTold, has_text, tells_text}
use Rattle.zq_machine.specs.Machine.{accepted_state, after, answer, asked_text, follow, handing, settle, step}
use Rattle.zq_machine.specs.Messages.{Decided, Telling, TellingBody, TextMessage, all_told, answered_by, from_hat, key_ended, key_told, text_final, text_reply, text_request, told_or_ended}
use Rattle.zq_machine.specs.Moved.{move_core, move_decided, move_message, move_said, move_suffix, move_telling, move_told}
use Rattle.zq_machine.specs.Neighbours.{marked}
use Rattle.zq_machine.specs.Selecting.{full_text, is_unscoped, says_key_or_nothing}
use Rattle.zq_machine.specs.State.{Core, State, at, is_open}
use Rattle.zq_machine.specs.TextCalls.{TextCall, hearing, read, said_by_reply, asked_said}
use Rattle.zq_machine.specs.Writing.{Finished, Place, finish, tell, is_unsent}
use Rattle.zq_machine.proofs.Agreed.{InOrder, granted_in_order, stays_in_order}
use Rattle.zq_machine.proofs.Always.{after_kept}
use Rattle.zq_machine.proofs.Asking.{each_let_go}
use Rattle.zq_machine.proofs.Changing.{naming_changed, there}
use Rattle.zq_machine.proofs.DueHeard.{all_ordered, due_trees}
use Rattle.zq_machine.proofs.Finals.{is_there}
use Rattle.zq_machine.proofs.Gates.{denied_left, unasked_left}
use Rattle.zq_machine.proofs.Granted.{all_passed, by_out, granted_is_accepted, settled_of}
use Rattle.zq_machine.proofs.NeighboursTold.{due_can, due_keys, neighbours}
use Rattle.zq_machine.proofs.Reading.{declare_read, withdraw_read}
use Rattle.zq_machine.proofs.Telling.{told_keeps}
use Rattle.zq_machine.proofs.Tells.{followed}
use Rattle.zq_machine.proofs.Worded.{IsKey}
use Rattle.zq_moved.specs.Moving.{can_move_call, can_move_reply, can_move_wire, moved_call}
use Rattle.zq_moved.specs.Received.{knows_handed, knows_step, reads_all, wrote, wrote_if}
use Rattle.zq_moved.proofs.Aiming.{AllGood, AskersOpen, MayHear, accepted_askers, asking_good, finals_good, passing_good, reply_good}
use Rattle.zq_moved.proofs.Alike.{Alike, asked_moved, denied_moved, space_here}
use Rattle.zq_moved.proofs.Calling.{Decides, call_decides}
use Rattle.zq_moved.proofs.Lower.{found_there}
use Rattle.zq_moved.proofs.Owning.{ChangesAlike, changes_alike}
use Rattle.zq_moved.proofs.Saying.{CanBeSaid, all_denied, said_to}
use Rattle.zq_moved.proofs.Stepping.{IsSaid, call_own, call_reads, call_ready, decided, finals_to, finishes}
use Rattle.zq_moved.proofs.Telling.{Ready, shift_by, tells_key, told_to}

-- ---- the messages of a call
never_empty : (k : FaceNaming) (w : WireExpr) → can_move_wire w ≡ true → said_of k w ≡ said.Empty → ⊥
never_empty k w moves e = by (w.scope == 0) refl moves e
  where
    plainly : (t : List ℕ) → has_text t ≡ true → said_plainly t ≡ said.Empty → ⊥
    plainly [] h e = false≢true h
    plainly (b ∷ t) h e = let gap : said.Full (b ∷ t) ≡ said.Empty = e in cc

    under : (o : Option (List ℕ)) (t : List ℕ) → said_under o t ≡ said.Empty → ⊥
    under None t e = let gap : said.Unscoped ≡ said.Empty = e in cc
    under (Some x) t e = let gap : said.Full (x ++ t) ≡ said.Empty = e in cc

    by : (b : Bool) → (w.scope == 0) ≡ b → cond b (has_text w.suffix) (not (is_receiver w.mapping)) ≡ true → cond b (said_plainly w.suffix) (said_under (text_at w.scope (sent_side k w.mapping)) w.suffix) ≡ said.Empty → ⊥
    by true z h e = plainly w.suffix h e
    by false z h e = under (text_at w.scope (sent_side k w.mapping)) w.suffix e

on_key : (X : Type 0) (sd : Resolved) → is_unscoped sd ≡ false → not (says_key_or_nothing sd) ≡ false → (sd ≡ said.Empty → X) → (is_key (full_text sd) ≡ true) ⊎ ((full_text sd ≡ []) × X)
on_key X said.Unscoped un h e = absurd (true≢false un)
on_key X said.Empty un h e = inr (refl, e refl)
on_key X (said.Full t) un h e = inl (is_there (is_key t) h)

module _ (config : Settings) (n : List ℕ) (plain : is_plain n ≡ true) (s z : State) (a b : ℕ → FaceNaming) (alike : Alike config n s z a b) (askers : AskersOpen s.core) where
  replying_error : (face : FaceId) (r : Response) → is_some (naming_at face.0 s.names) ≡ true → can_move_reply r ≡ true → said_by_reply face r s ≡ said.Empty → is_error r.payload ≡ true
  replying_error face r opened moves e = by (is_bare_error r) refl moves
    where
      by : (x : Bool) → is_bare_error r ≡ x → (x || can_move_wire r.wire) ≡ true → is_error r.payload ≡ true
      by true bare m = (and_parts (is_error r.payload) (is_bare r.wire) bare).0
      by false bare m = absurd (never_empty (face_naming face.0 s.names) r.wire m (sym (ap (λ o. said_of (face_naming face.0 s.names) (reply_by o r)) (space_here config n plain s z a b alike face opened)) ∙ e))

  -- they go to open faces, on keys
  call_good : (c : Call) → can_move_call c ≡ true → refusal_of s.core (read s c) ≡ None → AllGood (asked_text (read s c)) (accepted s.core (read s c)).faces (messages_of s.core (read s c))
  call_good (call.Request face r now) moves fits = asking_good config s alike.order face (asked_said face r s) r now
  call_good (call.Response face r) moves fits =
      let passed = all_passed (causes s.core (read s (call.Response face r))) fits in
      let opened : is_some (naming_at face.0 s.names) ≡ true = alike.order.tied.named face.0 ∙ is_there (is_open face.0 s.core) passed.0 in
      reply_good s.core askers [] (full_text (said_by_reply face r s)) r (owner face.0 r.rid s.core.queries.records) (found_there (MayHear s.core) (has_entry face.0 r.rid) s.core.queries.records askers)
      (on_key (is_error r.payload ≡ true) (said_by_reply face r s) passed.1.0 passed.1.1.1.0 (replying_error face r opened moves))
  call_good (call.Close face) moves fits = finals_good [] (accepted s.core (read s (call.Close face))).faces (closing_finals face.0 s.core.queries)
  call_good (call.ResponseFinal face rid) moves fits = finals_good [] s.core.faces (finals_after (is_entry face.0 rid) s.core.queries.closed s.core.queries.records)
  call_good (call.Sent reply) moves fits = finals_good [] s.core.faces (finals_landed reply s.core.queries.closed s.core.queries.records)
  call_good (call.Poll now) moves fits = passing_good s.core askers [] now
  call_good (call.DeclareQueryable face id w info node) moves fits = declare_read (λ t. AllGood (asked_text t) (accepted s.core t).faces (messages_of s.core t)) s face id w info node tt tt
  call_good (call.UndeclareQueryable face id w node) moves fits = withdraw_read (λ t. AllGood (asked_text t) (accepted s.core t).faces (messages_of s.core t)) s face id w node tt tt
  call_good (call.Open o) moves fits = tt
  call_good (call.DeclareKeyExpr face id w) moves fits = tt
  call_good (call.UndeclareKeyExpr face id) moves fits = tt
  call_good (call.Interest face id keys aggregate w) moves fits = tt
  call_good (call.InterestFinal face id) moves fits = tt
  call_good (call.FinalizeInterest face m set) moves fits = tt
  call_good (call.SetGateways r table) moves fits = tt
  call_good (call.SetNetwork r net) moves fits = tt
  call_good (call.SetNodeIds face ids) moves fits = tt

  no_key : is_key [] ≡ true → ⊥
  unfolding is_key is_chunk
  no_key h = false≢true h

  -- a request that is handed is on what is asked, in both
  asked_full : (sd : Resolved) → is_key (full_text sd) ≡ true → full_text (move_said (behind n) sd) ≡ behind n (full_text sd)
  asked_full said.Unscoped key = absurd (no_key key)
  asked_full said.Empty key = absurd (no_key key)
  asked_full (said.Full t) key = refl

  call_asks : (c : Call) → can_move_call c ≡ true → refusal_of s.core (read s c) ≡ None → is_key (asked_text (read s c)) ≡ true → asked_text (read z (moved_call n c)) ≡ behind n (asked_text (read s c))
  call_asks (call.Request face r now) moves fits key =
      let opened : is_some (naming_at face.0 s.names) ≡ true = alike.order.tied.named face.0 ∙ is_there (is_open face.0 s.core) (all_passed (causes s.core (read s (call.Request face r now))) fits).0 in
      ap full_text (asked_moved config n plain s z a b alike face opened r moves) ∙ asked_full (asked_said face r s) key
  call_asks (call.DeclareQueryable face id w info node) moves fits key = absurd (no_key (declare_read (λ t. is_key (asked_text t) ≡ true → is_key [] ≡ true) s face id w info node (λ h. h) (λ h. h) key))
  call_asks (call.UndeclareQueryable face id w node) moves fits key = absurd (no_key (withdraw_read (λ t. is_key (asked_text t) ≡ true → is_key [] ≡ true) s face id w node (λ h. h) (λ h. h) key))
  call_asks (call.Response face r) moves fits key = absurd (no_key key)
  call_asks (call.Close face) moves fits key = absurd (no_key key)
  call_asks (call.ResponseFinal face rid) moves fits key = absurd (no_key key)
  call_asks (call.Sent reply) moves fits key = absurd (no_key key)
  call_asks (call.Poll now) moves fits key = absurd (no_key key)
  call_asks (call.Open o) moves fits key = absurd (no_key key)
  call_asks (call.DeclareKeyExpr face id w) moves fits key = absurd (no_key key)
  call_asks (call.UndeclareKeyExpr face id) moves fits key = absurd (no_key key)
  call_asks (call.Interest face id keys aggregate w) moves fits key = absurd (no_key key)
  call_asks (call.InterestFinal face id) moves fits key = absurd (no_key key)
  call_asks (call.FinalizeInterest face m set) moves fits key = absurd (no_key key)
  call_asks (call.SetGateways r table) moves fits key = absurd (no_key key)
  call_asks (call.SetNetwork r net) moves fits key = absurd (no_key key)
  call_asks (call.SetNodeIds face ids) moves fits key = absurd (no_key key)

-- ---- what is told is told of keys
hat_key : (u : TreeTelling) → IsKey u.key → tells_key (from_hat u).body
hat_key u key = by u.info
  where
    ended : (b : Bool) → tells_key (key_ended u.id (cond b (Some u.key) None))
    ended true = key
    ended false = tt

    by : (i : Option QueryableInfoType) → tells_key (told_or_ended u.id u.key i)
    by None = ended (u.id == 0)
    by (Some i) = key

hats_keys : (us : List TreeTelling) → AllByRecursion (λ (u : TreeTelling). IsKey u.key) us → AllByRecursion (λ (x : Telling). tells_key x.body) (map from_hat us)
hats_keys [] all = tt
hats_keys (u ∷ us) all = (hat_key u all.0, hats_keys us all.1)

answers_keys : (face : FaceId) (id : ℕ) (ts : List Telling) → AllByRecursion (λ (x : Telling). tells_key x.body) ts → AllByRecursion (λ (x : Telling). tells_key x.body) (answered_by face id ts)
answers_keys face id [] all = (tt, tt)
answers_keys face id (t ∷ ts) all = (all.0, answers_keys face id ts all.1)

told_keys : (config : Settings) (s : State) (i : InOrder config s) (t : TextCall) (fits : refusal_of s.core t ≡ None) (j : InOrder config (accepted_state s t)) → AllByRecursion (λ (x : Telling). tells_key x.body) (told_of s.core t)
told_keys config s i t fits j = by t refl
  where
    all : List TreeTelling
    all = due_trees config s i t ++ neighbours config s i t fits j

    ordered : AllByRecursion (λ (x : Telling). tells_key x.body) (map from_hat (in_order all))
    ordered = hats_keys (in_order all) (all_ordered (λ (u : TreeTelling). IsKey u.key) [] all tt (due_keys config s i t fits j))

    by : (x : TextCall) → t ≡ x → AllByRecursion (λ (x : Telling). tells_key x.body) (marked x (map from_hat (in_order all)))
    by (hearing face id m sd) is = answers_keys face id (map from_hat (in_order all)) ordered
    by x is = ordered

-- ---- in no namespace texts are as they are
suffix_same : (t : List ℕ) → move_suffix (λ x. x) t ≡ t
suffix_same [] = refl
suffix_same (b ∷ t) = refl

message_same : (m : TextMessage) → move_message (λ x. x) m ≡ m
message_same (text_request r) = ap (λ t. text_request (record r { text = t })) (suffix_same r.text)
message_same (text_reply r) = ap (λ t. text_reply (record r { text = t })) (suffix_same r.text)
message_same (text_final f) = refl

messages_same : (ms : List TextMessage) → map (move_message (λ x. x)) ms ≡ ms
messages_same [] = refl
messages_same (m ∷ ms) = λ j. message_same m j ∷ messages_same ms j

body_same : (b : TellingBody) → move_told (λ x. x) b ≡ b
body_same (key_told id t info) = refl
body_same (key_ended id None) = refl
body_same (key_ended id (Some t)) = refl
body_same all_told = refl

pub told_same : (ts : List Telling) → map (move_telling (λ x. x)) ts ≡ ts
told_same [] = refl
told_same (t ∷ ts) = λ j. record t { body = body_same t.body j } ∷ told_same ts j

-- ---- both runs of a call
pub record StepsAlike (config : Settings) (n : List ℕ) (s z : State) (a b : ℕ → FaceNaming) (c : Call) : Type 0 where
  pub outcome : (step z (moved_call n c)).outcome ≡ (step s c).outcome
  pub reads : (q : ℕ) → reads_all q (wrote_if q (moved_call n c) (step z (moved_call n c)).outcome (b q)) (step z (moved_call n c)).handed ≡ reads_all q (wrote_if q c (step s c).outcome (a q)) (step s c).handed
  pub next : Alike config n (after s c) (after z (moved_call n c)) (λ q. knows_step q (a q) c (step s c)) (λ q. knows_step q (b q) (moved_call n c) (step z (moved_call n c)))
  pub askers : AskersOpen (after s c).core

-- the same states and knowledge
alike_as : (config : Settings) (n : List ℕ) (s s2 z z2 : State) (a a2 b b2 : ℕ → FaceNaming) → s ≡ s2 → z ≡ z2 → ((q : ℕ) → a q ≡ a2 q) → ((q : ℕ) → b q ≡ b2 q) → Alike config n s z a b → Alike config n s2 z2 a2 b2
alike_as config n s s2 z z2 a a2 b b2 es ez ea eb alike =
    let fa : a ≡ a2 = λ j. λ q. ea q j in
    let fb : b ≡ b2 = λ j. λ q. eb q j in
    subst (λ f. Alike config n s2 z2 a2 f) fb (subst (λ f. Alike config n s2 z2 f b) fa (subst (λ w. Alike config n s2 w a b) ez (subst (λ w. Alike config n w z a b) es alike)))

-- a refused call hands and changes nothing
refused_is : (s : State) (t : TextCall) (r : Refusal) → refusal_of s.core t ≡ Some r → ((answer s t).handed ≡ []) × (settle s t ≡ s)
refused_is s t r e = by_out (λ (x : Step) (w : State). (x.handed ≡ []) × (w ≡ s)) s t (λ h. absurd (let gap : None ≡ Some r = sym h ∙ e in cc)) (λ x. (refl, refl))

refused_not : (s : State) (t : TextCall) (r : Refusal) → refusal_of s.core t ≡ Some r → is_accepted (answer s t).outcome ≡ false
refused_not s t r e = ap (λ o. is_accepted (answered o (granted s.core t)).outcome) e

finish_moved : (φ : List ℕ → List ℕ) (c : Core) (places : List Place) → finish (move_core φ c) places ≡ record { core = move_core φ (finish c places).core; finals = (finish c places).finals }
finish_moved φ c [] = refl
finish_moved φ c (p ∷ ps) = refl

-- what is told leaves the open faces open
tells_open : (q : ℕ) (c : Core) (ts : List Telling) (names : NamingState) → is_some (naming_at q (tell c ts names).names) ≡ is_some (naming_at q names)
tells_open q c ts names =
    told_keeps (λ w. is_some (naming_at q w) ≡ is_some (naming_at q names))
    (λ face text id w e. ap (λ x. is_some (naming_at q x)) (naming_changed face (with_told_number text (Some id)) w) ∙ there face (with_told_number text (Some id)) w.faces q ∙ e)
    c ts names refl

some_behind : (n t : List ℕ) → has_text (behind n t) ≡ true
some_behind [] t = refl
some_behind (x ∷ n) t = refl

module _ (config : Settings) (n : List ℕ) (plain : is_plain n ≡ true) (s z : State) (a b : ℕ → FaceNaming) (alike : Alike config n s z a b) (askers : AskersOpen s.core) (c : Call) (moves : can_move_call c ≡ true) where
  abbrev c' : Call
  c' = moved_call n c

  abbrev t : TextCall
  t = read s c

  abbrev u : TextCall
  u = read z c'

  d : Decides n s.core z.core t u
  d = call_decides config n plain s z a b alike c moves

  same_outcome : (answer z u).outcome ≡ (answer s t).outcome
  same_outcome = ap (λ (x : Decided). x.outcome) d.answer

  -- both refuse it
  refuses_alike : (r : Refusal) → refusal_of s.core t ≡ Some r → StepsAlike config n s z a b c
  refuses_alike r e =
      let f : refusal_of z.core u ≡ Some r = d.refusal ∙ e in
      let here = refused_is s t r e in
      let over = refused_is z u r f in
      let stays_here : (q : ℕ) → wrote_if q c (answer s t).outcome (a q) ≡ a q = λ q. ap (λ x. cond x (wrote q c (answer s t).outcome (a q)) (a q)) (refused_not s t r e) in
      let stays_over : (q : ℕ) → wrote_if q c' (answer z u).outcome (b q) ≡ b q = λ q. ap (λ x. cond x (wrote q c' (answer z u).outcome (b q)) (b q)) (refused_not z u r f) in
      record {
        outcome = same_outcome;
        reads = λ q. ap (reads_all q (wrote_if q c' (answer z u).outcome (b q))) over.0 ∙ sym (ap (reads_all q (wrote_if q c (answer s t).outcome (a q))) here.0);
        next = alike_as config n s (settle s t) z (settle z u) a _ b _ (sym here.1) (sym over.1)
            (λ q. sym (ap (fold (knows_handed q) (wrote_if q c (answer s t).outcome (a q))) here.0 ∙ stays_here q))
            (λ q. sym (ap (fold (knows_handed q) (wrote_if q c' (answer z u).outcome (b q))) over.0 ∙ stays_over q)) alike;
        askers = subst (λ (w : State). AskersOpen w.core) (sym here.1) askers;
      }

  -- neither does
  module _ (fits : refusal_of s.core t ≡ None) where
    fits' : refusal_of z.core u ≡ None
    fits' = d.refusal ∙ fits

    ch : ChangesAlike n s z a b c
    ch = changes_alike config n plain s z a b alike c moves fits

    order : InOrder config (accepted_state s t)
    order = granted_in_order config s c fits alike.order

    order' : InOrder config (accepted_state z u)
    order' = granted_in_order config z c' fits' alike.order'

    yes : is_accepted (decide s.core t).outcome ≡ true
    yes = ap (λ (x : Decided). is_accepted x.outcome) (decided s t fits) ∙ granted_is_accepted s.core t fits

    yes' : is_accepted (decide z.core u).outcome ≡ true
    yes' = ap (λ (x : Decided). is_accepted x.outcome) (decided z u fits') ∙ granted_is_accepted z.core u fits'

    core_moved : accepted z.core u ≡ move_core (behind n) (accepted s.core t)
    core_moved = sym (ap (λ x. cond x (accepted z.core u) z.core) yes') ∙ d.change ∙ ap (λ x. move_core (behind n) (cond x (accepted s.core t) s.core)) yes

    open_same : (q : ℕ) → is_some (naming_at q (renamed z u)) ≡ is_some (naming_at q (renamed s t))
    open_same q = order'.tied.named q ∙ ap (λ (x : Core). is_some (at q x.faces)) core_moved ∙ sym (order.tied.named q)

    ms : List TextMessage
    ms = messages_of s.core t

    ts : List Telling
    ts = told_of s.core t

    denied : ℕ → Bool
    denied f = is_denied (unasked_by (gate_at f (regated s t))) (asked_text t)

    granted_moved : granted z.core u ≡ move_decided (behind n) (granted s.core t)
    granted_moved = sym (decided z u fits') ∙ d.answer ∙ ap (move_decided (behind n)) (decided s t fits)

    good : AllGood (asked_text t) (accepted s.core t).faces ms
    unfolding ms
    good = call_good config n plain s z a b alike askers c moves fits

    say_here : (xs : List TextMessage) → AllGood (asked_text t) (accepted s.core t).faces xs → AllByRecursion (CanBeSaid (renamed s t) (regated s t) (asked_text t) denied) xs
    unfolding denied
    say_here [] all = tt
    say_here (text_request r ∷ xs) all = ((all.0.0, order.tied.named r.to.0 ∙ all.0.1, refl), say_here xs all.1)
    say_here (text_reply r ∷ xs) all = ((all.0.0, order.tied.named r.to.0 ∙ all.0.1), say_here xs all.1)
    say_here (text_final f ∷ xs) all = (tt, say_here xs all.1)

    say_there : (xs : List TextMessage) → AllGood (asked_text t) (accepted s.core t).faces xs → AllByRecursion (CanBeSaid (renamed z u) (regated z u) (asked_text u) denied) xs
    unfolding denied
    say_there [] all = tt
    say_there (text_request r ∷ xs) all =
        let asks = call_asks config n plain s z a b alike askers c moves fits (ap is_key (sym all.0.2) ∙ all.0.0) in
        let barred : is_denied (unasked_by (gate_at r.to.0 (regated z u))) (asked_text u) ≡ is_denied (unasked_by (gate_at r.to.0 (regated s t))) (asked_text t) =
        (λ j. is_denied (ch.exit r.to.0 j) (asks j)) ∙ denied_moved n plain (unasked_by (gate_at r.to.0 (regated s t))) (asked_text t) in
        ((all.0.0, open_same r.to.0 ∙ order.tied.named r.to.0 ∙ all.0.1, barred), say_there xs all.1)
    say_there (text_reply r ∷ xs) all = ((all.0.0, open_same r.to.0 ∙ order.tied.named r.to.0 ∙ all.0.1), say_there xs all.1)
    say_there (text_final f ∷ xs) all = (tt, say_there xs all.1)

    body_there : (x : TellingBody) → tells_text x ≡ true → tells_text (move_told (behind n) x) ≡ true
    body_there (key_told id k info) h = some_behind n k
    body_there (key_ended id None) h = refl
    body_there (key_ended id (Some k)) h = some_behind n k
    body_there all_told h = refl

    tell_there : (xs : List Telling) → AllByRecursion (CanBeTold (renamed s t)) xs → AllByRecursion (CanBeTold (renamed z u)) (map (move_telling (behind n)) xs)
    tell_there [] all = tt
    tell_there (x ∷ xs) all = ((open_same x.to.0 ∙ all.0.0, body_there x.body all.0.1), tell_there xs all.1)

    here : IsSaid None s t denied ms ts
    unfolding ms ts
    here = record {
      messages = sym (messages_same ms);
      told = sym (told_same ts);
      can_say = say_here ms good;
      can_tell = subst (AllByRecursion (CanBeTold (renamed s t))) (sym (told_same ts)) (due_can config s alike.order t fits order);
      keys = told_keys config s alike.order t fits order;
    }

    over : IsSaid (Some n) z u denied ms ts
    unfolding ms ts
    over = record {
      messages = ap (λ (x : Decided). x.messages) granted_moved;
      told = ap (λ (x : Decided). x.told) granted_moved;
      can_say = say_there ms good;
      can_tell = tell_there ts (due_can config s alike.order t fits order);
      keys = told_keys config s alike.order t fits order;
    }

    ka : ℕ → FaceNaming
    ka q = wrote q c (granted_outcome s.core t) (a q)

    kb : ℕ → FaceNaming
    kb q = wrote q c' (granted_outcome z.core u) (b q)

    wa : (q : ℕ) → wrote_if q c (answer s t).outcome (a q) ≡ ka q
    unfolding ka
    wa q = (λ j. cond (is_accepted (decided s t fits j).outcome) (wrote q c (decided s t fits j).outcome (a q)) (a q)) ∙ ap (λ x. cond x (wrote q c (granted_outcome s.core t) (a q)) (a q)) (granted_is_accepted s.core t fits)

    wb : (q : ℕ) → wrote_if q c' (answer z u).outcome (b q) ≡ kb q
    unfolding kb
    wb q = (λ j. cond (is_accepted (decided z u fits' j).outcome) (wrote q c' (decided z u fits' j).outcome (b q)) (b q)) ∙ ap (λ x. cond x (wrote q c' (granted_outcome z.core u) (b q)) (b q)) (granted_is_accepted z.core u fits')

    ready_here : (q : ℕ) → Ready None (naming_at q (renamed s t)) (gate_at q (regated s t)) (ka q)
    unfolding ka
    ready_here q = ch.here q

    ready_over : (q : ℕ) → Ready (Some n) (naming_at q (renamed z u)) (gate_at q (regated z u)) (kb q)
    unfolding kb
    ready_over q = ch.there q

    owns : (q : ℕ) → (kb q).theirs ≡ (ka q).theirs
    unfolding ka kb
    owns q = ch.own q

    places : List Place
    places = all_denied denied ms

    finishing_moved : finish (accepted z.core u) places ≡ record { core = move_core (behind n) (finish (accepted s.core t) places).core; finals = (finish (accepted s.core t) places).finals }
    finishing_moved = ap (λ x. finish x places) core_moved ∙ finish_moved (behind n) (accepted s.core t) places

    know_here : (q : ℕ) → knows_step q (a q) c (answer s t) ≡ fold (knows_handed q) (ka q) (answer s t).handed
    know_here q = ap (λ k. fold (knows_handed q) k (answer s t).handed) (wa q)

    know_over : (q : ℕ) → knows_step q (b q) c' (answer z u) ≡ fold (knows_handed q) (kb q) (answer z u).handed
    know_over q = ap (λ k. fold (knows_handed q) k (answer z u).handed) (wb q)

    accepts_alike : StepsAlike config n s z a b c
    unfolding places
    accepts_alike = record {
      outcome = same_outcome;
      reads = λ q.
          ap (λ k. reads_all q k (answer z u).handed) (wb q)
          ∙ call_reads (Some n) z u fits' denied ms ts over kb ready_over q
          ∙ ap (λ (x : Finished). said_to q denied ms (told_to q ts) ++ finals_to q x.finals) finishing_moved
          ∙ sym (call_reads None s t fits denied ms ts here ka ready_here q)
          ∙ sym (ap (λ k. reads_all q k (answer s t).handed) (wa q));
      next = record {
        core = ap (λ (x : Finished). x.core) (finishes (Some n) z u fits' denied ms ts over kb ready_over ∙ finishing_moved) ∙ sym (ap (λ (x : Finished). move_core (behind n) x.core) (finishes None s t fits denied ms ts here ka ready_here));
        own = λ q.
            ap (λ (k : FaceNaming). k.theirs) (know_over q) ∙ call_own (Some n) z u fits' denied ms ts over kb ready_over q ∙ owns q
            ∙ sym (call_own None s t fits denied ms ts here ka ready_here q) ∙ sym (ap (λ (k : FaceNaming). k.theirs) (know_here q));
        here = λ q. subst (Ready None (naming_at q (settle s t).names) (gate_at q (settle s t).gates)) (sym (know_here q))
            (call_ready None s t fits denied ms ts here ka ready_here q (tells_open q (accepted s.core t) (map (move_telling (shift_by None)) ts) (renamed s t)));
        there = λ q. subst (Ready (Some n) (naming_at q (settle z u).names) (gate_at q (settle z u).gates)) (sym (know_over q))
            (call_ready (Some n) z u fits' denied ms ts over kb ready_over q (tells_open q (accepted z.core u) (map (move_telling (shift_by (Some n))) ts) (renamed z u)));
        entry = λ q.
            denied_left q (asked_text u) (handing z u) (follow z u).gates ∙ ap (λ (w : State). denied_by (gate_at q w.gates)) (followed z u fits') ∙ ch.entry q
            ∙ sym (ap (map (behind n)) (denied_left q (asked_text t) (handing s t) (follow s t).gates ∙ ap (λ (w : State). denied_by (gate_at q w.gates)) (followed s t fits)));
        exit = λ q.
            unasked_left q (asked_text u) (handing z u) (follow z u).gates ∙ ap (λ (w : State). unasked_by (gate_at q w.gates)) (followed z u fits') ∙ ch.exit q
            ∙ sym (ap (map (behind n)) (unasked_left q (asked_text t) (handing s t) (follow s t).gates ∙ ap (λ (w : State). unasked_by (gate_at q w.gates)) (followed s t fits)));
        order = after_kept (InOrder config) (granted_in_order config) (stays_in_order config) s c alike.order;
        order' = after_kept (InOrder config) (granted_in_order config) (stays_in_order config) z c' alike.order';
      };
      askers = settled_of AskersOpen s t fits (λ ps x all. each_let_go (λ m f id qos. MayHear x f) (is_unsent ps) x.queries.records all) (accepted_askers s alike.order.sound askers t fits);
    }

  pub steps_alike : StepsAlike config n s z a b c
  steps_alike = by (refusal_of s.core t) refl
    where
      by : (o : Option Refusal) → refusal_of s.core t ≡ o → StepsAlike config n s z a b c
      by None e = accepts_alike e
      by (Some r) e = refuses_alike r e
