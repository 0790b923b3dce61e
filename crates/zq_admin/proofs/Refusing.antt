-- What the own face is handed waits for its final, and so nothing refuses what it answers but want of a number.
use Rattle.std.proofs.Common.{◌≡◌, ◌∙◌, refl, sym, ap, subst, ℕ, Bool, true, false, cond, not, List, [], ◌∷◌, ◌++◌, map, filter, Option, Some, None, eqb-true, eq-eqb}
use Rattle.std.specs.Prelude.{◌==◌, ◌&&◌, ◌||◌}
use Rattle.std.specs.List.{AllByRecursion, cons_option, list_any}
use Rattle.std.specs.Option.{is_some, option_map, option_map_or}
use Rattle.std.proofs.lemmas.Bool.{and_parts, false≢true, true≢false}
use Rattle.zq_message.specs.declared.message.FaceId.{FaceId}
use Rattle.zq_message.specs.declared.message.Message.{Message}
use Rattle.zq_message.specs.declared.message.Message.TheVariants as message
use Rattle.zq_message.specs.declared.message.Request.{Request}
use Rattle.zq_message.specs.declared.message.ReplyBody.TheVariants as body
use Rattle.zq_message.specs.declared.message.Response.{Response}
use Rattle.zq_key.specs.Key.{intersects, is_key}
use Rattle.zq_strategy.specs.declared.offer.QueryTargetQabl.{QueryTargetQabl}
use Rattle.zq_query.specs.declared.records.ReplyTo.{ReplyTo}
use Rattle.zq_query.specs.Records.{Pending, Record, flies, has_reply, is_in_flight, is_pending, lacks_reply}
use Rattle.zq_tables.specs.declared.resolved.Resolved.TheVariants as said
use Rattle.zq_tables.specs.Naming.{face_naming, plain, said_of}
use Rattle.zq_machine.specs.declared.call.Call.{Call}
use Rattle.zq_machine.specs.declared.call.Call.TheVariants as call
use Rattle.zq_machine.specs.declared.call.Outcome.{Outcome}
use Rattle.zq_machine.specs.declared.call.Outcome.TheVariants as outcome
use Rattle.zq_machine.specs.declared.call.Refusal.{Refusal}
use Rattle.zq_machine.specs.declared.call.Refusal.TheVariants as refusal
use Rattle.zq_machine.specs.declared.call.Step.{Step}
use Rattle.zq_machine.specs.Configs.{Settings}
use Rattle.zq_machine.specs.Deciding.{handed_replies, handed_reply, is_accepted, refusal_of}
use Rattle.zq_machine.specs.Gates.{Gate, gate_at, leaves_by, reply_by, space_of, through}
use Rattle.zq_machine.specs.Handing.{Handed}
use Rattle.zq_machine.specs.Headline.{HandsEach, HandsOn, HandsReply, HandsRequest, KeepsPromises, RefusesBy, RequestPromise, asks, none_leaves, own_final}
use Rattle.zq_machine.specs.Machine.{after, step}
use Rattle.zq_machine.specs.Selecting.{full_text, select}
use Rattle.zq_machine.specs.State.{State, is_open}
use Rattle.zq_machine.specs.TextCalls.{asked_said, read, replying, said_by_reply}
use Rattle.zq_machine.specs.Waiting.{asks_entry, ends_entry, gives, hands_reply, owes, until}
use Rattle.zq_machine.specs.Writing.{write}
use Rattle.zq_local.proofs.Quiet.{says_itself}
use Rattle.zq_admin.specs.Entries.{Entry, entries, is_met, sources_words}
use Rattle.zq_admin.specs.Admin.{IsJoined, LackAtMost, LacksAtMost, RefusesFull}
use Rattle.zq_admin.specs.Answering.{Made, answered, asked_among, asked_by, asked_own, called, due_among, first_asked, first_made, going_on, or_later, reply_call, request_of, with_call, with_final, with_next, with_replies, with_reported, with_sent}
use Rattle.zq_admin.proofs.Waiting.{IsOwed, any_later, any_weaker, open_is, pending_is, promises, run, run_on, ungated, waits_on}

-- ---- the message that hands the own face a request
record FoundOn (own : FaceId) (s : State) (text : List ℕ) (asked r : Request) (hs : List Handed) : Type 0 where
  handed : Handed
  offer : QueryTargetQabl
  on : HandsOn s text asked offer handed
  asks : asked_by own handed ≡ Some r
  there : (p : Handed → Bool) → p handed ≡ true → list_any p hs ≡ true

found_later : (own : FaceId) (s : State) (text : List ℕ) (asked r : Request) (h : Handed) (hs : List Handed) → FoundOn own s text asked r hs → FoundOn own s text asked r (h ∷ hs)
found_later own s text asked r h hs f = record { handed = f.handed; offer = f.offer; on = f.on; asks = f.asks; there = λ p is. any_later p h hs (f.there p is) }

found_on : (own : FaceId) (s : State) (text : List ℕ) (asked r : Request) (os : List QueryTargetQabl) (hs more : List Handed) → HandsEach s text asked os hs → first_asked own more ≡ None → first_asked own (hs ++ more) ≡ Some r → FoundOn own s text asked r (hs ++ more)
found_on own s text asked r [] [] more each none is = absurd (let gap : None ≡ Some r = sym none ∙ is in cc)
found_on own s text asked r [] (h ∷ hs) more each none is = absurd each
found_on own s text asked r (o ∷ os) [] more each none is = absurd each
found_on own s text asked r (o ∷ os) (h ∷ hs) more each none is = by (asked_by own h) refl is (λ k. found_on own s text asked r os hs more each.1 none k)
  where
    by : (a : Option Request) → asked_by own h ≡ a → or_later a (first_asked own (hs ++ more)) ≡ Some r → (first_asked own (hs ++ more) ≡ Some r → FoundOn own s text asked r (hs ++ more)) → FoundOn own s text asked r (h ∷ hs ++ more)
    by None e k later = found_later own s text asked r h (hs ++ more) (later k)
    by (Some q) e k later = record { handed = h; offer = o; on = each.0; asks = e ∙ k; there = λ p here. ap (λ b. b || list_any p (hs ++ more)) here }

-- what is handed to the face is a request
to_own : (own : FaceId) (h : Handed) (r : Request) → asked_by own h ≡ Some r → ((h.to.0 == own.0) ≡ true) × (request_of h.message ≡ Some r)
to_own own h r is = by (h.to.0 == own.0) refl is
  where
    by : (b : Bool) → (h.to.0 == own.0) ≡ b → cond b (request_of h.message) None ≡ Some r → ((h.to.0 == own.0) ≡ true) × (request_of h.message ≡ Some r)
    by true e k = (e, k)
    by false e k = absurd (let gap : None ≡ Some r = k in cc)

none_asked : (own : FaceId) (hs : List Handed) → list_any asks hs ≡ false → first_asked own hs ≡ None
none_asked own [] h = refl
none_asked own (x ∷ hs) h = by (asks x) refl h (none_asked own hs)
  where
    no_request : (m : Message) → asks (record x { message = m }) ≡ false → request_of m ≡ None
    no_request (message.Request r) e = absurd (true≢false e)
    no_request (message.Response r) e = refl
    no_request (message.ResponseFinal r) e = refl
    no_request (message.Interest r) e = refl
    no_request (message.InterestFinal r) e = refl
    no_request (message.Declare r) e = refl

    either : (b : Bool) → request_of x.message ≡ None → cond b (request_of x.message) None ≡ None
    either true e = e
    either false e = refl

    by : (b : Bool) → asks x ≡ b → (b || list_any asks hs) ≡ false → (list_any asks hs ≡ false → first_asked own hs ≡ None) → or_later (asked_by own x) (first_asked own hs) ≡ None
    by true e k later = absurd (true≢false k)
    by false e k later = ap (λ a. or_later a (first_asked own hs)) (either (x.to.0 == own.0) (no_request x.message e)) ∙ later k

final_none : (own : FaceId) (s : State) (face : FaceId) (r : Request) (b : Bool) → first_asked own (cond b (own_final s face r ∷ []) []) ≡ None
final_none own s face r b = by b
  where
    none : (c : Bool) → or_later (cond {A = Option Request} c None None) None ≡ None
    none true = refl
    none false = refl

    by : (b : Bool) → first_asked own (cond b (own_final s face r ∷ []) []) ≡ None
    by true = none (face.0 == own.0)
    by false = refl

-- ---- it waits for the face's final
some_leaves : (g : Option Gate) (text : List ℕ) (m : Message) (l : Option Message) → l ≡ leaves_by g text m → g ≡ None → is_some l ≡ true
some_leaves g text m l is none = ap is_some (is ∙ ap (λ x. leaves_by x text m) none)

module _ (own : FaceId) (s : State) (text : List ℕ) (asked r : Request) (hs : List Handed) (ungated : gate_at own.0 s.gates ≡ None) (f : FoundOn own s text asked r hs) (moment : ℕ) where
  abbrev n : ℕ
  n = s.core.queries.requests

  abbrev entry : Pending
  entry = record { face = own.0; id = r.id; deadline = moment }

  its_face : f.offer.face.0 ≡ own.0
  its_face = ap (λ (x : FaceId). x.0) (sym f.on.to) ∙ eqb-true f.handed.to.0 own.0 (to_own own f.handed r f.asks).0

  leaves_it : is_some f.handed.leaves ≡ true
  leaves_it = some_leaves (gate_at f.offer.face.0 s.gates) text f.handed.message f.handed.leaves f.on.leaves (ap (λ x. gate_at x s.gates) its_face ∙ ungated)

  same_request : f.on.copy.0 ≡ r
  same_request = let is : Some f.on.copy.0 ≡ Some r = sym (ap request_of f.on.copy.1) ∙ (to_own own f.handed r f.asks).1 in cc

  asks_it : asks_entry moment f.handed.to.0 entry f.handed.message ≡ true
  asks_it =
      ap (asks_entry moment f.handed.to.0 entry) (f.on.copy.1 ∙ ap message.Request same_request)
      ∙ (λ j. (to_own own f.handed r f.asks).0 j && (eq-eqb r.id r.id refl j && eq-eqb moment moment refl j))

  given : list_any (gives moment n entry) hs ≡ true
  given =
      f.there (gives moment n entry)
      ((λ j. option_map_or (λ m. m == n) (f.on.number j) false && (leaves_it j && asks_it j))
      ∙ ap (λ b. b && true) (eq-eqb n n refl))

or_true : (a : Bool) → (a || true) ≡ true
or_true true = refl
or_true false = refl

module _ (own : FaceId) (s : State) (c : Call) (k : KeepsPromises s c) (ungated : gate_at own.0 s.gates ≡ None) (r : Request) (is : asked_own own c s ≡ Some r) where
  asks_first : first_asked own (step s c).handed ≡ Some r
  unfolding asked_own
  asks_first = is

  given_owed : (text : List ℕ) (asked : Request) → is_accepted (step s c).outcome ≡ true → FoundOn own s text asked r (step s c).handed → IsOwed own.0 r.id (after s c)
  given_owed text asked fine f = record {
    number = s.core.queries.requests;
    deadline = until s c;
    there =
        (k.waits fine).entries s.core.queries.requests (record { face = own.0; id = r.id; deadline = until s c })
        ∙ ap (λ b. (owes s.core.queries.requests (record { face = own.0; id = r.id; deadline = until s c }) s.core.queries.records && not (ends_entry c (record { face = own.0; id = r.id; deadline = until s c }))) || b) (given own s text asked r (step s c).handed ungated f (until s c))
        ∙ or_true _;
  }

  asked_hands : (face : FaceId) (asked : Request) (text : List ℕ) (os : List QueryTargetQabl) → is_accepted (step s c).outcome ≡ true → HandsRequest s face text asked os (step s c).handed → IsOwed own.0 r.id (after s c)
  asked_hands face asked text os fine h =
      given_owed text asked fine
      (subst (FoundOn own s text asked r) (sym h.all)
      (found_on own s text asked r os h.requests (cond (none_leaves h.requests) (own_final s face asked ∷ []) []) h.each (final_none own s face asked (none_leaves h.requests)) (ap (first_asked own) (sym h.all) ∙ asks_first)))

  no_request : list_any asks (step s c).handed ≡ false → IsOwed own.0 r.id (after s c)
  no_request h = absurd (let gap : None ≡ Some r = sym (none_asked own (step s c).handed h) ∙ asks_first in cc)

  refused_none : (o : Option Refusal) → RefusesBy o s c → is_accepted (step s c).outcome ≡ false → list_any asks (step s c).handed ≡ false
  refused_none None fine h = absurd (true≢false (sym fine ∙ h))
  refused_none (Some why) told h = ap (λ (t : Step). list_any asks t.handed) told.0

  by_call : (d : Call) → RequestPromise s d (step s c) → IsOwed own.0 r.id (after s c)
  by_call (call.Request face asked now) p = by (is_accepted (step s c).outcome) refl
    where
      by : (b : Bool) → is_accepted (step s c).outcome ≡ b → IsOwed own.0 r.id (after s c)
      by true fine = asked_hands face asked (full_text (asked_said face asked s)) (select s.core face (asked_said face asked s) asked) fine ((p fine).1)
      by false h = no_request (refused_none (refusal_of s.core (read s c)) k.refusals h)
  by_call d p = no_request p

  pub owed : IsOwed own.0 r.id (after s c)
  owed = by_call c k.requests

-- the reply of an entry
abbrev response_of : ℕ → Entry → Response
response_of rid e = record { rid = rid; wire = plain e.0; qos = 0; payload = body.Reply (sources_words e.1); responder = None }

-- ---- what refuses a reply, a report and a final
full_alone : (there unscoped waits key lacks : Bool) → there ≡ true → unscoped ≡ false → waits ≡ true → key ≡ true
    → cond (not there) (Some refusal.UnknownFace) (cond unscoped (Some refusal.UnknownScope) (cond (not waits) (Some refusal.QueryNotFound) (cond (not key) (Some refusal.InvalidKeyExpr) (cond lacks (Some refusal.NoFreeId) None)))) ≡ cond lacks (Some refusal.NoFreeId) None
full_alone there unscoped waits key lacks a b c d =
    (λ j. cond (not (a j)) (Some refusal.UnknownFace) (cond (b j) (Some refusal.UnknownScope) (cond (not (c j)) (Some refusal.QueryNotFound) (cond (not (d j)) (Some refusal.InvalidKeyExpr) (cond lacks (Some refusal.NoFreeId) None)))))

lacks_by : (lacks : Bool) (o : Option Refusal) (s : State) (c : Call) → o ≡ cond lacks (Some refusal.NoFreeId) None → RefusesBy o s c → LacksAtMost (step s c).outcome
lacks_by true o s c same told = by o same told
  where
    by : (o : Option Refusal) → o ≡ Some refusal.NoFreeId → RefusesBy o s c → LacksAtMost (step s c).outcome
    by None e k = absurd (let gap : None ≡ Some refusal.NoFreeId = e in cc)
    by (Some why) e k = subst (λ (t : Step). LacksAtMost t.outcome) (sym k.0) (let is : Some why ≡ Some refusal.NoFreeId = e in cc)
lacks_by false o s c same told = by o same told
  where
    fine_lacks : (a : Outcome) → is_accepted a ≡ true → LacksAtMost a
    fine_lacks (outcome.Opened f) h = tt
    fine_lacks (outcome.Asked number) h = tt
    fine_lacks (outcome.Replied reply) h = tt
    fine_lacks outcome.Done h = tt
    fine_lacks (outcome.Refused r) h = absurd (false≢true h)

    by : (o : Option Refusal) → o ≡ None → RefusesBy o s c → LacksAtMost (step s c).outcome
    by None e k = fine_lacks (step s c).outcome k
    by (Some why) e k = absurd (let gap : Some why ≡ None = e in cc)

module _ (own : FaceId) (config : Settings) (joined : IsJoined own config) (rid : ℕ) where
  module _ (calls : List Call) (o : IsOwed own.0 rid (run config calls)) where
    abbrev s : State
    s = run config calls

    reads_itself : (e : Entry) → is_key e.0 ≡ true → read s (reply_call own rid e) ≡ replying own (said.Full e.0) (response_of rid e)
    reads_itself e is =
        ap (λ g. replying own (said_of (face_naming own.0 s.names) (reply_by (space_of g) (response_of rid e))) (response_of rid e)) (ungated own config joined calls)
        ∙ ap (λ sd. replying own sd (response_of rid e)) (says_itself e.0 is)

    pub reply_lacks : (e : Entry) → is_key e.0 ≡ true → LacksAtMost (step s (reply_call own rid e)).outcome
    reply_lacks e is =
        lacks_by (lacks_reply own.0 rid s.core.queries) (refusal_of s.core (read s (reply_call own rid e))) s (reply_call own rid e)
        (ap (refusal_of s.core) (reads_itself e is)
        ∙ full_alone (is_open own.0 s.core) false (is_pending own.0 rid s.core.queries.records) (is_key e.0) (lacks_reply own.0 rid s.core.queries) (open_is config calls own.0 rid o) refl (pending_is own.0 rid s o) is)
        (promises config calls (reply_call own rid e)).refusals

    pub final_lacks : LacksAtMost (step s (call.ResponseFinal own rid)).outcome
    final_lacks =
        lacks_by false (refusal_of s.core (read s (call.ResponseFinal own rid))) s (call.ResponseFinal own rid)
        (λ j. cond (not (open_is config calls own.0 rid o j)) (Some refusal.UnknownFace) (cond (not (pending_is own.0 rid s o j)) (Some refusal.QueryNotFound) None))
        (promises config calls (call.ResponseFinal own rid)).refusals

    -- a reply that has a number is in flight
    handed_flies : (text : List ℕ) (r : Response) (to : ReplyTo) (number : ℕ) → to.reply ≡ Some number → list_any (hands_reply to.number number) (map (through [] s.gates) (write s.names (handed_replies text r to))) ≡ true
    handed_flies text r to number is =
        ap (λ x. list_any (hands_reply to.number number) (map (through [] s.gates) (write s.names (cons_option (option_map (handed_reply text r to) x) [])))) is
        ∙ (λ j. (eq-eqb to.number to.number refl j && eq-eqb number number refl j) || false)

    pub in_flight : (r : Response) (number : ℕ) → (step s (call.Response own r)).outcome ≡ outcome.Replied (Some number) → is_in_flight number (after s (call.Response own r)).core.queries.records ≡ true
    in_flight r number is =
        let k = promises config calls (call.Response own r) in
        let fine : is_accepted (step s (call.Response own r)).outcome ≡ true = ap is_accepted is in
        let told : HandsReply s own r (step s (call.Response own r)) = k.replies fine in
        let to : ReplyTo = told.goes in
        let given : to.reply ≡ Some number = (let same : outcome.Replied to.reply ≡ outcome.Replied (Some number) = sym told.outcome ∙ is in cc) in
        any_weaker (λ (x : Record). (x.number == to.number) && has_reply number x) (has_reply number) (λ x h. (and_parts (x.number == to.number) (has_reply number x) h).1)
        (after s (call.Response own r)).core.queries.records
        ((k.waits fine).replies to.number number
        ∙ ap (λ b. (flies to.number number s.core.queries.records && true) || b) (ap (list_any (hands_reply to.number number)) told.handed ∙ handed_flies (full_text (said_by_reply own r s)) r to number given)
        ∙ or_true _)

  pub sent_lacks : (calls : List Call) (number : ℕ) → is_in_flight number (run config calls).core.queries.records ≡ true → LacksAtMost (step (run config calls) (call.Sent number)).outcome
  sent_lacks calls number flies =
      lacks_by false (refusal_of (run config calls).core (read (run config calls) (call.Sent number))) (run config calls) (call.Sent number)
      (ap (λ b. cond (not b) (Some refusal.NotInFlight) None) flies)
      (promises config calls (call.Sent number)).refusals

  -- ---- the replies, one after another
  record Goes (first : Step) (m : Made) : Type 0 where
    calls : List Call
    made : m.state ≡ run config calls
    owed : IsOwed own.0 rid m.state
    more : List Step
    steps : m.steps ≡ first ∷ more
    each : AllByRecursion (λ (t : Step). LacksAtMost t.outcome) more

  all_more : (more : List Step) (t : Step) → AllByRecursion (λ (t : Step). LacksAtMost t.outcome) more → LacksAtMost t.outcome → AllByRecursion (λ (t : Step). LacksAtMost t.outcome) (more ++ t ∷ [])
  all_more [] t all one = (one, tt)
  all_more (u ∷ more) t all one = (all.0, all_more more t all.1 one)

  owed_run : (first : Step) (m : Made) (g : Goes first m) → IsOwed own.0 rid (run config g.calls)
  owed_run first m g = subst (IsOwed own.0 rid) g.made g.owed

  -- a call that ends no entry, and lacks at most a number
  goes_on : (first : Step) (m : Made) (c : Call) → ((e : Pending) → ends_entry c e ≡ false) → LacksAtMost (step m.state c).outcome → (going : Bool) → Goes first m → Goes first (record { steps = m.steps ++ step m.state c ∷ []; state = after m.state c; going = going })
  goes_on first m c ends lacks going g = record {
    calls = g.calls ++ c ∷ [];
    made = ap (λ z. after z c) g.made ∙ run_on config g.calls c;
    owed = waits_on m.state c (subst (λ z. KeepsPromises z c) (sym g.made) (promises config g.calls c)) own.0 rid ends g.owed;
    more = g.more ++ step m.state c ∷ [];
    steps = ap (λ l. l ++ step m.state c ∷ []) g.steps;
    each = all_more g.more (step m.state c) g.each lacks;
  }

  sent_on : (first : Step) (m : Made) (r : Response) (a : Outcome) → (step m.state (call.Response own r)).outcome ≡ a → Goes first m → Goes first (with_call m (call.Response own r)) → Goes first (with_sent (with_call m (call.Response own r)) a)
  sent_on first m r (outcome.Opened f) is was g = g
  sent_on first m r (outcome.Asked number) is was g = g
  sent_on first m r (outcome.Replied None) is was g = g
  sent_on first m r (outcome.Replied (Some number)) is was g =
      goes_on first (with_call m (call.Response own r)) (call.Sent number) (λ e. refl)
      (subst (λ z. LacksAtMost (step z (call.Sent number)).outcome) (sym g.made)
      (sent_lacks g.calls number (subst (λ z. is_in_flight number z.core.queries.records ≡ true) g.made
      (subst (λ z. is_in_flight number (after z (call.Response own r)).core.queries.records ≡ true) (sym was.made)
      (in_flight was.calls (owed_run first m was) r number (ap (λ z. (step z (call.Response own r)).outcome) (sym was.made) ∙ is))))))
      (with_call m (call.Response own r)).going g
  sent_on first m r outcome.Done is was g = g
  sent_on first m r (outcome.Refused why) is was g = g

  replies_on : (first : Step) (m : Made) (e : Entry) → is_key e.0 ≡ true → Goes first m → Goes first (with_reported m (reply_call own rid e))
  unfolding with_reported
  replies_on first m e is g =
      sent_on first m (response_of rid e) (step m.state (reply_call own rid e)).outcome refl g
      (goes_on first m (reply_call own rid e) (λ p. refl) (subst (λ z. LacksAtMost (step z (reply_call own rid e)).outcome) (sym g.made) (reply_lacks g.calls (owed_run first m g) e is)) (is_accepted (step m.state (reply_call own rid e)).outcome) g)

  next_on : (first : Step) (m : Made) (e : Entry) → is_key e.0 ≡ true → Goes first m → Goes first (with_next own rid m e)
  next_on first m e is g = by m.going
    where
      by : (b : Bool) → Goes first (cond b (with_reported m (reply_call own rid e)) m)
      by true = replies_on first m e is g
      by false = g

  all_on : (first : Step) (m : Made) (es : List Entry) → AllByRecursion (λ (e : Entry). is_key e.0 ≡ true) es → Goes first m → Goes first (with_replies own rid m es)
  all_on first m [] keys g = g
  all_on first m (e ∷ es) keys g = all_on first (with_next own rid m e) es keys.1 (next_on first m e keys.0 g)

  ends_so : (first : Step) (m : Made) → Goes first m → LackAtMost (with_final own rid m).steps
  unfolding with_final
  ends_so first m g =
      subst LackAtMost (sym (ap (λ l. l ++ step m.state (call.ResponseFinal own rid) ∷ []) g.steps))
      (all_more g.more (step m.state (call.ResponseFinal own rid)) g.each (subst (λ z. LacksAtMost (step z (call.ResponseFinal own rid)).outcome) (sym g.made) (final_lacks g.calls (owed_run first m g))))

-- ---- what is due has keys
kept_keys : (key : List ℕ) (es : List Entry) → AllByRecursion (λ (e : Entry). is_key e.0 ≡ true) (filter (is_met key) es)
kept_keys key [] = tt
kept_keys key (e ∷ es) = by (is_met key e) refl (kept_keys key es)
  where
    by : (b : Bool) → is_met key e ≡ b → AllByRecursion (λ (x : Entry). is_key x.0 ≡ true) (filter (is_met key) es) → AllByRecursion (λ (x : Entry). is_key x.0 ≡ true) (cond b (e ∷ filter (is_met key) es) (filter (is_met key) es))
    by true h all = ((and_parts (is_key e.0) (intersects key e.0) h).0, all)
    by false h all = all

front_all : (P : Entry → Type 0) (front rest : List Entry) → AllByRecursion P (front ++ rest) → AllByRecursion P front
front_all P [] rest all = tt
front_all P (e ∷ front) rest all = (all.0, front_all P front rest all.1)

among_keys : (r : Request) (es : List Entry) → AllByRecursion (λ (e : Entry). is_key e.0 ≡ true) (asked_among r es)
among_keys r es = by ((r.wire.scope == 0) && is_key r.wire.suffix)
  where
    by : (b : Bool) → AllByRecursion (λ (e : Entry). is_key e.0 ≡ true) (cond b (filter (is_met r.wire.suffix) es) [])
    by true = kept_keys r.wire.suffix es
    by false = tt

due_keys : (o : Option Request) (es : List Entry) → AllByRecursion (λ (e : Entry). is_key e.0 ≡ true) (due_among o es)
due_keys None es = tt
due_keys (Some r) es = among_keys r es

module _ (own : FaceId) (config : Settings) (joined : IsJoined own config) (calls : List Call) (c : Call) where
  made_first : first_made c (run config calls) ≡ going_on (step (run config calls) c ∷ []) (after (run config calls) c)
  unfolding first_made
  made_first = refl

  begins : (r : Request) → asked_own own c (run config calls) ≡ Some r → Goes own config joined r.id (step (run config calls) c) (going_on (step (run config calls) c ∷ []) (after (run config calls) c))
  begins r is = record {
    calls = calls ++ c ∷ [];
    made = run_on config calls c;
    owed = owed own (run config calls) c (promises config calls c) (ungated own config joined calls) r is;
    more = [];
    steps = refl;
    each = tt;
  }

  answers_so : (o : Option Request) (front : List Entry) → asked_own own c (run config calls) ≡ o → AllByRecursion (λ (e : Entry). is_key e.0 ≡ true) front → LackAtMost (answered own o (first_made c (run config calls)) front).steps
  answers_so None front is keys = subst (λ (m : Made). LackAtMost m.steps) (sym made_first) tt
  answers_so (Some r) front is keys =
      subst (λ (m : Made). LackAtMost (with_final own r.id (with_replies own r.id m front)).steps) (sym made_first)
      (ends_so own config joined r.id (step (run config calls) c) (with_replies own r.id (going_on (step (run config calls) c ∷ []) (after (run config calls) c)) front)
      (all_on own config joined r.id (step (run config calls) c) (going_on (step (run config calls) c ∷ []) (after (run config calls) c)) front keys (begins r is)))

pub refuses_full : (own : FaceId) (s : State) (c : Call) → RefusesFull own s c
refuses_full own s c = record {
  alone = λ config calls front rest joined is same.
      subst (λ z. LackAtMost (called own c z front).steps) (sym is)
      (answers_so own config joined calls c (asked_own own c (run config calls)) front refl
      (front_all (λ (e : Entry). is_key e.0 ≡ true) front rest (subst (AllByRecursion (λ (e : Entry). is_key e.0 ≡ true)) same (due_keys (asked_own own c s) (entries (first_made c s).state)))));
}
