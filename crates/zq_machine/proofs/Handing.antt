-- Calls are answered by their kind. What they hand is of the kinds that they may hand, and has a reply number where it is a reply; and finals stand by number.
use Rattle.std.proofs.Common.{◌≡◌, ◌∙◌, refl, sym, ap, subst, ℕ, Bool, true, false, cond, not, List, [], ◌∷◌, ◌++◌, map, Option, Some, None, append-nil}
use Rattle.std.specs.Prelude.{◌||◌}
use Rattle.std.specs.Bool.{MatchBool}
use Rattle.std.specs.List.{AllByRecursion, cons_option, filter, list_any}
use Rattle.std.specs.List.Sorted.{IsStrictlySortedBy}
use Rattle.std.specs.Option.{option_map}
use Rattle.std.specs.Ordering.{nat_cmp}
use Rattle.std.proofs.lemmas.Bool.{false≢true, or_parts}
use Rattle.std.proofs.lemmas.List.Elements.{filter_map-append}
use Rattle.zq_message.specs.declared.message.FaceId.{FaceId}
use Rattle.zq_message.specs.declared.message.Declare.{Declare}
use Rattle.zq_message.specs.declared.message.Message.{Message}
use Rattle.zq_message.specs.declared.message.Message.TheVariants as message
use Rattle.zq_message.specs.declared.message.Request.{Request}
use Rattle.zq_message.specs.declared.message.Response.{Response}
use Rattle.zq_strategy.specs.declared.offer.QueryTargetQabl.{QueryTargetQabl}
use Rattle.zq_query.specs.declared.records.Final.{Final}
use Rattle.zq_query.specs.declared.records.ReplyTo.{ReplyTo}
use Rattle.zq_query.specs.declared.records.Timeout.{Timeout}
use Rattle.zq_query.specs.Closing.{at_face, closed_with, closing_finals, finals_after, finals_landed, has_open_asker}
use Rattle.zq_query.specs.Polling.{is_due, timeouts, timing_out}
use Rattle.zq_query.specs.Records.{QueryState, Record, final_of, is_entry, is_over, next_reply, without, without_reply}
use Rattle.zq_tables.specs.Naming.{NamingState}
use Rattle.zq_machine.specs.declared.call.Call.{Call}
use Rattle.zq_machine.specs.declared.call.Call.TheVariants as call
use Rattle.zq_machine.specs.declared.call.Outcome.TheVariants as outcome
use Rattle.zq_machine.specs.declared.face.OpenFace.{OpenFace}
use Rattle.zq_machine.specs.Agreeing.{number_of}
use Rattle.zq_machine.specs.Asked.{asked_number, is_declaration}
use Rattle.zq_machine.specs.Deciding.{accepted, granted, renamed, told_of, is_accepted, handed_reply, handed_request, handed_requests, handed_timeouts, passing_finals, replied, timed_out}
use Rattle.zq_machine.specs.Handing.{Handed}
use Rattle.zq_machine.specs.Headline.{AnswerPromise, IsFit, declares, ended_by, ended_in, is_final, is_of_request, is_request, is_response, may_hand}
use Rattle.zq_machine.specs.Machine.{answer, step}
use Rattle.zq_machine.specs.Messages.{TextMessage, text_final, text_reply, text_request}
use Rattle.zq_machine.specs.Selecting.{full_text, select}
use Rattle.zq_machine.specs.State.{Core, State}
use Rattle.zq_machine.specs.TextCalls.{TextCall, opening, closing, declaring, withdrawing, asking, replying, ending, reporting, passing, announcing, retracting, networking, read, hearing, unhearing}
use Rattle.zq_machine.specs.Writing.{Place, finish, is_unsent, sent_final, unsent, write}
use Rattle.zq_machine.specs.Configs.{Settings}
use Rattle.zq_machine.specs.Gates.{Gates, let_out, through, with_given}
use Rattle.zq_machine.proofs.Agreed.{InOrder, accepted_in_order}
use Rattle.zq_machine.proofs.Asks.{is_asking}
use Rattle.zq_machine.proofs.GoingOut.{all_ended, all_out, any_ended, any_out, mapped_out, none_unsent}
use Rattle.zq_machine.proofs.Granted.{KeptOut, by_granted, by_plain, by_told, mapped_beside, told_by}
use Rattle.zq_machine.proofs.Lists.{all_append, sorted_left, sorted_numbers}
use Rattle.zq_machine.proofs.Reading.{declare_read, withdraw_read}
use Rattle.zq_machine.proofs.Telling.{told_all}
use Rattle.zq_machine.proofs.Numbered.{InNumbers, numbered_timing}
use Rattle.zq_machine.proofs.Writing.{fully}
use Rattle.zq_key.proofs.Naturals.{map-map}

-- ---- answers
granted_answer : (s : State) (c : Call) → AnswerPromise s c (granted s.core (read s c)).outcome
granted_answer s (call.Request face r now) = tt
granted_answer s (call.Response face r) = tt
granted_answer s (call.DeclareQueryable face id wire info node) = declare_read (λ t. (granted s.core t).outcome ≡ outcome.Done) s face id wire info node refl refl
granted_answer s (call.UndeclareQueryable face id wire node) = withdraw_read (λ t. (granted s.core t).outcome ≡ outcome.Done) s face id wire node refl refl
granted_answer s c = refl

pub call_answers : (s : State) (c : Call) → is_accepted (step s c).outcome ≡ true → AnswerPromise s c (step s c).outcome
call_answers s c = by_granted (λ z w. is_accepted z.outcome ≡ true → AnswerPromise s c z.outcome) s (read s c) (λ text z w it. it) (λ p places z w it. it) (λ h a. granted_answer s c) (λ r a. absurd (false≢true a))

-- ---- kinds
may_text : TextCall → Message → Bool
may_text (asking face s r now) m = is_request m || is_final m
may_text (replying face s r) m = is_response m
may_text (ending face rid) m = is_final m
may_text (reporting reply) m = is_final m
may_text (passing now) m = is_response m || is_final m
may_text (opening o) m = is_declaration m
may_text (closing face) m = is_final m || is_declaration m
may_text (declaring face id s i n) m = is_declaration m
may_text (withdrawing face id) m = is_declaration m
may_text (announcing face s i n) m = is_declaration m
may_text (retracting face s n) m = is_declaration m
may_text (networking r net) m = is_declaration m
may_text (hearing face id keys sd) m = is_declaration m
may_text (unhearing face id) m = is_declaration m
may_text t m = false

may_read : (s : State) (c : Call) (m : Message) → may_text (read s c) m ≡ may_hand c m
unfolding may_text
may_read s (call.Poll now) m = refl
may_read s (call.DeclareQueryable face id wire info node) m = declare_read (λ t. may_text t m ≡ is_declaration m) s face id wire info node refl refl
may_read s (call.UndeclareQueryable face id wire node) m = withdraw_read (λ t. may_text t m ≡ is_declaration m) s face id wire node refl refl
may_read s c m = refl

module _ (names : NamingState) (may : Message → Bool) where
  abbrev AllFit : List TextMessage → Type 0
  AllFit ms = AllByRecursion (IsFit may) (write names ms)

  finals_fit : ((m : Message) → is_final m ≡ true → may m ≡ true) → (fs : List Final) → AllFit (map text_final fs)
  finals_fit gives [] = tt
  finals_fit gives (f ∷ fs) = (record { number = refl; flying = refl; kind = gives _ refl }, finals_fit gives fs)

  requests_fit : ((m : Message) → is_request m ≡ true → may m ≡ true) → (q : QueryState) (text : List ℕ) (r : Request) (os : List QueryTargetQabl) → AllFit (map (handed_request q text r) os)
  requests_fit gives q text r [] = tt
  requests_fit gives q text r (o ∷ os) = (record { number = refl; flying = refl; kind = gives _ refl }, requests_fit gives q text r os)

  replied_fit : ((m : Message) → is_response m ≡ true → may m ≡ true) → (text : List ℕ) (r : Response) (o : Option ReplyTo) → AllFit (replied text r o)
  replied_fit gives text r None = tt
  replied_fit gives text r (Some to) = by to.reply
    where
      by : (o : Option ℕ) → AllFit (cons_option (option_map (handed_reply text r to) o) [])
      by None = tt
      by (Some k) = (record { number = refl; flying = refl; kind = gives _ refl }, tt)

  passed_fit : ((m : Message) → is_response m ≡ true → may m ≡ true) → (faces : List (ℕ × OpenFace)) (ts : List Timeout) (rest : List TextMessage) → AllFit rest → AllFit (handed_timeouts faces ts ++ rest)
  passed_fit gives faces [] rest fit = fit
  passed_fit gives faces (t ∷ ts) rest fit = by t.reply (passed_fit gives faces ts rest fit)
    where
      by : (o : Option ℕ) → AllFit (handed_timeouts faces ts ++ rest) → AllFit ((cons_option (option_map (timed_out faces t) o) [] ++ handed_timeouts faces ts) ++ rest)
      by None ih = ih
      by (Some k) ih = (record { number = refl; flying = refl; kind = gives _ refl }, ih)

  requested_fit : ((m : Message) → is_request m ≡ true → may m ≡ true) → ((m : Message) → is_final m ≡ true → may m ≡ true) → (q : QueryState) (face : FaceId) (text : List ℕ) (r : Request) (os : List QueryTargetQabl) → AllFit (handed_requests q face text r os)
  requested_fit gives ends q face text r [] = (record { number = refl; flying = refl; kind = ends _ refl }, tt)
  requested_fit gives ends q face text r (o ∷ os) = requests_fit gives q text r (o ∷ os)

or_left : (a b : Bool) → a ≡ true → (a || b) ≡ true
or_left true b e = refl
or_left false b e = absurd (let gap : false ≡ true = e in cc)

or_right : (a b : Bool) → b ≡ true → (a || b) ≡ true
or_right true b e = refl
or_right false b e = e

granted_fit : (names : NamingState) (c : Core) (t : TextCall) → AllFit names (may_text t) (granted c t).messages
unfolding may_text
granted_fit names c (closing face) = finals_fit names (λ m. is_final m || is_declaration m) (λ m e. or_left (is_final m) (is_declaration m) e) (closing_finals face.0 c.queries)
granted_fit names c (asking face s r now) =
    requested_fit names (λ m. is_request m || is_final m) (λ m e. or_left (is_request m) (is_final m) e) (λ m e. or_right (is_request m) (is_final m) e) c.queries face (full_text s) r (select c face s r)
granted_fit names c (replying face s r) = replied_fit names is_response (λ m e. e) (full_text s) r (next_reply face.0 r.rid c.queries)
granted_fit names c (ending face rid) = finals_fit names is_final (λ m e. e) (finals_after (is_entry face.0 rid) c.queries.closed c.queries.records)
granted_fit names c (reporting reply) = finals_fit names is_final (λ m e. e) (finals_landed reply c.queries.closed c.queries.records)
granted_fit names c (passing now) =
    passed_fit names (λ m. is_response m || is_final m) (λ m e. or_left (is_response m) (is_final m) e) c.faces (timeouts now c.queries) (map text_final (passing_finals now c.queries))
    (finals_fit names (λ m. is_response m || is_final m) (λ m e. or_right (is_response m) (is_final m) e) (passing_finals now c.queries))
granted_fit names c t = tt

-- what is told are declarations
declared_fit : (s : State) (t : TextCall) (may : Message → Bool) → ((d : Declare) → may (message.Declare d) ≡ true) → AllByRecursion (IsFit may) (told_by s t).handed
declared_fit s t may gives = told_all (IsFit may) (λ to d. record { number = refl; flying = refl; kind = gives d }) (accepted s.core t) (told_of s.core t) (renamed s t)

told_fit : (s : State) (t : TextCall) → AllByRecursion (IsFit (may_text t)) (told_by s t).handed
unfolding may_text
told_fit s (opening o) = declared_fit s (opening o) is_declaration (λ d. refl)
told_fit s (closing face) = declared_fit s (closing face) (λ m. is_final m || is_declaration m) (λ d. refl)
told_fit s (declaring face id sd i n) = declared_fit s (declaring face id sd i n) is_declaration (λ d. refl)
told_fit s (withdrawing face id) = declared_fit s (withdrawing face id) is_declaration (λ d. refl)
told_fit s (announcing face sd i n) = declared_fit s (announcing face sd i n) is_declaration (λ d. refl)
told_fit s (retracting face sd n) = declared_fit s (retracting face sd n) is_declaration (λ d. refl)
told_fit s (networking r net) = declared_fit s (networking r net) is_declaration (λ d. refl)
told_fit s (hearing face id keys sd) = declared_fit s (hearing face id keys sd) is_declaration (λ d. refl)
told_fit s (unhearing face id) = declared_fit s (unhearing face id) is_declaration (λ d. refl)
told_fit s t = tt

-- through the gates it stays so
fits_out : (may : Message → Bool) → KeptOut (λ z w. AllByRecursion (IsFit may) z.handed)
fits_out may text z w it = all_out text (IsFit may) (λ h left fit. record { number = fit.number; flying = fit.flying; kind = fit.kind }) z.handed w.gates it

finals_fit_too : (may : Message → Bool) → ((m : Message) → is_final m ≡ true → may m ≡ true) → (fs : List Final) → AllByRecursion (λ f. IsFit may (sent_final f)) fs
finals_fit_too may ends [] = tt
finals_fit_too may ends (f ∷ fs) = (record { number = refl; flying = refl; kind = ends _ refl }, finals_fit_too may ends fs)

text_fits : (s : State) (t : TextCall) → AllByRecursion (IsFit (may_text t)) (fully s.names (told_by s t) (granted s.core t)).handed
text_fits s t = all_append (IsFit (may_text t)) (write s.names (granted s.core t).messages) (told_by s t).handed (granted_fit s.names s.core t) (told_fit s t)

answer_fits : (s : State) (t : TextCall) → AllByRecursion (IsFit (may_text t)) (answer s t).handed
unfolding may_text is_asking
answer_fits s (asking face sd r now) =
    by_granted (λ z w. AllByRecursion (IsFit (λ m. is_request m || is_final m)) z.handed) s (asking face sd r now)
    (fits_out (λ m. is_request m || is_final m))
    (λ p places z w it.
    all_ended (IsFit (λ m. is_request m || is_final m)) z.handed (finish w.core (p ∷ places)).finals it
    (finals_fit_too (λ m. is_request m || is_final m) (λ m e. or_right (is_request m) (is_final m) e) (finish w.core (p ∷ places)).finals))
    (λ h. text_fits s (asking face sd r now))
    (λ r. tt)
answer_fits s t = by_told (λ z w. AllByRecursion (IsFit (may_text t)) z.handed) s t refl (fits_out (may_text t)) (λ h. text_fits s t) (λ r. tt)

pub call_fits : (s : State) (c : Call) → AllByRecursion (IsFit (may_hand c)) (step s c).handed
call_fits s c = subst (λ may. AllByRecursion (IsFit may) (step s c).handed) (λ j m. may_read s c m j) (answer_fits s (read s c))

-- ---- declarations stand behind messages of requests
-- behind a declaration there are declarations alone
abbrev Behind : List Handed → Type 0
Behind [] = Unit {0}
Behind (h ∷ hs) = MatchBool (declares h) (AllByRecursion (λ (x : Handed). declares x ≡ true) hs) (Behind hs)

declared_parts : (hs : List Handed) → AllByRecursion (λ h. declares h ≡ true) hs → (filter is_of_request hs ≡ []) × (filter declares hs ≡ hs)
declared_parts [] all = (refl, refl)
declared_parts (h ∷ hs) all =
    let e = declared_parts hs all.1 in (
      ap (λ b. cond (not b) (h ∷ filter is_of_request hs) (filter is_of_request hs)) all.0 ∙ e.0,
      ap (λ b. cond b (h ∷ filter declares hs) (filter declares hs)) all.0 ∙ ap (λ l. h ∷ l) e.1,
    )

behind_parts : (hs : List Handed) → Behind hs → filter is_of_request hs ++ filter declares hs ≡ hs
behind_parts [] b = refl
behind_parts (h ∷ hs) b = by (declares h) b (behind_parts hs)
  where
    by : (c : Bool) → MatchBool c (AllByRecursion (λ (x : Handed). declares x ≡ true) hs) (Behind hs) → (Behind hs → filter is_of_request hs ++ filter declares hs ≡ hs)
        → cond (not c) (h ∷ filter is_of_request hs) (filter is_of_request hs) ++ cond c (h ∷ filter declares hs) (filter declares hs) ≡ h ∷ hs
    by true all more = let e = declared_parts hs all in λ j. e.0 j ++ (h ∷ e.1 j)
    by false rest more = ap (λ l. h ∷ l) (more rest)

behind_all : (hs : List Handed) → AllByRecursion (λ h. declares h ≡ true) hs → Behind hs
behind_all [] all = tt
behind_all (h ∷ hs) all = subst (λ b. MatchBool b (AllByRecursion (λ (x : Handed). declares x ≡ true) hs) (Behind hs)) (sym all.0) all.1

behind_written : (names : NamingState) (ms : List TextMessage) (rest : List Handed) → AllByRecursion (λ h. declares h ≡ true) rest → Behind (write names ms ++ rest)
behind_written names [] rest all = behind_all rest all
behind_written names (text_request r ∷ ms) rest all = behind_written names ms rest all
behind_written names (text_reply r ∷ ms) rest all = behind_written names ms rest all
behind_written names (text_final f ∷ ms) rest all = behind_written names ms rest all

behind_out : (text : List ℕ) (hs : List Handed) (gates : Gates) → Behind hs → Behind (let_out text hs gates).handed
behind_out text [] gates b = tt
behind_out text (h ∷ hs) gates b = by (declares h) b (behind_out text hs more)
  where
    more : Gates
    more = with_given (through text gates h) gates

    by : (c : Bool) → MatchBool c (AllByRecursion (λ (x : Handed). declares x ≡ true) hs) (Behind hs) → (Behind hs → Behind (let_out text hs more).handed)
        → MatchBool c (AllByRecursion (λ (x : Handed). declares x ≡ true) (let_out text hs more).handed) (Behind (let_out text hs more).handed)
    by true all next = all_out text (λ (x : Handed). declares x ≡ true) (λ x left is. is) hs more all
    by false rest next = next rest

-- finals behind messages of requests
none_behind : (hs : List Handed) → list_any declares hs ≡ false → Behind hs
none_behind [] none = tt
none_behind (h ∷ hs) none =
    let p = or_parts (declares h) (list_any declares hs) none in
    subst (λ b. MatchBool b (AllByRecursion (λ (x : Handed). declares x ≡ true) hs) (Behind hs)) (sym p.0) (none_behind hs p.1)

none_written : (names : NamingState) (ms : List TextMessage) → list_any declares (write names ms) ≡ false
none_written names [] = refl
none_written names (text_request r ∷ ms) = none_written names ms
none_written names (text_reply r ∷ ms) = none_written names ms
none_written names (text_final f ∷ ms) = none_written names ms

answer_behind : (s : State) (t : TextCall) → Behind (answer s t).handed
unfolding is_asking
answer_behind s (asking face sd r now) =
    none_behind (answer s (asking face sd r now)).handed
    (by_granted (λ z w. list_any declares z.handed ≡ false) s (asking face sd r now)
    (λ text z w none. any_out text declares (λ h left. refl) z.handed w.gates ∙ none)
    (λ p places z w none. any_ended declares (λ f. refl) z.handed (finish w.core (p ∷ places)).finals ∙ none)
    (λ h. ap (list_any declares) (append-nil (write s.names (granted s.core (asking face sd r now)).messages)) ∙ none_written s.names (granted s.core (asking face sd r now)).messages)
    (λ r. refl))
answer_behind s t =
    by_told (λ z w. Behind z.handed) s t refl
    (λ text z w b. behind_out text z.handed w.gates b)
    (λ h. behind_written s.names (granted s.core t).messages (told_by s t).handed (told_all (λ (h : Handed). declares h ≡ true) (λ to d. refl) (accepted s.core t) (told_of s.core t) (renamed s t)))
    (λ r. tt)

pub call_behind : (s : State) (c : Call) → filter is_of_request (step s c).handed ++ filter declares (step s c).handed ≡ (step s c).handed
call_behind s c = behind_parts (step s c).handed (answer_behind s (read s c))

-- ---- finals stand by number
module _ (names : NamingState) where
  finals_end : (fs : List Final) → ended_in (write names (map text_final fs)) ≡ map asked_number fs
  finals_end [] = refl
  finals_end (f ∷ fs) = ap (λ l. f.number ∷ l) (finals_end fs)

  requests_end : (q : QueryState) (text : List ℕ) (r : Request) (os : List QueryTargetQabl) → ended_in (write names (map (handed_request q text r) os)) ≡ []
  requests_end q text r [] = refl
  requests_end q text r (o ∷ os) = requests_end q text r os

  replied_end : (text : List ℕ) (r : Response) (o : Option ReplyTo) → ended_in (write names (replied text r o)) ≡ []
  replied_end text r None = refl
  replied_end text r (Some to) = by to.reply
    where
      by : (o : Option ℕ) → ended_in (write names (cons_option (option_map (handed_reply text r to) o) [])) ≡ []
      by None = refl
      by (Some k) = refl

  passed_end : (faces : List (ℕ × OpenFace)) (fs : List Final) (ts : List Timeout) → ended_in (write names (handed_timeouts faces ts ++ map text_final fs)) ≡ map asked_number fs
  passed_end faces fs [] = finals_end fs
  passed_end faces fs (t ∷ ts) = by t.reply (passed_end faces fs ts)
    where
      by : (o : Option ℕ) → ended_in (write names (handed_timeouts faces ts ++ map text_final fs)) ≡ map asked_number fs
          → ended_in (write names ((cons_option (option_map (timed_out faces t) o) [] ++ handed_timeouts faces ts) ++ map text_final fs)) ≡ map asked_number fs
      by None ih = ih
      by (Some k) ih = ih

abbrev Rise : List ℕ → Type 0
Rise ns = IsStrictlySortedBy nat_cmp ns

no_rise : Rise []
unfolding IsStrictlySortedBy
no_rise = tt

one_rises : (n : ℕ) → Rise (n ∷ [])
unfolding IsStrictlySortedBy
one_rises n = (tt, tt)

-- the finals of records that a change leaves with nothing
finals_rise : (change : Record → Record) → ((r : Record) → number_of (change r) ≡ number_of r) → (closed : List ℕ) (rs : List Record) → Rise (map number_of rs)
    → Rise (map asked_number (filter (has_open_asker closed) (map final_of (filter is_over (map change rs)))))
finals_rise change same closed rs s =
    sorted_numbers asked_number (has_open_asker closed) (map final_of (filter is_over (map change rs)))
    (subst Rise (sym (map-map final_of asked_number number_of (λ r. refl) (filter is_over (map change rs)))) (sorted_left number_of is_over change same rs s))

granted_rises : (s : State) (t : TextCall) → InNumbers s.core.queries → Rise (ended_in (write s.names (granted s.core t).messages))
granted_rises s (closing face) i =
    subst Rise (sym (finals_end s.names (closing_finals face.0 s.core.queries)))
    (finals_rise (without (at_face face.0)) (λ r. refl) (closed_with face.0 s.core.queries.closed) s.core.queries.records i.numbers)
granted_rises s (asking face sd r now) i = by (select s.core face sd r)
  where
    by : (os : List QueryTargetQabl) → Rise (ended_in (write s.names (handed_requests s.core.queries face (full_text sd) r os)))
    by [] = one_rises s.core.queries.requests
    by (o ∷ os) = subst Rise (sym (requests_end s.names s.core.queries (full_text sd) r (o ∷ os))) no_rise
granted_rises s (replying face sd r) i = subst Rise (sym (replied_end s.names (full_text sd) r (next_reply face.0 r.rid s.core.queries))) no_rise
granted_rises s (ending face rid) i =
    subst Rise (sym (finals_end s.names (finals_after (is_entry face.0 rid) s.core.queries.closed s.core.queries.records)))
    (finals_rise (without (is_entry face.0 rid)) (λ r. refl) s.core.queries.closed s.core.queries.records i.numbers)
granted_rises s (reporting reply) i =
    subst Rise (sym (finals_end s.names (finals_landed reply s.core.queries.closed s.core.queries.records)))
    (finals_rise (without_reply reply) (λ r. refl) s.core.queries.closed s.core.queries.records i.numbers)
granted_rises s (passing now) i =
    let ts = timeouts now s.core.queries in
    let z = timing_out ts s.core.queries in
    subst Rise (sym (passed_end s.names s.core.faces (passing_finals now s.core.queries) ts))
    (finals_rise (without (is_due now)) (λ r. refl) z.closed z.records (numbered_timing ts s.core.queries i).numbers)
granted_rises s t i = no_rise

-- of a request: requests end nothing, and finals of those that did not leave come where there is a request alone
asked_rises : (s : State) (face : FaceId) (text : List ℕ) (r : Request) (c : Core) → Rise (map number_of c.queries.records) → (os : List QueryTargetQabl)
    → Rise (ended_in (map (through text s.gates) (write s.names (handed_requests s.core.queries face text r os)) ++ map sent_final (finish c (unsent (map (through text s.gates) (write s.names (handed_requests s.core.queries face text r os))))).finals))
asked_rises s face text r c rises [] =
    subst (λ (places : List Place). Rise (ended_in (map (through text s.gates) (write s.names (handed_requests s.core.queries face text r [])) ++ map sent_final (finish c places).finals)))
    (sym (none_unsent (map (through text s.gates) (write s.names (handed_requests s.core.queries face text r []))) refl))
    (one_rises s.core.queries.requests)
asked_rises s face text r c rises (o ∷ os) = by (unsent (map (through text s.gates) (write s.names (handed_requests s.core.queries face text r (o ∷ os)))))
  where
    none_end : (xs : List QueryTargetQabl) → ended_in (map (through text s.gates) (write s.names (map (handed_request s.core.queries text r) xs))) ≡ []
    none_end [] = refl
    none_end (x ∷ xs) = none_end xs

    ended_all : (fs : List Final) → ended_in (map (through text s.gates) (write s.names (map (handed_request s.core.queries text r) (o ∷ os))) ++ map sent_final fs) ≡ map asked_number fs
    ended_all fs =
        filter_map-append ended_by (map (through text s.gates) (write s.names (map (handed_request s.core.queries text r) (o ∷ os)))) (map sent_final fs)
        ∙ ap (λ l. l ++ ended_in (map sent_final fs)) (none_end (o ∷ os))
        ∙ each_end fs
      where
        each_end : (gs : List Final) → ended_in (map sent_final gs) ≡ map asked_number gs
        each_end [] = refl
        each_end (g ∷ gs) = ap (λ l. g.number ∷ l) (each_end gs)

    by : (places : List Place) → Rise (ended_in (map (through text s.gates) (write s.names (map (handed_request s.core.queries text r) (o ∷ os))) ++ map sent_final (finish c places).finals))
    by [] = subst Rise (sym (ended_all [])) no_rise
    by (p ∷ places) = subst Rise (sym (ended_all (finish c (p ∷ places)).finals)) (finals_rise (without (is_unsent (p ∷ places))) (λ x. refl) c.queries.closed c.queries.records rises)

answer_rises : (config : Settings) (s : State) → InOrder config s → (t : TextCall) → Rise (ended_in (answer s t).handed)
unfolding is_asking
answer_rises config s i (asking face sd r now) =
    let t = asking face sd r now in
    by_plain (λ z w. Rise (ended_in z.handed)) s t refl
    (λ h. asked_rises s face (full_text sd) r (accepted s.core t) (accepted_in_order config s t h i).numbered.numbers (select s.core face sd r))
    (λ r. no_rise)
answer_rises config s i t =
    by_told (λ z w. Rise (ended_in z.handed)) s t refl
    (λ text z w it. subst Rise (sym (mapped_out text ended_by (λ h left. refl) z.handed w.gates)) it)
    (λ h. subst Rise (sym (mapped_beside s t (write s.names (granted s.core t).messages) ended_by (λ to d. refl))) (granted_rises s t i.numbered))
    (λ r. no_rise)

pub call_ordered : (config : Settings) (s : State) (c : Call) → InOrder config s → IsStrictlySortedBy nat_cmp (ended_in (step s c).handed)
call_ordered config s c i = answer_rises config s i (read s c)
