-- To whom a call hands messages, and on which texts: requests and replies go to open faces, and on keys.
use Rattle.std.proofs.Common.{◌≡◌, ◌∙◌, refl, sym, ap, ℕ, Bool, true, false, cond, not, List, [], ◌∷◌, ◌++◌, fold, map, Option, Some, None, ◌⊎◌, inr}
use Rattle.std.specs.Prelude.{◌+◌, is_some}
use Rattle.std.specs.List.{AllByRecursion, cons_option, list_any}
use Rattle.std.specs.Map.{values_of}
use Rattle.std.specs.Option.{option_map}
use Rattle.std.specs.BTreeMap.{is_at}
use Rattle.std.specs.Ordering.{nat_cmp}
use Rattle.std.specs.Cmp.{nat_eq_equiv}
use Rattle.std.proofs.lemmas.Bool.{false≢true, or_parts}
use Rattle.std.proofs.lemmas.Cmp.{nat_cmp_total}
use Rattle.std.proofs.lemmas.Map.Lookups.{exact_unsigned}
use Rattle.zq_key.specs.Key.{is_key}
use Rattle.zq_key.proofs.Lookups.{found_after_insertion, found_after_removal}
use Rattle.zq_key.proofs.Sorted.{has_put}
use Rattle.zq_message.specs.declared.message.FaceId.{FaceId}
use Rattle.zq_message.specs.declared.message.Request.{Request}
use Rattle.zq_message.specs.declared.message.Response.{Response}
use Rattle.zq_namespace.specs.Entry.{is_error}
use Rattle.zq_strategy.specs.declared.offer.QueryTargetQabl.{QueryTargetQabl}
use Rattle.zq_query.specs.declared.records.Final.{Final}
use Rattle.zq_query.specs.declared.records.ReplyTo.{ReplyTo}
use Rattle.zq_query.specs.declared.records.Timeout.{Timeout}
use Rattle.zq_query.specs.Asking.{given_place}
use Rattle.zq_query.specs.Polling.{dues_at, numbers_in, timed_out as late, timeouts, with_timeout}
use Rattle.zq_query.specs.Records.{QueryState, Record, has_number, is_closed, is_none_left, next_reply, reply_to, request}
use Rattle.zq_query.specs.Tables.{Due}
use Rattle.zq_tables.specs.declared.resolved.Resolved.{Resolved}
use Rattle.zq_tables.specs.declared.resolved.Resolved.TheVariants as said
use Rattle.zq_machine.specs.declared.face.OpenFace.{OpenFace}
use Rattle.zq_machine.specs.Configs.{Settings}
use Rattle.zq_machine.specs.Deciding.{accepted, after_replied, causes, handed_reply, handed_request, handed_requests, handed_timeouts, messages_of, opened, passing_finals, refusal_of, replied, timed_out}
use Rattle.zq_machine.specs.Messages.{TextMessage, text_final, text_reply, text_request}
use Rattle.zq_machine.specs.Selecting.{asker_in, full_text, route_for, says_key, select, select_for, target_of}
use Rattle.zq_machine.specs.State.{Core, State, at, is_open}
use Rattle.zq_machine.specs.TextCalls.{TextCall, opening, closing, naming, unnaming, declaring, withdrawing, asking, replying, ending, reporting, passing, listing, finalizing, announcing, retracting, networking, tabling, hearing, unhearing}
use Rattle.zq_machine.proofs.Agreed.{InOrder}
use Rattle.zq_machine.proofs.Asking.{each_kept}
use Rattle.zq_machine.proofs.Asks.{is_asking}
use Rattle.zq_machine.proofs.Changing.{number_test}
use Rattle.zq_machine.proofs.Finals.{IsSound, is_there, put_closed, timing_closed}
use Rattle.zq_machine.proofs.Granted.{all_passed}
use Rattle.zq_machine.proofs.Lists.{all_append, all_failing, all_weaker}
use Rattle.zq_machine.proofs.Targets.{none_offered_shut}
use Rattle.zq_moved.proofs.Lower.{OfAsker, found_there, none_selected}
use Rattle.zq_moved.proofs.Saying.{IsReplyText}

-- ---- each asker that did not close is open
abbrev pub MayHear : Core → FaceId → Type 0
MayHear c f = is_closed c.queries.closed f.0 ≡ false → is_open f.0 c ≡ true

abbrev pub AskersOpen : Core → Type 0
AskersOpen c = AllByRecursion (λ (r : Record). MayHear c r.asker) c.queries.records

replied_closed : (q : QueryState) (o : Option ReplyTo) → (after_replied o q).closed ≡ q.closed
replied_closed q None = refl
replied_closed q (Some to) = put_closed to.number q (is_some to.reply)

-- who may hear before an accepted call may after it
hears_on : (s : State) (t : TextCall) → IsSound s → (f : FaceId) → MayHear s.core f → MayHear (accepted s.core t) f
hears_on s (opening o) i f may shut = ap is_some (found_after_insertion nat_cmp_total exact_unsigned s.core.next_face f.0 (opened o) s.core.faces) ∙ by (is_at (nat_cmp s.core.next_face) f.0) (may shut)
  where
    by : (b : Bool) → is_open f.0 s.core ≡ true → is_some (cond b (Some (opened o)) (at f.0 s.core.faces)) ≡ true
    by true e = refl
    by false e = e
hears_on s (closing face) i f may shut =
    let p = or_parts (is_at (nat_cmp f.0) face.0) (is_closed s.core.queries.closed f.0) (sym (has_put nat_cmp_total exact_unsigned f.0 face.0 s.core.queries.closed) ∙ shut) in
    let apart : is_at (nat_cmp face.0) f.0 ≡ false = number_test face.0 f.0 ∙ nat_eq_equiv.symm face.0 f.0 ∙ sym (number_test f.0 face.0) ∙ p.0 in
    ap is_some (found_after_removal nat_cmp_total exact_unsigned face.0 f.0 s.core.faces i.sorted ∙ ap (λ b. cond b None (at f.0 s.core.faces)) apart) ∙ may p.1
hears_on s (replying face sd r) i f may shut = may (ap (λ l. is_closed l f.0) (sym (replied_closed s.core.queries (next_reply face.0 r.rid s.core.queries))) ∙ shut)
hears_on s (passing now) i f may shut = may (ap (λ l. is_closed l f.0) (sym (timing_closed now s.core.queries)) ∙ shut)
hears_on s (naming face id sd x) i f may shut = may shut
hears_on s (unnaming face id x) i f may shut = may shut
hears_on s (declaring face id sd j n) i f may shut = may shut
hears_on s (withdrawing face id) i f may shut = may shut
hears_on s (asking face sd r now) i f may shut = may shut
hears_on s (ending face rid) i f may shut = may shut
hears_on s (reporting reply) i f may shut = may shut
hears_on s (listing r table) i f may shut = may shut
hears_on s (finalizing face m set) i f may shut = may shut
hears_on s (announcing face sd j node) i f may shut = may shut
hears_on s (retracting face sd node) i f may shut = may shut
hears_on s (networking r net) i f may shut = may shut
hears_on s (tabling face ids) i f may shut = may shut
hears_on s (hearing face id m sd) i f may shut = may shut
hears_on s (unhearing face id) i f may shut = may shut

module _ (s : State) (i : IsSound s) (all : AskersOpen s.core) where
  quiet_askers : (t : TextCall) → is_asking t ≡ false → AskersOpen (accepted s.core t)
  quiet_askers t quiet =
      all_weaker (λ (r : Record). MayHear s.core r.asker) (λ (r : Record). MayHear (accepted s.core t) r.asker) (λ r may. hears_on s t i r.asker may) (accepted s.core t).queries.records
      (each_kept (λ n f id qos. MayHear s.core f) s.core t quiet all)

  new_asker : (face : FaceId) (b : Bool) (x : Record) → x.asker ≡ face → is_open face.0 s.core ≡ true → AllByRecursion (λ (r : Record). MayHear s.core r.asker) (cond b [] (x ∷ []))
  new_asker face true x is there = tt
  new_asker face false x is there = ((λ shut. ap (λ (f : FaceId). is_open f.0 s.core) is ∙ there), tt)

  pub accepted_askers : (t : TextCall) → refusal_of s.core t ≡ None → AskersOpen (accepted s.core t)
  unfolding is_asking
  accepted_askers (asking face sd r now) fits =
      all_append (λ (x : Record). MayHear s.core x.asker) s.core.queries.records _ all
      (new_asker face (is_none_left (map (given_place s.core.queries) (map target_of (select s.core face sd r)))) _ refl (is_there (is_open face.0 s.core) (all_passed (causes s.core (asking face sd r now)) fits).0))
  accepted_askers (opening o) fits = quiet_askers (opening o) refl
  accepted_askers (closing face) fits = quiet_askers (closing face) refl
  accepted_askers (naming face id sd x) fits = quiet_askers (naming face id sd x) refl
  accepted_askers (unnaming face id x) fits = quiet_askers (unnaming face id x) refl
  accepted_askers (declaring face id sd j n) fits = quiet_askers (declaring face id sd j n) refl
  accepted_askers (withdrawing face id) fits = quiet_askers (withdrawing face id) refl
  accepted_askers (replying face sd r) fits = quiet_askers (replying face sd r) refl
  accepted_askers (ending face rid) fits = quiet_askers (ending face rid) refl
  accepted_askers (reporting reply) fits = quiet_askers (reporting reply) refl
  accepted_askers (passing now) fits = quiet_askers (passing now) refl
  accepted_askers (listing r table) fits = quiet_askers (listing r table) refl
  accepted_askers (finalizing face m set) fits = quiet_askers (finalizing face m set) refl
  accepted_askers (announcing face sd j node) fits = quiet_askers (announcing face sd j node) refl
  accepted_askers (retracting face sd node) fits = quiet_askers (retracting face sd node) refl
  accepted_askers (networking r net) fits = quiet_askers (networking r net) refl
  accepted_askers (tabling face ids) fits = quiet_askers (tabling face ids) refl
  accepted_askers (hearing face id m sd) fits = quiet_askers (hearing face id m sd) refl
  accepted_askers (unhearing face id) fits = quiet_askers (unhearing face id) refl

selected_says : (c : Core) (asker : FaceId) (s : Resolved) (r : Request) (x : QueryTargetQabl) (xs : List QueryTargetQabl) → select c asker s r ≡ x ∷ xs → is_key (full_text s) ≡ true
selected_says c asker s r x xs e = by (at asker.0 c.faces) e
  where
    full : (z : Resolved) → says_key z ≡ true → is_key (full_text z) ≡ true
    full said.Unscoped h = absurd (false≢true h)
    full said.Empty h = absurd (false≢true h)
    full (said.Full t) h = h

    keyed : (b : Bool) (ys : List QueryTargetQabl) → says_key s ≡ b → cond b ys [] ≡ x ∷ xs → is_key (full_text s) ≡ true
    keyed true ys h e = full s h
    keyed false ys h e = absurd (cc)

    by : (o : Option OpenFace) → select_for c asker s r o ≡ x ∷ xs → is_key (full_text s) ≡ true
    by None e = absurd (cc)
    by (Some o) e = keyed (says_key s) (values_of (route_for c (asker_in c asker r.node o) (full_text s) r.target)) refl e

-- ---- messages go to open faces
-- a request is on the text that is asked, which is a key; a reply is on a key, or, if it is an error, on none
abbrev pub Good : List ℕ → List (ℕ × OpenFace) → TextMessage → Type 0
Good asked faces (text_request r) = (is_key r.text ≡ true) × (is_some (at r.to.0 faces) ≡ true) × (r.text ≡ asked)
Good asked faces (text_reply r) = IsReplyText r × (is_some (at r.to.0 faces) ≡ true)
Good asked faces (text_final f) = Unit {0}

abbrev pub AllGood : List ℕ → List (ℕ × OpenFace) → List TextMessage → Type 0
AllGood asked faces ms = AllByRecursion (Good asked faces) ms

pub finals_good : (asked : List ℕ) (faces : List (ℕ × OpenFace)) (fs : List Final) → AllGood asked faces (map text_final fs)
finals_good asked faces [] = tt
finals_good asked faces (f ∷ fs) = (tt, finals_good asked faces fs)

module _ (c : Core) (askers : AskersOpen c) where
  -- ---- replies
  reply_by : (asked text : List ℕ) (r : Response) (f : Final) → MayHear c f.asker → ((is_key text ≡ true) ⊎ ((text ≡ []) × (is_error r.payload ≡ true))) → (b : Bool) → is_closed c.queries.closed f.asker.0 ≡ b
      → AllGood asked c.faces (cons_option (option_map (handed_reply text r (reply_to c.queries f)) (cond b None (Some c.queries.replies))) [])
  reply_by asked text r f may on true e = tt
  reply_by asked text r f may on false e = ((on, may e), tt)

  pub reply_good : (asked text : List ℕ) (r : Response) (o : Option Final) → OfAsker (MayHear c) o → ((is_key text ≡ true) ⊎ ((text ≡ []) × (is_error r.payload ≡ true))) → AllGood asked c.faces (replied text r (option_map (reply_to c.queries) o))
  reply_good asked text r None may on = tt
  reply_good asked text r (Some f) may on = reply_by asked text r f may on (is_closed c.queries.closed f.asker.0) refl

  -- ---- deadlines
  abbrev MayTime : Timeout → Type 0
  MayTime t = is_some t.reply ≡ true → is_open t.asker.0 c ≡ true

  late_may : (reply : ℕ) (d : Due) (f : Final) → MayHear c f.asker → MayTime (late c.queries reply d f)
  late_may reply d f may = by (is_closed c.queries.closed f.asker.0) refl
    where
      by : (b : Bool) → is_closed c.queries.closed f.asker.0 ≡ b → is_some (cond b None (Some reply)) ≡ true → is_open f.asker.0 c ≡ true
      by true e h = absurd (false≢true h)
      by false e h = may e

  more_may : (ts : List Timeout) (d : Due) → AllByRecursion MayTime ts → AllByRecursion MayTime (with_timeout c.queries ts d)
  more_may ts d all = all_append MayTime ts _ all (by (request d.1 c.queries.records) (found_there (MayHear c) (has_number d.1) c.queries.records askers))
    where
      by : (o : Option Final) → OfAsker (MayHear c) o → AllByRecursion MayTime (cons_option (option_map (late c.queries (c.queries.replies + numbers_in ts) d) o) [])
      by None may = tt
      by (Some f) may = (late_may (c.queries.replies + numbers_in ts) d f may, tt)

  all_may : (ds : List Due) (ts : List Timeout) → AllByRecursion MayTime ts → AllByRecursion MayTime (fold (with_timeout c.queries) ts ds)
  all_may [] ts all = all
  all_may (d ∷ ds) ts all = all_may ds (with_timeout c.queries ts d) (more_may ts d all)

  timeouts_good : (asked : List ℕ) (faces : List (ℕ × OpenFace)) (ts : List Timeout) → AllByRecursion MayTime ts → AllGood asked c.faces (handed_timeouts faces ts)
  timeouts_good asked faces [] all = tt
  timeouts_good asked faces (t ∷ ts) all = by t.reply all.0 (timeouts_good asked faces ts all.1)
    where
      by : (o : Option ℕ) → (is_some o ≡ true → is_open t.asker.0 c ≡ true) → AllGood asked c.faces (handed_timeouts faces ts) → AllGood asked c.faces (cons_option (option_map (timed_out faces t) o) [] ++ handed_timeouts faces ts)
      by None may rest = rest
      by (Some k) may rest = ((inr (refl, refl), may refl), rest)

  pub passing_good : (asked : List ℕ) (now : ℕ) → AllGood asked c.faces (messages_of c (passing now))
  passing_good asked now =
      all_append (Good asked c.faces) (handed_timeouts c.faces (timeouts now c.queries)) (map text_final (passing_finals now c.queries))
      (timeouts_good asked c.faces (timeouts now c.queries) (all_may (dues_at now c.queries.records) [] tt)) (finals_good asked c.faces (passing_finals now c.queries))

-- ---- requests
requests_good : (c : Core) (text : List ℕ) (r : Request) (os : List QueryTargetQabl) → is_key text ≡ true → AllByRecursion (λ (o : QueryTargetQabl). not (is_open o.face.0 c) ≡ false) os → AllGood text c.faces (map (handed_request c.queries text r) os)
requests_good c text r [] key all = tt
requests_good c text r (o ∷ os) key all = ((key, is_there (is_open o.face.0 c) all.0, refl), requests_good c text r os key all.1)

pub asking_good : (config : Settings) (s : State) → InOrder config s → (face : FaceId) (sd : Resolved) (r : Request) (now : ℕ) → AllGood (full_text sd) s.core.faces (messages_of s.core (asking face sd r now))
asking_good config s i face sd r now = by (select s.core face sd r) refl
  where
    by : (os : List QueryTargetQabl) → select s.core face sd r ≡ os → AllGood (full_text sd) s.core.faces (handed_requests s.core.queries face (full_text sd) r os)
    by [] e = (tt, tt)
    by (o ∷ os) e =
        requests_good s.core (full_text sd) r (o ∷ os) (selected_says s.core face sd r o os e)
        (all_failing (λ (x : QueryTargetQabl). not (is_open x.face.0 s.core)) (o ∷ os)
        (ap (list_any (λ (x : QueryTargetQabl). not (is_open x.face.0 s.core))) (sym e)
        ∙ none_selected (λ x. not (is_open x.face.0 s.core)) s.core face sd r (λ asker. none_offered_shut config s.core.faces s.core.hats s.names i.tied i.hats asker (full_text sd))))
