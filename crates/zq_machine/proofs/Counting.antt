-- Faces and replies are numbered one after another.
use Rattle.std.proofs.Common.{◌≡◌, ◌∙◌, refl, sym, ap, subst, ℕ, ◌+◌, Bool, true, false, cond, List, [], ◌∷◌, ◌++◌, fold, map, Option, Some, None, append_assoc, append-nil, arith, length, length-append}
use Rattle.std.specs.List.{cons_option, filter_map, flat_map}
use Rattle.std.specs.Option.{is_some, option_map}
use Rattle.zq_message.specs.declared.message.FaceId.{FaceId}
use Rattle.zq_message.specs.declared.message.Request.{Request}
use Rattle.zq_message.specs.declared.message.Response.{Response}
use Rattle.zq_strategy.specs.declared.offer.QueryTargetQabl.{QueryTargetQabl}
use Rattle.zq_query.specs.declared.records.Final.{Final}
use Rattle.zq_query.specs.declared.records.ReplyTo.{ReplyTo}
use Rattle.zq_query.specs.declared.records.Timeout.{Timeout}
use Rattle.zq_query.specs.Closing.{closing_finals, finals_after, finals_landed}
use Rattle.zq_query.specs.Polling.{dues_at, numbers_in, timed_out, timeouts, with_timeout}
use Rattle.zq_query.specs.Records.{QueryState, after_put, is_closed, is_entry, next_reply, owner, reply_to, request}
use Rattle.zq_query.specs.Tables.{Due}
use Rattle.zq_query.proofs.Flying.{numbers_given}
use Rattle.zq_query.proofs.TimingOut.{numbers_both}
use Rattle.zq_tables.specs.Naming.{NamingState}
use Rattle.zq_machine.specs.declared.call.Call.{Call}
use Rattle.zq_machine.specs.Handing.{Handed}
use Rattle.zq_machine.specs.declared.call.Step.{Step}
use Rattle.zq_machine.specs.declared.face.OpenFace.{OpenFace}
use Rattle.zq_machine.specs.Asked.{AreCounted, opened_by, opened_in, replies_in, replies_of, reply_number}
use Rattle.zq_machine.specs.Configs.{Settings}
use Rattle.zq_machine.specs.Deciding.{accepted, after_replied, granted, handed_reply, handed_request, handed_requests, handed_timeouts, passing_finals, replied, replied_outcome, timed_out as text_timeout}
use Rattle.zq_machine.specs.Machine.{after, state_after, step, steps_from}
use Rattle.zq_machine.specs.Messages.{text_final}
use Rattle.zq_machine.specs.Selecting.{full_text, select}
use Rattle.zq_machine.specs.State.{State, opening_state}
use Rattle.zq_machine.specs.TextCalls.{TextCall, opening, closing, asking, replying, ending, reporting, passing, read}
use Rattle.zq_machine.specs.Writing.{finish, write}
use Rattle.zq_machine.proofs.GoingOut.{mapped_ended, mapped_out}
use Rattle.zq_machine.proofs.Granted.{by_granted, mapped_beside}

-- ---- what each call counts on from there, a run counts
module _ (next : State → ℕ) (new : Step → List ℕ) (one : (s : State) (c : Call) (rest : List ℕ) → AreCounted (next (after s c)) rest → AreCounted (next s) (new (step s c) ++ rest)) where
  counted_run : (cs : List Call) (s : State) → AreCounted (next s) (flat_map new (steps_from s cs))
  counted_run [] s = tt
  counted_run (c ∷ cs) s = one s c (flat_map new (steps_from (after s c) cs)) (counted_run cs (after s c))

-- ---- faces
none_opened : (o : Option ReplyTo) → opened_by (replied_outcome o) ≡ []
none_opened None = refl
none_opened (Some to) = refl

opens_next : (s : State) (t : TextCall) (rest : List ℕ) → AreCounted (accepted s.core t).next_face rest → AreCounted s.core.next_face (opened_by (granted s.core t).outcome ++ rest)
opens_next s (opening o) rest are = (refl, are)
opens_next s (replying face sd r) rest are = subst (λ l. AreCounted s.core.next_face (l ++ rest)) (sym (none_opened (next_reply face.0 r.rid s.core.queries))) are
opens_next s t rest are = are

pub faces_counted : (config : Settings) (calls : List Call) → AreCounted config.start.faces (opened_in (steps_from (opening_state config) calls))
faces_counted config calls =
    counted_run (λ s. s.core.next_face) (λ t. opened_by t.outcome)
    (λ s c rest. by_granted (λ t z. AreCounted z.core.next_face rest → AreCounted s.core.next_face (opened_by t.outcome ++ rest)) s (read s c) (λ text z w it. it) (λ p places z w it. it) (λ h. opens_next s (read s c) rest) (λ r are. are))
    calls (opening_state config)

-- the next number is the one after those
many_opened : (s : State) (t : TextCall) → (accepted s.core t).next_face ≡ s.core.next_face + length (opened_by (granted s.core t).outcome)
many_opened s (opening o) = refl
many_opened s (replying face sd r) = (let e : s.core.next_face ≡ s.core.next_face + 0 = omega arith in e) ∙ ap (λ (l : List ℕ). s.core.next_face + length l) (sym (none_opened (next_reply face.0 r.rid s.core.queries)))
many_opened s (closing face) = let e : s.core.next_face ≡ s.core.next_face + 0 = omega arith in e
many_opened s (asking face sd r now) = let e : s.core.next_face ≡ s.core.next_face + 0 = omega arith in e
many_opened s t = let e : s.core.next_face ≡ s.core.next_face + 0 = omega arith in e

pub faces_next : (cs : List Call) (s : State) → (state_after s cs).core.next_face ≡ s.core.next_face + length (opened_in (steps_from s cs))
faces_next [] s = let e : s.core.next_face ≡ s.core.next_face + 0 = omega arith in e
faces_next (c ∷ cs) s =
    let one : (after s c).core.next_face ≡ s.core.next_face + length (opened_by (step s c).outcome) =
    by_granted (λ t z. z.core.next_face ≡ s.core.next_face + length (opened_by t.outcome)) s (read s c) (λ text z w it. it) (λ p places z w it. it) (λ h. many_opened s (read s c)) (λ r. (let e : s.core.next_face ≡ s.core.next_face + 0 = omega arith in e)) in
    let all = faces_next cs (after s c) in
    let both : length (opened_by (step s c).outcome ++ opened_in (steps_from (after s c) cs)) ≡ length (opened_by (step s c).outcome) + length (opened_in (steps_from (after s c) cs)) = length-append (opened_by (step s c).outcome) (opened_in (steps_from (after s c) cs)) in
    omega (arith, one, all, both)

-- ---- replies
module _ (names : NamingState) where
  abbrev given : List Handed → List ℕ
  given hs = filter_map reply_number hs

  finals_give : (fs : List Final) → given (write names (map text_final fs)) ≡ []
  finals_give [] = refl
  finals_give (f ∷ fs) = finals_give fs

  requests_give : (q : QueryState) (text : List ℕ) (r : Request) (os : List QueryTargetQabl) → given (write names (map (handed_request q text r) os)) ≡ []
  requests_give q text r [] = refl
  requests_give q text r (o ∷ os) = requests_give q text r os

  asked_give : (q : QueryState) (face : FaceId) (text : List ℕ) (r : Request) (os : List QueryTargetQabl) → given (write names (handed_requests q face text r os)) ≡ []
  asked_give q face text r [] = refl
  asked_give q face text r (o ∷ os) = requests_give q text r (o ∷ os)

  timeouts_give : (faces : List (ℕ × OpenFace)) (fs : List Final) (ts : List Timeout) → given (write names (handed_timeouts faces ts ++ map text_final fs)) ≡ filter_map (λ (t : Timeout). t.reply) ts
  timeouts_give faces fs [] = finals_give fs
  timeouts_give faces fs (t ∷ ts) = by t.reply (timeouts_give faces fs ts)
    where
      by : (o : Option ℕ) → given (write names (handed_timeouts faces ts ++ map text_final fs)) ≡ filter_map (λ (x : Timeout). x.reply) ts
          → given (write names ((cons_option (option_map (text_timeout faces t) o) [] ++ handed_timeouts faces ts) ++ map text_final fs)) ≡ cons_option o (filter_map (λ (x : Timeout). x.reply) ts)
      by None ih = ih
      by (Some k) ih = ap (λ l. k ∷ l) ih

  reply_next : (q : QueryState) (text : List ℕ) (r : Response) (o : Option Final) (rest : List ℕ) → AreCounted (after_replied (option_map (reply_to q) o) q).replies rest
      → AreCounted q.replies (given (write names (replied text r (option_map (reply_to q) o))) ++ rest)
  reply_next q text r None rest are = are
  reply_next q text r (Some f) rest are = by (is_closed q.closed f.asker.0) are
    where
      by : (b : Bool) → AreCounted (cond (is_some (cond b None (Some q.replies))) (after_put f.number q) q).replies rest
          → AreCounted q.replies (given (write names (cons_option (option_map (handed_reply text r (reply_to q f)) (cond b None (Some q.replies))) [])) ++ rest)
      by true are = are
      by false are = (refl, are)

-- timeouts of open askers count up
module _ (s : QueryState) where
  abbrev numbers : List Timeout → List ℕ
  numbers ts = filter_map (λ (t : Timeout). t.reply) ts

  abbrev CountOn : List Timeout → Type 0
  CountOn ts = (rest : List ℕ) → AreCounted (s.replies + numbers_in ts) rest → AreCounted s.replies (numbers ts ++ rest)

  numbers_append : (ts us : List Timeout) → numbers (ts ++ us) ≡ numbers ts ++ numbers us
  numbers_append [] us = refl
  numbers_append (t ∷ ts) us = by t.reply (numbers_append ts us)
    where
      by : (o : Option ℕ) → numbers (ts ++ us) ≡ numbers ts ++ numbers us → cons_option o (numbers (ts ++ us)) ≡ cons_option o (numbers ts) ++ numbers us
      by None ih = ih
      by (Some k) ih = ap (λ l. k ∷ l) ih

  one_more : (ts : List Timeout) (d : Due) → CountOn ts → CountOn (with_timeout s ts d)
  one_more ts d on = by (request d.1 s.records)
    where
      timed : (f : Final) (b : Bool) → CountOn (ts ++ record (timed_out s (s.replies + numbers_in ts) d f) { reply = cond b None (Some (s.replies + numbers_in ts)) } ∷ [])
      timed f true rest are =
          let x = record (timed_out s (s.replies + numbers_in ts) d f) { reply = None } in
          let both = numbers_both ts (x ∷ []) in
          subst (λ l. AreCounted s.replies (l ++ rest)) (sym (numbers_append ts (x ∷ []) ∙ append-nil (numbers ts)))
          (on rest (subst (λ n. AreCounted n rest) (omega (arith, both)) are))
      timed f false rest are =
          let k = s.replies + numbers_in ts in
          let x = record (timed_out s k d f) { reply = Some k } in
          let both = numbers_both ts (x ∷ []) in
          subst (AreCounted s.replies) (sym (ap (λ l. l ++ rest) (numbers_append ts (x ∷ [])) ∙ append_assoc (numbers ts) (k ∷ []) rest))
          (on (k ∷ rest) (refl, subst (λ n. AreCounted n rest) (omega (arith, both)) are))

      by : (o : Option Final) → CountOn (ts ++ cons_option (option_map (timed_out s (s.replies + numbers_in ts) d) o) [])
      by None = subst CountOn (sym (append-nil ts)) on
      by (Some f) = timed f (is_closed s.closed f.asker.0)

  all_more : (ds : List Due) (ts : List Timeout) → CountOn ts → CountOn (fold (with_timeout s) ts ds)
  all_more [] ts on = on
  all_more (d ∷ ds) ts on = all_more ds (with_timeout s ts d) (one_more ts d on)

  pub timeouts_counted : (now : ℕ) → CountOn (timeouts now s)
  timeouts_counted now = all_more (dues_at now s.records) [] (λ rest are. subst (λ n. AreCounted n rest) (omega arith) are)

replies_next : (s : State) (t : TextCall) (rest : List ℕ) → AreCounted (accepted s.core t).queries.replies rest → AreCounted s.core.queries.replies (given s.names (write s.names (granted s.core t).messages) ++ rest)
replies_next s t rest = by t
  where
    nothing : (l : List ℕ) → l ≡ [] → AreCounted s.core.queries.replies rest → AreCounted s.core.queries.replies (l ++ rest)
    nothing l none are = subst (λ x. AreCounted s.core.queries.replies (x ++ rest)) (sym none) are

    by : (t : TextCall) → AreCounted (accepted s.core t).queries.replies rest → AreCounted s.core.queries.replies (given s.names (write s.names (granted s.core t).messages) ++ rest)
    by (closing face) are = nothing _ (finals_give s.names (closing_finals face.0 s.core.queries)) are
    by (asking face sd r now) are = nothing _ (asked_give s.names s.core.queries face (full_text sd) r (select s.core face sd r)) are
    by (replying face sd r) are = reply_next s.names s.core.queries (full_text sd) r (owner face.0 r.rid s.core.queries.records) rest are
    by (ending face rid) are = nothing _ (finals_give s.names (finals_after (is_entry face.0 rid) s.core.queries.closed s.core.queries.records)) are
    by (reporting reply) are = nothing _ (finals_give s.names (finals_landed reply s.core.queries.closed s.core.queries.records)) are
    by (passing now) are =
        let ts = timeouts now s.core.queries in
        subst (λ l. AreCounted s.core.queries.replies (l ++ rest)) (sym (timeouts_give s.names s.core.faces (passing_finals now s.core.queries) ts))
        (timeouts_counted s.core.queries now rest (subst (λ n. AreCounted n rest) (numbers_given ts s.core.queries) are))
    by x are = are

-- one call
pub call_replies : (s : State) (c : Call) (rest : List ℕ) → AreCounted (after s c).core.queries.replies rest → AreCounted s.core.queries.replies (replies_of (step s c) ++ rest)
call_replies s c rest =
    by_granted (λ t z. AreCounted z.core.queries.replies rest → AreCounted s.core.queries.replies (replies_of t ++ rest)) s (read s c)
    (λ text z w it are. subst (λ l. AreCounted s.core.queries.replies (l ++ rest)) (sym (mapped_out text reply_number (λ h left. refl) z.handed w.gates)) (it are))
    (λ p places z w it are. subst (λ l. AreCounted s.core.queries.replies (l ++ rest)) (sym (mapped_ended reply_number (λ f. refl) z.handed (finish w.core (p ∷ places)).finals)) (it are))
    (λ h are.
    subst (λ l. AreCounted s.core.queries.replies (l ++ rest)) (sym (mapped_beside s (read s c) (write s.names (granted s.core (read s c)).messages) reply_number (λ to d. refl)))
    (replies_next s (read s c) rest are))
    (λ r are. are)

pub replies_counted : (config : Settings) (calls : List Call) → AreCounted config.start.replies (replies_in (steps_from (opening_state config) calls))
replies_counted config calls = counted_run (λ s. s.core.queries.replies) replies_of call_replies calls (opening_state config)
