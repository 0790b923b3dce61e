-- How many replies a call hands.
use Rattle.std.proofs.Common.{◌≡◌, ℕ, ◌≤◌, true, false, cond, List, [], ◌∷◌, ◌++◌, map, length, Option, Some, None, refl, sym, ap, ◌∙◌, subst, arith}
use Rattle.std.specs.List.{AllByRecursion, cons_option, filter_map, list_any}
use Rattle.std.specs.Option.{is_some, option_map}
use Rattle.std.proofs.lemmas.Bool.{false≢true, or_parts}
use Rattle.zq_query.specs.declared.records.Final.{Final}
use Rattle.zq_query.specs.declared.records.Timeout.{Timeout}
use Rattle.zq_query.specs.Polling.{lacks_replies, timeouts}
use Rattle.zq_tables.specs.Naming.{NamingState}
use Rattle.zq_machine.specs.declared.call.Call.TheVariants as call
use Rattle.zq_machine.specs.declared.call.Refusal.{Refusal}
use Rattle.zq_machine.specs.declared.call.Step.{Step}
use Rattle.zq_machine.specs.declared.call.Refusal.TheVariants as refusal
use Rattle.zq_machine.specs.declared.face.OpenFace.{OpenFace}
use Rattle.zq_query.specs.declared.records.ReplyTo.{ReplyTo}
use Rattle.zq_message.specs.declared.message.FaceId.{FaceId}
use Rattle.zq_message.specs.declared.message.Response.{Response}
use Rattle.zq_machine.specs.declared.call.Call.{Call}
use Rattle.zq_machine.specs.Asked.{replies_of, reply_number}
use Rattle.zq_machine.specs.Deciding.{handed_reply, handed_timeouts, passing_finals, refusal_of, timed_out}
use Rattle.zq_machine.specs.Headline.{IsFit, RefusesBy, may_hand, replies_to}
use Rattle.zq_machine.specs.Gates.{Gates, through}
use Rattle.zq_machine.specs.Handing.{Handed}
use Rattle.zq_machine.specs.Machine.{step}
use Rattle.zq_machine.specs.State.{State}
use Rattle.zq_machine.specs.TextCalls.{passing, read}
use Rattle.zq_machine.specs.Writing.{sent_final, write}
use Rattle.zq_machine.proofs.Handing.{call_fits}
use Rattle.zq_machine.proofs.Promises.{refusal_promise, reply_promise}

-- how many replies are handed
abbrev given : List Handed → ℕ
given hs = length (filter_map reply_number hs)

-- what leaves of messages does not change which of them are replies
through_given : (text : List ℕ) (gates : Gates) (hs rest : List Handed) → filter_map reply_number (map (through text gates) hs ++ rest) ≡ filter_map reply_number (hs ++ rest)
through_given text gates [] rest = refl
through_given text gates (h ∷ hs) rest = ap (cons_option h.reply) (through_given text gates hs rest)

finals_hand : (fs : List Final) → given (map sent_final fs) ≡ 0
finals_hand [] = refl
finals_hand (f ∷ fs) = finals_hand fs

module _ (names : NamingState) (faces : List (ℕ × OpenFace)) (fs : List Final) where
  timeouts_hand : (ts : List Timeout) → given (write names (handed_timeouts faces ts) ++ map sent_final fs) ≤ length ts
  timeouts_hand [] = let none = finals_hand fs in omega arith
  timeouts_hand (t ∷ ts) = by t.reply (timeouts_hand ts)
    where
      by : (o : Option ℕ) → given (write names (handed_timeouts faces ts) ++ map sent_final fs) ≤ length ts
          → given (write names (cons_option (option_map (timed_out faces t) o) [] ++ handed_timeouts faces ts) ++ map sent_final fs) ≤ length (t ∷ ts)
      by None ih = omega arith
      by (Some k) ih = omega arith

-- a moment hands no more replies than entries are late
pub passing_hands : (s : State) (now : ℕ) → length (replies_of (step s (call.Poll now))) ≤ length (timeouts now s.core.queries)
passing_hands s now = by (refusal_of s.core (passing now)) (refusal_promise s (call.Poll now))
  where
    by : (o : Option Refusal) → RefusesBy o s (call.Poll now) → length (replies_of (step s (call.Poll now))) ≤ length (timeouts now s.core.queries)
    by None accepts =
        subst (λ (l : List Handed). given l ≤ length (timeouts now s.core.queries)) (sym (reply_promise s (call.Poll now) accepts))
        (subst (λ (l : List ℕ). length l ≤ length (timeouts now s.core.queries)) (sym (through_given [] s.gates (write s.names (handed_timeouts s.core.faces (timeouts now s.core.queries))) (map sent_final (passing_finals now s.core.queries))))
        (timeouts_hand s.names s.core.faces (passing_finals now s.core.queries) (timeouts now s.core.queries)))
    by (Some r) refuses = let none = ap (λ (t : Step). length (replies_of t)) refuses.0 in omega arith

-- none where too few numbers are left
pub lacking_hands : (s : State) (now : ℕ) → lacks_replies (timeouts now s.core.queries) s.core.queries ≡ true → length (replies_of (step s (call.Poll now))) ≡ 0
lacking_hands s now lacks =
    let refuses : RefusesBy (Some refusal.NoFreeId) s (call.Poll now) =
    subst (λ o. RefusesBy o s (call.Poll now)) (ap (λ b. cond b (Some refusal.NoFreeId) None) lacks) (refusal_promise s (call.Poll now)) in
    ap (λ (t : Step). length (replies_of t)) refuses.0

-- messages none of which is a reply have no reply's number
fit_quiet : (may : _) (hs : List Handed) → AllByRecursion (IsFit may) hs → list_any replies_to hs ≡ false → filter_map reply_number hs ≡ []
fit_quiet may [] all none = refl
fit_quiet may (h ∷ hs) all none =
    let parts = or_parts (replies_to h) (list_any replies_to hs) none in
    by h.reply (all.0.flying ∙ parts.0) (fit_quiet may hs all.1 parts.1)
  where
    by : (o : Option ℕ) → is_some o ≡ false → filter_map reply_number hs ≡ [] → cons_option o (filter_map reply_number hs) ≡ []
    by None e rest = rest
    by (Some k) e rest = absurd (false≢true (sym e))

module _ (s : State) where
  -- a reply hands one at most
  pub response_hands : (face : FaceId) (r : Response) → length (replies_of (step s (call.Response face r))) ≤ 1
  response_hands face r = by (refusal_of s.core (read s (call.Response face r))) (refusal_promise s (call.Response face r))
    where
      one : (text : List ℕ) (goes : ReplyTo) (o : Option ℕ) → length (filter_map reply_number (map (through [] s.gates) (write s.names (cons_option (option_map (handed_reply text r goes) o) [])))) ≤ 1
      one text goes None = omega arith
      one text goes (Some k) = omega arith

      by : (o : Option Refusal) → RefusesBy o s (call.Response face r) → length (replies_of (step s (call.Response face r))) ≤ 1
      by None accepts = let h = reply_promise s (call.Response face r) accepts in
          subst (λ (l : List Handed). length (filter_map reply_number l) ≤ 1) (sym h.handed) (one _ h.goes h.goes.reply)
      by (Some x) refuses = let none = ap (λ (t : Step). length (replies_of t)) refuses.0 in omega arith

  -- a call that is no reply and no moment hands none
  pub others_hand : (c : Call) → ((now : ℕ) → c ≡ call.Poll now → ⊥) → ((face : FaceId) (r : Response) → c ≡ call.Response face r → ⊥) → length (replies_of (step s c)) ≤ 0
  others_hand c no_poll no_response = by c refl
    where
      none : (x : Call) → replies_of (step s x) ≡ [] → length (replies_of (step s x)) ≤ 0
      none x e = let n = ap length e in omega arith

      by : (x : Call) → c ≡ x → length (replies_of (step s x)) ≤ 0
      by (call.Poll now) e = absurd (no_poll now e)
      by (call.Response face r) e = absurd (no_response face r e)
      by (call.Open o) e = none (call.Open o) (fit_quiet (may_hand (call.Open o)) _ (call_fits s (call.Open o)) (reply_promise s (call.Open o)))
      by (call.Close face) e = none (call.Close face) (fit_quiet (may_hand (call.Close face)) _ (call_fits s (call.Close face)) (reply_promise s (call.Close face)))
      by (call.DeclareKeyExpr face id wire) e = let x = call.DeclareKeyExpr face id wire in none x (fit_quiet (may_hand x) _ (call_fits s x) (reply_promise s x))
      by (call.UndeclareKeyExpr face id) e = let x = call.UndeclareKeyExpr face id in none x (fit_quiet (may_hand x) _ (call_fits s x) (reply_promise s x))
      by (call.DeclareQueryable face id wire info node) e = let x = call.DeclareQueryable face id wire info node in none x (fit_quiet (may_hand x) _ (call_fits s x) (reply_promise s x))
      by (call.UndeclareQueryable face id wire node) e = let x = call.UndeclareQueryable face id wire node in none x (fit_quiet (may_hand x) _ (call_fits s x) (reply_promise s x))
      by (call.Interest face id keys aggregate wire) e = let x = call.Interest face id keys aggregate wire in none x (fit_quiet (may_hand x) _ (call_fits s x) (reply_promise s x))
      by (call.InterestFinal face id) e = let x = call.InterestFinal face id in none x (fit_quiet (may_hand x) _ (call_fits s x) (reply_promise s x))
      by (call.FinalizeInterest face mark set) e = let x = call.FinalizeInterest face mark set in none x (fit_quiet (may_hand x) _ (call_fits s x) (reply_promise s x))
      by (call.Request face r now) e = let x = call.Request face r now in none x (fit_quiet (may_hand x) _ (call_fits s x) (reply_promise s x))
      by (call.ResponseFinal face rid) e = let x = call.ResponseFinal face rid in none x (fit_quiet (may_hand x) _ (call_fits s x) (reply_promise s x))
      by (call.Sent reply) e = let x = call.Sent reply in none x (fit_quiet (may_hand x) _ (call_fits s x) (reply_promise s x))
      by (call.SetGateways r table) e = let x = call.SetGateways r table in none x (fit_quiet (may_hand x) _ (call_fits s x) (reply_promise s x))
      by (call.SetNetwork r net) e = let x = call.SetNetwork r net in none x (fit_quiet (may_hand x) _ (call_fits s x) (reply_promise s x))
      by (call.SetNodeIds face ids) e = let x = call.SetNodeIds face ids in none x (fit_quiet (may_hand x) _ (call_fits s x) (reply_promise s x))
