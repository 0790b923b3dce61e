-- Declarations have no number of a request or reply.
use Rattle.std.proofs.Common.{◌≡◌, ◌∙◌, refl, sym, Bool, true, false, not, List, [], ◌∷◌, cond, true≢false}
use Rattle.std.specs.Prelude.{◌||◌, ◌==◌, ℕ}
use Rattle.std.specs.List.{AllByRecursion, list_any}
use Rattle.std.specs.Option.{is_some}
use Rattle.zq_message.specs.declared.message.Interest.{Interest}
use Rattle.zq_message.specs.declared.message.Message.{Message}
use Rattle.zq_message.specs.declared.message.Message.TheVariants as message
use Rattle.zq_machine.specs.declared.call.Call.{Call}
use Rattle.zq_machine.specs.declared.call.Call.TheVariants as call
use Rattle.zq_machine.specs.Handing.{Handed}
use Rattle.zq_machine.specs.Asked.{is_declaration}
use Rattle.zq_machine.specs.Headline.{IsFit, is_response, may_hand}
use Rattle.zq_trace.specs.Headline.{is_numbered, kind, of_kind}

-- no call hands an interest, or the end of one
no_interest : (c : Call) (i : Interest) → may_hand c (message.Interest i) ≡ false
no_interest (call.Request face r now) i = refl
no_interest (call.Response face r) i = refl
no_interest (call.ResponseFinal face rid) i = refl
no_interest (call.Sent reply) i = refl
no_interest (call.Poll now) i = refl
no_interest (call.Open o) i = refl
no_interest (call.Close face) i = refl
no_interest (call.DeclareQueryable face id wire info node) i = refl
no_interest (call.UndeclareQueryable face id wire node) i = refl
no_interest (call.SetNetwork r net) i = refl
no_interest (call.Interest face id keys aggregate wire) i = refl
no_interest (call.InterestFinal face id) i = refl
no_interest c i = refl

no_interest_end : (c : Call) (i : ℕ) → may_hand c (message.InterestFinal i) ≡ false
no_interest_end (call.Request face r now) i = refl
no_interest_end (call.Response face r) i = refl
no_interest_end (call.ResponseFinal face rid) i = refl
no_interest_end (call.Sent reply) i = refl
no_interest_end (call.Poll now) i = refl
no_interest_end (call.Open o) i = refl
no_interest_end (call.Close face) i = refl
no_interest_end (call.DeclareQueryable face id wire info node) i = refl
no_interest_end (call.UndeclareQueryable face id wire node) i = refl
no_interest_end (call.SetNetwork r net) i = refl
no_interest_end (call.Interest face id keys aggregate wire) i = refl
no_interest_end (call.InterestFinal face id) i = refl
no_interest_end c i = refl

-- what fits of the numbers of a message
abbrev IsFitBy : Message → Bool → Bool → Type 0
IsFitBy m number reply = (number ≡ not (is_declaration m)) × (reply ≡ is_response m)

module _ (c : Call) where
  -- a message of the last kind that the call may hand is a declaration, and has neither number
  bare : (m : Message) (number reply : Bool) → (kind m == 3) ≡ true → (may_hand c m ≡ true) → IsFitBy m number reply → (number || reply) ≡ false
  bare (message.Request r) number reply is may fit = absurd (true≢false (sym is))
  bare (message.Response r) number reply is may fit = absurd (true≢false (sym is))
  bare (message.ResponseFinal f) number reply is may fit = absurd (true≢false (sym is))
  bare (message.Interest i) number reply is may fit = absurd (true≢false (sym may ∙ no_interest c i))
  bare (message.InterestFinal i) number reply is may fit = absurd (true≢false (sym may ∙ no_interest_end c i))
  bare (message.Declare d) number reply is may fit = λ j. fit.0 j || fit.1 j

  pub apart : (hs : List Handed) → AllByRecursion (IsFit (may_hand c)) hs → list_any is_numbered (of_kind 3 hs) ≡ false
  apart [] all = refl
  apart (h ∷ hs) all = by (kind h.message == 3) refl (apart hs all.1)
    where
      by : (b : Bool) → (kind h.message == 3) ≡ b → list_any is_numbered (of_kind 3 hs) ≡ false → list_any is_numbered (cond b (h ∷ of_kind 3 hs) (of_kind 3 hs)) ≡ false
      by true is rest = λ j. bare h.message (is_some h.number) (is_some h.reply) is all.0.kind (all.0.number, all.0.flying) j || rest j
      by false is rest = rest
