-- What the receivers of a call's messages hear is what faces are told.
use Rattle.std.proofs.Common.{◌≡◌, ◌∙◌, ap, true, cond, ◌∷◌, ◌++◌, None}
use Rattle.std.proofs.lemmas.Bool.{false≢true}
use Rattle.zq_machine.specs.declared.call.Call.{Call}
use Rattle.zq_machine.specs.Configs.{Settings}
use Rattle.zq_machine.specs.Deciding.{answered, granted, is_accepted, refusal_of, renamed, told_of}
use Rattle.zq_machine.specs.Headline.{TellPromise}
use Rattle.zq_machine.specs.Hearing.{hear}
use Rattle.zq_machine.specs.Machine.{accepted_state, follow}
use Rattle.zq_machine.specs.State.{State}
use Rattle.zq_machine.specs.TextCalls.{TextCall, read}
use Rattle.zq_machine.specs.Writing.{finish, write}
use Rattle.zq_machine.proofs.Agreed.{InOrder, granted_in_order}
use Rattle.zq_machine.proofs.DueHeard.{written_unheard}
use Rattle.zq_machine.proofs.GoingOut.{hear_ended, hear_out}
use Rattle.zq_machine.proofs.Granted.{by_granted, granted_is_accepted, told_by}
use Rattle.zq_machine.proofs.NeighboursTold.{due_heard}

-- an accepted call is followed
pub followed : (s : State) (t : TextCall) → refusal_of s.core t ≡ None → follow s t ≡ accepted_state s t
followed s t h =
    ap (λ o. cond (is_accepted (answered o (granted s.core t)).outcome) (accepted_state s t) s) h
    ∙ ap (λ b. cond b (accepted_state s t) s) (granted_is_accepted s.core t h)

-- what the messages of an accepted call say
pub granted_heard : (config : Settings) (s : State) (c : Call) → InOrder config s → refusal_of s.core (read s c) ≡ None
    → hear (write s.names (granted s.core (read s c)).messages ++ (told_by s (read s c)).handed) (follow s (read s c)).names ≡ told_of s.core (read s c)
granted_heard config s c i h =
    let t = read s c in
    ap (λ (z : State). hear (write s.names (granted s.core t).messages ++ (told_by s t).handed) z.names) (followed s t h)
    ∙ written_unheard s.names (granted s.core t).messages (told_by s t).handed (renamed s t)
    ∙ due_heard config s i t h (granted_in_order config s c h i)

pub tell_promise : (config : Settings) (s : State) (c : Call) → InOrder config s → TellPromise s c
tell_promise config s c i =
    let t = read s c in
    by_granted (λ z w. is_accepted z.outcome ≡ true → hear z.handed (follow s t).names ≡ told_of s.core t) s t
    (λ text z w it a. hear_out text z.handed w.gates (follow s t).names ∙ it a)
    (λ p places z w it a. hear_ended (finish w.core (p ∷ places)).finals z.handed (follow s t).names ∙ it a)
    (λ h a. granted_heard config s c i h)
    (λ r a. absurd (false≢true a))
