-- What a line is told, in two steps.
use Rattle.std.proofs.Common.{◌≡◌, ℕ, List, Option, Some, None, refl, ◌∙◌}
use Rattle.zq_machine.specs.declared.call.Call.{Call}
use Rattle.zq_machine.specs.declared.call.Step.{Step}
use Rattle.zq_machine.specs.Machine.{after, step}
use Rattle.zq_store.specs.declared.lines.Line.{Line}
use Rattle.zq_store.specs.declared.outcome.LineOutcome.{LineOutcome}
use Rattle.zq_store.specs.Outcomes.{line_after, line_outcome}
use Rattle.zq_spoken.specs.Line.{asked, said}
use Rattle.zq_spoken.specs.Storages.{Did, DidTell, Stocked}
use Rattle.zq_spoken.specs.Storages as storages
use Rattle.zq_spoken.specs.Talk.{Answered, Spoken, Told, printed_by}
use Rattle.zq_spoken.specs.Talk.{printed as talk_printed}
use Rattle.zq_spoken.specs.declared.speaker.Speaker.{Speaker}
use Rattle.zq_spoken.specs.declared.speaker.Speaker.TheVariants as speaker
use Rattle.zq_spoken.specs.Speaker.{Answers, IsUnprinted, Tells, printed}
use Rattle.std.specs.Prelude.{IsSomeAnd}

told_by : (s mid : Spoken) (c : Call) (o : Option Step) → mid.state ≡ after s.state c → o ≡ Some (step s.state c) → Told s (printed_by o mid) c
told_by s mid c o e f = rw f (record { state = e; none = refl; print = refl })

told_call : (s mid : Spoken) (o : Option Call) → IsSomeAnd o (λ c. Answered s mid c) → IsSomeAnd o (λ c. Told s (talk_printed mid) c)
told_call s mid None a = a
told_call s mid (Some c) a = told_by s mid c mid.step a.state a.step

did_by : (s mid : Stocked) (l : Line) (o : Option LineOutcome) → mid.bus ≡ line_after s.bus l → o ≡ Some (line_outcome s.bus l) → DidTell s (storages.printed_by o mid) l
did_by s mid l o e f = rw f (record { bus = e; none = refl; print = refl })

told_did : (s mid : Stocked) (o : Option Line) → IsSomeAnd o (λ l. Did s mid l) → IsSomeAnd o (λ l. DidTell s (storages.printed mid) l)
told_did s mid None a = a
told_did s mid (Some l) a = did_by s mid l mid.outcome a.bus a.outcome

told_line : (s mid : Speaker) (line : List ℕ) → Answers s mid line → Tells s (printed mid) line
told_line (speaker.Gateway s) (speaker.Gateway mid) line a = told_call s mid (said line) a
told_line (speaker.Bus s) (speaker.Bus mid) line a = told_did s mid (asked line) a
told_line (speaker.Gateway s) (speaker.Bus mid) line a = a
told_line (speaker.Bus s) (speaker.Gateway mid) line a = a

-- it was done, and then printed
pub tells_of : (s mid then : Speaker) (line : List ℕ) → Answers s mid line → then ≡ printed mid → Tells s then line
tells_of s mid then line a e = rw e (told_line s mid line a)

kept_call : (s mid then : Spoken) (o : Option Call) → IsSomeAnd o (λ c. Answered s mid c) → then.state ≡ mid.state → then.step ≡ mid.step → IsSomeAnd o (λ c. Answered s then c)
kept_call s mid then None a e f = a
kept_call s mid then (Some c) a e f = record { state = e ∙ a.state; step = f ∙ a.step }

kept_did : (s mid then : Stocked) (o : Option Line) → IsSomeAnd o (λ l. Did s mid l) → then.bus ≡ mid.bus → then.outcome ≡ mid.outcome → IsSomeAnd o (λ l. Did s then l)
kept_did s mid then None a e f = a
kept_did s mid then (Some l) a e f = record { bus = e ∙ a.bus; outcome = f ∙ a.outcome }

-- it was done, and is not printed
pub answers_kept : (s mid then : Speaker) (line : List ℕ) → Answers s mid line → IsUnprinted mid then → Answers s then line
answers_kept (speaker.Gateway s) (speaker.Gateway mid) (speaker.Gateway then) line a k = kept_call s mid then (said line) a k.0 k.1
answers_kept (speaker.Bus s) (speaker.Bus mid) (speaker.Bus then) line a k = kept_did s mid then (asked line) a k.0 k.1
answers_kept (speaker.Gateway s) (speaker.Gateway mid) (speaker.Bus then) line a k = absurd k
answers_kept (speaker.Gateway s) (speaker.Bus mid) then line a k = absurd a
answers_kept (speaker.Bus s) (speaker.Bus mid) (speaker.Gateway then) line a k = absurd k
answers_kept (speaker.Bus s) (speaker.Gateway mid) then line a k = absurd a
