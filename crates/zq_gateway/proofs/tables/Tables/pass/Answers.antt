use Rattle.std.proofs.Common.{◌≡◌, ◌∙◌, refl, sym, ap, [], ◌++◌, map, false, append-nil}
use Rattle.std.specs.List.{list_any}
use Rattle.zq_query.specs.Polling.{after_poll, lacks_replies, timeouts}
use Rattle.zq_machine.specs.declared.call.Outcome.TheVariants as outcome
use Rattle.zq_machine.specs.Deciding.{handed_timeouts, passing_finals, with_queries}
use Rattle.zq_machine.specs.Gates.{through}
use Rattle.zq_machine.specs.Headline.{asks}
use Rattle.zq_machine.specs.Messages.{text_final}
use Rattle.zq_machine.specs.State.{State}
use Rattle.zq_machine.specs.TextCalls.{passing}
use Rattle.zq_machine.specs.Writing.{write}
use Rattle.zq_machine.proofs.Writing.{poll_fits}
use Rattle.zq_gateway.proofs.Quiet.{need_no_text, passing_asks, quiet_goes, quiet_stays, timeouts_ask}
use Rattle.zq_gateway.proofs.tables.Tables.pass.Goals as goal

pub let_out-requires-clause-keys : goal.let_out-requires-clause-keys
let_out-requires-clause-keys c =
    let s : State = c.args.self.now in
    let told : c.in_ok-handed.handed ≡ write s.names (handed_timeouts s.core.faces (timeouts c.args.now s.core.queries)) =
    rw (← c.self.view_is) (c.in_ok-handed.ensures ∙ ap (λ ts. write c.self.inside.names (handed_timeouts c.self.inside.faces.entries ts)) (c.as_slice.ensures ∙ c.in-Ok.ensures.list)) in
    need_no_text [] c.in_ok-handed.handed (ap (list_any asks) told ∙ timeouts_ask s c.args.now)

pub returns : goal.returns
returns c =
    let s : State = c.args.self.now in
    let t = passing c.args.now in
    let v = c.self.view_is in
    let late = timeouts c.args.now s.core.queries in
    let fits : lacks_replies late s.core.queries ≡ false = rw (← v) c.in-Ok.ensures.fits in
    let quiet : passing_finals c.args.now s.core.queries ≡ [] = rw (← v) c.in_ok-poll_planned.ensures.quiet in
    let told : c.in_ok-handed.handed ≡ write s.names (handed_timeouts s.core.faces late) =
    rw (← v) (c.in_ok-handed.ensures ∙ ap (λ ts. write c.self.inside.names (handed_timeouts c.self.inside.faces.entries ts)) (c.as_slice.ensures ∙ c.in-Ok.ensures.list)) in
    let all = told ∙ ap (write s.names) (sym (append-nil (handed_timeouts s.core.faces late))) ∙ ap (λ fs. write s.names (handed_timeouts s.core.faces late ++ map text_final fs)) (sym quiet) in
    let goes = c.in_ok-handed-2.ensures.out ∙ (λ j. map (through [] (v j).gates) (all j)) in
    let queries = c.in_ok-poll_planned.ensures.after ∙ ap (λ (x : State). after_poll c.args.now x.core.queries) v in
    record {
      step = ap (λ hs. record { outcome = outcome.Done; handed = hs }) goes ∙ quiet_goes s t refl (passing_asks c.args.now) (poll_fits s c.args.now fits);
      after =
          (λ j. record { core = with_queries (v j).core (queries j); names = (v j).names; gates = (c.in_ok-handed-2.ensures.same ∙ ap (λ (x : State). x.gates) v) j })
          ∙ sym (quiet_stays s t refl (passing_asks c.args.now) (poll_fits s c.args.now fits));
      err = tt;
    }
