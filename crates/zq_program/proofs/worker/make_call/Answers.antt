use Rattle.std.proofs.Common.{◌≡◌, ◌∙◌, ap, sym, subst, true, false}
use Rattle.zq_shared.specs.Refusals.{Counts}
use Rattle.zq_shared.specs.declared.refusal.CallRefusal.{CallRefusal}
use Rattle.zq_program.specs.declared.worker.Ended.{Ended}
use Rattle.zq_program.proofs.Making.{made_full, made_stored}
use Rattle.zq_program.proofs.worker.make_call.Goals.{in-Ok, in-Err-Full, in-Err-LinkFault, in-Err-OutOfMemory}
use Rattle.zq_program.proofs.worker.make_call.Goals as goal

pub returns-clause-made : goal.returns-clause-made
returns-clause-made g c = elim c.match-call.branch [
  | in-Ok w ↦ λ whole. made_stored c.args.call c.args.tally.now c.call.new.tally c.requires.call.0 w.in-Ok.ensures.made
  | in-Err-Full w ↦ λ whole.
      let counts = subst (λ (e : CallRefusal). Counts c.args.call e c.args.tally.now c.call.new.tally) w.in-Err-Full.field-0-is w.in-Err-Full.ensures.counts in
      made_full c.args.call c.args.tally.now c.call.new.tally counts.0 counts.1
  | in-Err-LinkFault w ↦ λ whole.
      let counts = subst (λ (e : CallRefusal). Counts c.args.call e c.args.tally.now c.call.new.tally) w.in-Err-LinkFault.field-0-is w.in-Err-LinkFault.ensures.counts in
      made_stored c.args.call c.args.tally.now c.call.new.tally c.requires.call.0 counts
  | in-Err-OutOfMemory w ↦ λ whole. let e : false ≡ true = sym (ap (λ (x : Ended). x.whole) w.result-is) ∙ whole in absurd (cc)
]
