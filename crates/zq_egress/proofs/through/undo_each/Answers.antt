use Rattle.std.proofs.Common.{◌≡◌, ◌∙◌, List, length, slice_get, sym, ap, arith}
use Rattle.zq_machine.specs.Gates.{Gates}
use Rattle.zq_machine.specs.Handing.{Handed}
use Rattle.zq_egress.specs.declared.exits.Exit.{Exit}
use Rattle.zq_egress.specs.Exits.{undone_by}
use Rattle.zq_egress.specs.Steps.{undone_if}
use Rattle.zq_egress.proofs.Each.{undone_last}
use Rattle.zq_egress.proofs.through.undo_each.Goals as goal

pub loop-exit-preserved : goal.loop-exit-preserved
loop-exit-preserved c =
    let es : List Exit = c.pop.new.self.items in
    let hs : List Handed = c.args.handed.now in
    let gates : Gates = c.loop-exit.gates.entries in
    let e : Exit = c.in-Some.exit in
    let count : c.len.result ≡ length es = grind arith in
    ap (undone_by es hs) c.undo_if.ensures
    ∙ ap (λ n. undone_by es hs (undone_if e (slice_get hs n) gates)) count
    ∙ sym (undone_last es e hs gates)
    ∙ ap (λ (l : List Exit). undone_by l hs gates) (sym c.in-Some.ensures.items)
    ∙ c.loop-exit.invariant
