use Rattle.std.proofs.Common.{◌≡◌, ◌∙◌, List, length, slice_get, sym, ap, arith}
use Rattle.zq_machine.specs.Handing.{Handed}
use Rattle.zq_egress.specs.declared.exits.Exit.{Exit}
use Rattle.zq_egress.specs.Exits.{left_by}
use Rattle.zq_egress.specs.Steps.{left_at}
use Rattle.zq_egress.proofs.Each.{left_last}
use Rattle.zq_egress.proofs.through.put_each.Goals as goal

pub loop-exit-preserved : goal.loop-exit-preserved
loop-exit-preserved c =
    let es : List Exit = c.pop.new.self.items in
    let hs : List Handed = c.loop-exit.handed.items in
    let e : Exit = c.in-Some.exit in
    let count : c.len.result ≡ length es = grind arith in
    ap (left_by es) c.put_at.ensures
    ∙ ap (λ n. left_by es (left_at e.leaves n (slice_get hs n) hs)) count
    ∙ sym (left_last es e hs)
    ∙ ap (λ (l : List Exit). left_by l hs) (sym c.in-Some.ensures.items)
    ∙ c.loop-exit.invariant
