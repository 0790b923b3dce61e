use Rattle.std.proofs.Common.{◌≡◌, ◌∙◌, ap, fold, sym}
use Rattle.zq_index.specs.Holders.{Index, without_holding}
use Rattle.zq_hat.specs.Tied.{without_declared}
use Rattle.zq_hat.proofs.faces.forget.Goals as goal

pub loop-id-preserved : goal.loop-id-preserved
loop-id-preserved c =
    let gone : c.take.new.self ≡ without_declared c.args.number c.loop-id.index (c.in-Some.id.now, c.in-Some.declaration.now) =
    c.take.ensures ∙ ap (λ k. without_holding k (c.args.number, c.in-Some.id.now) c.loop-id.index) c.as_str.ensures.text in
    ap (λ (x : Index). fold (without_declared c.args.number) x c.next.new.self) gone
    ∙ ap (fold (without_declared c.args.number) c.loop-id.index) (sym c.in-Some.ensures.steps)
    ∙ c.loop-id.invariant
