use Rattle.std.proofs.Common.{sym, ◌∙◌}
use Rattle.std.proofs.lemmas.Bool.{false≢true}
use Rattle.zq_names.proofs.Forgetting.{Drops-none, Drops-written}
use Rattle.zq_names.proofs.forget.forget_at.Goals as goal

pub returns-then-not-contains : goal.returns-then-not-contains
returns-then-not-contains c = Drops-none c.args.nodes.now.slots c.args.id c.args.holder (λ some. false≢true (sym c.if-not-contains.true ∙ c.contains.ensures.1 some))

pub returns : goal.returns
returns c =
    let e = c.drop_match.ensures in
    Drops-written c.args.nodes.now.slots c.args.id c.args.holder c.index_mut.result.now c.drop_match.new.node c.index_mut.ensures.value e.matches e.text e.context e.holds e.former
