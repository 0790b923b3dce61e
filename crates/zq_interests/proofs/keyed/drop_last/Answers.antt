use Rattle.std.proofs.Common.{sym, subst}
use Rattle.zq_index.specs.Texts.{texts_of}
use Rattle.zq_interests.specs.Kept.{AreFit}
use Rattle.zq_interests.proofs.Under.{fit_less}
use Rattle.zq_interests.proofs.keyed.drop_last.Goals as goal

pub returns-clause-fit : goal.returns-clause-fit
returns-clause-fit c =
    subst (AreFit (texts_of c.drop_text.new.keys.entries)) (sym c.take.ensures)
    (fit_less c.args.key.now (texts_of c.args.keys.now.entries) (texts_of c.drop_text.new.keys.entries) c.args.lists.now c.drop_text.ensures.entries c.drop_text.ensures.gone c.requires.empty c.requires.fit)
