use Rattle.zq_index.specs.Texts.{texts_of}
use Rattle.zq_interests.proofs.Under.{fit_more}
use Rattle.zq_interests.proofs.keyed.put_new.Goals as goal

pub returns-in-Ok-clause-fit : goal.returns-in-Ok-clause-fit
returns-in-Ok-clause-fit c =
    fit_more c.args.key.now c.args.place (texts_of c.args.keys.now.entries) (texts_of c.put_first.new.keys.entries) c.args.lists.now c.put.new.self c.requires.fit c.requires.key c.in-Ok.ensures.texts c.in-Ok.ensures.ok c.put.ensures.wider c.in_ok-put.ensures.ok
