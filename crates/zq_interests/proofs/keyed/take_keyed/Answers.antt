use Rattle.std.proofs.Common.{◌∙◌, sym}
use Rattle.zq_index.specs.Texts.{texts_of}
use Rattle.zq_interests.proofs.Under.{both_true, fit_but, fit_still, none_in}
use Rattle.zq_interests.proofs.keyed.take_keyed.Goals as goal

pub drop_last-requires-clause-empty : goal.drop_last-requires-clause-empty
drop_last-requires-clause-empty c = none_in _ (both_true _ _ (sym c.take_from.ensures.empty ∙ c.if-take_from.true)).1

pub drop_last-requires-clause-fit : goal.drop_last-requires-clause-fit
drop_last-requires-clause-fit c =
    fit_but c.args.key.now c.args.place (texts_of c.args.keys.now.entries) (texts_of c.take_from.new.keys.entries) c.args.lists.now c.requires c.take_from.ensures.texts c.take_from.ensures.after

pub returns-else-take_from-clause-fit : goal.returns-else-take_from-clause-fit
returns-else-take_from-clause-fit c =
    fit_still c.args.key.now c.args.place (texts_of c.args.keys.now.entries) (texts_of c.take_from.new.keys.entries) c.args.lists.now c.requires c.take_from.ensures.texts c.take_from.ensures.after
    (sym c.take_from.ensures.empty ∙ c.if-take_from.false)
