use Rattle.std.proofs.Common.{◌≡◌, ◌∙◌, sym, ap, true}
use Rattle.std.specs.Option.{is_some}
use Rattle.zq_index.specs.Texts.{texts_of, at_text}
use Rattle.zq_index.specs.Holders.{without_holding_by}
use Rattle.zq_index.proofs.Holding.{emptied, lessened}
use Rattle.zq_index.proofs.holders.KeyHolders.take.Goals as goal

pub returns-then-take_from : goal.returns-then-take_from
returns-then-take_from g c =
    let index = texts_of c.self.inside.keys.entries in
    let there : is_some (at_text c.args.key.now index) ≡ true = ap (λ i. is_some (at_text c.args.key.now i)) c.self.view_is ∙ sym c.has.ensures ∙ c.if-not-has.false in
    c.drop_last.ensures.after ∙ emptied g.P.Ord.cmp c.args.key.now c.args.place index (texts_of c.take_from.new.keys.entries) c.take_from.result there c.take_from.ensures.after c.if-take_from.true
    ∙ ap (without_holding_by g.P.Ord.cmp c.args.key.now c.args.place) c.self.view_is

pub returns-else-take_from : goal.returns-else-take_from
returns-else-take_from g c =
    let index = texts_of c.self.inside.keys.entries in
    let there : is_some (at_text c.args.key.now index) ≡ true = ap (λ i. is_some (at_text c.args.key.now i)) c.self.view_is ∙ sym c.has.ensures ∙ c.if-not-has.false in
    lessened g.P.Ord.cmp c.args.key.now c.args.place index (texts_of c.take_from.new.keys.entries) c.take_from.result there c.take_from.ensures.after c.if-take_from.false
    ∙ ap (without_holding_by g.P.Ord.cmp c.args.key.now c.args.place) c.self.view_is
