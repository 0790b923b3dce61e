use Rattle.std.proofs.Common.{◌+◌, ◌∷◌, ◌++◌, [], List, cond, take, ap, sym, ◌∙◌, subst}
use Rattle.std.specs.Prelude.{vec_len}
use Rattle.std.specs.List.{count_by}
use Rattle.std.proofs.lemmas.List.{take_more}
use Rattle.std.proofs.lemmas.List.Folds.{list_any_at}
use Rattle.zq_machine.specs.Handing.{Handed}
use Rattle.zq_machine.specs.Waiting.{hands_reply}
use Rattle.zq_shared.specs.Stored.{is_flying}
use Rattle.zq_shared.proofs.Journals.{counted_more}
use Rattle.zq_shared.specs.Lending.{Lends}
use Rattle.zq_shared.proofs.Lending.{few_more, lends_more, lends_owns}
use Rattle.zq_shared.proofs.telling.hold_all.Goals as goal

pub hold_one-requires-clause-owns : goal.hold_one-requires-clause-owns
hold_one-requires-clause-owns c = (λ n r is.
    lends_owns (take c.messages.message-index c.args.handed.now) c.args.slots.now c.messages.slots c.args.seat.now c.messages.seat c.messages.invariant.lends n
    (c.requires.owns n r (list_any_at (hands_reply n r) c.args.handed.now c.messages.message-index c.message-item.result c.messages-test.true (ap (hands_reply n r) (sym c.message-item.is) ∙ is))))

pub messages-preserved : goal.messages-preserved
messages-preserved c =
    let i = c.messages.message-index in
    let hs = c.args.handed.now in
    let h = c.message-item.result in
    let more = take_more hs i h c.messages-test.true ∙ ap (λ (x : Handed). take i hs ++ x ∷ []) (sym c.message-item.is) in
    record {
      lends = subst (λ (l : List Handed). Lends l c.args.slots.now c.hold_one.new.slots c.args.seat.now c.hold_one.new.seat) (sym more)
          (lends_more (take i hs) h c.args.slots.now c.messages.slots c.hold_one.new.slots c.args.seat.now c.messages.seat c.hold_one.new.seat c.messages.invariant.lends c.hold_one.ensures.lends);
      same = c.hold_one.ensures.same;
      few = few_more (is_flying h) (count_by is_flying (take i hs)) (count_by is_flying (take (i + 1) hs)) (vec_len c.messages.held) (vec_len c.hold_one.new.held)
          (ap (λ (x : Handed). cond (is_flying x) (count_by is_flying (take i hs) + 1) (count_by is_flying (take i hs))) c.message-item.is ∙ counted_more hs i h c.messages-test.true)
          c.hold_one.ensures.few c.messages.invariant.few;
      room = c.hold_one.ensures.room ∙ c.messages.invariant.room;
    }
