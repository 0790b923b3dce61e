use Rattle.std.proofs.Common.{◌∙◌, ap, sym, List, [], ◌∷◌, ◌++◌, take}
use Rattle.std.proofs.lemmas.List.{take_more}
use Rattle.zq_query.specs.Records.{QueryState, Record, any_over, letting_go_all}
use Rattle.zq_machine.specs.Handing.{Handed}
use Rattle.zq_machine.specs.Writing.{unsent}
use Rattle.zq_egress.proofs.Unsent.{none_over, one_more}
use Rattle.zq_egress.proofs.letting.let_go_unsent.Goals as goal

pub loop-message-preserved : goal.loop-message-preserved
loop-message-preserved c standing =
    let q : QueryState = c.args.queries.now in
    let hs = c.args.handed.now in
    let i = c.loop-message.message-index in
    let h = c.message-item.result in
    let now = c.loop-message.invariant standing in
    c.let_go.ensures (ap (λ (z : QueryState). any_over z.records) now ∙ none_over (unsent (take i hs)) q.records standing)
    ∙ ap (λ (z : QueryState). record z { records = letting_go_all z.records (unsent (h ∷ [])) }) now
    ∙ ap (λ (rs : List Record). record q { records = rs }) (one_more q.records (take i hs) (h ∷ []) ∙ ap (λ l. letting_go_all q.records (unsent l)) (ap (λ (x : Handed). take i hs ++ x ∷ []) c.message-item.is ∙ sym (take_more hs i h c.loop-message-test.true)))
