use Rattle.std.proofs.Common.{◌∙◌, ◌+◌, ◌++◌, ◌∷◌, [], ℕ, List, sym, ap, get_or, take}
use Rattle.std.proofs.lemmas.List.{get_or-map}
use Rattle.zq_strategy.specs.declared.offer.QueryTargetQabl.{QueryTargetQabl}
use Rattle.zq_query.specs.Asking.{given_id, given_place}
use Rattle.zq_query.proofs.Giving.{map_more}
use Rattle.zq_query.proofs.Entries.{map_both}
use Rattle.zq_machine.specs.Selecting.{target_of}
use Rattle.zq_machine.specs.Writing.{written}
use Rattle.zq_machine.specs.Deciding.{handed_request}
use Rattle.zq_egress.proofs.write.requests_to.Goals as goal

pub written_request-requires : goal.written_request-requires
written_request-requires c =
    let q = c.args.queries.now in
    let os = c.args.offers.now in
    let i = c.loop-i.i in
    let o = c.index-offers-i.result in
    let place : QueryTargetQabl → ℕ × ℕ = λ (x : QueryTargetQabl). given_place q (target_of x) in
    ap (λ (l : List (ℕ × ℕ)). (get_or l i (0, 0)).1) (c.requires ∙ map_both (given_place q) target_of os)
    ∙ ap (λ (p : ℕ × ℕ). p.1) (get_or-map place os i o (0, 0) c.loop-i-test.true)
    ∙ ap (λ (x : QueryTargetQabl). given_id q x.face) (sym c.index-offers-i.is)

pub loop-i-preserved : goal.loop-i-preserved
loop-i-preserved c =
    let names = c.args.names.now in
    let made = handed_request c.args.queries.now c.args.text.now c.args.request.now in
    let os = c.args.offers.now in
    let i = c.loop-i.i in
    let o = c.index-offers-i.result in
    let new = c.in_ok-written_request.ensures ∙ ap (λ (x : QueryTargetQabl). written names (made x)) c.index-offers-i.is in
    c.in_ok-push.ensures.ok
    ∙ (λ j. c.loop-i.invariant j ++ new j ∷ [])
    ∙ (λ j. map_both (written names) made (take i os) j ++ written names (made (get_or os i o)) ∷ [])
    ∙ sym (map_both (written names) made (take (i + 1) os) ∙ map_more (λ (x : QueryTargetQabl). written names (made x)) os i o c.loop-i-test.true)
