use Rattle.std.proofs.Common.{◌≡◌, ◌∙◌, ◌++◌, sym, ap, refl, cond, not, Bool, true, false, get_or, Some, None, [], ◌∷◌, Option, List}
use Rattle.std.specs.List.{list_any}
use Rattle.std.specs.Option.{option_to_list}
use Rattle.std.proofs.lemmas.List.Elements.{filter_more}
use Rattle.zq_message.specs.declared.message.Zid.{Zid}
use Rattle.zq_strategy.specs.Nets.{children_of, is_zid}
use Rattle.zq_routers.proofs.children.fresh_ids.Goals as goal

by : (b : Bool) (zid : Zid) → option_to_list (cond b None (Some zid)) ≡ cond (not b) (zid ∷ []) []
by true zid = refl
by false zid = refl

pub loop-zid-preserved : goal.loop-zid-preserved
loop-zid-preserved c =
    let first : Zid = record { 0 = 0 } in
    let zid = get_or c.args.ids.now c.loop-zid.zid-index first in
    let had = children_of c.args.old.now c.args.root in
    c.in_ok-push_some.ensures
    ∙ ap (λ (o : Option Zid). c.loop-zid.fresh.items ++ option_to_list o) c.unless_among.ensures
    ∙ ap (λ (b : Bool). c.loop-zid.fresh.items ++ option_to_list (cond b None (Some zid))) (c.in_ok-had.ensures zid)
    ∙ ap (λ (l : List Zid). c.loop-zid.fresh.items ++ l) (by (list_any (is_zid zid) had) zid)
    ∙ ap (λ (l : List Zid). l ++ cond (not (list_any (is_zid zid) had)) (zid ∷ []) []) c.loop-zid.invariant
    ∙ sym (filter_more (λ (z : Zid). not (list_any (is_zid z) had)) c.args.ids.now c.loop-zid.zid-index first c.loop-zid-test.true)
