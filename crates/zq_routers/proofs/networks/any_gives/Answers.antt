use Rattle.std.proofs.Common.{◌∙◌, ap, sym, arith, drop, get_or, Bool, ◌+◌}
use Rattle.std.specs.Prelude.{◌||◌}
use Rattle.std.proofs.lemmas.List.{drop_all}
use Rattle.zq_message.specs.declared.message.Zid.{Zid}
use Rattle.zq_strategy.specs.declared.network.Tree.{Tree}
use Rattle.zq_strategy.specs.Networks.{any_gives, gives_child}
use Rattle.zq_strategy.specs.Seating.{seated}
use Rattle.zq_routers.proofs.Handing.{gives_more, none_gives, none_gives_trees}
use Rattle.zq_routers.proofs.networks.any_gives.Goals as goal

pub loop-i-preserved : goal.loop-i-preserved
loop-i-preserved c =
    let face = λ (zid : Zid). seated zid c.args.seats.now in
    let ns = c.args.nodes.now in
    let ts = c.args.trees.now in
    let i = c.loop-i.i in
    let first : Zid = record { 0 = 0 } in
    let rest = any_gives face c.args.before.now c.args.net.now c.args.root (drop (i + 1) ns) (drop (i + 1) ts) in
    ap (λ (b : Bool). b || rest)
    (sym c.if-gives.false ∙ c.in_ok-gives.ensures ∙ ap (λ (t : Tree). gives_child face c.args.before.now c.args.net.now c.args.root (get_or ns i first) t) c.index-trees-i.is)
    ∙ sym (gives_more face c.args.before.now c.args.net.now c.args.root ns ts i first c.index-trees-i.result c.loop-i-test.true c.if-i-trees.true)
    ∙ c.loop-i.invariant

pub returns-then-gives : goal.returns-then-gives
returns-then-gives c =
    let face = λ (zid : Zid). seated zid c.args.seats.now in
    let ns = c.args.nodes.now in
    let ts = c.args.trees.now in
    let i = c.loop-i.i in
    let first : Zid = record { 0 = 0 } in
    let rest = any_gives face c.args.before.now c.args.net.now c.args.root (drop (i + 1) ns) (drop (i + 1) ts) in
    ap (λ (b : Bool). b || rest)
    (sym c.if-gives.true ∙ c.in_ok-gives.ensures ∙ ap (λ (t : Tree). gives_child face c.args.before.now c.args.net.now c.args.root (get_or ns i first) t) c.index-trees-i.is)
    ∙ sym (gives_more face c.args.before.now c.args.net.now c.args.root ns ts i first c.index-trees-i.result c.loop-i-test.true c.if-i-trees.true)
    ∙ c.loop-i.invariant

pub returns-else-i-trees : goal.returns-else-i-trees
returns-else-i-trees c =
    none_gives_trees (λ (zid : Zid). seated zid c.args.seats.now) c.args.before.now c.args.net.now c.args.root c.args.nodes.now c.args.trees.now c.loop-i.i (drop_all c.loop-i.i c.args.trees.now (let u = c.if-i-trees.false in omega (arith, u)))
    ∙ c.loop-i.invariant

pub returns-after-loop-i : goal.returns-after-loop-i
returns-after-loop-i c =
    none_gives (λ (zid : Zid). seated zid c.args.seats.now) c.args.before.now c.args.net.now c.args.root c.args.nodes.now c.args.trees.now c.loop-i.i (drop_all c.loop-i.i c.args.nodes.now (let u = c.loop-i-test.false in omega (arith, u)))
    ∙ c.loop-i.invariant
