use Rattle.std.proofs.Common.{◌∙◌, ◌++◌, ap, arith, get_or}
use Rattle.std.proofs.lemmas.List.{drop_all}
use Rattle.zq_message.specs.declared.message.Zid.{Zid}
use Rattle.zq_strategy.specs.declared.network.Tree.{Tree}
use Rattle.zq_strategy.specs.Networks.{root_told_by, standing_by}
use Rattle.zq_strategy.specs.Seating.{seated}
use Rattle.zq_routers.proofs.Handing.{told_all, told_more, told_trees}
use Rattle.zq_routers.proofs.networks.NetworkChange.tell_trees.Goals as goal
use Rattle.zq_routers.proofs.networks.NetworkChange.tell_trees.Goals.{then-loop-i-test+else-i-trees, else-loop-i-test}

pub loop-i-preserved : goal.loop-i-preserved
loop-i-preserved c =
    let this = c.args.self.now in
    let ns = c.args.nodes.now in
    let stands = standing_by this.own this.own_entries.now this.entries.now in
    let first : Zid = record { 0 = 0 } in
    told_more stands (λ (zid : Zid). seated zid this.seats.now) this.before.now this.net.now
    ns c.args.trees.now c.loop-i.i first c.index-trees-i.result c.loop-i.tellings c.tell_root.new.tellings c.loop-i-test.true c.if-i-trees.true
    (c.in_ok-tell_root.ensures ∙ ap (λ (t : Tree). c.loop-i.tellings ++ root_told_by stands (λ (zid : Zid). seated zid this.seats.now) this.before.now this.net.now (get_or ns c.loop-i.i first) t) c.index-trees-i.is)
    ∙ c.loop-i.invariant

pub returns : goal.returns
returns c =
    let this = c.args.self.now in
    let ns = c.args.nodes.now in
    let ts = c.args.trees.now in
    let i = c.loop-i.i in
    let stands = standing_by this.own this.own_entries.now this.entries.now in
    elim c.loop-i-test.branch [
      | then-loop-i-test+else-i-trees w ↦ told_trees stands (λ (zid : Zid). seated zid this.seats.now) this.before.now this.net.now ns ts i c.loop-i.tellings (drop_all i ts (let u = w.if-i-trees.false in omega (arith, u))) c.loop-i.invariant
      | else-loop-i-test w ↦ told_all stands (λ (zid : Zid). seated zid this.seats.now) this.before.now this.net.now ns ts i c.loop-i.tellings (drop_all i ns (let u = w.loop-i-test.false in omega (arith, u))) c.loop-i.invariant
    ]
