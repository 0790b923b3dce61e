use Rattle.std.proofs.Common.{◌≡◌, ◌++◌, ℕ, List, ap, subst}
use Rattle.zq_names.specs.Names.{entry_at}
use Rattle.zq_tables.specs.Holding.{TakesHold}
use Rattle.zq_tables.proofs.Letting.{made_room, takes}
use Rattle.zq_tables.proofs.hold.take_hold.Goals as goal
use Rattle.zq_tables.proofs.Made.{fresh_made}

pub hold-requires-clause-room : goal.hold-requires-clause-room
hold-requires-clause-room c =
    let text = (entry_at c.args.names.now c.root-root.result.0).text ++ c.args.key.now in
    made_room c.args.names.now c.make_resource.new.self text c.in-Ok.node.0 c.in-Ok.ensures.named.live c.in-Ok.ensures.named.text c.in-Ok.ensures.kept
    (fresh_made c.args.names.now c.make_resource.new.self c.in-Ok.node text c.in-Ok.ensures.made) c.requires.room

pub returns-clause-ok : goal.returns-clause-ok
returns-clause-ok c =
    let key = c.args.key.now in
    let text = (entry_at c.args.names.now c.root-root.result.0).text ++ key in
    let whole : text ≡ key = ap (λ (t : List ℕ). t ++ key) c.root-root.ensures.text in
    let T : List ℕ → Type 0 = λ (t : List ℕ). TakesHold c.args.names.now c.hold.new.self t c.in-Ok.node.0 in
    let taken = takes c.args.names.now c.make_resource.new.self text c.in-Ok.node.0 c.in-Ok.ensures.named.live c.in-Ok.ensures.named.text c.in-Ok.ensures.kept
    (fresh_made c.args.names.now c.make_resource.new.self c.in-Ok.node text c.in-Ok.ensures.made) c.hold.new.self c.hold.ensures.entries c.hold.ensures.all c.in-Ok.ensures.lean in
    subst T whole taken
