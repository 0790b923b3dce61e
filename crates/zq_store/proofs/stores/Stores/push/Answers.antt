use Rattle.std.proofs.Common.{ap, length, arith}
use Rattle.zq_store.specs.Stores.{size_all}
use Rattle.zq_store.proofs.Sizes.{size_put}
use Rattle.zq_store.proofs.stores.Stores.push.Goals as goal

pub invariant_of-self-2 : goal.invariant_of-self-2
invariant_of-self-2 c = λ fits.
    omega (arith, ap size_all c.in_ok-push.ensures.items, size_put c.self.inside.list.items c.args.storage, ap length c.requires, c.self.invariant fits)
