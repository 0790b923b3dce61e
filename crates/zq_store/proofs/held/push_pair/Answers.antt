use Rattle.zq_store.proofs.Plainness.{plain_is_key}
use Rattle.zq_store.proofs.held.push_pair.Goals as goal

pub intersects-requires-clause-first : goal.intersects-requires-clause-first
intersects-requires-clause-first c = plain_is_key c.args.text.now c.requires
