use Rattle.zq_program.proofs.Listed.{all_may_make}
use Rattle.zq_program.proofs.sharing.share.Goals as goal

pub share_named-requires-clause-parts : goal.share_named-requires-clause-parts
share_named-requires-clause-parts g c κs within = all_may_make c.args.parts.items c.requires.calls
