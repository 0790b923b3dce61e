use Rattle.std.proofs.Common.{◌∙◌, ap}
use Rattle.std.proofs.lemmas.Cmp.{nat_cmp_total}
use Rattle.std.proofs.lemmas.Map.Lookups.{exact_unsigned}
use Rattle.zq_query.proofs.Owing.{undone}
use Rattle.zq_told.specs.ToldSets.{closed}
use Rattle.zq_told.specs.Leaving.{fresh_ear}
use Rattle.zq_told.specs.Rooms.{ears_of}
use Rattle.zq_egress.proofs.opening.join.Goals as goal

pub returns-in-Err-clause-no_ears : goal.returns-in-Err-clause-no_ears
returns-in-Err-clause-no_ears c =
    c.close.ensures.ears ∙ ap (closed c.args.face.0) c.in_ok-open.ensures.ok
    ∙ undone nat_cmp_total exact_unsigned (ears_of c.args.ears.now) c.args.face.0 (fresh_ear c.args.last) c.requires.unheard
