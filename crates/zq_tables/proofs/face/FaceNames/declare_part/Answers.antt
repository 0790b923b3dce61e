use Rattle.std.proofs.lemmas.Result.{on_ok_weaker}
use Rattle.zq_tables.proofs.IdLemmas.{next_unused}
use Rattle.zq_tables.proofs.face.FaceNames.declare_part.Goals as goal

pub returns-clause-ok : goal.returns-clause-ok
returns-clause-ok c =
    let face = c.args.self.now in
    let named = rw c.in-Some.is at c.nonwild_prefix.ensures.prefix in
    on_ok_weaker c.declare.result (λ new. record { node = c.in-Some.part.0; given = new; named = (next_unused face.theirs face.ours c.args.id c.requires.next, named.live, named.text) }) c.declare.ensures.ok
