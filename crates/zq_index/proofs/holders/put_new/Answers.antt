use Rattle.std.proofs.Common.{sym, subst}
use Rattle.zq_index.specs.Holders.{AreListed}
use Rattle.zq_index.specs.Texts.{texts_of}
use Rattle.zq_index.proofs.Listed.{listed_first}
use Rattle.zq_index.proofs.holders.put_new.Goals as goal

pub returns-in-Ok-clause-listed : goal.returns-in-Ok-clause-listed
returns-in-Ok-clause-listed g c =
    let more = c.put.new.self in
    let index = texts_of c.args.keys.now.entries in
    subst (λ es. AreListed es more) (sym c.in-Ok.ensures.ok)
    (listed_first g.P.Ord.cmp c.args.key.now c.args.place c.args.info index c.args.lists.now more c.requires.absent c.requires.listed c.put.ensures.wider c.in_ok-put.ensures.ok)
