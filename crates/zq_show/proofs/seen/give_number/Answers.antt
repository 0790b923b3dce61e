use Rattle.zq_show.proofs.seen.give_number.Goals as goal

pub returns : goal.returns
returns c = rw (← c.in_ok-declared.ensures.key) c.in_ok-declared.ensures.ok
