use Rattle.std.proofs.Common.{map, rules}
use Rattle.std.specs.List.{IsFirstAndRest, list_all}
use Rattle.zq_program.proofs.Crews.{all_first, all_rest, first_served}
use Rattle.zq_program.proofs.crew.+fn-work_all-join_mut+arg3+work_all.Goals as goal

pub join_mut-requires-after_bounds : goal.join_mut-requires-after_bounds
join_mut-requires-after_bounds g t c =
    let crew : IsFirstAndRest c.args.crew.now c.in-Some.first.now c.in-Some.rest.now = search rules in
    let first = all_first g.K.Works.ready c.args.crew.now c.in-Some.first.now c.in-Some.rest.now c.requires.ready crew in
    let rest = all_rest g.K.Works.ready c.args.crew.now c.in-Some.first.now c.in-Some.rest.now c.requires.ready crew in
    λ _ _. (first, search rules)

pub returns-clause-faults : goal.returns-clause-faults
returns-clause-faults g t c =
    let links : IsFirstAndRest c.args.links.now c.in-Some-split_first_mut.link.now c.in-Some-split_first_mut.others.now = search rules in
    first_served g.L.Link.faults (g.K.Works.sent c.first-2-1.given.0) (list_all g.K.Works.sent c.rest-1.given.0) c.args.links.now c.in-Some-split_first_mut.others.now c.in-Some-split_first_mut.link.now (g.L.Link.faults c.link-2-1.given.0) (map g.L.Link.faults c.others-1.given.0) links (search rules) (search rules)
