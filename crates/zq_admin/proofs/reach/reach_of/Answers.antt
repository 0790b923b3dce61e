use Rattle.zq_admin.proofs.Reached.{apart_texts, met_behind}
use Rattle.zq_admin.proofs.reach.reach_of.Goals as goal

pub returns-in-Some : goal.returns-in-Some
returns-in-Some c = met_behind c.args.front.now c.args.key.now c.in-Some.rest.now c.in-Some.ensures c.requires.front c.requires.key

pub returns-in-Some-apart : goal.returns-in-Some-apart
returns-in-Some-apart c =
    apart_texts c.args.front.now c.args.key.now c.as_bytes.result.now c.as_bytes-2.result.now c.in-Some-apart.field-0 c.as_bytes.ensures.value c.as_bytes-2.ensures.value c.in-Some-apart.ensures
