use Rattle.std.specs.Option.{is_some}
use Rattle.std.proofs.Common.{◌∙◌, ap, true, cond, sym}
use Rattle.std.specs.BTreeSet.{contains_text}
use Rattle.std.specs.Str.{bytes_eq}
use Rattle.std.proofs.lemmas.Map.Text.{btree_set_updates_text}
use Rattle.zq_routers.proofs.Keys.{changed, had_some}
use Rattle.zq_routers.proofs.router_keys.list_beside.Goals.{in-Ok, in-Err}
use Rattle.zq_routers.proofs.router_keys.list_beside.Goals as goal

pub returns-clause-ok : goal.returns-clause-ok
returns-clause-ok c = elim c.match-insert.branch [
  | in-Ok w ↦
      rw w.result-is
      (changed c.args.router c.args.key.now true c.args.routers.now.entries (c.get_mut.follows.lender c.insert.new.self).entries c.insert.new.self (contains_text c.in-Some.keys.now)
      (had_some c.args.router c.args.routers.now.entries c.in-Some.keys.now (sym c.in-Some.ensures.value))
      ((c.get_mut.follows.holds c.insert.new.self).3 (ap is_some (sym c.in-Some.ensures.value))).0
      (λ k. btree_set_updates_text _ c.in-Some.keys.now c.insert.new.self true w.in-Ok.ensures.updates k ∙ ap (λ x. cond (bytes_eq x k) true (contains_text c.in-Some.keys.now k)) c.in_ok-text.ensures.ok))
  | in-Err w ↦ rw w.result-is tt
]
