use Rattle.std.proofs.Common.{◌∙◌}
use Rattle.std.specs.Prelude.{codes}
use Rattle.zq_hat.specs.Sourced.{all_queryables}
use Rattle.zq_admin.specs.Entries.{front, own_source}
use Rattle.zq_admin.proofs.Reached.{joins_met}
use Rattle.zq_admin.proofs.entries.add_queryables.Goals as goal

pub returns : goal.returns
returns c =
    joins_met c.add_met.result c.args.key.now (front c.args.own (codes "queryable")) (all_queryables (own_source c.args.gateway.now.state.core.config) c.args.gateway.now.state.core.hats) c.in_ok-sources.sources c.args.list.now c.add_met.new.list
    c.reach_of.result c.as_str-2.result.now c.as_str.result.now c.as_str-3.result.now c.add_met.ensures (c.as_str-3.ensures ∙ c.in_ok-front.ensures.text) c.in_ok-sources.ensures c.reach_of.ensures (c.as_str.ensures ∙ c.in_ok-front.ensures.text) c.as_str-2.ensures.text
