use Rattle.std.proofs.Common.{◌≡◌, ◌↔◌, ◌∙◌, true, subst, sym}
use Rattle.zq_route.specs.Filter.{IsGreatest}
use Rattle.zq_route.proofs.GatewayLaws.{listed_source, greatest_alone}
use Rattle.zq_route.proofs.filter.InterRegionFilter.resolve.Goals as goal

pub returns-clause-listed : goal.returns-clause-listed
returns-clause-listed c = λ src zids d h. c.passes_between.ensures ∙ listed_source c.args.self.now c.args.tables.now c.args.own src zids d h

pub returns-clause-greatest : goal.returns-clause-greatest
returns-clause-greatest c = λ src zids d h. subst (λ b. (b ≡ true) ↔ IsGreatest c.args.own zids) (sym c.passes_between.ensures) (greatest_alone c.args.self.now c.args.tables.now c.args.own src zids d h)
