use Rattle.std.proofs.Common.{not, eqb, rules}
use borrow.Author.Tests.{tests}
use Rattle.std.proofs.lemmas.Fn.{filter_same}
use Rattle.zq_names.specs.declared.node.ResourceId.{ResourceId}
use Rattle.zq_names.proofs.forget.drop_match.Goals as goal

pub returns-clause-matches : goal.returns-clause-matches
returns-clause-matches c = filter_same _ (λ (m : ResourceId). not (eqb m.0 c.args.id)) _ (λ x b q k. search (rules, tests)) _ _ c.retain.ensures.filtered
