use Rattle.std.proofs.Common.{◌∙◌, sym, ap, Option, []}
use Rattle.std.specs.Option.{option_copied, option_map_or}
use Rattle.zq_strategy.specs.Entries.{Entries, Routed, entries_at, routed_info, routed_without, without_entry}
use Rattle.zq_routers.proofs.Entering.{taken_at}
use Rattle.zq_routers.proofs.entries.Entries.merged_without.Goals as goal

pub returns-in-Some : goal.returns-in-Some
returns-in-Some c =
    let r = c.args.router.0 in
    c.merged_without.ensures.merged
    ∙ ap (λ (o : Option Routed). routed_info (routed_without r (option_map_or (λ es. es) o []))) c.in-Some.ensures
    ∙ ap routed_info (sym (taken_at r c.args.key.now c.self.inside.by_key c.self.invariant.ordered.texts))
    ∙ ap (λ (all : Entries). routed_info (entries_at c.args.key.now (without_entry r c.args.key.now all))) c.self.view_is

pub returns-in-None : goal.returns-in-None
returns-in-None c =
    let r = c.args.router.0 in
    ap (λ (o : Option Routed). routed_info (routed_without r (option_map_or (λ es. es) o []))) (sym (ap option_copied c.in-None.is) ∙ c.get.ensures)
    ∙ ap routed_info (sym (taken_at r c.args.key.now c.self.inside.by_key c.self.invariant.ordered.texts))
    ∙ ap (λ (all : Entries). routed_info (entries_at c.args.key.now (without_entry r c.args.key.now all))) c.self.view_is
