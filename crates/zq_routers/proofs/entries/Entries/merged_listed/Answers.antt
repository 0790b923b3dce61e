use Rattle.std.proofs.Common.{◌∙◌, sym, ap, filter, Option, []}
use Rattle.std.specs.Option.{option_copied, option_map_or}
use Rattle.zq_strategy.specs.Nets.{is_listed}
use Rattle.zq_strategy.specs.Entries.{Entries, Routed, entries_at, is_by, routed_info, staying}
use Rattle.zq_routers.proofs.Dropping.{staying_at}
use Rattle.zq_routers.proofs.entries.Entries.merged_listed.Goals as goal

pub returns-in-Some : goal.returns-in-Some
returns-in-Some c =
    let test = is_listed c.args.net.now in
    c.merged_of.ensures.merged
    ∙ ap (λ (o : Option Routed). routed_info (filter (is_by test) (option_map_or (λ es. es) o []))) c.in-Some.ensures
    ∙ ap routed_info (sym (staying_at test c.self.inside.by_key c.self.invariant.ordered c.args.key.now))
    ∙ ap (λ (all : Entries). routed_info (entries_at c.args.key.now (staying test all))) c.self.view_is

pub returns-in-None : goal.returns-in-None
returns-in-None c =
    let test = is_listed c.args.net.now in
    ap (λ (o : Option Routed). routed_info (filter (is_by test) (option_map_or (λ es. es) o []))) (sym (ap option_copied c.in-None.is) ∙ c.get.ensures)
    ∙ ap routed_info (sym (staying_at test c.self.inside.by_key c.self.invariant.ordered c.args.key.now))
    ∙ ap (λ (all : Entries). routed_info (entries_at c.args.key.now (staying test all))) c.self.view_is
