use Rattle.std.proofs.Common.{◌∙◌, ap, fold, None, Some, sym}
use Rattle.std.specs.Prelude.{filter}
use Rattle.std.specs.Option.{option_copied}
use Rattle.zq_index.specs.Holders.{with_held}
use Rattle.zq_index.proofs.Ranks.{passed_merged, passed_none}
use Rattle.zq_index.proofs.holders.Holders.merged_of.Goals as goal

pub returns-in-Some-clause-merged : goal.returns-in-Some-clause-merged
returns-in-Some-clause-merged g c =
    ap (λ x. Some x) c.ranked.ensures
    ∙ passed_merged g.met.P.Ord.total g.met.P.Place.tells_apart c.self.inside.infos.entries c.self.inside.ranks.keys c.self.invariant (g.T.PlaceTest.passes c.args.test.now) c.first_passed.ensures.ordered c.in-Some.rank.now
    (sym c.first_passed.ensures.first ∙ ap option_copied c.in-Some.is)
    ∙ ap (λ es. fold with_held None (filter (λ h. g.T.PlaceTest.passes c.args.test.now h.0) es)) c.self.view_is

pub returns-in-None-clause-merged : goal.returns-in-None-clause-merged
returns-in-None-clause-merged g c =
    passed_none g.met.P.Ord.total g.met.P.Place.tells_apart c.self.inside.infos.entries c.self.inside.ranks.keys c.self.invariant (g.T.PlaceTest.passes c.args.test.now)
    (sym c.first_passed.ensures.first ∙ ap option_copied c.in-None.is)
    ∙ ap (λ es. fold with_held None (filter (λ h. g.T.PlaceTest.passes c.args.test.now h.0) es)) c.self.view_is
