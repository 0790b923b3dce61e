use Rattle.std.proofs.Common.{◌∙◌, ap, fold, None, Some, sym, true≢false}
use Rattle.zq_index.specs.Holders.{with_held}
use Rattle.zq_index.proofs.Ranks.{first_merged, none_merged}
use Rattle.zq_index.proofs.holders.Holders.merged.Goals as goal

pub returns-in-Some : goal.returns-in-Some
returns-in-Some g c =
    ap (λ x. Some x) c.ranked.ensures
    ∙ first_merged g.met.P.Ord.total g.met.P.Place.tells_apart c.self.inside.infos.entries c.self.inside.ranks.keys c.self.invariant c.in-Some.rank.now c.in-Some.ensures.member c.in-Some.ensures.least
    ∙ ap (λ es. fold with_held None es) c.self.view_is

pub returns-in-None : goal.returns-in-None
returns-in-None g c =
    none_merged g.met.P.Ord.total g.met.P.Place.tells_apart c.self.inside.infos.entries c.self.inside.ranks.keys c.self.invariant (λ l. true≢false (sym (c.in-None.ensures.variant.1 l)))
    ∙ ap (λ es. fold with_held None es) c.self.view_is
