use Rattle.std.proofs.Common.{◌∙◌, sym, ap, true, false, cond}
use Rattle.std.specs.BTreeMap.{is_at}
use Rattle.zq_index.specs.Holders.{rank_cmp, has_rank}
use Rattle.zq_index.proofs.Ranks.{new_ranked, again_ranked, over_ranked, back_ranked}
use Rattle.zq_index.proofs.holders.Holders.put.Goals as goal

pub invariant_of-self-then-not-same_info : goal.invariant_of-self-then-not-same_info
invariant_of-self-then-not-same_info g c =
    over_ranked g.met.P.Ord.total g.met.P.Place.tells_apart c.self.inside.infos.entries c.self.inside.ranks.keys c.self.invariant c.args.place c.args.info c.insert.new.self.keys
    (λ k. c.in_ok-insert.ensures.updates.0 k ∙ ap (λ x. cond (is_at (rank_cmp g.P.Ord.cmp x) k) true (has_rank g.P.Ord.cmp k c.self.inside.ranks.keys)) c.rank.ensures)
    c.insert-2.new.self.entries c.in-Ok-Some.ensures.ordered c.in-Ok-Some.ensures.updates.0
    c.in-Ok-Some.before c.remove.new.self.keys
    (λ k. c.remove.ensures.updates.0 k ∙ ap (λ x. cond (is_at (rank_cmp g.P.Ord.cmp x) k) false (has_rank g.P.Ord.cmp k c.insert.new.self.keys)) c.rank-then-not-same_info.ensures)
    (sym c.in-Ok-Some.ensures.old ∙ c.in-Ok-Some.field-0-is) (sym c.same_info.ensures ∙ c.if-not-same_info.true)

pub invariant_of-self-else-not-same_info : goal.invariant_of-self-else-not-same_info
invariant_of-self-else-not-same_info g c =
    again_ranked g.met.P.Ord.total g.met.P.Place.tells_apart c.self.inside.infos.entries c.self.inside.ranks.keys c.self.invariant c.args.place c.args.info c.insert.new.self.keys
    (λ k. c.in_ok-insert.ensures.updates.0 k ∙ ap (λ x. cond (is_at (rank_cmp g.P.Ord.cmp x) k) true (has_rank g.P.Ord.cmp k c.self.inside.ranks.keys)) c.rank.ensures)
    c.insert-2.new.self.entries c.in-Ok-Some.ensures.ordered c.in-Ok-Some.ensures.updates.0
    c.in-Ok-Some.before (sym c.in-Ok-Some.ensures.old ∙ c.in-Ok-Some.field-0-is) (sym c.same_info.ensures ∙ c.if-not-same_info.false)

pub invariant_of-self-in-Ok-None : goal.invariant_of-self-in-Ok-None
invariant_of-self-in-Ok-None g c =
    new_ranked g.met.P.Ord.total g.met.P.Place.tells_apart c.self.inside.infos.entries c.self.inside.ranks.keys c.self.invariant c.args.place c.args.info c.insert.new.self.keys
    (λ k. c.in_ok-insert.ensures.updates.0 k ∙ ap (λ x. cond (is_at (rank_cmp g.P.Ord.cmp x) k) true (has_rank g.P.Ord.cmp k c.self.inside.ranks.keys)) c.rank.ensures)
    c.insert-2.new.self.entries c.in-Ok-None.ensures.ordered c.in-Ok-None.ensures.updates.0
    (sym c.in-Ok-None.ensures.old ∙ c.in-Ok-None.field-0-is)

pub invariant_of-self-in-Err : goal.invariant_of-self-in-Err
invariant_of-self-in-Err g c =
    back_ranked g.met.P.Ord.total g.met.P.Place.tells_apart c.self.inside.infos.entries c.self.inside.ranks.keys c.self.invariant c.args.place c.args.info c.insert.new.self.keys
    (λ k. c.in_ok-insert.ensures.updates.0 k ∙ ap (λ x. cond (is_at (rank_cmp g.P.Ord.cmp x) k) true (has_rank g.P.Ord.cmp k c.self.inside.ranks.keys)) c.rank.ensures)
    c.insert-2.new.self.entries c.remove-in-Err.new.self.keys
    c.in-Err.ensures.absent
    (λ k. c.remove-in-Err.ensures.updates.0 k ∙ ap (λ x. cond (is_at (rank_cmp g.P.Ord.cmp x) k) false (has_rank g.P.Ord.cmp k c.insert.new.self.keys)) c.rank-in-Err.ensures)
    c.in-Err.ensures.err
