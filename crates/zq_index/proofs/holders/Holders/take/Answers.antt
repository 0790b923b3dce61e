use Rattle.std.proofs.Common.{◌≡◌, ◌∙◌, sym, ap, Some, false, cond}
use Rattle.std.specs.BTreeMap.{is_at}
use Rattle.zq_index.specs.Holders.{IsRanked, at_place_by, rank_cmp, has_rank}
use Rattle.zq_index.proofs.Ranks.{out_ranked}
use Rattle.zq_index.proofs.holders.Holders.take.Goals.{in-Some, in_default}
use Rattle.zq_index.proofs.holders.Holders.take.Goals as goal

pub invariant_of-self : goal.invariant_of-self
invariant_of-self g c = elim c.match-remove.branch [
  | in-Some w ↦
      let stood : at_place_by g.P.Ord.cmp c.args.place c.self.inside.infos.entries ≡ Some w.in-Some.gone = sym w.in-Some.ensures.value in
      let out : IsRanked g.P.Ord.cmp c.remove.new.self.entries w.remove-in-Some.new.self.keys =
      out_ranked g.met.P.Ord.total g.met.P.Place.tells_apart c.self.inside.infos.entries c.self.inside.ranks.keys c.self.invariant c.args.place w.in-Some.gone w.remove-in-Some.new.self.keys
      (λ k. w.remove-in-Some.ensures.updates.0 k ∙ ap (λ x. cond (is_at (rank_cmp g.P.Ord.cmp x) k) false (has_rank g.P.Ord.cmp k c.self.inside.ranks.keys)) w.rank.ensures)
      c.remove.new.self.entries c.remove.ensures.ordered c.remove.ensures.updates.0 stood in
      rw w.self-inside-is out
  | in_default w ↦
      rw (w.self-inside-is, w.in_default.ensures.unchanged) c.self.invariant
]
