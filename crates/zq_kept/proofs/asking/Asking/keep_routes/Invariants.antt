use Rattle.std.specs.List.{All}
use Rattle.std.specs.Map.{values_of}
use Rattle.zq_egress.specs.Askers.{asker_of}
use Rattle.zq_kept.specs.Current.{AreCurrent, IsKeptFor, Keeps, KeptOffers, StandsAt}
use Rattle.zq_kept.specs.Table.{IsTable, one_text}
use Rattle.zq_kept.proofs.asking.Asking.keep_routes.Given as goal

abbrev pub invariant-loop-hat : goal.invariant-loop-hat
invariant-loop-hat l = record {
  can : (goal.iterator-loop-hat).can_next l.hat-iterator;
  ends : (goal.iterator-loop-hat).is_finite l.hat-iterator;
  placed : All (StandsAt l.self.hats.now) l.hat-iterator;
  table : IsTable (one_text l.versions l.self.key.now l.routes);
  current : AreCurrent (one_text l.versions l.self.key.now l.routes) l.self.hats.now;
  keeps : Keeps (one_text l.versions l.self.key.now l.initial.routes) (one_text l.versions l.self.key.now l.routes);
  done : (u : KeptOffers) → Keeps (one_text l.versions l.self.key.now l.routes) u → All (IsKeptFor (asker_of l.self.asker) l.self.key.now u) l.hat-iterator → All (IsKeptFor (asker_of l.self.asker) l.self.key.now u) (values_of l.self.hats.now);
}
