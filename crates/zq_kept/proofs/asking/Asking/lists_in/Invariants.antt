use Rattle.std.proofs.Common.{◌≡◌, ◌++◌, map}
use Rattle.std.specs.List.{All}
use Rattle.std.specs.Map.{values_of}
use Rattle.zq_egress.specs.Askers.{asker_of}
use Rattle.zq_machine.specs.Selecting.{offers_to}
use Rattle.zq_kept.specs.Current.{IsKeptFor, StandsAt}
use Rattle.zq_kept.specs.Picked.{lists_of}
use Rattle.zq_kept.specs.Table.{one_text}
use Rattle.zq_kept.proofs.asking.Asking.lists_in.Given as goal

abbrev pub invariant-loop-hat : goal.invariant-loop-hat
invariant-loop-hat l = record {
  can : (goal.iterator-loop-hat).can_next l.hat-iterator;
  ends : (goal.iterator-loop-hat).is_finite l.hat-iterator;
  placed : All (StandsAt l.self.hats.now) l.hat-iterator;
  rest : lists_of l.lists.items ++ map (offers_to (asker_of l.self.asker) l.self.key.now) l.hat-iterator ≡ map (offers_to (asker_of l.self.asker) l.self.key.now) (values_of l.self.hats.now);
  done : All (IsKeptFor (asker_of l.self.asker) l.self.key.now (one_text l.versions l.self.key.now l.routes)) l.hat-iterator → All (IsKeptFor (asker_of l.self.asker) l.self.key.now (one_text l.versions l.self.key.now l.routes)) (values_of l.self.hats.now);
}
