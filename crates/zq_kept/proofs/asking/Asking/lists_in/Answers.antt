use Rattle.std.proofs.Common.{◌∙◌, ap, sym, subst, List, map, ◌++◌}
use Rattle.std.specs.List.{All}
use Rattle.std.proofs.lemmas.List.Elements.{All-cons, All-tail}
use Rattle.zq_strategy.specs.State.{HatState}
use Rattle.zq_egress.specs.Askers.{asker_of}
use Rattle.zq_machine.specs.Selecting.{offers_to}
use Rattle.zq_kept.specs.Current.{IsKeptFor, StandsAt}
use Rattle.zq_kept.specs.Picked.{lists_of}
use Rattle.zq_kept.specs.Table.{one_text}
use Rattle.zq_kept.proofs.Current.{pushed}
use Rattle.zq_kept.proofs.asking.Asking.lists_in.Goals as goal

pub loop-hat-preserved : goal.loop-hat-preserved
loop-hat-preserved c =
    let F = offers_to (asker_of c.args.self.now.asker) c.args.self.now.key.now in
    let S : HatState → Type 0 = StandsAt c.args.self.now.hats.now in
    let AllS : List HatState → Type 0 = All S in
    let P : HatState → Type 0 = IsKeptFor (asker_of c.args.self.now.asker) c.args.self.now.key.now (one_text c.args.versions.now c.args.self.now.key.now c.args.routes.now) in
    let AllP : List HatState → Type 0 = All P in
    let steps = c.in-Some.ensures.steps in
    let rest = c.next.new.self in
    record {
      can = tt;
      ends = tt;
      placed = All-tail S c.in-Some.hat.now rest (subst AllS steps c.loop-hat.invariant.placed);
      rest = ap (λ l. lists_of l ++ map F rest) c.in_ok-push-in-Some-kept_in.ensures.items
          ∙ pushed c.loop-hat.lists.items c.in-Some-kept_in.list (F c.in-Some.hat.now) (map F rest) c.in-Some-kept_in.ensures.offers
          ∙ ap (λ l. lists_of c.loop-hat.lists.items ++ map F l) (sym steps)
          ∙ c.loop-hat.invariant.rest;
      done = λ more. c.loop-hat.invariant.done (subst AllP (sym steps) (All-cons P c.in-Some.hat.now rest c.in-Some-kept_in.ensures.kept more));
    }
