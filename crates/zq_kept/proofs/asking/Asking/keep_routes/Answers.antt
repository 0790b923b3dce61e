use Rattle.std.proofs.Common.{sym, subst, List}
use Rattle.std.specs.List.{All}
use Rattle.std.proofs.lemmas.List.Elements.{All-cons, All-tail}
use Rattle.zq_strategy.specs.State.{HatState}
use Rattle.zq_egress.specs.Askers.{asker_of}
use Rattle.zq_kept.specs.Current.{IsKeptFor, KeptOffers, StandsAt}
use Rattle.zq_kept.specs.Table.{one_text}
use Rattle.zq_kept.proofs.Current.{keeps_for}
use Rattle.zq_kept.proofs.asking.Asking.keep_routes.Goals as goal

pub loop-hat-preserved : goal.loop-hat-preserved
loop-hat-preserved c =
    let a = asker_of c.args.self.now.asker in
    let P : KeptOffers → HatState → Type 0 = (λ u. IsKeptFor a c.args.self.now.key.now u) in
    let S : HatState → Type 0 = StandsAt c.args.self.now.hats.now in
    let AllP : KeptOffers → List HatState → Type 0 = (λ u. All (P u)) in
    let AllS : List HatState → Type 0 = All S in
    let steps = c.in-Some.ensures.steps in
    let kept : KeptOffers = one_text c.args.versions.now c.args.self.now.key.now c.keep_one.new.routes in
    record {
      can = tt;
      ends = tt;
      placed = All-tail S c.in-Some.hat.now c.next.new.self (subst AllS steps c.loop-hat.invariant.placed);
      table = c.in_ok-keep_one.ensures.table;
      current = c.in_ok-keep_one.ensures.current;
      keeps = λ r k s n e. c.in_ok-keep_one.ensures.keeps r k s n (c.loop-hat.invariant.keeps r k s n e);
      done = λ u more rest.
          c.loop-hat.invariant.done u (λ r k s n e. more r k s n (c.in_ok-keep_one.ensures.keeps r k s n e))
          (subst (AllP u) (sym steps) (All-cons (P u) c.in-Some.hat.now c.next.new.self (keeps_for a c.args.self.now.key.now kept u c.in-Some.hat.now more c.in_ok-keep_one.ensures.kept) rest));
    }
