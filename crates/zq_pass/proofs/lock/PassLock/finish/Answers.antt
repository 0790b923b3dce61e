use Rattle.std.proofs.Common.{List, All, ◌∙◌, ap, sym, subst}
use mathlib.Core.List.{IsPrefix}
use Rattle.zq_shared.specs.Ties.{Sharing}
use Rattle.zq_pass.specs.Entries.{calls_of, owners_of}
use Rattle.zq_pass.specs.Passes.{Passes, Passing, PassId}
use Rattle.zq_pass.proofs.lock.PassLock.finish.Goals as goal

pub join_all-requires : goal.join_all-requires
join_all-requires g c = λ k d l.
    (let mine = ap (λ (p : Passes). p.home) c.passes.view_is ∙ (c.requires.home ∙ sym c.into_state-state.ensures.here) in
    ap (λ (h : PassId). h.journal) (c.passes.invariant k d l ∙ mine) ∙ sym c.into_parts-shared.ensures.keeper.0)

pub returns-clause-owners : goal.returns-clause-owners
returns-clause-owners g c =
    let p = c.into_parts-shared.ensures in record {
      list = c.into_parts-shared.result.2.list;
      calls_are = ap calls_of p.keeper.1 ∙ (p.calls ∙ ap (λ (s : Sharing). s.stored.calls) (sym p.shared));
      owners_are = ap owners_of p.keeper.1 ∙ (p.owners ∙ sym c.from_vec.ensures);
      seen = subst (λ (l : List Passing). All (λ (p : Passing). IsPrefix p.seen c.into_parts-shared.result.2.list) l) (ap (λ (p : Passes). p.passes) c.passes.view_is) c.join_all.ensures.seen;
    }
