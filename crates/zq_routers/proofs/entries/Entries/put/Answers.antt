use Rattle.std.proofs.Common.{◌∙◌, ap, subst, sym}
use Rattle.std.specs.Option.{is_some}
use Rattle.zq_strategy.specs.Entries.{Entries, IsTied, entry_of, with_entry}
use Rattle.zq_routers.proofs.Entering.{put_is, tied_again, tied_back, tied_put}
use Rattle.zq_routers.proofs.entries.Entries.put.Goals as goal

pub invariant_of-self-then-is_some : goal.invariant_of-self-then-is_some
invariant_of-self-then-is_some c =
    let known = ap (λ (all : Entries). is_some (entry_of c.args.router.0 c.as_str-text.result.now all)) c.self.view_is ∙ sym (c.is_some.ensures ∙ ap is_some c.get.ensures) ∙ c.if-is_some.true in
    subst (λ all. IsTied all c.self.inside.by_router.entries) (sym c.in_ok-put.ensures.ok)
    (tied_again c.self.inside.by_key c.self.inside.by_router.entries c.self.invariant c.args.router.0 c.as_str-text.result.now c.args.info c.as_str-text.ensures.key known)

pub returns-then-is_some-clause-ok : goal.returns-then-is_some-clause-ok
returns-then-is_some-clause-ok c =
    c.in_ok-put.ensures.ok
    ∙ put_is c.args.router.0 c.as_str-text.result.now c.self.inside.by_key c.self.invariant.ordered.texts c.args.info
    ∙ (λ j. with_entry c.args.router.0 (c.as_str-text.ensures.text j) c.args.info (c.self.view_is j))

pub invariant_of-self-in-Ok : goal.invariant_of-self-in-Ok
invariant_of-self-in-Ok c =
    subst (λ all. IsTied all c.list_key.new.routers.entries) (sym c.in-Ok.ensures.ok)
    (tied_put c.self.inside.by_key c.self.inside.by_router.entries c.self.invariant c.args.router.0 c.as_str-text.result.now c.args.info c.as_str-text.ensures.key c.list_key.new.routers.entries c.in_ok-list_key.ensures.ok)

pub invariant_of-self-in-Err : goal.invariant_of-self-in-Err
invariant_of-self-in-Err c =
    let none = ap (λ (all : Entries). is_some (entry_of c.args.router.0 c.as_str-text.result.now all)) c.self.view_is ∙ sym (c.is_some.ensures ∙ ap is_some c.get.ensures) ∙ c.if-is_some.false in
    subst (λ all. IsTied all c.unlist_key.new.routers.entries) (sym c.in-Err.ensures.err)
    (tied_back c.self.inside.by_key c.self.inside.by_router.entries c.self.invariant c.args.router.0 c.as_str-text.result.now c.list_key.new.routers.entries c.unlist_key.new.routers.entries c.in_ok-list_key.ensures.ok c.unlist_key.ensures none)

pub returns-in-Ok-clause-ok : goal.returns-in-Ok-clause-ok
returns-in-Ok-clause-ok c =
    c.in-Ok.ensures.ok
    ∙ put_is c.args.router.0 c.as_str-text.result.now c.self.inside.by_key c.self.invariant.ordered.texts c.args.info
    ∙ (λ j. with_entry c.args.router.0 (c.as_str-text.ensures.text j) c.args.info (c.self.view_is j))
