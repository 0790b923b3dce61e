use Rattle.std.proofs.Common.{◌∙◌, ap, subst, sym, map, []}
use Rattle.std.specs.BTreeMap.{is_at}
use Rattle.std.specs.String.{string_bytes}
use Rattle.zq_index.specs.Texts.{text_cmp}
use Rattle.zq_index.proofs.Texts.{texts_any}
use Rattle.zq_strategy.specs.Entries.{Entries, IsTied, is_another, staying}
use Rattle.zq_routers.proofs.Dropping.{dropped_is, dropped_tied}
use Rattle.zq_routers.proofs.entries.Entries.drop_router.Goals as goal

pub invariant_of-self : goal.invariant_of-self
invariant_of-self c =
    subst (λ (all : Entries). IsTied all c.take_router.new.routers.entries) (sym c.forget.ensures)
    (dropped_tied c.args.router c.self.inside.by_key c.self.inside.by_router.entries c.take_router.new.routers.entries c.self.invariant (map string_bytes c.in-Some.keys.keys)
    (λ k. texts_any (is_at (text_cmp k)) c.in-Some.keys.keys ∙ c.in-Some.ensures.keys k) c.in-Some.ensures.left)

pub returns-in-Some : goal.returns-in-Some
returns-in-Some c =
    c.forget.ensures
    ∙ dropped_is c.args.router c.self.inside.by_key c.self.inside.by_router.entries c.take_router.new.routers.entries c.self.invariant (map string_bytes c.in-Some.keys.keys)
    (λ k. texts_any (is_at (text_cmp k)) c.in-Some.keys.keys ∙ c.in-Some.ensures.keys k) c.in-Some.ensures.left
    ∙ ap (staying (is_another c.args.router)) c.self.view_is

pub returns-in-None : goal.returns-in-None
returns-in-None c =
    dropped_is c.args.router c.self.inside.by_key c.self.inside.by_router.entries c.take_router.new.routers.entries c.self.invariant [] c.in-None.ensures.keys c.in-None.ensures.left
    ∙ ap (staying (is_another c.args.router)) c.self.view_is
