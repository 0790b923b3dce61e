use Rattle.std.proofs.Common.{◌∙◌, ap, sym}
use Rattle.zq_message.specs.declared.message.Zid.{Zid}
use Rattle.std.specs.Prelude.{List}
use Rattle.zq_strategy.specs.Nets.{is_listed}
use Rattle.zq_strategy.specs.Entries.{Entries, is_one_of, is_unlisted, keys_by, staying, unlisted_of, without_routers}
use Rattle.zq_routers.proofs.Losing.{lost_left}
use Rattle.zq_routers.proofs.LosingKeys.{lost_keys}
use Rattle.zq_routers.proofs.entries.Entries.unlisted.Goals as goal

pub returns-in-Ok-clause-left : goal.returns-in-Ok-clause-left
returns-in-Ok-clause-left c =
    ap (λ ids. without_routers ids c.args.self.now) c.in-Ok.ensures
    ∙ (λ j. without_routers (unlisted_of c.args.net.now c.self.inside.by_router.entries) (sym c.self.view_is j))
    ∙ lost_left c.args.net.now c.self.inside.by_key c.self.inside.by_router.entries c.self.invariant
    ∙ ap (staying (is_listed c.args.net.now)) c.self.view_is

pub returns-in-Ok-clause-losing : goal.returns-in-Ok-clause-losing
returns-in-Ok-clause-losing c =
    ap (λ (ids : List Zid). keys_by (is_one_of ids) c.args.self.now) c.in-Ok.ensures
    ∙ (λ j. keys_by (is_one_of (unlisted_of c.args.net.now c.self.inside.by_router.entries)) (sym c.self.view_is j))
    ∙ lost_keys c.self.inside.by_key c.self.inside.by_router.entries c.self.invariant c.args.net.now
    ∙ ap (λ (all : Entries). keys_by (is_unlisted c.args.net.now) all) c.self.view_is
