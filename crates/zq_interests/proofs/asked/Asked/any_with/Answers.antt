use Rattle.std.proofs.Common.{◌∙◌, sym, ap}
use Rattle.std.specs.Prelude.{◌||◌}
use Rattle.std.specs.BTreeMap.{insert_entry, is_at}
use Rattle.std.specs.List.{list_any}
use Rattle.std.specs.Map.{remove_entry}
use Rattle.std.specs.Ordering.{nat_cmp}
use Rattle.zq_interests.specs.Interests.{Asked, is_passing}
use Rattle.zq_interests.proofs.Besides.{any_with}
use Rattle.zq_interests.proofs.asked.Asked.any_with.Goals as goal

pub returns-then-passes : goal.returns-then-passes
returns-then-passes c =
    let id = c.args.id in
    let test = is_passing c.args.test c.args.key.now in
    c.if-passes.true
    ∙ ap (λ b. b || list_any test (remove_entry (is_at (nat_cmp id)) c.self.inside.entries.entries)) (sym (sym c.passes.ensures ∙ c.if-passes.true))
    ∙ sym (any_with test id c.args.entry.now c.self.inside.entries.entries c.any_besides-others.ensures.ordered)
    ∙ ap (λ (es : Asked). list_any test (insert_entry nat_cmp es id c.args.entry.now)) c.self.view_is

pub returns-else-passes : goal.returns-else-passes
returns-else-passes c =
    let id = c.args.id in
    let test = is_passing c.args.test c.args.key.now in
    c.any_besides-others.ensures.any
    ∙ ap (λ b. b || list_any test (remove_entry (is_at (nat_cmp id)) c.self.inside.entries.entries)) (sym (sym c.passes.ensures ∙ c.if-passes.false))
    ∙ sym (any_with test id c.args.entry.now c.self.inside.entries.entries c.any_besides-others.ensures.ordered)
    ∙ ap (λ (es : Asked). list_any test (insert_entry nat_cmp es id c.args.entry.now)) c.self.view_is
