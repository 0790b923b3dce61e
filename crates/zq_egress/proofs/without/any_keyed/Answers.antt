use Rattle.std.proofs.Common.{◌∙◌, sym, ap, ℕ, List}
use Rattle.std.specs.Prelude.{not, ◌&&◌, ◌||◌}
use Rattle.std.specs.Cmp.{nat_cmp_total}
use Rattle.std.specs.List.{list_any}
use Rattle.std.proofs.lemmas.Map.Lookups.{exact_unsigned}
use Rattle.zq_key.proofs.Lookups.{apart}
use Rattle.zq_interests.specs.Interests.{Asked, wants_keyed}
use Rattle.zq_interests.proofs.Besides.{any_left, other}
use Rattle.zq_egress.proofs.without.any_keyed.Goals as goal

pub returns-then-wants_keyed : goal.returns-then-wants_keyed
returns-then-wants_keyed c =
    let id = c.args.id in
    let test = wants_keyed c.args.key.now in
    let rest : Asked = c.next.new.self in
    sym (any_left test id c.args.entries.now.entries c.into_iter-other-iterator.ensures.into_iter_gives.5
    ∙ sym c.loop-other.invariant
    ∙ ap (list_any (other test id)) c.in-Some.ensures.steps
    ∙ ap (λ b. (not b && test (c.in-Some.other.now, c.in-Some.entry.now)) || list_any (other test id) rest) (apart nat_cmp_total exact_unsigned id c.in-Some.other.now (λ e. c.if-other-id.true (sym e)))
    ∙ ap (λ b. b || list_any (other test id) rest) (sym c.wants_keyed.ensures ∙ c.if-wants_keyed.true))

pub returns : goal.returns
returns c =
    let id = c.args.id in
    let test = wants_keyed c.args.key.now in
    sym (any_left test id c.args.entries.now.entries c.into_iter-other-iterator.ensures.into_iter_gives.5
    ∙ sym c.loop-other.invariant
    ∙ ap (list_any (other test id)) c.in-None.ensures.steps.0)
