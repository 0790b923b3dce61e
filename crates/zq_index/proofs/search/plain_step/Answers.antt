use Rattle.std.proofs.Common.{◌≡◌, ◌∙◌, sym, ap, subst, inl, inr}
use Rattle.std.specs.String.{string_bytes}
use Rattle.std.specs.declared.cmp.Ordering.TheVariants.{Less}
use Rattle.std.specs.Ordering.{ordering_reverse}
use Rattle.zq_index.specs.Texts.{text_cmp}
use Rattle.zq_index.specs.Skipping.{SkipsListed}
use Rattle.zq_index.proofs.Orders.{text_total}
use Rattle.zq_index.proofs.Skipping.{none_from, to_listed, to_request}
use Rattle.zq_index.proofs.search.plain_step.Goals as goal

pub step_or-requires : goal.step_or-requires
step_or-requires c =
    let lists = c.args.lists.now in
    let q = c.args.q.now in
    let key = string_bytes c.args.key.now in
    subst (SkipsListed lists q key) (sym c.as_str-in-Some.ensures.value)
    (to_listed lists q key c.requires.plain c.requires.plain_key (string_bytes c.in-Some.wild.now) c.in-Some.ensures.0 (inr c.in-Some.ensures.1))

pub returns-in_ok-set_bound-in-None : goal.returns-in_ok-set_bound-in-None
returns-in_ok-set_bound-in-None c =
    let lists = c.args.lists.now in
    let q = c.args.q.now in
    let key = string_bytes c.args.key.now in
    let less : text_cmp key q ≡ Less = ap (λ t. text_cmp t q) (sym c.as_str.ensures.value) ∙ sym c.in-Less.ensures in
    subst (SkipsListed lists q key) (sym c.in_ok-set_bound-in-None.ensures) (to_request lists q key c.requires.plain c.requires.plain_key less c.in-None.ensures)

pub step_or-requires-in-Some-wild_after : goal.step_or-requires-in-Some-wild_after
step_or-requires-in-Some-wild_after c =
    let lists = c.args.lists.now in
    let q = c.args.q.now in
    let key = string_bytes c.args.key.now in
    let less : text_cmp q key ≡ Less = text_total.antisymm q key ∙ ap ordering_reverse (ap (λ t. text_cmp t q) (sym c.as_str.ensures.value) ∙ sym c.in-Greater.ensures) in
    subst (SkipsListed lists q key) (sym c.as_str-in-Some-wild_after.ensures.value)
    (to_listed lists q key c.requires.plain c.requires.plain_key (string_bytes c.in-Some-wild_after.wild.now) c.in-Some-wild_after.ensures (inl less))

pub returns-in-None-wild_after : goal.returns-in-None-wild_after
returns-in-None-wild_after c =
    let lists = c.args.lists.now in
    let q = c.args.q.now in
    let key = string_bytes c.args.key.now in
    let less : text_cmp q key ≡ Less = text_total.antisymm q key ∙ ap ordering_reverse (ap (λ t. text_cmp t q) (sym c.as_str.ensures.value) ∙ sym c.in-Greater.ensures) in
    none_from lists q key c.requires.plain c.requires.plain_key less c.in-None-wild_after.ensures
