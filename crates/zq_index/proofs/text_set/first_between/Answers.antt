use Rattle.std.proofs.Common.{◌≢◌, ◌∙◌, sym, ap, map}
use Rattle.std.specs.String.{string_bytes}
use Rattle.std.specs.declared.cmp.Ordering.TheVariants.{Less}
use Rattle.zq_index.specs.Texts.{text_cmp}
use Rattle.zq_index.proofs.Between.{not_less, none_between}
use Rattle.zq_index.proofs.text_set.first_between.Goals as goal

pub returns-else-comes_before : goal.returns-else-comes_before
returns-else-comes_before c =
    let end = c.args.end.now in
    let first = string_bytes c.in_ok-first.first.now in
    let out : text_cmp first end ≢ Less = λ less. not_less (text_cmp c.as_str.result.now end) (sym c.if-comes_before.ensures) (ap (λ t. text_cmp t end) c.as_str.ensures.value ∙ less) in
    none_between (map string_bytes c.args.texts.now.keys) (string_bytes c.args.text.now) end first c.in_ok-first.ensures out
