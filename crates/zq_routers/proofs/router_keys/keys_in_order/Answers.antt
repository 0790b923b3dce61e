use Rattle.std.proofs.Common.{◌∙◌, ap, subst, sym}
use Rattle.std.specs.List.Sorted.{IsStrictlySortedBy}
use Rattle.zq_index.specs.Texts.{text_cmp, has_text}
use Rattle.zq_routers.proofs.Gathering.{contains_is}
use Rattle.zq_routers.proofs.router_keys.keys_in_order.Goals as goal

pub returns-in-Ok : goal.returns-in-Ok
returns-in-Ok c = record {
  ordered = subst (IsStrictlySortedBy text_cmp) (sym c.in-Ok.ensures.value) c.in-Ok.ensures.ordered;
  same = λ k. ap (has_text k) c.in-Ok.ensures.value ∙ contains_is c.in_ok-texts.texts k ∙ c.in_ok-texts.ensures k;
}
