-- The orders of places and of texts.
use Rattle.std.specs.Cmp.{IsTotalOrder, nat_cmp_total, then_total, on_total}
use Rattle.std.specs.Cmp.Lexicographic.{nat_list_cmp_total}
use Rattle.std.specs.Ordering.{nat_cmp}
use Rattle.std.proofs.lemmas.Map.Lookups.{CmpEqualImpliesEq, exact_unsigned, exact_pairs, exact_bytes}
use Rattle.zq_index.specs.Texts.{text_cmp}
use Rattle.zq_index.specs.Holders.{place_cmp}

pub place_total : IsTotalOrder place_cmp
place_total = then_total (on_total (λ p. p.0) nat_cmp_total) (on_total (λ p. p.1) nat_cmp_total)

pub place_exact : CmpEqualImpliesEq place_cmp
place_exact = exact_pairs nat_cmp nat_cmp exact_unsigned exact_unsigned

pub text_total : IsTotalOrder text_cmp
text_total = nat_list_cmp_total

pub text_exact : CmpEqualImpliesEq text_cmp
text_exact = exact_bytes
