-- Texts that come between two others.
use Rattle.std.proofs.Common.{◌≡◌, ◌≢◌, ◌∙◌, sym, ap, refl, ℕ, Bool, true, false, List}
use Rattle.std.specs.declared.cmp.Ordering.{Ordering}
use Rattle.std.specs.declared.cmp.Ordering.TheVariants.{Less, Equal, Greater}
use Rattle.std.specs.Ordering.{is_lt, ordering_reverse}
use Rattle.std.proofs.lemmas.Bool.{false≢true}
use Rattle.std.proofs.lemmas.Cmp.{nat_list_cmp_total}
use Rattle.zq_index.specs.Texts.{text_cmp, IsFirstAfter, NoneBetween}
use Rattle.zq_index.proofs.Orders.{text_exact}

pub not_less : (r : Ordering) → is_lt r ≡ false → r ≢ Less
not_less Less h e = absurd (false≢true (sym h))
not_less Equal h e = cc
not_less Greater h e = cc

below_from_not : (t k b : List ℕ) → text_cmp t k ≡ Less → text_cmp b k ≢ Less → text_cmp t b ≡ Less
below_from_not t k b less not_below = by (text_cmp b k) refl not_below
  where
    by : (r : Ordering) → text_cmp b k ≡ r → r ≢ Less → text_cmp t b ≡ Less
    by Less is ne = absurd (ne refl)
    by Equal is ne = ap (text_cmp t) (text_exact b k is) ∙ less
    by Greater is ne = nat_list_cmp_total.trans t k b less (nat_list_cmp_total.antisymm k b ∙ ap ordering_reverse is)

pub none_between : (texts : List (List ℕ)) (t u first : List ℕ) → IsFirstAfter texts t first → text_cmp first u ≢ Less → NoneBetween texts t u
none_between texts t u first is out s has after below = is.none s has after (below_from_not s u first below out)
