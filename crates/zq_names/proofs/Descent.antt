-- The place of a text, from the two numbers beside it.
use Rattle.std.proofs.Common.{◌≡◌, ℕ, ◌-◌, true, false, List, Option, arith}
use Rattle.std.specs.Ordering.{is_lt}
use Rattle.zq_names.specs.Border.{IsBorder}
use Rattle.zq_names.specs.declared.node.Node.{Node}
use Rattle.zq_names.specs.Texts.{text_cmp}
use Rattle.zq_names.specs.Names.{Rises, SplitsAt, row, rows, texts}
use Rattle.zq_names.proofs.Rows.{length-rows, length-texts-rows, text_at-rows}
use Rattle.zq_names.proofs.TextOrder.{before_less, from_not_less, Less-from_is_lt, not_Less-from_is_lt}

-- where the text right before a place is less, and the one at it isn't, the place splits the texts
pub split_at_border : (nodes : List (Option Node)) (order : List ℕ) (t : List ℕ) (i : ℕ) (A B : ℕ → Type 0) → Rises (rows nodes order) → ((x : ℕ) → A x → is_lt (text_cmp (row nodes x).text t) ≡ true) → ((x : ℕ) → B x → is_lt (text_cmp (row nodes x).text t) ≡ false) → IsBorder A B order i → SplitsAt (rows nodes order) t i
split_at_border nodes order t i A B rising less not_less border =
    let n = length-texts-rows nodes order in
    let m = length-rows nodes order in
    let ts = texts (rows nodes order) in
    record {
      in_range = omega (arith, m, border.in_range);
      before = λ k lt. before_less ts t (i - 1) k rising (omega (arith, n, lt, border.in_range)) (rw (text_at-rows nodes order (i - 1) (omega (arith, lt, border.in_range))) (Less-from_is_lt _ (less _ (border.before (omega (arith, lt)))))) (omega (arith, lt));
      from = λ k le lt. from_not_less ts t i k rising (rw (text_at-rows nodes order i (omega (arith, m, le, lt))) (not_Less-from_is_lt _ (not_less _ (border.at (omega (arith, m, le, lt)))))) le (omega (arith, n, m, lt));
    }
