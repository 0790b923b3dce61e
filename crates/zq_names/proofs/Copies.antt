-- The slots of a copy.
use Rattle.std.proofs.Common.{◌≡◌, ℕ, List, [], ◌∷◌, Option, Some, None, get_or, ap, refl, zero, suc}
use Rattle.std.specs.Option.{is_some}
use Rattle.std.specs.List.{AllZip}
use Rattle.slab.specs.Slab.{IsSlotClone}
use Rattle.zq_names.specs.declared.node.Node.{Node}
use Rattle.zq_names.specs.Copying.{IsNodeCopy}
use Rattle.zq_names.specs.Names.{IsSound, slot_former, rows, entry_of}
use Rattle.zq_names.proofs.Same.{SameSlot, rows-same, IsSound-same}

same_slot : (i : ℕ) (old new : Option Node) → IsSlotClone IsNodeCopy old new → SameSlot i old new
same_slot i None new is = record { entry = ap (entry_of i) is; live = ap is_some is; former = ap slot_former is }
same_slot i (Some n) None is = absurd is
same_slot i (Some n) (Some copy) is = record { entry = rw (is.text, is.context, is.holds, is.matches); live = refl; former = is.former }

slots_same : (old new : List (Option Node)) → AllZip (IsSlotClone IsNodeCopy) old new → (i j : ℕ) → SameSlot i (get_or old j None) (get_or new j None)
slots_same [] [] copies i j = record { entry = refl; live = refl; former = refl }
slots_same [] (y ∷ ys) copies i j = absurd copies
slots_same (x ∷ xs) [] copies i j = absurd copies
slots_same (x ∷ xs) (y ∷ ys) copies i zero = same_slot i x y copies.0
slots_same (x ∷ xs) (y ∷ ys) copies i (suc j) = slots_same xs ys copies.1 i j

pub rows-copy : (old new : List (Option Node)) (order : List ℕ) → AllZip (IsSlotClone IsNodeCopy) old new → rows new order ≡ rows old order
rows-copy old new order copies = rows-same old new order (λ i. slots_same old new copies i i)

pub IsSound-copy : (old new : List (Option Node)) (order : List ℕ) → AllZip (IsSlotClone IsNodeCopy) old new → IsSound old order → IsSound new order
IsSound-copy old new order copies sound = IsSound-same old new order (λ i. slots_same old new copies i i) sound
