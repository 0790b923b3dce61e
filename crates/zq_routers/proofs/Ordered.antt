-- Tellings that are kept by slot are in order, each once.
use Rattle.std.proofs.Common.{◌≡◌, true, false, cond, List, [], ◌∷◌, refl, ap, ◌∙◌, sym, map, true≢false}
use Rattle.std.specs.Prelude.{Some, string_bytes}
use Rattle.std.specs.Option.{is_some}
use Rattle.std.specs.String.{string_cmp}
use Rattle.std.specs.List.{AllByRecursion}
use Rattle.std.specs.List.Sorted.{IsStrictlySortedBy}
use Rattle.std.specs.Map.{keys_of, lookup}
use Rattle.std.specs.BTreeMap.{insert_entry, is_at}
use Rattle.std.specs.BTreeSet.{insert_key}
use Rattle.std.specs.Cmp.{IsTotalOrder, nat_cmp_total, then_total, on_total}
use Rattle.std.specs.Cmp.Lexicographic.{nat_list_cmp_total}
use Rattle.std.specs.Ordering.{is_eq, match_ordering, nat_cmp, ordering_then}
use Rattle.std.specs.declared.cmp.Ordering.{Ordering}
use Rattle.std.specs.declared.cmp.Ordering.TheVariants.{Less, Equal, Greater}
use Rattle.std.proofs.lemmas.Bool.{false≢true}
use Rattle.std.proofs.lemmas.Map.Keys.{sorted_head, sorted_tail}
use Rattle.zq_key.proofs.Sorted.{chain}
use Rattle.zq_routers.specs.declared.tellings.Said.{Said}
use Rattle.zq_strategy.specs.declared.network.Telling.{Telling}
use Rattle.zq_strategy.specs.Tellings.{telling_cmp}
use Rattle.zq_routers.specs.Told.{Slot, slot_cmp, telling_of}

slot_total : IsTotalOrder slot_cmp
slot_total = then_total (then_total (on_total (λ (s : Slot). s.0) nat_cmp_total) (on_total (λ (s : Slot). string_bytes s.1) nat_list_cmp_total)) (on_total (λ (s : Slot). s.2) nat_cmp_total)

then_then : (a b c : Ordering) → ordering_then a (ordering_then b c) ≡ ordering_then (ordering_then a b) c
then_then Less b c = refl
then_then Equal b c = refl
then_then Greater b c = refl

module _ (k : Slot) (v : Said) where
  abbrev told : Telling
  told = telling_of (k, v)

  by_slot : (e : Slot × Said) → telling_cmp told (telling_of e) ≡ slot_cmp k e.0
  by_slot e = then_then (nat_cmp k.0 e.0.0) (string_cmp k.1 e.0.1) (nat_cmp k.2 e.0.2)

  abbrev put_by : Ordering → Slot × Said → List (Slot × Said) → List Telling
  put_by r e es = match_ordering r (told ∷ telling_of e ∷ map telling_of es) (telling_of e ∷ map telling_of es) (telling_of e ∷ insert_key telling_cmp (map telling_of es) told)

  new_by : (e : Slot × Said) (es : List (Slot × Said)) (r : Ordering) → is_some (cond (is_eq r) (Some e.1) (lookup (is_at (slot_cmp k)) es)) ≡ false
      → (is_some (lookup (is_at (slot_cmp k)) es) ≡ false → insert_key telling_cmp (map telling_of es) told ≡ map telling_of (insert_entry slot_cmp es k v))
      → put_by r e es ≡ map telling_of (match_ordering r ((k, v) ∷ e ∷ es) ((e.0, v) ∷ es) (e ∷ insert_entry slot_cmp es k v))
  new_by e es Less absent ih = refl
  new_by e es Equal absent ih = absurd (true≢false absent)
  new_by e es Greater absent ih = ap (λ l. telling_of e ∷ l) (ih absent)

  -- a telling whose slot is free goes there
  pub put_new : (es : List (Slot × Said)) → is_some (lookup (is_at (slot_cmp k)) es) ≡ false → insert_key telling_cmp (map telling_of es) told ≡ map telling_of (insert_entry slot_cmp es k v)
  put_new [] absent = refl
  put_new (e ∷ es) absent = ap (λ r. put_by r e es) (by_slot e) ∙ new_by e es (slot_cmp k e.0) absent (put_new es)

  none_before : (es : List (Slot × Said)) → AllByRecursion (λ q. slot_cmp k q ≡ Less) (keys_of es) → is_some (lookup (is_at (slot_cmp k)) es) ≡ false
  none_before [] all = refl
  none_before (e ∷ es) all = ap (λ r. is_some (cond (is_eq r) (Some e.1) (lookup (is_at (slot_cmp k)) es))) all.0 ∙ none_before es all.1

  again_by : (e : Slot × Said) (es : List (Slot × Said)) (r : Ordering) → slot_cmp k e.0 ≡ r → IsStrictlySortedBy slot_cmp (keys_of (e ∷ es)) → is_some (cond (is_eq r) (Some e.1) (lookup (is_at (slot_cmp k)) es)) ≡ true
      → (is_some (lookup (is_at (slot_cmp k)) es) ≡ true → insert_key telling_cmp (map telling_of es) told ≡ map telling_of es)
      → put_by r e es ≡ map telling_of (e ∷ es)
  again_by e es Less is sorted there ih = absurd (true≢false (sym there ∙ none_before es (chain slot_total k e.0 (keys_of es) is (sorted_head slot_cmp e.0 (keys_of es) sorted))))
  again_by e es Equal is sorted there ih = refl
  again_by e es Greater is sorted there ih = ap (λ l. telling_of e ∷ l) (ih there)

  -- a telling whose slot is taken does not
  pub put_again : (es : List (Slot × Said)) → IsStrictlySortedBy slot_cmp (keys_of es) → is_some (lookup (is_at (slot_cmp k)) es) ≡ true → insert_key telling_cmp (map telling_of es) told ≡ map telling_of es
  put_again [] sorted there = absurd (false≢true there)
  put_again (e ∷ es) sorted there = ap (λ r. put_by r e es) (by_slot e) ∙ again_by e es (slot_cmp k e.0) refl sorted there (put_again es (sorted_tail slot_cmp e.0 (keys_of es) sorted))
