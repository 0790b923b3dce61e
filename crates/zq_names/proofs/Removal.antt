-- A node without a text below it taken out.
use Rattle.std.proofs.Common.{◌≡◌, ◌≢◌, ℕ, ◌+◌, ◌-◌, ◌<◌, List, [], ◌∷◌, length, map, take, drop, get_or, subst, sym, ap, ◌∙◌, refl, arith, suc, zero, Option, Some, None, IsSome, inl, inr}
use Rattle.std.specs.List.{All, Contains, remove, slice_get}
use Rattle.std.specs.List.Sorted.{IsStrictlySortedBy}
use Rattle.std.proofs.lemmas.Bool.{cases_lt, false≢true}
use Rattle.std.proofs.lemmas.Cmp.{nat_list_cmp_total}
use Rattle.std.proofs.lemmas.Option.{none-some}
use Rattle.std.proofs.lemmas.List.{map-append, take-map, drop-map, get_or_default}
use Rattle.std.proofs.lemmas.List.Edits.{length-remove, get_or-remove_below, get_or-remove_above}
use Rattle.std.proofs.lemmas.List.Elements.{All-head, All-tail, All-from_get_or, All-get_or}
use Rattle.std.proofs.lemmas.Map.Keys.{sorted_from_all_adjacent, Less-from_sorted}
use Rattle.zq_names.specs.declared.node.Node.{Node}
use Rattle.zq_names.specs.Texts.{text_cmp, IsBelow}
use Rattle.zq_names.specs.Names.{NameEntry, IsTable, IsNames, slot, row, rows, texts, text_at}
use Rattle.zq_names.proofs.Rows.{length-texts-rows, text_at-rows}
use Rattle.zq_key.proofs.Runs.{not_below_itself}

-- ---- lists without one place

-- an element at another place stays
pub Contains-remove : {X : Type 0} (xs : List X) (at k : ℕ) (x : X) → at < length xs → k < length xs → k ≢ at → get_or xs k x ≡ x → Contains (remove xs at) x
Contains-remove xs at k x in_at in_k differ is =
    let n = length-remove xs at in_at in
    elim (cases_lt k at) [
      | inl below ↦ (k, omega (arith, n), get_or-remove_below xs at x k below in_at ∙ is)
      | inr above ↦
          let moved : get_or (remove xs at) (k - 1) x ≡ get_or xs (k - 1 + 1) x = get_or-remove_above xs at x (k - 1) (omega arith) in_at in
          let same : k - 1 + 1 ≡ k = omega arith in
          (k - 1, omega (arith, n), moved ∙ ap (λ q. get_or xs q x) same ∙ is)
    ]

-- and each that stays was there, at another place
pub from_Contains-remove : {X : Type 0} (xs : List X) (at : ℕ) (x : X) → at < length xs → Contains (remove xs at) x → (k : ℕ) × (k < length xs) × (k ≢ at) × (get_or xs k x ≡ x)
from_Contains-remove xs at x in_at (k, lt, is) =
    let n = length-remove xs at in_at in
    elim (cases_lt k at) [
      | inl below ↦ (k, omega arith, omega arith, sym (get_or-remove_below xs at x k below in_at) ∙ is)
      | inr above ↦ (k + 1, omega (arith, n), omega arith, sym (get_or-remove_above xs at x k above in_at) ∙ is)
    ]

pub map-remove : {X Y : Type 0} (f : X → Y) (xs : List X) (i : ℕ) → map f (remove xs i) ≡ remove (map f xs) i
map-remove f xs i = map-append f (take i xs) (drop (suc i) xs) ∙ rw (take-map f i xs, drop-map f (suc i) xs)

pub first-remove : {X : Type 0} (xs : List X) (i : ℕ) (y : X) → 0 < i → slice_get xs 0 ≡ Some y → slice_get (remove xs i) 0 ≡ Some y
first-remove [] i y lt is = absurd (none-some y is)
first-remove (z ∷ zs) zero y lt is = absurd (omega arith)
first-remove (z ∷ zs) (suc i) y lt is = is

pub rising-remove : (ts : List (List ℕ)) (at : ℕ) → IsStrictlySortedBy text_cmp ts → at < length ts → IsStrictlySortedBy text_cmp (remove ts at)
rising-remove ts at rising in_at =
    sorted_from_all_adjacent nat_list_cmp_total (remove ts at) [] (λ k lt.
    let n = length-remove ts at in_at in
    elim (cases_lt (k + 1) at) [
      | inl below ↦ rw (get_or-remove_below ts at [] k (omega arith) in_at, get_or-remove_below ts at [] (k + 1) below in_at) (Less-from_sorted text_cmp ts k (k + 1) [] rising (omega arith) (omega (arith, n)))
      | inr not_below ↦ elim (cases_lt k at) [
        | inl before ↦ rw (get_or-remove_below ts at [] k before in_at, get_or-remove_above ts at [] (k + 1) (omega arith) in_at) (Less-from_sorted text_cmp ts k (k + 1 + 1) [] rising (omega arith) (omega (arith, n)))
        | inr past ↦ rw (get_or-remove_above ts at [] k past in_at, get_or-remove_above ts at [] (k + 1) (omega arith) in_at) (Less-from_sorted text_cmp ts (k + 1) (k + 1 + 1) [] rising (omega arith) (omega (arith, n)))
      ]
    ])

-- ---- the table

-- rows that don't speak of the number stay
pub rows-agree : (old new : List (Option Node)) (order : List ℕ) (i : ℕ) → All (λ j. j ≢ i) order → ((j : ℕ) → j ≢ i → slot new j ≡ slot old j) → rows new order ≡ rows old order
rows-agree old new [] i apart others = refl
rows-agree old new (j ∷ js) i apart others =
    rw (others j (All-head (λ j. j ≢ i) j js apart), rows-agree old new js i (All-tail (λ j. j ≢ i) j js apart) others)

-- a number stands at one place alone
pub one_place : (nodes : List (Option Node)) (order : List ℕ) (at k : ℕ) → IsStrictlySortedBy text_cmp (texts (rows nodes order)) → at < length order → k < length order → k ≢ at → get_or order k 0 ≢ get_or order at 0
one_place nodes order at k rising in_at in_k differ same =
    let ts = texts (rows nodes order) in
    let n = length-texts-rows nodes order in
    let texts_same : get_or ts k [] ≡ get_or ts at [] = text_at-rows nodes order k in_k ∙ ap (λ (j : ℕ). (row nodes j).text) same ∙ sym (text_at-rows nodes order at in_at) in
    elim (cases_lt k at) [
      | inl below ↦ not_below_itself (get_or ts at []) (rw texts_same at (Less-from_sorted text_cmp ts k at [] rising below (omega (arith, n))))
      | inr above ↦ not_below_itself (get_or ts at []) (rw texts_same at (Less-from_sorted text_cmp ts at k [] rising (omega arith) (omega (arith, n))))
    ]

pub IsTable-take : (old new : List (Option Node)) (order : List ℕ) (at : ℕ)
    → IsTable old order → at < length order → 0 < at → ((s : List ℕ) → Contains (texts (rows old order)) s → IsBelow (text_at (rows old order) at) s → ⊥)
    → slot new (get_or order at 0) ≡ None → ((j : ℕ) → j ≢ get_or order at 0 → slot new j ≡ slot old j)
    → (rows new (remove order at) ≡ remove (rows old order) at) × IsTable new (remove order at)
IsTable-take old new order at table in_at past lonely gone others =
    let i = get_or order at 0 in
    let ts = texts (rows old order) in
    let n = length-texts-rows old order in
    let fewer = length-remove order at in_at in
    let apart : All (λ j. j ≢ i) (remove order at) = All-from_get_or (λ j. j ≢ i) (remove order at) 0 (λ k lt. elim (cases_lt k at) [
      | inl below ↦ rw (get_or-remove_below order at 0 k below in_at) (one_place old order at k table.names.rising in_at (omega arith) (omega arith))
      | inr above ↦ rw (get_or-remove_above order at 0 k above in_at) (one_place old order at (k + 1) table.names.rising in_at (omega (arith, fewer)) (omega arith))
    ]) in
    let view : rows new (remove order at) ≡ remove (rows old order) at = rows-agree old new (remove order at) i apart others ∙ map-remove (row old) order at in
    let shown : texts (rows new (remove order at)) ≡ remove ts at = ap texts view ∙ map-remove (λ (e : NameEntry). e.text) (rows old order) at in
    let N : List (List ℕ) → Type 0 = IsNames (remove order at) in
    let stays : (j : ℕ) → IsSome (slot new j) → j ≢ i = λ j some same. missing (slot new i) gone (rw same at some) in (
      view,
      record {
        live = All-from_get_or (λ j. IsSome (slot new j)) (remove order at) 0 (λ k lt.
            let differ = All-get_or (λ j. j ≢ i) (remove order at) k 0 lt apart in
            rw (others _ differ) (elim (cases_lt k at) [
              | inl below ↦ rw (get_or-remove_below order at 0 k below in_at) (table.live k 0 (omega arith))
              | inr above ↦ rw (get_or-remove_above order at 0 k above in_at) (table.live (k + 1) 0 (omega (arith, fewer)))
            ]));
        covered = λ j some.
            let differ = stays j some in
            let has = table.covered j (rw (others j differ) at some) in
            let elsewhere : has.0 ≢ at = λ same. differ (sym has.2 ∙ get_or_default order has.0 j 0 has.1 ∙ ap (λ q. get_or order q 0) same) in
            Contains-remove order at has.0 j in_at has.1 elsewhere has.2;
        names = subst N (sym shown) (record {
          rising = rising-remove ts at table.names.rising (omega (arith, n));
          root = first-remove order at 0 past table.names.root;
          root_text = first-remove ts at [] past table.names.root_text;
          closed = λ s t has below.
              let was = from_Contains-remove ts at t (omega (arith, n)) has in
              let upper = table.names.closed s t (was.0, was.1, was.3) below in
              let elsewhere : upper.0 ≢ at = λ same.
              let here : text_at (rows old order) at ≡ s = sym (get_or_default ts at s [] (omega (arith, n))) ∙ ap (λ q. get_or ts q s) (sym same) ∙ upper.2 in
              let B : List ℕ → Type 0 = λ (u : List ℕ). IsBelow u t in
              lonely t (was.0, was.1, was.3) (subst B (sym here) below) in
              Contains-remove ts at upper.0 s (omega (arith, n)) upper.1 elsewhere upper.2;
          keys = λ t has some.
              let was = from_Contains-remove ts at t (omega (arith, n)) has in
              table.names.keys t (was.0, was.1, was.3) some;
        });
      },
    )
  where
    missing : (o : Option Node) → o ≡ None → IsSome o → ⊥
    missing o none some = absurd (false≢true (rw none at some))

-- the same, with the number that `Vec::remove` gave
pub taken : (old new : List (Option Node)) (order : List ℕ) (at id : ℕ)
    → IsTable old order → at < length order → 0 < at → ((s : List ℕ) → Contains (texts (rows old order)) s → IsBelow (text_at (rows old order) at) s → ⊥)
    → id ≡ get_or order at id → slot new id ≡ None → ((j : ℕ) → j ≢ id → slot new j ≡ slot old j)
    → (rows new (remove order at) ≡ remove (rows old order) at) × IsTable new (remove order at)
taken old new order at id table in_at past lonely is gone others =
    let number : id ≡ get_or order at 0 = is ∙ get_or_default order at id 0 in_at in
    let S : ℕ → Type 0 = λ (i : ℕ). slot new i ≡ None in
    IsTable-take old new order at table in_at past lonely (subst S number gone) (λ j differ. others j (λ same. differ (same ∙ number)))
