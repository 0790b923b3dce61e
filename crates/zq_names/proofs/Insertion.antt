-- A new node in the gap for its text.
use Rattle.std.proofs.Common.{◌≡◌, ◌≢◌, ℕ, ◌+◌, ◌-◌, ◌<◌, ◌≤◌, true, List, [], ◌∷◌, ◌++◌, length, map, take, drop, get_or, subst, sym, ap, ◌∙◌, refl, arith, suc, zero, Option, Some, None, IsSome, ◌⊎◌, inl, inr}
use Rattle.std.specs.declared.cmp.Ordering.TheVariants.{Less}
use Rattle.std.specs.List.{All, Contains, insert, slice_get}
use Rattle.std.specs.List.Sorted.{IsStrictlySortedBy}
use Rattle.std.proofs.lemmas.Bool.{cases_eq, cases_lt, false≢true}
use Rattle.std.proofs.lemmas.Cmp.{nat_list_cmp_total}
use Rattle.std.proofs.lemmas.Option.{none-some, slice_get_within, get_or_from_slice_get}
use Rattle.std.proofs.lemmas.List.{map-append, take-map, drop-map, take-append-drop}
use Rattle.std.proofs.lemmas.List.Edits.{length-insert, get_or-insert_below, get_or-insert_at, get_or-insert_above}
use Rattle.std.proofs.lemmas.List.Elements.{All-append, All-cons, All-head, All-tail, All-take, All-drop, Contains-append_left, Contains-append_right, Contains-append_cases}
use Rattle.std.proofs.lemmas.Map.Keys.{sorted_from_all_adjacent, Less-from_sorted}
use Rattle.zq_names.specs.declared.node.Node.{Node}
use Rattle.zq_key.specs.Key.{is_key}
use Rattle.zq_names.specs.Texts.{text_cmp, IsBelow}
use Rattle.zq_names.specs.declared.node.ResourceId.{ResourceId}
use Rattle.zq_names.specs.Names.{NameEntry, IsTable, IsNames, IsLinked, IsGapAt, slot, slot_matches, slot_former, row, rows, texts, entry_of}
use Rattle.zq_names.proofs.Rows.{length-texts}

-- ---- lists with one more element

pub Contains-insert_old : {X : Type 0} (xs : List X) (i : ℕ) (x y : X) → Contains xs y → Contains (insert xs i x) y
Contains-insert_old {X} xs i x y has =
    let C : List X → Type 0 = λ (l : List X). Contains l y in
    elim (Contains-append_cases (take i xs) (drop i xs) y (subst C (sym (take-append-drop i xs)) has)) [
      | inl front ↦ Contains-append_left (take i xs) (x ∷ drop i xs) y front
      | inr back ↦ Contains-append_right (take i xs) (x ∷ drop i xs) y (Contains-append_right (x ∷ []) (drop i xs) y back)
    ]

pub Contains-insert_new : {X : Type 0} (xs : List X) (i : ℕ) (x : X) → Contains (insert xs i x) x
Contains-insert_new xs i x = Contains-append_right (take i xs) (x ∷ drop i xs) x (Contains-append_left (x ∷ []) (drop i xs) x (zero, omega arith, refl))

pub Contains-insert_cases : {X : Type 0} (xs : List X) (i : ℕ) (x y : X) → Contains (insert xs i x) y → Contains xs y ⊎ (x ≡ y)
Contains-insert_cases {X} xs i x y has =
    let C : List X → Type 0 = λ (l : List X). Contains l y in
    elim (Contains-append_cases (take i xs) (x ∷ drop i xs) y has) [
      | inl front ↦ inl (subst C (take-append-drop i xs) (Contains-append_left (take i xs) (drop i xs) y front))
      | inr more ↦ elim (Contains-append_cases (x ∷ []) (drop i xs) y more) [
        | inl here ↦ inr (single here)
        | inr back ↦ inl (subst C (take-append-drop i xs) (Contains-append_right (take i xs) (drop i xs) y back))
      ]
    ]
  where
    single : Contains (x ∷ []) y → x ≡ y
    single (zero, lt, is) = is
    single (suc k, lt, is) = absurd (omega arith)

pub map-insert : {X Y : Type 0} (f : X → Y) (xs : List X) (i : ℕ) (x : X) → map f (insert xs i x) ≡ insert (map f xs) i (f x)
map-insert f xs i x = map-append f (take i xs) (x ∷ drop i xs) ∙ rw (take-map f i xs, drop-map f i xs)

pub first-insert : {X : Type 0} (xs : List X) (i : ℕ) (x y : X) → 0 < i → slice_get xs 0 ≡ Some y → slice_get (insert xs i x) 0 ≡ Some y
first-insert [] i x y lt is = absurd (none-some y is)
first-insert (z ∷ zs) zero x y lt is = absurd (omega arith)
first-insert (z ∷ zs) (suc i) x y lt is = is

-- a text in its gap keeps the order
pub rising-insert : (ts : List (List ℕ)) (t : List ℕ) (i : ℕ) → IsStrictlySortedBy text_cmp ts → i ≤ length ts
    → ((k : ℕ) → k < i → text_cmp (get_or ts k []) t ≡ Less) → ((k : ℕ) → i ≤ k → k < length ts → text_cmp t (get_or ts k []) ≡ Less)
    → IsStrictlySortedBy text_cmp (insert ts i t)
rising-insert ts t i rising in_range before after =
    sorted_from_all_adjacent nat_list_cmp_total (insert ts i t) [] (λ k lt.
    let n = length-insert ts i t in_range in
    elim (cases_lt (k + 1) i) [
      | inl below ↦ rw (get_or-insert_below ts i t [] k (omega arith) in_range, get_or-insert_below ts i t [] (k + 1) below in_range) (Less-from_sorted text_cmp ts k (k + 1) [] rising (omega arith) (omega arith))
      | inr not_below ↦ elim (cases_eq (k + 1) i) [
        | inl here ↦
            let next : get_or (insert ts i t) (k + 1) [] ≡ t = rw here (get_or-insert_at ts i t [] in_range) in
            rw (get_or-insert_below ts i t [] k (omega arith) in_range, next) (before k (omega arith))
        | inr past ↦ elim (cases_eq k i) [
          | inl at ↦
              let this : get_or (insert ts i t) k [] ≡ t = rw at (get_or-insert_at ts i t [] in_range) in
              rw (this, get_or-insert_above ts i t [] k (omega arith) in_range) (after k (omega arith) (omega (arith, n)))
          | inr above ↦
              let this : get_or (insert ts i t) k [] ≡ get_or ts (k - 1) [] = subst (λ q. get_or (insert ts i t) q [] ≡ get_or ts (k - 1) []) {x = k - 1 + 1} (omega arith) (get_or-insert_above ts i t [] (k - 1) (omega arith) in_range) in
              rw (this, get_or-insert_above ts i t [] k (omega arith) in_range) (Less-from_sorted text_cmp ts (k - 1) k [] rising (omega arith) (omega (arith, n)))
        ]
      ]
    ])

-- ---- the table

nothing_in : {X : Type 0} (x : X) → Contains [] x → ⊥
nothing_in x (k, lt, e) = omega arith

-- the root's text has no gap at 0
nothing_before_root : (t : List ℕ) → text_cmp t [] ≡ Less → ⊥
nothing_before_root [] less = cc
nothing_before_root (b ∷ bs) less = cc

pub gap_past_root : (ns : List NameEntry) (t : List ℕ) (i : ℕ) → slice_get (texts ns) 0 ≡ Some [] → IsGapAt ns t i → 0 < i
gap_past_root ns t zero root gap =
    let within = slice_get_within (texts ns) 0 [] root in
    absurd (nothing_before_root t (rw (get_or_from_slice_get (texts ns) 0 [] [] root) at (gap.after 0 (omega arith) (omega (arith, within, length-texts ns)))))
gap_past_root ns t (suc i) root gap = omega arith

pub rows-fresh : (old new : List (Option Node)) (order : List ℕ) (i : ℕ) → All (λ j. IsSome (slot old j)) order → slot old i ≡ None → ((j : ℕ) → j ≢ i → slot new j ≡ slot old j) → rows new order ≡ rows old order
rows-fresh old new [] i live fresh others = refl
rows-fresh old new (j ∷ js) i live fresh others =
    let differ : j ≢ i = λ same. missing (slot old i) fresh (rw same at (All-head (λ j. IsSome (slot old j)) j js live)) in
    rw (others j differ, rows-fresh old new js i (All-tail (λ j. IsSome (slot old j)) j js live) fresh others)
  where
    missing : (o : Option Node) → o ≡ None → IsSome o → ⊥
    missing o none some = absurd (false≢true (rw none at some))

pub IsTable-put : (old new : List (Option Node)) (order : List ℕ) (i at : ℕ) (node : Node)
    → is_key node.text ≡ true → IsTable old order → IsGapAt (rows old order) node.text at → ((s : List ℕ) → IsBelow s node.text → Contains (texts (rows old order)) s)
    → slot old i ≡ None → slot new i ≡ Some node → ((j : ℕ) → j ≢ i → slot new j ≡ slot old j)
    → (rows new (insert order at i) ≡ insert (rows old order) at (entry_of i (Some node))) × IsTable new (insert order at i)
IsTable-put old new order i at node key table gap closed fresh is others =
    let same = rows-fresh old new order i table.live fresh others in
    let here : row new i ≡ entry_of i (Some node) = ap (entry_of i) is in
    let view : rows new (insert order at i) ≡ insert (rows old order) at (entry_of i (Some node)) = map-insert (row new) order at i ∙ rw (same, here) in
    let shown : texts (rows new (insert order at i)) ≡ insert (texts (rows old order)) at node.text = ap texts view ∙ map-insert (λ (e : NameEntry). e.text) (rows old order) at (entry_of i (Some node)) in
    let N : List (List ℕ) → Type 0 = IsNames (insert order at i) in
    let past = gap_past_root (rows old order) node.text at table.names.root_text gap in
    let ts = texts (rows old order) in
    let comes : (j : ℕ) → IsSome (slot old j) → IsSome (slot new j) = λ j some. elim (cases_eq j i) [
      | inl same_j ↦ rw (same_j, is) refl
      | inr differ ↦ rw (others j differ) some
    ] in (
      view,
      record {
        live = All-append (λ j. IsSome (slot new j)) (take at order) (i ∷ drop at order)
            (All-take (λ j. IsSome (slot new j)) at order (λ k d lt. comes _ (table.live k d lt)))
            (All-cons (λ j. IsSome (slot new j)) i (drop at order) (rw is refl) (All-drop (λ j. IsSome (slot new j)) at order (λ k d lt. comes _ (table.live k d lt))));
        covered = λ j some. elim (cases_eq j i) [
          | inl same_j ↦ rw same_j (Contains-insert_new order at i)
          | inr differ ↦ Contains-insert_old order at i j (table.covered j (rw (others j differ) at some))
        ];
        names = subst N (sym shown) (record {
          rising = rising-insert ts node.text at table.names.rising (omega (arith, gap.in_range, length-texts (rows old order))) gap.before (λ k le lt. gap.after k le (omega (arith, length-texts (rows old order))));
          root = first-insert order at i 0 past table.names.root;
          root_text = first-insert ts at node.text [] past table.names.root_text;
          closed = λ s t has below. elim (Contains-insert_cases ts at node.text t has) [
            | inl old_t ↦ Contains-insert_old ts at node.text s (table.names.closed s t old_t below)
            | inr new_t ↦ Contains-insert_old ts at node.text s (closed s (let B : List ℕ → Type 0 = IsBelow s in subst B (sym new_t) below))
          ];
          keys = λ t has some. elim (Contains-insert_cases ts at node.text t has) [
            | inl old_t ↦ table.names.keys t old_t some
            | inr new_t ↦ ap is_key (sym new_t) ∙ key
          ];
        });
      },
    )

-- ---- links

empty_slot : (o : Option Node) → o ≡ None → (m : ResourceId) → Contains (slot_matches o ++ slot_former o) m → ⊥
empty_slot o none m has = nothing_in m (rw none at has)

pub IsLinked-put : (old new : List (Option Node)) (i : ℕ) (node : Node) → node.matches.items ≡ [] → slot old i ≡ None → slot new i ≡ Some node → ((j : ℕ) → j ≢ i → slot new j ≡ slot old j) → IsLinked old → IsLinked new
IsLinked-put old new i node bare fresh is others linked = record {
  both_ways = λ a b has. let before = was a b has in rw (others a.0 before.1.0) (linked.both_ways a b before.1.1);
  contexts = λ a b has. let before = was a b has in let both = linked.contexts a b before.1.1 in (rw (others b.0 before.0) both.0, rw (others a.0 before.1.0) both.1);
}
  where
    was : (a b : ResourceId) → Contains (slot_matches (slot new b.0)) a → (b.0 ≢ i) × ((a.0 ≢ i) × Contains (slot_matches (slot old b.0)) a)
    was a b has = elim (cases_eq b.0 i) [
      | inl same ↦ absurd (nothing_in a (rw (same, is, bare) at has))
      | inr differ ↦
          let before : Contains (slot_matches (slot old b.0)) a = rw (others b.0 differ) at has in
          (differ, (λ same. empty_slot (slot old a.0) (ap (slot old) same ∙ fresh) b (linked.both_ways a b before), before))
    ]
