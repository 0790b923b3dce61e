-- The ids of one side of a face, and the row of them by their nodes.
use Rattle.std.proofs.Common.{◌≡◌, ◌≢◌, ℕ, ◌+◌, ◌-◌, ◌<◌, ◌≤◌, Bool, true, false, eqb, List, [], ◌∷◌, length, get_or, Option, Some, None, IsSome, refl, sym, ap, subst, ◌∙◌, arith, suc, inl, inr, ◌⊎◌}
use Rattle.std.specs.declared.cmp.Ordering.{Ordering}
use Rattle.std.specs.declared.cmp.Ordering.TheVariants.{Less, Equal, Greater}
use Rattle.std.specs.List.{All, Contains, insert, remove}
use Rattle.std.specs.List.Sorted.{IsStrictlySortedBy}
use Rattle.std.specs.Ordering.{nat_cmp, is_eq}
use Rattle.std.specs.Option.{is_some}
use Rattle.std.specs.Map.{keys_of}
use Rattle.std.specs.BTreeMap.{is_at}
use Rattle.std.proofs.lemmas.Bool.{cases_eq, cases_lt, false≢true}
use Rattle.std.proofs.lemmas.Bool.Decides.{nat_tests}
use Rattle.std.proofs.lemmas.Option.{none-some, same_Some}
use Rattle.std.proofs.lemmas.Cmp.{ranked}
use Rattle.std.proofs.lemmas.List.{get_or_default}
use Rattle.std.proofs.lemmas.List.Edits.{length-insert, length-remove, get_or-insert_below, get_or-insert_at, get_or-insert_above, get_or-remove_below, get_or-remove_above}
use Rattle.std.proofs.lemmas.Map.Views.{Contains-keys_from_lookup}
use Rattle.std.proofs.lemmas.Map.Keys.{sorted_tail, below_from_sorted}
use Rattle.zq_names.proofs.Insertion.{Contains-insert_old, Contains-insert_new, Contains-insert_cases}
use Rattle.zq_names.proofs.Removal.{Contains-remove, from_Contains-remove}
use Rattle.zq_tables.specs.FaceIds.{of_id, with_id, without_id, least_id}
use Rattle.zq_tables.specs.FaceIndex.{node_or, rank, rank_of, HasNode, AreShort, IsIndex, Divides, Comes, Goes}
use Rattle.zq_key.proofs.Truth.{none_from}
use Rattle.zq_tables.proofs.IdLemmas.{itself, apart_ids, of_id-with_id, of_id-with_other, of_id-without_other}

-- ---- the least id of a node

same_id : (i k : ℕ) → is_at (nat_cmp i) k ≡ true → i ≡ k
same_id i k is = by (nat_cmp i k) refl is
  where
    by : (o : Ordering) → nat_cmp i k ≡ o → is_eq o ≡ true → i ≡ k
    by Less o_is e = absurd (false≢true e)
    by Equal o_is e = ranked i k Equal (sym o_is)
    by Greater o_is e = absurd (false≢true e)

-- an id behind the first of a list is above that
later_id : (e : ℕ × ℕ) (es : List (ℕ × ℕ)) (i n : ℕ) → IsStrictlySortedBy nat_cmp (keys_of (e ∷ es)) → of_id es i ≡ Some n → e.0 < i
later_id e es i n sorted is =
    let some : is_some (of_id es i) ≡ true = ap is_some is in
    let has = Contains-keys_from_lookup {eq = λ (x k : ℕ). is_at (nat_cmp x) k} same_id i es some in
    omega (arith, below_from_sorted (e.0 ∷ keys_of es) 0 (suc has.0) i sorted (omega arith) (omega (arith, has.1)), has.2)

of_id-behind : (e : ℕ × ℕ) (es : List (ℕ × ℕ)) (i n : ℕ) → IsStrictlySortedBy nat_cmp (keys_of (e ∷ es)) → of_id es i ≡ Some n → of_id (e ∷ es) i ≡ Some n
of_id-behind e es i n sorted is =
    let above = later_id e es i n sorted is in
    let other = apart_ids i e.0 (omega arith) in
    rw other is

of_id-first : (e : ℕ × ℕ) (es : List (ℕ × ℕ)) → of_id (e ∷ es) e.0 ≡ Some e.1
of_id-first e es = let here = itself e.0 in rw here

-- an id is the first or behind it
id_cases : (e : ℕ × ℕ) (es : List (ℕ × ℕ)) (i n : ℕ) → of_id (e ∷ es) i ≡ Some n → ((i ≡ e.0) × (e.1 ≡ n)) ⊎ ((i ≢ e.0) × (of_id es i ≡ Some n))
id_cases e es i n is = elim (cases_eq i e.0) [
  | inl same ↦ inl (same, same_Some _ _ (sym (of_id-first e es) ∙ ap (of_id (e ∷ es)) (sym same) ∙ is))
  | inr differ ↦ let other = apart_ids i e.0 differ in inr (differ, rw other at is)
]

pub least-some : (es : List (ℕ × ℕ)) (n i : ℕ) → IsStrictlySortedBy nat_cmp (keys_of es) → of_id es i ≡ Some n → ((j : ℕ) → of_id es j ≡ Some n → i ≤ j) → Some i ≡ least_id es n
least-some [] n i sorted is least = absurd (none-some n is)
least-some (e ∷ es) n i sorted is least = elim (cases_eq e.1 n) [
  | inl same ↦
      let here : eqb e.1 n ≡ true = grind (arith, nat_tests) in
      let le = least e.0 (of_id-first e es ∙ ap (λ (x : ℕ). Some x) same) in
      let first : i ≡ e.0 = elim (id_cases e es i n is) [
        | inl (equal, node) ↦ equal
        | inr (differ, behind) ↦ absurd (omega (arith, le, later_id e es i n sorted behind))
      ] in
      rw (here, first)
  | inr other_node ↦
      let there : eqb e.1 n ≡ false = grind (arith, nat_tests) in
      elim (id_cases e es i n is) [
        | inl (equal, node) ↦ absurd (other_node node)
        | inr (differ, behind) ↦ rw there (least-some es n i (sorted_tail nat_cmp e.0 (keys_of es) sorted) behind (λ j j_is. least j (of_id-behind e es j n sorted j_is)))
      ]
]

pub least-none : (es : List (ℕ × ℕ)) (n : ℕ) → IsStrictlySortedBy nat_cmp (keys_of es) → ((j : ℕ) → of_id es j ≡ Some n → ⊥) → None ≡ least_id es n
least-none [] n sorted none = refl
least-none (e ∷ es) n sorted none =
    let other : e.1 ≢ n = λ same. none e.0 (of_id-first e es ∙ ap (λ (x : ℕ). Some x) same) in
    let there : eqb e.1 n ≡ false = grind (arith, nat_tests) in
    rw there (least-none es n (sorted_tail nat_cmp e.0 (keys_of es) sorted) (λ j is. none j (of_id-behind e es j n sorted is)))

-- ---- places in the row

-- the place of an id
place_of : (es : List (ℕ × ℕ)) (row : List ℕ) (i : ℕ) → IsIndex es row → IsSome (of_id es i) → (k : ℕ) × (k < length row) × (get_or row k 0 ≡ i)
place_of es row i index some = let has = index.has i some in (has.0, has.1, sym (get_or_default row has.0 i 0 has.1) ∙ has.2)

node_there : (o : Option ℕ) → IsSome o → o ≡ Some (node_or o)
node_there None some = absurd (false≢true some)
node_there (Some n) some = refl

rising_to : (es : List (ℕ × ℕ)) (row : List ℕ) (k l : ℕ) → IsIndex es row → k ≤ l → l < length row → rank_of es (get_or row k 0) ≤ rank_of es (get_or row l 0)
rising_to es row k l index le lt = elim (cases_eq k l) [
  | inl same ↦ let here : rank_of es (get_or row k 0) ≡ rank_of es (get_or row l 0) = ap (λ q. rank_of es (get_or row q 0)) same in omega arith
  | inr differ ↦ let rises = index.rising k l (omega arith) lt in omega arith
]

below : (es : List (ℕ × ℕ)) (row : List ℕ) (r at k : ℕ) → IsIndex es row → Divides es r row at → k < at → rank_of es (get_or row k 0) < r
below es row r at k index divides lt =
    let last = divides.before (omega arith) in
    let rises = rising_to es row k (at - 1) index (omega arith) (omega (arith, divides.in_range)) in
    omega arith

from : (es : List (ℕ × ℕ)) (row : List ℕ) (r at k : ℕ) → IsIndex es row → Divides es r row at → at ≤ k → k < length row → r ≤ rank_of es (get_or row k 0)
from es row r at k index divides le lt =
    let first = divides.at (omega arith) in
    let rises = rising_to es row at k index le lt in
    omega arith

-- an id of the node at or behind the place of its ids
of_node : (es : List (ℕ × ℕ)) (row : List ℕ) (n at j : ℕ) → IsIndex es row → Divides es (rank n 0) row at → of_id es j ≡ Some n → (at < length row) × (rank_of es (get_or row at 0) ≤ rank n j)
of_node es row n at j index divides is =
    let there = place_of es row j index (ap is_some is) in
    let here : rank_of es (get_or row there.0 0) ≡ rank n j = ap (rank_of es) there.2 ∙ ap (λ (o : Option ℕ). rank (node_or o) j) is in
    let behind : at ≤ there.0 = elim (cases_lt there.0 at) [
      | inl lt ↦ let l = below es row (rank n 0) at there.0 index divides lt in absurd (omega arith)
      | inr le ↦ le
    ] in
    let rises = rising_to es row at there.0 index behind there.1 in
    (omega (arith, there.1), omega arith)

-- the id at the place of the node's ids is the least of them
pub least_there : (es : List (ℕ × ℕ)) (row : List ℕ) (n at i : ℕ) → IsStrictlySortedBy nat_cmp (keys_of es) → IsIndex es row → Divides es (rank n 0) row at → at < length row → get_or row at 0 ≡ i → of_id es i ≡ Some n → Some i ≡ least_id es n
least_there es row n at i sorted index divides lt here is =
    least-some es n i sorted is (λ j j_is.
    let order = of_node es row n at j index divides j_is in
    let mine : rank_of es (get_or row at 0) ≡ rank n i = ap (rank_of es) here ∙ ap (λ (o : Option ℕ). rank (node_or o) i) is in
    omega (arith, order.1))

-- where no id is at that place, the node has none
pub none_there : (es : List (ℕ × ℕ)) (row : List ℕ) (n at : ℕ) → IsStrictlySortedBy nat_cmp (keys_of es) → IsIndex es row → Divides es (rank n 0) row at → length row ≤ at → None ≡ least_id es n
none_there es row n at sorted index divides past =
    least-none es n sorted (λ j is. omega (arith, (of_node es row n at j index divides is).0))

-- where one of another node is there, the node has none
pub other_there : (es : List (ℕ × ℕ)) (row : List ℕ) (n m at i : ℕ) → IsStrictlySortedBy nat_cmp (keys_of es) → IsIndex es row → Divides es (rank n 0) row at → at < length row → get_or row at 0 ≡ i → of_id es i ≡ Some m → m ≢ n → None ≡ least_id es n
other_there es row n m at i sorted index divides lt here is differ =
    let mine : rank_of es (get_or row at 0) ≡ rank m i = ap (rank_of es) here ∙ ap (λ (o : Option ℕ). rank (node_or o) i) is in
    let small : i < 65536 = subst (λ (q : ℕ). q < 65536) here (index.only at 0 lt).0 in
    let first = divides.at lt in
    least-none es n sorted (λ j j_is.
    let order = of_node es row n at j index divides j_is in
    let there = place_of es row j index (ap is_some j_is) in
    let j_small : j < 65536 = subst (λ (q : ℕ). q < 65536) there.2 (index.only there.0 0 there.1).0 in
    differ (omega (arith, order.1, first)))

-- the place of an id that is there
pub at_place : (es : List (ℕ × ℕ)) (row : List ℕ) (n i at : ℕ) → IsIndex es row → of_id es i ≡ Some n → Divides es (rank n i) row at → (at < length row) × (get_or row at 0 ≡ i)
at_place es row n i at index is divides =
    let there = place_of es row i index (ap is_some is) in
    let here : rank_of es (get_or row there.0 0) ≡ rank n i = ap (rank_of es) there.2 ∙ ap (λ (o : Option ℕ). rank (node_or o) i) is in
    let same : there.0 ≡ at = elim (cases_lt there.0 at) [
      | inl lt ↦ let l = below es row (rank n i) at there.0 index divides lt in absurd (omega arith)
      | inr le ↦ elim (cases_eq there.0 at) [
        | inl equal ↦ equal
        | inr differ ↦
            let l = index.rising at there.0 (omega arith) there.1 in
            let first = divides.at (omega (arith, there.1)) in
            absurd (omega arith)
      ]
    ] in
    (omega (arith, there.1), ap (λ q. get_or row q 0) (sym same) ∙ there.2)

-- ---- rows with one number more or less

module _ (f : ℕ → ℕ) (row : List ℕ) (at : ℕ) (rising : (k l : ℕ) → k < l → l < length row → f (get_or row k 0) < f (get_or row l 0)) where
  pub insert_rising : (x : ℕ) → at ≤ length row → ((k : ℕ) → k < at → f (get_or row k 0) < f x) → ((k : ℕ) → at ≤ k → k < length row → f x < f (get_or row k 0))
      → (k l : ℕ) → k < l → l < length (insert row at x) → f (get_or (insert row at x) k 0) < f (get_or (insert row at x) l 0)
  insert_rising x within before after k l lt in_new =
      let n = length-insert row at x within in
      elim (cases_lt l at) [
        | inl l_below ↦ rw (get_or-insert_below row at x 0 k (omega arith) within, get_or-insert_below row at x 0 l l_below within) (rising k l lt (omega arith))
        | inr l_from ↦ elim (cases_eq l at) [
          | inl l_at ↦
              let this : get_or (insert row at x) l 0 ≡ x = rw l_at (get_or-insert_at row at x 0 within) in
              rw (get_or-insert_below row at x 0 k (omega arith) within, this) (before k (omega arith))
          | inr l_differ ↦
              let this : get_or (insert row at x) l 0 ≡ get_or row (l - 1) 0 = past x l within (omega arith) in
              elim (cases_lt k at) [
                | inl k_below ↦ rw (get_or-insert_below row at x 0 k k_below within, this) (rising k (l - 1) (omega arith) (omega arith))
                | inr k_from ↦ elim (cases_eq k at) [
                  | inl k_at ↦
                      let first : get_or (insert row at x) k 0 ≡ x = rw k_at (get_or-insert_at row at x 0 within) in
                      rw (first, this) (after (l - 1) (omega arith) (omega arith))
                  | inr k_differ ↦ rw (past x k within (omega arith), this) (rising (k - 1) (l - 1) (omega arith) (omega arith))
                ]
              ]
        ]
      ]
    where
      past : (x k : ℕ) → at ≤ length row → at < k → get_or (insert row at x) k 0 ≡ get_or row (k - 1) 0
      past x k within lt = subst (λ q. get_or (insert row at x) q 0 ≡ get_or row (k - 1) 0) {x = k - 1 + 1} (omega arith) (get_or-insert_above row at x 0 (k - 1) (omega arith) within)

  pub remove_rising : at < length row → (k l : ℕ) → k < l → l < length (remove row at) → f (get_or (remove row at) k 0) < f (get_or (remove row at) l 0)
  remove_rising within k l lt in_new =
      let n = length-remove row at within in
      elim (cases_lt l at) [
        | inl l_below ↦ rw (get_or-remove_below row at 0 k (omega arith) within, get_or-remove_below row at 0 l l_below within) (rising k l lt (omega arith))
        | inr l_from ↦ elim (cases_lt k at) [
          | inl k_below ↦ rw (get_or-remove_below row at 0 k k_below within, get_or-remove_above row at 0 l l_from within) (rising k (l + 1) (omega arith) (omega arith))
          | inr k_from ↦ rw (get_or-remove_above row at 0 k k_from within, get_or-remove_above row at 0 l l_from within) (rising (k + 1) (l + 1) (omega arith) (omega arith))
        ]
      ]

-- ---- no ids, and equal ones

pub empty_index : (es : List (ℕ × ℕ)) (row : List ℕ) → es ≡ [] → row ≡ [] → IsIndex es row
empty_index es row no_ids no_row =
    let n : length row ≡ 0 = ap length no_row in
    record {
      has = λ i some. absurd (false≢true (sym (ap (λ (l : List (ℕ × ℕ)). is_some (of_id l i)) no_ids) ∙ some));
      only = λ k d lt. absurd (omega arith);
      rising = λ k l lt l_lt. absurd (omega arith);
    }

pub same_index : (es es' : List (ℕ × ℕ)) (row row' : List ℕ) → es' ≡ es → row' ≡ row → IsIndex es row → IsIndex es' row'
same_index es es' row row' ids same index =
    let I : List (ℕ × ℕ) → Type 0 = λ (l : List (ℕ × ℕ)). IsIndex l row' in
    let J : List ℕ → Type 0 = λ (l : List ℕ). IsIndex es l in
    subst I (sym ids) (subst J (sym same) index)

-- ---- an id comes

-- what is in the row is not an id without a node
pub differs : (es : List (ℕ × ℕ)) (row : List ℕ) (i k : ℕ) → All (HasNode es) row → of_id es i ≡ None → k < length row → get_or row k 0 ≢ i
differs es row i k only absent lt same = false≢true (sym (ap (λ (q : ℕ). is_some (of_id es q)) same ∙ ap is_some absent) ∙ (only k 0 lt).1)

pub only-with : (es : List (ℕ × ℕ)) (row : List ℕ) (i n : ℕ) → of_id es i ≡ None → All (HasNode es) row → All (HasNode (with_id es i n)) row
only-with es row i n absent only k d lt =
    let zero_is = get_or_default row k d 0 lt in
    let differ : get_or row k d ≢ i = λ same. differs es row i k only absent lt (sym zero_is ∙ same) in
    let was = only k d lt in
    (was.0, ap is_some (of_id-with_other es i (get_or row k d) n differ) ∙ was.1)

rank-other : (es : List (ℕ × ℕ)) (i j n : ℕ) → j ≢ i → rank_of (with_id es i n) j ≡ rank_of es j
rank-other es i j n differ = ap (λ (o : Option ℕ). rank (node_or o) j) (of_id-with_other es i j n differ)

rank-own : (es : List (ℕ × ℕ)) (i n : ℕ) → rank_of (with_id es i n) i ≡ rank n i
rank-own es i n = ap (λ (o : Option ℕ). rank (node_or o) i) (of_id-with_id es i n)

-- the ranks of those that are in the row stay
divides-old : (es : List (ℕ × ℕ)) (row : List ℕ) (i n at : ℕ) → of_id es i ≡ None → IsIndex es row → Divides (with_id es i n) (rank n i) row at → Divides es (rank n i) row at
divides-old es row i n at absent index divides = record {
  in_range = divides.in_range;
  before = λ lt.
      let l = divides.before lt in
      let same = rank-other es i (get_or row (at - 1) 0) n (differs es row i (at - 1) index.only absent (omega (arith, divides.in_range))) in
      omega arith;
  at = λ lt.
      let l = divides.at lt in
      let same = rank-other es i (get_or row at 0) n (differs es row i at index.only absent lt) in
      omega arith;
}

pub IsIndex-put : (es : List (ℕ × ℕ)) (row new : List ℕ) (i n : ℕ) → of_id es i ≡ None → i < 65536 → IsIndex es row → Comes (with_id es i n) row new (rank n i) i → IsIndex (with_id es i n) new
IsIndex-put es row new i n absent small index comes =
    let at = comes.at in
    let divides = divides-old es row i n at absent index comes.divides in
    let within = divides.in_range in
    let with = with_id es i n in
    let own = rank-own es i n in
    let I : List ℕ → Type 0 = λ (l : List ℕ). IsIndex with l in
    subst I (sym comes.is) (record {
      has = λ j some. elim (cases_eq j i) [
        | inl same ↦ subst (λ (q : ℕ). Contains (insert row at i) q) (sym same) (Contains-insert_new row at i)
        | inr differ ↦ Contains-insert_old row at i j (index.has j (ap is_some (sym (of_id-with_other es i j n differ)) ∙ some))
      ];
      only = λ k d lt. elim (Contains-insert_cases row at i (get_or (insert row at i) k d) (k, lt, get_or_default (insert row at i) k (get_or (insert row at i) k d) d lt)) [
        | inl (m, m_lt, m_is) ↦ subst (HasNode with) m_is (only-with es row i n absent index.only m (get_or (insert row at i) k d) m_lt)
        | inr same ↦ subst (HasNode with) same (small, ap is_some (of_id-with_id es i n))
      ];
      rising = insert_rising (rank_of with) row at
          (λ k l lt l_lt. rw (rank-other es i (get_or row k 0) n (differs es row i k index.only absent (omega arith)), rank-other es i (get_or row l 0) n (differs es row i l index.only absent l_lt)) (index.rising k l lt l_lt))
          i within
          (λ k lt.
          let l = below es row (rank n i) at k index divides lt in
          let same = rank-other es i (get_or row k 0) n (differs es row i k index.only absent (omega arith)) in
          omega arith)
          (λ k le lt.
          let l = from es row (rank n i) at k index divides le lt in
          let differ = differs es row i k index.only absent lt in
          let same = rank-other es i (get_or row k 0) n differ in
          let k_small = (index.only k 0 lt).0 in
          omega arith);
    })

-- an id that has a node is in the row, and those there are of 16 bits
pub short_ids : (es : List (ℕ × ℕ)) (row : List ℕ) → IsIndex es row → AreShort es
short_ids es row index i long = none_from (of_id es i) (by (is_some (of_id es i)) refl)
  where
    by : (b : Bool) → is_some (of_id es i) ≡ b → is_some (of_id es i) ≡ false
    by true is =
        let has = index.has i is in
        let short : get_or row has.0 i < 65536 = (index.only has.0 i has.1).0 in
        absurd (omega (arith, short, has.2, long))
    by false is = is

-- ---- an id goes

pub IsIndex-take : (es : List (ℕ × ℕ)) (row new : List ℕ) (i : ℕ) → of_id (without_id es i) i ≡ None → IsIndex es row → Goes row new i → IsIndex (without_id es i) new
IsIndex-take es row new i gone index goes =
    let at = goes.at in
    let within = goes.in_range in
    let without = without_id es i in
    let apart : (k : ℕ) → k < length row → k ≢ at → get_or row k 0 ≢ i = λ k lt differ same.
    let ranks : rank_of es (get_or row k 0) ≡ rank_of es (get_or row at 0) = ap (rank_of es) (same ∙ sym goes.was) in
    elim (cases_lt k at) [
      | inl less ↦ let l = index.rising k at less within in omega arith
      | inr le ↦ let l = index.rising at k (omega arith) lt in omega arith
    ] in
    let stays : (k : ℕ) → k < length (remove row at) → get_or (remove row at) k 0 ≢ i = λ k lt same.
    let was = from_Contains-remove row at i within (k, lt, get_or_default (remove row at) k i 0 lt ∙ same) in
    apart was.0 was.1 was.2 (sym (get_or_default row was.0 i 0 was.1) ∙ was.3) in
    let ranks : (k : ℕ) → k < length (remove row at) → rank_of without (get_or (remove row at) k 0) ≡ rank_of es (get_or (remove row at) k 0) = λ k lt.
    ap (λ (o : Option ℕ). rank (node_or o) (get_or (remove row at) k 0)) (of_id-without_other es i (get_or (remove row at) k 0) (stays k lt)) in
    let I : List ℕ → Type 0 = λ (l : List ℕ). IsIndex without l in
    subst I (sym goes.is) (record {
      has = λ j some. elim (cases_eq j i) [
        | inl same ↦ absurd (false≢true (sym (ap (λ (q : ℕ). is_some (of_id without q)) same ∙ ap is_some gone) ∙ some))
        | inr differ ↦
            let there = index.has j (ap is_some (sym (of_id-without_other es i j differ)) ∙ some) in
            let other : there.0 ≢ at = λ same. differ (sym there.2 ∙ get_or_default row there.0 j 0 there.1 ∙ ap (λ (q : ℕ). get_or row q 0) same ∙ goes.was) in
            Contains-remove row at there.0 j within there.1 other there.2
      ];
      only = λ k d lt.
          let x = get_or (remove row at) k d in
          let differ : x ≢ i = λ same. stays k lt (sym (get_or_default (remove row at) k d 0 lt) ∙ same) in
          let was = from_Contains-remove row at x within (k, lt, get_or_default (remove row at) k x d lt) in
          let node = subst (HasNode es) was.3 (index.only was.0 x was.1) in
          (node.0, ap is_some (of_id-without_other es i x differ) ∙ node.1);
      rising = λ k l lt l_lt. rw (ranks k (omega arith), ranks l l_lt) (remove_rising (rank_of es) row at index.rising within k l lt l_lt);
    })
