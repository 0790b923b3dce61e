-- Where a key stands among texts that rise, or would go.
use Rattle.std.proofs.Common.{◌≡◌, ◌≢◌, ℕ, ◌+◌, ◌-◌, ◌<◌, ◌≤◌, Bool, true, false, cond, ◌||◌, List, [], ◌∷◌, length, map, get_or, refl, sym, ap, subst, ◌∙◌, arith, zero, suc}
use Rattle.std.specs.declared.cmp.Ordering.{Ordering}
use Rattle.std.specs.declared.cmp.Ordering.TheVariants.{Less, Equal, Greater}
use Rattle.std.specs.Ordering.{is_eq, is_lt, match_ordering, ordering_reverse}
use Rattle.std.specs.List.{insert, list_any, remove}
use Rattle.std.specs.List.Sorted.{IsStrictlySortedBy}
use Rattle.std.specs.BTreeMap.{is_at}
use Rattle.std.specs.BTreeSet.{insert_key}
use Rattle.std.specs.Set.{remove_key}
use Rattle.std.proofs.lemmas.Cmp.{nat_list_cmp_total, tied_itself}
use Rattle.std.proofs.lemmas.List.{get_or-map, length-map}
use Rattle.zq_names.specs.Border.{IsBorder}
use Rattle.zq_names.specs.Names.{NameEntry, entry_at}
use Rattle.zq_names.specs.Texts.{text_cmp}
use Rattle.zq_names.proofs.TextOrder.{Less-from_is_lt, not_Less-from_is_lt, above_from_neither, all_above, before_less, same_from_is_eq}
use Rattle.zq_names.proofs.Insertion.{rising-insert}
use Rattle.zq_names.proofs.Removal.{rising-remove}
use Rattle.zq_tables.specs.Holding.{GoesTo, StandsAt, node_texts}

-- a text that comes before the key
greater : (t key : List ℕ) → text_cmp t key ≡ Less → text_cmp key t ≡ Greater
greater t key less = nat_list_cmp_total.antisymm key t ∙ ap ordering_reverse less

-- the texts before a place come before the key
abbrev LessTo : List (List ℕ) → List ℕ → ℕ → Type 0
LessTo texts key at = (k : ℕ) → k < at → text_cmp (get_or texts k []) key ≡ Less

-- those from it on come after the key
abbrev GreaterFrom : List (List ℕ) → List ℕ → ℕ → Type 0
GreaterFrom texts key at = (k : ℕ) → at ≤ k → k < length texts → text_cmp key (get_or texts k []) ≡ Less

-- ---- the key is there

out_at : (texts : List (List ℕ)) (key : List ℕ) (at : ℕ) → at < length texts → LessTo texts key at → get_or texts at [] ≡ key → remove_key (is_at (text_cmp key)) texts ≡ remove texts at
out_at [] key at lt before is = absurd (omega (arith, lt))
out_at (t ∷ texts) key zero lt before is =
    let here : is_at (text_cmp key) t ≡ true = ap is_eq (ap (text_cmp key) is ∙ tied_itself nat_list_cmp_total key) in
    rw here refl
out_at (t ∷ texts) key (suc k) lt before is =
    let apart : is_at (text_cmp key) t ≡ false = ap is_eq (greater t key (before zero (omega arith))) in
    rw apart (ap (λ l. t ∷ l) (out_at texts key k (omega (arith, lt)) (λ j less. before (suc j) (omega (arith, less))) is))

there_at : (texts : List (List ℕ)) (key : List ℕ) (at : ℕ) → at < length texts → get_or texts at [] ≡ key → list_any (is_at (text_cmp key)) texts ≡ true
there_at [] key at lt is = absurd (omega (arith, lt))
there_at (t ∷ texts) key zero lt is =
    let here : is_at (text_cmp key) t ≡ true = ap is_eq (ap (text_cmp key) is ∙ tied_itself nat_list_cmp_total key) in
    rw here refl
there_at (t ∷ texts) key (suc k) lt is = by (is_at (text_cmp key) t) (there_at texts key k (omega (arith, lt)) is)
  where
    by : (b : Bool) → list_any (is_at (text_cmp key)) texts ≡ true → (b || list_any (is_at (text_cmp key)) texts) ≡ true
    by true rest = refl
    by false rest = rest

stays_at : (texts : List (List ℕ)) (key : List ℕ) (at : ℕ) → at < length texts → LessTo texts key at → get_or texts at [] ≡ key → insert_key text_cmp texts key ≡ texts
stays_at [] key at lt before is = absurd (omega (arith, lt))
stays_at (t ∷ texts) key zero lt before is =
    let here : text_cmp key t ≡ Equal = ap (text_cmp key) is ∙ tied_itself nat_list_cmp_total key in
    rw here refl
stays_at (t ∷ texts) key (suc k) lt before is =
    let more : text_cmp key t ≡ Greater = greater t key (before zero (omega arith)) in
    rw more (ap (λ l. t ∷ l) (stays_at texts key k (omega (arith, lt)) (λ j less. before (suc j) (omega (arith, less))) is))

pub stands_at : (texts : List (List ℕ)) (key : List ℕ) (at : ℕ) → IsStrictlySortedBy text_cmp texts → at < length texts → LessTo texts key at → get_or texts at [] ≡ key → StandsAt texts key at
stands_at texts key at rise lt before is = record {
  in_range = lt;
  there = there_at texts key at lt is;
  stays = stays_at texts key at lt before is;
  out = out_at texts key at lt before is;
  rise = rising-remove texts at rise lt;
}

-- ---- the key is not there

none_above : (texts : List (List ℕ)) (key : List ℕ) → GreaterFrom texts key 0 → list_any (is_at (text_cmp key)) texts ≡ false
none_above [] key after = refl
none_above (t ∷ texts) key after =
    let apart : is_at (text_cmp key) t ≡ false = ap is_eq (after zero (omega arith) (omega arith)) in
    rw apart (none_above texts key (λ k le lt. after (suc k) (omega arith) (omega (arith, lt))))

absent_at : (texts : List (List ℕ)) (key : List ℕ) (at : ℕ) → LessTo texts key at → GreaterFrom texts key at → list_any (is_at (text_cmp key)) texts ≡ false
absent_at [] key at before after = refl
absent_at (t ∷ texts) key zero before after = none_above (t ∷ texts) key after
absent_at (t ∷ texts) key (suc k) before after =
    let apart : is_at (text_cmp key) t ≡ false = ap is_eq (greater t key (before zero (omega arith))) in
    rw apart (absent_at texts key k (λ j less. before (suc j) (omega (arith, less))) (λ j le lt. after (suc j) (omega (arith, le)) (omega (arith, lt))))

put_at : (texts : List (List ℕ)) (key : List ℕ) (at : ℕ) → at ≤ length texts → LessTo texts key at → GreaterFrom texts key at → insert_key text_cmp texts key ≡ insert texts at key
put_at [] key zero le before after = refl
put_at [] key (suc k) le before after = absurd (omega (arith, le))
put_at (t ∷ texts) key zero le before after =
    let less : text_cmp key t ≡ Less = after zero (omega arith) (omega arith) in
    rw less refl
put_at (t ∷ texts) key (suc k) le before after =
    let more : text_cmp key t ≡ Greater = greater t key (before zero (omega arith)) in
    rw more (ap (λ l. t ∷ l) (put_at texts key k (omega (arith, le)) (λ j less. before (suc j) (omega (arith, less))) (λ j from lt. after (suc j) (omega (arith, from)) (omega (arith, lt)))))

pub goes_to : (texts : List (List ℕ)) (key : List ℕ) (at : ℕ) → IsStrictlySortedBy text_cmp texts → at ≤ length texts → LessTo texts key at → GreaterFrom texts key at → GoesTo texts key at
goes_to texts key at rise le before after = record {
  in_range = le;
  absent = absent_at texts key at before after;
  put = put_at texts key at le before after;
  rise = rising-insert texts key at rise le before after;
}

pub goes_first : (key : List ℕ) → GoesTo [] key 0
unfolding IsStrictlySortedBy
goes_first key = goes_to [] key 0 tt (omega arith) (λ k lt. absurd (omega (arith, lt))) (λ k le lt. absurd (omega (arith, lt)))

-- ---- by the border that a search finds

module _ (names : List NameEntry) (row : List ℕ) (key : List ℕ) (at : ℕ) (rise : IsStrictlySortedBy text_cmp (node_texts names row))
    (border : IsBorder (λ n. is_lt (text_cmp (entry_at names n).text key) ≡ true) (λ n. is_lt (text_cmp (entry_at names n).text key) ≡ false) row at) where
  count : length (node_texts names row) ≡ length row
  count = length-map row (λ (n : ℕ). (entry_at names n).text)

  text_there : (k : ℕ) → k < length row → get_or (node_texts names row) k [] ≡ (entry_at names (get_or row k 0)).text
  text_there k lt = get_or-map (λ (n : ℕ). (entry_at names n).text) row k 0 [] lt

  less_before : LessTo (node_texts names row) key at
  less_before k lt =
      let last : at - 1 < length row = omega (arith, lt, border.in_range) in
      let less : text_cmp (get_or (node_texts names row) (at - 1) []) key ≡ Less = rw (text_there (at - 1) last) (Less-from_is_lt _ (border.before (omega (arith, lt)))) in
      before_less (node_texts names row) key (at - 1) k rise (omega (arith, last, count)) less (omega (arith, lt))

  -- the key stands at the border
  pub found_at : at < length row → is_eq (text_cmp (entry_at names (get_or row at 0)).text key) ≡ true → StandsAt (node_texts names row) key at
  found_at lt same = stands_at (node_texts names row) key at rise (omega (arith, lt, count)) less_before (text_there at lt ∙ same_from_is_eq _ key same)

  -- another text does
  pub missed_at : at < length row → is_eq (text_cmp (entry_at names (get_or row at 0)).text key) ≡ false → GoesTo (node_texts names row) key at
  missed_at lt other =
      let above : text_cmp key (get_or (node_texts names row) at []) ≡ Less = rw (text_there at lt) (above_from_neither _ key (not_Less-from_is_lt _ (border.at lt)) other) in
      goes_to (node_texts names row) key at rise (omega (arith, lt, count)) less_before (λ k le in_k. all_above (node_texts names row) key at k rise above le in_k)

  -- all texts come before the key
  pub missed_end : length row ≤ at → GoesTo (node_texts names row) key at
  missed_end end = goes_to (node_texts names row) key at rise (omega (arith, border.in_range, count)) less_before (λ k le lt. absurd (omega (arith, end, le, lt, count)))
