-- A table by its numbers, and what a change of one node leaves.
use Rattle.std.proofs.Common.{◌≡◌, ◌≢◌, ℕ, ◌<◌, true, false, eqb, List, [], ◌∷◌, length, get_or, set, Option, subst, sym, ap, ◌∙◌, refl, arith, suc, zero, Some, None, IsSome, inl, inr}
use Rattle.std.specs.List.{Contains}
use Rattle.std.proofs.lemmas.Bool.{cases_eq, false≢true}
use Rattle.std.proofs.lemmas.Bool.Decides.{nat_tests}
use Rattle.std.proofs.lemmas.List.{get_or-set_same, get_or-set_other, get_or_default}
use Rattle.std.proofs.lemmas.List.Elements.{All-contains}
use Rattle.std.proofs.lemmas.Option.{none-some}
use Rattle.zq_names.specs.declared.node.Node.{Node}
use Rattle.zq_names.specs.Linking.{HasContext}
use Rattle.zq_names.proofs.Rows.{length-rows, text_at-rows}
use Rattle.zq_names.proofs.Same.{IsLinked-same}
use Rattle.zq_names.specs.declared.node.ResourceId.{ResourceId}
use Rattle.zq_names.specs.Names.{NameEntry, IsPlaceOf, HasText, slot, slot_context, slot_matches, slot_former, IsSound, IsTable, IsNames, entry_of, row, rows, texts, ids, entry_at, change_at, text_at}

pub ids-rows : (nodes : List (Option Node)) (order : List ℕ) → ids (rows nodes order) ≡ order
ids-rows nodes [] = refl
ids-rows nodes (i ∷ is) = rw (ids-rows nodes is)

-- a number in the order has a node
pub live_at : (nodes : List (Option Node)) (order : List ℕ) (i : ℕ) → IsTable nodes order → Contains order i → IsSome (slot nodes i)
live_at nodes order i table has = All-contains (λ i. IsSome (slot nodes i)) order i table.live has

entry_at-head : (nodes : List (Option Node)) (i : ℕ) (is : List ℕ) → entry_at (rows nodes (i ∷ is)) i ≡ row nodes i
entry_at-head nodes i is = let same : eqb i i ≡ true = grind (arith, nat_tests) in rw same

entry_at-tail : (nodes : List (Option Node)) (j i : ℕ) (is : List ℕ) → j ≢ i → entry_at (rows nodes (j ∷ is)) i ≡ entry_at (rows nodes is) i
entry_at-tail nodes j i is differ = let other : eqb j i ≡ false = grind (arith, nat_tests) in rw other

Contains-tail : (j i : ℕ) (is : List ℕ) → Contains (j ∷ is) i → j ≢ i → Contains is i
Contains-tail j i is (zero, lt, same) differ = absurd (differ same)
Contains-tail j i is (suc k, lt, same) differ = (k, omega arith, same)

-- the entry of a number in the order is its node's
pub entry_at-rows : (nodes : List (Option Node)) (order : List ℕ) (i : ℕ) → Contains order i → entry_at (rows nodes order) i ≡ row nodes i
entry_at-rows nodes [] i has = absurd (omega (arith, has.1))
entry_at-rows nodes (j ∷ is) i has = elim (cases_eq j i) [
  | inl same ↦ rw same (entry_at-head nodes i is)
  | inr differ ↦ entry_at-tail nodes j i is differ ∙ entry_at-rows nodes is i (Contains-tail j i is has differ)
]

-- ---- a change of one node

-- the number has another node, and every other number what it had
pub record Changes (old new : List (Option Node)) (i : ℕ) (before after : Node) : Type 0 where
  pub was : slot old i ≡ Some before
  pub is : slot new i ≡ Some after
  pub others : (j : ℕ) → j ≢ i → slot new j ≡ slot old j

pub rows-change : (old new : List (Option Node)) (order : List ℕ) (i : ℕ) (before after : Node) (f : NameEntry → NameEntry) → Changes old new i before after → entry_of i (Some after) ≡ f (entry_of i (Some before)) → rows new order ≡ change_at (rows old order) i f
rows-change old new [] i before after f changes made = refl
rows-change old new (j ∷ js) i before after f changes made = elim (cases_eq j i) [
  | inl same ↦
      let here : eqb j i ≡ true = grind (arith, nat_tests) in
      let now : row new j ≡ f (row old j) = rw (same, changes.is, changes.was) made in
      rw (here, now, rows-change old new js i before after f changes made)
  | inr differ ↦
      let other : eqb j i ≡ false = grind (arith, nat_tests) in
      let now : row new j ≡ row old j = rw (changes.others j differ) in
      rw (other, now, rows-change old new js i before after f changes made)
]

texts-change : (old new : List (Option Node)) (order : List ℕ) (i : ℕ) (before after : Node) → Changes old new i before after → after.text ≡ before.text → texts (rows new order) ≡ texts (rows old order)
texts-change old new [] i before after changes same_text = refl
texts-change old new (j ∷ js) i before after changes same_text = elim (cases_eq j i) [
  | inl same ↦
      let now : (row new j).text ≡ (row old j).text = rw (same, changes.is, changes.was) same_text in
      rw (now, texts-change old new js i before after changes same_text)
  | inr differ ↦
      let now : (row new j).text ≡ (row old j).text = rw (changes.others j differ) in
      rw (now, texts-change old new js i before after changes same_text)
]

-- a change that keeps the text keeps the table
pub IsTable-change : (old new : List (Option Node)) (order : List ℕ) (i : ℕ) (before after : Node) → Changes old new i before after → after.text ≡ before.text → IsTable old order → IsTable new order
IsTable-change old new order i before after changes same_text table =
    let N : List (List ℕ) → Type 0 = IsNames order in
    let stays : (j : ℕ) → IsSome (slot new j) → IsSome (slot old j) = λ j some. elim (cases_eq j i) [
      | inl same ↦ rw (same, changes.was) refl
      | inr differ ↦ rw (changes.others j differ) at some
    ] in
    let comes : (j : ℕ) → IsSome (slot old j) → IsSome (slot new j) = λ j some. elim (cases_eq j i) [
      | inl same ↦ rw (same, changes.is) refl
      | inr differ ↦ rw (changes.others j differ) some
    ] in
    record {
      live = λ k d lt. comes _ (table.live k d lt);
      covered = λ j some. table.covered j (stays j some);
      names = subst N (sym (texts-change old new order i before after changes same_text)) table.names;
    }

-- ---- one write through a slab

in_slots : {T : Type 0} (slots : List (Option T)) (i : ℕ) (x : T) → get_or slots i None ≡ Some x → i < length slots
in_slots [] i x is = absurd (none-some x is)
in_slots (o ∷ os) zero x is = omega arith
in_slots (o ∷ os) (suc i) x is = omega (arith, in_slots os i x is)

pub Changes-with_value : (nodes : List (Option Node)) (i : ℕ) (before after : Node) → slot nodes i ≡ Some before → Changes nodes (set nodes i (Some after)) i before after
Changes-with_value nodes i before after was = record {
  was = was;
  is = get_or-set_same nodes i (Some after) None (in_slots nodes i before was);
  others = λ j differ. get_or-set_other nodes i j (Some after) None differ;
}

-- what the node has in common with the one before, each number has
pub each_slot : {X : Type 0} (f : Option Node → X) (old new : List (Option Node)) (i : ℕ) (before after : Node) → Changes old new i before after → f (Some after) ≡ f (Some before) → (j : ℕ) → f (slot new j) ≡ f (slot old j)
each_slot f old new i before after changes same j = elim (cases_eq j i) [
  | inl here ↦ rw here (ap f changes.is ∙ same ∙ sym (ap f changes.was))
  | inr differ ↦ ap f (changes.others j differ)
]

pub view_written : (nodes : List (Option Node)) (order : List ℕ) (i : ℕ) (before after : Node) (f : NameEntry → NameEntry) → slot nodes i ≡ Some before → entry_of i (Some after) ≡ f (entry_of i (Some before)) → rows (set nodes i (Some after)) order ≡ change_at (rows nodes order) i f
view_written nodes order i before after f was made = rows-change nodes (set nodes i (Some after)) order i before after f (Changes-with_value nodes i before after was) made

pub table_written : (nodes : List (Option Node)) (order : List ℕ) (i : ℕ) (before after : Node) → slot nodes i ≡ Some before → after.text ≡ before.text → IsTable nodes order → IsTable (set nodes i (Some after)) order
table_written nodes order i before after was same table = IsTable-change nodes (set nodes i (Some after)) order i before after (Changes-with_value nodes i before after was) same table

-- a write that keeps the text, the matches and a context that there was keeps the table sound
pub sound_written : (nodes : List (Option Node)) (order : List ℕ) (i : ℕ) (before after : Node) → slot nodes i ≡ Some before → after.text ≡ before.text → after.matches.items ≡ before.matches.items → after.former.items ≡ before.former.items → (before.context ≡ true → after.context ≡ true) → IsSound nodes order → IsSound (set nodes i (Some after)) order
sound_written nodes order i before after was same matches former context sound =
    let new = set nodes i (Some after) in
    let changes = Changes-with_value nodes i before after was in
    record {
      table = table_written nodes order i before after was same sound.table;
      linked = IsLinked-same nodes new (each_slot slot_matches nodes new i before after changes matches) (each_slot slot_former nodes new i before after changes former)
          (λ j is. elim (cases_eq j i) [
            | inl here ↦ rw (here, changes.is) (context (rw (here, was) at is))
            | inr differ ↦ rw (changes.others j differ) is
          ])
          sound.linked;
    }

-- ---- what a method knows of a number that is live

pub in_order : (nodes : List (Option Node)) (order : List ℕ) (ns : List NameEntry) (i : ℕ) → rows nodes order ≡ ns → Contains (ids ns) i → Contains order i
in_order nodes order ns i view live =
    let C : List ℕ → Type 0 = λ (is : List ℕ). Contains is i in
    subst C (ids-rows nodes order) (subst C (ap ids (sym view)) live)

pub has_node : (nodes : List (Option Node)) (order : List ℕ) (ns : List NameEntry) (i : ℕ) → rows nodes order ≡ ns → IsTable nodes order → Contains (ids ns) i → IsSome (slot nodes i)
has_node nodes order ns i view table live = live_at nodes order i table (in_order nodes order ns i view live)

pub entry_is : (nodes : List (Option Node)) (order : List ℕ) (ns : List NameEntry) (i : ℕ) (n : Node) → rows nodes order ≡ ns → Contains (ids ns) i → slot nodes i ≡ Some n → entry_at ns i ≡ entry_of i (Some n)
entry_is nodes order ns i n view live is =
    ap (λ (v : List NameEntry). entry_at v i) (sym view) ∙ entry_at-rows nodes order i (in_order nodes order ns i view live) ∙ ap (entry_of i) is

pub text_there : (nodes : List (Option Node)) (order : List ℕ) (ns : List NameEntry) (i place : ℕ) → rows nodes order ≡ ns → Contains (ids ns) i → text_at (rows nodes order) place ≡ (row nodes i).text → (entry_at ns i).text ≡ text_at (rows nodes order) place
text_there nodes order ns i place view live is =
    ap (λ (v : List NameEntry). (entry_at v i).text) (sym view)
    ∙ ap (λ (e : NameEntry). e.text) (entry_at-rows nodes order i (in_order nodes order ns i view live))
    ∙ sym is

pub live_number : (nodes : List (Option Node)) (order : List ℕ) (ns : List NameEntry) (i : ℕ) → rows nodes order ≡ ns → IsTable nodes order → IsSome (slot nodes i) → Contains (ids ns) i
live_number nodes order ns i view table some =
    let C : List ℕ → Type 0 = λ (is : List ℕ). Contains is i in
    subst C (ap ids view) (subst C (sym (ids-rows nodes order)) (table.covered i some))

-- the number at a place has the text there
pub HasText-at : (nodes : List (Option Node)) (order : List ℕ) (ns : List NameEntry) (t : List ℕ) (at : ℕ) (id : ℕ) → rows nodes order ≡ ns → IsPlaceOf (rows nodes order) t at → id ≡ get_or order at id → HasText ns (record { 0 = id }) t
HasText-at nodes order ns t at id view place is =
    let in_range : at < length order = omega (arith, place.in_range, length-rows nodes order) in
    let number : get_or order at 0 ≡ id = get_or_default order at 0 id in_range ∙ sym is in
    let has : Contains order id = (at, in_range, sym is) in
    let C : List ℕ → Type 0 = λ (is : List ℕ). Contains is id in
    record {
      live = subst C (ap ids view) (subst C (sym (ids-rows nodes order)) has);
      text =
          ap (λ (v : List NameEntry). (entry_at v id).text) (sym view)
          ∙ ap (λ (e : NameEntry). e.text) (entry_at-rows nodes order id has)
          ∙ ap (λ (i : ℕ). (row nodes i).text) (sym number)
          ∙ sym (text_at-rows nodes order at in_range)
          ∙ place.is;
    }

-- the number at the place of a text
pub place_id : (nodes : List (Option Node)) (order : List ℕ) (t : List ℕ) (at id : ℕ) → IsPlaceOf (rows nodes order) t at → id ≡ get_or order at id → Contains order id × ((row nodes id).text ≡ t)
place_id nodes order t at id place is =
    let in_range : at < length order = omega (arith, place.in_range, length-rows nodes order) in
    let number : get_or order at 0 ≡ id = get_or_default order at 0 id in_range ∙ sym is in
    ((at, in_range, sym is), ap (λ (i : ℕ). (row nodes i).text) (sym number) ∙ sym (text_at-rows nodes order at in_range) ∙ place.is)

pub number_live : (nodes : List (Option Node)) (order : List ℕ) (i : ℕ) → Contains order i → Contains (ids (rows nodes order)) i
number_live nodes order i has = let C : List ℕ → Type 0 = λ (is : List ℕ). Contains is i in subst C (sym (ids-rows nodes order)) has

-- the entry of a number that is live is its node's
pub entry_live : (nodes : List (Option Node)) (order : List ℕ) (ns : List NameEntry) (i : ℕ) → rows nodes order ≡ ns → Contains (ids ns) i → entry_at ns i ≡ row nodes i
entry_live nodes order ns i view live = ap (λ (v : List NameEntry). entry_at v i) (sym view) ∙ entry_at-rows nodes order i (in_order nodes order ns i view live)

-- what callers see of a table's texts
pub names_in_view : (nodes : List (Option Node)) (order : List ℕ) (ns : List NameEntry) → rows nodes order ≡ ns → IsTable nodes order → IsNames (ids ns) (texts ns)
names_in_view nodes order ns view table =
    let N : List NameEntry → Type 0 = λ (v : List NameEntry). IsNames (ids v) (texts v) in
    let I : List ℕ → Type 0 = λ (is : List ℕ). IsNames is (texts (rows nodes order)) in
    subst N view (subst I (sym (ids-rows nodes order)) table.names)

-- a number whose node has a context is live, and has one
pub context_live : (nodes : List (Option Node)) (order : List ℕ) (ns : List NameEntry) (m : ResourceId) → rows nodes order ≡ ns → IsTable nodes order → slot_context (slot nodes m.0) ≡ true → HasContext ns m
context_live nodes order ns m view table is =
    let live = live_number nodes order ns m.0 view table (node_there (slot nodes m.0) is) in
    record { live = live; context = ap (λ (e : NameEntry). e.context) (entry_live nodes order ns m.0 view live) ∙ is }
  where
    node_there : (o : Option Node) → slot_context o ≡ true → IsSome o
    node_there None is = absurd (false≢true is)
    node_there (Some n) is = refl
