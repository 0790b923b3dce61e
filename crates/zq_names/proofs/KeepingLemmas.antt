-- What changes keep of the numbers that are live.
use Rattle.std.proofs.Common.{◌≡◌, ◌≢◌, ℕ, ◌<◌, Bool, true, false, cond, eqb, List, [], ◌∷◌, length, map, get_or, subst, sym, ap, ◌∙◌, refl, arith, suc, zero, Option, None, inl, inr}
use Rattle.std.specs.List.{AllPairs, Contains, remove}
use Rattle.std.proofs.lemmas.Bool.{cases_eq, cases_lt}
use Rattle.std.proofs.lemmas.Bool.Decides.{nat_tests}
use Rattle.std.proofs.lemmas.List.{length-map, get_or-map, get_or_default}
use Rattle.zq_names.specs.declared.node.Node.{Node}
use Rattle.zq_names.specs.declared.node.ResourceId.{ResourceId}
use Rattle.zq_names.specs.Names.{NameEntry, IsTable, Adds, row, rows, texts, ids, entry_of, entry_at, change_at, with_context, without_match, removed_at, Cleans, HasText}
use Rattle.zq_names.specs.Names.Cleans.{stops, goes}
use Rattle.zq_names.specs.Keeping.{Keeps, AllStay, NoneCome, ChangesAt}
use Rattle.zq_names.proofs.Table.{ids-rows, entry_at-rows}
use Rattle.zq_names.proofs.Adding.{Contains-map}
use Rattle.std.proofs.lemmas.Map.Keys.{Less-from_sorted}
use Rattle.zq_names.specs.Texts.{text_cmp}
use Rattle.zq_key.proofs.Runs.{not_below_itself}
use Rattle.zq_names.proofs.Rows.{length-rows, length-texts-rows, text_at-rows}
use Rattle.zq_names.proofs.Removal.{one_place, map-remove, Contains-remove, from_Contains-remove}

-- ---- one entry changed

pub ids-change_at : (ns : List NameEntry) (i : ℕ) (f : NameEntry → NameEntry) → ((e : NameEntry) → (f e).id ≡ e.id) → ids (change_at ns i f) ≡ ids ns
ids-change_at [] i f keeps = refl
ids-change_at (e ∷ es) i f keeps = by (eqb e.id i) (ids-change_at es i f keeps)
  where
    by : (b : Bool) → ids (change_at es i f) ≡ ids es → (cond b (f e) e).id ∷ ids (change_at es i f) ≡ e.id ∷ ids es
    by true later = rw (keeps e, later)
    by false later = rw later

entry_at-changed : (ns : List NameEntry) (i : ℕ) (f : NameEntry → NameEntry) → ((e : NameEntry) → (f e).id ≡ e.id) → Contains (ids ns) i → entry_at (change_at ns i f) i ≡ f (entry_at ns i)
entry_at-changed [] i f keeps (k, lt, is) = absurd (omega arith)
entry_at-changed (e ∷ es) i f keeps has = elim (cases_eq e.id i) [
  | inl same ↦
      let here : eqb e.id i ≡ true = grind (arith, nat_tests) in
      let kept : eqb (f e).id i ≡ true = ap (λ (n : ℕ). eqb n i) (keeps e) ∙ here in
      rw (here, kept)
  | inr differ ↦
      let other : eqb e.id i ≡ false = grind (arith, nat_tests) in
      rw (other, other) (entry_at-changed es i f keeps (tail has differ))
]
  where
    tail : Contains (e.id ∷ ids es) i → e.id ≢ i → Contains (ids es) i
    tail (zero, lt, same) differ = absurd (differ same)
    tail (suc k, lt, same) differ = (k, omega arith, same)

entry_at-unchanged : (ns : List NameEntry) (i j : ℕ) (f : NameEntry → NameEntry) → ((e : NameEntry) → (f e).id ≡ e.id) → j ≢ i → entry_at (change_at ns i f) j ≡ entry_at ns j
entry_at-unchanged [] i j f keeps apart = refl
entry_at-unchanged (e ∷ es) i j f keeps apart = elim (cases_eq e.id i) [
  | inl same ↦
      let here : eqb e.id i ≡ true = grind (arith, nat_tests) in
      let other : eqb e.id j ≡ false = grind (arith, nat_tests) in
      let kept : eqb (f e).id j ≡ false = ap (λ (n : ℕ). eqb n j) (keeps e) ∙ other in
      rw (here, kept, other) (entry_at-unchanged es i j f keeps apart)
  | inr differ ↦
      let other : eqb e.id i ≡ false = grind (arith, nat_tests) in
      rw (other, entry_at-unchanged es i j f keeps apart)
]

pub ChangesAt-change_at : (ns : List NameEntry) (i : ℕ) (f : NameEntry → NameEntry) → ((e : NameEntry) → (f e).id ≡ e.id) → Contains (ids ns) i → ChangesAt ns (change_at ns i f) i f
ChangesAt-change_at ns i f keeps has = record {
  live = ids-change_at ns i f keeps;
  here = entry_at-changed ns i f keeps has;
  others = λ j differ. entry_at-unchanged ns i j f keeps differ;
}

-- ---- entries added

same_entry : (nodes nodes' : List (Option Node)) (order order' : List ℕ) (added : List (List ℕ)) (i : ℕ) → Adds (rows nodes order) (rows nodes' order') added → Contains order i → Contains order' i × (row nodes' i ≡ row nodes i)
same_entry nodes nodes' order order' added i adds has =
    let e = row nodes i in
    let kept = adds.kept e (Contains-map (row nodes) order i has) in
    let lt : kept.0 < length order' = omega (arith, kept.1, length-rows nodes' order') in
    let whole : row nodes' (get_or order' kept.0 i) ≡ e = sym (get_or-map (row nodes') order' kept.0 i e lt) ∙ kept.2 in
    let number : get_or order' kept.0 i ≡ i = ap (λ (x : NameEntry). x.id) whole in
    ((kept.0, lt, number), ap (row nodes') (sym number) ∙ whole)

in_ids : (nodes : List (Option Node)) (order : List ℕ) (i : ℕ) → Contains order i → Contains (ids (rows nodes order)) i
in_ids nodes order i has = let C : List ℕ → Type 0 = λ (is : List ℕ). Contains is i in subst C (sym (ids-rows nodes order)) has

from_ids : (nodes : List (Option Node)) (order : List ℕ) (i : ℕ) → Contains (ids (rows nodes order)) i → Contains order i
from_ids nodes order i has = let C : List ℕ → Type 0 = λ (is : List ℕ). Contains is i in subst C (ids-rows nodes order) has

pub stay-made : (nodes nodes' : List (Option Node)) (order order' : List ℕ) (old new : List NameEntry) (added : List (List ℕ)) (r : ℕ) → rows nodes order ≡ old → Adds (rows nodes order) (rows nodes' order') added → Contains order' r
    → new ≡ change_at (rows nodes' order') r with_context → AllStay old new
stay-made nodes nodes' order order' old new added r view adds live marked i was =
    let C : List NameEntry → Type 0 = λ (ns : List NameEntry). Contains (ids ns) i in
    let has = from_ids nodes order i (subst C (sym view) was) in
    let same = same_entry nodes nodes' order order' added i adds has in
    let middle = rows nodes' order' in
    let before : entry_at middle i ≡ entry_at old i = entry_at-rows nodes' order' i same.0 ∙ same.1 ∙ sym (entry_at-rows nodes order i has) ∙ ap (λ (ns : List NameEntry). entry_at ns i) view in
    let changes = ChangesAt-change_at middle r with_context (λ e. refl) (in_ids nodes' order' r live) in
    let text_of = λ (e : NameEntry). e.text in
    let holds_of = λ (e : NameEntry). e.holds in (
      subst C (sym marked) (in_number middle i r (in_ids nodes' order' i same.0)),
      elim (cases_eq i r) [
        | inl here ↦ record {
          text = ap (λ (ns : List NameEntry). (entry_at ns i).text) marked ∙ ap (λ (k : ℕ). (entry_at (change_at middle r with_context) k).text) here ∙ ap text_of changes.here ∙ ap (λ (k : ℕ). (entry_at middle k).text) (sym here) ∙ ap text_of before;
          holds = ap (λ (ns : List NameEntry). (entry_at ns i).holds) marked ∙ ap (λ (k : ℕ). (entry_at (change_at middle r with_context) k).holds) here ∙ ap holds_of changes.here ∙ ap (λ (k : ℕ). (entry_at middle k).holds) (sym here) ∙ ap holds_of before;
        }
        | inr differ ↦ record {
          text = ap (λ (ns : List NameEntry). (entry_at ns i).text) marked ∙ ap text_of (changes.others i differ) ∙ ap text_of before;
          holds = ap (λ (ns : List NameEntry). (entry_at ns i).holds) marked ∙ ap holds_of (changes.others i differ) ∙ ap holds_of before;
        }
      ],
    )
  where
    in_number : (ns : List NameEntry) (i r : ℕ) → Contains (ids ns) i → Contains (ids (change_at ns r with_context)) i
    in_number ns i r has = let C : List ℕ → Type 0 = λ (is : List ℕ). Contains is i in subst C (sym (ids-change_at ns r with_context (λ e. refl))) has

pub HasText-made : (middle new : List NameEntry) (r : ResourceId) (t : List ℕ) → HasText middle r t → new ≡ change_at middle r.0 with_context → HasText new r t
HasText-made middle new r t named marked =
    let changes = ChangesAt-change_at middle r.0 with_context (λ e. refl) named.live in
    let C : List ℕ → Type 0 = λ (is : List ℕ). Contains is r.0 in
    record {
      live = subst C (sym (ap ids marked ∙ changes.live)) named.live;
      text = ap (λ (ns : List NameEntry). (entry_at ns r.0).text) marked ∙ ap (λ (e : NameEntry). e.text) changes.here ∙ named.text;
    }

-- ---- entries taken out

-- no number stands twice
abbrev pub Once : List ℕ → Type 0
Once [] = Unit {0}
Once (i ∷ is) = (Contains is i → ⊥) × Once is

pub once_from : (is : List ℕ) → ((j k : ℕ) → j < k → k < length is → get_or is j 0 ≢ get_or is k 0) → Once is
once_from [] apart = tt
once_from (i ∷ is) apart = (λ has. twice has, once_from is (λ j k lt in_k. apart (suc j) (suc k) (omega arith) (omega arith)))
  where
    twice : Contains is i → ⊥
    twice (k, lt, e) = apart 0 (suc k) (omega arith) (omega arith) (sym e ∙ get_or_default is k i 0 lt)

pub once_in_table : (nodes : List (Option Node)) (order : List ℕ) → IsTable nodes order → Once (ids (rows nodes order))
once_in_table nodes order table =
    subst Once (sym (ids-rows nodes order)) (once_from order (λ j k lt in_k. one_place nodes order k j table.names.rising in_k (omega arith) (omega arith)))

pub once_in_view : (nodes : List (Option Node)) (order : List ℕ) (ns : List NameEntry) → rows nodes order ≡ ns → IsTable nodes order → Once (ids ns)
once_in_view nodes order ns view table = let O : List NameEntry → Type 0 = λ (v : List NameEntry). Once (ids v) in subst O view (once_in_table nodes order table)

-- two places have different numbers
pub distinct_in_view : (nodes : List (Option Node)) (order : List ℕ) (ns : List NameEntry) → rows nodes order ≡ ns → IsTable nodes order → AllPairs ◌≢◌ (ids ns)
distinct_in_view nodes order ns view table =
    let A : List ℕ → Type 0 = AllPairs ◌≢◌ in
    subst A (sym (ids-rows nodes order) ∙ ap ids view) (λ j k d lt in_k same. one_place nodes order k j table.names.rising in_k (omega arith) (omega arith) (get_or_default order j 0 d (omega arith) ∙ same ∙ get_or_default order k d 0 in_k))

entry_at-without : (i j : ℕ) (ns : List NameEntry) → entry_at (map (without_match i) ns) j ≡ without_match i (entry_at ns j)
entry_at-without i j [] = refl
entry_at-without i j (e ∷ es) = by (eqb e.id j) (entry_at-without i j es)
  where
    by : (b : Bool) → entry_at (map (without_match i) es) j ≡ without_match i (entry_at es j) → cond b (without_match i e) (entry_at (map (without_match i) es) j) ≡ without_match i (cond b e (entry_at es j))
    by true later = refl
    by false later = later

ids-without : (i : ℕ) (ns : List NameEntry) → ids (map (without_match i) ns) ≡ ids ns
ids-without i [] = refl
ids-without i (e ∷ es) = rw (ids-without i es)

entry_at-remove : (ns : List NameEntry) (at j : ℕ) (d : NameEntry) → at < length ns → (get_or ns at d).id ≢ j → entry_at (remove ns at) j ≡ entry_at ns j
entry_at-remove [] at j d lt differ = absurd (omega arith)
entry_at-remove (e ∷ es) zero j d lt differ = let other : eqb e.id j ≡ false = grind (arith, nat_tests) in rw other
entry_at-remove (e ∷ es) (suc at) j d lt differ = by (eqb e.id j) (entry_at-remove es at j d (omega arith) differ)
  where
    by : (b : Bool) → entry_at (remove es at) j ≡ entry_at es j → cond b e (entry_at (remove es at) j) ≡ cond b e (entry_at es j)
    by true later = refl
    by false later = later

Once-remove : (is : List ℕ) (at : ℕ) → at < length is → Once is → Once (remove is at)
Once-remove [] at lt once = absurd (omega arith)
Once-remove (i ∷ is) zero lt once = once.1
Once-remove (i ∷ is) (suc at) lt once = (λ has. once.0 (back (from_Contains-remove is at i (omega arith) has)), Once-remove is at (omega arith) once.1)
  where
    back : (k : ℕ) × (k < length is) × (k ≢ at) × (get_or is k i ≡ i) → Contains is i
    back (k, lt, differ, e) = (k, lt, e)

gone_once : (is : List ℕ) (at : ℕ) → at < length is → Once is → Contains (remove is at) (get_or is at 0) → ⊥
gone_once [] at lt once has = omega arith
gone_once (i ∷ is) zero lt once has = once.0 has
gone_once (i ∷ is) (suc at) lt once (zero, in_range, e) = once.0 (let C : ℕ → Type 0 = λ (x : ℕ). Contains is x in subst C (sym e) (at, omega arith, get_or_default is at (get_or is at 0) 0 (omega arith)))
gone_once (i ∷ is) (suc at) lt once (suc k, in_range, e) = gone_once is at (omega arith) once.1 (k, omega arith, e)

stays_there : (is : List ℕ) (at j : ℕ) → at < length is → Contains is j → j ≢ get_or is at 0 → Contains (remove is at) j
stays_there is at j lt (k, in_k, e) differ = Contains-remove is at k j lt in_k (λ same. differ (sym e ∙ ap (λ q. get_or is q j) same ∙ get_or_default is at j 0 lt)) e

pub entry_at-place : (ns : List NameEntry) (at : ℕ) (d : NameEntry) → at < length ns → Once (ids ns) → entry_at ns (get_or ns at d).id ≡ get_or ns at d
entry_at-place [] at d lt once = absurd (omega arith)
entry_at-place (e ∷ es) zero d lt once = let same : eqb e.id e.id ≡ true = grind (arith, nat_tests) in rw same
entry_at-place (e ∷ es) (suc at) d lt once =
    let later = get_or es at d in
    let n = length-map es (λ (e : NameEntry). e.id) in
    let among : Contains (ids es) later.id = (at, omega (arith, n), get_or-map (λ (e : NameEntry). e.id) es at d later.id (omega arith)) in
    let differ : e.id ≢ later.id = λ same. once.0 (let C : ℕ → Type 0 = λ (x : ℕ). Contains (ids es) x in subst C (sym same) among) in
    let other : eqb e.id later.id ≡ false = grind (arith, nat_tests) in
    rw other (entry_at-place es at d (omega arith) once.1)

-- the number at a place
number_at : (ns : List NameEntry) (at : ℕ) (d : NameEntry) → at < length ns → get_or (ids ns) at 0 ≡ (get_or ns at d).id
number_at ns at d lt = get_or-map (λ (e : NameEntry). e.id) ns at d 0 lt

ids-removed_at : (ns : List NameEntry) (at : ℕ) → ids (removed_at ns at) ≡ remove (ids ns) at
ids-removed_at ns at = ids-without (get_or ns at (entry_of 0 None)).id (remove ns at) ∙ map-remove (λ (e : NameEntry). e.id) ns at

Keeps-removed_at : (ns : List NameEntry) (at j : ℕ) → at < length ns → (get_or ns at (entry_of 0 None)).id ≢ j → Keeps ns (removed_at ns at) j
Keeps-removed_at ns at j lt differ =
    let i = (get_or ns at (entry_of 0 None)).id in
    let same = entry_at-without i j (remove ns at) ∙ ap (without_match i) (entry_at-remove ns at j (entry_of 0 None) lt differ) in
    record { text = ap (λ (e : NameEntry). e.text) same; holds = ap (λ (e : NameEntry). e.holds) same }

pub none_come-removed_at : (ns : List NameEntry) (at : ℕ) → at < length ns → Once (ids ns) → NoneCome ns (removed_at ns at)
none_come-removed_at ns at lt once j has =
    let d = entry_of 0 None in
    let n = length-map ns (λ (e : NameEntry). e.id) in
    let C : List ℕ → Type 0 = λ (is : List ℕ). Contains is j in
    let left = subst C (ids-removed_at ns at) has in
    let was = from_Contains-remove (ids ns) at j (omega (arith, n)) left in
    let differ : (get_or ns at d).id ≢ j = λ same.
    let R : ℕ → Type 0 = λ (x : ℕ). Contains (remove (ids ns) at) x in
    gone_once (ids ns) at (omega (arith, n)) once (subst R (sym (number_at ns at d lt ∙ same)) left) in
    ((was.0, was.1, was.3), Keeps-removed_at ns at j lt differ)

pub NoneCome-more : (a b c : List NameEntry) → NoneCome a b → NoneCome b c → NoneCome a c
NoneCome-more a b c first second i has =
    let later = second i has in
    let earlier = first i later.0 in
    (earlier.0, record { text = later.1.text ∙ earlier.1.text; holds = later.1.holds ∙ earlier.1.holds })

pub NoneCome-same : (a : List NameEntry) → NoneCome a a
NoneCome-same a i has = (has, record { text = refl; holds = refl })

pub once_removed_at : (ns : List NameEntry) (at : ℕ) → at < length ns → Once (ids ns) → Once (ids (removed_at ns at))
once_removed_at ns at lt once = subst Once (sym (ids-removed_at ns at)) (Once-remove (ids ns) at (omega (arith, length-map ns (λ (e : NameEntry). e.id))) once)

pub none_come-cleans : (old new : List NameEntry) (t : List ℕ) → Once (ids old) → Cleans old t new → NoneCome old new
none_come-cleans old new t once (stops ns u at place idle) = NoneCome-same ns
none_come-cleans old new t once (goes ns last u at place idle rest) =
    NoneCome-more ns (removed_at ns at) last (none_come-removed_at ns at place.in_range once) (none_come-cleans (removed_at ns at) last _ (once_removed_at ns at place.in_range once) rest)

-- what is held stays
pub held-cleans : (old new : List NameEntry) (t : List ℕ) → Once (ids old) → Cleans old t new → (i : ℕ) → Contains (ids old) i → 0 < (entry_at old i).holds → Contains (ids new) i
held-cleans old new t once (stops ns u at place idle) i has held = has
held-cleans old new t once (goes ns last u at place idle rest) i has held =
    let d = entry_of 0 None in
    let lt = place.in_range in
    let n = length-map ns (λ (e : NameEntry). e.id) in
    let differ : (get_or ns at d).id ≢ i = λ same.
    let here : (entry_at ns i).holds ≡ 0 = ap (λ (k : ℕ). (entry_at ns k).holds) (sym same) ∙ ap (λ (e : NameEntry). e.holds) (entry_at-place ns at d lt once) ∙ idle.unheld in
    omega (arith, here, held) in
    let C : List ℕ → Type 0 = λ (is : List ℕ). Contains is i in
    let stays = subst C (sym (ids-removed_at ns at)) (stays_there (ids ns) at i (omega (arith, n)) has (λ same. differ (sym (number_at ns at d lt) ∙ sym same))) in
    let keeps = Keeps-removed_at ns at i lt differ in
    held-cleans (removed_at ns at) last _ (once_removed_at ns at lt once) rest i stays (omega (arith, held, keeps.holds))

-- ---- one text, one number

pub one_number : (nodes : List (Option Node)) (order : List ℕ) (i j : ℕ) → IsTable nodes order → Contains order i → Contains order j → (row nodes i).text ≡ (row nodes j).text → i ≡ j
one_number nodes order i j table (k, in_k, e) (l, in_l, f) same =
    let ts = texts (rows nodes order) in
    let n = length-texts-rows nodes order in
    let first : get_or order k 0 ≡ i = get_or_default order k 0 i in_k ∙ e in
    let second : get_or order l 0 ≡ j = get_or_default order l 0 j in_l ∙ f in
    let at_k : get_or ts k [] ≡ (row nodes i).text = text_at-rows nodes order k in_k ∙ ap (λ (q : ℕ). (row nodes q).text) first in
    let at_l : get_or ts l [] ≡ (row nodes j).text = text_at-rows nodes order l in_l ∙ ap (λ (q : ℕ). (row nodes q).text) second in
    let equal : get_or ts k [] ≡ get_or ts l [] = at_k ∙ same ∙ sym at_l in
    elim (cases_lt k l) [
      | inl below ↦ absurd (not_below_itself (get_or ts l []) (rw equal at (Less-from_sorted text_cmp ts k l [] table.names.rising below (omega (arith, n)))))
      | inr not_below ↦ elim (cases_lt l k) [
        | inl above ↦ absurd (not_below_itself (get_or ts k []) (rw (← equal) at (Less-from_sorted text_cmp ts l k [] table.names.rising above (omega (arith, n)))))
        | inr not_above ↦ let place : k ≡ l = omega arith in sym first ∙ ap (λ q. get_or order q 0) place ∙ second
      ]
    ]
