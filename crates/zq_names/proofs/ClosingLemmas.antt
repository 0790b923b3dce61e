-- The run of what lies below a text, and what is left of it.
use Rattle.std.proofs.Common.{◌≡◌, ℕ, ◌+◌, ◌<◌, ◌≤◌, List, [], ◌∷◌, ◌++◌, length, get_or, subst, sym, ap, ◌∙◌, refl, arith, inl, inr}
use Rattle.std.specs.declared.cmp.Ordering.{Ordering}
use Rattle.std.specs.declared.cmp.Ordering.TheVariants.{Less, Equal, Greater}
use Rattle.std.specs.Ordering.{nat_cmp, ordering_then}
use Rattle.std.specs.List.{Contains, remove}
use Rattle.std.specs.List.Sorted.{IsStrictlySortedBy}
use Rattle.std.proofs.lemmas.Bool.{cases_lt, cases_eq}
use Rattle.std.proofs.lemmas.Cmp.{ranked}
use Rattle.std.proofs.lemmas.Option.{get_or_from_slice_get}
use Rattle.std.proofs.lemmas.List.{append_assoc, length-append, get_or_default}
use Rattle.std.proofs.lemmas.List.Edits.{length-remove, get_or-remove_below, get_or-remove_above}
use Rattle.std.proofs.lemmas.Map.Keys.{Less-from_sorted}
use Rattle.zq_names.specs.Texts.{text_cmp, IsBelow}
use Rattle.zq_names.specs.Names.{NameEntry, IsNames, IsPlaceOf, SplitsAt, ids, texts, text_at, removed_at}
use Rattle.zq_names.specs.Keeping.{NoneCome}
use Rattle.zq_names.proofs.KeepingLemmas.{Once, once_removed_at, none_come-removed_at, NoneCome-more, NoneCome-same}
use Rattle.zq_names.specs.Closing.{LiesBelow, IsRun, ClosesBelow, TakesOwn, Closes}
use Rattle.zq_names.specs.Closing.ClosesBelow.{done, more}
use Rattle.zq_names.proofs.Rows.{length-texts}
use Rattle.zq_names.proofs.TextOrder.{Less-trans}
use Rattle.zq_key.proofs.Runs.{not_below_itself, squeezed_run, run_is_less}
use Rattle.zq_names.proofs.Below.{not_less_longer}
use Rattle.zq_names.proofs.Removal.{map-remove}
use Rattle.zq_names.proofs.Cleaning.{texts-removed_at}

-- ---- order

-- a text comes before what lies below it
below_is_above : (u r : List ℕ) → text_cmp u (u ++ 47 ∷ r) ≡ Less
below_is_above [] r = refl
below_is_above (b ∷ bs) r = by (nat_cmp b b) refl (below_is_above bs r)
  where
    by : (o : Ordering) → o ≡ nat_cmp b b → text_cmp bs (bs ++ 47 ∷ r) ≡ Less → ordering_then o (text_cmp bs (bs ++ 47 ∷ r)) ≡ Less
    by Less is later = refl
    by Equal is later = later
    by Greater is later = absurd (omega (arith, ranked b b Greater is))

-- so it has a later place
pub later_place : (ts : List (List ℕ)) (at j : ℕ) → IsStrictlySortedBy text_cmp ts → at < length ts → j < length ts → IsBelow (get_or ts at []) (get_or ts j []) → at < j
later_place ts at j rising in_at in_j (r, is) =
    let u = get_or ts at [] in
    let above : text_cmp u (get_or ts j []) ≡ Less = ap (text_cmp u) is ∙ below_is_above u r in
    elim (cases_lt at j) [
      | inl lt ↦ lt
      | inr not_lt ↦ elim (cases_eq at j) [
        | inl same ↦ absurd (not_below_itself u (rw (ap (λ q. get_or ts q []) (sym same)) at above))
        | inr differ ↦ absurd (not_below_itself u (Less-trans u (get_or ts j []) u above (Less-from_sorted text_cmp ts j at [] rising (omega arith) in_at)))
      ]
    ]

-- what lies below something below t lies below t
pub LiesBelow-deeper : (t u s : List ℕ) → LiesBelow t u → IsBelow u s → LiesBelow t s
LiesBelow-deeper [] u s below (r, is) = omega (arith, below, ap length is, length-append u (47 ∷ r))
LiesBelow-deeper (c ∷ t) u s (q, u_is) (r, s_is) = (q ++ 47 ∷ r, s_is ∙ ap (λ (x : List ℕ). x ++ 47 ∷ r) u_is ∙ append_assoc (c ∷ t) (47 ∷ q) (47 ∷ r))

-- ---- the run

pub run-root : (numbers : List ℕ) (ns : List NameEntry) → IsNames numbers (texts ns) → 0 < length ns → IsRun ns (text_at ns 0) 0 1 (length ns)
run-root numbers ns names some =
    let ts = texts ns in
    let n = length-texts ns in
    let root : text_at ns 0 ≡ [] = get_or_from_slice_get ts 0 [] [] names.root_text in
    let L : List ℕ → ℕ → Type 0 = λ (t : List ℕ) (k : ℕ). LiesBelow t (text_at ns k) in
    record {
      stands = omega arith;
      text = refl;
      order = omega arith;
      in_range = omega arith;
      inside = λ k above below. rw root (longer (text_at ns k) (rw root at (Less-from_sorted text_cmp ts 0 k [] names.rising (omega arith) (omega (arith, n)))));
      before = λ k lt below.
          let first : k ≡ 0 = omega arith in
          let none : 0 < 0 = rw (first, root) at below in
          omega arith;
      after = λ k le lt below. omega arith;
    }
  where
    longer : (x : List ℕ) → text_cmp [] x ≡ Less → 0 < length x
    longer [] e = cc
    longer (b ∷ bs) e = omega arith

pub run-below : (numbers : List ℕ) (ns : List NameEntry) (t : List ℕ) (place low high : ℕ) → IsNames numbers (texts ns) → place < length ns → 0 < place → text_at ns place ≡ t
    → SplitsAt ns (t ++ 47 ∷ []) low → SplitsAt ns (t ++ 48 ∷ []) high → IsRun ns t place low high
run-below numbers ns [] place low high names in_place past is first last =
    let ts = texts ns in
    let root : text_at ns 0 ≡ [] = get_or_from_slice_get ts 0 [] [] names.root_text in
    absurd (not_below_itself [] (rw (is, root) at (Less-from_sorted text_cmp ts 0 place [] names.rising past (omega (arith, length-texts ns, in_place)))))
run-below numbers ns (c ∷ t) place low high names in_place past is first last =
    let p = c ∷ t in
    let ts = texts ns in
    let n = length-texts ns in
    record {
      stands = elim (cases_lt place low) [
        | inl lt ↦ lt
        | inr not_lt ↦ absurd (first.from place not_lt in_place (rw is (below_is_above p [])))
      ];
      text = is;
      order = elim (cases_lt high low) [
        | inl lt ↦ absurd (last.from high (omega arith) (omega (arith, first.in_range)) (Less-trans (text_at ns high) (p ++ 47 ∷ []) (p ++ 48 ∷ []) (first.before high lt) (run_is_less p [] 47)))
        | inr not_lt ↦ not_lt
      ];
      in_range = last.in_range;
      inside = λ k above below. squeezed_run p (text_at ns k) [] 47 (first.from k above (omega (arith, below, last.in_range))) (last.before k below);
      before = λ k lt (r, under). not_less_longer (p ++ 47 ∷ []) r (rw (under ∙ sym (append_assoc p (47 ∷ []) r)) at (first.before k lt));
      after = λ k le lt (r, under). last.from k le lt (rw under (run_is_less p r 47));
    }

-- nothing lies below the last of a run
pub lonely-last : (numbers : List ℕ) (ns : List NameEntry) (t : List ℕ) (place low high at : ℕ) → IsNames numbers (texts ns) → IsRun ns t place low high → low ≤ at → at + 1 ≡ high
    → (s : List ℕ) → Contains (texts ns) s → IsBelow (text_at ns at) s → ⊥
lonely-last numbers ns t place low high at names run le last s (j, in_j, is) below =
    let ts = texts ns in
    let n = length-texts ns in
    let here : text_at ns j ≡ s = get_or_default ts j [] s in_j ∙ is in
    let B : List ℕ → Type 0 = λ (x : List ℕ). IsBelow (text_at ns at) x in
    let under : IsBelow (text_at ns at) (text_at ns j) = subst B (sym here) below in
    let later = later_place ts at j names.rising (omega (arith, n, run.in_range)) in_j under in
    run.after j (omega arith) (omega (arith, n)) (LiesBelow-deeper t (text_at ns at) (text_at ns j) (run.inside at le (omega arith)) under)

-- nothing lies below a text whose run is empty
pub lonely-own : (ns : List NameEntry) (t : List ℕ) (place low : ℕ) → IsRun ns t place low low → 0 < length t → (s : List ℕ) → Contains (texts ns) s → IsBelow (text_at ns place) s → ⊥
lonely-own ns [] place low run some s has below = omega arith
lonely-own ns (c ∷ t) place low run some s (j, in_j, is) below =
    let ts = texts ns in
    let n = length-texts ns in
    let here : text_at ns j ≡ s = get_or_default ts j [] s in_j ∙ is in
    let B : List ℕ → Type 0 = λ (x : List ℕ). IsBelow (c ∷ t) x in
    let T : List ℕ → Type 0 = λ (x : List ℕ). IsBelow x s in
    let under : IsBelow (c ∷ t) (text_at ns j) = subst B (sym here) (subst T run.text below) in
    elim (cases_lt j low) [
      | inl lt ↦ run.before j lt under
      | inr not_lt ↦ run.after j not_lt (omega (arith, n)) under
    ]

-- the texts after a removal
text_at-removed_below : (ns : List NameEntry) (at k : ℕ) → at < length ns → k < at → text_at (removed_at ns at) k ≡ text_at ns k
text_at-removed_below ns at k lt below =
    ap (λ (ts : List (List ℕ)). get_or ts k []) (texts-removed_at ns at ∙ map-remove (λ (e : NameEntry). e.text) ns at) ∙ get_or-remove_below (texts ns) at [] k below (omega (arith, length-texts ns))

text_at-removed_above : (ns : List NameEntry) (at k : ℕ) → at < length ns → at ≤ k → text_at (removed_at ns at) k ≡ text_at ns (k + 1)
text_at-removed_above ns at k lt above =
    ap (λ (ts : List (List ℕ)). get_or ts k []) (texts-removed_at ns at ∙ map-remove (λ (e : NameEntry). e.text) ns at) ∙ get_or-remove_above (texts ns) at [] k above (omega (arith, length-texts ns))

pub length-removed_at : (ns : List NameEntry) (at : ℕ) → at < length ns → length (removed_at ns at) + 1 ≡ length ns
length-removed_at ns at lt = omega (arith, length-texts (removed_at ns at), ap length (texts-removed_at ns at), length-texts (remove ns at), length-remove ns at lt)

-- a run without its last place
pub run-shorter : (ns : List NameEntry) (t : List ℕ) (place low high at : ℕ) → IsRun ns t place low high → low ≤ at → at + 1 ≡ high → IsRun (removed_at ns at) t place low at
run-shorter ns t place low high at run le last =
    let lt : at < length ns = omega (arith, run.in_range) in
    let n = length-removed_at ns at lt in
    let L : List ℕ → Type 0 = LiesBelow t in
    record {
      stands = run.stands;
      text = text_at-removed_below ns at place lt (omega (arith, run.stands)) ∙ run.text;
      order = le;
      in_range = omega (arith, n, run.in_range);
      inside = λ k above below. subst L (sym (text_at-removed_below ns at k lt below)) (run.inside k above (omega arith));
      before = λ k below under. run.before k below (subst L (text_at-removed_below ns at k lt (omega arith)) under);
      after = λ k above in_k under. run.after (k + 1) (omega arith) (omega (arith, n)) (subst L (text_at-removed_above ns at k lt above) under);
    }

pub closed-run : (ns : List NameEntry) (t : List ℕ) (place low : ℕ) → IsRun ns t place low low → ClosesBelow ns t ns
closed-run ns t place low run = done ns t (λ k lt under. elim (cases_lt k low) [
  | inl below ↦ run.before k below under
  | inr above ↦ run.after k above lt under
])

pub own-root : (ns : List NameEntry) (t : List ℕ) (new : List NameEntry) → t ≡ [] → new ≡ ns → TakesOwn ns t new
own-root ns [] new root same = same
own-root ns (c ∷ t) new root same = cc

pub own-taken : (ns : List NameEntry) (t : List ℕ) (new : List NameEntry) (at : ℕ) → 0 < length t → IsPlaceOf ns t at → new ≡ removed_at ns at → TakesOwn ns t new
own-taken ns [] new at some place same = absurd (omega arith)
own-taken ns (c ∷ t) new at some place same = (at, place, same)

-- a text past the root's isn't empty
pub past_root_text : (numbers : List ℕ) (ns : List NameEntry) (place : ℕ) → IsNames numbers (texts ns) → place < length ns → 0 < place → 0 < length (text_at ns place)
past_root_text numbers ns place names lt past =
    let ts = texts ns in
    let root : text_at ns 0 ≡ [] = get_or_from_slice_get ts 0 [] [] names.root_text in
    longer (text_at ns place) (rw root at (Less-from_sorted text_cmp ts 0 place [] names.rising past (omega (arith, length-texts ns, lt))))
  where
    longer : (x : List ℕ) → text_cmp [] x ≡ Less → 0 < length x
    longer [] e = cc
    longer (b ∷ bs) e = omega arith

pub root_text : (numbers : List ℕ) (ns : List NameEntry) → IsNames numbers (texts ns) → text_at ns 0 ≡ []
root_text numbers ns names = get_or_from_slice_get (texts ns) 0 [] [] names.root_text

-- ---- what is kept

pub none_come-below : (old new : List NameEntry) (t : List ℕ) → Once (ids old) → ClosesBelow old t new → NoneCome old new × Once (ids new)
none_come-below old new t once (done ns u none) = (NoneCome-same ns, once)
none_come-below old new t once (more ns last u at lt below rest) =
    let later = none_come-below (removed_at ns at) last u (once_removed_at ns at lt once) rest in
    (NoneCome-more ns (removed_at ns at) last (none_come-removed_at ns at lt once) later.0, later.1)

none_come-own : (ns new : List NameEntry) (t : List ℕ) → Once (ids ns) → TakesOwn ns t new → NoneCome ns new
none_come-own ns new [] once same = let N : List NameEntry → Type 0 = λ (v : List NameEntry). NoneCome ns v in subst N (sym same) (NoneCome-same ns)
none_come-own ns new (c ∷ t) once (at, place, same) = let N : List NameEntry → Type 0 = λ (v : List NameEntry). NoneCome ns v in subst N (sym same) (none_come-removed_at ns at place.in_range once)

pub none_come-closes : (old new : List NameEntry) (t : List ℕ) → Once (ids old) → Closes old t new → NoneCome old new
none_come-closes old new t once closes =
    let first = none_come-below old closes.middle t once closes.below in
    NoneCome-more old closes.middle new first.0 (none_come-own closes.middle new t first.1 closes.own)
