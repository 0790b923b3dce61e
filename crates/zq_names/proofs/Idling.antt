-- Which entries are idle after a text was made, and after a clean.
use Rattle.std.proofs.Common.{◌≡◌, ◌≢◌, ℕ, ◌+◌, ◌<◌, ◌≤◌, Bool, true, false, cond, eqb, List, [], ◌∷◌, length, map, take, get_or, None, refl, sym, ap, subst, ◌∙◌, arith, suc, zero, inl, inr, ◌⊎◌}
use Rattle.std.specs.List.{Contains, remove}
use Rattle.std.specs.List.Sorted.{IsStrictlySortedBy}
use Rattle.std.specs.declared.cmp.Ordering.TheVariants.{Less}
use Rattle.std.specs.Str.{bytes_eq}
use Rattle.std.proofs.lemmas.Bool.{cases_eq, cases_lt, false≢true}
use Rattle.std.proofs.lemmas.Bool.Decides.{nat_tests}
use Rattle.std.proofs.lemmas.Slice.Eq.{bytes_eq-Decides}
use Rattle.std.proofs.lemmas.Option.{get_or_from_slice_get}
use Rattle.std.proofs.lemmas.List.{get_or-take, take-take, length-take-le, get_or_default, get_or-map, get_or_append_left, get_or_at, length-append}
use Rattle.std.proofs.lemmas.List.Edits.{get_or-remove_below, get_or-remove_above, length-remove}
use Rattle.std.proofs.lemmas.Map.Keys.{Less-from_sorted}
use Rattle.zq_names.specs.Texts.{text_cmp, IsBelow, heads_to, heads, parent_of, parent_to}
use Rattle.zq_names.specs.Names.{NameEntry, IsNames, IsIdle, IsPlaceOf, HasBelow, Adds, Cleans, texts, text_at, ids, entry_at, entry_of, removed_at, without_match, change_at, with_context}
use Rattle.zq_names.specs.Names.Cleans.{stops, goes}
use Rattle.zq_names.specs.Idle.{NoneIdle, IdleAt}
use Rattle.zq_key.proofs.Runs.{not_below_itself}
use Rattle.zq_names.proofs.Below.{below_at}
use Rattle.zq_names.proofs.Heads.{cut_from_below, head_at}
use Rattle.zq_names.proofs.Rows.{length-texts}
use Rattle.zq_names.proofs.Removal.{Contains-remove, from_Contains-remove, map-remove, first-remove, rising-remove}
use Rattle.zq_names.proofs.Cleaning.{texts-removed_at, parent_stays}
use Rattle.zq_names.proofs.ClosingLemmas.{length-removed_at}
use Rattle.zq_names.proofs.Adding.{Contains-map, kept_text}
use Rattle.zq_names.proofs.KeepingLemmas.{Once, entry_at-place}

-- ---- a text stands at one place

same_place : (ts : List (List ℕ)) (i j : ℕ) → IsStrictlySortedBy text_cmp ts → i < length ts → j < length ts → get_or ts i [] ≡ get_or ts j [] → i ≡ j
same_place ts i j rising lt lt' same = elim (cases_lt i j) [
  | inl less ↦ absurd (apart i j less lt' same)
  | inr le ↦ elim (cases_eq i j) [ inl e ↦ e | inr differ ↦ absurd (apart j i (omega arith) lt (sym same)) ]
]
  where
    apart : (a b : ℕ) → a < b → b < length ts → get_or ts a [] ≡ get_or ts b [] → ⊥
    apart a b less in_b e = let P : List ℕ → Type 0 = λ (t : List ℕ). text_cmp t (get_or ts b []) ≡ Less in not_below_itself (get_or ts b []) (subst P e (Less-from_sorted text_cmp ts a b [] rising less in_b))

text_here : (ns : List NameEntry) (k : ℕ) → k < length ns → text_at ns k ≡ (get_or ns k (entry_of 0 None)).text
text_here ns k lt = get_or-map (λ (e : NameEntry). e.text) ns k (entry_of 0 None) [] lt

-- ---- what lies above a text, but isn't its parent, lies above the parent

between : (u v : List ℕ) (n : ℕ) → n ≤ length u → length v < n → get_or u (length v) 0 ≡ 47 → take (length v) u ≡ v → (parent_to u n ≡ v) ⊎ IsBelow v (parent_to u n)
between u v zero le lt slash front = absurd (omega arith)
between u v (suc n) le lt slash front = by (eqb (get_or u n 0) 47) refl (λ before. between u v n (omega arith) before slash front)
  where
    by : (b : Bool) → eqb (get_or u n 0) 47 ≡ b → (length v < n → (parent_to u n ≡ v) ⊎ IsBelow v (parent_to u n)) → (cond b (take n u) (parent_to u n) ≡ v) ⊎ IsBelow v (cond b (take n u) (parent_to u n))
    by true e earlier = elim (cases_eq (length v) n) [
      | inl same ↦ inl (ap (λ k. take k u) (sym same) ∙ front)
      | inr differ ↦
          let past : length v < n = omega arith in
          let count = length-take-le n u (omega arith) in
          inr (below_at v (take n u) (omega (arith, count)) (get_or-take n u (length v) 0 past ∙ slash) (take-take (length v) n u (omega arith) ∙ front))
    ]
    by false e earlier = elim (cases_eq (length v) n) [
      | inl same ↦ let here : get_or u n 0 ≡ 47 = ap (λ k. get_or u k 0) (sym same) ∙ slash in absurd (grind (arith, nat_tests))
      | inr differ ↦ earlier (omega arith)
    ]

above_parent : (v u : List ℕ) → IsBelow v u → v ≢ parent_of u → IsBelow v (parent_of u)
above_parent v u below differ =
    let cut = cut_from_below v u below in
    elim (between u v (length u) (omega arith) cut.0 cut.1 (sym cut.2)) [ inl same ↦ absurd (differ (sym same)) | inr higher ↦ higher ]

-- ---- an entry that is left after one was taken out

record Left (ns : List NameEntry) (at k : ℕ) : Type 0 where
  place : ℕ
  in_range : place < length ns
  apart : place ≢ at
  past : 0 < k → 0 < place
  text : text_at (removed_at ns at) k ≡ text_at ns place
  holds : (get_or (removed_at ns at) k (entry_of 0 None)).holds ≡ (get_or ns place (entry_of 0 None)).holds

left : (ns : List NameEntry) (at k : ℕ) → at < length ns → k < length (removed_at ns at) → Left ns at k
left ns at k lt in_k = elim (cases_lt k at) [
  | inl below ↦ record {
    place = k;
    in_range = omega arith;
    apart = λ same. omega arith;
    past = λ some. some;
    text = ap (λ ts. get_or ts k []) shown ∙ get_or-remove_below (texts ns) at [] k below (omega (arith, length-texts ns));
    holds = marks ∙ ap (λ (e : NameEntry). e.holds) (get_or-remove_below ns at (entry_of 0 None) k below lt);
  }
  | inr above ↦ record {
    place = k + 1;
    in_range = omega (arith, length-removed_at ns at lt);
    apart = λ same. omega arith;
    past = λ some. omega arith;
    text = ap (λ ts. get_or ts k []) shown ∙ get_or-remove_above (texts ns) at [] k above (omega (arith, length-texts ns));
    holds = marks ∙ ap (λ (e : NameEntry). e.holds) (get_or-remove_above ns at (entry_of 0 None) k above lt);
  }
]
  where
    shown : texts (removed_at ns at) ≡ remove (texts ns) at
    shown = texts-removed_at ns at ∙ map-remove (λ (e : NameEntry). e.text) ns at

    marks : (get_or (removed_at ns at) k (entry_of 0 None)).holds ≡ (get_or (remove ns at) k (entry_of 0 None)).holds
    marks =
        let f = without_match (get_or ns at (entry_of 0 None)).id in
        ap (λ (e : NameEntry). e.holds) (get_or-map f (remove ns at) k (entry_of 0 None) (entry_of 0 None) (omega (arith, length-removed_at ns at lt, length-remove ns at lt)))

-- ---- the texts that are left

names_left : (numbers : List ℕ) (ns : List NameEntry) (at : ℕ) → IsNames numbers (texts ns) → at < length ns → length numbers ≡ length ns → IsIdle ns at → IsNames (remove numbers at) (texts (removed_at ns at))
names_left numbers ns at names lt same idle =
    let ts = texts ns in
    let n = length-texts ns in
    let in_ts : at < length ts = omega (arith, n) in
    let P : List (List ℕ) → Type 0 = λ (us : List (List ℕ)). IsNames (remove numbers at) us in
    subst P (sym (texts-removed_at ns at ∙ map-remove (λ (e : NameEntry). e.text) ns at)) (record {
      rising = rising-remove ts at names.rising in_ts;
      root = first-remove numbers at 0 idle.past_root names.root;
      root_text = first-remove ts at [] idle.past_root names.root_text;
      closed = λ s t has below.
          let was = from_Contains-remove ts at t in_ts has in
          let above = names.closed s t (was.0, was.1, was.3) below in
          let apart : above.0 ≢ at = λ here.
          let is : text_at ns at ≡ s = sym (get_or_default ts at s [] in_ts) ∙ ap (λ q. get_or ts q s) (sym here) ∙ above.2 in
          let B : List ℕ → Type 0 = λ (u : List ℕ). IsBelow u t in
          idle.lonely (t, (was.0, was.1, was.3), subst B (sym is) below) in
          Contains-remove ts at above.0 s in_ts above.1 apart above.2;
      keys = λ t has some. let was = from_Contains-remove ts at t in_ts has in names.keys t (was.0, was.1, was.3) some;
    })

-- ---- a clean leaves nothing idle

same_text : (a b : List ℕ) → ((a ≢ b) → ⊥) → a ≡ b
same_text a b never = by (bytes_eq a b) refl
  where
    by : (c : Bool) → bytes_eq a b ≡ c → a ≡ b
    by true e = (bytes_eq-Decides a b).0 e
    by false e = absurd (never (λ same. false≢true (sym e ∙ (bytes_eq-Decides a b).1 same)))

-- only the text t may be idle
IdleText : List NameEntry → List ℕ → Type 0
IdleText ns t = (k : ℕ) → k < length ns → IsIdle ns k → text_at ns k ≡ t

idle_left : (numbers : List ℕ) (ns : List NameEntry) (u : List ℕ) (at : ℕ) → IsNames numbers (texts ns) → IsPlaceOf ns u at → IsIdle ns at → IdleText ns u → IdleText (removed_at ns at) (parent_of u)
unfolding IdleText
idle_left numbers ns u at names place idle only k in_k idle_k =
    let ts = texts ns in
    let n = length-texts ns in
    let lt = place.in_range in
    let there = left ns at k lt in_k in
    let v = text_at (removed_at ns at) k in
    same_text v (parent_of u) (λ differ.
    let parent : Contains (texts (removed_at ns at)) (parent_of u) =
    let C : List ℕ → Type 0 = λ (t : List ℕ). Contains (texts (removed_at ns at)) (parent_of t) in subst C place.is (parent_stays numbers ns at names lt idle.past_root) in
    let lonely : HasBelow ns (text_at ns there.place) → ⊥ = λ has.
    let B : List ℕ → Type 0 = λ (t : List ℕ). IsBelow t has.0 in
    let below : IsBelow v has.0 = subst B (sym there.text) has.2 in
    elim (cases_eq has.1.0 at) [
      | inl here ↦
          let is : has.0 ≡ u = sym has.1.2 ∙ get_or_default ts has.1.0 has.0 [] has.1.1 ∙ ap (λ q. get_or ts q []) here ∙ place.is in
          let U : List ℕ → Type 0 = λ (t : List ℕ). IsBelow v t in
          idle_k.lonely (parent_of u, parent, above_parent v u (subst U is below) differ)
      | inr apart ↦
          let L : List (List ℕ) → Type 0 = λ (l : List (List ℕ)). Contains l has.0 in
          let stays = Contains-remove ts at has.1.0 has.0 (omega (arith, n)) has.1.1 apart has.1.2 in
          idle_k.lonely (has.0, subst L (sym (texts-removed_at ns at ∙ map-remove (λ (e : NameEntry). e.text) ns at)) stays, below)
    ] in
    let was : IsIdle ns there.place = record { past_root = there.past idle_k.past_root; unheld = sym there.holds ∙ idle_k.unheld; lonely = lonely } in
    there.apart (same_place ts there.place at names.rising (omega (arith, n, there.in_range)) (omega (arith, n)) (only there.place there.in_range was ∙ sym place.is)))

pub none_idle-cleans : (numbers : List ℕ) (old new : List NameEntry) (t : List ℕ) → IsNames numbers (texts old) → length numbers ≡ length old → Cleans old t new → ((k : ℕ) → k < length old → IsIdle old k → text_at old k ≡ t) → NoneIdle new
unfolding IdleText
none_idle-cleans numbers old new t names same (stops ns u at place busy) only = λ k in_k idle.
    let n = length-texts ns in
    let here : k ≡ at = same_place (texts ns) k at names.rising (omega (arith, n)) (omega (arith, n, place.in_range)) (only k in_k idle ∙ sym place.is) in
    let I : ℕ → Type 0 = IsIdle ns in
    busy (subst I here idle)
none_idle-cleans numbers old new t names same (goes ns last u at place idle rest) only =
    none_idle-cleans (remove numbers at) (removed_at ns at) last (parent_of u) (names_left numbers ns at names place.in_range same idle)
    (omega (arith, same, length-remove numbers at (omega (arith, same, place.in_range)), length-removed_at ns at place.in_range)) rest
    (idle_left numbers ns u at names place idle only)

-- ---- a text that is made leaves nothing idle but itself

pub entry_there : (ns : List NameEntry) (i : ℕ) → Contains (ids ns) i → Contains ns (entry_at ns i) × ((entry_at ns i).id ≡ i)
entry_there [] i (k, lt, is) = absurd (omega arith)
entry_there (e ∷ es) i has = elim (cases_eq e.id i) [
  | inl same ↦ let here : eqb e.id i ≡ true = grind (arith, nat_tests) in rw here ((zero, omega arith, refl), same)
  | inr differ ↦
      let other : eqb e.id i ≡ false = grind (arith, nat_tests) in
      let rest = entry_there es i (tail has differ) in
      rw other (more rest.0, rest.1)
]
  where
    tail : Contains (e.id ∷ ids es) i → e.id ≢ i → Contains (ids es) i
    tail (zero, lt, same) differ = absurd (differ same)
    tail (suc k, lt, same) differ = (k, omega arith, same)

    more : {x : NameEntry} → Contains es x → Contains (e ∷ es) x
    more (k, lt, is) = (suc k, omega arith, is)

-- a part of t that ends before a `/` lies above it, or is t
head_cases : (t v : List ℕ) → Contains (heads t) v → (v ≡ t) ⊎ IsBelow v t
head_cases t v has =
    let all = heads_to t (length t) in
    let count = length-append all (t ∷ []) in
    let found : v ≡ get_or (heads t) has.0 [] = sym has.2 ∙ get_or_default (heads t) has.0 v [] has.1 in
    elim (cases_lt has.0 (length all)) [
      | inl inside ↦
          let at = head_at t (length t) has.0 inside in
          let is : v ≡ take at.at t = found ∙ get_or_append_left all (t ∷ []) [] has.0 inside ∙ at.is in
          let n = length-take-le at.at t (omega (arith, at.below)) in
          let B : List ℕ → Type 0 = λ (u : List ℕ). IsBelow u t in
          inr (subst B (sym is) (below_at (take at.at t) t (omega (arith, n, at.below)) (rw n at.slash) (rw n refl)))
      | inr past ↦
          let last : has.0 ≡ length all = omega (arith, count, has.1) in
          inl (found ∙ get_or_at all t [] [] has.0 (sym last))
    ]

pub kept_field : {X : Type 0} (g : NameEntry → X) (f : NameEntry → NameEntry) (ns : List NameEntry) (i : ℕ) → ((e : NameEntry) → g (f e) ≡ g e) → map g (change_at ns i f) ≡ map g ns
kept_field g f [] i keeps = refl
kept_field {X} g f (e ∷ es) i keeps = by (eqb e.id i) (kept_field g f es i keeps)
  where
    by : (b : Bool) → map g (change_at es i f) ≡ map g es → g (cond b (f e) e) ∷ map g (change_at es i f) ≡ g e ∷ map g es
    by true later = rw (keeps e, later)
    by false later = rw later

-- the old names, the names with the text, and the names after its context was given
module _ (old middle new : List NameEntry) (r : ℕ) (t : List ℕ) (numbers numbers' : List ℕ) (names : IsNames numbers (texts old)) (names' : IsNames numbers' (texts middle)) (adds : Adds old middle (heads t)) (live : Contains (ids middle) r) (text : (entry_at middle r).text ≡ t) (marked : new ≡ change_at middle r with_context) where
  same_texts : texts new ≡ texts middle
  same_texts = ap texts marked ∙ kept_field (λ e. e.text) with_context middle r (λ e. refl)

  same_ids : ids new ≡ ids middle
  same_ids = ap ids marked ∙ kept_field (λ e. e.id) with_context middle r (λ e. refl)

  same_length : length new ≡ length middle
  same_length = sym (length-texts new) ∙ ap length same_texts ∙ length-texts middle

  same_holds : (k : ℕ) → k < length new → (get_or middle k (entry_of 0 None)).holds ≡ (get_or new k (entry_of 0 None)).holds
  same_holds k lt =
      let g = λ (e : NameEntry). e.holds in
      sym (get_or-map g middle k (entry_of 0 None) 0 (omega (arith, same_length)))
      ∙ ap (λ hs. get_or hs k 0) (sym (ap (map g) marked ∙ kept_field g with_context middle r (λ e. refl)))
      ∙ get_or-map g new k (entry_of 0 None) 0 lt

  rising : IsStrictlySortedBy text_cmp (texts new)
  rising = let S : List (List ℕ) → Type 0 = IsStrictlySortedBy text_cmp in subst S (sym same_texts) names'.rising

  root : text_at new 0 ≡ []
  root = ap (λ ts. get_or ts 0 []) same_texts ∙ get_or_from_slice_get (texts middle) 0 [] [] names'.root_text

  has_text : Contains (texts new) t
  has_text =
      let there = entry_there middle r live in
      let C : List (List ℕ) → Type 0 = λ (ts : List (List ℕ)). Contains ts t in
      let U : List ℕ → Type 0 = λ (u : List ℕ). Contains (texts middle) u in
      subst C (sym same_texts) (subst U text (Contains-map (λ (e : NameEntry). e.text) middle (entry_at middle r) there.0))

  -- an entry that was there isn't idle
  not_old : NoneIdle old → (k : ℕ) → k < length new → IsIdle new k → Contains old (get_or middle k (entry_of 0 None)) → ⊥
  not_old none k lt idle was =
      let e = get_or middle k (entry_of 0 None) in
      let j = was.0 in
      let here : get_or old j (entry_of 0 None) ≡ e = get_or_default old j (entry_of 0 None) e was.1 ∙ was.2 in
      let v_is : text_at new k ≡ e.text = ap (λ ts. get_or ts k []) same_texts ∙ text_here middle k (omega (arith, same_length)) in
      let j_is : text_at old j ≡ text_at new k = text_here old j was.1 ∙ ap (λ (x : NameEntry). x.text) here ∙ sym v_is in
      let past : 0 < j = elim (cases_eq j 0) [
        | inl first ↦
            let empty : text_at new k ≡ [] = sym j_is ∙ ap (λ q. get_or (texts old) q []) first ∙ get_or_from_slice_get (texts old) 0 [] [] names.root_text in
            let n = length-texts new in
            let zero_k : k ≡ 0 = same_place (texts new) k 0 rising (omega (arith, n)) (omega (arith, n)) (empty ∙ sym root) in
            absurd (omega (arith, zero_k, idle.past_root))
        | inr later ↦ omega arith
      ] in
      let lonely : HasBelow old (text_at old j) → ⊥ = λ has.
      let C : List (List ℕ) → Type 0 = λ (ts : List (List ℕ)). Contains ts has.0 in
      let B : List ℕ → Type 0 = λ (u : List ℕ). IsBelow u has.0 in
      idle.lonely (has.0, subst C (sym same_texts) (kept_text old middle (heads t) has.0 adds has.1), subst B j_is has.2) in
      none j was.1 (record { past_root = past; unheld = ap (λ (x : NameEntry). x.holds) here ∙ same_holds k lt ∙ idle.unheld; lonely = lonely })

  pub idle_made : NoneIdle old → IdleAt new r
  idle_made none k lt idle =
      let e = get_or middle k (entry_of 0 None) in
      let in_k : k < length middle = omega (arith, same_length) in
      let there : Contains middle e = (k, in_k, get_or_default middle k e (entry_of 0 None) in_k) in
      let v_is : text_at new k ≡ e.text = ap (λ ts. get_or ts k []) same_texts ∙ text_here middle k in_k in
      elim (adds.brought e there) [
        | inl was ↦ absurd (not_old none k lt idle was)
        | inr came ↦ elim (head_cases t e.text came.0) [
          | inr above ↦ absurd (let B : List ℕ → Type 0 = λ (u : List ℕ). IsBelow u t in idle.lonely (t, has_text, subst B (sym v_is) above))
          | inl same ↦
              let own = entry_there middle r live in
              let j = own.0.0 in
              let j_is : text_at middle j ≡ t = text_here middle j own.0.1 ∙ ap (λ (x : NameEntry). x.text) (get_or_default middle j (entry_of 0 None) (entry_at middle r) own.0.1 ∙ own.0.2) ∙ text in
              let n = length-texts middle in
              let k_is : k ≡ j = same_place (texts middle) k j names'.rising (omega (arith, n)) (omega (arith, n, own.0.1)) (text_here middle k in_k ∙ same ∙ sym j_is) in
              let i = λ (x : NameEntry). x.id in
              sym (get_or-map i new k (entry_of 0 None) 0 lt)
              ∙ ap (λ is. get_or is k 0) same_ids
              ∙ get_or-map i middle k (entry_of 0 None) 0 in_k
              ∙ ap i (ap (λ q. get_or middle q (entry_of 0 None)) k_is ∙ get_or_default middle j (entry_of 0 None) (entry_at middle r) own.0.1 ∙ own.0.2)
              ∙ own.1
        ]
      ]

-- ---- the entry of a number

pub text_of_idle : (ns : List NameEntry) (r : ℕ) → Once (ids ns) → IdleAt ns r → (k : ℕ) → k < length ns → IsIdle ns k → text_at ns k ≡ (entry_at ns r).text
text_of_idle ns r once only k lt idle =
    text_here ns k lt
    ∙ ap (λ (e : NameEntry). e.text) (sym (entry_at-place ns k (entry_of 0 None) lt once))
    ∙ ap (λ (i : ℕ). (entry_at ns i).text) (only k lt idle)
