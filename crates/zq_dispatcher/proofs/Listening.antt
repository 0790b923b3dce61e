-- Only faces that can listen are looked at: of those that are passed over nothing would be.
use Rattle.std.proofs.Common.{◌≡◌, ◌∙◌, refl, sym, ap, subst, ℕ, Bool, true, false, cond, List, [], ◌∷◌, ◌++◌, map, fold, filter, Option, Some, None, true≢false}
use Rattle.std.specs.Prelude.{◌||◌, ◌&&◌}
use Rattle.std.specs.BTreeMap.{is_at}
use Rattle.std.specs.BTreeSet.{insert_key}
use Rattle.std.specs.Cmp.{nat_cmp_total}
use Rattle.std.specs.List.{AllByRecursion, cons_option, filter_map, flat_map, list_any}
use Rattle.std.specs.List.Sorted.{IsStrictlySortedBy}
use Rattle.std.specs.Map.{keys_of}
use Rattle.std.specs.Option.{is_some, option_map, option_map_or}
use Rattle.std.specs.Ordering.{nat_cmp}
use Rattle.std.proofs.lemmas.List.Kept.{IsStrictlySortedBy-filter}
use Rattle.std.proofs.lemmas.Map.Lookups.{exact_unsigned}
use Rattle.std.proofs.lemmas.Map.Made.{is_some-lookup}
use Rattle.zq_message.specs.declared.message.FaceId.{FaceId}
use Rattle.zq_key.specs.Key.{intersects}
use Rattle.zq_key.proofs.Lawful.{intersects-swap}
use Rattle.zq_key.proofs.Lookups.{each_entry, same_key}
use Rattle.zq_key.proofs.Sorted.{has_put, same_keys, sorted_put}
use Rattle.zq_message.specs.Region.{region_index}
use Rattle.zq_strategy.specs.Kept.{has_face}
use Rattle.zq_strategy.specs.State.{HatState}
use Rattle.zq_index.specs.Texts.{text_cmp}
use Rattle.zq_told.specs.declared.types.FaceUpdate.{FaceUpdate}
use Rattle.zq_interests.specs.declared.types.InterestEntry.{InterestEntry}
use Rattle.zq_interests.specs.Interests.{Interests, askers, asks_for, interests_of, is_asker, is_met, meets, own_key, wants}
use Rattle.zq_machine.specs.declared.face.OpenFace.{OpenFace}
use Rattle.zq_machine.specs.Due.{is_met_by}
use Rattle.zq_machine.specs.Neighbours.{with_dues}
use Rattle.zq_machine.specs.State.{at, hat_at}
use Rattle.zq_machine.proofs.Changing.{region_there}
use Rattle.zq_machine.proofs.Widening.{asked_meets}
use Rattle.zq_dispatcher.specs.Seats.{seats}
use Rattle.zq_dispatcher.specs.declared.types.RegionChange.{RegionChange}
use Rattle.zq_dispatcher.specs.Asking.{asking_in}
use Rattle.zq_dispatcher.specs.Dues.{due_as, hears_as, listed_due, listens_as}
use Rattle.zq_dispatcher.specs.Listeners.{listeners, with_askers, with_hat, with_number, with_unasked}
use Rattle.zq_dispatcher.specs.Over.{AreSeated, dues_there, faces_but, is_gone, looked_as, looked_over_as, looked_there}
use Rattle.zq_dispatcher.proofs.Overs.{if_stays, over_staying}

abbrev has : ℕ → List ℕ → Bool
has n ns = list_any (is_at (nat_cmp n)) ns

both_false : (a b : Bool) → (a || b) ≡ false → (a ≡ false) × (b ≡ false)
both_false true b e = absurd (true≢false e)
both_false false b e = (refl, e)

-- ---- a number that is not among others after some joined them
module _ (n : ℕ) where
  out_one : (m : ℕ) (ns : List ℕ) → has n (insert_key nat_cmp ns m) ≡ false → (has n ns ≡ false) × (is_at (nat_cmp n) m ≡ false)
  out_one m ns e = let both = both_false (is_at (nat_cmp n) m) (has n ns) (sym (has_put nat_cmp_total exact_unsigned n m ns) ∙ e) in (both.1, both.0)

  out_all : (more ns : List ℕ) → has n (fold (insert_key nat_cmp) ns more) ≡ false → (has n ns ≡ false) × (has n more ≡ false)
  out_all [] ns e = (e, refl)
  out_all (m ∷ more) ns e =
      let later = out_all more (insert_key nat_cmp ns m) e in
      let one = out_one m ns later.0 in
      (one.0, λ i. one.1 i || later.1 i)

  -- nor among faces
  abbrev number_of : FaceId → ℕ
  number_of f = f.0

  out_faces : (more : List FaceId) (ns : List ℕ) → has n (fold with_number ns more) ≡ false → (has n ns ≡ false) × (has n (map number_of more) ≡ false)
  out_faces [] ns e = (e, refl)
  out_faces (m ∷ more) ns e =
      let later = out_faces more (with_number ns m) e in
      let one = out_one m.0 ns later.0 in
      (one.0, λ i. one.1 i || later.1 i)

  -- of one that is not among those of whom an interest meets a key none does
  abbrev face_of : ℕ × List (ℕ × InterestEntry) → FaceId
  face_of f = record { 0 = f.0 }

  not_asking : (key : List ℕ) (ints : Interests) → has n (map number_of (askers key ints)) ≡ false → list_any (is_met key) (interests_of n ints) ≡ false
  not_asking key [] e = refl
  not_asking key (f ∷ ints) e = by (is_asker key f) refl (is_at (nat_cmp n) f.0) refl e (not_asking key ints)
    where
      by : (a : Bool) → is_asker key f ≡ a → (b : Bool) → is_at (nat_cmp n) f.0 ≡ b
          → has n (map number_of (map face_of (cond a (f ∷ filter (is_asker key) ints) (filter (is_asker key) ints)))) ≡ false
          → (has n (map number_of (askers key ints)) ≡ false → list_any (is_met key) (interests_of n ints) ≡ false)
          → list_any (is_met key) (option_map_or (λ (es : List (ℕ × InterestEntry)). es) (cond b (Some f.1) (at n ints)) []) ≡ false
      by true is true here e later = absurd (true≢false (sym (ap (λ b. b || has n (map number_of (askers key ints))) here) ∙ e))
      by true is false there e later = later (sym (ap (λ b. b || has n (map number_of (askers key ints))) there) ∙ e)
      by false is true here e later = is
      by false is false there e later = later e

  none_asked : (ints : Interests) (keys : List (List ℕ)) (ns : List ℕ) → has n (fold (with_askers ints) ns keys) ≡ false → (has n ns ≡ false) × AllByRecursion (λ key. list_any (is_met key) (interests_of n ints) ≡ false) keys
  none_asked ints [] ns e = (e, tt)
  none_asked ints (key ∷ keys) ns e =
      let later = none_asked ints keys (with_askers ints ns key) e in
      let one = out_faces (askers key ints) ns later.0 in
      (one.0, (not_asking key ints one.1, later.1))

  -- nor does it stand in a hat whose faces listen unasked
  abbrev IsPassed : HatState → Type 0
  IsPassed h = hears_as false h ≡ true → has n (keys_of h.faces) ≡ false

  out_hat : (h : ℕ × HatState) (ns : List ℕ) (b : Bool) → hears_as false h.1 ≡ b → has n (cond b (fold (insert_key nat_cmp) ns (keys_of h.1.faces)) ns) ≡ false → (has n ns ≡ false) × IsPassed h.1
  out_hat h ns true is e = let both = out_all (keys_of h.1.faces) ns e in (both.0, λ t. both.1)
  out_hat h ns false is e = (e, λ t. absurd (true≢false (sym t ∙ is)))

  none_unasked : (hats : List (ℕ × HatState)) (ns : List ℕ) → has n (fold with_unasked ns hats) ≡ false → (has n ns ≡ false) × AllByRecursion (λ (h : ℕ × HatState). IsPassed h.1) hats
  none_unasked [] ns e = (e, tt)
  none_unasked (h ∷ hats) ns e =
      let later = none_unasked hats (with_unasked ns h) e in
      let one = out_hat h ns (hears_as false h.1) refl later.0 in
      (one.0, (one.1, later.1))

  passed_at : (k : ℕ) (h : HatState) (hats : List (ℕ × HatState)) → AllByRecursion (λ (x : ℕ × HatState). IsPassed x.1) hats → at k hats ≡ Some h → IsPassed h
  passed_at k h [] all is = absurd (let gap : None ≡ Some h = is in cc)
  passed_at k h (x ∷ hats) all is = by (is_at (nat_cmp k) x.0) is (passed_at k h hats all.1)
    where
      by : (b : Bool) → cond b (Some x.1) (at k hats) ≡ Some h → (at k hats ≡ Some h → IsPassed h) → IsPassed h
      by true same later = subst IsPassed (let both : Some x.1 ≡ Some h = same in let one : x.1 ≡ h = cc in one) all.0
      by false same later = later same

  hat_deaf : (h : HatState) → has_face n h ≡ true → IsPassed h → hears_as false h ≡ false
  hat_deaf h there passed = by (hears_as false h) refl
    where
      by : (b : Bool) → hears_as false h ≡ b → b ≡ false
      by true is = absurd (true≢false (sym (sym (is_some-lookup (is_at (nat_cmp n)) h.faces) ∙ there) ∙ passed is))
      by false is = refl

  deaf : (o : OpenFace) (hats : List (ℕ × HatState)) → AllByRecursion (λ (x : ℕ × HatState). IsPassed x.1) hats → seats o.region n hats ≡ Some true → listens_as false hats o ≡ false
  deaf o hats passed seated = by (hat_at o.region hats) refl seated
    where
      by : (x : Option HatState) → hat_at o.region hats ≡ x → option_map (has_face n) x ≡ Some true → option_map_or (hears_as false) x false ≡ false
      by None is s = refl
      by (Some h) is s =
          hat_deaf h (let both : Some (has_face n h) ≡ Some true = s in let one : has_face n h ≡ true = cc in one)
          (passed_at (region_index o.region) h hats passed (region_there o.region hats h is).1)

-- ---- those that can listen stand in order
sorted_numbers : (more ns : List ℕ) → IsStrictlySortedBy nat_cmp ns → IsStrictlySortedBy nat_cmp (fold (insert_key nat_cmp) ns more)
sorted_numbers [] ns s = s
sorted_numbers (m ∷ more) ns s = sorted_numbers more (insert_key nat_cmp ns m) (sorted_put nat_cmp_total ns m s)

sorted_faces : (more : List FaceId) (ns : List ℕ) → IsStrictlySortedBy nat_cmp ns → IsStrictlySortedBy nat_cmp (fold with_number ns more)
sorted_faces [] ns s = s
sorted_faces (m ∷ more) ns s = sorted_faces more (with_number ns m) (sorted_put nat_cmp_total ns m.0 s)

sorted_askers : (ints : Interests) (keys : List (List ℕ)) (ns : List ℕ) → IsStrictlySortedBy nat_cmp ns → IsStrictlySortedBy nat_cmp (fold (with_askers ints) ns keys)
sorted_askers ints [] ns s = s
sorted_askers ints (key ∷ keys) ns s = sorted_askers ints keys (with_askers ints ns key) (sorted_faces (askers key ints) ns s)

sorted_hat : (h : HatState) (ns : List ℕ) → IsStrictlySortedBy nat_cmp ns → IsStrictlySortedBy nat_cmp (with_hat ns h)
sorted_hat h ns s = by (hears_as false h)
  where
    by : (b : Bool) → IsStrictlySortedBy nat_cmp (cond b (fold (insert_key nat_cmp) ns (keys_of h.faces)) ns)
    by true = sorted_numbers (keys_of h.faces) ns s
    by false = s

sorted_unasked : (hats : List (ℕ × HatState)) (ns : List ℕ) → IsStrictlySortedBy nat_cmp ns → IsStrictlySortedBy nat_cmp (fold with_unasked ns hats)
sorted_unasked [] ns s = s
sorted_unasked (h ∷ hats) ns s = sorted_unasked hats (with_unasked ns h) (sorted_hat h.1 ns s)

sorted_none : IsStrictlySortedBy nat_cmp []
unfolding IsStrictlySortedBy
sorted_none = tt

sorted_listeners : (hats : List (ℕ × HatState)) (ints : Interests) (keys : List (List ℕ)) → IsStrictlySortedBy nat_cmp (listeners hats ints keys)
sorted_listeners hats ints keys = sorted_askers ints keys (fold with_unasked [] hats) (sorted_unasked hats [] sorted_none)

-- ---- a face that cannot listen has nothing due
no_more : {X : Type 0} (p q : X → Bool) → ((x : X) → q x ≡ true → p x ≡ true) → (xs : List X) → list_any p xs ≡ false → list_any q xs ≡ false
no_more p q less [] e = refl
no_more p q less (x ∷ xs) e = let both = both_false (p x) (list_any p xs) e in by (q x) refl both.0 (no_more p q less xs both.1)
  where
    by : (b : Bool) → q x ≡ b → p x ≡ false → list_any q xs ≡ false → (b || list_any q xs) ≡ false
    by true is out more = absurd (true≢false (sym (less x is) ∙ out))
    by false is out more = more

-- the key of an aggregating interest meets what the interest does
own_met : (keys : List (List ℕ)) (e : ℕ × InterestEntry) → AllByRecursion (λ key. is_met key e ≡ false) keys → option_map_or (is_met_by keys) (own_key e.1) false ≡ false
own_met keys e all = by e.1.aggregate e.1.key keys all
  where
    none : (k : List ℕ) (ks : List (List ℕ)) → AllByRecursion (λ key. intersects k key ≡ false) ks → is_met_by ks k ≡ false
    none k [] off = refl
    none k (q ∷ qs) off = λ j. (intersects-swap q k ∙ off.0) j || none k qs off.1 j

    by : (b : Bool) (o : Option (List ℕ)) (ks : List (List ℕ)) → AllByRecursion (λ key. meets o key ≡ false) ks → option_map_or (is_met_by ks) (cond b o None) false ≡ false
    by true None ks off = refl
    by true (Some k) ks off = none k ks off
    by false o ks off = refl

each_out : (e : ℕ × InterestEntry) (es : List (ℕ × InterestEntry)) (keys : List (List ℕ)) → AllByRecursion (λ key. list_any (is_met key) (e ∷ es) ≡ false) keys
    → AllByRecursion (λ key. is_met key e ≡ false) keys × AllByRecursion (λ key. list_any (is_met key) es ≡ false) keys
each_out e es [] all = (tt, tt)
each_out e es (k ∷ ks) all =
    let both = both_false (is_met k e) (list_any (is_met k) es) all.0 in
    let more = each_out e es ks all.1 in
    ((both.0, more.0), (both.1, more.1))

-- so that of those keys none is met
none_own : (es : List (ℕ × InterestEntry)) (keys : List (List ℕ)) → AllByRecursion (λ key. list_any (is_met key) es ≡ false) keys → filter (is_met_by keys) (filter_map (λ (i : ℕ × InterestEntry). own_key i.1) es) ≡ []
none_own [] keys all = refl
none_own (e ∷ es) keys all = let out = each_out e es keys all in by (own_key e.1) (own_met keys e out.0) (none_own es keys out.1)
  where
    by : (o : Option (List ℕ)) → option_map_or (is_met_by keys) o false ≡ false → filter (is_met_by keys) (filter_map (λ (i : ℕ × InterestEntry). own_key i.1) es) ≡ []
        → filter (is_met_by keys) (cons_option o (filter_map (λ (i : ℕ × InterestEntry). own_key i.1) es)) ≡ []
    by None off more = more
    by (Some k) off more = ap (λ b. cond b (k ∷ filter (is_met_by keys) (filter_map (λ (i : ℕ × InterestEntry). own_key i.1) es)) (filter (is_met_by keys) (filter_map (λ (i : ℕ × InterestEntry). own_key i.1) es))) off ∙ more

module _ (ints : Interests) (next : Option RegionChange) (hats : List (ℕ × HatState)) (n : ℕ) (o : OpenFace) (deaf_there : listens_as false hats o ≡ false) (keys : List (List ℕ)) where
  unasking : (key : List ℕ) → list_any (is_met key) (interests_of n ints) ≡ false → asks_for n key ints ≡ false
  unasking key out = no_more (is_met key) (wants key) (λ e. asked_meets e.1 key) (interests_of n ints) out

  none_listed : (ks : List (List ℕ)) → AllByRecursion (λ key. list_any (is_met key) (interests_of n ints) ≡ false) ks → flat_map (listed_due (asking_in ints n) next keys n o hats) ks ≡ []
  none_listed [] all = refl
  none_listed (k ∷ ks) all =
      ap (λ b. cond b ((k, due_as (asking_in ints n k) next keys n o hats k) ∷ []) [] ++ flat_map (listed_due (asking_in ints n) next keys n o hats) ks)
      (ap (λ b. listens_as b hats o) (unasking k all.0) ∙ deaf_there)
      ∙ none_listed ks all.1

  none_there : AllByRecursion (λ key. list_any (is_met key) (interests_of n ints) ≡ false) keys → dues_there ints next hats keys (n, o) ≡ []
  none_there all =
      ap (λ more. flat_map (listed_due (asking_in ints n) next keys n o hats) (fold (insert_key text_cmp) keys more)) (none_own (interests_of n ints) keys all)
      ∙ none_listed keys all

-- ---- lists of numbers, in order, that give the same
abbrev is_given : {Y : Type 0} → List Y → Bool
is_given [] = false
is_given (y ∷ ys) = true

not_given : {Y : Type 0} (ys : List Y) → is_given ys ≡ false → ys ≡ []
not_given [] e = refl
not_given (y ∷ ys) e = absurd (true≢false e)

module _ {Y : Type 0} (g : ℕ → List Y) where
  abbrev gives : ℕ → Bool
  gives n = is_given (g n)

  kept_by : (n : ℕ) (ns : List ℕ) (b : Bool) → gives n ≡ b → flat_map g ns ≡ flat_map g (filter gives ns) → (g n ++ flat_map g ns) ≡ flat_map g (cond b (n ∷ filter gives ns) (filter gives ns))
  kept_by n ns true is ih = ap (λ l. g n ++ l) ih
  kept_by n ns false is ih = λ i. not_given (g n) is i ++ ih i

  only_giving : (ns : List ℕ) → flat_map g ns ≡ flat_map g (filter gives ns)
  only_giving [] = refl
  only_giving (n ∷ ns) = kept_by n ns (gives n) refl (only_giving ns)

  none_given : (b : Bool) → false ≡ (b && false)
  none_given true = refl
  none_given false = refl

  among : (q : ℕ) (ns : List ℕ) → has q (filter gives ns) ≡ (gives q && has q ns)
  among q [] = none_given (gives q)
  among q (x ∷ ns) = by (gives x) refl (is_at (nat_cmp q) x) refl (among q ns)
    where
      by : (a : Bool) → gives x ≡ a → (b : Bool) → is_at (nat_cmp q) x ≡ b → has q (filter gives ns) ≡ (gives q && has q ns)
          → has q (cond a (x ∷ filter gives ns) (filter gives ns)) ≡ (gives q && (is_at (nat_cmp q) x || has q ns))
      by true t true same ih =
          let yes : gives q ≡ true = ap gives (same_key nat_cmp_total exact_unsigned q x same) ∙ t in
          ap (λ b. b || has q (filter gives ns)) same ∙ sym (λ i. yes i && (same i || has q ns))
      by true t false same ih = ap (λ b. b || has q (filter gives ns)) same ∙ ih ∙ sym (ap (λ b. gives q && (b || has q ns)) same)
      by false t true same ih =
          let no : gives q ≡ false = ap gives (same_key nat_cmp_total exact_unsigned q x same) ∙ t in
          ih ∙ ap (λ b. b && has q ns) no ∙ sym (ap (λ b. b && (is_at (nat_cmp q) x || has q ns)) no)
      by false t false same ih = ih ∙ sym (ap (λ b. gives q && (b || has q ns)) same)

  same_given : (ns ms : List ℕ) → IsStrictlySortedBy nat_cmp ns → IsStrictlySortedBy nat_cmp ms → ((q : ℕ) → gives q ≡ true → has q ns ≡ has q ms) → flat_map g ns ≡ flat_map g ms
  same_given ns ms s t agree =
      only_giving ns
      ∙ ap (flat_map g)
      (same_keys nat_cmp_total exact_unsigned (filter gives ns) (filter gives ms) (IsStrictlySortedBy-filter nat_cmp gives ns s) (IsStrictlySortedBy-filter nat_cmp gives ms t)
      (λ q. among q ns ∙ both q (gives q) refl ∙ sym (among q ms)))
      ∙ sym (only_giving ms)
    where
      both : (q : ℕ) (b : Bool) → gives q ≡ b → (b && has q ns) ≡ (b && has q ms)
      both q true is = agree q is
      both q false is = refl

-- ---- what a call looks at
module _ (ints : Interests) (next : Option RegionChange) (hats : List (ℕ × HatState)) (keys : List (List ℕ)) (but : Option FaceId) (faces : List (ℕ × OpenFace)) where
  abbrev looks : ℕ × OpenFace → List FaceUpdate
  looks = looked_as ints next hats keys

  abbrev pub there : ℕ → List FaceUpdate
  there = looked_there ints next hats keys but faces

  module _ (seated : AreSeated faces hats) where
    passed_over : (n : ℕ) (o : OpenFace) → at n faces ≡ Some o → has n (listeners hats ints keys) ≡ false → looks (n, o) ≡ []
    passed_over n o found out =
        let asked = none_asked n ints keys (fold with_unasked [] hats) out in
        let unasked = none_unasked n hats [] asked.0 in
        ap (with_dues n) (none_there ints next hats n o (deaf n o hats unasked.1 (seated n o found)) keys asked.1)

    nothing_there : (n : ℕ) → has n (listeners hats ints keys) ≡ false → there n ≡ []
    nothing_there n out = by (is_gone but n) (at n faces) refl
      where
        by : (b : Bool) (o : Option OpenFace) → at n faces ≡ o → option_map_or (λ (p : OpenFace). looks (n, p)) (cond b None o) [] ≡ []
        by true o is = refl
        by false None is = refl
        by false (Some o) is = passed_over n o is out

    no_face : (n : ℕ) → at n faces ≡ None → there n ≡ []
    no_face n none = by (is_gone but n)
      where
        by : (b : Bool) → option_map_or (λ (p : OpenFace). looks (n, p)) (cond b None (at n faces)) [] ≡ []
        by true = refl
        by false = ap (λ o. option_map_or (λ (p : OpenFace). looks (n, p)) o []) none

    listening : (n : ℕ) → is_given (there n) ≡ true → has n (listeners hats ints keys) ≡ true
    listening n given = by (has n (listeners hats ints keys)) refl
      where
        by : (b : Bool) → has n (listeners hats ints keys) ≡ b → b ≡ true
        by true is = refl
        by false is = absurd (true≢false (sym given ∙ ap is_given (nothing_there n is)))

    open_there : (n : ℕ) → is_given (there n) ≡ true → has n (keys_of faces) ≡ true
    open_there n given = sym (is_some-lookup (is_at (nat_cmp n)) faces) ∙ by (at n faces) refl
      where
        by : (o : Option OpenFace) → at n faces ≡ o → is_some o ≡ true
        by None is = absurd (true≢false (sym given ∙ ap is_given (no_face n is)))
        by (Some o) is = refl

    one_there : (e : ℕ × OpenFace) → at e.0 faces ≡ Some e.1 → there e.0 ≡ if_stays looks but e
    one_there e found = by (is_gone but e.0)
      where
        by : (b : Bool) → option_map_or (λ (p : OpenFace). looks (e.0, p)) (cond b None (at e.0 faces)) [] ≡ cond b [] (looks e)
        by true = refl
        by false = ap (λ o. option_map_or (λ (p : OpenFace). looks (e.0, p)) o []) found

    all_there : (es : List (ℕ × OpenFace)) → AllByRecursion (λ (e : ℕ × OpenFace). at e.0 faces ≡ Some e.1) es → flat_map there (keys_of es) ≡ flat_map (if_stays looks but) es
    all_there [] all = refl
    all_there (e ∷ es) all = λ i. one_there e all.0 i ++ all_there es all.1 i

    pub listeners_give : IsStrictlySortedBy nat_cmp (keys_of faces) → flat_map there (listeners hats ints keys) ≡ looked_over_as ints next hats keys (faces_but but faces)
    listeners_give s =
        same_given there (listeners hats ints keys) (keys_of faces) (sorted_listeners hats ints keys) s (λ q given. listening q given ∙ sym (open_there q given))
        ∙ all_there faces (each_entry nat_cmp_total exact_unsigned (λ (e : ℕ × OpenFace). at e.0 faces ≡ Some e.1) faces s (λ k v at_k. at_k))
        ∙ over_staying looks but faces s
