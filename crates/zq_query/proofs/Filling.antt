-- A new request with an entry at each place.
use Rattle.std.proofs.Common.{◌≡◌, ℕ, zero, suc, ◌+◌, ◌<◌, ◌^◌, Bool, true, false, cond, List, [], ◌∷◌, ◌++◌, length, take, get_or, ap, ◌∙◌, refl, arith, Some, None, Option, sym, subst, true≢false}
use Rattle.std.specs.Prelude.{map, fold, not, ◌==◌, ◌||◌}
use Rattle.std.proofs.lemmas.Bool.{ne_eqb, or_parts}
use Rattle.std.specs.Ordering.{nat_cmp}
use Rattle.std.specs.Cmp.{nat_cmp_total, nat_eq_equiv, nat_cmp_is, first_so, second_so}
use Rattle.std.specs.Option.{IsSome, is_some}
use Rattle.std.specs.List.{filter, list_any, AllByRecursion}
use Rattle.std.specs.List.Sorted.{IsStrictlySortedBy}
use Rattle.std.specs.Map.{keys_of, remove_entry}
use Rattle.std.specs.BTreeMap.{is_at, insert_entry}
use Rattle.std.specs.declared.cmp.Ordering.{Ordering}
use Rattle.std.specs.declared.cmp.Ordering.TheVariants.{Less, Equal, Greater}
use Rattle.std.specs.Ordering.{match_ordering}
use Rattle.std.proofs.lemmas.Map.Lookups.{exact_unsigned}
use Rattle.std.proofs.Math.Bool.{or-true}
use Rattle.zq_query.specs.declared.queries.Open.{Open}
use Rattle.zq_query.specs.declared.queries.Owed.{Owed}
use Rattle.zq_query.specs.Records.{Pending, insert_pending, is_pending}
use Rattle.zq_query.specs.Asking.{are_distinct, any_pending, asked_record, asked_records, entries_at, entry_at}
use Rattle.zq_query.specs.Tables.{Dues, Place, place_cmp, lists, is_of, flies_for, entry_of, record_of, records_of, at_number, at_place, filled, AreAbsent, IsListed, IsTied, IsCounted, IsBelow}
use Rattle.zq_query.proofs.Keys.{place_total, place_exact}
use Rattle.zq_query.proofs.Putting.{count-insert}
use Rattle.zq_query.proofs.Owing.{mine, theirs, undone, absent_of}
use Rattle.zq_key.proofs.Lookups.{same_key, at_itself, apart, each_entry, either_way, found_after_insertion}
use Rattle.zq_key.proofs.Sorted.{sorted_in}

-- ---- what is owed at the places
more_by : {X : Type 0} (b c : Bool) (v x : Option X) → cond c v (cond b v x) ≡ cond (b || c) v x
more_by true true v x = refl
more_by true false v x = refl
more_by false c v x = refl

-- what stands at a place afterwards
pub at_filled : (es : List (Place × Owed)) (ps : List Place) (v : Owed) (q : Place) → at_place q (filled es ps v) ≡ cond (lists q ps) (Some v) (at_place q es)
at_filled es [] v q = refl
at_filled es (p ∷ ps) v q =
    at_filled (insert_entry place_cmp es p v) ps v q
    ∙ ap (cond (lists q ps) (Some v)) (found_after_insertion place_total place_exact p q v es ∙ ap (λ b. cond b (Some v) (at_place q es)) (either_way place_total place_exact p q))
    ∙ more_by (is_at (place_cmp q) p) (lists q ps) (Some v) (at_place q es)

pub sorted_filled : (es : List (Place × Owed)) (ps : List Place) (v : Owed) → IsStrictlySortedBy place_cmp (keys_of es) → IsStrictlySortedBy place_cmp (keys_of (filled es ps v))
sorted_filled es [] v s = s
sorted_filled es (p ∷ ps) v s = sorted_filled (insert_entry place_cmp es p v) ps v (sorted_in place_total es p v s)

none_by : (p q : Place) (v : Owed) (es : List (Place × Owed)) (b : Bool) → is_at (place_cmp p) q ≡ b → ◌≡◌ {A = Option Owed} (cond b (Some v) (at_place q es)) None → at_place q es ≡ None
none_by p q v es true e h = absurd (cc)
none_by p q v es false e h = h

was_none : (p q : Place) (v : Owed) (es : List (Place × Owed)) → at_place q (insert_entry place_cmp es p v) ≡ None → at_place q es ≡ None
was_none p q v es h = none_by p q v es _ refl (sym (found_after_insertion place_total place_exact p q v es) ∙ h)

none_at_by : (es : List (Place × Owed)) (v : Owed) (p q : Place) (ps : List Place) (b : Bool) → is_at (place_cmp q) p ≡ b → at_place p es ≡ None → (b || lists q ps) ≡ true → (lists q ps ≡ true → at_place q (insert_entry place_cmp es p v) ≡ None) → at_place q es ≡ None
none_at_by es v p q ps true e none h ih = ap (λ k. at_place k es) (same_key place_total place_exact q p e) ∙ none
none_at_by es v p q ps false e none h ih = was_none p q v es (ih h)

-- nothing stood at any of the places
pub none_listed : (es : List (Place × Owed)) (v : Owed) (ps : List Place) (q : Place) → AreAbsent es v ps → lists q ps ≡ true → at_place q es ≡ None
none_listed es v [] q a h = absurd (true≢false (sym h))
none_listed es v (p ∷ ps) q a h = none_at_by es v p q ps _ refl a.0 h (λ l. none_listed (insert_entry place_cmp es p v) v ps q a.1 l)

-- what is put in at the first places is taken out again
pub one_out : (es : List (Place × Owed)) (v : Owed) (ps : List Place) (j : ℕ) (d : Place) → AreAbsent es v ps → j < length ps → remove_entry (is_at (place_cmp (get_or ps j d))) (filled es (take (j + 1) ps) v) ≡ filled es (take j ps) v
one_out es v [] j d a l = absurd (omega (arith, l))
one_out es v (p ∷ ps) zero d a l = undone place_total place_exact es p v a.0
one_out es v (p ∷ ps) (suc j) d a l = let e : suc j + 1 ≡ suc (j + 1) = omega arith in rw e (one_out (insert_entry place_cmp es p v) v ps j d a.1 (omega (arith, l)))

-- ---- where no id is pending and no face stands twice
absent_after : (es : List (Place × Owed)) (v : Owed) (p : Place) (ps : List Place) → AllByRecursion (λ q. at_place q es ≡ None) ps → list_any (λ y. y == p.0) (keys_of ps) ≡ false → AllByRecursion (λ q. at_place q (insert_entry place_cmp es p v) ≡ None) ps
absent_after es v p [] all other = tt
absent_after es v p (q ∷ ps) all other =
    let m = or_parts (q.0 == p.0) (list_any (λ y. y == p.0) (keys_of ps)) other in (
      found_after_insertion place_total place_exact p q v es
          ∙ ap (λ b. cond b (Some v) (at_place q es)) (apart place_total place_exact p q (λ same. true≢false (sym (nat_eq_equiv.refl p.0) ∙ ap (λ (z : Place). z.0 == p.0) same ∙ m.0)))
          ∙ all.0,
      absent_after es v p ps all.1 m.1,
    )

pub all_absent : (es : List (Place × Owed)) (v : Owed) (ps : List Place) → AllByRecursion (λ q. at_place q es ≡ None) ps → are_distinct (keys_of ps) ≡ true → AreAbsent es v ps
all_absent es v [] all d = tt
all_absent es v (p ∷ ps) all d = (all.0, all_absent (insert_entry place_cmp es p v) v ps (absent_after es v p ps all.1 (not_true _ (first_so _ _ d))) (second_so _ _ d))
  where
    not_true : (b : Bool) → not b ≡ true → b ≡ false
    not_true true h = absurd (true≢false (sym h))
    not_true false h = refl

pub absent_places : (heads : List (ℕ × Open)) (pending : List (Place × Owed)) (dues : Dues) (replies : List (ℕ × ℕ)) → IsTied heads pending dues replies → (ps : List Place) → any_pending (records_of heads pending replies) ps ≡ false → AllByRecursion (λ q. at_place q pending ≡ None) ps
absent_places heads pending dues replies tied [] h = tt
absent_places heads pending dues replies tied (p ∷ ps) h =
    let m = or_parts (is_pending p.0 p.1 (records_of heads pending replies)) (any_pending (records_of heads pending replies) ps) h in
    (absent_of p.0 p.1 heads pending dues replies tied m.0, absent_places heads pending dues replies tied ps m.1)

face_by : (x q : Place) (ps : List Place) (b : Bool) → is_at (place_cmp q) x ≡ b → (b || lists q ps) ≡ true → (lists q ps ≡ true → list_any (λ y. y == q.0) (keys_of ps) ≡ true) → ((x.0 == q.0) || list_any (λ y. y == q.0) (keys_of ps)) ≡ true
face_by x q ps true e h ih = ap (λ (b : Bool). b || list_any (λ y. y == q.0) (keys_of ps)) (ap (λ (z : Place). z.0 == q.0) (sym (same_key place_total place_exact q x e)) ∙ nat_eq_equiv.refl q.0)
face_by x q ps false e h ih = ap (λ b. (x.0 == q.0) || b) (ih h) ∙ or-true (x.0 == q.0)

has_face : (q : Place) (ps : List Place) → lists q ps ≡ true → list_any (λ y. y == q.0) (keys_of ps) ≡ true
has_face q [] h = h
has_face q (x ∷ ps) h = face_by x q ps _ refl h (has_face q ps)

one_by : (x q p : Place) (ps : List Place) (b c : Bool) → is_at (place_cmp q) x ≡ b → is_at (place_cmp p) x ≡ c → (b || lists q ps) ≡ true → (c || lists p ps) ≡ true → q.0 ≡ p.0 → list_any (λ y. y == x.0) (keys_of ps) ≡ false
    → (lists q ps ≡ true → lists p ps ≡ true → q.1 ≡ p.1) → q.1 ≡ p.1
one_by x q p ps true true e f h g face other ih = ap (λ (z : Place). z.1) (same_key place_total place_exact q x e ∙ sym (same_key place_total place_exact p x f))
one_by x q p ps true false e f h g face other ih =
    absurd (true≢false (sym (has_face p ps g) ∙ ap (λ n. list_any (λ y. y == n) (keys_of ps)) (sym face ∙ ap (λ (z : Place). z.0) (same_key place_total place_exact q x e)) ∙ other))
one_by x q p ps false true e f h g face other ih =
    absurd (true≢false (sym (has_face q ps h) ∙ ap (λ n. list_any (λ y. y == n) (keys_of ps)) (face ∙ ap (λ (z : Place). z.0) (same_key place_total place_exact p x f)) ∙ other))
one_by x q p ps false false e f h g face other ih = ih h g

-- of each face one place
pub one_place : (q p : Place) (ps : List Place) → are_distinct (keys_of ps) ≡ true → lists q ps ≡ true → lists p ps ≡ true → q.0 ≡ p.0 → q.1 ≡ p.1
one_place q p [] d h g face = absurd (true≢false (sym h))
one_place q p (x ∷ ps) d h g face = one_by x q p ps _ _ refl refl h g face (not_true _ (first_so _ _ d)) (λ a b. one_place q p ps (second_so _ _ d) a b face)
  where
    not_true : (b : Bool) → not b ≡ true → b ≡ false
    not_true true f = absurd (true≢false (sym f))
    not_true false f = refl

fit_by : (P : Place → Type 0) (x q : Place) (ps : List Place) (b : Bool) → is_at (place_cmp q) x ≡ b → P x → (b || lists q ps) ≡ true → (lists q ps ≡ true → P q) → P q
fit_by P x q ps true e p h ih = subst P (sym (same_key place_total place_exact q x e)) p
fit_by P x q ps false e p h ih = ih h

pub each_listed : (P : Place → Type 0) (ps : List Place) → AllByRecursion P ps → (q : Place) → lists q ps ≡ true → P q
each_listed P [] all q h = absurd (true≢false (sym h))
each_listed P (x ∷ ps) all q h = fit_by P x q ps _ refl all.0 h (each_listed P ps all.1 q)

-- ---- the entries of each request afterwards
pub theirs_filled : (es : List (Place × Owed)) (v : Owed) (ps : List Place) (m : ℕ) → (v.number == m) ≡ false → AreAbsent es v ps → filter (is_of m) (filled es ps v) ≡ filter (is_of m) es
theirs_filled es v [] m ne a = refl
theirs_filled es v (p ∷ ps) m ne a = theirs_filled (insert_entry place_cmp es p v) v ps m ne a.1 ∙ theirs p v m es ne a.0

pub mine_filled : (es : List (Place × Owed)) (v : Owed) (ps : List Place) → IsStrictlySortedBy place_cmp (keys_of es) → AreAbsent es v ps
    → map entry_of (filter (is_of v.number) (filled es ps v)) ≡ fold (λ l p. insert_pending l (entry_at v.deadline p)) (map entry_of (filter (is_of v.number) es)) ps
mine_filled es v [] s a = refl
mine_filled es v (p ∷ ps) s a =
    mine_filled (insert_entry place_cmp es p v) v ps (sorted_in place_total es p v s) a.1
    ∙ ap (λ (z : List Pending). fold (λ l q. insert_pending l (entry_at v.deadline q)) z ps) (mine p v es s a.0)

pub count_filled : (es : List (Place × Owed)) (v : Owed) (ps : List Place) → AreAbsent es v ps → length (filter (is_of v.number) (filled es ps v)) ≡ length (filter (is_of v.number) es) + length ps
count_filled es v [] a = omega arith
count_filled es v (p ∷ ps) a =
    let ih = count_filled (insert_entry place_cmp es p v) v ps a.1 in
    let one = count-insert place_cmp (λ w. w.number == v.number) es p v a.0 in
    let c : ◌≡◌ {A = ℕ} (cond (v.number == v.number) 1 0) 1 = ap (λ (z : Bool). cond {A = ℕ} z 1 0) (nat_eq_equiv.refl v.number) in
    omega (arith, ih, one, c)

-- ---- a number above all
last_by : {X : Type 0} (n : ℕ) (v : X) (e : ℕ × X) (es : List (ℕ × X)) (r : Ordering) → nat_cmp n e.0 ≡ r → r ≡ Greater → insert_entry nat_cmp es n v ≡ es ++ (n, v) ∷ [] → match_ordering r ((n, v) ∷ e ∷ es) ((e.0, v) ∷ es) (e ∷ insert_entry nat_cmp es n v) ≡ e ∷ (es ++ (n, v) ∷ [])
last_by n v e es Less h g ih = absurd (cc)
last_by n v e es Equal h g ih = absurd (cc)
last_by n v e es Greater h g ih = ap (λ l. e ∷ l) ih

-- a key above all goes to the end
insert_last : {X : Type 0} (n : ℕ) (v : X) (es : List (ℕ × X)) → AllByRecursion (λ e. e.0 < n) es → insert_entry nat_cmp es n v ≡ es ++ (n, v) ∷ []
insert_last n v [] all = refl
insert_last n v (e ∷ es) all = let l : e.0 < n = all.0 in last_by n v e es _ refl (sym (nat_cmp_is n e.0 Greater l)) (insert_last n v es all.1)

none_of : {X : Type 0} (p : X → Bool) (es : List X) → AllByRecursion (λ e. p e ≡ false) es → filter p es ≡ []
none_of p [] all = refl
none_of p (e ∷ es) all = rw all.0 (none_of p es all.1)

map_last : {X Y : Type 0} (f g : X → Y) (xs : List X) (x : X) (y : Y) → AllByRecursion (λ z. g z ≡ f z) xs → g x ≡ y → map g (xs ++ x ∷ []) ≡ map f xs ++ y ∷ []
map_last f g [] x y all e = ap (λ z. z ∷ []) e
map_last f g (z ∷ xs) x y all e = λ i. all.0 i ∷ map_last f g xs x y all.1 e i

module _ (heads : List (ℕ × Open)) (pending : List (Place × Owed)) (dues : Dues) (replies : List (ℕ × ℕ)) (tied : IsTied heads pending dues replies) (n next : ℕ) (below : IsBelow heads replies n next) where
  no_head : (m : ℕ) → n ≡ m → IsSome (at_number m heads) → ⊥
  no_head m same some = by_head _ refl some
    where
      by_head : (q : Option Open) → at_number m heads ≡ q → IsSome q → ⊥
      by_head None e none = true≢false (sym none)
      by_head (Some o) e s = let l = below.numbers m o e in absurd (omega (arith, l, same))

  none_due : (d : ℕ) (q : Option (List Place)) → at_place (d, n) dues ≡ q → at_place (d, n) dues ≡ None
  none_due d None e = e
  none_due d (Some ps) e = let there = tied.entry (d, n) ps e in absurd (no_head n refl (tied.owned there.0 (record { number = n; deadline = d }) there.1))

  -- no place is listed under the number
  pub new_due : (d : ℕ) → at_place (d, n) dues ≡ None
  new_due d = none_due d _ refl

  module _ (ps : List Place) (d : ℕ) (absent : AreAbsent pending (record { number = n; deadline = d }) ps) (distinct : are_distinct (keys_of ps) ≡ true) (some : 0 < length ps) (fit : AllByRecursion (λ (p : Place). (p.0 < 2 ^ 32) × (p.1 < 2 ^ 32)) ps)
      (o : Open) (one : o.pending ≡ length ps) (zero_flying : o.in_flight ≡ 0) where
    abbrev v : Owed
    v = record { number = n; deadline = d }

    abbrev opened : List (ℕ × Open)
    opened = insert_entry nat_cmp heads n o

    abbrev places : List (Place × Owed)
    places = filled pending ps v

    abbrev after : Dues
    after = insert_entry place_cmp dues (d, n) ps

    heads_give : (q : ℕ) → at_number q opened ≡ cond (is_at (nat_cmp n) q) (Some o) (at_number q heads)
    heads_give q = found_after_insertion nat_cmp_total exact_unsigned n q o heads

    gives : (q : Place) → at_place q places ≡ cond (lists q ps) (Some v) (at_place q pending)
    gives q = at_filled pending ps v q

    due_gives : (q : Place) → at_place q after ≡ cond (is_at (place_cmp (d, n)) q) (Some ps) (at_place q dues)
    due_gives q = found_after_insertion place_total place_exact (d, n) q ps dues

    none_owed : filter (is_of n) pending ≡ []
    none_owed = none_of (is_of n) pending (each_entry place_total place_exact (λ e. is_of n e ≡ false) pending tied.places (λ q w h. ne_eqb w.number n (λ same. no_head w.number (sym same) (tied.owned q w h))))

    none_flying : filter (flies_for n) replies ≡ []
    none_flying = none_of (flies_for n) replies (each_entry nat_cmp_total exact_unsigned (λ e. flies_for n e ≡ false) replies tied.flights (λ r m h. ne_eqb m n (λ same. no_head m (sym same) (tied.flown r m h))))

    mine_is : map entry_of (filter (is_of n) places) ≡ entries_at d ps
    mine_is = mine_filled pending v ps tied.places absent ∙ ap (λ (l : List (Place × Owed)). fold (λ z p. insert_pending z (entry_at d p)) (map entry_of l) ps) none_owed

    theirs_are : (m : ℕ) → (n ≡ m → ⊥) → filter (is_of m) places ≡ filter (is_of m) pending
    theirs_are m ne = theirs_filled pending v ps m (ne_eqb n m ne) absent

    -- the new request stands last
    records_last : records_of opened places replies ≡ records_of heads pending replies ++ asked_record n o.asker o.id o.qos ps d ∷ []
    records_last =
        ap (map (record_of places replies)) (insert_last n o heads (each_entry nat_cmp_total exact_unsigned (λ e. e.0 < n) heads tied.numbers (λ m x h. below.numbers m x h)))
        ∙ map_last (record_of pending replies) (record_of places replies) heads (n, o) _
        (each_entry nat_cmp_total exact_unsigned (λ e. record_of places replies e ≡ record_of pending replies e) heads tied.numbers
        (λ m x h. ap (λ l. record (record_of pending replies (m, x)) { pending = map entry_of l }) (theirs_are m (λ same. no_head m same (ap is_some h)))))
        (λ i. record { number = n; asker = o.asker; id = o.id; qos = o.qos; pending = mine_is i; in_flight = keys_of (none_flying i) })

    as_some : (qs : List Place) → 0 < length qs → asked_record n o.asker o.id o.qos qs d ∷ [] ≡ asked_records n o.asker o.id o.qos qs d
    as_some [] l = absurd (omega (arith, l))
    as_some (q ∷ qs) l = refl

    pub records_entered : records_of opened places replies ≡ records_of heads pending replies ++ asked_records n o.asker o.id o.qos ps d
    records_entered = records_last ∙ ap (λ l. records_of heads pending replies ++ l) (as_some ps some)

    counted_by : (m : ℕ) (x : Open) (b : Bool) → is_at (nat_cmp n) m ≡ b → cond b (Some o) (at_number m heads) ≡ Some x → IsCounted places replies m x
    counted_by m x true e h =
        let same : n ≡ m = same_key nat_cmp_total exact_unsigned n m e in
        let value : o ≡ x = cc in
        let f : length (filter (flies_for n) replies) ≡ 0 = ap length none_flying in
        let c = count_filled pending v ps absent in
        let z : length (filter (is_of n) pending) ≡ 0 = ap length none_owed in
        subst (λ z. IsCounted places replies z x) same (subst (λ z. IsCounted places replies n z) value (record { owed = omega (arith, one, c, z); flying = zero_flying ∙ sym f; some_left = omega (arith, one, some) }))
    counted_by m x false e h =
        let c = tied.counted m x h in
        record { owed = c.owed ∙ sym (ap length (theirs_are m (λ same. no_head m same (ap is_some h)))); flying = c.flying; some_left = c.some_left }

    still_by : (m : ℕ) → IsSome (at_number m heads) → IsSome (at_number m opened)
    still_by m some = subst (λ q. IsSome q) (sym (heads_give m)) (step (is_at (nat_cmp n) m))
      where
        step : (b : Bool) → IsSome (cond b (Some o) (at_number m heads))
        step true = refl
        step false = some

    owned_by : (q : Place) (w : Owed) (b : Bool) → lists q ps ≡ b → cond b (Some v) (at_place q pending) ≡ Some w → IsSome (at_number w.number opened)
    owned_by q w true e h =
        let same : v ≡ w = cc in
        subst (λ z. IsSome (at_number z.number opened)) same (ap is_some (heads_give n ∙ ap (λ b. cond b (Some o) (at_number n heads)) (at_itself nat_cmp_total exact_unsigned n)))
    owned_by q w false e h = still_by w.number (tied.owned q w h)

    listed_here : at_place (d, n) after ≡ Some ps
    listed_here = due_gives (d, n) ∙ ap (λ b. cond b (Some ps) (at_place (d, n) dues)) (at_itself place_total place_exact (d, n))

    due_by : (q : Place) (w : Owed) (b : Bool) → lists q ps ≡ b → cond b (Some v) (at_place q pending) ≡ Some w → IsListed q (at_place (w.deadline, w.number) after)
    due_by q w true e h = let same : v ≡ w = cc in (ps, (λ i. at_place ((sym same i).deadline, (sym same i).number) after) ∙ listed_here, e)
    due_by q w false e h =
        let there = tied.due q w h in (
          there.0,
          due_gives (w.deadline, w.number)
              ∙ ap (λ b. cond b (Some ps) (at_place (w.deadline, w.number) dues)) (apart place_total place_exact (d, n) (w.deadline, w.number) (λ same. no_head w.number (ap (λ (z : Place). z.1) same) (tied.owned q w h)))
              ∙ there.1,
          there.2,
        )

    not_new : (k : Place) (b : Bool) → lists k ps ≡ b → IsSome (at_place k pending) → b ≡ false
    not_new k true e some = absurd (true≢false (sym some ∙ ap is_some (none_listed pending v ps k absent e)))
    not_new k false e some = refl

    first_listed : (qs : List Place) → 0 < length qs → (k : Place) × (lists k qs ≡ true)
    first_listed [] l = absurd (omega (arith, l))
    first_listed (q ∷ qs) l = (q, ap (λ b. b || lists q qs) (at_itself place_total place_exact q))

    entry_by : (q : Place) (qs : List Place) (b : Bool) → is_at (place_cmp (d, n)) q ≡ b → cond b (Some ps) (at_place q dues) ≡ Some qs → (k : Place) × (at_place k places ≡ Some (record { number = q.1; deadline = q.0 }))
    entry_by q qs true e h =
        let same : (d, n) ≡ q = same_key place_total place_exact (d, n) q e in
        let k = first_listed ps some in
        (k.0, gives k.0 ∙ ap (λ b. cond b (Some v) (at_place k.0 pending)) k.1 ∙ (λ i. Some (record { number = (same i).1; deadline = (same i).0 })))
    entry_by q qs false e h =
        let there = tied.entry q qs h in
        (there.0, gives there.0 ∙ ap (λ b. cond b (Some v) (at_place there.0 pending)) (not_new there.0 _ refl (ap is_some there.1)) ∙ there.1)

    even_by : (q p : Place) (w x : Owed) (b c : Bool) → cond b (Some v) (at_place q pending) ≡ Some w → cond c (Some v) (at_place p pending) ≡ Some x → w.number ≡ x.number → w.deadline ≡ x.deadline
    even_by q p w x true true h g number = let one : v ≡ w = cc in let two : v ≡ x = cc in ap (λ (z : Owed). z.deadline) (sym one ∙ two)
    even_by q p w x true false h g number = let same : v ≡ w = cc in absurd (no_head x.number (ap (λ (z : Owed). z.number) same ∙ number) (tied.owned p x g))
    even_by q p w x false true h g number = let same : v ≡ x = cc in absurd (no_head w.number (ap (λ (z : Owed). z.number) same ∙ sym number) (tied.owned q w h))
    even_by q p w x false false h g number = tied.even q p w x h g number

    single_by : (q p : Place) (w x : Owed) (b c : Bool) → lists q ps ≡ b → lists p ps ≡ c → cond b (Some v) (at_place q pending) ≡ Some w → cond c (Some v) (at_place p pending) ≡ Some x → w.number ≡ x.number → q.0 ≡ p.0 → q.1 ≡ p.1
    single_by q p w x true true e f h g number face = one_place q p ps distinct e f face
    single_by q p w x true false e f h g number face = let same : v ≡ w = cc in absurd (no_head x.number (ap (λ (z : Owed). z.number) same ∙ number) (tied.owned p x g))
    single_by q p w x false true e f h g number face = let same : v ≡ x = cc in absurd (no_head w.number (ap (λ (z : Owed). z.number) same ∙ sym number) (tied.owned q w h))
    single_by q p w x false false e f h g number face = tied.single q p w x h g number face

    fits_by : (q : Place) (w : Owed) (b : Bool) → lists q ps ≡ b → cond b (Some v) (at_place q pending) ≡ Some w → (q.0 < 2 ^ 32) × (q.1 < 2 ^ 32)
    fits_by q w true e h = each_listed (λ (p : Place). (p.0 < 2 ^ 32) × (p.1 < 2 ^ 32)) ps fit q e
    fits_by q w false e h = tied.fits q w h

    pub tied_entered : IsTied opened places after replies
    tied_entered = record {
      numbers = sorted_in nat_cmp_total heads n o tied.numbers;
      places = sorted_filled pending ps v tied.places;
      due_order = sorted_in place_total dues (d, n) ps tied.due_order;
      flights = tied.flights;
      counted = λ m x h. counted_by m x _ refl (sym (heads_give m) ∙ h);
      owned = λ q w h. owned_by q w _ refl (sym (gives q) ∙ h);
      flown = λ q m h. still_by m (tied.flown q m h);
      due = λ q w h. due_by q w _ refl (sym (gives q) ∙ h);
      entry = λ q qs h. entry_by q qs _ refl (sym (due_gives q) ∙ h);
      even = λ q p w x h g. even_by q p w x _ _ (sym (gives q) ∙ h) (sym (gives p) ∙ g);
      single = λ q p w x h g. single_by q p w x _ _ refl refl (sym (gives q) ∙ h) (sym (gives p) ∙ g);
      fits = λ q w h. fits_by q w _ refl (sym (gives q) ∙ h);
    }

    above_by : (m : ℕ) (x : Open) (b : Bool) → is_at (nat_cmp n) m ≡ b → cond b (Some o) (at_number m heads) ≡ Some x → m < n + 1
    above_by m x true e h = let same : n ≡ m = same_key nat_cmp_total exact_unsigned n m e in omega (arith, same)
    above_by m x false e h = let l = below.numbers m x h in omega (arith, l)

    pub below_entered : IsBelow opened replies (n + 1) next
    below_entered = record { numbers = λ m x h. above_by m x _ refl (sym (heads_give m) ∙ h); flights = below.flights }
