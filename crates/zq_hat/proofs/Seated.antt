-- The seats are those of the faces, through each change.
use Rattle.std.proofs.Common.{◌≡◌, ◌≤◌, ◌<◌, ℕ, Bool, true, false, cond, List, [], ◌∷◌, refl, ap, ◌∙◌, sym, subst, arith, Some, None, Option, eqb, true≢false}
use Rattle.std.specs.Prelude.{◌||◌, find}
use Rattle.std.specs.Option.{is_some, option_and_then, option_map, option_map_or}
use Rattle.std.proofs.Common.{Result, Ok, Err, OnOk, OnErr}
use Rattle.std.specs.List.{AllByRecursion}
use Rattle.std.specs.List.Sorted.{IsStrictlySortedBy}
use Rattle.std.specs.Set.{remove_key}
use Rattle.std.specs.Map.{keys_of, remove_entry, set_value}
use Rattle.std.specs.BTreeMap.{insert_entry, is_at}
use Rattle.std.specs.BTreeSet.{insert_key}
use Rattle.std.specs.Cmp.{nat_cmp_total}
use Rattle.std.specs.Ordering.{is_eq, nat_cmp, ordering_then}
use Rattle.std.specs.declared.cmp.Ordering.{Ordering}
use Rattle.std.specs.declared.cmp.Ordering.TheVariants.{Less, Equal, Greater}
use Rattle.std.proofs.lemmas.Bool.{false≢true}
use Rattle.std.proofs.lemmas.Map.Keys.{sorted_head, sorted_tail}
use Rattle.std.proofs.lemmas.Map.Lookups.{exact_unsigned}
use Rattle.zq_message.specs.declared.message.Zid.{Zid}
use Rattle.zq_key.proofs.Lookups.{at_itself, either_way, found_after_insertion, found_after_removal, found_after_write, none_above, same_key}
use Rattle.zq_key.proofs.Sorted.{has_put, sorted_put}
use Rattle.zq_strategy.specs.Nets.{is_zid}
use Rattle.zq_strategy.specs.Seating.{Seat, has_seat, seat_cmp, seated}
use Rattle.zq_strategy.proofs.Firsts.{IsFirst, one_first, seat_exact, seat_total, seated_first}
use Rattle.zq_strategy.proofs.Places.{number_test}
use Rattle.zq_strategy.proofs.Sets.{has_left, sorted_left}
use Rattle.zq_strategy.specs.declared.types.Strategy.{Strategy}
use Rattle.zq_strategy.specs.declared.types.Strategy.TheVariants as strategy
use Rattle.zq_strategy.specs.declared.types.Declaration.{Declaration}
use Rattle.zq_strategy.specs.declared.types.FinalMark.{FinalMark}
use Rattle.zq_strategy.specs.declared.types.FinalMark.TheVariants as mark
use Rattle.zq_strategy.specs.Kept.{at_id, declaration, withdraw}
use Rattle.zq_strategy.specs.Marks.{marked}
use Rattle.zq_strategy.specs.Regions.{in_routers}
use Rattle.zq_strategy.specs.Routers.{face_with, has_zid}
use Rattle.zq_strategy.specs.State.{FaceState}
use Rattle.zq_hat.specs.Tied.{IsSeated, sits}

none_sorted : IsStrictlySortedBy seat_cmp []
unfolding IsStrictlySortedBy
none_sorted = tt

pub nothing_seated : (k : Strategy) → IsSeated k [] []
nothing_seated strategy.Broker = record { order = none_sorted; same = λ q. refl }
nothing_seated strategy.Client = record { order = none_sorted; same = λ q. refl }
nothing_seated strategy.Peer = record { order = none_sorted; same = λ q. refl }
nothing_seated strategy.Router = record { order = none_sorted; same = λ q. refl }

-- ---- a face changes, but not its id
module _ (faces : List (ℕ × FaceState)) (n : ℕ) (f x : FaceState) (at : at_id n faces ≡ Some f) (same : x.zid ≡ f.zid) where
  sits_by : (q : Seat) (b : Bool) → is_at (nat_cmp n) q.1 ≡ b → option_map_or (λ (g : FaceState). is_zid (record { 0 = q.0 }) g.zid) (cond b (Some x) (at_id q.1 faces)) false ≡ sits faces q
  sits_by q true e =
      ap (λ z. is_zid (record { 0 = q.0 }) z) same
      ∙ ap (λ o. option_map_or (λ (g : FaceState). is_zid (record { 0 = q.0 }) g.zid) o false) (sym at ∙ ap (λ m. at_id m faces) (same_key nat_cmp_total exact_unsigned n q.1 e))
  sits_by q false e = refl

  sits_still : (q : Seat) → sits (set_value (is_at (nat_cmp n)) faces x) q ≡ sits faces q
  sits_still q =
      ap (λ o. option_map_or (λ (g : FaceState). is_zid (record { 0 = q.0 }) g.zid) o false) (found_after_write nat_cmp_total exact_unsigned n q.1 x faces (ap is_some at))
      ∙ sits_by q (is_at (nat_cmp n) q.1) refl

  pub changed_seated : (k : Strategy) (seats : List Seat) → IsSeated k faces seats → IsSeated k (set_value (is_at (nat_cmp n)) faces x) seats
  changed_seated k seats s = record { order = s.order; same = λ q. s.same q ∙ ap (λ b. in_routers k b false) (sym (sits_still q)) }

module _ (k : Strategy) (faces : List (ℕ × FaceState)) (seats : List Seat) (s : IsSeated k faces seats) (n : ℕ) (fs : List (ℕ × FaceState)) where
  module _ (g : FaceState → FaceState) (same : (f : FaceState) → (g f).zid ≡ f.zid) where
    set_by : (o : Option FaceState) → at_id n faces ≡ o → is_some o ≡ true → ((f : FaceState) → at_id n faces ≡ Some f → fs ≡ set_value (is_at (nat_cmp n)) faces (g f)) → IsSeated k fs seats
    set_by None is there says = absurd (true≢false (sym there))
    set_by (Some f) is there says = subst (λ l. IsSeated k l seats) (sym (says f is)) (changed_seated faces n f (g f) is (same f) k seats s)

    pub set_seated : is_some (at_id n faces) ≡ true → ((f : FaceState) → at_id n faces ≡ Some f → fs ≡ set_value (is_at (nat_cmp n)) faces (g f)) → IsSeated k fs seats
    set_seated there says = set_by (at_id n faces) refl there says

    pub tried_seated : {X E : Type 0} (r : Result X E) → is_some (at_id n faces) ≡ true → OnOk r ((f : FaceState) → at_id n faces ≡ Some f → fs ≡ set_value (is_at (nat_cmp n)) faces (g f)) → OnErr r (fs ≡ faces) → IsSeated k fs seats
    tried_seated (Ok v) there ok err = set_seated there ok
    tried_seated (Err e) there ok err = subst (λ l. IsSeated k l seats) (sym err) s

  there_by : (key : List ℕ) (i : ℕ) (o : Option FaceState) → option_map (λ (d : Declaration). d.key) (option_and_then (declaration i) o) ≡ Some key → is_some o ≡ true
  there_by key i None stands = absurd (let gap : None ≡ Some key = stands in cc)
  there_by key i (Some f) stands = refl

  pub withdrawn_seated : (key : List ℕ) (i : ℕ) → option_map (λ (d : Declaration). d.key) (option_and_then (declaration i) (at_id n faces)) ≡ Some key
      → ((f : FaceState) → at_id n faces ≡ Some f → fs ≡ set_value (is_at (nat_cmp n)) faces (withdraw i f)) → IsSeated k fs seats
  withdrawn_seated key i stands says = set_seated (withdraw i) (λ f. refl) (there_by key i (at_id n faces) stands) says

pub none_there : {X : Type 0} (o : Option X) → is_some o ≡ false → o ≡ None
none_there None e = refl
none_there (Some x) e = absurd (true≢false e)

pub marked_zid : (m : FinalMark) (set : Bool) (f : FaceState) → (marked m set f).zid ≡ f.zid
marked_zid mark.Initial set f = refl
marked_zid (mark.Key key) true f = refl
marked_zid (mark.Key key) false f = refl

-- ---- a seat is taken and given back
number_equal : (n m : ℕ) → n ≡ m → is_at (nat_cmp n) m ≡ true
number_equal n m e = sym (ap (is_at (nat_cmp n)) e) ∙ at_itself nat_cmp_total exact_unsigned n

seat_test : (q : Seat) (z n : ℕ) → n ≡ q.1 → is_at (seat_cmp q) (z, n) ≡ eqb q.0 z
seat_test q z n e = by (nat_cmp q.0 z) (nat_cmp q.1 n) (number_equal q.1 n (sym e)) ∙ number_test q.0 z
  where
    by : (r o : Ordering) → is_eq o ≡ true → is_eq (ordering_then r o) ≡ is_eq r
    by Less o h = refl
    by Equal o h = h
    by Greater o h = refl

seat_other : (q : Seat) (z n : ℕ) → is_at (nat_cmp n) q.1 ≡ false → is_at (seat_cmp q) (z, n) ≡ false
seat_other q z n apart = by (is_at (seat_cmp q) (z, n)) refl
  where
    by : (b : Bool) → is_at (seat_cmp q) (z, n) ≡ b → b ≡ false
    by false e = refl
    by true e = absurd (true≢false (sym (number_equal n q.1 (sym (ap (λ (s : Seat). s.1) (same_key seat_total seat_exact q (z, n) e)))) ∙ apart))

or_false : (b : Bool) → (b || false) ≡ b
or_false true = refl
or_false false = refl

out_false : (c b : Bool) → b ≡ false → cond c false b ≡ false
out_false true b e = refl
out_false false b e = e

abbrev sits_at : Seat → Option FaceState → Bool
sits_at q o = option_map_or (λ (f : FaceState). is_zid (record { 0 = q.0 }) f.zid) o false

-- where there are no seats, none is left
module _ (faces : List (ℕ × FaceState)) (seats : List Seat) (n z : ℕ) (order : IsStrictlySortedBy seat_cmp seats) (same : (q : Seat) → has_seat q seats ≡ false) where
  none_left : (q : Seat) → has_seat q (remove_key (is_at (seat_cmp (z, n))) seats) ≡ false
  none_left q = has_left seat_total seat_exact (z, n) q seats order ∙ out_false (is_at (seat_cmp (z, n)) q) (has_seat q seats) (same q)

  pub order_left : IsStrictlySortedBy seat_cmp (remove_key (is_at (seat_cmp (z, n))) seats)
  order_left = sorted_left seat_cmp (is_at (seat_cmp (z, n))) seats order

module _ (faces : List (ℕ × FaceState)) (seats : List Seat) (n : ℕ) where
  absent : (q : Seat) → at_id n faces ≡ None → is_at (nat_cmp n) q.1 ≡ true → sits faces q ≡ false
  absent q none e = ap (sits_at q) (ap (λ m. at_id m faces) (sym (same_key nat_cmp_total exact_unsigned n q.1 e)) ∙ none)

  module _ (none : at_id n faces ≡ None) where
    taken_by : (f : FaceState) (q : Seat) (b : Bool) → is_at (nat_cmp n) q.1 ≡ b → (is_at (seat_cmp q) (f.zid.0, n) || sits faces q) ≡ sits_at q (cond b (Some f) (at_id q.1 faces))
    taken_by f q true e = (λ i. seat_test q f.zid.0 n (same_key nat_cmp_total exact_unsigned n q.1 e) i || absent q none e i) ∙ or_false (eqb q.0 f.zid.0)
    taken_by f q false e = ap (λ b. b || sits faces q) (seat_other q f.zid.0 n e)

    pub opened_seated : (f : FaceState) (k : Strategy) → IsSeated k faces seats → IsSeated k (insert_entry nat_cmp faces n f) (in_routers k (insert_key seat_cmp seats (f.zid.0, n)) seats)
    opened_seated f strategy.Broker s = record { order = s.order; same = s.same }
    opened_seated f strategy.Client s = record { order = s.order; same = s.same }
    opened_seated f strategy.Peer s = record { order = s.order; same = s.same }
    opened_seated f strategy.Router s = record {
      order = sorted_put seat_total seats (f.zid.0, n) s.order;
      same = λ q.
          has_put seat_total seat_exact q (f.zid.0, n) seats
          ∙ ap (λ b. is_at (seat_cmp q) (f.zid.0, n) || b) (s.same q)
          ∙ taken_by f q (is_at (nat_cmp n) q.1) refl
          ∙ ap (sits_at q) (sym (found_after_insertion nat_cmp_total exact_unsigned n q.1 f faces));
    }

    undone_by : (z : ℕ) (q : Seat) (b c : Bool) → is_at (seat_cmp (z, n)) q ≡ b → c ≡ sits faces q → cond b false (is_at (seat_cmp q) (z, n) || c) ≡ sits faces q
    undone_by z q true c e is = sym (absent q none (number_equal n q.1 (ap (λ (s : Seat). s.1) (same_key seat_total seat_exact (z, n) q e))))
    undone_by z q false c e is = ap (λ b. b || c) (either_way seat_total seat_exact q (z, n) ∙ e) ∙ is

    pub undone_seated : (z : ℕ) (k : Strategy) → IsSeated k faces seats → IsSeated k faces (remove_key (is_at (seat_cmp (z, n))) (in_routers k (insert_key seat_cmp seats (z, n)) seats))
    undone_seated z strategy.Broker s = record { order = order_left faces seats n z s.order s.same; same = none_left faces seats n z s.order s.same }
    undone_seated z strategy.Client s = record { order = order_left faces seats n z s.order s.same; same = none_left faces seats n z s.order s.same }
    undone_seated z strategy.Peer s = record { order = order_left faces seats n z s.order s.same; same = none_left faces seats n z s.order s.same }
    undone_seated z strategy.Router s =
        let taken = sorted_put seat_total seats (z, n) s.order in
        record {
          order = sorted_left seat_cmp (is_at (seat_cmp (z, n))) (insert_key seat_cmp seats (z, n)) taken;
          same = λ q.
              has_left seat_total seat_exact (z, n) q (insert_key seat_cmp seats (z, n)) taken
              ∙ ap (cond (is_at (seat_cmp (z, n)) q) false) (has_put seat_total seat_exact q (z, n) seats)
              ∙ undone_by z q (is_at (seat_cmp (z, n)) q) (has_seat q seats) refl (s.same q);
        }

  module _ (f : FaceState) (at : at_id n faces ≡ Some f) (sorted : IsStrictlySortedBy nat_cmp (keys_of faces)) where
    gone_by : (q : Seat) (b c : Bool) → is_at (seat_cmp (f.zid.0, n)) q ≡ b → is_at (nat_cmp n) q.1 ≡ c → cond b false (sits faces q) ≡ sits_at q (cond c None (at_id q.1 faces))
    gone_by q true true e h = refl
    gone_by q true false e h = absurd (true≢false (sym (number_equal n q.1 (ap (λ (s : Seat). s.1) (same_key seat_total seat_exact (f.zid.0, n) q e))) ∙ h))
    gone_by q false true e h =
        let here = same_key nat_cmp_total exact_unsigned n q.1 h in
        ap (sits_at q) (ap (λ m. at_id m faces) (sym here) ∙ at)
        ∙ sym (seat_test q f.zid.0 n here)
        ∙ either_way seat_total seat_exact q (f.zid.0, n)
        ∙ e
    gone_by q false false e h = refl

    pub closed_seated : (k : Strategy) → IsSeated k faces seats → IsSeated k (remove_entry (is_at (nat_cmp n)) faces) (remove_key (is_at (seat_cmp (f.zid.0, n))) seats)
    closed_seated strategy.Broker s = record { order = order_left faces seats n f.zid.0 s.order s.same; same = none_left faces seats n f.zid.0 s.order s.same }
    closed_seated strategy.Client s = record { order = order_left faces seats n f.zid.0 s.order s.same; same = none_left faces seats n f.zid.0 s.order s.same }
    closed_seated strategy.Peer s = record { order = order_left faces seats n f.zid.0 s.order s.same; same = none_left faces seats n f.zid.0 s.order s.same }
    closed_seated strategy.Router s = record {
      order = sorted_left seat_cmp (is_at (seat_cmp (f.zid.0, n))) seats s.order;
      same = λ q.
          has_left seat_total seat_exact (f.zid.0, n) q seats s.order
          ∙ ap (cond (is_at (seat_cmp (f.zid.0, n)) q) false) (s.same q)
          ∙ gone_by q (is_at (seat_cmp (f.zid.0, n)) q) (is_at (nat_cmp n) q.1) refl refl
          ∙ ap (sits_at q) (sym (found_after_removal nat_cmp_total exact_unsigned n q.1 faces sorted));
    }

-- ---- the face of an id's first seat is that of least number
module _ (zid : Zid) where
  abbrev belongs : List (ℕ × FaceState) → ℕ → Bool
  belongs faces n = sits faces (zid.0, n)

  later_by : (k m : ℕ) (g : ℕ × FaceState) (gs : List (ℕ × FaceState)) (b : Bool) → is_at (nat_cmp m) g.0 ≡ b → nat_cmp k g.0 ≡ Less → sits_at (zid.0, m) (cond b (Some g.1) (at_id m gs)) ≡ true → (sits_at (zid.0, m) (at_id m gs) ≡ true → k ≤ m) → k ≤ m
  later_by k m g gs true e less has rest = let same = same_key nat_cmp_total exact_unsigned m g.0 e in let up : k < g.0 = grind arith in omega (arith, same, up)
  later_by k m g gs false e less has rest = rest has

  later : (k m : ℕ) (gs : List (ℕ × FaceState)) → AllByRecursion (λ j. nat_cmp k j ≡ Less) (keys_of gs) → sits_at (zid.0, m) (at_id m gs) ≡ true → k ≤ m
  later k m [] all has = absurd (false≢true has)
  later k m (g ∷ gs) all has = later_by k m g gs (is_at (nat_cmp m) g.0) refl all.0 has (λ h. later k m gs all.1 h)

  least_by : (f : ℕ × FaceState) (fs : List (ℕ × FaceState)) (m : ℕ) (b : Bool) → is_at (nat_cmp m) f.0 ≡ b → AllByRecursion (λ j. nat_cmp f.0 j ≡ Less) (keys_of fs) → sits_at (zid.0, m) (cond b (Some f.1) (at_id m fs)) ≡ true → f.0 ≤ m
  least_by f fs m true e all has = let same = same_key nat_cmp_total exact_unsigned m f.0 e in omega (arith, same)
  least_by f fs m false e all has = later f.0 m fs all has

  other_by : (f : ℕ × FaceState) (fs : List (ℕ × FaceState)) (m : ℕ) (b : Bool) → is_at (nat_cmp m) f.0 ≡ b → has_zid zid f ≡ false → AllByRecursion (λ j. nat_cmp f.0 j ≡ Less) (keys_of fs) → belongs fs m ≡ sits_at (zid.0, m) (cond b (Some f.1) (at_id m fs))
  other_by f fs m true e apart all =
      ap (sits_at (zid.0, m)) (ap (λ j. at_id j fs) (same_key nat_cmp_total exact_unsigned m f.0 e) ∙ none_above nat_cmp_total exact_unsigned f.0 fs all) ∙ sym apart
  other_by f fs m false e apart all = refl

  first_by : (f : ℕ × FaceState) (fs : List (ℕ × FaceState)) (b : Bool) → has_zid zid f ≡ b → AllByRecursion (λ j. nat_cmp f.0 j ≡ Less) (keys_of fs) → IsFirst (belongs fs) (face_with zid fs) → IsFirst (belongs (f ∷ fs)) (option_map (λ (g : ℕ × FaceState). g.0) (cond b (Some f) (find (has_zid zid) fs)))
  first_by f fs true is all ih =
      (ap (λ b. sits_at (zid.0, f.0) (cond b (Some f.1) (at_id f.0 fs))) (at_itself nat_cmp_total exact_unsigned f.0) ∙ is, λ m has. least_by f fs m (is_at (nat_cmp m) f.0) refl all has)
  first_by f fs false is all ih = subst (λ (t : ℕ → Bool). IsFirst t (face_with zid fs)) (λ i m. other_by f fs m (is_at (nat_cmp m) f.0) refl is all i) ih

  face_first : (faces : List (ℕ × FaceState)) → IsStrictlySortedBy nat_cmp (keys_of faces) → IsFirst (belongs faces) (face_with zid faces)
  face_first [] sorted = λ n. refl
  face_first (f ∷ fs) sorted = first_by f fs (has_zid zid f) refl (sorted_head nat_cmp f.0 (keys_of fs) sorted) (face_first fs (sorted_tail nat_cmp f.0 (keys_of fs) sorted))

  pub seats_are : (faces : List (ℕ × FaceState)) (seats : List Seat) → IsStrictlySortedBy nat_cmp (keys_of faces) → IsSeated strategy.Router faces seats → seated zid seats ≡ face_with zid faces
  seats_are faces seats sorted s =
      let first = subst (λ (t : ℕ → Bool). IsFirst t (seated zid seats)) (λ i n. s.same (zid.0, n) i) (seated_first zid seats s.order) in
      one_first (belongs faces) (seated zid seats) (face_with zid faces) first (face_first faces sorted)
