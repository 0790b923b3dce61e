-- A mark keeps the index tied: a face declares what it declared.
use Rattle.std.proofs.Common.{◌≡◌, ◌∙◌, sym, ap, subst, refl, ℕ, Bool, true, false, true≢false, cond, List, Some, None, Option, Result, Ok, Err, OnOk, OnErr}
use Rattle.std.specs.Option.{is_some, option_map, option_and_then}
use Rattle.std.specs.Ordering.{nat_cmp}
use Rattle.std.specs.Cmp.{nat_cmp_total}
use Rattle.std.specs.List.Sorted.{IsStrictlySortedBy}
use Rattle.std.specs.Map.{keys_of, set_value}
use Rattle.std.specs.BTreeMap.{is_at}
use Rattle.std.proofs.lemmas.Map.Lookups.{exact_unsigned}
use Rattle.zq_strategy.specs.declared.types.Declaration.{Declaration}
use Rattle.zq_strategy.specs.declared.types.FinalMark.{FinalMark}
use Rattle.zq_strategy.specs.declared.types.FinalMark.TheVariants as mark
use Rattle.zq_strategy.specs.Kept.{at_id, declaration}
use Rattle.zq_strategy.specs.Marks.{marked}
use Rattle.zq_strategy.specs.declared.network.NodeIds.{NodeIds}
use Rattle.zq_strategy.specs.State.{FaceState}
use Rattle.zq_index.specs.Holders.{Index, Place}
use Rattle.zq_hat.specs.Tied.{info_on, declared_at, AreOrdered, IsTied}
use Rattle.zq_key.proofs.Lookups.{same_key, found_after_write}
use Rattle.zq_key.proofs.Sorted.{sorted_write}

same_declared : (m : FinalMark) (set : Bool) (f : FaceState) → (marked m set f).declared ≡ f.declared
same_declared mark.Initial set f = refl
same_declared (mark.Key key) true f = refl
same_declared (mark.Key key) false f = refl

abbrev listed : Option FaceState → Option (List (ℕ × Declaration))
listed o = option_map (λ f. f.declared) o

module _ (faces : List (ℕ × FaceState)) (index : Index) (t : IsTied faces index) (n : ℕ) (f x : FaceState) (at : at_id n faces ≡ Some f) (same : x.declared ≡ f.declared) where
  abbrev faces' : List (ℕ × FaceState)
  faces' = set_value (is_at (nat_cmp n)) faces x

  listed_by : (m : ℕ) (b : Bool) → is_at (nat_cmp n) m ≡ b → listed (cond b (Some x) (at_id m faces)) ≡ listed (at_id m faces)
  listed_by m true e = ap Some same ∙ sym (ap listed (ap (λ k. at_id k faces) (sym (same_key nat_cmp_total exact_unsigned n m e)) ∙ at))
  listed_by m false e = refl

  listed_same : (m : ℕ) → listed (at_id m faces') ≡ listed (at_id m faces)
  listed_same m = ap listed (found_after_write nat_cmp_total exact_unsigned n m x faces (ap is_some at)) ∙ listed_by m (is_at (nat_cmp n) m) refl

  ordered_by : (m : ℕ) (g : FaceState) (o : Option FaceState) → at_id m faces ≡ o → listed (Some g) ≡ listed o → IsStrictlySortedBy nat_cmp (keys_of g.declared)
  ordered_by m g None is e = absurd (let gap : Some g.declared ≡ None = e in cc)
  ordered_by m g (Some h) is e =
      let eq : h.declared ≡ g.declared = let both : Some g.declared ≡ Some h.declared = e in cc in
      subst (λ ds. IsStrictlySortedBy nat_cmp (keys_of ds)) eq (t.ids m h is)

  ordered : AreOrdered faces'
  ordered m g is = ordered_by m g (at_id m faces) refl (ap listed (sym is) ∙ listed_same m)

  read_by : (key : List ℕ) (i : ℕ) (o : Option FaceState) → option_and_then (λ g. option_and_then (info_on key) (declaration i g)) o ≡ option_and_then (λ ds. option_and_then (info_on key) (at_id i ds)) (listed o)
  read_by key i None = refl
  read_by key i (Some g) = refl

  declared_same : (key : List ℕ) (p : Place) → declared_at key p faces' ≡ declared_at key p faces
  declared_same key p =
      read_by key p.1 (at_id p.0 faces')
      ∙ ap (option_and_then (λ ds. option_and_then (info_on key) (at_id p.1 ds))) (listed_same p.0)
      ∙ sym (read_by key p.1 (at_id p.0 faces))

  kept : IsTied faces' index
  kept = record {
    numbers = sorted_write nat_cmp (is_at (nat_cmp n)) x faces t.numbers;
    ids = ordered;
    texts = t.texts;
    places = t.places;
    used = t.used;
    keys = t.keys;
    same = λ key p. t.same key p ∙ sym (declared_same key p);
  }

module _ (faces : List (ℕ × FaceState)) (index : Index) (t : IsTied faces index) (n : ℕ) (m : FinalMark) (set : Bool) (fs : List (ℕ × FaceState)) where
  marked_by : (o : Option FaceState) → at_id n faces ≡ o → is_some o ≡ true → ((f : FaceState) → at_id n faces ≡ Some f → fs ≡ set_value (is_at (nat_cmp n)) faces (marked m set f)) → IsTied fs index
  marked_by None is some says = absurd (true≢false (sym some))
  marked_by (Some f) is some says = subst (λ l. IsTied l index) (sym (says f is)) (kept faces index t n f (marked m set f) is (same_declared m set f))

  pub mark_tied : {X E : Type 0} (r : Result X E) → is_some (at_id n faces) ≡ true → OnOk r ((f : FaceState) → at_id n faces ≡ Some f → fs ≡ set_value (is_at (nat_cmp n)) faces (marked m set f)) → OnErr r (fs ≡ faces) → IsTied fs index
  mark_tied (Ok v) some ok err = marked_by (at_id n faces) refl some ok
  mark_tied (Err e) some ok err = subst (λ l. IsTied l index) (sym err) t

-- a node table leaves the index as it was
module _ (faces : List (ℕ × FaceState)) (index : Index) (t : IsTied faces index) (n : ℕ) (ids : NodeIds) (fs : List (ℕ × FaceState)) where
  noded_by : (o : Option FaceState) → at_id n faces ≡ o → is_some o ≡ true → ((f : FaceState) → at_id n faces ≡ Some f → fs ≡ set_value (is_at (nat_cmp n)) faces (record f { nodes = ids })) → IsTied fs index
  noded_by None is some says = absurd (true≢false (sym some))
  noded_by (Some f) is some says = subst (λ l. IsTied l index) (sym (says f is)) (kept faces index t n f (record f { nodes = ids }) is refl)

  pub noded_tied : is_some (at_id n faces) ≡ true → ((f : FaceState) → at_id n faces ≡ Some f → fs ≡ set_value (is_at (nat_cmp n)) faces (record f { nodes = ids })) → IsTied fs index
  noded_tied some says = noded_by (at_id n faces) refl some says
