-- What a call looks at over all faces, and what it looks at in a face that it opens.
use Rattle.std.proofs.Common.{◌≡◌, ◌∙◌, refl, sym, ap, subst, ℕ, Bool, true, false, cond, not, List, [], ◌∷◌, ◌++◌, filter, Option, Some, None}
use Rattle.std.specs.BTreeMap.{is_at}
use Rattle.std.specs.List.{AllByRecursion, flat_map}
use Rattle.std.specs.List.Sorted.{IsStrictlySortedBy}
use Rattle.std.specs.Map.{keys_of, remove_entry}
use Rattle.std.specs.Ordering.{nat_cmp}
use Rattle.std.specs.Cmp.{nat_cmp_total}
use Rattle.std.proofs.lemmas.Map.Lookups.{exact_unsigned}
use Rattle.zq_message.specs.declared.message.FaceId.{FaceId}
use Rattle.zq_key.proofs.Lookups.{each_entry}
use Rattle.zq_key.proofs.Sorted.{sorted_out}
use Rattle.zq_strategy.specs.State.{HatState}
use Rattle.zq_query.proofs.Counts.{removed_by_filter}
use Rattle.zq_told.specs.declared.types.FaceUpdate.{FaceUpdate}
use Rattle.zq_interests.specs.Interests.{Interests}
use Rattle.zq_machine.specs.declared.face.OpenFace.{OpenFace}
use Rattle.zq_machine.specs.Due.{widened}
use Rattle.zq_machine.specs.Neighbours.{dues_on, looked_over, with_dues}
use Rattle.zq_machine.specs.State.{Core, at}
use Rattle.zq_machine.proofs.Changing.{number_test}
use Rattle.zq_dispatcher.specs.declared.types.RegionChange.{RegionChange}
use Rattle.zq_dispatcher.specs.Asking.{asking_in}
use Rattle.zq_dispatcher.specs.Dues.{IsAfter}
use Rattle.zq_dispatcher.specs.Over.{faces_but, is_gone, looked_as, looked_over_as}
use Rattle.zq_dispatcher.proofs.Heard.{is_heard, listed_is}

-- ---- all faces but the one that a closing takes away
module _ (f : ℕ × OpenFace → List FaceUpdate) where
  -- a face that stays gives what it gives, and the one that goes nothing
  abbrev pub if_stays : Option FaceId → ℕ × OpenFace → List FaceUpdate
  if_stays but o = cond (is_gone but o.0) [] (f o)

  stays_by : (g : FaceId) (e : ℕ × OpenFace) (es : List (ℕ × OpenFace)) (b : Bool) → is_at (nat_cmp g.0) e.0 ≡ b → flat_map (if_stays (Some g)) es ≡ flat_map f (filter (λ z. not (is_at (nat_cmp g.0) z.0)) es)
      → cond b [] (f e) ++ flat_map (if_stays (Some g)) es
      ≡ flat_map f (cond (not b) (e ∷ filter (λ z. not (is_at (nat_cmp g.0) z.0)) es) (filter (λ z. not (is_at (nat_cmp g.0) z.0)) es))
  stays_by g e es true is ih = ih
  stays_by g e es false is ih = ap (λ l. f e ++ l) ih

  staying : (g : FaceId) (es : List (ℕ × OpenFace)) → flat_map (if_stays (Some g)) es ≡ flat_map f (filter (λ z. not (is_at (nat_cmp g.0) z.0)) es)
  staying g [] = refl
  staying g (e ∷ es) =
      ap (λ b. cond b [] (f e) ++ flat_map (if_stays (Some g)) es) (sym (number_test g.0 e.0))
      ∙ stays_by g e es (is_at (nat_cmp g.0) e.0) refl (staying g es)

  pub over_staying : (but : Option FaceId) (es : List (ℕ × OpenFace)) → IsStrictlySortedBy nat_cmp (keys_of es) → flat_map (if_stays but) es ≡ flat_map f (faces_but but es)
  over_staying None es s = refl
  over_staying (Some g) es s = staying g es ∙ ap (flat_map f) (sym (removed_by_filter nat_cmp_total exact_unsigned g.0 es s))

but_sorted : (but : Option FaceId) (es : List (ℕ × OpenFace)) → IsStrictlySortedBy nat_cmp (keys_of es) → IsStrictlySortedBy nat_cmp (keys_of (faces_but but es))
but_sorted None es s = s
but_sorted (Some g) es s = sorted_out nat_cmp (is_at (nat_cmp g.0)) es s

-- ---- what is looked at over all faces
-- where there are no keys nothing is
pub no_keys_over : (c : Core) (ints : Interests) (keys : List (List ℕ)) → keys ≡ [] → [] ≡ looked_over c ints keys
no_keys_over c ints keys none = ap (looked_over c ints) (sym none)

-- where no face is open nothing is looked at
none_open : (but : Option FaceId) (es : List (ℕ × OpenFace)) → es ≡ [] → faces_but but es ≡ []
none_open None es none = none
none_open (Some g) es none = ap (remove_entry (is_at (nat_cmp g.0))) none

no_faces_by : (c : Core) (ints : Interests) (keys : List (List ℕ)) → c.faces ≡ [] → [] ≡ looked_over c ints keys
no_faces_by c ints [] none = refl
no_faces_by c ints (k ∷ ks) none = ap (flat_map (λ (o : ℕ × OpenFace). with_dues o.0 (dues_on c ints (widened o.0 ints (k ∷ ks)) o.0))) (sym none)

pub no_faces_over : (c : Core) (ints : Interests) (keys : List (List ℕ)) (but : Option FaceId) (es : List (ℕ × OpenFace)) → c.faces ≡ faces_but but es → es ≡ [] → [] ≡ looked_over c ints keys
no_faces_over c ints keys but es left none = no_faces_by c ints keys (left ∙ none_open but es none)

module _ (c : Core) (ints : Interests) (next : Option RegionChange) (hats : List (ℕ × HatState)) (k : List ℕ) (ks : List (List ℕ)) (is : IsAfter c next hats (k ∷ ks)) where
  one_looked : (e : ℕ × OpenFace) → at e.0 c.faces ≡ Some e.1 → looked_as ints next hats (k ∷ ks) e ≡ with_dues e.0 (dues_on c ints (widened e.0 ints (k ∷ ks)) e.0)
  one_looked e opened =
      ap (with_dues e.0)
      (listed_is c ints next hats (k ∷ ks) e.0 e.1 (is_heard c next hats (k ∷ ks) is e.0 e.1 opened k ks refl) (asking_in ints e.0) (λ key. refl) (λ key. refl) (widened e.0 ints (k ∷ ks)))

  each_looked : (es : List (ℕ × OpenFace)) → AllByRecursion (λ (o : ℕ × OpenFace). at o.0 c.faces ≡ Some o.1) es
      → looked_over_as ints next hats (k ∷ ks) es ≡ flat_map (λ (o : ℕ × OpenFace). with_dues o.0 (dues_on c ints (widened o.0 ints (k ∷ ks)) o.0)) es
  each_looked [] all = refl
  each_looked (e ∷ es) all = λ j. one_looked e all.0 j ++ each_looked es all.1 j

by_keys : (c : Core) (ints : Interests) (next : Option RegionChange) (hats : List (ℕ × HatState)) (keys : List (List ℕ)) (k : List ℕ) (ks : List (List ℕ)) → keys ≡ k ∷ ks → IsAfter c next hats keys
    → IsStrictlySortedBy nat_cmp (keys_of c.faces) → looked_over_as ints next hats keys c.faces ≡ looked_over c ints keys
by_keys c ints next hats [] k ks some is s = absurd (let gap : [] ≡ k ∷ ks = some in cc)
by_keys c ints next hats (q ∷ qs) k ks some is s = each_looked c ints next hats q qs is c.faces (each_entry nat_cmp_total exact_unsigned (λ (o : ℕ × OpenFace). at o.0 c.faces ≡ Some o.1) c.faces s (λ n v found. found))

pub looked_are : (c : Core) (ints : Interests) (next : Option RegionChange) (but : Option FaceId) (es : List (ℕ × OpenFace)) (hats : List (ℕ × HatState)) (keys : List (List ℕ)) (k : List ℕ) (ks : List (List ℕ)) → keys ≡ k ∷ ks
    → IsStrictlySortedBy nat_cmp (keys_of es) → c.faces ≡ faces_but but es → IsAfter c next hats keys → looked_over_as ints next hats keys (faces_but but es) ≡ looked_over c ints keys
looked_are c ints next but es hats keys k ks some s left is =
    let sorted : IsStrictlySortedBy nat_cmp (keys_of c.faces) = subst (λ (fs : List (ℕ × OpenFace)). IsStrictlySortedBy nat_cmp (keys_of fs)) (sym left) (but_sorted but es s) in
    ap (looked_over_as ints next hats keys) (sym left) ∙ by_keys c ints next hats keys k ks some is sorted
