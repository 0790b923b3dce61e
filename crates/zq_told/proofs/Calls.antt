-- A whole call, to one face.
use Rattle.std.proofs.Common.{◌≡◌, ◌∙◌, refl, sym, ap, subst, ℕ, Bool, true, false, cond, List, [], ◌∷◌, ◌++◌, map, Option, Some, None, eq-eqb, eqb-true}
use Rattle.std.specs.Prelude.{◌==◌}
use Rattle.std.specs.List.{AllByRecursion, flat_map}
use Rattle.std.specs.List.Sorted.{IsStrictlySortedBy}
use Rattle.std.specs.Option.{option_map, option_map_or}
use Rattle.std.specs.Ordering.{nat_cmp}
use Rattle.std.specs.declared.cmp.Ordering.TheVariants.{Less}
use Rattle.std.specs.BTreeMap.{is_at}
use Rattle.std.proofs.lemmas.List.{append-nil}
use Rattle.std.proofs.lemmas.Map.Keys.{sorted_head, sorted_tail}
use Rattle.zq_strategy.specs.declared.network.Telling.{Telling}
use Rattle.zq_told.specs.declared.types.Reason.{Reason}
use Rattle.zq_told.specs.declared.types.FaceUpdate.{FaceUpdate}
use Rattle.zq_told.specs.ToldSets.{ToldSet, ToldSets, at_face}
use Rattle.zq_told.specs.Telling.{KeyDue}
use Rattle.zq_told.specs.Receiver.{Tied, heard_after, memory_of}
use Rattle.zq_told.specs.Laws.{CallKeepsUp, ear_after, keys_for, told_alone, told_in}
use Rattle.zq_told.proofs.Entries.{is_other, less_itself, one_number}
use Rattle.zq_told.proofs.Settling.{keeps_up}
use Rattle.zq_told.proofs.Differing.{looks_up, tells_each}

-- another number
pub not_same : (n m : ℕ) → (n ≡ m → ⊥) → (n == m) ≡ false
not_same n m ne = by (n == m) refl
  where
    by : (b : Bool) → (n == m) ≡ b → b ≡ false
    by true is = absurd (ne (eqb-true n m is))
    by false is = refl

module _ (way : Reason) (ears : ToldSets) (n : ℕ) where
  abbrev told_to : Option ToldSet → List KeyDue → List Telling
  told_to o keys = option_map_or (λ (e : ToldSet). told_in way n e keys) o []

  none_above : (ds : List FaceUpdate) → AllByRecursion (λ q. nat_cmp n q ≡ Less) (map (λ (d : FaceUpdate). d.face.0) ds) → flat_map (told_alone way ears n) ds ≡ []
  none_above [] above = refl
  none_above (d ∷ ds) above = (λ i. cond (not_same n d.face.0 (λ same. less_itself n (ap (nat_cmp n) same ∙ above.0)) i) (told_to (at_face n ears) d.keys) [] ++ none_above ds above.1 i)

  alone_by : (d : FaceUpdate) (ds : List FaceUpdate) (keys : List KeyDue) (b : Bool) → is_at (nat_cmp n) d.face.0 ≡ b → AllByRecursion (λ q. nat_cmp d.face.0 q ≡ Less) (map (λ (d : FaceUpdate). d.face.0) ds)
      → cond b (Some d.keys) (keys_for n ds) ≡ Some keys → (keys_for n ds ≡ Some keys → flat_map (told_alone way ears n) ds ≡ told_to (at_face n ears) keys)
      → told_alone way ears n d ++ flat_map (told_alone way ears n) ds ≡ told_to (at_face n ears) keys
  alone_by d ds keys true is above here more =
      let same : n ≡ d.face.0 = one_number n d.face.0 is in
      let one : d.keys ≡ keys = let both : Some d.keys ≡ Some keys = here in cc in
      let rest = none_above ds (subst (λ m. AllByRecursion (λ q. nat_cmp m q ≡ Less) (map (λ (d : FaceUpdate). d.face.0) ds)) (sym same) above) in
      (λ i. cond (eq-eqb n d.face.0 same i) (told_to (at_face n ears) d.keys) [] ++ rest i)
      ∙ append-nil (told_to (at_face n ears) d.keys)
      ∙ ap (told_to (at_face n ears)) one
  alone_by d ds keys false is above here more = (λ i. cond (not_same n d.face.0 (is_other n d.face.0 is) i) (told_to (at_face n ears) d.keys) [] ++ more here i)

  alone_is : (ds : List FaceUpdate) (keys : List KeyDue) → IsStrictlySortedBy nat_cmp (map (λ (d : FaceUpdate). d.face.0) ds) → keys_for n ds ≡ Some keys → flat_map (told_alone way ears n) ds ≡ told_to (at_face n ears) keys
  alone_is [] keys s h = absurd (let gap : None ≡ Some keys = h in cc)
  alone_is (d ∷ ds) keys s h =
      alone_by d ds keys (is_at (nat_cmp n) d.face.0) refl (sorted_head nat_cmp d.face.0 (map (λ (d : FaceUpdate). d.face.0) ds) s) h
      (λ g. alone_is ds keys (sorted_tail nat_cmp d.face.0 (map (λ (d : FaceUpdate). d.face.0) ds) s) g)

pub call_keeps_up : CallKeepsUp
call_keeps_up way ears dues s n ear keys there looked sorted ordered heard t =
    let words = tells_each way ears dues n ∙ alone_is way ears n dues keys s looked ∙ ap (λ (o : Option ToldSet). told_to way ears n o keys) there in
    let one = keeps_up way n ear keys heard sorted ordered t in (
      subst (λ ts. Tied (memory_of (ear_after way n ear keys)) (heard_after way keys heard ts)) (sym words) one,
      looks_up way ears dues s n
          ∙ ap (λ o. option_map_or (λ ks. option_map (λ (e : ToldSet). ear_after way n e ks) (at_face n ears)) o (at_face n ears)) looked
          ∙ ap (option_map (λ (e : ToldSet). ear_after way n e keys)) there,
    )
