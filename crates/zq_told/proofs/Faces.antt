-- Which faces are there, what is sound of each, and the last ids, over calls.
use Rattle.std.proofs.Common.{◌≡◌, ◌∙◌, refl, sym, ap, subst, ℕ, ◌<◌, ◌^◌, Bool, true, false, cond, List, [], ◌∷◌, ◌++◌, fold, Option, Some, None, true≢false, arith, eq-eqb}
use Rattle.std.specs.Prelude.{◌==◌, not, nat_lt}
use Rattle.std.specs.List.{AllByRecursion, list_any}
use Rattle.std.specs.List.Sorted.{IsStrictlySortedBy}
use Rattle.std.specs.Option.{is_some, option_map, option_map_or}
use Rattle.std.specs.Ordering.{is_eq, match_ordering, nat_cmp}
use Rattle.std.specs.declared.cmp.Ordering.{Ordering}
use Rattle.std.specs.declared.cmp.Ordering.TheVariants.{Less, Equal, Greater}
use Rattle.std.specs.Map.{keys_of, set_value}
use Rattle.std.specs.BTreeMap.{insert_entry, is_at}
use Rattle.std.proofs.lemmas.Cmp.{nat_cmp_total}
use Rattle.std.proofs.lemmas.Map.{keys-set_value}
use Rattle.std.proofs.lemmas.Map.Lookups.{exact_unsigned}
use Rattle.zq_key.proofs.Lookups.{found_after_write}
use Rattle.zq_key.proofs.Sorted.{sorted_in, sorted_out}
use Rattle.zq_message.specs.declared.message.QueryableInfoType.{QueryableInfoType}
use Rattle.zq_told.specs.declared.types.ToldEntry.{ToldEntry}
use Rattle.zq_told.specs.declared.types.Reason.{Reason}
use Rattle.zq_told.specs.declared.types.FaceUpdate.{FaceUpdate}
use Rattle.zq_told.specs.declared.types.FacePlan.{FacePlan}
use Rattle.zq_told.specs.declared.types.Planned.{Planned}
use Rattle.zq_told.specs.declared.plan.Account.{Account}
use Rattle.zq_told.specs.ToldSets.{ToldSet, ToldSets, at_face, closed, last_at}
use Rattle.zq_told.specs.Telling.{KeyDue, is_above, planned_ear, put_face, put_plan, tell_face, tell_faces, tell_keys, with_account}
use Rattle.zq_told.specs.Laws.{InOrder, aim_on, ear_after, keys_for, takes_id, told_info}
use Rattle.zq_told.specs.Leaving.{Closes, KeepsFaces, LessDue, Opens, StaySound, TellsAimed, fresh_ear, takes_ids}
use Rattle.zq_told.proofs.Entries.{found_put, found_taken, is_other, itself, one_number}
use Rattle.zq_told.proofs.Slotted.{none_sorted}
use Rattle.zq_told.proofs.Differing.{counted, looks_up}
use Rattle.zq_told.proofs.Calls.{not_same}
use Rattle.zq_told.proofs.Leaving.{enough, lacks_exactly, last_kept, neither, rows_sorted, told_aimed}

no_numbers : IsStrictlySortedBy nat_cmp []
unfolding IsStrictlySortedBy
no_numbers = tt

-- ---- two tests of numbers
same_test : (n m : ℕ) → is_at (nat_cmp n) m ≡ (n == m)
same_test n m = by (is_at (nat_cmp n) m) refl
  where
    by : (b : Bool) → is_at (nat_cmp n) m ≡ b → b ≡ (n == m)
    by true is = sym (eq-eqb n m (one_number n m is))
    by false is = sym (not_same n m (is_other n m is))

-- ---- a face comes
pub opens : Opens
opens = record {
  found = λ n m last ears. found_put n m (fresh_ear last) ears ∙ ap (λ b. cond b (Some (fresh_ear last)) (at_face m ears)) (same_test n m);
  tied = λ last. record {
    sorted = no_numbers;
    below = λ id x at. absurd (let gap : None ≡ Some x = at in cc);
    forth = λ key t is. absurd (let gap : None ≡ Some t = is in cc);
    back = λ id key i at. absurd (let gap : None ≡ Some (key, i) = at in cc);
  };
}

-- ---- a face goes
back_by : (n : ℕ) (x : ToldSet) (e : ℕ × ToldSet) (es : ToldSets) (r : Ordering) → nat_cmp n e.0 ≡ r → is_some (cond (is_eq r) (Some e.1) (at_face n es)) ≡ false
    → (is_some (at_face n es) ≡ false → closed n (insert_entry nat_cmp es n x) ≡ es)
    → closed n (match_ordering r ((n, x) ∷ e ∷ es) ((e.0, x) ∷ es) (e ∷ insert_entry nat_cmp es n x)) ≡ e ∷ es
back_by n x e es Less is none more = ap (λ b. cond b (e ∷ es) ((n, x) ∷ closed n (e ∷ es))) (itself n)
back_by n x e es Equal is none more = absurd (true≢false none)
back_by n x e es Greater is none more =
    ap (λ r. cond (is_eq r) (insert_entry nat_cmp es n x) (e ∷ closed n (insert_entry nat_cmp es n x))) is
    ∙ ap (λ l. e ∷ l) (more none)

back : (n : ℕ) (x : ToldSet) (es : ToldSets) → is_some (at_face n es) ≡ false → closed n (insert_entry nat_cmp es n x) ≡ es
back n x [] none = ap (λ b. cond b [] ((n, x) ∷ [])) (itself n)
back n x (e ∷ es) none = back_by n x e es (nat_cmp n e.0) refl none (λ h. back n x es h)

pub closes : Closes
closes = record {
  found = λ n m ears s. found_taken n m ears s ∙ ap (λ b. cond b None (at_face m ears)) (same_test n m);
  back = λ n last ears none. back n (fresh_ear last) ears none;
}

-- ---- the faces of a plan
keys_by : (ears : ToldSets) (p : FacePlan) (o : Option ToldSet) → keys_of (option_map_or (λ (e : ToldSet). set_value (is_at (nat_cmp p.face.0)) ears (planned_ear p e)) o ears) ≡ keys_of ears
keys_by ears p None = refl
keys_by ears p (Some e) = keys-set_value (is_at (nat_cmp p.face.0)) ears (planned_ear p e)

keys_put : (plan : List FacePlan) (ears : ToldSets) → keys_of (put_plan plan ears) ≡ keys_of ears
keys_put [] ears = refl
keys_put (p ∷ plan) ears = keys_put plan (put_face ears p) ∙ keys_by ears p (at_face p.face.0 ears)

pub keeps_faces : KeepsFaces
keeps_faces way ears dues = keys_put (tell_faces way ears dues).plan ears

-- ---- what holds of each face
abbrev Each : (ToldSet → Type 0) → ToldSets → Type 0
Each P ears = (n : ℕ) (e : ToldSet) → at_face n ears ≡ Some e → P e

module _ (P : ToldSet → Type 0) where
  each_by : (n m : ℕ) (x : ToldSet) (ears : ToldSets) (b : Bool) (e : ToldSet) → P x → Each P ears → cond b (Some x) (at_face m ears) ≡ Some e → P e
  each_by n m x ears true e px all h = subst P (let both : Some x ≡ Some e = h in let one : x ≡ e = cc in one) px
  each_by n m x ears false e px all h = all m e h

  each_put : (n : ℕ) (x : ToldSet) (ears : ToldSets) → P x → Each P ears → Each P (insert_entry nat_cmp ears n x)
  each_put n x ears px all m e at = each_by n m x ears (is_at (nat_cmp n) m) e px all (sym (found_put n m x ears) ∙ at)

  taken_by : (m : ℕ) (ears : ToldSets) (b : Bool) (e : ToldSet) → Each P ears → cond b None (at_face m ears) ≡ Some e → P e
  taken_by m ears true e all h = absurd (let gap : None ≡ Some e = h in cc)
  taken_by m ears false e all h = all m e h

  each_taken : (n : ℕ) (ears : ToldSets) → IsStrictlySortedBy nat_cmp (keys_of ears) → Each P ears → Each P (closed n ears)
  each_taken n ears s all m e at = taken_by m ears (is_at (nat_cmp n) m) e all (sym (found_taken n m ears s) ∙ at)

  module _ (step : (p : FacePlan) (e : ToldSet) → is_above p ≡ false → P e → P (planned_ear p e)) where
    planned_by : (ears : ToldSets) (p : FacePlan) (o : Option ToldSet) → at_face p.face.0 ears ≡ o → is_above p ≡ false → Each P ears → Each P (option_map_or (λ (e : ToldSet). set_value (is_at (nat_cmp p.face.0)) ears (planned_ear p e)) o ears)
    planned_by ears p None there low all = all
    planned_by ears p (Some x) there low all = λ m e at. each_by p.face.0 m (planned_ear p x) ears (is_at (nat_cmp p.face.0) m) e (step p x low (all p.face.0 x there)) all
        (sym (found_after_write nat_cmp_total exact_unsigned p.face.0 m (planned_ear p x) ears (ap is_some there)) ∙ at)

    each_planned : (plan : List FacePlan) (ears : ToldSets) → list_any is_above plan ≡ false → Each P ears → Each P (put_plan plan ears)
    each_planned [] ears low all = all
    each_planned (p ∷ plan) ears low all =
        let both = neither (is_above p) (list_any is_above plan) low in
        each_planned plan (put_face ears p) both.1 (planned_by ears p (at_face p.face.0 ears) refl both.0 all)

below_of : (n : ℕ) → not (nat_lt n (2 ^ 32)) ≡ false → n < 2 ^ 32
below_of n e = grind (arith, e)

abbrev IsOrdered : ToldSet → Type 0
IsOrdered e = InOrder e.told

abbrev HasId : ToldSet → Type 0
HasId e = e.last < 2 ^ 32

pub stay_sound : StaySound
stay_sound = record {
  first = record { faces = no_numbers; told = λ n e at. absurd (let gap : None ≡ Some e = at in cc); ids = λ n e at. absurd (let gap : None ≡ Some e = at in cc) };
  opens = λ n last ears low s. record {
    faces = sorted_in nat_cmp_total ears n (fresh_ear last) s.faces;
    told = each_put IsOrdered n (fresh_ear last) ears (none_sorted ToldEntry) s.told;
    ids = each_put HasId n (fresh_ear last) ears low s.ids;
  };
  closes = λ n ears s. record {
    faces = sorted_out nat_cmp (is_at (nat_cmp n)) ears s.faces;
    told = each_taken IsOrdered n ears s.faces s.told;
    ids = each_taken HasId n ears s.faces s.ids;
  };
  tells = λ way ears dues low s. record {
    faces = subst (λ ks. IsStrictlySortedBy nat_cmp ks) (sym (keeps_faces way ears dues)) s.faces;
    told = each_planned IsOrdered (λ p e below o. rows_sorted p.rows e.told o) (tell_faces way ears dues).plan ears low s.told;
    ids = each_planned HasId (λ p e below o. below_of p.last below) (tell_faces way ears dues).plan ears low s.ids;
  };
}

-- ---- last ids that stay
module _ (way : Reason) (ears : ToldSets) where
  abbrev IsStill : FacePlan → Type 0
  IsStill p = last_at p.face.0 ears ≡ Some p.last

  more_still : (ps qs : List FacePlan) → AllByRecursion IsStill ps → AllByRecursion IsStill qs → AllByRecursion IsStill (ps ++ qs)
  more_still [] qs a b = b
  more_still (p ∷ ps) qs a b = (a.0, more_still ps qs a.1 b)

  still_by : (p : Planned) (d : FaceUpdate) (o : Option ToldSet) → at_face d.face.0 ears ≡ o → option_map_or (λ (e : ToldSet). list_any (takes_id way e.told) d.keys) o false ≡ false → AllByRecursion IsStill p.plan
      → AllByRecursion IsStill (option_map_or (λ (e : ToldSet). with_account d.face.0 (tell_keys way d.face.0 e d.keys p.tellings) p) o p).plan
  still_by p d None there none all = all
  still_by p d (Some e) there none all =
      let start : Account = record { last = e.last; rows = []; tellings = p.tellings } in
      let a : Account = tell_keys way d.face.0 e d.keys p.tellings in
      let left : FacePlan = record { face = record { 0 = d.face.0 }; last = a.last; rows = a.rows } in
      let same : a.last ≡ e.last = counted way d.face.0 e.told d.keys start ∙ last_kept way ears e d.keys none in
      more_still p.plan (left ∷ []) all (ap (option_map (λ (x : ToldSet). x.last)) there ∙ ap (λ l. Some l) (sym same), tt)

  still_all : (ds : List FaceUpdate) (p : Planned) → list_any (takes_ids way ears) ds ≡ false → AllByRecursion IsStill p.plan → AllByRecursion IsStill (fold (tell_face way ears) p ds).plan
  still_all [] p none all = all
  still_all (d ∷ ds) p none all =
      let both = neither (takes_ids way ears d) (list_any (takes_ids way ears) ds) none in
      still_all ds (tell_face way ears p d) both.1 (still_by p d (at_face d.face.0 ears) refl both.0 all)

  abbrev Lasts : ToldSets → Type 0
  Lasts es = (n : ℕ) → last_at n es ≡ last_at n ears

  put_by : (p : FacePlan) (x : ToldSet) (es : ToldSets) (n : ℕ) (b : Bool) → is_at (nat_cmp p.face.0) n ≡ b → IsStill p → Lasts es → option_map (λ (e : ToldSet). e.last) (cond b (Some (planned_ear p x)) (at_face n es)) ≡ last_at n ears
  put_by p x es n true is still all = sym still ∙ ap (λ m. last_at m ears) (one_number p.face.0 n is)
  put_by p x es n false is still all = all n

  lasts_by : (p : FacePlan) (es : ToldSets) (o : Option ToldSet) → at_face p.face.0 es ≡ o → IsStill p → Lasts es → Lasts (option_map_or (λ (e : ToldSet). set_value (is_at (nat_cmp p.face.0)) es (planned_ear p e)) o es)
  lasts_by p es None there still all = all
  lasts_by p es (Some x) there still all = λ n.
      ap (option_map (λ (e : ToldSet). e.last)) (found_after_write nat_cmp_total exact_unsigned p.face.0 n (planned_ear p x) es (ap is_some there))
      ∙ put_by p x es n (is_at (nat_cmp p.face.0) n) refl still all

  lasts_all : (plan : List FacePlan) (es : ToldSets) → AllByRecursion IsStill plan → Lasts es → Lasts (put_plan plan es)
  lasts_all [] es still all = all
  lasts_all (p ∷ plan) es still all = lasts_all plan (put_face es p) still.1 (lasts_by p es (at_face p.face.0 es) refl still.0 all)

pub less_due : LessDue
less_due way ears dues none = (
  λ ids. lacks_exactly way ears dues ∙ enough way ears dues ids none,
  lasts_all way ears (tell_faces way ears dues).plan ears (still_all way ears dues (record { plan = []; tellings = [] }) none tt) (λ n. refl),
)

-- ---- what each face was told after a call
ordered_by : (n : ℕ) (d : FaceUpdate) (ds : List FaceUpdate) (keys : List KeyDue) (b : Bool) → InOrder d.keys → (keys_for n ds ≡ Some keys → InOrder keys) → cond b (Some d.keys) (keys_for n ds) ≡ Some keys → InOrder keys
ordered_by n d ds keys true o more h = subst InOrder (let both : Some d.keys ≡ Some keys = h in let one : d.keys ≡ keys = cc in one) o
ordered_by n d ds keys false o more h = more h

ordered_for : (n : ℕ) (ds : List FaceUpdate) (keys : List KeyDue) → AllByRecursion (λ (d : FaceUpdate). InOrder d.keys) ds → keys_for n ds ≡ Some keys → InOrder keys
ordered_for n [] keys all h = absurd (let gap : None ≡ Some keys = h in cc)
ordered_for n (d ∷ ds) keys all h = ordered_by n d ds keys (is_at (nat_cmp n) d.face.0) all.0 (λ g. ordered_for n ds keys all.1 g) h

module _ (way : Reason) (n : ℕ) (ear : ToldSet) (sorted : InOrder ear.told) (key : List ℕ) where
  abbrev info_in : Option ToldSet → Option (Option QueryableInfoType)
  info_in o = option_map (λ (e : ToldSet). told_info e key) o

  aimed_by : (ds : List FaceUpdate) (o : Option (List KeyDue)) → keys_for n ds ≡ o → AllByRecursion (λ (d : FaceUpdate). InOrder d.keys) ds
      → info_in (option_map_or (λ keys. option_map (λ (e : ToldSet). ear_after way n e keys) (Some ear)) o (Some ear)) ≡ Some (option_map_or (λ keys. aim_on way keys (told_info ear key) key) o (told_info ear key))
  aimed_by ds None is all = refl
  aimed_by ds (Some keys) is all = ap (λ i. Some i) (told_aimed way n ear keys sorted (ordered_for n ds keys all is) key)

  aimed_in : (ears : ToldSets) (ds : List FaceUpdate) → at_face n ears ≡ Some ear → AllByRecursion (λ (d : FaceUpdate). InOrder d.keys) ds
      → info_in (option_map_or (λ keys. option_map (λ (e : ToldSet). ear_after way n e keys) (at_face n ears)) (keys_for n ds) (at_face n ears)) ≡ Some (option_map_or (λ keys. aim_on way keys (told_info ear key) key) (keys_for n ds) (told_info ear key))
  aimed_in ears ds there all = ap (λ o. info_in (option_map_or (λ keys. option_map (λ (e : ToldSet). ear_after way n e keys) o) (keys_for n ds) o)) there ∙ aimed_by ds (keys_for n ds) refl all

pub tells_aimed : TellsAimed
tells_aimed way ears dues faces keys n ear there sorted key = ap (option_map (λ (e : ToldSet). told_info e key)) (looks_up way ears dues faces n) ∙ aimed_in way n ear sorted key ears dues there keys
