-- A face that is opened hears by the hats before it joins its region what it hears afterwards: it has declared nothing.
use Rattle.std.proofs.Common.{◌≡◌, ◌∙◌, refl, sym, ap, ℕ, Bool, true, false, cond, eq-eqb, eqb-true, true≢false, List, [], ◌∷◌, ◌++◌, append-nil, fold, map, filter, Option, Some, None}
use Rattle.std.specs.Prelude.{◌==◌}
use Rattle.std.specs.BTreeMap.{insert_entry, is_at}
use Rattle.std.specs.BTreeSet.{insert_key}
use Rattle.std.specs.List.{filter_map, flat_map, list_any}
use Rattle.std.specs.Option.{is_some, option_and_then, option_map, option_map_or}
use Rattle.std.specs.Ordering.{is_eq, match_ordering, nat_cmp}
use Rattle.std.specs.declared.cmp.Ordering.{Ordering}
use Rattle.std.specs.declared.cmp.Ordering.TheVariants.{Less, Equal, Greater}
use Rattle.std.specs.Cmp.{nat_cmp_total}
use Rattle.std.proofs.lemmas.Map.Lookups.{exact_unsigned}
use Rattle.zq_message.specs.declared.message.QueryableInfoType.{QueryableInfoType}
use Rattle.zq_message.specs.declared.message.Region.{Region}
use Rattle.zq_key.proofs.Lookups.{found_after_insertion}
use Rattle.zq_message.specs.Region.{region_index}
use Rattle.zq_index.specs.Infos.{joined}
use Rattle.zq_index.specs.Texts.{text_cmp}
use Rattle.zq_index.proofs.Merges.{joined_none}
use Rattle.zq_strategy.specs.declared.types.FaceRecord.{FaceRecord}
use Rattle.zq_strategy.specs.declared.types.Strategy.{Strategy}
use Rattle.zq_strategy.specs.Fellows.{fellow_info, with_fellow}
use Rattle.zq_strategy.specs.Kept.{face_at, faces_info, has_face, new_face, region_info, routers_info, with_face as with_face_info, with_face_opened}
use Rattle.zq_strategy.specs.Regions.{in_routers, is_north, strategy_at}
use Rattle.zq_strategy.specs.State.{FaceState, HatState}
use Rattle.zq_told.specs.declared.types.FaceUpdate.{FaceUpdate}
use Rattle.zq_told.specs.Telling.{KeyDue}
use Rattle.zq_interests.specs.declared.types.InterestEntry.{InterestEntry}
use Rattle.zq_interests.specs.Interests.{Interests, interests_of, meets, own_key, own_keys, wants, wants_folded}
use Rattle.zq_machine.specs.declared.call.Opening.{Opening}
use Rattle.zq_machine.specs.declared.face.OpenFace.{OpenFace}
use Rattle.zq_machine.specs.Deciding.{opened, seat, with_face}
use Rattle.zq_machine.specs.Due.{due_keys, due_touched, heard, heard_as, heard_by, heard_in, is_met_by, listens_by, widened}
use Rattle.zq_machine.specs.Neighbours.{dues_on, looked_at, with_dues}
use Rattle.zq_machine.specs.State.{Core, at, change_hat, hat_at, joined as join, put_hat}
use Rattle.zq_machine.specs.TextCalls.{opening}
use Rattle.zq_machine.specs.Trees.{own_entry, with_other}
use Rattle.zq_machine.proofs.Changing.{hat_here, number_test, region_there}
use Rattle.zq_machine.proofs.Folding.{fold_put, fold_set}
use Rattle.zq_machine.proofs.Widening.{not_wider}
use Rattle.zq_dispatcher.specs.declared.asking.Asking.{Asking}
use Rattle.zq_dispatcher.specs.Dues.{all_keys, hears_as, listed_due, listens_as, row_as}
use Rattle.zq_dispatcher.specs.Over.{IsOpening}
use Rattle.zq_dispatcher.proofs.Heard.{IsHeard, heard_here, listed_is}

-- ---- a face that asks for nothing
abbrev pub nothing : List ℕ → Asking
nothing key = record { asks = false; folds = false }

module _ (face : ℕ) (o : OpenFace) (hats : List (ℕ × HatState)) where
  abbrev pub listing : List ℕ → List KeyDue
  listing = listed_due nothing None [] face o hats

  -- it listens on no key
  pub none_listening : listens_as false hats o ≡ false → (keys : List (List ℕ)) → flat_map listing keys ≡ []
  none_listening deaf [] = refl
  none_listening deaf (k ∷ ks) = ap (λ b. cond b (row_as nothing face o hats k ∷ []) [] ++ flat_map listing ks) deaf ∙ none_listening deaf ks

  -- or on each
  pub each_listening : listens_as false hats o ≡ true → (keys : List (List ℕ)) → map (row_as nothing face o hats) keys ≡ flat_map listing keys
  each_listening heard [] = refl
  each_listening heard (k ∷ ks) =
      ap (λ l. row_as nothing face o hats k ∷ l) (each_listening heard ks)
      ∙ ap (λ b. cond b (row_as nothing face o hats k ∷ []) [] ++ flat_map listing ks) (sym heard)

-- ---- a hat that a face joins
module _ (r : FaceRecord) where
  joined_strategy : (h : HatState) → strategy_at (join r h) ≡ strategy_at h
  joined_strategy h = by (has_face r.face.0 h)
    where
      by : (b : Bool) → strategy_at (cond b h (with_face_opened r h)) ≡ strategy_at h
      by true = refl
      by false = refl

  joined_region : (h : HatState) → (join r h).region ≡ h.region
  joined_region h = by (has_face r.face.0 h)
    where
      by : (b : Bool) → (cond b h (with_face_opened r h)).region ≡ h.region
      by true = refl
      by false = refl

  -- no face of its number is there
  absent : (h : HatState) → has_face r.face.0 h ≡ false → (f : FaceState) → face_at r.face.0 h ≡ Some f → ⊥
  absent h e f there = true≢false (sym (ap is_some there) ∙ e)

  idle_by : (b : Bool) (m : Option QueryableInfoType) → cond b m (joined m None) ≡ m
  idle_by true m = refl
  idle_by false m = joined_none m

  -- its faces declared what they declared
  joined_fellows : (face : ℕ) (key : List ℕ) (h : HatState) → fellow_info face key (join r h) ≡ fellow_info face key h
  joined_fellows face key h = by (has_face r.face.0 h) refl
    where
      by : (b : Bool) → has_face r.face.0 h ≡ b → fellow_info face key (cond b h (with_face_opened r h)) ≡ fellow_info face key h
      by true e = refl
      by false e = fold_put (with_fellow face key) r.face.0 (new_face r h.told_start) h.faces (λ m. idle_by (r.face.0 == face) m) (λ f there m. absurd (absent h e f there)) None

  joined_info : (key : List ℕ) (h : HatState) → region_info key (join r h) ≡ region_info key h
  joined_info key h = by (has_face r.face.0 h) refl
    where
      of_kind : has_face r.face.0 h ≡ false → (k : Strategy) → in_routers k (routers_info key h) (faces_info key (with_face_opened r h).faces) ≡ in_routers k (routers_info key h) (faces_info key h.faces)
      of_kind e k = ap (in_routers k (routers_info key h)) (fold_put (with_face_info key) r.face.0 (new_face r h.told_start) h.faces joined_none (λ f there m. absurd (absent h e f there)) None)

      by : (b : Bool) → has_face r.face.0 h ≡ b → region_info key (cond b h (with_face_opened r h)) ≡ region_info key h
      by true e = refl
      by false e = of_kind e (strategy_at h)

  -- ---- the hats of the regions after it joined one
  module _ (q : Region) (hats : List (ℕ × HatState)) where
    abbrev seated : List (ℕ × HatState)
    seated = change_hat q (join r) hats

    -- what regions but one have on a key stays
    own_seated : (place : ℕ) (key : List ℕ) → own_entry place key seated ≡ own_entry place key hats
    own_seated place key = by (hat_at q hats) refl
      where
        by : (o : Option HatState) → hat_at q hats ≡ o → own_entry place key (put_hat q (join r) hats o) ≡ own_entry place key hats
        by None is = refl
        by (Some h) is =
            fold_set (with_other place key) (region_index q) hats h (join r h) (region_there q hats h is).1
            (λ m. ap (λ i. cond (region_index q == place) m (joined m i)) (joined_info key h)) None

    hat_seated : hat_at q seated ≡ option_map (join r) (hat_at q hats)
    hat_seated = by (hat_at q hats) refl
      where
        by : (o : Option HatState) → hat_at q hats ≡ o → hat_at q (put_hat q (join r) hats o) ≡ option_map (join r) o
        by None is = is
        by (Some h) is = ap (λ o. hat_at q (put_hat q (join r) hats o)) (sym is) ∙ hat_here q h (join r) hats is

  module _ (p : OpenFace) (hats : List (ℕ × HatState)) where
    -- a face of the region listens as before
    listens_seated : (asks : Bool) → listens_as asks hats p ≡ listens_as asks (seated p.region hats) p
    listens_seated asks = by (hat_at p.region hats) ∙ sym (ap (λ (o : Option HatState). option_map_or (hears_as asks) o false) (hat_seated p.region hats))
      where
        by : (o : Option HatState) → option_map_or (hears_as asks) o false ≡ option_map_or (hears_as asks) (option_map (join r) o) false
        by None = refl
        by (Some h) = sym (λ j. listens_by (joined_strategy h j) (is_north (joined_region h j)) asks)

    -- and hears what it heard
    heard_seated : (face : ℕ) (key : List ℕ) → heard_as face key hats p ≡ heard_as face key (seated p.region hats) p
    heard_seated face key =
        by (hat_at p.region hats)
        ∙ sym (ap (option_and_then (heard_in face key (seated p.region hats) (region_index p.region))) (hat_seated p.region hats))
      where
        by : (o : Option HatState) → option_and_then (heard_in face key hats (region_index p.region)) o ≡ option_and_then (heard_in face key (seated p.region hats) (region_index p.region)) (option_map (join r) o)
        by None = refl
        by (Some h) = sym (λ j. heard_by (joined_strategy h j) (joined_fellows face key h j) (own_seated p.region hats (region_index p.region) key j))

-- ---- of all faces the new one alone is looked at
module _ (f : ℕ × OpenFace → List FaceUpdate) (n : ℕ) (p : OpenFace) (others : (e : ℕ × OpenFace) → is_at (nat_cmp n) e.0 ≡ false → f e ≡ []) where
  others_none : (es : List (ℕ × OpenFace)) → at n es ≡ None → flat_map f es ≡ []
  others_none [] none = refl
  others_none (e ∷ es) none = by (is_at (nat_cmp n) e.0) refl none (others_none es)
    where
      by : (b : Bool) → is_at (nat_cmp n) e.0 ≡ b → cond b (Some e.1) (at n es) ≡ None → (at n es ≡ None → flat_map f es ≡ []) → flat_map f (e ∷ es) ≡ []
      by true is gone ih = absurd (let gap : Some e.1 ≡ None = gone in cc)
      by false is gone ih = λ j. others e is j ++ ih gone j

  new_alone : (es : List (ℕ × OpenFace)) → at n es ≡ None → flat_map f (insert_entry nat_cmp es n p) ≡ f (n, p)
  new_alone [] none = append-nil (f (n, p))
  new_alone (e ∷ es) none = by (nat_cmp n e.0) refl none (new_alone es)
    where
      by : (o : Ordering) → nat_cmp n e.0 ≡ o → cond (is_eq o) (Some e.1) (at n es) ≡ None → (at n es ≡ None → flat_map f (insert_entry nat_cmp es n p) ≡ f (n, p))
          → flat_map f (match_ordering o ((n, p) ∷ e ∷ es) ((e.0, p) ∷ es) (e ∷ insert_entry nat_cmp es n p)) ≡ f (n, p)
      by Less is gone ih = ap (λ l. f (n, p) ++ l) (others_none (e ∷ es) none) ∙ append-nil (f (n, p))
      by Equal is gone ih = absurd (let gap : Some e.1 ≡ None = gone in cc)
      by Greater is gone ih = λ j. others e (ap is_eq is) j ++ ih gone j

-- ---- what an opening looks at
module _ (c : Core) (ints : Interests) (o : Opening) (free : at c.next_face c.faces ≡ None) where
  abbrev after : Core
  after = with_face o c

  abbrev looked : ℕ × OpenFace → List FaceUpdate
  looked e = with_dues e.0 (dues_on after ints (due_touched c ints (opening o) e.0) e.0)

  -- at each number its keys
  looked_with : (e : ℕ × OpenFace) (b : Bool) → (e.0 == c.next_face) ≡ b → looked e ≡ with_dues e.0 (dues_on after ints (widened e.0 ints (cond b (due_keys c) [])) e.0)
  looked_with e b is = ap (λ x. with_dues e.0 (dues_on after ints (widened e.0 ints (cond x (due_keys c) [])) e.0)) is

  none_met : (ks : List (List ℕ)) → filter (is_met_by []) ks ≡ []
  none_met [] = refl
  none_met (k ∷ ks) = none_met ks

  none_wide : (face : ℕ) → widened face ints [] ≡ []
  none_wide face = ap (fold (insert_key text_cmp) []) (none_met (own_keys face ints))

  flipped : (a b : ℕ) → (a == b) ≡ (b == a)
  flipped a b = by (a == b) refl (b == a) refl
    where
      by : (x : Bool) → (a == b) ≡ x → (y : Bool) → (b == a) ≡ y → x ≡ y
      by true e true h = refl
      by true e false h = absurd (true≢false (sym (eq-eqb b a (sym (eqb-true a b e))) ∙ h))
      by false e true h = absurd (true≢false (sym (eq-eqb a b (sym (eqb-true b a h))) ∙ e))
      by false e false h = refl

  others_unlooked : (e : ℕ × OpenFace) → is_at (nat_cmp c.next_face) e.0 ≡ false → looked e ≡ []
  others_unlooked e is = looked_with e false (flipped e.0 c.next_face ∙ sym (number_test c.next_face e.0) ∙ is) ∙ ap (λ ks. with_dues e.0 (dues_on after ints ks e.0)) (none_wide e.0)

  module _ (unasked : interests_of c.next_face ints ≡ []) where
    opening_alone : looked_at c after ints (opening o) ≡ with_dues c.next_face (dues_on after ints (due_keys c) c.next_face)
    opening_alone =
        new_alone looked c.next_face (opened o) others_unlooked c.faces free
        ∙ looked_with (c.next_face, opened o) true (eq-eqb c.next_face c.next_face refl)
        ∙ ap (λ ks. with_dues c.next_face (dues_on after ints ks c.next_face)) (not_wider c.next_face ints (due_keys c) (ap (filter_map (λ (i : ℕ × InterestEntry). own_key i.1)) unasked))

    found_new : at c.next_face after.faces ≡ Some (opened o)
    found_new =
        found_after_insertion nat_cmp_total exact_unsigned c.next_face c.next_face (opened o) c.faces
        ∙ ap (λ b. cond b (Some (opened o)) (at c.next_face c.faces)) (number_test c.next_face c.next_face ∙ eq-eqb c.next_face c.next_face refl)

    abbrev place : FaceRecord
    place = seat c.next_face o

    hears_new : (key : List ℕ) → heard_as c.next_face key c.hats (opened o) ≡ heard after c.next_face key
    hears_new key = heard_seated place (opened o) c.hats c.next_face key ∙ heard_here after c.next_face (opened o) found_new key

    heard_new : IsHeard after None c.hats [] c.next_face (opened o)
    heard_new = record {
      opened = found_new;
      listens = λ asks. listens_seated place (opened o) c.hats asks;
      hears = hears_new;
      before = λ key off. hears_new key;
    }

    opening_looks : with_dues c.next_face (flat_map (listing c.next_face (opened o) c.hats) (due_keys c)) ≡ looked_at c after ints (opening o)
    opening_looks =
        ap (with_dues c.next_face)
        (listed_is after ints None c.hats [] c.next_face (opened o) heard_new nothing (λ key. ap (list_any (wants key)) (sym unasked)) (λ key. ap (list_any (wants_folded key)) (sym unasked)) (due_keys c))
        ∙ sym opening_alone

pub opening_is : (c : Core) (ints : Interests) (face : ℕ) (p : OpenFace) (o : Opening) (hats : List (ℕ × HatState)) → IsOpening c ints face p o hats
    → with_dues face (flat_map (listing face p hats) (all_keys hats)) ≡ looked_at c (with_face o c) ints (opening o)
opening_is c ints face p o hats is =
    (λ j. with_dues (sym is.next j) (flat_map (listing (sym is.next j) (sym is.opens j) (is.same j)) (all_keys (is.same j))))
    ∙ opening_looks c ints o (ap (λ n. at n c.faces) is.next ∙ is.free) (ap (λ n. interests_of n ints) is.next ∙ is.unasked)

-- ---- where nothing is asked for all keys are met
all_met : (keys : List (List ℕ)) → filter (meets None) keys ≡ keys
all_met [] = refl
all_met (k ∷ ks) = ap (λ l. k ∷ l) (all_met ks)

-- so that a list of the one face has its dues on all of them
pub one_listed : (face : ℕ) (p : OpenFace) (hats : List (ℕ × HatState)) (keys : List (List ℕ)) (dues : List KeyDue) (before list : List FaceUpdate)
    → listens_as false hats p ≡ true → keys ≡ filter (meets None) (all_keys hats) → dues ≡ map (row_as nothing face p hats) keys → before ≡ [] → list ≡ before ++ with_dues face dues → list ≡ with_dues face (flat_map (listing face p hats) (all_keys hats))
one_listed face p hats keys dues before list heard met are none is =
    is
    ∙ (λ j. none j ++ with_dues face (are j))
    ∙ ap (λ ks. with_dues face (map (row_as nothing face p hats) ks)) (met ∙ all_met (all_keys hats))
    ∙ ap (with_dues face) (each_listening face p hats heard (all_keys hats))
