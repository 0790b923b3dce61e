-- Ids lack exactly where the last one of an open face and the number of keys newly due to it lead above those of 32 bits, and never by a call that opens no face and declares nothing.
use Rattle.std.proofs.Common.{◌≡◌, ◌∙◌, refl, sym, ap, ℕ, ◌+◌, Bool, true, false, cond, List, [], ◌∷◌, filter, length, Option, Some, None, true≢false, arith}
use Rattle.std.specs.Prelude.{◌&&◌, ◌||◌, is_none}
use Rattle.std.specs.BTreeMap.{is_at}
use Rattle.std.specs.List.{AllByRecursion, flat_map, list_any}
use Rattle.std.specs.Option.{is_some, option_map, option_map_or}
use Rattle.std.specs.Ordering.{nat_cmp}
use Rattle.std.proofs.Math.Bool.{or-false}
use Rattle.std.proofs.lemmas.Bool.{false≢true}
use Rattle.std.proofs.lemmas.Cmp.{nat_cmp_total}
use Rattle.std.proofs.lemmas.List.Folds.{list_any-append}
use Rattle.std.proofs.lemmas.Map.Lookups.{exact_unsigned}
use Rattle.zq_message.specs.declared.message.QueryableInfoType.{QueryableInfoType}
use Rattle.zq_key.proofs.Lookups.{each_entry, found_after_insertion, found_after_removal}
use Rattle.zq_index.specs.Texts.{at_text}
use Rattle.zq_told.specs.declared.types.ToldEntry.{ToldEntry}
use Rattle.zq_told.specs.declared.types.Reason.TheVariants.{Update}
use Rattle.zq_told.specs.ToldSets.{ToldSet, ToldSets, at_face}
use Rattle.zq_told.specs.Leaving.{HaveIds, fresh_ear, is_too_great, lacks_there}
use Rattle.zq_told.specs.Telling.{KeyDue}
use Rattle.zq_told.specs.Laws.{takes_id, told_info}
use Rattle.zq_told.proofs.Leaving.{lacks_exactly}
use Rattle.zq_told.proofs.Reaching.{below_by}
use Rattle.zq_machine.specs.declared.call.Opening.{Opening}
use Rattle.zq_machine.specs.declared.face.OpenFace.{OpenFace}
use Rattle.zq_machine.specs.Configs.{Settings}
use Rattle.zq_machine.specs.Deciding.{accepted, opened}
use Rattle.zq_machine.specs.Due.{due, due_touched, face_keys, listens, meant}
use Rattle.zq_interests.specs.Interests.{Interests}
use Rattle.zq_machine.specs.Machine.{settle}
use Rattle.zq_machine.specs.Neighbours.{dues_on, looked_at, neighbours_lack, with_dues, with_new}
use Rattle.zq_machine.specs.Receivers.{AllHear, is_news, lacks_at}
use Rattle.zq_machine.specs.State.{Core, State, at, is_open}
use Rattle.zq_machine.specs.TextCalls.{TextCall, opening, closing}
use Rattle.zq_machine.proofs.Agreed.{InOrder as Kept}
use Rattle.zq_machine.proofs.DueWhole.{closed_undue}
use Rattle.zq_machine.proofs.Granted.{by_granted}
use Rattle.zq_machine.proofs.NeighbourTells.{news_counted}
use Rattle.zq_machine.proofs.NeighbourLooks.{looked_is}
use Rattle.zq_machine.proofs.NeighbourTold.{faces_rise, new_beside}

-- the call opens a face
abbrev pub opens : TextCall → Bool
opens (opening o) = true
opens t = false

module _ (config : Settings) (s : State) (i : Kept config s) (ints : Interests) (ears : ToldSets) where
  abbrev pub fresh : ToldSet
  fresh = fresh_ear s.core.config.start.told

  -- a face that is open after a call and was not before it is one that the call opened, and was told nothing
  abbrev pub IsNew : TextCall → ℕ → Type 0
  IsNew t face = (opens t ≡ true) × (at_face face (with_new s.core t ears) ≡ Some fresh)

  opened_by : (o : Opening) (face : ℕ) (b : Bool) → is_at (nat_cmp s.core.next_face) face ≡ b → is_some (cond b (Some (opened o)) (at face s.core.faces)) ≡ true → is_open face s.core ≡ false → IsNew (opening o) face
  opened_by o face true is seen was = (refl, found_after_insertion nat_cmp_total exact_unsigned s.core.next_face face fresh ears ∙ ap (λ b. cond b (Some fresh) (at_face face ears)) is)
  opened_by o face false is seen was = absurd (true≢false (sym seen ∙ was))

  closed_by : (g face : ℕ) (b : Bool) → is_some (cond b None (at face s.core.faces)) ≡ true → is_open face s.core ≡ false → ⊥
  closed_by g face true seen was = false≢true seen
  closed_by g face false seen was = true≢false (sym seen ∙ was)

  is_new : (t : TextCall) (face : ℕ) → is_open face (accepted s.core t) ≡ true → is_open face s.core ≡ false → IsNew t face
  is_new (opening o) face seen was =
      opened_by o face (is_at (nat_cmp s.core.next_face) face) refl (sym (ap is_some (found_after_insertion nat_cmp_total exact_unsigned s.core.next_face face (opened o) s.core.faces)) ∙ seen) was
  is_new (closing g) face seen was =
      absurd (closed_by g.0 face (is_at (nat_cmp g.0) face) (sym (ap is_some (found_after_removal nat_cmp_total exact_unsigned g.0 face s.core.faces i.sound.sorted)) ∙ seen) was)
  is_new t face seen was = absurd (true≢false (sym seen ∙ was))

  pub new_face : (t : TextCall) (face : ℕ) → is_open face (settle s t).core ≡ true → is_open face s.core ≡ false → IsNew t face
  new_face t face =
      by_granted (λ z x. is_open face x.core ≡ true → is_open face s.core ≡ false → IsNew t face) s t (λ text z w it. it) (λ p places z w it. it)
      (λ h. is_new t face) (λ r seen was. absurd (true≢false (sym seen ∙ was)))

  module _ (t : TextCall) (all : AllHear s.core ints ears)
      (same : (face : ℕ) → is_open face s.core ≡ true → is_open face (settle s t).core ≡ true → (key : List ℕ) → listens (settle s t).core ints face key ≡ listens s.core ints face key)
      (ids : HaveIds (with_new s.core t ears)) where
    abbrev w : Core
    w = (settle s t).core

    abbrev before : ToldSets
    before = with_new s.core t ears

    -- what was told to a face, and that it was due
    record WasTold (face : ℕ) : Type 0 where
      ear : ToldSet
      there : at_face face before ≡ Some ear
      told : (key : List ℕ) → told_info ear key ≡ due s.core ints face key
      quiet : (key : List ℕ) → listens w ints face key ≡ false → due s.core ints face key ≡ None

    was_told : (face : ℕ) → is_open face w ≡ true → WasTold face
    was_told face seen = by (is_open face s.core) refl
      where
        by : (b : Bool) → is_open face s.core ≡ b → WasTold face
        by true was =
            let h = all face was in
            record {
              ear = h.1.ear;
              there = new_beside config s i t ints face seen was ears t ∙ h.1.there;
              told = h.1.told;
              quiet = λ key off. ap (λ b. cond b (meant s.core ints face key) None) (sym (same face was seen key) ∙ off);
            }
        by false was =
            let none : (key : List ℕ) → due s.core ints face key ≡ None = λ key. closed_undue s.core ints face key was in
            record { ear = fresh; there = (new_face t face seen was).1; told = λ key. sym (none key); quiet = λ key off. none key }

    -- ---- one face
    lacks_by : (face : ℕ) (ear : ToldSet) → at_face face before ≡ Some ear → (ks : List KeyDue) → list_any (lacks_there Update before) (with_dues face ks) ≡ is_too_great (ear.last + length (filter (takes_id Update ear.told) ks))
    lacks_by face ear there [] = sym (ap is_too_great (let z : ear.last + 0 ≡ ear.last = omega arith in z) ∙ below_by ear.last (ids face ear there))
    lacks_by face ear there (k ∷ ks) =
        or-false (lacks_there Update before (record { face = record { 0 = face }; keys = k ∷ ks }))
        ∙ ap (λ o. option_map_or (λ (e : ToldSet). is_too_great (e.last + length (filter (takes_id Update e.told) (k ∷ ks)))) o false) there

    lacks_one : (face : ℕ) → is_open face w ≡ true → list_any (lacks_there Update before) (with_dues face (dues_on w ints (due_touched s.core ints t face) face)) ≡ lacks_at w ints before face
    lacks_one face seen =
        let x = was_told face seen in
        lacks_by face x.ear x.there (dues_on w ints (due_touched s.core ints t face) face)
        ∙ ap (λ n. is_too_great (x.ear.last + n)) (news_counted config s i t ints face seen x.ear x.told x.quiet)
        ∙ sym (ap (λ o. option_map_or (λ (e : ToldSet). is_too_great (e.last + length (filter (is_news w ints face e) (face_keys w ints face)))) o false) x.there)

    -- ---- all faces
    abbrev IsOpen : ℕ × OpenFace → Type 0
    IsOpen o = is_open o.0 w ≡ true

    all_open : AllByRecursion IsOpen w.faces
    all_open = each_entry nat_cmp_total exact_unsigned IsOpen w.faces (faces_rise config s i t ints) (λ k v there. ap is_some there)

    lacks_of : (os : List (ℕ × OpenFace)) → AllByRecursion IsOpen os
        → list_any (lacks_there Update before) (flat_map (λ o. with_dues o.0 (dues_on w ints (due_touched s.core ints t o.0) o.0)) os) ≡ list_any (λ o. lacks_at w ints before o.0) os
    lacks_of [] open_all = refl
    lacks_of (o ∷ os) open_all =
        list_any-append (lacks_there Update before) (with_dues o.0 (dues_on w ints (due_touched s.core ints t o.0) o.0)) (flat_map (λ o. with_dues o.0 (dues_on w ints (due_touched s.core ints t o.0) o.0)) os)
        ∙ (λ j. lacks_one o.0 open_all.0 j || lacks_of os open_all.1 j)

    pub lacks_are : neighbours_lack s.core w ints t ears ≡ list_any (λ o. lacks_at w ints before o.0) w.faces
    lacks_are = lacks_exactly Update before (looked_at s.core w ints t) ∙ ap (list_any (lacks_there Update before)) (looked_is s.core w ints t) ∙ lacks_of w.faces all_open

    -- ---- a call that makes nothing due
    module _ (no_face : opens t ≡ false) (less : (face : ℕ) (key : List ℕ) → is_open face s.core ≡ true → is_some (due w ints face key) ≡ true → is_some (due s.core ints face key) ≡ true) where
      was_open : (face : ℕ) → is_open face w ≡ true → is_open face s.core ≡ true
      was_open face seen = by (is_open face s.core) refl
        where
          by : (b : Bool) → is_open face s.core ≡ b → b ≡ true
          by true e = refl
          by false e = absurd (true≢false (sym (new_face t face seen e).0 ∙ no_face))

      old_by : (face : ℕ) (key : List ℕ) (o : Option ToldEntry) (now was : Option QueryableInfoType) → option_map (λ (x : ToldEntry). x.info) o ≡ was → (is_some now ≡ true → is_some was ≡ true) → (is_none o && is_some now) ≡ false
      old_by face key (Some x) now was told more = refl
      old_by face key None None was told more = refl
      old_by face key None (Some y) was told more = absurd (false≢true (ap is_some told ∙ more refl))

      none_news : (face : ℕ) (seen : is_open face w ≡ true) (ear : ToldSet) → ((key : List ℕ) → told_info ear key ≡ due s.core ints face key) → (ks : List (List ℕ)) → filter (is_news w ints face ear) ks ≡ []
      none_news face seen ear told [] = refl
      none_news face seen ear told (k ∷ ks) =
          ap (λ b. cond b (k ∷ filter (is_news w ints face ear) ks) (filter (is_news w ints face ear) ks))
          (old_by face k (at_text k ear.told) (due w ints face k) (due s.core ints face k) (told k) (less face k (was_open face seen)))
          ∙ none_news face seen ear told ks

      enough_at : (face : ℕ) → is_open face w ≡ true → lacks_at w ints before face ≡ false
      enough_at face seen =
          let x = was_told face seen in
          ap (λ o. option_map_or (λ (e : ToldSet). is_too_great (e.last + length (filter (is_news w ints face e) (face_keys w ints face)))) o false) x.there
          ∙ ap (λ (l : List (List ℕ)). is_too_great (x.ear.last + length l)) (none_news face seen x.ear x.told (face_keys w ints face))
          ∙ ap is_too_great (let z : x.ear.last + 0 ≡ x.ear.last = omega arith in z)
          ∙ below_by x.ear.last (ids face x.ear x.there)

      enough_of : (os : List (ℕ × OpenFace)) → AllByRecursion IsOpen os → list_any (λ o. lacks_at w ints before o.0) os ≡ false
      enough_of [] open_all = refl
      enough_of (o ∷ os) open_all = λ j. enough_at o.0 open_all.0 j || enough_of os open_all.1 j

      pub enough : neighbours_lack s.core w ints t ears ≡ false
      enough = lacks_are ∙ enough_of w.faces all_open
