-- What a call that is no interest tells all faces: in order, to open faces alone; what is kept of them stays sound, and what receivers keep stays due.
use Rattle.std.proofs.Common.{◌≡◌, ◌∙◌, refl, sym, ap, subst, ℕ, ◌<◌, ◌^◌, Bool, true, false, cond, List, [], ◌∷◌, ◌++◌, filter, Option, Some, None, true≢false, fold, option_map}
use Rattle.std.specs.BTreeMap.{is_at}
use Rattle.std.specs.List.{AllByRecursion, flat_map, list_any}
use Rattle.std.specs.List.Sorted.{IsStrictlySortedBy}
use Rattle.std.specs.Map.{keys_of}
use Rattle.std.specs.Option.{is_some, option_map_or}
use Rattle.std.specs.Ordering.{nat_cmp}
use Rattle.std.proofs.lemmas.Bool.{false≢true}
use Rattle.std.proofs.lemmas.Cmp.{nat_cmp_total}
use Rattle.std.proofs.lemmas.Map.Lookups.{exact_unsigned}
use Rattle.std.proofs.lemmas.Map.Made.{is_some-lookup}
use Rattle.zq_key.proofs.Lookups.{found_after_insertion, found_after_removal}
use Rattle.zq_strategy.specs.Tellings.{telling_cmp}
use Rattle.zq_told.specs.declared.types.FaceUpdate.{FaceUpdate}
use Rattle.zq_told.specs.declared.types.ToldEntry.{ToldEntry}
use Rattle.zq_told.specs.declared.types.Reason.TheVariants.{Update}
use Rattle.zq_told.specs.ToldSets.{ToldSet, ToldSets, at_face, last_at}
use Rattle.zq_told.specs.Receiver.{Heard}
use Rattle.zq_told.specs.Telling.{KeyDue, tell_due}
use Rattle.zq_told.specs.Laws.{InOrder, is_to, last_given, told_alone, told_in}
use Rattle.zq_told.specs.Leaving.{AreSound, fresh_ear}
use Rattle.zq_told.proofs.Differing.{tells_each}
use Rattle.zq_told.proofs.Faces.{keeps_faces, opens as opens_sound, stay_sound}
use Rattle.zq_told.proofs.Ordered.{tells_in_order}
use Rattle.zq_told.proofs.Slotted.{none_sorted}
use Rattle.zq_machine.specs.Configs.{Settings}
use Rattle.zq_machine.specs.Deciding.{accepted, opened as as_opened, refusal_of}
use Rattle.zq_machine.specs.Due.{due, due_touched, listens}
use Rattle.zq_interests.specs.Interests.{Interests}
use Rattle.zq_machine.specs.Machine.{settle}
use Rattle.zq_machine.specs.Neighbours.{dues_on, ears_after, looked_at, neighbours_lack, neighbours_told, with_dues, with_new, without_closed}
use Rattle.zq_machine.specs.Receivers.{AllHear, AreOfOpen, Hears, heard_over}
use Rattle.zq_machine.specs.State.{Core, State, at, is_open}
use Rattle.zq_machine.specs.TextCalls.{TextCall, opening, closing}
use Rattle.zq_machine.proofs.Agreed.{InOrder as Kept}
use Rattle.zq_machine.proofs.Changing.{number_test}
use Rattle.zq_machine.proofs.DueWhole.{closed_undue}
use Rattle.zq_machine.proofs.Granted.{settled_of}
use Rattle.zq_machine.proofs.NeighbourDues.{all_keys, dues_of, rows_rise}
use Rattle.zq_machine.proofs.NeighbourLooks.{looked_is}
use Rattle.zq_machine.proofs.NeighbourIds.{fresh, new_face, opens}
use Rattle.zq_machine.proofs.NeighbourTold.{all_rise, call_hears, call_last, call_told, looked, looked_rise, still_hears}

module _ (config : Settings) (s : State) (i : Kept config s) (t : TextCall) (ints : Interests) (ears : ToldSets) where
  abbrev w : Core
  w = (settle s t).core

  abbrev keys_of_face : ℕ → List KeyDue
  keys_of_face n = dues_on w ints (due_touched s.core ints t n) n

  -- ---- in order, to open faces
  keys_ordered : AllByRecursion (λ (d : FaceUpdate). InOrder d.keys) (looked_at s.core w ints t)
  keys_ordered = subst (AllByRecursion (λ (d : FaceUpdate). InOrder d.keys)) (sym (looked_is s.core w ints t)) (all_keys keys_of_face (λ (d : FaceUpdate). InOrder d.keys) (λ m ks is. subst InOrder is (rows_rise (due w ints m) (looked config s i t ints m) (looked_rise config s i t ints m))) w.faces)

  pub told_ordered : IsStrictlySortedBy telling_cmp (neighbours_told s.core w ints t ears)
  told_ordered = tells_in_order Update (with_new s.core t ears) (looked_at s.core w ints t) (all_rise config s i t ints) keys_ordered

  module _ (face : ℕ) where
    others_by : (m : ℕ) (ks : List KeyDue) (rest : List FaceUpdate) → is_at (nat_cmp face) m ≡ false
        → flat_map (told_alone Update (with_new s.core t ears) face) rest ≡ [] → flat_map (told_alone Update (with_new s.core t ears) face) (with_dues m ks ++ rest) ≡ []
    others_by m [] rest other more = more
    others_by m (k ∷ ks) rest other more =
        λ j. cond ((sym (number_test face m) ∙ other) j) (option_map_or (λ (e : ToldSet). told_in Update face e (k ∷ ks)) (at_face face (with_new s.core t ears)) []) [] ++ more j

    none_by : {X : Type 0} (b : Bool) (x : X) (o : Option X) → is_some (cond b (Some x) o) ≡ false → (b ≡ false) × (is_some o ≡ false)
    none_by true x o e = absurd (true≢false e)
    none_by false x o e = (refl, e)

    others_told : {X : Type 0} (es : List (ℕ × X)) → is_some (at face es) ≡ false → flat_map (told_alone Update (with_new s.core t ears) face) (dues_of keys_of_face es) ≡ []
    others_told [] none = refl
    others_told (e ∷ es) none =
        let p = none_by (is_at (nat_cmp face) e.0) e.1 (at face es) none in
        others_by e.0 (keys_of_face e.0) (dues_of keys_of_face es) p.0 (others_told es p.1)

    pub closed_untold : is_open face w ≡ false → filter (is_to face) (neighbours_told s.core w ints t ears) ≡ []
    closed_untold shut = tells_each Update (with_new s.core t ears) (looked_at s.core w ints t) face ∙ ap (flat_map (told_alone Update (with_new s.core t ears) face)) (looked_is s.core w ints t) ∙ others_told w.faces shut

  -- ---- what is kept of faces
  pub new_sound : (x : TextCall) → s.core.config.start.told < 2 ^ 32 → AreSound ears → AreSound (with_new s.core x ears)
  new_sound (opening o) low a = stay_sound.opens s.core.next_face s.core.config.start.told ears low a
  new_sound x low a = a

  closed_sound : (x : TextCall) (others : ToldSets) → AreSound others → AreSound (without_closed x others)
  closed_sound (closing g) others a = stay_sound.closes g.0 others a
  closed_sound x others a = a

  pub ears_sound : s.core.config.start.told < 2 ^ 32 → AreSound ears → neighbours_lack s.core w ints t ears ≡ false → AreSound (ears_after s.core w ints t ears)
  ears_sound low a enough =
      closed_sound t (tell_due Update (with_new s.core t ears) (looked_at s.core w ints t)) (stay_sound.tells Update (with_new s.core t ears) (looked_at s.core w ints t) enough (new_sound t low a))

  -- something is kept of the faces that are open then
  abbrev kept_of : Core → TextCall → ToldSets
  kept_of c x = tell_due Update (with_new s.core x ears) (looked_at s.core c ints x)

  same_faces : (c : Core) (x : TextCall) → keys_of (kept_of c x) ≡ keys_of (with_new s.core x ears)
  same_faces c x = keeps_faces Update (with_new s.core x ears) (looked_at s.core c ints x)

  there_still : (c : Core) (x : TextCall) (n : ℕ) → is_some (at_face n (kept_of c x)) ≡ is_some (at_face n (with_new s.core x ears))
  there_still c x n = is_some-lookup (is_at (nat_cmp n)) (kept_of c x) ∙ ap (list_any (is_at (nat_cmp n))) (same_faces c x) ∙ sym (is_some-lookup (is_at (nat_cmp n)) (with_new s.core x ears))

  put_there : {X Y : Type 0} (b : Bool) (x : X) (y : Y) (o : Option X) (p : Option Y) → is_some o ≡ is_some p → is_some (cond b (Some x) o) ≡ is_some (cond b (Some y) p)
  put_there true x y o p same = refl
  put_there false x y o p same = same

  taken_there : {X Y : Type 0} (b : Bool) (o : Option X) (p : Option Y) → is_some o ≡ is_some p → is_some (cond b None o) ≡ is_some (cond b None p)
  taken_there true o p same = refl
  taken_there false o p same = same

  granted_faces : (x : TextCall) → AreSound ears → AreOfOpen s.core ears → AreOfOpen (accepted s.core x) (ears_after s.core (accepted s.core x) ints x ears)
  granted_faces (opening o) a of n =
      there_still (accepted s.core (opening o)) (opening o) n
      ∙ ap is_some (found_after_insertion nat_cmp_total exact_unsigned s.core.next_face n (fresh_ear s.core.config.start.told) ears)
      ∙ put_there (is_at (nat_cmp s.core.next_face) n) (fresh_ear s.core.config.start.told) (as_opened o) (at_face n ears) (at n s.core.faces) (of n)
      ∙ sym (ap is_some (found_after_insertion nat_cmp_total exact_unsigned s.core.next_face n (as_opened o) s.core.faces))
  granted_faces (closing g) a of n =
      ap is_some (found_after_removal nat_cmp_total exact_unsigned g.0 n (kept_of (accepted s.core (closing g)) (closing g)) (subst (IsStrictlySortedBy nat_cmp) (sym (same_faces (accepted s.core (closing g)) (closing g))) a.faces))
      ∙ taken_there (is_at (nat_cmp g.0) n) (at_face n (kept_of (accepted s.core (closing g)) (closing g))) (at n s.core.faces) (there_still (accepted s.core (closing g)) (closing g) n ∙ of n)
      ∙ sym (ap is_some (found_after_removal nat_cmp_total exact_unsigned g.0 n s.core.faces i.sound.sorted))
  granted_faces x a of n = there_still (accepted s.core x) x n ∙ of n

  pub faces_kept : refusal_of s.core t ≡ None → AreSound ears → AreOfOpen s.core ears → AreOfOpen w (ears_after s.core w ints t ears)
  faces_kept fits a of = settled_of (λ (x : Core). AreOfOpen x (ears_after s.core x ints t ears)) s t fits (λ places c it. it) (granted_faces t a of)

  -- ---- each open face's receiver
  still_there : (x : TextCall) (others : ToldSets) → opens x ≡ true → without_closed x others ≡ others
  still_there (closing g) others e = absurd (false≢true e)
  still_there x others e = refl

  -- of a face that is open after the call and was not before it, the receiver kept nothing
  pub new_hears : (face : ℕ) → is_open face w ≡ true → is_open face s.core ≡ false → Hears w ints (ears_after s.core w ints t ears) face (heard_over s.core w ints t ears face [])
  new_hears face seen was =
      still_hears w ints (tell_due Update (with_new s.core t ears) (looked_at s.core w ints t)) (ears_after s.core w ints t ears) face (heard_over s.core w ints t ears face [])
      (ap (at_face face) (still_there t (tell_due Update (with_new s.core t ears) (looked_at s.core w ints t)) (new_face config s i ints ears t face seen was).0))
      (call_hears config s i t ints face seen (with_new s.core t ears) [] (λ key off. none key) first)
    where
      none : (key : List ℕ) → due s.core ints face key ≡ None
      none key = closed_undue s.core ints face key was

      first : Hears s.core ints (with_new s.core t ears) face []
      first = record {
        ear = fresh config s i ints ears;
        there = (new_face config s i ints ears t face seen was).1;
        sorted = none_sorted ToldEntry;
        tied = opens_sound.tied s.core.config.start.told;
        told = λ key. sym (none key);
      }

  pub new_last : (face : ℕ) → is_open face w ≡ true → is_open face s.core ≡ false
      → last_at face (ears_after s.core w ints t ears) ≡ Some (fold last_given s.core.config.start.told (filter (is_to face) (neighbours_told s.core w ints t ears)))
  new_last face seen was =
      ap (λ x. option_map (λ (e : ToldSet). e.last) (at_face face x)) (still_there t (tell_due Update (with_new s.core t ears) (looked_at s.core w ints t)) (new_face config s i ints ears t face seen was).0)
      ∙ call_last config s i t ints face seen (with_new s.core t ears) (fresh config s i ints ears) [] (new_face config s i ints ears t face seen was).1 (none_sorted ToldEntry) (opens_sound.tied s.core.config.start.told)

  pub all_hear : ((face : ℕ) → is_open face s.core ≡ true → is_open face w ≡ true → (key : List ℕ) → listens w ints face key ≡ listens s.core ints face key)
      → AllHear s.core ints ears → AllHear w ints (ears_after s.core w ints t ears)
  all_hear same all face seen = by (is_open face s.core) refl
    where
      by : (b : Bool) → is_open face s.core ≡ b → (heard : Heard) × Hears w ints (ears_after s.core w ints t ears) face heard
      by true was = let h = all face was in (_, call_told config s i t ints face seen was ears h.0 (same face was seen) h.1)
      by false was = (_, new_hears face seen was)
