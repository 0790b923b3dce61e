-- A receiver that keeps what is due to a face keeps it over a call that is no interest, and a new face's from the call on that opens it.
use Rattle.std.proofs.Common.{◌≡◌, ◌∙◌, refl, sym, ap, subst, ℕ, Bool, true, false, cond, List, [], ◌∷◌, ◌++◌, filter, fold, map, Option, Some, None}
use Rattle.std.specs.Prelude.{◌&&◌}
use Rattle.std.specs.BTreeMap.{is_at}
use Rattle.std.specs.List.{AllByRecursion, flat_map}
use Rattle.std.specs.List.Sorted.{IsStrictlySortedBy}
use Rattle.std.specs.Map.{keys_of, remove_entry}
use Rattle.std.specs.Option.{is_some, option_map, option_map_or, option_to_list}
use Rattle.std.specs.Ordering.{is_eq, nat_cmp}
use Rattle.std.specs.declared.cmp.Ordering.TheVariants.{Less}
use Rattle.std.proofs.lemmas.Bool.{false≢true}
use Rattle.std.proofs.lemmas.Cmp.{nat_cmp_total}
use Rattle.std.proofs.lemmas.List.{append-nil}
use Rattle.std.proofs.lemmas.List.Kept.{IsStrictlySortedBy-filter}
use Rattle.std.proofs.lemmas.Map.Keys.{sorted_head, sorted_tail}
use Rattle.std.proofs.lemmas.Map.Lookups.{exact_unsigned}
use Rattle.zq_message.specs.declared.message.FaceId.{FaceId}
use Rattle.zq_message.specs.declared.message.QueryableInfoType.{QueryableInfoType}
use Rattle.zq_key.proofs.Lookups.{found_after_insertion, found_after_removal}
use Rattle.zq_index.specs.Texts.{text_cmp}
use Rattle.zq_strategy.specs.declared.network.Telling.{Telling}
use Rattle.zq_told.specs.declared.types.FaceUpdate.{FaceUpdate}
use Rattle.zq_told.specs.declared.types.Reason.{Reason}
use Rattle.zq_told.specs.declared.types.Reason.TheVariants.{Update}
use Rattle.zq_told.specs.ToldSets.{ToldSet, ToldSets, at_face, last_at}
use Rattle.zq_told.specs.Telling.{KeyDue, tell_due, tell_faces}
use Rattle.zq_told.specs.Receiver.{Heard, Tied, heard_after, heard_on, memory_of, receive}
use Rattle.zq_told.specs.Laws.{InOrder, aim, aim_on, ear_after, is_to, keys_for, last_given, told_alone, told_in}
use Rattle.zq_told.proofs.Differing.{looks_up, tells_each}
use Rattle.zq_told.proofs.Numbers.{ids_are_given}
use Rattle.zq_told.proofs.Hearing.{heard_is_told}
use Rattle.zq_told.proofs.Leaving.{stays_in_order, told_aimed}
use Rattle.zq_told.proofs.Settling.{keeps_up}
use Rattle.zq_machine.specs.declared.call.Opening.{Opening}
use Rattle.zq_machine.specs.declared.face.OpenFace.{OpenFace}
use Rattle.zq_machine.specs.Configs.{Settings}
use Rattle.zq_machine.specs.Deciding.{is_accepted, opened as as_opened}
use Rattle.zq_machine.specs.Due.{due, due_touched, is_due_touched, listens, meant}
use Rattle.zq_interests.specs.Interests.{Interests}
use Rattle.zq_machine.specs.Machine.{answer, settle}
use Rattle.zq_machine.specs.Neighbours.{due_on, dues_on, ears_after, looked_at, neighbours_told, with_new, without_closed}
use Rattle.zq_machine.specs.Receivers.{Hears, heard_over}
use Rattle.zq_machine.specs.State.{Core, State, at, is_open, region_in}
use Rattle.zq_machine.specs.TextCalls.{TextCall, opening, closing}
use Rattle.zq_machine.proofs.Agreed.{InOrder as Kept, accepted_in_order, next_absent}
use Rattle.zq_machine.proofs.Agreeing.{some_of}
use Rattle.zq_machine.proofs.Changing.{is_other, itself, number_test, one_number}
use Rattle.zq_machine.proofs.DueInterests.{keys_rise}
use Rattle.zq_machine.proofs.DueKeys.{among, is_among}
use Rattle.zq_machine.proofs.DueWhole.{due_kept}
use Rattle.zq_machine.proofs.Writing.{settles_view}
use Rattle.zq_machine.proofs.Granted.{by_granted, closed_after}
use Rattle.zq_machine.proofs.NeighbourLooks.{looked_is}
use Rattle.zq_machine.proofs.NeighbourDues.{Sorted, aims_at, among_filter, dues_rise, keys_at, keys_of_face, numbers, rows_rise}

-- ---- a receiver keeps what is due
pub told_due : (c : Core) (ints : Interests) (ears : ToldSets) (face : ℕ) (heard : Heard) → Hears c ints ears face heard → (key : List ℕ) → heard_on key heard ≡ option_to_list (due c ints face key)
told_due c ints ears face heard h key = heard_is_told (memory_of h.ear) heard h.tied key ∙ ap option_to_list (h.told key)

-- ---- one face among those that a call tells
module _ (way : Reason) (ears : ToldSets) (n : ℕ) (ear : ToldSet) (there : at_face n ears ≡ Some ear) where
  abbrev told_to : List KeyDue → Option ToldSet → List Telling
  told_to keys o = option_map_or (λ (e : ToldSet). told_in way n e keys) o []

  alone_by : (d : FaceUpdate) (b : Bool) → is_at (nat_cmp n) d.face.0 ≡ b → told_alone way ears n d ≡ cond b (told_in way n ear d.keys) []
  alone_by d true is = ap (λ b. cond b (told_to d.keys (at_face n ears)) []) (sym (number_test n d.face.0) ∙ is) ∙ ap (told_to d.keys) there
  alone_by d false is = ap (λ b. cond b (told_to d.keys (at_face n ears)) []) (sym (number_test n d.face.0) ∙ is)

  none_behind : (ds : List FaceUpdate) → AllByRecursion (λ q. nat_cmp n q ≡ Less) (numbers ds) → flat_map (told_alone way ears n) ds ≡ []
  none_behind [] above = refl
  none_behind (d ∷ ds) above = λ i. alone_by d false (ap is_eq above.0) i ++ none_behind ds above.1 i

  first_by : (d : FaceUpdate) (ds : List FaceUpdate) (b : Bool) → is_at (nat_cmp n) d.face.0 ≡ b → AllByRecursion (λ q. nat_cmp d.face.0 q ≡ Less) (numbers ds)
      → flat_map (told_alone way ears n) ds ≡ told_in way n ear (keys_at n ds)
      → told_alone way ears n d ++ flat_map (told_alone way ears n) ds ≡ told_in way n ear (option_map_or (λ ks. ks) (cond b (Some d.keys) (keys_for n ds)) [])
  first_by d ds true is above more =
      let rest = none_behind ds (subst (λ m. AllByRecursion (λ q. nat_cmp m q ≡ Less) (numbers ds)) (sym (one_number n d.face.0 is)) above) in
      (λ i. alone_by d true is i ++ rest i) ∙ append-nil (told_in way n ear d.keys)
  first_by d ds false is above more = λ i. alone_by d false is i ++ more i

  alone_all : (ds : List FaceUpdate) → Sorted ds → flat_map (told_alone way ears n) ds ≡ told_in way n ear (keys_at n ds)
  alone_all [] s = refl
  alone_all (d ∷ ds) s = first_by d ds (is_at (nat_cmp n) d.face.0) refl (sorted_head nat_cmp d.face.0 (numbers ds) s) (alone_all ds (sorted_tail nat_cmp d.face.0 (numbers ds) s))

  module _ (dues : List FaceUpdate) (s : Sorted dues) where
    pub told_here : filter (is_to n) (tell_faces way ears dues).tellings ≡ told_in way n ear (keys_at n dues)
    told_here = tells_each way ears dues n ∙ alone_all dues s

    pub left_here : at_face n (tell_due way ears dues) ≡ Some (ear_after way n ear (keys_at n dues))
    left_here = looks_up way ears dues s n ∙ by (keys_for n dues)
      where
        by : (o : Option (List KeyDue)) → option_map_or (λ keys. option_map (λ (e : ToldSet). ear_after way n e keys) (at_face n ears)) o (at_face n ears) ≡ Some (ear_after way n ear (option_map_or (λ ks. ks) o []))
        by None = there
        by (Some keys) = ap (option_map (λ (e : ToldSet). ear_after way n e keys)) there

-- a receiver keeps afterwards what is due then, if that is what the call aims at
module _ (way : Reason) (c d : Core) (ints more : Interests) (ears : ToldSets) (dues : List FaceUpdate) (s : Sorted dues) (face : ℕ) (heard : Heard) where
  abbrev keys : List KeyDue
  keys = keys_at face dues

  pub keeps_due : InOrder keys → Hears c ints ears face heard → ((key : List ℕ) → aim_on way keys (due c ints face key) key ≡ due d more face key)
      → Hears d more (tell_due way ears dues) face (heard_after way keys heard (filter (is_to face) (tell_faces way ears dues).tellings))
  keeps_due ordered h aims = record {
    ear = ear_after way face h.ear keys;
    there = left_here way ears face h.ear h.there dues s;
    sorted = stays_in_order way face h.ear keys h.sorted;
    tied = subst (λ ts. Tied (memory_of (ear_after way face h.ear keys)) (heard_after way keys heard ts)) (sym (told_here way ears face h.ear h.there dues s)) (keeps_up way face h.ear keys heard h.sorted ordered h.tied);
    told = λ key. told_aimed way face h.ear keys h.sorted ordered key ∙ ap (λ o. aim_on way keys o key) (h.told key) ∙ aims key;
  }

-- the same of ears in which the face has the same
pub still_hears : (c : Core) (ints : Interests) (ears others : ToldSets) (face : ℕ) (heard : Heard) → at_face face others ≡ at_face face ears → Hears c ints ears face heard → Hears c ints others face heard
still_hears c ints ears others face heard same h = record { ear = h.ear; there = same ∙ h.there; sorted = h.sorted; tied = h.tied; told = h.told }

-- another face is closed
beside_by : {X : Type 0} (g q : ℕ) (e : ℕ × X) (es : List (ℕ × X)) (b : Bool) → is_at (nat_cmp g) e.0 ≡ b → is_at (nat_cmp g) q ≡ false → at q (remove_entry (is_at (nat_cmp g)) es) ≡ at q es
    → at q (cond b es (e ∷ remove_entry (is_at (nat_cmp g)) es)) ≡ at q (e ∷ es)
beside_by g q e es true is other more = ap (λ b. cond b (Some e.1) (at q es)) (sym (apart (is_at (nat_cmp q) e.0) refl))
  where
    apart : (b : Bool) → is_at (nat_cmp q) e.0 ≡ b → b ≡ false
    apart true here = absurd (is_other g q other (one_number g e.0 is ∙ sym (one_number q e.0 here)))
    apart false here = refl
beside_by g q e es false is other more = ap (cond (is_at (nat_cmp q) e.0) (Some e.1)) more

pub found_beside : {X : Type 0} (g q : ℕ) (es : List (ℕ × X)) → is_at (nat_cmp g) q ≡ false → at q (remove_entry (is_at (nat_cmp g)) es) ≡ at q es
found_beside g q [] other = refl
found_beside g q (e ∷ es) other = beside_by g q e es (is_at (nat_cmp g) e.0) refl other (found_beside g q es other)

-- ---- what is due on keys that are not looked at
aimed : (now old : Option QueryableInfoType) → aim Update now old ≡ now
aimed None old = refl
aimed (Some i) old = refl

module _ (config : Settings) (s : State) (i : Kept config s) (t : TextCall) (ints : Interests) where
  abbrev w : Core
  w = (settle s t).core

  -- the keys on which the face is told
  abbrev pub looked : ℕ → List (List ℕ)
  looked face = filter (λ key. listens w ints face key) (due_touched s.core ints t face)

  abbrev dues : List FaceUpdate
  dues = looked_at s.core w ints t

  pub looked_rise : (face : ℕ) → IsStrictlySortedBy text_cmp (looked face)
  looked_rise face = IsStrictlySortedBy-filter text_cmp (λ key. listens w ints face key) (due_touched s.core ints t face) ((keys_rise s.core ints face).touched t)

  pub faces_rise : IsStrictlySortedBy nat_cmp (keys_of w.faces)
  faces_rise = by_granted (λ z x. IsStrictlySortedBy nat_cmp (keys_of x.core.faces)) s t (λ text z w it. it) (λ p places z w it. it) (λ h. (accepted_in_order config s t h i).sound.sorted) (λ r. i.sound.sorted)

  pub all_rise : Sorted dues
  all_rise = subst Sorted (sym (looked_is s.core w ints t)) (dues_rise (λ n. dues_on w ints (due_touched s.core ints t n) n) w.faces faces_rise)

  module _ (face : ℕ) (seen : is_open face w ≡ true) where
    pub keys_are : keys_at face dues ≡ map (due_on w ints face) (looked face)
    keys_are = ap (keys_at face) (looked_is s.core w ints t) ∙ keys_of_face (λ n. dues_on w ints (due_touched s.core ints t n) n) face w.faces ∙ ap (λ b. cond b (dues_on w ints (due_touched s.core ints t face) face) []) seen

    pub keys_in_order : InOrder (keys_at face dues)
    keys_in_order = subst InOrder (sym keys_are) (rows_rise (due w ints face) (looked face) (looked_rise face))

    stays : (key : List ℕ) → is_due_touched s.core ints t face key ≡ false → due w ints face key ≡ due s.core ints face key
    stays key off =
        by_granted (λ z x. is_open face x.core ≡ true → is_due_touched s.core ints t face key ≡ false → due x.core ints face key ≡ due s.core ints face key) s t (λ text z w it. it) (λ p places z w it. it)
        (λ h. due_kept config s i ints face key t h) (λ r a b. refl) seen off

    -- on keys that are not looked at the same is due, if it was nothing where the face does not listen
    pub unlooked : ((key : List ℕ) → listens w ints face key ≡ false → due s.core ints face key ≡ None) → (key : List ℕ) → is_among key (looked face) ≡ false → due s.core ints face key ≡ due w ints face key
    unlooked quiet key off = by (listens w ints face key) refl (sym (among_filter (λ q. listens w ints face q) key (due_touched s.core ints t face)) ∙ off)
      where
        by : (b : Bool) → listens w ints face key ≡ b → (b && is_among key (due_touched s.core ints t face)) ≡ false → due s.core ints face key ≡ due w ints face key
        by true e out = sym (stays key (among key (due_touched s.core ints t face) ∙ out))
        by false e out = quiet key e ∙ sym (ap (λ b. cond b (meant w ints face key) None) e)

    pub call_hears : (ears : ToldSets) (heard : Heard) → ((key : List ℕ) → listens w ints face key ≡ false → due s.core ints face key ≡ None)
        → Hears s.core ints ears face heard → Hears w ints (tell_due Update ears dues) face (fold receive heard (filter (is_to face) (tell_faces Update ears dues).tellings))
    call_hears ears heard quiet h =
        keeps_due Update s.core w ints ints ears dues all_rise face heard keys_in_order h
        (λ key. ap (λ ks. aim_on Update ks (due s.core ints face key) key) keys_are
        ∙ aims_at (due w ints face) Update key (looked face) (due s.core ints face key) (due w ints face key) (λ on. aimed (due w ints face key) (due s.core ints face key)) (unlooked quiet key))

    -- the id given last is the greatest that the face was told of
    pub call_last : (ears : ToldSets) (ear : ToldSet) (heard : Heard) → at_face face ears ≡ Some ear → InOrder ear.told → Tied (memory_of ear) heard
        → last_at face (tell_due Update ears dues) ≡ Some (fold last_given ear.last (filter (is_to face) (tell_faces Update ears dues).tellings))
    call_last ears ear heard there sorted tied =
        ap (option_map (λ (e : ToldSet). e.last)) (left_here Update ears face ear there dues all_rise)
        ∙ ap Some (sym (ap (fold last_given ear.last) (told_here Update ears face ear there dues all_rise) ∙ (ids_are_given Update face ear (keys_at face dues) heard sorted keys_in_order tied).1))

    -- ---- the face was open before
    module _ (was : is_open face s.core ≡ true) where
      pub new_beside : (ears : ToldSets) (x : TextCall) → at_face face (with_new s.core x ears) ≡ at_face face ears
      new_beside ears (opening o) = found_after_insertion nat_cmp_total exact_unsigned s.core.next_face face (record { last = s.core.config.start.told; told = [] }) ears ∙ by (is_at (nat_cmp s.core.next_face) face) refl
        where
          by : (b : Bool) → is_at (nat_cmp s.core.next_face) face ≡ b → cond b (Some (record { last = s.core.config.start.told; told = [] })) (at_face face ears) ≡ at_face face ears
          by true e = absurd (false≢true (sym (ap is_some (ap (λ n. at n s.core.faces) (sym (one_number s.core.next_face face e)) ∙ next_absent s i.sound)) ∙ was))
          by false e = refl
      new_beside ears x = refl

      not_closed : (g : FaceId) → is_open face (settle s (closing g)).core ≡ true → is_at (nat_cmp g.0) face ≡ false
      not_closed g after = by (is_at (nat_cmp g.0) face) refl
        where
          by : (b : Bool) → is_at (nat_cmp g.0) face ≡ b → b ≡ false
          by true e =
              let o : (o : OpenFace) × (at face s.core.faces ≡ Some o) = some_of (at face s.core.faces) was in
              let there = ap (λ n. option_map region_in (at n s.core.faces)) (one_number g.0 face e) ∙ ap (option_map region_in) o.1 in
              let gone = found_after_removal nat_cmp_total exact_unsigned g.0 face s.core.faces i.sound.sorted ∙ ap (λ b. cond b None (at face s.core.faces)) e in
              absurd (false≢true (sym (ap is_some gone) ∙ sym (ap (λ (x : State). is_open face x.core) (closed_after s g (region_in o.0) there)) ∙ sym (settles_view (λ (x : Core). is_open face x) (λ places x. refl) s (closing g)) ∙ after))
          by false e = refl

      closed_beside : (ears : ToldSets) (x : TextCall) → is_open face (settle s x).core ≡ true → at_face face (without_closed x ears) ≡ at_face face ears
      closed_beside ears (closing g) after = found_beside g.0 face ears (not_closed g after)
      closed_beside ears x after = refl

      pub call_told : (ears : ToldSets) (heard : Heard) → ((key : List ℕ) → listens w ints face key ≡ listens s.core ints face key)
          → Hears s.core ints ears face heard → Hears w ints (ears_after s.core w ints t ears) face (heard_over s.core w ints t ears face heard)
      call_told ears heard same h =
          let quiet : (key : List ℕ) → listens w ints face key ≡ false → due s.core ints face key ≡ None = λ key off. ap (λ b. cond b (meant s.core ints face key) None) (sym (same key) ∙ off) in
          still_hears w ints (tell_due Update (with_new s.core t ears) dues) (ears_after s.core w ints t ears) face (heard_over s.core w ints t ears face heard)
          (closed_beside (tell_due Update (with_new s.core t ears) dues) t seen)
          (call_hears (with_new s.core t ears) heard quiet (still_hears s.core ints ears (with_new s.core t ears) face heard (new_beside ears t) h))

      pub last_told : (ears : ToldSets) (heard : Heard) (h : Hears s.core ints ears face heard)
          → last_at face (ears_after s.core w ints t ears) ≡ Some (fold last_given h.ear.last (filter (is_to face) (neighbours_told s.core w ints t ears)))
      last_told ears heard h =
          ap (option_map (λ (e : ToldSet). e.last)) (closed_beside (tell_due Update (with_new s.core t ears) dues) t seen)
          ∙ call_last (with_new s.core t ears) h.ear heard (new_beside ears t ∙ h.there) h.sorted h.tied

-- ---- a face that a call opens
module _ (s : State) (o : Opening) where
  pub open_after : is_accepted (answer s (opening o)).outcome ≡ true → is_open s.core.next_face (settle s (opening o)).core ≡ true
  open_after =
      by_granted (λ z x. is_accepted z.outcome ≡ true → is_open s.core.next_face x.core ≡ true) s (opening o) (λ text z w it. it) (λ p places z w it. it)
      (λ h given. ap is_some (found_after_insertion nat_cmp_total exact_unsigned s.core.next_face s.core.next_face (as_opened o) s.core.faces ∙ ap (λ b. cond b (Some (as_opened o)) (at s.core.next_face s.core.faces)) (itself s.core.next_face)))
      (λ r given. absurd (false≢true given))
