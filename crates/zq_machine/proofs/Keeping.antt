-- What receivers of neighbours keep over a run is, after every call, what is due to them.
use Rattle.std.proofs.Common.{◌≡◌, ◌∙◌, refl, sym, ap, subst, ℕ, ◌^◌, ◌<◌, ◌≤◌, Bool, true, false, cond, List, [], ◌∷◌, ◌++◌, append_assoc, append-nil, filter, fold, map, Option, Some, None, arith, true≢false}
use Rattle.std.specs.Prelude.{◌==◌, ◌&&◌}
use Rattle.std.specs.BTreeMap.{is_at}
use Rattle.std.specs.Cmp.{nat_cmp_total}
use Rattle.std.specs.List.Sorted.{IsStrictlySortedBy}
use Rattle.std.specs.Option.{is_some, option_and_then, option_map_or, option_to_list}
use Rattle.std.specs.Ordering.{nat_cmp}
use Rattle.std.proofs.lemmas.Bool.{false≢true}
use Rattle.std.proofs.lemmas.Map.Lookups.{exact_unsigned}
use Rattle.std.proofs.lemmas.Option.{same_Some}
use Rattle.zq_key.proofs.Lookups.{found_after_insertion, found_after_removal}
use Rattle.zq_strategy.specs.declared.network.Telling.{Telling as TreeTelling}
use Rattle.zq_strategy.specs.Tellings.{in_order, telling_cmp}
use Rattle.zq_interests.specs.Interests.{Interests, closed_face}
use Rattle.zq_told.specs.declared.types.Reason.TheVariants.{End, Update}
use Rattle.zq_told.specs.declared.types.ToldEntry.{ToldEntry}
use Rattle.zq_told.specs.ToldSets.{ToldSet, ToldSets, last_at}
use Rattle.zq_told.specs.Receiver.{Heard, receive}
use Rattle.zq_told.specs.Telling.{lacks_ids, tell_due}
use Rattle.zq_told.specs.Laws.{is_to, last_given, told_in, differs}
use Rattle.zq_told.specs.Leaving.{AreSound, fresh_ear}
use Rattle.zq_told.proofs.Faces.{opens, stay_sound}
use Rattle.zq_told.proofs.Slotted.{none_sorted}
use Rattle.zq_interests.specs.declared.types.InterestEntry.{InterestEntry}
use Rattle.zq_tables.specs.declared.resolved.Resolved.{Resolved}
use Rattle.std.specs.Map.{keys_of}
use Rattle.zq_machine.specs.Writing.{Place, finish, without_unsent}
use Rattle.zq_machine.proofs.Writing.{fully}
use Rattle.zq_machine.specs.declared.call.Step.{Step}
use Rattle.zq_machine.proofs.DueWhole.{interests_alone}
use Rattle.zq_machine.proofs.Reading.{declare_read, withdraw_read}
use Rattle.zq_machine.proofs.Answering.{answer_exactly, end_exactly, hearing_steps, unhearing_steps, was}
use Rattle.zq_machine.proofs.Following.{AreKept, Follows, Steps, all_heard, behind_trees, by_ids, forget_at, kept_of, none_heard, onto, the_greatest, told_only}
use Rattle.zq_machine.specs.Selecting.{Manner, asked_by}
use Rattle.zq_machine.specs.declared.call.Call.{Call}
use Rattle.zq_machine.specs.declared.call.Call.TheVariants as call
use Rattle.zq_machine.specs.declared.face.OpenFace.{OpenFace}
use Rattle.zq_machine.specs.Configs.{Settings}
use Rattle.zq_machine.specs.Deciding.{accepted, changed, causes, is_accepted, lacks_told, opened, refusal_of, renamed, told_of, ears_of, interests_for, kept, granted}
use Rattle.zq_machine.specs.Due.{listens, due}
use Rattle.zq_machine.specs.Hearing.{CanBeTold, hear}
use Rattle.zq_machine.specs.Keeping.{ChangePromise, IsKept, IsNear, KeepPromise, TellsChanges, heard_in, is_told, received_in, last_in, told_by, if_told, greatest_with, with_told, AnswersInterests, EndsInterests, TellsAnswer, TellsEnd, forget_undue, heard_after, is_asking, is_due_at, last_after}
use Rattle.zq_machine.specs.Machine.{accepted_state, after, follow, state_after, step, refused_step}
use Rattle.zq_machine.specs.Messages.{Telling, TellingBody, from_hat}
use Rattle.zq_machine.specs.Neighbours.{due_on, ears_after, looked_at, neighbours_lack, neighbours_told, with_new, without_closed, marked, near_told as told_near}
use Rattle.zq_machine.specs.Receivers.{AllHear, AllTold, AreOfOpen, FaceTold, HaveChanges, Hears, makes_due}
use Rattle.zq_machine.specs.State.{Core, State, at, hat_at, hat_of, is_open, opening_state}
use Rattle.zq_machine.specs.TextCalls.{TextCall, opening, closing, declaring, withdrawing, asking, replying, ending, reporting, passing, listing, finalizing, announcing, retracting, networking, tabling, read, hearing, unhearing, said_if}
use Rattle.zq_machine.proofs.Agreed.{InOrder, granted_in_order, run_in_order}
use Rattle.zq_machine.proofs.Agreeing.{some_of}
use Rattle.zq_machine.proofs.Changing.{number_test, one_number}
use Rattle.zq_machine.proofs.Children.{after_both}
use Rattle.zq_machine.proofs.DueHeard.{due_trees}
use Rattle.zq_machine.proofs.DueLess.{listens_kept}
use Rattle.zq_machine.proofs.Frame.{run_config}
use Rattle.zq_machine.proofs.Granted.{all_passed, by_granted, settled_to, granted_is_accepted, told_by as told_by_hats}
use Rattle.zq_machine.proofs.GoingOut.{hear_ended, hear_out}
use Rattle.zq_machine.proofs.Lists.{all_weaker}
use Rattle.zq_machine.proofs.NeighbourAll.{new_sound}
use Rattle.zq_machine.proofs.NeighbourLaws.{all_told, comes_told, face_told}
use Rattle.zq_machine.proofs.NeighbourLooks.{looked_is}
use Rattle.zq_machine.proofs.NeighbourTold.{told_due, found_beside}
use Rattle.zq_machine.proofs.NeighboursTold.{due_can, neighbours}
use Rattle.zq_machine.proofs.RoutersAlone.{asks_all, hears_near, is_read, near_hears, none_to, trees_deaf}
use Rattle.zq_machine.proofs.Tells.{granted_heard}

-- ---- what a call leaves
-- a call that is no interest, nor the end of one
abbrev pub is_plain : TextCall → Bool
is_plain (hearing face id numbers sd) = false
is_plain (unhearing face id) = false
is_plain t = true

pub near_is : (c d : Core) (t : TextCall) → is_plain t ≡ true → told_near c d (interests_for c t) t (kept c t) ≡ neighbours_told c d c.interests t c.ears
near_is c d (hearing face id numbers sd) e = absurd (false≢true e)
near_is c d (unhearing face id) e = absurd (false≢true e)
near_is c d t e = refl

pub lacks_is : (c : Core) (t : TextCall) → is_plain t ≡ true → lacks_told c t ≡ neighbours_lack c (changed c t) c.interests t c.ears
lacks_is c (hearing face id numbers sd) e = absurd (false≢true e)
lacks_is c (unhearing face id) e = absurd (false≢true e)
lacks_is c t e = refl

pub kept_is : (c : Core) (t : TextCall) → is_plain t ≡ true → ears_of c t ≡ ears_after c (changed c t) c.interests t c.ears
kept_is c (hearing face id numbers sd) e = absurd (false≢true e)
kept_is c (unhearing face id) e = absurd (false≢true e)
kept_is c t e = refl

pub marks_is : (t : TextCall) (ts : List Telling) → is_plain t ≡ true → marked t ts ≡ ts
marks_is (hearing face id numbers sd) ts e = absurd (false≢true e)
marks_is (unhearing face id) ts e = absurd (false≢true e)
marks_is t ts e = refl

forgets_none : (face : ℕ) (t : TextCall) (d : Core) (heard : Heard) → is_plain t ≡ true → forget_at face t d heard ≡ heard
forgets_none face (hearing f id numbers sd) d heard e = absurd (false≢true e)
forgets_none face (unhearing f id) d heard e = absurd (false≢true e)
forgets_none face t d heard e = refl

-- to a face that stays open the same is due by the interests after the call
due_same : (c : Core) (t : TextCall) → is_plain t ≡ true → (face : ℕ) → is_open face (accepted c t) ≡ true → IsStrictlySortedBy nat_cmp (keys_of c.faces) → (key : List ℕ)
    → due (accepted c t) (accepted c t).interests face key ≡ due (accepted c t) c.interests face key
due_same c (hearing f id numbers sd) e face seen rise key = absurd (false≢true e)
due_same c (unhearing f id) e face seen rise key = absurd (false≢true e)
due_same c (closing g) e face seen rise key =
    interests_alone (accepted c (closing g)) (closed_face g.0 c.interests) c.interests face key
    (ap (λ (o : Option (List (ℕ × InterestEntry))). option_map_or (λ es. es) o []) (found_beside g.0 face c.interests (other (is_at (nat_cmp g.0) face) refl)))
  where
    other : (b : Bool) → is_at (nat_cmp g.0) face ≡ b → b ≡ false
    other true is = absurd (false≢true (sym (ap is_some (found_after_removal nat_cmp_total exact_unsigned g.0 face c.faces rise ∙ ap (λ x. cond x None (at face c.faces)) is)) ∙ seen))
    other false is = refl
due_same c t e face seen rise key = refl

next_after : (c : Core) (t : TextCall) → c.next_face ≤ (accepted c t).next_face
next_after c (opening o) = omega arith
next_after c (closing g) = omega arith
next_after c (declaring f id s i n) = omega arith
next_after c (withdrawing f id) = omega arith
next_after c (asking f s r now) = omega arith
next_after c (replying f s r) = omega arith
next_after c (ending f rid) = omega arith
next_after c (reporting reply) = omega arith
next_after c (passing now) = omega arith
next_after c (listing r table) = omega arith
next_after c (finalizing f m set) = omega arith
next_after c (announcing f s i n) = omega arith
next_after c (retracting f s n) = omega arith
next_after c (networking r net) = omega arith
next_after c (tabling f ids) = omega arith
next_after c t = omega arith

pub same_looked : (c : Core) (t : TextCall) → looked_at c (accepted c t) c.interests t ≡ looked_at c (changed c t) c.interests t
same_looked c t = looked_is c (accepted c t) c.interests t ∙ sym (looked_is c (changed c t) c.interests t)

-- a call that may make something due lacks no id where nothing refuses it
lacks_none : (c : Core) (t : TextCall) → refusal_of c t ≡ None → makes_due t ≡ true → lacks_told c t ≡ false
lacks_none c (opening o) h e = (all_passed (causes c (opening o)) h).1.1.1.1.0
lacks_none c (declaring f id s i n) h e = (all_passed (causes c (declaring f id s i n)) h).1.1.1.1.0
lacks_none c (announcing f s i n) h e = (all_passed (causes c (announcing f s i n)) h).1.1.1.1.0
lacks_none c t h e = absurd (false≢true e)

-- ---- what holds at a point of a run
pub record Keeps (first : ℕ) (c : Core) (heards : ℕ → Heard) (lasts : ℕ → ℕ) : Type 0 where
  pub ears : first < 2 ^ 32 → AreKept c
  kept : (face : ℕ) → IsNear face c → Follows c face (heards face) (lasts face)
  unborn : (face : ℕ) → c.next_face ≤ face → (heards face ≡ []) × (lasts face ≡ first)

-- what a face is told by a call, of which this was kept
record Tells (s : State) (t : TextCall) (d : Core) (face : ℕ) (heard : Heard) (last : ℕ) : Type 0 where
  ear : ToldSet
  is : IsKept ear heard last
  told : FaceTold s.core d s.core.interests t s.core.ears face ear heard

-- what the laws say of a call, by what decides after it
record Told (s : State) (t : TextCall) (d : Core) : Type 0 where
  sound : s.core.config.start.told < 2 ^ 32 → AreKept s.core → neighbours_lack s.core d s.core.interests t s.core.ears ≡ false → AreSound (ears_after s.core d s.core.interests t s.core.ears)
  enough : s.core.config.start.told < 2 ^ 32 → AreKept s.core → makes_due t ≡ false → neighbours_lack s.core d s.core.interests t s.core.ears ≡ false
  faces : AreKept s.core → AreOfOpen d (ears_after s.core d s.core.interests t s.core.ears)
  hear : AreKept s.core → AllHear d s.core.interests (ears_after s.core d s.core.interests t s.core.ears)
  ordered : IsStrictlySortedBy telling_cmp (neighbours_told s.core d s.core.interests t s.core.ears)
  stays : (face : ℕ) (heard : Heard) → is_open face s.core ≡ true → is_open face d ≡ true → (h : Hears s.core s.core.interests s.core.ears face heard)
      → FaceTold s.core d s.core.interests t s.core.ears face h.ear heard
  comes : (face : ℕ) → is_open face s.core ≡ false → is_open face d ≡ true → FaceTold s.core d s.core.interests t s.core.ears face (fresh_ear s.core.config.start.told) []

-- ---- requests that are let go change nothing of it
module _ (places : List Place) (c : Core) where
  hears_on : (ints : Interests) (ears : ToldSets) (face : ℕ) (heard : Heard) → Hears c ints ears face heard → Hears (without_unsent places c) ints ears face heard
  hears_on ints ears face heard x = onto c (without_unsent places c) ints ears face heard (λ key. refl) x

  hears_back : (ints : Interests) (ears : ToldSets) (face : ℕ) (heard : Heard) → Hears (without_unsent places c) ints ears face heard → Hears c ints ears face heard
  hears_back ints ears face heard x = onto (without_unsent places c) c ints ears face heard (λ key. refl) x

  changes_on : (ints : Interests) (face : ℕ) (ear : ToldSet) (keys : List (List ℕ)) → HaveChanges c ints face ear keys → HaveChanges (without_unsent places c) ints face ear keys
  changes_on ints face ear keys x = record { rise = x.rise; all = x.all }

  changes_back : (ints : Interests) (face : ℕ) (ear : ToldSet) (keys : List (List ℕ)) → HaveChanges (without_unsent places c) ints face ear keys → HaveChanges c ints face ear keys
  changes_back ints face ear keys x = record { rise = x.rise; all = x.all }

  near_back : (face : ℕ) → IsNear face (without_unsent places c) → IsNear face c
  near_back face n = record { opened = n.opened; near = n.near }

  keeps_on : (first : ℕ) (heards : ℕ → Heard) (lasts : ℕ → ℕ) → Keeps first c heards lasts → Keeps first (without_unsent places c) heards lasts
  keeps_on first heards lasts k = record {
    ears = λ low. let e = k.ears low in record { sound = e.sound; faces = e.faces; all = λ face seen. let x = e.all face seen in (x.0, hears_on c.interests c.ears face x.0 x.1) };
    kept = λ face n. let f = k.kept face (near_back face n) in record { hears = hears_on c.interests c.ears face (heards face) f.hears; greatest = f.greatest };
    unborn = k.unborn;
  }

  tells_on : (face : ℕ) (heard : Heard) (last : ℕ) (told : List Telling) → TellsChanges c face heard last told → TellsChanges (without_unsent places c) face heard last told
  tells_on face heard last told x = record {
    ear = x.ear;
    is = x.is;
    some = (x.some.0, changes_on c.interests face x.ear x.some.0 x.some.1);
    exactly = λ keys have. x.exactly keys (changes_back c.interests face x.ear keys have);
  }

  module _ (s : State) (t : TextCall) where
    face_back : (face : ℕ) (ear : ToldSet) (heard : Heard) → FaceTold s.core (without_unsent places c) s.core.interests t s.core.ears face ear heard → FaceTold s.core c s.core.interests t s.core.ears face ear heard
    face_back face ear heard x = record {
      keeps = hears_back s.core.interests (ears_after s.core c s.core.interests t s.core.ears) face _ x.keeps;
      some = (x.some.0, changes_back s.core.interests face ear x.some.0 x.some.1);
      exactly = λ keys have. x.exactly keys (changes_on s.core.interests face ear keys have);
      last = x.last;
    }

told_back : (s : State) (t : TextCall) (places : List Place) (c : Core) → Told s t (without_unsent places c) → Told s t c
told_back s t places c x = record {
  sound = x.sound;
  enough = x.enough;
  faces = x.faces;
  hear = λ e face seen. let y = x.hear e face seen in (y.0, hears_back places c s.core.interests (ears_after s.core c s.core.interests t s.core.ears) face y.0 y.1);
  ordered = x.ordered;
  stays = λ face heard was seen h. face_back places c s t face h.ear heard (x.stays face heard was seen h);
  comes = λ face was seen. face_back places c s t face (fresh_ear s.core.config.start.told) [] (x.comes face was seen);
}

module _ (config : Settings) (calls : List Call) (c : Call) (heards : ℕ → Heard) (lasts : ℕ → ℕ) where
  abbrev s : State
  s = state_after (opening_state config) calls

  abbrev t : TextCall
  t = read s c

  i : InOrder config s
  i = run_in_order config calls

  module _ (k : Keeps config.start.told s.core heards lasts) (h : refusal_of s.core t ≡ None) (plain : is_plain t ≡ true) where
    abbrev d : Core
    d = accepted s.core t

    j : InOrder config (accepted_state s t)
    j = granted_in_order config s c h i

    low_here : config.start.told < 2 ^ 32 → s.core.config.start.told < 2 ^ 32
    low_here low = subst (λ (x : Settings). x.start.told < 2 ^ 32) (sym (run_config calls (opening_state config))) low

    told_so : Told s t d
    told_so = settled_to (Told s t) s t h (told_back s t) by_laws
      where
        by_laws : Told s t (after s c).core
        by_laws =
            let a : AllTold s.core (after s c).core s.core.interests t s.core.ears = all_told config calls c s.core.interests s.core.ears in
            record {
              sound = λ low e enough. a.sound low e.sound enough;
              enough = λ low e none. a.enough none e.all (new_sound config s i t s.core.interests s.core.ears t low e.sound).ids;
              faces = λ e. a.faces h e.sound e.faces;
              hear = λ e. a.hear e.all;
              ordered = a.ordered;
              stays = λ face heard was seen x. face_told config calls c s.core.interests s.core.ears face heard was seen x;
              comes = λ face was seen. comes_told config calls c s.core.interests s.core.ears face was seen;
            }

    ears_are : ears_after s.core d s.core.interests t s.core.ears ≡ d.ears
    ears_are = ap (λ l. without_closed t (tell_due Update (with_new s.core t s.core.ears) l)) (same_looked s.core t) ∙ sym (kept_is s.core t plain)

    due_is : (face : ℕ) → is_open face d ≡ true → (key : List ℕ) → due d d.interests face key ≡ due d s.core.interests face key
    due_is face seen = due_same s.core t plain face seen i.sound.sorted

    none_lacks : config.start.told < 2 ^ 32 → AreKept s.core → neighbours_lack s.core d s.core.interests t s.core.ears ≡ false
    none_lacks low e0 = by (makes_due t) refl
      where
        by : (b : Bool) → makes_due t ≡ b → neighbours_lack s.core d s.core.interests t s.core.ears ≡ false
        by true e = ap (lacks_ids Update (with_new s.core t s.core.ears)) (same_looked s.core t) ∙ sym (lacks_is s.core t plain) ∙ lacks_none s.core t h e
        by false e = told_so.enough (low_here low) e0 e

    -- a face outside regions of routers is told what it is told as a neighbour
    abbrev near_told : ℕ → List TreeTelling
    near_told face = filter (is_to face) (neighbours_told s.core d s.core.interests t s.core.ears)

    near_sorted : IsStrictlySortedBy telling_cmp (neighbours config s i t h j)
    near_sorted = subst (IsStrictlySortedBy telling_cmp) (sym (near_is s.core d t plain)) told_so.ordered

    only_near : (face : ℕ) → listens d (asks_all face) face [] ≡ true → filter (is_to face) (in_order (due_trees config s i t ++ neighbours config s i t h j)) ≡ near_told face
    only_near face hears =
        behind_trees face (due_trees config s i t) (neighbours config s i t h j) (none_to d (due_trees config s i t) (trees_deaf config s i t h j (is_read s c)) face hears) near_sorted
        ∙ ap (filter (is_to face)) (near_is s.core d t plain)

    heard_here : {K : Type 0} (f : K → TellingBody → K) (g : K → TreeTelling → K) → ((kept : K) (u : TreeTelling) → f kept (from_hat u).body ≡ g kept u) → (face : ℕ) (kept : K) → listens d (asks_all face) face [] ≡ true
        → fold g kept (near_told face) ≡ fold (if_told f face) kept (told_of s.core t)
    heard_here f g same face kept hears =
        sym (ap (fold (if_told f face) kept) (marks_is t (map from_hat (in_order (due_trees config s i t ++ neighbours config s i t h j))) plain)
        ∙ all_heard f g same face kept (in_order (due_trees config s i t ++ neighbours config s i t h j)) ∙ ap (fold g kept) (only_near face hears))

    moved : (face : ℕ) (heard : Heard) → is_open face d ≡ true → Hears d s.core.interests (ears_after s.core d s.core.interests t s.core.ears) face heard → Hears d d.interests d.ears face heard
    moved face heard seen x = subst (λ z. Hears d d.interests z face heard) ears_are (record { ear = x.ear; there = x.there; sorted = x.sorted; tied = x.tied; told = λ key. x.told key ∙ sym (due_is face seen key) })

    -- the number of a face that the call opens
    new_number : (x : TextCall) (face : ℕ) → is_open face (accepted s.core x) ≡ true → is_open face s.core ≡ false → s.core.next_face ≡ face
    new_number (opening o) face seen was =
        by (is_at (nat_cmp s.core.next_face) face) refl (sym (ap is_some (found_after_insertion nat_cmp_total exact_unsigned s.core.next_face face (opened o) s.core.faces)) ∙ seen)
      where
        by : (b : Bool) → is_at (nat_cmp s.core.next_face) face ≡ b → is_some (cond b (Some (opened o)) (at face s.core.faces)) ≡ true → s.core.next_face ≡ face
        by true e x = one_number s.core.next_face face e
        by false e x = absurd (true≢false (sym x ∙ was))
    new_number (closing g) face seen was =
        absurd (by (is_at (nat_cmp g.0) face) (sym (ap is_some (found_after_removal nat_cmp_total exact_unsigned g.0 face s.core.faces i.sound.sorted)) ∙ seen))
      where
        by : (b : Bool) → is_some (cond b None (at face s.core.faces)) ≡ true → ⊥
        by true x = false≢true x
        by false x = true≢false (sym x ∙ was)
    new_number x face seen was = absurd (true≢false (sym seen ∙ was))

    open_home : (face : ℕ) → is_open face d ≡ true → is_some (hat_of face d) ≡ true
    open_home face seen =
        let x : (o : OpenFace) × (at face d.faces ≡ Some o) = some_of (at face d.faces) seen in
        ap (λ z. is_some (option_and_then (λ (o : OpenFace). hat_at o.region d.hats) z)) x.1 ∙ j.tied.homes face x.0 x.1

    hears_all : (face : ℕ) → IsNear face d → listens d (asks_all face) face [] ≡ true
    hears_all face n = near_hears d face (open_home face n.opened) n.near

    tells_at : (face : ℕ) → IsNear face d → Tells s t d face (heards face) (lasts face)
    tells_at face n = by (is_open face s.core) refl
      where
        by : (b : Bool) → is_open face s.core ≡ b → Tells s t d face (heards face) (lasts face)
        by true was =
            let before : listens s.core (asks_all face) face [] ≡ true = sym (listens_kept config s i (asks_all face) face [] was t n.opened) ∙ hears_all face n in
            let f : Follows s.core face (heards face) (lasts face) = k.kept face (record { opened = was; near = hears_near s.core face before }) in
            record { ear = f.hears.ear; is = kept_of s.core face (heards face) (lasts face) f; told = told_so.stays face (heards face) was n.opened f.hears }
        by false was =
            let none = k.unborn face (let e : s.core.next_face ≡ face = new_number t face n.opened was in omega (arith, e)) in
            subst (λ (x : Heard × ℕ). Tells s t d face x.0 x.1) (λ m. (sym none.0 m, sym none.1 m))
            (record {
              ear = fresh_ear s.core.config.start.told;
              is = record { sorted = none_sorted ToldEntry; tied = opens.tied s.core.config.start.told; greatest = ap (λ (x : Settings). x.start.told) (run_config calls (opening_state config)) };
              told = told_so.comes face was n.opened;
            })

    plain_steps : Steps config.start.told s t d heards lasts
    plain_steps = record {
      ears = λ low e. record {
        sound = subst AreSound ears_are (told_so.sound (low_here low) e (none_lacks low e));
        faces = subst (AreOfOpen d) ears_are (told_so.faces e);
        all = λ face seen. let x = told_so.hear e face seen in (x.0, moved face x.0 seen x.1);
      };
      kept = λ face n.
          let x = tells_at face n in
          record {
            hears =
                subst (Hears d d.interests d.ears face)
                (heard_here with_told receive by_ids face (heards face) (hears_all face n) ∙ sym (forgets_none face t d (fold (if_told with_told face) (heards face) (told_of s.core t)) plain))
                (moved face _ n.opened x.told.keeps);
            greatest =
                ap (last_at face) (sym ears_are) ∙ x.told.last
                ∙ ap Some (ap (λ l. fold last_given l (near_told face)) x.is.greatest ∙ heard_here greatest_with last_given the_greatest face (lasts face) (hears_all face n));
          };
    }

    -- the difference, and nothing else
    changes : (face : ℕ) → IsNear face d → TellsChanges d face (heards face) (lasts face) (told_of s.core t)
    changes face n =
        let x = tells_at face n in
        record {
          ear = x.ear;
          is = x.is;
          some = (x.told.some.0, record { rise = x.told.some.1.rise; all = λ key change. x.told.some.1.all key (ap (λ o. differs x.ear.told (key, o)) (sym (due_is face n.opened key)) ∙ change) });
          exactly = λ keys have.
              ap (filter (is_told face)) (marks_is t (map from_hat (in_order (due_trees config s i t ++ neighbours config s i t h j))) plain)
              ∙ told_only face (in_order (due_trees config s i t ++ neighbours config s i t h j))
              ∙ ap (map from_hat)
              (only_near face (hears_all face n)
              ∙ sym (x.told.exactly keys (record { rise = have.rise; all = λ key change. have.all key (ap (λ o. differs x.ear.told (key, o)) (due_is face n.opened key) ∙ change) })))
              ∙ (λ m. map from_hat (told_in Update face x.ear (map (λ key. (key, sym (due_is face n.opened key) m)) keys)));
        }

  -- ---- any call that nothing refuses
  module _ (k : Keeps config.start.told s.core heards lasts) (h : refusal_of s.core t ≡ None) where
    then_core : Core
    then_core = accepted s.core t

    then_order : InOrder config (accepted_state s t)
    then_order = granted_in_order config s c h i

    -- a face that is yet to come is told nothing
    unborn_then : {K : Type 0} (f : K → TellingBody → K) (face : ℕ) → (accepted s.core t).next_face ≤ face → (kept first : K) → kept ≡ first → fold (if_told f face) kept (told_of s.core t) ≡ first
    unborn_then f face le kept first is =
        none_heard f face kept (told_of s.core t)
        (all_weaker (CanBeTold (renamed s t)) (λ (u : Telling). is_told face u ≡ false) (λ u can. apart u.to.0 (then_order.sound.open_below u.to.0 (sym (then_order.tied.named u.to.0) ∙ can.0))) (told_of s.core t) (due_can config s i t h then_order))
        ∙ is
      where
        apart : (to : ℕ) → to < (accepted s.core t).next_face → (face == to) ≡ false
        apart to below = by (face == to) refl
          where
            by : (b : Bool) → (face == to) ≡ b → b ≡ false
            by true e = let same : face ≡ to = one_number face to (number_test face to ∙ e) in absurd (omega (arith, same, below, le))
            by false e = refl

    was_unborn : (face : ℕ) → (accepted s.core t).next_face ≤ face → s.core.next_face ≤ face
    was_unborn face le = let first : s.core.next_face ≤ (accepted s.core t).next_face = next_after s.core t in omega (arith, first, le)

    forgets_nothing : (face : ℕ) (x : TextCall) (d : Core) → forget_at face x d [] ≡ []
    forgets_nothing face (hearing f id manner sd) d = by (f.0 == face)
      where
        by : (b : Bool) → cond b (filter (is_due_at face d) []) [] ≡ []
        by true = refl
        by false = refl
    forgets_nothing face (unhearing f id) d = by (f.0 == face)
      where
        by : (b : Bool) → cond b (filter (is_due_at face d) []) [] ≡ []
        by true = refl
        by false = refl
    forgets_nothing face x d = refl

    steps_by : (x : TextCall) → t ≡ x → Steps config.start.told s t (accepted s.core t) heards lasts
    steps_by (hearing face id numbers sd) is =
        subst (λ z. Steps config.start.told s z (accepted s.core z) heards lasts) (sym is) (hearing_steps s face id numbers sd (ap (refusal_of s.core) (sym is) ∙ h) config.start.told heards lasts k.kept)
    steps_by (unhearing face id) is =
        subst (λ z. Steps config.start.told s z (accepted s.core z) heards lasts) (sym is) (unhearing_steps s face id (ap (refusal_of s.core) (sym is) ∙ h) config.start.told heards lasts k.kept)
    steps_by x is = plain_steps k h (ap is_plain is)

    call_keeps : Keeps config.start.told (accepted s.core t) (λ face. forget_at face t (accepted s.core t) (fold (if_told with_told face) (heards face) (told_of s.core t))) (λ face. fold (if_told greatest_with face) (lasts face) (told_of s.core t))
    call_keeps =
        let steps = steps_by t refl in
        record {
          ears = λ low. steps.ears low (k.ears low);
          kept = steps.kept;
          unborn = λ face le.
              let none = k.unborn face (was_unborn face le) in (
                ap (forget_at face t (accepted s.core t)) (unborn_then with_told face le (heards face) [] none.0) ∙ forgets_nothing face t (accepted s.core t),
                unborn_then greatest_with face le (lasts face) config.start.told none.1,
              );
        }

  -- what is forgotten, by the answer
  both_true : (b : Bool) → (b && true) ≡ b
  both_true true = refl
  both_true false = refl

  both_false : (b : Bool) → (b && false) ≡ false
  both_false true = refl
  both_false false = refl

  granted_forgets : (x : Call) (face : ℕ) (z : Step) → is_accepted z.outcome ≡ true → (d : Core) (heard : Heard) → forget_undue face z d x heard ≡ forget_at face (read s x) d heard
  granted_forgets (call.Interest f id keys aggregate w) face z given d heard = ap (λ b. cond b (filter (is_due_at face d) heard) heard) (ap (λ b. (f.0 == face) && b) given ∙ both_true (f.0 == face))
  granted_forgets (call.InterestFinal f id) face z given d heard = ap (λ b. cond b (filter (is_due_at face d) heard) heard) (ap (λ b. (f.0 == face) && b) given ∙ both_true (f.0 == face))
  granted_forgets (call.DeclareQueryable f id w info node) face z given d heard = sym (declare_read (λ x. forget_at face x d heard ≡ heard) s f id w info node refl refl)
  granted_forgets (call.UndeclareQueryable f id w node) face z given d heard = sym (withdraw_read (λ x. forget_at face x d heard ≡ heard) s f id w node refl refl)
  granted_forgets x face z given d heard = refl

  refused_forgets : (x : Call) (face : ℕ) (z : Step) → is_accepted z.outcome ≡ false → (d : Core) (heard : Heard) → forget_undue face z d x heard ≡ heard
  refused_forgets (call.Interest f id keys aggregate w) face z given d heard = ap (λ b. cond b (filter (is_due_at face d) heard) heard) (ap (λ b. (f.0 == face) && b) given ∙ both_false (f.0 == face))
  refused_forgets (call.InterestFinal f id) face z given d heard = ap (λ b. cond b (filter (is_due_at face d) heard) heard) (ap (λ b. (f.0 == face) && b) given ∙ both_false (f.0 == face))
  refused_forgets x face z given d heard = refl

  -- what is kept once this was heard
  abbrev KeepsBy : Step → Core → List Telling → Type 0
  KeepsBy z left told = Keeps config.start.told left (λ face. forget_undue face z left c (fold (if_told with_told face) (heards face) told)) (λ face. fold (if_told greatest_with face) (lasts face) told)

  step_keeps : Keeps config.start.told s.core heards lasts → Keeps config.start.told (after s c).core (λ face. heard_after face s c (heards face)) (λ face. last_after face s c (lasts face))
  step_keeps k =
      by_granted
      (λ z w. Keeps config.start.told w.core (λ face. forget_undue face z w.core c (fold (if_told with_told face) (heards face) (hear z.handed (follow s t).names))) (λ face. fold (if_told greatest_with face) (lasts face) (hear z.handed (follow s t).names))) s t
      (λ text z w it. subst (KeepsBy z w.core) (sym (hear_out text z.handed w.gates (follow s t).names)) it)
      (λ p places z w it.
      subst (KeepsBy z (without_unsent (p ∷ places) w.core)) (sym (hear_ended (finish w.core (p ∷ places)).finals z.handed (follow s t).names))
      (keeps_on (p ∷ places) w.core config.start.told _ _ it))
      (λ h.
      subst (λ (x : (ℕ → Heard) × (ℕ → ℕ)). Keeps config.start.told (accepted s.core t) x.0 x.1)
      (λ m. (
        λ face.
            sym (ap (λ l. forget_undue face (fully s.names (told_by_hats s t) (granted s.core t)) (accepted s.core t) c (fold (if_told with_told face) (heards face) l)) (granted_heard config s c i h)
            ∙ granted_forgets c face (fully s.names (told_by_hats s t) (granted s.core t)) (granted_is_accepted s.core t h) (accepted s.core t) (fold (if_told with_told face) (heards face) (told_of s.core t))) m,
        λ face. sym (ap (fold (if_told greatest_with face) (lasts face)) (granted_heard config s c i h)) m,
      ))
      (call_keeps k h))
      (λ r. subst (λ f. Keeps config.start.told s.core f lasts) (λ m face. sym (refused_forgets c face (refused_step r) refl s.core (heards face)) m) k)

  step_changes : Keeps config.start.told s.core heards lasts → is_plain t ≡ true → is_accepted (step s c).outcome ≡ true → (face : ℕ) → IsNear face (after s c).core
      → TellsChanges (after s c).core face (heards face) (lasts face) (told_by s c)
  step_changes k plain =
      by_granted (λ z w. is_accepted z.outcome ≡ true → (face : ℕ) → IsNear face w.core → TellsChanges w.core face (heards face) (lasts face) (hear z.handed (follow s t).names)) s t
      (λ text z w it given face n. subst (TellsChanges w.core face (heards face) (lasts face)) (sym (hear_out text z.handed w.gates (follow s t).names)) (it given face n))
      (λ p places z w it given face n.
      subst (TellsChanges (without_unsent (p ∷ places) w.core) face (heards face) (lasts face)) (sym (hear_ended (finish w.core (p ∷ places)).finals z.handed (follow s t).names))
      (tells_on (p ∷ places) w.core face (heards face) (lasts face) _ (it given face (near_back (p ∷ places) w.core face n))))
      (λ h given face n. subst (TellsChanges (accepted s.core t) face (heards face) (lasts face)) (sym (granted_heard config s c i h)) (changes k h plain face n))
      (λ r given. absurd (false≢true given))

-- ---- over a run
module _ (config : Settings) where
  abbrev pub KeepsAll : List Call → Type 0
  KeepsAll calls = Keeps config.start.told (state_after (opening_state config) calls).core (λ face. heard_in face config calls) (λ face. last_in face config calls)

  received_both : {K : Type 0} (f : State → Call → K → K) (before later : List Call) (s : State) (kept : K) → received_in f s (before ++ later) kept ≡ received_in f (state_after s before) later (received_in f s before kept)
  received_both f [] later s kept = refl
  received_both f (c ∷ before) later s kept = received_both f before later (after s c) (f s c kept)

  one_more : (calls : List Call) (c : Call) → KeepsAll calls → KeepsAll (calls ++ c ∷ [])
  one_more calls c k =
      subst (λ (x : State × ((ℕ → Heard) × (ℕ → ℕ))). Keeps config.start.told x.0.core x.1.0 x.1.1)
      (λ m. (
        sym (after_both calls (c ∷ []) (opening_state config)) m,
        (
          λ face. sym (received_both (heard_after face) calls (c ∷ []) (opening_state config) []) m,
          λ face. sym (received_both (last_after face) calls (c ∷ []) (opening_state config) config.start.told) m,
        ),
      ))
      (step_keeps config calls c (λ face. heard_in face config calls) (λ face. last_in face config calls) k)

  more : (calls rest : List Call) → KeepsAll calls → KeepsAll (calls ++ rest)
  more calls [] k = subst KeepsAll (sym (append-nil calls)) k
  more calls (c ∷ rest) k = subst KeepsAll (append_assoc calls (c ∷ []) rest) (more (calls ++ c ∷ []) rest (one_more calls c k))

  first_keeps : KeepsAll []
  first_keeps = record {
    ears = λ low. record { sound = stay_sound.first; faces = λ face. refl; all = λ face seen. absurd (false≢true seen) };
    kept = λ face n. absurd (false≢true n.opened);
    unborn = λ face le. (refl, refl);
  }

  pub run_keeps : (calls : List Call) → KeepsAll calls
  run_keeps calls = more [] calls first_keeps

pub keep_promise : (config : Settings) (calls : List Call) → KeepPromise config calls
keep_promise config calls before rest is face n =
    let s : State = state_after (opening_state config) before in
    let f : Follows s.core face (heard_in face config before) (last_in face config before) = (run_keeps config before).kept face n in
    record {
      due = told_due s.core s.core.interests s.core.ears face (heard_in face config before) f.hears;
      ear = f.hears.ear;
      there = f.hears.there;
      is = kept_of s.core face (heard_in face config before) (last_in face config before) f;
    }

plain_read : (s : State) (c : Call) → is_asking c ≡ false → is_plain (read s c) ≡ true
plain_read s (call.Interest f id keys aggregate wire) e = absurd (true≢false e)
plain_read s (call.InterestFinal f id) e = absurd (true≢false e)
plain_read s (call.DeclareQueryable f id w info node) e = declare_read (λ x. is_plain x ≡ true) s f id w info node refl refl
plain_read s (call.UndeclareQueryable f id w node) e = withdraw_read (λ x. is_plain x ≡ true) s f id w node refl refl
plain_read s c e = refl

pub change_promise : (config : Settings) (calls : List Call) → ChangePromise config calls
change_promise config calls before rest c is plain given face n =
    step_changes config before c (λ f. heard_in f config before) (λ f. last_in f config before) (run_keeps config before) (plain_read (state_after (opening_state config) before) c plain) given face n

-- an interest is answered by all that is due
pub answers_interests : (config : Settings) (calls : List Call) → AnswersInterests config calls
answers_interests config calls before rest face id keys aggregate wire is =
    let s : State = state_after (opening_state config) before in
    let sd : Option Resolved = said_if face wire s in
    let m : Manner = record { keys = keys; aggregate = aggregate } in
    let kept = (run_keeps config before).kept in
    by_granted
    (λ z w. is_accepted z.outcome ≡ true → IsNear face.0 w.core → TellsAnswer w.core face id (asked_by m sd) (heard_in face.0 config before) (last_in face.0 config before) (hear z.handed (follow s (hearing face id m sd)).names))
    s (hearing face id m sd)
    (λ text z w it given n. let x = it given n in record { ear = x.ear; is = x.is; exactly = hear_out text z.handed w.gates (follow s (hearing face id m sd)).names ∙ x.exactly })
    (λ p places z w it given n.
    let x = it given (near_back (p ∷ places) w.core face.0 n) in
    record { ear = x.ear; is = x.is; exactly = hear_ended (finish w.core (p ∷ places)).finals z.handed (follow s (hearing face id m sd)).names ∙ x.exactly })
    (λ h given n.
    let f : Follows s.core face.0 (heard_in face.0 config before) (last_in face.0 config before) = kept face.0 (record { opened = n.opened; near = n.near }) in
    record {
      ear = f.hears.ear;
      is = kept_of s.core face.0 (heard_in face.0 config before) (last_in face.0 config before) f;
      exactly = granted_heard config s (call.Interest face id keys aggregate wire) (run_in_order config before) h ∙ answer_exactly s face id m sd h f.hears.ear f.hears.there;
    })
    (λ r given. absurd (false≢true given))

-- its end tells at most of its own key
pub ends_interests : (config : Settings) (calls : List Call) → EndsInterests config calls
ends_interests config calls before rest face id asked is given n there =
    let s : State = state_after (opening_state config) before in
    let kept = (run_keeps config before).kept in
    by_granted
    (λ z w. is_accepted z.outcome ≡ true → IsNear face.0 w.core → TellsEnd w.core face asked (heard_in face.0 config before) (last_in face.0 config before) (hear z.handed (follow s (unhearing face id)).names))
    s (unhearing face id)
    (λ text z w it given n. let x = it given n in record { ear = x.ear; is = x.is; exactly = hear_out text z.handed w.gates (follow s (unhearing face id)).names ∙ x.exactly })
    (λ p places z w it given n.
    let x = it given (near_back (p ∷ places) w.core face.0 n) in
    record { ear = x.ear; is = x.is; exactly = hear_ended (finish w.core (p ∷ places)).finals z.handed (follow s (unhearing face id)).names ∙ x.exactly })
    (λ h given n.
    let f : Follows s.core face.0 (heard_in face.0 config before) (last_in face.0 config before) = kept face.0 (record { opened = n.opened; near = n.near }) in
    let one : (was s face id h).0 ≡ asked = same_Some _ _ (sym (was s face id h).1 ∙ there) in
    record {
      ear = f.hears.ear;
      is = kept_of s.core face.0 (heard_in face.0 config before) (last_in face.0 config before) f;
      exactly =
          granted_heard config s (call.InterestFinal face id) (run_in_order config before) h
          ∙ end_exactly s face id h (heard_in face.0 config before) f.hears
          ∙ ap (λ (x : InterestEntry). map from_hat (told_in End face.0 f.hears.ear (map (due_on (accepted s.core (unhearing face id)) (accepted s.core (unhearing face id)).interests face.0) (option_to_list x.key)))) one;
    })
    (λ r given. absurd (false≢true given)) given n
