-- What each face asks to hear is what the calls of the run and their answers make of it; and a face that is not open asks for nothing.
use Rattle.std.proofs.Common.{◌≡◌, ◌∙◌, refl, sym, ap, ℕ, Bool, true, false, cond, not, List, [], ◌∷◌, Option, Some, None, true≢false}
use Rattle.std.specs.Prelude.{◌==◌}
use Rattle.std.specs.BTreeMap.{insert_entry, is_at}
use Rattle.std.specs.List.Sorted.{IsStrictlySortedBy}
use Rattle.std.specs.Map.{keys_of, remove_entry}
use Rattle.std.specs.Option.{is_some, option_map, option_map_or}
use Rattle.std.specs.Ordering.{nat_cmp}
use Rattle.std.proofs.lemmas.Cmp.{nat_cmp_total}
use Rattle.std.proofs.lemmas.Map.Lookups.{exact_unsigned}
use Rattle.zq_message.specs.declared.message.FaceId.{FaceId}
use Rattle.zq_message.specs.declared.message.WireExpr.{WireExpr}
use Rattle.zq_key.proofs.Lookups.{found_after_insertion, found_after_removal}
use Rattle.zq_key.proofs.Sorted.{sorted_in, sorted_out, sorted_write}
use Rattle.zq_interests.specs.Interests.{Asked, Interests, interests_of}
use Rattle.zq_tables.specs.Naming.{face_naming, said_of}
use Rattle.zq_machine.specs.declared.call.Call.{Call}
use Rattle.zq_machine.specs.declared.call.Call.TheVariants as call
use Rattle.zq_machine.specs.declared.face.OpenFace.{OpenFace}
use Rattle.zq_machine.specs.Configs.{Settings}
use Rattle.zq_machine.specs.Gates.{entered_by, gate_at, space_of}
use Rattle.zq_machine.specs.Deciding.{accepted, causes, opened, refusal_of}
use Rattle.zq_machine.specs.Machine.{after, state_after, step, steps_from}
use Rattle.zq_machine.specs.Selecting.{Manner, asked_by}
use Rattle.zq_machine.specs.Standing.{Standing, asked_at, asking_after, asking_by, asking_in, standing_at}
use Rattle.zq_machine.specs.State.{State, at, is_open, opening_state}
use Rattle.zq_machine.specs.TextCalls.{TextCall, closing, hearing, read, said_if, unhearing}
use Rattle.zq_machine.proofs.Agreed.{InOrder, granted_in_order, stays_in_order, opened_face, opening_in_order}
use Rattle.zq_machine.proofs.Always.{after_kept}
use Rattle.zq_machine.proofs.Changing.{number_test, one_number}
use Rattle.zq_machine.proofs.DueAsked.{listed, listed_at, none_without, with_one, without_one, written_at}
use Rattle.zq_machine.proofs.Finals.{none_sorted}
use Rattle.zq_machine.proofs.Granted.{all_passed, by_granted, granted_is_accepted}
use Rattle.zq_machine.proofs.Reading.{declare_read, withdraw_read}
use Rattle.zq_machine.proofs.Standing.{before, call_stands, numbers_are, stands_so}

-- the interests of faces stand in order of the faces
abbrev AreRising : State → Type 0
AreRising s = IsStrictlySortedBy nat_cmp (keys_of s.core.interests)

rising_after : (s : State) (c : Call) → AreRising s → AreRising (after s c)
rising_after s c rise = by_granted (λ t z. AreRising z) s (read s c) (λ text z w it. it) (λ p places z w it. it) (λ h. by (read s c)) (λ r. rise)
  where
    by : (t : TextCall) → IsStrictlySortedBy nat_cmp (keys_of (accepted s.core t).interests)
    by (hearing face id keys sd) = sorted_in nat_cmp_total s.core.interests face.0 (with_one face.0 id (asked_by keys sd) s.core.interests) rise
    by (unhearing face id) = sorted_write nat_cmp (is_at (nat_cmp face.0)) (without_one face.0 id s.core.interests) s.core.interests rise
    by (closing face) = sorted_out nat_cmp (is_at (nat_cmp face.0)) s.core.interests rise
    by t = rise

-- ---- one call
module _ (config : Settings) (s : State) (i : InOrder config s) (rise : AreRising s) (q : ℕ) where
  abbrev ints : Interests
  ints = s.core.interests

  abbrev Makes : Call → Type 0
  Makes c = interests_of q (accepted s.core (read s c)).interests ≡ asking_by q c (standing_at q s) (interests_of q ints)

  -- by the two tests of a number
  either : (f : FaceId) (more others : Asked) → (f.0 ≡ q → more ≡ others) → cond (is_at (nat_cmp f.0) q) more (interests_of q ints) ≡ cond (f.0 == q) others (interests_of q ints)
  either f more others same = by (is_at (nat_cmp f.0) q) refl ∙ ap (λ b. cond b others (interests_of q ints)) (number_test f.0 q)
    where
      by : (b : Bool) → is_at (nat_cmp f.0) q ≡ b → cond (is_at (nat_cmp f.0) q) more (interests_of q ints) ≡ cond (is_at (nat_cmp f.0) q) others (interests_of q ints)
      by true e = rw e (same (one_number f.0 q e))
      by false e = rw e refl

  -- what a face asks is what others have written for it
  picked : (b : Bool) (more : Asked) → listed ints 0 more q b ≡ cond b more (interests_of q ints)
  picked true more = refl
  picked false more = refl

  granted_asks : (c : Call) → refusal_of s.core (read s c) ≡ None → Makes c
  granted_asks (call.Interest f id keys aggregate w) h =
      listed_at ints f.0 (with_one f.0 id (asked_by manner (said_if f w s)) ints) q
      ∙ picked (is_at (nat_cmp f.0) q) (with_one f.0 id (asked_by manner (said_if f w s)) ints)
      ∙ either f (with_one f.0 id (asked_by manner (said_if f w s)) ints) (now q) here
    where
      manner : Manner
      manner = record { keys = keys; aggregate = aggregate }

      x : (o : OpenFace) × (at f.0 s.core.faces ≡ Some o)
      x = opened_face s i.sound i.tied f.0 (all_passed (causes s.core (read s (call.Interest f id keys aggregate w))) h).0

      numbers : face_naming f.0 s.names ≡ (before s.gates s.core.faces s.core.hats s.names i.tied f.0 x.0 x.1).numbers
      numbers = numbers_are s.gates s.core.faces s.core.hats s.names i.tied f.0 x.0 x.1

      now : ℕ → Asked
      now m = option_map_or (λ (st : Standing). insert_entry nat_cmp (interests_of m ints) id (asked_at manner w st)) (standing_at m s) (interests_of m ints)

      at_face : with_one f.0 id (asked_by manner (said_if f w s)) ints ≡ now f.0
      at_face =
          (λ j. insert_entry nat_cmp (interests_of f.0 ints) id (asked_by manner (option_map (λ (x : WireExpr). said_of (numbers j) (entered_by (space_of (gate_at f.0 s.gates)) x)) w)))
          ∙ sym (ap (λ o. option_map_or (λ (st : Standing). insert_entry nat_cmp (interests_of f.0 ints) id (asked_at manner w st)) o (interests_of f.0 ints)) (stands_so s.gates s.core.faces s.core.hats s.names i.tied f.0 x.0 x.1))

      here : f.0 ≡ q → with_one f.0 id (asked_by manner (said_if f w s)) ints ≡ now q
      here e = at_face ∙ ap now e
  granted_asks (call.InterestFinal f id) h =
      written_at ints f.0 (without_one f.0 id ints) q (none_without f.0 id ints)
      ∙ picked (is_at (nat_cmp f.0) q) (without_one f.0 id ints)
      ∙ either f (without_one f.0 id ints) (without_one q id ints) (λ e. ap (λ m. without_one m id ints) e)
  granted_asks (call.Close f) h =
      ap (λ (o : Option Asked). option_map_or (λ es. es) o []) (found_after_removal nat_cmp_total exact_unsigned f.0 q ints rise)
      ∙ by (is_at (nat_cmp f.0) q)
      ∙ either f [] [] (λ e. refl)
    where
      by : (b : Bool) → option_map_or (λ (es : Asked). es) (cond b None (at q ints)) [] ≡ cond b [] (interests_of q ints)
      by true = refl
      by false = refl
  granted_asks (call.DeclareQueryable f id w info node) h = ap (interests_of q) (declare_read (λ t. (accepted s.core t).interests ≡ ints) s f id w info node refl refl)
  granted_asks (call.UndeclareQueryable f id w node) h = ap (interests_of q) (withdraw_read (λ t. (accepted s.core t).interests ≡ ints) s f id w node refl refl)
  granted_asks c h = refl

  pub call_asks : (c : Call) → interests_of q (after s c).core.interests ≡ asking_after q c (step s c) (standing_at q s) (interests_of q ints)
  call_asks c =
      by_granted (λ t z. interests_of q z.core.interests ≡ asking_after q c t (standing_at q s) (interests_of q ints)) s (read s c) (λ text z w it. it) (λ p places z w it. it)
      (λ h. granted_asks c h ∙ ap (λ b. cond b (asking_by q c (standing_at q s) (interests_of q ints)) (interests_of q ints)) (sym (granted_is_accepted s.core (read s c) h)))
      (λ r. refl)

-- ---- a run
run_asks : (config : Settings) (q : ℕ) (cs : List Call) (s : State) → InOrder config s → AreRising s
    → interests_of q (state_after s cs).core.interests ≡ asking_in config q cs (steps_from s cs) (standing_at q s) (interests_of q s.core.interests)
run_asks config q [] s i rise = refl
run_asks config q (c ∷ cs) s i rise =
    run_asks config q cs (after s c) (after_kept (InOrder config) (granted_in_order config) (stays_in_order config) s c i) (rising_after s c rise)
    ∙ (λ j. asking_in config q cs (steps_from (after s c) cs) (call_stands config q s i c j) (call_asks config s i rise q c j))

pub all_asked : (config : Settings) (calls : List Call) (face : ℕ) → interests_of face (state_after (opening_state config) calls).core.interests ≡ asking_in config face calls (steps_from (opening_state config) calls) None []
all_asked config calls face = run_asks config face calls (opening_state config) (opening_in_order config) none_sorted

-- ---- a face that is not open asks for nothing
abbrev pub AskWhereOpen : State → Type 0
AskWhereOpen s = (q : ℕ) → is_open q s.core ≡ false → interests_of q s.core.interests ≡ []

module _ (config : Settings) (s : State) (i : InOrder config s) (rise : AreRising s) (was : AskWhereOpen s) (q : ℕ) where
  -- the face of an interest, and of the end of one, is open
  by_face : (f : FaceId) (more : Asked) → not (is_open f.0 s.core) ≡ false → is_open q s.core ≡ false → cond (f.0 == q) more (interests_of q s.core.interests) ≡ []
  by_face f more opens shut = by (f.0 == q) refl
    where
      by : (b : Bool) → (f.0 == q) ≡ b → cond b more (interests_of q s.core.interests) ≡ []
      by true e = absurd (shut_or (is_open q s.core) shut (ap (λ m. not (is_open m s.core)) (sym (one_number f.0 q (number_test f.0 q ∙ e))) ∙ opens))
        where
          shut_or : (b : Bool) → b ≡ false → not b ≡ false → ⊥
          shut_or true x y = true≢false x
          shut_or false x y = true≢false y
      by false e = was q shut

  opened_before : (o : OpenFace) → is_some (at q (insert_entry nat_cmp s.core.faces s.core.next_face o)) ≡ false → is_open q s.core ≡ false
  opened_before o shut = by (is_at (nat_cmp s.core.next_face) q) (sym (ap is_some (found_after_insertion nat_cmp_total exact_unsigned s.core.next_face q o s.core.faces)) ∙ shut)
    where
      by : (b : Bool) → is_some (cond b (Some o) (at q s.core.faces)) ≡ false → is_open q s.core ≡ false
      by true e = absurd (true≢false e)
      by false e = e

  left_before : (f : ℕ) → (f == q) ≡ false → is_some (at q (remove_entry (is_at (nat_cmp f)) s.core.faces)) ≡ false → is_open q s.core ≡ false
  left_before f other shut =
      ap (λ b. is_some (cond b None (at q s.core.faces))) (sym (number_test f q ∙ other))
      ∙ sym (ap is_some (found_after_removal nat_cmp_total exact_unsigned f q s.core.faces i.sound.sorted))
      ∙ shut

  granted_closed : (c : Call) → refusal_of s.core (read s c) ≡ None → is_open q (accepted s.core (read s c)) ≡ false → asking_by q c (standing_at q s) (interests_of q s.core.interests) ≡ []
  granted_closed (call.Interest f id keys aggregate w) h shut =
      by_face f (option_map_or (λ (st : Standing). insert_entry nat_cmp (interests_of q s.core.interests) id (asked_at (record { keys = keys; aggregate = aggregate }) w st)) (standing_at q s) (interests_of q s.core.interests))
      (all_passed (causes s.core (read s (call.Interest f id keys aggregate w))) h).0 shut
  granted_closed (call.InterestFinal f id) h shut = by_face f (without_one q id s.core.interests) (all_passed (causes s.core (read s (call.InterestFinal f id))) h).0 shut
  granted_closed (call.Close f) h shut = by (f.0 == q) refl
    where
      by : (b : Bool) → (f.0 == q) ≡ b → cond b [] (interests_of q s.core.interests) ≡ []
      by true e = refl
      by false e = was q (left_before f.0 e shut)
  granted_closed (call.Open o) h shut = was q (opened_before (opened o) shut)
  granted_closed (call.DeclareQueryable f id w info node) h shut = was q (declare_read (λ t. is_open q (accepted s.core t) ≡ false → is_open q s.core ≡ false) s f id w info node (λ e. e) (λ e. e) shut)
  granted_closed (call.UndeclareQueryable f id w node) h shut = was q (withdraw_read (λ t. is_open q (accepted s.core t) ≡ false → is_open q s.core ≡ false) s f id w node (λ e. e) (λ e. e) shut)
  granted_closed c h shut = was q shut

closed_after : (config : Settings) (s : State) → InOrder config s → AreRising s → AskWhereOpen s → (c : Call) → AskWhereOpen (after s c)
closed_after config s i rise was c =
    by_granted (λ t z. AskWhereOpen z) s (read s c) (λ text z w it. it) (λ p places z w it. it)
    (λ h q shut. granted_asks config s i rise q c h ∙ granted_closed config s i rise was q c h shut)
    (λ r. was)

run_closed : (config : Settings) (cs : List Call) (s : State) → InOrder config s → AreRising s → AskWhereOpen s → AskWhereOpen (state_after s cs)
run_closed config [] s i rise was = was
run_closed config (c ∷ cs) s i rise was =
    run_closed config cs (after s c) (after_kept (InOrder config) (granted_in_order config) (stays_in_order config) s c i) (rising_after s c rise) (closed_after config s i rise was c)

pub all_closed : (config : Settings) (calls : List Call) → AskWhereOpen (state_after (opening_state config) calls)
all_closed config calls = run_closed config calls (opening_state config) (opening_in_order config) none_sorted (λ q shut. refl)
