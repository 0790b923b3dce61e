-- What is due, by one entry or by keys: a call changes it on no key but those that it touches; it is on a key on which something may be due; and but by a declaration nothing becomes due to a face that is open.
use Rattle.std.proofs.Common.{◌≡◌, ◌∙◌, refl, sym, ap, ℕ, Bool, true, false, cond, not, List, [], ◌∷◌, Option, Some, None}
use Rattle.std.specs.Prelude.{◌||◌, ◌&&◌}
use Rattle.std.specs.List.{list_any}
use Rattle.std.specs.Option.{is_some, option_and_then, option_map, option_map_or}
use Rattle.std.specs.Str.{bytes_eq}
use Rattle.std.proofs.lemmas.Bool.{false≢true, true≢false}
use Rattle.zq_message.specs.declared.message.QueryableInfoType.{QueryableInfoType}
use Rattle.zq_message.specs.Region.{region_index}
use Rattle.zq_key.specs.Key.{intersects}
use Rattle.zq_index.specs.Infos.{joined}
use Rattle.zq_strategy.specs.declared.types.Strategy.{Strategy}
use Rattle.zq_strategy.specs.declared.types.Strategy.TheVariants as strategy
use Rattle.zq_strategy.specs.Fellows.{fellow_info}
use Rattle.zq_strategy.specs.Regions.{in_routers, is_north, strategy_at}
use Rattle.zq_strategy.specs.State.{HatState}
use Rattle.zq_interests.specs.declared.types.InterestEntry.{InterestEntry}
use Rattle.zq_interests.specs.Interests.{Interests, asks_folded, asks_for, interests_of, own_keys, wants, wants_folded}
use Rattle.zq_machine.specs.declared.call.Call.{Call}
use Rattle.zq_machine.specs.declared.call.Call.TheVariants as call
use Rattle.zq_machine.specs.declared.call.Opening.{Opening}
use Rattle.zq_machine.specs.declared.face.OpenFace.{OpenFace}
use Rattle.zq_machine.specs.Calls.{declares}
use Rattle.zq_machine.specs.Configs.{Settings}
use Rattle.zq_machine.specs.Deciding.{accepted, refusal_of}
use Rattle.zq_machine.specs.Due.{due, due_keys, due_touched, face_keys, folded, folded_over, folds, folds_in, heard, heard_as, heard_by, heard_in, heard_touched, is_due_touched, is_heard_touched, is_met_by, listens, listens_by, listens_in, meant, plain_due, widened}
use Rattle.zq_machine.specs.Machine.{after, state_after}
use Rattle.zq_machine.specs.State.{Core, State, at, first_hats, hat_at, hat_of, is_open, is_region, is_routing, opening_state}
use Rattle.zq_machine.specs.TextCalls.{TextCall, opening, read}
use Rattle.zq_machine.specs.Trees.{own_entry}
use Rattle.zq_machine.proofs.Agreed.{InOrder, next_absent, run_in_order}
use Rattle.zq_machine.proofs.Changing.{itself}
use Rattle.zq_machine.proofs.DueAlone.{south_unasked as plain_south}
use Rattle.zq_machine.proofs.DueKeys.{all_put, among, due_rise, is_among, keys_due as plain_keys}
use Rattle.zq_machine.proofs.DueEnds.{closed_undue as plain_closed}
use Rattle.zq_machine.proofs.DueLess.{accepted_less as plain_less, brings, faces_kept, read_brings}
use Rattle.zq_machine.proofs.Dues.{due_kept as plain_kept}
use Rattle.zq_machine.proofs.Folded.{adds, folded_same, some_folded}
use Rattle.zq_machine.proofs.Granted.{by_granted}
use Rattle.zq_machine.proofs.Hats.{accepted_hats, bare}
use Rattle.zq_machine.proofs.Widening.{among_wide, any_passes, both_true, folded_for, folded_own, in_keys, in_met, in_wide, off_keys, off_met, passing}

abbrev Info : Type 0
Info = Option QueryableInfoType

-- ---- what a face hears is what would be due to it if it asked for all
abbrev all_wanted : List (ℕ × InterestEntry)
all_wanted = (0, record { key = None; keys = false; aggregate = false }) ∷ []

abbrev pub wants_all : ℕ → Interests
wants_all face = (face, all_wanted) ∷ []

all_asked : (face : ℕ) (key : List ℕ) → asks_for face key (wants_all face) ≡ true
all_asked face key = ap (λ b. list_any (wants key) (option_map_or (λ es. es) (cond b (Some all_wanted) None) [])) (itself face)

pub heard_plain : (c : Core) (face : ℕ) (key : List ℕ) → heard c face key ≡ plain_due c (wants_all face) face key
heard_plain c face key = by (at face c.faces)
  where
    kinds : (k : Strategy) (north asks : Bool) (f own : Info) → asks ≡ true → heard_by k f own ≡ cond (listens_by k north asks) (heard_by k f own) None
    kinds strategy.Broker north asks f own on = sym (ap (λ b. cond b (joined f own) None) on)
    kinds strategy.Client north asks f own on = refl
    kinds strategy.Peer true asks f own on = refl
    kinds strategy.Peer false asks f own on = sym (ap (λ b. cond b own None) on)
    kinds strategy.Router north asks f own on = refl

    there : (o : OpenFace) (x : Option HatState) → option_and_then (heard_in face key c.hats (region_index o.region)) x
        ≡ cond (option_map_or (listens_in (wants_all face) face key) x false) (option_and_then (heard_in face key c.hats (region_index o.region)) x) None
    there o None = refl
    there o (Some h) = kinds (strategy_at h) (is_north h.region) (asks_for face key (wants_all face)) (fellow_info face key h) (own_entry (region_index o.region) key c.hats) (all_asked face key)

    by : (o : Option OpenFace) → option_and_then (heard_as face key c.hats) o
        ≡ cond (option_map_or (listens_in (wants_all face) face key) (option_and_then (λ (p : OpenFace). hat_at p.region c.hats) o) false) (option_and_then (heard_as face key c.hats) o) None
    by None = refl
    by (Some o) = there o (hat_at o.region c.hats)

module _ (c : Core) (face : ℕ) where
  -- it is on a key on which some region has information
  pub heard_keys : (key : List ℕ) → is_some (heard c face key) ≡ true → is_among key (due_keys c) ≡ true
  heard_keys key some = sym (among key (due_keys c)) ∙ plain_keys c (wants_all face) face key (sym (ap is_some (heard_plain c face key)) ∙ some)

  pub adds_keys : (key q : List ℕ) → adds key (heard c face) q ≡ true → is_among q (due_keys c) ≡ true
  adds_keys key q e = heard_keys q (both_true (intersects q key) (is_some (heard c face q)) e).1

  -- a face that is not open hears nothing, and nothing in one entry
  pub shut_heard : is_open face c ≡ false → (key : List ℕ) → heard c face key ≡ None
  shut_heard shut key = heard_plain c face key ∙ plain_closed c (wants_all face) face key shut

-- where nothing is heard there is no entry
none_of : (o : Info) → is_some o ≡ false → o ≡ None
none_of None e = refl
none_of (Some i) e = absurd (true≢false e)

pub folded_none : (hear : List ℕ → Info) → ((k : List ℕ) → hear k ≡ None) → (ks : List (List ℕ)) (key : List ℕ) → folded_over hear ks key ≡ None
folded_none hear none ks key = none_of (folded_over hear ks key) (some_folded key hear ks ∙ all_out ks)
  where
    and_false : (b : Bool) → (b && false) ≡ false
    and_false true = refl
    and_false false = refl

    all_out : (ls : List (List ℕ)) → list_any (adds key hear) ls ≡ false
    all_out [] = refl
    all_out (l ∷ ls) = λ j. (ap (λ (o : Info). intersects l key && is_some o) (none l) ∙ and_false (intersects l key)) j || all_out ls j

-- an entry has a part
pub record Part (c : Core) (face : ℕ) (key : List ℕ) : Type 0 where
  pub part : List ℕ
  pub among : is_among part (due_keys c) ≡ true
  pub meets : intersects part key ≡ true
  pub heard : is_some (heard c face part) ≡ true

pub part_of : (c : Core) (face : ℕ) (key : List ℕ) → is_some (folded c face key) ≡ true → Part c face key
part_of c face key some =
    let p = passing (adds key (heard c face)) (due_keys c) (sym (some_folded key (heard c face) (due_keys c)) ∙ some) in
    let both = both_true (intersects p.key key) (is_some (heard c face p.key)) p.passes in
    record { part = p.key; among = p.among; meets = both.0; heard = both.1 }

pub of_part : (c : Core) (face : ℕ) (key part : List ℕ) → intersects part key ≡ true → is_some (heard c face part) ≡ true → is_some (folded c face key) ≡ true
of_part c face key part meets some =
    some_folded key (heard c face) (due_keys c)
    ∙ any_passes (adds key (heard c face)) part (due_keys c) (heard_keys c face part some) (λ j. meets j && some j)

-- ---- in one form
-- a face that listens on no key that it asks for as one entry hears nothing
module _ (c : Core) (ints : Interests) (face : ℕ) (key : List ℕ) where
  deaf_by : (k : Strategy) (north asks asks_one : Bool) → (asks_one ≡ true → asks ≡ true) → (not (listens_by k north false) && asks_one) ≡ true → listens_by k north asks ≡ false → (f own : Info) → heard_by k f own ≡ None
  deaf_by strategy.Broker north asks asks_one more folds out f own = absurd (true≢false (sym (more folds) ∙ out))
  deaf_by strategy.Client north asks asks_one more folds out f own = absurd (false≢true folds)
  deaf_by strategy.Peer true asks asks_one more folds out f own = absurd (false≢true folds)
  deaf_by strategy.Peer false asks asks_one more folds out f own = absurd (true≢false (sym (more folds) ∙ out))
  deaf_by strategy.Router north asks asks_one more folds out f own = refl

  deaf : folds c ints face key ≡ true → listens c ints face key ≡ false → (q : List ℕ) → heard c face q ≡ None
  deaf f l q = by (at face c.faces) f l
    where
      there : (o : OpenFace) (x : Option HatState) → option_map_or (folds_in ints face key) x false ≡ true → option_map_or (listens_in ints face key) x false ≡ false → option_and_then (heard_in face q c.hats (region_index o.region)) x ≡ None
      there o None f l = refl
      there o (Some h) f l = deaf_by (strategy_at h) (is_north h.region) (asks_for face key ints) (asks_folded face key ints) (folded_for face key ints) f l (fellow_info face q h) (own_entry (region_index o.region) q c.hats)

      by : (o : Option OpenFace) → option_map_or (folds_in ints face key) (option_and_then (λ (p : OpenFace). hat_at p.region c.hats) o) false ≡ true
          → option_map_or (listens_in ints face key) (option_and_then (λ (p : OpenFace). hat_at p.region c.hats) o) false ≡ false → option_and_then (heard_as face q c.hats) o ≡ None
      by None f l = refl
      by (Some o) f l = there o (hat_at o.region c.hats) f l

  -- what is due is the one entry, where there is to be one, and else what is due by keys
  pub due_is : due c ints face key ≡ cond (folds c ints face key) (folded c face key) (plain_due c ints face key)
  due_is = by (folds c ints face key) refl (listens c ints face key) refl
    where
      by : (b : Bool) → folds c ints face key ≡ b → (l : Bool) → listens c ints face key ≡ l → cond l (cond b (folded c face key) (heard c face key)) None ≡ cond b (folded c face key) (cond l (heard c face key) None)
      by true f true l = refl
      by true f false l = sym (folded_none (heard c face) (deaf f l) (due_keys c) key)
      by false f l e = refl

  -- a key is folded that the face asks for so
  pub folds_asks : folds c ints face key ≡ true → asks_folded face key ints ≡ true
  folds_asks = by (hat_of face c)
    where
      by : (o : Option HatState) → option_map_or (folds_in ints face key) o false ≡ true → asks_folded face key ints ≡ true
      by None e = absurd (false≢true e)
      by (Some h) e = (both_true (not (listens_by (strategy_at h) (is_north h.region) false)) (asks_folded face key ints) e).1

  -- it is on a key on which something may be due
  keys_by : (b : Bool) → folds c ints face key ≡ b → is_some (cond b (folded c face key) (plain_due c ints face key)) ≡ true → is_among key (widened face ints (due_keys c)) ≡ true
  keys_by true f some =
      let p = part_of c face key some in
      in_met face ints (due_keys c) key (folds_asks f) (any_passes (λ k. intersects k key) p.part (due_keys c) p.among p.meets)
  keys_by false f some = in_keys face ints (due_keys c) key (sym (among key (due_keys c)) ∙ plain_keys c ints face key some)

  keys_met : is_some (due c ints face key) ≡ true → is_among key (widened face ints (due_keys c)) ≡ true
  keys_met some = keys_by (folds c ints face key) refl (sym (ap is_some due_is) ∙ some)

  pub keys_among : is_some (due c ints face key) ≡ true → is_among key (face_keys c ints face) ≡ true
  keys_among some = all_put key (due_keys c) (own_keys face ints) ∙ in_wide face ints (due_keys c) key (keys_met some)

-- a key is among those on which something may be due
pub keys_due : (c : Core) (ints : Interests) (face : ℕ) (key : List ℕ) → is_some (due c ints face key) ≡ true → list_any (λ k. bytes_eq k key) (widened face ints (due_keys c)) ≡ true
keys_due c ints face key some = among key (widened face ints (due_keys c)) ∙ keys_met c ints face key some

-- to a face that is not open nothing is due
pub closed_undue : (c : Core) (ints : Interests) (face : ℕ) (key : List ℕ) → is_open face c ≡ false → due c ints face key ≡ None
closed_undue c ints face key shut = due_is c ints face key ∙ by (folds c ints face key)
  where
    by : (b : Bool) → cond b (folded c face key) (plain_due c ints face key) ≡ None
    by true = folded_none (heard c face) (shut_heard c face shut) (due_keys c) key
    by false = plain_closed c ints face key shut

-- interests of other faces
pub interests_alone : (c : Core) (ints others : Interests) (face : ℕ) (key : List ℕ) → interests_of face ints ≡ interests_of face others → due c ints face key ≡ due c others face key
interests_alone c ints others face key same =
    ap (λ (es : List (ℕ × InterestEntry)). cond (option_map_or (λ (h : HatState). listens_by (strategy_at h) (is_north h.region) (list_any (wants key) es)) (hat_of face c) false)
    (cond (option_map_or (λ (h : HatState). not (listens_by (strategy_at h) (is_north h.region) false) && list_any (wants_folded key) es) (hat_of face c) false) (folded c face key) (heard c face key)) None) same

-- where no interest of the face aggregates, what is due is what is due by keys
pub alone_plain : (c : Core) (ints : Interests) (face : ℕ) (key : List ℕ) → asks_folded face key ints ≡ false → due c ints face key ≡ plain_due c ints face key
alone_plain c ints face key none = due_is c ints face key ∙ by (folds c ints face key) refl
  where
    by : (b : Bool) → folds c ints face key ≡ b → cond b (folded c face key) (plain_due c ints face key) ≡ plain_due c ints face key
    by true f = absurd (true≢false (sym (folds_asks c ints face key f) ∙ none))
    by false f = refl

-- ---- who is due nothing
pub south_unasked : (c : Core) (ints : Interests) (face : ℕ) (key : List ℕ) (h : HatState) → hat_of face c ≡ Some h → is_north h.region ≡ false → interests_of face ints ≡ [] → due c ints face key ≡ None
south_unasked c ints face key h here out none = alone_plain c ints face key (ap (list_any (wants_folded key)) none) ∙ plain_south c ints face key h here out none

pub routers_undue : (c : Core) (ints : Interests) (face : ℕ) (key : List ℕ) (h : HatState) → hat_of face c ≡ Some h → is_routing h ≡ true → due c ints face key ≡ None
routers_undue c ints face key h here routed =
    ap (λ b. cond b (meant c ints face key) None) (ap (λ (o : Option HatState). option_map_or (listens_in ints face key) o false) here ∙ by (strategy_at h) (is_north h.region) (asks_for face key ints) routed)
  where
    by : (k : Strategy) (north asks : Bool) → in_routers k true false ≡ true → listens_by k north asks ≡ false
    by strategy.Broker north asks r = absurd (false≢true r)
    by strategy.Client north asks r = absurd (false≢true r)
    by strategy.Peer north asks r = absurd (false≢true r)
    by strategy.Router north asks r = refl

-- ---- the keys that a call touches
pub touched_widely : (c : Core) (ints : Interests) (t : TextCall) (face : ℕ) (key : List ℕ)
    → is_due_touched c ints t face key ≡ ((list_any (λ k. intersects k key) (heard_touched c t face) && asks_folded face key ints) || is_heard_touched c t face key)
touched_widely c ints t face key =
    among key (due_touched c ints t face)
    ∙ among_wide face ints (heard_touched c t face) key
    ∙ (λ j. (is_met_by (heard_touched c t face) key && sym (folded_own face key ints) j) || sym (among key (heard_touched c t face)) j)

-- ---- what stays where the same is heard
-- a face that hears the same on all keys that meet the key has the same entry
pub folded_alike : (c d : Core) (face : ℕ) (key : List ℕ) → ((k : List ℕ) → intersects k key ≡ true → heard d face k ≡ heard c face k) → folded d face key ≡ folded c face key
folded_alike c d face key same =
    folded_same key (heard c face) (heard d face) same (due_keys c) (due_keys d) (due_rise c) (due_rise d)
    (λ q e. adds_keys c face key q e)
    (λ q e. adds_keys d face key q (let both = both_true (intersects q key) (is_some (heard c face q)) e in (λ j. both.0 j && is_some (same q both.0 j)) ∙ both.1))

-- where the face listens and folds alike, and hears the same on all keys, the same is due
pub due_alike : (c d : Core) (ints : Interests) (face : ℕ) (key : List ℕ) → listens d ints face key ≡ listens c ints face key → folds d ints face key ≡ folds c ints face key → ((k : List ℕ) → heard d face k ≡ heard c face k) → due d ints face key ≡ due c ints face key
due_alike c d ints face key l f same = λ j. cond (l j) (cond (f j) (folded_alike c d face key (λ k e. same k) j) (same key j)) None

-- ---- an accepted call at a point of a run
module _ (c d : Core) (ints : Interests) (face : ℕ) (key : List ℕ) where
  folds_bare : (x : Option HatState) → option_map_or (folds_in ints face key) x false ≡ option_map_or (folds_in ints face key) (option_map bare x) false
  folds_bare None = refl
  folds_bare (Some h) = refl

  same_folds : at face d.faces ≡ at face c.faces → ((k : ℕ) → option_map bare (at k d.hats) ≡ option_map bare (at k c.hats)) → folds d ints face key ≡ folds c ints face key
  same_folds here shape =
      ap (λ (p : Option OpenFace). option_map_or (folds_in ints face key) (option_and_then (λ (o : OpenFace). hat_at o.region d.hats) p) false) here
      ∙ folds_bare (option_and_then (λ (o : OpenFace). hat_at o.region d.hats) (at face c.faces))
      ∙ ap (λ (x : Option HatState). option_map_or (folds_in ints face key) x false) (bare_of (at face c.faces))
      ∙ sym (folds_bare (hat_of face c))
    where
      bare_in : (n : ℕ) (b : Bool) → option_map bare (cond b (at n d.hats) None) ≡ option_map bare (cond b (at n c.hats) None)
      bare_in n true = shape n
      bare_in n false = refl

      bare_of : (p : Option OpenFace) → option_map bare (option_and_then (λ (o : OpenFace). hat_at o.region d.hats) p) ≡ option_map bare (option_and_then (λ (o : OpenFace). hat_at o.region c.hats) p)
      bare_of None = refl
      bare_of (Some o) = bare_in (region_index o.region) (is_region o.region)

module _ (config : Settings) (s : State) (i : InOrder config s) (ints : Interests) (face : ℕ) where
  -- it hears the same on keys that are not touched
  pub heard_kept : (t : TextCall) → refusal_of s.core t ≡ None → is_open face (accepted s.core t) ≡ true → (key : List ℕ) → is_among key (heard_touched s.core t face) ≡ false → heard (accepted s.core t) face key ≡ heard s.core face key
  heard_kept t h seen key off =
      heard_plain (accepted s.core t) face key
      ∙ plain_kept config s i (wants_all face) face key t h seen (among key (heard_touched s.core t face) ∙ off)
      ∙ sym (heard_plain s.core face key)

  -- and so it has the same entry on a key that meets none of them
  pub folded_kept : (t : TextCall) → refusal_of s.core t ≡ None → is_open face (accepted s.core t) ≡ true → (key : List ℕ) → is_met_by (heard_touched s.core t face) key ≡ false → folded (accepted s.core t) face key ≡ folded s.core face key
  folded_kept t h seen key unmet =
      folded_alike s.core (accepted s.core t) face key (λ k meets. heard_kept t h seen k (off k meets (is_among k (heard_touched s.core t face)) refl))
    where
      off : (k : List ℕ) → intersects k key ≡ true → (b : Bool) → is_among k (heard_touched s.core t face) ≡ b → b ≡ false
      off k meets true e = absurd (true≢false (sym (any_passes (λ q. intersects q key) k (heard_touched s.core t face) e meets) ∙ unmet))
      off k meets false e = refl

  module _ (key : List ℕ) where
    -- a face that stays open folds as it did
    pub folds_kept : is_open face s.core ≡ true → (t : TextCall) → is_open face (accepted s.core t) ≡ true → folds (accepted s.core t) ints face key ≡ folds s.core ints face key
    folds_kept opens t still =
        same_folds s.core (accepted s.core t) ints face key (faces_kept config s i ints face key opens t still)
        (λ k. (accepted_hats config.start.told (first_hats config) s.core i.hats t).shape k ∙ sym (i.hats.shape k))

    whole_by : (t : TextCall) → refusal_of s.core t ≡ None → is_open face (accepted s.core t) ≡ true → is_among key (due_touched s.core ints t face) ≡ false
        → (b : Bool) → folds (accepted s.core t) ints face key ≡ b → cond b (folded (accepted s.core t) face key) (plain_due (accepted s.core t) ints face key) ≡ cond b (folded s.core face key) (plain_due s.core ints face key)
    whole_by t h seen off true f = folded_kept t h seen key (off_met face ints (heard_touched s.core t face) key off (folds_asks (accepted s.core t) ints face key f))
    whole_by t h seen off false f = plain_kept config s i ints face key t h seen (among key (heard_touched s.core t face) ∙ off_keys face ints (heard_touched s.core t face) key off)

    shut_by : is_open face s.core ≡ false → (b : Bool) → cond b (folded s.core face key) (plain_due s.core ints face key) ≡ None
    shut_by shut true = folded_none (heard s.core face) (shut_heard s.core face shut) (due_keys s.core) key
    shut_by shut false = plain_closed s.core ints face key shut

    pub due_kept : (t : TextCall) → refusal_of s.core t ≡ None → is_open face (accepted s.core t) ≡ true → is_due_touched s.core ints t face key ≡ false → due (accepted s.core t) ints face key ≡ due s.core ints face key
    due_kept t h seen off = by (is_open face s.core) refl
      where
        away : is_among key (due_touched s.core ints t face) ≡ false
        away = sym (among key (due_touched s.core ints t face)) ∙ off

        whole : due (accepted s.core t) ints face key ≡ cond (folds (accepted s.core t) ints face key) (folded s.core face key) (plain_due s.core ints face key)
        whole = due_is (accepted s.core t) ints face key ∙ whole_by t h seen away (folds (accepted s.core t) ints face key) refl

        by : (b : Bool) → is_open face s.core ≡ b → due (accepted s.core t) ints face key ≡ due s.core ints face key
        by true opens = whole ∙ ap (λ b. cond b (folded s.core face key) (plain_due s.core ints face key)) (folds_kept opens t seen) ∙ sym (due_is s.core ints face key)
        by false shut = whole ∙ shut_by shut (folds (accepted s.core t) ints face key) ∙ sym (closed_undue s.core ints face key shut)

    -- but by what declares or announces, nothing becomes due to a face that is open
    heard_less : is_open face s.core ≡ true → (t : TextCall) → refusal_of s.core t ≡ None → brings t ≡ false → (q : List ℕ) → is_some (heard (accepted s.core t) face q) ≡ true → is_some (heard s.core face q) ≡ true
    heard_less opens t h b q some =
        ap is_some (heard_plain s.core face q)
        ∙ plain_less config s i (wants_all face) face q opens t h b (sym (ap is_some (heard_plain (accepted s.core t) face q)) ∙ some)

    less_by : is_open face s.core ≡ true → (t : TextCall) → refusal_of s.core t ≡ None → brings t ≡ false
        → (b : Bool) → is_some (cond b (folded (accepted s.core t) face key) (plain_due (accepted s.core t) ints face key)) ≡ true → is_some (cond b (folded s.core face key) (plain_due s.core ints face key)) ≡ true
    less_by opens t h b true some = let p = part_of (accepted s.core t) face key some in of_part s.core face key p.part p.meets (heard_less opens t h b p.part p.heard)
    less_by opens t h b false some = plain_less config s i ints face key opens t h b some

    still_open : (t : TextCall) → is_some (due (accepted s.core t) ints face key) ≡ true → is_open face (accepted s.core t) ≡ true
    still_open t some = by (is_open face (accepted s.core t)) refl
      where
        by : (b : Bool) → is_open face (accepted s.core t) ≡ b → b ≡ true
        by true e = refl
        by false e = absurd (false≢true (sym (ap is_some (closed_undue (accepted s.core t) ints face key e)) ∙ some))

    pub accepted_less : is_open face s.core ≡ true → (t : TextCall) → refusal_of s.core t ≡ None → brings t ≡ false → is_some (due (accepted s.core t) ints face key) ≡ true → is_some (due s.core ints face key) ≡ true
    accepted_less opens t h b some =
        ap is_some (due_is s.core ints face key)
        ∙ less_by opens t h b (folds s.core ints face key)
        (sym (ap is_some (due_is (accepted s.core t) ints face key ∙ ap (λ x. cond x (folded (accepted s.core t) face key) (plain_due (accepted s.core t) ints face key)) (folds_kept opens t (still_open t some)))) ∙ some)

-- ---- at each point of a run
module _ (config : Settings) (calls : List Call) where
  abbrev s : State
  s = state_after (opening_state config) calls

  pub dues_stay : (c : Call) (ints : Interests) (face : ℕ) (key : List ℕ) → is_open face (after s c).core ≡ true → is_due_touched s.core ints (read s c) face key ≡ false → due (after s c).core ints face key ≡ due s.core ints face key
  dues_stay c ints face key =
      by_granted (λ z w. is_open face w.core ≡ true → is_due_touched s.core ints (read s c) face key ≡ false → due w.core ints face key ≡ due s.core ints face key) s (read s c) (λ text z w it. it) (λ p places z w it. it)
      (λ h. due_kept config s (run_in_order config calls) ints face key (read s c) h)
      (λ r seen off. refl)

  pub less_due : (c : Call) (ints : Interests) (face : ℕ) (key : List ℕ) → declares c ≡ false → is_open face s.core ≡ true → is_some (due (after s c).core ints face key) ≡ true → is_some (due s.core ints face key) ≡ true
  less_due c ints face key none opens =
      by_granted (λ z w. is_some (due w.core ints face key) ≡ true → is_some (due s.core ints face key) ≡ true) s (read s c) (λ text z w it. it) (λ p places z w it. it)
      (λ h some. accepted_less config s (run_in_order config calls) ints face key opens (read s c) h (read_brings s c none) some)
      (λ r some. some)

  -- an opening touches each key on which something is due to the new face
  pub none_missed : (o : Opening) (ints : Interests) (key : List ℕ) → is_some (due (after s (call.Open o)).core ints s.core.next_face key) ≡ true → is_due_touched s.core ints (read s (call.Open o)) s.core.next_face key ≡ true
  none_missed o ints key some = by (is_due_touched s.core ints (opening o) n key) refl
    where
      n : ℕ
      n = s.core.next_face

      before : due s.core ints n key ≡ None
      before = closed_undue s.core ints n key (ap is_some (next_absent s (run_in_order config calls).sound))

      seen : is_open n (after s (call.Open o)).core ≡ true
      seen = there (is_open n (after s (call.Open o)).core) refl
        where
          there : (b : Bool) → is_open n (after s (call.Open o)).core ≡ b → b ≡ true
          there true e = refl
          there false e = absurd (false≢true (sym (ap is_some (closed_undue (after s (call.Open o)).core ints n key e)) ∙ some))

      by : (b : Bool) → is_due_touched s.core ints (opening o) n key ≡ b → b ≡ true
      by true e = refl
      by false e = absurd (false≢true (sym (ap is_some (dues_stay (call.Open o) ints n key seen e ∙ before)) ∙ some))
