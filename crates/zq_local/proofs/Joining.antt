-- A face of Local is opened, and declares its key: both are accepted, for nothing is due to anyone.
use Rattle.std.proofs.Common.{◌≡◌, ◌∙◌, refl, sym, ap, subst, ℕ, ◌+◌, ◌<◌, ◌^◌, Bool, true, false, cond, not, List, [], ◌∷◌, ◌++◌, map, Option, Some, None}
use Rattle.std.specs.Prelude.{◌==◌, ◌&&◌, fold, is_none}
use Rattle.std.specs.BTreeMap.{insert_entry, is_at}
use Rattle.std.specs.List.{AllByRecursion, filter, flat_map}
use Rattle.std.specs.Map.{lookup, set_value}
use Rattle.std.specs.Option.{is_some, option_map_or, option_and_then}
use Rattle.std.specs.Ordering.{nat_cmp}
use Rattle.zq_key.specs.Key.{is_key}
use Rattle.zq_message.specs.declared.message.FaceId.{FaceId}
use Rattle.zq_message.specs.declared.message.QueryableInfoType.{QueryableInfoType}
use Rattle.zq_message.specs.declared.message.Region.TheVariants as region
use Rattle.zq_strategy.specs.Kept.{declaration, declare, is_apart, is_full, registered}
use Rattle.zq_strategy.specs.State.{FaceState, HatState}
use Rattle.zq_query.specs.Records.{letting_go}
use Rattle.zq_told.specs.Telling.{lacks_ids}
use Rattle.zq_told.specs.declared.types.Reason.TheVariants.{Update}
use Rattle.zq_tables.specs.declared.resolved.Resolved.TheVariants as said
use Rattle.zq_tables.specs.Naming.{face_naming, plain, said_of}
use Rattle.zq_machine.specs.declared.call.Call.TheVariants as call
use Rattle.zq_machine.specs.declared.call.Opening.{Opening}
use Rattle.zq_machine.specs.declared.face.OpenFace.{OpenFace}
use Rattle.zq_machine.specs.Configs.{Settings}
use Rattle.zq_machine.specs.Deciding.{accepted, causes, changed, decide, is_accepted, kept, lacks_told, opened, refusal_of, regated, seat}
use Rattle.zq_machine.specs.Due.{due_touched, listens, listens_in, widened}
use Rattle.zq_machine.specs.Gates.{Gates, ends_given, entered_by, gate_at, keeping, leave_all, let_out, space_of, through, without_ended}
use Rattle.zq_namespace.specs.Leaves.{gives}
use Rattle.zq_machine.specs.Handing.{Handed}
use Rattle.zq_machine.specs.Machine.{accepted_state, after, asked_text, follow, handing, settle}
use Rattle.zq_machine.specs.Neighbours.{due_on, dues_on, looked_by, with_dues}
use Rattle.zq_machine.specs.State.{Core, State, at, change_hat, clashes_in, hat_at, hat_of, is_routing, joined, put_hat}
use Rattle.zq_machine.specs.TextCalls.{TextCall, announcing, declaring, opening, read, said as said_by}
use Rattle.zq_machine.specs.Writing.{Place, is_unsent, without_unsent}
use Rattle.zq_machine.proofs.Granted.{settled_of}
use Rattle.zq_machine.proofs.Lists.{all_append, all_weaker}
use Rattle.zq_local.specs.Seated.{AreHats, IsBare, IsQuiet, bare_face, hat_with, local_opening}
use Rattle.zq_local.proofs.Ends.{AreBefore, found_last, inserted_last, none_last, set_last}
use Rattle.zq_local.proofs.Quiet.{none_of, says_itself}

-- ---- Local's hat among the others
local_found : (local : HatState) (before after : List (ℕ × HatState)) → AllByRecursion (λ (e : ℕ × HatState). (e.0 < 1) × IsBare e.1) before → lookup (is_at (nat_cmp 1)) (before ++ (1, local) ∷ after) ≡ Some local
local_found local before after none = found_last 1 local before after (all_weaker (λ (e : ℕ × HatState). (e.0 < 1) × IsBare e.1) (λ e. e.0 < 1) (λ e p. p.0) before none)

pub hat_found : (hats : List (ℕ × HatState)) (local : HatState) → AreHats hats local → hat_at region.Local hats ≡ Some local
hat_found hats local are = ap (λ l. hat_at region.Local l) are.parts ∙ local_found local are.before are.after are.none_before

pub hat_changed : (f : HatState → HatState) (hats : List (ℕ × HatState)) (local : HatState) → AreHats hats local → AreHats (change_hat region.Local f hats) (f local)
hat_changed f hats local are = record {
  before = are.before;
  after = are.after;
  parts =
      ap (put_hat region.Local f hats) (hat_found hats local are)
      ∙ ap (λ l. set_value (is_at (nat_cmp 1)) l (f local)) are.parts
      ∙ set_last 1 local (f local) are.before are.after (all_weaker (λ (e : ℕ × HatState). (e.0 < 1) × IsBare e.1) (λ e. e.0 < 1) (λ e p. p.0) are.before are.none_before);
  none_before = are.none_before;
  none_after = are.none_after;
}

-- ---- what stands of a gateway whose faces are all in Local
abbrev pub IsLocal : ℕ × OpenFace → Type 0
IsLocal e = e.1.region ≡ region.Local

pub record Stands (config : Settings) (faces : List (ℕ × OpenFace)) (next : ℕ) (seats : List (ℕ × FaceState)) (requests replies : ℕ) (c : Core) : Type 0 where
  pub of : c.config ≡ config
  pub opens : c.faces ≡ faces
  pub numbers : c.next_face ≡ next
  pub hats : AreHats c.hats (hat_with config seats)
  pub interests : c.interests ≡ []
  pub quiet : IsQuiet requests replies c.queries

-- ---- nobody is interested, so nothing is due
abbrev OfLocal : Option OpenFace → Type 0
OfLocal None = Unit {0}
OfLocal (Some o) = o.region ≡ region.Local

found_there : (n : ℕ) (faces : List (ℕ × OpenFace)) → AllByRecursion IsLocal faces → OfLocal (at n faces)
found_there n [] all = tt
found_there n (e ∷ faces) all = by (is_at (nat_cmp n) e.0) (found_there n faces all.1)
  where
    by : (b : Bool) → OfLocal (at n faces) → OfLocal (cond b (Some e.1) (at n faces))
    by true rest = all.0
    by false rest = rest

none_left : {X : Type 0} (p : X → Bool) → ((x : X) → p x ≡ false) → (xs : List X) → filter p xs ≡ []
none_left p never [] = refl
none_left p never (x ∷ xs) = ap (λ b. cond b (x ∷ filter p xs) (filter p xs)) (never x) ∙ none_left p never xs

module _ (config : Settings) (seats : List (ℕ × FaceState)) (c : Core) (hats : AreHats c.hats (hat_with config seats)) (all : AllByRecursion IsLocal c.faces) where
  deaf : (face : ℕ) (key : List ℕ) → listens c [] face key ≡ false
  deaf face key = by (at face c.faces) (found_there face c.faces all)
    where
      by : (o : Option OpenFace) → OfLocal o → option_map_or (listens_in [] face key) (option_and_then (λ (o : OpenFace). hat_at o.region c.hats) o) false ≡ false
      by None is = refl
      by (Some o) is =
          ap (λ r. option_map_or (listens_in [] face key) (hat_at r c.hats) false) is
          ∙ ap (λ h. option_map_or (listens_in [] face key) h false) (hat_found c.hats (hat_with config seats) hats)

  no_dues : (keys : List (List ℕ)) (face : ℕ) → dues_on c [] keys face ≡ []
  no_dues keys face = ap (map (due_on c [] face)) (none_left (λ key. listens c [] face key) (deaf face) keys)

  none_looked : (keys : ℕ → List (List ℕ)) (faces : List (ℕ × OpenFace)) → flat_map (λ (o : ℕ × OpenFace). with_dues o.0 (dues_on c [] (keys o.0) o.0)) faces ≡ []
  none_looked keys [] = refl
  none_looked keys (o ∷ faces) = (λ j. with_dues o.0 (no_dues (keys o.0) o.0 j) ++ none_looked keys faces j)

  pub looks_at_none : (keys : ℕ → List (List ℕ)) → looked_by c [] keys ≡ []
  looks_at_none keys = none_looked keys c.faces

-- ---- a face is opened
module _ (config : Settings) (faces : List (ℕ × OpenFace)) (n : ℕ) (seats : List (ℕ × FaceState)) (requests replies : ℕ) (c : Core) (st : Stands config faces n seats requests replies c)
    (faces_before : AreBefore n faces) (seats_before : AreBefore n seats) (locals : AllByRecursion IsLocal faces) where
  abbrev pub mine : OpenFace
  mine = opened (local_opening config.zid)

  abbrev o : Opening
  o = local_opening config.zid

  joins : joined (seat n o) (hat_with config seats) ≡ hat_with config (seats ++ (n, bare_face config n) ∷ [])
  joins =
      ap (λ x. cond (is_some x) (hat_with config seats) (hat_with config (insert_entry nat_cmp seats n (bare_face config n)))) (none_last n seats seats_before)
      ∙ ap (hat_with config) (inserted_last n (bare_face config n) seats seats_before)

  opened_stands : Stands config (faces ++ (n, mine) ∷ []) (n + 1) (seats ++ (n, bare_face config n) ∷ []) requests replies (changed c (opening o))
  opened_stands = record {
    of = st.of;
    opens = (λ j. insert_entry nat_cmp (st.opens j) (st.numbers j) mine) ∙ inserted_last n mine faces faces_before;
    numbers = ap (λ k. k + 1) st.numbers;
    hats = subst (AreHats (changed c (opening o)).hats) (ap (λ k. joined (seat k o) (hat_with config seats)) st.numbers ∙ joins) (hat_changed (joined (seat c.next_face o)) c.hats (hat_with config seats) st.hats);
    interests = st.interests;
    quiet = st.quiet;
  }

  locals_then : AllByRecursion IsLocal (changed c (opening o)).faces
  locals_then = subst (AllByRecursion IsLocal) (sym opened_stands.opens) (all_append IsLocal faces ((n, mine) ∷ []) locals (refl, tt))

  open_lacks : lacks_told c (opening o) ≡ false
  open_lacks =
      ap (λ ints. lacks_ids Update (kept c (opening o)) (looked_by (changed c (opening o)) ints (due_touched c ints (opening o)))) st.interests
      ∙ ap (lacks_ids Update (kept c (opening o))) (looks_at_none config (seats ++ (n, bare_face config n) ∷ []) (changed c (opening o)) opened_stands.hats locals_then (due_touched c [] (opening o)))

  pub open_fits : (n + 1 == 2 ^ 32) ≡ false → refusal_of c (opening o) ≡ None
  open_fits fits =
      none_of (causes c (opening o)) (
        ap (λ h. not (is_some h)) (hat_found c.hats (hat_with config seats) st.hats),
        (
          refl,
          (
            ap (λ h. option_map_or is_full h false) (hat_found c.hats (hat_with config seats) st.hats),
            (
              ap (λ k. k + 1 == 2 ^ 32) st.numbers ∙ fits,
              (open_lacks, tt),
            ),
          ),
        ),
      )

  pub open_stands : Stands config (faces ++ (n, mine) ∷ []) (n + 1) (seats ++ (n, bare_face config n) ∷ []) requests replies (accepted c (opening o))
  open_stands = record { of = opened_stands.of; opens = opened_stands.opens; numbers = opened_stands.numbers; hats = opened_stands.hats; interests = opened_stands.interests; quiet = opened_stands.quiet }

-- ---- it declares its key
module _ (config : Settings) (faces : List (ℕ × OpenFace)) (n : ℕ) (seats : List (ℕ × FaceState)) (requests replies : ℕ) (c : Core) (st : Stands config (faces ++ (n, opened (local_opening config.zid)) ∷ []) (n + 1) (seats ++ (n, bare_face config n) ∷ []) requests replies c)
    (faces_before : AreBefore n faces) (seats_before : AreBefore n seats) (locals : AllByRecursion IsLocal faces) (key : List ℕ) (is : is_key key ≡ true) (info : QueryableInfoType) where
  abbrev at_face : FaceId
  at_face = record { 0 = n }

  abbrev declares : TextCall
  declares = declaring at_face 1 (said.Full key) info 0

  abbrev hat : HatState
  hat = hat_with config (seats ++ (n, bare_face config n) ∷ [])

  pub face_found : at n c.faces ≡ Some (opened (local_opening config.zid))
  face_found = ap (at n) st.opens ∙ found_last n (opened (local_opening config.zid)) faces [] faces_before

  pub face_hat : hat_of n c ≡ Some hat
  face_hat = ap (option_and_then (λ (o : OpenFace). hat_at o.region c.hats)) face_found ∙ hat_found c.hats hat st.hats

  seat_found : lookup (is_at (nat_cmp n)) (seats ++ (n, bare_face config n) ∷ []) ≡ Some (bare_face config n)
  seat_found = found_last n (bare_face config n) seats [] seats_before

  abbrev declared : FaceState
  declared = declare 1 key info (bare_face config n)

  registers : registered n 1 key 0 info hat ≡ hat_with config (seats ++ (n, declared) ∷ [])
  registers =
      ap (λ x. hat_with config (option_map_or (λ (f : FaceState). set_value (is_at (nat_cmp n)) (seats ++ (n, bare_face config n) ∷ []) (declare 1 key info f)) x (seats ++ (n, bare_face config n) ∷ []))) seat_found
      ∙ ap (hat_with config) (set_last n (bare_face config n) declared seats [] seats_before)

  declared_hats : AreHats (changed c declares).hats (hat_with config (seats ++ (n, declared) ∷ []))
  declared_hats =
      subst (λ x. AreHats (option_map_or (λ (o : OpenFace). change_hat o.region (registered n 1 key 0 info) c.hats) x c.hats) (hat_with config (seats ++ (n, declared) ∷ []))) (sym face_found)
      (subst (AreHats (change_hat region.Local (registered n 1 key 0 info) c.hats)) registers (hat_changed (registered n 1 key 0 info) c.hats hat st.hats))

  all_local : AllByRecursion IsLocal c.faces
  all_local = subst (AllByRecursion IsLocal) (sym st.opens) (all_append IsLocal faces ((n, opened (local_opening config.zid)) ∷ []) locals (refl, tt))

  declare_lacks : lacks_told c declares ≡ false
  declare_lacks =
      ap (λ ints. lacks_ids Update c.ears (looked_by (changed c declares) ints (λ face. widened face ints (key ∷ [])))) st.interests
      ∙ ap (lacks_ids Update c.ears) (looks_at_none config (seats ++ (n, declared) ∷ []) (changed c declares) declared_hats all_local (λ face. widened face [] (key ∷ [])))

  pub declare_fits : refusal_of c declares ≡ None
  declare_fits =
      none_of (causes c declares) (
        ap (λ x. not (is_some x)) face_found,
        (
          refl,
          (
            ap not is,
            (
              ap (clashes_in n 1 key) face_hat ∙ ap (λ x. option_map_or (is_apart key) (option_and_then (declaration 1) x) false) seat_found,
              (declare_lacks, tt),
            ),
          ),
        ),
      )

  pub declare_stands : Stands config (faces ++ (n, opened (local_opening config.zid)) ∷ []) (n + 1) (seats ++ (n, declared) ∷ []) requests replies (accepted c declares)
  declare_stands = record { of = st.of; opens = st.opens; numbers = st.numbers; hats = declared_hats; interests = st.interests; quiet = st.quiet }

-- ---- through the gates, of which there are none
kept_none : (b : Bool) (h : Handed) → cond b (keeping h []) [] ≡ []
kept_none true h = refl
kept_none false h = refl

let_none : (text : List ℕ) (hs : List Handed) → (let_out text hs []).gates ≡ []
let_none text [] = refl
let_none text (h ∷ hs) =
    ap (λ (g : Gates). (let_out text hs g).gates) (kept_none (is_none (through text [] h).leaves && gives h.message) (through text [] h)) ∙ let_none text hs

ended_none : (hs : List Handed) → fold without_ended [] hs ≡ []
ended_none [] = refl
ended_none (h ∷ hs) = ap (λ (g : Gates). fold without_ended g hs) (kept_none (is_none h.leaves && ends_given h.message) h) ∙ ended_none hs

leave_none : (text : List ℕ) (hs : List Handed) → (leave_all text hs []).gates ≡ []
leave_none text hs = ap (λ (g : Gates). fold without_ended g (let_out text hs []).handed) (let_none text hs) ∙ ended_none (let_out text hs []).handed

follow_gates : (s : State) (t : TextCall) → regated s t ≡ [] → s.gates ≡ [] → (follow s t).gates ≡ []
follow_gates s t new old = by (is_accepted (decide s.core t).outcome)
  where
    by : (b : Bool) → (cond b (accepted_state s t) s).gates ≡ []
    by true = new
    by false = old

pub no_gates : (s : State) (t : TextCall) → regated s t ≡ [] → s.gates ≡ [] → (settle s t).gates ≡ []
no_gates s t new old = ap (λ (g : Gates). (leave_all (asked_text t) (handing s t) g).gates) (follow_gates s t new old) ∙ leave_none (asked_text t) (handing s t)

-- ---- both, as calls
quiet_let : (requests replies : ℕ) (places : List Place) (c : Core) → IsQuiet requests replies c.queries → IsQuiet requests replies (without_unsent places c).queries
quiet_let requests replies places c q = record { records = ap (letting_go (is_unsent places)) q.records; closed = q.closed; asked = q.asked; replied = q.replied }

module _ (config : Settings) (faces : List (ℕ × OpenFace)) (next : ℕ) (seats : List (ℕ × FaceState)) (requests replies : ℕ) where
  pub stands_after : (s : State) (t : TextCall) → refusal_of s.core t ≡ None → Stands config faces next seats requests replies (accepted s.core t) → Stands config faces next seats requests replies (settle s t).core
  stands_after s t fits st =
      settled_of (Stands config faces next seats requests replies) s t fits
      (λ places c it. record { of = it.of; opens = it.opens; numbers = it.numbers; hats = it.hats; interests = it.interests; quiet = quiet_let requests replies places c it.quiet }) st

module _ (config : Settings) (faces : List (ℕ × OpenFace)) (n : ℕ) (seats : List (ℕ × FaceState)) (requests replies : ℕ) (s : State) (st : Stands config faces n seats requests replies s.core) (ungated : s.gates ≡ [])
    (faces_before : AreBefore n faces) (seats_before : AreBefore n seats) (locals : AllByRecursion IsLocal faces) (fits : (n + 1 == 2 ^ 32) ≡ false) where
  pub open_core : Stands config (faces ++ (n, opened (local_opening config.zid)) ∷ []) (n + 1) (seats ++ (n, bare_face config n) ∷ []) requests replies (after s (call.Open (local_opening config.zid))).core
  open_core =
      stands_after config (faces ++ (n, opened (local_opening config.zid)) ∷ []) (n + 1) (seats ++ (n, bare_face config n) ∷ []) requests replies s (opening (local_opening config.zid))
      (open_fits config faces n seats requests replies s.core st faces_before seats_before locals fits) (open_stands config faces n seats requests replies s.core st faces_before seats_before locals)

  pub open_gates : (after s (call.Open (local_opening config.zid))).gates ≡ []
  open_gates = no_gates s (opening (local_opening config.zid)) ungated ungated

module _ (config : Settings) (faces : List (ℕ × OpenFace)) (n : ℕ) (seats : List (ℕ × FaceState)) (requests replies : ℕ) (s : State) (st : Stands config (faces ++ (n, opened (local_opening config.zid)) ∷ []) (n + 1) (seats ++ (n, bare_face config n) ∷ []) requests replies s.core) (ungated : s.gates ≡ [])
    (faces_before : AreBefore n faces) (seats_before : AreBefore n seats) (locals : AllByRecursion IsLocal faces) (key : List ℕ) (is : is_key key ≡ true) (info : QueryableInfoType) where
  abbrev declaring_it : TextCall
  declaring_it = declaring (record { 0 = n }) 1 (said.Full key) info 0

  reads_declared : read s (call.DeclareQueryable (record { 0 = n }) 1 (plain key) info 0) ≡ declaring_it
  reads_declared =
      ap (λ h. cond (option_map_or is_routing h false) (announcing (record { 0 = n }) (said_by (record { 0 = n }) (plain key) s) info 0) (declaring (record { 0 = n }) 1 (said_by (record { 0 = n }) (plain key) s) info 0))
      (face_hat config faces n seats requests replies s.core st faces_before seats_before locals key is info)
      ∙ ap (λ g. declaring (record { 0 = n }) 1 (said_of (face_naming n s.names) (entered_by (space_of (gate_at n g)) (plain key))) info 0) ungated
      ∙ ap (λ sd. declaring (record { 0 = n }) 1 sd info 0) (says_itself key is)

  pub declare_core : Stands config (faces ++ (n, opened (local_opening config.zid)) ∷ []) (n + 1) (seats ++ (n, declare 1 key info (bare_face config n)) ∷ []) requests replies (after s (call.DeclareQueryable (record { 0 = n }) 1 (plain key) info 0)).core
  declare_core =
      subst (λ t. Stands config (faces ++ (n, opened (local_opening config.zid)) ∷ []) (n + 1) (seats ++ (n, declare 1 key info (bare_face config n)) ∷ []) requests replies (settle s t).core) (sym reads_declared)
      (stands_after config (faces ++ (n, opened (local_opening config.zid)) ∷ []) (n + 1) (seats ++ (n, declare 1 key info (bare_face config n)) ∷ []) requests replies s declaring_it
      (declare_fits config faces n seats requests replies s.core st faces_before seats_before locals key is info) (declare_stands config faces n seats requests replies s.core st faces_before seats_before locals key is info))

  pub declare_gates : (after s (call.DeclareQueryable (record { 0 = n }) 1 (plain key) info 0)).gates ≡ []
  declare_gates = ap (λ t. (settle s t).gates) reads_declared ∙ no_gates s declaring_it ungated ungated
