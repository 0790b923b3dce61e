-- What a run keeps of the own face: it has no gate, and the request that it is handed waits for its final.
use Rattle.std.proofs.Common.{◌≡◌, ◌∙◌, refl, sym, ap, subst, ℕ, ◌+◌, ◌<◌, Bool, true, false, cond, not, List, [], ◌∷◌, ◌++◌, Option, Some, None, eqb-true, ne_eqb, arith}
use Rattle.std.specs.Prelude.{◌==◌, ◌&&◌, ◌||◌, fold}
use Rattle.std.specs.List.{AllByRecursion, list_any}
use Rattle.std.specs.Option.{option_map}
use Rattle.std.proofs.lemmas.Bool.{and_parts, false≢true, true≢false}
use Rattle.zq_message.specs.declared.message.FaceId.{FaceId}
use Rattle.zq_query.specs.Records.{Pending, Record, has_entry, is_entry, is_pending}
use Rattle.zq_machine.specs.declared.call.Call.{Call}
use Rattle.zq_machine.specs.declared.call.Call.TheVariants as call
use Rattle.zq_machine.specs.declared.call.Outcome.{Outcome}
use Rattle.zq_machine.specs.declared.call.Outcome.TheVariants as outcome
use Rattle.zq_machine.specs.declared.call.Refusal.{Refusal}
use Rattle.zq_machine.specs.declared.call.Step.{Step}
use Rattle.zq_machine.specs.Agreeing.{all_pending}
use Rattle.zq_machine.specs.Asked.{AreCounted, opened_by, opened_in}
use Rattle.zq_machine.specs.Configs.{Settings}
use Rattle.zq_machine.specs.Deciding.{is_accepted, refusal_of}
use Rattle.zq_machine.specs.Gates.{Gate, gate_at, gate_for}
use Rattle.zq_machine.specs.Handing.{Handed}
use Rattle.zq_machine.specs.Headline.{KeepsPromises, RefusesBy}
use Rattle.zq_machine.specs.Leaving.{ended_by, gate_after, gate_from, gate_in, gate_past, given_by, if_handed}
use Rattle.zq_machine.specs.Machine.{after, state_after, step, steps_from}
use Rattle.zq_machine.specs.State.{Core, State, is_open, opening_state}
use Rattle.zq_machine.specs.TextCalls.{read}
use Rattle.zq_machine.specs.Waiting.{ends_entry, gives, is_same, owes, until, waits}
use Rattle.zq_machine.proofs.Children.{after_both}
use Rattle.zq_machine.proofs.Kept.{headline}
use Rattle.zq_admin.specs.Admin.{IsJoined}
use Rattle.zq_admin.specs.Answering.{own_opening}

-- ---- lists
pub any_weaker : {X : Type 0} (p q : X → Bool) → ((x : X) → p x ≡ true → q x ≡ true) → (xs : List X) → list_any p xs ≡ true → list_any q xs ≡ true
any_weaker p q gives [] h = absurd (false≢true h)
any_weaker p q gives (x ∷ xs) h = by (p x) (q x) (gives x) h (any_weaker p q gives xs)
  where
    by : (a b : Bool) → (a ≡ true → b ≡ true) → (a || list_any p xs) ≡ true → (list_any p xs ≡ true → list_any q xs ≡ true) → (b || list_any q xs) ≡ true
    by true b g k ih = ap (λ c. c || list_any q xs) (g refl)
    by false true g k ih = refl
    by false false g k ih = ih k

pub any_later : {X : Type 0} (p : X → Bool) (x : X) (xs : List X) → list_any p xs ≡ true → list_any p (x ∷ xs) ≡ true
any_later p x xs h = by (p x)
  where
    by : (b : Bool) → (b || list_any p xs) ≡ true
    by true = refl
    by false = h

-- ---- a run behind the opening of the own face
abbrev pub run : Settings → List Call → State
run config calls = state_after (opening_state config) (own_opening config ∷ calls)

pub run_on : (config : Settings) (calls : List Call) (c : Call) → after (run config calls) c ≡ run config (calls ++ c ∷ [])
run_on config calls c = sym (after_both (own_opening config ∷ calls) (c ∷ []) (opening_state config))

pub promises : (config : Settings) (calls : List Call) (c : Call) → KeepsPromises (run config calls) c
promises config calls c = (headline config (own_opening config ∷ calls ++ c ∷ [])).each (own_opening config ∷ calls) [] c refl

-- ---- it has no gate
kept_none : (f : Handed → Gate → Gate) (face : ℕ) (hs : List Handed) → fold (if_handed face f) None hs ≡ None
kept_none f face [] = refl
kept_none f face (h ∷ hs) = ap (λ g. fold (if_handed face f) g hs) (by (h.to.0 == face)) ∙ kept_none f face hs
  where
    by : (b : Bool) → cond b (option_map (f h) None) None ≡ None
    by true = refl
    by false = refl

past_none : (face : ℕ) (hs : List Handed) → gate_past face hs None ≡ None
past_none face hs = ap (λ g. fold (if_handed face ended_by) g hs) (kept_none given_by face hs) ∙ kept_none ended_by face hs

from_none : (n face : ℕ) (c : Call) (o : Outcome) (more : List ℕ) → face < n → AreCounted n (opened_by o ++ more) → gate_from face c o None ≡ None
from_none n face (call.Open x) (outcome.Opened f) more less counted = ap (λ b. cond b (gate_for x) None) (ne_eqb f.0 face (λ e. let is = counted.0 in absurd (omega (arith, e, is, less))))
from_none n face (call.Open x) (outcome.Asked number) more less counted = refl
from_none n face (call.Open x) (outcome.Replied reply) more less counted = refl
from_none n face (call.Open x) outcome.Done more less counted = refl
from_none n face (call.Open x) (outcome.Refused r) more less counted = refl
from_none n face (call.Close f) o more less counted = by (f.0 == face)
  where
    by : (b : Bool) → cond {A = Option Gate} b None None ≡ None
    by true = refl
    by false = refl
from_none n face c o more less counted = refl

after_none : (n face : ℕ) (c : Call) (t : Step) (more : List ℕ) → face < n → AreCounted n (opened_by t.outcome ++ more) → gate_after face c t None ≡ None
after_none n face c t more less counted = by (is_accepted t.outcome)
  where
    by : (b : Bool) → cond b (gate_past face t.handed (gate_from face c t.outcome None)) None ≡ None
    by true = ap (gate_past face t.handed) (from_none n face c t.outcome more less counted) ∙ past_none face t.handed
    by false = refl

-- what is counted on from there
counted_on : (n : ℕ) (o : Outcome) (more : List ℕ) → AreCounted n (opened_by o ++ more) → (m : ℕ) × (n < m + 1) × AreCounted m more
counted_on n (outcome.Opened f) more counted = (n + 1, omega arith, counted.1)
counted_on n (outcome.Asked number) more counted = (n, omega arith, counted)
counted_on n (outcome.Replied reply) more counted = (n, omega arith, counted)
counted_on n outcome.Done more counted = (n, omega arith, counted)
counted_on n (outcome.Refused r) more counted = (n, omega arith, counted)

in_none : (n face : ℕ) (cs : List Call) (ts : List Step) → face < n → AreCounted n (opened_in ts) → gate_in face cs ts None ≡ None
in_none n face [] ts less counted = refl
in_none n face (c ∷ cs) [] less counted = refl
in_none n face (c ∷ cs) (t ∷ ts) less counted =
    let on = counted_on n t.outcome (opened_in ts) counted in
    let far = on.1 in
    ap (gate_in face cs ts) (after_none n face c t (opened_in ts) less counted) ∙ in_none on.0 face cs ts (omega (arith, less, far)) on.2

first_none : (own : ℕ) (config : Settings) (t : Step) → gate_after own (own_opening config) t None ≡ None
first_none own config t = by (is_accepted t.outcome)
  where
    opened_none : (o : Outcome) → gate_from own (own_opening config) o None ≡ None
    opened_none (outcome.Opened f) = either (f.0 == own)
      where
        either : (b : Bool) → cond {A = Option Gate} b None None ≡ None
        either true = refl
        either false = refl
    opened_none (outcome.Asked number) = refl
    opened_none (outcome.Replied reply) = refl
    opened_none outcome.Done = refl
    opened_none (outcome.Refused r) = refl

    by : (b : Bool) → cond b (gate_past own t.handed (gate_from own (own_opening config) t.outcome None)) None ≡ None
    by true = ap (gate_past own t.handed) (opened_none t.outcome) ∙ past_none own t.handed
    by false = refl

module _ (own : FaceId) (config : Settings) (joined : IsJoined own config) (calls : List Call) where
  abbrev first : Step
  first = step (opening_state config) (own_opening config)

  abbrev others : List Step
  others = steps_from (after (opening_state config) (own_opening config)) calls

  counted : AreCounted config.start.faces (own.0 ∷ opened_in others)
  counted = subst (λ o. AreCounted config.start.faces (opened_by o ++ opened_in others)) joined.opened (headline config (own_opening config ∷ calls)).faces

  pub ungated : gate_at own.0 (run config calls).gates ≡ None
  ungated =
      (headline config (own_opening config ∷ calls)).gates own.0
      ∙ ap (gate_in own.0 calls others) (first_none own.0 config first)
      ∙ in_none (config.start.faces + 1) own.0 calls others (let is = counted.0 in omega (arith, is)) counted.1

-- ---- what waits
-- the request waits for the face's final
pub record IsOwed (face rid : ℕ) (s : State) : Type 0 where
  pub number : ℕ
  pub deadline : ℕ
  pub there : owes number (record { face = face; id = rid; deadline = deadline }) s.core.queries.records ≡ true

same_entry : (e p : Pending) → is_same e p ≡ true → is_entry e.face e.id p ≡ true
same_entry e p h =
    let a = and_parts (p.face == e.face) ((p.id == e.id) && (p.deadline == e.deadline)) h in
    let b = and_parts (p.id == e.id) (p.deadline == e.deadline) a.1 in
    (λ j. a.0 j && b.0 j)

owed_pending : (n : ℕ) (e : Pending) (rs : List Record) → owes n e rs ≡ true → is_pending e.face e.id rs ≡ true
owed_pending n e rs h =
    any_weaker (waits n e) (has_entry e.face e.id)
    (λ r w. any_weaker (is_same e) (is_entry e.face e.id) (same_entry e) r.pending ((and_parts (r.number == n) (list_any (is_same e) r.pending) w).1)) rs h

pub pending_is : (face rid : ℕ) (s : State) → IsOwed face rid s → is_pending face rid s.core.queries.records ≡ true
pending_is face rid s o = owed_pending o.number (record { face = face; id = rid; deadline = o.deadline }) s.core.queries.records o.there

module _ (face rid : ℕ) (c : Core) where
  abbrev Opens : Pending → Type 0
  Opens e = is_open e.face c ≡ true

  among : (ps : List Pending) (more : List Pending) → list_any (is_entry face rid) ps ≡ true → AllByRecursion Opens (ps ++ more) → is_open face c ≡ true
  among [] more h all = absurd (false≢true h)
  among (p ∷ ps) more h all = by (is_entry face rid p) refl h (λ k. among ps more k all.1)
    where
      by : (b : Bool) → is_entry face rid p ≡ b → (b || list_any (is_entry face rid) ps) ≡ true → (list_any (is_entry face rid) ps ≡ true → is_open face c ≡ true) → is_open face c ≡ true
      by true e k later = subst (λ f. is_open f c ≡ true) (eqb-true p.face face (and_parts (p.face == face) (p.id == rid) e).0) all.0
      by false e k later = later k

  behind_them : (ps more : List Pending) → AllByRecursion Opens (ps ++ more) → AllByRecursion Opens more
  behind_them [] more all = all
  behind_them (p ∷ ps) more all = behind_them ps more all.1

  in_records : (rs : List Record) → is_pending face rid rs ≡ true → AllByRecursion Opens (all_pending rs) → is_open face c ≡ true
  in_records [] h all = absurd (false≢true h)
  in_records (r ∷ rs) h all = by (has_entry face rid r) refl h (λ k. in_records rs k (behind_them r.pending (all_pending rs) all))
    where
      by : (b : Bool) → has_entry face rid r ≡ b → (b || is_pending face rid rs) ≡ true → (is_pending face rid rs ≡ true → is_open face c ≡ true) → is_open face c ≡ true
      by true e k later = among r.pending (all_pending rs) e all
      by false e k later = later k

-- a face at which something waits is open
pub open_is : (config : Settings) (calls : List Call) (face rid : ℕ) → IsOwed face rid (run config calls) → is_open face (run config calls).core ≡ true
open_is config calls face rid o =
    in_records face rid (run config calls).core (run config calls).core.queries.records (pending_is face rid (run config calls) o) (headline config (own_opening config ∷ calls)).agrees.targets

-- a refused call changes nothing
stays : (s : State) (c : Call) (o : Option Refusal) → RefusesBy o s c → is_accepted (step s c).outcome ≡ false → after s c ≡ s
stays s c None fine h = absurd (true≢false (sym fine ∙ h))
stays s c (Some r) told h = told.1

-- it waits on after a call that ends no entry
pub waits_on : (s : State) (c : Call) → KeepsPromises s c → (face rid : ℕ) → ((e : Pending) → ends_entry c e ≡ false) → IsOwed face rid s → IsOwed face rid (after s c)
waits_on s c k face rid ends o = by (is_accepted (step s c).outcome) refl
  where
    by : (b : Bool) → is_accepted (step s c).outcome ≡ b → IsOwed face rid (after s c)
    by true h = record {
      number = o.number;
      deadline = o.deadline;
      there =
          (k.waits h).entries o.number (record { face = face; id = rid; deadline = o.deadline })
          ∙ (λ j. (o.there j && not (ends (record { face = face; id = rid; deadline = o.deadline }) j)) || list_any (gives (until s c) o.number (record { face = face; id = rid; deadline = o.deadline })) (step s c).handed);
    }
    by false h = subst (IsOwed face rid) (sym (stays s c (refusal_of s.core (read s c)) k.refusals h)) o
