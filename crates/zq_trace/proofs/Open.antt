-- Which requests wait, by a run's trace: those of which the machine has a record; and how many finals are to come.
use Rattle.std.proofs.Common.{◌≡◌, ◌∙◌, refl, sym, ap, ℕ, Bool, true, false, List, [], ◌∷◌, true≢false, eq-eqb, ◌⊎◌, inl, inr}
use Rattle.std.specs.Prelude.{◌==◌, ◌&&◌}
use Rattle.std.specs.List.{AllByRecursion, Contains, list_any}
use Rattle.std.proofs.lemmas.Bool.{and_from, and_parts, or_cases, or_left, or_right}
use Rattle.std.proofs.lemmas.List.Elements.{All-contains, All-from_recursion, Contains-append_left, Contains-append_right, Contains-push}
use Rattle.std.proofs.lemmas.List.Folds.{list_any_at}
use Rattle.zq_query.specs.Records.{Pending, Record, any_over, flies, has_number, has_reply, is_none_left, is_over, is_reply}
use Rattle.zq_machine.specs.Configs.{Settings}
use Rattle.zq_machine.specs.Waiting.{is_same, owes, waits as has_entry_of}
use Rattle.zq_machine.proofs.Lists.{all_failing}
use Rattle.zq_trace.specs.Faces.{Trace}
use Rattle.zq_trace.specs.Awaited.{Owed, in_flight, pending, waits}
use Rattle.zq_trace.proofs.Pending.{entries_alike, flights_alike, is_flight, is_owed}
use Rattle.zq_trace.proofs.Runs.{IsRun, call_promise, reached}

-- ---- tests of lists
pub same_bool : (a b : Bool) → (a ≡ true → b ≡ true) → (b ≡ true → a ≡ true) → a ≡ b
same_bool true b f g = sym (f refl)
same_bool false true f g = g refl
same_bool false false f g = refl

pub any_from : {X : Type 0} (p : X → Bool) (xs : List X) (x : X) → Contains xs x → p x ≡ true → list_any p xs ≡ true
any_from p xs x has h = list_any_at p xs has.0 x has.1 (ap p has.2 ∙ h)

abbrev pub Found : {X : Type 0} → (X → Bool) → List X → Type 0
Found {X} p xs = (x : X) × (p x ≡ true) × Contains xs x

found_by : {X : Type 0} (p : X → Bool) (x : X) (xs : List X) → (p x ≡ true) ⊎ (list_any p xs ≡ true) → (list_any p xs ≡ true → Found p xs) → Found p (x ∷ xs)
found_by p x xs (inl here) rest = (x, here, Contains-append_left (x ∷ []) xs x (Contains-push [] x))
found_by p x xs (inr later) rest = let y : Found p xs = rest later in (y.0, y.1, Contains-append_right (x ∷ []) xs y.0 y.2)

pub found : {X : Type 0} (p : X → Bool) (xs : List X) → list_any p xs ≡ true → Found p xs
found p [] h = absurd (true≢false (sym h))
found p (x ∷ xs) h = found_by p x xs (or_cases (p x) (list_any p xs) h) (found p xs)

pub all_at : {X : Type 0} (P : X → Type 0) (xs : List X) (x : X) → AllByRecursion P xs → Contains xs x → P x
all_at P xs x all has = All-contains P xs x (All-from_recursion P xs all) has

pub same_itself : (e : Pending) → is_same e e ≡ true
same_itself e = and_from (e.face == e.face) ((e.id == e.id) && (e.deadline == e.deadline)) (eq-eqb e.face e.face refl) (and_from (e.id == e.id) (e.deadline == e.deadline) (eq-eqb e.id e.id refl) (eq-eqb e.deadline e.deadline refl))

-- ---- what waits has a record
module _ (config : Settings) (past : Trace) (run : IsRun config past) (n : ℕ) where
  abbrev records : List Record
  records = (reached config past).core.queries.records

  waits_recorded : waits config past n ≡ true → list_any (has_number n) records ≡ true
  waits_recorded h = by (or_cases (list_any (λ (e : Owed). e.0 == n) (pending config past)) (list_any (λ (f : ℕ × ℕ). f.0 == n) (in_flight past)) h)
    where
      by : (list_any (λ (e : Owed). e.0 == n) (pending config past) ≡ true) ⊎ (list_any (λ (f : ℕ × ℕ). f.0 == n) (in_flight past) ≡ true) → list_any (has_number n) records ≡ true
      by (inl some) =
          let x = found (λ (e : Owed). e.0 == n) (pending config past) some in
          let there : list_any (is_owed n x.0.1) (pending config past) ≡ true = any_from (is_owed n x.0.1) (pending config past) x.0 x.2 (and_from (x.0.0 == n) (is_same x.0.1 x.0.1) x.1 (same_itself x.0.1)) in
          let r = found (has_entry_of n x.0.1) records (entries_alike config past run n x.0.1 ∙ there) in
          any_from (has_number n) records r.0 r.2 (and_parts (r.0.number == n) (list_any (is_same x.0.1) r.0.pending) r.1).0
      by (inr some) =
          let x = found (λ (f : ℕ × ℕ). f.0 == n) (in_flight past) some in
          let there : list_any (is_flight n x.0.1) (in_flight past) ≡ true = any_from (is_flight n x.0.1) (in_flight past) x.0 x.2 (and_from (x.0.0 == n) (is_reply x.0.1 x.0.1) x.1 (eq-eqb x.0.1 x.0.1 refl)) in
          let r = found (λ (q : Record). (q.number == n) && has_reply x.0.1 q) records (flights_alike config past run n x.0.1 ∙ there) in
          any_from (has_number n) records r.0 r.2 (and_parts (r.0.number == n) (has_reply x.0.1 r.0) r.1).0

  owes_waits : (e : Pending) → owes n e records ≡ true → waits config past n ≡ true
  owes_waits e h =
      let x = found (is_owed n e) (pending config past) (sym (entries_alike config past run n e) ∙ h) in
      or_left (list_any (λ (y : Owed). y.0 == n) (pending config past)) (list_any (λ (f : ℕ × ℕ). f.0 == n) (in_flight past))
      (any_from (λ (y : Owed). y.0 == n) (pending config past) x.0 x.2 (and_parts (x.0.0 == n) (is_same e x.0.1) x.1).0)

  flies_waits : (k : ℕ) → flies n k records ≡ true → waits config past n ≡ true
  flies_waits k h =
      let x = found (is_flight n k) (in_flight past) (sym (flights_alike config past run n k) ∙ h) in
      or_right (list_any (λ (y : Owed). y.0 == n) (pending config past)) (list_any (λ (f : ℕ × ℕ). f.0 == n) (in_flight past))
      (any_from (λ (f : ℕ × ℕ). f.0 == n) (in_flight past) x.0 x.2 (and_parts (x.0.0 == n) (is_reply k x.0.1) x.1).0)

  left_waits : (r : Record) → Contains records r → (r.number == n) ≡ true → (es : List Pending) (ks : List ℕ) → r.pending ≡ es → r.in_flight ≡ ks → (is_none_left es && is_none_left ks) ≡ false → waits config past n ≡ true
  left_waits r has is [] [] p f h = absurd (true≢false h)
  left_waits r has is [] (k ∷ ks) p f h =
      flies_waits k (any_from (λ (q : Record). (q.number == n) && has_reply k q) records r has (and_from (r.number == n) (has_reply k r) is (ap (list_any (is_reply k)) f ∙ or_left (is_reply k k) (list_any (is_reply k) ks) (eq-eqb k k refl))))
  left_waits r has is (e ∷ es) ks p f h =
      owes_waits e (any_from (has_entry_of n e) records r has (and_from (r.number == n) (list_any (is_same e) r.pending) is (ap (list_any (is_same e)) p ∙ or_left (is_same e e) (list_any (is_same e) es) (same_itself e))))

  recorded_waits : any_over records ≡ false → list_any (has_number n) records ≡ true → waits config past n ≡ true
  recorded_waits standing h =
      let r = found (has_number n) records h in
      left_waits r.0 r.2 r.1 r.0.pending r.0.in_flight refl refl (all_at (λ (q : Record). is_over q ≡ false) records r.0 (all_failing is_over records standing) r.2)

-- no record has nothing left
pub none_over : (config : Settings) (past : Trace) → any_over (reached config past).core.queries.records ≡ false
none_over config [] = refl
none_over config (x ∷ past) = ((call_promise config past x.0).finals 0).standing

pub waits_alike : (config : Settings) (past : Trace) → IsRun config past → (n : ℕ) → list_any (has_number n) (reached config past).core.queries.records ≡ waits config past n
waits_alike config past run n = same_bool (list_any (has_number n) (reached config past).core.queries.records) (waits config past n) (recorded_waits config past run n (none_over config past)) (waits_recorded config past run n)
