-- What the lock keeps, one call or some reports more.
use Rattle.std.proofs.Common.{◌≡◌, ℕ, ◌+◌, ◌≤◌, Bool, true, false, List, [], ◌∷◌, ◌++◌, length, Option, Some, None, refl, sym, ap, ◌∙◌, subst, inl, inr, arith, length-append}
use Rattle.std.specs.List.{filter}
use Rattle.std.specs.Prelude.{IfSome, ◌&&◌, not}
use Rattle.std.proofs.lemmas.List.{append-nil}
use Rattle.std.proofs.lemmas.List.Elements.{All-nil, All-cons, All-append, filter-append}
use Rattle.atomic_table.specs.Seated.{TableId}
use Rattle.zq_machine.specs.declared.call.Call.{Call}
use Rattle.zq_machine.specs.declared.call.Call.TheVariants as call
use Rattle.zq_machine.specs.Calls.{is_sent}
use Rattle.zq_machine.specs.Configs.{Settings}
use Rattle.zq_machine.specs.Handing.{Handed}
use Rattle.zq_machine.specs.Machine.{done}
use Rattle.zq_shared.specs.Stored.{Stored, answer_to, asks_request, requests_in, with_call}
use Rattle.zq_shared.specs.Ties.{Sharing}
use Rattle.zq_shared.specs.Sharing.{AreDue, EndsIn, IsSameHolds, Settles, reports, with_reports}
use Rattle.zq_shared.specs.Answers.{AllListed, IsAnswer, IsFinal, IsListed, MayPrecede, MayStand, behind}
use Rattle.zq_shared.specs.Locking.{IsLocked}
use Rattle.zq_shared.specs.Tallies.{Counts, is_other, others_in}

-- ---- reports
reports_listed : (list : Option (List Call)) (ks : List ℕ) → AllListed list (reports ks)
reports_listed list [] = All-nil (MayStand list)
reports_listed list (k ∷ ks) = All-cons (MayStand list) (call.Sent k) (reports ks) (inl refl) (reports_listed list ks)

no_others : (ks : List ℕ) → filter is_other (reports ks) ≡ []
no_others [] = refl
no_others (k ∷ ks) = no_others ks

no_requests : (ks : List ℕ) → filter asks_request (reports ks) ≡ []
no_requests [] = refl
no_requests (k ∷ ks) = no_requests ks

-- ---- counts of calls
count_more : (p : Call → Bool) (xs ys : List Call) → length (filter p (xs ++ ys)) ≡ length (filter p xs) + length (filter p ys)
count_more p xs ys = ap (λ (l : List Call). length l) (filter-append p xs ys) ∙ length-append (filter p xs) (filter p ys)

-- 1 where it is so, else 0
abbrev pub weight : Bool → ℕ
weight true = 1
weight false = 0

count_if : (p : Call → Bool) (c : Call) (b : Bool) → p c ≡ b → length (filter p (c ∷ [])) ≡ weight b
count_if p c true e = rw e
count_if p c false e = rw e

others_reported : (cs : List Call) (ks : List ℕ) → others_in (cs ++ reports ks) ≡ others_in cs
others_reported cs ks = let more = count_more is_other cs (reports ks) in let none = ap (λ (l : List Call). length l) (no_others ks) in omega arith

requests_reported : (cs : List Call) (ks : List ℕ) → requests_in (cs ++ reports ks) ≡ requests_in cs
requests_reported cs ks = let more = count_more asks_request cs (reports ks) in let none = ap (λ (l : List Call). length l) (no_requests ks) in omega arith

-- ---- what a settling stores
pub settles_reports : (o : Option ℕ) (s : Stored) (a : Option Handed) (new : Stored) → Settles o s a new → (ks : List ℕ) × (new ≡ with_reports s ks) × EndsIn s ks a × AreDue s (reports ks)
settles_reports None s a new h = ([], h.1 ∙ ap (behind s.config) (sym (append-nil s.calls)), inl (refl, h.0), tt)
settles_reports (Some n) s a new h = (h.0, h.1.stored, h.1.ends, h.1.due)

final_comes : (config : Settings) (list : Option (List Call)) (s : Stored) (ks : List ℕ) (a : Option Handed) → s.config ≡ config → AllListed list s.calls → EndsIn s ks a → IfSome a (IsFinal config list)
final_comes config list s ks None means all e = tt
final_comes config list s ks (Some h) means all (inl e) = absurd (let none = e.1 in cc)
final_comes config list s ks (Some h) means all (inr e) = (
  s.calls ++ reports e.0,
  e.1,
  subst (λ (c : Settings). answer_to (behind c (s.calls ++ reports e.0)) (call.Sent e.1) ≡ done (h ∷ [])) means e.3,
  All-append (MayStand list) s.calls (reports e.0) all (reports_listed list e.0),
)

module _ (config : Settings) (holds : TableId) (list : Option (List Call)) (old new : Sharing) (totals : Counts) where
  locked_reports : (ks : List ℕ) → IsLocked config holds list old totals → new.stored ≡ with_reports old.stored ks → IsSameHolds old.slots new.slots → IsLocked config holds list new totals
  locked_reports ks h stored same =
      let others = others_reported old.stored.calls ks in
      let requests = requests_reported old.stored.calls ks in
      let calls = ap (λ (s : Stored). s.calls) stored in
      let o = ap others_in calls in
      let r = ap requests_in calls in
      record {
        means = ap (λ (s : Stored). s.config) stored ∙ h.means;
        home = same.0 ∙ h.home;
        listed = subst (AllListed list) (sym calls) (All-append (MayStand list) old.stored.calls (reports ks) h.listed (reports_listed list ks));
        others = h.others ∙ sym (o ∙ others);
        asked = h.asked ∙ sym (r ∙ requests);
        full = λ some. let f = h.full some in omega arith;
      }

  pub locked_settled : (o : Option ℕ) (a : Option Handed) → IsLocked config holds list old totals → Settles o old.stored a new.stored → IsSameHolds old.slots new.slots → IsLocked config holds list new totals
  locked_settled o a h s same = let r = settles_reports o old.stored a new.stored s in locked_reports r.0 h r.1 same

  pub settled_final : (o : Option ℕ) (a : Option Handed) → IsLocked config holds list old totals → Settles o old.stored a new.stored → IfSome a (IsFinal config list)
  settled_final o a h s = let r = settles_reports o old.stored a new.stored s in final_comes config list old.stored r.0 a h.means h.listed r.2

  -- what a caller made is counted by the books, and so among the stored calls
  module _ (made : Counts) (h : IsLocked config holds list old totals) (calls : made.calls ≤ totals.calls) (asks : made.asks ≤ totals.asks) where
    precedes : MayPrecede list made old.stored.calls
    precedes = let o = h.others in let a = h.asked in (h.listed, omega arith, omega arith)

    pub answered : (c : Call) → IsAnswer config list made c (answer_to old.stored c)
    answered c = (old.stored.calls, ap (λ (s : Settings). answer_to (behind s old.stored.calls) c) h.means, precedes)

  -- nothing more is stored
  pub locked_same : IsLocked config holds list old totals → new.stored ≡ old.stored → IsSameHolds old.slots new.slots → IsLocked config holds list new totals
  locked_same h stored same =
      let calls = ap (λ (s : Stored). s.calls) stored in
      let o = ap others_in calls in
      let r = ap requests_in calls in
      record {
        means = ap (λ (s : Stored). s.config) stored ∙ h.means;
        home = same.0 ∙ h.home;
        listed = subst (AllListed list) (sym calls) h.listed;
        others = h.others ∙ sym o;
        asked = h.asked ∙ sym r;
        full = λ some. let f = h.full some in omega arith;
      }

  -- a call more is stored, and counted
  module _ (c : Call) (then : Counts) (h : IsLocked config holds list old totals) (unsent : is_sent c ≡ false) (listed : IsListed list c) (stored : new.stored ≡ with_call old.stored c) (same : IsSameHolds old.slots new.slots)
      (others : then.calls ≡ totals.calls + length (filter is_other (c ∷ []))) (asked : then.asks ≡ totals.asks + length (filter asks_request (c ∷ []))) (full : then.full ≡ totals.full) where
    locked_more : IsLocked config holds list new then
    locked_more =
        let calls = ap (λ (s : Stored). s.calls) stored in
        let o = ap others_in calls ∙ count_more is_other old.stored.calls (c ∷ []) in
        let r = ap requests_in calls ∙ count_more asks_request old.stored.calls (c ∷ []) in
        let was = h.others in
        let were = h.asked in
        record {
          means = ap (λ (s : Stored). s.config) stored ∙ h.means;
          home = same.0 ∙ h.home;
          listed = subst (AllListed list) (sym calls) (All-append (MayStand list) old.stored.calls (c ∷ []) h.listed (All-cons (MayStand list) c [] (inr listed) (All-nil (MayStand list))));
          others = omega arith;
          asked = omega arith;
          full = λ some. let f = h.full (omega arith) in omega arith;
        }

  module _ (c : Call) (then : Counts) (h : IsLocked config holds list old totals) (unsent : is_sent c ≡ false) (listed : IsListed list c) (stored : new.stored ≡ with_call old.stored c) (same : IsSameHolds old.slots new.slots) (full : then.full ≡ totals.full) where
    pub locked_ask : asks_request c ≡ true → then.calls ≡ totals.calls → then.asks ≡ totals.asks + 1 → IsLocked config holds list new then
    locked_ask asks others asked =
        let one = count_if asks_request c true asks in
        let none = count_if is_other c false (ap (λ b. not b && not (is_sent c)) asks) in
        locked_more c then h unsent listed stored same (omega arith) (omega arith) full

    pub locked_other : asks_request c ≡ false → then.calls ≡ totals.calls + 1 → then.asks ≡ totals.asks → IsLocked config holds list new then
    locked_other asks others asked =
        let none = count_if asks_request c false asks in
        let one = count_if is_other c true (ap (λ b. not b && not (is_sent c)) asks ∙ ap not unsent) in
        locked_more c then h unsent listed stored same (omega arith) (omega arith) full
