-- A reply that is handed is of a request of which an entry is pending.
use Rattle.std.proofs.Common.{◌≡◌, ℕ, ◌+◌, ◌<◌, ◌≤◌, Bool, true, false, cond, List, [], ◌∷◌, ◌++◌, map, Option, Some, None, refl, sym, ap, ◌∙◌, subst, eqb-true, inl, inr}
use Rattle.std.specs.Prelude.{find, fold, ◌==◌, ◌||◌, ◌&&◌, ◌⊎◌, All}
use Rattle.std.specs.BTreeSet.{insert_key}
use Rattle.std.specs.List.{AllByRecursion, cons_option, filter, flat_map, list_any}
use Rattle.std.specs.Option.{option_map, option_map_or}
use Rattle.std.proofs.Math.Bool.{and-false}
use Rattle.std.proofs.lemmas.Bool.{and_parts, eq-eqb, false≢true, or_cases, or_left, or_right}
use Rattle.std.proofs.lemmas.List.Elements.{All-append, All-cons, All-head, All-nil, All-tail}
use Rattle.std.proofs.lemmas.List.Folds.{list_any-append}
use Rattle.std.proofs.lemmas.Map.Views.{All-insert_key}
use Rattle.zq_message.specs.declared.message.FaceId.{FaceId}
use Rattle.zq_message.specs.declared.message.Response.{Response}
use Rattle.zq_query.specs.declared.records.Final.{Final}
use Rattle.zq_query.specs.declared.records.ReplyTo.{ReplyTo}
use Rattle.zq_query.specs.declared.records.Timeout.{Timeout}
use Rattle.zq_query.specs.Polling.{dues_at, dues_of, is_due, numbers_in, timed_out, timeouts, with_timeout}
use Rattle.zq_query.specs.Records.{Pending, QueryState, Record, final_of, has_number, is_reply, next_reply, owner, pending_count, reply_to, request}
use Rattle.zq_query.specs.Tables.{Due, due_cmp}
use Rattle.zq_tables.specs.Naming.{NamingState}
use Rattle.zq_machine.specs.Agreeing.{number_of}
use Rattle.zq_machine.specs.Deciding as deciding
use Rattle.zq_machine.specs.Gates.{Gates, through}
use Rattle.zq_machine.specs.Handing.{Handed}
use Rattle.zq_machine.specs.Waiting.{hands_reply, is_same, owes}
use Rattle.zq_machine.specs.Writing.{sent_final, write}
use Rattle.zq_machine.proofs.Lists.{count}
use Rattle.zq_machine.proofs.Lists as lists
use Rattle.zq_machine.proofs.Waiting.{says}
use Rattle.zq_machine.proofs.Waits.{timeouts_carry}
use Rattle.zq_shared.proofs.Owed.{owed_counts, owner_owes, same_itself}

-- ---- the entries that are due are pending
module _ (rs : List Record) where
  abbrev Counts : Due → Type 0
  Counts d = 0 < pending_count d.1 rs

  abbrev TimesOut : Timeout → Type 0
  TimesOut t = 0 < pending_count t.number rs

  due_one : (now n : ℕ) (es : List Pending) → ((e : Pending) → list_any (is_same e) es ≡ true → 0 < pending_count n rs) → All Counts (map (λ (e : Pending). (e.deadline, n, e.face)) (filter (is_due now) es))
  due_one now n [] counts = All-nil Counts
  due_one now n (e ∷ es) counts = by (is_due now e) (due_one now n es (λ x h. counts x (or_right (is_same x e) (list_any (is_same x) es) h)))
    where
      here : 0 < pending_count n rs
      here = counts e (or_left (is_same e e) (list_any (is_same e) es) (same_itself e))

      by : (b : Bool) → All Counts (map (λ (e : Pending). (e.deadline, n, e.face)) (filter (is_due now) es)) → All Counts (map (λ (e : Pending). (e.deadline, n, e.face)) (cond b (e ∷ filter (is_due now) es) (filter (is_due now) es)))
      by false all = all
      by true all = All-cons Counts (e.deadline, n, e.face) (map (λ (e : Pending). (e.deadline, n, e.face)) (filter (is_due now) es)) here all

  due_all : (now : ℕ) (some : List Record) → ((n : ℕ) (e : Pending) → owes n e some ≡ true → 0 < pending_count n rs) → All Counts (flat_map (dues_of now) some)
  due_all now [] counts = All-nil Counts
  due_all now (r ∷ some) counts =
      All-append Counts (dues_of now r) (flat_map (dues_of now) some)
      (due_one now r.number r.pending (λ e h. counts r.number e (or_left ((r.number == r.number) && list_any (is_same e) r.pending) (owes r.number e some) (λ j. eq-eqb r.number r.number refl j && h j))))
      (due_all now some (λ n e h. counts n e (or_right ((r.number == n) && list_any (is_same e) r.pending) (owes n e some) h)))

  due_folded : (ks l : List Due) → All Counts l → All Counts ks → All Counts (fold (insert_key due_cmp) l ks)
  due_folded [] l all more = all
  due_folded (k ∷ ks) l all more = due_folded ks (insert_key due_cmp l k) (All-insert_key due_cmp k Counts l all (All-head Counts k ks more)) (All-tail Counts k ks more)

number_is : (n : ℕ) (rs : List Record) (f : Final) → request n rs ≡ Some f → f.number ≡ n
number_is n [] f h = absurd (cc)
number_is n (r ∷ rs) f h = by (r.number == n) refl h (number_is n rs f)
  where
    by : (b : Bool) → (r.number == n) ≡ b → option_map final_of (cond b (Some r) (find (has_number n) rs)) ≡ Some f → (request n rs ≡ Some f → f.number ≡ n) → f.number ≡ n
    by true e g ih = let same : final_of r ≡ f = cc in ap (λ (x : Final). x.number) (sym same) ∙ eqb-true r.number n e
    by false e g ih = ih g

module _ (s : QueryState) where
  out_more : (d : Due) (o : Option Final) → request d.1 s.records ≡ o → 0 < pending_count d.1 s.records → (ts : List Timeout) (reply : ℕ) → AllByRecursion (TimesOut s.records) ts
      → AllByRecursion (TimesOut s.records) (ts ++ cons_option (option_map (timed_out s reply d) o) [])
  out_more d None e counts ts reply all = lists.all_append (TimesOut s.records) ts [] all tt
  out_more d (Some f) e counts ts reply all = lists.all_append (TimesOut s.records) ts (timed_out s reply d f ∷ []) all (subst (λ n. 0 < pending_count n s.records) (sym (number_is d.1 s.records f e)) counts, tt)

  out_all : (ds : List Due) (ts : List Timeout) → All (Counts s.records) ds → AllByRecursion (TimesOut s.records) ts → AllByRecursion (TimesOut s.records) (fold (with_timeout s) ts ds)
  out_all [] ts counts all = all
  out_all (d ∷ ds) ts counts all = out_all ds (with_timeout s ts d) (All-tail (Counts s.records) d ds counts) (out_more d (request d.1 s.records) refl (All-head (Counts s.records) d ds counts) ts (s.replies + numbers_in ts) all)

  pub timeouts_count : ((n : ℕ) → count (lists.is_same n) (map number_of s.records) ≤ 1) → (now : ℕ) → AllByRecursion (TimesOut s.records) (timeouts now s)
  timeouts_count once now =
      out_all (dues_at now s.records) []
      (due_folded s.records (flat_map (dues_of now) s.records) [] (All-nil (Counts s.records)) (due_all s.records now s.records (λ n e h. owed_counts n e s.records (once n) h)))
      tt

-- ---- replies that are handed
module _ (n k : ℕ) where
  -- the gates do not change whose reply a message is
  any_through : (text : List ℕ) (gates : Gates) (hs : List Handed) → list_any (hands_reply n k) (map (through text gates) hs) ≡ list_any (hands_reply n k) hs
  any_through text gates [] = refl
  any_through text gates (h ∷ hs) = ap (λ b. hands_reply n k h || b) (any_through text gates hs)

  any_sent : (fs : List Final) → list_any (hands_reply n k) (map sent_final fs) ≡ false
  any_sent [] = refl
  any_sent (f ∷ fs) = (λ j. and-false (f.number == n) j || any_sent fs j)

  said_counts : (rs : List Record) (ts : List Timeout) → AllByRecursion (TimesOut rs) ts → list_any (says n k) ts ≡ true → 0 < pending_count n rs
  said_counts rs [] all h = absurd (false≢true h)
  said_counts rs (t ∷ ts) all h = by (or_cases (says n k t) (list_any (says n k) ts) h) (said_counts rs ts all.1)
    where
      by : ((says n k t ≡ true) ⊎ (list_any (says n k) ts ≡ true)) → (list_any (says n k) ts ≡ true → 0 < pending_count n rs) → 0 < pending_count n rs
      by (inl here) ih = subst (λ m. 0 < pending_count m rs) (eqb-true t.number n (and_parts (t.number == n) (option_map_or (is_reply k) t.reply false) here).0) all.0
      by (inr there) ih = ih there

  module _ (q : QueryState) (once : (m : ℕ) → count (lists.is_same m) (map number_of q.records) ≤ 1) where
    -- an error reply is of a request with an entry that was late
    pub timeouts_are : (names : NamingState) (faces : _) (gates : Gates) (now : ℕ) (fs : List Final)
        → list_any (hands_reply n k) (map (through [] gates) (write names (deciding.handed_timeouts faces (timeouts now q))) ++ map sent_final fs) ≡ true → 0 < pending_count n q.records
    timeouts_are names faces gates now fs h =
        let hs : List Handed = write names (deciding.handed_timeouts faces (timeouts now q)) in
        let parts = or_cases (list_any (hands_reply n k) (map (through [] gates) hs)) (list_any (hands_reply n k) (map sent_final fs)) (sym (list_any-append (hands_reply n k) (map (through [] gates) hs) (map sent_final fs)) ∙ h) in
        by parts
      where
        by : ((list_any (hands_reply n k) (map (through [] gates) (write names (deciding.handed_timeouts faces (timeouts now q)))) ≡ true) ⊎ (list_any (hands_reply n k) (map sent_final fs) ≡ true)) → 0 < pending_count n q.records
        by (inl out) = said_counts q.records (timeouts now q) (timeouts_count q once now) (sym (timeouts_carry n names k faces (timeouts now q)) ∙ (sym (any_through [] gates (write names (deciding.handed_timeouts faces (timeouts now q)))) ∙ out))
        by (inr final) = absurd (false≢true (sym (any_sent fs) ∙ final))

    -- a reply is of the request whose entry it answers
    pub reply_is : (names : NamingState) (gates : Gates) (text : List ℕ) (face : FaceId) (r : Response) (goes : ReplyTo) → next_reply face.0 r.rid q ≡ Some goes
        → list_any (hands_reply n k) (map (through [] gates) (write names (deciding.handed_replies text r goes))) ≡ true → 0 < pending_count n q.records
    reply_is names gates text face r goes is h = found (owner face.0 r.rid q.records) refl is
      where
        number : (o : Option ℕ) → list_any (hands_reply n k) (map (through [] gates) (write names (cons_option (option_map (deciding.handed_reply text r goes) o) []))) ≡ true → goes.number ≡ n
        number None g = absurd (false≢true g)
        number (Some x) g = first (or_cases ((goes.number == n) && is_reply k x) false g)
          where
            first : ((((goes.number == n) && is_reply k x) ≡ true) ⊎ (false ≡ true)) → goes.number ≡ n
            first (inl here) = eqb-true goes.number n (and_parts (goes.number == n) (is_reply k x) here).0
            first (inr none) = absurd (false≢true none)

        found : (o : Option Final) → owner face.0 r.rid q.records ≡ o → option_map (reply_to q) o ≡ Some goes → 0 < pending_count n q.records
        found None e g = absurd (cc)
        found (Some f) e g =
            let same : reply_to q f ≡ goes = cc in
            let mine = ap (λ (x : ReplyTo). x.number) same ∙ number goes.reply h in
            let there = owner_owes face.0 r.rid q.records f e in
            subst (λ m. 0 < pending_count m q.records) mine (owed_counts f.number there.0 q.records (once f.number) there.1)
