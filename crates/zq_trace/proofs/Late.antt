-- The error replies that a moment hands are those that the trace tells.
use Rattle.std.proofs.Common.{◌≡◌, ◌∙◌, refl, sym, ap, ℕ, Bool, true, false, cond, List, [], ◌∷◌, fold, map, Some, true≢false, eqb-true, eq-eqb}
use Rattle.std.specs.Prelude.{find, ◌==◌, ◌&&◌, ◌||◌}
use Rattle.std.specs.List.{AllByRecursion, Contains, filter, flat_map, list_any}
use Rattle.std.specs.List.Sorted.{IsStrictlySortedBy}
use Rattle.std.specs.BTreeMap.{is_at}
use Rattle.std.specs.BTreeSet.{insert_key}
use Rattle.std.specs.Option.{option_map}
use Rattle.std.specs.Ordering.{match_ordering}
use Rattle.std.specs.declared.cmp.Ordering.{Ordering}
use Rattle.std.specs.declared.cmp.Ordering.TheVariants.{Less, Equal, Greater}
use Rattle.std.proofs.lemmas.Bool.{and_from, and_parts}
use Rattle.std.proofs.lemmas.List.Elements.{Contains-append_left, Contains-append_right, Contains-push}
use Rattle.zq_key.proofs.Sorted.{same_keys, sorted_put}
use Rattle.zq_query.proofs.Dues.{folded_key}
use Rattle.zq_query.proofs.Keys.{due_exact, due_total}
use Rattle.zq_query.specs.Polling.{dues_at, dues_of, is_due}
use Rattle.zq_query.specs.Records.{Pending, Record, final_of, has_number, request as machine_request}
use Rattle.zq_query.specs.Tables.{Due, due_cmp}
use Rattle.zq_machine.specs.Configs.{Settings}
use Rattle.zq_machine.specs.Waiting.{is_same, owes, waits as has_entry_of}
use Rattle.zq_machine.proofs.Lists.{all_append, any_flat}
use Rattle.zq_trace.specs.Faces.{Trace}
use Rattle.zq_trace.specs.Awaited.{Owed, pending, request}
use Rattle.zq_trace.specs.Expected.{late}
use Rattle.zq_trace.proofs.Asked.{records_asked}
use Rattle.zq_trace.proofs.Ending.{filter_any}
use Rattle.zq_trace.proofs.Open.{Found, any_from, found, same_bool, same_itself}
use Rattle.zq_trace.proofs.Pending.{entries_alike, is_owed, same_is}
use Rattle.zq_trace.proofs.Runs.{IsRun, reached}

pub any_map : {X Y : Type 0} (p : Y → Bool) (g : X → Y) (xs : List X) → list_any p (map g xs) ≡ list_any (λ x. p (g x)) xs
any_map p g [] = refl
any_map p g (x ∷ xs) = ap (λ b. p (g x) || b) (any_map p g xs)

none_sorted : IsStrictlySortedBy due_cmp []
unfolding IsStrictlySortedBy
none_sorted = tt

folded_sorted : (l ds : List Due) → IsStrictlySortedBy due_cmp l → IsStrictlySortedBy due_cmp (fold (insert_key due_cmp) l ds)
folded_sorted l [] sorted = sorted
folded_sorted l (d ∷ ds) sorted = folded_sorted (insert_key due_cmp l d) ds (sorted_put due_total l d sorted)

module _ (config : Settings) (past : Trace) (run : IsRun config past) (now : ℕ) where
  abbrev records : List Record
  records = (reached config past).core.queries.records

  abbrev due : Owed → Due
  due e = (e.1.deadline, e.0, e.1.face)

  abbrev its_dues : Record → Pending → Due
  its_dues r e = (e.deadline, r.number, e.face)

  abbrev is_late : Owed → Bool
  is_late e = is_due now e.1

  module _ (q : Due) where
    abbrev hits : Due → Bool
    hits d = is_at (due_cmp q) d

    abbrev ours : Owed → Bool
    ours e = is_late e && hits (due e)

    abbrev theirs : Record → Pending → Bool
    theirs r e = is_due now e && hits (its_dues r e)

    ours_are : list_any hits (map due (filter is_late (pending config past))) ≡ list_any ours (pending config past)
    ours_are = any_map hits due (filter is_late (pending config past)) ∙ sym (filter_any is_late (λ (e : Owed). hits (due e)) (pending config past))

    each_are : (r : Record) → list_any hits (dues_of now r) ≡ list_any (theirs r) r.pending
    each_are r = any_map hits (its_dues r) (filter (is_due now) r.pending) ∙ sym (filter_any (is_due now) (λ e. hits (its_dues r e)) r.pending)

    theirs_are : list_any hits (flat_map (dues_of now) records) ≡ list_any (λ r. list_any (theirs r) r.pending) records
    theirs_are = sym (any_flat hits (dues_of now) records) ∙ by records
      where
        by : (rs : List Record) → list_any (λ r. list_any hits (dues_of now r)) rs ≡ list_any (λ r. list_any (theirs r) r.pending) rs
        by [] = refl
        by (r ∷ rs) = λ j. each_are r j || by rs j

    ours_theirs : list_any ours (pending config past) ≡ true → list_any (λ r. list_any (theirs r) r.pending) records ≡ true
    ours_theirs h =
        let x : Found ours (pending config past) = found ours (pending config past) h in
        let owed : list_any (is_owed x.0.0 x.0.1) (pending config past) ≡ true = any_from (is_owed x.0.0 x.0.1) (pending config past) x.0 x.2 (and_from (x.0.0 == x.0.0) (is_same x.0.1 x.0.1) (eq-eqb x.0.0 x.0.0 refl) (same_itself x.0.1)) in
        let r : Found (has_entry_of x.0.0 x.0.1) records = found (has_entry_of x.0.0 x.0.1) records (entries_alike config past run x.0.0 x.0.1 ∙ owed) in
        let parts = and_parts (r.0.number == x.0.0) (list_any (is_same x.0.1) r.0.pending) r.1 in
        let p : Found (is_same x.0.1) r.0.pending = found (is_same x.0.1) r.0.pending parts.1 in
        let number : r.0.number ≡ x.0.0 = eqb-true r.0.number x.0.0 parts.0 in
        let entry : p.0 ≡ x.0.1 = same_is x.0.1 p.0 p.1 in
        any_from (λ q'. list_any (theirs q') q'.pending) records r.0 r.2
        (any_from (theirs r.0) r.0.pending p.0 p.2 ((λ j. is_due now (entry j) && hits ((entry j).deadline, number j, (entry j).face)) ∙ x.1))

    theirs_ours : list_any (λ r. list_any (theirs r) r.pending) records ≡ true → list_any ours (pending config past) ≡ true
    theirs_ours h =
        let r : Found (λ q'. list_any (theirs q') q'.pending) records = found (λ q'. list_any (theirs q') q'.pending) records h in
        let p : Found (theirs r.0) r.0.pending = found (theirs r.0) r.0.pending r.1 in
        let owed : owes r.0.number p.0 records ≡ true = any_from (has_entry_of r.0.number p.0) records r.0 r.2 (and_from (r.0.number == r.0.number) (list_any (is_same p.0) r.0.pending) (eq-eqb r.0.number r.0.number refl) (any_from (is_same p.0) r.0.pending p.0 p.2 (same_itself p.0))) in
        let x : Found (is_owed r.0.number p.0) (pending config past) = found (is_owed r.0.number p.0) (pending config past) (sym (entries_alike config past run r.0.number p.0) ∙ owed) in
        let parts = and_parts (x.0.0 == r.0.number) (is_same p.0 x.0.1) x.1 in
        let number : x.0.0 ≡ r.0.number = eqb-true x.0.0 r.0.number parts.0 in
        let entry : x.0.1 ≡ p.0 = same_is p.0 x.0.1 parts.1 in
        any_from ours (pending config past) x.0 x.2 ((λ j. is_due now (entry j) && hits ((entry j).deadline, number j, (entry j).face)) ∙ p.1)

    same_dues : list_any hits (map due (filter is_late (pending config past))) ≡ list_any hits (flat_map (dues_of now) records)
    same_dues = ours_are ∙ same_bool (list_any ours (pending config past)) (list_any (λ r. list_any (theirs r) r.pending) records) ours_theirs theirs_ours ∙ sym theirs_are

  -- the entries whose deadline has come, in order
  pub late_alike : late config past now ≡ dues_at now records
  late_alike =
      same_keys due_total due_exact (late config past now) (dues_at now records)
      (folded_sorted [] (map due (filter is_late (pending config past))) none_sorted) (folded_sorted [] (flat_map (dues_of now) records) none_sorted)
      (λ q. folded_key q [] (map due (filter is_late (pending config past))) ∙ ap (λ b. b || false) (same_dues q) ∙ sym (folded_key q [] (flat_map (dues_of now) records)))

  -- each is of a request that was accepted, and of which the machine has the record
  abbrev pub IsKnown : Due → Type 0
  IsKnown d = machine_request d.1 records ≡ request past d.1

  known_by : (n : ℕ) (rs : List Record) → AllByRecursion (λ (r : Record). request past r.number ≡ Some (final_of r)) rs → list_any (has_number n) rs ≡ true → machine_request n rs ≡ request past n
  known_by n [] all h = absurd (true≢false (sym h))
  known_by n (r ∷ rs) all h = by (r.number == n) refl h (known_by n rs all.1)
    where
      by : (b : Bool) → (r.number == n) ≡ b → (b || list_any (has_number n) rs) ≡ true → (list_any (has_number n) rs ≡ true → machine_request n rs ≡ request past n) → option_map final_of (cond b (Some r) (find (has_number n) rs)) ≡ request past n
      by true e it rest = sym all.0 ∙ ap (request past) (eqb-true r.number n e)
      by false e it rest = rest it

  each_known : (r : Record) → Contains records r → (es : List Pending) → AllByRecursion IsKnown (map (its_dues r) es)
  each_known r has [] = tt
  each_known r has (e ∷ es) = (known_by r.number records (records_asked config past run) (any_from (has_number r.number) records r has (eq-eqb r.number r.number refl)), each_known r has es)

  put_all : (P : Due → Type 0) (d : Due) (ds : List Due) → P d → AllByRecursion P ds → AllByRecursion P (insert_key due_cmp ds d)
  put_all P d [] it all = (it, tt)
  put_all P d (x ∷ ds) it all = by (due_cmp d x) (put_all P d ds it all.1)
    where
      by : (o : Ordering) → AllByRecursion P (insert_key due_cmp ds d) → AllByRecursion P (match_ordering o (d ∷ x ∷ ds) (x ∷ ds) (x ∷ insert_key due_cmp ds d))
      by Less rest = (it, all)
      by Equal rest = all
      by Greater rest = (all.0, rest)

  fold_all : (P : Due → Type 0) (l ds : List Due) → AllByRecursion P l → AllByRecursion P ds → AllByRecursion P (fold (insert_key due_cmp) l ds)
  fold_all P l [] all more = all
  fold_all P l (d ∷ ds) all more = fold_all P (insert_key due_cmp l d) ds (put_all P d l more.0 all) more.1

  entries_known : (r : Record) → Contains records r → (es : List Pending) → AllByRecursion IsKnown (map (its_dues r) (filter (is_due now) es))
  entries_known r has es = each_known r has (filter (is_due now) es)

  flat_known : (rs : List Record) → ((r : Record) → Contains rs r → Contains records r) → AllByRecursion IsKnown (flat_map (dues_of now) rs)
  flat_known [] among = tt
  flat_known (r ∷ rs) among =
      all_append IsKnown (dues_of now r) (flat_map (dues_of now) rs) (entries_known r (among r (Contains-append_left (r ∷ []) rs r (Contains-push [] r))) r.pending)
      (flat_known rs (λ x has. among x (Contains-append_right (r ∷ []) rs x has)))

  pub dues_known : AllByRecursion IsKnown (dues_at now records)
  dues_known = fold_all IsKnown [] (flat_map (dues_of now) records) tt (flat_known records (λ r has. has))
