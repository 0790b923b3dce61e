-- Timeouts: how many take a number, of which requests they are, and what is let go.
use Rattle.std.proofs.Common.{◌≡◌, ℕ, ◌+◌, ◌<◌, ◌≤◌, ◌^◌, Bool, true, false, cond, List, [], ◌∷◌, ◌++◌, length, take, drop, ap, ◌∙◌, refl, arith, Some, None, Option, sym}
use Rattle.std.specs.Prelude.{fold, map, not, ◌||◌}
use Rattle.std.proofs.lemmas.Bool.{ltb-true, lt-ltb, le-ltb, or_parts, or_from, not-false}
use Rattle.std.proofs.lemmas.List.{length-append, take-append-drop}
use Rattle.std.proofs.lemmas.List.Elements.{filter-append}
use Rattle.std.proofs.lemmas.List.Folds.{list_any-append}
use Rattle.std.proofs.lemmas.List.Sums.{fold-append}
use Rattle.std.specs.Option.{option_map, is_some}
use Rattle.std.specs.List.{filter, list_any, cons_option}
use Rattle.zq_query.specs.declared.records.Final.{Final}
use Rattle.zq_query.specs.declared.records.Timeout.{Timeout}
use Rattle.zq_query.specs.Records.{QueryState, Record, Pending, request, has_number, without, is_left, any_over, any_entry, letting_go, letting_go_all, after_put}
use Rattle.zq_query.specs.Tables.{Due}
use Rattle.zq_query.specs.Polling.{is_due, is_among, is_amiss, has_number_for, numbers_in, timed_out, with_timeout, timeouts_of, lacks_replies, after_timeout, timing_out, lacks_record}
use Rattle.zq_query.proofs.Fusion.{all_fused}
use Rattle.zq_query.proofs.Agreeing.{keeps_all}
use Rattle.zq_query.proofs.Flying.{all_stay}
use Rattle.zq_query.proofs.Putting.{found_there}

pub enough : (ts : List Timeout) (s : QueryState) → lacks_replies ts s ≡ false → s.replies + numbers_in ts < 2 ^ 64
enough ts s h = ltb-true _ _ (not-false _ h)

pub enough_is : (ts : List Timeout) (s : QueryState) → s.replies + numbers_in ts < 2 ^ 64 → lacks_replies ts s ≡ false
enough_is ts s l = ap not (lt-ltb (s.replies + numbers_in ts) (2 ^ 64) l)

pub too_few : (ts : List Timeout) (s : QueryState) → 2 ^ 64 ≤ s.replies + numbers_in ts → lacks_replies ts s ≡ true
too_few ts s l = ap not (le-ltb (s.replies + numbers_in ts) (2 ^ 64) l)

-- nothing but the records and the next reply changes
rest_by : (s : QueryState) (t : Timeout) (b : Bool) (z : QueryState) → z ≡ record (cond b (after_put t.number s) s) { records = z.records; replies = z.replies } → z ≡ record s { records = z.records; replies = z.replies }
rest_by s t true z h = h
rest_by s t false z h = h

pub rest_stays : (ts : List Timeout) (s : QueryState) → timing_out ts s ≡ record s { records = (timing_out ts s).records; replies = (timing_out ts s).replies }
rest_stays [] s = refl
rest_stays (t ∷ ts) s = rest_by s t (is_some t.reply) (timing_out ts (after_timeout s t)) (rest_stays ts (after_timeout s t))

-- ---- how many take a number
pub numbers_both : (ts us : List Timeout) → numbers_in (ts ++ us) ≡ numbers_in ts + numbers_in us
numbers_both ts us = ap length (filter-append has_number_for ts us) ∙ length-append (filter has_number_for ts) (filter has_number_for us)

numbers_grow : (s : QueryState) (ts : List Timeout) (ds : List Due) → numbers_in ts ≤ numbers_in (fold (with_timeout s) ts ds)
numbers_grow s ts [] = omega arith
numbers_grow s ts (d ∷ ds) =
    let more = numbers_both ts (cons_option (option_map (timed_out s (s.replies + numbers_in ts) d) (request d.1 s.records)) []) in
    let rest = numbers_grow s (with_timeout s ts d) ds in
    omega (arith, more, rest)

pub numbers_most : (s : QueryState) (ds : List Due) (k : ℕ) → numbers_in (timeouts_of s (take k ds)) ≤ numbers_in (timeouts_of s ds)
numbers_most s ds k =
    let whole : timeouts_of s ds ≡ fold (with_timeout s) (timeouts_of s (take k ds)) (drop k ds) = ap (timeouts_of s) (sym (take-append-drop k ds)) ∙ fold-append (with_timeout s) [] (take k ds) (drop k ds) in
    let grows = numbers_grow s (timeouts_of s (take k ds)) (drop k ds) in
    let same = ap numbers_in whole in
    omega (arith, grows, same)

-- ---- each is of a request
lacking_by : (s : QueryState) (n : ℕ) (d : Due) (r : Option Final) → request d.1 s.records ≡ r → list_any (λ (t : Timeout). not (list_any (has_number t.number) s.records)) (cons_option (option_map (timed_out s n d) r) []) ≡ false
lacking_by s n d None e = refl
lacking_by s n d (Some f) e = rw (found_there (has_number d.1) s.records f e) refl

none_lacking : (s : QueryState) (ts : List Timeout) (ds : List Due) → lacks_record s.records ts ≡ false → lacks_record s.records (fold (with_timeout s) ts ds) ≡ false
none_lacking s ts [] h = h
none_lacking s ts (d ∷ ds) h = none_lacking s (with_timeout s ts d) ds
    (list_any-append (λ (t : Timeout). not (list_any (has_number t.number) s.records)) ts _
    ∙ or_from (lacks_record s.records ts) _ h (lacking_by s (s.replies + numbers_in ts) d _ refl))

pub have_records : (s : QueryState) (ds : List Due) → lacks_record s.records (timeouts_of s ds) ≡ false
have_records s ds = none_lacking s [] ds refl

-- ---- what is let go
same_test : (a b : Bool) → cond a (not b) b ≡ false → a ≡ b
same_test true b h = sym (not-false b h)
same_test false b h = sym h

left_agree : (places : List (ℕ × ℕ)) (now : ℕ) (l : List Pending) → list_any (is_amiss places now) l ≡ false → filter (λ e. not (false || is_among places e)) l ≡ filter (λ e. not (is_due now e)) l
left_agree places now [] h = refl
left_agree places now (e ∷ l) h =
    let m = or_parts (is_amiss places now e) (list_any (is_amiss places now) l) h in
    λ j. cond (not (same_test (is_among places e) (is_due now e) m.0 j)) (e ∷ left_agree places now l m.1 j) (left_agree places now l m.1 j)

agree : (places : List (ℕ × ℕ)) (now : ℕ) (rs : List Record) → any_entry (is_amiss places now) rs ≡ false → map (without (λ e. false || is_among places e)) rs ≡ map (without (is_due now)) rs
agree places now [] h = refl
agree places now (r ∷ rs) h =
    let m = or_parts (list_any (is_amiss places now) r.pending) (any_entry (is_amiss places now) rs) h in
    λ j. record r { pending = left_agree places now r.pending m.0 j } ∷ agree places now rs m.1 j

-- the entries at the places of those that are due
pub due_let_go : (places : List (ℕ × ℕ)) (now : ℕ) (rs : List Record) → any_over rs ≡ false → any_entry (is_amiss places now) rs ≡ false → letting_go_all rs places ≡ letting_go (is_due now) rs
due_let_go places now rs left h =
    ap (λ z. letting_go_all z places) (sym (ap (filter is_left) (keeps_all rs) ∙ all_stay rs left))
    ∙ all_fused (λ _. false) places rs
    ∙ ap (filter is_left) (agree places now rs h)
