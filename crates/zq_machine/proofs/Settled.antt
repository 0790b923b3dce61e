-- A final comes where nothing of its request is left: each number stands once.
use Rattle.std.proofs.Common.{◌≡◌, ℕ, ◌+◌, ◌<◌, ◌≤◌, Bool, true, false, cond, List, [], ◌∷◌, map, length, Option, Some, None, refl, sym, ap, subst, ◌∙◌, arith}
use Rattle.std.specs.List.{filter, list_any}
use Rattle.std.specs.Prelude.{◌&&◌, ◌||◌, ◌==◌, nat_lt}
use Rattle.std.specs.Option.{is_some}
use Rattle.zq_query.specs.declared.records.Final.{Final}
use Rattle.zq_query.specs.declared.records.ReplyTo.{ReplyTo}
use Rattle.zq_query.specs.declared.records.Timeout.{Timeout}
use Rattle.zq_query.specs.Records.{QueryState, Record, Pending, after_put, ending_after, ending_landed, has_reply, is_entry, is_none_left, landing, letting_go, next_reply}
use Rattle.zq_query.specs.Closing.{at_face, closing_finals, finals_after, finals_landed, has_open_asker}
use Rattle.zq_query.specs.Polling.{after_timeout, is_due, timeouts, timing_out}
use Rattle.zq_query.specs.Balance.{finals_under, owed_by}
use Rattle.zq_query.proofs.Balance.{ask_balance, landing_balance, letting_balance, putting_balance}
use Rattle.zq_machine.specs.declared.call.Call.{Call}
use Rattle.zq_machine.specs.Configs.{Settings}
use Rattle.zq_machine.specs.State.{State, opening_state}
use Rattle.zq_machine.specs.Selecting.{full_text, select, target_of}
use Rattle.zq_machine.specs.TextCalls.{TextCall, opening, closing, naming, unnaming, declaring, withdrawing, asking, replying, ending, reporting, passing, listing, finalizing, announcing, retracting, networking, tabling, hearing, unhearing, read}
use Rattle.zq_machine.specs.Deciding.{granted, accepted, after_replied, deadline, passing_finals}
use Rattle.zq_machine.specs.Machine.{after, state_after, step}
use Rattle.zq_machine.specs.Writing.{finish, is_unsent, write}
use Rattle.zq_machine.specs.Waiting.{IsSettled, is_same, waits}
use Rattle.zq_machine.specs.Headline.{FinalPromise, ends, finals_of, to_come}
use Rattle.zq_machine.proofs.Finals.{IsSound, asked_count, call_balance, call_standing, count_ended, finals_counted, none_replied, passed_count}
use Rattle.zq_machine.proofs.GoingOut.{count_out}
use Rattle.zq_machine.proofs.Granted.{by_granted, filter_beside}
use Rattle.zq_machine.proofs.OneFinal.{one_at_first}
use Rattle.zq_machine.proofs.Silent.{silent}

-- how many records have the number, and one where it is still to be given
abbrev pub numbers : ℕ → QueryState → ℕ
numbers n q = to_come [] n q

-- ---- with no face closed there are more finals
fewer : (closed : List ℕ) (n : ℕ) (fs : List Final) → finals_under n (filter (has_open_asker closed) fs) ≤ finals_under n (filter (has_open_asker []) fs)
fewer closed n [] = omega arith
fewer closed n (f ∷ fs) = by (has_open_asker closed f) (f.number == n) refl (fewer closed n fs)
  where
    by : (a b : Bool) → (f.number == n) ≡ b → finals_under n (filter (has_open_asker closed) fs) ≤ finals_under n (filter (has_open_asker []) fs)
        → finals_under n (cond a (f ∷ filter (has_open_asker closed) fs) (filter (has_open_asker closed) fs)) ≤ length (cond b (f ∷ filter (λ (g : Final). g.number == n) (filter (has_open_asker []) fs)) (filter (λ (g : Final). g.number == n) (filter (has_open_asker []) fs)))
    by true true e l = rw e (omega (arith, l))
    by true false e l = rw e l
    by false true e l = omega (arith, l)
    by false false e l = l

-- ---- no call adds a record of a number that has one
let_numbers : (closed : List ℕ) (n : ℕ) (p : Pending → Bool) (rs : List Record) → finals_under n (finals_after p closed rs) + owed_by [] n (letting_go p rs) ≤ owed_by [] n rs
let_numbers closed n p rs =
    let kept = letting_balance [] n p rs in
    let more = fewer closed n (ending_after p rs) in
    omega (arith, kept, more)

landed_numbers : (closed : List ℕ) (n reply : ℕ) (rs : List Record) → finals_under n (finals_landed reply closed rs) + owed_by [] n (landing reply rs) ≤ owed_by [] n rs
landed_numbers closed n reply rs =
    let kept = landing_balance [] n reply rs in
    let more = fewer closed n (ending_landed reply rs) in
    omega (arith, kept, more)

put_numbers : (n m : ℕ) (q : QueryState) (b : Bool) → numbers n (cond b (after_put m q) q) ≡ numbers n q
put_numbers n m q true = ap (λ k. k + cond (nat_lt n q.requests) 0 1) (putting_balance [] n q.replies m q.records)
put_numbers n m q false = refl

timing_numbers : (n : ℕ) (ts : List Timeout) (q : QueryState) → numbers n (timing_out ts q) ≡ numbers n q
timing_numbers n [] q = refl
timing_numbers n (t ∷ ts) q = timing_numbers n ts (after_timeout q t) ∙ put_numbers n t.number q (is_some t.reply)

replied_numbers : (n : ℕ) (q : QueryState) (o : Option ReplyTo) → numbers n (after_replied o q) ≡ numbers n q
replied_numbers n q None = refl
replied_numbers n q (Some to) = put_numbers n to.number q (is_some to.reply)

abbrev Fewer : ℕ → State → TextCall → Type 0
Fewer n s t = length (filter (ends n) (write s.names (granted s.core t).messages)) + numbers n (accepted s.core t).queries ≤ numbers n s.core.queries

granted_numbers : (n : ℕ) (s : State) (t : TextCall) → Fewer n s t
granted_numbers n s (opening o) = omega arith
granted_numbers n s (closing face) =
    let q = s.core.queries in
    let told = finals_counted n s.names (closing_finals face.0 q) in
    let kept : finals_under n (closing_finals face.0 q) + owed_by [] n (letting_go (at_face face.0) q.records) ≤ owed_by [] n q.records = let_numbers _ n (at_face face.0) q.records in
    omega (arith, told, kept)
granted_numbers n s (naming face id sd x) = omega arith
granted_numbers n s (unnaming face id x) = omega arith
granted_numbers n s (declaring face id sd j m) = omega arith
granted_numbers n s (withdrawing face id) = omega arith
granted_numbers n s (asking face sd r now) =
    let q = s.core.queries in
    let os = select s.core face sd r in
    let told = asked_count n s.names q face (full_text sd) r os in
    let kept : cond (is_none_left (map target_of os) && (q.requests == n)) 1 0 + numbers n (accepted s.core (asking face sd r now)).queries ≡ numbers n q = ask_balance n face r.id r.qos (map target_of os) (deadline s.core r.timeout now) (record q { closed = [] }) refl in
    omega (arith, told, kept)
granted_numbers n s (replying face sd r) =
    let told = none_replied n s.names (full_text sd) r (next_reply face.0 r.rid s.core.queries) in
    let kept = replied_numbers n s.core.queries (next_reply face.0 r.rid s.core.queries) in
    omega (arith, told, kept)
granted_numbers n s (ending face rid) =
    let q = s.core.queries in
    let told = finals_counted n s.names (finals_after (is_entry face.0 rid) q.closed q.records) in
    let kept = let_numbers q.closed n (is_entry face.0 rid) q.records in
    omega (arith, told, kept)
granted_numbers n s (reporting reply) =
    let q = s.core.queries in
    let told = finals_counted n s.names (finals_landed reply q.closed q.records) in
    let kept = landed_numbers q.closed n reply q.records in
    omega (arith, told, kept)
granted_numbers n s (passing now) =
    let q = s.core.queries in
    let z = timing_out (timeouts now q) q in
    let told = passed_count n s.names s.core.faces (timeouts now q) (passing_finals now q) in
    let kept : finals_under n (passing_finals now q) + owed_by [] n (letting_go (is_due now) z.records) ≤ owed_by [] n z.records = let_numbers z.closed n (is_due now) z.records in
    let same = timing_numbers n (timeouts now q) q in
    omega (arith, told, kept, same)
granted_numbers n s (listing r t) = omega arith
granted_numbers n s (finalizing face m set) = omega arith
granted_numbers n s (announcing face sd i node) = omega arith
granted_numbers n s (retracting face sd node) = omega arith
granted_numbers n s (networking r net) = omega arith
granted_numbers n s (tabling face ids) = omega arith
granted_numbers n s (hearing face id keys sd) = omega arith
granted_numbers n s (unhearing face id) = omega arith

call_numbers : (n : ℕ) (s : State) (c : Call) → finals_of n (step s c) + numbers n (after s c).core.queries ≤ numbers n s.core.queries
call_numbers n s c =
    let t = read s c in
    by_granted (λ z w. finals_of n z + numbers n w.core.queries ≤ numbers n s.core.queries) s t
    (λ text z w less. subst (λ k. k + numbers n w.core.queries ≤ numbers n s.core.queries) (sym (count_out text (ends n) (λ h left. refl) z.handed w.gates)) less)
    (λ p places z w less.
    let told = count_ended n z.handed (finish w.core (p ∷ places)).finals in
    let kept = let_numbers w.core.queries.closed n (is_unsent (p ∷ places)) w.core.queries.records in
    omega (arith, told, kept, less))
    (λ h.
    subst (λ l. length l + numbers n (accepted s.core t).queries ≤ numbers n s.core.queries) (sym (filter_beside s t (write s.names (granted s.core t).messages) (ends n) (λ to d. refl)))
    (granted_numbers n s t))
    (λ r. omega arith)

-- each number stands once at most, all along a run
still_once : (n : ℕ) (cs : List Call) (s : State) → numbers n s.core.queries ≤ 1 → numbers n (state_after s cs).core.queries ≤ 1
still_once n [] s l = l
still_once n (c ∷ cs) s l = still_once n cs (after s c) (let less = call_numbers n s c in omega (arith, less, l))

pub run_once : (n : ℕ) (config : Settings) (cs : List Call) → numbers n (state_after (opening_state config) cs).core.queries ≤ 1
run_once n config cs = still_once n cs (opening_state config) (one_at_first config n)

-- ---- with no record of a number nothing of it is left
none_of : (n : ℕ) (h : Record → Bool) → ((r : Record) → (r.number == n) ≡ false → h r ≡ false) → (rs : List Record) → owed_by [] n rs ≡ 0 → list_any h rs ≡ false
none_of n h off [] none = refl
none_of n h off (r ∷ rs) none = by (r.number == n) refl none (none_of n h off rs)
  where
    by : (b : Bool) → (r.number == n) ≡ b → length (cond (b && true) (r ∷ filter (λ (x : Record). (x.number == n) && true) rs) (filter (λ (x : Record). (x.number == n) && true) rs)) ≡ 0
        → (owed_by [] n rs ≡ 0 → list_any h rs ≡ false) → (h r || list_any h rs) ≡ false
    by true e z more = absurd (omega (arith, z))
    by false e z more = ap (λ b. b || list_any h rs) (off r e) ∙ more z

settled : (n : ℕ) (s : State) (c : Call) → numbers n s.core.queries ≤ 1 → 0 < finals_of n (step s c) → IsSettled n (after s c).core.queries
settled n s c once some =
    let less = call_numbers n s c in
    let none : owed_by [] n (after s c).core.queries.records ≡ 0 = omega (arith, less, once, some) in
    (λ e. none_of n (waits n e) (λ r off. ap (λ b. b && list_any (is_same e) r.pending) off) (after s c).core.queries.records none, λ k. none_of n (λ (r : Record). (r.number == n) && has_reply k r) (λ r off. ap (λ b. b && has_reply k r) off) (after s c).core.queries.records none)

pub final_promise : (n : ℕ) (s : State) (c : Call) → IsSound s → numbers n s.core.queries ≤ 1 → FinalPromise n s c
final_promise n s c i once = record { balance = call_balance n s c i; settled = settled n s c once; silent = silent n s c i; standing = call_standing s c i }
