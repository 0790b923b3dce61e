-- A run hands one final of a request at most.
use Rattle.std.proofs.Common.{◌≡◌, ℕ, ◌+◌, ◌≤◌, Bool, true, false, cond, not, List, [], ◌∷◌, length, Option, Some, None, refl, sym, ap, ◌∙◌, arith, true≢false}
use Rattle.std.specs.List.{filter}
use Rattle.std.specs.Prelude.{if◌then◌else◌, ◌&&◌, ◌==◌, nat_lt}
use Rattle.std.specs.Option.{is_some}
use Rattle.std.proofs.lemmas.Cmp.{nat_cmp_total}
use Rattle.std.proofs.lemmas.Map.Lookups.{exact_unsigned}
use Rattle.std.proofs.lemmas.Bool.{or_parts}
use Rattle.zq_query.specs.declared.records.ReplyTo.{ReplyTo}
use Rattle.zq_query.specs.Records.{QueryState, Record, is_closed, next_reply}
use Rattle.zq_query.specs.Balance.{owed_by}
use Rattle.zq_machine.specs.declared.call.Call.{Call}
use Rattle.zq_machine.specs.Configs.{Settings}
use Rattle.zq_machine.specs.State.{State, Core, opening_state}
use Rattle.zq_machine.specs.TextCalls.{TextCall, opening, closing, naming, unnaming, declaring, withdrawing, asking, replying, ending, reporting, passing, listing, finalizing, announcing, retracting, networking, tabling, hearing, unhearing, read}
use Rattle.zq_machine.specs.Deciding.{decide, is_accepted, accepted, after_replied}
use Rattle.zq_machine.specs.Machine.{follow, accepted_state, after, steps_from, state_after}
use Rattle.zq_machine.specs.Headline.{finals_over, to_come}
use Rattle.zq_machine.proofs.Finals.{IsSound, put_closed, timing_closed, call_balance, after_sound, opening_sound}
use Rattle.zq_machine.proofs.Writing.{settles_view}
use Rattle.zq_key.proofs.Sorted.{has_put}

-- ---- a face that was closed stays so
replied_grows : (q : QueryState) (o : Option ReplyTo) (f : ℕ) → is_closed (after_replied o q).closed f ≡ false → is_closed q.closed f ≡ false
replied_grows q None f h = h
replied_grows q (Some to) f h = ap (λ l. is_closed l f) (sym (put_closed to.number q (is_some to.reply))) ∙ h

pub granted_grows : (c : Core) (t : TextCall) (f : ℕ) → is_closed (accepted c t).queries.closed f ≡ false → is_closed c.queries.closed f ≡ false
granted_grows c (opening o) f h = h
granted_grows c (closing face) f h = (or_parts _ _ (sym (has_put nat_cmp_total exact_unsigned f face.0 c.queries.closed) ∙ h)).1
granted_grows c (naming face id sd x) f h = h
granted_grows c (unnaming face id x) f h = h
granted_grows c (declaring face id sd i n) f h = h
granted_grows c (withdrawing face id) f h = h
granted_grows c (asking face sd r now) f h = h
granted_grows c (replying face sd r) f h = replied_grows c.queries (next_reply face.0 r.rid c.queries) f h
granted_grows c (ending face rid) f h = h
granted_grows c (reporting reply) f h = h
granted_grows c (passing now) f h = ap (λ l. is_closed l f) (sym (timing_closed now c.queries)) ∙ h
granted_grows c (listing r t) f h = h
granted_grows c (finalizing face m set) f h = h
granted_grows c (announcing face sd i node) f h = h
granted_grows c (retracting face sd node) f h = h
granted_grows c (networking r net) f h = h
granted_grows c (tabling face ids) f h = h
granted_grows c (hearing face id keys sd) f h = h
granted_grows c (unhearing face id) f h = h

follow_grows : (s : State) (t : TextCall) (f : ℕ) → is_closed (follow s t).core.queries.closed f ≡ false → is_closed s.core.queries.closed f ≡ false
follow_grows s t f h = by (is_accepted (decide s.core t).outcome) h
  where
    by : (b : Bool) → is_closed (cond b (accepted_state s t) s).core.queries.closed f ≡ false → is_closed s.core.queries.closed f ≡ false
    by true g = granted_grows s.core t f g
    by false g = g

after_grows : (s : State) (c : Call) (f : ℕ) → is_closed (after s c).core.queries.closed f ≡ false → is_closed s.core.queries.closed f ≡ false
after_grows s c f h = follow_grows s (read s c) f (sym (settles_view (λ (z : Core). is_closed z.queries.closed f) (λ places c. refl) s (read s c)) ∙ h)

-- ---- with more faces closed fewer finals are owed
pub owed_less : (old new : List ℕ) (n : ℕ) → ((f : ℕ) → is_closed new f ≡ false → is_closed old f ≡ false) → (rs : List Record) → owed_by new n rs ≤ owed_by old n rs
owed_less old new n grows [] = omega arith
owed_less old new n grows (r ∷ rs) = by (r.number == n) (is_closed new r.asker.0) (is_closed old r.asker.0) (grows r.asker.0) (owed_less old new n grows rs)
  where
    by : (b c d : Bool) → (c ≡ false → d ≡ false) → owed_by new n rs ≤ owed_by old n rs →
        length (cond (b && not c) (r ∷ filter (λ (x : Record). (x.number == n) && not (is_closed new x.asker.0)) rs) (filter (λ (x : Record). (x.number == n) && not (is_closed new x.asker.0)) rs))
        ≤ length (cond (b && not d) (r ∷ filter (λ (x : Record). (x.number == n) && not (is_closed old x.asker.0)) rs) (filter (λ (x : Record). (x.number == n) && not (is_closed old x.asker.0)) rs))
    by false c d k l = l
    by true true true k l = l
    by true true false k l = omega (arith, l)
    by true false true k l = absurd (true≢false (k refl))
    by true false false k l = omega (arith, l)

-- what a run hands of them, and what is still to come after it, is no more than what was to come
pub run_balance : (n : ℕ) (cs : List Call) (s : State) → IsSound s → finals_over n (steps_from s cs) + to_come (state_after s cs).core.queries.closed n (state_after s cs).core.queries ≤ to_come s.core.queries.closed n s.core.queries
run_balance n [] s i = omega arith
run_balance n (c ∷ cs) s i =
    let rest = run_balance n cs (after s c) (after_sound s c i) in
    let now = call_balance n s c i in
    let less = owed_less s.core.queries.closed (after s c).core.queries.closed n (after_grows s c) s.core.queries.records in
    omega (arith, rest, now, less)

pub one_at_first : (config : Settings) (n : ℕ) → to_come (opening_state config).core.queries.closed n (opening_state config).core.queries ≤ 1
one_at_first config n = let first = by (nat_lt n (opening_state config).core.queries.requests) in omega (arith, first)
  where
    by : (b : Bool) → (if b then 0 else 1) ≤ 1
    by true = omega arith
    by false = omega arith

pub one_final : (config : Settings) (cs : List Call) (n : ℕ) → finals_over n (steps_from (opening_state config) cs) ≤ 1
one_final config cs n =
    let all = run_balance n cs (opening_state config) (opening_sound config) in
    let first = one_at_first config n in
    omega (arith, all, first)
