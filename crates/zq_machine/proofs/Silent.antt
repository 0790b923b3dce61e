-- A request of which no final is to come is handed nothing.
use Rattle.std.proofs.Common.{◌≡◌, ℕ, ◌+◌, ◌≤◌, Bool, true, false, cond, not, List, [], ◌∷◌, ◌++◌, map, length, Option, Some, None, refl, sym, ap, ◌∙◌, arith, true≢false, eqb-true}
use Rattle.std.specs.List.{filter, list_any, find, fold, cons_option}
use Rattle.std.specs.Prelude.{if◌then◌else◌, ◌&&◌, ◌||◌, ◌==◌, nat_lt, unwrap_or}
use Rattle.std.specs.Option.{is_some, option_map}
use Rattle.std.proofs.lemmas.Bool.{ltb-true, false≢true}
use Rattle.std.proofs.lemmas.List.Folds.{list_any-append}
use Rattle.std.proofs.lemmas.List.{map-append}
use Rattle.zq_message.specs.declared.message.FaceId.{FaceId}
use Rattle.zq_message.specs.declared.message.Request.{Request}
use Rattle.zq_message.specs.declared.message.Response.{Response}
use Rattle.zq_strategy.specs.declared.offer.QueryTargetQabl.{QueryTargetQabl}
use Rattle.zq_query.specs.declared.records.Final.{Final}
use Rattle.zq_query.specs.declared.records.Timeout.{Timeout}
use Rattle.zq_query.specs.Tables.{Due}
use Rattle.zq_query.specs.Records.{QueryState, Record, final_of, has_entry, has_number, is_closed, is_entry, owner, reply_to, request}
use Rattle.zq_query.proofs.Balance.{closing_balance, landing_balance, letting_balance, poll_balance}
use Rattle.zq_query.specs.Closing.{after_close, closing_finals, finals_after, finals_landed}
use Rattle.zq_query.specs.Polling.{dues_at, has_number_for, numbers_in, timed_out, timeouts, with_timeout}
use Rattle.zq_query.specs.Balance.{finals_under, owed_by}
use Rattle.zq_tables.specs.Naming.{NamingState}
use Rattle.zq_machine.specs.declared.call.Call.{Call}
use Rattle.zq_machine.specs.Handing.{Handed}
use Rattle.zq_machine.specs.declared.face.OpenFace.{OpenFace}
use Rattle.zq_machine.specs.Configs.{Settings}
use Rattle.zq_machine.specs.State.{State, opening_state}
use Rattle.zq_machine.specs.Selecting.{full_text, select}
use Rattle.zq_machine.specs.TextCalls.{TextCall, opening, closing, naming, unnaming, declaring, withdrawing, asking, replying, ending, reporting, passing, listing, finalizing, announcing, retracting, networking, tabling, hearing, unhearing, read}
use Rattle.zq_machine.specs.Deciding.{timed_out as text_timeout, accepted, granted, handed_replies, handed_request, handed_requests, handed_timeouts, passing_finals, replied}
use Rattle.zq_machine.specs.Machine.{after, state_after, step, steps_from}
use Rattle.zq_machine.specs.declared.call.Step.{Step}
use Rattle.zq_machine.specs.Messages.{text_final}
use Rattle.zq_machine.specs.Writing.{finish, sent_final, write, written}
use Rattle.zq_machine.specs.Waiting.{is_of}
use Rattle.zq_machine.specs.Headline.{finals_over, to_come}
use Rattle.zq_machine.proofs.Granted.{any_beside, by_granted}
use Rattle.zq_machine.proofs.Finals.{IsSound, granted_balance, opening_sound, run_sound}
use Rattle.zq_machine.proofs.GoingOut.{any_out}
use Rattle.zq_machine.proofs.Writing.{finals_written, finish_balance}
use Rattle.zq_machine.proofs.OneFinal.{granted_grows, one_at_first, owed_less, run_balance}

-- ---- a request that is found, and whose asker is open, is owed a final
module _ (closed : List ℕ) (n : ℕ) where
  owes : Record → Bool
  owes r = (r.number == n) && not (is_closed closed r.asker.0)

  counted : (r : Record) (rs : List Record) → owes r ≡ true → 1 ≤ length (cond (owes r) (r ∷ filter owes rs) (filter owes rs))
  counted r rs h = rw h (omega arith)

  counted_on : (r : Record) (rs : List Record) → 1 ≤ length (filter owes rs) → 1 ≤ length (cond (owes r) (r ∷ filter owes rs) (filter owes rs))
  counted_on r rs l = by (owes r)
    where
      by : (b : Bool) → 1 ≤ length (cond b (r ∷ filter owes rs) (filter owes rs))
      by true = omega (arith, l)
      by false = l

  both : (a b : Bool) → a ≡ true → b ≡ false → (a && not b) ≡ true
  both true true e o = absurd (true≢false o)
  both true false e o = refl
  both false b e o = absurd (false≢true e)

  found : (p : Record → Bool) (rs : List Record) (f : Final) → option_map final_of (find p rs) ≡ Some f → (f.number == n) ≡ true → is_closed closed f.asker.0 ≡ false → 1 ≤ owed_by closed n rs
  unfolding owes
  found p [] f e m o = absurd (cc)
  found p (r ∷ rs) f e m o = by (p r) (λ g. found p rs f g m o) e
    where
      by : (b : Bool) → (option_map final_of (find p rs) ≡ Some f → 1 ≤ length (filter owes rs)) → option_map final_of (cond b (Some r) (find p rs)) ≡ Some f → 1 ≤ length (filter owes (r ∷ rs))
      by true more g =
          let same : final_of r ≡ f = ap (λ x. unwrap_or x f) g in
          counted r rs (both (r.number == n) (is_closed closed r.asker.0) (ap (λ (x : Final). x.number == n) same ∙ m) (ap (λ (x : Final). is_closed closed x.asker.0) same ∙ o))
      by false more g = counted_on r rs (more g)

-- ---- messages of a request
module _ (n : ℕ) (names : NamingState) where
  any : List Handed → Bool
  any hs = list_any (is_of n) hs

  no_finals : (fs : List Final) → finals_under n fs ≡ 0 → list_any (is_of n) (write names (map text_final fs)) ≡ false
  no_finals [] h = refl
  no_finals (f ∷ fs) h = by (f.number == n) h (no_finals fs)
    where
      by : (b : Bool) → length (cond b (f ∷ filter (λ (g : Final). g.number == n) fs) (filter (λ (g : Final). g.number == n) fs)) ≡ 0 → (finals_under n fs ≡ 0 → list_any (is_of n) (write names (map text_final fs)) ≡ false)
          → (b || list_any (is_of n) (write names (map text_final fs))) ≡ false
      by true g more = absurd (omega (arith, g))
      by false g more = more g

  no_requests : (q : QueryState) (text : List ℕ) (r : Request) (os : List QueryTargetQabl) → (q.requests == n) ≡ false → list_any (is_of n) (write names (map (handed_request q text r) os)) ≡ false
  no_requests q text r [] h = refl
  no_requests q text r (o ∷ os) h = ap (λ b. b || list_any (is_of n) (write names (map (handed_request q text r) os))) h ∙ no_requests q text r os h

  no_asking : (q : QueryState) (face : FaceId) (text : List ℕ) (r : Request) (os : List QueryTargetQabl) → (q.requests == n) ≡ false → list_any (is_of n) (write names (handed_requests q face text r os)) ≡ false
  no_asking q face text r [] h = ap (λ b. b || false) h
  no_asking q face text r (o ∷ os) h = no_requests q text r (o ∷ os) h

  no_reply : (q : QueryState) (text : List ℕ) (r : Response) (f : Final) → ((f.number == n) ≡ true → is_closed q.closed f.asker.0 ≡ false → ⊥) → list_any (is_of n) (write names (handed_replies text r (reply_to q f))) ≡ false
  no_reply q text r f away = by (is_closed q.closed f.asker.0) refl
    where
      same : (b : Bool) → (f.number == n) ≡ b → is_closed q.closed f.asker.0 ≡ false → (b || false) ≡ false
      same true m o = absurd (away m o)
      same false m o = refl

      by : (c : Bool) → is_closed q.closed f.asker.0 ≡ c → list_any (is_of n) (write names (handed_replies text r (record { number = f.number; asker = f.asker; id = f.id; qos = f.qos; reply = if c then None else Some q.replies }))) ≡ false
      by true o = refl
      by false o = same (f.number == n) refl o

  no_replied : (q : QueryState) (text : List ℕ) (r : Response) (o : Option Final) → ((f : Final) → o ≡ Some f → (f.number == n) ≡ true → is_closed q.closed f.asker.0 ≡ false → ⊥) → list_any (is_of n) (write names (replied text r (option_map (reply_to q) o))) ≡ false
  no_replied q text r None away = refl
  no_replied q text r (Some f) away = no_reply q text r f (away f refl)

-- ---- error replies
module _ (n : ℕ) where
  answers : Timeout → Bool
  answers t = has_number_for t && (t.number == n)

  answers_only : (names : NamingState) (faces : List (ℕ × OpenFace)) (ts : List Timeout) → list_any answers ts ≡ false → list_any (is_of n) (write names (handed_timeouts faces ts)) ≡ false
  unfolding answers
  answers_only names faces [] h = refl
  answers_only names faces (t ∷ ts) h = by t.reply (t.number == n) refl h (answers_only names faces ts)
    where
      by : (o : Option ℕ) (c : Bool) → (t.number == n) ≡ c → ((is_some o && c) || list_any answers ts) ≡ false → (list_any answers ts ≡ false → list_any (is_of n) (write names (handed_timeouts faces ts)) ≡ false)
          → list_any (is_of n) (write names (cons_option (option_map (text_timeout faces t) o) [] ++ handed_timeouts faces ts)) ≡ false
      by None c e g more = more g
      by (Some k) true e g more = absurd (true≢false g)
      by (Some k) false e g more = ap (λ x. x || list_any (is_of n) (write names (handed_timeouts faces ts))) e ∙ more g

  module _ (q : QueryState) (away : (p : Record → Bool) (f : Final) → option_map final_of (find p q.records) ≡ Some f → (f.number == n) ≡ true → is_closed q.closed f.asker.0 ≡ false → ⊥) where
    one : (ts : List Timeout) (d : Due) (o : Option Final) → request d.1 q.records ≡ o → list_any answers ts ≡ false → list_any answers (ts ++ cons_option (option_map (timed_out q (q.replies + numbers_in ts) d) o) []) ≡ false
    unfolding answers
    one ts d o e h = list_any-append answers ts (cons_option (option_map (timed_out q (q.replies + numbers_in ts) d) o) []) ∙ ap (λ b. b || list_any answers (cons_option (option_map (timed_out q (q.replies + numbers_in ts) d) o) [])) h ∙ last o e
      where
        same : (f : Final) (c b : Bool) (reply : ℕ) → is_closed q.closed f.asker.0 ≡ c → (f.number == n) ≡ b → request d.1 q.records ≡ Some f → ((is_some (if c then None else Some reply) && b) || false) ≡ false
        same f true b reply o m g = refl
        same f false true reply o m g = absurd (away (has_number d.1) f g m o)
        same f false false reply o m g = refl

        last : (o : Option Final) → request d.1 q.records ≡ o → list_any answers (cons_option (option_map (timed_out q (q.replies + numbers_in ts) d) o) []) ≡ false
        last None g = refl
        last (Some f) g = same f (is_closed q.closed f.asker.0) (f.number == n) (q.replies + numbers_in ts) refl refl g

    none_answers : (ds : List Due) (ts : List Timeout) → list_any answers ts ≡ false → list_any answers (fold (with_timeout q) ts ds) ≡ false
    none_answers [] ts h = h
    none_answers (d ∷ ds) ts h = none_answers ds (with_timeout q ts d) (one ts d (request d.1 q.records) refl h)

    no_timeouts : (names : NamingState) (faces : List (ℕ × OpenFace)) (now : ℕ) → list_any (is_of n) (write names (handed_timeouts faces (timeouts now q))) ≡ false
    no_timeouts names faces now = answers_only names faces (timeouts now q) (none_answers (dues_at now q.records) [] refl)

-- ---- every call
next_away : (n : ℕ) (q : QueryState) → to_come q.closed n q ≡ 0 → (q.requests == n) ≡ false
next_away n q none = by (q.requests == n) refl
  where
    asked : (b : Bool) → nat_lt n q.requests ≡ b → q.requests ≡ n → ⊥
    asked true l same = let less = ltb-true n q.requests l in omega (arith, less, same)
    asked false l same =
        let owed : owed_by q.closed n q.records + 1 ≡ 0 = ap (λ b. owed_by q.closed n q.records + (if b then 0 else 1)) (sym l) ∙ none in
        omega (arith, owed)

    by : (b : Bool) → (q.requests == n) ≡ b → b ≡ false
    by true e = absurd (asked (nat_lt n q.requests) refl (eqb-true q.requests n e))
    by false e = refl

never : (n : ℕ) (q : QueryState) → to_come q.closed n q ≡ 0 → (p : Record → Bool) (f : Final) → option_map final_of (find p q.records) ≡ Some f → (f.number == n) ≡ true → is_closed q.closed f.asker.0 ≡ false → ⊥
never n q none p f e m o = let owed = found q.closed n p q.records f e m o in omega (arith, owed, none)

granted_silent : (n : ℕ) (s : State) (t : TextCall) → to_come s.core.queries.closed n s.core.queries ≡ 0 → list_any (is_of n) (write s.names (granted s.core t).messages) ≡ false
granted_silent n s (opening o) none = refl
granted_silent n s (closing face) none =
    let q = s.core.queries in
    let kept = closing_balance n face.0 q in
    let less = owed_less q.closed (after_close face.0 q).closed n (granted_grows s.core (closing face)) q.records in
    no_finals n s.names (closing_finals face.0 q) (omega (arith, kept, less, none))
granted_silent n s (naming face id sd x) none = refl
granted_silent n s (unnaming face id x) none = refl
granted_silent n s (declaring face id sd j m) none = refl
granted_silent n s (withdrawing face id) none = refl
granted_silent n s (asking face sd r now) none =
    no_asking n s.names s.core.queries face (full_text sd) r (select s.core face sd r) (next_away n s.core.queries none)
granted_silent n s (replying face sd r) none =
    no_replied n s.names s.core.queries (full_text sd) r (owner face.0 r.rid s.core.queries.records) (never n s.core.queries none (has_entry face.0 r.rid))
granted_silent n s (ending face rid) none =
    let q = s.core.queries in
    let kept = letting_balance q.closed n (is_entry face.0 rid) q.records in
    no_finals n s.names (finals_after (is_entry face.0 rid) q.closed q.records) (omega (arith, kept, none))
granted_silent n s (reporting reply) none =
    let q = s.core.queries in
    let kept = landing_balance q.closed n reply q.records in
    no_finals n s.names (finals_landed reply q.closed q.records) (omega (arith, kept, none))
granted_silent n s (passing now) none =
    let q = s.core.queries in
    let kept = poll_balance now n q in
    let ended = no_finals n s.names (passing_finals now q) (omega (arith, kept, none)) in
    let late = no_timeouts n q (never n q none) s.names s.core.faces now in
    ap (list_any (is_of n)) (map-append (written s.names) (handed_timeouts s.core.faces (timeouts now q)) (map text_final (passing_finals now q)))
    ∙ list_any-append (is_of n) (write s.names (handed_timeouts s.core.faces (timeouts now q))) (write s.names (map text_final (passing_finals now q)))
    ∙ ap (λ b. b || list_any (is_of n) (write s.names (map text_final (passing_finals now q)))) late
    ∙ ended
granted_silent n s (listing r t) none = refl
granted_silent n s (finalizing face m set) none = refl
granted_silent n s (announcing face sd i node) none = refl
granted_silent n s (retracting face sd node) none = refl
granted_silent n s (networking r net) none = refl
granted_silent n s (tabling face ids) none = refl
granted_silent n s (hearing face id keys sd) none = refl
granted_silent n s (unhearing face id) none = refl

pub silent : (n : ℕ) (s : State) (c : Call) → IsSound s → to_come s.core.queries.closed n s.core.queries ≡ 0 → list_any (is_of n) (step s c).handed ≡ false
silent n s c i none =
    let t = read s c in
    let P : Step → State → Type 0 = λ z w. (to_come w.core.queries.closed n w.core.queries ≡ 0) × (list_any (is_of n) z.handed ≡ false) in
    let both : P (step s c) (after s c) =
    by_granted P s t
    (λ text z w it. (it.0, any_out text (is_of n) (λ h left. refl) z.handed w.gates ∙ it.1))
    (λ p places z w it.
    let fs = (finish w.core (p ∷ places)).finals in
    let kept = finish_balance n w.core (p ∷ places) in
    let owed = it.0 in (
      omega (arith, kept, owed),
      list_any-append (is_of n) z.handed (map sent_final fs)
          ∙ (λ j. it.1 j || (ap (list_any (is_of n)) (sym (finals_written w.names fs)) ∙ no_finals n w.names fs (omega (arith, kept, owed))) j),
    ))
    (λ h.
    let balance = granted_balance n s t h i in
    let less = owed_less s.core.queries.closed (accepted s.core t).queries.closed n (granted_grows s.core t) s.core.queries.records in (
      omega (arith, balance, less, none),
      any_beside s t (write s.names (granted s.core t).messages) (is_of n) (λ to d. refl) ∙ granted_silent n s t none,
    ))
    (λ r. (none, refl)) in
    both.1

-- and after its final it is handed nothing
pub nothing_after : (config : Settings) (before : List Call) (c : Call) (n : ℕ) → finals_over n (steps_from (opening_state config) before) ≡ 1 → list_any (is_of n) (step (state_after (opening_state config) before) c).handed ≡ false
nothing_after config before c n ended =
    let all = run_balance n before (opening_state config) (opening_sound config) in
    let first = one_at_first config n in
    silent n (state_after (opening_state config) before) c (run_sound before (opening_state config) (opening_sound config)) (omega (arith, all, first, ended))
