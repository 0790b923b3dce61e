-- What receivers of neighbours keep by a run's trace is what is due to them by it.
use Rattle.std.proofs.Common.{◌≡◌, ◌∙◌, refl, sym, ap, subst, ℕ, Bool, true, false, cond, List, [], ◌∷◌, ◌++◌, append-nil, filter, fold, Option, Some, None}
use Rattle.std.specs.Prelude.{◌==◌, ◌&&◌, if◌then◌else◌}
use Rattle.std.specs.Option.{is_some, option_and_then, option_map_or, option_to_list}
use Rattle.std.proofs.lemmas.Bool.{false≢true}
use Rattle.zq_told.specs.Receiver.{Heard, heard_on}
use Rattle.zq_machine.specs.declared.call.Call.{Call}
use Rattle.zq_machine.specs.declared.call.Call.TheVariants as call
use Rattle.zq_machine.specs.declared.call.Step.{Step}
use Rattle.zq_machine.specs.declared.face.OpenFace.{OpenFace}
use Rattle.zq_machine.specs.Configs.{Settings, bad_config}
use Rattle.zq_machine.specs.Deciding.{is_accepted}
use Rattle.zq_machine.specs.Due.{due as machine_due}
use Rattle.zq_machine.specs.Handing.{Handed}
use Rattle.zq_machine.specs.Hearing.{hear}
use Rattle.zq_machine.specs.Keeping.{IsNear, forget_undue, heard_after, if_told, is_due_at, received_in, with_told}
use Rattle.zq_machine.specs.Machine.{after, follow, state_after, step, steps, steps_from}
use Rattle.zq_machine.specs.State.{State, at, opening_state}
use Rattle.zq_machine.specs.TextCalls.{read}
use Rattle.zq_trace.specs.Due.{due, neighbour}
use Rattle.zq_trace.specs.Faces.{EachCall, Face, Trace, called, face_at}
use Rattle.zq_trace.specs.Machine.{AreSmall, RunTold}
use Rattle.zq_trace.specs.Refusals.{is_router}
use Rattle.zq_trace.specs.Told.{CallTold, KeepsDue, Told, forgetting, kept, with_handed}
use Rattle.zq_trace.proofs.Dues.{due_alike}
use Rattle.zq_trace.proofs.Picks.{filter_same}
use Rattle.zq_trace.proofs.Reading.{all_kept, either, follow_reads}
use Rattle.zq_trace.proofs.Requests.{nothing_handed}
use Rattle.zq_trace.proofs.Rest.{router_same}
use Rattle.zq_trace.proofs.Runs.{IsRun, call_promise, calls_of, reached, run_promise, state_of}
use Rattle.zq_trace.proofs.Saying.{closed_face}
use Rattle.zq_trace.proofs.Valid.{all_small}

one_more : (q : ℕ) (cs : List Call) (c : Call) (s : State) (k : Heard) → received_in (heard_after q) s (cs ++ c ∷ []) k ≡ heard_after q (state_after s cs) c (received_in (heard_after q) s cs k)
one_more q [] c s k = refl
one_more q (d ∷ cs) c s k = one_more q cs c (after s d) (heard_after q s d k)

both_hold : (x y : Bool) (a b h : Heard) → a ≡ b → cond (x && y) a h ≡ cond y (cond x b h) h
both_hold true true a b h same = same
both_hold true false a b h same = refl
both_hold false true a b h same = refl
both_hold false false a b h same = refl

module _ (config : Settings) (small : AreSmall config) where
  -- ---- one call
  module _ (past : Trace) (run : IsRun config past) (q : ℕ) (c : Call) where
    abbrev s : State
    s = reached config past

    abbrev t : Step
    t = step s c

    abbrev later : Trace
    later = (c, t) ∷ past

    due_left : (heard : Heard) → filter (is_due_at q (after s c).core) heard ≡ filter (λ e. is_some (due config later q e.1.0)) heard
    due_left heard = filter_same (is_due_at q (after s c).core) (λ e. is_some (due config later q e.1.0)) (λ e. ap is_some (sym (due_alike config later (refl, run) small q e.1.0))) heard

    forgets : (d : Call) (heard : Heard) → forget_undue q t (after s c).core d heard ≡ cond (is_accepted t.outcome) (forgetting config later q d heard) heard
    forgets (call.Interest f id keys aggregate w) heard = both_hold (f.0 == q) (is_accepted t.outcome) _ _ heard (due_left heard)
    forgets (call.InterestFinal f id) heard = both_hold (f.0 == q) (is_accepted t.outcome) _ _ heard (due_left heard)
    forgets d heard = sym (either (is_accepted t.outcome) heard)

    one_heard : heard_after q s c (kept config past q) ≡ kept config later q
    one_heard = by (is_accepted t.outcome) refl
      where
        was : Heard
        was = kept config past q

        has : Heard
        has = with_handed q (called q c t.outcome (face_at past q)) t.handed was

        by : (b : Bool) → is_accepted t.outcome ≡ b → heard_after q s c was ≡ kept config later q
        by true h =
            ap (forget_undue q t (after s c).core c) (all_kept q t.handed (follow s (read s c)).names (called q c t.outcome (face_at past q)) was (follow_reads config past run q c h))
            ∙ forgets c has
            ∙ ap (λ b. cond b (forgetting config later q c has) has) h
            ∙ sym (ap (λ b. cond b (forgetting config later q c has) was) h)
        by false h =
            ap (λ (hs : List Handed). forget_undue q t (after s c).core c (fold (if_told with_told q) was (hear hs (follow s (read s c)).names))) (nothing_handed s c (call_promise config past c) h)
            ∙ forgets c was
            ∙ ap (λ b. cond b (forgetting config later q c was) was) h
            ∙ sym (ap (λ b. cond b (forgetting config later q c has) was) h)

  -- ---- a run
  heard_is : (past : Trace) → IsRun config past → (q : ℕ) → received_in (heard_after q) (opening_state config) (calls_of past) [] ≡ kept config past q
  heard_is [] run q = refl
  heard_is (x ∷ past) run q =
      one_more q (calls_of past) x.0 (opening_state config) []
      ∙ (λ j. heard_after q (state_of config past j) x.0 (heard_is past run.1 q j))
      ∙ one_heard past run.1 q x.0
      ∙ ap (λ (t : Step). kept config ((x.0, t) ∷ past) q) (sym run.0)

  is_near : (past : Trace) → IsRun config past → (q : ℕ) → is_some (neighbour config past q) ≡ true → IsNear q (reached config past).core
  is_near past run q near = by (at q (reached config past).core.faces) refl
    where
      plain_by : (f : Option Face) → is_some (option_and_then (λ (y : Face). if is_router config y then None else Some y) f) ≡ true → option_map_or (is_router config) f false ≡ false
      plain_by None e = refl
      plain_by (Some f) e = of (is_router config f) e
        where
          of : (b : Bool) → is_some (if b then None else Some f) ≡ true → b ≡ false
          of true h = absurd (false≢true h)
          of false h = refl

      by : (o : Option OpenFace) → at q (reached config past).core.faces ≡ o → IsNear q (reached config past).core
      by None gone = absurd (false≢true (sym (ap (λ g. is_some (option_and_then (λ (y : Face). if is_router config y then None else Some y) g)) (closed_face config past run q gone)) ∙ near))
      by (Some o) seen = record { opened = ap is_some seen; near = sym (router_same config past run small (record { 0 = q }) o seen) ∙ plain_by (face_at past q) near }

  keeps_due : (past : Trace) → IsRun config past → (q : ℕ) → is_some (neighbour config past q) ≡ true → KeepsDue config past q
  keeps_due past run q near key =
      ap (heard_on key) (sym (heard_is past run q))
      ∙ ((run_promise config past).neighbours (calls_of past) [] (sym (append-nil (calls_of past))) q (subst (λ (s : State). IsNear q s.core) (sym (state_of config past)) (is_near past run q near))).due key
      ∙ ap (λ (s : State). option_to_list (machine_due s.core s.core.interests q key)) (state_of config past)
      ∙ ap option_to_list (sym (due_alike config past run small q key))

  told_from : (cs : List Call) (past : Trace) → IsRun config past → EachCall (CallTold config) past cs (steps_from (reached config past) cs)
  told_from [] past run = tt
  told_from (c ∷ cs) past run =
      let later : Trace = (c, step (reached config past) c) ∷ past in
      (λ q near. keeps_due later (refl, run) q near, told_from cs later (refl, run))

pub valid_told : (config : Settings) → bad_config config.entries ≡ None → (calls : List Call) → RunTold config calls
valid_told config valid calls = told_from config (all_small [] config.entries valid) calls [] tt

-- of steps that are those
pub given_told : (config : Settings) → bad_config config.entries ≡ None → (calls : List Call) (given : List Step) → given ≡ steps config calls → Told config calls given
given_told config valid calls given same = subst (Told config calls) (sym same) (valid_told config valid calls)
