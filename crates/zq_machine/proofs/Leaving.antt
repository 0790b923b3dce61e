-- What leaves of what a call hands is what the gates let out, and after every call and so after every run the gates are what the calls and what they handed made of them.
use Rattle.std.proofs.Common.{◌≡◌, ◌∙◌, refl, sym, ap, ℕ, cond, List, [], ◌∷◌, ◌++◌, map, fold, None}
use Rattle.std.proofs.lemmas.List.Sums.{fold-append}
use Rattle.zq_query.specs.declared.records.Final.{Final}
use Rattle.zq_machine.specs.declared.call.Call.{Call}
use Rattle.zq_machine.specs.declared.call.Call.TheVariants as call
use Rattle.zq_machine.specs.Configs.{Settings}
use Rattle.zq_machine.specs.Deciding.{accepted, granted, regated}
use Rattle.zq_machine.specs.Gates.{Gates, Out, end_kept, gate_at, gate_for, leave_all, let_out, out_first, through, with_given, without_ended}
use Rattle.zq_machine.specs.Handing.{Handed}
use Rattle.zq_machine.specs.Headline.{LeavePromise}
use Rattle.zq_machine.specs.Leaving.{gate_after, gate_from, gate_in, gate_past}
use Rattle.zq_machine.specs.Machine.{after, asked_text, finishing, follow, handing, state_after, step, steps_from}
use Rattle.zq_machine.specs.State.{State, opening_state}
use Rattle.zq_machine.specs.TextCalls.{TextCall, read}
use Rattle.zq_machine.specs.Writing.{finish, sent_final, unsent}
use Rattle.zq_machine.proofs.Agreed.{InOrder, granted_in_order, opening_in_order, stays_in_order}
use Rattle.zq_machine.proofs.Always.{after_kept}
use Rattle.zq_machine.proofs.Gates.{gate_goes, gate_joins, gates_past, past_ended}
use Rattle.zq_machine.proofs.GoingOut.{final_through}
use Rattle.zq_machine.proofs.Granted.{by_out, granted_is_accepted, told_by}
use Rattle.zq_machine.proofs.Reading.{declare_read, withdraw_read}
use Rattle.zq_machine.proofs.Writing.{fully}

-- ---- what went through the gates goes through them as it is
module _ (text : List ℕ) where
  out_twice : (hs : List Handed) (gates : Gates) → let_out text (let_out text hs gates).handed gates ≡ let_out text hs gates
  out_twice [] gates = refl
  out_twice (h ∷ hs) gates = ap (out_first (through text gates h)) (out_twice hs (with_given (through text gates h) gates))

  out_finals : (fs : List Final) (gates : Gates) → let_out text (map sent_final fs) gates ≡ record { handed = map sent_final fs; gates = gates }
  out_finals [] gates = refl
  out_finals (f ∷ fs) gates =
      (λ j. out_first (final_through text gates f j) (let_out text (map sent_final fs) (with_given (final_through text gates f j) gates)))
      ∙ ap (out_first (sent_final f)) (out_finals fs gates)

  -- finals behind it too
  out_behind : (hs : List Handed) (fs : List Final) (gates : Gates) → let_out text (hs ++ map sent_final fs) gates ≡ record { handed = (let_out text hs gates).handed ++ map sent_final fs; gates = (let_out text hs gates).gates }
  out_behind [] fs gates = out_finals fs gates
  out_behind (h ∷ hs) fs gates = ap (out_first (through text gates h)) (out_behind hs fs (with_given (through text gates h) gates))

  finals_keep : (fs : List Final) (gates : Gates) → fold without_ended gates (map sent_final fs) ≡ gates
  finals_keep [] gates = refl
  finals_keep (f ∷ fs) gates = finals_keep fs gates

  leave_twice : (hs : List Handed) (fs : List Final) (gates : Gates)
      → leave_all text ((let_out text hs gates).handed ++ map sent_final fs) gates ≡ record { handed = (let_out text hs gates).handed ++ map sent_final fs; gates = (leave_all text hs gates).gates }
  leave_twice hs fs gates =
      let o = let_out text hs gates in
      ap end_kept (out_behind o.handed fs gates ∙ ap (λ (x : Out). record { handed = x.handed ++ map sent_final fs; gates = x.gates }) (out_twice hs gates))
      ∙ ap (λ (g : Gates). record { handed = o.handed ++ map sent_final fs; gates = g })
      (fold-append without_ended o.gates o.handed (map sent_final fs) ∙ finals_keep fs (fold without_ended o.gates o.handed))

pub call_leaves : (s : State) (c : Call) → LeavePromise s c
call_leaves s c = leave_twice (asked_text (read s c)) (handing s (read s c)) (finishing s (read s c)).finals (follow s (read s c)).gates

-- ---- the gates after a call
module _ (config : Settings) (q : ℕ) (s : State) (i : InOrder config s) where
  regated_from : (c : Call) → gate_at q (regated s (read s c)) ≡ gate_from q c (granted s.core (read s c)).outcome (gate_at q s.gates)
  regated_from (call.Open o) = gate_joins s.gates s.core.next_face i.gated (gate_for o) q
  regated_from (call.Close f) = gate_goes s.gates s.core.next_face i.gated f.0 q
  regated_from (call.DeclareQueryable f id w info node) = declare_read (λ t. gate_at q (regated s t) ≡ gate_at q s.gates) s f id w info node refl refl
  regated_from (call.UndeclareQueryable f id w node) = withdraw_read (λ t. gate_at q (regated s t) ≡ gate_at q s.gates) s f id w node refl refl
  regated_from c = refl

  -- what a call that nothing refuses hands, and what leaves of it
  abbrev whole : TextCall → List Handed
  whole t = (fully s.names (told_by s t) (granted s.core t)).handed

  abbrev lets : TextCall → List Handed
  lets t = (let_out (asked_text t) (whole t) (regated s t)).handed

  abbrev ends : TextCall → List Final
  ends t = (finish (accepted s.core t) (unsent (lets t))).finals

  pub call_gates : (c : Call) → gate_at q (after s c).gates ≡ gate_after q c (step s c) (gate_at q s.gates)
  call_gates c =
      let t = read s c in
      by_out (λ z w. gate_at q w.gates ≡ gate_after q c z (gate_at q s.gates)) s t
      (λ h.
      gates_past q (asked_text t) (whole t) (regated s t)
      ∙ sym (past_ended q (lets t) (ends t) (gate_at q (regated s t)))
      ∙ ap (gate_past q (lets t ++ map sent_final (ends t))) (regated_from c)
      ∙ ap (λ b. cond b (gate_past q (lets t ++ map sent_final (ends t)) (gate_from q c (granted s.core t).outcome (gate_at q s.gates))) (gate_at q s.gates)) (sym (granted_is_accepted s.core t h)))
      (λ r. refl)

-- ---- a run
run_gates : (config : Settings) (q : ℕ) (cs : List Call) (s : State) → InOrder config s → gate_at q (state_after s cs).gates ≡ gate_in q cs (steps_from s cs) (gate_at q s.gates)
run_gates config q [] s i = refl
run_gates config q (c ∷ cs) s i =
    run_gates config q cs (after s c) (after_kept (InOrder config) (granted_in_order config) (stays_in_order config) s c i)
    ∙ ap (gate_in q cs (steps_from (after s c) cs)) (call_gates config q s i c)

pub all_gates : (config : Settings) (calls : List Call) (face : ℕ) → gate_at face (state_after (opening_state config) calls).gates ≡ gate_in face calls (steps_from (opening_state config) calls) None
all_gates config calls face = run_gates config face calls (opening_state config) (opening_in_order config)
