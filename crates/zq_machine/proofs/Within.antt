-- What leaves is what is handed but for its expression, and stays within: each namespace is plain, at every point of every run.
use Rattle.std.proofs.Common.{◌≡◌, refl, sym, subst, ℕ, Bool, true, false, cond, List, [], ◌∷◌, ◌++◌, map, Option, Some, None}
use Rattle.std.specs.Option.{option_map}
use Rattle.zq_message.specs.declared.message.Declare.{Declare}
use Rattle.zq_message.specs.declared.message.DeclareBody.TheVariants as body
use Rattle.zq_message.specs.declared.message.Message.{Message}
use Rattle.zq_message.specs.declared.message.Message.TheVariants as message
use Rattle.zq_namespace.specs.Denied.{IsPlainSpace, MuxState, denies, mux_leaves, space_leaves}
use Rattle.zq_namespace.specs.Leaves.{ExitState}
use Rattle.zq_namespace.proofs.Within.{leaves-within, stays-in}
use Rattle.zq_query.specs.declared.records.Final.{Final}
use Rattle.zq_machine.specs.declared.call.Call.{Call}
use Rattle.zq_machine.specs.Configs.{Settings}
use Rattle.zq_machine.specs.Deciding.{accepted, granted, regated}
use Rattle.zq_machine.specs.Gates.{Gate, Gates, gate_at, leaves_by, let_out, space_of, through, with_given}
use Rattle.zq_machine.specs.Handing.{Handed}
use Rattle.zq_machine.specs.Headline.{WithinPromise}
use Rattle.zq_machine.specs.Machine.{asked_text, follow}
use Rattle.zq_machine.specs.State.{State}
use Rattle.zq_machine.specs.TextCalls.{read}
use Rattle.zq_machine.specs.Within.{AllStay, IsInSpace, StaysAt}
use Rattle.zq_machine.specs.Writing.{final_message, finish, sent_final, unsent}
use Rattle.zq_machine.proofs.Agreed.{InOrder, granted_in_order}
use Rattle.zq_machine.proofs.GoingOut.{final_leaves}
use Rattle.zq_machine.proofs.Granted.{by_out, told_by}
use Rattle.zq_machine.proofs.LettingOut.{ends_leave, exit_lets, space_rest}
use Rattle.zq_machine.proofs.Spaces.{ArePlain, plain_given}
use Rattle.zq_machine.proofs.Tells.{followed}
use Rattle.zq_machine.proofs.Writing.{fully}

-- ---- one message
-- what leaves a plain namespace stays within it
space_stays : (o : Option ExitState) → IsPlainSpace (option_map (λ (e : ExitState). e.ns) o) → (m : Message) (b : Bool) → IsInSpace o m (cond b None (space_leaves o m))
space_stays None plain m b = tt
space_stays (Some e) plain m true = λ text says key. tt
space_stays (Some e) plain m false = leaves-within e m plain

-- the end of declarations leaves by every exit
ends_out : (s : MuxState) (text : List ℕ) (m : Message) (d : Declare) → m ≡ message.Declare d → d.body ≡ body.DeclareFinal → mux_leaves s text m ≡ Some m
ends_out s text m d is ends = subst (λ x. mux_leaves s text x ≡ Some x) (sym is) (ends_leave s.space d ends)

-- and what leaves by a gate stays behind it
stays_at : (o : Option Gate) → IsPlainSpace (space_of o) → (text : List ℕ) (m : Message) → StaysAt o text m (leaves_by o text m)
stays_at None plain text m = refl
stays_at (Some g) plain text m = record {
  within = space_stays g.exit.space plain m (denies g.exit.exit text m);
  denied = stays-in g.exit text m;
  lets = exit_lets g.exit.space plain g.exit.exit text m;
  rest = space_rest g.exit.space m (denies g.exit.exit text m);
  finals = λ f is. subst (λ x. mux_leaves g.exit text x ≡ Some x) (sym is) (final_leaves (Some g) text f);
  ends = ends_out g.exit text m;
}

-- a final leaves
final_stays : (o : Option Gate) → IsPlainSpace (space_of o) → (text : List ℕ) (f : Final) → StaysAt o text (final_message f) (Some (final_message f))
final_stays o plain text f = subst (StaysAt o text (final_message f)) (final_leaves o text (record { rid = f.id; qos = f.qos })) (stays_at o plain text (final_message f))

-- ---- messages
module _ (text : List ℕ) (fs : List Final) where
  finals_stay : (gs : List Final) (gates : Gates) → ArePlain gates → AllStay text (map sent_final gs) gates
  finals_stay [] gates plain = tt
  finals_stay (f ∷ gs) gates plain = (final_stays (gate_at f.asker.0 gates) (plain f.asker.0) text f, finals_stay gs gates plain)

  all_stay : (hs : List Handed) (gates : Gates) → ArePlain gates → AllStay text ((let_out text hs gates).handed ++ map sent_final fs) gates
  all_stay [] gates plain = finals_stay fs gates plain
  all_stay (h ∷ hs) gates plain =
      let k = through text gates h in
      (stays_at (gate_at h.to.0 gates) (plain h.to.0) text h.message, all_stay hs (with_given k gates) (plain_given k gates plain))

-- ---- a call
pub call_within : (config : Settings) (s : State) (c : Call) → InOrder config s → WithinPromise s c
call_within config s c i =
    let t = read s c in
    by_out (λ z w. AllStay (asked_text t) z.handed (follow s t).gates) s t
    (λ h.
    subst (λ (z : State). AllStay (asked_text t) ((let_out (asked_text t) (fully s.names (told_by s t) (granted s.core t)).handed (regated s t)).handed ++ map sent_final (finish (accepted s.core t) (unsent (let_out (asked_text t) (fully s.names (told_by s t) (granted s.core t)).handed (regated s t)).handed)).finals) z.gates)
    (sym (followed s t h))
    (all_stay (asked_text t) (finish (accepted s.core t) (unsent (let_out (asked_text t) (fully s.names (told_by s t) (granted s.core t)).handed (regated s t)).handed)).finals (fully s.names (told_by s t) (granted s.core t)).handed (regated s t) (granted_in_order config s c h i).spaces))
    (λ r. tt)
