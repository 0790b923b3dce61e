use Rattle.std.proofs.Common.{◌≡◌, ◌∙◌, sym, ap, Some}
use Rattle.std.specs.Ordering.{nat_cmp}
use Rattle.std.specs.Map.{set_value}
use Rattle.std.specs.BTreeMap.{is_at}
use Rattle.std.proofs.lemmas.Map.Steps.{set_value_same}
use Rattle.std.proofs.lemmas.Result.{IfOk-weaker, on_err_weaker}
use Rattle.zq_message.specs.declared.message.FaceId.{FaceId}
use Rattle.zq_message.specs.declared.message.Message.{Message}
use Rattle.zq_namespace.specs.Undone.{mux_undone}
use Rattle.zq_machine.specs.Gates.{Gate, Gates, gate_at}
use Rattle.zq_egress.specs.Exits.{put_exit}
use Rattle.zq_egress.proofs.Keeping.{put_back}
use Rattle.zq_egress.proofs.through.keep_at.Goals as goal

pub returns-in-Some-clause-back : goal.returns-in-Some-clause-back
returns-in-Some-clause-back c =
    let h = c.args.handed.now in
    let gates : Gates = c.args.gates.now.entries in
    let was : Gate = c.in-Some.gate.now in
    let now : Gate = c.keep.new.self in
    let there : gate_at h.to.0 gates ≡ Some was = ap (λ (f : FaceId). gate_at f.0 gates) (sym c.to.ensures) ∙ sym c.in-Some.ensures.value in
    let written : (c.get_mut.follows.lender now).entries ≡ set_value (is_at (nat_cmp h.to.0)) gates now = (c.get_mut.follows.holds now).0 ∙ ap (λ (f : FaceId). set_value (is_at (nat_cmp f.0)) gates now) c.to.ensures in
    IfOk-weaker c.keep.result _ _
    (λ k back.
    ap (λ (gs : Gates). put_exit h.to.0 (mux_undone k h.message) gs (gate_at h.to.0 gs)) written
    ∙ put_back h.to.0 (mux_undone k h.message) gates was now there (ap (λ (m : Message). record now { exit = mux_undone k m now.exit }) (sym c.message.ensures) ∙ back))
    c.keep.ensures.back

pub returns-in-Some-clause-err : goal.returns-in-Some-clause-err
returns-in-Some-clause-err c =
    let gates : Gates = c.args.gates.now.entries in
    let was : Gate = c.in-Some.gate.now in
    let test = is_at (nat_cmp c.to.result.0) in
    let written : (c.get_mut.follows.lender was).entries ≡ set_value test gates was = (c.get_mut.follows.holds was).0 in
    let back = written ∙ set_value_same test gates was (sym c.in-Some.ensures.value) in
    on_err_weaker c.keep.result (λ e. ap (λ (g : Gate). (c.get_mut.follows.lender g).entries) e ∙ back) c.keep.ensures.err
