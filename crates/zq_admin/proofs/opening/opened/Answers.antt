use Rattle.std.proofs.Common.{◌≡◌, ◌∙◌}
use Rattle.zq_message.specs.declared.message.FaceId.{FaceId}
use Rattle.zq_machine.specs.declared.call.Call.{Call}
use Rattle.zq_machine.specs.Configs.{Settings}
use Rattle.zq_machine.specs.Machine.{after}
use Rattle.zq_machine.specs.State.{State, opening_state}
use Rattle.zq_admin.specs.Answering.{own_declaration, own_opening, own_state}
use Rattle.zq_admin.proofs.opening.opened.Goals as goal

two_made : (own : FaceId) (config : Settings) (s z y : State) (o d : Call) → s ≡ opening_state config → o ≡ own_opening config → d ≡ own_declaration own config → z ≡ after s o → y ≡ after z d → y ≡ own_state own config
unfolding own_state
two_made own config s z y o d e f g h i = i ∙ (λ j. after ((h ∙ (λ k. after (e k) (f k))) j) (g j))

pub returns-clause-state : goal.returns-clause-state
returns-clause-state c = two_made c.args.own c.args.config.now _ _ _ _ _ c.in_ok-gateway.ensures.opening c.own_opening.ensures c.in_ok-own_declaration.ensures.call c.in_ok-call.ensures.after c.in_ok-call-2.ensures.after
