use Rattle.std.proofs.Common.{◌≡◌, All, List, false, sym, subst}
use Rattle.zq_machine.specs.declared.call.Call.{Call}
use Rattle.zq_machine.specs.Calls.{is_sent}
use Rattle.zq_program.proofs.shared_run.share_script.Goals as goal

pub share-requires-clause-calls : goal.share-requires-clause-calls
share-requires-clause-calls g c =
    λ _ _. subst (λ (l : List (List Call)). All (All (λ c. is_sent c ≡ false)) l) (sym c.into_vec.ensures) c.requires.parts.calls
