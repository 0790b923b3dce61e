-- What came of a request on what an expression says.
use Rattle.std.proofs.Common.{◌≡◌, ℕ, true, List, refl}
use Rattle.zq_message.specs.declared.message.QueryTarget.{QueryTarget}
use Rattle.zq_strategy.specs.State.{HatState}
use Rattle.zq_route.specs.declared.selection.Best.{Best}
use Rattle.zq_tables.specs.declared.resolved.Resolved.{Resolved}
use Rattle.zq_machine.specs.Selecting.{AskerState, full_text, says_key}
use Rattle.zq_show.specs.Reasons.{first_panel, judged_on, judged_said, nearest_in}
use Rattle.zq_show.specs.Seen.{SeenState}
use Rattle.zq_show.specs.declared.reasons.Panel.{Panel}

pub judged_is : (hats : List (ℕ × HatState)) (seen : SeenState) (b : Best) (a : AskerState) (t : QueryTarget) (said : Resolved) (p : Panel) (k : List ℕ) → says_key said ≡ true → p ≡ first_panel seen b a.face t k → k ≡ full_text said → judged_on hats seen a p k (nearest_in hats p a k) ≡ judged_said hats seen b a t said
unfolding judged_said
judged_is hats seen b a t said p k e f g = rw (f, g, e) refl
