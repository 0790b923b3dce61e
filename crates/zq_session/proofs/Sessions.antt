-- Calls that are read one after another.
use Rattle.std.proofs.Common.{◌≡◌, refl, ap, ℕ, List, [], ◌∷◌, ◌++◌, append_assoc}
use Rattle.std.specs.Prelude.{Result, Ok, Err, ◌&&◌, true}
use Rattle.std.proofs.lemmas.Bool.{and_parts}
use Rattle.zq_machine.specs.declared.call.Call.{Call}
use Rattle.zq_moved.specs.Moving.{can_move, can_move_call}
use Rattle.zq_session.specs.Session.{onto_calls}

pub call_put : (calls : List Call) (c : Call) (r : Result (List Call) ℕ) → onto_calls (calls ++ c ∷ []) r ≡ onto_calls calls (onto_calls (c ∷ []) r)
call_put calls c (Ok rest) = ap (λ x. Ok x) (append_assoc calls (c ∷ []) rest)
call_put calls c (Err n) = refl

-- one more call that can be moved
pub one_more : (calls : List Call) (c : Call) → can_move calls ≡ true → can_move_call c ≡ true → can_move (calls ++ c ∷ []) ≡ true
one_more [] c all one = ap (λ b. b && true) one
one_more (x ∷ calls) c all one =
    let m = and_parts (can_move_call x) (can_move calls) all in
    (λ j. m.0 j && one_more calls c m.1 one j)
