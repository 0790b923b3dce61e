-- No key is denied by an empty list.
use Rattle.std.proofs.Common.{◌≡◌, ℕ, ◌==◌, true, false, List, [], ◌∷◌, length, sym, eqb-true, arith}
use Rattle.std.specs.Prelude.{◌&&◌}
use Rattle.std.proofs.Math.Bool.{and-false}
use Rattle.zq_key.specs.Key.{is_key}
use Rattle.zq_namespace.specs.Denied.{is_denied}

pub none_denied : (denied : List (List ℕ)) (key : List ℕ) → (length denied == 0) ≡ true → false ≡ (is_key key && is_denied denied key)
none_denied [] key none = sym (and-false (is_key key))
none_denied (d ∷ denied) key none = absurd (let l : length (d ∷ denied) ≡ 0 = eqb-true (length (d ∷ denied)) 0 none in omega (arith, l))
