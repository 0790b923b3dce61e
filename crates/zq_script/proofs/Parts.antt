-- Lines from the left, and the parts that they make.
use Rattle.std.proofs.Common.{◌≡◌, ℕ, List, [], ◌∷◌, ◌++◌, refl, ap, ◌∙◌, sym, append_assoc}
use Rattle.std.proofs.lemmas.List.{append-nil}
use Rattle.std.specs.Prelude.{Result, Ok, Err}
use Rattle.zq_machine.specs.declared.call.Call.{Call}
use Rattle.zq_script.specs.Script.{Parts, onto, new_part, onto_parts}

pub part_begun : (parts : List (List Call)) (calls : List Call) (r : Result Parts ℕ) → onto_parts (parts ++ calls ∷ []) [] r ≡ onto_parts parts calls (new_part r)
part_begun parts calls (Ok p) = ap (λ x. Ok x) (append_assoc parts (calls ∷ []) (p.0 ∷ p.1) ∙ ap (λ c. parts ++ c ∷ p.0 ∷ p.1) (sym (append-nil calls)))
part_begun parts calls (Err n) = refl

pub call_put : (parts : List (List Call)) (calls : List Call) (c : Call) (r : Result Parts ℕ) → onto_parts parts (calls ++ c ∷ []) r ≡ onto_parts parts calls (onto c r)
call_put parts calls c (Ok p) = ap (λ x. Ok (parts ++ x ∷ p.1)) (append_assoc calls (c ∷ []) p.0)
call_put parts calls c (Err n) = refl
