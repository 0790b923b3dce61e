-- Lines that are read one after another.
use Rattle.std.proofs.Common.{◌≡◌, refl, ap, ℕ, List, [], ◌∷◌, ◌++◌, append_assoc}
use Rattle.std.specs.Prelude.{Result, Ok, Err}
use Rattle.zq_store.specs.declared.lines.Line.{Line}
use Rattle.zq_store.specs.Lines.{onto_lines}

pub line_put : (lines : List Line) (l : Line) (r : Result (List Line) ℕ) → onto_lines (lines ++ l ∷ []) r ≡ onto_lines lines (onto_lines (l ∷ []) r)
line_put lines l (Ok rest) = ap (λ x. Ok x) (append_assoc lines (l ∷ []) rest)
line_put lines l (Err n) = refl
