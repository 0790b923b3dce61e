-- What is gathered piece by piece is all of it.
use Rattle.std.proofs.Common.{◌≡◌, ◌∙◌, sym, append_assoc, List, [], ◌∷◌, ◌++◌, fold}
use Rattle.std.proofs.lemmas.List.{append-nil}
use Rattle.std.specs.List.{flat_map}

-- what stands there, and what comes of one more
abbrev pub put_more : {E X : Type 0} → (E → List X) → List X → E → List X
put_more f xs e = xs ++ f e

pub all_put : {E X : Type 0} (f : E → List X) (es : List E) (xs : List X) → fold (put_more f) xs es ≡ xs ++ flat_map f es
all_put f [] xs = sym (append-nil xs)
all_put f (e ∷ es) xs = all_put f es (xs ++ f e) ∙ append_assoc xs (f e) (flat_map f es)
