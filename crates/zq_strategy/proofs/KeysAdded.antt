-- The keys of an index, and the texts that they join.
use Rattle.std.proofs.Common.{◌≡◌, ap, refl, List, [], ◌∷◌, map}
use Rattle.std.specs.Prelude.{String, string_bytes}
use Rattle.std.specs.declared.alloc.Global.{Global}
use Rattle.std.specs.Map.{keys_of}
use Rattle.zq_index.specs.Texts.{texts_of}

pub text_keys : {V : Type 0} (es : List (String Global × V)) → keys_of (texts_of es) ≡ map string_bytes (keys_of es)
text_keys [] = refl
text_keys (e ∷ es) = ap (λ l. string_bytes e.0 ∷ l) (text_keys es)
