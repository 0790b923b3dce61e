-- Small facts on places and texts.
use Rattle.std.proofs.Common.{◌≡◌, ℕ, List, Some, None, refl, arith, length, Bool, true, false, cond, ltb-false}
use Rattle.std.specs.Prelude.{not}
use Rattle.std.specs.List.{position, position_or_len}
use Rattle.std.specs.Str.{IsUtf8, is_utf8}
use Rattle.std.proofs.lemmas.List.Sums.{prefix_len-le-length}
use Rattle.std.specs.Prelude.{String, string_bytes}
use Rattle.std.proofs.lemmas.Str.{IsUtf8-from_is_utf8, is_utf8-from_IsUtf8, IsUtf8-string_bytes}

none_false : (b : Bool) (n : ℕ) → cond b (Some n) None ≡ None → b ≡ false
none_false true n e = cc
none_false false n e = refl

-- where nothing passes, the first place is the end
pub position_none : {X : Type 0} (p : X → Bool) (xs : List X) → position p xs ≡ None → position_or_len p xs ≡ length xs
position_none p xs e = omega (arith, ltb-false _ _ (none_false _ _ e), prefix_len-le-length (λ x. not (p x)) xs)

-- a string is UTF-8
pub string_utf8 : {Z : Type 0} (s : String Z) → is_utf8 (string_bytes s) ≡ true
string_utf8 s = is_utf8-from_IsUtf8 (string_bytes s) (IsUtf8-string_bytes s)

not_true : (bs : List ℕ) (b : Bool) → is_utf8 bs ≡ b → (IsUtf8 bs → ⊥) → b ≡ false
not_true bs true e wrong = absurd (wrong (IsUtf8-from_is_utf8 bs e))
not_true bs false e wrong = refl

pub not_utf8 : (bs : List ℕ) → (IsUtf8 bs → ⊥) → is_utf8 bs ≡ false
not_utf8 bs wrong = not_true bs (is_utf8 bs) refl wrong
