-- When bytes are a text that is a key.
use Rattle.std.proofs.Common.{◌≡◌, ℕ, List, Bool, true, false, Some, None, refl}
use Rattle.std.specs.Prelude.{◌&&◌, if◌then◌else◌}
use Rattle.std.specs.Str.{IsUtf8, is_utf8}
use Rattle.std.proofs.lemmas.Str.{is_utf8-from_IsUtf8, IsUtf8-from_is_utf8}
use Rattle.zq_key.specs.Key.{is_key}
use Rattle.zq_spoken.specs.Keys.{key_in}

by_tests : (bytes : List ℕ) (a b : Bool) → is_utf8 bytes ≡ a → is_key bytes ≡ b → key_in bytes ≡ (if a && b then Some bytes else None)
by_tests bytes a b e f = rw (e, f) refl

-- a text that is a key
pub key_is : (bytes text : List ℕ) → text ≡ bytes → IsUtf8 bytes → is_key text ≡ true → Some text ≡ key_in bytes
key_is bytes text same valid key = rw same (rw (by_tests bytes true true (is_utf8-from_IsUtf8 bytes valid) (rw (← same) key)) refl)

-- a text that is no key
pub no_key : (bytes text : List ℕ) → text ≡ bytes → is_key text ≡ false → None ≡ key_in bytes
no_key bytes text same key = by (is_utf8 bytes) refl
  where
    by : (a : Bool) → is_utf8 bytes ≡ a → None ≡ key_in bytes
    by true e = rw (by_tests bytes true false e (rw (← same) key)) refl
    by false e = rw (by_tests bytes false false e (rw (← same) key)) refl

-- bytes that are no text
pub no_text : (bytes : List ℕ) → (IsUtf8 bytes → ⊥) → None ≡ key_in bytes
no_text bytes wrong = by (is_utf8 bytes) refl (is_key bytes) refl
  where
    by : (a : Bool) → is_utf8 bytes ≡ a → (b : Bool) → is_key bytes ≡ b → None ≡ key_in bytes
    by true e b f = absurd (wrong (IsUtf8-from_is_utf8 bytes e))
    by false e b f = rw (by_tests bytes false b e f) refl
