-- When a text gives no key.
use Rattle.std.specs.Prelude.{◌≡◌, ℕ, List, true, false}
use Rattle.zq_key.specs.Key.{is_key}
use Rattle.zq_key.specs.declared.name.KeyError.{KeyError}
use Rattle.zq_key.specs.declared.name.KeyError.TheVariants.{Invalid, OutOfMemory}

-- the text is no key, or it is one and memory is short
abbrev pub IsRefusal : KeyError → List ℕ → Type 0
IsRefusal Invalid text = is_key text ≡ false
IsRefusal OutOfMemory text = is_key text ≡ true
