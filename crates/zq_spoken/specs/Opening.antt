-- What the lines of a script before its calls open.
use Rattle.std.specs.Prelude.{◌≡◌, ℕ, List, [], ◌∷◌, Result, Ok, Err}
use Rattle.zq_machine.specs.Configs.{Settings}
use Rattle.zq_lines.specs.Split.{lines_of}
use Rattle.zq_script.specs.Head.{Head, head_of}
use Rattle.zq_spoken.specs.declared.refusal.OpenRefusal.{OpenRefusal}
use Rattle.zq_spoken.specs.declared.refusal.OpenRefusal.TheVariants as refusal

-- the configuration of a head, where no lines stand behind it: any is bad
abbrev pub configured_by : Head → List (List ℕ) → Result Settings OpenRefusal
configured_by head [] = Ok head.0
configured_by head (line ∷ lines) = Err (refusal.BadLine head.2)

-- the configuration of a head, or its bad line
abbrev pub configured : Result Head ℕ → Result Settings OpenRefusal
configured (Ok head) = configured_by head head.3
configured (Err n) = Err (refusal.BadLine n)

-- the configuration that these bytes say: they are the lines of a script before its calls, and no other
abbrev pub config_of : List ℕ → Result Settings OpenRefusal
config_of bytes = configured (head_of (lines_of bytes))

-- what is opened of a configuration, if there is one
abbrev pub and_then : {X : Type 0} → Result Settings OpenRefusal → (Settings → Result X OpenRefusal) → Result X OpenRefusal
and_then (Ok config) made = made config
and_then (Err e) made = Err e

-- what is opened of the configuration that these bytes say
abbrev pub bind_config : {X : Type 0} → List ℕ → (Settings → Result X OpenRefusal) → Result X OpenRefusal
bind_config bytes made = and_then (config_of bytes) made

-- the refusal is what opening gives, unless memory ran out
abbrev pub Refuses : {X : Type 0} → OpenRefusal → Result X OpenRefusal → Type 0
Refuses (refusal.BadLine n) opening = opening ≡ Err (refusal.BadLine n)
Refuses refusal.NoLocal opening = opening ≡ Err refusal.NoLocal
Refuses refusal.NoFreeId opening = opening ≡ Err refusal.NoFreeId
Refuses refusal.OutOfMemory opening = Unit {0}

-- the answer is what opening gives, unless memory ran out
abbrev pub Opens : {X : Type 0} → Result X OpenRefusal → Result X OpenRefusal → Type 0
Opens (Ok x) opening = opening ≡ Ok x
Opens (Err e) opening = Refuses e opening
