-- What the words of the command ask for.
use Rattle.std.specs.Prelude.{ℕ, ◌==◌, List, [], ◌∷◌, Option, Some, None, codes, if◌then◌else◌}
use Rattle.std.specs.Str.{bytes_eq}
use Rattle.zq_io.specs.Words.{number}
use Rattle.zq_main.specs.declared.Asked.{Asked}
use Rattle.zq_main.specs.declared.Asked.TheVariants.{Help, Version, Show, Live, Check, Run}

-- words of which the first is `show` ask to show a run, others for a run
abbrev pub asked_first : List ℕ → Asked
asked_first word = if bytes_eq word (codes "show") then Show else Run

-- one word that asks to answer lines or to look at a script, or words by their first
abbrev pub asked_script : List ℕ → Asked
asked_script word = if bytes_eq word (codes "live") then Live else (if bytes_eq word (codes "check-script") then Check 0 else asked_first word)

-- one word that asks for a text, or is another
abbrev pub asked_by : List ℕ → Asked
asked_by word = if bytes_eq word (codes "--help") then Help else (if bytes_eq word (codes "--version") then Version else asked_script word)

-- to look at a script with at most so many lines `worker`
abbrev pub asked_check : Option ℕ → Asked
asked_check None = Run
asked_check (Some workers) = Check workers

-- two words: `check-script W`, with W up to 16, or words by their first
abbrev pub asked_two : List ℕ → List ℕ → Asked
asked_two word other = if bytes_eq word (codes "check-script") then asked_check (number 16 other) else asked_first word

-- `--help`, `--version`, `live` and `check-script` alone, and `check-script W`; words behind `show`; all else is for a run
abbrev pub asked_of : List (List ℕ) → Asked
asked_of [] = Run
asked_of (word ∷ []) = asked_by word
asked_of (word ∷ other ∷ []) = asked_two word other
asked_of (word ∷ other ∷ more ∷ words) = asked_first word
