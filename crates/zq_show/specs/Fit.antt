-- What fits into a list of a page, and what is left out of it.
use Rattle.std.specs.Prelude.{ℕ, ◌+◌, ◌-◌, ◌^◌, ◌==◌, List, [], ◌∷◌, ◌++◌, codes, if◌then◌else◌, length, min, nat_le}
use Rattle.std.specs.Fmt.{decimal}
use Rattle.zq_show.specs.declared.fit.Fit.{Fit}

-- a list with room for so many bytes
abbrev pub room_of : ℕ → Fit
room_of room = record { room = room; skipped = 0 }

-- an item where it fits
abbrev pub fit_words : Fit → List ℕ → List ℕ
fit_words fit item = if nat_le (length item) fit.room then item else []

-- what still fits behind an item
abbrev pub fit_after : Fit → List ℕ → Fit
fit_after fit item =
    if nat_le (length item) fit.room then record { room = fit.room - length item; skipped = fit.skipped }
    else record { room = fit.room; skipped = min (fit.skipped + 1) (2 ^ 64 - 1) }

-- how many items were left out, and how to see them
unfoldable pub left_words : ℕ → List ℕ
left_words skipped = codes "<li class='no'>left out here: " ++ decimal skipped ++ codes "; <code>zq show --text</code> prints all</li>"

-- how many items were left out, if any was
abbrev pub left_out_words : Fit → List ℕ
left_out_words fit = if fit.skipped == 0 then [] else left_words fit.skipped

-- what is written of each item where it fits, and of those that do not how many they are
abbrev pub fitted_by : {X : Type 0} → (X → List ℕ) → Fit → List X → List ℕ
fitted_by write fit [] = left_out_words fit
fitted_by write fit (x ∷ xs) = fit_words fit (write x) ++ fitted_by write (fit_after fit (write x)) xs
