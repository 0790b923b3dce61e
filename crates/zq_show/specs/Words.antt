-- What the words of the command ask for.
use Rattle.std.specs.Prelude.{ℕ, List, [], ◌∷◌, Option, Some, None, codes, if◌then◌else◌, true, false}
use Rattle.std.specs.Option.{option_map}
use Rattle.std.specs.Str.{bytes_eq}
use Rattle.zq_io.specs.Words.{number}
use Rattle.zq_io.specs.Values.{most_64}
use Rattle.zq_show.specs.declared.words.Asked.{Asked}
use Rattle.zq_show.specs.declared.words.Asked.TheVariants as asked
use Rattle.zq_show.specs.declared.words.Form.TheVariants as form

-- a diagram of the request that digits name
abbrev pub diagram_of : List ℕ → Option Asked
diagram_of digits = option_map (λ n. asked.Run (form.Mermaid (Some n))) (number most_64 digits)

-- three words: the diagram of a request
abbrev pub most_of : List ℕ → List ℕ → List ℕ → Option Asked
most_of word next digits = if bytes_eq word (codes "--mermaid") then (if bytes_eq next (codes "--request") then diagram_of digits else None) else None

-- a page of the request that digits name
abbrev pub request_of : List ℕ → Option Asked
request_of digits = option_map (λ n. asked.Run (form.Page (Some n))) (number most_64 digits)

-- two words: text with colours, or the page of a request
abbrev pub more_of : List ℕ → List ℕ → Option Asked
more_of word next =
    if bytes_eq word (codes "--text") then (if bytes_eq next (codes "--color") then Some (asked.Run (form.Plain true)) else None)
    else (if bytes_eq word (codes "--request") then request_of next else None)

-- no word asks for a page, `--text` for text, `--mermaid` for a diagram, and `--version` for the version
abbrev pub asked_of : List (List ℕ) → Option Asked
asked_of [] = Some (asked.Run (form.Page None))
asked_of (word ∷ []) =
    if bytes_eq word (codes "--text") then Some (asked.Run (form.Plain false))
    else (if bytes_eq word (codes "--mermaid") then Some (asked.Run (form.Mermaid None))
    else (if bytes_eq word (codes "--version") then Some asked.Version else None))
asked_of (word ∷ next ∷ []) = more_of word next
asked_of (word ∷ next ∷ digits ∷ []) = most_of word next digits
asked_of _ = None
