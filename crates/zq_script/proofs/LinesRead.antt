-- A line that is read byte by byte.
use Rattle.std.proofs.Common.{◌≡◌, ℕ, ◌<◌, ◌≤◌, List, [], ◌∷◌, ◌++◌, Option, Some, None, Result, Ok, refl, ap, ◌∙◌, sym, arith, get_or, length, take, Bool, true, false}
use Rattle.std.proofs.lemmas.Bool.Decides.{nat_tests}
use Rattle.std.proofs.lemmas.List.{append-nil}
use Rattle.std.specs.Prelude.{◌==◌, ◌≢◌, not}
use Rattle.zq_io.specs.declared.transfer.ReadRefusal.{ReadRefusal}
use Rattle.std.specs.Io.KnownBytes.{Consumes, IsAtEnd}
use Rattle.zq_lines.specs.Split.{lines_of}
use Rattle.zq_script.specs.Reading.{IsPart, ReadsLines}

no_end : (b : ℕ) → b ≢ 10 → (b == 10) ≡ false
no_end b h = grind (arith, nat_tests)

-- a line ends at its newline
pub line_ends : (line rest : List ℕ) → IsPart line → lines_of (line ++ 10 ∷ rest) ≡ line ∷ lines_of rest
line_ends [] rest h = refl
line_ends (b ∷ line) rest h = rw (no_end b h.0, line_ends line rest h.1) refl

-- the last line, which lacks it
pub last_line : (b : ℕ) (line : List ℕ) → IsPart (b ∷ line) → lines_of (b ∷ line) ≡ (b ∷ line) ∷ []
last_line b [] h = rw (no_end b h.0) refl
last_line b (c ∷ line) h = rw (no_end b h.0, last_line c line h.1) refl

pub part_more : (line : List ℕ) (b : ℕ) → IsPart line → b ≢ 10 → IsPart (line ++ b ∷ [])
part_more [] b h k = (k, tt)
part_more (c ∷ line) b h k = (h.0, part_more line b h.1 k)

-- the newline was read
pub ended : (a b c : Option (List ℕ)) (line : List ℕ) → IsPart line → Consumes a b line → Consumes b c (10 ∷ []) → ReadsLines a c (line ∷ [])
ended None b c line p h k = tt
ended (Some x) None c line p h k = absurd h
ended (Some x) (Some y) None line p h k = absurd k
ended (Some x) (Some y) (Some z) line p h k = ap lines_of (h ∙ ap (λ l. line ++ l) k) ∙ line_ends line z p

last_by : (line : List ℕ) → 0 < length line → IsPart line → lines_of line ≡ line ∷ []
last_by [] n p = absurd (grind arith)
last_by (b ∷ line) n p = last_line b line p

-- the end was read behind the last line
pub ended_last : (a b c : Option (List ℕ)) (line : List ℕ) → IsPart line → 0 < length line → Consumes a b line → Consumes b c [] → IsAtEnd c → ReadsLines a c (line ∷ [])
ended_last None b c line p n h k e = tt
ended_last (Some x) None c line p n h k e = absurd h
ended_last (Some x) (Some y) None line p n h k e = absurd k
ended_last (Some x) (Some y) (Some z) line p n h k e =
    ap lines_of (h ∙ ap (λ l. line ++ l) (k ∙ e) ∙ append-nil line) ∙ last_by line n p ∙ ap (λ l. line ∷ lines_of l) (sym e)

-- a list that is not empty has an item
pub not_empty : (b : Bool) (n : ℕ) → b ≡ (n == 0) → ◌≡◌ {A = Result Bool ReadRefusal} (Ok (not b)) (Ok true) → 0 < n
not_empty true n e h = absurd (cc)
not_empty false n e h = grind (arith, nat_tests)

-- a buffer of one byte from which some were taken
pub one_byte : (count x : ℕ) (buf : List ℕ) → length buf ≡ 1 → count ≤ 1 → count ≢ 0 → get_or buf 0 0 ≡ x → take count buf ≡ x ∷ []
one_byte count x [] l m n e = absurd (omega arith)
one_byte count x (b ∷ []) l m n e =
    let one : count ≡ 1 = omega arith in
    rw (one, e) refl
one_byte count x (b ∷ c ∷ bytes) l m n e = absurd (omega arith)

pub no_byte : (count : ℕ) (buf : List ℕ) → count ≡ 0 → take count buf ≡ []
no_byte count buf e = rw e refl
