-- What a head opens.
use Rattle.std.proofs.Common.{◌≡◌, ℕ, List, [], ◌∷◌, Ok, Err, refl}
use Rattle.zq_lines.specs.Split.{lines_of}
use Rattle.zq_script.specs.Head.{Head, head_of}
use Rattle.zq_spoken.specs.Opening.{config_of, configured_by}
use Rattle.zq_spoken.specs.declared.refusal.OpenRefusal.TheVariants as refusal

more : (head : Head) (lines : List (List ℕ)) → (lines ≡ [] → ⊥) → configured_by head lines ≡ Err (refusal.BadLine head.2)
more head [] h = absurd (h refl)
more head (line ∷ lines) h = refl

-- no line stands behind the head
pub config_whole : (bytes : List ℕ) (head : Head) → head_of (lines_of bytes) ≡ Ok head → head.3 ≡ [] → config_of bytes ≡ Ok head.0
config_whole bytes head e f = rw (e, f) refl

-- a line stands behind the head
pub config_more : (bytes : List ℕ) (head : Head) → head_of (lines_of bytes) ≡ Ok head → (head.3 ≡ [] → ⊥) → config_of bytes ≡ Err (refusal.BadLine head.2)
config_more bytes head e f = rw e (more head head.3 f)

-- the head has a bad line
pub config_bad : (bytes : List ℕ) (n : ℕ) → head_of (lines_of bytes) ≡ Err n → config_of bytes ≡ Err (refusal.BadLine n)
config_bad bytes n e = rw e refl
