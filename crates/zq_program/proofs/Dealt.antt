-- The parts of a script that has lines `worker`.
use Rattle.std.proofs.Common.{◌≡◌, ℕ, ◌+◌, ◌-◌, ◌<◌, ◌≤◌, List, [], ◌∷◌, Option, Some, None, Bool, true, false, cond, refl, subst, length, arith, All}
use Rattle.std.specs.Prelude.{nat_lt, codes, IfOk, Result, Ok, Err}
use Rattle.std.specs.Str.{bytes_eq}
use Rattle.std.proofs.lemmas.Bool.Decides.{nat_tests}
use Rattle.std.proofs.lemmas.List.Elements.{All-cons, All-nil}
use Rattle.zq_machine.specs.declared.call.Call.{Call}
use Rattle.zq_machine.specs.Calls.{is_sent}
use Rattle.zq_io.specs.Words.{◌>>=◌}
use Rattle.zq_lines.specs.Lines.{call_of}
use Rattle.zq_script.specs.Head.{Head, head_of}
use Rattle.zq_script.specs.Script.{Gives, Parts, made, new_part, onto, onto_parts, parts_from, script_call, script_of, unless_sent, with_line, with_parts}
use Rattle.zq_script.specs.declared.refusal.ScriptRefusal.{ScriptRefusal}
use Rattle.zq_script.specs.declared.script.Script.{Script}
use Rattle.zq_program.specs.Parts.{ArePartsFor}

-- the call reports nothing
abbrev Unsent : Call → Type 0
Unsent c = is_sent c ≡ false

-- each call that was read reports nothing, and behind the first part there are at most so many
abbrev AreParts : ℕ → Result Parts ℕ → Type 0
AreParts workers (Ok parts) = All Unsent parts.0 × All (All Unsent) parts.1 × (length parts.1 ≤ workers)
AreParts workers (Err n) = Unit {0}

-- the call that a line has, if it has one, reports nothing
abbrev IsUnsent : Option Call → Type 0
IsUnsent None = Unit {0}
IsUnsent (Some c) = Unsent c

unless_by : (b : Bool) (c : Call) → is_sent c ≡ b → IsUnsent (cond b None (Some c))
unless_by true c e = tt
unless_by false c e = e

line_unsent : (o : Option Call) → IsUnsent (o >>= unless_sent true)
line_unsent None = tt
line_unsent (Some c) = unless_by (is_sent c) c refl

-- ---- a line more
new_are : (workers : ℕ) (r : Result Parts ℕ) → nat_lt 0 workers ≡ true → AreParts (workers - 1) r → AreParts workers (new_part r)
new_are workers (Ok parts) e p =
    (All-nil Unsent, All-cons (All Unsent) parts.0 parts.1 p.0 p.1, (let few = p.2 in grind (arith, nat_tests)))
new_are workers (Err n) e p = tt

onto_are : (workers : ℕ) (c : Call) (r : Result Parts ℕ) → Unsent c → AreParts workers r → AreParts workers (onto c r)
onto_are workers c (Ok parts) e p = (All-cons Unsent c parts.0 e p.0, p.1, p.2)
onto_are workers c (Err n) e p = tt

line_are : (workers n : ℕ) (o : Option Call) (r : Result Parts ℕ) → IsUnsent o → AreParts workers r → AreParts workers (with_line n o r)
line_are workers n None r e p = tt
line_are workers n (Some c) r e p = onto_are workers c r e p

worker_are : (b : Bool) (workers n : ℕ) (r : Result Parts ℕ) → nat_lt 0 workers ≡ b → AreParts (workers - 1) r → AreParts workers (cond b (new_part r) (Err n))
worker_are true workers n r e p = new_are workers r e p
worker_are false workers n r e p = tt

cond_are : (b : Bool) (workers : ℕ) (x y : Result Parts ℕ) → AreParts workers x → AreParts workers y → AreParts workers (cond b x y)
cond_are true workers x y p q = p
cond_are false workers x y p q = q

-- ---- all lines
lines_are : (n workers : ℕ) (lines : List (List ℕ)) → AreParts workers (parts_from n true workers lines)
lines_are n workers [] = (All-nil Unsent, All-nil (All Unsent), omega arith)
lines_are n workers (line ∷ lines) =
    cond_are (bytes_eq line (codes "worker")) workers _ _
    (worker_are (nat_lt 0 workers) workers n _ refl (lines_are (n + 1) (workers - 1) lines))
    (line_are workers n (script_call true line) _ (line_unsent (call_of line)) (lines_are (n + 1) workers lines))

-- ---- the script
abbrev AreMade : ℕ → Result Script ℕ → Type 0
AreMade workers (Ok s) = ArePartsFor workers s.parts
AreMade workers (Err n) = Unit {0}

made_are : (workers : ℕ) (head : Head) (r : Result Parts ℕ) → AreParts workers r → AreMade workers (made head (onto_parts [] [] r))
made_are workers head (Ok parts) p =
    let few = p.2 in
    record {
      first = omega arith;
      others = omega arith;
      calls = All-cons (All Unsent) parts.0 parts.1 p.0 p.1;
    }
made_are workers head (Err n) p = tt

with_are : (workers : ℕ) (h : Result Head ℕ) → nat_lt 0 workers ≡ true → AreMade workers (with_parts workers h)
with_are workers (Ok head) e =
    rw e (made_are workers head _ (lines_are head.2 workers head.3))
with_are workers (Err n) e = tt

pub parts_given : (workers : ℕ) (lines : List (List ℕ)) (r : Result Script ScriptRefusal) → 0 < workers → Gives r (script_of workers lines) → IfOk r (λ s. ArePartsFor workers s.parts)
parts_given workers lines (Ok s) some g = subst (AreMade workers) g (with_are workers (head_of lines) (grind (arith, nat_tests)))
parts_given workers lines (Err e) some g = tt
