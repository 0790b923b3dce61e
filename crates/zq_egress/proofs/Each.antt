-- Several messages: one more of them, and the last of them.
use Rattle.std.proofs.Common.{◌≡◌, ◌∙◌, refl, sym, ap, ℕ, Bool, true, false, cond, List, [], ◌∷◌, ◌++◌, length, fold, Option, Some, None, slice_get, arith}
use Rattle.std.specs.List.{AllByRecursion}
use Rattle.std.specs.Prelude.{◌&&◌, is_none}
use Rattle.zq_machine.specs.Gates.{IsWhole, Gates, Out, ends_given, keeping, let_out, out_first, through, with_given, without_ended}
use Rattle.zq_machine.specs.Handing.{Handed, left}
use Rattle.zq_egress.specs.declared.exits.Exit.{Exit}
use Rattle.zq_egress.specs.Exits.{left_by, undone_at, undone_by}
use Rattle.zq_egress.specs.Steps.{left_at, undone_if}

-- ---- the last is undone first
pub undone_last : (es : List Exit) (e : Exit) (hs : List Handed) (gates : Gates) → undone_by (es ++ e ∷ []) hs gates ≡ undone_by es hs (undone_if e (slice_get hs (length es)) gates)
undone_last [] e [] gates = refl
undone_last [] e (h ∷ hs) gates = refl
undone_last (d ∷ es) e [] gates = refl
undone_last (d ∷ es) e (h ∷ hs) gates = ap (undone_at d h) (undone_last es e hs gates)

-- ---- and what leaves of the last is put first
put_last : (d e : Exit) (es : List Exit) (h : Handed) (hs : List Handed) (o : Option Handed)
    → record h { leaves = left h.message d.leaves } ∷ left_by es (left_at e.leaves (length es) o hs) ≡ left_by (d ∷ es) (left_at e.leaves (length (d ∷ es)) o (h ∷ hs))
put_last d e es h hs None = refl
put_last d e es h hs (Some x) = refl

pub left_last : (es : List Exit) (e : Exit) (hs : List Handed) → left_by (es ++ e ∷ []) hs ≡ left_by es (left_at e.leaves (length es) (slice_get hs (length es)) hs)
left_last [] e [] = refl
left_last [] e (h ∷ hs) = refl
left_last (d ∷ es) e [] = refl
left_last (d ∷ es) e (h ∷ hs) =
    ap (λ (l : List Handed). record h { leaves = left h.message d.leaves } ∷ l) (left_last es e hs)
    ∙ put_last d e es h hs (slice_get hs (length es))

pub left_more : (es : List Exit) (e : Exit) (hs : List Handed) (h : Handed) → length es ≡ length hs → left_by (es ++ e ∷ []) (hs ++ h ∷ []) ≡ left_by es hs ++ record h { leaves = left h.message e.leaves } ∷ []
left_more [] e [] h same = refl
left_more [] e (x ∷ hs) h same = absurd (omega (arith, same))
left_more (d ∷ es) e [] h same = absurd (omega (arith, same))
left_more (d ∷ es) e (x ∷ hs) h same =
    let shorter : length es ≡ length hs = omega (arith, same) in
    ap (λ (l : List Handed). record x { leaves = left x.message d.leaves } ∷ l) (left_more es e hs h shorter)

-- ---- one more goes through behind the others
abbrev pub then_out : List ℕ → Handed → Out → Out
then_out text h o = record { handed = o.handed ++ through text o.gates h ∷ []; gates = with_given (through text o.gates h) o.gates }

pub out_more : (text : List ℕ) (hs : List Handed) (h : Handed) (gates : Gates) → let_out text (hs ++ h ∷ []) gates ≡ then_out text h (let_out text hs gates)
out_more text [] h gates = refl
out_more text (x ∷ hs) h gates =
    let k = through text gates x in
    ap (out_first k) (out_more text hs h (with_given k gates))

-- ---- without gates all goes
pub none_out : (text : List ℕ) (hs : List Handed) → AllByRecursion IsWhole hs → let_out text hs [] ≡ record { handed = hs; gates = [] }
none_out text [] whole = refl
none_out text (h ∷ hs) whole =
    ap (out_first (through text [] h)) (none_out text hs whole.1)
    ∙ (λ j. record { handed = record h { leaves = sym whole.0 j } ∷ hs; gates = [] })

-- and nothing is kept
none_ended_by : (h : Handed) (b : Bool) → ◌≡◌ {A = Gates} (cond b (keeping h []) []) []
none_ended_by h true = refl
none_ended_by h false = refl

pub none_ended : (hs : List Handed) → fold without_ended [] hs ≡ []
none_ended [] = refl
none_ended (h ∷ hs) = ap (λ (g : Gates). fold without_ended g hs) (none_ended_by h (is_none h.leaves && ends_given h.message)) ∙ none_ended hs
