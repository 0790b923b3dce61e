-- How far messages have gone through the gates of their faces.
use Rattle.std.proofs.Common.{◌≡◌, ◌∙◌, sym, ap, ℕ, ◌+◌, ◌<◌, List, [], ◌∷◌, ◌++◌, length, take, get_or, Option, Some, slice_get, arith, length-append, length-take-le}
use Rattle.std.proofs.lemmas.List.{take_more}
use Rattle.std.proofs.lemmas.Option.{slice_get-get_or}
use Rattle.zq_machine.specs.Gates.{Gates, let_out, through, with_given}
use Rattle.zq_machine.specs.Handing.{Handed, left}
use Rattle.zq_egress.specs.declared.exits.Exit.{Exit}
use Rattle.zq_egress.specs.Exits.{left_by, undone_at, undone_by}
use Rattle.zq_egress.specs.Steps.{undone_if}
use Rattle.zq_egress.proofs.Each.{left_more, out_more, then_out, undone_last}

-- what leaves of the messages before a place is known, and the gates are those after them; undone, they are as they were
pub record Reached (text : List ℕ) (hs : List Handed) (old : Gates) (es : List Exit) (now : Gates) (i : ℕ) : Type 0 where
  pub out : let_out text (take i hs) old ≡ record { handed = left_by es (take i hs); gates = now }
  pub back : undone_by es hs now ≡ old
  pub count : length es ≡ i

module _ (text : List ℕ) (hs : List Handed) (old : Gates) (es : List Exit) (now : Gates) (i : ℕ) (h : Handed) (e : Exit) (later : Gates) where
  pub reached_more : i < length hs → h ≡ get_or hs i h → record h { leaves = left h.message e.leaves } ≡ through text now h → later ≡ with_given (through text now h) now → undone_at e h later ≡ now
      → Reached text hs old es now i → Reached text hs old (es ++ e ∷ []) later (i + 1)
  reached_more within is goes gates undone r =
      let one : take (i + 1) hs ≡ take i hs ++ h ∷ [] = take_more hs i h within ∙ ap (λ (x : Handed). take i hs ++ x ∷ []) (sym is) in
      let here : slice_get hs i ≡ Some h = slice_get-get_or hs i h within ∙ ap Some (sym is) in
      let cut : length (take i hs) ≡ i = length-take-le i hs (omega (arith, within)) in
      record {
        out =
            ap (λ (l : List Handed). let_out text l old) one
            ∙ out_more text (take i hs) h old
            ∙ ap (then_out text h) r.out
            ∙ (λ j. record { handed = left_by es (take i hs) ++ sym goes j ∷ []; gates = sym gates j })
            ∙ ap (λ (l : List Handed). record { handed = l; gates = later }) (sym (left_more es e (take i hs) h (r.count ∙ sym cut)))
            ∙ ap (λ (l : List Handed). record { handed = left_by (es ++ e ∷ []) l; gates = later }) (sym one);
        back =
            undone_last es e hs later
            ∙ ap (λ n. undone_by es hs (undone_if e (slice_get hs n) later)) r.count
            ∙ ap (λ (o : Option Handed). undone_by es hs (undone_if e o later)) here
            ∙ ap (undone_by es hs) undone
            ∙ r.back;
        count = length-append es (e ∷ []) ∙ ap (λ n. n + 1) r.count;
      }
