-- What is written for a text is read as that text.
use Rattle.std.proofs.Common.{◌≡◌, ℕ, zero, suc, ◌<◌, Bool, true, false, cond, eqb, List, [], ◌∷◌, length, get_or, Option, Some, None, refl, ap, ◌∙◌, arith, Result, Ok, Err, IfOk}
use Rattle.std.proofs.lemmas.List.{take-append-drop}
use Rattle.zq_message.specs.declared.message.Mapping.{Mapping}
use Rattle.zq_message.specs.declared.message.Mapping.TheVariants as mapping
use Rattle.zq_message.specs.declared.message.WireExpr.{WireExpr}
use Rattle.zq_message.specs.declared.memory.OutOfMemory.{OutOfMemory}
use Rattle.zq_tables.specs.declared.resolved.Resolved.TheVariants as said
use Rattle.zq_tables.specs.FaceTexts.{best_to, best_part, key_from}
use Rattle.zq_tables.specs.Naming.{FaceNaming, sent_side, read_by, said_of, said_plainly, text_at, plain, no_names, best}
use Rattle.zq_tables.proofs.NumbersRead.{part-cuts}

-- ---- by the numbers of a face

-- what is written for a text is read as that text
pub best-reads : (n : FaceNaming) (text : List ℕ) → 0 < length text → read_by n (best n text) ≡ said.Full text
best-reads n text h = by (best_part n text) refl
  where
    plainly : (t : List ℕ) → 0 < length t → said_plainly t ≡ said.Full t
    plainly [] h = absurd (omega (arith, h))
    plainly (b ∷ t) h = refl

    by : (o : Option (ℕ × Mapping × ℕ)) → best_part n text ≡ o → read_by n (key_from o text) ≡ said.Full text
    by None is = plainly text h
    by (Some p) is =
        let c = part-cuts n text p is in
        rw (c.number, c.stands) (ap said.Full (take-append-drop p.2 text))

-- the same of an answer
pub answer_reads : (n : FaceNaming) (text : List ℕ) (r : Result WireExpr OutOfMemory) → IfOk r (λ w. w ≡ best n text) → 0 < length text → IfOk r (λ w. read_by n w ≡ said.Full text)
answer_reads n text (Ok w) e h = ap (read_by n) e ∙ best-reads n text h
answer_reads n text (Err e) k h = tt

-- ---- no number

before_none : (text : List ℕ) (k : ℕ) → best_to no_names text k ≡ None
before_none text zero = refl
before_none text (suc k) = by (eqb (get_or text k 0) 47) (before_none text k)
  where
    by : (b : Bool) → best_to no_names text k ≡ None → cond b (best_to no_names text k) (best_to no_names text k) ≡ None
    by true rest = rest
    by false rest = rest

pub best_none : (text : List ℕ) → best no_names text ≡ plain text
best_none text = ap (λ (o : Option (ℕ × Mapping × ℕ)). key_from o text) (before_none text (length text))

side_none : (m : Mapping) (id : ℕ) → text_at id (sent_side no_names m) ≡ None
side_none mapping.Sender id = refl
side_none mapping.Receiver id = refl

pub said_none : (w : WireExpr) → eqb w.scope 0 ≡ false → said.Unscoped ≡ said_of no_names w
said_none w other = rw (other, side_none w.mapping w.scope) refl
