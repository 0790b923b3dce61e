-- What a face writes is read behind its namespace.
use Rattle.std.proofs.Common.{◌≡◌, ◌∙◌, refl, ap, ℕ, ◌==◌, ◌<◌, Bool, true, false, cond, List, [], ◌∷◌, length, Option, Some, None, zero, suc, arith, eqb-true}
use Rattle.std.proofs.lemmas.Bool.{and_parts, false≢true}
use Rattle.zq_key.specs.Key.{is_chunk, is_key, is_plain}
use Rattle.zq_key.specs.Space.{behind, prefixed}
use Rattle.zq_message.specs.declared.message.FaceId.{FaceId}
use Rattle.zq_message.specs.declared.message.Mapping.{Mapping}
use Rattle.zq_message.specs.declared.message.Response.{Response}
use Rattle.zq_message.specs.declared.message.WireExpr.{WireExpr}
use Rattle.zq_namespace.specs.Denied.{IsPlainSpace}
use Rattle.zq_namespace.specs.Entry.{entered, is_bare, is_bare_error, is_error}
use Rattle.zq_tables.specs.declared.resolved.Resolved.TheVariants as said_word
use Rattle.zq_tables.specs.Naming.{FaceNaming, face_naming, said_of, said_plainly}
use Rattle.zq_machine.specs.Behind.{SaysAt, SaysPromise}
use Rattle.zq_machine.specs.Gates.{denied_by, entered_by, gate_at, reply_by, space_of}
use Rattle.zq_machine.specs.State.{State}
use Rattle.zq_machine.specs.TextCalls.{said}
use Rattle.zq_machine.proofs.Spaces.{ArePlain}
use Rattle.zq_machine.proofs.Denying.{asks_free}

-- a plain text is not empty, and says itself
plain_says : (n : List ℕ) → is_plain n ≡ true → said_plainly n ≡ said_word.Full n
unfolding is_plain is_key is_chunk
plain_says [] p = absurd (false≢true p)
plain_says (c ∷ n) p = refl

joined_says : (n : List ℕ) (c : ℕ) (k : List ℕ) → said_plainly (behind n (c ∷ k)) ≡ said_word.Full (behind n (c ∷ k))
joined_says [] c k = refl
joined_says (x ∷ n) c k = refl

module _ (n : List ℕ) (p : is_plain n ≡ true) (names : FaceNaming) (m : Mapping) where
  written : (scope : ℕ) (t : List ℕ) → scope ≡ 0 → 0 < length t → said_of names (entered n (record { scope = scope; mapping = m; suffix = t })) ≡ said_word.Full (behind n t)
  written zero [] z l = absurd (omega (arith, l))
  written zero (c ∷ k) z l = joined_says n c k
  written (suc i) t z l = absurd (omega (arith, z))

  empty : (scope : ℕ) (t : List ℕ) → scope ≡ 0 → length t ≡ 0 → said_of names (entered n (record { scope = scope; mapping = m; suffix = t })) ≡ said_word.Full n
  empty zero [] z l = plain_says n p
  empty zero (c ∷ k) z l = absurd (omega (arith, l))
  empty (suc i) t z l = absurd (omega (arith, z))

  numbered : (scope : ℕ) (t : List ℕ) → 0 < scope → said_of names (entered n (record { scope = scope; mapping = m; suffix = t })) ≡ said_of names (record { scope = scope; mapping = m; suffix = t })
  numbered scope t l = by (scope == 0) refl
    where
      w : WireExpr
      w = record { scope = scope; mapping = m; suffix = t }

      by : (b : Bool) → (scope == 0) ≡ b → said_of names (cond b (record w { suffix = prefixed n t }) w) ≡ said_of names w
      by true e = let none : scope ≡ 0 = eqb-true _ _ e in absurd (omega (arith, l, none))
      by false e = refl

says_at : (s : State) (face : FaceId) (w : WireExpr) (o : Option (List ℕ)) → space_of (gate_at face.0 s.gates) ≡ o → IsPlainSpace o → SaysAt o s face w
says_at s face w None e plain = ap (λ o. said_of (face_naming face.0 s.names) (entered_by o w)) e
says_at s face w (Some n) e plain =
    let reads = ap (λ o. said_of (face_naming face.0 s.names) (entered_by o w)) e in
    record {
      written = λ z l. reads ∙ written n plain (face_naming face.0 s.names) w.mapping w.scope w.suffix z l;
      empty = λ z l. reads ∙ empty n plain (face_naming face.0 s.names) w.mapping w.scope w.suffix z l;
      numbered = λ l. reads ∙ numbered n plain (face_naming face.0 s.names) w.mapping w.scope w.suffix l;
      plain = plain;
    }

-- an expression without number and suffix says nothing
none_says : (names : FaceNaming) (m : Mapping) (scope : ℕ) (t : List ℕ) → scope ≡ 0 → length t ≡ 0 → said_of names (record { scope = scope; mapping = m; suffix = t }) ≡ said_word.Empty
none_says names m zero [] z l = refl
none_says names m zero (c ∷ k) z l = absurd (omega (arith, l))
none_says names m (suc i) t z l = absurd (omega (arith, z))

bare_says : (names : FaceNaming) (w : WireExpr) → is_bare w ≡ true → said_of names w ≡ said_word.Empty
bare_says names w bare =
    let parts = and_parts (w.scope == 0) (length w.suffix == 0) bare in
    none_says names w.mapping w.scope w.suffix (eqb-true _ _ parts.0) (eqb-true _ _ parts.1)

reply_says : (names : FaceNaming) (r : Response) (o : Option (List ℕ)) → said_of names (reply_by o r) ≡ cond (is_bare_error r) said_word.Empty (said_of names (entered_by o r.wire))
reply_says names r o = by (is_bare_error r) refl o
  where
    by : (b : Bool) → is_bare_error r ≡ b → (o : Option (List ℕ)) → said_of names (reply_by o r) ≡ cond b said_word.Empty (said_of names (entered_by o r.wire))
    by true e None = bare_says names r.wire ((and_parts (is_error r.payload) (is_bare r.wire) e).1)
    by true e (Some n) = ap (λ b. said_of names (cond b r (record r { wire = entered n r.wire })).wire) e ∙ bare_says names r.wire ((and_parts (is_error r.payload) (is_bare r.wire) e).1)
    by false e None = refl
    by false e (Some n) = ap (λ b. said_of names (cond b r (record r { wire = entered n r.wire })).wire) e

pub says_promise : (s : State) → ArePlain s.gates → SaysPromise s
says_promise s plain = record {
  writes = λ face w. says_at s face w (space_of (gate_at face.0 s.gates)) refl (plain face.0);
  asks = λ face r free. asks_free (denied_by (gate_at face.0 s.gates)) (said face r.wire s) (λ text says bars. free (text, says, bars));
  replies = λ face r. reply_says (face_naming face.0 s.names) r (space_of (gate_at face.0 s.gates));
}
