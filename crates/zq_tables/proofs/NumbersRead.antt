-- What is written for a text is read as that text.
use Rattle.std.proofs.Common.{◌≡◌, ℕ, zero, suc, Bool, true, false, cond, List, [], ◌∷◌, length, take, Option, Some, None, option_map, refl, sym, ap, ◌∙◌, Result, Ok, Err, IfOk, subst}
use Rattle.std.specs.Prelude.{find, not, ◌==◌, slice_index}
use Rattle.std.specs.Map.{keys_of}
use Rattle.std.proofs.lemmas.Bool.{false≢true, and_parts, not-true}
use Rattle.std.proofs.lemmas.Slice.Eq.{bytes_eq-Decides}
use Rattle.std.proofs.lemmas.List.{take-append-drop}
use Rattle.zq_message.specs.declared.message.Mapping.{Mapping}
use Rattle.zq_message.specs.declared.message.Mapping.TheVariants as mapping
use Rattle.zq_message.specs.declared.message.WireExpr.{WireExpr}
use Rattle.zq_message.specs.declared.memory.OutOfMemory.{OutOfMemory}
use Rattle.zq_tables.specs.FaceIds.{of_id}
use Rattle.zq_tables.specs.FaceTexts as face
use Rattle.zq_tables.specs.FaceTexts.{FaceTexts, or_else, text_side, swapped, is_text, names_text, least_name, known, known_at, tagged, best_to, best_part, best_key, key_from}

find-passes : {X : Type 0} (p : X → Bool) (xs : List X) (x : X) → find p xs ≡ Some x → p x ≡ true
find-passes p [] x h = absurd (cc)
find-passes p (y ∷ xs) x h = at (p y) refl h (find-passes p xs x)
  where
    at : (b : Bool) → p y ≡ b → cond b (Some y) (find p xs) ≡ Some x → (find p xs ≡ Some x → p x ≡ true) → p x ≡ true
    at true k e more = let same : y ≡ x = cc in ap p (sym same) ∙ k
    at false k e more = more e

text-is : (text : List ℕ) (o : Option (List ℕ)) → is_text text o ≡ true → o ≡ Some text
text-is text None h = absurd (false≢true h)
text-is text (Some t) h = ap Some ((bytes_eq-Decides t text).0 h)

module _ (n : FaceTexts) (text : List ℕ) where
  -- the part in front of the cut reads as itself, so that the whole reads as the text
  pub record Cuts (p : ℕ × Mapping × ℕ) : Type 0 where
    pub number : (p.0 == 0) ≡ false
    pub stands : of_id (text_side (swapped n) p.1) p.0 ≡ Some (take p.2 text)

  named : (side : Mapping) (id k : ℕ) → least_name (take k text) (text_side (swapped n) side) ≡ Some id → Cuts (id, side, k)
  named side id k h =
      let names = text_side (swapped n) side in
      let q = and_parts (not (id == 0)) (is_text (take k text) (of_id names id)) (find-passes (names_text names (take k text)) (keys_of names) id h) in
      record { number = not-true (id == 0) q.0; stands = text-is (take k text) (of_id names id) q.1 }

  known-cuts : (k : ℕ) (p : ℕ × Mapping × ℕ) → known_at n text k ≡ Some p → Cuts p
  known-cuts k p h = first (least_name (take k text) n.theirs) refl (least_name (take k text) n.ours) refl h
    where
      is : (q : ℕ × Mapping × ℕ) → Some q ≡ Some p → Cuts q → Cuts p
      is q e c = let same : q ≡ p = cc in subst Cuts same c

      first : (a : Option ℕ) → least_name (take k text) n.theirs ≡ a → (b : Option ℕ) → least_name (take k text) n.ours ≡ b → option_map (λ (x : ℕ × Mapping). (x.0, x.1, k)) (or_else (tagged mapping.Receiver a) (tagged mapping.Sender b)) ≡ Some p → Cuts p
      first (Some id) e b f g = is (id, mapping.Receiver, k) g (named mapping.Receiver id k e)
      first None e (Some id) f g = is (id, mapping.Sender, k) g (named mapping.Sender id k f)
      first None e None f g = absurd (cc)

  either-cuts : (k : ℕ) (p : ℕ × Mapping × ℕ) (rest : Option (ℕ × Mapping × ℕ)) → or_else (known_at n text k) rest ≡ Some p → (rest ≡ Some p → Cuts p) → Cuts p
  either-cuts k p rest h more = by (known_at n text k) refl h
    where
      by : (a : Option (ℕ × Mapping × ℕ)) → known_at n text k ≡ a → or_else a rest ≡ Some p → Cuts p
      by (Some q) e g = known-cuts k p (e ∙ g)
      by None e g = more g

  before-cuts : (k : ℕ) (p : ℕ × Mapping × ℕ) → best_to n text k ≡ Some p → Cuts p
  before-cuts zero p h = absurd (cc)
  before-cuts (suc k) p h = at (slice_index text k == 47) h (before-cuts k p)
    where
      at : (b : Bool) → cond b (or_else (known_at n text k) (best_to n text k)) (best_to n text k) ≡ Some p → (best_to n text k ≡ Some p → Cuts p) → Cuts p
      at true g more = either-cuts k p (best_to n text k) g more
      at false g more = more g

  pub part-cuts : (p : ℕ × Mapping × ℕ) → best_part n text ≡ Some p → Cuts p
  part-cuts p h = either-cuts (length text) p (best_to n text (length text)) h (before-cuts (length text) p)

-- ---- by the ids of a face

-- the best key of a text is read as that text
pub best_key-reads : (n : FaceTexts) (text : List ℕ) → face.read_by n (best_key n text) ≡ Some text
best_key-reads n text = by (best_part n text) refl
  where
    by : (o : Option (ℕ × Mapping × ℕ)) → best_part n text ≡ o → face.read_by n (key_from o text) ≡ Some text
    by None is = refl
    by (Some p) is =
        let c = part-cuts n text p is in
        rw (c.number, c.stands) (ap (λ (x : List ℕ). Some x) (take-append-drop p.2 text))

-- the same of an answer
pub answer_read : (n : FaceTexts) (text : List ℕ) (r : Result WireExpr OutOfMemory) → IfOk r (λ w. w ≡ best_key n text) → IfOk r (λ w. face.read_by n w ≡ Some text)
answer_read n text (Ok w) e = ap (face.read_by n) e ∙ best_key-reads n text
answer_read n text (Err e) k = tt
