-- What follows where the key that is chosen for a text has a new id.
use Rattle.std.proofs.Common.{◌≡◌, ℕ, ◌<◌, Bool, true, false, List, [], ◌∷◌, ◌++◌, length, take, drop, get_or, Option, Some, None, unwrap_or, sym, ap, subst, ◌∙◌, refl, arith, append_assoc, inl, inr, ◌⊎◌}
use Rattle.std.specs.List.{position}
use Rattle.std.specs.Str.{IsCharBoundary}
use Rattle.std.proofs.Math.Seq.{get_or-append_seam}
use Rattle.std.proofs.lemmas.List.{length-append, take-append-drop}
use Rattle.std.proofs.lemmas.Str.{IsCharBoundary-before_ascii, IsCharBoundary-end}
use Rattle.std.proofs.lemmas.Option.{none-some}
use Rattle.zq_message.specs.declared.message.Mapping.{Mapping}
use Rattle.zq_key.specs.Key.{is_key}
use Rattle.zq_names.specs.Texts.{cut_at_star, is_star_byte, nonwild, parent_of}
use Rattle.zq_names.proofs.Cleaning.{parent_cases}
use Rattle.zq_names.proofs.Fronts.{key_before}
use Rattle.zq_tables.specs.FaceIds.{next_id}
use Rattle.zq_tables.specs.FaceTexts.{FaceTexts, declared_key, known, known_choice, new_choice, prefix_key, whole_key}

-- the id is the least free one, and is for a part that is not empty
pub record IsNew (face : FaceTexts) (t : List ℕ) (id : ℕ) : Type 0 where
  pub next : next_id face.theirs face.ours ≡ Some id
  pub part : 0 < length (nonwild t)

new_choice_is : (rest t : List ℕ) (o : Option ℕ) (id : ℕ) → (unwrap_or (new_choice rest o) (whole_key t)).declared ≡ Some id → o ≡ Some id
new_choice_is rest t None id is = absurd (none-some id is)
new_choice_is rest t (Some i) id is = is

known_choice_is : (face : FaceTexts) (may : Bool) (rest t : List ℕ) (o : Option (ℕ × Mapping)) (id : ℕ) → (unwrap_or (known_choice face may rest o) (whole_key t)).declared ≡ Some id → next_id face.theirs face.ours ≡ Some id
known_choice_is face may rest t (Some x) id is = absurd (none-some id is)
known_choice_is face true rest t None id is = new_choice_is rest t (next_id face.theirs face.ours) id is
known_choice_is face false rest t None id is = absurd (none-some id is)

prefix_is : (face : FaceTexts) (may : Bool) (t p : List ℕ) (id : ℕ) → (prefix_key face may t p).declared ≡ Some id → (next_id face.theirs face.ours ≡ Some id) × (0 < length p)
prefix_is face may t [] id is = absurd (none-some id is)
prefix_is face may t (c ∷ p) id is = (known_choice_is face may (drop (length (c ∷ p)) t) t (known face (c ∷ p)) id is, omega arith)

pub new_is : (face : FaceTexts) (local may : Bool) (t : List ℕ) (id : ℕ) → (declared_key face local may t).declared ≡ Some id → IsNew face t id
new_is face true may t id is = absurd (none-some id is)
new_is face false may t id is = let new = prefix_is face may t (nonwild t) id is in record { next = new.0; part = new.1 }

-- ---- what stands before the first chunk with a `*`

-- it is cut off before a `/`, if there is such a chunk
pub record IsCut (t part : List ℕ) : Type 0 where
  pub rest : List ℕ
  pub is : t ≡ part ++ 47 ∷ rest

before_star : (t : List ℕ) (k : ℕ) → 0 < length (parent_of (take k t)) → IsCut t (parent_of (take k t))
before_star t k some = elim (parent_cases (take k t) (length (take k t)) (omega arith)) [
  | inl none ↦ absurd (omega (arith, some, ap length none))
  | inr (below, shorter) ↦
      let part = parent_of (take k t) in
      record { rest = below.0 ++ drop k t; is = sym (take-append-drop k t) ∙ ap (λ (x : List ℕ). x ++ drop k t) below.1 ∙ append_assoc part (47 ∷ below.0) (drop k t) }
]

nonwild_cases : (t : List ℕ) → 0 < length (nonwild t) → (nonwild t ≡ t) ⊎ IsCut t (nonwild t)
nonwild_cases t some = by (position is_star_byte t) some
  where
    by : (o : Option ℕ) → 0 < length (cut_at_star t o) → (cut_at_star t o ≡ t) ⊎ IsCut t (cut_at_star t o)
    by None some = inl refl
    by (Some k) some = inr (before_star t k some)

-- of a key it is empty or a key
pub nonwild_key : (t : List ℕ) → is_key t ≡ true → 0 < length (nonwild t) → is_key (nonwild t) ≡ true
nonwild_key t key some =
    let K : List ℕ → Type 0 = λ (x : List ℕ). is_key x ≡ true in
    elim (nonwild_cases t some) [
      | inl same ↦ subst K (sym same) key
      | inr cut ↦ key_before (nonwild t) cut.rest (subst K cut.is key)
    ]

at_cut : (t part : List ℕ) → IsCut t part → IsCharBoundary t (length part)
at_cut t part cut =
    let slash : get_or t (length part) 0 ≡ 47 = rw cut.is (get_or-append_seam part 47 cut.rest 0) in
    IsCharBoundary-before_ascii t (length part) (omega (arith, ap length cut.is, length-append part (47 ∷ cut.rest))) (omega (arith, slash))

-- and the text may be cut there
pub nonwild_boundary : (t : List ℕ) → 0 < length (nonwild t) → IsCharBoundary t (length (nonwild t))
nonwild_boundary t some = elim (nonwild_cases t some) [
  | inl same ↦
      let B : List ℕ → Type 0 = λ (x : List ℕ). IsCharBoundary t (length x) in
      subst B (sym same) (IsCharBoundary-end t)
  | inr cut ↦ at_cut t (nonwild t) cut
]
