-- Bytes that are cut from the left, and their pieces.
use Rattle.std.proofs.Common.{◌≡◌, ℕ, ◌+◌, List, [], ◌∷◌, ◌++◌, Option, Some, None, refl, ap, ◌∙◌, sym, arith, length, take, drop, Bool, true, false, append_assoc}
use Rattle.std.proofs.lemmas.Grind.{common_steps}
use Rattle.std.specs.Prelude.{◌==◌, unwrap_or}
use Rattle.zq_io.proofs.Back.{len_end}
use Rattle.zq_io.specs.Words.{◌>>=◌, len_to, after_cut, cut, pieces, put_all, lacks}

pub after_none : (f g rest : List ℕ) → after_cut f rest ≡ None → after_cut g rest ≡ None
after_none f g [] e = refl
after_none f g (b ∷ bs) e = cc

pub some_left : (a b c d : List ℕ) → ◌≡◌ {A = Option (List ℕ × List ℕ)} (Some (a, b)) (Some (c, d)) → a ≡ c
some_left a b c d e = ap (λ o. (unwrap_or {T = List ℕ × List ℕ} o (a, b)).0) e

pub some_right : (a b c d : List ℕ) → ◌≡◌ {A = Option (List ℕ × List ℕ)} (Some (a, b)) (Some (c, d)) → b ≡ d
some_right a b c d e = ap (λ o. (unwrap_or {T = List ℕ × List ℕ} o (a, b)).1) e

pub record More (b : ℕ) (front rest f back : List ℕ) : Type 0 where
  pub inner : List ℕ
  pub is : f ≡ b ∷ inner
  pub cut_on : after_cut front rest ≡ Some (inner, back)

pub after_more : (b : ℕ) (front rest f back : List ℕ) → after_cut (b ∷ front) rest ≡ Some (f, back) → More b front rest f back
after_more b front [] f back e = absurd (cc)
after_more b front (c ∷ rest) f back e = record { inner = front; is = sym (some_left _ _ _ _ e); cut_on = ap (λ x. Some (front, x)) (some_right _ _ _ _ e) }

take_one : (n b : ℕ) (bs : List ℕ) → take (1 + n) (b ∷ bs) ≡ b ∷ take n bs
take_one n b bs = grind (arith, common_steps)

drop_one : (n b : ℕ) (bs : List ℕ) → drop (1 + n) (b ∷ bs) ≡ drop n bs
drop_one n b bs = grind (arith, common_steps)

pub cut_next : (byte b : ℕ) (bs : List ℕ) → (b == byte) ≡ false → cut byte (b ∷ bs) ≡ after_cut (b ∷ take (len_to byte bs) bs) (drop (len_to byte bs) bs)
cut_next byte b bs e = rw (e, take_one (len_to byte bs) b bs, drop_one (len_to byte bs) b bs) refl

-- by whether the first byte is the one
pieces_by : (t : Bool) (byte b : ℕ) (bs front back : List ℕ) → (b == byte) ≡ t → ((f : List ℕ) → cut byte bs ≡ Some (f, back) → pieces byte bs ≡ f ∷ pieces byte back) → cut byte (b ∷ bs) ≡ Some (front, back) → pieces byte (b ∷ bs) ≡ front ∷ pieces byte back
pieces_by true byte b bs front back e more h =
    let k : ◌≡◌ {A = Option (List ℕ × List ℕ)} (Some ([], bs)) (Some (front, back)) = rw e at h in
    rw (e, ← some_left _ _ _ _ k, ← some_right _ _ _ _ k) refl
pieces_by false byte b bs front back e more h =
    let k : after_cut (b ∷ take (len_to byte bs) bs) (drop (len_to byte bs) bs) ≡ Some (front, back) = sym (cut_next byte b bs e) ∙ h in
    let m = after_more _ _ _ _ _ k in
    rw (e, more m.inner m.cut_on) (ap (λ f. f ∷ pieces byte back) (sym m.is))

pub pieces_cut : (byte : ℕ) (bytes front back : List ℕ) → cut byte bytes ≡ Some (front, back) → pieces byte bytes ≡ front ∷ pieces byte back
pieces_cut byte [] front back h = absurd (cc)
pieces_cut byte (b ∷ bs) front back h = pieces_by (b == byte) byte b bs front back refl (λ f k. pieces_cut byte bs f back k) h

whole_by : (t : Bool) (byte b : ℕ) (bs : List ℕ) → (b == byte) ≡ t → (cut byte bs ≡ None → pieces byte bs ≡ bs ∷ []) → cut byte (b ∷ bs) ≡ None → pieces byte (b ∷ bs) ≡ (b ∷ bs) ∷ []
whole_by true byte b bs e more h =
    let k : ◌≡◌ {A = Option (List ℕ × List ℕ)} (Some ([], bs)) None = rw e at h in
    absurd (cc)
whole_by false byte b bs e more h =
    let k : after_cut (b ∷ take (len_to byte bs) bs) (drop (len_to byte bs) bs) ≡ None = sym (cut_next byte b bs e) ∙ h in
    rw (e, more (after_none _ _ _ k)) refl

pub pieces_whole : (byte : ℕ) (bytes : List ℕ) → cut byte bytes ≡ None → pieces byte bytes ≡ bytes ∷ []
pieces_whole byte [] h = refl
pieces_whole byte (b ∷ bs) h = whole_by (b == byte) byte b bs refl (λ k. pieces_whole byte bs k) h

pub put_step : {X : Type 0} (xs : List X) (x : X) (o : Option (List X)) → put_all (xs ++ x ∷ []) o ≡ put_all xs (o >>= (λ ys. Some (x ∷ ys)))
put_step xs x None = refl
put_step xs x (Some ys) = ap Some (append_assoc xs (x ∷ []) ys)

drop_all : (n : ℕ) (bs : List ℕ) → n ≡ length bs → drop n bs ≡ []
drop_all n bs e = grind (arith, common_steps)

-- where no such byte stands, nothing is cut
pub cut_whole : (byte : ℕ) (w : List ℕ) → lacks byte w ≡ true → cut byte w ≡ None
cut_whole byte w e = rw (drop_all _ w (len_end byte w e)) refl
