-- Lines from the left.
use Rattle.std.proofs.Common.{◌≡◌, ℕ, ◌<◌, List, [], ◌∷◌, Option, Some, None, refl, ap, ◌∙◌, sym, arith, length, take, drop, Bool, true, false}
use Rattle.std.proofs.lemmas.Grind.{common_steps}
use Rattle.std.specs.Prelude.{◌==◌}
use Rattle.zq_io.specs.Words.{len_to, after_cut, cut}
use Rattle.zq_io.proofs.Split.{cut_next, after_more, after_none, some_left, some_right}
use Rattle.zq_lines.specs.Split.{lines_of}

lines_by : (t : Bool) (b : ℕ) (bs front back : List ℕ) → (b == 10) ≡ t → ((f : List ℕ) → cut 10 bs ≡ Some (f, back) → lines_of bs ≡ f ∷ lines_of back) → cut 10 (b ∷ bs) ≡ Some (front, back) → lines_of (b ∷ bs) ≡ front ∷ lines_of back
lines_by true b bs front back e more h =
    let k : ◌≡◌ {A = Option (List ℕ × List ℕ)} (Some ([], bs)) (Some (front, back)) = rw e at h in
    rw (e, ← some_left _ _ _ _ k, ← some_right _ _ _ _ k) refl
lines_by false b bs front back e more h =
    let k : after_cut (b ∷ take (len_to 10 bs) bs) (drop (len_to 10 bs) bs) ≡ Some (front, back) = sym (cut_next 10 b bs e) ∙ h in
    let m = after_more _ _ _ _ _ k in
    rw (e, more m.inner m.cut_on) (ap (λ f. f ∷ lines_of back) (sym m.is))

pub lines_cut : (bytes front back : List ℕ) → cut 10 bytes ≡ Some (front, back) → lines_of bytes ≡ front ∷ lines_of back
lines_cut [] front back h = absurd (cc)
lines_cut (b ∷ bs) front back h = lines_by (b == 10) b bs front back refl (λ f k. lines_cut bs f back k) h

whole_by : (t : Bool) (b : ℕ) (bs : List ℕ) → (b == 10) ≡ t → (0 < length bs → cut 10 bs ≡ None → lines_of bs ≡ bs ∷ []) → cut 10 (b ∷ bs) ≡ None → lines_of (b ∷ bs) ≡ (b ∷ bs) ∷ []
whole_by true b bs e more h =
    let k : ◌≡◌ {A = Option (List ℕ × List ℕ)} (Some ([], bs)) None = rw e at h in
    absurd (cc)
whole_by false b [] e more h = rw e refl
whole_by false b (c ∷ bs) e more h =
    let k : after_cut (b ∷ take (len_to 10 (c ∷ bs)) (c ∷ bs)) (drop (len_to 10 (c ∷ bs)) (c ∷ bs)) ≡ None = sym (cut_next 10 b (c ∷ bs) e) ∙ h in
    rw (e, more (omega arith) (after_none _ _ _ k)) refl

pub lines_whole : (bytes : List ℕ) → 0 < length bytes → cut 10 bytes ≡ None → lines_of bytes ≡ bytes ∷ []
lines_whole [] n h = absurd (omega arith)
lines_whole (b ∷ bs) n h = whole_by (b == 10) b bs refl (λ m k. lines_whole bs m k) h

take_whole : (bs : List ℕ) → take (length bs) bs ≡ bs
take_whole bs = grind (arith, common_steps)

drop_whole : (bs : List ℕ) → drop (length bs) bs ≡ []
drop_whole bs = grind (arith, common_steps)

-- the last line, which lacks its newline
pub lines_last : (bytes : List ℕ) → 0 < length bytes → cut 10 bytes ≡ None → lines_of bytes ≡ take (length bytes) bytes ∷ lines_of (drop (length bytes) bytes)
lines_last bytes n h = rw (take_whole bytes, drop_whole bytes) (lines_whole bytes n h)
