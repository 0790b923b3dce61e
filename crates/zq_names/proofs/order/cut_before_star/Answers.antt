use Rattle.std.proofs.Common.{◌≡◌, ℕ, ◌<◌, List, Option, Some, None, length, take, get_or, sym, ap, ◌∙◌, arith}
use Rattle.std.specs.List.{position}
use Rattle.std.proofs.lemmas.List.{length-take-le, get_or-take, take-take}
use Rattle.std.proofs.lemmas.List.Quantifiers.{position-Some}
use Rattle.std.proofs.lemmas.Str.{IsCharBoundary-before_ascii, IsCharBoundary-start}
use Rattle.zq_names.specs.Texts.{parent_of, is_star_byte, cut_at_star, IsCutBefore}
use Rattle.zq_names.proofs.order.cut_before_star.Goals as goal

star_there : (t bytes : List ℕ) (r : Option ℕ) (k : ℕ) → bytes ≡ t → r ≡ position is_star_byte bytes → r ≡ Some k → position is_star_byte t ≡ Some k
star_there t bytes r k same is found = ap (position is_star_byte) (sym same) ∙ sym is ∙ found

cut_there : (t : List ℕ) (star k : ℕ) → position is_star_byte t ≡ Some star → k < length (take star t) → get_or (take star t) k 0 ≡ 47 → parent_of (take star t) ≡ take k (take star t) → IsCutBefore t k
cut_there t star k found lt slash parent =
    let at = position-Some is_star_byte t star 0 found in
    let n = length-take-le star t (omega (arith, at.0)) in
    let here : get_or t k 0 ≡ 47 = sym (get_or-take star t k 0 (omega (arith, n, lt))) ∙ slash in
    record {
      in_range = omega (arith, n, lt, at.0);
      boundary = IsCharBoundary-before_ascii t k (omega (arith, n, lt, at.0)) (omega (arith, here));
      slash = λ _. here;
      is = ap (cut_at_star t) found ∙ parent ∙ take-take k star t (omega (arith, n, lt));
    }

pub returns-in_err-star-clause-none : goal.returns-in_err-star-clause-none
returns-in_err-star-clause-none c =
    let t = c.args.text.now in
    let none : position is_star_byte t ≡ None = ap (position is_star_byte) (sym c.as_bytes-bytes.ensures.value) ∙ sym c.first_star.ensures ∙ c.in_err-star.was in
    rw c.from_residual.ensures (ap (cut_at_star t) none)

pub returns-in-Some-clause-cut : goal.returns-in-Some-clause-cut
returns-in-Some-clause-cut c =
    let t = c.args.text.now in
    let star = c.in_ok-star.star in
    let found = star_there t c.as_bytes-bytes.result.now c.first_star.result star c.as_bytes-bytes.ensures.value c.first_star.ensures c.in_ok-star.was in
    let same : take star c.as_bytes-bytes.result.now ≡ take star t = ap (take star) c.as_bytes-bytes.ensures.value in
    let last = rw same at c.in-Some.ensures.found in
    cut_there t star c.in-Some.k found last.0 last.1 last.2

pub returns-in-None-clause-cut : goal.returns-in-None-clause-cut
returns-in-None-clause-cut c =
    let t = c.args.text.now in
    let star = c.in_ok-star.star in
    let found = star_there t c.as_bytes-bytes.result.now c.first_star.result star c.as_bytes-bytes.ensures.value c.first_star.ensures c.in_ok-star.was in
    let at = position-Some is_star_byte t star 0 found in
    record {
      in_range = omega (arith, at.0);
      boundary = IsCharBoundary-start t c.utf8.text;
      slash = λ lt. absurd (omega (arith, lt));
      is = ap (cut_at_star t) found ∙ ap (λ (b : List ℕ). parent_of (take star b)) (sym c.as_bytes-bytes.ensures.value) ∙ c.in-None.ensures.none;
    }
