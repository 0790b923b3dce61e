-- What is left of a text's front behind a plain prefix.
use Rattle.std.proofs.Common.{◌≡◌, ◌∙◌, refl, sym, ap, ℕ, true, false, cond, List, [], ◌∷◌, ◌++◌, Option, Some, None, inl, inr, append-nil}
use Rattle.std.specs.List.{join_with_byte, list_all}
use Rattle.std.proofs.lemmas.Bool.{and_parts}
use Rattle.std.proofs.lemmas.List.Splits.{join_with_byte-slice_split}
use Rattle.std.proofs.lemmas.Option.{same_Some}
use Rattle.zq_key.specs.Key.{chunks, chunk_meets, is_key, is_plain, is_plain_chunk, is_stars}
use Rattle.zq_key.specs.Space.{behind, strip, strip_chunks}
use Rattle.zq_key.proofs.Behind.{chunks-behind, key-behind, strip-behind}
use Rattle.zq_key.proofs.Plain.{chunk_facts, plain-all, plain-chunk_meets, plain-stars}
use Rattle.zq_key.proofs.Within.{left_chunks}
use Rattle.std.proofs.lemmas.Slice.Eq.{bytes_eq-Decides}
use Rattle.zq_moved.proofs.Lower.{IsFrontOf}

-- what is left of a text behind a prefix, where it is a key
abbrev pub leaving : List ℕ → List ℕ → Option (List ℕ)
leaving n x = cond (is_key x) (strip n x) None

module _ (n : List ℕ) (plain : is_plain n ≡ true) where
  -- texts behind a prefix are the same where all is
  pub behind_one : (a b : List ℕ) → behind n a ≡ behind n b → a ≡ b
  behind_one a b e = same_Some _ _ (sym (strip-behind n a plain) ∙ ap (strip n) e ∙ strip-behind n b plain)

  pub leaves_behind : (t : List ℕ) → is_key t ≡ true → leaving n (behind n t) ≡ Some t
  leaves_behind t key = ap (λ b. cond b (strip n (behind n t)) None) (key-behind n t plain ∙ key) ∙ strip-behind n t plain

front_chunks : (n k r c rest : List (List ℕ)) → list_all is_plain_chunk n ≡ true → k ++ rest ≡ n ++ c → strip_chunks n k ≡ Some r → k ≡ n ++ r
front_chunks n [] r c rest h same e = absurd (cc)
front_chunks [] (y ∷ k) r c rest h same e = same_Some _ _ e
front_chunks (x ∷ n) (y ∷ k) r c rest h same e =
    let p = and_parts (is_plain_chunk x) (list_all is_plain_chunk n) h in
    let first : y ≡ x = cc in
    let later : k ++ rest ≡ n ++ c = cc in
    let meets : chunk_meets x y ≡ true = ap (chunk_meets x) first ∙ plain-chunk_meets x x p.0 p.0 ∙ (bytes_eq-Decides x x).1 refl in
    let tame : is_stars y ≡ false = ap is_stars first ∙ plain-stars x (chunk_facts x p.0).1 in
    let left : strip_chunks n k ≡ Some r = sym (ap (λ b. cond b (Some (y ∷ k)) (cond (chunk_meets x y) (strip_chunks n k) None)) tame ∙ ap (λ b. cond b (strip_chunks n k) None) meets) ∙ e in
    (λ j. first j ∷ front_chunks n k r c rest p.1 later left j)

rejoined : (x y : List ℕ) → chunks x ≡ chunks y → x ≡ y
rejoined x y e = sym (join_with_byte-slice_split 47 x) ∙ ap (join_with_byte 47) e ∙ join_with_byte-slice_split 47 y

front_rest : (n t x : List ℕ) → IsFrontOf x (behind n t) → (rest : List (List ℕ)) × (chunks x ++ rest ≡ chunks n ++ chunks t)
front_rest n t x (inl same) = ([], append-nil (chunks x) ∙ ap chunks same ∙ chunks-behind n t)
front_rest n t x (inr (rest, cut)) = (chunks rest, sym (chunks-behind x rest) ∙ ap chunks (sym cut) ∙ chunks-behind n t)

-- what is left of a front of a text behind the prefix is what follows the prefix
pub front_left : (n t x p : List ℕ) → is_plain n ≡ true → IsFrontOf x (behind n t) → strip n x ≡ Some p → x ≡ behind n p
front_left n t x p plain front e =
    let r = front_rest n t x front in
    rejoined x (behind n p) (front_chunks (chunks n) (chunks x) (chunks p) (chunks t) r.0 (plain-all n plain) r.1 (left_chunks n x p e) ∙ sym (chunks-behind n p))
