use Rattle.std.proofs.Common.{◌≡◌, ◌+◌, ◌++◌, ℕ, List, [], ◌∷◌, eqb, true, false, get_or, take, append_assoc, sym, subst, ap, ◌∙◌, arith, suc}
use Rattle.std.proofs.lemmas.Bool.Decides.{nat_tests}
use Rattle.std.proofs.lemmas.List.{append-nil}
use Rattle.zq_names.specs.Texts.{heads_to}
use Rattle.zq_names.specs.Coming.{coming}
use Rattle.zq_names.proofs.edit.pieces.Goals as goal
use Rattle.zq_names.proofs.edit.pieces.Goals.{then-bytes-k-eq47+in_ok-cut+in_ok-add_piece, else-bytes-k-eq47}

one_more : (t : List ℕ) (k from : ℕ) (made : List (List ℕ)) → heads_to t from ++ made ≡ heads_to t k → get_or t k 0 ≡ 47 → heads_to t from ++ (made ++ take k t ∷ []) ≡ heads_to t (k + 1)
one_more t k from made same slash =
    let is : eqb (get_or t k 0) 47 ≡ true = grind (arith, nat_tests) in
    let shape : heads_to t (suc k) ≡ heads_to t k ++ take k t ∷ [] = rw is in
    let H : ℕ → Type 0 = λ (n : ℕ). heads_to t from ++ (made ++ take k t ∷ []) ≡ heads_to t n in
    subst H {x = suc k} {y = k + 1} (omega arith) (sym (append_assoc (heads_to t from) made (take k t ∷ [])) ∙ ap (λ (l : List (List ℕ)). l ++ take k t ∷ []) same ∙ sym shape)

none_more : (t : List ℕ) (k from : ℕ) (made : List (List ℕ)) → heads_to t from ++ made ≡ heads_to t k → (get_or t k 0 ≡ 47 → ⊥) → heads_to t from ++ made ≡ heads_to t (k + 1)
none_more t k from made same slash =
    let is : eqb (get_or t k 0) 47 ≡ false = grind (arith, nat_tests) in
    let shape : heads_to t (suc k) ≡ heads_to t k ++ [] = rw is in
    let H : ℕ → Type 0 = λ (n : ℕ). heads_to t from ++ made ≡ heads_to t n in
    subst H {x = suc k} {y = k + 1} (omega arith) (same ∙ sym (append-nil (heads_to t k)) ∙ sym shape)

pub loop-k-preserved : goal.loop-k-preserved
loop-k-preserved c = elim c.if-bytes-k-eq47.branch [
  | then-bytes-k-eq47+in_ok-cut+in_ok-add_piece w ↦
      let slash : get_or c.args.text.now c.loop-k.k 0 ≡ 47 = ap (λ (l : List ℕ). get_or l c.loop-k.k 0) (sym c.as_bytes-bytes.ensures.value) ∙ w.if-bytes-k-eq47.true in
      rw w.made-is (
        rw (w.in_ok-add_piece.ensures.texts, w.in_ok-cut.ensures, c.in_ok-whole.ensures) (one_more c.args.text.now c.loop-k.k c.args.from (coming c.loop-k.made.items) c.loop-k.invariant.0 slash),
        w.in_ok-add_piece.ensures.bare c.loop-k.invariant.1,
      )
  | else-bytes-k-eq47 w ↦
      let slash : get_or c.args.text.now c.loop-k.k 0 ≡ 47 → ⊥ = λ is. w.if-bytes-k-eq47.false (ap (λ (l : List ℕ). get_or l c.loop-k.k 0) c.as_bytes-bytes.ensures.value ∙ is) in
      rw w.made-is (none_more c.args.text.now c.loop-k.k c.args.from (coming c.loop-k.made.items) c.loop-k.invariant.0 slash, c.loop-k.invariant.1)
]
