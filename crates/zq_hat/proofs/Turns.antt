-- The calls of a hat keep its index tied.
use Rattle.std.proofs.Common.{◌≡◌, ℕ, true, false, refl, List, ap, ◌∙◌, Some, None, Option, sym, subst, true≢false, fold}
use Rattle.std.specs.Option.{is_some, option_map, option_map_or, option_and_then}
use Rattle.std.specs.Ordering.{nat_cmp}
use Rattle.std.specs.Map.{remove_entry, set_value}
use Rattle.std.specs.BTreeMap.{is_at}
use Rattle.zq_key.specs.Key.{is_key}
use Rattle.zq_message.specs.declared.message.QueryableInfoType.{QueryableInfoType}
use Rattle.zq_strategy.specs.declared.types.Declaration.{Declaration}
use Rattle.zq_strategy.specs.Kept.{at_id, is_apart, declare, withdraw, declaration}
use Rattle.zq_strategy.specs.State.{FaceState}
use Rattle.zq_index.specs.Holders.{Index, with_holding, without_holding}
use Rattle.zq_hat.specs.Tied.{info_on, declared_at, without_declared, IsTied}
use Rattle.zq_hat.proofs.Keeping.{declare_keeps, withdraw_keeps, forget_keeps, put_back}

module _ (faces : List (ℕ × FaceState)) (index : Index) (t : IsTied faces index) (n : ℕ) (fs : List (ℕ × FaceState)) (ix : Index) where
  module _ (key : List ℕ) (i : ℕ) (info : QueryableInfoType) where
    declare_by : (o : Option FaceState) → at_id n faces ≡ o → is_some o ≡ true → is_key key ≡ true → option_map_or (is_apart key) (option_and_then (declaration i) o) false ≡ false
        → ((f : FaceState) → at_id n faces ≡ Some f → fs ≡ set_value (is_at (nat_cmp n)) faces (declare i key info f)) → ix ≡ with_holding key (n, i) info index → IsTied fs ix
    declare_by None is some valid free says put = absurd (true≢false (sym some))
    declare_by (Some f) is some valid free says put =
        subst (λ x. IsTied fs x) (sym put) (subst (λ l. IsTied l (with_holding key (n, i) info index)) (sym (says f is)) (declare_keeps faces index t n f is key i info valid free))

    pub declare_tied : is_some (at_id n faces) ≡ true → is_key key ≡ true → option_map_or (is_apart key) (option_and_then (declaration i) (at_id n faces)) false ≡ false
        → ((f : FaceState) → at_id n faces ≡ Some f → fs ≡ set_value (is_at (nat_cmp n)) faces (declare i key info f)) → ix ≡ with_holding key (n, i) info index → IsTied fs ix
    declare_tied some valid free says put = declare_by (at_id n faces) refl some valid free says put

    absent_by : (o : Option FaceState) → at_id n faces ≡ o → ((f : FaceState) → at_id n faces ≡ Some f → declaration i f ≡ None) → option_and_then (λ f. option_and_then (info_on key) (declaration i f)) o ≡ None
    absent_by None is none = refl
    absent_by (Some f) is none = ap (option_and_then (info_on key)) (none f is)

    pub undone_tied : ((f : FaceState) → at_id n faces ≡ Some f → declaration i f ≡ None) → fs ≡ faces → ix ≡ without_holding key (n, i) (with_holding key (n, i) info index) → IsTied fs ix
    undone_tied none same undo =
        let absent : declared_at key (n, i) faces ≡ None = absent_by (at_id n faces) refl none in
        subst (λ x. IsTied fs x) (sym (undo ∙ put_back faces index t key (n, i) info absent)) (subst (λ l. IsTied l index) (sym same) t)

  module _ (key : List ℕ) (i : ℕ) where
    withdraw_from : (f : FaceState) (o : Option Declaration) → at_id n faces ≡ Some f → declaration i f ≡ o → option_map (λ d. d.key) o ≡ Some key
        → fs ≡ set_value (is_at (nat_cmp n)) faces (withdraw i f) → ix ≡ without_holding key (n, i) index → IsTied fs ix
    withdraw_from f None is there stands says take = absurd (let gap : None ≡ Some key = stands in cc)
    withdraw_from f (Some d) is there stands says take =
        let same : d.key ≡ key = let both : Some d.key ≡ Some key = stands in cc in
        subst (λ x. IsTied fs x) (sym take) (subst (λ l. IsTied l (without_holding key (n, i) index)) (sym says) (subst (λ k. IsTied (set_value (is_at (nat_cmp n)) faces (withdraw i f)) (without_holding k (n, i) index)) same (withdraw_keeps faces index t n f is i d there)))

    withdraw_by : (o : Option FaceState) → at_id n faces ≡ o → option_map (λ d. d.key) (option_and_then (declaration i) o) ≡ Some key
        → ((f : FaceState) → at_id n faces ≡ Some f → fs ≡ set_value (is_at (nat_cmp n)) faces (withdraw i f)) → ix ≡ without_holding key (n, i) index → IsTied fs ix
    withdraw_by None is stands says take = absurd (let gap : None ≡ Some key = stands in cc)
    withdraw_by (Some f) is stands says take = withdraw_from f (declaration i f) is refl stands (says f is) take

    pub withdraw_tied : option_map (λ d. d.key) (option_and_then (declaration i) (at_id n faces)) ≡ Some key
        → ((f : FaceState) → at_id n faces ≡ Some f → fs ≡ set_value (is_at (nat_cmp n)) faces (withdraw i f)) → ix ≡ without_holding key (n, i) index → IsTied fs ix
    withdraw_tied stands says take = withdraw_by (at_id n faces) refl stands says take

  pub forget_tied : (f : FaceState) → at_id n faces ≡ Some f → fs ≡ remove_entry (is_at (nat_cmp n)) faces → ix ≡ fold (without_declared n) index f.declared → IsTied fs ix
  forget_tied f is gone take = subst (λ x. IsTied fs x) (sym take) (subst (λ l. IsTied l (fold (without_declared n) index f.declared)) (sym gone) (forget_keeps faces index t n f is))
