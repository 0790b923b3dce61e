-- Folds over entries of which one is changed, put in or taken out, where the fold does not notice.
use Rattle.std.proofs.Common.{◌≡◌, ◌∙◌, refl, sym, ap, ℕ, Bool, true, false, cond, List, [], ◌∷◌, fold, Some}
use Rattle.std.specs.BTreeMap.{insert_entry, is_at}
use Rattle.std.specs.Map.{remove_entry, set_value}
use Rattle.std.specs.Ordering.{is_eq, match_ordering, nat_cmp}
use Rattle.std.specs.declared.cmp.Ordering.{Ordering}
use Rattle.std.specs.declared.cmp.Ordering.TheVariants.{Less, Equal, Greater}
use Rattle.zq_strategy.specs.Kept.{at_id}
use Rattle.zq_machine.proofs.Changing.{one_number}

module _ {X B : Type 0} (step : B → ℕ × X → B) (k : ℕ) where
  -- an entry counts for nothing
  abbrev pub Idle : X → Type 0
  Idle x = (b : B) → step b (k, x) ≡ b

  -- the entries at the number count for nothing
  abbrev pub AreIdle : List (ℕ × X) → Type 0
  AreIdle es = (x : X) → at_id k es ≡ Some x → Idle x

  set_by : (e : ℕ × X) (es : List (ℕ × X)) (x y : X) (c : Bool) → is_at (nat_cmp k) e.0 ≡ c → cond c (Some e.1) (at_id k es) ≡ Some x → ((b : B) → step b (k, y) ≡ step b (k, x)) → (b : B)
      → (at_id k es ≡ Some x → (b : B) → fold step b (set_value (is_at (nat_cmp k)) es y) ≡ fold step b es)
      → fold step b (cond c ((e.0, y) ∷ es) (e ∷ set_value (is_at (nat_cmp k)) es y)) ≡ fold step b (e ∷ es)
  set_by e es x y true is at same b ih =
      let value : e.1 ≡ x = let both : Some e.1 ≡ Some x = at in cc in
      let key : k ≡ e.0 = one_number k e.0 is in
      let mine : step b (k, x) ≡ step b (e.0, e.1) = let v = sym value in λ i. step b (key i, v i) in
      ap (λ a. fold step a es) (ap (λ q. step b (q, y)) (sym key) ∙ same b ∙ mine)
  set_by e es x y false is at same b ih = ih at (step b e)

  -- an entry is changed
  pub fold_set : (es : List (ℕ × X)) (x y : X) → at_id k es ≡ Some x → ((b : B) → step b (k, y) ≡ step b (k, x)) → (b : B) → fold step b (set_value (is_at (nat_cmp k)) es y) ≡ fold step b es
  fold_set [] x y at same b = refl
  fold_set (e ∷ es) x y at same b = set_by e es x y (is_at (nat_cmp k) e.0) refl at same b (λ h a. fold_set es x y h same a)

  take_by : (e : ℕ × X) (es : List (ℕ × X)) (c : Bool) → is_at (nat_cmp k) e.0 ≡ c → ((x : X) → cond c (Some e.1) (at_id k es) ≡ Some x → Idle x) → (b : B)
      → (AreIdle es → (b : B) → fold step b (remove_entry (is_at (nat_cmp k)) es) ≡ fold step b es)
      → fold step b (cond c es (e ∷ remove_entry (is_at (nat_cmp k)) es)) ≡ fold step b (e ∷ es)
  take_by e es true is idle b ih = ap (λ a. fold step a es) (sym (idle e.1 refl b) ∙ ap (λ q. step b (q, e.1)) (one_number k e.0 is))
  take_by e es false is idle b ih = ih idle (step b e)

  -- an entry is taken out
  pub fold_take : (es : List (ℕ × X)) → AreIdle es → (b : B) → fold step b (remove_entry (is_at (nat_cmp k)) es) ≡ fold step b es
  fold_take [] idle b = refl
  fold_take (e ∷ es) idle b = take_by e es (is_at (nat_cmp k) e.0) refl idle b (λ h a. fold_take es h a)

  put_by : (v : X) (e : ℕ × X) (es : List (ℕ × X)) (r : Ordering) → nat_cmp k e.0 ≡ r → Idle v → ((x : X) → cond (is_eq r) (Some e.1) (at_id k es) ≡ Some x → Idle x) → (b : B)
      → (AreIdle es → (b : B) → fold step b (insert_entry nat_cmp es k v) ≡ fold step b es)
      → fold step b (match_ordering r ((k, v) ∷ e ∷ es) ((e.0, v) ∷ es) (e ∷ insert_entry nat_cmp es k v)) ≡ fold step b (e ∷ es)
  put_by v e es Less is new idle b ih = ap (λ a. fold step a (e ∷ es)) (new b)
  put_by v e es Equal is new idle b ih =
      let key : k ≡ e.0 = one_number k e.0 (ap is_eq is) in
      ap (λ a. fold step a es) (ap (λ q. step b (q, v)) (sym key) ∙ new b ∙ sym (idle e.1 refl b) ∙ ap (λ q. step b (q, e.1)) key)
  put_by v e es Greater is new idle b ih = ih idle (step b e)

  -- an entry is put in
  pub fold_put : (v : X) (es : List (ℕ × X)) → Idle v → AreIdle es → (b : B) → fold step b (insert_entry nat_cmp es k v) ≡ fold step b es
  fold_put v [] new idle b = new b
  fold_put v (e ∷ es) new idle b = put_by v e es (nat_cmp k e.0) refl new idle b (λ h a. fold_put v es new h a)
