-- What is left on a key after a declaration goes.
use Rattle.std.proofs.Common.{◌≡◌, ◌∙◌, Bool, true, false, cond, ℕ, List, [], ◌∷◌, ap, refl, length, true≢false, eqb-true, arith, sym, Some, None, Option}
use Rattle.std.specs.Prelude.{◌==◌}
use Rattle.std.specs.Option.{option_map_or, is_some}
use Rattle.std.specs.Map.{remove_entry, set_value}
use Rattle.std.specs.BTreeMap.{is_at}
use Rattle.std.specs.declared.cmp.Ordering.{Ordering}
use Rattle.zq_index.specs.Texts.{text_cmp, at_text}
use Rattle.zq_index.specs.Holders.{HeldBy, IndexBy, with_holdings, without_holding_by}

gone_by : {K X : Type 0} (test : K → Bool) (e : K × X) (es : List (K × X)) (w : X) (b : Bool) → test e.0 ≡ b → remove_entry test (set_value test es w) ≡ remove_entry test es
    → remove_entry test (cond b ((e.0, w) ∷ es) (e ∷ set_value test es w)) ≡ cond b es (e ∷ remove_entry test es)
gone_by test e es w true t ih = ap (λ b. cond b es ((e.0, w) ∷ remove_entry test es)) t
gone_by test e es w false t ih = ap (λ b. cond b (set_value test es w) (e ∷ remove_entry test (set_value test es w))) t ∙ ap (λ l. e ∷ l) ih

-- what was written over and then goes need not have been written
pub gone : {K X : Type 0} (test : K → Bool) (es : List (K × X)) (w : X) → remove_entry test (set_value test es w) ≡ remove_entry test es
gone test [] w = refl
gone test (e ∷ es) w = gone_by test e es w (test e.0) refl (gone test es w)

pub none_left : {P : Type 0} (key : List ℕ) (hs : HeldBy P) (index : IndexBy P) → (length hs == 0) ≡ true → with_holdings key hs index ≡ remove_entry (is_at (text_cmp key)) index
none_left key [] index e = refl
none_left key (h ∷ hs) index e = let none : length (h ∷ hs) ≡ 0 = eqb-true _ _ e in absurd (omega (arith, none))

pub some_left : {P : Type 0} (key : List ℕ) (hs : HeldBy P) (index : IndexBy P) → (length hs == 0) ≡ false → with_holdings key hs index ≡ set_value (is_at (text_cmp key)) index hs
some_left key [] index e = absurd (true≢false e)
some_left key (h ∷ hs) index e = refl

module _ {P : Type 0} (R : P → P → Ordering) where
  pub taken : (key : List ℕ) (p : P) (hs : HeldBy P) (index : IndexBy P) → at_text key index ≡ Some hs → without_holding_by R key p index ≡ with_holdings key (remove_entry (is_at (R p)) hs) index
  taken key p hs index is = ap (λ o. option_map_or (λ l. with_holdings key (remove_entry (is_at (R p)) l) index) o index) is

  module _ (key : List ℕ) (p : P) (index after : IndexBy P) (empty : Bool) where
    abbrev Says : Type 0
    Says = (hs : HeldBy P) → at_text key index ≡ Some hs
        → (empty ≡ (length (remove_entry (is_at (R p)) hs) == 0)) × (after ≡ set_value (is_at (text_cmp key)) index (remove_entry (is_at (R p)) hs))

    empty_by : (o : Option (HeldBy P)) → at_text key index ≡ o → is_some o ≡ true → Says → empty ≡ true → remove_entry (is_at (text_cmp key)) after ≡ without_holding_by R key p index
    empty_by None is some says e = absurd (true≢false (sym some))
    empty_by (Some hs) is some says e =
        let left = remove_entry (is_at (R p)) hs in
        let said = says hs is in
        ap (remove_entry (is_at (text_cmp key))) said.1
        ∙ gone (is_at (text_cmp key)) index left
        ∙ sym (none_left key left index (sym said.0 ∙ e))
        ∙ sym (taken key p hs index is)

    pub emptied : is_some (at_text key index) ≡ true → Says → empty ≡ true → remove_entry (is_at (text_cmp key)) after ≡ without_holding_by R key p index
    emptied some says e = empty_by (at_text key index) refl some says e

    some_by : (o : Option (HeldBy P)) → at_text key index ≡ o → is_some o ≡ true → Says → empty ≡ false → after ≡ without_holding_by R key p index
    some_by None is some says e = absurd (true≢false (sym some))
    some_by (Some hs) is some says e =
        let left = remove_entry (is_at (R p)) hs in
        let said = says hs is in
        said.1 ∙ sym (some_left key left index (sym said.0 ∙ e)) ∙ sym (taken key p hs index is)

    pub lessened : is_some (at_text key index) ≡ true → Says → empty ≡ false → after ≡ without_holding_by R key p index
    lessened some says e = some_by (at_text key index) refl some says e
