-- A text's routes among those of all texts: what is found of it alone is what is found of it there.
use Rattle.std.proofs.Common.{◌≡◌, ◌∙◌, sym, ap, refl, ℕ, ◌≤◌, List, [], length, Some, None, Option, cond, Bool, true, false, true≢false}
use Rattle.std.specs.Prelude.{IfSome, slice_index}
use Rattle.std.specs.List.{All}
use Rattle.std.specs.Option.{is_some}
use Rattle.std.specs.BTreeMap.{is_at}
use Rattle.std.proofs.lemmas.List.Elements.{All-weaker}
use Rattle.std.proofs.lemmas.Map.Lookups.{exact_bytes}
use Rattle.zq_message.specs.declared.message.Region.{Region}
use Rattle.zq_message.specs.Region.{region_index}
use Rattle.zq_message.specs.RegionMap.{value_at}
use Rattle.zq_key.proofs.Lookups.{at_itself, either_way, same_key}
use Rattle.zq_index.specs.Texts.{at_text, text_cmp}
use Rattle.zq_index.proofs.Orders.{text_total}
use Rattle.zq_strategy.specs.declared.offer.QueryTargetQabl.{QueryTargetQabl}
use Rattle.zq_strategy.specs.Offers.{offers_of}
use Rattle.zq_strategy.specs.State.{HatState}
use Rattle.zq_machine.specs.Selecting.{AskerState}
use Rattle.zq_machine.specs.State.{hat_at}
use Rattle.zq_kept.specs.Current.{AreCurrent, IsKeptFor, Keeps, node_for}
use Rattle.zq_kept.specs.Table.{Fewer, IsTable, OfText, OtherTexts, Under, one_text, route_in, route_of, routes_to}

module _ {T : Type 0} (vs : List ℕ) (key : List ℕ) where
  -- what is found of a text's routes, where the text is the one that is looked for
  abbrev pub found_in : OfText T → Region → Region → ℕ → Bool → Option T
  found_in rs r s n b = route_in (slice_index vs (region_index r)) s n (routes_to r (cond b (Some rs) None))

  pub at_key : (rs : OfText T) (r : Region) (k : List ℕ) (s : Region) (n : ℕ) (b : Bool) → is_at (text_cmp key) k ≡ b → route_of r k s n (one_text vs key rs) ≡ found_in rs r s n b
  at_key rs r k s n b eb = ap (found_in rs r s n) (either_way text_total exact_bytes k key ∙ eb)

  -- ---- a text without routes
  empty_by : (r s : Region) (n : ℕ) (b : Bool) → found_in [] r s n b ≡ None
  empty_by r s n true = refl
  empty_by r s n false = refl

  pub empty_fewer : (es : List (List ℕ × OfText T)) → Fewer (vs, es) (one_text vs key [])
  empty_fewer es r k s n x is = absurd (let gap : None ≡ Some x = sym (empty_by r s n (is_at (text_cmp k) key)) ∙ is in cc)

  empty_below : (qs : OfText T) (r : Region) (us : Under T) (b : Bool) → cond b (Some []) None ≡ Some qs → value_at qs r ≡ Some us → us.0 ≤ slice_index vs (region_index r)
  empty_below qs r us true e is =
      let same : [] ≡ qs = (let both : Some [] ≡ Some qs = e in cc) in
      absurd (let gap : None ≡ Some us = ap (λ (x : OfText T). value_at x r) same ∙ is in cc)
  empty_below qs r us false e is = absurd (let gap : None ≡ Some qs = e in cc)

  pub empty_table : length vs ≡ 770 → IsTable (one_text {T = T} vs key [])
  empty_table all = record { all = all; below = λ k qs r us e is. empty_below qs r us _ e is }

  -- ---- a text that the table has
  module _ (es : List (List ℕ × OfText T)) (rs : OfText T) (there : at_text key es ≡ Some rs) where
    pub in_table : (r : Region) (k : List ℕ) (s : Region) (n : ℕ) → is_at (text_cmp key) k ≡ true → route_of r k s n (vs, es) ≡ route_of r k s n (one_text vs key rs)
    in_table r k s n eb =
        ap (λ o. route_in (slice_index vs (region_index r)) s n (routes_to r o)) (ap (λ x. at_text x es) (sym (same_key text_total exact_bytes key k eb)) ∙ there)
        ∙ sym (at_key rs r k s n true eb)

    fewer_by : (r : Region) (k : List ℕ) (s : Region) (n : ℕ) (x : T) (b : Bool) → is_at (text_cmp key) k ≡ b → route_of r k s n (one_text vs key rs) ≡ Some x → route_of r k s n (vs, es) ≡ Some x
    fewer_by r k s n x true eb is = in_table r k s n eb ∙ is
    fewer_by r k s n x false eb is = absurd (let gap : None ≡ Some x = sym (at_key rs r k s n false eb) ∙ is in cc)

    pub one_fewer : Fewer (vs, es) (one_text vs key rs)
    one_fewer r k s n x is = fewer_by r k s n x _ refl is

    below_by : IsTable (vs, es) → (qs : OfText T) (r : Region) (us : Under T) (b : Bool) → cond b (Some rs) None ≡ Some qs → value_at qs r ≡ Some us → us.0 ≤ slice_index vs (region_index r)
    below_by t qs r us true e is =
        let same : rs ≡ qs = (let both : Some rs ≡ Some qs = e in cc) in
        t.below key rs r us there (ap (λ (x : OfText T). value_at x r) same ∙ is)
    below_by t qs r us false e is = absurd (let gap : None ≡ Some qs = e in cc)

    pub one_table : IsTable (vs, es) → IsTable (one_text vs key rs)
    one_table t = record { all = t.all; below = λ k qs r us e is. below_by t qs r us _ e is }

  -- ---- a text whose routes are put into the table
  module _ (es fs : List (List ℕ × OfText T)) (rs : OfText T) (texts : (k : List ℕ) → at_text k fs ≡ cond (is_at (text_cmp key) k) (Some rs) (at_text k es)) where
    found_by : (r : Region) (k : List ℕ) (s : Region) (n : ℕ) (b : Bool) → is_at (text_cmp key) k ≡ b → route_of r k s n (vs, fs) ≡ cond b (route_of r k s n (one_text vs key rs)) (route_of r k s n (vs, es))
    found_by r k s n true eb =
        ap (λ o. route_in (slice_index vs (region_index r)) s n (routes_to r o)) (texts k ∙ ap (λ b. cond b (Some rs) (at_text k es)) eb)
        ∙ sym (at_key rs r k s n true eb)
    found_by r k s n false eb = ap (λ o. route_in (slice_index vs (region_index r)) s n (routes_to r o)) (texts k ∙ ap (λ b. cond b (Some rs) (at_text k es)) eb)

    pub given_others : OtherTexts (vs, es) (vs, fs) key
    given_others r k s n apart = found_by r k s n false apart

    given_by : IsTable (vs, es) → IsTable (one_text vs key rs) → (k : List ℕ) (qs : OfText T) (r : Region) (us : Under T) (b : Bool) → cond b (Some rs) (at_text k es) ≡ Some qs → value_at qs r ≡ Some us → us.0 ≤ slice_index vs (region_index r)
    given_by t one k qs r us true e is = one.below key qs r us (ap (λ b. cond b (Some rs) None) (at_itself text_total exact_bytes key) ∙ e) is
    given_by t one k qs r us false e is = t.below k qs r us e is

    pub given_table : IsTable (vs, es) → IsTable (one_text vs key rs) → IsTable (vs, fs)
    given_table t one = record { all = t.all; below = λ k qs r us e is. given_by t one k qs r us _ (sym (texts k) ∙ e) is }

    keeps_by : (r : Region) (k : List ℕ) (s : Region) (n : ℕ) (b : Bool) → is_at (text_cmp key) k ≡ b → (b ≡ true → is_some (route_of r k s n (one_text vs key rs)) ≡ true) → is_some (route_of r k s n (vs, es)) ≡ true → is_some (route_of r k s n (vs, fs)) ≡ true
    keeps_by r k s n true eb one old = ap is_some (found_by r k s n true eb) ∙ one refl
    keeps_by r k s n false eb one old = ap is_some (found_by r k s n false eb) ∙ old

-- ---- lists of offers
module _ (vs : List ℕ) (key : List ℕ) (es fs : List (List ℕ × OfText (List QueryTargetQabl))) (rs : OfText (List QueryTargetQabl)) (texts : (k : List ℕ) → at_text k fs ≡ cond (is_at (text_cmp key) k) (Some rs) (at_text k es)) where
  current_by : (hats : List (ℕ × HatState)) → AreCurrent (vs, es) hats → AreCurrent (one_text vs key rs) hats → (r : Region) (k : List ℕ) (s : Region) (n : ℕ) (os : List QueryTargetQabl) (b : Bool) → is_at (text_cmp key) k ≡ b → route_of r k s n (vs, fs) ≡ Some os → (h : HatState) → hat_at r hats ≡ Some h → os ≡ offers_of h s k (Some n)
  current_by hats old one r k s n os true eb is h at = one r k s n os (sym (found_by vs key es fs rs texts r k s n true eb) ∙ is) h at
  current_by hats old one r k s n os false eb is h at = old r k s n os (sym (found_by vs key es fs rs texts r k s n false eb) ∙ is) h at

  pub given_current : (hats : List (ℕ × HatState)) → AreCurrent (vs, es) hats → AreCurrent (one_text vs key rs) hats → AreCurrent (vs, fs) hats
  given_current hats old one r k s n os is h at = current_by hats old one r k s n os _ refl is h at

  -- the text had these routes
  pub given_keeps : (qs : OfText (List QueryTargetQabl)) → at_text key es ≡ Some qs → Keeps (one_text vs key qs) (one_text vs key rs) → Keeps (vs, es) (vs, fs)
  given_keeps qs there keeps r k s n old =
      keeps_by vs key es fs rs texts r k s n _ refl (λ eb. keeps r k s n (ap is_some (sym (in_table vs key es qs there r k s n eb)) ∙ old)) old

  none_kept : (r : Region) (k : List ℕ) (s : Region) (n : ℕ) → at_text key es ≡ None → is_at (text_cmp key) k ≡ true → route_of r k s n (vs, es) ≡ None
  none_kept r k s n absent eb =
      ap (λ o. route_in (slice_index vs (region_index r)) s n (routes_to r o)) (ap (λ x. at_text x es) (sym (same_key text_total exact_bytes key k eb)) ∙ absent)

  -- the text had no routes
  pub first_keeps : at_text key es ≡ None → Keeps (vs, es) (vs, fs)
  first_keeps absent r k s n old =
      keeps_by vs key es fs rs texts r k s n _ refl (λ eb. absurd (true≢false (sym old ∙ ap is_some (none_kept r k s n absent eb)))) old

  kept_by : (a : AskerState) (h : HatState) (o : Option ℕ) → IfSome o (λ n. is_some (route_of h.region key a.opened.region n (one_text vs key rs)) ≡ true) → IfSome o (λ n. is_some (route_of h.region key a.opened.region n (vs, fs)) ≡ true)
  kept_by a h None e = tt
  kept_by a h (Some n) e = ap is_some (found_by vs key es fs rs texts h.region key a.opened.region n true (at_itself text_total exact_bytes key)) ∙ e

  pub given_kept : (a : AskerState) (hats : List HatState) → All (IsKeptFor a key (one_text vs key rs)) hats → All (IsKeptFor a key (vs, fs)) hats
  given_kept a hats kept = All-weaker (IsKeptFor a key (one_text vs key rs)) (IsKeptFor a key (vs, fs)) (λ h e. kept_by a h (node_for a h) e) hats kept
