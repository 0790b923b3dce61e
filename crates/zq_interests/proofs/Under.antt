-- Where a place is after one text's places are others, and which texts are keys.
use Rattle.std.proofs.Common.{◌≡◌, ◌∙◌, true≢false, sym, ap, refl, ℕ, Bool, true, false, cond, List, [], ◌∷◌, Some, None, Option, arith, eqb-true, length, subst}
use Rattle.std.specs.Prelude.{not, ◌&&◌, ◌||◌, ◌==◌}
use Rattle.std.specs.List.{list_any}
use Rattle.std.specs.BTreeMap.{insert_entry, is_at}
use Rattle.std.specs.Map.{remove_entry, set_value}
use Rattle.std.specs.Option.{is_some, option_map_or}
use Rattle.std.proofs.lemmas.Bool.{false≢true}
use Rattle.std.proofs.lemmas.Map.{keys-set_value}
use Rattle.std.proofs.lemmas.Map.Made.{is_some-lookup}
use Rattle.zq_key.specs.Key.{is_key}
use Rattle.zq_key.proofs.Lookups.{at_itself, found_after_insertion, found_after_write, same_key}
use Rattle.zq_index.specs.Holders.{AreListed, Place, place_cmp}
use Rattle.zq_index.specs.Texts.{IsListed, Lists, at_text, lists_without, text_cmp}
use Rattle.zq_index.proofs.Listed.{listed_out}
use Rattle.zq_index.proofs.Orders.{place_exact, place_total, text_exact, text_total}
use Rattle.zq_interests.specs.Kept.{AreFit, AreFitBut, HasPlace, Keyed, has_place, is_same, is_under, places_at}

pub joins : (b x : Bool) → cond b true x ≡ (b || x)
joins true x = refl
joins false x = refl

pub leaves : (b x : Bool) → cond b false x ≡ (not b && x)
leaves true x = refl
leaves false x = refl

pub none_in : {X : Type 0} (xs : List X) → (length xs == 0) ≡ true → xs ≡ []
none_in [] e = refl
none_in (x ∷ xs) e = let none : length (x ∷ xs) ≡ 0 = eqb-true _ _ e in absurd (omega (arith, none))

-- the same texts are there
pub same_texts : (key t : List ℕ) (w : List Place) (index : Keyed) → is_some (at_text t (set_value (is_at (text_cmp key)) index w)) ≡ is_some (at_text t index)
same_texts key t w index =
    is_some-lookup (is_at (text_cmp t)) (set_value (is_at (text_cmp key)) index w)
    ∙ ap (list_any (is_at (text_cmp t))) (keys-set_value (is_at (text_cmp key)) index w)
    ∙ sym (is_some-lookup (is_at (text_cmp t)) index)

-- one text is new
pub one_more : (key t : List ℕ) (w : List Place) (index : Keyed) → is_some (at_text t (insert_entry text_cmp index key w)) ≡ true → (is_at (text_cmp key) t || is_some (at_text t index)) ≡ true
one_more key t w index some = by (is_at (text_cmp key) t) (sym (ap is_some (found_after_insertion text_total text_exact key t w index)) ∙ some)
  where
    by : (b : Bool) → is_some (cond b (Some w) (at_text t index)) ≡ true → (b || is_some (at_text t index)) ≡ true
    by true e = refl
    by false e = e

-- ---- each text keeps a place
or_right : (a b : Bool) → b ≡ true → (a || b) ≡ true
or_right true b e = refl
or_right false b e = e

some_place : (w : List Place) → (length w == 0) ≡ false → (q : Place) × (has_place q w ≡ true)
some_place [] e = absurd (true≢false e)
some_place (p ∷ w) e = (p, ap (λ b. b || has_place p w) (at_itself place_total place_exact p))

-- a place came to a text
abbrev Came : List ℕ → Place → Keyed → Keyed → Type 0
Came key p index new = (t : List ℕ) (q : Place) → is_under t q new ≡ (is_same key p t q || is_under t q index)

-- a place left a text
abbrev Went : List ℕ → Place → Keyed → Keyed → Type 0
Went key p index new = (t : List ℕ) (q : Place) → is_under t q new ≡ (not (is_same key p t q) && is_under t q index)

-- the same texts are there
abbrev SameTexts : Keyed → Keyed → Type 0
SameTexts index new = (t : List ℕ) → is_some (at_text t new) ≡ is_some (at_text t index)

module _ (key : List ℕ) (p : Place) (index new : Keyed) (lists : Lists) (fit : AreFit index lists) (texts : SameTexts index new) where
  pub fit_beside : Came key p index new → AreFit new lists
  fit_beside came = record {
    keys = λ t some. fit.keys t (sym (texts t) ∙ some);
    listed = λ t some. fit.listed t (sym (texts t) ∙ some);
    placed = λ t some. let h = fit.placed t (sym (texts t) ∙ some) in (h.0, came t h.0 ∙ or_right (is_same key p t h.0) (is_under t h.0 index) h.1);
  }

  pub fit_but : Went key p index new → AreFitBut key new lists
  fit_but went = record {
    keys = λ t some. fit.keys t (sym (texts t) ∙ some);
    listed = λ t some. fit.listed t (sym (texts t) ∙ some);
    placed = λ t other some.
        let h = fit.placed t (sym (texts t) ∙ some) in
        (h.0, went t h.0 ∙ ap (λ b. not (b && is_at (place_cmp p) h.0) && is_under t h.0 index) other ∙ h.1);
  }

  -- and the text has another
  pub fit_still : Went key p index new → (is_some (at_text key index) && (length (places_at key new) == 0)) ≡ false → AreFit new lists
  fit_still went left = record {
    keys = (fit_but went).keys;
    listed = (fit_but went).listed;
    placed = λ t some. by t (is_at (text_cmp key) t) refl some;
  }
    where
      by : (t : List ℕ) (b : Bool) → is_at (text_cmp key) t ≡ b → is_some (at_text t new) ≡ true → HasPlace t new
      by t true is some =
          let same : key ≡ t = same_key text_total text_exact key t is in
          let there : is_some (at_text key index) ≡ true = ap (λ k. is_some (at_text k index)) same ∙ sym (texts t) ∙ some in
          subst (λ k. HasPlace k new) same (some_place (places_at key new) (sym (ap (λ b. b && (length (places_at key new) == 0)) there) ∙ left))
      by t false is some = (fit_but went).placed t is some

-- a key came
pub fit_more : (key : List ℕ) (p : Place) (index new : Keyed) (lists more : Lists) → AreFit index lists → is_key key ≡ true → ((t : List ℕ) → is_some (at_text t new) ≡ true → (is_at (text_cmp key) t || is_some (at_text t index)) ≡ true)
    → Came key p index new → ((t : List ℕ) → IsListed lists t → IsListed more t) → IsListed more key → AreFit new more
fit_more key p index new lists more fit it came under wider is = record {
  keys = λ t some. key_by t (is_at (text_cmp key) t) refl (came t some);
  listed = λ t some. listed_by t (is_at (text_cmp key) t) refl (came t some);
  placed = λ t some. placed_by t (is_at (text_cmp key) t) refl (came t some);
}
  where
    placed_by : (t : List ℕ) (b : Bool) → is_at (text_cmp key) t ≡ b → (b || is_some (at_text t index)) ≡ true → HasPlace t new
    placed_by t true same e =
        (p, under t p ∙ ap (λ b. (b && is_at (place_cmp p) p) || is_under t p index) same ∙ ap (λ b. b || is_under t p index) (at_itself place_total place_exact p))
    placed_by t false same e = let h = fit.placed t e in (h.0, under t h.0 ∙ or_right (is_same key p t h.0) (is_under t h.0 index) h.1)

    key_by : (t : List ℕ) (b : Bool) → is_at (text_cmp key) t ≡ b → (b || is_some (at_text t index)) ≡ true → is_key t ≡ true
    key_by t true same e = ap is_key (sym (same_key text_total text_exact key t same)) ∙ it
    key_by t false same e = fit.keys t e

    listed_by : (t : List ℕ) (b : Bool) → is_at (text_cmp key) t ≡ b → (b || is_some (at_text t index)) ≡ true → IsListed more t
    listed_by t true same e = subst (IsListed more) (same_key text_total text_exact key t same) is
    listed_by t false same e = wider t (fit.listed t e)

abbrev pub Written : List ℕ → List Place → Keyed → Keyed → Type 0
Written key w index new = (t : List ℕ) → places_at t new ≡ cond (is_at (text_cmp key) t) w (places_at t index)

module _ (key : List ℕ) (index : Keyed) where
  pub here : (was : List Place) → at_text key index ≡ Some was → places_at key index ≡ was
  here was there = ap (λ o. option_map_or (λ (ps : List Place). ps) o []) there

  pub nowhere : at_text key index ≡ None → places_at key index ≡ []
  nowhere none = ap (λ o. option_map_or (λ (ps : List Place). ps) o []) none

  inner : (b : Bool) (w : List Place) (o : Option (List Place)) → option_map_or (λ (ps : List Place). ps) (cond b (Some w) o) [] ≡ cond b w (option_map_or (λ (ps : List Place). ps) o [])
  inner true w o = refl
  inner false w o = refl

  pub written : (w : List Place) → is_some (at_text key index) ≡ true → Written key w index (set_value (is_at (text_cmp key)) index w)
  written w some t = ap (λ o. option_map_or (λ (ps : List Place). ps) o []) (found_after_write text_total text_exact key t w index some) ∙ inner (is_at (text_cmp key) t) w (at_text t index)

  pub inserted : (w : List Place) → Written key w index (insert_entry text_cmp index key w)
  inserted w t = ap (λ o. option_map_or (λ (ps : List Place). ps) o []) (found_after_insertion text_total text_exact key t w index) ∙ inner (is_at (text_cmp key) t) w (at_text t index)

  module _ (w : List Place) (new : Keyed) (is : Written key w index new) (p : Place) (was : List Place) (stood : places_at key index ≡ was) where
    at_key : (t : List ℕ) → is_at (text_cmp key) t ≡ true → places_at t index ≡ was
    at_key t e = ap (λ k. places_at k index) (sym (same_key text_total text_exact key t e)) ∙ stood

    pub put_under : ((q : Place) → has_place q w ≡ (is_at (place_cmp p) q || has_place q was)) → (t : List ℕ) (q : Place) → is_under t q new ≡ (is_same key p t q || is_under t q index)
    put_under more t q = ap (has_place q) (is t) ∙ by (is_at (text_cmp key) t) refl
      where
        by : (b : Bool) → is_at (text_cmp key) t ≡ b → has_place q (cond b w (places_at t index)) ≡ ((b && is_at (place_cmp p) q) || is_under t q index)
        by true e = more q ∙ ap (λ ps. is_at (place_cmp p) q || has_place q ps) (sym (at_key t e))
        by false e = refl

    pub taken_under : ((q : Place) → has_place q w ≡ (not (is_at (place_cmp p) q) && has_place q was)) → (t : List ℕ) (q : Place) → is_under t q new ≡ (not (is_same key p t q) && is_under t q index)
    taken_under less t q = ap (has_place q) (is t) ∙ by (is_at (text_cmp key) t) refl
      where
        by : (b : Bool) → is_at (text_cmp key) t ≡ b → has_place q (cond b w (places_at t index)) ≡ (not (b && is_at (place_cmp p) q) && is_under t q index)
        by true e = less q ∙ ap (λ ps. not (is_at (place_cmp p) q) && has_place q ps) (sym (at_key t e))
        by false e = refl

  -- where nothing stands, nothing is taken
  pub none_under : (p : Place) → places_at key index ≡ [] → (t : List ℕ) (q : Place) → is_under t q index ≡ (not (is_same key p t q) && is_under t q index)
  none_under p none t q = by (is_at (text_cmp key) t) refl
    where
      gone : (b : Bool) → false ≡ (not b && false)
      gone true = refl
      gone false = refl

      by : (b : Bool) → is_at (text_cmp key) t ≡ b → is_under t q index ≡ (not (b && is_at (place_cmp p) q) && is_under t q index)
      by true e =
          let empty : is_under t q index ≡ false = ap (λ k. is_under k q index) (sym (same_key text_total text_exact key t e)) ∙ ap (has_place q) none in
          empty ∙ gone (is_at (place_cmp p) q) ∙ ap (λ b. not (is_at (place_cmp p) q) && b) (sym empty)
      by false e = refl

  -- ---- a text goes
  module _ (t : List ℕ) (other : is_at (text_cmp key) t ≡ false) where
    pub others_stay : {X : Type 0} (es : List (List ℕ × X)) → at_text t (remove_entry (is_at (text_cmp key)) es) ≡ at_text t es
    others_stay [] = refl
    others_stay {X} (e ∷ es) = by (is_at (text_cmp key) e.0) (is_at (text_cmp t) e.0) refl refl (others_stay es)
      where
        by : (b a : Bool) → is_at (text_cmp key) e.0 ≡ b → is_at (text_cmp t) e.0 ≡ a → at_text t (remove_entry (is_at (text_cmp key)) es) ≡ at_text t es
            → at_text t (cond b es (e ∷ remove_entry (is_at (text_cmp key)) es)) ≡ cond a (Some e.1) (at_text t es)
        by true true k_is t_is later = absurd (false≢true (sym other ∙ ap (is_at (text_cmp key)) (same_key text_total text_exact t e.0 t_is) ∙ k_is))
        by true false k_is t_is later = refl
        by false a k_is t_is later = (λ i. cond (t_is i) (Some e.1) (later i))

  pub dropped : (new : Keyed) → new ≡ remove_entry (is_at (text_cmp key)) index → at_text key new ≡ None → places_at key index ≡ [] → (t : List ℕ) → places_at t new ≡ places_at t index
  dropped new is gone none t = by (is_at (text_cmp key) t) refl
    where
      by : (b : Bool) → is_at (text_cmp key) t ≡ b → places_at t new ≡ places_at t index
      by true e =
          let same : key ≡ t = same_key text_total text_exact key t e in
          ap (λ k. places_at k new) (sym same) ∙ ap (λ o. option_map_or (λ (ps : List Place). ps) o []) gone ∙ sym none ∙ ap (λ k. places_at k index) same
      by false e = ap (places_at t) is ∙ ap (λ o. option_map_or (λ (ps : List Place). ps) o []) (others_stay t e index)

-- a text went
pub fit_less : (key : List ℕ) (index new : Keyed) (lists : Lists) → new ≡ remove_entry (is_at (text_cmp key)) index → at_text key new ≡ None → places_at key index ≡ [] → AreFitBut key index lists → AreFit new (lists_without key lists)
fit_less key index new lists is gone none fit = record {
  keys = λ t some. fit.keys t (was t (is_at (text_cmp key) t) refl some).1;
  listed = subst (λ es. AreListed es (lists_without key lists)) (sym is) (listed_out key index lists fit.listed (ap (at_text key) (sym is) ∙ gone));
  placed = λ t some.
      let stood = was t (is_at (text_cmp key) t) refl some in
      let h = fit.placed t stood.0 stood.1 in
      (h.0, ap (has_place h.0) (dropped key index new is gone none t) ∙ h.1);
}
  where
    was : (t : List ℕ) (b : Bool) → is_at (text_cmp key) t ≡ b → is_some (at_text t new) ≡ true → (is_at (text_cmp key) t ≡ false) × (is_some (at_text t index) ≡ true)
    was t true e some =
        let same : key ≡ t = same_key text_total text_exact key t e in
        absurd (false≢true (sym (ap is_some gone) ∙ ap (λ k. is_some (at_text k new)) same ∙ some))
    was t false e some = (e, sym (ap is_some (ap (at_text t) is ∙ others_stay key index t e index)) ∙ some)

pub both_true : (a b : Bool) → (a && b) ≡ true → (a ≡ true) × (b ≡ true)
both_true true b e = (refl, e)
both_true false b e = absurd (false≢true e)
