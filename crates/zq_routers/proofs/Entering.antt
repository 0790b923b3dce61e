-- Entries as one comes or goes, and how they are found by their routers.
use Rattle.std.proofs.Common.{◌≡◌, ◌∙◌, sym, ap, subst, refl, ℕ, Bool, true, false, cond, List, [], ◌∷◌, Option, Some, None, true≢false}
use Rattle.std.specs.Prelude.{◌&&◌}
use Rattle.std.specs.Option.{is_some, option_map_or}
use Rattle.std.specs.declared.cmp.Ordering.{Ordering}
use Rattle.std.specs.declared.cmp.Ordering.TheVariants.{Less, Equal, Greater}
use Rattle.std.specs.Ordering.{is_eq, match_ordering, nat_cmp}
use Rattle.std.specs.Cmp.{IsTotalOrder, nat_cmp_total}
use Rattle.std.specs.List.Sorted.{IsStrictlySortedBy}
use Rattle.std.specs.Map.{keys_of, lookup, remove_entry, set_value}
use Rattle.std.specs.BTreeMap.{is_at, insert_entry}
use Rattle.std.proofs.lemmas.Map.Keys.{sorted_head, sorted_tail}
use Rattle.std.proofs.lemmas.Map.Lookups.{exact_unsigned}
use Rattle.zq_message.specs.declared.message.QueryableInfoType.{QueryableInfoType}
use Rattle.zq_key.specs.Key.{is_key}
use Rattle.zq_key.proofs.Lookups.{same_key, at_itself, none_above}
use Rattle.zq_key.proofs.Sorted.{chain}
use Rattle.zq_index.specs.Texts.{text_cmp, at_text}
use Rattle.zq_index.specs.Holders.{IsOrderedBy, TellsApart, held_at, with_holding_by, with_holdings, without_holding_by, if_any}
use Rattle.zq_index.proofs.Orders.{text_total, text_exact}
use Rattle.zq_index.proofs.Finding.{test_text, found_with, found_without, held_if_any, inserted_used}
use Rattle.zq_index.proofs.Ordered.{ordered_none, with_at, with_ordered, without_at, without_ordered}
use Rattle.zq_strategy.specs.Entries.{Entries, Routed, RouterKeys, Gains, Loses, AreAlike, IsTied, entries_at, entry_of, has_key, is_entry, routed_with, routed_without, with_entries, with_entry, without_entry}

module _ {K X : Type 0} {R : K → K → Ordering} (o : IsTotalOrder R) (exact : TellsApart R) (k : K) where
  wrote_by : (v : X) (e : K × X) (es : List (K × X)) (r : Ordering) → R k e.0 ≡ r → IsStrictlySortedBy R (keys_of (e ∷ es)) → is_some (cond (is_eq r) (Some e.1) (lookup (is_at (R k)) es)) ≡ true
      → (is_some (lookup (is_at (R k)) es) ≡ true → set_value (is_at (R k)) es v ≡ insert_entry R es k v)
      → cond (is_eq r) ((e.0, v) ∷ es) (e ∷ set_value (is_at (R k)) es v) ≡ match_ordering r ((k, v) ∷ e ∷ es) ((e.0, v) ∷ es) (e ∷ insert_entry R es k v)
  wrote_by v e es Less is sorted there ih = absurd (true≢false (sym there ∙ ap is_some (none_above o exact k es (chain o k e.0 (keys_of es) is (sorted_head R e.0 (keys_of es) sorted)))))
  wrote_by v e es Equal is sorted there ih = refl
  wrote_by v e es Greater is sorted there ih = ap (λ l. e ∷ l) (ih there)

  -- a value that is written over is put in
  wrote : (v : X) (es : List (K × X)) → IsStrictlySortedBy R (keys_of es) → is_some (lookup (is_at (R k)) es) ≡ true → set_value (is_at (R k)) es v ≡ insert_entry R es k v
  wrote v [] sorted there = absurd (true≢false (sym there))
  wrote v (e ∷ es) sorted there = wrote_by v e es (R k e.0) refl sorted there (wrote v es (sorted_tail R e.0 (keys_of es) sorted))

  absent_by : (e : K × X) (es : List (K × X)) (b : Bool) → cond b (Some e.1) (lookup (is_at (R k)) es) ≡ None → (lookup (is_at (R k)) es ≡ None → remove_entry (is_at (R k)) es ≡ es) → cond b es (e ∷ remove_entry (is_at (R k)) es) ≡ e ∷ es
  absent_by e es true none ih = absurd (let gap : Some e.1 ≡ None = none in cc)
  absent_by e es false none ih = ap (λ l. e ∷ l) (ih none)

  -- what is absent goes without a change
  absent_out : (es : List (K × X)) → lookup (is_at (R k)) es ≡ None → remove_entry (is_at (R k)) es ≡ es
  absent_out [] none = refl
  absent_out (e ∷ es) none = absent_by e es (is_at (R k) e.0) none (absent_out es)

module _ (r : ℕ) (key : List ℕ) (all : Entries) (texts : IsStrictlySortedBy text_cmp (keys_of all)) where
  some_entries : (es : Routed) → (es ≡ [] → ⊥) → with_entries key es all ≡ insert_entry text_cmp all key es
  some_entries [] some = absurd (some refl)
  some_entries (e ∷ es) some = refl

  put_by : (i : QueryableInfoType) (o : Option Routed) → at_text key all ≡ o
      → option_map_or (λ hs. set_value (is_at (text_cmp key)) all (insert_entry nat_cmp hs r i)) o (insert_entry text_cmp all key ((r, i) ∷ [])) ≡ with_entries key (routed_with r i (option_map_or (λ hs. hs) o [])) all
  put_by i None is = refl
  put_by i (Some hs) is =
      wrote text_total text_exact key (insert_entry nat_cmp hs r i) all texts (ap is_some is)
      ∙ sym (some_entries (insert_entry nat_cmp hs r i) (inserted_used nat_cmp r i hs))

  pub put_is : (i : QueryableInfoType) → with_holding_by nat_cmp key r i all ≡ with_entry r key i all
  put_is i = put_by i (at_text key all) refl

  left_by : (es : Routed) → is_some (at_text key all) ≡ true → with_holdings key es all ≡ with_entries key es all
  left_by [] there = refl
  left_by (e ∷ es) there = wrote text_total text_exact key (e ∷ es) all texts there

  take_by : (o : Option Routed) → at_text key all ≡ o
      → option_map_or (λ hs. with_holdings key (remove_entry (is_at (nat_cmp r)) hs) all) o all ≡ with_entries key (routed_without r (option_map_or (λ hs. hs) o [])) all
  take_by None is = sym (absent_out text_total text_exact key all is)
  take_by (Some hs) is = left_by (remove_entry (is_at (nat_cmp r)) hs) (ap is_some is)

  pub take_is : without_holding_by nat_cmp key r all ≡ without_entry r key all
  take_is = take_by (at_text key all) refl

  -- the key's entries with one that comes
  pub put_at : (i : QueryableInfoType) → entries_at key (with_entry r key i all) ≡ routed_with r i (entries_at key all)
  put_at i =
      ap (entries_at key) (sym (put_is i))
      ∙ ap (λ o. option_map_or (λ (es : Routed). es) o []) (found_with nat_cmp key r i all key ∙ ap (λ b. cond b (Some (routed_with r i (entries_at key all))) (at_text key all)) (at_itself text_total text_exact key))

  -- the key's entries without one that goes
  pub taken_at : entries_at key (without_entry r key all) ≡ routed_without r (entries_at key all)
  taken_at =
      ap (entries_at key) (sym take_is)
      ∙ ap (λ o. option_map_or (λ (es : Routed). es) o []) (found_without nat_cmp key r all key texts ∙ ap (λ b. cond b (if_any (routed_without r (entries_at key all))) (at_text key all)) (at_itself text_total text_exact key))
      ∙ held_if_any (routed_without r (entries_at key all))

-- ---- the keys of the routers
both_ways : {X : Type 0} (a b : Bool) (x y : X) → cond b (cond a x y) y ≡ cond (a && b) x y
both_ways true true x y = refl
both_ways true false x y = refl
both_ways false true x y = refl
both_ways false false x y = refl

some_in : {X : Type 0} (b : Bool) (x : X) (o : Option X) → cond b true (is_some o) ≡ is_some (cond b (Some x) o)
some_in true x o = refl
some_in false x o = refl

none_in : {X : Type 0} (b : Bool) (o : Option X) → cond b false (is_some o) ≡ is_some (cond b None o)
none_in true o = refl
none_in false o = refl

pub tied_none : IsTied [] []
tied_none = record { ordered = ordered_none nat_cmp; keys = λ key some. absurd (true≢false (sym some)); same = λ router key. refl }

-- ---- an entry goes
module _ (all : Entries) (ordered : IsOrderedBy nat_cmp all) (r : ℕ) (key : List ℕ) where
  abbrev pub fewer : Entries
  fewer = without_holding_by nat_cmp key r all

  pub lost : (z : ℕ) (k : List ℕ) → entry_of z k fewer ≡ cond (is_entry r key z k) None (entry_of z k all)
  lost z k = without_at nat_cmp_total exact_unsigned key r all ordered k z ∙ both_ways (is_at (nat_cmp r) z) (is_at (text_cmp key) k) None (entry_of z k all)

  module _ (valid : (k : List ℕ) → is_some (at_text k all) ≡ true → is_key k ≡ true) where
    key_left : (o : Option Routed) → at_text key all ≡ o → is_some (if_any (routed_without r (option_map_or (λ hs. hs) o []))) ≡ true → is_key key ≡ true
    key_left None is some = absurd (true≢false (sym some))
    key_left (Some hs) is some = valid key (ap is_some is)

    left_keys_by : (k : List ℕ) (b : Bool) → test_text key k ≡ b → is_some (cond b (if_any (routed_without r (held_at key all))) (at_text k all)) ≡ true → is_key k ≡ true
    left_keys_by k true e some = subst (λ x. is_key x ≡ true) (same_key text_total text_exact key k e) (key_left (at_text key all) refl some)
    left_keys_by k false e some = valid k some

    pub keys_fewer : (k : List ℕ) → is_some (at_text k fewer) ≡ true → is_key k ≡ true
    keys_fewer k some = left_keys_by k (test_text key k) refl (sym (ap is_some (found_without nat_cmp key r all k ordered.texts)) ∙ some)

module _ (all : Entries) (routers : RouterKeys) (tied : IsTied all routers) where
  pub tied_alike : (after : RouterKeys) → AreAlike routers after → IsTied all after
  tied_alike after alike = record { ordered = tied.ordered; keys = tied.keys; same = λ z k. alike z k ∙ tied.same z k }

  module _ (r : ℕ) (key : List ℕ) where
    -- ---- an entry comes
    module _ (i : QueryableInfoType) (valid : is_key key ≡ true) where
      abbrev more : Entries
      more = with_holding_by nat_cmp key r i all

      found : (z : ℕ) (k : List ℕ) → entry_of z k more ≡ cond (is_entry r key z k) (Some i) (entry_of z k all)
      found z k = with_at nat_cmp_total exact_unsigned key r i all k z ∙ both_ways (is_at (nat_cmp r) z) (is_at (text_cmp key) k) (Some i) (entry_of z k all)

      keys_by : (k : List ℕ) (b : Bool) → test_text key k ≡ b → is_some (cond b (Some (insert_entry nat_cmp (held_at key all) r i)) (at_text k all)) ≡ true → is_key k ≡ true
      keys_by k true e some = subst (λ x. is_key x ≡ true) (same_key text_total text_exact key k e) valid
      keys_by k false e some = tied.keys k some

      keys_more : (k : List ℕ) → is_some (at_text k more) ≡ true → is_key k ≡ true
      keys_more k some = keys_by k (test_text key k) refl (sym (ap is_some (found_with nat_cmp key r i all k)) ∙ some)

      pub tied_put : (after : RouterKeys) → Gains r key routers after → IsTied more after
      tied_put after gains = record {
        ordered = with_ordered nat_cmp_total exact_unsigned key r i all tied.ordered;
        keys = keys_more;
        same = λ z k. gains z k ∙ ap (cond (is_entry r key z k) true) (tied.same z k) ∙ some_in (is_entry r key z k) i (entry_of z k all) ∙ ap is_some (sym (found z k));
      }

      again_by : (z : ℕ) (k : List ℕ) (a b : Bool) → is_at (nat_cmp r) z ≡ a → is_at (text_cmp key) k ≡ b → is_some (entry_of r key all) ≡ true → is_some (entry_of z k all) ≡ is_some (cond (a && b) (Some i) (entry_of z k all))
      again_by z k true true e f there =
          ap (λ x. is_some (entry_of x k all)) (sym (same_key nat_cmp_total exact_unsigned r z e)) ∙ ap (λ x. is_some (entry_of r x all)) (sym (same_key text_total text_exact key k f)) ∙ there
      again_by z k true false e f there = refl
      again_by z k false b e f there = refl

      pub tied_again : is_some (entry_of r key all) ≡ true → IsTied more routers
      tied_again there = record {
        ordered = with_ordered nat_cmp_total exact_unsigned key r i all tied.ordered;
        keys = keys_more;
        same = λ z k. tied.same z k ∙ again_by z k (is_at (nat_cmp r) z) (is_at (text_cmp key) k) refl refl there ∙ ap is_some (sym (found z k));
      }

    -- ---- a key of a router comes and goes again
    back_by : (z : ℕ) (k : List ℕ) (a b : Bool) → is_at (nat_cmp r) z ≡ a → is_at (text_cmp key) k ≡ b → is_some (entry_of r key all) ≡ false → cond (a && b) false (cond (a && b) true (has_key z k routers)) ≡ has_key z k routers
    back_by z k true true e f none =
        sym (tied.same z k ∙ ap (λ x. is_some (entry_of x k all)) (sym (same_key nat_cmp_total exact_unsigned r z e)) ∙ ap (λ x. is_some (entry_of r x all)) (sym (same_key text_total text_exact key k f)) ∙ none)
    back_by z k true false e f none = refl
    back_by z k false b e f none = refl

    pub tied_back : (mid after : RouterKeys) → Gains r key routers mid → Loses r key mid after → is_some (entry_of r key all) ≡ false → IsTied all after
    tied_back mid after gains loses none = tied_alike after (λ z k.
        loses z k ∙ ap (cond (is_entry r key z k) false) (gains z k) ∙ back_by z k (is_at (nat_cmp r) z) (is_at (text_cmp key) k) refl refl none)

    -- ---- an entry goes
    pub tied_take : (after : RouterKeys) → Loses r key routers after → IsTied (without_holding_by nat_cmp key r all) after
    tied_take after loses = record {
      ordered = without_ordered nat_cmp_total exact_unsigned key r all tied.ordered;
      keys = keys_fewer all tied.ordered r key tied.keys;
      same = λ z k. loses z k ∙ ap (cond (is_entry r key z k) false) (tied.same z k) ∙ none_in (is_entry r key z k) (entry_of z k all) ∙ ap is_some (sym (lost all tied.ordered r key z k));
    }
