-- What is written over at a number: where it stands, it takes its place; where nothing stands, nothing changes.
use Rattle.std.proofs.Common.{◌≡◌, ◌∙◌, sym, ap, refl, ℕ, Bool, true, false, cond, List, [], ◌∷◌, Some, None}
use Rattle.std.specs.Option.{is_some}
use Rattle.std.specs.BTreeMap.{insert_entry, is_at}
use Rattle.std.specs.Cmp.{nat_cmp_total}
use Rattle.std.specs.List.Sorted.{IsStrictlySortedBy}
use Rattle.std.specs.Map.{keys_of, lookup, set_value}
use Rattle.std.specs.Ordering.{nat_cmp}
use Rattle.std.proofs.lemmas.Map.Lookups.{exact_unsigned}
use Rattle.zq_key.proofs.Lookups.{found_after_insertion, found_after_write, same_entries}
use Rattle.zq_key.proofs.Sorted.{sorted_in, sorted_write}
use Rattle.zq_interests.specs.Interests.{at}

pub written_over : {X : Type 0} (k : ℕ) (w : X) (es : List (ℕ × X)) → IsStrictlySortedBy nat_cmp (keys_of es) → is_some (at k es) ≡ true → set_value (is_at (nat_cmp k)) es w ≡ insert_entry nat_cmp es k w
written_over k w es s some =
    same_entries nat_cmp_total exact_unsigned (set_value (is_at (nat_cmp k)) es w) (insert_entry nat_cmp es k w) (sorted_write nat_cmp (is_at (nat_cmp k)) w es s) (sorted_in nat_cmp_total es k w s)
    (λ q. found_after_write nat_cmp_total exact_unsigned k q w es some ∙ sym (found_after_insertion nat_cmp_total exact_unsigned k q w es))

pub not_written : {K X : Type 0} (test : K → Bool) (w : X) (es : List (K × X)) → lookup test es ≡ None → set_value test es w ≡ es
not_written test w [] none = refl
not_written test w (e ∷ es) none = by (test e.0) none (not_written test w es)
  where
    by : (b : Bool) → cond b (Some e.1) (lookup test es) ≡ None → (lookup test es ≡ None → set_value test es w ≡ es) → cond b ((e.0, w) ∷ es) (e ∷ set_value test es w) ≡ e ∷ es
    by true none later = cc
    by false none later = ap (λ l. e ∷ l) (later none)
