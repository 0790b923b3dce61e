-- Entries with all their values mapped: what looks them up and changes them goes along.
use Rattle.std.proofs.Common.{◌≡◌, ◌∙◌, refl, ap, Bool, true, false, cond, List, [], ◌∷◌, map, Option, Some, None}
use Rattle.std.specs.Option.{option_map, option_map_or}
use Rattle.std.specs.Map.{lookup, remove_entry, set_value}
use Rattle.std.specs.BTreeMap.{insert_entry}
use Rattle.std.specs.declared.cmp.Ordering.{Ordering}
use Rattle.std.specs.declared.cmp.Ordering.TheVariants.{Less, Equal, Greater}
use Rattle.std.specs.Ordering.{match_ordering}
use Rattle.std.proofs.lemmas.Map.Made.{lookup-map_values}

pub insert-map : {K X Y : Type 0} (f : X → Y) (cmp : K → K → Ordering) (es : List (K × X)) (k : K) (x : X) → insert_entry cmp (map (λ e. (e.0, f e.1)) es) k (f x) ≡ map (λ e. (e.0, f e.1)) (insert_entry cmp es k x)
insert-map f cmp [] k x = refl
insert-map f cmp (e ∷ es) k x = by (cmp k e.0) (insert-map f cmp es k x)
  where
    by : (r : Ordering) → insert_entry cmp (map (λ e. (e.0, f e.1)) es) k (f x) ≡ map (λ e. (e.0, f e.1)) (insert_entry cmp es k x)
        → match_ordering r ((k, f x) ∷ (e.0, f e.1) ∷ map (λ e. (e.0, f e.1)) es) ((e.0, f x) ∷ map (λ e. (e.0, f e.1)) es) ((e.0, f e.1) ∷ insert_entry cmp (map (λ e. (e.0, f e.1)) es) k (f x))
        ≡ map (λ e. (e.0, f e.1)) (match_ordering r ((k, x) ∷ e ∷ es) ((e.0, x) ∷ es) (e ∷ insert_entry cmp es k x))
    by Less more = refl
    by Equal more = refl
    by Greater more = ap (λ l. (e.0, f e.1) ∷ l) more

module _ {K X Y : Type 0} (f : X → Y) (test : K → Bool) where
  pub remove-map : (es : List (K × X)) → remove_entry test (map (λ e. (e.0, f e.1)) es) ≡ map (λ e. (e.0, f e.1)) (remove_entry test es)
  remove-map [] = refl
  remove-map (e ∷ es) = by (test e.0) (remove-map es)
    where
      by : (b : Bool) → remove_entry test (map (λ e. (e.0, f e.1)) es) ≡ map (λ e. (e.0, f e.1)) (remove_entry test es)
          → cond b (map (λ e. (e.0, f e.1)) es) ((e.0, f e.1) ∷ remove_entry test (map (λ e. (e.0, f e.1)) es)) ≡ map (λ e. (e.0, f e.1)) (cond b es (e ∷ remove_entry test es))
      by true more = refl
      by false more = ap (λ l. (e.0, f e.1) ∷ l) more

  pub set-map : (es : List (K × X)) (x : X) → set_value test (map (λ e. (e.0, f e.1)) es) (f x) ≡ map (λ e. (e.0, f e.1)) (set_value test es x)
  set-map [] x = refl
  set-map (e ∷ es) x = by (test e.0) (set-map es x)
    where
      by : (b : Bool) → set_value test (map (λ e. (e.0, f e.1)) es) (f x) ≡ map (λ e. (e.0, f e.1)) (set_value test es x)
          → cond b ((e.0, f x) ∷ map (λ e. (e.0, f e.1)) es) ((e.0, f e.1) ∷ set_value test (map (λ e. (e.0, f e.1)) es) (f x)) ≡ map (λ e. (e.0, f e.1)) (cond b ((e.0, x) ∷ es) (e ∷ set_value test es x))
      by true more = refl
      by false more = ap (λ l. (e.0, f e.1) ∷ l) more

  -- the value that was found is changed, where one was
  module _ (g : Y → Y) (h : X → X) (same : (x : X) → g (f x) ≡ f (h x)) (es : List (K × X)) where
    change-by : (o : Option X) → option_map_or (λ y. set_value test (map (λ e. (e.0, f e.1)) es) (g y)) (option_map f o) (map (λ e. (e.0, f e.1)) es) ≡ map (λ e. (e.0, f e.1)) (option_map_or (λ x. set_value test es (h x)) o es)
    change-by None = refl
    change-by (Some x) = ap (set_value test (map (λ e. (e.0, f e.1)) es)) (same x) ∙ set-map es (h x)

    pub change-map : option_map_or (λ y. set_value test (map (λ e. (e.0, f e.1)) es) (g y)) (lookup test (map (λ e. (e.0, f e.1)) es)) (map (λ e. (e.0, f e.1)) es) ≡ map (λ e. (e.0, f e.1)) (option_map_or (λ x. set_value test es (h x)) (lookup test es) es)
    change-map = ap (λ o. option_map_or (λ y. set_value test (map (λ e. (e.0, f e.1)) es) (g y)) o (map (λ e. (e.0, f e.1)) es)) (lookup-map_values f test es) ∙ change-by (lookup test es)
