-- A walk over the texts of keys that passes over those which do not meet a key.
use Rattle.std.proofs.Common.{◌≡◌, ◌≢◌, ◌∙◌, sym, ap, subst, cond, fold, map, [], ◌∷◌, ℕ, List, ◌++◌, append_assoc, length, arith, ◌<◌, refl, true, false}
use Rattle.std.specs.Prelude.{String}
use Rattle.std.specs.declared.alloc.Global.{Global}
use Rattle.std.specs.declared.cmp.Ordering.TheVariants.{Less}
use Rattle.std.specs.List.{AllByRecursion, flat_map}
use Rattle.std.specs.Option.{is_some}
use Rattle.std.specs.String.{string_bytes, string_cmp}
use Rattle.std.specs.List.Sorted.{IsStrictlySortedBy}
use Rattle.std.specs.Map.{keys_of}
use Rattle.std.proofs.lemmas.List.{length-append}
use Rattle.zq_key.specs.Key.{intersects, is_key}
use Rattle.zq_key.proofs.Lookups.{each_entry}
use Rattle.zq_key.proofs.Runs.{not_below_itself}
use Rattle.zq_index.specs.Holders.{Place}
use Rattle.zq_index.specs.Texts.{text_cmp, Lists, IsListed, texts_of}
use Rattle.zq_index.specs.Skipping.{SkipsListed, NoneFrom}
use Rattle.zq_index.proofs.Listed.{each_listed}
use Rattle.zq_index.proofs.Orders.{text_exact, text_total}
use Rattle.zq_index.proofs.Rebuilt.{sorted_texts}
use Rattle.zq_index.proofs.Skipping.{IsEnd, IsPassed, all_at_end, from_bound, none_left, nothing_lost, passed, sorted_end}
use Rattle.zq_interests.specs.Kept.{AreFit, met_at, spots_at}

pub fold_joined : {X Y : Type 0} (step : Y → X → Y) (found : Y) (xs ys : List X) → fold step found (xs ++ ys) ≡ fold step (fold step found xs) ys
fold_joined step found [] ys = refl
fold_joined step found (x ∷ xs) ys = fold_joined step (step found x) xs ys

abbrev pub Entry : Type 0
Entry = String Global × List Place

abbrev IsKeyed : List ℕ × List Place → Type 0
IsKeyed e = is_key e.0 ≡ true

-- what is gathered at a text, of which one that does not meet the key has nothing
abbrev pub Misses : {X : Type 0} → List ℕ → (List ℕ × List Place → List X) → Type 0
Misses q f = (t : List ℕ) (v : List Place) → intersects t q ≡ false → f (t, v) ≡ []

module _ {X Y : Type 0} (step : Y → X → Y) (q : List ℕ) (f : List ℕ × List Place → List X) (misses : Misses q f) (lists : Lists) (start : Y) (es : List Entry) where
  -- what was gathered, and the keys that are left
  pub record Stands (found : Y) (rest : List Entry) : Type 0 where
    pub gathered : fold step found (flat_map f (texts_of rest)) ≡ fold step start (flat_map f (texts_of es))
    pub keys : AllByRecursion IsKeyed (texts_of rest)
    pub listed : AllByRecursion (λ e. IsListed lists e.0) (texts_of rest)
    pub end : IsEnd es rest

  module _ (sorted : IsStrictlySortedBy string_cmp (keys_of es)) where
    pub stands_first : (whole : List Entry) → whole ≡ es → AreFit (texts_of es) lists → Stands start whole
    stands_first whole same fit = record {
      gathered = λ i. fold step start (flat_map f (texts_of (same i)));
      keys =
          subst (λ (l : List Entry). AllByRecursion IsKeyed (texts_of l)) (sym same)
          (each_entry text_total text_exact IsKeyed (texts_of es) (sorted_texts es sorted) (λ k v is. fit.keys k (ap is_some is)));
      listed = subst (λ (l : List Entry). AllByRecursion (λ e. IsListed lists e.0) (texts_of l)) (sym same) (each_listed (texts_of es) lists (sorted_texts es sorted) fit.listed);
      end = ([], sym same);
    }

    module _ (found : Y) (before : List Entry) (stands : Stands found before) (e : Entry) (rest : List Entry) (steps : before ≡ e ∷ rest) where
      here : AllByRecursion (λ x. IsListed lists x.0) (texts_of (e ∷ rest))
      here = subst (λ (l : List Entry). AllByRecursion (λ x. IsListed lists x.0) (texts_of l)) steps stands.listed

      keyed : AllByRecursion IsKeyed (texts_of (e ∷ rest))
      keyed = subst (λ (l : List Entry). AllByRecursion IsKeyed (texts_of l)) steps stands.keys

      pub is_keyed : is_key (string_bytes e.0) ≡ true
      is_keyed = keyed.0

      whole : es ≡ stands.end.0 ++ e ∷ rest
      whole = stands.end.1 ∙ ap (λ (l : List Entry). stands.end.0 ++ l) steps

      -- keys are passed over
      module _ (bound : String Global) (skips : SkipsListed lists q (string_bytes e.0) (string_bytes bound)) (new : List Entry) (same : new ≡ from_bound bound es) where
        dead : (t : List ℕ) → text_cmp t (string_bytes e.0) ≢ Less → text_cmp t (string_bytes bound) ≡ Less → IsListed lists t → (v : List Place) → f (t, v) ≡ []
        dead t above below is v = misses t v (skips.none t above below is)

        walked : IsPassed f es rest new
        walked = subst (IsPassed f es rest) (sym same) (passed (IsListed lists) f bound es stands.end.0 rest e whole sorted here.1 skips.after dead)

        pub fewer : length new < length before
        fewer = let split = walked.split in omega (arith, ap length steps, ap length split.whole, length-append split.over new)

        pub stands_after_jump : Stands found new
        stands_after_jump =
            let p = walked in
            let lost = nothing_lost f es rest new e p (dead (string_bytes e.0) (not_below_itself (string_bytes e.0)) skips.after here.0 e.1) in
            let left = ap (λ (l : List Entry). e ∷ l) p.split.whole in
            record {
              gathered = ap (fold step found) (sym lost ∙ ap (λ (l : List Entry). flat_map f (texts_of l)) (sym steps)) ∙ stands.gathered;
              keys = all_at_end IsKeyed (e ∷ p.split.over) new (subst (λ (l : List Entry). AllByRecursion IsKeyed (texts_of l)) left keyed);
              listed = all_at_end (λ x. IsListed lists x.0) (e ∷ p.split.over) new (subst (λ (l : List Entry). AllByRecursion (λ x. IsListed lists x.0) (texts_of l)) left here);
              end = p.end;
            }

      -- none is left
      pub all_found : NoneFrom lists q (string_bytes e.0) → found ≡ fold step start (flat_map f (texts_of es))
      all_found none =
          let gone : (t : List ℕ) → text_cmp t (string_bytes e.0) ≢ Less → IsListed lists t → (v : List Place) → f (t, v) ≡ [] =
          λ t above is v. misses t v (none t above is) in
          let in_order : IsStrictlySortedBy string_cmp (keys_of (stands.end.0 ++ e ∷ rest)) = subst (λ (l : List Entry). IsStrictlySortedBy string_cmp (keys_of l)) whole sorted in
          let over : flat_map f (texts_of (e ∷ rest)) ≡ [] =
          λ i. gone (string_bytes e.0) (not_below_itself (string_bytes e.0)) here.0 e.1 i ++ none_left (IsListed lists) f e.0 rest (sorted_end stands.end.0 (e ∷ rest) in_order) here.1 gone i in
          ap (fold step found) (sym (ap (λ (l : List Entry). flat_map f (texts_of l)) steps ∙ over)) ∙ stands.gathered

      -- a key is looked at
      pub stands_after_look : (more : Y) → more ≡ fold step found (f (string_bytes e.0, e.1)) → Stands more rest
      stands_after_look more put = record {
        gathered =
            ap (λ l. fold step l (flat_map f (texts_of rest))) put
            ∙ sym (fold_joined step found (f (string_bytes e.0, e.1)) (flat_map f (texts_of rest)))
            ∙ ap (λ (l : List Entry). fold step found (flat_map f (texts_of l))) (sym steps)
            ∙ stands.gathered;
        keys = keyed.1;
        listed = here.1;
        end = (stands.end.0 ++ e ∷ [], whole ∙ sym (append_assoc stands.end.0 (e ∷ []) rest));
      }

-- ---- what is gathered: the faces of places, or the places with their texts
pub faces_miss : (q : List ℕ) → Misses q (met_at q)
faces_miss q t v out = ap (λ b. cond b v []) out

pub spots_miss : (q : List ℕ) → Misses q (spots_at q)
spots_miss q t v out = ap (λ b. cond b (map (λ (p : Place). (p, t)) v) []) out
