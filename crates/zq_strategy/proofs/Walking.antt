-- A walk over declared keys that passes over those which do not meet the one that is asked for.
use Rattle.std.proofs.Common.{◌≡◌, ◌≢◌, ◌∙◌, sym, ap, refl, subst, cond, filter, Bool, true, false, [], ◌∷◌, ℕ, List, ◌++◌, append_assoc, length, arith, ◌<◌}
use Rattle.std.specs.Prelude.{String}
use Rattle.std.specs.declared.alloc.Global.{Global}
use Rattle.std.specs.declared.cmp.Ordering.TheVariants.{Less}
use Rattle.std.specs.List.{AllByRecursion, flat_map}
use Rattle.std.specs.String.{string_bytes, string_cmp}
use Rattle.std.specs.List.Sorted.{IsStrictlySortedBy}
use Rattle.std.specs.Map.{keys_of}
use Rattle.std.proofs.lemmas.List.{length-append}
use Rattle.zq_key.specs.Key.{intersects}
use Rattle.zq_key.proofs.Runs.{not_below_itself}
use Rattle.zq_index.specs.Holders.{AreListed}
use Rattle.zq_index.specs.Texts.{text_cmp, Lists, IsListed, texts_of}
use Rattle.zq_index.specs.Skipping.{SkipsListed, NoneFrom}
use Rattle.zq_index.proofs.Listed.{each_listed}
use Rattle.zq_index.proofs.Rebuilt.{sorted_texts}
use Rattle.zq_index.proofs.Skipping.{IsEnd, IsPassed, all_at_end, from_bound, none_left, nothing_lost, passed, sorted_end}
use Rattle.zq_strategy.specs.Met.{AllGathered, is_met}
use Rattle.zq_strategy.specs.OfferOrder.{IsKeyed}

-- what is gathered at some and then at more is gathered at all of them
gathered_joined : {E T : Type 0} (gathers : T → E → T → Type 0) (xs ys : List E) (a b c : T) → AllGathered gathers a xs b → AllGathered gathers b ys c → AllGathered gathers a (xs ++ ys) c
gathered_joined gathers [] ys a b c first more = subst (λ x. AllGathered gathers x ys c) (sym first) more
gathered_joined gathers (x ∷ xs) ys a b c first more = (first.0, first.1, gathered_joined gathers xs ys first.0 b c first.2 more)

-- an entry, if its key meets the one that is asked for
abbrev pub met_at : {V : Type 0} → List ℕ → List ℕ × V → List (List ℕ × V)
met_at q e = cond (is_met q e) (e ∷ []) []

met_by : {V : Type 0} (e : List ℕ × V) (met : List (List ℕ × V)) (b : Bool) → cond b (e ∷ []) [] ++ met ≡ cond b (e ∷ met) met
met_by e met true = refl
met_by e met false = refl

met_are : {V : Type 0} (q : List ℕ) (es : List (List ℕ × V)) → flat_map (met_at q) es ≡ filter (is_met q) es
met_are q [] = refl
met_are q (e ∷ es) = ap (λ l. met_at q e ++ l) (met_are q es) ∙ met_by e (filter (is_met q) es) (is_met q e)

module _ {V T : Type 0} (gathers : T → List ℕ × V → T → Type 0) (q : List ℕ) (lists : Lists) (start : T) (es : List (String Global × V)) where
  abbrev f : List ℕ × V → List (List ℕ × V)
  f e = met_at q e

  -- what was gathered, and the keys that are left
  pub record Stands (found : T) (rest : List (String Global × V)) : Type 0 where
    pub more : (end : T) → AllGathered gathers found (flat_map f (texts_of rest)) end → AllGathered gathers start (flat_map f (texts_of es)) end
    pub keys : AllByRecursion IsKeyed (texts_of rest)
    pub listed : AllByRecursion (λ e. IsListed lists e.0) (texts_of rest)
    pub end : IsEnd es rest

  -- all was
  abbrev All : T → Type 0
  All found = AllGathered gathers start (filter (is_met q) (texts_of es)) found

  all_by : (found : T) (rest : List (String Global × V)) → Stands found rest → flat_map f (texts_of rest) ≡ [] → All found
  all_by found rest stands none =
      subst (λ l. AllGathered gathers start l found) (met_are q (texts_of es)) (stands.more found (subst (λ l. AllGathered gathers found l found) (sym none) refl))

  pub all_at_last : (found : T) (rest : List (String Global × V)) → Stands found rest → rest ≡ [] → All found
  all_at_last found rest stands none = all_by found rest stands (ap (λ l. flat_map f (texts_of l)) none)

  module _ (sorted : IsStrictlySortedBy string_cmp (keys_of es)) where
    pub stands_first : (whole : List (String Global × V)) → whole ≡ es → AllByRecursion IsKeyed (texts_of es) → AreListed (texts_of es) lists → Stands start whole
    stands_first whole same keys listed = record {
      more = λ end all. subst (λ l. AllGathered gathers start (flat_map f (texts_of l)) end) same all;
      keys = subst (λ l. AllByRecursion IsKeyed (texts_of l)) (sym same) keys;
      listed = subst (λ l. AllByRecursion (λ e. IsListed lists e.0) (texts_of l)) (sym same) (each_listed (texts_of es) lists (sorted_texts es sorted) listed);
      end = ([], sym same);
    }

    module _ (found : T) (before : List (String Global × V)) (stands : Stands found before) (e : String Global × V) (rest : List (String Global × V)) (steps : before ≡ e ∷ rest) where
      here : AllByRecursion (λ x. IsListed lists x.0) (texts_of (e ∷ rest))
      here = subst (λ l. AllByRecursion (λ x. IsListed lists x.0) (texts_of l)) steps stands.listed

      keyed : AllByRecursion IsKeyed (texts_of (e ∷ rest))
      keyed = subst (λ l. AllByRecursion IsKeyed (texts_of l)) steps stands.keys

      pub is_keyed : IsKeyed (string_bytes e.0, e.1)
      is_keyed = keyed.0

      whole : es ≡ stands.end.0 ++ e ∷ rest
      whole = stands.end.1 ∙ ap (λ l. stands.end.0 ++ l) steps

      -- keys are passed over
      module _ (bound : String Global) (skips : SkipsListed lists q (string_bytes e.0) (string_bytes bound)) (new : List (String Global × V)) (same : new ≡ from_bound bound es) where
        dead : (t : List ℕ) → text_cmp t (string_bytes e.0) ≢ Less → text_cmp t (string_bytes bound) ≡ Less → IsListed lists t → (v : V) → f (t, v) ≡ []
        dead t above below is v = ap (λ b. cond b ((t, v) ∷ []) []) (skips.none t above below is)

        walked : IsPassed f es rest new
        walked = subst (IsPassed f es rest) (sym same) (passed (IsListed lists) f bound es stands.end.0 rest e whole sorted here.1 skips.after dead)

        pub fewer : length new < length before
        fewer = let split = walked.split in omega (arith, ap length steps, ap length split.whole, length-append split.over new)

        pub stands_after_jump : Stands found new
        stands_after_jump =
            let p = walked in
            let lost = nothing_lost f es rest new e p (dead (string_bytes e.0) (not_below_itself (string_bytes e.0)) skips.after here.0 e.1) in
            let left = ap (λ l. e ∷ l) p.split.whole in
            record {
              more = λ end all. stands.more end (subst (λ l. AllGathered gathers found l end) (sym lost ∙ ap (λ l. flat_map f (texts_of l)) (sym steps)) all);
              keys = all_at_end IsKeyed (e ∷ p.split.over) new (subst (λ l. AllByRecursion IsKeyed (texts_of l)) left keyed);
              listed = all_at_end (λ x. IsListed lists x.0) (e ∷ p.split.over) new (subst (λ l. AllByRecursion (λ x. IsListed lists x.0) (texts_of l)) left here);
              end = p.end;
            }

      -- none is left
      pub all_found : NoneFrom lists q (string_bytes e.0) → All found
      all_found none =
          let gone : (t : List ℕ) → text_cmp t (string_bytes e.0) ≢ Less → IsListed lists t → (v : V) → f (t, v) ≡ [] =
          λ t above is v. ap (λ b. cond b ((t, v) ∷ []) []) (none t above is) in
          let in_order : IsStrictlySortedBy string_cmp (keys_of (stands.end.0 ++ e ∷ rest)) = subst (λ l. IsStrictlySortedBy string_cmp (keys_of l)) whole sorted in
          let over : flat_map f (texts_of (e ∷ rest)) ≡ [] =
          λ i. gone (string_bytes e.0) (not_below_itself (string_bytes e.0)) here.0 e.1 i ++ none_left (IsListed lists) f e.0 rest (sorted_end stands.end.0 (e ∷ rest) in_order) here.1 gone i in
          all_by found before stands (ap (λ l. flat_map f (texts_of l)) steps ∙ over)

      -- a key is looked at
      pub stands_after_look : (next : T) → AllGathered gathers found (f (string_bytes e.0, e.1)) next → Stands next rest
      stands_after_look next put = record {
        more = λ end all.
            stands.more end
            (subst (λ l. AllGathered gathers found (flat_map f (texts_of l)) end) (sym steps)
            (gathered_joined gathers (f (string_bytes e.0, e.1)) (flat_map f (texts_of rest)) found next end put all));
        keys = keyed.1;
        listed = here.1;
        end = (stands.end.0 ++ e ∷ [], whole ∙ sym (append_assoc stands.end.0 (e ∷ []) rest));
      }
