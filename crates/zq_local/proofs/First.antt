-- The first hats of a configuration: that of Local stands among bare ones.
use Rattle.std.proofs.Common.{◌≡◌, ◌∙◌, refl, sym, ap, subst, ℕ, ◌<◌, Bool, true, false, cond, List, [], ◌∷◌, ◌++◌, Option, Some, None, arith}
use Rattle.std.specs.Prelude.{fold, ◌||◌}
use Rattle.std.specs.BTreeMap.{insert_entry}
use Rattle.std.specs.Cmp.{nat_cmp_is}
use Rattle.std.specs.List.{AllByRecursion, list_any}
use Rattle.std.specs.Ordering.{match_ordering, nat_cmp}
use Rattle.std.specs.declared.cmp.Ordering.{Ordering}
use Rattle.std.specs.declared.cmp.Ordering.TheVariants.{Less, Equal, Greater}
use Rattle.std.proofs.lemmas.Bool.{false≢true}
use Rattle.zq_strategy.specs.State.{HatState}
use Rattle.zq_machine.specs.declared.config.Entry.{Entry}
use Rattle.zq_machine.specs.declared.config.Entry.TheVariants as entry
use Rattle.zq_machine.specs.Configs.{Settings, has_local, is_local_entry}
use Rattle.zq_machine.specs.State.{first_hats, with_hat}
use Rattle.zq_local.specs.Seated.{AreHats, IsBare, hat_with}
use Rattle.zq_local.proofs.Ends.{greater, lesser}

abbrev Low : ℕ × HatState → Type 0
Low e = (e.0 < 1) × IsBare e.1

abbrev High : ℕ × HatState → Type 0
High e = (1 < e.0) × IsBare e.1

abbrev middle : Option HatState → List (ℕ × HatState)
middle None = []
middle (Some h) = (1, h) ∷ []

-- the hats before Local's, that one if it is there, and those after it
record Parts (hats : List (ℕ × HatState)) (mid : Option HatState) : Type 0 where
  before : List (ℕ × HatState)
  after : List (ℕ × HatState)
  parts : hats ≡ before ++ (middle mid ++ after)
  low : AllByRecursion Low before
  high : AllByRecursion High after

module _ (k : ℕ) (v : HatState) where
  past : (xs rest : List (ℕ × HatState)) → AllByRecursion (λ (e : ℕ × HatState). e.0 < k) xs → insert_entry nat_cmp (xs ++ rest) k v ≡ xs ++ insert_entry nat_cmp rest k v
  past [] rest all = refl
  past (e ∷ xs) rest all =
      ap (λ r. match_ordering r ((k, v) ∷ e ∷ (xs ++ rest)) ((e.0, v) ∷ (xs ++ rest)) (e ∷ insert_entry nat_cmp (xs ++ rest) k v)) (greater k e.0 all.0)
      ∙ ap (λ l. e ∷ l) (past xs rest all.1)

  -- before all of them
  in_front : (rest : List (ℕ × HatState)) → AllByRecursion (λ (e : ℕ × HatState). k < e.0) rest → insert_entry nat_cmp rest k v ≡ (k, v) ∷ rest
  in_front [] all = refl
  in_front (e ∷ rest) all = ap (λ r. match_ordering r ((k, v) ∷ e ∷ rest) ((e.0, v) ∷ rest) (e ∷ insert_entry nat_cmp rest k v)) (lesser k e.0 all.0)

  same_place : (e : ℕ × HatState) (rest : List (ℕ × HatState)) → k ≡ e.0 → insert_entry nat_cmp (e ∷ rest) k v ≡ (e.0, v) ∷ rest
  same_place e rest same = ap (λ r. match_ordering r ((k, v) ∷ e ∷ rest) ((e.0, v) ∷ rest) (e ∷ insert_entry nat_cmp rest k v)) (sym (nat_cmp_is k e.0 Equal same))

  all_high : 1 < k → IsBare v → (xs : List (ℕ × HatState)) → AllByRecursion High xs → AllByRecursion High (insert_entry nat_cmp xs k v)
  all_high above bare [] all = ((above, bare), tt)
  all_high above bare (e ∷ xs) all = by (nat_cmp k e.0) (all_high above bare xs all.1)
    where
      by : (r : Ordering) → AllByRecursion High (insert_entry nat_cmp xs k v) → AllByRecursion High (match_ordering r ((k, v) ∷ e ∷ xs) ((e.0, v) ∷ xs) (e ∷ insert_entry nat_cmp xs k v))
      by Less ih = ((above, bare), all)
      by Equal ih = ((all.0.0, bare), all.1)
      by Greater ih = (all.0, ih)

all_keys : (P Q : ℕ → Type 0) → ((n : ℕ) → P n → Q n) → (xs : List (ℕ × HatState)) → AllByRecursion (λ (e : ℕ × HatState). P e.0 × IsBare e.1) xs → AllByRecursion (λ (e : ℕ × HatState). Q e.0) xs
all_keys P Q gives [] all = tt
all_keys P Q gives (e ∷ xs) all = (gives e.0 all.0.0, all_keys P Q gives xs all.1)

mid_above : (k : ℕ) → k < 1 → (mid : Option HatState) (xs : List (ℕ × HatState)) → AllByRecursion High xs → AllByRecursion (λ (e : ℕ × HatState). k < e.0) (middle mid ++ xs)
mid_above k low None xs all = all_keys (λ n. 1 < n) (λ n. k < n) (λ n less. omega (arith, low, less)) xs all
mid_above k low (Some h) xs all = (low, all_keys (λ n. 1 < n) (λ n. k < n) (λ n less. omega (arith, low, less)) xs all)

mid_below : (k : ℕ) → 1 < k → (mid : Option HatState) → AllByRecursion (λ (e : ℕ × HatState). e.0 < k) (middle mid)
mid_below k above None = tt
mid_below k above (Some h) = (above, tt)

put_low : (k : ℕ) (v : HatState) → k < 1 → IsBare v → (hats : List (ℕ × HatState)) (mid : Option HatState) → Parts hats mid → Parts (insert_entry nat_cmp hats k v) mid
put_low k v low bare hats mid p = by p.before p.parts p.low
  where
    by : (before : List (ℕ × HatState)) → hats ≡ before ++ (middle mid ++ p.after) → AllByRecursion Low before → Parts (insert_entry nat_cmp hats k v) mid
    by [] is all = record {
      before = (k, v) ∷ [];
      after = p.after;
      parts = ap (λ l. insert_entry nat_cmp l k v) is ∙ in_front k v (middle mid ++ p.after) (mid_above k low mid p.after p.high);
      low = ((low, bare), tt);
      high = p.high;
    }
    by (e ∷ before) is all = record {
      before = (e.0, v) ∷ before;
      after = p.after;
      parts = ap (λ l. insert_entry nat_cmp l k v) is ∙ same_place k v e (before ++ (middle mid ++ p.after)) (let other = all.0.0 in omega (arith, low, other));
      low = ((all.0.0, bare), all.1);
      high = p.high;
    }

put_high : (k : ℕ) (v : HatState) → 1 < k → IsBare v → (hats : List (ℕ × HatState)) (mid : Option HatState) → Parts hats mid → Parts (insert_entry nat_cmp hats k v) mid
put_high k v above bare hats mid p = record {
  before = p.before;
  after = insert_entry nat_cmp p.after k v;
  parts =
      ap (λ l. insert_entry nat_cmp l k v) p.parts
      ∙ past k v p.before (middle mid ++ p.after) (all_keys (λ n. n < 1) (λ n. n < k) (λ n less. omega (arith, less, above)) p.before p.low)
      ∙ ap (λ l. p.before ++ l) (past k v (middle mid) p.after (mid_below k above mid));
  low = p.low;
  high = all_high k v above bare p.after p.high;
}

put_mid : (v : HatState) (hats : List (ℕ × HatState)) (mid : Option HatState) → Parts hats mid → Parts (insert_entry nat_cmp hats 1 v) (Some v)
put_mid v hats mid p = record {
  before = p.before;
  after = p.after;
  parts =
      ap (λ l. insert_entry nat_cmp l 1 v) p.parts
      ∙ past 1 v p.before (middle mid ++ p.after) (all_keys (λ n. n < 1) (λ n. n < 1) (λ n less. less) p.before p.low)
      ∙ ap (λ l. p.before ++ l) (by mid);
  low = p.low;
  high = p.high;
}
  where
    by : (mid : Option HatState) → insert_entry nat_cmp (middle mid ++ p.after) 1 v ≡ (1, v) ∷ p.after
    by None = in_front 1 v p.after (all_keys (λ n. 1 < n) (λ n. 1 < n) (λ n less. less) p.after p.high)
    by (Some h) = same_place 1 v (1, h) p.after refl

module _ (config : Settings) where
  abbrev local : HatState
  local = hat_with config []

  abbrev mid_then : Entry → Option HatState → Option HatState
  mid_then e mid = cond (is_local_entry e) (Some local) mid

  one_more : (e : Entry) (hats : List (ℕ × HatState)) (mid : Option HatState) → Parts hats mid → Parts (with_hat config hats e) (mid_then e mid)
  one_more (entry.North mode) hats mid p = put_low 0 _ (omega arith) (record { faces = refl; entries = refl }) hats mid p
  one_more entry.Local hats mid p = put_mid local hats mid p
  one_more (entry.South id mode) hats mid p = put_high _ _ (omega arith) (record { faces = refl; entries = refl }) hats mid p

  abbrev mid_after : List Entry → Option HatState → Option HatState
  mid_after [] mid = mid
  mid_after (e ∷ es) mid = mid_after es (mid_then e mid)

  all_more : (es : List Entry) (hats : List (ℕ × HatState)) (mid : Option HatState) → Parts hats mid → Parts (fold (with_hat config) hats es) (mid_after es mid)
  all_more [] hats mid p = p
  all_more (e ∷ es) hats mid p = all_more es (with_hat config hats e) (mid_then e mid) (one_more e hats mid p)

  stays : (es : List Entry) → mid_after es (Some local) ≡ Some local
  stays [] = refl
  stays (e ∷ es) = ap (mid_after es) (by (is_local_entry e)) ∙ stays es
    where
      by : (b : Bool) → ◌≡◌ {A = Option HatState} (cond b (Some local) (Some local)) (Some local)
      by true = refl
      by false = refl

  is_there : (es : List Entry) (mid : Option HatState) → list_any is_local_entry es ≡ true → mid_after es mid ≡ Some local
  is_there [] mid h = absurd (false≢true h)
  is_there (e ∷ es) mid h = by (is_local_entry e) h (is_there es mid)
    where
      by : (b : Bool) → (b || list_any is_local_entry es) ≡ true → (list_any is_local_entry es ≡ true → mid_after es mid ≡ Some local) → mid_after es (cond b (Some local) mid) ≡ Some local
      by true g more = stays es
      by false g more = more g

  pub first_are : has_local config.entries ≡ true → AreHats (first_hats config) local
  first_are h =
      let p : Parts (first_hats config) (Some local) = subst (Parts (first_hats config)) (is_there config.entries None h) (all_more config.entries [] None (record { before = []; after = []; parts = refl; low = tt; high = tt })) in
      record { before = p.before; after = p.after; parts = p.parts; none_before = p.low; none_after = p.high }
