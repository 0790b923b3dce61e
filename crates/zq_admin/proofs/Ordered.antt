-- The keys of entries stand in the order of their bytes, each once.
use Rattle.std.proofs.Common.{◌≡◌, ◌∙◌, refl, sym, ap, subst, ℕ, Bool, true, false, IfOk, Result, Ok, Err, List, [], ◌∷◌, ◌++◌, append_assoc, filter}
use Rattle.std.specs.Prelude.{◌&&◌, codes}
use Rattle.std.specs.Cmp.Lexicographic.{slice_cmp}
use Rattle.std.specs.List.{AllByRecursion}
use Rattle.std.specs.List.Sorted.{IsStrictlySortedBy}
use Rattle.std.specs.Map.{keys_of}
use Rattle.std.specs.Ordering.{nat_cmp}
use Rattle.std.specs.declared.cmp.Ordering.TheVariants.{Less}
use Rattle.std.proofs.lemmas.List.Kept.{IsStrictlySortedBy-filter}
use Rattle.std.proofs.lemmas.Map.Keys.{sorted_head, sorted_tail}
use Rattle.zq_message.specs.declared.memory.OutOfMemory.{OutOfMemory}
use Rattle.zq_key.specs.Key.{intersects, is_key}
use Rattle.zq_key.specs.Space.{behind}
use Rattle.zq_key.proofs.Behind.{order-behind}
use Rattle.zq_io.specs.Values.{mode_word, zid_word}
use Rattle.zq_hat.specs.declared.sources.Source.{Source}
use Rattle.zq_hat.proofs.Regions.{queriers_joined, queryables_joined}
use Rattle.zq_machine.specs.State.{State}
use Rattle.zq_admin.specs.Entries.{AreInOrder, Entry, entries, entries_met, entries_under, front, own_source}

-- ---- lists of entries in order

begins : (e : Entry) (es : List Entry) → AllByRecursion (λ k. slice_cmp nat_cmp e.0 k ≡ Less) (keys_of es) → AreInOrder es → AreInOrder (e ∷ es)
unfolding IsStrictlySortedBy
begins e es above s = (above, s)

-- what follows is above all that stands before
abbrev AllBelow : List Entry → List Entry → Type 0
AllBelow [] fs = Unit {0}
AllBelow (e ∷ es) fs = AllByRecursion (λ k. slice_cmp nat_cmp e.0 k ≡ Less) (keys_of fs) × AllBelow es fs

joined : (e : Entry) (es fs : List Entry) → AllByRecursion (λ k. slice_cmp nat_cmp e.0 k ≡ Less) (keys_of es) → AllByRecursion (λ k. slice_cmp nat_cmp e.0 k ≡ Less) (keys_of fs) → AllByRecursion (λ k. slice_cmp nat_cmp e.0 k ≡ Less) (keys_of (es ++ fs))
joined e [] fs a b = b
joined e (x ∷ es) fs a b = (a.0, joined e es fs a.1 b)

followed : (es fs : List Entry) → AreInOrder es → AreInOrder fs → AllBelow es fs → AreInOrder (es ++ fs)
followed [] fs s t below = t
followed (e ∷ es) fs s t below =
    begins e (es ++ fs) (joined e es fs (sorted_head (slice_cmp nat_cmp) e.0 (keys_of es) s) below.0) (followed es fs (sorted_tail (slice_cmp nat_cmp) e.0 (keys_of es) s) t below.1)

-- ---- those that are kept

kept_by : (p : List ℕ → Bool) (e : Entry) (es : List Entry) (b : Bool) → p e.0 ≡ b → keys_of (filter (λ x. p x.0) es) ≡ filter p (keys_of es) → keys_of (filter (λ x. p x.0) (e ∷ es)) ≡ filter p (e.0 ∷ keys_of es)
kept_by p e es true h ih = rw h (ap (λ l. e.0 ∷ l) ih)
kept_by p e es false h ih = rw h ih

kept_keys : (p : List ℕ → Bool) (es : List Entry) → keys_of (filter (λ x. p x.0) es) ≡ filter p (keys_of es)
kept_keys p [] = refl
kept_keys p (e ∷ es) = kept_by p e es (p e.0) refl (kept_keys p es)

kept : (p : List ℕ → Bool) (es : List Entry) → AreInOrder es → AreInOrder (filter (λ x. p x.0) es)
kept p es s = subst (λ (l : List (List ℕ)). IsStrictlySortedBy (slice_cmp nat_cmp) l) (sym (kept_keys p es)) (IsStrictlySortedBy-filter (slice_cmp nat_cmp) p (keys_of es) s)

-- ---- behind what they begin with

above_under : (before key : List ℕ) (es : List Entry) → AllByRecursion (λ k. slice_cmp nat_cmp key k ≡ Less) (keys_of es) → AllByRecursion (λ k. slice_cmp nat_cmp (behind before key) k ≡ Less) (keys_of (entries_under before es))
above_under before key [] a = tt
above_under before key (e ∷ es) a = (order-behind before key e.0 ∙ a.0, above_under before key es a.1)

under : (before : List ℕ) (es : List Entry) → AreInOrder es → AreInOrder (entries_under before es)
under before [] s = s
under before (e ∷ es) s =
    begins (behind before e.0, e.1) (entries_under before es) (above_under before e.0 es (sorted_head (slice_cmp nat_cmp) e.0 (keys_of es) s)) (under before es (sorted_tail (slice_cmp nat_cmp) e.0 (keys_of es) s))

-- ---- one kind before the other

abbrev own_front : Source → List ℕ
own_front own = behind (behind (codes "@") (zid_word own.zid)) (mode_word own.mode)

-- a key of a kind, behind what all kinds begin with
of_kind : (own : Source) (kind key : List ℕ) → behind (front own kind) key ≡ behind (own_front own) (behind kind key)
of_kind own kind key = append_assoc (own_front own) (47 ∷ kind) (47 ∷ key)

before_it : (own : Source) (a b : List ℕ) → slice_cmp nat_cmp (behind (front own (codes "querier")) a) (behind (front own (codes "queryable")) b) ≡ Less
before_it own a b =
    (λ j. slice_cmp nat_cmp (of_kind own (codes "querier") a j) (of_kind own (codes "queryable") b j))
    ∙ order-behind (own_front own) (behind (codes "querier") a) (behind (codes "queryable") b)

before_all : (own : Source) (a : List ℕ) (fs : List Entry) → AllByRecursion (λ k. slice_cmp nat_cmp (behind (front own (codes "querier")) a) k ≡ Less) (keys_of (entries_under (front own (codes "queryable")) fs))
before_all own a [] = tt
before_all own a (f ∷ fs) = (before_it own a f.0, before_all own a fs)

all_before : (own : Source) (es fs : List Entry) → AllBelow (entries_under (front own (codes "querier")) es) (entries_under (front own (codes "queryable")) fs)
all_before own [] fs = tt
all_before own (e ∷ es) fs = (before_all own e.0 fs, all_before own es fs)

-- ---- those of a state

all_ordered : (s : State) → AreInOrder (entries s)
all_ordered s =
    let own = own_source s.core.config in
    let es = queriers_joined s.core.interests s.core.hats in
    let fs = queryables_joined own s.core.hats in
    followed _ _ (under (front own (codes "querier")) _ es.ordered) (under (front own (codes "queryable")) _ fs.ordered) (all_before own _ _)

ordered : (key : List ℕ) (s : State) → AreInOrder (entries_met key s)
ordered key s = kept (λ k. is_key k && intersects key k) (entries s) (all_ordered s)

-- entries that were found are in order
pub found_ordered : (key : List ℕ) (s : State) (r : Result (List Entry) OutOfMemory) → IfOk r (λ l. l ≡ entries_met key s) → IfOk r AreInOrder
found_ordered key s (Ok l) same = subst (λ (x : List Entry). AreInOrder x) (sym same) (ordered key s)
found_ordered key s (Err e) same = tt
