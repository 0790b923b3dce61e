-- A number leaves the matches of other nodes.
use Rattle.std.proofs.Common.{◌≡◌, ◌≢◌, ℕ, Bool, true, false, cond, not, eqb, List, [], ◌∷◌, ◌++◌, map, filter, get_or, set, Option, Some, None, IsSome, subst, sym, ap, ◌∙◌, refl, arith, zero, suc, inl, inr, ◌⊎◌, is_some}
use Rattle.std.specs.List.{Contains}
use Rattle.std.proofs.lemmas.Bool.{cases_eq, false≢true}
use Rattle.std.proofs.lemmas.Bool.Decides.{nat_tests}
use Rattle.std.proofs.lemmas.List.Elements.{Contains-append_left, Contains-append_right, Contains-append_cases}
use Rattle.zq_names.specs.declared.node.Node.{Node}
use Rattle.zq_names.specs.declared.node.ResourceId.{ResourceId}
use Rattle.zq_names.specs.Names.{NameEntry, IsTable, IsNames, IsLinked, slot, slot_context, slot_matches, slot_former, row, rows, texts, without_match}
use Rattle.zq_names.specs.Forgetting.{Drops}
use Rattle.zq_names.proofs.Table.{Changes-with_value, each_slot}

-- ---- lists without a number

abbrev other : ℕ → ResourceId → Bool
other i m = not (eqb m.0 i)

abbrev others_of : ℕ → List ResourceId → List ResourceId
others_of i ms = filter (other i) ms

filter_twice-step : (i : ℕ) (m : ResourceId) (ms : List ResourceId) (b : Bool) → other i m ≡ b → others_of i ms ≡ others_of i (others_of i ms)
    → cond b (m ∷ others_of i ms) (others_of i ms) ≡ others_of i (cond b (m ∷ others_of i ms) (others_of i ms))
filter_twice-step i m ms true e later = rw (e, ← later)
filter_twice-step i m ms false e later = later

filter_twice : (i : ℕ) (ms : List ResourceId) → others_of i ms ≡ others_of i (others_of i ms)
filter_twice i [] = refl
filter_twice i (m ∷ ms) = filter_twice-step i m ms (other i m) refl (filter_twice i ms)

Contains-cons : {X : Type 0} (y : X) (xs : List X) (x : X) → Contains xs x → Contains (y ∷ xs) x
Contains-cons y xs x has = Contains-append_right (y ∷ []) xs x has

Contains-here : {X : Type 0} (xs : List X) (x : X) → Contains (x ∷ xs) x
Contains-here xs x = (zero, omega arith, refl)

-- what is kept was there
pub from_others : (i : ℕ) (ms : List ResourceId) (x : ResourceId) → Contains (others_of i ms) x → Contains ms x
from_others i [] x has = has
from_others i (m ∷ ms) x has = by (other i m) has (from_others i ms x)
  where
    by : (b : Bool) → Contains (cond b (m ∷ others_of i ms) (others_of i ms)) x → (Contains (others_of i ms) x → Contains ms x) → Contains (m ∷ ms) x
    by true h more = elim (Contains-append_cases (m ∷ []) (others_of i ms) x h) [
      | inl first ↦ Contains-append_left (m ∷ []) ms x first
      | inr later ↦ Contains-cons m ms x (more later)
    ]
    by false h more = Contains-cons m ms x (more h)

-- another number is kept
pub to_others : (i : ℕ) (ms : List ResourceId) (x : ResourceId) → x.0 ≢ i → Contains ms x → Contains (others_of i ms) x
to_others i [] x differ has = has
to_others i (m ∷ ms) x differ has = by (other i m) refl (Contains-append_cases (m ∷ []) ms x has) (to_others i ms x differ)
  where
    same : Contains (m ∷ []) x → m ≡ x
    same (zero, lt, is) = is
    same (suc k, lt, is) = absurd (omega arith)

    by : (b : Bool) → other i m ≡ b → Contains (m ∷ []) x ⊎ Contains ms x → (Contains ms x → Contains (others_of i ms) x) → Contains (cond b (m ∷ others_of i ms) (others_of i ms)) x
    by true e (inl first) more = Contains-append_left (m ∷ []) (others_of i ms) x first
    by true e (inr later) more = Contains-cons m (others_of i ms) x (more later)
    by false e (inl first) more = let is : m.0 ≡ x.0 = ap (λ (r : ResourceId). r.0) (same first) in absurd (differ (grind (arith, nat_tests)))
    by false e (inr later) more = more later

-- the number itself is not
pub not_among_others : (i : ℕ) (ms : List ResourceId) (x : ResourceId) → x.0 ≡ i → Contains (others_of i ms) x → ⊥
not_among_others i [] x is (k, lt, e) = omega arith
not_among_others i (m ∷ ms) x is has = by (other i m) refl has (not_among_others i ms x is)
  where
    same : Contains (m ∷ []) x → m ≡ x
    same (zero, lt, is) = is
    same (suc k, lt, is) = absurd (omega arith)

    by : (b : Bool) → other i m ≡ b → Contains (cond b (m ∷ others_of i ms) (others_of i ms)) x → (Contains (others_of i ms) x → ⊥) → ⊥
    by true e h more = elim (Contains-append_cases (m ∷ []) (others_of i ms) x h) [
      | inl first ↦ let here : m.0 ≡ x.0 = ap (λ (r : ResourceId). r.0) (same first) in let is_i : eqb m.0 i ≡ true = grind (arith, nat_tests) in false≢true (rw is_i at e)
      | inr later ↦ more later
    ]
    by false e h more = more h

-- a list without the number stays
pub others-none : (i : ℕ) (ms : List ResourceId) → ((x : ResourceId) → x.0 ≡ i → Contains ms x → ⊥) → others_of i ms ≡ ms
others-none i [] none = refl
others-none i (m ∷ ms) none = by (other i m) refl (others-none i ms (λ x is has. none x is (Contains-cons m ms x has)))
  where
    by : (b : Bool) → other i m ≡ b → others_of i ms ≡ ms → cond b (m ∷ others_of i ms) (others_of i ms) ≡ m ∷ ms
    by true e later = rw later
    by false e later = let is : m.0 ≡ i = grind (arith, nat_tests) in absurd (none m is (Contains-here ms m))

-- ---- steps

pub Drops-empty : (old : List (Option Node)) (i : ℕ) → Drops old old i []
Drops-empty old i = record { same = λ j. refl; live = λ j. refl; former = λ j. refl; fewer = λ j m has. has; gone = λ h m (k, lt, e). absurd (omega arith) }

one_holder : (x y : ResourceId) → Contains (x ∷ []) y → y.0 ≡ x.0
one_holder x y (zero, lt, is) = sym (ap (λ (r : ResourceId). r.0) is)
one_holder x y (suc k, lt, is) = absurd (omega arith)

pub Drops-none : (old : List (Option Node)) (i : ℕ) (holder : ResourceId) → (IsSome (slot old holder.0) → ⊥) → Drops old old i (holder ∷ [])
Drops-none old i holder none = record {
  same = λ j. refl;
  live = λ j. refl;
  former = λ j. refl;
  fewer = λ j m has. has;
  gone = λ h m held is has. empty (slot old h.0) (λ some. none (rw (one_holder holder h held) at some)) m has;
}
  where
    empty : (o : Option Node) → (IsSome o → ⊥) → (m : ResourceId) → Contains (slot_matches o) m → ⊥
    empty None never m (k, lt, e) = omega arith
    empty (Some n) never m has = never refl

pub Drops-written : (old : List (Option Node)) (i : ℕ) (holder : ResourceId) (before after : Node) → slot old holder.0 ≡ Some before
    → after.matches.items ≡ others_of i before.matches.items → after.text ≡ before.text → after.context ≡ before.context → after.holds ≡ before.holds → after.former ≡ before.former
    → Drops old (set old holder.0 (Some after)) i (holder ∷ [])
Drops-written old i holder before after was fewer text context holds former =
    let new = set old holder.0 (Some after) in
    let changes = Changes-with_value old holder.0 before after was in
    record {
      same = λ j. elim (cases_eq j holder.0) [
        | inl here ↦ rw (here, changes.is, changes.was, fewer, ← filter_twice, text, context, holds)
        | inr differ ↦ rw (changes.others j differ)
      ];
      live = each_slot is_some old new holder.0 before after changes refl;
      former = each_slot slot_former old new holder.0 before after changes (ap (λ ms. ms.items) former);
      fewer = λ j m has. elim (cases_eq j holder.0) [
        | inl here ↦ rw (here, changes.was) (from_others i before.matches.items m (rw (here, changes.is, fewer) at has))
        | inr differ ↦ rw (changes.others j differ) at has
      ];
      gone = λ h m held is has. not_among_others i before.matches.items m is (rw (one_holder holder h held, changes.is, fewer) at has);
    }

pub Drops-more : (a b c : List (Option Node)) (i : ℕ) (xs ys : List ResourceId) → Drops a b i xs → Drops b c i ys → Drops a c i (xs ++ ys)
Drops-more a b c i xs ys first second = record {
  same = λ j. second.same j ∙ first.same j;
  live = λ j. second.live j ∙ first.live j;
  former = λ j. second.former j ∙ first.former j;
  fewer = λ j m has. first.fewer j m (second.fewer j m has);
  gone = λ h m held is has. elim (Contains-append_cases xs ys h held) [
    | inl in_first ↦ first.gone h m in_first is (second.fewer h.0 m has)
    | inr in_second ↦ second.gone h m in_second is has
  ];
}

-- ---- a node that is taken out

-- the number's node is gone, and those that it had among its matches and former ones have dropped it
pub record Forgets (old middle new : List (Option Node)) (i : ℕ) (node : Node) : Type 0 where
  pub was : slot old i ≡ Some node
  pub is : slot middle i ≡ None
  pub others : (j : ℕ) → j ≢ i → slot middle j ≡ slot old j
  pub drops : Drops middle new i (node.matches.items ++ node.former.items)

nothing_in : {X : Type 0} (x : X) → Contains [] x → ⊥
nothing_in x (k, lt, e) = omega arith

none_there : (o : Option Node) → o ≡ None → (m : ResourceId) → Contains (slot_matches o) m → ⊥
none_there o is m has = nothing_in m (rw is at has)

-- what is among the matches at last was among them at first, and at another node
was_there : (old middle new : List (Option Node)) (i : ℕ) (node : Node) → Forgets old middle new i node → (j : ℕ) (m : ResourceId) → Contains (slot_matches (slot new j)) m
    → (j ≢ i) × Contains (slot_matches (slot old j)) m
was_there old middle new i node forgets j m has =
    let before = forgets.drops.fewer j m has in
    elim (cases_eq j i) [
      | inl here ↦ absurd (none_there (slot middle j) (ap (slot middle) here ∙ forgets.is) m before)
      | inr differ ↦ (differ, rw (forgets.others j differ) at before)
    ]

-- no node has the number among its matches
pub holds_nothing : (old middle new : List (Option Node)) (i : ℕ) (node : Node) → IsLinked old → Forgets old middle new i node → (j : ℕ) (m : ResourceId) → m.0 ≡ i → Contains (slot_matches (slot new j)) m → ⊥
holds_nothing old middle new i node linked forgets j m is has =
    let before = was_there old middle new i node forgets j m has in
    let holder : ResourceId = record { 0 = j } in
    let H : Option Node → Type 0 = λ (o : Option Node). Contains (slot_matches o ++ slot_former o) holder in
    let held = linked.both_ways m holder before.1 in
    forgets.drops.gone holder m (subst H (ap (slot old) is ∙ forgets.was) held) is has

entry-forgot : (i : ℕ) (e e' : NameEntry) → without_match i e' ≡ without_match i e → ((m : ResourceId) → m.0 ≡ i → Contains e'.matches m → ⊥) → e' ≡ without_match i e
entry-forgot i e e' same none = sym (ap (λ (ms : List ResourceId). record e' { matches = ms }) (others-none i e'.matches none)) ∙ same

pub rows-forgot : (old middle new : List (Option Node)) (order : List ℕ) (i : ℕ) (node : Node) → IsLinked old → Forgets old middle new i node → rows new order ≡ map (without_match i) (rows middle order)
rows-forgot old middle new [] i node linked forgets = refl
rows-forgot old middle new (j ∷ js) i node linked forgets =
    let here : row new j ≡ without_match i (row middle j) = entry-forgot i (row middle j) (row new j) (forgets.drops.same j) (λ m is has. holds_nothing old middle new i node linked forgets j m is has) in
    rw (here, rows-forgot old middle new js i node linked forgets)

pub texts-without : (i : ℕ) (ns : List NameEntry) → texts (map (without_match i) ns) ≡ texts ns
texts-without i [] = refl
texts-without i (e ∷ es) = rw (texts-without i es)

pub IsTable-forgot : (old middle new : List (Option Node)) (order : List ℕ) (i : ℕ) (node : Node) → IsLinked old → Forgets old middle new i node → IsTable middle order → IsTable new order
IsTable-forgot old middle new order i node linked forgets table =
    let N : List (List ℕ) → Type 0 = IsNames order in
    let shown : texts (rows new order) ≡ texts (rows middle order) = ap texts (rows-forgot old middle new order i node linked forgets) ∙ texts-without i (rows middle order) in
    record {
      live = λ k d lt. forgets.drops.live (get_or order k d) ∙ table.live k d lt;
      covered = λ j some. table.covered j (sym (forgets.drops.live j) ∙ some);
      names = subst N (sym shown) table.names;
    }

pub IsLinked-forgot : (old middle new : List (Option Node)) (i : ℕ) (node : Node) → IsLinked old → Forgets old middle new i node → IsLinked new
IsLinked-forgot old middle new i node linked forgets = record {
  both_ways = λ a b has.
      let before = was_there old middle new i node forgets b.0 a has in
      let C : List ResourceId → Type 0 = λ (l : List ResourceId). Contains l b in
      let here = forgets.others a.0 (apart a b has) in
      let kept : others_of i (slot_matches (slot old a.0)) ≡ others_of i (slot_matches (slot new a.0)) =
      ap (λ (o : Option Node). others_of i (slot_matches o)) (sym here) ∙ sym (ap (λ (e : NameEntry). e.matches) (forgets.drops.same a.0)) in
      elim (Contains-append_cases (slot_matches (slot old a.0)) (slot_former (slot old a.0)) b (linked.both_ways a b before.1)) [
        | inl among ↦ Contains-append_left (slot_matches (slot new a.0)) (slot_former (slot new a.0)) b (from_others i (slot_matches (slot new a.0)) b (subst C kept (to_others i (slot_matches (slot old a.0)) b before.0 among)))
        | inr once ↦ Contains-append_right (slot_matches (slot new a.0)) (slot_former (slot new a.0)) b (subst C (ap slot_former (sym here) ∙ sym (forgets.drops.former a.0)) once)
      ];
  contexts = λ a b has.
      let before = was_there old middle new i node forgets b.0 a has in
      let both = linked.contexts a b before.1 in
      (context b.0 before.0 ∙ both.0, context a.0 (apart a b has) ∙ both.1);
}
  where
    apart : (a b : ResourceId) → Contains (slot_matches (slot new b.0)) a → a.0 ≢ i
    apart a b has is = holds_nothing old middle new i node linked forgets b.0 a is has

    context : (k : ℕ) → k ≢ i → slot_context (slot new k) ≡ slot_context (slot old k)
    context k differ = ap (λ (e : NameEntry). e.context) (forgets.drops.same k) ∙ ap slot_context (forgets.others k differ)
