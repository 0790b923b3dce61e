-- The first place of each id, as nodes are added at the end.
use Rattle.std.proofs.Common.{◌≡◌, ◌<◌, ℕ, ◌+◌, Bool, true, false, cond, List, [], ◌∷◌, ◌++◌, length, get_or, take, subst, refl, ap, ◌∙◌, sym, arith, Some, None, Option, eqb, eqb-true, true≢false}
use Rattle.std.specs.Prelude.{position, ◌||◌}
use Rattle.std.specs.List.{list_any, position_from}
use Rattle.std.specs.Option.{is_some}
use Rattle.std.specs.Map.{lookup}
use Rattle.std.specs.BTreeSet.{insert_key}
use Rattle.std.proofs.lemmas.List.Folds.{list_any-append}
use Rattle.zq_key.proofs.Sorted.{has_put}
use Rattle.std.specs.BTreeMap.{insert_entry, is_at}
use Rattle.std.specs.Ordering.{nat_cmp}
use Rattle.std.specs.Cmp.{nat_cmp_total}
use Rattle.std.proofs.lemmas.Bool.{eqb-false}
use Rattle.std.proofs.lemmas.List.{take_more, length-take-le}
use Rattle.std.proofs.lemmas.Map.Lookups.{exact_unsigned}
use Rattle.std.proofs.lemmas.Iterator.Adapters.{position_from-zero}
use Rattle.zq_message.specs.declared.message.Zid.{Zid}
use Rattle.zq_key.proofs.Lookups.{differ, either_way, same_key, found_after_insertion}
use Rattle.zq_strategy.specs.Nets.{IsPlaced, is_zid}

-- a look-up by number tests for the number
pub number_test : (k q : ℕ) → is_at (nat_cmp k) q ≡ eqb k q
number_test k q = by (is_at (nat_cmp k) q) (eqb k q) refl refl
  where
    by : (a b : Bool) → is_at (nat_cmp k) q ≡ a → eqb k q ≡ b → a ≡ b
    by true true e h = refl
    by true false e h = absurd (eqb-false k q h (same_key nat_cmp_total exact_unsigned k q e))
    by false true e h = absurd (differ nat_cmp_total exact_unsigned k q e (eqb-true k q h))
    by false false e h = refl

-- the first of two that is there
abbrev first_there : {X : Type 0} → Option X → Option X → Option X
first_there None b = b
first_there (Some a) b = Some a

module _ {X : Type 0} (p : X → Bool) where
  push_by : (i n : ℕ) (b : Bool) (was is : Option ℕ) (y : X) → is ≡ first_there was (cond (p y) (Some n) None) → cond b (Some i) is ≡ first_there (cond b (Some i) was) (cond (p y) (Some n) None)
  push_by i n true was is y ih = refl
  push_by i n false was is y ih = ih

  from_push : (i : ℕ) (xs : List X) (y : X) → position_from p i (xs ++ y ∷ []) ≡ first_there (position_from p i xs) (cond (p y) (Some (i + length xs)) None)
  from_push i [] y = ap (λ n. cond (p y) (Some n) None) (omega arith)
  from_push i (x ∷ xs) y =
      push_by i (i + length (x ∷ xs)) (p x) (position_from p (i + 1) xs) (position_from p (i + 1) (xs ++ y ∷ [])) y
      (from_push (i + 1) xs y ∙ ap (λ n. first_there (position_from p (i + 1) xs) (cond (p y) (Some n) None)) (omega arith))

  -- the first place, with one element more
  position_push : (xs : List X) (y : X) → position p (xs ++ y ∷ []) ≡ first_there (position p xs) (cond (p y) (Some (length xs)) None)
  position_push xs y =
      position_from-zero p (xs ++ y ∷ [])
      ∙ from_push 0 xs y
      ∙ ap (λ n. first_there (position_from p 0 xs) (cond (p y) (Some n) None)) (omega arith)
      ∙ ap (λ o. first_there o (cond (p y) (Some (length xs)) None)) (sym (position_from-zero p xs))

  some_by : (i : ℕ) (b c : Bool) (o : Option ℕ) → is_some o ≡ c → is_some (cond b (Some i) o) ≡ (b || c)
  some_by i true c o ih = refl
  some_by i false c o ih = ih

  from_some : (i : ℕ) (xs : List X) → is_some (position_from p i xs) ≡ list_any p xs
  from_some i [] = refl
  from_some i (x ∷ xs) = some_by i (p x) (list_any p xs) (position_from p (i + 1) xs) (from_some (i + 1) xs)

  -- there is a place exactly where an element passes
  pub position_some : (xs : List X) → is_some (position p xs) ≡ list_any p xs
  position_some xs = ap is_some (position_from-zero p xs) ∙ from_some 0 xs

module _ (nodes : List Zid) (places : List (ℕ × ℕ)) (placed : IsPlaced nodes places) (zid : Zid) where
  -- an id that stands before keeps its place
  pub placed_again : is_some (lookup (is_at (nat_cmp zid.0)) places) ≡ true → IsPlaced (nodes ++ zid ∷ []) places
  placed_again there q = placed q ∙ by (position (is_zid q) nodes) (eqb q.0 zid.0) refl refl ∙ sym (position_push (is_zid q) nodes zid)
    where
      by : (o : Option ℕ) (b : Bool) → position (is_zid q) nodes ≡ o → eqb q.0 zid.0 ≡ b → o ≡ first_there o (cond b (Some (length nodes)) None)
      by (Some n) b e h = refl
      by None false e h = refl
      by None true e h = absurd (true≢false (sym there ∙ ap (λ n. is_some (lookup (is_at (nat_cmp n)) places)) (sym (eqb-true q.0 zid.0 h)) ∙ ap is_some (placed q ∙ e)))

  -- a new id has the place after all others
  pub placed_new : is_some (lookup (is_at (nat_cmp zid.0)) places) ≡ false → IsPlaced (nodes ++ zid ∷ []) (insert_entry nat_cmp places zid.0 (length nodes))
  placed_new absent q =
      found_after_insertion nat_cmp_total exact_unsigned zid.0 q.0 (length nodes) places
      ∙ ap (λ b. cond b (Some (length nodes)) (lookup (is_at (nat_cmp q.0)) places)) (either_way nat_cmp_total exact_unsigned zid.0 q.0 ∙ number_test q.0 zid.0)
      ∙ ap (cond (eqb q.0 zid.0) (Some (length nodes))) (placed q)
      ∙ by (position (is_zid q) nodes) (eqb q.0 zid.0) refl refl
      ∙ sym (position_push (is_zid q) nodes zid)
    where
      by : (o : Option ℕ) (b : Bool) → position (is_zid q) nodes ≡ o → eqb q.0 zid.0 ≡ b → cond b (Some (length nodes)) o ≡ first_there o (cond b (Some (length nodes)) None)
      by None true e h = refl
      by None false e h = refl
      by (Some n) false e h = refl
      by (Some n) true e h = absurd (true≢false (ap is_some (sym (placed q ∙ e)) ∙ ap (λ k. is_some (lookup (is_at (nat_cmp k)) places)) (eqb-true q.0 zid.0 h) ∙ absent))

  -- an id is listed exactly where it has a place
  pub placed_listed : is_some (lookup (is_at (nat_cmp zid.0)) places) ≡ list_any (is_zid zid) nodes
  placed_listed = ap is_some (placed zid) ∙ position_some (is_zid zid) nodes

-- ---- one node further
module _ (nodes : List Zid) (i : ℕ) (d : Zid) (lt : i < length nodes) (places : List (ℕ × ℕ)) (placed : IsPlaced (take i nodes) places) where
  pub next_again : is_some (lookup (is_at (nat_cmp (get_or nodes i d).0)) places) ≡ true → IsPlaced (take (i + 1) nodes) places
  next_again there = subst (λ (xs : List Zid). IsPlaced xs places) (sym (take_more nodes i d lt)) (placed_again (take i nodes) places placed (get_or nodes i d) there)

  pub next_new : is_some (lookup (is_at (nat_cmp (get_or nodes i d).0)) places) ≡ false → IsPlaced (take (i + 1) nodes) (insert_entry nat_cmp places (get_or nodes i d).0 i)
  next_new absent =
      subst (λ (xs : List Zid). IsPlaced xs (insert_entry nat_cmp places (get_or nodes i d).0 i)) (sym (take_more nodes i d lt))
      (subst (λ n. IsPlaced (take i nodes ++ get_or nodes i d ∷ []) (insert_entry nat_cmp places (get_or nodes i d).0 n)) (length-take-le i nodes (omega arith)) (placed_new (take i nodes) places placed (get_or nodes i d) absent))

-- ---- ids that are kept as numbers
or_last : (a b : Bool) → (a || b) ≡ (b || (a || false))
or_last true true = refl
or_last true false = refl
or_last false true = refl
or_last false false = refl

-- the ids of one node more
pub next_id : (nodes : List Zid) (i : ℕ) (d : Zid) → i < length nodes → (ids : List ℕ) → ((z : Zid) → list_any (is_at (nat_cmp z.0)) ids ≡ list_any (is_zid z) (take i nodes))
    → (z : Zid) → list_any (is_at (nat_cmp z.0)) (insert_key nat_cmp ids (get_or nodes i d).0) ≡ list_any (is_zid z) (take (i + 1) nodes)
next_id nodes i d lt ids same z =
    let x = get_or nodes i d in
    has_put nat_cmp_total exact_unsigned z.0 x.0 ids
    ∙ (λ j. number_test z.0 x.0 j || same z j)
    ∙ or_last (eqb z.0 x.0) (list_any (is_zid z) (take i nodes))
    ∙ sym (list_any-append (is_zid z) (take i nodes) (x ∷ []))
    ∙ ap (list_any (is_zid z)) (sym (take_more nodes i d lt))
