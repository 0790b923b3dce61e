-- What a call looks at for one face of many, and what stands there of a key; and keys in order that pass a test.
use Rattle.std.proofs.Common.{◌≡◌, ◌∙◌, refl, sym, ap, subst, ℕ, Bool, true, false, cond, List, [], ◌∷◌, ◌++◌, filter, map, Option, Some, None}
use Rattle.std.specs.Prelude.{◌&&◌, ◌||◌}
use Rattle.std.specs.BTreeMap.{is_at}
use Rattle.std.specs.List.{AllByRecursion, flat_map}
use Rattle.std.specs.List.Sorted.{IsStrictlySortedBy}
use Rattle.std.specs.Map.{keys_of}
use Rattle.std.specs.Option.{is_some, option_map_or}
use Rattle.std.specs.Ordering.{nat_cmp}
use Rattle.std.specs.declared.cmp.Ordering.TheVariants.{Less}
use Rattle.std.proofs.lemmas.List.Kept.{IsStrictlySortedBy-filter}
use Rattle.std.proofs.lemmas.Map.Keys.{sorted_head, sorted_tail}
use Rattle.zq_message.specs.declared.message.QueryableInfoType.{QueryableInfoType}
use Rattle.zq_key.proofs.Lookups.{same_key}
use Rattle.zq_key.proofs.Sorted.{same_keys}
use Rattle.zq_index.specs.Texts.{at_text, text_cmp}
use Rattle.zq_index.proofs.Orders.{text_exact, text_total}
use Rattle.zq_told.specs.declared.types.FaceUpdate.{FaceUpdate}
use Rattle.zq_told.specs.declared.types.Reason.{Reason}
use Rattle.zq_told.specs.Telling.{KeyDue}
use Rattle.zq_told.specs.Laws.{InOrder, aim, aim_on, keys_for}
use Rattle.zq_machine.specs.Neighbours.{with_dues}
use Rattle.zq_machine.specs.State.{at}
use Rattle.zq_machine.proofs.Changing.{itself, one_number}
use Rattle.zq_machine.proofs.DueKeys.{is_among}

-- ---- keys that pass a test
among_by : (p : List ℕ → Bool) (q k : List ℕ) (ks : List (List ℕ)) (b x : Bool) → is_at (text_cmp q) k ≡ b → p k ≡ x → is_among q (filter p ks) ≡ (p q && is_among q ks)
    → is_among q (cond x (k ∷ filter p ks) (filter p ks)) ≡ (p q && (b || is_among q ks))
among_by p q k ks true true is passes more =
    ap (λ b. b || is_among q (filter p ks)) is ∙ sym (ap (λ b. b && true) (ap p (same_key text_total text_exact q k is) ∙ passes))
among_by p q k ks true false is passes more =
    let out : p q ≡ false = ap p (same_key text_total text_exact q k is) ∙ passes in
    more ∙ ap (λ b. b && is_among q ks) out ∙ sym (ap (λ b. b && true) out)
among_by p q k ks false true is passes more = ap (λ b. b || is_among q (filter p ks)) is ∙ more
among_by p q k ks false false is passes more = more

none_passes : (b : Bool) → false ≡ (b && false)
none_passes true = refl
none_passes false = refl

pub among_filter : (p : List ℕ → Bool) (q : List ℕ) (ks : List (List ℕ)) → is_among q (filter p ks) ≡ (p q && is_among q ks)
among_filter p q [] = none_passes (p q)
among_filter p q (k ∷ ks) = among_by p q k ks (is_at (text_cmp q) k) (p k) refl refl (among_filter p q ks)

-- two lists in order that have all keys that pass a test have the same of them
pub same_passing : (p : List ℕ → Bool) (xs ys : List (List ℕ)) → IsStrictlySortedBy text_cmp xs → IsStrictlySortedBy text_cmp ys
    → ((q : List ℕ) → p q ≡ true → is_among q xs ≡ true) → ((q : List ℕ) → p q ≡ true → is_among q ys ≡ true) → filter p xs ≡ filter p ys
same_passing p xs ys s t in_xs in_ys =
    same_keys text_total text_exact (filter p xs) (filter p ys) (IsStrictlySortedBy-filter text_cmp p xs s) (IsStrictlySortedBy-filter text_cmp p ys t)
    (λ q. among_filter p q xs ∙ by q (p q) refl ∙ sym (among_filter p q ys))
  where
    by : (q : List ℕ) (b : Bool) → p q ≡ b → (b && is_among q xs) ≡ (b && is_among q ys)
    by q true e = in_xs q e ∙ sym (in_ys q e)
    by q false e = refl

-- ---- keys, each with what is due
module _ (d : List ℕ → Option QueryableInfoType) where
  abbrev pub row : List ℕ → KeyDue
  row key = (key, d key)

  keys_rows : (ks : List (List ℕ)) → keys_of (map row ks) ≡ ks
  keys_rows [] = refl
  keys_rows (k ∷ ks) = ap (λ l. k ∷ l) (keys_rows ks)

  pub rows_rise : (ks : List (List ℕ)) → IsStrictlySortedBy text_cmp ks → InOrder (map row ks)
  rows_rise ks s = subst (IsStrictlySortedBy text_cmp) (sym (keys_rows ks)) s

  found_by : (key k : List ℕ) (ks : List (List ℕ)) (b : Bool) → is_at (text_cmp key) k ≡ b → at_text key (map row ks) ≡ cond (is_among key ks) (Some (d key)) None
      → cond b (Some (d k)) (at_text key (map row ks)) ≡ cond (b || is_among key ks) (Some (d key)) None
  found_by key k ks true is more = ap (λ x. Some (d x)) (sym (same_key text_total text_exact key k is))
  found_by key k ks false is more = more

  found_row : (key : List ℕ) (ks : List (List ℕ)) → at_text key (map row ks) ≡ cond (is_among key ks) (Some (d key)) None
  found_row key [] = refl
  found_row key (k ∷ ks) = found_by key k ks (is_at (text_cmp key) k) refl (found_row key ks)

  -- a call aims on each key at what is to be told, where it does so on those that it looks at, and on others nothing changes
  pub aims_at : (way : Reason) (key : List ℕ) (ks : List (List ℕ)) (old new : Option QueryableInfoType) → (is_among key ks ≡ true → aim way (d key) old ≡ new) → (is_among key ks ≡ false → old ≡ new)
      → aim_on way (map row ks) old key ≡ new
  aims_at way key ks old new looked others = ap (λ o. option_map_or (λ x. aim way x old) o old) (found_row key ks) ∙ by (is_among key ks) refl
    where
      by : (b : Bool) → is_among key ks ≡ b → option_map_or (λ x. aim way x old) (cond b (Some (d key)) None) old ≡ new
      by true e = looked e
      by false e = others e

  -- rows that pass a test of their keys
  filter_by : (p : KeyDue → Bool) (k : List ℕ) (ks : List (List ℕ)) (b : Bool) → filter p (map row ks) ≡ map row (filter (λ q. p (row q)) ks)
      → cond b (row k ∷ filter p (map row ks)) (filter p (map row ks)) ≡ map row (cond b (k ∷ filter (λ q. p (row q)) ks) (filter (λ q. p (row q)) ks))
  filter_by p k ks true more = ap (λ l. row k ∷ l) more
  filter_by p k ks false more = more

  pub filter_rows : (p : KeyDue → Bool) (ks : List (List ℕ)) → filter p (map row ks) ≡ map row (filter (λ q. p (row q)) ks)
  filter_rows p [] = refl
  filter_rows p (k ∷ ks) = filter_by p k ks (p (row k)) (filter_rows p ks)

-- ---- the keys of one face
-- the keys that a call looks at for the face
abbrev pub keys_at : ℕ → List FaceUpdate → List KeyDue
keys_at n dues = option_map_or (λ ks. ks) (keys_for n dues) []

abbrev pub numbers : List FaceUpdate → List ℕ
numbers dues = map (λ (d : FaceUpdate). d.face.0) dues

abbrev pub Sorted : List FaceUpdate → Type 0
Sorted dues = IsStrictlySortedBy nat_cmp (numbers dues)

some_by : {X : Type 0} (b : Bool) (x : X) (o : Option X) → (b || is_some o) ≡ is_some (cond b (Some x) o)
some_by true x o = refl
some_by false x o = refl

module _ (f : ℕ → List KeyDue) where
  keys_by : (n m : ℕ) (rest : List FaceUpdate) (ks : List KeyDue) (b : Bool) → is_at (nat_cmp n) m ≡ b → (b ≡ true → f n ≡ ks) → (x : Bool) → keys_at n rest ≡ cond x (f n) []
      → keys_at n (with_dues m ks ++ rest) ≡ cond (b || x) (f n) []
  keys_by n m rest [] true is same true more = more
  keys_by n m rest [] true is same false more = more ∙ sym (same refl)
  keys_by n m rest [] false is same x more = more
  keys_by n m rest (k ∷ ks) true is same x more = ap (λ b. option_map_or (λ l. l) (cond b (Some (k ∷ ks)) (keys_for n rest)) []) is ∙ sym (same refl)
  keys_by n m rest (k ∷ ks) false is same x more = ap (λ b. option_map_or (λ l. l) (cond b (Some (k ∷ ks)) (keys_for n rest)) []) is ∙ more

  all_by : (P : ℕ → Type 0) (m : ℕ) (ks : List KeyDue) (rest : List FaceUpdate) → P m → AllByRecursion P (numbers rest) → AllByRecursion P (numbers (with_dues m ks ++ rest))
  all_by P m [] rest p all = all
  all_by P m (k ∷ ks) rest p all = (p, all)

  sorted_by : (m : ℕ) (ks : List KeyDue) (rest : List FaceUpdate) → AllByRecursion (λ q. nat_cmp m q ≡ Less) (numbers rest) → Sorted rest → Sorted (with_dues m ks ++ rest)
  unfolding IsStrictlySortedBy
  sorted_by m [] rest above s = s
  sorted_by m (k ∷ ks) rest above s = (above, s)

  none_sorted : Sorted []
  unfolding IsStrictlySortedBy
  none_sorted = tt

  module _ {X : Type 0} where
    -- for each of the faces its keys
    abbrev pub dues_of : List (ℕ × X) → List FaceUpdate
    dues_of es = flat_map (λ e. with_dues e.0 (f e.0)) es

    pub keys_of_face : (n : ℕ) (es : List (ℕ × X)) → keys_at n (dues_of es) ≡ cond (is_some (at n es)) (f n) []
    keys_of_face n [] = refl
    keys_of_face n (e ∷ es) =
        keys_by n e.0 (dues_of es) (f e.0) (is_at (nat_cmp n) e.0) refl (λ is. ap f (one_number n e.0 is)) (is_some (at n es)) (keys_of_face n es)
        ∙ ap (λ b. cond b (f n) []) (some_by (is_at (nat_cmp n) e.0) e.1 (at n es))

    -- what holds of the keys of each face
    pub all_keys : (P : FaceUpdate → Type 0) → ((m : ℕ) (ks : List KeyDue) → f m ≡ ks → P (record { face = record { 0 = m }; keys = ks })) → (es : List (ℕ × X)) → AllByRecursion P (dues_of es)
    all_keys P h [] = tt
    all_keys P h (e ∷ es) = by (f e.0) refl (all_keys P h es)
      where
        by : (ks : List KeyDue) → f e.0 ≡ ks → AllByRecursion P (dues_of es) → AllByRecursion P (with_dues e.0 ks ++ dues_of es)
        by [] is rest = rest
        by (k ∷ ks) is rest = (h e.0 (k ∷ ks) is, rest)

    all_of : (P : ℕ → Type 0) (es : List (ℕ × X)) → AllByRecursion P (keys_of es) → AllByRecursion P (numbers (dues_of es))
    all_of P [] all = tt
    all_of P (e ∷ es) all = all_by P e.0 (f e.0) (dues_of es) all.0 (all_of P es all.1)

    pub dues_rise : (es : List (ℕ × X)) → IsStrictlySortedBy nat_cmp (keys_of es) → Sorted (dues_of es)
    dues_rise [] s = none_sorted
    dues_rise (e ∷ es) s = sorted_by e.0 (f e.0) (dues_of es) (all_of (λ q. nat_cmp e.0 q ≡ Less) es (sorted_head nat_cmp e.0 (keys_of es) s)) (dues_rise es (sorted_tail nat_cmp e.0 (keys_of es) s))

-- a face alone
pub keys_alone : (m : ℕ) (ks : List KeyDue) → keys_at m (with_dues m ks) ≡ ks
keys_alone m [] = refl
keys_alone m (k ∷ ks) = ap (λ b. option_map_or (λ l. l) (cond b (Some (k ∷ ks)) None) []) (itself m)

pub keys_beside : (n m : ℕ) (ks : List KeyDue) → is_at (nat_cmp n) m ≡ false → keys_for n (with_dues m ks) ≡ None
keys_beside n m [] other = refl
keys_beside n m (k ∷ ks) other = ap (λ b. cond b (Some (k ∷ ks)) None) other

pub alone_rises : (m : ℕ) (ks : List KeyDue) → Sorted (with_dues m ks)
unfolding IsStrictlySortedBy
alone_rises m [] = tt
alone_rises m (k ∷ ks) = (tt, tt)
