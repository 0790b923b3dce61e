-- What is kept is found; where it was not kept before, taking it back leaves what was.
use Rattle.std.proofs.Common.{◌≡◌, ℕ, Bool, true, false, not, cond, List, [], ◌∷◌, length, Option, Some, None, refl, sym, ap, ◌∙◌, true≢false, arith}
use Rattle.std.specs.BTreeMap.{is_at}
use Rattle.std.specs.Map.{keys_of}
use Rattle.std.specs.Cmp.{nat_cmp_total}
use Rattle.std.specs.declared.cmp.Ordering.{Ordering}
use Rattle.std.specs.declared.cmp.Ordering.TheVariants.{Less, Equal, Greater}
use Rattle.std.specs.Option.{is_some}
use Rattle.std.specs.Ordering.{is_eq, match_ordering, nat_cmp}
use Rattle.std.proofs.lemmas.Bool.{or_parts}
use Rattle.std.proofs.lemmas.Map.Lookups.{exact_unsigned}
use Rattle.zq_key.proofs.Lookups.{at_itself, found_after_insertion, undone}
use Rattle.zq_namespace.specs.Exit.{Heads, head_at}
use Rattle.zq_namespace.specs.Leaves.{has_id, with_id, without_id, with_head, without_head}
use Rattle.zq_namespace.specs.Undone.{head_set}

own : (id : ℕ) → is_at (nat_cmp id) id ≡ true
own id = at_itself nat_cmp_total exact_unsigned id

-- ---- ids

found_by : (id x : ℕ) (ids : List ℕ) (r : Ordering) → nat_cmp id x ≡ r → has_id id (with_id id ids) ≡ true → has_id id (match_ordering r (id ∷ x ∷ ids) (x ∷ ids) (x ∷ with_id id ids)) ≡ true
found_by id x ids Less e ih = rw (own id) refl
found_by id x ids Equal e ih = rw e refl
found_by id x ids Greater e ih = rw (e, ih) refl

pub id-found : (id : ℕ) (ids : List ℕ) → has_id id (with_id id ids) ≡ true
id-found id [] = rw (own id) refl
id-found id (x ∷ ids) = found_by id x ids (nat_cmp id x) refl (id-found id ids)

back_by : (id x : ℕ) (ids : List ℕ) (r : Ordering) → nat_cmp id x ≡ r → is_at (nat_cmp id) x ≡ false → without_id id (with_id id ids) ≡ ids → without_id id (match_ordering r (id ∷ x ∷ ids) (x ∷ ids) (x ∷ with_id id ids)) ≡ (x ∷ ids)
back_by id x ids Less e miss ih = rw (own id) refl
back_by id x ids Equal e miss ih = absurd (true≢false (sym (ap is_eq e) ∙ miss))
back_by id x ids Greater e miss ih = rw miss (ap (λ l. x ∷ l) ih)

pub id-back : (id : ℕ) (ids : List ℕ) → has_id id ids ≡ false → without_id id (with_id id ids) ≡ ids
id-back id [] h = rw (own id) refl
id-back id (x ∷ ids) h =
    let p = or_parts (is_at (nat_cmp id) x) (has_id id ids) h in
    back_by id x ids (nat_cmp id x) refl p.0 (id-back id ids p.1)

-- ---- heads

pub head-found : (id : ℕ) (text : List ℕ) (heads : Heads) → is_some (head_at id (with_head id text heads)) ≡ true
head-found id text heads = ap is_some (found_after_insertion nat_cmp_total exact_unsigned id id text heads) ∙ rw (own id) refl

none_by : {X : Type 0} (o : Option X) → is_some o ≡ false → o ≡ None
none_by None h = refl
none_by (Some x) h = absurd (true≢false h)

pub head-back : (id : ℕ) (text : List ℕ) (heads : Heads) → is_some (head_at id heads) ≡ false → without_head id (with_head id text heads) ≡ heads
head-back id text heads h = undone nat_cmp_total exact_unsigned id text heads (none_by (head_at id heads) h)

-- ---- another text of a number

longer : {X : Type 0} (x y : X) (l : List X) → x ∷ y ∷ l ≡ y ∷ l → ⊥
longer x y l e = absurd (let n : length (x ∷ y ∷ l) ≡ length (y ∷ l) = ap length e in omega (arith, n))

again_by : (id : ℕ) (text w : List ℕ) (e : ℕ × List ℕ) (es : Heads) (r : Ordering) → nat_cmp id e.0 ≡ r
    → keys_of (match_ordering r ((id, text) ∷ e ∷ es) ((e.0, text) ∷ es) (e ∷ with_head id text es)) ≡ keys_of (e ∷ es)
    → cond (is_eq r) (Some e.1) (head_at id es) ≡ Some w
    → (keys_of (with_head id text es) ≡ keys_of es → head_at id es ≡ Some w → head_set id w (with_head id text es) ≡ es)
    → head_set id w (match_ordering r ((id, text) ∷ e ∷ es) ((e.0, text) ∷ es) (e ∷ with_head id text es)) ≡ e ∷ es
again_by id text w e es Less h k is ih = absurd (longer id e.0 (keys_of es) k)
again_by id text w e es Equal h k is ih = rw h (let same : e.1 ≡ w = cc in ap (λ v. (e.0, v) ∷ es) (sym same))
again_by id text w e es Greater h k is ih = rw h (let tails : keys_of (with_head id text es) ≡ keys_of es = cc in ap (λ l. e ∷ l) (ih tails is))

pub head-again : (id : ℕ) (text w : List ℕ) (heads : Heads) → keys_of (with_head id text heads) ≡ keys_of heads → head_at id heads ≡ Some w → head_set id w (with_head id text heads) ≡ heads
head-again id text w [] k is = absurd (cc)
head-again id text w (e ∷ es) k is = again_by id text w e es (nat_cmp id e.0) refl k is (head-again id text w es)

-- a number without a head gets none
unset_by : (id : ℕ) (text : List ℕ) (e : ℕ × List ℕ) (es : Heads) (b : Bool) → cond b (Some e.1) (head_at id es) ≡ None → (head_at id es ≡ None → head_set id text es ≡ es) → cond b ((e.0, text) ∷ es) (e ∷ head_set id text es) ≡ e ∷ es
unset_by id text e es true is ih = absurd (let gap : Some e.1 ≡ None = is in cc)
unset_by id text e es false is ih = ap (λ l. e ∷ l) (ih is)

pub head-unset : (id : ℕ) (text : List ℕ) (heads : Heads) → head_at id heads ≡ None → head_set id text heads ≡ heads
head-unset id text [] is = refl
head-unset id text (e ∷ es) is = unset_by id text e es (is_at (nat_cmp id) e.0) is (head-unset id text es)

pub not-true : (b : Bool) → true ≡ not b → b ≡ false
not-true true e = absurd (true≢false e)
not-true false e = refl
