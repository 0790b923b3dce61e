-- A queryable or an interest that was held and is let go again leaves all as it was.
use Rattle.std.proofs.Common.{◌≡◌, ℕ, Bool, true, false, cond, List, Option, Some, None, refl, sym, ap}
use Rattle.std.specs.Option.{is_some, is_none}
use Rattle.std.specs.Ordering.{nat_cmp}
use Rattle.std.specs.BTreeMap.{is_at}
use Rattle.std.specs.Map.{remove_entry}
use Rattle.std.proofs.lemmas.Bool.{false≢true}
use Rattle.std.proofs.lemmas.Cmp.{nat_cmp_total}
use Rattle.std.proofs.lemmas.Map.Lookups.{exact_unsigned}
use Rattle.zq_tables.specs.Naming.{Names, NamingState, change_naming, face_interests, face_keys, face_queryables, first_stays, text_at, with_interest, with_queryable, without_interest, without_queryable}
use Rattle.zq_tables.proofs.Emptied.{changed_back, changed_idle}
use Rattle.zq_query.proofs.Owing.{undone}
use Rattle.zq_egress.specs.Neighbours.{asked_back, asking, is_fresh}

absent_of : {X : Type 0} (o : Option X) → true ≡ is_none o → o ≡ None
absent_of None is = refl
absent_of (Some x) is = absurd (false≢true (sym is))

present_of : {X : Type 0} (o : Option X) → false ≡ is_none o → is_some o ≡ true
present_of None is = absurd (false≢true is)
present_of (Some x) is = refl

-- the first text under an id is taken out again
first_out : (id : ℕ) (t : List ℕ) (es : Names) → text_at id es ≡ None → remove_entry (is_at (nat_cmp id)) (first_stays id t es) ≡ es
first_out id t es absent =
    let none : is_some (text_at id es) ≡ false = ap is_some absent in
    rw none (undone nat_cmp_total exact_unsigned es id t absent)

-- a text under an id that has one stays out
first_kept : (id : ℕ) (t : List ℕ) (es : Names) → is_some (text_at id es) ≡ true → first_stays id t es ≡ es
first_kept id t es there = rw there refl

-- a queryable
pub put_back : (face id : ℕ) (t : List ℕ) (fresh : Bool) (s : NamingState) → fresh ≡ is_none (text_at id (face_queryables face s)) → cond fresh (change_naming face (without_queryable id) (change_naming face (with_queryable id t) s)) (change_naming face (with_queryable id t) s) ≡ s
put_back face id t true s is =
    changed_back face (with_queryable id t) (without_queryable id) s
    (ap (λ (l : Names). record (face_keys face s) { queryables = l }) (first_out id t (face_queryables face s) (absent_of _ is)))
put_back face id t false s is =
    changed_idle face (with_queryable id t) s
    (ap (λ (l : Names). record (face_keys face s) { queryables = l }) (first_kept id t (face_queryables face s) (present_of _ is)))

-- an interest, with a key or without
pub asked_out : (face id : ℕ) (key : Option (List ℕ)) (fresh : Bool) (s : NamingState) → fresh ≡ is_fresh face id key s → asked_back face id fresh (asking face id key s) ≡ s
asked_out face id None fresh s is = ap (λ (b : Bool). asked_back face id b s) is
asked_out face id (Some t) true s is =
    changed_back face (with_interest id t) (without_interest id) s
    (ap (λ (l : Names). record (face_keys face s) { interests = l }) (first_out id t (face_interests face s) (absent_of _ is)))
asked_out face id (Some t) false s is =
    changed_idle face (with_interest id t) s
    (ap (λ (l : Names). record (face_keys face s) { interests = l }) (first_kept id t (face_interests face s) (present_of _ is)))
