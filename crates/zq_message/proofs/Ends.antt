-- An entry above all others goes to the end.
use Rattle.std.proofs.Common.{◌≡◌, ℕ, ◌<◌, List, [], ◌∷◌, ◌++◌, length, map, get_or, subst, sym, ap, ◌∙◌, refl, arith, Option, Some}
use Rattle.std.specs.Ordering.{nat_cmp}
use Rattle.std.specs.declared.cmp.Ordering.TheVariants.{Greater}
use Rattle.std.specs.BTreeMap.{insert_entry}
use Rattle.std.specs.List.{All}
use Rattle.std.specs.List.Sorted.{IsStrictlySortedBy}
use Rattle.std.specs.Map.{keys_of}
use Rattle.std.specs.Map.Iter.{TakesFirst}
use Rattle.std.specs.Iterator.{Yields}
use Rattle.std.proofs.lemmas.Map.Iter.{rest_more, rest_so_far}
use Rattle.zq_message.specs.RegionMap.{MapsEach, AreIndices}
use Rattle.std.proofs.lemmas.Bool.Decides.{nat_tests}
use Rattle.std.proofs.lemmas.List.{map-append, length-append, get_or_at, get_or_append_left}
use Rattle.std.proofs.lemmas.List.Elements.{All-head, All-tail}
use Rattle.std.proofs.lemmas.Map.Keys.{below_from_sorted}

nat_cmp-greater : (k j : ℕ) → j < k → nat_cmp k j ≡ Greater
nat_cmp-greater k j lt = grind (arith, nat_tests)

pub insert_last : {X : Type 0} (es : List (ℕ × X)) (k : ℕ) (v : X) → All (λ j. j < k) (keys_of es) → insert_entry nat_cmp es k v ≡ es ++ (k, v) ∷ []
insert_last [] k v below = refl
insert_last (e ∷ es) k v below =
    let greater = nat_cmp-greater k e.0 (All-head (λ j. j < k) _ _ below) in
    rw (greater, insert_last es k v (All-tail (λ j. j < k) _ _ below))

pub sorted_before : (done : List ℕ) (k : ℕ) (rest : List ℕ) → IsStrictlySortedBy nat_cmp (done ++ k ∷ rest) → All (λ j. j < k) done
sorted_before done k rest sorted i d lt =
    let below = below_from_sorted (done ++ k ∷ rest) i (length done) d sorted lt (omega (arith, length-append done (k ∷ rest))) in
    subst (λ x. x < k) (get_or_append_left done (k ∷ rest) d i lt) (subst (λ x. get_or (done ++ k ∷ rest) i d < x) (get_or_at done k rest d (length done) refl) below)

-- the entries before the next one in an ordered list have smaller keys
pub front_below : {X : Type 0} (all done rest : List (ℕ × X)) (e : ℕ × X) → IsStrictlySortedBy nat_cmp (keys_of all) → all ≡ done ++ e ∷ rest → All (λ j. j < e.0) (keys_of done)
front_below {X} all done rest e sorted parts =
    let S : List ℕ → Type 0 = IsStrictlySortedBy nat_cmp in
    sorted_before (keys_of done) e.0 (keys_of rest) (subst S (ap keys_of parts ∙ map-append (λ (e : ℕ × X). e.0) done (e ∷ rest)) sorted)

-- what is left of an ordered iteration, after the entries that were yielded and the next one
pub turn_parts : {A X : Type 0} (shows : A → ℕ × X) (all s t u : List (ℕ × X)) (xs : List A) (r : Option A) (x : A) → s ≡ all → Yields (TakesFirst shows) s xs t → r ≡ Some x → TakesFirst shows t r u → all ≡ map shows xs ++ shows x ∷ u
turn_parts {A} {X} shows all s t u xs r x start yields is step = sym start ∙ rest_so_far shows xs s t yields ∙ ap (λ (v : List (ℕ × X)). map shows xs ++ v) (rest_more shows t u r x is step)

keys_of-MapsEach : {D E : Type 0} (R : D → E → Type 0) (old : List (ℕ × D)) (new : List (ℕ × E)) → MapsEach R old new → keys_of new ≡ keys_of old
keys_of-MapsEach R [] [] h = refl
keys_of-MapsEach R [] (y ∷ ys) h = absurd h
keys_of-MapsEach R (x ∷ xs) [] h = absurd h
keys_of-MapsEach R (x ∷ xs) (y ∷ ys) h = rw (keys_of-MapsEach R xs ys h.1, h.0.0)

MapsEach-append : {D E : Type 0} (R : D → E → Type 0) (old : List (ℕ × D)) (new : List (ℕ × E)) (k : ℕ) (d : D) (e : E) → MapsEach R old new → R d e → MapsEach R (old ++ (k, d) ∷ []) (new ++ (k, e) ∷ [])
MapsEach-append R [] [] k d e h r = ((refl, r), tt)
MapsEach-append R [] (y ∷ ys) k d e h r = absurd h
MapsEach-append R (x ∷ xs) [] k d e h r = absurd h
MapsEach-append R (x ∷ xs) (y ∷ ys) k d e h r = (h.0, MapsEach-append R xs ys k d e h.1 r)

-- one more entry, put at the end of the new map
pub MapsEach-push : {D E : Type 0} (R : D → E → Type 0) (all done rest : List (ℕ × D)) (k : ℕ) (d : D) (new : List (ℕ × E)) (e : E)
    → IsStrictlySortedBy nat_cmp (keys_of all) → all ≡ done ++ (k, d) ∷ rest → MapsEach R done new → R d e
    → MapsEach R (done ++ (k, d) ∷ []) (insert_entry nat_cmp new k e)
MapsEach-push {D} {E} R all done rest k d new e sorted parts maps r =
    let Below : List ℕ → Type 0 = All (λ j. j < k) in
    let below = subst Below (sym (keys_of-MapsEach R done new maps)) (front_below all done rest (k, d) sorted parts) in
    rw (insert_last new k e below) (MapsEach-append R done new k d e maps r)

-- the keys of the new map are indices too
pub AreIndices-MapsEach : {D E : Type 0} (R : D → E → Type 0) (old : List (ℕ × D)) (new : List (ℕ × E)) → MapsEach R old new → AreIndices old → AreIndices new
AreIndices-MapsEach R old new maps small = let Small : List ℕ → Type 0 = All (λ k. k < 770) in subst Small (sym (keys_of-MapsEach R old new maps)) small
