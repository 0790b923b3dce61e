-- The part of a key before one of its `/` is a key.
use Rattle.std.proofs.Common.{◌≡◌, ◌+◌, ◌<◌, ℕ, Bool, true, List, [], ◌∷◌, ◌++◌, length, take, drop, get_or, sym, subst, ap, ◌∙◌, refl}
use Rattle.std.specs.List.{list_all}
use Rattle.std.proofs.lemmas.List.{take-append-drop, drop_more}
use Rattle.std.proofs.lemmas.Bool.{and_parts, and_from}
use Rattle.std.proofs.lemmas.List.Folds.{list_all-append}
use Rattle.zq_key.specs.Key.{chunks, is_chunk, is_key, neighbours_fit}
use Rattle.zq_key.proofs.Behind.{chunks-behind}

list_all-front : {X : Type 0} (p : X → Bool) (xs ys : List X) → list_all p (xs ++ ys) ≡ true → list_all p xs ≡ true
list_all-front p xs ys h = (and_parts (list_all p xs) (list_all p ys) (sym (list_all-append p xs ys) ∙ h)).0

neighbours_fit-front : (xs ys : List (List ℕ)) → neighbours_fit (xs ++ ys) ≡ true → neighbours_fit xs ≡ true
neighbours_fit-front [] ys h = refl
neighbours_fit-front (x ∷ []) ys h = refl
neighbours_fit-front (x ∷ y ∷ xs) ys h = let k = and_parts _ _ h in and_from _ _ k.0 (neighbours_fit-front (y ∷ xs) ys k.1)

pub key_before : (s rest : List ℕ) → is_key (s ++ 47 ∷ rest) ≡ true → is_key s ≡ true
unfolding is_key
key_before s rest h =
    let t = s ++ 47 ∷ rest in
    let k = and_parts (list_all is_chunk (chunks t)) (neighbours_fit (chunks t)) h in
    let A : List (List ℕ) → Type 0 = λ (l : List (List ℕ)). list_all is_chunk l ≡ true in
    let N : List (List ℕ) → Type 0 = λ (l : List (List ℕ)). neighbours_fit l ≡ true in
    and_from (list_all is_chunk (chunks s)) (neighbours_fit (chunks s))
    (list_all-front is_chunk (chunks s) (chunks rest) (subst A (chunks-behind s rest) k.0))
    (neighbours_fit-front (chunks s) (chunks rest) (subst N (chunks-behind s rest) k.1))

pub front_key : (t : List ℕ) (k : ℕ) → is_key t ≡ true → k < length t → get_or t k 0 ≡ 47 → is_key (take k t) ≡ true
front_key t k key lt slash =
    let parts : t ≡ take k t ++ 47 ∷ drop (k + 1) t = sym (take-append-drop k t) ∙ ap (λ (r : List ℕ). take k t ++ r) (drop_more t k 0 lt ∙ ap (λ (b : ℕ). b ∷ drop (k + 1) t) slash) in
    key_before (take k t) (drop (k + 1) t) (ap is_key (sym parts) ∙ key)
