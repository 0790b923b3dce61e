-- What the code has seen so far is what the definitions say of the whole.
use Rattle.std.proofs.Common.{◌≡◌, ℕ, length, Bool, true, false, not, ◌&&◌, ◌||◌, List, [], ◌∷◌, Option, Some, None, refl, sym, ap}
use Rattle.std.specs.List.{list_all}
use Rattle.std.proofs.lemmas.Bool.{and_parts, false≢true}
use Rattle.std.proofs.Math.Bool.{and-true, and-false, and_assoc}
use Rattle.zq_key.specs.Key.{parts, part_fits, runs_apart, is_chunk, is_star, is_stars, neighbours_fit, is_key, chunks, is_plain_chunk, intersects, includes}
use Rattle.zq_key.specs.Checks.{parts_fit, chunk_fits, chunks_fit}
use Rattle.zq_key.specs.Chunks.{trim, chunks_left, keys_relate}
use Rattle.zq_key.specs.declared.key.Relation.TheVariants.{Meets, Covers}
use Rattle.zq_key.proofs.Parts.{parts-empty}

parts_fit-false : (list : List (Option ℕ)) → parts_fit false list ≡ (list_all part_fits list && runs_apart list)
parts_fit-false [] = refl
parts_fit-false (Some c ∷ list) = rw (parts_fit-false list) (sym (and_assoc (part_fits (Some c)) (list_all part_fits list) (runs_apart list)))
parts_fit-false (None ∷ []) = refl
parts_fit-false (None ∷ None ∷ list) = sym (and-false (list_all part_fits list))
parts_fit-false (None ∷ Some c ∷ list) = rw (parts_fit-false list) (sym (and_assoc (part_fits (Some c)) (list_all part_fits list) (runs_apart list)))

pub parts_fit-whole : (list : List (Option ℕ)) → parts_fit false list ≡ (list_all part_fits list && runs_apart list)
parts_fit-whole list = parts_fit-false list

pub parts_fit-run : (after : Bool) (text rest : List ℕ) → parts text ≡ (None ∷ parts rest) → parts_fit after (parts text) ≡ (not after && parts_fit true (parts rest))
parts_fit-run after text rest is = rw is refl

pub parts_fit-char : (after : Bool) (text rest : List ℕ) (c : ℕ) → parts text ≡ (Some c ∷ parts rest) → parts_fit after (parts text) ≡ (part_fits (Some c) && parts_fit false (parts rest))
parts_fit-char after text rest c is = rw is refl

pub parts_fit-end : (after : Bool) (text : List ℕ) → length text ≡ 0 → parts_fit after (parts text) ≡ true
parts_fit-end after text h = rw (parts-empty text h) refl

pub ruleset part_checks = (parts_fit-whole, parts_fit-run, parts_fit-char, parts_fit-end)

regroup : (c k n l m : Bool) → ((c && k) && (n && (l && m))) ≡ (k && ((c && l) && (n && m)))
regroup true true true l m = refl
regroup true true false true m = refl
regroup true true false false m = refl
regroup true false n l m = refl
regroup false true n l m = refl
regroup false false n l m = refl

chunks_fit-from : (after : Bool) (chunk : List ℕ) (rest : List (List ℕ)) → chunks_fit after (chunk ∷ rest) ≡ (not (after && (is_stars chunk || is_star chunk)) && (list_all is_chunk (chunk ∷ rest) && neighbours_fit (chunk ∷ rest)))
chunks_fit-from after chunk [] = regroup (is_chunk chunk) (not (after && (is_stars chunk || is_star chunk))) true true true
chunks_fit-from after chunk (next ∷ rest) =
    rw (chunks_fit-from (is_stars chunk) next rest) (regroup (is_chunk chunk) (not (after && (is_stars chunk || is_star chunk))) (not (is_stars chunk && (is_stars next || is_star next))) (list_all is_chunk (next ∷ rest)) (neighbours_fit (next ∷ rest)))

pub chunks_fit-whole : (list : List (List ℕ)) → chunks_fit false list ≡ (list_all is_chunk list && neighbours_fit list)
chunks_fit-whole [] = refl
chunks_fit-whole (chunk ∷ rest) = chunks_fit-from false chunk rest

pub chunks_fit-key : (text : List ℕ) → chunks_fit false (chunks text) ≡ is_key text
unfolding is_key
chunks_fit-key text = chunks_fit-whole (chunks text)

pub chunks_fit-more : (after : Bool) (text chunk rest : List ℕ) → chunks text ≡ (chunk ∷ chunks rest) → chunks_fit after (chunks text) ≡ (chunk_fits after chunk && chunks_fit (is_stars chunk) (chunks rest))
chunks_fit-more after text chunk rest is = rw is refl

pub chunks_fit-last : (after : Bool) (text : List ℕ) → chunks text ≡ (text ∷ []) → chunks_fit after (chunks text) ≡ chunk_fits after text
chunks_fit-last after text is = rw is (and-true (chunk_fits after text))

pub ruleset chunk_checks = (chunks_fit-key, chunks_fit-more, chunks_fit-last)

pub plain-more : (text chunk rest : List ℕ) → chunks text ≡ (chunk ∷ chunks rest) → list_all is_plain_chunk (chunks text) ≡ (is_plain_chunk chunk && list_all is_plain_chunk (chunks rest))
plain-more text chunk rest is = rw is refl

pub plain-last : (text : List ℕ) → chunks text ≡ (text ∷ []) → list_all is_plain_chunk (chunks text) ≡ is_plain_chunk text
plain-last text is = rw is (and-true (is_plain_chunk text))

pub ruleset plain_checks = (plain-more, plain-last)

trim-full : (list : List (List ℕ)) → list_all is_chunk list ≡ true → trim list ≡ list
unfolding is_chunk
trim-full [] h = refl
trim-full ([] ∷ []) h = absurd (false≢true h)
trim-full ((c ∷ chunk) ∷ []) h = refl
trim-full ([] ∷ next ∷ rest) h = absurd (false≢true h)
trim-full ((c ∷ chunk) ∷ next ∷ rest) h = ap (λ l. (c ∷ chunk) ∷ l) (trim-full (next ∷ rest) (and_parts (is_chunk (c ∷ chunk)) (list_all is_chunk (next ∷ rest)) h).1)

-- a key's chunks are all there
pub chunks_left-key : (text : List ℕ) → is_key text ≡ true → chunks_left text ≡ chunks text
unfolding is_key chunks_left
chunks_left-key text h = trim-full (chunks text) (and_parts (list_all is_chunk (chunks text)) (neighbours_fit (chunks text)) h).0

pub intersects-related : (a b : List ℕ) → is_key a ≡ true → is_key b ≡ true → keys_relate Meets (chunks_left a) (chunks_left b) ≡ intersects a b
unfolding keys_relate intersects
intersects-related a b h k = rw (chunks_left-key a h, chunks_left-key b k) refl

pub includes-related : (a b : List ℕ) → is_key a ≡ true → is_key b ≡ true → keys_relate Covers (chunks_left a) (chunks_left b) ≡ includes a b
unfolding keys_relate includes
includes-related a b h k = rw (chunks_left-key a h, chunks_left-key b k) refl

pub ruleset relations = (intersects-related, includes-related)
