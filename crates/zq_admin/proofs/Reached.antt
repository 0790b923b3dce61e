-- What a key reaches behind a front is all there that meets it.
use Rattle.std.proofs.Common.{◌≡◌, ◌∙◌, refl, sym, ap, subst, ℕ, ◌+◌, Bool, true, false, cond, not, List, [], ◌∷◌, ◌++◌, take, drop, filter, Result, Ok, Err, OnOk}
use Rattle.std.specs.Prelude.{◌&&◌, ◌||◌}
use Rattle.std.specs.List.{list_all}
use Rattle.std.proofs.lemmas.Bool.{and_parts, false≢true, false_from_ne_true, not-true}
use Rattle.std.proofs.lemmas.List.{append_assoc, take-append-drop}
use Rattle.std.proofs.lemmas.List.Folds.{list_all-append}
use Rattle.std.proofs.Math.Bool.{and-false}
use Rattle.zq_key.specs.Apart.{IsApartAt, is_apart}
use Rattle.zq_key.specs.Key.{chunk_meets, chunks, intersects, is_chunk, is_key, is_star, is_stars, is_verbatim, neighbours_fit}
use Rattle.zq_key.specs.Match.{meets_by}
use Rattle.zq_key.specs.Space.{behind}
use Rattle.zq_key.proofs.Apart.{apart_misses, is_apart-longer}
use Rattle.zq_key.proofs.Behind.{chunks-behind}
use Rattle.zq_key.proofs.Lawful.{intersects-swap}
use Rattle.zq_io.specs.Words.{lacks}
use Rattle.zq_hat.specs.Sources.{SourceTexts}
use Rattle.zq_hat.specs.Sourced.{is_asked}
use Rattle.zq_admin.specs.declared.reach.Reach.{Reach}
use Rattle.zq_admin.specs.declared.reach.Reach.TheVariants as reach
use Rattle.zq_admin.specs.Entries.{Entry, entries_under, entry_under, is_met}
use Rattle.zq_admin.specs.Reach.{AsksKey, Reaches, reached}
use Rattle.zq_admin.proofs.Tame.{is_other, other_chunks}

-- ---- chunks behind others, none of them `**`
tails_meet : (n a b : List (List ℕ)) → list_all is_other n ≡ true → meets_by is_stars is_verbatim chunk_meets (n ++ a) (n ++ b) ≡ true → meets_by is_stars is_verbatim chunk_meets a b ≡ true
unfolding meets_by
tails_meet [] a b h m = m
tails_meet (x ∷ n) a b h m =
    let p = and_parts (is_other x) (list_all is_other n) h in
    tails_meet n a b p.1 ((and_parts (chunk_meets x x) (meets_by is_stars is_verbatim chunk_meets (n ++ a) (n ++ b)) (rw (not-true (is_stars x) p.0) at m)).1)

-- what meets behind a front without a `*`, meets without it
pub rest_meets : (front a b : List ℕ) → lacks 42 front ≡ true → intersects (behind front a) (behind front b) ≡ true → intersects a b ≡ true
unfolding intersects
rest_meets front a b h m =
    tails_meet (chunks front) (chunks a) (chunks b) (other_chunks front h)
    (sym (λ j. meets_by is_stars is_verbatim chunk_meets (chunks-behind front a j) (chunks-behind front b j)) ∙ m)

rest_fits : (n a : List (List ℕ)) → neighbours_fit (n ++ a) ≡ true → neighbours_fit a ≡ true
rest_fits [] a h = h
rest_fits (x ∷ []) [] h = refl
rest_fits (x ∷ []) (y ∷ a) h = (and_parts (not (is_stars x && (is_stars y || is_star y))) (neighbours_fit (y ∷ a)) h).1
rest_fits (x ∷ z ∷ n) a h = rest_fits (z ∷ n) a ((and_parts (not (is_stars x && (is_stars z || is_star z))) (neighbours_fit (z ∷ (n ++ a))) h).1)

-- what is left of a key behind a front is a key
pub rest_is_key : (front a : List ℕ) → is_key (behind front a) ≡ true → is_key a ≡ true
unfolding is_key
rest_is_key front a h =
    let p = and_parts (list_all is_chunk (chunks (behind front a))) (neighbours_fit (chunks (behind front a))) h in
    let all = and_parts (list_all is_chunk (chunks front)) (list_all is_chunk (chunks a)) (sym (ap (list_all is_chunk) (chunks-behind front a) ∙ list_all-append is_chunk (chunks front) (chunks a)) ∙ p.0) in
    let fit = rest_fits (chunks front) (chunks a) (sym (ap neighbours_fit (chunks-behind front a)) ∙ p.1) in
    (λ j. all.1 j && fit j)

-- ---- a front of which the first bytes differ from a key's
apart_behind : (front key : List ℕ) (at : ℕ) → IsApartAt front key at → (k : List ℕ) → intersects key (behind front k) ≡ false
apart_behind front key at is k =
    intersects-swap key (behind front k)
    ∙ apart_misses (behind front k) key (subst (λ (t : List ℕ). is_apart t key ≡ true) whole (is_apart-longer (take (at + 1) front) (drop (at + 1) front ++ 47 ∷ k) key is.apart))
  where
    whole : take (at + 1) front ++ (drop (at + 1) front ++ 47 ∷ k) ≡ behind front k
    whole = sym (append_assoc (take (at + 1) front) (drop (at + 1) front) (47 ∷ k)) ∙ ap (λ t. t ++ 47 ∷ k) (take-append-drop (at + 1) front)

pub apart_texts : (front key a b : List ℕ) (at : ℕ) → a ≡ front → b ≡ key → IsApartAt a b at → (k : List ℕ) → intersects key (behind front k) ≡ false
apart_texts front key a b at e f is =
    apart_behind front key at (subst (λ (t : List ℕ). IsApartAt t key at) e (subst (λ (t : List ℕ). IsApartAt a t at) f is))

-- ---- the entries that meet a key are among those that it reaches
drops : (p : Entry → Bool) (e : Entry) (es : List Entry) → p e ≡ false → filter p (e ∷ es) ≡ filter p es
drops p e es h = ap (λ b. cond b (e ∷ filter p es) (filter p es)) h

missed : (key front : List ℕ) (e : Entry) → intersects key (behind front e.0) ≡ false → is_met key (entry_under front e) ≡ false
missed key front e h = ap (λ b. is_key (behind front e.0) && b) h ∙ and-false (is_key (behind front e.0))

none_met : (key front : List ℕ) (all : SourceTexts) → ((k : List ℕ) → intersects key (behind front k) ≡ false) → [] ≡ filter (is_met key) (entries_under front all)
none_met key front [] never = refl
none_met key front (e ∷ all) never = none_met key front all never ∙ sym (drops (is_met key) (entry_under front e) (entries_under front all) (missed key front e (never e.0)))

same_met : (key front rest : List ℕ) (all : SourceTexts) → ((k : List ℕ) → intersects key (behind front k) ≡ true → intersects rest k ≡ true)
    → filter (is_met key) (entries_under front (filter (is_asked rest) all)) ≡ filter (is_met key) (entries_under front all)
same_met key front rest [] meets = refl
same_met key front rest (e ∷ all) meets = by (intersects rest e.0) refl (same_met key front rest all meets)
  where
    by : (b : Bool) → intersects rest e.0 ≡ b → filter (is_met key) (entries_under front (filter (is_asked rest) all)) ≡ filter (is_met key) (entries_under front all)
        → filter (is_met key) (entries_under front (cond b (e ∷ filter (is_asked rest) all) (filter (is_asked rest) all))) ≡ filter (is_met key) (entries_under front (e ∷ all))
    by true h ih = ap (λ l. cond (is_met key (entry_under front e)) (entry_under front e ∷ l) l) ih
    by false h ih =
        ih ∙ sym (drops (is_met key) (entry_under front e) (entries_under front all) (missed key front e (false_from_ne_true (intersects key (behind front e.0)) (λ m. false≢true (sym h ∙ meets e.0 m)))))

pub reached_met : (key front : List ℕ) (r : Reach) (all : SourceTexts) → Reaches front key r → filter (is_met key) (entries_under front (reached r all)) ≡ filter (is_met key) (entries_under front all)
reached_met key front reach.Nothing all is = none_met key front all is
reached_met key front (reach.Met rest) all is = same_met key front rest.now all is.1
reached_met key front reach.All all is = refl

pub asks_key : (key front : List ℕ) (r : Reach) → Reaches front key r → AsksKey r
asks_key key front reach.Nothing is = tt
asks_key key front (reach.Met rest) is = is.0
asks_key key front reach.All is = tt

-- a key that stands behind the front reaches what meets its rest
pub met_behind : (front key rest : List ℕ) → key ≡ behind front rest → lacks 42 front ≡ true → is_key key ≡ true → (is_key rest ≡ true) × ((k : List ℕ) → intersects key (behind front k) ≡ true → intersects rest k ≡ true)
met_behind front key rest same tame is =
    (rest_is_key front rest (sym (ap is_key same) ∙ is), λ k m. rest_meets front rest k tame (sym (ap (λ t. intersects t (behind front k)) same) ∙ m))

-- entries of what is reached join others
pub joins_met : {X E : Type 0} (given : Result X E) (key front : List ℕ) (all found : SourceTexts) (old new : List Entry) (by : Reach) (asked before under : List ℕ) → OnOk given (new ≡ old ++ filter (is_met key) (entries_under under found))
    → under ≡ front → found ≡ reached by all → Reaches before asked by → before ≡ front → asked ≡ key → OnOk given (new ≡ old ++ filter (is_met key) (entries_under front all))
joins_met (Ok x) key front all found old new by asked before under joins e same is f g =
    joins
    ∙ (λ j. old ++ filter (is_met key) (entries_under (e j) (same j)))
    ∙ ap (λ l. old ++ l) (reached_met key front by all (subst (λ (t : List ℕ). Reaches t key by) f (subst (λ (k : List ℕ). Reaches before k by) g is)))
joins_met (Err x) key front all found old new by asked before under joins e same is f g = tt
