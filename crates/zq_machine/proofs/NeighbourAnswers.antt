-- What answers an interest; and over an interest, or its end, the asker's receiver forgets exactly the keys that are not due.
use Rattle.std.proofs.Common.{◌≡◌, ◌∙◌, refl, sym, ap, ℕ, Bool, true, false, cond, not, List, [], ◌∷◌, filter, map, Option, Some, None, true≢false}
use Rattle.std.specs.Prelude.{◌&&◌, ◌||◌, is_none}
use Rattle.std.specs.BTreeMap.{is_at}
use Rattle.std.specs.List.{AllByRecursion}
use Rattle.std.specs.Option.{is_some, option_map, option_to_list}
use Rattle.std.proofs.lemmas.Bool.{false≢true}
use Rattle.std.proofs.lemmas.Cmp.{nat_cmp_total}
use Rattle.std.proofs.lemmas.List.Kept.{IsStrictlySortedBy-filter}
use Rattle.std.proofs.lemmas.Map.Lookups.{exact_unsigned}
use Rattle.std.proofs.lemmas.Slice.Eq.{bytes_eq-Decides}
use Rattle.zq_message.specs.declared.message.QueryableInfoType.{QueryableInfoType}
use Rattle.zq_key.proofs.Lookups.{each_entry}
use Rattle.zq_key.proofs.Sorted.{same_keys}
use Rattle.zq_index.specs.Texts.{text_cmp}
use Rattle.zq_index.proofs.Orders.{text_exact, text_total}
use Rattle.zq_strategy.specs.declared.network.Telling.{Telling}
use Rattle.zq_interests.specs.declared.types.InterestEntry.{InterestEntry}
use Rattle.zq_interests.specs.Interests.{Interests, asked_for, meets}
use Rattle.zq_told.specs.declared.types.ToldEntry.{ToldEntry}
use Rattle.zq_told.specs.declared.types.Reason.TheVariants.{Answer}
use Rattle.zq_told.specs.ToldSets.{ToldSets}
use Rattle.zq_told.specs.Telling.{KeyDue}
use Rattle.zq_told.specs.Receiver.{Heard, is_left, is_over}
use Rattle.zq_told.specs.Laws.{is_to, told_in}
use Rattle.zq_told.specs.Leaving.{news_of}
use Rattle.zq_told.proofs.Leaving.{answers_all}
use Rattle.zq_machine.specs.Due.{answer_keys, asked_keys, due, face_keys, is_looked}
use Rattle.zq_machine.specs.Neighbours.{answer_dues, answer_told, asked_dues, due_on, with_dues}
use Rattle.zq_machine.specs.Receivers.{Hears, is_due_in}
use Rattle.zq_machine.specs.State.{Core}
use Rattle.zq_machine.proofs.DueInterests.{keys_rise}
use Rattle.zq_machine.proofs.DueKeys.{all_put, either_test, is_among}
use Rattle.zq_machine.proofs.DueWhole.{keys_among}
use Rattle.zq_machine.proofs.NeighbourDues.{alone_rises, among_filter, filter_rows, keys_alone, row}
use Rattle.zq_machine.proofs.NeighbourTold.{told_here}

-- ---- keys that are looked at, and over
never : (b : Bool) → (b && false) ≡ false
never true = refl
never false = refl

pub over_is : (d : List ℕ → Option QueryableInfoType) (q : List ℕ) (ks : List (List ℕ)) → is_over (map (row d) ks) q ≡ (is_none (d q) && is_among q ks)
over_is d q [] = sym (never (is_none (d q)))
over_is d q (k ∷ ks) = (λ j. (is_none (d k) && either_test q k j) || over_is d q ks j) ∙ by (is_at (text_cmp q) k) refl
  where
    joined_by : (x y : Bool) → ((x && true) || (x && y)) ≡ (x && true)
    joined_by true y = refl
    joined_by false y = refl

    by : (b : Bool) → is_at (text_cmp q) k ≡ b → ((is_none (d k) && b) || (is_none (d q) && is_among q ks)) ≡ (is_none (d q) && (b || is_among q ks))
    by true is = ap (λ x. (is_none (d x) && true) || (is_none (d q) && is_among q ks)) ((bytes_eq-Decides k q).0 (either_test q k ∙ is)) ∙ joined_by (is_none (d q)) (is_among q ks)
    by false is = ap (λ x. x || (is_none (d q) && is_among q ks)) (never (is_none (d k)))

-- two tests, of which the one takes in the other, keep the same where all passes the other that passes the one
pub filter_both : {X : Type 0} (p q : X → Bool) → ((x : X) → q x ≡ true → p x ≡ true) → (xs : List X) → AllByRecursion (λ x. q x ≡ true) (filter p xs) → filter p xs ≡ filter q xs
filter_both p q more [] all = refl
filter_both p q more (x ∷ xs) all = by (p x) refl (q x) refl all (filter_both p q more xs)
  where
    by : (a : Bool) → p x ≡ a → (b : Bool) → q x ≡ b → AllByRecursion (λ y. q y ≡ true) (cond a (x ∷ filter p xs) (filter p xs)) → (AllByRecursion (λ y. q y ≡ true) (filter p xs) → filter p xs ≡ filter q xs)
        → cond a (x ∷ filter p xs) (filter p xs) ≡ cond b (x ∷ filter q xs) (filter q xs)
    by true e true f each rest = ap (λ l. x ∷ l) (rest each.1)
    by true e false f each rest = absurd (true≢false (sym each.0 ∙ f))
    by false e true f each rest = absurd (true≢false (sym (more x f) ∙ e))
    by false e false f each rest = rest each

-- ---- what a receiver forgets
-- of the keys that were looked at it forgets those that are over, and so all that are not due
module _ (c : Core) (more : Interests) (ears : ToldSets) (asker : ℕ) (ks : List (List ℕ)) (kept : Heard) where
  abbrev d : List ℕ → Option QueryableInfoType
  d = due c more asker

  left_due : (e : ℕ × (List ℕ × QueryableInfoType)) → is_due_in c more asker e ≡ true → is_left (is_over (map (due_on c more asker) ks)) e ≡ true
  left_due e some = ap not (over_is d e.1.0 ks ∙ by (d e.1.0) some)
    where
      by : (o : Option QueryableInfoType) → is_some o ≡ true → (is_none o && is_among e.1.0 ks) ≡ false
      by None s = absurd (false≢true s)
      by (Some i) s = refl

  pub forgets_undue : Hears c more ears asker (filter (is_left (is_over (map (due_on c more asker) ks))) kept) → filter (is_left (is_over (map (due_on c more asker) ks))) kept ≡ filter (is_due_in c more asker) kept
  forgets_undue h =
      filter_both (is_left (is_over (map (due_on c more asker) ks))) (is_due_in c more asker) left_due kept
      (each_entry nat_cmp_total exact_unsigned (λ e. is_due_in c more asker e ≡ true) (filter (is_left (is_over (map (due_on c more asker) ks))) kept) h.tied.sorted
      (λ k v there. ap is_some (sym (h.told v.0) ∙ ap (option_map (λ (t : ToldEntry). t.info)) (h.tied.back k v.0 v.1 there))))

-- ---- what answers an interest
module _ (c : Core) (more : Interests) (asker : ℕ) (asked : InterestEntry) where
  abbrev is_owed : List ℕ → Bool
  is_owed q = is_some (due c more asker q)

  looked_owed : (q : List ℕ) (o : Option QueryableInfoType) → due c more asker q ≡ o → is_some o ≡ true → is_looked c more asker asked q ≡ asked_for asked q
  looked_owed q None e some = absurd (false≢true some)
  looked_owed q (Some i) e some = ap (λ (o : Option QueryableInfoType). asked_for asked q || (meets asked.key q && is_none o)) e ∙ by (asked_for asked q) (meets asked.key q)
    where
      by : (a m : Bool) → (a || (m && false)) ≡ a
      by true m = refl
      by false true = refl
      by false false = refl

  or_true : (a b : Bool) → b ≡ true → (a || b) ≡ true
  or_true true b e = refl
  or_true false b e = e

  owed_among : (q : List ℕ) → is_owed q ≡ true → is_among q (asked_keys c more asker asked) ≡ is_among q (answer_keys c more asker asked)
  owed_among q some =
      let there : is_among q (face_keys c more asker) ≡ true = keys_among c more asker q some in
      among_filter (is_looked c more asker asked) q _
      ∙ (λ j. looked_owed q (due c more asker q) refl some j && (all_put q (face_keys c more asker) (option_to_list asked.key) ∙ or_true (is_among q (option_to_list asked.key)) (is_among q (face_keys c more asker)) there ∙ sym there) j)
      ∙ sym (among_filter (asked_for asked) q (face_keys c more asker))

  same_owed : filter is_owed (asked_keys c more asker asked) ≡ filter is_owed (answer_keys c more asker asked)
  same_owed =
      same_keys text_total text_exact (filter is_owed (asked_keys c more asker asked)) (filter is_owed (answer_keys c more asker asked))
      (IsStrictlySortedBy-filter text_cmp is_owed (asked_keys c more asker asked) ((keys_rise c more asker).asked asked))
      (IsStrictlySortedBy-filter text_cmp is_owed (answer_keys c more asker asked) (IsStrictlySortedBy-filter text_cmp (asked_for asked) (face_keys c more asker) (keys_rise c more asker).own))
      (λ q. among_filter is_owed q (asked_keys c more asker asked) ∙ by q (is_owed q) refl ∙ sym (among_filter is_owed q (answer_keys c more asker asked)))
    where
      by : (q : List ℕ) (b : Bool) → is_owed q ≡ b → (b && is_among q (asked_keys c more asker asked)) ≡ (b && is_among q (answer_keys c more asker asked))
      by q true e = owed_among q e
      by q false e = refl

  abbrev has_due : KeyDue → Bool
  has_due k = is_some k.1

  -- the keys that are looked at and due are those that answer
  pub rows_owed : filter has_due (asked_dues c more asker asked) ≡ filter has_due (answer_dues c more asker asked)
  rows_owed =
      filter_rows (due c more asker) has_due (asked_keys c more asker asked)
      ∙ ap (map (due_on c more asker)) same_owed
      ∙ sym (filter_rows (due c more asker) has_due (answer_keys c more asker asked))

  module _ (ears : ToldSets) (ints : Interests) (heard : Heard) (h : Hears c ints ears asker heard) where
    abbrev told : List Telling
    told = filter (is_to asker) (answer_told c more ears asker asked)

    told_is : told ≡ told_in Answer asker h.ear (asked_dues c more asker asked)
    told_is =
        told_here Answer ears asker h.ear h.there (with_dues asker (asked_dues c more asker asked)) (alone_rises asker (asked_dues c more asker asked))
        ∙ ap (told_in Answer asker h.ear) (keys_alone asker (asked_dues c more asker asked))

    pub asked_told : map news_of told ≡ filter has_due (answer_dues c more asker asked)
    asked_told = ap (map news_of) told_is ∙ answers_all asker h.ear (asked_dues c more asker asked) ∙ rows_owed
