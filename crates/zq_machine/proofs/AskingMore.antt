-- What an interest adds to what is due, and the keys that it looks at.
use Rattle.std.proofs.Common.{◌≡◌, ◌∙◌, refl, sym, ap, ℕ, Bool, true, false, cond, fold, List, [], ◌∷◌, Option, Some, None}
use Rattle.std.specs.Prelude.{◌||◌, ◌&&◌}
use Rattle.std.specs.BTreeMap.{insert_entry, is_at}
use Rattle.std.specs.BTreeSet.{insert_key}
use Rattle.std.specs.List.{list_any}
use Rattle.std.specs.Option.{is_some, option_map_or, option_to_list}
use Rattle.std.specs.Ordering.{is_eq, match_ordering, nat_cmp}
use Rattle.std.specs.Str.{bytes_eq}
use Rattle.std.specs.declared.cmp.Ordering.{Ordering}
use Rattle.std.specs.declared.cmp.Ordering.TheVariants.{Less, Equal, Greater}
use Rattle.std.proofs.lemmas.Bool.{false≢true}
use Rattle.std.proofs.lemmas.Map.Views.{any-filter_same}
use Rattle.std.proofs.lemmas.Slice.Eq.{bytes_eq-Decides}
use Rattle.zq_message.specs.declared.message.QueryableInfoType.{QueryableInfoType}
use Rattle.zq_index.specs.Texts.{text_cmp}
use Rattle.zq_strategy.specs.declared.types.Strategy.{Strategy}
use Rattle.zq_strategy.specs.declared.types.Strategy.TheVariants as strategy
use Rattle.zq_strategy.specs.Regions.{is_north, strategy_at}
use Rattle.zq_strategy.specs.State.{HatState}
use Rattle.zq_interests.specs.declared.types.InterestEntry.{InterestEntry}
use Rattle.zq_interests.specs.Interests.{Interests, asked_for, asks_folded, asks_for, interests_of, wants, with_interest}
use Rattle.zq_machine.specs.Due.{asked_keys, due, face_keys, heard, is_looked, listens_by, listens_in, plain_due}
use Rattle.zq_machine.specs.State.{Core, at, hat_of}
use Rattle.zq_machine.proofs.Changing.{one_number}
use Rattle.zq_machine.proofs.DueAsked.{listed, listed_at, with_one}
use Rattle.zq_machine.proofs.DueKeys.{all_put, among}
use Rattle.zq_machine.proofs.DueWhole.{alone_plain, interests_alone}

-- ---- a face that asks for more listens where it did
asks_listens : (s : Strategy) (north : Bool) → listens_by s north false ≡ true → listens_by s north true ≡ true
asks_listens strategy.Broker north e = refl
asks_listens strategy.Client north e = refl
asks_listens strategy.Peer true e = refl
asks_listens strategy.Peer false e = refl
asks_listens strategy.Router north e = absurd (false≢true e)

listens_more : (o : Option HatState) (a b : Bool) → (a ≡ true → b ≡ true) → option_map_or (λ (h : HatState). listens_by (strategy_at h) (is_north h.region) a) o false ≡ true
    → option_map_or (λ (h : HatState). listens_by (strategy_at h) (is_north h.region) b) o false ≡ true
listens_more None a b more e = absurd (false≢true e)
listens_more (Some h) true true more e = e
listens_more (Some h) true false more e = absurd (false≢true (more refl))
listens_more (Some h) false true more e = asks_listens (strategy_at h) (is_north h.region) e
listens_more (Some h) false false more e = e

kept : (a b : Bool) (i : Option QueryableInfoType) → (a ≡ true → b ≡ true) → is_some (cond a i None) ≡ true → cond b i None ≡ cond a i None
kept true true i more some = refl
kept true false i more some = absurd (false≢true (more refl))
kept false b i more some = absurd (false≢true some)

-- ---- an interest is put in that asks for the key if the one in its place did
or_right : (a b : Bool) → b ≡ true → (a || b) ≡ true
or_right true b e = refl
or_right false b e = e

or_both : (a b c d : Bool) → (a ≡ true → c ≡ true) → (b ≡ true → d ≡ true) → (a || b) ≡ true → (c || d) ≡ true
or_both true b c d left right e = ap (λ x. x || d) (left refl)
or_both false b c d left right e = or_right c d (right e)

module _ (key : List ℕ) (id : ℕ) where
  abbrev wanted : List (ℕ × InterestEntry) → Bool
  wanted es = list_any (wants key) es

  any_more : (v : InterestEntry) (es : List (ℕ × InterestEntry)) → ((old : InterestEntry) → at id es ≡ Some old → asked_for old key ≡ true → asked_for v key ≡ true) → wanted es ≡ true → wanted (insert_entry nat_cmp es id v) ≡ true
  any_more v [] same some = absurd (false≢true some)
  any_more v (e ∷ es) same some = by (nat_cmp id e.0) refl (any_more v es)
    where
      by : (r : Ordering) → nat_cmp id e.0 ≡ r → (((old : InterestEntry) → at id es ≡ Some old → asked_for old key ≡ true → asked_for v key ≡ true) → wanted es ≡ true → wanted (insert_entry nat_cmp es id v) ≡ true)
          → wanted (match_ordering r ((id, v) ∷ e ∷ es) ((e.0, v) ∷ es) (e ∷ insert_entry nat_cmp es id v)) ≡ true
      by Less is more = or_right (asked_for v key) (wanted (e ∷ es)) some
      by Equal is more = or_both (asked_for e.1 key) (wanted es) (asked_for v key) (wanted es) (same e.1 (ap (λ r. cond (is_eq r) (Some e.1) (at id es)) is)) (λ w. w) some
      by Greater is more =
          or_both (asked_for e.1 key) (wanted es) (asked_for e.1 key) (wanted (insert_entry nat_cmp es id v)) (λ w. w) (more (λ old there. same old (ap (λ r. cond (is_eq r) (Some e.1) (at id es)) is ∙ there))) some

-- ---- an interest takes nothing away
module _ (c : Core) (ints : Interests) (asker id : ℕ) (asked : InterestEntry) (face : ℕ) (key : List ℕ) where
  abbrev more : Interests
  more = with_interest asker id asked ints

  comes : interests_of face more ≡ listed ints asker (with_one asker id asked ints) face (is_at (nat_cmp asker) face)
  comes = listed_at ints asker (with_one asker id asked ints) face

  pub asks_more : ((old : InterestEntry) → at id (interests_of asker ints) ≡ Some old → asked_for old key ≡ true → asked_for asked key ≡ true)
      → asks_folded face key ints ≡ false → asks_folded face key more ≡ false → is_some (due c ints face key) ≡ true → due c more face key ≡ due c ints face key
  asks_more same before after some = by (is_at (nat_cmp asker) face) refl
    where
      plainly : due c ints face key ≡ plain_due c ints face key
      plainly = alone_plain c ints face key before

      asks : asker ≡ face → interests_of face more ≡ with_one asker id asked ints → asks_for face key ints ≡ true → asks_for face key more ≡ true
      asks here is on = ap (list_any (wants key)) is ∙ any_more key id asked (interests_of asker ints) same (ap (λ n. asks_for n key ints) here ∙ on)

      own : asker ≡ face → interests_of face more ≡ with_one asker id asked ints → due c more face key ≡ due c ints face key
      own here is =
          alone_plain c more face key after
          ∙ kept (option_map_or (listens_in ints face key) (hat_of face c) false) (option_map_or (listens_in more face key) (hat_of face c) false) (heard c face key)
          (listens_more (hat_of face c) (asks_for face key ints) (asks_for face key more) (asks here is)) (ap is_some (sym plainly) ∙ some)
          ∙ sym plainly

      by : (b : Bool) → is_at (nat_cmp asker) face ≡ b → due c more face key ≡ due c ints face key
      by true is = own (one_number asker face is) (comes ∙ ap (listed ints asker (with_one asker id asked ints) face) is)
      by false is = interests_alone c more ints face key (comes ∙ ap (listed ints asker (with_one asker id asked ints) face) is)

-- ---- the keys that an interest looks at
-- those of which it looks at some: where something may be due to its face, and its own
abbrev around : Core → Interests → (asker : ℕ) → InterestEntry → List (List ℕ)
around c ints asker asked = fold (insert_key text_cmp) (face_keys c ints asker) (option_to_list asked.key)

pub asked_exactly : (c : Core) (ints : Interests) (asker : ℕ) (asked : InterestEntry) (key : List ℕ)
    → list_any (λ k. bytes_eq k key) (asked_keys c ints asker asked) ≡ (is_looked c ints asker asked key && (list_any (λ k. bytes_eq k key) (option_to_list asked.key) || list_any (λ k. bytes_eq k key) (face_keys c ints asker)))
asked_exactly c ints asker asked key =
    any-filter_same (λ k. bytes_eq k key) (is_looked c ints asker asked) (is_looked c ints asker asked key) (λ k is. ap (is_looked c ints asker asked) ((bytes_eq-Decides k key).0 is)) (around c ints asker asked)
    ∙ ap (λ b. is_looked c ints asker asked key && b)
    (among key (around c ints asker asked) ∙ all_put key (face_keys c ints asker) (option_to_list asked.key) ∙ (λ j. sym (among key (option_to_list asked.key)) j || sym (among key (face_keys c ints asker)) j))
