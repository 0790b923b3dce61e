-- What an interest looks at, and what its end looks at, by what is due as the hats are.
use Rattle.std.proofs.Common.{◌≡◌, ◌∙◌, refl, sym, ap, ℕ, Bool, true, false, cond, List, [], ◌∷◌, ◌++◌, map, filter, fold, Option, Some, None, true≢false}
use Rattle.std.specs.Prelude.{◌&&◌, ◌||◌, is_none}
use Rattle.std.specs.BTreeMap.{is_at}
use Rattle.std.specs.BTreeSet.{insert_key}
use Rattle.std.specs.List.{flat_map, list_any}
use Rattle.std.specs.List.Sorted.{IsStrictlySortedBy}
use Rattle.std.specs.Map.{keys_of}
use Rattle.std.specs.Option.{option_map_or, option_to_list}
use Rattle.std.specs.Ordering.{nat_cmp}
use Rattle.std.proofs.lemmas.List.Kept.{IsStrictlySortedBy-filter}
use Rattle.zq_key.specs.Key.{intersects}
use Rattle.zq_key.proofs.Lawful.{intersects-self}
use Rattle.zq_key.proofs.Lookups.{either_way, same_key}
use Rattle.zq_key.proofs.Sorted.{has_put, same_keys, sorted_put}
use Rattle.zq_index.specs.Texts.{text_cmp}
use Rattle.zq_index.proofs.Orders.{text_exact, text_total}
use Rattle.zq_strategy.specs.State.{HatState}
use Rattle.zq_interests.specs.declared.types.InterestEntry.{InterestEntry}
use Rattle.zq_interests.specs.Interests.{Interests, asked_for, asks_folded, interests_of, meets, own_key, own_keys, wants_folded, with_interest, without_interest}
use Rattle.zq_interests.proofs.Besides.{any_put, put_of}
use Rattle.zq_told.specs.ToldSets.{ToldSets, told_keys}
use Rattle.zq_told.specs.Telling.{KeyDue}
use Rattle.zq_machine.specs.declared.face.OpenFace.{OpenFace}
use Rattle.zq_machine.specs.Due.{asked_keys, due, due_keys, face_keys, is_looked}
use Rattle.zq_machine.specs.Neighbours.{asked_dues, due_on, ended_dues}
use Rattle.zq_machine.specs.State.{Core, at}
use Rattle.zq_machine.proofs.DueInterests.{keys_rise}
use Rattle.zq_machine.proofs.DueKeys.{all_put, is_among}
use Rattle.zq_machine.proofs.NeighbourDues.{among_filter}
use Rattle.zq_machine.proofs.Widening.{asked_meets, folded_own}
use Rattle.zq_dispatcher.specs.declared.asking.Asking.{Asking}
use Rattle.zq_dispatcher.specs.Asked.{AreInformed, keys_asked, looked_due}
use Rattle.zq_dispatcher.specs.Asking.{asking_in, is_left, put_if_asked, with_asked, with_own}
use Rattle.zq_dispatcher.specs.Dues.{all_keys, due_as, row_as, was_told}
use Rattle.zq_dispatcher.proofs.Heard.{IsHeard, due_is, heard_still}
use Rattle.zq_dispatcher.proofs.KeysMet.{all_rise, hats_rise, none_rise, told_is}

-- an interest that stays asks for the key as one entry
abbrev any_folds : Option ℕ → List ℕ → List (ℕ × InterestEntry) → Bool
any_folds but key es = list_any (λ (i : ℕ × InterestEntry). is_left but i.0 && wants_folded key i) es

-- ---- keys of aggregating interests that meet what is asked for
or_none : (b : Bool) → b ≡ (b || false)
or_none true = refl
or_none false = refl

and_false : (b : Bool) → false ≡ (b && false)
and_false true = refl
and_false false = refl

turned : (m r x a : Bool) → ((m && r) || ((m && x) || a)) ≡ ((m && (x || r)) || a)
turned true true true a = refl
turned true true false a = refl
turned true false true a = refl
turned true false false a = refl
turned false r x a = refl

module _ (but : Option ℕ) (asked : Option (List ℕ)) where
  module _ (q : List ℕ) where
    -- one of them is there where it is the key
    own_one : (k : List ℕ) (ks : List (List ℕ)) (b : Bool) → meets asked k ≡ b → (s : Bool) → is_at (text_cmp k) q ≡ s
        → is_among q (cond b (insert_key text_cmp ks k) ks) ≡ ((meets asked q && s) || is_among q ks)
    own_one k ks true met true same =
        has_put text_total text_exact q k ks
        ∙ (λ j. (sym (either_way text_total text_exact k q) ∙ same) j || is_among q ks)
        ∙ sym (λ j. ((ap (meets asked) (sym (same_key text_total text_exact k q same)) ∙ met) j && true) || is_among q ks)
    own_one k ks true met false apart =
        has_put text_total text_exact q k ks
        ∙ (λ j. (sym (either_way text_total text_exact k q) ∙ apart) j || is_among q ks)
        ∙ ap (λ b. b || is_among q ks) (and_false (meets asked q))
    own_one k ks false unmet true same = sym (λ j. ((ap (meets asked) (sym (same_key text_total text_exact k q same)) ∙ unmet) j && true) || is_among q ks)
    own_one k ks false unmet false apart = ap (λ b. b || is_among q ks) (and_false (meets asked q))

    own_some : (o : Option (List ℕ)) (ks : List (List ℕ)) → is_among q (option_map_or (put_if_asked asked ks) o ks) ≡ ((meets asked q && option_map_or (λ k. is_at (text_cmp k) q) o false) || is_among q ks)
    own_some None ks = ap (λ b. b || is_among q ks) (and_false (meets asked q))
    own_some (Some k) ks = own_one k ks (meets asked k) refl (is_at (text_cmp k) q) refl

    own_left : (e : ℕ × InterestEntry) (ks : List (List ℕ)) (b : Bool) → is_among q (cond b (with_asked asked ks e.1) ks) ≡ ((meets asked q && (b && wants_folded q e)) || is_among q ks)
    own_left e ks true = own_some (own_key e.1) ks
    own_left e ks false = ap (λ b. b || is_among q ks) (and_false (meets asked q))

    pub among_owns : (es : List (ℕ × InterestEntry)) (ks : List (List ℕ)) → is_among q (fold (with_own but asked) ks es) ≡ ((meets asked q && any_folds but q es) || is_among q ks)
    among_owns [] ks = ap (λ b. b || is_among q ks) (and_false (meets asked q))
    among_owns (e ∷ es) ks =
        among_owns es (with_own but asked ks e)
        ∙ ap (λ b. (meets asked q && any_folds but q es) || b) (own_left e ks (is_left but e.0))
        ∙ turned (meets asked q) (any_folds but q es) (is_left but e.0 && wants_folded q e) (is_among q ks)

  -- and they stand in order
  own_rises : (e : ℕ × InterestEntry) (ks : List (List ℕ)) → IsStrictlySortedBy text_cmp ks → IsStrictlySortedBy text_cmp (with_own but asked ks e)
  own_rises e ks s = by (is_left but e.0) (own_key e.1)
    where
      put : (k : List ℕ) (b : Bool) → IsStrictlySortedBy text_cmp (cond b (insert_key text_cmp ks k) ks)
      put k true = sorted_put text_total ks k s
      put k false = s

      by : (b : Bool) (o : Option (List ℕ)) → IsStrictlySortedBy text_cmp (cond b (option_map_or (put_if_asked asked ks) o ks) ks)
      by true None = s
      by true (Some k) = put k (meets asked k)
      by false o = s

  pub owns_rise : (es : List (ℕ × InterestEntry)) (ks : List (List ℕ)) → IsStrictlySortedBy text_cmp ks → IsStrictlySortedBy text_cmp (fold (with_own but asked) ks es)
  owns_rise [] ks s = s
  owns_rise (e ∷ es) ks s = owns_rise es (with_own but asked ks e) (own_rises e ks s)

-- ---- what a face asks once an interest ended, or stands
abbrev Ordered : ℕ → Interests → Type 0
Ordered face ints = IsStrictlySortedBy nat_cmp (keys_of (interests_of face ints))

module _ (face id : ℕ) (ints : Interests) (sorted : Ordered face ints) (key : List ℕ) (e : InterestEntry) where
  folds_with : (wants_folded key (id, e) || any_folds (Some id) key (interests_of face ints)) ≡ asks_folded face key (with_interest face id e ints)
  folds_with = sym (ap (list_any (wants_folded key)) (put_of ints face id e) ∙ any_put (wants_folded key) id e (interests_of face ints) sorted)

-- ---- two lists of keys that pass
-- where two say the same of a key it passes both
same_rows : (f g : List ℕ → KeyDue) → ((key : List ℕ) → f key ≡ g key) → (ks : List (List ℕ)) → map f ks ≡ map g ks
same_rows f g same [] = refl
same_rows f g same (k ∷ ks) = λ j. same k j ∷ same_rows f g same ks j

module _ (c : Core) (ints : Interests) (face id : ℕ) (sorted : Ordered face ints) (o : OpenFace) (opened : at face c.faces ≡ Some o) (hats : List (ℕ × HatState)) (same : hats ≡ c.hats) where
  still : IsHeard c None hats [] face o
  still = heard_still c hats same face o opened

  keys_same : all_keys hats ≡ due_keys c
  keys_same = ap all_keys same

  -- ---- an interest
  module _ (e : InterestEntry) where
    abbrev more : Interests
    more = with_interest face id e ints

    abbrev asks : List ℕ → Asking
    asks = asking_in more face

    due_same : (key : List ℕ) → due_as (asks key) None [] face o hats key ≡ due c more face key
    due_same key = due_is c more None hats [] face o still key (asks key) refl refl

    -- it is looked at
    abbrev passes : List ℕ → Bool
    passes key = asked_for e key || is_none (due c more face key)

    looked_by : (key : List ℕ) (ks : List (List ℕ)) (b : Bool) → flat_map (looked_due id e face ints o hats) ks ≡ map (due_on c more face) (filter passes ks)
        → (cond b (row_as asks face o hats key ∷ []) [] ++ flat_map (looked_due id e face ints o hats) ks) ≡ map (due_on c more face) (cond b (key ∷ filter passes ks) (filter passes ks))
    looked_by key ks true ih = λ j. (key, due_same key j) ∷ ih j
    looked_by key ks false ih = ih

    looked_is : (ks : List (List ℕ)) → flat_map (looked_due id e face ints o hats) ks ≡ map (due_on c more face) (filter passes ks)
    looked_is [] = refl
    looked_is (key ∷ ks) =
        ap (λ d. cond (asked_for e key || is_none d) (row_as asks face o hats key ∷ []) [] ++ flat_map (looked_due id e face ints o hats) ks) (due_same key)
        ∙ looked_by key ks (passes key) (looked_is ks)

    abbrev all_asked : List (List ℕ)
    all_asked = keys_asked id e face ints hats

    abbrev base : List (List ℕ)
    base = filter (meets e.key) (all_keys hats)

    base_rise : IsStrictlySortedBy text_cmp base
    base_rise = IsStrictlySortedBy-filter text_cmp (meets e.key) (all_keys hats) (hats_rise hats [] none_rise)

    abbrev with_owns : List (List ℕ)
    with_owns = fold (with_own (Some id) e.key) base (interests_of face ints)

    asked_rise : IsStrictlySortedBy text_cmp all_asked
    asked_rise = all_rise (option_to_list e.key) with_owns (owns_rise (Some id) e.key (interests_of face ints) base base_rise)

    module _ (q : List ℕ) where
      abbrev met : Bool
      met = meets e.key q

      abbrev own : Bool
      own = is_among q (option_to_list e.key)

      abbrev others : Bool
      others = any_folds (Some id) q (interests_of face ints)

      abbrev known : Bool
      known = is_among q (due_keys c)

      among_asked : is_among q all_asked ≡ (own || ((met && others) || (met && known)))
      among_asked =
          all_put q with_owns (option_to_list e.key)
          ∙ ap (λ b. own || b) (among_owns (Some id) e.key q (interests_of face ints) base)
          ∙ ap (λ b. own || ((met && others) || b)) (among_filter (meets e.key) q (all_keys hats))
          ∙ ap (λ ks. own || ((met && others) || (met && is_among q ks))) keys_same

      abbrev all_due : List (List ℕ)
      all_due = fold (insert_key text_cmp) (face_keys c more face) (option_to_list e.key)

      among_due : is_among q all_due ≡ (own || ((wants_folded q (id, e) || others) || known))
      among_due =
          all_put q (face_keys c more face) (option_to_list e.key)
          ∙ ap (λ b. own || b) (all_put q (due_keys c) (own_keys face more))
          ∙ ap (λ b. own || (b || known)) (sym (folded_own face q more) ∙ sym (folds_with face id ints sorted q e))

      -- its own key is asked for as one entry, and met
      own_folds : wants_folded q (id, e) ≡ true → own ≡ true
      own_folds = by e.aggregate e.key
        where
          by : (b : Bool) (k : Option (List ℕ)) → option_map_or (λ x. is_at (text_cmp x) q) (cond b k None) false ≡ true → is_among q (option_to_list k) ≡ true
          by true None f = absurd (true≢false (sym f))
          by true (Some k) f = (λ j. (sym (either_way text_total text_exact k q) ∙ f) j || false)
          by false k f = absurd (true≢false (sym f))

      own_met : own ≡ true → met ≡ true
      own_met = by e.key
        where
          by : (k : Option (List ℕ)) → is_among q (option_to_list k) ≡ true → meets k q ≡ true
          by None f = absurd (true≢false (sym f))
          by (Some k) f = ap (intersects k) (same_key text_total text_exact q k (or_none (is_at (text_cmp q) k) ∙ f)) ∙ intersects-self k

      looks_alike : (a n m k w f d : Bool) → (a ≡ true → m ≡ true) → (f ≡ true → k ≡ true) → (k ≡ true → m ≡ true)
          → ((a || n) && (k || ((m && w) || (m && d)))) ≡ ((a || (m && n)) && (k || ((f || w) || d)))
      looks_alike a n true k w true d am fk km = (λ j. (a || n) && (fk refl j || (w || d))) ∙ sym (λ j. (a || n) && (fk refl j || true))
      looks_alike a n true k w false d am fk km = refl
      looks_alike true n false k w f d am fk km = absurd (true≢false (sym (am refl)))
      looks_alike a n false true w f d am fk km = absurd (true≢false (sym (km refl)))
      looks_alike false n false false w f d am fk km = sym (and_false n)

      alike : is_among q (filter passes all_asked) ≡ is_among q (asked_keys c more face e)
      alike =
          among_filter passes q all_asked
          ∙ ap (λ b. passes q && b) among_asked
          ∙ looks_alike (asked_for e q) (is_none (due c more face q)) met own others (wants_folded q (id, e)) known (asked_meets e q) own_folds own_met
          ∙ ap (λ b. is_looked c more face e q && b) (sym among_due)
          ∙ sym (among_filter (is_looked c more face e) q all_due)

    keys_alike : filter passes all_asked ≡ asked_keys c more face e
    keys_alike = same_keys text_total text_exact (filter passes all_asked) (asked_keys c more face e) (IsStrictlySortedBy-filter text_cmp passes all_asked asked_rise) ((keys_rise c more face).asked e) alike

    pub asked_are : flat_map (looked_due id e face ints o hats) all_asked ≡ asked_dues c more face e
    asked_are = looked_is all_asked ∙ ap (map (due_on c more face)) keys_alike

  -- ---- the end of one
  abbrev less : Interests
  less = without_interest face id ints

  module _ (ears : ToldSets) (asked : Option (List ℕ)) (informed : AreInformed (told_keys face ears) hats (own_keys face ints)) where
    abbrev ended : List (List ℕ)
    ended = fold (with_own None asked) (filter (meets asked) (all_keys hats)) (interests_of face ints)

    ended_rise : IsStrictlySortedBy text_cmp ended
    ended_rise = owns_rise None asked (interests_of face ints) (filter (meets asked) (all_keys hats)) (IsStrictlySortedBy-filter text_cmp (meets asked) (all_keys hats) (hats_rise hats [] none_rise))

    abbrev told : List (List ℕ)
    told = told_keys face ears

    module _ (q : List ℕ) where
      ends_alike : (t m f d : Bool) → (t ≡ true → (d || f) ≡ true) → (t && ((m && f) || (m && d))) ≡ (m && t)
      ends_alike true true true d on = refl
      ends_alike true true false true on = refl
      ends_alike true true false false on = absurd (true≢false (sym (on refl)))
      ends_alike true false f d on = refl
      ends_alike false true f d on = refl
      ends_alike false false f d on = refl

      told_alike : is_among q (filter (was_told face ears) ended) ≡ is_among q (filter (meets asked) told)
      told_alike =
          among_filter (was_told face ears) q ended
          ∙ (λ j. told_is face ears q j && (among_owns None asked q (interests_of face ints) (filter (meets asked) (all_keys hats)) ∙ ap (λ b. (meets asked q && any_folds None q (interests_of face ints)) || b) (among_filter (meets asked) q (all_keys hats))) j)
          ∙ ends_alike (is_among q told) (meets asked q) (asks_folded face q ints) (is_among q (all_keys hats))
          (λ on. ap (λ b. is_among q (all_keys hats) || b) (folded_own face q ints) ∙ informed.found q on)
          ∙ sym (among_filter (meets asked) q told)

    ended_alike : filter (was_told face ears) ended ≡ filter (meets asked) told
    ended_alike =
        same_keys text_total text_exact (filter (was_told face ears) ended) (filter (meets asked) told) (IsStrictlySortedBy-filter text_cmp (was_told face ears) ended ended_rise) (IsStrictlySortedBy-filter text_cmp (meets asked) told informed.rise) told_alike

    due_besides : (key : List ℕ) → row_as (asking_in less face) face o hats key ≡ due_on c less face key
    due_besides key =
        ap (λ d. (key, d)) (due_is c less None hats [] face o still key (asking_in less face key) refl refl)

    pub ended_are : (e : InterestEntry) → e.key ≡ asked → map (row_as (asking_in less face) face o hats) (filter (was_told face ears) ended) ≡ ended_dues c less ears face e
    ended_are e is =
        same_rows (row_as (asking_in less face) face o hats) (due_on c less face) due_besides (filter (was_told face ears) ended)
        ∙ ap (map (due_on c less face)) ended_alike
        ∙ ap (λ k. map (due_on c less face) (filter (meets k) told)) (sym is)
