-- An interest that comes or ends changes what is due on no key but those that it meets; one that comes makes nothing due for which it does not ask; and the end of one makes nothing due, and no information another but on its own key.
use Rattle.std.proofs.Common.{◌≡◌, ◌∙◌, refl, sym, ap, ℕ, Bool, true, false, cond, not, List, [], ◌∷◌, Option, Some, None}
use Rattle.std.specs.Prelude.{◌==◌, ◌||◌, ◌&&◌}
use Rattle.std.specs.BTreeMap.{insert_entry, is_at}
use Rattle.std.specs.List.{list_any}
use Rattle.std.specs.Map.{remove_entry}
use Rattle.std.specs.Option.{is_some, option_map_or, option_to_list}
use Rattle.std.specs.Ordering.{is_eq, match_ordering, nat_cmp}
use Rattle.std.specs.declared.cmp.Ordering.{Ordering}
use Rattle.std.specs.declared.cmp.Ordering.TheVariants.{Less, Equal, Greater}
use Rattle.std.proofs.lemmas.Bool.{false≢true, true≢false}
use Rattle.std.proofs.lemmas.List.Kept.{IsStrictlySortedBy-filter}
use Rattle.zq_message.specs.declared.message.QueryableInfoType.{QueryableInfoType}
use Rattle.zq_key.proofs.Lawful.{intersects-self}
use Rattle.zq_key.proofs.Lookups.{either_way}
use Rattle.zq_index.proofs.Orders.{text_exact, text_total}
use Rattle.zq_index.specs.Texts.{text_cmp}
use Rattle.zq_strategy.specs.declared.types.Strategy.{Strategy}
use Rattle.zq_strategy.specs.declared.types.Strategy.TheVariants as strategy
use Rattle.zq_strategy.specs.Regions.{is_north, strategy_at}
use Rattle.zq_strategy.specs.State.{HatState}
use Rattle.zq_interests.specs.declared.types.InterestEntry.{InterestEntry}
use Rattle.zq_interests.specs.Interests.{Interests, asked_for, asks_folded, asks_for, interests_of, is_own, meets, own_key, own_keys, wants, wants_folded, with_interest, without_interest}
use Rattle.zq_machine.specs.Due.{KeysRise, due, due_keys, face_keys, folded, heard, heard_touched, is_looked, listens_by}
use Rattle.zq_machine.specs.State.{Core, at, hat_of}
use Rattle.zq_machine.proofs.Changing.{number_test, one_number}
use Rattle.zq_machine.proofs.DueAsked.{listed, listed_at, none_without, with_one, without_one, written_at}
use Rattle.zq_machine.proofs.DueKeys.{all_rise, due_rise, is_among, touched_rise}
use Rattle.zq_machine.proofs.DueWhole.{interests_alone, of_part}
use Rattle.zq_machine.proofs.Widening.{asked_meets, folded_asked, own_meets, wide_rise}

abbrev Info : Type 0
Info = Option QueryableInfoType

-- ---- whether some interest passes a test
or_right : (a b : Bool) → b ≡ true → (a || b) ≡ true
or_right true b e = refl
or_right false b e = e

or_more : (a b c : Bool) → (b ≡ true → c ≡ true) → (a || b) ≡ true → (a || c) ≡ true
or_more true b c h e = refl
or_more false b c h e = h e

or_drop : (a b : Bool) → a ≡ false → (a || b) ≡ true → b ≡ true
or_drop true b out e = absurd (true≢false out)
or_drop false b out e = e

module _ (p : InterestEntry → Bool) (id : ℕ) where
  abbrev any : List (ℕ × InterestEntry) → Bool
  any es = list_any (λ (e : ℕ × InterestEntry). p e.1) es

  -- one is put in that does not, in the place of none that does
  any_put : (v : InterestEntry) → p v ≡ false → (es : List (ℕ × InterestEntry)) → ((old : InterestEntry) → at id es ≡ Some old → p old ≡ false) → any (insert_entry nat_cmp es id v) ≡ any es
  any_put v out [] none = ap (λ b. b || false) out
  any_put v out (e ∷ es) none = by (nat_cmp id e.0) refl (any_put v out es)
    where
      by : (r : Ordering) → nat_cmp id e.0 ≡ r → (((old : InterestEntry) → at id es ≡ Some old → p old ≡ false) → any (insert_entry nat_cmp es id v) ≡ any es)
          → any (match_ordering r ((id, v) ∷ e ∷ es) ((e.0, v) ∷ es) (e ∷ insert_entry nat_cmp es id v)) ≡ any (e ∷ es)
      by Less is more = ap (λ b. b || any (e ∷ es)) out
      by Equal is more = ap (λ b. b || any es) (out ∙ sym (none e.1 (ap (λ r. cond (is_eq r) (Some e.1) (at id es)) is)))
      by Greater is more = ap (λ b. p e.1 || b) (more (λ old there. none old (ap (λ r. cond (is_eq r) (Some e.1) (at id es)) is ∙ there)))

  -- one is put in that does not, so that not more do
  any_less : (v : InterestEntry) → p v ≡ false → (es : List (ℕ × InterestEntry)) → any (insert_entry nat_cmp es id v) ≡ true → any es ≡ true
  any_less v out [] some = or_drop (p v) false out some
  any_less v out (e ∷ es) some = by (nat_cmp id e.0) some (any_less v out es)
    where
      by : (r : Ordering) → any (match_ordering r ((id, v) ∷ e ∷ es) ((e.0, v) ∷ es) (e ∷ insert_entry nat_cmp es id v)) ≡ true → (any (insert_entry nat_cmp es id v) ≡ true → any es ≡ true) → any (e ∷ es) ≡ true
      by Less h more = or_drop (p v) (any (e ∷ es)) out h
      by Equal h more = or_right (p e.1) (any es) (or_drop (p v) (any es) out h)
      by Greater h more = or_more (p e.1) (any (insert_entry nat_cmp es id v)) (any es) more h

  -- one is taken out that does not
  any_left : (es : List (ℕ × InterestEntry)) → ((old : InterestEntry) → at id es ≡ Some old → p old ≡ false) → any (remove_entry (is_at (nat_cmp id)) es) ≡ any es
  any_left [] none = refl
  any_left (e ∷ es) none = by (is_at (nat_cmp id) e.0) refl (any_left es)
    where
      by : (b : Bool) → is_at (nat_cmp id) e.0 ≡ b → (((old : InterestEntry) → at id es ≡ Some old → p old ≡ false) → any (remove_entry (is_at (nat_cmp id)) es) ≡ any es)
          → any (cond b es (e ∷ remove_entry (is_at (nat_cmp id)) es)) ≡ any (e ∷ es)
      by true is more = ap (λ b. b || any es) (sym (none e.1 (ap (λ b. cond b (Some e.1) (at id es)) is)))
      by false is more = ap (λ b. p e.1 || b) (more (λ old there. none old (ap (λ b. cond b (Some e.1) (at id es)) is ∙ there)))

  -- one is taken out
  any_out : (es : List (ℕ × InterestEntry)) → any (remove_entry (is_at (nat_cmp id)) es) ≡ true → any es ≡ true
  any_out [] h = h
  any_out (e ∷ es) h = by (is_at (nat_cmp id) e.0) (any_out es) h
    where
      by : (b : Bool) → (any (remove_entry (is_at (nat_cmp id)) es) ≡ true → any es ≡ true) → any (cond b es (e ∷ remove_entry (is_at (nat_cmp id)) es)) ≡ true → any (e ∷ es) ≡ true
      by true more g = or_right (p e.1) (any es) g
      by false more g = or_more (p e.1) (any (remove_entry (is_at (nat_cmp id)) es)) (any es) more g

-- ---- tests of one key
module _ (key : List ℕ) where
  abbrev wanted : InterestEntry → Bool
  wanted i = asked_for i key

  abbrev folding : InterestEntry → Bool
  folding i = option_map_or (λ k. is_at (text_cmp k) key) (own_key i) false

  not_true : (b : Bool) → (b ≡ true → ⊥) → b ≡ false
  not_true true h = absurd (h refl)
  not_true false h = refl

  -- an interest that does not meet the key does not ask for it
  unmet : (i : InterestEntry) → meets i.key key ≡ false → (wanted i ≡ false) × (folding i ≡ false)
  unmet i out =
      let off : wanted i ≡ false = not_true (wanted i) (λ e. true≢false (sym (asked_meets i key e) ∙ out)) in
      (off, not_true (folding i) (λ e. true≢false (sym (folded_asked key (0, i) e) ∙ off)))

  -- one that asks for the key as one entry has it
  folds_own : (i : InterestEntry) → folding i ≡ true → (option_map_or (λ k. is_at (text_cmp k) key) i.key false ≡ true) × (is_own i.key key ≡ true)
  folds_own i = by i.aggregate i.key
    where
      by : (b : Bool) (o : Option (List ℕ)) → option_map_or (λ k. is_at (text_cmp k) key) (cond b o None) false ≡ true → (option_map_or (λ k. is_at (text_cmp k) key) o false ≡ true) × (is_own o key ≡ true)
      by true None e = absurd (false≢true e)
      by true (Some k) e = (e, e)
      by false o e = absurd (false≢true e)

  -- its own key is asked for by every interest
  own_asked : (i : InterestEntry) → is_own i.key key ≡ true → wanted i ≡ true
  own_asked i own = by i.aggregate
    where
      by : (b : Bool) → cond b (is_own i.key key) (meets i.key key) ≡ true
      by true = own
      by false = own_meets i.key key own

-- ---- what is due, by what is asked for
abbrev due_by : Core → ℕ → List ℕ → Option HatState → (asks one : Bool) → Info
due_by c face key x asks one =
    cond (option_map_or (λ (h : HatState). listens_by (strategy_at h) (is_north h.region) asks) x false)
    (cond (option_map_or (λ (h : HatState). not (listens_by (strategy_at h) (is_north h.region) false) && one) x false) (folded c face key) (heard c face key)) None

-- what is due where less is asked for is due all the more where more is
less_same : (c : Core) (face : ℕ) (key : List ℕ) (x : Option HatState) (one now was : Bool) → (now ≡ true → was ≡ true) → is_some (due_by c face key x now one) ≡ true → due_by c face key x now one ≡ due_by c face key x was one
less_same c face key x one true was less some = ap (λ b. due_by c face key x b one) (sym (less refl))
less_same c face key x one false false less some = refl
less_same c face key None one false true less some = absurd (false≢true some)
less_same c face key (Some h) one false true less some = by (strategy_at h) (is_north h.region) some
  where
    i : Strategy → Bool → Info
    i k north = cond (not (listens_by k north false) && one) (folded c face key) (heard c face key)

    by : (k : Strategy) (north : Bool) → is_some (cond (listens_by k north false) (cond (not (listens_by k north false) && one) (folded c face key) (heard c face key)) None) ≡ true
        → cond (listens_by k north false) (cond (not (listens_by k north false) && one) (folded c face key) (heard c face key)) None ≡ cond (listens_by k north true) (cond (not (listens_by k north false) && one) (folded c face key) (heard c face key)) None
    by strategy.Broker north s = absurd (false≢true s)
    by strategy.Client north s = refl
    by strategy.Peer true s = refl
    by strategy.Peer false s = absurd (false≢true s)
    by strategy.Router north s = refl

-- and is due at all where it was one entry
less_some : (c : Core) (face : ℕ) (key : List ℕ) (x : Option HatState) (now was one ones : Bool) → (now ≡ true → was ≡ true) → (one ≡ true → ones ≡ true) → is_some (due_by c face key x now one) ≡ true → is_some (due_by c face key x was ones) ≡ true
less_some c face key None now was one ones more folds some = absurd (false≢true some)
less_some c face key (Some h) now was one ones more folds some = by (strategy_at h) (is_north h.region) some
  where
    entry : (u one ones : Bool) → (one ≡ true → ones ≡ true) → is_some (cond (not u && one) (folded c face key) (heard c face key)) ≡ true → is_some (cond (not u && ones) (folded c face key) (heard c face key)) ≡ true
    entry true one ones f s = s
    entry false true ones f s = ap (λ b. is_some (cond b (folded c face key) (heard c face key))) (f refl) ∙ s
    entry false false true f s = of_part c face key key (intersects-self key) s
    entry false false false f s = s

    listened : (u : Bool) (now was one ones : Bool) → (now ≡ true → was ≡ true) → (one ≡ true → ones ≡ true) → is_some (cond now (cond (not u && one) (folded c face key) (heard c face key)) None) ≡ true
        → is_some (cond was (cond (not u && ones) (folded c face key) (heard c face key)) None) ≡ true
    listened u true was one ones m f s = ap (λ b. is_some (cond b (cond (not u && ones) (folded c face key) (heard c face key)) None)) (m refl) ∙ entry u one ones f s
    listened u false was one ones m f s = absurd (false≢true s)

    by : (k : Strategy) (north : Bool) → is_some (cond (listens_by k north now) (cond (not (listens_by k north false) && one) (folded c face key) (heard c face key)) None) ≡ true
        → is_some (cond (listens_by k north was) (cond (not (listens_by k north false) && ones) (folded c face key) (heard c face key)) None) ≡ true
    by strategy.Broker north s = listened false now was one ones more folds s
    by strategy.Client north s = entry true one ones folds s
    by strategy.Peer true s = entry true one ones folds s
    by strategy.Peer false s = listened false now was one ones more folds s
    by strategy.Router north s = absurd (false≢true s)

-- the asker's own number, or another's
apart_by : (face asker : ℕ) (b : Bool) → ((face == asker) && b) ≡ false → is_at (nat_cmp asker) face ≡ true → b ≡ false
apart_by face asker b off is = sym (ap (λ x. x && b) (sym (number_test face asker) ∙ ap (λ n. is_at (nat_cmp n) asker) (sym (one_number asker face is)) ∙ ap (is_at (nat_cmp asker)) (one_number asker face is) ∙ is)) ∙ off

-- ---- an interest comes, in the place of none or of one that asks for the same key
module _ (c : Core) (ints : Interests) (asker id : ℕ) (asked : InterestEntry) (same : (old : InterestEntry) → at id (interests_of asker ints) ≡ Some old → old.key ≡ asked.key) (face : ℕ) (key : List ℕ) where
  abbrev more : Interests
  more = with_interest asker id asked ints

  comes : interests_of face more ≡ listed ints asker (with_one asker id asked ints) face (is_at (nat_cmp asker) face)
  comes = listed_at ints asker (with_one asker id asked ints) face

  -- the asks of the asker, by its interests
  asks_as : (es : List (ℕ × InterestEntry)) → Info
  asks_as es = due_by c face key (hat_of face c) (list_any (wants key) es) (list_any (wants_folded key) es)

  pub asks_stay : ((face == asker) && meets asked.key key) ≡ false → due c more face key ≡ due c ints face key
  asks_stay off = by (is_at (nat_cmp asker) face) refl
    where
      own : asker ≡ face → interests_of face more ≡ with_one asker id asked ints → meets asked.key key ≡ false → due c more face key ≡ due c ints face key
      own here is out =
          let new = unmet key asked out in
          let old : (x : InterestEntry) → at id (interests_of asker ints) ≡ Some x → (wanted key x ≡ false) × (folding key x ≡ false) = λ x there. unmet key x (ap (λ k. meets k key) (same x there) ∙ out) in
          (λ j. due_by c face key (hat_of face c)
          ((ap (list_any (wants key)) is ∙ any_put (wanted key) id asked new.0 (interests_of asker ints) (λ x there. (old x there).0) ∙ ap (λ n. asks_for n key ints) here) j)
          ((ap (list_any (wants_folded key)) is ∙ any_put (folding key) id asked new.1 (interests_of asker ints) (λ x there. (old x there).1) ∙ ap (λ n. asks_folded n key ints) here) j))

      by : (b : Bool) → is_at (nat_cmp asker) face ≡ b → due c more face key ≡ due c ints face key
      by true is = own (one_number asker face is) (comes ∙ ap (listed ints asker (with_one asker id asked ints) face) is) (apart_by face asker (meets asked.key key) off is)
      by false is = interests_alone c more ints face key (comes ∙ ap (listed ints asker (with_one asker id asked ints) face) is)

  -- each key that is not its own is asked for as one entry as before
  own_off : (o : Option (List ℕ)) → is_among key (option_to_list o) ≡ false → option_map_or (λ k. is_at (text_cmp k) key) o false ≡ false
  own_off None off = refl
  own_off (Some k) off = either_way text_total text_exact k key ∙ or_none (is_at (text_cmp key) k) ∙ off
    where
      or_none : (b : Bool) → b ≡ (b || false)
      or_none true = refl
      or_none false = refl

  pub folds_alike : is_among key (option_to_list asked.key) ≡ false → asks_folded face key more ≡ asks_folded face key ints
  folds_alike off = by (is_at (nat_cmp asker) face) refl
    where
      not_folding : (x : InterestEntry) → x.key ≡ asked.key → folding key x ≡ false
      not_folding x e = not_true key (folding key x) (λ on. true≢false (sym (folds_own key x on).0 ∙ ap (λ o. option_map_or (λ k. is_at (text_cmp k) key) o false) e ∙ own_off asked.key off))

      own : asker ≡ face → interests_of face more ≡ with_one asker id asked ints → asks_folded face key more ≡ asks_folded face key ints
      own here is = ap (list_any (wants_folded key)) is ∙ any_put (folding key) id asked (not_folding asked refl) (interests_of asker ints) (λ x there. not_folding x (same x there)) ∙ ap (λ n. asks_folded n key ints) here

      by : (b : Bool) → is_at (nat_cmp asker) face ≡ b → asks_folded face key more ≡ asks_folded face key ints
      by true is = own (one_number asker face is) (comes ∙ ap (listed ints asker (with_one asker id asked ints) face) is)
      by false is = ap (list_any (wants_folded key)) (comes ∙ ap (listed ints asker (with_one asker id asked ints) face) is)

  -- for a key that it does not ask for nothing becomes due by it, and no information another
  pub asks_less : asked_for asked key ≡ false → is_some (due c more face key) ≡ true → due c more face key ≡ due c ints face key
  asks_less out some = by (is_at (nat_cmp asker) face) refl
    where
      not_folding : (x : InterestEntry) → x.key ≡ asked.key → folding key x ≡ false
      not_folding x e = not_true key (folding key x) (λ on. true≢false (sym (own_asked key asked (ap (λ k. is_own k key) (sym e) ∙ (folds_own key x on).1)) ∙ out))

      own : asker ≡ face → interests_of face more ≡ with_one asker id asked ints → due c more face key ≡ due c ints face key
      own here is =
          let one : asks_folded face key more ≡ asks_folded face key ints = ap (list_any (wants_folded key)) is ∙ any_put (folding key) id asked (not_folding asked refl) (interests_of asker ints) (λ x there. not_folding x (same x there)) ∙ ap (λ n. asks_folded n key ints) here in
          less_same c face key (hat_of face c) (asks_folded face key more) (asks_for face key more) (asks_for face key ints)
          (λ on. ap (λ n. asks_for n key ints) (sym here) ∙ any_less (wanted key) id asked out (interests_of asker ints) (sym (ap (list_any (wants key)) is) ∙ on)) some
          ∙ ap (due_by c face key (hat_of face c) (asks_for face key ints)) one

      by : (b : Bool) → is_at (nat_cmp asker) face ≡ b → due c more face key ≡ due c ints face key
      by true is = own (one_number asker face is) (comes ∙ ap (listed ints asker (with_one asker id asked ints) face) is)
      by false is = interests_alone c more ints face key (comes ∙ ap (listed ints asker (with_one asker id asked ints) face) is)

-- ---- an interest ends
module _ (c : Core) (ints : Interests) (asker id face : ℕ) (key : List ℕ) where
  abbrev less : Interests
  less = without_interest asker id ints

  ends : interests_of face less ≡ listed ints asker (without_one asker id ints) face (is_at (nat_cmp asker) face)
  ends = written_at ints asker (without_one asker id ints) face (none_without asker id ints)

  pub ends_stay : ((old : InterestEntry) → at id (interests_of asker ints) ≡ Some old → ((face == asker) && meets old.key key) ≡ false) → due c less face key ≡ due c ints face key
  ends_stay off = by (is_at (nat_cmp asker) face) refl
    where
      own : asker ≡ face → interests_of face less ≡ without_one asker id ints → ((x : InterestEntry) → at id (interests_of asker ints) ≡ Some x → meets x.key key ≡ false) → due c less face key ≡ due c ints face key
      own here is none =
          (λ j. due_by c face key (hat_of face c)
          ((ap (list_any (wants key)) is ∙ any_left (wanted key) id (interests_of asker ints) (λ x there. (unmet key x (none x there)).0) ∙ ap (λ n. asks_for n key ints) here) j)
          ((ap (list_any (wants_folded key)) is ∙ any_left (folding key) id (interests_of asker ints) (λ x there. (unmet key x (none x there)).1) ∙ ap (λ n. asks_folded n key ints) here) j))

      by : (b : Bool) → is_at (nat_cmp asker) face ≡ b → due c less face key ≡ due c ints face key
      by true is = own (one_number asker face is) (ends ∙ ap (listed ints asker (without_one asker id ints) face) is) (λ x there. apart_by face asker (meets x.key key) (off x there) is)
      by false is = interests_alone c less ints face key (ends ∙ ap (listed ints asker (without_one asker id ints) face) is)

  -- it makes nothing due
  pub ends_less : is_some (due c less face key) ≡ true → is_some (due c ints face key) ≡ true
  ends_less some = by (is_at (nat_cmp asker) face) refl
    where
      own : asker ≡ face → interests_of face less ≡ without_one asker id ints → is_some (due c ints face key) ≡ true
      own here is =
          less_some c face key (hat_of face c) (asks_for face key less) (asks_for face key ints) (asks_folded face key less) (asks_folded face key ints)
          (λ on. ap (λ n. asks_for n key ints) (sym here) ∙ any_out (wanted key) id (interests_of asker ints) (sym (ap (list_any (wants key)) is) ∙ on))
          (λ on. ap (λ n. asks_folded n key ints) (sym here) ∙ any_out (folding key) id (interests_of asker ints) (sym (ap (list_any (wants_folded key)) is) ∙ on)) some

      by : (b : Bool) → is_at (nat_cmp asker) face ≡ b → is_some (due c ints face key) ≡ true
      by true is = own (one_number asker face is) (ends ∙ ap (listed ints asker (without_one asker id ints) face) is)
      by false is = sym (ap is_some (interests_alone c less ints face key (ends ∙ ap (listed ints asker (without_one asker id ints) face) is))) ∙ some

  -- and no information another, but on its own key
  pub ends_same : ((old : InterestEntry) → at id (interests_of asker ints) ≡ Some old → option_map_or (λ k. is_at (text_cmp k) key) old.key false ≡ false) → is_some (due c less face key) ≡ true → due c less face key ≡ due c ints face key
  ends_same none some = by (is_at (nat_cmp asker) face) refl
    where
      not_folding : (x : InterestEntry) → at id (interests_of asker ints) ≡ Some x → folding key x ≡ false
      not_folding x there = not_true key (folding key x) (λ on. true≢false (sym (folds_own key x on).0 ∙ none x there))

      own : asker ≡ face → interests_of face less ≡ without_one asker id ints → due c less face key ≡ due c ints face key
      own here is =
          let one : asks_folded face key less ≡ asks_folded face key ints = ap (list_any (wants_folded key)) is ∙ any_left (folding key) id (interests_of asker ints) not_folding ∙ ap (λ n. asks_folded n key ints) here in
          less_same c face key (hat_of face c) (asks_folded face key less) (asks_for face key less) (asks_for face key ints)
          (λ on. ap (λ n. asks_for n key ints) (sym here) ∙ any_out (wanted key) id (interests_of asker ints) (sym (ap (list_any (wants key)) is) ∙ on)) some
          ∙ ap (due_by c face key (hat_of face c) (asks_for face key ints)) one

      by : (b : Bool) → is_at (nat_cmp asker) face ≡ b → due c less face key ≡ due c ints face key
      by true is = own (one_number asker face is) (ends ∙ ap (listed ints asker (without_one asker id ints) face) is)
      by false is = interests_alone c less ints face key (ends ∙ ap (listed ints asker (without_one asker id ints) face) is)

-- ---- keys that are looked at stand in order
pub keys_rise : (c : Core) (ints : Interests) (face : ℕ) → KeysRise c ints face
keys_rise c ints face = record {
  all = due_rise c;
  own = all_rise (own_keys face ints) (due_keys c) (due_rise c);
  touched = λ t. wide_rise face ints (heard_touched c t face) (touched_rise c t face);
  asked = λ asked. IsStrictlySortedBy-filter text_cmp (is_looked c ints face asked) _ (all_rise (option_to_list asked.key) (face_keys c ints face) (all_rise (own_keys face ints) (due_keys c) (due_rise c)));
}
