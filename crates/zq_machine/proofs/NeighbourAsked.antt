-- A receiver that keeps what is due to a face keeps it over an interest and over its end; other faces are told nothing then.
use Rattle.std.proofs.Common.{◌≡◌, ◌∙◌, refl, sym, ap, subst, ℕ, Bool, true, false, cond, eq-eqb, List, [], ◌∷◌, ◌++◌, filter, fold, length, map, ◌+◌, Option, Some, None, true≢false, arith}
use Rattle.std.specs.Prelude.{◌==◌, ◌≢◌, ◌&&◌, ◌||◌, is_none}
use Rattle.std.specs.BTreeMap.{is_at}
use Rattle.std.specs.BTreeSet.{insert_key}
use Rattle.std.specs.List.{AllByRecursion, flat_map, list_any}
use Rattle.std.specs.List.Sorted.{IsStrictlySortedBy}
use Rattle.std.specs.Map.{keys_of}
use Rattle.std.specs.Option.{is_some, option_and_then, option_map, option_map_or, option_to_list}
use Rattle.std.specs.Ordering.{is_eq, nat_cmp}
use Rattle.std.specs.declared.cmp.Ordering.TheVariants.{Less}
use Rattle.std.proofs.Math.Bool.{or-false}
use Rattle.std.proofs.lemmas.Bool.{false≢true, or_parts}
use Rattle.std.proofs.lemmas.Cmp.{nat_cmp_total}
use Rattle.std.proofs.lemmas.List.{append-nil, length-map}
use Rattle.std.proofs.lemmas.List.Kept.{IsStrictlySortedBy-filter}
use Rattle.std.proofs.lemmas.Map.Lookups.{exact_unsigned}
use Rattle.std.proofs.lemmas.Map.Keys.{sorted_head, sorted_tail}
use Rattle.std.proofs.lemmas.Map.Made.{is_some-lookup}
use Rattle.std.proofs.lemmas.Option.{same_Some}
use Rattle.zq_message.specs.declared.message.QueryableInfoType.{QueryableInfoType}
use Rattle.zq_key.proofs.Lawful.{intersects-self}
use Rattle.zq_key.proofs.Lookups.{apart, at_itself, same_key}
use Rattle.zq_index.specs.Infos.{same_bool, same_info}
use Rattle.zq_index.specs.Texts.{at_text, text_cmp}
use Rattle.zq_index.proofs.Orders.{text_exact, text_total}
use Rattle.zq_strategy.specs.declared.network.Telling.{Telling}
use Rattle.zq_interests.specs.declared.types.InterestEntry.{InterestEntry}
use Rattle.zq_told.specs.declared.types.ToldEntry.{ToldEntry}
use Rattle.zq_told.specs.declared.types.Reason.{Reason}
use Rattle.zq_told.specs.declared.types.Reason.TheVariants.{Answer, End}
use Rattle.zq_told.specs.ToldSets.{ToldSet, ToldSets, Told, at_face}
use Rattle.zq_told.specs.Telling.{KeyDue, change, declared, lacks_ids, renewed, tell_due, tell_faces}
use Rattle.zq_told.specs.Receiver.{Heard, heard_after}
use Rattle.zq_told.specs.Laws.{InOrder, aim, aim_on, ear_after, is_to, takes_id, told_alone, told_in}
use Rattle.zq_told.specs.Leaving.{HaveIds, changed_on, is_too_great, lacks_there, takes_ids}
use Rattle.zq_told.proofs.Differing.{looks_up, tells_each}
use Rattle.zq_told.proofs.Faces.{less_due}
use Rattle.zq_told.proofs.Leaving.{ends_changing, lacks_exactly}
use Rattle.zq_told.proofs.Reaching.{below_by}
use Rattle.zq_machine.specs.Due.{asked_keys, due, due_keys, face_keys, is_looked}
use Rattle.zq_interests.specs.Interests.{Interests, asked_for, interests_of, meets, own_keys, with_interest, without_interest}
use Rattle.zq_machine.specs.Neighbours.{answer_lacks, answer_told, asked_dues, due_on, ears_asked, ears_ended, ended_at, ended_dues, ended_told, with_dues}
use Rattle.zq_told.specs.ToldSets.{told_keys}
use Rattle.zq_machine.specs.Receivers.{Hears, heard_asked, heard_ended, is_news, lacks_at}
use Rattle.zq_machine.specs.State.{Core, at}
use Rattle.zq_machine.proofs.Changing.{number_test}
use Rattle.zq_machine.proofs.DueInterests.{asks_less, asks_stay, ends_less, ends_same, ends_stay, folds_alike, keys_rise}
use Rattle.zq_machine.proofs.DueKeys.{all_put, is_among}
use Rattle.zq_machine.proofs.DueWhole.{keys_among}
use Rattle.zq_machine.proofs.NeighbourDues.{aims_at, alone_rises, among_filter, filter_rows, keys_alone, keys_beside, rows_rise, same_passing}
use Rattle.zq_machine.proofs.NeighbourTold.{keeps_due, told_here}
use Rattle.zq_machine.proofs.Widening.{folded_own}

never : (b : Bool) → (b && false) ≡ false
never true = refl
never false = refl

or_true : (a b : Bool) → b ≡ true → (a || b) ≡ true
or_true true b e = refl
or_true false b e = e

or_first : (a b : Bool) → a ≡ true → (a || b) ≡ true
or_first a b e = ap (λ x. x || b) e

-- an information is the same as itself
same_again : (i : QueryableInfoType) → same_info i i ≡ true
same_again i = ap (λ b. b && (i.distance == i.distance)) (by i.complete) ∙ eq-eqb i.distance i.distance refl
  where
    by : (b : Bool) → same_bool b b ≡ true
    by true = refl
    by false = refl

-- the first of keys in order is none of the others
head_alone : (k : List ℕ) (ks : List (List ℕ)) → IsStrictlySortedBy text_cmp (k ∷ ks) → is_among k ks ≡ false
head_alone k ks s = by ks (sorted_head text_cmp k ks s)
  where
    by : (ls : List (List ℕ)) → AllByRecursion (λ q. text_cmp k q ≡ Less) ls → is_among k ls ≡ false
    by [] all = refl
    by (l ∷ ls) all = λ j. ap is_eq all.0 j || by ls all.1 j

-- ---- only the asker is told
module _ (way : Reason) (ears : ToldSets) (asker face : ℕ) (keys : List KeyDue) (other : is_at (nat_cmp face) asker ≡ false) where
  beside_by : (keys : List KeyDue) → flat_map (told_alone way ears face) (with_dues asker keys) ≡ []
  beside_by [] = refl
  beside_by (k ∷ ks) = ap (λ b. cond b (option_map_or (λ (e : ToldSet). told_in way face e (k ∷ ks)) (at_face face ears) []) [] ++ []) (sym (number_test face asker) ∙ other)

  pub told_beside : filter (is_to face) (tell_faces way ears (with_dues asker keys)).tellings ≡ []
  told_beside = tells_each way ears (with_dues asker keys) face ∙ beside_by keys

  pub left_beside : at_face face (tell_due way ears (with_dues asker keys)) ≡ at_face face ears
  left_beside =
      looks_up way ears (with_dues asker keys) (alone_rises asker keys) face
      ∙ ap (λ o. option_map_or (λ ks. option_map (λ (e : ToldSet). ear_after way face e ks) (at_face face ears)) o (at_face face ears)) (keys_beside face asker keys other)

  -- to another face the same is due, and its receiver keeps what it kept
  pub other_hears : (c : Core) (ints more : Interests) (heard : Heard) → ((key : List ℕ) → due c more face key ≡ due c ints face key) → Hears c ints ears face heard → Hears c more (tell_due way ears (with_dues asker keys)) face heard
  other_hears c ints more heard same h = record { ear = h.ear; there = left_beside ∙ h.there; sorted = h.sorted; tied = h.tied; told = λ key. h.told key ∙ sym (same key) }

  -- at another face an interest meets nothing
  pub other_unmet : (b : Bool) → ((face == asker) && b) ≡ false
  other_unmet b = ap (λ x. x && b) (sym (number_test face asker) ∙ other)

-- ---- an interest
answered : (now old : Option QueryableInfoType) → aim Answer now old ≡ now
answered None old = refl
answered (Some i) old = refl

module _ (c : Core) (ints : Interests) (ears : ToldSets) (asker id : ℕ) (asked : InterestEntry) (same : (old : InterestEntry) → at id (interests_of asker ints) ≡ Some old → old.key ≡ asked.key) where
  abbrev more : Interests
  more = with_interest asker id asked ints

  abbrev asks : List KeyDue
  asks = asked_dues c more asker asked

  asks_rise : IsStrictlySortedBy text_cmp (asked_keys c more asker asked)
  asks_rise = (keys_rise c more asker).asked asked

  -- on a key that is not looked at the same is due
  pub asked_off : (key : List ℕ) → is_among key (asked_keys c more asker asked) ≡ false → due c ints asker key ≡ due c more asker key
  asked_off key off = by_met (meets asked.key key) refl
    where
      base : List (List ℕ)
      base = fold (insert_key text_cmp) (face_keys c more asker) (option_to_list asked.key)

      away : (is_looked c more asker asked key && is_among key base) ≡ false
      away = sym (among_filter (is_looked c more asker asked) key base) ∙ off

      in_base : is_among key (face_keys c more asker) ≡ true → is_among key base ≡ true
      in_base on = all_put key (face_keys c more asker) (option_to_list asked.key) ∙ or_true (is_among key (option_to_list asked.key)) (is_among key (face_keys c more asker)) on

      -- what was due before is among all keys that are tried
      was_there : is_some (due c ints asker key) ≡ true → is_among key base ≡ true
      was_there some = all_put key (face_keys c more asker) (option_to_list asked.key) ∙ by (is_among key (option_to_list asked.key)) refl
        where
          by : (b : Bool) → is_among key (option_to_list asked.key) ≡ b → (b || is_among key (face_keys c more asker)) ≡ true
          by true e = refl
          by false e =
              all_put key (due_keys c) (own_keys asker more)
              ∙ ap (λ b. b || is_among key (due_keys c)) (sym (folded_own asker key more) ∙ folds_alike c ints asker id asked same asker key e ∙ folded_own asker key ints)
              ∙ sym (all_put key (due_keys c) (own_keys asker ints))
              ∙ keys_among c ints asker key some

      by_due : meets asked.key key ≡ true → (now : Option QueryableInfoType) → due c more asker key ≡ now → (looks : Bool) → asked_for asked key ≡ looks → due c ints asker key ≡ now
      by_due met (Some i) e true asks = absurd (true≢false (sym ((λ j. (asks j || (meets asked.key key && is_none (due c more asker key))) && in_base (keys_among c more asker key (ap is_some e)) j)) ∙ away))
      by_due met (Some i) e false asks = sym (asks_less c ints asker id asked same asker key asks (ap is_some e)) ∙ e
      by_due met None e looks asks = none (due c ints asker key) refl
        where
          looked : is_looked c more asker asked key ≡ true
          looked = (λ j. asked_for asked key || (met j && is_none (e j))) ∙ or_true (asked_for asked key) true refl

          none : (o : Option QueryableInfoType) → due c ints asker key ≡ o → o ≡ None
          none None f = refl
          none (Some i) f = absurd (true≢false (sym (λ j. looked j && was_there (ap is_some f) j) ∙ away))

      by_met : (b : Bool) → meets asked.key key ≡ b → due c ints asker key ≡ due c more asker key
      by_met true met = by_due met (due c more asker key) refl (asked_for asked key) refl
      by_met false unmet = sym (asks_stay c ints asker id asked same asker key (ap (λ b. (asker == asker) && b) unmet ∙ never (asker == asker)))

  pub asker_told : (heard : Heard) → Hears c ints ears asker heard → Hears c more (ears_asked c more ears asker asked) asker (heard_asked c more ears asker asked heard)
  asker_told heard h =
      subst (λ ks. Hears c more (ears_asked c more ears asker asked) asker (heard_after Answer ks heard (filter (is_to asker) (answer_told c more ears asker asked)))) (keys_alone asker asks)
      (keeps_due Answer c c ints more ears (with_dues asker asks) (alone_rises asker asks) asker heard
      (subst InOrder (sym (keys_alone asker asks)) (rows_rise (due c more asker) (asked_keys c more asker asked) asks_rise)) h
      (λ key. ap (λ ks. aim_on Answer ks (due c ints asker key) key) (keys_alone asker asks)
      ∙ aims_at (due c more asker) Answer key (asked_keys c more asker asked) (due c ints asker key) (due c more asker key) (λ on. answered (due c more asker key) (due c ints asker key)) (asked_off key)))

  module _ (face : ℕ) (ne : face ≢ asker) where
    other : is_at (nat_cmp face) asker ≡ false
    other = apart nat_cmp_total exact_unsigned face asker ne

    pub others_asked : (heard : Heard) → Hears c ints ears face heard → Hears c more (ears_asked c more ears asker asked) face heard
    others_asked heard h = other_hears Answer ears asker face asks other c ints more heard (λ key. asks_stay c ints asker id asked same face key (other_unmet Answer ears asker face asks other (meets asked.key key))) h

    pub others_untold : filter (is_to face) (answer_told c more ears asker asked) ≡ []
    others_untold = told_beside Answer ears asker face asks other

  -- ---- ids that lack to it
  module _ (heard : Heard) (h : Hears c ints ears asker heard) (ids : HaveIds ears) where
    news_by : (key : List ℕ) (b : Bool) → is_among key (asked_keys c more asker asked) ≡ b → is_news c more asker h.ear key ≡ true → b ≡ true
    news_by key true e news = refl
    news_by key false e news = absurd (true≢false (sym news ∙ by (at_text key h.ear.told) (due c more asker key) (h.told key ∙ asked_off key e)))
      where
        by : (o : Option ToldEntry) (d : Option QueryableInfoType) → option_map (λ (x : ToldEntry). x.info) o ≡ d → (is_none o && is_some d) ≡ false
        by None d f = ap is_some (sym f)
        by (Some x) d f = refl

    news_met : filter (is_news c more asker h.ear) (asked_keys c more asker asked) ≡ filter (is_news c more asker h.ear) (face_keys c more asker)
    news_met =
        same_passing (is_news c more asker h.ear) (asked_keys c more asker asked) (face_keys c more asker) asks_rise ((keys_rise c more asker).own) (λ q e. news_by q (is_among q (asked_keys c more asker asked)) refl e)
        (λ q e. keys_among c more asker q (both (is_none (at_text q h.ear.told)) (is_some (due c more asker q)) e))
      where
        both : (a b : Bool) → (a && b) ≡ true → b ≡ true
        both true b e = e
        both false b e = absurd (true≢false (sym e))

    lacks_by : (ks : List KeyDue) → lacks_ids Answer ears (with_dues asker ks) ≡ is_too_great (h.ear.last + length (filter (takes_id Answer h.ear.told) ks))
    lacks_by [] = sym (ap is_too_great (let z : h.ear.last + 0 ≡ h.ear.last = omega arith in z) ∙ below_by h.ear.last (ids asker h.ear h.there))
    lacks_by (k ∷ ks) =
        lacks_exactly Answer ears (with_dues asker (k ∷ ks))
        ∙ or-false (lacks_there Answer ears (record { face = record { 0 = asker }; keys = k ∷ ks }))
        ∙ ap (λ o. option_map_or (λ (e : ToldSet). is_too_great (e.last + length (filter (takes_id Answer e.told) (k ∷ ks)))) o false) h.there

    pub lacks_asked : answer_lacks c more ears asker asked ≡ lacks_at c more ears asker
    lacks_asked =
        lacks_by asks
        ∙ ap (λ n. is_too_great (h.ear.last + n))
        (ap length (filter_rows (due c more asker) (takes_id Answer h.ear.told) (asked_keys c more asker asked))
        ∙ length-map (filter (is_news c more asker h.ear) (asked_keys c more asker asked)) (due_on c more asker)
        ∙ ap length news_met)
        ∙ sym (ap (λ o. option_map_or (λ (e : ToldSet). is_too_great (e.last + length (filter (is_news c more asker e) (face_keys c more asker)))) o false) h.there)

-- ---- its end
ended_by : (now old : Option QueryableInfoType) → (is_some now ≡ true → is_some old ≡ true) → aim End now old ≡ now
ended_by None old h = refl
ended_by (Some i) old h = ap (λ b. cond b (Some i) None) (h refl)

-- of keys in order at most one is the one that adds
module _ {X : Type 0} (f : List ℕ → List X) (key : List ℕ) where
  none_else : (ks : List (List ℕ)) → is_among key ks ≡ false → ((k : List ℕ) → is_among k ks ≡ true → is_at (text_cmp key) k ≡ false → f k ≡ []) → flat_map f ks ≡ []
  none_else [] out none = refl
  none_else (k ∷ ks) out none =
      let both = or_parts (is_at (text_cmp key) k) (is_among key ks) out in
      (λ j. none k (or_first (is_at (text_cmp k) k) (is_among k ks) (at_itself text_total text_exact k)) both.0 j ++ none_else ks both.1 (λ q on off. none q (or_true (is_at (text_cmp q) k) (is_among q ks) on) off) j)

  only_one : (ks : List (List ℕ)) → IsStrictlySortedBy text_cmp ks → ((k : List ℕ) → is_among k ks ≡ true → is_at (text_cmp key) k ≡ false → f k ≡ []) → flat_map f ks ≡ cond (is_among key ks) (f key) []
  only_one [] s none = refl
  only_one (k ∷ ks) s none = by (is_at (text_cmp key) k) refl (only_one ks (sorted_tail text_cmp k ks s) (λ q on off. none q (or_true (is_at (text_cmp q) k) (is_among q ks) on) off))
    where
      later : (q : List ℕ) → is_among q ks ≡ true → is_at (text_cmp key) q ≡ false → f q ≡ []
      later q on off = none q (or_true (is_at (text_cmp q) k) (is_among q ks) on) off

      by : (b : Bool) → is_at (text_cmp key) k ≡ b → flat_map f ks ≡ cond (is_among key ks) (f key) [] → f k ++ flat_map f ks ≡ cond (b || is_among key ks) (f key) []
      by true is more =
          let same : key ≡ k = same_key text_total text_exact key k is in
          let above : is_among key ks ≡ false = ap (λ q. is_among q ks) same ∙ head_alone k ks s in
          (λ j. f (sym same j) ++ none_else ks above later j) ∙ append-nil (f key)
      by false is more = λ j. none k (or_first (is_at (text_cmp k) k) (is_among k ks) (at_itself text_total text_exact k)) is j ++ more j

module _ (c : Core) (ints : Interests) (ears : ToldSets) (asker id : ℕ) (asked : InterestEntry) (was : at id (interests_of asker ints) ≡ Some asked) where
  abbrev less : Interests
  less = without_interest asker id ints

  abbrev ends : List KeyDue
  ends = ended_dues c less ears asker asked

  -- on a key that does not meet it the same is due
  kept_due : (face : ℕ) (key : List ℕ) → ((face == asker) && meets asked.key key) ≡ false → due c less face key ≡ due c ints face key
  kept_due face key off = ends_stay c ints asker id face key (λ old there. ap (λ (x : InterestEntry). (face == asker) && meets x.key key) (same_Some _ _ (sym there ∙ was)) ∙ off)

  abbrev pub ended : List (List ℕ)
  ended = filter (meets asked.key) (told_keys asker ears)

  -- no ids lack
  none_taken : (told : Told) (ks : List KeyDue) → list_any (takes_id End told) ks ≡ false
  none_taken told [] = refl
  none_taken told (k ∷ ks) = none_taken told ks

  taken_by : (ks : List KeyDue) → list_any (takes_ids End ears) (with_dues asker ks) ≡ false
  taken_by [] = refl
  taken_by (k ∷ ks) = ap (λ b. b || false) (by (at_face asker ears))
    where
      by : (o : Option ToldSet) → option_map_or (λ (e : ToldSet). list_any (takes_id End e.told) (k ∷ ks)) o false ≡ false
      by None = refl
      by (Some e) = none_taken e.told (k ∷ ks)

  pub none_lack : HaveIds ears → lacks_ids End ears (ended_at c less ears asker asked) ≡ false
  none_lack ids = (less_due End ears (with_dues asker ends) (taken_by ends)).0 ids

  pub others_quiet : (face : ℕ) → face ≢ asker → filter (is_to face) (ended_told c less ears asker asked) ≡ []
  others_quiet face ne = told_beside End ears asker face ends (apart nat_cmp_total exact_unsigned face asker ne)

  module _ (heard : Heard) (h : Hears c ints ears asker heard) where
    told_are : told_keys asker ears ≡ keys_of h.ear.told
    told_are = ap (λ (o : Option ToldSet). option_map_or (λ (e : ToldSet). keys_of e.told) o []) h.there

    pub ended_rise : IsStrictlySortedBy text_cmp ended
    ended_rise = IsStrictlySortedBy-filter text_cmp (meets asked.key) (told_keys asker ears) (subst (IsStrictlySortedBy text_cmp) (sym told_are) h.sorted)

    -- what was due on a key was told
    told_there : (key : List ℕ) (i : QueryableInfoType) → due c ints asker key ≡ Some i → is_among key (told_keys asker ears) ≡ true
    told_there key i e = ap (is_among key) told_are ∙ sym (is_some-lookup (is_at (text_cmp key)) h.ear.told) ∙ by (at_text key h.ear.told) (h.told key ∙ e)
      where
        by : (o : Option ToldEntry) → option_map (λ (t : ToldEntry). t.info) o ≡ Some i → is_some o ≡ true
        by None g = absurd (let gap : None ≡ Some i = g in cc)
        by (Some t) g = refl

    pub stays_by : (key : List ℕ) → is_among key ended ≡ false → (now old : Option QueryableInfoType) → due c less asker key ≡ now → due c ints asker key ≡ old → old ≡ now
    stays_by key off None None e f = refl
    stays_by key off (Some i) None e f = absurd (false≢true (sym (ap is_some f) ∙ ends_less c ints asker id asker key (ap is_some e)))
    stays_by key off now (Some j) e f = sym f ∙ sym (kept_due asker key (ap (λ b. (asker == asker) && b) out ∙ never (asker == asker))) ∙ e
      where
        out : meets asked.key key ≡ false
        out = by (meets asked.key key) (sym (among_filter (meets asked.key) key (told_keys asker ears)) ∙ off)
          where
            by : (b : Bool) → (b && is_among key (told_keys asker ears)) ≡ false → b ≡ false
            by true g = absurd (true≢false (sym (told_there key j f) ∙ g))
            by false g = refl

    pub asker_ended : Hears c less (ears_ended c less ears asker asked) asker (heard_ended c less ears asker asked heard)
    asker_ended =
        subst (λ ks. Hears c less (ears_ended c less ears asker asked) asker (heard_after End ks heard (filter (is_to asker) (ended_told c less ears asker asked)))) (keys_alone asker ends)
        (keeps_due End c c ints less ears (with_dues asker ends) (alone_rises asker ends) asker heard
        (subst InOrder (sym (keys_alone asker ends)) (rows_rise (due c less asker) ended ended_rise)) h
        (λ key. ap (λ ks. aim_on End ks (due c ints asker key) key) (keys_alone asker ends)
        ∙ aims_at (due c less asker) End key ended (due c ints asker key) (due c less asker key)
        (λ on. ended_by (due c less asker key) (due c ints asker key) (λ some. ends_less c ints asker id asker key some))
        (λ off. stays_by key off (due c less asker key) (due c ints asker key) refl refl)))

    -- ---- what is told
    abbrev word : List ℕ → List Telling
    word k = changed_on asker h.ear.told (due_on c less asker k)

    -- of a key that is not its own nothing: it stays as it was told
    unchanged : (k : List ℕ) → option_map_or (λ q. is_at (text_cmp q) k) asked.key false ≡ false → word k ≡ []
    unchanged k off = by (at_text k h.ear.told) (due c less asker k) refl (h.told k)
      where
        same : is_some (due c less asker k) ≡ true → due c less asker k ≡ due c ints asker k
        same = ends_same c ints asker id asker k (λ old there. ap (λ (x : InterestEntry). option_map_or (λ q. is_at (text_cmp q) k) x.key false) (same_Some _ _ (sym there ∙ was)) ∙ off)

        by : (o : Option ToldEntry) (d : Option QueryableInfoType) → due c less asker k ≡ d → option_map (λ (t : ToldEntry). t.info) o ≡ due c ints asker k → change asker k o (option_and_then (renewed o) d) ≡ []
        by None d e told = refl
        by (Some t) None e told = refl
        by (Some t) (Some i) e told =
            let one : Some t.info ≡ Some i = told ∙ sym (same (ap is_some e)) ∙ e in
            ap (λ b. cond b [] (declared asker k (record { id = t.id; info = i }) ∷ [])) (ap (λ x. same_info t.info x) (sym (same_Some _ _ one)) ∙ same_again t.info)

    told_is : filter (is_to asker) (ended_told c less ears asker asked) ≡ flat_map (changed_on asker h.ear.told) ends
    told_is =
        told_here End ears asker h.ear h.there (with_dues asker ends) (alone_rises asker ends)
        ∙ ap (told_in End asker h.ear) (keys_alone asker ends)
        ∙ ends_changing asker h.ear ends

    rows_words : (ks : List (List ℕ)) → flat_map (changed_on asker h.ear.told) (map (due_on c less asker) ks) ≡ flat_map word ks
    rows_words [] = refl
    rows_words (k ∷ ks) = ap (λ l. word k ++ l) (rows_words ks)

    -- of a key that was not told nothing, either
    untold : (k : List ℕ) → is_among k (told_keys asker ears) ≡ false → word k ≡ []
    untold k off = ap (λ (o : Option ToldEntry). change asker k o (option_and_then (renewed o) (due c less asker k))) (gone (at_text k h.ear.told) (is_some-lookup (is_at (text_cmp k)) h.ear.told ∙ sym (ap (is_among k) told_are) ∙ off))
      where
        gone : (o : Option ToldEntry) → is_some o ≡ false → o ≡ None
        gone None e = refl
        gone (Some t) e = absurd (true≢false e)

    words_are : (o : Option (List ℕ)) → asked.key ≡ o → flat_map word ended ≡ flat_map word (option_to_list o)
    words_are None e = all_quiet ended
      where
        all_quiet : (ks : List (List ℕ)) → flat_map word ks ≡ []
        all_quiet [] = refl
        all_quiet (k ∷ ks) = λ j. unchanged k (ap (λ (x : Option (List ℕ)). option_map_or (λ q. is_at (text_cmp q) k) x false) e) j ++ all_quiet ks j
    words_are (Some own) e =
        only_one word own ended ended_rise (λ k on off. unchanged k (ap (λ (x : Option (List ℕ)). option_map_or (λ q. is_at (text_cmp q) k) x false) e ∙ off))
        ∙ by (is_among own ended) (among_filter (meets asked.key) own (told_keys asker ears))
        ∙ sym (append-nil (word own))
      where
        meets_own : meets asked.key own ≡ true
        meets_own = ap (λ (x : Option (List ℕ)). meets x own) e ∙ intersects-self own

        by : (b : Bool) → b ≡ (meets asked.key own && is_among own (told_keys asker ears)) → cond b (word own) [] ≡ word own
        by true f = refl
        by false f = sym (untold own (sym (f ∙ ap (λ x. x && is_among own (told_keys asker ears)) meets_own)))

    pub ended_tells : filter (is_to asker) (ended_told c less ears asker asked) ≡ told_in End asker h.ear (map (due_on c less asker) (option_to_list asked.key))
    ended_tells =
        told_is ∙ rows_words ended ∙ words_are asked.key refl
        ∙ sym (ends_changing asker h.ear (map (due_on c less asker) (option_to_list asked.key)) ∙ rows_words (option_to_list asked.key))

  pub others_ended : (face : ℕ) → face ≢ asker → (heard : Heard) → Hears c ints ears face heard → Hears c less (ears_ended c less ears asker asked) face heard
  others_ended face ne heard h =
      let other = apart nat_cmp_total exact_unsigned face asker ne in
      other_hears End ears asker face ends other c ints less heard
      (λ key. kept_due face key (other_unmet End ears asker face ends other (meets asked.key key))) h
