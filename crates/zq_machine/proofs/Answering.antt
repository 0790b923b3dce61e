-- An interest, and the end of one: what receivers keep is due then.
use Rattle.std.proofs.Common.{◌≡◌, ◌∙◌, refl, sym, ap, subst, ℕ, Bool, true, false, cond, not, List, [], ◌∷◌, filter, fold, map, Option, Some, None, true≢false}
use Rattle.std.specs.Prelude.{◌==◌, ◌≢◌, is_none}
use Rattle.std.specs.BTreeMap.{is_at}
use Rattle.std.specs.List.{AllByRecursion, list_any}
use Rattle.std.specs.Option.{is_some, option_map, option_map_or, option_to_list}
use Rattle.std.specs.Ordering.{nat_cmp}
use Rattle.std.proofs.lemmas.Map.Made.{is_some-lookup}
use Rattle.std.proofs.lemmas.Option.{same_Some}
use Rattle.zq_message.specs.declared.message.FaceId.{FaceId}
use Rattle.zq_index.specs.Texts.{text_cmp}
use Rattle.zq_strategy.specs.declared.network.Telling.{Telling as TreeTelling}
use Rattle.zq_strategy.specs.Tellings.{in_order}
use Rattle.zq_interests.specs.declared.types.InterestEntry.{InterestEntry}
use Rattle.zq_interests.specs.Interests.{Interests, same_asked, interest_at, interests_of, with_interest, without_interest}
use Rattle.zq_told.specs.declared.types.FaceUpdate.{FaceUpdate}
use Rattle.zq_told.specs.declared.types.Reason.{Reason}
use Rattle.zq_told.specs.declared.types.Reason.TheVariants.{Answer, End}
use Rattle.zq_told.specs.ToldSets.{ToldSet, ToldSets, at_face, last_at}
use Rattle.zq_told.specs.Laws.{InOrder as RowsInOrder, is_to, last_given, told_in}
use Rattle.zq_told.specs.Leaving.{AreSound}
use Rattle.zq_told.specs.Receiver.{Heard, Tied, memory_of, receive}
use Rattle.zq_told.specs.Telling.{KeyDue, tell_due, tell_faces, tell_keys, with_account}
use Rattle.zq_told.proofs.Faces.{keeps_faces}
use Rattle.zq_told.proofs.Leaving.{answers_due}
use Rattle.zq_told.proofs.Numbers.{ids_are_given}
use Rattle.zq_told.proofs.Ordered.{tells_in_order}
use Rattle.zq_tables.specs.declared.resolved.Resolved.{Resolved}
use Rattle.zq_key.proofs.Lookups.{same_key}
use Rattle.zq_index.proofs.Orders.{text_exact, text_total}
use Rattle.zq_machine.specs.Deciding.{accepted, causes, refusal_of, told_of}
use Rattle.zq_machine.specs.Due.{asked_keys, due}
use Rattle.zq_machine.specs.Keeping.{IsNear, greatest_with, if_told, with_told, is_due_at}
use Rattle.zq_machine.specs.Messages.{TellingBody, all_told, from_hat, answered_by}
use Rattle.zq_machine.specs.Neighbours.{answer_dues, answer_told, asked_at, asked_dues, due_on, ears_asked, ears_ended, ended_at, ended_dues, ended_told, with_dues}
use Rattle.zq_machine.specs.Receivers.{AllHear, AskingTold, EndingTold, Hears, heard_asked, heard_ended, is_due_in}
use Rattle.zq_machine.specs.Selecting.{Manner, asked_by}
use Rattle.zq_machine.specs.State.{Core, State, at}
use Rattle.zq_machine.specs.TextCalls.{hearing, unhearing}
use Rattle.zq_machine.proofs.Changing.{itself, number_test, one_number}
use Rattle.zq_machine.proofs.DueInterests.{keys_rise}
use Rattle.zq_machine.proofs.Following.{Follows, Steps, all_heard, by_ids, marks_kept, onto, telling_total, the_greatest, to_one}
use Rattle.zq_machine.proofs.Granted.{all_passed}
use Rattle.zq_machine.proofs.NeighbourAnswers.{rows_owed}
use Rattle.zq_machine.proofs.NeighbourAsked.{ended, ended_rise, left_beside}
use Rattle.zq_machine.proofs.NeighbourDues.{alone_rises, keys_alone, keys_at, rows_rise}
use Rattle.zq_machine.proofs.NeighbourLaws.{asking_keeps, ending_keeps}
use Rattle.zq_machine.proofs.NeighbourTold.{left_here, told_here}
use Rattle.zq_machine.proofs.Sifting.{in_order_stays}

-- ---- keys of interests that are the same
same_keys : (a b : Option (List ℕ)) → not (same_asked a b) ≡ false → a ≡ b
same_keys None None e = refl
same_keys None (Some b) e = absurd (true≢false e)
same_keys (Some a) None e = absurd (true≢false e)
same_keys (Some a) (Some b) e = ap Some (by (is_at (text_cmp a) b) refl e)
  where
    by : (x : Bool) → is_at (text_cmp a) b ≡ x → not x ≡ false → a ≡ b
    by true is f = same_key text_total text_exact a b is
    by false is f = absurd (true≢false f)

-- ---- one face's rows
with_sorted : (m : ℕ) (ks : List KeyDue) → RowsInOrder ks → AllByRecursion (λ (x : FaceUpdate). RowsInOrder x.keys) (with_dues m ks)
with_sorted m [] rise = tt
with_sorted m (k ∷ ks) rise = (rise, tt)

-- the same faces are there
faces_still : (way : Reason) (ears : ToldSets) (dues : List FaceUpdate) (n : ℕ) → is_some (at_face n (tell_due way ears dues)) ≡ is_some (at_face n ears)
faces_still way ears dues n = is_some-lookup (is_at (nat_cmp n)) (tell_due way ears dues) ∙ ap (list_any (is_at (nat_cmp n))) (keeps_faces way ears dues) ∙ sym (is_some-lookup (is_at (nat_cmp n)) ears)

-- two numbers, by their test
apart : (g face : ℕ) → (g == face) ≡ false → g ≢ face
apart g face is e = true≢false (sym (sym (number_test face face) ∙ itself face) ∙ ap (λ m. m == face) (sym e) ∙ is)

turned : (a b : ℕ) → (a == b) ≡ false → (b == a) ≡ false
turned a b is = by (b == a) refl
  where
    by : (x : Bool) → (b == a) ≡ x → x ≡ false
    by true e = absurd (apart a b is (sym (one_number b a (number_test b a ∙ e))))
    by false e = refl

-- the id given last at the asker is the greatest that it was told of
answer_last : (way : Reason) (ears : ToldSets) (asker : ℕ) (rows : List KeyDue) → RowsInOrder rows → (ear : ToldSet) (heard : Heard) → at_face asker ears ≡ Some ear → RowsInOrder ear.told → Tied (memory_of ear) heard
    → last_at asker (tell_due way ears (with_dues asker rows)) ≡ Some (fold last_given ear.last (filter (is_to asker) (tell_faces way ears (with_dues asker rows)).tellings))
answer_last way ears asker rows rise ear heard there sorted tied =
    let dues = with_dues asker rows in
    ap (option_map (λ (e : ToldSet). e.last)) (left_here way ears asker ear there dues (alone_rises asker rows))
    ∙ ap Some (sym (ap (fold last_given ear.last) (told_here way ears asker ear there dues (alone_rises asker rows)) ∙ (ids_are_given way asker ear (keys_at asker dues) heard sorted (subst RowsInOrder (sym (keys_alone asker rows)) rise) tied).1))

-- ---- an interest
module _ (s : State) (face : FaceId) (id : ℕ) (keys : Manner) (sd : Option Resolved) (h : refusal_of s.core (hearing face id keys sd) ≡ None) where
  abbrev d : Core
  d = accepted s.core (hearing face id keys sd)

  abbrev asked : InterestEntry
  asked = asked_by keys sd

  abbrev more : Interests
  more = with_interest face.0 id asked s.core.interests

  abbrev near : List TreeTelling
  near = answer_told s.core more s.core.ears face.0 asked

  same : (old : InterestEntry) → at id (interests_of face.0 s.core.interests) ≡ Some old → old.key ≡ asked.key
  same old there = same_keys old.key asked.key (sym (ap (λ o. option_map_or (λ (i : InterestEntry). not (same_asked i.key asked.key)) o false) there) ∙ (all_passed (causes s.core (hearing face id keys sd)) h).1.1.1.0)

  law : AskingTold s.core s.core.interests more s.core.ears face.0 asked
  law = asking_keeps s.core s.core.interests s.core.ears face.0 id asked same

  rows_in_order : RowsInOrder (asked_dues s.core more face.0 asked)
  rows_in_order = rows_rise (due s.core more face.0) (asked_keys s.core more face.0 asked) ((keys_rise s.core more face.0).asked asked)

  ordered : in_order near ≡ near
  ordered = in_order_stays telling_total near (tells_in_order Answer s.core.ears (asked_at s.core more face.0 asked) (alone_rises face.0 (asked_dues s.core more face.0 asked)) (with_sorted face.0 (asked_dues s.core more face.0 asked) rows_in_order))

  told_here_by : {K : Type 0} (f : K → TellingBody → K) (g : K → TreeTelling → K) → ((kept : K) → f kept all_told ≡ kept) → ((kept : K) (u : TreeTelling) → f kept (from_hat u).body ≡ g kept u) → (n : ℕ) (kept : K)
      → fold (if_told f n) kept (told_of s.core (hearing face id keys sd)) ≡ fold g kept (filter (is_to n) near)
  told_here_by f g quiet alike n kept =
      marks_kept f quiet n (hearing face id keys sd) (map from_hat (in_order near)) kept
      ∙ all_heard f g alike n kept (in_order near)
      ∙ ap (λ l. fold g kept (filter (is_to n) l)) ordered

  abbrev Asks : ℕ → Heard → ℕ → Bool → Type 0
  Asks n heard last b =
      Follows d n (cond b (filter (is_due_at n d) (fold (if_told with_told n) heard (told_of s.core (hearing face id keys sd)))) (fold (if_told with_told n) heard (told_of s.core (hearing face id keys sd))))
      (fold (if_told greatest_with n) last (told_of s.core (hearing face id keys sd)))

  follows : (n : ℕ) (heard : Heard) (last : ℕ) → Follows s.core n heard last → Asks n heard last (face.0 == n)
  follows n heard last f = by (face.0 == n) refl
    where
      by : (b : Bool) → (face.0 == n) ≡ b → Asks n heard last b
      by true is =
          let here : face.0 ≡ n = one_number face.0 n (number_test face.0 n ∙ is) in
          let own : Hears s.core s.core.interests s.core.ears face.0 heard = subst (λ m. Hears s.core s.core.interests s.core.ears m heard) (sym here) f.hears in
          subst (λ m. Asks m heard last true) here
          (record {
            hears =
                onto s.core d more d.ears face.0 _ (λ key. refl)
                (subst (Hears s.core more (ears_asked s.core more s.core.ears face.0 asked) face.0)
                (law.drops heard own ∙ ap (filter (is_due_in s.core more face.0)) (sym (told_here_by with_told receive (λ k. refl) by_ids face.0 heard))) (law.own heard own));
            greatest =
                answer_last Answer s.core.ears face.0 (asked_dues s.core more face.0 asked) rows_in_order own.ear heard own.there own.sorted own.tied
                ∙ ap (λ l. Some (fold last_given l (filter (is_to face.0) near))) (same_Some _ _ (sym (ap (option_map (λ (e : ToldSet). e.last)) own.there) ∙ ap (λ m. last_at m s.core.ears) here ∙ f.greatest))
                ∙ ap Some (sym (told_here_by greatest_with last_given (λ k. refl) the_greatest face.0 last));
          })
      by false is =
          let other : (n == face.0) ≡ false = turned face.0 n is in
          let ne = apart n face.0 other in
          record {
            hears = onto s.core d more d.ears n _ (λ key. refl) (subst (Hears s.core more (ears_asked s.core more s.core.ears face.0 asked) n) (sym (told_here_by with_told receive (λ k. refl) by_ids n heard ∙ ap (fold receive heard) (law.silent n ne))) (law.others n ne heard f.hears));
            greatest =
                ap (option_map (λ (e : ToldSet). e.last)) (left_beside Answer s.core.ears face.0 n (asked_dues s.core more face.0 asked) (number_test n face.0 ∙ other)) ∙ f.greatest
                ∙ ap Some (sym (told_here_by greatest_with last_given (λ k. refl) the_greatest n last ∙ ap (fold last_given last) (law.silent n ne)));
          }

  all_still : AllHear s.core s.core.interests s.core.ears → AllHear s.core more (ears_asked s.core more s.core.ears face.0 asked)
  all_still all n seen = by (n == face.0) refl
    where
      by : (b : Bool) → (n == face.0) ≡ b → (heard : Heard) × Hears s.core more (ears_asked s.core more s.core.ears face.0 asked) n heard
      by true is =
          let here : n ≡ face.0 = one_number n face.0 (number_test n face.0 ∙ is) in
          let x = all n seen in
          (_, subst (λ m. Hears s.core more (ears_asked s.core more s.core.ears face.0 asked) m (heard_asked s.core more s.core.ears face.0 asked x.0)) (sym here) (law.own x.0 (subst (λ m. Hears s.core s.core.interests s.core.ears m x.0) here x.1)))
      by false is = let x = all n seen in (_, law.others n (apart n face.0 is) x.0 x.1)

  pub hearing_steps : (first : ℕ) (heards : ℕ → Heard) (lasts : ℕ → ℕ) → ((n : ℕ) → IsNear n s.core → Follows s.core n (heards n) (lasts n)) → Steps first s (hearing face id keys sd) d heards lasts
  hearing_steps first heards lasts kept = record {
    ears = λ low e. record {
      sound = law.sound e.sound (all_passed (causes s.core (hearing face id keys sd)) h).1.1.1.1.0;
      faces = λ n. faces_still Answer s.core.ears (asked_at s.core more face.0 asked) n ∙ e.faces n;
      all = λ n seen. let x = all_still e.all n seen in (x.0, onto s.core d more d.ears n x.0 (λ key. refl) x.1);
    };
    kept = λ n near_then. follows n (heards n) (lasts n) (kept n (record { opened = near_then.opened; near = near_then.near }));
  }

  -- what the asker is told
  pub answer_exactly : (ear : ToldSet) → at_face face.0 s.core.ears ≡ Some ear → told_of s.core (hearing face id keys sd) ≡ answered_by face id (map from_hat (told_in Answer face.0 ear (answer_dues d d.interests face.0 asked)))
  answer_exactly ear there =
      ap (λ l. answered_by face id (map from_hat l))
      (ordered ∙ by (asked_dues s.core more face.0 asked)
      ∙ answers_due face.0 ear (asked_dues s.core more face.0 asked)
      ∙ ap (told_in Answer face.0 ear) (rows_owed s.core more face.0 asked)
      ∙ sym (answers_due face.0 ear (answer_dues s.core more face.0 asked)))
    where
      by : (ks : List KeyDue) → (tell_faces Answer s.core.ears (with_dues face.0 ks)).tellings ≡ told_in Answer face.0 ear ks
      by [] = refl
      by (k ∷ ks) = ap (λ o. (option_map_or (λ (e : ToldSet). with_account face.0 (tell_keys Answer face.0 e (k ∷ ks) []) (record { plan = []; tellings = [] })) o (record { plan = []; tellings = [] })).tellings) there

-- ---- the end of an interest
found_some : {X : Type 0} (o : Option X) → is_none o ≡ false → (x : X) × (o ≡ Some x)
found_some None e = absurd (true≢false e)
found_some (Some x) e = (x, refl)

module _ (s : State) (face : FaceId) (id : ℕ) (h : refusal_of s.core (unhearing face id) ≡ None) where
  abbrev left : Core
  left = accepted s.core (unhearing face id)

  abbrev less : Interests
  less = without_interest face.0 id s.core.interests

  pub was : (asked : InterestEntry) × (interest_at face.0 id s.core.interests ≡ Some asked)
  was = found_some (interest_at face.0 id s.core.interests) (all_passed (causes s.core (unhearing face id)) h).1.0

  ending : EndingTold s.core s.core.interests less s.core.ears face.0 was.0
  ending = ending_keeps s.core s.core.interests s.core.ears face.0 id was.0 was.1

  ears_left : left.ears ≡ ears_ended s.core less s.core.ears face.0 was.0
  ears_left = ap (λ o. option_map_or (ears_ended s.core less s.core.ears face.0) o s.core.ears) was.1

  abbrev rows : List KeyDue
  rows = ended_dues s.core less s.core.ears face.0 was.0

  abbrev near_end : List TreeTelling
  near_end = ended_told s.core less s.core.ears face.0 was.0

  told_end : told_of s.core (unhearing face id) ≡ map from_hat (in_order near_end)
  told_end = ap (λ o. map from_hat (in_order (option_map_or (ended_told s.core less s.core.ears face.0) o []))) was.1

  end_heard : {K : Type 0} (f : K → TellingBody → K) (g : K → TreeTelling → K) → ((kept : K) (u : TreeTelling) → f kept (from_hat u).body ≡ g kept u) → (n : ℕ) (kept : K)
      → fold (if_told f n) kept (told_of s.core (unhearing face id)) ≡ fold g kept (filter (is_to n) (in_order near_end))
  end_heard f g alike n kept = ap (fold (if_told f n) kept) told_end ∙ all_heard f g alike n kept (in_order near_end)

  -- other faces are told nothing
  other_none : (n : ℕ) → n ≢ face.0 → filter (is_to n) (in_order near_end) ≡ []
  other_none n ne = to_one n near_end ∙ ap in_order (ending.silent n ne)

  module _ (heard : Heard) (own : Hears s.core s.core.interests s.core.ears face.0 heard) where
    rows_sorted : RowsInOrder rows
    rows_sorted = rows_rise (due s.core less face.0) (ended s.core s.core.interests s.core.ears face.0 id was.0 was.1) (ended_rise s.core s.core.interests s.core.ears face.0 id was.0 was.1 heard own)

    end_ordered : in_order near_end ≡ near_end
    end_ordered = in_order_stays telling_total near_end (tells_in_order End s.core.ears (ended_at s.core less s.core.ears face.0 was.0) (alone_rises face.0 rows) (with_sorted face.0 rows rows_sorted))

    end_here : {K : Type 0} (f : K → TellingBody → K) (g : K → TreeTelling → K) → ((kept : K) (u : TreeTelling) → f kept (from_hat u).body ≡ g kept u) → (kept : K)
        → fold (if_told f face.0) kept (told_of s.core (unhearing face id)) ≡ fold g kept (filter (is_to face.0) near_end)
    end_here f g alike kept = end_heard f g alike face.0 kept ∙ ap (λ l. fold g kept (filter (is_to face.0) l)) end_ordered

    -- what the asker is told
    pub end_exactly : told_of s.core (unhearing face id) ≡ map from_hat (told_in End face.0 own.ear (map (due_on left left.interests face.0) (option_to_list was.0.key)))
    end_exactly = told_end ∙ ap (map from_hat) (end_ordered ∙ all_own ∙ ending.tells heard own)
      where
        by : (ks : List KeyDue) → (tell_faces End s.core.ears (with_dues face.0 ks)).tellings ≡ told_in End face.0 own.ear ks
        by [] = refl
        by (k ∷ ks) = ap (λ o. (option_map_or (λ (e : ToldSet). with_account face.0 (tell_keys End face.0 e (k ∷ ks) []) (record { plan = []; tellings = [] })) o (record { plan = []; tellings = [] })).tellings) own.there

        all_own : near_end ≡ filter (is_to face.0) near_end
        all_own =
            by rows
            ∙ sym (told_here End s.core.ears face.0 own.ear own.there (with_dues face.0 rows) (alone_rises face.0 rows) ∙ ap (told_in End face.0 own.ear) (keys_alone face.0 rows))

  abbrev Ends : ℕ → Heard → ℕ → Bool → Type 0
  Ends n heard last b =
      Follows left n (cond b (filter (is_due_at n left) (fold (if_told with_told n) heard (told_of s.core (unhearing face id)))) (fold (if_told with_told n) heard (told_of s.core (unhearing face id))))
      (fold (if_told greatest_with n) last (told_of s.core (unhearing face id)))

  pub unhearing_steps : (first : ℕ) (heards : ℕ → Heard) (lasts : ℕ → ℕ) → ((n : ℕ) → IsNear n s.core → Follows s.core n (heards n) (lasts n)) → Steps first s (unhearing face id) left heards lasts
  unhearing_steps first heards lasts kept = record {
    ears = λ low e. record {
      sound = subst AreSound (sym ears_left) (ending.sound e.sound);
      faces = λ n. ap (λ x. is_some (at_face n x)) ears_left ∙ faces_still End s.core.ears (ended_at s.core less s.core.ears face.0 was.0) n ∙ e.faces n;
      all = λ n seen. all_by n (e.all n seen);
    };
    kept = λ n near_then. follows_end n (heards n) (lasts n) (kept n (record { opened = near_then.opened; near = near_then.near }));
  }
    where
      all_by : (n : ℕ) → (heard : Heard) × Hears s.core s.core.interests s.core.ears n heard → (heard : Heard) × Hears left less left.ears n heard
      all_by n x = by (n == face.0) refl
        where
          by : (b : Bool) → (n == face.0) ≡ b → (heard : Heard) × Hears left less left.ears n heard
          by true is =
              let here : n ≡ face.0 = one_number n face.0 (number_test n face.0 ∙ is) in
              (_, subst (λ (y : ℕ × ToldSets). Hears left less y.1 y.0 (heard_ended s.core less s.core.ears face.0 was.0 x.0)) (λ m. (sym here m, sym ears_left m)) (onto s.core left less (ears_ended s.core less s.core.ears face.0 was.0) face.0 _ (λ key. refl) (ending.own x.0 (subst (λ m. Hears s.core s.core.interests s.core.ears m x.0) here x.1))))
          by false is = (_, subst (λ y. Hears left less y n x.0) (sym ears_left) (onto s.core left less (ears_ended s.core less s.core.ears face.0 was.0) n x.0 (λ key. refl) (ending.others n (apart n face.0 is) x.0 x.1)))

      follows_end : (n : ℕ) (heard : Heard) (last : ℕ) → Follows s.core n heard last → Ends n heard last (face.0 == n)
      follows_end n heard last f = by (face.0 == n) refl
        where
          by : (b : Bool) → (face.0 == n) ≡ b → Ends n heard last b
          by true is =
              let here : face.0 ≡ n = one_number face.0 n (number_test face.0 n ∙ is) in
              let own : Hears s.core s.core.interests s.core.ears face.0 heard = subst (λ m. Hears s.core s.core.interests s.core.ears m heard) (sym here) f.hears in
              subst (λ m. Ends m heard last true) here
              (record {
                hears =
                    subst (λ (y : ToldSets × Heard). Hears left less y.0 face.0 y.1)
                    (λ m. (sym ears_left m, (ending.drops heard own ∙ ap (filter (is_due_in s.core less face.0)) (sym (end_here heard own with_told receive by_ids heard))) m))
                    (onto s.core left less (ears_ended s.core less s.core.ears face.0 was.0) face.0 _ (λ key. refl) (ending.own heard own));
                greatest =
                    ap (last_at face.0) ears_left
                    ∙ answer_last End s.core.ears face.0 rows (rows_sorted heard own) own.ear heard own.there own.sorted own.tied
                    ∙ ap (λ l. Some (fold last_given l (filter (is_to face.0) near_end))) (same_Some _ _ (sym (ap (option_map (λ (e : ToldSet). e.last)) own.there) ∙ ap (λ m. last_at m s.core.ears) here ∙ f.greatest))
                    ∙ ap Some (sym (end_here heard own greatest_with last_given the_greatest last));
              })
          by false is =
              let other : (n == face.0) ≡ false = turned face.0 n is in
              let ne = apart n face.0 other in
              record {
                hears =
                    subst (λ (y : ToldSets × Heard). Hears left less y.0 n y.1) (λ m. (sym ears_left m, sym (end_heard with_told receive by_ids n heard ∙ ap (fold receive heard) (other_none n ne)) m))
                    (onto s.core left less (ears_ended s.core less s.core.ears face.0 was.0) n heard (λ key. refl) (ending.others n ne heard f.hears));
                greatest =
                    ap (last_at n) ears_left ∙ ap (option_map (λ (e : ToldSet). e.last)) (left_beside End s.core.ears face.0 n rows (number_test n face.0 ∙ other)) ∙ f.greatest
                    ∙ ap Some (sym (end_heard greatest_with last_given the_greatest n last ∙ ap (fold last_given last) (other_none n ne)));
              }
