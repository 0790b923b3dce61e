-- To a face that is not open nothing is due; on which keys a call is looked at; and what stands of interests where one comes or ends.
use Rattle.std.proofs.Common.{◌≡◌, ◌∙◌, refl, sym, ap, ℕ, Bool, true, false, cond, eqb-true, List, [], fold, Option, Some, None}
use Rattle.std.specs.Prelude.{◌==◌, ◌≢◌, ◌&&◌}
use Rattle.std.specs.BTreeSet.{insert_key}
use Rattle.std.specs.List.{list_any}
use Rattle.std.specs.List.Sorted.{IsStrictlySortedBy}
use Rattle.std.specs.Map.{keys_of}
use Rattle.std.specs.Option.{is_some, option_and_then, option_map_or}
use Rattle.std.specs.Ordering.{nat_cmp}
use Rattle.std.specs.Str.{bytes_eq}
use Rattle.std.proofs.Math.Bool.{or-false}
use Rattle.std.proofs.lemmas.Bool.{true≢false}
use Rattle.std.proofs.lemmas.Cmp.{nat_cmp_total}
use Rattle.std.proofs.lemmas.Map.Lookups.{exact_unsigned}
use Rattle.zq_key.proofs.Lookups.{found_after_insertion, found_after_removal}
use Rattle.zq_index.specs.Texts.{text_cmp}
use Rattle.zq_interests.specs.declared.types.InterestEntry.{InterestEntry}
use Rattle.zq_machine.specs.declared.call.Opening.{Opening}
use Rattle.zq_machine.specs.declared.face.OpenFace.{OpenFace}
use Rattle.zq_machine.specs.Due.{due_keys, heard_as, is_heard_touched, listens_in, plain_due}
use Rattle.zq_interests.specs.Interests.{Interests, interests_of, with_interest, without_interest}
use Rattle.zq_machine.specs.State.{Core, at, hat_at, is_open}
use Rattle.zq_machine.specs.TextCalls.{TextCall, opening}
use Rattle.zq_machine.specs.Trees.{is_touched, touched}
use Rattle.zq_machine.proofs.Changing.{number_test}
use Rattle.zq_machine.proofs.DueAsked.{listed, listed_at, none_without, with_one, without_one, written_at}
use Rattle.zq_machine.proofs.DueKeys.{all_put, among, is_among}

-- ---- a face that is not open
pub closed_undue : (c : Core) (ints : Interests) (face : ℕ) (key : List ℕ) → is_open face c ≡ false → plain_due c ints face key ≡ None
closed_undue c ints face key shut = by (at face c.faces) shut
  where
    by : (o : Option OpenFace) → is_some o ≡ false → cond (option_map_or (listens_in ints face key) (option_and_then (λ (p : OpenFace). hat_at p.region c.hats) o) false) (option_and_then (heard_as face key c.hats) o) None ≡ None
    by None gone = refl
    by (Some o) gone = absurd (true≢false gone)

-- ---- the keys on which a call is looked at: of an opening all at the new face, of another call those that it touches
touched_in : (c : Core) (t : TextCall) (key : List ℕ) → list_any (λ k. bytes_eq k key) (fold (insert_key text_cmp) [] (touched c t)) ≡ is_touched c t key
touched_in c t key =
    among key (fold (insert_key text_cmp) [] (touched c t))
    ∙ all_put key [] (touched c t)
    ∙ or-false (is_among key (touched c t))
    ∙ sym (among key (touched c t))

pub touched_exactly : (c : Core) (t : TextCall) (face : ℕ) (key : List ℕ)
    → ((o : Opening) → is_heard_touched c (opening o) face key ≡ ((face == c.next_face) && list_any (λ k. bytes_eq k key) (due_keys c)))
    × (((o : Opening) → t ≢ opening o) → is_heard_touched c t face key ≡ is_touched c t key)
touched_exactly c t face key = (λ o. at_new (face == c.next_face), others t)
  where
    at_new : (b : Bool) → list_any (λ k. bytes_eq k key) (cond b (due_keys c) []) ≡ (b && list_any (λ k. bytes_eq k key) (due_keys c))
    at_new true = refl
    at_new false = refl

    others : (t : TextCall) → ((o : Opening) → t ≢ opening o) → is_heard_touched c t face key ≡ is_touched c t key
    others (opening o) other = absurd (other o refl)
    others t other = touched_in c t key

-- ---- what stands of interests where one comes or ends
module _ (ints : Interests) (asker id face other : ℕ) where
  found_with : (asked : InterestEntry) → at other (interests_of face (with_interest asker id asked ints)) ≡ cond ((asker == face) && (id == other)) (Some asked) (at other (interests_of face ints))
  found_with asked =
      ap (at other) (listed_at ints asker (with_one asker id asked ints) face ∙ ap (listed ints asker (with_one asker id asked ints) face) (number_test asker face))
      ∙ by (asker == face) refl
    where
      by : (b : Bool) → (asker == face) ≡ b → at other (listed ints asker (with_one asker id asked ints) face b) ≡ cond (b && (id == other)) (Some asked) (at other (interests_of face ints))
      by true is =
          found_after_insertion nat_cmp_total exact_unsigned id other asked (interests_of asker ints)
          ∙ (λ j. cond (number_test id other j) (Some asked) (at other (interests_of (eqb-true asker face is j) ints)))
      by false is = refl

  found_without : IsStrictlySortedBy nat_cmp (keys_of (interests_of asker ints)) → at other (interests_of face (without_interest asker id ints)) ≡ cond ((asker == face) && (id == other)) None (at other (interests_of face ints))
  found_without sorted =
      ap (at other) (written_at ints asker (without_one asker id ints) face (none_without asker id ints) ∙ ap (listed ints asker (without_one asker id ints) face) (number_test asker face))
      ∙ by (asker == face) refl
    where
      by : (b : Bool) → (asker == face) ≡ b → at other (listed ints asker (without_one asker id ints) face b) ≡ cond (b && (id == other)) None (at other (interests_of face ints))
      by true is =
          found_after_removal nat_cmp_total exact_unsigned id other (interests_of asker ints) sorted
          ∙ (λ j. cond (number_test id other j) None (at other (interests_of (eqb-true asker face is j) ints)))
      by false is = refl

  pub interests_change : ((asked : InterestEntry) → at other (interests_of face (with_interest asker id asked ints)) ≡ cond ((asker == face) && (id == other)) (Some asked) (at other (interests_of face ints)))
      × (IsStrictlySortedBy nat_cmp (keys_of (interests_of asker ints)) → at other (interests_of face (without_interest asker id ints)) ≡ cond ((asker == face) && (id == other)) None (at other (interests_of face ints)))
  interests_change = (found_with, found_without)
