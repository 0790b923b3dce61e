-- What a call tells a face is the difference over all keys, and ids lack to it exactly where the keys newly due to it are too many.
use Rattle.std.proofs.Common.{◌≡◌, ◌∙◌, refl, sym, ap, ℕ, Bool, true, false, eq-eqb, List, filter, length, map, not, Option, Some, None, true≢false}
use Rattle.std.specs.Prelude.{◌&&◌, ◌==◌, is_none}
use Rattle.std.specs.Option.{is_some, option_map}
use Rattle.std.proofs.lemmas.Bool.{false≢true}
use Rattle.std.proofs.lemmas.List.{length-map}
use Rattle.zq_message.specs.declared.message.QueryableInfoType.{QueryableInfoType}
use Rattle.zq_index.specs.Infos.{same_bool}
use Rattle.zq_index.specs.Texts.{at_text}
use Rattle.zq_strategy.specs.Tellings.{same_infos}
use Rattle.zq_told.specs.declared.types.ToldEntry.{ToldEntry}
use Rattle.zq_told.specs.declared.types.Reason.TheVariants.{Update}
use Rattle.zq_told.specs.ToldSets.{ToldSet, ToldSets, at_face}
use Rattle.zq_told.specs.Laws.{differs, is_to, takes_id, told_in, told_info}
use Rattle.zq_told.proofs.Differing.{tells_difference}
use Rattle.zq_machine.specs.Configs.{Settings}
use Rattle.zq_machine.specs.Due.{due, face_keys, listens}
use Rattle.zq_interests.specs.Interests.{Interests}
use Rattle.zq_machine.specs.Machine.{settle}
use Rattle.zq_machine.specs.Neighbours.{due_on, neighbours_told, with_new}
use Rattle.zq_machine.specs.Receivers.{HaveChanges, is_news}
use Rattle.zq_machine.specs.State.{Core, State, is_open}
use Rattle.zq_machine.specs.TextCalls.{TextCall}
use Rattle.zq_machine.proofs.Agreed.{InOrder as Kept}
use Rattle.zq_machine.proofs.DueInterests.{keys_rise}
use Rattle.zq_machine.proofs.DueKeys.{among, is_among}
use Rattle.zq_machine.proofs.DueWhole.{keys_among}
use Rattle.zq_machine.proofs.NeighbourDues.{filter_rows, same_passing}
use Rattle.zq_machine.proofs.NeighbourTold.{all_rise, keys_are, looked, looked_rise, told_here, unlooked}

-- ---- an information is the same as itself
same_with_itself : (b : Bool) → same_bool b b ≡ true
same_with_itself true = refl
same_with_itself false = refl

same_still : (i : Option QueryableInfoType) → same_infos i i ≡ true
same_still None = refl
same_still (Some i) = ap (λ b. b && (i.distance == i.distance)) (same_with_itself i.complete) ∙ eq-eqb i.distance i.distance refl

-- ---- a face that was told what was due to it
module _ (config : Settings) (s : State) (i : Kept config s) (t : TextCall) (ints : Interests) (face : ℕ) (seen : is_open face (settle s t).core ≡ true)
    (ear : ToldSet) (told : (key : List ℕ) → told_info ear key ≡ due s.core ints face key)
    (quiet : (key : List ℕ) → listens (settle s t).core ints face key ≡ false → due s.core ints face key ≡ None) where
  abbrev w : Core
  w = (settle s t).core

  abbrev keys_looked : List (List ℕ)
  keys_looked = looked config s i t ints face

  -- keys that are not looked at were told as they are due
  told_still : (key : List ℕ) → is_among key keys_looked ≡ false → told_info ear key ≡ due w ints face key
  told_still key off = told key ∙ unlooked config s i t ints face seen quiet key off

  -- each key with what is due to the face, where it was told another
  abbrev changes : List ℕ → Bool
  changes key = differs ear.told (due_on w ints face key)

  changed_by : (key : List ℕ) (b : Bool) → is_among key keys_looked ≡ b → changes key ≡ true → b ≡ true
  changed_by key true e change = refl
  changed_by key false e change =
      absurd (true≢false (sym change ∙ ap (λ o. not (same_infos o (due w ints face key))) (told_still key e) ∙ ap not (same_still (due w ints face key))))

  difference_is : (keys : List (List ℕ)) → told_in Update face ear (map (due_on w ints face) keys) ≡ told_in Update face ear (map (due_on w ints face) (filter changes keys))
  difference_is keys = (tells_difference face ear (map (due_on w ints face) keys)).0 ∙ ap (told_in Update face ear) (filter_rows (due w ints face) (differs ear.told) keys)

  -- the keys that are looked at have all changes
  pub have_looked : (keys : List (List ℕ)) × HaveChanges w ints face ear keys
  have_looked = (keys_looked, record { rise = looked_rise config s i t ints face; all = λ key change. among key keys_looked ∙ changed_by key (is_among key keys_looked) refl change })

  pub tells_exactly : (ears : ToldSets) → at_face face (with_new s.core t ears) ≡ Some ear → (keys : List (List ℕ)) → HaveChanges w ints face ear keys
      → told_in Update face ear (map (due_on w ints face) keys) ≡ filter (is_to face) (neighbours_told s.core w ints t ears)
  tells_exactly ears there keys have =
      difference_is keys
      ∙ ap (λ ks. told_in Update face ear (map (due_on w ints face) ks))
      (same_passing changes keys keys_looked have.rise (looked_rise config s i t ints face) (λ q e. sym (among q keys) ∙ have.all q e) (λ q e. changed_by q (is_among q keys_looked) refl e))
      ∙ sym (difference_is keys_looked)
      ∙ ap (told_in Update face ear) (sym (keys_are config s i t ints face seen))
      ∙ sym (told_here Update (with_new s.core t ears) face ear there _ (all_rise config s i t ints))

  -- ---- keys newly due
  news_by : (key : List ℕ) (b : Bool) → is_among key keys_looked ≡ b → is_news w ints face ear key ≡ true → b ≡ true
  news_by key true e news = refl
  news_by key false e news = absurd (false≢true (sym (by (at_text key ear.told) (due w ints face key) (told_still key e)) ∙ news))
    where
      by : (o : Option ToldEntry) (d : Option QueryableInfoType) → option_map (λ (x : ToldEntry). x.info) o ≡ d → (is_none o && is_some d) ≡ false
      by None d same = ap is_some (sym same)
      by (Some x) d same = refl

  news_due : (key : List ℕ) → is_news w ints face ear key ≡ true → is_among key (face_keys w ints face) ≡ true
  news_due key news = keys_among w ints face key (by (is_none (at_text key ear.told)) news)
    where
      by : (b : Bool) → (b && is_some (due w ints face key)) ≡ true → is_some (due w ints face key) ≡ true
      by true e = e
      by false e = absurd (false≢true e)

  pub news_counted : length (filter (takes_id Update ear.told) (map (due_on w ints face) keys_looked)) ≡ length (filter (is_news w ints face ear) (face_keys w ints face))
  news_counted =
      ap length (filter_rows (due w ints face) (takes_id Update ear.told) keys_looked)
      ∙ length-map (filter (is_news w ints face ear) keys_looked) (due_on w ints face)
      ∙ ap length (same_passing (is_news w ints face ear) keys_looked (face_keys w ints face) (looked_rise config s i t ints face) ((keys_rise w ints face).own) (λ q e. news_by q (is_among q keys_looked) refl e) news_due)
