-- What code that looks at faces and keys has to know of a gateway that calls made: each open face stands in its region's hat, a face that is about to be opened asks for nothing, and what a face was told is of keys on which regions have information.
use Rattle.std.proofs.Common.{◌≡◌, ◌∙◌, refl, sym, ap, subst, ℕ, Bool, true, false, List, [], ◌∷◌, Option, Some, None}
use Rattle.std.specs.BTreeMap.{is_at}
use Rattle.std.specs.Prelude.{◌&&◌, ◌||◌}
use Rattle.std.specs.List.{AllByRecursion}
use Rattle.std.specs.List.Sorted.{IsStrictlySortedBy}
use Rattle.std.specs.Map.{keys_of}
use Rattle.std.specs.Option.{is_some, option_map, option_map_or}
use Rattle.std.proofs.lemmas.Bool.{false≢true}
use Rattle.std.proofs.lemmas.Map.Made.{is_some-lookup}
use Rattle.zq_index.specs.Texts.{at_text, text_cmp}
use Rattle.zq_interests.specs.Interests.{interests_of, own_keys}
use Rattle.zq_told.specs.declared.types.ToldEntry.{ToldEntry}
use Rattle.zq_told.specs.ToldSets.{ToldSet, told_keys}
use Rattle.zq_told.specs.Receiver.{Heard}
use Rattle.zq_machine.specs.Due.{due, due_keys, is_met_by, widened}
use Rattle.zq_machine.specs.Receivers.{Hears}
use Rattle.zq_machine.specs.State.{State, is_open, region_in}
use Rattle.zq_machine.proofs.DueKeys.{among, is_among}
use Rattle.zq_machine.proofs.DueWhole.{keys_due}
use Rattle.zq_machine.proofs.Widening.{among_wide}
use Rattle.zq_machine.proofs.Interested.{AskWhereOpen, all_closed}
use Rattle.zq_dispatcher.specs.Asked.{AreInformed}
use Rattle.zq_dispatcher.specs.Over.{AreSeated}
use Rattle.zq_gateway.specs.Making.{IsReached}
use Rattle.zq_gateway.proofs.Reached.{reached_absent, reached_keeps, reached_seated}

pub reached_in_place : (s : State) → IsReached s → AreSeated s.core.faces s.core.hats
reached_in_place s i n o there = reached_seated s n o.region i (ap (option_map region_in) there)

pub reached_unasked : (s : State) → IsReached s → interests_of s.core.next_face s.core.interests ≡ []
reached_unasked s i = subst AskWhereOpen (sym i.here) (all_closed i.config i.calls) s.core.next_face (ap is_some (reached_absent s i))

-- what holds of everything holds of each element
pub each_of : {X : Type 0} {P : X → Type 0} → ((x : X) → P x) → (xs : List X) → AllByRecursion P xs
each_of all [] = tt
each_of all (x ∷ xs) = (all x, each_of all xs)

module _ (s : State) (i : IsReached s) (face : ℕ) (opens : is_open face s.core ≡ true) where
  its : (heard : Heard) × Hears s.core s.core.interests s.core.ears face heard
  its = ((reached_keeps s i).ears i.low).all face opens

  told_are : told_keys face s.core.ears ≡ keys_of its.1.ear.told
  told_are = ap (λ (o : Option ToldSet). option_map_or (λ (e : ToldSet). keys_of e.told) o []) its.1.there

  -- what was told of a key is due there
  told_due : (key : List ℕ) → is_among key (keys_of its.1.ear.told) ≡ true → is_some (due s.core s.core.interests face key) ≡ true
  told_due key on = by (at_text key its.1.ear.told) (is_some-lookup (is_at (text_cmp key)) its.1.ear.told ∙ on) (its.1.told key)
    where
      by : (o : Option ToldEntry) → is_some o ≡ true → option_map (λ (t : ToldEntry). t.info) o ≡ due s.core s.core.interests face key → is_some (due s.core s.core.interests face key) ≡ true
      by None there e = absurd (false≢true there)
      by (Some t) there e = ap is_some (sym e)

  pub reached_informed : AreInformed (told_keys face s.core.ears) s.core.hats (own_keys face s.core.interests)
  reached_informed = record {
    rise = subst (IsStrictlySortedBy text_cmp) (sym told_are) its.1.sorted;
    found = λ key on.
        by key (is_met_by (due_keys s.core) key)
        (sym (among_wide face s.core.interests (due_keys s.core) key)
        ∙ sym (among key (widened face s.core.interests (due_keys s.core)))
        ∙ keys_due s.core s.core.interests face key (told_due key (ap (is_among key) (sym told_are) ∙ on)));
  }
    where
      by : (key : List ℕ) (met : Bool) → ((met && is_among key (own_keys face s.core.interests)) || is_among key (due_keys s.core)) ≡ true → (is_among key (due_keys s.core) || is_among key (own_keys face s.core.interests)) ≡ true
      by key met e = ors met (is_among key (own_keys face s.core.interests)) (is_among key (due_keys s.core)) e
        where
          ors : (m o d : Bool) → ((m && o) || d) ≡ true → (d || o) ≡ true
          ors m o true f = refl
          ors true true false f = refl
          ors true false false f = f
          ors false o false f = absurd (false≢true f)
