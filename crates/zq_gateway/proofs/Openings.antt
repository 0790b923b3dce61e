-- What refuses an opening, what it is told, and what it leaves.
use Rattle.std.proofs.Common.{◌≡◌, ◌∙◌, refl, sym, ap, true, false, not, List, [], ◌∷◌, map, None}
use Rattle.zq_strategy.specs.declared.network.Telling.{Telling as TreeTelling}
use Rattle.zq_strategy.specs.Tellings.{in_order}
use Rattle.zq_tables.specs.Naming.{NamingState}
use Rattle.zq_told.specs.declared.types.FaceUpdate.{FaceUpdate}
use Rattle.zq_told.specs.ToldSets.{ToldSets, opened}
use Rattle.zq_interests.specs.Interests.{Interests}
use Rattle.zq_machine.specs.declared.call.Opening.{Opening}
use Rattle.zq_machine.specs.declared.call.Outcome.TheVariants as outcome
use Rattle.zq_machine.specs.declared.call.Refusal.TheVariants as refusal
use Rattle.zq_machine.specs.declared.call.Step.{Step}
use Rattle.zq_machine.specs.Deciding.{accepted, first_of, lacks_face_number, lacks_told, refusal_of, with_face, with_numbers}
use Rattle.zq_machine.specs.Handing.{Handed}
use Rattle.zq_machine.specs.Gates.{gate_at, gate_for, is_sound, with_gate}
use Rattle.zq_machine.specs.Messages.{from_hat}
use Rattle.zq_machine.specs.Neighbours.{looked_at}
use Rattle.zq_machine.specs.State.{State, has_hat, is_full_region}
use Rattle.zq_machine.specs.TextCalls.{opening}
use Rattle.zq_machine.specs.Writing.{tell}
use Rattle.zq_egress.specs.Telling.{behind}
use Rattle.zq_gateway.specs.Gathering.{Gathers, OnlyIdsLack}
use Rattle.zq_gateway.specs.Making.{IsReached}
use Rattle.zq_gateway.proofs.Due.{due, told_answered, told_left}
use Rattle.zq_gateway.proofs.Reached.{reached_in_order}
use Rattle.zq_machine.proofs.Gates.{none_next}
use Rattle.zq_machine.proofs.Keeping.{same_looked}
use Rattle.zq_machine.proofs.Writing.{plain_answer, plain_settle}

-- the next face has no gate
pub reached_ungated : (s : State) → IsReached s → gate_at s.core.next_face s.gates ≡ None
reached_ungated s i = none_next s.gates s.core.next_face (reached_in_order s i).gated

module _ (s : State) (i : IsReached s) (o : Opening) where
  module _ (there : has_hat o.region s.core ≡ true) (sound : is_sound o ≡ true) (room : is_full_region o.region s.core ≡ false) (free : lacks_face_number s.core ≡ false) where
    -- nothing refuses it but ids that lack
    pub opening_only : OnlyIdsLack s.core (opening o)
    opening_only =
        λ j. first_of ((not (there j), refusal.UnknownRegion) ∷ (not (sound j), refusal.InvalidKeyExpr) ∷ (room j, refusal.UpstreamInUse) ∷ (free j, refusal.NoFreeId) ∷ (lacks_told s.core (opening o), refusal.NoFreeId) ∷ [])

  -- what its body gathers: nothing is told along trees
  pub opening_gathers : (ears : ToldSets) → ears ≡ opened s.core.next_face s.core.config.start.told s.core.ears → (ints : Interests) → ints ≡ s.core.interests
      → (dues : List FaceUpdate) → dues ≡ looked_at s.core (with_face o s.core) ints (opening o) → Gathers s.core (opening o) ears dues []
  opening_gathers ears kept_is ints asked dues are = record {
    is_kept = kept_is;
    is_looked = are ∙ ap (λ (x : Interests). looked_at s.core (with_face o s.core) x (opening o)) asked ∙ sym (same_looked s.core (opening o));
    is_told = refl;
  }

  module _ (fits : refusal_of s.core (opening o) ≡ None) (ts : List TreeTelling) (are : ts ≡ due s.core (opening o)) (l : List Handed) (new : NamingState)
      (told : behind [] (tell (accepted s.core (opening o)) (map from_hat (in_order ts)) (with_numbers s)) ≡ record { handed = l; names = new }) where
    pub opening_answered : ◌≡◌ {A = Step} (record { outcome = outcome.Opened (record { 0 = s.core.next_face }); handed = l }) (plain_answer s (opening o))
    opening_answered = told_answered s i (opening o) refl fits ts are l new told refl

    pub opening_left : plain_settle s (opening o) ≡ record { core = accepted s.core (opening o); names = new; gates = with_gate s.core.next_face (gate_for o) s.gates }
    opening_left = told_left s i (opening o) refl fits ts are l new told
