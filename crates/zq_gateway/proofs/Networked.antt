-- What a network that is put in place hands, as the body gathers it.
use Rattle.std.proofs.Common.{◌≡◌, ◌∙◌, sym, ap, subst, ℕ, true, cond, not, List, [], ◌++◌, fold, Option, Some, None}
use Rattle.std.specs.Option.{is_some, option_map_or}
use Rattle.zq_message.specs.declared.message.Region.{Region}
use Rattle.std.specs.BTreeSet.{insert_key}
use Rattle.zq_index.specs.Texts.{text_cmp}
use Rattle.zq_interests.specs.Interests.{Interests}
use Rattle.zq_told.specs.declared.types.FaceUpdate.{FaceUpdate}
use Rattle.zq_told.specs.ToldSets.{ToldSets}
use Rattle.zq_machine.specs.Neighbours.{looked_over}
use Rattle.zq_strategy.specs.declared.network.Network.{Network}
use Rattle.zq_strategy.specs.declared.network.Telling.{Telling as TreeTelling}
use Rattle.zq_strategy.specs.Routers.{losing, networked}
use Rattle.zq_strategy.specs.State.{HatState}
use Rattle.zq_machine.specs.declared.call.Refusal.TheVariants as refusal
use Rattle.zq_machine.specs.Deciding.{accepted, refusal_of}
use Rattle.zq_machine.specs.State.{State, change_hat, has_hat, hat_at}
use Rattle.zq_machine.specs.TextCalls.{networking}
use Rattle.zq_machine.specs.Trees.{all_own_told, networked_told}
use Rattle.zq_machine.proofs.DueHeard.{AreTexts, touched_texts}
use Rattle.zq_gateway.specs.Gathering.{Gathers}
use Rattle.zq_gateway.specs.Making.{IsReached}
use Rattle.zq_gateway.proofs.Reached.{reached_in_order}

-- the region has a hat: nothing refuses
pub network_fits : (s : State) (r : Region) (net : Network) → has_hat r s.core ≡ true → refusal_of s.core (networking r net) ≡ None
network_fits s r net there = ap (λ b. cond (not b) (Some refusal.UnknownRegion) None) there

-- what its body gathers
pub network_gathers : (s : State) (r : Region) (net : Network) (hats : List (ℕ × HatState)) → hats ≡ s.core.hats → (first : HatState) → hat_at r hats ≡ Some first
    → (tree ts : List TreeTelling) → tree ≡ networked_told r hats (change_hat r (networked net) hats)
    → ts ≡ tree ++ all_own_told hats (change_hat r (networked net) hats) (losing net first)
    → (ears : ToldSets) → ears ≡ s.core.ears → (ints : Interests) → ints ≡ s.core.interests → (dues : List FaceUpdate) → dues ≡ looked_over (accepted s.core (networking r net)) ints (fold (insert_key text_cmp) [] (losing net first))
    → Gathers s.core (networking r net) ears dues ts
network_gathers s r net hats same first there tree ts is_tree is ears kept_is ints asked dues due_are = record {
  is_kept = kept_is;
  is_looked =
      due_are
      ∙ ap (λ o. looked_over (accepted s.core (networking r net)) ints (fold (insert_key text_cmp) [] (option_map_or (losing net) o []))) (sym there)
      ∙ (λ j. looked_over (accepted s.core (networking r net)) (asked j) (fold (insert_key text_cmp) [] (option_map_or (losing net) (hat_at r (same j)) [])));
  is_told =
      is
      ∙ ap (λ l. l ++ all_own_told hats (change_hat r (networked net) hats) (losing net first)) is_tree
      ∙ ap (λ o. networked_told r hats (change_hat r (networked net) hats) ++ all_own_told hats (change_hat r (networked net) hats) (option_map_or (losing net) o [])) (sym there)
      ∙ (λ j. networked_told r (same j) (change_hat r (networked net) (same j)) ++ all_own_told (same j) (change_hat r (networked net) (same j)) (option_map_or (losing net) (hat_at r (same j)) []));
}

-- the keys that it looks at are keys
pub network_keys : (s : State) → IsReached s → (r : Region) (net : Network) (first : HatState) → hat_at r s.core.hats ≡ Some first → (keys : List (List ℕ)) → keys ≡ losing net first → AreTexts keys
network_keys s i r net first there keys are =
    subst AreTexts (ap (λ (o : Option HatState). option_map_or (losing net) o []) there ∙ sym are) (touched_texts s.core (reached_in_order s i).worded (networking r net) (network_fits s r net (ap is_some there)))
