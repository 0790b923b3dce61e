-- A gateway beside its calls: once one more is stored, and where memory was lacking.
use Rattle.std.proofs.Common.{◌≡◌, ℕ, ◌+◌, ◌≤◌, List, [], ◌∷◌, ◌++◌, length, refl, sym, ap, ◌∙◌, subst, arith}
use Rattle.zq_machine.specs.declared.call.Call.{Call}
use Rattle.zq_machine.specs.Asked.{replies_of}
use Rattle.zq_machine.specs.Configs.{Settings}
use Rattle.zq_machine.specs.Machine.{after, state_after, step}
use Rattle.zq_machine.specs.State.{State, opening_state}
use Rattle.zq_shared.specs.Stored.{IsStored, flights, standing}
use Rattle.zq_shared.proofs.Journals.{standing_is, stored_more}

module _ (config : Settings) (gateway : State) (calls : List Call) (flying stored capacity : ℕ) (is : IsStored config gateway calls flying stored capacity) where
  -- the same, with more room
  pub stored_still : (new : State) (calls' : List Call) (flying' stored' capacity' : ℕ) → new ≡ gateway → calls' ≡ calls → flying' ≡ flying → stored' ≡ stored → capacity ≤ capacity'
      → IsStored config new calls' flying' stored' capacity'
  stored_still new calls' flying' stored' capacity' same kept few long grown = record {
    stands = same ∙ (is.stands ∙ ap (λ (l : List Call). state_after (opening_state config) l) (sym kept));
    flown = (let moved = ap (λ (s : State). length (flights s)) same in let was = is.flown in omega (arith, moved, was, few));
    room = (let was = is.room in omega (arith, was, few, long, grown));
  }

  -- the call is made and stored
  pub stored_next : (c : Call) (new : State) (calls' : List Call) (flying' stored' capacity' : ℕ) → new ≡ after gateway c → calls' ≡ calls ++ c ∷ [] → flying' ≡ flying + length (replies_of (step gateway c)) → stored' ≡ stored + 1
      → stored + flying' + 1 ≤ capacity' → IsStored config new calls' flying' stored' capacity'
  stored_next c new calls' flying' stored' capacity' made more counted long room =
      subst (λ (l : List Call). IsStored config new l flying' stored' capacity') (sym more)
      (subst (λ n. IsStored config new (calls ++ c ∷ []) n stored' capacity') (sym counted)
      (stored_more config gateway calls flying stored capacity is c new (length (replies_of (step gateway c))) (length (replies_of (step gateway c))) stored' capacity' made (omega arith) (λ i. length (replies_of (step gateway c))) (omega (arith, room, counted)) long))

  -- how many replies are in flight once the call is made and stored
  pub most_flown : (c : Call) (n : ℕ) → flying + length (replies_of (step gateway c)) ≤ n → length (flights (standing (record { config = config; calls = calls ++ c ∷ [] }))) ≤ n
  most_flown c n few =
      let handed = length (replies_of (step gateway c)) in
      let more = stored_more config gateway calls flying stored capacity is c (after gateway c) handed handed (stored + 1) (stored + (flying + handed + 1)) refl (omega arith) refl (omega arith) refl in
      let flown = more.flown in
      let same = ap (λ (s : State). length (flights s)) (standing_is (record { config = config; calls = calls ++ c ∷ [] }) ∙ sym more.stands) in
      omega (arith, few, flown, same)
