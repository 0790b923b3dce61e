-- What is stored of calls that were made.
use Rattle.std.proofs.Common.{◌≡◌, ◌⊎◌, ℕ, ◌<◌, ◌≤◌, List, [], length, zero, suc, refl, subst, inl, inr, arith, Some}
use Rattle.std.specs.Prelude.{Option}
use Rattle.atomic_table.specs.Seated.{TableId}
use Rattle.zq_machine.specs.declared.call.Call.{Call}
use Rattle.zq_machine.specs.Configs.{Settings}
use Rattle.zq_shared.specs.Stored.{requests_in}
use Rattle.zq_shared.specs.Ties.{Sharing}
use Rattle.zq_shared.specs.Answers.{AllListed, behind}
use Rattle.zq_shared.specs.Sharing.{AreOrderly}
use Rattle.zq_shared.specs.Locking.{IsLocked}
use Rattle.zq_shared.specs.Tallies.{Counts, each}
use Rattle.zq_program.specs.Shares.{HasStored}
use Rattle.zq_program.specs.Working.{HasMade}

module _ (config : Settings) (holds : TableId) (list : Option (List Call)) (s : Sharing) (totals : Counts) (calls : List Call) (locked : IsLocked config holds list s totals) (made : HasMade calls (each 0) totals) where
  asked_or_full : (n : ℕ) → totals.full ≡ n → (requests_in s.stored.calls ≡ requests_in calls) ⊎ ((requests_in s.stored.calls < requests_in calls) × (holds.words ≤ requests_in s.stored.calls))
  asked_or_full zero e = inl (let a = locked.asked in let m = made.asked in omega arith)
  asked_or_full (suc n) e =
      let a = locked.asked in let m = made.asked in
      inr (omega arith, locked.full (omega arith))

  pub stored_of : (made_with : Settings) (marks : ℕ) → config ≡ made_with → holds.words ≡ marks → list ≡ Some calls → length s.slots.keeper.marks ≡ marks → AreOrderly (length s.slots.keeper.marks) (behind s.stored.config []) s.stored.calls
      → HasStored made_with marks calls s.stored.calls
  stored_of made_with marks c e l wide orderly =
      subst (λ (d : Settings). HasStored d marks calls s.stored.calls) c
      (record {
        others = (let o = locked.others in let m = made.others in omega arith);
        asked = subst (λ (n : ℕ). (requests_in s.stored.calls ≡ requests_in calls) ⊎ ((requests_in s.stored.calls < requests_in calls) × (n ≤ requests_in s.stored.calls))) e (asked_or_full totals.full refl);
        among = subst (λ (o : Option (List Call)). AllListed o s.stored.calls) l locked.listed;
        orderly = subst (λ (d : Settings). AreOrderly marks (behind d []) s.stored.calls) locked.means (subst (λ (n : ℕ). AreOrderly n (behind s.stored.config []) s.stored.calls) wide orderly);
      })
