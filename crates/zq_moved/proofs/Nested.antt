-- Calls that are moved twice, and what a face receives of moved calls.
use Rattle.std.proofs.Common.{◌≡◌, ◌∙◌, refl, sym, ap, ℕ, true, List, [], ◌∷◌, ◌++◌, fold, map, Some, append_assoc}
use Rattle.zq_key.specs.Key.{is_plain}
use Rattle.zq_key.specs.Space.{behind}
use Rattle.zq_key.proofs.Behind.{plain-behind}
use Rattle.zq_key.proofs.Naturals.{map-map}
use Rattle.zq_strategy.specs.declared.types.FinalMark.{FinalMark}
use Rattle.zq_strategy.specs.declared.types.FinalMark.TheVariants as mark
use Rattle.zq_strategy.specs.Moved.{move_mark}
use Rattle.zq_tables.specs.Naming.{FaceNaming, no_names}
use Rattle.zq_machine.specs.declared.call.Call.{Call}
use Rattle.zq_machine.specs.declared.call.Call.TheVariants as call
use Rattle.zq_machine.specs.declared.call.Opening.{Opening}
use Rattle.zq_machine.specs.declared.call.Outcome.{Outcome}
use Rattle.zq_machine.specs.declared.call.Step.{Step}
use Rattle.zq_machine.specs.Machine.{steps}
use Rattle.zq_moved.specs.Moving.{call_under, moved, moved_call, moved_opening, opening_under}
use Rattle.zq_moved.specs.Received.{knows_handed, knows_step, reads_all, received, received_from, wrote_if}
use Rattle.zq_moved.specs.Inside.{MovesTwice, NestsUnnoticed, outcome_of}
use Rattle.zq_moved.proofs.Runs.{moves_unnoticed}

-- ---- moving twice
module _ (n m : List ℕ) where
  behind_twice : (t : List ℕ) → behind n (behind m t) ≡ behind (behind n m) t
  behind_twice t = sym (append_assoc n (47 ∷ m) (47 ∷ t))

  texts_twice : (l : List (List ℕ)) → map (behind n) (map (behind m) l) ≡ map (behind (behind n m)) l
  texts_twice l = map-map (behind m) (behind n) (behind (behind n m)) behind_twice l

  opening_twice : (o : Opening) → opening_under n (moved_opening m o) ≡ moved_opening (behind n m) o
  opening_twice o = λ j. record o { namespace = Some (behind n m); entry_deny = texts_twice o.entry_deny j; exit_deny = texts_twice o.exit_deny j }

  mark_twice : (k : FinalMark) → move_mark (behind n) (move_mark (behind m) k) ≡ move_mark (behind (behind n m)) k
  mark_twice mark.Initial = refl
  mark_twice (mark.Key t) = ap mark.Key (behind_twice t)

  call_twice : (c : Call) → call_under n (moved_call m c) ≡ moved_call (behind n m) c
  call_twice (call.Open o) = ap call.Open (opening_twice o)
  call_twice (call.FinalizeInterest face k set) = ap (λ x. call.FinalizeInterest face x set) (mark_twice k)
  call_twice (call.Close face) = refl
  call_twice (call.DeclareKeyExpr face id w) = refl
  call_twice (call.UndeclareKeyExpr face id) = refl
  call_twice (call.DeclareQueryable face id w info node) = refl
  call_twice (call.UndeclareQueryable face id w node) = refl
  call_twice (call.Interest face id keys aggregate w) = refl
  call_twice (call.InterestFinal face id) = refl
  call_twice (call.Request face r now) = refl
  call_twice (call.Response face r) = refl
  call_twice (call.ResponseFinal face rid) = refl
  call_twice (call.Sent reply) = refl
  call_twice (call.Poll now) = refl
  call_twice (call.SetGateways r table) = refl
  call_twice (call.SetNetwork r net) = refl
  call_twice (call.SetNodeIds face ids) = refl

pub moves_twice : MovesTwice
moves_twice n m calls = map-map (moved_call m) (call_under n) (moved_call (behind n m)) (call_twice n m) calls

pub nests_unnoticed : NestsUnnoticed
nests_unnoticed config n m calls p q moves =
    let once = moves_twice n m calls in
    let joined : is_plain (behind n m) ≡ true = plain-behind n m p ∙ q in
    let far = moves_unnoticed config (behind n m) calls joined moves in
    let near = moves_unnoticed config m calls q moves in
    record {
      outcomes = ap (λ l. map outcome_of (steps config l)) once ∙ far.outcomes ∙ sym near.outcomes;
      messages = λ face. ap (λ l. received face l (steps config l)) once ∙ far.messages face ∙ sym (near.messages face);
    }

-- ---- what faces wrote is the same in moved calls, and so is what they receive of the same steps
wrote_same : (n : List ℕ) (face : ℕ) (c : Call) (answer : Outcome) (k : FaceNaming) → wrote_if face (moved_call n c) answer k ≡ wrote_if face c answer k
wrote_same n face (call.Open o) answer k = refl
wrote_same n face (call.FinalizeInterest f m set) answer k = refl
wrote_same n face (call.Close f) answer k = refl
wrote_same n face (call.DeclareKeyExpr f id w) answer k = refl
wrote_same n face (call.UndeclareKeyExpr f id) answer k = refl
wrote_same n face (call.DeclareQueryable f id w info node) answer k = refl
wrote_same n face (call.UndeclareQueryable f id w node) answer k = refl
wrote_same n face (call.Interest f id keys aggregate w) answer k = refl
wrote_same n face (call.InterestFinal f id) answer k = refl
wrote_same n face (call.Request f r now) answer k = refl
wrote_same n face (call.Response f r) answer k = refl
wrote_same n face (call.ResponseFinal f rid) answer k = refl
wrote_same n face (call.Sent reply) answer k = refl
wrote_same n face (call.Poll now) answer k = refl
wrote_same n face (call.SetGateways r table) answer k = refl
wrote_same n face (call.SetNetwork r net) answer k = refl
wrote_same n face (call.SetNodeIds f ids) answer k = refl

received_same_from : (n : List ℕ) (face : ℕ) (k : FaceNaming) (cs : List Call) (ts : List Step) → received_from face k (moved n cs) ts ≡ received_from face k cs ts
received_same_from n face k [] ts = refl
received_same_from n face k (c ∷ cs) [] = refl
received_same_from n face k (c ∷ cs) (t ∷ ts) =
    (λ j. reads_all face (wrote_same n face c t.outcome k j) t.handed ++ received_from face (fold_known j) (moved n cs) ts)
    ∙ ap (λ l. reads_all face (wrote_if face c t.outcome k) t.handed ++ l) (received_same_from n face (knows_step face k c t) cs ts)
  where
    fold_known : knows_step face k (moved_call n c) t ≡ knows_step face k c t
    fold_known = ap (λ x. fold (knows_handed face) x t.handed) (wrote_same n face c t.outcome k)

pub received_same : (n : List ℕ) (face : ℕ) (calls : List Call) (ts : List Step) → received face (moved n calls) ts ≡ received face calls ts
received_same n face calls ts = received_same_from n face no_names calls ts
