-- The laws, from their parts.
use Rattle.std.proofs.Common.{◌≡◌, ◌∙◌, refl, sym, ap, subst, ℕ, List, [], ◌∷◌, ◌++◌, map}
use Rattle.zq_machine.specs.declared.call.Call.TheVariants as call
use Rattle.zq_machine.specs.Machine.{after}
use Rattle.zq_machine.specs.Selecting.{target_of}
use Rattle.zq_tables.specs.Naming.{plain}
use Rattle.zq_local.specs.Picking.{Seat, picked}
use Rattle.zq_local.specs.Seated.{IsSeated, local_opening, seat_info}
use Rattle.zq_local.specs.Serving.{AsksFirst, AsksPicked, JoinsOthers, face_of}
use Rattle.zq_local.proofs.Picked.{offer}
use Rattle.zq_local.proofs.Seating.{joined_seated, new_seated}
use Rattle.zq_local.proofs.Selected.{selected}

faces_of : (q : List ℕ) (ss : List Seat) → map target_of (map (offer q) ss) ≡ map face_of ss
faces_of q [] = refl
faces_of q (s ∷ ss) = ap (λ l. s.face ∷ l) (faces_of q ss)

pub asks_picked : AsksPicked
asks_picked asker ss requests replies s q r seated is = ap (map target_of) (selected s.core asker ss seated.numbered seated.faces seated.hats q is r) ∙ faces_of q (picked q r.target ss)

pub asks_first : AsksFirst
asks_first config there fits = new_seated config there fits

pub joins_others : JoinsOthers
joins_others asker ss requests replies s seat seated face fits keyed =
    subst (λ f. IsSeated asker (ss ++ seat ∷ []) requests replies (after (after s (call.Open (local_opening s.core.config.zid))) (call.DeclareQueryable f 1 (plain seat.key) (seat_info seat) 0))) (sym face)
    (joined_seated asker ss requests replies s seated _ refl fits seat face keyed)
