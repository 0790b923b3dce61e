-- Calls of a script that reports nothing may be made where the list is of all its calls.
use Rattle.std.proofs.Common.{◌≡◌, false, All, List, [], ◌∷◌, ◌++◌, Some, subst, append_assoc}
use Rattle.std.specs.Prelude.{Contains}
use Rattle.std.proofs.lemmas.List.Elements.{All-cons, All-contains_itself, All-head, All-nil, All-tail, All-weaker, Contains-append_left, Contains-append_right}
use Rattle.zq_machine.specs.declared.call.Call.{Call}
use Rattle.zq_machine.specs.Calls.{is_sent}
use Rattle.zq_program.specs.Shares.{all_calls}
use Rattle.zq_program.specs.Working.{MayMake}

unsent_listed : (l p : List Call) → All (λ c. is_sent c ≡ false) p → All (Contains l) p → All (MayMake (Some l)) p
unsent_listed l [] u h = All-nil (MayMake (Some l))
unsent_listed l (c ∷ cs) u h =
    All-cons (MayMake (Some l)) c cs (All-head (λ x. is_sent x ≡ false) c cs u, All-head (Contains l) c cs h)
    (unsent_listed l cs (All-tail (λ x. is_sent x ≡ false) c cs u) (All-tail (Contains l) c cs h))

inside : (before p after : List Call) → All (Contains (before ++ (p ++ after))) p
inside before p after = All-weaker (Contains p) (Contains (before ++ (p ++ after))) (λ c h. Contains-append_right before (p ++ after) c (Contains-append_left p after c h)) p (All-contains_itself p)

unsent_behind : (before : List Call) (parts : List (List Call)) → All (All (λ c. is_sent c ≡ false)) parts → All (All (MayMake (Some (before ++ all_calls parts)))) parts
unsent_behind before [] h = All-nil (All (MayMake (Some (before ++ []))))
unsent_behind before (p ∷ ps) h =
    let all = before ++ (p ++ all_calls ps) in
    All-cons (All (MayMake (Some all))) p ps (unsent_listed all p (All-head (All (λ c. is_sent c ≡ false)) p ps h) (inside before p (all_calls ps)))
    (subst (λ (l : List Call). All (All (MayMake (Some l))) ps) (append_assoc before p (all_calls ps)) (unsent_behind (before ++ p) ps (All-tail (All (λ c. is_sent c ≡ false)) p ps h)))

pub all_may_make : (parts : List (List Call)) → All (All (λ c. is_sent c ≡ false)) parts → All (All (MayMake (Some (all_calls parts)))) parts
all_may_make parts h = unsent_behind [] parts h
