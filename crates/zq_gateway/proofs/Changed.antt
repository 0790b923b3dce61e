-- The hats after a call: it changes that of one region at most, and a refused one changes none.
use Rattle.std.proofs.Common.{◌≡◌, ◌∙◌, refl, ap, ℕ, Bool, true, false, true≢false, cond, List, [], ◌∷◌, Option, Some, None}
use Rattle.std.specs.Option.{option_map, option_map_or}
use Rattle.zq_message.specs.declared.message.Region.{Region}
use Rattle.zq_strategy.specs.Kept.{registered, unregistered, without_face}
use Rattle.zq_strategy.specs.Marks.{finalized}
use Rattle.zq_strategy.specs.Routers.{networked, noded}
use Rattle.zq_strategy.specs.State.{HatState}
use Rattle.zq_machine.specs.declared.call.Call.{Call}
use Rattle.zq_machine.specs.declared.call.Call.TheVariants as call
use Rattle.zq_machine.specs.declared.face.OpenFace.{OpenFace}
use Rattle.zq_machine.specs.Deciding.{announced_by, changed, decide, is_accepted, retracted_by, seat}
use Rattle.zq_machine.specs.Machine.{accepted_state, after, after_of, follow, going_out, settle, step, step_of}
use Rattle.zq_machine.specs.Selecting.{full_text}
use Rattle.zq_machine.specs.State.{Core, State, at, change_hat, face_region, joined, region_in}
use Rattle.zq_machine.specs.TextCalls.{TextCall, announcing, asking, by_router, closing, declaring, ending, finalizing, hearing, listing, naming, networking, opening, passing, read, replying, reporting, retracting, said, said_or_none, tabling, unhearing, unnaming, withdrawing}
use Rattle.zq_machine.specs.Writing.{Place, finish, unsent}
use Rattle.zq_gateway.specs.Caching.{change_in, changes_hat, may_change_hat, may_region_changed, region_changed}

-- the hats are those before with that of the region changed, if there is a region
abbrev pub Changes : Option Region → List (ℕ × HatState) → List (ℕ × HatState) → Type 0
Changes r old new = (f : HatState → HatState) × (new ≡ change_in r f old)

unchanged : (hats : List (ℕ × HatState)) → Changes None hats hats
unchanged hats = ((λ h. h), refl)

of_face : (o : Option OpenFace) (f : HatState → HatState) (hats : List (ℕ × HatState)) → Changes (option_map region_in o) hats (option_map_or (λ (x : OpenFace). change_hat x.region f hats) o hats)
of_face None f hats = (f, refl)
of_face (Some x) f hats = (f, refl)

-- the region whose hat a call changes whose expressions are read
abbrev region_by : Core → TextCall → Option Region
region_by c (opening o) = Some o.region
region_by c (closing face) = face_region face.0 c
region_by c (naming face id s standing) = None
region_by c (unnaming face id standing) = None
region_by c (declaring face id s info node) = face_region face.0 c
region_by c (withdrawing face id) = face_region face.0 c
region_by c (asking face s r now) = None
region_by c (replying face s r) = None
region_by c (ending face rid) = None
region_by c (reporting reply) = None
region_by c (passing now) = None
region_by c (listing r table) = None
region_by c (finalizing face mark set) = face_region face.0 c
region_by c (announcing face s info node) = face_region face.0 c
region_by c (retracting face s node) = face_region face.0 c
region_by c (networking r net) = Some r
region_by c (tabling face ids) = face_region face.0 c
region_by c (hearing face id m s) = None
region_by c (unhearing face id) = None

changed_by : (c : Core) (t : TextCall) → Changes (region_by c t) c.hats (changed c t).hats
changed_by c (opening o) = (joined (seat c.next_face o), refl)
changed_by c (closing face) = of_face (at face.0 c.faces) (without_face face.0) c.hats
changed_by c (naming face id s standing) = unchanged c.hats
changed_by c (unnaming face id standing) = unchanged c.hats
changed_by c (declaring face id s info node) = of_face (at face.0 c.faces) (registered face.0 id (full_text s) node info) c.hats
changed_by c (withdrawing face id) = of_face (at face.0 c.faces) (unregistered face.0 id) c.hats
changed_by c (asking face s r now) = unchanged c.hats
changed_by c (replying face s r) = unchanged c.hats
changed_by c (ending face rid) = unchanged c.hats
changed_by c (reporting reply) = unchanged c.hats
changed_by c (passing now) = unchanged c.hats
changed_by c (listing r table) = unchanged c.hats
changed_by c (finalizing face mark set) = of_face (at face.0 c.faces) (finalized face.0 mark set) c.hats
changed_by c (announcing face s info node) = of_face (at face.0 c.faces) (announced_by face.0 node (full_text s) info) c.hats
changed_by c (retracting face s node) = of_face (at face.0 c.faces) (retracted_by face.0 node (full_text s)) c.hats
changed_by c (networking r net) = (networked net, refl)
changed_by c (tabling face ids) = of_face (at face.0 c.faces) (noded face.0 ids) c.hats
changed_by c (hearing face id m s) = unchanged c.hats
changed_by c (unhearing face id) = unchanged c.hats

either : (c : Core) (b : Bool) (t u : TextCall) (r : Option Region) → region_by c t ≡ r → region_by c u ≡ r → region_by c (cond b t u) ≡ r
either c true t u r x y = x
either c false t u r x y = y

read_region : (s : State) (c : Call) → region_by s.core (read s c) ≡ region_changed s c
read_region s (call.Open o) = refl
read_region s (call.Close face) = refl
read_region s (call.DeclareKeyExpr face id wire) = refl
read_region s (call.UndeclareKeyExpr face id) = refl
read_region s (call.DeclareQueryable face id wire info node) = either s.core (by_router face s.core) (announcing face (said face wire s) info node) (declaring face id (said face wire s) info node) (face_region face.0 s.core) refl refl
read_region s (call.UndeclareQueryable face id wire node) = either s.core (by_router face s.core) (retracting face (said_or_none face wire s) node) (withdrawing face id) (face_region face.0 s.core) refl refl
read_region s (call.Request face r now) = refl
read_region s (call.Response face r) = refl
read_region s (call.ResponseFinal face rid) = refl
read_region s (call.Sent reply) = refl
read_region s (call.Poll now) = refl
read_region s (call.SetGateways r table) = refl
read_region s (call.FinalizeInterest face mark set) = refl
read_region s (call.Interest face id keys aggregate wire) = refl
read_region s (call.InterestFinal face id) = refl
read_region s (call.SetNetwork r net) = refl
read_region s (call.SetNodeIds face ids) = refl

-- what is released of requests that did not leave changes no hat
finish_hats : (c : Core) (ps : List Place) → (finish c ps).core.hats ≡ c.hats
finish_hats c [] = refl
finish_hats c (p ∷ ps) = refl

follow_hats : (s z : State) (b e : Bool) → b ≡ e → (cond b z s).core.hats ≡ (cond e z s).core.hats
follow_hats s z b e is = ap (λ x. (cond x z s).core.hats) is

settled_hats : (s : State) (t : TextCall) (e : Bool) → is_accepted (decide s.core t).outcome ≡ e → (settle s t).core.hats ≡ (cond e (accepted_state s t) s).core.hats
settled_hats s t e is = finish_hats (follow s t).core (unsent (going_out s t).handed) ∙ follow_hats s (accepted_state s t) (is_accepted (decide s.core t).outcome) e is

call_changes : (s : State) (c : Call) → is_accepted (step s c).outcome ≡ true → Changes (region_changed s c) s.core.hats (after s c).core.hats
call_changes s c is =
    let d : Changes (region_by s.core (read s c)) s.core.hats (changed s.core (read s c)).hats = changed_by s.core (read s c) in
    (d.0, settled_hats s (read s c) true is ∙ d.1 ∙ ap (λ r. change_in r d.0 s.core.hats) (read_region s c))

-- an accepted call changes the hat of its region
pub accepted_changes : (s : State) (o : Option Call) → is_accepted (step_of s o).outcome ≡ true → Changes (may_region_changed s o) s.core.hats (after_of s o).core.hats
accepted_changes s None is = unchanged s.core.hats
accepted_changes s (Some c) is = call_changes s c is

-- a refused call changes no hat
pub refused_hats : (s : State) (o : Option Call) → is_accepted (step_of s o).outcome ≡ false → (after_of s o).core.hats ≡ s.core.hats
refused_hats s None is = refl
refused_hats s (Some c) is = settled_hats s (read s c) false is

no_region : (s : State) (c : Call) → changes_hat c ≡ false → region_changed s c ≡ None
no_region s (call.Open o) e = absurd (true≢false e)
no_region s (call.Close face) e = absurd (true≢false e)
no_region s (call.DeclareKeyExpr face id wire) e = refl
no_region s (call.UndeclareKeyExpr face id) e = refl
no_region s (call.DeclareQueryable face id wire info node) e = absurd (true≢false e)
no_region s (call.UndeclareQueryable face id wire node) e = absurd (true≢false e)
no_region s (call.Request face r now) e = refl
no_region s (call.Response face r) e = refl
no_region s (call.ResponseFinal face rid) e = refl
no_region s (call.Sent reply) e = refl
no_region s (call.Poll now) e = refl
no_region s (call.SetGateways r table) e = refl
no_region s (call.FinalizeInterest face mark set) e = absurd (true≢false e)
no_region s (call.Interest face id keys aggregate wire) e = refl
no_region s (call.InterestFinal face id) e = refl
no_region s (call.SetNetwork r net) e = absurd (true≢false e)
no_region s (call.SetNodeIds face ids) e = absurd (true≢false e)

-- a call that changes no hat has no region
pub without_region : (s : State) (o : Option Call) → may_change_hat o ≡ false → may_region_changed s o ≡ None
without_region s None e = refl
without_region s (Some c) e = no_region s c e

-- a call that is not one of those that change a hat leaves the hats as they are
pub spared_hats : (s : State) (c : Call) → changes_hat c ≡ false → (after s c).core.hats ≡ s.core.hats
spared_hats s c e = by (is_accepted (step s c).outcome) refl
  where
    by : (b : Bool) → is_accepted (step s c).outcome ≡ b → (after s c).core.hats ≡ s.core.hats
    by true is =
        let d : Changes (region_changed s c) s.core.hats (after s c).core.hats = call_changes s c is in
        d.1 ∙ ap (λ r. change_in r d.0 s.core.hats) (no_region s c e)
    by false is = settled_hats s (read s c) false is
