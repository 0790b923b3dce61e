use Rattle.std.proofs.Common.{◌≡◌, ◌∙◌, ap, sym, subst, [], List, ℕ, IfOk, Some, None}
use Rattle.std.specs.List.{flat_map}
use Rattle.std.specs.Option.{option_copied}
use Rattle.zq_interests.specs.Interests.{Interests}
use Rattle.zq_told.specs.Telling.{KeyDue}
use Rattle.zq_dispatcher.specs.Asking.{asking_in}
use Rattle.zq_dispatcher.specs.Dues.{listed_due}
use Rattle.zq_dispatcher.specs.Owns.{AreFolded}
use Rattle.zq_dispatcher.proofs.Widened.{folded_there, owns_there, wide_is}
use Rattle.zq_dispatcher.proofs.over.dues_there.Goals as goal

-- where the face has no key among them
pub dues_of_face-requires-clause-folded : goal.dues_of_face-requires-clause-folded
dues_of_face-requires-clause-folded c =
    let face = c.args.face.0 in
    let ints : Interests = c.args.interests.now in
    let keys : List (List ℕ) = c.args.keys.now in
    let none = owns_there keys face ints c.args.owns.now.entries c.requires.met None c.in_default.ensures.value in
    subst (λ (ks : List (List ℕ)). AreFolded ints face None ks) (sym (wide_is keys c.requires.rise face ints [] none)) (folded_there keys face ints None none)

pub returns-in_default-clause-dues : goal.returns-in_default-clause-dues
returns-in_default-clause-dues c =
    let face = c.args.face.0 in
    let ints : Interests = c.args.interests.now in
    let keys : List (List ℕ) = c.args.keys.now in
    let none = owns_there keys face ints c.args.owns.now.entries c.requires.met None c.in_default.ensures.value in
    let f : List (List ℕ) → List ℕ → List KeyDue = λ ts. listed_due (asking_in ints face) (option_copied c.args.next) ts face c.args.opened c.args.hats.now in
    subst (λ (l : List KeyDue). IfOk c.dues_of_face.result (λ (ds : List KeyDue). ds ≡ l))
    (ap (λ ts. flat_map (f ts) keys) c.requires.same ∙ ap (flat_map (f keys)) (wide_is keys c.requires.rise face ints [] none))
    c.dues_of_face.ensures.dues

-- where it has some
pub dues_of_face-requires-2-clause-folded : goal.dues_of_face-requires-2-clause-folded
dues_of_face-requires-2-clause-folded c =
    let face = c.args.face.0 in
    let ints : Interests = c.args.interests.now in
    let keys : List (List ℕ) = c.args.keys.now in
    let owns : List (List ℕ) = c.in-Some.own.now in
    let some = owns_there keys face ints c.args.owns.now.entries c.requires.met (Some owns) c.in-Some.ensures.value in
    subst (λ (ks : List (List ℕ)). AreFolded ints face (Some owns) ks) (sym (c.as_slice-all.ensures ∙ c.in_ok-wide.ensures.keys ∙ wide_is keys c.requires.rise face ints owns some)) (folded_there keys face ints (Some owns) some)

pub returns-clause-dues : goal.returns-clause-dues
returns-clause-dues c =
    let face = c.args.face.0 in
    let ints : Interests = c.args.interests.now in
    let keys : List (List ℕ) = c.args.keys.now in
    let owns : List (List ℕ) = c.in-Some.own.now in
    let all : List (List ℕ) = c.as_slice-all.result.now in
    let some = owns_there keys face ints c.args.owns.now.entries c.requires.met (Some owns) c.in-Some.ensures.value in
    let f : List (List ℕ) → List ℕ → List KeyDue = λ ts. listed_due (asking_in ints face) (option_copied c.args.next) ts face c.args.opened c.args.hats.now in
    subst (λ (l : List KeyDue). IfOk c.dues_of_face-2.result (λ (ds : List KeyDue). ds ≡ l))
    (ap (λ ts. flat_map (f ts) all) c.requires.same ∙ ap (flat_map (f keys)) (c.as_slice-all.ensures ∙ c.in_ok-wide.ensures.keys ∙ wide_is keys c.requires.rise face ints owns some))
    c.dues_of_face-2.ensures.dues
