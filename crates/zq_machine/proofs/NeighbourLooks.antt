-- What a call looks at, in one form for all calls.
use Rattle.std.proofs.Common.{◌≡◌, refl, sym, ap, ◌∙◌, ℕ, List, [], ◌∷◌, filter, fold}
use Rattle.std.specs.BTreeSet.{insert_key}
use Rattle.zq_index.specs.Texts.{text_cmp}
use Rattle.zq_interests.specs.Interests.{Interests, own_keys}
use Rattle.zq_machine.specs.declared.face.OpenFace.{OpenFace}
use Rattle.zq_machine.specs.Due.{due_touched, is_met_by, widened}
use Rattle.zq_machine.specs.Neighbours.{looked_at, looked_by, looked_over}
use Rattle.zq_machine.specs.State.{Core}
use Rattle.zq_machine.specs.TextCalls.{TextCall, opening}
use Rattle.zq_machine.specs.Trees.{touched}

none_looked : (es : List (ℕ × OpenFace)) (c : Core) (ints : Interests) → [] ≡ looked_by (record c { faces = es }) ints (λ face. [])
none_looked [] c ints = refl
none_looked (e ∷ es) c ints = none_looked es c ints

-- no key meets another where there is none
none_met : (ks : List (List ℕ)) → filter (is_met_by []) ks ≡ []
none_met [] = refl
none_met (k ∷ ks) = none_met ks

pub none_wider : (face : ℕ) (ints : Interests) → widened face ints [] ≡ []
none_wider face ints = ap (fold (insert_key text_cmp) []) (none_met (own_keys face ints))

pub over_is : (c : Core) (ints : Interests) (ks : List (List ℕ)) → looked_over c ints ks ≡ looked_by c ints (λ face. widened face ints ks)
over_is c ints [] = none_looked c.faces c ints ∙ ap (looked_by c ints) (λ j face. sym (none_wider face ints) j)
over_is c ints (k ∷ ks) = refl

pub looked_is : (before after : Core) (ints : Interests) (t : TextCall) → looked_at before after ints t ≡ looked_by after ints (due_touched before ints t)
looked_is before after ints (opening o) = refl
looked_is before after ints t = over_is after ints (fold (insert_key text_cmp) [] (touched before t))
