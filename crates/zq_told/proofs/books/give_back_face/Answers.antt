use Rattle.std.proofs.Common.{◌≡◌, ◌∙◌, ap, sym, subst, refl, rules, Some}
use Rattle.std.specs.List.{All}
use Rattle.zq_told.specs.declared.types.FacePlan.{FacePlan}
use Rattle.zq_told.specs.ToldSets.{at_face}
use Rattle.zq_told.specs.Rooms.{Book, Books, IsBare, IsBareAt, ears_of}
use Rattle.zq_told.proofs.Shown.{bare_here, bare_written, none_bare, shown_same}
use Rattle.zq_told.proofs.books.give_back_face.Goals as goal

pub returns-in-Some-clause-ears : goal.returns-in-Some-clause-ears
returns-in-Some-clause-ears c =
    let n = c.args.plan.now.face.0 in
    let es : Books = c.args.books.now.entries in
    let b : Book = c.in-Some.book.now in
    let d : Book = c.give_back.new.self in
    let there : at_face n es ≡ Some b = sym c.in-Some.ensures.value in
    let back = (c.get_mut.follows.holds d).0 in
    ap ears_of back ∙ shown_same n es b there d c.give_back.ensures.last c.give_back.ensures.told

pub returns-in-Some-clause-bare : goal.returns-in-Some-clause-bare
returns-in-Some-clause-bare c =
    let n = c.args.plan.now.face.0 in
    let es : Books = c.args.books.now.entries in
    let b : Book = c.in-Some.book.now in
    let d : Book = c.give_back.new.self in
    let p : FacePlan = c.args.plan.now in
    let there : at_face n es ≡ Some b = sym c.in-Some.ensures.value in
    let back = (c.get_mut.follows.holds d).0 in
    subst (λ (l : Books). IsBareAt l p) (sym back) (bare_here n es b there d p refl (subst (All (IsBare d.shelf)) c.as_slice.ensures c.give_back.ensures.bare))

pub returns-in-Some-clause-others : goal.returns-in-Some-clause-others
returns-in-Some-clause-others c = λ p bare.
    let n = c.args.plan.now.face.0 in
    let es : Books = c.args.books.now.entries in
    let b : Book = c.in-Some.book.now in
    let d : Book = c.give_back.new.self in
    let there : at_face n es ≡ Some b = sym c.in-Some.ensures.value in
    let back = (c.get_mut.follows.holds d).0 in
    subst (λ (l : Books). IsBareAt l p) (sym back) (bare_written n es b there d c.give_back.ensures.told c.give_back.ensures.fewer p bare)

pub returns-in-None-clause-bare : goal.returns-in-None-clause-bare
returns-in-None-clause-bare c =
    let p : FacePlan = c.args.plan.now in
    let same : c.get_mut.follows.lender-at-none.entries ≡ c.args.books.now.entries = search rules in
    subst (λ (l : Books). IsBareAt l p) (sym same) (none_bare c.args.books.now.entries p (sym c.in-None.ensures.value))

pub returns-in-None-clause-others : goal.returns-in-None-clause-others
returns-in-None-clause-others c = λ p bare.
    let same : c.get_mut.follows.lender-at-none.entries ≡ c.args.books.now.entries = search rules in
    subst (λ (l : Books). IsBareAt l p) (sym same) bare
