use Rattle.std.proofs.Common.{rules, ◌≡◌, ◌∙◌, ap, sym, refl, Some, fold}
use Rattle.zq_told.specs.ToldSets.{at_face}
use Rattle.zq_told.specs.Rooms.{Book, Books, ears_of}
use Rattle.zq_told.specs.Telling.{put_row}
use Rattle.zq_told.proofs.Shown.{none_put, shown_put}
use Rattle.zq_told.proofs.books.put_face.Goals as goal

pub returns-in-Some-clause-ears : goal.returns-in-Some-clause-ears
returns-in-Some-clause-ears c =
    let n = c.args.plan.now.face.0 in
    let es : Books = c.args.books.now.entries in
    let b : Book = c.in-Some.book.now in
    let d : Book = c.put.new.self in
    let there : at_face n es ≡ Some b = sym c.in-Some.ensures.value in
    let back = (c.get_mut.follows.holds d).0 in
    ap ears_of back ∙ shown_put n es b there d c.args.plan.now refl c.put.ensures.last (c.put.ensures.told ∙ ap (fold put_row b.shelf.told) c.as_slice.ensures)

pub returns-in-None-clause-ears : goal.returns-in-None-clause-ears
returns-in-None-clause-ears c =
    let same : c.get_mut.follows.lender-at-none.entries ≡ c.args.books.now.entries = search rules in
    ap ears_of same ∙ none_put c.args.books.now.entries c.args.plan.now (sym c.in-None.ensures.value)
