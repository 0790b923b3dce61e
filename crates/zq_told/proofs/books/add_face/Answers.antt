use Rattle.std.proofs.Common.{◌≡◌, ◌∙◌, ap, sym, Some}
use Rattle.zq_told.specs.ToldSets.{at_face}
use Rattle.zq_told.specs.Rooms.{Book, Books, ears_of}
use Rattle.zq_told.proofs.Shown.{shown_same}
use Rattle.zq_told.proofs.books.add_face.Goals as goal

pub returns-in-Ok-clause-ears : goal.returns-in-Ok-clause-ears
returns-in-Ok-clause-ears c =
    let n = c.args.plan.now.face.0 in
    let es : Books = c.args.books.now.entries in
    let b : Book = c.in-Some.book.now in
    let d : Book = c.add_rooms.new.self in
    let there : at_face n es ≡ Some b = sym c.in-Some.ensures.value in
    let back = (c.get_mut.follows.holds d).0 in
    ap ears_of back ∙ shown_same n es b there d c.add_rooms.ensures.last c.add_rooms.ensures.told

pub returns-in-Err-clause-ears : goal.returns-in-Err-clause-ears
returns-in-Err-clause-ears c =
    let n = c.args.plan.now.face.0 in
    let es : Books = c.args.books.now.entries in
    let b : Book = c.in-Some.book.now in
    let d : Book = c.add_rooms.new.self in
    let there : at_face n es ≡ Some b = sym c.in-Some.ensures.value in
    let back = (c.get_mut.follows.holds d).0 in
    ap ears_of back ∙ shown_same n es b there d c.add_rooms.ensures.last c.add_rooms.ensures.told
