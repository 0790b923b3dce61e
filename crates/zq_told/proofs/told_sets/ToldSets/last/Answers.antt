use Rattle.std.proofs.Common.{◌≡◌, ◌∙◌, ap, sym, Some, None}
use Rattle.std.specs.Option.{option_map}
use Rattle.zq_told.specs.ToldSets.{ToldSet, at_face, last_at}
use Rattle.zq_told.specs.Rooms.{Books, ear_of, ears_of}
use Rattle.zq_told.proofs.Shown.{shown_at}
use Rattle.zq_told.proofs.told_sets.ToldSets.last.Goals as goal

pub returns-in-Some : goal.returns-in-Some
returns-in-Some c =
    let n = c.args.face.0 in
    let es : Books = c.self.inside.books.entries in
    let there : at_face n es ≡ Some c.in-Some.book.now = sym c.in-Some.ensures.value in
    ap (λ l. Some l) c.last.ensures
    ∙ sym (ap (λ o. option_map (λ (e : ToldSet). e.last) o) (shown_at n es ∙ ap (option_map ear_of) there))
    ∙ ap (λ (bs : Books). last_at n (ears_of bs)) c.self.view_is

pub returns-in-None : goal.returns-in-None
returns-in-None c =
    let n = c.args.face.0 in
    let es : Books = c.self.inside.books.entries in
    let there : at_face n es ≡ None = sym c.in-None.ensures.value in
    sym (ap (λ o. option_map (λ (e : ToldSet). e.last) o) (shown_at n es ∙ ap (option_map ear_of) there))
    ∙ ap (λ (bs : Books). last_at n (ears_of bs)) c.self.view_is
