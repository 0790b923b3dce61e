use Rattle.std.proofs.Common.{◌≡◌, ◌∙◌, ap, sym, Some, None}
use Rattle.std.specs.Option.{option_map, option_and_then}
use Rattle.zq_index.specs.Texts.{at_text}
use Rattle.zq_told.specs.ToldSets.{ToldSet, at_face, told_at}
use Rattle.zq_told.specs.Rooms.{Books, ear_of, ears_of}
use Rattle.zq_told.proofs.Shown.{shown_at}
use Rattle.zq_told.proofs.told_sets.ToldSets.told_of.Goals as goal

pub returns-in-Some : goal.returns-in-Some
returns-in-Some c =
    let n = c.args.face.0 in
    let k = c.args.key.now in
    let es : Books = c.self.inside.books.entries in
    let there : at_face n es ≡ Some c.in-Some.book.now = sym c.in-Some.ensures.value in
    c.get-in-Some.ensures
    ∙ sym (ap (λ o. option_and_then (λ (e : ToldSet). at_text k e.told) o) (shown_at n es ∙ ap (option_map ear_of) there))
    ∙ ap (λ (bs : Books). told_at n k (ears_of bs)) c.self.view_is

pub returns-in-None : goal.returns-in-None
returns-in-None c =
    let n = c.args.face.0 in
    let k = c.args.key.now in
    let es : Books = c.self.inside.books.entries in
    let there : at_face n es ≡ None = sym c.in-None.ensures.value in
    sym (ap (λ o. option_and_then (λ (e : ToldSet). at_text k e.told) o) (shown_at n es ∙ ap (option_map ear_of) there))
    ∙ ap (λ (bs : Books). told_at n k (ears_of bs)) c.self.view_is
