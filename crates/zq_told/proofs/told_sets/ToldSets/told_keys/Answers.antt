use Rattle.std.proofs.Common.{◌≡◌, ◌∙◌, ap, sym, subst, ℕ, List, Some, None, []}
use Rattle.std.specs.Prelude.{IfOk}
use Rattle.std.specs.Map.{keys_of}
use Rattle.std.specs.Option.{option_map, option_map_or}
use Rattle.zq_told.specs.ToldSets.{ToldSet, at_face, told_keys}
use Rattle.zq_told.specs.Rooms.{Books, ear_of, ears_of}
use Rattle.zq_told.proofs.Shown.{shown_at}
use Rattle.zq_told.proofs.told_sets.ToldSets.told_keys.Goals as goal

pub returns-in-Some : goal.returns-in-Some
returns-in-Some c =
    let n = c.args.face.0 in
    let es : Books = c.self.inside.books.entries in
    let there : at_face n es ≡ Some c.in-Some.book.now = sym c.in-Some.ensures.value in
    let same : keys_of c.in-Some.book.now.shelf.told ≡ told_keys n (ears_of c.args.self.now) =
    sym (ap (λ o. option_map_or (λ (e : ToldSet). keys_of e.told) o []) (shown_at n es ∙ ap (option_map ear_of) there))
    ∙ ap (λ (bs : Books). told_keys n (ears_of bs)) c.self.view_is in
    subst (λ (l : List (List ℕ)). IfOk c.told_keys.result (λ (ks : List (List ℕ)). ks ≡ l)) same c.told_keys.ensures

pub returns-in-None : goal.returns-in-None
returns-in-None c =
    let n = c.args.face.0 in
    let es : Books = c.self.inside.books.entries in
    let there : at_face n es ≡ None = sym c.in-None.ensures.value in
    c.new.ensures
    ∙ sym (ap (λ o. option_map_or (λ (e : ToldSet). keys_of e.told) o []) (shown_at n es ∙ ap (option_map ear_of) there))
    ∙ ap (λ (bs : Books). told_keys n (ears_of bs)) c.self.view_is
