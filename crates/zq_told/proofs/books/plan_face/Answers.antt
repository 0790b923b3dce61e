use Rattle.std.proofs.Common.{◌≡◌, ◌∙◌, ap, sym, Some, None}
use Rattle.std.specs.Option.{option_map, option_map_or}
use Rattle.std.specs.List.{list_any}
use Rattle.zq_told.specs.ToldSets.{ToldSet, at_face}
use Rattle.zq_told.specs.Rooms.{Books, ear_of}
use Rattle.zq_told.specs.Telling.{is_above, tell_keys, with_account}
use Rattle.zq_told.proofs.Shown.{shown_at}
use Rattle.zq_told.proofs.books.plan_face.Goals as goal

pub returns-in-Ok-clause-ok : goal.returns-in-Ok-clause-ok
returns-in-Ok-clause-ok c =
    let n = c.args.dues.now.face.0 in
    let es : Books = c.args.books.now.entries in
    let there : at_face n es ≡ Some c.in-Some.book.now = sym c.in-Some.ensures.value in
    c.in-Ok.ensures.ok
    ∙ sym (ap (λ o. option_map_or (λ (e : ToldSet). with_account n (tell_keys c.args.way n e c.args.dues.now.keys c.args.planned.tellings) c.args.planned) o c.args.planned) (shown_at n es ∙ ap (option_map ear_of) there))

pub returns-in-Err-clause-no_free : goal.returns-in-Err-clause-no_free
returns-in-Err-clause-no_free c h =
    let n = c.args.dues.now.face.0 in
    let es : Books = c.args.books.now.entries in
    let there : at_face n es ≡ Some c.in-Some.book.now = sym c.in-Some.ensures.value in
    ap (λ o. list_any is_above (option_map_or (λ (e : ToldSet). with_account n (tell_keys c.args.way n e c.args.dues.now.keys c.args.planned.tellings) c.args.planned) o c.args.planned).plan) (shown_at n es ∙ ap (option_map ear_of) there)
    ∙ c.in-Err.ensures.no_free h

pub returns-in-None-clause-ok : goal.returns-in-None-clause-ok
returns-in-None-clause-ok c =
    let n = c.args.dues.now.face.0 in
    let es : Books = c.args.books.now.entries in
    let there : at_face n es ≡ None = sym c.in-None.ensures.value in
    sym (ap (λ o. option_map_or (λ (e : ToldSet). with_account n (tell_keys c.args.way n e c.args.dues.now.keys c.args.planned.tellings) c.args.planned) o c.args.planned) (shown_at n es ∙ ap (option_map ear_of) there))
