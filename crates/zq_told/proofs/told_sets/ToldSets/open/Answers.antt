use Rattle.std.proofs.Common.{◌∙◌, ap, sym, subst, ℕ, Some}
use Rattle.std.specs.BTreeMap.{insert_entry}
use Rattle.std.specs.Ordering.{nat_cmp}
use Rattle.zq_told.specs.ToldSets.{ToldSets, Told}
use Rattle.zq_told.specs.Rooms.{AreBare, Book, Books, ear_of, ears_of}
use Rattle.zq_index.proofs.Mapped.{insert-map}
use Rattle.std.proofs.lemmas.Option.{same_Some}
use Rattle.zq_told.proofs.Shown.{bare_changed}
use Rattle.zq_told.proofs.told_sets.ToldSets.open.Goals as goal

abbrev opened_with : ℕ → ℕ → Told → ToldSets → ToldSets
opened_with n last told ears = insert_entry nat_cmp ears n (record { last = last; told = told })

pub returns-in-Ok-clause-ok : goal.returns-in-Ok-clause-ok
returns-in-Ok-clause-ok c =
    let n = c.args.face.0 in
    let es : Books = c.self.inside.books.entries in
    ap ears_of c.in-Ok.ensures.entries
    ∙ sym (insert-map ear_of nat_cmp es n c.new.result)
    ∙ (λ i. opened_with n (c.new.ensures.last i) (c.new.ensures.told i) (ears_of (c.self.view_is i)))

pub returns-in-Ok-clause-rooms : goal.returns-in-Ok-clause-rooms
returns-in-Ok-clause-rooms c plan bare =
    let before : Books = c.self.inside.books.entries in
    bare_changed c.args.face.0 before c.insert.new.self.entries (Some c.new.result) (λ b is. ap (λ (x : Book). x.shelf.rooms) (sym (same_Some _ _ is)) ∙ c.new.ensures.rooms) c.in-Ok.ensures.updates.0 plan (subst (AreBare plan) (sym c.self.view_is) bare)
