use Rattle.std.proofs.Common.{◌∙◌, ap, sym, subst, None}
use Rattle.std.specs.BTreeMap.{is_at}
use Rattle.std.specs.Ordering.{nat_cmp}
use Rattle.zq_told.specs.ToldSets.{closed}
use Rattle.zq_told.specs.Rooms.{AreBare, Books, ear_of, ears_of}
use Rattle.zq_index.proofs.Mapped.{remove-map}
use Rattle.std.proofs.lemmas.Option.{none-some}
use Rattle.zq_told.proofs.Shown.{bare_changed}
use Rattle.zq_told.proofs.told_sets.ToldSets.close.Goals as goal

pub returns-clause-ears : goal.returns-clause-ears
returns-clause-ears c = ap ears_of c.remove.ensures.entries ∙ sym (remove-map ear_of (is_at (nat_cmp c.args.face.0)) c.self.inside.books.entries) ∙ ap (λ (bs : Books). closed c.args.face.0 (ears_of bs)) c.self.view_is

pub returns-clause-rooms : goal.returns-clause-rooms
returns-clause-rooms c plan bare =
    let before : Books = c.self.inside.books.entries in
    bare_changed c.args.face.0 before c.remove.new.self.entries None (λ b is. absurd (none-some b is)) c.remove.ensures.updates.0 plan (subst (AreBare plan) (sym c.self.view_is) bare)
