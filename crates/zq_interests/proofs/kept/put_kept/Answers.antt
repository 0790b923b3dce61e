use Rattle.std.proofs.Common.{◌∙◌, ap, sym, subst, List, ℕ, Option}
use Rattle.std.specs.Prelude.{not, ◌&&◌, ◌||◌, Bool}
use Rattle.zq_index.specs.Holders.{Place}
use Rattle.zq_interests.specs.Interests.{Interests}
use Rattle.zq_interests.specs.Kept.{AreKept, Shelf, is_kept, is_left, is_spot}
use Rattle.zq_interests.proofs.Keeping.{kept_with}
use Rattle.zq_interests.proofs.kept.put_kept.Goals as goal

pub returns-in-Ok-clause-kept : goal.returns-in-Ok-clause-kept
returns-in-Ok-clause-kept c =
    let ints : Interests = c.args.faces.now.entries in
    let shelf : Shelf = c.args.shelf.now in
    let after : Shelf = c.leave_old.new.shelf in
    let p : Place = (c.args.face, c.args.id) in
    subst (λ (es : Interests). AreKept es after) (sym c.in-Ok.ensures.ok)
    (kept_with ints shelf c.requires c.args.face c.args.id c.args.entry c.in-Ok.before after c.in-Ok.ensures.before
    (λ other q. c.leave_old.ensures other q
    ∙ ap (λ (s : Bool). not (is_left c.in-Ok.before c.in_ok-asked.asked p other q) && s) (c.in_ok-put.ensures.ok other q)
    ∙ ap (λ (a : Option (List ℕ)). not (is_left c.in-Ok.before a p other q) && (is_spot a p other q || is_kept other q shelf)) c.in_ok-asked.ensures))
