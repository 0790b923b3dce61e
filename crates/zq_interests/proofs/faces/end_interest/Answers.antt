use Rattle.std.proofs.Common.{rules, ◌≡◌, ◌∙◌, sym}
use Rattle.std.specs.BTreeMap.{is_at}
use Rattle.std.specs.Map.{remove_entry}
use Rattle.std.specs.Ordering.{nat_cmp}
use Rattle.zq_interests.specs.Interests.{Interests, interests_of}
use Rattle.zq_interests.proofs.Writing.{not_written}
use Rattle.zq_interests.proofs.faces.end_interest.Goals as goal

pub returns-in-None-clause-after : goal.returns-in-None-clause-after
returns-in-None-clause-after c =
    let n = c.args.face in
    let es : Interests = c.args.faces.now.entries in
    let same : c.get_mut.follows.lender-at-none.entries ≡ es = search rules in
    same ∙ sym (not_written (is_at (nat_cmp n)) (remove_entry (is_at (nat_cmp c.args.id)) (interests_of n es)) es (sym c.in-None.ensures.value))
