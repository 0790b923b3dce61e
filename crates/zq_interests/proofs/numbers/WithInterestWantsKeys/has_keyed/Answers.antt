use Rattle.std.proofs.Common.{◌∙◌, sym, ap}
use Rattle.std.specs.Cmp.{nat_cmp_total}
use Rattle.std.specs.List.{list_any}
use Rattle.std.proofs.lemmas.Map.Lookups.{exact_unsigned}
use Rattle.zq_key.proofs.Lookups.{apart}
use Rattle.zq_interests.specs.Interests.{wants_keyed}
use Rattle.zq_interests.proofs.Besides.{others_of}
use Rattle.zq_interests.proofs.numbers.WithInterestWantsKeys.has_keyed.Goals as goal

pub returns-else-face-self : goal.returns-else-face-self
returns-else-face-self c =
    let w = c.args.self.now in
    c.has_keyed.ensures
    ∙ ap (list_any (wants_keyed c.args.key.now)) (sym (others_of w.interests.now w.face.0 w.id w.entry.now c.args.face.0 (apart nat_cmp_total exact_unsigned w.face.0 c.args.face.0 (λ e. c.if-face-self.false (sym e)))))
