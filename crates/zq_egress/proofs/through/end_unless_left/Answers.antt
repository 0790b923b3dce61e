use Rattle.std.proofs.Common.{◌≡◌, ◌∙◌, true, false, cond, Option, Some, None, Bor, option_copied, refl, sym, ap}
use Rattle.std.specs.Option.{is_some}
use Rattle.std.specs.Prelude.{◌&&◌, is_none}
use Rattle.std.proofs.lemmas.Bool.{false≢true}
use Rattle.zq_machine.specs.Gates.{Gates, ends_given, keeping}
use Rattle.zq_egress.proofs.Keeping.{ended_at}
use Rattle.zq_egress.proofs.through.end_unless_left.Goals as goal

none_copied : {X : Type 0} (o : Option (Bor X)) → is_some o ≡ false → is_none (option_copied o) ≡ true
none_copied None is = refl
none_copied (Some x) is = absurd (false≢true (sym is))

pub returns-then-is_none : goal.returns-then-is_none
returns-then-is_none c =
    let h = c.args.handed.now in
    let gates : Gates = c.args.gates.now.entries in
    c.end_at.ensures
    ∙ ended_at h gates
    ∙ ap (λ b. cond (b && ends_given h.message) (keeping h gates) gates) (sym (ap is_none (sym c.leaves.ensures) ∙ none_copied c.leaves.result c.if-is_none.ensures))
