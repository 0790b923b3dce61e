use Rattle.std.proofs.Common.{◌∙◌, ap, refl}
use Rattle.zq_key.specs.Space.{behind}
use Rattle.zq_io.specs.Words.{lacks}
use Rattle.zq_admin.proofs.Tame.{behind_lacks, mode_lacks, ok_lacks}
use Rattle.zq_admin.proofs.fronts.front.Goals as goal

pub returns-clause-tame : goal.returns-clause-tame
returns-clause-tame c = λ kind.
    ok_lacks 42 (behind c.as_str-2.result.now c.args.kind.now) c.behind-2.result c.behind-2.ensures
    (behind_lacks 42 c.as_str-2.result.now c.args.kind.now refl
    (ap (lacks 42) (c.as_str-2.ensures ∙ c.in_ok-mode.ensures)
    ∙ behind_lacks 42 c.as_str.result.now c.mode_name.result.now refl (ap (lacks 42) c.as_str.ensures ∙ c.in_ok-zid.ensures.tame) (ap (lacks 42) c.mode_name.ensures ∙ mode_lacks c.args.own.mode))
    kind)
