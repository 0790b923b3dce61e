use Rattle.std.proofs.Common.{◌<◌, ◌∷◌, ◌++◌, [], sym, subst, length}
use Rattle.std.specs.List.{cons_option}
use Rattle.zq_shared.specs.Stored.{Stored, flights, standing}
use Rattle.zq_shared.proofs.Reporting.{fewer}
use Rattle.zq_shared.proofs.Settled.{reported_more, reported_none}
use Rattle.zq_shared.proofs.settling.report_all.Goals as goal

pub replies-init : goal.replies-init
replies-init c = ([], reported_none c.args.journal.now c.args.number)

pub replies-smaller : goal.replies-smaller
replies-smaller c =
    subst (λ (x : Stored). length (flights (standing x)) < length (flights (standing c.replies.journal))) (sym c.in-Ok.ensures.stored)
    (fewer c.replies.journal c.in-Some.reply (cons_option c.in-Ok.handed []) c.in-Ok.ensures.answer)

pub replies-preserved : goal.replies-preserved
replies-preserved c =
    let so_far = c.replies.invariant in (
      so_far.0 ++ c.in-Some.reply ∷ [],
      reported_more c.args.journal.now c.args.number c.replies.last c.replies.journal so_far.0 so_far.1
          c.in-Some.reply c.in-Some.ensures.there c.in-Some.ensures.least c.in-Ok.handed c.in-Ok.ensures.answer c.sent.new.self c.in-Ok.ensures.stored,
    )
