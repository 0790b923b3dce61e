use Rattle.std.proofs.Common.{◌≡◌, ◌∙◌, ℕ, Option, sym, ap, map, arith}
use Rattle.zq_machine.specs.Writing.{tell}
use Rattle.zq_egress.specs.Telling.{behind, handed_final, marked_by}
use Rattle.zq_egress.proofs.Telling.{final_kept, told_answer, untold_behind}
use Rattle.zq_egress.proofs.tell.tell_behind.Goals as goal

pub returns-clause-ok : goal.returns-clause-ok
returns-clause-ok g c m same alike =
    let old = c.args.handed.now.items in
    let ts = c.args.tellings.now in
    let names = c.args.names.now in
    told_answer m c.args.interest ts old c.tell_each.new.handed.items c.push_final.new.handed.items names c.tell_each.new.names
    (ap (λ (k : Option ℕ). behind old (tell m (map (marked_by k) ts) names)) (sym c.mark_of-mark.ensures) ∙ c.in_ok-tell_each.ensures.ok m same alike)
    c.in_ok-push_final.ensures.ok

pub returns-clause-back : goal.returns-clause-back
returns-clause-back g c first le =
    let names = c.tell_each.new.names in
    untold_behind c.tell_each.new.handed.items (handed_final c.args.interest) c.push_final.new.handed.items names names first (omega (arith, le, c.in_ok-tell_each.ensures.longer)) c.in_ok-push_final.ensures.ok (final_kept c.args.interest names)
    ∙ c.in_ok-tell_each.ensures.back first le
