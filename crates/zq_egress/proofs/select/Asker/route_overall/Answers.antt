use Rattle.std.proofs.Common.{◌∙◌, ap, rules}
use Rattle.zq_machine.specs.Selecting.{passes}
use Rattle.zq_egress.specs.Askers.{asker_of}
use Rattle.zq_egress.proofs.Lasting.{filter_lasts}
use Rattle.zq_egress.proofs.select.Asker.route_overall.Goals as goal

pub take_best_overall-requires : goal.take_best_overall-requires
take_best_overall-requires c κs within =
    (filter_lasts κs.1.0 κs.1.1.0 κs.1.1.1.0 within.0 within.1.0, (search rules, λ offer answer h. h.says.met ∙ ap (passes (asker_of c.args.self.now)) h.shows))
