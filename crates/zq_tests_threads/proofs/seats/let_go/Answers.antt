use Rattle.std.proofs.Common.{◌∙◌, sym}
use Rattle.zq_shared.proofs.Holds.{last_held}
use Rattle.zq_tests_threads.proofs.seats.let_go.Goals as goal

pub release-requires : goal.release-requires
release-requires c = last_held c.args.held c.pop.new.self.items c.in-Some.slot c.args.seat.now.held (sym c.into_vec-held.ensures ∙ c.in-Some.ensures.items) c.requires
