use Rattle.zq_tests_threads.proofs.Kept.{kept_parts}
use Rattle.zq_tests_threads.proofs.callers.make_call.Goals as goal

pub returns : goal.returns
returns g c = record {
  ready = record {
    home = c.call.ensures.seat;
    free = c.call.ensures.free;
    parts = kept_parts c.args.call c.call.result c.args.caller.now.tally c.call.new.tally c.call.ensures.made c.call.ensures.counts c.requires.ready.parts;
  };
}
