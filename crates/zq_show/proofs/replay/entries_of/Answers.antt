use Rattle.zq_lines.specs.Split.{lines_of}
use Rattle.zq_show.proofs.Replayed.{from_begun}
use Rattle.zq_show.proofs.replay.entries_of.Goals as goal

pub returns-clause-entries : goal.returns-clause-entries
returns-clause-entries c =
    from_begun c.in_ok-entries.entries c.args.first c.in_ok-machine.machine c.in_ok-seen.seen c.args.config.now (lines_of c.args.bytes.now) c.in_ok-machine.ensures c.in_ok-seen.ensures c.in_ok-entries.ensures.entries

pub returns-clause-bad : goal.returns-clause-bad
returns-clause-bad c = c.in_ok-entries.ensures.bad

pub entries_from-requires : goal.entries_from-requires
entries_from-requires c = c.requires
