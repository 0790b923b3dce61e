use Rattle.std.proofs.Common.{◌∙◌, ◌++◌}
use Rattle.std.specs.Prelude.{filter}
use Rattle.std.specs.List.{flat_map}
use Rattle.zq_index.specs.Texts.{texts_of}
use Rattle.zq_strategy.specs.Met.{is_met}
use Rattle.zq_strategy.specs.Seating.{seated}
use Rattle.zq_strategy.proofs.Gathering.{gathered}
use Rattle.zq_hat.specs.Unreached.{unreached_on}
use Rattle.zq_hat.proofs.AllPut.{all_put, put_more}
use Rattle.zq_hat.proofs.unreached.unreached_for.Goals as goal

pub returns : goal.returns
returns c =
    let q = c.args.q.now in
    let w = c.args.ways.now in
    let on = unreached_on w.net.now (λ zid. seated zid w.seats.now) w.source in
    let es = texts_of c.keys.result.now.entries in
    gathered _ (λ v. v.items) (put_more on) (λ was e next same. same) (filter (is_met q) es) c.new-found.result c.gather_all.new.found c.in_ok-gather_all.ensures
    ∙ all_put on (filter (is_met q) es) c.new-found.result.items
    ∙ (λ i. c.new-found.ensures.items i ++ flat_map on (filter (is_met q) (c.keys.ensures i)))
