use Rattle.std.proofs.Common.{◌≡◌, ◌∙◌, sym, length, rules}
use Rattle.zq_key.specs.Key.{parts}
use Rattle.zq_key.proofs.Checks.{parts_fit-whole, parts_fit-end}
use Rattle.zq_key.proofs.check.parts_fit.Goals as goal

pub returns : goal.returns
returns c =
    let over : length c.loop-rest.rest.now ≡ 0 = search rules in
    sym (sym (parts_fit-whole (parts c.args.chunk.now)) ∙ (c.loop-rest.invariant ∙ parts_fit-end c.loop-rest.after_run c.loop-rest.rest.now over))
