use Rattle.std.proofs.Common.{subst}
use Rattle.zq_index.specs.Skipping.{IsPlaceAbove}
use Rattle.zq_index.proofs.Skipping.{is_above, none_above}
use Rattle.zq_index.proofs.search.past.Goals as goal

pub returns-then-held-eq0 : goal.returns-then-held-eq0
returns-then-held-eq0 c texts q want fork last holds x above listed = none_above c.args.key.now q c.args.held c.args.at want fork last holds c.if-held-eq0.true x above

pub returns-in-Some : goal.returns-in-Some
returns-in-Some c texts q want fork last holds =
    let place = subst (λ t. IsPlaceAbove t c.args.held c.args.at c.in-Some.place c.in-Some.byte) c.as_bytes.ensures.value c.in-Some.ensures in
    c.to_byte.ensures texts q (is_above c.args.key.now q c.args.held c.args.at want fork last holds c.in-Some.place c.in-Some.byte place)
