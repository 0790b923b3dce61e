use Rattle.std.proofs.Common.{◌++◌, ℕ, List, subst}
use Rattle.std.specs.List.{Contains}
use Rattle.zq_names.specs.Names.{texts, entry_at}
use Rattle.zq_names.proofs.Adding.{Adds-heads, Contains-text}
use Rattle.zq_names.proofs.names.Names.get_key.Goals as goal

pub returns-in-Some-clause-adds : goal.returns-in-Some-clause-adds
returns-in-Some-clause-adds c =
    let ns = c.args.self.now in
    let t = (entry_at ns c.args.from.0).text ++ c.args.suffix.now in
    let named = c.in_ok-r.ensures.found in
    let H : List ℕ → Type 0 = Contains (texts ns) in
    Adds-heads ns t c.in_ok-r.ensures.names.closed (subst H named.text (Contains-text ns c.in_ok-r.r.0 named.live))
