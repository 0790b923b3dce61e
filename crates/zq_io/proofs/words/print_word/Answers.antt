use Rattle.std.proofs.Common.{◌≡◌, arith, rules}
use Rattle.std.proofs.lemmas.List.Elements.{All-from_get_or}
use Rattle.percent_encoding.proofs.PercentLemmas.{IsByte}
use Rattle.zq_io.specs.Words.{payload_word}
use Rattle.zq_io.proofs.Back.{payload_back}
use Rattle.zq_io.proofs.words.print_word.Goals as goal

pub returns-clause-back : goal.returns-clause-back
returns-clause-back c =
    let is : c.from_vec.result ≡ payload_word c.args.bytes.now = search rules in
    rw is (payload_back c.args.bytes.now (All-from_get_or IsByte c.args.bytes.now 0 (λ i inside. let fits = c.type_inv.bytes i in omega arith)))
