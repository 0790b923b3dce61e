use Rattle.std.proofs.Common.{◌≡◌, drop}
use Rattle.zq_io.specs.Words.{number_from}
use Rattle.zq_io.specs.Values.{most_128}
use Rattle.zq_io.proofs.words.wide_number_from.Given as goal

abbrev pub invariant-digits : goal.invariant-digits
invariant-digits l = number_from most_128 l.number (drop l.c-index l.word) ≡ number_from most_128 0 l.word
