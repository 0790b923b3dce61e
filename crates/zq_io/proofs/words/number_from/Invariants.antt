use Rattle.std.proofs.Common.{◌≡◌, ◌≤◌, drop}
use Rattle.zq_io.specs.Words.{number_from}
use Rattle.zq_io.proofs.words.number_from.Given as goal

abbrev pub invariant-digits : goal.invariant-digits
invariant-digits l = (number_from l.most l.number (drop l.c-index l.word) ≡ number_from l.most 0 l.word) × (l.number ≤ l.most)
