use Rattle.std.proofs.Common.{◌≡◌, fold, map}
use Rattle.zq_hat.specs.Listings.{with_listing}
use Rattle.zq_hat.specs.Sourced.{declaration_listing}
use Rattle.zq_hat.proofs.queryables.add_declared.Given as goal

abbrev pub invariant-loop-declaration : goal.invariant-loop-declaration
invariant-loop-declaration l = fold with_listing l.all (map (declaration_listing l.source) l.declaration-iterator) ≡ fold with_listing l.initial.all (map (declaration_listing l.source) l.declared.entries)
