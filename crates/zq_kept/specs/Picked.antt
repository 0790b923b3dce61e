-- Lists that are read in place.
use Rattle.std.specs.Prelude.{List, map}
use Rattle.std.specs.Borrow.{Bor}
use Rattle.zq_strategy.specs.declared.offer.QueryTargetQabl.{QueryTargetQabl}

-- the list behind a reference
abbrev pub list_of : Bor (List QueryTargetQabl) → List QueryTargetQabl
list_of b = b.now

-- the lists behind references
abbrev pub lists_of : List (Bor (List QueryTargetQabl)) → List (List QueryTargetQabl)
lists_of bs = map list_of bs
