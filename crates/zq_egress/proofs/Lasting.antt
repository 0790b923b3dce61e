-- A filter that lends an asker, which lends what it looks at, lasts as long as both.
use base.Fml.{Lft}
use contract.BorrowLft.{◌⊑◌, ⊑_meet, ⊑_static}
use Rattle.std.proofs.Common.{[], ◌++◌}

pub filter_lasts : (κ asker seen : Lft) → κ ⊑ asker → κ ⊑ seen → κ ⊑ ((asker ++ ((seen ++ []) ++ ((seen ++ []) ++ []))) ++ []) ++ ((asker ++ ((seen ++ []) ++ ((seen ++ []) ++ []))) ++ [])
filter_lasts κ asker seen first second =
    let other = ⊑_meet κ seen [] second (⊑_static κ) in
    let both = ⊑_meet κ asker _ first (⊑_meet κ _ _ other (⊑_meet κ _ [] other (⊑_static κ))) in
    let each = ⊑_meet κ _ [] both (⊑_static κ) in
    ⊑_meet κ _ _ each each
