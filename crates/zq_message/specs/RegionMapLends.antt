-- What a `RegionMap` ends as, where a `&mut` to one of its values is returned.
use Rattle.std.specs.Prelude.{◌≡◌, ℕ, List, Option}
use Rattle.std.specs.Ordering.{nat_cmp}
use Rattle.std.specs.Map.{set_value}
use Rattle.std.specs.BTreeMap.{is_at}
use Rattle.std.specs.Borrow.{Lends, LendsSo, Fml, RattleType, MutBor}
use Rattle.zq_message.specs.declared.message.Region.{Region}
use Rattle.zq_message.specs.Region.{region_index}
use Rattle.zq_message.specs.contracts.map.RegionMap.{the_row}

module _ (D : RattleType) (s : MutBor (List (ℕ × D.Denot))) (r : Region) where
  -- once the borrow ends, the region has the last value written, and at `None` the map is as it was
  abbrev pub LendsEntry : Option (MutBor D.Denot) → Fml
  LendsEntry o = LendsSo (the_row D) D s o (λ n w. n ≡ set_value (is_at (nat_cmp (region_index r))) s.now w) (λ n. n ≡ s.now)

  -- the same of a region that is there
  abbrev pub LendsValue : MutBor D.Denot → Fml
  LendsValue d = Lends (the_row D) D s d (set_value (is_at (nat_cmp (region_index r))) s.now)
