-- A region that has a hat, as one whose hat has a face or lacks it, is one of an id that regions have.
use Rattle.std.proofs.Common.{◌≡◌, refl, sym, ℕ, Bool, true, false, cond, List, Option, Some, None, true≢false, arith}
use Rattle.std.proofs.lemmas.Bool.Decides.{nat_tests}
use Rattle.std.specs.Option.{is_some, option_map}
use Rattle.zq_message.specs.declared.message.Region.{Region}
use Rattle.zq_message.specs.declared.message.Region.TheVariants as region
use Rattle.zq_message.specs.Region.{HasIndex}
use Rattle.zq_message.specs.RegionMap.{value_at}
use Rattle.zq_strategy.specs.State.{HatState}
use Rattle.zq_strategy.specs.Kept.{has_face}
use Rattle.zq_machine.specs.State.{hat_at, is_region}
use Rattle.zq_dispatcher.specs.Seats.{seats}

pub hat_region : (r : Region) (hats : List (ℕ × HatState)) → is_some (hat_at r hats) ≡ true → is_region r ≡ true
hat_region r hats e = by (is_region r) refl e
  where
    by : (x : Bool) → is_region r ≡ x → is_some (cond x (value_at hats r) None) ≡ true → is_region r ≡ true
    by true is f = is
    by false is f = absurd (true≢false (sym f))

pub seated_region : (r : Region) (face : ℕ) (hats : List (ℕ × HatState)) (b : Bool) → seats r face hats ≡ Some b → is_region r ≡ true
seated_region r face hats b e = hat_region r hats (by (hat_at r hats) e)
  where
    by : (o : Option HatState) → option_map (has_face face) o ≡ Some b → is_some o ≡ true
    by None f = absurd (let gap : None ≡ Some b = f in cc)
    by (Some h) f = refl

-- it has an index
pub region_indexed : (r : Region) → is_region r ≡ true → HasIndex r
region_indexed region.North e = tt
region_indexed region.Local e = tt
region_indexed (region.South id mode) e = grind (arith, nat_tests)
