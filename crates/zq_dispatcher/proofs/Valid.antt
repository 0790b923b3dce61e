-- A valid configuration names regions alone.
use Rattle.std.proofs.Common.{◌≡◌, ℕ, suc, zero, ◌<◌, Bool, true, false, cond, not, List, [], ◌∷◌, ◌++◌, Option, Some, None, length, get_or, refl, arith}
use Rattle.std.specs.Prelude.{nat_lt}
use Rattle.zq_message.specs.declared.message.Region.TheVariants as region
use Rattle.zq_message.specs.Region.{region_index}
use Rattle.zq_machine.specs.declared.config.Entry.{Entry}
use Rattle.zq_machine.specs.declared.config.Entry.TheVariants as entry
use Rattle.zq_machine.specs.declared.config.BadConfig.{BadConfig}
use Rattle.zq_machine.specs.declared.config.BadConfig.TheVariants as bad
use Rattle.zq_machine.specs.Configs.{bad_entry, bad_from, or_else, region_of, entry_index, is_among}
use Rattle.zq_machine.specs.State.{is_region}

entry_fits : (seen : List ℕ) (e : Entry) → bad_entry seen e ≡ None → is_region (region_of e) ≡ true
entry_fits seen (entry.North m) h = refl
entry_fits seen entry.Local h = refl
entry_fits seen (entry.South id m) h = at (nat_lt 255 id) (is_among (region_index (region.South id m)) seen) h
  where
    at : (b c : Bool) → cond b (Some (bad.IdAbove id)) (cond c (Some (bad.Twice (region.South id m))) None) ≡ None → not b ≡ true
    at true c g = absurd (cc)
    at false c g = refl

or_none : (a b : Option BadConfig) → or_else a b ≡ None → (a ≡ None) × (b ≡ None)
or_none None b h = (refl, h)
or_none (Some x) b h = absurd (cc)

pub regions_fit : (seen : List ℕ) (es : List Entry) → bad_from seen es ≡ None → (i : ℕ) (d : Entry) → i < length es → is_region (region_of (get_or es i d)) ≡ true
regions_fit seen [] h i d l = absurd (omega (arith, l))
regions_fit seen (e ∷ es) h zero d l = entry_fits seen e (or_none (bad_entry seen e) (bad_from (seen ++ entry_index e ∷ []) es) h).0
regions_fit seen (e ∷ es) h (suc i) d l =
    regions_fit (seen ++ entry_index e ∷ []) es (or_none (bad_entry seen e) (bad_from (seen ++ entry_index e ∷ []) es) h).1 i d (omega (arith, l))
