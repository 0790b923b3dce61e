-- Of a configuration with which nothing is wrong each region has an id that regions have.
use Rattle.std.proofs.Common.{◌≡◌, refl, sym, subst, ℕ, Bool, true, false, not, List, [], ◌∷◌, ◌++◌, Option, Some, None}
use Rattle.std.specs.Prelude.{nat_lt, if◌then◌else◌}
use Rattle.std.specs.List.{AllByRecursion}
use Rattle.zq_message.specs.declared.message.Region.TheVariants as region
use Rattle.zq_message.specs.Region.{region_index}
use Rattle.zq_machine.specs.declared.config.BadConfig.{BadConfig}
use Rattle.zq_machine.specs.declared.config.BadConfig.TheVariants as bad
use Rattle.zq_machine.specs.declared.config.Entry.{Entry}
use Rattle.zq_machine.specs.declared.config.Entry.TheVariants as entry
use Rattle.zq_machine.specs.declared.call.Call.{Call}
use Rattle.zq_machine.specs.declared.call.Step.{Step}
use Rattle.zq_machine.specs.Configs.{Settings, bad_config, bad_entry, bad_from, entry_index, is_among, or_else, region_of}
use Rattle.zq_machine.specs.Machine.{steps}
use Rattle.zq_machine.specs.State.{is_region}
use Rattle.zq_trace.specs.Headline.{Headline}
use Rattle.zq_trace.specs.Machine.{RunHeadline, of_machine}
use Rattle.zq_trace.proofs.Law.{runs_keep}

one_small : (seen : List ℕ) (e : Entry) → bad_entry seen e ≡ None → is_region (region_of e) ≡ true
one_small seen (entry.North m) h = refl
one_small seen entry.Local h = refl
one_small seen (entry.South id m) h = by (nat_lt 255 id) h
  where
    by : (b : Bool) → (if b then Some (bad.IdAbove id) else (if is_among (region_index (region.South id m)) seen then Some (bad.Twice (region.South id m)) else None)) ≡ None → not b ≡ true
    by true e = absurd (let gap : Some (bad.IdAbove id) ≡ None = e in cc)
    by false e = refl

both_none : (a b : Option BadConfig) → or_else a b ≡ None → (a ≡ None) × (b ≡ None)
both_none None b h = (refl, h)
both_none (Some x) b h = absurd (let gap : Some x ≡ None = h in cc)

pub all_small : (seen : List ℕ) (es : List Entry) → bad_from seen es ≡ None → AllByRecursion (λ (e : Entry). is_region (region_of e) ≡ true) es
all_small seen [] h = tt
all_small seen (e ∷ es) h =
    let parts = both_none (bad_entry seen e) (bad_from (seen ++ entry_index e ∷ []) es) h in
    (one_small seen e parts.0, all_small (seen ++ entry_index e ∷ []) es parts.1)

pub valid_keep : (config : Settings) → bad_config config.entries ≡ None → (calls : List Call) → RunHeadline config calls
valid_keep config valid calls = runs_keep config (all_small [] config.entries valid) calls

-- of steps that are those
pub given_keep : (config : Settings) → bad_config config.entries ≡ None → (calls : List Call) (given : List Step) → given ≡ steps config calls → Headline (of_machine config) config calls given
given_keep config valid calls given same = subst (Headline (of_machine config) config calls) (sym same) (valid_keep config valid calls)
