-- The own face is opened and declares: both calls are accepted.
use Rattle.std.proofs.Common.{◌≡◌, ◌≢◌, ◌∙◌, refl, ap, ℕ, ◌+◌, ◌-◌, ◌^◌, false, true, cond, [], Option, None, ne_eqb, arith}
use Rattle.std.specs.Prelude.{◌==◌}
use Rattle.std.specs.Option.{option_map_or}
use Rattle.zq_key.specs.Key.{is_key}
use Rattle.zq_message.specs.declared.message.QueryableInfoType.{QueryableInfoType}
use Rattle.zq_tables.specs.declared.resolved.Resolved.TheVariants as said
use Rattle.zq_tables.specs.Naming.{face_naming, plain, said_of}
use Rattle.zq_machine.specs.declared.call.Refusal.{Refusal}
use Rattle.zq_machine.specs.Configs.{Settings, has_local}
use Rattle.zq_machine.specs.Deciding.{answered, granted, refusal_of}
use Rattle.zq_machine.specs.Gates.{entered_by, gate_at, space_of}
use Rattle.zq_machine.specs.Machine.{after, answer}
use Rattle.zq_machine.specs.State.{State, is_routing, opening_state}
use Rattle.zq_machine.specs.TextCalls.{TextCall, announcing, declaring, opening, read, said as said_by}
use Rattle.zq_local.specs.Seated.{local_opening}
use Rattle.zq_local.proofs.First.{first_are}
use Rattle.zq_local.proofs.Joining.{Stands, declare_fits, face_hat, open_core, open_fits, open_gates}
use Rattle.zq_local.proofs.Quiet.{says_itself}
use Rattle.zq_admin.specs.Admin.{IsJoined}
use Rattle.zq_admin.specs.Answering.{own_declaration, own_key, own_opening}

-- a call that nothing refuses has its outcome
outcome_granted : (s : State) (t : TextCall) → refusal_of s.core t ≡ None → (answer s t).outcome ≡ (granted s.core t).outcome
outcome_granted s t fits = ap (λ (r : Option Refusal). (answered r (granted s.core t)).outcome) fits

module _ (config : Settings) (there : has_local config.entries ≡ true) (fits : (config.start.faces + 1 == 2 ^ 32) ≡ false) (is : is_key (own_key config) ≡ true) where
  abbrev n : ℕ
  n = config.start.faces

  abbrev s : State
  s = opening_state config

  abbrev info : QueryableInfoType
  info = record { complete = true; distance = 0 }

  at_first : Stands config [] n [] config.start.requests config.start.replies s.core
  at_first = record {
    of = refl;
    opens = refl;
    numbers = refl;
    hats = first_are config there;
    interests = refl;
    quiet = record { records = refl; closed = refl; asked = refl; replied = refl };
  }

  abbrev first : State
  first = after s (own_opening config)

  reads : read first (own_declaration (record { 0 = n }) config) ≡ declaring (record { 0 = n }) 1 (said.Full (own_key config)) info 0
  reads =
      ap (λ h. cond (option_map_or is_routing h false) (announcing (record { 0 = n }) (said_by (record { 0 = n }) (plain (own_key config)) first) info 0) (declaring (record { 0 = n }) 1 (said_by (record { 0 = n }) (plain (own_key config)) first) info 0))
      (face_hat config [] n [] config.start.requests config.start.replies first.core (open_core config [] n [] config.start.requests config.start.replies s at_first refl tt tt tt fits) tt tt tt (own_key config) is info)
      ∙ ap (λ g. declaring (record { 0 = n }) 1 (said_of (face_naming n first.names) (entered_by (space_of (gate_at n g)) (plain (own_key config)))) info 0) (open_gates config [] n [] config.start.requests config.start.replies s at_first refl tt tt tt fits)
      ∙ ap (λ sd. declaring (record { 0 = n }) 1 sd info 0) (says_itself (own_key config) is)

  both_fit : IsJoined (record { 0 = n }) config
  both_fit = record {
    opened = outcome_granted s (opening (local_opening config.zid)) (open_fits config [] n [] config.start.requests config.start.replies s.core at_first tt tt tt fits);
    declared =
        ap (λ t. (answer first t).outcome) reads
        ∙ outcome_granted first (declaring (record { 0 = n }) 1 (said.Full (own_key config)) info 0)
        (declare_fits config [] n [] config.start.requests config.start.replies first.core (open_core config [] n [] config.start.requests config.start.replies s at_first refl tt tt tt fits) tt tt tt (own_key config) is info);
  }

pub joined : (config : Settings) → has_local config.entries ≡ true → config.start.faces ≢ 2 ^ 32 - 1 → is_key (own_key config) ≡ true → IsJoined (record { 0 = config.start.faces }) config
joined config there free is = both_fit config there (ne_eqb (config.start.faces + 1) (2 ^ 32) (λ e. free (omega (arith, e)))) is
