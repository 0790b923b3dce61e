-- Whatever the bytes are, the calls of their script keep the headline, tell faces what is due to them, and keep what each run promises.
use Rattle.std.proofs.Common.{◌≡◌, refl, ℕ, List, [], ◌∷◌, Option, Some, None}
use Rattle.std.specs.Prelude.{Result, Ok, Err, IfOk, IfSome}
use Rattle.zq_message.specs.declared.message.Zid.{Zid}
use Rattle.zq_machine.specs.declared.call.Call.{Call}
use Rattle.zq_machine.specs.declared.config.BadConfig.{BadConfig}
use Rattle.zq_machine.specs.declared.config.Entry.{Entry}
use Rattle.zq_machine.specs.Configs.{Settings, bad_config}
use Rattle.zq_machine.specs.Headline.{RunPromise}
use Rattle.zq_machine.proofs.Kept.{headline}
use Rattle.zq_trace.specs.Machine.{RunHeadline, RunTold}
use Rattle.zq_trace.proofs.Told.{valid_told}
use Rattle.zq_trace.proofs.Valid.{valid_keep}
use Rattle.zq_script.specs.declared.script.Script.{Script}
use Rattle.zq_script.specs.Head.{Head, behind_config, config_of, head_of, headed, unless_bad, with_config}
use Rattle.zq_script.specs.Running.{first_part}
use Rattle.zq_lines.specs.Split.{lines_of}
use Rattle.zq_script.specs.Script.{parts_of, script_of, made, with_parts}

-- with the entries of a configuration nothing is wrong
abbrev IsValid : Settings → Type 0
IsValid config = bad_config config.entries ≡ None

head_valid : (lines : List (List ℕ)) → IfOk (head_of lines) (λ (h : Head). IsValid h.0)
head_valid [] = tt
head_valid (line ∷ lines) = by_line (config_of line)
  where
    by_entries : (config : Settings) (o : Option BadConfig) → bad_config config.entries ≡ o → IfOk (headed (behind_config line lines) (unless_bad o config)) (λ (h : Head). IsValid h.0)
    by_entries config None e = e
    by_entries config (Some b) e = tt

    by_line : (c : Option (Zid × ℕ × List Entry)) → IfOk (with_config line lines c) (λ (h : Head). IsValid h.0)
    by_line None = tt
    by_line (Some c) =
        by_entries (record { zid = c.0; entries = c.2; timeout = c.1; start = (behind_config line lines).start; best = (behind_config line lines).best }) (bad_config c.2) refl

parts_valid : (head : Result Head ℕ) → IfOk head (λ (h : Head). IsValid h.0) → IfOk (with_parts 0 head) (λ s. IsValid s.config)
parts_valid (Ok head) valid = by (parts_of head.2 0 head.3)
  where
    by : (parts : Result (List (List Call)) ℕ) → IfOk (made head parts) (λ s. IsValid s.config)
    by (Ok parts) = valid
    by (Err n) = tt
parts_valid (Err n) valid = tt

-- what holds of the calls of each valid configuration holds of those of a script, whatever lines it is made of
module _ (P : Settings → List Call → Type 0) (all : (config : Settings) → IsValid config → (calls : List Call) → P config calls) where
  of_script : (read : Result Script ℕ) → IfOk read (λ s. IsValid s.config) → IfOk read (λ s. P s.config (first_part s.parts))
  of_script (Ok s) valid = all s.config valid (first_part s.parts)
  of_script (Err n) valid = tt

  of_lines : (given : Option (List ℕ)) (lines : List ℕ → List (List ℕ)) → IfSome given (λ input. IfOk (script_of 0 (lines input)) (λ s. P s.config (first_part s.parts)))
  of_lines None lines = tt
  of_lines (Some input) lines = of_script (script_of 0 (lines input)) (parts_valid (head_of (lines input)) (head_valid (lines input)))

pub lines_promised : (given : Option (List ℕ)) (lines : List ℕ → List (List ℕ)) → IfSome given (λ input. IfOk (script_of 0 (lines input)) (λ s. RunPromise s.config (first_part s.parts)))
lines_promised = of_lines RunPromise (λ config valid. headline config)

pub lines_kept : (given : Option (List ℕ)) (lines : List ℕ → List (List ℕ)) → IfSome given (λ input. IfOk (script_of 0 (lines input)) (λ s. RunHeadline s.config (first_part s.parts)))
lines_kept = of_lines RunHeadline valid_keep

pub lines_told : (given : Option (List ℕ)) (lines : List ℕ → List (List ℕ)) → IfSome given (λ input. IfOk (script_of 0 (lines input)) (λ s. RunTold s.config (first_part s.parts)))
lines_told = of_lines RunTold valid_told

pub promised : (given : Option (List ℕ)) → IfSome given (λ input. IfOk (script_of 0 (lines_of input)) (λ s. RunPromise s.config (first_part s.parts)))
promised given = lines_promised given lines_of

pub kept : (given : Option (List ℕ)) → IfSome given (λ input. IfOk (script_of 0 (lines_of input)) (λ s. RunHeadline s.config (first_part s.parts)))
kept given = lines_kept given lines_of

pub told : (given : Option (List ℕ)) → IfSome given (λ input. IfOk (script_of 0 (lines_of input)) (λ s. RunTold s.config (first_part s.parts)))
told given = lines_told given lines_of
