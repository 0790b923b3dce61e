-- What the exit of a namespace lets out of an expression.
use Rattle.std.specs.Prelude.{ℕ, Bool, true, false, ◌==◌, List, ◌++◌, Option, Some, None, length, if◌then◌else◌}
use Rattle.std.specs.BTreeMap.{is_at}
use Rattle.std.specs.Map.{lookup}
use Rattle.std.specs.Option.{option_map}
use Rattle.std.specs.Ordering.{nat_cmp}
use Rattle.zq_key.specs.Key.{is_key}
use Rattle.zq_key.specs.Space.{strip}
use Rattle.zq_message.specs.declared.message.WireExpr.{WireExpr}
use Rattle.zq_message.specs.declared.message.Mapping.{Mapping}
use Rattle.zq_message.specs.declared.message.Mapping.TheVariants.{Sender, Receiver}

-- the heads that are kept: texts of key declarations that did not leave, by their numbers
abbrev pub Heads : Type 0
Heads = List (ℕ × List ℕ)

-- the head of a number
abbrev pub head_at : ℕ → Heads → Option (List ℕ)
head_at id heads = lookup (is_at (nat_cmp id)) heads

-- whether a number is of those that the one who is handed the expression declared
abbrev pub is_receiver : Mapping → Bool
is_receiver Sender = false
is_receiver Receiver = true

-- the text in place of number and suffix
abbrev pub with_text : WireExpr → List ℕ → WireExpr
with_text w text = record w { scope = 0; suffix = text }

-- of a whole text what is left behind the namespace leaves, where it is a key and something is left
abbrev pub text_out : List ℕ → WireExpr → List ℕ → Option WireExpr
text_out n w text = if is_key text then option_map (with_text w) (strip n text) else None

-- a number without a head leaves as it is; a head and a suffix leave as their whole text, a head alone does not
abbrev pub headed_out : List ℕ → WireExpr → Option (List ℕ) → Option WireExpr
headed_out n w None = Some w
headed_out n w (Some head) = if length w.suffix == 0 then None else text_out n w (head ++ w.suffix)

-- what leaves in place of an expression; one with a number that its receiver declared leaves as it is, whatever the number stands for
unfoldable pub wire_out : List ℕ → Heads → WireExpr → Option WireExpr
wire_out n heads w =
    if w.scope == 0 then text_out n w w.suffix
    else (if is_receiver w.mapping then Some w else headed_out n w (head_at w.scope heads))

-- what leaves in place of an expression that need not be there
abbrev pub option_out : List ℕ → Heads → Option WireExpr → Option (Option WireExpr)
option_out n heads None = Some None
option_out n heads (Some w) = option_map (λ v. Some v) (wire_out n heads w)

-- the whole text that an expression says, where the exit knows it
abbrev pub full_text : Heads → WireExpr → Option (List ℕ)
full_text heads w =
    if w.scope == 0 then Some w.suffix
    else (if is_receiver w.mapping then None else option_map (λ head. head ++ w.suffix) (head_at w.scope heads))
