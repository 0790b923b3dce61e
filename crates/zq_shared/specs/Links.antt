-- What links take.
use Rattle.std.specs.Prelude.{◌≡◌, Bool, List, [], ◌∷◌, ◌++◌, OnErr, OnOk, Option, Result, Some, None}
use Rattle.std.specs.List.{filter}
use Rattle.std.specs.Option.{is_some}
use Rattle.zq_machine.specs.Handing.{Handed}

-- the messages that were taken, where the link tells them, and these behind them
abbrev pub with_taken : Option (List Handed) → List Handed → Option (List Handed)
with_taken None hs = None
with_taken (Some taken) hs = Some (taken ++ hs)

-- a message that is taken stands behind the others; a fault takes nothing
pub record Takes {T E : Type 0} (before now : Option (List Handed)) (h : Handed) (result : Result T E) : Type 0 where
  pub taken : OnOk result (now ≡ with_taken before (h ∷ []))
  pub same : OnErr result (now ≡ before)

-- something of the message leaves
abbrev pub leaves : Handed → Bool
leaves h = is_some h.leaves

-- the messages of which something leaves
abbrev pub leaving : List Handed → List Handed
leaving hs = filter leaves hs
