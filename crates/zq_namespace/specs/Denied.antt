-- A face's exit: its deny list, and then its namespace.
use Rattle.std.specs.Prelude.{◌≡◌, ℕ, Bool, true, false, List, [], ◌∷◌, Option, Some, None, if◌then◌else◌}
use Rattle.std.specs.List.{list_any}
use Rattle.std.specs.Option.{option_map}
use Rattle.zq_key.specs.Key.{includes, is_key, is_plain}
use Rattle.zq_message.specs.declared.message.Message.{Message}
use Rattle.zq_message.specs.declared.message.Message.TheVariants as message
use Rattle.zq_namespace.specs.Leaves.{ExitState, new_exit, leaves, kept}

-- whether a key is denied: a key of the list includes it
abbrev pub is_denied : List (List ℕ) → List ℕ → Bool
is_denied denied key = list_any (λ k. includes k key) denied

-- whether a message is a request on a key that is denied
abbrev pub denies : List (List ℕ) → List ℕ → Message → Bool
denies denied key (message.Request r) = is_denied denied key
denies denied key (message.Interest i) = false
denies denied key (message.InterestFinal id) = false
denies denied key (message.Declare d) = false
denies denied key (message.Response r) = false
denies denied key (message.ResponseFinal f) = false

-- an exit: its namespace, if it has one, and its deny list
pub record MuxState : Type 0 where
  pub space : Option ExitState
  pub exit : List (List ℕ)

-- nothing is kept
abbrev pub new_mux : Option (List ℕ) → List (List ℕ) → MuxState
new_mux n exit = record { space = option_map new_exit n; exit = exit }

-- what leaves a namespace, and all where there is none
abbrev pub space_leaves : Option ExitState → Message → Option Message
space_leaves None m = Some m
space_leaves (Some s) m = leaves s m

-- what leaves in place of a message, where the key is the whole text that a request is on
abbrev pub mux_leaves : MuxState → List ℕ → Message → Option Message
mux_leaves s key m = if denies s.exit key m then None else space_leaves s.space m

-- what is kept of a message that did not leave
abbrev pub mux_kept : MuxState → Message → MuxState
mux_kept s m = record s { space = option_map (λ e. kept e m) s.space }

-- what leaves changes nothing
abbrev pub after_mux_out : {X : Type 0} → Option X → MuxState → MuxState → MuxState
after_mux_out (Some x) s t = s
after_mux_out None s t = t

-- the exit after a message
abbrev pub after_mux : MuxState → List ℕ → Message → MuxState
after_mux s key m = after_mux_out (mux_leaves s key m) s (mux_kept s m)

-- a request comes with its whole text, which is a key
abbrev pub HasKey : List ℕ → Message → Type 0
HasKey key (message.Request r) = is_key key ≡ true
HasKey key (message.Interest i) = Unit {0}
HasKey key (message.InterestFinal id) = Unit {0}
HasKey key (message.Declare d) = Unit {0}
HasKey key (message.Response r) = Unit {0}
HasKey key (message.ResponseFinal f) = Unit {0}

-- a namespace, if there is one, is plain
abbrev pub IsPlainSpace : Option (List ℕ) → Type 0
IsPlainSpace None = Unit {0}
IsPlainSpace (Some n) = is_plain n ≡ true

-- whether an exit has neither a namespace nor a denied key
abbrev pub is_open : Option (List ℕ) → List (List ℕ) → Bool
is_open None [] = true
is_open None (k ∷ exit) = false
is_open (Some n) exit = false
