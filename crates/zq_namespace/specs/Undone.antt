-- What is kept of what gives a number or an id, what an end drops, and how what was kept is undone.
use Rattle.std.specs.Prelude.{ℕ, List, if◌then◌else◌}
use Rattle.std.specs.BTreeMap.{is_at}
use Rattle.std.specs.Map.{set_value}
use Rattle.std.specs.Option.{option_map}
use Rattle.std.specs.Ordering.{nat_cmp}
use Rattle.zq_message.specs.declared.message.DeclareBody.{DeclareBody}
use Rattle.zq_message.specs.declared.message.DeclareBody.TheVariants as declare
use Rattle.zq_message.specs.declared.message.Message.{Message}
use Rattle.zq_message.specs.declared.message.Message.TheVariants as message
use Rattle.zq_namespace.specs.declared.kept.Kept.{Kept}
use Rattle.zq_namespace.specs.declared.kept.Kept.TheVariants.{Newly, Already, InPlaceOf}
use Rattle.zq_namespace.specs.Denied.{MuxState}
use Rattle.zq_namespace.specs.Exit.{Heads}
use Rattle.zq_namespace.specs.Leaves.{ExitState, body_gives, body_kept, gives, kept, without_head, without_id}

-- of a declaration that gives a number or an id; others change nothing
abbrev pub body_given : ExitState → DeclareBody → ExitState
body_given s b = if body_gives b then body_kept s b else s

-- of a message that gives a number or an id; others change nothing
abbrev pub given : ExitState → Message → ExitState
given s m = if gives m then kept s m else s

-- what a message ends is kept no more; what gives a number or an id changes nothing
abbrev pub ended : ExitState → Message → ExitState
ended s m = if gives m then s else kept s m

-- a text as the head of a number that has one
abbrev pub head_set : ℕ → List ℕ → Heads → Heads
head_set id text heads = set_value (is_at (nat_cmp id)) heads text

-- the head of a number, undone by what was kept before
abbrev pub head_undone : Kept → ℕ → Heads → Heads
head_undone Newly id heads = without_head id heads
head_undone Already id heads = heads
head_undone (InPlaceOf text) id heads = head_set id text heads

-- an id, undone by what was kept before
abbrev pub id_undone : Kept → ℕ → List ℕ → List ℕ
id_undone Newly id ids = without_id id ids
id_undone Already id ids = ids
id_undone (InPlaceOf text) id ids = ids

-- what is kept of a declaration, undone by what was kept before
abbrev pub body_undone : Kept → DeclareBody → ExitState → ExitState
body_undone k (declare.DeclareKeyExpr id w) s = record s { heads = head_undone k id s.heads }
body_undone k (declare.UndeclareKeyExpr id) s = s
body_undone k (declare.DeclareQueryable id w info) s = record s { queryables = id_undone k id s.queryables }
body_undone k (declare.UndeclareQueryable id w) s = s
body_undone k declare.DeclareFinal s = s

-- what is kept of a message, undone by what was kept before
abbrev pub undone : Kept → Message → ExitState → ExitState
undone k (message.Interest i) s = record s { interests = id_undone k i.id s.interests }
undone k (message.InterestFinal id) s = s
undone k (message.Declare d) s = body_undone k d.body s
undone k (message.Request r) s = s
undone k (message.Response r) s = s
undone k (message.ResponseFinal f) s = s

-- ---- the same of a face's exit

-- of a message that gives a number or an id; others change nothing
abbrev pub mux_given : MuxState → Message → MuxState
mux_given s m = record s { space = option_map (λ e. given e m) s.space }

-- what a message ends is kept no more; what gives a number or an id changes nothing
abbrev pub mux_ended : MuxState → Message → MuxState
mux_ended s m = record s { space = option_map (λ e. ended e m) s.space }

-- what is kept of a message, undone by what was kept before
abbrev pub mux_undone : Kept → Message → MuxState → MuxState
mux_undone k m s = record s { space = option_map (undone k m) s.space }
