-- What contracts see of the state that callers with passes share, of a pass, and of a list of passes.
use Rattle.std.specs.Prelude.{ℕ, List, [], ◌∷◌, ◌++◌}
use Rattle.std.proofs.Common.{zero, suc}
use Rattle.atomic_table.specs.Seated.{TableId}
use Rattle.zq_machine.specs.Configs.{Settings, usual_best}
use Rattle.zq_shared.specs.Ties.{Sharing}
use Rattle.zq_pass.specs.Entries.{Entry}

-- of which state something is: of which holds, and of which journal
pub record PassId : Type 0 where
  pub holds : TableId
  pub journal : TableId

-- the shared state: the gateway beside its calls with the slots, of which journal it is, and the journal's list
pub record Journaled : Type 0 where
  pub sharing : Sharing
  pub journal : TableId
  pub list : List Entry

abbrev pub home_of : Journaled → PassId
home_of s = record { holds = s.sharing.slots.keeper.home; journal = s.journal }

-- a pass: of which state it is, its number, the slots that it holds, how often it released a slot last, and what it has seen
pub record Passing : Type 0 where
  pub home : PassId
  pub number : ℕ
  pub held : List ℕ
  pub ended : ℕ
  pub seen : List Entry

-- a pass that made no call yet
abbrev pub unused_pass : PassId → ℕ → Passing
unused_pass home number = record { home = home; number = number; held = []; ended = 0; seen = [] }

-- that many passes, numbered from 0
abbrev pub unused_passes : PassId → ℕ → List Passing
unused_passes home zero = []
unused_passes home (suc n) = unused_passes home n ++ unused_pass home n ∷ []

-- passes of one state, and how many there are in all
pub record Passes : Type 0 where
  pub home : PassId
  pub passes : List Passing
  pub most : ℕ

-- what a name means before a caller picks it
abbrev pub no_config : Settings
no_config = record { zid = record { 0 = 0 }; entries = []; timeout = 0; start = record { faces = 0; requests = 0; replies = 0; told = 0; request_ids = 0 }; best = usual_best }

abbrev pub no_table : TableId
no_table = record { words = 0; slots = 0; views_name = 0; atom = 0; block = 0; offset = 0; slot_names = [] }

abbrev pub no_home : PassId
no_home = record { holds = no_table; journal = no_table }
