-- What a name means before a caller picks it.
use Rattle.std.specs.Prelude.{[]}
use Rattle.atomic_table.specs.Seated.{TableId}
use Rattle.zq_machine.specs.Configs.{Settings, usual_best}

-- a configuration without regions
abbrev pub no_config : Settings
no_config = record { zid = record { 0 = 0 }; entries = []; timeout = 0; start = record { faces = 0; requests = 0; replies = 0; told = 0; request_ids = 0 }; best = usual_best }

-- holds of no table
abbrev pub no_holds : TableId
no_holds = record { words = 0; slots = 0; views_name = 0; atom = 0; block = 0; offset = 0; slot_names = [] }
