-- What an asker is seen as.
use Rattle.zq_egress.specs.declared.select.Asker.{Asker}
use Rattle.zq_machine.specs.Selecting.{AskerState}

-- its fields, without references
abbrev pub asker_of : Asker → AskerState
asker_of a = record { faces = a.faces.now.entries; tables = a.tables.now; own = a.own; face = a.face; opened = a.opened; source = a.source; context = a.context }
