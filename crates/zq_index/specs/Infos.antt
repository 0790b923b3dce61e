-- Informations on queryables, and their merge.
use Rattle.std.specs.Prelude.{min, Bool, ◌==◌, Option, Some, None, if◌then◌else◌, cond, true, false, ◌&&◌}
use Rattle.zq_message.specs.declared.message.QueryableInfoType.{QueryableInfoType}

-- whether both or neither hold
abbrev pub same_bool : Bool → Bool → Bool
same_bool a b = cond a b (cond b false true)

-- a complete information goes before an incomplete one; of equal completeness the smaller distance stands
abbrev pub merge : QueryableInfoType → QueryableInfoType → QueryableInfoType
merge a b =
    if same_bool a.complete b.complete then record { complete = a.complete; distance = min a.distance b.distance }
    else (if a.complete then a else b)

-- the merge of what there is
abbrev pub joined : Option QueryableInfoType → Option QueryableInfoType → Option QueryableInfoType
joined None b = b
joined (Some a) None = Some a
joined (Some a) (Some b) = Some (merge a b)

-- whether two informations are the same
abbrev pub same_info : QueryableInfoType → QueryableInfoType → Bool
same_info a b = same_bool a.complete b.complete && (a.distance == b.distance)
