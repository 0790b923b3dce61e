-- The lanes of a picture: the faces that its rows name, as they were opened.
use Rattle.std.specs.Prelude.{ℕ, List, [], map, fold}
use Rattle.std.specs.BTreeMap.{insert_entry}
use Rattle.std.specs.Ordering.{nat_cmp}
use Rattle.zq_machine.specs.declared.call.Call.{Call}
use Rattle.zq_machine.specs.declared.call.Call.TheVariants as call
use Rattle.zq_machine.specs.declared.call.Opening.{Opening}
use Rattle.zq_machine.specs.declared.call.Outcome.{Outcome}
use Rattle.zq_machine.specs.declared.call.Outcome.TheVariants as outcome
use Rattle.zq_machine.specs.State.{at}
use Rattle.zq_show.specs.declared.entry.Entry.{Entry}
use Rattle.zq_show.specs.declared.lanes.About.{About}
use Rattle.zq_show.specs.declared.lanes.Lane.{Lane}
use Rattle.zq_show.specs.declared.row.Row.{Row}
use Rattle.zq_show.specs.Choice.{lanes_of}

-- how a face is opened
abbrev pub about_of : Opening → About
about_of o = record { region = o.region; mode = o.mode; zid = o.zid }

-- the faces, with one that a call opened
abbrev pub about_by : List (ℕ × About) → Outcome → Call → List (ℕ × About)
about_by abouts (outcome.Opened face) (call.Open o) = insert_entry nat_cmp abouts face.0 (about_of o)
about_by abouts _ _ = abouts

-- the faces, with the one that a call opened, if it opened one
abbrev pub with_about : List (ℕ × About) → Entry → List (ℕ × About)
with_about abouts entry = about_by abouts entry.step.outcome entry.call

-- the faces that calls opened, by number
abbrev pub abouts : List Entry → List (ℕ × About)
abouts entries = fold with_about [] entries

-- the lane of a face
abbrev pub lane_for : List (ℕ × About) → ℕ → Lane
lane_for abouts face = record { face = face; about = at face abouts }

-- the faces that rows name, each once, in the order in which they first come
abbrev pub lanes_shown : List Entry → List Row → List Lane
lanes_shown entries rows = map (lane_for (abouts entries)) (lanes_of rows)
