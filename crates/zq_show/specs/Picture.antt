-- The picture of rows.
use Rattle.std.specs.Prelude.{ℕ, ◌+◌, ◌*◌, ◌%◌, ◌==◌, List, [], ◌∷◌, ◌++◌, Option, Some, None, codes, if◌then◌else◌, length, drop, position}
use Rattle.std.specs.Fmt.{decimal}
use Rattle.zq_io.specs.Values.{mode_word, region_word}
use Rattle.zq_show.specs.declared.escape.TheConstants.{LABEL}
use Rattle.zq_show.specs.declared.lanes.About.{About}
use Rattle.zq_show.specs.declared.lanes.Lane.{Lane}
use Rattle.zq_show.specs.declared.picture.TheConstants.{ID}
use Rattle.zq_show.specs.declared.row.Event.{Event}
use Rattle.zq_show.specs.declared.row.Event.TheVariants as event
use Rattle.zq_show.specs.declared.row.Kind.{Kind}
use Rattle.zq_show.specs.declared.row.Kind.TheVariants as kind
use Rattle.zq_show.specs.declared.row.Row.{Row}
use Rattle.zq_show.specs.Escape.{shown_short}
use Rattle.zq_show.specs.PageRows.{ends, is_bar}
use Rattle.zq_show.specs.Numbered.{numbered}

-- how far down a row stands
abbrev pub row_y : ℕ → ℕ
row_y row = 90 + 26 * row

-- how far to the right a lane stands; the gateway's is lane 0
abbrev pub lane_x : ℕ → ℕ
lane_x lane = 352 + 116 * lane

-- how far to the right what is stopped before a lane ends
abbrev pub stop_x : ℕ → ℕ
stop_x lane = 328 + 116 * lane

-- the lane at a place among the faces; the gateway's at none
abbrev pub lane_at : Option ℕ → ℕ
lane_at None = 0
lane_at (Some place) = place + 1

-- the place of a face among these
abbrev pub place_of : ℕ → List Lane → Option ℕ
place_of face lanes = position (λ lane. lane.face == face) lanes

-- the lane of a face; the gateway's where the face has none
abbrev pub lane_of : List Lane → Option ℕ → ℕ
lane_of lanes None = 0
lane_of lanes (Some face) = lane_at (place_of face lanes)

-- an attribute with a number
unfoldable pub attribute : List ℕ → ℕ → List ℕ
attribute name value = codes " " ++ name ++ codes "='" ++ decimal value ++ codes "'"

-- the beginning of a path at a place
unfoldable pub path_words : List ℕ → ℕ → ℕ → List ℕ
path_words class x y = codes "<path class='" ++ class ++ codes "' d='M" ++ decimal x ++ codes " " ++ decimal y

-- the name of a stroke
abbrev pub class_of : Kind → List ℕ
class_of kind.Request = codes "ask"
class_of kind.Reply = codes "reply"
class_of kind.Final = codes "final"
class_of kind.Declaration = codes "tell"
class_of kind.Time = codes "time"
class_of kind.Note = codes "note"

-- the line of an arrow, from the gateway's lane to another
unfoldable pub stroke_words : Kind → ℕ → ℕ → List ℕ
stroke_words k x y = path_words (class_of k) 352 y ++ codes " H" ++ decimal x ++ codes "'/>"

-- a cross
unfoldable pub cross_words : ℕ → ℕ → List ℕ
cross_words x y = path_words (codes "cross") x y ++ codes " m-6 -6 l12 12 m0 -12 l-12 12'/>"

-- the head of an arrow: at the face, at the gateway, or a cross there where it is refused
unfoldable pub head_words : Row → ℕ → ℕ → List ℕ
head_words row x y =
    if row.handed then path_words (codes "head") x y ++ codes " l-9 -4 v8 z'/>"
    else (if row.refused then cross_words 353 y
    else path_words (codes "head") 352 y ++ codes " l9 -4 v8 z'/>")

-- a dot on the gateway's lane
abbrev pub dot_words : ℕ → List ℕ
dot_words y = path_words (codes "dot") 352 y ++ codes " h0'/>"

-- what stands where a row is of no face: a rule across for a moment, else a dot
unfoldable pub mark_words : Kind → ℕ → ℕ → List ℕ
mark_words kind.Time width y = stroke_words kind.Time width y
mark_words kind.Request width y = dot_words y
mark_words kind.Reply width y = dot_words y
mark_words kind.Final width y = dot_words y
mark_words kind.Declaration width y = dot_words y
mark_words kind.Note width y = dot_words y

-- what stands where a row is of no face: a cross where it is refused, else its mark
unfoldable pub faceless_words : ℕ → Row → ℕ → List ℕ
faceless_words width row y = if row.refused then cross_words 353 y else mark_words row.kind width y

-- the arrow of what is stopped before it reaches its face
unfoldable pub stop_words : Kind → ℕ → ℕ → List ℕ
stop_words k x y = stroke_words k x y ++ cross_words x y

-- the arrow of a row at a lane
abbrev pub arrow_at : ℕ → Row → ℕ → List ℕ
arrow_at lane row y = if row.stopped then stop_words row.kind (stop_x lane) y else stroke_words row.kind (lane_x lane) y ++ head_words row (lane_x lane) y

-- the arrow of a row at a face, or its mark at none
abbrev pub arrow_by : Option ℕ → List Lane → ℕ → Row → ℕ → List ℕ
arrow_by None lanes width row y = faceless_words width row y
arrow_by (Some face) lanes width row y = arrow_at (lane_of lanes (Some face)) row y

-- the arrow of a row, or its mark
unfoldable pub arrow_words : List Lane → ℕ → Row → ℕ → List ℕ
arrow_words lanes width row y = arrow_by row.face lanes width row y

-- what stands beside the arrow of a row
unfoldable pub label_words : Row → ℕ → List ℕ
label_words row y =
    codes "<text" ++ attribute (codes "x") 44 ++ attribute (codes "y") y ++ codes " dy='4'>" ++ shown_short LABEL row.label ++ codes "</text>"

-- the number of a row's line
unfoldable pub number_words : ℕ → ℕ → List ℕ
number_words line y = codes "<text class='number'" ++ attribute (codes "x") 4 ++ attribute (codes "y") y ++ codes " dy='4'>" ++ decimal line ++ codes "</text>"

-- the number of a call's row, and its name; of a message nothing
unfoldable pub named_words : Row → ℕ → List ℕ
named_words row y = if row.handed then codes "'>" else codes "' id='p" ++ decimal row.line ++ codes "'>" ++ number_words row.line y

-- the beginning of a row: its link to the line, and its name
unfoldable pub group_words : Row → ℕ → List ℕ
group_words row y = codes "<a href='#l" ++ decimal row.line ++ named_words row y

-- a row
unfoldable pub row_words : List Lane → ℕ → Row → ℕ → List ℕ
row_words lanes width row y = group_words row y ++ arrow_words lanes width row y ++ label_words row y ++ codes "</a>" ++ 10 ∷ []

-- the rows, from above
abbrev pub rows_words : List Lane → ℕ → List Row → List ℕ
rows_words lanes width rows = numbered (λ i row. row_words lanes width row (row_y i)) 0 rows

-- how many rows it is to the place of the first that ends it; past the last where none does
abbrev pub span_at : Option ℕ → ℕ → ℕ
span_at None left = left + 1
span_at (Some place) left = place + 1

-- the place of the first row that ends what begins with an event
abbrev pub end_of : Event → List Row → Option ℕ
end_of event later = position (λ row. ends event row.event) later

-- how many rows a bar is long: up to the first that ends it, or past the last
abbrev pub span : Event → List Row → ℕ
span event later = span_at (end_of event later) (length later)

-- the name of a bar: of a request that is pending, or of a reply in flight
abbrev pub bar_class : Event → List ℕ
bar_class (event.InFlight reply) = codes "flight"
bar_class _ = codes "pending"

-- how wide and how high something is
unfoldable pub size_words : ℕ → ℕ → List ℕ
size_words width height = attribute (codes "width") width ++ attribute (codes "height") height

-- the class of a bar
unfoldable pub rect_class : Event → List ℕ
rect_class event = codes "<rect class='" ++ bar_class event ++ codes "'"

-- a bar at a place, of a height
unfoldable pub rect_words : Event → ℕ → ℕ → ℕ → List ℕ
rect_words event x y height = rect_class event ++ attribute (codes "x") x ++ attribute (codes "y") y ++ size_words 5 height ++ codes "/>" ++ 10 ∷ []

-- where the bar of a row begins, from the left; bars that lie side by side are moved apart
abbrev pub bar_x : List Lane → ℕ → Row → ℕ
bar_x lanes number row = lane_x (lane_of lanes row.face) + 6 * (number % 8)

-- the bar that begins with a row, where one does
unfoldable pub bar_words : List Lane → ℕ → Row → List Row → List ℕ
bar_words lanes number row later = if is_bar row.event then rect_words row.event (bar_x lanes number row) (row_y number) (26 * span row.event later) else []

-- the bars of the rows
abbrev pub bars_words : List Lane → List Row → List ℕ
bars_words lanes rows = numbered (λ i row. bar_words lanes i row (drop (i + 1) rows)) 0 rows

-- the beginning of a line of a lane's name
unfoldable pub name_words : ℕ → ℕ → List ℕ
name_words x y = codes "<text class='name'" ++ attribute (codes "x") x ++ attribute (codes "y") y ++ codes ">"

-- the line of a lane, down to the last row
unfoldable pub lane_words : ℕ → ℕ → List ℕ
lane_words x height = path_words (codes "lane") x 66 ++ codes " V" ++ decimal height ++ codes "'/>" ++ 10 ∷ []

-- the region, the mode and the id of a face, each on a line of its own
unfoldable pub opened_words : ℕ → About → List ℕ
opened_words x a =
    name_words x 30 ++ region_word a.region ++ codes "</text>" ++ name_words x 44 ++ mode_word a.mode ++ codes "</text>"
    ++ name_words x 58 ++ shown_short ID (decimal a.zid.0) ++ codes "</text>"

-- how a face was opened, if it was
abbrev pub about_words : ℕ → Option About → List ℕ
about_words x None = []
about_words x (Some a) = opened_words x a

-- the lane of a face, with its name
unfoldable pub face_words : ℕ → ℕ → Lane → List ℕ
face_words height number lane =
    name_words (lane_x (number + 1)) 16 ++ codes "face " ++ decimal lane.face ++ codes "</text>" ++ about_words (lane_x (number + 1)) lane.about
    ++ lane_words (lane_x (number + 1)) height

-- the lanes of the gateway and of the faces
abbrev pub lanes_words : ℕ → List Lane → List ℕ
lanes_words height lanes = name_words 352 16 ++ codes "gateway</text>" ++ lane_words 352 height ++ numbered (face_words height) 0 lanes

-- how large the view of a picture is
unfoldable pub view_words : ℕ → ℕ → List ℕ
view_words width height = codes " viewBox='0 0 " ++ decimal width ++ codes " " ++ decimal height ++ codes "'"

-- the beginning of a picture of a size
unfoldable pub open_words : ℕ → ℕ → List ℕ
open_words width height =
    codes "<svg xmlns='http://www.w3.org/2000/svg'" ++ view_words width height ++ size_words width height
    ++ codes " role='img' aria-label='Arrows between the faces and the gateway'>"

-- the picture of rows, with a lane for each of these faces
unfoldable pub picture_words : List Lane → List Row → List ℕ
picture_words lanes rows =
    let width = 416 + 116 * length lanes in
    let height = 90 + 26 * length rows in
    open_words width height ++ lanes_words height lanes ++ bars_words lanes rows ++ rows_words lanes width rows ++ codes "</svg>" ++ 10 ∷ []
