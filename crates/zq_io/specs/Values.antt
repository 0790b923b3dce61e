-- What the words of a line stand for, and how each value is written.
use Rattle.std.specs.Prelude.{ℕ, Bool, true, false, List, ◌∷◌, ◌++◌, Option, Some, None, if◌then◌else◌, codes}
use Rattle.std.specs.Str.{bytes_eq}
use Rattle.std.specs.Fmt.{decimal}
use Rattle.zq_message.specs.declared.message.FaceId.{FaceId}
use Rattle.zq_message.specs.declared.message.Zid.{Zid}
use Rattle.zq_message.specs.declared.message.WireExpr.{WireExpr}
use Rattle.zq_message.specs.declared.message.Mapping.{Mapping}
use Rattle.zq_message.specs.declared.message.Mapping.TheVariants as mapping
use Rattle.zq_message.specs.declared.message.Mode.{Mode}
use Rattle.zq_message.specs.declared.message.Mode.TheVariants as mode
use Rattle.zq_message.specs.declared.message.Bound.{Bound}
use Rattle.zq_message.specs.declared.message.Bound.TheVariants as bound
use Rattle.zq_message.specs.declared.message.Region.{Region}
use Rattle.zq_message.specs.declared.message.Region.TheVariants as region
use Rattle.zq_message.specs.declared.message.QueryTarget.{QueryTarget}
use Rattle.zq_message.specs.declared.message.QueryTarget.TheVariants as target
use Rattle.zq_io.specs.Words.{◌>>=◌, cut, number, text_of, payload_word, list_of, list_word}

-- the greatest number of 8 bits
abbrev pub most_8 : ℕ
most_8 = 255

-- the greatest number of 16 bits
abbrev pub most_16 : ℕ
most_16 = 65535

-- the greatest number of 32 bits
abbrev pub most_32 : ℕ
most_32 = 4294967295

-- the greatest number of 64 bits
abbrev pub most_64 : ℕ
most_64 = 18446744073709551615

-- the greatest number of 128 bits
abbrev pub most_128 : ℕ
most_128 = 340282366920938463463374607431768211455

-- one of two words
abbrev pub flag_of : List ℕ → List ℕ → List ℕ → Option Bool
flag_of first other word = if bytes_eq word first then Some true else (if bytes_eq word other then Some false else None)

-- the word of the two that says it
abbrev pub flag_word : List ℕ → List ℕ → Bool → List ℕ
flag_word first other true = first
flag_word first other false = other

-- the number of a face
abbrev pub face_of : List ℕ → Option FaceId
face_of word = number most_32 word >>= (λ n. Some (record { 0 = n }))

-- how the number of a face is written
abbrev pub face_word : FaceId → List ℕ
face_word face = decimal face.0

-- an id of 128 bits
abbrev pub zid_of : List ℕ → Option Zid
zid_of word = number most_128 word >>= (λ n. Some (record { 0 = n }))

-- how an id is written
abbrev pub zid_word : Zid → List ℕ
zid_word zid = decimal zid.0

-- a mode by its name
abbrev pub mode_of : List ℕ → Option Mode
mode_of word =
    if bytes_eq word (codes "router") then Some mode.Router
    else (if bytes_eq word (codes "peer") then Some mode.Peer
    else (if bytes_eq word (codes "client") then Some mode.Client
    else None))

-- the name of a mode
abbrev pub mode_word : Mode → List ℕ
mode_word mode.Router = codes "router"
mode_word mode.Peer = codes "peer"
mode_word mode.Client = codes "client"

-- a bound by its name
abbrev pub bound_of : List ℕ → Option Bound
bound_of word = if bytes_eq word (codes "north") then Some bound.North else (if bytes_eq word (codes "south") then Some bound.South else None)

-- the name of a bound
abbrev pub bound_word : Bound → List ℕ
bound_word bound.North = codes "north"
bound_word bound.South = codes "south"

-- a target by its name
abbrev pub target_of : List ℕ → Option QueryTarget
target_of word =
    if bytes_eq word (codes "all") then Some target.All
    else (if bytes_eq word (codes "complete") then Some target.AllComplete
    else (if bytes_eq word (codes "best") then Some target.BestMatching
    else None))

-- the name of a target
abbrev pub target_word : QueryTarget → List ℕ
target_word target.All = codes "all"
target_word target.AllComplete = codes "complete"
target_word target.BestMatching = codes "best"

-- what follows this name
abbrev pub behind : List ℕ → List ℕ × List ℕ → Option (List ℕ)
behind name parts = if bytes_eq parts.0 name then Some parts.1 else None

-- `south:NUM:MODE`
unfoldable pub south_of : List ℕ → Option Region
south_of word = do
  parts ← cut 58 word
  rest ← behind (codes "south") parts
  fields ← cut 58 rest
  id ← number most_32 fields.0
  strategy ← mode_of fields.1
  Some (region.South id strategy)

-- a region
abbrev pub region_of : List ℕ → Option Region
region_of word =
    if bytes_eq word (codes "north") then Some region.North
    else (if bytes_eq word (codes "local") then Some region.Local
    else south_of word)

-- how a region is written
abbrev pub region_word : Region → List ℕ
region_word region.North = codes "north"
region_word region.Local = codes "local"
region_word (region.South id strategy) = codes "south" ++ 58 ∷ decimal id ++ 58 ∷ mode_word strategy

-- s for the sender's ids, r for the receiver's
abbrev pub mapping_of : List ℕ → Option Mapping
mapping_of word = if bytes_eq word (codes "s") then Some mapping.Sender else (if bytes_eq word (codes "r") then Some mapping.Receiver else None)

-- how a mapping is written
abbrev pub mapping_word : Mapping → List ℕ
mapping_word mapping.Sender = codes "s"
mapping_word mapping.Receiver = codes "r"

-- `SCOPE:MAPPING:SUFFIX`
unfoldable pub wire_of : List ℕ → Option WireExpr
wire_of word = do
  parts ← cut 58 word
  scope ← number most_16 parts.0
  fields ← cut 58 parts.1
  mapping ← mapping_of fields.0
  suffix ← text_of fields.1
  Some (record { scope = scope; mapping = mapping; suffix = suffix })

-- how an expression is written
abbrev pub wire_word : WireExpr → List ℕ
wire_word wire = decimal wire.scope ++ 58 ∷ mapping_word wire.mapping ++ 58 ∷ payload_word wire.suffix

-- ids, joined by commas
abbrev pub zids_of : List ℕ → Option (List Zid)
zids_of word = list_of 44 zid_of word

-- how ids are written
abbrev pub zids_word : List Zid → List ℕ
zids_word zids = list_word 44 zid_word zids

-- the gateways of all other nodes
abbrev pub all_of : List ℕ → Option (Option (List Zid))
all_of word = if bytes_eq word (codes "none") then Some None else zids_of word >>= (λ zids. Some (Some zids))

-- how the gateways of a whole region are written
abbrev pub all_word : Option (List Zid) → List ℕ
all_word None = codes "none"
all_word (Some zids) = zids_word zids

-- a direction of a tree, or x for none
abbrev pub direction_of : List ℕ → Option (Option ℕ)
direction_of word = if bytes_eq word (codes "x") then Some None else number most_32 word >>= (λ n. Some (Some n))

-- how a direction is written
abbrev pub direction_word : Option ℕ → List ℕ
direction_word None = codes "x"
direction_word (Some n) = decimal n
