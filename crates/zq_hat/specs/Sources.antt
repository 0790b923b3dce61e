-- The ids of those who declared keys, or ask for them, by the modes under which they count.
use Rattle.std.specs.Prelude.{ℕ, ◌==◌, Bool, ◌&&◌, List, [], ◌∷◌, ◌++◌, length}
use Rattle.std.specs.Option.{option_map_or}
use Rattle.std.specs.BTreeMap.{insert_entry}
use Rattle.zq_message.specs.declared.message.Mode.{Mode}
use Rattle.zq_message.specs.declared.message.Mode.TheVariants as mode
use Rattle.zq_message.specs.declared.message.Zid.{Zid}
use Rattle.zq_index.specs.Texts.{at_text, text_cmp}
use Rattle.zq_hat.specs.declared.sources.Source.{Source}
use Rattle.zq_hat.specs.declared.sources.Sources.{Sources}

-- no ids
abbrev pub empty : Sources
empty = record { routers = []; peers = []; clients = [] }

-- whether there are none
abbrev pub is_empty : Sources → Bool
is_empty s = (length s.routers == 0) && (length s.peers == 0) && (length s.clients == 0)

-- the ids stand behind those of the mode
abbrev pub with_mode : Sources → List Zid → Mode → Sources
with_mode s zids mode.Router = record { routers = s.routers ++ zids; peers = s.peers; clients = s.clients }
with_mode s zids mode.Peer = record { routers = s.routers; peers = s.peers ++ zids; clients = s.clients }
with_mode s zids mode.Client = record { routers = s.routers; peers = s.peers; clients = s.clients ++ zids }

-- each list is followed by that of the other
abbrev pub extended : Sources → Sources → Sources
extended s more = record { routers = s.routers ++ more.routers; peers = s.peers ++ more.peers; clients = s.clients ++ more.clients }

-- one id stands behind those of its mode
abbrev pub with_source : Source → Sources → Sources
with_source o s = with_mode s (o.zid ∷ []) o.mode

-- the ids on each key, by text
abbrev pub SourceTexts : Type 0
SourceTexts = List (List ℕ × Sources)

-- the ids on a key
abbrev pub sources_at : List ℕ → SourceTexts → Sources
sources_at key all = option_map_or (λ (s : Sources). s) (at_text key all) empty

-- an id joins those on the key, behind them
abbrev pub source_put : List ℕ → Source → SourceTexts → SourceTexts
source_put key o all = insert_entry text_cmp all key (with_source o (sources_at key all))

-- ids join those on the key, behind them
abbrev pub sources_put : List ℕ → Sources → SourceTexts → SourceTexts
sources_put key more all = insert_entry text_cmp all key (extended (sources_at key all) more)
