-- Who declared the keys that meet one that is asked for, as the index of a region finds them.
use Rattle.std.specs.Prelude.{ℕ, List, Option, filter, option_map}
use Rattle.std.specs.List.{filter_map}
use Rattle.zq_message.specs.declared.message.QueryableInfoType.{QueryableInfoType}
use Rattle.zq_strategy.specs.Kept.{at_id}
use Rattle.zq_strategy.specs.State.{FaceState, HatState}
use Rattle.zq_strategy.specs.declared.types.Strategy.{Strategy}
use Rattle.zq_index.specs.Holders.{Holdings, Place}
use Rattle.zq_interests.specs.Interests.{Interests}
use Rattle.zq_hat.specs.declared.sources.Source.{Source}
use Rattle.zq_hat.specs.Joining.{Part}
use Rattle.zq_hat.specs.Listings.{Listing}
use Rattle.zq_hat.specs.Sourced.{face_source, is_asked, queriers_part, queryables_part}

-- the face of a place in the index, on the key
abbrev pub holder_listing : Strategy → List (ℕ × FaceState) → List ℕ → Place × QueryableInfoType → Option Listing
holder_listing k faces key h = option_map (λ f. (key, face_source k f)) (at_id h.0.0 faces)

-- the faces of the places that the index has on the key, once for each
abbrev pub holder_listings : Strategy → List (ℕ × FaceState) → List ℕ × Holdings → List Listing
holder_listings k faces e = filter_map (holder_listing k faces e.0) e.1

-- a part on those of its keys that meet the one that is asked for
abbrev pub asked_part : List ℕ → Part → Part
asked_part asked p = (p.0, filter (is_asked asked) p.1)

-- who declared those keys of a region, with the gateway behind them where it counts
abbrev pub queryables_part_on : List ℕ → Source → ℕ × HatState → Part
queryables_part_on asked own h = asked_part asked (queryables_part own h)

-- who asks for those keys of a region
abbrev pub queriers_part_on : List ℕ → Interests → ℕ × HatState → Part
queriers_part_on asked ints h = asked_part asked (queriers_part ints h)
