-- What a region offers for the key of a request.
use Rattle.std.specs.Prelude.{ℕ, Bool, false, not, ◌&&◌, List, [], ◌∷◌, ◌++◌, Option, Some, None, if◌then◌else◌}
use Rattle.std.specs.List.{flat_map}
use Rattle.zq_message.specs.declared.message.QueryableInfoType.{QueryableInfoType}
use Rattle.zq_message.specs.declared.message.Region.{Region}
use Rattle.zq_key.specs.Key.{intersects}
use Rattle.zq_strategy.specs.declared.offer.QueryTargetQabl.{QueryTargetQabl}
use Rattle.zq_strategy.specs.declared.types.Strategy.{Strategy}
use Rattle.zq_strategy.specs.declared.types.Strategy.TheVariants as strategy
use Rattle.zq_strategy.specs.Kept.{info, declared_keys}
use Rattle.zq_strategy.specs.Marks.{is_finalized}
use Rattle.zq_strategy.specs.Routers.{router_offers}
use Rattle.zq_strategy.specs.OfferOrder.{offer_cmp, offer_of, sorted}
use Rattle.zq_strategy.specs.Regions.{is_north, is_south, same_region, strategy_at}
use Rattle.zq_strategy.specs.State.{FaceState, HatState}

-- one offer where there is information
abbrev pub offer_list : Region → List ℕ → List ℕ → ℕ → Option QueryableInfoType → List QueryTargetQabl
offer_list region q key number None = []
offer_list region q key number (Some i) = offer_of region q key number i ∷ []

-- what the face offers by its declarations on the key
abbrev pub offers_on : Region → List ℕ → List ℕ → ℕ × FaceState → List QueryTargetQabl
offers_on region q key f = offer_list region q key f.0 (info key f.1)

-- what the faces offer on the key, if it meets the request's
abbrev pub offers_for : Region → List (ℕ × FaceState) → List ℕ → List ℕ → List QueryTargetQabl
offers_for region faces q key = if intersects key q then flat_map (offers_on region q key) faces else []

-- one offer for each declared key that meets q and each face that declared it
abbrev pub declared_offers : Region → List (ℕ × FaceState) → List ℕ → List QueryTargetQabl
declared_offers region faces q = flat_map (offers_for region faces q) (declared_keys faces)

-- an offer without information: whether the face has a queryable on the key is not known
abbrev pub bare_offer : Region → List ℕ → ℕ → QueryTargetQabl
bare_offer region q number = record { face = record { 0 = number }; info = None; key = q; region = region; node = 0 }

-- the face may have a queryable on the key that it has not declared: in a client region, and in one of peers where its remote is south-bound, as long as the key is not marked; else as long as not all that it had to declare at its opening has come
abbrev pub may_have : Strategy → List ℕ → FaceState → Bool
may_have strategy.Broker q f = false
may_have strategy.Client q f = not (is_finalized q f)
may_have strategy.Peer q f = if is_south f.remote_bound then not (is_finalized q f) else not f.initial
may_have strategy.Router q f = false

-- the offer without information of a face that may have more
abbrev pub bare_on : Strategy → Region → List ℕ → ℕ × FaceState → List QueryTargetQabl
bare_on strategy region q f = if may_have strategy q f.1 then bare_offer region q f.0 ∷ [] else []

-- in North, for south-bound askers, the faces that may have more are offered, too
abbrev pub bare_offers : Strategy → Region → Region → List (ℕ × FaceState) → List ℕ → List QueryTargetQabl
bare_offers strategy region src faces q = if is_north region && not (is_north src) then flat_map (bare_on strategy region q) faces else []

-- what is offered to askers of other regions; a region of clients or peers offers nothing to its own
abbrev pub offers_beside : Strategy → Region → Region → List (ℕ × FaceState) → List ℕ → List QueryTargetQabl
offers_beside strategy region src faces q = if same_region src region then [] else declared_offers region faces q ++ bare_offers strategy region src faces q

-- what a strategy offers to an asker of region src; the node is for routers alone
abbrev pub offers_by : Strategy → HatState → Region → List ℕ → Option ℕ → List QueryTargetQabl
offers_by strategy.Broker s src q _ = declared_offers s.region s.faces q
offers_by strategy.Client s src q _ = offers_beside strategy.Client s.region src s.faces q
offers_by strategy.Peer s src q _ = offers_beside strategy.Peer s.region src s.faces q
offers_by strategy.Router s src q node = router_offers s src q node

-- the offers of the hat to an asker of region src for key q, in order
abbrev pub offers_of : HatState → Region → List ℕ → Option ℕ → List QueryTargetQabl
offers_of s src q node = sorted offer_cmp (offers_by (strategy_at s) s src q node)
