-- What a contract sees of a `RouteTable`.
use Rattle.std.specs.Prelude.{◌≡◌, ℕ, ◌≤◌, ◌&&◌, Bool, false, true, List, [], ◌∷◌, Option, None, Some, length, slice_index, if◌then◌else◌}
use Rattle.std.specs.Map.{lookup}
use Rattle.std.specs.BTreeMap.{is_at}
use Rattle.std.specs.Ordering.{nat_cmp}
use Rattle.zq_message.specs.declared.message.Region.{Region}
use Rattle.zq_message.specs.Region.{region_index}
use Rattle.zq_message.specs.RegionMap.{value_at}
use Rattle.zq_route.specs.Routes.{Origin, origin_cmp, origin_of, route_at}
use Rattle.zq_index.specs.Texts.{text_cmp, at_text}
use Rattle.zq_tables.specs.Naming.{NamingState, has_context}

-- routes under the version that they were stored under
abbrev pub Under : Type 0 → Type 0
Under T = ℕ × List (Origin × T)

-- the routes of a text, by the index of the region that they lead to
abbrev pub OfText : Type 0 → Type 0
OfText T = List (ℕ × Under T)

-- a version for each region's index, and the routes of each text
abbrev pub Table : Type 0 → Type 0
Table T = List ℕ × List (List ℕ × OfText T)

module _ {T : Type 0} where
  -- the version of a region
  abbrev pub version_of : Region → Table T → ℕ
  version_of dst t = slice_index t.0 (region_index dst)

  -- the routes to the region of an index, of a text that may have none
  abbrev pub routes_at : ℕ → Option (OfText T) → Option (Under T)
  routes_at i None = None
  routes_at i (Some rs) = lookup (is_at (nat_cmp i)) rs

  -- the routes to a region
  abbrev pub routes_to : Region → Option (OfText T) → Option (Under T)
  routes_to dst rs = routes_at (region_index dst) rs

  -- a table of one text
  abbrev pub one_text : List ℕ → List ℕ → OfText T → Table T
  one_text versions key rs = (versions, (key, rs) ∷ [])

  -- the route to an origin of routes that may be none
  abbrev pub route_in : ℕ → Region → ℕ → Option (Under T) → Option T
  route_in v src node None = None
  route_in v src node (Some us) = route_at v src node us

  -- the route of a text to a region, for what a region's node asks
  abbrev pub route_of : Region → List ℕ → Region → ℕ → Table T → Option T
  route_of dst key src node t = route_in (version_of dst t) src node (routes_to dst (at_text key t.1))

  -- no routes were stored under a later version than their region's
  abbrev pub IsBelow : Table T → Type 0
  IsBelow t = (key : List ℕ) (rs : OfText T) (dst : Region) (us : Under T) → at_text key t.1 ≡ Some rs → value_at rs dst ≡ Some us → us.0 ≤ version_of dst t

  -- a version for each index, and no routes are of a later one
  pub record IsTable (t : Table T) : Type 0 where
    pub all : length t.0 ≡ 770
    pub below : IsBelow t

-- both places are one
abbrev pub same_place : Region → List ℕ → Region → ℕ → Region → List ℕ → Region → ℕ → Bool
same_place dst key src node r k s n = is_at (nat_cmp (region_index dst)) (region_index r) && is_at (text_cmp key) k && is_at (origin_cmp (origin_of src node)) (origin_of s n)

module _ {T : Type 0} where
  -- the table has one route more, or another one there
  abbrev pub Stores : Table T → Table T → Region → List ℕ → Region → ℕ → T → Type 0
  Stores old new dst key src node route = (r : Region) (k : List ℕ) (s : Region) (n : ℕ) → route_of r k s n new ≡ (if same_place dst key src node r k s n then Some route else route_of r k s n old)

  -- each route was there before
  abbrev pub Fewer : Table T → Table T → Type 0
  Fewer old new = (r : Region) (k : List ℕ) (s : Region) (n : ℕ) (route : T) → route_of r k s n new ≡ Some route → route_of r k s n old ≡ Some route

  -- each route to another region is there as before
  abbrev pub Others : Table T → Table T → Region → Type 0
  Others old new dst = (r : Region) (k : List ℕ) (s : Region) (n : ℕ) → is_at (nat_cmp (region_index dst)) (region_index r) ≡ false → route_of r k s n new ≡ route_of r k s n old

  -- each route of another text is there as before
  abbrev pub OtherTexts : Table T → Table T → List ℕ → Type 0
  OtherTexts old new key = (r : Region) (k : List ℕ) (s : Region) (n : ℕ) → is_at (text_cmp key) k ≡ false → route_of r k s n new ≡ route_of r k s n old

  -- the texts whose node the names have stay as they are, and the others go
  abbrev pub OnlyNamed : Table T → Table T → NamingState → Type 0
  OnlyNamed old new names = (k : List ℕ) → at_text k new.1 ≡ (if has_context k names then at_text k old.1 else None)

  -- so it is of their routes
  abbrev pub NamedRoutes : Table T → Table T → NamingState → Type 0
  NamedRoutes old new names = (r : Region) (k : List ℕ) (s : Region) (n : ℕ) → route_of r k s n new ≡ (if has_context k names then route_of r k s n old else None)

  -- the routes of texts whose node the names have are there as before
  abbrev pub NamedStay : Table T → Table T → NamingState → Type 0
  NamedStay old new names = (r : Region) (k : List ℕ) (s : Region) (n : ℕ) → has_context k names ≡ true → route_of r k s n new ≡ route_of r k s n old
