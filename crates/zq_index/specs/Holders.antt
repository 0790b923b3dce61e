-- Who declared each key, by the key's text.
use Rattle.std.specs.Prelude.{ℕ, Bool, not, false, true, ◌≡◌, List, [], ◌∷◌, Option, Some, None}
use Rattle.std.specs.List.{list_any}
use Rattle.std.specs.List.Sorted.{IsStrictlySortedBy}
use Rattle.std.specs.Option.{is_some, option_map_or}
use Rattle.std.specs.Map.{lookup, keys_of, remove_entry, set_value}
use Rattle.std.specs.BTreeMap.{insert_entry, is_at}
use Rattle.std.specs.declared.cmp.Ordering.{Ordering}
use Rattle.std.specs.declared.cmp.Ordering.TheVariants.{Equal}
use Rattle.std.specs.Ordering.{nat_cmp, bool_cmp, ordering_then}
use Rattle.zq_message.specs.declared.message.QueryableInfoType.{QueryableInfoType}
use Rattle.zq_index.specs.Infos.{joined}
use Rattle.zq_index.specs.Texts.{text_cmp, at_text, Lists, IsListed}

-- no two of what the order compares are equal but one with itself
abbrev pub TellsApart : {P : Type 0} → (P → P → Ordering) → Type 0
TellsApart {P} cmp = (x y : P) → cmp x y ≡ Equal → x ≡ y

-- the declarations on a key: their informations, by place
abbrev pub HeldBy : Type 0 → Type 0
HeldBy P = List (P × QueryableInfoType)

-- where an information goes in merging, and its place
abbrev pub RankBy : Type 0 → Type 0
RankBy P = (Bool × ℕ) × P

-- complete ones first, then the nearer; by place where they are alike
abbrev pub rank_cmp : {P : Type 0} → (P → P → Ordering) → RankBy P → RankBy P → Ordering
rank_cmp cmp x y = ordering_then (ordering_then (bool_cmp x.0.0 y.0.0) (nat_cmp x.0.1 y.0.1)) (cmp x.1 y.1)

-- the rank of the information at the place
abbrev pub rank_of : {P : Type 0} → P → QueryableInfoType → RankBy P
rank_of p i = ((not i.complete, i.distance), p)

-- the declarations on each key, by text
abbrev pub IndexBy : Type 0 → Type 0
IndexBy P = List (List ℕ × HeldBy P)

-- what stands at the place, by an order of places
abbrev pub at_place_by : {P X : Type 0} → (P → P → Ordering) → P → List (P × X) → Option X
at_place_by cmp p es = lookup (is_at (cmp p)) es

-- the rank is among them
abbrev pub has_rank : {P : Type 0} → (P → P → Ordering) → RankBy P → List (RankBy P) → Bool
has_rank cmp k ks = list_any (is_at (rank_cmp cmp k)) ks

-- it is the rank of what stands at its place
abbrev pub is_rank : {P : Type 0} → (P → P → Ordering) → RankBy P → Option QueryableInfoType → Bool
is_rank cmp k o = option_map_or (λ i. is_at (rank_cmp cmp k) (rank_of k.1 i)) o false

-- the places are in order, and the ranks are those of the informations
pub record IsRanked {P : Type 0} (cmp : P → P → Ordering) (es : HeldBy P) (ks : List (RankBy P)) : Type 0 where
  pub places : IsStrictlySortedBy cmp (keys_of es)
  pub ranks : (k : RankBy P) → has_rank cmp k ks ≡ is_rank cmp k (at_place_by cmp k.1 es)

-- the declarations on the key
abbrev pub held_at : {P : Type 0} → List ℕ → IndexBy P → HeldBy P
held_at key index = option_map_or (λ hs. hs) (at_text key index) []

-- with a declaration on the key, by an order of places
abbrev pub with_holding_by : {P : Type 0} → (P → P → Ordering) → List ℕ → P → QueryableInfoType → IndexBy P → IndexBy P
with_holding_by cmp key p i index =
    option_map_or (λ hs. set_value (is_at (text_cmp key)) index (insert_entry cmp hs p i)) (at_text key index) (insert_entry text_cmp index key ((p, i) ∷ []))

-- with these declarations on a key that is there; a key without any goes
abbrev pub with_holdings : {P : Type 0} → List ℕ → HeldBy P → IndexBy P → IndexBy P
with_holdings key [] index = remove_entry (is_at (text_cmp key)) index
with_holdings key (h ∷ hs) index = set_value (is_at (text_cmp key)) index (h ∷ hs)

-- without the declaration of the place on the key, by an order of places
abbrev pub without_holding_by : {P : Type 0} → (P → P → Ordering) → List ℕ → P → IndexBy P → IndexBy P
without_holding_by cmp key p index = option_map_or (λ hs. with_holdings key (remove_entry (is_at (cmp p)) hs) index) (at_text key index) index

-- the declarations, if there are any
abbrev pub if_any : {H : Type 0} → List H → Option (List H)
if_any [] = None
if_any (h ∷ hs) = Some (h ∷ hs)

-- one declaration's information is merged in
abbrev pub with_held : {P : Type 0} → Option QueryableInfoType → P × QueryableInfoType → Option QueryableInfoType
with_held m h = joined m (Some h.1)

-- each key of the index is in the lists, where it has to be
abbrev pub AreListed : {V : Type 0} → List (List ℕ × V) → Lists → Type 0
AreListed index lists = (t : List ℕ) → is_some (at_text t index) ≡ true → IsListed lists t

-- the texts are in order, and so are the places of each; each text has a declaration
pub record IsOrderedBy {P : Type 0} (cmp : P → P → Ordering) (index : IndexBy P) : Type 0 where
  pub texts : IsStrictlySortedBy text_cmp (keys_of index)
  pub places : (key : List ℕ) (hs : HeldBy P) → at_text key index ≡ Some hs → IsStrictlySortedBy cmp (keys_of hs)
  pub used : (key : List ℕ) → at_text key index ≡ Some [] → ⊥

-- ---- where the places are those of faces

-- a face's number and an id there
abbrev pub Place : Type 0
Place = ℕ × ℕ

-- places by face, then by id
abbrev pub place_cmp : Place → Place → Ordering
place_cmp x y = ordering_then (nat_cmp x.0 y.0) (nat_cmp x.1 y.1)

-- the declarations on a key, by face and id
abbrev pub Holdings : Type 0
Holdings = HeldBy Place

-- the declarations on each key, by text
abbrev pub Index : Type 0
Index = IndexBy Place

-- what stands at the place of a face
abbrev pub at_place : {X : Type 0} → Place → List (Place × X) → Option X
at_place p es = at_place_by place_cmp p es

-- with a face's declaration on the key
abbrev pub with_holding : List ℕ → Place → QueryableInfoType → Index → Index
with_holding key p i index = with_holding_by place_cmp key p i index

-- without a face's declaration on the key
abbrev pub without_holding : List ℕ → Place → Index → Index
without_holding key p index = without_holding_by place_cmp key p index
