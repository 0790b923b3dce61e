-- What routers of a region announced: their entries on keys.
use Rattle.std.specs.Prelude.{◌≡◌, ℕ, Bool, true, false, not, ◌&&◌, List, [], ◌∷◌, filter, fold, map, Option, None, cond, option_map, String}
use Rattle.std.specs.List.{list_any, filter_map}
use Rattle.std.specs.List.Sorted.{IsStrictlySortedBy}
use Rattle.std.specs.Option.{is_some, option_map_or}
use Rattle.std.specs.Map.{keys_of, lookup, remove_entry}
use Rattle.std.specs.BTreeMap.{insert_entry, is_at}
use Rattle.std.specs.BTreeSet.{BTreeSet, contains_text}
use Rattle.std.specs.Ordering.{nat_cmp}
use Rattle.std.specs.declared.alloc.Global.{Global}
use Rattle.zq_message.specs.declared.message.QueryableInfoType.{QueryableInfoType}
use Rattle.zq_message.specs.declared.message.Zid.{Zid}
use Rattle.zq_key.specs.Key.{is_key}
use Rattle.zq_index.specs.Texts.{text_cmp, at_text, has_text}
use Rattle.zq_index.specs.Holders.{IsOrderedBy, at_place_by, held_at, if_any, with_held, without_holding_by}
use Rattle.zq_strategy.specs.declared.network.Network.{Network}
use Rattle.zq_strategy.specs.Nets.{is_listed, is_zid}

-- the entries on a key: the routers' informations, by id
abbrev pub Routed : Type 0
Routed = List (ℕ × QueryableInfoType)

-- the entries on each key, by text
abbrev pub Entries : Type 0
Entries = List (List ℕ × Routed)

-- the entries on a key
abbrev pub entries_at : List ℕ → Entries → Routed
entries_at key all = held_at key all

-- the router's entry on a key
abbrev pub entry_of : ℕ → List ℕ → Entries → Option QueryableInfoType
entry_of router key all = at_place_by nat_cmp router (entries_at key all)

-- entries on a key, merged
abbrev pub routed_info : Routed → Option QueryableInfoType
routed_info es = fold with_held None es

-- with these entries on a key; a key without any goes
abbrev pub with_entries : List ℕ → Routed → Entries → Entries
with_entries key [] all = remove_entry (is_at (text_cmp key)) all
with_entries key (e ∷ es) all = insert_entry text_cmp all key (e ∷ es)

-- the entries on a key with this one of the router
abbrev pub routed_with : ℕ → QueryableInfoType → Routed → Routed
routed_with router i es = insert_entry nat_cmp es router i

-- the entries on a key without that of the router
abbrev pub routed_without : ℕ → Routed → Routed
routed_without router es = remove_entry (is_at (nat_cmp router)) es

-- the router's entry on the key is this one
abbrev pub with_entry : ℕ → List ℕ → QueryableInfoType → Entries → Entries
with_entry router key i all = with_entries key (routed_with router i (entries_at key all)) all

-- the router's entry on the key is gone
abbrev pub without_entry : ℕ → List ℕ → Entries → Entries
without_entry router key all = with_entries key (routed_without router (entries_at key all)) all

-- the router's entry on the key is gone, where keys are found by text
abbrev pub without_key : ℕ → Entries → List ℕ → Entries
without_key router all key = without_holding_by nat_cmp key router all

-- a router's entry on a key, with the key
abbrev pub keyed_entry : Zid → List ℕ × Routed → Option (List ℕ × QueryableInfoType)
keyed_entry router k = option_map (λ i. (k.0, i)) (at_place_by nat_cmp router.0 k.1)

-- a key with the router's entry on it
abbrev pub keyed : ℕ → Entries → List ℕ → Option (List ℕ × QueryableInfoType)
keyed router all key = option_map (λ i. (key, i)) (entry_of router key all)

-- all entries of a router, by text
abbrev pub standing : Zid → Entries → List (List ℕ × QueryableInfoType)
standing router all = filter_map (keyed_entry router) all

-- the entry's router passes the test
abbrev pub is_by : (Zid → Bool) → ℕ × QueryableInfoType → Bool
is_by test e = test (record { 0 = e.0 })

-- the key's entries of routers that pass the test, if there are any
abbrev pub staying_on : (Zid → Bool) → List ℕ × Routed → Option (List ℕ × Routed)
staying_on test k = option_map (λ es. (k.0, es)) (if_any (filter (is_by test) k.1))

-- the entries of routers that pass the test
abbrev pub staying : (Zid → Bool) → Entries → Entries
staying test all = filter_map (staying_on test) all

-- another id
abbrev pub is_another : Zid → Zid → Bool
is_another a b = not (is_zid a b)

-- the entries without those of a router
abbrev pub without_router : Entries → Zid → Entries
without_router all router = staying (is_another router) all

-- the entries without those of these routers
abbrev pub without_routers : List Zid → Entries → Entries
without_routers routers all = fold without_router all routers

-- the id is one of these
abbrev pub is_one_of : List Zid → Zid → Bool
is_one_of ids zid = list_any (is_zid zid) ids

-- the key has an entry of a router that passes the test
abbrev pub has_by : (Zid → Bool) → List ℕ × Routed → Bool
has_by test k = list_any (is_by test) k.1

-- the keys that have an entry of a router that passes the test, in order
abbrev pub keys_by : (Zid → Bool) → Entries → List (List ℕ)
keys_by test all = keys_of (filter (has_by test) all)

-- the network does not list the id
abbrev pub is_unlisted : Network → Zid → Bool
is_unlisted net zid = not (is_listed net zid)

-- ---- how entries are found by their routers

-- the keys of each router
abbrev pub RouterKeys : Type 0
RouterKeys = List (ℕ × BTreeSet (String Global))

-- the id of a number
abbrev pub zid_of : ℕ → Zid
zid_of n = record { 0 = n }

-- the routers that the network does not list
abbrev pub unlisted_of : Network → RouterKeys → List Zid
unlisted_of net routers = filter (is_unlisted net) (map zid_of (keys_of routers))

-- the key is one of the router's
abbrev pub has_key : ℕ → List ℕ → RouterKeys → Bool
has_key router key routers = option_map_or (λ keys. contains_text keys key) (lookup (is_at (nat_cmp router)) routers) false

-- the key is one of those of the router with the id
abbrev pub has_key_of : RouterKeys → List ℕ → Zid → Bool
has_key_of routers key id = has_key id.0 key routers

-- the keys of these routers, in order, each once
pub record AreKeysOf (routers : RouterKeys) (ids : List Zid) (keys : List (List ℕ)) : Type 0 where
  pub ordered : IsStrictlySortedBy text_cmp keys
  pub same : (key : List ℕ) → has_text key keys ≡ list_any (has_key_of routers key) ids

-- the router and the key are these
abbrev pub is_entry : ℕ → List ℕ → ℕ → List ℕ → Bool
is_entry router key z k = is_at (nat_cmp router) z && is_at (text_cmp key) k

-- the router has one key more
abbrev pub Gains : ℕ → List ℕ → RouterKeys → RouterKeys → Type 0
Gains router key old new = (z : ℕ) (k : List ℕ) → has_key z k new ≡ cond (is_entry router key z k) true (has_key z k old)

-- the router no longer has the key
abbrev pub Loses : ℕ → List ℕ → RouterKeys → RouterKeys → Type 0
Loses router key old new = (z : ℕ) (k : List ℕ) → has_key z k new ≡ cond (is_entry router key z k) false (has_key z k old)

-- the router no longer has any key
abbrev pub LosesAll : ℕ → RouterKeys → RouterKeys → Type 0
LosesAll router old new = (z : ℕ) (k : List ℕ) → has_key z k new ≡ cond (is_at (nat_cmp router) z) false (has_key z k old)

-- the routers have the same keys
abbrev pub AreAlike : RouterKeys → RouterKeys → Type 0
AreAlike old new = (z : ℕ) (k : List ℕ) → has_key z k new ≡ has_key z k old

-- the entries are in order, on keys, and each router has just the keys of its entries
pub record IsTied (all : Entries) (routers : RouterKeys) : Type 0 where
  pub ordered : IsOrderedBy nat_cmp all
  pub keys : (key : List ℕ) → is_some (at_text key all) ≡ true → is_key key ≡ true
  pub same : (router : ℕ) (key : List ℕ) → has_key router key routers ≡ is_some (entry_of router key all)
