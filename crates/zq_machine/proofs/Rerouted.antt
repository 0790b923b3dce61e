-- The keys of routers' entries among what stands for keys follow the hats: one comes with the first entry on it, and goes with the last.
use Rattle.std.proofs.Common.{◌≡◌, ◌∙◌, sym, ap, subst, ℕ, true, false, List, [], ◌∷◌, fold, Some}
use Rattle.std.specs.Prelude.{◌&&◌, not}
use Rattle.std.specs.Map.{keys_of}
use Rattle.std.specs.BTreeMap.{is_at}
use Rattle.std.specs.BTreeSet.{insert_key}
use Rattle.std.specs.Ordering.{nat_cmp}
use Rattle.std.specs.Set.{remove_key}
use Rattle.zq_message.specs.declared.message.QueryableInfoType.{QueryableInfoType}
use Rattle.zq_message.specs.declared.message.Region.{Region}
use Rattle.zq_message.specs.Region.{region_index}
use Rattle.zq_index.specs.Texts.{has_text, text_cmp}
use Rattle.zq_strategy.specs.declared.network.Network.{Network}
use Rattle.zq_strategy.specs.declared.types.Strategy.{Strategy}
use Rattle.zq_strategy.specs.declared.types.Strategy.TheVariants as strategy
use Rattle.zq_strategy.specs.Entries.{staying}
use Rattle.zq_strategy.specs.Nets.{is_listed}
use Rattle.zq_strategy.specs.Regions.{in_routers, strategy_at}
use Rattle.zq_strategy.specs.Routers.{announced, networked, retracted}
use Rattle.zq_strategy.specs.State.{HatState}
use Rattle.zq_tables.specs.Naming.{EntryRows, NamingState, has_entry_key, row_at, with_entry_key, with_row, with_rows, without_entry_key}
use Rattle.zq_machine.specs.Configs.{Settings}
use Rattle.zq_machine.specs.State.{State, at, change_hat, entry_rows, has_entries, hat_at, put_hat}
use Rattle.zq_machine.proofs.Agreed.{InOrder}
use Rattle.zq_machine.proofs.Changing.{region_there}
use Rattle.zq_machine.proofs.EntryKeys.{has_is, keys_gone, keys_put, keys_stay, keys_taken, staying_fewer, without_all}
use Rattle.zq_machine.proofs.EntryRows.{AreInOrder, row_is, row_same, row_sorted, row_twice, row_used, row_with, rows_put, rows_sorted, rows_used}
use Rattle.zq_machine.proofs.Worded.{Any, IsWorded, each_found, networked_worded}

-- ---- keys of one region that go, one after the other
module _ (region : ℕ) where
  pub rows_without : (keys : List (List ℕ)) (names : NamingState) → AreInOrder names.rows → (at region names.rows ≡ Some [] → ⊥)
      → fold (λ n key. without_entry_key region key n) names keys ≡ with_rows (with_row region (without_all (row_at region names.rows) keys) names.rows) names
  rows_without [] names sorted used = ap (λ rows. with_rows rows names) (sym (row_same region names.rows sorted used))
  rows_without (key ∷ keys) names sorted used =
      let left : List (List ℕ) = remove_key (is_at (text_cmp key)) (row_at region names.rows) in
      rows_without keys (without_entry_key region key names) (row_sorted region names.rows sorted left) (row_used region names.rows sorted left)
      ∙ ap (λ l. with_rows (with_row region (without_all l keys) (with_row region left names.rows)) names) (row_with region names.rows sorted left)
      ∙ ap (λ rows. with_rows rows names) (row_twice region names.rows sorted left (without_all left keys))

-- ---- `hats` are those of an accepted call that changes one hat, of region r; with_rows (entry_rows hats) s.names is then `rerouted` of it
module _ (config : Settings) (s : State) (i : InOrder config s) (r : Region) (h : HatState) (there : hat_at r s.core.hats ≡ Some h) where
  abbrev region : ℕ
  region = region_index r

  home : at region s.core.hats ≡ Some h
  home = (region_there r s.core.hats h there).1

  worded : IsWorded h
  worded = each_found Any IsWorded (is_at (nat_cmp region)) s.core.hats h home i.worded

  -- the keys of entries that hold nodes are those of the hat
  own_row : row_at region s.names.rows ≡ keys_of h.entries
  own_row = ap (row_at region) i.routed ∙ row_is s.core.hats i.hats.sorted region h home

  pub has_entry_is : (key : List ℕ) → has_entry_key region key s.names ≡ has_entries key h
  has_entry_is key = ap (has_text key) own_row ∙ sym (has_is key h.entries)

  module _ (hats : List (ℕ × HatState)) where
    put_row : (f : HatState → HatState) → hats ≡ change_hat r f s.core.hats → with_rows (entry_rows hats) s.names ≡ with_rows (with_row region (keys_of (f h).entries) s.names.rows) s.names
    put_row f is =
        ap (λ rows. with_rows rows s.names)
        (ap entry_rows is
        ∙ ap (λ o. entry_rows (put_hat r f s.core.hats o)) there
        ∙ rows_put region s.core.hats h (f h) i.hats.sorted home
        ∙ ap (with_row region (keys_of (f h).entries)) (sym i.routed))

    in_order : AreInOrder s.names.rows
    in_order = subst (λ (l : EntryRows). AreInOrder l) (sym i.routed) (rows_sorted s.core.hats i.hats.sorted)

    used : at region s.names.rows ≡ Some [] → ⊥
    used e = rows_used s.core.hats i.hats.sorted region (ap (at region) (sym i.routed) ∙ e)

    -- a router has an entry on the key
    pub announced_key : (router : ℕ) (key : List ℕ) (info : QueryableInfoType) → hats ≡ change_hat r (announced router key info) s.core.hats
        → with_rows (entry_rows hats) s.names ≡ with_entry_key region key s.names
    announced_key router key info is =
        put_row (announced router key info) is
        ∙ ap (λ ks. with_rows (with_row region ks s.names.rows) s.names) (keys_put router key h.entries worded.ordered info ∙ ap (λ ks. insert_key text_cmp ks key) (sym own_row))

    -- a router has none on it any more, but another has
    pub retracted_stays : (router : ℕ) (key : List ℕ) → hats ≡ change_hat r (retracted router key) s.core.hats
        → has_entries key (retracted router key h) ≡ true → with_rows (entry_rows hats) s.names ≡ s.names
    retracted_stays router key is more =
        put_row (retracted router key) is
        ∙ ap (λ ks. with_rows (with_row region ks s.names.rows) s.names) (keys_stay router key h.entries worded.ordered more ∙ sym own_row)
        ∙ ap (λ rows. with_rows rows s.names) (row_same region s.names.rows in_order used)

    -- and none has
    pub retracted_goes : (router : ℕ) (key : List ℕ) → hats ≡ change_hat r (retracted router key) s.core.hats
        → has_entries key (retracted router key h) ≡ false → with_rows (entry_rows hats) s.names ≡ without_entry_key region key s.names
    retracted_goes router key is none =
        put_row (retracted router key) is
        ∙ ap (λ ks. with_rows (with_row region ks s.names.rows) s.names) (keys_taken router key h.entries worded.ordered none ∙ ap (remove_key (is_at (text_cmp key))) (sym own_row))

    fewer : (net : Network) (key : List ℕ) → has_entries key (networked net h) ≡ true → has_entries key h ≡ true
    fewer net key = by (strategy_at h)
      where
        by : (k : Strategy) → has_entries key (in_routers k (record h { network = net; entries = staying (is_listed net) h.entries }) h) ≡ true → has_entries key h ≡ true
        by strategy.Broker e = e
        by strategy.Client e = e
        by strategy.Peer e = e
        by strategy.Router e = staying_fewer (is_listed net) h.entries worded.ordered.texts key e

    -- a network is put in place: of the keys with entries, these are those on which none is left
    pub networked_goes : (net : Network) (keys : List (List ℕ)) → hats ≡ change_hat r (networked net) s.core.hats
        → ((key : List ℕ) → (has_entries key h && has_text key keys) ≡ (has_entries key h && not (has_entries key (networked net h))))
        → with_rows (entry_rows hats) s.names ≡ fold (λ n key. without_entry_key region key n) s.names keys
    networked_goes net keys is gone =
        put_row (networked net) is
        ∙ ap (λ ks. with_rows (with_row region ks s.names.rows) s.names)
        (keys_gone h.entries (networked net h).entries keys worded.ordered.texts (networked_worded net h worded).ordered.texts (fewer net) gone ∙ ap (λ ks. without_all ks keys) (sym own_row))
        ∙ sym (rows_without region keys s.names in_order used)
