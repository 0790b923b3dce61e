-- The keys of routers' entries are held with the first entry of a region on them, and let go with the last, after what a call tells.
use Rattle.std.specs.Prelude.{◌&&◌, ◌||◌, not}
use Rattle.std.proofs.Common.{◌≡◌, ◌∙◌, refl, sym, ap, ℕ, Bool, true, false, cond, List, [], ◌∷◌, ◌++◌, filter, fold, Option, Some, None}
use Rattle.std.specs.BTreeMap.{is_at}
use Rattle.std.specs.Map.{keys_of}
use Rattle.std.specs.Option.{is_some, option_map_or}
use Rattle.std.specs.Set.{remove_key}
use Rattle.std.specs.Ordering.{nat_cmp}
use Rattle.zq_message.specs.declared.message.FaceId.{FaceId}
use Rattle.zq_message.specs.declared.message.QueryableInfoType.{QueryableInfoType}
use Rattle.zq_message.specs.declared.message.Region.{Region}
use Rattle.zq_message.specs.declared.message.Zid.{Zid}
use Rattle.zq_message.specs.Region.{region_index}
use Rattle.zq_key.proofs.Lookups.{at_itself, same_key}
use Rattle.zq_key.proofs.Sorted.{has_put}
use Rattle.zq_index.specs.Texts.{has_text, text_cmp}
use Rattle.zq_index.proofs.Orders.{text_exact, text_total}
use Rattle.zq_strategy.specs.declared.network.Network.{Network}
use Rattle.zq_strategy.specs.declared.types.Strategy.{Strategy}
use Rattle.zq_strategy.specs.declared.types.Strategy.TheVariants as strategy
use Rattle.zq_strategy.specs.Entries.{staying}
use Rattle.zq_strategy.specs.Nets.{is_listed}
use Rattle.zq_strategy.specs.Regions.{in_routers, strategy_at}
use Rattle.zq_strategy.specs.Routers.{announced, losing, networked, retracted}
use Rattle.zq_strategy.specs.State.{HatState}
use Rattle.zq_tables.specs.Naming.{EntryRows, NamingState, row_at, with_entry_key, with_row, with_rows, without_entry_key}
use Rattle.zq_tables.specs.declared.resolved.Resolved.{Resolved}
use Rattle.zq_machine.specs.Deciding.{accepted, renamed}
use Rattle.zq_machine.specs.Handing.{Handed}
use Rattle.zq_machine.specs.Messages.{Telling}
use Rattle.zq_machine.specs.State.{Core, State, change_hat, entry_rows, has_entries, hat_at}
use Rattle.zq_machine.specs.Writing.{Told, tell}
use Rattle.zq_machine.proofs.Changing.{hat_here, region_there}
use Rattle.zq_machine.proofs.DueKeys.{among}
use Rattle.zq_machine.proofs.EntryKeys.{has_is, keys_put}
use Rattle.zq_machine.proofs.Owning.{network_found, used_there}
use Rattle.zq_machine.proofs.Rerouted.{announced_key, networked_goes, retracted_goes, retracted_stays}
use Rattle.zq_machine.proofs.Rows.{tell_handed, told_rows}
use Rattle.zq_machine.proofs.Worded.{Any, IsWorded, each_found}
use Rattle.zq_dispatcher.specs.Routers.{entered, has_entries_in}
use Rattle.zq_egress.specs.Holding.{entry_held}
use Rattle.zq_egress.specs.Telling.{behind}
use Rattle.zq_gateway.specs.Entries.{without_gone}
use Rattle.zq_gateway.specs.Making.{IsReached}
use Rattle.zq_gateway.specs.Routing.{entering}
use Rattle.zq_gateway.proofs.Reached.{reached_in_order}

-- ---- keys are let go alike before and after something is told
module _ (c : Core) (us : List Telling) (r : Region) (hats : List (ℕ × HatState)) where
  abbrev own : ℕ
  own = region_index r

  abbrev without : List ℕ → EntryRows → EntryRows
  without key rows = with_row own (remove_key (is_at (text_cmp key)) (row_at own rows)) rows

  one_told : (names : NamingState) (key : List ℕ) → without_gone r hats (tell c us names).names key ≡ (tell c us (without_gone r hats names key)).names
  one_told names key = by (has_entries_in r key hats)
    where
      by : (b : Bool) → cond b (tell c us names).names (without_entry_key own key (tell c us names).names) ≡ (tell c us (cond b names (without_entry_key own key names))).names
      by true = refl
      by false = told_rows c us (without key) names

  one_handed : (names : NamingState) (key : List ℕ) → (tell c us (without_gone r hats names key)).handed ≡ (tell c us names).handed
  one_handed names key = by (has_entries_in r key hats)
    where
      by : (b : Bool) → (tell c us (cond b names (without_entry_key own key names))).handed ≡ (tell c us names).handed
      by true = refl
      by false = tell_handed c us (without key names.rows) names

  all_told : (keys : List (List ℕ)) (names : NamingState) → fold (without_gone r hats) (tell c us names).names keys ≡ (tell c us (fold (without_gone r hats) names keys)).names
  all_told [] names = refl
  all_told (k ∷ ks) names = ap (λ n. fold (without_gone r hats) n ks) (one_told names k) ∙ all_told ks (without_gone r hats names k)

  all_handed : (keys : List (List ℕ)) (names : NamingState) → (tell c us (fold (without_gone r hats) names keys)).handed ≡ (tell c us names).handed
  all_handed [] names = refl
  all_handed (k ∷ ks) names = all_handed ks (without_gone r hats names k) ∙ one_handed names k

  -- what was told before keys were let go is what is told after it
  pub told_then_gone : (first l : List Handed) (keys : List (List ℕ)) (names told new after : NamingState) → behind first (tell c us names) ≡ record { handed = l; names = told }
      → new ≡ fold (without_gone r hats) told keys → after ≡ fold (without_gone r hats) names keys → behind first (tell c us after) ≡ record { handed = l; names = new }
  told_then_gone first l keys names told new after is goes comes =
      let handed : first ++ (tell c us after).handed ≡ l =
      ap (λ n. first ++ (tell c us n).handed) comes ∙ ap (λ hs. first ++ hs) (all_handed keys names) ∙ ap (λ (w : Told). w.handed) is in
      let left : (tell c us after).names ≡ new =
      ap (λ n. (tell c us n).names) comes ∙ sym (all_told keys names) ∙ ap (λ (w : Told). fold (without_gone r hats) w.names keys) is ∙ sym goes in
      λ j. record { handed = handed j; names = left j }

-- a key on which an entry is announced has one
put_there : (router : ℕ) (key : List ℕ) (i : QueryableInfoType) (h : HatState) → IsWorded h → has_entries key (announced router key i h) ≡ true
put_there router key i h w =
    has_is key (announced router key i h).entries
    ∙ ap (has_text key) (keys_put router key h.entries w.ordered i)
    ∙ has_put text_total text_exact key key (keys_of h.entries)
    ∙ ap (λ b. b || has_text key (keys_of h.entries)) (at_itself text_total text_exact key)

-- ---- what stands for keys after a call that changes entries of a region
module _ (s : State) (reached : IsReached s) (r : Region) (h : HatState) (there : hat_at r s.core.hats ≡ Some h) (hats : List (ℕ × HatState)) where
  worded : IsWorded h
  worded = each_found Any IsWorded (is_at (nat_cmp (region_index r))) s.core.hats h (region_there r s.core.hats h there).1 (reached_in_order s reached).worded

  has_then : (f : HatState → HatState) → hats ≡ change_hat r f s.core.hats → (key : List ℕ) → has_entries_in r key hats ≡ has_entries key (f h)
  has_then f is key = ap (λ (o : Option HatState). option_map_or (has_entries key) o false) (ap (hat_at r) is ∙ hat_here r h f s.core.hats there)

  -- a router's entry comes or goes
  pub entry_renamed : (face : FaceId) (sd : Resolved) (info : Option QueryableInfoType) (node : ℕ) (router : Zid) (key : List ℕ) → (accepted s.core (entering face sd info node)).hats ≡ hats
      → hats ≡ change_hat r (entered router key info) s.core.hats → renamed s (entering face sd info node) ≡ without_gone r hats (entry_held (region_index r) key info s.names) key
  entry_renamed face sd (Some i) node router key these is =
      ap (λ x. with_rows (entry_rows x) s.names) these
      ∙ announced_key reached.config s (reached_in_order s reached) r h there hats router.0 key i is
      ∙ sym (ap (λ b. cond b (with_entry_key (region_index r) key s.names) (without_entry_key (region_index r) key (with_entry_key (region_index r) key s.names))) (has_then (announced router.0 key i) is key ∙ put_there router.0 key i h worded))
  entry_renamed face sd None node router key these is = ap (λ x. with_rows (entry_rows x) s.names) these ∙ by (has_entries key (retracted router.0 key h)) refl
    where
      left : (b : Bool) → has_entries key (retracted router.0 key h) ≡ b → cond b s.names (without_entry_key (region_index r) key s.names) ≡ without_gone r hats s.names key
      left b e = sym (ap (λ x. cond x s.names (without_entry_key (region_index r) key s.names)) (has_then (retracted router.0 key) is key ∙ e))

      by : (b : Bool) → has_entries key (retracted router.0 key h) ≡ b → with_rows (entry_rows hats) s.names ≡ without_gone r hats s.names key
      by true e = retracted_stays reached.config s (reached_in_order s reached) r h there hats router.0 key is e ∙ left true e
      by false e = retracted_goes reached.config s (reached_in_order s reached) r h there hats router.0 key is e ∙ left false e

  -- ---- a network is put in place
  abbrev gone : List ℕ → Bool
  gone key = not (has_entries_in r key hats)

  -- the keys that go are those of which nothing is left
  those_gone : (keys : List (List ℕ)) (names : NamingState) → fold (without_gone r hats) names keys ≡ fold (λ n key. without_entry_key (region_index r) key n) names (filter gone keys)
  those_gone [] names = refl
  those_gone (k ∷ ks) names = by (has_entries_in r k hats) (those_gone ks)
    where
      by : (b : Bool) → ((n : NamingState) → fold (without_gone r hats) n ks ≡ fold (λ n key. without_entry_key (region_index r) key n) n (filter gone ks))
          → fold (without_gone r hats) (cond b names (without_entry_key (region_index r) k names)) ks ≡ fold (λ n key. without_entry_key (region_index r) key n) names (cond (not b) (k ∷ filter gone ks) (filter gone ks))
      by true more = more names
      by false more = more (without_entry_key (region_index r) k names)

  gone_by : (key k : List ℕ) (ks : List (List ℕ)) (a b : Bool) → is_at (text_cmp key) k ≡ a → gone k ≡ b → has_text key (filter gone ks) ≡ (has_text key ks && gone key)
      → has_text key (cond b (k ∷ filter gone ks) (filter gone ks)) ≡ ((a || has_text key ks) && gone key)
  gone_by key k ks true true at is rest = ap (λ x. x || has_text key (filter gone ks)) at ∙ sym is ∙ ap gone (sym (same_key text_total text_exact key k at))
  gone_by key k ks true false at is rest =
      let off : gone key ≡ false = ap gone (same_key text_total text_exact key k at) ∙ is in
      rest ∙ ap (λ x. has_text key ks && x) off ∙ never (has_text key ks) ∙ sym off
    where
      never : (x : Bool) → (x && false) ≡ false
      never true = refl
      never false = refl
  gone_by key k ks false true at is rest = ap (λ x. x || has_text key (filter gone ks)) at ∙ rest
  gone_by key k ks false false at is rest = rest

  has_gone : (key : List ℕ) (ks : List (List ℕ)) → has_text key (filter gone ks) ≡ (has_text key ks && gone key)
  has_gone key [] = refl
  has_gone key (k ∷ ks) = gone_by key k ks (is_at (text_cmp key) k) (gone k) refl refl (has_gone key ks)

  -- a key that loses nothing keeps its entries
  module _ (net : Network) where
    kept : (key : List ℕ) → has_text key (losing net h) ≡ false → has_entries key (networked net h) ≡ has_entries key h
    kept key off = by (strategy_at h)
      where
        by : (k : Strategy) → has_entries key (in_routers k (record h { network = net; entries = staying (is_listed net) h.entries }) h) ≡ has_entries key h
        by strategy.Broker = refl
        by strategy.Client = refl
        by strategy.Peer = refl
        by strategy.Router = ap is_some (network_found key net h.entries (used_there h.entries worded.entries) (among key (losing net h) ∙ off))

    module _ (is : hats ≡ change_hat r (networked net) s.core.hats) where
      those : (key : List ℕ) → (has_entries key h && has_text key (filter gone (losing net h))) ≡ (has_entries key h && not (has_entries key (networked net h)))
      those key =
          ap (λ b. has_entries key h && b) (has_gone key (losing net h) ∙ ap (λ b. has_text key (losing net h) && not b) (has_then (networked net) is key))
          ∙ by (has_text key (losing net h)) refl
        where
          neither : (a : Bool) → (a && false) ≡ (a && not a)
          neither true = refl
          neither false = refl

          by : (l : Bool) → has_text key (losing net h) ≡ l → (has_entries key h && (l && not (has_entries key (networked net h)))) ≡ (has_entries key h && not (has_entries key (networked net h)))
          by true e = refl
          by false e = neither (has_entries key h) ∙ ap (λ b. has_entries key h && not b) (sym (kept key e))

      pub network_renamed : with_rows (entry_rows hats) s.names ≡ fold (without_gone r hats) s.names (losing net h)
      network_renamed =
          networked_goes reached.config s (reached_in_order s reached) r h there hats net (filter gone (losing net h)) is those
          ∙ sym (those_gone (losing net h) s.names)
