-- What a network hands in its region, by own entries.
use Rattle.std.proofs.Common.{◌≡◌, ◌∙◌, refl, sym, ap, ℕ, false, List, [], Some}
use Rattle.std.specs.Option.{option_map_or}
use Rattle.zq_message.specs.declared.message.Region.{Region}
use Rattle.zq_message.specs.Region.{region_index}
use Rattle.zq_strategy.specs.declared.network.Network.{Network}
use Rattle.zq_strategy.specs.Entries.{staying}
use Rattle.zq_strategy.specs.Nets.{is_listed, named_trees}
use Rattle.zq_strategy.specs.Networks.{Standing, any_gives}
use Rattle.zq_routers.proofs.Handing.{same_told}
use Rattle.zq_strategy.specs.declared.types.Strategy.{Strategy}
use Rattle.zq_strategy.specs.declared.types.Strategy.TheVariants as strategy
use Rattle.zq_strategy.specs.Regions.{in_routers, strategy_at}
use Rattle.zq_strategy.specs.Routers.{face_with, networked}
use Rattle.zq_strategy.specs.State.{HatState}
use Rattle.zq_strategy.specs.Trees.{gives_own, network_told}
use Rattle.zq_machine.specs.State.{change_hat, hat_at}
use Rattle.zq_machine.specs.Trees.{networked_told, own_entries, placed_told}
use Rattle.zq_machine.proofs.Changing.{hat_here}
use Rattle.zq_dispatcher.specs.Networks.{hands}

-- where it gives the gateway's own tree no child, it is the same by any own entries
module _ (own other : Standing) (net : Network) (h : HatState) where
  abbrev put : HatState
  put = record h { network = net; entries = staying (is_listed net) h.entries }

  by_kind : (k : Strategy) → in_routers k (any_gives (λ z. face_with z h.faces) h.network net h.own net.nodes (named_trees net)) false ≡ false
      → in_routers k (network_told own h.network (in_routers k put h)) [] ≡ in_routers k (network_told other h.network (in_routers k put h)) []
  by_kind strategy.Broker e = refl
  by_kind strategy.Client e = refl
  by_kind strategy.Peer e = refl
  by_kind strategy.Router e = same_told h.own own other (staying (is_listed net) h.entries) (λ z. face_with z h.faces) h.network net net.nodes (named_trees net) e

  pub same_handed : gives_own net h ≡ false → hands own h net ≡ hands other h net
  same_handed none = by_kind (strategy_at h) none

-- a network leaves a region's kind
same_kind : (net : Network) (h : HatState) → strategy_at (networked net h) ≡ strategy_at h
same_kind net h = by (strategy_at h)
  where
    by : (k : Strategy) → strategy_at (in_routers k (record h { network = net; entries = staying (is_listed net) h.entries }) h) ≡ strategy_at h
    by strategy.Broker = refl
    by strategy.Client = refl
    by strategy.Peer = refl
    by strategy.Router = refl

module _ (r : Region) (hats : List (ℕ × HatState)) (first : HatState) (there : hat_at r hats ≡ Some first) (net : Network) where
  pub network_hands : hands (own_entries (region_index r) hats) first net ≡ networked_told r hats (change_hat r (networked net) hats)
  network_hands =
      let own : Standing = own_entries (region_index r) hats in
      ap (λ k. in_routers k (network_told own first.network (networked net first)) []) (sym (same_kind net first))
      ∙ ap (λ o. option_map_or (placed_told own first) o []) (sym (hat_here r first (networked net) hats there))
      ∙ ap (λ o. option_map_or (λ (old : HatState). option_map_or (placed_told own old) (hat_at r (change_hat r (networked net) hats)) []) o []) (sym there)
