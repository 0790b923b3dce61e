-- Where offers are kept for an asker in its text's routes, and what is kept once a list is stored there.
use Rattle.std.proofs.Common.{◌≡◌, ◌∙◌, sym, ap, refl, subst, ℕ, List, Some, None, Option, Bor, true}
use Rattle.std.specs.Prelude.{option_copied, option_map, slice_index}
use Rattle.std.specs.Option.{is_some}
use Rattle.std.proofs.lemmas.Map.Lookups.{exact_bytes}
use Rattle.zq_message.specs.Region.{region_index}
use Rattle.zq_message.specs.RegionMap.{value_at}
use Rattle.zq_key.proofs.Lookups.{at_itself}
use Rattle.zq_index.proofs.Orders.{text_total}
use Rattle.zq_strategy.specs.declared.offer.QueryTargetQabl.{QueryTargetQabl}
use Rattle.zq_strategy.specs.Offers.{offers_of}
use Rattle.zq_strategy.specs.State.{HatState}
use Rattle.zq_machine.specs.Selecting.{AskerState}
use Rattle.zq_machine.specs.State.{hat_at}
use Rattle.zq_kept.specs.Current.{AreCurrent, IsKeptFor, Keeps, StandsAt, node_for}
use Rattle.zq_kept.specs.Parts.{SetsIn, spot_for}
use Rattle.zq_kept.specs.Table.{OfText, one_text, route_in, route_of}
use Rattle.zq_kept.specs.declared.text.Spot.{Spot}
use Rattle.zq_kept.proofs.Current.{kept_for, node_found, stored_current, stored_keeps, stored_there}
use Rattle.zq_kept.proofs.OneText.{at_key}
use Rattle.zq_kept.proofs.Places.{stores}

-- what a spot says of the asker and the region
pub record IsSpot (vs : List ℕ) (a : AskerState) (h : HatState) (p : Spot) : Type 0 where
  pub node : node_for a h ≡ Some p.node
  pub dst : p.dst ≡ h.region
  pub src : p.src ≡ a.opened.region
  pub version : p.version ≡ slice_index vs (region_index p.dst)

pub copied_some : {X : Type 0} (o : Option (Bor X)) → is_some (option_copied o) ≡ is_some o
copied_some None = refl
copied_some (Some b) = refl

module _ (vs : List ℕ) (a : AskerState) (h : HatState) (p : Spot) where
  abbrev at_node : ℕ → Spot
  at_node n = record { version = slice_index vs (region_index h.region); dst = h.region; src = a.opened.region; node = n }

  spot_by : (o : Option ℕ) → node_for a h ≡ o → option_map at_node o ≡ Some p → IsSpot vs a h p
  spot_by None e is = absurd (let gap : None ≡ Some p = is in cc)
  spot_by (Some n) e is =
      let same : at_node n ≡ p = (let both : Some (at_node n) ≡ Some p = is in cc) in
      subst (IsSpot vs a h) same (record { node = e; dst = refl; src = refl; version = refl })

  pub spot_is : spot_for vs a h ≡ Some p → IsSpot vs a h p
  spot_is is = spot_by (node_for a h) refl is

  module _ (key : List ℕ) (spot : IsSpot vs a h p) where
    -- what is found at the spot
    pub spot_found : (rs : OfText (List QueryTargetQabl)) → route_of h.region key a.opened.region p.node (one_text vs key rs) ≡ route_in p.version p.src p.node (value_at rs p.dst)
    spot_found rs =
        ap (λ r. route_of r key a.opened.region p.node (one_text vs key rs)) (sym spot.dst)
        ∙ ap (λ s. route_of p.dst key s p.node (one_text vs key rs)) (sym spot.src)
        ∙ at_key vs key rs p.dst key p.src p.node _ (at_itself text_total exact_bytes key)
        ∙ ap (λ v. route_in v p.src p.node (value_at rs p.dst)) (sym spot.version)

    pub spot_kept : (rs : OfText (List QueryTargetQabl)) → is_some (route_in p.version p.src p.node (value_at rs p.dst)) ≡ true → IsKeptFor a key (one_text vs key rs) h
    spot_kept rs there = kept_for a key (one_text vs key rs) h p.node spot.node (ap is_some (spot_found rs) ∙ there)

    -- ---- a list is stored there
    module _ (old new : OfText (List QueryTargetQabl)) (offers : List QueryTargetQabl) (sets : SetsIn old new p offers) where
      pub set_kept : IsKeptFor a key (one_text vs key new) h
      set_kept =
          kept_for a key (one_text vs key new) h p.node spot.node
          (ap (λ r. is_some (route_of r key a.opened.region p.node (one_text vs key new))) (sym spot.dst)
          ∙ ap (λ s. is_some (route_of p.dst key s p.node (one_text vs key new))) (sym spot.src)
          ∙ ap is_some (stored_there (one_text vs key old) (one_text vs key new) p.dst p.src key p.node offers (stores vs key old new p offers sets spot.version)))

      pub set_current : (hats : List (ℕ × HatState)) → StandsAt hats h → offers ≡ offers_of h p.src key (Some p.node) → AreCurrent (one_text vs key old) hats → AreCurrent (one_text vs key new) hats
      set_current hats stands value current =
          stored_current (one_text vs key old) (one_text vs key new) p.dst p.src key p.node offers hats (stores vs key old new p offers sets spot.version)
          h (ap (λ r. hat_at r hats) spot.dst ∙ stands (node_found a h p.node spot.node).0) value current

      pub set_keeps : (hats : List (ℕ × HatState)) → Keeps (one_text vs key old) (one_text vs key new)
      set_keeps hats = stored_keeps (one_text vs key old) (one_text vs key new) p.dst p.src key p.node offers hats (stores vs key old new p offers sets spot.version)
