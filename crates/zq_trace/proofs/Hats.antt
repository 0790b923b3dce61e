-- The hats of a run stand as the regions of the configuration.
use Rattle.std.proofs.Common.{◌≡◌, ◌∙◌, refl, sym, ap, subst, ℕ, true, List, [], ◌∷◌, fold, map, Some}
use Rattle.std.specs.List.{AllByRecursion}
use Rattle.std.specs.List.Sorted.{IsStrictlySortedBy}
use Rattle.std.specs.Map.{values_of}
use Rattle.std.specs.BTreeMap.{insert_entry}
use Rattle.std.specs.Ordering.{match_ordering, nat_cmp}
use Rattle.std.specs.declared.cmp.Ordering.{Ordering}
use Rattle.std.specs.declared.cmp.Ordering.TheVariants.{Less, Equal, Greater}
use Rattle.std.proofs.lemmas.Cmp.{nat_cmp_total}
use Rattle.std.proofs.lemmas.Map.Lookups.{exact_unsigned}
use Rattle.zq_key.proofs.Lookups.{each_entry, same_entries}
use Rattle.zq_message.specs.declared.message.Mode.{Mode}
use Rattle.zq_message.specs.declared.message.Region.{Region}
use Rattle.zq_message.specs.declared.message.Zid.{Zid}
use Rattle.zq_message.specs.Region.{region_index}
use Rattle.zq_message.specs.RegionMap.{with_entry as with_value}
use Rattle.zq_strategy.specs.Kept.{new_hat}
use Rattle.zq_strategy.specs.State.{HatState}
use Rattle.zq_machine.specs.declared.config.Entry.{Entry}
use Rattle.zq_machine.specs.Configs.{Settings, north_of, region_of}
use Rattle.zq_machine.specs.State.{at, first_hats, is_region, kind_of, with_hat}
use Rattle.zq_machine.proofs.Hats.{kinds_of, opening_hats}
use Rattle.zq_trace.specs.Faces.{Trace}
use Rattle.zq_trace.specs.Machine.{AreSmall}
use Rattle.zq_trace.specs.Selected.{regions}
use Rattle.zq_trace.proofs.FaceLists.{mapped_at, mapped_keys}
use Rattle.zq_trace.proofs.Runs.{reached}
use Rattle.zq_trace.proofs.Saying.{in_order}

-- ---- entries with other values
module _ {X V : Type 0} (g : X → V) where
  abbrev pub mapped : List (ℕ × X) → List (ℕ × V)
  mapped es = map (λ e. (e.0, g e.1)) es

  pub put_mapped : (k : ℕ) (v : X) (es : List (ℕ × X)) → mapped (insert_entry nat_cmp es k v) ≡ insert_entry nat_cmp (mapped es) k (g v)
  put_mapped k v [] = refl
  put_mapped k v (e ∷ es) = by (nat_cmp k e.0) (put_mapped k v es)
    where
      by : (o : Ordering) → mapped (insert_entry nat_cmp es k v) ≡ insert_entry nat_cmp (mapped es) k (g v)
          → mapped (match_ordering o ((k, v) ∷ e ∷ es) ((e.0, v) ∷ es) (e ∷ insert_entry nat_cmp es k v)) ≡ match_ordering o ((k, g v) ∷ (e.0, g e.1) ∷ mapped es) ((e.0, g v) ∷ mapped es) ((e.0, g e.1) ∷ insert_entry nat_cmp (mapped es) k (g v))
      by Less ih = refl
      by Equal ih = refl
      by Greater ih = ap (λ l. (e.0, g e.1) ∷ l) ih

  values_mapped : (es : List (ℕ × X)) → values_of (mapped es) ≡ map g (values_of es)
  values_mapped [] = refl
  values_mapped (e ∷ es) = ap (λ l. g e.1 ∷ l) (values_mapped es)

-- ---- the first hats
module _ (config : Settings) where
  abbrev pub region_in : HatState → Region
  region_in h = h.region

  first_regions : (es : List Entry) (hats : List (ℕ × HatState)) → mapped region_in (fold (with_hat config) hats es) ≡ fold (λ rs (e : Entry). with_value rs (region_of e) (region_of e)) (mapped region_in hats) es
  first_regions [] hats = refl
  first_regions (e ∷ es) hats =
      first_regions es (with_hat config hats e)
      ∙ ap (λ rs. fold (λ l (x : Entry). with_value l (region_of x) (region_of x)) rs es) (put_mapped region_in (region_index (region_of e)) (new_hat (region_of e) (north_of config.entries) config.zid config.start.told) hats)

  -- each stands at its region's place, is of an id that regions have, and has the mode of North
  pub record StandsSo (e : ℕ × (Region × (Mode × Zid))) : Type 0 where
    pub place : e.0 ≡ region_index e.1.0
    pub small : is_region e.1.0 ≡ true
    pub north : e.1.1.0 ≡ north_of config.entries
    pub own : e.1.1.1 ≡ config.zid

  abbrev pub shown_kind : ℕ × HatState → ℕ × (Region × (Mode × Zid))
  shown_kind e = (e.0, kind_of e.1)

  put_all : (k : ℕ) (v : HatState) (es : List (ℕ × HatState)) → StandsSo (k, kind_of v) → AllByRecursion (λ e. StandsSo (shown_kind e)) es → AllByRecursion (λ e. StandsSo (shown_kind e)) (insert_entry nat_cmp es k v)
  put_all k v [] it all = (it, tt)
  put_all k v (e ∷ es) it all = by (nat_cmp k e.0) refl (put_all k v es it all.1)
    where
      by : (o : Ordering) → nat_cmp k e.0 ≡ o → AllByRecursion (λ x. StandsSo (shown_kind x)) (insert_entry nat_cmp es k v) → AllByRecursion (λ x. StandsSo (shown_kind x)) (match_ordering o ((k, v) ∷ e ∷ es) ((e.0, v) ∷ es) (e ∷ insert_entry nat_cmp es k v))
      by Less is rest = (it, all)
      by Equal is rest = (record { place = sym (exact_unsigned k e.0 is) ∙ it.place; small = it.small; north = it.north; own = it.own }, all.1)
      by Greater is rest = (all.0, rest)

  first_all : (es : List Entry) (hats : List (ℕ × HatState)) → AllByRecursion (λ (e : Entry). is_region (region_of e) ≡ true) es → AllByRecursion (λ e. StandsSo (shown_kind e)) hats → AllByRecursion (λ e. StandsSo (shown_kind e)) (fold (with_hat config) hats es)
  first_all [] hats small all = all
  first_all (e ∷ es) hats small all =
      first_all es (with_hat config hats e) small.1
      (put_all (region_index (region_of e)) (new_hat (region_of e) (north_of config.entries) config.zid config.start.told) hats (record { place = refl; small = small.0; north = refl; own = refl }) all)

  -- ---- the hats of a run
  module _ (past : Trace) where
    abbrev hats : List (ℕ × HatState)
    hats = (reached config past).core.hats

    pub kinds_same : mapped kind_of hats ≡ mapped kind_of (first_hats config)
    kinds_same =
        same_entries nat_cmp_total exact_unsigned (mapped kind_of hats) (mapped kind_of (first_hats config))
        (subst (IsStrictlySortedBy nat_cmp) (sym (mapped_keys kind_of hats)) (in_order config past).hats.sorted)
        (subst (IsStrictlySortedBy nat_cmp) (sym (mapped_keys kind_of (first_hats config))) (opening_hats config).sorted)
        (λ q. mapped_at q kind_of hats ∙ kinds_of (at q hats) (at q (first_hats config)) ((in_order config past).hats.shape q) ∙ sym (mapped_at q kind_of (first_hats config)))

    all_shown : (es : List (ℕ × HatState)) → AllByRecursion (λ e. StandsSo (shown_kind e)) es → AllByRecursion StandsSo (mapped kind_of es)
    all_shown [] all = tt
    all_shown (e ∷ es) all = (all.0, all_shown es all.1)

    all_hidden : (es : List (ℕ × HatState)) → AllByRecursion StandsSo (mapped kind_of es) → AllByRecursion (λ e. StandsSo (shown_kind e)) es
    all_hidden [] all = tt
    all_hidden (e ∷ es) all = (all.0, all_hidden es all.1)

    pub all_stand : AreSmall config → AllByRecursion (λ e. StandsSo (shown_kind e)) hats
    all_stand small = all_hidden hats (subst (AllByRecursion StandsSo) (sym kinds_same) (all_shown (first_hats config) (first_all config.entries [] small tt)))

    pub all_found : AllByRecursion (λ (e : ℕ × HatState). at e.0 hats ≡ Some e.1) hats
    all_found = each_entry nat_cmp_total exact_unsigned (λ e. at e.0 hats ≡ Some e.1) hats (in_order config past).hats.sorted (λ k v is. is)

    map_map : (es : List (ℕ × HatState)) → map (λ (k : Region × (Mode × Zid)). k.0) (values_of (mapped kind_of es)) ≡ map region_in (values_of es)
    map_map [] = refl
    map_map (e ∷ es) = ap (λ l. e.1.region ∷ l) (map_map es)

    pub regions_are : regions config ≡ map region_in (values_of hats)
    regions_are =
        ap values_of (sym (first_regions config.entries []))
        ∙ values_mapped region_in (first_hats config)
        ∙ sym (map_map (first_hats config))
        ∙ ap (λ l. map (λ (k : Region × (Mode × Zid)). k.0) (values_of l)) (sym kinds_same)
        ∙ map_map hats
