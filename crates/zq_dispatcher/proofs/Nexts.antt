-- What a change of one region's hat does to what faces hear: their own hat's fellows, the other regions' merge, and on what they listen.
use Rattle.std.proofs.Common.{◌≡◌, ◌∙◌, refl, sym, ap, ℕ, Bool, true, false, cond, List, Option, Some, None, eq-eqb, eqb-true, true≢false}
use Rattle.std.specs.Prelude.{◌==◌, ◌&&◌}
use Rattle.std.specs.Map.{keys_of}
use Rattle.std.specs.BTreeMap.{is_at}
use Rattle.std.specs.List.Sorted.{IsStrictlySortedBy}
use Rattle.std.specs.Ordering.{nat_cmp}
use Rattle.std.specs.Cmp.{nat_cmp_total}
use Rattle.std.specs.Option.{is_some, option_and_then, option_map, option_map_or}
use Rattle.std.proofs.lemmas.Map.Lookups.{exact_unsigned}
use Rattle.zq_message.specs.declared.message.Mode.{Mode}
use Rattle.zq_message.specs.declared.message.Mode.TheVariants as mode
use Rattle.zq_message.specs.declared.message.QueryableInfoType.{QueryableInfoType}
use Rattle.zq_message.specs.declared.message.Region.{Region}
use Rattle.zq_message.specs.declared.message.Region.TheVariants as region
use Rattle.zq_key.proofs.Lookups.{found_after_write, same_key}
use Rattle.zq_strategy.specs.declared.network.Network.{Network}
use Rattle.zq_strategy.specs.Entries.{staying}
use Rattle.zq_strategy.specs.Nets.{is_listed}
use Rattle.zq_message.specs.Region.{region_index}
use Rattle.zq_message.specs.RegionMap.{value_at}
use Rattle.zq_strategy.specs.declared.types.Change.{Change}
use Rattle.zq_strategy.specs.declared.types.Change.TheVariants as change
use Rattle.zq_strategy.specs.declared.types.Strategy.{Strategy}
use Rattle.zq_strategy.specs.declared.types.Strategy.TheVariants as strategy
use Rattle.zq_strategy.specs.Changes.{changed_by}
use Rattle.zq_strategy.specs.Fellows.{fellow_info}
use Rattle.zq_strategy.specs.Kept.{region_info}
use Rattle.zq_strategy.specs.Regions.{in_routers, is_north, same_mode, same_region, strategy_at, strategy_of}
use Rattle.zq_strategy.specs.State.{HatState}
use Rattle.zq_machine.specs.declared.face.OpenFace.{OpenFace}
use Rattle.zq_machine.specs.Due.{heard_as, heard_by, heard_in, listens_by}
use Rattle.zq_machine.specs.State.{change_hat, hat_at, is_region, put_hat}
use Rattle.zq_machine.specs.Trees.{own_entry}
use Rattle.zq_machine.proofs.Changing.{hat_here, region_there}
use Rattle.zq_dispatcher.specs.Own.{own_entry_as}
use Rattle.zq_dispatcher.proofs.Changed.{own_changed, same_places}
use Rattle.zq_dispatcher.specs.declared.types.RegionChange.{RegionChange}
use Rattle.zq_dispatcher.specs.Dues.{hats_after, hats_next, hears_as, listens_as, new_info}

-- ---- a change keeps a hat's region and strategy
networked_region : (k : Strategy) (net : Network) (s : HatState) → (in_routers k (record s { network = net; entries = staying (is_listed net) s.entries }) s).region ≡ s.region
networked_region strategy.Broker net s = refl
networked_region strategy.Client net s = refl
networked_region strategy.Peer net s = refl
networked_region strategy.Router net s = refl

networked_mode : (k : Strategy) (net : Network) (s : HatState) → (in_routers k (record s { network = net; entries = staying (is_listed net) s.entries }) s).north_mode ≡ s.north_mode
networked_mode strategy.Broker net s = refl
networked_mode strategy.Client net s = refl
networked_mode strategy.Peer net s = refl
networked_mode strategy.Router net s = refl

keeps_region : (x : Change) (key : List ℕ) (h : HatState) → (changed_by x key h).region ≡ h.region
keeps_region (change.Declared face id i) key h = refl
keeps_region (change.Withdrawn face id) key h = refl
keeps_region (change.Left face) key h = refl
keeps_region (change.Announced router i) key h = refl
keeps_region (change.Retracted router) key h = refl
keeps_region (change.Networked net) key h = networked_region (strategy_at h) net h

keeps_mode : (x : Change) (key : List ℕ) (h : HatState) → (changed_by x key h).north_mode ≡ h.north_mode
keeps_mode (change.Declared face id i) key h = refl
keeps_mode (change.Withdrawn face id) key h = refl
keeps_mode (change.Left face) key h = refl
keeps_mode (change.Announced router i) key h = refl
keeps_mode (change.Retracted router) key h = refl
keeps_mode (change.Networked net) key h = networked_mode (strategy_at h) net h

keeps_strategy : (x : Change) (key : List ℕ) (h : HatState) → strategy_at (changed_by x key h) ≡ strategy_at h
keeps_strategy x key h = λ j. strategy_of (keeps_region x key h j) (keeps_mode x key h j)

-- ---- the same regions are equal
modes_equal : (m n : Mode) → same_mode m n ≡ true → m ≡ n
modes_equal mode.Router mode.Router e = refl
modes_equal mode.Router mode.Peer e = absurd (true≢false (sym e))
modes_equal mode.Router mode.Client e = absurd (true≢false (sym e))
modes_equal mode.Peer mode.Router e = absurd (true≢false (sym e))
modes_equal mode.Peer mode.Peer e = refl
modes_equal mode.Peer mode.Client e = absurd (true≢false (sym e))
modes_equal mode.Client mode.Router e = absurd (true≢false (sym e))
modes_equal mode.Client mode.Peer e = absurd (true≢false (sym e))
modes_equal mode.Client mode.Client e = refl

regions_equal : (r q : Region) → same_region r q ≡ true → r ≡ q
regions_equal region.North region.North e = refl
regions_equal region.North region.Local e = absurd (true≢false (sym e))
regions_equal region.North (region.South b n) e = absurd (true≢false (sym e))
regions_equal region.Local region.North e = absurd (true≢false (sym e))
regions_equal region.Local region.Local e = refl
regions_equal region.Local (region.South b n) e = absurd (true≢false (sym e))
regions_equal (region.South a m) region.North e = absurd (true≢false (sym e))
regions_equal (region.South a m) region.Local e = absurd (true≢false (sym e))
regions_equal (region.South a m) (region.South b n) e =
    let parts = both (a == b) (same_mode m n) e in
    λ j. region.South (eqb-true a b parts.0 j) (modes_equal m n parts.1 j)
  where
    both : (x y : Bool) → (x && y) ≡ true → (x ≡ true) × (y ≡ true)
    both true true f = (refl, refl)
    both true false f = absurd (true≢false (sym f))
    both false y f = absurd (true≢false (sym f))

apart : (r q : Region) → same_region r q ≡ false → is_at (nat_cmp (region_index q)) (region_index r) ≡ false
apart r q e = by (is_at (nat_cmp (region_index q)) (region_index r)) refl
  where
    by : (b : Bool) → is_at (nat_cmp (region_index q)) (region_index r) ≡ b → b ≡ false
    by true is = absurd (true≢false (sym (eq-eqb (region_index r) (region_index q) (sym (same_key nat_cmp_total exact_unsigned (region_index q) (region_index r) is))) ∙ sym (same_places r q) ∙ e))
    by false is = refl

-- ---- the hats of the regions after one has changed
module _ (r q : Region) (f : HatState → HatState) (hats : List (ℕ × HatState)) where
  after_by : (o : Option HatState) → hat_at q hats ≡ o → (b : Bool) → same_region r q ≡ b → hat_at r (put_hat q f hats o) ≡ cond b (option_map f (hat_at r hats)) (hat_at r hats)
  after_by None is true same =
      let none : hat_at r hats ≡ None = ap (λ (x : Region). hat_at x hats) (regions_equal r q same) ∙ is in
      none ∙ sym (ap (option_map f) none)
  after_by None is false same = refl
  after_by (Some h) is true same =
      let equal = regions_equal r q same in
      ap (λ (x : Region). hat_at x (put_hat q f hats (Some h))) equal
      ∙ ap (λ (o : Option HatState). hat_at q (put_hat q f hats o)) (sym is)
      ∙ hat_here q h f hats is
      ∙ ap (option_map f) (sym is)
      ∙ ap (λ (x : Region). option_map f (hat_at x hats)) (sym equal)
  after_by (Some h) is false same =
      ap (λ o. cond (is_region r) o None)
      (found_after_write nat_cmp_total exact_unsigned (region_index q) (region_index r) (f h) hats (ap is_some (region_there q hats h is).1)
      ∙ ap (λ b. cond b (Some (f h)) (value_at hats r)) (apart r q same))

  -- the changed region has its changed hat, and each other the hat that it had
  pub hat_after : hat_at r (change_hat q f hats) ≡ cond (same_region r q) (option_map f (hat_at r hats)) (hat_at r hats)
  hat_after = after_by (hat_at q hats) refl (same_region r q) refl

-- ---- what the other regions will have
module _ (c : RegionChange) (key : List ℕ) (place : ℕ) (hats : List (ℕ × HatState)) (sorted : IsStrictlySortedBy nat_cmp (keys_of hats)) where
  others_by : (o : Option HatState) → hat_at c.region hats ≡ o
      → own_entry_as (option_map (λ (h : HatState). record { region = c.region; info = region_info key (changed_by c.change key h) }) o) place key hats ≡ own_entry place key (hats_next c key hats)
  others_by None is = ap (λ (o : Option HatState). own_entry place key (put_hat c.region (changed_by c.change key) hats o)) (sym is)
  others_by (Some h) is = sym (own_changed (record { region = c.region; info = region_info key (changed_by c.change key h) }) key (changed_by c.change key) h place hats sorted is refl)

  pub others_next : own_entry_as (new_info c key hats) place key hats ≡ own_entry place key (hats_next c key hats)
  others_next = others_by (hat_at c.region hats) refl

-- ---- what a face will hear
module _ (c : RegionChange) (face : ℕ) (key : List ℕ) (o : OpenFace) (hats : List (ℕ × HatState)) where
  abbrev then : List (ℕ × HatState)
  then = hats_next c key hats

  abbrev others : Option QueryableInfoType
  others = own_entry (region_index o.region) key then

  pub heard_none : hat_at o.region hats ≡ None → heard_as face key then o ≡ None
  heard_none none =
      ap (option_and_then (heard_in face key then (region_index o.region)))
      (hat_after o.region c.region (changed_by c.change key) hats ∙ ap (λ (x : Option HatState). cond (same_region o.region c.region) (option_map (changed_by c.change key) x) x) none ∙ by (same_region o.region c.region))
    where
      by : (b : Bool) → cond b (option_map (changed_by c.change key) None) None ≡ None
      by true = refl
      by false = refl

  pub heard_changed : (h : HatState) → hat_at o.region hats ≡ Some h → same_region o.region c.region ≡ true → heard_by (strategy_at h) (fellow_info face key (changed_by c.change key h)) others ≡ heard_as face key then o
  heard_changed h is same =
      ap (λ (k : Strategy). heard_by k (fellow_info face key (changed_by c.change key h)) others) (sym (keeps_strategy c.change key h))
      ∙ ap (option_and_then (heard_in face key then (region_index o.region)))
      (sym (hat_after o.region c.region (changed_by c.change key) hats
      ∙ ap (λ b. cond b (option_map (changed_by c.change key) (hat_at o.region hats)) (hat_at o.region hats)) same
      ∙ ap (option_map (changed_by c.change key)) is))

  pub heard_beside : (h : HatState) → hat_at o.region hats ≡ Some h → same_region o.region c.region ≡ false → heard_by (strategy_at h) (fellow_info face key h) others ≡ heard_as face key then o
  heard_beside h is apart =
      ap (option_and_then (heard_in face key then (region_index o.region)))
      (sym (hat_after o.region c.region (changed_by c.change key) hats
      ∙ ap (λ b. cond b (option_map (changed_by c.change key) (hat_at o.region hats)) (hat_at o.region hats)) apart
      ∙ is))

-- ---- a face listens as before
hears_same : (asks : Bool) (x : Change) (key : List ℕ) (h : HatState) → hears_as asks (changed_by x key h) ≡ hears_as asks h
hears_same asks x key h = λ j. listens_by (keeps_strategy x key h j) (is_north (keeps_region x key h j)) asks

module _ (asks : Bool) (key : List ℕ) (o : OpenFace) (hats : List (ℕ × HatState)) where
  listens_if : (x : Change) (b : Bool) (h : Option HatState) → option_map_or (hears_as asks) (cond b (option_map (changed_by x key) h) h) false ≡ option_map_or (hears_as asks) h false
  listens_if x true None = refl
  listens_if x true (Some h) = hears_same asks x key h
  listens_if x false h = refl

  pub listens_after : (next : Option RegionChange) → listens_as asks (hats_after next key hats) o ≡ listens_as asks hats o
  listens_after None = refl
  listens_after (Some c) =
      ap (λ (h : Option HatState). option_map_or (hears_as asks) h false) (hat_after o.region c.region (changed_by c.change key) hats)
      ∙ listens_if c.change (same_region o.region c.region) (hat_at o.region hats)
