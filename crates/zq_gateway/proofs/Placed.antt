-- The hats of a gateway that calls made stand at their regions.
use Rattle.std.proofs.Common.{◌≡◌, ◌∙◌, refl, sym, ap, ℕ, Bool, true, false, cond, List, [], ◌∷◌, Option, Some, None}
use Rattle.std.specs.Option.{option_map}
use Rattle.std.specs.List.{All, AllByRecursion}
use Rattle.std.specs.Cmp.{nat_cmp_total}
use Rattle.std.specs.Ordering.{nat_cmp}
use Rattle.std.specs.Map.{values_of}
use Rattle.std.specs.BTreeMap.{is_at}
use Rattle.std.specs.Prelude.{fold}
use Rattle.std.proofs.lemmas.List.Elements.{All-cons, All-nil}
use Rattle.std.proofs.lemmas.Map.Lookups.{exact_unsigned}
use Rattle.zq_key.proofs.Lookups.{each_entry, found_after_insertion, same_key}
use Rattle.zq_message.specs.Region.{region_index}
use Rattle.zq_strategy.specs.Kept.{new_hat}
use Rattle.zq_strategy.specs.State.{HatState}
use Rattle.zq_machine.specs.declared.config.Entry.{Entry}
use Rattle.zq_machine.specs.Configs.{Settings, north_of, region_of}
use Rattle.zq_machine.specs.State.{State, at, first_hats, hat_at, is_region, with_hat}
use Rattle.zq_machine.proofs.Hats.{AreHatsOf, bare}
use Rattle.zq_kept.specs.Current.{ArePlaced, StandsAt}
use Rattle.zq_gateway.specs.Making.{IsReached}
use Rattle.zq_gateway.proofs.Reached.{reached_in_order}

-- each hat is of the region of its place
abbrev Home : List (ℕ × HatState) → Type 0
Home hats = (i : ℕ) (h : HatState) → at i hats ≡ Some h → region_index h.region ≡ i

module _ (config : Settings) where
  new_by : (e : Entry) (hats : List (ℕ × HatState)) → Home hats → (i : ℕ) (h : HatState) (b : Bool) → is_at (nat_cmp (region_index (region_of e))) i ≡ b → cond b (Some (new_hat (region_of e) (north_of config.entries) config.zid config.start.told)) (at i hats) ≡ Some h → region_index h.region ≡ i
  new_by e hats home i h true eb is =
      let made : HatState = new_hat (region_of e) (north_of config.entries) config.zid config.start.told in
      let same : made ≡ h = (let both : Some made ≡ Some h = is in cc) in
      ap (λ (x : HatState). region_index x.region) (sym same) ∙ same_key nat_cmp_total exact_unsigned (region_index (region_of e)) i eb
  new_by e hats home i h false eb is = home i h is

  with_home : (e : Entry) (hats : List (ℕ × HatState)) → Home hats → Home (with_hat config hats e)
  with_home e hats home i h is =
      new_by e hats home i h _ refl (sym (found_after_insertion nat_cmp_total exact_unsigned (region_index (region_of e)) i (new_hat (region_of e) (north_of config.entries) config.zid config.start.told) hats) ∙ is)

  all_home : (es : List Entry) (hats : List (ℕ × HatState)) → Home hats → Home (fold (with_hat config) hats es)
  all_home [] hats home = home
  all_home (e ∷ es) hats home = all_home es (with_hat config hats e) (with_home e hats home)

  first_home : Home (first_hats config)
  first_home = all_home config.entries [] (λ i h is. absurd (let gap : None ≡ Some h = is in cc))

  like_by : (i : ℕ) (h : HatState) (o : Option HatState) → at i (first_hats config) ≡ o → Some (bare h) ≡ option_map bare o → region_index h.region ≡ i
  like_by i h None e is = absurd (let gap : Some (bare h) ≡ None = is in cc)
  like_by i h (Some f) e is =
      let same : bare h ≡ bare f = (let both : Some (bare h) ≡ Some (bare f) = is in cc) in
      ap (λ (x : HatState). region_index x.region) same ∙ first_home i f e

  pub hats_home : (hats : List (ℕ × HatState)) → AreHatsOf config hats → Home hats
  hats_home hats are i h is = like_by i h _ refl (ap (option_map bare) (sym is) ∙ are.shape i)

stands_by : (hats : List (ℕ × HatState)) (h : HatState) → at (region_index h.region) hats ≡ Some h → is_region h.region ≡ true → hat_at h.region hats ≡ Some h
stands_by hats h is region = ap (λ b. cond b (at (region_index h.region) hats) None) region ∙ is

values_all : (P : HatState → Type 0) (es : List (ℕ × HatState)) → AllByRecursion (λ (e : ℕ × HatState). P e.1) es → All P (values_of es)
values_all P [] all = All-nil P
values_all P (e ∷ es) all = All-cons P e.1 (values_of es) all.0 (values_all P es all.1)

-- the hats stand at their regions
pub placed : (config : Settings) (hats : List (ℕ × HatState)) → AreHatsOf config hats → ArePlaced hats
placed config hats are =
    values_all (StandsAt hats) hats
    (each_entry nat_cmp_total exact_unsigned (λ (e : ℕ × HatState). StandsAt hats e.1) hats are.sorted
    (λ i h is. stands_by hats h (ap (λ n. at n hats) (hats_home config hats are i h is) ∙ is)))

pub reached_placed : (s : State) → IsReached s → ArePlaced s.core.hats
reached_placed s i = placed i.config s.core.hats (reached_in_order s i).hats
