-- Which regions there are, by the configuration and by the hats of a run.
use Rattle.std.proofs.Common.{◌≡◌, ◌∙◌, refl, sym, ap, ℕ, Bool, true, false, cond, not, List, [], ◌∷◌, map, Option, Some, None, true≢false}
use Rattle.std.specs.Prelude.{◌==◌, ◌||◌, if◌then◌else◌}
use Rattle.std.specs.List.{AllByRecursion, list_any}
use Rattle.std.specs.Map.{lookup, values_of}
use Rattle.std.specs.BTreeMap.{is_at}
use Rattle.std.specs.Option.{is_some}
use Rattle.std.specs.Ordering.{nat_cmp}
use Rattle.std.proofs.lemmas.Bool.{false≢true}
use Rattle.zq_message.specs.declared.message.Region.{Region}
use Rattle.zq_message.specs.Region.{region_index}
use Rattle.zq_message.specs.RegionMap.{value_at}
use Rattle.zq_strategy.specs.State.{HatState}
use Rattle.zq_strategy.specs.declared.network.Network.{Network}
use Rattle.zq_route.specs.declared.gateways.Gateways.{Gateways}
use Rattle.zq_machine.specs.declared.call.Call.TheVariants as call
use Rattle.zq_machine.specs.declared.call.Refusal.TheVariants as refusal
use Rattle.zq_machine.specs.Configs.{Settings}
use Rattle.zq_machine.specs.Deciding.{refusal_of as machine_refusal}
use Rattle.zq_machine.specs.State.{State, has_hat, is_region, kind_of}
use Rattle.zq_machine.specs.TextCalls.{read}
use Rattle.zq_trace.specs.Faces.{Trace}
use Rattle.zq_trace.specs.Machine.{AreSmall}
use Rattle.zq_trace.specs.Refusals.{Lacks, refusal_of}
use Rattle.zq_trace.specs.Selected.{regions}
use Rattle.zq_trace.proofs.Finals.{at_number}
use Rattle.zq_trace.proofs.Hats.{StandsSo, all_stand, region_in, regions_are}
use Rattle.zq_trace.proofs.Picks.{looked}
use Rattle.zq_trace.proofs.Regions.{one_region}
use Rattle.zq_trace.proofs.Runs.{reached}

module _ (config : Settings) (past : Trace) (small : AreSmall config) (r : Region) where
  abbrev s : State
  s = reached config past

  abbrev is_it : Region → Bool
  is_it p = region_index p == region_index r

  by_place : (es : List (ℕ × HatState)) → AllByRecursion (λ (e : ℕ × HatState). StandsSo config (e.0, kind_of e.1)) es → list_any is_it (map (region_in config) (values_of es)) ≡ is_some (lookup (is_at (nat_cmp (region_index r))) es)
  by_place [] all = refl
  by_place (e ∷ es) all =
      (λ j. (sym all.0.place j == region_index r) || by_place es all.1 j)
      ∙ one (is_at (nat_cmp (region_index r)) e.0) (e.0 == region_index r) (at_number (region_index r) e.0) (lookup (is_at (nat_cmp (region_index r))) es)
    where
      one : (a b : Bool) → a ≡ b → (o : Option HatState) → (b || is_some o) ≡ is_some (cond a (Some e.1) o)
      one true b same o = ap (λ x. x || is_some o) (sym same)
      one false b same o = ap (λ x. x || is_some o) (sym same)

  has_place : is_some (value_at s.core.hats r) ≡ true → is_region r ≡ true
  has_place h = by (value_at s.core.hats r) refl h
    where
      by : (o : Option HatState) → value_at s.core.hats r ≡ o → is_some o ≡ true → is_region r ≡ true
      by None e yes' = absurd (false≢true yes')
      by (Some x) e yes' =
          let it : StandsSo config (region_index r, kind_of x) = looked (λ y. StandsSo config (y.0, kind_of y.1)) (region_index r) x s.core.hats (all_stand config past small) e in
          ap is_region (one_region r x.region it.place) ∙ it.small

  pub region_same : list_any is_it (regions config) ≡ has_hat r s.core
  region_same = ap (list_any is_it) (regions_are config past) ∙ by_place s.core.hats (all_stand config past small) ∙ by (is_region r) refl
    where
      by : (b : Bool) → is_region r ≡ b → is_some (value_at s.core.hats r) ≡ is_some (if is_region r then value_at s.core.hats r else None)
      by true e = sym (ap (λ x. is_some (if x then value_at s.core.hats r else None)) e)
      by false e = none (is_some (value_at s.core.hats r)) refl ∙ sym (ap (λ x. is_some (if x then value_at s.core.hats r else None)) e)
        where
          none : (b : Bool) → is_some (value_at s.core.hats r) ≡ b → is_some (value_at s.core.hats r) ≡ false
          none true h = absurd (true≢false (sym (has_place h) ∙ e))
          none false h = h

  pub region_refuses : (lacks : Lacks) (g : Gateways) → refusal_of lacks config past (call.SetGateways r g) ≡ machine_refusal s.core (read s (call.SetGateways r g))
  region_refuses lacks g = ap (λ b. cond (not b) (Some refusal.UnknownRegion) None) region_same

  pub network_refuses : (lacks : Lacks) (n : Network) → refusal_of lacks config past (call.SetNetwork r n) ≡ machine_refusal s.core (read s (call.SetNetwork r n))
  network_refuses lacks n = ap (λ b. cond (not b) (Some refusal.UnknownRegion) None) region_same
