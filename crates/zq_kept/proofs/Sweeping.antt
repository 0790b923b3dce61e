-- What is found once only some texts are left.
use Rattle.std.proofs.Common.{◌≡◌, ◌∙◌, sym, ap, refl, ℕ, List, Some, None, Option, cond, Bool, true, false}
use Rattle.std.specs.Prelude.{slice_index}
use Rattle.zq_message.specs.declared.message.Region.{Region}
use Rattle.zq_message.specs.Region.{region_index}
use Rattle.zq_index.specs.Texts.{at_text}
use Rattle.zq_tables.specs.Naming.{NamingState, has_context}
use Rattle.std.specs.Option.{is_some}
use Rattle.zq_kept.specs.Current.{Keeps, KeepsNamed, KeptOffers}
use Rattle.zq_kept.specs.Table.{Fewer, IsTable, NamedRoutes, NamedStay, OfText, Table, route_in, route_of, routes_to}

left_by : {X : Type 0} (b : Bool) (o : Option X) (x : X) → cond b o None ≡ Some x → o ≡ Some x
left_by true o x e = e
left_by false o x e = absurd (let gap : None ≡ Some x = e in cc)

module _ {T : Type 0} (vs : List ℕ) (es fs : List (List ℕ × OfText T)) (test : List ℕ → Bool) (left : (k : List ℕ) → at_text k fs ≡ cond (test k) (at_text k es) None) where
  pub swept_table : IsTable (vs, es) → IsTable (vs, fs)
  swept_table t = record { all = t.all; below = λ k rs r us e is. t.below k rs r us (left_by (test k) (at_text k es) rs (sym (left k) ∙ e)) is }

  route_by : (b : Bool) (r : Region) (s : Region) (n : ℕ) (o : Option (OfText T)) → route_in (slice_index vs (region_index r)) s n (routes_to r (cond b o None)) ≡ cond b (route_in (slice_index vs (region_index r)) s n (routes_to r o)) None
  route_by true r s n o = refl
  route_by false r s n o = refl

  pub swept_routes : (r : Region) (k : List ℕ) (s : Region) (n : ℕ) → route_of r k s n (vs, fs) ≡ cond (test k) (route_of r k s n (vs, es)) None
  swept_routes r k s n = ap (λ o. route_in (slice_index vs (region_index r)) s n (routes_to r o)) (left k) ∙ route_by (test k) r s n (at_text k es)

-- ---- what is left was there, and what the names have is left
module _ {T : Type 0} (old new : Table T) (names : NamingState) (routes : NamedRoutes old new names) where
  pub swept_fewer : Fewer old new
  swept_fewer r k s n route is = left_by (has_context k names) (route_of r k s n old) route (sym (routes r k s n) ∙ is)

  pub swept_stay : NamedStay old new names
  swept_stay r k s n named = routes r k s n ∙ ap (λ b. cond b (route_of r k s n old) None) named

-- once room is made, the lists that were kept on a text whose node the names have are kept
pub room_stays : (old swept new : KeptOffers) (names : NamingState) → NamedStay old swept names → Keeps swept new → KeepsNamed names old new
room_stays old swept new names stay keeps r k s n named there = keeps r k s n (ap is_some (stay r k s n named) ∙ there)
