-- Kept offers stay those of their regions: where fewer are kept, where a region's hat has changed and none of its are, and where one more list is kept.
use Rattle.std.proofs.Common.{◌≡◌, ◌∙◌, sym, ap, refl, arith, subst, ℕ, ◌+◌, ◌*◌, List, [], ◌∷◌, ◌++◌, Some, None, Option, cond, Bool, true, false, Bor}
use Rattle.std.specs.Prelude.{◌&&◌}
use Rattle.std.specs.Cmp.{nat_cmp_total}
use Rattle.std.proofs.lemmas.Bool.Decides.{nat_tests}
use Rattle.std.specs.Ordering.{nat_cmp}
use Rattle.std.specs.Option.{is_some}
use Rattle.std.specs.BTreeMap.{is_at}
use Rattle.std.proofs.lemmas.Map.Lookups.{exact_bytes, exact_unsigned}
use Rattle.zq_message.specs.declared.message.Mode.{Mode}
use Rattle.zq_message.specs.declared.message.Mode.TheVariants.{Router, Peer, Client}
use Rattle.zq_message.specs.declared.message.Region.{Region}
use Rattle.zq_message.specs.declared.message.Region.TheVariants.{North, Local, South}
use Rattle.zq_message.specs.Region.{HasIndex, mode_offset, region_index}
use Rattle.zq_key.proofs.Lookups.{at_itself, same_key}
use Rattle.zq_index.specs.Texts.{at_text, text_cmp}
use Rattle.zq_index.proofs.Orders.{text_total}
use Rattle.zq_strategy.specs.declared.offer.QueryTargetQabl.{QueryTargetQabl}
use Rattle.zq_strategy.specs.Offers.{offers_of}
use Rattle.zq_strategy.specs.State.{HatState}
use Rattle.zq_machine.specs.State.{change_hat, hat_at, is_region, put_hat}
use Rattle.zq_machine.proofs.Changing.{each_hat}
use Rattle.zq_route.specs.Routes.{Origin, origin_cmp, origin_of}
use Rattle.zq_route.proofs.Stored.{origin_exact, origin_total}
use Rattle.zq_tables.specs.Naming.{NamingState}
use Rattle.zq_kept.proofs.Sweeping.{swept_fewer}
use Rattle.zq_kept.specs.Picked.{lists_of}
use Rattle.zq_kept.specs.Table.{Fewer, NamedRoutes, Stores, route_in, route_of, routes_at, routes_to, same_place, version_of}
use Rattle.std.specs.Prelude.{IfSome, option_copied, slice_index}
use Rattle.zq_kept.specs.Current.{AreCurrent, IsKeptFor, Keeps, KeptOffers, StandsAt, context_for, node_for}
use Rattle.zq_machine.specs.Selecting.{AskerState, offers_to}

-- ---- a region is told by its index
by_modes : (i j : ℕ) (m n : Mode) → 2 + 3 * i + mode_offset m ≡ 2 + 3 * j + mode_offset n → South i m ≡ South j n
by_modes i j Router Router e = ap (λ x. South x Router) (omega (arith, e))
by_modes i j Peer Peer e = ap (λ x. South x Peer) (omega (arith, e))
by_modes i j Client Client e = ap (λ x. South x Client) (omega (arith, e))
by_modes i j Router Peer e = absurd (omega (arith, e))
by_modes i j Router Client e = absurd (omega (arith, e))
by_modes i j Peer Router e = absurd (omega (arith, e))
by_modes i j Peer Client e = absurd (omega (arith, e))
by_modes i j Client Router e = absurd (omega (arith, e))
by_modes i j Client Peer e = absurd (omega (arith, e))

pub region_same : (a b : Region) → region_index a ≡ region_index b → a ≡ b
region_same North North e = refl
region_same North Local e = absurd (omega (arith, e))
region_same North (South j n) e = absurd (omega (arith, e))
region_same Local North e = absurd (omega (arith, e))
region_same Local Local e = refl
region_same Local (South j n) e = absurd (omega (arith, e))
region_same (South i m) North e = absurd (omega (arith, e))
region_same (South i m) Local e = absurd (omega (arith, e))
region_same (South i m) (South j n) e = by_modes i j m n e

-- ---- fewer are kept
pub fewer_current : (t u : KeptOffers) (hats : List (ℕ × HatState)) → Fewer t u → AreCurrent t hats → AreCurrent u hats
fewer_current t u hats fewer current r k s n os is h at = current r k s n os (fewer r k s n os is) h at

-- ---- a region's hat has changed, and none of its offers are kept
module _ (t u : KeptOffers) (dst : Region) (f : HatState → HatState) (hats : List (ℕ × HatState)) (fewer : Fewer t u) (gone : (k : List ℕ) (s : Region) (n : ℕ) → route_of dst k s n u ≡ None) (current : AreCurrent t hats) where
  changed_by : (o : Option HatState) → hat_at dst hats ≡ o → AreCurrent u (put_hat dst f hats o)
  changed_by None e r k s n os is h at = fewer_current t u hats fewer current r k s n os is h at
  changed_by (Some first) e r k s n os is h at =
      each_hat dst first f hats e (λ x. os ≡ offers_of x s k (Some n)) r h (ap (λ o. hat_at r (put_hat dst f hats o)) e ∙ at)
      (λ same was.
      let i : region_index dst ≡ region_index r = same_key nat_cmp_total exact_unsigned _ _ same in
      absurd (let no : None ≡ Some os = sym (gone k s n) ∙ ap (λ x. route_in (slice_index u.0 x) s n (routes_at x (at_text k u.1))) i ∙ is in cc))
      (λ apart was. current r k s n os (fewer r k s n os is) h was)

  pub changed_current : AreCurrent u (change_hat dst f hats)
  changed_current = changed_by (hat_at dst hats) refl

-- ---- one list more is kept
module _ (t u : KeptOffers) (dst src : Region) (key : List ℕ) (node : ℕ) (offers : List QueryTargetQabl) (hats : List (ℕ × HatState)) (stores : Stores t u dst key src node offers) where
  stored_by : (hat : HatState) → hat_at dst hats ≡ Some hat → offers ≡ offers_of hat src key (Some node) → AreCurrent t hats → (r : Region) (k : List ℕ) (s : Region) (n : ℕ) (os : List QueryTargetQabl) (a b c : Bool) → is_at (nat_cmp (region_index dst)) (region_index r) ≡ a → is_at (text_cmp key) k ≡ b → is_at (origin_cmp (origin_of src node)) (origin_of s n) ≡ c
      → cond (a && b && c) (Some offers) (route_of r k s n t) ≡ Some os → (h : HatState) → hat_at r hats ≡ Some h → os ≡ offers_of h s k (Some n)
  stored_by hat there value current r k s n os true true true ea eb ec is h at =
      let dr : dst ≡ r = region_same dst r (same_key nat_cmp_total exact_unsigned _ _ ea) in
      let kk : key ≡ k = same_key text_total exact_bytes key k eb in
      let oo : origin_of src node ≡ origin_of s n = same_key origin_total origin_exact _ _ ec in
      let ss : src ≡ s = region_same src s (ap (λ (o : Origin). o.0) oo) in
      let nn : node ≡ n = ap (λ (o : Origin). o.1) oo in
      let hh : hat ≡ h = (let both : Some hat ≡ Some h = sym there ∙ ap (λ x. hat_at x hats) dr ∙ at in cc) in
      let same : offers ≡ os = (let both : Some offers ≡ Some os = is in cc) in
      sym same ∙ value ∙ (λ j. offers_of (hh j) (ss j) (kk j) (Some (nn j)))
  stored_by hat there value current r k s n os true true false ea eb ec is h at = current r k s n os is h at
  stored_by hat there value current r k s n os true false c ea eb ec is h at = current r k s n os is h at
  stored_by hat there value current r k s n os false b c ea eb ec is h at = current r k s n os is h at

  pub stored_current : (hat : HatState) → hat_at dst hats ≡ Some hat → offers ≡ offers_of hat src key (Some node) → AreCurrent t hats → AreCurrent u hats
  stored_current hat there value current r k s n os is h at =
      stored_by hat there value current r k s n os _ _ _ refl refl refl (sym (stores r k s n) ∙ is) h at

  keeps_by : (b : Bool) (o : Option (List QueryTargetQabl)) → is_some o ≡ true → is_some (cond b (Some offers) o) ≡ true
  keeps_by true o e = refl
  keeps_by false o e = e

  pub stored_keeps : Keeps t u
  stored_keeps r k s n e = ap is_some (stores r k s n) ∙ keeps_by (same_place dst key src node r k s n) (route_of r k s n t) e

-- ---- what is kept for an asker
module _ (t u : KeptOffers) (dst src : Region) (key : List ℕ) (node : ℕ) (offers : List QueryTargetQabl) (stores : Stores t u dst key src node offers) where
  -- the list that was stored is there
  pub stored_there : route_of dst key src node u ≡ Some offers
  stored_there =
      stores dst key src node
      ∙ (λ j. cond (at_itself nat_cmp_total exact_unsigned (region_index dst) j && at_itself text_total exact_bytes key j && at_itself origin_total origin_exact (origin_of src node) j) (Some offers) (route_of dst key src node t))

pub region_has_index : (r : Region) → is_region r ≡ true → HasIndex r
region_has_index North e = tt
region_has_index Local e = tt
region_has_index (South id m) e = grind (arith, nat_tests)

found_by : (a : AskerState) (h : HatState) (n : ℕ) (b : Bool) → is_region h.region ≡ b → cond b (context_for a h) None ≡ Some n → (is_region h.region ≡ true) × (context_for a h ≡ Some n)
found_by a h n true eb is = (eb, is)
found_by a h n false eb is = absurd (let gap : None ≡ Some n = is in cc)

-- where there is a node, the region is one
pub node_found : (a : AskerState) (h : HatState) (n : ℕ) → node_for a h ≡ Some n → (is_region h.region ≡ true) × (context_for a h ≡ Some n)
node_found a h n is = found_by a h n _ refl is

-- a list that is kept for the asker is what the region offers to it
pub kept_value : (a : AskerState) (key : List ℕ) (t : KeptOffers) (hats : List (ℕ × HatState)) (h : HatState) (n : ℕ) (os : List QueryTargetQabl) → AreCurrent t hats → StandsAt hats h → node_for a h ≡ Some n → Some os ≡ route_of h.region key a.opened.region n t → os ≡ offers_to a key h
kept_value a key t hats h n os current stands node is =
    let found = node_found a h n node in
    current h.region key a.opened.region n os (sym is) h (stands found.0) ∙ ap (offers_of h a.opened.region key) (sym found.1)

pub some_of : {X : Type 0} (P : X → Type 0) (o : Option (Bor X)) (q : Option X) → option_copied o ≡ q → ((x : X) → Some x ≡ q → P x) → IfSome o (λ b. P b.now)
some_of P None q e f = tt
some_of P (Some b) q e f = f b.now e

pub kept_for : (a : AskerState) (key : List ℕ) (t : KeptOffers) (h : HatState) (n : ℕ) → node_for a h ≡ Some n → is_some (route_of h.region key a.opened.region n t) ≡ true → IsKeptFor a key t h
kept_for a key t h n node there = subst (λ o. IfSome o (λ m. is_some (route_of h.region key a.opened.region m t) ≡ true)) (sym node) there

keeps_by_node : (a : AskerState) (key : List ℕ) (t u : KeptOffers) (h : HatState) (o : Option ℕ) → Keeps t u → IfSome o (λ n. is_some (route_of h.region key a.opened.region n t) ≡ true) → IfSome o (λ n. is_some (route_of h.region key a.opened.region n u) ≡ true)
keeps_by_node a key t u h None keeps e = tt
keeps_by_node a key t u h (Some n) keeps e = keeps h.region key a.opened.region n e

pub keeps_for : (a : AskerState) (key : List ℕ) (t u : KeptOffers) (h : HatState) → Keeps t u → IsKeptFor a key t h → IsKeptFor a key u h
keeps_for a key t u h keeps e = keeps_by_node a key t u h (node_for a h) keeps e

-- a list joins those that were read
pub pushed : (bs : List (Bor (List QueryTargetQabl))) (b : Bor (List QueryTargetQabl)) (os : List QueryTargetQabl) (rest : List (List QueryTargetQabl)) → b.now ≡ os → lists_of (bs ++ b ∷ []) ++ rest ≡ lists_of bs ++ os ∷ rest
pushed [] b os rest e = ap (λ l. l ∷ rest) e
pushed (a ∷ bs) b os rest e = ap (λ l. a.now ∷ l) (pushed bs b os rest e)

-- where no text has routes, all that is kept is current
pub none_current : (t : KeptOffers) (hats : List (ℕ × HatState)) → t.1 ≡ [] → AreCurrent t hats
none_current t hats none r k s n os is h at = absurd (let gap : None ≡ Some os = sym (ap (λ es. route_in (version_of r t) s n (routes_to r (at_text k es))) none) ∙ is in cc)

-- once a sweep has left fewer, these are current
pub swept_current : (t u : KeptOffers) (names : NamingState) (hats : List (ℕ × HatState)) → NamedRoutes t u names → AreCurrent t hats → AreCurrent u hats
swept_current t u names hats routes = fewer_current t u hats (swept_fewer t u names routes)
