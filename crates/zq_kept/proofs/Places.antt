-- What is found once a route is stored, and once a region's version has changed.
use Rattle.std.proofs.Common.{◌≡◌, ◌∙◌, sym, ap, refl, arith, ℕ, ◌≤◌, ◌<◌, List, [], ◌∷◌, Some, None, Option, cond, Bool, true, false, true≢false, length, length-set, get_or, set, eqb-true}
use Rattle.std.specs.Prelude.{◌==◌, ◌&&◌, unwrap_or, slice_index}
use Rattle.std.specs.Cmp.{nat_cmp_total, nat_eq_equiv}
use Rattle.std.proofs.lemmas.List.{get_or-set_other}
use Rattle.std.proofs.lemmas.Grind.{get_or-set_at}
use Rattle.std.specs.Ordering.{nat_cmp}
use Rattle.std.specs.Map.{lookup, remove_entry}
use Rattle.std.specs.BTreeMap.{is_at}
use Rattle.std.proofs.lemmas.Map.Lookups.{exact_bytes, exact_unsigned}
use Rattle.zq_message.specs.declared.message.Region.{Region}
use Rattle.zq_message.specs.Region.{region_index}
use Rattle.zq_message.specs.RegionMap.{value_at}
use Rattle.zq_key.proofs.Lookups.{at_itself, either_way, same_key}
use Rattle.zq_index.specs.Texts.{at_text, text_cmp}
use Rattle.zq_index.proofs.Orders.{text_total}
use Rattle.zq_route.specs.Routes.{Origin, origin_cmp, origin_of, with_route}
use Rattle.zq_route.proofs.Stored.{route_after}
use Rattle.zq_kept.specs.Table.{Fewer, OtherTexts, IsTable, OfText, Stores, Under, one_text, route_in, route_of, routes_at, routes_to}
use Rattle.zq_kept.specs.declared.text.Spot.{Spot}
use Rattle.zq_kept.specs.Parts.{SetsIn, no_routes}

module _ {T : Type 0} where
  empty_by : (b : Bool) (test : Origin → Bool) → lookup {X = T} test (cond b [] []) ≡ None
  empty_by true test = refl
  empty_by false test = refl

  -- what is found of routes that have one more
  pub sets_found : (v : ℕ) (src s : Region) (node n : ℕ) (route : T) (o : Option (Under T)) → route_in v s n (Some (with_route v src node route (unwrap_or o no_routes))) ≡ cond (is_at (origin_cmp (origin_of src node)) (origin_of s n)) (Some route) (route_in v s n o)
  sets_found v src s node n route None =
      route_after v src s node n route no_routes
      ∙ ap (cond (is_at (origin_cmp (origin_of src node)) (origin_of s n)) (Some route)) (empty_by (0 == v) (is_at (origin_cmp (origin_of s n))))
  sets_found v src s node n route (Some us) = route_after v src s node n route us

-- ---- a route is stored among those of a text
module _ {T : Type 0} (vs : List ℕ) (key : List ℕ) (old new : OfText T) (p : Spot) (route : T) (sets : SetsIn old new p route) (version : p.version ≡ slice_index vs (region_index p.dst)) where
  -- what is found of the text
  abbrev in_text : OfText T → Region → ℕ → Bool → Region → ℕ → Option T
  in_text rs r v b s n = route_in v s n (routes_to r (cond b (Some rs) None))

  abbrev stored : ℕ → Option (Under T) → Option (Under T)
  stored v us = Some (with_route v p.src p.node route (unwrap_or us no_routes))

  here : (k : List ℕ) (b : Bool) → is_at (text_cmp key) k ≡ b → is_at (text_cmp k) key ≡ b
  here k b eb = either_way text_total exact_bytes k key ∙ eb

  stores_by : (r : Region) (k : List ℕ) (s : Region) (n : ℕ) (a b : Bool) → is_at (nat_cmp (region_index p.dst)) (region_index r) ≡ a → is_at (text_cmp key) k ≡ b
      → route_of r k s n (one_text vs key new) ≡ cond (a && b && is_at (origin_cmp (origin_of p.src p.node)) (origin_of s n)) (Some route) (route_of r k s n (one_text vs key old))
  stores_by r k s n true true ea eb =
      let v : ℕ = slice_index vs (region_index r) in
      let i : region_index p.dst ≡ region_index r = same_key nat_cmp_total exact_unsigned _ _ ea in
      ap (λ b. in_text new r v b s n) (here k true eb)
      ∙ ap (route_in v s n) (sets r ∙ ap (λ a. cond a (stored p.version (value_at old p.dst)) (value_at old r)) ea)
      ∙ ap (λ w. route_in v s n (stored w (value_at old p.dst))) version
      ∙ ap (λ x. route_in v s n (stored (slice_index vs x) (routes_at x (Some old)))) i
      ∙ sets_found v p.src s p.node n route (value_at old r)
      ∙ ap (λ b. cond (is_at (origin_cmp (origin_of p.src p.node)) (origin_of s n)) (Some route) (in_text old r v b s n)) (sym (here k true eb))
  stores_by r k s n false true ea eb =
      let v : ℕ = slice_index vs (region_index r) in
      ap (λ b. in_text new r v b s n) (here k true eb)
      ∙ ap (route_in v s n) (sets r ∙ ap (λ a. cond a (stored p.version (value_at old p.dst)) (value_at old r)) ea)
      ∙ ap (λ b. in_text old r v b s n) (sym (here k true eb))
  stores_by r k s n true false ea eb =
      let v : ℕ = slice_index vs (region_index r) in
      ap (λ b. in_text new r v b s n) (here k false eb) ∙ ap (λ b. in_text old r v b s n) (sym (here k false eb))
  stores_by r k s n false false ea eb =
      let v : ℕ = slice_index vs (region_index r) in
      ap (λ b. in_text new r v b s n) (here k false eb) ∙ ap (λ b. in_text old r v b s n) (sym (here k false eb))

  -- one route more is stored
  pub stores : Stores (one_text vs key old) (one_text vs key new) p.dst key p.src p.node route
  stores r k s n = stores_by r k s n _ _ refl refl

  below_set : IsTable (one_text vs key old) → (r : Region) (us : Under T) (a : Bool) → is_at (nat_cmp (region_index p.dst)) (region_index r) ≡ a → cond a (stored p.version (value_at old p.dst)) (value_at old r) ≡ Some us → us.0 ≤ slice_index vs (region_index r)
  below_set t r us true ea is =
      let i : region_index p.dst ≡ region_index r = same_key nat_cmp_total exact_unsigned _ _ ea in
      let w : Under T = with_route p.version p.src p.node route (unwrap_or (value_at old p.dst) no_routes) in
      let e : w ≡ us = (let same : Some w ≡ Some us = is in cc) in
      let v : us.0 ≡ slice_index vs (region_index r) = ap (λ (u : Under T). u.0) (sym e) ∙ version ∙ ap (slice_index vs) i in
      omega (arith, v)
  below_set t r us false ea is =
      t.below key old r us (ap (λ b. cond b (Some old) None) (at_itself text_total exact_bytes key)) is

  below_by : IsTable (one_text vs key old) → (rs : OfText T) (r : Region) (us : Under T) (b : Bool) → cond b (Some new) None ≡ Some rs → value_at rs r ≡ Some us → us.0 ≤ slice_index vs (region_index r)
  below_by t rs r us true e is =
      let same : new ≡ rs = (let both : Some new ≡ Some rs = e in cc) in
      below_set t r us _ refl (sym (sets r) ∙ ap (λ x. value_at x r) same ∙ is)
  below_by t rs r us false e is = absurd (let gap : None ≡ Some rs = e in cc)

  pub stored_table : IsTable (one_text vs key old) → IsTable (one_text vs key new)
  stored_table t = record { all = t.all; below = λ k rs r us e is. below_by t rs r us _ e is }

-- ---- a text goes
module _ {T : Type 0} where
  beside_by : (key k : List ℕ) (e : List ℕ × T) (es : List (List ℕ × T)) (b : Bool) → is_at (text_cmp key) e.0 ≡ b → is_at (text_cmp key) k ≡ false → at_text k (remove_entry (is_at (text_cmp key)) es) ≡ at_text k es
      → at_text k (cond b es (e ∷ remove_entry (is_at (text_cmp key)) es)) ≡ cond (is_at (text_cmp k) e.0) (Some e.1) (at_text k es)
  beside_by key k e es true eb apart ih =
      let t : key ≡ e.0 = same_key text_total exact_bytes key e.0 eb in
      let no : is_at (text_cmp k) e.0 ≡ false = ap (is_at (text_cmp k)) (sym t) ∙ either_way text_total exact_bytes k key ∙ apart in
      sym (ap (λ b. cond b (Some e.1) (at_text k es)) no)
  beside_by key k e es false eb apart ih = ap (cond (is_at (text_cmp k) e.0) (Some e.1)) ih

  beside : (key k : List ℕ) (es : List (List ℕ × T)) → is_at (text_cmp key) k ≡ false → at_text k (remove_entry (is_at (text_cmp key)) es) ≡ at_text k es
  beside key k [] apart = refl
  beside key k (e ∷ es) apart = beside_by key k e es _ refl apart (beside key k es apart)

  left_by : (key k : List ℕ) (es : List (List ℕ × T)) (x : T) (b : Bool) → is_at (text_cmp key) k ≡ b → at_text key (remove_entry (is_at (text_cmp key)) es) ≡ None → at_text k (remove_entry (is_at (text_cmp key)) es) ≡ Some x → at_text k es ≡ Some x
  left_by key k es x true eb gone is =
      let t : key ≡ k = same_key text_total exact_bytes key k eb in
      absurd (let no : None ≡ Some x = sym gone ∙ ap (λ q. at_text q (remove_entry (is_at (text_cmp key)) es)) t ∙ is in cc)
  left_by key k es x false eb gone is = sym (beside key k es eb) ∙ is

  -- what is left was there
  left : (key k : List ℕ) (es fs : List (List ℕ × T)) (x : T) → fs ≡ remove_entry (is_at (text_cmp key)) es → at_text key fs ≡ None → at_text k fs ≡ Some x → at_text k es ≡ Some x
  left key k es fs x after gone is = left_by key k es x _ refl (ap (at_text key) (sym after) ∙ gone) (ap (at_text k) (sym after) ∙ is)

module _ {T : Type 0} (vs : List ℕ) (es fs : List (List ℕ × OfText T)) where
  fewer_by : (key : List ℕ) → fs ≡ remove_entry (is_at (text_cmp key)) es → at_text key fs ≡ None → (r : Region) (k : List ℕ) (s : Region) (n : ℕ) (route : T) (o : Option (OfText T)) → at_text k fs ≡ o → route_in (slice_index vs (region_index r)) s n (routes_to r o) ≡ Some route → route_of r k s n (vs, es) ≡ Some route
  fewer_by key after gone r k s n route None e is = absurd (let no : None ≡ Some route = is in cc)
  fewer_by key after gone r k s n route (Some rs) e is = ap (λ o. route_in (slice_index vs (region_index r)) s n (routes_to r o)) (left key k es fs rs after gone e) ∙ is

  -- each route that is left was there
  pub fewer_out : (key : List ℕ) → fs ≡ remove_entry (is_at (text_cmp key)) es → at_text key fs ≡ None → Fewer (vs, es) (vs, fs)
  fewer_out key after gone r k s n route is = fewer_by key after gone r k s n route _ refl is

  apart_text : (key : List ℕ) → fs ≡ remove_entry (is_at (text_cmp key)) es → (k : List ℕ) → is_at (text_cmp key) k ≡ false → at_text k fs ≡ at_text k es
  apart_text key after k apart = ap (at_text k) after ∙ beside key k es apart

  -- each route of another text is there as before
  pub others_out : (key : List ℕ) → fs ≡ remove_entry (is_at (text_cmp key)) es → OtherTexts (vs, es) (vs, fs) key
  others_out key after r k s n apart = ap (λ o. route_in (slice_index vs (region_index r)) s n (routes_to r o)) (apart_text key after k apart)

  pub forgotten : IsTable (vs, es) → (key : List ℕ) → fs ≡ remove_entry (is_at (text_cmp key)) es → at_text key fs ≡ None → IsTable (vs, fs)
  forgotten t key after gone = record { all = t.all; below = λ k rs r us e is. t.below k rs r us (left key k es fs rs after gone e) is }

-- ---- a version rises
rises_by : (vs : List ℕ) (i j w : ℕ) (b : Bool) → (j == i) ≡ b → i < length vs → get_or vs i 0 ≤ w → get_or vs j 0 ≤ get_or (set vs i w) j 0
rises_by vs i j w true e lt le =
    let same : j ≡ i = eqb-true _ _ e in
    let after = get_or-set_at vs i j w 0 same lt in
    let before : get_or vs j 0 ≡ get_or vs i 0 = ap (λ n. get_or vs n 0) same in
    omega (arith, after, before, le)
rises_by vs i j w false e lt le =
    let after = get_or-set_other vs i j w 0 (λ same. true≢false (sym (ap (λ n. n == i) same ∙ nat_eq_equiv.refl i) ∙ e)) in
    omega (arith, after)

pub raised : {T : Type 0} (vs : List ℕ) (es : List (List ℕ × OfText T)) (i w : ℕ) → i < length vs → get_or vs i 0 ≤ w → IsTable (vs, es) → IsTable (set vs i w, es)
raised vs es i w lt le t = record {
  all = length-set vs i w ∙ t.all;
  below = λ k rs r us e is. let old = t.below k rs r us e is in let up = rises_by vs i (region_index r) w _ refl lt le in omega (arith, old, up);
}
