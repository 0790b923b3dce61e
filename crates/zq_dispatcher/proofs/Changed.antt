-- What a change of one region's information does to the gateway's own entries, and whom it is told.
use Rattle.std.proofs.Common.{◌≡◌, ◌∙◌, refl, sym, ap, subst, ℕ, ◌+◌, ◌*◌, Bool, true, false, cond, List, [], ◌∷◌, ◌++◌, map, fold, Option, Some, None, eqb-true, arith, true≢false}
use Rattle.std.specs.Prelude.{not, ◌&&◌, ◌==◌}
use Rattle.std.specs.declared.cmp.Ordering.TheVariants.{Less}
use Rattle.std.specs.Ordering.{nat_cmp}
use Rattle.std.specs.BTreeMap.{is_at}
use Rattle.std.specs.List.{AllByRecursion, flat_map, list_any}
use Rattle.std.specs.List.Sorted.{IsStrictlySortedBy}
use Rattle.std.specs.Map.{keys_of, set_value}
use Rattle.std.proofs.lemmas.Map.Keys.{sorted_head, sorted_tail}
use Rattle.std.proofs.lemmas.Bool.{eq-eqb, or_parts}
use Rattle.std.proofs.lemmas.Cmp.{nat_cmp_total}
use Rattle.std.proofs.lemmas.List.Folds.{fold-map}
use Rattle.std.proofs.lemmas.Map.Lookups.{exact_unsigned}
use Rattle.zq_key.proofs.Lookups.{less_apart, same_key, differ}
use Rattle.zq_message.specs.declared.message.Mode.{Mode}
use Rattle.zq_message.specs.declared.message.Mode.TheVariants as mode
use Rattle.zq_message.specs.declared.message.QueryableInfoType.{QueryableInfoType}
use Rattle.zq_message.specs.declared.message.Region.{Region}
use Rattle.zq_message.specs.declared.message.Region.TheVariants as region
use Rattle.zq_strategy.specs.Tellings.{same_infos}
use Rattle.zq_index.specs.Infos.{joined, same_bool}
use Rattle.zq_message.specs.Region.{mode_offset, region_index}
use Rattle.zq_strategy.specs.declared.types.Strategy.{Strategy}
use Rattle.zq_strategy.specs.declared.types.Strategy.TheVariants as strategy
use Rattle.zq_strategy.specs.declared.types.Change.{Change}
use Rattle.zq_strategy.specs.Changes.{changed_by}
use Rattle.zq_strategy.specs.Kept.{region_info}
use Rattle.zq_strategy.specs.Regions.{in_routers, same_mode, same_region, strategy_at}
use Rattle.zq_strategy.specs.State.{HatState}
use Rattle.zq_strategy.specs.Trees.{own_told, to_children}
use Rattle.zq_machine.specs.State.{change_hat, hat_at, put_hat}
use Rattle.zq_machine.specs.Trees.{own_entry, own_told_in, own_told_on, with_other}
use Rattle.zq_dispatcher.specs.declared.entries.NewInfo.{NewInfo}
use Rattle.zq_dispatcher.specs.Own.{has_other_routing, info_as, is_other_routing, own_entry_as, told_as, change_told, with_other_as}

-- ---- regions are the same where their indices are
either : (x y : Bool) → (x ≡ true → y ≡ true) → (y ≡ true → x ≡ true) → x ≡ y
either true true f g = refl
either true false f g = sym (f refl)
either false true f g = g refl
either false false f g = refl

south_same : (a b k : ℕ) → ((a == b) && true) ≡ ((2 + 3 * a + k) == (2 + 3 * b + k))
south_same a b k = by (a == b) refl ∙ either (a == b) ((2 + 3 * a + k) == (2 + 3 * b + k))
    (λ e. let s : a ≡ b = eqb-true a b e in eq-eqb (2 + 3 * a + k) (2 + 3 * b + k) (ap (λ n. 2 + 3 * n + k) s))
    (λ e. let s : 2 + 3 * a + k ≡ 2 + 3 * b + k = eqb-true (2 + 3 * a + k) (2 + 3 * b + k) e in eq-eqb a b (omega (arith, s)))
  where
    by : (x : Bool) → (a == b) ≡ x → (x && true) ≡ x
    by true e = refl
    by false e = refl

never : (x : Bool) → (x ≡ true → ⊥) → x ≡ false
never true f = absurd (f refl)
never false f = refl

and_false : (x : Bool) → (x && false) ≡ false
and_false true = refl
and_false false = refl

south_apart : (a b k l : ℕ) → (2 + 3 * a + k ≡ 2 + 3 * b + l → ⊥) → ((a == b) && false) ≡ ((2 + 3 * a + k) == (2 + 3 * b + l))
south_apart a b k l f = and_false (a == b) ∙ sym (never ((2 + 3 * a + k) == (2 + 3 * b + l)) (λ e. f (eqb-true (2 + 3 * a + k) (2 + 3 * b + l) e)))

south_places : (a b : ℕ) (m n : Mode) → ((a == b) && same_mode m n) ≡ ((2 + 3 * a + mode_offset m) == (2 + 3 * b + mode_offset n))
south_places a b mode.Router mode.Router = south_same a b 0
south_places a b mode.Router mode.Peer = south_apart a b 0 1 (λ e. omega (arith, e))
south_places a b mode.Router mode.Client = south_apart a b 0 2 (λ e. omega (arith, e))
south_places a b mode.Peer mode.Router = south_apart a b 1 0 (λ e. omega (arith, e))
south_places a b mode.Peer mode.Peer = south_same a b 1
south_places a b mode.Peer mode.Client = south_apart a b 1 2 (λ e. omega (arith, e))
south_places a b mode.Client mode.Router = south_apart a b 2 0 (λ e. omega (arith, e))
south_places a b mode.Client mode.Peer = south_apart a b 2 1 (λ e. omega (arith, e))
south_places a b mode.Client mode.Client = south_same a b 2

pub same_places : (r q : Region) → same_region r q ≡ (region_index r == region_index q)
same_places region.North region.North = refl
same_places region.North region.Local = refl
same_places region.North (region.South b n) = sym (never (0 == (2 + 3 * b + mode_offset n)) (λ e. let s : 0 ≡ 2 + 3 * b + mode_offset n = eqb-true 0 (2 + 3 * b + mode_offset n) e in omega (arith, s)))
same_places region.Local region.North = refl
same_places region.Local region.Local = refl
same_places region.Local (region.South b n) = sym (never (1 == (2 + 3 * b + mode_offset n)) (λ e. let s : 1 ≡ 2 + 3 * b + mode_offset n = eqb-true 1 (2 + 3 * b + mode_offset n) e in omega (arith, s)))
same_places (region.South a m) region.North = sym (never ((2 + 3 * a + mode_offset m) == 0) (λ e. let s : 2 + 3 * a + mode_offset m ≡ 0 = eqb-true (2 + 3 * a + mode_offset m) 0 e in omega (arith, s)))
same_places (region.South a m) region.Local = sym (never ((2 + 3 * a + mode_offset m) == 1) (λ e. let s : 2 + 3 * a + mode_offset m ≡ 1 = eqb-true (2 + 3 * a + mode_offset m) 1 e in omega (arith, s)))
same_places (region.South a m) (region.South b n) = south_places a b m n

-- ---- an entry is changed among entries in order
module _ {X : Type 0} (p : ℕ) (v : X) where
  abbrev pub one_changed : ℕ × X → ℕ × X
  one_changed e = cond (e.0 == p) (e.0, v) e

  none_changed : (k : ℕ) (es : List (ℕ × X)) → AllByRecursion (λ q. nat_cmp p q ≡ Less) (keys_of es) → es ≡ map one_changed es
  none_changed k [] all = refl
  none_changed k (e ∷ es) all =
      let apart : (e.0 == p) ≡ false = never (e.0 == p) (λ s. less_apart nat_cmp_total exact_unsigned p e.0 all.0 (sym (eqb-true e.0 p s))) in
      ap (λ l. e ∷ l) (none_changed k es all.1) ∙ ap (λ b. cond b (e.0, v) e ∷ map one_changed es) (sym apart)

  pub each_changed : (es : List (ℕ × X)) → IsStrictlySortedBy nat_cmp (keys_of es) → set_value (is_at (nat_cmp p)) es v ≡ map one_changed es
  each_changed [] s = refl
  each_changed (e ∷ es) s = by (is_at (nat_cmp p) e.0) refl (each_changed es (sorted_tail nat_cmp e.0 (keys_of es) s))
    where
      by : (b : Bool) → is_at (nat_cmp p) e.0 ≡ b → set_value (is_at (nat_cmp p)) es v ≡ map one_changed es → cond b ((e.0, v) ∷ es) (e ∷ set_value (is_at (nat_cmp p)) es v) ≡ one_changed e ∷ map one_changed es
      by true is rest =
          let same : p ≡ e.0 = same_key nat_cmp_total exact_unsigned p e.0 is in
          let here : (e.0 == p) ≡ true = eq-eqb e.0 p (sym same) in
          ap (λ b. cond b (e.0, v) e ∷ es) (sym here)
          ∙ ap (λ l. one_changed e ∷ l) (none_changed p es (subst (λ q. AllByRecursion (λ z. nat_cmp q z ≡ Less) (keys_of es)) (sym same) (sorted_head nat_cmp e.0 (keys_of es) s)))
      by false is rest =
          let apart : (e.0 == p) ≡ false = never (e.0 == p) (λ s. differ nat_cmp_total exact_unsigned p e.0 is (sym (eqb-true e.0 p s))) in
          ap (λ l. e ∷ l) rest
          ∙ ap (λ b. cond b (e.0, v) e ∷ map one_changed es) (sym apart)

-- ---- an information is the same as itself
same_with_itself : (b : Bool) → same_bool b b ≡ true
same_with_itself true = refl
same_with_itself false = refl

pub same_still : (i : Option QueryableInfoType) → same_infos i i ≡ true
same_still None = refl
same_still (Some i) = ap (λ b. b && (i.distance == i.distance)) (same_with_itself i.complete) ∙ eq-eqb i.distance i.distance refl

-- ---- folds and lists over what is changed
fold_alike : {A B : Type 0} (f g : B → A → B) → ((b : B) (x : A) → f b x ≡ g b x) → (b : B) (xs : List A) → fold f b xs ≡ fold g b xs
fold_alike f g same b [] = refl
fold_alike f g same b (x ∷ xs) = fold_alike f g same (f b x) xs ∙ ap (λ c. fold g c xs) (same b x)

flat_alike : {A B C : Type 0} (f : B → List C) (h : A → B) (g : A → List C) → ((x : A) → f (h x) ≡ g x) → (xs : List A) → flat_map f (map h xs) ≡ flat_map g xs
flat_alike f h g same [] = refl
flat_alike f h g same (x ∷ xs) = (λ i. same x i ++ flat_alike f h g same xs i)

-- ---- nothing is told of what stays
flat_none : {A C : Type 0} (f : A → List C) (xs : List A) → ((x : A) → f x ≡ []) → flat_map f xs ≡ []
flat_none f [] none = refl
flat_none f (x ∷ xs) none = (λ i. none x i ++ flat_none f xs none i)

none_by : (key : List ℕ) (k : Strategy) (was is : Option QueryableInfoType) (h : HatState) → was ≡ is → in_routers k (own_told key was is h) [] ≡ []
none_by key strategy.Broker was is h same = refl
none_by key strategy.Client was is h same = refl
none_by key strategy.Peer was is h same = refl
none_by key strategy.Router was is h same = ap (λ b. cond b [] (to_children None h.own key is h)) (ap (λ i. same_infos i is) same ∙ same_still is)

unchanged : (hats : List (ℕ × HatState)) (key : List ℕ) → own_told_on hats hats key ≡ []
unchanged hats key = flat_none (own_told_in hats hats key) hats (λ e. none_by key (strategy_at e.1) (own_entry e.0 key hats) (own_entry e.0 key hats) e.1 refl)

-- ---- a region gets another information
module _ (new : NewInfo) (key : List ℕ) (v : HatState) (info : region_info key v ≡ new.info) where
  abbrev p : ℕ
  p = region_index new.region

  abbrev one : ℕ × HatState → ℕ × HatState
  one e = one_changed p v e

  merged_by : (place : ℕ) (m : Option QueryableInfoType) (e : ℕ × HatState) (b : Bool)
      → with_other place key m (cond b (e.0, v) e) ≡ cond (e.0 == place) m (joined m (cond b new.info (region_info key e.1)))
  merged_by place m e true = ap (λ i. cond (e.0 == place) m (joined m i)) info
  merged_by place m e false = refl

  own_by : (place : ℕ) (hats : List (ℕ × HatState)) → own_entry place key (map one hats) ≡ own_entry_as (Some new) place key hats
  own_by place hats =
      fold-map (with_other place key) one None hats
      ∙ fold_alike (λ m e. with_other place key m (one e)) (with_other_as (Some new) place key) (λ m e. merged_by place m e (e.0 == p)) None hats

  left_out_by : (place : ℕ) (m : Option QueryableInfoType) (e : ℕ × HatState) (b : Bool) → (e.0 == place) ≡ b → place ≡ p → with_other_as (Some new) place key m e ≡ with_other place key m e
  left_out_by place m e true is same = ap (λ b. cond b m (joined m (info_as (Some new) key e))) is ∙ ap (λ b. cond b m (joined m (region_info key e.1))) (sym is)
  left_out_by place m e false is same = ap (λ b. cond (e.0 == place) m (joined m (cond b new.info (region_info key e.1)))) (ap (λ q. e.0 == q) (sym same) ∙ is)

  -- the own entry of a region does not change by its own
  own_here : (place : ℕ) (hats : List (ℕ × HatState)) → place ≡ p → own_entry_as (Some new) place key hats ≡ own_entry place key hats
  own_here place hats same = fold_alike (with_other_as (Some new) place key) (with_other place key) (λ m e. left_out_by place m e (e.0 == place) refl same) None hats

  module _ (hats : List (ℕ × HatState)) where
    told_by : (e : ℕ × HatState) (b : Bool) → (e.0 == p) ≡ b → own_told_in hats (map one hats) key (cond b (e.0, v) e)
        ≡ cond b [] (in_routers (strategy_at e.1) (own_told key (own_entry e.0 key hats) (own_entry_as (Some new) e.0 key hats) e.1) [])
    told_by e true is = none_by key (strategy_at v) (own_entry e.0 key hats) (own_entry e.0 key (map one hats)) v (sym (own_by e.0 hats ∙ own_here e.0 hats (eqb-true e.0 p is)))
    told_by e false is = ap (λ i. in_routers (strategy_at e.1) (own_told key (own_entry e.0 key hats) i e.1) []) (own_by e.0 hats)

    told_once : own_told_on hats (map one hats) key ≡ flat_map (told_as new hats key) hats
    told_once = flat_alike (own_told_in hats (map one hats) key) one (told_as new hats key) (λ e. told_by e (e.0 == p) refl) hats

-- what changed own entries on a key hand is what they hand by the new information
told_changed : (new : NewInfo) (key : List ℕ) (f : HatState → HatState) (h : HatState) (hats : List (ℕ × HatState))
    → IsStrictlySortedBy nat_cmp (keys_of hats) → hat_at new.region hats ≡ Some h → region_info key (f h) ≡ new.info
    → own_told_on hats (change_hat new.region f hats) key ≡ flat_map (told_as new hats key) hats
told_changed new key f h hats sorted there info =
    ap (λ o. own_told_on hats (put_hat new.region f hats o) key) there
    ∙ ap (λ l. own_told_on hats l key) (each_changed (region_index new.region) (f h) hats sorted)
    ∙ told_once new key (f h) info hats

-- where no other region is one of routers, nothing is told
module _ (new : NewInfo) (hats : List (ℕ × HatState)) (key : List ℕ) where
  quiet_in : (e : ℕ × HatState) (b : Bool) (k : Strategy) → (not b && in_routers k true false) ≡ false → (was is : Option QueryableInfoType) → cond b [] (in_routers k (own_told key was is e.1) []) ≡ []
  quiet_in e true k none was is = refl
  quiet_in e false strategy.Broker none was is = refl
  quiet_in e false strategy.Client none was is = refl
  quiet_in e false strategy.Peer none was is = refl
  quiet_in e false strategy.Router none was is = absurd (true≢false none)

  quiet_on : (es : List (ℕ × HatState)) → list_any (is_other_routing (region_index new.region)) es ≡ false → flat_map (told_as new hats key) es ≡ []
  quiet_on [] none = refl
  quiet_on (e ∷ es) none =
      let parts = or_parts (is_other_routing (region_index new.region) e) (list_any (is_other_routing (region_index new.region)) es) none in
      (λ i. quiet_in e (e.0 == region_index new.region) (strategy_at e.1) parts.0 (own_entry e.0 key hats) (own_entry_as (Some new) e.0 key hats) i ++ quiet_on es parts.1 i)

pub quiet : (r : Region) (f : HatState → HatState) (hats : List (ℕ × HatState)) (key : List ℕ) → IsStrictlySortedBy nat_cmp (keys_of hats) → has_other_routing (region_index r) hats ≡ false
    → own_told_on hats (change_hat r f hats) key ≡ []
quiet r f hats key sorted none = by (hat_at r hats) refl
  where
    by : (o : Option HatState) → hat_at r hats ≡ o → own_told_on hats (put_hat r f hats o) key ≡ []
    by None is = unchanged hats key
    by (Some h) is = ap (λ o. own_told_on hats (put_hat r f hats o) key) (sym is) ∙ told_changed (record { region = r; info = region_info key (f h) }) key f h hats sorted is refl ∙ quiet_on (record { region = r; info = region_info key (f h) }) hats key hats none

-- a region without a hat does not change
pub no_hat : (r : Region) (f : HatState → HatState) (hats : List (ℕ × HatState)) (key : List ℕ) → hat_at r hats ≡ None → own_told_on hats (change_hat r f hats) key ≡ []
no_hat r f hats key none = ap (λ o. own_told_on hats (put_hat r f hats o) key) none ∙ unchanged hats key

-- the same of each of some keys
pub quiet_each : (r : Region) (change : Change) (hats : List (ℕ × HatState)) (keys : List (List ℕ)) → IsStrictlySortedBy nat_cmp (keys_of hats) → has_other_routing (region_index r) hats ≡ false
    → flat_map (change_told hats r change) keys ≡ []
quiet_each r change hats keys sorted none = flat_none (change_told hats r change) keys (λ key. quiet r (changed_by change key) hats key sorted none)

-- the same of each of some keys of a region without a hat
pub no_hat_each : (r : Region) (change : Change) (hats : List (ℕ × HatState)) (keys : List (List ℕ)) → hat_at r hats ≡ None → flat_map (change_told hats r change) keys ≡ []
no_hat_each r change hats keys none = flat_none (change_told hats r change) keys (λ key. no_hat r (changed_by change key) hats key none)

-- where a hat changes, what is told is what the new information hands
pub told_by_change : (r : Region) (change : Change) (key : List ℕ) (h : HatState) (hats : List (ℕ × HatState)) → IsStrictlySortedBy nat_cmp (keys_of hats) → hat_at r hats ≡ Some h
    → (i : Option QueryableInfoType) → i ≡ region_info key (changed_by change key h) → flat_map (told_as (record { region = r; info = i }) hats key) hats ≡ change_told hats r change key
told_by_change r change key h hats sorted there i is = sym (told_changed (record { region = r; info = i }) key (changed_by change key) h hats sorted there (sym is))

-- where a hat changes, an own entry is that by the new information
pub own_changed : (new : NewInfo) (key : List ℕ) (f : HatState → HatState) (h : HatState) (place : ℕ) (hats : List (ℕ × HatState))
    → IsStrictlySortedBy nat_cmp (keys_of hats) → hat_at new.region hats ≡ Some h → region_info key (f h) ≡ new.info
    → own_entry place key (change_hat new.region f hats) ≡ own_entry_as (Some new) place key hats
own_changed new key f h place hats sorted there info =
    ap (λ o. own_entry place key (put_hat new.region f hats o)) there
    ∙ ap (λ l. own_entry place key l) (each_changed (region_index new.region) (f h) hats sorted)
    ∙ own_by new key (f h) info place hats
