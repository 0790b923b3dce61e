-- What a router's entry hands is true, and a child of its tree is told of it, unless it says it itself.
use Rattle.std.proofs.Common.{◌≡◌, ◌∙◌, refl, sym, ap, subst, ℕ, Bool, true, false, cond, not, List, [], ◌++◌, fold, Option, Some, None, eqb-true}
use Rattle.std.specs.Prelude.{◌==◌, ◌&&◌}
use Rattle.std.specs.BTreeMap.{is_at}
use Rattle.std.specs.List.{AllByRecursion, list_any}
use Rattle.std.specs.Option.{option_and_then, option_map_or}
use Rattle.std.specs.Ordering.{nat_cmp}
use Rattle.std.specs.Str.{bytes_eq}
use Rattle.std.proofs.lemmas.Bool.{false≢true, or_parts, true≢false}
use Rattle.std.proofs.lemmas.List.Folds.{list_any-append}
use Rattle.std.proofs.lemmas.Slice.Eq.{bytes_eq-Decides}
use Rattle.zq_message.specs.declared.message.FaceId.{FaceId}
use Rattle.zq_message.specs.declared.message.QueryableInfoType.{QueryableInfoType}
use Rattle.zq_message.specs.declared.message.Region.{Region}
use Rattle.zq_message.specs.declared.message.Zid.{Zid}
use Rattle.zq_message.specs.Region.{region_index}
use Rattle.zq_key.proofs.Lookups.{at_itself}
use Rattle.zq_index.specs.Holders.{IsOrderedBy}
use Rattle.zq_index.specs.Texts.{text_cmp}
use Rattle.zq_index.proofs.Orders.{text_exact, text_total}
use Rattle.zq_strategy.specs.declared.network.Telling.{Telling as TreeTelling}
use Rattle.zq_strategy.specs.Entries.{entry_of}
use Rattle.zq_strategy.specs.Nets.{children_of, is_zid, place_of}
use Rattle.zq_strategy.specs.declared.types.Strategy.TheVariants as strategy
use Rattle.zq_strategy.specs.Kept.{has_face}
use Rattle.zq_strategy.specs.Regions.{strategy_at}
use Rattle.zq_strategy.specs.Routers.{source_at}
use Rattle.zq_strategy.specs.State.{HatState}
use Rattle.zq_strategy.specs.Trees.{to_children}
use Rattle.zq_machine.specs.declared.face.OpenFace.{OpenFace}
use Rattle.zq_machine.specs.Agreeing.{stands_in}
use Rattle.zq_machine.specs.Children.{is_face_of, said_for, speaks_for, with_news}
use Rattle.zq_machine.specs.Configs.{Settings}
use Rattle.zq_machine.specs.Deciding.{accepted, lacks_router, refusal_of}
use Rattle.zq_machine.specs.Machine.{accepted_state}
use Rattle.zq_machine.specs.Selecting.{router_by}
use Rattle.zq_machine.specs.State.{State, at, change_hat, change_hat_of, hat_at, hat_of}
use Rattle.zq_machine.specs.TextCalls.{TextCall}
use Rattle.zq_machine.specs.Trees.{all_own_told, own_entry, router_told, source_told, touched, tree_told}
use Rattle.zq_machine.proofs.Agreed.{InOrder}
use Rattle.zq_machine.proofs.Changing.{itself, number_test, one_number, region_there}
use Rattle.zq_machine.proofs.Foreign.{Source, by_source, hat_now, source_of, zid_itself}
use Rattle.zq_machine.proofs.Learning.{is_news}
use Rattle.zq_machine.proofs.Lists.{all_weaker}
use Rattle.zq_machine.proofs.OwnTold.{IsTrue, child_seat, news_parts, one_home, own_unchanged, stands}
use Rattle.zq_machine.proofs.Placing.{IsOf, child_told, children_are, one_place, same_zid, text_is}
use Rattle.zq_machine.proofs.Worded.{Any, IsWorded, each_found}

-- ---- texts that are one
text_same : (a b : List ℕ) → is_at (text_cmp a) b ≡ bytes_eq a b
text_same a b = by (is_at (text_cmp a) b) refl (bytes_eq a b) refl
  where
    by : (x : Bool) → is_at (text_cmp a) b ≡ x → (y : Bool) → bytes_eq a b ≡ y → x ≡ y
    by true e true f = refl
    by true e false f = absurd (true≢false (sym ((bytes_eq-Decides a b).1 (sym ((bytes_eq-Decides b a).0 (text_is a b e)))) ∙ f))
    by false e true f = absurd (false≢true (sym e ∙ ap (λ k. is_at (text_cmp a) k) (sym ((bytes_eq-Decides a b).0 f)) ∙ at_itself text_total text_exact a))
    by false e false f = refl

-- ---- a router's entry comes or goes
module _ (config : Settings) (s : State) (i : InOrder config s) (same_config : s.core.config ≡ config) (r : Region) (face : ℕ) (root : Zid) (key : List ℕ)
    (was : HatState) (was_at : hat_at r s.core.hats ≡ Some was) (child_was : list_any (is_face_of face was) (children_of was.network root) ≡ true)
    (t : TextCall) (fits : refusal_of s.core t ≡ None) (j : InOrder config (accepted_state s t)) (h : HatState) (now : hat_at r (accepted s.core t).hats ≡ Some h)
    (node : ℕ) (there : place_of h.network root ≡ Some node) (child : list_any (is_face_of face h) (children_of h.network root) ≡ true) (routes : strategy_at h ≡ strategy.Router) where
  abbrev place : ℕ
  place = region_index r

  abbrev pub Truth : TreeTelling → Type 0
  Truth = IsTrue config s i t fits j r face root key h now node there child routes

  abbrev pub stands_now : Option QueryableInfoType
  stands_now = stands config s i t fits j r face root key h now node there child routes

  abbrev pub stood : Option QueryableInfoType
  stood = cond (is_zid root config.zid) (own_entry place key s.core.hats) (entry_of root.0 key was.entries)

  abbrev pub news : TreeTelling → Bool
  news = is_news face (Some node) key

  abbrev pub all_told : List TreeTelling
  all_told = tree_told s.core (accepted s.core t) t ++ all_own_told s.core.hats (accepted s.core t).hats (touched s.core t)

  -- where nothing is news, what was known, with what the face says itself, stands
  abbrev pub IsComplete : Type 0
  IsComplete = list_any news all_told ≡ false → fold (with_news key) stood (said_for face root s.core t) ≡ stands_now

  pub none_of_own : list_any news all_told ≡ false → list_any news (all_own_told s.core.hats (accepted s.core t).hats (touched s.core t)) ≡ false
  none_of_own none = (or_parts _ _ (sym (list_any-append news (tree_told s.core (accepted s.core t) t) (all_own_told s.core.hats (accepted s.core t).hats (touched s.core t))) ∙ none)).1

  pub none_of_tree : list_any news all_told ≡ false → list_any news (tree_told s.core (accepted s.core t) t) ≡ false
  none_of_tree none = (or_parts _ _ (sym (list_any-append news (tree_told s.core (accepted s.core t) t) (all_own_told s.core.hats (accepted s.core t).hats (touched s.core t))) ∙ none)).0

  -- of the gateway's own tree
  pub own_complete : is_zid root config.zid ≡ true → list_any news all_told ≡ false → stood ≡ stands_now
  own_complete own none =
      (λ m. cond (own m) (own_entry place key s.core.hats) (entry_of root.0 key was.entries))
      ∙ sym (own_unchanged config s i t fits j r face root key h now node there child routes own (none_of_own none))
      ∙ (λ m. cond (sym own m) (own_entry place key (accepted s.core t).hats) (entry_of root.0 key h.entries))

  -- of another's, by its entry
  pub other_stands : is_zid root config.zid ≡ false → entry_of root.0 key h.entries ≡ stands_now
  other_stands other m = cond (sym other m) (own_entry place key (accepted s.core t).hats) (entry_of root.0 key h.entries)

  pub other_stood : is_zid root config.zid ≡ false → stood ≡ entry_of root.0 key was.entries
  other_stood other m = cond (other m) (own_entry place key s.core.hats) (entry_of root.0 key was.entries)

  module _ (f : FaceId) (by : ℕ) (text : List ℕ) (word : Option QueryableInfoType) (k : Zid → HatState → HatState) (lacks : lacks_router f by s.core ≡ false)
      (nets : (z : Zid) (x : HatState) → (k z x).network ≡ x.network)
      (puts : (z : Zid) (x : HatState) → IsOrderedBy nat_cmp x.entries → (q : ℕ) → entry_of q key (k z x).entries ≡ cond (is_at (text_cmp text) key) (cond (is_at (nat_cmp z.0) q) word (entry_of q key x.entries)) (entry_of q key x.entries))
      (changes : (accepted s.core t).hats ≡ (change_hat_of f.0 (by_source f by k) s.core).hats)
      (tells : tree_told s.core (accepted s.core t) t ≡ router_told f by text word s.core)
      (says : (known : Option QueryableInfoType) → fold (with_news key) known (said_for face root s.core t) ≡ cond (speaks_for face root f by s.core) (cond (bytes_eq text key) word known) known) where
    src : Source s.core f by
    src = source_of s.core f by lacks

    abbrev home : Region
    home = src.open_face.region

    abbrev z : Zid
    z = src.router

    hat_is : hat_of f.0 s.core ≡ Some src.hat
    hat_is = ap (option_and_then (λ (x : OpenFace). hat_at x.region s.core.hats)) src.its ∙ src.home

    router_is : router_by f by s.core ≡ Some z
    router_is = ap (option_and_then (source_at f.0 by)) hat_is ∙ src.source

    told_is : tree_told s.core (accepted s.core t) t ≡ to_children (Some f.0) z text word src.hat
    told_is =
        tells
        ∙ ap (λ o. option_map_or (source_told f by text word) o []) hat_is
        ∙ ap (λ o. option_map_or (λ (q : Zid). to_children (Some f.0) q text word src.hat) o []) src.source

    after_at : (q : ℕ) → at q (accepted s.core t).hats ≡ cond (is_at (nat_cmp (region_index home)) q) (Some (k z src.hat)) (at q s.core.hats)
    after_at q =
        ap (at q) (changes ∙ ap (λ o. option_map_or (λ (x : OpenFace). change_hat x.region (by_source f by k) s.core.hats) o s.core.hats) src.its)
        ∙ hat_now home (by_source f by k) s.core.hats src.hat src.home q
        ∙ ap (λ o. cond (is_at (nat_cmp (region_index home)) q) (Some (option_map_or (λ v. k v src.hat) o src.hat)) (at q s.core.hats)) src.source

    here_now : at place (accepted s.core t).hats ≡ Some h
    here_now = (region_there r (accepted s.core t).hats h now).1

    here_was : at place s.core.hats ≡ Some was
    here_was = (region_there r s.core.hats was was_at).1

    -- in another region
    elsewhere : is_at (nat_cmp (region_index home)) place ≡ false → h ≡ was
    elsewhere e = let both : Some h ≡ Some was = sym here_now ∙ after_at place ∙ ap (λ b. cond b (Some (k z src.hat)) (at place s.core.hats)) e ∙ here_was in cc

    -- in the face's region
    at_its : is_at (nat_cmp (region_index home)) place ≡ true → src.hat ≡ was
    at_its e = let both : Some src.hat ≡ Some was = sym (region_there home s.core.hats src.hat src.home).1 ∙ ap (λ n. at n s.core.hats) (one_number (region_index home) place e) ∙ here_was in cc

    changed : is_at (nat_cmp (region_index home)) place ≡ true → h ≡ k z was
    changed e =
        let both : Some h ≡ Some (k z src.hat) = sym here_now ∙ after_at place ∙ ap (λ b. cond b (Some (k z src.hat)) (at place s.core.hats)) e in
        let one : h ≡ k z src.hat = cc in
        one ∙ ap (k z) (at_its e)

    seat_was : has_face face was ≡ true
    seat_was = child_seat face was (children_of was.network root) child_was

    at_home : has_face face src.hat ≡ true → is_at (nat_cmp (region_index home)) place ≡ true
    at_home in_it = ap (λ n. is_at (nat_cmp n) place) (one_home s.core.faces s.core.hats s.names i.tied face home r src.hat was src.home was_at in_it seat_was) ∙ itself place

    not_own : root ≡ z → is_zid root config.zid ≡ false
    not_own same = by_test (is_zid root config.zid) refl
      where
        by_test : (b : Bool) → is_zid root config.zid ≡ b → b ≡ false
        by_test false e = refl
        by_test true e =
            absurd (true≢false (
            sym (ap (λ (q : Zid). is_zid q z) (ap (λ (c : Settings). c.zid) same_config ∙ sym (same_zid root config.zid e) ∙ same) ∙ zid_itself z) ∙ src.foreign))

    ordered : IsOrderedBy nat_cmp was.entries
    ordered = (each_found Any IsWorded (is_at (nat_cmp place)) s.core.hats was here_was i.worded).ordered

    entry_now : is_at (nat_cmp (region_index home)) place ≡ true → entry_of root.0 key h.entries ≡ cond (bytes_eq text key) (cond (is_at (nat_cmp z.0) root.0) word (entry_of root.0 key was.entries)) (entry_of root.0 key was.entries)
    entry_now e =
        ap (λ (x : HatState). entry_of root.0 key x.entries) (changed e)
        ∙ puts z was ordered root.0
        ∙ ap (λ b. cond b (cond (is_at (nat_cmp z.0) root.0) word (entry_of root.0 key was.entries)) (entry_of root.0 key was.entries)) (text_same text key)

    -- what is told of it is true
    pub router_true : AllByRecursion Truth (tree_told s.core (accepted s.core t) t)
    router_true = subst (AllByRecursion Truth) (sym told_is)
        (all_weaker (IsOf src.hat z text word) Truth
        (λ y it is.
        let parts = news_parts face node key y is in
        let home_is = at_home (ap (λ n. has_face n src.hat) (sym parts.0) ∙ it.seat) in
        let net : h.network ≡ src.hat.network = ap (λ (x : HatState). x.network) (changed home_is) ∙ nets z was ∙ ap (λ (x : HatState). x.network) (sym (at_its home_is)) in
        let root_is : root ≡ z = one_place h.network root z node there (ap (λ n. place_of n z) net ∙ it.place ∙ ap Some parts.1) in
        let text_key : bytes_eq text key ≡ true = (bytes_eq-Decides text key).1 (sym it.key ∙ parts.2) in
        it.says
        ∙ sym (entry_now home_is ∙ (λ m. cond (text_key m) (cond ((ap (λ (q : Zid). is_at (nat_cmp z.0) q.0) root_is ∙ itself z.0) m) word (entry_of root.0 key was.entries)) (entry_of root.0 key was.entries)))
        ∙ other_stands (not_own root_is))
        (to_children (Some f.0) z text word src.hat) (children_are (Some f.0) z text word src.hat))

    -- the face's own region is where it is
    seat_its : has_face f.0 src.hat ≡ true
    seat_its = i.tied.seats home src.hat f.0 src.home ∙ ap (λ o. option_map_or (stands_in home) o false) src.its ∙ sym (number_test (region_index home) (region_index home)) ∙ itself (region_index home)

    speaks_is : speaks_for face root f by s.core ≡ ((f.0 == face) && is_zid root z)
    speaks_is = ap (λ o. (f.0 == face) && option_map_or (is_zid root) o false) router_is

    silent : (b : Bool) → ((f.0 == face) && is_zid root z) ≡ b → b ≡ false → (known : Option QueryableInfoType) → fold (with_news key) known (said_for face root s.core t) ≡ known
    silent b e f known = says known ∙ ap (λ x. cond x (cond (bytes_eq text key) word known) known) (speaks_is ∙ e ∙ f)

    away : is_at (nat_cmp (region_index home)) place ≡ false → ((f.0 == face) && is_zid root z) ≡ false
    away e = by_test (f.0 == face) refl
      where
        by_test : (b : Bool) → (f.0 == face) ≡ b → (b && is_zid root z) ≡ false
        by_test false g = refl
        by_test true g = absurd (true≢false (sym (at_home (ap (λ n. has_face n src.hat) (sym (eqb-true f.0 face g)) ∙ seat_its)) ∙ e))

    told_to : is_at (nat_cmp (region_index home)) place ≡ true → root ≡ z → bytes_eq text key ≡ true → (f.0 == face) ≡ false → list_any news (tree_told s.core (accepted s.core t) t) ≡ true
    told_to e root_is same apart =
        ap (list_any news) told_is
        ∙ (λ m. list_any news (to_children (Some f.0) (sym root_is m) text word (at_its e m)))
        ∙ child_told face was (Some f.0) root text key word node (ap (λ n. place_of n root) (sym (ap (λ (x : HatState). x.network) (changed e) ∙ nets z was)) ∙ there) (ap not apart) same child_was

    in_region : is_at (nat_cmp (region_index home)) place ≡ true → list_any news all_told ≡ false → fold (with_news key) (entry_of root.0 key was.entries) (said_for face root s.core t) ≡ entry_of root.0 key h.entries
    in_region e none = says known ∙ ap (λ x. cond x (cond (bytes_eq text key) word known) known) speaks_is ∙ cases (f.0 == face) refl (is_zid root z) refl (bytes_eq text key) refl ∙ sym (entry_now e)
      where
        known : Option QueryableInfoType
        known = entry_of root.0 key was.entries

        zids : is_at (nat_cmp z.0) root.0 ≡ is_zid root z
        zids = number_test z.0 root.0 ∙ turned (z.0 == root.0) refl (root.0 == z.0) refl
          where
            turned : (a : Bool) → (z.0 == root.0) ≡ a → (b : Bool) → (root.0 == z.0) ≡ b → a ≡ b
            turned true g true k = refl
            turned true g false k = absurd (true≢false (sym (ap (λ n. n == z.0) (sym (eqb-true z.0 root.0 g)) ∙ sym (number_test z.0 z.0) ∙ itself z.0) ∙ k))
            turned false g true k = absurd (true≢false (sym (ap (λ n. z.0 == n) (eqb-true root.0 z.0 k) ∙ sym (number_test z.0 z.0) ∙ itself z.0) ∙ g))
            turned false g false k = refl

        cases : (a : Bool) → (f.0 == face) ≡ a → (b : Bool) → is_zid root z ≡ b → (c : Bool) → bytes_eq text key ≡ c → cond (a && b) (cond c word known) known ≡ cond c (cond (is_at (nat_cmp z.0) root.0) word known) known
        cases true p true q true c = sym (ap (λ b. cond b word known) (zids ∙ q))
        cases true p true q false c = refl
        cases true p false q true c = sym (ap (λ b. cond b word known) (zids ∙ q))
        cases true p false q false c = refl
        cases false p true q true c = absurd (true≢false (sym (told_to e (same_zid root z q) c p) ∙ none_of_tree none))
        cases false p true q false c = refl
        cases false p false q true c = sym (ap (λ b. cond b word known) (zids ∙ q))
        cases false p false q false c = refl

    pub router_complete : IsComplete
    router_complete none = by_own (is_zid root config.zid) refl
      where
        no_root : is_zid root config.zid ≡ true → (b : Bool) → (f.0 == face) ≡ b → (a : Bool) → is_zid root z ≡ a → (b && a) ≡ false
        no_root own false g a q = refl
        no_root own true g false q = refl
        no_root own true g true q = absurd (true≢false (sym own ∙ not_own (same_zid root z q)))

        by_home : is_zid root config.zid ≡ false → (b : Bool) → is_at (nat_cmp (region_index home)) place ≡ b → fold (with_news key) stood (said_for face root s.core t) ≡ stands_now
        by_home other true e = ap (λ x. fold (with_news key) x (said_for face root s.core t)) (other_stood other) ∙ in_region e none ∙ other_stands other
        by_home other false e = silent _ refl (away e) stood ∙ other_stood other ∙ ap (λ (x : HatState). entry_of root.0 key x.entries) (sym (elsewhere e)) ∙ other_stands other

        by_own : (b : Bool) → is_zid root config.zid ≡ b → fold (with_news key) stood (said_for face root s.core t) ≡ stands_now
        by_own true own = silent _ refl (no_root own (f.0 == face) refl (is_zid root z) refl) stood ∙ own_complete own none
        by_own false other = by_home other (is_at (nat_cmp (region_index home)) place) refl
