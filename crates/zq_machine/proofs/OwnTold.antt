-- What own entries hand is true of the gateway's own tree, and a child of it is told of each change.
use Rattle.std.proofs.Common.{◌≡◌, ◌∙◌, refl, sym, ap, ℕ, Bool, true, false, cond, List, [], ◌∷◌, fold, Option, Some, None, ◌⊎◌, inl, inr, eqb-true}
use Rattle.std.specs.Prelude.{◌==◌, ◌&&◌, ◌||◌}
use Rattle.std.specs.BTreeMap.{is_at}
use Rattle.std.specs.List.{AllByRecursion, flat_map, list_any}
use Rattle.std.specs.Option.{is_some, option_map, option_map_or}
use Rattle.std.specs.Ordering.{nat_cmp}
use Rattle.std.specs.Str.{bytes_eq}
use Rattle.std.proofs.lemmas.Bool.{and_parts, false≢true, true≢false}
use Rattle.std.proofs.lemmas.Cmp.{nat_cmp_total}
use Rattle.std.proofs.lemmas.List.Folds.{list_any-append}
use Rattle.std.proofs.lemmas.Map.Lookups.{exact_unsigned}
use Rattle.std.proofs.lemmas.Option.{same_Some}
use Rattle.std.proofs.lemmas.Slice.Eq.{bytes_eq-Decides}
use Rattle.zq_message.specs.declared.message.QueryableInfoType.{QueryableInfoType}
use Rattle.zq_message.specs.declared.message.Region.{Region}
use Rattle.zq_message.specs.declared.message.Zid.{Zid}
use Rattle.zq_message.specs.Region.{region_index}
use Rattle.zq_key.proofs.Lookups.{each_entry}
use Rattle.zq_index.specs.Infos.{same_bool}
use Rattle.zq_strategy.specs.declared.network.Telling.{Telling as TreeTelling}
use Rattle.zq_strategy.specs.Entries.{entry_of}
use Rattle.zq_strategy.specs.Nets.{children_of, is_zid, place_of}
use Rattle.zq_strategy.specs.Tellings.{same_infos}
use Rattle.zq_strategy.specs.declared.types.Strategy.{Strategy}
use Rattle.zq_strategy.specs.declared.types.Strategy.TheVariants as strategy
use Rattle.zq_strategy.specs.Kept.{at_id, has_face, new_hat}
use Rattle.zq_strategy.specs.Regions.{in_routers, strategy_at}
use Rattle.zq_strategy.specs.Routers.{face_with}
use Rattle.zq_strategy.specs.State.{FaceState, HatState}
use Rattle.zq_strategy.specs.Trees.{own_told, to_children}
use Rattle.zq_tables.specs.Naming.{NamingState}
use Rattle.zq_machine.specs.declared.config.Entry.{Entry}
use Rattle.zq_machine.specs.declared.face.OpenFace.{OpenFace}
use Rattle.zq_machine.specs.Agreeing.{stands_in}
use Rattle.zq_machine.specs.Children.{is_face_of}
use Rattle.zq_machine.specs.Configs.{Settings, north_of, region_of}
use Rattle.zq_machine.specs.Deciding.{accepted, refusal_of}
use Rattle.zq_machine.specs.Machine.{accepted_state}
use Rattle.zq_machine.specs.State.{State, at, first_hats, hat_at, with_hat}
use Rattle.zq_machine.specs.TextCalls.{TextCall}
use Rattle.zq_machine.specs.Trees.{all_own_told, is_touched, own_entry, own_told_in, own_told_on, touched}
use Rattle.zq_machine.proofs.Agreed.{InOrder}
use Rattle.zq_machine.proofs.Agreeing.{Tied}
use Rattle.zq_machine.proofs.Changing.{hat_found, itself, number_test, one_number, region_there}
use Rattle.zq_machine.proofs.DueHeard.{seat_there}
use Rattle.zq_machine.proofs.Hats.{AreHatsOf, IsIndex, bare}
use Rattle.zq_machine.proofs.Learning.{is_news}
use Rattle.zq_machine.proofs.Lists.{all_append, all_weaker}
use Rattle.zq_machine.proofs.Owning.{own_kept}
use Rattle.zq_machine.proofs.Placing.{IsOf, child_told, children_are, one_more, one_place, same_zid}
use Rattle.zq_machine.proofs.Worded.{Any, Each, each_found, each_in}

-- ---- informations that are the same are one
same_bits : (a b : Bool) → same_bool a b ≡ true → a ≡ b
same_bits true true e = refl
same_bits true false e = absurd (false≢true e)
same_bits false true e = absurd (false≢true e)
same_bits false false e = refl

same_infos_are : (a b : Option QueryableInfoType) → same_infos a b ≡ true → a ≡ b
same_infos_are None None e = refl
same_infos_are None (Some b) e = absurd (false≢true e)
same_infos_are (Some a) None e = absurd (false≢true e)
same_infos_are (Some a) (Some b) e =
    let p = and_parts (same_bool a.complete b.complete) (a.distance == b.distance) e in
    let bits = same_bits a.complete b.complete p.0 in
    let numbers = eqb-true a.distance b.distance p.1 in
    λ j. Some (record { complete = bits j; distance = numbers j })

-- ---- lists that are put one behind the other
all_flat : {X Y : Type 0} (P : Y → Type 0) (f : X → List Y) (xs : List X) → AllByRecursion (λ x. AllByRecursion P (f x)) xs → AllByRecursion P (flat_map f xs)
all_flat P f [] all = tt
all_flat P f (x ∷ xs) all = all_append P (f x) (flat_map f xs) all.0 (all_flat P f xs all.1)

any_on_key : {Y : Type 0} (p : Y → Bool) (f : List ℕ → List Y) (key : List ℕ) (ks : List (List ℕ)) → list_any (λ k. bytes_eq k key) ks ≡ true → list_any p (f key) ≡ true → list_any p (flat_map f ks) ≡ true
any_on_key p f key [] e told = absurd (false≢true e)
any_on_key p f key (k ∷ ks) e told = list_any-append p (f k) (flat_map f ks) ∙ by (bytes_eq k key) refl e (λ g. any_on_key p f key ks g told)
  where
    by : (b : Bool) → bytes_eq k key ≡ b → (b || list_any (λ k. bytes_eq k key) ks) ≡ true → (list_any (λ k. bytes_eq k key) ks ≡ true → list_any p (flat_map f ks) ≡ true) → (list_any p (f k) || list_any p (flat_map f ks)) ≡ true
    by true is g more = ap (λ b. b || list_any p (flat_map f ks)) (ap (λ x. list_any p (f x)) ((bytes_eq-Decides k key).0 is) ∙ told)
    by false is g more = one_more (list_any p (f k)) (list_any p (flat_map f ks)) (more g)

any_at : {X Y : Type 0} (p : Y → Bool) (f : ℕ × X → List Y) (k : ℕ) (x : X) (es : List (ℕ × X)) → at k es ≡ Some x → list_any p (f (k, x)) ≡ true → list_any p (flat_map f es) ≡ true
any_at p f k x [] e told = absurd (let gap : None ≡ Some x = e in cc)
any_at p f k x (y ∷ es) e told = list_any-append p (f y) (flat_map f es) ∙ by (is_at (nat_cmp k) y.0) refl e (λ g. any_at p f k x es g told)
  where
    by : (b : Bool) → is_at (nat_cmp k) y.0 ≡ b → cond b (Some y.1) (at k es) ≡ Some x → (at k es ≡ Some x → list_any p (flat_map f es) ≡ true) → (list_any p (f y) || list_any p (flat_map f es)) ≡ true
    by true is g more =
        let number : y.0 ≡ k = sym (one_number k y.0 is) in
        let value : y.1 ≡ x = same_Some _ _ g in
        ap (λ b. b || list_any p (flat_map f es)) ((λ j. list_any p (f (number j, value j))) ∙ told)
    by false is g more = one_more (list_any p (f y)) (list_any p (flat_map f es)) (more g)

-- ---- the faces of hats
pub child_seat : (face : ℕ) (h : HatState) (zids : List Zid) → list_any (is_face_of face h) zids ≡ true → has_face face h ≡ true
child_seat face h [] e = absurd (false≢true e)
child_seat face h (z ∷ zids) e = by (face_with z h.faces) refl e (child_seat face h zids)
  where
    number : (n : ℕ) (b : Bool) → (n == face) ≡ b → face_with z h.faces ≡ Some n → (b || list_any (is_face_of face h) zids) ≡ true → (list_any (is_face_of face h) zids ≡ true → has_face face h ≡ true) → has_face face h ≡ true
    number n true is f g more = ap (λ m. has_face m h) (sym (eqb-true n face is)) ∙ seat_there z n h.faces f
    number n false is f g more = more g

    by : (o : Option ℕ) → face_with z h.faces ≡ o → (option_map_or (λ n. n == face) o false || list_any (is_face_of face h) zids) ≡ true → (list_any (is_face_of face h) zids ≡ true → has_face face h ≡ true) → has_face face h ≡ true
    by None f g more = more g
    by (Some n) f g more = number n (n == face) refl f g more

module _ (faces : List (ℕ × OpenFace)) (hats : List (ℕ × HatState)) (names : NamingState) (tied : Tied faces hats names) (face : ℕ) where
  stood : (r : Region) (o : Option OpenFace) → option_map_or (stands_in r) o false ≡ true → (p : OpenFace) × (o ≡ Some p) × (region_index p.region ≡ region_index r)
  stood r None e = absurd (false≢true e)
  stood r (Some p) e = (p, refl, eqb-true (region_index p.region) (region_index r) e)

  -- a face is in one region alone
  pub one_home : (r z : Region) (x y : HatState) → hat_at r hats ≡ Some x → hat_at z hats ≡ Some y → has_face face x ≡ true → has_face face y ≡ true → region_index r ≡ region_index z
  one_home r z x y x_at y_at in_x in_y =
      let a = stood r (at face faces) (sym (tied.seats r x face x_at) ∙ in_x) in
      let b = stood z (at face faces) (sym (tied.seats z y face y_at) ∙ in_y) in
      let same : a.0 ≡ b.0 = let both : Some a.0 ≡ Some b.0 = sym a.1 ∙ b.1 in cc in
      sym a.2 ∙ ap (λ (o : OpenFace). region_index o.region) same ∙ b.2

-- ---- each hat has the gateway's id
IsOwned : Settings → HatState → Type 0
IsOwned config h = h.own ≡ config.zid

all_owned : (config : Settings) (es : List Entry) (hats : List (ℕ × HatState)) → Each Any (IsOwned config) hats → Each Any (IsOwned config) (fold (with_hat config) hats es)
unfolding IsOwned
all_owned config [] hats all = all
all_owned config (e ∷ es) hats all =
    all_owned config es (with_hat config hats e)
    (each_in Any (IsOwned config) nat_cmp hats (region_index (region_of e)) (new_hat (region_of e) (north_of config.entries) config.zid config.start.told) all tt refl)

pub own_id : (config : Settings) (hats : List (ℕ × HatState)) → AreHatsOf config hats → (k : ℕ) (h : HatState) → at k hats ≡ Some h → h.own ≡ config.zid
unfolding IsOwned
own_id config hats are k h e = by (at k (first_hats config)) refl
  where
    now : option_map bare (at k (first_hats config)) ≡ Some (bare h)
    now = sym (are.shape k) ∙ ap (option_map bare) e

    by : (o : Option HatState) → at k (first_hats config) ≡ o → h.own ≡ config.zid
    by None f = absurd (let gap : None ≡ Some (bare h) = sym (ap (option_map bare) f) ∙ now in cc)
    by (Some first) f =
        ap (λ (x : HatState). x.own) (sym (same_Some (bare first) (bare h) (sym (ap (option_map bare) f) ∙ now)))
        ∙ each_found Any (IsOwned config) (is_at (nat_cmp k)) (first_hats config) first f (all_owned config config.entries [] tt)

-- ---- what is news
module _ (face node : ℕ) (key : List ℕ) (t : TreeTelling) where
  pub news_parts : is_news face (Some node) key t ≡ true → (t.face.0 ≡ face) × (t.node ≡ node) × (t.key ≡ key)
  news_parts e =
      let p = and_parts ((t.face.0 == face) && (t.node == node)) (bytes_eq t.key key) e in
      let q = and_parts (t.face.0 == face) (t.node == node) p.0 in
      (eqb-true t.face.0 face q.0, eqb-true t.node node q.1, (bytes_eq-Decides t.key key).0 p.1)

-- ---- a call at a point of a run, and a face that is a child after it
module _ (config : Settings) (s : State) (i : InOrder config s) (t : TextCall) (fits : refusal_of s.core t ≡ None) (j : InOrder config (accepted_state s t))
    (r : Region) (face : ℕ) (root : Zid) (key : List ℕ) (h : HatState) (now : hat_at r (accepted s.core t).hats ≡ Some h) (node : ℕ) (there : place_of h.network root ≡ Some node)
    (child : list_any (is_face_of face h) (children_of h.network root) ≡ true) (routes : strategy_at h ≡ strategy.Router) where
  abbrev before : List (ℕ × HatState)
  before = s.core.hats

  abbrev after : List (ℕ × HatState)
  after = (accepted s.core t).hats

  abbrev place : ℕ
  place = region_index r

  abbrev pub stands : Option QueryableInfoType
  stands = cond (is_zid root config.zid) (own_entry place key after) (entry_of root.0 key h.entries)

  -- where the telling is news, it is true
  abbrev pub IsTrue : TreeTelling → Type 0
  IsTrue x = is_news face (Some node) key x ≡ true → x.info ≡ stands

  pub seat : has_face face h ≡ true
  seat = child_seat face h (children_of h.network root) child

  pub here : at place after ≡ Some h
  here = (region_there r after h now).1

  pub at_home : (k : ℕ) (x : HatState) → at k after ≡ Some x → has_face face x ≡ true → (k ≡ place) × (x ≡ h)
  at_home k x e in_x = by (j.hats.homes k x e)
    where
      by : (x.faces ≡ []) ⊎ IsIndex k → (k ≡ place) × (x ≡ h)
      by (inl none) = absurd (false≢true (sym (ap (λ (l : List (ℕ × FaceState)). is_some (at_id face l)) none) ∙ in_x))
      by (inr z) =
          let z_at : hat_at z.0 after ≡ Some x = hat_found z.0 after (Some x) z.1 (ap (λ n. at n after) z.2 ∙ e) in
          let same : k ≡ place = sym z.2 ∙ one_home (accepted s.core t).faces after (accepted_state s t).names j.tied face z.0 r x h z_at now in_x seat in
          let hat : x ≡ h = let both : Some x ≡ Some h = sym e ∙ ap (λ n. at n after) same ∙ here in cc in
          (same, hat)

  pub own_is : h.own ≡ config.zid
  own_is = own_id config after j.hats place h here

  to_own : (k : ℕ) (x : HatState) → at k after ≡ Some x → (text : List ℕ) → AllByRecursion IsTrue (to_children None x.own text (own_entry k text after) x)
  to_own k x e text =
      all_weaker (IsOf x x.own text (own_entry k text after)) IsTrue
      (λ y it news.
      let parts = news_parts face node key y news in
      let home = at_home k x e (ap (λ n. has_face n x) (sym parts.0) ∙ it.seat) in
      let root_is : h.own ≡ root = one_place h.network h.own root node (ap (λ (w : HatState). place_of w.network w.own) (sym home.1) ∙ it.place ∙ ap Some parts.1) there in
      it.says
      ∙ (λ m. own_entry (home.0 m) ((sym it.key ∙ parts.2) m) after)
      ∙ sym (ap (λ b. cond b (own_entry place key after) (entry_of root.0 key h.entries)) (ap (λ z. is_zid z config.zid) (sym root_is ∙ own_is) ∙ is_itself config.zid)))
      (to_children None x.own text (own_entry k text after) x)
      (children_are None x.own text (own_entry k text after) x)
    where
      is_itself : (z : Zid) → is_zid z z ≡ true
      is_itself z = sym (number_test z.0 z.0) ∙ itself z.0

  own_words_in : (text : List ℕ) (k : ℕ) (x : HatState) → at k after ≡ Some x → AllByRecursion IsTrue (own_told_in before after text (k, x))
  own_words_in text k x e = by (strategy_at x)
    where
      changed : (b : Bool) → AllByRecursion IsTrue (cond b [] (to_children None x.own text (own_entry k text after) x))
      changed true = tt
      changed false = to_own k x e text

      by : (q : Strategy) → AllByRecursion IsTrue (in_routers q (own_told text (own_entry k text before) (own_entry k text after) x) [])
      by strategy.Broker = tt
      by strategy.Client = tt
      by strategy.Peer = tt
      by strategy.Router = changed (same_infos (own_entry k text before) (own_entry k text after))

  own_words_on : (text : List ℕ) → AllByRecursion IsTrue (own_told_on before after text)
  own_words_on text =
      all_flat IsTrue (own_told_in before after text) after
      (each_entry nat_cmp_total exact_unsigned (λ (e : ℕ × HatState). AllByRecursion IsTrue (own_told_in before after text e)) after j.hats.sorted (own_words_in text))

  each_on : (keys : List (List ℕ)) → AllByRecursion (λ text. AllByRecursion IsTrue (own_told_on before after text)) keys
  each_on [] = tt
  each_on (k ∷ keys) = (own_words_on k, each_on keys)

  -- what own entries hand is true
  pub own_true : AllByRecursion IsTrue (all_own_told before after (touched s.core t))
  own_true = all_flat IsTrue (own_told_on before after) (touched s.core t) (each_on (touched s.core t))

  -- and of the gateway's own tree none is left out: where nothing on the key is news, it is as it was
  pub own_unchanged : is_zid root config.zid ≡ true → list_any (is_news face (Some node) key) (all_own_told before after (touched s.core t)) ≡ false → own_entry place key after ≡ own_entry place key before
  own_unchanged own none = by (is_touched s.core t key) refl
    where
      root_is : root ≡ h.own
      root_is = same_zid root config.zid own ∙ sym own_is

      told : same_infos (own_entry place key before) (own_entry place key after) ≡ false → list_any (is_news face (Some node) key) (own_told_in before after key (place, h)) ≡ true
      told e =
          ap (λ q. list_any (is_news face (Some node) key) (in_routers q (own_told key (own_entry place key before) (own_entry place key after) h) [])) routes
          ∙ ap (λ b. list_any (is_news face (Some node) key) (cond b [] (to_children None h.own key (own_entry place key after) h))) e
          ∙ ap (λ z. list_any (is_news face (Some node) key) (to_children None z key (own_entry place key after) h)) (sym root_is)
          ∙ child_told face h None root key key (own_entry place key after) node there refl ((bytes_eq-Decides key key).1 refl) child

      changed : is_touched s.core t key ≡ true → (b : Bool) → same_infos (own_entry place key before) (own_entry place key after) ≡ b → own_entry place key after ≡ own_entry place key before
      changed is true e = sym (same_infos_are (own_entry place key before) (own_entry place key after) e)
      changed is false e =
          absurd (true≢false (sym (any_on_key (is_news face (Some node) key) (own_told_on before after) key (touched s.core t) is
          (any_at (is_news face (Some node) key) (own_told_in before after key) place h after here (told e))) ∙ none))

      by : (b : Bool) → is_touched s.core t key ≡ b → own_entry place key after ≡ own_entry place key before
      by true is = changed is (same_infos (own_entry place key before) (own_entry place key after)) refl
      by false is = own_kept config s t fits i j place key is
