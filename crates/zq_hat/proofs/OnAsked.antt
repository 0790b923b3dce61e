-- Listings of those keys that meet one that is asked for come to what is on those keys.
use Rattle.std.proofs.Common.{◌≡◌, ◌∙◌, sym, ap, refl, ℕ, Bool, true, false, cond, List, [], ◌∷◌, ◌++◌, Option, Some, None, fold, filter, map}
use Rattle.std.specs.Prelude.{◌||◌}
use Rattle.std.specs.BTreeMap.{is_at}
use Rattle.std.specs.declared.cmp.Ordering.TheVariants.{Less}
use Rattle.std.specs.List.{AllByRecursion, flat_map, list_any}
use Rattle.std.specs.List.Sorted.{IsStrictlySortedBy}
use Rattle.std.specs.Map.{keys_of}
use Rattle.std.specs.Option.{is_some, option_map_or}
use Rattle.std.proofs.lemmas.List.{append-nil}
use Rattle.std.proofs.lemmas.List.Elements.{filter-append}
use Rattle.std.proofs.lemmas.Map.Keys.{sorted_head, sorted_tail}
use Rattle.zq_key.specs.Key.{intersects}
use Rattle.zq_key.proofs.Lookups.{either_way, none_above, same_entries, same_key}
use Rattle.zq_index.specs.Texts.{at_text, text_cmp}
use Rattle.zq_index.proofs.Orders.{text_exact, text_total}
use Rattle.zq_strategy.specs.Kept.{has_any}
use Rattle.zq_hat.specs.declared.sources.Sources.{Sources}
use Rattle.zq_hat.specs.Sources.{SourceTexts, empty, extended, sources_at}
use Rattle.zq_hat.specs.Asked.{asked_part}
use Rattle.zq_hat.specs.Joining.{IsOrdered, Part, part_has, part_on, parts_joined, with_own}
use Rattle.zq_hat.specs.Listings.{Listing, behind, is_listed, listed}
use Rattle.zq_hat.specs.Sourced.{is_asked}
use Rattle.zq_hat.proofs.Listing.{are_listed}
use Rattle.zq_hat.proofs.Parts.{are_joined}

-- ---- entries whose texts pass a test
module _ {X : Type 0} (p : List ℕ → Bool) where
  found_by : (q : List ℕ) (e : List ℕ × X) (es : List (List ℕ × X)) (b c : Bool) → p e.0 ≡ b → is_at (text_cmp q) e.0 ≡ c
      → at_text q (filter (λ e. p e.0) es) ≡ cond (p q) (at_text q es) None
      → at_text q (cond b (e ∷ filter (λ e. p e.0) es) (filter (λ e. p e.0) es)) ≡ cond (p q) (cond c (Some e.1) (at_text q es)) None
  found_by q e es true true passes is ih =
      ap (λ d. cond d (Some e.1) (at_text q (filter (λ e. p e.0) es))) is
      ∙ ap (λ d. cond d (Some e.1) None) (sym (ap p (same_key text_total text_exact q e.0 is) ∙ passes))
  found_by q e es true false passes is ih = ap (λ d. cond d (Some e.1) (at_text q (filter (λ e. p e.0) es))) is ∙ ih
  found_by q e es false true passes is ih =
      let fails : p q ≡ false = ap p (same_key text_total text_exact q e.0 is) ∙ passes in
      ih ∙ ap (λ d. cond d (at_text q es) None) fails ∙ ap (λ d. cond d (Some e.1) None) (sym fails)
  found_by q e es false false passes is ih = ih

  none_by : (b : Bool) (o : Option X) → o ≡ cond b o o
  none_by true o = refl
  none_by false o = refl

  pub found_passed : (q : List ℕ) (es : List (List ℕ × X)) → at_text q (filter (λ e. p e.0) es) ≡ cond (p q) (at_text q es) None
  found_passed q [] = none_by (p q) None
  found_passed q (e ∷ es) = found_by q e es (p e.0) (is_at (text_cmp q) e.0) refl refl (found_passed q es)

  above_by : (k : List ℕ) (e : List ℕ × X) (es : List (List ℕ × X)) (b : Bool) → text_cmp k e.0 ≡ Less → AllByRecursion (λ q. text_cmp k q ≡ Less) (keys_of (filter (λ e. p e.0) es))
      → AllByRecursion (λ q. text_cmp k q ≡ Less) (keys_of (cond b (e ∷ filter (λ e. p e.0) es) (filter (λ e. p e.0) es)))
  above_by k e es true l ih = (l, ih)
  above_by k e es false l ih = ih

  above : (k : List ℕ) (es : List (List ℕ × X)) → AllByRecursion (λ q. text_cmp k q ≡ Less) (keys_of es) → AllByRecursion (λ q. text_cmp k q ≡ Less) (keys_of (filter (λ e. p e.0) es))
  above k [] all = tt
  above k (e ∷ es) all = above_by k e es (p e.0) all.0 (above k es all.1)

  sorted_by : (e : List ℕ × X) (es : List (List ℕ × X)) (b : Bool) → AllByRecursion (λ q. text_cmp e.0 q ≡ Less) (keys_of (filter (λ e. p e.0) es)) → IsStrictlySortedBy text_cmp (keys_of (filter (λ e. p e.0) es))
      → IsStrictlySortedBy text_cmp (keys_of (cond b (e ∷ filter (λ e. p e.0) es) (filter (λ e. p e.0) es)))
  unfolding IsStrictlySortedBy
  sorted_by e es true all ih = (all, ih)
  sorted_by e es false all ih = ih

  pub sorted_passed : (es : List (List ℕ × X)) → IsStrictlySortedBy text_cmp (keys_of es) → IsStrictlySortedBy text_cmp (keys_of (filter (λ e. p e.0) es))
  sorted_passed [] s = s
  sorted_passed (e ∷ es) s = sorted_by e es (p e.0) (above e.0 es (sorted_head text_cmp e.0 (keys_of es) s)) (sorted_passed es (sorted_tail text_cmp e.0 (keys_of es) s))

-- ---- ids on the same keys
same_by : (o m : Option Sources) → is_some o ≡ is_some m → option_map_or (λ (s : Sources). s) o empty ≡ option_map_or (λ (s : Sources). s) m empty → o ≡ m
same_by None None some same = refl
same_by None (Some t) some same = absurd (let gap : false ≡ true = some in cc)
same_by (Some s) None some same = absurd (let gap : true ≡ false = some in cc)
same_by (Some s) (Some t) some same = ap Some same

same_texts : (xs ys : SourceTexts) → IsStrictlySortedBy text_cmp (keys_of xs) → IsStrictlySortedBy text_cmp (keys_of ys) → ((q : List ℕ) → is_some (at_text q xs) ≡ is_some (at_text q ys)) → ((q : List ℕ) → sources_at q xs ≡ sources_at q ys) → xs ≡ ys
same_texts xs ys s t some same = same_entries text_total text_exact xs ys s t (λ q. same_by (at_text q xs) (at_text q ys) (some q) (same q))

-- ---- listings
any_by : {X : Type 0} (p : X → Bool) (x : X) (xs : List X) (b : Bool) → list_any p xs ≡ has_any (filter p xs) → (b || list_any p xs) ≡ has_any (cond b (x ∷ filter p xs) (filter p xs))
any_by p x xs true ih = refl
any_by p x xs false ih = ih

any_passed : {X : Type 0} (p : X → Bool) (xs : List X) → list_any p xs ≡ has_any (filter p xs)
any_passed p [] = refl
any_passed p (x ∷ xs) = any_by p x xs (p x) (any_passed p xs)

has_either : (b : Bool) (ls : List Listing) (o : Option Sources) → is_some o ≡ has_any ls → has_any (cond b ls []) ≡ is_some (cond b o None)
has_either true ls o same = sym same
has_either false ls o same = refl

on_either : (b : Bool) (ls : List Listing) (o : Option Sources) → option_map_or (λ (s : Sources). s) o empty ≡ fold behind empty ls → fold behind empty (cond b ls []) ≡ option_map_or (λ (s : Sources). s) (cond b o None) empty
on_either true ls o same = sym same
on_either false ls o same = refl

-- listings that are, on each key that meets the one that is asked for, all others, and on no other any
pub asked_listed : (asked : List ℕ) (ls all : List Listing) → ((q : List ℕ) → filter (is_listed q) ls ≡ cond (intersects asked q) (filter (is_listed q) all) []) → listed ls ≡ filter (is_asked asked) (listed all)
asked_listed asked ls all same =
    let l = are_listed ls in
    let a = are_listed all in
    same_texts (listed ls) (filter (is_asked asked) (listed all)) l.ordered (sorted_passed (intersects asked) (listed all) a.ordered)
    (λ q.
    l.keys q ∙ any_passed (is_listed q) ls ∙ ap has_any (same q)
    ∙ has_either (intersects asked q) (filter (is_listed q) all) (at_text q (listed all)) (a.keys q ∙ any_passed (is_listed q) all)
    ∙ ap is_some (sym (found_passed (intersects asked) q (listed all))))
    (λ q.
    l.sources q ∙ ap (fold behind empty) (same q)
    ∙ on_either (intersects asked q) (filter (is_listed q) all) (at_text q (listed all)) (a.sources q)
    ∙ ap (λ o. option_map_or (λ (s : Sources). s) o empty) (sym (found_passed (intersects asked) q (listed all))))

-- ---- listings by keys in order, where each key's are on it
module _ {V : Type 0} (f : List ℕ × V → List Listing) (each : (q : List ℕ) (e : List ℕ × V) → filter (is_listed q) (f e) ≡ cond (is_at (text_cmp e.0) q) (f e) []) (q : List ℕ) where
  one_by : (e : List ℕ × V) (es : List (List ℕ × V)) (b : Bool) → is_at (text_cmp e.0) q ≡ b → AllByRecursion (λ k. text_cmp e.0 k ≡ Less) (keys_of es)
      → cond b (f e) [] ++ option_map_or (λ v. f (q, v)) (at_text q es) [] ≡ option_map_or (λ v. f (q, v)) (cond b (Some e.1) (at_text q es)) []
  one_by e es true is all =
      let same : e.0 ≡ q = same_key text_total text_exact e.0 q is in
      let gone : at_text q es ≡ None = ap (λ k. at_text k es) (sym same) ∙ none_above text_total text_exact e.0 es all in
      ap (λ o. f e ++ option_map_or (λ v. f (q, v)) o []) gone ∙ append-nil (f e) ∙ ap (λ k. f (k, e.1)) same
  one_by e es false is all = refl

  pub on_one : (es : List (List ℕ × V)) → IsStrictlySortedBy text_cmp (keys_of es) → filter (is_listed q) (flat_map f es) ≡ option_map_or (λ v. f (q, v)) (at_text q es) []
  on_one [] s = refl
  on_one (e ∷ es) s =
      filter-append (is_listed q) (f e) (flat_map f es)
      ∙ (λ i. each q e i ++ on_one es (sorted_tail text_cmp e.0 (keys_of es) s) i)
      ∙ one_by e es (is_at (text_cmp e.0) q) refl (sorted_head text_cmp e.0 (keys_of es) s)
      ∙ ap (λ b. option_map_or (λ v. f (q, v)) (cond b (Some e.1) (at_text q es)) []) (either_way text_total text_exact e.0 q)

pub either_list : {A X : Type 0} (f : A → List X) (b : Bool) (o : Option A) → option_map_or f (cond b o None) [] ≡ cond b (option_map_or f o []) []
either_list f true o = refl
either_list f false o = refl

-- ---- of listings, those on keys that meet the one that is asked for
module _ (asked q : List ℕ) where
  none_on : (b : Bool) (ls : List Listing) → ls ≡ cond b ls ls
  none_on true ls = refl
  none_on false ls = refl

  passed_by : (l : Listing) (ls : List Listing) (b c : Bool) → intersects asked l.0 ≡ b → is_listed q l ≡ c → filter (is_listed q) (filter (is_asked asked) ls) ≡ cond (intersects asked q) (filter (is_listed q) ls) []
      → filter (is_listed q) (cond b (l ∷ filter (is_asked asked) ls) (filter (is_asked asked) ls)) ≡ cond (intersects asked q) (cond c (l ∷ filter (is_listed q) ls) (filter (is_listed q) ls)) []
  passed_by l ls true true meets is ih =
      let passes : intersects asked q ≡ true = sym (ap (intersects asked) (same_key text_total text_exact l.0 q is)) ∙ meets in
      ap (λ d. cond d (l ∷ filter (is_listed q) (filter (is_asked asked) ls)) (filter (is_listed q) (filter (is_asked asked) ls))) is
      ∙ ap (λ r. l ∷ r) (ih ∙ ap (λ d. cond d (filter (is_listed q) ls) []) passes)
      ∙ ap (λ d. cond d (l ∷ filter (is_listed q) ls) []) (sym passes)
  passed_by l ls true false meets is ih = ap (λ d. cond d (l ∷ filter (is_listed q) (filter (is_asked asked) ls)) (filter (is_listed q) (filter (is_asked asked) ls))) is ∙ ih
  passed_by l ls false true meets is ih =
      let fails : intersects asked q ≡ false = sym (ap (intersects asked) (same_key text_total text_exact l.0 q is)) ∙ meets in
      ih ∙ ap (λ d. cond d (filter (is_listed q) ls) []) fails ∙ ap (λ d. cond d (l ∷ filter (is_listed q) ls) []) (sym fails)
  passed_by l ls false false meets is ih = ih

  pub passed_on : (ls : List Listing) → filter (is_listed q) (filter (is_asked asked) ls) ≡ cond (intersects asked q) (filter (is_listed q) ls) []
  passed_on [] = none_on (intersects asked q) []
  passed_on (l ∷ ls) = passed_by l ls (intersects asked l.0) (is_listed q l) refl refl (passed_on ls)

-- ---- parts
module _ {H : Type 0} (asked : List ℕ) (part : H → Part) where
  abbrev those : H → Part
  those h = asked_part asked (part h)

  ordered_those : (hs : List H) → AllByRecursion IsOrdered (map part hs) → AllByRecursion IsOrdered (map those hs)
  ordered_those [] all = tt
  ordered_those (h ∷ hs) all = (sorted_passed (intersects asked) (part h).1 all.0, ordered_those hs all.1)

  module _ (q : List ℕ) where
    has_by : (b : Bool) → ((all : SourceTexts) → at_text q (filter (is_asked asked) all) ≡ cond b (at_text q all) None) → (hs : List H) → list_any (part_has q) (map those hs) ≡ cond b (list_any (part_has q) (map part hs)) false
    has_by true found [] = refl
    has_by true found (h ∷ hs) = λ i. is_some (found (part h).1 i) || has_by true found hs i
    has_by false found [] = refl
    has_by false found (h ∷ hs) = λ i. is_some (found (part h).1 i) || has_by false found hs i

    on_by : (b : Bool) → ((all : SourceTexts) → at_text q (filter (is_asked asked) all) ≡ cond b (at_text q all) None) → (hs : List H) (s : Sources) → fold (part_on q) s (map those hs) ≡ cond b (fold (part_on q) s (map part hs)) s
    on_by true found [] s = refl
    on_by true found (h ∷ hs) s =
        on_by true found hs (part_on q s (those h))
        ∙ ap (λ o. fold (part_on q) (option_map_or (λ m. extended s (with_own (part h).0 m)) o s) (map part hs)) (found (part h).1)
    on_by false found [] s = refl
    on_by false found (h ∷ hs) s =
        on_by false found hs (part_on q s (those h))
        ∙ ap (λ o. option_map_or (λ m. extended s (with_own (part h).0 m)) o s) (found (part h).1)

    some_either : (b any : Bool) (o : Option Sources) → is_some o ≡ any → cond b any false ≡ is_some (cond b o None)
    some_either true any o same = sym same
    some_either false any o same = refl

    part_either : (b : Bool) (s : Sources) (o : Option Sources) → option_map_or (λ (s : Sources). s) o empty ≡ s → cond b s empty ≡ option_map_or (λ (s : Sources). s) (cond b o None) empty
    part_either true s o same = sym same
    part_either false s o same = refl

  -- parts on those keys, joined, are all parts, joined, on them
  pub asked_joined : (hs : List H) → AllByRecursion IsOrdered (map part hs) → parts_joined (map those hs) ≡ filter (is_asked asked) (parts_joined (map part hs))
  asked_joined hs ordered =
      let l = are_joined (map those hs) (ordered_those hs ordered) in
      let a = are_joined (map part hs) ordered in
      let all = parts_joined (map part hs) in
      let found : (q : List ℕ) (xs : SourceTexts) → at_text q (filter (is_asked asked) xs) ≡ cond (intersects asked q) (at_text q xs) None = λ q xs. found_passed (intersects asked) q xs in
      same_texts (parts_joined (map those hs)) (filter (is_asked asked) all) l.ordered (sorted_passed (intersects asked) all a.ordered)
      (λ q.
      l.keys q ∙ has_by q (intersects asked q) (found q) hs
      ∙ some_either q (intersects asked q) (list_any (part_has q) (map part hs)) (at_text q all) (a.keys q)
      ∙ ap is_some (sym (found q all)))
      (λ q.
      l.sources q ∙ on_by q (intersects asked q) (found q) hs empty
      ∙ part_either q (intersects asked q) (fold (part_on q) empty (map part hs)) (at_text q all) (a.sources q)
      ∙ ap (λ o. option_map_or (λ (s : Sources). s) o empty) (sym (found q all)))
