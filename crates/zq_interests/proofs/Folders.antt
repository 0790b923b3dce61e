-- The keys of aggregating interests that meet a key are those that are found where interests are kept.
use Rattle.std.proofs.Common.{◌≡◌, ◌∙◌, sym, ap, refl, subst, ℕ, Bool, true, false, cond, List, [], ◌∷◌, ◌++◌, append_assoc, append-nil, eq-eqb, eqb-true, Some, None, Option, map, fold}
use Rattle.std.specs.Prelude.{◌==◌, ◌||◌, ◌&&◌, filter}
use Rattle.std.specs.BTreeMap.{is_at}
use Rattle.std.specs.Cmp.{nat_cmp_total}
use Rattle.std.specs.List.{AllByRecursion, cons_option, filter_map, flat_map, list_any}
use Rattle.std.specs.List.Sorted.{IsStrictlySortedBy}
use Rattle.std.specs.Map.{keys_of}
use Rattle.std.specs.Option.{is_some, option_map_or}
use Rattle.std.specs.Ordering.{nat_cmp}
use Rattle.std.proofs.lemmas.Bool.{false≢true}
use Rattle.std.proofs.lemmas.Map.Keys.{sorted_head, sorted_tail}
use Rattle.std.proofs.lemmas.Map.Lookups.{exact_unsigned}
use Rattle.zq_key.specs.Key.{intersects, is_key}
use Rattle.zq_key.proofs.Lookups.{at_itself, found_later, same_key}
use Rattle.zq_index.specs.Holders.{Place, place_cmp}
use Rattle.zq_index.specs.Texts.{at_text, text_cmp}
use Rattle.zq_index.proofs.Orders.{place_exact, place_total, text_exact, text_total}
use Rattle.zq_interests.specs.declared.types.FaceKey.{FaceKey}
use Rattle.zq_interests.specs.declared.types.InterestEntry.{InterestEntry}
use Rattle.zq_interests.specs.Interests.{AreFolders, Asked, Interests, at, interest_at, is_folder, own_key, own_keys}
use Rattle.zq_interests.specs.Kept.{AreKept, AreKeys, Keyed, Shelf, Spot, asks_just, folder_at, folders_in, has_place, is_folding, is_under, spots_at, with_spot}
use Rattle.zq_interests.proofs.Asking.{any_joined, both_ways, first_under, later_under, or_left, or_right}
use Rattle.zq_interests.proofs.Keeping.{Text, same_is, same_itself}

pub spots_joined : (spots more : List Spot) → fold with_spot spots more ≡ spots ++ more
spots_joined spots [] = sym (append-nil spots)
spots_joined spots (s ∷ more) = spots_joined (with_spot spots s) more ∙ append_assoc spots (s ∷ []) more

both_true : (a b : Bool) → (a && b) ≡ true → (a ≡ true) × (b ≡ true)
both_true true b e = (refl, e)
both_true false b e = absurd (false≢true e)

-- ---- spots under keys that meet the key
abbrev is_spot : Place → Text → Spot → Bool
is_spot p t s = is_at (place_cmp p) s.0 && is_at (text_cmp t) s.1

module _ (key : Text) (p : Place) (t : Text) where
  one_mapped : (u : Text) (ps : List Place) → list_any (is_spot p t) (map (λ q. (q, u)) ps) ≡ (has_place p ps && is_at (text_cmp t) u)
  one_mapped u [] = refl
  one_mapped u (q ∷ ps) = ap (λ b. (is_at (place_cmp p) q && is_at (text_cmp t) u) || b) (one_mapped u ps) ∙ by (is_at (place_cmp p) q) (has_place p ps) (is_at (text_cmp t) u)
    where
      by : (a b c : Bool) → ((a && c) || (b && c)) ≡ ((a || b) && c)
      by true true true = refl
      by true true false = refl
      by true false true = refl
      by true false false = refl
      by false b c = refl

  record Here (e : Text × List Place) : Type 0 where
    has : has_place p e.1 ≡ true
    same : is_at (text_cmp t) e.0 ≡ true
    met : intersects e.0 key ≡ true

  spot_here : (e : Text × List Place) → list_any (is_spot p t) (spots_at key e) ≡ true → Here e
  spot_here e h = by (intersects e.0 key) refl h
    where
      by : (b : Bool) → intersects e.0 key ≡ b → list_any (is_spot p t) (cond b (map (λ q. (q, e.0)) e.1) []) ≡ true → Here e
      by true is f = let both = both_true (has_place p e.1) (is_at (text_cmp t) e.0) (sym (one_mapped e.0 e.1) ∙ f) in record { has = both.0; same = both.1; met = is }
      by false is f = absurd (false≢true f)

  spot_in : (es : Keyed) → IsStrictlySortedBy text_cmp (keys_of es) → list_any (is_spot p t) (flat_map (spots_at key) es) ≡ true → (is_under t p es ≡ true) × (intersects t key ≡ true)
  spot_in [] s h = absurd (false≢true h)
  spot_in (e ∷ es) s h =
      by (list_any (is_spot p t) (spots_at key e)) refl (sym (any_joined (is_spot p t) (spots_at key e) (flat_map (spots_at key) es)) ∙ h) (spot_in es (sorted_tail text_cmp e.0 (keys_of es) s))
    where
      by : (b : Bool) → list_any (is_spot p t) (spots_at key e) ≡ b → (b || list_any (is_spot p t) (flat_map (spots_at key) es)) ≡ true
          → (list_any (is_spot p t) (flat_map (spots_at key) es) ≡ true → (is_under t p es ≡ true) × (intersects t key ≡ true)) → (is_under t p (e ∷ es) ≡ true) × (intersects t key ≡ true)
      by true is f later =
          let x = spot_here e is in
          let one : e.0 ≡ t = sym (same_key text_total text_exact t e.0 x.same) in
          (subst (λ u. is_under u p (e ∷ es) ≡ true) one (first_under key p e es x.has), ap (λ u. intersects u key) (sym one) ∙ x.met)
      by false is f later = let u = later f in (later_under key p t e es (sorted_head text_cmp e.0 (keys_of es) s) u.0, u.1)

  spot_into : (es : Keyed) → is_under t p es ≡ true → intersects t key ≡ true → list_any (is_spot p t) (flat_map (spots_at key) es) ≡ true
  spot_into [] h met = absurd (false≢true h)
  spot_into (e ∷ es) h met = any_joined (is_spot p t) (spots_at key e) (flat_map (spots_at key) es) ∙ by (is_at (text_cmp t) e.0) refl h (λ u. spot_into es u met)
    where
      by : (b : Bool) → is_at (text_cmp t) e.0 ≡ b → has_place p (option_map_or (λ (ps : List Place). ps) (cond b (Some e.1) (at_text t es)) []) ≡ true → (is_under t p es ≡ true → list_any (is_spot p t) (flat_map (spots_at key) es) ≡ true)
          → (list_any (is_spot p t) (spots_at key e) || list_any (is_spot p t) (flat_map (spots_at key) es)) ≡ true
      by true is f later =
          let here : intersects e.0 key ≡ true = ap (λ k. intersects k key) (sym (same_key text_total text_exact t e.0 is)) ∙ met in
          or_left (list_any (is_spot p t) (spots_at key e)) (list_any (is_spot p t) (flat_map (spots_at key) es))
          (ap (λ b. list_any (is_spot p t) (cond b (map (λ q. (q, e.0)) e.1) [])) here ∙ one_mapped e.0 e.1 ∙ (λ j. f j && is j))
      by false is f later = or_right (list_any (is_spot p t) (spots_at key e)) (list_any (is_spot p t) (flat_map (spots_at key) es)) (later f)

-- ---- spots at which interests are aggregating
module _ (ints : Interests) (face : ℕ) (own : Text) where
  record Folder (ss : List Spot) : Type 0 where
    id : ℕ
    among : list_any (is_spot (face, id) own) ss ≡ true
    folds : is_folding ints ((face, id), own) ≡ true

  folder_of : (ss : List Spot) → list_any (is_folder face own) (map folder_at (filter (is_folding ints) ss)) ≡ true → Folder ss
  folder_of [] h = absurd (false≢true h)
  folder_of (s ∷ ss) h = by (is_folding ints s) refl h (folder_of ss)
    where
      below : Folder ss → Folder (s ∷ ss)
      below x = record { id = x.id; among = or_right (is_spot (face, x.id) own s) (list_any (is_spot (face, x.id) own) ss) x.among; folds = x.folds }

      here : is_folding ints s ≡ true → is_folder face own (folder_at s) ≡ true → Folder (s ∷ ss)
      here folds is =
          let both = both_true (s.0.0 == face) (is_at (text_cmp own) s.1) is in
          let n : s.0.0 ≡ face = eqb-true s.0.0 face both.0 in
          record {
            id = s.0.1;
            among =
                or_left (is_spot (face, s.0.1) own s) (list_any (is_spot (face, s.0.1) own) ss)
                ((λ j. (ap (λ m. is_at (place_cmp (m, s.0.1)) s.0) (sym n) ∙ at_itself place_total place_exact s.0) j && both.1 j));
            folds = ap (λ m. option_map_or (λ (i : InterestEntry). i.aggregate) (interest_at m s.0.1 ints) false) (sym n) ∙ folds;
          }

      by : (b : Bool) → is_folding ints s ≡ b → list_any (is_folder face own) (map folder_at (cond b (s ∷ filter (is_folding ints) ss) (filter (is_folding ints) ss))) ≡ true
          → (list_any (is_folder face own) (map folder_at (filter (is_folding ints) ss)) ≡ true → Folder ss) → Folder (s ∷ ss)
      by true folds f later = first (is_folder face own (folder_at s)) refl f
        where
          first : (b : Bool) → is_folder face own (folder_at s) ≡ b → (b || list_any (is_folder face own) (map folder_at (filter (is_folding ints) ss))) ≡ true → Folder (s ∷ ss)
          first true is g = here folds is
          first false is g = below (later g)
      by false folds f later = below (later f)

  folder_any : (id : ℕ) (ss : List Spot) → is_folding ints ((face, id), own) ≡ true → list_any (is_spot (face, id) own) ss ≡ true → list_any (is_folder face own) (map folder_at (filter (is_folding ints) ss)) ≡ true
  folder_any id [] folds h = absurd (false≢true h)
  folder_any id (s ∷ ss) folds h = by (is_spot (face, id) own s) refl h (folder_any id ss folds)
    where
      rest : List Spot
      rest = filter (is_folding ints) ss

      over : (b : Bool) → list_any (is_folder face own) (map folder_at rest) ≡ true → list_any (is_folder face own) (map folder_at (cond b (s ∷ rest) rest)) ≡ true
      over true f = or_right (is_folder face own (folder_at s)) (list_any (is_folder face own) (map folder_at rest)) f
      over false f = f

      by : (b : Bool) → is_spot (face, id) own s ≡ b → (b || list_any (is_spot (face, id) own) ss) ≡ true → (list_any (is_spot (face, id) own) ss ≡ true → list_any (is_folder face own) (map folder_at rest) ≡ true)
          → list_any (is_folder face own) (map folder_at (cond (is_folding ints s) (s ∷ rest) rest)) ≡ true
      by true is f later =
          let both = both_true (is_at (place_cmp (face, id)) s.0) (is_at (text_cmp own) s.1) is in
          let one : (face, id) ≡ s.0 = same_key place_total place_exact (face, id) s.0 both.0 in
          let here : is_folding ints s ≡ true = ap (λ (q : Place). option_map_or (λ (i : InterestEntry). i.aggregate) (interest_at q.0 q.1 ints) false) (sym one) ∙ folds in
          ap (λ b. list_any (is_folder face own) (map folder_at (cond b (s ∷ rest) rest))) here
          ∙ or_left (is_folder face own (folder_at s)) (list_any (is_folder face own) (map folder_at rest))
          (λ j. eq-eqb s.0.0 face (ap (λ (q : Place). q.0) (sym one)) j && both.1 j)
      by false is f later = over (is_folding ints s) (later f)

-- ---- the own keys of a face
module _ (own : Text) where
  own_at : (id : ℕ) (i : InterestEntry) (es : Asked) → at id es ≡ Some i → own_key i ≡ Some own → list_any (is_at (text_cmp own)) (filter_map (λ (i : ℕ × InterestEntry). own_key i.1) es) ≡ true
  own_at id i [] is k = cc
  own_at id i (e ∷ es) is k = by (is_at (nat_cmp id) e.0) is (λ more. own_at id i es more k)
    where
      rest : List Text
      rest = filter_map (λ (i : ℕ × InterestEntry). own_key i.1) es

      over : (o : Option Text) → list_any (is_at (text_cmp own)) rest ≡ true → list_any (is_at (text_cmp own)) (cons_option o rest) ≡ true
      over None f = f
      over (Some x) f = or_right (is_at (text_cmp own) x) (list_any (is_at (text_cmp own)) rest) f

      by : (b : Bool) → cond b (Some e.1) (at id es) ≡ Some i → (at id es ≡ Some i → list_any (is_at (text_cmp own)) rest ≡ true) → list_any (is_at (text_cmp own)) (cons_option (own_key e.1) rest) ≡ true
      by true f later =
          let same : own_key e.1 ≡ Some own = ap (λ (o : Option InterestEntry). option_map_or (λ (x : InterestEntry). own_key x) o None) f ∙ k in
          ap (λ o. list_any (is_at (text_cmp own)) (cons_option o rest)) same ∙ or_left (is_at (text_cmp own) own) (list_any (is_at (text_cmp own)) rest) (at_itself text_total text_exact own)
      by false f later = over (own_key e.1) (later f)

  record Owning (es : Asked) : Type 0 where
    id : ℕ
    interest : InterestEntry
    there : at id es ≡ Some interest
    key : own_key interest ≡ Some own

  own_found : (es : Asked) → IsStrictlySortedBy nat_cmp (keys_of es) → list_any (is_at (text_cmp own)) (filter_map (λ (i : ℕ × InterestEntry). own_key i.1) es) ≡ true → Owning es
  own_found [] s h = absurd (false≢true h)
  own_found (e ∷ es) s h = by (own_key e.1) refl h (own_found es (sorted_tail nat_cmp e.0 (keys_of es) s))
    where
      rest : List Text
      rest = filter_map (λ (i : ℕ × InterestEntry). own_key i.1) es

      below : Owning es → Owning (e ∷ es)
      below w = record { id = w.id; interest = w.interest; there = found_later nat_cmp_total exact_unsigned w.id e es w.interest (sorted_head nat_cmp e.0 (keys_of es) s) w.there; key = w.key }

      by : (o : Option Text) → own_key e.1 ≡ o → list_any (is_at (text_cmp own)) (cons_option o rest) ≡ true → (list_any (is_at (text_cmp own)) rest ≡ true → Owning es) → Owning (e ∷ es)
      by None is f later = below (later f)
      by (Some x) is f later = first (is_at (text_cmp own) x) refl f
        where
          first : (b : Bool) → is_at (text_cmp own) x ≡ b → (b || list_any (is_at (text_cmp own)) rest) ≡ true → Owning (e ∷ es)
          first true same g = record { id = e.0; interest = e.1; there = ap (λ b. cond b (Some e.1) (at e.0 es)) (at_itself nat_cmp_total exact_unsigned e.0); key = is ∙ ap (λ k. Some k) (sym (same_key text_total text_exact own x same)) }
          first false same g = below (later g)

-- what an aggregating interest with a key is
own_parts : (i : InterestEntry) (own : Text) → own_key i ≡ Some own → (i.aggregate ≡ true) × (i.key ≡ Some own)
own_parts i own e = by i.aggregate refl e
  where
    by : (b : Bool) → i.aggregate ≡ b → cond b i.key None ≡ Some own → (b ≡ true) × (i.key ≡ Some own)
    by true is f = (refl, f)
    by false is f = absurd (let gap : None ≡ Some own = f in cc)

-- ---- those that are found are those that there are
module _ (ints : Interests) (shelf : Shelf) (kept : AreKept ints shelf) (key : Text) (texts : IsStrictlySortedBy text_cmp (keys_of shelf.keyed)) (face : ℕ) (own : Text) where
  abbrev found : List Spot
  found = flat_map (spots_at key) shelf.keyed

  abbrev is_own : Bool
  is_own = list_any (is_at (text_cmp own)) (own_keys face ints)

  forth : list_any (is_folder face own) (folders_in key ints shelf) ≡ true → (intersects own key && is_own) ≡ true
  forth h =
      let x = folder_of ints face own found h in
      let u = spot_in key (face, x.id) own shelf.keyed texts x.among in
      by x.id (interest_at face x.id ints) refl (sym (kept.same (Some own) (face, x.id)) ∙ u.0) x.folds u.1
    where
      owned : (o : Option Asked) → at face ints ≡ o → (id : ℕ) (i : InterestEntry) → at id (option_map_or (λ (es : Asked). es) o []) ≡ Some i → own_key i ≡ Some own
          → list_any (is_at (text_cmp own)) (filter_map (λ (j : ℕ × InterestEntry). own_key j.1) (option_map_or (λ (es : Asked). es) o [])) ≡ true
      owned None e id i there k = absurd (let gap : None ≡ Some i = there in cc)
      owned (Some es) e id i there k = own_at own id i es there k

      by : (id : ℕ) (o : Option InterestEntry) → interest_at face id ints ≡ o → asks_just (Some own) o ≡ true → option_map_or (λ (i : InterestEntry). i.aggregate) o false ≡ true → intersects own key ≡ true → (intersects own key && is_own) ≡ true
      by id None there just folds met = absurd (false≢true just)
      by id (Some i) there just folds met =
          let k : own_key i ≡ Some own = ap (λ b. cond b i.key None) folds ∙ same_is i.key (Some own) just in
          (λ j. met j && owned (at face ints) refl id i there k j)

  back : (intersects own key && is_own) ≡ true → list_any (is_folder face own) (folders_in key ints shelf) ≡ true
  back h = let both = both_true (intersects own key) is_own h in by (at face ints) refl both.0 both.1
    where
      by : (o : Option Asked) → at face ints ≡ o → intersects own key ≡ true → list_any (is_at (text_cmp own)) (filter_map (λ (j : ℕ × InterestEntry). own_key j.1) (option_map_or (λ (es : Asked). es) o [])) ≡ true
          → list_any (is_folder face own) (folders_in key ints shelf) ≡ true
      by None e met has = absurd (false≢true has)
      by (Some es) e met has =
          let w = own_found own es (kept.ids face es e) has in
          let parts = own_parts w.interest own w.key in
          let stands : interest_at face w.id ints ≡ Some w.interest = ap (λ o. at w.id (option_map_or (λ (x : Asked). x) o [])) e ∙ w.there in
          let under : is_under own (face, w.id) shelf.keyed ≡ true = kept.same (Some own) (face, w.id) ∙ ap (asks_just (Some own)) stands ∙ ap (λ (o : Option Text). asks_just (Some own) (Some (record w.interest { key = o }))) parts.1 ∙ same_itself (Some own) in
          let folds : is_folding ints ((face, w.id), own) ≡ true = ap (λ (o : Option InterestEntry). option_map_or (λ (i : InterestEntry). i.aggregate) o false) stands ∙ parts.0 in
          folder_any ints face own w.id found folds (spot_into key (face, w.id) own shelf.keyed under met)

  pub found_folder : list_any (is_folder face own) (folders_in key ints shelf) ≡ (intersects own key && is_own)
  found_folder = both_ways (list_any (is_folder face own) (folders_in key ints shelf)) (intersects own key && is_own) forth back

pub are_folders : (ints : Interests) (shelf : Shelf) → AreKept ints shelf → (key : Text) → IsStrictlySortedBy text_cmp (keys_of shelf.keyed) → AreFolders key ints (folders_in key ints shelf)
are_folders ints shelf kept key texts face own = found_folder ints shelf kept key texts face own

-- ---- their keys are keys
abbrev HasKey : Spot → Type 0
HasKey s = is_key s.1 ≡ true

all_joined : (ss ts : List Spot) → AllByRecursion HasKey ss → AllByRecursion HasKey ts → AllByRecursion HasKey (ss ++ ts)
all_joined [] ts a b = b
all_joined (s ∷ ss) ts a b = (a.0, all_joined ss ts a.1 b)

module _ (key : Text) where
  under_keys : (u : Text) (ps : List Place) → is_key u ≡ true → AllByRecursion HasKey (map (λ q. (q, u)) ps)
  under_keys u [] k = tt
  under_keys u (q ∷ ps) k = (k, under_keys u ps k)

  one_keys : (e : Text × List Place) → is_key e.0 ≡ true → AllByRecursion HasKey (spots_at key e)
  one_keys e k = by (intersects e.0 key)
    where
      by : (b : Bool) → AllByRecursion HasKey (cond b (map (λ q. (q, e.0)) e.1) [])
      by true = under_keys e.0 e.1 k
      by false = tt

  pub spots_keys : (es : Keyed) → AreKeys es → AllByRecursion HasKey (flat_map (spots_at key) es)
  spots_keys [] k = tt
  spots_keys (e ∷ es) k = all_joined (spots_at key e) (flat_map (spots_at key) es) (one_keys e (k e.0 (here (is_at (text_cmp e.0) e.0) (at_itself text_total text_exact e.0)))) (spots_keys es (λ t some. k t (there t (is_at (text_cmp t) e.0) some)))
    where
      here : (b : Bool) → b ≡ true → is_some (cond b (Some e.1) (at_text e.0 es)) ≡ true
      here true is = refl
      here false is = absurd (false≢true is)

      there : (t : Text) (b : Bool) → is_some (at_text t es) ≡ true → is_some (cond b (Some e.1) (at_text t es)) ≡ true
      there t true some = refl
      there t false some = some

pub folders_keys : (ints : Interests) (ss : List Spot) → AllByRecursion HasKey ss → AllByRecursion (λ (f : FaceKey). is_key f.key ≡ true) (map folder_at (filter (is_folding ints) ss))
folders_keys ints [] k = tt
folders_keys ints (s ∷ ss) k = by (is_folding ints s) (folders_keys ints ss k.1)
  where
    by : (b : Bool) → AllByRecursion (λ (f : FaceKey). is_key f.key ≡ true) (map folder_at (filter (is_folding ints) ss)) → AllByRecursion (λ (f : FaceKey). is_key f.key ≡ true) (map folder_at (cond b (s ∷ filter (is_folding ints) ss) (filter (is_folding ints) ss)))
    by true more = (k.0, more)
    by false more = more
