-- What is gathered once of the keys that meet one is what each face of the region folds.
use Rattle.std.proofs.Common.{◌≡◌, ◌∙◌, refl, sym, ap, subst, ℕ, Bool, true, false, cond, List, [], ◌∷◌, filter, fold, map, Option, Some, None}
use Rattle.std.specs.BTreeMap.{insert_entry, is_at}
use Rattle.std.specs.Cmp.{nat_cmp_total}
use Rattle.std.specs.List.{AllByRecursion}
use Rattle.std.specs.Option.{option_and_then, option_map, option_map_or}
use Rattle.std.specs.Ordering.{nat_cmp}
use Rattle.std.proofs.lemmas.Map.Lookups.{exact_unsigned}
use Rattle.zq_message.specs.declared.message.QueryableInfoType.{QueryableInfoType}
use Rattle.zq_message.specs.declared.message.Region.{Region}
use Rattle.zq_message.specs.Region.{region_index}
use Rattle.zq_key.specs.Key.{includes, intersects}
use Rattle.zq_key.proofs.Lookups.{found_after_insertion, same_key}
use Rattle.zq_index.specs.Infos.{joined}
use Rattle.zq_index.specs.Texts.{at_text, has_text, text_cmp}
use Rattle.zq_index.proofs.Merges.{joined_none}
use Rattle.zq_index.proofs.Orders.{text_exact, text_total}
use Rattle.zq_strategy.specs.Changes.{changed_if}
use Rattle.zq_strategy.specs.Fellows.{fellow_info}
use Rattle.zq_strategy.specs.Regions.{same_region, strategy_at}
use Rattle.zq_strategy.specs.State.{HatState}
use Rattle.zq_machine.specs.declared.face.OpenFace.{OpenFace}
use Rattle.zq_machine.specs.Due.{heard_as, heard_by, heard_in, seen_at, with_part}
use Rattle.zq_machine.specs.State.{at, hat_at, is_region}
use Rattle.zq_machine.specs.Trees.{own_entry}
use Rattle.zq_dispatcher.specs.declared.folded.Part.{Part}
use Rattle.zq_dispatcher.specs.declared.types.RegionChange.{RegionChange}
use Rattle.zq_dispatcher.specs.Dues.{all_keys, folded_as, hats_after, heard_at, parts}
use Rattle.zq_dispatcher.specs.Parts.{AreGathered, Folds, change_of, folds_of, gathered, heard_part, part_at, seen_as, with_fold, with_heard}
use Rattle.zq_dispatcher.proofs.Heard.{meeting_put}
use Rattle.zq_dispatcher.proofs.KeysGathered.{all_in}
use Rattle.zq_dispatcher.proofs.Nexts.{heard_beside, heard_changed, heard_none}

-- ---- the keys that are gathered meet the key
passing : (test : List ℕ → Bool) (ks : List (List ℕ)) → AllByRecursion (λ k. test k ≡ true) (filter test ks)
passing test [] = tt
passing test (k ∷ ks) = by (test k) refl (passing test ks)
  where
    by : (b : Bool) → test k ≡ b → AllByRecursion (λ q. test q ≡ true) (filter test ks) → AllByRecursion (λ q. test q ≡ true) (cond b (k ∷ filter test ks) (filter test ks))
    by true is more = (is, more)
    by false is more = more

parts_meet : (touched : List (List ℕ)) (hats : List (ℕ × HatState)) (key : List ℕ) → AllByRecursion (λ k. intersects k key ≡ true) (parts touched hats key)
parts_meet touched hats key =
    let meets : List ℕ → Bool = λ k. intersects k key in
    subst (AllByRecursion (λ k. intersects k key ≡ true)) (sym (meeting_put key touched (filter meets (all_keys hats))))
    (all_in text_cmp (λ k. intersects k key ≡ true) (filter meets touched) (filter meets (all_keys hats)) (passing meets (all_keys hats)) (passing meets touched))

module _ (next : Option RegionChange) (touched : List (List ℕ)) (hats : List (ℕ × HatState)) (face : ℕ) (o : OpenFace) where
  abbrev hear : List ℕ → Option QueryableInfoType
  hear = heard_at next touched face o hats

  -- ---- where the region has a hat
  module _ (h : HatState) (there : hat_at o.region hats ≡ Some h) where
    abbrev place : ℕ
    place = region_index o.region

    still : (k : List ℕ) → heard_by (strategy_at h) (fellow_info face k h) (own_entry place k hats) ≡ heard_as face k hats o
    still k = ap (option_and_then (heard_in face k hats place)) (sym there)

    moved : (k : List ℕ) (c : RegionChange) (b : Bool) → same_region o.region c.region ≡ b
        → heard_by (strategy_at h) (fellow_info face k (changed_if (cond b (Some c.change) None) k h)) (own_entry place k (hats_after (Some c) k hats)) ≡ heard_as face k (hats_after (Some c) k hats) o
    moved k c true same = heard_changed c face k o hats h there same
    moved k c false apart = heard_beside c face k o hats h there apart

    -- what is heard on a part is what is heard on its key
    by_change : (k : List ℕ) (n : Option RegionChange) (b : Bool)
        → heard_by (strategy_at h) (fellow_info face k (changed_if (cond b (change_of n o.region) None) k h)) (own_entry place k (cond b (hats_after n k hats) hats)) ≡ cond b (heard_as face k (hats_after n k hats) o) (heard_as face k hats o)
    by_change k n false = still k
    by_change k None true = still k
    by_change k (Some c) true = moved k c (same_region o.region c.region) refl

    heard_is : (key k : List ℕ) → heard_part h (change_of next o.region) face (part_at next touched place hats key k) ≡ hear k
    heard_is key k = by_change k next (has_text k touched)

    step : (key k : List ℕ) (m : Option QueryableInfoType) → intersects k key ≡ true → with_heard h (change_of next o.region) face m (part_at next touched place hats key k) ≡ with_part hear key m k
    step key k m meets =
        ap (λ (i : Option QueryableInfoType). joined m (seen_as (includes k key) i)) (heard_is key k)
        ∙ ap (λ b. cond b (joined m (option_map (seen_at key k) (hear k))) m) (sym meets)

    over : (key : List ℕ) (ks : List (List ℕ)) (m : Option QueryableInfoType) → AllByRecursion (λ k. intersects k key ≡ true) ks
        → fold (with_heard h (change_of next o.region) face) m (map (part_at next touched place hats key) ks) ≡ fold (with_part hear key) m ks
    over key [] m all = refl
    over key (k ∷ ks) m all =
        ap (λ x. fold (with_heard h (change_of next o.region) face) x (map (part_at next touched place hats key) ks)) (step key k m all.0)
        ∙ over key ks (with_part hear key m k) all.1

    -- the entry is what is heard on what is gathered
    pub gathered_fold : (key : List ℕ) → fold (with_heard h (change_of next o.region) face) None (gathered next touched place hats key) ≡ folded_as next touched face o hats key
    gathered_fold key = over key (parts touched hats key) None (parts_meet touched hats key)

  -- ---- where it has none
  module _ (none : hat_at o.region hats ≡ None) where
    unheard_by : (k : List ℕ) (n : Option RegionChange) (b : Bool) → cond b (heard_as face k (hats_after n k hats) o) (heard_as face k hats o) ≡ None
    unheard_by k n false = ap (option_and_then (heard_in face k hats (region_index o.region))) none
    unheard_by k None true = ap (option_and_then (heard_in face k hats (region_index o.region))) none
    unheard_by k (Some c) true = heard_none c face k o hats none

    idle : (key k : List ℕ) (m : Option QueryableInfoType) (b : Bool) → cond b (joined m (option_map (seen_at key k) None)) m ≡ m
    idle key k m true = joined_none m
    idle key k m false = refl

    unheard : (key : List ℕ) (ks : List (List ℕ)) → fold (with_part hear key) None ks ≡ None
    unheard key [] = refl
    unheard key (k ∷ ks) =
        ap (λ x. fold (with_part hear key) x ks)
        (ap (λ (i : Option QueryableInfoType). cond (intersects k key) (joined None (option_map (seen_at key k) i)) None) (unheard_by k next (has_text k touched)) ∙ idle key k None (intersects k key))
        ∙ unheard key ks

    -- nothing is heard
    pub nothing_fold : (key : List ℕ) → None ≡ folded_as next touched face o hats key
    nothing_fold key = sym (unheard key (parts touched hats key))

-- ---- what is kept is what was gathered
module _ (next : Option RegionChange) (touched : List (List ℕ)) (hats : List (ℕ × HatState)) where
  pub none_gathered : AreGathered next touched hats []
  none_gathered place key ps is = absurd (let gap : None ≡ Some ps = is in cc)

  some_same : (a b : List Part) → Some a ≡ Some b → a ≡ b
  some_same a b same = let one : a ≡ b = cc in one

  -- at the place of the new one
  here_by : (p : ℕ) (key k : List ℕ) (folds : Folds) (ps qs : List Part) → AreGathered next touched hats folds → ps ≡ gathered next touched p hats key
      → (b : Bool) → is_at (text_cmp key) k ≡ b → cond b (Some ps) (at_text k (folds_of p folds)) ≡ Some qs → qs ≡ gathered next touched p hats k
  here_by p key k folds ps qs are new true same is =
      sym (some_same ps qs is) ∙ new ∙ ap (gathered next touched p hats) (same_key text_total text_exact key k same)
  here_by p key k folds ps qs are new false apart is = are p k qs is

  at_by : (p q : ℕ) (key k : List ℕ) (folds : Folds) (ps qs : List Part) → AreGathered next touched hats folds → ps ≡ gathered next touched p hats key
      → (b : Bool) → is_at (nat_cmp p) q ≡ b
      → at_text k (option_map_or (λ (ks : List (List ℕ × List Part)). ks) (cond b (Some (insert_entry text_cmp (folds_of p folds) key ps)) (at q folds)) []) ≡ Some qs → qs ≡ gathered next touched q hats k
  at_by p q key k folds ps qs are new true same is =
      let here : p ≡ q = same_key nat_cmp_total exact_unsigned p q same in
      here_by p key k folds ps qs are new (is_at (text_cmp key) k) refl (sym (found_after_insertion text_total text_exact key k ps (folds_of p folds)) ∙ is)
      ∙ ap (λ n. gathered next touched n hats k) here
  at_by p q key k folds ps qs are new false apart is = are q k qs is

  put_by : (r : Region) (key : List ℕ) (ps : List Part) (folds : Folds) → AreGathered next touched hats folds → ps ≡ gathered next touched (region_index r) hats key
      → (b : Bool) → AreGathered next touched hats (cond b (insert_entry nat_cmp folds (region_index r) (insert_entry text_cmp (folds_of (region_index r) folds) key ps)) folds)
  put_by r key ps folds are new true q k qs is =
      let p : ℕ = region_index r in
      at_by p q key k folds ps qs are new (is_at (nat_cmp p) q) refl
      (ap (λ (o : Option (List (List ℕ × List Part))). at_text k (option_map_or (λ (ks : List (List ℕ × List Part)). ks) o [])) (sym (found_after_insertion nat_cmp_total exact_unsigned p q (insert_entry text_cmp (folds_of p folds) key ps) folds)) ∙ is)
  put_by r key ps folds are new false q k qs is = are q k qs is

  -- one more of them
  pub more_gathered : (r : Region) (key : List ℕ) (ps : List Part) (folds : Folds) → AreGathered next touched hats folds → ps ≡ gathered next touched (region_index r) hats key → AreGathered next touched hats (with_fold r key ps folds)
  more_gathered r key ps folds are new = put_by r key ps folds are new (is_region r)

  found_by : (r : Region) (key : List ℕ) (ps : List Part) (folds : Folds) → AreGathered next touched hats folds → (b : Bool) → cond b (at_text key (folds_of (region_index r) folds)) None ≡ Some ps → ps ≡ gathered next touched (region_index r) hats key
  found_by r key ps folds are true is = are (region_index r) key ps is
  found_by r key ps folds are false is = absurd (let gap : None ≡ Some ps = is in cc)

  -- what is found was gathered
  pub found_gathered : (r : Region) (key : List ℕ) (ps : List Part) (folds : Folds) → AreGathered next touched hats folds → cond (is_region r) (at_text key (folds_of (region_index r) folds)) None ≡ Some ps → ps ≡ gathered next touched (region_index r) hats key
  found_gathered r key ps folds are is = found_by r key ps folds are (is_region r) is
