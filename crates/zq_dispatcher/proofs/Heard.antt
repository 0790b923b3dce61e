-- What a face hears, has as one entry, and is due once a hat has changed is what decides after the change, where it changes what is heard on some keys alone.
use Rattle.std.proofs.Common.{◌≡◌, ◌∙◌, refl, sym, ap, subst, ℕ, Bool, true, false, cond, not, List, [], ◌∷◌, ◌++◌, map, filter, fold, Option, Some, None, true≢false}
use Rattle.std.specs.Prelude.{◌&&◌, ◌||◌}
use Rattle.std.specs.BTreeMap.{is_at}
use Rattle.std.specs.BTreeSet.{insert_key}
use Rattle.std.specs.List.{AllByRecursion, flat_map}
use Rattle.std.specs.List.Sorted.{IsStrictlySortedBy}
use Rattle.std.specs.Option.{is_some, option_and_then, option_map_or}
use Rattle.std.proofs.lemmas.List.Kept.{IsStrictlySortedBy-filter}
use Rattle.zq_key.specs.Key.{intersects}
use Rattle.zq_key.proofs.Lookups.{same_key}
use Rattle.zq_index.specs.Texts.{has_text, text_cmp}
use Rattle.zq_index.proofs.Orders.{text_exact, text_total}
use Rattle.zq_strategy.specs.Regions.{is_north, strategy_at}
use Rattle.zq_strategy.specs.State.{HatState}
use Rattle.zq_interests.specs.Interests.{Interests, asks_folded, asks_for}
use Rattle.zq_machine.specs.declared.face.OpenFace.{OpenFace}
use Rattle.zq_machine.specs.Due.{due, due_keys, folded, folds_in, heard, heard_as, listens, listens_by, listens_in}
use Rattle.zq_machine.specs.Neighbours.{due_on, dues_on}
use Rattle.zq_machine.specs.State.{Core, at, hat_at}
use Rattle.zq_machine.proofs.DueKeys.{all_put, due_rise, is_among}
use Rattle.zq_machine.proofs.DueWhole.{adds_keys, heard_keys}
use Rattle.zq_machine.proofs.Folded.{adds, folded_same}
use Rattle.zq_machine.proofs.NeighbourDues.{among_filter}
use Rattle.zq_machine.proofs.Widening.{both_true}
use Rattle.zq_dispatcher.specs.declared.asking.Asking.{Asking}
use Rattle.zq_dispatcher.specs.declared.types.RegionChange.{RegionChange}
use Rattle.zq_dispatcher.specs.Dues.{IsAfter, all_keys, due_as, folded_as, hats_after, hears_as, heard_at, listed_due, listens_as, parts, put_if_meets}
use Rattle.zq_dispatcher.proofs.KeysMet.{all_rise, hats_rise, none_rise}
use Rattle.zq_dispatcher.proofs.Nexts.{listens_after}

abbrev Hats : Type 0
Hats = List (ℕ × HatState)

-- what holds of each of some keys holds of one that is among them
pub held_at : (P : List ℕ → Type 0) (key : List ℕ) (ks : List (List ℕ)) → AllByRecursion P ks → has_text key ks ≡ true → P key
held_at P key [] all on = absurd (true≢false (sym on))
held_at P key (k ∷ ks) all on = by (is_at (text_cmp key) k) refl on (held_at P key ks all.1)
  where
    by : (b : Bool) → is_at (text_cmp key) k ≡ b → (b || has_text key ks) ≡ true → (has_text key ks ≡ true → P key) → P key
    by true is f more = subst P (sym (same_key text_total text_exact key k is)) all.0
    by false is f more = more f

-- what decides sees what a face that is open hears by its place
pub heard_here : (c : Core) (face : ℕ) (o : OpenFace) → at face c.faces ≡ Some o → (key : List ℕ) → heard_as face key c.hats o ≡ heard c face key
heard_here c face o opened key = ap (option_and_then (heard_as face key c.hats)) (sym opened)

-- ---- the same is heard, and listened to
-- a face hears what decides after the call has it hear
pub record IsHeard (c : Core) (next : Option RegionChange) (hats : Hats) (keys : List (List ℕ)) (face : ℕ) (o : OpenFace) : Type 0 where
  pub opened : at face c.faces ≡ Some o
  pub listens : (asks : Bool) → listens_as asks hats o ≡ listens_as asks c.hats o
  pub hears : (key : List ℕ) → heard_at next keys face o hats key ≡ heard c face key
  pub before : (key : List ℕ) → has_text key keys ≡ false → heard_as face key hats o ≡ heard c face key

module _ (c : Core) (next : Option RegionChange) (hats : Hats) (keys : List (List ℕ)) (is : IsAfter c next hats keys) (face : ℕ) (o : OpenFace) (opened : at face c.faces ≡ Some o) where
  heard_by : (key : List ℕ) (b : Bool) → has_text key keys ≡ b → cond b (heard_as face key (hats_after next key hats) o) (heard_as face key hats o) ≡ heard c face key
  heard_by key true on = ap (λ (l : Hats). heard_as face key l o) (held_at (λ k. hats_after next k hats ≡ c.hats) key keys is.after on) ∙ heard_here c face o opened key
  heard_by key false off = sym (is.beside face o opened key off) ∙ heard_here c face o opened key

  listens_by_one : (asks : Bool) (ks : List (List ℕ)) → AllByRecursion (λ key. hats_after next key hats ≡ c.hats) ks → (k : List ℕ) (rest : List (List ℕ)) → ks ≡ k ∷ rest → listens_as asks hats o ≡ listens_as asks c.hats o
  listens_by_one asks [] all k rest e = absurd (let gap : [] ≡ k ∷ rest = e in cc)
  listens_by_one asks (q ∷ qs) all k rest e = sym (listens_after asks q o hats next) ∙ ap (λ (l : Hats). listens_as asks l o) all.0

  pub is_heard : (k : List ℕ) (rest : List (List ℕ)) → keys ≡ k ∷ rest → IsHeard c next hats keys face o
  is_heard k rest some = record {
    opened = opened;
    listens = λ asks. listens_by_one asks keys is.after k rest some;
    hears = λ key. heard_by key (has_text key keys) refl;
    before = λ key off. heard_by key false off;
  }

-- where no hat changes
pub heard_still : (c : Core) (hats : Hats) → hats ≡ c.hats → (face : ℕ) (o : OpenFace) → at face c.faces ≡ Some o → IsHeard c None hats [] face o
heard_still c hats same face o opened = record {
  opened = opened;
  listens = λ asks. ap (λ (l : Hats). listens_as asks l o) same;
  hears = λ key. ap (λ (l : Hats). heard_as face key l o) same ∙ heard_here c face o opened key;
  before = λ key off. ap (λ (l : Hats). heard_as face key l o) same ∙ heard_here c face o opened key;
}

-- ---- what is due
or_right : (a b : Bool) → b ≡ true → (a || b) ≡ true
or_right true b e = refl
or_right false b e = e

or_left : (a b : Bool) → a ≡ true → (a || b) ≡ true
or_left a b e = ap (λ x. x || b) e

-- those of some keys that meet a key are put in
pub meeting_put : (key : List ℕ) (ks texts : List (List ℕ)) → fold (put_if_meets key) texts ks ≡ fold (insert_key text_cmp) texts (filter (λ k. intersects k key) ks)
meeting_put key [] texts = refl
meeting_put key (k ∷ ks) texts = by (intersects k key) (meeting_put key ks)
  where
    by : (b : Bool) → ((more : List (List ℕ)) → fold (put_if_meets key) more ks ≡ fold (insert_key text_cmp) more (filter (λ q. intersects q key) ks))
        → fold (put_if_meets key) (cond b (insert_key text_cmp texts k) texts) ks ≡ fold (insert_key text_cmp) texts (cond b (k ∷ filter (λ q. intersects q key) ks) (filter (λ q. intersects q key) ks))
    by true more = more (insert_key text_cmp texts k)
    by false more = more texts

module _ (c : Core) (ints : Interests) (next : Option RegionChange) (hats : Hats) (keys : List (List ℕ)) (face : ℕ) (o : OpenFace) (is : IsHeard c next hats keys face o) where
  -- the hats before the change have each key on which something is heard by them
  abbrev was : Core
  was = record c { hats = hats }

  there_before : (q : List ℕ) → is_some (heard c face q) ≡ true → has_text q keys ≡ false → is_among q (all_keys hats) ≡ true
  there_before q some off = heard_keys was face q (ap is_some (sym (heard_here was face o is.opened q) ∙ is.before q off) ∙ some)

  -- all that add to an entry are among its parts
  in_parts : (key q : List ℕ) → adds key (heard c face) q ≡ true → is_among q (parts keys hats key) ≡ true
  in_parts key q e =
      ap (is_among q) (meeting_put key keys (filter meets (all_keys hats)))
      ∙ all_put q (filter meets (all_keys hats)) (filter meets keys)
      ∙ (λ j. among_filter meets q keys j || among_filter meets q (all_keys hats) j)
      ∙ by (has_text q keys) refl
    where
      meets : List ℕ → Bool
      meets k = intersects k key

      both : (intersects q key ≡ true) × (is_some (heard c face q) ≡ true)
      both = both_true (intersects q key) (is_some (heard c face q)) e

      by : (b : Bool) → has_text q keys ≡ b → ((meets q && is_among q keys) || (meets q && is_among q (all_keys hats))) ≡ true
      by true on = or_left (meets q && is_among q keys) (meets q && is_among q (all_keys hats)) (λ j. both.0 j && on j)
      by false off = or_right (meets q && is_among q keys) (meets q && is_among q (all_keys hats)) (λ j. both.0 j && there_before q both.1 off j)

  parts_rise : (key : List ℕ) → IsStrictlySortedBy text_cmp (parts keys hats key)
  parts_rise key =
      subst (IsStrictlySortedBy text_cmp) (sym (meeting_put key keys (filter (λ k. intersects k key) (all_keys hats))))
      (all_rise (filter (λ k. intersects k key) keys) (filter (λ k. intersects k key) (all_keys hats)) (IsStrictlySortedBy-filter text_cmp (λ k. intersects k key) (all_keys hats) (hats_rise hats [] none_rise)))

  pub folded_is : (key : List ℕ) → folded_as next keys face o hats key ≡ folded c face key
  folded_is key = folded_same key (heard c face) (heard_at next keys face o hats) (λ k meets. is.hears k) (due_keys c) (parts keys hats key) (due_rise c) (parts_rise key) (adds_keys c face key) (in_parts key)

  hat_here : {X : Type 0} (f : HatState → X) (d : X) → option_map_or f (option_and_then (λ (p : OpenFace). hat_at p.region c.hats) (at face c.faces)) d ≡ option_map_or f (hat_at o.region c.hats) d
  hat_here f d = ap (λ (p : Option OpenFace). option_map_or f (option_and_then (λ (q : OpenFace). hat_at q.region c.hats) p) d) is.opened

  module _ (key : List ℕ) (a : Asking) (asked : a.asks ≡ asks_for face key ints) where
    pub listens_is : listens_as a.asks hats o ≡ listens c ints face key
    listens_is =
        is.listens a.asks
        ∙ ap (λ b. option_map_or (hears_as b) (hat_at o.region c.hats) false) asked
        ∙ sym (hat_here (listens_in ints face key) false)

    module _ (folding : a.folds ≡ asks_folded face key ints) where
      due_by : (x : Option HatState)
          → cond (option_map_or (hears_as a.asks) x false) (cond (not (option_map_or (hears_as false) x false) && a.folds) (folded_as next keys face o hats key) (heard_at next keys face o hats key)) None
          ≡ cond (option_map_or (listens_in ints face key) x false) (cond (option_map_or (folds_in ints face key) x false) (folded c face key) (heard c face key)) None
      due_by None = refl
      due_by (Some h) =
          λ j. cond (listens_by (strategy_at h) (is_north h.region) (asked j)) (cond (not (listens_by (strategy_at h) (is_north h.region) false) && folding j) (folded_is key j) (is.hears key j)) None

      pub due_is : due_as a next keys face o hats key ≡ due c ints face key
      due_is =
          (λ j. cond (is.listens a.asks j) (cond (not (is.listens false j) && a.folds) (folded_as next keys face o hats key) (heard_at next keys face o hats key)) None)
          ∙ due_by (hat_at o.region c.hats)
          ∙ (λ j. cond (sym (hat_here (listens_in ints face key) false) j) (cond (sym (hat_here (folds_in ints face key) false) j) (folded c face key) (heard c face key)) None)

  -- ---- the list of what is due on some keys
  module _ (asks : List ℕ → Asking) (asked : (key : List ℕ) → (asks key).asks ≡ asks_for face key ints) (folding : (key : List ℕ) → (asks key).folds ≡ asks_folded face key ints) where
    listed_by : (key : List ℕ) (ks : List (List ℕ)) (b : Bool) → flat_map (listed_due asks next keys face o hats) ks ≡ dues_on c ints ks face
        → cond b ((key, due_as (asks key) next keys face o hats key) ∷ []) [] ++ flat_map (listed_due asks next keys face o hats) ks
        ≡ map (due_on c ints face) (cond b (key ∷ filter (λ k. listens c ints face k) ks) (filter (λ k. listens c ints face k) ks))
    listed_by key ks true ih = λ j. (key, due_is key (asks key) (asked key) (folding key) j) ∷ ih j
    listed_by key ks false ih = ih

    pub listed_is : (ks : List (List ℕ)) → flat_map (listed_due asks next keys face o hats) ks ≡ dues_on c ints ks face
    listed_is [] = refl
    listed_is (key ∷ ks) =
        ap (λ b. cond b ((key, due_as (asks key) next keys face o hats key) ∷ []) [] ++ flat_map (listed_due asks next keys face o hats) ks) (listens_is key (asks key) (asked key))
        ∙ listed_by key ks (listens c ints face key) (listed_is ks)
