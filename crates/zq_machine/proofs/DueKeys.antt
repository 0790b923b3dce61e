-- What is heard at any face is on a key on which some region has information; and keys rise.
use Rattle.std.proofs.Common.{◌≡◌, ◌∙◌, refl, sym, ap, subst, ℕ, Bool, true, false, cond, List, [], ◌∷◌, fold, Option, Some, None}
use Rattle.std.specs.Prelude.{◌==◌, ◌||◌}
use Rattle.std.specs.BTreeMap.{is_at}
use Rattle.std.specs.BTreeSet.{insert_key}
use Rattle.std.specs.List.{AllByRecursion, list_any}
use Rattle.std.specs.List.Sorted.{IsStrictlySortedBy}
use Rattle.std.specs.Map.{keys_of}
use Rattle.std.specs.Option.{is_some, option_and_then, option_map_or}
use Rattle.std.specs.Ordering.{nat_cmp}
use Rattle.std.specs.Str.{bytes_eq}
use Rattle.std.proofs.lemmas.Bool.{false≢true, or_parts, true≢false}
use Rattle.std.proofs.lemmas.Map.Text.{is_eq-slice_cmp}
use Rattle.std.proofs.lemmas.Option.{same_Some}
use Rattle.zq_message.specs.declared.message.QueryableInfoType.{QueryableInfoType}
use Rattle.zq_message.specs.Region.{region_index}
use Rattle.zq_key.proofs.Lookups.{either_way}
use Rattle.zq_key.proofs.Sorted.{has_put, sorted_put}
use Rattle.zq_index.specs.Infos.{joined}
use Rattle.zq_index.specs.Texts.{at_text, text_cmp}
use Rattle.zq_index.proofs.Merges.{joined_none}
use Rattle.zq_index.proofs.Orders.{text_exact, text_total}
use Rattle.zq_strategy.specs.Entries.{Entries, Routed, routed_info}
use Rattle.zq_strategy.specs.declared.types.Declaration.{Declaration}
use Rattle.zq_strategy.specs.declared.types.FaceRecord.{FaceRecord}
use Rattle.zq_strategy.specs.declared.types.Strategy.{Strategy}
use Rattle.zq_strategy.specs.declared.types.Strategy.TheVariants as strategy
use Rattle.zq_strategy.specs.Fellows.{fellow_info, with_fellow}
use Rattle.zq_strategy.specs.Kept.{declared_keys, face_at, faces_info, has_face, info, key_of, new_face, region_info, routers_info, with_declared, with_face, with_face_opened, with_key, with_keys}
use Rattle.zq_strategy.specs.Regions.{in_routers, strategy_at}
use Rattle.zq_strategy.specs.State.{FaceState, HatState}
use Rattle.zq_strategy.specs.Trees.{region_keys}
use Rattle.zq_machine.specs.declared.call.Opening.{Opening}
use Rattle.zq_machine.specs.declared.face.OpenFace.{OpenFace}
use Rattle.zq_machine.specs.Deciding.{accepted, seat}
use Rattle.zq_machine.specs.Due.{plain_due, due_keys, heard_touched, heard, heard_as, heard_by, heard_in, listens, with_region_keys}
use Rattle.zq_interests.specs.Interests.{Interests}
use Rattle.zq_machine.specs.State.{Core, at, hat_at, joined as join, put_hat}
use Rattle.zq_machine.specs.TextCalls.{TextCall, opening}
use Rattle.zq_machine.specs.Trees.{own_entry, touched, with_other}
use Rattle.zq_machine.proofs.Changing.{region_there}
use Rattle.zq_machine.proofs.Folding.{fold_put, fold_set}

-- ---- keys that are put in
or_turn : (a b c : Bool) → (a || (b || c)) ≡ ((b || a) || c)
or_turn true true c = refl
or_turn true false c = refl
or_turn false true c = refl
or_turn false false c = refl

module _ (key : List ℕ) where
  -- the key is among the texts
  abbrev pub is_among : List (List ℕ) → Bool
  is_among ks = list_any (is_at (text_cmp key)) ks

  -- it is not
  abbrev pub Absent : List (List ℕ) → Type 0
  Absent ks = is_among ks ≡ false

  pub either_test : (k : List ℕ) → bytes_eq k key ≡ is_at (text_cmp key) k
  either_test k = sym (is_eq-slice_cmp k key) ∙ either_way text_total text_exact k key

  pub among : (ks : List (List ℕ)) → list_any (λ k. bytes_eq k key) ks ≡ is_among ks
  among [] = refl
  among (k ∷ ks) = λ j. either_test k j || among ks j

  -- of the keys that join others, and of those
  pub all_put : (ks xs : List (List ℕ)) → is_among (fold (insert_key text_cmp) ks xs) ≡ (is_among xs || is_among ks)
  all_put ks [] = refl
  all_put ks (x ∷ xs) =
      all_put (insert_key text_cmp ks x) xs
      ∙ ap (λ b. is_among xs || b) (has_put text_total text_exact key x ks)
      ∙ or_turn (is_among xs) (is_at (text_cmp key) x) (is_among ks)

  pub absent_put : (ks xs : List (List ℕ)) → Absent (fold (insert_key text_cmp) ks xs) → Absent xs × Absent ks
  absent_put ks xs h = let p = or_parts (is_among xs) (is_among ks) (sym (all_put ks xs) ∙ h) in (p.0, p.1)

  -- ---- a key that is not among a region's
  off_by : (d : ℕ × Declaration) (m : Option QueryableInfoType) → is_at (text_cmp key) (key_of d) ≡ false → with_declared key m d ≡ m
  off_by d m e = ap (λ b. cond b (joined m (Some d.1.info)) m) (either_test (key_of d) ∙ e)

  absent_one : (k : List ℕ) (ks : List (List ℕ)) → Absent (insert_key text_cmp ks k) → (is_at (text_cmp key) k ≡ false) × Absent ks
  absent_one k ks h = let p = or_parts (is_at (text_cmp key) k) (is_among ks) (sym (has_put text_total text_exact key k ks) ∙ h) in (p.0, p.1)

  absent_declared : (ds : List (ℕ × Declaration)) (ks : List (List ℕ)) → Absent (fold with_key ks ds) → Absent ks × ((m : Option QueryableInfoType) → fold (with_declared key) m ds ≡ m)
  absent_declared [] ks h = (h, λ m. refl)
  absent_declared (d ∷ ds) ks h =
      let rest = absent_declared ds (with_key ks d) h in
      let first = absent_one (key_of d) ks rest.0 in
      (first.1, λ m. ap (λ x. fold (with_declared key) x ds) (off_by d m first.0) ∙ rest.1 m)

  -- no face has information on the key
  abbrev pub NoneInFaces : List (ℕ × FaceState) → Type 0
  NoneInFaces fs = AllByRecursion (λ (f : ℕ × FaceState). info key f.1 ≡ None) fs

  absent_faces : (fs : List (ℕ × FaceState)) (ks : List (List ℕ)) → Absent (fold with_keys ks fs) → Absent ks × NoneInFaces fs
  absent_faces [] ks h = (h, tt)
  absent_faces (f ∷ fs) ks h =
      let rest = absent_faces fs (with_keys ks f) h in
      let first = absent_declared f.1.declared ks rest.0 in
      (first.0, (first.1 None, rest.1))

  faces_none : (fs : List (ℕ × FaceState)) (m : Option QueryableInfoType) → NoneInFaces fs → fold (with_face key) m fs ≡ m
  faces_none [] m all = refl
  faces_none (f ∷ fs) m all = ap (λ x. fold (with_face key) x fs) (ap (joined m) all.0 ∙ joined_none m) ∙ faces_none fs m all.1

  fellow_none : (b : Bool) (i m : Option QueryableInfoType) → i ≡ None → cond b m (joined m i) ≡ m
  fellow_none true i m e = refl
  fellow_none false i m e = ap (joined m) e ∙ joined_none m

  fellows_none : (face : ℕ) (fs : List (ℕ × FaceState)) (m : Option QueryableInfoType) → NoneInFaces fs → fold (with_fellow face key) m fs ≡ m
  fellows_none face [] m all = refl
  fellows_none face (f ∷ fs) m all = ap (λ x. fold (with_fellow face key) x fs) (fellow_none (f.0 == face) (info key f.1) m all.0) ∙ fellows_none face fs m all.1

  entries_none : (es : Entries) → Absent (keys_of es) → at_text key es ≡ None
  entries_none [] h = refl
  entries_none (e ∷ es) h =
      let p = or_parts (is_at (text_cmp key) e.0) (is_among (keys_of es)) h in
      ap (λ b. cond b (Some e.1) (at_text key es)) p.0 ∙ entries_none es p.1

  region_none : (h : HatState) → Absent (region_keys h) → region_info key h ≡ None
  region_none h = by (strategy_at h)
    where
      of_faces : Absent (declared_keys h.faces) → faces_info key h.faces ≡ None
      of_faces a = faces_none h.faces None (absent_faces h.faces [] a).1

      by : (k : Strategy) → Absent (in_routers k (keys_of h.entries) (declared_keys h.faces)) → in_routers k (routers_info key h) (faces_info key h.faces) ≡ None
      by strategy.Broker a = of_faces a
      by strategy.Client a = of_faces a
      by strategy.Peer a = of_faces a
      by strategy.Router a = ap (λ (o : Option Routed). routed_info (option_map_or (λ es. es) o [])) (entries_none h.entries a)

  -- the key is among no region's
  abbrev pub NoneInHats : List (ℕ × HatState) → Type 0
  NoneInHats hats = AllByRecursion (λ (h : ℕ × HatState). Absent (region_keys h.1)) hats

  absent_hats : (hats : List (ℕ × HatState)) (ks : List (List ℕ)) → Absent (fold with_region_keys ks hats) → Absent ks × NoneInHats hats
  absent_hats [] ks h = (h, tt)
  absent_hats (x ∷ hats) ks h =
      let rest = absent_hats hats (with_region_keys ks x) h in
      let first = absent_put ks (region_keys x.1) rest.0 in
      (first.1, (first.0, rest.1))

  others_none : (place : ℕ) (hats : List (ℕ × HatState)) (m : Option QueryableInfoType) → NoneInHats hats → fold (with_other place key) m hats ≡ m
  others_none place [] m all = refl
  others_none place (h ∷ hats) m all = ap (λ x. fold (with_other place key) x hats) (fellow_none (h.0 == place) (region_info key h.1) m (region_none h.1 all.0)) ∙ others_none place hats m all.1

  hat_none : (n : ℕ) (hats : List (ℕ × HatState)) (h : HatState) → NoneInHats hats → at n hats ≡ Some h → Absent (region_keys h)
  hat_none n [] h all e = absurd (let gap : None ≡ Some h = e in cc)
  hat_none n (x ∷ hats) h all e = by (is_at (nat_cmp n) x.0) e (hat_none n hats h all.1)
    where
      by : (b : Bool) → cond b (Some x.1) (at n hats) ≡ Some h → (at n hats ≡ Some h → Absent (region_keys h)) → Absent (region_keys h)
      by true f more = subst (λ (y : HatState). Absent (region_keys y)) (same_Some _ _ f) all.0
      by false f more = more f

  by_none : (k : Strategy) (face : ℕ) (h : HatState) (others : Option QueryableInfoType) → Absent (in_routers k (keys_of h.entries) (declared_keys h.faces)) → others ≡ None → heard_by k (fellow_info face key h) others ≡ None
  by_none strategy.Broker face h others a none = λ j. joined (fellows_none face h.faces None (absent_faces h.faces [] a).1 j) (none j)
  by_none strategy.Client face h others a none = none
  by_none strategy.Peer face h others a none = none
  by_none strategy.Router face h others a none = refl

  heard_none : (c : Core) (face : ℕ) → NoneInHats c.hats → heard c face key ≡ None
  heard_none c face all = by (at face c.faces)
    where
      there : (o : OpenFace) (x : Option HatState) → hat_at o.region c.hats ≡ x → option_and_then (heard_in face key c.hats (region_index o.region)) x ≡ None
      there o None e = refl
      there o (Some h) e = by_none (strategy_at h) face h (own_entry (region_index o.region) key c.hats) (hat_none (region_index o.region) c.hats h all (region_there o.region c.hats h e).1) (others_none (region_index o.region) c.hats None all)

      by : (o : Option OpenFace) → option_and_then (heard_as face key c.hats) o ≡ None
      by None = refl
      by (Some o) = there o (hat_at o.region c.hats) refl

  -- on a key on which no region has information nothing is due
  pub nothing_due : (c : Core) (ints : Interests) (face : ℕ) → Absent (due_keys c) → plain_due c ints face key ≡ None
  nothing_due c ints face a = by (listens c ints face key)
    where
      by : (b : Bool) → cond b (heard c face key) None ≡ None
      by true = heard_none c face (absent_hats c.hats [] a).1
      by false = refl

-- a key is among those on which something is due
pub keys_due : (c : Core) (ints : Interests) (face : ℕ) (key : List ℕ) → is_some (plain_due c ints face key) ≡ true → list_any (λ k. bytes_eq k key) (due_keys c) ≡ true
keys_due c ints face key some = among key (due_keys c) ∙ by (is_among key (due_keys c)) refl
  where
    by : (b : Bool) → is_among key (due_keys c) ≡ b → b ≡ true
    by true e = refl
    by false e = absurd (false≢true (sym (ap is_some (nothing_due key c ints face e)) ∙ some))

-- ---- an opening declares nothing
opened_keys : (r : FaceRecord) (h : HatState) → region_keys (join r h) ≡ region_keys h
opened_keys r h = by (has_face r.face.0 h) refl
  where
    absent : has_face r.face.0 h ≡ false → (f : FaceState) → face_at r.face.0 h ≡ Some f → (ks : List (List ℕ)) → with_keys ks (r.face.0, f) ≡ ks
    absent e f there = absurd (true≢false (sym (ap is_some there) ∙ e))

    of_kind : has_face r.face.0 h ≡ false → (k : Strategy) → in_routers k (keys_of h.entries) (declared_keys (with_face_opened r h).faces) ≡ in_routers k (keys_of h.entries) (declared_keys h.faces)
    of_kind e k = ap (in_routers k (keys_of h.entries)) (fold_put with_keys r.face.0 (new_face r h.told_start) h.faces (λ ks. refl) (absent e) [])

    by : (b : Bool) → has_face r.face.0 h ≡ b → region_keys (cond b h (with_face_opened r h)) ≡ region_keys h
    by true e = refl
    by false e = of_kind e (strategy_at h)

pub keys_opened : (c : Core) (o : Opening) → due_keys (accepted c (opening o)) ≡ due_keys c
keys_opened c o = by (hat_at o.region c.hats) refl
  where
    by : (x : Option HatState) → hat_at o.region c.hats ≡ x → fold with_region_keys [] (put_hat o.region (join (seat c.next_face o)) c.hats x) ≡ due_keys c
    by None e = refl
    by (Some h) e =
        fold_set with_region_keys (region_index o.region) c.hats h (join (seat c.next_face o) h) (region_there o.region c.hats h e).1
        (λ ks. ap (fold (insert_key text_cmp) ks) (opened_keys (seat c.next_face o) h)) []

-- ---- order
abbrev pub Rise : List (List ℕ) → Type 0
Rise ks = IsStrictlySortedBy text_cmp ks

none_rise : Rise []
unfolding IsStrictlySortedBy
none_rise = tt

pub all_rise : (xs ks : List (List ℕ)) → Rise ks → Rise (fold (insert_key text_cmp) ks xs)
all_rise [] ks s = s
all_rise (x ∷ xs) ks s = all_rise xs (insert_key text_cmp ks x) (sorted_put text_total ks x s)

hats_rise : (hats : List (ℕ × HatState)) (ks : List (List ℕ)) → Rise ks → Rise (fold with_region_keys ks hats)
hats_rise [] ks s = s
hats_rise (h ∷ hats) ks s = hats_rise hats (with_region_keys ks h) (all_rise (region_keys h.1) ks s)

pub due_rise : (c : Core) → Rise (due_keys c)
due_rise c = hats_rise c.hats [] none_rise

if_rise : (b : Bool) (ks : List (List ℕ)) → Rise ks → Rise (cond b ks [])
if_rise true ks s = s
if_rise false ks s = none_rise

pub touched_rise : (c : Core) (t : TextCall) (face : ℕ) → Rise (heard_touched c t face)
touched_rise c (opening o) face = if_rise (face == c.next_face) (due_keys c) (due_rise c)
touched_rise c t face = all_rise (touched c t) [] none_rise
