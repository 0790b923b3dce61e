-- Who listens stays by each call; and but by a declaration nothing becomes due to a face that is open.
use Rattle.std.proofs.Common.{◌≡◌, ◌∙◌, refl, sym, ap, subst, ℕ, Bool, true, false, cond, eqb-true, List, [], ◌∷◌, filter, fold, Option, Some, None, ◌⊎◌, inl, inr}
use Rattle.std.specs.Prelude.{◌==◌, ◌||◌}
use Rattle.std.specs.BTreeMap.{insert_entry, is_at}
use Rattle.std.specs.List.{cons_option, list_any}
use Rattle.std.specs.Map.{remove_entry, set_value}
use Rattle.std.specs.Option.{is_some, option_and_then, option_map, option_map_or}
use Rattle.std.specs.Ordering.{nat_cmp}
use Rattle.std.specs.Str.{bytes_eq}
use Rattle.std.proofs.lemmas.Bool.{false≢true, true≢false}
use Rattle.std.proofs.lemmas.Cmp.{nat_cmp_total}
use Rattle.std.proofs.lemmas.Map.Lookups.{exact_unsigned}
use Rattle.std.proofs.lemmas.Option.{same_Some}
use Rattle.zq_message.specs.declared.message.QueryableInfoType.{QueryableInfoType}
use Rattle.zq_message.specs.declared.message.Region.{Region}
use Rattle.zq_message.specs.declared.message.Zid.{Zid}
use Rattle.zq_message.specs.Region.{region_index}
use Rattle.zq_key.proofs.Lookups.{found_after_insertion, found_after_removal, same_key}
use Rattle.zq_index.specs.Holders.{if_any, with_held}
use Rattle.zq_index.specs.Infos.{joined, merge}
use Rattle.zq_index.specs.Texts.{at_text, text_cmp}
use Rattle.zq_index.proofs.Orders.{text_exact, text_total}
use Rattle.zq_strategy.specs.declared.network.Network.{Network}
use Rattle.zq_strategy.specs.Entries.{Entries, Routed, is_by, routed_info, routed_without, staying, with_entries, without_entry}
use Rattle.zq_strategy.specs.Nets.{is_listed}
use Rattle.zq_strategy.specs.declared.types.Declaration.{Declaration}
use Rattle.zq_strategy.specs.declared.types.Strategy.{Strategy}
use Rattle.zq_strategy.specs.declared.types.Strategy.TheVariants as strategy
use Rattle.zq_strategy.specs.Kept.{face_at, faces_info, has_any, info, is_on, region_info, routers_info, unregistered, with_declared, with_face, withdraw, without_face}
use Rattle.zq_strategy.specs.Regions.{in_routers, strategy_at}
use Rattle.zq_strategy.specs.Routers.{networked, retracted, source_at}
use Rattle.zq_strategy.specs.State.{FaceState, HatState}
use Rattle.zq_machine.specs.declared.call.Call.{Call}
use Rattle.zq_machine.specs.declared.call.Call.TheVariants as call
use Rattle.zq_machine.specs.declared.face.OpenFace.{OpenFace}
use Rattle.zq_machine.specs.Calls.{declares}
use Rattle.zq_machine.specs.Configs.{Settings}
use Rattle.zq_machine.specs.Deciding.{accepted, opened, refusal_of, retracted_by}
use Rattle.zq_strategy.specs.Fellows.{fellow_info, with_fellow}
use Rattle.zq_machine.specs.Due.{plain_due, due_keys, heard_as, heard_by, is_heard_touched, listens, listens_in}
use Rattle.zq_interests.specs.Interests.{Interests}
use Rattle.zq_machine.specs.Machine.{after, state_after}
use Rattle.zq_machine.specs.Selecting.{full_text}
use Rattle.zq_machine.specs.State.{Core, State, at, change_hat, first_hats, hat_at, hat_of, is_open, is_region, opening_state, put_hat}
use Rattle.zq_machine.specs.TextCalls.{TextCall, opening, closing, declaring, withdrawing, announcing, retracting, networking, by_router, read, said_or_none}
use Rattle.zq_machine.specs.Trees.{own_entry, with_other}
use Rattle.zq_machine.proofs.Agreed.{InOrder, next_absent, run_in_order}
use Rattle.zq_machine.proofs.Changing.{hat_either, one_number, region_there}
use Rattle.zq_machine.proofs.DueEnds.{closed_undue}
use Rattle.zq_machine.proofs.Dues.{due_kept}
use Rattle.zq_machine.proofs.Granted.{by_granted}
use Rattle.zq_machine.proofs.Hats.{accepted_hats, bare}
use Rattle.zq_machine.proofs.Worded.{Any, Each, IsKey, IsUsed, IsWorded, each_found}

-- ---- information that may go, and comes from nowhere
abbrev pub Info : Type 0
Info = Option QueryableInfoType

-- where there is the one there is the other
abbrev pub IsLess : Info → Info → Type 0
IsLess i j = is_some i ≡ true → is_some j ≡ true

some_joined : (a b : Info) → is_some (joined a b) ≡ (is_some a || is_some b)
some_joined None b = refl
some_joined (Some a) None = refl
some_joined (Some a) (Some b) = refl

or_less : (a b c d : Bool) → (a ≡ true → c ≡ true) → (b ≡ true → d ≡ true) → (a || b) ≡ true → (c || d) ≡ true
or_less true b c d h k e = ap (λ x. x || d) (h refl)
or_less false b true d h k e = refl
or_less false b false d h k e = k e

joined_less : (a b c d : Info) → IsLess a c → IsLess b d → IsLess (joined a b) (joined c d)
joined_less a b c d h k e = some_joined c d ∙ or_less (is_some a) (is_some b) (is_some c) (is_some d) h k (sym (some_joined a b) ∙ e)

joined_left : (a b c : Info) → IsLess a c → IsLess a (joined c b)
joined_left a b c h e = some_joined c b ∙ ap (λ x. x || is_some b) (h e)

by_less : (b : Bool) (m p i j : Info) → IsLess m p → IsLess i j → IsLess (cond b m (joined m i)) (cond b p (joined p j))
by_less true m p i j h k = h
by_less false m p i j h k = joined_less m i p j h k

by_left : (b : Bool) (m p i : Info) → IsLess m p → IsLess m (cond b p (joined p i))
by_left true m p i h = h
by_left false m p i h = joined_left m i p h

-- a fold of entries that only adds
module _ {X : Type 0} (step : Info → ℕ × X → Info) (rises : (m p : Info) (e : ℕ × X) → IsLess m p → IsLess (step m e) (step p e)) (adds : (m p : Info) (e : ℕ × X) → IsLess m p → IsLess m (step p e)) where
  fold_less : (es : List (ℕ × X)) (m p : Info) → IsLess m p → IsLess (fold step m es) (fold step p es)
  fold_less [] m p h = h
  fold_less (e ∷ es) m p h = fold_less es (step m e) (step p e) (rises m p e h)

  -- an entry is taken out
  take_less : (k : ℕ) (es : List (ℕ × X)) (m p : Info) → IsLess m p → IsLess (fold step m (remove_entry (is_at (nat_cmp k)) es)) (fold step p es)
  take_less k [] m p h = h
  take_less k (e ∷ es) m p h = by (is_at (nat_cmp k) e.0) (take_less k es (step m e) (step p e) (rises m p e h))
    where
      by : (b : Bool) → IsLess (fold step (step m e) (remove_entry (is_at (nat_cmp k)) es)) (fold step (step p e) es) → IsLess (fold step m (cond b es (e ∷ remove_entry (is_at (nat_cmp k)) es))) (fold step p (e ∷ es))
      by true ih = fold_less es m (step p e) (adds m p e h)
      by false ih = ih

  -- an entry is changed
  set_less : (k : ℕ) (x y : X) → ((n : ℕ) (m p : Info) → IsLess m p → IsLess (step m (n, y)) (step p (n, x))) → (es : List (ℕ × X)) → at k es ≡ Some x → (m p : Info) → IsLess m p → IsLess (fold step m (set_value (is_at (nat_cmp k)) es y)) (fold step p es)
  set_less k x y less [] there m p h = h
  set_less k x y less (e ∷ es) there m p h = by (is_at (nat_cmp k) e.0) there (λ f. set_less k x y less es f (step m e) (step p e) (rises m p e h))
    where
      by : (b : Bool) → cond b (Some e.1) (at k es) ≡ Some x → (at k es ≡ Some x → IsLess (fold step (step m e) (set_value (is_at (nat_cmp k)) es y)) (fold step (step p e) es))
          → IsLess (fold step m (cond b ((e.0, y) ∷ es) (e ∷ set_value (is_at (nat_cmp k)) es y))) (fold step p (e ∷ es))
      by true found more = fold_less es (step m (e.0, y)) (step p e) (subst (λ (z : X). IsLess (step m (e.0, y)) (step p (e.0, z))) (sym (same_Some _ _ found)) (less e.0 m p h))
      by false found more = more found

-- ---- what a hat has on a key may go
module _ (face : ℕ) (key : List ℕ) where
  -- the first hat is the second but for information that went
  record IsLessHat (a b : HatState) : Type 0 where
    pub same : bare a ≡ bare b
    pub fellows : IsLess (fellow_info face key a) (fellow_info face key b)
    pub region : IsLess (region_info key a) (region_info key b)

  itself_less : (h : HatState) → IsLessHat h h
  itself_less h = record { same = refl; fellows = λ e. e; region = λ e. e }

  routers_less : (k : Strategy) (a b i j : Info) → IsLess a b → IsLess i j → IsLess (in_routers k a i) (in_routers k b j)
  routers_less strategy.Broker a b i j h l = l
  routers_less strategy.Client a b i j h l = l
  routers_less strategy.Peer a b i j h l = l
  routers_less strategy.Router a b i j h l = h

  -- ---- its faces
  fellow_rises : (m p : Info) (f : ℕ × FaceState) → IsLess m p → IsLess (with_fellow face key m f) (with_fellow face key p f)
  fellow_rises m p f h = by_less (f.0 == face) m p (info key f.1) (info key f.1) h (λ e. e)

  fellow_adds : (m p : Info) (f : ℕ × FaceState) → IsLess m p → IsLess m (with_fellow face key p f)
  fellow_adds m p f h = by_left (f.0 == face) m p (info key f.1) h

  face_rises : (m p : Info) (f : ℕ × FaceState) → IsLess m p → IsLess (with_face key m f) (with_face key p f)
  face_rises m p f h = joined_less m (info key f.1) p (info key f.1) h (λ e. e)

  face_adds : (m p : Info) (f : ℕ × FaceState) → IsLess m p → IsLess m (with_face key p f)
  face_adds m p f h = joined_left m (info key f.1) p h

  closed_less : (n : ℕ) (h : HatState) → IsLessHat (without_face n h) h
  closed_less n h = record {
    same = refl;
    fellows = take_less (with_fellow face key) fellow_rises fellow_adds n h.faces None None (λ e. e);
    region = routers_less (strategy_at h) (routers_info key h) (routers_info key h) (faces_info key (without_face n h).faces) (faces_info key h.faces) (λ e. e)
        (take_less (with_face key) face_rises face_adds n h.faces None None (λ e. e));
  }

  -- ---- a declaration
  declared_by : (b : Bool) (m p i : Info) → IsLess m p → IsLess (cond b (joined m i) m) (cond b (joined p i) p)
  declared_by true m p i h = joined_less m i p i h (λ e. e)
  declared_by false m p i h = h

  declared_left : (b : Bool) (m p i : Info) → IsLess m p → IsLess m (cond b (joined p i) p)
  declared_left true m p i h = joined_left m i p h
  declared_left false m p i h = h

  declared_rises : (m p : Info) (d : ℕ × Declaration) → IsLess m p → IsLess (with_declared key m d) (with_declared key p d)
  declared_rises m p d h = declared_by (is_on key d) m p (Some d.1.info) h

  declared_adds : (m p : Info) (d : ℕ × Declaration) → IsLess m p → IsLess m (with_declared key p d)
  declared_adds m p d h = declared_left (is_on key d) m p (Some d.1.info) h

  withdrawn_info : (id : ℕ) (f : FaceState) → IsLess (info key (withdraw id f)) (info key f)
  withdrawn_info id f = take_less (with_declared key) declared_rises declared_adds id f.declared None None (λ e. e)

  withdrawn_less : (n id : ℕ) (h : HatState) → IsLessHat (unregistered n id h) h
  withdrawn_less n id h = by (face_at n h) refl
    where
      fellow_step : (f : FaceState) (q : ℕ) (m p : Info) → IsLess m p → IsLess (with_fellow face key m (q, withdraw id f)) (with_fellow face key p (q, f))
      fellow_step f q m p l = by_less (q == face) m p (info key (withdraw id f)) (info key f) l (withdrawn_info id f)

      face_step : (f : FaceState) (q : ℕ) (m p : Info) → IsLess m p → IsLess (with_face key m (q, withdraw id f)) (with_face key p (q, f))
      face_step f q m p l = joined_less m (info key (withdraw id f)) p (info key f) l (withdrawn_info id f)

      by : (o : Option FaceState) → face_at n h ≡ o → IsLessHat (record h { faces = option_map_or (λ x. set_value (is_at (nat_cmp n)) h.faces (withdraw id x)) o h.faces }) h
      by None e = itself_less h
      by (Some f) e = record {
        same = refl;
        fellows = set_less (with_fellow face key) fellow_rises fellow_adds n f (withdraw id f) (fellow_step f) h.faces e None None (λ s. s);
        region = routers_less (strategy_at h) (routers_info key h) (routers_info key h) (faces_info key (set_value (is_at (nat_cmp n)) h.faces (withdraw id f))) (faces_info key h.faces) (λ s. s)
            (set_less (with_face key) face_rises face_adds n f (withdraw id f) (face_step f) h.faces e None None (λ s. s));
      }

  -- ---- entries of routers
  some_held : (i : QueryableInfoType) (xs : Routed) → is_some (fold with_held (Some i) xs) ≡ true
  some_held i [] = refl
  some_held i (x ∷ xs) = some_held (merge i x.1) xs

  some_routed : (xs : Routed) → has_any xs ≡ true → is_some (routed_info xs) ≡ true
  some_routed [] has = absurd (false≢true has)
  some_routed (x ∷ xs) has = some_held x.1 xs

  abbrev info_by : Option Routed → Info
  info_by o = routed_info (option_map_or (λ xs. xs) o [])

  -- where each key has an entry, the information on it is there with the key
  entries_less : (es was : Entries) → Each IsKey IsUsed was → (is_some (at_text key es) ≡ true → is_some (at_text key was) ≡ true) → IsLess (info_by (at_text key es)) (info_by (at_text key was))
  entries_less es was used less = by (at_text key es) refl (at_text key was) refl
    where
      by : (o : Option Routed) → at_text key es ≡ o → (p : Option Routed) → at_text key was ≡ p → IsLess (info_by o) (info_by p)
      by None gone p e some = absurd (false≢true some)
      by (Some xs) there None gone some = absurd (false≢true (sym (ap is_some gone) ∙ less (ap is_some there)))
      by (Some xs) there (Some ys) e some = some_routed ys (each_found IsKey IsUsed (is_at (text_cmp key)) was ys e used)

  left_less : {X : Type 0} (test : List ℕ → Bool) (es : List (List ℕ × X)) → is_some (at_text key (remove_entry test es)) ≡ true → is_some (at_text key es) ≡ true
  left_less test [] some = some
  left_less test (e ∷ es) some = by (test e.0) (is_at (text_cmp key) e.0) refl some (left_less test es)
    where
      by : (t b : Bool) → is_at (text_cmp key) e.0 ≡ b → is_some (at_text key (cond t es (e ∷ remove_entry test es))) ≡ true → (is_some (at_text key (remove_entry test es)) ≡ true → is_some (at_text key es) ≡ true)
          → is_some (cond b (Some e.1) (at_text key es)) ≡ true
      by t true is found more = refl
      by true false is found more = found
      by false false is found more = more (sym (ap (λ b. is_some (cond b (Some e.1) (at_text key (remove_entry test es)))) is) ∙ found)

  replaced_less : {X : Type 0} (k : List ℕ) (v : X) (es : List (List ℕ × X)) → is_some (at_text k es) ≡ true → is_some (at_text key (insert_entry text_cmp es k v)) ≡ true → is_some (at_text key es) ≡ true
  replaced_less k v es there some = by (is_at (text_cmp k) key) refl (sym (ap is_some (found_after_insertion text_total text_exact k key v es)) ∙ some)
    where
      by : (b : Bool) → is_at (text_cmp k) key ≡ b → is_some (cond b (Some v) (at_text key es)) ≡ true → is_some (at_text key es) ≡ true
      by true is found = ap (λ q. is_some (at_text q es)) (sym (same_key text_total text_exact k key is)) ∙ there
      by false is found = found

  retracted_keys : (z : ℕ) (text : List ℕ) (es : Entries) → is_some (at_text key (without_entry z text es)) ≡ true → is_some (at_text key es) ≡ true
  retracted_keys z text es = by (at_text text es) refl
    where
      left : (v : Routed) → is_some (at_text text es) ≡ true → is_some (at_text key (with_entries text v es)) ≡ true → is_some (at_text key es) ≡ true
      left [] there = left_less (is_at (text_cmp text)) es
      left (x ∷ v) there = replaced_less text (x ∷ v) es there

      by : (o : Option Routed) → at_text text es ≡ o → is_some (at_text key (with_entries text (routed_without z (option_map_or (λ xs. xs) o [])) es)) ≡ true → is_some (at_text key es) ≡ true
      by None e = left_less (is_at (text_cmp text)) es
      by (Some xs) e = left (routed_without z xs) (ap is_some e)

  staying_keys : (test : Zid → Bool) (es : Entries) → is_some (at_text key (staying test es)) ≡ true → is_some (at_text key es) ≡ true
  staying_keys test [] some = some
  staying_keys test (e ∷ es) some = by (if_any (filter (is_by test) e.1)) (is_at (text_cmp key) e.0) refl some (staying_keys test es)
    where
      by : (r : Option Routed) (b : Bool) → is_at (text_cmp key) e.0 ≡ b → is_some (at_text key (cons_option (option_map (λ xs. (e.0, xs)) r) (staying test es))) ≡ true
          → (is_some (at_text key (staying test es)) ≡ true → is_some (at_text key es) ≡ true) → is_some (cond b (Some e.1) (at_text key es)) ≡ true
      by r true is found more = refl
      by None false is found more = more found
      by (Some xs) false is found more = more (sym (ap (λ b. is_some (cond b (Some xs) (at_text key (staying test es)))) is) ∙ found)

  entered_less : (net : Network) (es : Entries) (h : HatState) → IsWorded h → (is_some (at_text key es) ≡ true → is_some (at_text key h.entries) ≡ true) → IsLessHat (record h { network = net; entries = es }) h
  entered_less net es h w less = record {
    same = refl;
    fellows = λ e. e;
    region = routers_less (strategy_at h) (info_by (at_text key es)) (info_by (at_text key h.entries)) (faces_info key h.faces) (faces_info key h.faces) (entries_less es h.entries w.entries less) (λ e. e);
  }

  retracted_less : (n node : ℕ) (text : List ℕ) (h : HatState) → IsWorded h → IsLessHat (retracted_by n node text h) h
  retracted_less n node text h w = by (source_at n node h)
    where
      by : (z : Option Zid) → IsLessHat (option_map_or (λ (z : Zid). retracted z.0 text h) z h) h
      by None = itself_less h
      by (Some z) = entered_less h.network (without_entry z.0 text h.entries) h w (retracted_keys z.0 text h.entries)

  networked_less : (net : Network) (h : HatState) → IsWorded h → IsLessHat (networked net h) h
  networked_less net h w = by (strategy_at h)
    where
      by : (k : Strategy) → IsLessHat (in_routers k (record h { network = net; entries = staying (is_listed net) h.entries }) h) h
      by strategy.Broker = itself_less h
      by strategy.Client = itself_less h
      by strategy.Peer = itself_less h
      by strategy.Router = entered_less net (staying (is_listed net) h.entries) h w (staying_keys (is_listed net) h.entries)

  -- ---- what is due where one hat has less
  module _ (ints : Interests) where
    -- by what other regions have, and by the face's hat
    abbrev due_found : Info → Option HatState → Info
    due_found own x = cond (option_map_or (listens_in ints face key) x false) (option_and_then (λ (h : HatState). heard_by (strategy_at h) (fellow_info face key h) own) x) None

    -- by the open face, and by the hats
    abbrev due_of : Option OpenFace → List (ℕ × HatState) → Info
    due_of p hats = cond (option_map_or (listens_in ints face key) (option_and_then (λ (o : OpenFace). hat_at o.region hats) p) false) (option_and_then (heard_as face key hats) p) None

    heard_less : (l : Bool) (k : Strategy) (i j a b : Info) → IsLess i a → IsLess j b → IsLess (cond l (heard_by k i j) None) (cond l (heard_by k a b) None)
    heard_less true strategy.Broker i j a b g h = joined_less i j a b g h
    heard_less true strategy.Client i j a b g h = h
    heard_less true strategy.Peer i j a b g h = h
    heard_less true strategy.Router i j a b g h = λ e. e
    heard_less false k i j a b g h = λ e. e

    found_less : (own was : Info) (a b : HatState) → IsLessHat a b → IsLess own was → IsLess (due_found own (Some a)) (due_found was (Some b))
    found_less own was a b less others e =
        heard_less (listens_in ints face key b) (strategy_at b) (fellow_info face key a) own (fellow_info face key b) was less.fellows others
        ((λ j. is_some (cond (listens_in ints face key (sym less.same j)) (heard_by (strategy_at (sym less.same j)) (fellow_info face key a) own) None)) ∙ e)

    other_rises : (place : ℕ) (m p : Info) (h : ℕ × HatState) → IsLess m p → IsLess (with_other place key m h) (with_other place key p h)
    other_rises place m p h l = by_less (h.0 == place) m p (region_info key h.1) (region_info key h.1) l (λ e. e)

    other_adds : (place : ℕ) (m p : Info) (h : ℕ × HatState) → IsLess m p → IsLess m (with_other place key p h)
    other_adds place m p h l = by_left (h.0 == place) m p (region_info key h.1) l

    own_less : (place : ℕ) (r : Region) (f : HatState → HatState) (hats : List (ℕ × HatState)) (first : HatState) → hat_at r hats ≡ Some first → IsLess (region_info key (f first)) (region_info key first)
        → IsLess (own_entry place key (change_hat r f hats)) (own_entry place key hats)
    own_less place r f hats first here less =
        subst (λ (x : Option HatState). IsLess (own_entry place key (put_hat r f hats x)) (own_entry place key hats)) (sym here)
        (set_less (with_other place key) (other_rises place) (other_adds place) (region_index r) first (f first)
        (λ n m p l. by_less (n == place) m p (region_info key (f first)) (region_info key first) l less) hats (region_there r hats first here).1 None None (λ e. e))

    alike_less : (own was : Info) (x : Option HatState) → IsLess own was → IsLess (due_found own x) (due_found was x)
    alike_less own was None others = λ e. e
    alike_less own was (Some h) others = found_less own was h h (itself_less h) others

    either_less : (own was : Info) (a b : HatState) (x y : Option HatState) → IsLess own was → IsLessHat a b → (x ≡ y) ⊎ ((y ≡ Some b) × (x ≡ Some a)) → IsLess (due_found own x) (due_found was y)
    either_less own was a b x y others less (inl same) = λ some. alike_less own was y others (sym (ap (λ (z : Option HatState). is_some (due_found own z)) same) ∙ some)
    either_less own was a b x y others less (inr is) = λ some.
        ap (λ (z : Option HatState). is_some (due_found was z)) is.0
        ∙ found_less own was a b less others (sym (ap (λ (z : Option HatState). is_some (due_found own z)) is.1) ∙ some)

    change_less : (r : Region) (f : HatState → HatState) (hats : List (ℕ × HatState)) (o : OpenFace) (first : HatState) → hat_at r hats ≡ Some first → IsLessHat (f first) first
        → IsLess (due_of (Some o) (change_hat r f hats)) (due_of (Some o) hats)
    change_less r f hats o first here less =
        either_less (own_entry (region_index o.region) key (change_hat r f hats)) (own_entry (region_index o.region) key hats) (f first) first
        (hat_at o.region (change_hat r f hats)) (hat_at o.region hats) (own_less (region_index o.region) r f hats first here less.region) less (hat_either r first f hats here o.region)

    hats_less : (p : Option OpenFace) (r : Region) (f : HatState → HatState) (hats : List (ℕ × HatState)) → ((h : HatState) → hat_at r hats ≡ Some h → IsLessHat (f h) h) → IsLess (due_of p (change_hat r f hats)) (due_of p hats)
    hats_less None r f hats less = λ e. e
    hats_less (Some o) r f hats less = by (hat_at r hats) refl
      where
        by : (x : Option HatState) → hat_at r hats ≡ x → IsLess (due_of (Some o) (change_hat r f hats)) (due_of (Some o) hats)
        by None e = subst (λ (x : Option HatState). IsLess (due_of (Some o) (put_hat r f hats x)) (due_of (Some o) hats)) (sym e) (λ some. some)
        by (Some h) e = change_less r f hats o h e (less h e)

    face_hats_less : (p : Option OpenFace) (n : ℕ) (f : HatState → HatState) (c : Core) → ((r : Region) (h : HatState) → hat_at r c.hats ≡ Some h → IsLessHat (f h) h)
        → IsLess (due_of p (option_map_or (λ (o : OpenFace). change_hat o.region f c.hats) (at n c.faces) c.hats)) (due_of p c.hats)
    face_hats_less p n f c less = by (at n c.faces)
      where
        by : (x : Option OpenFace) → IsLess (due_of p (option_map_or (λ (o : OpenFace). change_hat o.region f c.hats) x c.hats)) (due_of p c.hats)
        by None = λ e. e
        by (Some o) = hats_less p o.region f c.hats (less o.region)

    -- ---- who listens, by the hats without their faces, entries and networks
    listens_bare : (x : Option HatState) → option_map_or (listens_in ints face key) x false ≡ option_map_or (listens_in ints face key) (option_map bare x) false
    listens_bare None = refl
    listens_bare (Some h) = refl

    same_listens : (c d : Core) → at face d.faces ≡ at face c.faces → ((k : ℕ) → option_map bare (at k d.hats) ≡ option_map bare (at k c.hats)) → listens d ints face key ≡ listens c ints face key
    same_listens c d here shape =
        ap (λ (p : Option OpenFace). option_map_or (listens_in ints face key) (option_and_then (λ (o : OpenFace). hat_at o.region d.hats) p) false) here
        ∙ listens_bare (option_and_then (λ (o : OpenFace). hat_at o.region d.hats) (at face c.faces))
        ∙ ap (λ (x : Option HatState). option_map_or (listens_in ints face key) x false) (bare_of (at face c.faces))
        ∙ sym (listens_bare (hat_of face c))
      where
        bare_in : (r : Region) (b : Bool) → option_map bare (cond b (at (region_index r) d.hats) None) ≡ option_map bare (cond b (at (region_index r) c.hats) None)
        bare_in r true = shape (region_index r)
        bare_in r false = refl

        bare_of : (p : Option OpenFace) → option_map bare (option_and_then (λ (o : OpenFace). hat_at o.region d.hats) p) ≡ option_map bare (option_and_then (λ (o : OpenFace). hat_at o.region c.hats) p)
        bare_of None = refl
        bare_of (Some o) = bare_in o.region (is_region o.region)

-- ---- an accepted call at a point of a run, and a face that is open before it
-- the call declares or announces
abbrev pub brings : TextCall → Bool
brings (declaring face id sd i node) = true
brings (announcing face sd i node) = true
brings t = false

module _ (config : Settings) (s : State) (i : InOrder config s) (ints : Interests) (face : ℕ) (key : List ℕ) (opens : is_open face s.core ≡ true) where
  worded : (r : Region) (h : HatState) → hat_at r s.core.hats ≡ Some h → IsWorded h
  worded r h e = each_found Any IsWorded (is_at (nat_cmp (region_index r))) s.core.hats h (region_there r s.core.hats h e).1 i.worded

  not_next : face ≡ s.core.next_face → ⊥
  not_next same = false≢true (sym (ap is_some (ap (λ n. at n s.core.faces) same ∙ next_absent s i.sound)) ∙ opens)

  -- a face that stays open is open as it was
  pub faces_kept : (t : TextCall) → is_open face (accepted s.core t) ≡ true → at face (accepted s.core t).faces ≡ at face s.core.faces
  faces_kept (opening o) still = by (is_at (nat_cmp s.core.next_face) face) refl
    where
      found : at face (insert_entry nat_cmp s.core.faces s.core.next_face (opened o)) ≡ cond (is_at (nat_cmp s.core.next_face) face) (Some (opened o)) (at face s.core.faces)
      found = found_after_insertion nat_cmp_total exact_unsigned s.core.next_face face (opened o) s.core.faces

      by : (b : Bool) → is_at (nat_cmp s.core.next_face) face ≡ b → at face (insert_entry nat_cmp s.core.faces s.core.next_face (opened o)) ≡ at face s.core.faces
      by true is = absurd (not_next (sym (one_number s.core.next_face face is)))
      by false is = found ∙ ap (λ b. cond b (Some (opened o)) (at face s.core.faces)) is
  faces_kept (closing g) still = by (is_at (nat_cmp g.0) face) refl
    where
      found : at face (remove_entry (is_at (nat_cmp g.0)) s.core.faces) ≡ cond (is_at (nat_cmp g.0) face) None (at face s.core.faces)
      found = found_after_removal nat_cmp_total exact_unsigned g.0 face s.core.faces i.sound.sorted

      by : (b : Bool) → is_at (nat_cmp g.0) face ≡ b → at face (remove_entry (is_at (nat_cmp g.0)) s.core.faces) ≡ at face s.core.faces
      by true is = absurd (false≢true (sym (ap is_some (found ∙ ap (λ b. cond b None (at face s.core.faces)) is)) ∙ still))
      by false is = found ∙ ap (λ b. cond b None (at face s.core.faces)) is
  faces_kept t still = refl

  -- and listens on the same keys
  pub listens_kept : (t : TextCall) → is_open face (accepted s.core t) ≡ true → listens (accepted s.core t) ints face key ≡ listens s.core ints face key
  listens_kept t still =
      same_listens face key ints s.core (accepted s.core t) (faces_kept t still)
      (λ k. (accepted_hats config.start.told (first_hats config) s.core i.hats t).shape k ∙ sym (i.hats.shape k))

  still_open : (t : TextCall) → is_some (plain_due (accepted s.core t) ints face key) ≡ true → is_open face (accepted s.core t) ≡ true
  still_open t some = by (is_open face (accepted s.core t)) refl
    where
      by : (b : Bool) → is_open face (accepted s.core t) ≡ b → b ≡ true
      by true e = refl
      by false e = absurd (false≢true (sym (ap is_some (closed_undue (accepted s.core t) ints face key e)) ∙ some))

  kept_less : (t : TextCall) → refusal_of s.core t ≡ None → is_heard_touched s.core t face key ≡ false → IsLess (plain_due (accepted s.core t) ints face key) (plain_due s.core ints face key)
  kept_less t h off some = sym (ap is_some (due_kept config s i ints face key t h (still_open t some) off)) ∙ some

  opening_off : (b : Bool) → (face == s.core.next_face) ≡ b → list_any (λ k. bytes_eq k key) (cond b (due_keys s.core) []) ≡ false
  opening_off true e = absurd (not_next (eqb-true face s.core.next_face e))
  opening_off false e = refl

  -- but by what declares or announces, nothing becomes due to it
  pub accepted_less : (t : TextCall) → refusal_of s.core t ≡ None → brings t ≡ false → IsLess (plain_due (accepted s.core t) ints face key) (plain_due s.core ints face key)
  accepted_less (declaring g id sd info node) h b = absurd (true≢false b)
  accepted_less (announcing g sd info node) h b = absurd (true≢false b)
  accepted_less (opening o) h b = kept_less (opening o) h (opening_off (face == s.core.next_face) refl)
  accepted_less (closing g) h b = λ some.
      face_hats_less face key ints (at face s.core.faces) g.0 (without_face g.0) s.core (λ r x there. closed_less face key g.0 x)
      (sym (ap (λ (p : Option OpenFace). is_some (due_of face key ints p (accepted s.core (closing g)).hats)) (faces_kept (closing g) (still_open (closing g) some))) ∙ some)
  accepted_less (withdrawing g id) h b = face_hats_less face key ints (at face s.core.faces) g.0 (unregistered g.0 id) s.core (λ r x there. withdrawn_less face key g.0 id x)
  accepted_less (retracting g sd node) h b = face_hats_less face key ints (at face s.core.faces) g.0 (retracted_by g.0 node (full_text sd)) s.core (λ r x there. retracted_less face key g.0 node (full_text sd) x (worded r x there))
  accepted_less (networking r net) h b = hats_less face key ints (at face s.core.faces) r (networked net) s.core.hats (λ x there. networked_less face key net x (worded r x there))
  accepted_less t h b = kept_less t h refl

-- a call that declares nothing brings nothing
pub read_brings : (s : State) (c : Call) → declares c ≡ false → brings (read s c) ≡ false
read_brings s (call.DeclareQueryable g id wire info node) e = absurd (true≢false e)
read_brings s (call.UndeclareQueryable g id wire node) e = by (by_router g s.core)
  where
    by : (b : Bool) → brings (cond b (retracting g (said_or_none g wire s) node) (withdrawing g id)) ≡ false
    by true = refl
    by false = refl
read_brings s c e = refl

-- ---- at each point of a run
pub listens_stay : (config : Settings) (calls : List Call) (c : Call) (ints : Interests) (face : ℕ) (key : List ℕ)
    → is_open face (state_after (opening_state config) calls).core ≡ true → is_open face (after (state_after (opening_state config) calls) c).core ≡ true
    → listens (after (state_after (opening_state config) calls) c).core ints face key ≡ listens (state_after (opening_state config) calls).core ints face key
listens_stay config calls c ints face key opens =
    let s = state_after (opening_state config) calls in
    by_granted (λ z w. is_open face w.core ≡ true → listens w.core ints face key ≡ listens s.core ints face key) s (read s c) (λ text z w it. it) (λ p places z w it. it)
    (λ h still. listens_kept config s (run_in_order config calls) ints face key opens (read s c) still)
    (λ r still. refl)

pub less_due : (config : Settings) (calls : List Call) (c : Call) (ints : Interests) (face : ℕ) (key : List ℕ)
    → declares c ≡ false → is_open face (state_after (opening_state config) calls).core ≡ true
    → is_some (plain_due (after (state_after (opening_state config) calls) c).core ints face key) ≡ true → is_some (plain_due (state_after (opening_state config) calls).core ints face key) ≡ true
less_due config calls c ints face key none opens =
    let s = state_after (opening_state config) calls in
    by_granted (λ z w. is_some (plain_due w.core ints face key) ≡ true → is_some (plain_due s.core ints face key) ≡ true) s (read s c) (λ text z w it. it) (λ p places z w it. it)
    (λ h some. accepted_less config s (run_in_order config calls) ints face key opens (read s c) h (read_brings s c none) some)
    (λ r some. some)
