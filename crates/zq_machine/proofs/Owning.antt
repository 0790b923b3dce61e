-- A call changes what regions have on the keys that it touches, and on no others.
use Rattle.std.proofs.Common.{◌≡◌, ◌∙◌, refl, sym, ap, subst, ℕ, Bool, true, false, cond, not, List, [], ◌∷◌, map, filter, fold, Option, Some, None}
use Rattle.std.specs.Prelude.{◌==◌}
use Rattle.std.specs.BTreeMap.{insert_entry, is_at}
use Rattle.std.specs.List.Sorted.{IsStrictlySortedBy}
use Rattle.std.specs.List.{AllByRecursion, cons_option, list_any}
use Rattle.std.specs.Map.{keys_of, remove_entry, set_value}
use Rattle.std.specs.Option.{is_some, option_and_then, option_map, option_map_or, option_to_list}
use Rattle.std.specs.Ordering.{is_eq, match_ordering, nat_cmp}
use Rattle.std.specs.Str.{bytes_eq}
use Rattle.std.specs.declared.cmp.Ordering.{Ordering}
use Rattle.std.specs.declared.cmp.Ordering.TheVariants.{Less, Equal, Greater}
use Rattle.std.proofs.Math.Bool.{or-false}
use Rattle.std.proofs.lemmas.Bool.{false≢true, not-false, or_parts, true≢false}
use Rattle.std.proofs.lemmas.Cmp.{nat_cmp_total}
use Rattle.std.proofs.lemmas.Map.Lookups.{exact_unsigned}
use Rattle.std.proofs.lemmas.Map.Made.{keys_of-map_values, lookup-map_values}
use Rattle.zq_key.proofs.Naturals.{fold-map}
use Rattle.zq_message.specs.Region.{region_index}
use Rattle.std.proofs.lemmas.Slice.Eq.{bytes_eq-Decides}
use Rattle.zq_message.specs.declared.message.QueryableInfoType.{QueryableInfoType}
use Rattle.zq_message.specs.declared.message.Region.{Region}
use Rattle.zq_message.specs.declared.message.Zid.{Zid}
use Rattle.zq_strategy.specs.declared.network.Network.{Network}
use Rattle.zq_index.specs.Holders.{if_any}
use Rattle.zq_index.specs.Infos.{joined}
use Rattle.zq_index.proofs.Merges.{joined_none}
use Rattle.zq_index.specs.Texts.{at_text, text_cmp}
use Rattle.zq_index.proofs.Orders.{text_exact, text_total}
use Rattle.zq_key.proofs.Lookups.{apart, found_after_insertion, same_entries, same_key}
use Rattle.zq_strategy.specs.declared.types.Declaration.{Declaration}
use Rattle.zq_strategy.specs.declared.types.FinalMark.{FinalMark}
use Rattle.zq_strategy.specs.declared.types.FinalMark.TheVariants as mark
use Rattle.zq_strategy.specs.declared.types.Strategy.{Strategy}
use Rattle.zq_strategy.specs.declared.types.Strategy.TheVariants as strategy
use Rattle.zq_strategy.specs.Kept.{at_id, change_face, clashes_at, declaration, declaration_at, declare, face_at, faces_info, has_any, has_face, info, is_apart, key_of, keys_of_face, new_face, registered, routers_info, unregistered, with_declared, with_face, with_face_opened, withdraw, without_face}
use Rattle.zq_strategy.specs.Marks.{finalized, marked}
use Rattle.zq_strategy.specs.Regions.{in_routers, strategy_at}
use Rattle.zq_strategy.specs.Entries.{Entries, Routed, entries_at, has_by, is_by, is_unlisted, keys_by, routed_info, routed_with, routed_without, staying, with_entries}
use Rattle.zq_strategy.specs.Nets.{is_listed}
use Rattle.zq_strategy.specs.Routers.{announced, losing, networked, noded, retracted, source_at}
use Rattle.zq_strategy.specs.State.{FaceState, HatState}
use Rattle.zq_strategy.specs.declared.types.FaceRecord.{FaceRecord}
use Rattle.zq_machine.specs.declared.call.Call.{Call}
use Rattle.zq_machine.specs.Configs.{Settings}
use Rattle.zq_machine.specs.Machine.{accepted_state, after, state_after}
use Rattle.zq_machine.specs.Deciding.{accepted, announced_by, causes, refusal_of, retracted_by, seat}
use Rattle.zq_machine.specs.Selecting.{full_text}
use Rattle.zq_machine.specs.State.{Core, State, at, clashes_in, hat_at, joined as join, opening_state}
use Rattle.zq_machine.specs.TextCalls.{TextCall, opening, closing, declaring, withdrawing, finalizing, announcing, retracting, networking, tabling, read}
use Rattle.zq_machine.specs.Trees.{is_touched, own_entry, touched, with_other}
use Rattle.zq_machine.proofs.Agreed.{InOrder, granted_in_order, run_in_order}
use Rattle.zq_machine.proofs.Changing.{region_there}
use Rattle.zq_machine.proofs.Granted.{all_passed, by_granted}
use Rattle.zq_machine.proofs.Hats.{same_view, same_view_of}
use Rattle.zq_machine.proofs.Worded.{Any, Each, IsKey, IsUsed, IsWorded, each_found}

module _ (key : List ℕ) where
  -- another text
  abbrev pub IsOff : List ℕ → Type 0
  IsOff k = bytes_eq k key ≡ false

  -- none of the texts is the key
  abbrev pub AreOff : List (List ℕ) → Type 0
  AreOff ks = list_any (λ k. bytes_eq k key) ks ≡ false

  pub one_off : (k : List ℕ) → AreOff (k ∷ []) → IsOff k
  one_off k o = sym (or-false (bytes_eq k key)) ∙ o

  -- ---- what a face declared
  step_off : (d : ℕ × Declaration) → IsOff d.1.key → (m : Option QueryableInfoType) → with_declared key m d ≡ m
  step_off d o m = ap (λ b. cond b (joined m (Some d.1.info)) m) o

  pub nothing_declared : (ds : List (ℕ × Declaration)) → AreOff (map key_of ds) → (m : Option QueryableInfoType) → fold (with_declared key) m ds ≡ m
  nothing_declared [] o m = refl
  nothing_declared (d ∷ ds) o m =
      let p = or_parts (bytes_eq d.1.key key) (list_any (λ k. bytes_eq k key) (map key_of ds)) o in
      ap (λ x. fold (with_declared key) x ds) (step_off d p.0 m) ∙ nothing_declared ds p.1 m

  abbrev OldOff : ℕ → List (ℕ × Declaration) → Type 0
  OldOff id ds = (x : Declaration) → at_id id ds ≡ Some x → IsOff x.key

  declared_off : (id : ℕ) (d : Declaration) → IsOff d.key → (ds : List (ℕ × Declaration)) → OldOff id ds → (m : Option QueryableInfoType) → fold (with_declared key) m (insert_entry nat_cmp ds id d) ≡ fold (with_declared key) m ds
  declared_off id d o [] old m = step_off (id, d) o m
  declared_off id d o (e ∷ ds) old m = by (nat_cmp id e.0) refl (λ rest. declared_off id d o ds rest (with_declared key m e))
    where
      by : (r : Ordering) → nat_cmp id e.0 ≡ r → (OldOff id ds → fold (with_declared key) (with_declared key m e) (insert_entry nat_cmp ds id d) ≡ fold (with_declared key) (with_declared key m e) ds)
          → fold (with_declared key) m (match_ordering r ((id, d) ∷ e ∷ ds) ((e.0, d) ∷ ds) (e ∷ insert_entry nat_cmp ds id d)) ≡ fold (with_declared key) m (e ∷ ds)
      by Less c more = ap (λ x. fold (with_declared key) x (e ∷ ds)) (step_off (id, d) o m)
      by Equal c more = ap (λ x. fold (with_declared key) x ds) (step_off (e.0, d) o m ∙ sym (step_off e (old e.1 (ap (λ r. cond (is_eq r) (Some e.1) (at_id id ds)) c)) m))
      by Greater c more = more (λ x there. old x (ap (λ r. cond (is_eq r) (Some e.1) (at_id id ds)) c ∙ there))

  withdrawn_off : (id : ℕ) (ds : List (ℕ × Declaration)) → OldOff id ds → (m : Option QueryableInfoType) → fold (with_declared key) m (remove_entry (is_at (nat_cmp id)) ds) ≡ fold (with_declared key) m ds
  withdrawn_off id [] old m = refl
  withdrawn_off id (e ∷ ds) old m = by (is_at (nat_cmp id) e.0) refl (λ rest. withdrawn_off id ds rest (with_declared key m e))
    where
      by : (b : Bool) → is_at (nat_cmp id) e.0 ≡ b → (OldOff id ds → fold (with_declared key) (with_declared key m e) (remove_entry (is_at (nat_cmp id)) ds) ≡ fold (with_declared key) (with_declared key m e) ds)
          → fold (with_declared key) m (cond b ds (e ∷ remove_entry (is_at (nat_cmp id)) ds)) ≡ fold (with_declared key) m (e ∷ ds)
      by true c more = ap (λ x. fold (with_declared key) x ds) (sym (step_off e (old e.1 (ap (λ b. cond b (Some e.1) (at_id id ds)) c)) m))
      by false c more = more (λ x there. old x (ap (λ b. cond b (Some e.1) (at_id id ds)) c ∙ there))

  -- ---- what faces declared
  faces_set : (n : ℕ) (v : FaceState) (fs : List (ℕ × FaceState)) → ((f : FaceState) → at_id n fs ≡ Some f → info key v ≡ info key f) → (m : Option QueryableInfoType)
      → fold (with_face key) m (set_value (is_at (nat_cmp n)) fs v) ≡ fold (with_face key) m fs
  faces_set n v [] same m = refl
  faces_set n v (e ∷ fs) same m = by (is_at (nat_cmp n) e.0) refl (λ rest. faces_set n v fs rest (with_face key m e))
    where
      by : (b : Bool) → is_at (nat_cmp n) e.0 ≡ b → (((f : FaceState) → at_id n fs ≡ Some f → info key v ≡ info key f) → fold (with_face key) (with_face key m e) (set_value (is_at (nat_cmp n)) fs v) ≡ fold (with_face key) (with_face key m e) fs)
          → fold (with_face key) m (cond b ((e.0, v) ∷ fs) (e ∷ set_value (is_at (nat_cmp n)) fs v)) ≡ fold (with_face key) m (e ∷ fs)
      by true c more = ap (λ x. fold (with_face key) (joined m x) fs) (same e.1 (ap (λ b. cond b (Some e.1) (at_id n fs)) c))
      by false c more = more (λ f there. same f (ap (λ b. cond b (Some e.1) (at_id n fs)) c ∙ there))

  faces_left : (n : ℕ) (fs : List (ℕ × FaceState)) → ((f : FaceState) → at_id n fs ≡ Some f → info key f ≡ None) → (m : Option QueryableInfoType)
      → fold (with_face key) m (remove_entry (is_at (nat_cmp n)) fs) ≡ fold (with_face key) m fs
  faces_left n [] none m = refl
  faces_left n (e ∷ fs) none m = by (is_at (nat_cmp n) e.0) refl (λ rest. faces_left n fs rest (with_face key m e))
    where
      by : (b : Bool) → is_at (nat_cmp n) e.0 ≡ b → (((f : FaceState) → at_id n fs ≡ Some f → info key f ≡ None) → fold (with_face key) (with_face key m e) (remove_entry (is_at (nat_cmp n)) fs) ≡ fold (with_face key) (with_face key m e) fs)
          → fold (with_face key) m (cond b fs (e ∷ remove_entry (is_at (nat_cmp n)) fs)) ≡ fold (with_face key) m (e ∷ fs)
      by true c more = ap (λ x. fold (with_face key) x fs) (sym (ap (joined m) (none e.1 (ap (λ b. cond b (Some e.1) (at_id n fs)) c)) ∙ joined_none m))
      by false c more = more (λ f there. none f (ap (λ b. cond b (Some e.1) (at_id n fs)) c ∙ there))

  faces_joined : (n : ℕ) (v : FaceState) → info key v ≡ None → (fs : List (ℕ × FaceState)) → is_some (at_id n fs) ≡ false → (m : Option QueryableInfoType)
      → fold (with_face key) m (insert_entry nat_cmp fs n v) ≡ fold (with_face key) m fs
  faces_joined n v none [] new m = ap (joined m) none ∙ joined_none m
  faces_joined n v none (e ∷ fs) new m = by (nat_cmp n e.0) refl (λ rest. faces_joined n v none fs rest (with_face key m e))
    where
      by : (r : Ordering) → nat_cmp n e.0 ≡ r → (is_some (at_id n fs) ≡ false → fold (with_face key) (with_face key m e) (insert_entry nat_cmp fs n v) ≡ fold (with_face key) (with_face key m e) fs)
          → fold (with_face key) m (match_ordering r ((n, v) ∷ e ∷ fs) ((e.0, v) ∷ fs) (e ∷ insert_entry nat_cmp fs n v)) ≡ fold (with_face key) m (e ∷ fs)
      by Less c more = ap (λ x. fold (with_face key) x (e ∷ fs)) (ap (joined m) none ∙ joined_none m)
      by Equal c more = absurd (true≢false (sym (ap (λ r. is_some (cond (is_eq r) (Some e.1) (at_id n fs))) c) ∙ new))
      by Greater c more = more (sym (ap (λ r. is_some (cond (is_eq r) (Some e.1) (at_id n fs))) c) ∙ new)

  -- ---- entries
  is_apart_from : (k : List ℕ) → IsOff k → is_at (text_cmp k) key ≡ false
  is_apart_from k o = apart text_total text_exact k key (λ same. true≢false (sym ((bytes_eq-Decides k k).1 refl) ∙ ap (bytes_eq k) same ∙ o))

  removed_other : (k : List ℕ) → IsOff k → (es : Entries) → at_text key (remove_entry (is_at (text_cmp k)) es) ≡ at_text key es
  removed_other k o [] = refl
  removed_other k o (e ∷ es) = by (is_at (text_cmp k) e.0) refl (removed_other k o es)
    where
      by : (b : Bool) → is_at (text_cmp k) e.0 ≡ b → at_text key (remove_entry (is_at (text_cmp k)) es) ≡ at_text key es → at_text key (cond b es (e ∷ remove_entry (is_at (text_cmp k)) es)) ≡ at_text key (e ∷ es)
      by true c more =
          let same : k ≡ e.0 = same_key text_total text_exact k e.0 c in
          let away : is_at (text_cmp key) e.0 ≡ false = apart text_total text_exact key e.0 (λ here. true≢false (sym c ∙ ap (λ x. is_at (text_cmp k) x) (sym here) ∙ is_apart_from k o)) in
          sym (ap (λ b. cond b (Some e.1) (at_text key es)) away)
      by false c more = ap (λ x. cond (is_at (text_cmp key) e.0) (Some e.1) x) more

  other_found : (k : List ℕ) → IsOff k → (v : Routed) (es : Entries) → at_text key (with_entries k v es) ≡ at_text key es
  other_found k o [] es = removed_other k o es
  other_found k o (x ∷ v) es = found_after_insertion text_total text_exact k key (x ∷ v) es ∙ ap (λ b. cond b (Some (x ∷ v)) (at_text key es)) (is_apart_from k o)

  all_stay : (net : Network) (xs : Routed) → list_any (is_by (is_unlisted net)) xs ≡ false → filter (is_by (is_listed net)) xs ≡ xs
  all_stay net [] h = refl
  all_stay net (x ∷ xs) h =
      let p = or_parts (not (is_by (is_listed net) x)) (list_any (is_by (is_unlisted net)) xs) h in
      ap (λ b. cond b (x ∷ filter (is_by (is_listed net)) xs) (filter (is_by (is_listed net)) xs)) (not-false (is_by (is_listed net) x) p.0) ∙ ap (λ l. x ∷ l) (all_stay net xs p.1)

  used_any : (xs : Routed) → has_any xs ≡ true → if_any xs ≡ Some xs
  used_any [] has = absurd (false≢true has)
  used_any (x ∷ xs) has = refl

  -- each key has an entry
  abbrev pub AreUsed : Entries → Type 0
  AreUsed es = AllByRecursion (λ e. has_any e.1 ≡ true) es

  pub network_found : (net : Network) (es : Entries) → AreUsed es → AreOff (keys_by (is_unlisted net) es) → at_text key (staying (is_listed net) es) ≡ at_text key es
  network_found net [] used o = refl
  network_found net (e ∷ es) used o = by (has_by (is_unlisted net) e) refl (is_at (text_cmp key) e.0) refl o (network_found net es used.1)
    where
      on_it : is_at (text_cmp key) e.0 ≡ true → bytes_eq e.0 key ≡ true
      on_it at = (bytes_eq-Decides e.0 key).1 (sym (same_key text_total text_exact key e.0 at))

      left : Option Routed → Entries
      left r = cons_option (option_map (λ xs. (e.0, xs)) r) (staying (is_listed net) es)

      beside : (r : Option Routed) → is_at (text_cmp key) e.0 ≡ false → at_text key (left r) ≡ at_text key (staying (is_listed net) es)
      beside None a = refl
      beside (Some xs) a = ap (λ b. cond b (Some xs) (at_text key (staying (is_listed net) es))) a

      kept : has_by (is_unlisted net) e ≡ false → if_any (filter (is_by (is_listed net)) e.1) ≡ Some e.1
      kept l = ap if_any (all_stay net e.1 l) ∙ used_any e.1 used.0

      by : (lost : Bool) → has_by (is_unlisted net) e ≡ lost → (at : Bool) → is_at (text_cmp key) e.0 ≡ at
          → AreOff (keys_of (cond lost (e ∷ filter (has_by (is_unlisted net)) es) (filter (has_by (is_unlisted net)) es)))
          → (AreOff (keys_by (is_unlisted net) es) → at_text key (staying (is_listed net) es) ≡ at_text key es)
          → at_text key (left (if_any (filter (is_by (is_listed net)) e.1))) ≡ cond at (Some e.1) (at_text key es)
      by false l true a off more = ap (λ r. at_text key (left r)) (kept l) ∙ ap (λ b. cond b (Some e.1) (at_text key (staying (is_listed net) es))) a
      by false l false a off more = beside (if_any (filter (is_by (is_listed net)) e.1)) a ∙ more off
      by true l true a off more = absurd (true≢false (sym (on_it a) ∙ (or_parts (bytes_eq e.0 key) (list_any (λ k. bytes_eq k key) (keys_by (is_unlisted net) es)) off).0))
      by true l false a off more = beside (if_any (filter (is_by (is_listed net)) e.1)) a ∙ more (or_parts (bytes_eq e.0 key) (list_any (λ k. bytes_eq k key) (keys_by (is_unlisted net) es)) off).1

-- ---- what a region has on a key
pub record OnKey : Type 0 where
  pub kind : Strategy
  pub faces : Option QueryableInfoType
  pub routers : Option QueryableInfoType

abbrev pub on_key : List ℕ → HatState → OnKey
on_key key h = record { kind = strategy_at h; faces = faces_info key h.faces; routers = routers_info key h }

module _ (key : List ℕ) where
  routed_by : (o p : Option Routed) → o ≡ p → routed_info (option_map_or (λ es. es) o []) ≡ routed_info (option_map_or (λ es. es) p [])
  routed_by o p e = ap (λ (x : Option Routed). routed_info (option_map_or (λ es. es) x [])) e

  face_same : (n : ℕ) (k : FaceState → FaceState) (h : HatState) → ((f : FaceState) → face_at n h ≡ Some f → info key (k f) ≡ info key f) → on_key key (change_face n k h) ≡ on_key key h
  face_same n k h same = by (face_at n h) refl
    where
      by : (o : Option FaceState) → face_at n h ≡ o → on_key key (record h { faces = option_map_or (λ x. set_value (is_at (nat_cmp n)) h.faces (k x)) o h.faces }) ≡ on_key key h
      by None e = refl
      by (Some f) e = ap (λ i. record (on_key key h) { faces = i }) (faces_set key n (k f) h.faces (λ g there. same f e ∙ ap (info key) (same_of f g (sym e ∙ there))) None)
        where
          same_of : (f g : FaceState) → Some f ≡ Some g → f ≡ g
          same_of f g x = cc

  joined_same : (r : FaceRecord) (h : HatState) → on_key key (join r h) ≡ on_key key h
  joined_same r h = by (has_face r.face.0 h) refl
    where
      by : (b : Bool) → has_face r.face.0 h ≡ b → on_key key (cond b h (with_face_opened r h)) ≡ on_key key h
      by true e = refl
      by false e = ap (λ i. record (on_key key h) { faces = i }) (faces_joined key r.face.0 (new_face r h.told_start) refl h.faces e None)

  left_same : (n : ℕ) (h : HatState) → AreOff key (keys_of_face n h) → on_key key (without_face n h) ≡ on_key key h
  left_same n h o = ap (λ i. record (on_key key h) { faces = i }) (faces_left key n h.faces (λ f there. nothing_declared key f.declared (sym (ap (λ x. list_any (λ k. bytes_eq k key) (option_map_or (λ (y : FaceState). map key_of y.declared) x [])) there) ∙ o) None) None)

  pub declared_info : (n id : ℕ) (text : List ℕ) (i : QueryableInfoType) (h : HatState) → IsOff key text → clashes_at n id text h ≡ false → (f : FaceState) → face_at n h ≡ Some f → info key (declare id text i f) ≡ info key f
  declared_info n id text i h o clash f there = declared_off key id (record { key = text; info = i }) o f.declared (λ x found. old x (sym (ap (λ y. option_map_or (is_apart text) (option_and_then (declaration id) y) false) there ∙ ap (λ y. option_map_or (is_apart text) y false) found) ∙ clash)) None
    where
      old : (x : Declaration) → is_apart text x ≡ false → IsOff key x.key
      old x e = ap (λ k. bytes_eq k key) ((bytes_eq-Decides x.key text).0 (not-false (bytes_eq x.key text) e)) ∙ o

  declared_same : (n id : ℕ) (text : List ℕ) (i : QueryableInfoType) (h : HatState) → IsOff key text → clashes_at n id text h ≡ false → on_key key (change_face n (declare id text i) h) ≡ on_key key h
  declared_same n id text i h o clash = face_same n (declare id text i) h (declared_info n id text i h o clash)

  pub withdrawn_info : (n id : ℕ) (h : HatState) → ((x : Declaration) → declaration_at n id h ≡ Some x → IsOff key x.key) → (f : FaceState) → face_at n h ≡ Some f → info key (withdraw id f) ≡ info key f
  withdrawn_info n id h old f there = withdrawn_off key id f.declared (λ x found. old x (ap (option_and_then (declaration id)) there ∙ found)) None

  withdrawn_same : (n id : ℕ) (h : HatState) → ((x : Declaration) → declaration_at n id h ≡ Some x → IsOff key x.key) → on_key key (unregistered n id h) ≡ on_key key h
  withdrawn_same n id h old = face_same n (withdraw id) h (withdrawn_info n id h old)

  pub marked_info : (m : FinalMark) (set : Bool) (f : FaceState) → info key (marked m set f) ≡ info key f
  marked_info mark.Initial set f = refl
  marked_info (mark.Key k) true f = refl
  marked_info (mark.Key k) false f = refl

  announced_same : (n node : ℕ) (text : List ℕ) (i : QueryableInfoType) (h : HatState) → IsOff key text → on_key key (announced_by n node text i h) ≡ on_key key h
  announced_same n node text i h o = by (source_at n node h)
    where
      by : (z : Option Zid) → on_key key (option_map_or (λ (z : Zid). announced z.0 text i h) z h) ≡ on_key key h
      by None = refl
      by (Some z) = ap (λ x. record (on_key key h) { routers = x }) (routed_by _ _ (other_found key text o (routed_with z.0 i (entries_at text h.entries)) h.entries))

  retracted_same : (n node : ℕ) (text : List ℕ) (h : HatState) → IsOff key text → on_key key (retracted_by n node text h) ≡ on_key key h
  retracted_same n node text h o = by (source_at n node h)
    where
      by : (z : Option Zid) → on_key key (option_map_or (λ (z : Zid). retracted z.0 text h) z h) ≡ on_key key h
      by None = refl
      by (Some z) = ap (λ x. record (on_key key h) { routers = x }) (routed_by _ _ (other_found key text o (routed_without z.0 (entries_at text h.entries)) h.entries))

  networked_same : (net : Network) (h : HatState) → AreUsed key h.entries → AreOff key (losing net h) → on_key key (networked net h) ≡ on_key key h
  networked_same net h used o = by (strategy_at h)
    where
      by : (k : Strategy) → on_key key (in_routers k (record h { network = net; entries = staying (is_listed net) h.entries }) h) ≡ on_key key h
      by strategy.Broker = refl
      by strategy.Client = refl
      by strategy.Peer = refl
      by strategy.Router = ap (λ x. record (on_key key h) { routers = x }) (routed_by _ _ (network_found key net h.entries used o))

-- what a region has on a key that an accepted call does not touch stays
pub touches_all : (c : Core) → ((r : Region) (h : HatState) → hat_at r c.hats ≡ Some h → AllByRecursion (λ e. has_any e.1 ≡ true) h.entries)
    → (t : TextCall) → refusal_of c t ≡ None → (key : List ℕ) → list_any (λ k. bytes_eq k key) (touched c t) ≡ false → (k : ℕ) → option_map (on_key key) (at k (accepted c t).hats) ≡ option_map (on_key key) (at k c.hats)
touches_all c used (opening o) h key off k = same_view (on_key key) o.region (join (seat c.next_face o)) c.hats (λ x there. joined_same key (seat c.next_face o) x) k
touches_all c used (closing face) h key off k =
    same_view_of (on_key key) face.0 (without_face face.0) c
    (λ x there. left_same key face.0 x (sym (ap (λ y. list_any (λ k. bytes_eq k key) (option_map_or (keys_of_face face.0) y [])) there) ∙ off)) k
touches_all c used (declaring face id s i node) h key off k =
    let passed = all_passed (causes c (declaring face id s i node)) h in
    same_view_of (on_key key) face.0 (registered face.0 id (full_text s) node i) c
    (λ x there. declared_same key face.0 id (full_text s) i x (one_off key (full_text s) off) (sym (ap (clashes_in face.0 id (full_text s)) there) ∙ passed.1.1.1.0)) k
touches_all c used (withdrawing face id) h key off k =
    same_view_of (on_key key) face.0 (unregistered face.0 id) c
    (λ x there. withdrawn_same key face.0 id x (λ d found. one_off key d.key (sym (ap (λ y. list_any (λ k. bytes_eq k key) (option_to_list (option_map (λ (z : Declaration). z.key) y))) (ap (option_and_then (declaration_at face.0 id)) there ∙ found)) ∙ off))) k
touches_all c used (finalizing face m set) h key off k =
    same_view_of (on_key key) face.0 (finalized face.0 m set) c (λ x there. face_same key face.0 (marked m set) x (λ f is. marked_info key m set f)) k
touches_all c used (announcing face s i node) h key off k =
    same_view_of (on_key key) face.0 (announced_by face.0 node (full_text s) i) c (λ x there. announced_same key face.0 node (full_text s) i x (one_off key (full_text s) off)) k
touches_all c used (retracting face s node) h key off k =
    same_view_of (on_key key) face.0 (retracted_by face.0 node (full_text s)) c (λ x there. retracted_same key face.0 node (full_text s) x (one_off key (full_text s) off)) k
touches_all c used (networking r net) h key off k =
    same_view (on_key key) r (networked net) c.hats
    (λ x there. networked_same key net x (used r x there) (sym (ap (λ y. list_any (λ k. bytes_eq k key) (option_map_or (losing net) y [])) there) ∙ off)) k
touches_all c used (tabling face ids) h key off k =
    same_view_of (on_key key) face.0 (noded face.0 ids) c (λ x there. face_same key face.0 (λ f. record f { nodes = ids }) x (λ f is. refl)) k
touches_all c used t h key off k = refl

-- ---- own entries
module _ (place : ℕ) (key : List ℕ) where
  abbrev seen : ℕ × HatState → ℕ × OnKey
  seen h = (h.0, on_key key h.1)

  with_seen : Option QueryableInfoType → ℕ × OnKey → Option QueryableInfoType
  with_seen m v = cond (v.0 == place) m (joined m (in_routers v.1.kind v.1.routers v.1.faces))

  own_seen : (hats : List (ℕ × HatState)) → fold with_seen None (map seen hats) ≡ own_entry place key hats
  unfolding with_seen
  own_seen hats = fold-map seen with_seen (with_other place key) (λ m h. refl) None hats

  seen_same : (old new : List (ℕ × HatState)) → IsStrictlySortedBy nat_cmp (keys_of old) → IsStrictlySortedBy nat_cmp (keys_of new)
      → ((k : ℕ) → option_map (on_key key) (at k new) ≡ option_map (on_key key) (at k old)) → own_entry place key new ≡ own_entry place key old
  seen_same old new sorted rest same =
      sym (own_seen new)
      ∙ ap (fold with_seen None)
      (same_entries nat_cmp_total exact_unsigned (map seen new) (map seen old)
      (subst (IsStrictlySortedBy nat_cmp) (sym (keys_of-map_values (on_key key) new)) rest)
      (subst (IsStrictlySortedBy nat_cmp) (sym (keys_of-map_values (on_key key) old)) sorted)
      (λ k. lookup-map_values (on_key key) (is_at (nat_cmp k)) new ∙ same k ∙ sym (lookup-map_values (on_key key) (is_at (nat_cmp k)) old)))
      ∙ own_seen old

-- the entries of hats that are worded are used
pub used_there : (es : Entries) → Each IsKey IsUsed es → AllByRecursion (λ (e : List ℕ × Routed). has_any e.1 ≡ true) es
used_there [] w = tt
used_there (e ∷ es) w = (w.0.1, used_there es w.1)

-- an accepted call changes own entries on the keys that it touches alone
pub own_kept : (config : Settings) (s : State) (t : TextCall) → refusal_of s.core t ≡ None → InOrder config s → InOrder config (accepted_state s t) → (place : ℕ) (key : List ℕ) → is_touched s.core t key ≡ false
    → own_entry place key (accepted s.core t).hats ≡ own_entry place key s.core.hats
own_kept config s t h i j place key off =
    seen_same place key s.core.hats (accepted s.core t).hats i.hats.sorted j.hats.sorted
    (touches_all s.core (λ r x there. used_there x.entries (each_found Any IsWorded (is_at (nat_cmp (region_index r))) s.core.hats x (region_there r s.core.hats x there).1 i.worded).entries) t h key off)

-- at each point of a run
pub own_stays : (config : Settings) (calls : List Call) (c : Call) (place : ℕ) (key : List ℕ)
    → is_touched (state_after (opening_state config) calls).core (read (state_after (opening_state config) calls) c) key ≡ false
    → own_entry place key (after (state_after (opening_state config) calls) c).core.hats ≡ own_entry place key (state_after (opening_state config) calls).core.hats
own_stays config calls c place key off =
    let s = state_after (opening_state config) calls in
    let i : InOrder config s = run_in_order config calls in
    by_granted (λ z w. own_entry place key w.core.hats ≡ own_entry place key s.core.hats) s (read s c) (λ text z w it. it) (λ p places z w it. it)
    (λ h. own_kept config s (read s c) h i (granted_in_order config s c h i) place key off)
    (λ r. refl)
