-- Open faces, hats and what stands for keys agree after every call.
use Rattle.std.proofs.Common.{◌≡◌, ◌∙◌, refl, sym, ap, subst, ℕ, Bool, true, false, cond, List, map, Option, Some, None, ◌⊎◌, inl, inr, unwrap_or}
use Rattle.std.specs.Option.{is_some, option_map, option_map_or}
use Rattle.std.specs.Ordering.{nat_cmp}
use Rattle.std.specs.Str.{bytes_eq}
use Rattle.std.specs.List.Sorted.{IsStrictlySortedBy}
use Rattle.std.specs.Map.{keys_of, remove_entry}
use Rattle.std.specs.BTreeMap.{is_at, insert_entry}
use Rattle.std.proofs.lemmas.Bool.{false≢true, not-false}
use Rattle.std.proofs.lemmas.Cmp.{nat_cmp_total}
use Rattle.std.proofs.lemmas.Map.Made.{keys_of-map_values, lookup-map_values}
use Rattle.std.proofs.lemmas.Map.Steps.{set_value_same}
use Rattle.std.proofs.lemmas.Option.{same_Some}
use Rattle.std.proofs.lemmas.Slice.Eq.{bytes_eq-Decides}
use Rattle.zq_message.specs.declared.message.QueryableInfoType.{QueryableInfoType}
use Rattle.zq_message.specs.declared.message.Region.{Region}
use Rattle.zq_message.specs.Region.{region_index}
use Rattle.zq_strategy.specs.declared.types.Declaration.{Declaration}
use Rattle.zq_strategy.specs.declared.types.FinalMark.{FinalMark}
use Rattle.zq_strategy.specs.declared.types.FinalMark.TheVariants as mark
use Rattle.zq_strategy.specs.State.{FaceState, HatState}
use Rattle.zq_strategy.specs.Kept.{change_face, declaration, declare, face_at, has_face, is_apart, withdraw}
use Rattle.zq_strategy.specs.Marks.{marked}
use Rattle.zq_strategy.specs.Routers.{noded}
use Rattle.zq_strategy.specs.declared.network.NodeIds.{NodeIds}
use Rattle.zq_tables.specs.Naming.{EntryRows, FaceKeys, Names, NamingState, change_naming, face_queryables, first_stays, naming_at, no_keys, text_at, with_name, with_queryable, with_rows, without_name, without_queryable}
use Rattle.zq_tables.proofs.Entries.{insert_there}
use Rattle.zq_machine.specs.declared.face.OpenFace.{OpenFace}
use Rattle.zq_machine.specs.Agreeing.{IsCopy, id_and_key, is_open_in}
use Rattle.zq_machine.specs.State.{at, hat_at, change_hat, put_hat}
use Rattle.zq_machine.proofs.Changing.{each_hat, face_here, face_other, face_stays, faces_sorted, found_here, found_other, hat_either, hat_stays, itself, naming_changed, one_number, sorted_changed, there}
use Rattle.zq_index.proofs.Mapped.{insert-map, remove-map}
use Rattle.zq_key.proofs.Sorted.{sorted_in, sorted_out}

-- the hat's copy is how the face was opened; the queryables that hold nodes are the declared ones, which stand in order
pub record Holds (o : OpenFace) (f : FaceState) (qs : Names) : Type 0 where
  pub copy : IsCopy o f
  pub same : qs ≡ map id_and_key f.declared
  pub sorted : IsStrictlySortedBy nat_cmp (keys_of f.declared)

-- faces, hats and keys agree, and what is taken out of is in order
pub record Tied (faces : List (ℕ × OpenFace)) (hats : List (ℕ × HatState)) (names : NamingState) : Type 0 where
  pub hats_sorted : (r : Region) (h : HatState) → hat_at r hats ≡ Some h → IsStrictlySortedBy nat_cmp (keys_of h.faces)
  pub names_sorted : IsStrictlySortedBy nat_cmp (keys_of names.faces)
  pub seats : (r : Region) (h : HatState) (q : ℕ) → hat_at r hats ≡ Some h → has_face q h ≡ is_open_in r q faces
  pub homes : (q : ℕ) (o : OpenFace) → at q faces ≡ Some o → is_some (hat_at o.region hats) ≡ true
  pub named : (q : ℕ) → is_some (naming_at q names) ≡ is_some (at q faces)
  pub held : (q : ℕ) (o : OpenFace) (h : HatState) (f : FaceState) → at q faces ≡ Some o → hat_at o.region hats ≡ Some h → face_at q h ≡ Some f → Holds o f (face_queryables q names)

abbrev pub keys_by : Option FaceKeys → Names
keys_by o = (unwrap_or o no_keys).queryables

pub some_of : {X : Type 0} (o : Option X) → is_some o ≡ true → (x : X) × (o ≡ Some x)
some_of None h = absurd (false≢true h)
some_of (Some x) h = (x, refl)

-- ---- keys are changed at a face, and queryables with them or not
module _ (face : ℕ) (g : FaceKeys → FaceKeys) (names : NamingState) where
  names_found : (q : ℕ) → is_some (naming_at q (change_naming face g names)) ≡ is_some (naming_at q names)
  names_found q = ap (λ s. is_some (naming_at q s)) (naming_changed face g names) ∙ there face g names.faces q

  names_in_order : IsStrictlySortedBy nat_cmp (keys_of names.faces) → IsStrictlySortedBy nat_cmp (keys_of (change_naming face g names).faces)
  names_in_order s = subst (λ (l : NamingState). IsStrictlySortedBy nat_cmp (keys_of l.faces)) (sym (naming_changed face g names)) (sorted_changed face g names.faces s)

  keys_elsewhere : (q : ℕ) → is_at (nat_cmp face) q ≡ false → face_queryables q (change_naming face g names) ≡ face_queryables q names
  keys_elsewhere q e = ap (λ s. face_queryables q s) (naming_changed face g names) ∙ ap keys_by (found_other face g names.faces q e)

  keys_here : (n : FaceKeys) → naming_at face names ≡ Some n → face_queryables face (change_naming face g names) ≡ (g n).queryables
  keys_here n e = ap (λ s. face_queryables face s) (naming_changed face g names) ∙ ap keys_by (found_here face g names.faces face (itself face) ∙ ap (option_map g) e)

  kept_by : ((n : FaceKeys) → (g n).queryables ≡ n.queryables) → (o : Option FaceKeys) → keys_by (option_map g o) ≡ keys_by o
  kept_by same None = refl
  kept_by same (Some n) = same n

  keys_kept : ((n : FaceKeys) → (g n).queryables ≡ n.queryables) → (q : ℕ) → face_queryables q (change_naming face g names) ≡ face_queryables q names
  keys_kept same q = by (is_at (nat_cmp face) q) refl
    where
      by : (b : Bool) → is_at (nat_cmp face) q ≡ b → face_queryables q (change_naming face g names) ≡ face_queryables q names
      by true e = ap (λ s. face_queryables q s) (naming_changed face g names) ∙ ap keys_by (found_here face g names.faces q e) ∙ kept_by same (naming_at q names)
      by false e = keys_elsewhere q e

module _ (faces : List (ℕ × OpenFace)) (hats : List (ℕ × HatState)) (names : NamingState) (t : Tied faces hats names) where
  -- numbers for keys come and go
  pub renamed_tied : (face : ℕ) (g : FaceKeys → FaceKeys) → ((n : FaceKeys) → (g n).queryables ≡ n.queryables) → Tied faces hats (change_naming face g names)
  renamed_tied face g same = record {
    hats_sorted = t.hats_sorted;
    names_sorted = names_in_order face g names t.names_sorted;
    seats = t.seats;
    homes = t.homes;
    named = λ q. names_found face g names q ∙ t.named q;
    held = λ q o h f e there_at f_at. subst (Holds o f) (sym (keys_kept face g names same q)) (t.held q o h f e there_at f_at);
  }

  -- the keys of entries come and go
  pub rerouted_tied : (rows : EntryRows) → Tied faces hats (with_rows rows names)
  rerouted_tied rows = record { hats_sorted = t.hats_sorted; names_sorted = t.names_sorted; seats = t.seats; homes = t.homes; named = t.named; held = t.held }

  pub named_tied : (face id : ℕ) (text : List ℕ) → Tied faces hats (change_naming face (with_name id text) names)
  named_tied face id text = renamed_tied face (with_name id text) (λ n. refl)

  pub unnamed_tied : (face id : ℕ) → Tied faces hats (change_naming face (without_name id) names)
  unnamed_tied face id = renamed_tied face (without_name id) (λ n. refl)

  -- ---- a hat is changed, but not in its faces
  module _ (r : Region) (g : HatState → HatState) (same : (h : HatState) → (g h).faces ≡ h.faces) where
    -- the hat of a region as it was
    abbrev Was : (p : Region) (h : HatState) → Type 0
    Was p h = (old : HatState) × (hat_at p hats ≡ Some old) × (h.faces ≡ old.faces)

    was : (p : Region) (h : HatState) → hat_at p (change_hat r g hats) ≡ Some h → Was p h
    was p h e = by (hat_at r hats) refl
      where
        by : (o : Option HatState) → hat_at r hats ≡ o → Was p h
        by None f = (h, sym (ap (λ o. hat_at p (put_hat r g hats o)) f) ∙ e, refl)
        by (Some first) f = either (hat_either r first g hats f p)
          where
            either : (hat_at p (change_hat r g hats) ≡ hat_at p hats) ⊎ ((hat_at p hats ≡ Some first) × (hat_at p (change_hat r g hats) ≡ Some (g first))) → Was p h
            either (inl k) = (h, sym k ∙ e, refl)
            either (inr k) = (first, k.0, ap (λ (x : HatState). x.faces) (same_Some _ _ (sym e ∙ k.1)) ∙ same first)

    still_home : (p : Region) → is_some (hat_at p hats) ≡ true → is_some (hat_at p (change_hat r g hats)) ≡ true
    still_home p h = by (hat_at r hats) refl
      where
        by : (o : Option HatState) → hat_at r hats ≡ o → is_some (hat_at p (change_hat r g hats)) ≡ true
        by None f = ap (λ o. is_some (hat_at p (put_hat r g hats o))) f ∙ h
        by (Some first) f = hat_stays r first g hats f p h

    pub same_faces_tied : Tied faces (change_hat r g hats) names
    same_faces_tied = record {
      hats_sorted = λ p h e. let x = was p h e in subst (λ (l : List (ℕ × FaceState)). IsStrictlySortedBy nat_cmp (keys_of l)) (sym x.2) (t.hats_sorted p x.0 x.1);
      names_sorted = t.names_sorted;
      seats = λ p h q e. let x = was p h e in ap (λ (l : List (ℕ × FaceState)). is_some (at q l)) x.2 ∙ t.seats p x.0 q x.1;
      homes = λ q o e. still_home o.region (t.homes q o e);
      named = t.named;
      held = λ q o h f e h_at f_at. let x = was o.region h h_at in t.held q o x.0 f e x.1 (sym (ap (λ (l : List (ℕ × FaceState)). at q l) x.2) ∙ f_at);
    }

  -- ---- an open face is changed in its hat, and its keys with it
  module _ (face : ℕ) (o : OpenFace) (seen : at face faces ≡ Some o) where
    abbrev hats_with : (FaceState → FaceState) → List (ℕ × HatState)
    hats_with k = change_hat o.region (change_face face k) hats

    home : (h : HatState) × (hat_at o.region hats ≡ Some h)
    home = some_of (hat_at o.region hats) (t.homes face o seen)

    its_keys : (n : FaceKeys) × (naming_at face names ≡ Some n)
    its_keys = some_of (naming_at face names) (t.named face ∙ ap is_some seen)

    module _ (k : FaceState → FaceState) (after : NamingState)
        (sorted : IsStrictlySortedBy nat_cmp (keys_of after.faces))
        (names_same : (q : ℕ) → is_some (naming_at q after) ≡ is_some (naming_at q names))
        (others : (q : ℕ) → is_at (nat_cmp face) q ≡ false → face_queryables q after ≡ face_queryables q names)
        (kept : (h : HatState) (f : FaceState) → hat_at o.region hats ≡ Some h → face_at face h ≡ Some f → Holds o f (face_queryables face names) → Holds o (k f) (face_queryables face after)) where
      each : (P : HatState → Type 0) (r : Region) (h : HatState) → hat_at r (hats_with k) ≡ Some h
          → (is_at (nat_cmp (region_index o.region)) (region_index r) ≡ true → hat_at r hats ≡ Some home.0 → P (change_face face k home.0))
          → (is_at (nat_cmp (region_index o.region)) (region_index r) ≡ false → hat_at r hats ≡ Some h → P h)
          → P h
      each = each_hat o.region home.0 (change_face face k) hats home.1

      changed_here : (q : ℕ) → is_at (nat_cmp face) q ≡ true → (f : FaceState) → face_at q (change_face face k home.0) ≡ Some f → Holds o f (face_queryables q after)
      changed_here q e f f_at = by (face_at face home.0) refl
        where
          one : face ≡ q
          one = one_number face q e

          found : option_map k (face_at face home.0) ≡ Some f
          found = ap (λ n. option_map k (face_at n home.0)) one ∙ sym (face_here face k home.0 q e) ∙ f_at

          by : (x : Option FaceState) → face_at face home.0 ≡ x → Holds o f (face_queryables q after)
          by None is = absurd (let gap : None ≡ Some f = sym (ap (option_map k) is) ∙ found in cc)
          by (Some x) is =
              let new : k x ≡ f = same_Some _ _ (sym (ap (option_map k) is) ∙ found) in
              let holds : Holds o (k x) (face_queryables face after) = kept home.0 x home.1 is (t.held face o home.0 x seen home.1 is) in
              subst (λ n. Holds o f (face_queryables n after)) one (subst (λ y. Holds o y (face_queryables face after)) new holds)

      changed_elsewhere : (q : ℕ) → is_at (nat_cmp face) q ≡ false → (p : OpenFace) (h : HatState) (f : FaceState) → at q faces ≡ Some p → hat_at p.region hats ≡ Some h → face_at q h ≡ Some f → Holds p f (face_queryables q after)
      changed_elsewhere q e p h f q_at h_at f_at = subst (Holds p f) (sym (others q e)) (t.held q p h f q_at h_at f_at)

      -- the face's own hat is changed
      itself_open : (q : ℕ) → is_at (nat_cmp face) q ≡ true → (p : OpenFace) → at q faces ≡ Some p → o ≡ p
      itself_open q e p q_at = same_Some _ _ (sym seen ∙ ap (λ n. at n faces) (one_number face q e) ∙ q_at)

      own_region : (q : ℕ) → is_at (nat_cmp face) q ≡ true → (p : OpenFace) → at q faces ≡ Some p → is_at (nat_cmp (region_index o.region)) (region_index p.region) ≡ true
      own_region q e p q_at = ap (λ (x : OpenFace). is_at (nat_cmp (region_index o.region)) (region_index x.region)) (sym (itself_open q e p q_at)) ∙ itself (region_index o.region)

      holds_after : (q : ℕ) (p : OpenFace) (h : HatState) (f : FaceState) → at q faces ≡ Some p → hat_at p.region (hats_with k) ≡ Some h → face_at q h ≡ Some f → Holds p f (face_queryables q after)
      holds_after q p h f q_at h_at = by (is_at (nat_cmp face) q) refl
        where
          P : HatState → Type 0
          P x = face_at q x ≡ Some f → Holds p f (face_queryables q after)

          by : (b : Bool) → is_at (nat_cmp face) q ≡ b → face_at q h ≡ Some f → Holds p f (face_queryables q after)
          by true e = each P p.region h h_at
              (λ b old f_at. subst (λ x. Holds x f (face_queryables q after)) (itself_open q e p q_at) (changed_here q e f f_at))
              (λ b old f_at. absurd (false≢true (sym b ∙ own_region q e p q_at)))
          by false e = each P p.region h h_at
              (λ b old f_at. changed_elsewhere q e p home.0 f q_at old (sym (face_other face k home.0 q e) ∙ f_at))
              (λ b old f_at. changed_elsewhere q e p h f q_at old f_at)

      pub face_tied : Tied faces (hats_with k) after
      face_tied = record {
        hats_sorted = λ r h e. each (λ x. IsStrictlySortedBy nat_cmp (keys_of x.faces)) r h e (λ b old. faces_sorted face k home.0 (t.hats_sorted r home.0 old)) (λ b old. t.hats_sorted r h old);
        names_sorted = sorted;
        seats = λ r h q e. each (λ x. has_face q x ≡ is_open_in r q faces) r h e (λ b old. face_stays face k home.0 q ∙ t.seats r home.0 q old) (λ b old. t.seats r h q old);
        homes = λ q p e. hat_stays o.region home.0 (change_face face k) hats home.1 p.region (t.homes q p e);
        named = λ q. names_same q ∙ t.named q;
        held = λ q p h f q_at h_at f_at. holds_after q p h f q_at h_at f_at;
      }

-- ---- what a face declares, withdraws and is marked with
keys_in_order : (o : OpenFace) (f : FaceState) (qs : Names) → Holds o f qs → IsStrictlySortedBy nat_cmp (keys_of qs)
keys_in_order o f qs holds = subst (IsStrictlySortedBy nat_cmp) (sym (ap keys_of holds.same ∙ keys_of-map_values (λ (d : Declaration). d.key) f.declared)) holds.sorted

same_text : (id : ℕ) (text u : List ℕ) (d : Option Declaration) → option_map (λ (x : Declaration). x.key) d ≡ Some u → option_map_or (is_apart text) d false ≡ false → u ≡ text
same_text id text u None e apart = absurd (let gap : None ≡ Some u = e in cc)
same_text id text u (Some d) e apart = sym (same_Some _ _ e) ∙ (bytes_eq-Decides d.key text).0 (not-false (bytes_eq d.key text) apart)

declared_holds : (o : OpenFace) (id : ℕ) (text : List ℕ) (info : QueryableInfoType) (f : FaceState) (qs : Names) → Holds o f qs → option_map_or (is_apart text) (declaration id f) false ≡ false → Holds o (declare id text info f) (first_stays id text qs)
declared_holds o id text info f qs holds apart = record {
  copy = record { zid = holds.copy.zid; mode = holds.copy.mode; remote_bound = holds.copy.remote_bound };
  same = by (text_at id qs) refl;
  sorted = sorted_in nat_cmp_total f.declared id (record { key = text; info = info }) holds.sorted;
}
  where
    inserted : insert_entry nat_cmp qs id text ≡ map id_and_key (declare id text info f).declared
    inserted =
        ap (λ l. insert_entry nat_cmp l id text) holds.same
        ∙ insert-map (λ (d : Declaration). d.key) nat_cmp f.declared id (record { key = text; info = info })

    by : (o : Option (List ℕ)) → text_at id qs ≡ o → cond (is_some o) qs (insert_entry nat_cmp qs id text) ≡ map id_and_key (declare id text info f).declared
    by None e = inserted
    by (Some u) e =
        let was : option_map (λ (x : Declaration). x.key) (declaration id f) ≡ Some u =
        sym (lookup-map_values (λ (d : Declaration). d.key) (is_at (nat_cmp id)) f.declared) ∙ ap (text_at id) (sym holds.same) ∙ e in
        let now : text_at id qs ≡ Some text = e ∙ ap Some (same_text id text u (declaration id f) was apart) in
        sym (insert_there qs id u text (keys_in_order o f qs holds) e ∙ set_value_same (is_at (nat_cmp id)) qs text now) ∙ inserted

withdrawn_holds : (o : OpenFace) (id : ℕ) (f : FaceState) (qs : Names) → Holds o f qs → Holds o (withdraw id f) (remove_entry (is_at (nat_cmp id)) qs)
withdrawn_holds o id f qs holds = record {
  copy = record { zid = holds.copy.zid; mode = holds.copy.mode; remote_bound = holds.copy.remote_bound };
  same = ap (remove_entry (is_at (nat_cmp id))) holds.same ∙ remove-map (λ (d : Declaration). d.key) (is_at (nat_cmp id)) f.declared;
  sorted = sorted_out nat_cmp (is_at (nat_cmp id)) f.declared holds.sorted;
}

marked_holds : (o : OpenFace) (m : FinalMark) (set : Bool) (f : FaceState) (qs : Names) → Holds o f qs → Holds o (marked m set f) qs
marked_holds o mark.Initial set f qs holds = record { copy = record { zid = holds.copy.zid; mode = holds.copy.mode; remote_bound = holds.copy.remote_bound }; same = holds.same; sorted = holds.sorted }
marked_holds o (mark.Key key) true f qs holds = record { copy = record { zid = holds.copy.zid; mode = holds.copy.mode; remote_bound = holds.copy.remote_bound }; same = holds.same; sorted = holds.sorted }
marked_holds o (mark.Key key) false f qs holds = record { copy = record { zid = holds.copy.zid; mode = holds.copy.mode; remote_bound = holds.copy.remote_bound }; same = holds.same; sorted = holds.sorted }

module _ (faces : List (ℕ × OpenFace)) (hats : List (ℕ × HatState)) (names : NamingState) (t : Tied faces hats names) (face : ℕ) (o : OpenFace) (seen : at face faces ≡ Some o) where
  -- the keys of the face are changed as its declarations are
  with_keys : (k : FaceState → FaceState) (g : FaceKeys → FaceKeys)
      → ((h : HatState) (f : FaceState) (n : FaceKeys) → hat_at o.region hats ≡ Some h → face_at face h ≡ Some f → Holds o f n.queryables → Holds o (k f) (g n).queryables)
      → Tied faces (change_hat o.region (change_face face k) hats) (change_naming face g names)
  with_keys k g kept =
      let n : (n : FaceKeys) × (naming_at face names ≡ Some n) = its_keys faces hats names t face o seen in
      face_tied faces hats names t face o seen k (change_naming face g names)
      (names_in_order face g names t.names_sorted) (names_found face g names) (keys_elsewhere face g names)
      (λ h f h_at f_at holds. subst (Holds o (k f)) (sym (keys_here face g names n.0 n.1)) (kept h f n.0 h_at f_at (subst (Holds o f) (ap keys_by n.1) holds)))

  pub declared_tied : (id : ℕ) (text : List ℕ) (info : QueryableInfoType)
      → ((h : HatState) (f : FaceState) → hat_at o.region hats ≡ Some h → face_at face h ≡ Some f → option_map_or (is_apart text) (declaration id f) false ≡ false)
      → Tied faces (change_hat o.region (change_face face (declare id text info)) hats) (change_naming face (with_queryable id text) names)
  declared_tied id text info apart =
      with_keys (declare id text info) (with_queryable id text) (λ h f n h_at f_at holds. declared_holds o id text info f n.queryables holds (apart h f h_at f_at))

  pub withdrawn_tied : (id : ℕ) → Tied faces (change_hat o.region (change_face face (withdraw id)) hats) (change_naming face (without_queryable id) names)
  withdrawn_tied id = with_keys (withdraw id) (without_queryable id) (λ h f n h_at f_at holds. withdrawn_holds o id f n.queryables holds)

  pub marked_tied : (m : FinalMark) (set : Bool) → Tied faces (change_hat o.region (change_face face (marked m set)) hats) names
  marked_tied m set =
      face_tied faces hats names t face o seen (marked m set) names t.names_sorted (λ q. refl) (λ q e. refl)
      (λ h f h_at f_at holds. marked_holds o m set f (face_queryables face names) holds)

  pub noded_tied : (ids : NodeIds) → Tied faces (change_hat o.region (noded face ids) hats) names
  noded_tied ids =
      face_tied faces hats names t face o seen (λ f. record f { nodes = ids }) names t.names_sorted (λ q. refl) (λ q e. refl)
      (λ h f h_at f_at holds. record { copy = record { zid = holds.copy.zid; mode = holds.copy.mode; remote_bound = holds.copy.remote_bound }; same = holds.same; sorted = holds.sorted })
