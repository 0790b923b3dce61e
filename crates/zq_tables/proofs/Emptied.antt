-- A face without numbers comes, goes, or is left.
use Rattle.std.proofs.Common.{◌≡◌, ℕ, ◌<◌, Bool, true, false, cond, eqb, List, [], ◌∷◌, length, map, Option, Some, None, IfNone, refl, sym, ap, subst, ◌∙◌, arith, unwrap_or}
use Rattle.std.specs.Prelude.{option_map, slice_get}
use Rattle.std.specs.Option.{is_some}
use Rattle.std.specs.List.{All}
use Rattle.std.specs.List.Sorted.{IsStrictlySortedBy}
use Rattle.std.specs.Map.{remove_entry, set_value, values_of, keys_of}
use Rattle.std.specs.BTreeMap.{is_at, insert_entry}
use Rattle.std.specs.Ordering.{nat_cmp, is_eq}
use Rattle.std.proofs.lemmas.Cmp.{nat_cmp_total, tied_itself}
use Rattle.std.proofs.lemmas.Bool.{false≢true}
use Rattle.std.proofs.lemmas.Option.{none-some, same_Some}
use Rattle.std.proofs.lemmas.List.Elements.{All-nil}
use Rattle.std.proofs.lemmas.Map.Made.{keys_of-map_values}
use Rattle.std.proofs.lemmas.Map.Steps.{set_value_same}
use Rattle.std.proofs.lemmas.Map.Views.{All-values-insert_entry, All-map-remove_entry}
use Rattle.zq_message.specs.declared.message.Mapping.TheVariants.{Sender, Receiver}
use Rattle.zq_names.specs.Names.{NameEntry, entry_at, texts}
use Rattle.zq_tables.specs.FaceIds.{of_id, without_id}
use Rattle.zq_tables.specs.FaceTexts.{id_texts}
use Rattle.zq_tables.specs.Naming.{FaceKeys, IsEntryRow, NamingState, Names, closed_naming, no_keys, naming_at, face_keys, opened_naming, put_naming, change_naming}
use Rattle.zq_tables.specs.Holding.{EntryNodes, FaceHolds, Faces, IsFace, IsHeld, Rises, face_holds, held_ids, held_keys, holds_by, ids_at, ids_in, least, limit, node_at, keys_by, keys_of_face, texts_by, with_keys, without_key}
use Rattle.zq_tables.specs.declared.holder.Holder.{Holder}
use Rattle.zq_tables.specs.declared.holder.Holder.TheVariants.{Number, Queryable, Interest}
use Rattle.zq_tables.proofs.IdLemmas.{removed_absent}
use Rattle.zq_tables.proofs.Entries.{weigh-with_id, weigh-removed, removed_set, set_twice, lookup_set, insert_there, shown-with_id, shown-removed}
use Rattle.zq_tables.proofs.Lean.{root_lean}
use Rattle.zq_tables.proofs.Faces.{naming_at-texts, keys_there, ids_texts, change_idle, shown_text, with_faces}
use Rattle.zq_tables.proofs.Holders.{keys_with, none_keys, same_ids, with_own}

-- ---- before any call

all_unheld : (ns : List NameEntry) (i : ℕ) → map (λ (e : NameEntry). e.holds) ns ≡ 0 ∷ [] → (entry_at ns i).holds ≡ 0
all_unheld [] i is = refl
all_unheld (e ∷ []) i is = by (eqb e.id i)
  where
    first : {x : ℕ} → x ∷ [] ≡ 0 ∷ [] → x ≡ 0
    first h = cc

    by : (b : Bool) → (cond b e (entry_at [] i)).holds ≡ 0
    by true = first is
    by false = refl
all_unheld (e ∷ d ∷ es) i is = absurd (omega (arith, ap length is))

pub held_none : (ns : List NameEntry) → texts ns ≡ [] ∷ [] → map (λ (e : NameEntry). e.holds) ns ≡ 0 ∷ [] → IsHeld ns [] []
held_none ns root is = record {
  live = λ i some. absurd (omega arith);
  counted = λ i has. all_unheld ns i is;
  sides = All-nil IsFace;
  order = record { regions = omega arith; each = All-nil IsEntryRow };
  lean = root_lean ns root;
}

-- ---- as many holds, and all faces as they were or without numbers

same_held : (names : List NameEntry) (faces faces' : Faces) (rows : EntryNodes) → IsHeld names faces rows → ((i : ℕ) → holds_by i faces' ≡ holds_by i faces) → All IsFace (values_of faces') → IsHeld names faces' rows
same_held names faces faces' rows held same sides = record {
  live = λ i some. held.live i (omega (arith, some, same i));
  counted = λ i has. omega (arith, held.counted i has, same i);
  sides = sides;
  order = held.order;
  lean = held.lean;
}

-- nothing stands for a node at the face
record IsBare (f : FaceHolds) : Type 0 where
  theirs : f.numbers.theirs ≡ []
  ours : f.numbers.ours ≡ []
  queryables : f.queryables ≡ []
  interests : f.interests ≡ []

none_held : (i : ℕ) (f : FaceHolds) → IsBare f → face_holds i f ≡ 0
none_held i f bare = rw (bare.theirs, bare.ours, bare.queryables, bare.interests) refl

-- ---- a face comes

module _ (names : List NameEntry) (faces faces' : Faces) (rows : EntryNodes) (face : ℕ) (f : FaceHolds) (theirs : f.numbers.theirs ≡ []) (ours : f.numbers.ours ≡ []) (queryables : f.queryables ≡ []) (interests : f.interests ≡ []) (put : faces' ≡ insert_entry nat_cmp faces face f) where
  bare : IsBare f
  bare = record { theirs = theirs; ours = ours; queryables = queryables; interests = interests }

  is_face : IsFace f
  is_face = record { rises = by }
    where
      by : (h : Holder) → Rises (limit h) (least h) (held_ids h f)
      by (Number Sender) = let R : List (ℕ × ℕ) → Type 0 = Rises 65536 1 in subst R (sym theirs) (omega arith)
      by (Number Receiver) = let R : List (ℕ × ℕ) → Type 0 = Rises 65536 1 in subst R (sym ours) (omega arith)
      by Queryable = let R : List (ℕ × ℕ) → Type 0 = Rises 4294967296 0 in subst R (sym queryables) (omega arith)
      by Interest = let R : List (ℕ × ℕ) → Type 0 = Rises 4294967296 0 in subst R (sym interests) (omega arith)

  pub opened : IsHeld names faces rows → ids_at face faces ≡ None → IsHeld names faces' rows
  opened held absent = same_held names faces faces' rows held
      (λ i. omega (arith, ap (holds_by i) put, weigh-with_id (face_holds i) faces face f absent, none_held i f bare))
      (let A : Faces → Type 0 = λ (fs : Faces). All IsFace (values_of fs) in subst A (sym put) (All-values-insert_entry nat_cmp face f IsFace faces held.sides is_face))

  pub opened_texts : texts_by names faces' rows ≡ opened_naming face (texts_by names faces rows)
  opened_texts =
      let none : keys_of_face names f ≡ no_keys = rw (theirs, ours, queryables, interests) refl in
      ap (with_faces (texts_by names faces rows)) (ap (keys_by names) put ∙ shown-with_id (keys_of_face names) faces face f ∙ ap (insert_entry nat_cmp (keys_by names faces) face) none)

-- ---- a face is left without ids of a holder

map_none : (names : List NameEntry) (es : List (ℕ × ℕ)) → id_texts names es ≡ [] → es ≡ []
map_none names [] is = refl
map_none names (e ∷ es) is = absurd (omega (arith, ap length is))

module _ (face : ℕ) (h : FaceKeys → FaceKeys) where
  abbrev pub changed : NamingState → NamingState
  changed s = change_naming face h s

  -- a change that leaves the face as it is
  pub changed_idle : (s : NamingState) → h (face_keys face s) ≡ face_keys face s → changed s ≡ s
  changed_idle s none = by (naming_at face s) refl none
    where
      by : (o : Option FaceKeys) → naming_at face s ≡ o → h (unwrap_or o no_keys) ≡ unwrap_or o no_keys → put_naming face h s o ≡ s
      by None is same = refl
      by (Some n) is same = ap (with_faces s) (ap (set_value (is_at (nat_cmp face)) s.faces) same ∙ set_value_same (is_at (nat_cmp face)) s.faces n is)

  pub changed_closed : (s : NamingState) → closed_naming face (changed s) ≡ closed_naming face s
  changed_closed s = by (naming_at face s)
    where
      by : (o : Option FaceKeys) → closed_naming face (put_naming face h s o) ≡ closed_naming face s
      by None = refl
      by (Some n) = ap (with_faces s) (removed_set (is_at (nat_cmp face)) s.faces (h n))

-- one change after another
pub changed_twice : (face : ℕ) (g h k : FaceKeys → FaceKeys) → ((n : FaceKeys) → h (g n) ≡ k n) → (s : NamingState) → changed face h (changed face g s) ≡ changed face k s
changed_twice face g h k same s = by (naming_at face s) refl
  where
    by : (o : Option FaceKeys) → naming_at face s ≡ o → changed face h (put_naming face g s o) ≡ put_naming face k s o
    by None is = ap (put_naming face h s) is
    by (Some n) is =
        ap (put_naming face h (with_faces s (set_value (is_at (nat_cmp face)) s.faces (g n)))) (lookup_set (is_at (nat_cmp face)) s.faces n (g n) is)
        ∙ ap (with_faces s) (set_twice (is_at (nat_cmp face)) s.faces (g n) (h (g n)) ∙ ap (set_value (is_at (nat_cmp face)) s.faces) (same n))

-- a change that comes to nothing before the next
pub changed_more : (face : ℕ) (h : FaceKeys → FaceKeys) (s : NamingState) (g : FaceKeys → FaceKeys) → ((n : FaceKeys) → h (g n) ≡ h n) → changed face h (change_naming face g s) ≡ changed face h s
changed_more face h s g same = changed_twice face g h h same s

-- a change that is taken back
pub changed_back : (face : ℕ) (g h : FaceKeys → FaceKeys) (s : NamingState) → h (g (face_keys face s)) ≡ face_keys face s → changed face h (changed face g s) ≡ s
changed_back face g h s back = by (naming_at face s) refl back
  where
    by : (o : Option FaceKeys) → naming_at face s ≡ o → h (g (unwrap_or o no_keys)) ≡ unwrap_or o no_keys → changed face h (put_naming face g s o) ≡ s
    by None is same = ap (put_naming face h s) is
    by (Some n) is same =
        ap (put_naming face h (with_faces s (set_value (is_at (nat_cmp face)) s.faces (g n)))) (lookup_set (is_at (nat_cmp face)) s.faces n (g n) is)
        ∙ ap (with_faces s) (set_twice (is_at (nat_cmp face)) s.faces (g n) (h (g n)) ∙ ap (set_value (is_at (nat_cmp face)) s.faces) same ∙ set_value_same (is_at (nat_cmp face)) s.faces n is)

abbrev pub emptied : NamingState → ℕ → NamingState
emptied s face = change_naming face (λ _. no_keys) s

pub emptied_face : (s : NamingState) (face : ℕ) → face_keys face (emptied s face) ≡ no_keys
emptied_face s face = by (naming_at face s) refl
  where
    by : (o : Option FaceKeys) → naming_at face s ≡ o → face_keys face (put_naming face (λ _. no_keys) s o) ≡ no_keys
    by None is = ap (λ (p : Option FaceKeys). unwrap_or p no_keys) is
    by (Some n) is = ap (λ (p : Option FaceKeys). unwrap_or p no_keys) (lookup_set (is_at (nat_cmp face)) s.faces n no_keys is)

-- what an open face is left with is an entry without keys
pub emptied_put : (s : NamingState) (face : ℕ) → IsStrictlySortedBy nat_cmp (keys_of s.faces) → is_some (naming_at face s) ≡ true → emptied s face ≡ opened_naming face s
emptied_put s face sorted some = by (naming_at face s) refl some
  where
    by : (o : Option FaceKeys) → naming_at face s ≡ o → is_some o ≡ true → put_naming face (λ _. no_keys) s o ≡ opened_naming face s
    by None is no_face = absurd (false≢true no_face)
    by (Some n) is yes_face = ap (with_faces s) (sym (insert_there s.faces face n no_keys sorted is))

pub keys_texts : (names : List NameEntry) (faces : Faces) → keys_of (keys_by names faces) ≡ keys_of faces
keys_texts names faces = keys_of-map_values (keys_of_face names) faces

pub some_map : {X Y : Type 0} (f : X → Y) (o : Option X) → is_some (option_map f o) ≡ is_some o
some_map f None = refl
some_map f (Some x) = refl

pub open_naming : (names : List NameEntry) (faces : Faces) (rows : EntryNodes) (face : ℕ) → is_some (naming_at face (texts_by names faces rows)) ≡ is_some (ids_at face faces)
open_naming names faces rows face = ap is_some (naming_at-texts names faces rows face) ∙ some_map (keys_of_face names) (ids_at face faces)

-- ---- a face goes

pub closed : (names : List NameEntry) (faces faces' : Faces) (rows : EntryNodes) (face : ℕ) → IsHeld names faces rows → face_keys face (texts_by names faces rows) ≡ no_keys → faces' ≡ remove_entry (is_at (nat_cmp face)) faces → IsHeld names faces' rows
closed names faces faces' rows face held none put =
    same_held names faces faces' rows held (λ i. ap (holds_by i) put ∙ by i (ids_at face faces) refl)
    (let A : Faces → Type 0 = λ (fs : Faces). All IsFace (values_of fs) in subst A (sym put) (All-map-remove_entry (is_at (nat_cmp face)) (λ (e : ℕ × FaceHolds). e.1) IsFace faces held.sides))
  where
    by : (i : ℕ) (o : Option FaceHolds) → ids_at face faces ≡ o → holds_by i (remove_entry (is_at (nat_cmp face)) faces) ≡ holds_by i faces
    by i None at = ap (holds_by i) (removed_absent (is_at (nat_cmp face)) faces at)
    by i (Some f) at =
        let is = sym (keys_there names faces rows face f at) ∙ none in
        let bare : IsBare f = record {
          theirs = map_none names f.numbers.theirs (ap (λ (n : FaceKeys). n.numbers.theirs) is);
          ours = map_none names f.numbers.ours (ap (λ (n : FaceKeys). n.numbers.ours) is);
          queryables = map_none names f.queryables (ap (λ (n : FaceKeys). n.queryables) is);
          interests = map_none names f.interests (ap (λ (n : FaceKeys). n.interests) is);
        } in
        omega (arith, weigh-removed (face_holds i) (is_at (nat_cmp face)) faces f at, none_held i f bare)

pub closed_texts : (names : List NameEntry) (faces faces' : Faces) (rows : EntryNodes) (face : ℕ) → faces' ≡ remove_entry (is_at (nat_cmp face)) faces → texts_by names faces' rows ≡ closed_naming face (texts_by names faces rows)
closed_texts names faces faces' rows face put = ap (with_faces (texts_by names faces rows)) (ap (keys_by names) put ∙ shown-removed (keys_of_face names) (is_at (nat_cmp face)) faces)

-- ---- the first id

keys_id_texts : (names : List NameEntry) (es : List (ℕ × ℕ)) → keys_of (id_texts names es) ≡ keys_of es
keys_id_texts names es = keys_of-map_values (λ (k : ℕ). (entry_at names k).text) es

pub first_same : (h : Holder) (names : List NameEntry) (faces : Faces) (rows : EntryNodes) (face : ℕ) → slice_get (keys_of (ids_in h (ids_at face faces))) 0 ≡ slice_get (keys_of (held_keys h (face_keys face (texts_by names faces rows)))) 0
first_same h names faces rows face = ap (λ (l : List ℕ). slice_get l 0) (sym (keys_id_texts names (ids_in h (ids_at face faces))) ∙ ap keys_of (ids_texts h names faces rows face))

-- what holds where a first id is none
pub none_then : {P : Type 0} (o x : Option ℕ) → o ≡ x → (None ≡ x → P) → IfNone o P
none_then None x is then = then is
none_then (Some i) x is then = tt

pub no_first : {X : Type 0} (es : List (ℕ × X)) → slice_get (keys_of es) 0 ≡ None → es ≡ []
no_first [] is = refl
no_first (e ∷ es) is = absurd (none-some e.0 (sym is))

idle_less : (names : List NameEntry) (es : List (ℕ × ℕ)) (id : ℕ) → of_id es id ≡ None → without_id (id_texts names es) id ≡ id_texts names es
idle_less names es id absent = removed_absent (is_at (nat_cmp id)) (id_texts names es) (shown_text names es id None absent)

pub freed_idle : (h : Holder) (names : List NameEntry) (faces : Faces) (rows : EntryNodes) (face id : ℕ) → node_at h face id faces ≡ None → texts_by names faces rows ≡ change_naming face (without_key h id) (texts_by names faces rows)
freed_idle h names faces rows face id none =
    change_idle names faces rows face (without_key h id) (λ f at.
    let absent : of_id (held_ids h f) id ≡ None = ap (λ (o : Option FaceHolds). of_id (ids_in h o) id) (sym at) ∙ none in
    let kept : without_id (held_keys h (keys_of_face names f)) id ≡ held_keys h (keys_of_face names f) =
    ap (λ (l : Names). without_id l id) (sym (same_ids h names f)) ∙ idle_less names (held_ids h f) id absent ∙ same_ids h names f in
    ap (with_keys h (keys_of_face names f)) kept ∙ with_own h (keys_of_face names f))

-- ---- one id less

fewer_left : {X : Type 0} (es : List (ℕ × X)) (id : ℕ) → Some id ≡ slice_get (keys_of es) 0 → length (without_id es id) < length es
fewer_left [] id is = absurd (none-some id (sym is))
fewer_left (e ∷ es) id is =
    let same : id ≡ e.0 = same_Some _ _ is in
    let here : is_at (nat_cmp id) e.0 ≡ true = ap (is_at (nat_cmp id)) (sym same) ∙ ap is_eq (tied_itself nat_cmp_total id) in
    rw here (omega arith)

-- a holder has an id less
pub fewer : (h : Holder) (id : ℕ) (s : NamingState) (face : ℕ) → Some id ≡ slice_get (keys_of (held_keys h (face_keys face s))) 0 → length (held_keys h (face_keys face (change_naming face (without_key h id) s))) < length (held_keys h (face_keys face s))
fewer h id s face is = by (naming_at face s) refl
  where
    by : (o : Option FaceKeys) → naming_at face s ≡ o → length (held_keys h (face_keys face (put_naming face (without_key h id) s o))) < length (held_keys h (face_keys face s))
    by None at = absurd (none-some id (sym (is ∙ ap (λ (p : Option FaceKeys). slice_get (keys_of (held_keys h (unwrap_or p no_keys))) 0) at ∙ ap (λ (l : Names). slice_get (keys_of l) 0) (none_keys h))))
    by (Some n) at =
        let left = without_id (held_keys h n) id in
        let was : held_keys h (face_keys face s) ≡ held_keys h n = ap (λ (p : Option FaceKeys). held_keys h (unwrap_or p no_keys)) at in
        let now : held_keys h (face_keys face (with_faces s (set_value (is_at (nat_cmp face)) s.faces (without_key h id n)))) ≡ left =
        ap (λ (p : Option FaceKeys). held_keys h (unwrap_or p no_keys)) (lookup_set (is_at (nat_cmp face)) s.faces n (without_key h id n) at) ∙ keys_with h n left in
        let smaller = fewer_left (held_keys h n) id (is ∙ ap (λ (l : Names). slice_get (keys_of l) 0) was) in
        omega (arith, ap length was, ap length now, smaller)
