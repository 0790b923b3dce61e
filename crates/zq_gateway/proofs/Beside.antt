-- What faces are told reads the open faces, and the numbers and the interests of the faces that are told, and nothing else: it is told the same before and after all else is changed.
use Rattle.std.proofs.Common.{◌≡◌, ◌∙◌, refl, sym, ap, subst, ℕ, Bool, true, false, cond, ◌||◌, List, [], ◌∷◌, ◌++◌, Option, Some, None, unwrap_or}
use Rattle.std.specs.BTreeMap.{is_at}
use Rattle.std.specs.List.{AllByRecursion, list_any}
use Rattle.std.specs.Map.{remove_entry, set_value}
use Rattle.std.specs.Option.{option_map_or}
use Rattle.std.specs.Ordering.{nat_cmp}
use Rattle.std.proofs.lemmas.Bool.{true≢false}
use Rattle.std.proofs.lemmas.Cmp.{nat_cmp_total}
use Rattle.std.proofs.lemmas.Map.Lookups.{exact_unsigned}
use Rattle.zq_message.specs.declared.message.Declare.{Declare}
use Rattle.zq_message.specs.declared.message.DeclareBody.TheVariants as body
use Rattle.zq_message.specs.declared.message.FaceId.{FaceId}
use Rattle.zq_names.specs.Texts.{nonwild}
use Rattle.zq_tables.specs.FaceTexts.{declared_key}
use Rattle.zq_tables.specs.declared.decl.DeclKey.{DeclKey}
use Rattle.zq_tables.specs.Naming.{FaceKeys, NamingState, change_naming, closed_naming, face_naming, naming_at, no_keys, put_naming, with_told_number, without_interest, without_queryable}
use Rattle.zq_interests.specs.declared.types.InterestEntry.{InterestEntry}
use Rattle.zq_interests.specs.Interests.{closed_face, interests_of, wants_keyed}
use Rattle.zq_machine.specs.Messages.{Telling, TellingBody, all_told, key_ended, key_told}
use Rattle.zq_machine.specs.State.{Core, at}
use Rattle.zq_machine.specs.Writing.{Told, and_then, is_local_region, numbers_region, tell, tell_body, tell_by, tell_declare, tell_number, told_key}
use Rattle.zq_machine.specs.declared.face.OpenFace.{OpenFace}
use Rattle.zq_tables.proofs.Emptied.{changed_twice}
use Rattle.zq_tables.proofs.Entries.{lookup_set}
use Rattle.zq_key.proofs.Lookups.{either_way}
use Rattle.zq_machine.proofs.Changing.{found_other, naming_changed, one_number}

-- ---- what is told
module _ (c d : Core) (g : NamingState → NamingState) where
  -- a change of faces and of what stands for keys leaves what a face is told by
  pub record IsBeside (to : ℕ) : Type 0 where
    pub face : at to d.faces ≡ at to c.faces
    pub asks : interests_of to d.interests ≡ interests_of to c.interests
    pub numbers : (names : NamingState) → face_naming to (g names) ≡ face_naming to names
    pub later : (text : List ℕ) (n : Option ℕ) (names : NamingState) → change_naming to (with_told_number text n) (g names) ≡ g (change_naming to (with_told_number text n) names)

  abbrev pub changed_after : Told → Told
  changed_after w = record { handed = w.handed; names = g w.names }

  module _ (to : FaceId) (b : IsBeside to.0) (names : NamingState) (text : List ℕ) where
    same_key : told_key d to text (g names) ≡ told_key c to text names
    same_key = λ j. declared_key
        (b.numbers names j)
        (option_map_or (λ (o : OpenFace). is_local_region o.region) (b.face j) false)
        (option_map_or (λ (o : OpenFace). numbers_region o.region) (b.face j) false || list_any (wants_keyed (nonwild text)) (b.asks j))
        text

    by_number : (m : Declare) (o : Option ℕ) → and_then (tell_number to text o (g names)) (tell_declare to m) ≡ changed_after (and_then (tell_number to text o names) (tell_declare to m))
    by_number m None = refl
    by_number m (Some id) = ap (λ z. record { handed = (and_then (tell_number to text (Some id) names) (tell_declare to m)).handed; names = z }) (b.later text (Some id) names)

    by_key : (make : DeclKey → Declare) → tell_by d to text make (g names) ≡ changed_after (tell_by c to text make names)
    by_key make =
        ap (λ k. and_then (tell_number to text k.declared (g names)) (tell_declare to (make k))) same_key
        ∙ by_number (make (told_key c to text names)) (told_key c to text names).declared

  one_beside : (t : Telling) → IsBeside t.to.0 → (names : NamingState) (body : TellingBody) → tell_body d t body (g names) ≡ changed_after (tell_body c t body names)
  one_beside t b names (key_told id text info) = by_key t.to b names text (λ k. record { interest = t.interest; node = t.node; body = body.DeclareQueryable id k.wire info })
  one_beside t b names (key_ended id None) = refl
  one_beside t b names (key_ended id (Some text)) = by_key t.to b names text (λ k. record { interest = t.interest; node = t.node; body = body.UndeclareQueryable id (Some k.wire) })
  one_beside t b names all_told = refl

  pub told_beside : (ts : List Telling) → AllByRecursion (λ (t : Telling). IsBeside t.to.0) ts → (names : NamingState) → tell d ts (g names) ≡ changed_after (tell c ts names)
  told_beside [] all names = refl
  told_beside (t ∷ ts) all names =
      let first = tell_body c t t.body names in
      ap (λ (w : Told). and_then w (tell d ts)) (one_beside t all.0 names t.body)
      ∙ ap (λ (w : Told). record { handed = first.handed ++ w.handed; names = w.names }) (told_beside ts all.1 first.names)

-- ---- entries of two numbers
module _ (k q : ℕ) (other : is_at (nat_cmp k) q ≡ false) where
  -- no number is both
  never : (n : ℕ) → is_at (nat_cmp k) n ≡ true → is_at (nat_cmp q) n ≡ true → ⊥
  never n here there = true≢false (sym (ap (is_at (nat_cmp k)) (one_number q n there) ∙ here) ∙ other)

  pub found_beside : {X : Type 0} (es : List (ℕ × X)) → at q (remove_entry (is_at (nat_cmp k)) es) ≡ at q es
  found_beside [] = refl
  found_beside (e ∷ es) = by (is_at (nat_cmp k) e.0) refl (found_beside es)
    where
      missed : (b : Bool) → is_at (nat_cmp q) e.0 ≡ b → is_at (nat_cmp k) e.0 ≡ true → at q es ≡ cond b (Some e.1) (at q es)
      missed true here there = absurd (never e.0 there here)
      missed false here there = refl

      by : (b : Bool) → is_at (nat_cmp k) e.0 ≡ b → at q (remove_entry (is_at (nat_cmp k)) es) ≡ at q es → at q (cond b es (e ∷ remove_entry (is_at (nat_cmp k)) es)) ≡ at q (e ∷ es)
      by true there ih = missed (is_at (nat_cmp q) e.0) refl there
      by false there ih = ap (cond (is_at (nat_cmp q) e.0) (Some e.1)) ih

  pub written_beside : {X : Type 0} (es : List (ℕ × X)) (x : X) → set_value (is_at (nat_cmp q)) (remove_entry (is_at (nat_cmp k)) es) x ≡ remove_entry (is_at (nat_cmp k)) (set_value (is_at (nat_cmp q)) es x)
  written_beside [] x = refl
  written_beside (e ∷ es) x = by (is_at (nat_cmp k) e.0) (is_at (nat_cmp q) e.0) refl refl (written_beside es x)
    where
      by : (a b : Bool) → is_at (nat_cmp k) e.0 ≡ a → is_at (nat_cmp q) e.0 ≡ b
          → set_value (is_at (nat_cmp q)) (remove_entry (is_at (nat_cmp k)) es) x ≡ remove_entry (is_at (nat_cmp k)) (set_value (is_at (nat_cmp q)) es x)
          → set_value (is_at (nat_cmp q)) (cond a es (e ∷ remove_entry (is_at (nat_cmp k)) es)) x ≡ remove_entry (is_at (nat_cmp k)) (cond b ((e.0, x) ∷ es) (e ∷ set_value (is_at (nat_cmp q)) es x))
      by true true here there ih = absurd (never e.0 here there)
      by true false here there ih = rw here refl
      by false true here there ih = rw (here, there) refl
      by false false here there ih = rw (here, there) (ap (λ l. e ∷ l) ih)

  sets_beside : {X : Type 0} (es : List (ℕ × X)) (x y : X) → set_value (is_at (nat_cmp q)) (set_value (is_at (nat_cmp k)) es x) y ≡ set_value (is_at (nat_cmp k)) (set_value (is_at (nat_cmp q)) es y) x
  sets_beside [] x y = refl
  sets_beside (e ∷ es) x y = by (is_at (nat_cmp k) e.0) (is_at (nat_cmp q) e.0) refl refl (sets_beside es x y)
    where
      by : (a b : Bool) → is_at (nat_cmp k) e.0 ≡ a → is_at (nat_cmp q) e.0 ≡ b
          → set_value (is_at (nat_cmp q)) (set_value (is_at (nat_cmp k)) es x) y ≡ set_value (is_at (nat_cmp k)) (set_value (is_at (nat_cmp q)) es y) x
          → set_value (is_at (nat_cmp q)) (cond a ((e.0, x) ∷ es) (e ∷ set_value (is_at (nat_cmp k)) es x)) y ≡ set_value (is_at (nat_cmp k)) (cond b ((e.0, y) ∷ es) (e ∷ set_value (is_at (nat_cmp q)) es y)) x
      by true true here there ih = absurd (never e.0 here there)
      by true false here there ih = rw (here, there) refl
      by false true here there ih = rw (here, there) refl
      by false false here there ih = rw (here, there) (ap (λ l. e ∷ l) ih)

-- what stands for keys at another face
module _ (k q : ℕ) (other : is_at (nat_cmp k) q ≡ false) (s : NamingState) where
  -- a face's numbers change as they do once another face has gone
  left_later : (f : FaceKeys → FaceKeys) → change_naming q f (closed_naming k s) ≡ closed_naming k (change_naming q f s)
  left_later f = ap (put_naming q f (closed_naming k s)) (found_beside k q other s.faces) ∙ by (naming_at q s)
    where
      by : (o : Option FaceKeys) → put_naming q f (closed_naming k s) o ≡ closed_naming k (put_naming q f s o)
      by None = refl
      by (Some n) = ap (λ (faces : List (ℕ × FaceKeys)). record s { faces = faces }) (written_beside k q other s.faces (f n))

  other_kept : (g : FaceKeys → FaceKeys) → naming_at q (change_naming k g s) ≡ naming_at q s
  other_kept g = ap (naming_at q) (naming_changed k g s) ∙ found_other k g s.faces q other

other_way : (k q : ℕ) → is_at (nat_cmp k) q ≡ false → is_at (nat_cmp q) k ≡ false
other_way k q other = either_way nat_cmp_total exact_unsigned q k ∙ other

-- changes at two faces, in either order
changes_beside : (k q : ℕ) (other : is_at (nat_cmp k) q ≡ false) (g f : FaceKeys → FaceKeys) (s : NamingState) → change_naming q f (change_naming k g s) ≡ change_naming k g (change_naming q f s)
changes_beside k q other g f s =
    ap (put_naming q f (change_naming k g s)) (other_kept k q other s g)
    ∙ by (naming_at k s) (naming_at q s)
    ∙ ap (put_naming k g (change_naming q f s)) (sym (other_kept q k (other_way k q other) s f))
  where
    by : (m n : Option FaceKeys) → put_naming q f (put_naming k g s m) n ≡ put_naming k g (put_naming q f s n) m
    by None None = refl
    by None (Some n) = refl
    by (Some m) None = refl
    by (Some m) (Some n) = ap (λ (faces : List (ℕ × FaceKeys)). record s { faces = faces }) (sets_beside k q other s.faces (g m) (f n))

-- ---- a face goes: the others are told the same
pub left_beside : (c d : Core) (face to : ℕ) → is_at (nat_cmp face) to ≡ false → d.faces ≡ remove_entry (is_at (nat_cmp face)) c.faces → d.interests ≡ closed_face face c.interests → IsBeside c d (closed_naming face) to
left_beside c d face to other faces asked = record {
  face = ap (at to) faces ∙ found_beside face to other c.faces;
  asks = ap (interests_of to) asked ∙ ap (λ o. option_map_or (λ (es : List (ℕ × InterestEntry)). es) o []) (found_beside face to other c.interests);
  numbers = λ names. ap (λ (o : Option FaceKeys). (unwrap_or o no_keys).numbers) (found_beside face to other names.faces);
  later = λ text n names. left_later face to other names (with_told_number text n);
}

-- ---- what stands for keys at a face is changed, but for its numbers: each face is told the same
pub changed_beside : (c d : Core) (face : ℕ) (g : FaceKeys → FaceKeys) → ((n : FaceKeys) → (g n).numbers ≡ n.numbers) → ((text : List ℕ) (k : Option ℕ) (n : FaceKeys) → with_told_number text k (g n) ≡ g (with_told_number text k n))
    → (to : ℕ) → d.faces ≡ c.faces → d.interests ≡ c.interests → IsBeside c d (change_naming face g) to
changed_beside c d face g keeps swaps to faces asked = by (is_at (nat_cmp face) to) refl
  where
    numbers_here : (names : NamingState) → face_naming face (change_naming face g names) ≡ face_naming face names
    numbers_here names = at_there (naming_at face names) refl
      where
        at_there : (o : Option FaceKeys) → naming_at face names ≡ o → face_naming face (put_naming face g names o) ≡ (unwrap_or o no_keys).numbers
        at_there None e = ap (λ (p : Option FaceKeys). (unwrap_or p no_keys).numbers) e
        at_there (Some n) e = ap (λ (p : Option FaceKeys). (unwrap_or p no_keys).numbers) (lookup_set (is_at (nat_cmp face)) names.faces n (g n) e) ∙ keeps n

    by : (b : Bool) → is_at (nat_cmp face) to ≡ b → IsBeside c d (change_naming face g) to
    by true here = subst (IsBeside c d (change_naming face g)) (one_number face to here) (record {
      face = ap (at face) faces;
      asks = ap (interests_of face) asked;
      numbers = numbers_here;
      later = λ text n names.
          changed_twice face g (with_told_number text n) (λ m. with_told_number text n (g m)) (λ m. refl) names
          ∙ sym (changed_twice face (with_told_number text n) g (λ m. with_told_number text n (g m)) (λ m. sym (swaps text n m)) names);
    })
    by false other = record {
      face = ap (at to) faces;
      asks = ap (interests_of to) asked;
      numbers = λ names. ap (λ (o : Option FaceKeys). (unwrap_or o no_keys).numbers) (other_kept face to other names g);
      later = λ text n names. changes_beside face to other g (with_told_number text n) names;
    }

-- a queryable is withdrawn
pub released_beside : (c d : Core) (face id to : ℕ) → d.faces ≡ c.faces → d.interests ≡ c.interests → IsBeside c d (change_naming face (without_queryable id)) to
released_beside c d face id to faces asked = changed_beside c d face (without_queryable id) (λ n. refl) (λ text k n. refl) to faces asked

-- an interest ends
pub ended_beside : (c d : Core) (face id to : ℕ) → d.faces ≡ c.faces → d.interests ≡ c.interests → IsBeside c d (change_naming face (without_interest id)) to
ended_beside c d face id to faces asked = changed_beside c d face (without_interest id) (λ n. refl) (λ text k n. refl) to faces asked
