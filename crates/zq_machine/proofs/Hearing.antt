-- What faces are told is what they hear.
use Rattle.std.proofs.Common.{◌≡◌, ◌∙◌, refl, sym, ap, subst, ℕ, zero, suc, ◌<◌, ◌≤◌, Bool, true, false, cond, not, List, [], ◌∷◌, ◌++◌, length, take, drop, Option, Some, None, arith, append_assoc, append-nil, eqb-true}
use Rattle.std.specs.Prelude.{find, ◌==◌, slice_index, unwrap_or, is_some}
use Rattle.std.specs.List.{AllByRecursion, position}
use Rattle.std.specs.Map.{keys_of}
use Rattle.std.specs.Option.{option_map}
use Rattle.std.proofs.lemmas.Bool.{false≢true, and_parts, not-true}
use Rattle.std.proofs.lemmas.Slice.Eq.{bytes_eq-Decides}
use Rattle.std.proofs.lemmas.List.{take-append-drop}
use Rattle.std.proofs.Math.Seq.{drop-append_seam}
use Rattle.zq_message.specs.declared.message.Declare.{Declare}
use Rattle.zq_message.specs.declared.message.FaceId.{FaceId}
use Rattle.zq_message.specs.declared.message.Mapping.{Mapping}
use Rattle.zq_message.specs.declared.message.Mapping.TheVariants as mapping
use Rattle.zq_names.specs.Texts.{cut_at_star, is_star_byte, nonwild, parent_of, parent_to}
use Rattle.zq_tables.specs.FaceIds.{next_id}
use Rattle.zq_tables.specs.FaceTexts.{declared_key, is_text, known, known_choice, least_name, names_text, new_choice, or_else, prefix_key, tagged, whole_key, with_declared}
use Rattle.zq_tables.specs.declared.decl.DeclKey.{DeclKey}
use Rattle.zq_tables.proofs.IdLemmas.{free_from-least, of_id-with_id}
use Rattle.zq_tables.specs.declared.resolved.Resolved.TheVariants as said
use Rattle.zq_tables.specs.Naming.{FaceKeys, FaceNaming, NamingState, change_naming, face_keys, face_naming, handed_side, naming_at, plain, read_by, text_at}
use Rattle.zq_message.specs.declared.message.DeclareBody.TheVariants as body
use Rattle.zq_tables.specs.Naming.{no_keys, with_told_number}
use Rattle.zq_machine.specs.Handing.{Handed}
use Rattle.zq_machine.specs.Hearing.{CanBeTold, body_says, has_text, hear, heard_body, telling_by, tells_text}
use Rattle.zq_machine.specs.Messages.{Telling, TellingBody, all_told, key_ended, key_told}
use Rattle.zq_machine.specs.Selecting.{full_text}
use Rattle.zq_machine.specs.State.{Core}
use Rattle.zq_machine.specs.Writing.{and_then, is_local_face, may_number, tell, tell_body, tell_declare, tell_number, told_key}
use Rattle.zq_machine.proofs.Changing.{found_here, itself, naming_changed, there}

-- ---- a key is read as the text that was told
find-passes : {X : Type 0} (p : X → Bool) (xs : List X) (x : X) → find p xs ≡ Some x → p x ≡ true
find-passes p [] x h = absurd (cc)
find-passes p (y ∷ xs) x h = at (p y) refl h (find-passes p xs x)
  where
    at : (b : Bool) → p y ≡ b → cond b (Some y) (find p xs) ≡ Some x → (find p xs ≡ Some x → p x ≡ true) → p x ≡ true
    at true k e more = let same : y ≡ x = cc in ap p (sym same) ∙ k
    at false k e more = more e

text-is : (text : List ℕ) (o : Option (List ℕ)) → is_text text o ≡ true → o ≡ Some text
text-is text None h = absurd (false≢true h)
text-is text (Some t) h = ap Some ((bytes_eq-Decides t text).0 h)

-- a text that the other begins with
IsFront : List ℕ → List ℕ → Type 0
IsFront p t = (r : List ℕ) × (p ++ r ≡ t)

parent_front : (t : List ℕ) (n : ℕ) → IsFront (parent_to t n) t
unfolding IsFront
parent_front t zero = (t, refl)
parent_front t (suc k) = by (slice_index t k == 47) (parent_front t k)
  where
    by : (b : Bool) → IsFront (parent_to t k) t → IsFront (cond b (take k t) (parent_to t k)) t
    by true f = (drop k t, take-append-drop k t)
    by false f = f

nonwild_front : (t : List ℕ) → IsFront (nonwild t) t
unfolding IsFront
nonwild_front t = by (position is_star_byte t)
  where
    by : (o : Option ℕ) → IsFront (cut_at_star t o) t
    by None = ([], append-nil t)
    by (Some k) =
        let f = parent_front (take k t) (length (take k t)) in
        (f.0 ++ drop k t, sym (append_assoc (parent_of (take k t)) f.0 (drop k t)) ∙ ap (λ u. u ++ drop k t) f.1 ∙ take-append-drop k t)

joins : (p t : List ℕ) → IsFront p t → p ++ drop (length p) t ≡ t
unfolding IsFront
joins p t f = ap (λ u. p ++ drop (length p) u) (sym f.1) ∙ ap (λ u. p ++ u) (drop-append_seam p f.0) ∙ f.1

-- a number that stands for the part reads as the whole, with the rest behind it
reads_under : (n : FaceNaming) (id : ℕ) (m : Mapping) (part rest text : List ℕ) → (id == 0) ≡ false → text_at id (handed_side n m) ≡ Some part → part ++ rest ≡ text
    → read_by n (record { scope = id; mapping = m; suffix = rest }) ≡ said.Full text
reads_under n id m part rest text z stands join = rw (z, stands) (ap said.Full join)

reads_plainly : (n : FaceNaming) (text : List ℕ) → 0 < length text → read_by n (plain text) ≡ said.Full text
reads_plainly n [] h = absurd (omega (arith, h))
reads_plainly n (b ∷ text) h = refl

module _ (n : FaceNaming) (part : List ℕ) where
  pub record Stands (x : ℕ × Mapping) : Type 0 where
    pub number : (x.0 == 0) ≡ false
    pub stands : text_at x.0 (handed_side n x.1) ≡ Some part

  named : (side : Mapping) (id : ℕ) → least_name part (handed_side n side) ≡ Some id → Stands (id, side)
  named side id h =
      let names = handed_side n side in
      let q = and_parts (not (id == 0)) (is_text part (text_at id names)) (find-passes (names_text names part) (keys_of names) id h) in
      record { number = not-true (id == 0) q.0; stands = text-is part (text_at id names) q.1 }

  pub known_stands : (x : ℕ × Mapping) → known n part ≡ Some x → Stands x
  known_stands x h = first (least_name part n.theirs) refl (least_name part n.ours) refl h
    where
      is : (y : ℕ × Mapping) → Some y ≡ Some x → Stands y → Stands x
      is y e s = let same : y ≡ x = cc in subst Stands same s

      first : (a : Option ℕ) → least_name part n.theirs ≡ a → (b : Option ℕ) → least_name part n.ours ≡ b → or_else (tagged mapping.Receiver a) (tagged mapping.Sender b) ≡ Some x → Stands x
      first (Some id) e b f g = is (id, mapping.Receiver) g (named mapping.Receiver id e)
      first None e (Some id) f g = is (id, mapping.Sender) g (named mapping.Sender id f)
      first None e None f g = absurd (cc)

pub positive : (id : ℕ) → 1 ≤ id → (id == 0) ≡ false
positive id h = by (id == 0) refl
  where
    by : (b : Bool) → (id == 0) ≡ b → b ≡ false
    by true e = let none : id ≡ 0 = eqb-true id 0 e in absurd (omega (arith, h, none))
    by false e = refl

module _ (n : FaceNaming) (text : List ℕ) (some : 0 < length text) where
  abbrev Reads : DeclKey → Type 0
  Reads d = read_by (with_declared n text d.declared) d.wire ≡ said.Full text

  new_reads : (p : List ℕ) → nonwild text ≡ p → (o : Option ℕ) → next_id n.theirs n.ours ≡ o → Reads (unwrap_or (new_choice (drop (length p) text) o) (whole_key text))
  new_reads p e None f = reads_plainly n text some
  new_reads p e (Some id) f =
      reads_under (with_declared n text (Some id)) id mapping.Sender (nonwild text) (drop (length p) text) text
      (positive id (free_from-least n.theirs n.ours 65535 1 id f).0)
      (of_id-with_id n.ours id (nonwild text))
      (ap (λ q. nonwild text ++ drop (length q) text) (sym e) ∙ joins (nonwild text) text (nonwild_front text))

  known_reads : (p : List ℕ) → nonwild text ≡ p → (may : Bool) (o : Option (ℕ × Mapping)) → known n p ≡ o → Reads (unwrap_or (known_choice n may (drop (length p) text) o) (whole_key text))
  known_reads p e may (Some x) k =
      let s = known_stands n p x k in
      reads_under n x.0 x.1 p (drop (length p) text) text s.number s.stands (joins p text (subst (λ q. IsFront q text) e (nonwild_front text)))
  known_reads p e true None k = new_reads p e (next_id n.theirs n.ours) refl
  known_reads p e false None k = reads_plainly n text some

  part_reads : (may : Bool) (p : List ℕ) → nonwild text ≡ p → Reads (prefix_key n may text p)
  part_reads may [] e = reads_plainly n text some
  part_reads may (b ∷ p) e = known_reads (b ∷ p) e may (known n (b ∷ p)) refl

  -- by the numbers that stand once the new one is declared
  pub key_reads : (local may : Bool) → Reads (declared_key n local may text)
  key_reads true may = reads_plainly n text some
  key_reads false may = part_reads may (nonwild text) refl

-- ---- faces that are open
-- what stands for keys at a face that is changed, and that the open faces stay
pub found_there : (face : ℕ) (g : FaceKeys → FaceKeys) (s : NamingState) → is_some (naming_at face s) ≡ true → face_naming face (change_naming face g s) ≡ (g (face_keys face s)).numbers
found_there face g s h =
    ap (λ z. (unwrap_or (naming_at face z) no_keys).numbers) (naming_changed face g s)
    ∙ ap (λ (o : Option FaceKeys). (unwrap_or o no_keys).numbers) (found_here face g s.faces face (itself face))
    ∙ by (naming_at face s) h
  where
    by : (o : Option FaceKeys) → is_some o ≡ true → (unwrap_or (option_map g o) no_keys).numbers ≡ (g (unwrap_or o no_keys)).numbers
    by None e = absurd (false≢true e)
    by (Some k) e = refl

still_open : (face : ℕ) (g : FaceKeys → FaceKeys) (s : NamingState) (q : ℕ) → is_some (naming_at q s) ≡ true → is_some (naming_at q (change_naming face g s)) ≡ true
still_open face g s q h = ap (λ z. is_some (naming_at q z)) (naming_changed face g s) ∙ there face g s.faces q ∙ h

numbered_open : (to : FaceId) (text : List ℕ) (o : Option ℕ) (s : NamingState) (q : ℕ) → is_some (naming_at q s) ≡ true → is_some (naming_at q (tell_number to text o s).names) ≡ true
numbered_open to text None s q h = h
numbered_open to text (Some id) s q h = still_open to.0 (with_told_number text (Some id)) s q h

told_open : (c : Core) (t : Telling) (b : TellingBody) (s : NamingState) (q : ℕ) → is_some (naming_at q s) ≡ true → is_some (naming_at q (tell_body c t b s).names) ≡ true
told_open c t (key_told id text info) s q h = numbered_open t.to text (told_key c t.to text s).declared s q h
told_open c t (key_ended id None) s q h = h
told_open c t (key_ended id (Some text)) s q h = numbered_open t.to text (told_key c t.to text s).declared s q h
told_open c t all_told s q h = h

pub all_open : (c : Core) (t : Telling) (names : NamingState) (ts : List Telling) → AllByRecursion (CanBeTold names) ts → AllByRecursion (CanBeTold (tell_body c t t.body names).names) ts
all_open c t names [] all = tt
all_open c t names (u ∷ us) all = ((told_open c t t.body names u.to.0 all.0.0, all.0.1), all_open c t names us all.1)

texts_some : (text : List ℕ) → has_text text ≡ true → 0 < length text
texts_some [] h = absurd (false≢true h)
texts_some (b ∷ text) h = omega arith

-- ---- one thing that is told is heard
-- a key is told: by a message that says, of a face with these numbers, what is told of the text that its expression reads as
module _ (to : FaceId) (text : List ℕ) (make : DeclKey → Declare) (tells : List ℕ → List Telling) (names : NamingState) (rest : NamingState → List Handed)
    (says : (n : FaceNaming) (d : DeclKey) → telling_by to (make d) (body_says n (make d).body) ≡ tells (full_text (read_by n d.wire)))
    (quiet : (d : DeclKey) (s : NamingState) → heard_body to (make d).body s ≡ s)
    (there_is : is_some (naming_at to.0 names) ≡ true) where
  one_by : (d : DeclKey) (o : Option ℕ) → read_by (with_declared (face_naming to.0 names) text o) d.wire ≡ said.Full text
      → hear ((and_then (tell_number to text o names) (tell_declare to (make d))).handed ++ rest (tell_number to text o names).names) names ≡ tells text ++ hear (rest (tell_number to text o names).names) (tell_number to text o names).names
  one_by d None reads = (λ j. (says (face_naming to.0 names) d ∙ ap (λ s. tells (full_text s)) reads) j ++ hear (rest names) (quiet d names j))
  one_by d (Some id) reads =
      let after = change_naming to.0 (with_told_number text (Some id)) names in
      let numbers : face_naming to.0 after ≡ with_declared (face_naming to.0 names) text (Some id) = found_there to.0 (with_told_number text (Some id)) names there_is in
      (λ j. (says (face_naming to.0 after) d ∙ ap (λ s. tells (full_text s)) (ap (λ n. read_by n d.wire) numbers ∙ reads)) j ++ hear (rest after) (quiet d after j))

one_heard : (c : Core) (t : Telling) (b : TellingBody) (names : NamingState) (rest : NamingState → List Handed) → is_some (naming_at t.to.0 names) ≡ true → tells_text b ≡ true
    → hear ((tell_body c t b names).handed ++ rest (tell_body c t b names).names) names ≡ record t { body = b } ∷ hear (rest (tell_body c t b names).names) (tell_body c t b names).names
one_heard c t (key_told id text info) names rest there_is some =
    one_by t.to text (λ k. record { interest = t.interest; node = t.node; body = body.DeclareQueryable id k.wire info }) (λ u. record t { body = key_told id u info } ∷ []) names rest (λ n d. refl) (λ d s. refl) there_is (told_key c t.to text names) (told_key c t.to text names).declared
    (key_reads (face_naming t.to.0 names) text (texts_some text some) (is_local_face t.to c) (may_number t.to (nonwild text) c))
one_heard c t (key_ended id None) names rest there_is some = refl
one_heard c t (key_ended id (Some text)) names rest there_is some =
    one_by t.to text (λ k. record { interest = t.interest; node = t.node; body = body.UndeclareQueryable id (Some k.wire) }) (λ u. record t { body = key_ended id (Some u) } ∷ []) names rest (λ n d. refl) (λ d s. refl) there_is (told_key c t.to text names) (told_key c t.to text names).declared
    (key_reads (face_naming t.to.0 names) text (texts_some text some) (is_local_face t.to c) (may_number t.to (nonwild text) c))
one_heard c t all_told names rest there_is some = refl

-- ---- all that is told is heard
pub told_heard : (c : Core) (ts : List Telling) (names : NamingState) → AllByRecursion (CanBeTold names) ts → hear (tell c ts names).handed names ≡ ts
told_heard c [] names all = refl
told_heard c (t ∷ ts) names all =
    one_heard c t t.body names (λ s. (tell c ts s).handed) all.0.0 all.0.1
    ∙ ap (λ us. t ∷ us) (told_heard c ts (tell_body c t t.body names).names (all_open c t names ts all.1))
