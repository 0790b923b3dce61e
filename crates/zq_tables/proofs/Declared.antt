-- A number is declared: it holds its node, as each other number does.
use Rattle.std.proofs.Common.{◌≡◌, ℕ, ◌+◌, ◌^◌, ◌<◌, true, false, List, length, Option, Some, None, IfSome, refl, sym, ap, subst, ◌∙◌, arith}
use Rattle.std.specs.Option.{is_some}
use Rattle.std.specs.Map.{set_value}
use Rattle.std.specs.BTreeMap.{is_at}
use Rattle.std.specs.Ordering.{nat_cmp}
use Rattle.std.proofs.lemmas.Option.{same_Some}
use Rattle.zq_names.specs.Names.{NameEntry, entry_at, with_hold, change_at}
use Rattle.zq_names.specs.Keeping.{ChangesAt}
use Rattle.zq_tables.specs.FaceIds.{FaceIds, of_id, with_id}
use Rattle.zq_tables.specs.FaceTexts.{id_texts, texts_of, full_of}
use Rattle.zq_tables.specs.Naming.{FaceNaming, face_naming, text_at, with_name, with_theirs, change_naming}
use Rattle.zq_tables.specs.Holding.{EntryNodes, FaceHolds, Faces, IsHeld, Numbers, Declares, ids_at, is_settled, settled_at, keys_of_face, texts_by, with_node, TakesHold}
use Rattle.zq_tables.specs.declared.holder.Holder.TheVariants.{Number}
use Rattle.zq_tables.proofs.Entries.{Rises-shown, with_same}
use Rattle.zq_tables.proofs.Holds.{face_at}
use Rattle.zq_tables.proofs.Faces.{face_there, change_idle, shown_text}
use Rattle.zq_message.specs.declared.message.WireExpr.{WireExpr}
use Rattle.zq_message.specs.declared.message.Mapping.TheVariants.{Sender}
use Rattle.zq_tables.specs.Registering.{Maps, Registers}
use Rattle.zq_tables.proofs.IdLemmas.{of_id-with_id}
use Rattle.zq_tables.proofs.Made.{fresh_made}
use Rattle.zq_tables.proofs.Letting.{made_room, takes, room_held, taken, taken_texts}
use Rattle.zq_tables.proofs.Putting.{id_held, id_held_texts}
use Rattle.zq_key.proofs.Truth.{none_from, some_from}

-- ---- what a registered id stands for

pub maps_of : (names names' : List NameEntry) (old new : FaceIds) (i : ℕ) (w : WireExpr) → Registers names names' old new i w → of_id old.theirs i ≡ None → w.scope ≡ 0 → Maps names names' old new i w.suffix
maps_of names names' old new i w registers absent whole =
    let maps : Maps names names' old new i registers.text = rw absent at registers.maps in
    let plain : full_of (texts_of names old) w ≡ Some w.suffix = rw whole refl in
    let same : registers.text ≡ w.suffix = same_Some _ _ (sym registers.full ∙ plain) in
    subst (Maps names names' old new i) same maps

pub mapped_id : (names names' : List NameEntry) (old new : FaceIds) (i : ℕ) (t : List ℕ) → (maps : Maps names names' old new i t) → of_id new.theirs i ≡ Some maps.r.0
mapped_id names names' old new i t maps = ap (λ l. of_id l i) maps.mapped ∙ of_id-with_id old.theirs i maps.r.0

pub numbers_of : (names names' : List NameEntry) (old new : FaceIds) (i r : ℕ) (t : List ℕ) → Maps names names' old new i t → Some r ≡ of_id new.theirs i → Numbers names names' old new i t r
numbers_of names names' old new i r t maps is =
    let same : maps.r.0 ≡ r = same_Some _ _ (sym (is ∙ mapped_id names names' old new i t maps)) in
    let N : ℕ → Type 0 = Numbers names names' old new i t in
    subst N same (record {
      live = maps.named.live;
      text = maps.named.text;
      kept = maps.kept;
      fresh = fresh_made names names' maps.r t maps.made;
      lean = maps.lean;
      mapped = ap (λ l. record { theirs = l; ours = new.ours }) maps.mapped ∙ ap (λ l. record { theirs = with_id old.theirs i maps.r.0; ours = l }) maps.ours;
    })

-- ---- the number was made

module _ (names names1 : List NameEntry) (faces faces' : Faces) (rows : EntryNodes) (face id r : ℕ) (t : List ℕ) (held : IsHeld names faces rows) (new : settled_at (Number Sender) face id faces ≡ false) (declares : Declares names names1 faces faces' face id t r) where
  absent : of_id declares.was.numbers.theirs id ≡ None
  absent = none_from (of_id declares.was.numbers.theirs id) (ap (λ (o : Option FaceHolds). is_settled (Number Sender) id o) (sym declares.at) ∙ new)

  put : faces' ≡ set_value (is_at (nat_cmp face)) faces (with_node (Number Sender) id r declares.was)
  put = declares.put ∙ ap (λ (n : FaceIds). set_value (is_at (nat_cmp face)) faces (record declares.was { numbers = n })) declares.numbers.mapped

  pub room : length faces < 2 ^ 63 → (entry_at names1 r).holds + 1 < 2 ^ 128
  room few = let n = declares.numbers in made_room names names1 t r n.live n.text n.kept n.fresh (room_held names faces rows held few)

  module _ (names2 : List NameEntry) (changes : ChangesAt names1 names2 r with_hold) (all : names2 ≡ change_at names1 r with_hold) (positive : 0 < id) (small : id < 65536) where
    number_takes : TakesHold names names2 t r
    number_takes = let n = declares.numbers in takes names names1 t r n.live n.text n.kept n.fresh names2 changes all n.lean

    pub declared : IsHeld names2 faces' rows
    declared = id_held (Number Sender) names2 faces faces' rows face id r declares.was declares.at put (taken names names2 faces rows t r held number_takes) absent (omega arith) small

    pub declared_texts : texts_by names2 faces' rows ≡ change_naming face (with_name id t) (texts_by names faces rows)
    declared_texts =
        id_held_texts (Number Sender) names2 faces faces' rows face id r declares.was declares.at put t (with_name id t) number_takes.text refl
        ∙ ap (change_naming face (with_name id t)) (taken_texts names names2 faces rows t r held number_takes)

-- ---- nothing is to be declared

settled_side : (names : List NameEntry) (faces : Faces) (rows : EntryNodes) (face id : ℕ) (t : List ℕ) (f : FaceHolds) → IsHeld names faces rows → ids_at face faces ≡ Some f → is_some (of_id f.numbers.theirs id) ≡ true → IfSome (text_at id (face_naming face (texts_by names faces rows)).theirs) (λ u. u ≡ t)
    → with_id (id_texts names f.numbers.theirs) id t ≡ id_texts names f.numbers.theirs
settled_side names faces rows face id t f held at settled free =
    let node = some_from (of_id f.numbers.theirs id) settled in
    let stands : text_at id (id_texts names f.numbers.theirs) ≡ Some (entry_at names node.0).text = shown_text names f.numbers.theirs id (Some node.0) node.1 in
    let F : FaceNaming → Type 0 = λ (n : FaceNaming). IfSome (text_at id n.theirs) (λ u. u ≡ t) in
    let O : Option (List ℕ) → Type 0 = λ (o : Option (List ℕ)). IfSome o (λ u. u ≡ t) in
    let same : (entry_at names node.0).text ≡ t = subst O stands (subst F (face_there names faces rows face f at) free) in
    let face_is = face_at faces face f held.sides at in
    with_same 65536 1 id t (id_texts names f.numbers.theirs) (Rises-shown (λ (k : ℕ). (entry_at names k).text) 65536 1 f.numbers.theirs (face_is.rises (Number Sender))) (stands ∙ ap Some same)

pub settled_texts : (names : List NameEntry) (faces : Faces) (rows : EntryNodes) (face id : ℕ) (t : List ℕ) → IsHeld names faces rows → settled_at (Number Sender) face id faces ≡ true → IfSome (text_at id (face_naming face (texts_by names faces rows)).theirs) (λ u. u ≡ t)
    → texts_by names faces rows ≡ change_naming face (with_name id t) (texts_by names faces rows)
settled_texts names faces rows face id t held settled free =
    change_idle names faces rows face (with_name id t) (λ f at.
    let there : is_some (of_id f.numbers.theirs id) ≡ true = ap (λ (o : Option FaceHolds). is_settled (Number Sender) id o) (sym at) ∙ settled in
    ap (with_theirs (keys_of_face names f)) (settled_side names faces rows face id t f held at there free))
