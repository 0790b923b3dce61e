-- An id comes to stand for a node, which it holds; one that stands for a node stays as it is.
use Rattle.std.proofs.Common.{◌≡◌, ℕ, ◌<◌, ◌≤◌, true, false, List, Option, Some, None, refl, sym, ap, subst, ◌∙◌, arith}
use Rattle.std.specs.Option.{is_some}
use Rattle.std.specs.Map.{set_value}
use Rattle.std.specs.BTreeMap.{is_at}
use Rattle.std.specs.Ordering.{nat_cmp}
use Rattle.std.proofs.lemmas.Bool.{false≢true}
use Rattle.zq_names.specs.Names.{NameEntry, entry_at}
use Rattle.zq_tables.specs.FaceIds.{of_id, next_id, with_id}
use Rattle.zq_tables.specs.FaceTexts.{id_texts}
use Rattle.zq_tables.specs.Naming.{FaceKeys, FaceNaming, Names, face_naming, first_stays, text_at, change_naming}
use Rattle.zq_tables.specs.Holding.{EntryNodes, FaceHolds, Faces, InHand, IsHeld, hold_of, held_ids, held_keys, ids_at, is_settled, settled_at, least, limit, put_ids, change_ids, keys_of_face, texts_by, with_first_key, with_key, with_keys, with_node}
use Rattle.zq_tables.specs.declared.holder.Holder.{Holder}
use Rattle.zq_tables.specs.declared.holder.Holder.TheVariants.{Number}
use Rattle.zq_message.specs.declared.message.Mapping.TheVariants.{Receiver}
use Rattle.zq_tables.proofs.FaceLemmas.{next-texts}
use Rattle.zq_tables.proofs.IdLemmas.{next_unused}
use Rattle.zq_tables.proofs.Entries.{Rises-with_id, weigh-with_id, shown-with_id}
use Rattle.zq_tables.proofs.Faces.{change_idle, face_there, set_texts, shown_text}
use Rattle.zq_tables.proofs.Holders.{holds_with, rises_with, same_ids, shown_with, with_own}
use Rattle.zq_tables.proofs.Holds.{face_at}
use Rattle.zq_tables.proofs.Letting.{placed}
use Rattle.zq_key.proofs.Truth.{none_from, some_from}

pub open_face : (h : Holder) (id : ℕ) (o : Option FaceHolds) → is_settled h id o ≡ false → (f : FaceHolds) × (o ≡ Some f) × (of_id (held_ids h f) id ≡ None)
open_face h id None is = absurd (false≢true (sym is))
open_face h id (Some f) is = (f, refl, none_from (of_id (held_ids h f) id) is)

-- ---- a new id takes the hold in hand

module _ (h : Holder) (names : List NameEntry) (faces faces' : Faces) (rows : EntryNodes) (face id r : ℕ) (was : FaceHolds) (at : ids_at face faces ≡ Some was) (put : faces' ≡ set_value (is_at (nat_cmp face)) faces (with_node h id r was)) where
  pub id_held : InHand names faces rows r → of_id (held_ids h was) id ≡ None → least h ≤ id → id < limit h → IsHeld names faces' rows
  id_held hand absent above below =
      let old = face_at faces face was hand.sides at in
      let ids = held_ids h was in
      let is_face = rises_with h was (with_id ids id r) old (Rises-with_id (limit h) (least h) id r ids above below (old.rises h)) in
      placed names faces faces' rows face r was (with_node h id r was) at put is_face hand
      (λ i. omega (arith, weigh-with_id (hold_of i) ids id r absent, holds_with h i was (with_id ids id r)))

  pub id_held_texts : (t : List ℕ) (g : FaceKeys → FaceKeys) → (entry_at names r).text ≡ t → g (keys_of_face names was) ≡ with_key h id t (keys_of_face names was) → texts_by names faces' rows ≡ change_naming face g (texts_by names faces rows)
  id_held_texts t g text is =
      let ids = held_ids h was in
      let shown : id_texts names (with_id ids id r) ≡ with_id (held_keys h (keys_of_face names was)) id t =
      shown-with_id (λ (k : ℕ). (entry_at names k).text) ids id r ∙ ap (with_id (id_texts names ids) id) text ∙ ap (λ (l : Names). with_id l id t) (same_ids h names was) in
      set_texts names faces faces' rows face was (with_node h id r was) g at put
      (shown_with h names was (with_id ids id r) ∙ ap (with_keys h (keys_of_face names was)) shown ∙ sym is)

-- ---- a new id at a face that is open

first_new : (id : ℕ) (t : List ℕ) (names : Names) → is_some (text_at id names) ≡ false → first_stays id t names ≡ with_id names id t
first_new id t names none = rw none refl

first_kept : (id : ℕ) (t : List ℕ) (names : Names) → is_some (text_at id names) ≡ true → first_stays id t names ≡ names
first_kept id t names some = rw some refl

module _ (h : Holder) (names : List NameEntry) (faces faces' : Faces) (rows : EntryNodes) (face id r : ℕ) (new : settled_at h face id faces ≡ false) (put : faces' ≡ change_ids face (with_node h id r) faces) where
  pub new_held : InHand names faces rows r → least h ≤ id → id < limit h → IsHeld names faces' rows
  new_held hand above below =
      let there = open_face h id (ids_at face faces) new in
      id_held h names faces faces' rows face id r there.0 there.1 (put ∙ ap (put_ids face (with_node h id r) faces) there.1) hand there.2 above below

  pub new_held_texts : (t : List ℕ) → (entry_at names r).text ≡ t → texts_by names faces' rows ≡ change_naming face (with_key h id t) (texts_by names faces rows)
  new_held_texts t text =
      let there = open_face h id (ids_at face faces) new in
      id_held_texts h names faces faces' rows face id r there.0 there.1 (put ∙ ap (put_ids face (with_node h id r) faces) there.1) t (with_key h id t) text refl

  pub first_held_texts : (t : List ℕ) → (entry_at names r).text ≡ t → texts_by names faces' rows ≡ change_naming face (with_first_key h id t) (texts_by names faces rows)
  first_held_texts t text =
      let there = open_face h id (ids_at face faces) new in
      let n = keys_of_face names there.0 in
      let none : text_at id (held_keys h n) ≡ None = ap (text_at id) (sym (same_ids h names there.0)) ∙ shown_text names (held_ids h there.0) id None there.2 in
      id_held_texts h names faces faces' rows face id r there.0 there.1 (put ∙ ap (put_ids face (with_node h id r) faces) there.1) t (with_first_key h id t) text
      (ap (with_keys h n) (first_new id t (held_keys h n) (ap is_some none)))

-- ---- nothing is to be held

pub settled_first : (h : Holder) (names : List NameEntry) (faces : Faces) (rows : EntryNodes) (face id : ℕ) (t : List ℕ) → settled_at h face id faces ≡ true → texts_by names faces rows ≡ change_naming face (with_first_key h id t) (texts_by names faces rows)
settled_first h names faces rows face id t settled =
    change_idle names faces rows face (with_first_key h id t) (λ f at.
    let n = keys_of_face names f in
    let node = some_from (of_id (held_ids h f) id) (ap (λ (o : Option FaceHolds). is_settled h id o) (sym at) ∙ settled) in
    let text : text_at id (held_keys h n) ≡ Some (entry_at names node.0).text = ap (text_at id) (sym (same_ids h names f)) ∙ shown_text names (held_ids h f) id (Some node.0) node.1 in
    ap (with_keys h n) (first_kept id t (held_keys h n) (ap is_some text)) ∙ with_own h n)

-- a number that is free is settled only where the face is closed
pub next_open : (names : List NameEntry) (faces : Faces) (rows : EntryNodes) (face id : ℕ) (f : FaceHolds) → next_id (face_naming face (texts_by names faces rows)).theirs (face_naming face (texts_by names faces rows)).ours ≡ Some id → ids_at face faces ≡ Some f → next_id f.numbers.theirs f.numbers.ours ≡ Some id
next_open names faces rows face id f next at =
    let N : FaceNaming → Type 0 = λ (n : FaceNaming). next_id n.theirs n.ours ≡ Some id in
    sym (next-texts names f.numbers) ∙ subst N (face_there names faces rows face f at) next

pub settled_given : (names : List NameEntry) (faces : Faces) (rows : EntryNodes) (face id : ℕ) (g : FaceKeys → FaceKeys) → next_id (face_naming face (texts_by names faces rows)).theirs (face_naming face (texts_by names faces rows)).ours ≡ Some id → settled_at (Number Receiver) face id faces ≡ true → texts_by names faces rows ≡ change_naming face g (texts_by names faces rows)
settled_given names faces rows face id g next settled =
    change_idle names faces rows face g (λ f at.
    let free : of_id f.numbers.ours id ≡ None = next_unused f.numbers.theirs f.numbers.ours id (next_open names faces rows face id f next at) in
    let some : is_some (of_id f.numbers.ours id) ≡ true = ap (λ (o : Option FaceHolds). is_settled (Number Receiver) id o) (sym at) ∙ settled in
    absurd (false≢true (sym (ap is_some free) ∙ some)))
