-- A face in the list of texts, and the texts after one entry of the names changed.
use Rattle.std.proofs.Common.{◌≡◌, ℕ, List, Option, Some, None, refl, sym, ap, subst, ◌∙◌, arith, inl, inr, unwrap_or}
use Rattle.std.specs.Prelude.{option_map}
use Rattle.std.specs.List.{Contains}
use Rattle.std.specs.Map.{set_value}
use Rattle.std.specs.BTreeMap.{is_at}
use Rattle.std.specs.Ordering.{nat_cmp}
use Rattle.std.proofs.lemmas.Bool.{cases_eq}
use Rattle.std.proofs.lemmas.Option.{none-some}
use Rattle.std.proofs.lemmas.Map.Made.{lookup-map_values}
use Rattle.std.proofs.lemmas.Map.Steps.{set_value_same}
use Rattle.zq_names.specs.Names.{NameEntry, ids, entry_at}
use Rattle.zq_names.specs.Keeping.{ChangesAt}
use Rattle.zq_tables.specs.FaceIds.{of_id}
use Rattle.zq_tables.specs.FaceTexts.{id_texts, texts_of}
use Rattle.zq_tables.specs.Naming.{FaceKeys, NamingState, no_keys, no_names, naming_at, face_keys, face_naming, text_at, put_naming, change_naming}
use Rattle.zq_tables.specs.Holding.{EntryNodes, FaceHolds, Faces, IsHeld, hold_of, held_ids, held_keys, ids_at, ids_in, keys_by, keys_of_face, node_at, texts_by}
use Rattle.zq_tables.specs.declared.holder.Holder.{Holder}
use Rattle.zq_tables.proofs.Entries.{shown-set, weigh-removed}
use Rattle.zq_tables.proofs.Holders.{held_part, none_keys, same_ids}
use Rattle.zq_tables.proofs.Holds.{hold_itself, holds_at}

-- with other keys at the faces
abbrev pub with_faces : NamingState → List (ℕ × FaceKeys) → NamingState
with_faces s faces = record s { faces = faces }

-- ---- a face in the list of texts

pub naming_at-texts : (names : List NameEntry) (faces : Faces) (rows : EntryNodes) (face : ℕ) → naming_at face (texts_by names faces rows) ≡ option_map (keys_of_face names) (ids_at face faces)
naming_at-texts names faces rows face = lookup-map_values (keys_of_face names) (is_at (nat_cmp face)) faces

pub naming_there : (names : List NameEntry) (faces : Faces) (rows : EntryNodes) (face : ℕ) (f : FaceHolds) → ids_at face faces ≡ Some f → naming_at face (texts_by names faces rows) ≡ Some (keys_of_face names f)
naming_there names faces rows face f at = naming_at-texts names faces rows face ∙ ap (option_map (keys_of_face names)) at

pub naming_closed : (names : List NameEntry) (faces : Faces) (rows : EntryNodes) (face : ℕ) → ids_at face faces ≡ None → naming_at face (texts_by names faces rows) ≡ None
naming_closed names faces rows face at = naming_at-texts names faces rows face ∙ ap (option_map (keys_of_face names)) at

pub keys_there : (names : List NameEntry) (faces : Faces) (rows : EntryNodes) (face : ℕ) (f : FaceHolds) → ids_at face faces ≡ Some f → face_keys face (texts_by names faces rows) ≡ keys_of_face names f
keys_there names faces rows face f at = ap (λ (o : Option FaceKeys). unwrap_or o no_keys) (naming_there names faces rows face f at)

pub keys_closed : (names : List NameEntry) (faces : Faces) (rows : EntryNodes) (face : ℕ) → ids_at face faces ≡ None → face_keys face (texts_by names faces rows) ≡ no_keys
keys_closed names faces rows face at = ap (λ (o : Option FaceKeys). unwrap_or o no_keys) (naming_closed names faces rows face at)

pub face_there : (names : List NameEntry) (faces : Faces) (rows : EntryNodes) (face : ℕ) (f : FaceHolds) → ids_at face faces ≡ Some f → face_naming face (texts_by names faces rows) ≡ texts_of names f.numbers
face_there names faces rows face f at = ap (λ (n : FaceKeys). n.numbers) (keys_there names faces rows face f at)

pub face_closed : (names : List NameEntry) (faces : Faces) (rows : EntryNodes) (face : ℕ) → ids_at face faces ≡ None → face_naming face (texts_by names faces rows) ≡ no_names
face_closed names faces rows face at = ap (λ (n : FaceKeys). n.numbers) (keys_closed names faces rows face at)

pub change_there : (names : List NameEntry) (faces : Faces) (rows : EntryNodes) (face : ℕ) (f : FaceHolds) (g : FaceKeys → FaceKeys) → ids_at face faces ≡ Some f → change_naming face g (texts_by names faces rows) ≡ with_faces (texts_by names faces rows) (set_value (is_at (nat_cmp face)) (keys_by names faces) (g (keys_of_face names f)))
change_there names faces rows face f g at = ap (put_naming face g (texts_by names faces rows)) (naming_there names faces rows face f at)

-- a change that leaves the face as it is, or finds it closed
pub change_idle : (names : List NameEntry) (faces : Faces) (rows : EntryNodes) (face : ℕ) (g : FaceKeys → FaceKeys) → ((f : FaceHolds) → ids_at face faces ≡ Some f → g (keys_of_face names f) ≡ keys_of_face names f) → texts_by names faces rows ≡ change_naming face g (texts_by names faces rows)
change_idle names faces rows face g same = by (ids_at face faces) refl
  where
    by : (o : Option FaceHolds) → ids_at face faces ≡ o → texts_by names faces rows ≡ change_naming face g (texts_by names faces rows)
    by None at = sym (ap (put_naming face g (texts_by names faces rows)) (naming_closed names faces rows face at))
    by (Some f) at =
        sym (
        change_there names faces rows face f g at
        ∙ ap (λ (n : FaceKeys). with_faces (texts_by names faces rows) (set_value (is_at (nat_cmp face)) (keys_by names faces) n)) (same f at)
        ∙ ap (with_faces (texts_by names faces rows)) (set_value_same (is_at (nat_cmp face)) (keys_by names faces) (keys_of_face names f) (naming_there names faces rows face f at))
        )

pub set_texts : (names : List NameEntry) (faces faces' : Faces) (rows : EntryNodes) (face : ℕ) (f f' : FaceHolds) (g : FaceKeys → FaceKeys) → ids_at face faces ≡ Some f → faces' ≡ set_value (is_at (nat_cmp face)) faces f' → keys_of_face names f' ≡ g (keys_of_face names f) → texts_by names faces' rows ≡ change_naming face g (texts_by names faces rows)
set_texts names faces faces' rows face f f' g at put is =
    ap (with_faces (texts_by names faces rows)) (
    ap (keys_by names) put
    ∙ shown-set (keys_of_face names) (is_at (nat_cmp face)) faces f'
    ∙ ap (set_value (is_at (nat_cmp face)) (keys_by names faces)) is
    )
    ∙ sym (change_there names faces rows face f g at)

-- ---- one entry of the names changed

pub changed_text : (names names1 : List NameEntry) (n i : ℕ) (f : NameEntry → NameEntry) → ((e : NameEntry) → (f e).text ≡ e.text) → ChangesAt names names1 n f → (entry_at names1 i).text ≡ (entry_at names i).text
changed_text names names1 n i f keeps changes = elim (cases_eq i n) [
  | inl same ↦
      let P : ℕ → Type 0 = λ (k : ℕ). (entry_at names1 k).text ≡ (entry_at names k).text in
      subst P (sym same) (ap (λ (e : NameEntry). e.text) changes.here ∙ keeps (entry_at names n))
  | inr differ ↦ ap (λ (e : NameEntry). e.text) (changes.others i differ)
]

-- ---- what an id stands for

pub ids_is : (h : Holder) (id n : ℕ) (o : Option FaceHolds) → of_id (ids_in h o) id ≡ Some n → (f : FaceHolds) × (o ≡ Some f) × (of_id (held_ids h f) id ≡ Some n)
ids_is h id n None is = absurd (none-some n is)
ids_is h id n (Some f) is = (f, refl, is)

pub node_live : (h : Holder) (names : List NameEntry) (faces : Faces) (rows : EntryNodes) (face id n : ℕ) → IsHeld names faces rows → node_at h face id faces ≡ Some n → Contains (ids names) n
node_live h names faces rows face id n held is =
    let there = ids_is h id n (ids_at face faces) is in
    let one = weigh-removed (hold_of n) (is_at (nat_cmp id)) (held_ids h there.0) n there.2 in
    held.live n (omega (arith, one, hold_itself n, held_part h n there.0, holds_at n face faces there.0 there.1))

pub ids_texts : (h : Holder) (names : List NameEntry) (faces : Faces) (rows : EntryNodes) (face : ℕ) → id_texts names (ids_in h (ids_at face faces)) ≡ held_keys h (face_keys face (texts_by names faces rows))
ids_texts h names faces rows face = by (ids_at face faces) refl
  where
    by : (o : Option FaceHolds) → ids_at face faces ≡ o → id_texts names (ids_in h o) ≡ held_keys h (face_keys face (texts_by names faces rows))
    by None at = sym (none_keys h) ∙ ap (held_keys h) (sym (keys_closed names faces rows face at))
    by (Some f) at = same_ids h names f ∙ ap (held_keys h) (sym (keys_there names faces rows face f at))

id_text : (names : List NameEntry) (es : List (ℕ × ℕ)) (id : ℕ) → option_map (λ (n : ℕ). (entry_at names n).text) (of_id es id) ≡ text_at id (id_texts names es)
id_text names es id = sym (lookup-map_values (λ (k : ℕ). (entry_at names k).text) (is_at (nat_cmp id)) es)

pub shown_text : (names : List NameEntry) (es : List (ℕ × ℕ)) (id : ℕ) (o : Option ℕ) → of_id es id ≡ o → text_at id (id_texts names es) ≡ option_map (λ (n : ℕ). (entry_at names n).text) o
shown_text names es id o is = sym (id_text names es id) ∙ ap (option_map (λ (n : ℕ). (entry_at names n).text)) is

pub node_text : (h : Holder) (names : List NameEntry) (faces : Faces) (rows : EntryNodes) (face id : ℕ) → option_map (λ (n : ℕ). (entry_at names n).text) (node_at h face id faces) ≡ text_at id (held_keys h (face_keys face (texts_by names faces rows)))
node_text h names faces rows face id = id_text names (ids_in h (ids_at face faces)) id ∙ ap (text_at id) (ids_texts h names faces rows face)
