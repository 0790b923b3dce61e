-- Holds are taken and let go, and ids are put in place and taken out.
use Rattle.std.proofs.Common.{◌≡◌, ℕ, ◌+◌, ◌-◌, ◌^◌, ◌<◌, List, length, Some, refl, sym, ap, subst, ◌∙◌, arith, zero, suc, inl, inr, ◌⊎◌}
use Rattle.std.specs.List.{All, Contains}
use Rattle.std.specs.Map.{set_value, values_of}
use Rattle.std.specs.BTreeMap.{is_at}
use Rattle.std.specs.Ordering.{nat_cmp}
use Rattle.std.proofs.lemmas.Bool.{cases_eq}
use Rattle.std.proofs.lemmas.Map.Views.{All-values-set_value}
use Rattle.zq_names.specs.Names.{NameEntry, ids, entry_at, with_hold, without_hold, change_at}
use Rattle.zq_names.specs.Idle.{IdleAt, NoneIdle}
use Rattle.zq_names.specs.Keeping.{AllStay, NoneCome, ChangesAt}
use Rattle.zq_tables.specs.FaceIds.{without_id}
use Rattle.zq_tables.specs.FaceTexts.{id_texts}
use Rattle.zq_tables.specs.Naming.{EntryRows, FaceKeys, Names, change_naming, with_rows}
use Rattle.zq_tables.specs.Holding.{EntryNodes, FaceHolds, Faces, InHand, IsFace, IsHeld, LetsGo, TakesHold, all_holds, hold_of, face_holds, held_ids, held_keys, holds_by, ids_at, least, limit, node_at, put_ids, change_ids, keys_by, keys_of_face, rows_by, texts_by, with_keys, without_key, without_node}
use Rattle.zq_tables.specs.declared.holder.Holder.{Holder}
use Rattle.zq_tables.proofs.Entries.{Rises-without_id, weigh-removed, weigh-set, shown-removed}
use Rattle.zq_tables.proofs.EntryRows.{few_rows, rows_stay, same_rows}
use Rattle.zq_tables.proofs.Faces.{ids_is, set_texts, changed_text, with_faces}
use Rattle.zq_tables.proofs.Holders.{holds_with, rises_with, same_ids, shown_with}
use Rattle.zq_tables.proofs.Holds.{hold_itself, hold_other, few_holds, face_at, same_keys}
use Rattle.zq_tables.proofs.Lean.{lean_held, lean_unheld}

-- ---- what a hold changes

held_holds : (names names1 : List NameEntry) (r i : ℕ) → ChangesAt names names1 r with_hold → (entry_at names1 i).holds ≡ (entry_at names i).holds + hold_of i r
held_holds names names1 r i changes = elim (cases_eq i r) [
  | inl same ↦
      let here : (entry_at names1 r).holds ≡ (entry_at names r).holds + 1 = ap (λ (e : NameEntry). e.holds) changes.here in
      let once : hold_of r r ≡ 1 = hold_itself r in
      let P : ℕ → Type 0 = λ (k : ℕ). (entry_at names1 k).holds ≡ (entry_at names k).holds + hold_of k r in
      subst P (sym same) (omega (arith, here, once))
  | inr differ ↦
      let other : (entry_at names1 i).holds ≡ (entry_at names i).holds = ap (λ (e : NameEntry). e.holds) (changes.others i differ) in
      let none : hold_of i r ≡ 0 = hold_other i r (λ same. differ (sym same)) in
      omega (arith, other, none)
]

unheld_holds : (names names1 : List NameEntry) (n i : ℕ) → ChangesAt names names1 n without_hold → 0 < (entry_at names n).holds → (entry_at names1 i).holds + hold_of i n ≡ (entry_at names i).holds
unheld_holds names names1 n i changes some = elim (cases_eq i n) [
  | inl same ↦
      let here : (entry_at names1 n).holds ≡ (entry_at names n).holds - 1 = ap (λ (e : NameEntry). e.holds) changes.here in
      let once : hold_of n n ≡ 1 = hold_itself n in
      let P : ℕ → Type 0 = λ (k : ℕ). (entry_at names1 k).holds + hold_of k n ≡ (entry_at names k).holds in
      subst P (sym same) (omega (arith, here, once, some))
  | inr differ ↦
      let other : (entry_at names1 i).holds ≡ (entry_at names i).holds = ap (λ (e : NameEntry). e.holds) (changes.others i differ) in
      let none : hold_of i n ≡ 0 = hold_other i n (λ same. differ (sym same)) in
      omega (arith, other, none)
]

-- a node is there, what is new is not held, and the node is held
module _ (old middle : List NameEntry) (t : List ℕ) (r : ℕ) (live : Contains (ids middle) r) (text : (entry_at middle r).text ≡ t) (stay : AllStay old middle) (fresh : (i : ℕ) → Contains (ids middle) i → Contains (ids old) i ⊎ ((entry_at middle i).holds ≡ 0)) where
  -- the node is held seldom enough
  pub made_room : ((i : ℕ) → Contains (ids old) i → (entry_at old i).holds + 1 < 2 ^ 128) → (entry_at middle r).holds + 1 < 2 ^ 128
  made_room room = elim (fresh r live) [
    | inl before ↦ omega (arith, room r before, (stay r before).1.holds)
    | inr none ↦ omega (arith, none)
  ]

  pub takes : (new : List NameEntry) → ChangesAt middle new r with_hold → new ≡ change_at middle r with_hold → (NoneIdle old → IdleAt middle r) → TakesHold old new t r
  takes new changes all idle =
      let C : ℕ → List ℕ → Type 0 = λ (i : ℕ) (is : List ℕ). Contains is i in
      record {
        live = subst (C r) (sym changes.live) live;
        text = changed_text middle new r r with_hold (λ e. refl) changes ∙ text;
        kept = λ i before. (
          subst (C i) (sym changes.live) (stay i before).0,
          changed_text middle new r i with_hold (λ e. refl) changes ∙ (stay i before).1.text,
          omega (arith, held_holds middle new r i changes, (stay i before).1.holds),
        );
        fresh = λ i has. elim (fresh i (subst (C i) changes.live has)) [
          | inl before ↦ inl before
          | inr none ↦ inr (omega (arith, held_holds middle new r i changes, none))
        ];
        lean = λ none. lean_held middle new r all (idle none);
      }

-- a hold ended, and what is idle went
pub lets : (old middle new : List NameEntry) (n : ℕ) → 0 < (entry_at old n).holds → ChangesAt old middle n without_hold → middle ≡ change_at old n without_hold
    → ((i : ℕ) → Contains (ids middle) i → 0 < (entry_at middle i).holds → Contains (ids new) i) → NoneCome middle new → (IdleAt middle n → NoneIdle new) → LetsGo old new n
lets old middle new n some changes all stays kept lean =
    let C : ℕ → List ℕ → Type 0 = λ (i : ℕ) (is : List ℕ). Contains is i in
    record {
      stays = λ i has more. stays i (subst (C i) (sym changes.live) has) (omega (arith, more, unheld_holds old middle n i changes some));
      kept = λ i has. (
        subst (C i) changes.live (kept i has).0,
        (kept i has).1.text ∙ changed_text old middle n i without_hold (λ e. refl) changes,
        omega (arith, (kept i has).1.holds, unheld_holds old middle n i changes some),
      );
      lean = λ none. lean (lean_unheld old middle n all none);
    }

-- ---- texts that are as they were

both_texts : (names names' : List NameEntry) (faces : Faces) (rows : EntryNodes) → keys_by names' faces ≡ keys_by names faces → rows_by names' rows ≡ rows_by names rows → texts_by names' faces rows ≡ texts_by names faces rows
both_texts names names' faces rows keys texts =
    ap (λ (l : List (ℕ × FaceKeys)). with_faces (texts_by names' faces rows) l) keys ∙ ap (λ (l : EntryRows). with_rows l (texts_by names faces rows)) texts

-- ---- a hold is taken in hand

-- no node is held too often
pub room_held : (names : List NameEntry) (faces : Faces) (rows : EntryNodes) → IsHeld names faces rows → length faces < 2 ^ 63 → (i : ℕ) → Contains (ids names) i → (entry_at names i).holds + 1 < 2 ^ 128
room_held names faces rows held few i has = omega (arith, few, held.counted i has, few_holds i faces held.sides, few_rows names i rows held.order)

module _ (names names' : List NameEntry) (faces : Faces) (rows : EntryNodes) (t : List ℕ) (r : ℕ) (held : IsHeld names faces rows) (takes : TakesHold names names' t r) where
  counted_taken : (i : ℕ) → Contains (ids names') i → (entry_at names' i).holds ≡ all_holds i faces rows + hold_of i r
  counted_taken i has = elim (takes.fresh i has) [
    | inl before ↦ stayed before
    | inr new ↦ by (all_holds i faces rows) refl new
  ]
    where
      stayed : Contains (ids names) i → (entry_at names' i).holds ≡ all_holds i faces rows + hold_of i r
      stayed before = omega (arith, (takes.kept i before).2, held.counted i before)

      by : (m : ℕ) → all_holds i faces rows ≡ m → (entry_at names' i).holds ≡ hold_of i r → (entry_at names' i).holds ≡ all_holds i faces rows + hold_of i r
      by zero is new = omega (arith, is, new)
      by (suc m) is new = stayed (held.live i (omega (arith, is)))

  live_taken : (i : ℕ) → 0 < all_holds i faces rows + hold_of i r → Contains (ids names') i
  live_taken i some = elim (cases_eq i r) [
    | inl same ↦ let C : ℕ → Type 0 = λ (k : ℕ). Contains (ids names') k in subst C (sym same) takes.live
    | inr differ ↦ (takes.kept i (held.live i (omega (arith, some, hold_other i r (λ same. differ (sym same)))))).0
  ]

  pub taken_rows : rows_by names' rows ≡ rows_by names rows
  taken_rows = same_rows names names' rows (λ i some. (takes.kept i (held.live i (omega (arith, some)))).1)

  pub taken : InHand names' faces rows r
  taken = record { live = live_taken; counted = counted_taken; sides = held.sides; order = rows_stay names names' rows taken_rows held.order; lean = takes.lean held.lean }

  pub taken_texts : texts_by names' faces rows ≡ texts_by names faces rows
  taken_texts = both_texts names names' faces rows (same_keys names names' faces (λ i some. (takes.kept i (held.live i (omega (arith, some)))).1)) taken_rows

-- ---- the hold in hand is let go

pub in_hand_held : (names : List NameEntry) (faces : Faces) (rows : EntryNodes) (n : ℕ) → InHand names faces rows n → 0 < (entry_at names n).holds
in_hand_held names faces rows n hand =
    let once = hold_itself n in
    let live = hand.live n (omega (arith, once)) in
    omega (arith, hand.counted n live, once)

pub in_hand_live : (names : List NameEntry) (faces : Faces) (rows : EntryNodes) (n : ℕ) → InHand names faces rows n → Contains (ids names) n
in_hand_live names faces rows n hand = hand.live n (omega (arith, hold_itself n))

module _ (names names' : List NameEntry) (faces : Faces) (rows : EntryNodes) (n : ℕ) (hand : InHand names faces rows n) (lets : LetsGo names names' n) where
  live_left : (i : ℕ) → 0 < all_holds i faces rows → Contains (ids names') i
  live_left i some =
      let has = hand.live i (omega (arith, some)) in
      lets.stays i has (omega (arith, some, hand.counted i has))

  left_rows : rows_by names' rows ≡ rows_by names rows
  left_rows = same_rows names names' rows (λ i some. (lets.kept i (live_left i (omega (arith, some)))).1)

  pub left : IsHeld names' faces rows
  left = record {
    live = live_left;
    counted = λ i has. omega (arith, (lets.kept i has).2, hand.counted i (lets.kept i has).0);
    sides = hand.sides;
    order = rows_stay names names' rows left_rows hand.order;
    lean = lets.lean hand.lean;
  }

  pub left_texts : texts_by names' faces rows ≡ texts_by names faces rows
  left_texts = both_texts names names' faces rows (same_keys names names' faces (λ i some. (lets.kept i (live_left i (omega (arith, some)))).1)) left_rows

-- ---- a face is changed by what is in hand

module _ (names : List NameEntry) (faces faces' : Faces) (rows : EntryNodes) (face n : ℕ) (was is : FaceHolds) (at : ids_at face faces ≡ Some was) (put : faces' ≡ set_value (is_at (nat_cmp face)) faces is) (is_face : IsFace is) where
  sides_put : All IsFace (values_of faces) → All IsFace (values_of faces')
  sides_put sides = let A : Faces → Type 0 = λ (fs : Faces). All IsFace (values_of fs) in subst A (sym put) (All-values-set_value (is_at (nat_cmp face)) IsFace faces is sides is_face)

  -- the hold in hand is that of an id from then on
  pub placed : InHand names faces rows n → ((i : ℕ) → face_holds i is ≡ face_holds i was + hold_of i n) → IsHeld names faces' rows
  placed hand more =
      let count : (i : ℕ) → holds_by i faces' ≡ holds_by i faces + hold_of i n = λ i. omega (arith, weigh-set (face_holds i) (is_at (nat_cmp face)) faces was is at, more i, ap (holds_by i) put) in
      record {
        live = λ i some. hand.live i (omega (arith, some, count i));
        counted = λ i has. omega (arith, hand.counted i has, count i);
        sides = sides_put hand.sides;
        order = hand.order;
        lean = hand.lean;
      }

  -- what an id held comes into hand
  pub freed : IsHeld names faces rows → ((i : ℕ) → face_holds i is + hold_of i n ≡ face_holds i was) → InHand names faces' rows n
  freed held less =
      let count : (i : ℕ) → holds_by i faces' + hold_of i n ≡ holds_by i faces = λ i. omega (arith, weigh-set (face_holds i) (is_at (nat_cmp face)) faces was is at, less i, ap (holds_by i) put) in
      record {
        live = λ i some. held.live i (omega (arith, some, count i));
        counted = λ i has. omega (arith, held.counted i has, count i);
        sides = sides_put held.sides;
        order = held.order;
        lean = held.lean;
      }

-- ---- an id is let go

module _ (h : Holder) (names : List NameEntry) (faces faces' : Faces) (rows : EntryNodes) (face id n : ℕ) (node : node_at h face id faces ≡ Some n) (put : faces' ≡ change_ids face (without_node h id) faces) where
  pub id_freed : IsHeld names faces rows → InHand names faces' rows n
  id_freed held =
      let there = ids_is h id n (ids_at face faces) node in
      let ids = held_ids h there.0 in
      let old = face_at faces face there.0 held.sides there.1 in
      let is_face = rises_with h there.0 (without_id ids id) old (Rises-without_id (limit h) (least h) id ids (old.rises h)) in
      freed names faces faces' rows face n there.0 (without_node h id there.0) there.1 (put ∙ ap (put_ids face (without_node h id) faces) there.1) is_face held
      (λ i. omega (arith, weigh-removed (hold_of i) (is_at (nat_cmp id)) ids n there.2, holds_with h i there.0 (without_id ids id)))

  pub id_freed_texts : texts_by names faces' rows ≡ change_naming face (without_key h id) (texts_by names faces rows)
  id_freed_texts =
      let there = ids_is h id n (ids_at face faces) node in
      let ids = held_ids h there.0 in
      let shown : id_texts names (without_id ids id) ≡ without_id (held_keys h (keys_of_face names there.0)) id =
      shown-removed (λ (k : ℕ). (entry_at names k).text) (is_at (nat_cmp id)) ids ∙ ap (λ (l : Names). without_id l id) (same_ids h names there.0) in
      set_texts names faces faces' rows face there.0 (without_node h id there.0) (without_key h id) there.1 (put ∙ ap (put_ids face (without_node h id) faces) there.1)
      (shown_with h names there.0 (without_id ids id) ∙ ap (with_keys h (keys_of_face names there.0)) shown)
