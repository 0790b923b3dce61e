-- The node of a text stands in the names exactly where the text has a context.
use Rattle.std.proofs.Common.{◌≡◌, ◌≢◌, ℕ, zero, suc, ◌+◌, ◌<◌, ◌≤◌, Bool, true, false, eqb, List, [], ◌∷◌, ◌++◌, length, get_or, Option, None, Some, IfSome, IfNone, refl, sym, ap, subst, ◌∙◌, arith, inl, inr, ◌⊎◌}
use Rattle.std.specs.List.{AllPairs, Contains, flat_map}
use Rattle.std.specs.Map.{values_of}
use Rattle.std.proofs.lemmas.Bool.{cases_eq, false≢true}
use Rattle.std.proofs.lemmas.Bool.Decides.{nat_tests}
use Rattle.std.proofs.lemmas.List.{append_assoc, get_or-map, length-map, get_or_default}
use Rattle.std.proofs.lemmas.List.Elements.{Contains-append_left, Contains-append_right, Contains-append_cases}
use Rattle.std.proofs.lemmas.Cmp.{nat_list_eq_equiv}
use Rattle.std.proofs.lemmas.Map.Views.{Contains-from_any, list_any-from_Contains}
use Rattle.std.proofs.lemmas.Slice.Eq.{bytes_eq-Decides}
use Rattle.zq_names.specs.declared.node.ResourceId.{ResourceId}
use Rattle.std.specs.Option.{is_some}
use Rattle.zq_names.specs.Texts.{IsBelow, heads, heads_to}
use Rattle.zq_names.specs.Names.{NameEntry, HasText, IsNames, ids, texts, text_at, entry_at, entry_of}
use Rattle.zq_names.proofs.Heads.{Contains-heads_self, Contains-heads_to, cut_from_below, head_cases}
use Rattle.zq_names.proofs.Idling.{entry_there}
use Rattle.zq_names.proofs.Adding.{Contains-map}
use Rattle.zq_names.proofs.ClosingLemmas.{later_place, root_text}
use Rattle.zq_names.proofs.KeepingLemmas.{entry_at-place, once_from}
use Rattle.zq_tables.specs.FaceTexts.{id_texts}
use Rattle.zq_tables.specs.Naming.{face_texts, all_texts, has_context}
use Rattle.zq_tables.specs.Holding.{EntryNodes, FaceHolds, Faces, IsHeld, all_holds, hold_of, side_holds, face_holds, holds_by, keys_by, keys_of_face, node_texts, row_holds, rows_by, rows_hold, texts_by}
use Rattle.zq_tables.proofs.Holds.{hold_itself, hold_other}

-- ---- parts of texts

below_below : (t s u : List ℕ) → IsBelow t s → IsBelow s u → IsBelow t u
below_below t s u (front, is) (rest, is') = (front ++ 47 ∷ rest, is' ∙ ap (λ (x : List ℕ). x ++ 47 ∷ rest) is ∙ append_assoc t (47 ∷ front) (47 ∷ rest))

head_below : (t u : List ℕ) → IsBelow t u → Contains (heads u) t
head_below t u below =
    let cut = cut_from_below t u below in
    Contains-append_left (heads_to u (length u)) (u ∷ []) t (Contains-heads_to u t (length u) (length t) cut.0 cut.1 cut.2)

head_above : (t s u : List ℕ) → IsBelow t s → Contains (heads u) s → Contains (heads u) t
head_above t s u below has = elim (head_cases u s has) [
  | inl same ↦ head_below t u (let B : List ℕ → Type 0 = IsBelow t in subst B same below)
  | inr deeper ↦ head_below t u (below_below t s u below deeper)
]

part_above : (t s : List ℕ) (all : List (List ℕ)) → IsBelow t s → Contains (flat_map heads all) s → Contains (flat_map heads all) t
part_above t s [] below has = absurd (omega (arith, has.1))
part_above t s (u ∷ all) below has = elim (Contains-append_cases (heads u) (flat_map heads all) s has) [
  | inl here ↦ Contains-append_left (heads u) (flat_map heads all) t (head_above t s u below here)
  | inr there ↦ Contains-append_right (heads u) (flat_map heads all) t (part_above t s all below there)
]

part_itself : (t : List ℕ) (all : List (List ℕ)) → Contains all t → Contains (flat_map heads all) t
part_itself t [] has = absurd (omega (arith, has.1))
part_itself t (u ∷ all) (zero, lt, is) =
    let C : List ℕ → Type 0 = λ (x : List ℕ). Contains (heads u) x in
    Contains-append_left (heads u) (flat_map heads all) t (subst C is (Contains-heads_self u))
part_itself t (u ∷ all) (suc k, lt, is) = Contains-append_right (heads u) (flat_map heads all) t (part_itself t all (k, omega (arith, lt), is))

part_stands : (numbers : List ℕ) (known all : List (List ℕ)) (t : List ℕ) → IsNames numbers known → ((u : List ℕ) → Contains all u → Contains known u) → Contains (flat_map heads all) t → Contains known t
part_stands numbers known [] t names live has = absurd (omega (arith, has.1))
part_stands numbers known (u ∷ all) t names live has =
    let stands : Contains known u = live u (zero, omega arith, refl) in
    elim (Contains-append_cases (heads u) (flat_map heads all) t has) [
      | inl here ↦ elim (head_cases u t here) [
        | inl same ↦ let C : List ℕ → Type 0 = Contains known in subst C (sym same) stands
        | inr below ↦ names.closed t u stands below
      ]
      | inr there ↦ part_stands numbers known all t names (λ v (k, lt, is). live v (suc k, omega (arith, lt), is)) there
    ]

-- ---- what is stood for

positive_or : (a b : ℕ) → 0 < a + b → (0 < a) ⊎ (0 < b)
positive_or zero b some = inr (omega (arith, some))
positive_or (suc a) b some = inl (omega arith)

-- a node that is held is stood for
side_text : (names : List NameEntry) (i : ℕ) (es : List (ℕ × ℕ)) → 0 < side_holds i es → Contains (values_of (id_texts names es)) (entry_at names i).text
side_text names i [] some = absurd (omega (arith, some))
side_text names i (e ∷ es) some = elim (cases_eq e.1 i) [
  | inl same ↦ (zero, omega arith, ap (λ (n : ℕ). (entry_at names n).text) same)
  | inr differ ↦
      let other : eqb e.1 i ≡ false = grind (arith, nat_tests) in
      let none : hold_of i e.1 ≡ 0 = rw other refl in
      let rest = side_text names i es (omega (arith, some, none)) in
      (suc rest.0, omega (arith, rest.1), rest.2)
]

face_text : (names : List NameEntry) (i : ℕ) (f : FaceHolds) → 0 < face_holds i f → Contains (face_texts (keys_of_face names f)) (entry_at names i).text
face_text names i f some =
    let t = (entry_at names i).text in
    let theirs = values_of (id_texts names f.numbers.theirs) in
    let ours = values_of (id_texts names f.numbers.ours) in
    let queryables = values_of (id_texts names f.queryables) in
    let interests = values_of (id_texts names f.interests) in
    elim (positive_or (side_holds i f.numbers.theirs + side_holds i f.numbers.ours + side_holds i f.queryables) (side_holds i f.interests) some) [
      | inl kept ↦ Contains-append_left (theirs ++ ours ++ queryables) interests t (elim (positive_or (side_holds i f.numbers.theirs + side_holds i f.numbers.ours) (side_holds i f.queryables) kept) [
        | inl numbered ↦ Contains-append_left (theirs ++ ours) queryables t (elim (positive_or (side_holds i f.numbers.theirs) (side_holds i f.numbers.ours) numbered) [
          | inl here ↦ Contains-append_left theirs ours t (side_text names i f.numbers.theirs here)
          | inr given ↦ Contains-append_right theirs ours t (side_text names i f.numbers.ours given)
        ])
        | inr queried ↦ Contains-append_right (theirs ++ ours) queryables t (side_text names i f.queryables queried)
      ])
      | inr asked ↦ Contains-append_right (theirs ++ ours ++ queryables) interests t (side_text names i f.interests asked)
    ]

-- the texts that stand for keys at faces
abbrev faces_texts : List NameEntry → Faces → List (List ℕ)
faces_texts names faces = flat_map face_texts (values_of (keys_by names faces))

-- those of the entries of routers
abbrev rows_texts : List NameEntry → EntryNodes → List (List ℕ)
rows_texts names rows = flat_map (λ (p : ℕ × List (List ℕ)). p.1) (rows_by names rows)

faces_text : (names : List NameEntry) (i : ℕ) (faces : Faces) → 0 < holds_by i faces → Contains (faces_texts names faces) (entry_at names i).text
faces_text names i [] some = absurd (omega (arith, some))
faces_text names i (p ∷ faces) some =
    let t = (entry_at names i).text in
    let here = face_texts (keys_of_face names p.1) in
    let later = faces_texts names faces in
    elim (positive_or (face_holds i p.1) (holds_by i faces) some) [
      | inl held ↦ Contains-append_left here later t (face_text names i p.1 held)
      | inr rest ↦ Contains-append_right here later t (faces_text names i faces rest)
    ]

row_text : (names : List NameEntry) (i : ℕ) (row : List ℕ) → 0 < row_holds i row → Contains (node_texts names row) (entry_at names i).text
row_text names i [] some = absurd (omega (arith, some))
row_text names i (n ∷ row) some = elim (cases_eq n i) [
  | inl same ↦ (zero, omega arith, ap (λ (k : ℕ). (entry_at names k).text) same)
  | inr differ ↦
      let rest = row_text names i row (omega (arith, some, hold_other i n differ)) in
      (suc rest.0, omega (arith, rest.1), rest.2)
]

rows_text : (names : List NameEntry) (i : ℕ) (rows : EntryNodes) → 0 < rows_hold i rows → Contains (rows_texts names rows) (entry_at names i).text
rows_text names i [] some = absurd (omega (arith, some))
rows_text names i (p ∷ rows) some =
    let t = (entry_at names i).text in
    let here = node_texts names p.1 in
    let later = rows_texts names rows in
    elim (positive_or (row_holds i p.1) (rows_hold i rows) some) [
      | inl held ↦ Contains-append_left here later t (row_text names i p.1 held)
      | inr rest ↦ Contains-append_right here later t (rows_text names i rows rest)
    ]

held_text : (names : List NameEntry) (i : ℕ) (faces : Faces) (rows : EntryNodes) → 0 < all_holds i faces rows → Contains (all_texts (texts_by names faces rows)) (entry_at names i).text
held_text names i faces rows some = elim (positive_or (holds_by i faces) (rows_hold i rows) some) [
  | inl held ↦ Contains-append_left (faces_texts names faces) (rows_texts names rows) (entry_at names i).text (faces_text names i faces held)
  | inr entered ↦ Contains-append_right (faces_texts names faces) (rows_texts names rows) (entry_at names i).text (rows_text names i rows entered)
]

text_there : (names : List NameEntry) (i : ℕ) → Contains (ids names) i → Contains (texts names) (entry_at names i).text
text_there names i live = Contains-map (λ (e : NameEntry). e.text) names (entry_at names i) (entry_there names i live).0

-- what is stood for is the text of a node
side_stands : (names : List NameEntry) (es : List (ℕ × ℕ)) (u : List ℕ) → ((i : ℕ) → 0 < side_holds i es → Contains (ids names) i) → Contains (values_of (id_texts names es)) u → Contains (texts names) u
side_stands names [] u live has = absurd (omega (arith, has.1))
side_stands names (e ∷ es) u live (zero, lt, is) =
    let C : List ℕ → Type 0 = Contains (texts names) in
    subst C is (text_there names e.1 (live e.1 (omega (arith, hold_itself e.1))))
side_stands names (e ∷ es) u live (suc k, lt, is) = side_stands names es u (λ i some. live i (omega (arith, some))) (k, omega (arith, lt), is)

face_stands : (names : List NameEntry) (f : FaceHolds) (u : List ℕ) → ((i : ℕ) → 0 < face_holds i f → Contains (ids names) i) → Contains (face_texts (keys_of_face names f)) u → Contains (texts names) u
face_stands names f u live has =
    let theirs = values_of (id_texts names f.numbers.theirs) in
    let ours = values_of (id_texts names f.numbers.ours) in
    let queryables = values_of (id_texts names f.queryables) in
    let interests = values_of (id_texts names f.interests) in
    elim (Contains-append_cases (theirs ++ ours ++ queryables) interests u has) [
      | inl kept ↦ elim (Contains-append_cases (theirs ++ ours) queryables u kept) [
        | inl numbered ↦ elim (Contains-append_cases theirs ours u numbered) [
          | inl here ↦ side_stands names f.numbers.theirs u (λ i some. live i (omega (arith, some))) here
          | inr given ↦ side_stands names f.numbers.ours u (λ i some. live i (omega (arith, some))) given
        ]
        | inr queried ↦ side_stands names f.queryables u (λ i some. live i (omega (arith, some))) queried
      ]
      | inr asked ↦ side_stands names f.interests u (λ i some. live i (omega (arith, some))) asked
    ]

faces_stand : (names : List NameEntry) (faces : Faces) (u : List ℕ) → ((i : ℕ) → 0 < holds_by i faces → Contains (ids names) i) → Contains (faces_texts names faces) u → Contains (texts names) u
faces_stand names [] u live has = absurd (omega (arith, has.1))
faces_stand names (p ∷ faces) u live has =
    elim (Contains-append_cases (face_texts (keys_of_face names p.1)) (faces_texts names faces) u has) [
      | inl here ↦ face_stands names p.1 u (λ i some. live i (omega (arith, some))) here
      | inr there ↦ faces_stand names faces u (λ i some. live i (omega (arith, some))) there
    ]

row_stands : (names : List NameEntry) (row : List ℕ) (u : List ℕ) → ((i : ℕ) → 0 < row_holds i row → Contains (ids names) i) → Contains (node_texts names row) u → Contains (texts names) u
row_stands names [] u live has = absurd (omega (arith, has.1))
row_stands names (n ∷ row) u live (zero, lt, is) =
    let C : List ℕ → Type 0 = Contains (texts names) in
    subst C is (text_there names n (live n (omega (arith, hold_itself n))))
row_stands names (n ∷ row) u live (suc k, lt, is) = row_stands names row u (λ i some. live i (omega (arith, some))) (k, omega (arith, lt), is)

rows_stand : (names : List NameEntry) (rows : EntryNodes) (u : List ℕ) → ((i : ℕ) → 0 < rows_hold i rows → Contains (ids names) i) → Contains (rows_texts names rows) u → Contains (texts names) u
rows_stand names [] u live has = absurd (omega (arith, has.1))
rows_stand names (p ∷ rows) u live has =
    elim (Contains-append_cases (node_texts names p.1) (rows_texts names rows) u has) [
      | inl here ↦ row_stands names p.1 u (λ i some. live i (omega (arith, some))) here
      | inr there ↦ rows_stand names rows u (λ i some. live i (omega (arith, some))) there
    ]

all_stand : (names : List NameEntry) (faces : Faces) (rows : EntryNodes) (u : List ℕ) → ((i : ℕ) → 0 < all_holds i faces rows → Contains (ids names) i) → Contains (all_texts (texts_by names faces rows)) u → Contains (texts names) u
all_stand names faces rows u live has =
    elim (Contains-append_cases (faces_texts names faces) (rows_texts names rows) u has) [
      | inl here ↦ faces_stand names faces u (λ i some. live i (omega (arith, some))) here
      | inr there ↦ rows_stand names rows u (λ i some. live i (omega (arith, some))) there
    ]

-- ---- each node is stood for, or lies above one that is

module _ (names : List NameEntry) (faces : Faces) (rows : EntryNodes) (held : IsHeld names faces rows) (table : IsNames (ids names) (texts names)) (distinct : AllPairs ◌≢◌ (ids names)) where
  -- the parts of the texts that are stood for
  abbrev parts : List (List ℕ)
  parts = flat_map heads (all_texts (texts_by names faces rows))

  abbrev IsApart : ℕ → Type 0
  IsApart k = Contains parts (text_at names k) → ⊥

  unheld : (k : ℕ) → k < length names → IsApart k → (get_or names k (entry_of 0 None)).holds ≡ 0
  unheld k lt apart =
      let e = get_or names k (entry_of 0 None) in
      let own : entry_at names e.id ≡ e = entry_at-place names k (entry_of 0 None) lt (once_from (ids names) (λ i j less in_j. distinct i j 0 less in_j)) in
      let live : Contains (ids names) e.id = Contains-map (λ (x : NameEntry). x.id) names e (k, lt, get_or_default names k e (entry_of 0 None) lt) in
      let text : (entry_at names e.id).text ≡ text_at names k = ap (λ (x : NameEntry). x.text) own ∙ sym (get_or-map (λ (x : NameEntry). x.text) names k (entry_of 0 None) [] lt) in
      sym (ap (λ (x : NameEntry). x.holds) own) ∙ held.counted e.id live ∙ by e.id text (all_holds e.id faces rows) refl
    where
      by : (i : ℕ) → (entry_at names i).text ≡ text_at names k → (n : ℕ) → all_holds i faces rows ≡ n → all_holds i faces rows ≡ 0
      by i text zero is = is
      by i text (suc n) is =
          let C : List ℕ → Type 0 = Contains (all_texts (texts_by names faces rows)) in
          absurd (apart (part_itself (text_at names k) (all_texts (texts_by names faces rows)) (subst C text (held_text names i faces rows (omega (arith, is))))))

  -- no more than n places come behind k
  none_apart : (n k : ℕ) → length names ≤ k + n → 0 < k → k < length names → IsApart k → ⊥
  none_apart zero k few past lt apart = omega arith
  none_apart (suc n) k few past lt apart = held.lean k lt (record {
    past_root = past;
    unheld = unheld k lt apart;
    lonely = λ has. deeper (none_apart n) has.0 has.1 has.2;
  })
    where
      deeper : ((j : ℕ) → length names ≤ j + n → 0 < j → j < length names → IsApart j → ⊥) → (s : List ℕ) → Contains (texts names) s → IsBelow (text_at names k) s → ⊥
      deeper again s (j, in_j, is) below =
          let t = text_at names k in
          let there : text_at names j ≡ s = get_or_default (texts names) j [] s in_j ∙ is in
          let B : List ℕ → Type 0 = IsBelow t in
          let below_j : IsBelow t (text_at names j) = subst B (sym there) below in
          let count = length-map names (λ (e : NameEntry). e.text) in
          let later = later_place (texts names) k j table.rising (omega (arith, count, lt)) in_j below_j in
          again j (omega (arith, few, later)) (omega (arith, past, later)) (omega (arith, count, in_j)) (λ part. apart (part_above t (text_at names j) (all_texts (texts_by names faces rows)) below_j part))

  pub context_stands : (b : ℕ) (t : List ℕ) → has_context (b ∷ t) (texts_by names faces rows) ≡ true → Contains (texts names) (b ∷ t)
  context_stands b t is =
      part_stands (ids names) (texts names) (all_texts (texts_by names faces rows)) (b ∷ t) table (λ u. all_stand names faces rows u held.live)
      (Contains-from_any (λ x y. (bytes_eq-Decides x y).0) (b ∷ t) parts is)

  pub stands_context : (b : ℕ) (t : List ℕ) → Contains (texts names) (b ∷ t) → has_context (b ∷ t) (texts_by names faces rows) ≡ true
  stands_context b t (k, in_k, is) = by (has_context (b ∷ t) (texts_by names faces rows)) refl
    where
      here : text_at names k ≡ b ∷ t
      here = get_or_default (texts names) k [] (b ∷ t) in_k ∙ is

      past : (j : ℕ) → j ≡ k → 0 < j
      past zero same = absurd (omega (arith, ap length (sym (root_text (ids names) names table) ∙ ap (text_at names) same ∙ here)))
      past (suc j) same = omega arith

      by : (c : Bool) → has_context (b ∷ t) (texts_by names faces rows) ≡ c → c ≡ true
      by true found = refl
      by false missed =
          let count = length-map names (λ (e : NameEntry). e.text) in
          absurd (none_apart (length names) k (omega arith) (past k refl) (omega (arith, count, in_k))
          (λ part. false≢true (sym missed ∙ list_any-from_Contains nat_list_eq_equiv (b ∷ t) parts (let C : List ℕ → Type 0 = Contains parts in subst C here part))))

  -- a node was found for the text, or there is none
  pub context_is : (t : List ℕ) (o : Option ResourceId) → 0 < length t → IfSome o (λ r. HasText names r t) → IfNone o (Contains (texts names) t → ⊥) → is_some o ≡ has_context t (texts_by names faces rows)
  context_is [] o some found absent = absurd (omega (arith, some))
  context_is (b ∷ t) (Some r) some found absent =
      let C : List ℕ → Type 0 = Contains (texts names) in
      sym (stands_context b t (subst C found.text (text_there names r.0 found.live)))
  context_is (b ∷ t) None some found absent = by (has_context (b ∷ t) (texts_by names faces rows)) refl
    where
      by : (c : Bool) → has_context (b ∷ t) (texts_by names faces rows) ≡ c → false ≡ c
      by false is = refl
      by true is = absurd (absent (context_stands b t is))
