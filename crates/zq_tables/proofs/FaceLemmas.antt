-- The ids of a face as texts.
use Rattle.std.proofs.Common.{◌≡◌, ◌≢◌, ℕ, ◌+◌, ◌<◌, Bool, true, false, cond, eqb, List, [], ◌∷◌, ◌++◌, find, Option, Some, None, IfSome, IfNone, option_map, refl, sym, ap, subst, ◌∙◌, arith, zero, suc, inl, inr}
use Rattle.std.specs.declared.cmp.Ordering.{Ordering}
use Rattle.std.specs.declared.cmp.Ordering.TheVariants.{Less, Equal, Greater}
use Rattle.std.specs.Ordering.{nat_cmp, match_ordering, is_eq}
use Rattle.std.specs.Option.{is_some}
use Rattle.std.specs.Str.{bytes_eq}
use Rattle.std.specs.BTreeMap.{is_at}
use Rattle.std.specs.Map.{keys_of}
use Rattle.std.specs.List.{All, Contains}
use Rattle.std.specs.List.Sorted.{IsStrictlySortedBy}
use Rattle.std.proofs.lemmas.Bool.{false_from_ne_true, cases_eq}
use Rattle.std.proofs.lemmas.Bool.Decides.{nat_tests}
use Rattle.std.proofs.lemmas.Slice.Eq.{bytes_eq-Decides}
use Rattle.std.proofs.lemmas.Cmp.{ranked, nat_cmp_total, tied_itself}
use Rattle.std.proofs.lemmas.Option.{none-some, same_Some}
use Rattle.std.proofs.lemmas.List.Elements.{All-head, All-tail, All-cons}
use Rattle.std.proofs.lemmas.Map.Keys.{sorted_tail, below_from_sorted}
use Rattle.std.proofs.lemmas.Map.Made.{lookup-map_values}
use Rattle.zq_message.specs.declared.message.Mapping.{Mapping}
use Rattle.zq_message.specs.declared.message.Mapping.TheVariants.{Sender, Receiver}
use Rattle.zq_message.specs.declared.message.WireExpr.{WireExpr}
use Rattle.zq_names.specs.declared.node.ResourceId.{ResourceId}
use Rattle.zq_names.specs.Names.{NameEntry, IsLive, HasText, ids, texts, entry_at}
use Rattle.zq_names.specs.Keeping.{AllStay}
use Rattle.zq_names.specs.Texts.{nonwild}
use Rattle.zq_tables.specs.FaceIds.{FaceIds, of_id, with_id, without_id, side, is_used, free_from, next_id, AreLiveIds, AreLive, least_id}
use Rattle.zq_tables.proofs.IdLemmas.{free_from-used, free_from-free, free_from-none}
use Rattle.zq_tables.specs.FaceTexts.{FaceTexts, id_texts, theirs_texts, ours_texts, texts_of, part_choice, known_choice, new_choice, with_new, with_declared, text_side, full_of, names_text, least_name, tagged, or_else, known, registered, text_refusal, register_refusal}
use Rattle.zq_key.specs.Key.{is_key}
use Rattle.zq_names.specs.declared.refusal.NameRefusal.TheVariants.{Remapped}
use Rattle.zq_tables.specs.Registering.{Gives}

text_of_node : List NameEntry → ℕ → List ℕ
text_of_node names n = (entry_at names n).text

-- ---- an id's text

pub of_id-texts : (names : List NameEntry) (es : List (ℕ × ℕ)) (i : ℕ) → of_id (id_texts names es) i ≡ option_map (λ n. (entry_at names n).text) (of_id es i)
of_id-texts names es i = lookup-map_values (λ n. (entry_at names n).text) (is_at (nat_cmp i)) es

pub side_texts : (names : List NameEntry) (face : FaceIds) (m : Mapping) → text_side (texts_of names face) m ≡ id_texts names (side face m)
side_texts names face Sender = refl
side_texts names face Receiver = refl

-- the node that an id stands for is live
pub live_node : (names : List NameEntry) (es : List (ℕ × ℕ)) (i n : ℕ) → AreLiveIds names es → of_id es i ≡ Some n → Contains (ids names) n
live_node names [] i n all is = absurd (none-some n is)
live_node names (e ∷ es) i n all is = by (is_at (nat_cmp i) e.0) is (live_node names es i n (All-tail (λ (p : ℕ × ℕ). Contains (ids names) p.1) e es all))
  where
    by : (b : Bool) → cond b (Some e.1) (of_id es i) ≡ Some n → (of_id es i ≡ Some n → Contains (ids names) n) → Contains (ids names) n
    by true here later = rw (← same_Some _ _ here) (All-head (λ (p : ℕ × ℕ). Contains (ids names) p.1) e es all)
    by false here later = later here

live_side : (face : FaceIds) (names : List NameEntry) (m : Mapping) → AreLive names face → AreLiveIds names (side face m)
live_side face names Sender live = live.theirs
live_side face names Receiver live = live.ours

full_by_id : (names : List NameEntry) (face : FaceIds) (w : WireExpr) (found : Option ℕ) → found ≡ of_id (side face w.mapping) w.scope → eqb w.scope 0 ≡ false → full_of (texts_of names face) w ≡ option_map (λ t. t ++ w.suffix) (option_map (λ n. (entry_at names n).text) found)
full_by_id names face w found is other = rw (other, side_texts names face w.mapping, of_id-texts names (side face w.mapping) w.scope, ← is)

pub scope_none : (names : List NameEntry) (face : FaceIds) (w : WireExpr) (found : Option ResourceId) → option_map (λ (r : ResourceId). r.0) found ≡ of_id (side face w.mapping) w.scope → eqb w.scope 0 ≡ false → IfNone found (full_of (texts_of names face) w ≡ None)
scope_none names face w None is other = full_by_id names face w None is other
scope_none names face w (Some r) is other = tt

pub scope_live : (names : List NameEntry) (face : FaceIds) (w : WireExpr) (found : Option ResourceId) → option_map (λ (r : ResourceId). r.0) found ≡ of_id (side face w.mapping) w.scope → AreLive names face → IfSome found (λ r. IsLive names r)
scope_live names face w None is live = tt
scope_live names face w (Some r) is live = live_node names (side face w.mapping) w.scope r.0 (live_side face names w.mapping live) (sym is)

pub scope_some : (names : List NameEntry) (face : FaceIds) (w : WireExpr) (found : Option ResourceId) → option_map (λ (r : ResourceId). r.0) found ≡ of_id (side face w.mapping) w.scope → eqb w.scope 0 ≡ false
    → IfSome found (λ r. full_of (texts_of names face) w ≡ Some ((entry_at names r.0).text ++ w.suffix))
scope_some names face w None is other = tt
scope_some names face w (Some r) is other = full_by_id names face w (Some r.0) is other

-- ---- the id of a text

-- the first id of a list that stands for the text
abbrev id_of : List (ℕ × List ℕ) → List ℕ → Option ℕ
id_of list t = option_map (λ p. p.0) (find (λ p. bytes_eq p.1 t) list)

text_of_live : (names : List NameEntry) (n : ℕ) → Contains (ids names) n → Contains (texts names) (entry_at names n).text
text_of_live [] n (k, lt, is) = absurd (omega arith)
text_of_live (e ∷ es) n has = elim (cases_eq e.id n) [
  | inl same ↦ let here : eqb e.id n ≡ true = grind (arith, nat_tests) in rw here (zero, omega arith, refl)
  | inr differ ↦
      let other : eqb e.id n ≡ false = grind (arith, nat_tests) in
      rw other (more (text_of_live es n (tail has differ)))
]
  where
    tail : Contains (e.id ∷ ids es) n → e.id ≢ n → Contains (ids es) n
    tail (zero, lt, same) differ = absurd (differ same)
    tail (suc k, lt, same) differ = (k, omega arith, same)

    more : {t : List ℕ} → Contains (texts es) t → Contains (e.text ∷ texts es) t
    more (k, lt, is) = (suc k, omega arith, is)

found_step : (p : ℕ × List ℕ) (rest : Option (ℕ × List ℕ)) (b : Bool) → option_map (λ (q : ℕ × List ℕ). q.0) (cond b (Some p) rest) ≡ cond b (Some p.0) (option_map (λ (q : ℕ × List ℕ). q.0) rest)
found_step p rest true = refl
found_step p rest false = refl

pub id_of-absent : (names : List NameEntry) (es : List (ℕ × ℕ)) (t : List ℕ) → AreLiveIds names es → (Contains (texts names) t → ⊥) → id_of (id_texts names es) t ≡ None
id_of-absent names [] t live absent = refl
id_of-absent names (p ∷ ps) t live absent =
    let u = (entry_at names p.1).text in
    let here = All-head (λ (p : ℕ × ℕ). Contains (ids names) p.1) p ps live in
    let other : bytes_eq u t ≡ false = false_from_ne_true (bytes_eq u t) (λ yes_eq.
    let same = (bytes_eq-Decides u t).0 yes_eq in
    let C : List ℕ → Type 0 = λ (x : List ℕ). Contains (texts names) x in
    absent (subst C same (text_of_live names p.1 here))) in
    rw other (id_of-absent names ps t (All-tail (λ (p : ℕ × ℕ). Contains (ids names) p.1) p ps live) absent)

pub id_of-found : (names : List NameEntry) (es : List (ℕ × ℕ)) (t : List ℕ) (r : ℕ) → AreLiveIds names es → (entry_at names r).text ≡ t → ((i : ℕ) → Contains (ids names) i → (entry_at names i).text ≡ t → i ≡ r) → id_of (id_texts names es) t ≡ least_id es r
id_of-found names [] t r live is only = refl
id_of-found names (p ∷ ps) t r live is only =
    let u = (entry_at names p.1).text in
    let here = All-head (λ (p : ℕ × ℕ). Contains (ids names) p.1) p ps live in
    let later = id_of-found names ps t r (All-tail (λ (p : ℕ × ℕ). Contains (ids names) p.1) p ps live) is only in
    elim (cases_eq p.1 r) [
      | inl same ↦
          let equal : bytes_eq u t ≡ true = (bytes_eq-Decides u t).1 (ap (λ (n : ℕ). (entry_at names n).text) same ∙ is) in
          let number : eqb p.1 r ≡ true = grind (arith, nat_tests) in
          rw (equal, number)
      | inr differ ↦
          let unequal : bytes_eq u t ≡ false = false_from_ne_true (bytes_eq u t) (λ yes_eq. differ (only p.1 here ((bytes_eq-Decides u t).0 yes_eq))) in
          let number : eqb p.1 r ≡ false = grind (arith, nat_tests) in
          rw (unequal, number) later
    ]

-- ---- the least id of a text

keys-texts : (names : List NameEntry) (es : List (ℕ × ℕ)) → keys_of (id_texts names es) ≡ keys_of es
keys-texts names [] = refl
keys-texts names (p ∷ ps) = rw (keys-texts names ps)

apart_above : (i k : ℕ) → k < i → is_at (nat_cmp i) k ≡ false
apart_above i k above = by (nat_cmp i k) refl
  where
    by : (o : Ordering) → nat_cmp i k ≡ o → is_eq o ≡ false
    by Less is = refl
    by Equal is = absurd (omega (arith, ranked i k Equal (sym is)))
    by Greater is = refl

-- the ids of both sides rise, and none is 0
pub record Fine (f : FaceTexts) : Type 0 where
  pub theirs_sorted : IsStrictlySortedBy nat_cmp (keys_of f.theirs)
  pub ours_sorted : IsStrictlySortedBy nat_cmp (keys_of f.ours)
  pub theirs_positive : All (λ i. 0 < i) (keys_of f.theirs)
  pub ours_positive : All (λ i. 0 < i) (keys_of f.ours)

pub Fine-texts : (names : List NameEntry) (face : FaceIds) → IsStrictlySortedBy nat_cmp (keys_of face.theirs) → IsStrictlySortedBy nat_cmp (keys_of face.ours) → All (λ i. 0 < i) (keys_of face.theirs) → All (λ i. 0 < i) (keys_of face.ours) → Fine (texts_of names face)
Fine-texts names face a b c d =
    let S : List ℕ → Type 0 = IsStrictlySortedBy nat_cmp in
    let P : List ℕ → Type 0 = All (λ i. 0 < i) in
    record {
      theirs_sorted = subst S (sym (keys-texts names face.theirs)) a;
      ours_sorted = subst S (sym (keys-texts names face.ours)) b;
      theirs_positive = subst P (sym (keys-texts names face.theirs)) c;
      ours_positive = subst P (sym (keys-texts names face.ours)) d;
    }

-- in a list that rises from 1 on, the least id of a text is the first
least_among : (all es : List (ℕ × List ℕ)) (t : List ℕ) → IsStrictlySortedBy nat_cmp (keys_of es) → All (λ i. 0 < i) (keys_of es) → ((j : ℕ) → Contains (keys_of es) j → of_id all j ≡ of_id es j) → find (names_text all t) (keys_of es) ≡ id_of es t
least_among all [] t sorted positive same = refl
least_among all (e ∷ es) t sorted positive same =
    let above : (j : ℕ) → Contains (keys_of es) j → e.0 < j = λ j has. let lt = below_from_sorted (e.0 ∷ keys_of es) 0 (suc has.0) j sorted (omega arith) (omega (arith, has.1)) in omega (arith, lt, has.2) in
    let some : eqb e.0 0 ≡ false = let first = All-head (λ i. 0 < i) e.0 (keys_of es) positive in grind (arith, nat_tests) in
    let itself : is_at (nat_cmp e.0) e.0 ≡ true = ap is_eq (tied_itself nat_cmp_total e.0) in
    let here : of_id all e.0 ≡ Some e.1 = same e.0 (zero, omega arith, refl) ∙ rw itself in
    let rest = least_among all es t (sorted_tail nat_cmp e.0 (keys_of es) sorted) (All-tail (λ i. 0 < i) e.0 (keys_of es) positive)
    (λ j has. same j (suc has.0, omega (arith, has.1), has.2) ∙ later j (above j has)) in
    rw (some, here) (by (bytes_eq e.1 t) rest)
  where
    later : (j : ℕ) → e.0 < j → of_id (e ∷ es) j ≡ of_id es j
    later j lt = let apart = apart_above j e.0 lt in rw apart

    by : (b : Bool) → find (names_text all t) (keys_of es) ≡ id_of es t
        → cond b (Some e.0) (find (names_text all t) (keys_of es)) ≡ option_map (λ (p : ℕ × List ℕ). p.0) (cond b (Some e) (find (λ (p : ℕ × List ℕ). bytes_eq p.1 t) es))
    by true rest = refl
    by false rest = rest

first_id : (f : FaceTexts) (t : List ℕ) → Fine f → least_name t f.theirs ≡ id_of f.theirs t
first_id f t fine = least_among f.theirs f.theirs t fine.theirs_sorted fine.theirs_positive (λ j has. refl)

second_id : (f : FaceTexts) (t : List ℕ) → Fine f → least_name t f.ours ≡ id_of f.ours t
second_id f t fine = least_among f.ours f.ours t fine.ours_sorted fine.ours_positive (λ j has. refl)

-- ---- an id more

id_texts-with_id : (names : List NameEntry) (es : List (ℕ × ℕ)) (i n : ℕ) → id_texts names (with_id es i n) ≡ with_id (id_texts names es) i (entry_at names n).text
id_texts-with_id names [] i n = refl
id_texts-with_id names (e ∷ es) i n = by (nat_cmp i e.0) (id_texts-with_id names es i n)
  where
    t : List ℕ
    t = (entry_at names n).text

    by : (o : Ordering) → id_texts names (with_id es i n) ≡ with_id (id_texts names es) i (entry_at names n).text
        → id_texts names (match_ordering o ((i, n) ∷ e ∷ es) ((e.0, n) ∷ es) (e ∷ with_id es i n)) ≡ match_ordering o ((i, (entry_at names n).text) ∷ id_texts names (e ∷ es)) ((e.0, (entry_at names n).text) ∷ id_texts names es) ((e.0, (entry_at names e.1).text) ∷ with_id (id_texts names es) i (entry_at names n).text)
    by Less later = refl
    by Equal later = refl
    by Greater later = rw later

-- the ids of a face stand for the same texts as long as their nodes stay
pub id_texts-kept : (names names' : List NameEntry) (es : List (ℕ × ℕ)) → ((i : ℕ) → Contains (ids names) i → (entry_at names' i).text ≡ (entry_at names i).text) → AreLiveIds names es → id_texts names' es ≡ id_texts names es
id_texts-kept names names' [] same live = refl
id_texts-kept names names' (p ∷ ps) same live =
    rw (same p.1 (All-head (λ (p : ℕ × ℕ). Contains (ids names) p.1) p ps live), id_texts-kept names names' ps same (All-tail (λ (p : ℕ × ℕ). Contains (ids names) p.1) p ps live))

pub AreLiveIds-kept : (names names' : List NameEntry) (es : List (ℕ × ℕ)) → ((i : ℕ) → Contains (ids names) i → Contains (ids names') i) → AreLiveIds names es → AreLiveIds names' es
AreLiveIds-kept names names' es stay live k d lt = stay _ (live k d lt)

AreLiveIds-with_id : (names : List NameEntry) (es : List (ℕ × ℕ)) (i n : ℕ) → AreLiveIds names es → Contains (ids names) n → AreLiveIds names (with_id es i n)
AreLiveIds-with_id names [] i n live has = All-cons (λ (p : ℕ × ℕ). Contains (ids names) p.1) (i, n) [] has live
AreLiveIds-with_id names (e ∷ es) i n live has = by (nat_cmp i e.0) (AreLiveIds-with_id names es i n (All-tail (λ (p : ℕ × ℕ). Contains (ids names) p.1) e es live) has)
  where
    by : (o : Ordering) → AreLiveIds names (with_id es i n) → AreLiveIds names (match_ordering o ((i, n) ∷ e ∷ es) ((e.0, n) ∷ es) (e ∷ with_id es i n))
    by Less later = All-cons (λ (p : ℕ × ℕ). Contains (ids names) p.1) (i, n) (e ∷ es) has live
    by Equal later = All-cons (λ (p : ℕ × ℕ). Contains (ids names) p.1) (e.0, n) es has (All-tail (λ (p : ℕ × ℕ). Contains (ids names) p.1) e es live)
    by Greater later = All-cons (λ (p : ℕ × ℕ). Contains (ids names) p.1) e (with_id es i n) (All-head (λ (p : ℕ × ℕ). Contains (ids names) p.1) e es live) later

-- a new id of the face, in the lists of texts
pub mapped_texts : (names names' : List NameEntry) (old new : FaceIds) (i : ℕ) (t : List ℕ) (r : ResourceId) → AreLive names old → AllStay names names' → HasText names' r t → of_id old.theirs i ≡ None → new.theirs ≡ with_id old.theirs i r.0 → new.ours ≡ old.ours
    → texts_of names' new ≡ registered (texts_of names old) i t
mapped_texts names names' old new i t r live stay named absent theirs ours =
    let same : (j : ℕ) → Contains (ids names) j → (entry_at names' j).text ≡ (entry_at names j).text = λ j has. (stay j has).1.text in
    let no_text : of_id (id_texts names old.theirs) i ≡ None = of_id-texts names old.theirs i ∙ ap (option_map (λ (n : ℕ). (entry_at names n).text)) absent in
    let first : id_texts names' new.theirs ≡ with_id (id_texts names old.theirs) i t =
    ap (id_texts names') theirs ∙ id_texts-with_id names' old.theirs i r.0
    ∙ rw (id_texts-kept names names' old.theirs same live.theirs, named.text) in
    let second : id_texts names' new.ours ≡ id_texts names old.ours = ap (id_texts names') ours ∙ id_texts-kept names names' old.ours same live.ours in
    rw (no_text, first, second)

pub mapped_live : (names names' : List NameEntry) (old new : FaceIds) (i : ℕ) (t : List ℕ) (r : ResourceId) → AreLive names old → AllStay names names' → HasText names' r t → new.theirs ≡ with_id old.theirs i r.0 → new.ours ≡ old.ours → AreLive names' new
mapped_live names names' old new i t r live stay named theirs ours =
    let stays : (j : ℕ) → Contains (ids names) j → Contains (ids names') j = λ j has. (stay j has).0 in
    let L : List (ℕ × ℕ) → Type 0 = AreLiveIds names' in
    record {
      theirs = subst L (sym theirs) (AreLiveIds-with_id names' old.theirs i r.0 (AreLiveIds-kept names names' old.theirs stays live.theirs) named.live);
      ours = subst L (sym ours) (AreLiveIds-kept names names' old.ours stays live.ours);
    }

-- an id that stands for the text already
pub same_texts : (names : List NameEntry) (face : FaceIds) (i n : ℕ) (t : List ℕ) → of_id face.theirs i ≡ Some n → texts_of names face ≡ registered (texts_of names face) i t
same_texts names face i n t is = let some : of_id (id_texts names face.theirs) i ≡ Some (entry_at names n).text = of_id-texts names face.theirs i ∙ ap (option_map (λ (m : ℕ). (entry_at names m).text)) is in rw some

-- ---- what is known

-- the number, and no other that is live, has the text
pub record IsOnly (names : List NameEntry) (r : ℕ) (t : List ℕ) : Type 0 where
  pub text : (entry_at names r).text ≡ t
  pub only : (i : ℕ) → Contains (ids names) i → (entry_at names i).text ≡ t → i ≡ r

first_known : (a b : Option ℕ) (i : ℕ) → Some i ≡ a → Some (i, Receiver) ≡ or_else {X = ℕ × Mapping} (tagged Receiver a) (tagged Sender b)
first_known a b i is = rw (← is) refl

second_known : (a b : Option ℕ) (i : ℕ) → None ≡ a → Some i ≡ b → Some (i, Sender) ≡ or_else {X = ℕ × Mapping} (tagged Receiver a) (tagged Sender b)
second_known a b i none is = rw (← none, ← is) refl

neither_known : (a b : Option ℕ) → None ≡ a → None ≡ b → None ≡ or_else {X = ℕ × Mapping} (tagged Receiver a) (tagged Sender b)
neither_known a b none none' = rw (← none, ← none') refl

module _ (names : List NameEntry) (face : FaceIds) (t : List ℕ) (live : AreLive names face) (fine : Fine (texts_of names face)) where
  pub known-absent : (Contains (texts names) t → ⊥) → None ≡ known (texts_of names face) t
  known-absent absent =
      neither_known _ _
      (sym (first_id (texts_of names face) t fine ∙ id_of-absent names face.theirs t live.theirs absent))
      (sym (second_id (texts_of names face) t fine ∙ id_of-absent names face.ours t live.ours absent))

  module _ (r : ℕ) (is : IsOnly names r t) where
    theirs_id : least_name t (theirs_texts names face) ≡ least_id face.theirs r
    theirs_id = first_id (texts_of names face) t fine ∙ id_of-found names face.theirs t r live.theirs is.text is.only

    ours_id : least_name t (ours_texts names face) ≡ least_id face.ours r
    ours_id = second_id (texts_of names face) t fine ∙ id_of-found names face.ours t r live.ours is.text is.only

    pub known-first : (i : ℕ) → Some i ≡ least_id face.theirs r → Some (i, Receiver) ≡ known (texts_of names face) t
    known-first i first = first_known _ _ i (first ∙ sym theirs_id)

    pub known-second : (i : ℕ) → None ≡ least_id face.theirs r → Some i ≡ least_id face.ours r → Some (i, Sender) ≡ known (texts_of names face) t
    known-second i none second = second_known _ _ i (none ∙ sym theirs_id) (second ∙ sym ours_id)

    pub known-neither : None ≡ least_id face.theirs r → None ≡ least_id face.ours r → None ≡ known (texts_of names face) t
    known-neither none none' = neither_known _ _ (none ∙ sym theirs_id) (none' ∙ sym ours_id)

-- ---- refusals

pub refusal-new : (f : FaceTexts) (i : ℕ) (w : WireExpr) (t : List ℕ) → full_of f w ≡ Some t → is_key t ≡ true → eqb i 0 ≡ false → of_id f.theirs i ≡ None → register_refusal f i w ≡ None
refusal-new f i w t full key some absent = ap (text_refusal f i) full ∙ rw (key, some, absent) refl

pub refusal-same : (f : FaceTexts) (i : ℕ) (w : WireExpr) (t u : List ℕ) → full_of f w ≡ Some t → is_key t ≡ true → eqb i 0 ≡ false → of_id f.theirs i ≡ Some u → bytes_eq u t ≡ true → register_refusal f i w ≡ None
refusal-same f i w t u full key some there equal = ap (text_refusal f i) full ∙ rw (key, some, there, equal) refl

pub refusal-other : (f : FaceTexts) (i : ℕ) (w : WireExpr) (t u : List ℕ) → full_of f w ≡ Some t → is_key t ≡ true → eqb i 0 ≡ false → of_id f.theirs i ≡ Some u → bytes_eq u t ≡ false → register_refusal f i w ≡ Some Remapped
refusal-other f i w t u full key some there unequal = ap (text_refusal f i) full ∙ rw (key, some, there, unequal) refl

pub text_absent : (names : List NameEntry) (es : List (ℕ × ℕ)) (i : ℕ) → of_id es i ≡ None → of_id (id_texts names es) i ≡ None
text_absent names es i is = of_id-texts names es i ∙ ap (option_map (λ (n : ℕ). (entry_at names n).text)) is

pub text_there : (names : List NameEntry) (es : List (ℕ × ℕ)) (i n : ℕ) → of_id es i ≡ Some n → of_id (id_texts names es) i ≡ Some (entry_at names n).text
text_there names es i n is = of_id-texts names es i ∙ ap (option_map (λ (m : ℕ). (entry_at names m).text)) is

pub no_mapping : (o : Option ResourceId) (x : Option ℕ) → o ≡ None → option_map (λ (r : ResourceId). r.0) o ≡ x → x ≡ None
no_mapping o x none is = sym is ∙ ap (option_map (λ (r : ResourceId). r.0)) none

-- ---- declared keys

some_map : {X Y : Type 0} (f : X → Y) (o : Option X) → is_some (option_map f o) ≡ is_some o
some_map f None = refl
some_map f (Some x) = refl

is_used-texts : (names : List NameEntry) (a b : List (ℕ × ℕ)) (i : ℕ) → is_used (id_texts names a) (id_texts names b) i ≡ is_used a b i
is_used-texts names a b i = rw (of_id-texts names a i, of_id-texts names b i, some_map (λ (n : ℕ). (entry_at names n).text) (of_id a i), some_map (λ (n : ℕ). (entry_at names n).text) (of_id b i)) refl

-- the least free id doesn't depend on what the ids stand for
free_from-texts : (names : List NameEntry) (a b : List (ℕ × ℕ)) (n i : ℕ) → free_from (id_texts names a) (id_texts names b) n i ≡ free_from a b n i
free_from-texts names a b zero i = free_from-none (id_texts names a) (id_texts names b) i ∙ sym (free_from-none a b i)
free_from-texts names a b (suc n) i = by (is_used a b i) refl (free_from-texts names a b n (i + 1))
  where
    by : (u : Bool) → is_used a b i ≡ u → free_from (id_texts names a) (id_texts names b) n (i + 1) ≡ free_from a b n (i + 1) → free_from (id_texts names a) (id_texts names b) (suc n) i ≡ free_from a b (suc n) i
    by true u later = free_from-used (id_texts names a) (id_texts names b) n i (is_used-texts names a b i ∙ u) ∙ later ∙ sym (free_from-used a b n i u)
    by false u later = free_from-free (id_texts names a) (id_texts names b) n i (is_used-texts names a b i ∙ u) ∙ sym (free_from-free a b n i u)

pub next-texts : (names : List NameEntry) (face : FaceIds) → next_id (theirs_texts names face) (ours_texts names face) ≡ next_id face.theirs face.ours
next-texts names face = free_from-texts names face.theirs face.ours 65535 1

pub part_choice-new : (names : List NameEntry) (face : FaceIds) (p rest : List ℕ) (next : Option ℕ) → None ≡ known (texts_of names face) p → next ≡ next_id face.theirs face.ours → part_choice (texts_of names face) true p rest ≡ new_choice rest next
part_choice-new names face p rest next none is = ap (known_choice (texts_of names face) true rest) (sym none) ∙ ap (new_choice rest) (next-texts names face ∙ sym is)

-- the ids after a declaration, as texts
pub declared_texts : (names : List NameEntry) (face : FaceIds) (node : ℕ) (t : List ℕ) (declared : Option ℕ) → (entry_at names node).text ≡ nonwild t → texts_of names (with_new face node declared) ≡ with_declared (texts_of names face) t declared
declared_texts names face node t None named = refl
declared_texts names face node t (Some i) named = rw (id_texts-with_id names face.ours i node, named) refl

pub declared_live : (names : List NameEntry) (face : FaceIds) (node : ℕ) (declared : Option ℕ) → AreLive names face → Contains (ids names) node → AreLive names (with_new face node declared)
declared_live names face node None live has = live
declared_live names face node (Some i) live has = record { theirs = live.theirs; ours = AreLiveIds-with_id names face.ours i node live.ours has }

-- a new id that was given
module _ (names : List NameEntry) (old new : FaceIds) (t : List ℕ) (i : ℕ) (gives : Gives names old new t (Some i)) where
  pub gives_texts : texts_of names new ≡ with_declared (texts_of names old) t (Some i)
  gives_texts = ap (texts_of names) gives.given ∙ declared_texts names old gives.node t (Some i) gives.named.2

  pub gives_live : AreLive names old → AreLive names new
  gives_live live = let L : FaceIds → Type 0 = AreLive names in subst L (sym gives.given) (declared_live names old gives.node (Some i) live gives.named.1)

-- ---- an id less

AreLiveIds-without_id : (names : List NameEntry) (es : List (ℕ × ℕ)) (i : ℕ) → AreLiveIds names es → AreLiveIds names (without_id es i)
AreLiveIds-without_id names [] i live = live
AreLiveIds-without_id names (e ∷ es) i live = by (is_at (nat_cmp i) e.0) (All-tail (λ (p : ℕ × ℕ). Contains (ids names) p.1) e es live) (AreLiveIds-without_id names es i)
  where
    by : (b : Bool) → AreLiveIds names es → (AreLiveIds names es → AreLiveIds names (without_id es i)) → AreLiveIds names (cond b es (e ∷ without_id es i))
    by true rest later = rest
    by false rest later = All-cons (λ (p : ℕ × ℕ). Contains (ids names) p.1) e (without_id es i) (All-head (λ (p : ℕ × ℕ). Contains (ids names) p.1) e es live) (later rest)

pub AreLive-without_theirs : (names : List NameEntry) (face : FaceIds) (i : ℕ) → AreLive names face → AreLive names (record face { theirs = without_id face.theirs i })
AreLive-without_theirs names face i live = record { theirs = AreLiveIds-without_id names face.theirs i live.theirs; ours = live.ours }
