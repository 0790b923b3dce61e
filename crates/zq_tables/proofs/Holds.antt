-- What it follows from that each number holds its node.
use Rattle.std.proofs.Common.{◌≡◌, ◌≢◌, ℕ, ◌+◌, ◌*◌, ◌<◌, ◌≤◌, Bool, true, false, cond, eqb, List, [], ◌∷◌, length, Some, refl, ap, subst, ◌∙◌, arith}
use Rattle.std.specs.List.{All, Contains}
use Rattle.std.specs.Map.{values_of}
use Rattle.std.specs.BTreeMap.{is_at}
use Rattle.std.specs.Ordering.{nat_cmp}
use Rattle.std.proofs.lemmas.Bool.Decides.{nat_tests}
use Rattle.std.proofs.lemmas.Option.{none-some, same_Some}
use Rattle.std.proofs.lemmas.List.Elements.{All-head, All-tail, All-cons, All-nil}
use Rattle.zq_names.specs.Names.{NameEntry, ids, entry_at}
use Rattle.zq_tables.specs.FaceIds.{AreLiveIds, AreLive}
use Rattle.zq_tables.specs.FaceTexts.{id_texts}
use Rattle.zq_message.specs.declared.message.Mapping.TheVariants.{Sender, Receiver}
use Rattle.zq_tables.specs.Naming.{FaceKeys}
use Rattle.zq_tables.specs.declared.holder.Holder.TheVariants.{Number, Queryable, Interest}
use Rattle.zq_tables.specs.Holding.{EntryNodes, FaceHolds, Faces, IsFace, IsHeld, hold_of, side_holds, face_holds, holds_by, ids_at, keys_by, keys_of_face}
use Rattle.zq_tables.proofs.Entries.{Rises-length, weigh-removed}

pub hold_itself : (n : ℕ) → hold_of n n ≡ 1
hold_itself n = let same : eqb n n ≡ true = grind (arith, nat_tests) in rw same

pub hold_other : (i n : ℕ) → n ≢ i → hold_of i n ≡ 0
hold_other i n differ = let other : eqb n i ≡ false = grind (arith, nat_tests) in rw other

at_most_one : (i n : ℕ) → hold_of i n ≤ 1
at_most_one i n = by (eqb n i)
  where
    by : (b : Bool) → cond b 1 0 ≤ 1
    by true = omega arith
    by false = omega arith

-- ---- there are few holds

few_on_side : (i : ℕ) (es : List (ℕ × ℕ)) → side_holds i es ≤ length es
few_on_side i [] = omega arith
few_on_side i (e ∷ es) = omega (arith, at_most_one i e.1, few_on_side i es)

few_at_face : (i : ℕ) (f : FaceHolds) → IsFace f → face_holds i f ≤ 17179869184
few_at_face i f is =
    let given : length f.numbers.ours + 1 ≤ 65536 = Rises-length 65536 1 f.numbers.ours (is.rises (Number Receiver)) in
    let numbers : length f.numbers.theirs + 1 ≤ 65536 = Rises-length 65536 1 f.numbers.theirs (is.rises (Number Sender)) in
    let queryables : length f.queryables + 0 ≤ 4294967296 = Rises-length 4294967296 0 f.queryables (is.rises Queryable) in
    let interests : length f.interests + 0 ≤ 4294967296 = Rises-length 4294967296 0 f.interests (is.rises Interest) in
    omega (arith, few_on_side i f.numbers.theirs, few_on_side i f.numbers.ours, few_on_side i f.queryables, few_on_side i f.interests, numbers, given, queryables, interests)

pub few_holds : (i : ℕ) (faces : Faces) → All IsFace (values_of faces) → holds_by i faces ≤ length faces * 17179869184
few_holds i [] all = omega arith
few_holds i (p ∷ ps) all =
    let here = few_at_face i p.1 (All-head IsFace p.1 (values_of ps) all) in
    let rest = few_holds i ps (All-tail IsFace p.1 (values_of ps) all) in
    omega (arith, here, rest)

-- ---- nodes that numbers hold are live

live_side : (names : List NameEntry) (es : List (ℕ × ℕ)) → ((i : ℕ) → 0 < side_holds i es → Contains (ids names) i) → AreLiveIds names es
live_side names [] live = All-nil (λ (p : ℕ × ℕ). Contains (ids names) p.1)
live_side names (e ∷ es) live =
    All-cons (λ (p : ℕ × ℕ). Contains (ids names) p.1) e es
    (live e.1 (omega (arith, hold_itself e.1)))
    (live_side names es (λ i some. live i (omega (arith, some))))

pub holds_at : (i face : ℕ) (faces : Faces) (f : FaceHolds) → ids_at face faces ≡ Some f → face_holds i f ≤ holds_by i faces
holds_at i face faces f at = omega (arith, weigh-removed (face_holds i) (is_at (nat_cmp face)) faces f at)

pub live_face : (names : List NameEntry) (faces : Faces) (face : ℕ) (f : FaceHolds) → ((i : ℕ) → 0 < holds_by i faces → Contains (ids names) i) → ids_at face faces ≡ Some f → AreLive names f.numbers
live_face names faces face f live at = record {
  theirs = live_side names f.numbers.theirs (λ i some. live i (omega (arith, some, holds_at i face faces f at)));
  ours = live_side names f.numbers.ours (λ i some. live i (omega (arith, some, holds_at i face faces f at)));
}

pub faces_live : (names : List NameEntry) (faces : Faces) (rows : EntryNodes) → IsHeld names faces rows → (i : ℕ) → 0 < holds_by i faces → Contains (ids names) i
faces_live names faces rows held i some = held.live i (omega (arith, some))

pub live_at : (names : List NameEntry) (faces : Faces) (rows : EntryNodes) (face : ℕ) (f : FaceHolds) → IsHeld names faces rows → ids_at face faces ≡ Some f → AreLive names f.numbers
live_at names faces rows face f held at = live_face names faces face f (faces_live names faces rows held) at

pub face_at : (faces : Faces) (face : ℕ) (f : FaceHolds) → All IsFace (values_of faces) → ids_at face faces ≡ Some f → IsFace f
face_at [] face f all at = absurd (none-some f at)
face_at (p ∷ ps) face f all at = by (is_at (nat_cmp face) p.0) at (face_at ps face f (All-tail IsFace p.1 (values_of ps) all))
  where
    by : (b : Bool) → cond b (Some p.1) (ids_at face ps) ≡ Some f → (ids_at face ps ≡ Some f → IsFace f) → IsFace f
    by true here later = subst IsFace (same_Some _ _ here) (All-head IsFace p.1 (values_of ps) all)
    by false here later = later here

-- ---- ids keep their texts as long as the nodes that they hold do

pub same_side : (names names' : List NameEntry) (es : List (ℕ × ℕ)) → ((i : ℕ) → 0 < side_holds i es → (entry_at names' i).text ≡ (entry_at names i).text) → id_texts names' es ≡ id_texts names es
same_side names names' [] same = refl
same_side names names' (e ∷ es) same =
    rw (same e.1 (omega (arith, hold_itself e.1)), same_side names names' es (λ i some. same i (omega (arith, some)))) refl

pub same_face : (names names' : List NameEntry) (f : FaceHolds) → ((i : ℕ) → 0 < face_holds i f → (entry_at names' i).text ≡ (entry_at names i).text) → keys_of_face names' f ≡ keys_of_face names f
same_face names names' f same =
    rw (
      same_side names names' f.numbers.theirs (λ i some. same i (omega (arith, some))),
      same_side names names' f.numbers.ours (λ i some. same i (omega (arith, some))),
      same_side names names' f.queryables (λ i some. same i (omega (arith, some))),
      same_side names names' f.interests (λ i some. same i (omega (arith, some))),
    ) refl

pub same_keys : (names names' : List NameEntry) (faces : Faces) → ((i : ℕ) → 0 < holds_by i faces → (entry_at names' i).text ≡ (entry_at names i).text) → keys_by names' faces ≡ keys_by names faces
same_keys names names' [] same = refl
same_keys names names' (p ∷ ps) same =
    let here : keys_of_face names' p.1 ≡ keys_of_face names p.1 = same_face names names' p.1 (λ i some. same i (omega (arith, some))) in
    let rest = same_keys names names' ps (λ i some. same i (omega (arith, some))) in
    ap (λ (n : FaceKeys). (p.0, n) ∷ keys_by names' ps) here ∙ ap (λ l. (p.0, keys_of_face names p.1) ∷ l) rest
