-- Tellings stand in order of their faces and keys.
use Rattle.std.proofs.Common.{◌≡◌, ◌∙◌, refl, ap, ℕ, Bool, true, false, cond, List, [], ◌∷◌, ◌++◌, fold, map, Option, Some, None}
use Rattle.std.specs.List.{AllByRecursion}
use Rattle.std.specs.List.Sorted.{IsStrictlySortedBy}
use Rattle.std.specs.Option.{option_map_or}
use Rattle.std.specs.Ordering.{is_eq, nat_cmp, ordering_then}
use Rattle.std.specs.declared.cmp.Ordering.{Ordering}
use Rattle.std.specs.declared.cmp.Ordering.TheVariants.{Less, Equal, Greater}
use Rattle.std.specs.Map.{keys_of}
use Rattle.std.proofs.lemmas.Map.Keys.{sorted_head, sorted_tail}
use Rattle.zq_index.specs.Infos.{same_info}
use Rattle.zq_index.specs.Texts.{at_text, text_cmp}
use Rattle.zq_strategy.specs.declared.network.Telling.{Telling}
use Rattle.zq_strategy.specs.Tellings.{telling_cmp}
use Rattle.zq_told.specs.declared.types.ToldEntry.{ToldEntry}
use Rattle.zq_told.specs.declared.types.Reason.{Reason}
use Rattle.zq_told.specs.declared.types.Reason.TheVariants.{Update, Answer, End}
use Rattle.zq_told.specs.declared.types.FaceUpdate.{FaceUpdate}
use Rattle.zq_told.specs.declared.types.Planned.{Planned}
use Rattle.zq_told.specs.declared.plan.Account.{Account}
use Rattle.zq_told.specs.ToldSets.{ToldSet, ToldSets, Told, at_face}
use Rattle.zq_told.specs.Telling.{KeyDue, declared, entry_for, tell_face, tell_key, tell_keys, tellings_for, with_account, withdrawn}
use Rattle.zq_told.specs.Laws.{InOrder, TellsInOrder}
use Rattle.zq_told.proofs.Entries.{itself}

abbrev Sorted : List Telling → Type 0
Sorted ts = IsStrictlySortedBy telling_cmp ts

equal_of : (r : Ordering) → is_eq r ≡ true → r ≡ Equal
equal_of Less e = cc
equal_of Equal e = refl
equal_of Greater e = cc

same_number : (m : ℕ) → nat_cmp m m ≡ Equal
same_number m = equal_of (nat_cmp m m) (itself m)

-- ---- lists
pub all_append : (P : Telling → Type 0) (ts us : List Telling) → AllByRecursion P ts → AllByRecursion P us → AllByRecursion P (ts ++ us)
all_append P [] us a b = b
all_append P (t ∷ ts) us a b = (a.0, all_append P ts us a.1 b)

all_weaker : (P Q : Telling → Type 0) → ((t : Telling) → P t → Q t) → (ts : List Telling) → AllByRecursion P ts → AllByRecursion Q ts
all_weaker P Q h [] a = tt
all_weaker P Q h (t ∷ ts) a = (h t a.0, all_weaker P Q h ts a.1)

sorted_none : Sorted []
unfolding IsStrictlySortedBy
sorted_none = tt

sorted_last : (ts : List Telling) (t : Telling) → Sorted ts → AllByRecursion (λ u. telling_cmp u t ≡ Less) ts → Sorted (ts ++ t ∷ [])
unfolding IsStrictlySortedBy
sorted_last [] t s a = (tt, tt)
sorted_last (u ∷ us) t s a = (all_append (λ x. telling_cmp u x ≡ Less) us (t ∷ []) s.0 (a.0, tt), sorted_last us t s.1 a.1)

end_by : (t : Telling) (ts : List Telling) → Sorted (t ∷ ts) → Sorted (ts ++ []) → Sorted (t ∷ (ts ++ []))
unfolding IsStrictlySortedBy
end_by t ts s more = (all_append (λ x. telling_cmp t x ≡ Less) ts [] s.0 tt, more)

sorted_end : (ts : List Telling) → Sorted ts → Sorted (ts ++ [])
sorted_end [] s = s
sorted_end (t ∷ ts) s = end_by t ts s (sorted_end ts (sorted_tail telling_cmp t ts s))

-- ---- one key
abbrev probe : ℕ → List ℕ → Telling
probe m k = record { face = record { 0 = m }; id = 0; key = k; info = None; node = 0 }

-- all come before what the face is told of the key
abbrev Behind : ℕ → List Telling → List ℕ → Type 0
Behind m ts k = AllByRecursion (λ (u : Telling). telling_cmp u (probe m k) ≡ Less) ts

-- all are to faces before the face
abbrev Before : List Telling → ℕ → Type 0
Before ts m = AllByRecursion (λ (u : Telling). nat_cmp u.face.0 m ≡ Less) ts

behind_before : (m : ℕ) (ts : List Telling) (k : List ℕ) → Before ts m → Behind m ts k
behind_before m ts k = all_weaker (λ (u : Telling). nat_cmp u.face.0 m ≡ Less) (λ (u : Telling). telling_cmp u (probe m k) ≡ Less) (λ u l. ap (λ r. ordering_then r (ordering_then (text_cmp u.key k) (nat_cmp u.node 0))) l) ts

next_key : (m : ℕ) (k j : List ℕ) → text_cmp k j ≡ Less → telling_cmp (probe m k) (probe m j) ≡ Less
next_key m k j l = ap (λ r. ordering_then r (ordering_then (text_cmp k j) (nat_cmp 0 0))) (same_number m) ∙ ap (λ r. ordering_then r (nat_cmp 0 0)) l

module _ (way : Reason) (m : ℕ) (k : List ℕ) (old new : Option ToldEntry) (Q : List Telling → Type 0) (none : Q []) (tells : (e : ToldEntry) → Q (declared m k e ∷ [])) (ends : (e : ToldEntry) → Q (withdrawn m k e ∷ [])) where
  change_by : (e : ToldEntry) (b : Bool) → Q (cond b [] (declared m k e ∷ []))
  change_by e true = none
  change_by e false = tells e

  -- a key has one telling or none
  pub one_for : Q (tellings_for way m k old new)
  one_for = by way old new
    where
      by : (w : Reason) (o x : Option ToldEntry) → Q (tellings_for w m k o x)
      by Update None None = none
      by Update (Some t) None = ends t
      by Update None (Some e) = tells e
      by Update (Some t) (Some e) = change_by e (same_info t.info e.info)
      by Answer o None = none
      by Answer o (Some e) = tells e
      by End None x = none
      by End (Some t) None = none
      by End (Some t) (Some e) = change_by e (same_info t.info e.info)

module _ (way : Reason) (m : ℕ) (told : Told) where
  abbrev words : Account → KeyDue → List Telling
  words a k = tellings_for way m k.0 (at_text k.0 told) (entry_for way a.last (at_text k.0 told) k.1)

  sorted_key : (a : Account) (k : KeyDue) → Sorted a.tellings → Behind m a.tellings k.0 → Sorted (a.tellings ++ words a k)
  sorted_key a k s b = one_for way m k.0 (at_text k.0 told) (entry_for way a.last (at_text k.0 told) k.1) (λ ts. Sorted (a.tellings ++ ts)) (sorted_end a.tellings s) (λ e. sorted_last a.tellings (declared m k.0 e) s b) (λ e. sorted_last a.tellings (withdrawn m k.0 e) s b)

  behind_key : (a : Account) (k j : KeyDue) → text_cmp k.0 j.0 ≡ Less → Behind m a.tellings j.0 → Behind m (a.tellings ++ words a k) j.0
  behind_key a k j l b = all_append (λ (u : Telling). telling_cmp u (probe m j.0) ≡ Less) a.tellings (words a k) b
      (one_for way m k.0 (at_text k.0 told) (entry_for way a.last (at_text k.0 told) k.1) (AllByRecursion (λ (u : Telling). telling_cmp u (probe m j.0) ≡ Less)) tt (λ e. (next_key m k.0 j.0 l, tt)) (λ e. (next_key m k.0 j.0 l, tt)))

  behind_keys : (a : Account) (k : KeyDue) (ks : List KeyDue) → AllByRecursion (λ q. text_cmp k.0 q ≡ Less) (keys_of ks) → AllByRecursion (λ (j : KeyDue). Behind m a.tellings j.0) ks → AllByRecursion (λ (j : KeyDue). Behind m (a.tellings ++ words a k) j.0) ks
  behind_keys a k [] above b = tt
  behind_keys a k (j ∷ ks) above b = (behind_key a k j above.0 b.0, behind_keys a k ks above.1 b.1)

  sorted_keys : (ks : List KeyDue) (a : Account) → InOrder ks → Sorted a.tellings → AllByRecursion (λ (j : KeyDue). Behind m a.tellings j.0) ks → Sorted (fold (tell_key way m told) a ks).tellings
  sorted_keys [] a o s b = s
  sorted_keys (k ∷ ks) a o s b = sorted_keys ks (tell_key way m told a k) (sorted_tail text_cmp k.0 (keys_of ks) o) (sorted_key a k s b.0) (behind_keys a k ks (sorted_head text_cmp k.0 (keys_of ks) o) b.1)

  before_keys : (n : ℕ) → nat_cmp m n ≡ Less → (ks : List KeyDue) (a : Account) → Before a.tellings n → Before (fold (tell_key way m told) a ks).tellings n
  before_keys n l [] a b = b
  before_keys n l (k ∷ ks) a b = before_keys n l ks (tell_key way m told a k) (all_append (λ (u : Telling). nat_cmp u.face.0 n ≡ Less) a.tellings (words a k) b
      (one_for way m k.0 (at_text k.0 told) (entry_for way a.last (at_text k.0 told) k.1) (AllByRecursion (λ (u : Telling). nat_cmp u.face.0 n ≡ Less)) tt (λ e. (l, tt)) (λ e. (l, tt))))

  behind_all : (ts : List Telling) (ks : List KeyDue) → Before ts m → AllByRecursion (λ (j : KeyDue). Behind m ts j.0) ks
  behind_all ts [] b = tt
  behind_all ts (k ∷ ks) b = (behind_before m ts k.0 b, behind_all ts ks b)

-- ---- many faces
module _ (way : Reason) (ears : ToldSets) where
  abbrev told_face : Planned → FaceUpdate → Option ToldSet → Planned
  told_face p d o = option_map_or (λ (e : ToldSet). with_account d.face.0 (tell_keys way d.face.0 e d.keys p.tellings) p) o p

  sorted_face : (p : Planned) (d : FaceUpdate) (o : Option ToldSet) → InOrder d.keys → Sorted p.tellings → Before p.tellings d.face.0 → Sorted (told_face p d o).tellings
  sorted_face p d None keys s b = s
  sorted_face p d (Some e) keys s b = sorted_keys way d.face.0 e.told d.keys (record { last = e.last; rows = []; tellings = p.tellings }) keys s (behind_all way d.face.0 e.told p.tellings d.keys b)

  before_face : (p : Planned) (d : FaceUpdate) (o : Option ToldSet) (n : ℕ) → nat_cmp d.face.0 n ≡ Less → Before p.tellings n → Before (told_face p d o).tellings n
  before_face p d None n l b = b
  before_face p d (Some e) n l b = before_keys way d.face.0 e.told n l d.keys (record { last = e.last; rows = []; tellings = p.tellings }) b

  before_faces : (p : Planned) (d : FaceUpdate) (ds : List FaceUpdate) → AllByRecursion (λ q. nat_cmp d.face.0 q ≡ Less) (map (λ (d : FaceUpdate). d.face.0) ds) → AllByRecursion (λ (x : FaceUpdate). Before p.tellings x.face.0) ds → AllByRecursion (λ (x : FaceUpdate). Before (tell_face way ears p d).tellings x.face.0) ds
  before_faces p d [] above b = tt
  before_faces p d (x ∷ ds) above b = (before_face p d (at_face d.face.0 ears) x.face.0 above.0 b.0, before_faces p d ds above.1 b.1)

  sorted_faces : (ds : List FaceUpdate) (p : Planned) → IsStrictlySortedBy nat_cmp (map (λ (d : FaceUpdate). d.face.0) ds) → AllByRecursion (λ (d : FaceUpdate). InOrder d.keys) ds → Sorted p.tellings → AllByRecursion (λ (x : FaceUpdate). Before p.tellings x.face.0) ds
      → Sorted (fold (tell_face way ears) p ds).tellings
  sorted_faces [] p o keys s b = s
  sorted_faces (d ∷ ds) p o keys s b =
      sorted_faces ds (tell_face way ears p d) (sorted_tail nat_cmp d.face.0 (map (λ (d : FaceUpdate). d.face.0) ds) o) keys.1
      (sorted_face p d (at_face d.face.0 ears) keys.0 s b.0)
      (before_faces p d ds (sorted_head nat_cmp d.face.0 (map (λ (d : FaceUpdate). d.face.0) ds) o) b.1)

  before_first : (ds : List FaceUpdate) → AllByRecursion (λ (x : FaceUpdate). Before [] x.face.0) ds
  before_first [] = tt
  before_first (d ∷ ds) = (tt, before_first ds)

pub tells_in_order : TellsInOrder
tells_in_order way ears dues faces keys = sorted_faces way ears dues (record { plan = []; tellings = [] }) faces keys sorted_none (before_first way ears dues)
