-- Each telling is to a face that is there, of a key that the call looks at for it.
use Rattle.std.proofs.Common.{◌≡◌, ◌∙◌, refl, ap, ℕ, Bool, true, false, cond, List, [], ◌∷◌, ◌++◌, fold, Option, Some, None, eq-eqb}
use Rattle.std.specs.Prelude.{◌||◌, ◌==◌, ◌&&◌}
use Rattle.std.specs.List.{AllByRecursion, flat_map, list_any}
use Rattle.std.specs.Option.{is_some, option_map_or}
use Rattle.std.specs.Str.{bytes_eq}
use Rattle.zq_message.specs.declared.message.QueryableInfoType.{QueryableInfoType}
use Rattle.zq_index.specs.Texts.{at_text}
use Rattle.zq_strategy.specs.declared.network.Telling.{Telling}
use Rattle.zq_told.specs.declared.types.Reason.{Reason}
use Rattle.zq_told.specs.declared.types.FaceUpdate.{FaceUpdate}
use Rattle.zq_told.specs.declared.types.Planned.{Planned}
use Rattle.zq_told.specs.declared.plan.Account.{Account}
use Rattle.zq_told.specs.ToldSets.{ToldSet, ToldSets, Told, at_face}
use Rattle.zq_told.specs.Telling.{KeyDue, entry_for, tell_face, tell_key, tell_keys, tellings_for, told_under, with_account}
use Rattle.zq_told.specs.Laws.{keys_for, told_in}
use Rattle.zq_told.specs.Leaving.{IsMeant, TellsMeant, TellsNoOther, is_looked_at}
use Rattle.std.specs.Ordering.{nat_cmp}
use Rattle.std.specs.BTreeMap.{is_at}
use Rattle.zq_told.proofs.Entries.{is_other, text_itself}
use Rattle.zq_told.proofs.Calls.{not_same}
use Rattle.zq_told.proofs.Differing.{tells_each}
use Rattle.zq_told.proofs.Ordered.{all_append, one_for}

or_true : (b : Bool) → (b || true) ≡ true
or_true true = refl
or_true false = refl

module _ (way : Reason) (ears : ToldSets) (P : Telling → Type 0) where
  -- whatever a face is told of a key is such a one
  abbrev AreFine : ℕ → List KeyDue → Type 0
  AreFine n keys = AllByRecursion (λ (k : KeyDue). (id : ℕ) (info : Option QueryableInfoType) → P (told_under n k.0 id info)) keys

  fine_keys : (n : ℕ) (told : Told) (ks : List KeyDue) (a : Account) → AreFine n ks → AllByRecursion P a.tellings → AllByRecursion P (fold (tell_key way n told) a ks).tellings
  fine_keys n told [] a fine all = all
  fine_keys n told (k ∷ ks) a fine all =
      let ts : List Telling = tellings_for way n k.0 (at_text k.0 told) (entry_for way a.last (at_text k.0 told) k.1) in
      let more : AllByRecursion P ts = one_for way n k.0 (at_text k.0 told) (entry_for way a.last (at_text k.0 told) k.1) (λ ts. AllByRecursion P ts) tt (λ e. (fine.0 e.id (Some e.info), tt)) (λ e. (fine.0 e.id None, tt)) in
      fine_keys n told ks (tell_key way n told a k) fine.1 (all_append P a.tellings ts all more)

  fine_by : (p : Planned) (d : FaceUpdate) (o : Option ToldSet) → (is_some o ≡ true → AreFine d.face.0 d.keys) → AllByRecursion P p.tellings
      → AllByRecursion P (option_map_or (λ (e : ToldSet). with_account d.face.0 (tell_keys way d.face.0 e d.keys p.tellings) p) o p).tellings
  fine_by p d None fine all = all
  fine_by p d (Some e) fine all = fine_keys d.face.0 e.told d.keys (record { last = e.last; rows = []; tellings = p.tellings }) (fine refl) all

  fine_faces : (ds : List FaceUpdate) (p : Planned) → AllByRecursion (λ (d : FaceUpdate). is_some (at_face d.face.0 ears) ≡ true → AreFine d.face.0 d.keys) ds → AllByRecursion P p.tellings
      → AllByRecursion P (fold (tell_face way ears) p ds).tellings
  fine_faces [] p fine all = all
  fine_faces (d ∷ ds) p fine all = fine_faces ds (tell_face way ears p d) fine.1 (fine_by p d (at_face d.face.0 ears) fine.0 all)

-- ---- the keys that the call looks at
module _ (ears : ToldSets) (dues : List FaceUpdate) where
  abbrev Asked : ℕ → List ℕ → Type 0
  Asked n key = is_looked_at dues n key ≡ true

  asked_keys : (n : ℕ) → is_some (at_face n ears) ≡ true → (ks : List KeyDue) → ((key : List ℕ) → list_any (λ (k : KeyDue). bytes_eq key k.0) ks ≡ true → Asked n key)
      → AllByRecursion (λ (k : KeyDue). (id : ℕ) (info : Option QueryableInfoType) → IsMeant ears dues (told_under n k.0 id info)) ks
  asked_keys n there [] all = tt
  asked_keys n there (k ∷ ks) all = (
    λ id info. record { node = refl; there = there; asked = all k.0 (ap (λ b. b || list_any (λ (j : KeyDue). bytes_eq k.0 j.0) ks) (text_itself k.0)) },
    asked_keys n there ks (λ key h. all key (ap (λ b. bytes_eq key k.0 || b) h ∙ or_true (bytes_eq key k.0))),
  )

  asked_faces : (ds : List FaceUpdate) → ((n : ℕ) (key : List ℕ) → is_looked_at ds n key ≡ true → Asked n key)
      → AllByRecursion (λ (d : FaceUpdate). is_some (at_face d.face.0 ears) ≡ true → AllByRecursion (λ (k : KeyDue). (id : ℕ) (info : Option QueryableInfoType) → IsMeant ears dues (told_under d.face.0 k.0 id info)) d.keys) ds
  asked_faces [] all = tt
  asked_faces (d ∷ ds) all = (
    λ there. asked_keys d.face.0 there d.keys (λ key h. all d.face.0 key (λ i. (eq-eqb d.face.0 d.face.0 refl i && h i) || is_looked_at ds d.face.0 key)),
    asked_faces ds (λ n key h. all n key (ap (λ b. ((n == d.face.0) && list_any (λ (k : KeyDue). bytes_eq key k.0) d.keys) || b) h ∙ or_true ((n == d.face.0) && list_any (λ (k : KeyDue). bytes_eq key k.0) d.keys))),
  )

pub tells_meant : TellsMeant
tells_meant way ears dues = fine_faces way ears (IsMeant ears dues) dues (record { plan = []; tellings = [] }) (asked_faces ears dues dues (λ n key h. h)) tt

-- ---- faces that are told nothing
module _ (way : Reason) (n : ℕ) where
  abbrev alone : Option ToldSet → FaceUpdate → List Telling
  alone o d = cond (n == d.face.0) (option_map_or (λ (e : ToldSet). told_in way n e d.keys) o []) []

  none_by : (b : Bool) → (let x : List Telling = cond b [] [] in x) ≡ []
  none_by true = refl
  none_by false = refl

  none_there : (ds : List FaceUpdate) → flat_map (alone None) ds ≡ []
  none_there [] = refl
  none_there (d ∷ ds) = λ i. none_by (n == d.face.0) i ++ none_there ds i

  none_asked_by : (e : ToldSet) (d : FaceUpdate) (ds : List FaceUpdate) (b : Bool) → is_at (nat_cmp n) d.face.0 ≡ b → cond b (Some d.keys) (keys_for n ds) ≡ None
      → (keys_for n ds ≡ None → flat_map (alone (Some e)) ds ≡ []) → alone (Some e) d ++ flat_map (alone (Some e)) ds ≡ []
  none_asked_by e d ds true is h more = absurd (let gap : Some d.keys ≡ None = h in cc)
  none_asked_by e d ds false is h more = λ i. cond (not_same n d.face.0 (is_other n d.face.0 is) i) (told_in way n e d.keys) [] ++ more h i

  none_asked : (e : ToldSet) (ds : List FaceUpdate) → keys_for n ds ≡ None → flat_map (alone (Some e)) ds ≡ []
  none_asked e [] h = refl
  none_asked e (d ∷ ds) h = none_asked_by e d ds (is_at (nat_cmp n) d.face.0) refl h (λ g. none_asked e ds g)

  none_either : (o : Option ToldSet) (ds : List FaceUpdate) → keys_for n ds ≡ None → flat_map (alone o) ds ≡ []
  none_either None ds h = none_there ds
  none_either (Some e) ds h = none_asked e ds h

pub tells_no_other : TellsNoOther
tells_no_other = record {
  absent = λ way ears dues n none. tells_each way ears dues n ∙ ap (λ o. flat_map (alone way n o) dues) none ∙ none_there way n dues;
  unasked = λ way ears dues n none. tells_each way ears dues n ∙ none_either way n (at_face n ears) dues none;
}
