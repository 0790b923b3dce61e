-- What a call leaves of one face and tells it, and when it lacks ids.
use Rattle.std.proofs.Common.{◌≡◌, ◌∙◌, refl, sym, ap, ℕ, ◌+◌, Bool, true, false, cond, List, [], ◌∷◌, ◌++◌, fold, length, map, Option, Some, None, true≢false, arith, append_assoc}
use Rattle.std.specs.Prelude.{◌||◌, filter}
use Rattle.std.specs.List.{flat_map, list_any}
use Rattle.std.specs.Option.{is_some, option_and_then, option_map_or}
use Rattle.std.proofs.lemmas.List.{append-nil, map-append}
use Rattle.std.proofs.lemmas.List.Folds.{list_any-append}
use Rattle.zq_message.specs.declared.message.QueryableInfoType.{QueryableInfoType}
use Rattle.zq_index.specs.Texts.{at_text}
use Rattle.zq_strategy.specs.declared.network.Telling.{Telling}
use Rattle.zq_told.specs.declared.types.ToldEntry.{ToldEntry}
use Rattle.zq_told.specs.declared.types.Reason.{Reason}
use Rattle.zq_told.specs.declared.types.Reason.TheVariants.{Answer, End}
use Rattle.zq_told.specs.declared.types.FaceUpdate.{FaceUpdate}
use Rattle.zq_told.specs.declared.types.FacePlan.{FacePlan}
use Rattle.zq_told.specs.declared.types.Planned.{Planned}
use Rattle.zq_told.specs.declared.plan.Account.{Account}
use Rattle.zq_told.specs.ToldSets.{ToldSet, ToldSets, Told, at_face}
use Rattle.zq_told.specs.Telling.{KeyDue, Row, change, entry_for, is_above, last_for, put_row, renewed, tell_face, tell_key, tell_keys, tellings_for, with_account}
use Rattle.zq_told.specs.Laws.{InOrder, takes_id}
use Rattle.zq_told.specs.Leaving.{AnswersAll, AnswersDue, EndsChanging, EndsNeedNone, HaveIds, LacksExactly, StaysInOrder, ToldAimed, changed_on, is_too_great, lacks_there, news_of, takes_ids}
use Rattle.zq_told.proofs.Slotted.{row_sorted}
use Rattle.zq_told.proofs.Settling.{told_is}
use Rattle.zq_told.proofs.Differing.{counted}
use Rattle.zq_told.proofs.Reaching.{below_by}

pub told_aimed : ToldAimed
told_aimed way n ear keys sorted ordered key = told_is way n ear.told key keys (record { last = ear.last; rows = []; tellings = [] }) ordered sorted

-- ---- keys stay in order
pub rows_sorted : (rows : List Row) (told : Told) → InOrder told → InOrder (fold put_row told rows)
rows_sorted [] told s = s
rows_sorted (r ∷ rows) told s = rows_sorted rows (put_row told r) (row_sorted r.0 r.1 told s)

pub stays_in_order : StaysInOrder
stays_in_order way n ear keys s = rows_sorted (tell_keys way n ear keys []).rows ear.told s

-- ---- an interest that ended
change_by : (n : ℕ) (key : List ℕ) (last : ℕ) (old : Option ToldEntry) (due : Option QueryableInfoType) → tellings_for End n key old (entry_for End last old due) ≡ change n key old (option_and_then (renewed old) due)
change_by n key last None None = refl
change_by n key last (Some t) None = refl
change_by n key last None (Some i) = refl
change_by n key last (Some t) (Some i) = refl

change_all : (n : ℕ) (told : Told) (ks : List KeyDue) (a : Account) → (fold (tell_key End n told) a ks).tellings ≡ a.tellings ++ flat_map (changed_on n told) ks
change_all n told [] a = sym (append-nil a.tellings)
change_all n told (k ∷ ks) a =
    change_all n told ks (tell_key End n told a k)
    ∙ ap (λ ts. (a.tellings ++ ts) ++ flat_map (changed_on n told) ks) (change_by n k.0 a.last (at_text k.0 told) k.1)
    ∙ append_assoc a.tellings (changed_on n told k) (flat_map (changed_on n told) ks)

pub ends_changing : EndsChanging
ends_changing n ear keys = change_all n ear.told keys (record { last = ear.last; rows = []; tellings = [] })

-- ---- an interest that is answered
abbrev is_due : KeyDue → Bool
is_due k = is_some k.1

answer_by : (n : ℕ) (key : List ℕ) (last : ℕ) (old : Option ToldEntry) (due : Option QueryableInfoType) → map news_of (tellings_for Answer n key old (entry_for Answer last old due)) ≡ cond (is_some due) ((key, due) ∷ []) []
answer_by n key last old None = refl
answer_by n key last old (Some i) = refl

first_by : (b : Bool) (k : KeyDue) (ks : List KeyDue) → cond b (k ∷ []) [] ++ ks ≡ cond b (k ∷ ks) ks
first_by true k ks = refl
first_by false k ks = refl

answer_all : (n : ℕ) (told : Told) (ks : List KeyDue) (a : Account) → map news_of (fold (tell_key Answer n told) a ks).tellings ≡ map news_of a.tellings ++ filter is_due ks
answer_all n told [] a = sym (append-nil (map news_of a.tellings))
answer_all n told (k ∷ ks) a =
    let new : Option ToldEntry = entry_for Answer a.last (at_text k.0 told) k.1 in
    let ts : List Telling = tellings_for Answer n k.0 (at_text k.0 told) new in
    let was : List KeyDue = map news_of a.tellings in
    answer_all n told ks (tell_key Answer n told a k)
    ∙ ap (λ l. l ++ filter is_due ks) (map-append news_of a.tellings ts ∙ ap (λ l. was ++ l) (answer_by n k.0 a.last (at_text k.0 told) k.1))
    ∙ append_assoc was (cond (is_due k) (k ∷ []) []) (filter is_due ks)
    ∙ ap (λ l. was ++ l) (first_by (is_due k) k (filter is_due ks))

pub answers_all : AnswersAll
answers_all n ear keys = answer_all n ear.told keys (record { last = ear.last; rows = []; tellings = [] })

-- keys on which nothing is due add nothing
module _ (n : ℕ) (told : Told) where
  -- accounts that say the same, whichever rows they have
  record Alike (a b : Account) : Type 0 where
    last : a.last ≡ b.last
    tellings : a.tellings ≡ b.tellings

  alike_step : (k : KeyDue) (a b : Account) → Alike a b → Alike (tell_key Answer n told a k) (tell_key Answer n told b k)
  alike_step k a b s = record {
    last = ap (λ l. last_for l (at_text k.0 told) (entry_for Answer l (at_text k.0 told) k.1)) s.last;
    tellings = λ i. s.tellings i ++ tellings_for Answer n k.0 (at_text k.0 told) (entry_for Answer (s.last i) (at_text k.0 told) k.1);
  }

  undue_last : (last : ℕ) (old : Option ToldEntry) → last_for last old None ≡ last
  undue_last last None = refl
  undue_last last (Some t) = refl

  alike_by : (key : List ℕ) (due : Option QueryableInfoType) (ks : List KeyDue) (a b : Account) → Alike a b
      → ((c d : Account) → Alike c d → Alike (fold (tell_key Answer n told) c ks) (fold (tell_key Answer n told) d (filter is_due ks)))
      → Alike (fold (tell_key Answer n told) (tell_key Answer n told a (key, due)) ks) (fold (tell_key Answer n told) b (cond (is_some due) ((key, due) ∷ filter is_due ks) (filter is_due ks)))
  alike_by key None ks a b s more =
      more (tell_key Answer n told a (key, None)) b
      (record { last = undue_last a.last (at_text key told) ∙ s.last; tellings = append-nil a.tellings ∙ s.tellings })
  alike_by key (Some i) ks a b s more = more (tell_key Answer n told a (key, Some i)) (tell_key Answer n told b (key, Some i)) (alike_step (key, Some i) a b s)

  alike_all : (ks : List KeyDue) (a b : Account) → Alike a b → Alike (fold (tell_key Answer n told) a ks) (fold (tell_key Answer n told) b (filter is_due ks))
  alike_all [] a b s = s
  alike_all (k ∷ ks) a b s = alike_by k.0 k.1 ks a b s (λ c d x. alike_all ks c d x)

pub answers_due : AnswersDue
answers_due n ear keys =
    let first : Account = record { last = ear.last; rows = []; tellings = [] } in
    (alike_all n ear.told keys first first (record { last = refl; tellings = refl })).tellings

-- ---- ids that lack
or_false : (b : Bool) → b ≡ (b || false)
or_false true = refl
or_false false = refl

or_assoc : (a b c : Bool) → ((a || b) || c) ≡ (a || (b || c))
or_assoc true b c = refl
or_assoc false b c = refl

module _ (way : Reason) (ears : ToldSets) where
  lacks_by : (p : Planned) (d : FaceUpdate) (o : Option ToldSet) → list_any is_above (option_map_or (λ (e : ToldSet). with_account d.face.0 (tell_keys way d.face.0 e d.keys p.tellings) p) o p).plan
      ≡ (list_any is_above p.plan || option_map_or (λ (e : ToldSet). is_too_great (e.last + length (filter (takes_id way e.told) d.keys))) o false)
  lacks_by p d None = or_false (list_any is_above p.plan)
  lacks_by p d (Some e) =
      let start : Account = record { last = e.last; rows = []; tellings = p.tellings } in
      let a : Account = tell_keys way d.face.0 e d.keys p.tellings in
      let left : FacePlan = record { face = record { 0 = d.face.0 }; last = a.last; rows = a.rows } in
      list_any-append is_above p.plan (left ∷ [])
      ∙ ap (λ b. list_any is_above p.plan || b) (sym (or_false (is_above left)) ∙ ap is_too_great (counted way d.face.0 e.told d.keys start))

  lacks_all : (ds : List FaceUpdate) (p : Planned) → list_any is_above (fold (tell_face way ears) p ds).plan ≡ (list_any is_above p.plan || list_any (lacks_there way ears) ds)
  lacks_all [] p = or_false (list_any is_above p.plan)
  lacks_all (d ∷ ds) p =
      lacks_all ds (tell_face way ears p d)
      ∙ ap (λ b. b || list_any (lacks_there way ears) ds) (lacks_by p d (at_face d.face.0 ears))
      ∙ or_assoc (list_any is_above p.plan) (lacks_there way ears d) (list_any (lacks_there way ears) ds)

pub lacks_exactly : LacksExactly
lacks_exactly way ears dues = lacks_all way ears dues (record { plan = []; tellings = [] })

-- ---- where no key is newly due
pub neither : (a b : Bool) → (a || b) ≡ false → (a ≡ false) × (b ≡ false)
neither true b e = absurd (true≢false e)
neither false b e = (refl, e)

none_of_by : {X : Type 0} (p : X → Bool) (x : X) (xs : List X) (b : Bool) → b ≡ false → filter p xs ≡ [] → cond b (x ∷ filter p xs) (filter p xs) ≡ []
none_of_by p x xs true e ih = absurd (true≢false e)
none_of_by p x xs false e ih = ih

none_of : {X : Type 0} (p : X → Bool) (xs : List X) → list_any p xs ≡ false → filter p xs ≡ []
none_of p [] e = refl
none_of p (x ∷ xs) e = let both = neither (p x) (list_any p xs) e in none_of_by p x xs (p x) both.0 (none_of p xs both.1)

module _ (way : Reason) (ears : ToldSets) where
  -- a face to which no key is newly due keeps its last id
  pub last_kept : (e : ToldSet) (keys : List KeyDue) → list_any (takes_id way e.told) keys ≡ false → e.last + length (filter (takes_id way e.told) keys) ≡ e.last
  last_kept e keys none = ap (λ ks. e.last + length ks) (none_of (takes_id way e.told) keys none) ∙ (let z : e.last + 0 ≡ e.last = omega arith in z)

  enough_by : (d : FaceUpdate) (o : Option ToldSet) → at_face d.face.0 ears ≡ o → HaveIds ears → option_map_or (λ (e : ToldSet). list_any (takes_id way e.told) d.keys) o false ≡ false
      → option_map_or (λ (e : ToldSet). is_too_great (e.last + length (filter (takes_id way e.told) d.keys))) o false ≡ false
  enough_by d None there ids none = refl
  enough_by d (Some e) there ids none = ap is_too_great (last_kept e d.keys none) ∙ below_by e.last (ids d.face.0 e there)

  pub enough : (ds : List FaceUpdate) → HaveIds ears → list_any (takes_ids way ears) ds ≡ false → list_any (lacks_there way ears) ds ≡ false
  enough [] ids none = refl
  enough (d ∷ ds) ids none =
      let both = neither (takes_ids way ears d) (list_any (takes_ids way ears) ds) none in
      (λ i. enough_by d (at_face d.face.0 ears) refl ids both.0 i || enough ds ids both.1 i)

-- ---- the end of an interest
none_taken : (told : Told) (keys : List KeyDue) → list_any (takes_id End told) keys ≡ false
none_taken told [] = refl
none_taken told (k ∷ ks) = none_taken told ks

none_there : (d : FaceUpdate) (o : Option ToldSet) → option_map_or (λ (e : ToldSet). list_any (takes_id End e.told) d.keys) o false ≡ false
none_there d None = refl
none_there d (Some e) = none_taken e.told d.keys

none_take : (ears : ToldSets) (dues : List FaceUpdate) → list_any (takes_ids End ears) dues ≡ false
none_take ears [] = refl
none_take ears (d ∷ ds) = λ i. none_there d (at_face d.face.0 ears) i || none_take ears ds i

pub never_lacks : EndsNeedNone
never_lacks ears dues ids = lacks_exactly End ears dues ∙ enough End ears dues ids (none_take ears dues)
