-- A fold that has reached something never leaves it: where one step needs too great an id, or has a plan with one, so does the whole.
use Rattle.std.proofs.Common.{◌≡◌, ◌∙◌, refl, sym, ap, ℕ, zero, suc, ◌<◌, ◌≤◌, ◌^◌, Bool, true, false, List, [], ◌∷◌, ◌++◌, fold, take, length, get_or, Option, Some, None, arith, true≢false, Err}
use Rattle.std.specs.Prelude.{◌||◌, not, nat_lt}
use Rattle.std.specs.Result.{IsErrOf}
use Rattle.zq_told.specs.declared.types.TellRefusal.{TellRefusal}
use Rattle.zq_told.specs.declared.types.TellRefusal.TheVariants.{NoFreeId}
use Rattle.std.specs.List.{list_any}
use Rattle.std.specs.Option.{option_map_or}
use Rattle.std.proofs.lemmas.Grind.{common_steps}
use Rattle.zq_message.specs.declared.message.QueryableInfoType.{QueryableInfoType}
use Rattle.zq_index.specs.Texts.{at_text}
use Rattle.zq_told.specs.declared.types.ToldEntry.{ToldEntry}
use Rattle.zq_told.specs.declared.types.Reason.{Reason}
use Rattle.zq_told.specs.declared.types.Reason.TheVariants.{Update, Answer, End}
use Rattle.zq_told.specs.declared.types.FaceUpdate.{FaceUpdate}
use Rattle.zq_told.specs.declared.types.FacePlan.{FacePlan}
use Rattle.zq_told.specs.declared.types.Planned.{Planned}
use Rattle.zq_told.specs.declared.plan.Account.{Account}
use Rattle.zq_told.specs.ToldSets.{ToldSet, ToldSets, Told, at_face}
use Rattle.zq_told.specs.Telling.{KeyDue, entry_for, last_for, is_above, tell_face, tell_key, tell_keys, with_account}

module _ {X Y : Type 0} (f : Y → X → Y) (P : Y → Type 0) (step : (y : Y) (x : X) → P y → P (f y x)) where
  pub stays : (xs : List X) (a : Y) → P a → P (fold f a xs)
  stays [] a p = p
  stays (x ∷ xs) a p = stays xs (f a x) (step a x p)

  pub reaches : (xs : List X) (a : Y) (i : ℕ) (d : X) → i < length xs → P (f (fold f a (take i xs)) (get_or xs i d)) → P (fold f a xs)
  reaches [] a i d lt p = absurd (omega (arith, lt))
  reaches (x ∷ xs) a zero d lt p = stays xs (f a x) p
  reaches (x ∷ xs) a (suc i) d lt p = reaches xs (f a x) i d (let l : i < length xs = omega (arith, lt) in l) p

-- an error is one whatever the value would have been
pub err_moves : (A B : Type 0) (e : TellRefusal) → IsErrOf {T = A} (Err e) NoFreeId → IsErrOf {T = B} (Err e) NoFreeId
err_moves A B e h = let same : e ≡ NoFreeId = cc in ap (λ y. Err y) same

-- ---- the id given last only rises
rises_by : (way : Reason) (last : ℕ) (old : Option ToldEntry) (due : Option QueryableInfoType) → last ≤ last_for last old (entry_for way last old due)
rises_by way last None None = omega arith
rises_by way last (Some t) None = omega arith
rises_by Update last None (Some i) = omega arith
rises_by Update last (Some t) (Some i) = omega arith
rises_by Answer last None (Some i) = omega arith
rises_by Answer last (Some t) (Some i) = omega arith
rises_by End last None (Some i) = omega arith
rises_by End last (Some t) (Some i) = omega arith

pub last_rises : (way : Reason) (n : ℕ) (told : Told) (bound : ℕ) (a : Account) (k : KeyDue) → bound ≤ a.last → bound ≤ (tell_key way n told a k).last
last_rises way n told bound a k le = let more : a.last ≤ last_for a.last (at_text k.0 told) (entry_for way a.last (at_text k.0 told) k.1) = rises_by way a.last (at_text k.0 told) k.1 in omega (arith, le, more)

-- ---- a plan only grows
or_true : (b : Bool) → (b || true) ≡ true
or_true true = refl
or_true false = refl

any_more : (ps qs : List FacePlan) → list_any is_above ps ≡ true → list_any is_above (ps ++ qs) ≡ true
any_more [] qs e = absurd (true≢false (sym e))
any_more (p ∷ ps) qs e = by (is_above p) e (any_more ps qs)
  where
    by : (b : Bool) → (b || list_any is_above ps) ≡ true → (list_any is_above ps ≡ true → list_any is_above (ps ++ qs) ≡ true) → (b || list_any is_above (ps ++ qs)) ≡ true
    by true h more = refl
    by false h more = more h

pub plan_above : (ps : List FacePlan) (p : FacePlan) → is_above p ≡ true → list_any is_above (ps ++ p ∷ []) ≡ true
plan_above [] p e = ap (λ b. b || false) e
plan_above (q ∷ ps) p e = ap (λ b. is_above q || b) (plan_above ps p e) ∙ or_true (is_above q)

pub plan_below : (ps : List FacePlan) (p : FacePlan) → list_any is_above ps ≡ false → is_above p ≡ false → list_any is_above (ps ++ p ∷ []) ≡ false
plan_below [] p e f = ap (λ b. b || false) f
plan_below (q ∷ ps) p e f = by (is_above q) e (λ h. plan_below ps p h f)
  where
    by : (b : Bool) → (b || list_any is_above ps) ≡ false → (list_any is_above ps ≡ false → list_any is_above (ps ++ p ∷ []) ≡ false) → (b || list_any is_above (ps ++ p ∷ [])) ≡ false
    by true h more = absurd (true≢false h)
    by false h more = more h

pub face_above : (way : Reason) (ears : ToldSets) (p : Planned) (d : FaceUpdate) → list_any is_above p.plan ≡ true → list_any is_above (tell_face way ears p d).plan ≡ true
face_above way ears p d e = by (at_face d.face.0 ears)
  where
    by : (o : Option ToldSet) → list_any is_above (option_map_or (λ (e : ToldSet). with_account d.face.0 (tell_keys way d.face.0 e d.keys p.tellings) p) o p).plan ≡ true
    by None = e
    by (Some x) = any_more p.plan (record { face = record { 0 = d.face.0 }; last = (tell_keys way d.face.0 x d.keys p.tellings).last; rows = (tell_keys way d.face.0 x d.keys p.tellings).rows } ∷ []) e

pub above_by : (n : ℕ) → 2 ^ 32 ≤ n → not (nat_lt n (2 ^ 32)) ≡ true
above_by n le = grind (arith, common_steps)

pub below_by : (n : ℕ) → n < 2 ^ 32 → not (nat_lt n (2 ^ 32)) ≡ false
below_by n lt = grind (arith, common_steps)
