-- The first complete offer among those that pass, and the nearest one.
use Rattle.std.proofs.Common.{◌≡◌, ◌∙◌, sym, refl, Bool, true, false, cond, List, ◌∷◌, drop, ◌+◌, ◌<◌, ℕ, get_or, length, true≢false, Option, fold, ap}
use Rattle.std.specs.Prelude.{◌&&◌, filter, find}
use Rattle.std.proofs.lemmas.List.{at_drop_more}
use Rattle.zq_strategy.specs.declared.offer.QueryTargetQabl.{QueryTargetQabl}
use Rattle.zq_route.specs.Selection.{is_complete, nearer}

module _ (test : QueryTargetQabl → Bool) where
  past_by : (o : QueryTargetQabl) (rest : List QueryTargetQabl) (a b : Bool) → test o ≡ a → is_complete o ≡ b → (a && b) ≡ false → find is_complete (cond a (o ∷ filter test rest) (filter test rest)) ≡ find is_complete (filter test rest)
  past_by o rest true true ea eb miss = absurd (true≢false miss)
  past_by o rest true false ea eb miss = rw eb refl
  past_by o rest false b ea eb miss = refl

  past : (o : QueryTargetQabl) (rest : List QueryTargetQabl) → (test o && is_complete o) ≡ false → find is_complete (filter test (o ∷ rest)) ≡ find is_complete (filter test rest)
  past o rest miss = by (test o) refl
    where
      by : (a : Bool) → test o ≡ a → find is_complete (cond a (o ∷ filter test rest) (filter test rest)) ≡ find is_complete (filter test rest)
      by a ea = past_by o rest a (is_complete o) ea refl ((λ j. sym ea j && is_complete o) ∙ miss)

  -- an offer that is not the one is passed over
  pub passed : (offers : List QueryTargetQabl) (i : ℕ) (o : QueryTargetQabl) → i < length offers → o ≡ get_or offers i o → (test o && is_complete o) ≡ false → find is_complete (filter test (drop (i + 1) offers)) ≡ find is_complete (filter test (drop i offers))
  passed offers i o inside is miss = sym (past o (drop (i + 1) offers) miss) ∙ ap (λ x. find is_complete (filter test (x ∷ drop (i + 1) offers))) is ∙ sym (at_drop_more (λ l. find is_complete (filter test l)) offers i o inside)

  -- one more offer is looked at
  pub nearer_next : (found : Option QueryTargetQabl) (o : QueryTargetQabl) (rest : List QueryTargetQabl) (b : Bool) → (test o && is_complete o) ≡ b
      → fold nearer (cond b (nearer found o) found) (filter is_complete (filter test rest)) ≡ fold nearer found (filter is_complete (filter test (o ∷ rest)))
  nearer_next found o rest b e = by (test o) (is_complete o) refl b e
    where
      by : (a c : Bool) → is_complete o ≡ c → (b : Bool) → (a && c) ≡ b → fold nearer (cond b (nearer found o) found) (filter is_complete (filter test rest)) ≡ fold nearer found (filter is_complete (cond a (o ∷ filter test rest) (filter test rest)))
      by true true ec true e = rw ec refl
      by true true ec false e = absurd (true≢false e)
      by true false ec true e = absurd (true≢false (sym e))
      by true false ec false e = rw ec refl
      by false c ec true e = absurd (true≢false (sym e))
      by false c ec false e = refl
