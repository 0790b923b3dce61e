-- What a target picks, offer by offer.
use Rattle.std.proofs.Common.{◌≡◌, ◌∙◌, sym, ap, refl, ℕ, Bool, true, false, cond, List, [], ◌∷◌, ◌++◌, length, take, drop, fold, ◌+◌, ◌<◌, get_or, Some}
use Rattle.std.specs.Prelude.{◌&&◌, filter, find, slice_get}
use Rattle.std.specs.Cmp.{first_so, second_so}
use Rattle.std.proofs.Math.Seq.{take-append_seam}
use Rattle.std.proofs.lemmas.List.{at_drop_more, take-append-drop}
use Rattle.std.proofs.lemmas.Option.{slice_get_read}
use Rattle.std.proofs.lemmas.List.Elements.{filter-append}
use Rattle.zq_message.specs.declared.message.QueryTarget.{QueryTarget}
use Rattle.zq_message.specs.declared.message.QueryTarget.TheVariants as target
use Rattle.zq_strategy.specs.declared.offer.QueryTargetQabl.{QueryTargetQabl}
use Rattle.zq_route.specs.Built.{with_first}
use Rattle.zq_route.specs.Selection.{is_complete, is_kept, kept, by_face, with_offers, with_kept}

all_kept : (offers : List QueryTargetQabl) → filter (λ _. true) offers ≡ offers
all_kept [] = refl
all_kept (o ∷ os) = ap (λ l. o ∷ l) (all_kept os)

-- what a target keeps of a list is what it keeps offer by offer
kept_is : (by : QueryTarget) (offers : List QueryTargetQabl) → filter (is_kept by) offers ≡ kept by offers
kept_is target.All offers = all_kept offers
kept_is target.AllComplete offers = refl
kept_is target.BestMatching offers = all_kept offers

module _ (test : QueryTargetQabl → Bool) (by : QueryTarget) where
  folded : (route : List (ℕ × QueryTargetQabl)) (offers : List QueryTargetQabl) → fold (with_kept test by) route offers ≡ with_offers route (filter (is_kept by) (filter test offers))
  folded route [] = refl
  folded route (o ∷ os) = cases (test o) (is_kept by o) refl refl (λ r. folded r os)
    where
      cases : (b c : Bool) → test o ≡ b → is_kept by o ≡ c → ((r : List (ℕ × QueryTargetQabl)) → fold (with_kept test by) r os ≡ with_offers r (filter (is_kept by) (filter test os))) → fold (with_kept test by) (cond b (cond c (with_first route (by_face o)) route) route) os ≡ with_offers route (filter (is_kept by) (cond b (o ∷ filter test os) (filter test os)))
      cases true true e f more = rw f (more (with_first route (by_face o)))
      cases true false e f more = rw f (more route)
      cases false c e f more = more route

  -- offer by offer it is all at once
  pub kept_all : (route : List (ℕ × QueryTargetQabl)) (offers : List QueryTargetQabl) → fold (with_kept test by) route offers ≡ with_offers route (kept by (filter test offers))
  kept_all route offers = folded route offers ∙ ap (with_offers route) (kept_is by (filter test offers))

  front_kept : (offers : List QueryTargetQabl) (i : ℕ) → filter (is_kept by) (filter test (take i offers)) ≡ take (length (filter (is_kept by) (filter test (take i offers)))) (filter (is_kept by) (filter test offers))
  front_kept offers i =
      let front = filter (is_kept by) (filter test (take i offers)) in
      let rest = filter (is_kept by) (filter test (drop i offers)) in
      let parts : filter (is_kept by) (filter test offers) ≡ front ++ rest =
      ap (λ l. filter (is_kept by) (filter test l)) (sym (take-append-drop i offers))
      ∙ ap (filter (is_kept by)) (filter-append test (take i offers) (drop i offers))
      ∙ filter-append (is_kept by) (filter test (take i offers)) (filter test (drop i offers)) in
      sym (ap (take (length front)) parts ∙ take-append_seam front rest)

  -- what the front of the offers gives is the front of what they give
  pub kept_part : (route : List (ℕ × QueryTargetQabl)) (offers : List QueryTargetQabl) (i : ℕ) → (n : ℕ) × (fold (with_kept test by) route (take i offers) ≡ with_offers route (take n (kept by (filter test offers))))
  kept_part route offers i = (
    length (filter (is_kept by) (filter test (take i offers))),
    folded route (take i offers) ∙ ap (with_offers route) (front_kept offers i ∙ ap (take (length (filter (is_kept by) (filter test (take i offers))))) (kept_is by (filter test offers))),
  )

-- the offer at a place that passes and is complete is the first such from there on
pub best_at : (test : QueryTargetQabl → Bool) (offers : List QueryTargetQabl) (i : ℕ) (o : QueryTargetQabl) → i < length offers → o ≡ get_or offers i o → (test o && is_complete o) ≡ true → find is_complete (filter test (drop i offers)) ≡ slice_get offers i
best_at test offers i o inside is so =
    let rest = filter test (drop (i + 1) offers) in
    at_drop_more (λ l. find is_complete (filter test l)) offers i o inside
    ∙ ap (λ x. find is_complete (filter test (x ∷ drop (i + 1) offers))) (sym is)
    ∙ ap (λ b. find is_complete (cond b (o ∷ rest) rest)) (first_so _ _ so)
    ∙ ap (λ b. cond b (Some o) (find is_complete rest)) (second_so _ _ so)
    ∙ sym (slice_get_read offers (length offers) i o refl inside is)
