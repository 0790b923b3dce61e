-- Messages that are sent one by one.
use Rattle.std.proofs.Common.{◌≡◌, ℕ, ◌<◌, ◌≤◌, List, ◌++◌, length, take, drop, sym, ap, ◌∙◌, arith, length-append}
use Rattle.std.proofs.lemmas.List.{length-take, take-append-drop}
use Rattle.std.proofs.lemmas.List.Elements.{filter-append}
use Rattle.std.proofs.Math.Seq.{take-append_seam}
use Rattle.zq_machine.specs.Handing.{Handed}
use Rattle.zq_query.proofs.Putting.{fits_by}
use Rattle.zq_shared.specs.Links.{leaves, leaving}

module _ (hs : List Handed) (i : ℕ) where
  -- what was sent is a beginning of what leaves
  pub begins : (take (length (leaving (take i hs))) (leaving hs) ≡ leaving (take i hs)) × (length (leaving (take i hs)) ≤ length (leaving hs))
  begins =
      let whole : leaving hs ≡ leaving (take i hs) ++ leaving (drop i hs) = ap leaving (sym (take-append-drop i hs)) ∙ filter-append leaves (take i hs) (drop i hs) in
      let long = ap (λ (l : List Handed). length l) whole ∙ length-append (leaving (take i hs)) (leaving (drop i hs)) in
      (ap (take (length (leaving (take i hs)))) whole ∙ take-append_seam (leaving (take i hs)) (leaving (drop i hs)), omega (arith, long))

  pub few_leave : i < length hs → length (leaving (take i hs)) ≤ i
  few_leave h = let f = fits_by leaves (take i hs) in let l = length-take i hs in omega (arith, f, l)
