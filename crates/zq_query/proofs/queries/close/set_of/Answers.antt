use Rattle.std.proofs.Common.{◌≡◌, ◌∙◌, sym, ap, get_or, cond, true, false, Bool, refl}
use Rattle.std.specs.Prelude.{◌||◌}
use Rattle.std.specs.BTreeMap.{is_at}
use Rattle.std.specs.Ordering.{nat_cmp}
use Rattle.std.specs.Cmp.{nat_cmp_total, eq_by_cmp_equiv}
use Rattle.std.proofs.lemmas.List.Folds.{list_any_more}
use Rattle.std.proofs.Math.Bool.{or-true}
use Rattle.zq_query.specs.FaceEntries.{has_key}
use Rattle.zq_query.proofs.queries.close.set_of.Goals as goal

as_or : (a b c : Bool) → a ≡ c → cond a true b ≡ (b || c)
as_or true b c e = sym (ap (λ x. b || x) (sym e) ∙ or-true b)
as_or false true c e = refl
as_or false false c e = e

pub loop-number-preserved : goal.loop-number-preserved
loop-number-preserved c = λ n.
    let k = get_or c.args.numbers.now c.loop-number.number-index 0 in
    c.in-Ok.ensures.updates.0 n
    ∙ ap (λ b. cond (is_at (nat_cmp k) n) true b) (c.loop-number.invariant n)
    ∙ as_or (is_at (nat_cmp k) n) (has_key nat_cmp n _) (is_at (nat_cmp n) k) ((eq_by_cmp_equiv nat_cmp_total).symm k n)
    ∙ sym (list_any_more (is_at (nat_cmp n)) c.args.numbers.now c.loop-number.number-index 0 c.loop-number-test.true)
