use Rattle.std.proofs.Common.{◌≡◌, ◌∙◌, Some, None, sym, ap, true, false, cond, eq-eqb}
use Rattle.std.specs.Prelude.{◌||◌, ◌&&◌, not}
use Rattle.std.specs.BTreeMap.{is_at}
use Rattle.std.specs.Ordering.{nat_cmp}
use Rattle.std.specs.Cmp.{nat_cmp_total}
use Rattle.std.specs.Option.{option_and_then}
use Rattle.std.proofs.lemmas.Map.Lookups.{exact_unsigned}
use Rattle.std.proofs.Math.Bool.{or-true}
use Rattle.zq_query.specs.Records.{is_closed}
use Rattle.zq_query.specs.Tables.{final_at}
use Rattle.zq_query.specs.FaceEntries.{ending_by}
use Rattle.zq_query.specs.Closing.{closed_with}
use Rattle.zq_query.proofs.queries.close.final_if_last.Goals as goal
use Rattle.zq_key.proofs.Lookups.{at_itself, apart}
use Rattle.zq_key.proofs.Sorted.{has_put}

pub returns-then-open-face : goal.returns-then-open-face
returns-then-open-face c =
    let o = c.in_ok-open.open in
    let q = o.asker.0 in
    let closed : is_closed (closed_with c.args.face c.args.closed.now.keys) q ≡ true =
    has_put nat_cmp_total exact_unsigned q c.args.face c.args.closed.now.keys ∙ ap (λ b. b || is_closed c.args.closed.now.keys q) (ap (is_at (nat_cmp q)) (sym c.if-open-face.true) ∙ at_itself nat_cmp_total exact_unsigned q) in
    sym (ap (option_and_then (ending_by (closed_with c.args.face c.args.closed.now.keys) c.args.number)) (sym c.in_ok-open.ensures)
    ∙ (λ j. cond ((eq-eqb o.pending 1 c.if-open-ne1.false j && eq-eqb o.in_flight 0 c.if-open-ne0.false j) && not (closed j)) (Some (final_at c.args.number o)) None))

pub returns-then-contains : goal.returns-then-contains
returns-then-contains c =
    let o = c.in_ok-open.open in
    let q = o.asker.0 in
    let closed : is_closed (closed_with c.args.face c.args.closed.now.keys) q ≡ true =
    has_put nat_cmp_total exact_unsigned q c.args.face c.args.closed.now.keys ∙ ap (λ b. is_at (nat_cmp q) c.args.face || b) (sym c.if-contains.ensures) ∙ or-true (is_at (nat_cmp q) c.args.face) in
    sym (ap (option_and_then (ending_by (closed_with c.args.face c.args.closed.now.keys) c.args.number)) (sym c.in_ok-open.ensures)
    ∙ (λ j. cond ((eq-eqb o.pending 1 c.if-open-ne1.false j && eq-eqb o.in_flight 0 c.if-open-ne0.false j) && not (closed j)) (Some (final_at c.args.number o)) None))

pub returns : goal.returns
returns c =
    let o = c.in_ok-open.open in
    let q = o.asker.0 in
    let closed : is_closed (closed_with c.args.face c.args.closed.now.keys) q ≡ false =
    has_put nat_cmp_total exact_unsigned q c.args.face c.args.closed.now.keys ∙ (λ j. apart nat_cmp_total exact_unsigned q c.args.face c.if-open-face.false j || sym c.if-contains.ensures j) in
    sym (ap (option_and_then (ending_by (closed_with c.args.face c.args.closed.now.keys) c.args.number)) (sym c.in_ok-open.ensures)
    ∙ (λ j. cond ((eq-eqb o.pending 1 c.if-open-ne1.false j && eq-eqb o.in_flight 0 c.if-open-ne0.false j) && not (closed j)) (Some (final_at c.args.number o)) None))
