use Rattle.std.proofs.Common.{◌≡◌, ◌∙◌, ◌+◌, ◌++◌, [], List, Option, sym, ap, get_or, take, arith, Err}
use Rattle.std.specs.List.{cons_option}
use Rattle.std.specs.Option.{option_map}
use Rattle.std.proofs.lemmas.List.Sums.{fold_more}
use Rattle.zq_query.specs.declared.records.Timeout.{Timeout}
use Rattle.zq_query.specs.Records.{request}
use Rattle.zq_query.specs.Tables.{Due}
use Rattle.zq_query.specs.Polling.{with_timeout, timeouts_of, timed_out, numbers_in}
use Rattle.zq_query.proofs.TimingOut.{enough_is, too_few, numbers_both, numbers_most}
use Rattle.zq_query.proofs.queries.Queries.timeouts_for.Goals as goal

pub loop-due-preserved : goal.loop-due-preserved
loop-due-preserved c =
    let s = c.args.self.now in
    let ds = c.args.dues.now in
    let i = c.loop-due.due-index in
    let d : Due = get_or ds i (0, 0, 0) in
    let timeout : Option Timeout = c.timeout_of-timeout.result in
    let next = c.loop-due.invariant.next in
    let both = numbers_both c.loop-due.list (cons_option timeout []) in
    let same = ap numbers_in c.in-Ok.ensures.list in
    let after = c.in-Ok.ensures.next in
    let is : timeout ≡ option_map (timed_out s (s.replies + numbers_in (timeouts_of s (take i ds))) d) (request d.1 s.records) =
    c.timeout_of-timeout.ensures ∙ ap (λ n. option_map (timed_out s n d) (request d.1 s.records)) (next ∙ ap (λ (l : List Timeout). s.replies + numbers_in l) c.loop-due.invariant.list) in
    record {
      list = c.in-Ok.ensures.list ∙ (λ j. c.loop-due.invariant.list j ++ cons_option (is j) []) ∙ sym (fold_more (with_timeout s) [] ds i (0, 0, 0) c.loop-due-test.true);
      next = omega (arith, after, next, both, same);
      fits = c.in-Ok.ensures.fits;
    }

pub returns-in-Err-NoFreeId-clause-no_free : goal.returns-in-Err-NoFreeId-clause-no_free
returns-in-Err-NoFreeId-clause-no_free c = λ _.
    let s = c.args.self.now in
    let ds = c.args.dues.now in
    let i = c.loop-due.due-index in
    let d : Due = get_or ds i (0, 0, 0) in
    let timeout : Option Timeout = c.timeout_of-timeout.result in
    let full = c.in-Err-NoFreeId.ensures.no_free (ap (λ e. Err e) c.in-Err-NoFreeId.field-0-is) in
    let next = c.loop-due.invariant.next in
    let both = numbers_both c.loop-due.list (cons_option timeout []) in
    let is : timeout ≡ option_map (timed_out s (s.replies + numbers_in (timeouts_of s (take i ds))) d) (request d.1 s.records) =
    c.timeout_of-timeout.ensures ∙ ap (λ n. option_map (timed_out s n d) (request d.1 s.records)) (next ∙ ap (λ (l : List Timeout). s.replies + numbers_in l) c.loop-due.invariant.list) in
    let step : c.loop-due.list ++ cons_option timeout [] ≡ timeouts_of s (take (i + 1) ds) = (λ j. c.loop-due.invariant.list j ++ cons_option (is j) []) ∙ sym (fold_more (with_timeout s) [] ds i (0, 0, 0) c.loop-due-test.true) in
    let same = ap numbers_in step in
    let most = numbers_most s ds (i + 1) in
    too_few (timeouts_of s ds) s (omega (arith, full, next, both, same, most))

pub returns-clause-fits : goal.returns-clause-fits
returns-clause-fits c = let next = c.loop-due.invariant.next in let fits = c.loop-due.invariant.fits in enough_is c.loop-due.list c.args.self.now (omega (arith, next, fits))
