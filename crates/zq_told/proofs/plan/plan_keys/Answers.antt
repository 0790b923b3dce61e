use Rattle.std.proofs.Common.{◌≡◌, ◌≤◌, ◌^◌, subst, fold, get_or, List, []}
use Rattle.zq_told.specs.declared.plan.Account.{Account}
use Rattle.zq_told.specs.Telling.{KeyDue, tell_key}
use Rattle.zq_told.proofs.Reaching.{err_moves, last_rises, reaches}
use Rattle.zq_told.proofs.plan.plan_keys.Goals as goal

pub returns-in-Err-clause-no_free : goal.returns-in-Err-clause-no_free
returns-in-Err-clause-no_free c h =
    let f = tell_key c.args.way c.args.face.0 c.args.book.now.shelf.told in
    let P = λ (a : Account). 2 ^ 32 ≤ a.last in
    let k : KeyDue = c.key-item.result in
    let keys : List KeyDue = c.args.keys.now in
    let first : Account = record { last = c.last.result; rows = c.new.result; tellings = c.args.before } in
    let start : first ≡ record { last = c.args.book.now.last; rows = []; tellings = c.args.before } = λ j. record { last = c.last.ensures j; rows = c.new.ensures j; tellings = c.args.before } in
    subst (λ a. P (fold f a keys)) start
    (reaches f P (last_rises c.args.way c.args.face.0 c.args.book.now.shelf.told (2 ^ 32)) keys first c.loop-key.key-index k c.loop-key-test.true
    (subst (λ x. P (f x (get_or keys c.loop-key.key-index k))) c.loop-key.invariant (subst (λ e. P (f c.loop-key.account e)) c.key-item.is (c.in-Err.ensures.no_free (err_moves Account (Unit {0}) c.in-Err.refusal h)))))
