use Rattle.std.proofs.Common.{◌++◌, ℕ, List, length, take, drop, sym, ap, ◌∙◌, arith}
use Rattle.std.proofs.lemmas.List.{take-append-drop, length-take-le}
use Rattle.zq_names.specs.Texts.{text_cmp}
use Rattle.zq_names.proofs.Joined.{cmp-shorter, cmp-joined}
use Rattle.zq_names.proofs.order.compare_joined.Goals as goal

pub returns-then-text-head : goal.returns-then-text-head
returns-then-text-head c = c.cmp.ensures ∙ sym (cmp-shorter c.args.text.now c.args.head.now c.args.tail.now (omega arith))

pub returns : goal.returns
returns c =
    let t = c.args.text.now in
    let h = c.args.head.now in
    let u = c.args.tail.now in
    let front = take (length h) t in
    let rest = drop (length h) t in
    let one = length-take-le (length h) t (omega arith) in
    c.then.ensures
    ∙ rw (c.cmp-2.ensures, c.cmp-3.ensures, c.split_at.ensures.front, c.split_at.ensures.back) (sym (cmp-joined front rest h u one))
    ∙ ap (λ (x : List ℕ). text_cmp x (h ++ u)) (take-append-drop (length h) t)
