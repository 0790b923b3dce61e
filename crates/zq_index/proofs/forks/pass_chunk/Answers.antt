use Rattle.std.proofs.Common.{sym, ap, ◌∙◌, ◌==◌, [], ◌∷◌, eqb}
use Rattle.std.specs.List.{position, starts_with}
use Rattle.zq_index.proofs.ForkLemmas.{left_whole, passed_to, passed_out}
use Rattle.zq_index.proofs.forks.pass_chunk.Goals as goal

pub returns-in-Some : goal.returns-in-Some
returns-in-Some c =
    let left = left_whole c.args.q.now c.args.j in
    passed_to c.args.q.now c.args.j c.in-Some.end c.requires
    (ap (λ u. starts_with eqb u (42 ∷ 42 ∷ [])) (sym left) ∙ sym c.if-starts_with.ensures.value)
    (c.in-Some.ensures ∙ ap (position (λ b. b == 47)) left)

pub returns-in-None : goal.returns-in-None
returns-in-None c =
    let left = left_whole c.args.q.now c.args.j in
    passed_out c.args.q.now c.args.j c.requires
    (ap (λ u. starts_with eqb u (42 ∷ 42 ∷ [])) (sym left) ∙ sym c.if-starts_with.ensures.value)
    (c.in-None.ensures ∙ ap (position (λ b. b == 47)) left)
