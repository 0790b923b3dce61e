use Rattle.std.proofs.Common.{◌≡◌, ◌∙◌, sym, ap, subst, ◌++◌, ◌∷◌, [], take}
use Rattle.std.specs.Prelude.{IfOk}
use Rattle.std.specs.String.{string_bytes}
use Rattle.std.specs.declared.cmp.Ordering.TheVariants.{Less}
use Rattle.zq_index.specs.Skipping.{Skips, SkipsListed, SkipsUnmixed, StepIs}
use Rattle.zq_index.specs.Texts.{text_cmp, NoneBetween}
use Rattle.zq_index.proofs.Skipping.{clear_of, clear_to, fork_skipped}
use Rattle.zq_index.proofs.search.beyond.Goals as goal

pub returns-then-not-branch : goal.returns-then-not-branch
returns-then-not-branch c =
    let lists = c.args.lists.now in
    let key = string_bytes c.args.key.now in
    let q = c.args.q.now in
    let p = c.args.parting in
    let text = c.as_str-text.ensures.value in
    let skips : Skips q key (take p.at key ++ c.args.next ∷ []) = fork_skipped key q p.at p.wanted c.requires.fork c.args.next c.requires.next in
    subst (λ t. IfOk c.to_byte.result (StepIs lists q t (string_bytes c.to_byte.new.bound))) text
    (c.to_byte.ensures lists q (subst (λ t. Skips q t (take p.at t ++ c.args.next ∷ [])) (sym text) skips))

pub returns-in_ok-step-in-Some : goal.returns-in_ok-step-in-Some
returns-in_ok-step-in-Some c =
    let lists = c.args.lists.now in
    let key = string_bytes c.args.key.now in
    let q = c.args.q.now in
    let p = c.args.parting in
    let text = c.as_str-text.ensures.value in
    let bound = string_bytes c.after_chunk.new.bound in
    let first = string_bytes c.in-Some.first.now in
    let byte : Skips q key (take p.at key ++ c.args.next ∷ []) = fork_skipped key q p.at p.wanted c.requires.fork c.args.next c.requires.next in
    let step : StepIs lists q key (string_bytes c.to_character.new.bound) c.in_ok-step-in-Some.step =
    subst (λ t. StepIs lists q t (string_bytes c.to_character.new.bound) c.in_ok-step-in-Some.step) text
    (c.in_ok-step-in-Some.ensures lists q (subst (λ t. Skips q t (take p.at t ++ c.args.next ∷ [])) (sym text) byte)) in
    let skips : SkipsUnmixed q key bound = subst (λ t. SkipsUnmixed q t bound) (c.as_bytes.ensures.value ∙ text) (c.in_ok-after_chunk.ensures c.if-not-branch.false) in
    let before : text_cmp first bound ≡ Less = ap (text_cmp first) (sym c.as_str.ensures.value) ∙ c.in-Some.ensures.1 in
    c.farther.ensures lists q key step
    (subst (SkipsListed lists q key) (sym c.as_str-in-Some.ensures.value) (clear_to lists q key bound first p.at p.wanted c.requires.fork skips c.in-Some.ensures.0 before))

pub returns-in-None : goal.returns-in-None
returns-in-None c =
    let lists = c.args.lists.now in
    let key = string_bytes c.args.key.now in
    let q = c.args.q.now in
    let p = c.args.parting in
    let bound = string_bytes c.after_chunk.new.bound in
    let skips : SkipsUnmixed q key bound = subst (λ t. SkipsUnmixed q t bound) (c.as_bytes.ensures.value ∙ c.as_str-text.ensures.value) (c.in_ok-after_chunk.ensures c.if-not-branch.false) in
    clear_of lists q key bound p.at p.wanted c.requires.fork skips (subst (NoneBetween lists.1 key) c.as_str.ensures.value c.in-None.ensures)
