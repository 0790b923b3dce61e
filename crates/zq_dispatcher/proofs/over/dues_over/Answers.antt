use Rattle.std.proofs.Common.{◌≡◌, ◌∙◌, [], ℕ, List, ap, subst, arith, IfOk, true≢false, sym, length}
use Rattle.std.specs.Prelude.{◌==◌}
use Rattle.std.specs.List.{flat_map}
use Rattle.std.specs.Option.{option_copied}
use Rattle.std.proofs.lemmas.List.{nil_from_length}
use Rattle.zq_told.specs.declared.types.FaceUpdate.{FaceUpdate}
use Rattle.zq_dispatcher.proofs.Listening.{listeners_give, there}
use Rattle.zq_dispatcher.proofs.Overs.{looked_are, no_keys_over}
use Rattle.zq_dispatcher.proofs.Widened.{first_of, put_in_order}
use Rattle.zq_dispatcher.proofs.over.dues_over.Goals as goal

pub look_at-requires-clause-same : goal.look_at-requires-clause-same
look_at-requires-clause-same c = c.in_ok-touched.ensures ∙ put_in_order c.args.keys.now c.requires.rise

pub returns-then-is_empty : goal.returns-then-is_empty
returns-then-is_empty c core left is =
    let none : c.args.keys.now ≡ [] = nil_from_length c.args.keys.now (grind (arith, c.if-is_empty.ensures)) in
    c.new.ensures ∙ no_keys_over core c.args.interests.now c.args.keys.now none

pub returns : goal.returns
returns c core left is =
    let ints = c.args.interests.now in
    let next = option_copied c.args.next in
    let hats = c.args.hats.now in
    let keys = c.args.keys.now in
    let faces = c.args.faces.now.entries in
    let first = first_of keys (λ none. true≢false (sym (c.is_empty.ensures ∙ ap (λ (ks : List (List ℕ)). length ks == 0) none) ∙ c.if-is_empty.false)) in
    subst (λ (l : List FaceUpdate). IfOk c.look_at.result (λ (ds : List FaceUpdate). ds ≡ l))
    (ap (flat_map (there ints next hats keys c.args.but faces)) c.in_ok-listeners.ensures
    ∙ listeners_give ints next hats keys c.args.but faces c.requires.seated c.len.ensures.ordered
    ∙ looked_are core ints next c.args.but faces hats keys first.key first.rest first.is c.len.ensures.ordered left is)
    c.look_at.ensures
