use Rattle.std.proofs.Common.{◌∙◌, ap, sym}
use Rattle.std.specs.Prelude.{◌||◌}
use Rattle.std.specs.List.{list_any}
use Rattle.zq_interests.specs.Interests.{interests_of}
use Rattle.zq_dispatcher.specs.Asking.{wants_plainly}
use Rattle.zq_dispatcher.proofs.Plainly.{asking_is}
use Rattle.zq_dispatcher.proofs.asking.asks_among.Goals as goal

pub returns-then-folds : goal.returns-then-folds
returns-then-folds c =
    let face = c.args.face.0 in
    let key = c.args.key.now in
    let ints = c.args.interests.now in
    asking_is face key ints c.has_own-folds.result c.has_own-folds.result (c.has_own-folds.ensures ∙ c.requires.folded)
    (ap (λ b. b || list_any (wants_plainly key) (interests_of face ints)) c.if-folds.true ∙ sym c.if-folds.true)

pub returns-else-folds : goal.returns-else-folds
returns-else-folds c =
    let face = c.args.face.0 in
    let key = c.args.key.now in
    let ints = c.args.interests.now in
    asking_is face key ints c.has_own-folds.result c.face_plainly.result (c.has_own-folds.ensures ∙ c.requires.folded)
    (ap (λ b. b || list_any (wants_plainly key) (interests_of face ints)) c.if-folds.false ∙ sym c.face_plainly.ensures)
