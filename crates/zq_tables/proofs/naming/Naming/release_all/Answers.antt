use Rattle.std.proofs.Common.{◌≡◌, ◌∙◌, ◌<◌, [], length, ap, sym, subst}
use Rattle.zq_tables.specs.Holding.{held_keys, with_keys, without_key, without_keys}
use Rattle.zq_tables.specs.Naming.{NamingState, face_keys}
use Rattle.zq_tables.proofs.Emptied.{changed, changed_more, changed_idle, fewer}
use Rattle.zq_tables.proofs.Holders.{with_own, with_twice}
use Rattle.zq_tables.proofs.naming.Naming.release_all.Goals as goal

pub loop-id-smaller : goal.loop-id-smaller
loop-id-smaller c =
    let face = c.args.face.0 in
    let h = c.args.holder in
    let L : NamingState → Type 0 = λ (s : NamingState). length (held_keys h (face_keys face s)) < length (held_keys h (face_keys face c.loop-id.self)) in
    subst L (sym c.release.ensures) (fewer h c.in-Some.id c.loop-id.self face c.in-Some.ensures.first)

pub loop-id-preserved : goal.loop-id-preserved
loop-id-preserved c =
    let face = c.args.face.0 in
    let h = c.args.holder in
    ap (changed face (without_keys h)) c.release.ensures ∙ changed_more face (without_keys h) c.loop-id.self (without_key h c.in-Some.id) (λ n. with_twice h n _ []) ∙ c.loop-id.invariant

pub returns : goal.returns
returns c =
    let face = c.args.face.0 in
    let h = c.args.holder in
    let n = face_keys face c.loop-id.self in
    let none : without_keys h n ≡ n = ap (with_keys h n) (sym c.in_default.ensures.none) ∙ with_own h n in
    sym (changed_idle face (without_keys h) c.loop-id.self none) ∙ c.loop-id.invariant
