use Rattle.std.proofs.Common.{◌≡◌, ◌∙◌, refl, ap, sym, Some, Bool, true, false, true≢false}
use Rattle.std.specs.Prelude.{◌&&◌}
use Rattle.std.specs.Option.{is_some}
use Rattle.zq_index.specs.Infos.{joined}
use Rattle.zq_strategy.specs.Merges.{is_other}
use Rattle.zq_strategy.specs.Fellows.{info_but}
use Rattle.zq_strategy.specs.Kept.{at_id, change_face, declare}
use Rattle.zq_strategy.specs.State.{HatState}
use Rattle.zq_hat.proofs.Afterwards.{declared_aside, declared_with}
use Rattle.zq_hat.proofs.hat.Hat.declared_with.Goals as goal
use Rattle.zq_hat.proofs.hat.Hat.declared_with.Goals.{else-is_other-via-then-is_other+else-contains_key, else-is_other-via-else-is_other}

pub returns-then-contains_key : goal.returns-then-contains_key
returns-then-contains_key c =
    let i = c.self.inside in
    let n = c.args.face.0 in
    let key = c.args.key.now in
    c.joined.ensures
    ∙ ap (λ m. joined m (Some c.args.info)) c.merged_but-others.ensures
    ∙ declared_with i.faces.entries i.index c.self.invariant.tied key c.args.but n c.args.id c.args.info (sym c.contains_key.ensures ∙ c.if-contains_key.true) (sym c.is_other.ensures ∙ c.if-is_other.true)
    ∙ ap (λ (s : HatState). info_but c.args.but key (change_face n (declare c.args.id key c.args.info) s)) c.self.view_is

both : (a b : Bool) → b ≡ false → (a && b) ≡ false
both true b e = e
both false b e = refl

either : (a b : Bool) → a ≡ false → (a && b) ≡ false
either true b e = absurd (true≢false e)
either false b e = refl

pub returns-else-is_other : goal.returns-else-is_other
returns-else-is_other c =
    let i = c.self.inside in
    let n = c.args.face.0 in
    let key = c.args.key.now in
    let other = is_other c.args.but n in
    let some = is_some (at_id n i.faces.entries) in
    let aside : (other && some) ≡ false = elim c.else-is_other.branch [
      | else-is_other-via-then-is_other+else-contains_key w ↦ both other some (sym w.contains_key.ensures ∙ w.if-contains_key.false)
      | else-is_other-via-else-is_other w ↦ either other some (sym c.is_other.ensures ∙ w.if-is_other.false)
    ] in
    c.merged_but-others.ensures
    ∙ declared_aside i.faces.entries i.index c.self.invariant.tied key c.args.but n c.args.id c.args.info aside
    ∙ ap (λ (s : HatState). info_but c.args.but key (change_face n (declare c.args.id key c.args.info) s)) c.self.view_is
